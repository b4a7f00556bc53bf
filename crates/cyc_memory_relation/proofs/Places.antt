-- This file is about the offsets of an object's cells: they increase, the cells are disjoint, and they are within the object's bytes.
use Rattle.std.proofs.Common.{◌≡◌, ℕ, zero, suc, ◌+◌, ◌*◌, ◌%◌, ◌<◌, ◌≤◌, max, List, [], ◌∷◌, ◌++◌, length, Some, None, refl, sym, ap, subst, ◌∙◌, inl, inr, arith, add-zero}
use Rattle.std.specs.Prelude.{slice_get}
use Rattle.std.proofs.lemmas.Bool.{cases_lt}
use Rattle.cyc_words.proofs.Options.{same_from_some}
use Rattle.cyc_words.proofs.Lists.{slice_get_below}
use Rattle.cyc_types.specs.declared.typed.Kind.{Kind}
use Rattle.cyc_types.specs.declared.typed.Kind.TheVariants as kinds
use Rattle.cyc_meaning.specs.Values.{Cell, kinds_of, bytes_of_kind, begins, following, bytes_from, words_for, block_size}
use Rattle.cyc_meaning.specs.Allocation.{blanks}
use Rattle.cyc_memory_relation.specs.inside.Words.{bytes_of_kinds, before_from, before}

-- ---- one cell

pub bytes-some : (kind : Kind) → 0 < bytes_of_kind kind
bytes-some kinds.Int = omega arith
bytes-some kinds.Char = omega arith
bytes-some kinds.Nullable = omega arith
bytes-some kinds.NonNull = omega arith
bytes-some kinds.Fat = omega arith
bytes-some kinds.Handle = omega arith
bytes-some kinds.Key = omega arith

pub begins-least : (kind : Kind) (at : ℕ) → at ≤ begins kind at
begins-least kinds.Int at = omega arith
begins-least kinds.Char at = omega arith
begins-least kinds.Nullable at = omega arith
begins-least kinds.NonNull at = omega arith
begins-least kinds.Fat at = omega arith
begins-least kinds.Handle at = omega arith
begins-least kinds.Key at = omega arith

-- the first cell of an object has the offset 0
pub begins-first : (kind : Kind) → begins kind 0 ≡ 0
begins-first kinds.Int = refl
begins-first kinds.Char = refl
begins-first kinds.Nullable = refl
begins-first kinds.NonNull = refl
begins-first kinds.Fat = refl
begins-first kinds.Handle = refl
begins-first kinds.Key = refl

-- an offset at which a cell begins is aligned as the cell's representation kind (int, char, pointer, ..) requires
pub begins-twice : (kind : Kind) (at : ℕ) → begins kind (begins kind at) ≡ begins kind at
begins-twice kinds.Int at = omega arith
begins-twice kinds.Char at = refl
begins-twice kinds.Nullable at = omega arith
begins-twice kinds.NonNull at = omega arith
begins-twice kinds.Fat at = omega arith
begins-twice kinds.Handle at = omega arith
begins-twice kinds.Key at = omega arith

-- After a cell of a representation kind (int, char, pointer, ..), the next cell of the same kind begins without padding.
pub begins-following : (kind : Kind) (at : ℕ) → begins kind (following kind at) ≡ following kind at
begins-following kinds.Int at = omega arith
begins-following kinds.Char at = refl
begins-following kinds.Nullable at = omega arith
begins-following kinds.NonNull at = omega arith
begins-following kinds.Fat at = omega arith
begins-following kinds.Handle at = omega arith
begins-following kinds.Key at = omega arith

begins-step : (kind : Kind) (at : ℕ) → begins kind at ≡ at → begins kind (at + bytes_of_kind kind) ≡ at + bytes_of_kind kind
begins-step kind at even =
    ap (λ z. begins kind (z + bytes_of_kind kind)) (sym even) ∙ (begins-following kind at ∙ ap (λ z. z + bytes_of_kind kind) even)

-- Says that an address is aligned for a representation kind (int, char, pointer, ..); a char may be at any address.
abbrev pub IsAligned : Kind → (address : ℕ) → Type 0
IsAligned kinds.Int address = address % 4 ≡ 0
IsAligned kinds.Char address = Unit {0}
IsAligned kinds.Nullable address = address % 4 ≡ 0
IsAligned kinds.NonNull address = address % 4 ≡ 0
IsAligned kinds.Fat address = address % 4 ≡ 0
IsAligned kinds.Handle address = address % 4 ≡ 0
IsAligned kinds.Key address = address % 4 ≡ 0

pub begins-aligned : (kind : Kind) (a at : ℕ) → a % 4 ≡ 0 → IsAligned kind (a + begins kind at)
begins-aligned kinds.Int a at even = omega (arith, even)
begins-aligned kinds.Char a at even = tt
begins-aligned kinds.Nullable a at even = omega (arith, even)
begins-aligned kinds.NonNull a at even = omega (arith, even)
begins-aligned kinds.Fat a at even = omega (arith, even)
begins-aligned kinds.Handle a at even = omega (arith, even)
begins-aligned kinds.Key a at even = omega (arith, even)

-- ---- several cells

pub bytes-least : (at : ℕ) (ks : List Kind) → at ≤ bytes_from at ks
bytes-least at [] = omega arith
bytes-least at (kind ∷ ks) = omega (arith, begins-least kind at, bytes-least (following kind at) ks)

pub before-least : (at k : ℕ) (ks : List Kind) → at ≤ before_from at k ks
before-least at k [] = omega arith
before-least at zero (kind ∷ ks) = begins-least kind at
before-least at (suc k) (kind ∷ ks) = omega (arith, begins-least kind at, before-least (following kind at) k ks)

-- Each cell ends before the end of its object.
pub before-inside : (at k : ℕ) (ks : List Kind) (kind : Kind) → slice_get ks k ≡ Some kind → before_from at k ks + bytes_of_kind kind ≤ bytes_from at ks
before-inside at k [] kind found = absurd (let e : None ≡ Some kind = found in cc)
before-inside at zero (a ∷ ks) kind found =
    let bytes : bytes_of_kind a ≡ bytes_of_kind kind = ap bytes_of_kind (same_from_some found) in
    omega (arith, bytes, bytes-least (following a at) ks)
before-inside at (suc k) (a ∷ ks) kind found = before-inside (following a at) k ks kind found

pub before-all : (at k : ℕ) (ks : List Kind) → before_from at k ks ≤ bytes_from at ks
before-all at k [] = omega arith
before-all at zero (kind ∷ ks) = omega (arith, bytes-least (following kind at) ks)
before-all at (suc k) (kind ∷ ks) = before-all (following kind at) k ks

-- A later cell of an object begins after the end of an earlier cell.
pub before-more : (at k l : ℕ) (ks : List Kind) (kind : Kind) → slice_get ks k ≡ Some kind → k < l → before_from at k ks + bytes_of_kind kind ≤ before_from at l ks
before-more at k l [] kind found less = absurd (let e : None ≡ Some kind = found in cc)
before-more at k zero (a ∷ ks) kind found less = absurd (omega (arith, less))
before-more at zero (suc l) (a ∷ ks) kind found less =
    let bytes : bytes_of_kind a ≡ bytes_of_kind kind = ap bytes_of_kind (same_from_some found) in
    omega (arith, bytes, before-least (following a at) l ks)
before-more at (suc k) (suc l) (a ∷ ks) kind found less = before-more (following a at) k l ks kind found (omega (arith, less))

-- No two cells of an object have the same offset.
pub one-place : (ks : List Kind) (k l : ℕ) → k < length ks → l < length ks → before k ks ≡ before l ks → k ≡ l
one-place ks k l first second same =
    let (a, here) = slice_get_below ks k first in
    let (b, there) = slice_get_below ks l second in
    elim (cases_lt k l) [
      | inl less ↦ absurd (omega (arith, same, before-more 0 k l ks a here less, bytes-some a))
      | inr least ↦ elim (cases_lt l k) [
        | inl more ↦ absurd (omega (arith, same, before-more 0 l k ks b there more, bytes-some b))
        | inr most ↦ omega (arith, least, most)
      ]
    ]

-- The next cell begins at the first offset after this cell that is aligned for the next cell's representation kind (int, char, pointer,
-- ..).
pub before-next : (at k : ℕ) (ks : List Kind) (a b : Kind) → slice_get ks k ≡ Some a → slice_get ks (suc k) ≡ Some b
    → before_from at (suc k) ks ≡ begins b (before_from at k ks + bytes_of_kind a)
before-next at k [] a b first second = absurd (let e : None ≡ Some a = first in cc)
before-next at zero (c ∷ []) a b first second = absurd (let e : None ≡ Some b = second in cc)
before-next at zero (c ∷ d ∷ ks) a b first second =
    ap (λ z. begins z (following c at)) (same_from_some second) ∙ ap (λ z. begins b (begins c at + bytes_of_kind z)) (same_from_some first)
before-next at (suc k) (c ∷ ks) a b first second = before-next (following c at) k ks a b first second

-- Each cell begins at an offset that is aligned for its representation kind (int, char, pointer, ..).
pub before-begins : (at k : ℕ) (ks : List Kind) (kind : Kind) → slice_get ks k ≡ Some kind → begins kind (before_from at k ks) ≡ before_from at k ks
before-begins at k [] kind found = absurd (let e : None ≡ Some kind = found in cc)
before-begins at zero (a ∷ ks) kind found = subst (λ z. begins z (begins a at) ≡ begins a at) (same_from_some found) (begins-twice a at)
before-begins at (suc k) (a ∷ ks) kind found = before-begins (following a at) k ks kind found

pub before-aligned : (a k : ℕ) (ks : List Kind) (kind : Kind) → a % 4 ≡ 0 → slice_get ks k ≡ Some kind → IsAligned kind (a + before k ks)
before-aligned a k ks kind even found =
    subst (λ n. IsAligned kind (a + n)) (before-begins 0 k ks kind found) (begins-aligned kind a (before k ks) even)

pub before-first : (ks : List Kind) → before 0 ks ≡ 0
before-first [] = refl
before-first (kind ∷ ks) = begins-first kind

-- The offsets of consecutive cells of one representation kind (int, char, pointer, ..) differ by the bytes of one cell.
pub before-part : (ks : List Kind) (kind : Kind) (start i : ℕ) → ((j : ℕ) → j ≤ i → slice_get ks (start + j) ≡ Some kind)
    → before (start + i) ks ≡ before start ks + i * bytes_of_kind kind
before-part ks kind start zero even = ap (λ n. before n ks) (add-zero start) ∙ none (before start ks) (bytes_of_kind kind)
  where
    none : (m n : ℕ) → m ≡ m + 0 * n
    none m n = omega arith
before-part ks kind start (suc i) even =
    let here : slice_get ks (start + i) ≡ Some kind = even i (omega arith) in
    let there : slice_get ks (suc (start + i)) ≡ Some kind = ap (slice_get ks) (sym (next start i)) ∙ even (suc i) (omega arith) in
    ap (λ n. before n ks) (next start i)
    ∙ (before-next 0 (start + i) ks kind kind here there
    ∙ (begins-step kind (before (start + i) ks) (before-begins 0 (start + i) ks kind here)
    ∙ (ap (λ n. n + bytes_of_kind kind) (before-part ks kind start i (λ j less. even j (omega (arith, less))))
    ∙ more (before start ks) i (bytes_of_kind kind))))
  where
    next : (m n : ℕ) → m + suc n ≡ suc (m + n)
    next m n = omega arith

    more : (m n d : ℕ) → m + n * d + d ≡ m + suc n * d
    more m n d = omega arith

-- ---- consecutive groups of cells

pub before-joined : (at : ℕ) (done rest : List Kind) (kind : Kind) → before_from at (length done) (done ++ kind ∷ rest) ≡ begins kind (bytes_from at done)
before-joined at [] rest kind = refl
before-joined at (a ∷ done) rest kind = before-joined (following a at) done rest kind

pub bytes-joined : (at : ℕ) (done rest : List Kind) → bytes_from at (done ++ rest) ≡ bytes_from (bytes_from at done) rest
bytes-joined at [] rest = refl
bytes-joined at (a ∷ done) rest = bytes-joined (following a at) done rest

-- ---- blocks

-- The block of an object is large enough for all cells of the object.
pub size-enough : (cells : List Cell) → bytes_of_kinds (kinds_of cells) ≤ 4 * block_size cells
size-enough cells = omega arith

-- ---- arrays

-- The cells of an array follow each other without padding.
pub blanks-bytes : (at count : ℕ) (kind : Kind) → begins kind at ≡ at → bytes_from at (kinds_of (blanks count kind)) ≡ at + count * bytes_of_kind kind
blanks-bytes at zero kind even = omega arith
blanks-bytes at (suc count) kind even =
    let rest : bytes_from (following kind at) (kinds_of (blanks count kind)) ≡ following kind at + count * bytes_of_kind kind =
    blanks-bytes (following kind at) count kind (begins-following kind at) in
    rest ∙ next (begins kind at) at (bytes_of_kind kind) count even
  where
    next : (here at bytes count : ℕ) → here ≡ at → here + bytes + count * bytes ≡ at + suc count * bytes
    next here at bytes count even = omega (arith, even)

pub blanks-size : (count : ℕ) (kind : Kind) → block_size (blanks count kind) ≡ max 1 (words_for (count * bytes_of_kind kind))
blanks-size count kind = ap (λ n. max 1 (words_for n)) (blanks-bytes 0 count kind (begins-first kind) ∙ none (count * bytes_of_kind kind))
  where
    none : (n : ℕ) → 0 + n ≡ n
    none n = omega arith
