-- Lemmas about a list that is the concatenation of one piece (a short list) for each instruction of a
-- code. The lemmas are also about the index in the list at which each piece begins.
use Rattle.std.proofs.Common.{◌≡◌, ℕ, zero, suc, ◌+◌, ◌<◌, ◌≤◌, List, [], ◌∷◌, ◌++◌, length, replicate, Some, None, slice_get, refl, sym, ap, subst, ◌∙◌, arith, length-append}
use Rattle.std.specs.List.{AllByRecursion}
use Rattle.cyc_words.proofs.Lists.{all_append}
use Rattle.cyc_words.proofs.Items.{slice_get_front, slice_get_back, slice_get_replicate}
use Rattle.cyc_plain.specs.declared.instruction.Instruction.{Instruction}
use Rattle.cyc_plain.specs.inside.Straight.{At, HasAt}
use Rattle.cyc_inline.specs.declared.origin.Origin.{Origin}
use Rattle.cyc_inline.specs.inside.Opened.{AreMadeOf}

-- ---- sublists at an index

-- Says that the list `part` occurs as consecutive elements in the list `all` from index `at` on.
abbrev pub StandsAt : {A : Type 0} → (all part : List A) → (at : ℕ) → Type 0
StandsAt {A} all part at = (k : ℕ) (x : A) → slice_get part k ≡ Some x → slice_get all (at + k) ≡ Some x

pub stands_whole : {A : Type 0} (all : List A) → StandsAt all all 0
stands_whole all k x is = ap (slice_get all) (let e : 0 + k ≡ k = omega arith in e) ∙ is

pub stands_at_front : {A : Type 0} (all front back : List A) (at : ℕ) → StandsAt all (front ++ back) at → StandsAt all front at
stands_at_front all front back at stands k x is = stands k x (slice_get_front front back k x is)

pub stands_at_back : {A : Type 0} (all front back : List A) (at : ℕ) → StandsAt all (front ++ back) at → StandsAt all back (at + length front)
stands_at_back all front back at stands k x is =
    let same : at + length front + k ≡ at + (length front + k) = omega arith in
    ap (slice_get all) same ∙ stands (length front + k) x (slice_get_back front back k ∙ is)

-- If one list occurs in another at an index, and a prefix is added to the other, then it occurs at this index plus the prefix's length.
stands_at_after : {A : Type 0} (front all part : List A) (at : ℕ) → StandsAt all part at → StandsAt (front ++ all) part (length front + at)
stands_at_after front all part at stands k x is =
    let same : length front + at + k ≡ length front + (at + k) = omega arith in
    ap (slice_get (front ++ all)) same ∙ slice_get_back front all (at + k) ∙ stands k x is

stands_before : {A : Type 0} (all back part : List A) (at : ℕ) → StandsAt all part at → StandsAt (all ++ back) part at
stands_before all back part at stands k x is = slice_get_front all back (at + k) x (stands k x is)

-- If one list occurs within a second list, and the second within a third, then the first list occurs within the third.
pub stands_within : {A : Type 0} (all part smaller : List A) (at inner : ℕ) → StandsAt all part at → StandsAt part smaller inner → StandsAt all smaller (at + inner)
stands_within all part smaller at inner outer stands k x is =
    let same : at + inner + k ≡ at + (inner + k) = omega arith in
    ap (slice_get all) same ∙ outer (inner + k) x (stands k x is)

pub has_at : (code is : List Instruction) (at : ℕ) → StandsAt code is at → HasAt code at is
has_at code [] at stands = tt
has_at code (i ∷ is) at stands =
    let here : at + 0 ≡ at = omega arith in (
      ap (slice_get code) (sym here) ∙ stands 0 i refl,
      has_at code is (at + 1) (λ k x there.
          let same : at + 1 + k ≡ at + suc k = omega arith in ap (slice_get code) same ∙ stands (suc k) x there),
    )

pub made_of : (origins : List Origin) (from count : ℕ) (origin : Origin) → StandsAt origins (replicate count origin) from → AreMadeOf origins from count origin
made_of origins from count origin stands k below = stands k origin (slice_get_replicate count origin k below)

-- ---- one piece for each instruction

-- The concatenation of the lists that `piece` returns for the instructions of a code; the first instruction has index `first`.
abbrev pub pieces : {A : Type 0} → (piece : ℕ → Instruction → List A) → (first : ℕ) → List Instruction → List A
pieces piece first [] = []
pieces piece first (i ∷ code) = piece first i ++ pieces piece (suc first) code

-- The total length of the lists (pieces) that the first `k` instructions of a code contribute to the concatenated list.
abbrev pub offset : (count : ℕ → Instruction → ℕ) → (first : ℕ) → List Instruction → (k : ℕ) → ℕ
offset count first [] k = 0
offset count first (i ∷ code) zero = 0
offset count first (i ∷ code) (suc k) = count first i + offset count (suc first) code k

pub offset_next : (count : ℕ → Instruction → ℕ) (first : ℕ) (code : List Instruction) (k : ℕ) (i : Instruction) → At code k i
    → offset count first code (k + 1) ≡ offset count first code k + count (first + k) i
offset_next count first [] k i at = absurd (let e : None ≡ Some i = at in cc)
offset_next count first (j ∷ code) zero i at =
    let same : j ≡ i = (let e : Some j ≡ Some i = at in cc) in
    let none : offset count (suc first) code 0 ≡ 0 = offset_none count (suc first) code in
    let here : count first j ≡ count (first + 0) i = (let e : first ≡ first + 0 = omega arith in ap (count first) same ∙ ap (λ (n : ℕ). count n i) e) in
    omega (arith, none, here)
  where
    offset_none : (count : ℕ → Instruction → ℕ) (first : ℕ) (code : List Instruction) → offset count first code 0 ≡ 0
    offset_none count first [] = refl
    offset_none count first (i ∷ code) = refl
offset_next count first (j ∷ code) (suc k) i at =
    let next : suc k + 1 ≡ suc (k + 1) = omega arith in
    let there : count (suc first + k) i ≡ count (first + suc k) i = ap (λ (n : ℕ). count n i) (let e : suc first + k ≡ first + suc k = omega arith in e) in
    let all : offset count first (j ∷ code) (suc k + 1) ≡ count first j + offset count (suc first) code (k + 1) = ap (offset count first (j ∷ code)) next in
    omega (arith, all, offset_next count (suc first) code k i at, there)

module _ {A : Type 0} (piece : ℕ → Instruction → List A) (count : ℕ → Instruction → ℕ) (long : (k : ℕ) (i : Instruction) → length (piece k i) ≡ count k i) where
  -- The piece (list) that an instruction contributes occurs in the concatenation directly after the pieces of all earlier instructions.
  pub piece_stands : (first : ℕ) (code : List Instruction) (k : ℕ) (i : Instruction) → At code k i → StandsAt (pieces piece first code) (piece (first + k) i) (offset count first code k)
  piece_stands first [] k i at = absurd (let e : None ≡ Some i = at in cc)
  piece_stands first (j ∷ code) zero i at =
      let same : piece first j ≡ piece (first + 0) i =
      (let e : first ≡ first + 0 = omega arith in ap (piece first) (let s : Some j ≡ Some i = at in let t : j ≡ i = cc in t) ∙ ap (λ (n : ℕ). piece n i) e) in
      subst (λ (part : List A). StandsAt (piece first j ++ pieces piece (suc first) code) part 0) same
      (stands_before (piece first j) (pieces piece (suc first) code) (piece first j) 0 (stands_whole (piece first j)))
  piece_stands first (j ∷ code) (suc k) i at =
      let same : suc first + k ≡ first + suc k = omega arith in
      let there = stands_at_after (piece first j) (pieces piece (suc first) code) (piece (suc first + k) i) (offset count (suc first) code k) (piece_stands (suc first) code k i at) in
      subst (λ (n : ℕ). StandsAt (piece first j ++ pieces piece (suc first) code) (piece n i) (count first j + offset count (suc first) code k)) same
      (subst (λ (n : ℕ). StandsAt (piece first j ++ pieces piece (suc first) code) (piece (suc first + k) i) (n + offset count (suc first) code k)) (long first j) there)

  pub pieces_long : (first : ℕ) (code : List Instruction) → length (pieces piece first code) ≡ offset count first code (length code)
  pieces_long first [] = refl
  pieces_long first (i ∷ code) = omega (arith, length-append (piece first i) (pieces piece (suc first) code), long first i, pieces_long (suc first) code)

-- If a property holds for the elements of the piece (list) that each instruction contributes, it holds for
-- all elements of the concatenated pieces.
pub all_pieces : {A : Type 0} (P : A → Type 0) (piece : ℕ → Instruction → List A) (first : ℕ) (code : List Instruction)
    → ((k : ℕ) (i : Instruction) → At code k i → AllByRecursion P (piece (first + k) i)) → AllByRecursion P (pieces piece first code)
all_pieces P piece first [] each = tt
all_pieces {A} P piece first (i ∷ code) each =
    all_append P (piece first i) (pieces piece (suc first) code)
    (let e : first + 0 ≡ first = omega arith in subst (λ (n : ℕ). AllByRecursion P (piece n i)) e (each 0 i refl))
    (all_pieces P piece (suc first) code (λ k j at.
    let e : first + suc k ≡ suc first + k = omega arith in subst (λ (n : ℕ). AllByRecursion P (piece n j)) e (each (suc k) j at)))

-- ---- bounds of offsets

pub offset_most : (count : ℕ → Instruction → ℕ) (first : ℕ) (code : List Instruction) (k : ℕ) → offset count first code k ≤ offset count first code (length code)
offset_most count first [] k = omega arith
offset_most count first (i ∷ code) zero = omega arith
offset_most count first (i ∷ code) (suc k) = omega (arith, offset_most count (suc first) code k)

-- The index at which an instruction's piece begins in the concatenation is below the total length,
-- because each instruction contributes at least one element.
pub offset_below : (count : ℕ → Instruction → ℕ) → ((k : ℕ) (i : Instruction) → 1 ≤ count k i) → (first : ℕ) (code : List Instruction) (k : ℕ) → k < length code
    → offset count first code k < offset count first code (length code)
offset_below count some first [] k below = absurd (omega (arith, below))
offset_below count some first (i ∷ code) zero below = omega (arith, some first i)
offset_below count some first (i ∷ code) (suc k) below = omega (arith, offset_below count some (suc first) code k (omega (arith, below)))
