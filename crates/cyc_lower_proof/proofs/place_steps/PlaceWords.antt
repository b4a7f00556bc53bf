-- This file is about the words of a cell that a pointer reaches. The code computes the address of the cell without overflow, and each
-- word of a cell that is found exists. The file uses only tables of objects and words.
use Rattle.std.proofs.Common.{◌≡◌, ℕ, zero, suc, ◌+◌, ◌*◌, ◌%◌, ◌<◌, ◌≤◌, List, [], ◌∷◌, length, map, Option, Some, None, refl, sym, ap, subst, ◌∙◌, arith, add-zero, inl, inr}
use Rattle.std.specs.Prelude.{◌≢◌, ◌==◌, if◌then◌else◌, slice_get}
use Rattle.std.proofs.lemmas.Bool.{cases_eq}
use Rattle.cyc_words.specs.Word.{IsWord, add_of, mul_of, shl_of}
use Rattle.cyc_words.proofs.Numbers.{when_equal, remainder_of_word}
use Rattle.cyc_words.proofs.Options.{never_none_and_some}
use Rattle.cyc_words.proofs.Items.{slice_get-map}
use Rattle.cyc_types.specs.declared.typed.Kind.{Kind}
use Rattle.cyc_types.specs.declared.typed.Kind.TheVariants as kinds
use Rattle.cyc_types.specs.Types.{Ty}
use Rattle.cyc_store.specs.State.{Memory, put, AreWords, StoreState, homes, Holder, holder, word_in, word_at}
use Rattle.cyc_store.proofs.LookupLemmas.{when_other}
use Rattle.cyc_store.proofs.WordLemmas.{words-put}
use Rattle.cyc_meaning.specs.Values.{Value, words_of_kind, bytes_of_kind, begins, following, Cell, kind_of, kinds_of}
use Rattle.cyc_meaning.specs.State.{Object, World, Found, Located, cell_at}
use Rattle.cyc_meaning.proofs.WorldLaws.{cell_found}
use Rattle.cyc_memory_relation.specs.inside.Tables.{Tables}
use Rattle.cyc_memory_relation.specs.inside.Words.{bytes_of_kinds, before_from, before, words_from, Points, IsPartOf, Is}
use Rattle.cyc_memory_relation.proofs.Places.{before-least, before-inside}
use Rattle.cyc_memory_relation.proofs.Values.{Is-same}
use Rattle.cyc_memory_relation.specs.inside.Related.{Related}
use Rattle.cyc_lower_proof.specs.inside.Slots.{begins_word, field_from}
use Rattle.cyc_lower_proof.proofs.slots.CellBytes.{kind_bytes, last_low, begins_is}
use Rattle.cyc_memory_relation.proofs.Pointers.{thinned, member-points, pointer-word}
use Rattle.cyc_plain.proofs.MemoryLaws.{store_word_in, store_word}
use Rattle.cyc_plain.specs.inside.Memory.{Range, OfGlobals, OfStore, OfSlots, range_of}

-- ---- arithmetic without overflow

pub add_is : (a b : ℕ) → a + b < 4294967296 → add_of a b ≡ a + b
add_is a b below = remainder_of_word (a + b) below

-- The index of a cell of four bytes is multiplied by a shift, and the index of a cell of twelve bytes by a multiplication.
pub shifted_is : (i : ℕ) → 4 * i < 4294967296 → shl_of i 2 ≡ i * 4
shifted_is i below = remainder_of_word (i * 4) (omega (arith, below))

pub multiplied_is : (i : ℕ) → 12 * i < 4294967296 → mul_of i 12 ≡ i * 12
multiplied_is i below = remainder_of_word (i * 12) (omega (arith, below))

-- The offset of a field in bytes equals the offset of the field's cell, if this offset fits in a 32-bit word.
field_before : (ts : List Ty) (field bytes : ℕ) → before_from bytes field (map kind_of ts) < 4294967296 → field_from bytes ts field ≡ before_from bytes field (map kind_of ts)
field_before [] field bytes below = refl
field_before (t ∷ ts) zero bytes below = begins_is (kind_of t) bytes below
field_before (t ∷ ts) (suc field) bytes below =
    let least = before-least (following (kind_of t) bytes) field (map kind_of ts) in
    let first = begins_is (kind_of t) bytes (omega (arith, below, least)) in
    let next : add_of (begins_word (kind_of t) bytes) (bytes_of_kind (kind_of t)) ≡ following (kind_of t) bytes
    = ap (λ (n : ℕ). add_of n (bytes_of_kind (kind_of t))) first ∙ add_is (begins (kind_of t) bytes) (bytes_of_kind (kind_of t)) (omega (arith, below, least)) in
    ap (λ (n : ℕ). field_from n ts field) next ∙ field_before ts field (following (kind_of t) bytes) below

pub field_bytes : (ts : List Ty) (field : ℕ) → before field (map kind_of ts) < 4294967296 → field_from 0 ts field ≡ before field (map kind_of ts)
field_bytes ts field below = field_before ts field 0 below

module _ {t : Tables} where
  -- Adding 0 to the address of a cell leaves the address unchanged.
  pub stays : {o k w : ℕ} → Points t o k w → Points t o k (add_of w 0)
  stays {o} {k} {w} p =
      let word : w < 4294967296 = pointer-word p in
      subst (Points t o k) (sym (add_is w 0 (omega (arith, word)) ∙ last w)) p
    where
      last : (w : ℕ) → w + 0 ≡ w
      last w = omega arith

  -- The code computes the address of the j-th machine word of a cell, for a cell of any representation kind (int, char, pointer, ..).
  pub word_is : {o k w : ℕ} (p : Points t o k w) (kind : Kind) (j : ℕ) → slice_get p.kinds k ≡ Some kind → j < words_of_kind kind
      → add_of w (4 * j) ≡ w + 4 * j
  word_is {o} {k} {w} p kind j there below =
      let high : p.address + bytes_of_kinds p.kinds < 4294967296 = p.range.high in
      let at : w ≡ p.address + before k p.kinds = p.at in
      let inside : before k p.kinds + bytes_of_kind kind ≤ bytes_of_kinds p.kinds = before-inside 0 k p.kinds kind there in
      add_is w (4 * j) (omega (arith, high, at, inside, kind_bytes kind, last_low kind, below))

  -- ---- members

  -- The code computes the address of a field from the address of the object.
  pub member_is : {o w : ℕ} (p : Points t o 0 w) (field : ℕ) → field < length p.kinds → Points t o field (add_of w (before field p.kinds))
  member_is {o} {w} p field inside = subst (Points t o field) (sym (add_is w (before field p.kinds) below)) (member-points p field inside)
    where
      below : w + before field p.kinds < 4294967296
      below = pointer-word (member-points p field inside)

  -- The code computes the address of a field of an object whose cells have the representation kinds
  -- (int, char, pointer, ..) of a struct's fields.
  pub field_is : {o w : ℕ} (p : Points t o 0 w) (fields : List Kind) (field : ℕ) → p.kinds ≡ fields → field < length fields
      → Points t o field (add_of w (before field fields))
  field_is {o} {w} p fields field same inside =
      subst (λ ks. Points t o field (add_of w (before field ks))) same
      (member_is p field (subst (λ ks. field < length ks) (sym same) inside))

  -- ---- elements

  -- If the index of an access to an array is within bounds, then two computations do not overflow: the index times the
  -- bytes of a cell, and the sum of this product and the array's address.
  element_below : {o start n w : ℕ} (i : ℕ) (part : IsPartOf t o start n w) → i < n → w + i * bytes_of_kind part.kind < 4294967296
  element_below i part below = pointer-word (thinned i part below)

  -- The code computes the address of the cell at an index, for cells of four bytes, of one byte and of twelve bytes.
  pub narrow_element : {o start n w : ℕ} (i : ℕ) (part : IsPartOf t o start n w) → i < n → bytes_of_kind part.kind ≡ 4
      → Points t o (start + i) (add_of w (shl_of i 2))
  narrow_element {o} {start} {n} {w} i part below four =
      let short : w + i * 4 < 4294967296 = subst (λ q. w + i * q < 4294967296) four (element_below i part below) in
      subst (Points t o (start + i))
      (sym (ap (add_of w) (shifted_is i (omega (arith, short))) ∙ (add_is w (i * 4) short ∙ ap (λ q. w + i * q) (sym four)))) (thinned i part below)

  pub byte_element : {o start n w : ℕ} (i : ℕ) (part : IsPartOf t o start n w) → i < n → bytes_of_kind part.kind ≡ 1
      → Points t o (start + i) (add_of w i)
  byte_element {o} {start} {n} {w} i part below one =
      let same : i * bytes_of_kind part.kind ≡ i = ap (λ q. i * q) one ∙ (let e : i * 1 ≡ i = omega arith in e) in
      let short : w + i < 4294967296 = subst (λ x. w + x < 4294967296) same (element_below i part below) in
      subst (Points t o (start + i)) (sym (add_is w i short ∙ ap (λ x. w + x) (sym same))) (thinned i part below)

  pub wide_element : {o start n w : ℕ} (i : ℕ) (part : IsPartOf t o start n w) → i < n → bytes_of_kind part.kind ≡ 12
      → Points t o (start + i) (add_of w (mul_of i 12))
  wide_element {o} {start} {n} {w} i part below twelve =
      let short : w + i * 12 < 4294967296 = subst (λ q. w + i * q < 4294967296) twelve (element_below i part below) in
      subst (Points t o (start + i))
      (sym (ap (add_of w) (multiplied_is i (omega (arith, short))) ∙ (add_is w (i * 12) short ∙ ap (λ q. w + i * q) (sym twelve)))) (thinned i part below)

-- ---- reading and writing the words of a cell

-- A word of a live block exists, whatever values the memory of the store holds.
pub there_still : (s : StoreState) (m : Memory) (x old : ℕ) → word_at s x ≡ Some old → word_at (record s { memory = m }) x ≡ Some (m x)
there_still s m x old found = elim (cases_eq (x % 4) 0) [
  | inl even ↦
      when_equal (x % 4) 0 (word_in (holder (homes s) x) m x) None even
      ∙ still (holder (homes s) x) (sym (when_equal (x % 4) 0 (word_in (holder (homes s) x) s.memory x) None even) ∙ found)
  | inr odd ↦ absurd (never_none_and_some (when_other (x % 4) 0 (word_in (holder (homes s) x) s.memory x) None odd) found)
]
  where
    still : (o : Option Holder) → word_in o s.memory x ≡ Some old → word_in o m x ≡ Some (m x)
    still None e = absurd (let f : None ≡ Some old = e in cc)
    still (Some h) e = refl

pub stored_still : (s : StoreState) (m : Memory) (x old : ℕ) → store_word s x ≡ Some old → store_word (record s { memory = m }) x ≡ Some (m x)
stored_still s m x old found = go (range_of x) found
  where
    go : (range : Range) → store_word_in s x range ≡ Some old → store_word_in (record s { memory = m }) x range ≡ Some (m x)
    go OfGlobals e = absurd (let f : None ≡ Some old = e in cc)
    go OfStore e = there_still s m x old e
    go OfSlots e = absurd (let f : None ≡ Some old = e in cc)

-- The memory after the three words a, b and c are written, in this order, to the cell at address w.
abbrev pub three_put : Memory → (w a b c : ℕ) → Memory
three_put m w a b c = put (put (put m (w + 4 * 0) a) (w + 4 * 1) b) (w + 4 * 2) c

pub three_words : (m : Memory) (w a b c : ℕ) → AreWords m → IsWord a → IsWord b → IsWord c → AreWords (three_put m w a b c)
three_words m w a b c words first second third =
    words-put (put (put m (w + 4 * 0) a) (w + 4 * 1) b) (w + 4 * 2) c
    (words-put (put m (w + 4 * 0) a) (w + 4 * 1) b (words-put m (w + 4 * 0) a words first) second) third

-- Writing the three words of a cell leaves all other words of the memory unchanged.
pub three_elsewhere : (m : Memory) (w a b c y : ℕ) → ((j : ℕ) → j < 3 → y ≢ w + 4 * j) → three_put m w a b c y ≡ m y
three_elsewhere m w a b c y other =
    when_other y (w + 4 * 2) c (put (put m (w + 4 * 0) a) (w + 4 * 1) b y) (other 2 (omega arith))
    ∙ (when_other y (w + 4 * 1) b (put m (w + 4 * 0) a y) (other 1 (omega arith)) ∙ when_other y (w + 4 * 0) a (m y) (other 0 (omega arith)))

-- After three words are written to a cell, the cell holds the value that they represent.
pub three_written : (t : Tables) (v : Value) (m : Memory) (w a b c : ℕ) → Is t kinds.Fat v (λ j. if j == 0 then a else if j == 1 then b else c) 0
    → Is t kinds.Fat v (words_from (three_put m w a b c) w) 0
three_written t v m w a b c is = Is-same t kinds.Fat v (λ j. if j == 0 then a else if j == 1 then b else c) (words_from (three_put m w a b c) w) 0 0 each is
  where
    each : (j : ℕ) → j < 3 → three_put m w a b c (w + 4 * (0 + j)) ≡ (if 0 + j == 0 then a else if 0 + j == 1 then b else c)
    each zero below =
        when_other (w + 4 * (0 + 0)) (w + 4 * 2) c (put (put m (w + 4 * 0) a) (w + 4 * 1) b (w + 4 * (0 + 0))) (λ e. omega (arith, e))
        ∙ (when_other (w + 4 * (0 + 0)) (w + 4 * 1) b (put m (w + 4 * 0) a (w + 4 * (0 + 0))) (λ e. omega (arith, e))
        ∙ when_equal (w + 4 * (0 + 0)) (w + 4 * 0) a (m (w + 4 * (0 + 0))) refl)
    each (suc zero) below =
        when_other (w + 4 * (0 + 1)) (w + 4 * 2) c (put (put m (w + 4 * 0) a) (w + 4 * 1) b (w + 4 * (0 + 1))) (λ e. omega (arith, e))
        ∙ when_equal (w + 4 * (0 + 1)) (w + 4 * 1) b (put m (w + 4 * 0) a (w + 4 * (0 + 1))) refl
    each (suc (suc zero)) below = when_equal (w + 4 * (0 + 2)) (w + 4 * 2) c (put (put m (w + 4 * 0) a) (w + 4 * 1) b (w + 4 * (0 + 2))) refl
    each (suc (suc (suc j))) below = absurd (omega (arith, below))

-- If three consecutive words represent a fat pointer, then a sequence that is built from these three words represents it as well.
pub three_words_of : (t : Tables) (v : Value) (words : ℕ → ℕ) (p : ℕ) → Is t kinds.Fat v words p
    → Is t kinds.Fat v (λ j. if j == 0 then words p else if j == 1 then words (p + 1) else words (p + 2)) 0
three_words_of t v words p is = Is-same t kinds.Fat v words (λ j. if j == 0 then words p else if j == 1 then words (p + 1) else words (p + 2)) p 0 each is
  where
    each : (j : ℕ) → j < 3 → (if 0 + j == 0 then words p else if 0 + j == 1 then words (p + 1) else words (p + 2)) ≡ words (p + j)
    each zero below = ap words (sym (add-zero p))
    each (suc zero) below = refl
    each (suc (suc zero)) below = refl
    each (suc (suc (suc j))) below = absurd (omega (arith, below))

-- ---- cells that an access finds

module _ {t : Tables} {w : World} {s : StoreState} (related : Related t w s) where
  -- A cell has the representation kind (int, char, pointer, ..) that the table of objects records for it.
  pub cell_kind : {o k a : ℕ} (at : Located) (p : Points t o k a) → cell_at w o k ≡ Found at → slice_get p.kinds k ≡ Some at.cell.kind
  cell_kind {o} {k} at p found =
      let (there, cell) = cell_found w o k at found in
      ap (λ ks. slice_get ks k) (related.shapes o p.address p.kinds at.object there p.row)
      ∙ slice_get-map (λ (z : Cell). z.kind) at.object.cells k at.cell cell

  -- The fields of the object have the representation kinds (int, char, pointer, ..) that the source semantics tests, so the code
  -- computes the address of a field without looking at the object.
  pub field_there : {o a : ℕ} (p : Points t o 0 a) (x : Object) (fields : List Kind) (field : ℕ) → slice_get w.objects o ≡ Some x
      → kinds_of x.cells ≡ fields → field < length fields → Points t o field (add_of a (before field fields))
  field_there {o} p x fields field there same inside =
      field_is p fields field (related.shapes o p.address p.kinds x there p.row ∙ same) inside

  -- The address of a field is the address of the object plus the number of bytes of the cells before the field.
  pub member_there : {o a : ℕ} (p : Points t o 0 a) (x : Object) (fields : List Kind) (field c : ℕ) → slice_get w.objects o ≡ Some x
      → kinds_of x.cells ≡ fields → field < length fields → (before field fields < 4294967296 → c ≡ before field fields) → Points t o field (add_of a c)
  member_there {o} {a} p x fields field c there same inside is =
      let kinds : p.kinds ≡ fields = related.shapes o p.address p.kinds x there p.row ∙ same in
      let below : a + before field fields < 4294967296
      = subst (λ ks. a + before field ks < 4294967296) kinds (pointer-word (member-points p field (subst (λ ks. field < length ks) (sym kinds) inside))) in
      subst (λ n. Points t o field (add_of a n)) (sym (is (omega (arith, below)))) (field_there p x fields field there same inside)
