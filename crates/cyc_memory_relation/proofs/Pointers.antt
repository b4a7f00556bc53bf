-- This file is about pointers and their words: conversions, tests for null, and arithmetic. All facts of this file also hold for
-- pointers to freed objects.
use Rattle.std.proofs.Common.{◌≡◌, ℕ, zero, suc, ◌+◌, ◌-◌, ◌*◌, ◌^◌, ◌<◌, ◌≤◌, Bool, true, false, not, List, ◌∷◌, length, Option, Some, refl, sym, ap, subst, ◌∙◌, arith, add-zero}
use Rattle.std.specs.Prelude.{◌==◌, ◌≢◌, if◌then◌else◌, slice_get}
use Rattle.cyc_words.proofs.Numbers.{when_equal}
use Rattle.cyc_words.proofs.Options.{same_from_some}
use Rattle.cyc_words.proofs.Lists.{slice_get_below}
use Rattle.cyc_types.specs.declared.typed.Kind.{Kind}
use Rattle.cyc_types.specs.declared.typed.Kind.TheVariants as kinds
use Rattle.cyc_store.specs.State.{put}
use Rattle.cyc_store.proofs.LookupLemmas.{when_other}
use Rattle.cyc_meaning.specs.Values.{Value, Int, Null, Thin, Fat, is_thin, bytes_of_kind, kinds_of}
use Rattle.cyc_meaning.specs.Operators.{Gives, Raises, truth}
use Rattle.cyc_meaning.specs.Pointers.{moved, null_test}
use Rattle.cyc_meaning.specs.Conversion.{conversion}
use Rattle.cyc_meaning.specs.Allocation.{blanks}
use Rattle.cyc_memory_relation.specs.inside.Tables.{Row, Placed, Tables}
use Rattle.cyc_memory_relation.specs.inside.Words.{bytes_of_kinds, before, InRange, Points, IsPartOf, Is}
use Rattle.cyc_memory_relation.proofs.Places.{before-all, before-first, before-part}
use Rattle.cyc_memory_relation.proofs.Values.{Is-same}

pub same-row : {o : Option Row} {a b : ℕ} {ks ls : List Kind} → o ≡ Some (Placed a ks) → o ≡ Some (Placed b ls) → (a ≡ b) × (ks ≡ ls)
same-row {o} {a} {b} {ks} {ls} p q = let e : Placed a ks ≡ Placed b ls = same_from_some (sym p ∙ q) in (cc, cc)

-- The first cell of an object is at the object's address.
first-at : (a : ℕ) (ks : List Kind) → a + before 0 ks ≡ a
first-at a ks = ap (λ n. a + n) (before-first ks) ∙ add-zero a

at-first : {w : ℕ} (a : ℕ) (ks : List Kind) → w ≡ a + before 0 ks → w ≡ a
at-first a ks at = at ∙ first-at a ks

module _ {t : Tables} where
  -- ---- addresses

  -- A pointer to a cell is not 0, even if the object of the cell is not live.
  pub not-null : {o k w : ℕ} → Points t o k w → w ≢ 0
  not-null p e =
      let low : 0 < p.address = p.range.low in
      let at : _ ≡ p.address + before _ p.kinds = p.at in
      omega (arith, low, at, e)

  pub part-not-null : {o start n w : ℕ} → IsPartOf t o start n w → w ≢ 0
  part-not-null p e =
      let low : 0 < p.address = p.range.low in
      let at : _ ≡ p.address + before _ p.kinds = p.at in
      omega (arith, low, at, e)

  -- Every cell has only one address.
  pub one_address : {o k v w : ℕ} → Points t o k v → Points t o k w → v ≡ w
  one_address {o} {k} p q =
      let (same, kinds) = same-row p.row q.row in
      p.at ∙ (ap (λ a. a + before k p.kinds) same ∙ (ap (λ ks. q.address + before k ks) kinds ∙ sym q.at))

  -- The address of a cell fits into a 32-bit word.
  pub pointer-word : {o k w : ℕ} → Points t o k w → w < 2 ^ 32
  pointer-word {o} {k} {w} p =
      let high : p.address + bytes_of_kinds p.kinds < 4294967296 = p.range.high in
      let at : w ≡ p.address + before k p.kinds = p.at in
      let all : before k p.kinds ≤ bytes_of_kinds p.kinds = before-all 0 k p.kinds in
      omega (arith, high, at, all)

  -- ---- conversions between pointers

  -- If the index of a fat pointer is in bounds, then the cell's address is the pointer's address plus the bytes before this cell.
  pub thinned : {o start n w : ℕ} (i : ℕ) (part : IsPartOf t o start n w) → i < n → Points t o (start + i) (w + i * bytes_of_kind part.kind)
  thinned {o} {start} {n} {w} i part below = record {
    address = part.address;
    kinds = part.kinds;
    row = part.row;
    range = part.range;
    inside = let inside : start + n ≤ length part.kinds = part.inside in omega (arith, inside, below);
    at =
        let far : before (start + i) part.kinds ≡ before start part.kinds + i * bytes_of_kind part.kind =
        before-part part.kinds part.kind start i (λ j less. part.even j (omega (arith, less, below))) in
        away w part.address (before start part.kinds) (before (start + i) part.kinds) (i * bytes_of_kind part.kind) part.at far;
  }
    where
      away : (w a b c d : ℕ) → w ≡ a + b → c ≡ b + d → w + d ≡ a + c
      away w a b c d at far = omega (arith, at, far)

  -- The address of the cell at the index of a fat pointer, computed from the cell's representation kind (int, char, pointer, ..).
  pub fat-to_cell : {o start n w : ℕ} (i : ℕ) (kind : Kind) (part : IsPartOf t o start n w) → i < n → slice_get part.kinds (start + i) ≡ Some kind
      → Points t o (start + i) (w + i * bytes_of_kind kind)
  fat-to_cell {o} {start} {n} {w} i kind part below there =
      subst (λ k. Points t o (start + i) (w + i * bytes_of_kind k)) (same_from_some (sym (part.even i below) ∙ there)) (thinned i part below)

  -- A thin pointer gives access to one cell, like a fat pointer of length 1.
  pub part-of-cell : {o k w : ℕ} → Points t o k w → IsPartOf t o k 1 w
  part-of-cell {o} {k} p =
      let (kind, there) = slice_get_below p.kinds k p.inside in
      record {
        address = p.address;
        kinds = p.kinds;
        row = p.row;
        range = p.range;
        kind = kind;
        even = λ i below. ap (slice_get p.kinds) (only k i below) ∙ there;
        inside = let inside : k < length p.kinds = p.inside in omega (arith, inside);
        at = p.at;
      }
    where
      only : (k i : ℕ) → i < 1 → k + i ≡ k
      only k i below = omega (arith, below)

  -- The addresses of an object's cells are the address of the first cell plus their offsets.
  pub member-points : {o w : ℕ} (p : Points t o 0 w) (field : ℕ) → field < length p.kinds → Points t o field (w + before field p.kinds)
  member-points {o} {w} p field inside = record {
    address = p.address;
    kinds = p.kinds;
    row = p.row;
    range = p.range;
    inside = inside;
    at = ap (λ n. n + before field p.kinds) (at-first p.address p.kinds p.at);
  }

  -- ---- pointers to a new object

  -- The address of an object with at least one cell points to the first cell.
  pub first-points : (o a : ℕ) (kind : Kind) (ks : List Kind) → slice_get t.rows o ≡ Some (Placed a (kind ∷ ks)) → InRange a (kind ∷ ks) → Points t o 0 a
  first-points o a kind ks row range = record {
    address = a;
    kinds = kind ∷ ks;
    row = row;
    range = range;
    inside = omega arith;
    at = sym (first-at a (kind ∷ ks));
  }

  -- The address of an array gives access to all cells of the array.
  pub whole-part : (o a count : ℕ) (kind : Kind) → slice_get t.rows o ≡ Some (Placed a (kinds_of (blanks count kind)))
      → InRange a (kinds_of (blanks count kind)) → IsPartOf t o 0 count a
  whole-part o a count kind row range = record {
    address = a;
    kinds = kinds_of (blanks count kind);
    row = row;
    range = range;
    kind = kind;
    even = λ i below. ap (slice_get (kinds_of (blanks count kind))) (from_zero i) ∙ each count i below;
    inside = all count;
    at = sym (first-at a (kinds_of (blanks count kind)));
  }
    where
      from_zero : (i : ℕ) → 0 + i ≡ i
      from_zero i = omega arith

      each : (count i : ℕ) → i < count → slice_get (kinds_of (blanks count kind)) i ≡ Some kind
      each zero i below = absurd (omega (arith, below))
      each (suc count) zero below = refl
      each (suc count) (suc i) below = each count i (omega (arith, below))

      all : (count : ℕ) → 0 + count ≤ length (kinds_of (blanks count kind))
      all zero = omega arith
      all (suc count) = let rest : 0 + count ≤ length (kinds_of (blanks count kind)) = all count in omega (arith, rest)

-- ---- results of the checks

pub same_value : {u v : Value} → Gives u ≡ Gives v → u ≡ v
same_value {u} {v} e = cc

test_zero : (negated : Bool) (w : ℕ) → w ≡ 0 → Gives (Int (truth (not negated))) ≡ Gives (Int (truth (if w == 0 then not negated else negated)))
test_zero negated w none = ap (λ b. Gives (Int (truth b))) (sym (when_equal w 0 (not negated) negated none))

test_other : (negated : Bool) (w : ℕ) → w ≢ 0 → Gives (Int (truth negated)) ≡ Gives (Int (truth (if w == 0 then not negated else negated)))
test_other negated w some = ap (λ b. Gives (Int (truth b))) (sym (when_other w 0 (not negated) negated some))

module _ (t : Tables) where
  -- ---- thin pointers

  pub data ThinIs (kind : Kind) (word : ℕ) : Value → Type 0 where
    thin_null : kind ≡ kinds.Nullable → word ≡ 0 → ThinIs kind word Null
    thin_cell : (object offset : ℕ) → Points t object offset word → ThinIs kind word (Thin object offset)

  -- The word of a thin null pointer is 0, and the word of any other thin pointer is the address of its cell.
  pub thin-is : (kind : Kind) (v : Value) (m : ℕ → ℕ) (p : ℕ) → is_thin kind ≡ true → Is t kind v m p → ThinIs kind (m p) v
  thin-is kinds.Nullable Null m p thin is = thin_null refl is
  thin-is kinds.Nullable (Thin o k) m p thin is = thin_cell o k is
  thin-is kinds.Nullable v m p thin is = absurd is
  thin-is kinds.NonNull (Thin o k) m p thin is = thin_cell o k is
  thin-is kinds.NonNull v m p thin is = absurd is
  thin-is kind v m p thin is = absurd (let e : false ≡ true = thin in cc)

  from_thin : (kind to : Kind) (u v : Value) (n : ℕ → ℕ) (w q : ℕ) → is_thin to ≡ true → ThinIs kind w v → conversion to v ≡ Gives u → n q ≡ w → Is t to u n q
  from_thin kind kinds.Nullable u v n w q thin (thin_null is none) e same = subst (λ x. Is t kinds.Nullable x n q) (same_value e) (same ∙ none)
  from_thin kind kinds.Nullable u v n w q thin (thin_cell o k p) e same =
      subst (λ x. Is t kinds.Nullable x n q) (same_value e) (subst (Points t o k) (sym same) p)
  from_thin kind kinds.NonNull u v n w q thin (thin_null is none) e same = absurd (let k : Raises 1 ≡ Gives u = e in cc)
  from_thin kind kinds.NonNull u v n w q thin (thin_cell o k p) e same =
      subst (λ x. Is t kinds.NonNull x n q) (same_value e) (subst (Points t o k) (sym same) p)
  from_thin kind to u v n w q thin is e same = absurd (let k : false ≡ true = thin in cc)

  -- Converting a thin pointer to another kind of thin pointer (nullable or never null) keeps its word.
  pub thin-to_thin : (from to : Kind) (v u : Value) (m n : ℕ → ℕ) (p q : ℕ) → is_thin from ≡ true → is_thin to ≡ true → Is t from v m p
      → conversion to v ≡ Gives u → n q ≡ m p → Is t to u n q
  thin-to_thin from to v u m n p q thin also is e same = from_thin from to u v n (m p) q also (thin-is from v m p thin is) e same

  to_fat : (kind : Kind) (u v : Value) (n : ℕ → ℕ) (w q : ℕ) → ThinIs kind w v → conversion kinds.Fat v ≡ Gives u → n q ≡ w → n (q + 1) ≡ (if w == 0 then 0 else 1) → n (q + 2) ≡ 0
      → Is t kinds.Fat u n q
  to_fat kind u v n w q (thin_null is none) e same many last = subst (λ x. Is t kinds.Fat x n q) (same_value e) (same ∙ none, many ∙ when_equal w 0 0 1 none)
  to_fat kind u v n w q (thin_cell o k p) e same many last =
      subst (λ x. Is t kinds.Fat x n q) (same_value e) (subst (IsPartOf t o k 1) (sym same) (part-of-cell p), many ∙ when_other w 0 0 1 (not-null p), last)

  -- Converting a thin pointer to a fat pointer yields a pointer to one cell (to none for null) with the index 0.
  pub thin-to_fat : (from : Kind) (v u : Value) (m n : ℕ → ℕ) (p q : ℕ) → is_thin from ≡ true → Is t from v m p → conversion kinds.Fat v ≡ Gives u
      → n q ≡ m p → n (q + 1) ≡ (if m p == 0 then 0 else 1) → n (q + 2) ≡ 0 → Is t kinds.Fat u n q
  thin-to_fat from v u m n p q thin is e same many last = to_fat from u v n (m p) q (thin-is from v m p thin is) e same many last

  -- ---- fat pointers

  pub data FatIs (word count index : ℕ) : Value → Type 0 where
    fat_null : word ≡ 0 → count ≡ 0 → FatIs word count index Null
    fat_part : (object start : ℕ) → IsPartOf t object start count word → FatIs word count index (Fat object start count index)

  -- The first two words of a fat null pointer are 0. The words of any other fat pointer are the address of the first
  -- cell that it can access, the length and the index.
  pub fat-is : (v : Value) (m : ℕ → ℕ) (p : ℕ) → Is t kinds.Fat v m p → FatIs (m p) (m (p + 1)) (m (p + 2)) v
  fat-is Null m p is = fat_null is.0 is.1
  fat-is (Fat o start n i) m p is =
      subst (λ c. FatIs (m p) (m (p + 1)) (m (p + 2)) (Fat o start c i)) is.1
      (subst (λ j. FatIs (m p) (m (p + 1)) (m (p + 2)) (Fat o start (m (p + 1)) j)) is.2
      (fat_part o start (subst (λ c. IsPartOf t o start c (m p)) (sym is.1) is.0)))
  fat-is v m p is = absurd is

  move_fat : (change : ℕ → ℕ) (v u : Value) (n : ℕ → ℕ) (w count index q : ℕ) → FatIs w count index v → moved change v ≡ Gives u
      → n q ≡ w → n (q + 1) ≡ count → n (q + 2) ≡ change index → Is t kinds.Fat u n q
  move_fat change v u n w count index q (fat_null none empty) e same many at = subst (λ x. Is t kinds.Fat x n q) (same_value e) (same ∙ none, many ∙ empty)
  move_fat change v u n w count index q (fat_part o start part) e same many at =
      subst (λ x. Is t kinds.Fat x n q) (same_value e) (subst (IsPartOf t o start count) (sym same) part, many, at)

  -- Arithmetic on a fat pointer changes only the index; the index of a null pointer may become any word.
  pub fat-moved : (change : ℕ → ℕ) (v u : Value) (m n : ℕ → ℕ) (p q : ℕ) → Is t kinds.Fat v m p → moved change v ≡ Gives u
      → n q ≡ m p → n (q + 1) ≡ m (p + 1) → n (q + 2) ≡ change (m (p + 2)) → Is t kinds.Fat u n q
  fat-moved change v u m n p q is e same many at =
      move_fat change v u n (m p) (m (p + 1)) (m (p + 2)) q (fat-is v m p is) e same many at

  -- ---- tests for null

  test_thin : (negated : Bool) (kind : Kind) (v : Value) (w : ℕ) → ThinIs kind w v → null_test negated v ≡ Gives (Int (truth (if w == 0 then not negated else negated)))
  test_thin negated kind v w (thin_null is none) = test_zero negated w none
  test_thin negated kind v w (thin_cell o k p) = test_other negated w (not-null p)

  test_fat : (negated : Bool) (v : Value) (w count index : ℕ) → FatIs w count index v
      → null_test negated v ≡ Gives (Int (truth (if w == 0 then not negated else negated)))
  test_fat negated v w count index (fat_null none empty) = test_zero negated w none
  test_fat negated v w count index (fat_part o start part) = test_other negated w (part-not-null part)

  -- a pointer is null exactly if its first word is 0
  pub thin-null_test : (negated : Bool) (kind : Kind) (v : Value) (m : ℕ → ℕ) (p : ℕ) → is_thin kind ≡ true → Is t kind v m p
      → null_test negated v ≡ Gives (Int (truth (if m p == 0 then not negated else negated)))
  thin-null_test negated kind v m p thin is = test_thin negated kind v (m p) (thin-is kind v m p thin is)

  pub fat-null_test : (negated : Bool) (v : Value) (m : ℕ → ℕ) (p : ℕ) → Is t kinds.Fat v m p
      → null_test negated v ≡ Gives (Int (truth (if m p == 0 then not negated else negated)))
  fat-null_test negated v m p is = test_fat negated v (m p) (m (p + 1)) (m (p + 2)) (fat-is v m p is)

-- ---- writing further words

-- Three words that are written one by one represent the fat pointer that they represented before.
pub Is-put_three : (t : Tables) (v : Value) (m : ℕ → ℕ) (p a b c : ℕ) → Is t kinds.Fat v (λ j. if j == 0 then a else if j == 1 then b else c) 0
    → Is t kinds.Fat v (put (put (put m (p + 2) c) (p + 1) b) p a) p
Is-put_three t v m p a b c is = Is-same t kinds.Fat v (λ j. if j == 0 then a else if j == 1 then b else c) (put (put (put m (p + 2) c) (p + 1) b) p a) 0 p each is
  where
    far : (d : ℕ) → 0 < d → p + d ≢ p
    far d some e = omega (arith, some, e)

    two : p + 2 ≢ p + 1
    two e = omega (arith, e)

    each : (j : ℕ) → j < 3 → put (put (put m (p + 2) c) (p + 1) b) p a (p + j) ≡ (if 0 + j == 0 then a else if 0 + j == 1 then b else c)
    each zero below = when_equal (p + 0) p a (put (put m (p + 2) c) (p + 1) b (p + 0)) (add-zero p)
    each (suc zero) below =
        when_other (p + 1) p a (put (put m (p + 2) c) (p + 1) b (p + 1)) (far 1 (omega arith))
        ∙ when_equal (p + 1) (p + 1) b (put m (p + 2) c (p + 1)) refl
    each (suc (suc zero)) below =
        when_other (p + 2) p a (put (put m (p + 2) c) (p + 1) b (p + 2)) (far 2 (omega arith))
        ∙ (when_other (p + 2) (p + 1) b (put m (p + 2) c (p + 2)) two ∙ when_equal (p + 2) (p + 2) c (m (p + 2)) refl)
    each (suc (suc (suc j))) below = absurd (omega (arith, below))
