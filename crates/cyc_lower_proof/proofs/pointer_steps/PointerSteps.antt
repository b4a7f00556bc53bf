-- This file proves the steps of operators on pointers.
use Rattle.std.proofs.Common.{◌≡◌, ◌≢◌, ℕ, ◌+◌, ◌<◌, Bool, true, false, not, List, ◌∷◌, Option, None, Some, slice_get, refl, sym, ap, subst, ◌∙◌, arith, inl, inr}
use Rattle.std.specs.Prelude.{◌==◌, ◌&&◌, if◌then◌else◌}
use Rattle.std.proofs.lemmas.Bool.{eq-eqb, ne_eqb, eqb-true}
use Rattle.std.proofs.lemmas.Option.{none-some}
use Rattle.cyc_words.specs.Word.{add_of, sub_of}
use Rattle.cyc_types.specs.declared.typed.Kind.{Kind}
use Rattle.cyc_types.specs.declared.typed.Kind.TheVariants as kinds
use Rattle.cyc_types.specs.declared.typed.PointerOperator.{PointerOperator}
use Rattle.cyc_types.specs.declared.typed.PointerOperator.TheVariants as pointers
use Rattle.cyc_types.specs.declared.typed.Operator.TheVariants as operators
use Rattle.cyc_types.specs.TypedTrees.{Expression, Operations, Program}
use Rattle.cyc_store.specs.State.{StoreState}
use Rattle.cyc_plain.specs.declared.instruction.Comparison.{Comparison}
use Rattle.cyc_plain.specs.declared.instruction.Operand.{Operand}
use Rattle.cyc_plain.specs.declared.instruction.Operand.TheVariants as operands
use Rattle.cyc_plain.specs.inside.Operators.{truth, compares}
use Rattle.cyc_plain.specs.inside.State as plain
use Rattle.cyc_plain.specs.declared.instruction.Instruction.TheVariants as instructions
use Rattle.cyc_plain.specs.inside.State.{Words, put, copied, Frame, Configuration}
use Rattle.cyc_plain.specs.inside.Step.{Choice, operand_word, with_slots, at, advanced, performed}
use Rattle.cyc_plain.proofs.SlotLaws.{put-same, put-other, copied-inside, copied-above}
use Rattle.cyc_plain.specs.inside.Straight.{At}
use Rattle.cyc_meaning.specs.Values.{Value, Int, Null, Thin, Fat, Handle, Key, Operand as Kinded, is_thin, words_of_kind}
use Rattle.cyc_meaning.specs.Operators.{Result, Gives}
use Rattle.cyc_meaning.specs.Pointers.{moved, null_test, takes_kind, result_kind as operator_kind}
use Rattle.cyc_meaning.specs.Objects.{found_object, object_at, both_found, compared}
use Rattle.cyc_meaning.specs.State.{Object, World, Access, Found, Closed, Missing, Owner, InRegion, Unique, is_live, Environment, Chain, ApplyPointer, Entry, Needs, Given, State, Running}
use Rattle.cyc_meaning.specs.Step.{computed, tells, applies_pointer, step}
use Rattle.cyc_memory_relation.specs.inside.Tables.{Tables}
use Rattle.cyc_memory_relation.specs.inside.Words.{Is}
use Rattle.cyc_memory_relation.specs.inside.Related as objects
use Rattle.cyc_memory_relation.proofs.Pointers.{not-null, part-not-null, ThinIs, thin_null, thin_cell, fat-moved}
use Rattle.cyc_memory_relation.proofs.Comparing.{thin-compared}
use Rattle.cyc_types.specs.Texts.{is_comparison}
use Rattle.cyc_lower_proof.specs.inside.ValueCode.{left_kind, after_left, pointer_operator}
use Rattle.cyc_lower_proof.specs.inside.Lowering.{lower_program}
use Rattle.cyc_lower_proof.specs.inside.ControlCode.{null_failing, pointers_failing}
use Rattle.cyc_lower_proof.proofs.slots.Widths.{same_kind, Outside}
use Rattle.cyc_lower_proof.proofs.relation.contents.Moves.{copied_elsewhere}
use Rattle.cyc_lower_proof.proofs.relation.code.Stands.{FirstTwoAt, IndexAt, PointerAt, ValueAt}
use Rattle.cyc_lower_proof.proofs.relation.contents.HeldValues.{IsIn, Holds, held, callers}
use Rattle.cyc_lower_proof.proofs.relation.simulation.Relation.{DataIn, SharedAt, EvaluatingAt, as_operand, Matches}
use Rattle.cyc_lower_proof.proofs.relation.simulation.Stacks.{types_on, ConditionStack, LandsStack, in_temporary, in_local, to_slot, code_of, bounds_at, top, floor}
use Rattle.cyc_lower_proof.proofs.relation.simulation.Shared.{silent}
use Rattle.cyc_lower_proof.proofs.relation.contents.Data.{height-least, in_words}
use Rattle.cyc_lower_proof.proofs.relation.contents.HandlerData.{floor-least}
use Rattle.cyc_lower_proof.proofs.relation.simulation.Accesses.{IsWell}
use Rattle.cyc_lower_proof.proofs.relation.simulation.Matched.{IsMatched, silently, by_one, by_two}
use Rattle.cyc_lower_proof.proofs.value_steps.Landings.{landed, landed_word}
use Rattle.cyc_memory_relation.specs.inside.Related.{AreApart}
use Rattle.cyc_lower_proof.proofs.value_steps.Decided.{given_compared}
use Rattle.cyc_lower_proof.proofs.value_steps.ValueWords.{fails_by}
use Rattle.cyc_lower_proof.proofs.relation.places.Apart.{variables-apart}
use Rattle.cyc_lower_proof.proofs.relation.places.Leads.{AreNamed}

-- ---- the words of a left operand

kind_of_one : (kind : Kind) → is_thin kind ≡ true → words_of_kind kind ≡ 1
kind_of_one kinds.Nullable thin = refl
kind_of_one kinds.NonNull thin = refl
kind_of_one kind thin = absurd (let f : false ≡ true = thin in cc)

-- If the operator accepts the representation kind (int, char, pointer, ..) of its left operand, then this operand has as many words as the
-- code expects.
pub left_words : (u : PointerOperator) (kind : Kind) → takes_kind u kind ≡ true → words_of_kind kind ≡ words_of_kind (left_kind u)
left_words pointers.AddFat kind takes = ap words_of_kind (same_kind kind kinds.Fat takes)
left_words pointers.SubtractFat kind takes = ap words_of_kind (same_kind kind kinds.Fat takes)
left_words pointers.FatIsNull kind takes = ap words_of_kind (same_kind kind kinds.Fat takes)
left_words pointers.FatIsNotNull kind takes = ap words_of_kind (same_kind kind kinds.Fat takes)
left_words pointers.ThinIsNull kind takes = kind_of_one kind takes
left_words pointers.ThinIsNotNull kind takes = kind_of_one kind takes
left_words pointers.NullIs kind takes = kind_of_one kind takes
left_words pointers.NullIsNot kind takes = kind_of_one kind takes
left_words pointers.EqualThin kind takes = kind_of_one kind takes
left_words pointers.NotEqualThin kind takes = kind_of_one kind takes

-- If a jump compares two pointers, then each of them has one word.
pub one_word : (u : PointerOperator) (failing : Comparison) (kind : Kind) → pointers_failing u ≡ Some failing → takes_kind u kind ≡ true → words_of_kind kind ≡ 1
one_word pointers.EqualThin failing kind is takes = kind_of_one kind takes
one_word pointers.NotEqualThin failing kind is takes = kind_of_one kind takes
one_word pointers.NullIs failing kind is takes = kind_of_one kind takes
one_word pointers.NullIsNot failing kind is takes = kind_of_one kind takes
one_word u failing kind is takes = absurd (none-some failing is)

-- ---- the result of a comparison

-- The result of comparing two words for equality or, if `negated`, for inequality.
abbrev reported : (negated : Bool) → (a b : ℕ) → ℕ
reported false a b = truth (a == b)
reported true a b = truth (not (a == b))

abbrev is_negated : PointerOperator → Bool
is_negated pointers.ThinIsNotNull = true
is_negated pointers.FatIsNotNull = true
is_negated pointers.NullIsNot = true
is_negated pointers.NotEqualThin = true
is_negated u = false

-- A pointer operator that can be compiled to a comparing jump is a comparison.
pointers_compare : (u : PointerOperator) (failing : Comparison) → pointers_failing u ≡ Some failing → is_comparison u ≡ true
pointers_compare pointers.EqualThin failing is = refl
pointers_compare pointers.NotEqualThin failing is = refl
pointers_compare pointers.NullIs failing is = refl
pointers_compare pointers.NullIsNot failing is = refl
pointers_compare u failing is = absurd (none-some failing is)

pointers_fail : (u : PointerOperator) (failing : Comparison) (a b : ℕ) → pointers_failing u ≡ Some failing → (reported (is_negated u) a b == 0) ≡ compares failing a b
pointers_fail pointers.EqualThin failing a b is = fails_by operators.Equal failing a b is
pointers_fail pointers.NotEqualThin failing a b is = fails_by operators.NotEqual failing a b is
pointers_fail pointers.NullIs failing a b is = fails_by operators.Equal failing a b is
pointers_fail pointers.NullIsNot failing a b is = fails_by operators.NotEqual failing a b is
pointers_fail u failing a b is = absurd (none-some failing is)

-- The first word of a pointer, which is 0 if the pointer is null.
data HasWord (word : ℕ) : Value → Type 0 where
  null_word : word ≡ 0 → HasWord word Null
  thin_word : (object offset : ℕ) → word ≢ 0 → HasWord word (Thin object offset)
  fat_word : (object start many index : ℕ) → word ≢ 0 → HasWord word (Fat object start many index)

-- Holds if the value is a pointer; only pointers are compared with null.
abbrev IsPointer : Value → Type 0
IsPointer (Int a) = ⊥
IsPointer (Handle region) = ⊥
IsPointer (Key region) = ⊥
IsPointer v = Unit {0}

pointer_has_word : (t : Tables) (kind : Kind) (v : Value) (words : Words) (p : ℕ) → Is t kind v words p → IsPointer v → HasWord (words p) v
pointer_has_word t kinds.Nullable Null words p is pointer = null_word is
pointer_has_word t kinds.Nullable (Thin object offset) words p is pointer = thin_word object offset (not-null is)
pointer_has_word t kinds.NonNull (Thin object offset) words p is pointer = thin_word object offset (not-null is)
pointer_has_word t kinds.Fat Null words p is pointer = null_word is.0
pointer_has_word t kinds.Fat (Fat object start many index) words p is pointer = fat_word object start many index (part-not-null is.0)
pointer_has_word t kind (Int a) words p is pointer = absurd pointer
pointer_has_word t kind (Handle region) words p is pointer = absurd pointer
pointer_has_word t kind (Key region) words p is pointer = absurd pointer
pointer_has_word t kind v words p is pointer = absurd is

-- Comparing a pointer with null compares the first word of the pointer with 0.
null_on_right : (negated : Bool) (v : Value) (a b : ℕ) → HasWord a v → b ≡ 0 → null_test negated v ≡ Gives (Int (reported negated a b))
null_on_right false Null a b (null_word none) zero = ap (λ x. Gives (Int (truth x))) (sym (eq-eqb a b (none ∙ sym zero)))
null_on_right true Null a b (null_word none) zero = ap (λ x. Gives (Int (truth (not x)))) (sym (eq-eqb a b (none ∙ sym zero)))
null_on_right false v a b (thin_word object offset some) zero = ap (λ x. Gives (Int (truth x))) (sym (ne_eqb a b (λ h. some (h ∙ zero))))
null_on_right true v a b (thin_word object offset some) zero = ap (λ x. Gives (Int (truth (not x)))) (sym (ne_eqb a b (λ h. some (h ∙ zero))))
null_on_right false v a b (fat_word object start many index some) zero = ap (λ x. Gives (Int (truth x))) (sym (ne_eqb a b (λ h. some (h ∙ zero))))
null_on_right true v a b (fat_word object start many index some) zero = ap (λ x. Gives (Int (truth (not x)))) (sym (ne_eqb a b (λ h. some (h ∙ zero))))

null_on_left : (negated : Bool) (v : Value) (a b : ℕ) → HasWord b v → a ≡ 0 → null_test negated v ≡ Gives (Int (reported negated a b))
null_on_left false Null a b (null_word none) zero = ap (λ x. Gives (Int (truth x))) (sym (eq-eqb a b (zero ∙ sym none)))
null_on_left true Null a b (null_word none) zero = ap (λ x. Gives (Int (truth (not x)))) (sym (eq-eqb a b (zero ∙ sym none)))
null_on_left false v a b (thin_word object offset some) zero = ap (λ x. Gives (Int (truth x))) (sym (ne_eqb a b (λ h. some (sym h ∙ zero))))
null_on_left true v a b (thin_word object offset some) zero = ap (λ x. Gives (Int (truth (not x)))) (sym (ne_eqb a b (λ h. some (sym h ∙ zero))))
null_on_left false v a b (fat_word object start many index some) zero = ap (λ x. Gives (Int (truth x))) (sym (ne_eqb a b (λ h. some (sym h ∙ zero))))
null_on_left true v a b (fat_word object start many index some) zero = ap (λ x. Gives (Int (truth (not x)))) (sym (ne_eqb a b (λ h. some (sym h ∙ zero))))

zero_word : (word : ℕ) → HasWord word Null → word ≡ 0
zero_word word (null_word none) = none

-- ---- two thin pointers

-- The lookup of objects does not depend on the output and the input so far.
same_live : (w : World) (owner : Owner) → is_live (silent w) owner ≡ is_live w owner
same_live w (InRegion number) = refl
same_live w (Unique live) = refl

same_found : (w : World) (x : Option Object) → found_object (silent w) x ≡ found_object w x
same_found w None = refl
same_found w (Some x) = ap (λ (b : Bool). if b then Found x else Closed) (same_live w x.owner)

same_object : (w : World) (number : ℕ) → object_at (silent w) number ≡ object_at w number
same_object w number = same_found w (slice_get w.objects number)

same_compared : (w : World) (u v : Value) → compared (silent w) u v ≡ compared w u v
same_compared w (Thin object offset) (Thin other place) =
    ap (λ (x : Access Object). both_found x (object_at (silent w) other) (object == other && offset == place)) (same_object w object)
    ∙ ap (λ (x : Access Object). both_found (object_at w object) x (object == other && offset == place)) (same_object w other)
same_compared w u v = refl

-- Holds if the value is a thin pointer; only thin pointers are compared with each other.
abbrev IsThinPointer : Value → Type 0
IsThinPointer Null = Unit {0}
IsThinPointer (Thin object offset) = Unit {0}
IsThinPointer v = ⊥

are_thin : (w : World) (u v : Value) (equal : Bool) → compared w u v ≡ Found equal → IsThinPointer u × IsThinPointer v
are_thin w Null Null equal is = (tt, tt)
are_thin w Null (Thin object offset) equal is = (tt, tt)
are_thin w (Thin object offset) Null equal is = (tt, tt)
are_thin w (Thin object offset) (Thin other place) equal is = (tt, tt)
are_thin w u v equal is = absurd (let f : Missing ≡ Found equal = is in cc)

thin_is : (t : Tables) (kind : Kind) (v : Value) (words : Words) (p : ℕ) → Is t kind v words p → IsThinPointer v → ThinIs t kinds.Nullable (words p) v
thin_is t kinds.Nullable Null words p is thin = thin_null refl is
thin_is t kinds.Nullable (Thin object offset) words p is thin = thin_cell object offset is
thin_is t kinds.NonNull (Thin object offset) words p is thin = thin_cell object offset is
thin_is t kinds.Fat Null words p is thin = thin_null refl is.0
thin_is t kinds.Fat (Fat object start many index) words p is thin = absurd thin
thin_is t kind (Int a) words p is thin = absurd thin
thin_is t kind (Handle region) words p is thin = absurd thin
thin_is t kind (Key region) words p is thin = absurd thin
thin_is t kind v words p is thin = absurd is

module _ (k : List Entry) (e : Environment) (w : World) where
  abbrev gives_reported : Bool → (a b : ℕ) → State
  gives_reported negated a b = Running (Given (record { kind = kinds.Int; value = Int (reported negated a b) })) k e w

  -- If the comparison of two pointers is not a fault, then both objects exist.
  is_reported : (negated : Bool) (found : Access Bool) → IsWell (tells negated found k e w) → (equal : Bool) × (found ≡ Found equal)
  is_reported false (Found equal) well = (equal, refl)
  is_reported true (Found equal) well = (equal, refl)
  is_reported false Closed well = absurd (well refl)
  is_reported true Closed well = absurd (well refl)
  is_reported false Missing well = absurd (well refl)
  is_reported true Missing well = absurd (well refl)

  turned : (equal : Bool) → (if equal then 0 else 1) ≡ truth (not equal)
  turned true = refl
  turned false = refl

  tells_found : (negated : Bool) (equal : Bool) (a b : ℕ) → equal ≡ (a == b) → tells negated (Found equal) k e w ≡ gives_reported negated a b
  tells_found false equal a b same = ap (λ x. Running (Given (record { kind = kinds.Int; value = Int (truth x) })) k e w) same
  tells_found true equal a b same = ap (λ x. Running (Given (record { kind = kinds.Int; value = Int x })) k e w) (turned equal ∙ ap (λ x. truth (not x)) same)

  -- A value that is tested for null without a fault is a pointer.
  is_pointer : (negated : Bool) (v : Value) → IsWell (computed kinds.Int (null_test negated v) k e w) → IsPointer v
  is_pointer negated Null well = tt
  is_pointer negated (Thin object offset) well = tt
  is_pointer negated (Fat object start many index) well = tt
  is_pointer negated v well = absurd (well refl)

  null_reported : (t : Tables) (negated : Bool) (i : Kind) (left : Value) (words : Words) (p : ℕ) → Is t i left words p → IsWell (computed kinds.Int (null_test negated left) k e w)
      → computed kinds.Int (null_test negated left) k e w ≡ gives_reported negated (words p) 0
  null_reported t negated i left words p is well =
      ap (λ (r : Result). computed kinds.Int r k e w) (null_on_right negated left (words p) 0 (pointer_has_word t i left words p is (is_pointer negated left well)) refl)

  -- Says that comparing a pointer with null yields the comparison of the pointer's first word with 0.
  abbrev Tells : PointerOperator → (failing : Comparison) → (left v : Value) → (word : ℕ) → Type 0
  Tells u failing left v word = (n : ℕ) × (applies_pointer u left v k e w ≡ Running (Given (record { kind = kinds.Int; value = Int n })) k e w) × ((n == 0) ≡ compares failing word 0)

  null_decides : (t : Tables) (u : PointerOperator) (failing : Comparison) (i : Kind) (left v : Value) (words : Words) (p : ℕ) → null_failing u ≡ Some failing → Is t i left words p → IsWell (applies_pointer u left v k e w)
      → Tells u failing left v (words p)
  null_decides t pointers.ThinIsNull failing i left Null words p is at well = (reported false (words p) 0, null_reported t false i left words p at well, fails_by operators.Equal failing (words p) 0 is)
  null_decides t pointers.ThinIsNotNull failing i left Null words p is at well = (reported true (words p) 0, null_reported t true i left words p at well, fails_by operators.NotEqual failing (words p) 0 is)
  null_decides t pointers.FatIsNull failing i left Null words p is at well = (reported false (words p) 0, null_reported t false i left words p at well, fails_by operators.Equal failing (words p) 0 is)
  null_decides t pointers.FatIsNotNull failing i left Null words p is at well = (reported true (words p) 0, null_reported t true i left words p at well, fails_by operators.NotEqual failing (words p) 0 is)
  null_decides t pointers.ThinIsNull failing i left v words p is at well = absurd (well refl)
  null_decides t pointers.ThinIsNotNull failing i left v words p is at well = absurd (well refl)
  null_decides t pointers.FatIsNull failing i left v words p is at well = absurd (well refl)
  null_decides t pointers.FatIsNotNull failing i left v words p is at well = absurd (well refl)
  null_decides t u failing i left v words p is at well = absurd (none-some failing is)

  -- ---- all comparisons

  module _ (t : Tables) (s : StoreState) (related : objects.Related t (silent w) s) (apart : AreApart t (silent w)) where
    compares_thin : (negated : Bool) (i j : Kind) (left v : Value) (words others : Words) (p q : ℕ) → Is t i left words p → Is t j v others q
        → IsWell (tells negated (compared w left v) k e w) → tells negated (compared w left v) k e w ≡ gives_reported negated (words p) (others q)
    compares_thin negated i j left v words others p q is_left is well =
        let (equal, found) = is_reported negated (compared w left v) well in
        let (left_thin, thin) = are_thin w left v equal found in
        ap (λ x. tells negated x k e w) found
        ∙ tells_found negated equal (words p) (others q)
        (thin-compared related apart kinds.Nullable kinds.Nullable left v (words p) (others q) equal (thin_is t i left words p is_left left_thin) (thin_is t j v others q is thin) (same_compared w left v ∙ found))

    tests_left : (negated : Bool) (i : Kind) (left : Value) (words : Words) (p b : ℕ) → Is t i left words p → b ≡ 0 → IsWell (computed kinds.Int (null_test negated left) k e w)
        → computed kinds.Int (null_test negated left) k e w ≡ gives_reported negated (words p) b
    tests_left negated i left words p b is zero well =
        ap (λ (r : Result). computed kinds.Int r k e w) (null_on_right negated left (words p) b (pointer_has_word t i left words p is (is_pointer negated left well)) zero)

    tests_right : (negated : Bool) (j : Kind) (v : Value) (others : Words) (a q : ℕ) → Is t j v others q → a ≡ 0 → IsWell (computed kinds.Int (null_test negated v) k e w)
        → computed kinds.Int (null_test negated v) k e w ≡ gives_reported negated a (others q)
    tests_right negated j v others a q is zero well =
        ap (λ (r : Result). computed kinds.Int r k e w) (null_on_left negated v a (others q) (pointer_has_word t j v others q is (is_pointer negated v well)) zero)

    -- A comparison of pointers compares the first words of both operands.
    pub applies_reported : (u : PointerOperator) (i j : Kind) (left v : Value) (words others : Words) (p q : ℕ) → is_comparison u ≡ true → Is t i left words p → Is t j v others q
        → IsWell (applies_pointer u left v k e w) → applies_pointer u left v k e w ≡ gives_reported (is_negated u) (words p) (others q)
    applies_reported pointers.EqualThin i j left v words others p q test is_left is well = compares_thin false i j left v words others p q is_left is well
    applies_reported pointers.NotEqualThin i j left v words others p q test is_left is well = compares_thin true i j left v words others p q is_left is well
    applies_reported pointers.ThinIsNull i j left Null words others p q test is_left is well = tests_left false i left words p (others q) is_left (zero_word (others q) (pointer_has_word t j Null others q is tt)) well
    applies_reported pointers.ThinIsNotNull i j left Null words others p q test is_left is well = tests_left true i left words p (others q) is_left (zero_word (others q) (pointer_has_word t j Null others q is tt)) well
    applies_reported pointers.FatIsNull i j left Null words others p q test is_left is well = tests_left false i left words p (others q) is_left (zero_word (others q) (pointer_has_word t j Null others q is tt)) well
    applies_reported pointers.FatIsNotNull i j left Null words others p q test is_left is well = tests_left true i left words p (others q) is_left (zero_word (others q) (pointer_has_word t j Null others q is tt)) well
    applies_reported pointers.NullIs i j Null v words others p q test is_left is well = tests_right false j v others (words p) q is (zero_word (words p) (pointer_has_word t i Null words p is_left tt)) well
    applies_reported pointers.NullIsNot i j Null v words others p q test is_left is well = tests_right true j v others (words p) q is (zero_word (words p) (pointer_has_word t i Null words p is_left tt)) well
    applies_reported pointers.AddFat i j left v words others p q test is_left is well = absurd (let f : false ≡ true = test in cc)
    applies_reported pointers.SubtractFat i j left v words others p q test is_left is well = absurd (let f : false ≡ true = test in cc)
    applies_reported u i j left v words others p q test is_left is well = absurd (well refl)

-- ---- arithmetic

pub int_word : (t : Tables) (kind : Kind) (a : ℕ) (words : Words) (p : ℕ) → Is t kind (Int a) words p → words p ≡ a
int_word t kinds.Int a words p is = is
int_word t kinds.Char a words p is = is.0
int_word t kind a words p is = absurd is

-- The result of pointer arithmetic that changes the index by the function `change`.
pub record IsMoved (change : ℕ → ℕ) (v : Value) : Type 0 where
  pub value : Value
  pub gives : moved change v ≡ Gives value

pub is_moved : (change : ℕ → ℕ) (v : Value) (k : List Entry) (e : Environment) (w : World) → IsWell (computed kinds.Fat (moved change v) k e w) → IsMoved change v
is_moved change Null k e w well = record { value = Null; gives = refl }
is_moved change (Fat object start many index) k e w well = record { value = Fat object start many (change index); gives = refl }
is_moved change v k e w well = absurd (well refl)

-- Writing the changed index of a fat pointer changes no slot outside the three slots of the pointer.
pub outside_index : (slots : Words) (d x m : ℕ) → Outside d 3 m → put slots (d + 2) x m ≡ slots m
outside_index slots d x m (inl below) = put-other slots (d + 2) m x (λ same. absurd (omega (arith, same, below)))
outside_index slots d x m (inr above) = put-other slots (d + 2) m x (λ same. absurd (omega (arith, same, above)))

first_outside : (d m : ℕ) → Outside d 3 m → Outside d 2 m
first_outside d m (inl below) = inl below
first_outside d m (inr above) = inr (omega (arith, above))

-- The first two words of the fat pointer are not in the slot of its index.
copied_first : (slots : Words) (t d x i : ℕ) → i < 2 → (t + i ≡ d + 2 → ⊥) → copied (put slots (d + 2) x) t 2 (put slots (d + 2) x) d (d + i) ≡ slots (t + i)
copied_first slots t d x i below apart =
    copied-inside (put slots (d + 2) x) (put slots (d + 2) x) t 2 d i below ∙ put-other slots (d + 2) (t + i) x apart

-- ---- the steps

module _ (source : Program) (pages calls : ℕ) where
  -- The instruction of a pointer comparison yields the comparison of the words of its operands.
  compares_words : (u : PointerOperator) (l r : Operand) (d : ℕ) (choice : Choice) (c : Configuration) → is_comparison u ≡ true
      → performed (lower_program source) choice c (instructions.Binary (pointer_operator u) d l r)
      ≡ plain.Running (advanced (with_slots c (put c.active.slots d (reported (is_negated u) (operand_word c.active.slots l) (operand_word c.active.slots r)))))
  compares_words pointers.ThinIsNull l r d choice c test = refl
  compares_words pointers.ThinIsNotNull l r d choice c test = refl
  compares_words pointers.FatIsNull l r d choice c test = refl
  compares_words pointers.FatIsNotNull l r d choice c test = refl
  compares_words pointers.NullIs l r d choice c test = refl
  compares_words pointers.NullIsNot l r d choice c test = refl
  compares_words pointers.EqualThin l r d choice c test = refl
  compares_words pointers.NotEqualThin l r d choice c test = refl
  compares_words u l r d choice c test = absurd (let f : false ≡ true = test in cc)

  -- A pointer comparison whose operands are both available is computed.
  compares_pointers : (u : PointerOperator) (peek : Option ℕ) (left v : Kinded) (o : Operand) (d q : ℕ) (k : List Entry) (e : Environment) (w : World) (c : Configuration)
      → AreNamed source e.locals (callers k) w c.active.function c.active.base c.frames c.store → is_comparison u ≡ true → IsWell (applies_pointer u left.value v.value k e w)
      → (shared : SharedAt source pages calls k e w c) → DataIn source shared.tables c.active.slots k e w c → IsIn shared.tables v c.active.slots o
      → Is shared.tables left.kind left.value c.active.slots (top source c.active.function k) → Holds shared.tables c.active.slots (floor source c.active.function k) (held k)
      → At (code_of source c.active.function) c.active.next (instructions.Binary (pointer_operator u) d (operands.Slot (top source c.active.function k)) o) → c.active.next + 1 ≡ q
      → LandsStack source c.active.function e.locals kinds.Int d q c.frames k
      → IsMatched source pages calls (Running (Given v) (Needs (ApplyPointer peek u left) ∷ k) e w) (plain.Running c)
  compares_pointers u peek left v o d q k e w c names test well shared facts is is_left holds here end lands =
      let slots = c.active.slots in
      let free = top source c.active.function k in
      let (others, p, same, is_right) = in_words shared.tables v slots o is in
      let n = reported (is_negated u) (slots free) (operand_word slots o) in
      let does = applies_reported k e w shared.tables c.store shared.related (variables-apart source c.active.slots c.globals names shared.related facts.0) u left.kind v.kind left.value v.value slots others free p test is_left is_right well ∙ ap (λ x. gives_reported k e w (is_negated u) (slots free) x) same in
      by_one source pages calls does shared here
      (λ choice. subst (Matches source pages calls (Running (Given (record { kind = kinds.Int; value = Int n })) k e w)) (sym (compares_words u (operands.Slot free) o d choice c test))
      (landed_word source pages calls n n d k e w c q refl shared facts holds end lands))

  -- The index of the result is moved to a slot that holds neither of the first two words of the pointer.
  lands_apart : (g : ℕ) (locals : ℕ → Option ℕ) (d q : ℕ) (frames : List Frame) (k : List Entry) → LandsStack source g locals kinds.Fat d q frames k → (i : ℕ) → i < 2 → top source g k + i ≡ d + 2 → ⊥
  lands_apart g locals d q frames k (in_temporary least stack) i below same = absurd (omega (arith, below, same, least))
  lands_apart g locals d q frames k (in_local inside stack) i below same = absurd (omega (arith, below, same, inside, height-least (floor source g k) (held k), floor-least source g k))

  -- The index is moved to its destination, and the first two words of the fat pointer are moved with it.
  index_moves : (there : Bool) (u : PointerOperator) (peek : Option ℕ) (x : ℕ) (left v : Kinded) (value : Value) (o : Operand) (d q : ℕ) (k : List Entry) (e : Environment) (w : World) (c : Configuration)
      → (top source c.active.function k == d) ≡ there → step source (Running (Given v) (Needs (ApplyPointer peek u left) ∷ k) e w) ≡ Running (Given (record { kind = kinds.Fat; value = value })) k e w
      → ((choice : Choice) → performed (lower_program source) choice c (instructions.Binary (pointer_operator u) (d + 2) (operands.Slot (top source c.active.function k + 2)) o)
      ≡ plain.Running (advanced (with_slots c (put c.active.slots (d + 2) x))))
      → (shared : SharedAt source pages calls k e w c) → DataIn source shared.tables c.active.slots k e w c
      → ((after : Words) → after d ≡ c.active.slots (top source c.active.function k) → after (d + 1) ≡ c.active.slots (top source c.active.function k + 1) → after (d + 2) ≡ x → Is shared.tables kinds.Fat value after d)
      → Holds shared.tables c.active.slots (floor source c.active.function k) (held k)
      → At (code_of source c.active.function) c.active.next (instructions.Binary (pointer_operator u) (d + 2) (operands.Slot (top source c.active.function k + 2)) o)
      → FirstTwoAt (code_of source c.active.function) (bounds_at source c.active.function) (types_on source c.active.function k) there (top source c.active.function k) d (c.active.next + 1) q
      → LandsStack source c.active.function e.locals kinds.Fat d q c.frames k
      → IsMatched source pages calls (Running (Given v) (Needs (ApplyPointer peek u left) ∷ k) e w) (plain.Running c)
  index_moves true u peek x left v value o d q k e w c reported does performs shared facts is holds here end lands =
      let slots = c.active.slots in
      let t = top source c.active.function k in
      let after = put slots (d + 2) x in
      let same : t ≡ d = eqb-true t d reported in
      let result : Kinded = record { kind = kinds.Fat; value = value } in
      by_one source pages calls does shared here
      (λ choice. subst (Matches source pages calls (Running (Given result) k e w)) (sym (performs choice))
      (landed source pages calls result after d k e w c q shared
      (is after (put-other slots (d + 2) d x (λ h. absurd (omega (arith, h))) ∙ ap slots (sym same)) (put-other slots (d + 2) (d + 1) x (λ h. absurd (omega (arith, h))) ∙ ap (λ n. slots (n + 1)) (sym same)) (put-same slots (d + 2) x))
      (λ m out. outside_index slots d x m out) facts holds end lands))
  index_moves false u peek x left v value o d q k e w c reported does performs shared facts is holds here (move, end) lands =
      let slots = c.active.slots in
      let g = c.active.function in
      let t = top source g k in
      let before = put slots (d + 2) x in
      let after = copied before t 2 before d in
      let apart = lands_apart g e.locals d q c.frames k lands in
      let result : Kinded = record { kind = kinds.Fat; value = value } in
      let first : after d ≡ slots t = ap after (let e : d ≡ d + 0 = omega arith in e) ∙ copied_first slots t d x 0 (omega arith) (apart 0 (omega arith)) ∙ ap slots (let e : t + 0 ≡ t = omega arith in e) in
      by_two source pages calls (advanced (with_slots c before)) does shared shared here performs move (λ equal. omega (arith, equal))
      (λ choice. landed source pages calls result after d k e w (at c (c.active.next + 1)) q shared
      (is after first (copied_first slots t d x 1 (omega arith) (apart 1 (omega arith))) (copied-above before before t 2 d (d + 2) (omega arith) ∙ put-same slots (d + 2) x))
      (λ m out. copied_elsewhere before before t 2 d m (first_outside d m out) ∙ outside_index slots d x m out) facts holds end lands)

  -- The step of arithmetic on a fat pointer and an int.
  moves_index : (u : PointerOperator) (peek : Option ℕ) (change : ℕ → ℕ) (left v : Kinded) (o : Operand) (d q : ℕ) (k : List Entry) (e : Environment) (w : World) (c : Configuration)
      → step source (Running (Given v) (Needs (ApplyPointer peek u left) ∷ k) e w) ≡ computed kinds.Fat (moved change left.value) k e w → IsWell (computed kinds.Fat (moved change left.value) k e w)
      → ((choice : Choice) → performed (lower_program source) choice c (instructions.Binary (pointer_operator u) (d + 2) (operands.Slot (top source c.active.function k + 2)) o)
      ≡ plain.Running (advanced (with_slots c (put c.active.slots (d + 2) (change (c.active.slots (top source c.active.function k + 2)))))))
      → (shared : SharedAt source pages calls k e w c) → DataIn source shared.tables c.active.slots k e w c
      → Is shared.tables kinds.Fat left.value c.active.slots (top source c.active.function k) → Holds shared.tables c.active.slots (floor source c.active.function k) (held k)
      → IndexAt (code_of source c.active.function) (bounds_at source c.active.function) (types_on source c.active.function k) u o (top source c.active.function k) d c.active.next q
      → LandsStack source c.active.function e.locals kinds.Fat d q c.frames k
      → IsMatched source pages calls (Running (Given v) (Needs (ApplyPointer peek u left) ∷ k) e w) (plain.Running c)
  moves_index u peek change left v o d q k e w c does well performs shared facts is_left holds (here, rest) lands =
      let slots = c.active.slots in
      let t = top source c.active.function k in
      let result = is_moved change left.value k e w well in
      index_moves (t == d) u peek (change (slots (t + 2))) left v result.value o d q k e w c refl (does ∙ ap (λ (r : Result). computed kinds.Fat r k e w) result.gives) performs shared facts
      (λ after first second third. fat-moved shared.tables change left.value result.value slots after t d is_left result.gives first second third)
      holds here rest lands

  adds_to : (peek : Option ℕ) (left : Kinded) (j : Kind) (v : Value) (o : Operand) (d q : ℕ) (k : List Entry) (e : Environment) (w : World) (c : Configuration)
      → IsWell (applies_pointer pointers.AddFat left.value v k e w)
      → (shared : SharedAt source pages calls k e w c) → DataIn source shared.tables c.active.slots k e w c → IsIn shared.tables (record { kind = j; value = v }) c.active.slots o
      → Is shared.tables kinds.Fat left.value c.active.slots (top source c.active.function k) → Holds shared.tables c.active.slots (floor source c.active.function k) (held k)
      → IndexAt (code_of source c.active.function) (bounds_at source c.active.function) (types_on source c.active.function k) pointers.AddFat o (top source c.active.function k) d c.active.next q
      → LandsStack source c.active.function e.locals kinds.Fat d q c.frames k
      → IsMatched source pages calls (Running (Given (record { kind = j; value = v })) (Needs (ApplyPointer peek pointers.AddFat left) ∷ k) e w) (plain.Running c)
  adds_to peek left j (Int n) o d q k e w c well shared facts is is_left holds here lands =
      let slots = c.active.slots in
      let t = top source c.active.function k in
      let (others, p, same, is_right) = in_words shared.tables (record { kind = j; value = Int n }) slots o is in
      moves_index pointers.AddFat peek (λ index. add_of index n) left (record { kind = j; value = Int n }) o d q k e w c refl well
      (λ choice. ap (λ x. plain.Running (advanced (with_slots c (put slots (d + 2) (add_of (slots (t + 2)) x))))) (sym same ∙ int_word shared.tables j n others p is_right))
      shared facts is_left holds here lands
  adds_to peek left j v o d q k e w c well shared facts is is_left holds here lands = absurd (well refl)

  takes_from : (peek : Option ℕ) (left : Kinded) (j : Kind) (v : Value) (o : Operand) (d q : ℕ) (k : List Entry) (e : Environment) (w : World) (c : Configuration)
      → IsWell (applies_pointer pointers.SubtractFat left.value v k e w)
      → (shared : SharedAt source pages calls k e w c) → DataIn source shared.tables c.active.slots k e w c → IsIn shared.tables (record { kind = j; value = v }) c.active.slots o
      → Is shared.tables kinds.Fat left.value c.active.slots (top source c.active.function k) → Holds shared.tables c.active.slots (floor source c.active.function k) (held k)
      → IndexAt (code_of source c.active.function) (bounds_at source c.active.function) (types_on source c.active.function k) pointers.SubtractFat o (top source c.active.function k) d c.active.next q
      → LandsStack source c.active.function e.locals kinds.Fat d q c.frames k
      → IsMatched source pages calls (Running (Given (record { kind = j; value = v })) (Needs (ApplyPointer peek pointers.SubtractFat left) ∷ k) e w) (plain.Running c)
  takes_from peek left j (Int n) o d q k e w c well shared facts is is_left holds here lands =
      let slots = c.active.slots in
      let t = top source c.active.function k in
      let (others, p, same, is_right) = in_words shared.tables (record { kind = j; value = Int n }) slots o is in
      moves_index pointers.SubtractFat peek (λ index. sub_of index n) left (record { kind = j; value = Int n }) o d q k e w c refl well
      (λ choice. ap (λ x. plain.Running (advanced (with_slots c (put slots (d + 2) (sub_of (slots (t + 2)) x))))) (sym same ∙ int_word shared.tables j n others p is_right))
      shared facts is_left holds here lands
  takes_from peek left j v o d q k e w c well shared facts is is_left holds here lands = absurd (well refl)

  -- The step that applies a pointer operator whose operands are both available.
  pub applies_pointers : (u : PointerOperator) (peek : Option ℕ) (left v : Kinded) (o : Operand) (d q : ℕ) (k : List Entry) (e : Environment) (w : World) (c : Configuration) → AreNamed source e.locals (callers k) w c.active.function c.active.base c.frames c.store
      → IsWell (step source (Running (Given v) (Needs (ApplyPointer peek u left) ∷ k) e w))
      → (shared : SharedAt source pages calls k e w c) → DataIn source shared.tables c.active.slots k e w c → IsIn shared.tables v c.active.slots o
      → Is shared.tables left.kind left.value c.active.slots (top source c.active.function k) → Holds shared.tables c.active.slots (floor source c.active.function k) (held k)
      → (takes_kind u left.kind ≡ true) × PointerAt (code_of source c.active.function) (bounds_at source c.active.function) (types_on source c.active.function k) u o (top source c.active.function k) d c.active.next q
      → LandsStack source c.active.function e.locals (operator_kind u) d q c.frames k
      → IsMatched source pages calls (Running (Given v) (Needs (ApplyPointer peek u left) ∷ k) e w) (plain.Running c)
  applies_pointers pointers.AddFat peek left v o d q k e w c names well shared facts is is_left holds (takes, here) lands =
      adds_to peek left v.kind v.value o d q k e w c well shared facts is (subst (λ i. Is shared.tables i left.value c.active.slots (top source c.active.function k)) (same_kind left.kind kinds.Fat takes) is_left) holds here lands
  applies_pointers pointers.SubtractFat peek left v o d q k e w c names well shared facts is is_left holds (takes, here) lands =
      takes_from peek left v.kind v.value o d q k e w c well shared facts is (subst (λ i. Is shared.tables i left.value c.active.slots (top source c.active.function k)) (same_kind left.kind kinds.Fat takes) is_left) holds here lands
  applies_pointers pointers.ThinIsNull peek left v o d q k e w c names well shared facts is is_left holds (takes, (here, end)) lands = compares_pointers pointers.ThinIsNull peek left v o d q k e w c names refl well shared facts is is_left holds here end lands
  applies_pointers pointers.ThinIsNotNull peek left v o d q k e w c names well shared facts is is_left holds (takes, (here, end)) lands = compares_pointers pointers.ThinIsNotNull peek left v o d q k e w c names refl well shared facts is is_left holds here end lands
  applies_pointers pointers.FatIsNull peek left v o d q k e w c names well shared facts is is_left holds (takes, (here, end)) lands = compares_pointers pointers.FatIsNull peek left v o d q k e w c names refl well shared facts is is_left holds here end lands
  applies_pointers pointers.FatIsNotNull peek left v o d q k e w c names well shared facts is is_left holds (takes, (here, end)) lands = compares_pointers pointers.FatIsNotNull peek left v o d q k e w c names refl well shared facts is is_left holds here end lands
  applies_pointers pointers.NullIs peek left v o d q k e w c names well shared facts is is_left holds (takes, (here, end)) lands = compares_pointers pointers.NullIs peek left v o d q k e w c names refl well shared facts is is_left holds here end lands
  applies_pointers pointers.NullIsNot peek left v o d q k e w c names well shared facts is is_left holds (takes, (here, end)) lands = compares_pointers pointers.NullIsNot peek left v o d q k e w c names refl well shared facts is is_left holds here end lands
  applies_pointers pointers.EqualThin peek left v o d q k e w c names well shared facts is is_left holds (takes, (here, end)) lands = compares_pointers pointers.EqualThin peek left v o d q k e w c names refl well shared facts is is_left holds here end lands
  applies_pointers pointers.NotEqualThin peek left v o d q k e w c names well shared facts is is_left holds (takes, (here, end)) lands = compares_pointers pointers.NotEqualThin peek left v o d q k e w c names refl well shared facts is is_left holds here end lands

  -- The next jump, and no separate instruction, compares a pointer with null.
  pub tests_null : (peek : Option ℕ) (u : PointerOperator) (left v : Kinded) (failing : Comparison) (l : Operand) (k : List Entry) (e : Environment) (w : World) (c : Configuration) → null_failing u ≡ Some failing
      → IsWell (step source (Running (Given v) (Needs (ApplyPointer peek u left) ∷ k) e w)) → (shared : SharedAt source pages calls k e w c) → DataIn source shared.tables c.active.slots k e w c → IsIn shared.tables left c.active.slots l
      → Holds shared.tables c.active.slots (floor source c.active.function k) (held k) → ConditionStack source c.active.function failing l (operands.Word 0) c.active.next c.frames k
      → IsMatched source pages calls (Running (Given v) (Needs (ApplyPointer peek u left) ∷ k) e w) (plain.Running c)
  tests_null peek u left v failing l k e w c is well shared facts is_left holds stack =
      let (words, p, same, at) = in_words shared.tables left c.active.slots l is_left in
      let (n, does, fails) = null_decides k e w shared.tables u failing left.kind left.value v.value words p is at well in
      silently source pages calls (Running (Given v) (Needs (ApplyPointer peek u left) ∷ k) e w) (Running (Given (record { kind = kinds.Int; value = Int n })) k e w) (plain.Running c) does
      (shared, given_compared source pages calls shared.tables (record { kind = kinds.Int; value = Int n }) failing l (operands.Word 0) k e w c (compares failing (words p) 0) (ap Some fails) (ap (λ x. compares failing x 0) (sym same)) facts holds stack)
      (omega arith)

  -- The next jump, and no separate instruction, compares two pointers.
  pub tests_pointers : (peek : Option ℕ) (u : PointerOperator) (left v : Kinded) (failing : Comparison) (l r : Operand) (k : List Entry) (e : Environment) (w : World) (c : Configuration)
      → AreNamed source e.locals (callers k) w c.active.function c.active.base c.frames c.store → pointers_failing u ≡ Some failing
      → IsWell (step source (Running (Given v) (Needs (ApplyPointer peek u left) ∷ k) e w)) → (shared : SharedAt source pages calls k e w c) → DataIn source shared.tables c.active.slots k e w c
      → IsIn shared.tables left c.active.slots l → IsIn shared.tables v c.active.slots r
      → Holds shared.tables c.active.slots (floor source c.active.function k) (held k) → ConditionStack source c.active.function failing l r c.active.next c.frames k
      → IsMatched source pages calls (Running (Given v) (Needs (ApplyPointer peek u left) ∷ k) e w) (plain.Running c)
  tests_pointers peek u left v failing l r k e w c names is well shared facts is_left is_right holds stack =
      let slots = c.active.slots in
      let (words, p, same, at) = in_words shared.tables left slots l is_left in
      let (others, q, same_right, at_right) = in_words shared.tables v slots r is_right in
      let n = reported (is_negated u) (words p) (others q) in
      let does = applies_reported k e w shared.tables c.store shared.related (variables-apart source slots c.globals names shared.related facts.0) u left.kind v.kind left.value v.value words others p q (pointers_compare u failing is) at at_right well in
      silently source pages calls (Running (Given v) (Needs (ApplyPointer peek u left) ∷ k) e w) (Running (Given (record { kind = kinds.Int; value = Int n })) k e w) (plain.Running c) does (
        shared,
        given_compared source pages calls shared.tables (record { kind = kinds.Int; value = Int n }) failing l r k e w c (compares failing (words p) (others q)) (ap Some (pointers_fail u failing (words p) (others q) is))
            (ap (λ x. compares failing x (operand_word slots r)) (sym same) ∙ ap (compares failing (words p)) (sym same_right)) facts holds stack,
      )
      (omega arith)

  -- The right operand of a pointer operator is evaluated after the left operand.
  pub right_follows : (peek : Option ℕ) (u : PointerOperator) (b : Expression) (os : Operations) (v : Kinded) (k : List Entry) (e : Environment) (w : World) (c : Configuration) (r : Operand) (m d q : ℕ) → takes_kind u v.kind ≡ true
      → (t : Tables) → Is t v.kind v.value c.active.slots (top source c.active.function k) → Holds t c.active.slots (floor source c.active.function k) (held k)
      → ValueAt (code_of source c.active.function) (bounds_at source c.active.function) (types_on source c.active.function k) b (after_left u (top source c.active.function k)) r c.active.next m
      → PointerAt (code_of source c.active.function) (bounds_at source c.active.function) (types_on source c.active.function k) u r (top source c.active.function k) d m q
      → LandsStack source c.active.function e.locals (operator_kind u) d q c.frames (Needs (Chain os) ∷ k)
      → EvaluatingAt source t b e.locals c.active.function c.active.next c.active.slots c.frames (Needs (ApplyPointer peek u v) ∷ Needs (Chain os) ∷ k)
  right_follows peek u b os v k e w c r m d q takes t is holds at_b here lands =
      let g = c.active.function in
      as_operand r m
      (subst (λ n. ValueAt (code_of source g) (bounds_at source g) (types_on source g k) b n r c.active.next m) (ap (λ n. top source g k + n) (sym (left_words u v.kind takes))) at_b)
      (is, holds) (to_slot (d, q, (takes, here), lands))
