-- This file is about the relation between values and their words, and about the effect of operators on the words.
use Rattle.std.proofs.Common.{◌≡◌, ◌≢◌, ℕ, ◌+◌, Bool, true, false, not, List, None, Some, slice_get, refl, sym, ap, ◌∙◌, arith, inl, inr, ◌%◌}
use Rattle.std.specs.Prelude.{ℤ, nat_lt, ◌==◌, ◌<ℤ◌, ◌≤ℤ◌, int_le, if◌then◌else◌}
use Rattle.std.proofs.lemmas.Int.{ints}
use Rattle.std.proofs.lemmas.Bool.{eqb-true, false_from_ne_true}
use Rattle.std.proofs.lemmas.Option.{same_Some, none-some}
use Rattle.cyc_words.specs.Word.{signed, slt_of}
use Rattle.cyc_words.proofs.WordLemmas.{slt_of_cases}
use Rattle.cyc_words.proofs.Booleans.{not_not}
use Rattle.cyc_types.specs.declared.typed.Kind.{Kind}
use Rattle.cyc_types.specs.declared.typed.Kind.TheVariants as kinds
use Rattle.cyc_types.specs.declared.typed.Operator.{Operator}
use Rattle.cyc_types.specs.declared.typed.Operator.TheVariants as operators
use Rattle.cyc_plain.specs.declared.instruction.Comparison.{Comparison}
use Rattle.cyc_plain.specs.declared.instruction.Comparison.TheVariants as comparisons
use Rattle.cyc_plain.specs.declared.instruction.Operand.{Operand}
use Rattle.cyc_plain.specs.declared.instruction.Operand.TheVariants as operands
use Rattle.cyc_plain.specs.declared.instruction.Instruction.{Instruction}
use Rattle.cyc_plain.specs.inside.Operators.{truth, compares}
use Rattle.cyc_plain.specs.inside.State as plain
use Rattle.cyc_plain.specs.inside.State.{Words, Configuration}
use Rattle.cyc_plain.specs.inside.Step.{operand_word, gives, at, branches}
use Rattle.cyc_plain.specs.inside.Straight.{At}
use Rattle.cyc_meaning.specs.Values.{Value, Int, Null, Thin, Fat, Handle, Key, Operand as Kinded, is_thin, words_of_kind}
use Rattle.cyc_meaning.specs.Operators.{Result, Gives, Raises, Misfits, binary_word, is_zero, array_bounds}
use Rattle.cyc_meaning.specs.Conversion.{conversion}
use Rattle.cyc_meaning.specs.State.{World}
use Rattle.cyc_meaning.specs.Step.{wrong}
use Rattle.cyc_lower_proof.specs.inside.ValueCode.{failing_comparison, converts_there}
use Rattle.cyc_lower_proof.specs.inside.ControlCode.{opposite}
use Rattle.cyc_memory_relation.specs.inside.Tables.{Tables}
use Rattle.cyc_memory_relation.specs.inside.Words.{Is}
use Rattle.cyc_memory_relation.proofs.Pointers.{not-null, part-not-null, same_value}
use Rattle.cyc_lower_proof.proofs.relation.contents.HeldValues.{IsWord, IsIn}
use Rattle.cyc_lower_proof.proofs.relation.contents.Data.{in_words, IsWord-is, points_in, null_at, points_at}
use Rattle.cyc_lower_proof.proofs.relation.simulation.Accesses.{IsWell}
use Rattle.cyc_words.proofs.Integers.{not_int_le}

-- A value together with its representation kind (int, char, pointer, ..).
abbrev pub of_kind : Kind → Value → Kinded
of_kind kind v = record { kind = kind; value = v }

abbrev pub int_of : ℕ → Kinded
int_of word = of_kind kinds.Int (Int word)

-- a conversion to a thin pointer does not yield a fat pointer
not_thinned : (object start index : ℕ) (b : Bool) {many : ℕ} → (let r : Result = if b then Gives (Thin object (start + index)) else Raises array_bounds in r) ≡ Gives (Fat object start many index) → ⊥
not_thinned object start index true gives = let f : Gives (Thin object (start + index)) ≡ Gives (Fat object start _ index) = gives in cc
not_thinned object start index false gives = let f : Raises array_bounds ≡ Gives (Fat object start _ index) = gives in cc

-- The facts about words that follow from the value that they represent.
module _ (t : Tables) where
  -- The first word of a value is 0 exactly if the value is zero or null.
  zero_at : (kind : Kind) (v : Value) (words : Words) (p : ℕ) → (is_zero v ≡ None → ⊥) → Is t kind v words p → is_zero v ≡ Some (words p == 0)
  zero_at kinds.Int (Int a) words p some is = ap (λ y. Some (y == 0)) (sym is)
  zero_at kinds.Char (Int a) words p some is = ap (λ y. Some (y == 0)) (sym is.0)
  zero_at kinds.Nullable Null words p some is = ap (λ y. Some (y == 0)) (sym is)
  zero_at kinds.Nullable (Thin object offset) words p some is = ap Some (sym (false_from_ne_true (words p == 0) (λ h. not-null is (eqb-true (words p) 0 h))))
  zero_at kinds.NonNull (Thin object offset) words p some is = ap Some (sym (false_from_ne_true (words p == 0) (λ h. not-null is (eqb-true (words p) 0 h))))
  zero_at kinds.Fat Null words p some is = ap (λ y. Some (y == 0)) (sym is.0)
  zero_at kinds.Fat (Fat object start many index) words p some is = ap Some (sym (false_from_ne_true (words p == 0) (λ h. part-not-null is.0 (eqb-true (words p) 0 h))))
  zero_at kinds.Handle (Handle region) words p some is = absurd (some refl)
  zero_at kinds.Key (Key region) words p some is = absurd (some refl)
  zero_at kind v words p some is = absurd is

  pub zero_is : (v : Kinded) (slots : Words) (o : Operand) → (is_zero v.value ≡ None → ⊥) → IsIn t v slots o → is_zero v.value ≡ Some (operand_word slots o == 0)
  zero_is v slots o some is =
      let (words, p, same, is_it) = in_words t v slots o is in
      zero_at v.kind v.value words p some is_it ∙ ap (λ x. Some (x == 0)) same

  -- An int is represented by its own word, and null by the word 0.
  pub int_at : (kind : Kind) (a : ℕ) (words : Words) (p : ℕ) → Is t kind (Int a) words p → words p ≡ a
  int_at kinds.Int a words p is = is
  int_at kinds.Char a words p is = is.0
  int_at kind a words p is = absurd is

  pub int_is : (kind : Kind) (a : ℕ) (slots : Words) (o : Operand) → IsIn t (of_kind kind (Int a)) slots o → operand_word slots o ≡ a
  int_is kind a slots o is =
      let (words, p, same, is_it) = in_words t (of_kind kind (Int a)) slots o is in
      sym same ∙ int_at kind a words p is_it

  -- A char that is used as an int is represented by the same slot or constant as before.
  pub int_in : (kind : Kind) (a : ℕ) (slots : Words) (o : Operand) → IsIn t (of_kind kind (Int a)) slots o → IsIn t (int_of a) slots o
  int_in kind a slots (operands.Slot n) is = int_at kind a slots n is
  int_in kind a slots (operands.Word w) is = int_is kind a slots (operands.Word w) is

  pub char_low : (a : ℕ) (slots : Words) (o : Operand) → IsIn t (of_kind kinds.Char (Int a)) slots o → a % 256 ≡ a
  char_low a slots o is =
      let (words, p, same, is_it) = in_words t (of_kind kinds.Char (Int a)) slots o is in
      omega (arith, is_it.1)

  -- the address of a cell is not 0
  pub not_zero : (kind : Kind) (object offset : ℕ) (slots : Words) (o : Operand) → IsIn t (of_kind kind (Thin object offset)) slots o → (operand_word slots o == 0) ≡ false
  not_zero kind object offset slots o is =
      false_from_ne_true (operand_word slots o == 0) (λ h. not-null (points_in t kind object offset slots o is) (eqb-true (operand_word slots o) 0 h))

  part_at : (kind : Kind) (object start many index : ℕ) (words : Words) (p : ℕ) → Is t kind (Fat object start many index) words p → Is t kinds.Fat (Fat object start many index) words p
  part_at kinds.Fat object start many index words p is = is
  part_at kind object start many index words p is = absurd is

  -- a thin pointer has one word, and a fat pointer has three
  thin_words : (kind : Kind) (object offset : ℕ) (words : Words) (p : ℕ) → Is t kind (Thin object offset) words p → words_of_kind kind ≡ 1
  thin_words kinds.Nullable object offset words p is = refl
  thin_words kinds.NonNull object offset words p is = refl
  thin_words kind object offset words p is = absurd is

  fat_words : (kind : Kind) (object start many index : ℕ) (words : Words) (p : ℕ) → Is t kind (Fat object start many index) words p → words_of_kind kind ≡ 3
  fat_words kinds.Fat object start many index words p is = refl
  fat_words kind object start many index words p is = absurd is

  pub not_widened : (kind : Kind) (object offset : ℕ) (words : Words) (p : ℕ) → Is t kind (Thin object offset) words p → words_of_kind kind ≡ words_of_kind kinds.Fat → ⊥
  not_widened kind object offset words p is wide = omega (arith, wide, thin_words kind object offset words p is)

  pub not_narrowed : (kind : Kind) (object start many index : ℕ) (words : Words) (p : ℕ) → Is t kind (Fat object start many index) words p → words_of_kind kind ≡ 1 → ⊥
  not_narrowed kind object start many index words p is wide = omega (arith, wide, fat_words kind object start many index words p is)

  -- a value of a thin kind is not a fat pointer
  pub not_fat : (kind : Kind) (object start many index : ℕ) (words : Words) (p : ℕ) → is_thin kind ≡ true → Is t kind (Fat object start many index) words p → ⊥
  not_fat kinds.Fat object start many index words p thin is = let f : false ≡ true = thin in cc
  not_fat kind object start many index words p thin is = is

  handle_at : (kind : Kind) (region : ℕ) (words : Words) (p : ℕ) → Is t kind (Handle region) words p → Is t kinds.Handle (Handle region) words p
  handle_at kinds.Handle region words p is = is
  handle_at kind region words p is = absurd is

  key_at : (kind : Kind) (region : ℕ) (words : Words) (p : ℕ) → Is t kind (Key region) words p → Is t kinds.Key (Key region) words p
  key_at kinds.Key region words p is = is
  key_at kind region words p is = absurd is

  -- A value in one word does not have a representation kind (int, char, pointer, ..) whose values have three words.
  no_fat : (kind : Kind) (v : Value) (w : ℕ) → words_of_kind kind ≡ 3 → IsWord t kind v w → ⊥
  no_fat kinds.Fat v w wide is = is
  no_fat kinds.Int v w wide is = omega (arith, wide)
  no_fat kinds.Char v w wide is = omega (arith, wide)
  no_fat kinds.Nullable v w wide is = omega (arith, wide)
  no_fat kinds.NonNull v w wide is = omega (arith, wide)
  no_fat kinds.Handle v w wide is = omega (arith, wide)
  no_fat kinds.Key v w wide is = omega (arith, wide)

  -- Null in three words is the null fat pointer.
  fat_null : (kind : Kind) (words : Words) (p : ℕ) → words_of_kind kind ≡ 3 → Is t kind Null words p → Is t kinds.Fat Null words p
  fat_null kinds.Fat words p wide is = is
  fat_null kinds.Nullable words p wide is = absurd (omega (arith, wide))
  fat_null kind words p wide is = absurd is

  -- If a conversion does not change a value, then the words that represent the value before the conversion
  -- represent it after the conversion.
  pub kept_at : (from to : Kind) (v : Value) (words : Words) (p : ℕ) → words_of_kind from ≡ words_of_kind to → conversion to v ≡ Gives v → Is t from v words p → Is t to v words p
  kept_at from kinds.Int (Int a) words p wide gives is = int_at from a words p is
  kept_at from kinds.Char (Int a) words p wide gives is =
      let same : Int (a % 256) ≡ Int a = same_value gives in
      let low : a % 256 ≡ a = cc in
      (int_at from a words p is, omega (arith, low))
  kept_at from kinds.Nullable Null words p wide gives is = null_at t from words p is
  kept_at from kinds.Fat Null words p wide gives is = fat_null from words p wide is
  kept_at from kinds.NonNull Null words p wide gives is = absurd (let f : Raises 1 ≡ Gives Null = gives in cc)
  kept_at from kinds.Nullable (Thin object offset) words p wide gives is = points_at t from object offset words p is
  kept_at from kinds.NonNull (Thin object offset) words p wide gives is = points_at t from object offset words p is
  kept_at from kinds.Fat (Thin object offset) words p wide gives is = absurd (let f : Gives (Fat object offset 1 0) ≡ Gives (Thin object offset) = gives in cc)
  kept_at from kinds.Fat (Fat object start many index) words p wide gives is = part_at from object start many index words p is
  kept_at from kinds.Nullable (Fat object start many index) words p wide gives is = absurd (not_thinned object start index (nat_lt index many) gives)
  kept_at from kinds.NonNull (Fat object start many index) words p wide gives is = absurd (not_thinned object start index (nat_lt index many) gives)
  kept_at from kinds.Handle (Handle region) words p wide gives is = handle_at from region words p is
  kept_at from kinds.Key (Key region) words p wide gives is = key_at from region words p is
  kept_at from to v words p wide gives is = absurd (let f : Misfits ≡ Gives v = gives in cc)

  kept_word : (from to : Kind) (v : Value) (w : ℕ) → words_of_kind from ≡ words_of_kind to → conversion to v ≡ Gives v → IsWord t from v w → IsWord t to v w
  kept_word from kinds.Fat v w wide gives is = absurd (no_fat from v w wide is)
  kept_word from kinds.Char v w wide gives is = kept_at from kinds.Char v (λ (i : ℕ). w) 0 wide gives (IsWord-is t from v w (λ (i : ℕ). w) 0 refl is)
  kept_word from kinds.Int v w wide gives is = kept_at from kinds.Int v (λ (i : ℕ). w) 0 wide gives (IsWord-is t from v w (λ (i : ℕ). w) 0 refl is)
  kept_word from kinds.Nullable v w wide gives is = kept_at from kinds.Nullable v (λ (i : ℕ). w) 0 wide gives (IsWord-is t from v w (λ (i : ℕ). w) 0 refl is)
  kept_word from kinds.NonNull v w wide gives is = kept_at from kinds.NonNull v (λ (i : ℕ). w) 0 wide gives (IsWord-is t from v w (λ (i : ℕ). w) 0 refl is)
  kept_word from kinds.Handle v w wide gives is = kept_at from kinds.Handle v (λ (i : ℕ). w) 0 wide gives (IsWord-is t from v w (λ (i : ℕ). w) 0 refl is)
  kept_word from kinds.Key v w wide gives is = kept_at from kinds.Key v (λ (i : ℕ). w) 0 wide gives (IsWord-is t from v w (λ (i : ℕ). w) 0 refl is)

  pub kept_in : (from to : Kind) (v : Value) (slots : Words) (o : Operand) → words_of_kind from ≡ words_of_kind to → conversion to v ≡ Gives v → IsIn t (of_kind from v) slots o → IsIn t (of_kind to v) slots o
  kept_in from to v slots (operands.Slot n) wide gives is = kept_at from to v slots n wide gives is
  kept_in from to v slots (operands.Word w) wide gives is = kept_word from to v w wide gives is

-- A value that may be converted at its destination has as many words before the conversion as after it.
pub as_wide : (from to : Kind) → converts_there from to ≡ true → words_of_kind from ≡ words_of_kind to
as_wide from kinds.NonNull quiet = absurd (let f : false ≡ true = quiet in cc)
as_wide from kinds.Int quiet = eqb-true (words_of_kind from) (words_of_kind kinds.Int) quiet
as_wide from kinds.Char quiet = eqb-true (words_of_kind from) (words_of_kind kinds.Char) quiet
as_wide from kinds.Nullable quiet = eqb-true (words_of_kind from) (words_of_kind kinds.Nullable) quiet
as_wide from kinds.Fat quiet = eqb-true (words_of_kind from) (words_of_kind kinds.Fat) quiet
as_wide from kinds.Handle quiet = eqb-true (words_of_kind from) (words_of_kind kinds.Handle) quiet
as_wide from kinds.Key quiet = eqb-true (words_of_kind from) (words_of_kind kinds.Key) quiet

pub goes_wrong : (fits : Bool) (w : World) → IsWell (if fits then wrong w else wrong w) → ⊥
goes_wrong true w well = well refl
goes_wrong false w well = well refl

-- ---- comparisons

not_less : (a b : ℕ) → (slt_of a b == 0) ≡ int_le (signed b) (signed a)
not_less a b = elim (slt_of_cases a b) [
  | inl (one, less) ↦ ap (λ x. x == 0) one ∙ sym (above (signed a) (signed b) less)
  | inr (none, fine) ↦ ap (λ x. x == 0) none ∙ sym (at_most (signed a) (signed b) fine)
]
  where
    above : (x y : ℤ) → x <ℤ y → int_le y x ≡ false
    above x y less = grind (arith, ints)

    at_most : (x y : ℤ) → y ≤ℤ x → int_le y x ≡ true
    at_most x y fine = grind (arith, ints)

pub untrue : (b : Bool) → (truth b == 0) ≡ not b
untrue true = refl
untrue false = refl

-- The result of a comparison operator is 0 exactly if the opposite comparison of its operands holds.
pub fails_by : (u : Operator) (failing : Comparison) (a b : ℕ) → failing_comparison u ≡ Some failing → (binary_word u a b == 0) ≡ compares failing a b
fails_by operators.Equal failing a b is = untrue (a == b) ∙ ap (λ f. compares f a b) (same_Some comparisons.NotEqual failing is)
fails_by operators.NotEqual failing a b is = untrue (not (a == b)) ∙ not_not (a == b) ∙ ap (λ f. compares f a b) (same_Some comparisons.Equal failing is)
fails_by operators.Less failing a b is = not_less a b ∙ ap (λ f. compares f a b) (same_Some comparisons.GreaterOrEqual failing is)
fails_by operators.LessOrEqual failing a b is =
    untrue (int_le (signed a) (signed b)) ∙ not_int_le (signed a) (signed b) ∙ ap (λ f. compares f a b) (same_Some comparisons.Greater failing is)
fails_by operators.Greater failing a b is = not_less b a ∙ ap (λ f. compares f a b) (same_Some comparisons.LessOrEqual failing is)
fails_by operators.GreaterOrEqual failing a b is =
    untrue (int_le (signed b) (signed a)) ∙ not_int_le (signed b) (signed a) ∙ ap (λ f. compares f a b) (same_Some comparisons.Less failing is)
fails_by u failing a b is = absurd (none-some failing is)

-- The opposite of a comparison holds exactly if the comparison fails.
pub opposed : (c : Comparison) (a b : ℕ) → compares (opposite c) a b ≡ not (compares c a b)
opposed comparisons.Equal a b = refl
opposed comparisons.NotEqual a b = sym (not_not (a == b))
opposed comparisons.Less a b = sym (ap not (sym (not_int_le (signed b) (signed a))) ∙ not_not (int_le (signed b) (signed a)))
opposed comparisons.LessOrEqual a b = sym (not_int_le (signed a) (signed b))
opposed comparisons.Greater a b = sym (ap not (sym (not_int_le (signed a) (signed b))) ∙ not_not (int_le (signed a) (signed b)))
opposed comparisons.GreaterOrEqual a b = sym (not_int_le (signed b) (signed a))
opposed comparisons.LessUnsigned a b = grind arith
opposed comparisons.GreaterOrEqualUnsigned a b = grind arith

pub opposite_twice : (c : Comparison) → opposite (opposite c) ≡ c
opposite_twice comparisons.Equal = refl
opposite_twice comparisons.NotEqual = refl
opposite_twice comparisons.Less = refl
opposite_twice comparisons.LessOrEqual = refl
opposite_twice comparisons.Greater = refl
opposite_twice comparisons.GreaterOrEqual = refl
opposite_twice comparisons.LessUnsigned = refl
opposite_twice comparisons.GreaterOrEqualUnsigned = refl

-- Two different instructions are at two different code positions.
pub other_place : (code : List Instruction) (p q : ℕ) (i j : Instruction) → At code p i → At code q j → i ≢ j → p ≢ q
other_place code p q i j at_p at_q other same = other (same_Some i j (sym at_p ∙ ap (slice_get code) same ∙ at_q))

-- The configuration after a branch that is taken, and the configuration after a branch that is not taken.
pub branch_taken : (c : Configuration) (b : Bool) (target : ℕ) → b ≡ true → branches c b target ≡ plain.Running (at c target)
branch_taken c b target is = ap (λ (x : Bool). branches c x target) is

pub branch_passed : (c : Configuration) (b : Bool) (target : ℕ) → b ≡ false → branches c b target ≡ plain.Running (at c (c.active.next + 1))
branch_passed c b target is = ap (λ (x : Bool). branches c x target) is
