-- The truth of facts: of equal facts, of preserved facts, and of facts that follow from known ones.
use Rattle.std.proofs.Common.{◌≡◌, ◌≢◌, ℕ, zero, suc, ◌+◌, ◌-◌, ◌^◌, ◌<◌, ◌≤◌, Bool, true, false, ◌&&◌, List, [], ◌∷◌, drop, length, Option, Some, None, refl, sym, ap, subst, ◌∙◌, arith, inl, inr}
use Rattle.std.specs.Prelude.{◌==◌, not, nat_le, nat_lt, if◌then◌else◌}
use Rattle.std.proofs.lemmas.Bool.{and_parts, and_from, and_right, or_cases, eqb-true, eq-eqb, ltb-true, leb-true, le-ltb, cases_lt, not_from_false, false≢true, cond_both, cond-true}
use Rattle.cyc_words.specs.Word.{add_of}
use Rattle.cyc_words.proofs.Lists.{all_append}
use Rattle.cyc_plain.specs.declared.instruction.Instruction.{Instruction}
use Rattle.cyc_plain.specs.declared.instruction.Instruction.TheVariants as instructions
use Rattle.cyc_plain.specs.declared.instruction.Operand.{Operand}
use Rattle.cyc_plain.specs.declared.instruction.Operand.TheVariants as operands
use Rattle.cyc_plain.specs.declared.instruction.BinaryOperator.{BinaryOperator}
use Rattle.cyc_plain.specs.declared.instruction.BinaryOperator.TheVariants as binary
use Rattle.cyc_plain.specs.declared.instruction.Comparison.{Comparison}
use Rattle.cyc_plain.specs.declared.instruction.Comparison.TheVariants as comparisons
use Rattle.cyc_plain.specs.inside.Operators.{binary_result, has_no_result, compares}
use Rattle.cyc_plain.specs.inside.State.{Words}
use Rattle.cyc_plain.specs.inside.Step.{operand_word}
use Rattle.cyc_plain.specs.inside.Uses.{is_among}
use Rattle.cyc_propagation.specs.declared.fact.Fact.{Fact}
use Rattle.cyc_propagation.specs.declared.fact.Fact.TheVariants as facts_are
use Rattle.cyc_propagation.specs.declared.fact.Touched.{Touched}
use Rattle.cyc_propagation.specs.declared.fact.Touched.TheVariants as touches
use Rattle.cyc_propagation.specs.declared.fact.Written.{Written}
use Rattle.cyc_propagation.specs.declared.fact.TheConstants.{MOST_FACTS}
use Rattle.cyc_propagation.specs.inside.Facts.{Scene, found, IsTrueIn, AreTrueIn, IsTrueIfAny, operator_number, comparison_number, is_same_operator, is_same_comparison, is_same_operand, is_same_word}
use Rattle.cyc_propagation.specs.inside.Facts.{is_same_fact, is_known, is_free, are_free, suits_operand, suits, are_suited, leaves_slot, leaves_operand, are_apart, is_untouched, keeps, kept, suited}
use Rattle.cyc_propagation.specs.inside.Facts.{made, tested, remembered, are_copied, copied, with_copies, IsMade}

-- ---- equality of facts

operator_of : ℕ → BinaryOperator
operator_of zero = binary.Add
operator_of (suc zero) = binary.Subtract
operator_of (suc (suc zero)) = binary.Multiply
operator_of (suc (suc (suc zero))) = binary.Divide
operator_of (suc (suc (suc (suc zero)))) = binary.Remainder
operator_of (suc (suc (suc (suc (suc zero))))) = binary.And
operator_of (suc (suc (suc (suc (suc (suc zero)))))) = binary.Or
operator_of (suc (suc (suc (suc (suc (suc (suc zero))))))) = binary.Xor
operator_of (suc (suc (suc (suc (suc (suc (suc (suc zero)))))))) = binary.ShiftLeft
operator_of (suc (suc (suc (suc (suc (suc (suc (suc (suc zero))))))))) = binary.ShiftRight
operator_of (suc (suc (suc (suc (suc (suc (suc (suc (suc (suc zero)))))))))) = binary.Equal
operator_of (suc (suc (suc (suc (suc (suc (suc (suc (suc (suc (suc zero))))))))))) = binary.NotEqual
operator_of (suc (suc (suc (suc (suc (suc (suc (suc (suc (suc (suc (suc zero)))))))))))) = binary.Less
operator_of (suc (suc (suc (suc (suc (suc (suc (suc (suc (suc (suc (suc (suc zero))))))))))))) = binary.LessOrEqual
operator_of (suc (suc (suc (suc (suc (suc (suc (suc (suc (suc (suc (suc (suc (suc zero)))))))))))))) = binary.Greater
operator_of other = binary.GreaterOrEqual

operator_there : (operator : BinaryOperator) → operator_of (operator_number operator) ≡ operator
unfolding operator_of
operator_there binary.Add = refl
operator_there binary.Subtract = refl
operator_there binary.Multiply = refl
operator_there binary.Divide = refl
operator_there binary.Remainder = refl
operator_there binary.And = refl
operator_there binary.Or = refl
operator_there binary.Xor = refl
operator_there binary.ShiftLeft = refl
operator_there binary.ShiftRight = refl
operator_there binary.Equal = refl
operator_there binary.NotEqual = refl
operator_there binary.Less = refl
operator_there binary.LessOrEqual = refl
operator_there binary.Greater = refl
operator_there binary.GreaterOrEqual = refl

pub same_operator : (one other : BinaryOperator) → is_same_operator one other ≡ true → one ≡ other
same_operator one other same =
    sym (operator_there one) ∙ ap operator_of (eqb-true (operator_number one) (operator_number other) same) ∙ operator_there other

comparison_of : ℕ → Comparison
comparison_of zero = comparisons.Equal
comparison_of (suc zero) = comparisons.NotEqual
comparison_of (suc (suc zero)) = comparisons.Less
comparison_of (suc (suc (suc zero))) = comparisons.LessOrEqual
comparison_of (suc (suc (suc (suc zero)))) = comparisons.Greater
comparison_of (suc (suc (suc (suc (suc zero))))) = comparisons.GreaterOrEqual
comparison_of (suc (suc (suc (suc (suc (suc zero)))))) = comparisons.LessUnsigned
comparison_of other = comparisons.GreaterOrEqualUnsigned

comparison_there : (comparison : Comparison) → comparison_of (comparison_number comparison) ≡ comparison
unfolding comparison_of
comparison_there comparisons.Equal = refl
comparison_there comparisons.NotEqual = refl
comparison_there comparisons.Less = refl
comparison_there comparisons.LessOrEqual = refl
comparison_there comparisons.Greater = refl
comparison_there comparisons.GreaterOrEqual = refl
comparison_there comparisons.LessUnsigned = refl
comparison_there comparisons.GreaterOrEqualUnsigned = refl

pub same_comparison : (one other : Comparison) → is_same_comparison one other ≡ true → one ≡ other
same_comparison one other same =
    sym (comparison_there one) ∙ ap comparison_of (eqb-true (comparison_number one) (comparison_number other) same) ∙ comparison_there other

pub same_operand : (one other : Operand) → is_same_operand one other ≡ true → one ≡ other
same_operand (operands.Slot number) (operands.Slot other) same = ap operands.Slot (eqb-true number other same)
same_operand (operands.Word word) (operands.Word other) same = ap operands.Word (eqb-true word other same)
same_operand (operands.Slot number) (operands.Word word) same = absurd (false≢true same)
same_operand (operands.Word word) (operands.Slot number) same = absurd (false≢true same)

-- Equal references to memory read equal words.
pub found_same : (scene : Scene) (address : Operand) (offset : ℕ) (other : Operand) (further : ℕ) → is_same_word address offset other further ≡ true
    → found scene other further ≡ found scene address offset
found_same scene address offset other further same =
    let (a, o) = and_parts (is_same_operand address other) (offset == further) same in
    ap (λ (x : Operand). found scene x further) (sym (same_operand address other a)) ∙ ap (found scene address) (sym (eqb-true offset further o))

-- If two facts are equal and one is true, the other is true.
pub same_fact : (scene : Scene) (one other : Fact) → is_same_fact one other ≡ true → IsTrueIn scene one → IsTrueIn scene other
same_fact scene (facts_are.Equal slot operand) (facts_are.Equal slot_2 operand_2) same holds =
    let (s, o) = and_parts (slot == slot_2) (is_same_operand operand operand_2) same in
    ap scene.slots (sym (eqb-true slot slot_2 s)) ∙ holds ∙ ap (operand_word scene.slots) (same_operand operand operand_2 o)
same_fact scene (facts_are.Computed slot operator left right) (facts_are.Computed slot_2 operator_2 left_2 right_2) same (holds, some) =
    let slots : Words = scene.slots in
    let (s, rest) = and_parts (slot == slot_2) (is_same_operator operator operator_2 && (is_same_operand left left_2 && is_same_operand right right_2)) same in
    let (o, both) = and_parts (is_same_operator operator operator_2) (is_same_operand left left_2 && is_same_operand right right_2) rest in
    let (l, r) = and_parts (is_same_operand left left_2) (is_same_operand right right_2) both in
    let by_operator = same_operator operator operator_2 o in
    let by_left = ap (operand_word slots) (same_operand left left_2 l) in
    let by_right = ap (operand_word slots) (same_operand right right_2 r) in (
      ap slots (sym (eqb-true slot slot_2 s)) ∙ holds
          ∙ ap (λ (x : BinaryOperator). binary_result x (operand_word slots left) (operand_word slots right)) by_operator
          ∙ ap (λ (a : ℕ). binary_result operator_2 a (operand_word slots right)) by_left
          ∙ ap (λ (b : ℕ). binary_result operator_2 (operand_word slots left_2) b) by_right,
      ap (λ (x : BinaryOperator). has_no_result x (operand_word slots right_2)) (sym by_operator)
          ∙ ap (has_no_result operator) (sym by_right) ∙ some,
    )
same_fact scene (facts_are.Holds comparison left right) (facts_are.Holds comparison_2 left_2 right_2) same holds =
    let slots : Words = scene.slots in
    let (o, both) = and_parts (is_same_comparison comparison comparison_2) (is_same_operand left left_2 && is_same_operand right right_2) same in
    let (l, r) = and_parts (is_same_operand left left_2) (is_same_operand right right_2) both in
    ap (λ (x : Comparison). compares x (operand_word slots left_2) (operand_word slots right_2)) (sym (same_comparison comparison comparison_2 o))
    ∙ ap (λ (a : ℕ). compares comparison a (operand_word slots right_2)) (sym (ap (operand_word slots) (same_operand left left_2 l)))
    ∙ ap (λ (b : ℕ). compares comparison (operand_word slots left) b) (sym (ap (operand_word slots) (same_operand right right_2 r)))
    ∙ holds
same_fact scene (facts_are.Held address offset value) (facts_are.Held address_2 offset_2 value_2) same holds =
    let (w, v) = and_parts (is_same_word address offset address_2 offset_2) (is_same_operand value value_2) same in
    found_same scene address offset address_2 offset_2 w ∙ holds ∙ ap (λ (x : Operand). Some (operand_word scene.slots x)) (same_operand value value_2 v)
same_fact scene one other same holds = absurd (false≢true same)

-- If all facts in a list are true, each fact that the list contains is true.
pub known_true : (scene : Scene) (facts : List Fact) (fact : Fact) → AreTrueIn scene facts → is_known facts fact ≡ true → IsTrueIn scene fact
known_true scene [] fact holds known = absurd (false≢true known)
known_true scene (other ∷ facts) fact (first, rest) known = elim (or_cases (is_same_fact other fact) (is_known facts fact) known) [
  | inl same ↦ same_fact scene other fact same first
  | inr following ↦ known_true scene facts fact rest following
]

-- ---- changes of the scene

-- An empty range of written slots leaves every slot unchanged.
pub leaves_any : (slot : ℕ) → leaves_slot (record { first = 0; count = 0 }) slot ≡ true
leaves_any slot = not_from_false (is_among 0 0 slot) (and_right (nat_le 0 slot) (nat_lt slot (0 + 0)) (le-ltb slot (0 + 0) (omega arith)))

pub leaves_any_operand : (operand : Operand) → leaves_operand (record { first = 0; count = 0 }) operand ≡ true
leaves_any_operand (operands.Slot number) = leaves_any number
leaves_any_operand (operands.Word word) = refl

offsets_apart : (address offset other : ℕ) → are_apart offset other ≡ true → add_of address other ≡ add_of address offset → ⊥
offsets_apart address offset other apart same =
    let (low, both) = and_parts (nat_lt offset (2 ^ 32)) (nat_lt other (2 ^ 32) && not (offset == other)) apart in
    let (below, differ) = and_parts (nat_lt other (2 ^ 32)) (not (offset == other)) both in
    let one : offset < 2 ^ 32 = ltb-true offset (2 ^ 32) low in
    let two : other < 2 ^ 32 = ltb-true other (2 ^ 32) below in
    let equal : offset ≡ other = omega (arith, one, two, same) in
    false≢true (sym (ap not (eq-eqb offset other equal)) ∙ differ)

-- `IsLeft` says that all slots except the written ones are unchanged.
abbrev pub IsLeft : (old new : Words) → Written → Type 0
IsLeft old new w = (slot : ℕ) → leaves_slot w slot ≡ true → new slot ≡ old slot

-- `IsUntouched` says that memory is unchanged except for the part that the instruction may change.
abbrev pub IsUntouched : (old new : Scene) → Touched → Type 0
IsUntouched old new touches.Nothing = (address : ℕ) → new.memory address ≡ old.memory address
IsUntouched old new (touches.Word address offset) =
    (other : ℕ) → other ≢ add_of (operand_word old.slots address) offset → new.memory other ≡ old.memory other
IsUntouched old new touches.All = Unit {0}

module _ (old new : Scene) where
  -- A fact stays true if the values of all slots, operands and memory words that occur in it are unchanged.
  same_equal : (slot : ℕ) (operand : Operand) → new.slots slot ≡ old.slots slot → operand_word new.slots operand ≡ operand_word old.slots operand
      → IsTrueIn old (facts_are.Equal slot operand) → IsTrueIn new (facts_are.Equal slot operand)
  same_equal slot operand at by_operand holds = at ∙ holds ∙ sym by_operand

  same_words : (slot : ℕ) (operator : BinaryOperator) (left right : Operand) → new.slots slot ≡ old.slots slot → operand_word new.slots left ≡ operand_word old.slots left
      → operand_word new.slots right ≡ operand_word old.slots right → IsTrueIn old (facts_are.Computed slot operator left right) → IsTrueIn new (facts_are.Computed slot operator left right)
  same_words slot operator left right at by_left by_right (holds, some) = (
    at ∙ holds ∙ ap (λ (a : ℕ). binary_result operator a (operand_word old.slots right)) (sym by_left)
        ∙ ap (λ (b : ℕ). binary_result operator (operand_word new.slots left) b) (sym by_right),
    ap (has_no_result operator) by_right ∙ some,
  )

  same_comparing : (comparison : Comparison) (left right : Operand) → operand_word new.slots left ≡ operand_word old.slots left
      → operand_word new.slots right ≡ operand_word old.slots right → IsTrueIn old (facts_are.Holds comparison left right) → IsTrueIn new (facts_are.Holds comparison left right)
  same_comparing comparison left right by_left by_right holds =
      ap (λ (a : ℕ). compares comparison a (operand_word new.slots right)) by_left
      ∙ ap (λ (b : ℕ). compares comparison (operand_word old.slots left) b) by_right ∙ holds

  same_held : (address : Operand) (offset : ℕ) (value : Operand) → found new address offset ≡ found old address offset
      → operand_word new.slots value ≡ operand_word old.slots value → IsTrueIn old (facts_are.Held address offset value) → IsTrueIn new (facts_are.Held address offset value)
  same_held address offset value at by_value holds = at ∙ holds ∙ sym (ap Some by_value)

  module _ (w : Written) (left_alone : (slot : ℕ) → leaves_slot w slot ≡ true → new.slots slot ≡ old.slots slot) where
    operand_left : (operand : Operand) → leaves_operand w operand ≡ true → operand_word new.slots operand ≡ operand_word old.slots operand
    operand_left (operands.Slot number) leaves = left_alone number leaves
    operand_left (operands.Word word) leaves = refl

    -- A fact about memory stays true if the word at its address is unchanged.
    by_address : (address : Operand) (offset : ℕ) → leaves_operand w address ≡ true
        → new.memory (add_of (operand_word old.slots address) offset) ≡ old.memory (add_of (operand_word old.slots address) offset)
        → found new address offset ≡ found old address offset
    by_address address offset leaves same =
        ap (λ (a : ℕ). new.memory (add_of a offset)) (operand_left address leaves) ∙ same

    word_left : (t : Touched) → IsUntouched old new t → (address : Operand) (offset : ℕ) → leaves_operand w address ≡ true → is_untouched t address offset ≡ true
        → found new address offset ≡ found old address offset
    word_left touches.Nothing memory address offset leaves is = by_address address offset leaves (memory (add_of (operand_word old.slots address) offset))
    word_left (touches.Word other written) memory address offset leaves is =
        let (a, o) = and_parts (is_same_operand other address) (are_apart written offset) is in
        by_address address offset leaves
        (memory (add_of (operand_word old.slots address) offset)
        (λ same. offsets_apart (operand_word old.slots other) written offset o (ap (λ (x : Operand). add_of (operand_word old.slots x) offset) (same_operand other address a) ∙ same)))
    word_left touches.All untouched address offset leaves is = absurd (false≢true is)

    pub fact_left : (t : Touched) → IsUntouched old new t → (fact : Fact) → keeps w t fact ≡ true → IsTrueIn old fact → IsTrueIn new fact
    fact_left t untouched (facts_are.Equal slot operand) keeps holds =
        let (s, o) = and_parts (leaves_slot w slot) (leaves_operand w operand) keeps in
        same_equal slot operand (left_alone slot s) (operand_left operand o) holds
    fact_left t untouched (facts_are.Computed slot operator left right) keeps holds =
        let (s, both) = and_parts (leaves_slot w slot) (leaves_operand w left && leaves_operand w right) keeps in
        let (l, r) = and_parts (leaves_operand w left) (leaves_operand w right) both in
        same_words slot operator left right (left_alone slot s) (operand_left left l) (operand_left right r) holds
    fact_left t untouched (facts_are.Holds comparison left right) keeps holds =
        let (l, r) = and_parts (leaves_operand w left) (leaves_operand w right) keeps in
        same_comparing comparison left right (operand_left left l) (operand_left right r) holds
    fact_left t untouched (facts_are.Held address offset value) keeps holds =
        let (a, both) = and_parts (leaves_operand w address) (leaves_operand w value && is_untouched t address offset) keeps in
        let (v, is) = and_parts (leaves_operand w value) (is_untouched t address offset) both in
        same_held address offset value (word_left t untouched address offset a is) (operand_left value v) holds

    pub kept_true : (t : Touched) → IsUntouched old new t → (facts : List Fact) → AreTrueIn old facts → AreTrueIn new (kept w t facts)
    kept_true t untouched [] holds = tt
    kept_true t untouched (fact ∷ facts) (first, rest) =
        cond_both (keeps w t fact) (fact ∷ kept w t facts) (kept w t facts) (AreTrueIn new)
        (λ keeps. (fact_left t untouched fact keeps first, kept_true t untouched facts rest)) (λ not_kept. kept_true t untouched facts rest)

  -- The facts stay true if memory and all slots whose address is not taken are unchanged.
  module _ (pinned : List Bool) (free_left : (slot : ℕ) → is_free pinned slot ≡ true → new.slots slot ≡ old.slots slot)
      (memory_left : (address : ℕ) → new.memory address ≡ old.memory address) where
    operand_free : (operand : Operand) → suits_operand pinned operand ≡ true → operand_word new.slots operand ≡ operand_word old.slots operand
    operand_free (operands.Slot number) suits = free_left number suits
    operand_free (operands.Word word) suits = refl

    pub fact_free : (fact : Fact) → suits pinned fact ≡ true → IsTrueIn old fact → IsTrueIn new fact
    fact_free (facts_are.Equal slot operand) suits holds =
        let (s, o) = and_parts (is_free pinned slot) (suits_operand pinned operand) suits in same_equal slot operand (free_left slot s) (operand_free operand o) holds
    fact_free (facts_are.Computed slot operator left right) suits holds =
        let (s, both) = and_parts (is_free pinned slot) (suits_operand pinned left && suits_operand pinned right) suits in
        let (l, r) = and_parts (suits_operand pinned left) (suits_operand pinned right) both in
        same_words slot operator left right (free_left slot s) (operand_free left l) (operand_free right r) holds
    fact_free (facts_are.Holds comparison left right) suits holds =
        let (l, r) = and_parts (suits_operand pinned left) (suits_operand pinned right) suits in
        same_comparing comparison left right (operand_free left l) (operand_free right r) holds
    fact_free (facts_are.Held address offset value) suits holds =
        let (a, v) = and_parts (suits_operand pinned address) (suits_operand pinned value) suits in
        same_held address offset value
        (ap (λ (w : ℕ). new.memory (add_of w offset)) (operand_free address a) ∙ memory_left (add_of (operand_word old.slots address) offset)) (operand_free value v) holds

    pub suited_true : (facts : List Fact) → are_suited pinned facts ≡ true → AreTrueIn old facts → AreTrueIn new facts
    suited_true [] suited holds = tt
    suited_true (fact ∷ facts) suited (first, rest) =
        let (s, others) = and_parts (suits pinned fact) (are_suited pinned facts) suited in (fact_free fact s first, suited_true facts others rest)

-- If facts contain only slots whose address is not taken, so do those of them that an instruction preserves.
pub kept_suited : (pinned : List Bool) (w : Written) (t : Touched) (facts : List Fact) → are_suited pinned facts ≡ true → are_suited pinned (kept w t facts) ≡ true
kept_suited pinned w t [] all = refl
kept_suited pinned w t (fact ∷ facts) all =
    let (first, rest) = and_parts (suits pinned fact) (are_suited pinned facts) all in
    cond_both (keeps w t fact) (fact ∷ kept w t facts) (kept w t facts) (λ l. are_suited pinned l ≡ true)
    (λ is. and_from _ _ first (kept_suited pinned w t facts rest)) (λ is. kept_suited pinned w t facts rest)

-- ---- facts about slots only

abbrev nowhere : Written
nowhere = record { first = 0; count = 0 }

-- `AreTrueAlone` says that the facts not about memory are true, whatever memory contains.
abbrev pub AreTrueAlone : Words → List Fact → Type 0
AreTrueAlone slots facts = (memory : ℕ → Option ℕ) → AreTrueIn (record { slots = slots; memory = memory }) (kept nowhere touches.All facts)

pub true_alone : (scene : Scene) (facts : List Fact) → AreTrueIn scene facts → AreTrueAlone scene.slots facts
true_alone scene facts holds = λ memory.
    kept_true scene (record { slots = scene.slots; memory = memory }) nowhere (λ slot leaves. refl) touches.All tt facts holds

-- A fact preserved by a write to some slots is also preserved if no slot is written.
kept_none : (w : Written) (fact : Fact) → keeps w touches.All fact ≡ true → keeps nowhere touches.All fact ≡ true
kept_none w (facts_are.Equal slot operand) keeps = and_from _ _ (leaves_any slot) (leaves_any_operand operand)
kept_none w (facts_are.Computed slot operator left right) keeps = and_from _ _ (leaves_any slot) (and_from _ _ (leaves_any_operand left) (leaves_any_operand right))
kept_none w (facts_are.Holds comparison left right) keeps = and_from _ _ (leaves_any_operand left) (leaves_any_operand right)
kept_none w (facts_are.Held address offset value) keeps =
    let (a, both) = and_parts (leaves_operand w address) (leaves_operand w value && false) keeps in
    absurd (false≢true (and_parts (leaves_operand w value) false both).1)

-- The facts that a call preserves are true after it, when its results are written to some slots.
pub true_after_call : (old : Words) (new : Scene) (w : Written) → IsLeft old new.slots w → (facts : List Fact) → AreTrueAlone old facts → AreTrueIn new (kept w touches.All facts)
true_after_call old new w leaves [] alone = tt
true_after_call old new w leaves (fact ∷ facts) alone =
    let before : Scene = record { slots = old; memory = new.memory } in
    let here : AreTrueIn before (kept nowhere touches.All (fact ∷ facts)) = alone new.memory in
    cond_both (keeps w touches.All fact) (fact ∷ kept w touches.All facts) (kept w touches.All facts) (AreTrueIn new)
    (λ is.
    let both : AreTrueIn before (fact ∷ kept nowhere touches.All facts) =
    subst (AreTrueIn before) (cond-true (keeps nowhere touches.All fact) (fact ∷ kept nowhere touches.All facts) (kept nowhere touches.All facts) (kept_none w fact is)) here in
    (fact_left before new w leaves touches.All tt fact is both.0, true_after_call old new w leaves facts (rest fact facts alone)))
    (λ is. true_after_call old new w leaves facts (rest fact facts alone))
  where
    rest : (fact : Fact) (facts : List Fact) → AreTrueAlone old (fact ∷ facts) → AreTrueAlone old facts
    rest fact facts alone = λ memory.
        let scene : Scene = record { slots = old; memory = memory } in
        following (keeps nowhere touches.All fact) fact (kept nowhere touches.All facts) scene (alone memory)
      where
        following : (b : Bool) (fact : Fact) (others : List Fact) (scene : Scene) → AreTrueIn scene (if b then fact ∷ others else others) → AreTrueIn scene others
        following true fact others scene are = are.1
        following false fact others scene are = are

-- ---- one more fact

-- A fact is added only if the address of no slot in it is taken, and each constant in it fits a machine word.
pub suited_if : (scene : Scene) (pinned : List Bool) (fact : Fact) → (suits pinned fact ≡ true → IsTrueIn scene fact) → IsTrueIfAny scene (suited pinned fact)
suited_if scene pinned fact holds = cond_both (suits pinned fact) (Some fact) None (IsTrueIfAny scene) (λ s. holds s) (λ s. tt)

pub suited_any : (scene : Scene) (pinned : List Bool) (fact : Fact) → IsTrueIn scene fact → IsTrueIfAny scene (suited pinned fact)
suited_any scene pinned fact holds = cond_both (suits pinned fact) (Some fact) None (IsTrueIfAny scene) (λ s. holds) (λ s. tt)

pub remembered_true : (scene : Scene) (facts : List Fact) (more : Option Fact) → AreTrueIn scene facts → IsTrueIfAny scene more → AreTrueIn scene (remembered facts more)
remembered_true scene facts None holds one = holds
remembered_true scene facts (Some fact) holds one =
    all_append (IsTrueIn scene) (if nat_lt (length facts) MOST_FACTS then facts else drop 1 facts) (fact ∷ [])
    (cond_both (nat_lt (length facts) MOST_FACTS) facts (drop 1 facts) (AreTrueIn scene) (λ few. holds) (λ many. after_first facts holds))
    (one, tt)
  where
    after_first : (facts : List Fact) → AreTrueIn scene facts → AreTrueIn scene (drop 1 facts)
    after_first [] holds = tt
    after_first (other ∷ facts) (first, rest) = rest

-- After a move of several words, the facts that state that destinations equal sources are true.
copies_true : (scene : Scene) (pinned : List Bool) (destination source count : ℕ) → IsMade scene pinned (instructions.MoveWords destination source count) 0 0
    → (facts : List Fact) → AreTrueIn scene facts → AreTrueIn scene (with_copies pinned (instructions.MoveWords destination source count) facts)
copies_true scene pinned destination source count same facts holds = with_one 2 _ (with_one 1 _ (with_one 0 facts holds))
  where
    one : (k : ℕ) → IsTrueIfAny scene (copied pinned (instructions.MoveWords destination source count) k)
    one k =
        cond_both (nat_lt k count && are_copied pinned destination source count) (Some (facts_are.Equal (destination + k) (operands.Slot (source + k)))) None (IsTrueIfAny scene)
        (λ copies.
        let (below, are) = and_parts (nat_lt k count) (are_copied pinned destination source count) copies in same are k (ltb-true k count below))
        (λ none. tt)

    with_one : (k : ℕ) (others : List Fact) → AreTrueIn scene others → AreTrueIn scene (remembered others (copied pinned (instructions.MoveWords destination source count) k))
    with_one k others are = remembered_true scene others (copied pinned (instructions.MoveWords destination source count) k) are (one k)

pub all_true : (scene : Scene) (pinned : List Bool) (facts : List Fact) (i : Instruction) (index next : ℕ) → AreTrueIn scene facts → IsMade scene pinned i index next
    → AreTrueIn scene (remembered (remembered (with_copies pinned i facts) (tested pinned i)) (made pinned i index next))
all_true scene pinned facts (instructions.MoveWords destination source count) index next holds is = copies_true scene pinned destination source count is facts holds
all_true scene pinned facts (instructions.Unary operator destination operand) index next holds is =
    remembered_true scene facts (tested pinned (instructions.Unary operator destination operand)) holds is
all_true scene pinned facts (instructions.Binary operator destination left right) index next holds (is, computes) =
    let i : Instruction = instructions.Binary operator destination left right in
    remembered_true scene (remembered facts (tested pinned i)) (made pinned i index next) (remembered_true scene facts (tested pinned i) holds is) computes
all_true scene pinned facts i index next holds is = remembered_true scene facts (made pinned i index next) holds is

-- ---- free slots

-- If `count` consecutive slots are free (their address is not taken), each of them is.
pub each_free : (pinned : List Bool) (first count k : ℕ) → are_free pinned first count ≡ true → k < count → is_free pinned (first + k) ≡ true
each_free pinned first zero k free below = absurd (omega (arith, below))
each_free pinned first (suc count) k free below =
    let (before, last) = and_parts (are_free pinned first count) (is_free pinned (first + count)) free in
    elim (cases_lt k count) [
      | inl nearer ↦ each_free pinned first count k before nearer
      | inr not_nearer ↦
          let same : count ≡ k = omega (arith, below, not_nearer) in subst (λ (n : ℕ). is_free pinned (first + n) ≡ true) same last
    ]

pub free_there : (pinned : List Bool) (first count slot : ℕ) → are_free pinned first count ≡ true → is_among first count slot ≡ true → is_free pinned slot ≡ true
free_there pinned first count slot free among =
    let (low, high) = and_parts (nat_le first slot) (nat_lt slot (first + count)) among in
    let from : first ≤ slot = leb-true first slot low in
    let same : first + (slot - first) ≡ slot = omega (arith, from) in
    subst (λ (n : ℕ). is_free pinned n ≡ true) same (each_free pinned first count (slot - first) free (omega (arith, from, ltb-true slot (first + count) high)))
