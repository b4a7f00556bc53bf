-- If the known facts are true, a replacement has the effect of the original instruction.
use Rattle.std.proofs.Common.{◌≡◌, ℕ, zero, suc, ◌<◌, Bool, true, false, ◌&&◌, List, [], ◌∷◌, Option, Some, None, refl, sym, ap, subst, ◌∙◌, arith}
use Rattle.std.specs.Prelude.{◌==◌, not, nat_lt, if◌then◌else◌, unwrap_or}
use Rattle.std.proofs.lemmas.Bool.{and_parts, eqb-true, ltb-true, cond_both, not-true}
use Rattle.cyc_words.specs.Word.{signed}
use Rattle.cyc_words.proofs.Booleans.{not_not}
use Rattle.cyc_words.proofs.Numbers.{nat_le-not_lt, nat_lt-not_le, not_eqb_other}
use Rattle.cyc_words.proofs.Integers.{int_lt-not_le, int_le-not_lt, int_le-same, int_le-below, int_lt-not_same}
use Rattle.cyc_plain.specs.declared.instruction.Instruction.{Instruction}
use Rattle.cyc_plain.specs.declared.instruction.Instruction.TheVariants as instructions
use Rattle.cyc_plain.specs.declared.instruction.Operand.{Operand}
use Rattle.cyc_plain.specs.declared.instruction.Operand.TheVariants as operands
use Rattle.cyc_plain.specs.declared.instruction.UnaryOperator.{UnaryOperator}
use Rattle.cyc_plain.specs.declared.instruction.BinaryOperator.{BinaryOperator}
use Rattle.cyc_plain.specs.declared.instruction.Comparison.{Comparison}
use Rattle.cyc_plain.specs.declared.instruction.Comparison.TheVariants as comparisons
use Rattle.cyc_plain.specs.declared.instruction.BinaryOperator.TheVariants as binary
use Rattle.cyc_plain.specs.inside.Operators.{unary_result, binary_result, has_no_result, compares}
use Rattle.cyc_plain.specs.inside.Step.{operand_word}
use Rattle.cyc_propagation.specs.declared.fact.Fact.{Fact}
use Rattle.cyc_propagation.specs.declared.fact.Fact.TheVariants as facts_are
use Rattle.cyc_propagation.specs.inside.Facts.{Scene, IsTrueIn, AreTrueIn, is_same_operator, is_same_comparison, is_same_operand, is_same_word, negated}
use Rattle.cyc_propagation.specs.inside.Replacement.{is_cheap, instead, simplified_operand, or_number, word_by, word_in, takes_word, small_or, right_operand, folded, folded_of, folded_in, negated_of}
use Rattle.cyc_propagation.specs.inside.Replacement.{folded_unary, may_fold, folded_at, is_truth_test, own_slot, holder, or_slot, holder_in, implies, verdict, decision, or_verdict, decision_in, passed_by, value_by, or_value, value_in}
use Rattle.cyc_propagation.proofs.Truth.{same_operator, same_comparison, same_operand, found_same}

-- ---- branches that are never taken

pub passed_either : (P : Instruction → Type 0) (left right : Operand) (target : ℕ) → ((slot : ℕ) → P (instructions.Move slot (operands.Slot slot)))
    → P (instructions.Branch comparisons.NotEqual (operands.Word 0) (operands.Word 0) target) → P (passed_by left right target)
passed_either P (operands.Slot number) right target move branch = move number
passed_either P (operands.Word word) (operands.Slot number) target move branch = move number
passed_either P (operands.Word word) (operands.Word other) target move branch = branch

-- ---- comparisons

-- A comparison holds exactly if its negation does not.
pub negated_compares : (comparison : Comparison) (a b : ℕ) → compares (negated comparison) a b ≡ not (compares comparison a b)
negated_compares comparisons.Equal a b = refl
negated_compares comparisons.NotEqual a b = sym (not_not (a == b))
negated_compares comparisons.Less a b = int_le-not_lt (signed b) (signed a)
negated_compares comparisons.LessOrEqual a b = int_lt-not_le (signed a) (signed b)
negated_compares comparisons.Greater a b = int_le-not_lt (signed a) (signed b)
negated_compares comparisons.GreaterOrEqual a b = int_lt-not_le (signed b) (signed a)
negated_compares comparisons.LessUnsigned a b = nat_le-not_lt a b
negated_compares comparisons.GreaterOrEqualUnsigned a b = nat_lt-not_le a b

pub implied : (known asked : Comparison) (a b : ℕ) → implies known asked ≡ true → compares known a b ≡ true → compares asked a b ≡ true
implied comparisons.Equal comparisons.LessOrEqual a b is holds = int_le-same (signed a) (signed b) (ap signed (eqb-true a b holds))
implied comparisons.Equal comparisons.GreaterOrEqual a b is holds = int_le-same (signed b) (signed a) (ap signed (sym (eqb-true a b holds)))
implied comparisons.Equal comparisons.GreaterOrEqualUnsigned a b is holds =
    let same : a ≡ b = eqb-true a b holds in grind (arith, same)
implied comparisons.Less comparisons.NotEqual a b is holds = not_eqb_other a b (λ same. int_lt-not_same (signed a) (signed b) holds (ap signed same))
implied comparisons.Less comparisons.LessOrEqual a b is holds = int_le-below (signed a) (signed b) holds
implied comparisons.Greater comparisons.NotEqual a b is holds = not_eqb_other a b (λ same. int_lt-not_same (signed b) (signed a) holds (ap signed (sym same)))
implied comparisons.Greater comparisons.GreaterOrEqual a b is holds = int_le-below (signed b) (signed a) holds
implied comparisons.LessUnsigned comparisons.NotEqual a b is holds = grind (arith, holds)
implied known asked a b is holds = ap (λ (c : Comparison). compares c a b) (sym (same_comparison known asked is)) ∙ holds

-- ---- the meaning of facts

module _ (scene : Scene) where
  -- If a fact replaces an operand by another one, the new operand denotes the same word.
  instead_word : (fact : Fact) (operand : Operand) (rest : Operand) → IsTrueIn scene fact → operand_word scene.slots rest ≡ operand_word scene.slots operand
      → operand_word scene.slots (unwrap_or (instead fact operand) rest) ≡ operand_word scene.slots operand
  instead_word (facts_are.Computed slot operator left right) operand rest holds other = other
  instead_word (facts_are.Holds comparison left right) operand rest holds other = other
  instead_word (facts_are.Held address offset value) operand rest holds other = other
  instead_word (facts_are.Equal slot equal) (operands.Word word) rest holds other = other
  instead_word (facts_are.Equal slot equal) (operands.Slot number) rest holds other =
      cond_both (number == slot && is_cheap equal) (Some equal) None (λ o. operand_word scene.slots (unwrap_or o rest) ≡ scene.slots number)
      (λ is. sym holds ∙ ap scene.slots (sym (eqb-true number slot (and_parts (number == slot) (is_cheap equal) is).0)))
      (λ is. other)

  pub operand_same : (facts : List Fact) (operand : Operand) → AreTrueIn scene facts → operand_word scene.slots (simplified_operand facts operand) ≡ operand_word scene.slots operand
  operand_same [] operand holds = refl
  operand_same (fact ∷ facts) operand (first, rest) =
      instead_word fact operand (simplified_operand facts operand) first (operand_same facts operand rest)

  -- `IsItsWord` says that the word that a fact states for an operand is the operand's word.
  abbrev pub IsItsWord : Operand → Option ℕ → Type 0
  IsItsWord operand (Some word) = operand_word scene.slots operand ≡ word
  IsItsWord operand None = Unit {0}

  word_true : (fact : Fact) (operand : Operand) → IsTrueIn scene fact → IsItsWord operand (word_by fact operand)
  word_true (facts_are.Equal slot (operands.Slot other)) operand holds = tt
  word_true (facts_are.Equal slot (operands.Word word)) (operands.Word other) holds = tt
  word_true (facts_are.Equal slot (operands.Word word)) (operands.Slot number) holds =
      cond_both (number == slot) (Some word) None (IsItsWord (operands.Slot number)) (λ is. ap scene.slots (eqb-true number slot is) ∙ holds) (λ is. tt)
  word_true (facts_are.Computed slot operator left right) operand holds = tt
  word_true (facts_are.Holds comparison left right) operand holds = tt
  word_true (facts_are.Held address offset value) operand holds = tt

  pub word_in_true : (facts : List Fact) (operand : Operand) → AreTrueIn scene facts → IsItsWord operand (word_in facts operand)
  word_in_true [] (operands.Slot number) holds = tt
  word_in_true [] (operands.Word word) holds = refl
  word_in_true (fact ∷ facts) operand (first, rest) = go (word_by fact operand) (word_true fact operand first) (word_in_true facts operand rest)
    where
      go : (one : Option ℕ) → IsItsWord operand one → IsItsWord operand (word_in facts operand) → IsItsWord operand (or_number one (word_in facts operand))
      go (Some word) is others = is
      go None is others = others

  pub second_same : (facts : List Fact) (operator : BinaryOperator) (operand : Operand) → AreTrueIn scene facts
      → operand_word scene.slots (right_operand facts operator operand) ≡ operand_word scene.slots operand
  second_same facts operator operand holds =
      cond_both (takes_word operator) (small_or (word_in facts operand) operand) operand (λ o. operand_word scene.slots o ≡ operand_word scene.slots operand)
      (λ takes. go (word_in facts operand) (word_in_true facts operand holds)) (λ not_taken. refl)
    where
      go : (o : Option ℕ) → IsItsWord operand o → operand_word scene.slots (small_or o operand) ≡ operand_word scene.slots operand
      go None is = refl
      go (Some word) is = cond_both (nat_lt word 32768) (operands.Word word) operand (λ o. operand_word scene.slots o ≡ operand_word scene.slots operand) (λ small. sym is) (λ large. refl)

  -- `IsFolded` says that the word that constant folding computes is the operator's result, and that the result is defined.
  abbrev pub IsFolded : BinaryOperator → (left right : Operand) → Option ℕ → Type 0
  IsFolded operator left right (Some word) =
      (word ≡ binary_result operator (operand_word scene.slots left) (operand_word scene.slots right)) × (has_no_result operator (operand_word scene.slots right) ≡ false)
  IsFolded operator left right None = Unit {0}

  folded_in_true : (facts : List Fact) (operator : BinaryOperator) (left right : Operand) → AreTrueIn scene facts → IsFolded operator left right (folded_in facts operator left right)
  folded_in_true [] operator left right holds = tt
  folded_in_true (fact ∷ facts) operator left right holds =
      go (word_in (fact ∷ facts) left) (word_in (fact ∷ facts) right) (word_in_true (fact ∷ facts) left holds) (word_in_true (fact ∷ facts) right holds)
    where
      by_operator : (operator : BinaryOperator) (a b : ℕ) → operand_word scene.slots left ≡ a → operand_word scene.slots right ≡ b → IsFolded operator left right (folded operator a b)
      by_operator binary.Add a b l r = (ap (λ (x : ℕ). binary_result binary.Add x b) (sym l) ∙ ap (binary_result binary.Add (operand_word scene.slots left)) (sym r), refl)
      by_operator binary.Subtract a b l r = (ap (λ (x : ℕ). binary_result binary.Subtract x b) (sym l) ∙ ap (binary_result binary.Subtract (operand_word scene.slots left)) (sym r), refl)
      by_operator binary.Multiply a b l r = (ap (λ (x : ℕ). binary_result binary.Multiply x b) (sym l) ∙ ap (binary_result binary.Multiply (operand_word scene.slots left)) (sym r), refl)
      by_operator binary.And a b l r = (ap (λ (x : ℕ). binary_result binary.And x b) (sym l) ∙ ap (binary_result binary.And (operand_word scene.slots left)) (sym r), refl)
      by_operator binary.Or a b l r = (ap (λ (x : ℕ). binary_result binary.Or x b) (sym l) ∙ ap (binary_result binary.Or (operand_word scene.slots left)) (sym r), refl)
      by_operator binary.Xor a b l r = (ap (λ (x : ℕ). binary_result binary.Xor x b) (sym l) ∙ ap (binary_result binary.Xor (operand_word scene.slots left)) (sym r), refl)
      by_operator binary.ShiftLeft a b l r = (ap (λ (x : ℕ). binary_result binary.ShiftLeft x b) (sym l) ∙ ap (binary_result binary.ShiftLeft (operand_word scene.slots left)) (sym r), refl)
      by_operator binary.ShiftRight a b l r = (ap (λ (x : ℕ). binary_result binary.ShiftRight x b) (sym l) ∙ ap (binary_result binary.ShiftRight (operand_word scene.slots left)) (sym r), refl)
      by_operator operator a b l r = tt

      go : (one other : Option ℕ) → IsItsWord left one → IsItsWord right other → IsFolded operator left right (folded_of operator one other)
      go (Some a) (Some b) l r = by_operator operator a b l r
      go None (Some b) l r = tt
      go (Some a) None l r = tt
      go None None l r = tt

  abbrev pub IsFoldedUnary : UnaryOperator → Operand → Option ℕ → Type 0
  IsFoldedUnary operator operand (Some word) = word ≡ unary_result operator (operand_word scene.slots operand)
  IsFoldedUnary operator operand None = Unit {0}

  pub folded_unary_true : (facts : List Fact) (operator : UnaryOperator) (operand : Operand) → AreTrueIn scene facts → IsFoldedUnary operator operand (folded_unary facts operator operand)
  folded_unary_true [] operator operand holds = tt
  folded_unary_true (fact ∷ facts) operator operand holds = go (word_in (fact ∷ facts) operand) (word_in_true (fact ∷ facts) operand holds)
    where
      go : (o : Option ℕ) → IsItsWord operand o → IsFoldedUnary operator operand (negated_of operator o)
      go (Some word) is = ap (unary_result operator) (sym is)
      go None is = tt

  pub folded_at_true : (facts : List Fact) (operator : BinaryOperator) (destination : ℕ) (left right : Operand) → AreTrueIn scene facts
      → IsFolded operator left right (folded_at facts operator destination left right)
  folded_at_true facts operator destination left right holds =
      cond_both (may_fold destination left right) (folded_in facts operator left right) None (IsFolded operator left right)
      (λ may. folded_in_true facts operator left right holds) (λ stays. tt)

  -- `HoldsResult` says that the slot that a fact states for the result of an operator contains this result.
  abbrev pub HoldsResult : BinaryOperator → (left right : Operand) → Option ℕ → Type 0
  HoldsResult operator left right (Some slot) = IsTrueIn scene (facts_are.Computed slot operator left right)
  HoldsResult operator left right None = Unit {0}

  -- If a word is 0 or 1, comparing it with 0 by `!=` yields the same word.
  truth_same : (a : ℕ) → a < 2 → a ≡ binary_result binary.NotEqual a 0
  truth_same zero below = refl
  truth_same (suc zero) below = refl
  truth_same (suc (suc a)) below = absurd (omega (arith, below))

  truth_held : (operand : Operand) → nat_lt (operand_word scene.slots operand) 2 ≡ true → HoldsResult binary.NotEqual operand (operands.Word 0) (own_slot operand)
  truth_held (operands.Slot number) below = (truth_same (scene.slots number) (ltb-true (scene.slots number) 2 below), refl)
  truth_held (operands.Word word) below = tt

  holder_true : (fact : Fact) (operator : BinaryOperator) (left right : Operand) → IsTrueIn scene fact → HoldsResult operator left right (holder fact operator left right)
  holder_true (facts_are.Equal slot operand) operator left right holds = tt
  holder_true (facts_are.Holds comparison left_2 bound) operator left right holds =
      cond_both (is_same_operand left_2 left && is_truth_test comparison bound operator right) (own_slot left_2) None (HoldsResult operator left right)
      (λ is.
      let (l, test) = and_parts (is_same_operand left_2 left) (is_truth_test comparison bound operator right) is in
      let (c, rest) = and_parts (is_same_comparison comparison comparisons.LessUnsigned) (is_same_operand bound (operands.Word 2) && (is_same_operator operator binary.NotEqual && is_same_operand right (operands.Word 0))) test in
      let (b, both) = and_parts (is_same_operand bound (operands.Word 2)) (is_same_operator operator binary.NotEqual && is_same_operand right (operands.Word 0)) rest in
      let (o, r) = and_parts (is_same_operator operator binary.NotEqual) (is_same_operand right (operands.Word 0)) both in
      let below : nat_lt (operand_word scene.slots left_2) 2 ≡ true =
      subst (λ (x : Comparison). compares x (operand_word scene.slots left_2) 2 ≡ true) (same_comparison comparison comparisons.LessUnsigned c)
      (subst (λ (x : Operand). compares comparison (operand_word scene.slots left_2) (operand_word scene.slots x) ≡ true) (same_operand bound (operands.Word 2) b) holds) in
      subst (λ (x : BinaryOperator). HoldsResult x left right (own_slot left_2)) (sym (same_operator operator binary.NotEqual o))
      (subst (λ (x : Operand). HoldsResult binary.NotEqual x right (own_slot left_2)) (same_operand left_2 left l)
      (subst (λ (x : Operand). HoldsResult binary.NotEqual left_2 x (own_slot left_2)) (sym (same_operand right (operands.Word 0) r)) (truth_held left_2 below))))
      (λ is. tt)
  holder_true (facts_are.Held address offset value) operator left right holds = tt
  holder_true (facts_are.Computed slot other left_2 right_2) operator left right (holds, some) =
      cond_both (is_same_operator other operator && (is_same_operand left_2 left && is_same_operand right_2 right)) (Some slot) None (HoldsResult operator left right)
      (λ is.
      let (o, both) = and_parts (is_same_operator other operator) (is_same_operand left_2 left && is_same_operand right_2 right) is in
      let (l, r) = and_parts (is_same_operand left_2 left) (is_same_operand right_2 right) both in
      subst (λ (x : BinaryOperator). IsTrueIn scene (facts_are.Computed slot x left right)) (same_operator other operator o)
      (subst (λ (x : Operand). IsTrueIn scene (facts_are.Computed slot other x right)) (same_operand left_2 left l)
      (subst (λ (x : Operand). IsTrueIn scene (facts_are.Computed slot other left_2 x)) (same_operand right_2 right r) (holds, some))))
      (λ is. tt)

  pub holder_in_true : (facts : List Fact) (operator : BinaryOperator) (left right : Operand) → AreTrueIn scene facts → HoldsResult operator left right (holder_in facts operator left right)
  holder_in_true [] operator left right holds = tt
  holder_in_true (fact ∷ facts) operator left right (first, rest) =
      go (holder fact operator left right) (holder_true fact operator left right first) (holder_in_true facts operator left right rest)
    where
      go : (one : Option ℕ) → HoldsResult operator left right one → HoldsResult operator left right (holder_in facts operator left right)
          → HoldsResult operator left right (or_slot one (holder_in facts operator left right))
      go (Some slot) holds others = holds
      go None holds others = others

  -- `IsDecidedRight` says that if facts decide a comparison, the decision is the comparison's result.
  abbrev pub IsDecidedRight : Comparison → (left right : Operand) → Option Bool → Type 0
  IsDecidedRight comparison left right (Some holds) = compares comparison (operand_word scene.slots left) (operand_word scene.slots right) ≡ holds
  IsDecidedRight comparison left right None = Unit {0}

  verdict_right : (known comparison : Comparison) (left right : Operand) → compares known (operand_word scene.slots left) (operand_word scene.slots right) ≡ true
      → IsDecidedRight comparison left right (verdict known comparison)
  verdict_right known comparison left right holds =
      let a = operand_word scene.slots left in
      let b = operand_word scene.slots right in
      cond_both (implies known comparison) (Some true) (if implies known (negated comparison) then Some false else None) (IsDecidedRight comparison left right)
      (λ is. implied known comparison a b is holds)
      (λ no. cond_both (implies known (negated comparison)) (Some false) None (IsDecidedRight comparison left right)
      (λ is. not-true (compares comparison a b) (sym (negated_compares comparison a b) ∙ implied known (negated comparison) a b is holds))
      (λ is. tt))

  decision_right : (fact : Fact) (comparison : Comparison) (left right : Operand) → IsTrueIn scene fact → IsDecidedRight comparison left right (decision fact comparison left right)
  decision_right (facts_are.Equal slot operand) comparison left right holds = tt
  decision_right (facts_are.Computed slot operator left_2 right_2) comparison left right holds = tt
  decision_right (facts_are.Held address offset value) comparison left right holds = tt
  decision_right (facts_are.Holds known left_2 right_2) comparison left right holds =
      cond_both (is_same_operand left_2 left && is_same_operand right_2 right) (verdict known comparison) None (IsDecidedRight comparison left right)
      (λ is.
      let (l, r) = and_parts (is_same_operand left_2 left) (is_same_operand right_2 right) is in
      verdict_right known comparison left right
      (subst (λ (x : Operand). compares known (operand_word scene.slots x) (operand_word scene.slots right) ≡ true) (same_operand left_2 left l)
      (subst (λ (x : Operand). compares known (operand_word scene.slots left_2) (operand_word scene.slots x) ≡ true) (same_operand right_2 right r) holds)))
      (λ is. tt)

  pub decision_in_right : (facts : List Fact) (comparison : Comparison) (left right : Operand) → AreTrueIn scene facts
      → IsDecidedRight comparison left right (decision_in facts comparison left right)
  decision_in_right [] comparison left right holds = tt
  decision_in_right (fact ∷ facts) comparison left right (first, rest) =
      go (decision fact comparison left right) (decision_right fact comparison left right first) (decision_in_right facts comparison left right rest)
    where
      go : (one : Option Bool) → IsDecidedRight comparison left right one → IsDecidedRight comparison left right (decision_in facts comparison left right)
          → IsDecidedRight comparison left right (or_verdict one (decision_in facts comparison left right))
      go (Some holds) right others = right
      go None right others = others

  -- `IsFound` says that the word that a fact states for an address is the word in memory.
  abbrev pub IsFound : (address : Operand) → (offset : ℕ) → Option Operand → Type 0
  IsFound address offset (Some value) = IsTrueIn scene (facts_are.Held address offset value)
  IsFound address offset None = Unit {0}

  value_true : (fact : Fact) (address : Operand) (offset : ℕ) → IsTrueIn scene fact → IsFound address offset (value_by fact address offset)
  value_true (facts_are.Equal slot operand) address offset holds = tt
  value_true (facts_are.Computed slot operator left right) address offset holds = tt
  value_true (facts_are.Holds comparison left right) address offset holds = tt
  value_true (facts_are.Held other further value) address offset holds =
      cond_both (is_same_word other further address offset) (Some value) None (IsFound address offset)
      (λ is. found_same scene other further address offset is ∙ holds) (λ is. tt)

  pub value_in_true : (facts : List Fact) (address : Operand) (offset : ℕ) → AreTrueIn scene facts → IsFound address offset (value_in facts address offset)
  value_in_true [] address offset holds = tt
  value_in_true (fact ∷ facts) address offset (first, rest) =
      go (value_by fact address offset) (value_true fact address offset first) (value_in_true facts address offset rest)
    where
      go : (one : Option Operand) → IsFound address offset one → IsFound address offset (value_in facts address offset)
          → IsFound address offset (or_value one (value_in facts address offset))
      go (Some value) is others = is
      go None is others = others
