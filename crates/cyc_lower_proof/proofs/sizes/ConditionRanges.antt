-- This file proves that the code of conditions refers only to slots, functions and globals that exist, and jumps only to
-- positions inside the code.
use Rattle.std.proofs.Common.{◌≡◌, ℕ, suc, ◌+◌, ◌≤◌, ◌<◌, Bool, true, false, List, ◌∷◌, length, Option, None, Some, slice_get, arith, length-append}
use Rattle.cyc_types.specs.declared.typed.UnaryOperator.TheVariants as unary
use Rattle.cyc_types.specs.Types.{Ty, words_of}
use Rattle.cyc_types.specs.declared.typed.LogicalOperator.{LogicalOperator}
use Rattle.cyc_types.specs.declared.typed.LogicalOperator.TheVariants as logical
use Rattle.cyc_types.specs.TypedTrees.{Expression, Number, Unary, Binary, Operations, NoOperations, ThenCompute, ThenTest, ThenPointer, ThenPointerPeek, Signature, type_of}
use Rattle.cyc_types.specs.Numbered.{Numbering}
use Rattle.cyc_plain.specs.declared.instruction.Comparison.{Comparison}
use Rattle.cyc_plain.specs.declared.instruction.Instruction.{Instruction}
use Rattle.cyc_plain.specs.inside.Program.{Routine, Program as PlainProgram}
use Rattle.cyc_plain.specs.inside.WellFormed.{IsOperand}
use Rattle.std.specs.Prelude.{if◌then◌else◌}
use Rattle.cyc_meaning.specs.Values.{words_of_kind}
use Rattle.cyc_meaning.specs.FrameCount.{expression_need, operations_need, operand_words}
use Rattle.cyc_lower_proof.specs.inside.Slots.{starts_of, slot_of, Types}
use Rattle.cyc_lower_proof.specs.inside.ValueCode.{left_with, failing_comparison}
use Rattle.cyc_lower_proof.specs.declared.condition.Condition.{Condition}
use Rattle.cyc_lower_proof.specs.inside.ControlCode.{holding_jump, deciding_jump, are_tests, entry_code, entry_length, null_compared, pointers_failing, nulled_or, turned_test}
use Rattle.cyc_lower_proof.specs.inside.ExpressionCode.{operand_of, value_slot, slot_with, value_operand, expression_code, is_simple}
use Rattle.cyc_lower_proof.specs.inside.Lowering.{spare_slots, first_operand, first_code, second_code, pair_code, condition_code, condition_of, others_code, last_condition, tests_code, after_tests, choice_code, choice_of, branch_code}
use Rattle.cyc_lower_proof.specs.inside.Lowering.{branch_of, results_of}
use Rattle.cyc_lower_proof.proofs.slots.Widths.{kind_few, words_in}
use Rattle.cyc_lower_proof.proofs.relation.code.Fitting.{Fits, FitOperations}
use Rattle.cyc_lower_proof.proofs.slots.Slots.{words_positive}
use Rattle.cyc_lower_proof.proofs.sizes.RangeLemmas.{operand_positive, IsKnown, AreGlobals, HasEnd}
use Rattle.cyc_lower_proof.proofs.sizes.ValueRanges.{AreIn, append, unless_in}
use Rattle.cyc_lower_proof.proofs.sizes.ValueRoom.{kind_at, slot_fits, value_in, slot_with_in, left_with_in}
use Rattle.cyc_lower_proof.proofs.emission.CodeLengths.{tests_same}
use Rattle.cyc_lower_proof.proofs.sizes.ExpressionRanges.{expression_in}

module _ (program : PlainProgram) (r : Routine) (b : Numbering) (types : Types) (locals : (n : ℕ) → n < b.locals → slot_of (starts_of types) n + words_in types.locals n ≤ r.slots) (levels : (l slot : ℕ) → slice_get types.counters l ≡ Some slot → slot < r.slots) (globals : AreGlobals program types.globals) (called : (n : ℕ) (s : Signature) → slice_get b.functions n ≡ Some s → IsKnown program n s) (results : r.results ≡ results_of b.result) (following : HasEnd r types) where
  -- If the code of the second compared operand refers only to slots and code positions that exist, then both compared operands
  -- exist in the function.
  pair_in : (a c : Expression) (p t : ℕ) → Fits b types a → t + expression_need a + spare_slots ≤ r.slots → p + length (pair_code (starts_of types) a c p t) < length r.code
      → (p + length (first_code (starts_of types) a c p t) + length (second_code (starts_of types) c (p + length (first_code (starts_of types) a c p t)) t) < length r.code → AreIn program r b types locals levels globals called results following (second_code (starts_of types) c (p + length (first_code (starts_of types) a c p t)) t)) → AreIn program r b types locals levels globals called results following (pair_code (starts_of types) a c p t)
  pair_in a c p t numbered few short second =
      let slot = slot_with (starts_of types) (is_simple (starts_of types) c) a t in
      let front = first_code (starts_of types) a c p t in
      let back = second_code (starts_of types) c (p + length front) t in
      let long = length-append front back in
      append program r b types locals levels globals called results following front back
      (unless_in program r b types locals levels globals called results following (left_with (is_simple (starts_of types) c) (operand_of (starts_of types) a)) (expression_code (starts_of types) a p slot t) p (omega (arith, short, long))
      (λ less. expression_in program r b called results types locals levels globals following a p slot t numbered (slot_with_in r b types locals levels (is_simple (starts_of types) c) a t numbered (omega (arith, few, kind_few (kind_at r b types locals levels a)))) (omega (arith, few)) less))
      (second (omega (arith, short, long)))

  -- The operands that a condition compares are in range, that is, they exist in the function.
  sides_in : (null beside : Option Comparison) (a c whole : Expression) (p t : ℕ) → Fits b types a → Fits b types c → Fits b types whole
      → t + expression_need a + spare_slots ≤ r.slots → suc t + expression_need c + spare_slots ≤ r.slots → t + expression_need whole + spare_slots ≤ r.slots
      → p + length (pair_code (starts_of types) (nulled_or null beside a c whole).left (nulled_or null beside a c whole).right p t) < length r.code
      → AreIn program r b types locals levels globals called results following (pair_code (starts_of types) (nulled_or null beside a c whole).left (nulled_or null beside a c whole).right p t)
  sides_in (Some failing) beside a c whole p t first second all few few_second few_all short = pair_in a (Number 0) p t first few short (λ less. tt)
  sides_in None (Some failing) a c whole p t first second all few few_second few_all short =
      let next = p + length (first_code (starts_of types) a c p t) in
      let free : suc t + words_of_kind (kind_at r b types locals levels c) ≤ r.slots = omega (arith, few_second, kind_few (kind_at r b types locals levels c)) in
      pair_in a c p t first few short
      (λ less. unless_in program r b types locals levels globals called results following (operand_of (starts_of types) c) (expression_code (starts_of types) c next (value_slot (starts_of types) c (suc t)) (suc t)) next less
      (λ fits. expression_in program r b called results types locals levels globals following c next (value_slot (starts_of types) c (suc t)) (suc t) second (slot_fits r b types locals levels c (suc t) second free) (omega (arith, few_second)) fits))
  sides_in None None a c whole p t first second all few few_second few_all short = pair_in whole (Number 0) p t all few_all short (λ less. tt)

  condition_in : (a : Expression) (p t : ℕ) → Fits b types a → t + expression_need a + spare_slots ≤ r.slots → p + length (condition_code (starts_of types) a p t) < length r.code → AreIn program r b types locals levels globals called results following (condition_code (starts_of types) a p t)
  condition_in (Unary unary.Not a) p t numbered few short = condition_in a p t numbered (omega (arith, few)) short
  condition_in (Binary a (ThenCompute o c NoOperations) ty) p t (first, (second, none)) few short =
      sides_in None (failing_comparison o) a c (Binary a (ThenCompute o c NoOperations) ty) p t first second (first, (second, none)) (omega (arith, few)) (omega (arith, few, operand_positive (type_of a), operand_positive (type_of c), words_positive ty)) few short
  condition_in (Binary a (ThenPointer o c NoOperations) ty) p t (first, (wide, second, none)) few short =
      sides_in (null_compared o c) (pointers_failing o) a c (Binary a (ThenPointer o c NoOperations) ty) p t first second (first, (wide, second, none)) (omega (arith, few)) (omega (arith, few, operand_positive (type_of a), operand_positive (type_of c), words_positive ty)) few short
  condition_in (Binary a (ThenPointerPeek n o c NoOperations) ty) p t (first, (wide, second, none)) few short =
      sides_in (null_compared o c) (pointers_failing o) a c (Binary a (ThenPointerPeek n o c NoOperations) ty) p t first second (first, (wide, second, none)) (omega (arith, few)) (omega (arith, few, operand_positive (type_of a), operand_positive (type_of c), words_positive ty)) few short
  condition_in a p t numbered few short = pair_in a (Number 0) p t numbered few short (λ less. tt)

  sides_are_operands : (null beside : Option Comparison) (a c whole : Expression) (t : ℕ) → Fits b types a → Fits b types c → Fits b types whole
      → t + expression_need a + spare_slots ≤ r.slots → suc t + expression_need c + spare_slots ≤ r.slots → t + expression_need whole + spare_slots ≤ r.slots
      → IsOperand r (first_operand (starts_of types) (nulled_or null beside a c whole).left (nulled_or null beside a c whole).right t) × IsOperand r (value_operand (starts_of types) (nulled_or null beside a c whole).right (suc t))
  sides_are_operands (Some failing) beside a c whole t first second all few few_second few_all =
      (value_in r b types locals levels a t first (omega (arith, few, kind_few (kind_at r b types locals levels a))), tt)
  sides_are_operands None (Some failing) a c whole t first second all few few_second few_all = (
    left_with_in r b types locals levels (is_simple (starts_of types) c) a t first (omega (arith, few, kind_few (kind_at r b types locals levels a))),
    value_in r b types locals levels c (suc t) second (omega (arith, few_second, kind_few (kind_at r b types locals levels c))),
  )
  sides_are_operands None None a c whole t first second all few few_second few_all =
      (value_in r b types locals levels whole t all (omega (arith, few_all, kind_few (kind_at r b types locals levels whole))), tt)

  compared_in : (a : Expression) (t : ℕ) → Fits b types a → t + expression_need a + spare_slots ≤ r.slots → IsOperand r (condition_of (starts_of types) a t).left × IsOperand r (condition_of (starts_of types) a t).right
  compared_in (Unary unary.Not a) t numbered few = compared_in a t numbered (omega (arith, few))
  compared_in (Binary a (ThenCompute o c NoOperations) ty) t (first, (second, none)) few =
      sides_are_operands None (failing_comparison o) a c (Binary a (ThenCompute o c NoOperations) ty) t first second (first, (second, none)) (omega (arith, few)) (omega (arith, few, operand_positive (type_of a), operand_positive (type_of c), words_positive ty)) few
  compared_in (Binary a (ThenPointer o c NoOperations) ty) t (first, (wide, second, none)) few =
      sides_are_operands (null_compared o c) (pointers_failing o) a c (Binary a (ThenPointer o c NoOperations) ty) t first second (first, (wide, second, none)) (omega (arith, few)) (omega (arith, few, operand_positive (type_of a), operand_positive (type_of c), words_positive ty)) few
  compared_in (Binary a (ThenPointerPeek n o c NoOperations) ty) t (first, (wide, second, none)) few =
      sides_are_operands (null_compared o c) (pointers_failing o) a c (Binary a (ThenPointerPeek n o c NoOperations) ty) t first second (first, (wide, second, none)) (omega (arith, few)) (omega (arith, few, operand_positive (type_of a), operand_positive (type_of c), words_positive ty)) few
  compared_in a t numbered few = (value_in r b types locals levels a t numbered (omega (arith, few, kind_few (kind_at r b types locals levels a))), tt)

  -- The operands of a chain of tests exist in the function, and their jumps stay inside the code.
  deciding_in : (u : LogicalOperator) (c : Condition) (x : ℕ) (code : List Instruction) → IsOperand r c.left × IsOperand r c.right → x < length r.code → AreIn program r b types locals levels globals called results following code → AreIn program r b types locals levels globals called results following (deciding_jump u c x ∷ code)
  deciding_in logical.AndThen c x code (left, right) inside all = ((left, right, inside), all)
  deciding_in logical.OrElse c x code (left, right) inside all = ((left, right, inside), all)

  others_in : (u : LogicalOperator) (os : Operations) (ty : Ty) (words : ℕ) (c : Condition) (x p t : ℕ) → FitOperations b types words ty os → IsOperand r c.left × IsOperand r c.right → x < length r.code
      → t + operations_need os ty words + spare_slots ≤ r.slots → p + length (others_code (starts_of types) u os c x p t) < length r.code → AreIn program r b types locals levels globals called results following (others_code (starts_of types) u os c x p t)
  others_in u NoOperations ty words c x p t fits room inside few short = tt
  others_in u (ThenTest o a os) ty words c x p t (first, fits) room inside few short =
      let operand = condition_code (starts_of types) a (p + 1) t in
      let front = deciding_jump u c x ∷ operand in
      let rest = others_code (starts_of types) u os (condition_of (starts_of types) a t) x (p + length front) t in
      let long = length-append front rest in
      append program r b types locals levels globals called results following front rest
      (deciding_in u c x operand room inside (condition_in a (p + 1) t first (omega (arith, few)) (omega (arith, short, long))))
      (others_in u os ty (words_of ty) (condition_of (starts_of types) a t) x (p + length front) t fits (compared_in a t first (omega (arith, few))) inside (omega (arith, few)) (omega (arith, short, long)))
  others_in u (ThenCompute o a os) ty words c x p t (first, fits) room inside few short = others_in u os ty (words_of ty) c x p t fits room inside (omega (arith, few)) short
  others_in u (ThenPointer o a os) ty words c x p t (wide, first, fits) room inside few short = others_in u os ty (words_of ty) c x p t fits room inside (omega (arith, few)) short
  others_in u (ThenPointerPeek n o a os) ty words c x p t (wide, first, fits) room inside few short = others_in u os ty (words_of ty) c x p t fits room inside (omega (arith, few)) short

  last_in : (os : Operations) (ty : Ty) (words : ℕ) (c : Condition) (t : ℕ) → FitOperations b types words ty os → IsOperand r c.left × IsOperand r c.right → t + operations_need os ty words + spare_slots ≤ r.slots
      → IsOperand r (last_condition (starts_of types) os c t).left × IsOperand r (last_condition (starts_of types) os c t).right
  last_in NoOperations ty words c t fits room few = room
  last_in (ThenTest o a os) ty words c t (first, fits) room few = last_in os ty (words_of ty) (condition_of (starts_of types) a t) t fits (compared_in a t first (omega (arith, few))) (omega (arith, few))
  last_in (ThenCompute o a os) ty words c t (first, fits) room few = last_in os ty (words_of ty) c t fits room (omega (arith, few))
  last_in (ThenPointer o a os) ty words c t (wide, first, fits) room few = last_in os ty (words_of ty) c t fits room (omega (arith, few))
  last_in (ThenPointerPeek n o a os) ty words c t (wide, first, fits) room few = last_in os ty (words_of ty) c t fits room (omega (arith, few))

  -- A condition with its jump refers only to existing slots and code positions if further code follows it.
  pub choice_in : (u : LogicalOperator) (a : Expression) (p t : ℕ) → Fits b types a → t + expression_need a + spare_slots ≤ r.slots → p + length (choice_code (starts_of types) u a p t) + 1 < length r.code → AreIn program r b types locals levels globals called results following (choice_code (starts_of types) u a p t)
  choice_in u (Unary unary.Not a) p t numbered few short = choice_in (turned_test u) a p t numbered (omega (arith, few)) short
  choice_in u (Binary a os ty) p t (first, fits) few short = by (are_tests u os) short
    where
      by : (tests : Bool) → p + length (if tests then tests_code (starts_of types) u a os (after_tests (starts_of types) u a os p t) p t else condition_code (starts_of types) (Binary a os ty) p t) + 1 < length r.code
          → AreIn program r b types locals levels globals called results following (if tests then tests_code (starts_of types) u a os (after_tests (starts_of types) u a os p t) p t else condition_code (starts_of types) (Binary a os ty) p t)
      by true short =
          let x = after_tests (starts_of types) u a os p t in
          let front = condition_code (starts_of types) a p t in
          let rest = others_code (starts_of types) u os (condition_of (starts_of types) a t) x (p + length front) t in
          let long = length-append front rest in
          append program r b types locals levels globals called results following front rest (condition_in a p t first (omega (arith, few)) (omega (arith, short, long)))
          (others_in u os ty (operand_words (type_of a)) (condition_of (starts_of types) a t) x (p + length front) t fits (compared_in a t first (omega (arith, few)))
          (omega (arith, short, tests_same (starts_of types) u a os 0 x p t)) (omega (arith, few)) (omega (arith, short, long)))
      by false short = condition_in (Binary a os ty) p t (first, fits) few (omega (arith, short))
  choice_in u a p t numbered few short = condition_in a p t numbered few (omega (arith, short))

  pub chosen_in : (u : LogicalOperator) (a : Expression) (t : ℕ) → Fits b types a → t + expression_need a + spare_slots ≤ r.slots → IsOperand r (choice_of (starts_of types) u a t).left × IsOperand r (choice_of (starts_of types) u a t).right
  chosen_in u (Unary unary.Not a) t numbered few = chosen_in (turned_test u) a t numbered (omega (arith, few))
  chosen_in u (Binary a os ty) t (first, fits) few = by (are_tests u os)
    where
      by : (tests : Bool) → IsOperand r (if tests then last_condition (starts_of types) os (condition_of (starts_of types) a t) t else condition_of (starts_of types) (Binary a os ty) t).left
          × IsOperand r (if tests then last_condition (starts_of types) os (condition_of (starts_of types) a t) t else condition_of (starts_of types) (Binary a os ty) t).right
      by true = last_in os ty (operand_words (type_of a)) (condition_of (starts_of types) a t) t fits (compared_in a t first (omega (arith, few))) (omega (arith, few))
      by false = compared_in (Binary a os ty) t (first, fits) few
  chosen_in u a t numbered few = compared_in a t numbered few

  -- The operands of a branch's condition exist in the function, and the jumps of the condition stay inside the code.
  pub branch_in : (u : LogicalOperator) (a : Expression) (x p t : ℕ) → Fits b types a → t + expression_need a + spare_slots ≤ r.slots → x < length r.code → p + length (branch_code (starts_of types) u a x p t) + 1 < length r.code
      → AreIn program r b types locals levels globals called results following (branch_code (starts_of types) u a x p t)
  branch_in u (Unary unary.Not a) x p t numbered few inside short = branch_in (turned_test u) a x p t numbered (omega (arith, few)) inside short
  branch_in u (Binary a os ty) x p t (first, fits) few inside short = by (are_tests u os) short
    where
      by : (tests : Bool) → p + length (if tests then tests_code (starts_of types) u a os x p t else choice_code (starts_of types) (turned_test u) (Binary a os ty) p t) + 1 < length r.code
          → AreIn program r b types locals levels globals called results following (if tests then tests_code (starts_of types) u a os x p t else choice_code (starts_of types) (turned_test u) (Binary a os ty) p t)
      by true short =
          let front = condition_code (starts_of types) a p t in
          let rest = others_code (starts_of types) u os (condition_of (starts_of types) a t) x (p + length front) t in
          let long = length-append front rest in
          append program r b types locals levels globals called results following front rest (condition_in a p t first (omega (arith, few)) (omega (arith, short, long)))
          (others_in u os ty (operand_words (type_of a)) (condition_of (starts_of types) a t) x (p + length front) t fits (compared_in a t first (omega (arith, few))) inside (omega (arith, few)) (omega (arith, short, long)))
      by false short = choice_in (turned_test u) (Binary a os ty) p t (first, fits) few short
  branch_in u a x p t numbered few inside short = choice_in (turned_test u) a p t numbered few short

  pub branched_in : (u : LogicalOperator) (a : Expression) (t : ℕ) → Fits b types a → t + expression_need a + spare_slots ≤ r.slots → IsOperand r (branch_of (starts_of types) u a t).left × IsOperand r (branch_of (starts_of types) u a t).right
  branched_in u (Unary unary.Not a) t numbered few = branched_in (turned_test u) a t numbered (omega (arith, few))
  branched_in u (Binary a os ty) t (first, fits) few = by (are_tests u os)
    where
      by : (tests : Bool) → IsOperand r (if tests then last_condition (starts_of types) os (condition_of (starts_of types) a t) t else choice_of (starts_of types) (turned_test u) (Binary a os ty) t).left
          × IsOperand r (if tests then last_condition (starts_of types) os (condition_of (starts_of types) a t) t else choice_of (starts_of types) (turned_test u) (Binary a os ty) t).right
      by true = last_in os ty (operand_words (type_of a)) (condition_of (starts_of types) a t) t fits (compared_in a t first (omega (arith, few))) (omega (arith, few))
      by false = chosen_in (turned_test u) (Binary a os ty) t (first, fits) few
  branched_in u a t numbered few = chosen_in (turned_test u) a t numbered few

  -- The code that enters a loop refers only to existing slots and code positions if the loop's body and condition end within the code.
  pub entry_in : (guarded : Bool) (a : Expression) (p t test : ℕ) → Fits b types a → t + expression_need a + spare_slots ≤ r.slots
      → (p + entry_length guarded (choice_code (starts_of types) logical.AndThen a p t) + 1 < length r.code) × (test < length r.code)
      → AreIn program r b types locals levels globals called results following (entry_code guarded (choice_code (starts_of types) logical.AndThen a p t) (holding_jump (choice_of (starts_of types) logical.AndThen a t)) test p)
  entry_in true a p t test numbered few (short, there) =
      let (left, right) = chosen_in logical.AndThen a t numbered (omega (arith, few)) in
      append program r b types locals levels globals called results following (choice_code (starts_of types) logical.AndThen a p t) _ (choice_in logical.AndThen a p t numbered (omega (arith, few)) (omega (arith, short))) ((left, right, omega (arith, short)), tt)
  entry_in false a p t test numbered few (short, there) = (there, tt)
