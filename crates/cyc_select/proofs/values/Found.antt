-- The frame offsets of the slots that plans (sequences of machine operations) and tests name fit in load and store instructions.
use Rattle.std.proofs.Common.{◌≡◌, ℕ, zero, suc, ◌+◌, ◌<◌, ◌≤◌, false, Option, None, Some, refl, inl, inr, arith}
use Rattle.cyc_plain.specs.declared.instruction.BinaryOperator.{BinaryOperator}
use Rattle.cyc_plain.specs.declared.instruction.Comparison.{Comparison}
use Rattle.cyc_plain.specs.declared.instruction.Operand.{Operand}
use Rattle.cyc_plain.specs.declared.instruction.Operand.TheVariants as operands
use Rattle.cyc_plain.specs.declared.instruction.Request.{Request}
use Rattle.cyc_plain.specs.inside.Requests.{first_operand, second_operand, answer_count, destination_of}
use Rattle.cyc_plain.specs.inside.Program.{Routine}
use Rattle.cyc_plain.specs.inside.WellFormed.{IsOperand, IsArgument, IsRequestInRange}
use Rattle.cyc_frame.specs.inside.Frame.{Frame}
use Rattle.cyc_select.specs.declared.plan.Test.{Test}
use Rattle.cyc_select.specs.declared.plan.Test.TheVariants as tests
use Rattle.cyc_select.specs.inside.Plans.{binary_plan, test_of}
use Rattle.cyc_select.specs.inside.Operands.{is_tested}
use Rattle.cyc_select.specs.inside.Emission.{IsReached, AreReached, IsFound, IsArgumentFound, IsRequestFound, IsPlanFound, IsTestFound}
use Rattle.cyc_select.proofs.values.Plans.{AllOfTest, all_binary, all_test}

slot_found : (frame : Frame) (slots number : ℕ) → AreReached frame 0 slots → number < slots → IsReached frame number
slot_found frame slots number (inl none) below = absurd (omega (arith, none, below))
slot_found frame slots number (inr inside) below = omega (arith, inside, below)

pub operand_found : (frame : Frame) (r : Routine) (o : Operand) → AreReached frame 0 r.slots → IsOperand r o → IsFound frame o
operand_found frame r (operands.Slot number) reached below = slot_found frame r.slots number reached below
operand_found frame r (operands.Word word) reached there = tt

argument_found : (frame : Frame) (r : Routine) (o : Option Operand) → AreReached frame 0 r.slots → IsArgument r o → IsArgumentFound frame o
argument_found frame r None reached there = tt
argument_found frame r (Some operand) reached there = operand_found frame r operand reached there

slots_found : (frame : Frame) (slots first count : ℕ) → AreReached frame 0 slots → first + count ≤ slots → AreReached frame first count
slots_found frame slots first zero reached below = inl refl
slots_found frame slots first (suc count) (inl none) below = absurd (omega (arith, none, below))
slots_found frame slots first (suc count) (inr inside) below = inr (omega (arith, inside, below))

pub request_found : (frame : Frame) (r : Routine) (request : Request) → AreReached frame 0 r.slots → IsRequestInRange r request → IsRequestFound frame request
request_found frame r request reached in_range = record {
  first = argument_found frame r (first_operand request) reached in_range.first_in_range;
  second = argument_found frame r (second_operand request) reached in_range.second_in_range;
  answer = slots_found frame r.slots (destination_of request) (answer_count request) reached in_range.answer_in_range;
}

module _ (frame : Frame) where
  pub binary_found : (operator : BinaryOperator) (left right : Operand) → is_tested operator right ≡ false → IsFound frame left → IsFound frame right → IsPlanFound frame (binary_plan operator left right)
  binary_found =
      all_binary (IsFound frame) tt (IsPlanFound frame) (λ op left right outcome l r. (l, r)) (λ op left half outcome fits l. (l, tt))
      (λ op left right l r. (l, r)) (λ op left right amount l. (l, tt)) (λ left right l r. (l, r)) (λ from left right plain l r. (l, r))

  test_either : (test : Test) → AllOfTest (IsFound frame) tt (IsPlanFound frame) (λ op left right outcome l r. (l, r)) (λ op left half outcome fits l. (l, tt)) test → IsTestFound frame test
  test_either (tests.Operands op left right) found = found
  test_either (tests.Sign op operand) found = found
  test_either (tests.Computed plan) found = found

  pub test_found : (comparison : Comparison) (left right : Operand) → IsFound frame left → IsFound frame right → IsTestFound frame (test_of comparison left right)
  test_found comparison left right l r =
      test_either (test_of comparison left right)
      (all_test (IsFound frame) tt (IsPlanFound frame) (λ op left right outcome l r. (l, r)) (λ op left half outcome fits l. (l, tt)) comparison left right l r)
