-- Plans: the machine operation and operands that compute an operator or a comparison. The plans are this project's own choice;
-- `proofs/values/Plans` proves that the plans of this file (machine operations with their operands) compute the
-- plain program's operators and comparisons.
use Rattle.std.specs.Prelude.{ℕ, Bool, true, false, Option, Some, None, if◌then◌else◌}
use Rattle.cyc_isa.specs.declared.instr.ImmediateOp.{ImmediateOp}
use Rattle.cyc_isa.specs.declared.instr.ImmediateOp.TheVariants as immediate
use Rattle.cyc_isa.specs.declared.instr.ArithmeticOp.{ArithmeticOp}
use Rattle.cyc_isa.specs.declared.instr.ArithmeticOp.TheVariants as arithmetic
use Rattle.cyc_isa.specs.declared.instr.BranchOp.TheVariants as branch
use Rattle.cyc_isa.specs.declared.instr.BranchZeroOp.{BranchZeroOp}
use Rattle.cyc_isa.specs.declared.instr.BranchZeroOp.TheVariants as signs
use Rattle.cyc_isa.specs.declared.instr.MoveFromOp.{MoveFromOp}
use Rattle.cyc_isa.specs.declared.instr.MoveFromOp.TheVariants.{High, Low}
use Rattle.cyc_isa.specs.declared.instr.MultiplyDivideOp.{MultiplyDivideOp}
use Rattle.cyc_isa.specs.declared.instr.MultiplyDivideOp.TheVariants.{Multiply, Divide}
use Rattle.cyc_isa.specs.declared.instr.ShiftOp.{ShiftOp}
use Rattle.cyc_isa.specs.declared.instr.ShiftOp.TheVariants as shift
use Rattle.cyc_plain.specs.declared.instruction.UnaryOperator.{UnaryOperator}
use Rattle.cyc_plain.specs.declared.instruction.UnaryOperator.TheVariants as unary
use Rattle.cyc_plain.specs.declared.instruction.BinaryOperator.{BinaryOperator}
use Rattle.cyc_plain.specs.declared.instruction.BinaryOperator.TheVariants as binary
use Rattle.cyc_plain.specs.declared.instruction.Comparison.{Comparison}
use Rattle.cyc_plain.specs.declared.instruction.Comparison.TheVariants as comparisons
use Rattle.cyc_plain.specs.declared.instruction.Operand.{Operand}
use Rattle.cyc_plain.specs.declared.instruction.Operand.TheVariants as operands
use Rattle.cyc_select.specs.inside.Numbers.{signed_half, negated_half, next_half, low_half, is_word, is_zero_word, shift_amount, power_of}
use Rattle.cyc_select.specs.declared.plan.Operation.TheVariants as operations
use Rattle.cyc_select.specs.declared.plan.Outcome.{Outcome}
use Rattle.cyc_select.specs.declared.plan.Outcome.TheVariants as outcomes
use Rattle.cyc_select.specs.declared.plan.Plan.{Plan}
use Rattle.cyc_select.specs.declared.plan.Test.{Test}
use Rattle.cyc_select.specs.declared.plan.Test.TheVariants as tests

abbrev pub arithmetic_plan : ArithmeticOp → (left right : Operand) → Outcome → Plan
arithmetic_plan op left right outcome =
    record { operation = operations.Arithmetic op; left = left; right = right; outcome = outcome }

-- Returns a plan (machine operation and operands) whose instruction has an immediate operand. The right operand of a plan with an
-- immediate is the word 0, which needs no machine code.
abbrev pub immediate_plan : ImmediateOp → Operand → (half : ℕ) → Outcome → Plan
immediate_plan op left half outcome =
    record { operation = operations.Immediate op half; left = left; right = operands.Word 0; outcome = outcome }

-- Returns the plan (machine operation and operands) whose instruction has the given immediate, or the plan
-- `other` if no immediate is given.
abbrev pub immediate_or : Option ℕ → ImmediateOp → Operand → Outcome → Plan → Plan
immediate_or (Some half) op left outcome other = immediate_plan op left half outcome
immediate_or None op left outcome other = other

abbrev pub shift_by : Option ℕ → ShiftOp → (left right : Operand) → Plan
shift_by (Some amount) op left right = record {
  operation = operations.ShiftBy op amount;
  left = left;
  right = operands.Word 0;
  outcome = outcomes.AsItIs;
}
shift_by None op left right =
    record { operation = operations.Shift op; left = left; right = right; outcome = outcomes.AsItIs }

abbrev pub shift_plan : ShiftOp → (left right : Operand) → Plan
shift_plan op left right = shift_by (shift_amount right) op left right

abbrev pub multiply_divide_plan : MultiplyDivideOp → MoveFromOp → (left right : Operand) → Plan
multiply_divide_plan op from left right =
    record { operation = operations.MultiplyDivide op from; left = left; right = right; outcome = outcomes.AsItIs }

-- Returns the plan (machine operation and operands) of a product: a shift if one factor is a power of two, otherwise a multiplication.
abbrev pub product_or : Option ℕ → (left right : Operand) → Plan
product_or (Some amount) left right = shift_by (Some amount) shift.Left left right
product_or None left right = multiply_divide_plan Multiply Low left right

abbrev pub product_plan : (left right : Operand) → Plan
product_plan left right = product_or (power_of right) left right

-- ---- comparisons

-- Returns the comparison that holds for the exchanged operands exactly if the given comparison holds for the operands in order.
abbrev pub mirrored : Comparison → Comparison
mirrored comparisons.Less = comparisons.Greater
mirrored comparisons.LessOrEqual = comparisons.GreaterOrEqual
mirrored comparisons.Greater = comparisons.Less
mirrored comparisons.GreaterOrEqual = comparisons.LessOrEqual
mirrored comparison = comparison

-- Returns the plan (machine operation and operands) that tests that a word is 0, or that it is not 0 if `holds` is false.
abbrev pub zero_plan : Operand → (holds : Bool) → Plan
zero_plan operand holds =
    if holds
    then immediate_plan immediate.SetLessUnsigned operand 1 outcomes.AsItIs
    else arithmetic_plan arithmetic.SetLessUnsigned (operands.Word 0) operand outcomes.AsItIs

-- Returns the plan (machine operation and operands) that tests two words for equality or difference: it tests their difference for 0.
abbrev pub differs_plan : (left right : Operand) → Outcome → Plan
differs_plan left right outcome =
    immediate_or (negated_half right) immediate.AddUnsigned left outcome
    (arithmetic_plan arithmetic.SubtractUnsigned left right outcome)

abbrev pub equal_plan : (left right : Operand) → (holds : Bool) → Plan
equal_plan left right holds =
    if is_zero_word right
    then zero_plan left holds
    else differs_plan left right (if holds then outcomes.WhetherZero else outcomes.WhetherNotZero)

-- Returns the plan (machine operation and operands) that tests if the left word is less than the right one, or if it is not less.
abbrev pub less_plan : (left right : Operand) → Outcome → Plan
less_plan left right outcome =
    immediate_or (signed_half right) immediate.SetLess left outcome
    (arithmetic_plan arithmetic.SetLess left right outcome)

abbrev pub less_unsigned_plan : (left right : Operand) → Outcome → Plan
less_unsigned_plan left right outcome =
    immediate_or (signed_half right) immediate.SetLessUnsigned left outcome
    (arithmetic_plan arithmetic.SetLessUnsigned left right outcome)

-- Returns the plan (machine operation and operands) that tests that the left word is at most the right one: it is less
-- than the right word's successor.
abbrev pub at_most_plan : (left right : Operand) → (holds : Bool) → Plan
at_most_plan left right holds =
    immediate_or (next_half right) immediate.SetLess left (if holds then outcomes.AsItIs else outcomes.WhetherZero)
    (arithmetic_plan arithmetic.SetLess right left (if holds then outcomes.WhetherZero else outcomes.AsItIs))

abbrev pub compared_plan : Comparison → (left right : Operand) → Plan
compared_plan comparisons.Equal left right = equal_plan left right true
compared_plan comparisons.NotEqual left right = equal_plan left right false
compared_plan comparisons.Less left right = less_plan left right outcomes.AsItIs
compared_plan comparisons.LessOrEqual left right = at_most_plan left right true
compared_plan comparisons.Greater left right = at_most_plan left right false
compared_plan comparisons.GreaterOrEqual left right = less_plan left right outcomes.WhetherZero
compared_plan comparisons.LessUnsigned left right = less_unsigned_plan left right outcomes.AsItIs
compared_plan comparisons.GreaterOrEqualUnsigned left right = less_unsigned_plan left right outcomes.WhetherZero

-- Returns true if the operands of a comparison should be exchanged: the left one is a constant, and the comparison can be mirrored.
abbrev pub is_mirrored : Comparison → Operand → Bool
is_mirrored comparisons.LessUnsigned left = false
is_mirrored comparisons.GreaterOrEqualUnsigned left = false
is_mirrored comparison left = is_word left

-- Returns the plan (machine operation and operands) of a comparison's truth value, 1 or 0.
abbrev pub comparison_plan : Comparison → (left right : Operand) → Plan
comparison_plan comparison left right =
    if is_mirrored comparison left
    then compared_plan (mirrored comparison) right left
    else compared_plan comparison left right

-- ---- operators

abbrev pub unary_plan : UnaryOperator → Operand → Plan
unary_plan unary.Negate operand =
    arithmetic_plan arithmetic.SubtractUnsigned (operands.Word 0) operand outcomes.AsItIs
unary_plan unary.Complement operand = arithmetic_plan arithmetic.Nor (operands.Word 0) operand outcomes.AsItIs
unary_plan unary.Not operand = comparison_plan comparisons.Equal operand (operands.Word 0)

abbrev pub sum_plan : (left right : Operand) → Plan
sum_plan left right =
    immediate_or (signed_half right) immediate.AddUnsigned left outcomes.AsItIs
    (arithmetic_plan arithmetic.AddUnsigned left right outcomes.AsItIs)

abbrev pub difference_plan : (left right : Operand) → Plan
difference_plan left right =
    immediate_or (negated_half right) immediate.AddUnsigned left outcomes.AsItIs
    (arithmetic_plan arithmetic.SubtractUnsigned left right outcomes.AsItIs)

-- Returns the plan (machine operation and operands) of a bitwise operation, on two registers or on a register and an immediate.
abbrev pub bits_plan : ArithmeticOp → ImmediateOp → (left right : Operand) → Plan
bits_plan op number_op left right =
    immediate_or (low_half right) number_op left outcomes.AsItIs (arithmetic_plan op left right outcomes.AsItIs)

-- Returns the plan (machine operation and operands) of an operator. For a division, the machine must be able to
-- divide every word by the divisor.
abbrev pub operator_plan : BinaryOperator → (left right : Operand) → Plan
operator_plan binary.Add left right = sum_plan left right
operator_plan binary.Subtract left right = difference_plan left right
operator_plan binary.Multiply left right = product_plan left right
operator_plan binary.Divide left right = multiply_divide_plan Divide Low left right
operator_plan binary.Remainder left right = multiply_divide_plan Divide High left right
operator_plan binary.And left right = bits_plan arithmetic.And immediate.And left right
operator_plan binary.Or left right = bits_plan arithmetic.Or immediate.Or left right
operator_plan binary.Xor left right = bits_plan arithmetic.Xor immediate.Xor left right
operator_plan binary.ShiftLeft left right = shift_plan shift.Left left right
operator_plan binary.ShiftRight left right = shift_plan shift.RightArithmetic left right
operator_plan binary.Equal left right = comparison_plan comparisons.Equal left right
operator_plan binary.NotEqual left right = comparison_plan comparisons.NotEqual left right
operator_plan binary.Less left right = comparison_plan comparisons.Less left right
operator_plan binary.LessOrEqual left right = comparison_plan comparisons.LessOrEqual left right
operator_plan binary.Greater left right = comparison_plan comparisons.Greater left right
operator_plan binary.GreaterOrEqual left right = comparison_plan comparisons.GreaterOrEqual left right

-- Returns true if the operands of an operator should be exchanged: the left one is a constant, and the operator commutes.
abbrev pub is_swapped : BinaryOperator → Operand → Bool
is_swapped binary.Add left = is_word left
is_swapped binary.Multiply left = is_word left
is_swapped binary.And left = is_word left
is_swapped binary.Or left = is_word left
is_swapped binary.Xor left = is_word left
is_swapped operator left = false

-- Returns the plan (machine operation and operands) of an operator on two operands.
abbrev pub binary_plan : BinaryOperator → (left right : Operand) → Plan
binary_plan operator left right =
    if is_swapped operator left then operator_plan operator right left else operator_plan operator left right

-- ---- tests of branches

-- Returns the MIPS branch on a word's sign that performs the given comparison of this word with 0,
-- or `None` if MIPS performs this comparison by no branch on the sign.
abbrev pub sign_of : Comparison → Option BranchZeroOp
sign_of comparisons.Less = Some signs.Less
sign_of comparisons.LessOrEqual = Some signs.LessOrEqual
sign_of comparisons.Greater = Some signs.Greater
sign_of comparisons.GreaterOrEqual = Some signs.GreaterOrEqual
sign_of comparison = None

-- Returns a test of the operand's sign if a branch on the sign performs the comparison, otherwise the test `other`.
abbrev pub sign_or : Option BranchZeroOp → Operand → Test → Test
sign_or (Some op) operand other = tests.Sign op operand
sign_or None operand other = other

abbrev pub order_test : Comparison → (left right : Operand) → Test
order_test comparison left right =
    if is_zero_word right
    then sign_or (sign_of comparison) left (tests.Computed (comparison_plan comparison left right))
    else (if is_zero_word left
    then sign_or (sign_of (mirrored comparison)) right (tests.Computed (comparison_plan comparison left right))
    else tests.Computed (comparison_plan comparison left right))

-- Returns the test that a branch on a comparison performs.
abbrev pub test_of : Comparison → (left right : Operand) → Test
test_of comparisons.Equal left right = tests.Operands branch.Equal left right
test_of comparisons.NotEqual left right = tests.Operands branch.NotEqual left right
test_of comparison left right = order_test comparison left right
