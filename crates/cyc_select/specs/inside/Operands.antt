-- The code that loads operands into registers and computes with them, and the number of its lines.
use Rattle.std.specs.Prelude.{ℕ, zero, suc, ◌+◌, ◌%◌, ◌^◌, ◌==◌, Bool, false, not, nat_lt, if◌then◌else◌, List, [], ◌∷◌, ◌++◌, sum_by, Option, Some, None}
use Rattle.cyc_isa.specs.Decoding.{register_of}
use Rattle.cyc_isa.specs.declared.instr.Instr.{Instr}
use Rattle.cyc_isa.specs.declared.instr.Instr.TheVariants as machine
use Rattle.cyc_isa.specs.declared.instr.ImmediateOp.TheVariants as immediate
use Rattle.cyc_isa.specs.declared.instr.MemoryOp.{MemoryOp}
use Rattle.cyc_isa.specs.declared.instr.BranchOp.{BranchOp}
use Rattle.cyc_isa.specs.declared.instr.BranchOp.TheVariants as branch
use Rattle.cyc_isa.specs.declared.instr.ArithmeticOp.TheVariants as arithmetic
use Rattle.cyc_plain.specs.declared.instruction.BinaryOperator.{BinaryOperator}
use Rattle.cyc_plain.specs.declared.instruction.BinaryOperator.TheVariants as binary
use Rattle.cyc_plain.specs.declared.instruction.Operand.{Operand}
use Rattle.cyc_plain.specs.declared.instruction.Operand.TheVariants as operands
use Rattle.cyc_registers.specs.inside.Interference as homing
use Rattle.cyc_frame.specs.inside.Frame.{Frame}
use Rattle.cyc_select.specs.declared.constants.TheConstants.{ZERO, FIRST, SECOND}
use Rattle.cyc_select.specs.declared.code.Condition.{Condition}
use Rattle.cyc_select.specs.declared.code.Condition.TheVariants as conditions
use Rattle.cyc_select.specs.declared.plan.Operation.{Operation}
use Rattle.cyc_select.specs.declared.plan.Operation.TheVariants as operations
use Rattle.cyc_select.specs.declared.plan.Outcome.{Outcome}
use Rattle.cyc_select.specs.declared.plan.Outcome.TheVariants as outcomes
use Rattle.cyc_select.specs.declared.plan.Plan.{Plan}
use Rattle.cyc_select.specs.declared.plan.Test.{Test}
use Rattle.cyc_select.specs.declared.plan.Test.TheVariants as tests
use Rattle.cyc_select.specs.inside.Numbers.{fits_signed, is_zero_word, is_plain_divisor}
use Rattle.cyc_select.specs.inside.Plans.{arithmetic_plan, binary_plan}
use Rattle.cyc_select.specs.inside.Instructions.{load, slot_offset, small, is_zero, load_upper, constant, arithmetic_of, shift_of, immediate_of, shift_by_of, multiply_divide_of, move_from_of}
use Rattle.cyc_select.specs.inside.Slots.{value_register, or_else, is_kept, load_slot, made_in, keep_code, is_own, is_near}

-- ---- operands

-- A word is loaded into a register by one instruction if one 16-bit half suffices, otherwise by two instructions, one for each half.
abbrev pub or_immediate : (target half : ℕ) → Instr
or_immediate target half = machine.Immediate immediate.Or (register_of target) (register_of ZERO) half

abbrev pub word_code : (target word : ℕ) → List Instr
word_code target word =
    if fits_signed word
    then small target (word % 2 ^ 16) ∷ []
    else (if nat_lt word (2 ^ 16)
    then or_immediate target word ∷ []
    else (if word % 2 ^ 16 == 0 then load_upper target word ∷ [] else constant target word))

-- Returns the code that loads an operand into a register.
abbrev pub load_code : Frame → (target : ℕ) → Operand → List Instr
load_code frame target (operands.Slot number) = load_slot frame target number ∷ []
load_code frame target (operands.Word word) = word_code target word

-- Returns the code that makes an operand available in a register. The word 0 and a slot with a register need no code; any other operand is
-- loaded into `register`.
abbrev pub fetch_from : Option ℕ → Frame → (register slot : ℕ) → List Instr
fetch_from None frame register slot = load register (slot_offset frame slot) ∷ []
fetch_from (Some own) frame register slot = []

abbrev pub operand_code : Frame → (register : ℕ) → Operand → List Instr
operand_code frame register (operands.Slot number) = fetch_from (value_register frame number) frame register number
operand_code frame register (operands.Word word) =
    if is_zero_word (operands.Word word) then [] else word_code register word

abbrev pub operand_register : Frame → (register : ℕ) → Operand → ℕ
operand_register frame register (operands.Slot number) = or_else (value_register frame number) register
operand_register frame register (operands.Word word) = if is_zero_word (operands.Word word) then ZERO else register

-- ---- computations

-- Returns the code that applies an operation to the words in two registers and writes a third one.
abbrev pub operation_code : Operation → (target left right : ℕ) → List Instr
operation_code (operations.Arithmetic op) target left right = arithmetic_of op target left right ∷ []
operation_code (operations.Immediate op half) target left right = immediate_of op target left half ∷ []
operation_code (operations.Shift op) target left right = shift_of op target left right ∷ []
operation_code (operations.ShiftBy op amount) target left right = shift_by_of op target left amount ∷ []
operation_code (operations.MultiplyDivide op from) target left right = multiply_divide_of op left right ∷ move_from_of from target ∷ []

-- Returns the code of a plan's final step, which turns the word computed in the target register into the plan's result.
abbrev pub outcome_code : Outcome → (target : ℕ) → List Instr
outcome_code outcomes.AsItIs target = []
outcome_code outcomes.WhetherZero target = is_zero target ∷ []
outcome_code outcomes.WhetherNotZero target = arithmetic_of arithmetic.SetLessUnsigned target ZERO target ∷ []

-- Returns the code that makes two operands available, each in a register.
abbrev pub operands_code : Frame → (left right : Operand) → List Instr
operands_code frame left right = operand_code frame FIRST left ++ operand_code frame SECOND right

-- Returns the code of a plan (operands and a machine operation) without its final step, which turns the computed word into the result.
abbrev pub operation_of : Frame → (target : ℕ) → Plan → List Instr
operation_of frame target plan =
    operands_code frame plan.left plan.right
    ++ operation_code plan.operation target (operand_register frame FIRST plan.left) (operand_register frame SECOND plan.right)

-- Returns the code of a plan (operands and a machine operation) with its final step, which turns the computed word into the result.
abbrev pub computed_code : Frame → (target : ℕ) → Plan → List Instr
computed_code frame target plan = operation_of frame target plan ++ outcome_code plan.outcome target

abbrev pub plan_code : Frame → Plan → (destination : ℕ) → List Instr
plan_code frame plan destination =
    computed_code frame (made_in frame destination) plan ++ keep_code frame destination

-- Returns the code that computes the operands that a branch tests.
abbrev pub test_code : Frame → Test → List Instr
test_code frame (tests.Operands op left right) = operands_code frame left right
test_code frame (tests.Sign op operand) = operand_code frame FIRST operand
test_code frame (tests.Computed plan) = operation_of frame FIRST plan

-- Returns the branch that is taken if the final step of a plan (a sequence of machine operations) would compute 1.
abbrev pub branch_on : Outcome → BranchOp
branch_on outcomes.AsItIs = branch.NotEqual
branch_on outcomes.WhetherZero = branch.Equal
branch_on outcomes.WhetherNotZero = branch.NotEqual

abbrev pub condition_of : Frame → Test → Condition
condition_of frame (tests.Operands op left right) =
    conditions.Registers op (register_of (operand_register frame FIRST left)) (register_of (operand_register frame SECOND right))
condition_of frame (tests.Sign op operand) = conditions.Sign op (register_of (operand_register frame FIRST operand))
condition_of frame (tests.Computed plan) =
    conditions.Registers (branch_on plan.outcome) (register_of FIRST) (register_of ZERO)

-- ---- addresses

-- A load or store instruction contains a small offset. An offset that does not fit a load or store
-- instruction is added to the address first.

abbrev pub far_plan : (address : Operand) → (offset : ℕ) → Plan
far_plan address offset = arithmetic_plan arithmetic.AddUnsigned address (operands.Word offset) outcomes.AsItIs

abbrev pub address_code : Frame → (address : Operand) → (offset : ℕ) → List Instr
address_code frame address offset =
    if fits_signed offset then operand_code frame FIRST address else operation_of frame FIRST (far_plan address offset)

abbrev pub address_register : Frame → (address : Operand) → (offset : ℕ) → ℕ
address_register frame address offset = if fits_signed offset then operand_register frame FIRST address else FIRST

abbrev pub near_half : (offset : ℕ) → ℕ
near_half offset = if fits_signed offset then offset % 2 ^ 16 else 0

-- Returns the instruction that loads or stores the word of memory at this address.
abbrev pub at_address : Frame → MemoryOp → (register : ℕ) → (address : Operand) → (offset : ℕ) → Instr
at_address frame op register address offset =
    machine.Memory op (register_of register) (register_of (address_register frame address offset)) (near_half offset)

-- ---- numbers of lines

abbrev pub word_count : ℕ → ℕ
word_count word =
    if fits_signed word
    then 1
    else (if nat_lt word (2 ^ 16) then 1 else (if word % 2 ^ 16 == 0 then 1 else 2))

abbrev pub load_count : Operand → ℕ
load_count (operands.Slot number) = 1
load_count (operands.Word word) = word_count word

-- Returns the number of MIPS lines that load a slot into a register: 0 if the slot has a register.
abbrev pub fetch_count : Option ℕ → ℕ
fetch_count None = 1
fetch_count (Some own) = 0

abbrev pub operand_count : Frame → Operand → ℕ
operand_count frame (operands.Slot number) = fetch_count (value_register frame number)
operand_count frame (operands.Word word) = if is_zero_word (operands.Word word) then 0 else word_count word

-- Returns the number of MIPS lines that store a slot's word in the frame: 0 if the slot's home is a register alone.
abbrev pub keep_count : Frame → (slot : ℕ) → ℕ
keep_count frame slot = if is_kept frame slot then 1 else 0

abbrev pub give_count_to : Option ℕ → Frame → (slot : ℕ) → ℕ
give_count_to None frame slot = 1
give_count_to (Some register) frame slot = keep_count frame slot + 1

abbrev pub give_count : Frame → (slot : ℕ) → ℕ
give_count frame slot = give_count_to (value_register frame slot) frame slot

abbrev pub hand_count : Frame → (source slot : ℕ) → ℕ
hand_count frame source slot =
    if is_own (value_register frame slot) source then keep_count frame slot else give_count frame slot

-- Returns the number of MIPS lines that write registers to the `count` slots from `slot` on.
abbrev pub gives_count : Frame → (slot count : ℕ) → ℕ
gives_count frame slot zero = 0
gives_count frame slot (suc count) = give_count frame slot + gives_count frame (suc slot) count

-- Returns the number of MIPS lines that reload registers after a call.
abbrev pub reload_count : Frame → ℕ
reload_count frame = sum_by homing.both_count frame.homes

-- Returns the number of MIPS lines that load the base address for a global: 0 if a register holds it.
abbrev pub reach_count : (global : ℕ) → ℕ
reach_count global = if is_near global then 0 else 1

-- Returns the number of MIPS lines that copy an operand to a slot.
abbrev pub move_count_to : Option ℕ → Frame → (destination : ℕ) → Operand → ℕ
move_count_to None frame destination source = operand_count frame source + 1
move_count_to (Some register) frame destination source = load_count source + keep_count frame destination

abbrev pub move_count : Frame → (destination : ℕ) → Operand → ℕ
move_count frame destination source = move_count_to (value_register frame destination) frame destination source

-- Returns the number of MIPS lines that copy words to slots one by one.
abbrev pub moves_count : Frame → (destination source count : ℕ) → ℕ
moves_count frame destination source zero = 0
moves_count frame destination source (suc count) =
    move_count frame destination (operands.Slot source) + moves_count frame (suc destination) (suc source) count

abbrev pub operation_count : Operation → ℕ
operation_count (operations.Arithmetic op) = 1
operation_count (operations.Immediate op half) = 1
operation_count (operations.Shift op) = 1
operation_count (operations.ShiftBy op amount) = 1
operation_count (operations.MultiplyDivide op from) = 2

abbrev pub outcome_count : Outcome → ℕ
outcome_count outcomes.AsItIs = 0
outcome_count outcomes.WhetherZero = 1
outcome_count outcomes.WhetherNotZero = 1

-- Returns the number of MIPS lines of a plan (a sequence of machine operations) without its final step.
abbrev pub count_of_operation : Frame → Plan → ℕ
count_of_operation frame plan =
    operand_count frame plan.left + operand_count frame plan.right + operation_count plan.operation

abbrev pub plan_count : Frame → Plan → (destination : ℕ) → ℕ
plan_count frame plan destination =
    count_of_operation frame plan + outcome_count plan.outcome + keep_count frame destination

abbrev pub test_count : Frame → Test → ℕ
test_count frame (tests.Operands op left right) = operand_count frame left + operand_count frame right
test_count frame (tests.Sign op operand) = operand_count frame operand
test_count frame (tests.Computed plan) = count_of_operation frame plan

-- Returns true if an operator is a division whose divisor may be 0 or -1, so that its code tests the divisor.
abbrev pub is_tested : BinaryOperator → (divisor : Operand) → Bool
is_tested binary.Divide divisor = not (is_plain_divisor divisor)
is_tested binary.Remainder divisor = not (is_plain_divisor divisor)
is_tested operator right = false

abbrev pub address_count : Frame → (address : Operand) → (offset : ℕ) → ℕ
address_count frame address offset =
    if fits_signed offset then operand_count frame address else count_of_operation frame (far_plan address offset)

abbrev pub divide_count : Frame → (destination : ℕ) → (left right : Operand) → ℕ
divide_count frame destination left right =
    operand_count frame left + operand_count frame right + 6 + keep_count frame destination

abbrev pub operator_count : Frame → BinaryOperator → (destination : ℕ) → (left right : Operand) → ℕ
operator_count frame operator destination left right =
    if is_tested operator right
    then divide_count frame destination left right
    else plan_count frame (binary_plan operator left right) destination
