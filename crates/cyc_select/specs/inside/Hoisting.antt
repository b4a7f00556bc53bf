-- The instruction that is hoisted before a branch to fill the branch's delay slot: a copy of the first line of the branch target.
use Rattle.std.specs.Prelude.{ℕ, ◌+◌, ◌%◌, ◌^◌, ◌==◌, ◌&&◌, ◌||◌, Bool, false, not, nat_lt, nat_le, if◌then◌else◌, List, [], ◌∷◌, ◌++◌, Option, Some, None, slice_get}
use Rattle.cyc_isa.specs.declared.instr.Instr.{Instr}
use Rattle.cyc_isa.specs.declared.instr.Instr.TheVariants as machine
use Rattle.cyc_machine_model.specs.declared.constants.TheConstants.{ARGUMENT, GET_BYTE, SERVICE}
use Rattle.cyc_plain.specs.declared.instruction.Instruction.{Instruction}
use Rattle.cyc_plain.specs.declared.instruction.Instruction.TheVariants as plain
use Rattle.cyc_plain.specs.declared.instruction.Operand.{Operand}
use Rattle.cyc_plain.specs.declared.instruction.Operand.TheVariants as operands
use Rattle.cyc_frame.specs.inside.Frame.{Frame}
use Rattle.cyc_registers.specs.inside.Fills.{fills_at}
use Rattle.cyc_registers.specs.inside.Idle.{idle_at}
use Rattle.cyc_select.specs.declared.constants.TheConstants.{ZERO, THIRD_RESULT, FIRST, SECOND, THIRD}
use Rattle.cyc_select.specs.declared.code.Condition.{Condition}
use Rattle.cyc_select.specs.declared.code.Condition.TheVariants as conditions
use Rattle.cyc_select.specs.declared.plan.Operation.{Operation}
use Rattle.cyc_select.specs.declared.plan.Operation.TheVariants as operations
use Rattle.cyc_select.specs.declared.plan.Plan.{Plan}
use Rattle.cyc_select.specs.declared.plan.Test.{Test}
use Rattle.cyc_select.specs.declared.plan.Test.TheVariants as tests
use Rattle.cyc_select.specs.inside.Numbers.{fits_signed, is_zero_word}
use Rattle.cyc_select.specs.inside.Plans.{unary_plan, binary_plan, test_of}
use Rattle.cyc_select.specs.inside.Instructions.{add_immediate, small, minus, load_upper, arithmetic_of, shift_of, immediate_of, shift_by_of, copy}
use Rattle.cyc_select.specs.inside.Slots.{value_register, made_in, is_own}
use Rattle.cyc_select.specs.inside.Operands.{or_immediate, operand_register, condition_of, is_tested}

-- Returns true if an instruction has no lines: the frame lists it as needing no machine code, and instructions of its form may need none.
abbrev pub is_idle : Frame → (index : ℕ) → Instruction → Bool
is_idle frame index (plain.Move destination source) = idle_at frame.idle index
is_idle frame index (plain.MoveWords destination source count) = idle_at frame.idle index
is_idle frame index (plain.Unary operator destination operand) = idle_at frame.idle index
is_idle frame index (plain.Binary operator destination left right) = idle_at frame.idle index
is_idle frame index (plain.Jump target) = idle_at frame.idle index
is_idle frame index (plain.Branch comparison left right target) = idle_at frame.idle index
is_idle frame index instruction = false

-- ---- the line that a branch copies from its target

-- A MIPS line can be hoisted before a branch if it computes a register from registers only. A copy of the branch target's first line may
-- fill the delay slot; the branch then jumps to the line after the original. The register that the copied line writes must be a
-- temporary, or that of a slot for which the frame permits the copy.

-- Returns the first line of the code that loads a constant word into a register.
abbrev pub word_first : (target word : ℕ) → Instr
word_first target word =
    if fits_signed word
    then small target (word % 2 ^ 16)
    else (if nat_lt word (2 ^ 16) then or_immediate target word else load_upper target word)

-- Returns the first line that loads an operand into a register, or `following` if no line is needed, or `None` if the line reads memory.
abbrev pub slot_first : Option ℕ → (following : Option Instr) → Option Instr
slot_first None following = None
slot_first (Some own) following = following

abbrev pub operand_first : Frame → (register : ℕ) → Operand → (following : Option Instr) → Option Instr
operand_first frame register (operands.Slot number) following = slot_first (value_register frame number) following
operand_first frame register (operands.Word word) following =
    if is_zero_word (operands.Word word) then following else Some (word_first register word)

-- Returns the first line that loads two operands, or `following` if no load is needed.
abbrev pub operands_first : Frame → (left right : Operand) → (following : Option Instr) → Option Instr
operands_first frame left right following = operand_first frame FIRST left (operand_first frame SECOND right following)

abbrev pub operation_first : Operation → (target left right : ℕ) → Option Instr
operation_first (operations.Arithmetic op) target left right = Some (arithmetic_of op target left right)
operation_first (operations.Immediate op half) target left right = Some (immediate_of op target left half)
operation_first (operations.Shift op) target left right = Some (shift_of op target left right)
operation_first (operations.ShiftBy op amount) target left right = Some (shift_by_of op target left amount)
operation_first (operations.MultiplyDivide op from) target left right = None

-- Returns the first line of the code of a plan (a sequence of machine operations).
abbrev pub plan_first : Frame → (target : ℕ) → Plan → Option Instr
plan_first frame target plan =
    operands_first frame plan.left plan.right
    (operation_first plan.operation target (operand_register frame FIRST plan.left) (operand_register frame SECOND plan.right))

abbrev pub divided_first : Frame → (left right : Operand) → Option Instr
divided_first frame left right = operands_first frame left right (Some (add_immediate THIRD ZERO (minus 1)))

abbrev pub test_first : Frame → Test → Option Instr
test_first frame (tests.Operands op left right) = operands_first frame left right None
test_first frame (tests.Sign op operand) = operand_first frame FIRST operand None
test_first frame (tests.Computed plan) = plan_first frame FIRST plan

abbrev pub copy_first : Option ℕ → (register : ℕ) → Option Instr
copy_first None register = None
copy_first (Some own) register = Some (copy register own)

abbrev pub load_first : Frame → (register : ℕ) → Operand → Option Instr
load_first frame register (operands.Slot number) = copy_first (value_register frame number) register
load_first frame register (operands.Word word) = Some (word_first register word)

abbrev pub move_first : Option ℕ → Frame → Operand → Option Instr
move_first None frame source = operand_first frame FIRST source None
move_first (Some register) frame source = load_first frame register source

-- Returns the first line of an instruction if it may be hoisted: the line computes a register from registers, and more lines follow or
-- control passes only to the next instruction.
abbrev pub first_line : Frame → Instruction → Option Instr
first_line frame (plain.Move destination source) = move_first (value_register frame destination) frame source
first_line frame (plain.Unary operator destination operand) =
    plan_first frame (made_in frame destination) (unary_plan operator operand)
first_line frame (plain.Binary operator destination left right) =
    if is_tested operator right
    then divided_first frame left right
    else plan_first frame (made_in frame destination) (binary_plan operator left right)
first_line frame (plain.Branch comparison left right target) = test_first frame (test_of comparison left right)
first_line frame (plain.ReadByte destination) = Some (small SERVICE GET_BYTE)
first_line frame (plain.WriteByte source) = load_first frame ARGUMENT source
first_line frame (plain.StoreGlobal global source) = operand_first frame FIRST source None
first_line frame instruction = None

-- Returns the register of the slot to which an instruction writes its result, if the slot has one.
abbrev pub given_register : Frame → Instruction → Option ℕ
given_register frame (plain.Move destination source) = value_register frame destination
given_register frame (plain.Unary operator destination operand) = value_register frame destination
given_register frame (plain.Binary operator destination left right) = value_register frame destination
given_register frame instruction = None

-- Returns the register of the slot to which the branch target writes its result, if the frame permits copies of the target's first line in
-- delay slots.
abbrev pub own_register : Frame → (target : ℕ) → Instruction → Option ℕ
own_register frame target instruction = if fills_at frame.fills target then given_register frame instruction else None

-- Returns the register that an instruction writes, if it reads registers only.
abbrev pub target_of : Instr → Option ℕ
target_of (machine.Immediate op target source half) = Some target.number
target_of (machine.LoadUpper target half) = Some target.number
target_of (machine.Shift op destination source amount) = Some destination.number
target_of (machine.ShiftVariable op destination source by) = Some destination.number
target_of (machine.Arithmetic op destination left right) = Some destination.number
target_of instruction = None

abbrev pub tests_register : Condition → (register : ℕ) → Bool
tests_register (conditions.Registers op left right) register = left.number == register || right.number == register
tests_register (conditions.Sign op source) register = source.number == register

-- Returns true if a register is temporary: no slot has it, and its word is not used later.
abbrev pub is_spare : (register : ℕ) → Bool
is_spare register = register == FIRST || (nat_lt ZERO register && nat_le register THIRD_RESULT)

-- Returns true if a line may be hoisted before the branch: the line writes a temporary or the register `own`, and the branch
-- does not test this register.
abbrev pub may_write : Condition → (own : Option ℕ) → Option ℕ → Bool
may_write condition own None = false
may_write condition own (Some register) =
    (is_spare register || is_own own register) && not (tests_register condition register)

abbrev pub copied_if : Condition → (own : Option ℕ) → Option Instr → Option Instr
copied_if condition own None = None
copied_if condition own (Some first) = if may_write condition own (target_of first) then Some first else None

abbrev pub hoisted_at : Frame → Condition → (target : ℕ) → Option Instruction → Option Instr
hoisted_at frame condition target None = None
hoisted_at frame condition target (Some instruction) =
    if is_idle frame target instruction
    then None
    else copied_if condition (own_register frame target instruction) (first_line frame instruction)

-- Returns the MIPS line that is hoisted before a branch with this test to this target, or `None`.
abbrev pub hoisted : Frame → List Instruction → Test → (target : ℕ) → Option Instr
hoisted frame code test target = hoisted_at frame (condition_of frame test) target (slice_get code target)

abbrev pub hoisted_count : Option Instr → ℕ
hoisted_count None = 0
hoisted_count (Some first) = 1

abbrev pub with_hoisted : List Instr → Option Instr → List Instr
with_hoisted instructions None = instructions
with_hoisted instructions (Some first) = instructions ++ first ∷ []

-- Returns the label to which a branch jumps: the line after the target's first one, if this first line is hoisted.
abbrev pub after_hoisted : Option Instr → (label : ℕ) → ℕ
after_hoisted None label = label
after_hoisted (Some first) label = label + 1
