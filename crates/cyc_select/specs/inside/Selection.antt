-- The code selected for a plain program, as a function. The choice of the selected code is this project's own; the meaning of the code
-- is stated and proved separately (`Selected`).
--
-- Stack frames grow downward from the end of the stack. The call that starts the program has return address 0. The module `constants`
-- assigns the registers.
use Rattle.std.specs.Prelude.{ℕ, zero, suc, ◌+◌, ◌==◌, Bool, true, false, if◌then◌else◌, List, [], ◌∷◌, ◌++◌, map, Option, Some, None}
use Rattle.cyc_registers.specs.inside.Bars.{is_crossing}
use Rattle.cyc_isa.specs.Decoding.{register_of}
use Rattle.cyc_isa.specs.declared.instr.Instr.{Instr}
use Rattle.cyc_isa.specs.declared.instr.Instr.TheVariants as machine
use Rattle.cyc_isa.specs.declared.instr.MemoryOp.{MemoryOp}
use Rattle.cyc_isa.specs.declared.instr.MemoryOp.TheVariants.{LoadWord, StoreWord, LoadByte, StoreByte}
use Rattle.cyc_isa.specs.declared.instr.BranchOp.TheVariants as branch
use Rattle.cyc_isa.specs.declared.instr.ShiftOp.TheVariants as shift
use Rattle.cyc_isa.specs.declared.instr.MoveFromOp.{MoveFromOp}
use Rattle.cyc_isa.specs.declared.instr.MoveFromOp.TheVariants.{High, Low}
use Rattle.cyc_isa.specs.declared.instr.MultiplyDivideOp.TheVariants.{Divide, Multiply}
use Rattle.cyc_isa.specs.declared.instr.ArithmeticOp.TheVariants as arithmetic
use Rattle.cyc_machine_model.specs.declared.constants.TheConstants.{ALLOCATE, ARGUMENT, CLOSE_DYNAMIC, CLOSE_LEXICAL, END_FULL, END_RETURNED, END_UNCAUGHT, FREE, GET_BYTE, OPEN_DYNAMIC, OPEN_LEXICAL, PUT_BYTE, RETURN_ADDRESS, SECOND_ANSWER, SECOND_ARGUMENT, SERVICE}
use Rattle.cyc_plain.specs.declared.instruction.Instruction.{Instruction}
use Rattle.cyc_plain.specs.declared.instruction.Instruction.TheVariants as plain
use Rattle.cyc_plain.specs.declared.instruction.BinaryOperator.{BinaryOperator}
use Rattle.cyc_plain.specs.declared.instruction.BinaryOperator.TheVariants as binary
use Rattle.cyc_plain.specs.declared.instruction.Operand.{Operand}
use Rattle.cyc_plain.specs.declared.instruction.Operand.TheVariants as operands
use Rattle.cyc_plain.specs.declared.instruction.Request.{Request}
use Rattle.cyc_plain.specs.declared.instruction.Request.TheVariants as requests
use Rattle.cyc_plain.specs.inside.Requests.{first_operand, second_operand, answer_count, destination_of}
use Rattle.cyc_plain.specs.inside.Program.{Routine, Program, routine_at}
use Rattle.cyc_frame.specs.inside.Layout.{frame_at}
use Rattle.cyc_frame.specs.inside.Frame.{Frame}
use Rattle.cyc_select.specs.declared.constants.TheConstants.{ZERO, FIRST, SECOND, THIRD, FRAME, FRAME_SHIFT, LOWEST, HANDLERS, REGIONS, START_LINES, GLOBALS, GLOBALS_MIDDLE}
use Rattle.cyc_select.specs.declared.code.Line.{Line}
use Rattle.cyc_select.specs.declared.code.Condition.TheVariants as conditions
use Rattle.cyc_select.specs.declared.code.Line.TheVariants as lines
use Rattle.cyc_select.specs.inside.Labelled.{Labelled}
use Rattle.cyc_select.specs.declared.plan.Test.{Test}
use Rattle.cyc_select.specs.inside.Plans.{unary_plan, binary_plan, test_of}
use Rattle.cyc_select.specs.inside.Instructions.{load, slot_offset, store_slot, add_immediate, small, minus, syscall, load_upper, or_lower, arithmetic_of, shift_by_of, multiply_divide_of, move_from_of}
use Rattle.cyc_select.specs.inside.Slots.{value_register, load_slot, made_in, keep_code, give_code, bring_all, reloads, global_code, push_frame, pop_frame, restores, restoring_code, way_count, coming, saving_code, saving_count, result_registers, load_all, load_words, store_all}
use Rattle.cyc_select.specs.inside.Operands.{word_code, load_code, operand_code, operand_register, operands_code, plan_code, test_code, condition_of, address_code, at_address, load_count, operand_count, reload_count, is_tested}
use Rattle.cyc_select.specs.inside.Passing.{spills, spills_count, copies}
use Rattle.cyc_select.specs.inside.Hoisting.{is_idle, hoisted, with_hoisted, after_hoisted}
use Rattle.cyc_select.specs.inside.Counts.{count_of, function_count, function_line, instruction_line}

-- ---- instruction sequences

abbrev pub ordinary : List Instr → List Line
ordinary instructions = map lines.Ordinary instructions

-- Returns the code that loads the dividend and the divisor into registers, and -1 into a third one.
abbrev pub divided_code : Frame → (left right : Operand) → List Instr
divided_code frame left right = operands_code frame left right ++ add_immediate THIRD ZERO (minus 1) ∷ []

-- Returns the instruction that computes a quotient or a remainder by -1: the product of the dividend and -1, or that of 0 and 0.
abbrev pub product_code : MoveFromOp → (left : ℕ) → Instr
product_code High left = multiply_divide_of Multiply ZERO ZERO
product_code Low left = multiply_divide_of Multiply left THIRD

-- Returns the code that divides and moves the quotient or the remainder to the destination.
abbrev pub quotient_code : Frame → MoveFromOp → (destination left right : ℕ) → List Instr
quotient_code frame which destination left right =
    multiply_divide_of Divide left right ∷ move_from_of which (made_in frame destination) ∷ keep_code frame destination

-- Returns the code of a division. For the divisor -1 the code multiplies by -1 instead of dividing, since the machine cannot divide the
-- least int by -1. The product is in the same register (HI or LO) in which the division leaves its result.
abbrev pub divide_code : Frame → (here : ℕ) → MoveFromOp → (destination : ℕ) → (left right : Operand) → List Line
divide_code frame here which destination left right =
    ordinary (divided_code frame left right)
    ++ lines.Branch (conditions.Registers branch.NotEqual (register_of (operand_register frame SECOND right)) (register_of THIRD)) (here + (operand_count frame left + operand_count frame right) + 4)
    ∷ lines.Ordinary (product_code which (operand_register frame FIRST left))
    ∷ lines.Jump (here + (operand_count frame left + operand_count frame right) + 5)
    ∷ ordinary (quotient_code frame which destination (operand_register frame FIRST left) (operand_register frame SECOND right))

-- Returns the register that holds the result of a division: HI for a remainder, LO for a quotient.
abbrev pub part_of : BinaryOperator → MoveFromOp
part_of binary.Remainder = High
part_of operator = Low

abbrev pub operator_code : Frame → (here : ℕ) → BinaryOperator → (destination : ℕ) → (left right : Operand) → List Line
operator_code frame here operator destination left right =
    if is_tested operator right
    then divide_code frame here (part_of operator) destination left right
    else ordinary (plan_code frame (binary_plan operator left right) destination)

-- ---- lines of instructions

-- Returns the code that copies an operand to a slot.
abbrev pub move_to : Option ℕ → Frame → (destination : ℕ) → Operand → List Instr
move_to None frame destination source =
    operand_code frame FIRST source ++ store_slot frame (operand_register frame FIRST source) destination ∷ []
move_to (Some register) frame destination source = load_code frame register source ++ keep_code frame destination

abbrev pub move_code : Frame → (destination : ℕ) → Operand → List Line
move_code frame destination source =
    ordinary (move_to (value_register frame destination) frame destination source)

-- Returns the code of a branch that is taken if a test holds, with the hoisted line, if any, before the branch.
abbrev pub branch_code : Frame → Test → (first : Option Instr) → (label : ℕ) → List Line
branch_code frame test first label =
    ordinary (with_hoisted (test_code frame test) first)
    ++ lines.Branch (condition_of frame test) (after_hoisted first label) ∷ []

-- Returns the code that prints an operand's low byte.
abbrev pub write_code : Frame → Operand → List Line
write_code frame source = ordinary (load_code frame ARGUMENT source ++ small SERVICE PUT_BYTE ∷ syscall ∷ [])

-- Returns the code that loads a global into a slot.
abbrev pub load_global : Frame → (destination global : ℕ) → List Line
load_global frame destination global =
    ordinary (global_code LoadWord (made_in frame destination) global ++ keep_code frame destination)

abbrev pub store_global : Frame → (global : ℕ) → Operand → List Line
store_global frame global source =
    ordinary (operand_code frame FIRST source ++ global_code StoreWord (operand_register frame FIRST source) global)

-- Returns the code that copies words from slots to slots, one by one.
abbrev pub moves : Frame → (destination source count : ℕ) → List Instr
moves frame destination source zero = []
moves frame destination source (suc count) =
    move_to (value_register frame destination) frame destination (operands.Slot source)
    ++ moves frame (suc destination) (suc source) count

-- Returns the code that copies words from slots to slots, loading all words before it writes the first.
abbrev pub all_moved : Frame → (destination source count : ℕ) → List Instr
all_moved frame destination source count =
    load_words frame source (result_registers count) ++ store_all frame destination (result_registers count)

-- Returns the code that copies several words: all at once if copying one by one would overwrite a source. Slots whose words are
-- copied all at once have no registers.
abbrev pub moved_code : Frame → (destination source count : ℕ) → List Instr
moved_code frame destination source count =
    if is_crossing destination source count
    then all_moved frame destination source count
    else moves frame destination source count

abbrev pub move_words : Frame → (destination source count : ℕ) → List Line
move_words frame destination source count = ordinary (moved_code frame destination source count)

-- Returns the code that writes the address of a slot's word to another slot.
abbrev pub address_of : Frame → (destination slot : ℕ) → List Line
address_of frame destination slot =
    ordinary (
    add_immediate (made_in frame destination) FRAME (slot_offset frame slot)
    ∷ keep_code frame destination)

-- Returns the code that loads a word or a byte of memory into a slot.
abbrev pub load_at : Frame → MemoryOp → (destination : ℕ) → (address : Operand) → (offset : ℕ) → List Line
load_at frame op destination address offset =
    ordinary (
    address_code frame address offset
    ++ at_address frame op (made_in frame destination) address offset
    ∷ keep_code frame destination)

abbrev pub store_at : Frame → MemoryOp → (address : Operand) → (offset : ℕ) → (source : Operand) → List Line
store_at frame op address offset source =
    ordinary (
    address_code frame address offset
    ++ (operand_code frame SECOND source ++ at_address frame op (operand_register frame SECOND source) address offset ∷ []))

-- Returns the code that loads an optional argument of a request to the store into a register; the code is empty if the argument is absent.
abbrev pub argument_code : Frame → (register : ℕ) → Option Operand → List Instr
argument_code frame register None = []
argument_code frame register (Some operand) = load_code frame register operand

-- Returns the number of the system call that performs a request to the store (the heap of regions).
abbrev pub service_number : Request → ℕ
service_number (requests.OpenLexical destination) = OPEN_LEXICAL
service_number (requests.CloseTo mark) = CLOSE_LEXICAL
service_number (requests.OpenDynamic destination) = OPEN_DYNAMIC
service_number (requests.CloseDynamic handle) = CLOSE_DYNAMIC
service_number (requests.Allocate destination handle words) = ALLOCATE
service_number (requests.Free address) = FREE

-- Returns the code that moves the result of a request to the store (the heap of regions) from the result registers to slots.
abbrev pub answer_code : Frame → Request → List Instr
answer_code frame request = bring_all false frame (destination_of request) (result_registers (answer_count request))

-- Returns the code that updates the register with the number of open lexical regions: opening adds 1, and closing sets it
-- to the request's operand.
abbrev pub regions_code : Request → List Instr
regions_code (requests.OpenLexical destination) = add_immediate REGIONS SECOND_ANSWER 1 ∷ []
regions_code (requests.CloseTo mark) = add_immediate REGIONS ARGUMENT 0 ∷ []
regions_code (requests.OpenDynamic destination) = []
regions_code (requests.CloseDynamic handle) = []
regions_code (requests.Allocate destination handle words) = []
regions_code (requests.Free address) = []

-- Returns the code of a request to the store (the heap of regions).
abbrev pub ask_code : Frame → Request → List Line
ask_code frame request =
    ordinary (
    argument_code frame ARGUMENT (first_operand request)
    ++ (argument_code frame SECOND_ARGUMENT (second_operand request)
    ++ small SERVICE (service_number request) ∷ syscall ∷ (regions_code request ++ answer_code frame request)))

-- Returns the code that ends the run with an uncaught exception.
abbrev pub uncaught_code : Frame → (tag : ℕ) → Operand → List Line
uncaught_code frame tag value =
    ordinary (
    word_code ARGUMENT tag ++ (load_code frame SECOND_ARGUMENT value ++ small SERVICE END_UNCAUGHT ∷ syscall ∷ []))

-- Returns the code that ends the run if the current frame is the lowest one allowed, so that no further call can be made.
abbrev pub room_code : (here : ℕ) → List Line
room_code here =
    lines.Branch (conditions.Registers branch.NotEqual (register_of FRAME) (register_of LOWEST)) (here + 3) ∷ []
    ++ ordinary (small SERVICE END_FULL ∷ syscall ∷ [])

-- Returns the code that calls the function whose first line has this label. If the stack has space for another
-- frame, the callee's frame becomes the current one.
abbrev pub calling_code : (caller callee : Frame) → (here label arguments count : ℕ) → List Line
calling_code caller callee here label arguments count =
    room_code here ++ ordinary (push_frame ∷ copies caller callee arguments 0 count) ++ lines.Call label ∷ []

-- Returns the code after a call of a function with `results` result words, which moves the results
-- to the caller's slots and reloads registers.
abbrev pub returned_code : Frame → (result results : ℕ) → List Line
returned_code frame result results = ordinary (bring_all true frame result (result_registers results) ++ reloads frame)

-- Returns the code that ends the run if a return is the one from the first call of `main`.
abbrev pub ending_code : Bool → Frame → (here value : ℕ) → List Line
ending_code is_main frame here value =
    if is_main
    then lines.Branch (conditions.Registers branch.NotEqual (register_of RETURN_ADDRESS) (register_of ZERO)) (here + 4) ∷ []
    ++ ordinary (load_slot frame ARGUMENT value ∷ small SERVICE END_RETURNED ∷ syscall ∷ [])
    else []

-- Returns the code that returns from a function with `results` result words. The return of the first call of `main` ends the run.
abbrev pub returning_code : (is_main : Bool) → Frame → (here value results : ℕ) → List Line
returning_code is_main frame here value results =
    ordinary (restoring_code frame)
    ++ (ending_code is_main frame (here + way_count frame) value
    ++ ordinary (load_all frame value (result_registers results) ++ (restores frame ++ pop_frame ∷ []))
    ++ lines.Return ∷ [])

-- Returns the code that fills the first two words of a handler's record: the addresses of the previous handler's record and of the frame.
abbrev pub recorded_code : Frame → (first : ℕ) → List Instr
recorded_code frame first =
    store_slot frame HANDLERS first
    ∷ store_slot frame FRAME (first + 1)
    ∷ []

-- Returns the code that stores an exception's tag and value when the exception reaches the handler.
abbrev pub caught_code : Frame → (first : ℕ) → List Instr
caught_code frame first =
    store_slot frame ARGUMENT first
    ∷ store_slot frame SECOND_ARGUMENT (suc first)
    ∷ reloads frame

abbrev pub opened_code : Frame → (first : ℕ) → List Instr
opened_code frame first =
    store_slot frame RETURN_ADDRESS (first + 2)
    ∷ add_immediate HANDLERS FRAME (slot_offset frame first)
    ∷ []

abbrev pub try_code : Frame → (here first label : ℕ) → List Line
try_code frame here first label =
    ordinary (recorded_code frame first)
    ++ (lines.Call (here + 6 + reload_count frame)
    ∷ ordinary (caught_code frame first)
    ++ (lines.Jump label ∷ ordinary (opened_code frame first)))

-- Returns the instruction that loads a word of the newest handler's record.
abbrev pub load_record : (target offset : ℕ) → Instr
load_record target offset = machine.Memory LoadWord (register_of target) (register_of HANDLERS) offset

-- Returns the code that passes an exception to the newest handler: it loads the handler's address, its frame and the previous handler.
abbrev pub unwound_code : List Instr
unwound_code =
    load_record RETURN_ADDRESS 8 ∷ load_record FRAME 4 ∷ load_record HANDLERS 0 ∷ []

abbrev pub throw_code : Frame → (here : ℕ) → (tag value : Operand) → List Line
throw_code frame here tag value =
    ordinary (load_code frame ARGUMENT tag ++ load_code frame SECOND_ARGUMENT value)
    ++ (lines.Branch (conditions.Registers branch.NotEqual (register_of HANDLERS) (register_of ZERO)) (here + (load_count tag + load_count value) + 3)
    ∷ ordinary (small SERVICE END_UNCAUGHT ∷ syscall ∷ [])
    ++ (ordinary unwound_code ++ lines.Return ∷ []))

-- Returns the MIPS lines of an instruction, if the first of them has the line number `here`.
abbrev pub body : Program → List Frame → (function here : ℕ) → Instruction → List Line
body program frames function here (plain.Move destination source) =
    move_code (frame_at frames function) destination source
body program frames function here (plain.MoveWords destination source count) =
    move_words (frame_at frames function) destination source count
body program frames function here (plain.Unary operator destination operand) =
    ordinary (plan_code (frame_at frames function) (unary_plan operator operand) destination)
body program frames function here (plain.Binary operator destination left right) =
    operator_code (frame_at frames function) here operator destination left right
body program frames function here (plain.Jump target) =
    lines.Jump (instruction_line program frames function target) ∷ []
body program frames function here (plain.Branch comparison left right target) =
    branch_code (frame_at frames function) (test_of comparison left right)
    (hoisted (frame_at frames function) (routine_at program function).code (test_of comparison left right) target)
    (instruction_line program frames function target)
body program frames function here (plain.Call callee arguments count result) =
    ordinary (spills (frame_at frames function) (coming (frame_at frames callee)) arguments 0 count)
    ++ calling_code (frame_at frames function) (coming (frame_at frames callee)) (here + spills_count (frame_at frames function) (coming (frame_at frames callee)) arguments 0 count) (function_line program frames callee) arguments count
body program frames function here (plain.Return value) =
    returning_code (function == program.main) (frame_at frames function) here value (routine_at program function).results
body program frames function here (plain.ReadByte destination) =
    ordinary (small SERVICE GET_BYTE ∷ syscall ∷ give_code (frame_at frames function) SERVICE destination)
body program frames function here (plain.WriteByte source) = write_code (frame_at frames function) source
body program frames function here (plain.LoadGlobal destination global) =
    load_global (frame_at frames function) destination global
body program frames function here (plain.StoreGlobal global source) =
    store_global (frame_at frames function) global source
body program frames function here (plain.AddressOf destination slot count) =
    address_of (frame_at frames function) destination slot
body program frames function here (plain.Load destination address offset) =
    load_at (frame_at frames function) LoadWord destination address offset
body program frames function here (plain.Store address offset source) =
    store_at (frame_at frames function) StoreWord address offset source
body program frames function here (plain.LoadByte destination address offset) =
    load_at (frame_at frames function) LoadByte destination address offset
body program frames function here (plain.StoreByte address offset source) =
    store_at (frame_at frames function) StoreByte address offset source
body program frames function here (plain.Ask request) = ask_code (frame_at frames function) request
body program frames function here (plain.CountLexical destination) =
    ordinary (give_code (frame_at frames function) REGIONS destination)
body program frames function here (plain.Try first handler) =
    try_code (frame_at frames function) here first (instruction_line program frames function handler)
body program frames function here (plain.Leave first) =
    ordinary (load HANDLERS (slot_offset (frame_at frames function) first) ∷ [])
body program frames function here (plain.Throw tag value) = throw_code (frame_at frames function) here tag value
body program frames function here (plain.Finish value) =
    returning_code (function == program.main) (frame_at frames function) here value (routine_at program function).results
body program frames function here (plain.Uncaught tag value) = uncaught_code (frame_at frames function) tag value
body program frames function here (plain.Enter callee) = room_code here

-- Returns the MIPS lines that follow a call and are executed after it returns.
abbrev pub following : Program → List Frame → (function : ℕ) → Instruction → List Line
following program frames function (plain.Call callee arguments count result) =
    returned_code (frame_at frames function) result (routine_at program callee).results
following program frames function instruction = []

-- Returns the lines of the instruction at `index`, if the first of them has number `here`; an instruction that needs no
-- machine code has none.
abbrev pub place_lines : Program → List Frame → (function index here : ℕ) → Instruction → List Line
place_lines program frames function index here instruction =
    if is_idle (frame_at frames function) index instruction then [] else body program frames function here instruction

abbrev pub code_lines : Program → List Frame → (function index here : ℕ) → List Instruction → List Line
code_lines program frames function index here [] = []
code_lines program frames function index here (i ∷ code) =
    place_lines program frames function index here i ++ following program frames function i
    ++ code_lines program frames function (suc index) (here + count_of program frames function index i) code

abbrev pub routine_lines : Program → List Frame → (function here : ℕ) → Routine → List Line
routine_lines program frames function here r =
    ordinary (saving_code (frame_at frames function))
    ++ code_lines program frames function 0 (here + saving_count (frame_at frames function)) r.code

abbrev pub function_lines : Program → List Frame → (function here : ℕ) → List Routine → List Line
function_lines program frames function here [] = []
function_lines program frames function here (r ∷ routines) =
    routine_lines program frames function here r
    ++ function_lines program frames (suc function) (here + function_count program frames function r) routines

-- Returns the start code, which loads the base register of the globals and calls `main` at this label. The frame of `main` lies below the
-- end of the stack; the stack has space for the frames of all allowed calls.
abbrev pub start_code : (label : ℕ) → List Line
start_code label =
    ordinary (
    load_upper GLOBALS GLOBALS_MIDDLE
    ∷ or_lower GLOBALS GLOBALS_MIDDLE
    ∷ shift_by_of shift.Left LOWEST ARGUMENT FRAME_SHIFT
    ∷ arithmetic_of arithmetic.SubtractUnsigned LOWEST FRAME LOWEST
    ∷ push_frame
    ∷ [])
    ++ lines.Jump label ∷ []

abbrev pub start_lines : Program → List Frame → List Line
start_lines program frames = start_code (function_line program frames program.main)

abbrev pub select_of : Program → List Frame → Labelled
select_of program frames =
    record {
      lines = start_lines program frames ++ function_lines program frames 0 START_LINES program.functions;
      globals = program.globals;
    }
