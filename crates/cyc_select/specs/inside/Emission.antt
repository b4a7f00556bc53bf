-- Contracts of the functions that emit code: they state the lines appended, and the tables of line numbers used to resolve branch
-- targets. The form of these contracts is this project's own choice.
use Rattle.std.specs.Prelude.{◌≡◌, ℕ, suc, ◌+◌, ◌<◌, ◌≤◌, ◌⊎◌, List, [], ◌∷◌, ◌++◌, length, sum_by, Option, Some, None, slice_get, Result, OnOk}
use Rattle.std.specs.declared.alloc.AllocError.{AllocError}
use Rattle.cyc_plain.specs.declared.instruction.Instruction.{Instruction}
use Rattle.cyc_plain.specs.declared.instruction.Operand.{Operand}
use Rattle.cyc_plain.specs.declared.instruction.Operand.TheVariants as operands
use Rattle.cyc_plain.specs.declared.instruction.Request.{Request}
use Rattle.cyc_plain.specs.inside.Requests.{first_operand, second_operand, answer_count, destination_of}
use Rattle.cyc_plain.specs.inside.Program.{Routine, Program, routine_at, size}
use Rattle.cyc_plain.specs.inside.WellFormed.{IsWellFormed}
use Rattle.cyc_plain.specs.declared.limits.TheConstants.{GREATEST_VALUE, MOST_SIZE, MOST_FRAME_WORDS}
use Rattle.cyc_frame.specs.inside.Layout.{AreFrames, frame_at, slot_word}
use Rattle.cyc_frame.specs.inside.Frame.{Frame}
use Rattle.cyc_select.specs.declared.constants.TheConstants.{START_LINES}
use Rattle.cyc_select.specs.declared.code.Line.{Line}
use Rattle.cyc_select.specs.inside.Slots.{saving_count}
use Rattle.cyc_select.specs.inside.Counts.{count_of, function_line}
use Rattle.cyc_select.specs.declared.emitter.Emitter.{Emitter}
use Rattle.cyc_select.specs.declared.plan.Plan.{Plan}
use Rattle.cyc_select.specs.declared.plan.Test.{Test}
use Rattle.cyc_select.specs.declared.plan.Test.TheVariants as tests
use Rattle.cyc_select.specs.declared.tables.FunctionLines.{FunctionLines}
use Rattle.cyc_select.specs.declared.tables.Ready.{Ready}
use Rattle.cyc_select.specs.declared.tables.Tables.{Tables}

-- `AddsLines` says that a successful call appends these lines to the emitter.
abbrev pub AddsLines : {T : Type 0} → Result T AllocError → (old new : Emitter) → List Line → Type 0
AddsLines result old new lines = OnOk result (new.lines.items ≡ old.lines.items ++ lines)

-- `IsReached` says that the offset of a slot in the frame fits a load or store instruction.
abbrev pub IsReached : Frame → (slot : ℕ) → Type 0
IsReached frame slot = slot_word frame slot < MOST_FRAME_WORDS

-- `AreReached` says that the frame offsets of `count` slots from `first` on fit a load or store instruction.
abbrev pub AreReached : Frame → (first count : ℕ) → Type 0
AreReached frame first count = (count ≡ 0) ⊎ (slot_word frame first + count ≤ MOST_FRAME_WORDS)

-- `IsFound` says that the frame offset of an operand's slot, if the operand is a slot, fits a load or store instruction.
abbrev pub IsFound : Frame → Operand → Type 0
IsFound frame (operands.Slot number) = IsReached frame number
IsFound frame (operands.Word word) = Unit {0}

abbrev pub IsArgumentFound : Frame → Option Operand → Type 0
IsArgumentFound frame (Some operand) = IsFound frame operand
IsArgumentFound frame None = Unit {0}

-- `IsRequestFound` says that the frame offsets of the operands and result slots of a store request fit a load or store instruction.
pub record IsRequestFound (frame : Frame) (request : Request) : Type 0 where
  pub first : IsArgumentFound frame (first_operand request)
  pub second : IsArgumentFound frame (second_operand request)
  pub answer : AreReached frame (destination_of request) (answer_count request)

abbrev pub IsPlanFound : Frame → Plan → Type 0
IsPlanFound frame plan = IsFound frame plan.left × IsFound frame plan.right

abbrev pub IsTestFound : Frame → Test → Type 0
IsTestFound frame (tests.Operands op left right) = IsFound frame left × IsFound frame right
IsTestFound frame (tests.Sign op operand) = IsFound frame operand
IsTestFound frame (tests.Computed plan) = IsPlanFound frame plan

-- The greatest number of MIPS lines that a program may have.
abbrev pub most_lines : ℕ
most_lines = START_LINES + MOST_SIZE

-- `AreFew` says that each function returns at most as many words as one value has.
abbrev pub AreFew : Program → Type 0
AreFew program = (k : ℕ) → (routine_at program k).results ≤ GREATEST_VALUE

-- Returns the line numbers at which the code of the given instructions of a function begins. The first of the given instructions has
-- the index `index` and begins at line `here`.
abbrev pub instruction_lines : Program → List Frame → (function index here : ℕ) → List Instruction → List ℕ
instruction_lines program frames function index here [] = []
instruction_lines program frames function index here (i ∷ code) =
    here ∷ instruction_lines program frames function (suc index) (here + count_of program frames function index i) code

-- For each instruction of a function, returns the number of the first line of its code in the labelled code.
abbrev pub lines_in : Program → List Frame → (function : ℕ) → List ℕ
lines_in program frames function =
    instruction_lines program frames function 0 (function_line program frames function + saving_count (frame_at frames function)) (routine_at program function).code

-- `IsNumbered` says that a table contains the line numbers in the labelled code at which a function and its instructions begin.
pub record IsNumbered (program : Program) (frames : List Frame) (function : ℕ) (its : FunctionLines) : Type 0 where
  pub first_is : its.first ≡ function_line program frames function
  pub lines_are : its.lines.items ≡ lines_in program frames function

-- `AreNumbered` says that a table contains the line numbers in the labelled code for the first `count` functions and their instructions.
pub record AreNumbered (program : Program) (frames : List Frame) (count : ℕ) (functions : List FunctionLines) : Type 0 where
  pub as_many : length functions ≡ count
  pub each : (k : ℕ) (its : FunctionLines) → slice_get functions k ≡ Some its → IsNumbered program frames k its

-- `AreReady` describes the data from which a program's lines are emitted: the total size of its functions is within the limit, and the
-- frames and line numbers are correct.
pub record AreReady (program : Program) (frames : List Frame) (functions : List FunctionLines) : Type 0 where
  pub well_formed : IsWellFormed program
  pub few : sum_by size program.functions ≤ MOST_SIZE
  pub fit : AreFrames program frames
  pub numbered : AreNumbered program frames (length program.functions) functions

abbrev pub IsReady : Ready → Type 0
IsReady ready = AreReady ready.plain.now ready.frames.now ready.functions.now

-- `AreTables` describes the data from which the lines of one function are emitted, with the line numbers of its instructions.
pub record AreTables (program : Program) (frames : List Frame) (functions : List FunctionLines) (lines : List ℕ) (function : ℕ) : Type 0 where
  pub ready : AreReady program frames functions
  pub function_in_range : function < length program.functions
  pub lines_are : lines ≡ lines_in program frames function

abbrev pub IsKnown : Tables → Type 0
IsKnown tables =
    AreTables tables.plain.now tables.frames.now tables.functions.now tables.lines.now tables.function
