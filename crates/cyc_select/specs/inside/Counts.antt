-- Counts the MIPS lines of each plain instruction, and computes the line number at which they begin.
use Rattle.std.specs.Prelude.{ℕ, suc, ◌+◌, ◌*◌, ◌==◌, if◌then◌else◌, List, [], ◌∷◌, length, take, Option, Some, None}
use Rattle.cyc_registers.specs.inside.Bars.{is_crossing}
use Rattle.cyc_plain.specs.declared.instruction.Instruction.{Instruction}
use Rattle.cyc_plain.specs.declared.instruction.Instruction.TheVariants as plain
use Rattle.cyc_plain.specs.declared.instruction.Operand.{Operand}
use Rattle.cyc_plain.specs.declared.instruction.Request.{Request}
use Rattle.cyc_plain.specs.declared.instruction.Request.TheVariants as requests
use Rattle.cyc_plain.specs.inside.Requests.{first_operand, second_operand, answer_count, destination_of}
use Rattle.cyc_plain.specs.inside.Program.{Routine, Program, routine_at}
use Rattle.cyc_frame.specs.inside.Layout.{frame_at}
use Rattle.cyc_frame.specs.inside.Frame.{Frame}
use Rattle.cyc_select.specs.declared.constants.TheConstants.{START_LINES}
use Rattle.cyc_select.specs.inside.Plans.{unary_plan, test_of}
use Rattle.cyc_select.specs.inside.Slots.{way_count, coming, saving_count, result_registers}
use Rattle.cyc_select.specs.inside.Operands.{word_count, load_count, operand_count, keep_count, give_count, gives_count, reload_count, reach_count, move_count, moves_count, plan_count, test_count, address_count, operator_count}
use Rattle.cyc_select.specs.inside.Passing.{spills_count, copies_count}
use Rattle.cyc_select.specs.inside.Hoisting.{is_idle, hoisted, hoisted_count}

-- Returns the number of MIPS lines that end the run at a return of `main`, if this is the return of its first call; 0 for other functions.
abbrev pub ending_count : Program → (function : ℕ) → ℕ
ending_count program function = if function == program.main then 4 else 0

-- Returns the number of MIPS lines that load an optional argument of a request to the store; 0 if the argument is absent.
abbrev pub argument_count : Option Operand → ℕ
argument_count None = 0
argument_count (Some operand) = load_count operand

-- Returns the number of MIPS lines of a request to the store that update the count of open lexical regions.
abbrev pub regions_count : Request → ℕ
regions_count (requests.OpenLexical destination) = 1
regions_count (requests.CloseTo mark) = 1
regions_count (requests.OpenDynamic destination) = 0
regions_count (requests.CloseDynamic handle) = 0
regions_count (requests.Allocate destination handle words) = 0
regions_count (requests.Free address) = 0

abbrev pub ask_count : Frame → Request → ℕ
ask_count frame request =
    argument_count (first_operand request) + argument_count (second_operand request) + 2 + regions_count request
    + gives_count frame (destination_of request) (answer_count request)

-- Returns the number of MIPS lines of a move of several words.
abbrev pub move_words_count : Frame → (destination source count : ℕ) → ℕ
move_words_count frame destination source count =
    if is_crossing destination source count
    then 2 * length (result_registers count)
    else moves_count frame destination source count

-- Returns the number of MIPS lines of an instruction, without those executed after a call returns.
abbrev pub body_count : Program → List Frame → (function : ℕ) → Instruction → ℕ
body_count program frames function (plain.Move destination source) =
    move_count (frame_at frames function) destination source
body_count program frames function (plain.MoveWords destination source count) =
    move_words_count (frame_at frames function) destination source count
body_count program frames function (plain.Unary operator destination operand) =
    plan_count (frame_at frames function) (unary_plan operator operand) destination
body_count program frames function (plain.Binary operator destination left right) =
    operator_count (frame_at frames function) operator destination left right
body_count program frames function (plain.Jump target) = 1
body_count program frames function (plain.Branch comparison left right target) =
    test_count (frame_at frames function) (test_of comparison left right)
    + hoisted_count (hoisted (frame_at frames function) (routine_at program function).code (test_of comparison left right) target)
    + 1
body_count program frames function (plain.Call callee arguments count result) =
    spills_count (frame_at frames function) (coming (frame_at frames callee)) arguments 0 count + 5
    + copies_count (frame_at frames function) (coming (frame_at frames callee)) arguments 0 count
body_count program frames function (plain.Return value) =
    way_count (frame_at frames function) + ending_count program function
    + ((routine_at program function).results + (frame_at frames function).saved + 2)
body_count program frames function (plain.ReadByte destination) = 2 + give_count (frame_at frames function) destination
body_count program frames function (plain.AddressOf destination slot count) =
    1 + keep_count (frame_at frames function) destination
body_count program frames function (plain.WriteByte source) = load_count source + 2
body_count program frames function (plain.LoadGlobal destination global) =
    reach_count global + 1 + keep_count (frame_at frames function) destination
body_count program frames function (plain.StoreGlobal global source) =
    operand_count (frame_at frames function) source + reach_count global + 1
body_count program frames function (plain.Load destination address offset) =
    address_count (frame_at frames function) address offset + 1 + keep_count (frame_at frames function) destination
body_count program frames function (plain.Store address offset source) =
    address_count (frame_at frames function) address offset + operand_count (frame_at frames function) source + 1
body_count program frames function (plain.LoadByte destination address offset) =
    address_count (frame_at frames function) address offset + 1 + keep_count (frame_at frames function) destination
body_count program frames function (plain.StoreByte address offset source) =
    address_count (frame_at frames function) address offset + operand_count (frame_at frames function) source + 1
body_count program frames function (plain.Ask request) = ask_count (frame_at frames function) request
body_count program frames function (plain.CountLexical destination) =
    give_count (frame_at frames function) destination
body_count program frames function (plain.Try first handler) = 8 + reload_count (frame_at frames function)
body_count program frames function (plain.Leave first) = 1
body_count program frames function (plain.Throw tag value) = load_count tag + load_count value + 7
body_count program frames function (plain.Finish value) =
    way_count (frame_at frames function) + ending_count program function
    + ((routine_at program function).results + (frame_at frames function).saved + 2)
body_count program frames function (plain.Uncaught tag value) = word_count tag + load_count value + 2
body_count program frames function (plain.Enter callee) = 3

-- Returns the number of MIPS lines that follow a call and are executed after it returns.
abbrev pub after_count : Program → List Frame → (function : ℕ) → Instruction → ℕ
after_count program frames function (plain.Call callee arguments count result) =
    (routine_at program callee).results + reload_count (frame_at frames function)
after_count program frames function instruction = 0

-- Returns the number of MIPS lines of the instruction at `index`, without those executed after a call returns: 0 if the
-- instruction needs no machine code.
abbrev pub place_count : Program → List Frame → (function index : ℕ) → Instruction → ℕ
place_count program frames function index instruction =
    if is_idle (frame_at frames function) index instruction then 0 else body_count program frames function instruction

abbrev pub count_of : Program → List Frame → (function index : ℕ) → Instruction → ℕ
count_of program frames function index instruction =
    place_count program frames function index instruction + after_count program frames function instruction

-- Returns the number of MIPS lines of a function's code from the instruction at `index` on.
abbrev pub code_count : Program → List Frame → (function index : ℕ) → List Instruction → ℕ
code_count program frames function index [] = 0
code_count program frames function index (i ∷ code) =
    count_of program frames function index i + code_count program frames function (suc index) code

abbrev pub function_count : Program → List Frame → (function : ℕ) → Routine → ℕ
function_count program frames function r = saving_count (frame_at frames function) + code_count program frames function 0 r.code

abbrev pub functions_count : Program → List Frame → (first : ℕ) → List Routine → ℕ
functions_count program frames first [] = 0
functions_count program frames first (r ∷ routines) = function_count program frames first r + functions_count program frames (suc first) routines

-- Returns the line number of a function's first line.
abbrev pub function_line : Program → List Frame → (function : ℕ) → ℕ
function_line program frames function = START_LINES + functions_count program frames 0 (take function program.functions)

-- Returns the line number at which the code of an instruction begins.
abbrev pub instruction_line : Program → List Frame → (function index : ℕ) → ℕ
instruction_line program frames function index =
    function_line program frames function + saving_count (frame_at frames function) + code_count program frames function 0 (take index (routine_at program function).code)
