-- The line number at which a piece of code begins is the total number of MIPS lines of the code before it.
use Rattle.std.proofs.Common.{◌≡◌, ℕ, zero, suc, ◌+◌, ◌<◌, ◌≤◌, Bool, true, false, List, [], ◌∷◌, ◌++◌, length, drop, take, Some, slice_get, refl, sym, ap, subst, ◌∙◌, inl, inr, arith}
use Rattle.std.specs.Prelude.{sum_by, slice_index_or, if◌then◌else◌, ◌||◌}
use Rattle.std.proofs.lemmas.Bool.{cases_lt}
use Rattle.std.proofs.lemmas.List.{drop_more, get_or_past, length_push}
use Rattle.std.proofs.lemmas.Option.{get_or_from_slice_get, slice_get-get_or}
use Rattle.std.proofs.lemmas.List.Sums.{sum_by-cons, sum_by-drop_more, sum_by-take-drop}
use Rattle.cyc_plain.specs.declared.instruction.BinaryOperator.{BinaryOperator}
use Rattle.cyc_plain.specs.declared.instruction.BinaryOperator.TheVariants as binary
use Rattle.cyc_plain.specs.declared.instruction.Instruction.{Instruction}
use Rattle.cyc_plain.specs.declared.instruction.Instruction.TheVariants as plain
use Rattle.cyc_plain.specs.inside.Requests.{second_operand, answer_count, destination_of}
use Rattle.cyc_plain.specs.inside.Program.{Program, Routine, no_routine, routine_at, operator_size, instruction_size, size}
use Rattle.cyc_plain.specs.inside.WellFormed.{IsCallInRange, IsRoutine, IsWellFormed, IsPlain}
use Rattle.cyc_plain.specs.declared.limits.TheConstants.{GREATEST_VALUE, MOST_SIZE, MOST_FRAME_WORDS}
use Rattle.cyc_registers.specs.inside.Interference.{AreHomes, saved_count}
use Rattle.cyc_frame.specs.inside.Layout.{IsFrame, AreFrames, frame_at, loses, loses_any, returns, returns_any}
use Rattle.cyc_frame.specs.inside.Frame.{Frame}
use Rattle.cyc_select.specs.declared.constants.TheConstants.{START_LINES}
use Rattle.cyc_select.specs.inside.Slots.{coming, arrival_count, way_count, saving_count}
use Rattle.cyc_select.specs.inside.Operands.{reload_count}
use Rattle.cyc_select.specs.inside.Hoisting.{is_idle, hoisted}
use Rattle.cyc_select.specs.inside.Counts.{ending_count, body_count, after_count, count_of, code_count, function_count, functions_count, function_line, instruction_line}
use Rattle.cyc_select.specs.inside.Selection.{following, place_lines, code_lines, function_lines, routine_lines}
use Rattle.cyc_select.specs.inside.Plans.{test_of}
use Rattle.cyc_select.specs.inside.Emission.{AreReached, AreFew, most_lines, instruction_lines, lines_in, IsNumbered, AreNumbered, AreReady, AreTables}
use Rattle.cyc_select.specs.declared.tables.FunctionLines.{FunctionLines}
use Rattle.cyc_words.proofs.Lists.{slice_get_below}
use Rattle.cyc_words.proofs.Items.{slice_get_last_cases}
use Rattle.cyc_select.proofs.layout.Lines.{line_next}
use Rattle.cyc_select.proofs.emission.Counts.{move_small, move_words_small, spills_few, copies_few, give_small, keep_few, argument_small, regions_small, gives_small, word_small, load_small, operand_small, address_small, unary_small, test_small, operator_small, reach_few, hoisted_few}

abbrev no_frame : Frame
no_frame = record { return_address = 0; saves = false; first_saved = 0; saved = 0; first_slot = 0; parameters = 0; homes = []; idle = []; fills = [] }

-- ---- bounds of an instruction's lines by its size

if_at_most_four : (b : Bool) → (if b then 4 else 0) ≤ 4
if_at_most_four true = omega arith
if_at_most_four false = omega arith

ending_small : (program : Program) (function : ℕ) → ending_count program function ≤ 4
ending_small program function = if_at_most_four _

way_small : (frame : Frame) → way_count frame ≤ 1
way_small frame = go frame.saves
  where
    go : (b : Bool) → (if b then 1 else 0) ≤ 1
    go true = omega arith
    go false = omega arith

-- Returns the number of machine words with which a function's entry saves the return address: 1 if
-- the code overwrites the return address register, otherwise 0.
abbrev pub losing : List Instruction → ℕ
losing code = if loses_any code then 1 else 0

pub losing_next : (i : Instruction) (code : List Instruction) → losing (i ∷ code) ≤ (if loses i then 1 else 0) + losing code
losing_next i code = go (loses i)
  where
    go : (b : Bool) → (if b || loses_any code then 1 else 0) ≤ (if b then 1 else 0) + (if loses_any code then 1 else 0)
    go true = omega arith
    go false = omega arith

-- Returns the number of machine words that the size of a function's code reserves for lines that save registers and load
-- parameters into them.
abbrev pub returning : List Instruction → ℕ
returning code = if returns_any code then 14 else 0

pub returning_next : (i : Instruction) (code : List Instruction) → returning (i ∷ code) ≤ (if returns i then 14 else 0) + returning code
returning_next i code = go (returns i)
  where
    go : (b : Bool) → (if b || returns_any code then 14 else 0) ≤ (if b then 14 else 0) + (if returns_any code then 14 else 0)
    go true = omega arith
    go false = omega arith

-- `IsSaving` says that a function's entry saves no more registers than the size of its code reserves lines for.
abbrev pub IsSaving : Frame → List Instruction → Type 0
IsSaving frame code = (frame.saves ≡ loses_any code) × (frame.saved + arrival_count frame ≤ returning code)

-- A function saves at least as many callee-saved registers as it loads parameters into.
pub arrivals_few : (program : Program) (r : Routine) (frame : Frame) → IsFrame r frame → AreHomes program r frame.saved frame.homes → arrival_count frame ≤ frame.saved
arrivals_few program r frame is right = subst (λ (n : ℕ). sum_by saved_count (take n frame.homes) ≤ frame.saved) (sym is.parameters) right.arrivals

pub is_saving : (program : Program) (r : Routine) (frame : Frame) → IsFrame r frame → AreHomes program r frame.saved frame.homes → IsSaving frame r.code
is_saving program r frame is right = (is.saved, go frame.saved refl)
  where
    go : (saved : ℕ) → saved ≡ frame.saved → frame.saved + arrival_count frame ≤ returning r.code
    go zero none = omega (arith, none, arrivals_few program r frame is right)
    go (suc n) some =
        let room : returning r.code ≡ 14 = ap (λ (b : Bool). if b then 14 else 0) (is.returning (omega (arith, some))) in
        omega (arith, room, is.most_saved, arrivals_few program r frame is right)

-- `AreSaved` says that each function from the index `first` on saves no more registers than the size of its code reserves lines for.
abbrev pub AreSaved : List Frame → (first : ℕ) → List Routine → Type 0
AreSaved frames first routines = (k : ℕ) → k < length routines → IsSaving (frame_at frames (first + k)) (slice_index_or routines k no_routine).code

pub saved_first : (frames : List Frame) (first : ℕ) (r : Routine) (routines : List Routine) → AreSaved frames first (r ∷ routines) → IsSaving (frame_at frames first) r.code
saved_first frames first r routines saved =
    let same : first + 0 ≡ first = omega arith in
    subst (λ (k : ℕ). IsSaving (frame_at frames k) r.code) same (saved 0 (omega arith))

pub saved_next : (frames : List Frame) (first : ℕ) (r : Routine) (routines : List Routine) → AreSaved frames first (r ∷ routines) → AreSaved frames (suc first) routines
saved_next frames first r routines saved k below =
    let same : first + suc k ≡ suc first + k = omega arith in
    subst (λ (n : ℕ). IsSaving (frame_at frames n) (slice_index_or routines k no_routine).code) same (saved (suc k) (omega (arith, below)))

pub are_saved : (program : Program) (frames : List Frame) → AreFrames program frames → AreSaved frames 0 program.functions
are_saved program frames fit k below =
    let same : k ≡ 0 + k = omega arith in
    subst (λ (n : ℕ). IsSaving (frame_at frames n) (routine_at program k).code) same (is_saving program (routine_at program k) (frame_at frames k) (fit.each k below) (fit.homes k below))

-- The code of a binary operator has at most as many lines as the size reserved for this operator.
operator_fits : (operator : BinaryOperator) → 11 ≤ operator_size operator
operator_fits binary.Divide = omega arith
operator_fits binary.Remainder = omega arith
operator_fits operator = omega arith

-- `ReadsFew` says that a function reloads at most 6 registers after a call and saves at most 7.
abbrev pub ReadsFew : List Frame → (function : ℕ) → Type 0
ReadsFew frames function = (reload_count (frame_at frames function) ≤ 6) × ((frame_at frames function).saved ≤ 7)

body_small : (program : Program) (frames : List Frame) (function : ℕ) → ReadsFew frames function → AreFew program → (i : Instruction) → body_count program frames function i + after_count program frames function i + (if loses i then 1 else 0) + (if returns i then 14 else 0) ≤ instruction_size i
body_small program frames function fit few (plain.Move destination source) = omega (arith, move_small (frame_at frames function) destination source)
body_small program frames function fit few (plain.Unary operator destination operand) = omega (arith, unary_small (frame_at frames function) operator operand destination)
body_small program frames function fit few (plain.Binary operator destination left right) = omega (arith, operator_small (frame_at frames function) operator destination left right, operator_fits operator)
body_small program frames function fit few (plain.Jump target) = omega arith
body_small program frames function fit few (plain.Branch comparison left right target) = omega (arith, test_small (frame_at frames function) (test_of comparison left right), hoisted_few (hoisted (frame_at frames function) (routine_at program function).code (test_of comparison left right) target))
body_small program frames function fit few (plain.Call f a n r) = omega (arith, few f, fit.0, spills_few (frame_at frames function) (coming (frame_at frames f)) a 0 n, copies_few (frame_at frames function) (coming (frame_at frames f)) a 0 n)
body_small program frames function fit few (plain.Return v) = omega (arith, few function, ending_small program function, way_small (frame_at frames function), fit.1)
body_small program frames function fit few (plain.ReadByte destination) = omega (arith, give_small (frame_at frames function) destination)
body_small program frames function fit few (plain.WriteByte source) = omega (arith, load_small source)
body_small program frames function fit few (plain.AddressOf destination slot count) = omega (arith, keep_few (frame_at frames function) destination)
body_small program frames function fit few (plain.LoadGlobal destination global) = omega (arith, reach_few (frame_at frames function) global, keep_few (frame_at frames function) destination)
body_small program frames function fit few (plain.StoreGlobal global source) = omega (arith, operand_small (frame_at frames function) source, reach_few (frame_at frames function) global)
body_small program frames function fit few (plain.MoveWords destination source count) = omega (arith, move_words_small (frame_at frames function) destination source count)
body_small program frames function fit few (plain.Load destination address offset) = omega (arith, address_small (frame_at frames function) address offset, keep_few (frame_at frames function) destination)
body_small program frames function fit few (plain.LoadByte destination address offset) = omega (arith, address_small (frame_at frames function) address offset, keep_few (frame_at frames function) destination)
body_small program frames function fit few (plain.Store address offset source) = omega (arith, address_small (frame_at frames function) address offset, operand_small (frame_at frames function) source)
body_small program frames function fit few (plain.StoreByte address offset source) = omega (arith, address_small (frame_at frames function) address offset, operand_small (frame_at frames function) source)
body_small program frames function fit few (plain.Ask request) = omega (arith, regions_small request, argument_small (second_operand request), gives_small (frame_at frames function) (destination_of request) (answer_count request))
body_small program frames function fit few (plain.CountLexical destination) = omega (arith, give_small (frame_at frames function) destination)
body_small program frames function fit few (plain.Try first handler) = omega (arith, fit.0)
body_small program frames function fit few (plain.Leave first) = omega arith
body_small program frames function fit few (plain.Throw tag value) = omega (arith, load_small tag, load_small value)
body_small program frames function fit few (plain.Finish v) = omega (arith, few function, ending_small program function, way_small (frame_at frames function), fit.1)
body_small program frames function fit few (plain.Uncaught tag value) = omega (arith, word_small tag, load_small value)
body_small program frames function fit few (plain.Enter callee) = omega arith

function_count_small : (program : Program) (frames : List Frame) (function : ℕ) → ReadsFew frames function → AreFew program → (index : ℕ) (i : Instruction) → count_of program frames function index i + (if loses i then 1 else 0) + (if returns i then 14 else 0) ≤ instruction_size i
function_count_small program frames function fit few index i = omega (arith, body_small program frames function fit few i, go (is_idle (frame_at frames function) index i))
  where
    go : (b : Bool) → (if b then 0 else body_count program frames function i) ≤ body_count program frames function i
    go true = omega arith
    go false = omega arith

-- For every function index, in range or not, at most 6 registers are reloaded after a call, and at most 7 are saved.
pub function_reads_few : (program : Program) (frames : List Frame) → AreFrames program frames → (k : ℕ) → ReadsFew frames k
function_reads_few program frames fit k = elim (cases_lt k (length program.functions)) [
  | inl below ↦ ((fit.homes k below).few, (fit.each k below).most_saved)
  | inr past ↦
      subst (λ (frame : Frame). (reload_count frame ≤ 6) × (frame.saved ≤ 7)) (sym (get_or_past frames k no_frame (omega (arith, past, fit.as_many)))) ((omega arith), (omega arith))
]

pub body_fits : (program : Program) (frames : List Frame) (function : ℕ) → AreFrames program frames → AreFew program → (i : Instruction) → body_count program frames function i + after_count program frames function i ≤ instruction_size i
body_fits program frames function fit few i = omega (arith, body_small program frames function (function_reads_few program frames fit function) few i)

code_small : (program : Program) (frames : List Frame) (function : ℕ) → ReadsFew frames function → AreFew program → (index : ℕ) (code : List Instruction) → code_count program frames function index code + losing code + returning code ≤ sum_by instruction_size code
code_small program frames function fit few index [] = omega arith
code_small program frames function fit few index (i ∷ code) =
    omega (arith, sum_by-cons instruction_size i code, function_count_small program frames function fit few index i, code_small program frames function fit few (suc index) code, losing_next i code, returning_next i code)

-- A function's lines, with those that save its registers, are at most as many as the size computed for its plain code.
pub routine_small : (program : Program) (frames : List Frame) (function : ℕ) → ReadsFew frames function → AreFew program → (code : List Instruction) → IsSaving (frame_at frames function) code
    → saving_count (frame_at frames function) + code_count program frames function 0 code ≤ sum_by instruction_size code
routine_small program frames function fit few code saved =
    let same : way_count (frame_at frames function) ≡ losing code = ap (λ (b : Bool). if b then 1 else 0) saved.0 in
    omega (arith, same, saved.1, code_small program frames function fit few 0 code)

-- A prefix of a function's code has at most as many lines as all of its code.
count_take : (program : Program) (frames : List Frame) (function first : ℕ) (code : List Instruction) (k : ℕ) → code_count program frames function first (take k code) ≤ code_count program frames function first code
count_take program frames function first [] zero = omega arith
count_take program frames function first [] (suc k) = omega arith
count_take program frames function first (i ∷ code) zero = omega arith
count_take program frames function first (i ∷ code) (suc k) = omega (arith, count_take program frames function (suc first) code k)

functions_count_small : (program : Program) (frames : List Frame) (first : ℕ) → ((k : ℕ) → ReadsFew frames k) → AreFew program → (routines : List Routine) → AreSaved frames first routines
    → (k : ℕ) → functions_count program frames first (take k routines) ≤ sum_by size (take k routines)
functions_count_small program frames first fit few [] saved zero = omega arith
functions_count_small program frames first fit few [] saved (suc k) = omega arith
functions_count_small program frames first fit few (r ∷ routines) saved zero = omega arith
functions_count_small program frames first fit few (r ∷ routines) saved (suc k) =
    omega (
      arith,
      sum_by-cons size r (take k routines),
      routine_small program frames first (fit first) few r.code (saved_first frames first r routines saved),
      functions_count_small program frames (suc first) fit few routines (saved_next frames first r routines saved) k,
    )

-- The number of a function's first line plus the function's size is at most the size of the whole program.
pub start_fits : (program : Program) (frames : List Frame) → AreFrames program frames → ((k : ℕ) → ReadsFew frames k) → AreFew program → (k : ℕ) → k < length program.functions
    → function_line program frames k + size (routine_at program k) ≤ START_LINES + sum_by size program.functions
start_fits program frames are fit few k below =
    omega (arith, functions_count_small program frames 0 fit few program.functions (are_saved program frames are) k, sum_by-drop_more size program.functions k no_routine below, sum_by-take-drop size program.functions k)

-- The line number of each instruction is at most the size of the whole program.
pub line_fits : (program : Program) (frames : List Frame) → AreFrames program frames → ((k : ℕ) → ReadsFew frames k) → AreFew program → (k : ℕ) → k < length program.functions → (index : ℕ)
    → instruction_line program frames k index ≤ START_LINES + sum_by size program.functions
line_fits program frames are fit few k below index =
    omega (arith, start_fits program frames are fit few k below, routine_small program frames k (fit k) few (routine_at program k).code (is_saving program (routine_at program k) (frame_at frames k) (are.each k below) (are.homes k below)), count_take program frames k 0 (routine_at program k).code index)

-- ---- properties of all functions of a well-formed program

-- For every function index, in range or not, the function has at most as many result words as one value can have.
routines_few : (routines : List Routine) → ((k : ℕ) → k < length routines → (slice_index_or routines k no_routine).results ≤ GREATEST_VALUE)
    → (k : ℕ) → (slice_index_or routines k no_routine).results ≤ GREATEST_VALUE
routines_few [] few zero = omega arith
routines_few [] few (suc k) = omega arith
routines_few (r ∷ routines) few zero = few 0 (omega arith)
routines_few (r ∷ routines) few (suc k) = routines_few routines (λ j below. few (suc j) (omega arith)) k

routine_stands : (program : Program) → IsWellFormed program → (k : ℕ) → k < length program.functions → IsRoutine program (routine_at program k)
routine_stands program well k below = well.functions k no_routine below

pub are_few : (program : Program) → IsWellFormed program → AreFew program
are_few program well = routines_few program.functions (λ k below. (routine_stands program well k below).results)

-- ---- frames

slots_below : (r : Routine) (frame : Frame) → IsFrame r frame → (n : ℕ) → n ≡ r.slots → AreReached frame 0 n
slots_below r frame fit zero is = inl refl
slots_below r frame fit (suc n) is = inr (omega (arith, fit.inside n (omega arith), fit.small))

pub slots_reached : (r : Routine) (frame : Frame) → IsFrame r frame → AreReached frame 0 r.slots
slots_reached r frame fit = slots_below r frame fit r.slots refl

pub homes_reached : (program : Program) (r : Routine) (frame : Frame) → IsFrame r frame → AreHomes program r frame.saved frame.homes → AreReached frame 0 (length frame.homes)
homes_reached program r frame fit right = slots_below r frame fit (length frame.homes) right.as_many

-- The slots of a function fit in its frame.
slots_end : (r : Routine) (frame : Frame) → IsFrame r frame → (past : ℕ) → past ≤ r.slots → past ≤ MOST_FRAME_WORDS
slots_end r frame fit zero below = omega arith
slots_end r frame fit (suc slot) below = omega (arith, fit.inside slot (omega (arith, below)), fit.small)

pub arguments_small : (program : Program) (frames : List Frame) (function : ℕ) → AreFrames program frames → function < length program.functions
    → (callee arguments count result : ℕ) → IsCallInRange program (routine_at program function) callee arguments count result → arguments + count ≤ MOST_FRAME_WORDS
arguments_small program frames function fit known callee arguments count result in_range =
    slots_end (routine_at program function) (frame_at frames function) (fit.each function known) (arguments + count) (omega (arith, in_range.arguments_in_range))

-- ---- tables

pub lines_length : (program : Program) (frames : List Frame) (function index here : ℕ) (code : List Instruction) → length (instruction_lines program frames function index here code) ≡ length code
lines_length program frames function index here [] = refl
lines_length program frames function index here (i ∷ code) = ap suc (lines_length program frames function (suc index) (here + count_of program frames function index i) code)

pub lines_at : (program : Program) (frames : List Frame) (function index here : ℕ) (code : List Instruction) (k d : ℕ) → k < length code
    → slice_index_or (instruction_lines program frames function index here code) k d ≡ here + code_count program frames function index (take k code)
lines_at program frames function index here [] k d below = absurd (omega arith)
lines_at program frames function index here (i ∷ code) zero d below = omega arith
lines_at program frames function index here (i ∷ code) (suc k) d below =
    omega (arith, lines_at program frames function (suc index) (here + count_of program frames function index i) code k d (omega arith))

-- The table of line numbers stays correct when the line numbers of one more function are appended to it.
pub numbered_more : (program : Program) (frames : List Frame) (k : ℕ) (functions : List FunctionLines) (its : FunctionLines) → AreNumbered program frames k functions → IsNumbered program frames k its
    → AreNumbered program frames (k + 1) (functions ++ its ∷ [])
numbered_more program frames k functions its are one = record {
  as_many = omega (arith, length_push functions its, are.as_many);
  each = λ j other at. elim (slice_get_last_cases functions its j other at) [
    | inl before ↦ are.each j other before
    | inr last ↦
        let here : k ≡ j = omega (arith, last.0, are.as_many) in
        subst (λ (n : ℕ). IsNumbered program frames n other) here (subst (IsNumbered program frames k) (sym last.1) one)
  ];
}

pub numbered_at : {program : Program} {frames : List Frame} {count : ℕ} {functions : List FunctionLines} → AreNumbered program frames count functions → (k : ℕ) (d : FunctionLines) → k < count
    → IsNumbered program frames k (slice_index_or functions k d)
numbered_at {program} {frames} {count} {functions} are k d below = are.each k (slice_index_or functions k d) (slice_get-get_or functions k d (omega (arith, below, are.as_many)))

pub routine_is_small : (program : Program) → IsPlain program → (k : ℕ) → k < length program.functions → size (routine_at program k) ≤ MOST_SIZE
routine_is_small program plain k below =
    omega (arith, plain.small, sum_by-drop_more size program.functions k no_routine below, sum_by-take-drop size program.functions k)

-- From the first line of each function on, all lines of the function fit in the text range.
pub function_fits : (program : Program) (frames : List Frame) → IsPlain program → AreFrames program frames → (k : ℕ) → k < length program.functions
    → function_line program frames k + size (routine_at program k) ≤ most_lines
function_fits program frames plain fit k below =
    omega (arith, plain.small, start_fits program frames fit (function_reads_few program frames fit) (are_few program plain.well_formed) k below)

module _ {program : Program} {frames : List Frame} {functions : List FunctionLines} (ready : AreReady program frames functions) where
  pub ready_many : length functions ≡ length program.functions
  ready_many = ready.numbered.as_many

module _ {program : Program} {frames : List Frame} {functions : List FunctionLines} {lines : List ℕ} {function : ℕ} (known : AreTables program frames functions lines function) where
  pub known_lines : length lines ≡ length (routine_at program function).code
  known_lines = ap length known.lines_are ∙ lines_length program frames function 0 (function_line program frames function + saving_count (frame_at frames function)) (routine_at program function).code

  pub known_line : (k : ℕ) → k < length (routine_at program function).code → slice_index_or lines k 0 ≡ instruction_line program frames function k
  known_line k below = ap (λ (s : List ℕ). slice_index_or s k 0) known.lines_are ∙ lines_at program frames function 0 (function_line program frames function + saving_count (frame_at frames function)) (routine_at program function).code k 0 below

  pub known_fits : (k : ℕ) → instruction_line program frames function k ≤ most_lines
  known_fits k =
      omega (arith, line_fits program frames known.ready.fit (function_reads_few program frames known.ready.fit) (are_few program known.ready.well_formed) function known.function_in_range k, known.ready.few)

-- ---- one more instruction

pub code_next : (program : Program) (frames : List Frame) (function : ℕ) (code : List Instruction) (k : ℕ) (d : Instruction) → code ≡ (routine_at program function).code → k < length code
    → code_lines program frames function k (instruction_line program frames function k) (drop k code)
    ≡ place_lines program frames function k (instruction_line program frames function k) (slice_index_or code k d) ++ following program frames function (slice_index_or code k d)
    ++ code_lines program frames function (k + 1) (instruction_line program frames function (k + 1)) (drop (k + 1) code)
code_next program frames function code k d same below =
    let one : suc k ≡ k + 1 = omega arith in
    let line = instruction_line program frames function k in
    let i = slice_index_or code k d in
    let own = place_lines program frames function k line i ++ following program frames function i in
    let (j, at_j) = slice_get_below code k below in
    let at : slice_get (routine_at program function).code k ≡ Some (slice_index_or code k d) =
    ap (λ (l : List Instruction). slice_get l k) (sym same) ∙ at_j ∙ ap Some (sym (get_or_from_slice_get code k j d at_j)) in
    ap (code_lines program frames function k line) (drop_more code k d below)
    ∙ ap (λ (n : ℕ). own ++ code_lines program frames function n (line + count_of program frames function k i) (drop (k + 1) code)) one
    ∙ ap (λ (n : ℕ). own ++ code_lines program frames function (k + 1) n (drop (k + 1) code)) (sym (line_next program frames function k i at))

-- ---- one more function

routines_count_next : (program : Program) (frames : List Frame) (first : ℕ) (routines : List Routine) (k n : ℕ) → n ≡ first + k → k < length routines
    → functions_count program frames first (take (suc k) routines) ≡ functions_count program frames first (take k routines) + function_count program frames n (slice_index_or routines k no_routine)
routines_count_next program frames first [] k n here below = absurd (omega arith)
routines_count_next program frames first (r ∷ routines) zero n here below =
    let same : n ≡ first = omega arith in
    omega (arith, ap (λ (m : ℕ). function_count program frames m r) same)
routines_count_next program frames first (r ∷ routines) (suc k) n here below =
    omega (arith, routines_count_next program frames (suc first) routines k n (omega arith) (omega arith))

pub start_next : (program : Program) (frames : List Frame) (k : ℕ) → k < length program.functions → function_line program frames k + function_count program frames k (routine_at program k) ≡ function_line program frames (suc k)
start_next program frames k below = omega (arith, routines_count_next program frames 0 program.functions k k (omega arith) below)

pub functions_next : (program : Program) (frames : List Frame) (k : ℕ) → k < length program.functions
    → function_lines program frames k (function_line program frames k) (drop k program.functions)
    ≡ routine_lines program frames k (function_line program frames k) (routine_at program k) ++ function_lines program frames (k + 1) (function_line program frames (k + 1)) (drop (k + 1) program.functions)
functions_next program frames k below =
    let one : suc k ≡ k + 1 = omega arith in
    let own = routine_lines program frames k (function_line program frames k) (routine_at program k) in
    let rest = drop (k + 1) program.functions in
    ap (λ (rs : List Routine). function_lines program frames k (function_line program frames k) rs) (drop_more program.functions k no_routine below)
    ∙ ap (λ (n : ℕ). own ++ function_lines program frames (suc k) n rest) (start_next program frames k below)
    ∙ ap (λ (n : ℕ). own ++ function_lines program frames n (function_line program frames n) rest) one
