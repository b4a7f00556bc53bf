-- For each instruction of the plain program, the line number counted for it is the number of a line of the emitted code.
use Rattle.std.proofs.Common.{◌≡◌, ℕ, zero, suc, ◌+◌, ◌-◌, ◌<◌, ◌≤◌, Bool, true, false, List, [], ◌∷◌, ◌++◌, length, Some, slice_get, refl, sym, subst, arith, inl, inr}
use Rattle.std.specs.Prelude.{if◌then◌else◌}
use Rattle.std.proofs.lemmas.Bool.{cases_Bool, cases_lt}
use Rattle.std.proofs.lemmas.List.{get_or_past}
use Rattle.cyc_words.proofs.Lists.{slice_get_below}
use Rattle.cyc_words.proofs.Members.{All_at}
use Rattle.cyc_words.proofs.Items.{below_from_slice_get}
use Rattle.cyc_plain.specs.declared.instruction.Instruction.{Instruction}
use Rattle.cyc_plain.specs.declared.instruction.Instruction.TheVariants as plain
use Rattle.cyc_plain.specs.inside.Program.{Routine, Program, CodePlace, no_routine, routine_at}
use Rattle.cyc_plain.specs.inside.Step.{instruction_at}
use Rattle.cyc_plain.specs.inside.WellFormed.{IsInRange, IsWellFormed, leaves}
use Rattle.cyc_plain.proofs.Placed.{routine_in, goes_after}
use Rattle.cyc_plain.proofs.Steps.{function_known}
use Rattle.cyc_frame.specs.inside.Layout.{AreFrames, frame_at}
use Rattle.cyc_frame.specs.inside.Frame.{Frame}
use Rattle.cyc_select.specs.declared.code.Line.{Line}
use Rattle.cyc_select.specs.inside.Plans.{unary_plan, binary_plan}
use Rattle.cyc_select.specs.inside.Labelled.{Labelled}
use Rattle.cyc_select.specs.inside.Operands.{is_tested}
use Rattle.cyc_select.specs.inside.Hoisting.{is_idle}
use Rattle.cyc_select.specs.inside.Counts.{body_count, instruction_line}
use Rattle.cyc_select.specs.inside.Selection.{body, following, place_lines}
use Rattle.cyc_select.proofs.layout.Lines.{line_next}
use Rattle.cyc_select.proofs.emission.Counts.{operation_some, move_some, move_words_some, give_some}
use Rattle.cyc_select.proofs.layout.Structure.{stand}
use Rattle.cyc_select.proofs.effects.Sequences.{Stands, stands_front}

-- If a nonempty sequence of lines stands at a line number, it lies within the code.
pub within_code : (code : Labelled) (n : ℕ) (ls : List Line) → 0 < length ls → Stands code n ls → n + length ls ≤ length code.lines
within_code code n [] some stands = absurd (omega (arith, some))
within_code code n (l ∷ []) some (first, rest) = omega (arith, below_from_slice_get code.lines n l first)
within_code code n (l ∷ m ∷ ls) some (first, rest) = omega (arith, within_code code (n + 1) (m ∷ ls) (omega arith) rest)

pub few_results : (program : Program) → IsWellFormed program → (function : ℕ) → (routine_at program function).results ≤ 3
few_results program well function = elim (cases_lt function (length program.functions)) [
  | inl below ↦ (routine_in program function well below).results
  | inr past ↦ subst (λ (r : Routine). r.results ≤ 3) (sym (get_or_past program.functions function no_routine past)) (let e : 0 ≤ 3 = omega arith in e)
]

some_either : (b : Bool) (m n : ℕ) → 0 < m → 0 < n → 0 < (if b then m else n)
some_either true m n first second = first
some_either false m n first second = second

-- All functions, globals, slots and targets that an instruction of a well-formed program names exist.
pub range_at : (program : Program) → IsWellFormed program → (place : CodePlace) (i : Instruction) → instruction_at program place ≡ Some i → IsInRange program (routine_at program place.function) i
range_at program well place i at =
    All_at (IsInRange program (routine_at program place.function)) (routine_at program place.function).code place.index i
    (routine_in program place.function well (function_known program place i at)).instructions at

pub count_some : (program : Program) (frames : List Frame) (function : ℕ) (i : Instruction) → IsInRange program (routine_at program function) i → 0 < body_count program frames function i
count_some program frames function (plain.Move destination source) in_range = move_some (frame_at frames function) destination source
count_some program frames function (plain.Unary operator destination operand) in_range = omega (arith, operation_some (unary_plan operator operand).operation)
count_some program frames function (plain.Binary operator destination left right) in_range = some_either (is_tested operator right) _ _ (omega arith) (omega (arith, operation_some (binary_plan operator left right).operation))
count_some program frames function (plain.Jump target) in_range = omega arith
count_some program frames function (plain.Branch comparison left right target) in_range = omega arith
count_some program frames function (plain.Call callee arguments count result) in_range = omega arith
count_some program frames function (plain.Return value) in_range = omega arith
count_some program frames function (plain.ReadByte destination) in_range = omega arith
count_some program frames function (plain.WriteByte source) in_range = omega arith
count_some program frames function (plain.AddressOf destination slot count) in_range = omega arith
count_some program frames function (plain.LoadGlobal destination global) in_range = omega arith
count_some program frames function (plain.StoreGlobal global source) in_range = omega arith
count_some program frames function (plain.MoveWords destination source count) in_range = move_words_some (frame_at frames function) destination source count in_range.some in_range.few
count_some program frames function (plain.Load destination address offset) in_range = omega arith
count_some program frames function (plain.Store address offset source) in_range = omega arith
count_some program frames function (plain.LoadByte destination address offset) in_range = omega arith
count_some program frames function (plain.StoreByte address offset source) in_range = omega arith
count_some program frames function (plain.Ask request) in_range = omega arith
count_some program frames function (plain.CountLexical destination) in_range = give_some (frame_at frames function) destination
count_some program frames function (plain.Try first handler) in_range = omega arith
count_some program frames function (plain.Leave first) in_range = omega arith
count_some program frames function (plain.Throw tag value) in_range = omega arith
count_some program frames function (plain.Finish value) in_range = omega arith
count_some program frames function (plain.Uncaught tag value) in_range = omega arith
count_some program frames function (plain.Enter callee) in_range = omega arith

module _ (program : Program) (well : IsWellFormed program) (frames : List Frame) (fit : AreFrames program frames) (code : Labelled)
    (stand : (function index : ℕ) (i : Instruction) → instruction_at program (record { function = function; index = index }) ≡ Some i
    → Stands code (instruction_line program frames function index) (place_lines program frames function index (instruction_line program frames function index) i ++ following program frames function i))
    (long : (function line : ℕ) (i : Instruction) → length (body program frames function line i) ≡ body_count program frames function i) where
  -- The MIPS lines of an instruction that needs machine code stand at the line number counted for this instruction.
  pub body_stands : (function index : ℕ) (i : Instruction) → instruction_at program (record { function = function; index = index }) ≡ Some i → is_idle (frame_at frames function) index i ≡ false
      → Stands code (instruction_line program frames function index) (body program frames function (instruction_line program frames function index) i ++ following program frames function i)
  body_stands function index i at busy =
      subst (λ (b : Bool). Stands code (instruction_line program frames function index) ((if b then [] else body program frames function (instruction_line program frames function index) i) ++ following program frames function i)) busy
      (stand function index i at)

  pub body_inside : (function index : ℕ) (i : Instruction) → instruction_at program (record { function = function; index = index }) ≡ Some i → is_idle (frame_at frames function) index i ≡ false
      → instruction_line program frames function index + body_count program frames function i ≤ length code.lines
  body_inside function index i at busy =
      let line : ℕ = instruction_line program frames function index in
      let some = count_some program frames function i (range_at program well (record { function = function; index = index }) i at) in
      omega (
        arith,
        long function line i,
        within_code code line (body program frames function line i) (omega (arith, long function line i, some))
            (stands_front code line (body program frames function line i) (following program frames function i) (body_stands function index i at busy)),
      )

  -- The instruction after an idle one (one without lines) is in the function's code.
  idle_before : (function index : ℕ) (i : Instruction) → instruction_at program (record { function = function; index = index }) ≡ Some i → is_idle (frame_at frames function) index i ≡ true
      → index + 1 < length (routine_at program function).code
  idle_before function index i at idle = go i at idle
    where
      known : function < length program.functions
      known = function_known program (record { function = function; index = index }) i at

      stays : (j : Instruction) → slice_get (routine_at program function).code index ≡ Some j → leaves j ≡ false → index + 1 < length (routine_at program function).code
      stays j there other = goes_after program (routine_at program function) index j (routine_in program function well known) there other

      go : (j : Instruction) → instruction_at program (record { function = function; index = index }) ≡ Some j → is_idle (frame_at frames function) index j ≡ true → index + 1 < length (routine_at program function).code
      go (plain.Move destination source) there is = stays (plain.Move destination source) there refl
      go (plain.MoveWords destination source count) there is = stays (plain.MoveWords destination source count) there refl
      go (plain.Unary operator destination operand) there is = stays (plain.Unary operator destination operand) there refl
      go (plain.Binary operator destination left right) there is = stays (plain.Binary operator destination left right) there refl
      go (plain.Branch comparison left right target) there is = stays (plain.Branch comparison left right target) there refl
      go (plain.Jump target) there is =
          let (further, over) = fit.idle function known index (plain.Jump target) there is in
          let below : target < length (routine_at program function).code = range_at program well (record { function = function; index = index }) (plain.Jump target) there in
          omega (arith, further, below)
      go j there is = absurd (let e : false ≡ true = is in cc)

  -- The line number counted for each instruction is that of an existing MIPS line: this line was emitted for this
  -- instruction or for a later one.
  pub place_inside : (function index : ℕ) → index < length (routine_at program function).code → instruction_line program frames function index < length code.lines
  place_inside function index below = go (length (routine_at program function).code - suc index) index (omega (arith, below))
    where
      own : (k : ℕ) (i : Instruction) → slice_get (routine_at program function).code k ≡ Some i → is_idle (frame_at frames function) k i ≡ false → instruction_line program frames function k < length code.lines
      own k i at busy =
          omega (arith, body_inside function k i at busy, count_some program frames function i (range_at program well (record { function = function; index = k }) i at))

      go : (n k : ℕ) → k + suc n ≡ length (routine_at program function).code → instruction_line program frames function k < length code.lines
      go zero k is =
          let (i, at) = slice_get_below (routine_at program function).code k (omega (arith, is)) in
          elim (cases_Bool (is_idle (frame_at frames function) k i)) [
            | inl idle ↦ absurd (omega (arith, is, idle_before function k i at idle))
            | inr busy ↦ own k i at busy
          ]
      go (suc n) k is =
          let (i, at) = slice_get_below (routine_at program function).code k (omega (arith, is)) in
          elim (cases_Bool (is_idle (frame_at frames function) k i)) [
            | inl idle ↦ omega (arith, line_next program frames function k i at, go n (k + 1) (omega (arith, is)))
            | inr busy ↦ own k i at busy
          ]
