-- Computes the line number at which the code of each instruction stands.
use Rattle.std.proofs.Common.{◌≡◌, ℕ, zero, suc, ◌+◌, List, [], ◌∷◌, take, Some, None, slice_get, ap, arith}
use Rattle.cyc_plain.specs.declared.instruction.Instruction.{Instruction}
use Rattle.cyc_plain.specs.inside.Program.{Program, routine_at}
use Rattle.cyc_plain.specs.inside.Step.{instruction_at}
use Rattle.cyc_frame.specs.inside.Frame.{Frame}
use Rattle.cyc_frame.specs.inside.Layout.{frame_at}
use Rattle.cyc_select.specs.inside.Slots.{saving_count}
use Rattle.cyc_select.specs.inside.Counts.{count_of, code_count, function_line, instruction_line}

-- The number of MIPS lines up to and including an instruction is the number before it plus the number of the instruction's own lines.
lines_count_next : (program : Program) (frames : List Frame) (function first : ℕ) (code : List Instruction) (k : ℕ) (i : Instruction) → slice_get code k ≡ Some i
    → code_count program frames function first (take (suc k) code) ≡ code_count program frames function first (take k code) + count_of program frames function (first + k) i
lines_count_next program frames function first [] k i at = absurd (let e : None ≡ Some i = at in cc)
lines_count_next program frames function first (x ∷ code) zero i at =
    let same : x ≡ i = (let e : Some x ≡ Some i = at in cc) in
    let here : first ≡ first + 0 = omega arith in
    omega (arith, ap (count_of program frames function first) same, ap (λ (n : ℕ). count_of program frames function n i) here)
lines_count_next program frames function first (x ∷ code) (suc k) i at =
    let here : suc first + k ≡ first + suc k = omega arith in
    omega (arith, lines_count_next program frames function (suc first) code k i at, ap (λ (n : ℕ). count_of program frames function n i) here)

-- The MIPS lines of the next instruction begin where those of the current instruction end.
pub line_next : (program : Program) (frames : List Frame) (function index : ℕ) (i : Instruction) → instruction_at program (record { function = function; index = index }) ≡ Some i
    → instruction_line program frames function (index + 1) ≡ instruction_line program frames function index + count_of program frames function index i
line_next program frames function index i at =
    let one : index + 1 ≡ suc index = omega arith in
    let here : 0 + index ≡ index = omega arith in
    let e = lines_count_next program frames function 0 (routine_at program function).code index i at in
    omega (
      arith,
      ap (instruction_line program frames function) one,
      e,
      ap (λ (n : ℕ). count_of program frames function n i) here,
    )

-- The MIPS lines of a function's first instruction begin after the lines that save registers, or at the function's first line
-- if it saves nothing.
pub line_first : (program : Program) (frames : List Frame) (function : ℕ) → instruction_line program frames function 0 ≡ function_line program frames function + saving_count (frame_at frames function)
line_first program frames function = omega arith
