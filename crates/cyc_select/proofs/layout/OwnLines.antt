-- Assigns to each instruction of the plain program the emitted MIPS lines that implement it.
use Rattle.std.proofs.Common.{◌≡◌, ℕ, zero, suc, ◌+◌, ◌-◌, ◌≤◌, List, Option, Some, None, slice_get, refl, ap, arith}
use Rattle.std.specs.List.{range_with_len}
use Rattle.cyc_plain.specs.declared.instruction.Instruction.{Instruction}
use Rattle.cyc_plain.specs.inside.Program.{Program, CodePlace, routine_at}
use Rattle.cyc_frame.specs.inside.Layout.{frame_at}
use Rattle.cyc_frame.specs.inside.Frame.{Frame}
use Rattle.cyc_select.specs.inside.Slots.{saving_count}
use Rattle.cyc_select.specs.inside.Counts.{after_count, place_count, instruction_line}
use Rattle.cyc_select.proofs.layout.Lines.{line_next, line_first}

-- Returns the number of MIPS lines that are executed after a call returns; these lines count as lines of the next instruction.
abbrev pub after_of : Program → List Frame → (function : ℕ) → Option Instruction → ℕ
after_of program frames function (Some i) = after_count program frames function i
after_of program frames function None = 0

abbrev pub previous_count : Program → List Frame → (function : ℕ) → List Instruction → (index : ℕ) → ℕ
previous_count program frames function code zero = saving_count (frame_at frames function)
previous_count program frames function code (suc index) = after_of program frames function (slice_get code index)

abbrev pub body_of : Program → List Frame → (function index : ℕ) → Option Instruction → ℕ
body_of program frames function index (Some i) = place_count program frames function index i
body_of program frames function index None = 0

abbrev pub own_of : Program → List Frame → CodePlace → List ℕ
own_of program frames place =
    let code = (routine_at program place.function).code in
    range_with_len
    (instruction_line program frames place.function place.index - previous_count program frames place.function code place.index)
    (previous_count program frames place.function code place.index + body_of program frames place.function place.index (slice_get code place.index))

-- If MIPS lines that count as lines of an instruction stand before the line number computed for this instruction, these lines
-- exist in the emitted code.
pub previous_fits : (program : Program) (frames : List Frame) (function index : ℕ) → previous_count program frames function (routine_at program function).code index ≤ instruction_line program frames function index
previous_fits program frames function zero = omega (arith, line_first program frames function)
previous_fits program frames function (suc index) = go (slice_get (routine_at program function).code index) refl
  where
    go : (o : Option Instruction) → slice_get (routine_at program function).code index ≡ o → after_of program frames function o ≤ instruction_line program frames function (suc index)
    go (Some i) at =
        let e = line_next program frames function index i at in
        let one : index + 1 ≡ suc index = omega arith in
        omega (arith, e, ap (instruction_line program frames function) one)
    go None at = omega arith
