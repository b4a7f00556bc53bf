-- The positions of the lines of labelled code in the text: the words of each line follow those of the line before it, as many
-- as its translation needs. The placement of lines in the text is this project's own choice.
use Rattle.std.specs.Prelude.{ℕ, zero, suc, ◌+◌, ◌*◌, Bool, ◌&&◌, nat_le, if◌then◌else◌, List, length, map, take, Option, Some, None, slice_get}
use Rattle.std.specs.List.{range_with_len}
use Rattle.cyc_machine_model.specs.State.{text_base}
use Rattle.cyc_select.specs.inside.Labelled.{Labelled, all_words}
use Rattle.cyc_select.specs.declared.code.Line.{Line}
use Rattle.cyc_select.specs.declared.code.Line.TheVariants as lines
use Rattle.cyc_isa.specs.declared.instr.Instr.{Instr}
use Rattle.cyc_asm.specs.declared.constants.TheConstants.{MAX_REACH}
use Rattle.cyc_asm.specs.inside.Slots.{is_unreached, filling}
use Rattle.cyc_asm.specs.inside.Order.{arranged}

-- Returns the most words that the lines before this one can take.
abbrev pub most_before : List Line → ℕ → ℕ
most_before code line = all_words (take line code)

abbrev pub is_near : List Line → (from to : ℕ) → Bool
is_near code from to =
    nat_le (most_before code to) (most_before code from + MAX_REACH)
    && nat_le (most_before code from) (most_before code to + MAX_REACH)

-- Returns the number of words of a branch or jump at the position of its own line. A branch or jump with a filled delay
-- slot is one word earlier, at the previous line's position. The instruction that fills the delay slot of a branch or jump
-- is at the position of the branch's or jump's own line.
abbrev pub head_width : Option Instr → ℕ
head_width (Some instruction) = 0
head_width None = 1

-- Returns the number of words after a branch or jump: its delay slot, and for a far branch the skipped jump with its delay slot.
abbrev pub tail_width : (near : Bool) → ℕ
tail_width near = if near then 1 else 3

-- Returns the number of words that a line takes, if it is reachable.
abbrev pub width_of : List Line → (number : ℕ) → Line → ℕ
width_of code number (lines.Ordinary instruction) = 1
width_of code number (lines.Branch condition label) =
    head_width (filling code number) + tail_width (is_near code number label)
width_of code number (lines.Jump label) = head_width (filling code number) + 1
width_of code number (lines.Call label) = head_width (filling code number) + 1
width_of code number lines.Return = head_width (filling code number) + 1

abbrev pub width_in : List Line → (number : ℕ) → Option Line → ℕ
width_in code number (Some line) = width_of code number line
width_in code number None = 0

-- Returns the number of words that a line takes; 0 if it is unreachable.
abbrev pub width_at : List Line → ℕ → ℕ
width_at code number = if is_unreached code number then 0 else width_in code number (slice_get code number)

-- Returns the position of a line: the number of words before it.
abbrev pub position : List Line → ℕ → ℕ
position code zero = 0
position code (suc number) = position code number + width_at code number

-- Returns the maximum number of words before each line, in order.
abbrev pub most_of_each : List Line → List ℕ
most_of_each code = map (most_before code) (range_with_len 0 (length code))

-- Returns the number of words before each line, in order, and the number of all words.
abbrev pub position_of_each : List Line → List ℕ
position_of_each code = map (position code) (range_with_len 0 (length code + 1))

-- Returns the address of a line among lines in their order in the text.
abbrev pub addresses_in : List Line → ℕ → ℕ
addresses_in code number = text_base + 4 * position code number

-- Returns the address of a line of labelled code.
abbrev pub addresses_of : Labelled → ℕ → ℕ
addresses_of code = addresses_in (arranged code.lines)
