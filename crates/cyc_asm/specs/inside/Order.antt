-- The order of instructions in the text. If the instruction just before a branch or jump cannot fill the delay slot, one of the two
-- instructions before that instruction may fill it. The instruction that fills the slot is moved down past the instructions in
-- between, if it commutes with them. The choice of moved instructions is this project's own.
use Rattle.std.specs.Prelude.{ℕ, zero, suc, ◌+◌, ◌-◌, Bool, true, false, not, nat_le, ◌&&◌, if◌then◌else◌, List, length, Option, Some, slice_get}
use Rattle.std.specs.List.{swap}
use Rattle.std.specs.Option.{is_some}
use Rattle.cyc_isa.specs.Uses.{reads, writes}
use Rattle.cyc_isa.specs.declared.operand.Register.{Register}
use Rattle.cyc_isa.specs.declared.instr.Instr.{Instr}
use Rattle.cyc_isa.specs.declared.instr.Instr.TheVariants.{Immediate, LoadUpper, Shift, ShiftVariable, Arithmetic}
use Rattle.cyc_select.specs.inside.Labelled.{Labelled}
use Rattle.cyc_select.specs.declared.code.Line.{Line}
use Rattle.cyc_select.specs.declared.code.Line.TheVariants as lines
use Rattle.cyc_asm.specs.inside.Slots.{is_named, moved, filling}

-- Returns true if an instruction neither reads nor writes this register.
abbrev pub is_apart : Instr → Register → Bool
is_apart instruction register = not (reads instruction register.number) && not (writes instruction register.number)

-- Returns true if an instruction may be moved past another one: the other one computes one register from registers and cannot trap,
-- and neither writes a register that the other reads or writes.
abbrev pub passes : (instruction other : Instr) → Bool
passes instruction (Immediate op target source immediate) =
    is_apart instruction target && not (writes instruction source.number)
passes instruction (LoadUpper target immediate) = is_apart instruction target
passes instruction (Shift op destination source amount) =
    is_apart instruction destination && not (writes instruction source.number)
passes instruction (ShiftVariable op destination source by) =
    is_apart instruction destination && (not (writes instruction source.number) && not (writes instruction by.number))
passes instruction (Arithmetic op destination left right) =
    is_apart instruction destination && (not (writes instruction left.number) && not (writes instruction right.number))
passes instruction other = false

abbrev pub passes_line : Option Line → Option Line → Bool
passes_line (Some (lines.Ordinary instruction)) (Some (lines.Ordinary other)) = passes instruction other
passes_line line following = false

-- Returns true if the instruction of line `from` may be moved past that of line `number`, to which no line jumps.
abbrev pub passes_at : List Line → (from number : ℕ) → Bool
passes_at code from number = not (is_named code number) && passes_line (slice_get code from) (slice_get code number)

-- Returns true if an instruction may be moved past each of the next `count` lines.
abbrev pub passes_all : List Line → (from count : ℕ) → Bool
passes_all code from zero = true
passes_all code from (suc count) = passes_all code from count && passes_at code from (from + suc count)

-- Returns true if an instruction may be moved past the next `count` lines and fill the delay slot of the branch or jump after them.
abbrev pub comes_down : List Line → (from count : ℕ) → Bool
comes_down code from count =
    passes_all code from count
    && (not (is_named code (from + suc count)) && is_some (moved (slice_get code from) (slice_get code (from + suc count))))

-- Returns the lines after an instruction has been moved past the next `count` lines.
abbrev pub sunk : List Line → (from count : ℕ) → List Line
sunk code from zero = code
sunk code from (suc count) = swap (sunk code from count) (from + count) (from + suc count)

abbrev pub sunk_from : List Line → (from count : ℕ) → List Line
sunk_from code from count = if comes_down code from count then sunk code from count else code

-- Returns the lines of the code after one instruction is moved down to the branch or jump at line `number`. The instruction to
-- be moved passes the `count` lines just before line `number`, and it is moved only if it then fills the delay slot.
abbrev pub tried : List Line → (number count : ℕ) → List Line
tried code number count =
    if nat_le number count then code
    else (if is_some (filling code number) then code else sunk_from code (number - suc count) count)

-- Returns true if a line has no delay slot, since it is an ordinary instruction.
abbrev pub is_ordinary : Line → Bool
is_ordinary (lines.Ordinary instruction) = true
is_ordinary line = false

-- Returns the lines after one instruction is moved down to fill a delay slot: first one that passes
-- one line is tried, then one that passes two.
abbrev pub settled : List Line → (number : ℕ) → List Line
settled code number = tried (tried code number 1) number 2

-- Returns the lines after delay slots have been filled at the first `number` lines, one after the other.
abbrev pub arranged_before : List Line → ℕ → List Line
arranged_before code zero = code
arranged_before code (suc number) = settled (arranged_before code number) number

abbrev pub arranged : List Line → List Line
arranged code = arranged_before code (length code)

abbrev pub in_order : Labelled → Labelled
in_order code = record { lines = arranged code.lines; globals = code.globals }
