-- This file defines the delay slots that an instruction fills. The instruction just before a branch or jump fills its delay slot, unless
-- the move changes the effect of this instruction or of the branch or jump. No instruction fills the delay slot of a branch or jump to
-- which another line jumps. The rule for filling delay slots is this project's own choice.
use Rattle.std.specs.Prelude.{◌≡◌, ℕ, zero, suc, ◌<◌, Bool, true, false, not, ◌==◌, ◌&&◌, ◌||◌, if◌then◌else◌, List, length, Option, Some, None, slice_get, get_or}
use Rattle.std.specs.List.{list_any}
use Rattle.cyc_isa.specs.Uses.{reads, writes}
use Rattle.cyc_isa.specs.declared.instr.Instr.{Instr}
use Rattle.cyc_isa.specs.declared.instr.Instr.TheVariants.{Branch, BranchZero, Jump, JumpRegister, JumpRegisterLink, Exception}
use Rattle.cyc_machine_model.specs.declared.constants.TheConstants.{RETURN_ADDRESS}
use Rattle.cyc_select.specs.declared.code.Condition.{Condition}
use Rattle.cyc_select.specs.declared.code.Condition.TheVariants as conditions
use Rattle.cyc_select.specs.declared.code.Line.{Line}
use Rattle.cyc_select.specs.declared.code.Line.TheVariants as lines

-- Returns true if an instruction may stand in a delay slot: it is no jump, branch, `syscall` or `break`.
abbrev pub is_movable : Instr → Bool
is_movable (Branch op left right offset) = false
is_movable (BranchZero op source offset) = false
is_movable (Jump op index) = false
is_movable (JumpRegister source) = false
is_movable (JumpRegisterLink destination source) = false
is_movable (Exception op code) = false
is_movable instruction = true

-- Returns true if an instruction writes no register that the condition tests.
abbrev pub leaves : Instr → Condition → Bool
leaves instruction (conditions.Registers op left right) =
    not (writes instruction left.number) && not (writes instruction right.number)
leaves instruction (conditions.Sign op source) = not (writes instruction source.number)

-- Returns true if an instruction may be executed after a branch or jump instead of before it. An instruction may be executed after a
-- branch or jump only if it writes no register that the branch or jump reads or writes. The instruction must also read no register that
-- the branch or jump writes. A call writes register 31, and a return reads it.
abbrev pub moves : Instr → Line → Bool
moves instruction (lines.Ordinary other) = false
moves instruction (lines.Branch condition label) = is_movable instruction && leaves instruction condition
moves instruction (lines.Jump label) = is_movable instruction
moves instruction (lines.Call label) =
    is_movable instruction && (not (reads instruction RETURN_ADDRESS) && not (writes instruction RETURN_ADDRESS))
moves instruction lines.Return = is_movable instruction && not (writes instruction RETURN_ADDRESS)

-- Returns the label to which a line jumps, if it has one.
abbrev pub label_of : Line → Option ℕ
label_of (lines.Ordinary instruction) = None
label_of (lines.Branch condition label) = Some label
label_of (lines.Jump label) = Some label
label_of (lines.Call label) = Some label
label_of lines.Return = None

abbrev pub is_label : (number : ℕ) → Option ℕ → Bool
is_label number (Some label) = label == number
is_label number None = false

-- Returns true if some line jumps to the line with this index.
abbrev pub is_named : List Line → (number : ℕ) → Bool
is_named code number = list_any (λ line. is_label number (label_of line)) code

-- Returns true if control may continue at the next line. After a jump or a return it never does; a call returns to the next line.
abbrev pub goes_on : Option Line → Bool
goes_on (Some (lines.Jump label)) = false
goes_on (Some lines.Return) = false
goes_on line = true

abbrev pub is_call : Option Line → Bool
is_call (Some (lines.Call label)) = true
is_call line = false

-- Returns true if the next line is a call whose delay slot this line may fill, since no line jumps to the call.
abbrev pub fills_after : List Line → (number : ℕ) → Bool
fills_after code number = not (is_named code (suc number)) && is_call (slice_get code (suc number))

-- Returns true if an unreachable line may be omitted: it is no call, since a return may go to the line after it, and no instruction that
-- may fill the delay slot of a call after it.
abbrev pub may_lack : (fills : Bool) → Option Line → Bool
may_lack fills (Some (lines.Ordinary instruction)) = not fills
may_lack fills (Some (lines.Call label)) = false
may_lack fills (Some line) = true
may_lack fills None = false

-- Returns true if the line with this index is unreachable: no line jumps to it, and the previous line is unreachable or
-- never continues at its next line.
abbrev pub is_unreached_after : (unreached : Bool) → List Line → (number : ℕ) → Bool
is_unreached_after unreached code zero = false
is_unreached_after unreached code (suc before) =
    (unreached || not (goes_on (slice_get code before)))
    && (not (is_named code (suc before)) && may_lack (fills_after code (suc before)) (slice_get code (suc before)))

-- Returns true if a line is unreachable, as computed line by line.
abbrev pub is_unreached : List Line → (number : ℕ) → Bool
is_unreached code zero = false
is_unreached code (suc before) = is_unreached_after (is_unreached code before) code (suc before)

-- Returns true if the line before this one is unreachable.
abbrev pub is_unreached_before : List Line → (number : ℕ) → Bool
is_unreached_before code zero = false
is_unreached_before code (suc before) = is_unreached code before

-- Returns the instruction of a line if it fills the delay slot of the next line.
abbrev pub moved : Option Line → Option Line → Option Instr
moved (Some (lines.Ordinary instruction)) (Some line) = if moves instruction line then Some instruction else None
moved before line = None

-- Returns the instruction that fills the delay slot of the line with this index, if one does.
abbrev pub filling : List Line → (number : ℕ) → Option Instr
filling code zero = None
filling code (suc before) =
    if is_named code (suc before) then None else moved (slice_get code before) (slice_get code (suc before))

-- `AreNamed` says that a table is true for those of the first `count` lines to which some line jumps.
pub record AreNamed (code : List Line) (count : ℕ) (named : List Bool) : Type 0 where
  pub long : length named ≡ count
  pub each : (number : ℕ) → number < count → get_or named number false ≡ is_named code number
