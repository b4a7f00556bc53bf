-- The words of labelled code, as the assembler lays them out. A theorem shows that these words represent the labelled code (see the
-- module `Text`).
use Rattle.std.specs.Prelude.{ℕ, zero, suc, ◌+◌, ◌-◌, ◌≤◌, List, [], ◌∷◌, ◌++◌, length, Bool, true, false, nat_lt, if◌then◌else◌, Option, Some, None, slice_get}
use Rattle.cyc_isa.specs.Encoding.{word_of}
use Rattle.cyc_isa.specs.Decoding.{jump_index_of}
use Rattle.cyc_isa.specs.declared.instr.Instr.{Instr}
use Rattle.cyc_isa.specs.declared.instr.Instr.TheVariants.{Jump, JumpRegister}
use Rattle.cyc_isa.specs.declared.instr.JumpOp.{JumpOp}
use Rattle.cyc_isa.specs.declared.instr.JumpOp.TheVariants.{Plain, AndLink}
use Rattle.cyc_select.specs.inside.Labelled.{Labelled}
use Rattle.cyc_select.specs.declared.code.Condition.{Condition}
use Rattle.cyc_select.specs.declared.code.Line.{Line}
use Rattle.cyc_select.specs.declared.code.Line.TheVariants as lines
use Rattle.cyc_asm.specs.declared.constants.TheConstants.{ROUND_OFFSET, FIRST_INDEX}
use Rattle.cyc_asm.specs.inside.Layout.{is_near, position}
use Rattle.cyc_asm.specs.inside.Slots.{is_unreached, filling}
use Rattle.cyc_asm.specs.inside.Order.{arranged}
use Rattle.cyc_asm.specs.inside.Text.{nothing, branch_of, inverse_of, return_register}

-- Returns the offset of a branch: the number of words from its delay slot to its target, as 16-bit two's complement. The arguments are the
-- numbers of words before the branch and before its target.
abbrev pub offset_of : (from to : ℕ) → ℕ
offset_of from to = if nat_lt from to then to - (from + 1) else 65535 - (from - to)

-- Returns the words of a jump with an empty delay slot.
abbrev pub jump_words : JumpOp → (to : ℕ) → List ℕ
jump_words op to = word_of (Jump op (jump_index_of (FIRST_INDEX + to))) ∷ 0 ∷ []

-- `IsHeadPosition` says that the branch or jump of a line may be at this position: the position of the line itself, or one word before it.
abbrev pub IsHeadPosition : List Line → (number from : ℕ) → Type 0
IsHeadPosition code number from = (from ≤ position code number) × (position code number ≤ from + 1)

-- Returns the branch of a line that has `from` words before it.
abbrev pub head_of_branch : Bool → List Line → (from : ℕ) → Condition → (label : ℕ) → Instr
head_of_branch true code from condition label = branch_of condition (offset_of from (position code label))
head_of_branch false code from condition label = branch_of (inverse_of condition) ROUND_OFFSET

abbrev pub head_of : List Line → (from number : ℕ) → Line → Instr
head_of code from number (lines.Ordinary instruction) = instruction
head_of code from number (lines.Branch condition label) =
    head_of_branch (is_near code number label) code from condition label
head_of code from number (lines.Jump label) = Jump Plain (jump_index_of (FIRST_INDEX + position code label))
head_of code from number (lines.Call label) = Jump AndLink (jump_index_of (FIRST_INDEX + position code label))
head_of code from number lines.Return = JumpRegister return_register

abbrev pub head_in : List Line → (from number : ℕ) → Option Line → Instr
head_in code from number (Some line) = head_of code from number line
head_in code from number None = nothing

-- Returns the words after a branch and its delay slot: for a far branch, the jump that it skips.
abbrev pub round_words : Bool → List Line → (label : ℕ) → List ℕ
round_words true code label = []
round_words false code label = jump_words Plain (position code label)

abbrev pub tail_of : List Line → (number : ℕ) → Line → (slot : ℕ) → List ℕ
tail_of code number (lines.Branch condition label) slot = slot ∷ round_words (is_near code number label) code label
tail_of code number line slot = slot ∷ []

abbrev pub tail_in : List Line → (number : ℕ) → Option Line → (slot : ℕ) → List ℕ
tail_in code number (Some line) slot = tail_of code number line slot
tail_in code number None slot = []

-- Returns the machine words of a branch or jump. If an instruction is given, this instruction fills the delay slot of the branch or jump.
abbrev pub words_filled : Option Instr → List Line → (number : ℕ) → Line → List ℕ
words_filled None code number line = word_of (head_of code (position code number) number line) ∷ tail_of code number line 0
words_filled (Some slotted) code number line = tail_of code number line (word_of slotted)

abbrev pub filled_in : List Line → (number : ℕ) → Option Line → List ℕ
filled_in code number (Some line) = words_filled (filling code number) code number line
filled_in code number None = []

-- Returns the word of an ordinary instruction, or of the branch or jump after it if the instruction fills its delay slot.
abbrev pub words_ordinary : Option Instr → List Line → (number : ℕ) → Instr → List ℕ
words_ordinary None code number instruction = word_of instruction ∷ []
words_ordinary (Some slotted) code number instruction =
    word_of (head_in code (position code number) (suc number) (slice_get code (suc number))) ∷ []

-- Returns the words to which a line is translated.
abbrev pub words_of_line : List Line → (number : ℕ) → Line → List ℕ
words_of_line code number (lines.Ordinary instruction) = words_ordinary (filling code (suc number)) code number instruction
words_of_line code number line = words_filled (filling code number) code number line

abbrev pub words_in : List Line → (number : ℕ) → Option Line → List ℕ
words_in code number (Some line) = words_of_line code number line
words_in code number None = []

-- Returns the words of a line; an unreachable line has none.
abbrev pub words_at : List Line → ℕ → List ℕ
words_at code number = if is_unreached code number then [] else words_in code number (slice_get code number)

-- Returns the words of the lines before the one with this index.
abbrev pub words_before : List Line → ℕ → List ℕ
words_before code zero = []
words_before code (suc number) = words_before code number ++ words_at code number

abbrev pub words_in_order : List Line → List ℕ
words_in_order code = words_before code (length code)

abbrev pub assembled : Labelled → List ℕ
assembled code = words_in_order (arranged code.lines)
