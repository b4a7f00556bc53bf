-- Labelled code as mathematical data: machine code before addresses are assigned. Labelled code is this project's own choice, modelled on
-- assembly language.
use Rattle.std.specs.Prelude.{◌≡◌, ℕ, suc, ◌+◌, ◌*◌, ◌%◌, ◌<◌, ◌≤◌, Bool, true, false, List, length, All, sum_by, Some, slice_get}
use Rattle.cyc_isa.specs.Encoding.{IsEncodable}
use Rattle.cyc_isa.specs.declared.instr.Instr.{Instr}
use Rattle.cyc_isa.specs.declared.instr.Instr.TheVariants.{Branch, BranchZero, Jump, JumpRegister, JumpRegisterLink}
use Rattle.cyc_machine_model.specs.State.{text_base, text_end, globals_length}
use Rattle.cyc_select.specs.declared.code.Line.{Line}
use Rattle.cyc_select.specs.declared.code.Line.TheVariants as lines

-- Labelled code consists of lines, executed from the first one on, and of the initial words of the data range.
pub record Labelled : Type 0 where
  pub lines : List Line
  pub globals : List ℕ

-- Returns true if an instruction is neither a branch nor a jump.
abbrev pub is_ordinary : Instr → Bool
is_ordinary (Branch op left right offset) = false
is_ordinary (BranchZero op source offset) = false
is_ordinary (Jump op index) = false
is_ordinary (JumpRegister source) = false
is_ordinary (JumpRegisterLink destination source) = false
is_ordinary instruction = true

-- `IsFormedLine` says that a line is well-formed in code of `count` lines: an ordinary instruction fits its encoding, and a label is
-- the number of an existing line.
abbrev pub IsFormedLine : ℕ → Line → Type 0
IsFormedLine count (lines.Ordinary instruction) = (is_ordinary instruction ≡ true) × IsEncodable instruction
IsFormedLine count (lines.Branch condition label) = label < count
IsFormedLine count (lines.Jump label) = label < count
IsFormedLine count (lines.Call label) = label < count
IsFormedLine count lines.Return = Unit {0}

abbrev pub IsFormed : Labelled → Type 0
IsFormed code = All (IsFormedLine (length code.lines)) code.lines

-- Returns the greatest number of machine words that a line takes: a branch to a far target is two instructions with their delay
-- slots, and a jump has a delay slot.
abbrev pub words_of : Line → ℕ
words_of (lines.Ordinary instruction) = 1
words_of (lines.Branch condition label) = 4
words_of (lines.Jump label) = 2
words_of (lines.Call label) = 2
words_of lines.Return = 2

abbrev pub all_words : List Line → ℕ
all_words code = sum_by words_of code

-- `Fits` says that the code fits the text range even if each line takes the most words that it can.
abbrev pub Fits : List Line → Type 0
Fits code = text_base + 4 * all_words code ≤ text_end

-- `IsCode` is the invariant of every value of type `Code`: it has lines, which are well-formed and fit the text range, and its globals
-- fit the data range.
pub record IsCode (code : Labelled) : Type 0 where
  pub some : 0 < length code.lines
  pub formed : IsFormed code
  pub fits : Fits code.lines
  pub few_globals : length code.globals ≤ globals_length

-- `IsReturnPoint` says that a line follows a call, so its address is a possible return address.
pub record IsReturnPoint (code : Labelled) (line : ℕ) : Type 0 where
  pub inside : line < length code.lines
  pub call : ℕ
  pub label : ℕ
  pub following : line ≡ suc call
  pub calls : slice_get code.lines call ≡ Some (lines.Call label)

-- `AreAddresses` says that the address of each line is a multiple of 4 in the text range, and that different return points
-- have different addresses.
pub record AreAddresses (code : Labelled) (addresses : ℕ → ℕ) : Type 0 where
  pub apart : (a b : ℕ) → IsReturnPoint code a → IsReturnPoint code b → addresses a ≡ addresses b → a ≡ b
  pub aligned : (line : ℕ) → line < length code.lines → addresses line % 4 ≡ 0
  pub from : (line : ℕ) → line < length code.lines → text_base ≤ addresses line
  pub below : (line : ℕ) → line < length code.lines → addresses line < text_end
