-- The relation between words of text and labelled code at these addresses. The instruction of each reachable line occurs once, each label
-- is its line's address, and each delay slot contains the instruction that fills it or is empty. Branches, jumps and delay slots are those
-- of the MIPS32 architecture; the form of far branches is this project's own choice.
use Rattle.std.specs.Prelude.{◌≡◌, ℕ, zero, suc, ◌+◌, ◌-◌, ◌*◌, ◌/◌, ◌≤◌, Bool, true, false, List, [], ◌∷◌, length, map, Option, Some, None, slice_get}
use Rattle.std.specs.List.{range_with_len, flat_map}
use Rattle.cyc_isa.specs.Encoding.{word_of, IsEncodable}
use Rattle.cyc_isa.specs.Decoding.{register_of, shift_amount_of}
use Rattle.cyc_isa.specs.Effect.{branch_target, jump_target}
use Rattle.cyc_isa.specs.declared.operand.Register.{Register}
use Rattle.cyc_isa.specs.declared.operand.JumpIndex.{JumpIndex}
use Rattle.cyc_isa.specs.declared.instr.Instr.{Instr}
use Rattle.cyc_isa.specs.declared.instr.Instr.TheVariants.{Branch, BranchZero, Jump, JumpRegister, Shift}
use Rattle.cyc_isa.specs.declared.instr.BranchOp.TheVariants.{Equal, NotEqual}
use Rattle.cyc_isa.specs.declared.instr.BranchZeroOp.TheVariants as signs
use Rattle.cyc_isa.specs.declared.instr.JumpOp.{JumpOp}
use Rattle.cyc_isa.specs.declared.instr.JumpOp.TheVariants.{Plain, AndLink}
use Rattle.cyc_isa.specs.declared.instr.ShiftOp.TheVariants.{Left}
use Rattle.cyc_machine_model.specs.declared.constants.TheConstants.{RETURN_ADDRESS}
use Rattle.cyc_machine_model.specs.State.{text_base, text_end, text_at}
use Rattle.cyc_select.specs.inside.Labelled.{Labelled, AreAddresses, all_words}
use Rattle.cyc_select.specs.declared.code.Condition.{Condition}
use Rattle.cyc_select.specs.declared.code.Condition.TheVariants as conditions
use Rattle.cyc_select.specs.declared.code.Line.{Line}
use Rattle.cyc_select.specs.declared.code.Line.TheVariants as lines
use Rattle.cyc_asm.specs.inside.Layout.{is_near}
use Rattle.cyc_asm.specs.inside.Slots.{is_unreached, filling}
use Rattle.cyc_asm.specs.inside.Order.{in_order}

-- Returns the text range that contains exactly these words.
abbrev pub text_of : List ℕ → List (Option ℕ)
text_of words = map (λ (word : ℕ). Some word) words

-- `IsAt` says that an instruction is at an address of the text.
pub record IsAt (words : List ℕ) (address : ℕ) (i : Instr) : Type 0 where
  pub encodable : IsEncodable i
  pub word : text_at (text_of words) address ≡ Some (word_of i)

-- The instruction without effect, whose word is 0, fills each delay slot that no other instruction fills.
abbrev pub nothing : Instr
nothing = Shift Left (register_of 0) (register_of 0) (shift_amount_of 0)

-- The register in which a call leaves its return address.
abbrev pub return_register : Register
return_register = register_of RETURN_ADDRESS

-- Returns the branch instruction for a condition.
abbrev pub branch_of : Condition → (offset : ℕ) → Instr
branch_of (conditions.Registers op left right) offset = Branch op left right offset
branch_of (conditions.Sign op source) offset = BranchZero op source offset

-- Returns the negation of a condition.
abbrev pub inverse_of : Condition → Condition
inverse_of (conditions.Registers Equal left right) = conditions.Registers NotEqual left right
inverse_of (conditions.Registers NotEqual left right) = conditions.Registers Equal left right
inverse_of (conditions.Sign signs.LessOrEqual source) = conditions.Sign signs.Greater source
inverse_of (conditions.Sign signs.Greater source) = conditions.Sign signs.LessOrEqual source
inverse_of (conditions.Sign signs.Less source) = conditions.Sign signs.GreaterOrEqual source
inverse_of (conditions.Sign signs.GreaterOrEqual source) = conditions.Sign signs.Less source

-- `IsBranchAt` says that the text has a branch from one address to another, with this instruction in its delay slot.
pub record IsBranchAt (words : List ℕ) (condition : Condition) (slotted : Instr) (from to : ℕ) : Type 0 where
  pub offset : ℕ
  pub branch : IsAt words from (branch_of condition offset)
  pub target : branch_target from offset ≡ to
  pub slot : IsAt words (from + 4) slotted

-- `IsJumpAt` says that the text has a jump from one address to another, with this instruction in its delay slot.
pub record IsJumpAt (words : List ℕ) (op : JumpOp) (slotted : Instr) (from to : ℕ) : Type 0 where
  pub index : JumpIndex
  pub jump : IsAt words from (Jump op index)
  pub target : jump_target from index.index ≡ to
  pub slot : IsAt words (from + 4) slotted

-- `StandsBranch` says that a branch is in the text from this address up to the next line's. A far branch is the inverse branch over a jump.
abbrev pub StandsBranch : Bool → List ℕ → (ℕ → ℕ) → (number : ℕ) → Condition → (label : ℕ) → (slotted : Instr) → (from : ℕ) → Type 0
StandsBranch true words addresses number condition label slotted from =
    IsBranchAt words condition slotted from (addresses label) × (addresses (suc number) ≡ from + 8)
StandsBranch false words addresses number condition label slotted from =
    IsBranchAt words (inverse_of condition) slotted from (addresses (suc number))
    × IsJumpAt words Plain nothing (from + 8) (addresses label)
    × (addresses (suc number) ≡ from + 16)

abbrev pub StandsFrom : Labelled → List ℕ → (ℕ → ℕ) → (number : ℕ) → Line → (slotted : Instr) → (from : ℕ) → Type 0
StandsFrom code words addresses number (lines.Ordinary instruction) slotted from = ⊥
StandsFrom code words addresses number (lines.Branch condition label) slotted from =
    StandsBranch (is_near code.lines number label) words addresses number condition label slotted from
StandsFrom code words addresses number (lines.Jump label) slotted from =
    IsJumpAt words Plain slotted from (addresses label) × (addresses (suc number) ≡ from + 8)
StandsFrom code words addresses number (lines.Call label) slotted from =
    IsJumpAt words AndLink slotted from (addresses label) × (addresses (suc number) ≡ from + 8)
StandsFrom code words addresses number lines.Return slotted from =
    IsAt words from (JumpRegister return_register) × IsAt words (from + 4) slotted
    × (addresses (suc number) ≡ from + 8)

-- `StandsFilled` says where a branch or jump is in the text. A branch or jump with an empty delay slot is at the address of its own line.
-- A branch or jump with a filled delay slot is at the previous line's address, so a jump to the previous line executes it first.
abbrev pub StandsFilled : Option Instr → Labelled → List ℕ → (ℕ → ℕ) → (number : ℕ) → Line → Type 0
StandsFilled None code words addresses number line =
    StandsFrom code words addresses number line nothing (addresses number)
StandsFilled (Some slotted) code words addresses number line =
    (from : ℕ) × (addresses number ≡ from + 4) × StandsFrom code words addresses number line slotted from

-- `StandsOrdinary` says that an ordinary instruction is at its line's address, or in the delay slot of the next line.
abbrev pub StandsOrdinary : Option Instr → List ℕ → (ℕ → ℕ) → (number : ℕ) → Instr → Type 0
StandsOrdinary None words addresses number instruction =
    IsAt words (addresses number) instruction × (addresses (suc number) ≡ addresses number + 4)
StandsOrdinary (Some slotted) words addresses number instruction = addresses (suc number) ≡ addresses number + 4

abbrev pub Stands : Labelled → List ℕ → (ℕ → ℕ) → (number : ℕ) → Line → Type 0
Stands code words addresses number (lines.Ordinary instruction) =
    StandsOrdinary (filling code.lines (suc number)) words addresses number instruction
Stands code words addresses number line = StandsFilled (filling code.lines number) code words addresses number line

-- `StandsUnless` says that an unreachable line contributes no word to the text, and that the words of a reachable line are in the text.
abbrev pub StandsUnless : (unreached : Bool) → Labelled → List ℕ → (ℕ → ℕ) → (number : ℕ) → Line → Type 0
StandsUnless true code words addresses number line = addresses (suc number) ≡ addresses number
StandsUnless false code words addresses number line = Stands code words addresses number line

-- Returns the addresses of `count` words from `from` on.
abbrev pub stretch : (from count : ℕ) → List ℕ
stretch from zero = []
stretch from (suc count) = from ∷ stretch (from + 4) count

-- Returns the addresses of a line's own words: from its address up to the next line's. If a line's delay slot is filled, the previous
-- line owns the word of the branch or jump, and the line itself owns the word in the delay slot.
abbrev pub own : (ℕ → ℕ) → ℕ → List ℕ
own addresses number = stretch (addresses number) ((addresses (suc number) - addresses number) / 4)

-- `IsTextInOrder` says that the words of the text represent the labelled code with its lines in the order of `order`. The text contains
-- no word besides the lines' words: each word of the text is among the own words of exactly one line.
pub record IsTextInOrder (code order : Labelled) (addresses : ℕ → ℕ) (words : List ℕ) : Type 0 where
  pub places : AreAddresses code addresses
  pub first : addresses 0 ≡ text_base
  pub stands : (number : ℕ) (line : Line) → slice_get order.lines number ≡ Some line
      → StandsUnless (is_unreached order.lines number) order words addresses number line
  pub all : flat_map (own addresses) (range_with_len 0 (length code.lines)) ≡ stretch text_base (length words)
  pub few : length words ≤ all_words code.lines
  pub inside : text_base + 4 * length words ≤ text_end

-- `IsTextOf` says that the words represent the code: its lines are in their order, except for instructions moved down to fill a delay slot.
abbrev pub IsTextOf : Labelled → (ℕ → ℕ) → List ℕ → Type 0
IsTextOf code addresses words = IsTextInOrder code (in_order code) addresses words
