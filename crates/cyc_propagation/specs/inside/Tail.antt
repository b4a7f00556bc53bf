-- The tail of code consists of the positions after the last one that a jump or a fall-through can reach. No instruction in the tail is
-- reachable.
use Rattle.std.specs.Prelude.{◌≡◌, ℕ, ◌+◌, ◌<◌, ◌≤◌, true, ◌&&◌, nat_lt, if◌then◌else◌, List, length, Option, Some, None, slice_get}
use Rattle.cyc_plain.specs.declared.instruction.Instruction.{Instruction}
use Rattle.cyc_plain.specs.declared.instruction.Instruction.TheVariants as instructions
use Rattle.cyc_plain.specs.inside.Uses.{leads}
use Rattle.cyc_propagation.specs.inside.Replacement.{may_vanish, place_after}
use Rattle.cyc_propagation.specs.inside.Room.{greater}
use Rattle.cyc_propagation.specs.inside.Table.{goes_on}

-- Returns the jump target of an instruction, if it has one.
abbrev pub target_of : Instruction → Option ℕ
target_of (instructions.Jump target) = Some target
target_of (instructions.Branch comparison left right target) = Some target
target_of (instructions.Try first handler) = Some handler
target_of i = None

abbrev pub greater_if_any : (one : ℕ) → Option ℕ → ℕ
greater_if_any one (Some other) = greater one other
greater_if_any one None = one

-- Returns the last position to which one of the instructions visited so far, including this one, jumps or falls through.
abbrev pub last_after : (last : ℕ) → Instruction → (index : ℕ) → ℕ
last_after last i index = greater_if_any (if goes_on i then greater last (index + 1) else last) (target_of i)

-- `IsLastOf` says that none of the first `count` instructions jumps or falls through to a position after `last`.
abbrev pub IsLastOf : List Instruction → (count last : ℕ) → Type 0
IsLastOf code count last = (index next : ℕ) (i : Instruction) → slice_get code index ≡ Some i → index < count → leads i index next ≡ true → next ≤ last

-- `IsLast` says that no instruction up to the position `last` jumps or falls through past it.
abbrev pub IsLast : List Instruction → (last : ℕ) → Type 0
IsLast code last = IsLastOf code (last + 1) last

-- Returns the replacement of the instruction at position `index` of `count`: after `last`, a jump to the next position.
abbrev pub tailless_instruction : (last index count : ℕ) → Instruction → Instruction
tailless_instruction last index count i =
    if nat_lt last index && may_vanish i then instructions.Jump (place_after index count) else i

-- `AreTailless` describes the first `count` instructions of code, in which those after `last` are replaced by jumps.
pub record AreTailless (code : List Instruction) (last count : ℕ) (made : List Instruction) : Type 0 where
  pub as_many : length made ≡ count
  pub each : (index : ℕ) (i : Instruction) → slice_get code index ≡ Some i → index < count
      → slice_get made index ≡ Some (tailless_instruction last index (length code) i)

-- `IsTailless` says that the unreachable tail of the code is replaced by jumps.
pub record IsTailless (code made : List Instruction) : Type 0 where
  pub last : ℕ
  pub is_last : IsLast code last
  pub all : AreTailless code last (length code) made
