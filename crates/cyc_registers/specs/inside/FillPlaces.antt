-- The code positions chosen to fill delay slots, computed from the slots' homes (registers or memory) and a table
-- of the live candidate slots.
use Rattle.std.specs.Prelude.{◌≡◌, ℕ, ◌+◌, ◌<◌, Bool, true, false, ◌==◌, ◌&&◌, not, nat_lt, if◌then◌else◌, List, length, Option, Some, slice_get, slice_set, bit_and}
use Rattle.cyc_plain.specs.declared.instruction.Comparison.{Comparison}
use Rattle.cyc_plain.specs.declared.instruction.Instruction.{Instruction}
use Rattle.cyc_plain.specs.declared.instruction.Instruction.TheVariants as instructions
use Rattle.cyc_plain.specs.declared.instruction.Operand.{Operand}
use Rattle.cyc_registers.specs.declared.home.Home.{Home}
use Rattle.cyc_registers.specs.declared.home.Home.TheVariants as homes
use Rattle.cyc_registers.specs.inside.Fills.{fills_at}
use Rattle.cyc_registers.specs.inside.Interference.{home_of}
use Rattle.cyc_registers.specs.inside.Masks.{mask_at}

-- Returns the slots that share the register of the given home (a register, memory or both). `holders`
-- contains for each register the slots that have it.
abbrev pub holders_of : (holders : List ℕ) → Home → ℕ
holders_of holders homes.Memory = 0
holders_of holders (homes.Both register) = mask_at holders register
holders_of holders (homes.Register register) = mask_at holders register

-- Returns true if the slot has no register, or no slot with its register is live after the instruction at `index`.
abbrev pub is_free : (holders live : List ℕ) → List Home → (index slot : ℕ) → Bool
is_free holders live hs index slot = bit_and (mask_at live (index + 1)) (holders_of holders (home_of hs slot)) == 0

-- Returns true if the target of the branch at `index` is an instruction that may fill the branch's delay slot.
abbrev pub may_fill : (holders live : List ℕ) → List Home → (index : ℕ) → Option Instruction → Bool
may_fill holders live hs index (Some (instructions.Move destination source)) = is_free holders live hs index destination
may_fill holders live hs index (Some (instructions.Unary operator destination operand)) =
    is_free holders live hs index destination
may_fill holders live hs index (Some (instructions.Binary operator destination left right)) =
    is_free holders live hs index destination
may_fill holders live hs index other = false

-- Returns the code positions that may still fill delay slots after the branch at `index` was examined. A branch excludes its target
-- from filling delay slots, unless the target may fill this branch's delay slot.
abbrev pub barring : (holders live : List ℕ) → List Home → List Instruction → (index : ℕ) → Instruction
    → (fills : List Bool) → List Bool
barring holders live hs code index (instructions.Branch comparison left right target) fills =
    if nat_lt target (length fills) && not (may_fill holders live hs index (slice_get code target))
    then slice_set fills target false
    else fills
barring holders live hs code index i fills = fills

-- Says that `fills` marks the code positions that may fill delay slots. The branches among the first `count` instructions have excluded
-- their targets from the marked positions, unless these may fill their delay slots.
pub record AreLeft (holders live : List ℕ) (hs : List Home) (code : List Instruction) (count : ℕ) (fills : List Bool) : Type 0 where
  pub as_many : length fills ≡ length code
  pub each : (index target : ℕ) (comparison : Comparison) (left right : Operand) (i : Instruction) → index < count
      → slice_get code index ≡ Some (instructions.Branch comparison left right target) → slice_get code target ≡ Some i
      → fills_at fills target ≡ true → may_fill holders live hs index (Some i) ≡ true
