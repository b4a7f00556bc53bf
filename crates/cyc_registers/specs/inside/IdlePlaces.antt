-- The computation of the instructions that need no machine code, from the slots' homes (registers or memory) and a
-- table of the live candidate slots.
use Rattle.std.specs.Prelude.{ℕ, zero, suc, ◌+◌, Bool, true, false, ◌==◌, ◌&&◌, ◌||◌, not, nat_lt, List, bit_and}
use Rattle.cyc_plain.specs.declared.instruction.Comparison.{Comparison}
use Rattle.cyc_plain.specs.declared.instruction.Comparison.TheVariants as comparisons
use Rattle.cyc_plain.specs.declared.instruction.Instruction.{Instruction}
use Rattle.cyc_plain.specs.declared.instruction.Instruction.TheVariants as instructions
use Rattle.cyc_plain.specs.declared.instruction.Operand.{Operand}
use Rattle.cyc_plain.specs.declared.instruction.Operand.TheVariants as operands
use Rattle.cyc_plain.specs.inside.Uses.{is_slot}
use Rattle.cyc_registers.specs.declared.home.Home.{Home}
use Rattle.cyc_registers.specs.declared.home.Home.TheVariants as homes
use Rattle.cyc_registers.specs.inside.Interference.{is_kept, home_of}
use Rattle.cyc_registers.specs.inside.Idle.{always_has_result}
use Rattle.cyc_registers.specs.inside.Masks.{mask_at}

-- Returns true if a branch compares two equal constants for inequality, so that its comparison never holds.
abbrev pub never_holds : Comparison → (left right : Operand) → Bool
never_holds comparisons.NotEqual (operands.Word left) (operands.Word right) = left == right
never_holds comparison left right = false

-- Returns true if the first home (register, memory or both) is a register only, and the second home has the same register.
abbrev pub shares_register : (home other : Home) → Bool
shares_register (homes.Register register) (homes.Register other) = register == other
shares_register (homes.Register register) (homes.Both other) = register == other
shares_register home other = false

-- Returns true if the slot is a candidate for registers and, by the liveness table, is not live after the instruction at `index`.
abbrev pub is_unused : (masks live : List ℕ) → List Home → (index slot : ℕ) → Bool
is_unused masks live hs index slot =
    nat_lt 0 (mask_at masks slot)
    && (bit_and (mask_at live (index + 1)) (mask_at masks slot) == 0 && not (is_kept (home_of hs slot)))

-- Returns true if the `count` slots from slot `first` on are in registers only and not live after the instruction at `index`.
abbrev pub are_unused : (masks live : List ℕ) → List Home → (index first count : ℕ) → Bool
are_unused masks live hs index first zero = true
are_unused masks live hs index first (suc count) =
    are_unused masks live hs index first count && is_unused masks live hs index (first + count)

-- Returns true if the word that a move copies is already in the destination slot's register, and this slot is not also in memory.
abbrev pub is_there : List Home → (slot : ℕ) → Operand → Bool
is_there hs slot (operands.Slot number) = shares_register (home_of hs slot) (home_of hs number)
is_there hs slot (operands.Word word) = false

abbrev pub is_idle : (masks live : List ℕ) → List Home → (index : ℕ) → Instruction → Bool
is_idle masks live hs index (instructions.Move destination source) =
    is_unused masks live hs index destination || (is_slot source destination || is_there hs destination source)
is_idle masks live hs index (instructions.MoveWords destination source count) = are_unused masks live hs index destination count
is_idle masks live hs index (instructions.Unary operator destination operand) = is_unused masks live hs index destination
is_idle masks live hs index (instructions.Binary operator destination left right) =
    is_unused masks live hs index destination && always_has_result operator
is_idle masks live hs index (instructions.Jump target) = target == index + 1
is_idle masks live hs index (instructions.Branch comparison left right target) =
    target == index + 1 || never_holds comparison left right
is_idle masks live hs index i = false
