-- Idle instructions need no machine code: control always continues after them, and each word that they write is never read or is already
-- in its register.
use Rattle.std.specs.Prelude.{◌≡◌, ℕ, suc, ◌<◌, ◌≤◌, ◌⊎◌, Bool, true, false, List, slice_index_or}
use Rattle.cyc_plain.specs.declared.instruction.BinaryOperator.{BinaryOperator}
use Rattle.cyc_plain.specs.declared.instruction.BinaryOperator.TheVariants as operators
use Rattle.cyc_plain.specs.declared.instruction.Comparison.{Comparison}
use Rattle.cyc_plain.specs.declared.instruction.Instruction.{Instruction}
use Rattle.cyc_plain.specs.declared.instruction.Instruction.TheVariants as instructions
use Rattle.cyc_plain.specs.declared.instruction.Operand.{Operand}
use Rattle.cyc_plain.specs.declared.instruction.Operand.TheVariants as operands
use Rattle.cyc_plain.specs.inside.Operators.{compares}
use Rattle.cyc_plain.specs.inside.Program.{Routine, Program}
use Rattle.cyc_plain.specs.inside.Uses.{At, is_among}
use Rattle.cyc_registers.specs.declared.home.Home.{Home}
use Rattle.cyc_registers.specs.declared.home.Home.TheVariants as homes
use Rattle.cyc_registers.specs.inside.Interference.{HasRegister, is_kept, home_of}
use Rattle.cyc_registers.specs.inside.Liveness.{IsLiveAt}

-- Returns true for an operator that has a result for all operand words.
abbrev pub always_has_result : BinaryOperator → Bool
always_has_result operators.Divide = false
always_has_result operators.Remainder = false
always_has_result operator = true

-- Says that the two operands of a branch are constants for which its comparison does not hold.
abbrev pub NeverHolds : Comparison → (left right : Operand) → Type 0
NeverHolds comparison (operands.Word left) (operands.Word right) = compares comparison left right ≡ false
NeverHolds comparison left right = ⊥

-- Says that the slot is in a register only and is not live after the instruction at `index`.
abbrev pub IsUnused : Program → Routine → List Home → (index slot : ℕ) → Type 0
IsUnused program r hs index slot = (is_kept (home_of hs slot) ≡ false) × (IsLiveAt program r slot (suc index) → ⊥)

-- Says that the word that a move copies is already in the destination slot's register, and that this slot is not also in memory.
abbrev pub IsThere : List Home → (slot : ℕ) → Operand → Type 0
IsThere hs slot (operands.Slot number) =
    (register : ℕ) × (home_of hs slot ≡ homes.Register register) × HasRegister hs number register
IsThere hs slot (operands.Word word) = ⊥

-- Returns true if the list marks the instruction at `index` as one that needs no machine code. An instruction
-- without an entry in the list is not marked as needing no machine code.
abbrev pub idle_at : List Bool → (index : ℕ) → Bool
idle_at idle index = slice_index_or idle index false

-- Says that the instructions from index `first` up to `end`, exclusive, are marked as needing no machine code.
abbrev pub AreIdleFrom : (idle : List Bool) → (first end : ℕ) → Type 0
AreIdleFrom idle first end = (k : ℕ) → first ≤ k → k < end → idle_at idle k ≡ true

-- Says that an instruction jumps forward, to the next instruction or over instructions only that need no machine code.
abbrev pub LeadsOver : (idle : List Bool) → (index : ℕ) → Instruction → Type 0
LeadsOver idle index (instructions.Jump target) = (suc index ≤ target) × AreIdleFrom idle (suc index) target
LeadsOver idle index i = ⊥

-- Says that an instruction needs no machine code (is idle). A jump is idle if it jumps to the next instruction or skips only idle ones.
abbrev pub IsIdle : Program → Routine → List Home → (idle : List Bool) → (index : ℕ) → Instruction → Type 0
IsIdle program r hs idle index (instructions.Move destination source) =
    (source ≡ operands.Slot destination) ⊎ (IsUnused program r hs index destination ⊎ IsThere hs destination source)
IsIdle program r hs idle index (instructions.MoveWords destination source count) =
    (slot : ℕ) → is_among destination count slot ≡ true → IsUnused program r hs index slot
IsIdle program r hs idle index (instructions.Unary operator destination operand) = IsUnused program r hs index destination
IsIdle program r hs idle index (instructions.Binary operator destination left right) =
    (always_has_result operator ≡ true) × IsUnused program r hs index destination
IsIdle program r hs idle index (instructions.Jump target) = LeadsOver idle index (instructions.Jump target)
IsIdle program r hs idle index (instructions.Branch comparison left right target) =
    (target ≡ suc index) ⊎ NeverHolds comparison left right
IsIdle program r hs idle index i = ⊥

-- Says that each instruction flagged as needing no machine code needs none. Instructions without a flag may need no machine code either.
abbrev pub AreIdle : Program → Routine → List Home → (idle : List Bool) → Type 0
AreIdle program r hs idle =
    (index : ℕ) (i : Instruction) → At r index i → idle_at idle index ≡ true → IsIdle program r hs idle index i
