-- Delay slots that are filled with the first machine word of the branch target. The file defines the code positions whose word may be
-- computed before each branch to them, whether the branch is taken or not.
use Rattle.std.specs.Prelude.{◌≡◌, ℕ, suc, Bool, true, false, List, slice_index_or}
use Rattle.cyc_plain.specs.declared.instruction.Comparison.{Comparison}
use Rattle.cyc_plain.specs.declared.instruction.Instruction.{Instruction}
use Rattle.cyc_plain.specs.declared.instruction.Instruction.TheVariants as instructions
use Rattle.cyc_plain.specs.declared.instruction.Operand.{Operand}
use Rattle.cyc_plain.specs.inside.Program.{Routine, Program}
use Rattle.cyc_plain.specs.inside.Uses.{At, writes}
use Rattle.cyc_registers.specs.declared.home.Home.{Home}
use Rattle.cyc_registers.specs.inside.Interference.{HasRegister}
use Rattle.cyc_registers.specs.inside.Liveness.{IsLiveAt}

-- Returns true if the first machine word of the instruction at `target` fills delay slots of branches to it. A code position without
-- an entry in the list does not fill any delay slot.
abbrev pub fills_at : List Bool → (target : ℕ) → Bool
fills_at fills target = slice_index_or fills target false

-- Says that if the instruction at a branch target fills delay slots, the register that it writes holds no word needed when the
-- branch falls through. Code positions that the list `fills` does not flag may be able to fill delay slots too.
abbrev pub AreFillable : Program → Routine → List Home → (fills : List Bool) → Type 0
AreFillable program r hs fills =
    (index target d a k : ℕ) (comparison : Comparison) (left right : Operand) (i : Instruction)
    → At r index (instructions.Branch comparison left right target) → At r target i → writes program i d ≡ true
    → fills_at fills target ≡ true → HasRegister hs d k → HasRegister hs a k → IsLiveAt program r a (suc index) → ⊥
