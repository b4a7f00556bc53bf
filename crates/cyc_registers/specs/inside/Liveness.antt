-- Liveness: a slot is live at a code position if some path from there reaches a read of the slot before any write of the slot.
use Rattle.std.specs.Prelude.{◌≡◌, ℕ, zero, suc, ◌⊎◌, true, false}
use Rattle.cyc_plain.specs.declared.instruction.Instruction.{Instruction}
use Rattle.cyc_plain.specs.declared.instruction.Instruction.TheVariants as instructions
use Rattle.cyc_plain.specs.inside.Program.{Routine, Program}
use Rattle.cyc_plain.specs.inside.Uses.{At, reads, writes, leads}

-- Says that an instruction that reads the slot is reached after `steps` instructions, none of which writes the slot.
abbrev pub IsLiveWithin : Program → Routine → (slot steps index : ℕ) → Type 0
IsLiveWithin program r slot zero index = (i : Instruction) × At r index i × (reads r.results i slot ≡ true)
IsLiveWithin program r slot (suc steps) index =
    (i : Instruction) × At r index i × (writes program i slot ≡ false)
    × (next : ℕ) × (leads i index next ≡ true) × IsLiveWithin program r slot steps next

abbrev pub IsLiveAt : Program → Routine → (slot index : ℕ) → Type 0
IsLiveAt program r slot index = (steps : ℕ) × IsLiveWithin program r slot steps index

-- Says that the slot is live at the start of an exception handler of the function. An exception can reach the handler from any call.
abbrev pub IsLiveInClause : Program → Routine → (slot : ℕ) → Type 0
IsLiveInClause program r slot =
    (index first handler : ℕ) × At r index (instructions.Try first handler) × IsLiveAt program r slot handler

abbrev pub IsLiveLater : Program → Routine → (slot index : ℕ) → Type 0
IsLiveLater program r slot index = IsLiveAt program r slot index ⊎ IsLiveInClause program r slot
