use Rattle.std.proofs.Common.{◌≤◌}
use Rattle.cyc_registers.specs.declared.liveness.TheConstants.{MOST_CHOSEN}
use Rattle.cyc_registers.specs.inside.Masks.{AreMasks}
use Rattle.cyc_registers.proofs.numbering.masks_of.Given as goal

-- Invariant: the bit masks of the slots numbered so far are right, and no slot has a bit from the next free number on.
abbrev pub invariant-loop-slot : goal.invariant-loop-slot
invariant-loop-slot l = AreMasks l.masks.items l.next × (l.next ≤ MOST_CHOSEN)
