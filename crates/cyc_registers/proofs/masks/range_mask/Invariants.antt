use Rattle.std.proofs.Common.{◌≡◌}
use Rattle.cyc_registers.specs.inside.Masks.{range_mask}
use Rattle.cyc_registers.proofs.masks.range_mask.Given as goal

-- Invariant: the bit mask contains exactly the slots added so far.
abbrev pub invariant-loop-offset : goal.invariant-loop-offset
invariant-loop-offset l = l.mask ≡ range_mask l.masks l.first l.offset
