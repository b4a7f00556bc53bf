use Rattle.std.proofs.Common.{◌≡◌, drop}
use Rattle.cyc_propagation.specs.inside.Pins.{is_within}
use Rattle.cyc_propagation.proofs.pins.is_within.Given as goal

-- Loop invariant: no range visited so far contains the slot.
abbrev pub invariant-loop-range : goal.invariant-loop-range
invariant-loop-range l = is_within (drop l.range-index l.ranges) l.slot ≡ is_within l.ranges l.slot
