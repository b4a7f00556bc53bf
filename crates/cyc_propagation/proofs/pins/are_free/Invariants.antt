use Rattle.std.proofs.Common.{◌≡◌, true}
use Rattle.cyc_propagation.specs.inside.Facts.{are_free}
use Rattle.cyc_propagation.proofs.pins.are_free.Given as goal

-- Loop invariant: the slots visited so far are free, that is, their address is not taken.
abbrev pub invariant-loop-index : goal.invariant-loop-index
invariant-loop-index l = are_free l.pinned l.first l.index ≡ true
