use Rattle.std.proofs.Common.{◌≡◌, drop}
use Rattle.cyc_propagation.specs.inside.Facts.{are_suited}
use Rattle.cyc_propagation.proofs.pins.are_suited.Given as goal

-- Loop invariant: all facts visited so far contain only slots whose address is not taken, and constants that fit a machine word.
abbrev pub invariant-loop-fact : goal.invariant-loop-fact
invariant-loop-fact l =
    are_suited l.pinned (drop l.fact-index l.facts) ≡ are_suited l.pinned l.facts
