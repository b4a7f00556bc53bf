use Rattle.std.proofs.Common.{◌≡◌, drop}
use Rattle.cyc_propagation.specs.inside.Table.{are_known}
use Rattle.cyc_propagation.proofs.known.are_known.Given as goal

-- Loop invariant: all required facts visited so far are known.
abbrev pub invariant-loop-fact : goal.invariant-loop-fact
invariant-loop-fact l =
    are_known (drop l.fact-index l.asked) l.facts l.more ≡ are_known l.asked l.facts l.more
