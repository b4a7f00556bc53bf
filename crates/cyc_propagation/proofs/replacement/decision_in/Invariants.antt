use Rattle.std.proofs.Common.{◌≡◌, drop}
use Rattle.cyc_propagation.specs.inside.Replacement.{decision_in}
use Rattle.cyc_propagation.proofs.replacement.decision_in.Given as goal

-- Loop invariant: no fact visited so far decides the comparison.
abbrev pub invariant-loop-fact : goal.invariant-loop-fact
invariant-loop-fact l =
    decision_in (drop l.fact-index l.facts) l.comparison l.left l.right ≡ decision_in l.facts l.comparison l.left l.right
