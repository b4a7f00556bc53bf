use Rattle.std.proofs.Common.{◌≡◌, drop}
use Rattle.cyc_propagation.specs.inside.Replacement.{holder_in}
use Rattle.cyc_propagation.proofs.replacement.holder_in.Given as goal

-- Loop invariant: no fact visited so far states a slot that contains the result.
abbrev pub invariant-loop-fact : goal.invariant-loop-fact
invariant-loop-fact l =
    holder_in (drop l.fact-index l.facts) l.operator l.left l.right ≡ holder_in l.facts l.operator l.left l.right
