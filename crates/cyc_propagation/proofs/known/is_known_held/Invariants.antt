use Rattle.std.proofs.Common.{◌≡◌, drop}
use Rattle.cyc_propagation.specs.declared.fact.Fact.TheVariants as facts_are
use Rattle.cyc_propagation.specs.inside.Facts.{is_known}
use Rattle.cyc_propagation.proofs.known.is_known_held.Given as goal

-- Loop invariant: no fact visited so far equals the fact that the function looks up in the list of known facts.
abbrev pub invariant-loop-other : goal.invariant-loop-other
invariant-loop-other l =
    is_known (drop l.other-index l.facts) (facts_are.Held l.address l.offset l.value) ≡ is_known l.facts (facts_are.Held l.address l.offset l.value)
