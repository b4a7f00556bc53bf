use Rattle.std.proofs.Common.{◌≡◌, drop}
use Rattle.cyc_propagation.specs.inside.Replacement.{value_in}
use Rattle.cyc_propagation.proofs.replacement.value_in.Given as goal

-- Loop invariant: no fact visited so far states the word at the address.
abbrev pub invariant-loop-fact : goal.invariant-loop-fact
invariant-loop-fact l =
    value_in (drop l.fact-index l.facts) l.address l.offset ≡ value_in l.facts l.address l.offset
