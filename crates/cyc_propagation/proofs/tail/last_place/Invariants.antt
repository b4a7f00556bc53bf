use Rattle.cyc_propagation.specs.inside.Tail.{IsLastOf}
use Rattle.cyc_propagation.proofs.tail.last_place.Given as goal

-- Loop invariant: no instruction visited so far jumps or falls through to a position after `last`.
abbrev pub invariant-loop-index : goal.invariant-loop-index
invariant-loop-index l = IsLastOf l.code l.index l.last
