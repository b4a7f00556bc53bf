use Rattle.cyc_propagation.specs.inside.Tail.{AreTailless}
use Rattle.cyc_propagation.proofs.tail.without_tail.Given as goal

-- Loop invariant: the instructions visited so far are copied, and those in the unreachable tail are replaced by jumps.
abbrev pub invariant-loop-index : goal.invariant-loop-index
invariant-loop-index l = AreTailless l.code l.last l.index l.made.items
