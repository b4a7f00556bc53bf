use Rattle.cyc_types.proofs.TableLemmas.{SteppedTo}
use Rattle.cyc_types.proofs.constraints.extend_all.Given as goal

abbrev pub invariant-loop-constraint : goal.invariant-loop-constraint
invariant-loop-constraint l = SteppedTo l.via l.below l.constraint-index l.fn.constraints l.constraints
