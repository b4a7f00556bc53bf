use Rattle.cyc_types.specs.TypedTreeView.{view_program}
use Rattle.cyc_bound.proofs.RoundLemmas.{AreAfter}
use Rattle.cyc_bound.proofs.function_costs.costs_of.Given as goal

abbrev pub invariant-loop-round : goal.invariant-loop-round
invariant-loop-round l = AreAfter (view_program l.tree) l.measure l._round l.costs.items
