use Rattle.cyc_types.specs.TypedTreeView.{view_program}
use Rattle.cyc_bound.proofs.RoundLemmas.{AreRaisedTo}
use Rattle.cyc_bound.proofs.function_costs.raise_all.Given as goal

abbrev pub invariant-loop-function : goal.invariant-loop-function
invariant-loop-function l = AreRaisedTo (view_program l.tree) l.measure l.fn.costs.items 0 l.costs.items

abbrev pub invariant-loop-function-2 : goal.invariant-loop-function-2
invariant-loop-function-2 l = AreRaisedTo (view_program l.tree) l.measure l.fn.costs.items l.function l.costs.items
