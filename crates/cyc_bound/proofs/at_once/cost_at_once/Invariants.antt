use Rattle.cyc_types.specs.TypedTreeView.{view_program}
use Rattle.cyc_bound.proofs.AtOnceFound.{IsSoFar}
use Rattle.cyc_bound.proofs.at_once.cost_at_once.Given as goal

abbrev pub invariant-loop-function : goal.invariant-loop-function
invariant-loop-function l = IsSoFar (view_program l.tree) l.measure l.costs.items l.function-items l.function-index l.most
