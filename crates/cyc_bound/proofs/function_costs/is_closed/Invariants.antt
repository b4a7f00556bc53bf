use Rattle.std.proofs.Common.{ℕ, ◌<◌, ◌≤◌, get_or}
use Rattle.cyc_types.specs.TypedTreeView.{view_program}
use Rattle.cyc_bound.specs.Costs.{next_costs}
use Rattle.cyc_bound.proofs.function_costs.is_closed.Given as goal

abbrev pub invariant-loop-function : goal.invariant-loop-function
invariant-loop-function l = (f : ℕ) → f < l.function → get_or (next_costs (view_program l.tree) l.measure l.costs) f 0 ≤ get_or l.costs f 0
