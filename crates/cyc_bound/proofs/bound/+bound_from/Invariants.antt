use Rattle.std.proofs.Common.{◌≡◌, [], ◌∷◌, ◌++◌}
use Rattle.std.specs.Prelude.{slice_get}
use Rattle.cyc_types.specs.TypedTreeView.{view_program}
use Rattle.cyc_bound.specs.Bound.{callees_of}
use Rattle.cyc_bound.specs.inside.Walk.{AreHeights}
use Rattle.cyc_bound.proofs.WalkLemmas.{IsSoFar}
use Rattle.cyc_bound.proofs.bound.+bound_from.Given as goal

abbrev pub decreases-bound_from : goal.decreases-bound_from
decreases-bound_from l = l.left

abbrev pub invariant-loop-callee : goal.invariant-loop-callee
invariant-loop-callee l = record {
  path : l.path.items ≡ l.fn.path.items ++ l.fn.function ∷ [];
  heights : AreHeights (view_program l.tree) l.heights.items;
  callees : l.callee-items ≡ callees_of (slice_get (view_program l.tree).functions l.fn.function);
  height : IsSoFar (view_program l.tree) l.fn.function l.callee-items l.callee-index l.height;
}
