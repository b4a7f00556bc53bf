use Rattle.cyc_types.specs.TypedTreeView.{view_program}
use Rattle.cyc_bound.specs.inside.ItemCosts.{UniquesSoFar}
use Rattle.cyc_bound.proofs.pages.unique_pages.Given as goal

abbrev pub invariant-loop-class : goal.invariant-loop-class
invariant-loop-class l = UniquesSoFar (view_program l.tree) l.class l.pages
