use Rattle.cyc_types.specs.TypedTreeView.{view_program}
use Rattle.cyc_bound.proofs.ReachedLemmas.{IsWalked, IsAtPlace}
use Rattle.cyc_bound.proofs.reached.reached.Given as goal

abbrev pub invariant-loop-place : goal.invariant-loop-place
invariant-loop-place l = IsWalked (view_program l.tree) l.marks.items l.found.items l.place

abbrev pub invariant-loop-callee : goal.invariant-loop-callee
invariant-loop-callee l = IsAtPlace (view_program l.tree) l.function l.callee-items l.callee-index l.marks.items l.found.items l.place
