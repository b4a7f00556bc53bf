use Rattle.std.proofs.Common.{◌≡◌, drop}
use Rattle.cyc_flow.specs.inside.Code.{view_state, are_emptied}
use Rattle.cyc_flow.proofs.evaluation.are_emptied.Given as goal

abbrev pub invariant-loop-change : goal.invariant-loop-change
invariant-loop-change l = are_emptied (drop l.change-index l.trail) (view_state l.state) ≡ are_emptied l.trail (view_state l.state)
