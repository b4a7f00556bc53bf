use Rattle.std.proofs.Common.{◌≡◌, drop}
use Rattle.cyc_types.specs.flow.States.{State}
use Rattle.cyc_flow.specs.inside.Code.{view_state, lowered, lowered_to}
use Rattle.cyc_flow.proofs.evaluation.changed.Given as goal

abbrev pub invariant-loop-change : goal.invariant-loop-change
invariant-loop-change l = (f : State) → lowered_to (view_state l.state) (drop l.change-index l.trail) (lowered l.changed.items f) ≡ lowered_to (view_state l.state) l.trail f
