use Rattle.std.proofs.Common.{◌≡◌, drop}
use Rattle.cyc_flow.specs.inside.Code.{view_state, begun, lowered}
use Rattle.cyc_flow.proofs.evaluation.Evaluation.lower.Given as goal

abbrev pub invariant-loop-change : goal.invariant-loop-change
invariant-loop-change l =
    (lowered (drop l.change-index l.changes) (view_state l.self.state) ≡ lowered l.changes (view_state l.fn.self.state))
    × (l.self.touched.numbers.list ≡ l.fn.self.touched.numbers.list)
    × (begun l.self ≡ begun l.fn.self)
