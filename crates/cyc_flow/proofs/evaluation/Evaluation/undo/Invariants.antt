use Rattle.std.proofs.Common.{◌≡◌, length}
use Rattle.cyc_flow.specs.inside.Code.{begun}
use Rattle.cyc_flow.proofs.evaluation.Evaluation.undo.Given as goal

abbrev pub invariant-loop-change : goal.invariant-loop-change
invariant-loop-change l = (begun l.self ≡ begun l.fn.self) × (l.self.touched.numbers.list ≡ l.fn.self.touched.numbers.list)

abbrev pub decreases-loop-change : goal.decreases-loop-change
decreases-loop-change l = length l.self.trail.items
