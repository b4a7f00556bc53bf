use Rattle.std.proofs.Common.{◌≡◌, drop}
use Rattle.cyc_types.specs.Rules.{run}
use Rattle.cyc_types.specs.TypedTreeView.{arguments_of, operations_of}
use Rattle.cyc_types.specs.flow.Touched.{touched_arguments, touched_operations}
use Rattle.cyc_types.specs.flow.Expressions.{rule_arguments, rule_operations}
use Rattle.cyc_flow.specs.inside.Code.{view_state, begun}
use Rattle.cyc_flow.proofs.evaluation.Evaluation.+expression.Given as goal

abbrev pub invariant-apply_operations-loop-operation : goal.invariant-apply_operations-loop-operation
invariant-apply_operations-loop-operation l =
    (run (rule_operations l.waiting (operations_of (drop l.operation-index l.operations)) (view_state l.self.state)) ≡ run (rule_operations l.waiting (operations_of l.operations) (view_state l.fn.self.state)))
    × (touched_operations (operations_of (drop l.operation-index l.operations)) l.self.touched.numbers.list ≡ touched_operations (operations_of l.operations) l.fn.self.touched.numbers.list)
    × (begun l.self ≡ begun l.fn.self)

abbrev pub invariant-pass-loop-argument : goal.invariant-pass-loop-argument
invariant-pass-loop-argument l =
    (run (rule_arguments l.waiting (arguments_of (drop l.argument-index l.arguments)) (view_state l.self.state)) ≡ run (rule_arguments l.waiting (arguments_of l.arguments) (view_state l.fn.self.state)))
    × (touched_arguments (arguments_of (drop l.argument-index l.arguments)) l.self.touched.numbers.list ≡ touched_arguments (arguments_of l.arguments) l.fn.self.touched.numbers.list)
    × (begun l.self ≡ begun l.fn.self)
