use Rattle.std.proofs.Common.{◌≡◌, drop}
use Rattle.cyc_types.specs.TypedTreeView.{operations_of}
use Rattle.cyc_lower_proof.specs.inside.ControlCode.{all_test}
use Rattle.cyc_lower.proofs.conditions.all_test.Given as goal

-- Loop invariant: all operators of the chain visited so far are the given logical operator (`&&` or `||`).
abbrev pub invariant-loop-operation : goal.invariant-loop-operation
invariant-loop-operation l = all_test l.operator (operations_of (drop l.operation-index l.operations)) ≡ all_test l.operator (operations_of l.operations)
