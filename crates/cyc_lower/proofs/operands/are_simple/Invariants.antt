use Rattle.std.proofs.Common.{◌≡◌, drop}
use Rattle.cyc_types.specs.TypedTreeView.{operations_of}
use Rattle.cyc_lower_proof.specs.inside.ExpressionCode.{are_simple}
use Rattle.cyc_lower.specs.inside.Emission.{view_starts}
use Rattle.cyc_lower.proofs.operands.are_simple.Given as goal

-- Loop invariant: the operators visited so far have operands that need no code.
abbrev pub invariant-loop-operation : goal.invariant-loop-operation
invariant-loop-operation l = are_simple (view_starts l.starts) (operations_of (drop l.operation-index l.operations)) ≡ are_simple (view_starts l.starts) (operations_of l.operations)
