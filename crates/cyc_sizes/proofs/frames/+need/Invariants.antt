use Rattle.cyc_types.specs.TypeView.{view_ty}
use Rattle.cyc_sizes.proofs.NeedsFound.{ArgumentsLeft, OperationsLeft}
use Rattle.cyc_sizes.proofs.frames.+need.Given as goal

abbrev pub invariant-operands_need-loop-operand : goal.invariant-operands_need-loop-operand
invariant-operands_need-loop-operand l = ArgumentsLeft l.operands l.first l.operand-index l.need l.before

abbrev pub invariant-operations_need-loop-operation : goal.invariant-operations_need-loop-operation
invariant-operations_need-loop-operation l = OperationsLeft l.operations (view_ty l.of_type) l.first l.operation-index l.need l.left
