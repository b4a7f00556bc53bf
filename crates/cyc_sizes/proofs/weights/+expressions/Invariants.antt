use Rattle.cyc_sizes.proofs.TokensCounted.{ArgumentsLeft, OperationsLeft}
use Rattle.cyc_sizes.proofs.weights.+expressions.Given as goal

abbrev pub invariant-arguments_weight-loop-argument : goal.invariant-arguments_weight-loop-argument
invariant-arguments_weight-loop-argument l = ArgumentsLeft l.arguments l.argument-index l.weight

abbrev pub invariant-operations_weight-loop-operation : goal.invariant-operations_weight-loop-operation
invariant-operations_weight-loop-operation l = OperationsLeft l.operations l.operation-index l.weight
