use Rattle.cyc_bound.proofs.CalleesFound.{ArgumentsLeft, OperationsLeft}
use Rattle.cyc_bound.proofs.callees.+expressions.Given as goal

abbrev pub invariant-add_arguments-loop-argument : goal.invariant-add_arguments-loop-argument
invariant-add_arguments-loop-argument l = ArgumentsLeft l.arguments l.argument-index l.fn.found.items l.found.items

abbrev pub invariant-add_operations-loop-operation : goal.invariant-add_operations-loop-operation
invariant-add_operations-loop-operation l = OperationsLeft l.operations l.operation-index l.fn.found.items l.found.items
