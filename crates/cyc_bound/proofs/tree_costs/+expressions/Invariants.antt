use Rattle.cyc_bound.proofs.CostsFound.{FieldsLeft, ArgumentsLeft, OperationsLeft}
use Rattle.cyc_bound.proofs.tree_costs.+expressions.Given as goal

abbrev pub invariant-fields_cost-loop-value : goal.invariant-fields_cost-loop-value
invariant-fields_cost-loop-value l = FieldsLeft l.measure l.costs l.site l.values l.value-index l.total l.bytes

abbrev pub invariant-arguments_cost-loop-argument : goal.invariant-arguments_cost-loop-argument
invariant-arguments_cost-loop-argument l = ArgumentsLeft l.measure l.costs l.arguments l.argument-index l.total

abbrev pub invariant-operations_cost-loop-operation : goal.invariant-operations_cost-loop-operation
invariant-operations_cost-loop-operation l = OperationsLeft l.measure l.costs l.operations l.operation-index l.total
