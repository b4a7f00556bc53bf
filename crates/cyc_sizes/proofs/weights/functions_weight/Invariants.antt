use Rattle.cyc_sizes.proofs.TokensCounted.{FunctionsLeft}
use Rattle.cyc_sizes.proofs.weights.functions_weight.Given as goal

abbrev pub invariant-loop-function : goal.invariant-loop-function
invariant-loop-function l = FunctionsLeft l.functions l.function-index l.weight
