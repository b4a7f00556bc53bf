use Rattle.cyc_sizes.proofs.TokensCounted.{GlobalsLeft}
use Rattle.cyc_sizes.proofs.weights.globals_weight.Given as goal

abbrev pub invariant-loop-global : goal.invariant-loop-global
invariant-loop-global l = GlobalsLeft l.globals l.global-index l.weight
