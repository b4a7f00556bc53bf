use Rattle.std.specs.Prelude.{◌≡◌, vec_len}
use Rattle.cyc_bound.proofs.function_costs.enough_costs.Given as goal

abbrev pub invariant-loop-round : goal.invariant-loop-round
invariant-loop-round l = vec_len l.costs ≡ vec_len l.tree.functions
