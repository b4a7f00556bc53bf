-- The cost of a run is unique.
use Rattle.cyc_bound.proofs.RoundLemmas.{one_cost}
use Rattle.cyc_bound.proofs.laws.costs_are_one.Goals as goal

pub returns : goal.returns
returns c = λ program m cost other is same. one_cost program m cost other is same
