-- The law that each run has ended after as many steps as the bound states.
use Rattle.cyc_bound.proofs.CostRuns.{runs_end}
use Rattle.cyc_bound.proofs.laws.steps_end.Goals as goal

pub returns : goal.returns
returns c = λ program cost input count is less enough. runs_end program cost input count is less enough
