-- Proves the law on the demand, which is the number of pages of the store in use.
use Rattle.cyc_meaning.proofs.DemandLaws.{demand_changes}
use Rattle.cyc_meaning.proofs.laws.demand_is_counted.Goals as goal

pub returns : goal.returns
returns c = demand_changes
