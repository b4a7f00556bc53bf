-- This file proves the law that a call is refused for lack of pages exactly if it would need more pages than the store has.
use Rattle.cyc_store.proofs.ServiceLemmas.{full-past, fits, demand-served}
use Rattle.cyc_store.proofs.laws.full_goes_by_demand.Goals as goal

pub returns-clause-full : goal.returns-clause-full
returns-clause-full c = full-past

pub returns-clause-fits : goal.returns-clause-fits
returns-clause-fits c = fits

pub returns-clause-choices : goal.returns-clause-choices
returns-clause-choices c = demand-served
