-- Words are kept.
use Rattle.cyc_store.proofs.ServiceLemmas.{saved-same, saved-other, serves-words}
use Rattle.cyc_store.proofs.laws.words_hold.Goals as goal

pub returns-clause-same : goal.returns-clause-same
returns-clause-same c = saved-same

pub returns-clause-other : goal.returns-clause-other
returns-clause-other c = saved-other

pub returns-clause-serves : goal.returns-clause-serves
returns-clause-serves c = serves-words
