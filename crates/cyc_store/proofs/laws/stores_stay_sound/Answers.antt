-- Stores stay sound.
use Rattle.cyc_store.proofs.ServiceLemmas.{start-sound, served-sound, serves-sound, saved-sound, run-sound}
use Rattle.cyc_store.proofs.laws.stores_stay_sound.Goals as goal

pub returns-clause-starts : goal.returns-clause-starts
returns-clause-starts c = start-sound

pub returns-clause-served : goal.returns-clause-served
returns-clause-served c = served-sound

pub returns-clause-serves : goal.returns-clause-serves
returns-clause-serves c = serves-sound

pub returns-clause-saved : goal.returns-clause-saved
returns-clause-saved c = saved-sound

pub returns-clause-runs : goal.returns-clause-runs
returns-clause-runs c = run-sound
