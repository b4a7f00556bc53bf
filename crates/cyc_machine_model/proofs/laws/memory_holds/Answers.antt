use Rattle.cyc_machine_model.proofs.MemoryLaws.{loaded-stored_globals, loaded-stored_stack, loaded-stored_store, loaded-stored_other, place_of-stored}
use Rattle.cyc_machine_model.proofs.laws.memory_holds.Goals as goal

pub returns-clause-globals : goal.returns-clause-globals
returns-clause-globals c = loaded-stored_globals

pub returns-clause-stack : goal.returns-clause-stack
returns-clause-stack c = loaded-stored_stack

pub returns-clause-store : goal.returns-clause-store
returns-clause-store c = loaded-stored_store

pub returns-clause-other : goal.returns-clause-other
returns-clause-other c = loaded-stored_other

pub returns-clause-places : goal.returns-clause-places
returns-clause-places c = place_of-stored
