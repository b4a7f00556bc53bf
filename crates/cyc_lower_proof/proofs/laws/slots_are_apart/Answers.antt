-- Slots of locals.
use Rattle.cyc_lower_proof.proofs.slots.Slots.{slot-below, locals-apart, slot-following, slot-append, slot-number}
use Rattle.cyc_lower_proof.proofs.laws.slots_are_apart.Goals as goal

pub returns-clause-below : goal.returns-clause-below
returns-clause-below c = slot-below

pub returns-clause-apart : goal.returns-clause-apart
returns-clause-apart c = locals-apart

pub returns-clause-all : goal.returns-clause-all
returns-clause-all c = slot-following

pub returns-clause-following : goal.returns-clause-following
returns-clause-following c = slot-append

pub returns-clause-one : goal.returns-clause-one
returns-clause-one c = slot-number
