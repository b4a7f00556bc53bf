-- The proof of the law that a slot contains the word last written or copied to it.
use Rattle.cyc_plain.proofs.SlotLaws.{put-same, put-other, copied-inside, copied-below, copied-above}
use Rattle.cyc_plain.proofs.laws.slots_hold.Goals as goal

pub returns-clause-same : goal.returns-clause-same
returns-clause-same c = put-same

pub returns-clause-other : goal.returns-clause-other
returns-clause-other c = put-other

pub returns-clause-inside : goal.returns-clause-inside
returns-clause-inside c = copied-inside

pub returns-clause-below : goal.returns-clause-below
returns-clause-below c = copied-below

pub returns-clause-above : goal.returns-clause-above
returns-clause-above c = copied-above
