-- The proof of the law that a run that has ended stays in its state.
use Rattle.cyc_plain.proofs.RunLaws.{ended_stays}
use Rattle.cyc_plain.proofs.laws.ended_stays.Goals as goal

pub returns : goal.returns
returns c = ended_stays
