-- Proves the law that a run that is over stays as it is.
use Rattle.cyc_meaning.proofs.RunLaws.{over_stays, limited_over_stays}
use Rattle.cyc_meaning.proofs.laws.over_stays.Goals as goal

pub returns-clause-run : goal.returns-clause-run
returns-clause-run c = over_stays

pub returns-clause-limited : goal.returns-clause-limited
returns-clause-limited c = limited_over_stays
