use Rattle.cyc_machine_model.proofs.RunLaws.{Run-over, over-end_of}
use Rattle.cyc_machine_model.proofs.laws.ended_stays.Goals as goal

pub returns : goal.returns
returns c count old new end ended run = Run-over count old new end (over-end_of old end ended) run
