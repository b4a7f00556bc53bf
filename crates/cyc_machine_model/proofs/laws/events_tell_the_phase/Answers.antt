use Rattle.cyc_machine_model.proofs.PhaseLaws.{Step-phase}
use Rattle.cyc_machine_model.proofs.laws.events_tell_the_phase.Goals as goal

pub returns : goal.returns
returns c old new event step = Step-phase old event new step
