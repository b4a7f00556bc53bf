use Rattle.cyc_machine_model.proofs.RunLaws.{run_after_run, run_in_parts}
use Rattle.cyc_machine_model.proofs.laws.runs_compose.Goals as goal

pub returns-clause-joined : goal.returns-clause-joined
returns-clause-joined c = run_after_run

pub returns-clause-split : goal.returns-clause-split
returns-clause-split c = run_in_parts
