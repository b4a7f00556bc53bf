use Rattle.cyc_machine_model.proofs.RunLaws.{Run-output, Run-input}
use Rattle.cyc_machine_model.proofs.laws.output_grows.Goals as goal

pub returns-clause-output : goal.returns-clause-output
returns-clause-output c = Run-output

pub returns-clause-input : goal.returns-clause-input
returns-clause-input c = Run-input
