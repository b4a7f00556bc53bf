use Rattle.cyc_machine_model.proofs.RegisterLaws.{register-with_register_same, register-with_register_other}
use Rattle.cyc_machine_model.proofs.laws.registers_hold.Goals as goal

pub returns-clause-same : goal.returns-clause-same
returns-clause-same c = register-with_register_same

pub returns-clause-other : goal.returns-clause-other
returns-clause-other c = register-with_register_other
