use Rattle.cyc_system.proofs.CompiledRuns.{compiled_runs}
use Rattle.cyc_system.proofs.laws.compiled_programs_run.Goals as goal

pub returns-clause-anew : goal.returns-clause-anew
returns-clause-anew c = λ text p file compiled. compiled_runs p file

pub returns-clause-over_a_store : goal.returns-clause-over_a_store
returns-clause-over_a_store c = λ text p file compiled is limits input allowed bytes grows store new_store budget old new result tells answers.
    compiled_runs p file is limits input allowed bytes grows budget old new result tells (store, new_store, answers)
