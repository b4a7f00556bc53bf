-- The call depth.
use Rattle.cyc_meaning.proofs.RunLaws.{start_calls, step_calls}
use Rattle.cyc_meaning.proofs.laws.calls_are_counted.Goals as goal

pub returns-clause-starts : goal.returns-clause-starts
returns-clause-starts c = start_calls

pub returns-clause-steps : goal.returns-clause-steps
returns-clause-steps c = step_calls
