-- Output and input.
use Rattle.cyc_meaning.proofs.RunLaws.{steps_go_on, limited_steps_go_on}
use Rattle.cyc_meaning.proofs.laws.output_grows.Goals as goal

pub returns-clause-output : goal.returns-clause-output
returns-clause-output c = λ program count s. (steps_go_on program count s).0

pub returns-clause-input : goal.returns-clause-input
returns-clause-input c = λ program count s. (steps_go_on program count s).1

pub returns-clause-limited_output : goal.returns-clause-limited_output
returns-clause-limited_output c = λ program pages calls count s. (limited_steps_go_on program pages calls count s).0

pub returns-clause-limited_input : goal.returns-clause-limited_input
returns-clause-limited_input c = λ program pages calls count s. (limited_steps_go_on program pages calls count s).1
