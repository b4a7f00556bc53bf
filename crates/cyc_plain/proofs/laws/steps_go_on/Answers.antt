-- The proof of the law that a step exists in each state, except at some calls and requests.
use Rattle.cyc_plain.proofs.RunLaws.{goes_on, goes_on_called, goes_on_refused}
use Rattle.cyc_plain.proofs.laws.steps_go_on.Goals as goal

pub returns-clause-free : goal.returns-clause-free
returns-clause-free c = goes_on

pub returns-clause-called : goal.returns-clause-called
returns-clause-called c = goes_on_called

pub returns-clause-refused : goal.returns-clause-refused
returns-clause-refused c = goes_on_refused
