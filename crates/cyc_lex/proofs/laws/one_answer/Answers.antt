use Rattle.cyc_lex.proofs.FaultLemmas.{accepted_once, refused_once, not_accepted_and_refused}
use Rattle.cyc_lex.proofs.laws.one_answer.Goals as goal

pub returns-clause-tokens : goal.returns-clause-tokens
returns-clause-tokens c = accepted_once

pub returns-clause-fault : goal.returns-clause-fault
returns-clause-fault c = refused_once

pub returns-clause-not_both : goal.returns-clause-not_both
returns-clause-not_both c = not_accepted_and_refused
