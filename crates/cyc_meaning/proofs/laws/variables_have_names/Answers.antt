-- Proves the law that each live variable is a global or a local of an active call.
use Rattle.cyc_meaning.proofs.VariableRuns.{named_at, distinct_at, apart_at, again_at}
use Rattle.cyc_meaning.proofs.laws.variables_have_names.Goals as goal

pub returns-clause-named : goal.returns-clause-named
returns-clause-named c = named_at

pub returns-clause-distinct : goal.returns-clause-distinct
returns-clause-distinct c = distinct_at

pub returns-clause-apart : goal.returns-clause-apart
returns-clause-apart c = apart_at

pub returns-clause-again : goal.returns-clause-again
returns-clause-again c = again_at
