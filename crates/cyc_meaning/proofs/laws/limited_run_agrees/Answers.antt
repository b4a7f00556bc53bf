-- The limited run.
use Rattle.cyc_meaning.specs.Run.{start}
use Rattle.cyc_meaning.proofs.RunLaws.{limited_agrees, limited_until_full, limited_comes_to, limited_is_full, within_at_start, start_not_full, run_not_full}
use Rattle.cyc_meaning.proofs.laws.limited_run_agrees.Goals as goal

pub returns-clause-within : goal.returns-clause-within
returns-clause-within c = λ program pages calls count input within. limited_agrees program pages calls count (start program input) within

pub returns-clause-until : goal.returns-clause-until
returns-clause-until c = λ program pages calls count input other. limited_until_full program pages calls count (start program input) other

pub returns-clause-full : goal.returns-clause-full
returns-clause-full c = λ program pages calls last count input within past less. limited_is_full program pages calls last count (start program input) within past less

pub returns-clause-starts : goal.returns-clause-starts
returns-clause-starts c = within_at_start

pub returns-clause-unlimited : goal.returns-clause-unlimited
returns-clause-unlimited c = λ program input count. run_not_full program count (start program input) (start_not_full program input)

pub returns-clause-alike : goal.returns-clause-alike
returns-clause-alike c = λ program pages calls count input status other is. limited_comes_to program pages calls count (start program input) status other is
