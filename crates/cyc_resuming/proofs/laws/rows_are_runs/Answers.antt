use Rattle.cyc_resuming.proofs.Together.{rows_end, rows_spend}
use Rattle.cyc_resuming.proofs.laws.rows_are_runs.Goals as goal

pub returns-clause-ended : goal.returns-clause-ended
returns-clause-ended c = rows_end

pub returns-clause-spent : goal.returns-clause-spent
returns-clause-spent c = rows_spend
