-- The proof of the law that runs of straight-line code reach the configuration that the code determines.
use Rattle.cyc_plain.proofs.Straight.{runs, following-distinct}
use Rattle.cyc_plain.proofs.laws.straight_code_runs.Goals as goal

pub returns-clause-runs : goal.returns-clause-runs
returns-clause-runs c = runs

pub returns-clause-distinct : goal.returns-clause-distinct
returns-clause-distinct c = following-distinct
