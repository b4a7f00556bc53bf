use Rattle.cyc_resuming.proofs.Together.{join_rows}
use Rattle.cyc_resuming.proofs.laws.rows_join.Goals as goal

pub returns : goal.returns
returns c = join_rows
