use Rattle.cyc_flow.proofs.Tables.{lacks_more}
use Rattle.cyc_flow.proofs.table.cover_each.Goals as goal

pub loop-i-preserved : goal.loop-i-preserved
loop-i-preserved c = lacks_more c.args.one.now c.args.other.now c.loop-i.missing c.loop-i.i c.missing-missing.result c.missing-missing.ensures c.loop-i.invariant
