use Rattle.std.proofs.Common.{arith}
use Rattle.cyc_flow.proofs.Tables.{met_all}
use Rattle.cyc_flow.proofs.table.meet_each.Goals as goal

pub returns : goal.returns
returns c = rw c.truncate.ensures.items (met_all c.loop-i.one.items c.args.other.now _ c.loop-i.i c.min-count.result (omega arith) (omega (arith, c.min-count.ensures, c.loop-i.invariant.0)) c.loop-i.invariant.1)
