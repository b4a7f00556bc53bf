use Rattle.std.proofs.Common.{arith}
use Rattle.cyc_flow.specs.inside.Tables.{emptied_marks}
use Rattle.cyc_flow.proofs.Sets.{changed_all}
use Rattle.cyc_flow.proofs.table.empty_each.Goals as goal

pub returns : goal.returns
returns c = changed_all emptied_marks c.loop-i.marks.items _ c.args.words.now c.loop-i.i c.min-count.result (omega arith) (omega (arith, c.min-count.ensures, c.loop-i.invariant.0)) c.loop-i.invariant.1
