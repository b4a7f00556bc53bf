use Rattle.std.proofs.Common.{arith}
use Rattle.std.specs.Prelude.{bit_or}
use Rattle.cyc_flow.proofs.Sets.{changed_all}
use Rattle.cyc_flow.proofs.touched.either_each.Goals as goal

pub returns : goal.returns
returns c = changed_all bit_or c.loop-i.one.items _ c.args.other.now c.loop-i.i c.min-count.result (omega arith) (omega (arith, c.min-count.ensures, c.loop-i.invariant.0)) c.loop-i.invariant.1
