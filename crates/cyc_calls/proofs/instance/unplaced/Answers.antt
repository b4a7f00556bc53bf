use Rattle.std.proofs.Common.{◌-◌, ◌≤◌, arith}
use Rattle.cyc_calls.proofs.Instances.{unplaced_more}
use Rattle.cyc_calls.proofs.instance.unplaced.Goals as goal

pub loop-left-preserved : goal.loop-left-preserved
loop-left-preserved c =
    let few : c.min-next.result ≤ 64 = omega arith in
    let within : c.min-next.result ≤ c.loop-left.left = omega arith in
    record {
      most = omega arith;
      filled = unplaced_more c.args.count c.loop-left.left c.min-next.result c.loop-left.table.items c.extend_from_slice.new.self.items
          few within c.loop-left.invariant.most c.loop-left.invariant.filled c.in_ok-extend_from_slice.ensures.ok;
    }
