use Rattle.std.proofs.Common.{◌<◌, length, arith}
use Rattle.cyc_scope.proofs.PlainLemmas.{ascend_from}
use Rattle.cyc_scope.proofs.plain.following_all.Goals as goal

pub loop-region-preserved : goal.loop-region-preserved
loop-region-preserved c n rest =
    let lt : c.loop-region.region-index < length c.args.regions.now = omega arith in
    c.loop-region.invariant n (ascend_from c.loop-region.known c.in_ok-known.known n c.args.regions.now c.loop-region.region-index _ lt c.in_ok-known.ensures rest)
