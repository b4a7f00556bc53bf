use Rattle.std.proofs.Common.{◌<◌, length, arith}
use Rattle.cyc_scope.proofs.PlainLemmas.{types_from}
use Rattle.cyc_scope.proofs.plain.after_types.Goals as goal

pub loop-of_type-preserved : goal.loop-of_type-preserved
loop-of_type-preserved c n rest =
    let lt : c.loop-of_type.of_type-index < length c.args.types.now = omega arith in
    c.loop-of_type.invariant n
    (types_from c.loop-of_type.known c.in_ok-known.known n c.args.types.now c.loop-of_type.of_type-index c.of_type-item.result lt c.of_type-item.is c.in_ok-known.ensures rest)
