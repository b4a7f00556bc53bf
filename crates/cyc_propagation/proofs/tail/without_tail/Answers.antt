use Rattle.std.proofs.Common.{arith}
use Rattle.std.proofs.lemmas.Option.{slice_get-get_or}
use Rattle.cyc_propagation.proofs.Tails.{none_tailless, next_tailless, all_tailless}
use Rattle.cyc_propagation.proofs.tail.without_tail.Goals as goal

pub loop-index-init : goal.loop-index-init
loop-index-init c = grind (arith, none_tailless)

pub loop-index-preserved : goal.loop-index-preserved
loop-index-preserved c =
    let at = slice_get-get_or c.args.code.now c.loop-index.index _ c.loop-index-test.true in
    next_tailless c.args.code.now c.last_place-last.result c.loop-index.index c.loop-index.made.items c.push.new.self.items _ c.tailless_instruction.result
    c.loop-index.invariant at c.tailless_instruction.ensures c.in_ok-push.ensures.items

pub returns : goal.returns
returns c =
    all_tailless c.args.code.now c.last_place-last.result c.loop-index.index c.loop-index.made.items c.last_place-last.ensures c.loop-index.invariant
    (omega (arith, c.loop-index.auto.index-end, c.loop-index-test.false))
