use Rattle.std.proofs.Common.{◌++◌}
use Rattle.cyc_select.specs.inside.Selection.{ordinary, moves}
use Rattle.cyc_select.proofs.emission.Emitting.{moved_next}
use Rattle.cyc_select.proofs.emitter.Emitter.move_each.Goals as goal

pub loop-word-preserved : goal.loop-word-preserved
loop-word-preserved c =
    moved_next c.args.frame.now c.args.destination c.args.source c.args.count c.loop-word.word
    (c.args.self.now.lines.items ++ ordinary (moves c.args.frame.now c.args.destination c.args.source c.args.count))
    c.loop-word.self.lines.items c.copy.new.self.lines.items c.loop-word-test.true c.in_ok-copy.ensures c.loop-word.invariant
