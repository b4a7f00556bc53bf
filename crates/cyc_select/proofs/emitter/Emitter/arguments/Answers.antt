use Rattle.std.proofs.Common.{◌++◌}
use Rattle.cyc_select.specs.inside.Slots.{coming}
use Rattle.cyc_select.specs.inside.Passing.{copies}
use Rattle.cyc_select.specs.inside.Selection.{ordinary}
use Rattle.cyc_select.proofs.emission.Emitting.{copied}
use Rattle.cyc_select.proofs.emitter.Emitter.arguments.Goals as goal

pub loop-slot-preserved : goal.loop-slot-preserved
loop-slot-preserved c =
    copied c.args.caller.now (coming c.args.callee.now) c.args.source c.loop-slot.slot c.args.count
    (c.args.self.now.lines.items ++ ordinary (copies c.args.caller.now (coming c.args.callee.now) c.args.source 0 c.args.count))
    c.loop-slot.self.lines.items c.argument.new.self.lines.items c.loop-slot-test.true c.in_ok-argument.ensures c.loop-slot.invariant
