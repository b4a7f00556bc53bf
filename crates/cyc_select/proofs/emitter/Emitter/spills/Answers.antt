use Rattle.std.proofs.Common.{◌++◌}
use Rattle.cyc_select.specs.inside.Slots.{coming}
use Rattle.cyc_select.specs.inside.Passing.{spills}
use Rattle.cyc_select.specs.inside.Selection.{ordinary}
use Rattle.cyc_select.proofs.emission.Emitting.{spilled_next}
use Rattle.cyc_select.proofs.emitter.Emitter.spills.Goals as goal

pub loop-slot-preserved : goal.loop-slot-preserved
loop-slot-preserved c =
    spilled_next c.args.caller.now (coming c.args.callee.now) c.args.source c.args.count c.loop-slot.slot
    (c.args.self.now.lines.items ++ ordinary (spills c.args.caller.now (coming c.args.callee.now) c.args.source 0 c.args.count))
    c.loop-slot.self.lines.items c.spill.new.self.lines.items c.loop-slot-test.true c.in_ok-spill.ensures c.loop-slot.invariant
