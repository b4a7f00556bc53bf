use Rattle.std.proofs.Common.{◌++◌, ◌∙◌, ap}
use Rattle.cyc_registers.specs.declared.home.Home.{Home}
use Rattle.cyc_select.specs.inside.Slots.{reload, arrivals}
use Rattle.cyc_select.specs.inside.Selection.{ordinary}
use Rattle.cyc_select.proofs.emission.Emitting.{arrived_next}
use Rattle.cyc_select.proofs.emitter.Emitter.arrivals.Goals as goal

pub loop-slot-preserved : goal.loop-slot-preserved
loop-slot-preserved c =
    arrived_next c.args.frame.now c.loop-slot.slot (c.args.self.now.lines.items ++ ordinary (arrivals c.args.frame.now))
    c.loop-slot.self.lines.items c.reload.new.self.lines.items
    (c.in_ok-reload.ensures ∙ ap (λ (h : Home). c.loop-slot.self.lines.items ++ ordinary (reload c.args.frame.now h c.loop-slot.slot)) c.home_arriving.ensures) c.loop-slot.invariant
