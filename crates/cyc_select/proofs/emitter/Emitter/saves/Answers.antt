use Rattle.std.proofs.Common.{◌<◌, ◌++◌, ◌∷◌, [], ◌∙◌, ap, arith}
use Rattle.cyc_isa.specs.declared.instr.Instr.{Instr}
use Rattle.cyc_frame.specs.inside.Frame.{Frame}
use Rattle.cyc_select.specs.inside.Slots.{saves}
use Rattle.cyc_select.specs.inside.Selection.{ordinary}
use Rattle.cyc_select.proofs.emission.Emitting.{saves_next}
use Rattle.cyc_select.proofs.emitter.Emitter.saves.Goals as goal

pub loop-number-preserved : goal.loop-number-preserved
loop-number-preserved c =
    let below : c.loop-number.number < c.args.frame.now.saved = omega (arith, c.loop-number-test.true, ap (λ (f : Frame). f.saved) c.frame.view_is) in
    saves_next c.args.frame.now c.loop-number.number (c.args.self.now.lines.items ++ ordinary (saves c.args.frame.now))
    c.loop-number.self.lines.items c.ordinary.new.self.lines.items below
    (c.in_ok-ordinary.ensures ∙ ap (λ (i : Instr). c.loop-number.self.lines.items ++ ordinary (i ∷ [])) c.save.ensures) c.loop-number.invariant
