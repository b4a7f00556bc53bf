use Rattle.std.proofs.Common.{ap, sym, subst, arith, List, ℕ, Some, ◌+◌, ◌∙◌}
use Rattle.std.proofs.lemmas.Option.{slice_get-get_or}
use Rattle.cyc_plain.specs.inside.Program.{routine_of}
use Rattle.cyc_registers.specs.inside.IdlePlaces.{is_idle}
use Rattle.cyc_registers.proofs.IdleCode.{AreFirstIdle, idle, more_idle}
use Rattle.cyc_registers.proofs.idle.idle_alone.Goals as goal

pub loop-index-preserved : goal.loop-index-preserved
loop-index-preserved c =
    let loop = c.loop-index in
    let r = routine_of c.args.function.now in
    let lives = c.args.lives.now in
    subst (AreFirstIdle c.args.plain.now r c.args.homes.now (loop.index + 1)) (sym c.in_ok-push.ensures.items)
    (more_idle c.args.plain.now r c.args.homes.now loop.index loop.idle.items c.is_idle.result c.index.result.now loop.invariant
    (slice_get-get_or c.args.function.now.code.items loop.index c.index.result.now (omega (arith, c.loop-index-test.true, c.len-index-end.ensures)) ∙ ap Some (sym c.index.ensures))
    (λ is. idle c.args.plain.now r c.args.masks.now lives.live.items lives.calls lives.clauses lives.barred c.requires.sound c.requires.numbered c.args.homes.now loop.idle.items loop.index c.index.result.now
    (ap (λ (live : List ℕ). is_idle c.args.masks.now live c.args.homes.now loop.index c.index.result.now) (sym c.deref.ensures.value) ∙ (sym c.is_idle.ensures ∙ is))))
