use Rattle.std.proofs.Common.{◌≡◌, ap, sym, subst, arith, length, List, Bool, Some, ◌<◌, ◌∙◌}
use Rattle.std.proofs.lemmas.Option.{slice_get-get_or}
use Rattle.cyc_plain.specs.inside.Program.{routine_of}
use Rattle.cyc_plain.specs.inside.Uses.{At}
use Rattle.cyc_registers.specs.inside.Idle.{AreIdle, LeadsOver}
use Rattle.cyc_registers.proofs.IdleCode.{length-with_place, one_more, over_idle}
use Rattle.cyc_registers.proofs.idle.idle_places.Goals as goal

pub loop-index-preserved : goal.loop-index-preserved
loop-index-preserved c =
    let loop = c.loop-index in
    let program = c.args.plain.now in
    let r = routine_of c.args.function.now in
    let homes = c.args.homes.now in
    let code = c.args.function.now.code.items in
    let flags = loop.idle.items in
    let i = c.index.result.now in
    let more = c.leads_over-is_more.result in
    let at : At r loop.index i = slice_get-get_or code loop.index i (omega (arith, c.loop-index-test.true, c.len-index-end.ensures)) ∙ ap Some (sym c.index.ensures) in
    let inside : loop.index < length flags = omega (arith, loop.invariant.1, c.loop-index-test.true, c.len-index-end.ensures) in
    subst (λ (l : List Bool). AreIdle program r homes l × (length l ≡ length code)) (sym c.say.ensures) (
      one_more program r homes flags loop.invariant.0 loop.index inside more i at
          (λ is. over_idle program r homes flags loop.index i (subst (λ (l : List Bool). LeadsOver l loop.index i) c.deref.ensures.value (c.leads_over-is_more.ensures is))),
      length-with_place flags loop.index more ∙ loop.invariant.1,
    )
