use Rattle.std.proofs.Common.{◌≡◌, ap, sym, subst, Some, ◌∙◌, arith}
use Rattle.std.proofs.Math.ListN.{get_or}
use Rattle.std.proofs.lemmas.Option.{get_or_from_slice_get, slice_get-get_or}
use Rattle.cyc_plain.specs.inside.Program.{routine_of}
use Rattle.cyc_registers.specs.declared.uses.Uses.{Uses}
use Rattle.cyc_registers.specs.inside.Masks.{uses_of}
use Rattle.cyc_registers.specs.inside.Sharing.{AreAlone, AreApart, AreApartAt}
use Rattle.cyc_registers.proofs.CheckedHomes.{more_meet}
use Rattle.cyc_registers.proofs.Meeting.{alone_after}
use Rattle.cyc_registers.proofs.sharing.never_meet.Goals as goal

pub loop-index-preserved : goal.loop-index-preserved
loop-index-preserved c =
    let loop = c.loop-index in
    let r = routine_of c.args.function.now in
    let live = c.args.live.now in
    let groups = c.args.groups.now in
    let instruction = c.index-instruction.result.now in
    let used : Uses = get_or c.args.uses.now loop.index (record { reads = 0; writes = 0; bars = 0 }) in
    let at =
    slice_get-get_or c.args.function.now.code.items loop.index instruction (omega (arith, c.loop-index-test.true, c.len-index-end.ensures)) ∙ ap Some (sym c.index-instruction.ensures) in
    let same : used ≡ uses_of c.args.plain.now r.results c.args.masks.now instruction =
    get_or_from_slice_get c.args.uses.now loop.index (uses_of c.args.plain.now r.results c.args.masks.now instruction) (record { reads = 0; writes = 0; bars = 0 })
    (c.requires.uses loop.index instruction at) in
    let alone = c.are_alone.ensures c.if-not-are_alone.false in
    let apart = c.are_apart.ensures c.if-not-are_apart.false in (
      more_meet c.args.plain.now r c.args.masks.now live groups loop.index instruction at
          (subst (λ (u : Uses). AreApartAt u live groups instruction loop.index) same
          (subst (AreAlone groups) c.standing_mask-standing.ensures alone, subst (AreApart groups used.writes) c.after_mask-following.ensures apart))
          loop.invariant.0,
      alone_after groups c.standing_mask-standing.result used.writes c.after_mask-following.result alone apart,
    )
