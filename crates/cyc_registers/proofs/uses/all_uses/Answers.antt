use Rattle.std.proofs.Common.{◌≡◌, ◌+◌, ◌++◌, ◌∷◌, [], Some, length, ap, sym, subst, ◌∙◌, arith}
use Rattle.std.proofs.lemmas.Option.{slice_get-get_or, slice_get_within}
use Rattle.cyc_plain.specs.inside.Program.{routine_of}
use Rattle.cyc_registers.specs.declared.uses.Uses.{Uses}
use Rattle.cyc_registers.proofs.UsesTable.{AreFirstUses, more_uses}
use Rattle.cyc_registers.proofs.uses.all_uses.Goals as goal

pub loop-index-preserved : goal.loop-index-preserved
loop-index-preserved c =
    let loop = c.loop-index in
    let program = c.args.plain.now in
    let r = routine_of c.args.function.now in
    let masks = c.args.masks.now in
    let code = c.args.function.now.code.items in
    subst (AreFirstUses program r masks (loop.index + 1)) (sym c.in_ok-push.ensures.items)
    (subst (λ (u : Uses). AreFirstUses program r masks (loop.index + 1) (loop.uses.items ++ u ∷ [])) (sym c.uses_of.ensures)
    (more_uses program r masks loop.index loop.uses.items c.index.result.now loop.invariant
    (slice_get-get_or code loop.index c.index.result.now (omega (arith, c.loop-index-test.true, c.len-index-end.ensures)) ∙ ap Some (sym c.index.ensures))))

pub returns-clause-uses : goal.returns-clause-uses
returns-clause-uses c = λ index i at.
    let loop = c.loop-index in
    let code = c.args.function.now.code.items in
    let all : loop.index ≡ length code = omega (arith, c.loop-index-test.false, loop.auto.index-end, c.len-index-end.ensures) in
    loop.invariant.1 index i at (omega (arith, all, slice_get_within code index i at))
