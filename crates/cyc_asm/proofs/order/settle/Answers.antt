use Rattle.std.proofs.Common.{List, length, sym, subst, ◌∙◌}
use Rattle.std.proofs.lemmas.Option.{slice_get-get_or}
use Rattle.cyc_select.specs.declared.code.Line.{Line}
use Rattle.cyc_asm.specs.inside.Slots.{AreNamed}
use Rattle.cyc_asm.specs.inside.Order.{tried}
use Rattle.cyc_asm.proofs.Arranging.{permutes_tried, still_named}
use Rattle.cyc_asm.proofs.Passed.{settled_passed, settled_filled}
use Rattle.cyc_asm.proofs.order.settle.Goals as goal

pub try_past-requires-2-clause-named : goal.try_past-requires-2-clause-named
try_past-requires-2-clause-named c =
    let code = c.args.lines.now in
    subst (λ (order : List Line). AreNamed order (length order) c.args.named.now) (sym c.try_past.ensures)
    (still_named code (tried code c.args.number 1) c.args.named.now (permutes_tried code c.args.number 1) c.requires.named)

pub returns-then-is_ordinary : goal.returns-then-is_ordinary
returns-then-is_ordinary c =
    let here = slice_get-get_or c.args.lines.now c.args.number c.index-lines-number.result c.requires.within in
    sym (settled_passed c.args.lines.now c.args.number _ here (sym c.is_ordinary.ensures ∙ c.if-is_ordinary.true))

pub returns-then-is_filled : goal.returns-then-is_filled
returns-then-is_filled c = sym (settled_filled c.args.lines.now c.args.number (sym c.is_filled.ensures ∙ c.if-is_filled.true))
