use Rattle.std.proofs.Common.{List, length, sym, subst, ◌∙◌}
use Rattle.std.specs.Prelude.{All, Bool}
use Rattle.cyc_select.specs.inside.Labelled.{Fits, IsFormedLine}
use Rattle.cyc_select.specs.declared.code.Line.{Line}
use Rattle.cyc_asm.specs.inside.Slots.{AreNamed}
use Rattle.cyc_asm.specs.inside.Order.{arranged}
use Rattle.cyc_asm.proofs.Arranging.{permutes, still_named, still_formed, still_fits}
use Rattle.cyc_asm.proofs.origin.sources_of.Goals as goal

pub sources_in_order-requires-clause-formed : goal.sources_in_order-requires-clause-formed
sources_in_order-requires-clause-formed c =
    subst (λ (lines : List Line). All (IsFormedLine (length lines)) lines) (sym (c.deref-4.ensures.value ∙ c.in_ok-arranged.ensures))
    (still_formed c.args.lines.now c.requires.formed)

pub sources_in_order-requires-clause-fits : goal.sources_in_order-requires-clause-fits
sources_in_order-requires-clause-fits c =
    subst Fits (sym (c.deref-4.ensures.value ∙ c.in_ok-arranged.ensures)) (still_fits c.args.lines.now c.requires.fits)

pub sources_in_order-requires-clause-named : goal.sources_in_order-requires-clause-named
sources_in_order-requires-clause-named c =
    let code = c.args.lines.now in
    let named = c.in_ok-named.named.items in
    subst (λ (table : List Bool). AreNamed c.deref-4.result.now (length c.deref-4.result.now) table) (sym c.deref-5.ensures.value)
    (subst (λ (order : List Line). AreNamed order (length order) named) (sym (c.deref-4.ensures.value ∙ c.in_ok-arranged.ensures))
    (still_named code (arranged code) named (permutes code) c.in_ok-named.ensures))
