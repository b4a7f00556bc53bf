use Rattle.std.proofs.Common.{◌≡◌, List, length, ◌∙◌, sym, ap, subst}
use Rattle.std.specs.Prelude.{All}
use Rattle.cyc_select.specs.inside.Labelled.{Fits, IsFormedLine}
use Rattle.cyc_select.specs.declared.code.Line.{Line}
use Rattle.cyc_asm.specs.inside.Layout.{addresses_of}
use Rattle.cyc_asm.specs.inside.Order.{arranged}
use Rattle.cyc_asm.specs.inside.Text.{IsTextOf}
use Rattle.cyc_asm.specs.inside.Words.{assembled, words_in_order}
use Rattle.cyc_asm.proofs.Arranging.{runs, assembled_means}
use Rattle.cyc_asm.proofs.assembler.assemble.Goals as goal

pub words_of-requires-clause-formed : goal.words_of-requires-clause-formed
words_of-requires-clause-formed c =
    subst (λ (lines : List Line). All (IsFormedLine (length lines)) lines) (sym c.lines.ensures.value) c.lines.ensures.code.formed

pub words_of-requires-clause-fits : goal.words_of-requires-clause-fits
words_of-requires-clause-fits c = subst Fits (sym c.lines.ensures.value) c.lines.ensures.code.fits

pub returns-clause-means : goal.returns-clause-means
returns-clause-means c =
    let code = c.args.code.now in
    let words : c.in_ok-words_of.field-0.items ≡ assembled code =
    c.in_ok-words_of.ensures ∙ ap (λ (lines : List Line). words_in_order (arranged lines)) c.lines.ensures.value in
    subst (IsTextOf code (addresses_of code)) (sym words) (assembled_means code c.lines.ensures.code.formed c.lines.ensures.code.fits)

pub returns-clause-runs : goal.returns-clause-runs
returns-clause-runs c =
    let code = c.args.code.now in
    let words : c.in_ok-words_of.field-0.items ≡ assembled code =
    c.in_ok-words_of.ensures ∙ ap (λ (lines : List Line). words_in_order (arranged lines)) c.lines.ensures.value in
    runs code (addresses_of code) c.in_ok-words_of.field-0.items
    (subst (IsTextOf code (addresses_of code)) (sym words) (assembled_means code c.lines.ensures.code.formed c.lines.ensures.code.fits))
