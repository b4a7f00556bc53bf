use Rattle.std.proofs.Common.{sym, subst}
use Rattle.cyc_select.specs.inside.Labelled.{Labelled}
use Rattle.cyc_select.specs.inside.Selected.{IsCodeOf}
use Rattle.cyc_select.proofs.layout.Whole.{is_code_of}
use Rattle.cyc_select.proofs.selection.select.Goals as goal

pub returns-clause-selected : goal.returns-clause-selected
returns-clause-selected c =
    let program = c.args.plain.now in
    let made = c.in_ok-selected.ensures in
    subst (λ (code : Labelled). IsCodeOf program code) (sym made.code)
    (is_code_of program made.plain.well_formed made.plain.words c.args.frames.now c.requires)
