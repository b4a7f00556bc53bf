use Rattle.std.proofs.Common.{◌≤◌, max, sym, subst}
use Rattle.std.specs.Prelude.{sum_by}
use Rattle.cyc_plain.specs.inside.Program.{Program, size}
use Rattle.cyc_inline.specs.inside.Changes.{AreReported, notes_of}
use Rattle.cyc_inline.specs.inside.Inlined.{IsInlined}
use Rattle.cyc_inline.proofs.EmissionPrograms.{whole_plain, whole_inlined, whole_small, whole_reported}
use Rattle.cyc_inline.proofs.inlining.remake.Goals as goal

pub new-requires : goal.new-requires
new-requires c =
    let parts = c.into_parts-parts.result in
    let made = c.in_ok-replaced.replaced in
    whole_plain c.args.plain c.args.room parts.functions.items made.functions.items c.in_ok-changes.changes.items made.opened.items parts.globals.items parts.main
    c.into_parts-parts.ensures.plain c.into_parts-parts.ensures.value c.in_ok-changes.ensures.as_many c.in_ok-changes.ensures.made
    c.in_ok-replaced.ensures.functions c.in_ok-replaced.ensures.opened

pub returns-clause-inlined : goal.returns-clause-inlined
returns-clause-inlined c =
    let parts = c.into_parts-parts.result in
    let made = c.in_ok-replaced.replaced in
    subst (IsInlined c.args.plain) (sym c.new.ensures)
    (whole_inlined c.args.plain c.args.room parts.functions.items made.functions.items c.in_ok-changes.changes.items made.opened.items parts.globals.items parts.main
    c.into_parts-parts.ensures.plain c.into_parts-parts.ensures.value c.in_ok-changes.ensures.as_many c.in_ok-changes.ensures.made
    c.in_ok-replaced.ensures.functions c.in_ok-replaced.ensures.opened)

pub returns-clause-size : goal.returns-clause-size
returns-clause-size c =
    let parts = c.into_parts-parts.result in
    let made = c.in_ok-replaced.replaced in
    subst (λ (made : Program). sum_by size made.functions ≤ max (sum_by size c.args.plain.functions) c.args.room) (sym c.new.ensures)
    (whole_small c.args.plain c.args.room parts.functions.items made.functions.items c.in_ok-changes.changes.items made.opened.items parts.globals.items parts.main
    c.into_parts-parts.ensures.plain c.into_parts-parts.ensures.value c.in_ok-changes.ensures.as_many c.in_ok-changes.ensures.made
    c.in_ok-replaced.ensures.functions c.in_ok-replaced.ensures.opened)

pub returns-clause-reported : goal.returns-clause-reported
returns-clause-reported c =
    let parts = c.into_parts-parts.result in
    let made = c.in_ok-replaced.replaced in
    subst (λ (made : Program). AreReported c.args.plain made (notes_of c.in_ok-replaced.replaced.opened.items)) (sym c.new.ensures)
    (whole_reported c.args.plain c.args.room parts.functions.items made.functions.items c.in_ok-changes.changes.items made.opened.items parts.globals.items parts.main
    c.into_parts-parts.ensures.plain c.into_parts-parts.ensures.value c.in_ok-changes.ensures.as_many c.in_ok-changes.ensures.made
    c.in_ok-replaced.ensures.functions c.in_ok-replaced.ensures.opened)
