use Rattle.std.proofs.Common.{◌∙◌, ap}
use Rattle.cyc_propagation.specs.declared.fact.Touched.{Touched}
use Rattle.cyc_propagation.specs.declared.fact.Written.{Written}
use Rattle.cyc_propagation.specs.inside.Facts.{kept}
use Rattle.cyc_propagation.proofs.effects.leave_others.Goals as goal

pub returns : goal.returns
returns c =
    let a = c.args in
    c.keep.ensures
    ∙ ap (λ (w : Written). kept w c.touched_by.result a.facts.now) c.one.ensures
    ∙ ap (λ (t : Touched). kept (record { first = a.destination; count = 1 }) t a.facts.now) c.touched_by.ensures
