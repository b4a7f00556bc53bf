use Rattle.std.proofs.Common.{◌∙◌, ap}
use Rattle.cyc_propagation.specs.declared.fact.Touched.{Touched}
use Rattle.cyc_propagation.specs.declared.fact.Written.{Written}
use Rattle.cyc_propagation.specs.inside.Facts.{written, kept}
use Rattle.cyc_propagation.proofs.effects.leave.Goals as goal

pub returns : goal.returns
returns c =
    let a = c.args in
    c.keep.ensures
    ∙ ap (λ (w : Written). kept w c.touched.result a.facts.now) c.written.ensures
    ∙ ap (λ (t : Touched). kept (written a.plain.now a.instruction) t a.facts.now) c.touched.ensures
