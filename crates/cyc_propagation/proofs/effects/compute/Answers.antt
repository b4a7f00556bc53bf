use Rattle.std.proofs.Common.{◌≡◌, ◌∙◌, ap, subst}
use Rattle.std.specs.Prelude.{List, OnOk}
use Rattle.cyc_propagation.specs.declared.fact.Fact.{Fact}
use Rattle.cyc_propagation.specs.inside.Facts.{computed, truth_of, remembered}
use Rattle.cyc_propagation.proofs.effects.compute.Goals as goal

pub returns : goal.returns
returns c =
    let a = c.args in
    let truth =
    c.in_ok-remember_truth.ensures
    ∙ ap (λ (facts : List Fact). remembered facts (truth_of a.pinned.now a.operator a.destination)) c.leave_others.ensures in
    subst (λ (facts : List Fact). OnOk c.remember_result.result (c.remember_result.new.facts ≡ remembered facts (computed a.pinned.now a.operator a.destination a.left a.right))) truth
    c.remember_result.ensures
