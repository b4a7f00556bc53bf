use Rattle.std.proofs.Common.{◌≡◌, ◌+◌, ◌∙◌, ap, subst}
use Rattle.std.specs.Prelude.{List, OnOk, Option}
use Rattle.cyc_propagation.specs.declared.fact.Fact.{Fact}
use Rattle.cyc_propagation.specs.inside.Facts.{made, tested, remembered, with_copies}
use Rattle.cyc_propagation.proofs.effects.go_on_otherwise.Goals as goal

pub returns : goal.returns
returns c =
    let a = c.args in
    let copies = c.in_ok-remember_copies.ensures ∙ ap (λ (facts : List Fact). with_copies a.pinned.now a.instruction facts) c.leave.ensures in
    let tests =
    c.in_ok-remember_test.ensures
    ∙ ap (λ (facts : List Fact). remembered facts (tested a.pinned.now a.instruction)) copies in
    subst (λ (facts : List Fact). OnOk c.remember.result (c.remember.new.self ≡ remembered facts (made a.pinned.now a.instruction a.index (a.index + 1)))) tests
    (subst (λ (one : Option Fact). OnOk c.remember.result (c.remember.new.self ≡ remembered c.remember_test.new.facts one)) c.made.ensures c.remember.ensures)
