-- cyc_propagation/proofs/walk/pass_on/Answers.antt
use Rattle.std.proofs.Common.{◌≡◌, ◌∙◌, true, List, subst}
use Rattle.cyc_propagation.specs.declared.entry.Entry.{Entry}
use Rattle.cyc_propagation.specs.declared.fact.Fact.{Fact}
use Rattle.cyc_propagation.specs.inside.Entries.{entry_in, is_straight}
use Rattle.cyc_propagation.proofs.Narrowed.{none_narrowed}
use Rattle.cyc_propagation.proofs.Straight.{straight_on, straight_checked}
use Rattle.cyc_propagation.proofs.walk.pass_on.Goals as goal

pub returns-then-is_straight-clause-narrowed : goal.returns-then-is_straight-clause-narrowed
returns-then-is_straight-clause-narrowed c is_right = none_narrowed c.args.index _

pub returns-then-is_straight-clause-checked : goal.returns-then-is_straight-clause-checked
returns-then-is_straight-clause-checked c is_right =
    let a = c.args in
    let straight =
    subst (λ (facts : List Fact). is_straight (entry_in a.entries.now.items) facts a.instruction a.index ≡ true) c.all.ensures
    (subst (λ (entries : List Entry). is_straight (entry_in entries) c.all.result.now a.instruction a.index ≡ true) c.deref.ensures.value
    (c.is_straight.ensures c.if-is_straight.true)) in
    straight_checked (entry_in a.entries.now.items) a.facts.now a.index a.setting.now.plain.now a.setting.now.pinned.now a.instruction straight

pub returns-then-is_straight-clause-facts : goal.returns-then-is_straight-clause-facts
returns-then-is_straight-clause-facts c is_right =
    let a = c.args in
    let straight =
    subst (λ (facts : List Fact). is_straight (entry_in a.entries.now.items) facts a.instruction a.index ≡ true) c.all.ensures
    (subst (λ (entries : List Entry). is_straight (entry_in entries) c.all.result.now a.instruction a.index ≡ true) c.deref.ensures.value
    (c.is_straight.ensures c.if-is_straight.true)) in
    c.in_ok-come_after.ensures ∙ straight_on (entry_in a.entries.now.items) a.facts.now a.index a.instruction straight _
