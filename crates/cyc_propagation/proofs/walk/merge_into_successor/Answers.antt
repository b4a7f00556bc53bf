-- cyc_propagation/proofs/walk/merge_into_successor/Answers.antt
use Rattle.std.proofs.Common.{◌≡◌, ◌∙◌, ◌+◌, sym, subst, true}
use Rattle.std.specs.Prelude.{List}
use Rattle.cyc_propagation.specs.declared.entry.Entry.{Entry}
use Rattle.cyc_propagation.specs.declared.fact.Fact.{Fact}
use Rattle.cyc_propagation.specs.inside.Entries as entries_of
use Rattle.cyc_propagation.specs.inside.Table as table
use Rattle.cyc_propagation.proofs.Narrowed.{narrowed_again, jumps_narrowed}
use Rattle.cyc_propagation.proofs.Walks.{is_checked}
use Rattle.cyc_propagation.proofs.walk.merge_into_successor.Goals as goal

pub returns-clause-narrowed : goal.returns-clause-narrowed
returns-clause-narrowed c is_right = narrowed_again c.args.index _ _ _ c.in_ok-merge_target.ensures.narrowed c.in_ok-continue_after.ensures.narrowed

pub returns-clause-checked : goal.returns-clause-checked
returns-clause-checked c is_right =
    let a = c.args in
    let pinned = a.setting.now.pinned.now in
    let led = c.merge_target.new.entries.items in
    let come = c.continue_after.new.entries.items in
    let jumps : entries_of.jumps_well pinned (entries_of.entry_in led) a.facts.now a.instruction a.index ≡ true =
    subst (λ (facts : List Fact). entries_of.jumps_well pinned (entries_of.entry_in led) facts a.instruction a.index ≡ true) c.all.ensures
    (c.in_ok-merge_target.ensures.right c.if-not-branch.false) in
    let suited : table.is_entry_suited pinned (entries_of.entry_in come (a.index + 1)) ≡ true =
    subst (λ (entries : List Entry). table.is_entry_suited pinned (entries_of.entry_in entries (a.index + 1)) ≡ true) c.deref.ensures.value
    (sym c.is_entry_suited.ensures ∙ c.if-not-is_entry_suited.false) in
    let goes : entries_of.goes_well (entries_of.entry_in come) (table.after_put a.setting.now.plain.now pinned a.facts.now a.instruction a.index) a.instruction a.index ≡ true =
    subst (λ (facts : List Fact). entries_of.goes_well (entries_of.entry_in come) facts a.instruction a.index ≡ true) (c.all-2.ensures ∙ c.in_ok-come_after.ensures)
    (c.in_ok-continue_after.ensures.right c.if-not-branch-2.false) in
    is_checked a.setting.now.plain.now pinned (entries_of.entry_in come) a.facts.now a.instruction a.index
    (jumps_narrowed a.setting.now.plain.now pinned (entries_of.entry_in led) (entries_of.entry_in come) a.index c.in_ok-continue_after.ensures.narrowed a.facts.now a.instruction a.index jumps)
    suited goes
