use Rattle.std.proofs.Common.{◌∙◌, List, subst, sym}
use Rattle.cyc_propagation.specs.declared.fact.Fact.{Fact}
use Rattle.cyc_propagation.specs.inside.Copies.{AreAbout}
use Rattle.cyc_propagation.proofs.About.{kept_about}
use Rattle.cyc_propagation.proofs.Keeping.{nothing_changed}
use Rattle.cyc_propagation.proofs.Marked.{kept_marked}
use Rattle.cyc_propagation.proofs.facts.Facts.keep.Goals as goal

pub invariant_of-self : goal.invariant_of-self
invariant_of-self c =
    let old = c.self.inside in (
      rw c.keep.ensures (kept_marked old.copies c.args.slots c.args.touched old.facts.items c.self.invariant.0),
      subst (λ (facts : List Fact). AreAbout c.slots_after-self-inside.result facts) c.deref.ensures.value
          (c.slots_after-self-inside.ensures
          (subst (λ (facts : List Fact). AreAbout old.slots facts) (sym (c.deref.ensures.value ∙ c.keep.ensures))
          (kept_about old.slots c.args.slots c.args.touched old.facts.items c.self.invariant.1))),
    )

pub returns-then-changes_nothing : goal.returns-then-changes_nothing
returns-then-changes_nothing c = sym (nothing_changed c.args.slots c.args.touched _ (sym c.changes_nothing.ensures ∙ c.if-changes_nothing.true))
