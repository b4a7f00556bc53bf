use Rattle.cyc_propagation.proofs.About.{all_about, about_stay, remembered_about}
use Rattle.cyc_propagation.proofs.Marked.{all_marked, copies_stay, remembered_marked}
use Rattle.cyc_propagation.proofs.facts.Facts.add.Goals as goal

pub invariant_of-self : goal.invariant_of-self
invariant_of-self c = (all_marked c.remember.new.facts.items, all_about c.remember.new.facts.items)

pub invariant_of-self-2 : goal.invariant_of-self-2
invariant_of-self-2 c =
    let old = c.self.inside in
    let copies = c.with_copy-copies.result in
    let slots = c.with_slots-slots.result in (
      rw c.in_ok-remember.ensures
          (remembered_marked copies old.facts.items c.args.fact (copies_stay old.copies copies c.with_copy-copies.ensures.more old.facts.items c.self.invariant.0) c.with_copy-copies.ensures.has),
      rw c.in_ok-remember.ensures
          (remembered_about slots old.facts.items c.args.fact (about_stay old.slots slots c.with_slots-slots.ensures.more old.facts.items c.self.invariant.1) c.with_slots-slots.ensures.has),
    )
