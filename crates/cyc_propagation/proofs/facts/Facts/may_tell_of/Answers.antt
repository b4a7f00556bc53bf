use Rattle.std.proofs.Common.{bit_and, nat_eq}
use Rattle.std.proofs.lemmas.Bool.{eqb-true, not-false}
use Rattle.cyc_propagation.proofs.About.{stays_computed}
use Rattle.cyc_propagation.proofs.facts.Facts.may_tell_of.Goals as goal

pub returns-in-Slot : goal.returns-in-Slot
returns-in-Slot c apart operator destination right =
    let slots = c.self.inside.slots in
    let bit = c.bit_of.result in
    let none = eqb-true (bit_and slots bit) 0 (not-false (nat_eq (bit_and slots bit) 0) apart) in
    rw c.in-Slot.is
    (rw (← c.self.view_is) (stays_computed slots bit c.in-Slot.number none c.bit_of.ensures operator destination right c.self.inside.facts.items c.self.invariant.1))
