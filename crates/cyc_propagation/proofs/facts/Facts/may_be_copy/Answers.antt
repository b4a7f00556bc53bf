use Rattle.std.proofs.Common.{bit_and, nat_eq}
use Rattle.std.proofs.lemmas.Bool.{eqb-true, not-false}
use Rattle.cyc_propagation.proofs.Keeping.{simplified_word}
use Rattle.cyc_propagation.proofs.Marked.{no_copy}
use Rattle.cyc_propagation.proofs.facts.Facts.may_be_copy.Goals as goal

pub returns-in-Slot : goal.returns-in-Slot
returns-in-Slot c apart =
    let copies = c.self.inside.copies in
    let bit = c.bit_of.result in
    let none = eqb-true (bit_and copies bit) 0 (not-false (nat_eq (bit_and copies bit) 0) apart) in
    rw c.in-Slot.is (rw (← c.self.view_is) (no_copy copies bit c.in-Slot.number none c.bit_of.ensures c.self.inside.facts.items c.self.invariant.0))

pub returns-in-Word : goal.returns-in-Word
returns-in-Word c same = rw c.in-Word.is (simplified_word c.args.self.now c.in-Word.word)
