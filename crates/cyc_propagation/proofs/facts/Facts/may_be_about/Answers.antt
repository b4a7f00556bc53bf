use Rattle.std.proofs.Common.{bit_and, nat_eq}
use Rattle.std.proofs.lemmas.Bool.{eqb-true, not-false}
use Rattle.cyc_propagation.proofs.About.{all_kept, not_known}
use Rattle.cyc_propagation.proofs.facts.Facts.may_be_about.Goals as goal

pub returns-clause-kept : goal.returns-clause-kept
returns-clause-kept c apart =
    let slots = c.self.inside.slots in
    let bit = c.bit_of.result in
    let none = eqb-true (bit_and slots bit) 0 (not-false (nat_eq (bit_and slots bit) 0) apart) in
    rw (← c.self.view_is) (all_kept slots bit c.args.slot none c.bit_of.ensures c.self.inside.facts.items c.self.invariant.1)

pub returns-clause-unknown : goal.returns-clause-unknown
returns-clause-unknown c apart operand =
    let slots = c.self.inside.slots in
    let bit = c.bit_of.result in
    let none = eqb-true (bit_and slots bit) 0 (not-false (nat_eq (bit_and slots bit) 0) apart) in
    rw (← c.self.view_is) (not_known slots bit c.args.slot none c.bit_of.ensures operand c.self.inside.facts.items c.self.invariant.1)
