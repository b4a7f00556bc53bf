use Rattle.std.proofs.Common.{◌%◌}
use Rattle.cyc_words.proofs.Bits.{bit_right}
use Rattle.cyc_propagation.proofs.Marked.{more_stay}
use Rattle.cyc_propagation.proofs.facts.with_copy.Goals as goal

pub returns-in-Slot-clause-more : goal.returns-in-Slot-clause-more
returns-in-Slot-clause-more c other is = more_stay c.args.copies c.bit_of.result other is

pub returns-in-Slot-clause-has : goal.returns-in-Slot-clause-has
returns-in-Slot-clause-has c = rw c.in-Equal.is (rw c.in-Slot.is (bit_right c.args.copies c.bit_of.result (c.in-Equal.slot % 64) c.bit_of.ensures))
