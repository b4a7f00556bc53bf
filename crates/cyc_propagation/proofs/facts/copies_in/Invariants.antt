use Rattle.std.proofs.Common.{take}
use Rattle.cyc_propagation.specs.inside.Copies.{AreMarked}
use Rattle.cyc_propagation.proofs.facts.copies_in.Given as goal

-- Loop invariant: the bit mask contains each slot that a fact visited so far equates with another slot.
abbrev pub invariant-loop-fact : goal.invariant-loop-fact
invariant-loop-fact l = AreMarked l.copies (take l.fact-index l.facts)
