use Rattle.std.proofs.Common.{take}
use Rattle.cyc_propagation.specs.inside.Copies.{AreAbout}
use Rattle.cyc_propagation.proofs.facts.slots_in.Given as goal

-- Loop invariant: the bit mask contains each slot that occurs in the facts visited so far.
abbrev pub invariant-loop-fact : goal.invariant-loop-fact
invariant-loop-fact l = AreAbout l.slots (take l.fact-index l.facts)
