use Rattle.cyc_propagation.specs.inside.Pins.{AreFirstPins}
use Rattle.cyc_propagation.proofs.pins.pins_of.Given as goal

-- Loop invariant: for each slot visited so far, the list says correctly if the slot's address is taken.
abbrev pub invariant-loop-slot : goal.invariant-loop-slot
invariant-loop-slot l = AreFirstPins l.ranges.items l.slot l.pinned.items
