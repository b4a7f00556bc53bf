use Rattle.cyc_propagation.specs.inside.Room.{slots_in, AreSparedFirst}
use Rattle.cyc_propagation.proofs.room.sparing.Given as goal

-- Loop invariant: the instructions visited so far are checked, and the redundant checks for stack space among them are dropped.
abbrev pub invariant-loop-index : goal.invariant-loop-index
invariant-loop-index l = AreSparedFirst (slots_in l.plain) l.code l.rooms l.index l.spared.items
