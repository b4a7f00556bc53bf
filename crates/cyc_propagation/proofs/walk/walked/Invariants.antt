use Rattle.std.proofs.Common.{◌≡◌, ◌≤◌, length}
use Rattle.std.specs.Vec.{vec_len, vec_capacity}
use Rattle.cyc_plain.specs.inside.Program.{routine_of}
use Rattle.cyc_propagation.specs.inside.Entries.{AreWalked}
use Rattle.cyc_propagation.proofs.walk.walked.Given as goal

-- Loop invariant: the instructions visited so far are checked and simplified, and the list has capacity for the remaining ones.
abbrev pub invariant-loop-index : goal.invariant-loop-index
invariant-loop-index l =
    AreWalked l.plain (routine_of l.function) l.pinned l.entries.items l.index l.code.items l.facts
    × (vec_len l.code ≡ l.index) × (length l.function.code.items ≤ vec_capacity l.code)
