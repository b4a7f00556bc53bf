use Rattle.std.proofs.Common.{ℕ, ◌<◌}
use Rattle.cyc_propagation.specs.inside.Entries.{AreNarrowed, entry_in}
use Rattle.cyc_propagation.proofs.entry.adopt.Given as goal

-- Loop invariant: the facts recorded for the code positions before `first` are unchanged.
abbrev pub invariant-loop-place : goal.invariant-loop-place
invariant-loop-place l =
    (index : ℕ) → index < l.first → AreNarrowed index (entry_in l.initial.entries.items) (entry_in l.entries.items)
