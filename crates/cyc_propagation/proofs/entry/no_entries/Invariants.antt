use Rattle.std.proofs.Common.{◌≡◌, ◌≤◌}
use Rattle.std.specs.Vec.{vec_len, vec_capacity}
use Rattle.cyc_propagation.proofs.entry.no_entries.Given as goal

-- Loop invariant: the list has one record of required facts for each code position visited so far, and capacity for the records of the
-- remaining positions.
abbrev pub invariant-loop : goal.invariant-loop
invariant-loop l = (vec_len l.entries ≡ l.counter) × (l.count ≤ vec_capacity l.entries)
