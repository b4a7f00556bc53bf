use Rattle.std.proofs.Common.{◌≡◌, ◌+◌, true, length, take}
use Rattle.cyc_propagation.specs.inside.Entries.{IsLess}
use Rattle.cyc_propagation.specs.inside.Table.{are_known}
use Rattle.cyc_propagation.proofs.entry.restrict.Given as goal

-- Loop invariant: no fact is added to those that the jump target requires. Each required fact that the loop has visited and not
-- removed follows from the facts known at the jump.
abbrev pub invariant-loop : goal.invariant-loop
invariant-loop l =
    IsLess l.initial.asked.items l.asked.items × (are_known (take l.kept l.asked.items) l.facts l.more ≡ true)
    × (length l.asked.items + l.counter ≡ l.count + l.kept)
