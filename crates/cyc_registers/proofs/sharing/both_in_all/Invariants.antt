use Rattle.std.proofs.Common.{◌≡◌, ◌≤◌}
use Rattle.std.specs.Prelude.{sum_by, take}
use Rattle.cyc_registers.specs.inside.Interference.{both_count}
use Rattle.cyc_registers.proofs.sharing.both_in_all.Given as goal

-- Invariant: `both` is the number of slots, among those examined so far, that are in a register and also in memory.
abbrev pub invariant-loop-slot : goal.invariant-loop-slot
invariant-loop-slot l = (l.both ≡ sum_by both_count (take l.slot l.homes)) × (l.both ≤ l.slot)
