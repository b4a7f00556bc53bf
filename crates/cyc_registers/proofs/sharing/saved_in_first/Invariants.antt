use Rattle.std.proofs.Common.{◌≡◌, ◌≤◌}
use Rattle.std.specs.Prelude.{sum_by, take}
use Rattle.cyc_registers.specs.inside.Interference.{saved_count}
use Rattle.cyc_registers.proofs.sharing.saved_in_first.Given as goal

-- Invariant: `saved` is the number of callee-saved registers that the slots examined so far have.
abbrev pub invariant-loop-slot : goal.invariant-loop-slot
invariant-loop-slot l = (l.saved ≡ sum_by saved_count (take l.slot l.homes)) × (l.saved ≤ l.slot)
