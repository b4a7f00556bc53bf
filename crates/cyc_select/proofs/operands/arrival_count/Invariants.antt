use Rattle.std.proofs.Common.{◌≡◌, ◌+◌, drop, take}
use Rattle.std.specs.Prelude.{sum_by}
use Rattle.cyc_registers.specs.inside.Interference.{saved_count}
use Rattle.cyc_select.specs.inside.Slots.{arrival_count}
use Rattle.cyc_select.proofs.operands.arrival_count.Given as goal

-- Loop invariant: the number of MIPS lines counted so far plus that for the remaining parameters is the number of lines that
-- load all parameters into their registers.
abbrev pub invariant-loop-slot : goal.invariant-loop-slot
invariant-loop-slot l = l.count + sum_by saved_count (drop l.slot (take l.frame.parameters l.frame.homes)) ≡ arrival_count l.frame
