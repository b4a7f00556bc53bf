use Rattle.std.proofs.Common.{◌≡◌, ◌+◌, drop}
use Rattle.std.specs.Prelude.{sum_by}
use Rattle.cyc_registers.specs.inside.Interference.{both_count}
use Rattle.cyc_select.specs.inside.Operands.{reload_count}
use Rattle.cyc_select.proofs.operands.reload_count.Given as goal

-- Loop invariant: the number of MIPS lines counted so far plus that for the remaining slots is the number of lines that
-- reload the registers of all slots whose word is also in memory.
abbrev pub invariant-loop-slot : goal.invariant-loop-slot
invariant-loop-slot l = l.count + sum_by both_count (drop l.slot l.frame.homes) ≡ reload_count l.frame
