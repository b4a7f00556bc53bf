use Rattle.std.proofs.Common.{◌≡◌, length}
use Rattle.cyc_flow.specs.inside.Tables.{met_each}
use Rattle.cyc_flow.proofs.Tables.{Met}
use Rattle.cyc_flow.proofs.table.meet_each.Given as goal

abbrev pub invariant-loop-i : goal.invariant-loop-i
invariant-loop-i l = (length l.one.items ≡ length l.fn.one.items) × Met l.one.items l.other l.i (met_each l.fn.one.items l.other)
