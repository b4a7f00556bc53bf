use Rattle.cyc_flow.proofs.Tables.{LacksBelow}
use Rattle.cyc_flow.proofs.table.cover_each.Given as goal

abbrev pub invariant-loop-i : goal.invariant-loop-i
invariant-loop-i l = LacksBelow l.one l.other l.missing l.i
