use Rattle.std.proofs.Common.{◌≡◌, drop}
use Rattle.cyc_types.specs.flow.States.{are_as_full}
use Rattle.cyc_flow.specs.inside.Tables.{view_table}
use Rattle.cyc_flow.proofs.table.Table.are_as_full.Given as goal

abbrev pub invariant-loop-number : goal.invariant-loop-number
invariant-loop-number l = are_as_full (drop l.number (view_table l.self)) (drop l.number (view_table l.other)) ≡ are_as_full (view_table l.self) (view_table l.other)
