use Rattle.std.proofs.Common.{◌≡◌, ◌++◌, replicate, drop}
use Rattle.cyc_types.specs.flow.States.{Full}
use Rattle.cyc_flow.specs.inside.Tables.{view_table}
use Rattle.cyc_flow.proofs.table.Table.fill.Given as goal

abbrev pub invariant-loop-number : goal.invariant-loop-number
invariant-loop-number l = view_table l.self ≡ replicate l.number Full ++ drop l.number (view_table l.fn.self)
