use Rattle.std.proofs.Common.{◌≡◌, drop}
use Rattle.cyc_types.specs.flow.States.{Full, Reached, with_each}
use Rattle.cyc_flow.specs.inside.Tables.{view_table}
use Rattle.cyc_flow.proofs.table.Table.fill_each.Given as goal

abbrev pub invariant-loop-number : goal.invariant-loop-number
invariant-loop-number l = with_each Full (drop l.number-index l.numbers) (Reached (view_table l.self)) ≡ with_each Full l.numbers (Reached (view_table l.fn.self))
