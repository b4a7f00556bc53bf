use Rattle.std.proofs.Common.{refl, arith}
use Rattle.cyc_types.specs.flow.States.{Full}
use Rattle.cyc_flow.specs.inside.Tables.{table_length, view_table}
use Rattle.cyc_flow.proofs.Tables.{fill_step, length_known}
use Rattle.cyc_flow.proofs.table.Table.fill.Goals as goal

pub loop-number-preserved : goal.loop-number-preserved
loop-number-preserved c =
    let t = c.args.self.now in
    fill_step c.loop-number.number Full (view_table t) (view_table c.loop-number.self) (view_table c.set.new.self) (omega (arith, c.requires, c.loop-number-test.true, length_known t (table_length t) refl)) c.loop-number.invariant c.set.ensures
