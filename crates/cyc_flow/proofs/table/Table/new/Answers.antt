use Rattle.cyc_flow.proofs.Tables.{new_known}
use Rattle.cyc_flow.proofs.table.Table.new.Goals as goal

pub returns : goal.returns
returns c = new_known c.args.count c.in_ok-vec.field-0.items (c.in_ok-vec.ensures.items_if_clones_equal (λ y e. e))
