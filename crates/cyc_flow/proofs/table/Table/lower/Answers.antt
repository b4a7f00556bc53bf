use Rattle.std.proofs.Common.{ap, ◌∙◌, arith}
use Rattle.cyc_flow.specs.inside.Tables.{met_each}
use Rattle.cyc_flow.proofs.Tables.{lower_known}
use Rattle.cyc_flow.proofs.table.Table.lower.Goals as goal

pub returns : goal.returns
returns c =
    lower_known c.min.result c.args.self.count c.args.other.now.count c.args.self.marks.items c.args.other.now.marks.items c.meet_each.result.items (omega (arith, c.min.ensures)) (c.meet_each.ensures ∙ ap (met_each c.args.self.marks.items) c.deref.ensures.value)
