use Rattle.std.proofs.Common.{arith}
use Rattle.cyc_flow.specs.inside.Code.{view_fullness}
use Rattle.cyc_flow.proofs.Tables.{set_known, set_unknown}
use Rattle.cyc_flow.proofs.table.Table.set.Goals as goal

pub returns-then-place-len : goal.returns-then-place-len
returns-then-place-len c =
    set_known c.args.self.now.marks.items c.args.number c.index.result.now c.with.result (view_fullness c.args.fullness) (omega (arith, c.if-place-len.true, c.len.ensures)) c.index.ensures c.with.ensures.same c.with.ensures.other c.args.self.now.count

pub returns-else-place-len : goal.returns-else-place-len
returns-else-place-len c = set_unknown c.args.self.now c.args.number (view_fullness c.args.fullness) (omega (arith, c.if-place-len.false, c.len.ensures))
