use Rattle.std.proofs.Common.{◌∙◌, arith}
use Rattle.cyc_flow.proofs.Tables.{known_read, known_past}
use Rattle.cyc_flow.proofs.table.Table.fullness.Goals as goal

pub returns-then-number-len : goal.returns-then-number-len
returns-then-number-len c =
    c.fullness.ensures ∙ known_read c.args.self.now c.args.number c.index.result.now (omega (arith, c.if-number-len.true, c.len.ensures)) c.index.ensures

pub returns-else-number-len : goal.returns-else-number-len
returns-else-number-len c = known_past c.args.self.now c.args.number (omega (arith, c.if-number-len.false, c.len.ensures))
