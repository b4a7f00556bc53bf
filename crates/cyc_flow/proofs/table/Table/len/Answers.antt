use Rattle.std.proofs.Common.{arith}
use Rattle.cyc_flow.proofs.table.Table.len.Goals as goal

pub returns-then-self-len : goal.returns-then-self-len
returns-then-self-len c = omega (arith, c.if-self-len.true, c.len.ensures)

pub returns-else-self-len : goal.returns-else-self-len
returns-else-self-len c = omega (arith, c.if-self-len.false, c.len.ensures, c.len-else-self-len.ensures)
