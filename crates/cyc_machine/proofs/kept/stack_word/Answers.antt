use Rattle.std.proofs.Common.{sym}
use Rattle.cyc_machine.proofs.Widening.{stack-kept, stack-left_out}
use Rattle.cyc_machine.proofs.kept.stack_word.Goals as goal

pub returns-then-left_out-number : goal.returns-then-left_out-number
returns-then-left_out-number c = sym (stack-kept c.args.count c.args.kept.now c.args.number c.if-left_out-number.true)

pub returns-else-left_out-number : goal.returns-else-left_out-number
returns-else-left_out-number c = sym (stack-left_out c.args.count c.args.kept.now c.args.number c.if-left_out-number.false)
