use Rattle.std.proofs.Common.{sym}
use Rattle.cyc_machine.proofs.Widening.{global-kept, global-left_out}
use Rattle.cyc_machine.proofs.kept.global_word.Goals as goal

pub returns-then-number-kept : goal.returns-then-number-kept
returns-then-number-kept c = sym (global-kept c.args.kept.now c.args.number c.if-number-kept.true)

pub returns-else-number-kept : goal.returns-else-number-kept
returns-else-number-kept c = sym (global-left_out c.args.kept.now c.args.number c.if-number-kept.false c.requires)
