use Rattle.std.proofs.Common.{sym, ◌∙◌}
use Rattle.cyc_registers.proofs.Meeting.{alone_within, alone_single}
use Rattle.cyc_registers.proofs.sharing.are_alone.Goals as goal

pub returns-then-is_within : goal.returns-then-is_within
returns-then-is_within c = λ is. alone_within c.args.groups.now c.args.set c.args.known (sym c.is_within.ensures ∙ c.if-is_within.true) c.requires

pub returns-else-is_within : goal.returns-else-is_within
returns-else-is_within c = λ is. alone_single c.args.groups.now c.args.set (c.are_single.ensures is)
