use Rattle.std.proofs.Common.{subst}
use Rattle.cyc_plain.specs.inside.Program.{routine_at}
use Rattle.cyc_plain.specs.inside.WellFormed.{IsInRange}
use Rattle.cyc_select.proofs.emission.Numbering.{arguments_small}
use Rattle.cyc_select.proofs.counting.body_count.Goals as goal

pub call_count-requires : goal.call_count-requires
call_count-requires c =
    let program = c.args.plain.now in
    arguments_small program c.args.frames.now c.args.function c.requires.fit c.requires.function c.in-Call.callee c.in-Call.arguments c.in-Call.count c.in-Call.result
    (subst (IsInRange program (routine_at program c.args.function)) c.in-Call.is c.requires.in_range)
