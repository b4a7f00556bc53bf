use Rattle.std.proofs.Common.{sym, subst, arith}
use Rattle.cyc_plain.specs.inside.Program.{Routine, routine_at}
use Rattle.cyc_plain.specs.inside.WellFormed.{IsInRange}
use Rattle.cyc_select.specs.inside.Emission.{IsTestFound}
use Rattle.cyc_select.proofs.emission.Numbering.{arguments_small, known_fits}
use Rattle.cyc_select.proofs.values.Found.{operand_found, test_found, request_found}
use Rattle.cyc_select.proofs.emitter.Emitter.body.Goals as goal

pub branch_where-requires-clause-found : goal.branch_where-requires-clause-found
branch_where-requires-clause-found c =
    let program = c.args.tables.now.plain.now in
    let r : Routine = routine_at program c.args.tables.now.function in
    let in_range = subst (IsInRange program r) c.in-Branch.is c.requires.in_range in
    let reached = c.frame-frame.ensures.slots in
    subst (IsTestFound c.frame-frame.result.now) (sym c.test_of-test.ensures)
    (test_found c.frame-frame.result.now c.in-Branch.comparison c.in-Branch.left c.in-Branch.right
    (operand_found c.frame-frame.result.now r c.in-Branch.left reached in_range.0)
    (operand_found c.frame-frame.result.now r c.in-Branch.right reached in_range.1))

pub ask-requires : goal.ask-requires
ask-requires c =
    let program = c.args.tables.now.plain.now in
    let r : Routine = routine_at program c.args.tables.now.function in
    request_found c.frame-frame.result.now r c.in-Ask.request c.frame-frame.ensures.slots
    (subst (IsInRange program r) c.in-Ask.is c.requires.in_range)

pub spills_count-requires : goal.spills_count-requires
spills_count-requires c =
    let program = c.args.tables.now.plain.now in
    let known = c.requires.known in
    arguments_small program c.args.tables.now.frames.now c.args.tables.now.function known.ready.fit known.function_in_range c.in-Call.function c.in-Call.arguments c.in-Call.count c.in-Call.result
    (subst (IsInRange program (routine_at program c.args.tables.now.function)) c.in-Call.is c.requires.in_range)

pub branch_where-requires-clause-fits : goal.branch_where-requires-clause-fits
branch_where-requires-clause-fits c =
    omega (arith, c.line-in-Branch.ensures, known_fits c.requires.known c.in-Branch.target)
