use Rattle.std.proofs.Common.{sym, ◌∙◌}
use Rattle.cyc_lower.proofs.emission.Conditions.{some_tests}
use Rattle.cyc_lower.proofs.conditions.are_tests.Goals as goal

pub returns : goal.returns
returns c = c.all_test.ensures ∙ sym (some_tests c.args.operator c.args.operations.now (sym c.is_empty.ensures ∙ c.if-is_empty.false))
