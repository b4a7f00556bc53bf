use Rattle.std.proofs.Common.{sym, ◌∙◌}
use Rattle.cyc_types.specs.typing.Expressions.{variables_demanded}
use Rattle.cyc_calls.proofs.PassedValues.{asked_no_type, one_variable, varies}
use Rattle.cyc_calls.proofs.passing.demand_variables.Goals as goal

pub returns : goal.returns
returns c =
    sym (asked_no_type one_variable variables_demanded varies c.loop-i.so_far.known c.args.expressions.now c.args.values.now c.args.types.now c.loop-i.i c.loop-i-test.false)
    ∙ c.loop-i.invariant
