use Rattle.std.proofs.Common.{sym, ◌∙◌}
use Rattle.cyc_types.specs.typing.Expressions.{passed_demanded}
use Rattle.cyc_calls.proofs.PassedValues.{asked_no_type, one_passed, passes}
use Rattle.cyc_calls.proofs.passing.pass.Goals as goal

pub returns : goal.returns
returns c =
    let known = c.loop-i.so_far.known in
    let r = c.args.scope.now.regions in
    sym (asked_no_type (one_passed r) (passed_demanded r) (passes r) known c.args.expressions.now c.args.values.now c.args.types.now c.loop-i.i c.loop-i-test.false) ∙ c.loop-i.invariant
