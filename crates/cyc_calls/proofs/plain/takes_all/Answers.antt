use Rattle.std.proofs.Common.{rules, ◌≡◌, ◌<◌, ◌≤◌, true, length, sym, ap, subst, ◌∙◌}
use Rattle.cyc_types.specs.TypeView.{view_ty}
use Rattle.cyc_types.specs.TypedTrees.{type_of}
use Rattle.cyc_operands.specs.inside.Operands.{value_in}
use Rattle.cyc_calls.specs.inside.Plain.{TakesValue}
use Rattle.cyc_calls.proofs.PlainCalls.{taken_from, taken_past}
use Rattle.cyc_calls.proofs.plain.takes_all.Goals as goal

pub loop-i-preserved : goal.loop-i-preserved
loop-i-preserved c rest =
    let g = c.args.scope.now in
    let ts = c.args.parameters.now in
    let vs = c.args.values.now in
    let i = c.loop-i.i in
    let t = c.index-parameters-i.result in
    let v = c.index-values-i.result in
    let long : length vs ≡ length ts = search rules in
    let takes_one : c.takes_value.result ≡ true = search rules in
    let one : TakesValue g (view_ty t) (type_of (value_in v)) =
    subst (λ x. TakesValue g (view_ty t) x) (c.by-given.ensures ∙ ap (λ x. type_of (value_in x)) (sym c.index-values-i.is)) (c.takes_value.ensures takes_one) in
    c.loop-i.invariant
    (taken_from g ts vs i t v c.loop-i-test.true c.index-parameters-i.is (subst (λ n. i < n) (sym long) c.loop-i-test.true) c.index-values-i.is one rest)

pub returns : goal.returns
returns c all =
    let ts = c.args.parameters.now in
    let vs = c.args.values.now in
    let long : length vs ≡ length ts = search rules in
    c.loop-i.invariant (taken_past c.args.scope.now ts vs c.loop-i.i c.loop-i-test.false (subst (λ n. n ≤ c.loop-i.i) (sym long) c.loop-i-test.false))
