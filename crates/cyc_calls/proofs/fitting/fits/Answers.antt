use Rattle.std.proofs.Common.{rules, ◌≡◌, ◌<◌, ◌≤◌, true, length, ap, sym, subst, ◌∙◌}
use Rattle.cyc_types.specs.TypeView.{view_ty}
use Rattle.cyc_types.specs.TypedTrees.{type_of}
use Rattle.cyc_operands.specs.inside.Operands.{value_in}
use Rattle.cyc_calls.specs.inside.Fitting.{FitsValue}
use Rattle.cyc_calls.proofs.FittedValues.{fits_values_from, fits_values_past}
use Rattle.cyc_calls.proofs.fitting.fits.Goals as goal

pub loop-i-preserved : goal.loop-i-preserved
loop-i-preserved c new rest =
    let r = c.args.scope.now.regions in
    let ts = c.args.parameters.now in
    let vs = c.args.values.now in
    let i = c.loop-i.i in
    let t = c.index-parameters-i.result in
    let v = c.index-values-i.result in
    let long : length vs ≡ length ts = search rules in
    let fits_one : c.fits_value.result ≡ true = search rules in
    let one : FitsValue r c.loop-i.table c.fits_value.new.table (view_ty t) (type_of (value_in v)) =
    subst (λ g. FitsValue r c.loop-i.table c.fits_value.new.table (view_ty t) g) (c.by-given.ensures ∙ ap (λ x. type_of (value_in x)) (sym c.index-values-i.is)) (c.fits_value.ensures fits_one) in
    c.loop-i.invariant new
    (fits_values_from r ts vs i t v c.loop-i-test.true c.index-parameters-i.is (subst (λ n. i < n) (sym long) c.loop-i-test.true) c.index-values-i.is one rest)

pub returns : goal.returns
returns c all =
    let ts = c.args.parameters.now in
    let vs = c.args.values.now in
    let i = c.loop-i.i in
    let long : length vs ≡ length ts = search rules in
    c.loop-i.invariant c.loop-i.table
    (fits_values_past c.args.scope.now.regions c.loop-i.table ts vs i c.loop-i-test.false (subst (λ n. n ≤ i) (sym long) c.loop-i-test.false))
