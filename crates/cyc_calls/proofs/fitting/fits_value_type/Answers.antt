use Rattle.std.proofs.Common.{rules, ◌≡◌, true, ap, sym, subst}
use Rattle.cyc_types.specs.Types.{Pointer, Value}
use Rattle.cyc_types.specs.TypeView.{view_ty}
use Rattle.cyc_calls.specs.inside.Fitting.{FitsType, FitsValue}
use Rattle.cyc_calls.proofs.FittedValues.{fits_given_pointer}
use Rattle.cyc_calls.proofs.fitting.fits_value_type.Goals as goal

pub returns-else-not-fits_type : goal.returns-else-not-fits_type
returns-else-not-fits_type c outer =
    let g = c.args.scope.now.regions in
    let old = c.args.table.now in
    let mid = c.fits_type.new.table in
    let new = c.fits_outermost.new.table in
    let k = c.in-Pointer-Pointer.kind-0 in
    let l = c.in-Pointer-Pointer.kind-1 in
    let r = c.in-Pointer-Pointer.wanted_region in
    let s = c.in-Pointer-Pointer.region in
    let a = c.in-Pointer-Pointer.wanted_target.value in
    let b = c.in-Pointer-Pointer.target.value in
    let fits_one : c.fits_type.result ≡ true = search rules in
    let is_a : c.deref.result.now ≡ a = search rules in
    let is_b : c.deref-in-Pointer-Pointer.result.now ≡ b = search rules in
    let inner : FitsType old mid (view_ty a) (view_ty b) =
    subst (λ x. FitsType old mid (view_ty x) (view_ty b)) is_a (subst (λ y. FitsType old mid (view_ty c.deref.result.now) (view_ty y)) is_b (c.fits_type.ensures fits_one)) in
    let whole : FitsValue g old new (Pointer k (view_ty a) r) (Value (Pointer l (view_ty b) s)) = fits_given_pointer g inner (c.fits_outermost.ensures outer) in
    subst (λ x. FitsValue g old new x (Value (view_ty c.args.of_type.now))) (sym (ap view_ty c.in-Pointer-Pointer.is-0))
    (subst (λ y. FitsValue g old new (Pointer k (view_ty a) r) (Value y)) (sym (ap view_ty c.in-Pointer-Pointer.is-1)) whole)
