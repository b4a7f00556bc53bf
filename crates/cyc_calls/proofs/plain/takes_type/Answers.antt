use Rattle.std.proofs.Common.{rules, ◌≡◌, true, ap, sym, subst}
use Rattle.cyc_types.specs.Types.{Pointer}
use Rattle.cyc_types.specs.TypeView.{view_ty}
use Rattle.cyc_calls.specs.inside.Plain.{IsAlike, TakesType}
use Rattle.cyc_calls.proofs.plain.takes_type.Goals as goal

pub returns-else-not-is_usual : goal.returns-else-not-is_usual
returns-else-not-is_usual c outer =
    let g = c.args.scope.now in
    let a = c.in-Pointer-Pointer.wanted_target.value in
    let b = c.in-Pointer-Pointer.target.value in
    let usual : c.is_usual.result ≡ true = search rules in
    let is_a : c.deref.result.now ≡ a = search rules in
    let is_b : c.deref-in-Pointer-Pointer.result.now ≡ b = search rules in
    let inner : IsAlike g (view_ty a) (view_ty b) =
    subst (λ x. IsAlike g (view_ty x) (view_ty b)) is_a (subst (λ y. IsAlike g (view_ty c.deref.result.now) (view_ty y)) is_b (c.is_alike.ensures outer)) in
    subst (λ x. TakesType g x (view_ty c.args.of_type.now)) (sym (ap view_ty c.in-Pointer-Pointer.is-0))
    (subst (λ y. TakesType g (Pointer c.in-Pointer-Pointer.kind-0 (view_ty a) c.in-Pointer-Pointer.region-0) y) (sym (ap view_ty c.in-Pointer-Pointer.is-1)) (c.is_usual.ensures usual, inner))
