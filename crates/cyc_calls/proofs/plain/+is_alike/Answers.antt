use Rattle.std.proofs.Common.{rules, ◌≡◌, true, nat_eq, ap, sym, subst}
use Rattle.cyc_types.specs.Types.{Pointer, Struct}
use Rattle.cyc_types.specs.TypeView.{view_ty}
use Rattle.cyc_types.specs.typing.Tests.{mark_eq}
use Rattle.cyc_calls.specs.inside.Plain.{IsAlike}
use Rattle.cyc_calls.proofs.plain.+is_alike.Goals as goal

pub returns-else-not-is_usual : goal.returns-else-not-is_usual
returns-else-not-is_usual t c outer =
    let g = c.args.scope.now in
    let k = c.in-Pointer-Pointer.wanted_kind in
    let l = c.in-Pointer-Pointer.kind in
    let s = c.in-Pointer-Pointer.region in
    let a = c.in-Pointer-Pointer.wanted_target.value in
    let b = c.in-Pointer-Pointer.target.value in
    let same : mark_eq l k ≡ true = search rules in
    let usual : c.is_usual.result ≡ true = search rules in
    let is_a : c.deref.result.now ≡ a = search rules in
    let is_b : c.deref-in-Pointer-Pointer.result.now ≡ b = search rules in
    let inner : IsAlike g (view_ty a) (view_ty b) =
    subst (λ x. IsAlike g (view_ty x) (view_ty b)) is_a (subst (λ y. IsAlike g (view_ty c.deref.result.now) (view_ty y)) is_b (c.is_alike.ensures outer)) in
    subst (λ x. IsAlike g x (view_ty c.args.of_type.now)) (sym (ap view_ty c.in-Pointer-Pointer.is-0))
    (subst (λ y. IsAlike g (Pointer k (view_ty a) c.in-Pointer-Pointer._wanted_region) y) (sym (ap view_ty c.in-Pointer-Pointer.is-1)) (same, c.is_usual.ensures usual, inner))

pub returns-else-number-wanted_number : goal.returns-else-number-wanted_number
returns-else-number-wanted_number t c all =
    let g = c.args.scope.now in
    let n = c.in-Struct-Struct.wanted_number in
    let m = c.in-Struct-Struct.number in
    let rs = c.in-Struct-Struct.wanted_regions.value.items in
    let ss = c.in-Struct-Struct.regions.value.items in
    let same : nat_eq m n ≡ true = search rules in
    let is_rs : c.deref-in-Struct-Struct-2.result.now ≡ rs = search rules in
    let is_ss : c.deref-in-Struct-Struct-4.result.now ≡ ss = search rules in
    let inner : IsAlike g (Struct n rs) (Struct m ss) =
    subst (λ xs. IsAlike g (Struct n xs) (Struct m ss)) is_rs (subst (λ ys. IsAlike g (Struct n c.deref-in-Struct-Struct-2.result.now) (Struct m ys)) is_ss (same, (c.are_usual.ensures all).0, (c.are_usual.ensures all).1)) in
    subst (λ x. IsAlike g x (view_ty c.args.of_type.now)) (sym (ap view_ty c.in-Struct-Struct.is-0))
    (subst (λ y. IsAlike g (Struct n rs) y) (sym (ap view_ty c.in-Struct-Struct.is-1)) inner)
