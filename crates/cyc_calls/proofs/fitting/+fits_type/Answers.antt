use Rattle.std.proofs.Common.{rules, ◌≡◌, true, nat_eq, ap, sym, subst}
use Rattle.cyc_types.specs.Types.{Pointer, Struct}
use Rattle.cyc_types.specs.TypeView.{view_ty}
use Rattle.cyc_types.specs.typing.Tests.{mark_eq}
use Rattle.cyc_calls.specs.inside.Fitting.{FitsRegions, FitsType}
use Rattle.cyc_calls.proofs.FittedValues.{fits_struct, fits_pointer}
use Rattle.cyc_calls.proofs.fitting.+fits_type.Goals as goal

pub returns-else-not-fits_region : goal.returns-else-not-fits_region
returns-else-not-fits_region t c outer =
    let old = c.args.table.now in
    let mid = c.fits_region.new.table in
    let new = c.fits_type.new.table in
    let k = c.in-Pointer-Pointer.wanted_kind in
    let l = c.in-Pointer-Pointer.kind in
    let r = c.in-Pointer-Pointer.wanted_region in
    let s = c.in-Pointer-Pointer.region in
    let a = c.in-Pointer-Pointer.wanted_target.value in
    let b = c.in-Pointer-Pointer.target.value in
    let same : mark_eq l k ≡ true = search rules in
    let fits_one : c.fits_region.result ≡ true = search rules in
    let is_a : c.deref.result.now ≡ a = search rules in
    let is_b : c.deref-in-Pointer-Pointer.result.now ≡ b = search rules in
    let inner : FitsType mid new (view_ty a) (view_ty b) =
    subst (λ x. FitsType mid new (view_ty x) (view_ty b)) is_a (subst (λ y. FitsType mid new (view_ty c.deref.result.now) (view_ty y)) is_b (c.fits_type.ensures outer)) in
    let whole : FitsType old new (Pointer k (view_ty a) r) (Pointer l (view_ty b) s) = fits_pointer same (c.fits_region.ensures fits_one) inner in
    subst (λ x. FitsType old new x (view_ty c.args.of_type.now)) (sym (ap view_ty c.in-Pointer-Pointer.is-0))
    (subst (λ y. FitsType old new (Pointer k (view_ty a) r) y) (sym (ap view_ty c.in-Pointer-Pointer.is-1)) whole)

pub returns-else-number-wanted_number : goal.returns-else-number-wanted_number
returns-else-number-wanted_number t c all =
    let old = c.args.table.now in
    let new = c.fits_regions.new.table in
    let n = c.in-Struct-Struct.wanted_number in
    let m = c.in-Struct-Struct.number in
    let rs = c.in-Struct-Struct.wanted_regions.value.items in
    let ss = c.in-Struct-Struct.regions.value.items in
    let same : nat_eq m n ≡ true = search rules in
    let is_rs : c.deref-in-Struct-Struct-2.result.now ≡ rs = search rules in
    let is_ss : c.deref-in-Struct-Struct-4.result.now ≡ ss = search rules in
    let inner : FitsRegions old new rs ss =
    subst (λ xs. FitsRegions old new xs ss) is_rs (subst (λ ys. FitsRegions old new c.deref-in-Struct-Struct-2.result.now ys) is_ss (c.fits_regions.ensures all)) in
    let whole : FitsType old new (Struct n rs) (Struct m ss) = fits_struct same inner in
    subst (λ x. FitsType old new x (view_ty c.args.of_type.now)) (sym (ap view_ty c.in-Struct-Struct.is-0))
    (subst (λ y. FitsType old new (Struct n rs) y) (sym (ap view_ty c.in-Struct-Struct.is-1)) whole)
