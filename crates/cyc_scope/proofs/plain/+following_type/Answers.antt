use Rattle.std.proofs.Common.{rules, ◌≡◌, IfSome, sym, ap, subst}
use Rattle.cyc_types.specs.TypeView.{view_ty}
use Rattle.cyc_scope.specs.inside.Plain.{regions_in, Ascend}
use Rattle.cyc_scope.proofs.PlainLemmas.{ascend_more}
use Rattle.cyc_scope.proofs.plain.+following_type.Goals as goal

pub returns-in_ok-following_type-in-Pointer : goal.returns-in_ok-following_type-in-Pointer
returns-in_ok-following_type-in-Pointer t c =
    let target = c.in-Pointer.target.value in
    let next = c.in_ok-following_type-in-Pointer.field-0 in
    let is_target : c.deref.result.now ≡ target = search rules in
    let inner : Ascend c.args.next (regions_in (view_ty target)) next = subst (λ x. Ascend c.args.next (regions_in (view_ty x)) next) is_target c.in_ok-following_type-in-Pointer.ensures in
    subst (λ x. IfSome c.following.result (λ n. Ascend c.args.next (regions_in x) n)) (sym (ap view_ty c.in-Pointer.is))
    (ascend_more c.following.result c.args.next next (regions_in (view_ty target)) c.in-Pointer.region inner c.following.ensures)
