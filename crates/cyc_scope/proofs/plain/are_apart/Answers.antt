use Rattle.std.proofs.Common.{◌≡◌, ◌≤◌, ◌-◌, suc, map, subst, arith}
use Rattle.std.proofs.lemmas.Bool.{leb-true}
use Rattle.cyc_types.specs.TypeView.{view_ty}
use Rattle.cyc_scope.specs.inside.Plain.{all_regions, Ascend}
use Rattle.cyc_scope.proofs.PlainLemmas.{ascend_higher}
use Rattle.cyc_scope.proofs.plain.are_apart.Goals as goal

pub returns-in-Some : goal.returns-in-Some
returns-in-Some c within =
    let count = c.args.signature.now.variables in
    let ts = c.args.signature.now.parameters.items in
    let most : c.saturating_sub.result ≤ count = leb-true c.saturating_sub.result count within in
    let is : c.saturating_sub.result ≡ c.in-Some.next - 1 = c.saturating_sub.ensures in
    let below : c.in-Some.next ≤ suc count = omega (arith, most, is) in
    ascend_higher 1 (all_regions (map view_ty ts)) c.in-Some.next (suc count) below
    (subst (λ us. Ascend 1 (all_regions (map view_ty us)) c.in-Some.next) c.deref.ensures.value c.in-Some.ensures)
