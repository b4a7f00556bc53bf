use Rattle.std.proofs.Common.{ℕ, ◌+◌, ◌++◌, List, map, ap, ◌∙◌, arith}
use Rattle.cyc_types.specs.declared.ty.Ty.{Ty}
use Rattle.cyc_types.specs.TypeView.{view_ty}
use Rattle.cyc_types.specs.TypedTreeView.{view_function}
use Rattle.cyc_meaning.specs.FrameCount.{words_of_all}
use Rattle.cyc_lower_proof.specs.inside.Slots.{starts_from}
use Rattle.cyc_lower_proof.proofs.slots.Slots.{slots-made}
use Rattle.cyc_lower.proofs.locals.slots_of_locals.Goals as goal

pub add_locals-requires : goal.add_locals-requires
add_locals-requires c =
    let parameters = ap (λ (ts : List Ty). words_of_all (map view_ty ts)) c.deref.ensures.value in
    omega (arith, c.requires, parameters)

pub add_locals-requires-2 : goal.add_locals-requires-2
add_locals-requires-2 c =
    let parameters = ap (λ (ts : List Ty). words_of_all (map view_ty ts)) c.deref.ensures.value in
    let locals = ap (λ (ts : List Ty). words_of_all (map view_ty ts)) c.deref-2.ensures.value in
    omega (arith, c.requires, parameters, locals, c.in_ok-following.ensures.0)

pub returns : goal.returns
returns c =
    let h = view_function c.args.function.now in
    let parameters = c.deref.ensures.value in
    let locals = c.deref-2.ensures.value in
    let following = c.in_ok-following.following in
    let first = c.add_locals.new.starts.items in
    let words = ap (λ (ts : List Ty). words_of_all (map view_ty ts)) parameters in
    slots-made h following c.in_ok-end.end first c.add_locals-2.new.starts.items
    (omega (arith, c.in_ok-following.ensures.0, words))
    (c.in_ok-following.ensures.1 ∙ ap (λ (l : List ℕ). l ++ starts_from 0 (map view_ty c.deref.result.now)) c.new-starts.ensures.items ∙ ap (λ (ts : List Ty). starts_from 0 (map view_ty ts)) parameters)
    (c.in_ok-end.ensures.0 ∙ ap (λ (ts : List Ty). following + words_of_all (map view_ty ts)) locals)
    (c.in_ok-end.ensures.1 ∙ ap (λ (ts : List Ty). first ++ starts_from following (map view_ty ts)) locals)
