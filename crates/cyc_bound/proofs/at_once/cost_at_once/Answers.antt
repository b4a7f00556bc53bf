use Rattle.std.proofs.Common.{ℕ, List, Option, get_or, min, sym, ap, subst, ◌∙◌, arith}
use Rattle.std.specs.Prelude.{slice_get}
use Rattle.std.proofs.lemmas.List.{get_or_default}
use Rattle.std.specs.declared.vec.Vec.{Vec}
use Rattle.std.specs.declared.alloc.Global.{Global as Heap}
use Rattle.cyc_types.specs.TypedTreeView.{view_program}
use Rattle.cyc_bound.specs.Costs.{too_many}
use Rattle.cyc_bound.specs.AtOnce.{at_once_of}
use Rattle.cyc_bound.specs.inside.Reached.{AreReached}
use Rattle.cyc_bound.specs.inside.Rounds.{AreEnoughFound}
use Rattle.cyc_bound.proofs.AtOnceFound.{so_far_more, so_far_all}
use Rattle.cyc_bound.proofs.at_once.cost_at_once.Goals as goal

pub loop-function-preserved : goal.loop-function-preserved
loop-function-preserved c =
    let p = view_program c.args.tree.now in
    let m = c.args.measure in
    let items = c.deref-function-items.result.now in
    let i = c.loop-function.function-index in
    let f = get_or items i 0 in
    let reached = subst (λ (l : List ℕ). AreReached p l) (sym c.deref-function-items.ensures.value) c.in_ok-functions.ensures in
    so_far_more p m c.in-Some.costs.items items i c.loop-function.most f c.function_at_once.result c.greater-most.result reached c.loop-function.invariant c.loop-function-test.true (get_or_default items i 0 f c.loop-function-test.true)
    (c.function_at_once.ensures ∙ ap (λ (l : List ℕ). min too_many (at_once_of m l (slice_get p.functions f))) c.deref.ensures.value) c.greater-most.ensures

pub returns : goal.returns
returns c =
    let p = view_program c.args.tree.now in
    let m = c.args.measure in
    let items = c.deref-function-items.result.now in
    let reached = subst (λ (l : List ℕ). AreReached p l) (sym c.deref-function-items.ensures.value) c.in_ok-functions.ensures in
    let are = subst (λ (o : Option (Vec ℕ Heap)). AreEnoughFound p m o) c.in-Some.is c.in_ok-costs.ensures in
    so_far_all p m c.in-Some.costs.items items c.loop-function.function-index c.loop-function.most reached are (omega (arith, c.loop-function-test.false)) c.loop-function.invariant
