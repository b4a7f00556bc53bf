use Rattle.std.proofs.Common.{◌≡◌, ℕ, ◌+◌, ◌<◌, max, List, length, get_or, drop, vec_len, subst, sym, ap, ◌∙◌, arith}
use Rattle.std.proofs.lemmas.List.{get_or_default}
use Rattle.cyc_words.proofs.Lists.{take_popped, length_pushed, take_rest}
use Rattle.cyc_words.proofs.Numbers.{ord_max-max}
use Rattle.cyc_types.specs.TypedTreeView.{view_program}
use Rattle.cyc_bound.specs.declared.bound.CallBound.{CallBound}
use Rattle.cyc_bound.specs.Bound.{LeadTo, IsHeight, IsCycle, IsAnswer}
use Rattle.cyc_bound.specs.inside.Walk.{AreHeights, GoesOn}
use Rattle.cyc_bound.proofs.WalkLemmas.{IsSoFar, lead_more, cycle_from, row_counts, row_after, so_far_none, so_far_more, so_far_all, heights_more, deep_through, calls_at}
use Rattle.cyc_bound.proofs.bound.+bound_from.Goals as goal

pub returns-in-Some-clause-answer : goal.returns-in-Some-clause-answer
returns-in-Some-clause-answer t c =
    let p = view_program c.args.tree.now in
    let place = c.in-Some.place in
    let path = c.args.path.now.items in
    let found = subst (λ (l : List ℕ). (place < length l) × (get_or l place 0 ≡ c.args.function)) c.deref-2.ensures.value c.in-Some.ensures in
    let cycle = cycle_from p path place c.args.function (vec_len c.args.path.now + 1) c.requires.path found.0 found.1 c.requires.row in
    subst (λ (l : List ℕ). IsCycle p l) (sym (c.in_ok-functions.ensures.items ∙ take_rest place c.deref-in-Some.result.now ∙ ap (λ (l : List ℕ). drop place l) c.deref-in-Some.ensures.value)) cycle

pub loop-callee-init : goal.loop-callee-init
loop-callee-init t c = record {
  path = c.in_ok-push.ensures.items;
  heights = c.requires.heights;
  callees = c.deref-callee-items.ensures.value ∙ c.in_ok-callees.ensures;
  height = so_far_none (view_program c.args.tree.now) c.args.function c.deref-callee-items.result.now;
}

pub bound_from-requires : goal.bound_from-requires
bound_from-requires t c =
    let p = view_program c.args.tree.now in
    let f = c.args.function in
    let items = c.deref-callee-items.result.now in
    let i = c.loop-callee.callee-index in
    let callee = get_or items i 0 in
    let call = calls_at p f items i callee c.loop-callee.invariant.callees c.loop-callee-test.true (get_or_default items i 0 callee c.loop-callee-test.true) in
    let more : vec_len c.loop-callee.path ≡ vec_len c.args.path.now + 1
    = length_pushed c.args.path.now.items c.loop-callee.path.items f (vec_len c.args.path.now) (vec_len c.loop-callee.path) c.loop-callee.invariant.path (omega (arith, c.args.path.now.ok.0)) (omega (arith, c.loop-callee.path.ok.0)) in
    let row = row_counts p p.main callee (vec_len c.args.path.now + 1 + 1) (vec_len c.loop-callee.path + 1) (omega (arith, more)) (row_after p p.main f callee (vec_len c.args.path.now + 1) c.requires.row call) in
    let path = subst (λ (l : List ℕ). LeadTo p l callee) (sym c.loop-callee.invariant.path) (lead_more p c.args.path.now.items f callee c.requires.path call) in
    (omega (arith, c.decreases, c.if-left-eq0.false), (row, (path, (omega (arith, more, c.requires.left, c.if-left-eq0.false), c.loop-callee.invariant.heights))))

pub returns-then-count-ge-MOST_CALLS-clause-answer : goal.returns-then-count-ge-MOST_CALLS-clause-answer
returns-then-count-ge-MOST_CALLS-clause-answer t c =
    let p = view_program c.args.tree.now in
    let items = c.deref-callee-items.result.now in
    let i = c.loop-callee.callee-index in
    let callee = get_or items i 0 in
    let is = subst (λ (b : CallBound). IsAnswer p callee b) c.in-Calls.is c.in_ok-other.ensures.answer in
    deep_through p c.args.function items i callee c.in-Calls.count (vec_len c.args.path.now + 1) c.loop-callee.invariant.callees c.loop-callee-test.true (get_or_default items i 0 callee c.loop-callee-test.true)
    c.requires.row (omega arith) is.0 (omega (arith, c.if-count-ge-MOST_CALLS.true))

pub loop-callee-preserved : goal.loop-callee-preserved
loop-callee-preserved t c =
    let p = view_program c.args.tree.now in
    let f = c.args.function in
    let items = c.deref-callee-items.result.now in
    let i = c.loop-callee.callee-index in
    let callee = get_or items i 0 in
    let count = c.in-Calls.count in
    let is = subst (λ (b : CallBound). IsAnswer p callee b) c.in-Calls.is c.in_ok-other.ensures.answer in
    let on = subst (λ (b : CallBound). GoesOn p c.loop-callee.path.items c.bound_from.new.path.items c.bound_from.new.heights.items b) c.in-Calls.is c.in_ok-other.ensures.goes_on in
    let high : max c.loop-callee.height (count + 1) ≡ c.max-height.result = sym (c.max-height.ensures ∙ ord_max-max c.loop-callee.height (count + 1)) in
    record {
      path = on.0 ∙ c.loop-callee.invariant.path;
      heights = on.1;
      callees = c.loop-callee.invariant.callees;
      height = subst (λ (n : ℕ). IsSoFar p f items (i + 1) n) high
          (so_far_more p f items i c.loop-callee.height callee count c.loop-callee.invariant.callees c.loop-callee.invariant.height c.loop-callee-test.true (get_or_default items i 0 callee c.loop-callee-test.true) is.0 (omega (arith, c.if-count-ge-MOST_CALLS.false)));
    }

pub returns-clause-answer : goal.returns-clause-answer
returns-clause-answer t c =
    let h = c.loop-callee.invariant.height in
    (so_far_all (view_program c.args.tree.now) c.args.function c.deref-callee-items.result.now c.loop-callee.callee-index c.loop-callee.height c.loop-callee.invariant.callees (omega (arith, c.loop-callee-test.false)) h, h.few)

pub returns-clause-goes_on : goal.returns-clause-goes_on
returns-clause-goes_on t c =
    let p = view_program c.args.tree.now in
    let f = c.args.function in
    let h = c.loop-callee.invariant.height in
    let is : IsHeight p f c.loop-callee.height
    = so_far_all p f c.deref-callee-items.result.now c.loop-callee.callee-index c.loop-callee.height c.loop-callee.invariant.callees (omega (arith, c.loop-callee-test.false)) h in (
      take_popped c.args.path.now.items c.loop-callee.path.items c.pop.new.self.items f (vec_len c.loop-callee.path) c.loop-callee.invariant.path (omega (arith, c.loop-callee.path.ok.0)) c.pop.ensures.rest,
      subst (λ (l : List ℕ). AreHeights p l) (sym c.note_height.ensures) (heights_more p c.loop-callee.heights.items f c.loop-callee.height c.loop-callee.invariant.heights is h.few),
    )
