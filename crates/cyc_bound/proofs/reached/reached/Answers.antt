use Rattle.std.proofs.Common.{ℕ, List, get_or, subst, arith}
use Rattle.std.proofs.lemmas.List.{get_or_default}
use Rattle.cyc_types.specs.TypedTreeView.{view_program}
use Rattle.cyc_bound.specs.inside.Reached.{IsNoted}
use Rattle.cyc_bound.proofs.ReachedLemmas.{walk_begins, walk_ends, place_next, place_ends}
use Rattle.cyc_bound.proofs.reached.reached.Goals as goal

pub loop-place-init : goal.loop-place-init
loop-place-init c =
    let p = view_program c.args.tree.now in
    let marks = c.note.new.marks.items in
    let found = c.note.new.found.items in
    walk_begins p marks found (subst (λ (l : List ℕ). IsNoted l p.main marks found) c.new-found.ensures.items c.in_ok-note.ensures)

pub returns-then-place-len : goal.returns-then-place-len
returns-then-place-len c =
    walk_ends (view_program c.args.tree.now) c.loop-place.marks.items c.loop-place.found.items c.loop-place.place c.loop-place.invariant (omega (arith, c.if-place-len.true, c.loop-place.found.ok.0))

pub loop-callee-preserved : goal.loop-callee-preserved
loop-callee-preserved c =
    let items = c.deref-callee-items.result.now in
    let i = c.loop-callee.callee-index in
    let callee = get_or items i 0 in
    place_next (view_program c.args.tree.now) _ items i callee c.loop-callee.marks.items c.note-in-loop-callee.new.marks.items c.loop-callee.found.items c.note-in-loop-callee.new.found.items c.loop-place.place c.loop-callee.invariant
    c.loop-callee-test.true (get_or_default items i 0 callee c.loop-callee-test.true) c.in_ok-note-2.ensures

pub loop-place-preserved : goal.loop-place-preserved
loop-place-preserved c =
    place_ends (view_program c.args.tree.now) _ c.deref-callee-items.result.now c.loop-callee.callee-index c.loop-callee.marks.items c.loop-callee.found.items c.loop-place.place c.loop-callee.invariant (omega (arith, c.loop-callee-test.false))

pub returns : goal.returns
returns c =
    walk_ends (view_program c.args.tree.now) c.loop-place.marks.items c.loop-place.found.items c.loop-place.place c.loop-place.invariant (omega (arith, c.loop-place-test.false, c.loop-place.found.ok.0, c.loop-place.found.small))
