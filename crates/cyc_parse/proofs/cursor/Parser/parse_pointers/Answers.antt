use Rattle.std.proofs.Common.{suc, [], map}
use Rattle.std.proofs.lemmas.Result.{err_from_is_err_and}
use Rattle.cyc_syntax.specs.inside.TreeView.{view_pointer}
use Rattle.cyc_parse.specs.inside.Types.{pointers_of}
use Rattle.cyc_parse.proofs.Loops.{goes_on, fails, fails_full, ends_as, is_full_as, onto-map, pointers_of_steps}
use Rattle.cyc_parse.proofs.cursor.Parser.parse_pointers.Goals as goal

pub returns-in_err-pointer : goal.returns-in_err-pointer
returns-in_err-pointer c = λ room.
    let p = err_from_is_err_and c.from_residual.result c.from_residual.ensures.1 in
    rw (p.1, p.2) (fails view_pointer _ _ _ _ (pointers_of_steps (suc room)) c.in_err-pointer.field-0.0 c.loop.pointers.items 64 c.loop.counter c.loop.self c.parse_pointer.new.self _ c.loop-test.true (c.in_err-pointer.ensures room) (c.loop.invariant room))

pub returns-in_default : goal.returns-in_default
returns-in_default c = λ room.
    ends_as view_pointer _ [] (map view_pointer) (onto-map view_pointer) _ _ (pointers_of_steps (suc room)) c.loop.pointers.items 64 c.loop.counter c.loop.self c.parse_pointer.new.self c.in_ok-pointer.field-0 _ c.loop-test.true (c.in_ok-pointer.ensures room) c.in_default.is (c.loop.invariant room)

pub loop-preserved : goal.loop-preserved
loop-preserved c = λ room.
    rw c.in_ok-append.ensures.items (goes_on view_pointer _ _ _ _ (pointers_of_steps (suc room)) c.loop.pointers.items 64 c.loop.counter c.loop.self c.parse_pointer.new.self c.in_ok-pointer.field-0 c.in-Some.pointer _ c.loop-test.true (c.in_ok-pointer.ensures room) c.in-Some.is (c.loop.invariant room))

pub returns-in_err-end_pointers : goal.returns-in_err-end_pointers
unfolding pointers_of
returns-in_err-end_pointers c = λ room.
    let p = err_from_is_err_and c.from_residual-in_err-end_pointers.result c.from_residual-in_err-end_pointers.ensures.1 in
    rw (p.1, p.2) (fails_full view_pointer _ _ _ _ (pointers_of_steps (suc room)) c.in_err-end_pointers.field-0.0 c.loop.pointers.items 64 c.loop.counter c.loop.self c.end_pointers.new.self _ c.loop-test.false c.in_err-end_pointers.ensures (c.loop.invariant room))

pub returns : goal.returns
unfolding pointers_of
returns c = λ room.
    is_full_as view_pointer _ [] (map view_pointer) (onto-map view_pointer) _ _ (pointers_of_steps (suc room)) c.loop.pointers.items 64 c.loop.counter c.loop.self c.end_pointers.new.self _ c.loop-test.false c.in_ok-end_pointers.ensures (c.loop.invariant room)
