use Rattle.std.proofs.Common.{◌+◌, ◌-◌, sym, ◌∙◌}
use Rattle.std.proofs.lemmas.Result.{err_from_is_err_and}
use Rattle.cyc_syntax.specs.inside.TreeView.{view_constructor}
use Rattle.cyc_parse.specs.inside.Declarations.{begins_constructor, constructor}
use Rattle.cyc_parse.proofs.Rounds.{some_begin, item_fails, list_ends, list_goes_on, too_many, rounds_of, none_begins, item_begins}
use Rattle.cyc_parse.proofs.cursor.Parser.parse_constructor_list.Goals as goal

pub loop-init : goal.loop-init
loop-init c = some_begin view_constructor begins_constructor (constructor 200) c.new-constructors.result.items c.args.self.now c.new-constructors.ensures.items

pub returns-in_err-constructor : goal.returns-in_err-constructor
returns-in_err-constructor c =
    let p = err_from_is_err_and c.from_residual.result c.from_residual.ensures.1 in
    rw (p.1, p.2) (item_fails view_constructor _ _ _ (rounds_of begins_constructor (constructor 200)) c.in_err-constructor.field-0.0 c.loop.constructors.items 64 c.loop.counter c.loop.self c.parse_constructor.new.self _ c.loop-test.true c.in_err-constructor.ensures c.loop.invariant)

pub returns-then-not-begins_constructor : goal.returns-then-not-begins_constructor
returns-then-not-begins_constructor c =
    let last = none_begins begins_constructor (constructor 200) (64 - (c.loop.counter + 1)) c.parse_constructor.new.self (sym c.begins_constructor.ensures ∙ c.if-not-begins_constructor.true) in
    rw c.in_ok-append.ensures.items (list_ends view_constructor _ _ _ (rounds_of begins_constructor (constructor 200)) c.loop.constructors.items c.in_ok-constructor.constructor 64 c.loop.counter c.loop.self c.parse_constructor.new.self _ c.loop-test.true c.in_ok-constructor.ensures last c.loop.invariant)

pub loop-preserved : goal.loop-preserved
loop-preserved c =
    let goes = item_begins begins_constructor (constructor 200) (64 - (c.loop.counter + 1)) c.parse_constructor.new.self (sym c.begins_constructor.ensures ∙ c.if-not-begins_constructor.false) in
    rw c.in_ok-append.ensures.items (list_goes_on view_constructor _ _ _ (rounds_of begins_constructor (constructor 200)) c.loop.constructors.items c.in_ok-constructor.constructor 64 c.loop.counter c.loop.self c.parse_constructor.new.self c.parse_constructor.new.self _ c.loop-test.true c.in_ok-constructor.ensures goes c.loop.invariant)

pub returns : goal.returns
returns c = too_many view_constructor begins_constructor (constructor 200) c.loop.constructors.items 64 c.loop.counter c.loop.self _ c.loop-test.false c.loop.invariant
