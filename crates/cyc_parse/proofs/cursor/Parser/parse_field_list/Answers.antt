use Rattle.std.proofs.Common.{suc, ◌+◌, ◌-◌, sym, ◌∙◌}
use Rattle.std.proofs.lemmas.Result.{err_from_is_err_and}
use Rattle.cyc_syntax.specs.inside.TreeView.{view_member}
use Rattle.cyc_parse.specs.inside.Types.{begins_type}
use Rattle.cyc_parse.specs.inside.Declarations.{field}
use Rattle.cyc_parse.proofs.Rounds.{some_begin, item_fails, list_ends, list_goes_on, too_many, rounds_of, none_begins, item_begins}
use Rattle.cyc_parse.proofs.cursor.Parser.parse_field_list.Goals as goal

pub loop-init : goal.loop-init
loop-init c = λ room. some_begin view_member begins_type (field (suc room)) c.new-fields.result.items c.args.self.now c.new-fields.ensures.items

pub returns-in_err-field : goal.returns-in_err-field
returns-in_err-field c = λ room.
    let p = err_from_is_err_and c.from_residual.result c.from_residual.ensures.1 in
    rw (p.1, p.2) (item_fails view_member _ _ _ (rounds_of begins_type (field (suc room))) c.in_err-field.field-0.0 c.loop.fields.items 64 c.loop.counter c.loop.self c.parse_field.new.self _ c.loop-test.true (c.in_err-field.ensures room) (c.loop.invariant room))

pub returns-then-not-begins_type : goal.returns-then-not-begins_type
returns-then-not-begins_type c = λ room.
    let last = none_begins begins_type (field (suc room)) (64 - (c.loop.counter + 1)) c.parse_field.new.self (sym c.begins_type.ensures ∙ c.if-not-begins_type.true) in
    rw c.in_ok-append.ensures.items (list_ends view_member _ _ _ (rounds_of begins_type (field (suc room))) c.loop.fields.items c.in_ok-field.field 64 c.loop.counter c.loop.self c.parse_field.new.self _ c.loop-test.true (c.in_ok-field.ensures room) last (c.loop.invariant room))

pub loop-preserved : goal.loop-preserved
loop-preserved c = λ room.
    let goes = item_begins begins_type (field (suc room)) (64 - (c.loop.counter + 1)) c.parse_field.new.self (sym c.begins_type.ensures ∙ c.if-not-begins_type.false) in
    rw c.in_ok-append.ensures.items (list_goes_on view_member _ _ _ (rounds_of begins_type (field (suc room))) c.loop.fields.items c.in_ok-field.field 64 c.loop.counter c.loop.self c.parse_field.new.self c.parse_field.new.self _ c.loop-test.true (c.in_ok-field.ensures room) goes (c.loop.invariant room))

pub returns : goal.returns
returns c = λ room. too_many view_member begins_type (field (suc room)) c.loop.fields.items 64 c.loop.counter c.loop.self _ c.loop-test.false (c.loop.invariant room)
