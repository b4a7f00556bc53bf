use Rattle.std.proofs.Common.{suc, [], ◌∷◌, ◌++◌, ◌+◌, ◌-◌, map, Ok, sym, ap, ◌∙◌}
use Rattle.std.proofs.lemmas.Result.{err_from_is_err_and}
use Rattle.cyc_syntax.specs.inside.TreeView.{view_constraint}
use Rattle.cyc_parse.specs.inside.Parsing.{begins_region}
use Rattle.cyc_parse.specs.inside.Declarations.{constraint}
use Rattle.cyc_parse.proofs.Rounds.{separated_begins, item_fails, list_ends, list_goes_on, is_too_long, item_rounds, no_comma, a_comma, comma_too_many}
use Rattle.cyc_parse.proofs.cursor.Parser.parse_constraint_list.Goals as goal

pub loop-init : goal.loop-init
loop-init c = λ room. separated_begins view_constraint (suc room) begins_region (constraint (suc room)) c.new-constraints.result.items c.args.self.now c.new-constraints.ensures.items

pub returns-in_err-constraint : goal.returns-in_err-constraint
returns-in_err-constraint c = λ room.
    let p = err_from_is_err_and c.from_residual.result c.from_residual.ensures.1 in
    rw (p.1, p.2) (item_fails view_constraint _ _ _ (item_rounds (suc room) begins_region (constraint (suc room))) c.in_err-constraint.field-0.0 c.loop.constraints.items 64 c.loop.counter c.loop.self c.parse_constraint.new.self _ c.loop-test.true (c.in_err-constraint.ensures room) (c.loop.invariant room))

pub returns-in_default : goal.returns-in_default
returns-in_default c = λ room.
    let last = no_comma (suc room) begins_region (constraint (suc room)) (64 - (c.loop.counter + 1)) c.parse_constraint.new.self c.in_default.ensures.seen in
    let whole = list_ends view_constraint _ _ _ (item_rounds (suc room) begins_region (constraint (suc room))) c.loop.constraints.items c.in_ok-constraint.constraint 64 c.loop.counter c.loop.self c.parse_constraint.new.self _ c.loop-test.true (c.in_ok-constraint.ensures room) last (c.loop.invariant room) in
    rw c.in_ok-append.ensures.items (whole ∙ ap (λ ts. Ok (map view_constraint (c.loop.constraints.items ++ c.in_ok-constraint.constraint ∷ []), ts)) (sym c.in_default.ensures.left))

pub loop-preserved : goal.loop-preserved
loop-preserved c = λ room.
    let goes = a_comma (suc room) begins_region (constraint (suc room)) (64 - (c.loop.counter + 1)) c.parse_constraint.new.self c.take_if.new.self _ c.in-Some.ensures.seen (c.in-Some.ensures.taken room) in
    rw c.in_ok-append.ensures.items (list_goes_on view_constraint _ _ _ (item_rounds (suc room) begins_region (constraint (suc room))) c.loop.constraints.items c.in_ok-constraint.constraint 64 c.loop.counter c.loop.self c.parse_constraint.new.self c.take_if.new.self _ c.loop-test.true (c.in_ok-constraint.ensures room) goes (c.loop.invariant room))

pub returns : goal.returns
returns c = λ room.
    is_too_long view_constraint _ _ _ (item_rounds (suc room) begins_region (constraint (suc room))) c.refusal.result c.loop.constraints.items 64 c.loop.counter c.loop.self _ c.loop-test.false (comma_too_many (suc room) begins_region (constraint (suc room)) c.refusal.result c.begins_region.result c.loop.self c.refusal.ensures c.begins_region.ensures) (c.loop.invariant room)
