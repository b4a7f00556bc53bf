use Rattle.std.proofs.Common.{◌≡◌, ℕ, List, Some, None, Ok, refl, sym, ap, ◌∙◌}
use Rattle.std.proofs.lemmas.Result.{err_from_is_err_and}
use Rattle.cyc_syntax.specs.Symbols.{Symbol}
use Rattle.cyc_syntax.specs.Trees.{NoItems, Clauses, NoClauses}
use Rattle.cyc_syntax.specs.inside.TreeView.{view_item, items_of, default_of}
use Rattle.cyc_parse.specs.inside.Statements.{nested_statements, clauses_in, items_in}
use Rattle.cyc_parse.specs.inside.StatementSteps.{then_clause}
use Rattle.cyc_parse.proofs.Loops.{goes_on, ends, fails, ends_as, is_full, is_full_as}
use Rattle.cyc_parse.proofs.StatementLoops.{onto-items, onto-clauses, items_in_steps, clauses_in_steps, ends_badly, no_item, an_item, no_more_of_item}
use Rattle.cyc_parse.proofs.cursor.Parser.+statement.Goals as goal

pub parse_items_here-returns-in_err-item : goal.parse_items_here-returns-in_err-item
parse_items_here-returns-in_err-item t c =
    let p = err_from_is_err_and c.from_residual.result c.from_residual.ensures.1 in
    let stopped = no_more_of_item c.args.room (nested_statements c.args.room) c.loop.self c.in_err-item.field-0.0 (sym c.begins_item.ensures ∙ c.if-not-begins_item.false) c.parse_item.new.self c.in_err-item.ensures in
    rw (p.1, p.2) (fails view_item _ _ _ _ (items_in_steps c.args.room (nested_statements c.args.room)) c.in_err-item.field-0.0 c.loop.items.items c.len-most.result c.loop.counter c.loop.self c.parse_item.new.self _ c.loop-test.true stopped c.loop.invariant)

pub parse_items_here-returns-then-not-begins_item : goal.parse_items_here-returns-then-not-begins_item
parse_items_here-returns-then-not-begins_item t c =
    ends_as view_item _ NoItems items_of onto-items _ _ (items_in_steps c.args.room (nested_statements c.args.room)) c.loop.items.items c.len-most.result c.loop.counter c.loop.self c.loop.self None _ c.loop-test.true (no_item c.args.room (nested_statements c.args.room) c.loop.self (sym c.begins_item.ensures ∙ c.if-not-begins_item.true)) refl c.loop.invariant

pub parse_items_here-loop-preserved : goal.parse_items_here-loop-preserved
parse_items_here-loop-preserved t c =
    let one = an_item c.args.room (nested_statements c.args.room) c.loop.self (sym c.begins_item.ensures ∙ c.if-not-begins_item.false) (view_item c.in_ok-item.item) c.parse_item.new.self c.in_ok-item.ensures in
    rw c.in_ok-append.ensures.items (goes_on view_item _ _ _ _ (items_in_steps c.args.room (nested_statements c.args.room)) c.loop.items.items c.len-most.result c.loop.counter c.loop.self c.parse_item.new.self (Some c.in_ok-item.item) c.in_ok-item.item _ c.loop-test.true one refl c.loop.invariant)

no_more_items : (room : ℕ) (ts : List Symbol) → items_in room (nested_statements room) 0 ts ≡ Ok (NoItems, ts)
unfolding items_in
no_more_items room ts = refl

pub parse_items_here-returns : goal.parse_items_here-returns
parse_items_here-returns t c =
    is_full_as view_item _ NoItems items_of onto-items _ _ (items_in_steps c.args.room (nested_statements c.args.room)) c.loop.items.items c.len-most.result c.loop.counter c.loop.self c.loop.self _ c.loop-test.false (no_more_items c.args.room c.loop.self) c.loop.invariant

pub parse_handlers-returns-in_err-clause : goal.parse_handlers-returns-in_err-clause
parse_handlers-returns-in_err-clause t c =
    let p = err_from_is_err_and c.from_residual.result c.from_residual.ensures.1 in
    rw (p.1, p.2) (fails then_clause _ _ _ _ (clauses_in_steps c.args.room (nested_statements c.args.room)) c.in_err-clause.field-0.0 c.loop.clauses.items c.len-most.result c.loop.counter c.loop.self c.parse_clause.new.self _ c.loop-test.true c.in_err-clause.ensures c.loop.invariant)

pub parse_handlers-returns-in_err-default : goal.parse_handlers-returns-in_err-default
parse_handlers-returns-in_err-default t c =
    let p = err_from_is_err_and c.from_residual-in_err-default.result c.from_residual-in_err-default.ensures.1 in
    rw (p.1, p.2) (ends_badly then_clause _ _ _ _ (clauses_in_steps c.args.room (nested_statements c.args.room)) c.in_err-default.field-0.0 c.loop.clauses.items c.len-most.result c.loop.counter c.loop.self c.parse_clause.new.self c.parse_default_clause.new.self c.in_ok-clause.field-0 _ c.loop-test.true c.in_ok-clause.ensures c.in_default.is c.in_err-default.ensures c.loop.invariant)

pub parse_handlers-returns-in_default : goal.parse_handlers-returns-in_default
parse_handlers-returns-in_default t c =
    ends then_clause _ _ _ _ (clauses_in_steps c.args.room (nested_statements c.args.room)) c.loop.clauses.items c.len-most.result c.loop.counter c.loop.self c.parse_clause.new.self c.in_ok-clause.field-0 _ c.loop-test.true c.in_ok-clause.ensures c.in_default.is (default_of c.in_ok-default.default) c.parse_default_clause.new.self c.in_ok-default.ensures c.loop.invariant
    ∙ ap (λ (b : Clauses). Ok (b, c.parse_default_clause.new.self)) (onto-clauses c.loop.clauses.items (default_of c.in_ok-default.default))

pub parse_handlers-loop-preserved : goal.parse_handlers-loop-preserved
parse_handlers-loop-preserved t c =
    rw c.in_ok-append.ensures.items (goes_on then_clause _ _ _ _ (clauses_in_steps c.args.room (nested_statements c.args.room)) c.loop.clauses.items c.len-most.result c.loop.counter c.loop.self c.parse_clause.new.self c.in_ok-clause.field-0 c.in-Some.clause _ c.loop-test.true c.in_ok-clause.ensures c.in-Some.is c.loop.invariant)

no_more_clauses : (room : ℕ) (ts : List Symbol) → clauses_in room (nested_statements room) 0 ts ≡ Ok (NoClauses, ts)
unfolding clauses_in
no_more_clauses room ts = refl

pub parse_handlers-returns : goal.parse_handlers-returns
parse_handlers-returns t c =
    is_full then_clause _ _ _ _ (clauses_in_steps c.args.room (nested_statements c.args.room)) c.loop.clauses.items c.len-most.result c.loop.counter c.loop.self c.loop.self _ c.loop-test.false NoClauses (no_more_clauses c.args.room c.loop.self) c.loop.invariant
    ∙ ap (λ (b : Clauses). Ok (b, c.loop.self)) (onto-clauses c.loop.clauses.items NoClauses)
