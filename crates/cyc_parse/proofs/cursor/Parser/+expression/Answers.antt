use Rattle.std.proofs.Common.{◌≡◌, ℕ, suc, ◌+◌, ◌-◌, List, Option, Some, None, option_map, Ok, refl, sym, ap, subst, ◌∙◌}
use Rattle.cyc_syntax.specs.declared.tree.Expr.{Expr}
use Rattle.std.proofs.lemmas.Result.{err_from_is_err_and}
use Rattle.cyc_syntax.specs.Symbols.{Symbol}
use Rattle.cyc_syntax.specs.Trees.{Postfixes, NoPostfixes, NoOperations, NoExpressions}
use Rattle.cyc_syntax.specs.inside.TreeView.{view_expression, then_postfix, postfixes_of, operations_of, expressions_of}
use Rattle.cyc_parse.specs.inside.Expressions.{nested, begins_expression, more_values, postfixes, operations}
use Rattle.cyc_parse.specs.inside.Steps.{one_field, operand, then_operation}
use Rattle.cyc_parse.specs.inside.Boxes.{view_boxed}
use Rattle.cyc_parse.specs.inside.Code.{Gives}
use Rattle.cyc_parse.specs.inside.Parsing.{Outcome}
use Rattle.cyc_parse.proofs.Loops.{goes_on, fails, fails_full, ends_as, is_full_as, onto-expressions, onto-postfixes, onto-operations, postfixes_steps, operations_steps, more_values_steps}
use Rattle.cyc_parse.proofs.Rounds.{separated_begins, item_fails, list_ends, rest_fails, list_goes_on, is_too_long, item_rounds, no_comma, a_comma, comma_fails, comma_too_many}
use Rattle.cyc_parse.proofs.NextItems.{no_item_after, comma_stops, item_after, item_stops, no_operation, an_operation, operand_stops}
use Rattle.cyc_parse.proofs.LoneOperands.{field_is_postfix, no_chain}
use Rattle.cyc_parse.proofs.cursor.Parser.+expression.Goals as goal

pub parse_argument_list-loop-init : goal.parse_argument_list-loop-init
parse_argument_list-loop-init t c = separated_begins view_expression c.args.room begins_expression (nested c.args.room).expression c.new-arguments.result.items c.args.self.now c.new-arguments.ensures.items

pub parse_argument_list-returns-in_err-argument : goal.parse_argument_list-returns-in_err-argument
parse_argument_list-returns-in_err-argument t c =
    let p = err_from_is_err_and c.from_residual.result c.from_residual.ensures.1 in
    rw (p.1, p.2) (item_fails view_expression _ _ _ (item_rounds c.args.room begins_expression (nested c.args.room).expression) c.in_err-argument.field-0.0 c.loop.arguments.items 64 c.loop.counter c.loop.self c.parse_expression.new.self _ c.loop-test.true c.in_err-argument.ensures c.loop.invariant)

pub parse_argument_list-returns-then-not-sees : goal.parse_argument_list-returns-then-not-sees
parse_argument_list-returns-then-not-sees t c =
    let read : (nested c.args.room).expression c.loop.self ≡ Ok (view_expression c.into_inner.result, c.parse_expression.new.self) = c.in_ok-argument.ensures ∙ ap (λ (e : Expr). Ok (view_expression e, c.parse_expression.new.self)) (sym c.into_inner.ensures) in
    let last = no_comma c.args.room begins_expression (nested c.args.room).expression (64 - (c.loop.counter + 1)) c.parse_expression.new.self (sym c.sees.ensures ∙ c.if-not-sees.true) in
    rw c.in_ok-append.ensures.items (list_ends view_expression _ _ _ (item_rounds c.args.room begins_expression (nested c.args.room).expression) c.loop.arguments.items c.into_inner.result 64 c.loop.counter c.loop.self c.parse_expression.new.self _ c.loop-test.true read last c.loop.invariant)

pub parse_argument_list-returns-in_err-take_sign_inside : goal.parse_argument_list-returns-in_err-take_sign_inside
parse_argument_list-returns-in_err-take_sign_inside t c =
    let p = err_from_is_err_and c.from_residual-in_err-take_sign_inside.result c.from_residual-in_err-take_sign_inside.ensures.1 in
    let read : (nested c.args.room).expression c.loop.self ≡ Ok (view_expression c.into_inner.result, c.parse_expression.new.self) = c.in_ok-argument.ensures ∙ ap (λ (e : Expr). Ok (view_expression e, c.parse_expression.new.self)) (sym c.into_inner.ensures) in
    let stopped = comma_fails c.args.room begins_expression (nested c.args.room).expression (64 - (c.loop.counter + 1)) c.in_err-take_sign_inside.field-0.0 c.parse_expression.new.self c.take_sign_inside.new.self (sym c.sees.ensures ∙ c.if-not-sees.false) c.in_err-take_sign_inside.ensures in
    rw (p.1, p.2) (rest_fails view_expression _ _ _ (item_rounds c.args.room begins_expression (nested c.args.room).expression) c.in_err-take_sign_inside.field-0.0 c.loop.arguments.items c.into_inner.result 64 c.loop.counter c.loop.self c.parse_expression.new.self c.take_sign_inside.new.self _ c.loop-test.true read stopped c.loop.invariant)

pub parse_argument_list-loop-preserved : goal.parse_argument_list-loop-preserved
parse_argument_list-loop-preserved t c =
    let read : (nested c.args.room).expression c.loop.self ≡ Ok (view_expression c.into_inner.result, c.parse_expression.new.self) = c.in_ok-argument.ensures ∙ ap (λ (e : Expr). Ok (view_expression e, c.parse_expression.new.self)) (sym c.into_inner.ensures) in
    let goes = a_comma c.args.room begins_expression (nested c.args.room).expression (64 - (c.loop.counter + 1)) c.parse_expression.new.self c.take_sign_inside.new.self _ (sym c.sees.ensures ∙ c.if-not-sees.false) c.in_ok-take_sign_inside.ensures in
    rw c.in_ok-append.ensures.items (list_goes_on view_expression _ _ _ (item_rounds c.args.room begins_expression (nested c.args.room).expression) c.loop.arguments.items c.into_inner.result 64 c.loop.counter c.loop.self c.parse_expression.new.self c.take_sign_inside.new.self _ c.loop-test.true read goes c.loop.invariant)

pub parse_argument_list-returns : goal.parse_argument_list-returns
parse_argument_list-returns t c =
    is_too_long view_expression _ _ _ (item_rounds c.args.room begins_expression (nested c.args.room).expression) c.refusal.result c.loop.arguments.items 64 c.loop.counter c.loop.self _ c.loop-test.false (comma_too_many c.args.room begins_expression (nested c.args.room).expression c.refusal.result c.begins_expression.result c.loop.self c.refusal.ensures c.begins_expression.ensures) c.loop.invariant

pub parse_postfix-returns-in_default : goal.parse_postfix-returns-in_default
parse_postfix-returns-in_default t c =
    subst (λ (o : Outcome (Option (Postfixes → Postfixes))). Gives (option_map then_postfix) c.parse_field_postfix.result o c.parse_field_postfix.new.self)
    (ap (one_field (suc c.args.room)) c.in_default.ensures.left ∙ field_is_postfix c.args.room c.args.self.now c.in_default.ensures.seen) (c.parse_field_postfix.ensures c.args.room)

pub parse_postfixes-returns-in_err-postfix : goal.parse_postfixes-returns-in_err-postfix
parse_postfixes-returns-in_err-postfix t c =
    let p = err_from_is_err_and c.from_residual.result c.from_residual.ensures.1 in
    rw (p.1, p.2) (fails then_postfix _ _ _ _ (postfixes_steps c.args.room (nested c.args.room)) c.in_err-postfix.field-0.0 c.loop.postfixes.items 64 c.loop.counter c.loop.self c.parse_postfix.new.self _ c.loop-test.true c.in_err-postfix.ensures c.loop.invariant)

pub parse_postfixes-returns-in_default : goal.parse_postfixes-returns-in_default
parse_postfixes-returns-in_default t c =
    ends_as then_postfix _ NoPostfixes postfixes_of onto-postfixes _ _ (postfixes_steps c.args.room (nested c.args.room)) c.loop.postfixes.items 64 c.loop.counter c.loop.self c.parse_postfix.new.self c.in_ok-postfix.field-0 _ c.loop-test.true c.in_ok-postfix.ensures c.in_default.is c.loop.invariant

pub parse_postfixes-loop-preserved : goal.parse_postfixes-loop-preserved
parse_postfixes-loop-preserved t c =
    rw c.in_ok-append.ensures.items (goes_on then_postfix _ _ _ _ (postfixes_steps c.args.room (nested c.args.room)) c.loop.postfixes.items 64 c.loop.counter c.loop.self c.parse_postfix.new.self c.in_ok-postfix.field-0 c.in-Some.postfix _ c.loop-test.true c.in_ok-postfix.ensures c.in-Some.is c.loop.invariant)

pub parse_postfixes-returns-in_err-end_postfixes : goal.parse_postfixes-returns-in_err-end_postfixes
unfolding postfixes
parse_postfixes-returns-in_err-end_postfixes t c =
    let p = err_from_is_err_and c.from_residual-in_err-end_postfixes.result c.from_residual-in_err-end_postfixes.ensures.1 in
    rw (p.1, p.2) (fails_full then_postfix _ _ _ _ (postfixes_steps c.args.room (nested c.args.room)) c.in_err-end_postfixes.field-0.0 c.loop.postfixes.items 64 c.loop.counter c.loop.self c.end_postfixes.new.self _ c.loop-test.false c.in_err-end_postfixes.ensures c.loop.invariant)

pub parse_postfixes-returns : goal.parse_postfixes-returns
unfolding postfixes
parse_postfixes-returns t c =
    is_full_as then_postfix _ NoPostfixes postfixes_of onto-postfixes _ _ (postfixes_steps c.args.room (nested c.args.room)) c.loop.postfixes.items 64 c.loop.counter c.loop.self c.end_postfixes.new.self _ c.loop-test.false c.in_ok-end_postfixes.ensures c.loop.invariant

pub parse_rest_of_operand-returns-then-not-begins_postfix : goal.parse_rest_of_operand-returns-then-not-begins_postfix
parse_rest_of_operand-returns-then-not-begins_postfix t c =
    no_chain c.args.room (view_boxed c.args.base) c.args.self.now (sym c.begins_postfix.ensures ∙ c.if-not-begins_postfix.true)

pub parse_operations-returns-in_default : goal.parse_operations-returns-in_default
parse_operations-returns-in_default t c =
    let none = no_operation (operand c.args.room (nested c.args.room) c.args.below) (suc c.args.below) c.loop.self (sym c.in_default.ensures.seen) in
    let whole = ends_as then_operation _ NoOperations operations_of onto-operations _ _ (operations_steps (operand c.args.room (nested c.args.room) c.args.below) (suc c.args.below)) c.loop.operations.items 64 c.loop.counter c.loop.self c.loop.self None _ c.loop-test.true none refl c.loop.invariant in
    whole ∙ ap (λ ts. Ok (operations_of c.loop.operations.items, ts)) (sym c.in_default.ensures.left)

pub parse_operations-returns-in_err-operand : goal.parse_operations-returns-in_err-operand
parse_operations-returns-in_err-operand t c =
    let p = err_from_is_err_and c.from_residual-in_err-operand.result c.from_residual-in_err-operand.ensures.1 in
    let stopped = operand_stops (operand c.args.room (nested c.args.room) c.args.below) (suc c.args.below) c.loop.self _ _ c.take_operator.new.self c.parse_operand.new.self (sym c.in-Some.ensures.seen) c.in-Some.ensures.taken c.in_err-operand.field-0.0 c.in_err-operand.ensures in
    rw (p.1, p.2) (fails then_operation _ _ _ _ (operations_steps (operand c.args.room (nested c.args.room) c.args.below) (suc c.args.below)) c.in_err-operand.field-0.0 c.loop.operations.items 64 c.loop.counter c.loop.self c.parse_operand.new.self _ c.loop-test.true stopped c.loop.invariant)

pub parse_operations-loop-preserved : goal.parse_operations-loop-preserved
parse_operations-loop-preserved t c =
    let one = an_operation (operand c.args.room (nested c.args.room) c.args.below) (suc c.args.below) c.loop.self _ _ c.take_operator.new.self c.parse_operand.new.self (sym c.in-Some.ensures.seen) c.in-Some.ensures.taken _ c.in_ok-operand.ensures in
    rw c.in_ok-append.ensures.items (goes_on then_operation _ _ _ _ (operations_steps (operand c.args.room (nested c.args.room) c.args.below) (suc c.args.below)) c.loop.operations.items 64 c.loop.counter c.loop.self c.parse_operand.new.self (Some _) _ _ c.loop-test.true one refl c.loop.invariant)

pub parse_operations-returns-in_err-end_operations : goal.parse_operations-returns-in_err-end_operations
unfolding operations
parse_operations-returns-in_err-end_operations t c =
    let p = err_from_is_err_and c.from_residual-in_err-end_operations.result c.from_residual-in_err-end_operations.ensures.1 in
    rw (p.1, p.2) (fails_full then_operation _ _ _ _ (operations_steps (operand c.args.room (nested c.args.room) c.args.below) (suc c.args.below)) c.in_err-end_operations.field-0.0 c.loop.operations.items 64 c.loop.counter c.loop.self c.end_operations.new.self _ c.loop-test.false c.in_err-end_operations.ensures c.loop.invariant)

pub parse_operations-returns : goal.parse_operations-returns
unfolding operations
parse_operations-returns t c =
    is_full_as then_operation _ NoOperations operations_of onto-operations _ _ (operations_steps (operand c.args.room (nested c.args.room) c.args.below) (suc c.args.below)) c.loop.operations.items 64 c.loop.counter c.loop.self c.end_operations.new.self _ c.loop-test.false c.in_ok-end_operations.ensures c.loop.invariant

pub parse_values-returns-then-not-sees : goal.parse_values-returns-then-not-sees
parse_values-returns-then-not-sees t c =
    let none = no_item_after c.args.room (nested c.args.room).expression c.loop.self (sym c.sees.ensures ∙ c.if-not-sees.true) in
    ends_as view_expression _ NoExpressions expressions_of onto-expressions _ _ (more_values_steps c.args.room (nested c.args.room)) c.loop.values.items c.len-most.result c.loop.counter c.loop.self c.loop.self None _ c.loop-test.true none refl c.loop.invariant

pub parse_values-returns-in_err-take_sign_inside : goal.parse_values-returns-in_err-take_sign_inside
parse_values-returns-in_err-take_sign_inside t c =
    let p = err_from_is_err_and c.from_residual-in_err-take_sign_inside.result c.from_residual-in_err-take_sign_inside.ensures.1 in
    let stopped = comma_stops c.args.room (nested c.args.room).expression c.loop.self c.in_err-take_sign_inside.field-0.0 c.take_sign_inside.new.self (sym c.sees.ensures ∙ c.if-not-sees.false) c.in_err-take_sign_inside.ensures in
    rw (p.1, p.2) (fails view_expression _ _ _ _ (more_values_steps c.args.room (nested c.args.room)) c.in_err-take_sign_inside.field-0.0 c.loop.values.items c.len-most.result c.loop.counter c.loop.self c.take_sign_inside.new.self _ c.loop-test.true stopped c.loop.invariant)

pub parse_values-returns-in_err-value : goal.parse_values-returns-in_err-value
parse_values-returns-in_err-value t c =
    let p = err_from_is_err_and c.from_residual-in_err-value.result c.from_residual-in_err-value.ensures.1 in
    let stopped = item_stops c.args.room (nested c.args.room).expression c.loop.self _ c.take_sign_inside.new.self c.parse_expression-in-loop.new.self (sym c.sees.ensures ∙ c.if-not-sees.false) c.in_ok-take_sign_inside.ensures c.in_err-value.field-0.0 c.in_err-value.ensures in
    rw (p.1, p.2) (fails view_expression _ _ _ _ (more_values_steps c.args.room (nested c.args.room)) c.in_err-value.field-0.0 c.loop.values.items c.len-most.result c.loop.counter c.loop.self c.parse_expression-in-loop.new.self _ c.loop-test.true stopped c.loop.invariant)

pub parse_values-loop-preserved : goal.parse_values-loop-preserved
parse_values-loop-preserved t c =
    let read : (nested c.args.room).expression c.take_sign_inside.new.self ≡ Ok (view_expression c.into_inner-in-loop.result, c.parse_expression-in-loop.new.self) = c.in_ok-value.ensures ∙ ap (λ (e : Expr). Ok (view_expression e, c.parse_expression-in-loop.new.self)) (sym c.into_inner-in-loop.ensures) in
    let one = item_after c.args.room (nested c.args.room).expression c.loop.self _ c.take_sign_inside.new.self c.parse_expression-in-loop.new.self (sym c.sees.ensures ∙ c.if-not-sees.false) c.in_ok-take_sign_inside.ensures (view_expression c.into_inner-in-loop.result) read in
    rw c.in_ok-append-2.ensures.items (goes_on view_expression _ _ _ _ (more_values_steps c.args.room (nested c.args.room)) c.loop.values.items c.len-most.result c.loop.counter c.loop.self c.parse_expression-in-loop.new.self (Some c.into_inner-in-loop.result) c.into_inner-in-loop.result _ c.loop-test.true one refl c.loop.invariant)

no_more_values : (room : ℕ) (ts : List Symbol) → more_values room (nested room) 0 ts ≡ Ok (NoExpressions, ts)
unfolding more_values
no_more_values room ts = refl

pub parse_values-returns : goal.parse_values-returns
parse_values-returns t c =
    is_full_as view_expression _ NoExpressions expressions_of onto-expressions _ _ (more_values_steps c.args.room (nested c.args.room)) c.loop.values.items c.len-most.result c.loop.counter c.loop.self c.loop.self _ c.loop-test.false (no_more_values c.args.room c.loop.self) c.loop.invariant
