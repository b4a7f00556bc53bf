use Rattle.std.proofs.Common.{rules, ◌≡◌, ◌+◌, ◌<◌, length, [], ◌∷◌, map, drop, option_map, Ok, Err, None, ◌≢◌, sym, ap, subst, ◌∙◌}
use Rattle.std.proofs.lemmas.Result.{err_from_is_err_and}
use Rattle.std.proofs.lemmas.List.{drop_all}
use Rattle.cyc_syntax.specs.Trees.{Call, Fields, place_of}
use Rattle.cyc_syntax.specs.inside.TreeView.{place_of_span, view_name, view_initial, view_expression, expressions_of, postfixes_of, operations_of}
use Rattle.cyc_syntax.proofs.TreeViewLemmas.{view_call, view_chained, view_binary, view_fields}
use Rattle.cyc_words.specs.declared.fault.Code.TheVariants as codes
use Rattle.cyc_words.proofs.Lists.{drop_read, drop_first}
use Rattle.cyc_types.specs.Rules.{fault_at, and_then, settled, gives, run}
use Rattle.cyc_types.specs.typing.Tests.{value_of}
use Rattle.cyc_types.specs.typing.Expressions.{value_wanted, is_looking_first, loaded, reached, on_heap, created, rule, rule_place, rule_postfixed, rule_made, rule_placement}
use Rattle.cyc_scope.specs.inside.Code.{Gives, Stops}
use Rattle.cyc_operands.specs.inside.Operands.{GivesOne, IsMade, view_given, view_boxed, view_found, value_in}
use Rattle.cyc_typing.specs.inside.Forms.{IsReached, IsPlaced}
use Rattle.cyc_expressions.specs.inside.Walks.{one_postfix, left_of, peeked_after}
use Rattle.cyc_expressions.proofs.Chains.{looked_named, looked_unnamed, values_go_on, chain_goes_on, chain_ends, chain_whole, one_of}
use Rattle.cyc_expressions.proofs.Arms.{after_gives, after_stops, after_nothing, chain_gives, chain_fails, operation_at, region_new_gives, further_starts, further_goes_on, load_stops}
use Rattle.cyc_expressions.proofs.walk.+expression.Goals as goal

-- ---- forms with lists

pub check_expression-returns-in-Call-clause-gives : goal.check_expression-returns-in-Call-clause-gives
check_expression-returns-in-Call-clause-gives t c =
    subst (λ x. Gives view_boxed c.check_call.result (run (rule c.args.scope.now x))) (sym (ap view_expression c.in-Call.is ∙ view_call c.in-Call.function c.in-Call.arguments))
    (subst (λ es. Gives view_boxed c.check_call.result (run (rule c.args.scope.now (Call (view_name c.in-Call.function) (expressions_of es))))) c.deref.ensures.value c.check_call.ensures.gives)

pub check_made-returns-in-Fields-clause-gives : goal.check_made-returns-in-Fields-clause-gives
check_made-returns-in-Fields-clause-gives t c =
    subst (λ x. GivesOne IsMade c.check_fields.result (run (rule_made c.args.scope.now x))) (sym (ap view_initial c.in-Fields.is ∙ view_fields c.in-Fields.name c.in-Fields.regions c.in-Fields.values))
    (subst (λ es. GivesOne IsMade c.check_fields.result (run (rule_made c.args.scope.now (Fields (view_name c.in-Fields.name) (map view_name c.in-Fields.regions.items) (expressions_of es))))) c.deref.ensures.value
    (subst (λ rs. GivesOne IsMade c.check_fields.result (run (rule_made c.args.scope.now (Fields (view_name c.in-Fields.name) (map view_name rs) (expressions_of c.deref.result.now))))) c.deref-in-Fields.ensures.value c.check_fields.ensures.gives))

pub check_expression-returns-in_err-left-in-Binary-clause-gives : goal.check_expression-returns-in_err-left-in-Binary-clause-gives
check_expression-returns-in_err-left-in-Binary-clause-gives t c =
    let e = c.in_err-left-in-Binary.field-0.0 in
    let p = err_from_is_err_and (c.from_residual-in_err-left-in-Binary).result (c.from_residual-in_err-left-in-Binary).ensures.1 in
    rw (p.1, p.2)
    (subst (λ x. Stops e (run (rule c.args.scope.now x))) (sym (ap view_expression c.in-Binary.is ∙ view_binary c.in-Binary.first c.in-Binary.rest))
    (chain_fails e c.args.scope.now (view_expression c.in-Binary.first.value) (view_expression c.deref-in-Binary.result.now) c.in-Binary.rest.items c.is_looking_first.result
    (ap view_expression c.deref-in-Binary.ensures) (c.is_looking_first.ensures ∙ ap (λ os. is_looking_first (operations_of os)) c.deref-in-Binary-2.ensures.value) c.in_err-left-in-Binary.ensures.gives))

pub check_expression-returns-in_ok-left-in-Binary-clause-gives : goal.check_expression-returns-in_ok-left-in-Binary-clause-gives
check_expression-returns-in_ok-left-in-Binary-clause-gives t c =
    subst (λ x. Gives view_boxed c.check_chain.result (run (rule c.args.scope.now x))) (sym (ap view_expression c.in-Binary.is ∙ view_binary c.in-Binary.first c.in-Binary.rest))
    (subst (λ o. Gives view_boxed c.check_chain.result o)
    (chain_gives c.args.scope.now c.check_operand.new.scope (view_expression c.in-Binary.first.value) (view_expression c.deref-in-Binary.result.now) c.in-Binary.rest.items c.deref-in-Binary-3.result.now c.is_looking_first.result (place_of_span c.span_of-in-Binary.result) (view_boxed c.in_ok-left-in-Binary.left)
    c.in_ok-left-in-Binary.ensures.same (ap view_expression c.deref-in-Binary.ensures) c.deref-in-Binary-3.ensures.value (c.span_of-in-Binary.ensures ∙ ap (λ x. place_of (view_expression x)) c.deref-in-Binary-4.ensures)
    (c.is_looking_first.ensures ∙ ap (λ os. is_looking_first (operations_of os)) c.deref-in-Binary-2.ensures.value) c.in_ok-left-in-Binary.ensures.gives)
    c.check_chain.ensures.gives)

-- ---- postfixes, as a value and as a place

pub check_expression-returns-in_err-has_postfixes-in-Chained-clause-gives : goal.check_expression-returns-in_err-has_postfixes-in-Chained-clause-gives
check_expression-returns-in_err-has_postfixes-in-Chained-clause-gives t c =
    let e = c.in_err-has_postfixes-in-Chained.field-0.0 in
    let p = err_from_is_err_and (c.from_residual-in_err-has_postfixes-in-Chained).result (c.from_residual-in_err-has_postfixes-in-Chained).ensures.1 in
    let why = c.in_err-has_postfixes-in-Chained.ensures.stops in
    rw (p.1, p.2)
    (subst (λ x. Stops e (run (rule c.args.scope.now x))) (sym (ap view_expression c.in-Chained.is ∙ view_chained c.in-Chained.base c.in-Chained.postfixes))
    (rw why.0
    (after_nothing loaded c.args.scope.now (view_expression c.in-Chained.base.value) c.in-Chained.postfixes.items (sym c.deref-in-Chained-2.ensures.value ∙ why.1)
    ∙ ap (λ q. Err (fault_at codes.NotAPlace q)) (sym (c.span_of-span.ensures ∙ ap (λ x. place_of (view_expression x)) c.deref-in-Chained.ensures)))))

pub check_expression-returns-in_err-value-in-Chained-clause-gives : goal.check_expression-returns-in_err-value-in-Chained-clause-gives
check_expression-returns-in_err-value-in-Chained-clause-gives t c =
    let e = c.in_err-value-in-Chained.field-0.0 in
    let p = err_from_is_err_and (c.from_residual-in_err-value-in-Chained).result (c.from_residual-in_err-value-in-Chained).ensures.1 in
    rw (p.1, p.2)
    (subst (λ x. Stops e (run (rule c.args.scope.now x))) (sym (ap view_expression c.in-Chained.is ∙ view_chained c.in-Chained.base c.in-Chained.postfixes))
    (after_stops loaded e c.args.scope.now (view_expression c.in-Chained.base.value) (view_expression c.deref-in-Chained-3.result.now) c.in-Chained.postfixes.items (ap view_expression c.deref-in-Chained-3.ensures)
    (subst (λ ps. ps ≢ []) c.deref-in-Chained-2.ensures.value c.in_ok-has_postfixes-in-Chained.ensures.ok) c.in_err-value-in-Chained.ensures.gives))

pub check_expression-returns-in_ok-value-in-Chained-clause-gives : goal.check_expression-returns-in_ok-value-in-Chained-clause-gives
check_expression-returns-in_ok-value-in-Chained-clause-gives t c =
    subst (λ x. Gives view_boxed c.check_selection.result (run (rule c.args.scope.now x))) (sym (ap view_expression c.in-Chained.is ∙ view_chained c.in-Chained.base c.in-Chained.postfixes))
    (subst (λ o. Gives view_boxed c.check_selection.result o)
    (after_gives loaded c.args.scope.now c.check_looked-in-Chained.new.scope (view_expression c.in-Chained.base.value) (view_expression c.deref-in-Chained-3.result.now) c.in-Chained.postfixes.items c.deref-in-Chained-4.result.now (place_of_span c.span_of-span.result) (view_boxed c.in_ok-value-in-Chained.value)
    c.in_ok-value-in-Chained.ensures.same (ap view_expression c.deref-in-Chained-3.ensures) c.deref-in-Chained-4.ensures.value (c.span_of-span.ensures ∙ ap (λ x. place_of (view_expression x)) c.deref-in-Chained.ensures)
    (subst (λ ps. ps ≢ []) c.deref-in-Chained-2.ensures.value c.in_ok-has_postfixes-in-Chained.ensures.ok) c.in_ok-value-in-Chained.ensures.gives)
    c.check_selection.ensures.gives)

pub check_place-returns-in_err-has_postfixes-in-Chained-clause-gives : goal.check_place-returns-in_err-has_postfixes-in-Chained-clause-gives
check_place-returns-in_err-has_postfixes-in-Chained-clause-gives t c =
    let e = c.in_err-has_postfixes-in-Chained.field-0.0 in
    let p = err_from_is_err_and (c.from_residual-in_err-has_postfixes-in-Chained).result (c.from_residual-in_err-has_postfixes-in-Chained).ensures.1 in
    let why = c.in_err-has_postfixes-in-Chained.ensures.stops in
    rw (p.1, p.2)
    (subst (λ x. Stops e (run (rule_place c.args.scope.now (place_of_span c.args.span) x (rule c.args.scope.now x)))) (sym (ap view_expression c.in-Chained.is ∙ view_chained c.in-Chained.base c.in-Chained.postfixes))
    (rw why.0
    (after_nothing (λ q. reached) c.args.scope.now (view_expression c.in-Chained.base.value) c.in-Chained.postfixes.items (sym c.deref-in-Chained-2.ensures.value ∙ why.1)
    ∙ ap (λ q. Err (fault_at codes.NotAPlace q)) (sym (c.span_of-start.ensures ∙ ap (λ x. place_of (view_expression x)) c.deref-in-Chained.ensures)))))

pub check_place-returns-in_err-value-in-Chained-clause-gives : goal.check_place-returns-in_err-value-in-Chained-clause-gives
check_place-returns-in_err-value-in-Chained-clause-gives t c =
    let e = c.in_err-value-in-Chained.field-0.0 in
    let p = err_from_is_err_and (c.from_residual-in_err-value-in-Chained).result (c.from_residual-in_err-value-in-Chained).ensures.1 in
    rw (p.1, p.2)
    (subst (λ x. Stops e (run (rule_place c.args.scope.now (place_of_span c.args.span) x (rule c.args.scope.now x)))) (sym (ap view_expression c.in-Chained.is ∙ view_chained c.in-Chained.base c.in-Chained.postfixes))
    (after_stops (λ q. reached) e c.args.scope.now (view_expression c.in-Chained.base.value) (view_expression c.deref-in-Chained-3.result.now) c.in-Chained.postfixes.items (ap view_expression c.deref-in-Chained-3.ensures)
    (subst (λ ps. ps ≢ []) c.deref-in-Chained-2.ensures.value c.in_ok-has_postfixes-in-Chained.ensures.ok) c.in_err-value-in-Chained.ensures.gives))

pub check_place-returns-in_ok-value-in-Chained-clause-gives : goal.check_place-returns-in_ok-value-in-Chained-clause-gives
check_place-returns-in_ok-value-in-Chained-clause-gives t c =
    subst (λ x. Gives view_found c.check_cell.result (run (rule_place c.args.scope.now (place_of_span c.args.span) x (rule c.args.scope.now x)))) (sym (ap view_expression c.in-Chained.is ∙ view_chained c.in-Chained.base c.in-Chained.postfixes))
    (subst (λ o. Gives view_found c.check_cell.result o)
    (after_gives (λ q. reached) c.args.scope.now c.check_looked-in-Chained.new.scope (view_expression c.in-Chained.base.value) (view_expression c.deref-in-Chained-3.result.now) c.in-Chained.postfixes.items c.deref-in-Chained-4.result.now (place_of_span c.span_of-start.result) (view_boxed c.in_ok-value-in-Chained.value)
    c.in_ok-value-in-Chained.ensures.same (ap view_expression c.deref-in-Chained-3.ensures) c.deref-in-Chained-4.ensures.value (c.span_of-start.ensures ∙ ap (λ x. place_of (view_expression x)) c.deref-in-Chained.ensures)
    (subst (λ ps. ps ≢ []) c.deref-in-Chained-2.ensures.value c.in_ok-has_postfixes-in-Chained.ensures.ok) c.in_ok-value-in-Chained.ensures.gives)
    c.check_cell.ensures.gives)

pub check_selection-returns-clause-gives : goal.check_selection-returns-clause-gives
check_selection-returns-clause-gives t c =
    let one = one_of IsReached c.in_ok-cell.cell (run (rule_postfixed c.args.scope.now (place_of_span c.args.span) (gives (view_boxed c.args.value)) (postfixes_of c.args.postfixes.now))) c.in_ok-cell.ensures.gives in
    subst (λ o. Gives view_boxed c.loaded.result (and_then o (λ w. run (loaded (place_of_span c.args.span) w)))) (sym one.1) (c.loaded.ensures one.0 one.2)

-- checking several postfixes (such as `[i]` and `->f`) equals checking the first postfix and then the remaining ones
pub check_postfixes-loop-i-init : goal.check_postfixes-loop-i-init
check_postfixes-loop-i-init t c =
    let one = one_of IsReached c.in_ok-cell.cell (one_postfix c.args.scope.now (place_of_span c.args.span) (view_boxed c.args.value) c.index-postfixes-0.result) c.in_ok-cell.ensures.gives in
    let some : 0 < length c.args.postfixes.now = search rules in
    record {
      same = c.in_ok-cell.ensures.same;
      reached = one.0;
      is = one.2;
      gives = further_starts c.args.scope.now (place_of_span c.args.span) (view_boxed c.args.value) c.args.postfixes.now (drop 1 c.args.postfixes.now) c.index-postfixes-0.result one.0 (drop_read c.args.postfixes.now 0 c.index-postfixes-0.result some c.index-postfixes-0.is) one.1;
    }

pub check_postfixes-returns-in_err-value-clause-gives : goal.check_postfixes-returns-in_err-value-clause-gives
check_postfixes-returns-in_err-value-clause-gives t c =
    let e = c.in_err-value.field-0.0 in
    let p = err_from_is_err_and (c.from_residual-in_err-value).result (c.from_residual-in_err-value).ensures.1 in
    let next = drop_first c.args.postfixes.now c.loop-i.i c.loop-i-test.true in
    rw (p.1, p.2)
    (load_stops e c.args.scope.now (place_of_span c.args.span) c.loop-i.invariant.reached (drop c.loop-i.i c.args.postfixes.now) (drop (c.loop-i.i + 1) c.args.postfixes.now) next.0 _ next.1 (c.in_err-value.ensures c.loop-i.invariant.reached c.loop-i.invariant.is) c.loop-i.invariant.gives)

pub check_postfixes-loop-i-preserved : goal.check_postfixes-loop-i-preserved
check_postfixes-loop-i-preserved t c =
    let p = place_of_span c.args.span in
    let one = one_of IsReached c.in_ok-cell-2.cell (one_postfix c.loop-i.scope p (view_boxed c.in_ok-value.value) c.index-postfixes-i.result) c.in_ok-cell-2.ensures.gives in
    record {
      same = c.in_ok-cell-2.ensures.same ∙ c.loop-i.invariant.same;
      reached = one.0;
      is = one.2;
      gives =
          further_goes_on c.args.scope.now p c.loop-i.invariant.reached one.0 (view_boxed c.in_ok-value.value) (drop c.loop-i.i c.args.postfixes.now) (drop (c.loop-i.i + 1) c.args.postfixes.now) c.index-postfixes-i.result _
          (drop_read c.args.postfixes.now c.loop-i.i c.index-postfixes-i.result c.loop-i-test.true c.index-postfixes-i.is) (c.in_ok-value.ensures c.loop-i.invariant.reached c.loop-i.invariant.is)
          (subst (λ g. one_postfix g p (view_boxed c.in_ok-value.value) c.index-postfixes-i.result ≡ Ok one.0) c.loop-i.invariant.same one.1) c.loop-i.invariant.gives;
    }

-- ---- lists

pub check_values-loop-expression-preserved : goal.check_values-loop-expression-preserved
check_values-loop-expression-preserved t c =
    let is = drop_read c.args.expressions.now c.loop-expression.expression-index c.expression-item.result c.loop-expression-test.true c.expression-item.is in
    record {
      same = c.in_ok-value.ensures.same ∙ c.loop-expression.invariant.same;
      gives =
          values_go_on c.args.scope.now (map value_in c.loop-expression.values.items) _ (drop c.loop-expression.expression-index c.args.expressions.now) _ c.expression-item.result (view_boxed c.in_ok-value.value) _ is
          (subst (λ g. run (rule g (view_expression c.expression-item.result)) ≡ Ok (view_boxed c.in_ok-value.value)) c.loop-expression.invariant.same c.in_ok-value.ensures.gives) c.in_ok-push_value.ensures.pushed c.loop-expression.invariant.gives;
    }

pub check_operations-loop-operation-preserved : goal.check_operations-loop-operation-preserved
check_operations-loop-operation-preserved t c =
    let is = drop_read c.args.operations.now c.loop-operation.operation-index c.operation-item.result c.loop-operation-test.true c.operation-item.is in
    let g = c.args.scope.now in
    let p = place_of_span c.args.first.span in
    let k = peeked_after c.args.first.peeked c.loop-operation.of_type in
    let left = left_of (view_given c.args.first.given) c.loop-operation.of_type in
    let joined = c.in_ok-check_operation.ensures.gives in
    let at =
    operation_at g c.loop-operation.scope p (place_of_span c.left_of-left.result.span) k c.left_of-left.result.peeked left (view_given c.left_of-left.result.given) c.operation-item.result.operator (view_expression c.operation-item.result.operand) _
    c.loop-operation.invariant.same (ap place_of_span c.left_of-left.ensures.span) c.left_of-left.ensures.peeked c.left_of-left.ensures.given joined.2 in
    record {
      same = c.in_ok-check_operation.ensures.same ∙ c.loop-operation.invariant.same;
      gives = chain_goes_on g p k left c.loop-operation.rest.items _ (drop c.loop-operation.operation-index c.args.operations.now) _ c.operation-item.result joined.0 _ _ is at joined.1 c.loop-operation.invariant.gives;
    }

pub check_operations-returns-clause-gives : goal.check_operations-returns-clause-gives
check_operations-returns-clause-gives t c =
    let g = c.args.scope.now in
    let p = place_of_span c.args.first.span in
    let k = peeked_after c.args.first.peeked c.loop-operation.of_type in
    let left = left_of (view_given c.args.first.given) c.loop-operation.of_type in
    chain_ends g p k left c.loop-operation.rest.items (drop c.loop-operation.operation-index c.args.operations.now) _ (drop_all c.loop-operation.operation-index c.args.operations.now c.loop-operation-test.false) c.loop-operation.invariant.gives
    ∙ chain_whole c.loop-operation.rest.items (settled None (value_wanted left p ∷ [])) (value_of left) _ c.in_ok-of_type.ensures

-- ---- new objects

pub check_expression-returns-in_ok-placed-in-New-clause-gives : goal.check_expression-returns-in_ok-placed-in-New-clause-gives
check_expression-returns-in_ok-placed-in-New-clause-gives t c =
    let g = c.args.scope.now in
    let one = one_of IsMade c.in_ok-made-in-New.made (run (rule_made g (view_initial c.deref-in-New.result.now))) c.in_ok-made-in-New.ensures.gives in
    subst (λ y. Gives view_boxed c.created.result (run (rule g y))) (sym (ap view_expression c.in-New.is))
    (subst (λ i. Gives view_boxed c.created.result (and_then (run (rule_made g (view_initial i))) (λ m. run (created on_heap m)))) c.deref-in-New.ensures
    (subst (λ o. Gives view_boxed c.created.result (and_then o (λ m. run (created on_heap m)))) (sym one.1) (c.created.ensures on_heap one.0 c.in_ok-placed-in-New.ensures one.2)))

pub check_expression-returns-in_ok-made-in-RegionNew-clause-gives : goal.check_expression-returns-in_ok-made-in-RegionNew-clause-gives
check_expression-returns-in_ok-made-in-RegionNew-clause-gives t c =
    let g = c.args.scope.now in
    let p = place_of_span c.span_of-in-RegionNew.result in
    let h = view_expression c.deref-in-RegionNew.result.now in
    let k = c.check_placement.new.scope in
    let placed = one_of IsPlaced c.in_ok-placed-in-RegionNew.placed (run (rule_placement g p h (rule g h))) c.in_ok-placed-in-RegionNew.ensures.gives in
    let made = one_of IsMade c.in_ok-made-in-RegionNew.made (run (rule_made k (view_initial c.deref-in-RegionNew-3.result.now))) c.in_ok-made-in-RegionNew.ensures.gives in
    subst (λ y. Gives view_boxed c.created-in-RegionNew.result (run (rule g y))) (sym (ap view_expression c.in-RegionNew.is))
    (subst (λ o. Gives view_boxed c.created-in-RegionNew.result o)
    (region_new_gives g k (view_expression c.in-RegionNew.region.value) h (view_initial c.in-RegionNew.value.value) (view_initial c.deref-in-RegionNew-3.result.now) p (place_of_span c.in-RegionNew.span) placed.0 made.0
    c.in_ok-placed-in-RegionNew.ensures.same (ap view_expression c.deref-in-RegionNew.ensures) (ap view_initial c.deref-in-RegionNew-3.ensures) (c.span_of-in-RegionNew.ensures ∙ ap (λ x. place_of (view_expression x)) c.deref-in-RegionNew-2.ensures) placed.1 made.1)
    (c.created-in-RegionNew.ensures placed.0 made.0 placed.2 made.2))

-- ---- operands that are peeked at

pub check_looked-returns-in-Some-clause-gives : goal.check_looked-returns-in-Some-clause-gives
check_looked-returns-in-Some-clause-gives t c =
    let g = c.args.scope.now in
    subst (λ o. Gives view_boxed c.looked.result o)
    (sym (looked_named g (view_expression c.args.expression.now) (rule g (view_expression c.args.expression.now)) (view_name c.in-Some.name) (sym c.name_in.ensures ∙ ap (option_map view_name) c.in-Some.is)))
    c.looked.ensures

pub check_looked-returns-in-None-clause-gives : goal.check_looked-returns-in-None-clause-gives
check_looked-returns-in-None-clause-gives t c =
    let g = c.args.scope.now in
    subst (λ r. Gives view_boxed c.check_expression.result (run r))
    (sym (looked_unnamed g (view_expression c.args.expression.now) (rule g (view_expression c.args.expression.now)) (sym c.name_in.ensures ∙ ap (option_map view_name) c.in-None.is)))
    c.check_expression.ensures.gives
