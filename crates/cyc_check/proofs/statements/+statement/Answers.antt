use borrow.Enum.Total.{values_d_at}
use borrow.Enum.Known.{ValuesAt}
use Rattle.cyc_syntax.specs.contracts.tree.Stmt.{enum}
use Rattle.std.proofs.Common.{◌≡◌, Some, Ok, OnOk, ◌+◌, [], ◌∷◌, drop, option_map, sym, ap, subst, ◌∙◌}
use Rattle.std.proofs.lemmas.Result.{err_from_is_err_and}
use Rattle.std.proofs.lemmas.List.{drop_all}
use Rattle.cyc_words.proofs.Lists.{drop_read}
use Rattle.cyc_words.proofs.Options.{OnOk-always}
use Rattle.cyc_syntax.specs.declared.tree.Stmt.TheVariants as stmt
use Rattle.cyc_syntax.specs.inside.TreeView.{place_of_span, view_name, view_expression, view_statement, view_item, items_of, clauses_of, default_of}
use Rattle.cyc_syntax.specs.Trees.{NoClauses, Default, Case, Try}
use Rattle.cyc_syntax.specs.Trees as trees
use Rattle.cyc_syntax.proofs.TreeViewLemmas.{view_statement_block, view_labelled, view_try}
use Rattle.cyc_types.specs.TypedTrees as nodes
use Rattle.cyc_types.specs.TypedTreeView as typed_view
use Rattle.cyc_types.specs.Rules.{and_then, demands, run}
use Rattle.cyc_types.specs.typing.Scopes.{in_block, in_labelled, following}
use Rattle.cyc_types.specs.typing.Statements.{new_name_demanded, rule_statement, rule_items, rule_item, rule_clauses}
use Rattle.cyc_scope.specs.inside.Code.{Gives, Stops}
use Rattle.cyc_check.specs.inside.Walks.{following_block, after_labelled, after_clauses}
use Rattle.cyc_statements.specs.inside.Nodes.{view_boxed_statement}
use Rattle.cyc_check.proofs.Blocks.{Walked, walk_starts, walk_goes_on, walk_stops, walk_gives, block_is_left, labelled_is_left, if_after}
use Rattle.cyc_check.proofs.Clauses.{CaughtSoFar, catch_goes_on, catch_stops, default_gives, default_stops, try_after, default_after, clause_is_left, clause_in_order}
use Rattle.cyc_check.proofs.Catches.{try_gives, try_stops, clauses_stop_before}
use Rattle.cyc_check.proofs.statements.+statement.Goals as goal

-- ---- items

pub check_items-returns-in_err-item-clause-gives : goal.check_items-returns-in_err-item-clause-gives
check_items-returns-in_err-item-clause-gives t c =
    let is = drop_read c.args.items.now c.loop-item.item-index c.item-item.result c.loop-item-test.true c.item-item.is in
    let p = err_from_is_err_and c.from_residual-in_err-item.result c.from_residual-in_err-item.ensures.1 in
    rw (p.1, p.2)
    (walk_stops c.in_err-item.field-0.0 c.args.scope.now c.loop-item.scope c.loop-item.all.items (view_item c.item-item.result) (items_of (drop (c.loop-item.item-index + 1) c.args.items.now)) (items_of c.args.items.now)
    (subst (λ xs. Walked c.args.scope.now c.loop-item.scope c.loop-item.all.items (items_of xs) (items_of c.args.items.now)) is c.loop-item.invariant) c.in_err-item.ensures.gives)

pub check_items-loop-item-preserved : goal.check_items-loop-item-preserved
check_items-loop-item-preserved t c =
    let is = drop_read c.args.items.now c.loop-item.item-index c.item-item.result c.loop-item-test.true c.item-item.is in
    rw (c.in_ok-item.ensures.following, c.in_ok-push.ensures.items)
    (walk_goes_on c.args.scope.now c.loop-item.scope c.loop-item.all.items (view_item c.item-item.result) (items_of (drop (c.loop-item.item-index + 1) c.args.items.now)) (items_of c.args.items.now) c.in_ok-item.item
    (subst (λ xs. Walked c.args.scope.now c.loop-item.scope c.loop-item.all.items (items_of xs) (items_of c.args.items.now)) is c.loop-item.invariant) c.in_ok-item.ensures.gives)

pub check_items-returns-clause-gives : goal.check_items-returns-clause-gives
check_items-returns-clause-gives t c =
    walk_gives c.args.scope.now c.loop-item.scope c.loop-item.all.items (items_of c.args.items.now)
    (subst (λ xs. Walked c.args.scope.now c.loop-item.scope c.loop-item.all.items (items_of xs) (items_of c.args.items.now)) (drop_all c.loop-item.item-index c.args.items.now c.loop-item-test.false) c.loop-item.invariant)

pub check_items-loop-item-init : goal.check_items-loop-item-init
check_items-loop-item-init t c = rw c.in_ok-all.ensures.items (walk_starts c.args.scope.now (items_of c.args.items.now))

pub check_item-returns-in-Local-clause-gives : goal.check_item-returns-in-Local-clause-gives
check_item-returns-in-Local-clause-gives t c =
    subst (λ i. Gives typed_view.view_item c.check_local.result (run (rule_item c.args.scope.now i))) (sym (ap view_item c.in-Local.is)) c.check_local.ensures.gives

-- ---- blocks

pub check_statement-returns-in-Block-clause-gives : goal.check_statement-returns-in-Block-clause-gives
check_statement-returns-in-Block-clause-gives t c =
    subst (λ s. Gives view_boxed_statement c.check_block.result (run (rule_statement c.args.scope.now s))) (sym (ap view_statement c.in-Block.is ∙ view_statement_block c.in-Block.block))
    (subst (λ is. Gives view_boxed_statement c.check_block.result (and_then (run (rule_items (in_block c.args.scope.now) (items_of is))) (λ js. Ok (nodes.Block c.args.scope.now.next_region js)))) c.deref.ensures.value c.check_block.ensures.gives)

pub check_statement-returns-in-Block-clause-following : goal.check_statement-returns-in-Block-clause-following
check_statement-returns-in-Block-clause-following t c =
    subst (λ s. OnOk c.check_block.result (c.check_block.new.scope ≡ following c.args.scope.now s)) (sym (ap view_statement c.in-Block.is ∙ view_statement_block c.in-Block.block))
    (subst (λ is. OnOk c.check_block.result (c.check_block.new.scope ≡ following_block c.args.scope.now (items_of is))) c.deref.ensures.value c.check_block.ensures.following)

pub check_statement-returns-in-Labelled-clause-gives : goal.check_statement-returns-in-Labelled-clause-gives
check_statement-returns-in-Labelled-clause-gives t c =
    let l = view_name c.in-Labelled.label in
    let g = c.args.scope.now in
    subst (λ s. Gives view_boxed_statement c.check_labelled.result (run (rule_statement g s))) (sym (ap view_statement c.in-Labelled.is ∙ view_labelled c.in-Labelled.label c.in-Labelled.block))
    (subst (λ is. Gives view_boxed_statement c.check_labelled.result (and_then (run (demands (new_name_demanded g l ∷ []))) (λ u. and_then (run (rule_items (in_labelled l g) (items_of is))) (λ js. Ok (nodes.Block g.next_region js))))) c.deref-in-Labelled.ensures.value c.check_labelled.ensures.gives)

pub check_statement-returns-in-Labelled-clause-following : goal.check_statement-returns-in-Labelled-clause-following
check_statement-returns-in-Labelled-clause-following t c =
    subst (λ s. OnOk c.check_labelled.result (c.check_labelled.new.scope ≡ following c.args.scope.now s)) (sym (ap view_statement c.in-Labelled.is ∙ view_labelled c.in-Labelled.label c.in-Labelled.block))
    (subst (λ is. OnOk c.check_labelled.result (c.check_labelled.new.scope ≡ after_labelled c.args.scope.now (view_name c.in-Labelled.label) (items_of is))) c.deref-in-Labelled.ensures.value c.check_labelled.ensures.following)

pub check_block-returns-clause-following : goal.check_block-returns-clause-following
check_block-returns-clause-following t c =
    OnOk-always c.block_of.result _
    (c.leave.ensures ∙ block_is_left c.args.scope.now c.enter_block.new.self c.check_items.new.scope c.mark-mark.result (items_of c.args.items.now) c.mark-mark.ensures.mark c.in_ok-enter_block.ensures.entered c.in_ok-items.ensures.inside)

pub check_labelled-returns-clause-following : goal.check_labelled-returns-clause-following
check_labelled-returns-clause-following t c =
    OnOk-always c.block_of.result _
    (c.leave.ensures
    ∙ labelled_is_left c.args.scope.now c.enter_labelled.new.self c.check_items.new.scope c.mark-mark.result (view_name c.args.label) (items_of c.args.items.now) c.mark-mark.ensures.mark c.in_ok-enter_labelled.ensures.entered c.in_ok-items.ensures.inside)

pub check_default-returns-clause-following : goal.check_default-returns-clause-following
check_default-returns-clause-following t c =
    c.leave.ensures ∙ block_is_left c.args.scope.now c.enter_block.new.self c.check_items.new.scope c.mark-mark.result (items_of c.args.items.now) c.mark-mark.ensures.mark c.in_ok-enter_block.ensures.entered c.in_ok-items.ensures.inside

-- ---- statements whose expressions the code holds by reference

pub check_statement-returns-in-Return-clause-gives : goal.check_statement-returns-in-Return-clause-gives
check_statement-returns-in-Return-clause-gives t c =
    subst (λ s. Gives view_boxed_statement c.check_return.result (run (rule_statement c.args.scope.now s))) (sym (ap view_statement c.in-Return.is)) c.check_return.ensures.gives

pub check_statement-returns-in-Swap-clause-gives : goal.check_statement-returns-in-Swap-clause-gives
check_statement-returns-in-Swap-clause-gives t c =
    subst (λ s. Gives view_boxed_statement c.check_swap.result (run (rule_statement c.args.scope.now s))) (sym (ap view_statement c.in-Swap.is)) c.check_swap.ensures.gives

-- ---- clauses

pub check_clause-leave-requires : goal.check_clause-leave-requires
check_clause-leave-requires t c =
    clause_in_order c.args.scope.now c.enter_block.new.self c.declare_caught.new.scope c.check_items.new.scope c.mark-mark.result (option_map view_name c.args.clause.now.variable) (items_of c.deref.result.now)
    c.mark-mark.ensures.mark c.in_ok-enter_block.ensures.entered c.in_ok-number.ensures.caught c.mark-mark.ensures.order c.in_ok-items.ensures.inside

pub check_clause-returns-clause-following : goal.check_clause-returns-clause-following
check_clause-returns-clause-following t c =
    c.leave.ensures
    ∙ clause_is_left c.args.scope.now c.enter_block.new.self c.declare_caught.new.scope c.check_items.new.scope c.mark-mark.result (view_name c.args.clause.now.exception) (option_map view_name c.args.clause.now.variable) (items_of c.deref.result.now)
    c.mark-mark.ensures.mark c.in_ok-enter_block.ensures.entered c.in_ok-number.ensures.caught c.in_ok-items.ensures.inside
    ∙ ap (λ is. after_clauses c.args.scope.now (Case (view_name c.args.clause.now.exception) (option_map view_name c.args.clause.now.variable) (items_of is) NoClauses)) c.deref.ensures.value

pub check_clauses-loop-clause-preserved : goal.check_clauses-loop-clause-preserved
check_clauses-loop-clause-preserved t c =
    let z = c.clause-item.result in
    let is = drop_read c.args.clauses.now c.loop-clause.clause-index c.clause-item.result c.loop-clause-test.true c.clause-item.is in
    rw (c.in_ok-clause.ensures.before, c.in_ok-push.ensures.items)
    (catch_goes_on c.args.scope.now c.loop-clause.scope c.check_clause.new.scope c.loop-clause.before c.loop-clause.all.items (view_name z.exception) (option_map view_name z.variable) (items_of z.items.items)
    (clauses_of (drop (c.loop-clause.clause-index + 1) c.args.clauses.now) NoClauses) (clauses_of c.args.clauses.now NoClauses) c.in_ok-clause.clause
    (subst (λ xs. CaughtSoFar c.args.scope.now c.loop-clause.scope c.loop-clause.before c.loop-clause.all.items (clauses_of xs NoClauses) (clauses_of c.args.clauses.now NoClauses)) is c.loop-clause.invariant)
    c.in_ok-clause.ensures.gives c.in_ok-clause.ensures.following)

pub check_clauses-returns-in_err-clause-clause-gives : goal.check_clauses-returns-in_err-clause-clause-gives
check_clauses-returns-in_err-clause-clause-gives t c =
    let z = c.clause-item.result in
    let is = drop_read c.args.clauses.now c.loop-clause.clause-index c.clause-item.result c.loop-clause-test.true c.clause-item.is in
    let p = err_from_is_err_and c.from_residual.result c.from_residual.ensures.1 in
    rw (p.1, p.2)
    (catch_stops c.in_err-clause.field-0.0 c.args.scope.now c.loop-clause.scope c.loop-clause.before c.loop-clause.all.items (view_name z.exception) (option_map view_name z.variable) (items_of z.items.items)
    (clauses_of (drop (c.loop-clause.clause-index + 1) c.args.clauses.now) NoClauses) (clauses_of c.args.clauses.now NoClauses)
    (subst (λ xs. CaughtSoFar c.args.scope.now c.loop-clause.scope c.loop-clause.before c.loop-clause.all.items (clauses_of xs NoClauses) (clauses_of c.args.clauses.now NoClauses)) is c.loop-clause.invariant) c.in_err-clause.ensures.gives)

-- ---- a catch, and the two branches of an `if`

pub check_statement-returns-in_err-clauses-in-Try-clause-gives : goal.check_statement-returns-in_err-clauses-in-Try-clause-gives
check_statement-returns-in_err-clauses-in-Try-clause-gives t c =
    let g = c.args.scope.now in
    let h = c.check_statement-in-Try.new.scope in
    let p = place_of_span c.in-Try.span in
    let t' = view_statement c.in-Try.body.value in
    let cs = c.in-Try.clauses.items in
    let b = view_boxed_statement c.in_ok-body-in-Try.body in
    let body = subst (λ x. run (rule_statement g (view_statement x)) ≡ Ok b) c.deref-in-Try.ensures c.in_ok-body-in-Try.ensures.gives in
    let same = c.in_ok-body-in-Try.ensures.following ∙ ap (λ x. following g (view_statement x)) c.deref-in-Try.ensures in
    let viewed = ap view_statement c.in-Try.is ∙ view_try c.in-Try.span c.in-Try.body c.in-Try.clauses c.in-Try.default in
    let e = c.in_err-clauses-in-Try.field-0.0 in
    let q = err_from_is_err_and (c.from_residual-in_err-clauses-in-Try).result (c.from_residual-in_err-clauses-in-Try).ensures.1 in
    rw (q.1, q.2)
    (subst (λ s. Stops e (run (rule_statement g s))) (sym viewed)
    (try_stops e g h p t' (clauses_of cs (default_of c.in-Try.default)) b body same
    (clauses_stop_before e h cs c.in-Try.default (subst (λ xs. Stops e (run (rule_clauses h [] (clauses_of xs NoClauses)))) c.deref-in-Try-2.ensures.value c.in_err-clauses-in-Try.ensures.gives))))

pub check_statement-returns-in-None-clause-gives : goal.check_statement-returns-in-None-clause-gives
check_statement-returns-in-None-clause-gives t c =
    let g = c.args.scope.now in
    let h = c.check_statement-in-Try.new.scope in
    let p = place_of_span c.in-Try.span in
    let t' = view_statement c.in-Try.body.value in
    let cs = c.in-Try.clauses.items in
    let b = view_boxed_statement c.in_ok-body-in-Try.body in
    let body = subst (λ x. run (rule_statement g (view_statement x)) ≡ Ok b) c.deref-in-Try.ensures c.in_ok-body-in-Try.ensures.gives in
    let same = c.in_ok-body-in-Try.ensures.following ∙ ap (λ x. following g (view_statement x)) c.deref-in-Try.ensures in
    let viewed = ap view_statement c.in-Try.is ∙ view_try c.in-Try.span c.in-Try.body c.in-Try.clauses c.in-Try.default ∙ ap (λ o. Try p t' (clauses_of cs (default_of o))) c.in-None.is in
    let made = typed_view.clauses_of c.in_ok-clauses-in-Try.clauses.items nodes.NoClauses in
    let caught = subst (λ xs. run (rule_clauses h [] (clauses_of xs NoClauses)) ≡ Ok made) c.deref-in-Try-2.ensures.value c.in_ok-clauses-in-Try.ensures.gives in
    subst (λ s. Gives view_boxed_statement c.try_of.result (run (rule_statement g s))) (sym viewed)
    (subst (λ o. Gives view_boxed_statement c.try_of.result o) (sym (try_gives g h p t' (clauses_of cs NoClauses) b made body same caught)) c.try_of.ensures)

pub check_statement-returns-in-None-clause-following : goal.check_statement-returns-in-None-clause-following
check_statement-returns-in-None-clause-following t c =
    let g = c.args.scope.now in
    let h = c.check_statement-in-Try.new.scope in
    let p = place_of_span c.in-Try.span in
    let t' = view_statement c.in-Try.body.value in
    let cs = c.in-Try.clauses.items in
    let b = view_boxed_statement c.in_ok-body-in-Try.body in
    let body = subst (λ x. run (rule_statement g (view_statement x)) ≡ Ok b) c.deref-in-Try.ensures c.in_ok-body-in-Try.ensures.gives in
    let same = c.in_ok-body-in-Try.ensures.following ∙ ap (λ x. following g (view_statement x)) c.deref-in-Try.ensures in
    let viewed = ap view_statement c.in-Try.is ∙ view_try c.in-Try.span c.in-Try.body c.in-Try.clauses c.in-Try.default ∙ ap (λ o. Try p t' (clauses_of cs (default_of o))) c.in-None.is in
    let ends = c.in_ok-clauses-in-Try.ensures.following ∙ ap (λ xs. after_clauses h (clauses_of xs NoClauses)) c.deref-in-Try-2.ensures.value in
    OnOk-always c.try_of.result _ (ends ∙ ap (λ x. after_clauses x (clauses_of cs NoClauses)) same ∙ try_after g p t' (clauses_of cs NoClauses) ∙ ap (following g) (sym viewed))

pub check_statement-returns-in_err-default-in-Some-clause-gives : goal.check_statement-returns-in_err-default-in-Some-clause-gives
check_statement-returns-in_err-default-in-Some-clause-gives t c =
    let g = c.args.scope.now in
    let h = c.check_statement-in-Try.new.scope in
    let p = place_of_span c.in-Try.span in
    let t' = view_statement c.in-Try.body.value in
    let cs = c.in-Try.clauses.items in
    let b = view_boxed_statement c.in_ok-body-in-Try.body in
    let body = subst (λ x. run (rule_statement g (view_statement x)) ≡ Ok b) c.deref-in-Try.ensures c.in_ok-body-in-Try.ensures.gives in
    let same = c.in_ok-body-in-Try.ensures.following ∙ ap (λ x. following g (view_statement x)) c.deref-in-Try.ensures in
    let viewed = ap view_statement c.in-Try.is ∙ view_try c.in-Try.span c.in-Try.body c.in-Try.clauses c.in-Try.default ∙ ap (λ o. Try p t' (clauses_of cs (default_of o))) c.in-Some.is in
    let made = typed_view.clauses_of c.in_ok-clauses-in-Try.clauses.items nodes.NoClauses in
    let caught = subst (λ xs. run (rule_clauses h [] (clauses_of xs NoClauses)) ≡ Ok made) c.deref-in-Try-2.ensures.value c.in_ok-clauses-in-Try.ensures.gives in
    let ends = c.in_ok-clauses-in-Try.ensures.following ∙ ap (λ xs. after_clauses h (clauses_of xs NoClauses)) c.deref-in-Try-2.ensures.value in
    let e = c.in_err-default-in-Some.field-0.0 in
    let q = err_from_is_err_and (c.from_residual-in_err-default-in-Some).result (c.from_residual-in_err-default-in-Some).ensures.1 in
    rw (q.1, q.2)
    (subst (λ s. Stops e (run (rule_statement g s))) (sym viewed)
    (try_stops e g h p t' (clauses_of cs (Default (items_of c.in-Some.items.items))) b body same
    (default_stops e h cs c.in_ok-clauses-in-Try.clauses.items (items_of c.in-Some.items.items) caught
    (subst (λ k. Stops e (and_then (run (rule_items (in_block k) (items_of c.in-Some.items.items))) (λ js. Ok (nodes.Default k.next_region js)))) ends
    (subst (λ is. Stops e (and_then (run (rule_items (in_block c.check_clauses.new.scope) (items_of is))) (λ js. Ok (nodes.Default c.check_clauses.new.scope.next_region js)))) c.deref-in-Some.ensures.value c.in_err-default-in-Some.ensures.gives)))))

pub check_statement-returns-in_ok-default-in-Some-clause-gives : goal.check_statement-returns-in_ok-default-in-Some-clause-gives
check_statement-returns-in_ok-default-in-Some-clause-gives t c =
    let g = c.args.scope.now in
    let h = c.check_statement-in-Try.new.scope in
    let p = place_of_span c.in-Try.span in
    let t' = view_statement c.in-Try.body.value in
    let cs = c.in-Try.clauses.items in
    let b = view_boxed_statement c.in_ok-body-in-Try.body in
    let body = subst (λ x. run (rule_statement g (view_statement x)) ≡ Ok b) c.deref-in-Try.ensures c.in_ok-body-in-Try.ensures.gives in
    let same = c.in_ok-body-in-Try.ensures.following ∙ ap (λ x. following g (view_statement x)) c.deref-in-Try.ensures in
    let viewed = ap view_statement c.in-Try.is ∙ view_try c.in-Try.span c.in-Try.body c.in-Try.clauses c.in-Try.default ∙ ap (λ o. Try p t' (clauses_of cs (default_of o))) c.in-Some.is in
    let made = typed_view.clauses_of c.in_ok-clauses-in-Try.clauses.items nodes.NoClauses in
    let caught = subst (λ xs. run (rule_clauses h [] (clauses_of xs NoClauses)) ≡ Ok made) c.deref-in-Try-2.ensures.value c.in_ok-clauses-in-Try.ensures.gives in
    let ends = c.in_ok-clauses-in-Try.ensures.following ∙ ap (λ xs. after_clauses h (clauses_of xs NoClauses)) c.deref-in-Try-2.ensures.value in
    let d = nodes.Default c.in_ok-default-in-Some.default.region (typed_view.items_of c.in_ok-default-in-Some.default.items.items) in
    let whole =
    default_gives h cs c.in_ok-clauses-in-Try.clauses.items (items_of c.in-Some.items.items) d caught
    (subst (λ k. and_then (run (rule_items (in_block k) (items_of c.in-Some.items.items))) (λ js. Ok (nodes.Default k.next_region js)) ≡ Ok d) ends
    (subst (λ is. and_then (run (rule_items (in_block c.check_clauses.new.scope) (items_of is))) (λ js. Ok (nodes.Default c.check_clauses.new.scope.next_region js)) ≡ Ok d) c.deref-in-Some.ensures.value c.in_ok-default-in-Some.ensures.gives)) in
    subst (λ s. Gives view_boxed_statement c.try_of-in-Some.result (run (rule_statement g s))) (sym viewed)
    (subst (λ o. Gives view_boxed_statement c.try_of-in-Some.result o) (sym (try_gives g h p t' (clauses_of cs (Default (items_of c.in-Some.items.items))) b (typed_view.clauses_of c.in_ok-clauses-in-Try.clauses.items d) body same whole)) c.try_of-in-Some.ensures)

pub check_statement-returns-in_ok-default-in-Some-clause-following : goal.check_statement-returns-in_ok-default-in-Some-clause-following
check_statement-returns-in_ok-default-in-Some-clause-following t c =
    let g = c.args.scope.now in
    let h = c.check_statement-in-Try.new.scope in
    let p = place_of_span c.in-Try.span in
    let t' = view_statement c.in-Try.body.value in
    let cs = c.in-Try.clauses.items in
    let b = view_boxed_statement c.in_ok-body-in-Try.body in
    let body = subst (λ x. run (rule_statement g (view_statement x)) ≡ Ok b) c.deref-in-Try.ensures c.in_ok-body-in-Try.ensures.gives in
    let same = c.in_ok-body-in-Try.ensures.following ∙ ap (λ x. following g (view_statement x)) c.deref-in-Try.ensures in
    let viewed = ap view_statement c.in-Try.is ∙ view_try c.in-Try.span c.in-Try.body c.in-Try.clauses c.in-Try.default ∙ ap (λ o. Try p t' (clauses_of cs (default_of o))) c.in-Some.is in
    let ends = c.in_ok-clauses-in-Try.ensures.following ∙ ap (λ xs. after_clauses h (clauses_of xs NoClauses)) c.deref-in-Try-2.ensures.value in
    OnOk-always c.try_of-in-Some.result _
    (c.in_ok-default-in-Some.ensures.following ∙ ap (λ is. following_block c.check_clauses.new.scope (items_of is)) c.deref-in-Some.ensures.value ∙ ap (λ k. following_block k (items_of c.in-Some.items.items)) ends
    ∙ default_after h cs (items_of c.in-Some.items.items) ∙ ap (λ x. after_clauses x (clauses_of cs (Default (items_of c.in-Some.items.items)))) same
    ∙ try_after g p t' (clauses_of cs (Default (items_of c.in-Some.items.items))) ∙ ap (following g) (sym viewed))

pub check_statement-returns-in_ok-otherwise-in-If-default-default-default-Some-clause-following : goal.check_statement-returns-in_ok-otherwise-in-If-default-default-default-Some-clause-following
check_statement-returns-in_ok-otherwise-in-If-default-default-default-Some-clause-following t c =
    let taken = rw c.in-If-default-default-default-Some.is at c.in-If-default-default-default-Some.otherwise-is in
    let held : c.in-If-default-default-default-Some.otherwise' ≡ Some c.in-If-default-default-default-Some.otherwise = sym (ap (λ (v : ValuesAt enum.parts 5). v.1.1.1.0) (values_d_at enum 5 _ (c.in-If-default-default-default-Some.span, (c.in-If-default-default-default-Some.condition, (c.in-If-default-default-default-Some.then, (c.in-If-default-default-default-Some.otherwise', tt)))))) ∙ taken in
    let other = rw c.in-If-default-default-default-Some.otherwise-is at c.deref-in-If-default-default-default-Some-2.ensures in
    let is : view_statement c.args.statement.now ≡ trees.IfElse (place_of_span c.in-If-default-default-default-Some.span) (view_expression c.in-If-default-default-default-Some.condition) (view_statement c.deref-in-If-default-default-default-Some.result.now) (view_statement c.deref-in-If-default-default-default-Some-2.result.now) =
    ap view_statement c.in-If-default-default-default-Some.is ∙ ap (λ o. view_statement (stmt.If c.in-If-default-default-default-Some.span c.in-If-default-default-default-Some.condition c.in-If-default-default-default-Some.then o)) held
    ∙ sym (ap (λ (s : trees.Statement). trees.IfElse (place_of_span c.in-If-default-default-default-Some.span) (view_expression c.in-If-default-default-default-Some.condition) s (view_statement c.deref-in-If-default-default-default-Some-2.result.now)) (ap view_statement c.deref-in-If-default-default-default-Some.ensures)
    ∙ ap (λ (s : trees.Statement). trees.IfElse (place_of_span c.in-If-default-default-default-Some.span) (view_expression c.in-If-default-default-default-Some.condition) (view_statement c.in-If-default-default-default-Some.then.value) s) (ap view_statement other)) in
    OnOk-always c.choice-in-If-default-default-default-Some.result _
    (c.in_ok-otherwise-in-If-default-default-default-Some.ensures.following ∙ ap (λ x. following x (view_statement c.deref-in-If-default-default-default-Some-2.result.now)) c.in_ok-then-in-If-default-default-default-Some.ensures.following
    ∙ ap (λ x. following (following x (view_statement c.deref-in-If-default-default-default-Some.result.now)) (view_statement c.deref-in-If-default-default-default-Some-2.result.now)) c.in_ok-condition-in-If-default-default-default-Some.ensures.same
    ∙ if_after c.args.scope.now (place_of_span c.in-If-default-default-default-Some.span) (view_expression c.in-If-default-default-default-Some.condition) (view_statement c.deref-in-If-default-default-default-Some.result.now) (view_statement c.deref-in-If-default-default-default-Some-2.result.now) ∙ ap (following c.args.scope.now) (sym is))
