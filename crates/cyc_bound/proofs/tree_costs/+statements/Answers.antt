use Rattle.std.proofs.Common.{◌≡◌, ℕ, ◌+◌, ◌*◌, min, max, ap, ◌∙◌, arith}
use Rattle.std.specs.Prelude.{option_map}
use Rattle.cyc_types.specs.TypedTreeView.{view_expression, view_converted, view_side, view_statement, items_of, clauses_of, default_of}
use Rattle.cyc_bound.specs.Costs.{too_many, step_cost, expression_cost, value_cost, thrown_cost, side_cost, statement_cost, items_cost, clauses_cost}
use Rattle.cyc_bound.specs.inside.ItemCosts.{clauses_then}
use Rattle.cyc_bound.proofs.CostsFound.{one_part_cost, two_parts_cost, items_next, items_all, clauses_next, clauses_all, clauses_capped, block_costs, loop_costs, try_costs}
use Rattle.cyc_bound.proofs.NodeCosts.{evaluate_costs, swap_costs, return_costs, throw_costs}
use Rattle.cyc_bound.proofs.tree_costs.+statements.Goals as goal

pub statement_cost-returns-in-Block : goal.statement_cost-returns-in-Block
statement_cost-returns-in-Block t c =
    let m = c.args.measure in
    let costs = c.args.costs.now in
    let items = c.deref.result.now in
    one_part_cost (3 * step_cost m) (items_cost m costs (items_of items)) c.items_cost.result c.with_steps.result (statement_cost m costs (view_statement c.args.statement.now))
    (block_costs m costs c.args.statement.now c.in-Block.region c.in-Block.items c.in-Block.is items c.deref.ensures.value) c.items_cost.ensures c.with_steps.ensures

pub statement_cost-returns-in-Try : goal.statement_cost-returns-in-Try
statement_cost-returns-in-Try t c =
    let m = c.args.measure in
    let costs = c.args.costs.now in
    let body = c.deref-in-Try.result.now in
    let clauses = c.deref-in-Try-2.result.now in
    let caught = clauses_capped m costs clauses c.in-Try.default c.default_cost-last.result c.clauses_cost-caught.result c.default_cost-last.ensures c.clauses_cost-caught.ensures in
    two_parts_cost (1 * step_cost m) (statement_cost m costs (view_statement body)) (clauses_cost m costs (clauses_of clauses (default_of c.in-Try.default))) c.statement_cost-tried.result c.clauses_cost-caught.result c.plus-in-Try.result c.with_steps-in-Try.result
    (statement_cost m costs (view_statement c.args.statement.now)) (try_costs m costs c.args.statement.now c.in-Try.body c.in-Try.clauses c.in-Try.default c.in-Try.is body c.deref-in-Try.ensures clauses c.deref-in-Try-2.ensures.value)
    c.statement_cost-tried.ensures caught c.plus-in-Try.ensures c.with_steps-in-Try.ensures

pub statement_cost-returns-in-While : goal.statement_cost-returns-in-While
statement_cost-returns-in-While t c =
    loop_costs c.args.measure c.args.costs.now c.args.statement.now c.in-While.condition c.in-While.body c.in-While.is c.deref-in-While.result.now c.deref-in-While.ensures
    c.expression_cost-tested-in-While.result c.statement_cost-in-While.result c.plus-turn.result c.with_steps-in-While.result c.loop_cost.result
    c.expression_cost-tested-in-While.ensures c.statement_cost-in-While.ensures c.plus-turn.ensures c.with_steps-in-While.ensures c.loop_cost.ensures

pub statement_cost-returns-in-Evaluate : goal.statement_cost-returns-in-Evaluate
statement_cost-returns-in-Evaluate t c =
    let m = c.args.measure in
    let costs = c.args.costs.now in
    one_part_cost (2 * step_cost m) (expression_cost m costs (view_expression c.in-Evaluate.value)) c.expression_cost.result c.with_steps-in-Evaluate.result (statement_cost m costs (view_statement c.args.statement.now))
    (evaluate_costs m costs c.args.statement.now c.in-Evaluate.value c.in-Evaluate.is) c.expression_cost.ensures c.with_steps-in-Evaluate.ensures

pub statement_cost-returns-in-Swap : goal.statement_cost-returns-in-Swap
statement_cost-returns-in-Swap t c =
    let m = c.args.measure in
    let costs = c.args.costs.now in
    two_parts_cost (7 * step_cost m) (side_cost m costs (view_side c.in-Swap.left)) (side_cost m costs (view_side c.in-Swap.right)) c.side_cost-found.result c.side_cost.result c.plus.result c.with_steps-in-Swap.result
    (statement_cost m costs (view_statement c.args.statement.now)) (swap_costs m costs c.args.statement.now c.in-Swap.left c.in-Swap.right c.in-Swap.is)
    c.side_cost-found.ensures c.side_cost.ensures c.plus.ensures c.with_steps-in-Swap.ensures

pub statement_cost-returns-in-Return : goal.statement_cost-returns-in-Return
statement_cost-returns-in-Return t c =
    let m = c.args.measure in
    let costs = c.args.costs.now in
    one_part_cost (2 * step_cost m) (value_cost m costs (option_map view_converted c.in-Return.value)) c.value_cost.result c.with_steps-in-Return.result (statement_cost m costs (view_statement c.args.statement.now))
    (return_costs m costs c.args.statement.now c.in-Return.value c.in-Return.is) c.value_cost.ensures c.with_steps-in-Return.ensures

pub statement_cost-returns-in-Throw : goal.statement_cost-returns-in-Throw
statement_cost-returns-in-Throw t c =
    let m = c.args.measure in
    let costs = c.args.costs.now in
    one_part_cost (2 * step_cost m) (thrown_cost m costs (option_map view_expression c.in-Throw.value)) c.thrown_cost.result c.with_steps-in-Throw.result (statement_cost m costs (view_statement c.args.statement.now))
    (throw_costs m costs c.args.statement.now c.in-Throw.tag c.in-Throw.value c.in-Throw.is) c.thrown_cost.ensures c.with_steps-in-Throw.ensures

pub items_cost-loop-item-preserved : goal.items_cost-loop-item-preserved
items_cost-loop-item-preserved t c =
    items_next c.args.measure c.args.costs.now c.args.items.now c.loop-item.item-index c.loop-item.total c.item-item.result c.item_cost.result c.plus-total.result
    c.loop-item-test.true c.item-item.is c.loop-item.invariant c.item_cost.ensures c.plus-total.ensures

pub items_cost-loop-item-init : goal.items_cost-loop-item-init
items_cost-loop-item-init t c = ap (λ n. min too_many n) (none (items_cost c.args.measure c.args.costs.now (items_of c.args.items.now)))
  where
    none : (n : ℕ) → 0 + n ≡ n
    none n = omega arith

pub items_cost-returns : goal.items_cost-returns
items_cost-returns t c =
    items_all c.args.measure c.args.costs.now c.args.items.now c.loop-item.item-index c.loop-item.total c.with_steps.result (omega (arith, c.loop-item-test.false)) c.loop-item.invariant c.with_steps.ensures

pub clauses_cost-loop-clause-init : goal.clauses_cost-loop-clause-init
clauses_cost-loop-clause-init t c = (ap (λ n. min too_many n) (none (clauses_then c.args.measure c.args.costs.now c.args.clauses.now c.args.last)), omega arith)
  where
    none : (n : ℕ) → max 0 (0 + n) ≡ n
    none n = omega arith

pub clauses_cost-loop-clause-preserved : goal.clauses_cost-loop-clause-preserved
clauses_cost-loop-clause-preserved t c =
    clauses_next c.args.measure c.args.costs.now c.args.clauses.now c.args.last c.loop-clause.clause-index c.loop-clause.tried c.loop-clause.most c.clause-item.result
    c.items_cost-items.result c.caught_cost.result c.with_steps-tried.result c.plus.result c.greater-most.result
    c.loop-clause-test.true c.clause-item.is c.loop-clause.invariant
    (c.items_cost-items.ensures ∙ ap (λ js. min too_many (items_cost c.args.measure c.args.costs.now (items_of js))) c.deref.ensures.value)
    c.with_steps-tried.ensures c.caught_cost.ensures c.plus.ensures c.greater-most.ensures

pub clauses_cost-returns : goal.clauses_cost-returns
clauses_cost-returns t c =
    clauses_all c.args.measure c.args.costs.now c.args.clauses.now c.args.last c.loop-clause.clause-index c.loop-clause.tried c.loop-clause.most c.plus-2.result c.greater.result
    (omega (arith, c.loop-clause-test.false)) c.loop-clause.invariant c.plus-2.ensures c.greater.ensures
