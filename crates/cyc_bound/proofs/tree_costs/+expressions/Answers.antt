use Rattle.std.proofs.Common.{◌≡◌, ℕ, ◌+◌, ◌*◌, min, length, refl, sym, ap, ◌∙◌, arith}
use Rattle.cyc_types.specs.TypedTreeView.{view_expression, view_dereference, view_placement, view_initial, view_converted, arguments_of, operations_of}
use Rattle.cyc_bound.specs.Costs.{too_many, step_cost, callee_cost, expression_cost, place_cost, converted_cost, placement_cost, initial_cost, fields_cost, arguments_cost, operations_cost}
use Rattle.cyc_bound.proofs.CostsFound.{one_part_cost, two_parts_cost, arguments_next, arguments_all, operations_next, operations_all, fields_next, fields_all, call_costs, binary_costs, new_costs, fields_costs, array_costs}
use Rattle.cyc_bound.proofs.NodeCosts.{load_costs, cell_address_costs, free_key_costs, unary_costs, assign_costs, store_costs}
use Rattle.cyc_bound.proofs.tree_costs.+expressions.Goals as goal

pub expression_cost-returns-in-Call : goal.expression_cost-returns-in-Call
expression_cost-returns-in-Call t c =
    let m = c.args.measure in
    let costs = c.args.costs.now in
    let items = c.deref-in-Call.result.now in
    two_parts_cost (1 * step_cost m) (arguments_cost m costs (arguments_of items)) (callee_cost m costs c.in-Call.callee) c.arguments_cost-evaluated.result c.callee_cost.result c.plus.result c.with_steps-in-Call.result
    (expression_cost m costs (view_expression c.args.value.now)) (call_costs m costs c.args.value.now c.in-Call.callee c.in-Call.arguments c.in-Call.result c.in-Call.is items c.deref-in-Call.ensures.value)
    c.arguments_cost-evaluated.ensures c.callee_cost.ensures c.plus.ensures c.with_steps-in-Call.ensures

pub expression_cost-returns-in-Binary : goal.expression_cost-returns-in-Binary
expression_cost-returns-in-Binary t c =
    let m = c.args.measure in
    let costs = c.args.costs.now in
    let first = c.deref-in-Binary.result.now in
    let items = c.deref-in-Binary-2.result.now in
    two_parts_cost (2 * step_cost m) (expression_cost m costs (view_expression first)) (operations_cost m costs (operations_of items)) c.expression_cost-evaluated.result c.operations_cost.result c.plus-in-Binary.result c.with_steps-in-Binary.result
    (expression_cost m costs (view_expression c.args.value.now)) (binary_costs m costs c.args.value.now c.in-Binary.first c.in-Binary.rest c.in-Binary.of_type c.in-Binary.is first c.deref-in-Binary.ensures items c.deref-in-Binary-2.ensures.value)
    c.expression_cost-evaluated.ensures c.operations_cost.ensures c.plus-in-Binary.ensures c.with_steps-in-Binary.ensures

pub expression_cost-returns-in-New : goal.expression_cost-returns-in-New
expression_cost-returns-in-New t c =
    let m = c.args.measure in
    let costs = c.args.costs.now in
    let i = c.deref-in-New.result.now in
    let site = c.site_of.result in
    two_parts_cost (1 * step_cost m) (placement_cost m costs (view_placement c.in-New.placement)) (initial_cost m costs site (view_initial i)) c.placement_cost-placed.result c.initial_cost-made.result c.plus-in-New.result c.with_steps-in-New.result
    (expression_cost m costs (view_expression c.args.value.now)) (new_costs m costs c.args.value.now c.in-New.placement c.in-New.initial c.in-New.of_type c.in-New.is i c.deref-in-New.ensures site c.site_of.ensures)
    c.placement_cost-placed.ensures c.initial_cost-made.ensures c.plus-in-New.ensures c.with_steps-in-New.ensures

pub expression_cost-returns-in-Load : goal.expression_cost-returns-in-Load
expression_cost-returns-in-Load t c =
    let m = c.args.measure in
    let costs = c.args.costs.now in
    let place = c.deref.result.now in
    one_part_cost (2 * step_cost m) (place_cost m costs (view_dereference place)) c.place_cost.result c.with_steps.result (expression_cost m costs (view_expression c.args.value.now))
    (load_costs m costs c.args.value.now c.in-Load.source c.in-Load.is place c.deref.ensures) c.place_cost.ensures c.with_steps.ensures

pub expression_cost-returns-in-AddressOfCell : goal.expression_cost-returns-in-AddressOfCell
expression_cost-returns-in-AddressOfCell t c =
    let m = c.args.measure in
    let costs = c.args.costs.now in
    let place = c.deref-in-AddressOfCell.result.now in
    one_part_cost (2 * step_cost m) (place_cost m costs (view_dereference place)) c.place_cost-in-AddressOfCell.result c.with_steps-in-AddressOfCell.result (expression_cost m costs (view_expression c.args.value.now))
    (cell_address_costs m costs c.args.value.now c.in-AddressOfCell.place c.in-AddressOfCell.of_type c.in-AddressOfCell.is place c.deref-in-AddressOfCell.ensures) c.place_cost-in-AddressOfCell.ensures c.with_steps-in-AddressOfCell.ensures

pub expression_cost-returns-in-FreeKey : goal.expression_cost-returns-in-FreeKey
expression_cost-returns-in-FreeKey t c =
    let m = c.args.measure in
    let costs = c.args.costs.now in
    let key = c.deref-in-FreeKey.result.now in
    one_part_cost (2 * step_cost m) (expression_cost m costs (view_expression key)) c.expression_cost.result c.with_steps-in-FreeKey.result (expression_cost m costs (view_expression c.args.value.now))
    (free_key_costs m costs c.args.value.now c.in-FreeKey.key c.in-FreeKey.is key c.deref-in-FreeKey.ensures) c.expression_cost.ensures c.with_steps-in-FreeKey.ensures

pub expression_cost-returns-in-Unary : goal.expression_cost-returns-in-Unary
expression_cost-returns-in-Unary t c =
    let m = c.args.measure in
    let costs = c.args.costs.now in
    let operand = c.deref-in-Unary.result.now in
    one_part_cost (2 * step_cost m) (expression_cost m costs (view_expression operand)) c.expression_cost-in-Unary.result c.with_steps-in-Unary.result (expression_cost m costs (view_expression c.args.value.now))
    (unary_costs m costs c.args.value.now c.in-Unary.operator c.in-Unary.operand c.in-Unary.is operand c.deref-in-Unary.ensures) c.expression_cost-in-Unary.ensures c.with_steps-in-Unary.ensures

pub expression_cost-returns-in-Assign : goal.expression_cost-returns-in-Assign
expression_cost-returns-in-Assign t c =
    let m = c.args.measure in
    let costs = c.args.costs.now in
    let value = c.deref-in-Assign.result.now in
    one_part_cost (2 * step_cost m) (converted_cost m costs (view_converted value)) c.converted_cost.result c.with_steps-in-Assign.result (expression_cost m costs (view_expression c.args.value.now))
    (assign_costs m costs c.args.value.now c.in-Assign.target c.in-Assign.value c.in-Assign.result c.in-Assign.is value c.deref-in-Assign.ensures) c.converted_cost.ensures c.with_steps-in-Assign.ensures

pub expression_cost-returns-in-Store : goal.expression_cost-returns-in-Store
expression_cost-returns-in-Store t c =
    let m = c.args.measure in
    let costs = c.args.costs.now in
    let place = c.deref-in-Store.result.now in
    let value = c.deref-in-Store-2.result.now in
    two_parts_cost (2 * step_cost m) (place_cost m costs (view_dereference place)) (converted_cost m costs (view_converted value)) c.place_cost-found.result c.converted_cost-in-Store.result c.plus-in-Store.result c.with_steps-in-Store.result
    (expression_cost m costs (view_expression c.args.value.now)) (store_costs m costs c.args.value.now c.in-Store.target c.in-Store.value c.in-Store.result c.in-Store.is place c.deref-in-Store.ensures value c.deref-in-Store-2.ensures)
    c.place_cost-found.ensures c.converted_cost-in-Store.ensures c.plus-in-Store.ensures c.with_steps-in-Store.ensures

pub initial_cost-returns-in-Fields : goal.initial_cost-returns-in-Fields
initial_cost-returns-in-Fields t c =
    c.fields_cost.ensures
    ∙ ap (λ n. min too_many n) (sym (fields_costs c.args.measure c.args.costs.now c.args.site c.args.initial.now c.in-Fields.values c.in-Fields.is c.deref.result.now c.deref.ensures.value))

pub initial_cost-returns-in-Array : goal.initial_cost-returns-in-Array
initial_cost-returns-in-Array t c =
    let initial = c.in-Array in
    array_costs c.args.measure c.args.costs.now c.args.site c.args.initial.now initial.level initial.length initial.kind initial.element initial.is c.expression_cost-counted.result c.expression_cost-turn.result c.written_length.result c.array_cost.result c.plus-in-Array.result
    c.expression_cost-counted.ensures c.expression_cost-turn.ensures c.written_length.ensures c.array_cost.ensures c.plus-in-Array.ensures

pub fields_cost-bytes_after-bytes-requires : goal.fields_cost-bytes_after-bytes-requires
fields_cost-bytes_after-bytes-requires t c = omega (arith, c.loop-value.invariant.1, c.loop-value-test.true, c.loop-value.auto.value-index-end)

pub fields_cost-loop-value-preserved : goal.fields_cost-loop-value-preserved
fields_cost-loop-value-preserved t c =
    fields_next c.args.measure c.args.costs.now c.args.site c.args.values.now c.loop-value.value-index c.loop-value.total c.loop-value.bytes c.value-item.result c.converted_cost.result c.plus-total.result c.bytes_after-bytes.result
    c.loop-value-test.true c.value-item.is c.loop-value.invariant c.converted_cost.ensures c.plus-total.ensures c.bytes_after-bytes.ensures

pub fields_cost-loop-value-init : goal.fields_cost-loop-value-init
fields_cost-loop-value-init t c = (ap (λ n. min too_many n) (none (fields_cost c.args.measure c.args.costs.now c.args.site 0 0 (arguments_of c.args.values.now))), omega arith)
  where
    none : (n : ℕ) → 0 + n ≡ n
    none n = omega arith

pub fields_cost-returns : goal.fields_cost-returns
fields_cost-returns t c =
    fields_all c.args.measure c.args.costs.now c.args.site c.args.values.now c.loop-value.value-index c.loop-value.total c.loop-value.bytes (length c.args.values.now) c.fields_made_cost.result c.plus.result
    c.loop-value-test.false c.loop-value.auto.value-index-end refl c.loop-value.invariant c.fields_made_cost.ensures c.plus.ensures

pub arguments_cost-loop-argument-preserved : goal.arguments_cost-loop-argument-preserved
arguments_cost-loop-argument-preserved t c =
    arguments_next c.args.measure c.args.costs.now c.args.arguments.now c.loop-argument.argument-index c.loop-argument.total c.argument-item.result c.converted_cost.result c.plus-total.result
    c.loop-argument-test.true c.argument-item.is c.loop-argument.invariant c.converted_cost.ensures c.plus-total.ensures

pub arguments_cost-returns : goal.arguments_cost-returns
arguments_cost-returns t c = arguments_all c.args.measure c.args.costs.now c.args.arguments.now c.loop-argument.argument-index c.loop-argument.total (omega (arith, c.loop-argument-test.false)) c.loop-argument.invariant

pub operations_cost-loop-operation-preserved : goal.operations_cost-loop-operation-preserved
operations_cost-loop-operation-preserved t c =
    operations_next c.args.measure c.args.costs.now c.args.operations.now c.loop-operation.operation-index c.loop-operation.total c.operation-item.result c.operation_cost.result c.plus-total.result
    c.loop-operation-test.true c.operation-item.is c.loop-operation.invariant c.operation_cost.ensures c.plus-total.ensures

pub operations_cost-returns : goal.operations_cost-returns
operations_cost-returns t c = operations_all c.args.measure c.args.costs.now c.args.operations.now c.loop-operation.operation-index c.loop-operation.total (omega (arith, c.loop-operation-test.false)) c.loop-operation.invariant
