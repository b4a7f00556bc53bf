use Rattle.std.proofs.lemmas.Result.{on_ok_weaker}
use Rattle.cyc_words.proofs.Lists.{append_one_part, append_two_parts}
use Rattle.cyc_types.specs.TypedTreeView.{view_expression, arguments_of, operations_of}
use Rattle.cyc_bound.specs.Callees.{callee_of, expression_callees, arguments_callees, operations_callees}
use Rattle.cyc_bound.proofs.CalleesFound.{call_calls, binary_calls, fields_call}
use Rattle.cyc_bound.proofs.callees.+expressions.Goals as goal

pub add_expression-returns-in_ok-add_arguments-in-Call : goal.add_expression-returns-in_ok-add_arguments-in-Call
add_expression-returns-in_ok-add_arguments-in-Call t c =
    let items = c.deref-in-Call.result.now in
    let e = call_calls c.args.value.now c.in-Call.callee c.in-Call.arguments c.in-Call.result c.in-Call.is items c.deref-in-Call.ensures.value in
    on_ok_weaker c.add_callee.result
    (append_two_parts c.add_callee.new.found.items c.add_arguments.new.found.items c.args.found.now.items (arguments_callees (arguments_of items)) (callee_of c.in-Call.callee) (expression_callees (view_expression c.args.value.now)) e c.in_ok-add_arguments-in-Call.ensures)
    c.add_callee.ensures

pub add_expression-returns-in_ok-add_expression-in-Binary : goal.add_expression-returns-in_ok-add_expression-in-Binary
add_expression-returns-in_ok-add_expression-in-Binary t c =
    let first = c.deref-in-Binary.result.now in
    let items = c.deref-in-Binary-2.result.now in
    let e = binary_calls c.args.value.now c.in-Binary.first c.in-Binary.rest c.in-Binary.of_type c.in-Binary.is first c.deref-in-Binary.ensures items c.deref-in-Binary-2.ensures.value in
    on_ok_weaker c.add_operations.result
    (append_two_parts c.add_operations.new.found.items c.add_expression-in-Binary.new.found.items c.args.found.now.items (expression_callees (view_expression first)) (operations_callees (operations_of items)) (expression_callees (view_expression c.args.value.now)) e c.in_ok-add_expression-in-Binary.ensures)
    c.add_operations.ensures

pub add_initial-returns-in-Fields : goal.add_initial-returns-in-Fields
add_initial-returns-in-Fields t c =
    let items = c.deref.result.now in
    let e = fields_call c.args.initial.now c.in-Fields.values c.in-Fields.is items c.deref.ensures.value in
    on_ok_weaker c.add_arguments.result (append_one_part c.add_arguments.new.found.items c.args.found.now.items (arguments_callees (arguments_of items)) _ e) c.add_arguments.ensures
