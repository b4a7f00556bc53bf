use Rattle.std.proofs.Common.{arith}
use borrow.Author.Rules.{rules, get_or_read}
use Rattle.cyc_types.specs.declared.ty.Ty.TheFolds as types
use Rattle.cyc_types.specs.declared.typed.Dereference.TheFolds as expressions
use Rattle.cyc_sizes.proofs.TokensCounted.{argument_left, call_weighs, fields_weigh, binary_weighs}
use Rattle.cyc_sizes.proofs.weights.+expressions.Goals as goal

pub arguments_weight-expression_weight-requires : goal.arguments_weight-expression_weight-requires
arguments_weight-expression_weight-requires t c =
    let left = argument_left c.args.arguments.now c.loop-argument.argument-index c.loop-argument.weight c.argument-item.result c.loop-argument-test.true c.argument-item.is c.loop-argument.invariant in
    (search (rules, types.the_lemmas, expressions.the_lemmas, get_or_read), omega (arith, left, c.requires))

pub arguments_weight-overflow_add-weight : goal.arguments_weight-overflow_add-weight
arguments_weight-overflow_add-weight t c =
    let left = argument_left c.args.arguments.now c.loop-argument.argument-index c.loop-argument.weight c.argument-item.result c.loop-argument-test.true c.argument-item.is c.loop-argument.invariant in
    omega (arith, left, c.requires, c.expression_weight.ensures)

pub expression_weight-arguments_weight-requires : goal.expression_weight-arguments_weight-requires
expression_weight-arguments_weight-requires t c =
    let e = call_weighs c.args.value.now c.in-Call.callee c.in-Call.arguments c.in-Call.result c.in-Call.is c.deref-in-Call.result.now c.deref-in-Call.ensures.value in
    (search (rules, types.the_lemmas, expressions.the_lemmas, get_or_read), omega (arith, e, c.requires))

pub expression_weight-overflow_add-result-in-Call : goal.expression_weight-overflow_add-result-in-Call
expression_weight-overflow_add-result-in-Call t c =
    let e = call_weighs c.args.value.now c.in-Call.callee c.in-Call.arguments c.in-Call.result c.in-Call.is c.deref-in-Call.result.now c.deref-in-Call.ensures.value in
    omega (arith, e, c.requires, c.arguments_weight.ensures)

pub expression_weight-returns-in-Call : goal.expression_weight-returns-in-Call
expression_weight-returns-in-Call t c =
    let e = call_weighs c.args.value.now c.in-Call.callee c.in-Call.arguments c.in-Call.result c.in-Call.is c.deref-in-Call.result.now c.deref-in-Call.ensures.value in
    omega (arith, e, c.arguments_weight.ensures)

pub expression_weight-operations_weight-requires : goal.expression_weight-operations_weight-requires
expression_weight-operations_weight-requires t c =
    let e = binary_weighs c.args.value.now c.in-Binary.first c.in-Binary.rest c.in-Binary.of_type c.in-Binary.is c.deref-in-Binary.result.now c.deref-in-Binary.ensures c.deref-in-Binary-2.result.now c.deref-in-Binary-2.ensures.value in
    (search (rules, types.the_lemmas, expressions.the_lemmas, get_or_read), omega (arith, e, c.requires))

pub expression_weight-overflow_add-result-in-Binary : goal.expression_weight-overflow_add-result-in-Binary
expression_weight-overflow_add-result-in-Binary t c =
    let e = binary_weighs c.args.value.now c.in-Binary.first c.in-Binary.rest c.in-Binary.of_type c.in-Binary.is c.deref-in-Binary.result.now c.deref-in-Binary.ensures c.deref-in-Binary-2.result.now c.deref-in-Binary-2.ensures.value in
    omega (arith, e, c.requires, c.expression_weight-in-Binary.ensures, c.operations_weight.ensures)

pub expression_weight-returns-in-Binary : goal.expression_weight-returns-in-Binary
expression_weight-returns-in-Binary t c =
    let e = binary_weighs c.args.value.now c.in-Binary.first c.in-Binary.rest c.in-Binary.of_type c.in-Binary.is c.deref-in-Binary.result.now c.deref-in-Binary.ensures c.deref-in-Binary-2.result.now c.deref-in-Binary-2.ensures.value in
    omega (arith, e, c.expression_weight-in-Binary.ensures, c.operations_weight.ensures)

pub initial_weight-arguments_weight-requires : goal.initial_weight-arguments_weight-requires
initial_weight-arguments_weight-requires t c =
    let e = fields_weigh c.args.initial.now c.in-Fields.values c.in-Fields.is c.deref.result.now c.deref.ensures.value in
    (search (rules, types.the_lemmas, expressions.the_lemmas, get_or_read), omega (arith, e, c.requires))

pub initial_weight-overflow_add-result : goal.initial_weight-overflow_add-result
initial_weight-overflow_add-result t c =
    let e = fields_weigh c.args.initial.now c.in-Fields.values c.in-Fields.is c.deref.result.now c.deref.ensures.value in
    omega (arith, e, c.requires, c.arguments_weight.ensures)

pub initial_weight-returns-in-Fields : goal.initial_weight-returns-in-Fields
initial_weight-returns-in-Fields t c =
    let e = fields_weigh c.args.initial.now c.in-Fields.values c.in-Fields.is c.deref.result.now c.deref.ensures.value in
    omega (arith, e, c.arguments_weight.ensures)
