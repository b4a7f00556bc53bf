use Rattle.std.proofs.Common.{◌≡◌, sym, ap, ◌∙◌, arith}
use borrow.Author.Rules.{rules, get_or_read}
use Rattle.cyc_types.specs.declared.ty.Ty.TheFolds as types
use Rattle.cyc_types.specs.declared.typed.Dereference.TheFolds as expressions
use Rattle.cyc_types.specs.declared.typed.Expr.{Expr}
use Rattle.cyc_types.specs.TypeView.{view_ty}
use Rattle.cyc_types.specs.TypedTreeView.{view_expression, arguments_of, operations_of}
use Rattle.cyc_meaning.specs.FrameCount.{expression_need, operations_need}
use Rattle.cyc_sizes.specs.inside.Needs.{operands_need}
use Rattle.cyc_sizes.proofs.NeedsFound.{call_needs, fields_need, binary_needs}
use Rattle.cyc_sizes.proofs.frames.+need.Goals as goal

pub expression_need-operands_need-requires : goal.expression_need-operands_need-requires
expression_need-operands_need-requires t c =
    let e = call_needs c.args.value.now c.in-Call.callee c.in-Call.arguments c.in-Call.result c.in-Call.is c.deref-in-Call.result.now c.deref-in-Call.ensures.value in
    let same = ap (operands_need (arguments_of c.deref-in-Call.result.now) 0) c.result_words.ensures in
    (search (rules, types.the_lemmas, expressions.the_lemmas, get_or_read), omega (arith, e, same, c.requires))

pub expression_need-returns-in-Call : goal.expression_need-returns-in-Call
expression_need-returns-in-Call t c =
    let same = ap (operands_need (arguments_of c.deref-in-Call.result.now) 0) c.result_words.ensures in
    c.operands_need.ensures ∙ same ∙ sym (call_needs c.args.value.now c.in-Call.callee c.in-Call.arguments c.in-Call.result c.in-Call.is c.deref-in-Call.result.now c.deref-in-Call.ensures.value)

pub expression_need-operations_need-need-requires : goal.expression_need-operations_need-need-requires
expression_need-operations_need-need-requires t c =
    let e = binary_needs c.args.value.now c.in-Binary.first c.in-Binary.rest c.in-Binary.of_type c.in-Binary.is c.deref-in-Binary-2.result.now c.deref-in-Binary-2.ensures c.deref-in-Binary.result.now c.deref-in-Binary.ensures.value in
    let same = ap (operations_need (operations_of c.deref-in-Binary.result.now) (view_ty c.in-Binary.of_type)) c.operand_words-in-Binary.ensures in
    (search (rules, types.the_lemmas, expressions.the_lemmas, get_or_read), omega (arith, e, same, c.requires))

pub expression_need-returns-in-Binary : goal.expression_need-returns-in-Binary
expression_need-returns-in-Binary t c =
    let first = c.deref-in-Binary-2.result.now in
    let e = binary_needs c.args.value.now c.in-Binary.first c.in-Binary.rest c.in-Binary.of_type c.in-Binary.is first c.deref-in-Binary-2.ensures c.deref-in-Binary.result.now c.deref-in-Binary.ensures.value in
    let same = ap (operations_need (operations_of c.deref-in-Binary.result.now) (view_ty c.in-Binary.of_type)) c.operand_words-in-Binary.ensures in
    let begun : c.expression_need-in-Binary.result ≡ expression_need (view_expression first) = c.expression_need-in-Binary.ensures ∙ ap (λ (x : Expr). expression_need (view_expression x)) (c.deref-in-Binary-3.ensures ∙ sym c.deref-in-Binary-2.ensures) in
    omega (arith, e, same, begun, c.operations_need-need.ensures, c.max-in-Binary.ensures)

pub initial_value_need-operands_need-requires : goal.initial_value_need-operands_need-requires
initial_value_need-operands_need-requires t c =
    let e = fields_need c.args.initial.now c.in-Fields.values c.args.handle c.args.own c.in-Fields.is c.deref.result.now c.deref.ensures.value in
    (search (rules, types.the_lemmas, expressions.the_lemmas, get_or_read), omega (arith, e, c.requires))

pub initial_value_need-returns-in-Fields : goal.initial_value_need-returns-in-Fields
initial_value_need-returns-in-Fields t c =
    c.operands_need.ensures ∙ sym (fields_need c.args.initial.now c.in-Fields.values c.args.handle c.args.own c.in-Fields.is c.deref.result.now c.deref.ensures.value)
