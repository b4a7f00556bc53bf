use Rattle.std.proofs.Common.{◌≡◌, ℕ, ◌+◌, ◌-◌, ◌++◌, List, [], ◌∷◌, drop, length, set, ap, sym, subst, ◌∙◌, arith}
use Rattle.std.proofs.lemmas.Result.{on_ok_weaker}
use borrow.Author.Rules.{rules, get_or_read}
use Rattle.cyc_types.specs.declared.ty.Ty.TheFolds as types
use Rattle.cyc_types.specs.declared.typed.Dereference.TheFolds as expressions
use Rattle.cyc_types.specs.declared.typed.Converted.{Converted as ConvertedCode}
use Rattle.cyc_meaning.specs.Values.{words_of_kind}
use Rattle.cyc_types.specs.TypedTreeView.{view_dereference, view_expression, operations_of, arguments_of, view_converted}
use Rattle.cyc_plain.specs.declared.instruction.Operand.{Operand}
use Rattle.cyc_plain.specs.declared.instruction.Operand.TheVariants as operands
use Rattle.cyc_plain.specs.declared.instruction.Instruction.TheVariants as instructions
use Rattle.cyc_plain.specs.declared.instruction.Instruction.{Instruction}
use Rattle.cyc_lower_proof.specs.inside.ValueCode.{copy_code, conversion_code, test_jump, next_slot, span_of, all_passed, kinds_passed}
use Rattle.cyc_lower_proof.specs.inside.ExpressionCode.{value_operand, brought_code}
use Rattle.cyc_lower.specs.inside.Emission.{Gives, left_code, operation_code, view_starts}
use Rattle.cyc_lower.proofs.emission.Emitting.{Remains, goes_on, emitted_joined, passed_on, slot_by_count, made_elements}
use Rattle.cyc_lower.proofs.emission.ExpressionEmitting.{all_arguments, one_argument, next_argument, arguments_lower, all_operations, one_operation, next_operation, operations_lower, made_putchar, made_call, made_called, made_fields}
use Rattle.cyc_lower.proofs.emission.ExpressionEmitting.{made_binary, room_following, made_left_alone, made_left_first, made_compute, made_test, room_after, made_print, made_assigned, room_for_right, made_stored, made_left_operand}
use Rattle.cyc_lower.proofs.emitter.Emitter.+expression.Goals.{lower_left-then-is_empty, lower_left-else-is_empty, lower_operations-then-following-eq0, lower_operations-else-following-eq0}
use Rattle.cyc_lower_proof.proofs.slots.CellBytes.{passed_slots}
use Rattle.cyc_lower.proofs.emitter.Emitter.+expression.Goals as goal
use Rattle.cyc_lower_proof.specs.inside.ObjectCode.{slots_of_kinds}

pub lower_arguments-loop-argument-preserved : goal.lower_arguments-loop-argument-preserved
lower_arguments-loop-argument-preserved t c =
    let old = c.args.self.now.code.items in
    let code = c.loop-argument.self.code.items in
    let made = c.bring.new.self.code.items in
    let new = c.convert.new.self.code.items in
    let slot = c.loop-argument.slot in
    let i = c.loop-argument.argument-index in
    let x = c.argument-item.result in
    let words = passed_on c.args.arguments.now i slot c.args.first x c.loop-argument-test.true c.argument-item.is c.loop-argument.invariant.2 in
    let added = emitted_joined code (brought_code (view_starts c.args.starts.now) (view_converted x) (length code) slot slot) (λ (p : ℕ). conversion_code (view_starts c.args.starts.now) x.from x.to (span_of (view_expression x.value)) (operands.Slot slot) p) made new c.in_ok-bring.ensures c.in_ok-convert.ensures in
    let next = c.in_ok-slot.ensures in (
      subst (λ (n : ℕ). Remains (all_arguments (view_starts c.args.starts.now)) old c.args.arguments.now c.args.first (i + 1) new n) (sym next.0)
          (goes_on (all_arguments (view_starts c.args.starts.now)) (one_argument (view_starts c.args.starts.now)) (next_argument (view_starts c.args.starts.now)) (arguments_lower (view_starts c.args.starts.now)) old c.args.arguments.now c.args.first i code new slot x c.loop-argument-test.true c.argument-item.is added c.loop-argument.invariant.0),
      omega (arith, next.1),
      omega (arith, words, next.0),
    )

pub call-returns-in_ok-byte-in-Putchar : goal.call-returns-in_ok-byte-in-Putchar
call-returns-in_ok-byte-in-Putchar t c =
    on_ok_weaker c.emit.result
    (λ made. made_putchar (view_starts c.args.starts.now) c.args.callee c.args.arguments.now c.args.self.now.code.items c.print.new.self.code.items c.emit.new.self.code.items c.args.slot c.args.free c.in_ok-byte-in-Putchar.byte c.in-Putchar.is c.in_ok-byte-in-Putchar.ensures.0 c.in_ok-byte-in-Putchar.ensures.1
    (made ∙ ap (λ i. c.print.new.self.code.items ++ i ∷ []) c.low_byte.ensures))
    c.emit.ensures

pub call-returns-in_ok-count-in-Function : goal.call-returns-in_ok-count-in-Function
call-returns-in_ok-count-in-Function t c =
    on_ok_weaker c.emit-in-Function.result
    (made_call (view_starts c.args.starts.now) c.args.callee c.args.arguments.now c.args.self.now.code.items c.lower_arguments-in-Function.new.self.code.items c.emit-in-Function.new.self.code.items c.args.slot c.args.free c.in-Function.number c.in_ok-count-in-Function.count c.in-Function.is c.in_ok-count-in-Function.ensures.0 c.in_ok-count-in-Function.ensures.1)
    c.emit-in-Function.ensures

pub lower_value-lower_operations-requires : goal.lower_value-lower_operations-requires
lower_value-lower_operations-requires t c =
    let room = room_following (view_starts c.args.starts.now) (view_expression c.deref-in-Binary.result.now) (operations_of c.deref-in-Binary-2.result.now) c.args.self.now.code.items c.lower_left.new.self.code.items c.args.slot c.args.free c.requires c.in_ok-left-in-Binary.ensures.1 in
    (search (rules, types.the_lemmas, expressions.the_lemmas, get_or_read), room)

pub lower_value-returns-in-Call : goal.lower_value-returns-in-Call
lower_value-returns-in-Call t c =
    on_ok_weaker c.call.result
    (made_called (view_starts c.args.starts.now) c.args.value.now c.in-Call.callee c.in-Call.arguments c.in-Call.result c.deref.result.now c.args.self.now.code.items c.call.new.self.code.items c.args.slot c.args.free c.in-Call.is c.deref.ensures.value)
    c.call.ensures

pub lower_value-returns-in_ok-left-in-Binary : goal.lower_value-returns-in_ok-left-in-Binary
lower_value-returns-in_ok-left-in-Binary t c =
    on_ok_weaker c.lower_operations.result
    (made_binary (view_starts c.args.starts.now) c.args.value.now c.in-Binary.first c.in-Binary.rest c.in-Binary.of_type c.deref-in-Binary.result.now c.deref-in-Binary-2.result.now c.deref-in-Binary-3.result.now c.args.self.now.code.items c.lower_left.new.self.code.items c.lower_operations.new.self.code.items c.in_ok-left-in-Binary.left c.args.slot c.args.free
    c.in-Binary.is c.deref-in-Binary.ensures c.deref-in-Binary-2.ensures.value c.deref-in-Binary-3.ensures.value c.in_ok-left-in-Binary.ensures.0 c.in_ok-left-in-Binary.ensures.1)
    c.lower_operations.ensures

pub lower_left-returns : goal.lower_left-returns
lower_left-returns t c =
    let a = view_expression c.args.first.now in
    let os = c.args.rest.now in
    let old = c.args.self.now.code.items in
    let new = c.lower_expression.new.self.code.items in
    let to = c.if-is_empty.to in
    let plain = sym c.takes_operand.ensures ∙ c.if-takes_operand.false in
    elim c.if-is_empty.branch [
      | lower_left-then-is_empty w ↦ made_left_alone (view_starts c.args.starts.now) a os old new c.args.slot c.args.free to plain (sym c.is_empty.ensures ∙ w.if-is_empty.true) w.to-is c.in_ok-lower_expression.ensures
      | lower_left-else-is_empty w ↦ made_left_first (view_starts c.args.starts.now) a os old new c.args.slot c.args.free to plain (sym c.is_empty.ensures ∙ w.if-is_empty.false) w.to-is c.in_ok-lower_expression.ensures
    ]

pub apply-returns-in_ok-right-in-Compute : goal.apply-returns-in_ok-right-in-Compute
apply-returns-in_ok-right-in-Compute t c =
    on_ok_weaker c.lower_operator.result
    (made_compute (view_starts c.args.starts.now) c.args.operation.now c.in-Compute.operator c.in-Compute.operand c.args.self.now.code.items c.lower_operand.new.self.code.items c.lower_operator.new.self.code.items c.args.left c.in_ok-right-in-Compute.right c.args.slot c.args.free c.in_ok-following-in-Compute.following c.in-Compute.is c.in_ok-following-in-Compute.ensures.0 c.in_ok-right-in-Compute.ensures.0 c.in_ok-right-in-Compute.ensures.1)
    c.lower_operator.ensures

pub apply-returns-in_ok-lower_expression-in-Test : goal.apply-returns-in_ok-lower_expression-in-Test
apply-returns-in_ok-lower_expression-in-Test t c =
    let o = c.in-Test.operator in
    let free = c.args.free in
    let made = c.lower_expression.new.self.code.items in
    let patched : c.patch.new.self.code.items ≡ set made c.place-jump.result (test_jump o free c.place-following.result) = c.patch.ensures ∙ ap (λ (j : Instruction). set made c.place-jump.result j) c.test_jump-in-Test.ensures in
    on_ok_weaker c.make_truth.result
    (made_test (view_starts c.args.starts.now) c.args.operation.now o c.in-Test.operand c.in-Test.is c.args.self.now.code.items c.test_jump.result c.emit.new.self.code.items made c.patch.new.self.code.items c.make_truth.new.self.code.items c.args.left c.args.slot free c.place-jump.result c.place-following.result c.place-jump.ensures c.in_ok-emit-in-Test.ensures c.in_ok-lower_expression-in-Test.ensures c.place-following.ensures patched)
    c.make_truth.ensures

pub lower_operations-loop-operation-preserved : goal.lower_operations-loop-operation-preserved
lower_operations-loop-operation-preserved t c =
    let old = c.args.self.now.code.items in
    let xs = c.args.operations.now in
    let code = c.loop-operation.self.code.items in
    let new = c.lower_operation.new.self.code.items in
    let i = c.loop-operation.operation-index in
    let left = c.loop-operation.left in
    let d = c.args.slot in
    let free = c.args.free in
    let to = c.if-following-eq0.to in
    let x = c.operation-item.result in
    let many = c.loop-operation.following - 1 in
    let counted : many + (i + 1) ≡ length xs = omega (arith, c.loop-operation.invariant.1, c.loop-operation-test.true) in
    let slot = slot_by_count xs i many to d free counted in
    let there : to ≡ next_slot (operations_of (drop (i + 1) xs)) d free = elim c.if-following-eq0.branch [
      | lower_operations-then-following-eq0 w ↦ slot (λ none. w.to-is) (λ some. absurd (omega (arith, some, w.if-following-eq0.true)))
      | lower_operations-else-following-eq0 w ↦ slot (λ none. absurd (omega (arith, none, w.if-following-eq0.false))) (λ some. w.to-is)
    ] in
    let added = c.in_ok-lower_operation.ensures ∙ ap (λ (n : ℕ). code ++ operation_code (view_starts c.args.starts.now) x (length code) left n free) there in
    let room = room_after (view_starts c.args.starts.now) x code new left to free c.loop-operation.invariant.2 c.in_ok-lower_operation.ensures in (
      subst (λ (n : ℕ). Remains (all_operations (view_starts c.args.starts.now) d free) old xs c.args.first (i + 1) new (operands.Slot n)) (sym there)
          (goes_on (all_operations (view_starts c.args.starts.now) d free) (one_operation (view_starts c.args.starts.now) d free) (next_operation (view_starts c.args.starts.now) d free) (operations_lower (view_starts c.args.starts.now) d free) old xs c.args.first i code new left x c.loop-operation-test.true c.operation-item.is added c.loop-operation.invariant.0),
      counted,
      room,
    )

pub print-returns : goal.print-returns
print-returns t c =
    made_print (view_starts c.args.starts.now) c.args.arguments.now c.args.self.now.code.items c.loop-argument.self.code.items c.emit.new.self.code.items c.loop-argument.argument-index c.loop-argument.byte c.args.free c.loop-argument-test.false
    c.loop-argument.invariant.0 c.loop-argument.invariant.1 c.in_ok-emit.ensures

pub lower_value-returns-in_ok-assigned-in-Assign : goal.lower_value-returns-in_ok-assigned-in-Assign
lower_value-returns-in_ok-assigned-in-Assign t c =
    let same = c.deref-in-Assign-2.ensures ∙ sym c.deref-in-Assign.ensures in
    on_ok_weaker c.copy.result
    (λ e. made_assigned (view_starts c.args.starts.now) c.args.value.now c.in-Assign.target c.in-Assign.value c.in-Assign.result c.in-Assign.is c.deref-in-Assign.result.now c.deref-in-Assign.ensures c.args.self.now.code.items c.lower_assignment.new.self.code.items c.copy.new.self.code.items c.in_ok-assigned-in-Assign.assigned c.args.slot c.args.free c.in_ok-assigned-in-Assign.ensures.0 c.in_ok-assigned-in-Assign.ensures.1
    (e ∙ ap (λ (z : ConvertedCode). c.lower_assignment.new.self.code.items ++ copy_code (words_of_kind z.to) c.in_ok-assigned-in-Assign.assigned c.args.slot) same))
    c.copy.ensures

pub lower_object-make_object-requires-clause-slots : goal.lower_object-make_object-requires-clause-slots
lower_object-make_object-requires-clause-slots t c =
    let same = c.deref.ensures.value ∙ sym c.deref-in-Fields.ensures.value in
    c.in_ok-words-in-Fields.ensures.0
    ∙ ap (λ (l : List ConvertedCode). all_passed (arguments_of l)) same
    ∙ sym (passed_slots (arguments_of c.deref-in-Fields.result.now))
    ∙ ap slots_of_kinds (sym (c.deref-in-Fields-2.ensures.value ∙ c.in_ok-kinds-in-Fields.ensures))

pub lower_object-returns-in_ok-kinds-in-Fields : goal.lower_object-returns-in_ok-kinds-in-Fields
lower_object-returns-in_ok-kinds-in-Fields t c =
    let same = c.deref-in-Fields.ensures.value ∙ sym c.deref.ensures.value in
    let kinds_are = c.deref-in-Fields-2.ensures.value ∙ c.in_ok-kinds-in-Fields.ensures ∙ ap (λ (l : List ConvertedCode). kinds_passed (arguments_of l)) same in
    on_ok_weaker c.make_object.result
    (made_fields (view_starts c.args.starts.now) c.args.initial.now c.in-Fields.values c.deref.result.now c.deref-in-Fields-2.result.now c.args.self.now.code.items c.lower_arguments.new.self.code.items c.make_object.new.self.code.items c.args.handle c.args.slot c.args.free
    c.in-Fields.is c.deref.ensures.value kinds_are c.in_ok-words-in-Fields.ensures.1)
    c.make_object.ensures

pub lower_value-store-requires : goal.lower_value-store-requires
lower_value-store-requires t c = (
  search (rules, types.the_lemmas, expressions.the_lemmas, get_or_read),
  room_for_right (view_starts c.args.starts.now) (view_dereference c.deref-in-Store.result.now) c.args.self.now.code.items c.take_address-in-Store.new.self.code.items c.args.free c.requires c.in_ok-take_address-in-Store.ensures,
)

pub lower_value-returns-in_ok-stored-in-Store : goal.lower_value-returns-in_ok-stored-in-Store
lower_value-returns-in_ok-stored-in-Store t c =
    let same = c.deref-in-Store-3.ensures ∙ sym c.deref-in-Store-2.ensures in
    on_ok_weaker c.copy-in-Store.result
    (λ e. made_stored (view_starts c.args.starts.now) c.args.value.now c.in-Store.target c.in-Store.value c.in-Store.result c.in-Store.is c.deref-in-Store.result.now c.deref-in-Store.ensures c.deref-in-Store-2.result.now c.deref-in-Store-2.ensures c.args.self.now.code.items c.take_address-in-Store.new.self.code.items c.store.new.self.code.items c.copy-in-Store.new.self.code.items c.in_ok-stored-in-Store.stored c.args.slot c.args.free c.in_ok-stored-in-Store.ensures.0
    c.in_ok-take_address-in-Store.ensures c.in_ok-stored-in-Store.ensures.1
    (e ∙ ap (λ (z : ConvertedCode). c.store.new.self.code.items ++ copy_code (words_of_kind z.to) c.in_ok-stored-in-Store.stored c.args.slot) same))
    c.copy-in-Store.ensures

pub lower_elements-returns : goal.lower_elements-returns
lower_elements-returns t c =
    on_ok_weaker c.end_array.result
    (made_elements (view_starts c.args.starts.now) c.deref.result.now (view_expression c.args.element.now) c.args.self.now.code.items c.reserve.new.self.code.items c.lower_expression.new.self.code.items c.write_element.new.self.code.items c.jump_here_if_failing.new.self.code.items c.end_array.new.self.code.items
    (instructions.Jump 0) c.last_element.result c.args.kind c.in_ok-head.head c.in_ok-following.following c.args.slot c.args.free c.in_ok-following.ensures.0 (c.deref.ensures.value ∙ c.in_ok-counters.ensures) c.in_ok-head.ensures.0 c.in_ok-head.ensures.1
    c.in_ok-lower_expression.ensures c.in_ok-write_element.ensures c.last_element.ensures c.jump_here_if_failing.ensures)
    c.end_array.ensures

pub lower_left-returns-then-takes_operand : goal.lower_left-returns-then-takes_operand
lower_left-returns-then-takes_operand t c =
    let starts = view_starts c.args.starts.now in
    let a = view_expression c.args.first.now in
    let os = operations_of c.args.rest.now in
    let taken = made_left_operand starts a os c.args.self.now.code.items c.args.slot c.args.free (sym c.takes_operand.ensures ∙ c.if-takes_operand.true) in
    subst (λ (o : Operand). Gives o c.lower_operand.result c.args.self.now c.lower_operand.new.self (left_code starts a os (length c.args.self.now.code.items) c.args.slot c.args.free)) taken.0
    (subst (λ (l : List Instruction). Gives (value_operand starts a c.args.free) c.lower_operand.result c.args.self.now c.lower_operand.new.self l) taken.1 c.lower_operand.ensures)
