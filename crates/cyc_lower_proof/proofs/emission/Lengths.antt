-- Code depends on the position of the blocks that raise exceptions only through jumps to them. The code is first emitted as if these
-- blocks were far away, and has the length of the final code. Adjusting the jumps to the blocks from the far position to the real
-- position turns this code into the final code.
use Rattle.cyc_types.specs.typing.Expressions.{type_of_side}
use Rattle.std.proofs.Common.{◌≡◌, ◌∙◌, ℕ, zero, suc, ◌+◌, ◌-◌, Bool, true, false, List, [], ◌∷◌, ◌++◌, length, Option, None, Some, refl, sym, ap, arith}
use Rattle.std.specs.Prelude.{if◌then◌else◌, is_some, ◌&&◌, ◌||◌, not}
use Rattle.cyc_types.specs.declared.typed.Kind.{Kind}
use Rattle.cyc_types.specs.declared.typed.Kind.TheVariants as kinds
use Rattle.cyc_types.specs.declared.typed.Callee.TheVariants as callees
use Rattle.cyc_types.specs.declared.typed.UnaryOperator.TheVariants as unary
use Rattle.cyc_types.specs.declared.typed.Operator.{Operator}
use Rattle.cyc_types.specs.declared.typed.Operator.TheVariants as operators
use Rattle.cyc_types.specs.declared.typed.LogicalOperator.{LogicalOperator}
use Rattle.cyc_types.specs.declared.typed.LogicalOperator.TheVariants as logical
use Rattle.cyc_types.specs.TypedTrees.{Load, New, OnHeap, Initial, Plain, Fields, Array, Dereference, Target, Member, Element, Lvalue, Local, Global, Expression, Copy, Call, Unary, Binary, Assign, Converted, Convert, Arguments, NoArguments, MoreArguments, Operations}
use Rattle.cyc_types.specs.TypedTrees.{NoOperations, ThenCompute, ThenTest, ThenPointer, ThenPointerPeek, Statement, Block, Empty, Evaluate, If, While, Return, Break, Continue, Items, NoItems, MoreItems, Execute, Declare, StructType, Function, Move, Peek, AddressOf}
use Rattle.cyc_types.specs.TypedTrees.{AddressOfCell, Store, AsUnique, FreeUnique, Side, VariableSide, CellSide, Swap, Throw, Try, Clauses, NoClauses, Default, Case, NumberOfElements, type_of_place, ByHandle, FreeKey, DeclareRegion, OpenRegion, DeclareAlias}
use Rattle.cyc_types.specs.TypedTrees.{DeclareKey, Number, NullPointer, HeapRegion, Counter}
use Rattle.cyc_types.specs.Types.{Ty, words_of}
use Rattle.cyc_plain.specs.declared.instruction.BinaryOperator.TheVariants as plain_binary
use Rattle.cyc_plain.specs.declared.instruction.Comparison.{Comparison}
use Rattle.cyc_plain.specs.declared.instruction.Comparison.TheVariants as comparisons
use Rattle.cyc_plain.specs.declared.instruction.Operand.{Operand}
use Rattle.cyc_plain.specs.declared.instruction.Operand.TheVariants as operands
use Rattle.cyc_plain.specs.declared.instruction.Instruction.{Instruction}
use Rattle.cyc_plain.specs.declared.instruction.Instruction.TheVariants as instructions
use Rattle.cyc_store.specs.declared.range.TheConstants.{HEAP, UNIQUE}
use Rattle.cyc_meaning.specs.Values.{is_thin, kind_of, words_of_kind}
use Rattle.cyc_meaning.specs.Operators.{null_exception, array_size, division_by_zero, array_bounds}
use Rattle.cyc_lower_proof.specs.declared.exits.Exits.{Exits}
use Rattle.cyc_lower_proof.specs.declared.condition.Condition.{Condition}
use Rattle.cyc_lower_proof.specs.inside.Slots.{with_counter, Starts, slot_of, global_of, counter_of}
use Rattle.cyc_lower_proof.specs.inside.ValueCode.{first_temporary, keeps_words, kind_after, kind_passed, converts_there, passed_words, all_passed, operand_or, code_unless, code_unless_slot, left_with, next_slot, converted_by, conversion_code, low_byte, unary_instruction}
use Rattle.cyc_lower_proof.specs.inside.ValueCode.{guard_code, check_code, tested_code, inside_code, scaled_code, binary_operator, move_of, jump_if_zero, address_of_code, test_code}
use Rattle.cyc_lower_proof.specs.inside.ValueCode.{divisor_code, operator_code, pointer_instructions, copy_code, address_code, after_left, checked_code, span_of, span_in, followed_operand, followed_code, conversion_by, widened_code}
use Rattle.cyc_lower_proof.specs.inside.ValueCode.{count_code, loaded_code, slot_or, kinds_passed, thinned_code, bounded_code, past_bounded, reached_operand, reached_code, word_by_word, load_word, global_code, masks, failing_comparison}
use Rattle.cyc_lower_proof.specs.inside.ObjectCode.{begun_code, measured_code, object_code, right_slot, saved_code, free_code}
use Rattle.cyc_lower_proof.specs.inside.ControlCode.{outside_loops, failing_jump, holding_jump, deciding_jump, are_tests, compared_of, negated_condition, inside_loop, leave_code, clause_code, break_target, continue_target, kept_code, closing_code, tag_operand}
use Rattle.cyc_lower_proof.specs.inside.ControlCode.{restored_code, after_record, inside_try, inside_region, opened_code, closed_code, entry_length, entered_code, body_target, is_nothing, over_length, turned_test, through_by, breaks}
use Rattle.cyc_lower_proof.specs.inside.ExpressionCode.{operand_of, left_of, value_slot, slot_with, left_slot, value_operand, source_of, source_slot, converted_operand, printed_operand, load_code, place_operand, place_offset, expression_code}
use Rattle.cyc_lower_proof.specs.inside.ExpressionCode.{place_code, made_code, arguments_code, converted_code, converted_operand_code, printed_code, initial_code, operations_code, pointer_of, brought_code, is_simple, are_simple}
use Rattle.cyc_lower_proof.specs.inside.Lowering.{others_code, tests_code, choice_code, choice_of, branch_code, branch_of, raises_of, body_code, assignment_code, discarded_code, pair_code, condition_code, condition_of, last_condition, return_code, goes_through}
use Rattle.cyc_lower_proof.specs.inside.Lowering.{declaration_code, statement_code, items_code, side_code, swap_code, thrown_code, thrown_operand, caught_code, clauses_code, starts_with, read_side, write_side, is_light, compares_light, is_guard}
use Rattle.cyc_lower_proof.proofs.emission.Alike.{AreAlike, same_length, moved, still, alike_joined, onward, led, led_after, unless_alike, unless_slot_alike, either_alike, test_alike, elements_alike, if_alike, entry_lengths, entered_alike, through_alike, try_alike, clause_alike}

-- The length of the code that compares an index with its bound and computes the address of a cell, including a jump over this code.
pub past_long : (starts : Starts) (span : Option ℕ) (n m t : ℕ) → suc (length (bounded_code starts span n m t)) ≡ past_bounded span
past_long starts None n m t = refl
past_long starts (Some words) n m t = refl

-- ---- code for two places of the blocks

module _ (starts : Starts) (raises : ℕ) where
  abbrev other : Starts
  other = record starts { raises = raises }

  abbrev Alike : (a x : List Instruction) → Type 0
  Alike a x = AreAlike starts.raises raises a x

  -- The slot or constant that holds the value of an expression does not depend on the position of the blocks that raise exceptions.

  same_operand : (a : Expression) → operand_of starts a ≡ operand_of other a
  same_operand (Copy (Local w n) t) = refl
  same_operand (Copy (Global n) t) = refl
  same_operand (Unary unary.Widen a) = same_operand a
  same_operand a = refl

  same_slot : (a : Expression) (t : ℕ) → value_slot starts a t ≡ value_slot other a t
  same_slot (Assign (Local w n) c ty) t = refl
  same_slot (Assign (Global n) c ty) t = refl
  same_slot (Unary unary.Widen a) t = same_slot a t
  same_slot a t = refl

  same_value : (a : Expression) (t : ℕ) → value_operand starts a t ≡ value_operand other a t
  same_value a t = λ i. operand_or (same_operand a i) (same_slot a t i)

  are_same : (os : Operations) → are_simple starts os ≡ are_simple other os
  are_same (ThenCompute o b os) = λ i. is_some (same_operand b i) && are_same os i
  are_same os = refl

  same_simple : (a : Expression) → is_simple starts a ≡ is_simple other a
  same_simple (Unary o a) = λ i. is_some (same_operand a i)
  same_simple (Binary a (ThenCompute o b os) ty) = λ i. same_simple a i && are_same (ThenCompute o b os) i
  same_simple a = λ i. is_some (same_operand a i)

  same_left : (a : Expression) (os : Operations) → left_of starts a os ≡ left_of other a os
  same_left a (ThenCompute o b os) = λ i. left_with (same_simple b i) (same_operand a i)
  same_left a os = refl

  same_with : (simple same : Bool) (a : Expression) (t : ℕ) → simple ≡ same → slot_with starts simple a t ≡ slot_with other same a t
  same_with true same a t is = same_slot a t ∙ ap (λ z. slot_with other z a t) is
  same_with false same a t is = ap (λ z. slot_with other z a t) is

  same_left_slot : (a : Expression) (os : Operations) (d e t : ℕ) → d ≡ e → left_slot starts a os d t ≡ left_slot other a os e t
  same_left_slot a NoOperations d e t same = same
  same_left_slot a (ThenCompute o b os) d e t same = same_with (is_simple starts b) (is_simple other b) a t (same_simple b)
  same_left_slot a os d e t same = refl

  same_source : (c : Converted) → source_of starts c ≡ source_of other c
  same_source (Convert from to a) = λ i. if keeps_words from to then same_operand a i else None

  same_source_slot : (c : Converted) (t : ℕ) → source_slot starts c t ≡ source_slot other c t
  same_source_slot (Convert from to a) t = λ i. if keeps_words from to then same_slot a t i else t

  same_converted : (c : Converted) (t : ℕ) → converted_operand starts c t ≡ converted_operand other c t
  same_converted c t = λ i. operand_or (same_source c i) (same_source_slot c t i)

  same_pointer : (a x : Expression) → pointer_of starts a x ≡ pointer_of other a x
  same_pointer a x = λ i. left_with (same_simple x i) (same_operand a i)

  same_place : (x : Dereference) (t : ℕ) → place_operand starts x t ≡ place_operand other x t
  same_place (Target k a ty) t = λ i. followed_operand (is_thin k) (span_in ty) (same_value a t i) t
  same_place (Member k a s f ty) t = same_value a t
  same_place (Element a x ty) t = λ i. reached_operand (span_in ty) (slot_or (same_pointer a x i) t) t

  same_offset : (x : Dereference) → place_offset starts x ≡ place_offset other x
  same_offset (Target k a ty) = refl
  same_offset (Member k a s f ty) = refl
  same_offset (Element a i ty) = refl

  same_printed : (cs : Arguments) (o r : Operand) (t : ℕ) → o ≡ r → printed_operand starts cs o t ≡ printed_operand other cs r t
  same_printed NoArguments o r t same = same
  same_printed (MoreArguments c cs) o r t same = same_printed cs _ _ t (same_converted c t)

  -- The code of a run-time check is the same for two positions of the blocks that raise exceptions, except for the jumps to these blocks.

  guard_alike : (tag : ℕ) (failing : Comparison) (l m r s : Operand) → l ≡ m → r ≡ s → Alike (guard_code starts tag failing l r) (guard_code other tag failing m s)
  guard_alike tag failing l m r s left right =
      let place : starts.raises + 2 + tag - starts.raises + raises ≡ raises + 2 + tag = omega arith in
      led_after (omega arith) (λ i. instructions.Branch failing (left i) (right i) (place i)) (still refl)

  check_alike : (tag : ℕ) (o r : Operand) → o ≡ r → Alike (check_code starts tag o) (check_code other tag r)
  check_alike tag o r same = guard_alike tag comparisons.Equal o r (operands.Word 0) (operands.Word 0) same refl

  load_alike : (words : ℕ) (l : Lvalue) (d e : ℕ) → d ≡ e → Alike (load_code starts words l d) (load_code other words l e)
  load_alike words (Local w n) d e same = still (λ i. move_of words (same i) (operands.Slot (slot_of starts n)) ∷ [])
  load_alike words (Global n) d e same = still (λ i. word_by_word load_word words (global_of starts n) (same i))

  bounded_alike : (span : Option ℕ) (n m t : ℕ) → Alike (bounded_code starts span n m t) (bounded_code other span n m t)
  bounded_alike span n m t = alike_joined _ _ _ _ (guard_alike array_bounds comparisons.GreaterOrEqualUnsigned _ _ _ _ refl refl) (still refl)

  thinned_alike : (to : Kind) (span : Option ℕ) (o : Operand) (p q : ℕ) → p ≡ q → Alike (thinned_code starts to span o p) (thinned_code other to span o q)
  thinned_alike kinds.NonNull span (operands.Slot n) p q place = alike_joined _ _ _ _ (check_alike null_exception _ _ refl) (bounded_alike span n (n + 2) n)
  thinned_alike kinds.Nullable span (operands.Slot n) p q place = led (λ i. jump_if_zero (operands.Slot n) (place i + past_bounded span)) (bounded_alike span n (n + 2) n)
  thinned_alike to span o p q place = still refl

  tested_alike : (to : Kind) (o r : Operand) → o ≡ r → Alike (tested_code starts to o) (tested_code other to r)
  tested_alike kinds.NonNull o r same = check_alike null_exception o r same
  tested_alike to o r same = still refl

  conversion_by_alike : (wide : Bool) (to : Kind) (span : Option ℕ) (o r : Operand) (p q : ℕ) → o ≡ r → p ≡ q → Alike (conversion_by starts wide to span o p) (conversion_by other wide to span r q)
  conversion_by_alike true to span o r p q same place = tested_alike to o r same
  conversion_by_alike false kinds.Fat span o r p q same place = still (λ i. widened_code (same i))
  conversion_by_alike false to span o r p q same place = moved (λ i. thinned_code other to span (same i) q) (thinned_alike to span o p q place)

  conversion_alike : (from to : Kind) (span : Option ℕ) (o r : Operand) (p q : ℕ) → o ≡ r → p ≡ q → Alike (conversion_code starts from to span o p) (conversion_code other from to span r q)
  conversion_alike from to span o r p q same place = conversion_by_alike (keeps_words from to) to span o r p q same place

  -- The code of an access through a pointer is the same for two positions of the blocks that raise exceptions, except for the jumps to
  -- these blocks.
  inside_alike : (n m p q : ℕ) → p ≡ q → Alike (inside_code starts n m p) (inside_code other n m q)
  inside_alike n m p q place =
      let there : starts.raises + 1 - starts.raises + raises ≡ raises + 1 = omega arith in
      led (λ i. instructions.Branch comparisons.LessUnsigned (operands.Slot m) (operands.Slot (n + 1)) (place i + 3))
      (led refl (led_after (omega arith) (λ i. instructions.Jump (there i)) (still refl)))

  reached_alike : (span : Option ℕ) (n m t p q : ℕ) → p ≡ q → Alike (reached_code starts span n m t p) (reached_code other span n m t q)
  reached_alike span n m t p q place =
      onward (scaled_code span m (t + 3)) _ (scaled_code span m (t + 3)) _ place (still refl) (λ next. alike_joined _ _ _ _ (inside_alike n m _ _ next) (still refl))

  followed_alike : (thin : Bool) (span : Option ℕ) (o r : Operand) (t p q : ℕ) → o ≡ r → p ≡ q → Alike (followed_code starts thin span o t p) (followed_code other thin span r t q)
  followed_alike true span o r t p q same place = check_alike null_exception o r same
  followed_alike false span (operands.Slot n) r t p q same place = moved (λ i. followed_code other false span (same i) t q) (reached_alike span n (n + 2) t p q place)
  followed_alike false span (operands.Word w) r t p q same place = moved (λ i. followed_code other false span (same i) t q) (check_alike null_exception _ _ refl)

  divisor_alike : (o r : Operand) → o ≡ r → Alike (divisor_code starts o) (divisor_code other r)
  divisor_alike (operands.Word (suc n)) r same = still (λ i. divisor_code other (same i))
  divisor_alike (operands.Word zero) r same = moved (λ i. divisor_code other (same i)) (check_alike division_by_zero _ _ refl)
  divisor_alike (operands.Slot n) r same = moved (λ i. divisor_code other (same i)) (check_alike division_by_zero _ _ refl)

  checked_alike : (o : Operator) (l m r s : Operand) (d e : ℕ) → l ≡ m → r ≡ s → d ≡ e → Alike (checked_code starts o l r d) (checked_code other o m s e)
  checked_alike o l m r s d e left right same = alike_joined _ _ _ _ (divisor_alike r s right) (still (λ i. instructions.Binary (binary_operator o) (same i) (left i) (right i) ∷ []))

  operator_alike : (o : Operator) (l m r s : Operand) (d e : ℕ) → l ≡ m → r ≡ s → d ≡ e → Alike (operator_code starts o l r d) (operator_code other o m s e)
  operator_alike operators.Divide l m r s d e left right same = checked_alike operators.Divide l m r s d e left right same
  operator_alike operators.Remainder l m r s d e left right same = checked_alike operators.Remainder l m r s d e left right same
  operator_alike o l m r s d e left right same = still (λ i. instructions.Binary (binary_operator o) (same i) (left i) (right i) ∷ [])

  -- The code that begins an array (its length check and allocation) is the same for two positions of the blocks that raise
  -- exceptions, except for the jumps to these blocks.
  begun_alike : (handle : Operand) (kind : Kind) (t : ℕ) → Alike (begun_code starts handle kind t) (begun_code other handle kind t)
  begun_alike handle kind t =
      alike_joined (measured_code starts kind (t + 1) (t + 2) t) _ (measured_code other kind (t + 1) (t + 2) t) _ (alike_joined _ _ _ _ (guard_alike array_size comparisons.GreaterOrEqualUnsigned _ _ _ _ refl refl) (still refl)) (still refl)

  converted_by_alike : (known same : Option Operand) (a x : List Instruction) (from to : Kind) (span : Option ℕ) (o r : Operand) (p q : ℕ) → known ≡ same → o ≡ r → p ≡ q → Alike a x
      → Alike (converted_by starts known a from to span o p) (converted_by other same x from to span r q)
  converted_by_alike known same a x from to span o r p q is there place first =
      onward _ _ _ _ place (unless_alike starts.raises raises known same a x is first) (λ next. conversion_alike from to span o r _ _ there next)

  -- The code that brings the value of an expression into a slot or constant is the same for two positions of the blocks that raise
  -- exceptions, except for the jumps to these blocks.
  operand_alike : (a : Expression) (p q t : ℕ) → Alike (expression_code starts a p (value_slot starts a t) t) (expression_code other a q (value_slot other a t) t)
      → Alike (code_unless (operand_of starts a) (expression_code starts a p (value_slot starts a t) t)) (code_unless (operand_of other a) (expression_code other a q (value_slot other a t) t))
  operand_alike a p q t first = unless_alike starts.raises raises _ _ _ _ (same_operand a) first

  -- The code of a value that is to be converted is the same for two positions of the blocks that raise exceptions, except for the
  -- jumps to these blocks.
  brought_alike : (from to : Kind) (a : Expression) (p q d e t : ℕ) → d ≡ e → Alike (expression_code starts a p (value_slot starts a t) t) (expression_code other a q (value_slot other a t) t)
      → Alike (expression_code starts a p d t) (expression_code other a q e t) → Alike (brought_code starts (Convert from to a) p d t) (brought_code other (Convert from to a) q e t)
  brought_alike from to a p q d e t same operand at_once =
      either_alike starts.raises raises (masks from to) _ _ _ _ (alike_joined _ _ _ _ (operand_alike a p q t operand) (still (λ i. low_byte (same_value a t i) (same i) ∷ []))) at_once

module _ (raises : ℕ) where
  abbrev AlikeBy : Starts → (a x : List Instruction) → Type 0
  AlikeBy starts a x = AreAlike starts.raises raises a x

  mutual
    expression_alike : (starts : Starts) → (a : Expression) (p q d e t : ℕ) → p ≡ q → d ≡ e → AlikeBy starts (expression_code starts a p d t) (expression_code (other starts raises) a q e t)
    expression_alike starts (Number n) p q d e t place same = still (λ i. instructions.Move (same i) (operands.Word n) ∷ [])
    expression_alike starts NullPointer p q d e t place same = still (λ i. instructions.Move (same i) (operands.Word 0) ∷ [])
    expression_alike starts HeapRegion p q d e t place same = still (λ i. instructions.Move (same i) (operands.Word HEAP) ∷ [])
    expression_alike starts (Counter l) p q d e t place same = still (λ i. instructions.Move (same i) (operands.Slot (counter_of starts l)) ∷ [])
    expression_alike starts (Copy l ty) p q d e t place same = load_alike starts raises (words_of ty) l d e same
    expression_alike starts (Move w n ty) p q d e t place same = load_alike starts raises (words_of ty) (Local w n) d e same
    expression_alike starts (Peek w n ty) p q d e t place same = load_alike starts raises (words_of ty) (Local w n) d e same
    expression_alike starts (Call callees.Putchar cs ty) p q d e t place same =
        let byte = same_printed starts raises cs (operands.Slot t) (operands.Slot t) t refl in
        alike_joined _ _ _ _ (printed_alike starts cs p q t place) (still (λ i. instructions.WriteByte (byte i) ∷ low_byte (byte i) (same i) ∷ []))
    expression_alike starts (Call callees.Getchar cs ty) p q d e t place same = alike_joined _ _ _ _ (arguments_alike starts cs p q t place) (still (λ i. instructions.ReadByte (same i) ∷ []))
    expression_alike starts (Call (callees.Function n) cs ty) p q d e t place same = alike_joined _ _ _ _ (arguments_alike starts cs p q t place) (still (λ i. instructions.Call n t (all_passed cs) (same i) ∷ []))
    expression_alike starts (NumberOfElements a) p q d e t place same =
        onward _ _ _ _ place (operand_alike starts raises a p q t (expression_alike starts a p q _ _ t place (same_slot starts raises a t))) (λ next. still (λ i. count_code (same_value starts raises a t i) (next i) (same i)))
    expression_alike starts (Unary unary.Widen a) p q d e t place same = expression_alike starts a p q d e t place same
    expression_alike starts (Unary o a) p q d e t place same =
        alike_joined _ _ _ _ (operand_alike starts raises a p q t (expression_alike starts a p q _ _ t place (same_slot starts raises a t))) (still (λ i. unary_instruction o (same i) (same_value starts raises a t i) ∷ []))
    expression_alike starts (Binary a os ty) p q d e t place same =
        onward _ _ _ _ place (unless_alike starts.raises raises _ _ _ _ (same_left starts raises a os) (expression_alike starts a p q _ _ t place (same_left_slot starts raises a os d e t same)))
        (λ next. operations_alike starts os _ _ _ _ d e t next (λ i. operand_or (same_left starts raises a os i) (same_left_slot starts raises a os d e t same i)) same)
    expression_alike starts (Assign (Local w n) c ty) p q d e t place same =
        alike_joined _ _ _ _ (initial_alike starts c p q (slot_of starts n) (slot_of starts n) t place refl) (still (λ i. copy_code (passed_words c) (operands.Slot (slot_of starts n)) (same i)))
    expression_alike starts (Assign (Global n) c ty) p q d e t place same =
        alike_joined _ _ _ _ (alike_joined _ _ _ _ (converted_operand_alike starts c p q t place) (still (λ i. global_code (passed_words c) (global_of starts n) (same_converted starts raises c t i))))
        (still (λ i. copy_code (passed_words c) (same_converted starts raises c t i) (same i)))
    expression_alike starts (Load x) p q d e t place same =
        alike_joined _ _ _ _ (place_alike starts x p q t place) (still (λ i. loaded_code (kind_of (type_of_place x)) (same_place starts raises x t i) (same_offset starts raises x i) (same i) t))
    expression_alike starts (AddressOf (Local w n) ty) p q d e t place same = still (λ i. address_of_code starts (Local w n) (kind_after ty) (same i))
    expression_alike starts (AddressOf (Global n) ty) p q d e t place same = still (λ i. address_of_code starts (Global n) (kind_after ty) (same i))
    expression_alike starts (AddressOfCell x ty) p q d e t place same =
        alike_joined _ _ _ _ (place_alike starts x p q t place) (still (λ i. address_code (same_place starts raises x t i) (same_offset starts raises x i) (same i)))
    expression_alike starts (Store x c ty) p q d e t place same =
        alike_joined _ _ _ _
        (onward _ _ _ _ place (alike_joined _ _ _ _ (place_alike starts x p q t place) (still (λ i. address_code (same_place starts raises x t i) (same_offset starts raises x i) t)))
        (λ next. alike_joined _ _ _ _ (converted_operand_alike starts c _ _ (t + 1) next) (still (λ i. saved_code (kind_passed c) t (same_converted starts raises c (t + 1) i)))))
        (still (λ i. copy_code (passed_words c) (same_converted starts raises c (t + 1) i) (same i)))
    expression_alike starts (New OnHeap x ty) p q d e t place same = made_alike starts x (operands.Word HEAP) p q d e t place same
    expression_alike starts (New AsUnique x ty) p q d e t place same = made_alike starts x (operands.Word UNIQUE) p q d e t place same
    expression_alike starts (New (ByHandle a) x ty) p q d e t place same =
        onward _ _ _ _ place (expression_alike starts a p q t t t place refl) (λ next. made_alike starts x (operands.Slot t) _ _ d e (t + 1) next same)
    expression_alike starts (FreeKey a) p q d e t place same =
        alike_joined _ _ _ _ (operand_alike starts raises a p q t (expression_alike starts a p q _ _ t place (same_slot starts raises a t))) (still (λ i. closing_code (same_value starts raises a t i)))
    expression_alike starts (FreeUnique a) p q d e t place same =
        onward _ _ _ _ place (operand_alike starts raises a p q t (expression_alike starts a p q _ _ t place (same_slot starts raises a t))) (λ next. still (λ i. free_code (same_value starts raises a t i) (next i)))

    place_alike : (starts : Starts) → (x : Dereference) (p q t : ℕ) → p ≡ q → AlikeBy starts (place_code starts x p t) (place_code (other starts raises) x q t)
    place_alike starts (Target k a ty) p q t place =
        onward _ _ _ _ place (operand_alike starts raises a p q t (expression_alike starts a p q _ _ t place (same_slot starts raises a t)))
        (λ next. followed_alike starts raises (is_thin k) (span_in ty) _ _ t _ _ (same_value starts raises a t) next)
    place_alike starts (Member k a s f ty) p q t place =
        alike_joined _ _ _ _ (operand_alike starts raises a p q t (expression_alike starts a p q _ _ t place (same_slot starts raises a t))) (check_alike starts raises null_exception _ _ (same_value starts raises a t))
    place_alike starts (Element a x ty) p q t place =
        let front = code_unless_slot (pointer_of (other starts raises) a x) (expression_code (other starts raises) a q t t) in
        let m = q + length front in
        let operand = code_unless (operand_of (other starts raises) x) (expression_code (other starts raises) x m (value_slot (other starts raises) x (t + 3)) (t + 3)) in
        let there = m + length operand + 1 in
        onward _ _ _ _ place (unless_slot_alike starts.raises raises _ _ _ _ (same_pointer starts raises a x) (expression_alike starts a p q t t t place refl))
        (λ next. onward _ _ _ _ next (operand_alike starts raises x _ _ (t + 3) (expression_alike starts x _ _ _ _ (t + 3) next (same_slot starts raises x (t + 3))))
        (λ last. led (λ i. instructions.Binary plain_binary.Add (t + 2) (operands.Slot (slot_or (same_pointer starts raises a x i) t + 2)) (same_value starts raises x (t + 3) i))
        (moved (λ i. reached_code (other starts raises) (span_in ty) (slot_or (same_pointer starts raises a x i) t) (t + 2) t there)
        (reached_alike starts raises (span_in ty) (slot_or (pointer_of starts a x) t) (t + 2) t _ there (λ i. last i + 1)))))

    made_alike : (starts : Starts) → (x : Initial) (handle : Operand) (p q d e t : ℕ) → p ≡ q → d ≡ e → AlikeBy starts (made_code starts x handle p d t) (made_code (other starts raises) x handle q e t)
    made_alike starts (Plain kind a) handle p q d e t place same = alike_joined _ _ _ _ (expression_alike starts a p q t t t place refl) (still (λ i. object_code handle (kind ∷ []) (same i) t))
    made_alike starts (Fields cs) handle p q d e t place same = alike_joined _ _ _ _ (arguments_alike starts cs p q t place) (still (λ i. object_code handle (kinds_passed cs) (same i) t))
    made_alike starts (Array w level n kind a) handle p q d e t place same =
        onward _ _ _ _ place (expression_alike starts n p q t t t place refl)
        (λ next. onward (begun_code starts handle kind t) _ (begun_code (other starts raises) handle kind t) _ next (begun_alike starts raises handle kind t)
        (λ last. elements_alike starts.raises raises kind _ _ _ _ d e t last same (expression_alike (with_counter starts (t + 2)) a _ _ (t + 3) (t + 3) (t + 3) (λ i. last i + 1) refl)))

    arguments_alike : (starts : Starts) → (cs : Arguments) (p q t : ℕ) → p ≡ q → AlikeBy starts (arguments_code starts cs p t) (arguments_code (other starts raises) cs q t)
    arguments_alike starts NoArguments p q t place = still refl
    arguments_alike starts (MoreArguments c cs) p q t place = onward _ _ _ _ place (converted_alike starts c p q t place) (λ next. arguments_alike starts cs _ _ (t + passed_words c) next)

    converted_alike : (starts : Starts) → (c : Converted) (p q t : ℕ) → p ≡ q → AlikeBy starts (converted_code starts c p t) (converted_code (other starts raises) c q t)
    converted_alike starts (Convert from to a) p q t place =
        onward _ _ _ _ place (brought_alike starts raises from to a p q t t t refl (expression_alike starts a p q _ _ t place (same_slot starts raises a t)) (expression_alike starts a p q t t t place refl))
        (λ next. conversion_alike starts raises from to (span_of a) (operands.Slot t) (operands.Slot t) _ _ refl next)

    converted_operand_alike : (starts : Starts) → (c : Converted) (p q t : ℕ) → p ≡ q → AlikeBy starts (converted_operand_code starts c p t) (converted_operand_code (other starts raises) c q t)
    converted_operand_alike starts (Convert from to a) p q t place =
        let slot = same_source_slot starts raises (Convert from to a) t in
        converted_by_alike starts raises _ _ _ _ from to (span_of a) _ _ p q (same_source starts raises (Convert from to a)) (same_converted starts raises (Convert from to a) t) place
        (brought_alike starts raises from to a p q _ _ t slot (expression_alike starts a p q _ _ t place (same_slot starts raises a t)) (expression_alike starts a p q _ _ t place slot))

    printed_alike : (starts : Starts) → (cs : Arguments) (p q t : ℕ) → p ≡ q → AlikeBy starts (printed_code starts cs p t) (printed_code (other starts raises) cs q t)
    printed_alike starts NoArguments p q t place = still refl
    printed_alike starts (MoreArguments c cs) p q t place = onward _ _ _ _ place (converted_operand_alike starts c p q t place) (λ next. printed_alike starts cs _ _ t next)

    initial_alike : (starts : Starts) → (c : Converted) (p q d e t : ℕ) → p ≡ q → d ≡ e → AlikeBy starts (initial_code starts c p d t) (initial_code (other starts raises) c q e t)
    initial_alike starts (Convert from to a) p q d e t place same =
        let slot = same_source_slot starts raises (Convert from to a) t in
        either_alike starts.raises raises (converts_there from to) _ _ _ _ (brought_alike starts raises from to a p q d e t same (expression_alike starts a p q _ _ t place (same_slot starts raises a t)) (expression_alike starts a p q d e t place same))
        (alike_joined _ _ _ _
        (converted_by_alike starts raises _ _ _ _ from to (span_of a) _ _ p q (same_source starts raises (Convert from to a)) (same_converted starts raises (Convert from to a) t) place
        (brought_alike starts raises from to a p q _ _ t slot (expression_alike starts a p q _ _ t place (same_slot starts raises a t)) (expression_alike starts a p q _ _ t place slot)))
        (still (λ i. move_of (words_of_kind to) (same i) (same_converted starts raises (Convert from to a) t i) ∷ [])))

    operations_alike : (starts : Starts) → (os : Operations) (p q : ℕ) (l m : Operand) (d e t : ℕ) → p ≡ q → l ≡ m → d ≡ e → AlikeBy starts (operations_code starts os p l d t) (operations_code (other starts raises) os q m e t)
    operations_alike starts NoOperations p q l m d e t place left same = still refl
    operations_alike starts (ThenCompute o a os) p q l m d e t place left same =
        onward _ _ _ _ place
        (alike_joined _ _ _ _ (operand_alike starts raises a p q (suc t) (expression_alike starts a p q _ _ (suc t) place (same_slot starts raises a (suc t)))) (operator_alike starts raises o l m _ _ _ _ left (same_value starts raises a (suc t)) (λ i. next_slot os (same i) t)))
        (λ next. operations_alike starts os _ _ _ _ d e t next (λ i. operands.Slot (next_slot os (same i) t)) same)
    operations_alike starts (ThenTest o a os) p q l m d e t place left same =
        onward (test_code o (expression_code starts a (p + 1) t t) p (next_slot os d t) t) _ (test_code o (expression_code (other starts raises) a (q + 1) t t) q (next_slot os e t) t) _ place
        (test_alike starts.raises raises o _ _ p q _ _ t place (λ i. next_slot os (same i) t) (expression_alike starts a (p + 1) (q + 1) t t t (λ i. place i + 1) refl))
        (λ next. operations_alike starts os _ _ _ _ d e t next (λ i. operands.Slot (next_slot os (same i) t)) same)
    operations_alike starts (ThenPointer o a os) p q l m d e t place left same =
        onward _ _ _ _ place
        (alike_joined _ _ _ _ (operand_alike starts raises a p q (after_left o t) (expression_alike starts a p q _ _ (after_left o t) place (same_slot starts raises a (after_left o t))))
        (still (λ i. pointer_instructions o (left i) (same_value starts raises a (after_left o t) i) (next_slot os (same i) t))))
        (λ next. operations_alike starts os _ _ _ _ d e t next (λ i. operands.Slot (next_slot os (same i) t)) same)
    operations_alike starts (ThenPointerPeek n o a os) p q l m d e t place left same =
        onward _ _ _ _ place
        (alike_joined _ _ _ _ (operand_alike starts raises a p q (after_left o t) (expression_alike starts a p q _ _ (after_left o t) place (same_slot starts raises a (after_left o t))))
        (still (λ i. pointer_instructions o (left i) (same_value starts raises a (after_left o t) i) (next_slot os (same i) t))))
        (λ next. operations_alike starts os _ _ _ _ d e t next (λ i. operands.Slot (next_slot os (same i) t)) same)

module _ (starts : Starts) (raises : ℕ) where
  assignment_alike : (l : Lvalue) (c : Converted) (p q t : ℕ) → p ≡ q → Alike starts raises (assignment_code starts l c p t) (assignment_code (other starts raises) l c q t)
  assignment_alike (Local w n) c p q t place = initial_alike raises starts c p q (slot_of starts n) (slot_of starts n) t place refl
  assignment_alike (Global n) c p q t place = alike_joined _ _ _ _ (converted_operand_alike raises starts c p q t place) (still (λ i. global_code (passed_words c) (global_of starts n) (same_converted starts raises c t i)))

  discarded_alike : (a : Expression) (p q t : ℕ) → p ≡ q → Alike starts raises (discarded_code starts a p t) (discarded_code (other starts raises) a q t)
  discarded_alike (Call callees.Putchar cs ty) p q t place =
      alike_joined _ _ _ _ (printed_alike raises starts cs p q t place) (still (λ i. instructions.WriteByte (same_printed starts raises cs (operands.Slot t) (operands.Slot t) t refl i) ∷ []))
  discarded_alike (Assign l c ty) p q t place = assignment_alike l c p q t place
  discarded_alike (Store x c ty) p q t place =
      onward _ _ _ _ place (alike_joined _ _ _ _ (place_alike raises starts x p q t place) (still (λ i. address_code (same_place starts raises x t i) (same_offset starts raises x i) t)))
      (λ next. alike_joined _ _ _ _ (converted_operand_alike raises starts c _ _ (t + 1) next) (still (λ i. saved_code (kind_passed c) t (same_converted starts raises c (t + 1) i))))
  discarded_alike a p q t place =
      unless_alike starts.raises raises (operand_of starts a) (operand_of (other starts raises) a) (expression_code starts a p t t) (expression_code (other starts raises) a q t t) (same_operand starts raises a) (expression_alike raises starts a p q t t t place refl)

  condition_alike : (a b : Expression) (p q t : ℕ) → p ≡ q → Alike starts raises (pair_code starts a b p t) (pair_code (other starts raises) a b q t)
  condition_alike a b p q t place =
      onward _ _ _ _ place
      (unless_alike starts.raises raises _ _ _ _ (λ i. left_with (same_simple starts raises b i) (same_operand starts raises a i))
      (expression_alike raises starts a p q _ _ t place (same_with starts raises (is_simple starts b) (is_simple (other starts raises) b) a t (same_simple starts raises b))))
      (λ next. operand_alike starts raises b _ _ (suc t) (expression_alike raises starts b _ _ _ _ (suc t) next (same_slot starts raises b (suc t))))

  -- The two operands that a condition compares, each a slot or a constant, do not depend on the position of the blocks that raise
  -- exceptions.

  same_condition : (a : Expression) (t : ℕ) → condition_of starts a t ≡ condition_of (other starts raises) a t
  same_condition a t =
      let l = (compared_of a).left in
      let r = (compared_of a).right in
      let slot = same_with starts raises (is_simple starts r) (is_simple (other starts raises) r) l t (same_simple starts raises r) in
      λ i. record { failing = (compared_of a).failing; left = operand_or (left_with (same_simple starts raises r i) (same_operand starts raises l i)) (slot i); right = same_value starts raises r (suc t) i }

  same_last : (os : Operations) (c d : Condition) (t : ℕ) → c ≡ d → last_condition starts os c t ≡ last_condition (other starts raises) os d t
  same_last NoOperations c d t same = same
  same_last (ThenTest o b os) c d t same = same_last os _ _ t (same_condition b t)
  same_last (ThenCompute o b os) c d t same = same_last os c d t same
  same_last (ThenPointer o b os) c d t same = same_last os c d t same
  same_last (ThenPointerPeek n o b os) c d t same = same_last os c d t same

  same_choice : (u : LogicalOperator) (a : Expression) (t : ℕ) → choice_of starts u a t ≡ choice_of (other starts raises) u a t
  same_choice u (Unary unary.Not a) t = λ i. negated_condition (same_choice (turned_test u) a t i)
  same_choice u (Binary a os ty) t = λ i. if are_tests u os then same_last os _ _ t (same_condition a t) i else same_condition (Binary a os ty) t i
  same_choice u a t = same_condition a t

  same_branch : (u : LogicalOperator) (a : Expression) (t : ℕ) → branch_of starts u a t ≡ branch_of (other starts raises) u a t
  same_branch u (Unary unary.Not a) t = λ i. negated_condition (same_branch (turned_test u) a t i)
  same_branch u (Binary a os ty) t = λ i. if are_tests u os then same_last os _ _ t (same_condition a t) i else same_choice (turned_test u) (Binary a os ty) t i
  same_branch u a t = same_choice (turned_test u) a t

  -- The code of the later operands in a chain of `&&` or `||` is the same for two positions of the blocks that raise exceptions, except for
  -- the jumps to these blocks.
  others_alike : (u : LogicalOperator) (os : Operations) (c d : Condition) (x y p q t : ℕ) → c ≡ d → x ≡ y → p ≡ q → Alike starts raises (others_code starts u os c x p t) (others_code (other starts raises) u os d y q t)
  others_alike u NoOperations c d x y p q t same aim place = still refl
  others_alike u (ThenTest o b os) c d x y p q t same aim place =
      onward (deciding_jump u c x ∷ condition_code starts b (p + 1) t) _ (deciding_jump u d y ∷ condition_code (other starts raises) b (q + 1) t) _ place
      (led (λ i. deciding_jump u (same i) (aim i)) (condition_alike (compared_of b).left (compared_of b).right (p + 1) (q + 1) t (λ i. place i + 1)))
      (λ next. others_alike u os _ _ x y _ _ t (same_condition b t) aim next)
  others_alike u (ThenCompute o b os) c d x y p q t same aim place = others_alike u os c d x y p q t same aim place
  others_alike u (ThenPointer o b os) c d x y p q t same aim place = others_alike u os c d x y p q t same aim place
  others_alike u (ThenPointerPeek n o b os) c d x y p q t same aim place = others_alike u os c d x y p q t same aim place

  tests_alike : (u : LogicalOperator) (a : Expression) (os : Operations) (x y p q t : ℕ) → x ≡ y → p ≡ q → Alike starts raises (tests_code starts u a os x p t) (tests_code (other starts raises) u a os y q t)
  tests_alike u a os x y p q t aim place =
      onward _ _ _ _ place (condition_alike (compared_of a).left (compared_of a).right p q t place) (λ next. others_alike u os _ _ x y _ _ t (same_condition a t) aim next)

  choice_alike : (u : LogicalOperator) (a : Expression) (p q t : ℕ) → p ≡ q → Alike starts raises (choice_code starts u a p t) (choice_code (other starts raises) u a q t)
  choice_alike u (Unary unary.Not a) p q t place = choice_alike (turned_test u) a p q t place
  choice_alike u (Binary a os ty) p q t place =
      either_alike starts.raises raises (are_tests u os) _ _ _ _ (tests_alike u a os _ _ p q t (λ i. place i + same_length (tests_alike u a os 0 0 p q t refl place) i + 1) place)
      (condition_alike (compared_of (Binary a os ty)).left (compared_of (Binary a os ty)).right p q t place)
  choice_alike u a p q t place = condition_alike (compared_of a).left (compared_of a).right p q t place

  branch_alike : (u : LogicalOperator) (a : Expression) (p q t x y : ℕ) → p ≡ q → x ≡ y → Alike starts raises (branch_code starts u a x p t) (branch_code (other starts raises) u a y q t)
  branch_alike u (Unary unary.Not a) p q t x y place aim = branch_alike (turned_test u) a p q t x y place aim
  branch_alike u (Binary a os ty) p q t x y place aim =
      either_alike starts.raises raises (are_tests u os) _ _ _ _ (tests_alike u a os x y p q t aim place) (choice_alike (turned_test u) (Binary a os ty) p q t place)
  branch_alike u a p q t x y place aim = choice_alike (turned_test u) a p q t place

  return_alike : (v : Option Converted) (p q : ℕ) (exits outs : Exits) (t : ℕ) → p ≡ q → exits ≡ outs → Alike starts raises (return_code starts v p exits t) (return_code (other starts raises) v q outs t)
  return_alike None p q exits outs t place out = still (λ i. return_code starts None p (out i) t)
  return_alike (Some (Convert from to a)) p q exits outs t place out =
      let known = same_source starts raises (Convert from to a) in
      alike_joined _ _ _ _
      (alike_joined _ _ _ _
      (onward _ _ _ _ place
      (unless_slot_alike starts.raises raises _ _ _ _ known (brought_alike starts raises from to a p q t t t refl (expression_alike raises starts a p q _ _ t place (same_slot starts raises a t)) (expression_alike raises starts a p q t t t place refl)))
      (λ next. conversion_alike starts raises from to (span_of a) _ _ _ _ (λ i. operands.Slot (slot_or (known i) t)) next))
      (still (λ i. leave_code ((out i).in_function))))
      (still (λ i. instructions.Finish (slot_or (known i) t) ∷ []))

  declaration_alike : (n : ℕ) (ty : Ty) (v : Option Converted) (p q t : ℕ) → p ≡ q → Alike starts raises (declaration_code starts n ty v p t) (declaration_code (other starts raises) n ty v q t)
  declaration_alike n ty None p q t place = still refl
  declaration_alike n ty (Some c) p q t place = initial_alike raises starts c p q (slot_of starts n) (slot_of starts n) t place refl

  side_alike : (x : Side) (p q t : ℕ) → p ≡ q → Alike starts raises (side_code starts x p t) (side_code (other starts raises) x q t)
  side_alike (VariableSide l ty) p q t place = still refl
  side_alike (CellSide x) p q t place = alike_joined _ _ _ _ (place_alike raises starts x p q t place) (still (λ i. address_code (same_place starts raises x t i) (same_offset starts raises x i) t))

  same_read : (x : Side) (kind : Kind) (s d : ℕ) → read_side starts x kind s d ≡ read_side (other starts raises) x kind s d
  same_read (VariableSide (Local w n) ty) kind s d = refl
  same_read (VariableSide (Global n) ty) kind s d = refl
  same_read (CellSide x) kind s d = refl

  same_write : (x : Side) (kind : Kind) (s v : ℕ) → write_side starts x kind s v ≡ write_side (other starts raises) x kind s v
  same_write (VariableSide (Local w n) ty) kind s v = refl
  same_write (VariableSide (Global n) ty) kind s v = refl
  same_write (CellSide x) kind s v = refl

  swap_alike : (x y : Side) (p q t : ℕ) → p ≡ q → Alike starts raises (swap_code starts x y p t) (swap_code (other starts raises) x y q t)
  swap_alike x y p q t place =
      let kind = kind_of (type_of_side x) in
      let words = words_of_kind kind in
      onward _ _ _ _ place (side_alike x p q t place)
      (λ next. alike_joined _ _ _ _ (side_alike y _ _ (right_slot x t) next)
      (still (λ i. same_read x kind t (t + 2) i ++ (same_read y kind (right_slot x t) (t + 2 + words) i ++ (same_write x kind t (t + 2 + words) i ++ same_write y kind (right_slot x t) (t + 2) i)))))

  thrown_alike : (v : Option Expression) (p q t : ℕ) → p ≡ q → Alike starts raises (thrown_code starts v p t) (thrown_code (other starts raises) v q t)
  thrown_alike None p q t place = still refl
  thrown_alike (Some a) p q t place = operand_alike starts raises a p q t (expression_alike raises starts a p q _ _ t place (same_slot starts raises a t))

  same_thrown : (v : Option Expression) (t : ℕ) → thrown_operand starts v t ≡ thrown_operand (other starts raises) v t
  same_thrown None t = refl
  same_thrown (Some a) t = same_value starts raises a t

  caught_alike : (x : Option ℕ) (t : ℕ) → Alike starts raises (caught_code starts x t) (caught_code (other starts raises) x t)
  caught_alike None t = still refl
  caught_alike (Some n) t = still refl

  -- `is_light`, the test if a condition has little code, has the same result for every position of the blocks that raise exceptions.
  same_light : (a : Expression) → is_light starts a ≡ is_light (other starts raises) a
  same_light (Load (Element a i ty)) = λ k. is_some (same_operand starts raises a k) && same_simple starts raises i k
  same_light (Load x) = refl
  same_light (Unary unary.Widen a) = same_light a
  same_light a = same_simple starts raises a

  same_compares : (a : Expression) (os : Operations) → compares_light starts a os ≡ compares_light (other starts raises) a os
  same_compares a (ThenCompute o b NoOperations) = λ i. is_some (failing_comparison o) && (same_light a i && same_light b i)
  same_compares a os = refl

  same_guard : (a : Expression) → is_guard starts a ≡ is_guard (other starts raises) a
  same_guard (Unary unary.Not a) = same_guard a
  same_guard (Binary a os ty) = λ i. same_simple starts raises (Binary a os ty) i || same_compares a os i
  same_guard a = same_light a

  mutual
    statement_alike : (s : Statement) (p q : ℕ) (exits outs : Exits) (t : ℕ) → p ≡ q → exits ≡ outs → Alike starts raises (statement_code starts s p exits t) (statement_code (other starts raises) s q outs t)
    statement_alike (Block r js) p q exits outs t place out = items_alike js p q exits outs t place out
    statement_alike Empty p q exits outs t place out = still refl
    statement_alike (Evaluate a) p q exits outs t place out = discarded_alike a p q t place
    statement_alike (If a s u) p q exits outs t place out =
        let condition = branch_alike logical.AndThen a p q t 0 0 place refl in
        let after_condition : p + length (branch_code starts logical.AndThen a 0 p t) + 1 ≡ q + length (branch_code (other starts raises) logical.AndThen a 0 q t) + 1 = λ i. place i + same_length condition i + 1 in
        let first = statement_alike s _ _ exits outs t after_condition out in
        let jump = same_branch logical.AndThen a t in
        if_alike starts.raises raises (is_nothing u) (λ x. branch_code starts logical.AndThen a x p t) (λ x. branch_code (other starts raises) logical.AndThen a x q t) _ _ _ _
        (failing_jump (branch_of starts logical.AndThen a t)) (failing_jump (branch_of (other starts raises) logical.AndThen a t)) p q place
        (λ m n same. branch_alike logical.AndThen a p q t m n place same) (λ i. failing_jump (jump i)) first
        (statement_alike u _ _ exits outs t (λ i. after_condition i + same_length first i + over_length (is_nothing u)) out)
    statement_alike (While w a s) p q exits outs t place out =
        let same = other starts raises in
        let guarded = is_guard same a in
        let tests = choice_alike logical.AndThen a p q t place in
        let leaving : p + entry_length (is_guard starts a) (choice_code starts logical.AndThen a p t) ≡ q + entry_length guarded (choice_code same logical.AndThen a q t)
        = λ i. place i + entry_lengths starts.raises raises (is_guard starts a) guarded _ _ (same_guard a) (same_length tests) i in
        let front = choice_alike logical.OrElse a p q t place in
        let after_front : p + length (choice_code starts logical.OrElse a p t) + 1 ≡ q + length (choice_code same logical.OrElse a q t) + 1 = λ i. place i + same_length front i + 1 in
        let jump = same_choice logical.AndThen a t in
        let body = statement_alike s _ _ (inside_loop p p exits) (inside_loop q q outs) t after_front (λ i. inside_loop (place i) (place i) (out i)) in
        let x = q + length (choice_code same logical.OrElse a q t) + 1 in
        let inner = statement_code same s x (inside_loop q q outs) t in
        let out_of = q + entry_length guarded (choice_code same logical.AndThen a q t) in
        moved (λ i. if same_guard a i && not (breaks s)
        then through_by (choice_code same logical.OrElse a q t) (failing_jump (choice_of same logical.OrElse a t)) inner (choice_code same logical.AndThen a (x + length inner) t) (holding_jump (choice_of same logical.AndThen a t) x) q
        else entered_code guarded (λ n. choice_code same logical.AndThen a n t) (statement_code same s (body_target out_of) (inside_loop q out_of outs) t) (holding_jump (choice_of same logical.AndThen a t)) q out_of)
        (either_alike starts.raises raises (goes_through starts a s) _ _ _ _
        (through_alike starts.raises raises _ _ _ _ _ _ _ _ _ _ p q place (λ i. failing_jump (same_choice logical.OrElse a t i)) (λ i. holding_jump (jump i) (after_front i)) front body
        (choice_alike logical.AndThen a _ _ t (λ i. after_front i + same_length body i)))
        (entered_alike starts.raises raises (is_guard starts a) guarded (λ n. choice_code starts logical.AndThen a n t) (λ n. choice_code same logical.AndThen a n t) _ _ (holding_jump (choice_of starts logical.AndThen a t)) (holding_jump (choice_of same logical.AndThen a t)) p q _ _
        (same_guard a) place leaving (λ i. holding_jump (jump i)) (λ m n there. choice_alike logical.AndThen a m n t there)
        (statement_alike s _ _ _ _ t (λ i. body_target (leaving i)) (λ i. inside_loop (place i) (leaving i) (out i)))))
    statement_alike (Return v) p q exits outs t place out = return_alike v p q exits outs t place out
    statement_alike Break p q exits outs t place out = still (λ i. leave_code ((out i).in_loop) ++ instructions.Jump (break_target (out i)) ∷ [])
    statement_alike Continue p q exits outs t place out = still (λ i. leave_code ((out i).in_loop) ++ instructions.Jump (continue_target (out i)) ∷ [])
    statement_alike (Throw tag v) p q exits outs t place out = alike_joined _ _ _ _ (thrown_alike v p q t place) (still (λ i. instructions.Throw (tag_operand tag) (same_thrown v t i) ∷ []))
    statement_alike (Try s cs) p q exits outs t place out =
        let close = instructions.Leave t ∷ [] in
        let kept = kept_code starts t in
        let restored = restored_code starts t in
        let begin : p + length kept + 1 ≡ q + length kept + 1 = λ i. place i + length kept + 1 in
        let within = statement_alike s _ _ (inside_try exits t) (inside_try outs t) (after_record starts t) begin (λ i. inside_try (out i) t) in
        let body = alike_joined _ close _ close within (still refl) in
        alike_joined kept _ kept _ (still refl)
        (try_alike starts.raises raises _ _ _ _ t (p + length kept) (q + length kept) (λ i. place i + length kept) body
        (alike_joined restored _ restored _ (still refl) (clauses_alike cs _ _ _ _ exits outs t (λ i. begin i + same_length body i + 1 + length restored) (λ i. begin i + same_length body i) out)))
    statement_alike (Swap x y) p q exits outs t place out = swap_alike x y p q t place

    items_alike : (js : Items) (p q : ℕ) (exits outs : Exits) (t : ℕ) → p ≡ q → exits ≡ outs → Alike starts raises (items_code starts js p exits t) (items_code (other starts raises) js q outs t)
    items_alike NoItems p q exits outs t place out = still refl
    items_alike (MoreItems (Execute s) js) p q exits outs t place out = onward _ _ _ _ place (statement_alike s p q exits outs t place out) (λ next. items_alike js _ _ exits outs t next out)
    items_alike (MoreItems (Declare n ty v) js) p q exits outs t place out = onward _ _ _ _ place (declaration_alike n ty v p q t place) (λ next. items_alike js _ _ exits outs t next out)
    items_alike (MoreItems (DeclareRegion r n) js) p q exits outs t place out =
        let opened = opened_code starts n t in
        onward opened _ opened _ place (still refl)
        (λ next. alike_joined _ (closed_code t) _ (closed_code t) (items_alike js _ _ (inside_region exits t) (inside_region outs t) (t + 1) next (λ i. inside_region (out i) t)) (still refl))
    items_alike (MoreItems (OpenRegion r n w k) js) p q exits outs t place out = led refl (items_alike js (p + 1) (q + 1) exits outs t (λ i. place i + 1) out)
    items_alike (MoreItems (DeclareAlias r n ty w s) js) p q exits outs t place out = led refl (items_alike js (p + 1) (q + 1) exits outs t (λ i. place i + 1) out)
    items_alike (MoreItems (DeclareKey r n) js) p q exits outs t place out = led refl (led refl (items_alike js (p + 2) (q + 2) exits outs t (λ i. place i + 2) out))

    clauses_alike : (cs : Clauses) (p q over aim : ℕ) (exits outs : Exits) (t : ℕ) → p ≡ q → over ≡ aim → exits ≡ outs → Alike starts raises (clauses_code starts cs p over exits t) (clauses_code (other starts raises) cs q aim outs t)
    clauses_alike NoClauses p q over aim exits outs t place end out = still refl
    clauses_alike (Default r js) p q over aim exits outs t place end out = items_alike js p q exits outs t place out
    clauses_alike (Case tag x r js cs) p q over aim exits outs t place end out =
        let begin : p + 1 ≡ q + 1 = λ i. place i + 1 in
        let items = onward _ _ _ _ begin (caught_alike x t) (λ next. items_alike js _ _ exits outs t next out) in
        let a = caught_code starts x t ++ items_code starts js (p + 1 + length (caught_code starts x t)) exits t in
        let b = caught_code (other starts raises) x t ++ items_code (other starts raises) js (q + 1 + length (caught_code (other starts raises) x t)) outs t in
        onward (clause_code tag t a p over) _ (clause_code tag t b q aim) _ place (clause_alike starts.raises raises tag t a b p q over aim place end items) (λ next. clauses_alike cs _ _ over aim exits outs t next end out)

-- The code of a function's body is the same for two positions of the blocks that raise exceptions, except for the
-- jumps to these blocks. The blocks that raise exceptions come after the given code position.
module _ (structs : List StructType) (globals : List ℕ) (scopes : Option ℕ) (h : Function) where
  pub body_alike : (far near : ℕ) → AreAlike far near (body_code (starts_with far structs globals scopes h) h) (body_code (starts_with near structs globals scopes h) h)
  body_alike far near = items_alike (starts_with far structs globals scopes h) near h.body 0 0 outside_loops outside_loops (first_temporary h) refl refl

  pub body_long : length (body_code (starts_with (raises_of structs globals scopes h) structs globals scopes h) h) ≡ raises_of structs globals scopes h
  body_long = sym (same_length (body_alike 0 (raises_of structs globals scopes h)))
