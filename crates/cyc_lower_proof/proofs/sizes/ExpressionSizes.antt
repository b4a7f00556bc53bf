-- The size of the code of an expression is bounded by the number of tokens in the expression's text. The code of an expression without
-- effects has at most half the bound of other expressions.
use Rattle.std.proofs.Common.{◌≡◌, ℕ, zero, suc, ◌+◌, ◌*◌, ◌≤◌, true, false, List, [], ◌∷◌, ◌++◌, length, Option, None, Some, refl, arith}
use Rattle.std.specs.Prelude.{◌==◌, is_some}
use Rattle.cyc_words.proofs.Booleans.{and_left, and_right}
use Rattle.cyc_types.specs.declared.typed.Callee.TheVariants as callees
use Rattle.cyc_types.specs.declared.typed.UnaryOperator.TheVariants as unary
use Rattle.cyc_types.specs.declared.typed.PointerOperator.{PointerOperator}
use Rattle.cyc_types.specs.TypedTrees.{Load, New, OnHeap, AsUnique, ByHandle, Initial, Plain, Fields, Array, Dereference, Target, Member, Element, Lvalue, Local, Global, Expression, Number}
use Rattle.cyc_types.specs.TypedTrees.{NullPointer, HeapRegion, Counter, Copy, Call, Unary, Binary, Assign, Converted, Convert, Arguments, NoArguments, MoreArguments, Operations, NoOperations}
use Rattle.cyc_types.specs.TypedTrees.{ThenCompute, ThenTest, ThenPointer, ThenPointerPeek, Move, Peek, AddressOfCell, Store, FreeUnique, NumberOfElements, type_of_place, FreeKey, AddressOf}
use Rattle.cyc_types.specs.Types.{Ty, words_of}
use Rattle.cyc_types.proofs.WeightLemmas.{some_token}
use Rattle.cyc_types.specs.Weight.{expression_weight, dereference_weight, initial_weight, converted_weight, arguments_weight, more_arguments_weight, operations_weight}
use Rattle.cyc_plain.specs.declared.instruction.Comparison.TheVariants as comparisons
use Rattle.cyc_plain.specs.declared.instruction.Operand.{Operand}
use Rattle.cyc_plain.specs.declared.instruction.Operand.TheVariants as operands
use Rattle.cyc_plain.specs.declared.instruction.Instruction.{Instruction}
use Rattle.cyc_plain.specs.declared.instruction.Instruction.TheVariants as instructions
use Rattle.cyc_lower_proof.specs.inside.Slots.{with_counter, slot_of, Starts, global_of}
use Rattle.cyc_store.specs.declared.range.TheConstants.{HEAP, UNIQUE}
use Rattle.cyc_meaning.specs.Values.{kind_of, words_of_kind, is_thin}
use Rattle.cyc_lower_proof.proofs.slots.Widths.{kind_few, type_words}
use Rattle.cyc_lower_proof.proofs.slots.CellBytes.{passed_slots}
use Rattle.cyc_lower_proof.specs.inside.ValueCode.{converts_there, passed_words, all_passed, kinds_passed, operand_or, code_unless, code_unless_slot, next_slot, conversion_code, operator_code, low_byte, test_code, copy_code, after_left, pointer_code, pointer_instructions}
use Rattle.cyc_lower_proof.specs.inside.ValueCode.{address_code, count_code, span_of, loaded_code, followed_operand, span_in, reached_operand, word_by_word, load_word, store_word, global_code, unary_instruction, last_byte_code, kind_after, kind_passed}
use Rattle.cyc_lower_proof.specs.inside.ObjectCode.{begun_code, filled_code, ended_code, elements_code, object_code, free_code, saved_code}
use Rattle.cyc_lower_proof.specs.inside.ControlCode.{closing_code}
use Rattle.cyc_lower_proof.specs.inside.ExpressionCode.{source_of, source_slot, operand_of, left_of, value_slot, left_slot, value_operand, converted_operand, printed_operand, load_code, expression_code, arguments_code, converted_code}
use Rattle.cyc_lower_proof.specs.inside.ExpressionCode.{converted_operand_code, printed_code, initial_code, operations_code, made_code, place_operand, place_offset, place_code, pointer_of, pointer_slot, brought_code, is_simple, are_simple}
use Rattle.cyc_lower_proof.specs.inside.Lowering.{store_address_code, is_light}
use Rattle.cyc_meaning.specs.Sizes.{size_per_weight}
use Rattle.cyc_lower_proof.proofs.sizes.PieceWords.{passed_few}
use Rattle.cyc_lower_proof.proofs.sizes.PieceSizes.{code_size, code_size-append, cons, unless_size, conversion_size, operator_size, move_size, copy_size, copied_address_size, copied_pointer_size, address_size, brought_by_size, converted_by_size}
use Rattle.cyc_lower_proof.proofs.sizes.PieceSizes.{followed_by_size, tested_by_size, initial_by_size, unary_size, pointer_size, count_size, element_by_size, test_size, saved_size, loaded_size, object_size, begun_size, last_byte_size, filled_size, more_weight}

-- ---- the first slots of locals

module _ (starts : Starts) where
  pub loads_size : (words first d : ℕ) → code_size (word_by_word load_word words first d) ≤ 6 * words
  loads_size zero first d = omega arith
  loads_size (suc words) first d = omega (arith, cons (load_word first d) (word_by_word load_word words (suc first) (suc d)), loads_size words (suc first) (suc d))

  pub saves_size : (words first n : ℕ) → code_size (word_by_word store_word words first n) ≤ 5 * words
  saves_size zero first n = omega arith
  saves_size (suc words) first n = omega (arith, cons (store_word first n) (word_by_word store_word words (suc first) (suc n)), saves_size words (suc first) (suc n))

  pub global_size : (c : Converted) (first : ℕ) (o : Operand) → code_size (global_code (passed_words c) first o) ≤ 15
  global_size (Convert from to a) first (operands.Slot n) = omega (arith, saves_size (words_of_kind to) first n, kind_few to)
  global_size (Convert from to a) first (operands.Word n) = omega arith

  load_size : (l : Lvalue) (t : Ty) (d : ℕ) → code_size (load_code starts (words_of t) l d) ≤ 20
  load_size (Local w n) t d = move_size (words_of t) d (operands.Slot (slot_of starts n)) (omega (arith, type_words t, kind_few (kind_of t)))
  load_size (Global n) t d = omega (arith, loads_size (words_of t) (global_of starts n) d, type_words t, kind_few (kind_of t))

  -- The size of the code of a pointer operator, together with the code of its right operand and the code that follows.
  right_size : (o : PointerOperator) (a : Expression) (p : ℕ) (l : Operand) (d t : ℕ) (back : List Instruction)
      → code_size (expression_code starts a p (value_slot starts a (after_left o t)) (after_left o t)) ≤ size_per_weight * expression_weight a
      → code_size (pointer_code o l (value_operand starts a (after_left o t)) (code_unless (operand_of starts a) (expression_code starts a p (value_slot starts a (after_left o t)) (after_left o t))) d ++ back)
      ≤ size_per_weight * expression_weight a + 36 + code_size back
  right_size o a p l d t back few =
      let r = value_operand starts a (after_left o t) in
      let inner = expression_code starts a p (value_slot starts a (after_left o t)) (after_left o t) in
      let operand = code_unless (operand_of starts a) inner in
      omega (arith, code_size-append (pointer_code o l r operand d) back, code_size-append operand (pointer_instructions o l r d), unless_size (operand_of starts a) inner, pointer_size o l r d, few)

mutual
  pub expression_size : (starts : Starts) → (a : Expression) (p d t : ℕ) → code_size (expression_code starts a p d t) ≤ size_per_weight * expression_weight a
  expression_size starts (Number n) p d t = omega arith
  expression_size starts (Copy l ty) p d t = omega (arith, load_size starts l ty d)
  expression_size starts (Move w n ty) p d t = omega (arith, load_size starts (Local w n) ty d)
  expression_size starts (Peek w n ty) p d t = omega (arith, load_size starts (Local w n) ty d)
  expression_size starts (Call callees.Putchar cs ty) p d t =
      let o = printed_operand starts cs (operands.Slot t) t in
      omega (arith, code_size-append (printed_code starts cs p t) (instructions.WriteByte o ∷ low_byte o d ∷ []), printed_size starts cs p t)
  expression_size starts (Call callees.Getchar cs ty) p d t =
      omega (arith, code_size-append (arguments_code starts cs p t) (instructions.ReadByte d ∷ []), arguments_size starts cs p t)
  expression_size starts (Call (callees.Function n) cs ty) p d t =
      omega (arith, code_size-append (arguments_code starts cs p t) (instructions.Call n t (all_passed cs) d ∷ []), arguments_size starts cs p t)
  expression_size starts (NumberOfElements a) p d t =
      let inner = expression_code starts a p (value_slot starts a t) t in
      let front = code_unless (operand_of starts a) inner in
      let count = count_code (value_operand starts a t) (p + length front) d in
      omega (arith, code_size-append front count, unless_size (operand_of starts a) inner, expression_size starts a p (value_slot starts a t) t, count_size (value_operand starts a t) (p + length front) d)
  expression_size starts (Unary unary.Widen a) p d t = omega (arith, expression_size starts a p d t)
  expression_size starts (Unary o a) p d t =
      let inner = expression_code starts a p (value_slot starts a t) t in
      let r = value_operand starts a t in
      omega (
        arith,
        code_size-append (code_unless (operand_of starts a) inner) (unary_instruction o d r ∷ []),
        cons (unary_instruction o d r) [],
        unary_size o d r,
        unless_size (operand_of starts a) inner,
        expression_size starts a p (value_slot starts a t) t,
      )
  expression_size starts (Binary a os ty) p d t =
      let inner = expression_code starts a p (left_slot starts a os d t) t in
      let front = code_unless (left_of starts a os) inner in
      let l = operand_or (left_of starts a os) (left_slot starts a os d t) in
      omega (arith, code_size-append front (operations_code starts os (p + length front) l d t), unless_size (left_of starts a os) inner, expression_size starts a p (left_slot starts a os d t) t, operations_size starts os (p + length front) l d t)
  expression_size starts (Assign (Local w n) c ty) p d t =
      let o = operands.Slot (slot_of starts n) in
      omega (arith, code_size-append (initial_code starts c p (slot_of starts n) t) (copy_code (passed_words c) o d), initial_size starts c p (slot_of starts n) t, copy_size c o d)
  expression_size starts (Assign (Global n) c ty) p d t =
      let o = converted_operand starts c t in
      let front = converted_operand_code starts c p t in
      let store = global_code (passed_words c) (global_of starts n) o in
      omega (arith, code_size-append (front ++ store) (copy_code (passed_words c) o d), code_size-append front store, converted_operand_size starts c p t, global_size starts c (global_of starts n) o, copy_size c o d)
  expression_size starts (Load x) p d t =
      let o = place_operand starts x t in
      let kind = kind_of (type_of_place x) in
      omega (arith, code_size-append (place_code starts x p t) (loaded_code kind o (place_offset starts x) d t), place_size starts x p t, loaded_size (words_of_kind kind == 1) kind o (place_offset starts x) d t)
  expression_size starts (AddressOf (Local w n) ty) p d t =
      let kind = kind_after ty in
      omega (arith, cons (instructions.AddressOf d (slot_of starts n) (words_of_kind kind)) (last_byte_code kind d), last_byte_size kind d)
  expression_size starts (AddressOf (Global n) ty) p d t = omega arith
  expression_size starts (AddressOfCell x ty) p d t =
      let address = address_code (place_operand starts x t) (place_offset starts x) d in
      omega (arith, code_size-append (place_code starts x p t) address, place_size starts x p t, address_size (place_operand starts x t) (place_offset starts x) d)
  expression_size starts (Store x c ty) p d t =
      let address = store_address_code starts x p t in
      let value = converted_operand_code starts c (p + length address) (t + 1) in
      let o = converted_operand starts c (t + 1) in
      let write = saved_code (kind_passed c) t o in
      omega (
        arith,
        code_size-append (address ++ (value ++ write)) (copy_code (passed_words c) o d),
        code_size-append address (value ++ write),
        code_size-append value write,
        saved_size (kind_passed c) t o,
        store_address_size starts x p t,
        converted_operand_size starts c (p + length address) (t + 1),
        copy_size c o d,
      )
  expression_size starts (FreeUnique a) p d t =
      let inner = expression_code starts a p (value_slot starts a t) t in
      let front = code_unless (operand_of starts a) inner in
      omega (arith, code_size-append front (free_code (value_operand starts a t) (p + length front)), unless_size (operand_of starts a) inner, expression_size starts a p (value_slot starts a t) t)
  expression_size starts (New OnHeap i ty) p d t = made_size starts i (operands.Word HEAP) p d t
  expression_size starts (New AsUnique i ty) p d t = omega (arith, made_size starts i (operands.Word UNIQUE) p d t)
  expression_size starts (New (ByHandle h) i ty) p d t =
      let front = expression_code starts h p t t in
      omega (arith, code_size-append front (made_code starts i (operands.Slot t) (p + length front) d (t + 1)), expression_size starts h p t t, made_size starts i (operands.Slot t) (p + length front) d (t + 1))
  expression_size starts (FreeKey a) p d t =
      let inner = expression_code starts a p (value_slot starts a t) t in
      let front = code_unless (operand_of starts a) inner in
      omega (arith, code_size-append front (closing_code (value_operand starts a t)), unless_size (operand_of starts a) inner, expression_size starts a p (value_slot starts a t) t)
  expression_size starts a p d t = omega (arith, some_token a)

  made_size : (starts : Starts) → (i : Initial) (handle : Operand) (p d t : ℕ) → code_size (made_code starts i handle p d t) ≤ size_per_weight * (1 + initial_weight i)
  made_size starts (Plain kind a) handle p d t =
      omega (arith, code_size-append (expression_code starts a p t t) (object_code handle (kind ∷ []) d t), expression_size starts a p t t, object_size handle (kind ∷ []) d t, kind_few kind)
  made_size starts (Fields cs) handle p d t =
      omega (arith, code_size-append (arguments_code starts cs p t) (object_code handle (kinds_passed cs) d t), fields_size starts cs p t, more_weight cs, object_size handle (kinds_passed cs) d t, passed_slots cs)
  made_size starts (Array w level n kind a) handle p d t =
      let first = expression_code starts n p t t in
      let m = p + length first in
      let begun = begun_code starts handle kind t in
      let head = m + length begun in
      let inner = expression_code (with_counter starts (t + 2)) a (head + 1) (t + 3) (t + 3) in
      let filled = filled_code kind head t in
      let elements = elements_code kind inner head d t in
      let jump = instructions.Branch comparisons.Equal (operands.Slot (t + 2)) (operands.Slot (t + 1)) (head + 1 + length (inner ++ filled)) in
      omega (
        arith,
        code_size-append first (begun ++ elements),
        code_size-append begun elements,
        begun_size starts handle kind t,
        filled_size kind head t,
        cons jump ((inner ++ filled) ++ ended_code d t),
        code_size-append (inner ++ filled) (ended_code d t),
        code_size-append inner filled,
        cons (instructions.Move (t + 2) (operands.Word 0)) (copy_code 3 (operands.Slot t) d),
        copied_pointer_size t d,
        expression_size starts n p t t,
        expression_size (with_counter starts (t + 2)) a (head + 1) (t + 3) (t + 3),
      )

  place_size : (starts : Starts) → (x : Dereference) (p t : ℕ) → code_size (place_code starts x p t) + 41 ≤ size_per_weight * dereference_weight x
  place_size starts (Target k a ty) p t =
      let slot = value_slot starts a t in
      omega (
        arith,
        followed_by_size starts (operand_of starts a) (expression_code starts a p slot t) (is_thin k) (span_in ty) (value_operand starts a t) t p (size_per_weight * expression_weight a) (expression_size starts a p slot t),
      )
  place_size starts (Member k a n f ty) p t =
      let slot = value_slot starts a t in
      omega (arith, tested_by_size starts (operand_of starts a) (expression_code starts a p slot t) (value_operand starts a t) (size_per_weight * expression_weight a) (expression_size starts a p slot t))
  place_size starts (Element a i ty) p t =
      let front = expression_code starts a p t t in
      let slot = value_slot starts i (t + 3) in
      let q = p + length (code_unless_slot (pointer_of starts a i) front) in
      omega (
        arith,
        element_by_size starts (pointer_of starts a i) front (operand_of starts i) (expression_code starts i q slot (t + 3)) (span_in ty) (pointer_slot starts a i t) (value_operand starts i (t + 3)) t p (size_per_weight * expression_weight a) (size_per_weight * expression_weight i) (expression_size starts a p t t) (expression_size starts i q slot (t + 3)),
      )

  -- The size of the code that stores through an address, including the address in a slot.
  pub store_address_size : (starts : Starts) → (x : Dereference) (p t : ℕ) → code_size (store_address_code starts x p t) + 12 ≤ size_per_weight * dereference_weight x
  store_address_size starts (Target k a ty) p t =
      let slot = value_slot starts a t in
      let o = value_operand starts a t in
      let x = followed_operand (is_thin k) (span_in ty) o t in
      let front = place_code starts (Target k a ty) p t in
      omega (
        arith,
        code_size-append front (copy_code 1 x t),
        followed_by_size starts (operand_of starts a) (expression_code starts a p slot t) (is_thin k) (span_in ty) o t p (size_per_weight * expression_weight a) (expression_size starts a p slot t),
        copied_address_size x t,
      )
  store_address_size starts (Member k a n f ty) p t =
      let slot = value_slot starts a t in
      let o = value_operand starts a t in
      let x = Member k a n f ty in
      let front = place_code starts x p t in
      omega (
        arith,
        code_size-append front (address_code o (place_offset starts x) t),
        tested_by_size starts (operand_of starts a) (expression_code starts a p slot t) o (size_per_weight * expression_weight a) (expression_size starts a p slot t),
        address_size o (place_offset starts x) t,
      )
  store_address_size starts (Element a i ty) p t =
      let front = expression_code starts a p t t in
      let slot = value_slot starts i (t + 3) in
      let q = p + length (code_unless_slot (pointer_of starts a i) front) in
      let x = reached_operand (span_in ty) (pointer_slot starts a i t) t in
      omega (
        arith,
        code_size-append (place_code starts (Element a i ty) p t) (copy_code 1 x t),
        copied_address_size x t,
        element_by_size starts (pointer_of starts a i) front (operand_of starts i) (expression_code starts i q slot (t + 3)) (span_in ty) (pointer_slot starts a i t) (value_operand starts i (t + 3)) t p (size_per_weight * expression_weight a) (size_per_weight * expression_weight i) (expression_size starts a p t t) (expression_size starts i q slot (t + 3)),
      )

  pub initial_size : (starts : Starts) → (c : Converted) (p d t : ℕ) → code_size (initial_code starts c p d t) ≤ size_per_weight * converted_weight c + 64
  initial_size starts (Convert from to a) p d t =
      let slot = source_slot starts (Convert from to a) t in
      initial_by_size starts (converts_there from to) (source_of starts (Convert from to a)) (brought_code starts (Convert from to a) p d t) (brought_code starts (Convert from to a) p slot t) from to (span_of a) (converted_operand starts (Convert from to a) t) p d
      (size_per_weight * expression_weight a) (brought_by_size from to (operand_of starts a) (expression_code starts a p (value_slot starts a t) t) (expression_code starts a p d t) (value_operand starts a t) d (size_per_weight * expression_weight a) (expression_size starts a p (value_slot starts a t) t) (expression_size starts a p d t)) (brought_by_size from to (operand_of starts a) (expression_code starts a p (value_slot starts a t) t) (expression_code starts a p slot t) (value_operand starts a t) slot (size_per_weight * expression_weight a) (expression_size starts a p (value_slot starts a t) t) (expression_size starts a p slot t))

  converted_size : (starts : Starts) → (c : Converted) (p t : ℕ) → code_size (converted_code starts c p t) ≤ size_per_weight * converted_weight c + 44
  converted_size starts (Convert from to a) p t =
      let front = brought_code starts (Convert from to a) p t t in
      omega (arith, code_size-append front (conversion_code starts from to (span_of a) (operands.Slot t) (p + length front)), brought_by_size from to (operand_of starts a) (expression_code starts a p (value_slot starts a t) t) (expression_code starts a p t t) (value_operand starts a t) t (size_per_weight * expression_weight a) (expression_size starts a p (value_slot starts a t) t) (expression_size starts a p t t), conversion_size starts from to (span_of a) (operands.Slot t) (p + length front))

  pub converted_operand_size : (starts : Starts) → (c : Converted) (p t : ℕ) → code_size (converted_operand_code starts c p t) ≤ size_per_weight * converted_weight c + 44
  converted_operand_size starts (Convert from to a) p t =
      let slot = source_slot starts (Convert from to a) t in
      converted_by_size starts (source_of starts (Convert from to a)) (brought_code starts (Convert from to a) p slot t) from to (span_of a) (converted_operand starts (Convert from to a) t) p
      (size_per_weight * expression_weight a) (brought_by_size from to (operand_of starts a) (expression_code starts a p (value_slot starts a t) t) (expression_code starts a p slot t) (value_operand starts a t) slot (size_per_weight * expression_weight a) (expression_size starts a p (value_slot starts a t) t) (expression_size starts a p slot t))

  pub printed_size : (starts : Starts) → (cs : Arguments) (p t : ℕ) → code_size (printed_code starts cs p t) ≤ size_per_weight * arguments_weight cs + 44
  printed_size starts NoArguments p t = omega arith
  printed_size starts (MoreArguments c cs) p t =
      let front = converted_operand_code starts c p t in
      omega (arith, code_size-append front (printed_code starts cs (p + length front) t), converted_operand_size starts c p t, more_printed_size starts cs (p + length front) t)

  more_printed_size : (starts : Starts) → (cs : Arguments) (p t : ℕ) → code_size (printed_code starts cs p t) ≤ size_per_weight * more_arguments_weight cs
  more_printed_size starts NoArguments p t = omega arith
  more_printed_size starts (MoreArguments c cs) p t =
      let front = converted_operand_code starts c p t in
      omega (arith, code_size-append front (printed_code starts cs (p + length front) t), converted_operand_size starts c p t, more_printed_size starts cs (p + length front) t)

  -- The size of the code of an object's fields, including a store for each word.
  fields_size : (starts : Starts) → (cs : Arguments) (p t : ℕ) → code_size (arguments_code starts cs p t) + 10 * all_passed cs ≤ size_per_weight * more_arguments_weight cs
  fields_size starts NoArguments p t = omega arith
  fields_size starts (MoreArguments c cs) p t =
      let q = p + length (converted_code starts c p t) in
      omega (arith, code_size-append (converted_code starts c p t) (arguments_code starts cs q (t + passed_words c)), converted_size starts c p t, passed_few c, fields_size starts cs q (t + passed_words c))

  -- The size of the code of arguments, including the moves of the words that are passed.
  arguments_size : (starts : Starts) → (cs : Arguments) (p t : ℕ) → code_size (arguments_code starts cs p t) + 4 * all_passed cs ≤ size_per_weight * arguments_weight cs + 56
  arguments_size starts NoArguments p t = omega arith
  arguments_size starts (MoreArguments c cs) p t =
      let q = p + length (converted_code starts c p t) in
      omega (arith, code_size-append (converted_code starts c p t) (arguments_code starts cs q (t + passed_words c)), converted_size starts c p t, passed_few c, more_arguments_size starts cs q (t + passed_words c))

  more_arguments_size : (starts : Starts) → (cs : Arguments) (p t : ℕ) → code_size (arguments_code starts cs p t) + 4 * all_passed cs ≤ size_per_weight * more_arguments_weight cs
  more_arguments_size starts NoArguments p t = omega arith
  more_arguments_size starts (MoreArguments c cs) p t =
      let q = p + length (converted_code starts c p t) in
      omega (arith, code_size-append (converted_code starts c p t) (arguments_code starts cs q (t + passed_words c)), converted_size starts c p t, passed_few c, more_arguments_size starts cs q (t + passed_words c))

  operations_size : (starts : Starts) → (os : Operations) (p : ℕ) (l : Operand) (d t : ℕ) → code_size (operations_code starts os p l d t) ≤ size_per_weight * operations_weight os
  operations_size starts NoOperations p l d t = omega arith
  operations_size starts (ThenCompute o a os) p l d t =
      let inner = expression_code starts a p (value_slot starts a (suc t)) (suc t) in
      let operand = code_unless (operand_of starts a) inner in
      let next = next_slot os d t in
      let operator = operator_code starts o l (value_operand starts a (suc t)) next in
      let q = p + length (operand ++ operator) in
      omega (
        arith,
        code_size-append (operand ++ operator) (operations_code starts os q (operands.Slot next) d t),
        code_size-append operand operator,
        unless_size (operand_of starts a) inner,
        expression_size starts a p (value_slot starts a (suc t)) (suc t),
        operator_size starts o l (value_operand starts a (suc t)) next,
        operations_size starts os q (operands.Slot next) d t,
      )
  operations_size starts (ThenTest o a os) p l d t =
      let operand = expression_code starts a (p + 1) t t in
      let next = next_slot os d t in
      let front = test_code o operand p next t in
      let q = p + length front in
      omega (arith, code_size-append front (operations_code starts os q (operands.Slot next) d t), test_size o operand p next t, expression_size starts a (p + 1) t t, operations_size starts os q (operands.Slot next) d t)
  operations_size starts (ThenPointer o a os) p l d t =
      let slot = value_slot starts a (after_left o t) in
      let next = next_slot os d t in
      let q = p + length (pointer_code o l (value_operand starts a (after_left o t)) (code_unless (operand_of starts a) (expression_code starts a p slot (after_left o t))) next) in
      omega (arith, right_size starts o a p l next t (operations_code starts os q (operands.Slot next) d t) (expression_size starts a p slot (after_left o t)), operations_size starts os q (operands.Slot next) d t)
  operations_size starts (ThenPointerPeek n o a os) p l d t =
      let slot = value_slot starts a (after_left o t) in
      let next = next_slot os d t in
      let q = p + length (pointer_code o l (value_operand starts a (after_left o t)) (code_unless (operand_of starts a) (expression_code starts a p slot (after_left o t))) next) in
      omega (arith, right_size starts o a p l next t (operations_code starts os q (operands.Slot next) d t) (expression_size starts a p slot (after_left o t)), operations_size starts os q (operands.Slot next) d t)

-- ---- simple code has at most half the size bound, so that it may be emitted twice

known_size : (known : Option Operand) (x : List Instruction) → is_some known ≡ true → code_size (code_unless known x) ≡ 0
known_size (Some o) x some = refl
known_size None x some = absurd (let f : false ≡ true = some in cc)

module _ (starts : Starts) where
  known_operand_size : (a : Expression) (p d t : ℕ) → is_some (operand_of starts a) ≡ true → code_size (expression_code starts a p d t) ≤ 50 * expression_weight a
  known_operand_size (Number n) p d t some = omega arith
  known_operand_size NullPointer p d t some = omega arith
  known_operand_size HeapRegion p d t some = omega arith
  known_operand_size (Counter l) p d t some = omega arith
  known_operand_size (Copy l ty) p d t some = omega (arith, load_size starts l ty d)
  known_operand_size (Move w n ty) p d t some = omega (arith, load_size starts (Local w n) ty d)
  known_operand_size (Peek w n ty) p d t some = omega (arith, load_size starts (Local w n) ty d)
  known_operand_size (Unary unary.Widen a) p d t some = omega (arith, known_operand_size a p d t some)
  known_operand_size a p d t some = absurd (let f : false ≡ true = some in cc)

  simple_operations_size : (os : Operations) (p : ℕ) (l : Operand) (d t : ℕ) → are_simple starts os ≡ true → code_size (operations_code starts os p l d t) ≤ 50 * operations_weight os
  simple_operations_size NoOperations p l d t simple = omega arith
  simple_operations_size (ThenCompute o a os) p l d t simple =
      let inner = expression_code starts a p (value_slot starts a (suc t)) (suc t) in
      let operand = code_unless (operand_of starts a) inner in
      let next = next_slot os d t in
      let operator = operator_code starts o l (value_operand starts a (suc t)) next in
      let q = p + length (operand ++ operator) in
      omega (
        arith,
        code_size-append (operand ++ operator) (operations_code starts os q (operands.Slot next) d t),
        code_size-append operand operator,
        known_size (operand_of starts a) inner (and_left (is_some (operand_of starts a)) (are_simple starts os) simple),
        operator_size starts o l (value_operand starts a (suc t)) next,
        simple_operations_size os q (operands.Slot next) d t (and_right (is_some (operand_of starts a)) (are_simple starts os) simple),
      )
  simple_operations_size os p l d t simple = absurd (let f : false ≡ true = simple in cc)

  simple_size : (a : Expression) (p d t : ℕ) → is_simple starts a ≡ true → code_size (expression_code starts a p d t) ≤ 50 * expression_weight a
  simple_size (Unary unary.Widen a) p d t simple = omega (arith, known_operand_size a p d t simple)
  simple_size (Unary o a) p d t simple =
      let inner = expression_code starts a p (value_slot starts a t) t in
      let r = value_operand starts a t in
      omega (arith, code_size-append (code_unless (operand_of starts a) inner) (unary_instruction o d r ∷ []), cons (unary_instruction o d r) [], unary_size o d r, known_size (operand_of starts a) inner simple, some_token a)
  simple_size (Binary a (ThenCompute o b os) ty) p d t simple =
      let inner = expression_code starts a p (left_slot starts a (ThenCompute o b os) d t) t in
      let front = code_unless (left_of starts a (ThenCompute o b os)) inner in
      let l = operand_or (left_of starts a (ThenCompute o b os)) (left_slot starts a (ThenCompute o b os) d t) in
      omega (
        arith,
        code_size-append front (operations_code starts (ThenCompute o b os) (p + length front) l d t),
        unless_size (left_of starts a (ThenCompute o b os)) inner,
        simple_size a p (left_slot starts a (ThenCompute o b os) d t) t (and_left (is_simple starts a) (are_simple starts (ThenCompute o b os)) simple),
        simple_operations_size (ThenCompute o b os) (p + length front) l d t (and_right (is_simple starts a) (are_simple starts (ThenCompute o b os)) simple),
      )
  simple_size a p d t simple = known_operand_size a p d t simple

-- A load through a pointer without code, at an index without code, has at most half the code size that other expressions may have.
module _ (starts : Starts) where
  known_few_size : (a : Expression) (p d t : ℕ) → is_some (operand_of starts a) ≡ true → code_size (expression_code starts a p d t) ≤ 30
  known_few_size (Number n) p d t some = omega arith
  known_few_size NullPointer p d t some = omega arith
  known_few_size HeapRegion p d t some = omega arith
  known_few_size (Counter l) p d t some = omega arith
  known_few_size (Copy l ty) p d t some = omega (arith, load_size starts l ty d)
  known_few_size (Move w n ty) p d t some = omega (arith, load_size starts (Local w n) ty d)
  known_few_size (Peek w n ty) p d t some = omega (arith, load_size starts (Local w n) ty d)
  known_few_size (Unary unary.Widen a) p d t some = omega (arith, known_few_size a p d t some)
  known_few_size a p d t some = absurd (let f : false ≡ true = some in cc)

  pub light_size : (a : Expression) (p d t : ℕ) → is_light starts a ≡ true → code_size (expression_code starts a p d t) ≤ 50 * expression_weight a
  light_size (Load (Element a i ty)) p d t light =
      let known = and_left (is_some (operand_of starts a)) (is_simple starts i) light in
      let simple = and_right (is_some (operand_of starts a)) (is_simple starts i) light in
      let front = expression_code starts a p t t in
      let slot = value_slot starts i (t + 3) in
      let q = p + length (code_unless_slot (pointer_of starts a i) front) in
      let o = place_operand starts (Element a i ty) t in
      let place = place_code starts (Element a i ty) p t in
      omega (
        arith,
        code_size-append place (loaded_code (kind_of ty) o 0 d t),
        loaded_size (words_of_kind (kind_of ty) == 1) (kind_of ty) o 0 d t,
        element_by_size starts (pointer_of starts a i) front (operand_of starts i) (expression_code starts i q slot (t + 3)) (span_in ty) (pointer_slot starts a i t) (value_operand starts i (t + 3)) t p 30 (50 * expression_weight i) (known_few_size a p t t known) (simple_size starts i q slot (t + 3) simple),
        some_token a,
      )
  light_size (Load x) p d t light = absurd (let f : false ≡ true = light in cc)
  light_size (Unary unary.Widen a) p d t light = omega (arith, light_size a p d t light)
  light_size a p d t light = simple_size starts a p d t light
