-- This file defines the code of expressions.
use Rattle.std.specs.Prelude.{ℕ, suc, ◌+◌, Bool, true, false, ◌&&◌, is_some, if◌then◌else◌, List, [], ◌∷◌, ◌++◌, length, Option, None, Some, slice_get}
use Rattle.cyc_types.specs.declared.typed.Callee.TheVariants as callees
use Rattle.cyc_types.specs.declared.typed.UnaryOperator.TheVariants as unary
use Rattle.cyc_types.specs.Types.{words_of}
use Rattle.cyc_types.specs.TypedTrees.{Array, Counter, Load, New, OnHeap, Initial, Plain, Fields, Dereference, Target, Lvalue, Local, Global, Expression, Number, NullPointer, Copy, Call, Unary, Binary, Assign, Converted, Convert, Arguments, NoArguments, MoreArguments}
use Rattle.cyc_types.specs.TypedTrees.{Operations, NoOperations, ThenCompute, ThenTest, ThenPointer, ThenPointerPeek, Move, Peek, AddressOfCell, Store, Member, Element, AsUnique, FreeUnique, NumberOfElements, type_of_place, HeapRegion, AddressOf, FreeKey, ByHandle}
use Rattle.cyc_plain.specs.declared.instruction.Operand.{Operand}
use Rattle.cyc_plain.specs.declared.instruction.Operand.TheVariants as operands
use Rattle.cyc_plain.specs.declared.instruction.Instruction.{Instruction}
use Rattle.cyc_plain.specs.declared.instruction.Instruction.TheVariants as instructions
use Rattle.cyc_store.specs.declared.range.TheConstants.{HEAP, UNIQUE}
use Rattle.cyc_meaning.specs.Values.{is_thin, kind_of}
use Rattle.cyc_lower_proof.specs.inside.Slots.{Starts, slot_of, with_counter, counter_of, field_of, global_of}
use Rattle.cyc_lower_proof.specs.inside.ValueCode.{unary_instruction, after_left, operand_or, code_unless, slot_or, code_unless_slot, left_with, next_slot, move_of, reached_operand, followed_operand, span_in, conversion_code}
use Rattle.cyc_lower_proof.specs.inside.ValueCode.{span_of, count_code, low_byte, compute_code, pointer_code, test_code, copy_code, addressed_by, word_by_word, load_word, global_code, loaded_code, kind_after, address_of_code}
use Rattle.cyc_lower_proof.specs.inside.ValueCode.{keeps_words, converts_there, passed_words, all_passed, kind_passed, kinds_passed, brought_by, converted_by, moved_by, followed_by, element_by, tested_by}
use Rattle.cyc_lower_proof.specs.inside.ObjectCode.{stored_by, object_code, array_code, free_code}
use Rattle.cyc_lower_proof.specs.inside.ControlCode.{closing_code, counter_operand}

-- The definitions of the code of expressions depend on the first slots of the locals and on the structs of the program.
module _ (starts : Starts) where
  -- ---- operands for values

  -- The operand of an expression that needs no code: a number, null, the heap's handle, a local, or the loop counter of an array. The
  -- conversion of a char to an int keeps the operand.
  abbrev pub operand_of : Expression → Option Operand
  operand_of (Number n) = Some (operands.Word n)
  operand_of NullPointer = Some (operands.Word 0)
  operand_of HeapRegion = Some (operands.Word HEAP)
  operand_of (Copy (Local p n) t) = Some (operands.Slot (slot_of starts n))
  operand_of (Move p n t) = Some (operands.Slot (slot_of starts n))
  operand_of (Peek p n t) = Some (operands.Slot (slot_of starts n))
  operand_of (Counter l) = counter_operand (slice_get starts.counters l)
  operand_of (Unary unary.Widen a) = operand_of a
  operand_of a = None

  -- Tells if an expression is simple, that is, if its evaluation has no effect: an operand without code, or operators on such operands.
  -- The first operand of an operator chain may be a simple expression too.
  abbrev pub are_simple : Operations → Bool
  are_simple NoOperations = true
  are_simple (ThenCompute o b os) = is_some (operand_of b) && are_simple os
  are_simple os = false

  abbrev pub is_simple : Expression → Bool
  is_simple (Unary o a) = is_some (operand_of a)
  is_simple (Binary a (ThenCompute o b os) ty) = is_simple a && are_simple (ThenCompute o b os)
  is_simple a = is_some (operand_of a)

  abbrev pub left_of : Expression → Operations → Option Operand
  left_of a (ThenCompute o b os) = left_with (is_simple b) (operand_of a)
  left_of a os = None

  -- The slot that receives the value of an expression that is used as an operand; the value of an assignment to a local is already
  -- in the local's slot.
  abbrev pub value_slot : Expression → (t : ℕ) → ℕ
  value_slot (Assign (Local w n) c ty) t = slot_of starts n
  value_slot (Unary unary.Widen a) t = value_slot a t
  value_slot a t = t

  -- The slot that receives the value of a left operand; `simple` tells if the evaluation of the right operand has no effect.
  abbrev pub slot_with : (simple : Bool) → Expression → (t : ℕ) → ℕ
  slot_with true a t = value_slot a t
  slot_with false a t = t

  abbrev pub left_slot : Expression → Operations → (d t : ℕ) → ℕ
  left_slot a NoOperations d t = d
  left_slot a (ThenCompute o b os) d t = slot_with (is_simple b) a t
  left_slot a os d t = t

  -- The operand that holds the value of an expression after the expression's code.
  abbrev pub value_operand : Expression → (t : ℕ) → Operand
  value_operand a t = operand_or (operand_of a) (value_slot a t)

  -- The operand of a converted value. The value is converted in place unless the conversion changes its words; then the value is first
  -- moved to slot t.
  abbrev pub source_of : Converted → Option Operand
  source_of (Convert from to a) = if keeps_words from to then operand_of a else None

  abbrev pub source_slot : Converted → (t : ℕ) → ℕ
  source_slot (Convert from to a) t = if keeps_words from to then value_slot a t else t

  abbrev pub converted_operand : Converted → (t : ℕ) → Operand
  converted_operand c t = operand_or (source_of c) (source_slot c t)

  -- The operand with the byte that `putchar` prints, which is the only argument of `putchar`.
  abbrev pub printed_operand : Arguments → Operand → (t : ℕ) → Operand
  printed_operand NoArguments o t = o
  printed_operand (MoreArguments c cs) o t = printed_operand cs (converted_operand c t) t

  -- The operand of a fat pointer while its index is computed. The fat pointer stays in its local if the index has no effect, because
  -- then no code assigns the local before the pointer is used.
  abbrev pub pointer_of : (a i : Expression) → Option Operand
  pointer_of a i = left_with (is_simple i) (operand_of a)

  abbrev pub pointer_slot : (a i : Expression) → (t : ℕ) → ℕ
  pointer_slot a i t = slot_or (pointer_of a i) t

  -- The operand with the address of a memory access, to which a number of bytes is yet to be added.
  abbrev pub place_operand : Dereference → (t : ℕ) → Operand
  place_operand (Target k a ty) t = followed_operand (is_thin k) (span_in ty) (value_operand a t) t
  place_operand (Member k a s f ty) t = value_operand a t
  place_operand (Element a i ty) t = reached_operand (span_in ty) (pointer_slot a i t) t

  abbrev pub place_offset : Dereference → ℕ
  place_offset (Member k a s f ty) = field_of starts s f
  place_offset x = 0

  -- ---- expressions

  -- loads the value of a variable that occupies this many machine words
  abbrev pub load_code : (words : ℕ) → Lvalue → (d : ℕ) → List Instruction
  load_code words (Local p n) d = move_of words d (operands.Slot (slot_of starts n)) ∷ []
  load_code words (Global n) d = word_by_word load_word words (global_of starts n) d

-- The code of an expression at position p, which moves the value to slot d and uses temporaries from slot t on.
abbrev mutual
  pub expression_code : (starts : Starts) → Expression → (p d t : ℕ) → List Instruction
  expression_code starts (Number n) p d t = instructions.Move d (operands.Word n) ∷ []
  expression_code starts NullPointer p d t = instructions.Move d (operands.Word 0) ∷ []
  expression_code starts HeapRegion p d t = instructions.Move d (operands.Word HEAP) ∷ []
  expression_code starts (Counter l) p d t = instructions.Move d (operands.Slot (counter_of starts l)) ∷ []
  expression_code starts (Copy l ty) p d t = load_code starts (words_of ty) l d
  expression_code starts (Move w n ty) p d t = load_code starts (words_of ty) (Local w n) d
  expression_code starts (Peek w n ty) p d t = load_code starts (words_of ty) (Local w n) d
  expression_code starts (Call callees.Putchar cs ty) p d t =
      printed_code starts cs p t
      ++ instructions.WriteByte (printed_operand starts cs (operands.Slot t) t)
      ∷ low_byte (printed_operand starts cs (operands.Slot t) t) d
      ∷ []
  expression_code starts (Call callees.Getchar cs ty) p d t = arguments_code starts cs p t ++ instructions.ReadByte d ∷ []
  expression_code starts (Call (callees.Function n) cs ty) p d t =
      arguments_code starts cs p t ++ instructions.Call n t (all_passed cs) d ∷ []
  expression_code starts (NumberOfElements a) p d t =
      code_unless (operand_of starts a) (expression_code starts a p (value_slot starts a t) t)
      ++ count_code (value_operand starts a t) (p + length (code_unless (operand_of starts a) (expression_code starts a p (value_slot starts a t) t))) d
  expression_code starts (Unary unary.Widen a) p d t = expression_code starts a p d t
  expression_code starts (Unary o a) p d t =
      code_unless (operand_of starts a) (expression_code starts a p (value_slot starts a t) t)
      ++ unary_instruction o d (value_operand starts a t)
      ∷ []
  expression_code starts (Binary a os ty) p d t =
      code_unless (left_of starts a os) (expression_code starts a p (left_slot starts a os d t) t)
      ++ operations_code starts os (p + length (code_unless (left_of starts a os) (expression_code starts a p (left_slot starts a os d t) t)))
      (operand_or (left_of starts a os) (left_slot starts a os d t)) d t
  expression_code starts (Assign (Local w n) c ty) p d t =
      initial_code starts c p (slot_of starts n) t ++ copy_code (passed_words c) (operands.Slot (slot_of starts n)) d
  expression_code starts (Assign (Global n) c ty) p d t =
      (converted_operand_code starts c p t ++ global_code (passed_words c) (global_of starts n) (converted_operand starts c t)) ++ copy_code (passed_words c) (converted_operand starts c t) d
  expression_code starts (Load x) p d t = place_code starts x p t ++ loaded_code (kind_of (type_of_place x)) (place_operand starts x t) (place_offset starts x) d t
  expression_code starts (AddressOf l ty) p d t = address_of_code starts l (kind_after ty) d
  expression_code starts (AddressOfCell x ty) p d t = addressed_by (place_code starts x p t) (place_operand starts x t) (place_offset starts x) d
  expression_code starts (Store x c ty) p d t =
      stored_by (addressed_by (place_code starts x p t) (place_operand starts x t) (place_offset starts x) t)
      (converted_operand_code starts c (p + length (addressed_by (place_code starts x p t) (place_operand starts x t) (place_offset starts x) t)) (t + 1)) (kind_passed c) t (converted_operand starts c (t + 1))
      ++ copy_code (passed_words c) (converted_operand starts c (t + 1)) d
  expression_code starts (FreeUnique a) p d t =
      code_unless (operand_of starts a) (expression_code starts a p (value_slot starts a t) t)
      ++ free_code (value_operand starts a t) (p + length (code_unless (operand_of starts a) (expression_code starts a p (value_slot starts a t) t)))
  expression_code starts (FreeKey a) p d t =
      code_unless (operand_of starts a) (expression_code starts a p (value_slot starts a t) t) ++ closing_code (value_operand starts a t)
  expression_code starts (New OnHeap i ty) p d t = made_code starts i (operands.Word HEAP) p d t
  expression_code starts (New AsUnique i ty) p d t = made_code starts i (operands.Word UNIQUE) p d t
  -- The region handle is in slot `t` while the values of the new object are evaluated.
  expression_code starts (New (ByHandle a) i ty) p d t =
      expression_code starts a p t t ++ made_code starts i (operands.Slot t) (p + length (expression_code starts a p t t)) d (t + 1)

  -- Evaluates the address of a memory access through a pointer, and checks the pointer.
  pub place_code : (starts : Starts) → Dereference → (p t : ℕ) → List Instruction
  place_code starts (Target k a ty) p t = followed_by starts (operand_of starts a) (expression_code starts a p (value_slot starts a t) t) (is_thin k) (span_in ty) (value_operand starts a t) t p
  place_code starts (Member k a s f ty) p t = tested_by starts (operand_of starts a) (expression_code starts a p (value_slot starts a t) t) (value_operand starts a t)
  place_code starts (Element a i ty) p t =
      element_by starts (code_unless_slot (pointer_of starts a i) (expression_code starts a p t t))
      (code_unless (operand_of starts i) (expression_code starts i (p + length (code_unless_slot (pointer_of starts a i) (expression_code starts a p t t))) (value_slot starts i (t + 3)) (t + 3)))
      (span_in ty) (pointer_slot starts a i t) (value_operand starts i (t + 3)) t p

  -- Allocates a new object in the region of a handle. The elements of an array have a loop counter.
  pub made_code : (starts : Starts) → Initial → (handle : Operand) → (p d t : ℕ) → List Instruction
  made_code starts (Plain kind a) handle p d t = expression_code starts a p t t ++ object_code handle (kind ∷ []) d t
  made_code starts (Fields cs) handle p d t = arguments_code starts cs p t ++ object_code handle (kinds_passed cs) d t
  made_code starts (Array w level n kind a) handle p d t =
      array_code starts kind (expression_code starts n p t t) (λ q. expression_code (with_counter starts (t + 2)) a q (t + 3) (t + 3)) handle p d t

  -- Each argument is moved into the slots after those of the previous argument.
  pub arguments_code : (starts : Starts) → Arguments → (p t : ℕ) → List Instruction
  arguments_code starts NoArguments p t = []
  arguments_code starts (MoreArguments c cs) p t = converted_code starts c p t ++ arguments_code starts cs (p + length (converted_code starts c p t)) (t + passed_words c)

  -- A value is moved to slot `t` and converted in this slot.
  pub converted_code : (starts : Starts) → Converted → (p t : ℕ) → List Instruction
  converted_code starts (Convert from to a) p t =
      brought_by from to (operand_of starts a) (expression_code starts a p (value_slot starts a t) t) (value_operand starts a t) (expression_code starts a p t t) t
      ++ conversion_code starts from to (span_of a) (operands.Slot t) (p + length (brought_by from to (operand_of starts a) (expression_code starts a p (value_slot starts a t) t) (value_operand starts a t) (expression_code starts a p t t) t))

  -- A value is converted in place, in the operand that holds it.
  pub converted_operand_code : (starts : Starts) → Converted → (p t : ℕ) → List Instruction
  converted_operand_code starts (Convert from to a) p t =
      converted_by starts (source_of starts (Convert from to a))
      (brought_by from to (operand_of starts a) (expression_code starts a p (value_slot starts a t) t) (value_operand starts a t) (expression_code starts a p (source_slot starts (Convert from to a) t) t) (source_slot starts (Convert from to a) t))
      from to (span_of a) (converted_operand starts (Convert from to a) t) p

  -- The code of the arguments of `putchar`, of which there is exactly one.
  pub printed_code : (starts : Starts) → Arguments → (p t : ℕ) → List Instruction
  printed_code starts NoArguments p t = []
  printed_code starts (MoreArguments c cs) p t =
      converted_operand_code starts c p t ++ printed_code starts cs (p + length (converted_operand_code starts c p t)) t

  -- Moves an initial value to slot d. The move is the last instruction, and no exception can be raised after it.
  pub initial_code : (starts : Starts) → Converted → (p d t : ℕ) → List Instruction
  initial_code starts (Convert from to a) p d t =
      if converts_there from to
      then brought_by from to (operand_of starts a) (expression_code starts a p (value_slot starts a t) t) (value_operand starts a t) (expression_code starts a p d t) d
      else moved_by starts (source_of starts (Convert from to a))
      (brought_by from to (operand_of starts a) (expression_code starts a p (value_slot starts a t) t) (value_operand starts a t) (expression_code starts a p (source_slot starts (Convert from to a) t) t) (source_slot starts (Convert from to a) t))
      from to (span_of a) (converted_operand starts (Convert from to a) t) p d

  -- The code of the operators of a chain, with the left operand l. The left operand is in slot t if an operator is a
  -- test, or if the evaluation of the right operand may have an effect.
  pub operations_code : (starts : Starts) → Operations → (p : ℕ) → (l : Operand) → (d t : ℕ) → List Instruction
  operations_code starts NoOperations p l d t = []
  operations_code starts (ThenCompute o b os) p l d t =
      compute_code starts o l (value_operand starts b (suc t)) (code_unless (operand_of starts b) (expression_code starts b p (value_slot starts b (suc t)) (suc t))) (next_slot os d t)
      ++ operations_code starts os
      (p + length (compute_code starts o l (value_operand starts b (suc t)) (code_unless (operand_of starts b) (expression_code starts b p (value_slot starts b (suc t)) (suc t))) (next_slot os d t)))
      (operands.Slot (next_slot os d t)) d t
  operations_code starts (ThenTest o b os) p l d t =
      test_code o (expression_code starts b (p + 1) t t) p (next_slot os d t) t
      ++ operations_code starts os (p + length (test_code o (expression_code starts b (p + 1) t t) p (next_slot os d t) t)) (operands.Slot (next_slot os d t)) d t
  operations_code starts (ThenPointer o b os) p l d t =
      pointer_code o l (value_operand starts b (after_left o t)) (code_unless (operand_of starts b) (expression_code starts b p (value_slot starts b (after_left o t)) (after_left o t))) (next_slot os d t)
      ++ operations_code starts os
      (p + length (pointer_code o l (value_operand starts b (after_left o t)) (code_unless (operand_of starts b) (expression_code starts b p (value_slot starts b (after_left o t)) (after_left o t))) (next_slot os d t)))
      (operands.Slot (next_slot os d t)) d t
  operations_code starts (ThenPointerPeek n o b os) p l d t =
      pointer_code o l (value_operand starts b (after_left o t)) (code_unless (operand_of starts b) (expression_code starts b p (value_slot starts b (after_left o t)) (after_left o t))) (next_slot os d t)
      ++ operations_code starts os
      (p + length (pointer_code o l (value_operand starts b (after_left o t)) (code_unless (operand_of starts b) (expression_code starts b p (value_slot starts b (after_left o t)) (after_left o t))) (next_slot os d t)))
      (operands.Slot (next_slot os d t)) d t

-- Moves a value that is to be converted to slot d; for an int that becomes a char, only the low byte.
abbrev pub brought_code : (starts : Starts) → Converted → (p d t : ℕ) → List Instruction
brought_code starts (Convert from to a) p d t =
    brought_by from to (operand_of starts a) (expression_code starts a p (value_slot starts a t) t) (value_operand starts a t) (expression_code starts a p d t) d
