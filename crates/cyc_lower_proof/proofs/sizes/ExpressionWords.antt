-- The constants in the code of an expression are 32-bit words if the constants in the expression are.
use Rattle.std.proofs.Common.{ℕ, zero, suc, ◌+◌, Bool, true, false, [], ◌∷◌, ◌++◌, length, Option, None, Some, arith, slice_get}
use Rattle.cyc_words.proofs.WordLemmas.{IsWord-add_of}
use Rattle.cyc_words.specs.Word.{IsWord, add_of, mul_of}
use Rattle.cyc_types.specs.declared.typed.Callee.TheVariants as callees
use Rattle.cyc_types.specs.declared.typed.UnaryOperator.TheVariants as unary
use Rattle.cyc_types.specs.TypedTrees.{Array, Counter, Load, New, OnHeap, AsUnique, ByHandle, HeapRegion, AddressOf, FreeKey, Initial, Plain, Fields, Dereference, Target, Lvalue, Local, Global}
use Rattle.cyc_types.specs.TypedTrees.{Expression, Number, NullPointer, Copy, Call, Unary, Binary, Assign, Converted, Convert, Arguments, NoArguments, MoreArguments, Operations, NoOperations}
use Rattle.cyc_types.specs.TypedTrees.{ThenCompute, ThenTest, ThenPointer, Move, Peek, ThenPointerPeek, AddressOfCell, Store, Member, Element, FreeUnique, NumberOfElements, type_of_place}
use Rattle.cyc_plain.specs.declared.instruction.Operand.{Operand}
use Rattle.cyc_plain.specs.declared.instruction.Operand.TheVariants as operands
use Rattle.cyc_plain.specs.inside.WellFormed.{IsOfWord}
use Rattle.cyc_lower_proof.specs.inside.Words.{IsOfWords, IsOfWordsCell, IsOfWordsObject, IsOfWordsConverted, AreOfWordsArguments, AreOfWordsOperations}
use Rattle.cyc_plain.specs.declared.limits.TheConstants.{GLOBALS_BASE}
use Rattle.cyc_lower_proof.specs.inside.Slots.{with_counter, slot_of, Starts, global_of}
use Rattle.std.specs.Prelude.{◌==◌, if◌then◌else◌, ◌%◌, ◌^◌}
use Rattle.cyc_types.specs.Types.{words_of}
use Rattle.cyc_store.specs.declared.range.TheConstants.{HEAP, UNIQUE}
use Rattle.cyc_meaning.specs.Values.{words_of_kind, is_thin, kind_of}
use Rattle.cyc_lower_proof.specs.inside.ValueCode.{converts_there, passed_words, kinds_passed, operand_or, code_unless, code_unless_slot, left_with, next_slot, conversion_code, operator_code, test_code, is_in, copy_code, after_left}
use Rattle.cyc_lower_proof.specs.inside.ValueCode.{pointer_code, addressed_by, span_of, followed_operand, span_in, reached_operand, word_by_word, load_word, store_word, global_code, keeps_words, kind_after, kind_passed, variable_bytes, masks}
use Rattle.cyc_lower_proof.specs.inside.ObjectCode.{begun_code, filled_code, ended_code, elements_code, object_code}
use Rattle.cyc_lower_proof.specs.inside.ControlCode.{counter_operand}
use Rattle.cyc_lower_proof.specs.inside.ExpressionCode.{source_of, source_slot, operand_of, left_of, value_slot, left_slot, value_operand, converted_operand, printed_operand, load_code, expression_code, arguments_code, converted_code}
use Rattle.cyc_lower_proof.specs.inside.ExpressionCode.{converted_operand_code, printed_code, initial_code, operations_code, made_code, place_operand, place_offset, place_code, pointer_of, pointer_slot, brought_code, is_simple}
use Rattle.cyc_lower_proof.specs.inside.Lowering.{store_address_code, store_code}
use Rattle.cyc_lower_proof.proofs.slots.Widths.{kind_few}
use Rattle.cyc_lower_proof.proofs.slots.CellBytes.{passed_slots}
use Rattle.cyc_lower_proof.proofs.sizes.PieceWords.{HaveWords, append, unless_words, conversion_words, operator_words, move_words, copy_words, address_words, field_word, converted_by_words, reached_word, followed_word, followed_by_words, element_by_words}
use Rattle.cyc_lower_proof.proofs.sizes.PieceWords.{tested_by_words, brought_by_words, initial_by_words, unary_words, pointer_words, count_words, test_words, saved_words, loaded_words, last_byte_words, object_words, begun_words, filled_words}

-- ---- the first slots of locals

module _ (starts : Starts) where
  pub known_word : (a : Expression) (slot : ℕ) → IsOfWords a → IsOfWord (operand_or (operand_of starts a) slot)
  known_word (Number n) slot word = word
  known_word NullPointer slot words = omega arith
  known_word HeapRegion slot words = omega arith
  known_word (Copy (Local w n) ty) slot words = tt
  known_word (Move w n ty) slot words = tt
  known_word (Peek w n ty) slot words = tt
  known_word (Counter l) slot words = by (slice_get starts.counters l)
    where
      by : (s : Option ℕ) → IsOfWord (operand_or (counter_operand s) slot)
      by (Some n) = tt
      by None = tt
  known_word (Unary unary.Widen a) slot words = known_word a slot words
  known_word a slot words = tt

  pub converted_word : (c : Converted) (t : ℕ) → IsOfWordsConverted c → IsOfWord (converted_operand starts c t)
  converted_word (Convert from to a) t words = by (keeps_words from to)
    where
      by : (same : Bool) → IsOfWord (operand_or (if same then operand_of starts a else None) (if same then value_slot starts a t else t))
      by true = known_word a (value_slot starts a t) words
      by false = tt

  pub printed_word : (cs : Arguments) (o : Operand) (t : ℕ) → AreOfWordsArguments cs → IsOfWord o → IsOfWord (printed_operand starts cs o t)
  printed_word NoArguments o t words word = word
  printed_word (MoreArguments c cs) o t (first, rest) word = printed_word cs (converted_operand starts c t) t rest (converted_word c t first)

  pub left_with_word : (simple : Bool) (a : Expression) (slot : ℕ) → IsOfWords a → IsOfWord (operand_or (left_with simple (operand_of starts a)) slot)
  left_with_word true a slot words = known_word a slot words
  left_with_word false a slot words = tt

  left_word : (a : Expression) (os : Operations) (slot : ℕ) → IsOfWords a → IsOfWord (operand_or (left_of starts a os) slot)
  left_word a NoOperations slot words = tt
  left_word a (ThenCompute o b os) slot words = left_with_word (is_simple starts b) a slot words
  left_word a os slot words = tt

  place_word : (x : Dereference) (t : ℕ) → IsOfWordsCell x → IsOfWord (place_operand starts x t)
  place_word (Target k a ty) t words = followed_word (is_thin k) (span_in ty) (value_operand starts a t) t (known_word a (value_slot starts a t) words)
  place_word (Member k a s f ty) t words = known_word a (value_slot starts a t) words
  place_word (Element a i ty) t words = reached_word (span_in ty) (pointer_slot starts a i t) t

  offset_word : (x : Dereference) → IsWord (place_offset starts x)
  offset_word (Target k a ty) = omega arith
  offset_word (Member k a s f ty) = field_word (slice_get starts.structs s) f
  offset_word (Element a i ty) = omega arith

  pub loads_words : (words first d : ℕ) → HaveWords (word_by_word load_word words first d)
  loads_words zero first d = tt
  loads_words (suc words) first d = (tt, loads_words words (suc first) (suc d))

  saves_words : (words first n : ℕ) → HaveWords (word_by_word store_word words first n)
  saves_words zero first n = tt
  saves_words (suc words) first n = (tt, saves_words words (suc first) (suc n))

  pub global_words : (words first : ℕ) (o : Operand) → IsOfWord o → HaveWords (global_code words first o)
  global_words words first (operands.Slot n) word = saves_words words first n
  global_words words first (operands.Word n) word = (word, tt)

  load_words : (words : ℕ) (l : Lvalue) (d : ℕ) → HaveWords (load_code starts words l d)
  load_words words (Local w n) d = move_words words d (operands.Slot (slot_of starts n)) tt
  load_words words (Global n) d = loads_words words (global_of starts n) d

mutual
  pub expression_words : (starts : Starts) → (a : Expression) (p d t : ℕ) → IsOfWords a → HaveWords (expression_code starts a p d t)
  expression_words starts (Number n) p d t word = (word, tt)
  expression_words starts NullPointer p d t words = (omega arith, tt)
  expression_words starts (Counter l) p d t words = (tt, tt)
  expression_words starts (Copy l ty) p d t words = load_words starts (words_of ty) l d
  expression_words starts (Move w n ty) p d t words = load_words starts (words_of ty) (Local w n) d
  expression_words starts (Peek w n ty) p d t words = load_words starts (words_of ty) (Local w n) d
  expression_words starts (Call callees.Putchar cs ty) p d t words =
      let byte = printed_word starts cs (operands.Slot t) t words tt in
      append (printed_code starts cs p t) _ (printed_words starts cs p t words) (byte, ((byte, omega arith), tt))
  expression_words starts (Call callees.Getchar cs ty) p d t words = append (arguments_code starts cs p t) _ (arguments_words starts cs p t words) (tt, tt)
  expression_words starts (Call (callees.Function n) cs ty) p d t words = append (arguments_code starts cs p t) _ (arguments_words starts cs p t words) (tt, tt)
  expression_words starts (NumberOfElements a) p d t words =
      let inner = expression_code starts a p (value_slot starts a t) t in
      let front = code_unless (operand_of starts a) inner in
      append front _ (unless_words (operand_of starts a) inner (expression_words starts a p (value_slot starts a t) t words)) (count_words (value_operand starts a t) (p + length front) d)
  expression_words starts (Unary unary.Widen a) p d t words = expression_words starts a p d t words
  expression_words starts (Unary o a) p d t words =
      let inner = expression_code starts a p (value_slot starts a t) t in
      append (code_unless (operand_of starts a) inner) _ (unless_words (operand_of starts a) inner (expression_words starts a p (value_slot starts a t) t words))
      (unary_words o d (value_operand starts a t) (known_word starts a (value_slot starts a t) words), tt)
  expression_words starts (Binary a os ty) p d t (first, rest) =
      let inner = expression_code starts a p (left_slot starts a os d t) t in
      let front = code_unless (left_of starts a os) inner in
      let l = operand_or (left_of starts a os) (left_slot starts a os d t) in
      append front (operations_code starts os (p + length front) l d t) (unless_words (left_of starts a os) inner (expression_words starts a p (left_slot starts a os d t) t first))
      (operations_words starts os (p + length front) l d t (left_word starts a os (left_slot starts a os d t) first) rest)
  expression_words starts (Assign (Local w n) c ty) p d t words =
      let o = operands.Slot (slot_of starts n) in
      append (initial_code starts c p (slot_of starts n) t) (copy_code (passed_words c) o d) (initial_words starts c p (slot_of starts n) t words) (copy_words (is_in o d) (passed_words c) o d tt)
  expression_words starts (Assign (Global n) c ty) p d t words =
      let o = converted_operand starts c t in
      let front = converted_operand_code starts c p t in
      let word = converted_word starts c t words in
      append (front ++ global_code (passed_words c) (global_of starts n) o) (copy_code (passed_words c) o d) (append front _ (converted_operand_words starts c p t words) (global_words starts (passed_words c) (global_of starts n) o word)) (copy_words (is_in o d) (passed_words c) o d word)
  expression_words starts (Load x) p d t words =
      append (place_code starts x p t) _ (place_words starts x p t words) (loaded_words (words_of_kind (kind_of (type_of_place x)) == 1) (kind_of (type_of_place x)) (place_operand starts x t) (place_offset starts x) d t (place_word starts x t words) (offset_word starts x))
  expression_words starts (AddressOfCell x ty) p d t words = address_of_words starts x p d t words
  expression_words starts (Store x c ty) p d t (first, second) =
      let address = store_address_code starts x p t in
      let value = converted_operand_code starts c (p + length address) (t + 1) in
      let o = converted_operand starts c (t + 1) in
      let word = converted_word starts c (t + 1) second in
      append (store_code starts x c p t) (copy_code (passed_words c) o d)
      (append address _ (address_of_words starts x p t t first) (append value _ (converted_operand_words starts c (p + length address) (t + 1) second) (saved_words (kind_passed c) t o word)))
      (copy_words (is_in o d) (passed_words c) o d word)
  expression_words starts (FreeUnique a) p d t words =
      let slot = value_slot starts a t in
      let inner = expression_code starts a p slot t in
      let word = known_word starts a slot words in
      append (code_unless (operand_of starts a) inner) _ (unless_words (operand_of starts a) inner (expression_words starts a p slot t words)) ((word, omega arith), ((word, tt), tt))
  expression_words starts (New OnHeap i ty) p d t (placed, words) = made_words starts i (operands.Word HEAP) p d t (omega arith) words
  expression_words starts (New AsUnique i ty) p d t (placed, words) = made_words starts i (operands.Word UNIQUE) p d t (omega arith) words
  expression_words starts (New (ByHandle h) i ty) p d t (handle, words) =
      let front = expression_code starts h p t t in
      append front _ (expression_words starts h p t t handle) (made_words starts i (operands.Slot t) (p + length front) d (t + 1) tt words)
  expression_words starts HeapRegion p d t words = (omega arith, tt)
  expression_words starts (AddressOf (Local w n) ty) p d t words = (tt, last_byte_words (kind_after ty) d)
  expression_words starts (AddressOf (Global n) ty) p d t words =
      (IsWord-add_of (add_of GLOBALS_BASE (mul_of (global_of starts n % 2 ^ 32) 4)) (variable_bytes (kind_after ty)), tt)
  expression_words starts (FreeKey a) p d t words =
      let slot = value_slot starts a t in
      let inner = expression_code starts a p slot t in
      append (code_unless (operand_of starts a) inner) _ (unless_words (operand_of starts a) inner (expression_words starts a p slot t words)) ((known_word starts a slot words, tt), tt)

  made_words : (starts : Starts) → (i : Initial) (handle : Operand) (p d t : ℕ) → IsOfWord handle → IsOfWordsObject i → HaveWords (made_code starts i handle p d t)
  made_words starts (Plain kind a) handle p d t word words =
      append (expression_code starts a p t t) (object_code handle (kind ∷ []) d t) (expression_words starts a p t t words) (object_words handle (kind ∷ []) d t word (omega (arith, kind_few kind)))
  made_words starts (Fields cs) handle p d t word (few, words) =
      append (arguments_code starts cs p t) (object_code handle (kinds_passed cs) d t) (arguments_words starts cs p t words) (object_words handle (kinds_passed cs) d t word (omega (arith, few.1, passed_slots cs)))
  made_words starts (Array w level n kind a) handle p d t word (count, element) =
      let first = expression_code starts n p t t in
      let m = p + length first in
      let begun = begun_code starts handle kind t in
      let head = m + length begun in
      let inner = expression_code (with_counter starts (t + 2)) a (head + 1) (t + 3) (t + 3) in
      let filled = filled_code kind head t in
      append first (begun ++ elements_code kind inner head d t) (expression_words starts n p t t count)
      (append begun (elements_code kind inner head d t) (begun_words starts kind handle t word) (
        (tt, tt),
        append (inner ++ filled) (ended_code d t) (append inner filled (expression_words (with_counter starts (t + 2)) a (head + 1) (t + 3) (t + 3) element) (filled_words kind head t))
            (omega arith, copy_words (is_in (operands.Slot t) d) 3 (operands.Slot t) d tt),
      ))

  place_words : (starts : Starts) → (x : Dereference) (p t : ℕ) → IsOfWordsCell x → HaveWords (place_code starts x p t)
  place_words starts (Target k a ty) p t words =
      let slot = value_slot starts a t in
      followed_by_words starts (operand_of starts a) (expression_code starts a p slot t) (is_thin k) (span_in ty) (value_operand starts a t) t p (expression_words starts a p slot t words) (known_word starts a slot words)
  place_words starts (Member k a s f ty) p t words =
      let slot = value_slot starts a t in
      tested_by_words starts (operand_of starts a) (expression_code starts a p slot t) (value_operand starts a t) (expression_words starts a p slot t words) (known_word starts a slot words)
  place_words starts (Element a i ty) p t (first, second) =
      let front = expression_code starts a p t t in
      let q = p + length (code_unless_slot (pointer_of starts a i) front) in
      let slot = value_slot starts i (t + 3) in
      element_by_words starts (pointer_of starts a i) front (operand_of starts i) (expression_code starts i q slot (t + 3)) (span_in ty) (pointer_slot starts a i t) (value_operand starts i (t + 3)) t p (expression_words starts a p t t first) (expression_words starts i q slot (t + 3) second) (known_word starts i slot second)

  -- The code that moves the address of a memory access to a slot contains only 32-bit words.
  pub address_of_words : (starts : Starts) → (x : Dereference) (p d t : ℕ) → IsOfWordsCell x → HaveWords (addressed_by (place_code starts x p t) (place_operand starts x t) (place_offset starts x) d)
  address_of_words starts (Target k a ty) p d t words =
      let slot = value_slot starts a t in
      let o = value_operand starts a t in
      let x = followed_operand (is_thin k) (span_in ty) o t in
      append (place_code starts (Target k a ty) p t) _
      (followed_by_words starts (operand_of starts a) (expression_code starts a p slot t) (is_thin k) (span_in ty) o t p (expression_words starts a p slot t words) (known_word starts a slot words))
      (address_words x 0 d (followed_word (is_thin k) (span_in ty) o t (known_word starts a slot words)) (omega arith))
  address_of_words starts (Member k a s f ty) p d t words =
      let slot = value_slot starts a t in
      let o = value_operand starts a t in
      let x = Member k a s f ty in
      append (place_code starts x p t) _
      (tested_by_words starts (operand_of starts a) (expression_code starts a p slot t) o (expression_words starts a p slot t words) (known_word starts a slot words))
      (address_words o (place_offset starts x) d (known_word starts a slot words) (offset_word starts x))
  address_of_words starts (Element a i ty) p d t (first, second) =
      let front = expression_code starts a p t t in
      let q = p + length (code_unless_slot (pointer_of starts a i) front) in
      let slot = value_slot starts i (t + 3) in
      let n = pointer_slot starts a i t in
      append (place_code starts (Element a i ty) p t) _
      (element_by_words starts (pointer_of starts a i) front (operand_of starts i) (expression_code starts i q slot (t + 3)) (span_in ty) n (value_operand starts i (t + 3)) t p (expression_words starts a p t t first) (expression_words starts i q slot (t + 3) second) (known_word starts i slot second))
      (address_words (reached_operand (span_in ty) n t) 0 d (reached_word (span_in ty) n t) (omega arith))

  pub initial_words : (starts : Starts) → (c : Converted) (p d t : ℕ) → IsOfWordsConverted c → HaveWords (initial_code starts c p d t)
  initial_words starts (Convert from to a) p d t words =
      let slot = source_slot starts (Convert from to a) t in
      initial_by_words starts (converts_there from to) (source_of starts (Convert from to a)) (brought_code starts (Convert from to a) p d t) (brought_code starts (Convert from to a) p slot t) from to (span_of a) (converted_operand starts (Convert from to a) t) p d
      (brought_by_words (masks from to) (operand_of starts a) (expression_code starts a p (value_slot starts a t) t) (expression_code starts a p d t) (value_operand starts a t) d (expression_words starts a p (value_slot starts a t) t words) (expression_words starts a p d t words) (known_word starts a (value_slot starts a t) words)) (brought_by_words (masks from to) (operand_of starts a) (expression_code starts a p (value_slot starts a t) t) (expression_code starts a p slot t) (value_operand starts a t) slot (expression_words starts a p (value_slot starts a t) t words) (expression_words starts a p slot t words) (known_word starts a (value_slot starts a t) words)) (converted_word starts (Convert from to a) t words)

  converted_words : (starts : Starts) → (c : Converted) (p t : ℕ) → IsOfWordsConverted c → HaveWords (converted_code starts c p t)
  converted_words starts (Convert from to a) p t words =
      let front = brought_code starts (Convert from to a) p t t in
      let q = p + length front in
      append front (conversion_code starts from to (span_of a) (operands.Slot t) q) (brought_by_words (masks from to) (operand_of starts a) (expression_code starts a p (value_slot starts a t) t) (expression_code starts a p t t) (value_operand starts a t) t (expression_words starts a p (value_slot starts a t) t words) (expression_words starts a p t t words) (known_word starts a (value_slot starts a t) words)) (conversion_words starts from to (span_of a) (operands.Slot t) q tt)

  pub converted_operand_words : (starts : Starts) → (c : Converted) (p t : ℕ) → IsOfWordsConverted c → HaveWords (converted_operand_code starts c p t)
  converted_operand_words starts (Convert from to a) p t words =
      let slot = source_slot starts (Convert from to a) t in
      converted_by_words starts (source_of starts (Convert from to a)) (brought_code starts (Convert from to a) p slot t) from to (span_of a) (converted_operand starts (Convert from to a) t) p (brought_by_words (masks from to) (operand_of starts a) (expression_code starts a p (value_slot starts a t) t) (expression_code starts a p slot t) (value_operand starts a t) slot (expression_words starts a p (value_slot starts a t) t words) (expression_words starts a p slot t words) (known_word starts a (value_slot starts a t) words)) (converted_word starts (Convert from to a) t words)

  pub printed_words : (starts : Starts) → (cs : Arguments) (p t : ℕ) → AreOfWordsArguments cs → HaveWords (printed_code starts cs p t)
  printed_words starts NoArguments p t words = tt
  printed_words starts (MoreArguments c cs) p t (first, rest) =
      let q = p + length (converted_operand_code starts c p t) in
      append (converted_operand_code starts c p t) (printed_code starts cs q t) (converted_operand_words starts c p t first) (printed_words starts cs q t rest)

  arguments_words : (starts : Starts) → (cs : Arguments) (p t : ℕ) → AreOfWordsArguments cs → HaveWords (arguments_code starts cs p t)
  arguments_words starts NoArguments p t words = tt
  arguments_words starts (MoreArguments c cs) p t (first, rest) =
      let q = p + length (converted_code starts c p t) in
      append (converted_code starts c p t) (arguments_code starts cs q (t + passed_words c)) (converted_words starts c p t first) (arguments_words starts cs q (t + passed_words c) rest)

  operations_words : (starts : Starts) → (os : Operations) (p : ℕ) (l : Operand) (d t : ℕ) → IsOfWord l → AreOfWordsOperations os → HaveWords (operations_code starts os p l d t)
  operations_words starts NoOperations p l d t left words = tt
  operations_words starts (ThenCompute o a os) p l d t left (first, rest) =
      let inner = expression_code starts a p (value_slot starts a (suc t)) (suc t) in
      let operand = code_unless (operand_of starts a) inner in
      let next = next_slot os d t in
      let operator = operator_code starts o l (value_operand starts a (suc t)) next in
      let q = p + length (operand ++ operator) in
      append (operand ++ operator) (operations_code starts os q (operands.Slot next) d t)
      (append operand operator (unless_words (operand_of starts a) inner (expression_words starts a p (value_slot starts a (suc t)) (suc t) first))
      (operator_words starts o l (value_operand starts a (suc t)) next left (known_word starts a (value_slot starts a (suc t)) first)))
      (operations_words starts os q (operands.Slot next) d t tt rest)
  operations_words starts (ThenTest o a os) p l d t left (first, rest) =
      let operand = expression_code starts a (p + 1) t t in
      let next = next_slot os d t in
      let q = p + length (test_code o operand p next t) in
      append (test_code o operand p next t) (operations_code starts os q (operands.Slot next) d t) (test_words o operand p next t (expression_words starts a (p + 1) t t first))
      (operations_words starts os q (operands.Slot next) d t tt rest)
  operations_words starts (ThenPointer o a os) p l d t left (alone, first, rest) =
      let slot = value_slot starts a (after_left o t) in
      let inner = expression_code starts a p slot (after_left o t) in
      let operand = code_unless (operand_of starts a) inner in
      let next = next_slot os d t in
      let front = pointer_code o l (value_operand starts a (after_left o t)) operand next in
      append front (operations_code starts os (p + length front) (operands.Slot next) d t)
      (append operand _ (unless_words (operand_of starts a) inner (expression_words starts a p slot (after_left o t) first)) (pointer_words o l (value_operand starts a (after_left o t)) next left (known_word starts a slot first)))
      (operations_words starts os (p + length front) (operands.Slot next) d t tt rest)
  operations_words starts (ThenPointerPeek n o a os) p l d t left (alone, first, rest) =
      let slot = value_slot starts a (after_left o t) in
      let inner = expression_code starts a p slot (after_left o t) in
      let operand = code_unless (operand_of starts a) inner in
      let next = next_slot os d t in
      let front = pointer_code o l (value_operand starts a (after_left o t)) operand next in
      append front (operations_code starts os (p + length front) (operands.Slot next) d t)
      (append operand _ (unless_words (operand_of starts a) inner (expression_words starts a p slot (after_left o t) first)) (pointer_words o l (value_operand starts a (after_left o t)) next left (known_word starts a slot first)))
      (operations_words starts os (p + length front) (operands.Slot next) d t tt rest)
