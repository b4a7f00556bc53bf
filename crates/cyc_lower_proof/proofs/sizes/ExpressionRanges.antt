-- This file proves that the code of expressions refers only to slots, functions, globals and code positions that exist.
use Rattle.std.proofs.Common.{◌≡◌, ℕ, suc, ◌+◌, ◌≤◌, ◌<◌, [], ◌∷◌, ◌++◌, length, Option, Some, slice_get, refl, sym, ap, subst, ◌∙◌, arith, length-append}
use Rattle.cyc_types.specs.declared.typed.Kind.{Kind}
use Rattle.cyc_types.specs.declared.typed.Kind.TheVariants as kinds
use Rattle.cyc_types.specs.declared.typed.Callee.TheVariants as callees
use Rattle.cyc_types.specs.declared.typed.UnaryOperator.TheVariants as unary
use Rattle.cyc_types.specs.Types.{Ty, words_of}
use Rattle.cyc_types.specs.TypedTrees.{Counter, Load, New, OnHeap, AsUnique, ByHandle, Initial, Plain, Fields, Array, Dereference, Target, type_of_place, Local, Global, Expression, Number}
use Rattle.cyc_types.specs.TypedTrees.{NullPointer, Copy, Call, Unary, Binary, Assign, Converted, Convert, Arguments, NoArguments, MoreArguments, Operations, NoOperations, ThenCompute, ThenTest}
use Rattle.cyc_types.specs.TypedTrees.{ThenPointer, type_of, Signature, Move, Peek, ThenPointerPeek, AddressOfCell, Store, Member, FreeUnique, NumberOfElements, Element, HeapRegion, FreeKey, AddressOf}
use Rattle.cyc_types.specs.Numbered.{Numbering}
use Rattle.cyc_plain.specs.declared.instruction.BinaryOperator.TheVariants as plain_binary
use Rattle.cyc_plain.specs.declared.instruction.Operand.{Operand}
use Rattle.cyc_plain.specs.declared.instruction.Operand.TheVariants as operands
use Rattle.cyc_plain.specs.declared.instruction.Instruction.TheVariants as instructions
use Rattle.cyc_plain.specs.inside.Program.{Routine, Program as PlainProgram}
use Rattle.cyc_plain.specs.inside.WellFormed.{IsOperand}
use Rattle.std.specs.Prelude.{unwrap_or, ◌==◌}
use Rattle.cyc_words.proofs.Lists.{slice_get_below}
use Rattle.cyc_words.proofs.Items.{below_from_slice_get}
use Rattle.cyc_meaning.specs.Operators.{null_exception}
use Rattle.cyc_store.specs.declared.range.TheConstants.{HEAP, UNIQUE}
use Rattle.cyc_meaning.specs.Values.{words_of_kind, is_thin, kind_of}
use Rattle.cyc_meaning.specs.FrameCount.{result_words, operand_words, converted_words, argument_words, expression_need, dereference_need, converted_need, arguments_need, operations_need, initial_value_need, place_words}
use Rattle.cyc_meaning.specs.Pointers.{result_kind as operator_kind}
use Rattle.cyc_lower_proof.specs.inside.Slots.{counted, starts_of, slot_of, Types, global_of}
use Rattle.cyc_lower_proof.specs.inside.ValueCode.{converts_there, passed_words, all_passed, kinds_passed, operand_or, code_unless, code_unless_slot, next_slot, check_code, conversion_code, operator_code, truth_code, low_byte, test_code}
use Rattle.cyc_lower_proof.specs.inside.ValueCode.{is_in, copy_code, after_left, pointer_code, count_code, span_of, loaded_code, reached_code, followed_code, span_in, global_code, unary_instruction, kind_after, masks, kind_passed}
use Rattle.cyc_lower_proof.specs.inside.ObjectCode.{begun_code, filled_code, ended_code, elements_code, object_code, free_code}
use Rattle.cyc_lower_proof.specs.inside.ControlCode.{closing_code}
use Rattle.cyc_lower_proof.specs.inside.ExpressionCode.{source_of, source_slot, operand_of, left_of, value_slot, left_slot, value_operand, converted_operand, printed_operand, expression_code, arguments_code, converted_code}
use Rattle.cyc_lower_proof.specs.inside.ExpressionCode.{converted_operand_code, printed_code, initial_code, operations_code, made_code, place_operand, place_offset, place_code, pointer_of, pointer_slot, brought_code}
use Rattle.cyc_lower_proof.specs.inside.Lowering.{results_of, store_code}
use Rattle.cyc_lower_proof.proofs.slots.Widths.{kind_positive, kind_few, result_kind, words_in, chain_kind, made_kind, type_words, passed_is}
use Rattle.cyc_lower_proof.proofs.slots.CellBytes.{passed_slots}
use Rattle.cyc_lower_proof.proofs.relation.code.Fitting.{FitsCell, Fits, FitsConverted, FitArguments, FitOperations, FitsObject}
use Rattle.cyc_lower_proof.proofs.slots.Slots.{words_positive, starts-are, words-there}
use Rattle.cyc_lower_proof.proofs.sizes.RangeLemmas.{operand_positive, converted_least, arguments_words, made_needs, result_least, levels_inside, IsKnown, AreGlobals, HasEnd}
use Rattle.cyc_lower_proof.proofs.sizes.ValueRanges.{AreIn, append, unless_in, unless_slot_in, free_in, check_in, reached_in, followed_in, conversion_in, operator_in, assigned_in, load_in, copy_in, pointer_copied, count_in, test_in, filled_in, object_in, loaded_in, own_needed}
use Rattle.cyc_lower_proof.proofs.sizes.ValueRanges.{pointer_room, place_operand_in, addressed_in, stored_in, right_in, initial_by, unary_in, last_byte_in, begun_in, brought_by}
use Rattle.cyc_lower_proof.proofs.sizes.ValueRoom.{kind_at, HasOperand, assigned_kind, operator_few, stored_kind, given_needs, slot_fits, value_room, value_in, source_fits, brought_room, converted_room, printed_value_in, next_in, LeftIn, next_left_in, first_left_in, has_room}
use Rattle.cyc_lower_proof.proofs.sizes.ValueRoom.{left_room, left_slot_in, left_in}

module _ (program : PlainProgram) (r : Routine) (b : Numbering) (called : (n : ℕ) (s : Signature) → slice_get b.functions n ≡ Some s → IsKnown program n s) (results : r.results ≡ results_of b.result) where
  mutual
    pub expression_in : (types : Types) (locals : (n : ℕ) → n < b.locals → slot_of (starts_of types) n + words_in types.locals n ≤ r.slots) (levels : (l slot : ℕ) → slice_get types.counters l ≡ Some slot → slot < r.slots) (globals : AreGlobals program types.globals) (following : HasEnd r types) → (a : Expression) (p d t : ℕ) → Fits b types a → d + words_of_kind (kind_at r b types locals levels a) ≤ r.slots → t + expression_need a ≤ r.slots → p + length (expression_code (starts_of types) a p d t) < length r.code → AreIn program r b types locals levels globals called results following (expression_code (starts_of types) a p d t)
    expression_in types locals levels globals following (Number n) p d t numbered room few short = ((omega (arith, room), tt), tt)
    expression_in types locals levels globals following NullPointer p d t numbered room few short = ((omega (arith, room), tt), tt)
    expression_in types locals levels globals following (Counter l) p d t numbered room few short =
        let (slot, there) = slice_get_below types.counters l numbered in
        ((omega (arith, room), subst (λ (s : Option ℕ). unwrap_or s 0 < r.slots) (sym there) (levels l slot there)), tt)
    expression_in types locals levels globals following (Copy l ty) p d t numbered room few short = load_in program r b types locals levels globals called results following l ty d numbered room
    expression_in types locals levels globals following (Move w n ty) p d t numbered room few short = load_in program r b types locals levels globals called results following (Local w n) ty d numbered room
    expression_in types locals levels globals following (Peek w n ty) p d t numbered room few short = load_in program r b types locals levels globals called results following (Local w n) ty d numbered room
    expression_in types locals levels globals following (Call callees.Putchar cs ty) p d t (s, signature, many, passed, result, numbered) room few short =
        let o = printed_operand (starts_of types) cs (operands.Slot t) t in
        let front = printed_code (starts_of types) cs p t in
        let back = instructions.WriteByte o ∷ low_byte o d ∷ [] in
        let gives : 1 ≤ result_words ty = omega (arith, result, ap (λ (x : Signature). results_of x.result) signature) in
        let inside = printed_value_in r b types locals levels cs (operands.Slot t) t numbered (omega (arith, few, gives)) (omega (arith, few)) in
        append program r b types locals levels globals called results following front back (printed_in types locals levels globals following cs p t t 0 numbered (omega (arith, few)) (omega arith) (omega (arith, few)) (omega (arith, short, length-append front back)))
        (inside, ((omega (arith, room), inside, tt), tt))
    expression_in types locals levels globals following (Call callees.Getchar cs ty) p d t (s, signature, many, passed, result, numbered) room few short =
        let front = arguments_code (starts_of types) cs p t in
        let back = instructions.ReadByte d ∷ [] in
        append program r b types locals levels globals called results following front back (arguments_in types locals levels globals following cs p t t 0 numbered (omega arith) (omega (arith, few)) (omega (arith, few)) (omega (arith, short, length-append front back))) (omega (arith, room), tt)
    expression_in types locals levels globals following (Call (callees.Function g) cs ty) p d t (s, signature, many, passed, result, numbered) room few short =
        let front = arguments_code (starts_of types) cs p t in
        let back = instructions.Call g t (all_passed cs) d ∷ [] in
        let f = called g s signature in
        append program r b types locals levels globals called results following front back (arguments_in types locals levels globals following cs p t t 0 numbered (omega arith) (omega (arith, few)) (omega (arith, few)) (omega (arith, short, length-append front back))) (
          record {
            function_in_range = f.there;
            takes = passed ∙ sym f.parameters;
            arguments_in_range = omega (arith, few, arguments_words cs);
            result_in_range = omega (arith, room, f.results, (result_least s.result).0, ap (λ (o : Option Signature). words_of_kind (result_kind o)) signature);
          },
          tt,
        )
    expression_in types locals levels globals following (NumberOfElements a) p d t (fat, numbered) room few short =
        let slot = value_slot (starts_of types) a t in
        let inner = expression_code (starts_of types) a p slot t in
        let front = code_unless (operand_of (starts_of types) a) inner in
        let o = value_operand (starts_of types) a t in
        let back = count_code o (p + length front) d in
        let free : t + words_of_kind (kind_at r b types locals levels a) ≤ r.slots = omega (arith, few, given_needs r b types locals levels a numbered) in
        append program r b types locals levels globals called results following front back
        (unless_in program r b types locals levels globals called results following (operand_of (starts_of types) a) inner p (omega (arith, short, length-append front back)) (λ less. expression_in types locals levels globals following a p slot t numbered (slot_fits r b types locals levels a t numbered free) (omega (arith, few)) less))
        (count_in program r b types locals levels globals called results following o (p + length front) d (subst (λ kind. HasOperand r b types locals levels o (words_of_kind kind)) fat (value_room r b types locals levels a t numbered free)) (omega (arith, room)) (omega (arith, short, length-append front back)))
    expression_in types locals levels globals following (Unary unary.Widen a) p d t (one, numbered) room few short =
        expression_in types locals levels globals following a p d t numbered (omega (arith, room, one)) (omega (arith, few)) short
    expression_in types locals levels globals following (Unary o a) p d t numbered room few short =
        let inner = expression_code (starts_of types) a p (value_slot (starts_of types) a t) t in
        let front = code_unless (operand_of (starts_of types) a) inner in
        let back = unary_instruction o d (value_operand (starts_of types) a t) ∷ [] in
        let free : t + words_of_kind (kind_at r b types locals levels a) ≤ r.slots = omega (arith, few, given_needs r b types locals levels a numbered) in
        append program r b types locals levels globals called results following front back
        (unless_in program r b types locals levels globals called results following (operand_of (starts_of types) a) inner p (omega (arith, short, length-append front back)) (λ less. expression_in types locals levels globals following a p (value_slot (starts_of types) a t) t numbered (slot_fits r b types locals levels a t numbered free) (omega (arith, few)) less))
        (unary_in program r b types locals levels globals called results following o d (value_operand (starts_of types) a t) (omega (arith, room)) (value_in r b types locals levels a t numbered free), tt)
    expression_in types locals levels globals following (Binary a os ty) p d t (numbered, rest) room few short =
        let inner = expression_code (starts_of types) a p (left_slot (starts_of types) a os d t) t in
        let front = code_unless (left_of (starts_of types) a os) inner in
        let back = operations_code (starts_of types) os (p + length front) (operand_or (left_of (starts_of types) a os) (left_slot (starts_of types) a os d t)) d t in
        let some = operand_positive (type_of a) in
        let free = has_room r b types locals levels os ty t (operand_words (type_of a)) rest some (omega (arith, few)) in
        let first = left_room r b types locals levels os a t numbered (omega (arith, few)) free in
        append program r b types locals levels globals called results following front back
        (unless_in program r b types locals levels globals called results following (left_of (starts_of types) a os) inner p (omega (arith, short, length-append front back)) (λ less. expression_in types locals levels globals following a p (left_slot (starts_of types) a os d t) t numbered (left_slot_in r b types locals levels a os ty d t numbered room first) (omega (arith, few)) less))
        (operations_in types locals levels globals following os ty (kind_at r b types locals levels a) (p + length front) (operand_or (left_of (starts_of types) a os) (left_slot (starts_of types) a os d t)) d t (operand_words (type_of a)) rest room (first_left_in r b types locals levels a os ty d t (operand_words (type_of a)) rest (omega (arith, few))) (left_in r b types locals levels a os ty d t numbered room first) some (omega (arith, few)) (omega (arith, short, length-append front back)))
    expression_in types locals levels globals following (Assign (Local w n) c ty) p d t ((within, own), numbered) room few short =
        let o = operands.Slot (slot_of (starts_of types) n) in
        let front = initial_code (starts_of types) c p (slot_of (starts_of types) n) t in
        let back = copy_code (passed_words c) o d in
        let there : slot_of (starts_of types) n + words_of_kind (kind_passed c) ≤ r.slots = omega (arith, locals n within, own) in
        append program r b types locals levels globals called results following front back (initial_in types locals levels globals following c p (slot_of (starts_of types) n) t numbered there (omega (arith, few)) (omega (arith, few)) (omega (arith, short, length-append front back)))
        (copy_in program r b types locals levels globals called results following (is_in o d) c o d there (omega (arith, room, ap words_of_kind (assigned_kind r b types locals levels (Local w n) c ty))))
    expression_in types locals levels globals following (Assign (Global n) c ty) p d t (within, numbered) room few short =
        let o = converted_operand (starts_of types) c t in
        let front = converted_operand_code (starts_of types) c p t in
        let store = global_code (passed_words c) (global_of (starts_of types) n) o in
        let back = copy_code (passed_words c) o d in
        append program r b types locals levels globals called results following (front ++ store) back
        (append program r b types locals levels globals called results following front store (converted_operand_in types locals levels globals following c p t numbered (omega (arith, few)) (omega (arith, few)) (omega (arith, short, length-append (front ++ store) back, length-append front store))) (assigned_in program r b types locals levels globals called results following n c o within (converted_room r b types locals levels c t numbered (omega (arith, few)))))
        (copy_in program r b types locals levels globals called results following (is_in o d) c o d (converted_room r b types locals levels c t numbered (omega (arith, few))) (omega (arith, room, ap words_of_kind (assigned_kind r b types locals levels (Global n) c ty))))
    expression_in types locals levels globals following (Load x) p d t numbered room few short =
        let own = words_of (type_of_place x) in
        let some = words_positive (type_of_place x) in
        let kind = kind_of (type_of_place x) in
        let load = loaded_code kind (place_operand (starts_of types) x t) (place_offset (starts_of types) x) d t in
        let needed = own_needed program r b types locals levels globals called results following x own in
        append program r b types locals levels globals called results following (place_code (starts_of types) x p t) load
        (place_in types locals levels globals following x own p t numbered some few (omega (arith, short, length-append (place_code (starts_of types) x p t) load)))
        (loaded_in program r b types locals levels globals called results following kind (words_of_kind kind == 1) (place_operand (starts_of types) x t) (place_offset (starts_of types) x) d t refl (place_operand_in program r b types locals levels globals called results following x own t numbered some few) room (omega (arith, few, some, needed)))
    expression_in types locals levels globals following (AddressOf (Local w n) ty) p d t (within, (v, there, same)) room few short =
        let count : words_of_kind (kind_after ty) ≡ words_of v = ap words_of_kind same ∙ type_words v in (
          (omega (arith, room), omega (arith, locals n within, words-there types.locals n v there, count), (n, v, there, starts-are types n (below_from_slice_get types.locals n v there), count)),
          last_byte_in program r b types locals levels globals called results following (kind_after ty) d (omega (arith, room)),
        )
    expression_in types locals levels globals following (AddressOf (Global n) ty) p d t numbered room few short = ((omega (arith, room), tt), tt)
    expression_in types locals levels globals following (AddressOfCell x ty) p d t numbered room few short =
        addressed_in program r b types locals levels globals called results following x p d t numbered (omega (arith, room)) (omega (arith, few)) short (λ less. place_in types locals levels globals following x place_words p t numbered (omega arith) (omega (arith, few)) less)
    expression_in types locals levels globals following (Store x c ty) p d t (place, numbered) room few short =
        let o = converted_operand (starts_of types) c (t + 1) in
        let front = store_code (starts_of types) x c p t in
        let back = copy_code (passed_words c) o d in
        append program r b types locals levels globals called results following front back
        (stored_in program r b types locals levels globals called results following x c p t numbered (omega (arith, few)) (omega (arith, short, length-append front back))
        (λ less. addressed_in program r b types locals levels globals called results following x p t t place (omega (arith, few)) (omega (arith, few)) less (λ shorter. place_in types locals levels globals following x place_words p t place (omega arith) (omega (arith, few)) shorter))
        (λ q less. converted_operand_in types locals levels globals following c q (t + 1) numbered (omega (arith, few)) (omega (arith, few)) less))
        (copy_in program r b types locals levels globals called results following (is_in o d) c o d (converted_room r b types locals levels c (t + 1) numbered (omega (arith, few))) (omega (arith, room, ap words_of_kind (stored_kind r b types locals levels x c ty))))
    expression_in types locals levels globals following (FreeUnique a) p d t numbered room few short =
        let slot = value_slot (starts_of types) a t in
        let o = value_operand (starts_of types) a t in
        let inner = expression_code (starts_of types) a p slot t in
        let front = code_unless (operand_of (starts_of types) a) inner in
        let back = free_code o (p + length front) in
        let long = length-append front back in
        let free : t + words_of_kind (kind_at r b types locals levels a) ≤ r.slots = omega (arith, few, given_needs r b types locals levels a numbered, operand_positive (type_of a)) in
        append program r b types locals levels globals called results following front back
        (unless_in program r b types locals levels globals called results following (operand_of (starts_of types) a) inner p (omega (arith, short, long)) (λ less. expression_in types locals levels globals following a p slot t numbered (slot_fits r b types locals levels a t numbered free) (omega (arith, few)) less))
        (free_in program r b types locals levels globals called results following o (p + length front) (value_in r b types locals levels a t numbered free) (omega (arith, short, long)))
    expression_in types locals levels globals following (New OnHeap i ty) p d t numbered room few short = made_in types locals levels globals following i (operands.Word HEAP) 0 t ty p d t numbered tt room (omega arith) (omega (arith, few)) short
    expression_in types locals levels globals following (New AsUnique i ty) p d t numbered room few short = made_in types locals levels globals following i (operands.Word UNIQUE) 1 t ty p d t numbered tt room (omega arith) (omega (arith, few)) short
    expression_in types locals levels globals following (New (ByHandle h) i ty) p d t (handle, numbered, made) room few short =
        let front = expression_code (starts_of types) h p t t in
        let back = made_code (starts_of types) i (operands.Slot t) (p + length front) d (t + 1) in
        let some = operand_positive (type_of h) in
        let own = made_needs i (operand_words (type_of h)) (words_of ty) in
        let long = length-append front back in
        append program r b types locals levels globals called results following front back (expression_in types locals levels globals following h p t t numbered (omega (arith, few, own, some, ap words_of_kind handle)) (omega (arith, few)) (omega (arith, short, long)))
        (made_in types locals levels globals following i (operands.Slot t) (operand_words (type_of h)) t ty (p + length front) d (t + 1) made (omega (arith, few, own, some)) room (omega (arith, some)) (omega (arith, few)) (omega (arith, short, long)))
    expression_in types locals levels globals following HeapRegion p d t numbered room few short = ((omega (arith, room), tt), tt)
    expression_in types locals levels globals following (FreeKey a) p d t numbered room few short =
        let slot = value_slot (starts_of types) a t in
        let o = value_operand (starts_of types) a t in
        let inner = expression_code (starts_of types) a p slot t in
        let front = code_unless (operand_of (starts_of types) a) inner in
        let back = closing_code o in
        let long = length-append front back in
        let free : t + words_of_kind (kind_at r b types locals levels a) ≤ r.slots = omega (arith, few, given_needs r b types locals levels a numbered, operand_positive (type_of a)) in
        append program r b types locals levels globals called results following front back
        (unless_in program r b types locals levels globals called results following (operand_of (starts_of types) a) inner p (omega (arith, short, long)) (λ less. expression_in types locals levels globals following a p slot t numbered (slot_fits r b types locals levels a t numbered free) (omega (arith, few)) less))
        (record { answer_in_range = omega arith; first_in_range = value_in r b types locals levels a t numbered free; second_in_range = tt }, tt)

    -- The code of a new object refers only to existing slots, which come after the words of a region handle. If the handle is in a slot,
    -- then it is in the first of the slots for these words.
    made_in : (types : Types) (locals : (n : ℕ) → n < b.locals → slot_of (starts_of types) n + words_in types.locals n ≤ r.slots) (levels : (l slot : ℕ) → slice_get types.counters l ≡ Some slot → slot < r.slots) (globals : AreGlobals program types.globals) (following : HasEnd r types) → (i : Initial) (handle : Operand) (words first : ℕ) (ty : Ty) (p d t : ℕ) → FitsObject b types i → IsOperand r handle → d + words_of_kind (made_kind i) ≤ r.slots → t ≤ first + words → first + initial_value_need i words (words_of ty) ≤ r.slots → p + length (made_code (starts_of types) i handle p d t) < length r.code → AreIn program r b types locals levels globals called results following (made_code (starts_of types) i handle p d t)
    made_in types locals levels globals following (Plain kind a) handle words first ty p d t (kind_is, numbered) there room place few short =
        let front = expression_code (starts_of types) a p t t in
        let back = object_code handle (kind ∷ []) d t in
        append program r b types locals levels globals called results following front back
        (expression_in types locals levels globals following a p t t numbered (omega (arith, few, place, ap words_of_kind kind_is, words_positive ty)) (omega (arith, few, place)) (omega (arith, short, length-append front back)))
        (object_in program r b types locals levels globals called results following handle (kind ∷ []) d t there (omega (arith, room)) (omega (arith, few, place, words_positive ty)))
    made_in types locals levels globals following (Fields cs) handle words first ty p d t (some, many, numbered) there room place few short =
        let front = arguments_code (starts_of types) cs p t in
        let back = object_code handle (kinds_passed cs) d t in
        append program r b types locals levels globals called results following front back
        (arguments_in types locals levels globals following cs p t first words numbered place (omega (arith, few)) (omega (arith, few)) (omega (arith, short, length-append front back)))
        (object_in program r b types locals levels globals called results following handle (kinds_passed cs) d t there (omega (arith, room)) (omega (arith, few, place, arguments_words cs, passed_slots cs, words_positive ty)))
    made_in types locals levels globals following (Array w level n kind a) handle words low ty p d t (level_is, kind_is, fits_n, fits_a) there room place few short =
        let own = words_of_kind kind in
        let first = expression_code (starts_of types) n p t t in
        let m = p + length first in
        let begun = begun_code (starts_of types) handle kind t in
        let h = m + length begun in
        let inner = expression_code (starts_of (counted types (t + 2))) a (h + 1) (t + 3) (t + 3) in
        let filled = filled_code kind h t in
        let ended = ended_code d t in
        let elements = elements_code kind inner h d t in
        let long = length-append first (begun ++ elements) in
        let long_begun = length-append begun elements in
        let long_elements = length-append (inner ++ filled) ended in
        let long_both = length-append inner filled in
        append program r b types locals levels globals called results following first (begun ++ elements)
        (expression_in types locals levels globals following n p t t fits_n (omega (arith, few, place, kind_few (kind_at r b types locals levels n))) (omega (arith, few, place)) (omega (arith, short, long)))
        (append program r b types locals levels globals called results following begun elements
        (begun_in program r b types locals levels globals called results following handle kind t there (omega (arith, few, place))) (
          (omega (arith, few, place), omega (arith, few, place), omega (arith, short, long, long_begun, long_elements, long_both)),
          append program r b types locals levels globals called results following (inner ++ filled) ended
              (append program r b types locals levels globals called results following inner filled
              (expression_in (counted types (t + 2)) locals (levels_inside r types levels (t + 2) (omega (arith, few, place))) globals following a (h + 1) (t + 3) (t + 3) (fits_a (t + 2)) (omega (arith, few, place, ap words_of_kind kind_is)) (omega (arith, few, place))
              (omega (arith, short, long, long_begun, long_elements, long_both)))
              (filled_in program r b types locals levels globals called results following kind h t (omega (arith, few, place)) (omega (arith, short, long, long_begun, long_elements, long_both))))
              ((omega (arith, few, place), tt), pointer_copied program r b types locals levels globals called results following d t room (omega (arith, few, place))),
        ))

    -- The code of a memory access that reads or writes a value of at least one machine word refers only to slots, functions, globals and
    -- code positions that exist.
    pub place_in : (types : Types) (locals : (n : ℕ) → n < b.locals → slot_of (starts_of types) n + words_in types.locals n ≤ r.slots) (levels : (l slot : ℕ) → slice_get types.counters l ≡ Some slot → slot < r.slots) (globals : AreGlobals program types.globals) (following : HasEnd r types) → (x : Dereference) (own p t : ℕ) → FitsCell b types x → 1 ≤ own → t + dereference_need x own ≤ r.slots → p + length (place_code (starts_of types) x p t) < length r.code → AreIn program r b types locals levels globals called results following (place_code (starts_of types) x p t)
    place_in types locals levels globals following (Target k a ty) own p t (pointer, kind_is, wide, numbered) some few short =
        let slot = value_slot (starts_of types) a t in
        let o = value_operand (starts_of types) a t in
        let inner = expression_code (starts_of types) a p slot t in
        let front = code_unless (operand_of (starts_of types) a) inner in
        let access = followed_code (starts_of types) (is_thin k) (span_in ty) o t (p + length front) in
        let long = length-append front access in
        let free : t + words_of_kind (kind_at r b types locals levels a) ≤ r.slots = omega (arith, few, given_needs r b types locals levels a numbered, some) in
        append program r b types locals levels globals called results following front access (unless_in program r b types locals levels globals called results following (operand_of (starts_of types) a) inner p (omega (arith, short, long)) (λ less. expression_in types locals levels globals following a p slot t numbered (slot_fits r b types locals levels a t numbered free) (omega (arith, few)) less))
        (followed_in program r b types locals levels globals called results following k (is_thin k) (span_in ty) o t (p + length front) refl pointer (subst (λ x. HasOperand r b types locals levels o (words_of_kind x)) (sym kind_is) (value_room r b types locals levels a t numbered free)) (omega (arith, few, wide, some)) (omega (arith, short, long)))
    place_in types locals levels globals following (Member k a s f ty) own p t (thin, there, numbered) some few short =
        let slot = value_slot (starts_of types) a t in
        let o = value_operand (starts_of types) a t in
        let inner = expression_code (starts_of types) a p slot t in
        let front = code_unless (operand_of (starts_of types) a) inner in
        let check = check_code (starts_of types) null_exception o in
        let long = length-append front check in
        let free : t + words_of_kind (kind_at r b types locals levels a) ≤ r.slots = omega (arith, few, given_needs r b types locals levels a numbered, some) in
        append program r b types locals levels globals called results following front check (unless_in program r b types locals levels globals called results following (operand_of (starts_of types) a) inner p (omega (arith, short, long)) (λ less. expression_in types locals levels globals following a p slot t numbered (slot_fits r b types locals levels a t numbered free) (omega (arith, few)) less))
        (check_in program r b types locals levels globals called results following null_exception o (omega arith) (value_in r b types locals levels a t numbered free))
    place_in types locals levels globals following (Element a i ty) own p t (fat, three, first, second) some few short =
        let known = pointer_of (starts_of types) a i in
        let n = pointer_slot (starts_of types) a i t in
        let pointer = expression_code (starts_of types) a p t t in
        let front = code_unless_slot known pointer in
        let m = p + length front in
        let slot = value_slot (starts_of types) i (t + 3) in
        let o = value_operand (starts_of types) i (t + 3) in
        let inner = expression_code (starts_of types) i m slot (t + 3) in
        let operand = code_unless (operand_of (starts_of types) i) inner in
        let place = m + length operand + 1 in
        let reached = reached_code (starts_of types) (span_in ty) n (t + 2) t place in
        let back = instructions.Binary plain_binary.Add (t + 2) (operands.Slot (n + 2)) o ∷ reached in
        let long = length-append front (operand ++ back) in
        let long_operand = length-append operand back in
        let room : t + words_of_kind (kind_at r b types locals levels a) ≤ r.slots = omega (arith, few, given_needs r b types locals levels a first, some) in
        let wide = ap words_of_kind fat in
        let free : t + 3 + words_of_kind (kind_at r b types locals levels i) ≤ r.slots = omega (arith, few, three, given_needs r b types locals levels i second, operand_positive (type_of i)) in
        let third : t + 2 < r.slots = omega (arith, room, wide) in
        let inside : n + 3 ≤ r.slots = pointer_room program r b types locals levels globals called results following a i t fat first (omega (arith, room, wide)) in
        append program r b types locals levels globals called results following front (operand ++ back) (unless_slot_in program r b types locals levels globals called results following known pointer p (omega (arith, short, long)) (λ less. expression_in types locals levels globals following a p t t first room (omega (arith, few)) less))
        (append program r b types locals levels globals called results following operand back (unless_in program r b types locals levels globals called results following (operand_of (starts_of types) i) inner m (omega (arith, short, long, long_operand)) (λ less. expression_in types locals levels globals following i m slot (t + 3) second (slot_fits r b types locals levels i (t + 3) second free) (omega (arith, few, three)) less))
        ((third, omega (arith, inside), value_in r b types locals levels i (t + 3) second free), reached_in program r b types locals levels globals called results following (span_in ty) n (t + 2) t place (omega (arith, inside)) third (omega (arith, few, three, some)) (omega (arith, short, long, long_operand))))

    pub initial_in : (types : Types) (locals : (n : ℕ) → n < b.locals → slot_of (starts_of types) n + words_in types.locals n ≤ r.slots) (levels : (l slot : ℕ) → slice_get types.counters l ≡ Some slot → slot < r.slots) (globals : AreGlobals program types.globals) (following : HasEnd r types) → (c : Converted) (p d t : ℕ) → FitsConverted b types c → d + words_of_kind (kind_passed c) ≤ r.slots → t + converted_words c ≤ r.slots → t + converted_need c ≤ r.slots → p + length (initial_code (starts_of types) c p d t) < length r.code → AreIn program r b types locals levels globals called results following (initial_code (starts_of types) c p d t)
    initial_in types locals levels globals following (Convert from to a) p d t (kind, wide, numbered) room free few short =
        initial_by program r b types locals levels globals called results following (converts_there from to) from to a p d t kind wide numbered room free refl (λ slot fits less. brought_by program r b types locals levels globals called results following (masks from to) a p slot t numbered fits (omega (arith, free, ap words_of_kind kind)) (λ s within shorter. expression_in types locals levels globals following a p s t numbered within few shorter) less) short

    converted_in : (types : Types) (locals : (n : ℕ) → n < b.locals → slot_of (starts_of types) n + words_in types.locals n ≤ r.slots) (levels : (l slot : ℕ) → slice_get types.counters l ≡ Some slot → slot < r.slots) (globals : AreGlobals program types.globals) (following : HasEnd r types) → (c : Converted) (p t : ℕ) → FitsConverted b types c → t + converted_words c ≤ r.slots → t + converted_need c ≤ r.slots → p + length (converted_code (starts_of types) c p t) < length r.code → AreIn program r b types locals levels globals called results following (converted_code (starts_of types) c p t)
    converted_in types locals levels globals following (Convert from to a) p t (kind, wide, numbered) room few short =
        let front = brought_code (starts_of types) (Convert from to a) p t t in
        let back = conversion_code (starts_of types) from to (span_of a) (operands.Slot t) (p + length front) in
        append program r b types locals levels globals called results following front back (brought_by program r b types locals levels globals called results following (masks from to) a p t t numbered (omega (arith, room, ap words_of_kind kind)) (omega (arith, room, ap words_of_kind kind)) (λ s within shorter. expression_in types locals levels globals following a p s t numbered within few shorter) (omega (arith, short, length-append front back)))
        (conversion_in program r b types locals levels globals called results following from to (span_of a) (operands.Slot t) (p + length front) (omega (arith, room)) (omega (arith, short, length-append front back)))

    pub converted_operand_in : (types : Types) (locals : (n : ℕ) → n < b.locals → slot_of (starts_of types) n + words_in types.locals n ≤ r.slots) (levels : (l slot : ℕ) → slice_get types.counters l ≡ Some slot → slot < r.slots) (globals : AreGlobals program types.globals) (following : HasEnd r types) → (c : Converted) (p t : ℕ) → FitsConverted b types c → t + converted_words c ≤ r.slots → t + converted_need c ≤ r.slots → p + length (converted_operand_code (starts_of types) c p t) < length r.code → AreIn program r b types locals levels globals called results following (converted_operand_code (starts_of types) c p t)
    converted_operand_in types locals levels globals following (Convert from to a) p t (kind, wide, numbered) room few short =
        let known = source_of (starts_of types) (Convert from to a) in
        let slot = source_slot (starts_of types) (Convert from to a) t in
        let o = converted_operand (starts_of types) (Convert from to a) t in
        let inner = brought_code (starts_of types) (Convert from to a) p slot t in
        let front = code_unless known inner in
        let back = conversion_code (starts_of types) from to (span_of a) o (p + length front) in
        append program r b types locals levels globals called results following front back
        (unless_in program r b types locals levels globals called results following known inner p (omega (arith, short, length-append front back)) (λ less. brought_by program r b types locals levels globals called results following (masks from to) a p slot t numbered (source_fits r b types locals levels from to a t (kind, wide, numbered) room) (omega (arith, room, ap words_of_kind kind)) (λ s within shorter. expression_in types locals levels globals following a p s t numbered within few shorter) less))
        (conversion_in program r b types locals levels globals called results following from to (span_of a) o (p + length front) (brought_room r b types locals levels (Convert from to a) t (kind, wide, numbered) room) (omega (arith, short, length-append front back)))

    -- The code of the arguments of `putchar` refers only to existing slots, and all of them use one set of temporaries.
    pub printed_in : (types : Types) (locals : (n : ℕ) → n < b.locals → slot_of (starts_of types) n + words_in types.locals n ≤ r.slots) (levels : (l slot : ℕ) → slice_get types.counters l ≡ Some slot → slot < r.slots) (globals : AreGlobals program types.globals) (following : HasEnd r types) → (cs : Arguments) (p t first before : ℕ) → FitArguments b types cs → t + argument_words cs ≤ r.slots → t ≤ first + before → first + arguments_need cs before ≤ r.slots → p + length (printed_code (starts_of types) cs p t) < length r.code → AreIn program r b types locals levels globals called results following (printed_code (starts_of types) cs p t)
    printed_in types locals levels globals following NoArguments p t first before numbered room place few short = tt
    printed_in types locals levels globals following (MoreArguments c cs) p t first before (numbered, rest) room place few short =
        let front = converted_operand_code (starts_of types) c p t in
        let back = printed_code (starts_of types) cs (p + length front) t in
        append program r b types locals levels globals called results following front back (converted_operand_in types locals levels globals following c p t numbered (omega (arith, room)) (omega (arith, few, place)) (omega (arith, short, length-append front back)))
        (printed_in types locals levels globals following cs (p + length front) t first (before + converted_words c) rest (omega (arith, room)) (omega (arith, place)) (omega (arith, few)) (omega (arith, short, length-append front back)))

    -- The code of the arguments from `first` on refers only to existing slots, which come after the words of the earlier arguments.
    arguments_in : (types : Types) (locals : (n : ℕ) → n < b.locals → slot_of (starts_of types) n + words_in types.locals n ≤ r.slots) (levels : (l slot : ℕ) → slice_get types.counters l ≡ Some slot → slot < r.slots) (globals : AreGlobals program types.globals) (following : HasEnd r types) → (cs : Arguments) (p t first before : ℕ) → FitArguments b types cs → t ≤ first + before → first + (before + argument_words cs) ≤ r.slots → first + arguments_need cs before ≤ r.slots → p + length (arguments_code (starts_of types) cs p t) < length r.code → AreIn program r b types locals levels globals called results following (arguments_code (starts_of types) cs p t)
    arguments_in types locals levels globals following NoArguments p t first before numbered place few needs short = tt
    arguments_in types locals levels globals following (MoreArguments c cs) p t first before (numbered, rest) place few needs short =
        let front = converted_code (starts_of types) c p t in
        let back = arguments_code (starts_of types) cs (p + length front) (t + passed_words c) in
        append program r b types locals levels globals called results following front back
        (converted_in types locals levels globals following c p t numbered (omega (arith, few, place)) (omega (arith, needs, place)) (omega (arith, short, length-append front back)))
        (arguments_in types locals levels globals following cs (p + length front) (t + passed_words c) first (before + converted_words c) rest (omega (arith, place, passed_is c, converted_least c)) (omega (arith, few)) (omega (arith, needs)) (omega (arith, short, length-append front back)))

    operations_in : (types : Types) (locals : (n : ℕ) → n < b.locals → slot_of (starts_of types) n + words_in types.locals n ≤ r.slots) (levels : (l slot : ℕ) → slice_get types.counters l ≡ Some slot → slot < r.slots) (globals : AreGlobals program types.globals) (following : HasEnd r types) → (os : Operations) (ty : Ty) (kind : Kind) (p : ℕ) (l : Operand) (d t left : ℕ) → FitOperations b types left ty os → d + words_of_kind (chain_kind kind os) ≤ r.slots → LeftIn r b types locals levels os l → IsOperand r l → 1 ≤ left → t + operations_need os ty left ≤ r.slots → p + length (operations_code (starts_of types) os p l d t) < length r.code → AreIn program r b types locals levels globals called results following (operations_code (starts_of types) os p l d t)
    operations_in types locals levels globals following NoOperations ty kind p l d t left numbered room all inside some few short = tt
    operations_in types locals levels globals following (ThenCompute o a os) ty kind p l d t left (numbered, rest) room all inside some few short =
        let inner = expression_code (starts_of types) a p (value_slot (starts_of types) a (suc t)) (suc t) in
        let operand = code_unless (operand_of (starts_of types) a) inner in
        let next = next_slot os d t in
        let m = value_operand (starts_of types) a (suc t) in
        let operator = operator_code (starts_of types) o l m next in
        let front = operand ++ operator in
        let back = operations_code (starts_of types) os (p + length front) (operands.Slot next) d t in
        let long = length-append front back in
        let long_front = length-append operand operator in
        let free : suc t + words_of_kind (kind_at r b types locals levels a) ≤ r.slots = omega (arith, few, some, operand_positive (type_of a), words_positive ty, given_needs r b types locals levels a numbered) in
        let next_room = next_in r b types locals levels os kinds.Int d t room (omega (arith, free)) in
        let next_few : next < r.slots = omega (arith, next_room) in
        append program r b types locals levels globals called results following front back
        (append program r b types locals levels globals called results following operand operator
        (unless_in program r b types locals levels globals called results following (operand_of (starts_of types) a) inner p (omega (arith, short, long, long_front)) (λ less. expression_in types locals levels globals following a p (value_slot (starts_of types) a (suc t)) (suc t) numbered (slot_fits r b types locals levels a (suc t) numbered free) (omega (arith, few, some)) less))
        (operator_in program r b types locals levels globals called results following o l m next next_few inside (value_in r b types locals levels a (suc t) numbered free)))
        (operations_in types locals levels globals following os ty kinds.Int (p + length front) (operands.Slot next) d t (words_of ty) rest room (next_left_in r b types locals levels os ty d t (words_of ty) rest (omega (arith, few))) next_few (words_positive ty) (omega (arith, few)) (omega (arith, short, long)))
    operations_in types locals levels globals following (ThenTest o a os) ty kind p l d t left (numbered, rest) room all inside some few short =
        let operand = expression_code (starts_of types) a (p + 1) t t in
        let next = next_slot os d t in
        let front = test_code o operand p next t in
        let back = operations_code (starts_of types) os (p + length front) (operands.Slot next) d t in
        let long = length-append front back in
        let long_front = length-append operand (truth_code t next) in
        let free : t < r.slots = omega (arith, few, some) in
        let next_room = next_in r b types locals levels os kinds.Int d t room (omega (arith, free)) in
        let next_few : next < r.slots = omega (arith, next_room) in
        append program r b types locals levels globals called results following front back
        (test_in program r b types locals levels globals called results following o operand p next t next_few free (omega (arith, short, long)) (expression_in types locals levels globals following a (p + 1) t t numbered (omega (arith, few, free, given_needs r b types locals levels a numbered)) (omega (arith, few)) (omega (arith, short, long, long_front))))
        (operations_in types locals levels globals following os ty kinds.Int (p + length front) (operands.Slot next) d t (words_of ty) rest room (next_left_in r b types locals levels os ty d t (words_of ty) rest (omega (arith, few))) next_few (words_positive ty) (omega (arith, few)) (omega (arith, short, long)))
    operations_in types locals levels globals following (ThenPointer o a os) ty kind p l d t left (wide, numbered, rest) room all inside some few short =
        let next = next_slot os d t in
        let m = value_operand (starts_of types) a (after_left o t) in
        let operand = code_unless (operand_of (starts_of types) a) (expression_code (starts_of types) a p (value_slot (starts_of types) a (after_left o t)) (after_left o t)) in
        let front = pointer_code o l m operand next in
        let back = operations_code (starts_of types) os (p + length front) (operands.Slot next) d t in
        let long = length-append front back in
        let next_room = next_in r b types locals levels os (operator_kind o) d t room (omega (arith, few, wide, operator_few r b types locals levels o)) in
        let next_few : next < r.slots = omega (arith, next_room, kind_positive (operator_kind o)) in
        append program r b types locals levels globals called results following front back
        (right_in program r b types locals levels globals called results following o a ty p l next t left numbered wide next_room all inside (omega (arith, few)) (omega (arith, short, long)) (λ slot fits less. expression_in types locals levels globals following a p slot (after_left o t) numbered fits (omega (arith, few, wide)) less))
        (operations_in types locals levels globals following os ty (operator_kind o) (p + length front) (operands.Slot next) d t (words_of ty) rest room (next_left_in r b types locals levels os ty d t (words_of ty) rest (omega (arith, few))) next_few (words_positive ty) (omega (arith, few)) (omega (arith, short, long)))
    operations_in types locals levels globals following (ThenPointerPeek n o a os) ty kind p l d t left (wide, numbered, rest) room all inside some few short =
        let next = next_slot os d t in
        let m = value_operand (starts_of types) a (after_left o t) in
        let operand = code_unless (operand_of (starts_of types) a) (expression_code (starts_of types) a p (value_slot (starts_of types) a (after_left o t)) (after_left o t)) in
        let front = pointer_code o l m operand next in
        let back = operations_code (starts_of types) os (p + length front) (operands.Slot next) d t in
        let long = length-append front back in
        let next_room = next_in r b types locals levels os (operator_kind o) d t room (omega (arith, few, wide, operator_few r b types locals levels o)) in
        let next_few : next < r.slots = omega (arith, next_room, kind_positive (operator_kind o)) in
        append program r b types locals levels globals called results following front back
        (right_in program r b types locals levels globals called results following o a ty p l next t left numbered wide next_room all inside (omega (arith, few)) (omega (arith, short, long)) (λ slot fits less. expression_in types locals levels globals following a p slot (after_left o t) numbered fits (omega (arith, few, wide)) less))
        (operations_in types locals levels globals following os ty (operator_kind o) (p + length front) (operands.Slot next) d t (words_of ty) rest room (next_left_in r b types locals levels os ty d t (words_of ty) rest (omega (arith, few))) next_few (words_positive ty) (omega (arith, few)) (omega (arith, short, long)))

  pub brought_in : (types : Types) (locals : (n : ℕ) → n < b.locals → slot_of (starts_of types) n + words_in types.locals n ≤ r.slots) (levels : (l slot : ℕ) → slice_get types.counters l ≡ Some slot → slot < r.slots) (globals : AreGlobals program types.globals) (following : HasEnd r types) → (from to : Kind) (a : Expression) (p d t : ℕ) → FitsConverted b types (Convert from to a) → d + words_of_kind (kind_at r b types locals levels a) ≤ r.slots → t + converted_words (Convert from to a) ≤ r.slots → t + expression_need a ≤ r.slots → p + length (brought_code (starts_of types) (Convert from to a) p d t) < length r.code → AreIn program r b types locals levels globals called results following (brought_code (starts_of types) (Convert from to a) p d t)
  brought_in types locals levels globals following from to a p d t (kind, wide, numbered) room free few short =
      brought_by program r b types locals levels globals called results following (masks from to) a p d t numbered room (omega (arith, free, ap words_of_kind kind)) (λ slot fits less. expression_in types locals levels globals following a p slot t numbered fits few less) short
