-- This file proves that the code of an expression is where the simulation relation requires it.
use Rattle.std.proofs.Common.{◌≡◌, ℕ, suc, ◌+◌, List, [], ◌∷◌, ◌++◌, length, Option, refl, sym, ap, subst, ◌∙◌, arith, length-append}
use Rattle.std.specs.Prelude.{unwrap_or, ◌==◌}
use Rattle.cyc_words.proofs.Lists.{slice_get_below}
use Rattle.cyc_meaning.specs.Operators.{null_exception}
use Rattle.cyc_types.specs.declared.typed.Callee.TheVariants as callees
use Rattle.cyc_types.specs.Types.{Ty, words_of}
use Rattle.cyc_types.specs.TypedTrees.{Array, Counter, Load, New, OnHeap, AsUnique, ByHandle, Initial, Plain, Fields, Dereference, Target, Local, Global, Expression, Number, NullPointer, Copy}
use Rattle.cyc_types.specs.TypedTrees.{Call, Unary, Binary, Assign, Converted, Convert, Arguments, NoArguments, MoreArguments, Operations, NoOperations, ThenCompute, ThenTest, ThenPointer, Signature}
use Rattle.cyc_types.specs.TypedTrees.{Move, Peek, ThenPointerPeek, type_of, AddressOfCell, Store, Member, type_of_place, FreeUnique, NumberOfElements, Element, FreeKey, HeapRegion, AddressOf}
use Rattle.cyc_types.specs.Numbered.{Numbering, argument_count}
use Rattle.cyc_plain.specs.declared.instruction.BinaryOperator.TheVariants as plain_binary
use Rattle.cyc_plain.specs.declared.instruction.BinaryOperator.TheVariants as plain_binary
use Rattle.cyc_plain.specs.declared.instruction.Operand.{Operand}
use Rattle.cyc_plain.specs.declared.instruction.Operand.TheVariants as operands
use Rattle.cyc_plain.specs.declared.instruction.Instruction.{Instruction}
use Rattle.cyc_plain.specs.declared.instruction.Instruction.TheVariants as instructions
use Rattle.cyc_plain.specs.inside.Straight.{At, HasAt}
use Rattle.cyc_plain.proofs.Straight.{has_front, has_back}
use Rattle.cyc_store.specs.declared.range.TheConstants.{HEAP, UNIQUE}
use Rattle.cyc_meaning.specs.Values.{kind_of, is_thin, words_of_kind}
use Rattle.cyc_meaning.specs.FrameCount.{operand_words, words_of_all}
use Rattle.cyc_lower_proof.specs.inside.Slots.{counted, Types, starts_of, slot_of, global_of}
use Rattle.cyc_lower_proof.specs.inside.ValueCode.{converts_there, passed_words, operand_or, code_unless, code_unless_slot, next_slot, check_code, conversion_code, operator_code, truth_code, low_byte, test_code, is_in, copy_code, after_left}
use Rattle.cyc_lower_proof.specs.inside.ValueCode.{pointer_code, pointer_instructions, address_code, count_code, span_of, loaded_code, kinds_passed, reached_code, followed_code, span_in, global_code, kind_after, kind_passed, address_of_global, masks}
use Rattle.cyc_lower_proof.specs.inside.ObjectCode.{begun_code, filled_code, ended_code, elements_code, object_code, free_code, saved_code}
use Rattle.cyc_lower_proof.specs.inside.ExpressionCode.{source_of, source_slot, operand_of, left_of, value_slot, left_slot, value_operand, converted_operand, printed_operand, expression_code, arguments_code, converted_code}
use Rattle.cyc_lower_proof.specs.inside.ExpressionCode.{converted_operand_code, printed_code, initial_code, operations_code, made_code, place_operand, place_offset, place_code, pointer_of, pointer_slot, brought_code, is_simple}
use Rattle.cyc_lower_proof.proofs.relation.code.Stands.{ExpressionAt, InitialAt, ConvertedAt, ConvertedOperandAt, PrintedAt, ArgumentsAt, OperationsAt, MadeAt, PlaceAt, LastByteAt, BroughtAt, LeftBy}
use Rattle.cyc_lower_proof.proofs.slots.Widths.{kind_few, type_words}
use Rattle.cyc_lower_proof.proofs.slots.CellBytes.{passed_slots, passed_many}
use Rattle.cyc_lower_proof.proofs.relation.code.Fitting.{FitsCell, FitsObject, Fits, FitsConverted, FitArguments, FitOperations}
use Rattle.cyc_lower_proof.proofs.place_steps.Sources.{stored_apart}
use Rattle.cyc_lower_proof.proofs.emission.Blocks.{BlocksStand}
use Rattle.cyc_lower_proof.proofs.emission.OperandBridge.{cut, operand_by, returned_by, right_by, IsLeft, next_left, first_left, freed_stands, check_stands, reached_stands, followed_stands, in_slots, source_brought, conversion_stands, operator_stands}
use Rattle.cyc_lower_proof.proofs.emission.OperandBridge.{pointer_stands, global_stands, count_stands, load_stands, saved_stands, object_stands, begun_stands, filled_stands, copy_by, address_stands, loaded_stands, initial_by, last_byte_stands, brought_by}
use Rattle.cyc_types.specs.declared.typed.UnaryOperator.TheVariants as unary
use Rattle.cyc_types.specs.declared.typed.Kind.{Kind}

module _ (code : List Instruction) (b : Numbering) where
  mutual
    pub expression_stands : (types : Types) (raised : BlocksStand code types.raises (words_of_all types.locals)) → (a : Expression) (d t p q : ℕ) → Fits b types a → p + length (expression_code (starts_of types) a p d t) ≡ q → HasAt code p (expression_code (starts_of types) a p d t) → ExpressionAt code b types a d t p q
    expression_stands types raised (Number n) d t p q numbered end (here, none) = (here, end)
    expression_stands types raised NullPointer d t p q numbered end (here, none) = (here, end)
    expression_stands types raised HeapRegion d t p q numbered end (here, none) = (here, end)
    expression_stands types raised (Counter l) d t p q few end (here, none) =
        let (slot, there) = slice_get_below types.counters l few in
        (slot, there, subst (λ (s : Option ℕ). At code p (instructions.Move d (operands.Slot (unwrap_or s 0)))) there here, end)
    expression_stands types raised (Copy l ty) d t p q numbered end has = load_stands code b types raised l (kind_of ty) (words_of ty) d p q numbered end has
    expression_stands types raised (Move w n ty) d t p q numbered end has = load_stands code b types raised (Local w n) (kind_of ty) (words_of ty) d p q numbered end has
    expression_stands types raised (Peek w n ty) d t p q numbered end has = load_stands code b types raised (Local w n) (kind_of ty) (words_of ty) d p q numbered end has
    expression_stands types raised (Call callees.Putchar cs ty) d t p q (s, signature, many, passed, result, numbered) end has =
        let front = printed_code (starts_of types) cs p t in
        let (write, (low, none)) = has_back code p front _ has in
        let single : argument_count cs ≡ 1 = many ∙ ap (λ (x : Signature). length x.parameters) signature in
        let long = cut p q front (instructions.WriteByte (printed_operand (starts_of types) cs (operands.Slot t) t) ∷ low_byte (printed_operand (starts_of types) cs (operands.Slot t) t) d ∷ []) end in
        (printed_operand (starts_of types) cs (operands.Slot t) t, p + length front, printed_stands types raised cs (operands.Slot t) t p (p + length front) single numbered refl (has_front code p front _ has), write, low, omega (arith, long))
    expression_stands types raised (Call callees.Getchar cs ty) d t p q (s, signature, many, passed, result, numbered) end has =
        let front = arguments_code (starts_of types) cs p t in
        let (here, none) = has_back code p front _ has in
        (p + length front, arguments_stand types raised cs t p (p + length front) numbered refl (has_front code p front _ has), here, cut p q front _ end)
    expression_stands types raised (Call (callees.Function n) cs ty) d t p q (s, signature, many, passed, result, numbered) end has =
        let front = arguments_code (starts_of types) cs p t in
        let (here, none) = has_back code p front _ has in
        (p + length front, arguments_stand types raised cs t p (p + length front) numbered refl (has_front code p front _ has), here, cut p q front _ end)
    expression_stands types raised (NumberOfElements a) d t p q (fat, numbered) end has =
        let slot = value_slot (starts_of types) a t in
        let inner = expression_code (starts_of types) a p slot t in
        let front = code_unless (operand_of (starts_of types) a) inner in
        let o = value_operand (starts_of types) a t in
        let m = p + length front in
        let count = count_code o m d in
        (fat, o, m, operand_by code b types raised (operand_of (starts_of types) a) _ inner slot p m refl (has_front code p front count has) (λ e h. expression_stands types raised a slot t p m numbered e h), count_stands code b types raised o d m q (cut p q front count end) (has_back code p front count has))
    expression_stands types raised (Unary unary.Widen a) d t p q (one, numbered) end has = (one, expression_stands types raised a d t p q numbered end has)
    expression_stands types raised (Unary o a) d t p q numbered end has =
        let inner = expression_code (starts_of types) a p (value_slot (starts_of types) a t) t in
        let front = code_unless (operand_of (starts_of types) a) inner in
        let m = p + length front in
        let (here, none) = has_back code p front _ has in
        (value_operand (starts_of types) a t, m, operand_by code b types raised (operand_of (starts_of types) a) _ inner (value_slot (starts_of types) a t) p m refl (has_front code p front _ has) (λ e h. expression_stands types raised a (value_slot (starts_of types) a t) t p m numbered e h), here, cut p q front _ end)
    expression_stands types raised (Binary a os ty) d t p q (numbered, rest) end has =
        let inner = expression_code (starts_of types) a p (left_slot (starts_of types) a os d t) t in
        let front = code_unless (left_of (starts_of types) a os) inner in
        let m = p + length front in
        let l = operand_or (left_of (starts_of types) a os) (left_slot (starts_of types) a os d t) in
        let back = operations_code (starts_of types) os m l d t in
        (l, m, operand_by code b types raised (left_of (starts_of types) a os) _ inner (left_slot (starts_of types) a os d t) p m refl (has_front code p front back has) (λ e h. expression_stands types raised a (left_slot (starts_of types) a os d t) t p m numbered e h), operations_stand types raised os l d t m q (operand_words (type_of a)) ty rest (first_left code b types raised a os d t) (cut p q front back end) (has_back code p front back has))
    expression_stands types raised (Assign (Local w n) c ty) d t p q ((few, room), numbered) end has =
        let o = operands.Slot (slot_of (starts_of types) n) in
        let front = initial_code (starts_of types) c p (slot_of (starts_of types) n) t in
        let back = copy_code (passed_words c) o d in
        let m = p + length front in
        (o, m, (refl, room, initial_stands types raised c (slot_of (starts_of types) n) t p m numbered refl (has_front code p front back has)), copy_by code b types raised (is_in o d) (passed_words c) o d m q (cut p q front back end) (has_back code p front back has))
    expression_stands types raised (Assign (Global n) c ty) d t p q (room, numbered) end has =
        let o = converted_operand (starts_of types) c t in
        let front = converted_operand_code (starts_of types) c p t in
        let store = global_code (passed_words c) (global_of (starts_of types) n) o in
        let both = front ++ store in
        let back = copy_code (passed_words c) o d in
        let m = p + length both in
        let has_both = has_front code p both back has in
        let stored = global_stands code b types raised (passed_words c) (global_of (starts_of types) n) o (p + length front) m (cut p m front store refl) (has_back code p front store has_both) in
        (o, m, (p + length front, converted_operand_stands types raised c t p (p + length front) numbered refl (has_front code p front store has_both), room, stored), copy_by code b types raised (is_in o d) (passed_words c) o d m q (cut p q both back end) (has_back code p both back has))
    expression_stands types raised (Load x) d t p q numbered end has =
        let front = place_code (starts_of types) x p t in
        let o = place_operand (starts_of types) x t in
        let back = loaded_code (kind_of (type_of_place x)) o (place_offset (starts_of types) x) d t in
        let r = p + length front in (
          o,
          place_offset (starts_of types) x,
          r,
          place_stands types raised x t p r numbered refl (has_front code p front back has),
          loaded_stands code b types raised (words_of_kind (kind_of (type_of_place x)) == 1) (kind_of (type_of_place x)) o (place_offset (starts_of types) x) d t r q (cut p q front back end) (has_back code p front back has),
        )
    expression_stands types raised (AddressOf (Local w n) ty) d t p q (few, (v, there, kind)) end (here, last) =
        let following = kind_after ty in (
          v,
          there,
          subst (λ (count : ℕ). At code p (instructions.AddressOf d (slot_of (starts_of types) n) count)) (ap words_of_kind kind ∙ type_words v) here,
          subst (λ (k : Kind). LastByteAt code k d (p + 1) q) kind (last_byte_stands code b types raised following d (p + 1) q (omega (arith, end)) last),
        )
    expression_stands types raised (AddressOf (Global n) ty) d t p q (v, there, kind) end (here, none) =
        (v, there, subst (λ (k : Kind). At code p (instructions.Move d (operands.Word (address_of_global k (global_of (starts_of types) n))))) kind here, end)
    expression_stands types raised (AddressOfCell x ty) d t p q numbered end has =
        let o = place_operand (starts_of types) x t in
        let front = place_code (starts_of types) x p t in
        let back = address_code o (place_offset (starts_of types) x) d in
        let r = p + length front in
        (o, place_offset (starts_of types) x, r, place_stands types raised x t p r numbered refl (has_front code p front back has), address_stands code b types raised o (place_offset (starts_of types) x) d r q (cut p q front back end) (has_back code p front back has))
    expression_stands types raised (Store x c ty) d t p q (place, numbered) end has =
        let a = place_operand (starts_of types) x t in
        let bytes = place_offset (starts_of types) x in
        let o = converted_operand (starts_of types) c (t + 1) in
        let front = place_code (starts_of types) x p t in
        let bring = address_code a bytes t in
        let address = front ++ bring in
        let r = p + length front in
        let s = p + length address in
        let value = converted_operand_code (starts_of types) c s (t + 1) in
        let u = s + length value in
        let write = saved_code (kind_passed c) t o in
        let both = address ++ (value ++ write) in
        let back = copy_code (passed_words c) o d in
        let m = p + length both in
        let has_both = has_front code p both back has in
        let has_address = has_front code p address (value ++ write) has_both in
        let has_value = has_back code p address (value ++ write) has_both in (
          o,
          m,
          (
            a,
            bytes,
            r,
            s,
            u,
            place_stands types raised x t p r place refl (has_front code p front bring has_address),
            address_stands code b types raised a bytes t r s (cut p s front bring refl) (has_back code p front bring has_address),
            converted_operand_stands types raised c (t + 1) s u numbered refl (has_front code s value write has_value),
            saved_stands code b types raised (kind_passed c) t o u m (stored_apart types b c t numbered) (cut s m value write (cut p m address (value ++ write) refl)) (has_back code s value write has_value),
          ),
          copy_by code b types raised (is_in o d) (passed_words c) o d m q (cut p q both back end) (has_back code p both back has),
        )
    expression_stands types raised (FreeUnique a) d t p q numbered end has =
        let o = value_operand (starts_of types) a t in
        let inner = expression_code (starts_of types) a p (value_slot (starts_of types) a t) t in
        let front = code_unless (operand_of (starts_of types) a) inner in
        let m = p + length front in
        let back = free_code o m in
        (o, m, operand_by code b types raised (operand_of (starts_of types) a) _ inner (value_slot (starts_of types) a t) p m refl (has_front code p front back has) (λ e h. expression_stands types raised a (value_slot (starts_of types) a t) t p m numbered e h), freed_stands code b types raised o m q (cut p q front back end) (has_back code p front back has))
    expression_stands types raised (New OnHeap i ty) d t p q numbered end has = made_stands types raised i (operands.Word HEAP) d t p q numbered end has
    expression_stands types raised (New AsUnique i ty) d t p q numbered end has = made_stands types raised i (operands.Word UNIQUE) d t p q numbered end has
    expression_stands types raised (New (ByHandle a) i ty) d t p q (kind_is, numbered, made) end has =
        let front = expression_code (starts_of types) a p t t in
        let m = p + length front in
        let back = made_code (starts_of types) i (operands.Slot t) m d (t + 1) in (
          m,
          expression_stands types raised a t t p m numbered refl (has_front code p front back has),
          subst (λ n. MadeAt code b types i (operands.Slot t) d n m q) (let e : t + 1 ≡ suc t = omega arith in e) (made_stands types raised i (operands.Slot t) d (t + 1) m q made (cut p q front back end) (has_back code p front back has)),
        )
    expression_stands types raised (FreeKey a) d t p q numbered end has =
        let o = value_operand (starts_of types) a t in
        let inner = expression_code (starts_of types) a p (value_slot (starts_of types) a t) t in
        let front = code_unless (operand_of (starts_of types) a) inner in
        let m = p + length front in
        let (here, none) = has_back code p front _ has in
        (o, m, operand_by code b types raised (operand_of (starts_of types) a) _ inner (value_slot (starts_of types) a t) p m refl (has_front code p front _ has) (λ e h. expression_stands types raised a (value_slot (starts_of types) a t) t p m numbered e h), here, cut p q front _ end)

    pub place_stands : (types : Types) (raised : BlocksStand code types.raises (words_of_all types.locals)) → (x : Dereference) (t p q : ℕ) → FitsCell b types x → p + length (place_code (starts_of types) x p t) ≡ q → HasAt code p (place_code (starts_of types) x p t)
        → PlaceAt code b types x (place_operand (starts_of types) x t) (place_offset (starts_of types) x) t p q
    place_stands types raised (Target k a ty) t p q (pointer, kind_is, wide, numbered) end has =
        let slot = value_slot (starts_of types) a t in
        let o = value_operand (starts_of types) a t in
        let inner = expression_code (starts_of types) a p slot t in
        let front = code_unless (operand_of (starts_of types) a) inner in
        let m = p + length front in
        let access = followed_code (starts_of types) (is_thin k) (span_in ty) o t m in (
          o,
          m,
          operand_by code b types raised (operand_of (starts_of types) a) _ inner slot p m refl (has_front code p front access has) (λ e h. expression_stands types raised a slot t p m numbered e h),
          followed_stands code b types raised (is_thin k) (span_in ty) o t m q (in_slots code b types raised k a t pointer kind_is) (cut p q front access end) (has_back code p front access has),
          refl,
          refl,
        )
    place_stands types raised (Member k a s f ty) t p q (thin, there, numbered) end has =
        let slot = value_slot (starts_of types) a t in
        let o = value_operand (starts_of types) a t in
        let inner = expression_code (starts_of types) a p slot t in
        let front = code_unless (operand_of (starts_of types) a) inner in
        let m = p + length front in
        let check = check_code (starts_of types) null_exception o in (
          m,
          operand_by code b types raised (operand_of (starts_of types) a) _ inner slot p m refl (has_front code p front check has) (λ e h. expression_stands types raised a slot t p m numbered e h),
          thin,
          check_stands code b types raised null_exception o m q (omega arith) (omega arith) (cut p q front check end) (has_back code p front check has),
          there,
          refl,
        )
    place_stands types raised (Element a i ty) t p q (fat, three, first, second) end has =
        let known = pointer_of (starts_of types) a i in
        let n = pointer_slot (starts_of types) a i t in
        let pointer = expression_code (starts_of types) a p t t in
        let front = code_unless_slot known pointer in
        let m = p + length front in
        let slot = value_slot (starts_of types) i (t + 3) in
        let o = value_operand (starts_of types) i (t + 3) in
        let inner = expression_code (starts_of types) i m slot (t + 3) in
        let operand = code_unless (operand_of (starts_of types) i) inner in
        let r = m + length operand in
        let reached = reached_code (starts_of types) (span_in ty) n (t + 2) t (r + 1) in
        let back = instructions.Binary plain_binary.Add (t + 2) (operands.Slot (n + 2)) o ∷ reached in
        let rest = has_back code p front (operand ++ back) has in
        let end_rest = cut p q front (operand ++ back) end in
        let (sum, has_reached) = has_back code m operand back rest in (
          n,
          o,
          m,
          r,
          returned_by code b types raised known _ pointer t p m refl (has_front code p front (operand ++ back) has) (λ e h. expression_stands types raised a t t p m first e h),
          operand_by code b types raised (operand_of (starts_of types) i) _ inner slot m r refl (has_front code m operand back rest) (λ e h. expression_stands types raised i slot (t + 3) m r second e h),
          sum,
          reached_stands code b types raised (span_in ty) n (t + 2) t (r + 1) q (omega (arith, cut m q operand back end_rest)) has_reached,
          refl,
          refl,
        )

    made_stands : (types : Types) (raised : BlocksStand code types.raises (words_of_all types.locals)) → (i : Initial) (handle : Operand) (d t p q : ℕ) → FitsObject b types i → p + length (made_code (starts_of types) i handle p d t) ≡ q → HasAt code p (made_code (starts_of types) i handle p d t) → MadeAt code b types i handle d t p q
    made_stands types raised (Plain kind a) handle d t p q (kind_is, numbered) end has =
        let front = expression_code (starts_of types) a p t t in
        let back = object_code handle (kind ∷ []) d t in
        let m = p + length front in (
          m,
          expression_stands types raised a t t p m numbered refl (has_front code p front back has),
          sym kind_is,
          object_stands code b types raised handle (kind ∷ []) d t m q (omega arith) (omega (arith, kind_few kind)) (cut p q front back end) (has_back code p front back has),
        )
    made_stands types raised (Fields cs) handle d t p q (some, few, numbered) end has =
        let front = arguments_code (starts_of types) cs p t in
        let back = object_code handle (kinds_passed cs) d t in
        let m = p + length front in (
          m,
          arguments_stand types raised cs t p m numbered refl (has_front code p front back has),
          object_stands code b types raised handle (kinds_passed cs) d t m q (omega (arith, some, passed_many cs)) (omega (arith, few, passed_slots cs)) (cut p q front back end) (has_back code p front back has),
        )
    made_stands types raised (Array w level n kind a) handle d t p q (level_is, kind_is, fits_n, fits_a) end has =
        let count = expression_code (starts_of types) n p t t in
        let m = p + length count in
        let begun = begun_code (starts_of types) handle kind t in
        let h = m + length begun in
        let element = expression_code (starts_of (counted types (t + 2))) a (h + 1) (t + 3) (t + 3) in
        let filled = filled_code kind h t in
        let ended = ended_code d t in
        let both = element ++ filled in
        let elements = elements_code kind element h d t in
        let has_rest = has_back code p count (begun ++ elements) has in
        let (branch, has_after) = has_back code m begun elements has_rest in
        let has_both = has_front code (h + 1) both ended has_after in
        let s = h + 1 + length both in
        let (first_index, has_copy) = has_back code (h + 1) both ended has_after in
        let r = h + 1 + length element in (
          m,
          h,
          r,
          s,
          expression_stands types raised n t t p m fits_n refl (has_front code p count (begun ++ elements) has),
          begun_stands code b types raised handle kind t m h refl (has_front code m begun elements has_rest),
          level_is,
          (
            branch,
            omega arith,
            expression_stands (counted types (t + 2)) raised a (t + 3) (t + 3) (h + 1) r (fits_a (t + 2)) refl (has_front code (h + 1) element filled has_both),
            filled_stands code b types raised kind t h r s (omega (arith, length-append element filled)) (has_back code (h + 1) element filled has_both),
            first_index,
            copy_by code b types raised (is_in (operands.Slot t) d) 3 (operands.Slot t) d (s + 1) q
                (omega (arith, cut m q begun elements (cut p q count (begun ++ elements) end), length-append both ended)) has_copy,
          ),
        )

    pub initial_stands : (types : Types) (raised : BlocksStand code types.raises (words_of_all types.locals)) → (c : Converted) (d t p q : ℕ) → FitsConverted b types c → p + length (initial_code (starts_of types) c p d t) ≡ q → HasAt code p (initial_code (starts_of types) c p d t) → InitialAt code b types c d t p q
    initial_stands types raised (Convert from to a) d t p q (kind, wide, numbered) end has =
        initial_by code b types raised (converts_there from to) from to a d t p q kind wide refl (λ slot r e h. brought_by code b types raised (masks from to) a slot t p r (λ s u f g. expression_stands types raised a s t p u numbered f g) e h) end has

    converted_stands : (types : Types) (raised : BlocksStand code types.raises (words_of_all types.locals)) → (c : Converted) (t p q : ℕ) → FitsConverted b types c → p + length (converted_code (starts_of types) c p t) ≡ q → HasAt code p (converted_code (starts_of types) c p t) → ConvertedAt code b types c t p q
    converted_stands types raised (Convert from to a) t p q (kind, wide, numbered) end has =
        let front = brought_code (starts_of types) (Convert from to a) p t t in
        let back = conversion_code (starts_of types) from to (span_of a) (operands.Slot t) (p + length front) in
        (p + length front, brought_by code b types raised (masks from to) a t t p (p + length front) (λ s u f g. expression_stands types raised a s t p u numbered f g) refl (has_front code p front back has), conversion_stands code b types raised from to (span_of a) (operands.Slot t) t (p + length front) q wide (λ narrow. refl) (cut p q front back end) (has_back code p front back has))

    pub converted_operand_stands : (types : Types) (raised : BlocksStand code types.raises (words_of_all types.locals)) → (c : Converted) (t p q : ℕ) → FitsConverted b types c → p + length (converted_operand_code (starts_of types) c p t) ≡ q → HasAt code p (converted_operand_code (starts_of types) c p t) → ConvertedOperandAt code b types c t (converted_operand (starts_of types) c t) p q
    converted_operand_stands types raised (Convert from to a) t p q (kind, wide, numbered) end has =
        let slot = source_slot (starts_of types) (Convert from to a) t in
        let known = source_of (starts_of types) (Convert from to a) in
        let inner = brought_code (starts_of types) (Convert from to a) p slot t in
        let front = code_unless known inner in
        let m = p + length front in
        let back = conversion_code (starts_of types) from to (span_of a) (converted_operand (starts_of types) (Convert from to a) t) m in
        (m, operand_by code b types raised known _ inner slot p m refl (has_front code p front back has) (λ e h. brought_by code b types raised (masks from to) a slot t p m (λ s u f g. expression_stands types raised a s t p u numbered f g) e h), conversion_stands code b types raised from to (span_of a) (converted_operand (starts_of types) (Convert from to a) t) t m q wide (λ narrow. source_brought code b types raised from to a t kind narrow) (cut p q front back end) (has_back code p front back has))

    pub printed_stands : (types : Types) (raised : BlocksStand code types.raises (words_of_all types.locals)) → (cs : Arguments) (o : Operand) (t p q : ℕ) → argument_count cs ≡ 1 → FitArguments b types cs → p + length (printed_code (starts_of types) cs p t) ≡ q → HasAt code p (printed_code (starts_of types) cs p t) → PrintedAt code b types cs t (printed_operand (starts_of types) cs o t) p q
    printed_stands types raised NoArguments o t p q single numbered end has = absurd (omega (arith, single))
    printed_stands types raised (MoreArguments c NoArguments) o t p q single (numbered, rest) end has =
        let front = converted_operand_code (starts_of types) c p t in
        converted_operand_stands types raised c t p q numbered (omega (arith, cut p q front [] end)) (has_front code p front [] has)
    printed_stands types raised (MoreArguments c (MoreArguments c' cs)) o t p q single numbered end has = absurd (omega (arith, single))

    arguments_stand : (types : Types) (raised : BlocksStand code types.raises (words_of_all types.locals)) → (cs : Arguments) (t p q : ℕ) → FitArguments b types cs → p + length (arguments_code (starts_of types) cs p t) ≡ q → HasAt code p (arguments_code (starts_of types) cs p t) → ArgumentsAt code b types cs t p q
    arguments_stand types raised NoArguments t p q numbered end has = omega (arith, end)
    arguments_stand types raised (MoreArguments c cs) t p q (numbered, rest) end has =
        let front = converted_code (starts_of types) c p t in
        let back = arguments_code (starts_of types) cs (p + length front) (t + passed_words c) in
        (p + length front, converted_stands types raised c t p (p + length front) numbered refl (has_front code p front back has), arguments_stand types raised cs (t + passed_words c) (p + length front) q rest (cut p q front back end) (has_back code p front back has))

    operations_stand : (types : Types) (raised : BlocksStand code types.raises (words_of_all types.locals)) → (os : Operations) (l : Operand) (d t p q left : ℕ) (ty : Ty) → FitOperations b types left ty os → IsLeft code b types raised os l d t → p + length (operations_code (starts_of types) os p l d t) ≡ q → HasAt code p (operations_code (starts_of types) os p l d t) → OperationsAt code b types os l d t p q
    operations_stand types raised NoOperations l d t p q words ty numbered left end has = (left, omega (arith, end))
    operations_stand types raised (ThenCompute o a os) l d t p q words ty (numbered, rest) left end has =
        let inner = expression_code (starts_of types) a p (value_slot (starts_of types) a (suc t)) (suc t) in
        let operand = code_unless (operand_of (starts_of types) a) inner in
        let r = value_operand (starts_of types) a (suc t) in
        let next = next_slot os d t in
        let m = p + length operand in
        let operator = operator_code (starts_of types) o l r next in
        let s = p + length (operand ++ operator) in
        let back = operations_code (starts_of types) os s (operands.Slot next) d t in
        let front_has = has_front code p (operand ++ operator) back has in (
          r,
          m,
          s,
          right_by code b types raised (operand_of (starts_of types) a) (LeftBy code b types (is_simple (starts_of types) a) (l ≡ operands.Slot t)) _ inner (value_slot (starts_of types) a (suc t)) p m left refl (has_front code p operand operator front_has) (λ e h. expression_stands types raised a (value_slot (starts_of types) a (suc t)) (suc t) p m numbered e h),
          operator_stands code b types raised o l r next m s (cut p s operand operator refl) (has_back code p operand operator front_has),
          operations_stand types raised os (operands.Slot next) d t s q (words_of ty) ty rest (next_left code b types raised os d t) (cut p q (operand ++ operator) back end) (has_back code p (operand ++ operator) back has),
        )
    operations_stand types raised (ThenTest o a os) l d t p q words ty (numbered, rest) left end has =
        let operand = expression_code (starts_of types) a (p + 1) t t in
        let next = next_slot os d t in
        let front = test_code o operand p next t in
        let back = operations_code (starts_of types) os (p + length front) (operands.Slot next) d t in
        let (jump, inner) = has_front code p front back has in
        let (first, none) = has_back code (p + 1) operand (truth_code t next) inner in
        let long : length front ≡ 1 + (length operand + 1) = omega (arith, length-append operand (truth_code t next)) in (
          p + 1 + length operand,
          p + length front,
          left,
          jump,
          expression_stands types raised a t t (p + 1) (p + 1 + length operand) numbered refl (has_front code (p + 1) operand (truth_code t next) inner),
          (first, omega (arith, long)),
          operations_stand types raised os (operands.Slot next) d t (p + length front) q (words_of ty) ty rest (next_left code b types raised os d t) (cut p q front back end) (has_back code p front back has),
        )
    operations_stand types raised (ThenPointer o a os) l d t p q words ty (wide, numbered, rest) left end has =
        let inner = expression_code (starts_of types) a p (value_slot (starts_of types) a (after_left o t)) (after_left o t) in
        let next = next_slot os d t in
        let r = value_operand (starts_of types) a (after_left o t) in
        let operand = code_unless (operand_of (starts_of types) a) inner in
        let m = p + length operand in
        let both = pointer_code o l r operand next in
        let s = p + length both in
        let back = operations_code (starts_of types) os s (operands.Slot next) d t in
        let front_has = has_front code p both back has in (
          r,
          m,
          s,
          left,
          operand_by code b types raised (operand_of (starts_of types) a) _ inner (value_slot (starts_of types) a (after_left o t)) p m refl (has_front code p operand _ front_has) (λ e h. expression_stands types raised a (value_slot (starts_of types) a (after_left o t)) (after_left o t) p m numbered e h),
          pointer_stands code b types raised o l r t next m s left (cut p s operand (pointer_instructions o l r next) refl) (has_back code p operand _ front_has),
          operations_stand types raised os (operands.Slot next) d t s q (words_of ty) ty rest (next_left code b types raised os d t) (cut p q both back end) (has_back code p both back has),
        )
    operations_stand types raised (ThenPointerPeek n o a os) l d t p q words ty (wide, numbered, rest) left end has =
        let inner = expression_code (starts_of types) a p (value_slot (starts_of types) a (after_left o t)) (after_left o t) in
        let next = next_slot os d t in
        let r = value_operand (starts_of types) a (after_left o t) in
        let operand = code_unless (operand_of (starts_of types) a) inner in
        let m = p + length operand in
        let both = pointer_code o l r operand next in
        let s = p + length both in
        let back = operations_code (starts_of types) os s (operands.Slot next) d t in
        let front_has = has_front code p both back has in (
          r,
          m,
          s,
          left,
          operand_by code b types raised (operand_of (starts_of types) a) _ inner (value_slot (starts_of types) a (after_left o t)) p m refl (has_front code p operand _ front_has) (λ e h. expression_stands types raised a (value_slot (starts_of types) a (after_left o t)) (after_left o t) p m numbered e h),
          pointer_stands code b types raised o l r t next m s left (cut p s operand (pointer_instructions o l r next) refl) (has_back code p operand _ front_has),
          operations_stand types raised os (operands.Slot next) d t s q (words_of ty) ty rest (next_left code b types raised os d t) (cut p q both back end) (has_back code p both back has),
        )

  pub brought_stands : (types : Types) (raised : BlocksStand code types.raises (words_of_all types.locals)) → (c : Converted) (d t p q : ℕ) → FitsConverted b types c → p + length (brought_code (starts_of types) c p d t) ≡ q → HasAt code p (brought_code (starts_of types) c p d t) → BroughtAt code b types c d t p q
  brought_stands types raised (Convert from to a) d t p q (kind, wide, numbered) end has =
      brought_by code b types raised (masks from to) a d t p q (λ slot r e h. expression_stands types raised a slot t p r numbered e h) end has
