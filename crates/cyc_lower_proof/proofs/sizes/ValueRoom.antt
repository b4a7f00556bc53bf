-- This file proves that the slots of a function are enough for values and for the operands of operators.
use Rattle.std.proofs.Common.{◌≡◌, ℕ, ◌+◌, ◌≤◌, ◌<◌, Bool, true, false, Option, None, Some, slice_get, refl, ap, subst, arith}
use Rattle.cyc_types.specs.declared.typed.Kind.{Kind}
use Rattle.cyc_types.specs.declared.typed.Kind.TheVariants as kinds
use Rattle.cyc_types.specs.declared.typed.Callee.TheVariants as callees
use Rattle.cyc_types.specs.declared.typed.PointerOperator.{PointerOperator}
use Rattle.cyc_types.specs.declared.typed.PointerOperator.TheVariants as pointers
use Rattle.cyc_types.specs.declared.typed.UnaryOperator.TheVariants as unary
use Rattle.cyc_types.specs.Types.{Ty, words_of, ValueType}
use Rattle.cyc_types.specs.TypedTrees.{Counter, Load, New, OnHeap, AsUnique, ByHandle, Plain, Fields, Array, Dereference, Target, Lvalue, Local, Expression, Number, NullPointer, Copy, Call, Unary, Binary, Assign, Converted, Convert, Arguments, NoArguments}
use Rattle.cyc_types.specs.TypedTrees.{MoreArguments, Operations, NoOperations, ThenCompute, ThenTest, ThenPointer, type_of, Signature, Move, Peek, ThenPointerPeek, AddressOfCell, Store, Member, FreeUnique, NumberOfElements, Element, HeapRegion, FreeKey, AddressOf}
use Rattle.cyc_types.specs.Numbered.{Numbering}
use Rattle.cyc_plain.specs.declared.instruction.Operand.{Operand}
use Rattle.cyc_plain.specs.declared.instruction.Operand.TheVariants as operands
use Rattle.cyc_plain.specs.inside.Program.{Routine}
use Rattle.cyc_plain.specs.inside.WellFormed.{IsOperand}
use Rattle.std.specs.Prelude.{max, if◌then◌else◌}
use Rattle.cyc_meaning.specs.Values.{words_of_kind}
use Rattle.cyc_meaning.specs.FrameCount.{operand_words, converted_words, argument_words, expression_need, operations_need}
use Rattle.cyc_meaning.specs.Pointers.{result_kind as operator_kind}
use Rattle.cyc_lower_proof.specs.inside.Slots.{starts_of, slot_of, Types}
use Rattle.cyc_lower_proof.specs.inside.ValueCode.{operand_or, left_with, next_slot, left_kind, keeps_words, kind_passed}
use Rattle.cyc_lower_proof.specs.inside.ControlCode.{counter_operand}
use Rattle.cyc_lower_proof.specs.inside.ExpressionCode.{source_slot, operand_of, left_of, value_slot, slot_with, left_slot, value_operand, converted_operand, printed_operand, is_simple}
use Rattle.cyc_lower_proof.proofs.slots.Widths.{kind_positive, type_words, result_kind, given, words_in, chain_kind, keeps_wide, unary_one_word}
use Rattle.cyc_lower_proof.proofs.relation.code.Fitting.{Fits, FitsConverted, FitArguments, FitOperations}
use Rattle.cyc_lower_proof.proofs.sizes.RangeLemmas.{operand_positive, result_least}

module _ (r : Routine) (b : Numbering) (types : Types) (locals : (n : ℕ) → n < b.locals → slot_of (starts_of types) n + words_in types.locals n ≤ r.slots) (levels : (l slot : ℕ) → slice_get types.counters l ≡ Some slot → slot < r.slots) where
  -- the representation kind (int, char, pointer, ..) of the result of an expression
  abbrev pub kind_at : Expression → Kind
  kind_at a = given b.functions a

  -- Holds if a value of this number of words is in slots of the function, or is a constant word.
  abbrev pub HasOperand : Operand → (words : ℕ) → Type 0
  HasOperand (operands.Slot n) words = n + words ≤ r.slots
  HasOperand (operands.Word w) words = Unit {0}

  pub operand_in : (o : Operand) (kind : Kind) → HasOperand o (words_of_kind kind) → IsOperand r o
  operand_in (operands.Slot n) kind inside = omega (arith, inside, kind_positive kind)
  operand_in (operands.Word w) kind inside = tt

  pub assigned_kind : (l : Lvalue) (c : Converted) (ty : ValueType) → kind_at (Assign l c ty) ≡ kind_passed c
  assigned_kind l (Convert from to a) ty = refl

  -- The result of a pointer operator or of a chain of operators has at most as many words as the left operand or as the operators need.
  pub operator_few : (o : PointerOperator) → words_of_kind (operator_kind o) ≤ words_of_kind (left_kind o)
  operator_few pointers.AddFat = omega arith
  operator_few pointers.SubtractFat = omega arith
  operator_few pointers.ThinIsNull = omega arith
  operator_few pointers.ThinIsNotNull = omega arith
  operator_few pointers.FatIsNull = omega arith
  operator_few pointers.FatIsNotNull = omega arith
  operator_few pointers.NullIs = omega arith
  operator_few pointers.NullIsNot = omega arith
  operator_few pointers.EqualThin = omega arith
  operator_few pointers.NotEqualThin = omega arith

  chain_needs : (os : Operations) (kind : Kind) (t : Ty) (left : ℕ) → FitOperations b types left t os → words_of_kind (chain_kind kind os) ≤ max (words_of_kind kind) (max 1 (operations_need os t left))
  chain_needs NoOperations kind t left numbered = omega arith
  chain_needs (ThenCompute o a os) kind t left (numbered, rest) = omega (arith, chain_needs os kinds.Int t (words_of t) rest)
  chain_needs (ThenTest o a os) kind t left (numbered, rest) = omega (arith, chain_needs os kinds.Int t (words_of t) rest)
  chain_needs (ThenPointer o a os) kind t left (wide, numbered, rest) = omega (arith, chain_needs os (operator_kind o) t (words_of t) rest, operator_few o, wide)
  chain_needs (ThenPointerPeek n o a os) kind t left (wide, numbered, rest) = omega (arith, chain_needs os (operator_kind o) t (words_of t) rest, operator_few o, wide)

  pub stored_kind : (x : Dereference) (c : Converted) (ty : ValueType) → kind_at (Store x c ty) ≡ kind_passed c
  stored_kind x (Convert from to a) ty = refl

  -- The result of an expression has at most as many words as the expression needs, or one word.
  pub given_needs : (a : Expression) → Fits b types a → words_of_kind (kind_at a) ≤ max 1 (expression_need a)
  given_needs (Number n) numbered = omega arith
  given_needs NullPointer numbered = omega arith
  given_needs (Counter l) numbered = omega arith
  given_needs (Copy l t) numbered = omega (arith, type_words t)
  given_needs (Move p n t) numbered = omega (arith, type_words t)
  given_needs (Peek p n t) numbered = omega (arith, type_words t)
  given_needs (Call callees.Putchar cs t) numbered = omega arith
  given_needs (Call callees.Getchar cs t) numbered = omega arith
  given_needs (Call (callees.Function n) cs t) (s, signature, many, passed, result, numbered) =
      omega (arith, ap (λ (o : Option Signature). words_of_kind (result_kind o)) signature, (result_least s.result).1, result)
  given_needs (NumberOfElements a) numbered = omega arith
  given_needs (Unary o a) numbered = omega (arith, unary_one_word o)
  given_needs (Binary a os t) (numbered, rest) = omega (arith, given_needs a numbered, chain_needs os (kind_at a) t (operand_words (type_of a)) rest)
  given_needs (Assign l (Convert from to a) t) numbered = omega arith
  given_needs (Load (Target k a t)) numbered = omega (arith, type_words t)
  given_needs (Load (Element a i t)) numbered = omega (arith, type_words t)
  given_needs (Load (Member k a s f t)) numbered = omega (arith, type_words t)
  given_needs (FreeUnique a) numbered = omega (arith, operand_positive (type_of a))
  given_needs (New OnHeap (Plain kind a) t) numbered = omega arith
  given_needs (New OnHeap (Fields cs) t) numbered = omega arith
  given_needs (New OnHeap (Array p level n kind a) t) numbered = omega arith
  given_needs (New AsUnique (Plain kind a) t) numbered = omega arith
  given_needs (New AsUnique (Fields cs) t) numbered = omega arith
  given_needs (New AsUnique (Array p level n kind a) t) numbered = omega arith
  given_needs (New (ByHandle h) (Plain kind a) t) numbered = omega arith
  given_needs (New (ByHandle h) (Fields cs) t) numbered = omega arith
  given_needs (New (ByHandle h) (Array p level n kind a) t) numbered = omega arith
  given_needs HeapRegion numbered = omega arith
  given_needs (FreeKey a) numbered = omega arith
  given_needs (AddressOf l t) numbered = omega arith
  given_needs (AddressOfCell x t) numbered = omega arith
  given_needs (Store x (Convert from to a) t) numbered = omega arith

  pub slot_fits : (a : Expression) (t : ℕ) → Fits b types a → t + words_of_kind (kind_at a) ≤ r.slots → value_slot (starts_of types) a t + words_of_kind (kind_at a) ≤ r.slots
  slot_fits (Assign (Local w n) (Convert from to a) ty) t ((within, room), numbered) few = omega (arith, locals n within, room)
  slot_fits (Unary unary.Widen a) t (one, numbered) few = omega (arith, one, slot_fits a t numbered (omega (arith, few, one)))
  slot_fits a t numbered few = few

  pub value_room : (a : Expression) (t : ℕ) → Fits b types a → t + words_of_kind (kind_at a) ≤ r.slots → HasOperand (value_operand (starts_of types) a t) (words_of_kind (kind_at a))
  value_room (Number n) t numbered few = tt
  value_room NullPointer t numbered few = tt
  value_room HeapRegion t numbered few = tt
  value_room (Copy (Local w n) ty) t (within, room) few = omega (arith, locals n within, room)
  value_room (Move w n ty) t (within, room) few = omega (arith, locals n within, room)
  value_room (Peek w n ty) t (within, room) few = omega (arith, locals n within, room)
  value_room (Assign (Local w n) (Convert from to a) ty) t ((within, room), numbered) few = omega (arith, locals n within, room)
  value_room (Counter l) t numbered few = by (slice_get types.counters l) refl
    where
      by : (s : Option ℕ) → slice_get types.counters l ≡ s → HasOperand (operand_or (counter_operand s) t) 1
      by (Some n) there = omega (arith, levels l n there)
      by None none = few
  value_room (Unary unary.Widen a) t (one, numbered) few =
      subst (HasOperand (value_operand (starts_of types) a t)) one (value_room a t numbered (omega (arith, few, one)))
  value_room a t numbered few = few

  pub value_in : (a : Expression) (t : ℕ) → Fits b types a → t + words_of_kind (kind_at a) ≤ r.slots → IsOperand r (value_operand (starts_of types) a t)
  value_in a t numbered few = operand_in (value_operand (starts_of types) a t) (kind_at a) (value_room a t numbered few)

  -- The slots of a function are enough for a converted value both before and after the conversion.
  pub source_fits : (from to : Kind) (a : Expression) (t : ℕ) → FitsConverted b types (Convert from to a) → t + converted_words (Convert from to a) ≤ r.slots
      → source_slot (starts_of types) (Convert from to a) t + words_of_kind (kind_at a) ≤ r.slots
  source_fits from to a t (kind, wide, numbered) few = by (keeps_words from to)
    where
      by : (same : Bool) → (if same then value_slot (starts_of types) a t else t) + words_of_kind (kind_at a) ≤ r.slots
      by true = slot_fits a t numbered (omega (arith, few, ap words_of_kind kind))
      by false = omega (arith, few, ap words_of_kind kind)

  pub less_operand : (o : Operand) (words fewer : ℕ) → fewer ≤ words → HasOperand o words → HasOperand o fewer
  less_operand (operands.Slot n) words fewer less inside = omega (arith, less, inside)
  less_operand (operands.Word w) words fewer less inside = tt

  pub brought_room : (c : Converted) (t : ℕ) → FitsConverted b types c → t + converted_words c ≤ r.slots → HasOperand (converted_operand (starts_of types) c t) (converted_words c)
  brought_room (Convert from to a) t (kind, wide, numbered) few = by (keeps_words from to) refl
    where
      by : (same : Bool) → keeps_words from to ≡ same
          → HasOperand (operand_or (if same then operand_of (starts_of types) a else None) (if same then value_slot (starts_of types) a t else t)) (converted_words (Convert from to a))
      by true wide =
          subst (HasOperand (value_operand (starts_of types) a t))
          (let same : words_of_kind (kind_at a) ≡ converted_words (Convert from to a) = omega (arith, ap words_of_kind kind, keeps_wide from to wide) in same)
          (value_room a t numbered (omega (arith, few, ap words_of_kind kind)))
      by false wide = few

  pub converted_room : (c : Converted) (t : ℕ) → FitsConverted b types c → t + converted_words c ≤ r.slots → HasOperand (converted_operand (starts_of types) c t) (words_of_kind (kind_passed c))
  converted_room (Convert from to a) t numbered few =
      less_operand (converted_operand (starts_of types) (Convert from to a) t) (converted_words (Convert from to a)) (words_of_kind to) (omega arith) (brought_room (Convert from to a) t numbered few)

  converted_value_in : (c : Converted) (t : ℕ) → FitsConverted b types c → t + converted_words c ≤ r.slots → IsOperand r (converted_operand (starts_of types) c t)
  converted_value_in c t numbered few = operand_in (converted_operand (starts_of types) c t) (kind_passed c) (converted_room c t numbered few)

  pub printed_value_in : (cs : Arguments) (o : Operand) (t : ℕ) → FitArguments b types cs → IsOperand r o → t + argument_words cs ≤ r.slots → IsOperand r (printed_operand (starts_of types) cs o t)
  printed_value_in NoArguments o t numbered inside few = inside
  printed_value_in (MoreArguments c cs) o t (first, rest) inside few =
      printed_value_in cs (converted_operand (starts_of types) c t) t rest (converted_value_in c t first (omega (arith, few))) (omega (arith, few))

  -- The slots of a function are enough for the result of an operator in its destination.
  pub next_in : (os : Operations) (kind : Kind) (d t : ℕ) → d + words_of_kind (chain_kind kind os) ≤ r.slots → t + words_of_kind kind ≤ r.slots → next_slot os d t + words_of_kind kind ≤ r.slots
  next_in NoOperations kind d t few room = few
  next_in (ThenCompute o a os) kind d t few room = room
  next_in (ThenTest o a os) kind d t few room = room
  next_in (ThenPointer o a os) kind d t few room = room
  next_in (ThenPointerPeek n o a os) kind d t few room = room

  -- Holds if the words of a left operand of a pointer operator are in slots of the function, or are a constant.
  abbrev pub LeftIn : Operations → Operand → Type 0
  LeftIn (ThenPointer o a os) l = HasOperand l (words_of_kind (left_kind o))
  LeftIn (ThenPointerPeek n o a os) l = HasOperand l (words_of_kind (left_kind o))
  LeftIn os l = Unit {0}

  pub next_left_in : (os : Operations) (ty : Ty) (d t left : ℕ) → FitOperations b types left ty os → t + operations_need os ty left ≤ r.slots → LeftIn os (operands.Slot (next_slot os d t))
  next_left_in NoOperations ty d t left numbered few = tt
  next_left_in (ThenCompute o a os) ty d t left numbered few = tt
  next_left_in (ThenTest o a os) ty d t left numbered few = tt
  next_left_in (ThenPointer o a os) ty d t left (wide, numbered, rest) few = omega (arith, few, wide)
  next_left_in (ThenPointerPeek n o a os) ty d t left (wide, numbered, rest) few = omega (arith, few, wide)

  pub first_left_in : (a : Expression) (os : Operations) (ty : Ty) (d t left : ℕ) → FitOperations b types left ty os → t + operations_need os ty left ≤ r.slots
      → LeftIn os (operand_or (left_of (starts_of types) a os) (left_slot (starts_of types) a os d t))
  first_left_in a NoOperations ty d t left numbered few = tt
  first_left_in a (ThenCompute o c os) ty d t left numbered few = tt
  first_left_in a (ThenTest o c os) ty d t left numbered few = tt
  first_left_in a (ThenPointer o c os) ty d t left (wide, numbered, rest) few = omega (arith, few, wide)
  first_left_in a (ThenPointerPeek n o c os) ty d t left (wide, numbered, rest) few = omega (arith, few, wide)

  -- Holds if no operators follow, or if slot t is in the function's slots.
  abbrev RoomFor : Operations → ℕ → Type 0
  RoomFor NoOperations t = Unit {0}
  RoomFor os t = t < r.slots

  pub has_room : (os : Operations) (ty : Ty) (t left : ℕ) → FitOperations b types left ty os → 1 ≤ left → t + operations_need os ty left ≤ r.slots → RoomFor os t
  has_room NoOperations ty t left numbered some few = tt
  has_room (ThenCompute o a os) ty t left numbered some few = omega (arith, few, some)
  has_room (ThenTest o a os) ty t left numbered some few = omega (arith, few, some)
  has_room (ThenPointer o a os) ty t left numbered some few = omega (arith, few, some)
  has_room (ThenPointerPeek n o a os) ty t left numbered some few = omega (arith, few, some)

  pub slot_with_in : (simple : Bool) (a : Expression) (t : ℕ) → Fits b types a → t + words_of_kind (kind_at a) ≤ r.slots → slot_with (starts_of types) simple a t + words_of_kind (kind_at a) ≤ r.slots
  slot_with_in true a t numbered few = slot_fits a t numbered few
  slot_with_in false a t numbered few = few

  pub left_with_in : (simple : Bool) (a : Expression) (t : ℕ) → Fits b types a → t + words_of_kind (kind_at a) ≤ r.slots → IsOperand r (operand_or (left_with simple (operand_of (starts_of types) a)) (slot_with (starts_of types) simple a t))
  left_with_in true a t numbered few = value_in a t numbered few
  left_with_in false a t numbered few = omega (arith, few, kind_positive (kind_at a))

  -- Holds if no operators follow, or if the slots of the function are enough for their left operand.
  abbrev LeftRoom : Operations → Expression → ℕ → Type 0
  LeftRoom NoOperations a t = Unit {0}
  LeftRoom os a t = t + words_of_kind (kind_at a) ≤ r.slots

  pub left_room : (os : Operations) (a : Expression) (t : ℕ) → Fits b types a → t + expression_need a ≤ r.slots → RoomFor os t → LeftRoom os a t
  left_room NoOperations a t numbered few room = tt
  left_room os a t numbered few room = omega (arith, few, room, given_needs a numbered)

  pub left_slot_in : (a : Expression) (os : Operations) (ty : Ty) (d t : ℕ) → Fits b types a → d + words_of_kind (kind_at (Binary a os ty)) ≤ r.slots → LeftRoom os a t
      → left_slot (starts_of types) a os d t + words_of_kind (kind_at a) ≤ r.slots
  left_slot_in a NoOperations ty d t numbered few room = few
  left_slot_in a (ThenCompute o c os) ty d t numbered few room = slot_with_in (is_simple (starts_of types) c) a t numbered room
  left_slot_in a os ty d t numbered few room = room

  pub left_in : (a : Expression) (os : Operations) (ty : Ty) (d t : ℕ) → Fits b types a → d + words_of_kind (kind_at (Binary a os ty)) ≤ r.slots → LeftRoom os a t
      → IsOperand r (operand_or (left_of (starts_of types) a os) (left_slot (starts_of types) a os d t))
  left_in a NoOperations ty d t numbered few room = omega (arith, few, kind_positive (kind_at a))
  left_in a (ThenCompute o c os) ty d t numbered few room = left_with_in (is_simple (starts_of types) c) a t numbered room
  left_in a os ty d t numbered few room = omega (arith, room, kind_positive (kind_at a))
