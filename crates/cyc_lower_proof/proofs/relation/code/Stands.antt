-- This file says where the code of expressions and conditions is in the code of a function. The code positions at which the
-- pieces of code of a construct begin are existentially quantified.
use Rattle.std.proofs.Common.{◌≡◌, ℕ, suc, ◌+◌, ◌<◌, Bool, true, false, List, [], ◌∷◌, length, Option, None, Some, zero, ◌≤◌, max, slice_get, ◌⊎◌}
use Rattle.std.specs.Prelude.{◌==◌}
use Rattle.cyc_types.specs.declared.typed.Kind.{Kind}
use Rattle.cyc_types.specs.declared.typed.Kind.TheVariants as kinds
use Rattle.cyc_types.specs.declared.typed.Callee.TheVariants as callees
use Rattle.cyc_types.specs.declared.typed.Operator.{Operator}
use Rattle.cyc_types.specs.declared.typed.Operator.TheVariants as operators
use Rattle.cyc_types.specs.declared.typed.LogicalOperator.TheVariants as logical
use Rattle.cyc_types.specs.declared.typed.PointerOperator.{PointerOperator}
use Rattle.cyc_types.specs.declared.typed.PointerOperator.TheVariants as pointers
use Rattle.cyc_types.specs.TypedTrees.{Array, Counter, type_of_place, Load, Dereference, Target, Lvalue, Local, Global, Expression, Number, NullPointer, Copy, Call, Unary, Binary, Assign, Converted, Convert, Arguments}
use Rattle.cyc_types.specs.TypedTrees.{NoArguments, MoreArguments, Operations, NoOperations, ThenCompute, ThenTest, ThenPointer, Move, Peek, ThenPointerPeek, New, OnHeap, Initial, Plain, Fields, AddressOfCell, Store, Member, AsUnique, ByHandle, FreeUnique, FreeKey, HeapRegion}
use Rattle.cyc_types.specs.TypedTrees.{NumberOfElements, Element, AddressOf}
use Rattle.cyc_types.specs.Types.{words_of, Ty}
use Rattle.cyc_types.specs.Numbered.{Numbering}
use Rattle.cyc_plain.specs.declared.instruction.UnaryOperator.TheVariants as plain_unary
use Rattle.cyc_plain.specs.declared.instruction.BinaryOperator.TheVariants as plain_binary
use Rattle.cyc_plain.specs.declared.instruction.BinaryOperator.TheVariants as plain_binary
use Rattle.cyc_plain.specs.declared.instruction.Comparison.{Comparison}
use Rattle.cyc_plain.specs.declared.instruction.Comparison.TheVariants as comparisons
use Rattle.cyc_plain.specs.declared.instruction.Operand.{Operand}
use Rattle.cyc_plain.specs.declared.instruction.Operand.TheVariants as operands
use Rattle.cyc_plain.specs.declared.instruction.Request.TheVariants as requests
use Rattle.cyc_plain.specs.declared.instruction.Instruction.{Instruction}
use Rattle.cyc_plain.specs.declared.instruction.Instruction.TheVariants as instructions
use Rattle.cyc_plain.specs.inside.Straight.{At, HasAt}
use Rattle.cyc_store.specs.declared.range.TheConstants.{MOST_BLOCK_WORDS, HEAP, UNIQUE}
use Rattle.cyc_meaning.specs.Operators.{array_size, null_exception, division_by_zero, array_bounds}
use Rattle.cyc_meaning.specs.Values.{is_thin, words_of_kind, bytes_of_kind, begins, following, bytes_from, words_for, kind_of}
use Rattle.cyc_lower_proof.specs.declared.exits.Exits.{Exits}
use Rattle.cyc_lower_proof.specs.inside.Slots.{counted, Types, starts_of, slot_of, field_of, global_of}
use Rattle.cyc_lower_proof.specs.inside.ValueCode.{binary_operator, failing_comparison, left_with, next_slot, is_in, move_of, test_jump, converts_there, passed_words, all_passed, kinds_passed, low_byte, after_left, pointer_operator, raising}
use Rattle.cyc_lower_proof.specs.inside.ValueCode.{jump_if_zero, span_of, span_in, followed_operand, scale_of, reached_operand, load_word, store_word, address_of_global, unary_instruction, keeps_words, masks, kind_passed, load_of, store_of, telling}
use Rattle.cyc_lower_proof.specs.inside.ObjectCode.{most_elements, slots_of_kinds}
use Rattle.cyc_lower_proof.specs.inside.ControlCode.{opposite, compared_of, continue_target, null_compared, pointers_failing}
use Rattle.cyc_lower_proof.specs.inside.ExpressionCode.{operand_of, source_of, source_slot, left_of, value_slot, slot_with, left_slot, pointer_of, is_simple}
use Rattle.cyc_lower_proof.proofs.slots.Widths.{given, HasRoom, HasField, HasGlobal, words_in}
use Rattle.cyc_types.specs.declared.typed.UnaryOperator.TheVariants as unary
use Rattle.cyc_meaning.specs.FrameCount.{words_of_all}

-- Holds if the code at p has one instruction for each word of a value. The instruction names the word's index among the
-- words of the globals, and the word's slot.
abbrev pub EachAt : (code : List Instruction) → (each : (global slot : ℕ) → Instruction) → (words first slot p q : ℕ) → Type 0
EachAt code each zero first slot p q = p ≡ q
EachAt code each (suc words) first slot p q = At code p (each first slot) × EachAt code each words (suc first) (suc slot) (p + 1) q

-- Holds if the code at p stores a value of `words` machine words in a global.
abbrev pub GlobalAt : (code : List Instruction) → (words first : ℕ) → Operand → (p q : ℕ) → Type 0
GlobalAt code words first (operands.Slot n) p q = EachAt code store_word words first n p q
GlobalAt code words first (operands.Word n) p q = At code p (instructions.StoreGlobal first (operands.Word n)) × (p + 1 ≡ q)

-- Says that the code moves a value to slot `d`, or that the value is in slot `d` already and no code is needed.
module _ (code : List Instruction) where
  abbrev pub CopyBy : Bool → (words : ℕ) → Operand → (d p q : ℕ) → Type 0
  CopyBy true words o d p q = p ≡ q
  CopyBy false words o d p q = At code p (move_of words d o) × (p + 1 ≡ q)

  abbrev pub CopyAt : (words : ℕ) → Operand → (d p q : ℕ) → Type 0
  CopyAt words o d p q = CopyBy (is_in o d) words o d p q

  -- true if the code at p moves an address to a slot: the word of an operand plus a number of bytes
  abbrev pub AddressAt : Operand → (bytes d p q : ℕ) → Type 0
  AddressAt o zero d p q = CopyAt 1 o d p q
  AddressAt o (suc bytes) d p q = At code p (instructions.Binary plain_binary.Add d o (operands.Word (suc bytes))) × (p + 1 ≡ q)

-- Says that the code at p loads a cell of a kind into slots. The address of the cell is an operand plus a number of bytes. If the cell
-- has several words, the code first moves the address to slot t.
module _ (code : List Instruction) where
  abbrev pub LoadedBy : (narrow : Bool) → Kind → Operand → (bytes d t p q : ℕ) → Type 0
  LoadedBy true kind o bytes d t p q = At code p (load_of kind d o bytes) × (p + 1 ≡ q)
  LoadedBy false kind o bytes d t p q =
      (r : ℕ) × AddressAt code o bytes t p r × At code r (instructions.Load (d + 2) (operands.Slot t) 8) × At code (r + 1) (instructions.Load (d + 1) (operands.Slot t) 4)
      × At code (r + 1 + 1) (instructions.Load d (operands.Slot t) 0) × (r + 1 + 1 + 1 ≡ q)

  abbrev pub LoadedAt : Kind → Operand → (bytes d t p q : ℕ) → Type 0
  LoadedAt kind o bytes d t p q = LoadedBy (words_of_kind kind == 1) kind o bytes d t p q

  -- Holds if the code at p turns the address of a variable's first word into the variable's address. A char
  -- has the address of its word's last byte.
  abbrev pub LastByteAt : Kind → (d p q : ℕ) → Type 0
  LastByteAt kinds.Char d p q = At code p (instructions.Binary plain_binary.Add d (operands.Slot d) (operands.Word 3)) × (p + 1 ≡ q)
  LastByteAt kind d p q = p ≡ q

  -- Holds if the code at position `p` of an `if` statement jumps over the code of its `else` branch, or if the `else` branch has no code.
  abbrev pub OverAt : (p q : ℕ) → Type 0
  OverAt p q = (p ≡ q) ⊎ At code p (instructions.Jump q)

  -- Holds if the code at p declares a local of representation kind `kind` (int, char, pointer, ..) that has no initial value.
  abbrev pub BlankAt : Kind → (slot p q : ℕ) → Type 0
  BlankAt kinds.Char slot p q = At code p (instructions.Move slot (operands.Word 0)) × (p + 1 ≡ q)
  BlankAt kind slot p q = p ≡ q

-- States what instructions must be at the code positions from p to q, in a function with the bounds `bounds` on indices, the
-- local types `types`, and temporaries from slot t on.
module _ (code : List Instruction) (bounds : Numbering) (types : Types) where
  -- The first proposition if the flag is true, otherwise the second proposition.
  abbrev pub EitherBy : Bool → (there otherwise : Type 0) → Type 0
  EitherBy true first second = first
  EitherBy false first second = second

  -- Holds if an expression is a slot or constant that needs no instructions, or if the code at p moves its value to a slot.
  abbrev pub OperandBy : Option Operand → (computed : Type 0) → (slot : ℕ) → Operand → (p q : ℕ) → Type 0
  OperandBy (Some known) computed slot o p q = (o ≡ known) × (p ≡ q)
  OperandBy None computed slot o p q = (o ≡ operands.Slot slot) × computed

  -- Says that the code at p brings a value to slot d. An int that becomes a char is an operand whose low byte is moved. Any other
  -- converted value is moved unchanged.
  abbrev pub BroughtBy : (masking : Bool) → Option Operand → (computed : (r : ℕ) → Type 0) → (slot : ℕ) → (at_once : Type 0) → (d p q : ℕ) → Type 0
  BroughtBy masking known computed slot at_once d p q =
      EitherBy masking ((o : Operand) × (r : ℕ) × OperandBy known (computed r) slot o p r × At code r (low_byte o d) × (r + 1 ≡ q)) at_once

  -- Holds if the right operand is simple (its evaluation has no effect), or if the left operand is in a slot.
  abbrev pub LeftBy : (simple : Bool) → (in_slot : Type 0) → Type 0
  LeftBy true in_slot = Unit {0}
  LeftBy false in_slot = in_slot

  -- Holds if a returned value is in the slots of a local, or if the code at p moves it to slots.
  abbrev pub ReturnedAt : Option Operand → (computed : Type 0) → (slot s : ℕ) → (p q : ℕ) → Type 0
  ReturnedAt (Some (operands.Slot n)) computed slot s p q = (s ≡ n) × (p ≡ q)
  ReturnedAt o computed slot s p q = (s ≡ slot) × computed

  -- Holds if the code at p jumps to the block that raises the exception `tag` if a comparison holds.
  abbrev pub GuardAt : (tag : ℕ) → Comparison → (l r : Operand) → (p q : ℕ) → Type 0
  GuardAt tag failing l r p q = (s : ℕ) × At code p (instructions.Branch failing l r s) × At code s (raising tag) × (p + 1 ≡ q)

  abbrev pub CheckAt : (tag : ℕ) → Operand → (p q : ℕ) → Type 0
  CheckAt tag o p q = GuardAt tag comparisons.Equal o (operands.Word 0) p q

  -- true if the code at p compares an index with a length
  abbrev pub BoundsAt : (index length : Operand) → (p q : ℕ) → Type 0
  BoundsAt index length p q = GuardAt array_bounds comparisons.GreaterOrEqualUnsigned index length p q

  abbrev pub SteppedAt : (span : Option ℕ) → (n m t p q : ℕ) → Type 0
  SteppedAt None n m t p q = p ≡ q
  SteppedAt (Some bytes) n m t p q =
      At code p (scale_of bytes (t + 2) m)
      × At code (p + 1) (instructions.Binary plain_binary.Add t (operands.Slot n) (operands.Slot (t + 2))) × (p + 1 + 1 ≡ q)

  -- Holds if the code at p computes the cell of a converted pointer; `null` states an assumption about the position to
  -- which a null pointer jumps.
  abbrev pub ReachedBy : (null : ℕ → Type 0) → (span : Option ℕ) → (n m t p q : ℕ) → Type 0
  ReachedBy null span n m t p q =
      (r : ℕ) × (s : ℕ) × ((x : ℕ) × At code p (instructions.Branch comparisons.Equal (operands.Slot n) (operands.Word 0) x) × null x × (p + 1 ≡ r))
      × BoundsAt (operands.Slot m) (operands.Slot (n + 1)) r s × SteppedAt span n m t s q

  -- Holds if the code at p multiplies an index by the size of a cell; if `span` has no size, then no code is required.
  abbrev pub ScaledAt : (span : Option ℕ) → (m x p q : ℕ) → Type 0
  ScaledAt None m x p q = p ≡ q
  ScaledAt (Some bytes) m x p q = At code p (scale_of bytes x m) × (p + 1 ≡ q)

  abbrev pub SummedAt : (span : Option ℕ) → (n x t p q : ℕ) → Type 0
  SummedAt None n x t p q = p ≡ q
  SummedAt (Some bytes) n x t p q = At code p (instructions.Binary plain_binary.Add t (operands.Slot n) (operands.Slot x)) × (p + 1 ≡ q)

  -- Says that the code at p compares an index with a length. If the index is within bounds, the code jumps over the instructions that
  -- choose the exception by the pointer's first word.
  abbrev pub InsideAt : (n m p q : ℕ) → Type 0
  InsideAt n m p q =
      At code p (instructions.Branch comparisons.LessUnsigned (operands.Slot m) (operands.Slot (n + 1)) q)
      × At code (p + 1) (instructions.Binary plain_binary.NotEqual (words_of_all types.locals) (operands.Slot n) (operands.Word 0))
      × ((x : ℕ) × At code (p + 2) (instructions.Jump x) × (p + 2 < x) × HasAt code x (telling (words_of_all types.locals))) × (p + 3 ≡ q)

  -- Says that the code at p accesses the target of a fat pointer. The first words of the pointer are in slots n and n + 1, and its index
  -- is in slot m.
  abbrev pub ReachedAt : (span : Option ℕ) → (n m t p q : ℕ) → Type 0
  ReachedAt span n m t p q = (s : ℕ) × (u : ℕ) × ScaledAt span m (t + 3) p s × InsideAt n m s u × SummedAt span n (t + 3) t u q

  -- Holds if the code at p accesses the target of a pointer in an operand.
  abbrev pub FollowedAt : (thin : Bool) → (span : Option ℕ) → Operand → (t p q : ℕ) → Type 0
  FollowedAt true span o t p q = CheckAt null_exception o p q
  FollowedAt false span (operands.Slot n) t p q = ReachedAt span n (n + 2) t p q
  FollowedAt false span (operands.Word w) t p q = ⊥

  abbrev pub TestedAt : (to : Kind) → Operand → (p q : ℕ) → Type 0
  TestedAt kinds.NonNull o p q = CheckAt null_exception o p q
  TestedAt to o p q = p ≡ q

  -- Holds if the code at p converts a thin pointer in slot t to a fat pointer.
  abbrev pub WidenedAt : Operand → (t p q : ℕ) → Type 0
  WidenedAt (operands.Slot n) t p q =
      (n ≡ t) × At code p (instructions.Binary plain_binary.NotEqual (n + 1) (operands.Slot n) (operands.Word 0))
      × At code (p + 1) (instructions.Move (n + 2) (operands.Word 0)) × (p + 2 ≡ q)
  WidenedAt (operands.Word w) t p q = ⊥

  -- Holds if the code at p converts a fat pointer to a thin pointer.
  abbrev pub ThinnedAt : (to : Kind) → (span : Option ℕ) → Operand → (t p q : ℕ) → Type 0
  ThinnedAt kinds.NonNull span (operands.Slot n) t p q = (n ≡ t) × ReachedBy (λ x. At code x (raising null_exception)) span n (n + 2) n p q
  ThinnedAt kinds.Nullable span (operands.Slot n) t p q = (n ≡ t) × ReachedBy (λ x. x ≡ q) span n (n + 2) n p q
  ThinnedAt to span o t p q = ⊥

  abbrev pub ConversionBy : (same : Bool) → (to : Kind) → (span : Option ℕ) → Operand → (t p q : ℕ) → Type 0
  ConversionBy true to span o t p q = TestedAt to o p q
  ConversionBy false kinds.Fat span o t p q = WidenedAt o t p q
  ConversionBy false kinds.Char span o t p q = (o ≡ operands.Slot t) × (p ≡ q)
  ConversionBy false to span o t p q = ThinnedAt to span o t p q

  -- Says that the code at position `p` converts a value in the slots where the value is. If the conversion changes the words of the
  -- value, then the value is in slot `t`. A char that is converted is in slot `t` as well.
  abbrev pub ConversionAt : (from to : Kind) → (span : Option ℕ) → Operand → (t p q : ℕ) → Type 0
  ConversionAt from to span o t p q = ConversionBy (keeps_words from to) to span o t p q

  abbrev pub DivisorAt : Operand → (p q : ℕ) → Type 0
  DivisorAt (operands.Word (suc n)) p q = p ≡ q
  DivisorAt o p q = CheckAt division_by_zero o p q

  abbrev pub CheckedAt : Operator → (d : ℕ) → (l r : Operand) → (p q : ℕ) → Type 0
  CheckedAt o d l r p q = (m : ℕ) × DivisorAt r p m × At code m (instructions.Binary (binary_operator o) d l r) × (m + 1 ≡ q)

  abbrev pub OperatorAt : Operator → (d : ℕ) → (l r : Operand) → (p q : ℕ) → Type 0
  OperatorAt operators.Divide d l r p q = CheckedAt operators.Divide d l r p q
  OperatorAt operators.Remainder d l r p q = CheckedAt operators.Remainder d l r p q
  OperatorAt o d l r p q = At code p (instructions.Binary (binary_operator o) d l r) × (p + 1 ≡ q)

  -- true if the code at p changes the index of a fat pointer in slot t and moves its first two words
  abbrev pub FirstTwoAt : Bool → (t d p q : ℕ) → Type 0
  FirstTwoAt true t d p q = p ≡ q
  FirstTwoAt false t d p q = At code p (instructions.MoveWords d t 2) × (p + 1 ≡ q)

  abbrev pub IndexAt : PointerOperator → (r : Operand) → (t d p q : ℕ) → Type 0
  IndexAt o r t d p q = At code p (instructions.Binary (pointer_operator o) (d + 2) (operands.Slot (t + 2)) r) × FirstTwoAt (t == d) t d (p + 1) q

  -- true if the code at p applies an operator on pointers to a left operand in slot t
  abbrev pub PointerAt : PointerOperator → (r : Operand) → (t d p q : ℕ) → Type 0
  PointerAt pointers.AddFat r t d p q = IndexAt pointers.AddFat r t d p q
  PointerAt pointers.SubtractFat r t d p q = IndexAt pointers.SubtractFat r t d p q
  PointerAt o r t d p q = At code p (instructions.Binary (pointer_operator o) d (operands.Slot t) r) × (p + 1 ≡ q)

  -- true if the code at p moves the number of elements of a fat pointer to slot d
  abbrev pub CountAt : Operand → (d p q : ℕ) → Type 0
  CountAt (operands.Slot n) d p q =
      At code p (instructions.Branch comparisons.LessUnsigned (operands.Slot (n + 1)) (operands.Slot (n + 2)) (p + 3))
      × At code (p + 1) (instructions.Binary plain_binary.Subtract d (operands.Slot (n + 1)) (operands.Slot (n + 2)))
      × At code (p + 2) (instructions.Jump q) × At code (p + 3) (instructions.Move d (operands.Word 0)) × (p + 4 ≡ q)
  CountAt (operands.Word n) d p q = At code p (instructions.Move d (operands.Word 0)) × (p + 1 ≡ q)

  abbrev pub TruthAt : (t d p q : ℕ) → Type 0
  TruthAt t d p q = At code p (instructions.Binary plain_binary.NotEqual d (operands.Slot t) (operands.Word 0)) × (p + 1 ≡ q)

  abbrev pub LoadAt : (words : ℕ) → Lvalue → (d p q : ℕ) → Type 0
  LoadAt words (Local w n) d p q = At code p (move_of words d (operands.Slot (slot_of (starts_of types) n))) × (p + 1 ≡ q)
  LoadAt words (Global n) d p q = (n < length types.globals) × EachAt code load_word words (global_of (starts_of types) n) d p q

  -- Holds if the code at p stores the words of a value from slots to memory, at an address plus an offset.
  abbrev pub StoresAt : Kind → (many address offset slot p q : ℕ) → Type 0
  StoresAt kind zero address offset slot p q = p ≡ q
  StoresAt kind (suc many) address offset slot p q =
      At code p (store_of kind (operands.Slot address) offset (operands.Slot slot)) × StoresAt kind many address (offset + 4) (suc slot) (p + 1) q

  -- Holds if the code at p replaces a number of elements in slot t by the number of words that these elements take.
  abbrev pub SizedAt : Kind → (t p q : ℕ) → Type 0
  SizedAt kinds.Char t p q =
      At code p (instructions.Binary plain_binary.Add t (operands.Slot t) (operands.Word 3))
      × At code (p + 1) (instructions.Binary plain_binary.ShiftRight t (operands.Slot t) (operands.Word 2)) × (p + 1 + 1 ≡ q)
  SizedAt kind t p q = At code p (instructions.Binary plain_binary.Multiply t (operands.Slot t) (operands.Word (words_of_kind kind))) × (p + 1 ≡ q)

  -- Holds if the code at p begins a new array whose length is in slot t.
  abbrev pub BegunAt : (handle : Operand) → Kind → (t p q : ℕ) → Type 0
  BegunAt handle kind t p q =
      (m : ℕ) × (r : ℕ) × GuardAt array_size comparisons.GreaterOrEqualUnsigned (operands.Slot t) (operands.Word (most_elements (bytes_of_kind kind) + 1)) p m
      × At code m (instructions.Move (t + 1) (operands.Slot t)) × At code (m + 1) (instructions.Move (t + 2) (operands.Word 0))
      × SizedAt kind t (m + 1 + 1) r
      × At code r (instructions.Unary plain_unary.Not (t + 3) (operands.Slot t))
      × At code (r + 1) (instructions.Binary plain_binary.Add (t + 3) (operands.Slot (t + 3)) (operands.Slot t))
      × At code (r + 1 + 1) (instructions.Ask (requests.Allocate t handle (operands.Slot (t + 3)))) × (r + 3 ≡ q)

  -- Holds if the code at p writes an element of an array and jumps to the code for the next element.
  abbrev pub FilledAt : Kind → (t head p q : ℕ) → Type 0
  FilledAt kind t head p q =
      (m : ℕ) × At code p (scale_of (bytes_of_kind kind) (t + 3 + words_of_kind kind) (t + 2))
      × At code (p + 1) (instructions.Binary plain_binary.Add (t + 3 + words_of_kind kind) (operands.Slot t) (operands.Slot (t + 3 + words_of_kind kind)))
      × StoresAt kind (words_of_kind kind) (t + 3 + words_of_kind kind) 0 (t + 3) (p + 1 + 1) m
      × At code m (instructions.Binary plain_binary.Add (t + 2) (operands.Slot (t + 2)) (operands.Word 1))
      × At code (m + 1) (instructions.Jump head) × (m + 2 ≡ q)

  -- Says that the code at h fills the elements of an array. The code from h to r tests the loop counter of the array, and the code
  -- from r to s evaluates an element. The code at s runs after the last element.
  abbrev pub ElementsBy : (evaluated : Type 0) → Kind → (t d h r s q : ℕ) → Type 0
  ElementsBy evaluated kind t d h r s q =
      At code h (instructions.Branch comparisons.Equal (operands.Slot (t + 2)) (operands.Slot (t + 1)) s) × (h < s) × evaluated × FilledAt kind t h r s
      × At code s (instructions.Move (t + 2) (operands.Word 0)) × CopyAt code 3 (operands.Slot t) d (s + 1) q

  -- Holds if the words of a stored value are in slots after its address or in a local, or if the value is one word.
  abbrev pub StandsApart : (words address n : ℕ) → Type 0
  StandsApart words address n =
      (words ≡ 1) ⊎ ((address < n) ⊎ ((number : ℕ) × (number < length types.locals) × (slot_of (starts_of types) number ≡ n) × (words ≤ words_in types.locals number)))

  -- true if the code at p stores a value of a kind in the cell whose address is in a slot
  abbrev pub SavedAt : Kind → (address : ℕ) → Operand → (p q : ℕ) → Type 0
  SavedAt kind address (operands.Slot n) p q = StoresAt kind (words_of_kind kind) address 0 n p q × StandsApart (words_of_kind kind) address n
  SavedAt kind address (operands.Word n) p q = At code p (store_of kind (operands.Slot address) 0 (operands.Word n)) × (p + 1 ≡ q)

  -- Says that the code at p stores values, given by the list of their representation kinds (int, char, pointer, ..), from consecutive
  -- slots in cells of the object whose address is in a slot. The cells begin `at` bytes after the object's address.
  abbrev pub CellsAt : List Kind → (address at slot p q : ℕ) → Type 0
  CellsAt [] address at slot p q = p ≡ q
  CellsAt (kind ∷ ks) address at slot p q =
      (r : ℕ) × StoresAt kind (words_of_kind kind) address (begins kind at) slot p r × CellsAt ks address (following kind at) (slot + words_of_kind kind) r q

  -- Says that the code at p creates an object with one cell for each representation kind (int, char, pointer, ..) of a list, from the
  -- values in the slots from t on. The code also moves the address of the new object to slot d.
  abbrev pub ObjectAt : (handle : Operand) → List Kind → (t d p q : ℕ) → Type 0
  ObjectAt handle ks t d p q =
      (m : ℕ) × (0 < length ks) × (slots_of_kinds ks ≤ MOST_BLOCK_WORDS)
      × At code p (instructions.Ask (requests.Allocate (t + slots_of_kinds ks) handle (operands.Word (max 1 (words_for (bytes_from 0 ks))))))
      × CellsAt ks (t + slots_of_kinds ks) 0 t (p + 1) m × At code m (instructions.Move d (operands.Slot (t + slots_of_kinds ks))) × (m + 1 ≡ q)

  -- Holds if the code at p frees the block whose address is in an operand, unless this address is 0.
  abbrev pub FreedAt : Operand → (p q : ℕ) → Type 0
  FreedAt o p q = At code p (jump_if_zero o q) × At code (p + 1) (instructions.Ask (requests.Free o)) × (p + 1 + 1 ≡ q)

module _ (code : List Instruction) (bounds : Numbering) where
  abbrev mutual
    -- Says that the code of an expression is at p; the last instruction of this code moves the value to slot d.
    pub ExpressionAt : (types : Types) → Expression → (d t p q : ℕ) → Type 0
    ExpressionAt types (Number n) d t p q = At code p (instructions.Move d (operands.Word n)) × (p + 1 ≡ q)
    ExpressionAt types NullPointer d t p q = At code p (instructions.Move d (operands.Word 0)) × (p + 1 ≡ q)
    ExpressionAt types HeapRegion d t p q = At code p (instructions.Move d (operands.Word HEAP)) × (p + 1 ≡ q)
    ExpressionAt types (Counter l) d t p q =
        (slot : ℕ) × (slice_get types.counters l ≡ Some slot) × At code p (instructions.Move d (operands.Slot slot)) × (p + 1 ≡ q)
    ExpressionAt types (Copy l ty) d t p q = LoadAt code bounds types (words_of ty) l d p q
    ExpressionAt types (Move w n ty) d t p q = LoadAt code bounds types (words_of ty) (Local w n) d p q
    ExpressionAt types (Peek w n ty) d t p q = LoadAt code bounds types (words_of ty) (Local w n) d p q
    ExpressionAt types (Call callees.Putchar cs ty) d t p q =
        (o : Operand) × (m : ℕ) × PrintedAt types cs t o p m × At code m (instructions.WriteByte o) × At code (m + 1) (low_byte o d) × (m + 1 + 1 ≡ q)
    ExpressionAt types (Call callees.Getchar cs ty) d t p q = (m : ℕ) × ArgumentsAt types cs t p m × At code m (instructions.ReadByte d) × (m + 1 ≡ q)
    ExpressionAt types (Call (callees.Function n) cs ty) d t p q =
        (m : ℕ) × ArgumentsAt types cs t p m × At code m (instructions.Call n t (all_passed cs) d) × (m + 1 ≡ q)
    ExpressionAt types (NumberOfElements a) d t p q =
        (given bounds.functions a ≡ kinds.Fat)
        × (r : Operand) × (m : ℕ) × OperandBy code bounds types (operand_of (starts_of types) a) (ExpressionAt types a (value_slot (starts_of types) a t) t p m) (value_slot (starts_of types) a t) r p m
        × CountAt code bounds types r d m q
    -- Says that a char that is used as an int needs no conversion: the word that represents it is unchanged.
    ExpressionAt types (Unary unary.Widen a) d t p q = (words_of_kind (given bounds.functions a) ≡ 1) × ExpressionAt types a d t p q
    ExpressionAt types (Unary o a) d t p q =
        (r : Operand) × (m : ℕ) × OperandBy code bounds types (operand_of (starts_of types) a) (ExpressionAt types a (value_slot (starts_of types) a t) t p m) (value_slot (starts_of types) a t) r p m
        × At code m (unary_instruction o d r) × (m + 1 ≡ q)
    ExpressionAt types (Binary a os ty) d t p q =
        (l : Operand) × (m : ℕ) × OperandBy code bounds types (left_of (starts_of types) a os) (ExpressionAt types a (left_slot (starts_of types) a os d t) t p m) (left_slot (starts_of types) a os d t) l p m
        × OperationsAt types os l d t m q
    ExpressionAt types (Assign (Local w n) c ty) d t p q =
        (o : Operand) × (m : ℕ) × ((o ≡ operands.Slot (slot_of (starts_of types) n)) × HasRoom types n (kind_passed c) × InitialAt types c (slot_of (starts_of types) n) t p m)
        × CopyAt code (passed_words c) o d m q
    ExpressionAt types (Assign (Global n) c ty) d t p q =
        (o : Operand) × (m : ℕ)
        × ((r : ℕ) × ConvertedOperandAt types c t o p r × HasGlobal types n (kind_passed c) × GlobalAt code (passed_words c) (global_of (starts_of types) n) o r m)
        × CopyAt code (passed_words c) o d m q
    ExpressionAt types (Load x) d t p q =
        (o : Operand) × (c : ℕ) × (r : ℕ) × PlaceAt types x o c t p r × LoadedAt code (kind_of (type_of_place x)) o c d t r q
    ExpressionAt types (FreeUnique a) d t p q =
        (o : Operand) × (m : ℕ) × OperandBy code bounds types (operand_of (starts_of types) a) (ExpressionAt types a (value_slot (starts_of types) a t) t p m) (value_slot (starts_of types) a t) o p m × FreedAt code bounds types o m q
    ExpressionAt types (FreeKey a) d t p q =
        (o : Operand) × (m : ℕ) × OperandBy code bounds types (operand_of (starts_of types) a) (ExpressionAt types a (value_slot (starts_of types) a t) t p m) (value_slot (starts_of types) a t) o p m
        × At code m (instructions.Ask (requests.CloseDynamic o)) × (m + 1 ≡ q)
    ExpressionAt types (New OnHeap i ty) d t p q = MadeAt types i (operands.Word HEAP) d t p q
    ExpressionAt types (New AsUnique i ty) d t p q = MadeAt types i (operands.Word UNIQUE) d t p q
    -- The region handle stays in slot t while the initial values of the new object are evaluated.
    ExpressionAt types (New (ByHandle a) i ty) d t p q = (m : ℕ) × ExpressionAt types a t t p m × MadeAt types i (operands.Slot t) d (suc t) m q
    ExpressionAt types (AddressOf (Local w n) ty) d t p q =
        (v : Ty) × (slice_get types.locals n ≡ Some v) × At code p (instructions.AddressOf d (slot_of (starts_of types) n) (words_of v)) × LastByteAt code (kind_of v) d (p + 1) q
    ExpressionAt types (AddressOf (Global n) ty) d t p q =
        (v : Ty) × (slice_get types.globals n ≡ Some v) × At code p (instructions.Move d (operands.Word (address_of_global (kind_of v) (global_of (starts_of types) n)))) × (p + 1 ≡ q)
    ExpressionAt types (AddressOfCell x ty) d t p q = (o : Operand) × (c : ℕ) × (r : ℕ) × PlaceAt types x o c t p r × AddressAt code o c d r q
    ExpressionAt types (Store x v ty) d t p q =
        (o : Operand) × (m : ℕ)
        × ((a : Operand) × (c : ℕ) × (r : ℕ) × (s : ℕ) × (u : ℕ) × PlaceAt types x a c t p r × AddressAt code a c t r s × ConvertedOperandAt types v (t + 1) o s u
        × SavedAt code bounds types (kind_passed v) t o u m)
        × CopyAt code (passed_words v) o d m q

    -- Says that the code from p to q creates a new object in the region whose handle is the operand `handle`.
    pub MadeAt : (types : Types) → Initial → (handle : Operand) → (d t p q : ℕ) → Type 0
    MadeAt types (Plain kind a) handle d t p q =
        (m : ℕ) × ExpressionAt types a t t p m × (given bounds.functions a ≡ kind) × ObjectAt code bounds types handle (kind ∷ []) t d m q
    MadeAt types (Fields cs) handle d t p q = (m : ℕ) × ArgumentsAt types cs t p m × ObjectAt code bounds types handle (kinds_passed cs) t d m q
    MadeAt types (Array w level n kind a) handle d t p q =
        (m : ℕ) × (h : ℕ) × (r : ℕ) × (s : ℕ) × ExpressionAt types n t t p m × BegunAt code bounds types handle kind t m h
        × (level ≡ length types.counters)
        × ElementsBy code bounds types (ExpressionAt (counted types (t + 2)) a (t + 3) (t + 3) (h + 1) r) kind t d h r s q

    -- Says that the code moves the address of a memory access to an operand; c is a number of bytes that is yet to be added.
    pub PlaceAt : (types : Types) → Dereference → Operand → (c t p q : ℕ) → Type 0
    PlaceAt types (Target k a ty) o c t p q =
        (x : Operand) × (m : ℕ) × OperandBy code bounds types (operand_of (starts_of types) a) (ExpressionAt types a (value_slot (starts_of types) a t) t p m) (value_slot (starts_of types) a t) x p m
        × FollowedAt code bounds types (is_thin k) (span_in ty) x t m q × (o ≡ followed_operand (is_thin k) (span_in ty) x t) × (c ≡ 0)
    PlaceAt types (Member k a s f ty) o c t p q =
        (m : ℕ) × OperandBy code bounds types (operand_of (starts_of types) a) (ExpressionAt types a (value_slot (starts_of types) a t) t p m) (value_slot (starts_of types) a t) o p m
        × (is_thin k ≡ true) × CheckAt code bounds types null_exception o m q × HasField types s f × (c ≡ field_of (starts_of types) s f)
    PlaceAt types (Element a i ty) o c t p q =
        (n : ℕ) × (x : Operand) × (m : ℕ) × (r : ℕ) × ReturnedAt code bounds types (pointer_of (starts_of types) a i) (ExpressionAt types a t t p m) t n p m
        × OperandBy code bounds types (operand_of (starts_of types) i) (ExpressionAt types i (value_slot (starts_of types) i (t + 3)) (t + 3) m r) (value_slot (starts_of types) i (t + 3)) x m r
        × At code r (instructions.Binary plain_binary.Add (t + 2) (operands.Slot (n + 2)) x) × ReachedAt code bounds types (span_in ty) n (t + 2) t (r + 1) q
        × (o ≡ reached_operand (span_in ty) n t) × (c ≡ 0)

    -- Says that the code moves a converted value to slot d.
    pub InitialAt : (types : Types) → Converted → (d t p q : ℕ) → Type 0
    InitialAt types (Convert from to a) d t p q =
        EitherBy code bounds types (converts_there from to) ((words_of_kind (given bounds.functions a) ≡ words_of_kind to) × BroughtBy code bounds types (masks from to) (operand_of (starts_of types) a) (λ r. ExpressionAt types a (value_slot (starts_of types) a t) t p r) (value_slot (starts_of types) a t) (ExpressionAt types a d t p q) d p q)
        ((o : Operand) × (m : ℕ) × (r : ℕ)
        × OperandBy code bounds types (source_of (starts_of types) (Convert from to a)) (BroughtBy code bounds types (masks from to) (operand_of (starts_of types) a) (λ r. ExpressionAt types a (value_slot (starts_of types) a t) t p r) (value_slot (starts_of types) a t) (ExpressionAt types a (source_slot (starts_of types) (Convert from to a) t) t p m) (source_slot (starts_of types) (Convert from to a) t) p m) (source_slot (starts_of types) (Convert from to a) t) o p m
        × ConversionAt code bounds types from to (span_of a) o t m r × At code r (move_of (words_of_kind to) d o) × (r + 1 ≡ q))

    -- Says that the code moves a value to slot `t` and converts the value in this slot.
    pub ConvertedAt : (types : Types) → Converted → (t p q : ℕ) → Type 0
    ConvertedAt types (Convert from to a) t p q = (m : ℕ) × BroughtBy code bounds types (masks from to) (operand_of (starts_of types) a) (λ r. ExpressionAt types a (value_slot (starts_of types) a t) t p r) (value_slot (starts_of types) a t) (ExpressionAt types a t t p m) t p m × ConversionAt code bounds types from to (span_of a) (operands.Slot t) t m q

    -- Says that the code converts a value in place, in the operand that holds it.
    pub ConvertedOperandAt : (types : Types) → Converted → (t : ℕ) → Operand → (p q : ℕ) → Type 0
    ConvertedOperandAt types (Convert from to a) t o p q =
        (m : ℕ) × OperandBy code bounds types (source_of (starts_of types) (Convert from to a)) (BroughtBy code bounds types (masks from to) (operand_of (starts_of types) a) (λ r. ExpressionAt types a (value_slot (starts_of types) a t) t p r) (value_slot (starts_of types) a t) (ExpressionAt types a (source_slot (starts_of types) (Convert from to a) t) t p m) (source_slot (starts_of types) (Convert from to a) t) p m) (source_slot (starts_of types) (Convert from to a) t) o p m
        × ConversionAt code bounds types from to (span_of a) o t m q

    -- Says that the code evaluates the only argument of `putchar`.
    pub PrintedAt : (types : Types) → Arguments → (t : ℕ) → Operand → (p q : ℕ) → Type 0
    PrintedAt types (MoreArguments c NoArguments) t o p q = ConvertedOperandAt types c t o p q
    PrintedAt types cs t o p q = ⊥

    pub ArgumentsAt : (types : Types) → Arguments → (t p q : ℕ) → Type 0
    ArgumentsAt types NoArguments t p q = p ≡ q
    ArgumentsAt types (MoreArguments c cs) t p q = (m : ℕ) × ConvertedAt types c t p m × ArgumentsAt types cs (t + passed_words c) m q

    -- Says that the code applies operators to the left operand l. For an operator whose left operand must not be a constant or
    -- the slot of a local, l is slot t.
    pub OperationsAt : (types : Types) → Operations → (l : Operand) → (d t p q : ℕ) → Type 0
    OperationsAt types NoOperations l d t p q = (l ≡ operands.Slot d) × (p ≡ q)
    OperationsAt types (ThenCompute o a os) l d t p q =
        (r : Operand) × (m : ℕ) × (s : ℕ)
        × OperandBy code bounds types (operand_of (starts_of types) a) (LeftBy code bounds types (is_simple (starts_of types) a) (l ≡ operands.Slot t) × ExpressionAt types a (value_slot (starts_of types) a (suc t)) (suc t) p m) (value_slot (starts_of types) a (suc t)) r p m
        × OperatorAt code bounds types o (next_slot os d t) l r m s × OperationsAt types os (operands.Slot (next_slot os d t)) d t s q
    OperationsAt types (ThenTest o a os) l d t p q =
        (m : ℕ) × (r : ℕ) × (l ≡ operands.Slot t) × At code p (test_jump o t m) × ExpressionAt types a t t (p + 1) m × TruthAt code bounds types t (next_slot os d t) m r
        × OperationsAt types os (operands.Slot (next_slot os d t)) d t r q
    OperationsAt types (ThenPointer o a os) l d t p q =
        (r : Operand) × (m : ℕ) × (s : ℕ) × (l ≡ operands.Slot t)
        × OperandBy code bounds types (operand_of (starts_of types) a) (ExpressionAt types a (value_slot (starts_of types) a (after_left o t)) (after_left o t) p m) (value_slot (starts_of types) a (after_left o t)) r p m
        × PointerAt code bounds types o r t (next_slot os d t) m s × OperationsAt types os (operands.Slot (next_slot os d t)) d t s q
    OperationsAt types (ThenPointerPeek n o a os) l d t p q =
        (r : Operand) × (m : ℕ) × (s : ℕ) × (l ≡ operands.Slot t)
        × OperandBy code bounds types (operand_of (starts_of types) a) (ExpressionAt types a (value_slot (starts_of types) a (after_left o t)) (after_left o t) p m) (value_slot (starts_of types) a (after_left o t)) r p m
        × PointerAt code bounds types o r t (next_slot os d t) m s × OperationsAt types os (operands.Slot (next_slot os d t)) d t s q

module _ (code : List Instruction) (bounds : Numbering) (types : Types) where
  -- Says that the code fills the elements of an array, each of which is the value of one expression `a`.
  abbrev pub ElementsAt : Expression → Kind → (t d h r s q : ℕ) → Type 0
  ElementsAt a kind t d h r s q = ElementsBy code bounds types (ExpressionAt code bounds (counted types (t + 2)) a (t + 3) (t + 3) (h + 1) r) kind t d h r s q

  -- Says that the code moves a value to slot d before its conversion; for an int that becomes a char, it moves only the low byte.
  abbrev pub BroughtAt : Converted → (d t p q : ℕ) → Type 0
  BroughtAt (Convert from to a) d t p q =
      BroughtBy code bounds types (masks from to) (operand_of (starts_of types) a) (λ r. ExpressionAt code bounds types a (value_slot (starts_of types) a t) t p r) (value_slot (starts_of types) a t) (ExpressionAt code bounds types a d t p q) d p q

  -- Says that the code moves a value to slot d; the flag tells if the value is in slot d before its conversion.
  abbrev pub InitialBy : Bool → (from to : Kind) → Expression → (d t p q : ℕ) → Type 0
  InitialBy there from to a d t p q =
      EitherBy code bounds types there ((words_of_kind (given bounds.functions a) ≡ words_of_kind to) × BroughtAt (Convert from to a) d t p q)
      ((o : Operand) × (m : ℕ) × (r : ℕ)
      × OperandBy code bounds types (source_of (starts_of types) (Convert from to a)) (BroughtAt (Convert from to a) (source_slot (starts_of types) (Convert from to a) t) t p m) (source_slot (starts_of types) (Convert from to a) t) o p m
      × ConversionAt code bounds types from to (span_of a) o t m r × At code r (move_of (words_of_kind to) d o) × (r + 1 ≡ q))

  -- Says that the code evaluates an expression whose value is then available in a slot or as a constant.
  abbrev pub ValueAt : Expression → (t : ℕ) → Operand → (p q : ℕ) → Type 0
  ValueAt a t o p q = OperandBy code bounds types (operand_of (starts_of types) a) (ExpressionAt code bounds types a (value_slot (starts_of types) a t) t p q) (value_slot (starts_of types) a t) o p q

  -- Says that the code evaluates the second of two compared operands; l is the first operand.
  abbrev pub SecondAt : Expression → (l r : Operand) → (t p q : ℕ) → Type 0
  SecondAt a l r t p q =
      OperandBy code bounds types (operand_of (starts_of types) a) (LeftBy code bounds types (is_simple (starts_of types) a) (l ≡ operands.Slot t) × ExpressionAt code bounds types a (value_slot (starts_of types) a (suc t)) (suc t) p q) (value_slot (starts_of types) a (suc t)) r p q

  abbrev pub PairAt : (a b : Expression) → (l r : Operand) → (t p q : ℕ) → Type 0
  PairAt a b l r t p q =
      (m : ℕ) × OperandBy code bounds types (left_with (is_simple (starts_of types) b) (operand_of (starts_of types) a)) (ExpressionAt code bounds types a (slot_with (starts_of types) (is_simple (starts_of types) b) a t) t p m) (slot_with (starts_of types) (is_simple (starts_of types) b) a t) l p m
      × SecondAt b l r t m q

  abbrev pub ConditionAt : Expression → (l r : Operand) → (t p q : ℕ) → Type 0
  ConditionAt a l r t p q = PairAt (compared_of a).left (compared_of a).right l r t p q

  -- Says that a jump compares two operands; control goes to f if a condition fails and to h if it holds.
  abbrev pub ForkAt : Comparison → (l r : Operand) → (p f h : ℕ) → Type 0
  ForkAt failing l r p f h =
      (At code p (instructions.Branch failing l r f) × (p + 1 ≡ h)) ⊎ (At code p (instructions.Branch (opposite failing) l r h) × (p + 1 ≡ f))

  -- Says that a jump compares two operands and that each of its two targets has the required code.
  abbrev pub Forks : Comparison → (l r : Operand) → (p : ℕ) → (goes : (fails : Bool) → (p : ℕ) → Type 0) → Type 0
  Forks failing l r p goes = (f : ℕ) × (h : ℕ) × ForkAt failing l r p f h × goes true f × goes false h

  -- Says that the code of a condition compares two operands and jumps to f if the condition fails, and to h if it holds.
  abbrev pub ComparedAt : Expression → (f h t p : ℕ) → Type 0
  ComparedAt a f h t p = (l : Operand) × (r : Operand) × (m : ℕ) × ConditionAt a l r t p m × ForkAt (compared_of a).failing l r m f h

  -- The positions to which a condition jumps: f if it fails, and h if it holds.
  abbrev pub Ends : (f h : ℕ) → (fails : Bool) → (p : ℕ) → Type 0
  Ends f h true p = p ≡ f
  Ends f h false p = p ≡ h

  -- The code of a condition jumps to f if the condition fails, and to h if it holds. The condition is a single comparison, or its operands
  -- are conditions in turn.
  abbrev mutual
    pub BranchesAt : Expression → (f h t p : ℕ) → Type 0
    BranchesAt (Unary unary.Not a) f h t p = ComparedAt (Unary unary.Not a) f h t p ⊎ BranchesAt a h f t p
    BranchesAt (Binary a (ThenTest u b os) ty) f h t p =
        ComparedAt (Binary a (ThenTest u b os) ty) f h t p
        ⊎ ((x : ℕ) × (y : ℕ) × BranchesAt a x y t p × TestsAt (ThenTest u b os) true t x (Ends f h) × TestsAt (ThenTest u b os) false t y (Ends f h))
    BranchesAt a f h t p = ComparedAt a f h t p

    -- Says what code follows a left operand of `&&` or `||` whose outcome is decided: either this outcome
    -- decides the result, or the right operand is evaluated.
    pub TestsAt : Operations → (fails : Bool) → (t p : ℕ) → (goes : (fails : Bool) → (p : ℕ) → Type 0) → Type 0
    TestsAt NoOperations fails t p goes = goes fails p
    TestsAt (ThenTest logical.AndThen b os) true t p goes = TestsAt os true t p goes
    TestsAt (ThenTest logical.OrElse b os) false t p goes = TestsAt os false t p goes
    TestsAt (ThenTest logical.AndThen b os) false t p goes =
        (f : ℕ) × (h : ℕ) × BranchesAt b f h t p × TestsAt os true t f goes × TestsAt os false t h goes
    TestsAt (ThenTest logical.OrElse b os) true t p goes =
        (f : ℕ) × (h : ℕ) × BranchesAt b f h t p × TestsAt os true t f goes × TestsAt os false t h goes
    TestsAt os fails t p goes = ⊥

  -- Says that a loop, with the targets of `break` and `continue` in `exits` and with a body at position `body`, begins with one of
  -- two pieces of code. It tests the condition and goes to the body or to the exit, or it jumps to the condition after the body.
  abbrev pub EntryAt : Expression → Exits → (body t test : ℕ) → Type 0
  EntryAt a exits body t test =
      BranchesAt a exits.leaving body t (continue_target exits)
      ⊎ (At code (continue_target exits) (instructions.Jump test) × (continue_target exits < test))

  -- Says that a condition has only one pointer operator, which compares the left operand with null or with the right operand.
  abbrev pub PointersAt : PointerOperator → Expression → Comparison → (l r : Operand) → (t p q : ℕ) → Type 0
  PointersAt o b failing l r t p q =
      ((null_compared o b ≡ Some failing) × (r ≡ operands.Word 0) × (p ≡ q)) ⊎ ((pointers_failing o ≡ Some failing) × SecondAt b l r t p q)

  -- Says that the only operator of a condition compares the left operand with the right operand.
  abbrev pub ComparesAt : Operations → Comparison → (l r : Operand) → (t p q : ℕ) → Type 0
  ComparesAt (ThenCompute o b NoOperations) failing l r t p q = (failing_comparison o ≡ Some failing) × SecondAt b l r t p q
  ComparesAt (ThenPointer o b NoOperations) failing l r t p q = PointersAt o b failing l r t p q
  ComparesAt (ThenPointerPeek n o b NoOperations) failing l r t p q = PointersAt o b failing l r t p q
  ComparesAt os failing l r t p q = ⊥

  -- Says that the code moves the assigned value to its variable, and that the value is available afterwards in a slot or as a constant.
  abbrev pub AssignmentAt : Lvalue → Converted → Operand → (t p q : ℕ) → Type 0
  AssignmentAt (Local w n) c o t p q = (o ≡ operands.Slot (slot_of (starts_of types) n)) × HasRoom types n (kind_passed c) × InitialAt code bounds types c (slot_of (starts_of types) n) t p q
  AssignmentAt (Global n) c o t p q =
      (r : ℕ) × ConvertedOperandAt code bounds types c t o p r × HasGlobal types n (kind_passed c) × GlobalAt code (passed_words c) (global_of (starts_of types) n) o r q

  -- Says that the code stores a value in a cell whose address is in slot t, and that the value is available afterwards
  -- in a slot or as a constant.
  abbrev pub StoredAt : Dereference → Converted → (t : ℕ) → Operand → (p q : ℕ) → Type 0
  StoredAt x v t o p q =
      (a : Operand) × (c : ℕ) × (r : ℕ) × (s : ℕ) × (u : ℕ) × PlaceAt code bounds types x a c t p r × AddressAt code a c t r s × ConvertedOperandAt code bounds types v (t + 1) o s u
      × SavedAt code bounds types (kind_passed v) t o u q
