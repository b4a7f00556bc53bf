-- This file proves that the code of values, pointers, memory accesses and objects refers only to slots, globals
-- and code positions that exist.
use Rattle.std.proofs.Common.{◌≡◌, ℕ, zero, suc, ◌+◌, ◌≤◌, ◌<◌, Bool, true, false, List, [], ◌∷◌, ◌++◌, length, Option, None, Some, slice_get, refl, sym, ap, subst, ◌∙◌, arith, length-append, inl, inr}
use Rattle.std.specs.List.{AllByRecursion}
use Rattle.cyc_types.specs.declared.typed.Kind.{Kind}
use Rattle.cyc_types.specs.declared.typed.Kind.TheVariants as kinds
use Rattle.cyc_types.specs.declared.typed.Operator.{Operator}
use Rattle.cyc_types.specs.declared.typed.Operator.TheVariants as operators
use Rattle.cyc_types.specs.declared.typed.PointerOperator.{PointerOperator}
use Rattle.cyc_types.specs.declared.typed.PointerOperator.TheVariants as pointers
use Rattle.cyc_types.specs.declared.typed.UnaryOperator.{UnaryOperator}
use Rattle.cyc_types.specs.declared.typed.UnaryOperator.TheVariants as unary
use Rattle.cyc_types.specs.declared.typed.LogicalOperator.{LogicalOperator}
use Rattle.cyc_types.specs.declared.typed.LogicalOperator.TheVariants as logical
use Rattle.cyc_types.specs.Types.{Ty, words_of}
use Rattle.cyc_types.specs.TypedTrees.{Dereference, Target, Lvalue, Local, Global, Expression, Converted, Convert, type_of, Signature, Member, Element}
use Rattle.cyc_types.specs.Numbered.{Numbering}
use Rattle.cyc_plain.specs.declared.instruction.Comparison.{Comparison}
use Rattle.cyc_plain.specs.declared.instruction.Comparison.TheVariants as comparisons
use Rattle.cyc_plain.specs.declared.instruction.BinaryOperator.{BinaryOperator as PlainBinary}
use Rattle.cyc_plain.specs.declared.instruction.BinaryOperator.TheVariants as plain_binary
use Rattle.cyc_plain.specs.declared.instruction.Operand.{Operand}
use Rattle.cyc_plain.specs.declared.instruction.Operand.TheVariants as operands
use Rattle.cyc_plain.specs.declared.instruction.Instruction.{Instruction}
use Rattle.cyc_plain.specs.declared.instruction.Instruction.TheVariants as instructions
use Rattle.cyc_plain.specs.inside.Program.{Routine, Program as PlainProgram}
use Rattle.cyc_plain.specs.inside.WellFormed.{IsOperand}
use Rattle.std.specs.Prelude.{◌==◌, max, if◌then◌else◌, ◌⊎◌}
use Rattle.cyc_words.proofs.Lists.{all_append}
use Rattle.cyc_meaning.specs.Operators.{null_exception, division_by_zero, array_bounds, array_size}
use Rattle.cyc_meaning.specs.Values.{kind_of, words_of_kind, begins, following as cell_end, is_thin, is_kind, bytes_of_kind}
use Rattle.cyc_meaning.specs.FrameCount.{operand_words, converted_words, expression_need, dereference_need, place_words}
use Rattle.cyc_meaning.specs.Pointers.{result_kind as operator_kind}
use Rattle.cyc_lower_proof.specs.inside.Slots.{starts_of, slot_of, Types, global_of}
use Rattle.cyc_lower_proof.specs.inside.ValueCode.{converts_there, passed_words, moved_by, move_of, binary_operator, operand_or, code_unless, slot_or, code_unless_slot, left_with, check_code, conversion_code, divisor_code, checked_code}
use Rattle.cyc_lower_proof.specs.inside.ValueCode.{operator_code, truth_code, test_code, copy_code, pointer_operator, left_kind, after_left, pointer_code, index_code, pointer_instructions, address_code, addressed_by, guard_code, count_code}
use Rattle.cyc_lower_proof.specs.inside.ValueCode.{span_of, tested_code, widened_code, conversion_by, bounds_code, stepped_code, scaled_code, summed_code, bounded_code, thinned_code, reached_code, followed_code, followed_operand, span_in}
use Rattle.cyc_lower_proof.specs.inside.ValueCode.{reached_operand, word_by_word, load_word, store_word, global_code, keeps_words, scale_of, load_of, store_of, kind_passed, unary_instruction, last_byte_code, blank_code, masked_by, low_byte, inside_code}
use Rattle.cyc_lower_proof.specs.inside.ObjectCode.{stores_code, cells_code, slots_of_kinds, object_code, free_code, saved_code, measured_code, sized_code, asked_code, begun_code, filled_code, most_elements}
use Rattle.cyc_lower_proof.specs.inside.ExpressionCode.{source_of, source_slot, operand_of, value_slot, value_operand, converted_operand, load_code, expression_code, brought_code, converted_operand_code, place_operand, place_offset, place_code, pointer_slot, is_simple}
use Rattle.cyc_lower_proof.specs.inside.Lowering.{results_of, store_address_code, store_code}
use Rattle.cyc_lower_proof.proofs.slots.Widths.{kind_positive, kind_few, type_words, words_in, wide_kind, same_kind, more_words, HasGlobal, changes_words, passed_is}
use Rattle.cyc_lower_proof.proofs.relation.code.Fitting.{FitsPlace, FitsCell, Fits, FitsConverted}
use Rattle.cyc_lower_proof.specs.inside.Lowerable.{is_converted, is_pointer}
use Rattle.cyc_lower_proof.proofs.emission.Lengths.{past_long}
use Rattle.cyc_lower_proof.proofs.value_steps.ValueWords.{as_wide}
use Rattle.cyc_lower_proof.proofs.slots.Slots.{words_positive, global-room, global-inside}
use Rattle.cyc_lower_proof.proofs.sizes.RangeLemmas.{operand_positive, IsKnown, AreGlobals, IsIn, HasEnd}
use Rattle.cyc_plain.specs.declared.instruction.UnaryOperator.TheVariants as plain_unary
use Rattle.cyc_plain.specs.declared.instruction.Request.TheVariants as requests
use Rattle.cyc_lower_proof.proofs.sizes.ValueRoom.{kind_at, HasOperand, operand_in, given_needs, slot_fits, value_room, value_in, source_fits, less_operand, brought_room, converted_room}

module _ (program : PlainProgram) (r : Routine) (b : Numbering) (types : Types) (locals : (n : ℕ) → n < b.locals → slot_of (starts_of types) n + words_in types.locals n ≤ r.slots) (levels : (l slot : ℕ) → slice_get types.counters l ≡ Some slot → slot < r.slots) (globals : AreGlobals program types.globals) (called : (n : ℕ) (s : Signature) → slice_get b.functions n ≡ Some s → IsKnown program n s) (results : r.results ≡ results_of b.result) (following : HasEnd r types) where
  abbrev pub AreIn : List Instruction → Type 0
  AreIn code = AllByRecursion (IsIn program r types.locals) code

  pub append : (x y : List Instruction) → AreIn x → AreIn y → AreIn (x ++ y)
  append x y first rest = all_append (IsIn program r types.locals) x y first rest

  -- If code is omitted because an operand needs no code, then nothing must be shown about the slots and
  -- positions to which this code would refer.
  pub unless_in : (known : Option Operand) (x : List Instruction) (p : ℕ) → p + length (code_unless known x) < length r.code → (p + length x < length r.code → AreIn x) → AreIn (code_unless known x)
  unless_in (Some o) x p short inside = tt
  unless_in None x p short inside = inside short

  pub unless_slot_in : (known : Option Operand) (x : List Instruction) (p : ℕ) → p + length (code_unless_slot known x) < length r.code → (p + length x < length r.code → AreIn x) → AreIn (code_unless_slot known x)
  unless_slot_in (Some (operands.Slot n)) x p short inside = tt
  unless_slot_in (Some (operands.Word n)) x p short inside = inside short
  unless_slot_in None x p short inside = inside short

  -- The code that moves a value is in range, that is, it refers only to existing slots.
  pub move_in : (kind : Kind) (d : ℕ) (o : Operand) → d + words_of_kind kind ≤ r.slots → HasOperand r b types locals levels o (words_of_kind kind) → IsIn program r types.locals (move_of (words_of_kind kind) d o)
  move_in kind d (operands.Word w) room inside = (omega (arith, room, kind_positive kind), tt)
  move_in kind d (operands.Slot n) room inside = by (words_of_kind kind == 1)
    where
      by : (one : Bool) → IsIn program r types.locals (if one then instructions.Move d (operands.Slot n) else instructions.MoveWords d n (words_of_kind kind))
      by true = (omega (arith, room, kind_positive kind), omega (arith, inside, kind_positive kind))
      by false = record { some = kind_positive kind; few = kind_few kind; destination_in_range = room; source_in_range = inside }

  guard_in : (tag : ℕ) (failing : Comparison) (o m : Operand) → tag ≤ 4 → IsOperand r o → IsOperand r m → AreIn (guard_code (starts_of types) tag failing o m)
  guard_in tag failing o m few left right = ((left, right, omega (arith, few, following.0)), tt)

  pub free_in : (o : Operand) (p : ℕ) → IsOperand r o → p + 2 < length r.code → AreIn (free_code o p)
  free_in o p inside short = ((inside, tt, short), (record { answer_in_range = omega arith; first_in_range = inside; second_in_range = tt }, tt))

  pub check_in : (tag : ℕ) (o : Operand) → tag ≤ 4 → IsOperand r o → AreIn (check_code (starts_of types) tag o)
  check_in tag o few inside = guard_in tag comparisons.Equal o (operands.Word 0) few inside tt

  bounds_in : (index bound : Operand) → IsOperand r index → IsOperand r bound → AreIn (bounds_code (starts_of types) index bound)
  bounds_in index bound first second = guard_in array_bounds comparisons.GreaterOrEqualUnsigned index bound (omega arith) first second

  scale_in : (bytes d m : ℕ) → d < r.slots → m < r.slots → IsIn program r types.locals (scale_of bytes d m)
  scale_in bytes d m room index = by (bytes == 4) (bytes == 1)
    where
      by : (narrow one : Bool)
          → IsIn program r types.locals (if narrow then instructions.Binary plain_binary.ShiftLeft d (operands.Slot m) (operands.Word 2) else if one then instructions.Move d (operands.Slot m) else instructions.Binary plain_binary.Multiply d (operands.Slot m) (operands.Word 12))
      by true one = (room, index, tt)
      by false true = (room, index)
      by false false = (room, index, tt)

  stepped_in : (span : Option ℕ) (n m t : ℕ) → n < r.slots → m < r.slots → t + 3 ≤ r.slots → AreIn (stepped_code span n m t)
  stepped_in None n m t first index room = tt
  stepped_in (Some bytes) n m t first index room = (scale_in bytes (t + 2) m (omega (arith, room)) index, ((omega (arith, room), first, omega (arith, room)), tt))

  bounded_in : (span : Option ℕ) (n m t : ℕ) → n + 2 ≤ r.slots → m < r.slots → t + 3 ≤ r.slots → AreIn (bounded_code (starts_of types) span n m t)
  bounded_in span n m t first index room =
      append (bounds_code (starts_of types) (operands.Slot m) (operands.Slot (n + 1))) (stepped_code span n m t) (bounds_in (operands.Slot m) (operands.Slot (n + 1)) index (omega (arith, first))) (stepped_in span n m t (omega (arith, first)) index room)

  scaled_in : (span : Option ℕ) (m x : ℕ) → m < r.slots → x < r.slots → AreIn (scaled_code span m x)
  scaled_in None m x index room = tt
  scaled_in (Some bytes) m x index room = (scale_in bytes x m room index, tt)

  summed_in : (span : Option ℕ) (n x t : ℕ) → n < r.slots → x < r.slots → t < r.slots → AreIn (summed_code span n x t)
  summed_in None n x t first distance room = tt
  summed_in (Some bytes) n x t first distance room = ((room, first, distance), tt)

  inside_in : (n m p : ℕ) → n + 2 ≤ r.slots → m < r.slots → p + 3 < length r.code → AreIn (inside_code (starts_of types) n m p)
  inside_in n m p first index short = ((index, omega (arith, first), omega (arith, short)), ((following.1, omega (arith, first), tt), (omega (arith, following.0), tt)))

  pub reached_in : (span : Option ℕ) (n m t p : ℕ) → n + 2 ≤ r.slots → m < r.slots → t + 3 < r.slots → p + length (reached_code (starts_of types) span n m t p) < length r.code → AreIn (reached_code (starts_of types) span n m t p)
  reached_in span n m t p first index room short =
      let scaled = scaled_code span m (t + 3) in
      let s = p + length scaled in
      let inside = inside_code (starts_of types) n m s in
      let summed = summed_code span n (t + 3) t in
      append scaled (inside ++ summed) (scaled_in span m (t + 3) index room)
      (append inside summed (inside_in n m s first index (omega (arith, short, length-append scaled (inside ++ summed)))) (summed_in span n (t + 3) t (omega (arith, first)) room (omega (arith, room))))

  pub followed_in : (k : Kind) (thin : Bool) (span : Option ℕ) (o : Operand) (t p : ℕ) → is_thin k ≡ thin → is_pointer k ≡ true → HasOperand r b types locals levels o (words_of_kind k) → t + words_of_kind k < r.slots
      → p + length (followed_code (starts_of types) thin span o t p) < length r.code → AreIn (followed_code (starts_of types) thin span o t p)
  followed_in k true span o t p is pointer inside room short = check_in null_exception o (omega arith) (operand_in r b types locals levels o k inside)
  followed_in k false span (operands.Word w) t p is pointer inside room short = check_in null_exception (operands.Word w) (omega arith) tt
  followed_in k false span (operands.Slot n) t p is pointer inside room short =
      let fat : k ≡ kinds.Fat = same_kind k kinds.Fat (ap (λ (b : Bool). if b then true else is_kind k kinds.Fat) (sym is) ∙ pointer) in
      let three = ap words_of_kind fat in
      reached_in span n (n + 2) t p (omega (arith, inside, three)) (omega (arith, inside, three)) (omega (arith, room, three)) short

  followed_operand_in : (thin : Bool) (span : Option ℕ) (o : Operand) (t : ℕ) → IsOperand r o → t < r.slots → IsOperand r (followed_operand thin span o t)
  followed_operand_in true span o t inside room = inside
  followed_operand_in false None (operands.Slot n) t inside room = inside
  followed_operand_in false (Some words) (operands.Slot n) t inside room = room
  followed_operand_in false span (operands.Word w) t inside room = inside

  tested_in : (to : Kind) (o : Operand) → IsOperand r o → AreIn (tested_code (starts_of types) to o)
  tested_in kinds.NonNull o inside = check_in null_exception o (omega arith) inside
  tested_in to o inside = tt

  widened_in : (o : Operand) → HasOperand r b types locals levels o 3 → AreIn (widened_code o)
  widened_in (operands.Slot n) inside = ((omega (arith, inside), omega (arith, inside), tt), ((omega (arith, inside), tt), tt))
  widened_in (operands.Word w) inside = tt

  thinned_in : (to : Kind) (span : Option ℕ) (o : Operand) (p : ℕ) → HasOperand r b types locals levels o 3 → p + length (thinned_code (starts_of types) to span o p) < length r.code → AreIn (thinned_code (starts_of types) to span o p)
  thinned_in kinds.NonNull span (operands.Slot n) p inside short =
      append (check_code (starts_of types) null_exception (operands.Slot n)) (bounded_code (starts_of types) span n (n + 2) n) (check_in null_exception (operands.Slot n) (omega arith) (omega (arith, inside)))
      (bounded_in span n (n + 2) n (omega (arith, inside)) (omega (arith, inside)) inside)
  thinned_in kinds.Nullable span (operands.Slot n) p inside short = ((omega (arith, inside), tt, omega (arith, short, past_long (starts_of types) span n (n + 2) n)), bounded_in span n (n + 2) n (omega (arith, inside)) (omega (arith, inside)) inside)
  thinned_in to span o p inside short = tt

  -- Converting a fat pointer needs slots for three words.
  conversion_by_in : (same : Bool) (to : Kind) (span : Option ℕ) (o : Operand) (p words : ℕ) → words_of_kind to ≤ words → (same ≡ false → (to ≡ kinds.Char) ⊎ (3 ≤ words)) → HasOperand r b types locals levels o words
      → p + length (conversion_by (starts_of types) same to span o p) < length r.code → AreIn (conversion_by (starts_of types) same to span o p)
  conversion_by_in true to span o p words least three inside short = tested_in to o (operand_in r b types locals levels o to (less_operand r b types locals levels o words (words_of_kind to) least inside))
  conversion_by_in false kinds.Char span o p words least three inside short = tt
  conversion_by_in false kinds.Fat span o p words least three inside short = widened_in o (less_operand r b types locals levels o words 3 least inside)
  conversion_by_in false to span o p words least three inside short = elim (three refl) [
    | inl char ↦ absurd (let f : to ≡ kinds.Char = char in cc)
    | inr many ↦ thinned_in to span o p (less_operand r b types locals levels o words 3 many inside) short
  ]

  pub conversion_in : (from to : Kind) (span : Option ℕ) (o : Operand) (p : ℕ) → HasOperand r b types locals levels o (max (words_of_kind from) (words_of_kind to)) → p + length (conversion_code (starts_of types) from to span o p) < length r.code → AreIn (conversion_code (starts_of types) from to span o p)
  conversion_in from to span o p inside short =
      conversion_by_in (keeps_words from to) to span o p (max (words_of_kind from) (words_of_kind to)) (omega arith) changed inside short
    where
      changed : keeps_words from to ≡ false → (to ≡ kinds.Char) ⊎ (3 ≤ max (words_of_kind from) (words_of_kind to))
      changed changes = elim (changes_words from to changes) [
        | inl masked ↦ inl masked.1
        | inr narrow ↦ inr (more_words from to narrow)
      ]

  divisor_in : (o : Operand) → IsOperand r o → AreIn (divisor_code (starts_of types) o)
  divisor_in (operands.Word (suc n)) inside = tt
  divisor_in (operands.Word zero) inside = check_in division_by_zero (operands.Word zero) (omega arith) inside
  divisor_in (operands.Slot n) inside = check_in division_by_zero (operands.Slot n) (omega arith) inside

  checked_in : (o : Operator) (l m : Operand) (d : ℕ) → d < r.slots → IsOperand r l → IsOperand r m → AreIn (checked_code (starts_of types) o l m d)
  checked_in o l m d few left right =
      let front = divisor_code (starts_of types) m in
      append front (instructions.Binary (binary_operator o) d l m ∷ []) (divisor_in m right) ((few, left, right), tt)

  pub operator_in : (o : Operator) (l m : Operand) (d : ℕ) → d < r.slots → IsOperand r l → IsOperand r m → AreIn (operator_code (starts_of types) o l m d)
  operator_in operators.Divide l m d few left right = checked_in operators.Divide l m d few left right
  operator_in operators.Remainder l m d few left right = checked_in operators.Remainder l m d few left right
  operator_in o l m d few left right = ((few, left, right), tt)

  pub unary_in : (o : UnaryOperator) (d : ℕ) (m : Operand) → d < r.slots → IsOperand r m → IsIn program r types.locals (unary_instruction o d m)
  unary_in unary.LowByte d m few inside = (few, inside, tt)
  unary_in o d m few inside = (few, inside)

  pub last_byte_in : (kind : Kind) (d : ℕ) → d < r.slots → AreIn (last_byte_code kind d)
  last_byte_in kinds.Char d few = ((few, few, tt), tt)
  last_byte_in kind d few = tt

  pub blank_in : (kind : Kind) (slot : ℕ) → slot < r.slots → AreIn (blank_code kind slot)
  blank_in kinds.Char slot few = ((few, tt), tt)
  blank_in kind slot few = tt

  -- The code that loads words of globals into slots refers only to existing words and slots, and so does the code that stores them.
  pub loads_in : (words first d : ℕ) → first + words ≤ length program.globals → d + words ≤ r.slots → AreIn (word_by_word load_word words first d)
  loads_in zero first d inside few = tt
  loads_in (suc words) first d inside few = ((omega (arith, few), omega (arith, inside)), loads_in words (suc first) (suc d) (omega (arith, inside)) (omega (arith, few)))

  saves_in : (words first n : ℕ) → first + words ≤ length program.globals → n + words ≤ r.slots → AreIn (word_by_word store_word words first n)
  saves_in zero first n inside few = tt
  saves_in (suc words) first n inside few = ((omega (arith, inside), omega (arith, few)), saves_in words (suc first) (suc n) (omega (arith, inside)) (omega (arith, few)))

  pub global_in : (words first : ℕ) (o : Operand) → 1 ≤ words → first + words ≤ length program.globals → HasOperand r b types locals levels o words → AreIn (global_code words first o)
  global_in words first (operands.Slot n) some inside few = saves_in words first n inside few
  global_in words first (operands.Word n) some inside few = ((omega (arith, some, inside), few), tt)

  -- The global to which a value is assigned has enough words for all words of the value.
  pub assigned_in : (n : ℕ) (c : Converted) (o : Operand) → HasGlobal types n (kind_passed c) → HasOperand r b types locals levels o (words_of_kind (kind_passed c)) → AreIn (global_code (passed_words c) (global_of (starts_of types) n) o)
  assigned_in n c o room few =
      subst (λ words. AreIn (global_code words (global_of (starts_of types) n) o)) (sym (passed_is c))
      (global_in (words_of_kind (kind_passed c)) (global_of (starts_of types) n) o (kind_positive (kind_passed c)) (omega (arith, room, global-room types n (global-inside types n (kind_passed c) room), globals.room)) few)

  pub load_in : (l : Lvalue) (t : Ty) (d : ℕ) → FitsPlace b types l (kind_of t) → d + words_of_kind (kind_of t) ≤ r.slots → AreIn (load_code (starts_of types) (words_of t) l d)
  load_in (Local w n) t d (within, room) few =
      (subst (λ words. IsIn program r types.locals (move_of words d (operands.Slot (slot_of (starts_of types) n)))) (type_words t) (move_in (kind_of t) d (operands.Slot (slot_of (starts_of types) n)) few (omega (arith, locals n within, room))), tt)
  load_in (Global n) t d room few = loads_in (words_of t) (global_of (starts_of types) n) d (omega (arith, room, type_words t, global-room types n (global-inside types n (kind_of t) room), globals.room)) (omega (arith, few, type_words t))

  pub copy_in : (is : Bool) (c : Converted) (o : Operand) (d : ℕ) → HasOperand r b types locals levels o (words_of_kind (kind_passed c)) → d + words_of_kind (kind_passed c) ≤ r.slots → AreIn (if is then [] else move_of (passed_words c) d o ∷ [])
  copy_in true c o d inside few = tt
  copy_in false c o d inside few = (subst (λ words. IsIn program r types.locals (move_of words d o)) (sym (passed_is c)) (move_in (kind_passed c) d o few inside), tt)

  -- The code that copies a fat pointer to another slot is in range, that is, it refers only to existing slots.
  pub pointer_copied : (d t : ℕ) → d + 3 ≤ r.slots → t + 3 ≤ r.slots → AreIn (copy_code 3 (operands.Slot t) d)
  pointer_copied d t few inside = by (t == d)
    where
      by : (is : Bool) → AreIn (if is then [] else instructions.MoveWords d t 3 ∷ [])
      by true = tt
      by false = (record { some = omega arith; few = omega arith; destination_in_range = few; source_in_range = inside }, tt)

  index_in : (o : PlainBinary) (l m : Operand) (d : ℕ) → d + 3 ≤ r.slots → HasOperand r b types locals levels l 3 → IsOperand r m → AreIn (index_code o l m d)
  index_in o (operands.Word n) m d few left right = ((omega (arith, few), tt, right), tt)
  index_in o (operands.Slot n) m d few left right = ((omega (arith, few), omega (arith, left), right), by (n == d))
    where
      by : (there : Bool) → AreIn (if there then [] else instructions.MoveWords d n 2 ∷ [])
      by true = tt
      by false = (record { some = omega arith; few = omega arith; destination_in_range = omega (arith, few); source_in_range = omega (arith, left) }, tt)

  pointer_in : (o : PointerOperator) (l m : Operand) (d : ℕ) → d + words_of_kind (operator_kind o) ≤ r.slots → HasOperand r b types locals levels l (words_of_kind (left_kind o)) → IsOperand r l → IsOperand r m → AreIn (pointer_instructions o l m d)
  pointer_in pointers.AddFat l m d few wide left right = index_in (pointer_operator pointers.AddFat) l m d few wide right
  pointer_in pointers.SubtractFat l m d few wide left right = index_in (pointer_operator pointers.SubtractFat) l m d few wide right
  pointer_in pointers.ThinIsNull l m d few wide left right = ((omega (arith, few), left, right), tt)
  pointer_in pointers.ThinIsNotNull l m d few wide left right = ((omega (arith, few), left, right), tt)
  pointer_in pointers.FatIsNull l m d few wide left right = ((omega (arith, few), left, right), tt)
  pointer_in pointers.FatIsNotNull l m d few wide left right = ((omega (arith, few), left, right), tt)
  pointer_in pointers.NullIs l m d few wide left right = ((omega (arith, few), left, right), tt)
  pointer_in pointers.NullIsNot l m d few wide left right = ((omega (arith, few), left, right), tt)
  pointer_in pointers.EqualThin l m d few wide left right = ((omega (arith, few), left, right), tt)
  pointer_in pointers.NotEqualThin l m d few wide left right = ((omega (arith, few), left, right), tt)

  pub count_in : (o : Operand) (p d : ℕ) → HasOperand r b types locals levels o 3 → d < r.slots → p + length (count_code o p d) < length r.code → AreIn (count_code o p d)
  count_in (operands.Word n) p d inside few short = ((few, tt), tt)
  count_in (operands.Slot n) p d inside few short =
      let second : n + 1 < r.slots = omega (arith, inside) in
      let third : n + 2 < r.slots = omega (arith, inside) in
      ((second, third, omega (arith, short)), ((few, second, third), (omega (arith, short), ((few, tt), tt))))

  pub test_in : (o : LogicalOperator) (operand : List Instruction) (p d t : ℕ) → d < r.slots → t < r.slots → p + length (test_code o operand p d t) < length r.code → AreIn operand → AreIn (test_code o operand p d t)
  test_in logical.AndThen operand p d t few room short inside =
      let long = length-append operand (truth_code t d) in
      ((room, tt, omega (arith, short, long)), append operand (truth_code t d) inside ((few, room, tt), tt))
  test_in logical.OrElse operand p d t few room short inside =
      let long = length-append operand (truth_code t d) in
      ((room, tt, omega (arith, short, long)), append operand (truth_code t d) inside ((few, room, tt), tt))

  -- The code that stores a word of a value in a cell refers only to existing slots, and so does the code that loads it.
  store_in : (kind : Kind) (address : Operand) (offset : ℕ) (o : Operand) → IsOperand r address → IsOperand r o → IsIn program r types.locals (store_of kind address offset o)
  store_in kinds.Char address offset o first second = (first, second)
  store_in kind address offset o first second = (first, second)

  pub load_of_in : (kind : Kind) (d : ℕ) (address : Operand) (offset : ℕ) → d < r.slots → IsOperand r address → IsIn program r types.locals (load_of kind d address offset)
  load_of_in kinds.Char d address offset first second = (first, second)
  load_of_in kind d address offset first second = (first, second)

  pub stores_in : (kind : Kind) (many address offset slot : ℕ) → address < r.slots → slot + many ≤ r.slots → AreIn (stores_code kind many address offset slot)
  stores_in kind zero address offset slot room few = tt
  stores_in kind (suc many) address offset slot room few =
      (store_in kind (operands.Slot address) offset (operands.Slot slot) room (omega (arith, few)), stores_in kind many address (offset + 4) (suc slot) room (omega (arith, few)))

  -- The code that begins an array is in range, that is, it refers only to existing slots.
  sized_in : (kind : Kind) (t : ℕ) → t < r.slots → AreIn (sized_code kind t)
  sized_in kinds.Char t room = ((room, room, tt), ((room, room, tt), tt))
  sized_in kind t room = ((room, room, tt), tt)

  pub begun_in : (handle : Operand) (kind : Kind) (t : ℕ) → IsOperand r handle → t + 4 ≤ r.slots → AreIn (begun_code (starts_of types) handle kind t)
  begun_in handle kind t inside room =
      let asked =
      instructions.Unary plain_unary.Not (t + 3) (operands.Slot t)
      ∷ instructions.Binary plain_binary.Add (t + 3) (operands.Slot (t + 3)) (operands.Slot t)
      ∷ instructions.Ask (requests.Allocate t handle (operands.Slot (t + 3)))
      ∷ [] in
      let moves = instructions.Move (t + 1) (operands.Slot t) ∷ instructions.Move (t + 2) (operands.Word 0) ∷ [] in
      append (measured_code (starts_of types) kind (t + 1) (t + 2) t) (asked_code handle kind (t + 3) t)
      (append (guard_code (starts_of types) array_size comparisons.GreaterOrEqualUnsigned (operands.Slot t) (operands.Word (most_elements (bytes_of_kind kind) + 1))) moves
      (guard_in array_size comparisons.GreaterOrEqualUnsigned (operands.Slot t) (operands.Word (most_elements (bytes_of_kind kind) + 1)) (omega arith) (omega (arith, room)) tt)
      ((omega (arith, room), omega (arith, room)), ((omega (arith, room), tt), tt)))
      (append (sized_code kind t) asked (sized_in kind t (omega (arith, room))) (
        (omega (arith, room), omega (arith, room)),
        (
          (omega (arith, room), omega (arith, room), omega (arith, room)),
          (record { answer_in_range = omega (arith, room); first_in_range = inside; second_in_range = omega (arith, room) }, tt),
        ),
      ))

  -- The code that stores an element of an array in its cell is in range, that is, it refers only to existing slots.
  pub filled_in : (kind : Kind) (head t : ℕ) → t + 3 + words_of_kind kind < r.slots → head < length r.code → AreIn (filled_code kind head t)
  filled_in kind head t few short =
      let z = t + 3 + words_of_kind kind in
      let stores = stores_code kind (words_of_kind kind) z 0 (t + 3) in (
        scale_in (bytes_of_kind kind) z (t + 2) few (omega (arith, few)),
        (
          (few, omega (arith, few), few),
          append stores _ (stores_in kind (words_of_kind kind) z 0 (t + 3) few (omega (arith, few))) ((omega (arith, few), omega (arith, few), tt), (short, tt)),
        ),
      )

  saved_in : (kind : Kind) (address : ℕ) (o : Operand) → address < r.slots → HasOperand r b types locals levels o (words_of_kind kind) → AreIn (saved_code kind address o)
  saved_in kind address (operands.Slot n) room inside = stores_in kind (words_of_kind kind) address 0 n room inside
  saved_in kind address (operands.Word n) room inside = (store_in kind (operands.Slot address) 0 (operands.Word n) room tt, tt)

  cells_in : (ks : List Kind) (address at slot : ℕ) → address < r.slots → slot + slots_of_kinds ks ≤ r.slots → AreIn (cells_code ks address at slot)
  cells_in [] address at slot room few = tt
  cells_in (kind ∷ ks) address at slot room few =
      append (stores_code kind (words_of_kind kind) address (begins kind at) slot) (cells_code ks address (cell_end kind at) (slot + words_of_kind kind))
      (stores_in kind (words_of_kind kind) address (begins kind at) slot room (omega (arith, few)))
      (cells_in ks address (cell_end kind at) (slot + words_of_kind kind) room (omega (arith, few)))

  pub object_in : (handle : Operand) (ks : List Kind) (d t : ℕ) → IsOperand r handle → d < r.slots → t + slots_of_kinds ks + 1 ≤ r.slots → AreIn (object_code handle ks d t)
  object_in handle ks d t inside room few =
      let words = slots_of_kinds ks in (
        record { answer_in_range = few; first_in_range = inside; second_in_range = tt },
        append (cells_code ks (t + words) 0 t) (instructions.Move d (operands.Slot (t + words)) ∷ []) (cells_in ks (t + words) 0 t (omega (arith, few)) (omega (arith, few))) ((room, omega (arith, few)), tt),
      )

  address_in : (o : Operand) (bytes d : ℕ) → IsOperand r o → d < r.slots → AreIn (address_code o bytes d)
  address_in o (suc bytes) d inside few = ((few, inside, tt), tt)
  address_in (operands.Word n) zero d inside few = ((few, inside), tt)
  address_in (operands.Slot n) zero d inside few = by (n == d)
    where
      by : (is : Bool) → AreIn (if is then [] else instructions.Move d (operands.Slot n) ∷ [])
      by true = tt
      by false = ((few, inside), tt)

  pub loaded_in : (kind : Kind) (narrow : Bool) (o : Operand) (bytes d t : ℕ) → (words_of_kind kind == 1) ≡ narrow → IsOperand r o → d + words_of_kind kind ≤ r.slots → t < r.slots
      → AreIn (if narrow then load_of kind d o bytes ∷ [] else address_code o bytes t ++ (instructions.Load (d + 2) (operands.Slot t) 8 ∷ instructions.Load (d + 1) (operands.Slot t) 4 ∷ instructions.Load d (operands.Slot t) 0 ∷ []))
  loaded_in kind true o bytes d t narrow inside room free = (load_of_in kind d o bytes (omega (arith, room, kind_positive kind)) inside, tt)
  loaded_in kind false o bytes d t wide inside room free =
      let three : words_of_kind kind ≡ 3 = ap words_of_kind (wide_kind kind wide) in
      append (address_code o bytes t) _ (address_in o bytes t inside free) ((omega (arith, room, three), free), ((omega (arith, room, three), free), ((omega (arith, room, three), free), tt)))

  -- A memory access needs at least the slots for the words of its own value.
  pub own_needed : (x : Dereference) (own : ℕ) → own ≤ dereference_need x own
  own_needed (Target k a ty) own = omega arith
  own_needed (Member k a s f ty) own = omega arith
  own_needed (Element a i ty) own = omega arith

  -- If a fat pointer stays in its slots while an index is evaluated, then these slots exist in the function.
  pub pointer_room : (a i : Expression) (t : ℕ) → kind_at r b types locals levels a ≡ kinds.Fat → Fits b types a → t + 3 ≤ r.slots → pointer_slot (starts_of types) a i t + 3 ≤ r.slots
  pointer_room a i t fat numbered room = by (is_simple (starts_of types) i)
    where
      inside : (known : Option Operand) → operand_of (starts_of types) a ≡ known → slot_or known t + 3 ≤ r.slots
      inside (Some (operands.Slot n)) is =
          subst (HasOperand r b types locals levels (operands.Slot n)) (ap words_of_kind fat)
          (subst (λ (x : Option Operand). HasOperand r b types locals levels (operand_or x (value_slot (starts_of types) a t)) (words_of_kind (kind_at r b types locals levels a))) is (value_room r b types locals levels a t numbered (omega (arith, room, ap words_of_kind fat))))
      inside (Some (operands.Word w)) is = room
      inside None is = room

      by : (simple : Bool) → slot_or (left_with simple (operand_of (starts_of types) a)) t + 3 ≤ r.slots
      by true = inside (operand_of (starts_of types) a) refl
      by false = room

  reached_operand_in : (span : Option ℕ) (n t : ℕ) → n < r.slots → t < r.slots → IsOperand r (reached_operand span n t)
  reached_operand_in None n t inside room = inside
  reached_operand_in (Some words) n t inside room = room

  pub place_operand_in : (x : Dereference) (own t : ℕ) → FitsCell b types x → 1 ≤ own → t + dereference_need x own ≤ r.slots → IsOperand r (place_operand (starts_of types) x t)
  place_operand_in (Target k a ty) own t (pointer, kind_is, wide, numbered) some few =
      followed_operand_in (is_thin k) (span_in ty) (value_operand (starts_of types) a t) t (value_in r b types locals levels a t numbered (omega (arith, few, given_needs r b types locals levels a numbered, some))) (omega (arith, few, some))
  place_operand_in (Member k a s f ty) own t (thin, there, numbered) some few = value_in r b types locals levels a t numbered (omega (arith, few, given_needs r b types locals levels a numbered, some))
  place_operand_in (Element a i ty) own t (fat, three, first, second) some few =
      let inside : pointer_slot (starts_of types) a i t + 3 ≤ r.slots = pointer_room a i t fat first (omega (arith, few, some, three, given_needs r b types locals levels a first, ap words_of_kind fat)) in
      reached_operand_in (span_in ty) (pointer_slot (starts_of types) a i t) t (omega (arith, inside)) (omega (arith, few, some))

  pub addressed_in : (x : Dereference) (p d t : ℕ) → FitsCell b types x → d < r.slots → t + dereference_need x place_words ≤ r.slots
      → p + length (addressed_by (place_code (starts_of types) x p t) (place_operand (starts_of types) x t) (place_offset (starts_of types) x) d) < length r.code
      → (p + length (place_code (starts_of types) x p t) < length r.code → AreIn (place_code (starts_of types) x p t))
      → AreIn (addressed_by (place_code (starts_of types) x p t) (place_operand (starts_of types) x t) (place_offset (starts_of types) x) d)
  addressed_in x p d t numbered room few short inside =
      let front = place_code (starts_of types) x p t in
      let back = address_code (place_operand (starts_of types) x t) (place_offset (starts_of types) x) d in
      append front back (inside (omega (arith, short, length-append front back))) (address_in (place_operand (starts_of types) x t) (place_offset (starts_of types) x) d (place_operand_in x place_words t numbered (omega arith) few) room)

  pub stored_in : (x : Dereference) (c : Converted) (p t : ℕ) → FitsConverted b types c → t + 1 + converted_words c ≤ r.slots → p + length (store_code (starts_of types) x c p t) < length r.code
      → (p + length (store_address_code (starts_of types) x p t) < length r.code → AreIn (store_address_code (starts_of types) x p t))
      → ((q : ℕ) → q + length (converted_operand_code (starts_of types) c q (t + 1)) < length r.code → AreIn (converted_operand_code (starts_of types) c q (t + 1)))
      → AreIn (store_code (starts_of types) x c p t)
  stored_in x c p t numbered room short address_inside value_inside =
      let address = store_address_code (starts_of types) x p t in
      let q = p + length address in
      let value = converted_operand_code (starts_of types) c q (t + 1) in
      let write = saved_code (kind_passed c) t (converted_operand (starts_of types) c (t + 1)) in
      let long = length-append address (value ++ write) in
      let following = length-append value write in
      append address (value ++ write) (address_inside (omega (arith, short, long)))
      (append value write (value_inside q (omega (arith, short, long, following))) (saved_in (kind_passed c) t (converted_operand (starts_of types) c (t + 1)) (omega (arith, room)) (converted_room r b types locals levels c (t + 1) numbered room)))

  -- ---- expressions

  -- The code of a pointer operator, and of its right operand, which is evaluated after the left operand, refers only to existing slots.
  pub right_in : (o : PointerOperator) (a : Expression) (ty : Ty) (p : ℕ) (l : Operand) (d t left : ℕ) → Fits b types a → words_of_kind (left_kind o) ≤ left → d + words_of_kind (operator_kind o) ≤ r.slots → HasOperand r b types locals levels l (words_of_kind (left_kind o)) → IsOperand r l
      → t + max (left + operand_words (type_of a) + words_of ty) (left + expression_need a) ≤ r.slots
      → p + length (pointer_code o l (value_operand (starts_of types) a (after_left o t)) (code_unless (operand_of (starts_of types) a) (expression_code (starts_of types) a p (value_slot (starts_of types) a (after_left o t)) (after_left o t))) d) < length r.code
      → ((slot : ℕ) → slot + words_of_kind (kind_at r b types locals levels a) ≤ r.slots → p + length (expression_code (starts_of types) a p slot (after_left o t)) < length r.code → AreIn (expression_code (starts_of types) a p slot (after_left o t)))
      → AreIn (pointer_code o l (value_operand (starts_of types) a (after_left o t)) (code_unless (operand_of (starts_of types) a) (expression_code (starts_of types) a p (value_slot (starts_of types) a (after_left o t)) (after_left o t))) d)
  right_in o a ty p l d t left numbered wide room all inside few short computed =
      let u = after_left o t in
      let slot = value_slot (starts_of types) a u in
      let inner = expression_code (starts_of types) a p slot u in
      let operand = code_unless (operand_of (starts_of types) a) inner in
      let m = value_operand (starts_of types) a u in
      let back = pointer_instructions o l m d in
      let free : u + words_of_kind (kind_at r b types locals levels a) ≤ r.slots = omega (arith, few, wide, operand_positive (type_of a), words_positive ty, given_needs r b types locals levels a numbered) in
      append operand back
      (unless_in (operand_of (starts_of types) a) inner p (omega (arith, short, length-append operand back)) (λ less. computed slot (slot_fits r b types locals levels a u numbered free) less))
      (pointer_in o l m d room all inside (value_in r b types locals levels a u numbered free))

  -- An int that becomes a char is an operand, and the code that moves its low byte to a slot refers only to existing slots.
  pub brought_by : (masking : Bool) (a : Expression) (p d t : ℕ) → Fits b types a → d + words_of_kind (kind_at r b types locals levels a) ≤ r.slots → t + words_of_kind (kind_at r b types locals levels a) ≤ r.slots
      → ((slot : ℕ) → slot + words_of_kind (kind_at r b types locals levels a) ≤ r.slots → p + length (expression_code (starts_of types) a p slot t) < length r.code → AreIn (expression_code (starts_of types) a p slot t))
      → p + length (if masking then masked_by (operand_of (starts_of types) a) (expression_code (starts_of types) a p (value_slot (starts_of types) a t) t) (value_operand (starts_of types) a t) d else expression_code (starts_of types) a p d t) < length r.code
      → AreIn (if masking then masked_by (operand_of (starts_of types) a) (expression_code (starts_of types) a p (value_slot (starts_of types) a t) t) (value_operand (starts_of types) a t) d else expression_code (starts_of types) a p d t)
  brought_by true a p d t numbered room free inside short =
      let slot = value_slot (starts_of types) a t in
      let inner = expression_code (starts_of types) a p slot t in
      let front = code_unless (operand_of (starts_of types) a) inner in
      let back = low_byte (value_operand (starts_of types) a t) d ∷ [] in
      append front back
      (unless_in (operand_of (starts_of types) a) inner p (omega (arith, short, length-append front back)) (λ less. inside slot (slot_fits r b types locals levels a t numbered free) less))
      ((omega (arith, room, kind_positive (kind_at r b types locals levels a)), value_in r b types locals levels a t numbered free, tt), tt)
  brought_by false a p d t numbered room free inside short = inside d room short

  pub initial_by : (there : Bool) (from to : Kind) (a : Expression) (p d t : ℕ) → from ≡ kind_at r b types locals levels a → is_converted from to ≡ true → Fits b types a → d + words_of_kind to ≤ r.slots → t + converted_words (Convert from to a) ≤ r.slots → converts_there from to ≡ there
      → ((slot : ℕ) → slot + words_of_kind (kind_at r b types locals levels a) ≤ r.slots → p + length (brought_code (starts_of types) (Convert from to a) p slot t) < length r.code → AreIn (brought_code (starts_of types) (Convert from to a) p slot t))
      → p + length (if there then brought_code (starts_of types) (Convert from to a) p d t else moved_by (starts_of types) (source_of (starts_of types) (Convert from to a)) (brought_code (starts_of types) (Convert from to a) p (source_slot (starts_of types) (Convert from to a) t) t) from to (span_of a) (converted_operand (starts_of types) (Convert from to a) t) p d) < length r.code
      → AreIn (if there then brought_code (starts_of types) (Convert from to a) p d t else moved_by (starts_of types) (source_of (starts_of types) (Convert from to a)) (brought_code (starts_of types) (Convert from to a) p (source_slot (starts_of types) (Convert from to a) t) t) from to (span_of a) (converted_operand (starts_of types) (Convert from to a) t) p d)
  initial_by true from to a p d t kind wide numbered room free lands inside short = inside d (omega (arith, room, ap words_of_kind kind, as_wide from to lands)) short
  initial_by false from to a p d t kind wide numbered room free lands inside short =
      let c = Convert from to a in
      let known = source_of (starts_of types) c in
      let slot = source_slot (starts_of types) c t in
      let inner = brought_code (starts_of types) c p slot t in
      let o = converted_operand (starts_of types) c t in
      let front = code_unless known inner in
      let conversion = conversion_code (starts_of types) from to (span_of a) o (p + length front) in
      let move = move_of (words_of_kind to) d o ∷ [] in
      let long = length-append (front ++ conversion) move in
      let long_front = length-append front conversion in
      append (front ++ conversion) move
      (append front conversion (unless_in known inner p (omega (arith, short, long, long_front)) (λ less. inside slot (source_fits r b types locals levels from to a t (kind, wide, numbered) free) less))
      (conversion_in from to (span_of a) o (p + length front) (brought_room r b types locals levels c t (kind, wide, numbered) free) (omega (arith, short, long, long_front)))) (move_in to d o room (converted_room r b types locals levels c t (kind, wide, numbered) free), tt)
