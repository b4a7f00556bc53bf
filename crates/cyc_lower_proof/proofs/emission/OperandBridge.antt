-- This file proves that operands, and the code that converts them, are where the simulation relation requires them.
use Rattle.std.proofs.Common.{◌≡◌, ℕ, zero, suc, ◌+◌, ◌<◌, ◌≤◌, Bool, true, false, List, [], ◌∷◌, ◌++◌, length, Option, None, Some, slice_get, refl, sym, ap, subst, ◌∙◌, arith, length-append, ◌⊎◌, ◌≢◌, inl, inr}
use Rattle.std.specs.Prelude.{if◌then◌else◌, ◌==◌}
use Rattle.cyc_meaning.specs.Operators.{array_size, null_exception, division_by_zero, array_bounds}
use Rattle.cyc_types.specs.declared.typed.Kind.{Kind}
use Rattle.cyc_types.specs.declared.typed.Kind.TheVariants as kinds
use Rattle.cyc_types.specs.declared.typed.Operator.{Operator}
use Rattle.cyc_types.specs.declared.typed.Operator.TheVariants as operators
use Rattle.cyc_types.specs.declared.typed.PointerOperator.{PointerOperator}
use Rattle.cyc_types.specs.declared.typed.PointerOperator.TheVariants as pointers
use Rattle.cyc_types.specs.TypedTrees.{Counter, Lvalue, Local, Global, Expression, Number, NullPointer, Copy, Convert, Operations, NoOperations, ThenCompute, Move, Peek, HeapRegion, Unary}
use Rattle.cyc_types.specs.Numbered.{Numbering}
use Rattle.cyc_plain.specs.declared.instruction.BinaryOperator.TheVariants as plain_binary
use Rattle.cyc_plain.specs.declared.instruction.Comparison.{Comparison}
use Rattle.cyc_plain.specs.declared.instruction.BinaryOperator.TheVariants as plain_binary
use Rattle.cyc_plain.specs.declared.instruction.Comparison.TheVariants as comparisons
use Rattle.cyc_plain.specs.declared.instruction.Operand.{Operand}
use Rattle.cyc_plain.specs.declared.instruction.Operand.TheVariants as operands
use Rattle.cyc_plain.specs.declared.instruction.Instruction.{Instruction}
use Rattle.cyc_plain.specs.declared.instruction.Instruction.TheVariants as instructions
use Rattle.cyc_plain.specs.inside.Straight.{At, HasAt}
use Rattle.cyc_plain.proofs.Straight.{has_front, has_back}
use Rattle.cyc_store.specs.declared.range.TheConstants.{MOST_BLOCK_WORDS}
use Rattle.cyc_meaning.specs.Values.{words_of_kind, bytes_of_kind, begins, following, is_thin, number_of_kind}
use Rattle.cyc_lower_proof.specs.inside.Slots.{Types, starts_of, slot_of, global_of}
use Rattle.cyc_lower_proof.specs.inside.ValueCode.{converts_there, moved_by, move_of, operand_or, code_unless, slot_or, code_unless_slot, left_with, next_slot, check_code, conversion_code, divisor_code, checked_code, operator_code, is_in, pointer_operator}
use Rattle.cyc_lower_proof.specs.inside.ValueCode.{index_code, pointer_instructions, address_code, guard_code, jump_if_zero, count_code, span_of, tested_code, widened_code, conversion_by, bounds_code, stepped_code, scaled_code, summed_code, bounded_code}
use Rattle.cyc_lower_proof.specs.inside.ValueCode.{past_bounded, thinned_code, reached_code, followed_code, word_by_word, load_word, store_word, global_code, keeps_words, last_byte_code, blank_code, load_of, masked_by, inside_code}
use Rattle.cyc_lower_proof.specs.inside.ObjectCode.{most_elements, begun_code, filled_code, stores_code, cells_code, slots_of_kinds, object_code, free_code, saved_code, sized_code}
use Rattle.cyc_lower_proof.specs.inside.ControlCode.{counter_operand}
use Rattle.cyc_lower_proof.specs.inside.ExpressionCode.{source_of, source_slot, operand_of, left_of, value_slot, slot_with, left_slot, value_operand, converted_operand, load_code, expression_code, brought_code, is_simple}
use Rattle.cyc_lower_proof.proofs.relation.code.Stands.{BegunAt, FilledAt, OperandBy, CheckAt, ConversionBy, ConversionAt, DivisorAt, CheckedAt, OperatorAt, LoadAt, CopyBy, ExpressionAt, InitialBy, ReturnedAt}
use Rattle.cyc_lower_proof.proofs.relation.code.Stands.{FirstTwoAt, IndexAt, PointerAt, StoresAt, CellsAt, ObjectAt, AddressAt, GuardAt, FreedAt, CountAt, TestedAt, WidenedAt, LoadedBy, SavedAt, BoundsAt}
use Rattle.cyc_lower_proof.proofs.relation.code.Stands.{SteppedAt, ScaledAt, SummedAt, ThinnedAt, ReachedAt, FollowedAt, EachAt, GlobalAt, SizedAt, LastByteAt, BlankAt, BroughtAt, BroughtBy, LeftBy, InsideAt}
use Rattle.cyc_lower_proof.proofs.emission.Lengths.{past_long}
use Rattle.cyc_lower_proof.proofs.emission.Blocks.{BlocksStand}
use Rattle.cyc_lower_proof.specs.inside.Lowerable.{is_converted, is_pointer}
use Rattle.cyc_lower_proof.proofs.slots.Widths.{given, changes}
use Rattle.cyc_lower_proof.proofs.relation.code.Fitting.{FitsPlace}
use Rattle.cyc_lower_proof.specs.inside.Lowerable.{is_converted}
use Rattle.cyc_lower_proof.proofs.value_steps.ValueWords.{as_wide}
use Rattle.cyc_lower_proof.proofs.slots.Slots.{global-inside}
use Rattle.cyc_lower_proof.proofs.place_steps.Sources.{IsApart}
use Rattle.cyc_types.specs.declared.typed.UnaryOperator.TheVariants as unary
use Rattle.cyc_plain.specs.declared.instruction.UnaryOperator.TheVariants as plain_unary
use Rattle.cyc_plain.specs.declared.instruction.Request.TheVariants as requests
use Rattle.cyc_meaning.specs.FrameCount.{words_of_all}

-- The position of the end of the second of two concatenated pieces of code.
pub cut : (p q : ℕ) (a b : List Instruction) → p + length (a ++ b) ≡ q → p + length a + length b ≡ q
cut p q a b end = omega (arith, end, length-append a b)

module _ (code : List Instruction) (b : Numbering) (types : Types) (raised : BlocksStand code types.raises (words_of_all types.locals)) where
  -- ---- operands

  -- Either an operand is a slot or constant that needs no instructions, or the instructions that compute the operand begin at position `p`.
  pub operand_by : (known : Option Operand) (computed : Type 0) (x : List Instruction) (slot p q : ℕ) → p + length (code_unless known x) ≡ q → HasAt code p (code_unless known x)
      → (p + length x ≡ q → HasAt code p x → computed) → OperandBy code b types known computed slot (operand_or known slot) p q
  operand_by (Some o) computed x slot p q end has stands = (refl, omega (arith, end))
  operand_by None computed x slot p q end has stands = (refl, stands end has)

  pub returned_by : (known : Option Operand) (computed : Type 0) (x : List Instruction) (slot p q : ℕ) → p + length (code_unless_slot known x) ≡ q → HasAt code p (code_unless_slot known x)
      → (p + length x ≡ q → HasAt code p x → computed) → ReturnedAt code b types known computed slot (slot_or known slot) p q
  returned_by (Some (operands.Slot n)) computed x slot p q end has stands = (refl, omega (arith, end))
  returned_by (Some (operands.Word n)) computed x slot p q end has stands = (refl, stands end has)
  returned_by None computed x slot p q end has stands = (refl, stands end has)

  -- Either the right operand of an operator needs no code, or the operand's code begins at position `p` and the property `left`
  -- of the left operand holds.
  pub right_by : (known : Option Operand) (left computed : Type 0) (x : List Instruction) (slot p q : ℕ) → left → p + length (code_unless known x) ≡ q → HasAt code p (code_unless known x)
      → (p + length x ≡ q → HasAt code p x → computed) → OperandBy code b types known (left × computed) slot (operand_or known slot) p q
  right_by (Some o) left computed x slot p q there end has stands = (refl, omega (arith, end))
  right_by None left computed x slot p q there end has stands = (refl, (there, stands end has))

  abbrev pub IsLeft : Operations → Operand → (d t : ℕ) → Type 0
  IsLeft NoOperations l d t = l ≡ operands.Slot d
  IsLeft (ThenCompute o a os) l d t = LeftBy code b types (is_simple (starts_of types) a) (l ≡ operands.Slot t)
  IsLeft os l d t = l ≡ operands.Slot t

  left_here : (simple : Bool) (l : Operand) (t : ℕ) → l ≡ operands.Slot t → LeftBy code b types simple (l ≡ operands.Slot t)
  left_here true l t is = tt
  left_here false l t is = is

  pub left_first : (simple : Bool) (a : Expression) (t : ℕ) → LeftBy code b types simple (operand_or (left_with simple (operand_of (starts_of types) a)) (slot_with (starts_of types) simple a t) ≡ operands.Slot t)
  left_first true a t = tt
  left_first false a t = refl

  pub next_left : (os : Operations) (d t : ℕ) → IsLeft os (operands.Slot (next_slot os d t)) d t
  next_left NoOperations d t = refl
  next_left (ThenCompute o a os) d t = left_here (is_simple (starts_of types) a) (operands.Slot t) t refl
  next_left os d t = refl

  pub first_left : (a : Expression) (os : Operations) (d t : ℕ) → IsLeft os (operand_or (left_of (starts_of types) a os) (left_slot (starts_of types) a os d t)) d t
  first_left a NoOperations d t = refl
  first_left a (ThenCompute o c os) d t = left_first (is_simple (starts_of types) c) a t
  first_left a os d t = refl

  -- ---- expressions

  guard_stands : (tag : ℕ) (failing : Comparison) (l r : Operand) (p q : ℕ) → 1 ≤ tag → tag ≤ 4 → p + 1 ≡ q → HasAt code p (guard_code (starts_of types) tag failing l r) → GuardAt code b types tag failing l r p q
  guard_stands tag failing l r p q some few end (jump, none) = (types.raises + 2 + tag, jump, raised.each p tag (instructions.Branch failing l r (types.raises + 2 + tag)) some few jump refl, end)

  pub freed_stands : (o : Operand) (p q : ℕ) → p + 2 ≡ q → HasAt code p (free_code o p) → FreedAt code b types o p q
  freed_stands o p q end (jump, (ask, none)) = (subst (λ t. At code p (jump_if_zero o t)) end jump, ask, omega (arith, end))

  pub check_stands : (tag : ℕ) (o : Operand) (p q : ℕ) → 1 ≤ tag → tag ≤ 4 → p + 1 ≡ q → HasAt code p (check_code (starts_of types) tag o) → CheckAt code b types tag o p q
  check_stands tag o p q some few end has = guard_stands tag comparisons.Equal o (operands.Word 0) p q some few end has

  bounds_stands : (index bound : Operand) (p q : ℕ) → p + 1 ≡ q → HasAt code p (bounds_code (starts_of types) index bound) → BoundsAt code b types index bound p q
  bounds_stands index bound p q end has = guard_stands array_bounds comparisons.GreaterOrEqualUnsigned index bound p q (omega arith) (omega arith) end has

  stepped_stands : (span : Option ℕ) (n m t p q : ℕ) → p + length (stepped_code span n m t) ≡ q → HasAt code p (stepped_code span n m t) → SteppedAt code b types span n m t p q
  stepped_stands None n m t p q end has = omega (arith, end)
  stepped_stands (Some bytes) n m t p q end (scale, (sum, none)) = (scale, sum, omega (arith, end))

  bounded_stands : (span : Option ℕ) (n m t p q : ℕ) → p + length (bounded_code (starts_of types) span n m t) ≡ q → HasAt code p (bounded_code (starts_of types) span n m t)
      → (s : ℕ) × BoundsAt code b types (operands.Slot m) (operands.Slot (n + 1)) p s × SteppedAt code b types span n m t s q
  bounded_stands span n m t p q end has =
      let bounds = bounds_code (starts_of types) (operands.Slot m) (operands.Slot (n + 1)) in
      let step = stepped_code span n m t in
      let s = p + length bounds in (
        s,
        bounds_stands (operands.Slot m) (operands.Slot (n + 1)) p s refl (has_front code p bounds step has),
        stepped_stands span n m t s q (cut p q bounds step end) (has_back code p bounds step has),
      )

  scaled_stands : (span : Option ℕ) (m x p q : ℕ) → p + length (scaled_code span m x) ≡ q → HasAt code p (scaled_code span m x) → ScaledAt code b types span m x p q
  scaled_stands None m x p q end has = omega (arith, end)
  scaled_stands (Some bytes) m x p q end (scale, none) = (scale, omega (arith, end))

  summed_stands : (span : Option ℕ) (n x t p q : ℕ) → p + length (summed_code span n x t) ≡ q → HasAt code p (summed_code span n x t) → SummedAt code b types span n x t p q
  summed_stands None n x t p q end has = omega (arith, end)
  summed_stands (Some bytes) n x t p q end (sum, none) = (sum, omega (arith, end))

  inside_stands : (n m p q : ℕ) → p + 3 ≡ q → HasAt code p (inside_code (starts_of types) n m p) → InsideAt code b types n m p q
  inside_stands n m p q end (compare, (question, (jump, none))) =
      let last : At code (p + 2) (instructions.Jump (types.raises + 1)) = subst (λ (x : ℕ). At code x (instructions.Jump (types.raises + 1))) (let two : p + 1 + 1 ≡ p + 2 = omega arith in two) jump in (
        subst (λ (x : ℕ). At code p (instructions.Branch comparisons.LessUnsigned (operands.Slot m) (operands.Slot (n + 1)) x)) end compare,
        question,
        (types.raises + 1, last, omega (arith, raised.within (p + 2) (instructions.Jump (types.raises + 1)) last (omega arith)), raised.reported (p + 2) (instructions.Jump (types.raises + 1)) last refl),
        end,
      )

  pub reached_stands : (span : Option ℕ) (n m t p q : ℕ) → p + length (reached_code (starts_of types) span n m t p) ≡ q → HasAt code p (reached_code (starts_of types) span n m t p) → ReachedAt code b types span n m t p q
  reached_stands span n m t p q end has =
      let scaled = scaled_code span m (t + 3) in
      let s = p + length scaled in
      let inside = inside_code (starts_of types) n m s in
      let summed = summed_code span n (t + 3) t in
      let u = s + length inside in
      let last = has_back code p scaled (inside ++ summed) has in (
        s,
        u,
        scaled_stands span m (t + 3) p s refl (has_front code p scaled (inside ++ summed) has),
        inside_stands n m s u refl (has_front code s inside summed last),
        summed_stands span n (t + 3) t u q (cut s q inside summed (cut p q scaled (inside ++ summed) end)) (has_back code s inside summed last),
      )

  -- Says that a fat pointer is always in slots, and never a constant word.
  abbrev IsInSlots : (thin : Bool) → Operand → Type 0
  IsInSlots true o = Unit {0}
  IsInSlots false (operands.Slot n) = Unit {0}
  IsInSlots false (operands.Word w) = ⊥

  pub followed_stands : (thin : Bool) (span : Option ℕ) (o : Operand) (t p q : ℕ) → IsInSlots thin o → p + length (followed_code (starts_of types) thin span o t p) ≡ q → HasAt code p (followed_code (starts_of types) thin span o t p) → FollowedAt code b types thin span o t p q
  followed_stands true span o t p q in_slots end has = check_stands null_exception o p q (omega arith) (omega arith) end has
  followed_stands false span (operands.Slot n) t p q in_slots end has = reached_stands span n (n + 2) t p q end has
  followed_stands false span (operands.Word w) t p q in_slots end has = absurd in_slots

  slot_any : (thin : Bool) (n : ℕ) → IsInSlots thin (operands.Slot n)
  slot_any true n = tt
  slot_any false n = tt

  counter_in_slot : (thin : Bool) (found : Option ℕ) (t : ℕ) → IsInSlots thin (operand_or (counter_operand found) t)
  counter_in_slot thin (Some n) t = slot_any thin n
  counter_in_slot thin None t = slot_any thin t

  pub in_slots : (k : Kind) (a : Expression) (t : ℕ) → is_pointer k ≡ true → k ≡ given b.functions a → IsInSlots (is_thin k) (value_operand (starts_of types) a t)
  in_slots k (Number n) t pointer is = absurd (let f : is_pointer kinds.Int ≡ true = ap is_pointer (sym is) ∙ pointer in cc)
  in_slots k NullPointer t pointer is = subst (λ (x : Kind). IsInSlots (is_thin x) (operands.Word 0)) (sym is) tt
  in_slots k HeapRegion t pointer is = absurd (let f : is_pointer kinds.Handle ≡ true = ap is_pointer (sym is) ∙ pointer in cc)
  in_slots k (Copy (Local p n) ty) t pointer is = slot_any (is_thin k) (slot_of (starts_of types) n)
  in_slots k (Move p n ty) t pointer is = slot_any (is_thin k) (slot_of (starts_of types) n)
  in_slots k (Peek p n ty) t pointer is = slot_any (is_thin k) (slot_of (starts_of types) n)
  in_slots k (Unary unary.Widen a) t pointer is = absurd (let f : is_pointer kinds.Int ≡ true = ap is_pointer (sym is) ∙ pointer in cc)
  in_slots k (Counter l) t pointer is = counter_in_slot (is_thin k) (slice_get types.counters l) t
  in_slots k a t pointer is = slot_any (is_thin k) (value_slot (starts_of types) a t)

  tested_stands : (to : Kind) (o : Operand) (p q : ℕ) → p + length (tested_code (starts_of types) to o) ≡ q → HasAt code p (tested_code (starts_of types) to o) → TestedAt code b types to o p q
  tested_stands kinds.NonNull o p q end has = check_stands null_exception o p q (omega arith) (omega arith) end has
  tested_stands to o p q end has = omega (arith, end)

  -- Says that a value whose conversion changes its words is in slot t.
  abbrev IsBrought : (to : Kind) → Operand → (t : ℕ) → Type 0
  IsBrought to (operands.Slot n) t = n ≡ t
  IsBrought to (operands.Word w) t = ⊥

  pub source_brought : (from to : Kind) (a : Expression) (t : ℕ) → from ≡ given b.functions a → keeps_words from to ≡ false → IsBrought to (converted_operand (starts_of types) (Convert from to a) t) t
  source_brought from to a t kind narrow =
      subst (λ (same : Bool). IsBrought to (operand_or (if same then operand_of (starts_of types) a else None) (if same then value_slot (starts_of types) a t else t)) t) (sym narrow) refl

  pub returned_brought : (from to : Kind) (a : Expression) (t : ℕ) → keeps_words from to ≡ false → slot_or (source_of (starts_of types) (Convert from to a)) t ≡ t
  returned_brought from to a t narrow = subst (λ (same : Bool). slot_or (if same then operand_of (starts_of types) a else None) t ≡ t) (sym narrow) refl

  widened_stands : (o : Operand) (t p q : ℕ) → IsBrought kinds.Fat o t → p + length (widened_code o) ≡ q → HasAt code p (widened_code o) → WidenedAt code b types o t p q
  widened_stands (operands.Slot n) t p q brought end (first, (second, none)) = (brought, first, second, end)
  widened_stands (operands.Word w) t p q brought end has = absurd brought

  thinned_stands : (to : Kind) (span : Option ℕ) (o : Operand) (t p q : ℕ) → is_thin to ≡ true → IsBrought to o t
      → p + length (thinned_code (starts_of types) to span o p) ≡ q → HasAt code p (thinned_code (starts_of types) to span o p) → ThinnedAt code b types to span o t p q
  thinned_stands kinds.NonNull span (operands.Slot n) t p q thin brought end has =
      let check = check_code (starts_of types) null_exception (operands.Slot n) in
      let bounded = bounded_code (starts_of types) span n (n + 2) n in
      let r = p + length check in
      let (s, bounds, stepped) = bounded_stands span n (n + 2) n r q (cut p q check bounded end) (has_back code p check bounded has) in
      (brought, (r, s, check_stands null_exception (operands.Slot n) p r (omega arith) (omega arith) refl (has_front code p check bounded has), bounds, stepped))
  thinned_stands kinds.Nullable span (operands.Slot n) t p q thin brought end (jump, has) =
      let (s, bounds, stepped) = bounded_stands span n (n + 2) n (p + 1) q (omega (arith, end)) has in
      (brought, (p + 1, s, (p + past_bounded span, jump, omega (arith, end, past_long (starts_of types) span n (n + 2) n), refl), bounds, stepped))
  thinned_stands kinds.NonNull span (operands.Word w) t p q thin brought end has = absurd brought
  thinned_stands kinds.Nullable span (operands.Word w) t p q thin brought end has = absurd brought
  thinned_stands kinds.Int span o t p q thin brought end has = absurd (let f : false ≡ true = thin in cc)
  thinned_stands kinds.Char span o t p q thin brought end has = absurd (let f : false ≡ true = thin in cc)
  thinned_stands kinds.Fat span o t p q thin brought end has = absurd (let f : false ≡ true = thin in cc)
  thinned_stands kinds.Handle span o t p q thin brought end has = absurd (let f : false ≡ true = thin in cc)
  thinned_stands kinds.Key span o t p q thin brought end has = absurd (let f : false ≡ true = thin in cc)

  char_stands : (o : Operand) (t p q : ℕ) → IsBrought kinds.Char o t → p + 0 ≡ q → (o ≡ operands.Slot t) × (p ≡ q)
  char_stands (operands.Slot n) t p q brought end = (ap operands.Slot brought, omega (arith, end))
  char_stands (operands.Word w) t p q brought end = absurd brought

  not_changed : (to : Kind) → number_of_kind to ≢ 6 → is_pointer to ≡ false → (to ≡ kinds.Char) ⊎ (is_pointer to ≡ true) → ⊥
  not_changed to other plain changed = elim changed [
    | inl char ↦ other (ap number_of_kind char)
    | inr pointer ↦ let f : false ≡ true = sym plain ∙ pointer in cc
  ]

  conversion_by_stands : (same : Bool) (to : Kind) (span : Option ℕ) (o : Operand) (t p q : ℕ) → (same ≡ false → (to ≡ kinds.Char) ⊎ (is_pointer to ≡ true)) → (same ≡ false → IsBrought to o t)
      → p + length (conversion_by (starts_of types) same to span o p) ≡ q → HasAt code p (conversion_by (starts_of types) same to span o p) → ConversionBy code b types same to span o t p q
  conversion_by_stands true to span o t p q known brought end has = tested_stands to o p q end has
  conversion_by_stands false kinds.Fat span o t p q known brought end has = widened_stands o t p q (brought refl) end has
  conversion_by_stands false kinds.Char span o t p q known brought end has = char_stands o t p q (brought refl) end
  conversion_by_stands false kinds.NonNull span o t p q known brought end has = thinned_stands kinds.NonNull span o t p q refl (brought refl) end has
  conversion_by_stands false kinds.Nullable span o t p q known brought end has = thinned_stands kinds.Nullable span o t p q refl (brought refl) end has
  conversion_by_stands false kinds.Int span o t p q known brought end has = absurd (not_changed kinds.Int (λ e. let f : 0 ≡ 6 = e in omega (arith, f)) refl (known refl))
  conversion_by_stands false kinds.Handle span o t p q known brought end has = absurd (not_changed kinds.Handle (λ e. let f : 4 ≡ 6 = e in omega (arith, f)) refl (known refl))
  conversion_by_stands false kinds.Key span o t p q known brought end has = absurd (not_changed kinds.Key (λ e. let f : 5 ≡ 6 = e in omega (arith, f)) refl (known refl))

  pub conversion_stands : (from to : Kind) (span : Option ℕ) (o : Operand) (t p q : ℕ) → is_converted from to ≡ true → (keeps_words from to ≡ false → IsBrought to o t)
      → p + length (conversion_code (starts_of types) from to span o p) ≡ q → HasAt code p (conversion_code (starts_of types) from to span o p) → ConversionAt code b types from to span o t p q
  conversion_stands from to span o t p q known brought end has = conversion_by_stands (keeps_words from to) to span o t p q (λ changed. changes from to known changed) brought end has

  divisor_stands : (o : Operand) (p q : ℕ) → p + length (divisor_code (starts_of types) o) ≡ q → HasAt code p (divisor_code (starts_of types) o) → DivisorAt code b types o p q
  divisor_stands (operands.Word (suc n)) p q end has = omega (arith, end)
  divisor_stands (operands.Word zero) p q end has = check_stands division_by_zero (operands.Word zero) p q (omega arith) (omega arith) end has
  divisor_stands (operands.Slot n) p q end has = check_stands division_by_zero (operands.Slot n) p q (omega arith) (omega arith) end has

  checked_stands : (o : Operator) (l r : Operand) (d p q : ℕ) → p + length (checked_code (starts_of types) o l r d) ≡ q → HasAt code p (checked_code (starts_of types) o l r d) → CheckedAt code b types o d l r p q
  checked_stands o l r d p q end has =
      let front = divisor_code (starts_of types) r in
      let (here, none) = has_back code p front _ has in
      (p + length front, divisor_stands r p (p + length front) refl (has_front code p front _ has), here, cut p q front _ end)

  pub operator_stands : (o : Operator) (l r : Operand) (d p q : ℕ) → p + length (operator_code (starts_of types) o l r d) ≡ q → HasAt code p (operator_code (starts_of types) o l r d) → OperatorAt code b types o d l r p q
  operator_stands operators.Divide l r d p q end has = checked_stands operators.Divide l r d p q end has
  operator_stands operators.Remainder l r d p q end has = checked_stands operators.Remainder l r d p q end has
  operator_stands o l r d p q end (here, none) = (here, end)

  -- The code of a pointer operator whose left operand is in slot t.
  first_two_by : (there : Bool) (t d p q : ℕ) → p + length (if there then [] else instructions.MoveWords d t 2 ∷ []) ≡ q → HasAt code p (if there then [] else instructions.MoveWords d t 2 ∷ []) → FirstTwoAt code b types there t d p q
  first_two_by true t d p q end has = omega (arith, end)
  first_two_by false t d p q end (here, none) = (here, end)

  index_stands : (o : PointerOperator) (r : Operand) (t d p q : ℕ) → p + length (index_code (pointer_operator o) (operands.Slot t) r d) ≡ q → HasAt code p (index_code (pointer_operator o) (operands.Slot t) r d) → IndexAt code b types o r t d p q
  index_stands o r t d p q end (here, rest) = (here, first_two_by (t == d) t d (p + 1) q (omega (arith, end)) rest)

  slot_stands : (o : PointerOperator) (r : Operand) (t d p q : ℕ) → p + length (pointer_instructions o (operands.Slot t) r d) ≡ q → HasAt code p (pointer_instructions o (operands.Slot t) r d) → PointerAt code b types o r t d p q
  slot_stands pointers.AddFat r t d p q end has = index_stands pointers.AddFat r t d p q end has
  slot_stands pointers.SubtractFat r t d p q end has = index_stands pointers.SubtractFat r t d p q end has
  slot_stands pointers.ThinIsNull r t d p q end (here, none) = (here, end)
  slot_stands pointers.ThinIsNotNull r t d p q end (here, none) = (here, end)
  slot_stands pointers.FatIsNull r t d p q end (here, none) = (here, end)
  slot_stands pointers.FatIsNotNull r t d p q end (here, none) = (here, end)
  slot_stands pointers.NullIs r t d p q end (here, none) = (here, end)
  slot_stands pointers.NullIsNot r t d p q end (here, none) = (here, end)
  slot_stands pointers.EqualThin r t d p q end (here, none) = (here, end)
  slot_stands pointers.NotEqualThin r t d p q end (here, none) = (here, end)

  pub pointer_stands : (o : PointerOperator) (l r : Operand) (t d p q : ℕ) → l ≡ operands.Slot t → p + length (pointer_instructions o l r d) ≡ q → HasAt code p (pointer_instructions o l r d) → PointerAt code b types o r t d p q
  pointer_stands o l r t d p q left end has =
      slot_stands o r t d p q (subst (λ x. p + length (pointer_instructions o x r d) ≡ q) left end) (subst (λ x. HasAt code p (pointer_instructions o x r d)) left has)

  pub each_stands : (each : (global slot : ℕ) → Instruction) (words first slot p q : ℕ) → p + length (word_by_word each words first slot) ≡ q → HasAt code p (word_by_word each words first slot)
      → EachAt code each words first slot p q
  each_stands each zero first slot p q end has = omega (arith, end)
  each_stands each (suc words) first slot p q end (here, rest) = (here, each_stands each words (suc first) (suc slot) (p + 1) q (omega (arith, end)) rest)

  pub global_stands : (words first : ℕ) (o : Operand) (p q : ℕ) → p + length (global_code words first o) ≡ q → HasAt code p (global_code words first o) → GlobalAt code words first o p q
  global_stands words first (operands.Slot n) p q end has = each_stands store_word words first n p q end has
  global_stands words first (operands.Word n) p q end (here, none) = (here, end)

  -- Four instructions compute a pointer's number of elements; the third of them jumps past the fourth.
  pub count_stands : (o : Operand) (d p q : ℕ) → p + length (count_code o p d) ≡ q → HasAt code p (count_code o p d) → CountAt code b types o d p q
  count_stands (operands.Word n) d p q end (move, none) = (move, end)
  count_stands (operands.Slot n) d p q end (past, (subtract, (jump, (move, none)))) = (
    past,
    subtract,
    further 2 (instructions.Jump q) (omega arith) (subst (λ m. At code (p + 1 + 1) (instructions.Jump m)) end jump),
    further 3 (instructions.Move d (operands.Word 0)) (omega arith) move,
    end,
  )
    where
      further : (n : ℕ) (i : Instruction) {m : ℕ} → m ≡ p + n → At code m i → At code (p + n) i
      further n i same at = subst (λ x. At code x i) same at

  pub load_stands : (l : Lvalue) (kind : Kind) (words d p q : ℕ) → FitsPlace b types l kind → p + length (load_code (starts_of types) words l d) ≡ q → HasAt code p (load_code (starts_of types) words l d)
      → LoadAt code b types words l d p q
  load_stands (Local w n) kind words d p q few end (here, none) = (here, end)
  load_stands (Global n) kind words d p q room end has = (global-inside types n kind room, each_stands load_word words (global_of (starts_of types) n) d p q end has)

  pub stores_stand : (kind : Kind) (many address offset slot p q : ℕ) → p + length (stores_code kind many address offset slot) ≡ q → HasAt code p (stores_code kind many address offset slot)
      → StoresAt code b types kind many address offset slot p q
  stores_stand kind zero address offset slot p q end has = omega (arith, end)
  stores_stand kind (suc many) address offset slot p q end (here, rest) = (here, stores_stand kind many address (offset + 4) (suc slot) (p + 1) q (omega (arith, end)) rest)

  pub saved_stands : (kind : Kind) (address : ℕ) (o : Operand) (p q : ℕ) → IsApart types (words_of_kind kind) address o → p + length (saved_code kind address o) ≡ q → HasAt code p (saved_code kind address o)
      → SavedAt code b types kind address o p q
  saved_stands kind address (operands.Slot n) p q apart end has = (stores_stand kind (words_of_kind kind) address 0 n p q end has, apart)
  saved_stands kind address (operands.Word n) p q apart end (here, none) = (here, end)

  pub cells_stand : (ks : List Kind) (address at slot p q : ℕ) → p + length (cells_code ks address at slot) ≡ q → HasAt code p (cells_code ks address at slot) → CellsAt code b types ks address at slot p q
  cells_stand [] address at slot p q end has = omega (arith, end)
  cells_stand (kind ∷ ks) address at slot p q end has =
      let first = stores_code kind (words_of_kind kind) address (begins kind at) slot in
      let others = cells_code ks address (following kind at) (slot + words_of_kind kind) in
      let r = p + length first in (
        r,
        stores_stand kind (words_of_kind kind) address (begins kind at) slot p r refl (has_front code p first others has),
        cells_stand ks address (following kind at) (slot + words_of_kind kind) r q (cut p q first others end) (has_back code p first others has),
      )

  pub object_stands : (handle : Operand) (ks : List Kind) (d t p q : ℕ) → 0 < length ks → slots_of_kinds ks ≤ MOST_BLOCK_WORDS → p + length (object_code handle ks d t) ≡ q → HasAt code p (object_code handle ks d t)
      → ObjectAt code b types handle ks t d p q
  object_stands handle ks d t p q some few end (ask, rest) =
      let words = slots_of_kinds ks in
      let stores = cells_code ks (t + words) 0 t in
      let move = instructions.Move d (operands.Slot (t + words)) ∷ [] in
      let m = p + 1 + length stores in
      let (here, none) = has_back code (p + 1) stores move rest in
      (m, some, few, ask, cells_stand ks (t + words) 0 t (p + 1) m refl (has_front code (p + 1) stores move rest), here, omega (arith, end, length-append stores move))

  sized_stands : (kind : Kind) (t p q : ℕ) → p + length (sized_code kind t) ≡ q → HasAt code p (sized_code kind t) → SizedAt code b types kind t p q
  sized_stands kinds.Char t p q end (sum, (shift, none)) = (sum, shift, omega (arith, end))
  sized_stands kind t p q end (product, none) = (product, end)

  pub begun_stands : (handle : Operand) (kind : Kind) (t p q : ℕ) → p + length (begun_code (starts_of types) handle kind t) ≡ q → HasAt code p (begun_code (starts_of types) handle kind t)
      → BegunAt code b types handle kind t p q
  begun_stands handle kind t p q end (guard, (count, (index, rest))) =
      let sized = sized_code kind t in
      let back = instructions.Unary plain_unary.Not (t + 3) (operands.Slot t) ∷ instructions.Binary plain_binary.Add (t + 3) (operands.Slot (t + 3)) (operands.Slot t) ∷ instructions.Ask (requests.Allocate t handle (operands.Slot (t + 3))) ∷ [] in
      let r = p + 1 + 1 + 1 + length sized in
      let (none, (size, (ask, nothing))) = has_back code (p + 1 + 1 + 1) sized back rest in (
        p + 1,
        r,
        guard_stands array_size comparisons.GreaterOrEqualUnsigned (operands.Slot t) (operands.Word (most_elements (bytes_of_kind kind) + 1)) p (p + 1) (omega arith) (omega arith) refl (guard, tt),
        count,
        index,
        sized_stands kind t (p + 1 + 1 + 1) r refl (has_front code (p + 1 + 1 + 1) sized back rest),
        none,
        size,
        ask,
        omega (arith, end, length-append sized back),
      )

  pub filled_stands : (kind : Kind) (t head p q : ℕ) → p + length (filled_code kind head t) ≡ q → HasAt code p (filled_code kind head t) → FilledAt code b types kind t head p q
  filled_stands kind t head p q end (scaled, (address, rest)) =
      let words = words_of_kind kind in
      let stores = stores_code kind words (t + 3 + words) 0 (t + 3) in
      let up = instructions.Binary plain_binary.Add (t + 2) (operands.Slot (t + 2)) (operands.Word 1) ∷ instructions.Jump head ∷ [] in
      let m = p + 1 + 1 + length stores in
      let (next, (again, none)) = has_back code (p + 1 + 1) stores up rest in
      (m, scaled, address, stores_stand kind words (t + 3 + words) 0 (t + 3) (p + 1 + 1) m refl (has_front code (p + 1 + 1) stores up rest), next, again, omega (arith, end, length-append stores up))

  pub copy_by : (is : Bool) (words : ℕ) (o : Operand) (d p q : ℕ) → p + length (if is then [] else move_of words d o ∷ []) ≡ q → HasAt code p (if is then [] else move_of words d o ∷ []) → CopyBy code is words o d p q
  copy_by true words o d p q end has = omega (arith, end)
  copy_by false words o d p q end (here, none) = (here, end)

  pub address_stands : (o : Operand) (bytes d p q : ℕ) → p + length (address_code o bytes d) ≡ q → HasAt code p (address_code o bytes d) → AddressAt code o bytes d p q
  address_stands o zero d p q end has = copy_by (is_in o d) 1 o d p q end has
  address_stands o (suc bytes) d p q end (here, none) = (here, end)

  pub last_byte_stands : (kind : Kind) (d p q : ℕ) → p + length (last_byte_code kind d) ≡ q → HasAt code p (last_byte_code kind d) → LastByteAt code kind d p q
  last_byte_stands kinds.Char d p q end (here, none) = (here, end)
  last_byte_stands kind d p q end has = omega (arith, end)

  pub blank_stands : (kind : Kind) (slot p q : ℕ) → p + length (blank_code kind slot) ≡ q → HasAt code p (blank_code kind slot) → BlankAt code kind slot p q
  blank_stands kinds.Char slot p q end (here, none) = (here, end)
  blank_stands kind slot p q end has = omega (arith, end)

  pub loaded_stands : (narrow : Bool) (kind : Kind) (o : Operand) (bytes d t p q : ℕ)
      → p + length (if narrow then load_of kind d o bytes ∷ [] else address_code o bytes t ++ (instructions.Load (d + 2) (operands.Slot t) 8 ∷ instructions.Load (d + 1) (operands.Slot t) 4 ∷ instructions.Load d (operands.Slot t) 0 ∷ [])) ≡ q
      → HasAt code p (if narrow then load_of kind d o bytes ∷ [] else address_code o bytes t ++ (instructions.Load (d + 2) (operands.Slot t) 8 ∷ instructions.Load (d + 1) (operands.Slot t) 4 ∷ instructions.Load d (operands.Slot t) 0 ∷ []))
      → LoadedBy code narrow kind o bytes d t p q
  loaded_stands true kind o bytes d t p q end (here, none) = (here, end)
  loaded_stands false kind o bytes d t p q end has =
      let front = address_code o bytes t in
      let back = instructions.Load (d + 2) (operands.Slot t) 8 ∷ instructions.Load (d + 1) (operands.Slot t) 4 ∷ instructions.Load d (operands.Slot t) 0 ∷ [] in
      let r = p + length front in
      let (first, (second, (third, none))) = has_back code p front back has in
      (r, address_stands o bytes t p r refl (has_front code p front back has), first, second, third, omega (arith, cut p q front back end))

  words_kept : (from to : Kind) (a : Expression) → from ≡ given b.functions a → converts_there from to ≡ true → words_of_kind (given b.functions a) ≡ words_of_kind to
  words_kept from to a kind lands = ap words_of_kind (sym kind) ∙ as_wide from to lands

  -- If an int becomes a char, then the int is first brought into a slot or constant, and the code moves its low byte to a slot.
  pub brought_by : (masking : Bool) (a : Expression) (d t p q : ℕ)
      → ((slot r : ℕ) → p + length (expression_code (starts_of types) a p slot t) ≡ r → HasAt code p (expression_code (starts_of types) a p slot t) → ExpressionAt code b types a slot t p r)
      → p + length (if masking then masked_by (operand_of (starts_of types) a) (expression_code (starts_of types) a p (value_slot (starts_of types) a t) t) (value_operand (starts_of types) a t) d else expression_code (starts_of types) a p d t) ≡ q
      → HasAt code p (if masking then masked_by (operand_of (starts_of types) a) (expression_code (starts_of types) a p (value_slot (starts_of types) a t) t) (value_operand (starts_of types) a t) d else expression_code (starts_of types) a p d t)
      → BroughtBy code b types masking (operand_of (starts_of types) a) (λ r. ExpressionAt code b types a (value_slot (starts_of types) a t) t p r) (value_slot (starts_of types) a t) (ExpressionAt code b types a d t p q) d p q
  brought_by true a d t p q stands end has =
      let slot = value_slot (starts_of types) a t in
      let inner = expression_code (starts_of types) a p slot t in
      let front = code_unless (operand_of (starts_of types) a) inner in
      let m = p + length front in
      let (here, none) = has_back code p front _ has in
      (value_operand (starts_of types) a t, m, operand_by (operand_of (starts_of types) a) _ inner slot p m refl (has_front code p front _ has) (λ e h. stands slot m e h), here, cut p q front _ end)
  brought_by false a d t p q stands end has = stands d q end has

  pub initial_by : (there : Bool) (from to : Kind) (a : Expression) (d t p q : ℕ) → from ≡ given b.functions a → is_converted from to ≡ true → converts_there from to ≡ there
      → ((slot r : ℕ) → p + length (brought_code (starts_of types) (Convert from to a) p slot t) ≡ r → HasAt code p (brought_code (starts_of types) (Convert from to a) p slot t) → BroughtAt code b types (Convert from to a) slot t p r)
      → p + length (if there then brought_code (starts_of types) (Convert from to a) p d t else moved_by (starts_of types) (source_of (starts_of types) (Convert from to a)) (brought_code (starts_of types) (Convert from to a) p (source_slot (starts_of types) (Convert from to a) t) t) from to (span_of a) (converted_operand (starts_of types) (Convert from to a) t) p d) ≡ q
      → HasAt code p (if there then brought_code (starts_of types) (Convert from to a) p d t else moved_by (starts_of types) (source_of (starts_of types) (Convert from to a)) (brought_code (starts_of types) (Convert from to a) p (source_slot (starts_of types) (Convert from to a) t) t) from to (span_of a) (converted_operand (starts_of types) (Convert from to a) t) p d)
      → InitialBy code b types there from to a d t p q
  initial_by true from to a d t p q kind wide lands stands end has = (words_kept from to a kind lands, stands d q end has)
  initial_by false from to a d t p q kind wide lands stands end has =
      let known = source_of (starts_of types) (Convert from to a) in
      let slot = source_slot (starts_of types) (Convert from to a) t in
      let o = converted_operand (starts_of types) (Convert from to a) t in
      let inner = brought_code (starts_of types) (Convert from to a) p slot t in
      let front = code_unless known inner in
      let m = p + length front in
      let conversion = conversion_code (starts_of types) from to (span_of a) o m in
      let both = front ++ conversion in
      let r = p + length both in
      let has_both = has_front code p both _ has in
      let (here, none) = has_back code p both _ has in
      (o, m, r, operand_by known _ inner slot p m refl (has_front code p front conversion has_both) (λ e h. stands slot m e h), conversion_stands from to (span_of a) o t m r wide (λ narrow. source_brought from to a t kind narrow) (cut p r front conversion refl) (has_back code p front conversion has_both), here, cut p q both _ end)
