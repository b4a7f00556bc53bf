-- The bit mask of a list of facts contains each slot that occurs in a fact, so writing a slot outside the mask keeps all facts true.
use Rattle.std.proofs.Common.{◌≡◌, ℕ, ◌-◌, ◌^◌, ◌%◌, ◌<◌, Bool, true, false, List, [], ◌∷◌, drop, length, Option, Some, None, refl, ap, sym, ◌∙◌, arith, inl, inr}
use Rattle.std.specs.Prelude.{◌==◌, ◌&&◌, bit_and, bit_or, if◌then◌else◌, nat_lt}
use Rattle.std.specs.Int.{bit_at}
use Rattle.std.proofs.lemmas.Nat.Bits.{bit_at_ones}
use Rattle.std.proofs.lemmas.Bool.{and_from, and_left, and_right, cases_lt, cond_both, cond-true, ne_eqb, or_from}
use Rattle.cyc_words.proofs.Lists.{all_append}
use Rattle.cyc_words.proofs.Bits.{apart_bits, bit_left, bit_right}
use Rattle.cyc_plain.specs.declared.instruction.BinaryOperator.{BinaryOperator}
use Rattle.cyc_plain.specs.declared.instruction.Instruction.TheVariants as instructions
use Rattle.cyc_plain.specs.declared.instruction.Operand.{Operand}
use Rattle.cyc_plain.specs.declared.instruction.Operand.TheVariants as operands
use Rattle.cyc_propagation.specs.declared.fact.Fact.{Fact}
use Rattle.cyc_propagation.specs.declared.fact.Fact.TheVariants as facts_are
use Rattle.cyc_propagation.specs.declared.fact.Touched.{Touched}
use Rattle.cyc_propagation.specs.declared.fact.Touched.TheVariants as touches
use Rattle.cyc_propagation.specs.declared.fact.Written.{Written}
use Rattle.cyc_propagation.specs.declared.fact.TheConstants.{MOST_FACTS}
use Rattle.cyc_propagation.specs.inside.Copies.{IsAboutOperand, IsAbout, AreAbout}
use Rattle.cyc_propagation.specs.inside.Facts.{leaves_slot, leaves_operand, keeps, kept, remembered, is_same_operand, is_known}
use Rattle.cyc_propagation.specs.inside.Facts.{is_same_operator}
use Rattle.cyc_propagation.specs.inside.Replacement.{or_number, word_in, folded_of, may_fold, folded_in, is_truth_test, own_slot, or_slot, holder_in, simplified_binary, simplified_of}
use Rattle.cyc_propagation.proofs.Keeping.{left_below, left_at}

pub all_about : (facts : List Fact) → AreAbout (2 ^ 64 - 1) facts
all_about [] = tt
all_about (fact ∷ facts) = (any fact, all_about facts)
  where
    below : (slot : ℕ) → slot % 64 < 64
    below slot = omega arith

    any_operand : (operand : Operand) → IsAboutOperand (2 ^ 64 - 1) operand
    any_operand (operands.Slot number) = bit_at_ones 64 (number % 64) (below number)
    any_operand (operands.Word word) = tt

    any : (fact : Fact) → IsAbout (2 ^ 64 - 1) fact
    any (facts_are.Equal slot operand) = (bit_at_ones 64 (slot % 64) (below slot), any_operand operand)
    any (facts_are.Computed slot operator left right) = (bit_at_ones 64 (slot % 64) (below slot), (any_operand left, any_operand right))
    any (facts_are.Holds comparison left right) = (any_operand left, any_operand right)
    any (facts_are.Held address offset value) = (any_operand address, any_operand value)

-- ---- a larger mask

module _ (old new : ℕ) (stays : (j : ℕ) → bit_at old j ≡ 1 → bit_at new j ≡ 1) where
  pub operand_stays : (operand : Operand) → IsAboutOperand old operand → IsAboutOperand new operand
  operand_stays (operands.Slot number) is = stays (number % 64) is
  operand_stays (operands.Word word) is = tt

  pub fact_stays : (fact : Fact) → IsAbout old fact → IsAbout new fact
  fact_stays (facts_are.Equal slot operand) (is, other) = (stays (slot % 64) is, operand_stays operand other)
  fact_stays (facts_are.Computed slot operator left right) (is, (one, other)) =
      (stays (slot % 64) is, (operand_stays left one, operand_stays right other))
  fact_stays (facts_are.Holds comparison left right) (one, other) = (operand_stays left one, operand_stays right other)
  fact_stays (facts_are.Held address offset value) (one, other) = (operand_stays address one, operand_stays value other)

pub operand_left : (a b : ℕ) (operand : Operand) → IsAboutOperand a operand → IsAboutOperand (bit_or a b) operand
operand_left a b operand is = operand_stays a (bit_or a b) (λ j at. bit_left a b j at) operand is

pub operand_right : (a b : ℕ) (operand : Operand) → IsAboutOperand b operand → IsAboutOperand (bit_or a b) operand
operand_right a b operand is = operand_stays b (bit_or a b) (λ j at. bit_right a b j at) operand is

pub bit_first : (a b slot : ℕ) → bit_at a (slot % 64) ≡ 1 → bit_at (bit_or a b) (slot % 64) ≡ 1
bit_first a b slot is = bit_left a b (slot % 64) is

pub fact_left : (a b : ℕ) (fact : Fact) → IsAbout a fact → IsAbout (bit_or a b) fact
fact_left a b fact is = fact_stays a (bit_or a b) (λ j at. bit_left a b j at) fact is

pub fact_right : (a b : ℕ) (fact : Fact) → IsAbout b fact → IsAbout (bit_or a b) fact
fact_right a b fact is = fact_stays b (bit_or a b) (λ j at. bit_right a b j at) fact is

pub about_stay : (old new : ℕ) → ((fact : Fact) → IsAbout old fact → IsAbout new fact) → (facts : List Fact) → AreAbout old facts → AreAbout new facts
about_stay old new stays [] are = tt
about_stay old new stays (fact ∷ facts) (first, rest) = (stays fact first, about_stay old new stays facts rest)

-- ---- changed lists of facts

pub kept_about : (slots : ℕ) (w : Written) (t : Touched) (facts : List Fact) → AreAbout slots facts → AreAbout slots (kept w t facts)
kept_about slots w t [] are = tt
kept_about slots w t (fact ∷ facts) (first, rest) =
    cond_both (keeps w t fact) (fact ∷ kept w t facts) (kept w t facts) (AreAbout slots)
    (λ is. (first, kept_about slots w t facts rest)) (λ is. kept_about slots w t facts rest)

pub remembered_about : (slots : ℕ) (facts : List Fact) (fact : Fact) → AreAbout slots facts → IsAbout slots fact → AreAbout slots (remembered facts (Some fact))
remembered_about slots facts fact are is =
    all_append (IsAbout slots) (if nat_lt (length facts) MOST_FACTS then facts else drop 1 facts) (fact ∷ [])
    (cond_both (nat_lt (length facts) MOST_FACTS) facts (drop 1 facts) (AreAbout slots) (λ few. are) (λ many. after_first facts are)) (is, tt)
  where
    after_first : (facts : List Fact) → AreAbout slots facts → AreAbout slots (drop 1 facts)
    after_first [] are = tt
    after_first (other ∷ facts) (first, rest) = rest

-- ---- a slot outside the mask

module _ (slots bit slot : ℕ) (none : bit_and slots bit ≡ 0) (its : bit_at bit (slot % 64) ≡ 1) where
  abbrev one : Written
  one = record { first = slot; count = 1 }

  apart : (number : ℕ) → bit_at slots (number % 64) ≡ 1 → number ≡ slot → ⊥
  apart number is same = apart_bits slots bit (slot % 64) none its (ap (λ (n : ℕ). bit_at slots (n % 64)) (sym same) ∙ is)

  left : (number : ℕ) → bit_at slots (number % 64) ≡ 1 → leaves_slot one number ≡ true
  left number is = elim (cases_lt number slot) [
    | inl below ↦ left_below one number below
    | inr above ↦ elim (cases_lt slot number) [
      | inl over ↦ left_at one number (omega (arith, above)) (omega (arith, over))
      | inr not_over ↦ let same : number ≡ slot = omega (arith, above, not_over) in absurd (apart number is same)
    ]
  ]

  left_operand : (operand : Operand) → IsAboutOperand slots operand → leaves_operand one operand ≡ true
  left_operand (operands.Slot number) is = left number is
  left_operand (operands.Word word) is = refl

  keeps_it : (fact : Fact) → IsAbout slots fact → keeps one touches.Nothing fact ≡ true
  keeps_it (facts_are.Equal number operand) (is, other) = and_from _ _ (left number is) (left_operand operand other)
  keeps_it (facts_are.Computed number operator l r) (is, (first, second)) =
      and_from _ _ (left number is) (and_from _ _ (left_operand l first) (left_operand r second))
  keeps_it (facts_are.Holds comparison l r) (first, second) = and_from _ _ (left_operand l first) (left_operand r second)
  keeps_it (facts_are.Held address offset value) (first, second) =
      and_from _ _ (left_operand address first) (and_from _ _ (left_operand value second) refl)

  pub all_kept : (facts : List Fact) → AreAbout slots facts → kept one touches.Nothing facts ≡ facts
  all_kept [] are = refl
  all_kept (fact ∷ facts) (first, rest) =
      cond-true (keeps one touches.Nothing fact) (fact ∷ kept one touches.Nothing facts) (kept one touches.Nothing facts) (keeps_it fact first)
      ∙ ap (λ (others : List Fact). fact ∷ others) (all_kept facts rest)

  pub not_known : (operand : Operand) (facts : List Fact) → AreAbout slots facts → is_known facts (facts_are.Equal slot operand) ≡ false
  not_known operand [] are = refl
  not_known operand (facts_are.Equal number other ∷ facts) ((is, about), rest) =
      or_from (number == slot && is_same_operand other operand) (is_known facts (facts_are.Equal slot operand))
      (and_left (number == slot) (is_same_operand other operand) (ne_eqb number slot (apart number is))) (not_known operand facts rest)
  not_known operand (facts_are.Computed number operator l r ∷ facts) (first, rest) = not_known operand facts rest
  not_known operand (facts_are.Holds comparison l r ∷ facts) (first, rest) = not_known operand facts rest
  not_known operand (facts_are.Held address offset value ∷ facts) (first, rest) = not_known operand facts rest

  -- ---- no result computed from the slot is known

  no_word : (facts : List Fact) → AreAbout slots facts → word_in facts (operands.Slot slot) ≡ None
  no_word [] are = refl
  no_word (facts_are.Equal number (operands.Word word) ∷ facts) ((is, about), rest) =
      ap (λ (here : Bool). or_number (if here then Some word else None) (word_in facts (operands.Slot slot)))
      (ne_eqb slot number (λ same. apart number is (sym same)))
      ∙ no_word facts rest
  no_word (facts_are.Equal number (operands.Slot other) ∷ facts) (first, rest) = no_word facts rest
  no_word (facts_are.Computed number operator l r ∷ facts) (first, rest) = no_word facts rest
  no_word (facts_are.Holds comparison l r ∷ facts) (first, rest) = no_word facts rest
  no_word (facts_are.Held address offset value ∷ facts) (first, rest) = no_word facts rest

  other_operand : (operand : Operand) → IsAboutOperand slots operand → is_same_operand operand (operands.Slot slot) ≡ false
  other_operand (operands.Slot number) is = ne_eqb number slot (apart number is)
  other_operand (operands.Word word) is = refl

  no_holder : (operator : BinaryOperator) (right : Operand) (facts : List Fact) → AreAbout slots facts → holder_in facts operator (operands.Slot slot) right ≡ None
  no_holder operator right [] are = refl
  no_holder operator right (facts_are.Equal number other ∷ facts) (first, rest) = no_holder operator right facts rest
  no_holder operator right (facts_are.Computed number other l r ∷ facts) ((is, (one, two)), rest) =
      ap (λ (here : Bool). or_slot (if here then Some number else None) (holder_in facts operator (operands.Slot slot) right))
      (and_right (is_same_operator other operator) (is_same_operand l (operands.Slot slot) && is_same_operand r right)
      (and_left (is_same_operand l (operands.Slot slot)) (is_same_operand r right) (other_operand l one)))
      ∙ no_holder operator right facts rest
  no_holder operator right (facts_are.Holds comparison l bound ∷ facts) ((one, two), rest) =
      ap (λ (here : Bool). or_slot (if here then own_slot l else None) (holder_in facts operator (operands.Slot slot) right))
      (and_left (is_same_operand l (operands.Slot slot)) (is_truth_test comparison bound operator right) (other_operand l one))
      ∙ no_holder operator right facts rest
  no_holder operator right (facts_are.Held address offset value ∷ facts) (first, rest) = no_holder operator right facts rest

  not_folded : (operator : BinaryOperator) (right : Operand) (facts : List Fact) → AreAbout slots facts → folded_in facts operator (operands.Slot slot) right ≡ None
  not_folded operator right [] are = refl
  not_folded operator right (fact ∷ facts) are =
      ap (λ (word : Option ℕ). folded_of operator word (word_in (fact ∷ facts) right)) (no_word (fact ∷ facts) are)

  pub stays_computed : (operator : BinaryOperator) (destination : ℕ) (right : Operand) (facts : List Fact) → AreAbout slots facts
      → simplified_of facts operator destination (operands.Slot slot) right ≡ instructions.Binary operator destination (operands.Slot slot) right
  stays_computed operator destination right facts are =
      ap (λ (word : Option ℕ). simplified_binary word (holder_in facts operator (operands.Slot slot) right) operator destination (operands.Slot slot) right)
      (cond_both (may_fold destination (operands.Slot slot) right) (folded_in facts operator (operands.Slot slot) right) None (λ (word : Option ℕ). word ≡ None)
      (λ is. not_folded operator right facts are) (λ is. refl))
      ∙ ap (λ (number : Option ℕ). simplified_binary None number operator destination (operands.Slot slot) right) (no_holder operator right facts are)
