-- The slots in facts are free (their address is not taken), and the constants in facts fit a machine word. The
-- operands that facts supply as replacements are also free slots, or constants that fit a machine word.
use Rattle.std.proofs.Common.{◌≡◌, ℕ, ◌<◌, Bool, true, ◌&&◌, List, [], ◌∷◌, length, Option, Some, None, sym, ap, ◌∙◌, inl, inr}
use Rattle.std.specs.Prelude.{not, unwrap_or}
use Rattle.std.proofs.lemmas.Bool.{and_parts, cases_lt, cond_both, false≢true}
use Rattle.std.proofs.lemmas.List.{get_or_past}
use Rattle.cyc_plain.specs.declared.instruction.Operand.{Operand}
use Rattle.cyc_plain.specs.declared.instruction.Operand.TheVariants as operands
use Rattle.cyc_plain.specs.declared.instruction.BinaryOperator.{BinaryOperator}
use Rattle.cyc_plain.specs.inside.Uses.{is_slot}
use Rattle.cyc_propagation.specs.declared.fact.Fact.{Fact}
use Rattle.cyc_propagation.specs.declared.fact.Fact.TheVariants as facts_are
use Rattle.cyc_propagation.specs.inside.Facts.{is_same_operator, is_same_operand, is_same_word, first_global, is_free, suits_operand, suits, are_suited}
use Rattle.cyc_propagation.specs.inside.Replacement.{is_cheap, instead, simplified_operand, is_truth_test, own_slot, holder, or_slot, holder_in, value_by, or_value, value_in, global_value}

module _ (pinned : List Bool) where
  pub free_below : (slot : ℕ) → is_free pinned slot ≡ true → slot < length pinned
  free_below slot free = elim (cases_lt slot (length pinned)) [
    | inl below ↦ below
    | inr past ↦ absurd (false≢true (sym (ap not (get_or_past pinned slot true past)) ∙ free))
  ]

  module _ (P : Operand → Type 0) (fine : (operand : Operand) → suits_operand pinned operand ≡ true → P operand) where
    instead_has : (fact : Fact) (operand rest : Operand) → suits pinned fact ≡ true → P rest → P (unwrap_or (instead fact operand) rest)
    instead_has (facts_are.Computed slot operator left right) operand rest suits has = has
    instead_has (facts_are.Holds comparison left right) operand rest suits has = has
    instead_has (facts_are.Held address offset value) operand rest suits has = has
    instead_has (facts_are.Equal slot other) operand rest suits has =
        cond_both (is_slot operand slot && is_cheap other) (Some other) None (λ o. P (unwrap_or o rest))
        (λ is. fine other (and_parts (is_free pinned slot) (suits_operand pinned other) suits).1) (λ is. has)

    pub operand_has : (facts : List Fact) (operand : Operand) → are_suited pinned facts ≡ true → P operand → P (simplified_operand facts operand)
    operand_has [] operand all has = has
    operand_has (fact ∷ facts) operand all has =
        let (first, rest) = and_parts (suits pinned fact) (are_suited pinned facts) all in
        instead_has fact operand (simplified_operand facts operand) first (operand_has facts operand rest has)

  -- If a fact states that a slot contains a result, the address of this slot is not taken.
  abbrev pub IsFreeIfAny : Option ℕ → Type 0
  IsFreeIfAny (Some slot) = is_free pinned slot ≡ true
  IsFreeIfAny None = Unit {0}

  holder_free : (fact : Fact) (operator : BinaryOperator) (left right : Operand) → suits pinned fact ≡ true → IsFreeIfAny (holder fact operator left right)
  holder_free (facts_are.Equal slot operand) operator left right suits = tt
  holder_free (facts_are.Holds comparison left_2 bound) operator left right suits =
      cond_both (is_same_operand left_2 left && is_truth_test comparison bound operator right) (own_slot left_2) None IsFreeIfAny
      (λ is. go left_2 (and_parts (suits_operand pinned left_2) (suits_operand pinned bound) suits).0) (λ is. tt)
    where
      go : (operand : Operand) → suits_operand pinned operand ≡ true → IsFreeIfAny (own_slot operand)
      go (operands.Slot number) free = free
      go (operands.Word word) free = tt
  holder_free (facts_are.Held address offset value) operator left right suits = tt
  holder_free (facts_are.Computed slot other left_2 right_2) operator left right suits =
      cond_both (is_same_operator other operator && (is_same_operand left_2 left && is_same_operand right_2 right)) (Some slot) None IsFreeIfAny
      (λ is. (and_parts (is_free pinned slot) (suits_operand pinned left_2 && suits_operand pinned right_2) suits).0) (λ is. tt)

  pub holder_in_free : (facts : List Fact) (operator : BinaryOperator) (left right : Operand) → are_suited pinned facts ≡ true → IsFreeIfAny (holder_in facts operator left right)
  holder_in_free [] operator left right all = tt
  holder_in_free (fact ∷ facts) operator left right all =
      let (first, rest) = and_parts (suits pinned fact) (are_suited pinned facts) all in
      go (holder fact operator left right) (holder_free fact operator left right first) (holder_in_free facts operator left right rest)
    where
      go : (one : Option ℕ) → IsFreeIfAny one → IsFreeIfAny (holder_in facts operator left right) → IsFreeIfAny (or_slot one (holder_in facts operator left right))
      go (Some slot) free others = free
      go None free others = others

-- An operand that a fact states for a word of memory is a slot whose address is not taken, or a constant that fits a machine word.
module _ (pinned : List Bool) where
  abbrev pub SuitsIfAny : Option Operand → Type 0
  SuitsIfAny (Some value) = suits_operand pinned value ≡ true
  SuitsIfAny None = Unit {0}

  value_suits : (fact : Fact) (address : Operand) (offset : ℕ) → suits pinned fact ≡ true → SuitsIfAny (value_by fact address offset)
  value_suits (facts_are.Equal slot operand) address offset suits = tt
  value_suits (facts_are.Computed slot operator left right) address offset suits = tt
  value_suits (facts_are.Holds comparison left right) address offset suits = tt
  value_suits (facts_are.Held other further value) address offset suits =
      cond_both (is_same_word other further address offset) (Some value) None SuitsIfAny
      (λ is. (and_parts (suits_operand pinned other) (suits_operand pinned value) suits).1) (λ is. tt)

  pub value_in_suits : (facts : List Fact) (address : Operand) (offset : ℕ) → are_suited pinned facts ≡ true → SuitsIfAny (value_in facts address offset)
  value_in_suits [] address offset all = tt
  value_in_suits (fact ∷ facts) address offset all =
      let (first, rest) = and_parts (suits pinned fact) (are_suited pinned facts) all in
      go (value_by fact address offset) (value_suits fact address offset first) (value_in_suits facts address offset rest)
    where
      go : (one : Option Operand) → SuitsIfAny one → SuitsIfAny (value_in facts address offset) → SuitsIfAny (or_value one (value_in facts address offset))
      go (Some value) is others = is
      go None is others = others

pub global_suits : (pinned : List Bool) (facts : List Fact) (offset : Option ℕ) → are_suited pinned facts ≡ true → SuitsIfAny pinned (global_value facts offset)
global_suits pinned facts (Some offset) all = value_in_suits pinned facts first_global offset all
global_suits pinned facts None all = tt
