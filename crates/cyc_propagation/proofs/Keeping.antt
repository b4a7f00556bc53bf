-- This file proves, element by element, how the list of known facts changes when an instruction preserves
-- some facts and when a fact is added.
use Rattle.std.proofs.Common.{◌≡◌, ℕ, ◌+◌, ◌-◌, ◌<◌, ◌≤◌, Bool, true, false, ◌&&◌, List, [], ◌∷◌, refl, ap, sym, ◌∙◌, arith, inl, inr}
use Rattle.std.specs.Prelude.{not, nat_le, nat_lt, ◌==◌, filter, if◌then◌else◌}
use Rattle.std.proofs.lemmas.Bool.{cases_lt, and_from, and_right, cond-true, le-leb, le-ltb, lt-leb, lt-ltb, eq-eqb, eqb-true, ne_eqb, false≢true, not_from_false}
use Rattle.cyc_plain.specs.declared.instruction.Operand.{Operand}
use Rattle.cyc_plain.specs.declared.instruction.Operand.TheVariants as operands
use Rattle.cyc_plain.specs.inside.Uses.{is_slot, is_among}
use Rattle.cyc_propagation.specs.declared.fact.Fact.{Fact}
use Rattle.cyc_propagation.specs.declared.fact.Fact.TheVariants as facts_are
use Rattle.cyc_propagation.specs.declared.fact.Touched.{Touched}
use Rattle.cyc_propagation.specs.declared.fact.Touched.TheVariants as touches
use Rattle.cyc_propagation.specs.declared.fact.Written.{Written}
use Rattle.cyc_propagation.specs.inside.Entries.{leaves_out, leaves_memory, changes_one, changes_nothing}
use Rattle.cyc_propagation.specs.inside.Replacement.{simplified_operand}
use Rattle.cyc_propagation.specs.inside.Facts.{leaves_slot, leaves_operand, is_untouched, keeps, kept}

-- ---- a slot that is not written

pub left_below : (slots : Written) (slot : ℕ) → slot < slots.first → leaves_slot slots slot ≡ true
left_below slots slot below = ap (λ (b : Bool). not (b && nat_lt slot (slots.first + slots.count))) (lt-leb slots.first slot below)

pub left_at : (slots : Written) (slot : ℕ) → slots.first ≤ slot → slots.count ≤ slot - slots.first → leaves_slot slots slot ≡ true
left_at slots slot above far =
    not_from_false (is_among slots.first slots.count slot)
    (and_right (nat_le slots.first slot) (nat_lt slot (slots.first + slots.count)) (le-ltb slot (slots.first + slots.count) (omega (arith, above, far))))

-- ---- nothing written

module _ (slots : Written) (none : slots.count ≡ 0) where
  leaves_any : (slot : ℕ) → leaves_slot slots slot ≡ true
  leaves_any slot = elim (cases_lt slot slots.first) [
    | inl below ↦ left_below slots slot below
    | inr above ↦ left_at slots slot (omega (arith, above)) (omega (arith, none))
  ]

  leaves_any_operand : (operand : Operand) → leaves_operand slots operand ≡ true
  leaves_any_operand (operands.Slot number) = leaves_any number
  leaves_any_operand (operands.Word word) = refl

  keeps_any : (fact : Fact) → keeps slots touches.Nothing fact ≡ true
  keeps_any (facts_are.Equal slot operand) = and_from _ _ (leaves_any slot) (leaves_any_operand operand)
  keeps_any (facts_are.Computed slot operator left right) = and_from _ _ (leaves_any slot) (and_from _ _ (leaves_any_operand left) (leaves_any_operand right))
  keeps_any (facts_are.Holds comparison left right) = and_from _ _ (leaves_any_operand left) (leaves_any_operand right)
  keeps_any (facts_are.Held address offset value) = and_from _ _ (leaves_any_operand address) (and_from _ _ (leaves_any_operand value) refl)

  keeps_words : (t : Touched) (fact : Fact) → keeps slots t fact ≡ leaves_memory t fact
  keeps_words t (facts_are.Equal slot operand) = keeps_any (facts_are.Equal slot operand)
  keeps_words t (facts_are.Computed slot operator left right) = keeps_any (facts_are.Computed slot operator left right)
  keeps_words t (facts_are.Holds comparison left right) = keeps_any (facts_are.Holds comparison left right)
  keeps_words t (facts_are.Held address offset value) =
      ap (λ (is : Bool). is && (leaves_operand slots value && is_untouched t address offset)) (leaves_any_operand address)
      ∙ ap (λ (is : Bool). is && is_untouched t address offset) (leaves_any_operand value)

  pub memory_kept : (t : Touched) (facts : List Fact) → filter (leaves_memory t) facts ≡ kept slots t facts
  memory_kept t [] = refl
  memory_kept t (fact ∷ facts) =
      ap (λ (is : Bool). if is then fact ∷ filter (leaves_memory t) facts else filter (leaves_memory t) facts) (sym (keeps_words t fact))
      ∙ ap (λ (others : List Fact). if keeps slots t fact then fact ∷ others else others) (memory_kept t facts)

  none_written : (facts : List Fact) → kept slots touches.Nothing facts ≡ facts
  none_written [] = refl
  none_written (fact ∷ facts) =
      cond-true (keeps slots touches.Nothing fact) (fact ∷ kept slots touches.Nothing facts) (kept slots touches.Nothing facts) (keeps_any fact)
      ∙ ap (λ (others : List Fact). fact ∷ others) (none_written facts)

pub nothing_changed : (slots : Written) (t : Touched) (facts : List Fact) → changes_nothing slots t ≡ true → kept slots t facts ≡ facts
nothing_changed slots touches.Nothing facts none = none_written slots (eqb-true slots.count 0 none) facts
nothing_changed slots t facts none = absurd (false≢true none)

-- ---- one slot written

both_same : (a b c d : Bool) → a ≡ c → b ≡ d → (a && b) ≡ (c && d)
both_same a b c d first second = ap (λ (x : Bool). x && b) first ∙ ap (λ (x : Bool). c && x) second

with_true : (a b : Bool) → a ≡ b → (a && true) ≡ b
with_true true b same = same
with_true false b same = same

module _ (slots : Written) (one : slots.count ≡ 1) where
  leaves_others : (slot : ℕ) → leaves_slot slots slot ≡ not (slot == slots.first)
  leaves_others slot = elim (cases_lt slot slots.first) [
    | inl below ↦ left_below slots slot below ∙ sym (ap not (ne_eqb slot slots.first (λ (same : slot ≡ slots.first). omega (arith, below, same))))
    | inr above ↦ elim (cases_lt slots.first slot) [
      | inl over ↦
          left_at slots slot above (omega (arith, one, over)) ∙ sym (ap not (ne_eqb slot slots.first (λ (same : slot ≡ slots.first). omega (arith, over, same))))
      | inr not_over ↦
          let same : slot ≡ slots.first = omega (arith, above, not_over) in
          ap not (and_from _ _ (le-leb slots.first slot above) (lt-ltb slot (slots.first + slots.count) (omega (arith, one, same))) ∙ sym (eq-eqb slot slots.first same))
    ]
  ]

  leaves_other_operands : (operand : Operand) → leaves_operand slots operand ≡ not (is_slot operand slots.first)
  leaves_other_operands (operands.Slot number) = leaves_others number
  leaves_other_operands (operands.Word word) = refl

  keeps_others : (fact : Fact) → keeps slots touches.Nothing fact ≡ leaves_out slots.first fact
  keeps_others (facts_are.Equal slot operand) = both_same _ _ _ _ (leaves_others slot) (leaves_other_operands operand)
  keeps_others (facts_are.Computed slot operator left right) =
      both_same _ _ _ _ (leaves_others slot) (both_same _ _ _ _ (leaves_other_operands left) (leaves_other_operands right))
  keeps_others (facts_are.Holds comparison left right) = both_same _ _ _ _ (leaves_other_operands left) (leaves_other_operands right)
  keeps_others (facts_are.Held address offset value) =
      both_same _ _ _ _ (leaves_other_operands address) (with_true _ _ (leaves_other_operands value))

  others_kept : (facts : List Fact) → filter (leaves_out slots.first) facts ≡ kept slots touches.Nothing facts
  others_kept [] = refl
  others_kept (fact ∷ facts) =
      ap (λ (is : Bool). if is then fact ∷ filter (leaves_out slots.first) facts else filter (leaves_out slots.first) facts) (sym (keeps_others fact))
      ∙ ap (λ (others : List Fact). if keeps slots touches.Nothing fact then fact ∷ others else others) (others_kept facts)

pub one_changed : (slots : Written) (t : Touched) (facts : List Fact) → changes_one slots t ≡ true → filter (leaves_out slots.first) facts ≡ kept slots t facts
one_changed slots touches.Nothing facts one = others_kept slots (eqb-true slots.count 1 one) facts
one_changed slots t facts one = absurd (false≢true one)

-- ---- a word is its own replacement

pub simplified_word : (facts : List Fact) (word : ℕ) → simplified_operand facts (operands.Word word) ≡ operands.Word word
simplified_word [] word = refl
simplified_word (facts_are.Equal slot operand ∷ facts) word = simplified_word facts word
simplified_word (facts_are.Computed slot operator left right ∷ facts) word = simplified_word facts word
simplified_word (facts_are.Holds comparison left right ∷ facts) word = simplified_word facts word
simplified_word (facts_are.Held address offset value ∷ facts) word = simplified_word facts word
