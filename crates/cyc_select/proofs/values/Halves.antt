-- The immediates in machine instructions denote the words of the operands that they replace.
use Rattle.std.proofs.Common.{◌≡◌, ◌≢◌, ℕ, ◌+◌, ◌-◌, ◌%◌, ◌^◌, ◌<◌, ◌≤◌, ℤ, pos, ◌+ℤ◌, ◌-ℤ◌, Bool, true, false, not, Some, None, refl, sym, ap, subst, ◌∙◌, inl, inr, arith}
use Rattle.std.specs.Prelude.{◌==◌, nat_le, nat_lt, if◌then◌else◌}
use Rattle.std.proofs.lemmas.Bool.{cases_eq, cases_lt, eqb-true, ltb-true, leb-true, eq-eqb, or_cases}
use Rattle.std.proofs.lemmas.Int.{ints}
use Rattle.std.proofs.lemmas.Nat.{trailing_le}
use Rattle.std.specs.Int.Count.{count_trailing_zeros}
use Rattle.cyc_words.specs.Word.{IsWord, signed, sign_extended, add_of, sub_of}
use Rattle.cyc_words.proofs.Booleans.{and_left, and_right}
use Rattle.cyc_words.proofs.WordLemmas.{sign_extended_low, sign_extended_high, signed_low, signed_high, IsWord-add_of, IsWord-sub_of}
use Rattle.cyc_plain.specs.declared.instruction.Operand.{Operand}
use Rattle.cyc_plain.specs.declared.instruction.Operand.TheVariants as operands
use Rattle.cyc_plain.specs.inside.State.{Words}
use Rattle.cyc_plain.specs.inside.Step.{operand_word}
use Rattle.cyc_select.specs.inside.Numbers.{fits_signed, half_of, signed_half, negated_half, next_half, low_half, is_zero_word, is_plain_divisor, shift_amount, power_of}

pub fits_is : (word : ℕ) → IsWord word → fits_signed word ≡ true → sign_extended (word % 2 ^ 16) ≡ word
fits_is word is_word fits = elim (or_cases (nat_lt word (2 ^ 15)) (nat_le (2 ^ 32 - 2 ^ 15) word) fits) [
  | inl low ↦
      let below : word < 2 ^ 15 = ltb-true word (2 ^ 15) low in
      sign_extended_low (word % 2 ^ 16) (omega (arith, below)) ∙ (let e : word % 2 ^ 16 ≡ word = omega (arith, below) in e)
  | inr high ↦
      let above : 2 ^ 32 - 2 ^ 15 ≤ word = leb-true (2 ^ 32 - 2 ^ 15) word high in
      sign_extended_high (word % 2 ^ 16) (omega (arith, above, is_word)) (omega arith)
      ∙ (let e : word % 2 ^ 16 + (2 ^ 32 - 2 ^ 16) ≡ word = omega (arith, above, is_word) in e)
]

-- ---- 16-bit immediates

half_either : (word h : ℕ) (b : Bool) → fits_signed word ≡ b → (if b then Some (word % 2 ^ 16) else None) ≡ Some h → (h ≡ word % 2 ^ 16) × (fits_signed word ≡ true)
half_either word h true fits is = ((let e : Some (word % 2 ^ 16) ≡ Some h = is in let same : h ≡ word % 2 ^ 16 = cc in same), fits)
half_either word h false fits is = absurd (let e : None ≡ Some h = is in cc)

half_parts : (word h : ℕ) → half_of word ≡ Some h → (h ≡ word % 2 ^ 16) × (fits_signed word ≡ true)
half_parts word h is = half_either word h (fits_signed word) refl is

half_is : (word h : ℕ) → IsWord word → half_of word ≡ Some h → sign_extended h ≡ word
half_is word h is_word is =
    let parts = half_parts word h is in
    ap sign_extended parts.0 ∙ fits_is word is_word parts.1

half_below : (word h : ℕ) → half_of word ≡ Some h → h < 2 ^ 16
half_below word h is = omega (arith, (half_parts word h is).0)

low_either : (word h : ℕ) (b : Bool) → nat_lt word (2 ^ 16) ≡ b → (if b then Some word else None) ≡ Some h → (h ≡ word) × (h < 2 ^ 16)
low_either word h true below is =
    let same : h ≡ word = (let e : Some word ≡ Some h = is in let it : h ≡ word = cc in it) in
    (same, omega (arith, same, ltb-true word (2 ^ 16) below))
low_either word h false below is = absurd (let e : None ≡ Some h = is in cc)

module _ (slots : Words) where
  pub signed_is : (o : Operand) (h : ℕ) → IsWord (operand_word slots o) → signed_half o ≡ Some h → sign_extended h ≡ operand_word slots o
  signed_is (operands.Slot number) h fits is = absurd (let e : None ≡ Some h = is in cc)
  signed_is (operands.Word word) h fits is = half_is word h fits is

  pub negated_is : (o : Operand) (h : ℕ) → negated_half o ≡ Some h → sign_extended h ≡ sub_of 0 (operand_word slots o)
  negated_is (operands.Slot number) h is = absurd (let e : None ≡ Some h = is in cc)
  negated_is (operands.Word word) h is = half_is (sub_of 0 word) h (IsWord-sub_of 0 word) is

  pub next_is : (o : Operand) (h : ℕ) → next_half o ≡ Some h → sign_extended h ≡ add_of (operand_word slots o) 1
  next_is (operands.Slot number) h is = absurd (let e : None ≡ Some h = is in cc)
  next_is (operands.Word word) h is = half_is (add_of word 1) h (IsWord-add_of word 1) is

  -- If an operand's word plus 1 is available as an immediate, the operand is not the greatest signed word.
  pub next_not_greatest : (o : Operand) (h : ℕ) → next_half o ≡ Some h → operand_word slots o ≢ 2 ^ 31 - 1
  next_not_greatest (operands.Slot number) h is same = absurd (let e : None ≡ Some h = is in cc)
  next_not_greatest (operands.Word word) h is same =
      let fits = (half_parts (add_of word 1) h is).1 in
      let least : add_of word 1 ≡ 2 ^ 31 = omega (arith, same) in
      absurd (let e : false ≡ true = sym (ap fits_signed least) ∙ fits in cc)

  pub low_is : (o : Operand) (h : ℕ) → low_half o ≡ Some h → h ≡ operand_word slots o
  low_is (operands.Slot number) h is = absurd (let e : None ≡ Some h = is in cc)
  low_is (operands.Word word) h is = (low_either word h (nat_lt word (2 ^ 16)) refl is).0

  pub zero_is : (o : Operand) → is_zero_word o ≡ true → operand_word slots o ≡ 0
  zero_is (operands.Slot number) is = absurd (let e : false ≡ true = is in cc)
  zero_is (operands.Word word) is = eqb-true word 0 is

  pub amount_is : (o : Operand) (amount : ℕ) → shift_amount o ≡ Some amount → amount ≡ operand_word slots o % 32
  amount_is (operands.Slot number) amount is = absurd (let e : None ≡ Some amount = is in cc)
  amount_is (operands.Word word) amount is = let e : Some (word % 32) ≡ Some amount = is in let it : amount ≡ word % 32 = cc in it

  pub power_is : (o : Operand) (amount : ℕ) → IsWord (operand_word slots o) → power_of o ≡ Some amount → (2 ^ amount ≡ operand_word slots o) × (amount < 32)
  power_is (operands.Slot number) amount fits is = absurd (let e : None ≡ Some amount = is in cc)
  power_is (operands.Word word) amount fits is = go (2 ^ count_trailing_zeros 32 word == word) refl is
    where
      few : 2 ^ count_trailing_zeros 32 word ≡ word → count_trailing_zeros 32 word < 32
      few same = elim (cases_eq (count_trailing_zeros 32 word) 32) [
        | inl all ↦ absurd (let e : 2 ^ 32 ≡ word = ap (λ (n : ℕ). 2 ^ n) (sym all) ∙ same in omega (arith, e, fits))
        | inr fewer ↦ omega (arith, fewer, trailing_le 32 word)
      ]

      go : (b : Bool) → (2 ^ count_trailing_zeros 32 word == word) ≡ b → (if b then Some (count_trailing_zeros 32 word) else None) ≡ Some amount → (2 ^ amount ≡ word) × (amount < 32)
      go true same given =
          let here : count_trailing_zeros 32 word ≡ amount = (let e : Some (count_trailing_zeros 32 word) ≡ Some amount = given in cc) in
          let power : 2 ^ count_trailing_zeros 32 word ≡ word = eqb-true (2 ^ count_trailing_zeros 32 word) word same in
          (ap (λ (n : ℕ). 2 ^ n) (sym here) ∙ power, subst (λ (n : ℕ). n < 32) here (few power))
      go false other given = absurd (let e : None ≡ Some amount = given in cc)

  pub divisor_is : (o : Operand) → is_plain_divisor o ≡ true → (operand_word slots o ≢ 0) × (operand_word slots o ≢ 2 ^ 32 - 1)
  divisor_is (operands.Slot number) is = absurd (let e : false ≡ true = is in cc)
  divisor_is (operands.Word word) is =
      ((λ same. not_same word 0 same (and_left _ (not (word == 2 ^ 32 - 1)) is)), (λ same. not_same word (2 ^ 32 - 1) same (and_right (not (word == 0)) _ is)))
    where
      not_same : (a b : ℕ) → a ≡ b → not (a == b) ≡ true → ⊥
      not_same a b same other = absurd (let e : false ≡ true = sym (ap not (eq-eqb a b same)) ∙ other in cc)

-- ---- the immediates fit 16 bits

pub signed_fits : (o : Operand) (h : ℕ) → signed_half o ≡ Some h → h < 2 ^ 16
signed_fits (operands.Slot number) h is = absurd (let e : None ≡ Some h = is in cc)
signed_fits (operands.Word word) h is = half_below word h is

pub negated_half_fits : (o : Operand) (h : ℕ) → negated_half o ≡ Some h → h < 2 ^ 16
negated_half_fits (operands.Slot number) h is = absurd (let e : None ≡ Some h = is in cc)
negated_half_fits (operands.Word word) h is = half_below (sub_of 0 word) h is

pub next_fits : (o : Operand) (h : ℕ) → next_half o ≡ Some h → h < 2 ^ 16
next_fits (operands.Slot number) h is = absurd (let e : None ≡ Some h = is in cc)
next_fits (operands.Word word) h is = half_below (add_of word 1) h is

pub low_fits : (o : Operand) (h : ℕ) → low_half o ≡ Some h → h < 2 ^ 16
low_fits (operands.Slot number) h is = absurd (let e : None ≡ Some h = is in cc)
low_fits (operands.Word word) h is = (low_either word h (nat_lt word (2 ^ 16)) refl is).1

-- ---- successors as signed numbers

pub next_signed : (b : ℕ) → IsWord b → b ≢ 2 ^ 31 - 1 → signed (add_of b 1) ≡ signed b +ℤ pos 1
next_signed b is_word other = elim (cases_lt b (2 ^ 31)) [
  | inl low ↦
      let small : b + 1 < 2 ^ 31 = omega (arith, low, other) in
      let next : add_of b 1 ≡ b + 1 = omega (arith, low) in
      ap signed next ∙ (signed_low (b + 1) small ∙ (one_more b ∙ ap (λ (z : ℤ). z +ℤ pos 1) (sym (signed_low b low))))
  | inr high ↦ elim (cases_lt b (2 ^ 32 - 1)) [
    | inl below ↦
        let next : add_of b 1 ≡ b + 1 = omega (arith, below) in
        ap signed next ∙ (signed_high (b + 1) (omega (arith, high)) (omega (arith, below)) ∙ (one_more_below b ∙ ap (λ (z : ℤ). z +ℤ pos 1) (sym (signed_high b high is_word))))
    | inr last ↦
        let greatest : b ≡ 2 ^ 32 - 1 = omega (arith, last, is_word) in
        subst (λ (n : ℕ). signed (add_of n 1) ≡ signed n +ℤ pos 1) (sym greatest) refl
  ]
]
  where
    one_more : (n : ℕ) → pos (n + 1) ≡ pos n +ℤ pos 1
    one_more n = grind (arith, ints)

    one_more_below : (n : ℕ) → pos (n + 1) -ℤ pos (2 ^ 32) ≡ pos n -ℤ pos (2 ^ 32) +ℤ pos 1
    one_more_below n = grind (arith, ints)
