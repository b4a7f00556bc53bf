-- The machine's operations on words agree with the plain program's operators.
use Rattle.std.proofs.Common.{◌≡◌, ◌≢◌, ℕ, zero, suc, ◌+◌, ◌-◌, ◌*◌, ◌/◌, ◌%◌, ◌^◌, ◌<◌, ◌≤◌, ℤ, pos, negsuc, neg_ℤ, ◌*ℤ◌, Bool, not, sym, ap, subst, ◌∙◌, arith, inl, inr}
use Rattle.std.proofs.lemmas.Nat.{mul-le}
use Rattle.std.proofs.Math.IntN.{pos-*ℤ-pos, pos-*ℤ-negsuc, negsuc-*ℤ-pos, negsuc-*ℤ-negsuc}
use Rattle.std.specs.Prelude.{◌==◌, bit_or, FitsSigned}
use Rattle.std.specs.Int.{w32, w64, cast_unsigned}
use Rattle.std.proofs.lemmas.Bool.{cases_eq, cases_lt, eq-eqb, ne_eqb}
use Rattle.cyc_words.specs.Word.{IsWord, signed, unsigned, sign_extended, add_of, sub_of, mul_of, shl_of, sltu_of, div_of, rem_of}
use Rattle.cyc_words.proofs.WordLemmas.{FitsSigned-signed, sign_extended_low, sign_extended_high, bit_or-halves, mul_of-signed, sub_of-signed, sltu_of-one, sltu_of-zero}
use Rattle.cyc_words.proofs.Integers.{int_div-minus_one, int_rem-minus_one, zero_minus}
use Rattle.cyc_isa.specs.Effect.{load_upper_result, memory_address, low_result, high_result}
use Rattle.cyc_isa.specs.declared.instr.MultiplyDivideOp.TheVariants.{Multiply}
use Rattle.cyc_plain.specs.inside.Operators.{truth}
use Rattle.cyc_select.specs.declared.constants.TheConstants.{GLOBALS_MIDDLE, NEAR_GLOBALS}
use Rattle.cyc_machine_model.specs.State.{data_base}

-- ---- constants and addresses

pub two_halves : (word : ℕ) → IsWord word → bit_or (load_upper_result (word / 2 ^ 16)) (word % 2 ^ 16) ≡ word
two_halves word is_word =
    let upper : load_upper_result (word / 2 ^ 16) ≡ shl_of (word / 2 ^ 16) 16 = omega arith in
    ap (λ (x : ℕ). bit_or x (word % 2 ^ 16)) upper ∙ bit_or-halves word is_word

pub address_at : (base offset : ℕ) → offset < 2 ^ 15 → base + offset < 2 ^ 32 → memory_address base offset ≡ base + offset
address_at base offset small fits = ap (add_of base) (sign_extended_low offset small) ∙ (let e : add_of base offset ≡ base + offset = omega arith in e)

pub add_small : (a number : ℕ) → number < 2 ^ 15 → a + number < 2 ^ 32 → add_of a (sign_extended number) ≡ a + number
add_small a number small fits = ap (add_of a) (sign_extended_low number small) ∙ (let e : add_of a number ≡ a + number = omega arith in e)

pub take_small : (a number : ℕ) → IsWord a → 0 < number → number ≤ 2 ^ 15 → number ≤ a → add_of a (sign_extended (2 ^ 16 - number)) ≡ a - number
take_small a number is_word some small fits =
    ap (add_of a) (sign_extended_high (2 ^ 16 - number) (omega arith) (omega arith))
    ∙ (let e : add_of a (2 ^ 16 - number + (2 ^ 32 - 2 ^ 16)) ≡ a - number = omega arith in e)

-- The address of a global is the sum of an upper half and a sign-extended 16-bit offset.
pub global_lies : (address : ℕ) → IsWord address → memory_address (load_upper_result ((address + 2 ^ 15) / 2 ^ 16)) (address % 2 ^ 16) ≡ address
global_lies address is_word = elim (cases_lt (address % 2 ^ 16) (2 ^ 15)) [
  | inl low ↦
      ap (add_of (load_upper_result ((address + 2 ^ 15) / 2 ^ 16))) (sign_extended_low (address % 2 ^ 16) low)
      ∙ (let e : add_of (load_upper_result ((address + 2 ^ 15) / 2 ^ 16)) (address % 2 ^ 16) ≡ address = omega (arith, low) in e)
  | inr high ↦
      ap (add_of (load_upper_result ((address + 2 ^ 15) / 2 ^ 16))) (sign_extended_high (address % 2 ^ 16) high (omega arith))
      ∙ (let e : add_of (load_upper_result ((address + 2 ^ 15) / 2 ^ 16)) (address % 2 ^ 16 + (2 ^ 32 - 2 ^ 16)) ≡ address = omega (arith, high) in e)
]

-- The address of a global near the base register is the sum of the base address and a sign-extended 16-bit offset.
pub near_lies : (global : ℕ) → global < NEAR_GLOBALS → memory_address GLOBALS_MIDDLE ((data_base + 4 * global + 2 ^ 15) % 2 ^ 16) ≡ data_base + 4 * global
near_lies global near = elim (cases_lt global (2 ^ 13)) [
  | inl low ↦
      ap (add_of GLOBALS_MIDDLE) (sign_extended_high ((data_base + 4 * global + 2 ^ 15) % 2 ^ 16) (omega (arith, low)) (omega arith))
      ∙ (let e : add_of GLOBALS_MIDDLE ((data_base + 4 * global + 2 ^ 15) % 2 ^ 16 + (2 ^ 32 - 2 ^ 16)) ≡ data_base + 4 * global = omega (arith, low) in e)
  | inr high ↦
      ap (add_of GLOBALS_MIDDLE) (sign_extended_low ((data_base + 4 * global + 2 ^ 15) % 2 ^ 16) (omega (arith, near, high)))
      ∙ (let e : add_of GLOBALS_MIDDLE ((data_base + 4 * global + 2 ^ 15) % 2 ^ 16) ≡ data_base + 4 * global = omega (arith, near, high) in e)
]

-- ---- tests

pub one_extended : sign_extended 1 ≡ 1
one_extended = sign_extended_low 1 (omega arith)

pub zero_test : (a : ℕ) → sltu_of a (sign_extended 1) ≡ truth (a == 0)
zero_test a = ap (sltu_of a) one_extended ∙ elim (cases_eq a 0) [
  | inl is_zero ↦ sltu_of-one a 1 (omega arith) ∙ sym (ap truth (eq-eqb a 0 is_zero))
  | inr other ↦ sltu_of-zero a 1 (omega (arith, positive other)) ∙ sym (ap truth (ne_eqb a 0 other))
]
  where
    positive : a ≢ 0 → 1 ≤ a
    positive other = omega (arith, other)

sub_zero : (a b : ℕ) → IsWord a → IsWord b → a ≡ b → sub_of a b ≡ 0
sub_zero a b is_a is_b same = omega arith

sub_other : (a b : ℕ) → IsWord a → IsWord b → a ≢ b → sub_of a b ≢ 0
sub_other a b is_a is_b other is_zero = other (omega arith)

pub difference_zero : (a b : ℕ) → IsWord a → IsWord b → (sub_of a b == 0) ≡ (a == b)
difference_zero a b is_a is_b = elim (cases_eq a b) [
  | inl same ↦ eq-eqb (sub_of a b) 0 (sub_zero a b is_a is_b same) ∙ sym (eq-eqb a b same)
  | inr other ↦ ne_eqb (sub_of a b) 0 (sub_other a b is_a is_b other) ∙ sym (ne_eqb a b other)
]

pub not_zero_test : (a : ℕ) → sltu_of 0 a ≡ truth (not (a == 0))
not_zero_test a = elim (cases_eq a 0) [
  | inl is_zero ↦ sltu_of-zero 0 a (omega (arith, is_zero)) ∙ sym (ap (λ (t : Bool). truth (not t)) (eq-eqb a 0 is_zero))
  | inr other ↦ sltu_of-one 0 a (positive other) ∙ sym (ap (λ (t : Bool). truth (not t)) (ne_eqb a 0 other))
]
  where
    positive : a ≢ 0 → 0 < a
    positive other = omega (arith, other)

-- ---- products

-- `IsNear` says that an integer is at least -2^63.
abbrev IsNear : ℤ → Type 0
IsNear (pos n) = Unit {0}
IsNear (negsuc n) = n < 2 ^ 63

near_negated : (k : ℕ) → k ≤ 2 ^ 62 → IsNear (neg_ℤ (pos k))
near_negated zero few = tt
near_negated (suc k) few = omega arith

near_product : (x y : ℤ) → FitsSigned w32 x → FitsSigned w32 y → IsNear (x *ℤ y)
near_product (pos m) (pos n) f g = subst IsNear (sym (pos-*ℤ-pos m n)) tt
near_product (pos m) (negsuc n) f g =
    subst IsNear (sym (pos-*ℤ-negsuc m n))
    (near_negated (m * suc n) (omega (arith, mul-le m (suc n) (2 ^ 31) (2 ^ 31) (omega (arith, f.sfits)) (omega (arith, g.sfits)))))
near_product (negsuc m) (pos n) f g =
    subst IsNear (sym (negsuc-*ℤ-pos m n))
    (near_negated (suc m * n) (omega (arith, mul-le (suc m) n (2 ^ 31) (2 ^ 31) (omega (arith, f.sfits)) (omega (arith, g.sfits)))))
near_product (negsuc m) (negsuc n) f g = subst IsNear (sym (negsuc-*ℤ-negsuc m n)) tt

lower : (z : ℤ) → IsNear z → cast_unsigned w64 z % 2 ^ 32 ≡ unsigned z
lower (pos n) near = omega arith
lower (negsuc n) near = omega (arith, near)

pub low_product : (a b : ℕ) → IsWord a → IsWord b → low_result Multiply a b ≡ mul_of a b
low_product a b is_a is_b =
    lower (signed a *ℤ signed b) (near_product (signed a) (signed b) (FitsSigned-signed a is_a) (FitsSigned-signed b is_b))
    ∙ sym (mul_of-signed a b is_a is_b)

-- ---- quotients by -1

-- The quotient of a word by -1 is the low word of its product with -1, and the remainder is the product of 0 and 0.
pub product_quotient : (a : ℕ) → IsWord a → low_result Multiply a (2 ^ 32 - 1) ≡ div_of a (2 ^ 32 - 1)
unfolding div_of
product_quotient a is_a =
    low_product a (2 ^ 32 - 1) is_a (omega arith)
    ∙ ((let e : mul_of a (2 ^ 32 - 1) ≡ sub_of 0 a = omega (arith, is_a) in e)
    ∙ (sub_of-signed 0 a (omega arith) is_a
    ∙ (ap unsigned (zero_minus (signed a)) ∙ sym (ap unsigned (int_div-minus_one (signed a))))))

pub product_remainder : (a : ℕ) → high_result Multiply 0 0 ≡ rem_of a (2 ^ 32 - 1)
unfolding rem_of
product_remainder a = sym (ap unsigned (int_rem-minus_one (signed a)))
