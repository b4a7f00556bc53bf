-- This file has lemmas on the order of integers, on the tests of this order, and on quotients.
use Rattle.std.proofs.Common.{◌≡◌, ℤ, not, arith, true, ℕ, suc, ◌/◌, pos, negsuc, neg_ℤ, ap, ◌%◌, ◌-ℤ◌, ◌^◌, ◌<◌, zero, lit<}
use Rattle.std.specs.Prelude.{int_le, int_lt, int_div, int_rem}
use Rattle.std.proofs.lemmas.Int.{ints}
use Rattle.std.specs.Int.{w64, cast_unsigned}

-- ---- order

pub int_lt-not_le : (x y : ℤ) → int_lt y x ≡ not (int_le x y)
int_lt-not_le x y = grind (arith, ints)

pub int_le-not_lt : (x y : ℤ) → int_le x y ≡ not (int_lt y x)
int_le-not_lt x y = grind (arith, ints)

pub not_int_le : (x y : ℤ) → not (int_le x y) ≡ int_lt y x
not_int_le x y = grind (arith, ints)

pub int_le-same : (x y : ℤ) → x ≡ y → int_le x y ≡ true
int_le-same x y same = grind (arith, same)

pub int_le-below : (x y : ℤ) → int_lt x y ≡ true → int_le x y ≡ true
int_le-below x y below = grind (arith, below)

pub int_lt-not_same : (x y : ℤ) → int_lt x y ≡ true → x ≡ y → ⊥
int_lt-not_same x y below same = grind (arith, below, same)

-- ---- quotients and differences

pub int_div-minus_one : (z : ℤ) → int_div z (negsuc 0) ≡ neg_ℤ z
int_div-minus_one (pos n) = ap (λ (x : ℕ). neg_ℤ (pos x)) (let e : n / 1 ≡ n = omega arith in e)
int_div-minus_one (negsuc n) = ap pos (let e : suc n / 1 ≡ suc n = omega arith in e)

pub int_rem-minus_one : (z : ℤ) → int_rem z (negsuc 0) ≡ pos 0
int_rem-minus_one (pos n) = ap pos (let e : n % 1 ≡ 0 = omega arith in e)
int_rem-minus_one (negsuc n) = ap (λ (x : ℕ). neg_ℤ (pos x)) (let e : suc n % 1 ≡ 0 = omega arith in e)

pub zero_minus : (z : ℤ) → pos 0 -ℤ z ≡ neg_ℤ z
zero_minus z = grind (arith, ints)

pub negated_below_wide_word : (k : ℕ) → cast_unsigned w64 (neg_ℤ (pos k)) < 2 ^ 64
negated_below_wide_word zero = lit< tt
negated_below_wide_word (suc k) = omega arith
