-- This file has laws of words that other crates cite.
use Rattle.std.proofs.Common.{◌≡◌, ◌≢◌, ℕ, zero, suc, ◌+◌, ◌-◌, ◌*◌, ◌/◌, ◌%◌, ◌^◌, ◌<◌, ◌≤◌, ℤ, pos, negsuc, ◌+ℤ◌, ◌-ℤ◌, ◌*ℤ◌, neg_ℤ, ◌≤ℤ◌, ◌<ℤ◌, refl, sym, ap, inl, inr, ◌∙◌, arith, rules}
use Rattle.std.specs.Prelude.{◌⊎◌, ◌↔◌, FitsSigned, bit_and, bit_or, bit_xor, int_div, int_rem}
use Rattle.std.specs.Int.{w16, w32, bit_at, int_wrap}
use Rattle.std.proofs.lemmas.Int.{ints, int_wrap-mul_left, int_wrap-mul_right, wrapping_mul-bits, quot-rem}
use Rattle.std.proofs.lemmas.Nat.{or_shifted, or_of_32, xor_of_32, and_le_l}
use Rattle.std.proofs.lemmas.Bool.{cases_lt}
use Rattle.std.proofs.lemmas.Nat.Bits.{same_from_bits_below}
use Rattle.std.proofs.Math.Nat.{div-le_self, div-mul-le_self}
use lib.Signed.{mag_rem}
use Rattle.cyc_words.specs.Word.{IsWord, IsHalf, signed, unsigned, signed_half, sign_extended, floor_div, add_of, sub_of, mul_of, shl_of, shr_of, sar_of, slt_of, sltu_of, div_of, rem_of}

-- ---- the signed and the unsigned view of a word

-- the signed and the unsigned view of a word determine each other
pub unsigned-signed : (w : ℕ) → IsWord w → unsigned (signed w) ≡ w
unsigned-signed w h = grind (arith, ints)

pub signed-unsigned : (z : ℤ) → FitsSigned w32 z → signed (unsigned z) ≡ z
signed-unsigned z h = grind (arith, ints)

pub IsWord-unsigned : (z : ℤ) → IsWord (unsigned z)
IsWord-unsigned (pos n) = omega arith
IsWord-unsigned (negsuc n) = omega arith

pub FitsSigned-signed : (w : ℕ) → IsWord w → FitsSigned w32 (signed w)
FitsSigned-signed w h = search (rules, ints)

-- The signed meaning of a word below 2 ^ 31 is the word itself. The next lemma gives the signed meaning of a word from 2 ^ 31 on.
pub signed_low : (w : ℕ) → w < 2 ^ 31 → signed w ≡ pos w
signed_low w h = omega (arith, ints)

pub signed_high : (w : ℕ) → 2 ^ 31 ≤ w → IsWord w → signed w ≡ pos w -ℤ pos (2 ^ 32)
signed_high w high h = grind (arith, ints)

-- the signed and the unsigned view of a word agree modulo 2 ^ 32
pub views_agree : (w : ℕ) → IsWord w → (signed w ≡ pos w) ⊎ (signed w ≡ pos w -ℤ pos (2 ^ 32))
views_agree w h = elim (cases_lt w (2 ^ 31)) [ inl low ↦ inl (signed_low w low) | inr high ↦ inr (signed_high w high h) ]

-- ---- sums, differences and products
pub IsWord-add_of : (a b : ℕ) → IsWord (add_of a b)
IsWord-add_of a b = omega arith

pub IsWord-sub_of : (a b : ℕ) → IsWord (sub_of a b)
IsWord-sub_of a b = omega arith

pub IsWord-mul_of : (a b : ℕ) → IsWord (mul_of a b)
IsWord-mul_of a b = omega arith

-- Wrapping a sum, difference or product of integers equals the same operation on their wrapped words.
pub unsigned-add : (x y : ℤ) → unsigned (x +ℤ y) ≡ add_of (unsigned x) (unsigned y)
unsigned-add (pos x) (pos y) = omega arith
unsigned-add (pos x) (negsuc y) = grind (arith, ints)
unsigned-add (negsuc x) (pos y) = grind (arith, ints)
unsigned-add (negsuc x) (negsuc y) = omega arith

pub unsigned-sub : (x y : ℤ) → unsigned (x -ℤ y) ≡ sub_of (unsigned x) (unsigned y)
unsigned-sub (pos x) (pos y) = grind (arith, ints)
unsigned-sub (pos x) (negsuc y) = grind (arith, ints)
unsigned-sub (negsuc x) (pos y) = grind (arith, ints)
unsigned-sub (negsuc x) (negsuc y) = grind (arith, ints)

-- The signed meaning of a wrapped integer equals the result of std's wrapping of an integer to 32 signed bits.
signed-unsigned_wraps : (z : ℤ) → signed (unsigned z) ≡ int_wrap w32 z
unfolding int_wrap
signed-unsigned_wraps (pos n) = refl
signed-unsigned_wraps (negsuc n) = refl

pub unsigned-mul : (x y : ℤ) → unsigned (x *ℤ y) ≡ mul_of (unsigned x) (unsigned y)
unsigned-mul x y =
    let product : signed (mul_of (unsigned x) (unsigned y)) ≡ int_wrap w32 (signed (unsigned x) *ℤ signed (unsigned y)) =
    wrapping_mul-bits w32 (unsigned x) (unsigned y) (IsWord-unsigned x) (IsWord-unsigned y) in
    let wrapped : int_wrap w32 (signed (unsigned x) *ℤ signed (unsigned y)) ≡ int_wrap w32 (x *ℤ y) =
    rw (signed-unsigned_wraps x, signed-unsigned_wraps y) (int_wrap-mul_left w32 x (int_wrap w32 y) ∙ int_wrap-mul_right w32 x y) in
    sym (unsigned-signed (unsigned (x *ℤ y)) (IsWord-unsigned (x *ℤ y)))
    ∙ ap unsigned (signed-unsigned_wraps (x *ℤ y) ∙ sym wrapped ∙ sym product)
    ∙ unsigned-signed (mul_of (unsigned x) (unsigned y)) (IsWord-mul_of (unsigned x) (unsigned y))

-- The operations on words equal the operations on their signed meanings, wrapped to 32 bits.
pub add_of-signed : (a b : ℕ) → IsWord a → IsWord b → add_of a b ≡ unsigned (signed a +ℤ signed b)
add_of-signed a b ha hb = simp (unsigned-add, unsigned-signed)

pub sub_of-signed : (a b : ℕ) → IsWord a → IsWord b → sub_of a b ≡ unsigned (signed a -ℤ signed b)
sub_of-signed a b ha hb = simp (unsigned-sub, unsigned-signed)

pub mul_of-signed : (a b : ℕ) → IsWord a → IsWord b → mul_of a b ≡ unsigned (signed a *ℤ signed b)
mul_of-signed a b ha hb = simp (unsigned-mul, unsigned-signed)

-- ---- right shifts, quotients and remainders

-- an arithmetic right shift rounds the quotient of the signed meaning down
FitsSigned-floor_div : (z : ℤ) (d : ℕ) → FitsSigned w32 z → FitsSigned w32 (floor_div z d)
FitsSigned-floor_div (pos n) d h = record { sfits = omega (arith, h.sfits, div-le_self n d) }
FitsSigned-floor_div (negsuc n) d h = record { sfits = omega (arith, h.sfits, div-le_self n d) }

pub signed-sar_of : (a k : ℕ) → IsWord a → signed (sar_of a k) ≡ floor_div (signed a) (2 ^ (k % 32))
unfolding sar_of
signed-sar_of a k h = signed-unsigned (floor_div (signed a) (2 ^ (k % 32))) (FitsSigned-floor_div (signed a) (2 ^ (k % 32)) (FitsSigned-signed a h))

-- The quotient times the divisor plus the remainder is the dividend, even if the quotient wraps.
pub divided : (a b : ℕ) → IsWord a → IsWord b → add_of (mul_of (div_of a b) b) (rem_of a b) ≡ a
unfolding div_of rem_of
divided a b ha hb =
    let again : unsigned (int_div (signed a) (signed b) *ℤ signed b +ℤ int_rem (signed a) (signed b)) ≡ a =
    ap unsigned (quot-rem (signed a) (signed b)) ∙ unsigned-signed a ha in
    let parts : unsigned (int_div (signed a) (signed b) *ℤ signed b +ℤ int_rem (signed a) (signed b)) ≡ add_of (mul_of (div_of a b) (unsigned (signed b))) (rem_of a b) =
    simp (unsigned-add, unsigned-mul) in
    ap (λ (x : ℕ). add_of (mul_of (div_of a b) x) (rem_of a b)) (sym (unsigned-signed b hb)) ∙ sym parts ∙ again

-- The quotient of two words fits into 32 bits, except for -2 ^ 31 divided by -1; the remainder always fits.
FitsSigned-neg : (n : ℕ) → n ≤ 2 ^ 31 → FitsSigned w32 (neg_ℤ (pos n))
FitsSigned-neg zero h = record { sfits = omega arith }
FitsSigned-neg (suc n) h = record { sfits = omega arith }

FitsSigned-int_div : (x y : ℤ) → FitsSigned w32 x → (x ≡ negsuc (2 ^ 31 - 1) → y ≢ negsuc 0) → FitsSigned w32 (int_div x y)
FitsSigned-int_div (pos a) (pos b) h no_overflow = record { sfits = omega (arith, h.sfits, div-le_self a b) }
FitsSigned-int_div (pos a) (negsuc b) h no_overflow = FitsSigned-neg (a / suc b) (omega (arith, h.sfits, div-le_self a (suc b)))
FitsSigned-int_div (negsuc a) (pos b) h no_overflow = FitsSigned-neg (suc a / b) (omega (arith, h.sfits, div-le_self (suc a) b))
FitsSigned-int_div (negsuc a) (negsuc zero) h no_overflow =
    let not_least : a ≢ 2 ^ 31 - 1 = λ e. no_overflow (ap negsuc e) refl in
    record { sfits = omega (arith, h.sfits) }
FitsSigned-int_div (negsuc a) (negsuc (suc b)) h no_overflow =
    record { sfits = omega (arith, h.sfits, div-mul-le_self (suc a) (suc (suc b))) }

pub signed-div_of : (a b : ℕ) → IsWord a → IsWord b → (a ≡ 2 ^ 31 → b ≢ 2 ^ 32 - 1) → signed (div_of a b) ≡ int_div (signed a) (signed b)
unfolding div_of
signed-div_of a b ha hb no_overflow =
    signed-unsigned (int_div (signed a) (signed b)) (FitsSigned-int_div (signed a) (signed b) (FitsSigned-signed a ha)
    (λ least minus_one. no_overflow
    (sym (unsigned-signed a ha) ∙ ap unsigned least) (sym (unsigned-signed b hb) ∙ ap unsigned minus_one)))

-- -2 ^ 31 by -1 wraps to -2 ^ 31, with the remainder 0
pub least_by_minus_one : (div_of (2 ^ 31) (2 ^ 32 - 1) ≡ 2 ^ 31) × (rem_of (2 ^ 31) (2 ^ 32 - 1) ≡ 0)
unfolding div_of rem_of
least_by_minus_one = (refl, refl)

FitsSigned-int_rem : (x y : ℤ) → FitsSigned w32 x → FitsSigned w32 (int_rem x y)
FitsSigned-int_rem x y h = record { sfits = omega (arith, h.sfits, mag_rem x y) }

pub signed-rem_of : (a b : ℕ) → IsWord a → signed (rem_of a b) ≡ int_rem (signed a) (signed b)
unfolding rem_of
signed-rem_of a b ha = signed-unsigned (int_rem (signed a) (signed b)) (FitsSigned-int_rem (signed a) (signed b) (FitsSigned-signed a ha))

-- ---- results of the other operations fit into a word
pub IsWord-shl_of : (a k : ℕ) → IsWord (shl_of a k)
IsWord-shl_of a k = omega arith

pub IsWord-shr_of : (a k : ℕ) → IsWord a → IsWord (shr_of a k)
IsWord-shr_of a k h = grind arith

pub IsWord-sar_of : (a k : ℕ) → IsWord (sar_of a k)
unfolding sar_of
IsWord-sar_of a k = IsWord-unsigned (floor_div (signed a) (2 ^ (k % 32)))

pub IsWord-div_of : (a b : ℕ) → IsWord (div_of a b)
unfolding div_of
IsWord-div_of a b = IsWord-unsigned (int_div (signed a) (signed b))

pub IsWord-rem_of : (a b : ℕ) → IsWord (rem_of a b)
unfolding rem_of
IsWord-rem_of a b = IsWord-unsigned (int_rem (signed a) (signed b))

pub IsWord-slt_of : (a b : ℕ) → IsWord (slt_of a b)
unfolding slt_of
IsWord-slt_of a b = grind arith

pub IsWord-sltu_of : (a b : ℕ) → IsWord (sltu_of a b)
IsWord-sltu_of a b = grind arith

pub IsWord-bit_and : (a b : ℕ) → IsWord a → IsWord (bit_and a b)
IsWord-bit_and a b h = omega (arith, and_le_l a b)

pub IsWord-bit_or : (a b : ℕ) → IsWord a → IsWord b → IsWord (bit_or a b)
IsWord-bit_or a b ha hb = or_of_32 a b ha hb

pub IsWord-bit_xor : (a b : ℕ) → IsWord a → IsWord b → IsWord (bit_xor a b)
IsWord-bit_xor a b ha hb = xor_of_32 a b ha hb

-- ---- comparisons

-- a comparison is 1 or 0, according to the order of the signed meanings
pub slt_of_cases : (a b : ℕ) → ((slt_of a b ≡ 1) × (signed a <ℤ signed b)) ⊎ ((slt_of a b ≡ 0) × (signed b ≤ℤ signed a))
unfolding slt_of
slt_of_cases a b = grind (arith, ints)

pub sltu_of_cases : (a b : ℕ) → ((sltu_of a b ≡ 1) × (a < b)) ⊎ ((sltu_of a b ≡ 0) × (b ≤ a))
sltu_of_cases a b = grind arith

pub sltu_of-one : (a b : ℕ) → a < b → sltu_of a b ≡ 1
sltu_of-one a b h = grind arith

pub sltu_of-zero : (a b : ℕ) → b ≤ a → sltu_of a b ≡ 0
sltu_of-zero a b h = grind arith

-- ---- bits

-- Two words with equal bits are equal.
pub same_bits : (a b : ℕ) → IsWord a → IsWord b → ((i : ℕ) → i < 32 → bit_at a i ≡ bit_at b i) → a ≡ b
same_bits a b ha hb same = same_from_bits_below 32 a b ha hb same

-- the highest bit of a word is set exactly if its signed meaning is negative
pub sign_bit : (w : ℕ) → IsWord w → (bit_at w 31 ≡ 1) ↔ (signed w <ℤ pos 0)
sign_bit w h = (λ e. grind (arith, ints), λ e. grind (arith, ints))

-- ---- halves of a word

-- The high half of a word times 2 ^ 16 plus its low half is the word.
pub halves : (w : ℕ) → (w / 2 ^ 16) * 2 ^ 16 + w % 2 ^ 16 ≡ w
halves w = omega arith

pub IsHalf-high : (w : ℕ) → IsWord w → IsHalf (w / 2 ^ 16)
IsHalf-high w h = omega arith

pub IsHalf-low : (w : ℕ) → IsHalf (w % 2 ^ 16)
IsHalf-low w = omega arith

-- A bitwise OR of a high halfword, shifted left by 16 bits, and a low halfword yields the sum of both.
pub bit_or-shl_of : (h l : ℕ) → IsHalf h → IsHalf l → bit_or (shl_of h 16) l ≡ h * 2 ^ 16 + l
bit_or-shl_of h l hh hl =
    let whole : shl_of h 16 ≡ h * 2 ^ 16 = omega arith in
    rw whole (or_shifted h 16 l hl)

-- Loading the high half of a word and setting its low half yields the word.
pub bit_or-halves : (w : ℕ) → IsWord w → bit_or (shl_of (w / 2 ^ 16) 16) (w % 2 ^ 16) ≡ w
bit_or-halves w h = bit_or-shl_of (w / 2 ^ 16) (w % 2 ^ 16) (IsHalf-high w h) (IsHalf-low w) ∙ halves w

-- ---- sign extension of a half

-- sign extension keeps the signed meaning of a half
pub signed-sign_extended : (h : ℕ) → IsHalf h → signed (sign_extended h) ≡ signed_half h
unfolding sign_extended
signed-sign_extended h hh = grind (arith, ints)

-- The sign extension of a half, depending on the highest bit of the half.
pub sign_extended_low : (h : ℕ) → h < 2 ^ 15 → sign_extended h ≡ h
unfolding sign_extended
sign_extended_low h hh = grind (arith, ints)

pub sign_extended_high : (h : ℕ) → 2 ^ 15 ≤ h → IsHalf h → sign_extended h ≡ h + (2 ^ 32 - 2 ^ 16)
unfolding sign_extended
sign_extended_high h high hh = grind (arith, ints)

-- If the signed meaning of a word fits in 16 bits, then the word is the sign extension of its low half.
pub sign_extended-low_half : (w : ℕ) → IsWord w → FitsSigned w16 (signed w) → sign_extended (w % 2 ^ 16) ≡ w
unfolding sign_extended
sign_extended-low_half w h fits = grind (arith, ints)
