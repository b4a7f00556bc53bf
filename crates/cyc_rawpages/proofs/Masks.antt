-- Lemmas about a mask of `count` bits from a given bit on, as the code computes it.
use Rattle.std.proofs.Common.{◌≡◌, ℕ, ◌+◌, ◌-◌, ◌*◌, ◌%◌, ◌^◌, ◌<◌, ◌≤◌, ap, ◌∙◌, arith, inl, inr, pow_mono}
use Rattle.std.specs.Prelude.{◌⊎◌, bit_and, bit_or, bit_xor}
use Rattle.std.specs.Int.{bit_at}
use Rattle.std.proofs.lemmas.Nat.{one_shl}
use Rattle.std.proofs.lemmas.Nat.Bits.{bit_at_and, bit_at_or, bit_at_xor, bit_at-lt, bit_at_mask_inside, bit_at_mask_below, bit_at_mask_above}

abbrev pub mask_of : (first count : ℕ) → ℕ
mask_of first count = 1 * 2 ^ (first + count) % 2 ^ 64 - 1 * 2 ^ first % 2 ^ 64

module _ (first count : ℕ) (short : first + count ≤ 32) where
  low : 1 * 2 ^ first % 2 ^ 64 ≡ 2 ^ first
  low = one_shl first 64 (omega (arith, short))

  high : 1 * 2 ^ (first + count) % 2 ^ 64 ≡ 2 ^ (first + count)
  high = one_shl (first + count) 64 (omega (arith, short))

  pub mask-fits : 1 * 2 ^ first % 2 ^ 64 ≤ 1 * 2 ^ (first + count) % 2 ^ 64
  mask-fits = let more : 2 ^ first ≤ 2 ^ (first + count) = pow_mono (omega arith) in rw (low, high) more

  mask-is : mask_of first count ≡ 2 ^ (first + count) - 2 ^ first
  mask-is = λ j. high j - low j

  pub mask-inside : (i : ℕ) → first ≤ i → i < first + count → bit_at (mask_of first count) i ≡ 1
  mask-inside i from to = ap (λ m. bit_at m i) mask-is ∙ bit_at_mask_inside first (first + count) i from to

  pub mask-outside : (i : ℕ) → (i < first) ⊎ (first + count ≤ i) → bit_at (mask_of first count) i ≡ 0
  mask-outside i (inl below) = ap (λ m. bit_at m i) mask-is ∙ bit_at_mask_below first (first + count) i below
  mask-outside i (inr past) = ap (λ m. bit_at m i) mask-is ∙ bit_at_mask_above first (first + count) i past

-- An `or` with a mask sets exactly the bits of the mask.
pub set-in : (w m i : ℕ) → bit_at m i ≡ 1 → bit_at (bit_or w m) i ≡ 1
set-in w m i one = let or = bit_at_or w m i in let bit = bit_at-lt w i in omega (arith, or, bit, one)

pub set-out : (w m i : ℕ) → bit_at m i ≡ 0 → bit_at (bit_or w m) i ≡ bit_at w i
set-out w m i none = let or = bit_at_or w m i in omega (arith, or, none)

-- Clearing the bits of a mask in a word clears exactly these bits.
pub cleared-in : (w m i : ℕ) → bit_at m i ≡ 1 → bit_at (bit_xor w (bit_and w m)) i ≡ 0
cleared-in w m i one = let xor = bit_at_xor w (bit_and w m) i in let and = bit_at_and w m i in let bit = bit_at-lt w i in omega (arith, xor, and, bit, one)

pub cleared-out : (w m i : ℕ) → bit_at m i ≡ 0 → bit_at (bit_xor w (bit_and w m)) i ≡ bit_at w i
cleared-out w m i none = let xor = bit_at_xor w (bit_and w m) i in let and = bit_at_and w m i in let bit = bit_at-lt w i in omega (arith, xor, and, bit, none)
