-- This file is about the bits of a conjunction, of a disjunction, and of a word minus one.
use Rattle.std.proofs.Common.{◌≡◌, ℕ, zero, suc, ◌-◌, ◌/◌, ◌%◌, ◌<◌, sym, ap, ◌∙◌, arith, max, min, inl, inr}
use Rattle.std.specs.Prelude.{◌⊎◌, bit_and, bit_or}
use Rattle.std.specs.Int.{bit_at}
use Rattle.std.proofs.lemmas.Nat.Bits.{bit_at_and, bit_at_or, bit_at-lt, bit_at-zero, bit_at-suc, bit_at_lowest}
use Rattle.std.proofs.lemmas.Bool.{cases_lt}

one_max : (x : ℕ) → x < 2 → max 1 x ≡ 1
one_max x small = omega (arith, small)

max_one : (x : ℕ) → x < 2 → max x 1 ≡ 1
max_one x small = omega (arith, small)

pub bit_left : (a b j : ℕ) → bit_at a j ≡ 1 → bit_at (bit_or a b) j ≡ 1
bit_left a b j is = bit_at_or a b j ∙ (ap (λ (n : ℕ). max n (bit_at b j)) is ∙ one_max (bit_at b j) (bit_at-lt b j))

pub bit_right : (a b j : ℕ) → bit_at b j ≡ 1 → bit_at (bit_or a b) j ≡ 1
bit_right a b j is = bit_at_or a b j ∙ (ap (max (bit_at a j)) is ∙ max_one (bit_at a j) (bit_at-lt a j))

pub bit_both : (a b j : ℕ) → bit_at a j ≡ 1 → bit_at b j ≡ 1 → bit_at (bit_and a b) j ≡ 1
bit_both a b j first second = bit_at_and a b j ∙ (ap (λ (x : ℕ). min x (bit_at b j)) first ∙ ap (min 1) second)

pub bit_within : (part whole j : ℕ) → bit_or part whole ≡ whole → bit_at part j ≡ 1 → bit_at whole j ≡ 1
bit_within part whole j same is = sym (ap (λ (n : ℕ). bit_at n j) same) ∙ bit_left part whole j is

pub no_bit : (a b j : ℕ) → bit_at a j ≡ 0 → bit_at b j ≡ 0 → bit_at (bit_or a b) j ≡ 0
no_bit a b j first second = bit_at_or a b j ∙ (ap (λ (n : ℕ). max n (bit_at b j)) first ∙ ap (max 0) second)

-- If the conjunction of two words is 0, then no bit is set in both words.
pub apart_bits : (a b j : ℕ) → bit_and a b ≡ 0 → bit_at b j ≡ 1 → bit_at a j ≡ 1 → ⊥
apart_bits a b j none second first =
    let e : 1 ≡ 0 = sym (bit_both a b j first second) ∙ (ap (λ (n : ℕ). bit_at n j) none ∙ bit_at-zero j) in
    omega (arith, e)

pub bit_between : (a b j : ℕ) → bit_at (bit_and a b) j ≡ 1 → bit_at b j ≡ 1
bit_between a b j is = let e : min (bit_at a j) (bit_at b j) ≡ 1 = sym (bit_at_and a b j) ∙ is in least (bit_at a j) (bit_at b j) (bit_at-lt b j) e
  where
    least : (x y : ℕ) → y < 2 → min x y ≡ 1 → y ≡ 1
    least x y small e = omega (arith, small, e)

pub bit_before : (a b j : ℕ) → bit_at (bit_and a b) j ≡ 1 → bit_at a j ≡ 1
bit_before a b j is = let e : min (bit_at a j) (bit_at b j) ≡ 1 = sym (bit_at_and a b j) ∙ is in least (bit_at a j) (bit_at b j) (bit_at-lt a j) e
  where
    least : (x y : ℕ) → x < 2 → min x y ≡ 1 → x ≡ 1
    least x y small e = omega (arith, small, e)

pub in_either : (a b j : ℕ) → bit_at (bit_or a b) j ≡ 1 → (bit_at a j ≡ 1) ⊎ (bit_at b j ≡ 1)
in_either a b j is = elim (cases_lt (bit_at a j) 1) [
  | inl none ↦ inr (let e : max (bit_at a j) (bit_at b j) ≡ 1 = sym (bit_at_or a b j) ∙ is in other (bit_at a j) (bit_at b j) none e)
  | inr some ↦ inl (omega (arith, some, bit_at-lt a j))
]
  where
    other : (x y : ℕ) → x < 1 → max x y ≡ 1 → y ≡ 1
    other x y none e = omega (arith, none, e)

-- If a word has a set bit below a position and a set bit at the position, then the word minus one has a set bit at the position too.
pub higher_bit : (i j x : ℕ) → i < j → bit_at x i ≡ 1 → bit_at x j ≡ 1 → bit_at (x - 1) j ≡ 1
higher_bit zero zero x below low high = absurd (omega (arith, below))
higher_bit zero (suc j) x below low high =
    let odd : x % 2 ≡ 1 = sym (bit_at_lowest x) ∙ low in
    let half : (x - 1) / 2 ≡ x / 2 = omega (arith, odd) in
    bit_at-suc (x - 1) j ∙ (ap (λ (n : ℕ). bit_at n j) half ∙ (sym (bit_at-suc x j) ∙ high))
higher_bit (suc i) zero x below low high = absurd (omega (arith, below))
higher_bit (suc i) (suc j) x below low high = bit_at-suc (x - 1) j ∙ elim (cases_lt (x % 2) 1) [
  | inl even ↦
      let half : (x - 1) / 2 ≡ x / 2 - 1 = omega (arith, even) in
      ap (λ (n : ℕ). bit_at n j) half
      ∙ higher_bit i j (x / 2) (omega (arith, below)) (sym (bit_at-suc x i) ∙ low) (sym (bit_at-suc x j) ∙ high)
  | inr odd ↦
      let half : (x - 1) / 2 ≡ x / 2 = omega (arith, odd) in
      ap (λ (n : ℕ). bit_at n j) half ∙ (sym (bit_at-suc x j) ∙ high)
]
