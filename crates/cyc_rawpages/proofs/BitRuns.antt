-- Lemmas about bits of a page pool (one for each word of its pages) that are set or cleared at once, in one machine word.
use Rattle.std.proofs.Common.{◌≡◌, ℕ, zero, suc, refl, ◌+◌, ◌*◌, ◌%◌, ◌<◌, ◌≤◌, Bool, false, length, sym, ap, ◌∙◌, inl, inr, arith, get_or-set_same, get_or-set_other}
use Rattle.std.specs.Prelude.{◌==◌, ◌&&◌, ◌⊎◌, nat_le, nat_lt, slice_index, slice_index_or}
use Rattle.std.specs.Int.{bit_at}
use Rattle.std.proofs.lemmas.Bool.{cases_eq, cases_lt, and_right, cond-true, cond-false, le-leb, lt-leb, le-ltb, lt-ltb}
use Rattle.cyc_rawpages.specs.inside.Lists.{Lists}
use Rattle.cyc_rawpages.specs.inside.Words.{Parts, headed, headed_all}
use Rattle.cyc_rawpages.specs.inside.Pool.{tabulate, header_at, bits_at, bit_of, between, state_of, IsPool}
use Rattle.cyc_rawpages.specs.declared.header.TheConstants.{NEXT, TAIL}
use Rattle.cyc_rawpages.proofs.Columns.{tab-read, tab-past, rewritten}
use Rattle.cyc_rawpages.proofs.PoolLemmas.{kept as links-kept}

between-in : (old : ℕ → Bool) (first count : ℕ) (value : Bool) (number : ℕ) → first ≤ number → number < first + count → between old first count value number ≡ value
between-in old first count value number low high =
    cond-true (nat_le first number && nat_lt number (first + count)) value (old number) (ap (λ (a : Bool). a && nat_lt number (first + count)) (le-leb first number low) ∙ lt-ltb number (first + count) high)

between-out : (old : ℕ → Bool) (first count : ℕ) (value : Bool) (number : ℕ) → (number < first) ⊎ (first + count ≤ number) → between old first count value number ≡ old number
between-out old first count value number (inl below) =
    cond-false (nat_le first number && nat_lt number (first + count)) value (old number) (ap (λ (a : Bool). a && nat_lt number (first + count)) (lt-leb first number below))
between-out old first count value number (inr past) =
    cond-false (nat_le first number && nat_lt number (first + count)) value (old number) (and_right (nat_le first number) (nat_lt number (first + count)) (le-ltb number (first + count) past))

module _ (pages : ℕ) (raw : Parts) (at count w : ℕ) (v : Bool) (there : at < 1024 * pages) (few : at % 32 + count ≤ 32) (inside : bits_at at < length raw.heads)
    (on : (i : ℕ) → at % 32 ≤ i → i < at % 32 + count → (bit_at w i == 1) ≡ v)
    (off : (i : ℕ) → i < 32 → (i < at % 32) ⊎ (at % 32 + count ≤ i) → bit_at w i ≡ bit_at (slice_index raw.heads (bits_at at)) i) where
  abbrev k : ℕ
  k = bits_at at

  abbrev new : Parts
  new = headed raw k w

  abbrev was : ℕ → Bool
  was number = slice_index_or (tabulate (1024 * pages) (bit_of raw)) number false

  -- If a bit of the pool (one for each word of its pages) lies in the machine word just written, it has this word's bit value.
  here : (number : ℕ) → bits_at number ≡ k → bit_of new number ≡ (bit_at w (number % 32) == 1)
  here number same = (λ j. bit_at (slice_index new.heads (same j)) (number % 32) == 1) ∙ ap (λ x. bit_at x (number % 32) == 1) (get_or-set_same raw.heads k w 0 inside)

  kept : (number : ℕ) → (number < at) ⊎ (at + count ≤ number) → bit_of new number ≡ bit_of raw number
  kept number away = elim (cases_eq (bits_at number) k) [
    | inl same ↦ here number same ∙ ap (λ x. x == 1) (off (number % 32) (omega arith) (beside away same)) ∙ (λ j. bit_at (slice_index raw.heads (sym same j)) (number % 32) == 1)
    | inr other ↦ ap (λ x. bit_at x (number % 32) == 1) (get_or-set_other raw.heads k (bits_at number) w 0 other)
  ]
    where
      beside : (number < at) ⊎ (at + count ≤ number) → bits_at number ≡ k → (number % 32 < at % 32) ⊎ (at % 32 + count ≤ number % 32)
      beside (inl below) same = inl (omega (arith, below, same))
      beside (inr past) same = inr (omega (arith, past, same))

  pub run-is : (number : ℕ) → slice_index_or (tabulate (1024 * pages) (bit_of new)) number false ≡ between was at count v number
  run-is number = elim (cases_lt number (1024 * pages)) [
    | inl low ↦ tab-read (1024 * pages) (bit_of new) number false low ∙ elim (cases_lt number at) [
      | inl below ↦ kept number (inl below) ∙ sym (tab-read (1024 * pages) (bit_of raw) number false low) ∙ sym (between-out was at count v number (inl below))
      | inr from ↦ elim (cases_lt number (at + count)) [
        | inl to ↦ here number (omega (arith, from, to, few)) ∙ on (number % 32) (omega (arith, from, to, few)) (omega (arith, from, to, few)) ∙ sym (between-in was at count v number from to)
        | inr past ↦ kept number (inr past) ∙ sym (tab-read (1024 * pages) (bit_of raw) number false low) ∙ sym (between-out was at count v number (inr past))
      ]
    ]
    | inr high ↦ tab-past (1024 * pages) (bit_of new) number false high ∙ sym (tab-past (1024 * pages) (bit_of raw) number false high)
        ∙ sym (between-out was at count v number (inr (omega (arith, high, there, few))))
  ]

-- If bits are set in two adjacent ranges, one after the other, they are set in the union of the ranges.
between-more : (old mid : ℕ → Bool) (first done some : ℕ) (value : Bool) (number : ℕ) → mid number ≡ between old first done value number → between mid (first + done) some value number ≡ between old first (done + some) value number
between-more old mid first done some value number were = elim (cases_lt number (first + done)) [
  | inl low ↦ between-out mid (first + done) some value number (inl low) ∙ were ∙ elim (cases_lt number first) [
    | inl below ↦ between-out old first done value number (inl below) ∙ sym (between-out old first (done + some) value number (inl below))
    | inr from ↦ between-in old first done value number from low ∙ sym (between-in old first (done + some) value number from (omega (arith, low)))
  ]
  | inr late ↦ elim (cases_lt number (first + done + some)) [
    | inl to ↦ between-in mid (first + done) some value number late to ∙ sym (between-in old first (done + some) value number (omega (arith, late)) (omega (arith, to)))
    | inr past ↦ between-out mid (first + done) some value number (inr past) ∙ were ∙ between-out old first done value number (inr late) ∙ sym (between-out old first (done + some) value number (inr (omega (arith, past))))
  ]
]

-- Lemmas about writing a page's bits (one for each word of the page) 32 at a time, from bit `bit` on.
module _ (pages : ℕ) (raw : Parts) (first : ℕ) (l : Lists) (page bit w : ℕ) (v : Bool) (there : page < pages) (aligned : bit % 32 ≡ 0) (is : IsPool pages raw first l)
    (on : (i : ℕ) → i < 32 → (bit_at w i == 1) ≡ v) where
  abbrev at : ℕ
  at = 1024 * page + bit

  abbrev after : (count : ℕ) → Parts
  after count = headed_all raw (bits_at at) count w

  -- The machine word with a page's next 32 bits follows directly after the words of bits written so far.
  next : (count : ℕ) → bit + 32 * suc count ≤ 1024 → bits_at (at + 32 * count) ≡ bits_at at + count
  next count small = omega (arith, small, aligned)

  -- A machine word that contains bits of a page is not a field of a page header.
  apart : (count : ℕ) → bit + 32 * suc count ≤ 1024 → (other field : ℕ) → field < 8 → header_at other field ≡ bits_at at + count → ⊥
  apart count small other field low same = omega (arith, small, aligned, low, same)

  pub words-pool : (count : ℕ) → bit + 32 * count ≤ 1024 → IsPool pages (after count) first l
  words-pool zero small = is
  words-pool (suc count) small =
      links-kept pages (after count) first l (words-pool count (omega (arith, small))) (bits_at at + count) w (λ p. (apart count small p NEXT (omega arith), apart count small p TAIL (omega arith)))

  pub words-same : (count : ℕ) → bit + 32 * count ≤ 1024 → state_of pages (after count) l ≡ record (state_of pages raw l) { bits = tabulate (1024 * pages) (bit_of (after count)) }
  words-same zero small = refl
  words-same (suc count) small =
      let before = words-same count (omega (arith, small)) in
      rewritten pages (after count) l (words-pool count (omega (arith, small))).whole (bits_at at + count) w (apart count small)
      ∙ (λ j. record (before j) { bits = tabulate (1024 * pages) (bit_of (after (suc count))) })

  pub words-are : (count : ℕ) → bit + 32 * count ≤ 1024 → (number : ℕ)
      → slice_index_or (tabulate (1024 * pages) (bit_of (after count))) number false ≡ between (λ (other : ℕ). slice_index_or (tabulate (1024 * pages) (bit_of raw)) other false) at (32 * count) v number
  words-are zero small number = sym (between-out (λ (other : ℕ). slice_index_or (tabulate (1024 * pages) (bit_of raw)) other false) at 0 v number (none number))
    where
      none : (number : ℕ) → (number < at) ⊎ (at + 0 ≤ number)
      none number = elim (cases_lt number at) [
        | inl below ↦ inl below
        | inr past ↦ inr (omega (arith, past))
      ]
  words-are (suc count) small number =
      let before = words-are count (omega (arith, small)) number in
      let whole = (words-pool count (omega (arith, small))).whole in
      let k = next count small in
      ap (λ n. slice_index_or (tabulate (1024 * pages) (bit_of (headed (after count) n w))) number false) (sym k)
      ∙ run-is pages (after count) (at + 32 * count) 32 w v (omega (arith, small, there)) (omega (arith, aligned)) (omega (arith, small, there, whole))
      (λ i from to. on i (omega (arith, aligned, to)))
      (λ i low out. elim out [
        | inl below ↦ absurd (omega (arith, aligned, below))
        | inr past ↦ absurd (omega (arith, aligned, low, past))
      ])
      number
      ∙ between-more (λ (other : ℕ). slice_index_or (tabulate (1024 * pages) (bit_of raw)) other false) (λ (other : ℕ). slice_index_or (tabulate (1024 * pages) (bit_of (after count))) other false) at (32 * count) 32 v number before
      ∙ ap (λ n. between (λ (other : ℕ). slice_index_or (tabulate (1024 * pages) (bit_of raw)) other false) at n v number) (omega arith)
