-- Facts about bit masks that represent sets of slots (the candidates for registers), bit by bit.
use Rattle.std.proofs.Common.{◌≡◌, ◌≢◌, ℕ, zero, suc, ◌+◌, ◌-◌, ◌*◌, ◌^◌, ◌%◌, ◌<◌, ◌≤◌, true, false, List, [], ◌∷◌, ◌++◌, length, refl, sym, ap, subst, ◌∙◌, arith, inl, inr}
use Rattle.std.specs.Prelude.{bit_and, bit_xor, nat_le, nat_lt}
use Rattle.std.specs.Int.{bit_at}
use Rattle.std.proofs.lemmas.Nat.{one_shl}
use Rattle.std.proofs.lemmas.Nat.Bits.{bit_at_xor, bit_at-lt, bit_at-zero, bit_at_ones, bit_at-pow_same, bit_at-pow_other}
use Rattle.std.proofs.lemmas.Bool.{and_parts, and_from, leb-true, ltb-true, le-leb, lt-ltb, eqb-true, both_ways, cases_lt, cases_eq}
use Rattle.cyc_words.proofs.Bits.{apart_bits, bit_left, bit_right, higher_bit, no_bit}
use Rattle.cyc_plain.specs.inside.Uses.{is_among}
use Rattle.cyc_registers.specs.declared.liveness.TheConstants.{ALL_NUMBERS, MOST_CHOSEN}
use Rattle.cyc_registers.specs.inside.Masks.{mask_at, HasBit, AreMasks, range_mask}
use Rattle.cyc_registers.specs.inside.Sharing.{is_single}

-- ---- single bits

pub bit_turned : (w j : ℕ) → j < MOST_CHOSEN → bit_at w j ≡ 0 → bit_at (bit_xor ALL_NUMBERS w) j ≡ 1
bit_turned w j few is =
    bit_at_xor ALL_NUMBERS w j ∙ (ap (λ (x : ℕ). (x + bit_at w j) % 2) (bit_at_ones 64 j few) ∙ ap (λ (x : ℕ). (1 + x) % 2) is)

-- ---- sets of one slot

two_bits : (x i j : ℕ) → is_single x ≡ true → i < j → bit_at x i ≡ 1 → bit_at x j ≡ 1 → ⊥
two_bits x i j single below low high = apart_bits x (x - 1) j (eqb-true (bit_and x (x - 1)) 0 single) (higher_bit i j x below low high) high

pub one_alone : (x i j : ℕ) → is_single x ≡ true → bit_at x i ≡ 1 → bit_at x j ≡ 1 → i ≡ j
one_alone x i j single first second = elim (cases_lt i j) [
  | inl below ↦ absurd (two_bits x i j single below first second)
  | inr not_below ↦ elim (cases_lt j i) [
    | inl above ↦ absurd (two_bits x j i single above second first)
    | inr not_above ↦ omega (arith, not_below, not_above)
  ]
]

-- ---- ranges of slots

pub no_mask : (masks : List ℕ) (place : ℕ) → length masks ≤ place → mask_at masks place ≡ 0
no_mask [] place following = refl
no_mask (m ∷ masks) zero following = absurd (omega (arith, following))
no_mask (m ∷ masks) (suc place) following = no_mask masks place (omega (arith, following))

pub range_bit : (masks : List ℕ) (first count slot j : ℕ) → first ≤ slot → slot < first + count → HasBit masks slot j
    → bit_at (range_mask masks first count) j ≡ 1
range_bit masks first zero slot j low high has = absurd (omega (arith, low, high))
range_bit masks first (suc count) slot j low high has = elim (cases_lt slot (first + count)) [
  | inl before ↦ bit_left (range_mask masks first count) (mask_at masks (first + count)) j (range_bit masks first count slot j low before has)
  | inr not_before ↦
      let last : slot ≡ first + count = omega (arith, not_before, high) in
      bit_right (range_mask masks first count) (mask_at masks (first + count)) j (subst (λ (n : ℕ). HasBit masks n j) last has)
]

pub among_bit : (masks : List ℕ) (first count slot j : ℕ) → is_among first count slot ≡ true → HasBit masks slot j
    → bit_at (range_mask masks first count) j ≡ 1
among_bit masks first count slot j is has =
    let parts = and_parts (nat_le first slot) (nat_lt slot (first + count)) is in
    range_bit masks first count slot j (leb-true first slot parts.0) (ltb-true slot (first + count) parts.1) has

no_range_bit : (masks : List ℕ) (first count j : ℕ) → ((k : ℕ) → k < count → bit_at (mask_at masks (first + k)) j ≡ 0)
    → bit_at (range_mask masks first count) j ≡ 0
no_range_bit masks first zero j none = bit_at-zero j
no_range_bit masks first (suc count) j none =
    no_bit (range_mask masks first count) (mask_at masks (first + count)) j
    (no_range_bit masks first count j (λ k below. none k (omega (arith, below)))) (none count (omega arith))

module _ (masks : List ℕ) (next : ℕ) (are : AreMasks masks next) (slot j : ℕ) (has : HasBit masks slot j) where
  -- No two slots have the same bit in their masks.
  pub other_bit : (other : ℕ) → (other ≡ slot → ⊥) → bit_at (mask_at masks other) j ≡ 0
  other_bit other apart = elim (cases_lt (bit_at (mask_at masks other) j) 1) [
    | inl small ↦ omega (arith, small)
    | inr large ↦
        let one : bit_at (mask_at masks other) j ≡ 1 = omega (arith, large, bit_at-lt (mask_at masks other) j) in
        absurd (apart (are.one other slot j one has))
  ]

  pub not_among_bit : (first count : ℕ) → is_among first count slot ≡ false → bit_at (range_mask masks first count) j ≡ 0
  not_among_bit first count is = no_range_bit masks first count j (λ k below. other_bit (first + k) (outside k below))
    where
      outside : (k : ℕ) → k < count → first + k ≡ slot → ⊥
      outside k below same = both_ways (is_among first count slot) is
          (and_from (nat_le first slot) (nat_lt slot (first + count)) (le-leb first slot (omega (arith, same))) (lt-ltb slot (first + count) (omega (arith, same, below))))

-- ---- masks of slots

mask_before : (masks : List ℕ) (m slot : ℕ) → slot ≢ length masks → mask_at (masks ++ m ∷ []) slot ≡ mask_at masks slot
mask_before [] m zero apart = absurd (apart refl)
mask_before [] m (suc slot) apart = refl
mask_before (x ∷ masks) m zero apart = refl
mask_before (x ∷ masks) m (suc slot) apart = mask_before masks m slot (λ same. apart (ap suc same))

mask_last : (masks : List ℕ) (m : ℕ) → mask_at (masks ++ m ∷ []) (length masks) ≡ m
mask_last [] m = refl
mask_last (x ∷ masks) m = mask_last masks m

module _ (masks : List ℕ) (m next after : ℕ) (are : AreMasks masks next) (up : next ≤ after) (new : (j : ℕ) → bit_at m j ≡ 1 → (j ≡ next) × (next < after))
    (any : 0 < m → (j : ℕ) × (bit_at m j ≡ 1)) where
  of_last : (slot j : ℕ) → slot ≡ length masks → HasBit (masks ++ m ∷ []) slot j → bit_at m j ≡ 1
  of_last slot j same has = ap (λ (n : ℕ). bit_at n j) (sym (ap (mask_at (masks ++ m ∷ [])) same ∙ mask_last masks m)) ∙ has

  of_other : (slot j : ℕ) → slot ≢ length masks → HasBit (masks ++ m ∷ []) slot j → HasBit masks slot j
  of_other slot j apart has = ap (λ (n : ℕ). bit_at n j) (sym (mask_before masks m slot apart)) ∙ has

  some_bit : (slot : ℕ) → 0 < mask_at (masks ++ m ∷ []) slot → (j : ℕ) × HasBit (masks ++ m ∷ []) slot j
  some_bit slot above = elim (cases_eq slot (length masks)) [
    | inl same ↦
        let here : mask_at (masks ++ m ∷ []) slot ≡ m = ap (mask_at (masks ++ m ∷ [])) same ∙ mask_last masks m in
        let (j, has) = any (subst (λ (n : ℕ). 0 < n) here above) in
        (j, ap (λ (n : ℕ). bit_at n j) here ∙ has)
    | inr apart ↦
        let here : mask_at (masks ++ m ∷ []) slot ≡ mask_at masks slot = mask_before masks m slot apart in
        let (j, has) = are.some slot (subst (λ (n : ℕ). 0 < n) here above) in
        (j, ap (λ (n : ℕ). bit_at n j) here ∙ has)
  ]

  more : AreMasks (masks ++ m ∷ []) after
  more = record {
    below = λ slot j has. elim (cases_eq slot (length masks)) [
      | inl same ↦ let e = new j (of_last slot j same has) in omega (arith, e.0, e.1)
      | inr apart ↦ let e = are.below slot j (of_other slot j apart has) in omega (arith, e, up)
    ];
    one = λ a c j first second. elim (cases_eq a (length masks)) [
      | inl a_last ↦ elim (cases_eq c (length masks)) [
        | inl c_last ↦ a_last ∙ sym c_last
        | inr c_other ↦ absurd (let e = (new j (of_last a j a_last first)).0 in let f = are.below c j (of_other c j c_other second) in omega (arith, e, f))
      ]
      | inr a_other ↦ elim (cases_eq c (length masks)) [
        | inl c_last ↦ absurd (let e = (new j (of_last c j c_last second)).0 in let f = are.below a j (of_other a j a_other first) in omega (arith, e, f))
        | inr c_other ↦ are.one a c j (of_other a j a_other first) (of_other c j c_other second)
      ]
    ];
    some = some_bit;
  }

pub one_mask_more : (masks : List ℕ) (next : ℕ) → AreMasks masks next → AreMasks (masks ++ 2 ^ next ∷ []) (next + 1)
one_mask_more masks next are = more masks (2 ^ next) next (next + 1) are (omega arith) new (λ above. (next, bit_at-pow_same next))
  where
    new : (j : ℕ) → bit_at (2 ^ next) j ≡ 1 → (j ≡ next) × (next < next + 1)
    new j is = elim (cases_eq j next) [
      | inl same ↦ (same, omega arith)
      | inr apart ↦ absurd (let e : 0 ≡ 1 = sym (bit_at-pow_other next j apart) ∙ is in omega (arith, e))
    ]

pub one_bit : (next : ℕ) → next < MOST_CHOSEN → (1 * 2 ^ next) % 2 ^ 64 ≡ 2 ^ next
one_bit next few = one_shl next 64 (omega (arith, few))
