-- This file has lemmas on the order of numbers and on the boolean tests of this order.
use Rattle.std.proofs.Common.{◌≡◌, ◌≢◌, ℕ, suc, ◌<◌, ◌≤◌, true, false, nat_eq, arith, zero, refl, ap, inl, inr, sym, ◌∙◌, ◌+◌, Bool, cond, max, ◌*◌, pred, ◌/◌, div-mul-le_self, ◌%◌, ◌^◌, bit_and}
use Rattle.std.specs.Prelude.{nat_lt, ◌==◌, if◌then◌else◌, ◌⊎◌, nat_le, ◌&&◌, ◌-◌, not}
use Rattle.std.proofs.lemmas.Bool.{cond-true, eq-eqb, cases_lt, leb-true, ltb-true, false_from_ne_true, le-leb, ne_eqb, eqb-true, not_from_false, cases_eq}
use Rattle.std.proofs.lemmas.Bool.Decides.{nat_tests}
use Rattle.std.proofs.lemmas.Cmp.{ranked}
use Rattle.std.specs.Ordering.{MatchOrdering, nat_cmp, is_lt, ord_max, is_eq}
use Rattle.std.specs.declared.cmp.Ordering.{Ordering}
use Rattle.std.specs.declared.cmp.Ordering.TheVariants.{Less, Equal, Greater}
use Rattle.std.proofs.Math.Nat.{mul-le-mul_right, suc-mul, pow-le-pow_right, pow-suc, mod-eq_of_lt}
use Rattle.std.proofs.lemmas.Nat.{le-div, pow_pos}
use Rattle.std.proofs.lemmas.Grind.{and_numeral}
use Rattle.std.specs.Cmp.{unsigned_tied}

-- ---- order

pub zero_least : (n : ℕ) → 0 ≤ n
zero_least n = omega arith

pub zero_below : (n : ℕ) → 0 < suc n
zero_below n = omega arith

pub below_next : (n : ℕ) → n < suc n
below_next n = omega arith

pub at_most_itself : (n : ℕ) → n ≤ n
at_most_itself n = omega arith

-- No number is below 0, and a number below the successor of m is at most m.
pub none_below : (k m : ℕ) → k < m → m ≤ 0 → ⊥
none_below k m less few = omega (arith, less, few)

pub one_less : (k m n : ℕ) → k < m → m ≤ suc n → k ≤ n
one_less k m n less few = omega (arith, less, few)

pub le_trans : (a b c : ℕ) → a ≤ b → b ≤ c → a ≤ c
le_trans a b c l m = omega arith

pub suc_not_below_zero : (n : ℕ) → suc n ≤ 0 → ⊥
suc_not_below_zero n e = omega (arith, e)

pub anything_below_zero : {A : Type 0} (i : ℕ) → i < 0 → A
anything_below_zero i less = absurd (omega (arith, less))

pub le_from_suc : (m n : ℕ) → suc m ≤ suc n → m ≤ n
le_from_suc m n e = omega (arith, e)

pub below_suc : (x y : ℕ) → x < y → x < suc y
below_suc x y less = omega (arith, less)

pub below_is_not_same : (x y : ℕ) → x < y → x ≡ y → ⊥
below_is_not_same x y less same = omega (arith, less, same)

pub below_when_not_last : (a b : ℕ) → a < suc b → (a ≡ b → ⊥) → a < b
below_when_not_last a b h other = omega arith

pub below_or_last : (l n : ℕ) → l < suc n → (l < n) ⊎ (l ≡ n)
below_or_last zero zero less = inr refl
below_or_last zero (suc n) less = inl (omega arith)
below_or_last (suc l) zero less = absurd (omega (arith, less))
below_or_last (suc l) (suc n) less = elim (below_or_last l n (let e : l < suc n = omega (arith, less) in e)) [
  | inl is ↦ inl (let e : suc l < suc n = omega (arith, is) in e)
  | inr same ↦ inr (ap suc same)
]

pub same_or_other : (i j : ℕ) → (i ≡ j) ⊎ (i ≢ j)
same_or_other zero zero = inl refl
same_or_other zero (suc j) = inr (λ e. let k : zero ≡ suc j = e in absurd (cc))
same_or_other (suc i) zero = inr (λ e. let k : suc i ≡ zero = e in absurd (cc))
same_or_other (suc i) (suc j) = elim (same_or_other i j) [ inl e ↦ inl (ap suc e) | inr other ↦ inr (λ e. let k : suc i ≡ suc j = e in other (cc)) ]

pub below_when_not_equal : (i n : ℕ) → i ≤ n → (i == n) ≡ false → i < n
below_when_not_equal i n few other = elim (below_or_last i n (let e : i < suc n = omega (arith, few) in e)) [
  | inl less ↦ less
  | inr same ↦ absurd (let z : true ≡ false = sym (eq-eqb i n same) ∙ other in cc)
]

pub outside_one : (destination slot : ℕ) → slot < destination ⊎ destination + 1 ≤ slot → destination ≢ slot
outside_one destination slot (inl below) same = omega (arith, below, same)
outside_one destination slot (inr above) same = omega (arith, above, same)

pub other_beyond_32 : (n k : ℕ) → n < 32 → 32 ≤ k → n ≢ k
other_beyond_32 n k below above same = omega (arith, below, above, same)

pub below_chosen : (k : ℕ) (b : Bool) (n : ℕ) → k < cond b 0 n → k < n
below_chosen k true n h = absurd (omega arith)
below_chosen k false n h = h

pub le_suc_moved : (first count total : ℕ) → first + suc count ≤ total → suc first + count ≤ total
le_suc_moved first count total e = omega (arith, e)

pub below_total : (first count total : ℕ) → first + suc count ≤ total → first < total
below_total first count total e = omega (arith, e)

-- Every number is in a range, before the range, or after the range.
pub cases_within : (first count word : ℕ) → ((first ≤ word) × (word < first + count)) ⊎ ((word < first) ⊎ (first + count ≤ word))
cases_within first count word = elim (cases_lt word first) [
  | inl below ↦ inr (inl below)
  | inr low ↦ elim (cases_lt word (first + count)) [
    | inl high ↦ inl (low, high)
    | inr past ↦ inr (inr past)
  ]
]

pub max_one_within : (n most : ℕ) → 1 ≤ most → n ≤ most → max 1 n ≤ most
max_one_within zero most some few = omega (arith, some)
max_one_within (suc n) most some few = omega (arith, few)

pub ord_max-max : (a b : ℕ) → ord_max nat_cmp a b ≡ max a b
ord_max-max a b = go (nat_cmp b a) (ranked b a (nat_cmp b a) refl)
  where
    go : (o : Ordering) → MatchOrdering o (b < a) (b ≡ a) (a < b) → (if is_lt o then a else b) ≡ max a b
    go Less h = omega (arith, h)
    go Equal h = omega (arith, h)
    go Greater h = omega (arith, h)

-- ---- from a relation to its test

pub lt-nat_lt : (m n : ℕ) → m < n → nat_lt m n ≡ true
lt-nat_lt m n h = grind (arith, nat_tests)

pub le-nat_lt : (m n : ℕ) → n ≤ m → nat_lt m n ≡ false
le-nat_lt m n h = grind (arith, nat_tests)

pub nat_lt-true : (m n : ℕ) → nat_lt m n ≡ true → m < n
nat_lt-true m n h = grind (arith, nat_tests)

pub nat_eq-false : (m n : ℕ) → nat_eq m n ≡ false → m ≢ n
nat_eq-false m n h same = let e = eq-eqb m n same in cc

-- ---- a conditional on equality

pub when_equal : {A : Type 0} (m n : ℕ) (x y : A) → m ≡ n → (if m == n then x else y) ≡ x
when_equal m n x y same = cond-true (m == n) x y (eq-eqb m n same)

-- ---- sums

pub zero_plus : (m : ℕ) → 0 + m ≡ m
zero_plus m = omega arith

pub plus_zero : (start : ℕ) → start + 0 ≡ start
plus_zero start = omega arith

pub plus_zero_plus : (start j : ℕ) → start + 0 + j ≡ start + j
plus_zero_plus start j = omega arith

pub suc_one_plus : (m n : ℕ) → m ≡ n → suc m ≡ 1 + n
suc_one_plus m n e = omega arith

pub same_zero_plus : (m n : ℕ) → m ≡ n → m ≡ 0 + n
same_zero_plus m n e = omega arith

pub one_plus : (n : ℕ) → 1 + n ≡ suc n
one_plus n = omega arith

pub suc_plus_one : (index : ℕ) → suc index ≡ index + 1
suc_plus_one index = omega arith

pub plus_comm : (d r : ℕ) → d + r ≡ r + d
plus_comm d r = omega arith

pub plus_in_front : (q x y r : ℕ) → x + r ≡ y → (q + x) + r ≡ q + y
plus_in_front q x y r e = omega (arith, e)

pub plus_suc_after : (q x y : ℕ) → x ≡ suc y → q + x ≡ suc (q + y)
plus_suc_after q x y e = omega (arith, e)

pub balance_in_front : (q x y a b : ℕ) → x + a ≡ y + b → (q + x) + a ≡ (q + y) + b
balance_in_front q x y a b e = omega (arith, e)

pub balance_turned : (a b d x : ℕ) → x ≡ b → (x + d) + a ≡ (a + d) + b
balance_turned a b d x is = omega (arith, is)

pub balance_same : (x y a b : ℕ) → x + a ≡ y + b → b ≡ a → x ≡ y
balance_same x y a b e is = omega (arith, e, is)

pub balance_one_more : (x y a b : ℕ) → x + a ≡ y + b → b ≡ suc a → x ≡ suc y
balance_one_more x y a b e is = omega (arith, e, is)

pub words_regrouped : (base a w : ℕ) → base + 4 * a + 4 * w ≡ base + 4 * (a + w)
words_regrouped base a w = omega arith

pub suc_pred : (n : ℕ) → 1 ≤ n → n ≡ suc (pred n)
suc_pred zero l = absurd (omega arith)
suc_pred (suc n) l = refl

pub at_most_suc_pred : (n : ℕ) → 1 ≤ n → n ≤ suc (pred n)
at_most_suc_pred zero l = omega arith
at_most_suc_pred (suc n) l = omega arith

-- ---- products, quotients and powers

pub multiples_below : (m n z : ℕ) → m < n → n * z < m * z + z → ⊥
multiples_below m n z less low =
    let most : suc m * z ≤ n * z = mul-le-mul_right z (omega (arith, less)) in
    let next : suc m * z ≡ m * z + z = suc-mul m z in
    omega (arith, most, next, low)

-- If two multiples of a number differ by less than this number, then they are equal.
pub multiples_same : (m n z : ℕ) → m * z < n * z + z → n * z < m * z + z → m ≡ n
multiples_same m n z low high = elim (cases_lt m n) [
  | inl less ↦ absurd (multiples_below m n z less high)
  | inr more ↦ elim (cases_lt n m) [
    | inl less ↦ absurd (multiples_below n m z less low)
    | inr same ↦ omega (arith, more, same)
  ]
]

pub quotient_monotone : (m n k : ℕ) → m ≤ n → m / k ≤ n / k
quotient_monotone m n zero less = omega arith
quotient_monotone m n (suc k) less = le-div (m / suc k) n (suc k) (omega arith) (omega (arith, less, div-mul-le_self m (suc k)))

pub odd_is_twice_and_one : (h : ℕ) → (h % 2 ≡ 0 → ⊥) → h ≡ 2 * (h / 2) + 1
odd_is_twice_and_one h odd = by (cases_lt 0 (h % 2))
  where
    by : (0 < h % 2) ⊎ (h % 2 ≤ 0) → h ≡ 2 * (h / 2) + 1
    by (inl some) = omega (arith, some)
    by (inr none) = absurd (odd (zero (h % 2) none))
      where
        zero : (n : ℕ) → n ≤ 0 → n ≡ 0
        zero n e = omega (arith, e)

pub same_from_odd : (p q : ℕ) → 2 * p + 1 ≡ 2 * q + 1 → p ≡ q
same_from_odd p q is = omega (arith, is)

pub same_from_powers : (m n : ℕ) → 2 ^ m ≡ 2 ^ n → m ≡ n
same_from_powers m n e = elim (cases_lt m n) [
  | inl less ↦ absurd (apart m n less e)
  | inr more ↦ elim (cases_lt n m) [
    | inl less ↦ absurd (apart n m less (sym e))
    | inr same ↦ omega (arith, more, same)
  ]
]
  where
    apart : (m n : ℕ) → m < n → 2 ^ m ≡ 2 ^ n → ⊥
    apart m n less same =
        let most : 2 ^ suc m ≤ 2 ^ n = pow-le-pow_right (omega arith) (omega (arith, less)) in
        let next : 2 ^ suc m ≡ 2 ^ m * 2 = pow-suc 2 m in
        let some : 0 < 2 ^ m = pow_pos m in
        omega (arith, most, next, some, same)

pub remainder_below_32 : (n : ℕ) → n % 32 < 32
remainder_below_32 n = omega arith

pub remainder_of_register_number : (register : ℕ) → register < 24 → register % 32 ≡ register
remainder_of_register_number register high = omega (arith, high)

pub remainder_of_word : (n : ℕ) → n < 4294967296 → n % 2 ^ 32 ≡ n
remainder_of_word n below = mod-eq_of_lt below

pub remainder_of_byte : (word : ℕ) → word < 256 → word % 256 ≡ word
remainder_of_byte word small = omega (arith, small)

-- if x is a multiple of four, then x + 3 leaves the remainder 3
pub last_byte_of_word : (x : ℕ) → x % 4 ≡ 0 → (x + 3) % 4 ≡ 3
last_byte_of_word x even = omega (arith, even)

pub bit_and_255 : (a : ℕ) → bit_and a 255 ≡ a % 256
bit_and_255 a = and_numeral a 254 refl

-- ---- from a true test to the relation

pub nat_eq-true : (m n : ℕ) → nat_eq m n ≡ true → m ≡ n
nat_eq-true m n e = grind (arith, nat_tests)

pub nat_eq-false_turned : (m n : ℕ) → nat_eq m n ≡ false → n ≡ m → ⊥
nat_eq-false_turned m n e h = absurd (grind (arith, nat_tests))

pub nat_eq-itself : (n : ℕ) → nat_eq n n ≡ true
nat_eq-itself n = grind (arith, nat_tests)

pub nat_lt-trans : (k m n : ℕ) → nat_lt m n ≡ true → nat_lt k m ≡ true → nat_lt k n ≡ true
nat_lt-trans k m n g h = grind (arith, nat_tests)

pub nat_lt-false_trans : (k m n : ℕ) → nat_lt m n ≡ false → nat_lt k m ≡ false → nat_lt k n ≡ false
nat_lt-false_trans k m n g h = grind (arith, nat_tests)

pub nat_le-beyond : (pages n : ℕ) (b : Bool) → nat_lt pages n ≡ true → (nat_le n pages && b) ≡ false
nat_le-beyond pages n b over = ap (λ x. x && b) (false_from_ne_true (nat_le n pages) (λ h. absurd (omega (arith, leb-true n pages h, ltb-true pages n over))))

pub nat_le-one_less : (n calls : ℕ) → nat_le (suc n) (calls - 1) ≡ nat_le (suc (suc n)) calls
nat_le-one_less n calls = elim (cases_lt (suc n) calls) [
  | inl room ↦ le-leb (suc n) (calls - 1) (omega (arith, room)) ∙ sym (le-leb (suc (suc n)) calls (omega (arith, room)))
  | inr none ↦ over (suc n) (calls - 1) (λ l. omega (arith, l, none)) ∙ sym (over (suc (suc n)) calls (λ l. omega (arith, l, none)))
]
  where
    over : (a b : ℕ) → (a ≤ b → ⊥) → nat_le a b ≡ false
    over a b more = false_from_ne_true (nat_le a b) (λ h. more (leb-true a b h))

pub nat_le-not_lt : (a b : ℕ) → nat_le b a ≡ not (nat_lt a b)
nat_le-not_lt a b = grind arith

pub nat_lt-not_le : (a b : ℕ) → nat_lt a b ≡ not (nat_le b a)
nat_lt-not_le a b = grind arith

pub eqb_itself : (slot : ℕ) → (slot == slot) ≡ true
eqb_itself slot = eq-eqb slot slot refl

pub eqb_next : (index : ℕ) → (suc index == index + 1) ≡ true
eqb_next index = eq-eqb (suc index) (index + 1) (omega arith)

pub eqb_other : (a b : ℕ) → b ≢ a → (a == b) ≡ false
eqb_other a b other = ne_eqb a b (λ same. other (sym same))

pub other_from_eqb : (a b : ℕ) → (a == b) ≡ false → a ≢ b
other_from_eqb a b none same = let e : true ≡ false = sym (eq-eqb a b same) ∙ none in cc

pub not_eqb_other : (a b : ℕ) → (a ≡ b → ⊥) → not (a == b) ≡ true
not_eqb_other a b apart = not_from_false (a == b) (false_from_ne_true (a == b) (λ e. apart (eqb-true a b e)))

-- Two numbers that are equal to a third number are equal to each other.
pub same_from_eqb : (register m n : ℕ) → (register == m) ≡ true → (register == n) ≡ true → m ≡ n
same_from_eqb register m n first other = sym (eqb-true register m first) ∙ eqb-true register n other

pub eqb_turned : (a b : ℕ) → (b == a) ≡ (a == b)
eqb_turned a b = elim (cases_eq a b) [
  | inl same ↦ eq-eqb b a (sym same) ∙ sym (eq-eqb a b same)
  | inr other ↦ ne_eqb b a (λ e. other (sym e)) ∙ sym (ne_eqb a b other)
]

pub same_from_nat_cmp : (a b : ℕ) → is_eq (nat_cmp a b) ≡ true → a ≡ b
same_from_nat_cmp a b same = let tied : nat_eq a b ≡ true = sym (unsigned_tied a b) ∙ same in grind (arith, nat_tests)

pub nat_cmp-itself : (a : ℕ) → is_eq (nat_cmp a a) ≡ true
nat_cmp-itself a = let tied : nat_eq a a ≡ true = grind (arith, nat_tests) in unsigned_tied a a ∙ tied
