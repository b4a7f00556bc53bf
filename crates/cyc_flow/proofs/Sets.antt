-- Sets of natural numbers, represented as bit sets: one bit of a list of 64-bit words tells whether a number is in the set.
use Rattle.std.proofs.Common.{◌≡◌, ◌≢◌, ℕ, zero, suc, ◌+◌, ◌/◌, ◌%◌, ◌<◌, ◌≤◌, min, max, Bool, true, false, ◌==◌, ◌||◌, List, [], ◌∷◌, ◌++◌, length, take, drop, replicate, get_or, set, refl, sym, ap, subst, ◌∙◌, arith, inl, inr}
use Rattle.std.specs.Prelude.{bit_or}
use Rattle.std.specs.Int.{bit_at}
use Rattle.std.proofs.lemmas.Nat.Bits.{bit_at_or, bit_at-lt, bit_at-zero}
use Rattle.std.proofs.lemmas.Bool.{cases_eq}
use Rattle.std.proofs.lemmas.Bool.Decides.{eqb_tells}
use Rattle.std.proofs.lemmas.List.{get_or_read, get_or-set_same, get_or-set_other, length-drop, take_all}
use Rattle.cyc_flow.specs.inside.Bits.{has_bit}
use Rattle.cyc_flow.specs.inside.Numbers.{is_among, has_number, Stand, with_words}

-- ---- lists of numbers

or_grouped : (a b c : Bool) → (a || (b || c)) ≡ ((a || b) || c)
or_grouped true b c = refl
or_grouped false b c = refl

among_both : (n : ℕ) (ns ms : List ℕ) → is_among n (ns ++ ms) ≡ (is_among n ns || is_among n ms)
among_both n [] ms = refl
among_both n (m ∷ ns) ms = ap (λ (b : Bool). (n == m) || b) (among_both n ns ms) ∙ or_grouped (n == m) (is_among n ns) (is_among n ms)

or_turned : (a b : Bool) → (a || b) ≡ (b || (a || false))
or_turned true true = refl
or_turned true false = refl
or_turned false true = refl
or_turned false false = refl

-- If one more bit is set in the words, they represent a set with one more number.
pub stand_more : (vs ws ns : List ℕ) (m : ℕ) → Stand ws ns → ((n : ℕ) → has_number vs n ≡ ((n == m) || has_number ws n)) → Stand vs (ns ++ m ∷ [])
stand_more vs ws ns m h is n =
    is n ∙ ap (λ (b : Bool). (n == m) || b) (h n) ∙ or_turned (n == m) (is_among n ns) ∙ sym (among_both n ns (m ∷ []))

-- Words that have the bits of two sets represent the union of these sets.
pub stand_both : (us vs ws ns ms : List ℕ) → Stand vs ns → Stand ws ms → ((n : ℕ) → has_number us n ≡ (has_number vs n || has_number ws n)) → Stand us (ns ++ ms)
stand_both us vs ws ns ms h k is n =
    is n ∙ ap (λ (b : Bool). b || has_number ws n) (h n) ∙ ap (λ (b : Bool). is_among n ns || b) (k n) ∙ sym (among_both n ns ms)

-- An empty list of words represents the empty set.
pub stand_none : (ws ns : List ℕ) → ws ≡ [] → ns ≡ [] → Stand ws ns
stand_none ws ns d e n =
    ap (λ (vs : List ℕ). has_number vs n) d ∙ ap (λ (b : ℕ). b == 1) (bit_at-zero (n % 64)) ∙ sym (ap (is_among n) e)

-- ---- words that change the elements at their indices

pub length-with_words : {X : Type 0} (f : X → ℕ → X) (xs : List X) (ws : List ℕ) → length (with_words f xs ws) ≡ length xs
length-with_words f [] ws = refl
length-with_words f (x ∷ xs) [] = refl
length-with_words f (x ∷ xs) (w ∷ ws) = ap suc (length-with_words f xs ws)

none_changes : {X : Type 0} (f : X → ℕ → X) (xs : List X) (ws : List ℕ) → min (length xs) (length ws) ≡ 0 → with_words f xs ws ≡ xs
none_changes f [] ws h = refl
none_changes f (x ∷ xs) [] h = refl
none_changes f (x ∷ xs) (w ∷ ws) h = absurd (omega (arith, h))

taken_and_rest : {X : Type 0} (n : ℕ) (xs : List X) → take n xs ++ drop n xs ≡ xs
taken_and_rest zero xs = refl
taken_and_rest (suc n) [] = refl
taken_and_rest (suc n) (x ∷ xs) = ap (λ ys. x ∷ ys) (taken_and_rest n xs)

-- `Changed` says that the first `i` elements of a list already have the words of a second list applied to them, and
-- that the remaining elements are unchanged.
abbrev pub Changed : {X : Type 0} → (X → ℕ → X) → List X → List ℕ → ℕ → (whole : List X) → Type 0
Changed f xs ws i whole = take i xs ++ with_words f (drop i xs) (drop i ws) ≡ whole

pub changed_all : {X : Type 0} (f : X → ℕ → X) (xs whole : List X) (ws : List ℕ) (i n : ℕ) → i ≡ n → n ≡ min (length xs) (length ws) → Changed f xs ws i whole → xs ≡ whole
changed_all f xs whole ws i n d e k =
    let h : Changed f xs ws n whole = let P : ℕ → Type 0 = λ m. Changed f xs ws m whole in subst P d k in
    let none : min (length (drop n xs)) (length (drop n ws)) ≡ 0 = omega (arith, length-drop n xs, length-drop n ws, e) in
    sym (taken_and_rest n xs) ∙ ap (λ ys. take n xs ++ ys) (sym (none_changes f (drop n xs) (drop n ws) none)) ∙ h

-- The loop invariant `Changed` still holds after the loop has changed the next element of the list by the word at the same index.
changed_next : {X : Type 0} (f : X → ℕ → X) (xs whole : List X) (ws : List ℕ) (i : ℕ) (x : X) (w : ℕ) → i < length xs → i < length ws → x ≡ get_or xs i x → w ≡ get_or ws i w
    → Changed f xs ws i whole → Changed f (set xs i (f x w)) ws (suc i) whole
changed_next f [] whole ws i x w below less read found h = absurd (omega (arith, below))
changed_next f (y ∷ ys) whole [] i x w below less read found h = absurd (omega (arith, less))
changed_next f (y ∷ ys) whole (v ∷ vs) zero x w below less read found h = ap (λ z. f z w ∷ with_words f ys vs) read ∙ ap (λ (u : ℕ). f y u ∷ with_words f ys vs) found ∙ h
changed_next f (y ∷ ys) whole (v ∷ vs) (suc i) x w below less read found h =
    ap (λ zs. y ∷ zs) (changed_next f ys (take i ys ++ with_words f (drop i ys) (drop i vs)) vs i x w (omega (arith, below)) (omega (arith, less)) read found refl) ∙ h

pub changed_more : {X : Type 0} (f : X → ℕ → X) (xs whole : List X) (ws : List ℕ) (i : ℕ) (x : X) (w : ℕ) → i < length xs → i < length ws → x ≡ get_or xs i x → w ≡ get_or ws i w
    → Changed f xs ws i whole → Changed f (set xs i (f x w)) ws (i + 1) whole
changed_more f xs whole ws i x w below less read found h =
    let P : ℕ → Type 0 = λ n. Changed f (set xs i (f x w)) ws n whole in
    subst P (let next : suc i ≡ i + 1 = omega arith in next) (changed_next f xs whole ws i x w below less read found h)

-- ---- the bits of a union

bit_of_two_sets : (vs ws : List ℕ) (p i : ℕ) → length ws ≤ length vs → bit_at (get_or (with_words bit_or vs ws) p 0) i ≡ max (bit_at (get_or vs p 0) i) (bit_at (get_or ws p 0) i)
bit_of_two_sets [] [] p i h = omega (arith, bit_at-zero i)
bit_of_two_sets [] (w ∷ ws) p i h = absurd (omega (arith, h))
bit_of_two_sets (v ∷ vs) [] p i h = omega (arith, bit_at-zero i)
bit_of_two_sets (v ∷ vs) (w ∷ ws) zero i h = bit_at_or v w i
bit_of_two_sets (v ∷ vs) (w ∷ ws) (suc p) i h = bit_of_two_sets vs ws p i (omega (arith, h))

bit_of_either : (x y : ℕ) → x < 2 → y < 2 → (max x y == 1) ≡ ((x == 1) || (y == 1))
bit_of_either zero zero small less = refl
bit_of_either zero (suc zero) small less = refl
bit_of_either zero (suc (suc y)) small less = absurd (omega (arith, less))
bit_of_either (suc zero) zero small less = refl
bit_of_either (suc zero) (suc zero) small less = refl
bit_of_either (suc zero) (suc (suc y)) small less = absurd (omega (arith, less))
bit_of_either (suc (suc x)) y small less = absurd (omega (arith, small))

pub has_either : (us vs ws : List ℕ) → length ws ≤ length vs → us ≡ with_words bit_or vs ws → (n : ℕ) → has_number us n ≡ (has_number vs n || has_number ws n)
has_either us vs ws h are n =
    ap (λ (xs : List ℕ). has_number xs n) are
    ∙ ap (λ (b : ℕ). b == 1) (bit_of_two_sets vs ws (n / 64) (n % 64) h)
    ∙ bit_of_either (bit_at (get_or vs (n / 64) 0) (n % 64)) (bit_at (get_or ws (n / 64) 0) (n % 64)) (bit_at-lt (get_or vs (n / 64) 0) (n % 64)) (bit_at-lt (get_or ws (n / 64) 0) (n % 64))

pub or_swapped : (a b : Bool) → (a || b) ≡ (b || a)
or_swapped true true = refl
or_swapped true false = refl
or_swapped false true = refl
or_swapped false false = refl

-- ---- setting one bit

after_zeros : (ws : List ℕ) (k i : ℕ) → get_or (ws ++ replicate k 0) i 0 ≡ get_or ws i 0
after_zeros [] zero i = refl
after_zeros [] (suc k) zero = refl
after_zeros [] (suc k) (suc i) = after_zeros [] k i
after_zeros (w ∷ ws) k zero = refl
after_zeros (w ∷ ws) k (suc i) = after_zeros ws k i

-- Extending a list of words by zeros leaves the represented set unchanged.
pub has_grown : (vs ws : List ℕ) (m k : ℕ) → length ws ≤ m → vs ≡ take m ws ++ replicate k 0 → (n : ℕ) → has_number vs n ≡ has_number ws n
has_grown vs ws m k few are n =
    ap (λ (v : ℕ). has_bit v (n % 64))
    (ap (λ (us : List ℕ). get_or us (n / 64) 0) (are ∙ ap (λ (us : List ℕ). us ++ replicate k 0) (take_all m ws few)) ∙ after_zeros ws k (n / 64))

module _ (vs ws : List ℕ) (m v w : ℕ) (same_bits : (n : ℕ) → has_number vs n ≡ has_number ws n) (within : m / 64 < length vs) (read : v ≡ get_or vs (m / 64) v)
    (same : has_bit w (m % 64) ≡ true) (other : (i : ℕ) → i < 64 → i ≢ m % 64 → bit_at w i ≡ bit_at v i) where
  at_place : (n : ℕ) → n / 64 ≡ m / 64 → has_number (set vs (m / 64) w) n ≡ has_bit w (n % 64)
  at_place n here = ap (λ (u : ℕ). has_bit u (n % 64)) (ap (λ (p : ℕ). get_or (set vs (m / 64) w) p 0) here ∙ get_or-set_same vs (m / 64) w 0 within)

  kept_bit : (n : ℕ) → n ≢ m → has_number (set vs (m / 64) w) n ≡ has_number vs n
  kept_bit n apart = elim (cases_eq (n / 64) (m / 64)) [
    | inl here ↦
        at_place n here
        ∙ ap (λ (b : ℕ). b == 1) (other (n % 64) (omega arith) (λ e. apart (omega (arith, e, here))))
        ∙ ap (λ (u : ℕ). has_bit u (n % 64)) (get_or_read vs (m / 64) v within read 0)
        ∙ sym (ap (λ (p : ℕ). has_bit (get_or vs p 0) (n % 64)) here)
    | inr there ↦ ap (λ (u : ℕ). has_bit u (n % 64)) (get_or-set_other vs (m / 64) (n / 64) w 0 there)
  ]

  -- Setting the bit of one number in a bit set does not change whether any other number is in the set.
  pub has_inserted : (n : ℕ) → has_number (set vs (m / 64) w) n ≡ ((n == m) || has_number ws n)
  has_inserted n = elim (eqb_tells n m) [
    | inl same_number ↦
        at_place n (ap (λ (k : ℕ). k / 64) same_number.1)
        ∙ ap (λ (k : ℕ). has_bit w (k % 64)) same_number.1
        ∙ same
        ∙ sym (ap (λ (b : Bool). b || has_number ws n) same_number.0)
    | inr other_number ↦
        kept_bit n other_number.1 ∙ same_bits n ∙ sym (ap (λ (b : Bool). b || has_number ws n) other_number.0)
  ]
