-- The words stored in slots after one word or several words are written.
use Rattle.std.proofs.Common.{◌≡◌, ◌≢◌, ℕ, ◌+◌, ◌-◌, ◌≤◌, ◌<◌, Bool, true, false, ◌&&◌, refl, ap, ◌∙◌, arith}
use Rattle.std.specs.Prelude.{◌==◌, nat_le, nat_lt, if◌then◌else◌}
use Rattle.std.proofs.lemmas.Bool.{eq-eqb, le-leb, lt-ltb, and_from, and_left, and_right, false_from_ne_true, eqb-true, ltb-true, leb-true}
use Rattle.cyc_plain.specs.inside.State.{Words, put, copied}

chosen_alike : (b c : Bool) (x y : ℕ) → b ≡ c → (if b then x else y) ≡ (if c then x else y)
chosen_alike b c x y same = ap (λ (a : Bool). if a then x else y) same

pub put-same : (words : Words) (number word : ℕ) → put words number word number ≡ word
put-same words number word = chosen_alike (number == number) true word (words number) (eq-eqb number number refl)

pub put-other : (words : Words) (number other word : ℕ) → other ≢ number → put words number word other ≡ words other
put-other words number other word apart =
    chosen_alike (other == number) false word (words other) (false_from_ne_true (other == number) (λ h. apart (eqb-true other number h)))

-- After words are copied between slots, each destination slot contains the word of its source slot.
pub copied-inside : (from to : Words) (source count destination k : ℕ) → k < count → copied from source count to destination (destination + k) ≡ from (source + k)
copied-inside from to source count destination k below =
    let inside : (nat_le destination (destination + k) && nat_lt (destination + k) (destination + count)) ≡ true =
    and_from _ _ (le-leb destination (destination + k) (omega arith)) (lt-ltb (destination + k) (destination + count) (omega arith)) in
    let offset : destination + k - destination ≡ k = omega arith in
    chosen_alike _ true (from (source + (destination + k - destination))) (to (destination + k)) inside ∙ ap (λ (n : ℕ). from (source + n)) offset

pub copied-below : (from to : Words) (source count destination number : ℕ) → number < destination → copied from source count to destination number ≡ to number
copied-below from to source count destination number below =
    chosen_alike _ false (from (source + (number - destination))) (to number)
    (and_left _ (nat_lt number (destination + count)) (false_from_ne_true (nat_le destination number) (λ h. not_both (leb-true destination number h))))
  where
    not_both : destination ≤ number → ⊥
    not_both above = omega arith

pub copied-above : (from to : Words) (source count destination number : ℕ) → destination + count ≤ number → copied from source count to destination number ≡ to number
copied-above from to source count destination number above =
    chosen_alike _ false (from (source + (number - destination))) (to number)
    (and_right (nat_le destination number) _ (false_from_ne_true (nat_lt number (destination + count)) (λ h. not_both (ltb-true number (destination + count) h))))
  where
    not_both : number < destination + count → ⊥
    not_both below = omega arith
