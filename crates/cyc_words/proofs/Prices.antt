-- This file is about the cost of a list of code positions, given the price of each position.
use Rattle.std.proofs.Common.{◌≡◌, ◌≢◌, ℕ, zero, suc, ◌+◌, ◌*◌, ◌≤◌, List, [], ◌∷◌, length, refl, sym, ap, ◌∙◌, arith, inl, inr}
use Rattle.std.specs.Prelude.{◌⊎◌, sum_by, Contains, flat_map}
use Rattle.std.specs.List.{AllByRecursion}
use Rattle.std.proofs.lemmas.List.Sums.{sum_by-append, sum_by-cons}
use Rattle.cyc_words.specs.Distinct.{IsDistinct}

-- Says that an item is a member of a list; the definition is by recursion.
abbrev IsIn : {X : Type 0} → X → List X → Type 0
IsIn x [] = ⊥
IsIn x (y ∷ ys) = (y ≡ x) ⊎ IsIn x ys

is_in : {X : Type 0} (x : X) (xs : List X) → Contains xs x → IsIn x xs
is_in x [] (k, below, at) = absurd (omega arith)
is_in x (y ∷ ys) (zero, below, at) = inl at
is_in x (y ∷ ys) (suc k, below, at) = inr (is_in x ys (k, (omega arith), at))

all_in : {X : Type 0} (own places : List X) → AllByRecursion (Contains own) places → AllByRecursion (λ p. IsIn p own) places
all_in own [] all = tt
all_in own (p ∷ places) (first, rest) = (is_in p own first, all_in own places rest)

-- A list after one occurrence of a member is removed.
without : {X : Type 0} (x : X) (ys : List X) → IsIn x ys → List X
without x [] h = absurd h
without x (y ∷ ys) (inl e) = ys
without x (y ∷ ys) (inr h) = y ∷ without x ys h

sum_without : {X : Type 0} (price : X → ℕ) (x : X) (ys : List X) (h : IsIn x ys) → sum_by price ys ≡ price x + sum_by price (without x ys h)
unfolding without
sum_without price x [] h = absurd h
sum_without price x (y ∷ ys) (inl e) = sum_by-cons price y ys ∙ ap (λ z. price z + sum_by price ys) e
sum_without price x (y ∷ ys) (inr h) =
    omega (arith, sum_by-cons price y ys, sum_by-cons price y (without x ys h), sum_without price x ys h)

kept : {X : Type 0} (x z : X) (ys : List X) (h : IsIn x ys) → x ≢ z → IsIn z ys → IsIn z (without x ys h)
unfolding without
kept x z [] h other there = absurd h
kept x z (y ∷ ys) (inl e) other (inl f) = absurd (other (sym e ∙ f))
kept x z (y ∷ ys) (inl e) other (inr there) = there
kept x z (y ∷ ys) (inr h) other (inl f) = inl f
kept x z (y ∷ ys) (inr h) other (inr there) = inr (kept x z ys h other there)

all_kept : {X : Type 0} (x : X) (ys places : List X) (h : IsIn x ys) → AllByRecursion (λ y. x ≢ y) places → AllByRecursion (λ p. IsIn p ys) places → AllByRecursion (λ p. IsIn p (without x ys h)) places
all_kept x ys [] h others all = tt
all_kept x ys (p ∷ places) h (other, others) (first, rest) = (kept x p ys h other first, all_kept x ys places h others rest)

sum_in : {X : Type 0} (price : X → ℕ) (own places : List X) → IsDistinct places → AllByRecursion (λ p. IsIn p own) places → sum_by price places ≤ sum_by price own
sum_in price own [] distinct all = omega arith
sum_in price own (p ∷ places) (others, distinct) (first, rest) =
    let left = without p own first in
    let fewer = sum_in price left places distinct (all_kept p own places first others rest) in
    omega (arith, fewer, sum_by-cons price p places, sum_without price p own first)

-- A list of distinct positions, all of which occur in a second list, costs at most as much as the second list.
pub sum_by-distinct : {X : Type 0} (price : X → ℕ) (own places : List X) → IsDistinct places → AllByRecursion (Contains own) places → sum_by price places ≤ sum_by price own
sum_by-distinct price own places distinct inside = sum_in price own places distinct (all_in own places inside)

-- the cost of a concatenation of lists is the sum of the costs of the lists
pub sum_by-flat_map : {X Y : Type 0} (price : Y → ℕ) (own : X → List Y) (xs : List X) → sum_by price (flat_map own xs) ≡ sum_by (λ x. sum_by price (own x)) xs
sum_by-flat_map price own [] = refl
sum_by-flat_map price own (x ∷ xs) =
    omega (arith, sum_by-append price (own x) (flat_map own xs), sum_by-cons (λ y. sum_by price (own y)) x xs, sum_by-flat_map price own xs)

-- If each item has the price one, then a list costs its length.
pub sum_by-one : {X : Type 0} (xs : List X) → sum_by (λ x. 1) xs ≡ length xs
sum_by-one [] = refl
sum_by-one {X} (x ∷ xs) = omega (arith, sum_by-cons (λ (y : X). 1) x xs, sum_by-one xs)

-- if each item costs at most `most`, a list costs at most its length times `most`
pub sum_by-at_most : {X : Type 0} (price : X → ℕ) (most : ℕ) (xs : List X) → ((x : X) → price x ≤ most) → sum_by price xs ≤ length xs * most
sum_by-at_most price most [] each = omega arith
sum_by-at_most price most (x ∷ xs) each =
    let here : price x ≤ most = each x in
    let rest : sum_by price xs ≤ length xs * most = sum_by-at_most price most xs each in
    let more : suc (length xs) * most ≡ most + length xs * most = grind arith in
    omega (arith, sum_by-cons price x xs, here, rest, more)
