-- Sums over lists.
use Rattle.std.proofs.Common.{◌≡◌, ℕ, List, [], ◌∷◌, map, refl, arith, ◌+◌, suc, ◌≤◌, length, Some, slice_get, ap}
use Rattle.std.specs.Prelude.{sum_by}
use Rattle.std.proofs.lemmas.List.Sums.{sum_by-cons}

pub sum_by-map : {X Y : Type 0} (price : Y → ℕ) (f : X → Y) (xs : List X) → sum_by price (map f xs) ≡ sum_by (λ x. price (f x)) xs
sum_by-map price f [] = refl
sum_by-map price f (x ∷ xs) = omega (arith, sum_by-cons price (f x) (map f xs), sum_by-cons (λ y. price (f y)) x xs, sum_by-map price f xs)

pub sum_by-plus : {P : Type 0} (f g h : P → ℕ) (ps : List P) → ((p : P) → f p ≡ g p + h p) → sum_by f ps ≡ sum_by g ps + sum_by h ps
sum_by-plus f g h [] each = refl
sum_by-plus f g h (p ∷ ps) each =
    let a = sum_by-cons f p ps in
    let b = sum_by-cons g p ps in
    let c = sum_by-cons h p ps in
    let one = each p in
    let rest = sum_by-plus f g h ps each in
    omega (arith, a, b, c, one, rest)

pub sum_by-at_most_each : {X : Type 0} (f : X → ℕ) (xs ys : List X) → length ys ≡ length xs
    → ((k : ℕ) (x : X) → slice_get xs k ≡ Some x → (y : X) × (slice_get ys k ≡ Some y) × (f y ≤ f x)) → sum_by f ys ≤ sum_by f xs
sum_by-at_most_each f [] [] long each = omega arith
sum_by-at_most_each f [] (y ∷ ys) long each = absurd (omega (arith, long))
sum_by-at_most_each f (x ∷ xs) [] long each = absurd (omega (arith, long))
sum_by-at_most_each f (x ∷ xs) (y ∷ ys) long each =
    let (other, at, less) = each 0 x refl in
    let same : f y ≡ f other = ap f (let e : Some y ≡ Some other = at in cc) in
    let rest = sum_by-at_most_each f xs ys (omega (arith, long)) (λ k z found. each (suc k) z found) in
    omega (arith, sum_by-cons f x xs, sum_by-cons f y ys, less, same, rest)
