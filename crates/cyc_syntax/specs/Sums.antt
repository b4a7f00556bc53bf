-- The weight (number of tokens) of a list and of an optional subtree, computed from the weight of an element or of the subtree.
-- Counting tokens as the weight is this project's own choice.
use Rattle.std.specs.Prelude.{ℕ, ◌+◌, List, [], ◌∷◌, Option, Some, None}

abbrev pub sum_of : {A : Type 0} → (A → ℕ) → List A → ℕ
sum_of weight [] = 0
sum_of weight (x ∷ xs) = weight x + sum_of weight xs

-- Returns the weight (number of tokens) of a list with a comma before each element except the first.
abbrev pub separated_weight : {A : Type 0} → (A → ℕ) → List A → ℕ
separated_weight weight [] = 0
separated_weight weight (x ∷ xs) = weight x + sum_of (λ y. 1 + weight y) xs

abbrev pub optional_weight : {A : Type 0} → (A → ℕ) → Option A → ℕ
optional_weight weight None = 0
optional_weight weight (Some x) = weight x
