-- Sets of natural numbers, represented as bit sets: one bit of a list of 64-bit words tells whether a number is in the set.
use Rattle.std.specs.Prelude.{◌≡◌, ℕ, ◌/◌, ◌%◌, Bool, false, ◌==◌, ◌||◌, List, [], ◌∷◌, get_or}
use Rattle.cyc_flow.specs.inside.Bits.{has_bit}

abbrev pub is_among : ℕ → List ℕ → Bool
is_among n [] = false
is_among n (m ∷ ms) = (n == m) || is_among n ms

abbrev pub has_number : (words : List ℕ) → (n : ℕ) → Bool
has_number ws n = has_bit (get_or ws (n / 64) 0) (n % 64)

-- `Stand` says that the words `ws` represent the list `ns` as a bit set: a number is in `ns` exactly if the bit
-- with this number is set in `ws`.
abbrev pub Stand : List ℕ → List ℕ → Type 0
Stand ws ns = (n : ℕ) → has_number ws n ≡ is_among n ns

-- Returns the list in which the function `change` is applied to each element and the word at the same index. Elements without a word at
-- their index stay unchanged.
abbrev pub with_words : {X : Type 0} (change : X → ℕ → X) → List X → (words : List ℕ) → List X
with_words f [] ws = []
with_words f (x ∷ xs) [] = x ∷ xs
with_words f (x ∷ xs) (w ∷ ws) = f x w ∷ with_words f xs ws
