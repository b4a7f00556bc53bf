-- Lemmas about a list and its segment that starts at a given index.
use Rattle.std.proofs.Common.{◌≡◌, ℕ, ◌+◌, List, Some, slice_get}

-- says that the list `all` contains the list `xs` from index n on
abbrev pub Holds : {A : Type 0} → List A → ℕ → List A → Type 0
Holds all n xs = (k j : ℕ) (x : _) → j ≡ n + k → slice_get xs k ≡ Some x → slice_get all j ≡ Some x
