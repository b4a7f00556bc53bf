-- The state and the result of the search for the functions reachable from `main`.
use Rattle.std.specs.Prelude.{◌≡◌, ℕ, Bool, true, false, List, [], ◌∷◌, ◌++◌, ◌⊎◌, get_or, Contains}
use Rattle.cyc_types.specs.TypedTrees.{Program}
use Rattle.cyc_bound.specs.Bound.{Row}

-- says that each function marked as found is in the list of functions found
abbrev pub AreMarked : (marks : List Bool) → (found : List ℕ) → Type 0
AreMarked marks found = (f : ℕ) → get_or marks f false ≡ true → Contains found f

-- says that a function is in the list of functions found after it was added, and that no other function was added
pub record IsNoted (before : List ℕ) (function : ℕ) (marks : List Bool) (after : List ℕ) : Type 0 where
  pub marked : AreMarked marks after
  pub there : Contains after function
  pub alike : (after ≡ before) ⊎ (after ≡ before ++ function ∷ [])

-- says that each function in the list is reachable from `main`
abbrev pub AreLedTo : Program → List ℕ → Type 0
AreLedTo program found = (f : ℕ) → Contains found f → (count : ℕ) × Row program program.main f count

-- says that the list contains exactly the functions reachable from `main`
abbrev pub AreReached : Program → List ℕ → Type 0
AreReached program found = ((f count : ℕ) → Row program program.main f count → Contains found f) × AreLedTo program found
