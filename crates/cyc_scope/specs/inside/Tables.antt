-- The checker finds a declaration by its name in a table of the indices of the first, or of the newest, declaration with each name.
use Rattle.std.specs.Prelude.{ℕ, suc, nat_eq, if◌then◌else◌, List, [], ◌∷◌, map, length, Option, Some, None, option_map}
use Rattle.cyc_types.specs.typing.Scopes.{Exception, Meaning, Unknown, Declared}

-- the index of the first element of a list of names that equals the name x
abbrev pub first_place : List ℕ → ℕ → Option ℕ
first_place [] x = None
first_place (y ∷ ys) x = if nat_eq y x then Some 0 else option_map suc (first_place ys x)

-- the first element of the list that has the name x
abbrev pub first_by : {A : Type 0} → (A → ℕ) → List A → ℕ → Option A
first_by name [] x = None
first_by name (a ∷ as') x = if nat_eq (name a) x then Some a else first_by name as' x

abbrev pub exception_names : List Exception → List ℕ
exception_names es = map (λ (e : Exception). e.name) es

abbrev pub declared_names : List Declared → List ℕ
declared_names ds = map (λ (d : Declared). d.name) ds

abbrev pub first_declared : List Declared → ℕ → Option Declared
first_declared ds x = first_by (λ (d : Declared). d.name) ds x

abbrev pub meaning_by : Option Declared → Meaning
meaning_by None = Unknown
meaning_by (Some d) = d.meaning

-- the index of the newest declaration with the name x; the list of names begins with the newest, but indices count from the oldest
abbrev pub newest_place : List ℕ → ℕ → Option ℕ
newest_place [] x = None
newest_place (y ∷ ys) x = if nat_eq y x then Some (length ys) else newest_place ys x

-- for each name of a list (newest first), the index of the older declaration with the same name that it hides, if any
abbrev pub hidden_by : List ℕ → List (Option ℕ)
hidden_by [] = []
hidden_by (y ∷ ys) = newest_place ys y ∷ hidden_by ys
