-- The state of each local at a program point of a typed tree: full, borrowed by a block, or empty. (The three states are this project's
-- own choice.)
use Rattle.std.specs.Prelude.{ℕ, Bool, true, false, ◌&&◌, if◌then◌else◌, List, [], ◌∷◌, get_or, slice_set}

-- The state of a local, in rising order: the local may be empty, holds a value that a block has borrowed, or holds a free value.
pub data Fullness : Type 0 where
  Vacant : Fullness
  Locked : Fullness
  Full : Fullness

-- the state at a program point: unreachable, or the fullness (full, borrowed or perhaps empty) of each local, indexed by its number
pub data State : Type 0 where
  Unreached : State
  Reached : List Fullness → State

abbrev pub lower : Fullness → Fullness → Fullness
lower Vacant b = Vacant
lower Locked Vacant = Vacant
lower Locked Locked = Locked
lower Locked Full = Locked
lower Full b = b

abbrev pub lower_each : List Fullness → List Fullness → List Fullness
lower_each [] bs = []
lower_each (a ∷ as') [] = []
lower_each (a ∷ as') (b ∷ bs) = lower a b ∷ lower_each as' bs

-- the meet of two states of the locals at a join of branches: for each local, the lower of its two fullnesses
abbrev pub meet : State → State → State
meet Unreached g = g
meet (Reached as') Unreached = Reached as'
meet (Reached as') (Reached bs) = Reached (lower_each as' bs)

abbrev pub is_as_full : Fullness → Fullness → Bool
is_as_full Vacant Vacant = true
is_as_full Vacant Locked = false
is_as_full Vacant Full = false
is_as_full Locked Vacant = true
is_as_full Locked Locked = true
is_as_full Locked Full = false
is_as_full Full b = true

-- returns true if each local is at least as full (free, borrowed or perhaps empty) in the first list as in the second
abbrev pub are_as_full : List Fullness → List Fullness → Bool
are_as_full [] [] = true
are_as_full [] (b ∷ bs) = false
are_as_full (a ∷ as') [] = false
are_as_full (a ∷ as') (b ∷ bs) = is_as_full a b && are_as_full as' bs

-- returns true if each local is at least as full (free, borrowed or perhaps empty) in the first state as in the second
abbrev pub is_at_least : State → State → Bool
is_at_least Unreached g = true
is_at_least (Reached as') Unreached = false
is_at_least (Reached as') (Reached bs) = are_as_full as' bs

abbrev pub is_reached : State → Bool
is_reached Unreached = false
is_reached (Reached as') = true

-- The fullness of a local in a state. In an unreachable state each local is full, so unreachable code breaks no flow rule.
abbrev pub fullness : State → ℕ → Fullness
fullness Unreached n = Full
fullness (Reached as') n = get_or as' n Vacant

abbrev pub with_fullness : Fullness → State → ℕ → State
with_fullness a Unreached n = Unreached
with_fullness a (Reached as') n = Reached (slice_set as' n a)

-- returns the state in which each local in the list has the given fullness (full, borrowed or perhaps empty)
abbrev pub with_each : Fullness → List ℕ → State → State
with_each a [] f = f
with_each a (n ∷ ns) f = with_each a ns (with_fullness a f n)

abbrev pub is_vacant : Fullness → Bool
is_vacant Vacant = true
is_vacant a = false

abbrev pub is_locked : Fullness → Bool
is_locked Locked = true
is_locked a = false

-- returns the state in which each local in the list is empty, except locals whose values are borrowed, which keep their fullness
abbrev pub emptied : List ℕ → State → State
emptied [] f = f
emptied (n ∷ ns) f = emptied ns (if is_locked (fullness f n) then f else with_fullness Vacant f n)
