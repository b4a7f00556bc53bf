-- A bound on the number of active calls in a run, computed from the program text. The bound is the length of the longest chain of calls
-- from `main`. No bound exists if a function reachable from `main` can call itself, directly or through other functions. The bound on
-- calls is this project's own choice.
use Rattle.std.specs.Prelude.{ℕ, suc, ◌<◌, ◌≤◌, List, [], ◌∷◌, Option, Some, None, slice_get, Contains}
use Rattle.cyc_types.specs.TypedTrees.{Function, Program}
use Rattle.cyc_bound.specs.declared.bound.CallBound.{CallBound}
use Rattle.cyc_bound.specs.declared.bound.CallBound.TheVariants as bounds
use Rattle.cyc_bound.specs.Callees.{items_callees}

-- the functions that a function's body calls, or an empty list if there is no function
abbrev pub callees_of : Option Function → List ℕ
callees_of None = []
callees_of (Some h) = items_callees h.body

-- says that the body of the function `caller` contains a call of the function `callee`
abbrev pub Calls : Program → (caller callee : ℕ) → Type 0
Calls program caller callee = Contains (callees_of (slice_get program.functions caller)) callee

-- a chain of `count` functions from `first` to `last`, each of which calls the next
pub data Row (program : Program) : (first last count : ℕ) → Type 0 where
  Alone : (function : ℕ) → Row program function function 1
  Before : (first next last count : ℕ) → Calls program first next → Row program next last count → Row program first last (suc count)

-- says that each chain of calls from a function has at most `bound` functions
abbrev pub IsAtMost : Program → (function bound : ℕ) → Type 0
IsAtMost program function bound = (last count : ℕ) → Row program function last count → count ≤ bound

-- Says that `height` is the length of the longest chain of calls that starts at the function. The height is 1 if the function calls no
-- other function, otherwise one more than the greatest height of its callees.
abbrev pub IsHeight : Program → (function height : ℕ) → Type 0
IsHeight program function height = ((last : ℕ) × Row program function last height) × IsAtMost program function height

-- says that at most `bound` calls are active, including the call of `main`
abbrev pub IsBound : Program → ℕ → Type 0
IsBound program bound = IsHeight program program.main bound

-- the greatest bound on calls that is reported; the limit of a run may be up to 4,096 calls
abbrev pub most_calls : ℕ
most_calls = 4095

-- says that each function of a list calls the next, and that the last function calls `callee`
abbrev pub LeadTo : Program → List ℕ → (callee : ℕ) → Type 0
LeadTo program [] callee = Unit {0}
LeadTo program (f ∷ []) callee = Calls program f callee
LeadTo program (f ∷ g ∷ functions) callee = Calls program f g × LeadTo program (g ∷ functions) callee

-- says that each function of a list calls the next, that the last function calls the first, and that the first is reachable from `main`
abbrev pub IsCycle : Program → List ℕ → Type 0
IsCycle program [] = ⊥
IsCycle program (f ∷ functions) = LeadTo program (f ∷ functions) f × ((count : ℕ) × Row program program.main f count)

-- The result of the search for a function reachable from `main`. The result is the function's height (the length of its longest chain
-- of calls), if the height is at most the greatest reported bound. Otherwise the result is a cycle of calls, or a chain of calls with
-- more functions than that bound.
abbrev pub IsAnswer : Program → (function : ℕ) → CallBound → Type 0
IsAnswer program function (bounds.Calls count) = IsHeight program function count × (count ≤ most_calls)
IsAnswer program function (bounds.Cycle functions) = IsCycle program functions.items
IsAnswer program function bounds.Deep = (last count : ℕ) × Row program program.main last count × (most_calls < count)
