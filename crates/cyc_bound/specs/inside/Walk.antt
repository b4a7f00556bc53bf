-- The state and the result of the search for the longest chain of calls from `main`.
use Rattle.std.specs.Prelude.{◌≡◌, ℕ, ◌<◌, ◌≤◌, List, get_or}
use Rattle.cyc_types.specs.TypedTrees.{Program}
use Rattle.cyc_bound.specs.declared.bound.CallBound.{CallBound}
use Rattle.cyc_bound.specs.declared.bound.CallBound.TheVariants as bounds
use Rattle.cyc_bound.specs.Bound.{most_calls, IsHeight}

-- says that each table entry is 0 or its function's height (length of the longest chain of calls), which is at most
-- the greatest reported bound
abbrev pub AreHeights : Program → List ℕ → Type 0
AreHeights program heights = (f : ℕ) → 0 < get_or heights f 0 → IsHeight program f (get_or heights f 0) × (get_or heights f 0 ≤ most_calls)

-- says that, if a function's height (length of its longest chain of calls) was found, the path being searched
-- is unchanged and the table of heights correct
abbrev pub GoesOn : Program → (before after heights : List ℕ) → CallBound → Type 0
GoesOn program before after heights (bounds.Calls count) = (after ≡ before) × AreHeights program heights
GoesOn program before after heights bound = Unit {0}
