-- A table stores the index of the oldest open scope of each region. If all scopes are in order (`IsOrderly`), these indexes decide the
-- outlives relation without a search. A scope is in order only if its region is new whenever the regions live at its opening outlive this
-- region. The use of the indexes of open scopes for the outlives relation is this project's own choice.
use Rattle.std.specs.Prelude.{◌≡◌, ◌⊎◌, ◌<◌, ◌≤◌, ℕ, true, false, List, get_or, take, reverse, length}
use Rattle.cyc_types.specs.declared.region.Region.{Region}
use Rattle.cyc_types.specs.declared.region.Region.TheVariants.{Heap, Unique, Variable}
use Rattle.cyc_types.specs.declared.scope.Kind.TheVariants.{Block}
use Rattle.cyc_types.specs.declared.scope.Scope.{Scope}
use Rattle.cyc_types.specs.Types.{region_eq, is_region_among}
use Rattle.cyc_types.specs.Outlives.{live_regions, is_outlived_by_live}
use Rattle.cyc_types.specs.Closure.{above}

-- the index of the oldest open scope of a region; a table stores the index for each region variable
abbrev pub opening_of : List ℕ → Region → ℕ
opening_of openings Heap = 0
opening_of openings Unique = 0
opening_of openings (Variable n) = get_or openings n 0

-- the scope at the given index of a list of scopes, oldest first
abbrev pub scope_at : List Scope → ℕ → Scope
scope_at scopes i = get_or scopes i (record { region = Heap; kind = Block })

-- the regions that were live before the scope at the given index opened
abbrev pub live_before : List Region → List Scope → ℕ → List Region
live_before live scopes i = live_regions live (reverse (take i scopes))

-- says that the table of opening indexes is correct for the scope at the given index, so that the scope's region is found without a search
pub record IsOrderly (written : List (Region × Region)) (live : List Region) (openings : List ℕ) (scopes : List Scope) (i : ℕ) : Type 0 where
  -- the scope's region was live before any scope opened, or the table stores the index of the region's oldest scope
  pub found : (is_region_among (scope_at scopes i).region live ≡ true)
      ⊎ ((opening_of openings (scope_at scopes i).region ≤ i)
      × ((scope_at scopes (opening_of openings (scope_at scopes i).region)).region ≡ (scope_at scopes i).region))
  -- if live regions outlive the scope's region, it outlives no other region by a constraint, and it was not live before the scope opened
  pub alone : is_outlived_by_live (scope_at scopes i).kind ≡ true →
      (b : Region) → above written (scope_at scopes i).region b ≡ region_eq (scope_at scopes i).region b
  pub fresh : is_outlived_by_live (scope_at scopes i).kind ≡ true →
      is_region_among (scope_at scopes i).region (live_before live scopes i) ≡ false

-- says that the table of opening indexes is correct for each of the first `n` scopes
pub record IsInOrder (written : List (Region × Region)) (live : List Region) (openings : List ℕ) (scopes : List Scope) (n : ℕ) : Type 0 where
  pub within : n ≤ length scopes
  pub each : (i : ℕ) → i < n → IsOrderly written live openings scopes i
