-- The outlives relation as boolean tests, and the property that a table of constraints is transitively closed. (The relation is that of
-- Grossman et al. 2002; the tests are this project's own choice.)
use Rattle.std.specs.Prelude.{◌≡◌, ℕ, Bool, true, false, ◌&&◌, ◌||◌, not, if◌then◌else◌, List, [], ◌∷◌, map, reverse, take, Option, Some, None}
use Rattle.std.specs.List.{list_any, list_all}
use Rattle.cyc_types.specs.declared.region.Region.{Region}
use Rattle.cyc_types.specs.declared.region.Region.TheVariants.{Heap, Unique}
use Rattle.cyc_types.specs.declared.scope.Scope.{Scope}
use Rattle.cyc_types.specs.declared.constraints.Constraint.{Constraint}
use Rattle.cyc_types.specs.Types.{region_eq, is_region_among}
use Rattle.cyc_types.specs.Outlives.{RegionContext, live_regions, is_outlived_by_live, names_no_unique}

-- returns true if a path of pairs leads from region a to region b; the path either avoids the first pair or uses it
abbrev pub above : List (Region × Region) → Region → Region → Bool
above [] a b = region_eq a b
above (p ∷ ps) a b = above ps a b || (above ps a p.0 && above ps p.1 b)

-- returns true if a path of pairs leads from region a to a region in the list; the unique region does not count
abbrev pub above_one_of : List (Region × Region) → List Region → Region → Bool
above_one_of written regions a = list_any (λ r. not (region_eq r Unique) && above written a r) regions

-- returns true if a path of pairs leads from region a to the region of a scope in the list; the unique region does not count
abbrev pub above_one_opened : List (Region × Region) → List Scope → Region → Bool
above_one_opened written scopes a = list_any (λ s. not (region_eq s.region Unique) && above written a s.region) scopes

-- returns true if a path leads from region a to region b over pairs of the list and pairs that open scopes (newest first) add
abbrev pub leads : List (Region × Region) → List Region → List Scope → Region → Region → Bool
leads written live [] a b = above written a b
leads written live (s ∷ earlier) a b =
    leads written live earlier a b
    || (is_outlived_by_live s.kind && above_one_of written (live_regions live earlier) a && leads written live earlier s.region b)

-- returns true if a path of pairs leads from region a to a region that was live when the scope with this index opened; the
-- scopes are oldest first
abbrev pub is_above_known : List (Region × Region) → List Region → List Scope → Option ℕ → Region → Bool
is_above_known written live scopes None a = false
is_above_known written live scopes (Some k) a = above_one_of written (live_regions live (reverse (take k scopes))) a

-- returns true if region a outlives region b, provided that the unique region occurs in no constraint and is no open scope's region
abbrev pub is_outliving : RegionContext → Region → Region → Bool
is_outliving c a b =
    region_eq a b
    || (not (region_eq b Unique) && (leads c.written c.live c.opened a b || leads c.written c.live c.opened a Heap))

-- ---- the table

-- returns true if a table entry records that its longer-lived region outlives region b
abbrev pub entry_leads : Constraint → Region → Bool
entry_leads c b = region_eq c.longer b || is_region_among b c.outlived

-- returns true if the constraint table records that region a outlives region b; the first entry for region a decides
abbrev pub table_leads : List Constraint → Region → Region → Bool
table_leads [] a b = region_eq a b
table_leads (c ∷ cs) a b = (if region_eq c.longer a then entry_leads c b else table_leads cs a b)

-- returns true if the constraint table has an entry for the region
abbrev pub has_entry : List Constraint → Region → Bool
has_entry constraints a = list_any (λ c. region_eq c.longer a) constraints

abbrev pub written_in : List Constraint → List (Region × Region)
written_in constraints = map (λ c. (c.longer, c.shorter)) constraints

-- says that the constraint table records that a outlives b exactly if a path of its pairs leads from a to b
abbrev pub IsClosed : List Constraint → Type 0
IsClosed constraints = (a b : Region) → table_leads constraints a b ≡ above (written_in constraints) a b

abbrev pub names_no_unique_scope : List Scope → Bool
names_no_unique_scope scopes = list_all (λ s. not (region_eq s.region Unique)) scopes

-- says that the unique region occurs in no constraint and is not the region of an open scope
pub record HasNoUnique (c : RegionContext) : Type 0 where
  pub written : names_no_unique c.written ≡ true
  pub opened : names_no_unique_scope c.opened ≡ true

-- builds the region context from the three fields of an `Outlives`: constraints, live regions and scopes
abbrev pub context_of : List Constraint → List Region → List Scope → RegionContext
context_of constraints live scopes = record { written = written_in constraints; live = live; opened = reverse scopes }
