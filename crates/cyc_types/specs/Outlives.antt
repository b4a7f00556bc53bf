-- The outlives relation between the regions of a function. If the first region outlives the second, a pointer into the first may be used as
-- a pointer into the second. (The relation is that of Grossman et al. 2002; the pairs that scopes add are this project's own choice.)
use Rattle.std.specs.Prelude.{◌≡◌, ◌≢◌, ◌⊎◌, Bool, true, false, not, ◌&&◌, List, [], ◌∷◌, ◌++◌, map, Contains}
use Rattle.std.specs.List.{list_all}
use Rattle.cyc_types.specs.declared.region.Region.{Region}
use Rattle.cyc_types.specs.declared.region.Region.TheVariants.{Heap, Unique}
use Rattle.cyc_types.specs.declared.scope.Kind.{Kind}
use Rattle.cyc_types.specs.declared.scope.Kind.TheVariants.{Block, Lexical, Dynamic, Alias}
use Rattle.cyc_types.specs.declared.scope.Scope.{Scope}
use Rattle.cyc_types.specs.Types.{region_eq}

-- The data from which the outlives relation is computed.
pub record RegionContext : Type 0 where
  -- the constraints of the function: pairs of regions, of which the first outlives the second
  pub written : List (Region × Region)
  -- the regions that are live at the function's start, before any scope is opened
  pub live : List Region
  -- the scopes that are open, newest first
  pub opened : List Scope

-- the regions that are live while the given scopes are open
abbrev pub live_regions : List Region → List Scope → List Region
live_regions live opened = map (λ s. s.region) opened ++ live

-- Returns true if the regions live when a scope of this kind opens outlive the scope's region. For the scope of an opened
-- dynamic region or an alias the result is false, since the live regions need not outlive a region older than the scope.
abbrev pub is_outlived_by_live : Kind → Bool
is_outlived_by_live Block = true
is_outlived_by_live Lexical = true
is_outlived_by_live Dynamic = false
is_outlived_by_live Alias = false

-- says that b is the region of an open block or lexical scope, and that a was live when that scope opened
abbrev pub IsLiveAtOpening : List Region → List Scope → Region → Region → Type 0
IsLiveAtOpening live [] a b = ⊥
IsLiveAtOpening live (s ∷ earlier) a b =
    ((is_outlived_by_live s.kind ≡ true) × (b ≡ s.region) × (a ≢ Unique) × Contains (live_regions live earlier) a)
    ⊎ IsLiveAtOpening live earlier a b

-- says that a pair of regions is one of those that generate the outlives relation: a constraint, a live region with a later
-- scope's region, or the heap with any non-unique region
abbrev pub IsGiven : RegionContext → Region → Region → Type 0
IsGiven c a b =
    ((a ≡ Heap) × (b ≢ Unique)) ⊎ (Contains c.written (a, b) ⊎ IsLiveAtOpening c.live c.opened a b)

-- THE OUTLIVES RELATION: the least reflexive and transitive relation that contains the generating pairs (`IsGiven`)
pub data OutlivesIn (c : RegionContext) : Region → Region → Type 0 where
  itself : (a : Region) → OutlivesIn c a a
  given : (a b : Region) → IsGiven c a b → OutlivesIn c a b
  through : (a b d : Region) → OutlivesIn c a b → OutlivesIn c b d → OutlivesIn c a d

-- returns true if the unique region occurs in no constraint
abbrev pub names_no_unique : List (Region × Region) → Bool
names_no_unique written = list_all (λ p. not (region_eq p.0 Unique) && not (region_eq p.1 Unique)) written
