-- The regions that have a key among the types of a signature, as the checker's code computes them, and the regions of the
-- signature's effect.
use Rattle.std.specs.Prelude.{◌≡◌, ℕ, zero, suc, Bool, not, nat_eq, ◌&&◌, if◌then◌else◌, List, [], ◌∷◌, map, Option, Some, None}
use Rattle.std.specs.List.{list_any}
use Rattle.cyc_words.specs.declared.fault.Code.TheVariants as codes
use Rattle.cyc_syntax.specs.Trees.{Named}
use Rattle.cyc_types.specs.declared.region.Region.{Region}
use Rattle.cyc_types.specs.declared.region.Region.TheVariants.{Heap, Unique, Variable}
use Rattle.cyc_types.specs.Types.{Ty}
use Rattle.cyc_types.specs.Rules.{Demand, demand}
use Rattle.cyc_types.specs.typing.Scopes.{RegionName}
use Rattle.cyc_types.specs.typing.Formation.{region_of, is_name_of, name_demanded}
use Rattle.cyc_types.specs.typing.DeclarationRules.{has_key}
use Rattle.cyc_declarations.specs.declared.keys.Keys.{Keys}

-- true if the set contains the given region, as one that has a key (used to open dynamic regions)
abbrev pub has : Keys → Region → Bool
has k Heap = k.heap
has k Unique = k.unique
has k (Variable n) = list_any (nat_eq n) k.variables

-- says that the set contains exactly the regions whose keys (used to open dynamic regions) are among the types
abbrev pub AreKeysOf : Keys → List Ty → Type 0
AreKeysOf k ts = (r : Region) → has k r ≡ has_key ts r

-- lists `count` region variables from index `from` on, without those whose key (used to open a dynamic region) is in the set
abbrev pub without : Keys → (count from : ℕ) → List Region
without k zero n = []
without k (suc m) n = if has k (Variable n) then without k m (suc n) else Variable n ∷ without k m (suc n)

-- the effect of a function (the regions that must be live at a call); an omitted effect consists of all region variables of the function
-- without a key
abbrev pub effect_by : List RegionName → Keys → (variables : ℕ) → Option (List Named) → List Region
effect_by names k n None = without k n 1
effect_by names k n (Some rs) = map (region_of names) rs

abbrev pub effect_asked : List RegionName → Keys → List Named → List Demand
effect_asked names k [] = []
effect_asked names k (r ∷ rs) =
    name_demanded names None r
    ∷ demand codes.RegionOrKeyMisused r.place (not (is_name_of names Unique r) && not (has k (region_of names r)))
    ∷ effect_asked names k rs
