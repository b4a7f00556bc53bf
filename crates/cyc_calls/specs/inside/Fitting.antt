-- The result of traversing the values and parameters of a call without a fault. The traversal has recorded the region at each occurrence
-- of a region variable. The requirements on the values hold no matter what regions are recorded later.
use Rattle.std.specs.Prelude.{◌≡◌, true, false, List, [], ◌∷◌, map, length, replicate, Option, Some, None}
use Rattle.std.specs.List.{list_any}
use Rattle.cyc_syntax.specs.Symbols.{Place}
use Rattle.cyc_syntax.specs.Trees.{Expressions}
use Rattle.cyc_types.specs.declared.region.Region.{Region}
use Rattle.cyc_types.specs.declared.region.Region.TheVariants.{Heap}
use Rattle.cyc_types.specs.Outlives.{RegionContext}
use Rattle.cyc_types.specs.Closure.{is_outliving}
use Rattle.cyc_types.specs.Types.{region_eq, substituted_region, Ty, ValueType, substituted_ty}
use Rattle.cyc_types.specs.TypedTrees.{Signature}
use Rattle.cyc_types.specs.TypedTrees as typed
use Rattle.cyc_types.specs.Rules.{AllKept}
use Rattle.cyc_types.specs.typing.Tests.{regions_eq, ty_eq}
use Rattle.cyc_types.specs.typing.Expressions.{conversion, passed_demanded, all_paired, paired, paired_argument, paired_arguments, is_unique_for_variable, variables_demanded}
use Rattle.cyc_calls.specs.inside.Instances.{noted_place, noted_places, instance_in}

-- Returns the regions that a table gives to region variables after the regions at later occurrences
-- of these variables are recorded in the table.
abbrev pub instance_later : List (Option Region) → List (Region × Region) → List Region
instance_later table later = instance_in (noted_places table later)

-- Says that the region at each of the given occurrences is the region of its variable.
abbrev pub AllStand : List Region → List (Region × Region) → Type 0
AllStand m [] = Unit {0}
AllStand m (p ∷ ps) = (region_eq p.1 (substituted_region m p.0) ≡ true) × AllStand m ps

-- Says that a region occurs where a parameter's type has the region r, and that `known` is the region of r at the call.
pub record Stands (old new : List (Option Region)) (r s known : Region) : Type 0 where
  pub noted : new ≡ noted_place old (r, s)
  pub found : (later : List (Region × Region)) → substituted_region (instance_later new later) r ≡ known
  pub usual : is_unique_for_variable (r, s) ≡ false

-- Says that a region occurs where a parameter's type has the region r, and is equal to the region of r at the call.
pub record FitsRegion (old new : List (Option Region)) (r s : Region) : Type 0 where
  pub noted : new ≡ noted_place old (r, s)
  pub alike : (later : List (Region × Region)) → region_eq s (substituted_region (instance_later new later) r) ≡ true
  pub usual : is_unique_for_variable (r, s) ≡ false

pub record FitsRegions (old new : List (Option Region)) (rs ss : List Region) : Type 0 where
  pub noted : new ≡ noted_places old (all_paired rs ss)
  pub alike : (later : List (Region × Region)) → regions_eq ss (map (substituted_region (instance_later new later)) rs) ≡ true
  pub stand : AllStand (instance_in new) (all_paired rs ss)
  pub usual : list_any is_unique_for_variable (all_paired rs ss) ≡ false

-- Says that the second type is the type that a parameter has at the call.
pub record FitsType (old new : List (Option Region)) (t u : Ty) : Type 0 where
  pub noted : new ≡ noted_places old (paired t u)
  pub alike : (later : List (Region × Region)) → ty_eq u (substituted_ty (instance_later new later) t) ≡ true
  pub stand : AllStand (instance_in new) (paired t u)
  pub usual : list_any is_unique_for_variable (paired t u) ≡ false

-- Says that the region of a value's outermost pointer outlives the region of the outermost pointer of the parameter's type.
pub record FitsOutermost (c : RegionContext) (old new : List (Option Region)) (r s : Region) : Type 0 where
  pub noted : new ≡ noted_place old (r, s)
  pub outlived : (later : List (Region × Region)) → is_outliving c s (substituted_region (instance_later new later) r) ≡ true
  pub usual : is_unique_for_variable (r, s) ≡ false

-- Says that a value of the given type can be converted to the type of a parameter.
pub record FitsValue (c : RegionContext) (old new : List (Option Region)) (t : Ty) (v : ValueType) : Type 0 where
  pub noted : new ≡ noted_places old (paired_argument t v)
  pub kept : (later : List (Region × Region)) (p : Place) → AllKept (conversion c v (substituted_ty (instance_later new later) t) p)
  pub usual : list_any is_unique_for_variable (paired_argument t v) ≡ false

pub record FitsValues (c : RegionContext) (old new : List (Option Region)) (ts : List Ty) (as' : List typed.Expression) : Type 0 where
  pub noted : new ≡ noted_places old (paired_arguments ts as')
  pub count : length as' ≡ length ts
  pub passed : (later : List (Region × Region)) (es : Expressions) → AllKept (passed_demanded c es as' (map (substituted_ty (instance_later new later)) ts))
  pub varied : (es : Expressions) → AllKept (variables_demanded es as' ts)

-- Says that the values of a call fit the parameters of a signature; at the start, no region variable has a recorded region.
abbrev pub FitsCall : RegionContext → Signature → List typed.Expression → List (Option Region) → Type 0
FitsCall c s as' table = FitsValues c (Some Heap ∷ replicate s.variables None) table s.parameters as'
