-- Examples of the outlives relation.
use Rattle.std.specs.Prelude.{◌≡◌, true, false, [], ◌∷◌, refl}
use Rattle.cyc_types.specs.declared.region.Region.TheVariants.{Heap, Unique, Variable}
use Rattle.cyc_types.specs.declared.scope.Kind.TheVariants.{Lexical, Dynamic}
use Rattle.cyc_types.specs.Outlives.{RegionContext}
use Rattle.cyc_types.specs.Closure.{is_outliving}

-- Example: a function whose region 0 outlives its region 1 opens the dynamic region 2, and then the lexical region 3.
abbrev nested : RegionContext
nested = record {
  written = (Variable 0, Variable 1) ∷ [];
  live = Variable 1 ∷ [];
  opened = record { region = Variable 3; kind = Lexical } ∷ record { region = Variable 2; kind = Dynamic } ∷ [];
}

-- example: a region that outlives a live region also outlives the lexical region opened after that live region
through_the_live_region : is_outliving nested (Variable 0) (Variable 3) ≡ true
through_the_live_region = refl

opened_region_is_live : is_outliving nested (Variable 2) (Variable 3) ≡ true
opened_region_is_live = refl

-- example: a live region other than the heap does not outlive a dynamic region opened later
live_not_above_opened : is_outliving nested (Variable 1) (Variable 2) ≡ false
live_not_above_opened = refl

heap_above_opened : is_outliving nested Heap (Variable 2) ≡ true
heap_above_opened = refl

never_turned_round : is_outliving nested (Variable 1) (Variable 0) ≡ false
never_turned_round = refl

heap_not_above_unique : is_outliving nested Heap Unique ≡ false
heap_not_above_unique = refl

unique_above_nothing : is_outliving nested Unique (Variable 3) ≡ false
unique_above_nothing = refl
