-- Names of regions as the compiler's code represents them. The representation of region names is this project's own choice.
use Rattle.std.specs.Prelude.{ℕ, List, [], ◌∷◌}
use Rattle.cyc_types.specs.declared.region.Region.TheVariants.{Heap, Unique}
use Rattle.cyc_types.specs.typing.Scopes.{RegionName}
use Rattle.cyc_types.specs.typing.Formation.{Naming}

-- builds the record in which the compiler's code keeps the region names declared by some parameters and the number that the
-- next region will get
abbrev pub naming : List RegionName → ℕ → Naming
naming names next = record { names = names; next = next }

-- the names of the built-in regions: the heap and the unique region
abbrev pub first_regions : (heap unique : ℕ) → List RegionName
first_regions heap unique = record { name = heap; region = Heap } ∷ record { name = unique; region = Unique } ∷ []
