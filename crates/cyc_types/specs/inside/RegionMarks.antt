-- A set of regions is represented by flags: one flag each for the heap and the unique region, and one for each region variable, indexed
-- by its number. The representation of sets of regions by flags is this project's own choice.
use Rattle.std.specs.Prelude.{Bool, false, List, get_or}
use Rattle.cyc_types.specs.declared.region.Region.{Region}
use Rattle.cyc_types.specs.declared.region.Region.TheVariants.{Heap, Unique, Variable}

abbrev pub is_marked : Bool → Bool → List Bool → Region → Bool
is_marked heap unique marks Heap = heap
is_marked heap unique marks Unique = unique
is_marked heap unique marks (Variable n) = get_or marks n false
