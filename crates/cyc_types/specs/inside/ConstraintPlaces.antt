-- A table stores, for each region, the index of the first outlives constraint that has it as longer-lived region. The table
-- of first constraints is this project's own choice.
use Rattle.std.specs.Prelude.{◌≡◌, ◌<◌, ℕ, List, get_or, length, Option, Some, None}
use Rattle.cyc_types.specs.declared.region.Region.{Region}
use Rattle.cyc_types.specs.declared.region.Region.TheVariants.{Heap, Unique, Variable}
use Rattle.cyc_types.specs.declared.constraints.Constraint.{Constraint}
use Rattle.cyc_types.specs.declared.constraint_table.Places.{Places}
use Rattle.cyc_types.specs.Types.{region_eq}
use Rattle.cyc_types.specs.Closure.{entry_leads, table_leads}

abbrev pub place_of : Places → Region → Option ℕ
place_of places Heap = places.heap
place_of places Unique = places.unique
place_of places (Variable n) = get_or places.variables.items n None

-- says that the first constraint of a region in the suffix `last` is at the given index of the whole constraint list, if any
abbrev pub IsFirst : List Constraint → List Constraint → Region → Option ℕ → Type 0
IsFirst all last a None = (b : Region) → table_leads last a b ≡ region_eq a b
IsFirst all last a (Some k) =
    (k < length all) × ((d : Constraint) → ((get_or all k d).longer ≡ a) × ((b : Region) → table_leads last a b ≡ entry_leads (get_or all k d) b))

-- says that the table entry of each region is the index of the region's first constraint
abbrev pub AreFirst : List Constraint → List Constraint → Places → Type 0
AreFirst all last places = (a : Region) → IsFirst all last a (place_of places a)
