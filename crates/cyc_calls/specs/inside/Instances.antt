-- How the code finds the regions of the region variables of a signature at a call. The table holds, for each variable, the region at
-- its first occurrence.
use Rattle.std.specs.Prelude.{ℕ, List, [], ◌∷◌, map, Option, Some, None, unwrap_or, slice_get, slice_set}
use Rattle.cyc_types.specs.declared.region.Region.{Region}
use Rattle.cyc_types.specs.declared.region.Region.TheVariants.{Heap, Unique, Variable}

-- Records a region for the region variable with the given index, if the variable has no recorded region yet.
abbrev pub noted_at : Option (Option Region) → ℕ → Region → List (Option Region) → List (Option Region)
noted_at (Some None) n s table = slice_set table n (Some s)
noted_at known n s table = table

abbrev pub noted_place : List (Option Region) → Region × Region → List (Option Region)
noted_place table (Variable n, s) = noted_at (slice_get table n) n s table
noted_place table (Heap, s) = table
noted_place table (Unique, s) = table

abbrev pub noted_places : List (Option Region) → List (Region × Region) → List (Option Region)
noted_places table [] = table
noted_places table (p ∷ ps) = noted_places (noted_place table p) ps

-- Returns the regions of a table; the region of a variable without a recorded region is the heap.
abbrev pub instance_in : List (Option Region) → List Region
instance_in table = map (λ o. unwrap_or o Heap) table
