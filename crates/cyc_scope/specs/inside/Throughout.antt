-- The regions that are live in the whole body of a function; the checker recognises them without a search in the list of live regions.
use Rattle.std.specs.Prelude.{◌≡◌, ◌<◌, ℕ, suc, true, List}
use Rattle.cyc_types.specs.declared.region.Region.{Region}
use Rattle.cyc_types.specs.declared.region.Region.TheVariants.{Heap, Variable}
use Rattle.cyc_types.specs.Types.{is_region_among}

-- says that the heap and the region variables with numbers 1 to `count` are among the live regions
pub record AreThroughout (live : List Region) (count : ℕ) : Type 0 where
  pub heap : is_region_among Heap live ≡ true
  pub variables : (n : ℕ) → n < count → is_region_among (Variable (suc n)) live ≡ true
