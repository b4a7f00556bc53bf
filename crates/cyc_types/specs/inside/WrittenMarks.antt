-- The default region of a pointer sign (`*`, `@`, `?`) without a written region depends on the number of signs after it. The numbering of
-- omitted regions is this project's own choice.
use Rattle.std.specs.Prelude.{ℕ, zero, suc}
use Rattle.cyc_types.specs.declared.region.Region.{Region}
use Rattle.cyc_types.specs.declared.region.Region.TheVariants.{Heap}

abbrev pub left_out_by : Region → (following : ℕ) → Region
left_out_by outermost zero = outermost
left_out_by outermost (suc n) = Heap
