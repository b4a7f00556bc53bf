use Rattle.std.proofs.Common.{List, Option, drop}
use Rattle.cyc_types.specs.declared.region.Region.{Region}
use Rattle.cyc_calls.specs.inside.Fitting.{FitsRegions}
use Rattle.cyc_calls.proofs.fitting.fits_regions.Given as goal

-- Invariant: if the remaining regions fit the regions of a parameter's type at the same indices, all regions of the list fit.
abbrev pub invariant-loop-i : goal.invariant-loop-i
invariant-loop-i l =
    (new : List (Option Region)) → FitsRegions l.table new (drop l.i l.wanted) (drop l.i l.regions) → FitsRegions l.fn.table new l.wanted l.regions
