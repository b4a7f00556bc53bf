use Rattle.std.proofs.Common.{List, Option, map, drop}
use Rattle.cyc_types.specs.declared.region.Region.{Region}
use Rattle.cyc_types.specs.TypeView.{view_ty}
use Rattle.cyc_operands.specs.inside.Operands.{value_in}
use Rattle.cyc_calls.specs.inside.Fitting.{FitsValues}
use Rattle.cyc_calls.proofs.fitting.fits.Given as goal

-- Invariant: if the remaining arguments fit their parameters, all arguments of the call fit their parameters.
abbrev pub invariant-loop-i : goal.invariant-loop-i
invariant-loop-i l =
    (new : List (Option Region)) → FitsValues l.scope.regions l.table new (map view_ty (drop l.i l.parameters)) (map value_in (drop l.i l.values))
    → FitsValues l.scope.regions l.fn.table new (map view_ty l.parameters) (map value_in l.values)
