use Rattle.std.proofs.Common.{◌≡◌, map, drop}
use Rattle.cyc_types.specs.TypeView.{view_ty}
use Rattle.cyc_meaning.specs.Values.{kind_of, kinds_of, are_kinds}
use Rattle.cyc_interpret.specs.WorldView.{view_cell}
use Rattle.cyc_interpret.proofs.found.have_kinds.Given as goal

abbrev pub invariant-loop-at : goal.invariant-loop-at
invariant-loop-at l = are_kinds (kinds_of (map view_cell l.cells.items)) (map kind_of (map view_ty l.types.items))
    ≡ are_kinds (kinds_of (map view_cell (drop l.at l.cells.items))) (map kind_of (map view_ty (drop l.at l.types.items)))
