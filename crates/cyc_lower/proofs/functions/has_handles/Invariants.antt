use Rattle.std.proofs.Common.{◌≡◌, drop, map}
use Rattle.std.specs.List.{list_any}
use Rattle.cyc_types.specs.TypeView.{view_ty}
use Rattle.cyc_lower_proof.specs.inside.Lowering.{is_handle}
use Rattle.cyc_lower.proofs.functions.has_handles.Given as goal

-- Loop invariant: none of the types visited so far is that of a region handle.
abbrev pub invariant-loop-of_type : goal.invariant-loop-of_type
invariant-loop-of_type l = list_any is_handle (map view_ty (drop l.of_type-index l.types)) ≡ list_any is_handle (map view_ty l.types)
