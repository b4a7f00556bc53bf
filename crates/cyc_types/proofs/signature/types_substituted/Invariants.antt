use Rattle.std.proofs.Common.{◌≡◌, map, take}
use Rattle.cyc_types.specs.Types.{substituted_ty}
use Rattle.cyc_types.specs.TypeView.{view_ty}
use Rattle.cyc_types.proofs.signature.types_substituted.Given as goal

abbrev pub invariant-loop-of_type : goal.invariant-loop-of_type
invariant-loop-of_type l = map view_ty l.all.items ≡ map (substituted_ty l.instance) (map view_ty (take l.of_type-index l.types))
