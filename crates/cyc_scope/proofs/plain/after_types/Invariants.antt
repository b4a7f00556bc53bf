use Rattle.std.proofs.Common.{ℕ, map, drop}
use Rattle.cyc_types.specs.TypeView.{view_ty}
use Rattle.cyc_scope.specs.inside.Plain.{all_regions, Ascend}
use Rattle.cyc_scope.proofs.plain.after_types.Given as goal

-- invariant: if the regions of the types not yet visited are variables with increasing numbers, so are the regions of all types
abbrev pub invariant-loop-of_type : goal.invariant-loop-of_type
invariant-loop-of_type l = (n : ℕ) → Ascend l.known (all_regions (map view_ty (drop l.of_type-index l.types))) n → Ascend l.next (all_regions (map view_ty l.types)) n
