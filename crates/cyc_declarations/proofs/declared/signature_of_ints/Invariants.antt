use Rattle.std.proofs.Common.{◌≡◌, map, replicate}
use Rattle.cyc_types.specs.Types.{Int}
use Rattle.cyc_types.specs.TypeView.{view_ty}
use Rattle.cyc_declarations.proofs.declared.signature_of_ints.Given as goal

abbrev pub invariant-loop : goal.invariant-loop
invariant-loop l = map view_ty l.parameters.items ≡ replicate l.counter Int
