use Rattle.std.proofs.Common.{map, drop}
use Rattle.cyc_types.specs.TypeView.{view_ty}
use Rattle.cyc_operands.specs.inside.Operands.{value_in}
use Rattle.cyc_calls.specs.inside.Plain.{TakesAll}
use Rattle.cyc_calls.proofs.plain.takes_all.Given as goal

-- Invariant: if the remaining arguments can be converted to their parameters' types, all arguments of the call can be converted so.
abbrev pub invariant-loop-i : goal.invariant-loop-i
invariant-loop-i l =
    TakesAll l.scope (map view_ty (drop l.i l.parameters)) (map value_in (drop l.i l.values)) → TakesAll l.scope (map view_ty l.parameters) (map value_in l.values)
