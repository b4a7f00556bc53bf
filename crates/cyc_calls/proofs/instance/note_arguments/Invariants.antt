use Rattle.std.proofs.Common.{◌≡◌, map, drop}
use Rattle.cyc_types.specs.TypeView.{view_ty}
use Rattle.cyc_types.specs.typing.Expressions.{paired_arguments}
use Rattle.cyc_operands.specs.inside.Operands.{value_in}
use Rattle.cyc_calls.specs.inside.Instances.{noted_places}
use Rattle.cyc_calls.proofs.instance.note_arguments.Given as goal

abbrev pub invariant-loop-i : goal.invariant-loop-i
invariant-loop-i l =
    noted_places l.table (paired_arguments (map view_ty (drop l.i l.parameters)) (map value_in (drop l.i l.values)))
    ≡ noted_places l.fn.table (paired_arguments (map view_ty l.parameters) (map value_in l.values))
