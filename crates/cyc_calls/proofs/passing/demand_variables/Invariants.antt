use Rattle.std.proofs.Common.{◌≡◌, map, drop}
use Rattle.cyc_syntax.specs.inside.TreeView.{expressions_of}
use Rattle.cyc_types.specs.TypeView.{view_ty}
use Rattle.cyc_types.specs.Rules.{settled}
use Rattle.cyc_types.specs.typing.Expressions.{variables_demanded}
use Rattle.cyc_operands.specs.inside.Operands.{value_in}
use Rattle.cyc_calls.proofs.passing.demand_variables.Given as goal

abbrev pub invariant-loop-i : goal.invariant-loop-i
invariant-loop-i l =
    settled l.so_far.known (variables_demanded (expressions_of (drop l.i l.expressions)) (map value_in (drop l.i l.values)) (map view_ty (drop l.i l.types)))
    ≡ settled l.fn.so_far.known (variables_demanded (expressions_of l.expressions) (map value_in l.values) (map view_ty l.types))
