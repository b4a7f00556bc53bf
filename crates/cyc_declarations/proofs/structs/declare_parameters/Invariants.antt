use Rattle.std.proofs.Common.{◌≡◌, map, drop}
use Rattle.cyc_syntax.specs.inside.TreeView.{view_name}
use Rattle.cyc_types.specs.typing.DeclarationRules.{parameter_names}
use Rattle.cyc_declarations.proofs.structs.declare_parameters.Given as goal

abbrev pub invariant-loop-i : goal.invariant-loop-i
invariant-loop-i l = l.names ≡ parameter_names (map view_name (drop l.i l.parameters)) l.i l.fn.names
