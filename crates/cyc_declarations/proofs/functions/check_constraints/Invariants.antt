use Rattle.std.proofs.Common.{◌≡◌, None, map, drop}
use Rattle.cyc_syntax.specs.inside.TreeView.{view_constraint}
use Rattle.cyc_types.specs.Rules.{settled}
use Rattle.cyc_types.specs.typing.DeclarationRules.{constraints_demanded}
use Rattle.cyc_declarations.proofs.functions.check_constraints.Given as goal

abbrev pub invariant-loop-constraint : goal.invariant-loop-constraint
invariant-loop-constraint l = settled l.settled.known (constraints_demanded l.names (map view_constraint (drop l.constraint-index l.constraints))) ≡ settled None (constraints_demanded l.names (map view_constraint l.constraints))
