use Rattle.std.proofs.Common.{◌≡◌, map, take}
use Rattle.cyc_syntax.specs.inside.TreeView.{view_constraint}
use Rattle.cyc_types.specs.typing.DeclarationRules.{constraints_of}
use Rattle.cyc_declarations.proofs.signatures.constraints_of.Given as goal

abbrev pub invariant-loop-constraint : goal.invariant-loop-constraint
invariant-loop-constraint l = l.all.items ≡ constraints_of l.names (map view_constraint (take l.constraint-index l.written))
