use Rattle.std.proofs.Common.{◌≡◌, map, drop}
use Rattle.cyc_syntax.specs.inside.TreeView.{view_declaration}
use Rattle.cyc_types.specs.typing.DeclarationRules.{declares}
use Rattle.cyc_declarations.proofs.tree.declares.Given as goal

abbrev pub invariant-loop-declaration : goal.invariant-loop-declaration
invariant-loop-declaration l = declares l.name (map view_declaration (drop l.declaration-index l.declarations)) ≡ declares l.name (map view_declaration l.declarations)
