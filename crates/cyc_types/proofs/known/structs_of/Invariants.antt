use Rattle.std.proofs.Common.{◌≡◌, ◌++◌, map, drop}
use Rattle.cyc_syntax.specs.inside.TreeView.{view_declaration}
use Rattle.cyc_types.specs.typing.DeclarationRules.{structs_of}
use Rattle.cyc_types.proofs.known.structs_of.Given as goal

abbrev pub invariant-loop-declaration : goal.invariant-loop-declaration
invariant-loop-declaration l = l.structs ++ structs_of (map view_declaration (drop l.declaration-index l.declarations)) ≡ structs_of (map view_declaration l.declarations)
