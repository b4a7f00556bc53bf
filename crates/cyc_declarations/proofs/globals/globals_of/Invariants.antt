use Rattle.std.proofs.Common.{◌≡◌, ◌++◌, map, drop}
use Rattle.cyc_syntax.specs.inside.TreeView.{view_declaration}
use Rattle.cyc_types.specs.TypedTreeView.{view_global}
use Rattle.cyc_types.specs.typing.Programs.{globals_of}
use Rattle.cyc_declarations.proofs.globals.globals_of.Given as goal

abbrev pub invariant-loop-declaration : goal.invariant-loop-declaration
invariant-loop-declaration l = map view_global l.all.items ++ globals_of l.known (map view_declaration (drop l.declaration-index l.declarations)) ≡ globals_of l.known (map view_declaration l.declarations)
