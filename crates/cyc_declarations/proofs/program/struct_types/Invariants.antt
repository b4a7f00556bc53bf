use Rattle.std.proofs.Common.{◌≡◌, ◌++◌, map, drop}
use Rattle.cyc_syntax.specs.inside.TreeView.{view_declaration}
use Rattle.cyc_types.specs.TypedTreeView.{view_struct}
use Rattle.cyc_types.specs.typing.DeclarationRules.{structs_of, fields_of}
use Rattle.cyc_types.specs.typing.Programs.{struct_types}
use Rattle.cyc_declarations.proofs.program.struct_types.Given as goal

abbrev pub invariant-loop-declaration : goal.invariant-loop-declaration
invariant-loop-declaration l =
    map view_struct l.all.items ++ struct_types (structs_of (map view_declaration (drop l.declaration-index l.declarations))) (fields_of l.known (map view_declaration (drop l.declaration-index l.declarations)))
    ≡ struct_types (structs_of (map view_declaration l.declarations)) (fields_of l.known (map view_declaration l.declarations))
