use Rattle.std.proofs.Common.{◌≡◌, ◌+◌, ◌≤◌, map, drop}
use Rattle.cyc_syntax.specs.inside.TreeView.{view_declaration}
use Rattle.cyc_types.specs.typing.Programs.{function_number}
use Rattle.cyc_declarations.proofs.program.function_number.Given as goal

abbrev pub invariant-loop-declaration : goal.invariant-loop-declaration
invariant-loop-declaration l =
    (l.number + function_number l.name (map view_declaration (drop l.declaration-index l.declarations)) ≡ function_number l.name (map view_declaration l.declarations)) × (l.number ≤ l.declaration-index)
