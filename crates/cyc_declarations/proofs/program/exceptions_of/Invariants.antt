use Rattle.std.proofs.Common.{◌≡◌, ◌++◌, map, drop}
use Rattle.cyc_syntax.specs.inside.TreeView.{view_declaration}
use Rattle.cyc_types.specs.typing.Scopes.{Exception}
use Rattle.cyc_types.specs.typing.DeclarationRules.{exceptions_of}
use Rattle.cyc_declarations.proofs.program.exceptions_of.Given as goal

abbrev pub invariant-loop-declaration : goal.invariant-loop-declaration
invariant-loop-declaration l = l.all.items ++ map (λ (e : Exception). e.has_int) (exceptions_of (map view_declaration (drop l.declaration-index l.declarations))) ≡ map (λ (e : Exception). e.has_int) (exceptions_of (map view_declaration l.declarations))
