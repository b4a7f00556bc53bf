use Rattle.std.proofs.Common.{◌≡◌, ◌++◌, map, take}
use Rattle.cyc_syntax.specs.inside.TreeView.{view_constructor}
use Rattle.cyc_types.specs.typing.Scopes.{Exception}
use Rattle.cyc_declarations.specs.inside.Declaring.{exceptions_made}
use Rattle.cyc_declarations.proofs.program.add_exceptions.Given as goal

abbrev pub invariant-loop-constructor : goal.invariant-loop-constructor
invariant-loop-constructor l = l.all.items ≡ l.fn.all.items ++ map (λ (e : Exception). e.has_int) (exceptions_made (map view_constructor (take l.constructor-index l.constructors)))
