use Rattle.std.proofs.Common.{◌≡◌, map, drop}
use Rattle.cyc_syntax.specs.inside.TreeView.{view_constructor}
use Rattle.cyc_declarations.specs.inside.Declaring.{with_exceptions}
use Rattle.cyc_declarations.proofs.declared.add_constructors.Given as goal

abbrev pub invariant-loop-constructor : goal.invariant-loop-constructor
invariant-loop-constructor l = with_exceptions (map view_constructor (drop l.constructor-index l.constructors)) l.program ≡ with_exceptions (map view_constructor l.constructors) l.fn.program
