use Rattle.std.proofs.Common.{◌≡◌, None, map, drop}
use Rattle.cyc_syntax.specs.inside.TreeView.{view_constructor}
use Rattle.cyc_types.specs.Rules.{settled}
use Rattle.cyc_types.specs.typing.DeclarationRules.{constructor_names, distinct_demanded, with_all}
use Rattle.cyc_declarations.proofs.distinct.check_constructors.Given as goal

abbrev pub invariant-loop-constructor : goal.invariant-loop-constructor
invariant-loop-constructor l =
    (settled l.settled.known (distinct_demanded l.known (constructor_names (map view_constructor (drop l.constructor-index l.constructors)))) ≡ settled None (distinct_demanded l.fn.known (constructor_names (map view_constructor l.constructors))))
    × (with_all (constructor_names (map view_constructor (drop l.constructor-index l.constructors))) l.known ≡ with_all (constructor_names (map view_constructor l.constructors)) l.fn.known)
