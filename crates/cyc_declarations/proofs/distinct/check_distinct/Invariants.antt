use Rattle.std.proofs.Common.{◌≡◌, None, map, drop}
use Rattle.cyc_syntax.specs.inside.TreeView.{view_name}
use Rattle.cyc_types.specs.Rules.{settled}
use Rattle.cyc_types.specs.typing.DeclarationRules.{distinct_demanded, with_all}
use Rattle.cyc_declarations.proofs.distinct.check_distinct.Given as goal

abbrev pub invariant-loop-name : goal.invariant-loop-name
invariant-loop-name l =
    (settled l.settled.known (distinct_demanded l.known (map view_name (drop l.name-index l.names))) ≡ settled None (distinct_demanded l.fn.known (map view_name l.names)))
    × (with_all (map view_name (drop l.name-index l.names)) l.known ≡ with_all (map view_name l.names) l.fn.known)
