use Rattle.std.proofs.Common.{◌≡◌, ◌++◌, map, drop}
use Rattle.cyc_syntax.specs.inside.TreeView.{view_name}
use Rattle.cyc_types.specs.typing.Formation.{regions_for, after_regions}
use Rattle.cyc_types.specs.inside.Namings.{naming}
use Rattle.cyc_types.proofs.parameters.arguments_for.Given as goal

abbrev pub invariant-loop-name : goal.invariant-loop-name
invariant-loop-name l =
    (l.all.items ++ regions_for (naming l.names l.next) (map view_name (drop l.name-index l.written)) ≡ regions_for (naming l.fn.names l.fn.next) (map view_name l.written))
    × (after_regions (naming l.names l.next) (map view_name (drop l.name-index l.written)) ≡ after_regions (naming l.fn.names l.fn.next) (map view_name l.written))
