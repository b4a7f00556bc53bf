use Rattle.std.proofs.Common.{◌≡◌, map, take}
use Rattle.cyc_syntax.specs.inside.TreeView.{view_name}
use Rattle.cyc_types.specs.typing.Formation.{region_of}
use Rattle.cyc_declarations.proofs.signatures.regions_of.Given as goal

abbrev pub invariant-loop-name : goal.invariant-loop-name
invariant-loop-name l = l.all.items ≡ map (region_of l.names) (map view_name (take l.name-index l.written))
