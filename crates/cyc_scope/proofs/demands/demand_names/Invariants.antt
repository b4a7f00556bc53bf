use Rattle.std.proofs.Common.{◌≡◌, map, drop}
use Rattle.cyc_syntax.specs.inside.TreeView.{view_name}
use Rattle.cyc_types.specs.Rules.{settled}
use Rattle.cyc_types.specs.typing.Formation.{names_demanded}
use Rattle.cyc_scope.proofs.demands.demand_names.Given as goal

abbrev pub invariant-loop-region : goal.invariant-loop-region
invariant-loop-region l = settled l.settled.known (names_demanded l.names l.own (map view_name (drop l.region-index l.regions))) ≡ settled l.fn.settled.known (names_demanded l.names l.own (map view_name l.regions))
