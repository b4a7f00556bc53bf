use Rattle.std.proofs.Common.{◌≡◌, map, drop}
use Rattle.cyc_syntax.specs.inside.TreeView.{view_name}
use Rattle.cyc_types.specs.Rules.{settled}
use Rattle.cyc_declarations.specs.inside.KeyTables.{effect_asked}
use Rattle.cyc_declarations.proofs.functions.demand_effect.Given as goal

abbrev pub invariant-loop-name : goal.invariant-loop-name
invariant-loop-name l = settled l.settled.known (effect_asked l.names l.keys (map view_name (drop l.name-index l.regions))) ≡ settled l.fn.settled.known (effect_asked l.names l.keys (map view_name l.regions))
