use Rattle.std.proofs.Common.{◌≡◌, drop, map}
use Rattle.cyc_syntax.specs.inside.TreeView.{place_of_span}
use Rattle.cyc_types.specs.Types.{substituted_region}
use Rattle.cyc_types.specs.Rules.{settled}
use Rattle.cyc_types.specs.typing.Expressions.{effect_demanded}
use Rattle.cyc_calls.specs.inside.Instances.{instance_in}
use Rattle.cyc_calls.proofs.calls.demand_effect.Given as goal

abbrev pub invariant-loop-region : goal.invariant-loop-region
invariant-loop-region l =
    settled l.so_far.known (effect_demanded l.scope (place_of_span l.span) (map (substituted_region (instance_in l.table)) (drop l.region-index l.effect)))
    ≡ settled l.fn.so_far.known (effect_demanded l.scope (place_of_span l.span) (map (substituted_region (instance_in l.table)) l.effect))
