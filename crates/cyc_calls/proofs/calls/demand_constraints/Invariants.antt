use Rattle.std.proofs.Common.{◌≡◌, drop, map}
use Rattle.cyc_syntax.specs.inside.TreeView.{place_of_span}
use Rattle.cyc_types.specs.inside.SignatureView.{substituted_pair}
use Rattle.cyc_types.specs.Rules.{settled}
use Rattle.cyc_types.specs.typing.Expressions.{constraints_demanded}
use Rattle.cyc_calls.specs.inside.Instances.{instance_in}
use Rattle.cyc_calls.proofs.calls.demand_constraints.Given as goal

abbrev pub invariant-loop-pair : goal.invariant-loop-pair
invariant-loop-pair l =
    settled l.so_far.known (constraints_demanded l.scope.regions (place_of_span l.span) (map (substituted_pair (instance_in l.table)) (drop l.pair-index l.constraints)))
    ≡ settled l.fn.so_far.known (constraints_demanded l.scope.regions (place_of_span l.span) (map (substituted_pair (instance_in l.table)) l.constraints))
