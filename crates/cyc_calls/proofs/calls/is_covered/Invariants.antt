use Rattle.std.proofs.Common.{◌≡◌, true, drop, map}
use Rattle.std.specs.List.{list_all}
use Rattle.cyc_types.specs.Types.{substituted_region}
use Rattle.cyc_types.specs.typing.Scopes.{is_live}
use Rattle.cyc_calls.specs.inside.Instances.{instance_in}
use Rattle.cyc_calls.proofs.calls.is_covered.Given as goal

abbrev pub invariant-loop-region : goal.invariant-loop-region
invariant-loop-region l = record {
  known : is_live l.scope l.known ≡ true;
  rest :
      list_all (λ r. is_live l.scope r) (map (substituted_region (instance_in l.table)) (drop l.region-index l.rest))
      ≡ list_all (λ r. is_live l.scope r) (map (substituted_region (instance_in l.table)) l.effect);
}
