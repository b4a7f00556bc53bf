use Rattle.std.proofs.Common.{◌≡◌, map, take}
use Rattle.cyc_types.specs.Types.{substituted_region}
use Rattle.cyc_types.proofs.signature.regions_substituted.Given as goal

abbrev pub invariant-loop-region : goal.invariant-loop-region
invariant-loop-region l = l.all.items ≡ map (substituted_region l.instance) (take l.region-index l.regions)
