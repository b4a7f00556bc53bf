use Rattle.std.proofs.Common.{◌≡◌, false, not, ◌&&◌, take}
use Rattle.std.specs.List.{list_any}
use Rattle.cyc_types.specs.declared.region.Region.TheVariants.{Unique}
use Rattle.cyc_types.specs.Types.{region_eq, is_region_among}
use Rattle.cyc_types.specs.inside.Openings.{live_before}
use Rattle.cyc_types.proofs.openings.is_one_live_before.Given as goal

abbrev pub invariant-loop-region : goal.invariant-loop-region
invariant-loop-region l = list_any (λ r. not (region_eq r Unique) && is_region_among r (live_before l.live l.scopes l.count)) (take l.region-index l.regions) ≡ false
