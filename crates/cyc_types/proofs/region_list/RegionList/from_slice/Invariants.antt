use Rattle.std.proofs.Common.{◌≡◌, take}
use Rattle.cyc_types.proofs.region_list.RegionList.from_slice.Given as goal

abbrev pub invariant-loop-region : goal.invariant-loop-region
invariant-loop-region l = l.list ≡ take l.region-index l.regions
