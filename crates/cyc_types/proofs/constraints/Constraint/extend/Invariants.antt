use Rattle.std.proofs.Common.{◌≡◌, ◌||◌, take}
use Rattle.cyc_types.specs.declared.region.Region.{Region}
use Rattle.cyc_types.specs.Types.{is_region_among}
use Rattle.cyc_types.specs.Closure.{entry_leads}
use Rattle.cyc_types.proofs.constraints.Constraint.extend.Given as goal

abbrev pub invariant-loop-region : goal.invariant-loop-region
invariant-loop-region l = record {
  longer : l.self.longer ≡ l.fn.self.longer;
  shorter : l.self.shorter ≡ l.fn.self.shorter;
  leads : (b : Region) → entry_leads l.self b ≡ (entry_leads l.fn.self b || is_region_among b (take l.region-index l.below));
}
