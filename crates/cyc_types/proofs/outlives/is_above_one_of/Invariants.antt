use Rattle.std.proofs.Common.{◌≡◌, false, take}
use Rattle.cyc_types.specs.Closure.{above_one_of, written_in}
use Rattle.cyc_types.proofs.outlives.is_above_one_of.Given as goal

abbrev pub invariant-loop-region : goal.invariant-loop-region
invariant-loop-region l = above_one_of (written_in l.constraints) (take l.region-index l.regions) l.a ≡ false
