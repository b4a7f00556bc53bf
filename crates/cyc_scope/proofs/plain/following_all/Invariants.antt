use Rattle.std.proofs.Common.{ℕ, drop}
use Rattle.cyc_scope.specs.inside.Plain.{Ascend}
use Rattle.cyc_scope.proofs.plain.following_all.Given as goal

-- invariant: if the regions not yet visited are variables with increasing numbers, so are all regions of the list
abbrev pub invariant-loop-region : goal.invariant-loop-region
invariant-loop-region l = (n : ℕ) → Ascend l.known (drop l.region-index l.regions) n → Ascend l.next l.regions n
