use Rattle.std.proofs.Common.{drop}
use Rattle.cyc_calls.specs.inside.Plain.{AreUsual}
use Rattle.cyc_calls.proofs.plain.are_usual.Given as goal

-- Invariant: if region variables may have all remaining regions of the list, they may have all regions of the list.
abbrev pub invariant-loop-region : goal.invariant-loop-region
invariant-loop-region l = AreUsual l.scope (drop l.region-index l.regions) → AreUsual l.scope l.regions
