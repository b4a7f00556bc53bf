use Rattle.std.proofs.Common.{drop}
use Rattle.cyc_scope.specs.inside.Plain.{AreVariables}
use Rattle.cyc_scope.proofs.plain.are_variables.Given as goal

-- invariant: if the regions not yet visited are variables numbered at most `count`, all regions of the list are
abbrev pub invariant-loop-region : goal.invariant-loop-region
invariant-loop-region l = AreVariables l.count (drop l.region-index l.regions) → AreVariables l.count l.regions
