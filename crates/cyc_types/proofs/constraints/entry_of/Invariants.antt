use Rattle.std.proofs.Common.{◌≡◌, drop}
use Rattle.cyc_types.specs.declared.region.Region.{Region}
use Rattle.cyc_types.specs.Closure.{table_leads}
use Rattle.cyc_types.proofs.constraints.entry_of.Given as goal

abbrev pub invariant-loop-constraint : goal.invariant-loop-constraint
invariant-loop-constraint l =
    (b : Region) → table_leads l.constraints l.region b ≡ table_leads (drop l.constraint-index l.constraints) l.region b
