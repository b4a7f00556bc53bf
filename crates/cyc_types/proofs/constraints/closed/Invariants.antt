use Rattle.std.proofs.Common.{◌≡◌, drop}
use Rattle.cyc_types.specs.declared.region.Region.{Region}
use Rattle.cyc_types.specs.Closure.{above, table_leads, written_in}
use Rattle.cyc_types.proofs.constraints.closed.Given as goal

abbrev pub invariant-loop-i : goal.invariant-loop-i
invariant-loop-i l = record {
  written : written_in l.constraints.items ≡ l.written;
  leads : (a b : Region) → table_leads l.constraints.items a b ≡ above (drop l.i l.written) a b;
}
