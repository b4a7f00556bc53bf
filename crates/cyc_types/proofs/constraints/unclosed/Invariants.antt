use Rattle.std.proofs.Common.{◌≡◌, take}
use Rattle.cyc_types.specs.Closure.{written_in}
use Rattle.cyc_types.proofs.TableLemmas.{AreOpen}
use Rattle.cyc_types.proofs.constraints.unclosed.Given as goal

abbrev pub invariant-loop-pair : goal.invariant-loop-pair
invariant-loop-pair l = record {
  written : written_in l.constraints.items ≡ take l.pair-index l.written;
  are_open : AreOpen l.constraints.items;
}
