use Rattle.std.proofs.Common.{◌≡◌, ◌<◌, true, false, ◌||◌, reverse, take, length}
use Rattle.std.specs.Option.{ForSome}
use Rattle.cyc_types.specs.declared.region.Region.{Region}
use Rattle.cyc_types.specs.Outlives.{live_regions}
use Rattle.cyc_types.specs.Closure.{above, above_one_of, is_above_known, leads, written_in}
use Rattle.cyc_types.proofs.outlives.leads.Given as goal

abbrev pub invariant-loop-i : goal.invariant-loop-i
invariant-loop-i l = record {
  same : (x : Region) → leads (written_in l.constraints) l.live (reverse (take l.i l.scopes)) x l.b
      ≡ (above (written_in l.constraints) x l.b || is_above_known (written_in l.constraints) l.live l.scopes l.known x);
  within : (x : Region) → is_above_known (written_in l.constraints) l.live l.scopes l.known x ≡ true →
      above_one_of (written_in l.constraints) (live_regions l.live (reverse (take l.i l.scopes))) x ≡ true;
  not_yet : is_above_known (written_in l.constraints) l.live l.scopes l.known l.a ≡ false;
  bound : ForSome l.known (λ k. k < length l.scopes);
}
