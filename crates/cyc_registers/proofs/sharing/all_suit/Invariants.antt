use Rattle.std.proofs.Common.{◌≡◌, ◌<◌, true, ℕ}
use Rattle.cyc_registers.specs.inside.Interference.{home_of}
use Rattle.cyc_registers.specs.inside.Sharing.{suits}
use Rattle.cyc_registers.proofs.sharing.all_suit.Given as goal

-- Invariant: the home (register or memory) of each slot examined so far is correct, as far as this depends on the slot alone.
abbrev pub invariant-loop-slot : goal.invariant-loop-slot
invariant-loop-slot l =
    (k : ℕ) → k < l.slot
    → suits l.analysis.masks.now l.analysis.lives.now.live.items l.holders l.analysis.lives.now.calls l.analysis.lives.now.clauses l.analysis.lives.now.barred l.analysis.function.now.parameters l.saved k (home_of l.homes k) ≡ true
