-- This file defines simulation between two machines, `above` and `below`: the lower machine does what the upper machine does. The theorem
-- of the compiler is stated with these definitions. The form of simulation is this project's own choice.
use Rattle.std.specs.Prelude.{◌≡◌, ℕ, zero, suc, ◌+◌, ◌*◌}
use Rattle.cyc_words.specs.Ending.{Ending}
use Rattle.cyc_words.specs.Seen.{Seen, ComesTo}

-- The status of a run: running, ended, or failed. A failed run is stuck; this is not a way in which a program ends.
pub data Status : Type 0 where
  Running : Status
  Ended : Ending → Status
  Failed : Status

-- A machine: its states, its step relation, the code position of a state, and the observation of a state.
pub record Machine : Type 1 where
  pub State : Type 0
  pub Place : Type 0
  pub Step : State → State → Type 0
  pub place : State → Place
  pub seen : State → Seen
  pub status : State → Status

-- Says that the machine may reach state `new` from state `old` in this many steps.
abbrev pub Run : (m : Machine) → ℕ → m.State → m.State → Type 0
Run m zero old new = new ≡ old
Run m (suc n) old new = (mid : m.State) × m.Step old mid × Run m n mid new

-- Says that no run from this state reaches a failed state.
abbrev pub NeverFails : (m : Machine) → m.State → Type 0
NeverFails m start = (n : ℕ) (s : m.State) → Run m n start s → m.status s ≡ Failed → ⊥

-- Full preservation: each step of the upper machine is matched by `each` steps of the lower machine, after at most
-- `each` steps before the first one.
pub record Preserves (above below : Machine) (each : ℕ) (start : above.State) (from : below.State) : Type 0 where
  -- After enough steps, the lower machine has printed and read all that the upper machine has printed and read. If the upper machine's
  -- run has ended, then the lower machine's run has ended in the same way.
  pub ahead : (n : ℕ) (now : below.State) → Run below ((n + 1) * each) from now
      → (state : above.State) × Run above n start state × ComesTo (above.seen state) (below.seen now)
      × ((ending : Ending) → above.status state ≡ Ended ending → (below.status now ≡ Ended ending) × (below.seen now ≡ above.seen state))
  -- The observation of the lower machine after any number of steps is that of the upper machine after some number of
  -- steps. If the lower machine has ended, then the upper machine has ended in the same way.
  pub following : (m : ℕ) (now : below.State) → Run below m from now
      → (n : ℕ) × (state : above.State) × Run above n start state × (below.seen now ≡ above.seen state)
      × ((ending : Ending) → below.status now ≡ Ended ending → above.status state ≡ Ended ending)
  pub never_fails : NeverFails below from
