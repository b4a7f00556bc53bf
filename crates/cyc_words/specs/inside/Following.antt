-- This file defines simulation in the form in which each pass of the compiler proves it, for any two machines. The statements of
-- several passes compose to `Preserves`. The form of simulation for passes is this project's own choice.
--
-- A state of the lower machine is matched with a state of the upper machine. A step of the upper machine is matched by a sequence of
-- steps of the lower machine. The matching steps are at code positions that are assigned to the upper step, each visited at most once.
-- For any price of positions, the matching sequence costs at most the sum over the positions assigned to the upper step, through any
-- number of passes. If each machine word of the code has the price one, then the sum of the prices bounds the number of instructions.
use Rattle.std.specs.Prelude.{◌≡◌, ℕ, ◌+◌, ◌≤◌, ◌<◌, ◌⊎◌, List, [], ◌∷◌, length, sum_by, Contains}
use Rattle.std.specs.List.{AllByRecursion}
use Rattle.cyc_words.specs.Distinct.{IsDistinct}
use Rattle.cyc_words.specs.Ending.{Ending}
use Rattle.cyc_words.specs.Seen.{Seen, ComesTo}
use Rattle.cyc_words.specs.Simulation.{Running, Ended, Failed, Machine, Run}

-- Says that the machine may reach state `new` from state `old` by one step from each of these code positions, in order.
abbrev pub Path : (m : Machine) → List m.Place → m.State → m.State → Type 0
Path m [] old new = new ≡ old
Path m (p ∷ places) old new = (mid : m.State) × (m.place old ≡ p) × m.Step old mid × Path m places mid new

-- Says that output and consumed input only grow along a step, and that no ended state steps to another state.
pub record IsLawful (m : Machine) : Type 0 where
  pub grows : (old new : m.State) → m.Step old new → ComesTo (m.seen old) (m.seen new)
  pub stays : (old new : m.State) (ending : Ending) → m.status old ≡ Ended ending → m.Step old new → new ≡ old
  pub rests : (s : m.State) (ending : Ending) → m.status s ≡ Ended ending → m.Step s s

-- Says that the machine may reach a state with exactly this observation from the state `start`.
abbrev pub MayShow : (m : Machine) → m.State → Seen → Type 0
MayShow m start seen = (n : ℕ) × (s : m.State) × Run m n start s × (seen ≡ m.seen s)

-- ---- the statement that a pass proves

-- Says that the lower machine's run, which has visited the code positions `met`, is in the middle of a step of an upper machine's run.
-- `before` lists the positions visited before the first step; `own` maps each position of the upper machine to the positions of its step
-- in the lower machine.
pub record IsUnderWay (above below : Machine) (before : List below.Place) (own : above.Place → List below.Place) (start : above.State) (met : List below.Place) (now : below.State) : Type 0 where
  -- The run of the upper machine up to now; the upper machine is still running, as the lower machine is.
  pub places : List above.Place
  pub state : above.State
  pub path : Path above places start state
  pub running : above.status state ≡ Running
  pub goes_on : below.status now ≡ Running
  -- All output and input of the upper machine has happened in the lower machine, and the observation of the lower machine may still occur
  -- in the upper machine.
  pub ahead : ComesTo (above.seen state) (below.seen now)
  pub following : MayShow above start (below.seen now)
  -- All code positions visited so far cost at most as much as the initial positions and those assigned to all upper steps,
  -- including the current step. A position is visited at most once for each step to which it is assigned.
  pub cost : (price : below.Place → ℕ)
      → sum_by price met + price (below.place now)
      ≤ sum_by price before + sum_by (λ p. sum_by price (own p)) places + sum_by price (own (above.place state))

-- Says that the lower machine's run has ended in the same way as a run of the upper machine.
pub record IsOver (above below : Machine) (start : above.State) (now : below.State) : Type 0 where
  pub places : List above.Place
  pub state : above.State
  pub path : Path above places start state
  pub ending : Ending
  pub ended : above.status state ≡ Ended ending
  pub over : below.status now ≡ Ended ending
  pub seen : below.seen now ≡ above.seen state

-- Says that each run of the lower machine corresponds to a run of the upper machine. The lower run is in the middle of an upper step,
-- or both runs have ended. In particular no run of the lower machine fails.
pub record Follows (above below : Machine) (before : List below.Place) (own : above.Place → List below.Place) (start : above.State) (from : below.State) : Type 0 where
  pub runs : (met : List below.Place) (now : below.State) → Path below met from now
      → IsUnderWay above below before own start met now ⊎ IsOver above below start now

-- ---- the proof method of a pass

-- Says that each run from this state visits these code positions in order, through states that satisfy `Way`, and then reaches a state that
-- satisfies `Goal`.
abbrev pub Comes : (m : Machine) → (Way Goal : m.State → Type 0) → List m.Place → m.State → Type 0
Comes m Way Goal [] s = Goal s
Comes m Way Goal (p ∷ places) s =
    (m.place s ≡ p) × Way s × ((next : m.State) → m.Step s next → Comes m Way Goal places next)

-- A lower machine's state between two matches: it is running, it shows at least what the upper state shows, and its observation
-- may occur in the upper machine.
pub record IsOnTheWay (above below : Machine) (state : above.State) (now : below.State) : Type 0 where
  pub goes_on : below.status now ≡ Running
  pub ahead : ComesTo (above.seen state) (below.seen now)
  pub following : MayShow above state (below.seen now)

-- A matching relates states with equal observations. The weight of an upper state bounds the number of consecutive steps of the upper
-- machine that no step of the lower machine matches.
pub record Matching (above below : Machine) : Type 1 where
  pub Matches : above.State → below.State → Type 0
  pub weight : above.State → ℕ
  pub own : above.Place → List below.Place
  pub alike : (s : above.State) (t : below.State) → Matches s t → below.seen t ≡ above.seen s
  pub endings : (s : above.State) (t : below.State) (ending : Ending) → Matches s t → above.status s ≡ Ended ending → below.status t ≡ Ended ending

-- Says that a step of the upper machine is taken and that its result is matched. If the lower machine took no step, then the weight (the
-- bound on consecutive upper steps without lower ones) has decreased.
pub record IsMatchedStep (above below : Machine) (m : Matching above below) (state : above.State) (places : List below.Place) (now : below.State) : Type 0 where
  pub next : above.State
  pub step : above.Step state next
  pub matches : m.Matches next now
  pub lighter : length places ≡ 0 → m.weight next < m.weight state

-- Says that one step of the upper machine is matched by steps of the lower machine, whatever nondeterministic choices the lower machine
-- makes.
pub record IsStepped (above below : Machine) (m : Matching above below) (state : above.State) (now : below.State) : Type 0 where
  pub places : List below.Place
  pub distinct : IsDistinct places
  pub inside : AllByRecursion (Contains (m.own (above.place state))) places
  pub comes : Comes below (IsOnTheWay above below state) (IsMatchedStep above below m state places) places now

-- Says that every step of the upper machine from matched states is matched by the lower machine, provided that this step cannot fail.
abbrev pub Steps : (above below : Machine) → Matching above below → Type 0
Steps above below m = (s : above.State) (t : below.State) → m.Matches s t → above.status s ≡ Running
    → ((next : above.State) → above.Step s next → above.status next ≡ Failed → ⊥)
    → IsStepped above below m s t
