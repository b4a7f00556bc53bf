-- The contract of inlining: the inlined program behaves as the source program.
use Rattle.std.specs.Prelude.{◌≡◌, ℕ, ◌<◌, ◌≤◌, ◌⊎◌, List, [], length, sum_by}
use Rattle.std.specs.List.{AllByRecursion}
use Rattle.cyc_words.specs.Simulation.{NeverFails}
use Rattle.cyc_words.specs.inside.Following.{Follows}
use Rattle.cyc_store.specs.State.{StoreState, IsNew}
use Rattle.cyc_plain.specs.declared.limits.TheConstants.{MOST_FRAME_WORDS}
use Rattle.cyc_plain.specs.inside.Program.{Routine, Program, CodePlace, routine_at, places_of}
use Rattle.cyc_plain.specs.inside.Step.{machine, start}
use Rattle.cyc_plain.specs.inside.WellFormed.{IsPlain}

-- Says that a function has the same name, parameters and results as the source function. The frame sizes of the two functions
-- are equal, or both exceed the maximum.
pub record IsLike (r s : Routine) : Type 0 where
  pub name : s.name ≡ r.name
  pub parameters : s.parameters ≡ r.parameters
  pub results : s.results ≡ r.results
  pub slots : r.slots ≤ s.slots
  pub frame : (s.frame_count ≡ r.frame_count) ⊎ ((r.frame_count ≤ MOST_FRAME_WORDS) × (s.frame_count ≤ MOST_FRAME_WORDS))

-- Says that a program has the functions, globals and `main` of the source program, with some calls inlined. If no run of the source
-- program fails, each run of the inlined program is a run of the source program, within the same limits on heap pages and calls. The
-- code positions made from distinct positions of the source program together cost no more than the whole inlined program.
pub record IsInlined (program inlined : Program) : Type 0 where
  pub plain : IsPlain inlined
  pub as_many : length inlined.functions ≡ length program.functions
  pub each : (k : ℕ) → k < length program.functions → IsLike (routine_at program k) (routine_at inlined k)
  pub globals : inlined.globals ≡ program.globals
  pub main : inlined.main ≡ program.main
  pub own : CodePlace → List CodePlace
  pub cheap : (price : CodePlace → ℕ) → sum_by (λ (p : CodePlace). sum_by price (own p)) (places_of program) ≤ sum_by price (places_of inlined)
  pub follows : (pages calls base : ℕ) (store : StoreState) (input : List ℕ) → IsNew pages store → 1 ≤ pages → 1 ≤ calls
      → AllByRecursion (λ b. b < 256) input
      → NeverFails (machine program pages calls) (start program base store input)
      → Follows (machine program pages calls) (machine inlined pages calls) [] own
      (start program base store input) (start inlined base store input)
