-- The contract of value propagation: the new program behaves as the original one.
use Rattle.std.specs.Prelude.{◌≡◌, ℕ, ◌<◌, ◌≤◌, List, [], ◌∷◌, length}
use Rattle.cyc_words.specs.Simulation.{NeverFails}
use Rattle.cyc_words.specs.inside.Following.{Follows}
use Rattle.cyc_store.specs.State.{StoreState}
use Rattle.cyc_plain.specs.inside.Program.{Routine, Program, routine_at, size}
use Rattle.cyc_plain.specs.inside.Step.{machine, start}
use Rattle.cyc_plain.specs.inside.WellFormed.{IsPlain}

-- `IsLike` says that a function has the slots, frame and number of instructions of the original one, and that its code is not larger.
pub record IsLike (r s : Routine) : Type 0 where
  pub name : s.name ≡ r.name
  pub parameters : s.parameters ≡ r.parameters
  pub results : s.results ≡ r.results
  pub slots : s.slots ≡ r.slots
  pub frame_count : s.frame_count ≡ r.frame_count
  pub as_many : length s.code ≡ length r.code
  pub small : size s ≤ size r

-- `IsSimplified` says that a program has the functions, globals and `main` of the original one, in simplified form. If no run of the
-- original program fails, each run of the new program is a run of the original one, step by step.
pub record IsSimplified (program simplified : Program) : Type 0 where
  pub plain : IsPlain simplified
  pub as_many : length simplified.functions ≡ length program.functions
  pub each : (k : ℕ) → k < length program.functions → IsLike (routine_at program k) (routine_at simplified k)
  pub globals : simplified.globals ≡ program.globals
  pub main : simplified.main ≡ program.main
  pub follows : (pages calls base : ℕ) (store : StoreState) (input : List ℕ)
      → NeverFails (machine program pages calls) (start program base store input)
      → Follows (machine program pages calls) (machine simplified pages calls) [] (λ place. place ∷ [])
      (start program base store input) (start simplified base store input)
