-- Runs of a source program, with and without limits. The way in which an exceeded limit ends a run is this project's own choice.
use Rattle.std.specs.Prelude.{ℕ, zero, suc, Bool, ◌&&◌, nat_le, if◌then◌else◌, List, [], ◌∷◌, slice_get}
use Rattle.cyc_words.specs.Ending.{Full}
use Rattle.cyc_types.specs.TypedTrees.{Program}
use Rattle.cyc_meaning.specs.State.{first_world, Main, State, Ended, output_of, input_of, demand, depth}
use Rattle.cyc_meaning.specs.Step.{called, step}

-- The start state: `main` is called, nothing is printed yet, and the whole input is unread.
abbrev pub start : Program → (input : List ℕ) → State
start program input = called (slice_get program.functions program.main) [] (Main ∷ []) (first_world program input)

-- Returns the state after a given number of steps.
abbrev pub steps : Program → ℕ → State → State
steps program zero s = s
steps program (suc n) s = steps program n (step program s)

abbrev pub run : Program → (input : List ℕ) → ℕ → State
run program input n = steps program n (start program input)

-- Says that a state is within two limits: a maximal number of pages of the heap store, and a maximal number of active calls. A step
-- that would exceed a limit ends the run instead, with output and input as before the step.
abbrev pub is_within : (pages calls : ℕ) → State → Bool
is_within pages calls s = nat_le (demand s) pages && nat_le (depth s) calls

abbrev pub limited : (pages calls : ℕ) → (old new : State) → State
limited pages calls old new = if is_within pages calls new then new else Ended Full (output_of old) (input_of old)

abbrev pub limited_step : Program → (pages calls : ℕ) → State → State
limited_step program pages calls s = limited pages calls s (step program s)

abbrev pub limited_steps : Program → (pages calls : ℕ) → ℕ → State → State
limited_steps program pages calls zero s = s
limited_steps program pages calls (suc n) s = limited_steps program pages calls n (limited_step program pages calls s)

abbrev pub limited_run : Program → (pages calls : ℕ) → (input : List ℕ) → ℕ → State
limited_run program pages calls input n = limited_steps program pages calls n (start program input)
