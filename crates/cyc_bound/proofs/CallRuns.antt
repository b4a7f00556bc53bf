-- Lemmas about runs, and about runs under a limit on active calls.
use Rattle.std.proofs.Common.{◌≡◌, ℕ, zero, suc, ◌≤◌, Bool, true, false, List, [], ◌∷◌, refl, sym, ap, ◌∙◌, arith}
use Rattle.std.specs.Prelude.{◌&&◌, nat_le, if◌then◌else◌, slice_get}
use Rattle.std.proofs.lemmas.Bool.{le-leb}
use Rattle.cyc_words.specs.Ending.{Full}
use Rattle.cyc_types.specs.TypedTrees.{Program}
use Rattle.cyc_meaning.specs.State.{first_world, Main, State, Running, Ended, Dead, Wrong, output_of, input_of, demand, depth}
use Rattle.cyc_meaning.specs.Step.{step}
use Rattle.cyc_meaning.specs.Run.{start, steps, run, is_within, limited_step, limited_steps, limited_run}
use Rattle.cyc_meaning.proofs.RunLaws.{limited_cases}
use Rattle.cyc_bound.specs.Bound.{IsAtMost}
use Rattle.cyc_bound.proofs.CallLemmas.{row_of}
use Rattle.cyc_bound.proofs.CallSteps.{IsInSome, calls_function, step_in}

module _ (program : Program) where
  starts_in : (input : List ℕ) → IsInSome program (start program input)
  starts_in input = (program.main, calls_function program (slice_get program.functions program.main) program.main [] (Main ∷ []) (first_world program input) refl refl)

  steps_in : (count : ℕ) (s : State) → IsInSome program s → IsInSome program (steps program count s)
  steps_in zero s h = h
  steps_in (suc count) s h = steps_in count (step program s) (step_in program s h)

  pub run_in : (input : List ℕ) (count : ℕ) → IsInSome program (run program input count)
  run_in input count = steps_in count (start program input) (starts_in input)

  module _ (bound : ℕ) (most : IsAtMost program program.main bound) where
    depth_in : (s : State) → IsInSome program s → depth s ≤ bound
    depth_in (Running focus stack e w) (f, (now, h)) = let (count, row, less) = row_of program f stack h in omega (arith, less, most f count row)
    depth_in (Ended ending output input) h = omega arith
    depth_in (Dead output input) h = omega arith
    depth_in (Wrong output input) h = omega arith

    pub depth_within : (input : List ℕ) (count : ℕ) → depth (run program input count) ≤ bound
    depth_within input count = depth_in (run program input count) (run_in input count)

    and_true : (b : Bool) → (b && true) ≡ b
    and_true true = refl
    and_true false = refl

    within_in : (pages calls : ℕ) → bound ≤ calls → (s : State) → IsInSome program s → is_within pages calls s ≡ nat_le (demand s) pages
    within_in pages calls enough s h =
        ap (λ (b : Bool). nat_le (demand s) pages && b) (le-leb (depth s) calls (omega (arith, depth_in s h))) ∙ and_true (nat_le (demand s) pages)

    pub calls_within : (pages calls : ℕ) → bound ≤ calls → (input : List ℕ) (count : ℕ) → is_within pages calls (run program input count) ≡ nat_le (demand (run program input count)) pages
    calls_within pages calls enough input count = within_in pages calls enough (run program input count) (run_in input count)

    -- if two limits on active calls are both at least the bound, a run has the same steps under both limits
    limited_alike : (pages calls more : ℕ) → bound ≤ calls → bound ≤ more → (count : ℕ) (s : State) → IsInSome program s → limited_steps program pages calls count s ≡ limited_steps program pages more count s
    limited_alike pages calls more enough also zero s h = refl
    limited_alike pages calls more enough also (suc count) s h =
        let next = step_in program s h in
        let same : is_within pages calls (step program s) ≡ is_within pages more (step program s) = within_in pages calls enough (step program s) next ∙ sym (within_in pages more also (step program s) next) in
        ap (λ (b : Bool). limited_steps program pages calls count (if b then step program s else Ended Full (output_of s) (input_of s))) same
        ∙ limited_alike pages calls more enough also count (limited_step program pages more s)
        (limited_cases (IsInSome program) pages more s (step program s) (λ within. next) (λ full. (0, tt)))

    pub runs_alike : (pages calls more : ℕ) → bound ≤ calls → bound ≤ more → (input : List ℕ) (count : ℕ) → limited_run program pages calls input count ≡ limited_run program pages more input count
    runs_alike pages calls more enough also input count = limited_alike pages calls more enough also count (start program input) (starts_in input)
