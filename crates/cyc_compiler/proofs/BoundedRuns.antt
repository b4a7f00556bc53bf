-- This file proves what the bounds of a program mean for its runs, and for the runs of its image.
use Rattle.std.proofs.Common.{◌≡◌, ◌≢◌, ℕ, ◌<◌, ◌≤◌, true, List, Some, refl, sym, ap, ◌∙◌, arith}
use Rattle.std.specs.List.{AllByRecursion}
use Rattle.std.proofs.lemmas.Bool.{le-leb, and_from}
use Rattle.cyc_words.specs.Ending.{Ending, Returned, Uncaught, Full}
use Rattle.cyc_elf.specs.Image.{ImageContents}
use Rattle.cyc_store.specs.State.{IsNew, StoreState}
use Rattle.cyc_machine_model.specs.Bounds.{Bounds, AreAllowed}
use Rattle.cyc_machine_model.specs.Run.{World, Run}
use Rattle.cyc_machine_model.specs.Start.{start_world}
use Rattle.cyc_machine_model.specs.declared.event.End.{End}
use Rattle.cyc_types.specs.TypedTrees.{Program}
use Rattle.cyc_meaning.specs.State.{State, Running, Ended, Dead, Wrong, HasEnded, IsDead, IsWrong, status_of, demand, depth}
use Rattle.cyc_meaning.specs.Run.{start, run, is_within}
use Rattle.cyc_meaning.proofs.RunLaws.{limited_agrees, start_not_full, run_not_full}
use Rattle.cyc_soundness.specs.Sound.{IsSound}
use Rattle.cyc_bound.specs.declared.bound.CallBound.{CallBound}
use Rattle.cyc_bound.specs.declared.bound.CallBound.TheVariants as call_bounds
use Rattle.cyc_bound.specs.declared.pages.PageBound.{PageBound}
use Rattle.cyc_bound.specs.declared.pages.PageBound.TheVariants as page_bounds
use Rattle.cyc_bound.specs.declared.steps.StepBound.{StepBound}
use Rattle.cyc_bound.specs.declared.steps.StepBound.TheVariants as step_bounds
use Rattle.cyc_bound.specs.Bound.{IsAnswer}
use Rattle.cyc_bound.specs.Pages.{IsPageAnswer}
use Rattle.cyc_bound.specs.Costs.{IsStepAnswer}
use Rattle.cyc_bound.specs.Steps.{IsOver}
use Rattle.cyc_bound.proofs.CallRuns.{depth_within}
use Rattle.cyc_bound.proofs.PageRuns.{demand_within}
use Rattle.cyc_bound.proofs.CostRuns.{runs_end}
use Rattle.cyc_compiler.specs.declared.bounded.Bounds as needs
use Rattle.cyc_compiler.specs.FullPreservation.{text_words, limited, DoesTheSame}
use Rattle.cyc_compiler.specs.Needs.{NeverCallsMore, NeverAsksForMore, NeverTakesMore, AreBounds}
use Rattle.cyc_compiler.specs.BoundedRuns.{CoversCalls, CoversPages, Covers, Suffices, IsNotFull, IsOwnEnding, IsOwnEnd, HasOwnEnd}
use Rattle.cyc_compiler.proofs.Preservation.{are_alike, keeps_up}

-- ---- the program's runs

pub never_calls_more : (p : Program) (bound : CallBound) → IsAnswer p p.main bound → NeverCallsMore p bound
never_calls_more p (call_bounds.Calls most) (height, few) count is input n =
    let same : most ≡ count = cc in
    let within = depth_within p most height.1 input n in
    omega (arith, same, within)
never_calls_more p (call_bounds.Cycle functions) answer count is input n = absurd cc
never_calls_more p call_bounds.Deep answer count is input n = absurd cc

pub never_asks_for_more : (p : Program) (bound : PageBound) → IsPageAnswer p bound → NeverAsksForMore p bound
never_asks_for_more p (page_bounds.Pages most) (gives_back, cost, are, counted) count is input n =
    let same : most ≡ count = cc in
    let within = demand_within p cost input gives_back are n in
    omega (arith, same, counted, within)
never_asks_for_more p page_bounds.TooMany answer count is input n = absurd cc
never_asks_for_more p page_bounds.Cycle answer count is input n = absurd cc

pub never_takes_more : (p : Program) (bound : StepBound) → IsStepAnswer p bound → NeverTakesMore p bound
never_takes_more p (step_bounds.Steps most) (costs, less) count is input =
    let same : most ≡ count = cc in
    runs_end p most input count costs less (omega (arith, same))
never_takes_more p step_bounds.TooMany answer count is input = absurd cc
never_takes_more p step_bounds.Cycle answer count is input = absurd cc

-- ---- ends of the program's own

-- A state in which a run has ended has an ending of the program's own, if it is neither full nor dead nor wrong.
own_ending : (ending : Ending) → HasEnded ending ≢ HasEnded Full → IsOwnEnding ending
own_ending (Returned value) other = tt
own_ending (Uncaught tag value) other = tt
own_ending Full other = absurd (other refl)

own_end : (s : State) → IsOver s → status_of s ≢ HasEnded Full → status_of s ≢ IsDead → status_of s ≢ IsWrong → (ending : Ending) × (status_of s ≡ HasEnded ending) × IsOwnEnding ending
own_end (Running focus stack e w) over other alive right = absurd over
own_end (Ended ending output input) over other alive right = (ending, refl, own_ending ending other)
own_end (Dead output input) over other alive right = absurd (alive refl)
own_end (Wrong output input) over other alive right = absurd (right refl)

-- ---- limits that are at least the bounds

calls_fit : (p : Program) (bound : CallBound) (limit : ℕ) → NeverCallsMore p bound → CoversCalls bound limit → (input : List ℕ) (n : ℕ) → depth (run p input n) ≤ limit
calls_fit p (call_bounds.Calls most) limit never covers input n = let within = never most refl input n in omega (arith, within, covers)
calls_fit p (call_bounds.Cycle functions) limit never covers input n = absurd covers
calls_fit p call_bounds.Deep limit never covers input n = absurd covers

pages_fit : (p : Program) (bound : PageBound) (limit : ℕ) → NeverAsksForMore p bound → CoversPages bound limit → (input : List ℕ) (n : ℕ) → demand (run p input n) ≤ limit
pages_fit p (page_bounds.Pages most) limit never covers input n = let within = never most refl input n in omega (arith, within, covers)
pages_fit p page_bounds.TooMany limit never covers input n = absurd covers
pages_fit p page_bounds.Cycle limit never covers input n = absurd covers

module _ (p : Program) (bounds : needs.Bounds) (are : AreBounds p bounds) (limits : Bounds) (covers : Covers bounds limits) (input : List ℕ) where
  fits : (n : ℕ) → is_within limits.pages limits.calls (run p input n) ≡ true
  fits n = and_from _ _
      (le-leb (demand (run p input n)) limits.pages (pages_fit p bounds.pages limits.pages are.no_more_pages covers.1 input n))
      (le-leb (depth (run p input n)) limits.calls (calls_fit p bounds.calls limits.calls are.no_more_calls covers.0 input n))

  -- The limited run is the run without limits.
  pub is_unlimited : (n : ℕ) → limited p limits input n ≡ run p input n
  is_unlimited n = limited_agrees p limits.pages limits.calls n (start p input) (λ j few. fits j)

  pub never_full : (n : ℕ) → status_of (limited p limits input n) ≢ HasEnded Full
  never_full n full = run_not_full p n (start p input) (start_not_full p input) (sym (ap status_of (is_unlimited n)) ∙ full)

  -- After as many steps as the bound states, the limited run of a sound program has ended by itself.
  pub program_ends : IsSound p → (steps : ℕ) → bounds.steps ≡ step_bounds.Steps steps → (ending : Ending) × (status_of (limited p limits input steps) ≡ HasEnded ending) × IsOwnEnding ending
  program_ends sound steps is =
      let (alive, right) = sound input steps in
      let (ending, has, own) = own_end (run p input steps) (are.no_more_steps steps is input) (run_not_full p steps (start p input) (start_not_full p input)) alive right in
      (ending, ap status_of (is_unlimited steps) ∙ has, own)

-- ---- the image's runs

module _ (p : Program) (image : ImageContents) (bounds : needs.Bounds) (does : DoesTheSame p image) (are : AreBounds p bounds)
    (limits : Bounds) (store : StoreState) (input : List ℕ) (allowed : AreAllowed limits.pages limits.calls) (new : IsNew limits.pages store)
    (bytes : AllByRecursion (λ b. b < 256) input) (covers : Covers bounds limits) where
  pub is_not_full : (count : ℕ) (w : World) → Run count (start_world image limits store input) w → IsNotFull w
  is_not_full count w goes end over full =
      let (n, (seen, ends)) = (are_alike p image does limits store input allowed new bytes).following count w goes in
      let (ending, shown, has) = ends end over in
      let same : Some ending ≡ Some Full = sym shown ∙ full in
      never_full p bounds are limits covers input n (has ∙ ap HasEnded (let e : ending ≡ Full = cc in e))

  has_own_end : IsSound p → (bound : StepBound) → bounds.steps ≡ bound → (count : ℕ) (w : World) → Suffices bound (text_words image) count → Run count (start_world image limits store input) w → HasOwnEnd w
  has_own_end sound (step_bounds.Steps steps) is count w enough goes =
      let (seen, ends) = keeps_up p image limits store input (are_alike p image does limits store input allowed new bytes) steps count w enough goes in
      let (ending, has, own) = program_ends p bounds are limits covers input sound steps is in
      let ((end, over, shown), same) = ends ending has in
      (end, over, (ending, shown, own))
  has_own_end sound step_bounds.TooMany is count w enough goes = absurd enough
  has_own_end sound step_bounds.Cycle is count w enough goes = absurd enough

  pub ends_itself : IsSound p → (count : ℕ) (w : World) → Suffices bounds.steps (text_words image) count → Run count (start_world image limits store input) w → HasOwnEnd w
  ends_itself sound = has_own_end sound bounds.steps refl
