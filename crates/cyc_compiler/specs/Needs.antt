-- This file defines the bounds of a program's needs for every input, reported before it runs: calls, pages and steps. Each bound
-- is defined by the computation that derives it from the program, and by what it means for the program's runs. The choice of
-- reported needs is this project's own choice.
use Rattle.std.specs.Prelude.{◌≡◌, ℕ, ◌≤◌, List}
use Rattle.cyc_types.specs.TypedTrees.{Program}
use Rattle.cyc_meaning.specs.State.{demand, depth}
use Rattle.cyc_meaning.specs.Run.{run}
use Rattle.cyc_bound.specs.declared.bound.CallBound.{CallBound}
use Rattle.cyc_bound.specs.declared.bound.CallBound.TheVariants as call_bounds
use Rattle.cyc_bound.specs.declared.pages.PageBound.{PageBound}
use Rattle.cyc_bound.specs.declared.pages.PageBound.TheVariants as page_bounds
use Rattle.cyc_bound.specs.declared.steps.StepBound.{StepBound}
use Rattle.cyc_bound.specs.declared.steps.StepBound.TheVariants as step_bounds
use Rattle.cyc_bound.specs.Bound.{IsAnswer}
use Rattle.cyc_bound.specs.Pages.{IsPageAnswer}
use Rattle.cyc_bound.specs.Costs.{IsStepAnswer}
use Rattle.cyc_bound.specs.Steps.{IsOver}
use Rattle.cyc_compiler.specs.declared.bounded.Bounds.{Bounds}

-- Says that no state of any run has more active calls than a bound on calls states.
abbrev pub NeverCallsMore : Program → CallBound → Type 0
NeverCallsMore p bound =
    (count : ℕ) → bound ≡ call_bounds.Calls count → (input : List ℕ) (n : ℕ) → depth (run p input n) ≤ count

-- Says that no state of any run needs more pages than a bound on pages states.
abbrev pub NeverAsksForMore : Program → PageBound → Type 0
NeverAsksForMore p bound =
    (count : ℕ) → bound ≡ page_bounds.Pages count → (input : List ℕ) (n : ℕ) → demand (run p input n) ≤ count

-- Says that each run has ended after as many steps as a bound on steps states.
abbrev pub NeverTakesMore : Program → StepBound → Type 0
NeverTakesMore p bound =
    (count : ℕ) → bound ≡ step_bounds.Steps count → (input : List ℕ) → IsOver (run p input count)

pub record AreBounds (program : Program) (bounds : Bounds) : Type 0 where
  pub calls : IsAnswer program program.main bounds.calls
  pub pages : IsPageAnswer program bounds.pages
  pub steps : IsStepAnswer program bounds.steps
  pub no_more_calls : NeverCallsMore program bounds.calls
  pub no_more_pages : NeverAsksForMore program bounds.pages
  pub no_more_steps : NeverTakesMore program bounds.steps
