-- This file defines what the bounds of a program mean for the runs of its image. A run whose limits are at least the bounds is never
-- full, and if the steps have a bound, the run ends as the program ends. The form of these statements is this project's own choice.
use Rattle.std.specs.Prelude.{◌≡◌, ◌≢◌, ℕ, ◌+◌, ◌*◌, ◌≤◌, Some}
use Rattle.cyc_words.specs.Ending.{Ending, Returned, Uncaught, Full}
use Rattle.cyc_machine_model.specs.Bounds.{Bounds}
use Rattle.cyc_machine_model.specs.Run.{World, end_of, ending_of}
use Rattle.cyc_machine_model.specs.declared.event.End.{End}
use Rattle.cyc_bound.specs.declared.bound.CallBound.{CallBound}
use Rattle.cyc_bound.specs.declared.bound.CallBound.TheVariants as call_bounds
use Rattle.cyc_bound.specs.declared.pages.PageBound.{PageBound}
use Rattle.cyc_bound.specs.declared.pages.PageBound.TheVariants as page_bounds
use Rattle.cyc_bound.specs.declared.steps.StepBound.{StepBound}
use Rattle.cyc_bound.specs.declared.steps.StepBound.TheVariants as step_bounds
use Rattle.cyc_compiler.specs.declared.bounded.Bounds as needs

-- Says that there is a bound on calls, and that a limit on calls is at least this bound.
abbrev pub CoversCalls : CallBound → (limit : ℕ) → Type 0
CoversCalls (call_bounds.Calls count) limit = count ≤ limit
CoversCalls (call_bounds.Cycle functions) limit = ⊥
CoversCalls call_bounds.Deep limit = ⊥

-- Says that there is a bound on pages, and that a limit on pages is at least this bound.
abbrev pub CoversPages : PageBound → (limit : ℕ) → Type 0
CoversPages (page_bounds.Pages count) limit = count ≤ limit
CoversPages page_bounds.TooMany limit = ⊥
CoversPages page_bounds.Cycle limit = ⊥

-- Says that the limits of a run are at least the bounds on calls and on pages.
abbrev pub Covers : needs.Bounds → Bounds → Type 0
Covers bounds limits = CoversCalls bounds.calls limits.calls × CoversPages bounds.pages limits.pages

-- Says that there is a bound on steps, and that a budget of instructions suffices for as many steps, if each step takes at most `each`
-- instructions and the start takes as many.
abbrev pub Suffices : StepBound → (each budget : ℕ) → Type 0
Suffices (step_bounds.Steps count) each budget = (count + 1) * each ≤ budget
Suffices step_bounds.TooMany each budget = ⊥
Suffices step_bounds.Cycle each budget = ⊥

-- Says that a run has not ended for lack of pages or calls.
abbrev pub IsNotFull : World → Type 0
IsNotFull w = (end : End) → end_of w ≡ Some end → ending_of end ≢ Some Full

-- Says that an ending is one that the program itself causes: `main` returned, or an exception was not caught.
abbrev pub IsOwnEnding : Ending → Type 0
IsOwnEnding (Returned value) = Unit {0}
IsOwnEnding (Uncaught tag value) = Unit {0}
IsOwnEnding Full = ⊥

-- Says that an end of the machine is one that the program itself causes.
abbrev pub IsOwnEnd : End → Type 0
IsOwnEnd end = (ending : Ending) × (ending_of end ≡ Some ending) × IsOwnEnding ending

-- Says that a run has ended with an end that the program itself causes.
abbrev pub HasOwnEnd : World → Type 0
HasOwnEnd w = (end : End) × (end_of w ≡ Some end) × IsOwnEnd end
