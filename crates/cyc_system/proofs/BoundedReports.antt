-- A report of a run of a compiled file is compared with the bounds of its program.
use Rattle.std.proofs.Common.{◌≡◌, ℕ, ◌<◌, List, Bool, Some, Ok, refl, sym, ap, subst, ◌∙◌}
use Rattle.std.specs.List.{AllByRecursion}
use Rattle.cyc_words.specs.Ending.{Full}
use Rattle.cyc_elf.specs.Reading.{reading}
use Rattle.cyc_machine_model.specs.Bounds.{Bounds, AreAllowed}
use Rattle.cyc_machine_model.specs.declared.event.End.{End}
use Rattle.cyc_types.specs.TypedTrees.{Program}
use Rattle.cyc_meaning.specs.State.{HasEnded}
use Rattle.cyc_soundness.specs.Sound.{IsSound}
use Rattle.cyc_bound.specs.declared.steps.StepBound.{StepBound}
use Rattle.cyc_bound.specs.declared.steps.StepBound.TheVariants as step_bounds
use Rattle.cyc_compiler.specs.declared.bounded.Bounds as needs
use Rattle.cyc_compiler.specs.FullPreservation.{text_words, IsImageOf}
use Rattle.cyc_compiler.specs.Needs.{AreBounds}
use Rattle.cyc_compiler.specs.BoundedRuns.{Covers, Suffices}
use Rattle.cyc_compiler.proofs.BoundedRuns.{never_full, program_ends}
use Rattle.cyc_emulator.specs.Engine.{Devices, AnswersAnew}
use Rattle.cyc_emulator.specs.declared.report.Report.{Report}
use Rattle.cyc_system.specs.CompiledRuns.{IsEndOf}
use Rattle.cyc_system.specs.BoundedReports.{IsNotReportedFull, ReportsOwnEnd}
use Rattle.cyc_system.proofs.CompiledRuns.{compiled_runs}

module _ (p : Program) (file : List ℕ) (bounds : needs.Bounds) (is : IsImageOf p file) (are : AreBounds p bounds)
    (limits : Bounds) (input : List ℕ) (allowed : AreAllowed limits.pages limits.calls) (bytes : AllByRecursion (λ b. b < 256) input) (covers : Covers bounds limits)
    (grows : Bool) (budget : ℕ) (old new : Devices) (report : Report) (tells : old.remaining ≡ Some input) where
  pub is_not_full : AnswersAnew grows (reading file) limits budget old new (Ok report) → IsNotReportedFull report.stop
  is_not_full answers end stops full =
      let (of_end, far) = (compiled_runs p file is limits input allowed bytes grows budget old new (Ok report) tells answers).answers in
      let (steps, ending, shown, has, seen) = subst (IsEndOf p limits input _) stops of_end in
      let same : Some ending ≡ Some Full = sym shown ∙ full in
      never_full p bounds are limits covers input steps (has ∙ ap HasEnded (let e : ending ≡ Full = cc in e))

  has_own_end : IsSound p → (bound : StepBound) → bounds.steps ≡ bound → Suffices bound (text_words is.image) budget → AnswersAnew grows (reading file) limits budget old new (Ok report) → ReportsOwnEnd report.stop
  has_own_end sound (step_bounds.Steps steps) known enough answers =
      let (of_end, far) = (compiled_runs p file is limits input allowed bytes grows budget old new (Ok report) tells answers).answers in
      let (seen, ends) = far steps enough in
      let (ending, has, own) = program_ends p bounds are limits covers input sound steps known in
      let (end, stops, shown) = ends ending has in
      (end, stops, (ending, shown, own))
  has_own_end sound step_bounds.TooMany known enough answers = absurd enough
  has_own_end sound step_bounds.Cycle known enough answers = absurd enough

  pub ends_itself : IsSound p → Suffices bounds.steps (text_words is.image) budget → AnswersAnew grows (reading file) limits budget old new (Ok report) → ReportsOwnEnd report.stop
  ends_itself sound = has_own_end sound bounds.steps refl
