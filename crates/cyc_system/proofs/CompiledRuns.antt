-- A run of a compiled file, between a reader and a writer, is compared with its source program's run within limits of pages and calls.
use Rattle.std.proofs.Common.{◌≡◌, ℕ, refl, suc, zero, ◌+◌, ◌-◌, ◌*◌, ◌≤◌, ◌<◌, List, [], Bool, false, Option, Some, None, Result, Ok, Err, sym, ap, subst, ◌∙◌, arith, inl, inr}
use Rattle.std.specs.Prelude.{MatchBool}
use Rattle.std.specs.List.{AllByRecursion}
use Rattle.cyc_words.proofs.DeviceLemmas.{Appends-nil, Keeps-some}
use Rattle.cyc_elf.specs.declared.fault.ElfFault.{ElfFault}
use Rattle.cyc_elf.specs.Image.{ImageContents}
use Rattle.cyc_elf.specs.Reading.{reading}
use Rattle.cyc_machine_model.specs.declared.event.End.{End}
use Rattle.cyc_machine.specs.declared.fault.LoadFault.TheVariants as load
use Rattle.cyc_machine_model.specs.Bounds.{Bounds, AreAllowed}
use Rattle.cyc_machine_model.specs.Run.{World, Run, end_of}
use Rattle.cyc_machine_model.specs.Start.{has_outside, start_world}
use Rattle.cyc_store.specs.State.{StoreState}
use Rattle.cyc_machine_model.proofs.RunLaws.{Goes-rests, run_after_run, over-end_of}
use Rattle.cyc_types.specs.TypedTrees.{Program}
use Rattle.cyc_machine_model.specs.WorldMachine.{seen_of as seen_in}
use Rattle.cyc_emulator.specs.declared.report.Report.{Report}
use Rattle.cyc_emulator.specs.declared.report.RunFault.{RunFault}
use Rattle.cyc_emulator.specs.declared.report.RunFault.TheVariants.{Elf, Load, Read, Write, Memory}
use Rattle.cyc_emulator.specs.declared.report.Stop.{Stop}
use Rattle.cyc_emulator.specs.declared.report.Stop.TheVariants as stops
use Rattle.cyc_emulator.specs.Engine.{Devices, Rests, Tells, Leaves, Executes, Stops, Runs, Refuses, Starts, Answers, AnswersAnew}
use Rattle.cyc_compiler.specs.FullPreservation.{text_words, limited, AreAlike, IsImageOf}
use Rattle.cyc_system.specs.CompiledRuns.{IsEndOf, IsAsFar, AnswersAs, RunsAs}
use Rattle.cyc_emulator.proofs.Engines.{counted_run}
use Rattle.cyc_compiler.proofs.Preservation.{are_alike, keeps_up}

-- ---- the machine with any image

-- A run that has ended can be extended by any number of instructions, which change nothing.
ended_rests : (count : ℕ) (w : World) (end : End) → end_of w ≡ Some end → Run count w w
ended_rests zero w end ended = refl
ended_rests (suc count) w end ended = (w, Goes-rests w end (over-end_of w end ended), ended_rests count w end ended)

-- A run that has stopped can be extended to a run of as many instructions as the budget allows.
whole_run : (stop : Stop) (budget count : ℕ) (u w : World) → Run count u w → count ≤ budget → Stops stop budget count w → Run budget u w
whole_run (stops.End end) budget count u w run few ended =
    subst (λ (k : ℕ). Run k u w) (let all : count + (budget - count) ≡ budget = omega (arith, few) in all)
    (run_after_run count (budget - count) u w w run (ended_rests (budget - count) w end ended))
whole_run stops.Spent budget count u w run few (none, all) = subst (λ (k : ℕ). Run k u w) all run

-- If the run of the machine has ended in a state, the report says that the run stopped with the end of this state.
stopped_at : (stop : Stop) (budget count : ℕ) (w : World) (end : End) → Stops stop budget count w → end_of w ≡ Some end → stop ≡ stops.End end
stopped_at (stops.End e) budget count w end ended over = let same : Some e ≡ Some end = sym ended ∙ over in cc
stopped_at stops.Spent budget count w end (none, all) over = absurd (let same : None ≡ Some end = sym none ∙ over in cc)

-- If it is stated which input bytes a reader contains, then any bytes that the reader may supply according to `Tells` are exactly these
-- bytes.
input_reported : (reported : Option (List ℕ)) (input bytes : List ℕ) → reported ≡ Some input → Tells reported bytes → bytes ≡ input
input_reported reported input bytes is tells = sym (let same : input ≡ bytes = subst (λ (o : Option (List ℕ)). Tells o bytes) is tells in same)

-- If it is stated which input bytes a reader contains before a run, then the bytes that it contains after the run are
-- known: exactly those not read.
reported_rest : (reported new : Option (List ℕ)) (input rest : List ℕ) → reported ≡ Some input → Leaves reported new rest → new ≡ Some rest
reported_rest None new input rest is leaves = absurd (let e : None ≡ Some input = is in cc)
reported_rest (Some reported) None input rest is leaves = absurd leaves
reported_rest (Some reported) (Some left) input rest is leaves = ap (λ (l : List ℕ). Some l) leaves

-- ---- comparison with the program

module _ (p : Program) (image : ImageContents) (limits : Bounds) (store : StoreState) (input : List ℕ) (alike : AreAlike p image limits store input) (grows : Bool) (budget : ℕ) (old new : Devices) where
  started : World
  started = start_world image limits store input

  -- If a run of the machine fails for lack of memory and has read and written no byte, its result satisfies `RunsAs`.
  kept : old.remaining ≡ Some input → (result : Result Report RunFault) → result ≡ Err Memory → Rests old new → RunsAs p limits input (text_words image) budget old new result
  kept tells result is (unread, silent) =
      let (steps, (seen, ends)) = alike.following 0 (start_world image limits store input) refl in
      subst (RunsAs p limits input (text_words image) budget old new) (sym is) (record {
        output = [];
        rest = input;
        written = Appends-nil old.written new.written silent;
        left = Keeps-some old.remaining new.remaining input tells unread;
        steps = steps;
        seen = seen;
        answers = tt;
      })

  module _ (tells : old.remaining ≡ Some input) (count : ℕ) (w : World) (x : Executes (start_world image limits store) old new count w) where
    run : Run count started w
    unfolding started
    run = subst (λ (bytes : List ℕ). Run count (start_world image limits store bytes) w) (input_reported old.remaining input x.input tells x.reported) (counted_run count (start_world image limits store x.input) w x.counted)

    -- The bytes that the machine's run has written so far are output of the source program, whatever the result of the run.
    so_far : (result : Result Report RunFault) → AnswersAs p limits input (text_words image) budget (seen_in w) result → RunsAs p limits input (text_words image) budget old new result
    unfolding started
    so_far result answers =
        let (steps, (seen, ends)) = alike.following count w run in
        record {
          output = w.output;
          rest = w.input;
          written = x.written;
          left = reported_rest old.remaining new.remaining input w.input tells x.unread;
          steps = steps;
          seen = seen;
          answers = answers;
        }

    is_end : (stop : Stop) → Stops stop budget count w → IsEndOf p limits input (seen_in w) stop
    unfolding started
    is_end (stops.End end) ended =
        let (steps, (seen, ends)) = alike.following count w run in
        let (ending, shown, has) = ends end ended in
        (steps, ending, shown, has, seen)
    is_end stops.Spent spent = tt

    is_as_far : (stop : Stop) → count ≤ budget → Stops stop budget count w → (n : ℕ) → (n + 1) * text_words image ≤ budget → IsAsFar (limited p limits input n) (seen_in w) stop
    unfolding started
    is_as_far stop few stopped n enough =
        let (seen, ends) = keeps_up p image limits store input alike n budget w enough (whole_run stop budget count started w run few stopped) in (
          seen,
          λ ending has.
              let ((end, over, shown), same) = ends ending has in
              (end, stopped_at stop budget count w end stopped over, shown),
        )

  runs_as : old.remaining ≡ Some input → (result : Result Report RunFault) → Runs grows (start_world image limits store) budget old new result → RunsAs p limits input (text_words image) budget old new result
  runs_as tells (Ok report) r =
      so_far tells report.count r.world r.executes (Ok report)
      (is_end tells report.count r.world r.executes report.stop r.stops, is_as_far tells report.count r.world r.executes report.stop r.few r.stops)
  runs_as tells (Err Read) (count, w, x, below, not_over, wants) = so_far tells count w x (Err Read) tt
  runs_as tells (Err Write) (count, w, x, below, not_over, prints) = so_far tells count w x (Err Write) tt
  runs_as tells (Err (Elf f)) none = absurd none
  runs_as tells (Err (Load f)) none = absurd none
  runs_as tells (Err Memory) (count, w, x, below, not_over, wants) = so_far tells count w x (Err Memory) tt

  starts_as : old.remaining ≡ Some input → (result : Result Report RunFault) → Starts grows (start_world image limits store) budget old new result → RunsAs p limits input (text_words image) budget old new result
  starts_as tells result (inl (memory, rests)) = kept tells result memory rests
  starts_as tells result (inr runs) = runs_as tells result runs

  pub answers_as : old.remaining ≡ Some input → has_outside image ≡ false → (result : Result Report RunFault) → Answers grows store (Ok image) limits budget old new result
      → RunsAs p limits input (text_words image) budget old new result
  answers_as tells loads result answers =
      starts_as tells result
      (subst (λ (b : Bool). MatchBool b (Refuses (Load load.Outside) old new result) (Starts grows (start_world image limits store) budget old new result)) loads answers)

pub compiled_runs : (p : Program) (file : List ℕ) (is : IsImageOf p file) (limits : Bounds) (input : List ℕ) → AreAllowed limits.pages limits.calls → AllByRecursion (λ b. b < 256) input
    → (grows : Bool) (budget : ℕ) (old new : Devices) (result : Result Report RunFault) → old.remaining ≡ Some input
    → AnswersAnew grows (reading file) limits budget old new result → RunsAs p limits input (text_words is.image) budget old new result
compiled_runs p file is limits input allowed bytes grows budget old new result tells (store, new_store, answers) =
    answers_as p is.image limits store input (are_alike p is.image is.does limits store input allowed new_store bytes) grows budget old new tells is.loads result
    (subst (λ (read : Result ImageContents ElfFault). Answers grows store read limits budget old new result) is.read answers)
