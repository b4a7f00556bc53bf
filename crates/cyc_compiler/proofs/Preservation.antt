-- This file proves full preservation from two runs: the program's limited run, and a run of the machine.
use Rattle.std.proofs.Common.{◌≡◌, ◌≢◌, ℕ, zero, suc, ◌+◌, ◌-◌, ◌*◌, ◌<◌, ◌≤◌, List, Option, Some, None, refl, sym, ap, subst, ◌∙◌, arith}
use Rattle.std.specs.List.{AllByRecursion}
use Rattle.cyc_words.specs.Ending.{Ending, Full}
use Rattle.cyc_words.specs.Seen.{IsPrefix, Seen}
use Rattle.cyc_words.proofs.PrefixLemmas.{IsPrefix-refl}
use Rattle.cyc_words.proofs.SeenLemmas.{ComesTo-trans}
use Rattle.cyc_elf.specs.Image.{ImageContents}
use Rattle.cyc_machine_model.specs.Bounds.{Bounds, AreAllowed}
use Rattle.cyc_machine_model.specs.Run.{World, Run, end_in, end_of, ending_of}
use Rattle.cyc_machine_model.proofs.RunLaws.{Run-over, Run-output, Run-input, run_in_parts, over-end_of}
use Rattle.cyc_store.specs.State.{IsNew, StoreState}
use Rattle.cyc_machine_model.specs.Start.{start_world}
use Rattle.cyc_machine_model.specs.declared.event.Cause.{Cause}
use Rattle.cyc_machine_model.specs.declared.event.End.{End}
use Rattle.cyc_machine_model.specs.declared.event.End.TheVariants.{Trap}
use Rattle.cyc_machine_model.specs.declared.phase.Phase.{Phase}
use Rattle.cyc_machine_model.specs.declared.phase.Phase.TheVariants as phases
use Rattle.cyc_types.specs.TypedTrees.{Program}
use Rattle.cyc_meaning.specs.State as meaning
use Rattle.cyc_meaning.specs.Run.{start, limited_steps}
use Rattle.cyc_meaning.proofs.RunLaws.{limited_comes_to}
use Rattle.cyc_soundness.specs.Sound.{IsSound}
use Rattle.cyc_words.specs.Simulation as simulation
use Rattle.cyc_words.specs.Simulation.{NeverFails, Preserves}
use Rattle.cyc_meaning.specs.SourceMachine.{source_machine, seen_of, status_in as source_status}
use Rattle.cyc_machine_model.specs.WorldMachine.{world_machine, seen_of as seen_in, status_at, status_in as world_status}
use Rattle.cyc_compiler.specs.FullPreservation.{text_words, limited, DoesTheSame, IsAhead, IsAfter, AreAlike, PrintsEnough, PrintsNoMore, PrintAlike}

-- ---- runs of the program and of the machine

source_run : (p : Program) (pages calls n : ℕ) (s t : meaning.State) → simulation.Run (source_machine p pages calls) n s t → t ≡ limited_steps p pages calls n s
source_run p pages calls zero s t run = run
source_run p pages calls (suc n) s t (mid, step, rest) =
    source_run p pages calls n mid t rest ∙ ap (limited_steps p pages calls n) step

world_run : (n : ℕ) (v w : World) → Run n v w → simulation.Run world_machine n v w
world_run zero v w run = run
world_run (suc n) v w (mid, goes, rest) = (mid, goes, world_run n mid w rest)

-- ---- statuses

not_failed : (status : meaning.Status) → status ≢ meaning.IsDead → status ≢ meaning.IsWrong → source_status status ≡ simulation.Failed → ⊥
not_failed meaning.GoesOn alive right failed = cc
not_failed (meaning.HasEnded ending) alive right failed = cc
not_failed meaning.IsDead alive right failed = alive refl
not_failed meaning.IsWrong alive right failed = right refl

has_ended : (status : meaning.Status) (ending : Ending) → source_status status ≡ simulation.Ended ending → status ≡ meaning.HasEnded ending
has_ended meaning.GoesOn ending ended = cc
has_ended (meaning.HasEnded e) ending ended = cc
has_ended meaning.IsDead ending ended = cc
has_ended meaning.IsWrong ending ended = cc

closed : (found : Option Ending) (ending : Ending) → status_at found ≡ simulation.Ended ending → found ≡ Some ending
closed (Some e) ending ended = cc
closed None ending ended = cc

end_shown : (phase : Phase) (ending : Ending) → world_status phase ≡ simulation.Ended ending → (end : End) × (end_in phase ≡ Some end) × (ending_of end ≡ Some ending)
end_shown phases.Running ending ended = absurd (let e : simulation.Running ≡ simulation.Ended ending = ended in cc)
end_shown phases.Waiting ending ended = absurd (let e : simulation.Running ≡ simulation.Ended ending = ended in cc)
end_shown (phases.Over end) ending ended = (end, refl, closed (ending_of end) ending ended)

open_or_ended : (found : Option Ending) → (status_at found ≡ simulation.Failed → ⊥) → (ending : Ending) × (found ≡ Some ending) × (status_at found ≡ simulation.Ended ending)
open_or_ended (Some ending) fine = (ending, refl, refl)
open_or_ended None fine = absurd (fine refl)

ending_shown : (phase : Phase) (end : End) → end_in phase ≡ Some end → (world_status phase ≡ simulation.Failed → ⊥) → (ending : Ending) × (ending_of end ≡ Some ending) × (world_status phase ≡ simulation.Ended ending)
ending_shown phases.Running end over fine = absurd (let e : None ≡ Some end = over in cc)
ending_shown phases.Waiting end over fine = absurd (let e : None ≡ Some end = over in cc)
ending_shown (phases.Over last) end over fine =
    let same : last ≡ end = cc in
    subst (λ e. (ending : Ending) × (ending_of e ≡ Some ending) × (status_at (ending_of last) ≡ simulation.Ended ending)) same (open_or_ended (ending_of last) fine)

trap_fails : (phase : Phase) (cause : Cause) → end_in phase ≡ Some (Trap cause) → world_status phase ≡ simulation.Failed
trap_fails phases.Running cause over = absurd (let e : None ≡ Some (Trap cause) = over in cc)
trap_fails phases.Waiting cause over = absurd (let e : None ≡ Some (Trap cause) = over in cc)
trap_fails (phases.Over end) cause over = ap (λ (e : End). status_at (ending_of e)) (let same : end ≡ Trap cause = cc in same)

-- ---- a sound program never fails, for any limits

dead_not_full : meaning.IsDead ≢ meaning.HasEnded Full
dead_not_full same = cc

wrong_not_full : meaning.IsWrong ≢ meaning.HasEnded Full
wrong_not_full same = cc

pub never_fails : (p : Program) (limits : Bounds) (input : List ℕ) → IsSound p → NeverFails (source_machine p limits.pages limits.calls) (start p input)
never_fails p limits input sound n s run failed =
    let is = source_run p limits.pages limits.calls n (start p input) s run in
    let (alive, right) = sound input n in
    not_failed (meaning.status_of (limited p limits input n))
    (λ dead. alive (limited_comes_to p limits.pages limits.calls n (start p input) meaning.IsDead dead_not_full dead))
    (λ wrong. right (limited_comes_to p limits.pages limits.calls n (start p input) meaning.IsWrong wrong_not_full wrong))
    (sym (ap (λ (t : meaning.State). source_status (meaning.status_of t)) is) ∙ failed)

-- ---- the two runs compared

module _ (p : Program) (image : ImageContents) (limits : Bounds) (store : StoreState) (input : List ℕ)
    (does : Preserves (source_machine p limits.pages limits.calls) world_machine (text_words image) (start p input) (start_world image limits store input)) where
  ahead : (n : ℕ) (w : World) → Run ((n + 1) * text_words image) (start_world image limits store input) w → IsAhead (limited p limits input n) w
  ahead n w run =
      let (state, made, seen, ends) = does.ahead n w (world_run ((n + 1) * text_words image) (start_world image limits store input) w run) in
      let is : state ≡ limited p limits input n = source_run p limits.pages limits.calls n (start p input) state made in
      subst (λ (s : meaning.State). IsAhead s w) is (
        seen,
        λ ending ended.
            let (over, same) = ends ending (ap source_status ended) in
            (end_shown w.machine.phase ending over, same),
      )

  fine : (m : ℕ) (w : World) → Run m (start_world image limits store input) w → world_status w.machine.phase ≡ simulation.Failed → ⊥
  fine m w run failed = does.never_fails m w (world_run m (start_world image limits store input) w run) failed

  following : (m : ℕ) (w : World) → Run m (start_world image limits store input) w → (k : ℕ) × IsAfter w (limited p limits input k)
  following m w run =
      let (k, state, made, seen, ends) = does.following m w (world_run m (start_world image limits store input) w run) in
      let is : state ≡ limited p limits input k = source_run p limits.pages limits.calls k (start p input) state made in (
        k,
        subst (λ (s : meaning.State). IsAfter w s) is (
          seen,
          λ end over.
              let (ending, shown, ended) = ending_shown w.machine.phase end over (fine m w run) in
              (ending, shown, has_ended (meaning.status_of state) ending (ends ending ended)),
        ),
      )

  pub alike_of : AreAlike p image limits store input
  alike_of = record {
    ahead = ahead;
    following = following;
    never_traps = λ m w run cause over. fine m w run (trap_fails w.machine.phase cause over);
  }

pub are_alike : (p : Program) (image : ImageContents) → DoesTheSame p image
    → (limits : Bounds) (store : StoreState) (input : List ℕ) → AreAllowed limits.pages limits.calls → IsNew limits.pages store
    → AllByRecursion (λ b. b < 256) input → AreAlike p image limits store input
are_alike p image does limits store input allowed new bytes =
    alike_of p image limits store input (does limits store input allowed new bytes)

-- ---- `IsAhead` is kept by further instructions

-- Suppose that a machine has printed and read at least what the program has. This still holds after the machine executes more instructions.
stays_ahead : (s : meaning.State) (count : ℕ) (v w : World) → Run count v w → IsAhead s v → IsAhead s w
stays_ahead s count v w run (seen, ends) = (
  ComesTo-trans (seen_of s) (seen_in v) (seen_in w) seen (Run-output count v w run, Run-input count v w run),
  λ ending ended.
      let ((end, over, shown), same) = ends ending ended in
      let rests : w ≡ v = Run-over count v w end (over-end_of v end over) run in
      ((end, ap end_of rests ∙ over, shown), ap seen_in rests ∙ same),
)

pub keeps_up : (p : Program) (image : ImageContents) (limits : Bounds) (store : StoreState) (input : List ℕ) → AreAlike p image limits store input
    → (n count : ℕ) (w : World) → (n + 1) * text_words image ≤ count → Run count (start_world image limits store input) w → IsAhead (limited p limits input n) w
keeps_up p image limits store input alike n count w enough run =
    let here = (n + 1) * text_words image in
    let started = start_world image limits store input in
    let all : count ≡ here + (count - here) = omega (arith, enough) in
    let (v, first, rest) = run_in_parts here (count - here) started w (subst (λ (k : ℕ). Run k started w) all run) in
    stays_ahead (limited p limits input n) (count - here) v w rest (alike.ahead n v first)

-- ---- two stores

pub ends_alike : (p : Program) (image : ImageContents) → DoesTheSame p image
    → (limits : Bounds) (one other : StoreState) (input : List ℕ) → AreAllowed limits.pages limits.calls → IsNew limits.pages one → IsNew limits.pages other
    → AllByRecursion (λ b. b < 256) input
    → (m : ℕ) (v : World) (end : End) → Run m (start_world image limits one input) v → end_of v ≡ Some end
    → (n : ℕ) × ((w : World) → Run n (start_world image limits other input) w
    → ((last : End) × (end_of w ≡ Some last) × (ending_of last ≡ ending_of end)) × (seen_in w ≡ seen_in v))
ends_alike p image does limits one other input allowed new new' bytes m v end run over =
    let (k, (seen, ends)) = (are_alike p image does limits one input allowed new bytes).following m v run in
    let (ending, shown, ended) = ends end over in (
      (k + 1) * text_words image,
      λ w run'.
          let (comes, ends') = (are_alike p image does limits other input allowed new' bytes).ahead k w run' in
          let ((last, over', shown'), seen') = ends' ending ended in
          ((last, over', shown' ∙ sym shown), seen' ∙ sym seen),
    )

-- ---- the output only

prints_enough : (s : meaning.State) (w : World) → IsAhead s w → PrintsEnough s w
prints_enough s w ((printed, read), ends) = (
  printed,
  λ ending ended. let (over, same) = ends ending ended in (over, ap (λ (x : Seen). x.output) same),
)

prints_no_more : (w : World) (s : meaning.State) → IsAfter w s → PrintsNoMore w s
prints_no_more w s (same, ends) =
    let printed : w.output ≡ meaning.output_of s = ap (λ (x : Seen). x.output) same in (
      subst (λ (out : List ℕ). IsPrefix w.output out) printed (IsPrefix-refl w.output),
      λ end over. (ends end over, sym printed),
    )

pub print_alike : (p : Program) (image : ImageContents) → DoesTheSame p image
    → (limits : Bounds) (store : StoreState) (input : List ℕ) → AreAllowed limits.pages limits.calls → IsNew limits.pages store
    → AllByRecursion (λ b. b < 256) input → PrintAlike p image limits store input
print_alike p image does limits store input allowed new bytes =
    let alike = are_alike p image does limits store input allowed new bytes in
    record {
      enough = λ n w run. prints_enough (limited p limits input n) w (alike.ahead n w run);
      no_more = λ m w run. let (k, is) = alike.following m w run in (k, prints_no_more w (limited p limits input k) is);
      never_traps = alike.never_traps;
    }
