-- The labelled machine (which executes MIPS lines) satisfies the laws of a transition system: its output only grows, and a run
-- that has ended never changes.
use Rattle.std.proofs.Common.{◌≡◌, ℕ, ◌+◌, Bool, true, false, [], ◌∷◌, Option, Some, None, slice_get, refl, sym, ap, subst, ◌∙◌, inl, inr}
use Rattle.cyc_words.specs.Ending.{Ending}
use Rattle.cyc_words.specs.Seen.{showing, ComesTo}
use Rattle.cyc_words.proofs.PrefixLemmas.{IsPrefix-refl, IsPrefix-append}
use Rattle.cyc_words.proofs.SeenLemmas.{ComesTo-refl}
use Rattle.cyc_isa.specs.declared.instr.Instr.{Instr}
use Rattle.cyc_machine_model.specs.State as machines
use Rattle.cyc_machine_model.specs.Run.{World, reported, ending_of}
use Rattle.cyc_machine_model.specs.declared.event.Event.{Event}
use Rattle.cyc_machine_model.specs.declared.event.Event.TheVariants.{Ran, WantsByte, Puts, Ended, NoMemory}
use Rattle.cyc_machine_model.specs.declared.phase.Phase.{Phase}
use Rattle.cyc_machine_model.specs.declared.phase.Phase.TheVariants as phases
use Rattle.cyc_words.specs.Simulation as simulation
use Rattle.cyc_words.specs.inside.Following.{IsLawful}
use Rattle.cyc_words.proofs.Lists.{read_before_drop}
use Rattle.cyc_select.specs.declared.code.Line.{Line}
use Rattle.cyc_select.specs.declared.code.Line.TheVariants as lines
use Rattle.cyc_select.specs.inside.Labelled.{Labelled, is_ordinary}
use Rattle.cyc_select.specs.inside.Machine as labelled
use Rattle.cyc_select.specs.inside.Machine.{Configuration, State, Running, Stopped, world_of, settled, closed, PerformsOrdinary, Executes, ExecutesAt, Step, machine, seen_of, status_of}

abbrev Grows : Configuration → State → Type 0
Grows c new = ComesTo (showing c.output c.input) (seen_of new)

closed_seen : (w : World) (ending : Option Ending) → seen_of (closed w ending) ≡ showing w.output w.input
closed_seen w (Some ending) = refl
closed_seen w None = refl

settled_seen : (w : World) (line : ℕ) (phase : Phase) → seen_of (settled w line phase) ≡ showing w.output w.input
settled_seen w line phases.Running = refl
settled_seen w line phases.Waiting = refl
settled_seen w line (phases.Over end) = closed_seen w (ending_of end)

reported_grows : (w : World) (event : Event) (s : machines.State) → ComesTo (showing w.output w.input) (showing (reported w event s).output (reported w event s).input)
reported_grows w Ran s = ComesTo-refl (showing w.output w.input)
reported_grows w WantsByte s = (IsPrefix-refl w.output, read_before_drop 1 w.input)
reported_grows w (Puts byte) s = (IsPrefix-append w.output (byte ∷ []), ([], refl))
reported_grows w (Ended end) s = ComesTo-refl (showing w.output w.input)
reported_grows w NoMemory s = ComesTo-refl (showing w.output w.input)

ordinary_grows : (b : Bool) (c : Configuration) (i : Instr) (new : State) → PerformsOrdinary b c i new → Grows c new
ordinary_grows true c i new (event, s, acts, is) =
    subst (ComesTo (showing c.output c.input)) (sym (ap seen_of is ∙ settled_seen (reported (world_of c) event s) (c.line + 1) (reported (world_of c) event s).machine.phase)) (reported_grows (world_of c) event s)
ordinary_grows false c i new is = subst (Grows c) (sym is) (ComesTo-refl (showing c.output c.input))

executes_grows : (code : Labelled) (addresses : ℕ → ℕ) (c : Configuration) (line : Line) (new : State) → Executes code addresses c line new → Grows c new
executes_grows code addresses c (lines.Ordinary i) new does = ordinary_grows (is_ordinary i) c i new does
executes_grows code addresses c (lines.Branch condition label) new is = subst (Grows c) (sym is) (ComesTo-refl (showing c.output c.input))
executes_grows code addresses c (lines.Jump label) new is = subst (Grows c) (sym is) (ComesTo-refl (showing c.output c.input))
executes_grows code addresses c (lines.Call label) new is = subst (Grows c) (sym is) (ComesTo-refl (showing c.output c.input))
executes_grows code addresses c lines.Return new (inl (line, point, lies, is)) = subst (Grows c) (sym is) (ComesTo-refl (showing c.output c.input))
executes_grows code addresses c lines.Return new (inr (nowhere, is)) = subst (Grows c) (sym is) (ComesTo-refl (showing c.output c.input))

line_grows : (code : Labelled) (addresses : ℕ → ℕ) (c : Configuration) (line : Option Line) (new : State) → ExecutesAt code addresses c line new → Grows c new
line_grows code addresses c (Some line) new does = executes_grows code addresses c line new does
line_grows code addresses c None new is = subst (Grows c) (sym is) (ComesTo-refl (showing c.output c.input))

step_grows : (code : Labelled) (addresses : ℕ → ℕ) (old new : State) → Step code addresses old new → ComesTo (seen_of old) (seen_of new)
step_grows code addresses (Running c) new step = line_grows code addresses c (slice_get code.lines c.line) new step
step_grows code addresses (labelled.Ended ending output input) new is = subst (λ (s : State). ComesTo (showing output input) (seen_of s)) (sym is) (ComesTo-refl (showing output input))
step_grows code addresses (Stopped output input) new is = subst (λ (s : State). ComesTo (showing output input) (seen_of s)) (sym is) (ComesTo-refl (showing output input))

ended_code_stays : (code : Labelled) (addresses : ℕ → ℕ) (old new : State) (ending : Ending) → status_of old ≡ simulation.Ended ending → Step code addresses old new → new ≡ old
ended_code_stays code addresses (Running c) new ending ended step = absurd (let e : simulation.Running ≡ simulation.Ended ending = ended in cc)
ended_code_stays code addresses (labelled.Ended other output input) new ending ended is = is
ended_code_stays code addresses (Stopped output input) new ending ended step = absurd (let e : simulation.Failed ≡ simulation.Ended ending = ended in cc)

ended_code_rests : (code : Labelled) (addresses : ℕ → ℕ) (s : State) (ending : Ending) → status_of s ≡ simulation.Ended ending → Step code addresses s s
ended_code_rests code addresses (Running c) ending ended = absurd (let e : simulation.Running ≡ simulation.Ended ending = ended in cc)
ended_code_rests code addresses (labelled.Ended other output input) ending ended = refl
ended_code_rests code addresses (Stopped output input) ending ended = absurd (let e : simulation.Failed ≡ simulation.Ended ending = ended in cc)

pub code_is_lawful : (code : Labelled) (addresses : ℕ → ℕ) → IsLawful (machine code addresses)
code_is_lawful code addresses = record {
  grows = step_grows code addresses;
  stays = ended_code_stays code addresses;
  rests = ended_code_rests code addresses;
}
