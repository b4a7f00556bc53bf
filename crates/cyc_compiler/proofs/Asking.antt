-- This file is about a run that requests a byte after the end of its input for the first time: with a longer
-- input, the run reads one more byte.
use Rattle.std.proofs.Common.{◌≡◌, ◌≢◌, ℕ, zero, suc, ◌+◌, ◌<◌, List, [], ◌∷◌, ◌++◌, drop, refl, sym, ap, ◌∙◌}
use Rattle.std.specs.List.{AllByRecursion}
use Rattle.cyc_words.specs.Seen.{showing}
use Rattle.cyc_words.proofs.Lists.{all_append}
use Rattle.cyc_elf.specs.Image.{ImageContents}
use Rattle.cyc_store.specs.State.{IsNew, StoreState}
use Rattle.cyc_machine_model.specs.declared.event.Event.{Event}
use Rattle.cyc_machine_model.specs.declared.event.Event.TheVariants.{Ran, WantsByte, Puts, Ended, NoMemory}
use Rattle.cyc_machine_model.specs.Bounds.{Bounds, AreAllowed}
use Rattle.cyc_machine_model.specs.State.{State}
use Rattle.cyc_machine_model.specs.Run.{World, reported, Run}
use Rattle.cyc_machine_model.specs.Start.{start_world}
use Rattle.cyc_machine_model.proofs.RunLaws.{run_after_run}
use Rattle.cyc_types.specs.TypedTrees.{Program}
use Rattle.cyc_meaning.specs.SourceMachine.{seen_of}
use Rattle.cyc_compiler.specs.FullPreservation.{limited, DoesTheSame}
use Rattle.cyc_compiler.specs.Asking.{RunWithin, AsksAtTheEnd}
use Rattle.cyc_compiler.proofs.Preservation.{are_alike}

-- The state `w` of the machine and its devices, with one more byte of input.
abbrev longer : (b : ℕ) → World → World
longer b w = record w { input = w.input ++ b ∷ [] }

-- If some input is left, then a requested byte is the same with this input and with the input extended by one byte.
given_longer : (b : ℕ) (s : State) (output input : List ℕ) (old : State) → input ≢ []
    → longer b (reported (record { machine = old; output = output; input = input }) WantsByte s) ≡ reported (longer b (record { machine = old; output = output; input = input })) WantsByte s
given_longer b s output [] old some = absurd (some refl)
given_longer b s output (x ∷ input) old some = refl

-- An event of the machine has the same effect with the input extended by one byte, unless it requests the byte after the end of
-- the unextended input.
reported_longer : (b : ℕ) (w : World) (event : Event) (s : State) → (event ≡ WantsByte → w.input ≢ []) → longer b (reported w event s) ≡ reported (longer b w) event s
reported_longer b w Ran s within = refl
reported_longer b w WantsByte s within = given_longer b s w.output w.input w.machine (within refl)
reported_longer b w (Puts byte) s within = refl
reported_longer b w (Ended end) s within = refl
reported_longer b w NoMemory s within = refl

run_longer : (b count : ℕ) (v w : World) → RunWithin count v w → Run count (longer b v) (longer b w)
run_longer b zero v w run = ap (longer b) run
run_longer b (suc count) v w (mid, (event, s, step, is, within), run) = (
  longer b mid,
  (event, s, step, ap (longer b) is ∙ reported_longer b v event s within),
  run_longer b count mid w run,
)

pub asks_what_is_asked : (p : Program) (image : ImageContents) → DoesTheSame p image
    → (limits : Bounds) (store : StoreState) (input : List ℕ) (b : ℕ) → AreAllowed limits.pages limits.calls → IsNew limits.pages store
    → AllByRecursion (λ b. b < 256) input → b < 256
    → (count : ℕ) (w : World) → RunWithin count (start_world image limits store input) w → AsksAtTheEnd w
    → (k : ℕ) × (seen_of (limited p limits (input ++ b ∷ []) k) ≡ showing w.output [])
asks_what_is_asked p image does limits store input b allowed new bytes byte count w run (none, (s, step)) =
    let started = start_world image limits store (input ++ b ∷ []) in
    let alike = are_alike p image does limits store (input ++ b ∷ []) allowed new (all_append (λ (x : ℕ). x < 256) input (b ∷ []) bytes (byte, tt)) in
    let here = longer b w in
    let there = reported here WantsByte s in
    let asked : Run 1 here there = (there, (WantsByte, s, step, refl), refl) in
    let (k, (seen, ends)) = alike.following (count + 1) there (run_after_run count 1 started here there (run_longer b count (start_world image limits store input) w run) asked) in
    (k, sym seen ∙ ap (λ (rest : List ℕ). showing w.output (drop 1 (rest ++ b ∷ []))) none)
