-- This file composes the passes: a source program, its plain program, that program's labelled code, and the words of that code.
use Rattle.std.proofs.Common.{◌≡◌, ◌≢◌, ℕ, ◌+◌, ◌≤◌, ◌<◌, List, [], ◌++◌, length, sym, ap, subst, ◌∙◌, arith, length-append}
use Rattle.std.specs.Prelude.{flat_map}
use Rattle.std.specs.List.{AllByRecursion}
use Rattle.std.proofs.lemmas.Grind.{flat_map-append}
use Rattle.cyc_words.specs.Ending.{Ending}
use Rattle.cyc_words.specs.Seen.{ComesTo}
use Rattle.cyc_machine_model.specs.Bounds.{AreAllowed}
use Rattle.cyc_machine_model.specs.State.{text_base}
use Rattle.cyc_types.specs.TypedTrees.{Program}
use Rattle.cyc_meaning.specs.State as meaning
use Rattle.cyc_meaning.specs.Run.{start}
use Rattle.cyc_meaning.proofs.RunLaws.{limited_step_goes_on, over_limited}
use Rattle.cyc_words.specs.Simulation.{Machine, NeverFails, Preserves}
use Rattle.cyc_words.specs.inside.Following.{IsLawful, Follows}
use Rattle.cyc_words.specs.Simulation as simulation
use Rattle.cyc_words.proofs.Simulation.{in_a_row, follows-never_fails, follows-preserves}
use Rattle.cyc_plain.proofs.RunLaws.{lawful}
use Rattle.cyc_plain.specs.inside.Program.{Program as PlainProgram, places_of}
use Rattle.cyc_plain.specs.inside.Step as plain
use Rattle.cyc_lower_proof.specs.inside.Lowered.{FollowsSource}
use Rattle.cyc_meaning.specs.SourceMachine.{source_machine, seen_of, status_in}
use Rattle.cyc_select.specs.inside.Labelled.{Labelled}
use Rattle.cyc_select.specs.inside.Machine as labelled
use Rattle.cyc_select.specs.inside.Selected.{IsCodeOf}
use Rattle.cyc_asm.specs.inside.Text.{IsTextOf, stretch, own}
use Rattle.cyc_asm.proofs.Stretches.{length-stretch}
use Rattle.cyc_asm.specs.inside.Machine as words
use Rattle.cyc_asm.specs.inside.Machine.{Runs}
use Rattle.cyc_store.specs.State.{IsNew, StoreState}
use Rattle.cyc_machine_model.specs.WorldMachine.{world_machine}

-- ---- the source as a transition system

ended_not_going : (s : meaning.State) (ending : Ending) → status_in (meaning.status_of s) ≡ simulation.Ended ending → meaning.status_of s ≢ meaning.GoesOn
ended_not_going s ending ended goes = let running : status_in (meaning.status_of s) ≡ simulation.Running = ap status_in goes in cc

pub source_lawful : (p : Program) (pages calls : ℕ) → IsLawful (source_machine p pages calls)
source_lawful p pages calls = record {
  grows = λ old new step. subst (λ s. ComesTo (seen_of old) (seen_of s)) (sym step) (limited_step_goes_on p pages calls old);
  stays = λ old new ending ended step. step ∙ over_limited p pages calls old (ended_not_going old ending ended);
  rests = λ s ending ended. sym (over_limited p pages calls s (ended_not_going s ending ended));
}

-- ---- the composed passes

module _ (p : Program) (lowered : PlainProgram) (code : Labelled) (addresses : ℕ → ℕ) (text : List ℕ) (pages calls : ℕ) (store : StoreState) (input : List ℕ)
    (selected : IsCodeOf lowered code) (follows : FollowsSource p lowered pages calls selected.base store input) (assembled : IsTextOf code addresses text) (runs : Runs code addresses text)
    (allowed : AreAllowed pages calls) (new : IsNew pages store) (bytes : AllByRecursion (λ b. b < 256) input) (never : NeverFails (source_machine p pages calls) (start p input)) where
  abbrev source : Machine
  source = source_machine p pages calls

  abbrev middle : Machine
  middle = plain.machine lowered pages calls

  abbrev lines : Machine
  lines = labelled.machine code addresses

  first : Follows source middle [] (λ s. places_of lowered) (start p input) (plain.start lowered selected.base store input)
  first = follows never

  second : Follows middle lines selected.before selected.own (plain.start lowered selected.base store input) (labelled.start code store calls input)
  second =
      selected.follows pages calls allowed store new input bytes addresses assembled.places
      (follows-never_fails source middle (source_lawful p pages calls) [] (λ s. places_of lowered) (start p input) (plain.start lowered selected.base store input) first)

  third : Follows lines world_machine [] (own addresses) (labelled.start code store calls input) (words.start code text store calls input)
  third =
      runs store calls input allowed.few_calls
      (follows-never_fails middle lines (lawful lowered pages calls) selected.before selected.own (plain.start lowered selected.base store input) (labelled.start code store calls input) second)

  -- The machine words of the image that are executed before the first step of the source. The next definition lists the words
  -- executed in one step.
  abbrev words_before : List ℕ
  words_before = flat_map (own addresses) (selected.before ++ flat_map selected.own [])

  abbrev words_of_step : List ℕ
  words_of_step = flat_map (own addresses) (flat_map selected.own (places_of lowered))

  whole : Follows source world_machine words_before (λ s. words_of_step) (start p input) (words.start code text store calls input)
  whole =
      in_a_row source lines world_machine (selected.before ++ flat_map selected.own []) (λ s. flat_map selected.own (places_of lowered)) [] (own addresses)
      (start p input) (labelled.start code store calls input) (words.start code text store calls input)
      (in_a_row source middle lines [] (λ s. places_of lowered) selected.before selected.own
      (start p input) (plain.start lowered selected.base store input) (labelled.start code store calls input) first second)
      third

  -- The machine words that are executed in one step are among the words of the image's code, each at most once.
  bound : length words_before + length words_of_step ≤ length text
  bound =
      let all : flat_map (own addresses) (selected.before ++ flat_map selected.own (places_of lowered)) ≡ stretch text_base (length text) =
      ap (flat_map (own addresses)) selected.parts ∙ assembled.all in
      let both = flat_map-append (own addresses) selected.before (flat_map selected.own (places_of lowered)) in
      let front = flat_map-append (own addresses) selected.before [] in
      omega (
        arith,
        ap length all,
        ap length both,
        ap length front,
        length-append (flat_map (own addresses) selected.before) words_of_step,
        length-append (flat_map (own addresses) selected.before) [],
        length-stretch text_base (length text),
      )

  pub chain_preserves : Preserves source world_machine (length text) (start p input) (words.start code text store calls input)
  chain_preserves =
      follows-preserves source world_machine (source_lawful p pages calls) words_before (λ s. words_of_step) (start p input) (words.start code text store calls input) whole
      (length text) (λ s. bound)
