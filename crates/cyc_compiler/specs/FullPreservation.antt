-- This file defines full preservation: the file does what a program means and nothing else. The machine that runs the file prints
-- what the program prints and reads what the program reads, in the order of the program.
--
-- The program has one limited run for each input. The machine has many runs of an image, since its system calls may choose; each of these
-- runs does what the program does. The form of this property, and its bound of instructions for each step of the program, are this
-- project's own choice.
use Rattle.std.specs.Prelude.{◌≡◌, ℕ, ◌+◌, ◌*◌, ◌/◌, ◌<◌, ◌≤◌, false, List, map, Some, Ok, sum_by, if◌then◌else◌}
use Rattle.std.specs.List.{AllByRecursion}
use Rattle.cyc_words.specs.Ending.{Ending}
use Rattle.cyc_words.specs.Seen.{IsPrefix, ComesTo}
use Rattle.cyc_elf.specs.Image.{ImageContents, padded}
use Rattle.cyc_elf.specs.Layout.{layout}
use Rattle.cyc_elf.specs.Reading.{reading}
use Rattle.cyc_store.specs.State.{StoreState, IsNew}
use Rattle.cyc_machine_model.specs.Bounds.{Bounds, AreAllowed}
use Rattle.cyc_machine_model.specs.Run.{World, Run, end_of, ending_of}
use Rattle.cyc_machine_model.specs.Start.{lies_in_text, has_outside, start_world}
use Rattle.cyc_machine_model.specs.declared.event.Cause.{Cause}
use Rattle.cyc_machine_model.specs.declared.event.End.{End}
use Rattle.cyc_machine_model.specs.declared.event.End.TheVariants.{Trap}
use Rattle.cyc_types.specs.TypedTrees.{GlobalVariable, Program}
use Rattle.cyc_types.specs.Weight.{program_weight}
use Rattle.cyc_meaning.specs.State as meaning
use Rattle.cyc_meaning.specs.State.{State, HasEnded}
use Rattle.cyc_meaning.specs.Run.{start, limited_run}
use Rattle.cyc_meaning.specs.FrameCount.{words_of_all}
use Rattle.cyc_meaning.specs.Sizes.{size_per_weight, max_start_words}
use Rattle.cyc_words.specs.Simulation.{Preserves}
use Rattle.cyc_meaning.specs.SourceMachine.{source_machine, seen_of}
use Rattle.cyc_machine_model.specs.WorldMachine.{world_machine, seen_of as seen_in}
use Rattle.cyc_compiler.specs.ProgramImage.{HasForm}

-- The number of machine words in the code segments of an image.
abbrev pub text_words : ImageContents → ℕ
text_words image = sum_by (λ s. if lies_in_text s then padded s.size / 4 else 0) image.segments

-- The number of machine words of data of a program's image, which are the words of the program's globals.
abbrev pub data_words : Program → ℕ
data_words p = words_of_all (map (λ (g : GlobalVariable). g.of_type) p.globals)

-- Says that the machine has memory for each segment of the image.
abbrev pub IsLoadable : ImageContents → Type 0
IsLoadable image = has_outside image ≡ false

-- The state of a program's limited run after `n` steps.
abbrev pub limited : Program → Bounds → (input : List ℕ) → ℕ → State
limited p limits input n = limited_run p limits.pages limits.calls input n

-- Says that the image does what the program means, for all allowed limits, every new heap store with any words, and each input of bytes. If
-- the image has T machine words of code, then T instructions suffice for each step of the program, and T before the first step.
abbrev pub DoesTheSame : Program → ImageContents → Type 0
DoesTheSame p image =
    (limits : Bounds) (store : StoreState) (input : List ℕ) → AreAllowed limits.pages limits.calls → IsNew limits.pages store
    → AllByRecursion (λ b. b < 256) input
    → Preserves (source_machine p limits.pages limits.calls) world_machine (text_words image)
    (start p input) (start_world image limits store input)

-- Says that a file is an image that the machine can load and that does what the program means. The file is the layout of the image, and the
-- image has the form for a program with this many machine words of data. Neither the file nor the image contains anything beyond this form.
pub record IsImageOf (p : Program) (file : List ℕ) : Type 0 where
  pub image : ImageContents
  pub read : reading file ≡ Ok image
  pub written : file ≡ layout image
  pub form : HasForm (data_words p) image
  pub loads : IsLoadable image
  pub does : DoesTheSame p image
  -- The image's code has at most a fixed number of machine words for each token of the program's spelling, plus the start code's words.
  pub few : text_words image ≤ max_start_words + size_per_weight * program_weight p

-- ---- the statements of full preservation, in terms of the two runs

-- Within (n + 1) * T instructions, T being the image's code words, the machine has printed and read at least what the program has in n
-- steps. If the program has ended, then the machine has ended in the same way, with equal output and equal remaining input.
abbrev pub IsAhead : (program : State) → World → Type 0
IsAhead s w =
    ComesTo (seen_of s) (seen_in w)
    × ((ending : Ending) → meaning.status_of s ≡ HasEnded ending
    → ((end : End) × (end_of w ≡ Some end) × (ending_of end ≡ Some ending)) × (seen_in w ≡ seen_of s))

-- Says that the machine has printed what the program has printed in this state, and that the remaining inputs are equal. If the machine
-- has ended, then the program has ended in the same way.
abbrev pub IsAfter : World → (program : State) → Type 0
IsAfter w s =
    (seen_in w ≡ seen_of s)
    × ((end : End) → end_of w ≡ Some end → (ending : Ending) × (ending_of end ≡ Some ending) × (meaning.status_of s ≡ HasEnded ending))

-- Compares each run of the machine with the limited run of the program.
pub record AreAlike (p : Program) (image : ImageContents) (limits : Bounds) (store : StoreState) (input : List ℕ) : Type 0 where
  pub ahead : (n : ℕ) (w : World) → Run ((n + 1) * text_words image) (start_world image limits store input) w
      → IsAhead (limited p limits input n) w
  pub following : (m : ℕ) (w : World) → Run m (start_world image limits store input) w
      → (k : ℕ) × IsAfter w (limited p limits input k)
  pub never_traps : (m : ℕ) (w : World) → Run m (start_world image limits store input) w
      → (cause : Cause) → end_of w ≡ Some (Trap cause) → ⊥

-- ---- consequences for the output only

-- Within (n + 1) * T instructions, T being the image's code words, the machine has printed at least what the program prints in n steps. If
-- the program has ended, then the machine has ended in the same way and with equal output.
abbrev pub PrintsEnough : (program : State) → World → Type 0
PrintsEnough s w =
    IsPrefix (meaning.output_of s) w.output
    × ((ending : Ending) → meaning.status_of s ≡ HasEnded ending
    → ((end : End) × (end_of w ≡ Some end) × (ending_of end ≡ Some ending)) × (w.output ≡ meaning.output_of s))

-- Says that the machine has printed no more than the program. If the machine has ended, then the program has ended in the same way and
-- with equal output.
abbrev pub PrintsNoMore : World → (program : State) → Type 0
PrintsNoMore w s =
    IsPrefix w.output (meaning.output_of s)
    × ((end : End) → end_of w ≡ Some end
    → ((ending : Ending) × (ending_of end ≡ Some ending) × (meaning.status_of s ≡ HasEnded ending)) × (meaning.output_of s ≡ w.output))

-- Says that each run of the machine prints what the program prints, and ends in the same way.
pub record PrintAlike (p : Program) (image : ImageContents) (limits : Bounds) (store : StoreState) (input : List ℕ) : Type 0 where
  pub enough : (n : ℕ) (w : World) → Run ((n + 1) * text_words image) (start_world image limits store input) w
      → PrintsEnough (limited p limits input n) w
  pub no_more : (m : ℕ) (w : World) → Run m (start_world image limits store input) w
      → (k : ℕ) × PrintsNoMore w (limited p limits input k)
  pub never_traps : (m : ℕ) (w : World) → Run m (start_world image limits store input) w
      → (cause : Cause) → end_of w ≡ Some (Trap cause) → ⊥
