-- The image that the passes produce is an image of the source program.
use Rattle.std.proofs.Common.{◌≡◌, ℕ, ◌*◌, ◌≤◌, ◌<◌, List, ◌∷◌, length, Option, refl, sym, ap, subst, ◌∙◌, arith, Ok}
use Rattle.std.specs.List.{AllByRecursion}
use Rattle.cyc_words.specs.Word.{IsWord}
use Rattle.cyc_elf.specs.Layout.{layout}
use Rattle.cyc_elf.specs.Reading.{reading}
use Rattle.cyc_machine_model.specs.State.{globals_length}
use Rattle.cyc_machine_model.specs.Run.{World}
use Rattle.cyc_machine_model.specs.Start.{start_world}
use Rattle.cyc_types.specs.TypedTrees.{Program}
use Rattle.cyc_meaning.specs.Run.{start}
use Rattle.cyc_words.specs.Simulation.{Preserves}
use Rattle.cyc_plain.specs.inside.Program.{Program as PlainProgram}
use Rattle.cyc_soundness.specs.Sound.{IsSound}
use Rattle.cyc_meaning.specs.SourceMachine.{source_machine}
use Rattle.cyc_select.specs.inside.Labelled.{Labelled, IsCode}
use Rattle.cyc_select.specs.inside.Selected.{IsCodeOf}
use Rattle.cyc_asm.specs.inside.Text.{IsTextOf}
use Rattle.cyc_asm.specs.inside.Machine.{Runs}
use Rattle.cyc_asm.proofs.Stretches.{text_has_words}
use Rattle.cyc_machine_model.specs.WorldMachine.{world_machine}
use Rattle.cyc_compiler.specs.FullPreservation.{DoesTheSame, IsImageOf}
use Rattle.cyc_compiler.specs.ProgramImage.{program_image, HasForm}
use Rattle.cyc_compiler.specs.inside.Chain.{IsProgramOf}
use Rattle.cyc_compiler.proofs.Composition.{chain_preserves}
use Rattle.cyc_compiler.proofs.Preservation.{never_fails}
use Rattle.cyc_compiler.proofs.ProgramImages.{text_words-image, image_form, image_loads, image_starts}

-- ---- the image does what the program means

module _ (p : Program) (lowered : PlainProgram) (code : Labelled) (addresses : ℕ → ℕ) (words : List ℕ) (note : Option (ℕ × ℕ))
    (sound : IsSound p) (is : IsProgramOf p lowered) (selected : IsCodeOf lowered code) (globals : code.globals ≡ lowered.globals) (text : IsTextOf code addresses words) (runs : Runs code addresses words)
    (is_code : IsCode code) (fit : AllByRecursion IsWord words) (fit_globals : AllByRecursion IsWord code.globals) where
  few : length code.globals ≤ globals_length
  few = is_code.few_globals

  some : 0 < length words
  some = text_has_words code addresses words is_code.some text

  does : DoesTheSame p (program_image words code.globals note)
  does limits store input allowed new bytes =
      let pages = limits.pages in
      let calls = limits.calls in
      let together = chain_preserves p lowered code addresses words pages calls store input selected
      (is.follows pages calls selected.base store input new (omega (arith, allowed.enough_pages)) allowed.few_pages allowed.enough_calls bytes selected.placed) text runs allowed new bytes (never_fails p limits input sound) in
      subst (λ each. Preserves (source_machine p pages calls) world_machine each (start p input) (start_world (program_image words code.globals note) limits store input))
      (sym (text_words-image words code.globals note some text.inside few fit fit_globals))
      (subst (λ (w : World). Preserves (source_machine p pages calls) world_machine (length words) (start p input) w)
      (sym (image_starts words code.globals note some text.inside few fit fit_globals code limits store input refl)) together)

  pub image_of_chain : (file : List ℕ) → reading file ≡ Ok (program_image words code.globals note) → file ≡ layout (program_image words code.globals note) → IsImageOf p file
  image_of_chain file read written = record {
    image = program_image words code.globals note;
    read = read;
    written = written;
    form = subst (λ (n : ℕ). HasForm n (program_image words code.globals note)) (ap length globals ∙ is.globals) (image_form words code.globals note);
    loads = image_loads words code.globals note some text.inside few fit fit_globals;
    does = does;
    few = omega (arith, text_words-image words code.globals note some text.inside few fit fit_globals, text.few, selected.few_words, is.small);
  }

-- States that an image made from these words and globals is an image of the source program.
pub image_made : (p : Program) (lowered : PlainProgram) (code : Labelled) (addresses : ℕ → ℕ) (words there globals : List ℕ) (note : Option (ℕ × ℕ)) (file : List ℕ)
    → there ≡ words → globals ≡ code.globals → IsSound p → IsProgramOf p lowered → IsCodeOf lowered code → code.globals ≡ lowered.globals → IsTextOf code addresses words → Runs code addresses words
    → IsCode code → AllByRecursion IsWord there → AllByRecursion IsWord globals → reading file ≡ Ok (program_image there globals note)
    → file ≡ layout (program_image there globals note) → IsImageOf p file
image_made p lowered code addresses words there globals note file same same_globals sound is selected are text runs is_code fit fit_globals read written =
    image_of_chain p lowered code addresses words note sound is selected are text runs is_code (subst (AllByRecursion IsWord) same fit) (subst (AllByRecursion IsWord) same_globals fit_globals) file
    (subst (λ (ws : List ℕ). reading file ≡ Ok (program_image ws code.globals note)) same (subst (λ (gs : List ℕ). reading file ≡ Ok (program_image there gs note)) same_globals read))
    (subst (λ (ws : List ℕ). file ≡ layout (program_image ws code.globals note)) same (subst (λ (gs : List ℕ). file ≡ layout (program_image there gs note)) same_globals written))
