-- The meaning of an assembled text: the MIPS machine that runs its words follows the labelled machine.
use Rattle.std.specs.Prelude.{ℕ, ◌*◌, ◌≤◌, List, [], replicate}
use Rattle.cyc_store.specs.State.{StoreState}
use Rattle.cyc_machine_model.specs.declared.constants.TheConstants.{MAX_CALLS}
use Rattle.cyc_machine_model.specs.Start.{start_core}
use Rattle.cyc_machine_model.specs.State.{text_base, words_per_call}
use Rattle.cyc_words.specs.Simulation.{NeverFails}
use Rattle.cyc_words.specs.inside.Following.{Follows}
use Rattle.cyc_machine_model.specs.Run.{World}
use Rattle.cyc_machine_model.specs.WorldMachine.{world_machine}
use Rattle.cyc_machine_model.specs.declared.phase.Phase.TheVariants as phases
use Rattle.cyc_select.specs.inside.Labelled.{Labelled}
use Rattle.cyc_select.specs.inside.Machine as labelled
use Rattle.cyc_asm.specs.inside.Text.{text_of, own}

-- Returns the initial state of the MIPS machine, its memory and its devices, with these words of text and these words in the data range.
abbrev pub start_in : (words globals stack : List ℕ) → StoreState → (calls : ℕ) → (input : List ℕ) → World
start_in words globals stack store calls input =
    record {
      machine = record {
        core = start_core text_base calls;
        memory = record { text = text_of words; globals = globals; stack = stack; store = store };
        phase = phases.Running;
      };
      output = [];
      input = input;
    }

abbrev pub start : Labelled → (words : List ℕ) → StoreState → (calls : ℕ) → (input : List ℕ) → World
start code words store calls input =
    start_in words (labelled.globals_of code.globals) (replicate (words_per_call * calls) 0) store calls input

-- `Runs` says that for every store and input, the MIPS machine that runs the words does as the labelled machine does, unless the latter
-- fails. For each line that the labelled machine visits, the MIPS machine visits only the line's own words, each at most once.
abbrev pub Runs : Labelled → (addresses : ℕ → ℕ) → (words : List ℕ) → Type 0
Runs code addresses words =
    (store : StoreState) (calls : ℕ) (input : List ℕ) → calls ≤ MAX_CALLS
    → NeverFails (labelled.machine code addresses) (labelled.start code store calls input)
    → Follows (labelled.machine code addresses) world_machine [] (own addresses)
    (labelled.start code store calls input) (start code words store calls input)
