-- The MIPS machine that runs the assembled words follows the labelled machine.
use Rattle.std.proofs.Common.{◌≡◌, ℕ, ◌*◌, List, [], replicate, refl, sym, ap, arith, false}
use Rattle.std.specs.Prelude.{slice_set}
use Rattle.std.proofs.lemmas.List.{length-replicate}
use Rattle.cyc_store.specs.State.{StoreState}
use Rattle.cyc_machine_model.specs.declared.constants.TheConstants.{ARGUMENT, STACK_POINTER}
use Rattle.cyc_words.specs.Ending.{Ending}
use Rattle.cyc_words.specs.Word.{add_of}
use Rattle.cyc_machine_model.specs.declared.event.End.{End}
use Rattle.cyc_machine_model.specs.declared.phase.Phase.{Phase}
use Rattle.cyc_machine_model.specs.declared.phase.Phase.TheVariants as phases
use Rattle.cyc_machine_model.specs.State.{words_per_call, stack_end}
use Rattle.cyc_machine_model.proofs.RunLaws.{Goes-over, Goes-rests, Goes-output, Goes-input}
use Rattle.cyc_words.specs.Simulation.{Ended}
use Rattle.cyc_words.specs.inside.Following.{IsLawful}
use Rattle.cyc_words.proofs.Simulation.{simulates, running_ended}
use Rattle.cyc_select.specs.inside.Labelled.{Labelled}
use Rattle.cyc_select.specs.inside.Machine as labelled
use Rattle.cyc_select.specs.inside.Machine.{Configuration}
use Rattle.cyc_asm.specs.inside.Text.{IsTextInOrder}
use Rattle.cyc_asm.specs.inside.Machine.{Runs, start}
use Rattle.cyc_machine_model.specs.WorldMachine.{world_machine, status_in}
use Rattle.cyc_asm.proofs.Fetching.{world_at}
use Rattle.cyc_asm.proofs.Leading.{above, matching}
use Rattle.cyc_asm.proofs.Steps.{matched}

over_of : (p : Phase) (ending : Ending) → status_in p ≡ Ended ending → (end : End) × (p ≡ phases.Over end)
over_of phases.Running ending ended = absurd (running_ended ending ended)
over_of phases.Waiting ending ended = absurd (running_ended ending ended)
over_of (phases.Over end) ending ended = (end, refl)

-- In a run of the MIPS machine, the output only grows, and a run that has ended stays in its state.
pub world_is_lawful : IsLawful world_machine
world_is_lawful = record {
  grows = λ old new goes. (Goes-output old new goes, Goes-input old new goes);
  stays = λ old new ending ended goes. let (end, over) = over_of old.machine.phase ending ended in Goes-over old new end over goes;
  rests = λ w ending ended. let (end, over) = over_of w.machine.phase ending ended in Goes-rests w end over;
}

-- Returns the initial configuration of the labelled machine.
abbrev started : Labelled → StoreState → (calls : ℕ) → (input : List ℕ) → Configuration
started code store calls input = record {
  registers = slice_set (slice_set (replicate 32 0) ARGUMENT calls) STACK_POINTER stack_end;
  high = 0;
  low = 0;
  globals = labelled.globals_of code.globals;
  stack = replicate (words_per_call * calls) 0;
  store = store;
  output = [];
  input = input;
  line = 0;
}

pub runs_in_order : (code : Labelled) (addresses : ℕ → ℕ) (words : List ℕ) → IsTextInOrder code code addresses words → Runs code addresses words
runs_in_order code addresses words text store calls input few never =
    simulates (above code addresses) world_machine (matching code addresses words) (matched code addresses words text) world_is_lawful []
    (labelled.start code store calls input) never (start code words store calls input) refl (
      (let nothing : ℕ = 0 in let long = length-replicate (words_per_call * calls) nothing in omega (arith, long, few)),
      refl,
      ap (λ (a : ℕ). world_at words (started code store calls input) a (add_of a 4) false) (sym text.first),
    )
