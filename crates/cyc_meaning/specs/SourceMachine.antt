-- The source language as a machine, for statements about any machine: with given limits, a program has one run for each input.
-- Viewing the source as a machine is this project's own choice.
use Rattle.std.specs.Prelude.{◌≡◌, ℕ}
use Rattle.cyc_words.specs.Seen.{Seen, showing}
use Rattle.cyc_words.specs.Simulation.{Machine, Status, Running, Ended, Failed}
use Rattle.cyc_types.specs.TypedTrees.{Program}
use Rattle.cyc_meaning.specs.State.{State, output_of, input_of, status_of}
use Rattle.cyc_meaning.specs.State as meaning
use Rattle.cyc_meaning.specs.Run.{limited_step}

-- Returns the status of a source run as a status of a machine. A dead access and a state in which no case applies are not ways for a
-- program to end.
abbrev pub status_in : meaning.Status → Status
status_in meaning.GoesOn = Running
status_in (meaning.HasEnded ending) = Ended ending
status_in meaning.IsDead = Failed
status_in meaning.IsWrong = Failed

-- Returns the observable part of a state: the output so far and the unread input.
abbrev pub seen_of : State → Seen
seen_of s = showing (output_of s) (input_of s)

-- The machine of a source program with limits. The source machine has no code, so all its states have one code position.
abbrev pub source_machine : Program → (pages calls : ℕ) → Machine
source_machine source pages calls = record {
  State = State;
  Place = Unit {0};
  Step = λ old new. new ≡ limited_step source pages calls old;
  place = λ s. tt;
  seen = seen_of;
  status = λ s. status_in (status_of s);
}
