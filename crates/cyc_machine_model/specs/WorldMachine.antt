-- The MIPS32 machine as a transition system whose states are worlds (machine, output and remaining input). The definition of this
-- transition system is this project's own choice.
use Rattle.std.specs.Prelude.{ℕ, Option, Some, None}
use Rattle.cyc_words.specs.Ending.{Ending}
use Rattle.cyc_words.specs.Seen.{Seen, showing}
use Rattle.cyc_words.specs.Simulation.{Machine, Status, Running, Ended, Failed}
use Rattle.cyc_machine_model.specs.Run.{World, Goes, ending_of}
use Rattle.cyc_machine_model.specs.declared.phase.Phase.{Phase}
use Rattle.cyc_machine_model.specs.declared.phase.Phase.TheVariants as phases

-- Returns the status of a run that has ended: a trap is a failure, not the end of a program.
abbrev pub status_at : Option Ending → Status
status_at (Some ending) = Ended ending
status_at None = Failed

-- Returns the status of a machine in this phase. A machine that waits for a byte is running, since it receives a byte at once.
abbrev pub status_in : Phase → Status
status_in phases.Running = Running
status_in phases.Waiting = Running
status_in (phases.Over end) = status_at (ending_of end)

-- Returns the output of a run so far, and its remaining input.
abbrev pub seen_of : World → Seen
seen_of w = showing w.output w.input

-- The transition system of the machine with its input and output. The code position of a state is the address of the next instruction.
abbrev pub world_machine : Machine
world_machine = record {
  State = World;
  Place = ℕ;
  Step = Goes;
  place = λ w. w.machine.core.counter;
  seen = seen_of;
  status = λ w. status_in w.machine.phase;
}
