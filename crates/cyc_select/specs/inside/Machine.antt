-- The labelled machine defines the meaning of labelled code: it is the MIPS machine without program counter and delay slots. A MIPS line
-- is executed as a whole, and a return looks up the line whose address is the return address. An ordinary instruction has the effect of
-- the MIPS machine's own step.
use Rattle.std.specs.Prelude.{◌≡◌, ◌≢◌, ℕ, ◌+◌, ◌-◌, ◌*◌, ◌⊎◌, Bool, true, false, if◌then◌else◌, List, [], ◌++◌, length, replicate, Option, Some, None, slice_get, slice_set}
use Rattle.cyc_words.specs.Ending.{Ending}
use Rattle.cyc_isa.specs.Effect.{branch_taken, branch_zero_taken}
use Rattle.cyc_isa.specs.declared.instr.Instr.{Instr}
use Rattle.cyc_store.specs.State.{StoreState}
use Rattle.cyc_machine_model.specs.declared.constants.TheConstants.{ARGUMENT, RETURN_ADDRESS, STACK_POINTER}
use Rattle.cyc_machine_model.specs.State as machines
use Rattle.cyc_machine_model.specs.State.{register, with_register, globals_length, words_per_call, stack_end}
use Rattle.cyc_machine_model.specs.Step.{Acts, executes}
use Rattle.cyc_machine_model.specs.Run.{World, reported, ending_of}
use Rattle.cyc_machine_model.specs.declared.event.Event.{Event}
use Rattle.cyc_machine_model.specs.declared.phase.Phase.{Phase}
use Rattle.cyc_machine_model.specs.declared.phase.Phase.TheVariants as phases
use Rattle.cyc_words.specs.Seen.{Seen, showing}
use Rattle.cyc_words.specs.Simulation as simulation
use Rattle.cyc_select.specs.inside.Labelled.{Labelled, is_ordinary, IsReturnPoint}
use Rattle.cyc_select.specs.declared.code.Condition.{Condition}
use Rattle.cyc_select.specs.declared.code.Condition.TheVariants as conditions
use Rattle.cyc_select.specs.declared.code.Line.{Line}
use Rattle.cyc_select.specs.declared.code.Line.TheVariants as lines

-- A running configuration of the labelled machine: the registers, HI and LO, the words of the data range and the stack, the store, the
-- output, the remaining input, and the next line.
pub record Configuration : Type 0 where
  pub registers : List ℕ
  pub high : ℕ
  pub low : ℕ
  pub globals : List ℕ
  pub stack : List ℕ
  pub store : StoreState
  pub output : List ℕ
  pub input : List ℕ
  pub line : ℕ

-- A state of the labelled machine is running, ended, or stopped by a trap or a missing line.
pub data State : Type 0 where
  Running : Configuration → State
  Ended : Ending → (output input : List ℕ) → State
  Stopped : (output input : List ℕ) → State

-- Returns the core of a MIPS machine with the registers of the labelled machine. Since the MIPS machine here has no text, it loads no
-- word of text, and its program counter has no meaning.
abbrev pub core_of : Configuration → machines.Core
core_of c =
    record { registers = c.registers; high = c.high; low = c.low; counter = 0; next = 4; in_slot = false }

abbrev pub memory_of : Configuration → machines.Memory
memory_of c = record { text = []; globals = c.globals; stack = c.stack; store = c.store }

abbrev pub machine_of : Configuration → machines.State
machine_of c = record { core = core_of c; memory = memory_of c; phase = phases.Running }

abbrev pub world_of : Configuration → World
world_of c = record { machine = machine_of c; output = c.output; input = c.input }

-- Returns the configuration with a MIPS machine's registers and memory, in which the given line comes next.
abbrev pub from_world : World → ℕ → Configuration
from_world w line =
    record {
      registers = w.machine.core.registers;
      high = w.machine.core.high;
      low = w.machine.core.low;
      globals = w.machine.memory.globals;
      stack = w.machine.memory.stack;
      store = w.machine.memory.store;
      output = w.output;
      input = w.input;
      line = line;
    }

-- Returns the labelled state of a finished run: ended with the program's ending, or stopped if it has none.
abbrev pub closed : World → Option Ending → State
closed w (Some ending) = Ended ending w.output w.input
closed w None = Stopped w.output w.input

-- Returns the labelled state that corresponds to a state of the MIPS machine with its input and output. If the machine is running, `line`
-- is the next line.
abbrev pub settled : World → (line : ℕ) → Phase → State
settled w line phases.Running = Running (from_world w line)
settled w line phases.Waiting = Stopped w.output w.input
settled w line (phases.Over end) = closed w (ending_of end)

-- `Performs` says that the MIPS machine can execute an ordinary instruction and then reach this labelled state.
abbrev pub Performs : Configuration → Instr → State → Type 0
Performs c instruction new =
    (event : Event) × (after : machines.State) × Acts (executes (machine_of c) instruction) (machine_of c) event after
    × (new ≡ settled (reported (world_of c) event after) (c.line + 1) (reported (world_of c) event after).machine.phase)

abbrev pub PerformsOrdinary : Bool → Configuration → Instr → State → Type 0
PerformsOrdinary true c instruction new = Performs c instruction new
PerformsOrdinary false c instruction new = new ≡ Stopped c.output c.input

-- Returns the word in a register.
abbrev pub word_in : Configuration → ℕ → ℕ
word_in c number = register (core_of c) number

-- Returns a configuration that has `line` as the number of its next line and otherwise equals the given configuration.
abbrev pub at : Configuration → ℕ → Configuration
at c line = record c { line = line }

-- Returns the configuration with the address of the line after the current one in register 31.
abbrev pub linked : (ℕ → ℕ) → Configuration → Configuration
linked addresses c = record c { registers = (with_register (core_of c) RETURN_ADDRESS (addresses (c.line + 1))).registers }

-- `Returns` says that a return goes to the line after a call whose address is in register 31, and stops the run if no line after a call
-- has this address.
abbrev pub Returns : Labelled → (ℕ → ℕ) → Configuration → State → Type 0
Returns code addresses c new =
    ((line : ℕ) × IsReturnPoint code line × (addresses line ≡ word_in c RETURN_ADDRESS) × (new ≡ Running (at c line)))
    ⊎ (((line : ℕ) → IsReturnPoint code line → addresses line ≢ word_in c RETURN_ADDRESS) × (new ≡ Stopped c.output c.input))

-- Returns true if a branch condition holds for these register values.
abbrev pub holds_of : (ℕ → ℕ) → Condition → Bool
holds_of words (conditions.Registers op left right) = branch_taken op (words left.number) (words right.number)
holds_of words (conditions.Sign op source) = branch_zero_taken op (words source.number)

-- `Executes` says that executing a line may lead to the state `new`.
abbrev pub Executes : Labelled → (ℕ → ℕ) → Configuration → Line → State → Type 0
Executes code addresses c (lines.Ordinary instruction) new = PerformsOrdinary (is_ordinary instruction) c instruction new
Executes code addresses c (lines.Branch condition label) new =
    new ≡ Running (at c (if holds_of (word_in c) condition then label else c.line + 1))
Executes code addresses c (lines.Jump label) new = new ≡ Running (at c label)
Executes code addresses c (lines.Call label) new = new ≡ Running (at (linked addresses c) label)
Executes code addresses c lines.Return new = Returns code addresses c new

abbrev pub ExecutesAt : Labelled → (ℕ → ℕ) → Configuration → Option Line → State → Type 0
ExecutesAt code addresses c (Some line) new = Executes code addresses c line new
ExecutesAt code addresses c None new = new ≡ Stopped c.output c.input

-- `Step` says that the labelled machine may step from `old` to `new`. A finished run steps to its own state.
abbrev pub Step : Labelled → (ℕ → ℕ) → State → State → Type 0
Step code addresses (Running c) new = ExecutesAt code addresses c (slice_get code.lines c.line) new
Step code addresses (Ended ending output input) new = new ≡ Ended ending output input
Step code addresses (Stopped output input) new = new ≡ Stopped output input

-- Returns the number of the next line of a state, or 0 if the run is over.
abbrev pub line_of : State → ℕ
line_of (Running c) = c.line
line_of (Ended ending output input) = 0
line_of (Stopped output input) = 0

abbrev pub output_of : State → List ℕ
output_of (Running c) = c.output
output_of (Ended ending output input) = output
output_of (Stopped output input) = output

abbrev pub input_of : State → List ℕ
input_of (Running c) = c.input
input_of (Ended ending output input) = input
input_of (Stopped output input) = input

abbrev pub seen_of : State → Seen
seen_of s = showing (output_of s) (input_of s)

abbrev pub status_of : State → simulation.Status
status_of (Running c) = simulation.Running
status_of (Ended ending output input) = simulation.Ended ending
status_of (Stopped output input) = simulation.Failed

-- Returns the transition system of labelled code whose lines have these addresses.
abbrev pub machine : Labelled → (ℕ → ℕ) → simulation.Machine
machine code addresses = record {
  State = State;
  Place = ℕ;
  Step = Step code addresses;
  place = line_of;
  seen = seen_of;
  status = status_of;
}

-- Returns the initial state. As on the MIPS machine, register 29 points to the end of the stack, register 4 holds the call limit, and
-- the data range begins with the globals.

abbrev pub start_in : (globals stack : List ℕ) → StoreState → (calls : ℕ) → (input : List ℕ) → State
start_in globals stack store calls input =
    Running (record {
      registers = slice_set (slice_set (replicate 32 0) ARGUMENT calls) STACK_POINTER stack_end;
      high = 0;
      low = 0;
      globals = globals;
      stack = stack;
      store = store;
      output = [];
      input = input;
      line = 0;
    })

-- Returns the words of the data range: the globals, followed by zeros. The definition is not an `abbrev`, since
-- unfolding it would compute a million words.
unfoldable pub globals_of : List ℕ → List ℕ
globals_of globals = globals ++ replicate (globals_length - length globals) 0

abbrev pub start : Labelled → StoreState → (calls : ℕ) → (input : List ℕ) → State
start code store calls input = start_in (globals_of code.globals) (replicate (words_per_call * calls) 0) store calls input
