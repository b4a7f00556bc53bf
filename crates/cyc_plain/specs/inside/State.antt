-- The state of a running plain program. Every value of a plain program is a machine word. Slots and globals are total functions from
-- indices to words; a well-formed program uses only the indices of existing slots and globals.
use Rattle.std.specs.Prelude.{ℕ, suc, ◌+◌, ◌-◌, ◌==◌, ◌&&◌, nat_le, nat_lt, List, length, if◌then◌else◌}
use Rattle.std.specs.List.{AllByRecursion}
use Rattle.cyc_words.specs.Word.{IsWord}
use Rattle.cyc_words.specs.Ending.{Ending}
use Rattle.cyc_words.specs.Seen.{Seen, showing}
use Rattle.cyc_words.specs.Simulation as simulation
use Rattle.cyc_store.specs.State as stores
use Rattle.cyc_store.specs.State.{StoreState}
use Rattle.cyc_plain.specs.inside.Program.{CodePlace}

-- A function from the indices of slots, or from the indices of globals, to machine words.
abbrev pub Words : Type 0
Words = ℕ → ℕ

abbrev pub put : Words → ℕ → ℕ → Words
put words number word = λ (other : ℕ). if other == number then word else words other

-- Returns the slots after `count` words from slot `source` on are copied to the slots from `destination` on.
abbrev pub copied : (from : Words) → (source count : ℕ) → (to : Words) → (destination : ℕ) → Words
copied from source count to destination = λ (number : ℕ).
    if nat_le destination number && nat_lt number (destination + count) then from (source + (number - destination)) else to number

abbrev pub AreWords : Words → Type 0
AreWords words = (number : ℕ) → IsWord (words number)

-- A handler of a call. An open handler has the index of the instruction that opened it, the first slot of its record, and the words
-- stored in the record. `Caught` is a handler that an exception has reached.
pub data Handler : Type 0 where
  Open : (index first : ℕ) → (contents : Words) → Handler
  Caught : Handler

-- An active call: its function, the index of the next instruction, the address of its first slot, the words of its slots, and its open
-- handlers, newest first.
pub record Activation : Type 0 where
  pub function : ℕ
  pub next : ℕ
  pub base : ℕ
  pub slots : Words
  pub handlers : List Handler

-- A waiting call, and the first of its slots that receive the callee's result.
pub record Frame : Type 0 where
  pub caller : Activation
  pub result : ℕ

-- A running configuration of the plain machine: the active call, the waiting calls, newest first, and the globals, store,
-- output and input that all calls share.
pub record Configuration : Type 0 where
  pub active : Activation
  pub frames : List Frame
  pub globals : Words
  pub store : StoreState
  pub output : List ℕ
  pub input : List ℕ

-- A state of a plain program: running, ended, or stuck.
pub data State : Type 0 where
  Running : Configuration → State
  Ended : Ending → (output input : List ℕ) → State
  Stuck : (output input : List ℕ) → State

-- Returns the output of a state so far.
abbrev pub output_of : State → List ℕ
output_of (Running c) = c.output
output_of (Ended ending output input) = output
output_of (Stuck output input) = output

abbrev pub input_of : State → List ℕ
input_of (Running c) = c.input
input_of (Ended ending output input) = input
input_of (Stuck output input) = input

abbrev pub seen_of : State → Seen
seen_of s = showing (output_of s) (input_of s)

abbrev pub status_of : State → simulation.Status
status_of (Running c) = simulation.Running
status_of (Ended ending output input) = simulation.Ended ending
status_of (Stuck output input) = simulation.Failed

-- Returns the code position of the next instruction, or of the first one in function 0 if the run has ended.
abbrev pub place_of : State → CodePlace
place_of (Running c) = record { function = c.active.function; index = c.active.next }
place_of (Ended ending output input) = record { function = 0; index = 0 }
place_of (Stuck output input) = record { function = 0; index = 0 }

-- Returns the number of pages that the store's blocks require.
abbrev pub demand : State → ℕ
demand (Running c) = stores.demand c.store
demand (Ended ending output input) = 0
demand (Stuck output input) = 0

abbrev pub depth : State → ℕ
depth (Running c) = suc (length c.frames)
depth (Ended ending output input) = 0
depth (Stuck output input) = 0

-- `HoldsWords` says that all values in the slots, the globals, the store and the input of a state fit in machine words.
abbrev pub HoldsWords : State → Type 0
HoldsWords (Running c) =
    AreWords c.active.slots
    × AllByRecursion (λ f. AreWords f.caller.slots) c.frames
    × AreWords c.globals
    × stores.AreWords c.store.memory
    × AllByRecursion IsWord c.input
HoldsWords (Ended ending output input) = Unit {0}
HoldsWords (Stuck output input) = Unit {0}
