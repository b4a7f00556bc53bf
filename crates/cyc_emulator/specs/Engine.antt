-- The meaning of running an image between a reader and a writer, which is this project's own choice.
use Rattle.std.specs.Prelude.{◌≡◌, ℕ, zero, suc, ◌+◌, ◌-◌, ◌*◌, ◌/◌, ◌≤◌, ◌<◌, ◌==◌, max, length, IfSome, if◌then◌else◌, Bool, List, Option, None, Some, Result, Ok, Err, MatchBool, ◌⊎◌}
use Rattle.std.specs.Io.KnownBytes.{Keeps, Appends}
use Rattle.cyc_store.specs.State.{StoreState, demand, IsNew}
use Rattle.cyc_elf.specs.declared.fault.ElfFault.{ElfFault}
use Rattle.cyc_elf.specs.Image.{ImageContents}
use Rattle.cyc_machine.specs.declared.fault.LoadFault.TheVariants as load
use Rattle.cyc_machine_model.specs.declared.constants.TheConstants.{END_FULL, SERVICE, STACK_POINTER}
use Rattle.cyc_machine_model.specs.declared.event.End.TheVariants as ends
use Rattle.cyc_machine_model.specs.declared.event.Event.TheVariants.{WantsByte, Puts}
use Rattle.cyc_machine_model.specs.Bounds.{Bounds}
use Rattle.cyc_machine_model.specs.State.{Core, State, register, stack_end, words_per_call}
use Rattle.cyc_machine_model.specs.Step.{Step, WantsMemory}
use Rattle.cyc_machine_model.specs.Run.{World, Goes, Run, end_of}
use Rattle.cyc_machine_model.specs.Start.{has_outside, start_world}
use Rattle.cyc_emulator.specs.declared.report.Limit.{Limit}
use Rattle.cyc_emulator.specs.declared.report.Limit.TheVariants.{Calls, Pages}
use Rattle.cyc_emulator.specs.declared.report.Peaks.{Peaks}
use Rattle.cyc_emulator.specs.declared.report.Report.{Report}
use Rattle.cyc_emulator.specs.declared.report.Stop.{Stop}
use Rattle.cyc_emulator.specs.declared.report.Stop.TheVariants as stops
use Rattle.cyc_emulator.specs.declared.report.RunFault.{RunFault}
use Rattle.cyc_emulator.specs.declared.report.RunFault.TheVariants.{Elf, Load, Read, Write, Memory}

-- The observable state of the devices: the bytes that the reader still has, and the bytes that the writer has written.
pub record Devices : Type 0 where
  pub remaining : Option (List ℕ)
  pub written : Option (List ℕ)

-- `Rests` says that neither the reader nor the writer was used.
abbrev pub Rests : Devices → Devices → Type 0
Rests old new = Keeps old.remaining new.remaining × Keeps old.written new.written

-- `Tells` says that a reader whose bytes are known has exactly these bytes.
abbrev pub Tells : Option (List ℕ) → List ℕ → Type 0
Tells None bytes = Unit {0}
Tells (Some reported) bytes = reported ≡ bytes

-- `Leaves` says that a reader whose bytes were known still has exactly these bytes.
abbrev pub Leaves : Option (List ℕ) → Option (List ℕ) → List ℕ → Type 0
Leaves None new rest = Unit {0}
Leaves (Some reported) None rest = ⊥
Leaves (Some reported) (Some left) rest = left ≡ rest

-- `Counted` says that `count` instructions lead from one state of machine and devices to another, none of them executed after the end of
-- the run.
abbrev pub Counted : ℕ → World → World → Type 0
Counted zero old new = new ≡ old
Counted (suc count) old new = (mid : World) × Run count old mid × (end_of mid ≡ None) × Goes mid new

-- Returns the number of active calls, for programs of this project's compiler. Each call has a frame of 256 words, the first just below
-- the end of the stack. The stack pointer is the address of the last frame.
abbrev pub calls_at : Core → ℕ
calls_at core = (stack_end - register core STACK_POINTER) / (4 * words_per_call)

-- Returns the number of active calls, and the number of pages that the store's blocks require.
abbrev pub uses_at : State → Peaks
uses_at s = record { calls = calls_at s.core; pages = demand s.memory.store }

abbrev pub uses_in : World → Peaks
uses_in w = uses_at w.machine

-- Returns the maximum of two peaks, separately for calls and for pages.
abbrev pub higher : Peaks → Peaks → Peaks
higher p q = record { calls = max p.calls q.calls; pages = max p.pages q.pages }

-- `HasPeaks` says that `count` instructions lead from one state of machine and devices to another. `most` is the maximum of the calls
-- and the pages in use over all states on the way, including the first and the last.
abbrev pub HasPeaks : ℕ → World → World → (most : Peaks) → Type 0
HasPeaks zero old new most = (new ≡ old) × (most ≡ uses_in old)
HasPeaks (suc count) old new most =
    (mid : World) × (before : Peaks) × HasPeaks count old mid before × (end_of mid ≡ None) × Goes mid new × (most ≡ higher before (uses_in new))

-- `Executes` says that `count` instructions were executed, on an input that begins with the reader's known bytes. The output of the
-- executed instructions was written, and exactly the bytes that they requested were read.
pub record Executes (start : List ℕ → World) (old new : Devices) (count : ℕ) (w : World) : Type 0 where
  pub input : List ℕ
  pub reported : Tells old.remaining input
  pub counted : Counted count (start input) w
  pub unread : Leaves old.remaining new.remaining w.input
  pub written : Appends old.written new.written w.output

-- `Stops` says that the run stopped in this way: at its end, or because the budget of instructions was used up.
abbrev pub Stops : Stop → (budget count : ℕ) → World → Type 0
Stops (stops.End end) budget count w = end_of w ≡ Some end
Stops stops.Spent budget count w = (end_of w ≡ None) × (count ≡ budget)

-- Returns the limit (on calls or on pages) that a run reached when it ended with `Full`, determined by the last system call. `EndFull`
-- means that the stack had no space for a call. Any other system call is one of the store, and means that the store had too few pages.
abbrev pub limit_at : Stop → Core → Option Limit
limit_at (stops.End ends.Full) core = if register core SERVICE == END_FULL then Some Calls else Some Pages
limit_at stop core = None

-- `StandsAt` says that the instruction address and the limit reached, as a report states them, are right for this state of the machine.
abbrev pub StandsAt : Report → World → Type 0
StandsAt report w = (report.counter ≡ w.machine.core.counter) × (report.limit ≡ limit_at report.stop w.machine.core)

-- `IsReported` says that a report is right for a run from this start state. The report contains the number of executed instructions,
-- which is at most the budget, and how and where the run stopped. The report also contains the numbers of bytes read and printed and,
-- if they were counted, the maximal numbers of active calls and used pages. All fields of the report describe the same run.
pub record IsReported (start : List ℕ → World) (budget : ℕ) (old new : Devices) (report : Report) : Type 0 where
  pub world : World
  pub executes : Executes start old new report.count world
  pub few : report.count ≤ budget
  pub stops : Stops report.stop budget report.count world
  pub stands : StandsAt report world
  pub read : report.read + length world.input ≡ length executes.input
  pub printed : report.written ≡ length world.output
  pub peaks : IfSome report.peaks (HasPeaks report.count (start executes.input) world)

-- `WantsByteNext` says that the next instruction requests a byte.
abbrev pub WantsByteNext : World → Type 0
WantsByteNext w = (s : State) × Step w.machine WantsByte s

abbrev pub PrintsNext : World → Type 0
PrintsNext w = (byte : ℕ) × (s : State) × Step w.machine (Puts byte) s

-- `Runs` describes the result of a run from this start state, over a store that grows or not. If a device failed, or the store lacked
-- memory, the instruction that needed it was not executed.
abbrev pub Runs : (grows : Bool) (start : List ℕ → World) (budget : ℕ) (old new : Devices) → Result Report RunFault → Type 0
Runs grows start budget old new (Ok report) = IsReported start budget old new report
Runs grows start budget old new (Err Read) =
    (count : ℕ) × (w : World) × Executes start old new count w × (count < budget) × (end_of w ≡ None) × WantsByteNext w
Runs grows start budget old new (Err Write) =
    (count : ℕ) × (w : World) × Executes start old new count w × (count < budget) × (end_of w ≡ None) × PrintsNext w
Runs grows start budget old new (Err Memory) =
    (count : ℕ) × (w : World) × Executes start old new count w × (count < budget) × (end_of w ≡ None) × WantsMemory grows w.machine
Runs grows start budget old new (Err e) = ⊥

-- `Refuses` says that the result of running an image is this fault or lack of memory, before any byte is read or written.
abbrev pub Refuses : RunFault → (old new : Devices) → Result Report RunFault → Type 0
Refuses fault old new result = ((result ≡ Err fault) ⊎ (result ≡ Err Memory)) × Rests old new

-- `Starts` describes the result of running a loaded image: lack of memory before any byte is read or written, or the result of the run.
abbrev pub Starts : (grows : Bool) (start : List ℕ → World) (budget : ℕ) (old new : Devices) → Result Report RunFault → Type 0
Starts grows start budget old new result = ((result ≡ Err Memory) × Rests old new) ⊎ Runs grows start budget old new result

-- `Answers` describes the result of running an image over this store, where `read` is the meaning of the image's bytes. The result is
-- the fault of reading the image, that of an image outside the machine's memory, or the result of the run.
abbrev pub Answers : (grows : Bool) → StoreState → Result ImageContents ElfFault → Bounds → (budget : ℕ) (old new : Devices) → Result Report RunFault → Type 0
Answers grows store (Err f) limits budget old new result = Refuses (Elf f) old new result
Answers grows store (Ok image) limits budget old new result =
    MatchBool (has_outside image)
    (Refuses (Load load.Outside) old new result)
    (Starts grows (start_world image limits store) budget old new result)

-- `AnswersAnew` describes the result of running an image over a new store, which has as many pages as the limits allow.
abbrev pub AnswersAnew : (grows : Bool) → Result ImageContents ElfFault → Bounds → (budget : ℕ) (old new : Devices) → Result Report RunFault → Type 0
AnswersAnew grows read limits budget old new result = (store : StoreState) × IsNew limits.pages store × Answers grows store read limits budget old new result
