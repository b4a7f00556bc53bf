-- The meaning of a run that is continued from call to call, which is this project's own choice.
use Rattle.std.specs.Prelude.{◌≡◌, ℕ, ◌<◌, ◌≤◌, Bool, true, false, List, [], ◌++◌, length, Result, Ok, Err, ◌⊎◌}
use Rattle.std.specs.Io.KnownBytes.{Consumes, Appends}
use Rattle.cyc_elf.specs.declared.fault.ElfFault.{ElfFault}
use Rattle.cyc_elf.specs.Image.{ImageContents}
use Rattle.cyc_store.specs.State.{StoreState}
use Rattle.cyc_machine_model.specs.declared.event.Event.TheVariants.{WantsByte, Puts}
use Rattle.cyc_machine_model.specs.declared.phase.Phase.{Phase}
use Rattle.cyc_machine_model.specs.declared.phase.Phase.TheVariants as phases
use Rattle.cyc_machine_model.specs.Bounds.{Bounds}
use Rattle.cyc_machine_model.specs.State.{State}
use Rattle.cyc_machine_model.specs.Step.{Step, WantsMemory}
use Rattle.cyc_machine.specs.Held.{state_of}
use Rattle.cyc_emulator.specs.Engine.{Devices, Leaves, Counted}
use Rattle.cyc_machine_model.specs.Start.{has_outside, start_state}
use Rattle.cyc_machine.specs.declared.fault.LoadFault.TheVariants as load
use Rattle.cyc_emulator.specs.declared.report.RunFault.{RunFault}
use Rattle.cyc_emulator.specs.declared.report.RunFault.TheVariants.{Elf, Load, Memory}
use Rattle.cyc_resuming.specs.declared.pause.Standing.{Standing}
use Rattle.cyc_resuming.specs.declared.pause.Standing.TheVariants.{Ready, Wants, Prints, Ended}
use Rattle.cyc_resuming.specs.declared.pause.Pause.{Pause}
use Rattle.cyc_resuming.specs.declared.pause.Pause.TheVariants as pauses
use Rattle.cyc_resuming.specs.declared.pause.Slice.{Slice}
use Rattle.cyc_resuming.specs.declared.resuming.Paused.{Paused}

-- A run between two calls: the machine, how the run stands, and whether it has seen the end of its input.
pub record Point : Type 0 where
  pub machine : State
  pub stands : Standing
  pub saw_end : Bool

abbrev pub point_of : {S : Type 0} → (held : S → StoreState) → Paused S → Point
point_of held run = record { machine = state_of held run.machine; stands = run.stands; saw_end = run.saw_end }

-- Returns a run at a state of the machine, which has answered all events and has not seen the end of its input.
abbrev pub at_state : State → Point
at_state machine = record { machine = machine; stands = Ready; saw_end = false }

-- `Opens` says that a run is at the initial state of the image that was read.
abbrev pub Opens : Result ImageContents ElfFault → Bounds → StoreState → Point → Type 0
Opens (Err fault) limits store point = ⊥
Opens (Ok image) limits store point = (has_outside image ≡ false) × (point ≡ at_state (start_state image limits store))

-- `Declines` says why there is no run of an image: a fault in the image file, a segment outside the machine's memory, or lack of memory.
abbrev pub Declines : Result ImageContents ElfFault → RunFault → Type 0
Declines (Err fault) why = (why ≡ Elf fault) ⊎ (why ≡ Memory)
Declines (Ok image) why = ((has_outside image ≡ true) × (why ≡ Load load.Outside)) ⊎ (why ≡ Memory)

-- `StandsAs` relates a machine, and how its run stands, to the state after the last instruction that was executed wholly.
abbrev pub StandsAs : Standing → State → (at : State) → Type 0
StandsAs Ready machine at = machine ≡ at
StandsAs Wants machine at = Step at WantsByte machine
StandsAs (Prints byte) machine at = Step at (Puts byte) machine
StandsAs (Ended end) machine at = machine ≡ at

-- Returns the phase of the machine in the state at which a run stands.
abbrev pub phase_at : Standing → Phase
phase_at (Ended end) = phases.Over end
phase_at stands = phases.Running

-- `StandsAt` says at which state of the machine a run stands. It is the state after the last instruction that was executed wholly: if the
-- last one requested a byte that is not received yet, or printed one that is not written yet, it is the state before that instruction.
abbrev pub StandsAt : Point → State → Type 0
StandsAt point at = StandsAs point.stands point.machine at × (at.phase ≡ phase_at point.stands)

-- `IsPart` says that `count` instructions lead from one state of the machine to another, and that they read and print these bytes, whatever
-- input follows. If the end of the input was seen, none follows.
abbrev pub IsPart : ℕ → State → (read printed : List ℕ) → (saw_end : Bool) → State → Type 0
IsPart count old read printed saw_end new =
    (rest : List ℕ) → (saw_end ≡ true → rest ≡ [])
    → Counted count (record { machine = old; output = []; input = read ++ rest }) (record { machine = new; output = printed; input = rest })

-- `Pauses` says why a call returned, at this state of the machine. If a device failed, or the store lacked memory, the instruction that
-- needed it was not executed.
abbrev pub Pauses : (grows : Bool) → Pause → Standing → State → (count budget : ℕ) → Type 0
Pauses grows (pauses.Ended end) stands at count budget = stands ≡ Ended end
Pauses grows pauses.Spent stands at count budget = (at.phase ≡ phases.Running) × (count ≡ budget)
Pauses grows pauses.NoByte stands at count budget = (at.phase ≡ phases.Running) × (count < budget) × (s : State) × Step at WantsByte s
Pauses grows pauses.NoRoom stands at count budget =
    (at.phase ≡ phases.Running) × (count < budget) × (byte : ℕ) × (s : State) × Step at (Puts byte) s
Pauses grows pauses.NoMemory stands at count budget = (count < budget) × WantsMemory grows at

-- `ResumesAt` describes a call for a run that stands at this state of the machine.
pub record ResumesAt (grows : Bool) (old new : Point) (budget : ℕ) (before after : Devices) (slice : Slice) (at : State) : Type 0 where
  -- the state at which the run stands after the call
  pub now : State
  pub stands : StandsAt new now
  -- the bytes that the reader gave, and those that the writer took
  pub read : List ℕ
  pub printed : List ℕ
  pub consumed : Consumes before.remaining after.remaining read
  pub written : Appends before.written after.written printed
  pub part : IsPart slice.count at read printed new.saw_end now
  pub few : slice.count ≤ budget
  pub reads : slice.read ≡ length read
  pub prints : slice.written ≡ length printed
  pub pauses : Pauses grows slice.pause new.stands now slice.count budget
  -- Once the run has seen the end of its input, it reads nothing more.
  pub after_end : old.saw_end ≡ true → (read ≡ []) × (new.saw_end ≡ true)
  -- If the run saw the end of its input in this call, the reader has nothing left.
  pub at_end : old.saw_end ≡ false → new.saw_end ≡ true → Leaves before.remaining after.remaining []

-- `Resumes` describes a call, at whatever state the run stands.
abbrev pub Resumes : (grows : Bool) → (old new : Point) → (budget : ℕ) → (before after : Devices) → Slice → Type 0
Resumes grows old new budget before after slice = (at : State) → StandsAt old at → ResumesAt grows old new budget before after slice at

abbrev pub is_no_byte : Pause → Bool
is_no_byte pauses.NoByte = true
is_no_byte pause = false

abbrev pub is_no_room : Pause → Bool
is_no_room pauses.NoRoom = true
is_no_room pause = false
