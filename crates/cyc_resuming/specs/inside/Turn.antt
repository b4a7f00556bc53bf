-- The contracts between the functions of this crate.
use Rattle.std.specs.Prelude.{◌≡◌, ℕ, [], ◌∷◌, Bool, false, Option, None, Some}
use Rattle.std.specs.Io.KnownBytes.{Keeps}
use Rattle.cyc_machine_model.specs.declared.event.Event.{Event}
use Rattle.cyc_machine_model.specs.declared.event.Event.TheVariants.{WantsByte, Puts}
use Rattle.cyc_machine_model.specs.declared.event.Event.TheVariants as events
use Rattle.cyc_machine_model.specs.declared.phase.Phase.TheVariants.{Running}
use Rattle.cyc_machine_model.specs.State.{State}
use Rattle.cyc_machine_model.specs.Step.{Step, WantsMemory}
use Rattle.cyc_machine.specs.declared.exchanged.Device.{Device}
use Rattle.cyc_machine.specs.declared.exchanged.Device.TheVariants.{Reader, Writer}
use Rattle.cyc_machine.specs.declared.exchanged.Exchanged.{Exchanged}
use Rattle.cyc_machine.specs.Between.{Traffic, RunsAhead, FailsAt}
use Rattle.cyc_emulator.specs.Engine.{Devices, Rests}
use Rattle.cyc_emulator.specs.inside.Turn.{WentOn}
use Rattle.cyc_resuming.specs.declared.pause.Standing.{Standing}
use Rattle.cyc_resuming.specs.declared.pause.Standing.TheVariants.{Ready, Wants, Prints, Ended}
use Rattle.cyc_resuming.specs.declared.pause.Pause.{Pause}
use Rattle.cyc_resuming.specs.declared.pause.Pause.TheVariants as pauses
use Rattle.cyc_resuming.specs.declared.pause.Slice.{Slice}
use Rattle.cyc_resuming.specs.Resuming.{Point, Resumes, StandsAs, is_no_byte, is_no_room, phase_at}

-- `Turns` describes the result of a turn (one instruction) from a state: `None` if the run continues, the run's end, or a device that
-- failed before the instruction was done. Then the run keeps the event.
abbrev pub Turns : State → (machine' : State) (stands' : Standing) (x x' : Exchanged) (old new : Devices) → Option Pause → Type 0
Turns here machine' stands' x x' old new None =
    (stands' ≡ Ready) × (event : Event) × (s : State) × Step here event s × WentOn event s machine' x x' old new
Turns here machine' stands' x x' old new (Some (pauses.Ended end)) = (stands' ≡ Ended end) × Step here (events.Ended end) machine' × (x' ≡ x) × Rests old new
Turns here machine' stands' x x' old new (Some pauses.NoByte) = (stands' ≡ Wants) × Step here WantsByte machine' × (x' ≡ x) × Rests old new
Turns here machine' stands' x x' old new (Some pauses.NoRoom) =
    (byte : ℕ) × (stands' ≡ Prints byte) × Step here (Puts byte) machine' × (x' ≡ x) × Rests old new
Turns here machine' stands' x x' old new (Some pause) = ⊥

-- `TurnsOver` describes the result of a turn, which may also be that the store lacks memory for the instruction.
abbrev pub TurnsOver : (grows : Bool) → State → (machine' : State) (stands' : Standing) (x x' : Exchanged) (old new : Devices) → Option Pause → Type 0
TurnsOver grows here machine' stands' x x' old new (Some pauses.NoMemory) =
    (stands' ≡ Ready) × (machine' ≡ here) × WantsMemory grows here × (x' ≡ x) × Rests old new
TurnsOver grows here machine' stands' x x' old new result = Turns here machine' stands' x x' old new result

abbrev pub has_no_byte : Option Pause → Bool
has_no_byte None = false
has_no_byte (Some pause) = is_no_byte pause

abbrev pub has_no_room : Option Pause → Bool
has_no_room None = false
has_no_room (Some pause) = is_no_room pause

-- Returns how many instructions the turn executed wholly in which a run paused: one if the run ended.
abbrev pub last_of : Pause → ℕ
last_of (pauses.Ended end) = 1
last_of pause = 0

-- Returns the reason for which a run pauses if this device failed.
abbrev pub pause_of : Device → Pause
pause_of Reader = pauses.NoByte
pause_of Writer = pauses.NoRoom

-- `GoesAhead` says that `count` instructions lead from a state to the one at which the run stands then, where a device may have failed.
pub record GoesAhead (count : ℕ) (failed : Option Device) (here : State) (before : Traffic) (stands' : Standing) (machine' : State) (after : Traffic) : Type 0 where
  pub there : State
  pub stands_as : StandsAs stands' machine' there
  pub runs : RunsAhead count here before there after
  pub fails : FailsAt failed there

-- `Advances` describes a call for a run that is not over.
abbrev pub Advances : (grows : Bool) → (old new : Point) → (budget : ℕ) → (before after : Devices) → Slice → Type 0
Advances grows old new budget before after slice = phase_at old.stands ≡ Running → Resumes grows old new budget before after slice
