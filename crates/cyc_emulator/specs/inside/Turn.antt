-- One turn of the engine: the machine executes one instruction between a reader and a writer, as the code does it.
use Rattle.std.specs.Prelude.{◌≡◌, ℕ, ◌+◌, [], ◌∷◌, Bool, Option, None, Some, Result, Ok, Err}
use Rattle.std.specs.Io.KnownBytes.{Keeps, Appends}
use Rattle.cyc_machine.specs.Between.{Asked, after_byte}
use Rattle.cyc_machine_model.specs.declared.event.End.{End}
use Rattle.cyc_machine_model.specs.declared.event.Event.{Event}
use Rattle.cyc_machine_model.specs.declared.event.Event.TheVariants.{Ran, WantsByte, Puts, Ended, NoMemory}
use Rattle.cyc_machine.specs.declared.exchanged.Exchanged.{Exchanged}
use Rattle.cyc_machine_model.specs.State.{State}
use Rattle.cyc_machine_model.specs.Step.{Step, WantsMemory, given}
use Rattle.cyc_emulator.specs.Engine.{Devices, Rests, higher, uses_at}
use Rattle.cyc_emulator.specs.declared.report.Peaks.{Peaks}
use Rattle.cyc_emulator.specs.declared.report.RunFault.{RunFault}
use Rattle.cyc_emulator.specs.declared.report.RunFault.TheVariants.{Read, Write, Memory}

-- `WentOn` says that an instruction reported this event, such as a requested byte, and reached this state. `WentOn`
-- also describes the exchange of bytes with the devices that follows, with the byte counts before and after it.
abbrev pub WentOn : Event → State → (machine : State) (x x' : Exchanged) (old new : Devices) → Type 0
WentOn Ran s machine x x' old new = (machine ≡ s) × (x' ≡ x) × Rests old new
WentOn WantsByte s machine x x' old new =
    (byte : Option ℕ) × (machine ≡ given s byte) × (x' ≡ after_byte x byte) × Asked x.ended byte old.remaining new.remaining × Keeps old.written new.written
WentOn (Puts byte) s machine x x' old new =
    (machine ≡ s) × (x' ≡ record x { written = x.written + 1 }) × Keeps old.remaining new.remaining × Appends old.written new.written (byte ∷ [])
WentOn (Ended end) s machine x x' old new = ⊥
WentOn NoMemory s machine x x' old new = ⊥

-- `Turned` describes the result of a turn (one instruction): `None` if the run continues, the run's end, or the
-- fault of a device that failed before the instruction was done.
abbrev pub Turned : (machine machine' : State) (x x' : Exchanged) (old new : Devices) → Result (Option End) RunFault → Type 0
Turned machine machine' x x' old new (Ok None) =
    (event : Event) × (s : State) × Step machine event s × WentOn event s machine' x x' old new
Turned machine machine' x x' old new (Ok (Some end)) = Step machine (Ended end) machine' × (x' ≡ x) × Rests old new
Turned machine machine' x x' old new (Err Read) = (s : State) × Step machine WantsByte s × Rests old new
Turned machine machine' x x' old new (Err Write) = (byte : ℕ) × (s : State) × Step machine (Puts byte) s × Rests old new
Turned machine machine' x x' old new (Err e) = ⊥

-- `TurnedOver` describes the result of a turn, which executes one instruction. The result may also be
-- that the store lacked memory before the instruction was done.
abbrev pub TurnedOver : (grows : Bool) (machine machine' : State) (x x' : Exchanged) (old new : Devices) → Result (Option End) RunFault → Type 0
TurnedOver grows machine machine' x x' old new (Err Memory) = WantsMemory grows machine × Rests old new
TurnedOver grows machine machine' x x' old new result = Turned machine machine' x x' old new result

-- Returns the maximal numbers of active calls and used pages after one more instruction; returns `None` if they are not counted.
abbrev pub counted_at : Option Peaks → State → Option Peaks
counted_at None s = None
counted_at (Some most) s = Some (higher most (uses_at s))
