-- This file is about runs of the machine that request no byte after the end of their input, up to the first request beyond it. The
-- output and the remaining input do not show if a run requests a byte beyond its input. These definitions are this project's own choice.
use Rattle.std.specs.Prelude.{◌≡◌, ◌≢◌, ℕ, zero, suc, []}
use Rattle.cyc_machine_model.specs.declared.event.Event.{Event}
use Rattle.cyc_machine_model.specs.declared.event.Event.TheVariants.{WantsByte}
use Rattle.cyc_machine_model.specs.State.{State}
use Rattle.cyc_machine_model.specs.Step.{Step}
use Rattle.cyc_machine_model.specs.Run.{World, reported}

-- Says that the machine executes one instruction, which requests no byte if the input is empty.
abbrev pub GoesWithin : World → World → Type 0
GoesWithin old new =
    (event : Event) × (s : State) × Step old.machine event s × (new ≡ reported old event s) × (event ≡ WantsByte → old.input ≢ [])

abbrev pub RunWithin : ℕ → World → World → Type 0
RunWithin zero old new = new ≡ old
RunWithin (suc count) old new = (mid : World) × GoesWithin old mid × RunWithin count mid new

-- Says that all input is read, and that the next instruction may request a byte.
abbrev pub AsksAtTheEnd : World → Type 0
AsksAtTheEnd w = (w.input ≡ []) × ((s : State) × Step w.machine WantsByte s)
