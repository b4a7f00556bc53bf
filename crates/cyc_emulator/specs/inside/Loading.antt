-- The results of loading an image into the machine with a store (the heap of regions).
use Rattle.std.specs.Prelude.{◌≡◌, ◌⊎◌, true, false, Result, Ok, Err}
use Rattle.cyc_store.specs.State.{StoreState}
use Rattle.cyc_elf.specs.declared.fault.ElfFault.{ElfFault}
use Rattle.cyc_elf.specs.Image.{ImageContents}
use Rattle.cyc_machine_model.specs.Bounds.{Bounds}
use Rattle.cyc_machine_model.specs.State.{State}
use Rattle.cyc_machine_model.specs.Start.{has_outside, start_state}
use Rattle.cyc_machine.specs.declared.fault.LoadFault.TheVariants as load
use Rattle.cyc_emulator.specs.declared.report.RunFault.{RunFault}
use Rattle.cyc_emulator.specs.declared.report.RunFault.TheVariants.{Elf, Load, Memory}

-- `Loads` says that the machine is in the initial state of the image that was read.
abbrev pub Loads : Result ImageContents ElfFault → Bounds → StoreState → State → Type 0
Loads (Err fault) limits store machine = ⊥
Loads (Ok image) limits store machine = (has_outside image ≡ false) × (machine ≡ start_state image limits store)

-- `Declines` says why an image could not be loaded into a machine: a fault in the image file, a segment outside the machine's
-- memory, or lack of memory.
abbrev pub Declines : Result ImageContents ElfFault → RunFault → Type 0
Declines (Err fault) why = (why ≡ Elf fault) ⊎ (why ≡ Memory)
Declines (Ok image) why = ((has_outside image ≡ true) × (why ≡ Load load.Outside)) ⊎ (why ≡ Memory)
