-- Lack of memory is always the same fault, wherever it occurs. The numbering of faults is this project's own choice.
use Rattle.std.specs.Prelude.{Bool, true, false, Result, Err}
use Rattle.cyc_elf.specs.declared.fault.ElfFault.{ElfFault}
use Rattle.cyc_elf.specs.declared.fault.ElfFault.TheVariants as elf
use Rattle.cyc_machine.specs.declared.fault.LoadFault.{LoadFault}
use Rattle.cyc_machine.specs.declared.fault.LoadFault.TheVariants as load
use Rattle.cyc_machine.specs.declared.exchanged.Device.{Device}
use Rattle.cyc_machine.specs.declared.exchanged.Device.TheVariants.{Reader, Writer}
use Rattle.cyc_emulator.specs.declared.report.RunFault.{RunFault}
use Rattle.cyc_emulator.specs.declared.report.RunFault.TheVariants.{Elf, Load, Read, Write, Memory}

abbrev pub of_elf : ElfFault → RunFault
of_elf elf.Memory = Memory
of_elf f = Elf f

abbrev pub of_load : LoadFault → RunFault
of_load load.Memory = Memory
of_load load.Outside = Load load.Outside

abbrev pub fault_of : Device → RunFault
fault_of Reader = Read
fault_of Writer = Write

-- Returns true if the result of a call says that the reader failed.
abbrev pub is_read : {T : Type 0} → Result T RunFault → Bool
is_read (Err Read) = true
is_read r = false

abbrev pub is_write : {T : Type 0} → Result T RunFault → Bool
is_write (Err Write) = true
is_write r = false
