-- The numbers that identify the faults of executable files are this project's own choice.
use Rattle.std.specs.Prelude.{ℕ}
use Rattle.cyc_elf.specs.declared.fault.ElfFault.{ElfFault}
use Rattle.cyc_elf.specs.declared.fault.ElfFault.TheVariants as faults

abbrev pub number_of : ElfFault → ℕ
number_of faults.Truncated = 1
number_of faults.NotElf32Big = 2
number_of faults.NotMipsExec = 3
number_of faults.BadSegment = 4
number_of faults.Interp = 5
number_of faults.BadEntry = 6
number_of faults.Memory = 7
