-- This file defines the exit status and the last line for each outcome (answer) of a command of the program: they are
-- this project's own choice.
use Rattle.std.specs.Prelude.{ℕ, ◌%◌, List, ◌++◌, Option, Some, None, codes}
use Rattle.std.specs.Fmt.{decimal, signed_decimal}
use Rattle.cyc_words.specs.Word.{unsigned}
use Rattle.cyc_words.specs.Fault.{number_of}
use Rattle.cyc_words.specs.declared.fault.Fault.{Fault}
use Rattle.cyc_words.specs.declared.fault.Code.TheVariants.{Memory}
use Rattle.cyc_host.specs.declared.answer.Answer.{Answer}
use Rattle.cyc_host.specs.declared.answer.Answer.TheVariants.{Done, Returned, Refused, BadImage, Uncaught, Full, Trapped, Spent, ReadFault, WriteFault, NoMemory, Usage, Unformatted}
use Rattle.cyc_elf.specs.Fault.{number_of as elf_number_of}
use Rattle.cyc_elf.specs.declared.fault.ElfFault.TheVariants as Elf
use Rattle.cyc_machine_model.specs.Bounds.{Bounds}
use Rattle.cyc_machine_model.specs.declared.event.Cause.{Cause}
use Rattle.cyc_machine_model.specs.declared.event.Cause.TheVariants.{ReservedInstruction, Unpredictable, Misaligned, NoSuchAddress, DeadCell, WriteToText, Break, BadService}
use Rattle.cyc_machine_model.specs.declared.event.End.TheVariants as End
use Rattle.cyc_machine.specs.declared.fault.LoadFault.TheVariants as Load
use Rattle.cyc_emulator.specs.declared.report.Limit.{Limit}
use Rattle.cyc_emulator.specs.declared.report.Limit.TheVariants as Limit
use Rattle.cyc_emulator.specs.declared.report.Report.{Report}
use Rattle.cyc_emulator.specs.declared.report.Stop.{Stop}
use Rattle.cyc_emulator.specs.declared.report.Stop.TheVariants as Stop
use Rattle.cyc_emulator.specs.declared.report.RunFault.{RunFault}
use Rattle.cyc_emulator.specs.declared.report.RunFault.TheVariants as RunFault
use Rattle.cyc_cli.specs.declared.advice.Ending.{Ending}
use Rattle.cyc_cli.specs.declared.advice.Ending.TheVariants as Ending

-- The wording of the last line on standard error for the cause of a trap.
abbrev pub cause_words : Cause → List ℕ
cause_words ReservedInstruction = codes "reserved instruction"
cause_words Unpredictable = codes "unpredictable"
cause_words Misaligned = codes "misaligned"
cause_words NoSuchAddress = codes "no such address"
cause_words DeadCell = codes "dead cell"
cause_words WriteToText = codes "write to text"
cause_words Break = codes "break"
cause_words BadService = codes "bad service"

-- The last line that a command writes on standard error.
abbrev pub last_line : Answer → List ℕ
last_line Done = codes "done"
last_line (Returned value) = codes "returned " ++ signed_decimal value
last_line (Refused fault) = codes "fault " ++ (decimal (number_of fault.code)
    ++ (codes " at " ++ (decimal fault.line ++ (codes ":" ++ decimal fault.column))))
last_line (BadImage number) = codes "image fault " ++ decimal number
last_line (Uncaught exception value) = codes "uncaught " ++ (decimal exception ++ (codes " " ++ signed_decimal value))
last_line Full = codes "full"
last_line (Trapped cause) = codes "trap " ++ cause_words cause
last_line Spent = codes "budget spent"
last_line ReadFault = codes "read fault"
last_line WriteFault = codes "write fault"
last_line NoMemory = codes "no memory"
last_line Usage = codes "usage"
last_line Unformatted = codes "not formatted"

-- The exit status for the outcome (answer) of a command; for a run that returned, it is the low 8 bits of the returned value.
abbrev pub status_of : Answer → ℕ
status_of Done = 0
status_of (Returned value) = unsigned value % 256
status_of (Refused fault) = 2
status_of (BadImage number) = 3
status_of (Uncaught exception value) = 4
status_of Full = 5
status_of (Trapped cause) = 6
status_of Spent = 7
status_of ReadFault = 8
status_of WriteFault = 8
status_of NoMemory = 8
status_of Usage = 9
status_of Unformatted = 1

-- If the compiler runs out of its own memory, this fault has no source position and does not mean that the text is rejected.
abbrev pub answer_of_fault : Fault → Answer
answer_of_fault fault = elim fault.code [ Memory ↦ NoMemory | _ ↦ Refused fault ]

abbrev pub answer_of_stop : Stop → Answer
answer_of_stop (Stop.End (End.Returned value)) = Returned value
answer_of_stop (Stop.End (End.Uncaught exception value)) = Uncaught exception value
answer_of_stop (Stop.End End.Full) = Full
answer_of_stop (Stop.End (End.Trap cause)) = Trapped cause
answer_of_stop Stop.Spent = Spent

-- A fault of an image is reported by the number that the image reader gives to it; number 8 stands for an image that
-- does not fit the machine's memory.
abbrev pub answer_of_run_fault : RunFault → Answer
answer_of_run_fault (RunFault.Elf Elf.Memory) = NoMemory
answer_of_run_fault (RunFault.Elf fault) = BadImage (elf_number_of fault)
answer_of_run_fault (RunFault.Load Load.Outside) = BadImage 8
answer_of_run_fault (RunFault.Load Load.Memory) = NoMemory
answer_of_run_fault RunFault.Read = ReadFault
answer_of_run_fault RunFault.Write = WriteFault
answer_of_run_fault RunFault.Memory = NoMemory

-- The limit (of pages or of calls) that a run reached when it ran out of space, together with the limit's value.
abbrev pub ending_at : Option Limit → Bounds → Option Ending
ending_at None limits = None
ending_at (Some Limit.Calls) limits = Some (Ending.Calls limits.calls)
ending_at (Some Limit.Pages) limits = Some (Ending.Pages limits.pages)

-- The reason why a run with these limits and this budget ended before its program did, according to its report. The reason is `None` if the
-- program ended, or if there is no report.
abbrev pub ending_of : Answer → Option Report → Bounds → (budget : ℕ) → Option Ending
ending_of (Uncaught exception value) (Some report) limits budget = Some (Ending.Uncaught exception)
ending_of Full (Some report) limits budget = ending_at report.limit limits
ending_of (Trapped cause) (Some report) limits budget = Some (Ending.Trap report.counter)
ending_of Spent (Some report) limits budget = Some (Ending.Spent budget)
ending_of answer report limits budget = None
