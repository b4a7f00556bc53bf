-- What the bounds of a program mean for the reports of its runs. The form of these statements is this project's own choice.
use Rattle.std.specs.Prelude.{◌≡◌, ◌≢◌, Some}
use Rattle.cyc_words.specs.Ending.{Full}
use Rattle.cyc_machine_model.specs.Run.{ending_of}
use Rattle.cyc_machine_model.specs.declared.event.End.{End}
use Rattle.cyc_compiler.specs.BoundedRuns.{IsOwnEnd}
use Rattle.cyc_emulator.specs.declared.report.Stop.{Stop}
use Rattle.cyc_emulator.specs.declared.report.Stop.TheVariants as stops

-- Says that a report does not state an end for lack of pages or calls.
abbrev pub IsNotReportedFull : Stop → Type 0
IsNotReportedFull stop = (end : End) → stop ≡ stops.End end → ending_of end ≢ Some Full

-- Says that a report states an end that the program itself causes: `main` returned, or an exception was not caught.
abbrev pub ReportsOwnEnd : Stop → Type 0
ReportsOwnEnd stop = (end : End) × (stop ≡ stops.End end) × IsOwnEnd end
