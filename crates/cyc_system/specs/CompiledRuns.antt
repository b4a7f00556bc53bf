-- If a file does what a program means, the output, remaining input and result of `run` are those of the program's run within its limits.
-- The results of compiling and running are described in terms of the source only. The form of these results is this project's own choice.
use Rattle.std.specs.Prelude.{◌≡◌, ℕ, ◌+◌, ◌*◌, ◌≤◌, List, Some, Result, Ok, Err}
use Rattle.std.specs.Io.KnownBytes.{Appends}
use Rattle.cyc_words.specs.Ending.{Ending}
use Rattle.cyc_words.specs.Seen.{Seen, showing, ComesTo}
use Rattle.cyc_machine_model.specs.Bounds.{Bounds}
use Rattle.cyc_machine_model.specs.Run.{ending_of}
use Rattle.cyc_machine_model.specs.declared.event.End.{End}
use Rattle.cyc_types.specs.TypedTrees.{Program}
use Rattle.cyc_meaning.specs.State.{State, HasEnded, status_of}
use Rattle.cyc_meaning.specs.SourceMachine.{seen_of}
use Rattle.cyc_emulator.specs.Engine.{Devices}
use Rattle.cyc_compiler.specs.FullPreservation.{limited}
use Rattle.cyc_emulator.specs.declared.report.Report.{Report}
use Rattle.cyc_emulator.specs.declared.report.RunFault.{RunFault}
use Rattle.cyc_emulator.specs.declared.report.RunFault.TheVariants.{Elf, Load, Read, Write, Memory}
use Rattle.cyc_emulator.specs.declared.report.Stop.{Stop}
use Rattle.cyc_emulator.specs.declared.report.Stop.TheVariants as stops

-- `IsEndOf` says that the reported end is the program's: after some number of steps the program has ended as reported, with exactly
-- this output and remaining input.
abbrev pub IsEndOf : Program → Bounds → (input : List ℕ) → Seen → Stop → Type 0
IsEndOf p limits input seen (stops.End end) =
    (steps : ℕ) × (ending : Ending) × (ending_of end ≡ Some ending)
    × (status_of (limited p limits input steps) ≡ HasEnded ending) × (seen ≡ seen_of (limited p limits input steps))
IsEndOf p limits input seen stops.Spent = Unit {0}

-- `IsAsFar` says that the run is as far as the program in this state: it has printed and read as much, and if the program has
-- ended, this end is reported.
abbrev pub IsAsFar : (program : State) → Seen → Stop → Type 0
IsAsFar s seen stop =
    ComesTo (seen_of s) seen
    × ((ending : Ending) → status_of s ≡ HasEnded ending → (end : End) × (stop ≡ stops.End end) × (ending_of end ≡ Some ending))

-- `AnswersAs` describes the result for this output and remaining input. A run that executes `each` instructions for each step of the
-- program, and as many before the first step, comes as far as the program. The result is never that the bytes are no image or that the
-- machine has no memory for it.
abbrev pub AnswersAs : Program → Bounds → (input : List ℕ) → (each budget : ℕ) → Seen → Result Report RunFault → Type 0
AnswersAs p limits input each budget seen (Ok report) =
    IsEndOf p limits input seen report.stop
    × ((n : ℕ) → (n + 1) * each ≤ budget → IsAsFar (limited p limits input n) seen report.stop)
AnswersAs p limits input each budget seen (Err Read) = Unit {0}
AnswersAs p limits input each budget seen (Err Write) = Unit {0}
AnswersAs p limits input each budget seen (Err Memory) = Unit {0}
AnswersAs p limits input each budget seen (Err (Elf f)) = ⊥
AnswersAs p limits input each budget seen (Err (Load f)) = ⊥

-- `RunsAs` says that the output, the remaining input and the result for this input are those of the program's run within limits of
-- pages and calls. Whatever the result, the bytes written and those left in the reader are the program's output and remaining input
-- after some number of its steps.
pub record RunsAs (p : Program) (limits : Bounds) (input : List ℕ) (each budget : ℕ) (old new : Devices) (result : Result Report RunFault) : Type 0 where
  pub output : List ℕ
  pub rest : List ℕ
  pub written : Appends old.written new.written output
  pub left : new.remaining ≡ Some rest
  pub steps : ℕ
  pub seen : showing output rest ≡ seen_of (limited p limits input steps)
  pub answers : AnswersAs p limits input each budget (showing output rest) result
