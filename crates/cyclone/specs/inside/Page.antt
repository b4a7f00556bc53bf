-- The program's answer to a request for the page that describes a fault code.
use Rattle.std.specs.Prelude.{◌≡◌, ◌⊎◌, ℕ, Bool, List, Option}
use Rattle.std.specs.Io.KnownBytes.{Appends, Keeps}
use Rattle.cyc_words.specs.Device.{AppendsPrefix}
use Rattle.cyc_words.specs.declared.fault.Code.{Code}
use Rattle.cyc_cli.specs.inside.Pages.{page_of}
use Rattle.cyc_host.specs.inside.Console.{EndsAs}
use Rattle.cyc_host.specs.declared.answer.Answer.{Answer}
use Rattle.cyc_host.specs.declared.answer.Answer.TheVariants.{Done, WriteFault}

-- `AnswersPage` says that the page of the code was written to the device completely, or in part if the device failed.
abbrev pub AnswersPage : Code → (old new : Option (List ℕ)) → Answer → Type 0
AnswersPage code old new answer = ((answer ≡ Done) × Appends old new (page_of code)) ⊎ ((answer ≡ WriteFault) × AppendsPrefix old new (page_of code))

-- `EndsPage` describes the final answer of the command that prints a page. Flushing does not change the written bytes; `held` are the
-- bytes in the buffer, and `stuck` is true if some bytes could not be flushed when they had to be.
abbrev pub EndsPage : Code → (old new : Option (List ℕ)) (held : List ℕ) (stuck : Bool) (last : Answer) → Type 0
EndsPage code old new held stuck last =
    (answer : Answer) × (written : Option (List ℕ)) × AnswersPage code old written answer × Keeps written new × EndsAs answer held stuck last
