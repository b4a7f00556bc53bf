-- The command-line program's answers to the commands that run, list or describe an image, stated in terms of the results of the crates
-- used.
use Rattle.std.specs.Prelude.{◌≡◌, ◌⊎◌, ℕ, Bool, true, false, IfSome, is_some, List, Option, Some, None, Result, Ok, Err}
use Rattle.std.specs.Io.KnownBytes.{Appends, Keeps}
use Rattle.cyc_words.specs.Device.{AppendsPrefix}
use Rattle.cyc_elf.specs.declared.fault.ElfFault.{ElfFault}
use Rattle.cyc_elf.specs.Image.{ImageContents}
use Rattle.cyc_elf.specs.Reading.{reading}
use Rattle.cyc_machine_model.specs.Bounds.{Bounds}
use Rattle.cyc_emulator.specs.Engine.{AnswersAnew, Devices}
use Rattle.cyc_emulator.specs.Listing.{Shows}
use Rattle.cyc_emulator.specs.declared.report.Report.{Report}
use Rattle.cyc_emulator.specs.declared.report.RunFault.{RunFault}
use Rattle.cyc_emulator.specs.declared.report.RunFault.TheVariants.{Elf}
use Rattle.cyc_cli.specs.declared.arguments.StoreKind.TheVariants.{Pages, Plain}
use Rattle.cyc_cli.specs.inside.Limits.{Given, capped_by, limits_by}
use Rattle.cyc_host.specs.inside.Answer.{answer_of_stop, answer_of_run_fault}
use Rattle.cyc_host.specs.inside.Console.{EndsAs}
use Rattle.cyc_host.specs.declared.answer.Answer.{Answer}
use Rattle.cyc_host.specs.declared.answer.Answer.TheVariants.{Done, NoMemory, WriteFault}
use Rattle.cyc_image_commands.specs.inside.Info.{info_text}
use Rattle.cyc_image_commands.specs.declared.work.Manner.{Manner}

abbrev pub answer_of_run : Result Report RunFault → Answer
answer_of_run (Ok report) = answer_of_stop report.stop
answer_of_run (Err fault) = answer_of_run_fault fault

-- The report of a run, if the run was executed until it stopped.
abbrev pub report_of_run : Result Report RunFault → Option Report
report_of_run (Ok report) = Some report
report_of_run (Err fault) = None

abbrev pub answer_of_listing : Result (Unit {0}) RunFault → Answer
answer_of_listing (Ok done) = Done
answer_of_listing (Err fault) = answer_of_run_fault fault

-- Says that each limit of a run is the one that the user gives, else the image's, else the default, but never above its cap.
abbrev pub AreLimitsFor : List ℕ → (given caps : Given) → Bounds → Type 0
AreLimitsFor image given caps limits = (read : ImageContents) × (reading image ≡ Ok read) × (limits ≡ capped_by caps (limits_by given read.note))

-- Says that, for bytes that are not an image, the answer to the command names the violated rule for images, or says that memory ran out.
abbrev pub AnswersNoImage : List ℕ → Answer → Type 0
AnswersNoImage image answer = (answer ≡ NoMemory) ⊎ ((fault : ElfFault) × (reading image ≡ Err fault) × (answer ≡ answer_of_run_fault (Elf fault)))

-- True if the run's heap takes memory only when it needs it: the heap as an array of words does, the heap as a pool of pages does not.
abbrev pub grows_in : Manner → Bool
grows_in manner = elim manner.store [ Plain ↦ true | Pages ↦ false ]

-- True if a run counts the maximal numbers of active calls and used pages. A run counts these maxima only if the heap is a pool of
-- pages, and only if this is requested.
abbrev pub counts_peaks : Manner → Bool
counts_peaks manner = elim manner.store [ Plain ↦ false | Pages ↦ manner.counting ]

-- Says that the image was run with the devices and the requested heap implementation, and that the answer and the report are those of
-- this run. The report contains the maximal numbers of calls and pages exactly if they were requested.
pub record AnswersRun (image : List ℕ) (limits : Bounds) (budget : ℕ) (manner : Manner) (old new : Devices) (answer : Answer) (report : Option Report) : Type 0 where
  pub outcome : Result Report RunFault
  pub runs : AnswersAnew (grows_in manner) (reading image) limits budget old new outcome
  pub answered : answer ≡ answer_of_run outcome
  pub reported : report ≡ report_of_run outcome
  pub counted : IfSome report (λ r. is_some r.peaks ≡ counts_peaks manner)

-- Says that the instructions of the image were listed to the output device, and that the command's answer follows from the
-- outcome of this listing.
pub record AnswersListing (image : List ℕ) (old new : Option (List ℕ)) (answer : Answer) : Type 0 where
  pub outcome : Result (Unit {0}) RunFault
  pub shows : Shows (reading image) old new outcome
  pub answered : answer ≡ answer_of_listing outcome

-- Says that the description of an image is written completely, or that a prefix of the description is written if the device failed.
abbrev pub Informs : ImageContents → (old new : Option (List ℕ)) → Answer → Type 0
Informs image old new Done = Appends old new (info_text image)
Informs image old new WriteFault = AppendsPrefix old new (info_text image)
Informs image old new answer = ⊥

-- The answer to a request about an image, where `read` is the meaning of its bytes: the fault of reading, or the description of the image;
-- or a lack of memory. A fault or a lack of memory is reported before any byte is written.
abbrev pub Describes : Result ImageContents ElfFault → (old new : Option (List ℕ)) → Answer → Type 0
Describes (Err fault) old new answer = ((answer ≡ NoMemory) ⊎ (answer ≡ answer_of_run_fault (Elf fault))) × Keeps old new
Describes (Ok image) old new answer = ((answer ≡ NoMemory) × Keeps old new) ⊎ Informs image old new answer

abbrev pub AnswersInfo : (image : List ℕ) → (old new : Option (List ℕ)) → Answer → Type 0
AnswersInfo image old new answer = Describes (reading image) old new answer

-- The final answers to the commands that run, list or describe an image. Flushing does not change the written bytes. `held` are the
-- bytes in the output buffer; `stuck` is true if some bytes could not be flushed when they had to be.
abbrev pub EndsRun : (image : List ℕ) (limits : Bounds) (budget : ℕ) (manner : Manner) (old new : Devices) (held : List ℕ) (stuck : Bool) (last : Answer) (report : Option Report) → Type 0
EndsRun image limits budget manner old new held stuck last report =
    (answer : Answer) × (written : Option (List ℕ))
    × AnswersRun image limits budget manner old (record { remaining = new.remaining; written = written }) answer report
    × Keeps written new.written × EndsAs answer held stuck last

abbrev pub EndsListing : (image : List ℕ) (old new : Option (List ℕ)) (held : List ℕ) (stuck : Bool) (last : Answer) → Type 0
EndsListing image old new held stuck last =
    (answer : Answer) × (written : Option (List ℕ)) × AnswersListing image old written answer × Keeps written new × EndsAs answer held stuck last

abbrev pub EndsInfo : (image : List ℕ) (old new : Option (List ℕ)) (held : List ℕ) (stuck : Bool) (last : Answer) → Type 0
EndsInfo image old new held stuck last =
    (answer : Answer) × (written : Option (List ℕ)) × AnswersInfo image old written answer × Keeps written new × EndsAs answer held stuck last
