-- A run as it is reported: with the output, what is left of the input, the end, and the peaks. This project's own choice.
use Rattle.std.specs.Prelude.{◌≡◌, ◌≢◌, ℕ, ◌≤◌, ◌<◌, List, [], length, Option, None, Some, Result, Ok, Err, ⊤}
use Rattle.std.specs.Io.KnownBytes.{Consumes, Appends, Keeps}
use Rattle.cyc_words.specs.Device.{AppendsPrefix}
use Rattle.cyc_types.specs.TypedTrees.{Program}
use Rattle.cyc_meaning.specs.State.{GoesOn, demand, depth, status_of, output_of, input_of}
use Rattle.cyc_meaning.specs.Run.{limited_run}
use Rattle.cyc_interpret.specs.Run.{status_by, peak_of}
use Rattle.cyc_interpret.specs.declared.entry.Over.{Over}
use Rattle.cyc_interpret.specs.declared.entry.Over.TheVariants as over
use Rattle.cyc_interpret.specs.declared.run.Report.{Report}
use Rattle.cyc_interpret.specs.declared.run.Stop.{Stop}
use Rattle.cyc_interpret.specs.declared.run.Stop.TheVariants as stops

-- the limited run of a program on an input, after the steps that are reported: no step after the end is counted, and a run that is under
-- way has used up its budget
pub record RunsOn (p : Program) (pages calls budget : ℕ) (input output : List ℕ) (report : Report) : Type 0 where
  pub printed : output_of (limited_run p pages calls input report.steps) ≡ output
  pub left : length (input_of (limited_run p pages calls input report.steps)) ≡ report.left
  pub ending : status_of (limited_run p pages calls input report.steps) ≡ status_by report.end
  pub before : (n : ℕ) → n < report.steps → status_of (limited_run p pages calls input n) ≡ GoesOn
  pub few : report.steps ≤ budget
  pub spent : report.end ≡ None → report.steps ≡ budget
  pub demanded : report.pages ≡ peak_of (λ (n : ℕ). demand (limited_run p pages calls input n)) report.steps
  pub called : report.calls ≡ peak_of (λ (n : ℕ). depth (limited_run p pages calls input n)) report.steps

-- Where a reader reports its bytes, these are left.
abbrev pub Leaves : (before after : Option (List ℕ)) → List ℕ → Type 0
Leaves None after rest = ⊤
Leaves (Some reported) None rest = ⊥
Leaves (Some reported) (Some left) rest = left ≡ rest

-- what the reader has, and what was written
pub record Devices : Type 0 where
  pub remaining : Option (List ℕ)
  pub written : Option (List ℕ)

-- all that the reader has is read
abbrev pub ReadsAll : (old new : Devices) → List ℕ → Type 0
ReadsAll old new input = Consumes old.remaining new.remaining input × Leaves old.remaining new.remaining []

-- some of what the reader has is read, and nothing is written
abbrev pub ReadsAlone : (old new : Devices) → Type 0
ReadsAlone old new = ((read : List ℕ) × Consumes old.remaining new.remaining read) × Keeps old.written new.written

-- With devices: all that the reader has is the input, and what was printed is appended to what was written. Where the writer fails it has
-- taken the first bytes of what the reported run prints. Where the reader fails or memory runs out, nothing is written.
abbrev pub RunsAs : Program → (pages calls budget : ℕ) → (old new : Devices) → Result Report Stop → Type 0
RunsAs p pages calls budget old new (Ok report) =
    (input : List ℕ) × (output : List ℕ) × ReadsAll old new input × Appends old.written new.written output × RunsOn p pages calls budget input output report
RunsAs p pages calls budget old new (Err stops.Output) =
    (input : List ℕ) × (output : List ℕ) × (report : Report) × ReadsAll old new input × AppendsPrefix old.written new.written output × RunsOn p pages calls budget input output report
RunsAs p pages calls budget old new (Err stop) = ReadsAlone old new

-- what no run of a sound program comes to
abbrev pub EndsWell : Option Over → Type 0
EndsWell end = (end ≢ Some over.Dead) × (end ≢ Some over.Wrong)
