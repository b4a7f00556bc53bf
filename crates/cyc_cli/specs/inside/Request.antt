-- This file defines the request of a command line. The form of requests on a command line is this project's own choice.
use Rattle.std.specs.Prelude.{◌≡◌, ◌↔◌, ℕ, Bool, true, false, ◌≤◌, List, codes, Option, Some, None, IfSome, option_map}
use Rattle.std.specs.Str.Parse.{digits_value}
use Rattle.clap.specs.Words.{App, Row, Text, is_simple, subcommand_of}
use Rattle.clap.specs.Walk.{first_of}
use Rattle.cyc_words.specs.Fault.{number_of}
use Rattle.cyc_words.specs.declared.fault.Code.{Code}
use Rattle.cyc_cli.specs.inside.Limits.{Given}
use Rattle.cyc_cli.specs.declared.arguments.Request.{Request}
use Rattle.cyc_cli.specs.declared.arguments.StoreKind.{StoreKind}
use Rattle.cyc_cli.specs.declared.arguments.StoreKind.TheVariants.{Pages, Plain}
use Rattle.cyc_cli.specs.declared.arguments.Request.TheVariants.{Check, Compile, Run, Disassemble, Explain, Describe, Bound, Format, Pack}

-- Says that the instruction budget (the greatest number of instructions) of a run is from 1 to 1,000,000,000,000.
abbrev pub IsWithinBudget : Request → Type 0
IsWithinBudget (Run file source store limits caps budget report peaks places) = (1 ≤ budget) × (budget ≤ 1000000000000)
IsWithinBudget (Check source json) = Unit {0}
IsWithinBudget (Compile source image limits auto places emit json) = Unit {0}
IsWithinBudget (Disassemble image most places) = Unit {0}
IsWithinBudget (Explain code) = Unit {0}
IsWithinBudget (Describe image places) = Unit {0}
IsWithinBudget (Bound source) = Unit {0}
IsWithinBudget (Format source output check) = Unit {0}
IsWithinBudget (Pack text) = Unit {0}

-- Says that a number is the decimal value of an option's text.
abbrev pub IsNumberOf : (List ℕ → Option (List ℕ)) → List ℕ → ℕ → Type 0
IsNumberOf given option n = IfSome (given option) (λ text. n ≡ digits_value 10 text)

-- Says that a number is the value of an option's text, if the option is present.
abbrev pub IsNumberIfGiven : Option (List ℕ) → Option ℕ → Type 0
IsNumberIfGiven (Some text) n = n ≡ Some (digits_value 10 text)
IsNumberIfGiven None n = n ≡ None

-- Says that the limits on pages and calls are the values of their options, or are omitted if the options are.
abbrev pub AreLimitsOf : (List ℕ → Option (List ℕ)) → Given → Type 0
AreLimitsOf given limits = IsNumberIfGiven (given (codes "pages")) limits.pages × IsNumberIfGiven (given (codes "calls")) limits.calls

-- Says that the caps (upper bounds) on the limits of pages and calls are the values of their command-line options.
abbrev pub AreCapsOf : (List ℕ → Option (List ℕ)) → Given → Type 0
AreCapsOf given caps = IsNumberIfGiven (given (codes "at-most-pages")) caps.pages × IsNumberIfGiven (given (codes "at-most-calls")) caps.calls

-- Says that a flag tells if an option without a value was given: if so, the command-line parser stores the text `true` for the option.
abbrev pub IsFlagOf : Option (List ℕ) → Bool → Type 0
IsFlagOf given flag = flag ≡ true ↔ given ≡ Some (codes "true")

-- Says that a flag tells if `auto`, the only text that the option allows, is given for the limits. If `auto` is given, both
-- limits are computed from the program, and no limit is given by number.
abbrev pub IsAutoOf : Option (List ℕ) → Given → Bool → Type 0
IsAutoOf None limits auto = auto ≡ false
IsAutoOf (Some text) limits auto = (text ≡ codes "auto") × (auto ≡ true) × (limits.pages ≡ None) × (limits.calls ≡ None)

-- Says that the store is the one that the command line names, or the pool of pages if it names none.
abbrev pub IsStoreOf : Option (List ℕ) → StoreKind → Type 0
IsStoreOf None store = store ≡ Pages
IsStoreOf (Some text) Pages = text ≡ codes "pages"
IsStoreOf (Some text) Plain = text ≡ codes "plain"

-- The name of the command that runs an image (`run`) or the program of a source file (`exec`).
abbrev pub run_name : (source : Bool) → List ℕ
run_name true = codes "exec"
run_name false = codes "run"

-- Says that a fault code has the number that is written on the command line.
abbrev pub IsCodeOf : Option (List ℕ) → Code → Type 0
IsCodeOf (Some text) code = number_of code ≡ digits_value 10 text
IsCodeOf None code = ⊥

-- Says that a request is the one that the command with this name makes. The request has the given files, store, limits, caps, budget or
-- code, and each flag that was given.
abbrev pub IsRequestOf : (name : List ℕ) → (List ℕ → Option (List ℕ)) → Request → Type 0
IsRequestOf name given (Check source json) = (name ≡ codes "check") × (given (codes "source") ≡ Some source.now) × IsFlagOf (given (codes "json")) json
IsRequestOf name given (Compile source image limits auto places emit json) = (name ≡ codes "compile")
    × (given (codes "source") ≡ Some source.now)
    × (given (codes "image") ≡ Some image.now)
    × AreLimitsOf given limits
    × IsAutoOf (given (codes "limits")) limits auto
    × (given (codes "places") ≡ option_map (λ path. path.now) places)
    × (given (codes "emit") ≡ option_map (λ path. path.now) emit)
    × IsFlagOf (given (codes "json")) json
IsRequestOf name given (Run file source store limits caps budget report peaks places) = (name ≡ run_name source)
    × (given (codes "file") ≡ Some file.now)
    × IsStoreOf (given (codes "store")) store
    × AreLimitsOf given limits
    × AreCapsOf given caps
    × IsNumberOf given (codes "steps") budget
    × (1 ≤ budget) × (budget ≤ 1000000000000)
    × (given (codes "report") ≡ option_map (λ path. path.now) report)
    × IsFlagOf (given (codes "peaks")) peaks
    × (given (codes "places") ≡ option_map (λ path. path.now) places)
IsRequestOf name given (Disassemble image most places) = (name ≡ codes "disasm") × (given (codes "image") ≡ Some image.now)
    × IsNumberIfGiven (given (codes "at-most")) most
    × (given (codes "places") ≡ option_map (λ path. path.now) places)
IsRequestOf name given (Explain code) = (name ≡ codes "explain") × IsCodeOf (given (codes "code")) code
IsRequestOf name given (Describe image places) = (name ≡ codes "info") × (given (codes "image") ≡ Some image.now)
    × (given (codes "places") ≡ option_map (λ path. path.now) places)
IsRequestOf name given (Bound source) = (name ≡ codes "bound") × (given (codes "source") ≡ Some source.now)
IsRequestOf name given (Format source output check) = (name ≡ codes "format") × (given (codes "source") ≡ Some source.now)
    × (given (codes "output") ≡ option_map (λ path. path.now) output)
    × IsFlagOf (given (codes "check")) check
IsRequestOf name given (Pack text) = (name ≡ codes "pack") × (given (codes "text") ≡ Some text.now)

-- Says that a request is the one that the words of a command line make, for a program with these commands and options, as
-- parsed by the command-line parser.
abbrev pub IsAskedOf : App → (words : List Text) → Request → Type 0
IsAskedOf program words request = is_simple program ≡ true
    → (found : Text × List Row) × (subcommand_of program words ≡ Some found) × IsRequestOf found.0 (λ id. first_of id found.1) request
