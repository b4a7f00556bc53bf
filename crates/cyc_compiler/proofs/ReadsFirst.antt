-- This file has a worked example. The example program prints A and then returns the byte that it reads. An image that reads a byte
-- before it prints A also returns this byte, but by definition it is no image of the program.
use Rattle.std.proofs.Common.{◌≡◌, ℕ, zero, suc, List, [], ◌∷◌, ◌++◌, Option, Some, None, Ok, refl, sym, ap, subst, ◌∙◌, arith}
use Rattle.cyc_words.specs.Seen.{Seen, showing}
use Rattle.cyc_words.specs.Word.{sign_extended}
use Rattle.cyc_elf.specs.Image.{ImageContents}
use Rattle.cyc_elf.specs.Header.{field, program_header_at, headers_from}
use Rattle.cyc_elf.specs.Note.{is_note, is_named, limits_at}
use Rattle.cyc_elf.specs.Reading.{reading, file_rules, own_rules, entry_rules}
use Rattle.cyc_elf.specs.Layout.{layout, file_header, program_header}
use Rattle.cyc_store.specs.State.{IsNew, StoreState}
use Rattle.cyc_store.specs.State as stores
use Rattle.cyc_machine_model.specs.declared.event.Event.{Event}
use Rattle.cyc_machine_model.specs.declared.event.Event.TheVariants.{Ran, WantsByte}
use Rattle.cyc_machine_model.specs.declared.phase.Phase.TheVariants.{Waiting}
use Rattle.cyc_machine_model.specs.Bounds.{Bounds, AreAllowed}
use Rattle.cyc_machine_model.specs.State.{State}
use Rattle.cyc_machine_model.specs.Step.{Action, Does, Calls, Service, GetByte, Acts, action_of, instruction_of}
use Rattle.cyc_machine_model.specs.Start.{image_words, start_world}
use Rattle.cyc_machine_model.specs.Run.{World, reported, Run}
use Rattle.cyc_types.specs.TypedTrees.{Program, Number}
use Rattle.cyc_meaning.specs.SourceMachine.{seen_of}
use Rattle.cyc_meaning.proofs.ExampleTrees.{print, read_byte, execute, return, program}
use Rattle.cyc_meaning.proofs.RunLaws.{limited_steps_go_on}
use Rattle.cyc_compiler.specs.FullPreservation.{limited, DoesTheSame, IsImageOf}
use Rattle.cyc_compiler.specs.ProgramImage.{program_image}
use Rattle.cyc_compiler.proofs.Preservation.{are_alike}

-- The program `int main(){ putchar(65); return getchar(); }`.
abbrev prints_first : Program
prints_first = program (execute (print (Number 65)) ∷ return read_byte ∷ [])

-- The words of the image that reads first: system call 1 reads a byte into register 16; system call 2
-- prints A; system call 3 ends the run with the byte.
abbrev reads_first : ImageContents
reads_first = program_image
    (0x24020001 ∷ 0x0000000c ∷ 0x00408021 ∷ 0x24040041 ∷ 0x24020002 ∷ 0x0000000c ∷ 0x02002021 ∷ 0x24020003 ∷ 0x0000000c ∷ []) [] None

-- The image of the example program is read back from its file.
pub is_read : reading (layout reads_first) ≡ Ok reads_first
unfolding reading file_rules own_rules entry_rules field program_header_at headers_from layout file_header program_header is_note is_named limits_at
is_read = refl

-- ---- the machine reads at its second instruction

abbrev limits : Bounds
limits = record { pages = 3; calls = 1 }

abbrev store : StoreState
store = stores.start 3 (λ (address : ℕ). 0)

abbrev given : List ℕ
given = 7 ∷ []

abbrev begun : World
begun = start_world reads_first limits store given

abbrev reported_by : Action → Option Event
reported_by (Does event s) = Some event
reported_by (Calls service) = None

abbrev left_by : State → Action → State
left_by old (Does event s) = s
left_by old (Calls service) = old

abbrev called_by : Action → Option Service
called_by (Does event s) = None
called_by (Calls service) = Some service

does : (old : State) (action : Action) (event : Event) → reported_by action ≡ Some event → action ≡ Does event (left_by old action)
does old (Does reported s) event is = ap (λ (e : Event). Does e s) (let same : reported ≡ event = cc in same)
does old (Calls service) event is = absurd (let e : None ≡ Some event = is in cc)

calls : (action : Action) (service : Service) → called_by action ≡ Some service → action ≡ Calls service
calls (Does reported s) service is = absurd (let e : None ≡ Some service = is in cc)
calls (Calls other) service is = ap Calls (let same : other ≡ service = cc in same)

abbrev second : State
second = left_by begun.machine (action_of begun.machine)

abbrev has_read : World
has_read = reported (reported begun Ran second) WantsByte (record second { phase = Waiting })

first_runs : reported_by (action_of begun.machine) ≡ Some Ran
unfolding instruction_of sign_extended image_words
first_runs = refl

second_reads : called_by (action_of second) ≡ Some GetByte
unfolding instruction_of sign_extended image_words
second_reads = refl

reads : Run 2 begun has_read
unfolding instruction_of sign_extended image_words
reads = (
  reported begun Ran second,
  (Ran, second, subst (λ (a : Action). Acts a begun.machine Ran second) (sym (does begun.machine (action_of begun.machine) Ran first_runs)) (refl, refl), refl),
  (has_read, (WantsByte, record second { phase = Waiting }, subst (λ (a : Action). Acts a second WantsByte (record second { phase = Waiting })) (sym (calls (action_of second) GetByte second_reads)) (refl, refl), refl), refl),
)

-- ---- the program has read nothing before it prints

some_is_given : [] ≡ given → ⊥
some_is_given is = cc

unprinted : (more : List ℕ) → [] ≡ (65 ∷ []) ++ more → ⊥
unprinted more is = let e : [] ≡ 65 ∷ more = is in cc

never_shown : (k : ℕ) → showing [] [] ≡ seen_of (limited prints_first limits given k) → ⊥
never_shown zero seen = some_is_given (ap (λ (s : Seen). s.rest) seen)
never_shown (suc zero) seen = some_is_given (ap (λ (s : Seen). s.rest) seen)
never_shown (suc (suc zero)) seen = some_is_given (ap (λ (s : Seen). s.rest) seen)
never_shown (suc (suc (suc zero))) seen = some_is_given (ap (λ (s : Seen). s.rest) seen)
never_shown (suc (suc (suc (suc zero)))) seen = some_is_given (ap (λ (s : Seen). s.rest) seen)
never_shown (suc (suc (suc (suc (suc zero))))) seen = some_is_given (ap (λ (s : Seen). s.rest) seen)
never_shown (suc (suc (suc (suc (suc (suc zero)))))) seen = some_is_given (ap (λ (s : Seen). s.rest) seen)
never_shown (suc (suc (suc (suc (suc (suc (suc zero))))))) seen = some_is_given (ap (λ (s : Seen). s.rest) seen)
never_shown (suc (suc (suc (suc (suc (suc (suc (suc zero)))))))) seen = some_is_given (ap (λ (s : Seen). s.rest) seen)
never_shown (suc (suc (suc (suc (suc (suc (suc (suc (suc zero))))))))) seen = some_is_given (ap (λ (s : Seen). s.rest) seen)
never_shown (suc (suc (suc (suc (suc (suc (suc (suc (suc (suc n)))))))))) seen =
    let (more, printed) = (limited_steps_go_on prints_first 3 1 n (limited prints_first limits given 10)).0 in
    unprinted more (ap (λ (s : Seen). s.output) seen ∙ printed)

pub is_no_image : (file : List ℕ) → reading file ≡ Ok reads_first → IsImageOf prints_first file → ⊥
is_no_image file read is =
    let other : Ok reads_first ≡ Ok is.image = sym read ∙ is.read in
    let same : is.image ≡ reads_first = cc in
    let allowed : AreAllowed 3 1 = record { enough_pages = omega arith; few_pages = omega arith; enough_calls = omega arith; few_calls = omega arith } in
    let new : IsNew 3 store = ((λ (address : ℕ). 0), (λ address. omega arith), refl) in
    let alike = are_alike prints_first reads_first (subst (λ (image : ImageContents). DoesTheSame prints_first image) same is.does) limits store given allowed new (omega arith, tt) in
    let (k, (seen, ends)) = alike.following 2 has_read reads in
    never_shown k seen
