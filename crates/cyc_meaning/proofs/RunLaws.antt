-- Laws of the step function and of runs.
use Rattle.std.proofs.Common.{◌≡◌, ℕ, zero, suc, ◌+◌, ◌≤◌, ◌<◌, Bool, true, false, List, [], ◌∷◌, ◌++◌, drop, Option, Some, None, refl, sym, ap, subst, ◌∙◌, arith, append_assoc, append-nil}
use Rattle.std.specs.Prelude.{◌≢◌, ◌==◌, if◌then◌else◌, length, slice_get}
use Rattle.std.specs.List.{AllByRecursion}
use Rattle.std.proofs.lemmas.Bool.{le-leb, and_from}
use Rattle.cyc_words.specs.Ending.{Full}
use Rattle.cyc_words.specs.Seen.{IsPrefix}
use Rattle.cyc_words.proofs.PrefixLemmas.{IsPrefix-refl, IsPrefix-trans}
use Rattle.cyc_words.proofs.Lists.{read_before_drop, all_append}
use Rattle.cyc_types.specs.TypedTrees.{Function, Program}
use Rattle.cyc_meaning.specs.State.{World, Environment, Entry, Main, Focus, Entering, no_locals, State, Running, Ended, Dead, Wrong, Status, GoesOn, HasEnded, IsDead, IsWrong, output_of, input_of, status_of, depth, first_world}
use Rattle.cyc_meaning.specs.Step.{called, wrong, step}
use Rattle.cyc_meaning.specs.inside.Effects.{Changes, Keeps, Opens, Closes, Makes, MakesIn, MakesUnique, Frees, Writes, Prints, Reads, ChangesIn, printed_by, read_by, calls_after}
use Rattle.cyc_meaning.specs.Run.{start, steps, run, is_within, limited, limited_step, limited_steps}
use Rattle.cyc_meaning.specs.inside.Nesting.{AreScopes, IsNested}
use Rattle.cyc_meaning.proofs.Outcomes.{Outcome, Goes, Ends, Dies, Fails, outcome, calls_function}

-- ---- one step

-- When `main` is called, only the regions of the heap and of the globals exist.
pub start_nested : (program : Program) (input : List ℕ) → IsNested (Main ∷ []) no_locals (first_world program input)
start_nested program input = ((tt, tt), (omega arith, tt), refl, starts)
  where
    starts : AreScopes (first_world program input).regions []
    starts zero = refl
    starts (suc zero) = refl
    starts (suc (suc number)) = refl

change_printed : {w new : World} {printed : List ℕ} {count : ℕ} → Changes w printed count new → new.output ≡ w.output ++ printed
change_printed {w} Keeps = sym (append-nil w.output)
change_printed {w} (Opens sort) = sym (append-nil w.output)
change_printed {w} (Closes number r found) = sym (append-nil w.output)
change_printed {w} (Makes number r kind content found) = sym (append-nil w.output)
change_printed {w} (MakesIn number r cells found) = sym (append-nil w.output)
change_printed {w} (MakesUnique cells) = sym (append-nil w.output)
change_printed {w} (Frees number x there live) = sym (append-nil w.output)
change_printed {w} (Writes object offset at value found) = sym (append-nil w.output)
change_printed {w} (Prints word) = refl
change_printed {w} Reads = sym (append-nil w.output)

change_read : {w new : World} {printed : List ℕ} {count : ℕ} → Changes w printed count new → new.input ≡ drop count w.input
change_read Keeps = refl
change_read (Opens sort) = refl
change_read (Closes number r found) = refl
change_read (Makes number r kind content found) = refl
change_read (MakesIn number r cells found) = refl
change_read (MakesUnique cells) = refl
change_read (Frees number x there live) = refl
change_read (Writes object offset at value found) = refl
change_read (Prints word) = refl
change_read Reads = refl

outcome_printed : {nested : Type 0} {w : World} {access : Bool} {printed : List ℕ} {count calls : ℕ} {s : State} → Outcome nested w access printed count calls s → output_of s ≡ w.output ++ printed
outcome_printed (Goes calls changes nests) = change_printed changes
outcome_printed {w = w} (Ends ending other) = sym (append-nil w.output)
outcome_printed {w = w} (Dies alone) = sym (append-nil w.output)
outcome_printed {w} Fails = sym (append-nil w.output)

outcome_read : {nested : Type 0} {w : World} {access : Bool} {printed : List ℕ} {count calls : ℕ} {s : State} → Outcome nested w access printed count calls s → input_of s ≡ drop count w.input
outcome_read (Goes calls changes nests) = change_read changes
outcome_read (Ends ending other) = refl
outcome_read (Dies alone) = refl
outcome_read Fails = refl

outcome_calls : {nested : Type 0} {w : World} {access : Bool} {printed : List ℕ} {count calls : ℕ} {s : State} → Outcome nested w access printed count calls s → status_of s ≡ GoesOn → depth s ≡ calls
outcome_calls (Goes calls changes nests) going = calls
outcome_calls (Ends ending other) going = absurd (let e : HasEnded ending ≡ GoesOn = going in cc)
outcome_calls (Dies alone) going = absurd (let e : IsDead ≡ GoesOn = going in cc)
outcome_calls Fails going = absurd (let e : IsWrong ≡ GoesOn = going in cc)

outcome_not_full : {nested : Type 0} {w : World} {access : Bool} {printed : List ℕ} {count calls : ℕ} {s : State} → Outcome nested w access printed count calls s → status_of s ≢ HasEnded Full
outcome_not_full (Goes calls changes nests) full = let e : GoesOn ≡ HasEnded Full = full in cc
outcome_not_full (Ends ending other) full = let e : HasEnded ending ≡ HasEnded Full = full in other cc
outcome_not_full (Dies alone) full = let e : IsDead ≡ HasEnded Full = full in cc
outcome_not_full Fails full = let e : IsWrong ≡ HasEnded Full = full in cc

module _ (program : Program) (focus : Focus) (stack : List Entry) (e : Environment) (w : World) where
  -- only `putchar` prints
  pub step_prints : output_of (step program (Running focus stack e w)) ≡ w.output ++ printed_by focus
  step_prints = outcome_printed (outcome program focus stack e w)

  -- only `getchar` reads
  pub step_reads : input_of (step program (Running focus stack e w)) ≡ drop (read_by focus) w.input
  step_reads = outcome_read (outcome program focus stack e w)

  -- Only calls and returns change the number of active calls.
  pub step_calls : status_of (step program (Running focus stack e w)) ≡ GoesOn → depth (step program (Running focus stack e w)) ≡ calls_after focus stack
  step_calls going = outcome_calls (outcome program focus stack e w) going

outcome_changes : {nested : Type 0} {w : World} {access : Bool} {printed : List ℕ} {count calls : ℕ} {s : State} → Outcome nested w access printed count calls s → ChangesIn w printed count s
outcome_changes (Goes calls changes nests) = changes
outcome_changes (Ends ending other) = tt
outcome_changes (Dies alone) = tt
outcome_changes Fails = tt

pub step_changes : (program : Program) (focus : Focus) (stack : List Entry) (e : Environment) (w : World) → ChangesIn w (printed_by focus) (read_by focus) (step program (Running focus stack e w))
step_changes program focus stack e w = outcome_changes (outcome program focus stack e w)

-- A run without limits never ends for lack of pages or calls.
pub step_not_full : (program : Program) (s : State) → status_of s ≢ HasEnded Full → status_of (step program s) ≢ HasEnded Full
step_not_full program (Running focus stack e w) before = outcome_not_full (outcome program focus stack e w)
step_not_full program (Ended ending output input) before = before
step_not_full program (Dead output input) before = before
step_not_full program (Wrong output input) before = before

-- ---- a run that is over

pub same_where_over : (program : Program) (s : State) → status_of s ≢ GoesOn → step program s ≡ s
same_where_over program (Running focus stack e w) over = absurd (over refl)
same_where_over program (Ended ending output input) over = refl
same_where_over program (Dead output input) over = refl
same_where_over program (Wrong output input) over = refl

within_where_over : (pages calls : ℕ) (s : State) → status_of s ≢ GoesOn → is_within pages calls s ≡ true
within_where_over pages calls (Running focus stack e w) over = absurd (over refl)
within_where_over pages calls (Ended ending output input) over = and_from _ _ (le-leb 0 pages (omega arith)) (le-leb 0 calls (omega arith))
within_where_over pages calls (Dead output input) over = and_from _ _ (le-leb 0 pages (omega arith)) (le-leb 0 calls (omega arith))
within_where_over pages calls (Wrong output input) over = and_from _ _ (le-leb 0 pages (omega arith)) (le-leb 0 calls (omega arith))

-- ---- limits

-- A step whose new state is within the limits is the same in the limited run, and any other step ends the limited run.
pub limited-within : (pages calls : ℕ) (old new : State) → is_within pages calls new ≡ true → limited pages calls old new ≡ new
limited-within pages calls old new within = ap (λ (b : Bool). if b then new else Ended Full (output_of old) (input_of old)) within

pub limited-full : (pages calls : ℕ) (old new : State) → is_within pages calls new ≡ false → limited pages calls old new ≡ Ended Full (output_of old) (input_of old)
limited-full pages calls old new within = ap (λ (b : Bool). if b then new else Ended Full (output_of old) (input_of old)) within

-- If a property holds for the unlimited step and for the end by exceeded limits, then it holds for the limited step.
pub limited_cases : (P : State → Type 0) (pages calls : ℕ) (old new : State) → (is_within pages calls new ≡ true → P new) → (is_within pages calls new ≡ false → P (Ended Full (output_of old) (input_of old))) → P (limited pages calls old new)
limited_cases P pages calls old new first second = go (is_within pages calls new) refl
  where
    go : (b : Bool) → is_within pages calls new ≡ b → P (if b then new else Ended Full (output_of old) (input_of old))
    go true e = first e
    go false e = second e

pub over_limited : (program : Program) (pages calls : ℕ) (s : State) → status_of s ≢ GoesOn → limited_step program pages calls s ≡ s
over_limited program pages calls s over =
    let same : step program s ≡ s = same_where_over program s over in
    limited-within pages calls s (step program s) (ap (is_within pages calls) same ∙ within_where_over pages calls s over) ∙ same

pub over_stays : (program : Program) (n : ℕ) (s : State) → status_of s ≢ GoesOn → steps program n s ≡ s
over_stays program zero s over = refl
over_stays program (suc n) s over = ap (steps program n) (same_where_over program s over) ∙ over_stays program n s over

pub limited_over_stays : (program : Program) (pages calls n : ℕ) (s : State) → status_of s ≢ GoesOn → limited_steps program pages calls n s ≡ s
limited_over_stays program pages calls zero s over = refl
limited_over_stays program pages calls (suc n) s over =
    ap (limited_steps program pages calls n) (over_limited program pages calls s over) ∙ limited_over_stays program pages calls n s over

-- ---- runs

-- A run of m + n steps is a run of m steps followed by a run of n steps.
pub steps-add : (program : Program) (m n : ℕ) (s : State) → steps program (m + n) s ≡ steps program n (steps program m s)
steps-add program zero n s = let e : 0 + n ≡ n = omega arith in ap (λ k. steps program k s) e
steps-add program (suc m) n s =
    let e : suc m + n ≡ suc (m + n) = omega arith in
    ap (λ k. steps program k s) e ∙ steps-add program m n (step program s)

pub steps-last : (program : Program) (n : ℕ) (s : State) → steps program (suc n) s ≡ step program (steps program n s)
steps-last program zero s = refl
steps-last program (suc n) s = steps-last program n (step program s)

-- In every run, printed output stays printed, and input is read from its front.
abbrev pub GoesOnFrom : State → State → Type 0
GoesOnFrom old new = IsPrefix (output_of old) (output_of new) × ((read : List ℕ) × (input_of old ≡ read ++ input_of new))

same_traces : (s : State) → GoesOnFrom s s
same_traces s = (IsPrefix-refl (output_of s), ([], refl))

pub step_goes_on : (program : Program) (s : State) → GoesOnFrom s (step program s)
step_goes_on program (Running focus stack e w) =
    let (read, is) = read_before_drop (read_by focus) w.input in
    ((printed_by focus, step_prints program focus stack e w), (read, is ∙ ap (λ l. read ++ l) (sym (step_reads program focus stack e w))))
step_goes_on program (Ended ending output input) = (IsPrefix-refl output, ([], refl))
step_goes_on program (Dead output input) = (IsPrefix-refl output, ([], refl))
step_goes_on program (Wrong output input) = (IsPrefix-refl output, ([], refl))

pub limited_step_goes_on : (program : Program) (pages calls : ℕ) (s : State) → GoesOnFrom s (limited_step program pages calls s)
limited_step_goes_on program pages calls s =
    limited_cases (GoesOnFrom s) pages calls s (step program s) (λ within. step_goes_on program s) (λ full. (IsPrefix-refl (output_of s), ([], refl)))

pub both_go_on : (s t u : State) → GoesOnFrom s t → GoesOnFrom t u → GoesOnFrom s u
both_go_on s t u (more, (read, is)) (most, (later, then')) =
    (IsPrefix-trans (output_of s) (output_of t) (output_of u) more most, (read ++ later, is ∙ ap (λ l. read ++ l) then' ∙ sym (append_assoc read later (input_of u))))

pub steps_go_on : (program : Program) (n : ℕ) (s : State) → GoesOnFrom s (steps program n s)
steps_go_on program zero s = same_traces s
steps_go_on program (suc n) s = both_go_on s (step program s) (steps program (suc n) s) (step_goes_on program s) (steps_go_on program n (step program s))

pub limited_steps_go_on : (program : Program) (pages calls n : ℕ) (s : State) → GoesOnFrom s (limited_steps program pages calls n s)
limited_steps_go_on program pages calls zero s = same_traces s
limited_steps_go_on program pages calls (suc n) s =
    both_go_on s (limited_step program pages calls s) (limited_steps program pages calls (suc n) s) (limited_step_goes_on program pages calls s) (limited_steps_go_on program pages calls n (limited_step program pages calls s))

-- ---- the limited run and the unlimited run

-- As long as every state is within the limits, the limited and the unlimited run are equal.
pub limited_agrees : (program : Program) (pages calls n : ℕ) (s : State) → ((j : ℕ) → j ≤ n → is_within pages calls (steps program j s) ≡ true) → limited_steps program pages calls n s ≡ steps program n s
limited_agrees program pages calls zero s within = refl
limited_agrees program pages calls (suc n) s within =
    ap (limited_steps program pages calls n) (limited-within pages calls s (step program s) (within 1 (omega arith)))
    ∙ limited_agrees program pages calls n (step program s) (λ j less. within (suc j) (omega (arith, less)))

-- If a step exceeds the limits on pages or calls, then from that step on the limited run has ended with `Full`.
pub limited_is_full : (program : Program) (pages calls k n : ℕ) (s : State) → ((j : ℕ) → j ≤ k → is_within pages calls (steps program j s) ≡ true) → is_within pages calls (steps program (suc k) s) ≡ false → k < n → limited_steps program pages calls n s ≡ Ended Full (output_of (steps program k s)) (input_of (steps program k s))
limited_is_full program pages calls k zero s within past less = absurd (omega (arith, less))
limited_is_full program pages calls zero (suc n) s within past less =
    ap (limited_steps program pages calls n) (limited-full pages calls s (step program s) past)
    ∙ limited_over_stays program pages calls n (Ended Full (output_of s) (input_of s)) (λ going. let e : HasEnded Full ≡ GoesOn = going in cc)
limited_is_full program pages calls (suc k) (suc n) s within past less =
    ap (limited_steps program pages calls n) (limited-within pages calls s (step program s) (within 1 (omega arith)))
    ∙ limited_is_full program pages calls k n (step program s) (λ j few. within (suc j) (omega (arith, few))) past (omega (arith, less))

limited_choice : (program : Program) (pages calls n : ℕ) (s : State) → status_of (limited_steps program pages calls (suc n) s) ≢ HasEnded Full
    → (status_of (limited_steps program pages calls n (step program s)) ≢ HasEnded Full → limited_steps program pages calls n (step program s) ≡ steps program n (step program s))
    → limited_steps program pages calls (suc n) s ≡ steps program (suc n) s
limited_choice program pages calls n s other rest = go (is_within pages calls (step program s)) refl
  where
    go : (b : Bool) → is_within pages calls (step program s) ≡ b → limited_steps program pages calls (suc n) s ≡ steps program (suc n) s
    go true within =
        let same : limited_step program pages calls s ≡ step program s = limited-within pages calls s (step program s) within in
        ap (limited_steps program pages calls n) same
        ∙ rest (subst (λ t. status_of (limited_steps program pages calls n t) ≢ HasEnded Full) same other)
    go false past =
        let full : limited_steps program pages calls (suc n) s ≡ Ended Full (output_of s) (input_of s) =
        ap (limited_steps program pages calls n) (limited-full pages calls s (step program s) past)
        ∙ limited_over_stays program pages calls n (Ended Full (output_of s) (input_of s)) (λ going. let e : HasEnded Full ≡ GoesOn = going in cc) in
        absurd (other (ap status_of full))

-- A limited run that has not ended for exceeding its limits equals the unlimited run.
pub limited_until_full : (program : Program) (pages calls n : ℕ) (s : State) → status_of (limited_steps program pages calls n s) ≢ HasEnded Full → limited_steps program pages calls n s ≡ steps program n s
limited_until_full program pages calls zero s other = refl
limited_until_full program pages calls (suc n) s other =
    limited_choice program pages calls n s other (limited_until_full program pages calls n (step program s))

-- Every outcome of the run with limits on pages and calls is an outcome of the run without limits, except the
-- end because a limit was exceeded.
pub limited_comes_to : (program : Program) (pages calls n : ℕ) (s : State) (status : Status) → status ≢ HasEnded Full → status_of (limited_steps program pages calls n s) ≡ status → status_of (steps program n s) ≡ status
limited_comes_to program pages calls n s status other is =
    let same : limited_steps program pages calls n s ≡ steps program n s = limited_until_full program pages calls n s (λ full. other (sym is ∙ full)) in
    sym (ap status_of same) ∙ is

-- ---- the start

pub start_not_full : (program : Program) (input : List ℕ) → status_of (start program input) ≢ HasEnded Full
start_not_full program input = outcome_not_full (calls_function {access = false} {nested = Unit {0}} (slice_get program.functions program.main) [] (Main ∷ []) (first_world program input) (λ u. start_nested program input))

pub start_calls : (program : Program) (input : List ℕ) → status_of (start program input) ≡ GoesOn → depth (start program input) ≡ 1
start_calls program input going = outcome_calls (calls_function {access = false} {nested = Unit {0}} (slice_get program.functions program.main) [] (Main ∷ []) (first_world program input) (λ u. start_nested program input)) going

pub run_not_full : (program : Program) (n : ℕ) (s : State) → status_of s ≢ HasEnded Full → status_of (steps program n s) ≢ HasEnded Full
run_not_full program zero s other = other
run_not_full program (suc n) s other = run_not_full program n (step program s) (step_not_full program s other)

-- ---- bytes

byte_printed : {w new : World} {printed : List ℕ} {count : ℕ} → Changes w printed count new → AllByRecursion (λ b. b < 256) printed
byte_printed Keeps = tt
byte_printed (Opens sort) = tt
byte_printed (Closes number r found) = tt
byte_printed (Makes number r kind content found) = tt
byte_printed (MakesIn number r cells found) = tt
byte_printed (MakesUnique cells) = tt
byte_printed (Frees number x there live) = tt
byte_printed (Writes object offset at value found) = tt
byte_printed (Prints word) = (omega arith, tt)
byte_printed Reads = tt

bytes_printed : {nested : Type 0} {w : World} {access : Bool} {printed : List ℕ} {count calls : ℕ} {s : State} → Outcome nested w access printed count calls s → AllByRecursion (λ b. b < 256) printed
bytes_printed (Goes calls changes nests) = byte_printed changes
bytes_printed (Ends ending other) = tt
bytes_printed (Dies alone) = tt
bytes_printed Fails = tt

step_bytes : (program : Program) (s : State) → AllByRecursion (λ b. b < 256) (output_of s) → AllByRecursion (λ b. b < 256) (output_of (step program s))
step_bytes program (Running focus stack e w) bytes =
    subst (AllByRecursion (λ b. b < 256)) (sym (step_prints program focus stack e w))
    (all_append (λ (b : ℕ). b < 256) w.output (printed_by focus) bytes (bytes_printed (outcome program focus stack e w)))
step_bytes program (Ended ending output input) bytes = bytes
step_bytes program (Dead output input) bytes = bytes
step_bytes program (Wrong output input) bytes = bytes

steps_bytes : (program : Program) (n : ℕ) (s : State) → AllByRecursion (λ b. b < 256) (output_of s) → AllByRecursion (λ b. b < 256) (output_of (steps program n s))
steps_bytes program zero s bytes = bytes
steps_bytes program (suc n) s bytes = steps_bytes program n (step program s) (step_bytes program s bytes)

start_output : (program : Program) (input : List ℕ) → output_of (start program input) ≡ []
start_output program input = outcome_printed (calls_function {access = false} {nested = Unit {0}} (slice_get program.functions program.main) [] (Main ∷ []) (first_world program input) (λ u. start_nested program input))

pub run_bytes : (program : Program) (input : List ℕ) (n : ℕ) → AllByRecursion (λ b. b < 256) (output_of (run program input n))
run_bytes program input n = steps_bytes program n (start program input) (subst (AllByRecursion (λ b. b < 256)) (sym (start_output program input)) tt)

-- ---- the limits at the start

pub within_at_start : (program : Program) (pages calls : ℕ) (input : List ℕ) → 1 ≤ pages → 1 ≤ calls → is_within pages calls (start program input) ≡ true
within_at_start program pages calls input some_page some_call = go (slice_get program.functions program.main)
  where
    by_length : (h : Function) (b : Bool) → is_within pages calls (if b then Running (Entering h []) (Main ∷ []) no_locals (first_world program input) else wrong (first_world program input)) ≡ true
    by_length h true = and_from _ _ (le-leb 1 pages some_page) (le-leb 1 calls some_call)
    by_length h false = and_from _ _ (le-leb 0 pages (omega arith)) (le-leb 0 calls (omega arith))

    go : (o : Option Function) → is_within pages calls (called o [] (Main ∷ []) (first_world program input)) ≡ true
    go None = and_from _ _ (le-leb 0 pages (omega arith)) (le-leb 0 calls (omega arith))
    go (Some h) = by_length h (0 == length h.parameters)
