-- Regions of blocks and lexical regions nest in every state of a run. Only an access step can be dead (use freed memory), and an
-- exception that no `try` encloses pops all control-stack entries.
use Rattle.std.proofs.Common.{◌≡◌, ℕ, zero, suc, ◌+◌, Bool, true, false, List, [], ◌∷◌, length, refl, sym, ap, subst, ◌∙◌}
use Rattle.std.specs.Prelude.{slice_get}
use Rattle.cyc_words.specs.Ending.{Uncaught}
use Rattle.cyc_words.specs.Word.{signed}
use Rattle.cyc_types.specs.TypedTrees.{Program}
use Rattle.cyc_meaning.specs.State.{Region, World, Access, Found, Closed, Missing, region_at, closed, first_world, Environment, Entry, Needs, NeedsPlace, Discard, Rest, Join, Loop, CloseRegion}
use Rattle.cyc_meaning.specs.State.{CloseLexical, EndLoan, Handler, Caller, Main, Focus, Throwing, State, Running, Ended, Dead, Wrong, GoesOn, HasEnded, IsDead, IsWrong, status_of}
use Rattle.cyc_meaning.specs.Parts.{closing}
use Rattle.cyc_meaning.specs.Regions.{closing_lexical}
use Rattle.cyc_meaning.specs.Step.{step, stepped}
use Rattle.cyc_meaning.specs.Run.{start, steps, run}
use Rattle.cyc_meaning.specs.inside.Nesting.{IsFound, IsNested, is_access, Nests, IsUntried}
use Rattle.cyc_meaning.proofs.RunLaws.{start_nested, steps-add, steps-last}
use Rattle.cyc_meaning.proofs.NestingLemmas.{nested_closed, nested_closed_lexical, nested_return}
use Rattle.cyc_meaning.proofs.Outcomes.{Outcome, Goes, Ends, Dies, Fails, outcome, calls_function}

-- ---- runs

outcome_nests : {nested : Type 0} {w : World} {access : Bool} {printed : List ℕ} {count calls : ℕ} {s : State} → Outcome nested w access printed count calls s → nested → Nests s
outcome_nests (Goes calls changes nests) h = nests h
outcome_nests (Ends ending other) h = tt
outcome_nests (Dies alone) h = tt
outcome_nests Fails h = tt

pub nests_step : (program : Program) (s : State) → Nests s → Nests (step program s)
nests_step program (Running focus stack e w) h = outcome_nests (outcome program focus stack e w) h
nests_step program (Ended ending output input) h = tt
nests_step program (Dead output input) h = tt
nests_step program (Wrong output input) h = tt

pub nests_steps : (program : Program) (n : ℕ) (s : State) → Nests s → Nests (steps program n s)
nests_steps program zero s h = h
nests_steps program (suc n) s h = nests_steps program n (step program s) (nests_step program s h)

pub nests_start : (program : Program) (input : List ℕ) → Nests (start program input)
nests_start program input =
    outcome_nests (calls_function {access = false} {nested = Unit {0}} (slice_get program.functions program.main) [] (Main ∷ []) (first_world program input) (λ u. start_nested program input)) tt

pub nests_run : (program : Program) (input : List ℕ) (n : ℕ) → Nests (run program input n)
nests_run program input n = nests_steps program n (start program input) (nests_start program input)

-- If a step from a nested state is dead (uses freed memory), then the step is an access.
access_alone : {nested : Type 0} {w : World} {access : Bool} {printed : List ℕ} {count calls : ℕ} {s : State} → Outcome nested w access printed count calls s → nested → status_of s ≡ IsDead → access ≡ true
access_alone (Goes calls changes nests) h is = absurd (let k : GoesOn ≡ IsDead = is in cc)
access_alone (Ends ending other) h is = absurd (let k : HasEnded ending ≡ IsDead = is in cc)
access_alone (Dies alone) h is = alone h
access_alone Fails h is = absurd (let k : IsWrong ≡ IsDead = is in cc)

pub only_accesses_die : (program : Program) (input : List ℕ) (n : ℕ) (focus : Focus) (stack : List Entry) (e : Environment) (w : World) → run program input n ≡ Running focus stack e w → status_of (run program input (suc n)) ≡ IsDead → is_access focus stack ≡ true
only_accesses_die program input n focus stack e w is dies =
    let h : IsNested stack e w = subst Nests is (nests_run program input n) in
    let next : run program input (suc n) ≡ stepped program focus stack e w = steps-last program n (start program input) ∙ ap (step program) is in
    access_alone (outcome program focus stack e w) h (sym (ap status_of next) ∙ dies)

-- ---- exceptions

left : (program : Program) (tag value region home : ℕ) (stack : List Entry) (e : Environment) (w : World) → IsNested (CloseRegion region home ∷ stack) e w
    → ((r : Region) → steps program (suc (length stack)) (Running (Throwing tag value) stack (record e { home = home }) (closed w region r)) ≡ Ended (Uncaught tag (signed value)) w.output w.input)
    → (a : Access Region) → region_at w region ≡ a
    → steps program (suc (length stack)) (closing a (Throwing tag value) region home stack e w) ≡ Ended (Uncaught tag (signed value)) w.output w.input
left program tag value region home stack e w h rest (Found r) found = rest r
left program tag value region home stack e w h rest Closed found = absurd (subst IsFound found h.0.0)
left program tag value region home stack e w h rest Missing found = absurd (subst IsFound found h.0.0)

left_lexical : (program : Program) (tag value region : ℕ) (stack : List Entry) (e : Environment) (w : World) → IsNested (CloseLexical region ∷ stack) e w
    → ((r : Region) → steps program (suc (length stack)) (Running (Throwing tag value) stack e (closed w region r)) ≡ Ended (Uncaught tag (signed value)) w.output w.input)
    → (a : Access Region) → region_at w region ≡ a
    → steps program (suc (length stack)) (closing_lexical a (Throwing tag value) region stack e w) ≡ Ended (Uncaught tag (signed value)) w.output w.input
left_lexical program tag value region stack e w h rest (Found r) found = rest r
left_lexical program tag value region stack e w h rest Closed found = absurd (subst IsFound found h.0.0)
left_lexical program tag value region stack e w h rest Missing found = absurd (subst IsFound found h.0.0)

-- An exception that no `try` encloses pops all control-stack entries, one per step, and then the run ends.
unwinds_untried : (program : Program) (tag value : ℕ) (stack : List Entry) (e : Environment) (w : World) → IsNested stack e w → IsUntried stack → steps program (suc (length stack)) (Running (Throwing tag value) stack e w) ≡ Ended (Uncaught tag (signed value)) w.output w.input
unwinds_untried program tag value [] e w h free = refl
unwinds_untried program tag value (Needs a ∷ stack) e w h free = unwinds_untried program tag value stack e w h free
unwinds_untried program tag value (NeedsPlace a ∷ stack) e w h free = unwinds_untried program tag value stack e w h free
unwinds_untried program tag value (Discard ∷ stack) e w h free = unwinds_untried program tag value stack e w h free
unwinds_untried program tag value (Rest items ∷ stack) e w h free = unwinds_untried program tag value stack e w h free
unwinds_untried program tag value (Join ∷ stack) e w h free = unwinds_untried program tag value stack e w h free
unwinds_untried program tag value (Loop condition body ∷ stack) e w h free = unwinds_untried program tag value stack e w h free
unwinds_untried program tag value (CloseRegion region home ∷ stack) e w h free =
    left program tag value region home stack e w h (λ r. unwinds_untried program tag value stack (record e { home = home }) (closed w region r) (nested_closed region home r stack e w h) free) (region_at w region) refl
unwinds_untried program tag value (CloseLexical region ∷ stack) e w h free =
    left_lexical program tag value region stack e w h (λ r. unwinds_untried program tag value stack e (closed w region r) (nested_closed_lexical region r stack e w h) free) (region_at w region) refl
unwinds_untried program tag value (EndLoan lent ∷ stack) e w h free = unwinds_untried program tag value stack e w h free
unwinds_untried program tag value (Handler handler ∷ stack) e w h free = absurd free
unwinds_untried program tag value (Caller outer ∷ stack) e w h free = unwinds_untried program tag value stack outer w (nested_return stack e outer w h) free
unwinds_untried program tag value (Main ∷ stack) e w h free = unwinds_untried program tag value stack e w h free

pub uncaught_ends : (program : Program) (input : List ℕ) (n tag value : ℕ) (stack : List Entry) (e : Environment) (w : World) → run program input n ≡ Running (Throwing tag value) stack e w → IsUntried stack → run program input (n + suc (length stack)) ≡ Ended (Uncaught tag (signed value)) w.output w.input
uncaught_ends program input n tag value stack e w is free =
    steps-add program n (suc (length stack)) (start program input)
    ∙ ap (steps program (suc (length stack))) is
    ∙ unwinds_untried program tag value stack e w (subst Nests is (nests_run program input n)) free
