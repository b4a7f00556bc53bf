-- A step with limits: what is seen of it, and how many calls are under way after it.
use Rattle.std.proofs.Common.{◌≡◌, ℕ, zero, suc, ◌+◌, ◌-◌, ◌≤◌, ◌<◌, Bool, true, false, List, [], ◌∷◌, ◌++◌, map, reverse, take, length, drop, Option, Some, refl, ap, sym, ◌∙◌, arith, append-nil}
use Rattle.std.specs.Prelude.{◌==◌, ◌&&◌, nat_le, max, if◌then◌else◌, slice_get}
use Rattle.std.proofs.lemmas.Bool.{eqb-true, eqb-false, le-leb, and_from}
use Rattle.std.proofs.lemmas.List.{map-append, reverse-append}
use Rattle.cyc_words.specs.Ending.{Full}
use Rattle.cyc_types.specs.declared.typed.Callee.TheVariants as callees
use Rattle.cyc_types.specs.TypedTrees.{Program}
use Rattle.cyc_meaning.specs.Values.{Value, Int, Operand}
use Rattle.cyc_meaning.specs.State.{World, Environment, Entry, Caller, Main, Focus, Evaluating, Locating, Given, GivenPlace, Executing, Proceeding, Calling, Entering, Binding, Naming, Writing, Beginning, Repeating, Swapping, Breaking, Continuing, Returning, Throwing, Catching}
use Rattle.cyc_meaning.specs.State.{State, Running, Ended, Dead, Wrong, Status, GoesOn, status_of, output_of, input_of, depth, calls_in}
use Rattle.cyc_meaning.specs.inside.Effects.{printed_by, read_by, calls_after}
use Rattle.cyc_meaning.specs.Step.{prints, reads, values_of, step}
use Rattle.cyc_meaning.specs.Run.{is_within, limited_step, limited_steps}
use Rattle.cyc_meaning.proofs.RunLaws.{step_prints, step_reads, step_calls}
use Rattle.cyc_interpret.specs.declared.entry.Entry.{Entry as EntryCode}
use Rattle.cyc_interpret.specs.View.{view_entry, view_stack}
use Rattle.cyc_interpret.specs.declared.limits.Change.TheVariants as change
use Rattle.cyc_interpret.specs.Run.{is_over, peak_of}
use Rattle.cyc_interpret.specs.inside.Depth.{ends_call, ends_main, change_of, calls_by}

-- ---- limits

pub over_is_within : (pages calls : ℕ) → (nat_le 0 pages && nat_le 0 calls) ≡ true
over_is_within pages calls = and_from _ _ (le-leb 0 pages (omega arith)) (le-leb 0 calls (omega arith))

-- what only prints or reads stays within the limits
module _ (pages calls : ℕ) (focus : Focus) (stack : List Entry) (e : Environment) (w : World) (within : is_within pages calls (Running focus stack e w) ≡ true) where
  prints_within : (values : List Value) → is_within pages calls (prints values stack e w) ≡ true
  prints_within (Int word ∷ []) = within
  prints_within values = over_is_within pages calls

  reads_within : (values : List Value) → is_within pages calls (reads values stack e w) ≡ true
  reads_within [] = within
  reads_within (value ∷ values) = over_is_within pages calls

-- what is seen of a state
abbrev pub SeenAlike : State → State → Type 0
SeenAlike s t = (output_of s ≡ output_of t) × (input_of s ≡ input_of t)

-- a step that goes past a limit prints and reads nothing
module _ (program : Program) (pages calls : ℕ) (stack : List Entry) (e : Environment) (w : World) where
  quiet : (focus : Focus) → printed_by focus ≡ [] → read_by focus ≡ 0 → SeenAlike (step program (Running focus stack e w)) (Running focus stack e w)
  quiet focus none unread = (
    step_prints program focus stack e w ∙ (ap (λ l. w.output ++ l) none ∙ append-nil w.output),
    step_reads program focus stack e w ∙ ap (λ n. drop n w.input) unread,
  )

  past : (focus : Focus) → is_within pages calls (Running focus stack e w) ≡ true → is_within pages calls (step program (Running focus stack e w)) ≡ false → SeenAlike (step program (Running focus stack e w)) (Running focus stack e w)
  past (Calling callees.Putchar arguments) within full = absurd (let e1 = prints_within pages calls (Calling callees.Putchar arguments) stack e w within (values_of arguments) in let no : true ≡ false = sym e1 ∙ full in cc)
  past (Calling callees.Getchar arguments) within full = absurd (let e1 = reads_within pages calls (Calling callees.Getchar arguments) stack e w within (values_of arguments) in let no : true ≡ false = sym e1 ∙ full in cc)
  past (Calling (callees.Function number) arguments) within full = quiet (Calling (callees.Function number) arguments) refl refl
  past (Evaluating a) within full = quiet (Evaluating a) refl refl
  past (Locating d) within full = quiet (Locating d) refl refl
  past (Given value) within full = quiet (Given value) refl refl
  past (GivenPlace place) within full = quiet (GivenPlace place) refl refl
  past (Executing s) within full = quiet (Executing s) refl refl
  past Proceeding within full = quiet Proceeding refl refl
  past (Entering h arguments) within full = quiet (Entering h arguments) refl refl
  past (Binding number types arguments body) within full = quiet (Binding number types arguments body) refl refl
  past (Naming number operand items) within full = quiet (Naming number operand items) refl refl
  past (Writing writes result) within full = quiet (Writing writes result) refl refl
  past (Beginning owner count level kind element) within full = quiet (Beginning owner count level kind element) refl refl
  past (Repeating object count index level kind element) within full = quiet (Repeating object count index level kind element) refl refl
  past (Swapping kind left right before) within full = quiet (Swapping kind left right before) refl refl
  past Breaking within full = quiet Breaking refl refl
  past Continuing within full = quiet Continuing refl refl
  past (Returning value) within full = quiet (Returning value) refl refl
  past (Throwing tag value) within full = quiet (Throwing tag value) refl refl
  past (Catching tag value handler) within full = quiet (Catching tag value handler) refl refl

pub past_alike : (program : Program) (pages calls : ℕ) (s : State) → is_within pages calls s ≡ true → is_within pages calls (step program s) ≡ false → SeenAlike (step program s) s
past_alike program pages calls (Running focus stack e w) within full = past program pages calls stack e w focus within full
past_alike program pages calls (Ended ending output input) within full = (refl, refl)
past_alike program pages calls (Dead output input) within full = (refl, refl)
past_alike program pages calls (Wrong output input) within full = (refl, refl)

-- so the end in its place may be made after the step
pub limited_after : (program : Program) (pages calls : ℕ) (s t : State) → is_within pages calls s ≡ true → t ≡ step program s
    → (if is_within pages calls t then t else Ended Full (output_of t) (input_of t)) ≡ limited_step program pages calls s
limited_after program pages calls s t within is = go
  where
    alike : (b : Bool) → is_within pages calls (step program s) ≡ b → (if b then step program s else Ended Full (output_of (step program s)) (input_of (step program s))) ≡ (if b then step program s else Ended Full (output_of s) (input_of s))
    alike true e = refl
    alike false e =
        let seen = past_alike program pages calls s within e in
        ap (λ (o : List ℕ). Ended Full o (input_of (step program s))) seen.0 ∙ ap (λ (i : List ℕ). Ended Full (output_of s) i) seen.1

    go : (if is_within pages calls t then t else Ended Full (output_of t) (input_of t)) ≡ (if is_within pages calls (step program s) then step program s else Ended Full (output_of s) (input_of s))
    go =
        ap (λ (x : State). if is_within pages calls x then x else Ended Full (output_of x) (input_of x)) is
        ∙ alike (is_within pages calls (step program s)) refl

-- ---- calls

-- the newest entry
split_last : {A : Type 0} (xs : List A) (n : ℕ) (x : A) → length xs ≡ suc n → slice_get xs n ≡ Some x → xs ≡ take n xs ++ x ∷ []
split_last [] n x is at = absurd (omega (arith, is))
split_last (a ∷ []) zero x is at = let e : Some a ≡ Some x = at in let same : a ≡ x = cc in ap (λ y. y ∷ []) same
split_last (a ∷ b ∷ xs) zero x is at = absurd (let e : suc (suc (length xs)) ≡ 1 = is in omega (arith, e))
split_last (a ∷ xs) (suc n) x is at = ap (λ ys. a ∷ ys) (split_last xs n x (let e : suc (length xs) ≡ suc (suc n) = is in omega (arith, e)) at)

pub top_of : (es : List EntryCode) (n : ℕ) (x : EntryCode) → length es ≡ suc n → slice_get es n ≡ Some x → view_stack es ≡ view_entry x ∷ view_stack (take n es)
top_of es n x is at =
    ap (λ (ys : List EntryCode). reverse (map view_entry ys)) (split_last es n x is at)
    ∙ (ap reverse (map-append view_entry (take n es) (x ∷ []))
    ∙ reverse-append (map view_entry (take n es)) (view_entry x ∷ []))

pub bottom_of : (es : List EntryCode) → length es ≡ 0 → view_stack es ≡ []
bottom_of [] is = refl
bottom_of (x ∷ es) is = absurd (let e : suc (length es) ≡ 0 = is in omega (arith, e))

-- how many calls are under way after a step
proceeded : (stack : List Entry) → calls_after Proceeding stack ≡ calls_by change.Ends stack
proceeded [] = refl
proceeded (Caller outer ∷ stack) = omega arith
proceeded (entry ∷ stack) = refl

returned : (value : Option Operand) (stack : List Entry) → calls_after (Returning value) stack ≡ calls_by change.Ends stack
returned value [] = refl
returned value (Caller outer ∷ stack) = omega arith
returned value (entry ∷ stack) = refl

thrown_calls : (stack : List Entry) (tag value : ℕ) → calls_after (Throwing tag value) stack ≡ calls_by change.Throws stack
thrown_calls [] tag value = refl
thrown_calls (Caller outer ∷ stack) tag value = omega arith
thrown_calls (Main ∷ stack) tag value = omega arith
thrown_calls (entry ∷ stack) tag value = refl

pub calls_after_is : (focus : Focus) (stack : List Entry) → calls_after focus stack ≡ calls_by (change_of focus) stack
calls_after_is (Calling callees.Putchar arguments) stack = refl
calls_after_is (Calling callees.Getchar arguments) stack = refl
calls_after_is (Calling (callees.Function number) arguments) stack = refl
calls_after_is Proceeding stack = proceeded stack
calls_after_is (Returning value) stack = returned value stack
calls_after_is (Throwing tag value) stack = thrown_calls stack tag value
calls_after_is focus stack = refl

pub calls_after_step : (program : Program) (focus : Focus) (stack : List Entry) (e : Environment) (w : World) → status_of (step program (Running focus stack e w)) ≡ GoesOn
    → depth (step program (Running focus stack e w)) ≡ calls_by (change_of focus) stack
calls_after_step program focus stack e w going = step_calls program focus stack e w going ∙ calls_after_is focus stack

pub calls_few : (stack : List Entry) → calls_in stack ≤ length stack
calls_few [] = omega arith
calls_few (Caller e ∷ stack) = omega (arith, calls_few stack)
calls_few (Main ∷ stack) = omega (arith, calls_few stack)
calls_few (entry ∷ stack) = omega (arith, calls_few stack)

pub some_call : (stack : List Entry) → ends_call stack ≡ true → 1 ≤ calls_in stack
some_call [] ends = absurd (let e : false ≡ true = ends in cc)
some_call (Caller e ∷ stack) ends = omega arith
some_call (entry ∷ stack) ends = absurd (let e : false ≡ true = ends in cc)

pub some_main : (stack : List Entry) → ends_main stack ≡ true → 1 ≤ calls_in stack
some_main [] ends = absurd (let e : false ≡ true = ends in cc)
some_main (Main ∷ stack) ends = omega arith
some_main (entry ∷ stack) ends = absurd (let e : false ≡ true = ends in cc)

-- ---- runs

limited_steps-last : (program : Program) (pages calls n : ℕ) (s : State) → limited_steps program pages calls (suc n) s ≡ limited_step program pages calls (limited_steps program pages calls n s)
limited_steps-last program pages calls zero s = refl
limited_steps-last program pages calls (suc n) s = limited_steps-last program pages calls n (limited_step program pages calls s)

pub steps_more : (program : Program) (pages calls n m : ℕ) (s : State) → m ≡ n + 1 → limited_steps program pages calls m s ≡ limited_step program pages calls (limited_steps program pages calls n s)
steps_more program pages calls n m s is =
    let next : m ≡ suc n = omega (arith, is) in
    ap (λ (k : ℕ). limited_steps program pages calls k s) next ∙ limited_steps-last program pages calls n s

pub peak_more : (value : ℕ → ℕ) (n m : ℕ) → m ≡ n + 1 → peak_of value m ≡ max (peak_of value n) (value m)
peak_more value n m is =
    let next : m ≡ suc n = omega (arith, is) in
    ap (λ (k : ℕ). peak_of value k) next ∙ ap (λ (k : ℕ). max (peak_of value n) (value k)) (sym next)

-- no step is taken after the end
pub going_more : (status : ℕ → Status) (n m : ℕ) → m ≡ n + 1 → ((k : ℕ) → k < n → status k ≡ GoesOn) → status n ≡ GoesOn → (k : ℕ) → k < m → status k ≡ GoesOn
going_more status n m is before now k less = go (k == n) refl
  where
    go : (b : Bool) → (k == n) ≡ b → status k ≡ GoesOn
    go true e = ap status (eqb-true k n e) ∙ now
    go false e = before k (let other = eqb-false k n e in omega (arith, is, less, other))

pub goes_on_where_not_over : (s : State) → is_over s ≡ false → status_of s ≡ GoesOn
goes_on_where_not_over (Running focus stack e w) on = refl
goes_on_where_not_over (Ended ending output input) on = absurd (let e : true ≡ false = on in cc)
goes_on_where_not_over (Dead output input) on = absurd (let e : true ≡ false = on in cc)
goes_on_where_not_over (Wrong output input) on = absurd (let e : true ≡ false = on in cc)

pub peak_next : (value : ℕ → ℕ) (n most now result : ℕ) → most ≡ peak_of value n → now ≡ value (n + 1) → result ≡ max most now → result ≡ peak_of value (n + 1)
peak_next value n most now result before is greatest =
    greatest ∙ (ap (λ (k : ℕ). max k now) before ∙ (ap (λ (k : ℕ). max (peak_of value n) k) is ∙ sym (peak_more value n (n + 1) refl)))
