-- The effect of a step of the plain machine that executes a given instruction.
use Rattle.std.proofs.Common.{◌≡◌, ℕ, zero, suc, ◌+◌, ◌<◌, true, List, [], ◌∷◌, length, map, Option, Some, None, slice_get, sym, ap, subst, ◌∙◌, arith, inl, inr}
use Rattle.std.specs.Prelude.{Contains}
use Rattle.std.proofs.lemmas.Bool.{cases_lt}
use Rattle.std.proofs.lemmas.List.{get_or_past}
use Rattle.std.proofs.lemmas.Option.{slice_get-get_or}
use Rattle.std.proofs.lemmas.List.Elements.{Contains-append_left, Contains-append_right}
use Rattle.std.proofs.lemmas.List.FromFn.{get_or-map-range_with_len, length-map-range_with_len}
use Rattle.std.specs.List.{range_with_len}
use Rattle.cyc_words.specs.Ending.{Full}
use Rattle.cyc_words.proofs.Items.{below_from_slice_get}
use Rattle.cyc_store.specs.Services as services
use Rattle.cyc_store.specs.Services.{Call, refusal}
use Rattle.cyc_plain.specs.declared.instruction.Instruction.{Instruction}
use Rattle.cyc_plain.specs.declared.instruction.Instruction.TheVariants as instructions
use Rattle.cyc_plain.specs.declared.instruction.Request.{Request}
use Rattle.cyc_plain.specs.inside.Requests.{destination_of}
use Rattle.cyc_plain.specs.inside.Program.{Routine, Program, CodePlace, no_routine, routine_at, places_from, places_of}
use Rattle.cyc_plain.specs.inside.State.{Configuration, State, Running, Ended, place_of}
use Rattle.cyc_plain.specs.inside.Step.{Choice, IsAllowed, IsServed, MayServe, call_in, call_of, served_to, asks, performed, executed, instruction_at, step, is_within, limit_of, limit_at, limited, limited_step, Step}
use Rattle.cyc_plain.proofs.RunLaws.{limited-within, over_within}

-- Each step has the effect of the instruction that comes next, if this effect stays within the limits for
-- every choice that the step may make.
pub step_performs : (program : Program) (pages calls : ℕ) (c : Configuration) (i : Instruction) (new : State)
    → instruction_at program (place_of (Running c)) ≡ Some i
    → ((choice : Choice) → is_within pages (limit_of (Some i) calls) (performed program choice c i) ≡ true)
    → Step program pages calls (Running c) new
    → (choice : Choice) × IsAllowed program (Running c) choice × (new ≡ performed program choice c i)
step_performs program pages calls c i new at within (choice, allowed, is) =
    let does : step program choice (Running c) ≡ performed program choice c i = ap (executed program choice c) at in
    let keeps : is_within pages (limit_of (Some i) calls) (step program choice (Running c)) ≡ true = ap (is_within pages (limit_of (Some i) calls)) does ∙ within choice in
    let limit : limit_at program (Running c) calls ≡ limit_of (Some i) calls = ap (λ (o : Option Instruction). limit_of o calls) at in
    (choice, allowed, is ∙ ap (λ (n : ℕ). limited pages n (Running c) (step program choice (Running c))) limit ∙ limited-within pages (limit_of (Some i) calls) (Running c) (step program choice (Running c)) keeps ∙ does)

-- The module shows that a step with a request to the store serves it by a handle, an address and memory contents that the store allows. If
-- the store lacks memory for the request's result, the step ends the run.
module _ (program : Program) (pages calls : ℕ) (c : Configuration) (request : Request) (new : State)
    (at : instruction_at program (place_of (Running c)) ≡ Some (instructions.Ask request)) (stepped : Step program pages calls (Running c) new) where
  abbrev call : Call
  call = call_in c.active.slots request

  same_limit : (choice : Choice) → limited_step program pages calls choice (Running c) ≡ limited pages calls (Running c) (step program choice (Running c))
  same_limit choice = ap (λ (o : Option Instruction). limited pages (limit_of o calls) (Running c) (step program choice (Running c))) at

  pub step_serves : refusal c.store (call_in c.active.slots request) ≡ None
      → ((choice : services.Choice) → IsServed c.store (call_in c.active.slots request) choice → is_within pages calls (Running (served_to choice c (destination_of request) (call_in c.active.slots request))) ≡ true)
      → (choice : services.Choice) × IsServed c.store (call_in c.active.slots request) choice × (new ≡ Running (served_to choice c (destination_of request) (call_in c.active.slots request)))
  step_serves free within =
      let choice : Choice = stepped.0 in
      let serves : IsServed c.store call choice.serving =
      subst (λ (o : Option Call). MayServe choice.serving o (Running c)) (ap (call_of c.active.slots) at) stepped.1.serves free in
      let does : step program choice (Running c) ≡ Running (served_to choice.serving c (destination_of request) call) =
      ap (executed program choice c) at ∙ ap (asks choice.serving c (destination_of request) call) free in
      let keeps : is_within pages calls (step program choice (Running c)) ≡ true = ap (is_within pages calls) does ∙ within choice.serving serves in
      (choice.serving, serves, stepped.2 ∙ same_limit choice ∙ limited-within pages calls (Running c) (step program choice (Running c)) keeps ∙ does)

  pub step_full : refusal c.store (call_in c.active.slots request) ≡ Some services.Full → new ≡ Ended Full c.output c.input
  step_full full =
      let choice : Choice = stepped.0 in
      let does : step program choice (Running c) ≡ Ended Full c.output c.input =
      ap (executed program choice c) at ∙ ap (asks choice.serving c (destination_of request) call) full in
      let keeps : is_within pages calls (step program choice (Running c)) ≡ true = ap (is_within pages calls) does ∙ over_within pages calls Full c.output c.input in
      stepped.2 ∙ same_limit choice ∙ limited-within pages calls (Running c) (step program choice (Running c)) keeps ∙ does

-- If a code position has an instruction, its function exists in the program.
pub function_known : (program : Program) (place : CodePlace) (i : Instruction) → instruction_at program place ≡ Some i → place.function < length program.functions
function_known program place i at = elim (cases_lt place.function (length program.functions)) [
  | inl below ↦ below
  | inr past ↦
      let empty : routine_at program place.function ≡ no_routine = get_or_past program.functions place.function no_routine past in
      let nothing : slice_get no_routine.code place.index ≡ Some i = ap (λ (r : Routine). slice_get r.code place.index) (sym empty) ∙ at in
      absurd (let e : None ≡ Some i = nothing in cc)
]

in_function : (function n i : ℕ) → i < n → Contains (map (λ (k : ℕ). let place : CodePlace = record { function = function; index = k } in place) (range_with_len 0 n)) (record { function = function; index = i })
in_function function n i below =
    let place_at : ℕ → CodePlace = λ (k : ℕ). record { function = function; index = k } in
    let long = length-map-range_with_len place_at 0 n in
    let start : 0 + i ≡ i = omega arith in
    (i, omega (arith, below, long), get_or-map-range_with_len place_at 0 n i i (place_at i) below start)

in_functions : (first k i : ℕ) (routines : List Routine) (r : Routine) → slice_get routines k ≡ Some r → i < length r.code → Contains (places_from first routines) (record { function = first + k; index = i })
in_functions first k i [] r at below = absurd (let e : None ≡ Some r = at in cc)
in_functions first zero i (s ∷ routines) r at below =
    let same : s ≡ r = let e : Some s ≡ Some r = at in cc in
    let shorter : i < length s.code = subst (λ (x : Routine). i < length x.code) (sym same) below in
    let here : first ≡ first + 0 = omega arith in
    Contains-append_left _ (places_from (suc first) routines) _
    (subst (λ (f : ℕ). Contains (map (λ (j : ℕ). let place : CodePlace = record { function = first; index = j } in place) (range_with_len 0 (length s.code))) (record { function = f; index = i })) here (in_function first (length s.code) i shorter))
in_functions first (suc k) i (s ∷ routines) r at below =
    let next : suc first + k ≡ first + suc k = omega arith in
    Contains-append_right _ (places_from (suc first) routines) _
    (subst (λ (f : ℕ). Contains (places_from (suc first) routines) (record { function = f; index = i })) next (in_functions (suc first) k i routines r at below))

-- Each code position with an instruction is among the positions that `places_of` lists.
pub place_known : (program : Program) (place : CodePlace) (i : Instruction) → instruction_at program place ≡ Some i → Contains (places_of program) place
place_known program place i at =
    let known = slice_get-get_or program.functions place.function no_routine (function_known program place i at) in
    let same : 0 + place.function ≡ place.function = omega arith in
    subst (λ (f : ℕ). Contains (places_of program) (record { function = f; index = place.index })) same
    (in_functions 0 place.function place.index program.functions (routine_at program place.function) known (below_from_slice_get (routine_at program place.function).code place.index i at))
