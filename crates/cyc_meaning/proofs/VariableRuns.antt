-- In every state of a run, each live variable of a block is a local of an active call. The proof requires that the indices of
-- locals increase along the program text.
use Rattle.std.proofs.Common.{◌≡◌, ℕ, zero, suc, ◌≤◌, Bool, true, false, List, [], ◌∷◌, length, map, Option, Some, None, refl, sym, subst, inl, inr, arith}
use Rattle.std.specs.Prelude.{◌==◌, ◌<◌, if◌then◌else◌, slice_get}
use Rattle.std.proofs.lemmas.Bool.{cases_lt}
use Rattle.std.proofs.lemmas.List.{length-map}
use Rattle.cyc_types.specs.TypedTrees.{MoreItems, Declare, GlobalVariable, Function, Program}
use Rattle.cyc_types.specs.typing.WellTyped.{IsWellTypedProgram}
use Rattle.cyc_meaning.specs.State.{Region, Object, found_region, World, first_world, globals_number, global_object, no_locals, Environment, Initialise, Entry, Needs, Rest, CloseRegion, CloseLexical, Caller, Main, Focus, Evaluating, Locating}
use Rattle.cyc_meaning.specs.State.{Given, GivenPlace, Executing, Proceeding, Calling, Entering, Binding, Naming, Writing, Beginning, Repeating, Swapping, Breaking, Continuing, Returning, Throwing, Catching, State, Running, Ended, Dead, Wrong}
use Rattle.cyc_meaning.specs.inside.Nesting.{ends_of, IsFound, AreBelow, IsNested, Nests}
use Rattle.cyc_meaning.specs.Step.{wrong, called, step, stepped}
use Rattle.cyc_meaning.specs.Run.{start, steps, run, limited_step}
use Rattle.cyc_meaning.specs.inside.Variables.{FunctionsRise, LivesIn, IsShut, Locals, waiting, IsLocal, IsOfCall, AreLow, LiveInBlocks, WaitInBlocks, HaveNames, AreDistinct, AreNamed, HasNames, declared_by}
use Rattle.cyc_meaning.proofs.NestingLemmas.{globals_found}
use Rattle.cyc_meaning.proofs.RunLaws.{limited_cases}
use Rattle.cyc_meaning.proofs.Nested.{nests_step, nests_start, nests_run}
use Rattle.cyc_meaning.proofs.VariableLemmas.{lives_once, lives_below}
use Rattle.cyc_meaning.proofs.VariableChanges.{local_here}
use Rattle.cyc_meaning.proofs.VariableDeclared.{former_left}
use Rattle.cyc_meaning.proofs.VariableParts.{low_less, Stays, Goes, Ends, Dies, Fails, Begins, sooner}
use Rattle.cyc_meaning.proofs.VariableValues.{named_evaluating, named_locating, named_given, named_given_place, named_writing, named_beginning, named_repeating, named_swapping_values}
use Rattle.cyc_meaning.proofs.VariableSteps.{none_low, named_executing, named_proceeding, named_calling, named_entering, named_binding, named_naming, named_breaking, named_continuing, named_returning, named_throwing, named_catching}
use Rattle.cyc_meaning.proofs.Rising.{functions_rise}

-- ---- a step

named_stepped : {globals : ℕ} (program : Program) → FunctionsRise program → (focus : Focus) (stack : List Entry) (e : Environment) (w : World) → Begins globals focus stack e w (stepped program focus stack e w)
named_stepped program rise (Evaluating a) stack e w = sooner (named_evaluating a stack e w) (λ h. (h.0, h.1.1))
named_stepped program rise (Locating d) stack e w = sooner (named_locating program d stack e w) (λ h. (h.0, h.1.1))
named_stepped program rise (Given value) stack e w = sooner (named_given value stack e w) (λ h. (h.0, h.1.1))
named_stepped program rise (GivenPlace place) stack e w = sooner (named_given_place place stack e w) (λ h. (h.0, h.1.1))
named_stepped program rise (Executing s) stack e w = named_executing s stack e w
named_stepped program rise Proceeding stack e w = sooner (named_proceeding stack e w) (λ h. (h.0, h.1.1))
named_stepped program rise (Calling callee arguments) stack e w = sooner (named_calling program callee arguments stack e w rise) (λ h. (h.0, h.1.1))
named_stepped program rise (Entering h arguments) stack e w = named_entering h arguments stack e w
named_stepped program rise (Binding number types arguments body) stack e w = named_binding number types arguments body stack e w
named_stepped program rise (Naming number operand items) stack e w = named_naming number operand items stack e w
named_stepped program rise (Writing writes result) stack e w = sooner (named_writing writes result stack e w) (λ h. (h.0, h.1.1))
named_stepped program rise (Beginning owner count level kind element) stack e w = sooner (named_beginning owner count level kind element stack e w) (λ h. (h.0, h.1.1))
named_stepped program rise (Repeating object count index level kind element) stack e w = sooner (named_repeating object count index level kind element stack e w) (λ h. (h.0, h.1.1))
named_stepped program rise (Swapping kind left right before) stack e w = sooner (named_swapping_values kind left right before stack e w) (λ h. (h.0, h.1.1))
named_stepped program rise Breaking stack e w = sooner (named_breaking stack e w) (λ h. (h.0, h.1.1))
named_stepped program rise Continuing stack e w = sooner (named_continuing stack e w) (λ h. (h.0, h.1.1))
named_stepped program rise (Returning value) stack e w = sooner (named_returning value stack e w) (λ h. (h.0, h.1.1))
named_stepped program rise (Throwing tag value) stack e w = sooner (named_throwing tag value stack e w) (λ h. (h.0, h.1.1))
named_stepped program rise (Catching tag value handler) stack e w = named_catching tag value handler stack e w

comes : {globals : ℕ} {known : Type 0} {s : State} → Stays globals known s → known → HasNames globals s
comes (Goes names) h = names h
comes Ends h = tt
comes Dies h = tt
comes Fails h = tt

pub names_step : (globals : ℕ) (program : Program) → FunctionsRise program → (s : State) → Nests s → HasNames globals s → HasNames globals (step program s)
names_step globals program rise (Running focus stack e w) nests h = comes (named_stepped program rise focus stack e w) (nests, h)
names_step globals program rise (Ended ending output input) nests h = tt
names_step globals program rise (Dead output input) nests h = tt
names_step globals program rise (Wrong output input) nests h = tt

-- Each step of a limited run keeps the invariant that each live variable is a global or a local of an active call.
pub names_kept : (globals : ℕ) (program : Program) → FunctionsRise program → (pages calls : ℕ) (old new : State) → Nests old → HasNames globals old → new ≡ limited_step program pages calls old → HasNames globals new
names_kept globals program rise pages calls old new nests h is =
    subst (HasNames globals) (sym is) (limited_cases (HasNames globals) pages calls old (step program old) (λ within. names_step globals program rise old nests h) (λ full. tt))

-- The invariant that regions nest, together with the invariant that each live variable is a global or a local of an active call.
abbrev pub NestsAndNames : (globals : ℕ) → State → Type 0
NestsAndNames globals s = Nests s × HasNames globals s

pub both_kept : (globals : ℕ) (program : Program) → FunctionsRise program → (pages calls : ℕ) (old new : State) → NestsAndNames globals old → new ≡ limited_step program pages calls old → NestsAndNames globals new
both_kept globals program rise pages calls old new h is = (
  subst Nests (sym is) (limited_cases Nests pages calls old (step program old) (λ within. nests_step program old h.0) (λ full. tt)),
  names_kept globals program rise pages calls old new h.0 h.1 is,
)

-- ---- the start state

globals_live : (gs : List GlobalVariable) (object region : ℕ) → LivesIn (map global_object gs) object region → region ≡ globals_number
globals_live [] object region lives = absurd (let e : None ≡ Some region = lives in cc)
globals_live (g ∷ gs) zero region lives = let e : Some globals_number ≡ Some region = lives in let k : globals_number ≡ region = cc in sym k
globals_live (g ∷ gs) (suc object) region lives = globals_live gs object region lives

globals_there : (gs : List GlobalVariable) (object : ℕ) → object < length gs → LivesIn (map global_object gs) object globals_number
globals_there [] object less = absurd (omega (arith, less))
globals_there (g ∷ gs) zero less = refl
globals_there (g ∷ gs) (suc object) less = globals_there gs object (omega (arith, less))

none_local : (call number object : ℕ) → IsLocal (no_locals.locals ∷ []) call number object → ⊥
none_local zero number object is = absurd (let e : None ≡ Some object = local_here no_locals.locals [] number object is in cc)
none_local (suc call) number object is = absurd (let e : None ≡ Some is.0 = is.1 in cc)

start_named : (program : Program) (input : List ℕ) → AreNamed (length program.globals) (Main ∷ []) no_locals.locals (first_world program input).objects (first_world program input).regions
start_named program input = (
  tt,
  (λ number object is. absurd (let e : None ≡ Some object = is in cc)),
  tt,
  (λ object region r lives there has. (
      let less : object < length (map global_object program.globals) = lives_below (map global_object program.globals) object region lives in
      inl (omega (arith, less, length-map program.globals global_object)))),
  (λ call other number beside object first second. absurd (none_local call number object first)),
  globals_there program.globals,
  (λ object region lives. (let e : region ≡ 1 = globals_live program.globals object region lives in let less : region < 2 = omega (arith, e) in less)),
)

pub names_start : (program : Program) (input : List ℕ) → FunctionsRise program → HasNames (length program.globals) (start program input)
names_start program input rise = go (slice_get program.functions program.main) refl
  where
    go : (o : Option Function) → slice_get program.functions program.main ≡ o → HasNames (length program.globals) (called o [] (Main ∷ []) (first_world program input))
    go (Some h) there = fits (0 == length h.parameters)
      where
        fits : (b : Bool) → HasNames (length program.globals) (if b then Running (Entering h []) (Main ∷ []) no_locals (first_world program input) else wrong (first_world program input))
        fits true = ((rise program.main h there, none_low (Main ∷ []) (first_world program input).objects), start_named program input)
        fits false = tt
    go None there = tt

-- ---- runs

names_steps : (globals : ℕ) (program : Program) → FunctionsRise program → (n : ℕ) (s : State) → Nests s → HasNames globals s → HasNames globals (steps program n s)
names_steps globals program rise zero s nests h = h
names_steps globals program rise (suc n) s nests h =
    names_steps globals program rise n (step program s) (nests_step program s nests) (names_step globals program rise s nests h)

pub names_run : (program : Program) → IsWellTypedProgram program → (input : List ℕ) (n : ℕ) → HasNames (length program.globals) (run program input n)
names_run program typed input n =
    let rise = functions_rise program typed in
    names_steps (length program.globals) program rise n (start program input) (nests_start program input) (names_start program input rise)

-- ---- a local is not a global

-- The region of a block has a greater index than the region of the globals.
globals_least : (stack : List Entry) (bound : ℕ) → AreBelow bound (ends_of stack) → globals_number < bound
globals_least [] bound below = below.0
globals_least (CloseRegion ending home ∷ stack) bound (less, below) = let lower : globals_number < ending = globals_least stack ending below in omega (arith, less, lower)
globals_least (CloseLexical ending ∷ stack) bound (less, below) = let lower : globals_number < ending = globals_least stack ending below in omega (arith, less, lower)
globals_least (entry ∷ stack) bound below = globals_least stack bound below

globals_of_none : (stack : List Entry) (bound : ℕ) → AreBelow bound (ends_of stack) → IsOfCall globals_number stack → ⊥
globals_of_none [] bound below of_call = of_call
globals_of_none (CloseRegion ending home ∷ stack) bound (less, below) of_call = elim of_call [
  | inl same ↦ (let lower : globals_number < ending = globals_least stack ending below in let e : globals_number ≡ ending = same in absurd (omega (arith, lower, e)))
  | inr older ↦ globals_of_none stack ending below older
]
globals_of_none (CloseLexical ending ∷ stack) bound (less, below) of_call = globals_of_none stack ending below of_call
globals_of_none (Caller outer ∷ stack) bound below of_call = of_call
globals_of_none (entry ∷ stack) bound below of_call = globals_of_none stack bound below of_call

module _ (objects : List Object) (regions : List Region) (open_now : IsFound (found_region (slice_get regions globals_number))) where
  in_blocks_alone : (stack : List Entry) (bound : ℕ) (locals : Locals) → AreBelow bound (ends_of stack) → LiveInBlocks stack locals objects regions → (number object : ℕ) → locals number ≡ Some object → LivesIn objects object globals_number → ⊥
  in_blocks_alone stack bound locals below live number object is global =
      let (region, lives, where_it_is) = live number object is in
      let same : region ≡ globals_number = lives_once objects object region globals_number lives global in
      elim where_it_is [
        | inl here ↦ globals_of_none stack bound below (subst (λ (n : ℕ). IsOfCall n stack) same here)
        | inr shut ↦ subst IsFound (subst (λ (n : ℕ). IsShut regions n) same shut) open_now
      ]

  waiting_alone : (stack : List Entry) (bound : ℕ) → AreBelow bound (ends_of stack) → WaitInBlocks stack objects regions → (call number object : ℕ) → IsLocal (waiting stack) call number object → LivesIn objects object globals_number → ⊥
  waiting_alone [] bound below h call number object is global = absurd (let e : None ≡ Some is.0 = is.1 in cc)
  waiting_alone (Caller outer ∷ stack) bound below h zero number object is global =
      in_blocks_alone stack bound outer.locals below h.0 number object (local_here outer.locals (waiting stack) number object is) global
  waiting_alone (Caller outer ∷ stack) bound below h (suc call) number object is global = waiting_alone stack bound below h.1 call number object is global
  waiting_alone (CloseRegion ending home ∷ stack) bound (less, below) h call number object is global = waiting_alone stack ending below h call number object is global
  waiting_alone (CloseLexical ending ∷ stack) bound (less, below) h call number object is global = waiting_alone stack ending below h call number object is global
  waiting_alone (entry ∷ stack) bound below h call number object is global = waiting_alone stack bound below h call number object is global

  call_alone : (stack : List Entry) (bound : ℕ) (locals : Locals) → AreBelow bound (ends_of stack) → LiveInBlocks stack locals objects regions → WaitInBlocks stack objects regions
      → (call number object : ℕ) → IsLocal (locals ∷ waiting stack) call number object → LivesIn objects object globals_number → ⊥
  call_alone stack bound locals below live h zero number object is global = in_blocks_alone stack bound locals below live number object (local_here locals (waiting stack) number object is) global
  call_alone stack bound locals below live h (suc call) number object is global = waiting_alone stack bound below h call number object is global

pub local_is_no_global : (globals : ℕ) (focus : Focus) (stack : List Entry) (e : Environment) (w : World) → IsNested stack e w → HasNames globals (Running focus stack e w)
    → (call number object : ℕ) → IsLocal (e.locals ∷ waiting stack) call number object → globals ≤ object
local_is_no_global globals focus stack e w nested h call number object is = elim (cases_lt object globals) [
  | inl less ↦ absurd (call_alone w.objects w.regions (globals_found w.regions stack nested.0) stack (length w.regions) e.locals nested.1 h.1.1 h.1.2 call number object is (h.1.5 object less))
  | inr above ↦ above
]

-- ---- a local that is declared again

next_low : (globals : ℕ) (focus : Focus) (stack : List Entry) (e : Environment) (w : World) → HasNames globals (Running focus stack e w) → (number : ℕ) → declared_by focus stack ≡ Some number → AreLow number stack e.locals w.objects
next_low globals (Naming n operand items) stack e w h number is =
    let k : Some n ≡ Some number = is in
    let same : n ≡ number = cc in subst (λ (m : ℕ). AreLow m stack e.locals w.objects) same h.0.1
next_low globals (Binding n (t ∷ types) arguments body) stack e w h number is =
    let k : Some n ≡ Some number = is in
    let same : n ≡ number = cc in subst (λ (m : ℕ). AreLow m stack e.locals w.objects) same h.0.3
next_low globals (Given value) (Needs (Initialise n kind items) ∷ stack) e w h number is =
    let k : Some n ≡ Some number = is in
    let same : n ≡ number = cc in subst (λ (m : ℕ). AreLow m stack e.locals w.objects) same h.1.0.0.1
next_low globals Proceeding (Rest (MoreItems (Declare n t None) items) ∷ stack) e w h number is =
    let (m, rises, low, here) = h.1.0.0 in
    let k : Some n ≡ Some number = is in
    let same : n ≡ number = cc in subst (λ (m : ℕ). AreLow m stack e.locals w.objects) same (low_less m n stack e.locals w.objects rises.0 low)
next_low globals focus stack e w h number is = absurd (let k : None ≡ Some number = is in cc)

pub former_shut : (globals : ℕ) (focus : Focus) (stack : List Entry) (e : Environment) (w : World) → HasNames globals (Running focus stack e w)
    → (number object region : ℕ) → declared_by focus stack ≡ Some number → e.locals number ≡ Some object → LivesIn w.objects object region → IsShut w.regions region
former_shut globals focus stack e w h number object region is local lives =
    former_left number stack e.locals w.objects w.regions (next_low globals focus stack e w h number is) h.1.1 object region local lives

-- ---- runs of well-typed programs

module _ (program : Program) (input : List ℕ) (count : ℕ) (focus : Focus) (stack : List Entry) (e : Environment) (w : World) where
  names_at : IsWellTypedProgram program → run program input count ≡ Running focus stack e w → HasNames (length program.globals) (Running focus stack e w)
  names_at typed is = subst (HasNames (length program.globals)) is (names_run program typed input count)

  pub named_at : IsWellTypedProgram program → run program input count ≡ Running focus stack e w → HaveNames (length program.globals) (e.locals ∷ waiting stack) w.objects w.regions
  named_at typed is = (names_at typed is).1.3

  pub distinct_at : IsWellTypedProgram program → run program input count ≡ Running focus stack e w → AreDistinct (e.locals ∷ waiting stack)
  distinct_at typed is = (names_at typed is).1.4

  pub apart_at : (call number object : ℕ) → IsWellTypedProgram program → run program input count ≡ Running focus stack e w → IsLocal (e.locals ∷ waiting stack) call number object → length program.globals ≤ object
  apart_at call number object typed is =
      local_is_no_global (length program.globals) focus stack e w (subst Nests is (nests_run program input count)) (names_at typed is) call number object

  pub again_at : (number object region : ℕ) → IsWellTypedProgram program → run program input count ≡ Running focus stack e w → declared_by focus stack ≡ Some number → e.locals number ≡ Some object → LivesIn w.objects object region
      → IsShut w.regions region
  again_at number object region typed is = former_shut (length program.globals) focus stack e w (names_at typed is) number object region
