-- This file completes the soundness proof. Every step of a well-typed run state yields a well-typed run state. No run of an
-- accepted program in the class of covered programs accesses freed memory or goes wrong.
use Rattle.std.proofs.Common.{◌≡◌, ◌≢◌, inl, inr, ℕ, ◌≤◌, zero, suc, Bool, true, false, List, [], ◌∷◌, length, map, Option, Some, None, slice_get, refl, sym, ap, subst, ◌∙◌, arith}
use Rattle.std.specs.Prelude.{if◌then◌else◌, ◌==◌, Contains}
use Rattle.std.proofs.lemmas.Bool.{eq-eqb, eqb-true, not-true}
use Rattle.std.proofs.lemmas.Option.{same_Some}
use Rattle.cyc_words.proofs.Lists.{same_length_mapped}
use Rattle.cyc_words.proofs.Members.{Contains-empty}
use Rattle.cyc_words.proofs.Items.{slice_get-map_from_turned}
use Rattle.cyc_syntax.specs.declared.tree.PointerKind.{PointerKind}
use Rattle.cyc_syntax.specs.declared.tree.PointerKind.TheVariants as marks
use Rattle.cyc_types.specs.declared.region.Region.{Region}
use Rattle.cyc_types.specs.declared.region.Region.TheVariants as regions
use Rattle.cyc_types.specs.Outlives.{RegionContext, IsGiven}
use Rattle.cyc_syntax.specs.Symbols.{Place}
use Rattle.cyc_types.specs.Types.{Ty, result_type}
use Rattle.cyc_types.specs.Types as types
use Rattle.cyc_types.specs.TypedTrees.{StructType, GlobalVariable, Signature, Function, Program}
use Rattle.cyc_types.specs.Rules.{AllKept, Derives}
use Rattle.cyc_types.specs.typing.Scopes.{signature_of_ints}
use Rattle.cyc_types.specs.typing.Tests.{is_non_null, is_key}
use Rattle.cyc_types.specs.typing.WellTyped.{signature_of, IsWellTypedProgram, AreWellTypedFunctions, IsWellTypedGlobal, AreWellTypedGlobals}
use Rattle.cyc_types.specs.flow.States as flow
use Rattle.cyc_types.specs.flow.States.{is_reached}
use Rattle.cyc_types.specs.flow.Programs.{end_demanded, rule_functions, IsAllowedProgram}
use Rattle.cyc_meaning.specs.Values.{Cell}
use Rattle.cyc_meaning.specs.Values as values
use Rattle.cyc_meaning.specs.State.{World, Object, Environment, no_locals, first_world, global_object, constant_value, Entry, Needs, NeedsPlace, Discard, Main, Focus, Evaluating, Locating, Given, GivenPlace, Writing, Swapping, Beginning}
use Rattle.cyc_meaning.specs.State.{Repeating, Executing, Proceeding, Calling, Entering, Binding, Naming, Breaking, Continuing, Returning, Throwing, Catching, State, Running, Ended, Dead, Wrong, GoesOn, HasEnded, IsDead, IsWrong, status_of}
use Rattle.cyc_meaning.specs.Parts.{wrong}
use Rattle.cyc_meaning.specs.inside.Nesting.{IsNested, Nests}
use Rattle.cyc_meaning.specs.Places.{step_given_place}
use Rattle.cyc_meaning.specs.Step.{called, step, stepped, step_given}
use Rattle.cyc_meaning.specs.Run.{start, steps, run}
use Rattle.cyc_meaning.proofs.Nested.{nests_step, nests_start}
use Rattle.cyc_soundness.specs.inside.Lives.{Life, RunTy, RunValue, at, heap_life, lives_of, as_heap}
use Rattle.cyc_soundness.specs.inside.Lives as lives
use Rattle.cyc_soundness.specs.inside.Worlds.{Nobody, thing_of, ClaimsPart, IsKeyless, ObjectType, Typing, Outlasts, heap as for_ever, global_type, HasType, IsResult, AreOperands, IsObject, IsTyped, Thing, Holder, At, Claims, AreOwned, Settled, Gone, Away}
use Rattle.cyc_soundness.specs.inside.Frames.{InScope, Instance, read, read_value, IsThereBy, IsBound, AreVariables, LiveIn, Holds, Exits, AreNamed, lives_among, KnowsProgram}
use Rattle.cyc_soundness.specs.inside.Classes.{IsDeclarable, InFunctions, InGlobals, InFields, InStructs, IsInClass}
use Rattle.cyc_soundness.specs.inside.Judgements.{IsAccepted}
use Rattle.cyc_soundness.specs.inside.Awaited.{operands_in, Comes, AreGiven, Val, PlaceOf, regions_at_call}
use Rattle.cyc_soundness.specs.inside.Stacks.{IsStack, IsFocus, IsWell}
use Rattle.cyc_soundness.specs.Sound.{IsSound}
use Rattle.cyc_soundness.proofs.types.TypeLemmas.{kind_meant}
use Rattle.cyc_soundness.proofs.states.StackLemmas.{AreAccepted}
use Rattle.cyc_soundness.proofs.states.StackLocals.{none_among}
use Rattle.cyc_soundness.proofs.states.Cells.{running}
use Rattle.cyc_soundness.proofs.steps.ArrayObjects.{begin_array, repeat_on, write_on}
use Rattle.cyc_soundness.proofs.steps.Swapping.{swapped_on, swapping_on}
use Rattle.cyc_soundness.proofs.steps.Places.{locate, place_given}
use Rattle.cyc_soundness.proofs.steps.Evaluation.{evaluate}
use Rattle.cyc_soundness.proofs.steps.Supply.{given, declares_full}
use Rattle.cyc_soundness.proofs.steps.Execution.{execute}
use Rattle.cyc_soundness.proofs.steps.Calls.{call, enter, bind, catch}
use Rattle.cyc_soundness.proofs.steps.Unwinding.{proceed, breaks, continues, returns_on, throws_on}

-- ---- a step

module _ (p : Program) (accepted : AreAccepted p) (e : Environment) (w : World) (g : Typing) (x : Exits) (bs : List InScope) (objects : IsTyped g w.regions w.objects) (globals : KnowsProgram g p) (bound : IsBound e.locals e.counters bs) (variables : AreVariables g bs) where
  given_on : (v : values.Operand) (k : List Entry) (r : RunValue) (f : flow.State) → IsNested k e w → LiveIn k bs → Holds g f bs → IsResult g r v → Comes g r v k → IsStack p g x bs (Val r f) k → IsWell p (step_given v k e w)
  given_on v (Needs a ∷ k) r f nests live holds is comes (ts, cs, next, waits, are, stack) = given p g x bs e w objects globals bound variables v k nests live holds is comes waits are stack
  given_on v (Discard ∷ k) r f nests live holds is comes stack = running p g x bs e w objects globals bound variables Proceeding k live (f, holds, stack)
  given_on v k r f nests live holds is comes stack = absurd stack

  place_on : (place : values.Value) (k : List Entry) (peek : Option ℕ) (t : RunTy) (l : Life) (f : flow.State) → IsNested k e w → LiveIn k bs → Holds g f bs → HasType g (lives.Pointer marks.NonNull t l) place
      → ClaimsPart g (operands_in k) peek (thing_of (lives.Pointer marks.NonNull t l) place) → IsStack p g x bs (PlaceOf peek t l f) k → IsWell p (step_given_place place k e w)
  place_on place (NeedsPlace a ∷ k) peek t l f nests live holds has part (next, waits, keeps, stack) = place_given p g x bs e w objects globals bound variables place k nests.0 live holds has part waits keeps stack
  place_on place k peek t l f nests live holds has part stack = absurd stack

  step_well : (focus : Focus) (k : List Entry) → IsNested k e w → LiveIn k bs → IsFocus p g x bs focus k → IsWell p (stepped p focus k e w)
  step_well (Evaluating a) k nests live (c, t, f, h, stands, holds, evaluates, stack) =
      evaluate p g x bs e w objects globals bound variables a k c t f h evaluates.waiting nests.0 live stands holds evaluates.typed evaluates.flows evaluates.kept stack
  step_well (Given v) k nests live (r, f, holds, is, comes, stack) = given_on v k r f nests live holds is comes stack
  step_well (Executing s) k nests live (c, f, h, stands, holds, executes, stack) =
      execute p g x bs e w objects globals bound variables s k c f h executes.before executes.following live stands holds executes.typed executes.flows executes.breaks executes.kept stack
  step_well Proceeding k nests live (f, holds, stack) = proceed p g e w objects globals x bs bound variables k f nests live holds stack
  step_well (Calling callee arguments) k nests live (ts, r, f, holds, is, are, claims, stack) = call p accepted g x bs e w objects globals bound variables callee arguments k ts r f live holds is are claims stack
  step_well (Entering h arguments) k nests live (end, these, alive, ok, body, these_are, stand, are, claims, stack) =
      enter p accepted g x bs e w objects globals bound variables h arguments k end these alive live ok body these_are stand are claims stack
  step_well (Binding number ts arguments js) k nests live (h, end, vs, cs, within, ok, body, body_is, scope_is, count, are, scope, below, full, stand, at_home, claims, own, stack) =
      bind p accepted g x bs e w objects globals bound variables number ts arguments js k h end vs cs nests live within ok body body_is scope_is count are scope below full stand at_home claims own stack
  step_well (Naming number v js) k nests live (c, is_place, t, cs, f, h, within, stands, holds, new, number_is, is, comes, continues', stack) =
      declares_full p g x bs e w objects globals bound variables number v.kind v.value is_place t js cs c f h k nests live within stands holds new number_is is.0 is.1 comes continues' stack
  step_well (Locating d) k nests live (c, t, r, f, h, stands, holds, locates, stack) =
      locate p g x bs e w objects globals bound variables d k c t f h locates.waiting r live stands holds locates.typed locates.flows locates.kept stack
  step_well (GivenPlace place) k nests live (peek, t, l, f, holds, has, part, stack) = place_on place k peek t l f nests live holds has part stack
  step_well (Writing these (Some v)) k nests live (t, r, f, holds, alive, making, stack) = write_on p g x bs e w objects globals bound variables these v t r k f nests.0 live holds alive making stack
  step_well (Writing these None) k nests live (f, holds, are, stack) = swapped_on p g x bs e w objects globals bound variables these k f nests.0 live holds are stack
  step_well (Swapping kind left right before) k nests live (t, f, holds, kind_is, plain, here, there, read_is, stack) =
      swapping_on p g x bs e w objects globals bound variables kind left right before t k f nests.0 live holds kind_is plain here there read_is stack
  step_well (Beginning owner count level kind element) k nests live (c, t, r, f, stands, holds, alive, owned, repeats, stack) =
      begin_array p g x bs e w objects globals bound variables owner count level kind element k c t r f nests.0 live stands holds alive owned repeats stack
  step_well (Repeating object count index level kind element) k nests live (c, t, r, f, stands, holds, alive, repeats, array, has, stack) =
      repeat_on p g x bs e w objects globals bound variables object count index level kind element k c t r f nests.0 live stands holds alive repeats array has stack
  step_well Breaking k nests live (l, f, h, same, holds, left, stack) = breaks p g e w objects globals x bs bound variables k l f h nests live same holds left stack
  step_well Continuing k nests live (l, f, h, same, holds, left, stack) = continues p g e w objects globals x bs bound variables k l f h nests live same holds left stack
  step_well (Returning v) k nests live (f, is, stack) = returns_on p g e w objects globals x bs bound variables k v f nests live is stack
  step_well (Throwing tag value) k nests live (want, stack) = throws_on p g e w objects globals x bs bound variables k tag value want nests live stack
  step_well (Catching tag value cs) k nests live (c, start', f, h, stands, holds, catches, stack) =
      catch p accepted g x bs e w objects globals bound variables tag value cs k c start' f h catches.before catches.following live stands holds catches.typed catches.flows catches.breaks catches.kept stack

pub well_step : (p : Program) (s : State) → AreAccepted p → Nests s → IsWell p s → IsWell p (step p s)
well_step p (Running focus k e w) accepted nests well =
    step_well p accepted e w well.typing well.exits well.locals well.objects well.globals well.bound well.variables focus k nests well.live well.stands
well_step p (Ended ending output input) accepted nests well = tt
well_step p (Dead output input) accepted nests well = absurd well
well_step p (Wrong output input) accepted nests well = absurd well

pub well_steps : (p : Program) (n : ℕ) (s : State) → AreAccepted p → Nests s → IsWell p s → IsWell p (steps p n s)
well_steps p zero s accepted nests well = well
well_steps p (suc n) s accepted nests well = well_steps p n (step p s) accepted (nests_step p s nests) (well_step p s accepted nests well)

well_alive : (p : Program) (s : State) → IsWell p s → (status_of s ≢ IsDead) × (status_of s ≢ IsWrong)
well_alive p (Running focus k e w) well = (λ d. (let z : GoesOn ≡ IsDead = d in absurd (cc)), λ d. (let z : GoesOn ≡ IsWrong = d in absurd (cc)))
well_alive p (Ended ending output input) well = (λ d. (let z : HasEnded ending ≡ IsDead = d in absurd (cc)), λ d. (let z : HasEnded ending ≡ IsWrong = d in absurd (cc)))
well_alive p (Dead output input) well = absurd well
well_alive p (Wrong output input) well = absurd well

-- ---- accepted functions

ends_are : (o : Option Ty) (place : Place) (f : flow.State) → AllKept (end_demanded o place f) → (t : Ty) → o ≡ Some t → is_reached f ≡ false
ends_are o place f kept t same = let demands = subst (λ z. AllKept (end_demanded z place f)) same kept in not-true (is_reached f) demands.0

accepted_among : (p : Program) (hs : List Function) → AreWellTypedFunctions p hs → Derives (rule_functions hs) tt → InFunctions hs → (n : ℕ) (h : Function) → slice_get hs n ≡ Some h → (end : flow.State) × IsAccepted p h end
accepted_among p [] well flows kept n h found = absurd (let z : None ≡ Some h = found in cc)
accepted_among p (f ∷ hs) (one, well) (u, (k, d, (demands, same)), flows) (in_one, kept) zero h found =
    let f_is : f ≡ h = (let z : Some f ≡ Some h = found in cc) in
    let ok : IsAccepted p f k.now = record { typed = one; breaks = k.breaks; flows = d; ends = ends_are f.result f.end k.now demands; kept = in_one } in
    (k.now, subst (λ z. IsAccepted p z k.now) f_is ok)
accepted_among p (f ∷ hs) (one, well) (u, d, flows) (in_one, kept) (suc n) h found = accepted_among p hs well flows kept n h found

-- ---- the start state

-- At the start of a run, each global is an object with one cell, which holds a value.
abbrev ones : List GlobalVariable → List ℕ
ones vs = map (λ (v : GlobalVariable). 1) vs

abbrev global_of : GlobalVariable → ObjectType
global_of v = global_type (at as_heap v.of_type)

-- The types of a struct's cells, if as many lifetimes are given as the struct has region parameters.
abbrev cells_of : List Life → StructType → Option (List RunTy)
cells_of ls s = if length ls == s.parameters then Some (map (at (lives_among ls)) s.fields) else None

abbrev found_cells : List Life → Option StructType → Option (List RunTy)
found_cells ls None = None
found_cells ls (Some s) = cells_of ls s

abbrev globals_typed : List StructType → List GlobalVariable → Typing
globals_typed ss vs = record { objects = map global_of vs; filled = ones vs; fields = λ n ls. found_cells ls (slice_get ss n); kept = []; own = λ a. Nobody; here = λ n. Gone; pending = Settled; depth = 0; loans = 0 }

null_typed : (g : Typing) (k : PointerKind) (t : Ty) (r : Region) → is_non_null (types.Pointer k t r) ≡ false → HasType g (at as_heap (types.Pointer k t r)) values.Null
null_typed g marks.Nullable t r is = tt
null_typed g marks.NonNull t r is = absurd (let z : true ≡ false = is in cc)
null_typed g marks.Fat t r is = tt

value_typed : (g : Typing) (v : GlobalVariable) → IsWellTypedGlobal v → HasType g (at as_heap v.of_type) (constant_value v.value)
value_typed g v (inl (int, (word, is))) =
    subst (λ z. HasType g (at as_heap v.of_type) (constant_value z)) (sym is) (subst (λ t. HasType g (at as_heap t) (values.Int word)) (sym int) tt)
value_typed g v (inr (inl (char, (word, is, small)))) =
    subst (λ z. HasType g (at as_heap v.of_type) (constant_value z)) (sym is) (subst (λ t. HasType g (at as_heap t) (values.Int word)) (sym char) tt)
value_typed g v (inr (inr (k, t, r, pointer, null, is))) =
    subst (λ z. HasType g (at as_heap v.of_type) (constant_value z)) (sym is)
    (subst (λ u. HasType g (at as_heap u) values.Null) (sym pointer) (null_typed g k t r (subst (λ u. is_non_null u ≡ false) pointer null)))

-- If every region variable denotes the heap, then a value of a key type is not a linear resource.
key_keyless : (r : Region) → IsKeyless (at as_heap (types.Key r))
key_keyless regions.Heap = tt
key_keyless regions.Unique = tt
key_keyless (regions.Variable n) = tt

global_keyless : (t : Ty) → IsKeyless (at as_heap t)
global_keyless types.Int = tt
global_keyless types.Char = tt
global_keyless (types.Pointer k t r) = tt
global_keyless (types.Handle r) = tt
global_keyless (types.Key r) = key_keyless r
global_keyless (types.Struct n rs) = tt

global_is : (g : Typing) (v : GlobalVariable) → IsWellTypedGlobal v → IsObject g 1 (global_of v) (global_object v)
global_is g v has = record { owner = refl; known = tt; keyless = λ shown. (global_keyless v.of_type, tt); cells = ((sym (kind_meant as_heap v.of_type), value_typed g v has), tt) }

-- The initial values of globals are not linear resources.
value_claims : (own : Thing → Holder) (h : Holder) (v : GlobalVariable) → IsWellTypedGlobal v → Claims own h (at as_heap v.of_type) (constant_value v.value)
value_claims own h v (inl (int, (word, is))) = subst (λ t. Claims own h (at as_heap t) (constant_value v.value)) (sym int) (tt, tt)
value_claims own h v (inr (inl (char, (word, is, small)))) = subst (λ t. Claims own h (at as_heap t) (constant_value v.value)) (sym char) (tt, tt)
value_claims own h v (inr (inr (k, t, r, pointer, null, is))) =
    subst (λ z. Claims own h (at as_heap v.of_type) (constant_value z)) (sym is) (subst (λ u. Claims own h (at as_heap u) values.Null) (sym pointer) (tt, tt))

abbrev content_of : Option Cell → Option values.Value
content_of (Some c) = c.content
content_of None = None

global_owned : (own : Thing → Holder) (h : Holder) (v : GlobalVariable) → IsWellTypedGlobal v → (i : ℕ) (u : RunTy) (c : Cell) (z : values.Value) → slice_get (global_of v).cells i ≡ Some u → slice_get (global_object v).cells i ≡ Some c → c.content ≡ Some z
    → Claims own h u z
global_owned own h v has zero u c z found at' content =
    let type_is : at as_heap v.of_type ≡ u = same_Some (at as_heap v.of_type) u found in
    let value_is : constant_value v.value ≡ z = same_Some (constant_value v.value) z (ap content_of at' ∙ content) in
    subst (λ t. Claims own h t z) type_is (subst (λ y. Claims own h (at as_heap v.of_type) y) value_is (value_claims own h v has))
global_owned own h v has (suc i) u c z found at' content = absurd (let k : None ≡ Some u = found in cc)

globals_owned : (g : Typing) (vs : List GlobalVariable) → AreWellTypedGlobals vs → (n : ℕ) (t : ObjectType) (x : Object) → slice_get (map global_of vs) n ≡ Some t → slice_get (map global_object vs) n ≡ Some x → (object : ℕ) → AreOwned g object t x.cells
globals_owned g [] have n t x found stands object i u c z kept cell at' content = absurd (let k : None ≡ Some t = found in cc)
globals_owned g (v ∷ vs) (has, have) zero t x found stands object i u c z kept cell at' content =
    let type_is : global_of v ≡ t = same_Some (global_of v) t found in
    let object_is : global_object v ≡ x = same_Some (global_object v) x stands in
    global_owned g.own (At object i) v has i u c z (ap (λ (y : ObjectType). slice_get y.cells i) type_is ∙ cell) (ap (λ (y : Object). slice_get y.cells i) object_is ∙ at') content
globals_owned g (v ∷ vs) (has, have) (suc n) t x found stands object i u c z kept cell at' content = globals_owned g vs have n t x found stands object i u c z kept cell at' content

globals_each : (g : Typing) (vs : List GlobalVariable) → AreWellTypedGlobals vs → InGlobals vs → (n : ℕ) (t : ObjectType) → slice_get (map global_of vs) n ≡ Some t
    → (x : Object) × (filled : ℕ) × (slice_get (map global_object vs) n ≡ Some x) × (slice_get (ones vs) n ≡ Some filled) × IsObject g filled t x
globals_each g [] have kept n t found = absurd (let z : None ≡ Some t = found in cc)
globals_each g (v ∷ vs) (has, have) (known, kept) zero t found =
    let t_is : global_of v ≡ t = same_Some (global_of v) t found in
    (global_object v, 1, refl, refl, subst (λ z. IsObject g 1 z (global_object v)) t_is (global_is g v has))
globals_each g (v ∷ vs) (has, have) (known, kept) (suc n) t found = globals_each g vs have kept n t found

all_globals : (vs : List GlobalVariable) → InGlobals vs → (n : ℕ) (t : Ty) → slice_get (map (λ (v : GlobalVariable). v.of_type) vs) n ≡ Some t
    → (slice_get (map global_of vs) n ≡ Some (global_type (at as_heap t))) × (slice_get (ones vs) n ≡ Some 1) × IsDeclarable 0 t
all_globals [] kept n t found = absurd (let z : None ≡ Some t = found in cc)
all_globals (v ∷ vs) (one, kept) zero t found =
    let same : v.of_type ≡ t = same_Some v.of_type t found in
    (ap (λ u. Some (global_type (at as_heap u))) same, refl, subst (λ u. IsDeclarable 0 u) same one)
all_globals (v ∷ vs) (one, kept) (suc n) t found = all_globals vs kept n t found

all_fields : (n : ℕ) (ts : List Ty) → InFields n ts → (field : ℕ) (t : Ty) → slice_get ts field ≡ Some t → IsDeclarable n t
all_fields n [] kept field t found = absurd (let z : None ≡ Some t = found in cc)
all_fields n (u ∷ ts) (one, usual, kept) zero t found = subst (λ z. IsDeclarable n z) (same_Some u t found) one
all_fields n (u ∷ ts) (one, usual, kept) (suc field) t found = all_fields n ts kept field t found

-- In a program of the class that the soundness proof covers, no field of a struct is a region key.
all_usual : (n : ℕ) (ts : List Ty) → InFields n ts → (field : ℕ) (t : Ty) → slice_get ts field ≡ Some t → is_key t ≡ false
all_usual n [] kept field t found = absurd (let z : None ≡ Some t = found in cc)
all_usual n (u ∷ ts) (one, usual, kept) zero t found = subst (λ z. is_key z ≡ false) (same_Some u t found) usual
all_usual n (u ∷ ts) (one, usual, kept) (suc field) t found = all_usual n ts kept field t found

all_structs : (ss : List StructType) → InStructs ss → (n : ℕ) (s : StructType) → slice_get ss n ≡ Some s → InFields s.parameters s.fields
all_structs [] kept n s found = absurd (let z : None ≡ Some s = found in cc)
all_structs (r ∷ ss) (one, kept) zero s found = subst (λ (z : StructType). InFields z.parameters z.fields) (same_Some r s found) one
all_structs (r ∷ ss) (one, kept) (suc n) s found = all_structs ss kept n s found

counted_cells : (ls : List Life) (s : StructType) → length ls ≡ s.parameters → cells_of ls s ≡ Some (map (at (lives_among ls)) s.fields)
counted_cells ls s count = ap (λ (b : Bool). if b then Some (map (at (lives_among ls)) s.fields) else None) (eq-eqb (length ls) s.parameters count)

cells_counted : (ls : List Life) (s : StructType) (ts : List RunTy) → cells_of ls s ≡ Some ts → length ls ≡ s.parameters
cells_counted ls s ts is = go (length ls == s.parameters) refl is
  where
    go : (b : Bool) → (length ls == s.parameters) ≡ b → (if b then Some (map (at (lives_among ls)) s.fields) else None) ≡ Some ts → length ls ≡ s.parameters
    go true same is = eqb-true (length ls) s.parameters same
    go false other is = absurd (let z : None ≡ Some ts = is in cc)

-- In a function without outlives constraints, no region outlives the unique region.
plain_given : (h : Function) (a : Region) → h.constraints ≡ [] → IsGiven (regions_at_call h) a regions.Unique → ⊥
plain_given h a none (inl (heap, plain)) = plain refl
plain_given h a none (inr (inl written)) = absurd (Contains-empty (a, regions.Unique) (subst (λ ps. Contains ps (a, regions.Unique)) none written))
plain_given h a none (inr (inr old)) = old

first_given : (h : Function) (b : Region) → h.constraints ≡ [] → IsGiven (regions_at_call h) regions.Unique b → ⊥
first_given h b none (inl (heap, plain)) = let e : regions.Unique ≡ regions.Heap = heap in absurd (cc)
first_given h b none (inr (inl written)) = absurd (Contains-empty (regions.Unique, b) (subst (λ ps. Contains ps (regions.Unique, b)) none written))
first_given h b none (inr (inr old)) = old

-- At the start of a run, all region variables denote the heap.
stand_first : (c : RegionContext) → ((a : Region) → IsGiven c a regions.Unique → ⊥) → ((b : Region) → IsGiven c regions.Unique b → ⊥) → AreNamed c (λ n. heap_life) (λ n. true)
stand_first c plain first = record { there = λ r has. there r; agrees = agrees; plain = plain }
  where
    there : (r : Region) → IsThereBy (λ n. true) r
    there regions.Heap = tt
    there regions.Unique = tt
    there (regions.Variable n) = refl

    -- At the start of a run, only the unique region denotes a unique lifetime.
    agrees : (a b : Region) → IsGiven c a b → Outlasts (lives_of (λ n. heap_life) a) (lives_of (λ n. heap_life) b)
    agrees regions.Heap b given = for_ever (lives_of (λ n. heap_life) b)
    agrees (regions.Variable n) b given = for_ever (lives_of (λ n. heap_life) b)
    agrees regions.Unique b given = absurd (first b given)

well_start : (p : Program) (input : List ℕ) → AreAccepted p → IsWellTypedProgram p → IsInClass p → IsWell p (start p input)
well_start p input accepted well (in_functions, in_globals, in_structs) =
    let (h, found, same) = slice_get-map_from_turned signature_of p.functions p.main (signature_of_ints []) well.main in
    let (end, ok) = accepted p.main h found in
    let none : h.parameters ≡ [] = ap (λ (s : Signature). s.parameters) same in
    let unmixed : h.constraints ≡ [] = ap (λ (s : Signature). s.constraints) same in
    let int : h.result ≡ Some types.Int = ap (λ (s : Signature). s.result) same in
    let w = first_world p input in
    let g = globals_typed p.structs p.globals in
    let bs : List InScope = Instance (λ n. heap_life) (λ n. true) ∷ [] in
    let x : Exits = record { loop = None; result = h.result; gives = read_value bs (result_type h.result); locks = []; relied = [] } in
    let objects : IsTyped g w.regions w.objects = record {
      count = same_length_mapped global_object global_of p.globals;
      counts = same_length_mapped global_object (λ (v : GlobalVariable). 1) p.globals;
      each = globals_each g p.globals well.globals in_globals;
      heap = refl;
      kept = λ n is. none_among is;
      fresh = λ n less. refl;
      unique = λ n held. absurd held;
      owned = λ n t x there stands. globals_owned g p.globals well.globals n t x there stands n;
      lent = λ n t x there stands i j u c v away. let k : Gone ≡ Away j = away in absurd (cc);
    } in
    let knows : KnowsProgram g p = record {
      globals = λ n t there. (let (object, flag, closed) = all_globals p.globals in_globals n t there in (object, (1, flag, (let one : 1 ≤ 1 = omega arith in one)), closed));
      structs = λ n s ls there count. ap (found_cells ls) there ∙ counted_cells ls s count;
      counts = λ n s ls ts there is. cells_counted ls s ts (sym (ap (found_cells ls) there) ∙ is);
      constraints = λ n h there. (let (end, ok) = accepted n h there in ok.typed.constraints);
      plain = λ n s there. all_usual s.parameters s.fields (all_structs p.structs in_structs n s there);
      fields = λ n s there. all_fields s.parameters s.fields (all_structs p.structs in_structs n s there);
    } in
    let count : 0 ≡ length h.parameters = sym (ap length none) in
    subst (λ o. IsWell p (called o [] (Main ∷ []) w)) (sym found)
    (subst (λ (b : Bool). IsWell p (if b then Running (Entering h []) (Main ∷ []) no_locals w else wrong w)) (sym (eq-eqb 0 (length h.parameters) count))
    (running p g x bs no_locals w objects knows (tt, tt) ((λ n. (tt, λ e r is. let z : false ≡ true = is in absurd (cc))), tt) (Entering h []) (Main ∷ []) (((λ n is. inl refl), tt), refl) (
      end,
      (λ n. heap_life),
      (λ n. true),
      ok,
      (refl, refl, refl, refl, refl),
      refl,
      stand_first (regions_at_call h) (λ a given. plain_given h a unmixed given) (λ b given. first_given h b unmixed given),
      subst (λ ts. AreOperands g (map (read bs) ts) []) (sym none) tt,
      subst (λ ts. AreGiven g.own 0 (map (read bs) ts) []) (sym none) tt,
      (refl, int, ap (λ o. read_value bs (result_type o)) int, ok.ends types.Int int, refl),
    )))

-- ---- the theorem

pub class_sound : (p : Program) → IsWellTypedProgram p → IsAllowedProgram p → IsInClass p → IsSound p
class_sound p well allowed kept input count =
    let accepted : AreAccepted p = accepted_among p p.functions well.functions allowed kept.0 in
    well_alive p (run p input count) (well_steps p count (start p input) accepted (nests_start p input) (well_start p input accepted well kept))
