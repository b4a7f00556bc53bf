-- This file is about passing a value to the stack entry that waits for it: the step yields a well-typed run state.
use Rattle.std.proofs.Common.{◌≡◌, ap, ℕ, zero, suc, ◌<◌, ◌≤◌, Bool, true, false, List, [], ◌∷◌, length, Option, Some, None, slice_get, refl, sym, subst, ◌∙◌, arith, ◌+◌}
use Rattle.std.specs.Prelude.{if◌then◌else◌}
use Rattle.std.proofs.lemmas.Option.{same_Some}
use Rattle.cyc_words.proofs.Lists.{slice_get_last}
use Rattle.cyc_words.proofs.Items.{never_at_length}
use Rattle.cyc_types.specs.declared.region.Region.{Region}
use Rattle.cyc_types.specs.declared.region.Region.TheVariants as regions
use Rattle.cyc_types.specs.declared.typed.Kind.{Kind}
use Rattle.cyc_syntax.specs.declared.tree.PointerKind.{PointerKind}
use Rattle.cyc_syntax.specs.declared.tree.PointerKind.TheVariants as marks
use Rattle.cyc_types.specs.typing.Tests.{is_moved}
use Rattle.cyc_types.specs.declared.typed.Kind.TheVariants as kinds
use Rattle.cyc_types.specs.Types.{Ty, ValueType}
use Rattle.cyc_types.specs.TypedTrees.{Expression, Initial, Statement, Items, Program}
use Rattle.cyc_types.specs.Rules.{Derives}
use Rattle.cyc_types.specs.typing.WellTyped.{Context, IsMade, with_local, in_body}
use Rattle.cyc_types.specs.flow.States as flow
use Rattle.cyc_types.specs.flow.States.{Vacant, Full, with_fullness}
use Rattle.cyc_types.specs.flow.Expressions.{rule_initial}
use Rattle.cyc_meaning.specs.Values.{Operand, Cell}
use Rattle.cyc_meaning.specs.Values as values
use Rattle.cyc_meaning.specs.Operators.{unary_result, binary_result}
use Rattle.cyc_types.specs.declared.typed.UnaryOperator.TheVariants as unary
use Rattle.cyc_meaning.specs.Allocation.{makes_by, fills_element}
use Rattle.cyc_meaning.specs.State.{InRegion, World, region_at, variable, made, Environment, Awaiting, BesideHandle, Entry, Needs, Rest, Join, Loop, Focus, Given, Executing, Proceeding, Returning, Throwing, State, Running}
use Rattle.cyc_meaning.specs.State as state
use Rattle.cyc_meaning.specs.Parts.{wrong, declared}
use Rattle.cyc_meaning.specs.Exceptions.{throws_value}
use Rattle.cyc_meaning.specs.inside.Nesting.{ends_of, AreOpen, IsNested}
use Rattle.cyc_meaning.specs.inside.Nesting as nesting
use Rattle.cyc_meaning.specs.Step.{chosen, looped, supplied}
use Rattle.cyc_meaning.proofs.NestingLemmas.{home_found}
use Rattle.cyc_soundness.specs.inside.Lives.{Life, OfRegion, Kept, Lives, at, RunTy, RunValue, Value, kind_at}
use Rattle.cyc_soundness.specs.inside.Lives as lives
use Rattle.cyc_soundness.specs.inside.Worlds.{OfLocal, Thing, Holder, Hand, At, pointer_at, thing_of, Owns, Claims, ClaimsBy, ClaimsAlone, IsHere, giving, marked, AreOwned, IsOpenIn, ObjectType}
use Rattle.cyc_soundness.specs.inside.Worlds.{IsKnownLife, IsNumber, IsOwner, Typing, IsFilled, variable_type, HasType, IsResult, AreCells, IsObject, IsTyped, Grows, Slot, KeyOf, PointerTo, Here, given as given_to}
use Rattle.cyc_soundness.specs.inside.Frames.{later, Bound, InScope, Variable, Level, life_named, lives_in, read, read_value, IsThere, IsHomed, AreBelow, IsBound, AreVariables, IsLasting, LiveIn, Within, itself, older, Holds, Implies, LoopExit, Exits, IsHome, IsContext, KnowsProgram}
use Rattle.cyc_soundness.specs.inside.Judgements.{Executes, Continues}
use Rattle.cyc_soundness.specs.inside.Awaited.{IsLoop, Repeats, IsArray, IsNew, Want, Val, Go, operands_in, Comes, Keeps, inside, Waits, relied_at}
use Rattle.cyc_soundness.specs.inside.Awaited as awaited
use Rattle.cyc_soundness.specs.inside.Stacks.{IsReturn, IsStack, IsFocus, IsWell}
use Rattle.cyc_soundness.proofs.types.TypeLemmas.{is_kind_same, kind_read}
use Rattle.cyc_soundness.proofs.flow.FlowLemmas.{holds_implied, reached_with, full_put, vacant_now}
use Rattle.cyc_soundness.proofs.states.WorldLemmas.{type_grown, with_variable, variable_grows, object_typed, globals_grown, owner_grown}
use Rattle.cyc_soundness.proofs.states.Hands.{Changed, at_no_hand, given_now, marked_now, marked_before, marked_keeps, giving_changed, open_kept, variables_kept, holds_kept, lent_no_hand, away_not_here, marked_other}
use Rattle.cyc_soundness.proofs.states.StillHands.{Raises, changed_raised, given_typed}
use Rattle.cyc_soundness.proofs.types.Sharing.{plain_read}
use Rattle.cyc_soundness.proofs.states.StackClaims.{stack_changed}
use Rattle.cyc_soundness.proofs.states.StackLocals.{there_present, scopes_below_more, local_new, bound_more, set_with_fullness, home_is, found_is, within_bound, within_variables, within_live, within_holds}
use Rattle.cyc_soundness.proofs.states.StackLemmas.{fields_kept, passed_kept, comes_alone, claimed_next}
use Rattle.cyc_soundness.proofs.types.RegionLemmas.{life_known, there_open, there_lasting, known_local, owner_known}
use Rattle.cyc_soundness.proofs.types.ValueLemmas.{negated, complemented, widened, narrowed, combined, zero_is}
use Rattle.cyc_soundness.specs.inside.Classes.{InInitial}
use Rattle.cyc_soundness.proofs.states.Cells.{part_had, running, plain_unkept}
use Rattle.cyc_soundness.proofs.steps.Loans.{opens_on, aliases_on, closes_on, frees_on}
use Rattle.cyc_soundness.proofs.steps.ArrayObjects.{plain_on, fields_on, array_on, fill_on, makes_on}
use Rattle.cyc_soundness.proofs.steps.Places.{looked_result, gives, follow_on, member_on, index_on, advance_on, count_on, cell_stored, point_on, null_point_on}
use Rattle.cyc_soundness.proofs.steps.Variables.{writes_local, writes_global}
use Rattle.cyc_soundness.proofs.steps.Evaluation.{pass_on}
use Rattle.cyc_soundness.proofs.steps.Chains.{chain_on, converted_on, denied_on, decided_on}

-- The typing context of a scope with one more local.
pub context_more : (p : Program) (x : Exits) (bs : List InScope) (c : Context) (is_place : Bool) (t : Ty) (b : Bound) → IsContext p x bs c → IsNew c t → b.number ≡ c.next_local → b.of_type ≡ read bs t
    → b.is_hidden ≡ is_moved t → IsHomed (lives_in bs) c.region b.life → IsContext p x (Variable b ∷ bs) (with_local is_place t c)
context_more p x bs c is_place t b stands new number of_type hidden life = record {
  globals = stands.globals;
  functions = stands.functions;
  structs = stands.structs;
  result = stands.result;
  gives = stands.gives;
  loop = stands.loop;
  scope = (c.locals, (_, refl, sym number, sym of_type, sym hidden, life), stands.scope);
  below = ((let less : b.number < suc c.next_local = omega (arith, number) in less), scopes_below_more c.next_local (suc c.next_local) bs (let le : c.next_local ≤ suc c.next_local = omega arith in le) stands.below);
  counters = λ l less. later (Variable b) bs (stands.counters l less);
  known = known_local c is_place t stands.known new;
  regions = stands.regions;
  home = stands.home;
}

-- The lifetime of the local that is declared next is the lifetime of its block.
pub record NewLife (bs : List InScope) (region home : ℕ) (k : List Entry) : Type 0 where
  pub life : Life
  pub number : IsNumber life home
  pub lasting : IsLasting (ends_of k) life
  pub homed : IsHomed (lives_in bs) region life
  pub known : (g : Typing) → AreVariables g bs → IsKnownLife g life × IsOpenIn g life

pub new_life : (bs : List InScope) (region home : ℕ) (k : List Entry) → LiveIn k bs → IsHome region bs → nesting.IsHome home k → NewLife bs region home k
new_life bs region home k live (number, there) at_home = record {
  life = life_named bs region;
  number = subst (λ n. IsNumber (life_named bs region) n) (live.1 ∙ sym (home_is home k at_home)) number;
  lasting = there_lasting (ends_of k) bs (regions.Variable region) live.0 (λ e. let z : regions.Variable region ≡ regions.Unique = e in absurd (cc)) there;
  homed = refl;
  known = λ g are. (life_known g bs (regions.Variable region) (λ e. let z : regions.Variable region ≡ regions.Unique = e in absurd (cc)) are, there_open g bs (regions.Variable region) are there);
}

pub owner_is : (l : Life) (region : ℕ) → IsNumber l region → IsOwner l (InRegion region)
owner_is (OfRegion number ns us) region is = is
owner_is lives.Owned region is = absurd is
owner_is (Kept (KeyOf number)) region is = is
owner_is (Kept (PointerTo object)) region is = absurd is

-- ---- declaring a local

-- The local that is declared, with its new object.
abbrev new_local : World → List InScope → (number : ℕ) → Ty → Life → Bound
new_local w bs number t l = record { number = number; object = length w.objects; of_type = read bs t; life = l; is_hidden = is_moved t }

abbrev new_type : (depth number : ℕ) → List InScope → Ty → Life → ObjectType
new_type d number bs t l = variable_type (read bs t) l (is_moved t) (OfLocal d number)

-- The resource (key or unique pointer) that a declaration puts into the local, if any.
abbrev its_thing : RunTy → Option values.Value → Option Thing
its_thing t None = None
its_thing t (Some v) = thing_of t v

abbrev pub ClaimsContent : (own : Thing → Holder) → Holder → RunTy → Option values.Value → Type 0
ClaimsContent own h t None = Unit {0}
ClaimsContent own h t (Some v) = Claims own h t v

content_owns : (own : Thing → Holder) (h : Holder) (t : RunTy) (content : Option values.Value) → ClaimsContent own h t content → Owns own h (its_thing t content)
content_owns own h t None is = tt
content_owns own h t (Some v) is = is.0

content_given : (own : Thing → Holder) (h new : Holder) (t : RunTy) (content : Option values.Value) (v : values.Value) → ClaimsContent own h t content → content ≡ Some v → Claims (given_to (its_thing t content) new own) new t v
content_given own h new t None v is same = absurd (let k : None ≡ Some v = same in cc)
content_given own h new t (Some u) v is same = subst (λ z. Claims (given_to (thing_of t u) new own) new t z) (same_Some u v same) (given_now own (thing_of t u) new, is.1)

-- The single cell of a new variable owns the resource that its own value represents.
one_owned : (g : Typing) (object : ℕ) (t : RunTy) (l : Life) (hidden : Bool) (s : Slot) (c : Cell) → ((v : values.Value) → c.content ≡ Some v → Claims g.own (At object 0) t v) → AreOwned g object (variable_type t l hidden s) (c ∷ [])
one_owned g object t l hidden s c has zero u d v kept found at content =
    subst (λ z. Claims g.own (At object 0) z v) (same_Some t u found) (has v (ap (λ (z : Cell). z.content) (same_Some c d at) ∙ content))
one_owned g object t l hidden s c has (suc i) u d v kept found at content = absurd (let k : None ≡ Some u = found in cc)

-- The typing of the heap state with the new local, which holds its initial value.
abbrev new_typing : Typing → List InScope → (number : ℕ) → Ty → Life → (filled object : ℕ) → Option Thing → Typing
new_typing g bs number t l n object o = with_variable (giving g o (At object 0)) (new_type g.depth number bs t l) n (marked object Here g.here)

module _ (p : Program) (g : Typing) (x : Exits) (bs : List InScope) (e : Environment) (w : World) (typed : IsTyped g w.regions w.objects) (globals : KnowsProgram g p) (bound : IsBound e.locals e.counters bs) (variables : AreVariables g bs) where
  abbrev pub made_typing : (number : ℕ) → Ty → Life → (filled : ℕ) → Option values.Value → Typing
  made_typing number t l n content = new_typing g bs number t l n (length w.objects) (its_thing (read bs t) content)

  pub declares : (number : ℕ) (kind : Kind) (t : Ty) (content : Option values.Value) (n i : ℕ) (l : Life) (focus : Focus) (stack : List Entry) → IsNested stack e w → LiveIn stack bs → AreBelow number bs
      → IsNumber l e.home → IsLasting (ends_of stack) l → IsKnownLife g l × IsOpenIn g l → ClaimsContent g.own (Hand i) (read bs t) content
      → (Grows g (made_typing number t l n content) → AreCells (made_typing number t l n content) (read bs t ∷ []) (record { kind = kind; content = content } ∷ []) n)
      → (Changed (Hand i) g (made_typing number t l n content) → IsFilled (made_typing number t l n content) (length w.objects) n → IsHere (made_typing number t l n content) g.depth number (length w.objects)
      → IsFocus p (made_typing number t l n content) x (Variable (new_local w bs number t l) ∷ bs) focus stack)
      → IsWell p (declared (region_at w e.home) focus number kind content stack e w)
  declares number kind t content n i l focus stack nests live below numbered lasting (known, opens) claims cells goes =
      let m = length w.objects in
      let o = its_thing (read bs t) content in
      let one = giving g o (At m 0) in
      let y = new_type g.depth number bs t l in
      let h = made_typing number t l n content in
      let has : Owns g.own (Hand i) o = content_owns g.own (Hand i) (read bs t) content claims in
      let raises : Raises one h = record { grows = variable_grows one y n (marked m Here g.here); own = refl; here = λ object is. marked_keeps m g.here object is; away = λ object j hides is. marked_other m Here g.here object (λ same. never_at_length g.objects object hides.0 hides.1 (same ∙ typed.count)) ∙ is; pending = refl; depth = refl; loans = refl } in
      let changed : Changed (Hand i) g h = changed_raised (Hand i) g one h (giving_changed g o (Hand i) (At m 0) has) raises in
      let first' : IsTyped one w.regions w.objects = given_typed g o (Hand i) (At m 0) w.regions w.objects has tt (λ object j. at_no_hand object j i) (λ object j. lent_no_hand j object i) typed in
      let is : IsObject h n y (variable e.home kind content) =
      record { owner = owner_is l e.home numbered; known = owner_grown g h changed.grows l (owner_known g l known); keyless = λ plain. (plain_unkept (read bs t) (plain_read g bs variables t plain), tt); cells = cells changed.grows } in
      let (r, found) = found_is (region_at w e.home) (home_found w.regions e.home stack nests.2 nests.0) in
      let there = subst (λ i. slice_get h.objects i ≡ Some y) (sym typed.count) (slice_get_last g.objects y) in
      let flag = subst (λ i. slice_get h.filled i ≡ Some n) (sym typed.counts) (slice_get_last g.filled n) in
      subst (λ a. IsWell p (declared a focus number kind content stack e w)) (sym found)
      (running p h x (Variable (new_local w bs number t l) ∷ bs) (state.with_local e number m) (made w (variable e.home kind content))
      (object_typed one w.regions w.objects y n (variable e.home kind content) (marked m Here g.here) first' is (λ object s apart now. marked_before m Here g.here object s apart now)
      (one_owned h m (read bs t) l (is_moved t) (OfLocal g.depth number) (record { kind = kind; content = content }) (λ v same. content_given g.own (Hand i) (At m 0) (read bs t) content v claims same)) (λ j away. absurd (away_not_here (marked m Here g.here m) j away (marked_now m Here g.here)))) (globals_grown g h changed.grows p (λ n ls. refl) globals)
      (local_new e number m, bound_more e number m bs below bound) ((there, open_kept (Hand i) g h changed l refl opens), variables_kept (Hand i) g h changed bs refl variables)
      focus stack ((lasting, live.0), live.1)
      (goes changed (n, flag, (let most : n ≤ n = omega arith in most)) (marked_now m Here g.here, (y, there, refl))))

module _ (p : Program) (g : Typing) (x : Exits) (bs : List InScope) (e : Environment) (w : World) (typed : IsTyped g w.regions w.objects) (globals : KnowsProgram g p) (bound : IsBound e.locals e.counters bs) (variables : AreVariables g bs) where
  on : (focus : Focus) (k : List Entry) → LiveIn k bs → IsFocus p g x bs focus k → IsWell p (Running focus k e w)
  on focus k live stands = running p g x bs e w typed globals bound variables focus k live stands

  -- The step that declares a local with a value leads to a state that satisfies the soundness invariant and continues with the remaining
  -- declarations and statements of the local's block.
  pub declares_full : (number : ℕ) (kind : Kind) (v : values.Value) (is_place : Bool) (t : Ty) (js : Items) (cs : List InScope) (c : Context) (f h : flow.State) (k : List Entry) → IsNested k e w → LiveIn k bs
      → Within cs bs → IsContext p x bs c → Holds g f bs → IsNew c t → number ≡ c.next_local → kind ≡ kind_at (read bs t) → HasType g (read bs t) v → ClaimsBy g (operands_in k) (Value (read bs t)) v
      → Continues x (with_local is_place t c) js (with_fullness Full f number) h → IsStack p g x cs (Go h) k → IsWell p (declared (region_at w e.home) Proceeding number kind (Some v) (Rest js ∷ k) e w)
  declares_full number kind v is_place t js cs c f h k nests live within stands holds new number_is kind_is has comes continues stack =
      let below : AreBelow number bs = subst (λ n. AreBelow n bs) (sym number_is) stands.below in
      let l = new_life bs c.region e.home k live stands.home nests.2 in
      let hand = Hand (operands_in k) in
      let h1 = made_typing p g x bs e w typed globals bound variables number t l.life 1 (Some v) in
      declares p g x bs e w typed globals bound variables number kind t (Some v) 1 (operands_in k) l.life Proceeding (Rest js ∷ k) nests live below l.number l.lasting (l.known g variables) comes
      (λ grows. ((kind_is, type_grown g h1 grows (read bs t) v has), tt))
      (λ changed full here. (let (reached, are) = holds_kept hand g h1 changed f bs (λ n object s its. at_no_hand object 0 (operands_in k)) holds in (
        with_fullness Full f number,
        (reached_with Full f number reached, ((λ s. full, λ s. here), set_with_fullness h1 Full f number bs below are)),
        (
          cs,
          with_local is_place t c,
          h,
          older (Variable (new_local w bs number t l.life)) cs bs tt within,
          context_more p x bs c is_place t (new_local w bs number t l.life) stands new number_is refl refl l.homed,
          continues,
          stack_changed p hand g h1 x cs (Go h) k changed (let le : operands_in k ≤ operands_in k = omega arith in le) stack,
        ),
      )))

  -- The step that declares a local without a value.
  pub declares_blank : (number : ℕ) (kind : Kind) (t : Ty) (js : Items) (cs : List InScope) (c : Context) (f h : flow.State) (k : List Entry) → IsNested k e w → LiveIn k bs
      → Within cs bs → IsContext p x bs c → Holds g f bs → IsNew c t → number ≡ c.next_local → kind ≡ kind_at (read bs t) → Continues x (with_local true t c) js (with_fullness Vacant f number) h
      → IsStack p g x cs (Go h) k → IsWell p (declared (region_at w e.home) Proceeding number kind None (Rest js ∷ k) e w)
  declares_blank number kind t js cs c f h k nests live within stands holds new number_is kind_is continues stack =
      let below : AreBelow number bs = subst (λ n. AreBelow n bs) (sym number_is) stands.below in
      let l = new_life bs c.region e.home k live stands.home nests.2 in
      let hand = Hand (operands_in k) in
      let h0 = made_typing p g x bs e w typed globals bound variables number t l.life 0 None in
      declares p g x bs e w typed globals bound variables number kind t None 0 (operands_in k) l.life Proceeding (Rest js ∷ k) nests live below l.number l.lasting (l.known g variables) tt (λ grows. ((kind_is, refl), tt))
      (λ changed full here. (let (reached, are) = holds_kept hand g h0 changed f bs (λ n object s its. at_no_hand object 0 (operands_in k)) holds in (
        with_fullness Vacant f number,
        (
          reached_with Vacant f number reached,
          (
            (λ s. absurd (vacant_now f number reached s), λ s. let z : false ≡ true = full_put Vacant f number reached s in absurd (cc)),
            set_with_fullness h0 Vacant f number bs below are,
          ),
        ),
        (
          cs,
          with_local true t c,
          h,
          older (Variable (new_local w bs number t l.life)) cs bs tt within,
          context_more p x bs c true t (new_local w bs number t l.life) stands new number_is refl refl l.homed,
          continues,
          stack_changed p hand g h0 x cs (Go h) k changed (let le : operands_in k ≤ operands_in k = omega arith in le) stack,
        ),
      )))

  -- ---- branches and loops

  chosen_on : (b : Bool) (first second : Statement) (k : List Entry) (c d : Context) (f i j l : flow.State) → LiveIn k bs → Holds g f bs → IsContext p x bs c → IsContext p x bs d
      → Executes x c first f i → Executes x d second f j → Implies i l → Implies j l → IsStack p g x bs (Go l) k → IsWell p (chosen (Some b) first second k e w)
  chosen_on true first second k c d f i j l live holds stands others one two m n stack = on (Executing second) (Join ∷ k) live (d, f, j, others, holds, two, (l, n, stack))
  chosen_on false first second k c d f i j l live holds stands others one two m n stack = on (Executing first) (Join ∷ k) live (c, f, i, stands, holds, one, (l, m, stack))

  looped_on : (b : Bool) (condition : Expression) (body : Statement) (k : List Entry) (l : LoopExit) (v : ValueType) (f h : flow.State) → LiveIn k bs → Holds g f bs → IsLoop p x bs l condition body v f h
      → IsStack p g x bs (Go h) k → IsWell p (looped (Some b) condition body k e w)
  looped_on true condition body k l v f h live holds loop stack = on Proceeding k live (h, holds_implied g f h bs loop.fails holds, stack)
  looped_on false condition body k l v f h live holds loop stack =
      running p g (inside x l) bs e w typed globals bound variables (Executing body) (Loop condition body ∷ k) live (
        in_body loop.context,
        f,
        loop.now,
        record {
          globals = loop.stands.globals;
          functions = loop.stands.functions;
          structs = loop.stands.structs;
          result = loop.stands.result;
          gives = loop.stands.gives;
          loop = λ u. refl;
          scope = loop.stands.scope;
          below = loop.stands.below;
          counters = loop.stands.counters;
          known = loop.stands.known;
          regions = loop.stands.regions;
          home = loop.stands.home;
        },
        holds,
        loop.again,
        (x, l, v, f, h, refl, loop, loop.back, stack),
      )

  thrown_on : (tag : ℕ) (v : values.Value) (k : List Entry) (h : flow.State) → LiveIn k bs → HasType g lives.Int v → IsStack p g x bs (Go h) k → IsWell p (throws_value tag v k e w)
  thrown_on tag (values.Int word) k h live is stack = on (Throwing tag word) k live (Go h, stack)
  thrown_on tag v k h live is stack = absurd is

  -- The step that allocates an object in the region of a handle.
  placed_by : (i : Initial) (v : values.Value) (k : List Entry) (c : Context) (m : PointerKind) (t : Ty) (r : Region) (f h : flow.State) (q : List ℕ) → AreOpen w.regions (ends_of k) → LiveIn k bs → IsContext p x bs c → Holds g f bs
      → IsThere bs r → IsMade c i m t → Derives (rule_initial q i f) h → InInitial (relied_at x.relied k) i → HasType g (lives.Handle (lives_in bs r)) v
      → IsStack p g x bs (Val (Value (lives.Pointer m (read bs t) (lives_in bs r))) h) k → IsWell p (makes_by i v k e w)
  placed_by i (values.Handle region) k c m t r f h q opens live stands holds alive made flows kept has stack =
      makes_on p g x bs e w typed globals bound variables i (InRegion region) (Needs (BesideHandle region) ∷ k) c m t r f h q opens live stands holds alive (owner_is (lives_in bs r) region has) made flows kept
      ([], bs, Val (Value (lives.Pointer m (read bs t) (lives_in bs r))) h, awaited.beside_handle (lives.Pointer m (read bs t) (lives_in bs r)) h, tt, stack)
  placed_by i v k c m t r f h q opens live stands holds alive made flows kept has stack = absurd has

  -- The next element of an array is filled, and the loop counter of the array leaves the scope.
  filled_on : (object count index level : ℕ) (kind : Kind) (element : Expression) (v : Operand) (k : List Entry) (cs : List InScope) (c : Context) (t : Ty) (r : Region) (f h : flow.State) → bs ≡ Level level ∷ cs
      → AreOpen w.regions (ends_of k) → LiveIn k bs → IsThere cs r → IsContext p x cs c → Holds g h bs → Repeats (relied_at x.relied k) c level kind element t f → Implies h f → index < count
      → IsArray g (read cs t) (lives_in cs r) object count index → Owns g.own (Hand (operands_in k)) (pointer_at (lives_in cs r) object) → IsResult g (Value (read cs t)) v → Claims g.own (Hand (1 + operands_in k)) (read cs t) v.value → IsStack p g x cs (Val (Value (lives.Pointer marks.Fat (read cs t) (lives_in cs r))) f) k
      → IsWell p (fills_element object count index level kind element v k e w)
  filled_on object count index level kind element v k cs c t r f h same opens live alive stands holds repeats back less array has is comes stack =
      let outer : Within cs bs = subst (λ z. Within cs z) (sym same) (older (Level level) cs cs tt (itself cs)) in
      fill_on p g x cs e w typed globals (within_bound e cs bs outer bound) (within_variables g cs bs outer variables) object count index level kind element v k c t r f h opens (within_live k cs bs outer live) alive stands
      (within_holds g h cs bs outer holds) repeats back less array has is comes stack

  -- ---- all waiting entries

  pub given : {a : Awaiting} {ts : List RunTy} {r : RunValue} {f : flow.State} {cs : List InScope} {next : Want} (v : Operand) (k : List Entry) → IsNested k e w → LiveIn k bs → Holds g f bs → IsResult g r v
      → Comes g r v (Needs a ∷ k) → Waits p x (relied_at x.relied k) bs a ts r f cs next → Keeps g (operands_in k) a ts → IsStack p g x cs next k → IsWell p (supplied a v k e w)
  given v k nests live holds is comes (awaited.converts {from} {to} {target} c s t f agrees keeps conv from_is to_is same) are stack =
      converted_on p g x bs e w typed globals bound variables from to target v k c s t f live agrees keeps holds is (comes_alone g k (read_value bs s) v.value comes) conv from_is to_is same stack
  given v k nests live holds is comes (awaited.negates f) are stack =
      gives p g x bs e w typed globals bound variables k kinds.Int lives.Int f (unary_result unary.Negate v.value) live holds tt refl (negated g v.value is.1) stack
  given v k nests live holds is comes (awaited.complements f) are stack =
      gives p g x bs e w typed globals bound variables k kinds.Int lives.Int f (unary_result unary.Complement v.value) live holds tt refl (complemented g v.value is.1) stack
  given v k nests live holds is comes (awaited.widens f) are stack =
      gives p g x bs e w typed globals bound variables k kinds.Int lives.Int f (unary_result unary.Widen v.value) live holds tt refl (widened g v.value is.1) stack
  given v k nests live holds is comes (awaited.narrows f) are stack =
      gives p g x bs e w typed globals bound variables k kinds.Char lives.Char f (unary_result unary.LowByte v.value) live holds tt refl (narrowed g v.value is.1) stack
  given v k nests live holds is comes (awaited.denies seen s f tested) are stack = denied_on p g x bs e w typed globals bound variables seen v k s f live holds tested is stack
  given v k nests live holds is comes (awaited.chains {os} seen c s t f h stands computes chained') are stack =
      chain_on p g x bs e w typed globals bound variables os seen v k c s t f h computes.waiting live stands holds is comes chained' computes.typed computes.flows computes.kept stack
  given v k nests live holds is comes (awaited.applies {o} {left} f) ((left_is, unit), claims) stack =
      gives p g x bs e w typed globals bound variables k kinds.Int lives.Int f (binary_result o left.value v.value) live holds tt refl (combined g o left.value v.value left_is.1 is.1) stack
  given v k nests live holds is comes (awaited.decides seen s f h tested i) are stack = decided_on p g x bs e w typed globals bound variables seen v k s f h live holds tested i is stack
  given v k nests live holds is comes (awaited.stores_local b t f among same spared) are stack =
      writes_local p g x bs e w typed globals bound variables v k b t f nests.0 live among same spared holds is (comes_alone g k (Value (read bs t)) v.value comes) stack
  given v k nests live holds is comes (awaited.stores_global number t f there means) are stack =
      writes_global p g x bs e w typed globals bound variables v k number t f nests.0 live there means holds is (comes_alone g k (Value (read bs t)) v.value comes) stack
  given v k nests live holds is comes (awaited.points {peek} {o} {left} also c t s u f stands op) ((left_is, unit), part) stack =
      point_on p g x bs e w typed globals bound variables also left v (operands_in (Needs (state.ApplyPointer peek o left) ∷ k)) k f nests.0 live holds stands op left_is (part_had g (operands_in k) peek (thing_of (read bs t) left.value) part) is comes stack
  given v k nests live holds is comes (awaited.null_points also c s u f op) are stack = null_point_on p g x bs e w typed globals bound variables also v k f live holds op is stack
  given v k nests live holds is comes (awaited.stores_cell {peek} {place} t r f alive) (((kind, to), unit), part) stack =
      cell_stored p g x bs e w typed globals bound variables place v t (lives_in bs r) k f nests.0 live (there_present g (ends_of k) bs r live.0 variables alive)
      (part_had g (operands_in k) peek (thing_of (lives.Pointer marks.NonNull (read bs t) (lives_in bs r)) place) part) holds to is (1 + operands_in k) (let le : operands_in k ≤ 1 + operands_in k = omega arith in le) comes stack
  given v k nests live holds is comes (awaited.follows {k = pk} {target} seen u m t r f through kind same alive) are stack =
      follow_on p g x bs e w typed globals bound variables seen u m pk target t (lives_in bs r) v k f live holds through kind same is (comes_alone g k u v.value comes) stack
  given v k nests live holds is comes (awaited.follows_member {k = pk} {fields} {field} seen m n ls s t u r f kind struct fields_are there means alive) are stack =
      member_on p g x bs e w typed globals bound variables seen m pk fields n ls s t u (lives_in bs r) field v k f live holds kind fields_are struct there means is
      (comes_alone g k (lives.looked seen (Value (lives.Pointer m (lives.Struct n ls) (lives_in bs r)))) v.value comes) stack
  given v k nests live holds is comes (awaited.indexes {peek} {target} {index} c t r f h stands evaluates same alive) are stack =
      index_on p g x bs e w typed globals bound variables peek target index c t r v k f h live holds stands evaluates same alive is (comes_alone g k (lives.looked peek (Value (lives.Pointer marks.Fat (read bs t) (lives_in bs r)))) v.value comes) stack
  given v k nests live holds is comes (awaited.advances {peek} {target} {base} t r f same alive) ((base_is, unit), part) stack = advance_on p g x bs e w typed globals bound variables peek t r target base v k f live holds same alive base_is part is stack
  given v k nests live holds is comes (awaited.counts_elements seen t l f) are stack = count_on p g x bs e w typed globals bound variables seen t l v k f live holds is stack
  given v k nests live holds is comes (awaited.places_by {i} c m t r f h stands makes alive) are stack = placed_by i v.value k c m t r f h makes.waiting nests.0 live stands holds alive makes.typed makes.flows makes.kept is.1 stack
  given v k nests live holds is comes (awaited.beside_handle t f) are stack = on (Given v) k live (Value t, f, holds, is, comes_alone g k (Value t) v.value comes, stack)
  given v k nests live holds is comes (awaited.makes_plain {owner} {kind} t r f plain alive owned kind_is) are stack = plain_on p g x bs e w typed globals bound variables owner kind v t r k f plain nests.0 live holds alive owned kind_is is (comes_alone g k (Value (read bs t)) v.value comes) stack
  given v k nests live holds is comes (awaited.makes_fields {owner} {before} {rest} c done t ts n ls r f h alive owned stands passes fields) are stack =
      let (operands, claims) = fields_kept g (operands_in k) owner before rest done are in
      fields_on p g x bs e w typed globals bound variables k owner (v ∷ before) (read bs t ∷ done) rest ts c n ls r f h passes.waiting nests.0 live stands holds alive owned passes.typed passes.flows passes.kept (is, operands) (claimed_next g (operands_in k) (read bs t) v.value done before operands comes, claims) fields stack
  given v k nests live holds is comes (awaited.makes_array {owner} {level} {kind} {element} c t r f alive owned stands repeats) are stack =
      array_on p g x bs e w typed globals bound variables owner level kind element v.value k c t r f live stands holds alive owned repeats is.1 stack
  given v k nests live holds is comes (awaited.fills {object} {count} {index} {level} {kind} {element} cs c t r f h same alive stands repeats back) (less, array, has) stack =
      filled_on object count index level kind element v k cs c t r f h same nests.0 live alive stands holds repeats back less array has is comes stack
  given v k nests live holds is comes (awaited.passes {callee} {before} {rest} c done t ts r f h stands passes called) are stack =
      let (operands, claims) = passed_kept g (operands_in k) callee before rest done are in
      pass_on p g x bs e w typed globals bound variables k callee (v ∷ before) (read bs t ∷ done) rest ts c r f h passes.waiting live stands holds passes.typed passes.flows passes.kept (is, operands) (claimed_next g (operands_in k) (read bs t) v.value done before operands comes, claims) called stack
  given v k nests live holds is comes (awaited.initialises {number} {kind} {js} cs c t f h within stands new number_is kind_is continues) are stack =
      let same : v.kind ≡ kind = is.0 ∙ kind_read (lives_in bs) t ∙ sym kind_is in
      subst (λ (b : Bool). IsWell p (if b then declared (region_at w e.home) Proceeding number kind (Some v.value) (Rest js ∷ k) e w else wrong w)) (sym (is_kind_same v.kind kind same))
      (declares_full number kind v.value true t js cs c f h k nests live within stands holds new number_is (kind_is ∙ sym (kind_read (lives_in bs) t)) is.1 (comes_alone g k (Value (read bs t)) v.value comes) continues stack)
  given v k nests live holds is comes (awaited.chooses {first} {second} seen c d s f i j l tested stands others one two m n) are stack =
      let (b, at_zero) = zero_is g (lives_in bs) s v tested (looked_result g seen (read_value bs s) v is) in
      subst (λ z. IsWell p (chosen z first second k e w)) (sym at_zero) (chosen_on b first second k c d f i j l live holds stands others one two m n stack)
  given v k nests live holds is comes (awaited.tests {condition} {body} seen l s f h loop) are stack =
      let (b, at_zero) = zero_is g (lives_in bs) s v loop.tested (looked_result g seen (read_value bs s) v is) in
      subst (λ z. IsWell p (looped z condition body k e w)) (sym at_zero) (looped_on b condition body k l s f h live holds loop stack)
  given v k nests live holds is comes (awaited.returns t u f h result gives_so) are stack =
      on (Returning (Some v)) k live (h, subst (λ z. IsReturn g (operands_in k) z x.gives (Some v)) (sym result) (subst (λ z. IsResult g z v) gives_so is, subst (λ z. ClaimsAlone g.own (operands_in k) z v.value) gives_so (comes_alone g k (Value u) v.value comes)), stack)
  given v k nests live holds is comes (awaited.frees_object m t f) are stack = frees_on p g x bs e w typed globals bound variables m t v.value k f live holds is.1 (comes_alone g k (Value (lives.Pointer m t lives.Owned)) v.value comes) stack
  given v k nests live holds is comes (awaited.closes_by_key r f) are stack = closes_on p g x bs e w typed globals bound variables v.value k r f live holds is.1 (comes_alone g k (Value (lives.Key (lives_in bs r))) v.value comes) stack
  given v k nests live holds is comes (awaited.throws {tag} f h) are stack = thrown_on tag v.value k h live is.1 stack
  given v k nests live holds is comes (awaited.opens_by {number} {lent} {js} cs c b r f h i within stands among number_of of_type hides set spared full less alive number_is continues again) are stack =
      opens_on p g x bs e w typed globals bound variables number lent js v.value k cs c b r f h i live holds within stands among number_of of_type hides spared full less alive number_is continues again is.1 stack
  given v k nests live holds is comes (awaited.aliases {number} {lent} {js} cs c b u t f h i within stands among number_of type_is hides set spared full unique known of_type alive number_is continues again) are stack =
      aliases_on p g x bs e w typed globals bound variables number lent js v k cs c b u t f h i live holds within stands among number_of type_is hides spared full unique known of_type alive number_is continues again comes is stack
