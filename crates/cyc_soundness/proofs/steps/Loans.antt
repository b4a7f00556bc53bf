-- This file is about loans to the end of a block: dynamic regions that are opened by keys, and unique objects that an alias shares for
-- the length of a block.
use Rattle.std.proofs.Common.{◌≡◌, inl, inr, set, ℕ, suc, ◌+◌, ◌≤◌, ◌<◌, Bool, true, false, List, [], ◌∷◌, length, Option, Some, None, slice_get, refl, sym, ap, subst, ◌∙◌, arith, zero}
use Rattle.std.specs.Prelude.{if◌then◌else◌}
use Rattle.std.proofs.lemmas.Bool.{eq-eqb}
use Rattle.std.proofs.lemmas.Option.{same_Some}
use Rattle.cyc_words.proofs.Members.{Contains-tail}
use Rattle.cyc_syntax.specs.declared.tree.PointerKind.{PointerKind}
use Rattle.cyc_syntax.specs.declared.tree.PointerKind.TheVariants as marks
use Rattle.cyc_types.specs.declared.region.Region.{Region as Region'}
use Rattle.cyc_types.specs.declared.region.Region.TheVariants as regions
use Rattle.cyc_types.specs.declared.scope.Kind.TheVariants as scopes
use Rattle.cyc_types.specs.declared.typed.Kind.TheVariants as kinds
use Rattle.cyc_types.specs.Outlives.{live_regions}
use Rattle.cyc_types.specs.Types.{Ty}
use Rattle.cyc_types.specs.Types as types
use Rattle.cyc_types.specs.TypedTrees.{Items, Program}
use Rattle.cyc_types.specs.typing.Statements.{with_region_of}
use Rattle.cyc_types.specs.typing.Tests.{is_unique}
use Rattle.cyc_types.specs.typing.WellTyped.{LocalInScope, Context, HasLocal, IsLive, with_local, with_region, with_opened, with_key_opened}
use Rattle.cyc_types.specs.flow.States as flow
use Rattle.cyc_types.specs.flow.States.{Locked, Full, with_fullness}
use Rattle.cyc_types.proofs.typing.FormedLemmas.{known_more}
use Rattle.cyc_meaning.specs.Values.{Operand, Cell}
use Rattle.cyc_meaning.specs.Values as values
use Rattle.cyc_meaning.specs.State as state
use Rattle.cyc_meaning.specs.State.{World, Found, Closed, found_region, opened_as, Environment, Entry, EndLoan, Proceeding, Naming, closed, State, Running, Object}
use Rattle.cyc_meaning.specs.Parts.{wrong}
use Rattle.cyc_meaning.specs.inside.Nesting.{ends_of, IsNested}
use Rattle.cyc_meaning.specs.Regions.{is_dynamic, opened_by, opens_with, opens_dynamic, closes_dynamic, closes_with, aliased, frees_owned, frees_object, frees}
use Rattle.cyc_meaning.specs.Objects.{freed}
use Rattle.cyc_soundness.specs.inside.Lives.{Life, OfRegion, Kept, heap_life, Value, at, AllIn, IsKnown}
use Rattle.cyc_soundness.specs.inside.Lives as lives
use Rattle.cyc_soundness.specs.inside.Worlds.{OfLocal, Thing, KeyOf, PointerTo, Nobody, Hand, At, Lent, thing_of, Owns, Claims, IsSlot, IsHere, giving, given, marked, handing, variable_type, IsHeld, is_lent_by, IsOpenIn, Stays, Grows}
use Rattle.cyc_soundness.specs.inside.Worlds.{IsFull, Typing, IsKnownLife, IsNumber, IsKeyOf, HasType, IsResult, IsTyped, IsDynamic, IsKnownOwner, Settled, Holder, lent_now, IsTarget, ObjectType, Outlasts, alike, life_at, Away, Here}
use Rattle.cyc_soundness.specs.inside.Classes.{IsSpared, IsDeclarable}
use Rattle.cyc_soundness.specs.inside.Frames.{IsAmong, first, later, Bound, InScope, Variable, Names, life_named, lives_in, read, IsBound, AreVariables, IsLasting, LiveIn, Within, older, IsFullIn, Holds, Implies, Exits, lending, AreKnownLocals, AreKnown, IsContext, KnowsProgram, local_type}
use Rattle.cyc_soundness.specs.inside.Judgements.{Continues}
use Rattle.cyc_soundness.specs.inside.Awaited.{operands_in, Go, IsCommonLife}
use Rattle.cyc_soundness.specs.inside.Stacks.{IsStack, IsWell}
use Rattle.cyc_soundness.proofs.types.TypeLemmas.{all_in_weaker, read_alike}
use Rattle.cyc_soundness.proofs.flow.FlowLemmas.{full_set, reached_with}
use Rattle.cyc_soundness.proofs.types.RegionLemmas.{name_known, same_name, known_other, other_life, region_owner}
use Rattle.cyc_soundness.proofs.types.CallRegions.{context_key, context_alias, context_again}
use Rattle.cyc_soundness.proofs.states.WorldLemmas.{globals_grown, result_grown, typed_cell}
use Rattle.cyc_soundness.proofs.states.Hands.{Changed, at_no_hand, at_some, given_now, giving_changed, handing_changed, changed_after, variables_kept, holds_kept}
use Rattle.cyc_soundness.proofs.states.StillHands.{freed_typed}
use Rattle.cyc_soundness.proofs.states.CallHands.{hands_globals, with_kept, kept_grows, kept_typed, variables_more, moment_typed, moment_globals, holds_lent, lent_last, closed_by_key}
use Rattle.cyc_soundness.proofs.states.StillHands.{lent_typed}
use Rattle.cyc_soundness.proofs.states.Hands.{marked_now}
use Rattle.cyc_soundness.proofs.states.StillHands.{kept_now, also_changed, also_typed, also_lent}
use Rattle.cyc_soundness.proofs.states.StackLemmas.{emptied_other, statement_relied}
use Rattle.cyc_soundness.proofs.states.StackClaims.{stack_changed, settled}
use Rattle.cyc_soundness.proofs.states.StackLocals.{above_globals, full_here, within_full_at, within_variables, among_bound, among_variable, among_own, among_set, set_stored, lent_held}
use Rattle.cyc_soundness.proofs.states.Cells.{pointer_plain, plain_claims, running}

-- ---- lists

-- ---- types

-- The type of a local contains only regions that were declared before the local.
pub local_type_known : (c : Context) (n : ℕ) (t : Ty) (r : ℕ) → AreKnown c.next_region c.regions c.locals c.result → HasLocal c.locals n t r → AllIn (IsKnown c.next_region) t
local_type_known c n t r known has = go c.locals known.locals has
  where
    go : (vs : List LocalInScope) → AreKnownLocals c.next_region vs → HasLocal vs n t r → AllIn (IsKnown c.next_region) t
    go [] known has = absurd has
    go (v ∷ vs) ((one, home), known) (inl (same, of_type, region)) = subst (λ u. AllIn (IsKnown c.next_region) u) of_type one
    go (v ∷ vs) (one, known) (inr has) = go vs known has

alias_known : (n : ℕ) (u : Ty) → is_unique u ≡ true → AllIn (IsKnown n) u → IsDeclarable (suc n) (with_region_of (regions.Variable n) u)
alias_known n (types.Pointer k t s) unique (known, one) =
    (all_in_weaker (IsKnown n) (IsKnown (suc n)) (λ r is. known_more n (suc n) r (let most : n ≤ suc n = omega arith in most) is) t known, (let less : n < suc n = omega arith in less))
alias_known n types.Int unique known = absurd (let z : false ≡ true = unique in cc)
alias_known n types.Char unique known = absurd (let z : false ≡ true = unique in cc)
alias_known n (types.Handle r) unique known = absurd (let z : false ≡ true = unique in cc)
alias_known n (types.Key r) unique known = absurd (let z : false ≡ true = unique in cc)
alias_known n (types.Struct s rs) unique known = absurd (let z : false ≡ true = unique in cc)

-- A unique type is a pointer type whose region is the unique region.
unique_is : (u : Ty) → is_unique u ≡ true → (k : PointerKind) × (t : Ty) × (u ≡ types.Pointer k t regions.Unique)
unique_is (types.Pointer k t regions.Unique) unique = (k, t, refl)
unique_is (types.Pointer k t regions.Heap) unique = absurd (let z : false ≡ true = unique in cc)
unique_is (types.Pointer k t (regions.Variable m)) unique = absurd (let z : false ≡ true = unique in cc)
unique_is types.Int unique = absurd (let z : false ≡ true = unique in cc)
unique_is types.Char unique = absurd (let z : false ≡ true = unique in cc)
unique_is (types.Handle r) unique = absurd (let z : false ≡ true = unique in cc)
unique_is (types.Key r) unique = absurd (let z : false ≡ true = unique in cc)
unique_is (types.Struct s rs) unique = absurd (let z : false ≡ true = unique in cc)

-- The lifetime of an object shared by an alias: it lasts while the object is lent, or for ever if the pointer is null.
abbrev shared_life : values.Value → Life
shared_life (values.Thin object offset) = Kept (PointerTo object)
shared_life (values.Fat object start count index) = Kept (PointerTo object)
shared_life v = heap_life

-- an alias has the type of the pointer that it shares, with the lifetime of the loan
alias_read : (bs : List InScope) (n : ℕ) (l : Life) (k : PointerKind) (t : Ty) → AllIn (IsKnown n) t → read (Names n l true ∷ bs) (types.Pointer k t (regions.Variable n)) ≡ lives.Pointer k (read bs t) l
alias_read bs n l k t known =
    let inner : List InScope = Names n l true ∷ bs in
    let same : read inner t ≡ read bs t = sym (read_alike (lives_in bs) (lives_in inner) t
    (all_in_weaker (IsKnown n) (λ r. lives_in bs r ≡ lives_in inner r) (λ r is. other_life n l true bs r (known_other n r is)) t known)) in
    ap (λ z. lives.Pointer k z (life_named inner n)) same ∙ ap (λ m. lives.Pointer k (read bs t) m) (same_name n l (life_named bs n))

-- Says that a resource (key or unique pointer), if one is given, is recorded as lent in this typing of the heap state.
abbrev IsLentNow : Typing → Option Thing → Type 0
IsLentNow g None = Unit {0}
IsLentNow g (Some a) = lent_now g a ≡ true

abbrev IsNoPointer : values.Value → Type 0
IsNoPointer (values.Int n) = Unit {0}
IsNoPointer (values.Handle n) = Unit {0}
IsNoPointer (values.Key n) = Unit {0}
IsNoPointer v = ⊥

lent_by_now : (g : Typing) (object j : ℕ) (o : Option Thing) → g.loans ≡ suc j → Owns g.own (Lent j object) o → IsLentNow g o
lent_by_now g object j None loans is = tt
lent_by_now g object j (Some a) loans is = subst (λ h. is_lent_by g.loans h ≡ true) (sym is) (subst (λ n. is_lent_by n (Lent j object) ≡ true) (sym loans) (lent_last j object))

-- A lent pointer has a type with the lifetime of its loan.
module _ (g : Typing) (regions : List state.Region) (objects : List state.Object) (typed : IsTyped g regions objects) where
  shared_target : (t : lives.RunTy) (object offset : ℕ) → IsTarget g t lives.Owned object offset → lent_now g (PointerTo object) ≡ true → IsTarget g t (Kept (PointerTo object)) object offset
  shared_target t object offset (x, there, shown, lasts, part) lent =
      let (y, z, at, life, stands, owner) = typed.unique object (lent_held g.loans (g.own (PointerTo object)) lent) in
      let owned : x.life ≡ lives.Owned = ap (λ (z : ObjectType). z.life) (same_Some x y (sym there ∙ at)) ∙ life in
      (x, there, shown, subst (λ m. Outlasts (life_at object m) (Kept (PointerTo object))) (sym owned) (alike (Kept (PointerTo object))), part)

  shared_null : (k : PointerKind) (t : lives.RunTy) → HasType g (lives.Pointer k t lives.Owned) values.Null → HasType g (lives.Pointer k t heap_life) values.Null
  shared_null marks.Nullable t is = tt
  shared_null marks.NonNull t is = absurd is
  shared_null marks.Fat t is = tt

  shared_thin : (k : PointerKind) (t : lives.RunTy) (object offset : ℕ) → HasType g (lives.Pointer k t lives.Owned) (values.Thin object offset) → lent_now g (PointerTo object) ≡ true
      → HasType g (lives.Pointer k t (Kept (PointerTo object))) (values.Thin object offset)
  shared_thin marks.Nullable t object offset is lent = shared_target t object offset is lent
  shared_thin marks.NonNull t object offset is lent = shared_target t object offset is lent
  shared_thin marks.Fat t object offset is lent = absurd is

  shared_fat : (k : PointerKind) (t : lives.RunTy) (object start count index : ℕ) → HasType g (lives.Pointer k t lives.Owned) (values.Fat object start count index) → lent_now g (PointerTo object) ≡ true
      → HasType g (lives.Pointer k t (Kept (PointerTo object))) (values.Fat object start count index)
  shared_fat marks.Nullable t object start count index is lent = absurd is
  shared_fat marks.NonNull t object start count index is lent = absurd is
  shared_fat marks.Fat t object start count index is lent = λ i less. shared_target t object (start + i) (is i less) lent

  shared_other : {A : Type 0} (k : PointerKind) (t : lives.RunTy) (l : Life) (v : values.Value) → IsNoPointer v → HasType g (lives.Pointer k t l) v → A
  shared_other marks.Nullable t l (values.Int n) other is = absurd is
  shared_other marks.NonNull t l (values.Int n) other is = absurd is
  shared_other marks.Fat t l (values.Int n) other is = absurd is
  shared_other marks.Nullable t l (values.Handle n) other is = absurd is
  shared_other marks.NonNull t l (values.Handle n) other is = absurd is
  shared_other marks.Fat t l (values.Handle n) other is = absurd is
  shared_other marks.Nullable t l (values.Key n) other is = absurd is
  shared_other marks.NonNull t l (values.Key n) other is = absurd is
  shared_other marks.Fat t l (values.Key n) other is = absurd is
  shared_other k t l v other is = absurd other

  shared_typed : (k : PointerKind) (t : lives.RunTy) (v : values.Value) → HasType g (lives.Pointer k t lives.Owned) v → IsLentNow g (thing_of (lives.Pointer k t lives.Owned) v) → HasType g (lives.Pointer k t (shared_life v)) v
  shared_typed k t values.Null is lent = shared_null k t is
  shared_typed k t (values.Thin object offset) is lent = shared_thin k t object offset is lent
  shared_typed k t (values.Fat object start count index) is lent = shared_fat k t object start count index is lent
  shared_typed k t (values.Int n) is lent = shared_other k t lives.Owned (values.Int n) tt is
  shared_typed k t (values.Handle n) is lent = shared_other k t lives.Owned (values.Handle n) tt is
  shared_typed k t (values.Key n) is lent = shared_other k t lives.Owned (values.Key n) tt is

-- A property of the lifetimes of the heap and of all lent objects holds for the lifetime of the object that an alias shares.
shared_by : (v : values.Value) (P : Life → Type 0) → P heap_life → ((object : ℕ) → P (Kept (PointerTo object))) → P (shared_life v)
shared_by values.Null P heap lent = heap
shared_by (values.Thin object offset) P heap lent = lent object
shared_by (values.Fat object start count index) P heap lent = lent object
shared_by (values.Int n) P heap lent = heap
shared_by (values.Handle n) P heap lent = heap
shared_by (values.Key n) P heap lent = heap

heap_open : (g : Typing) → IsOpenIn g heap_life
heap_open g a e = absurd (let z : false ≡ true = e in cc)

shared_open : (g : Typing) (k : PointerKind) (t : lives.RunTy) (v : values.Value) → IsLentNow g (thing_of (lives.Pointer k t lives.Owned) v) → IsOpenIn g (shared_life v)
shared_open g k t values.Null lent = heap_open g
shared_open g k t (values.Thin object offset) lent = lent
shared_open g k t (values.Fat object start count index) lent = lent
shared_open g k t (values.Int n) lent = heap_open g
shared_open g k t (values.Handle n) lent = heap_open g
shared_open g k t (values.Key n) lent = heap_open g

dynamic_found : (o : Option state.Region) → IsDynamic o → (r : state.Region) × (found_region o ≡ Found r) × (is_dynamic r.sort ≡ true)
dynamic_found None is = absurd is
dynamic_found (Some r) (sort, opens) = (r, ap (λ (b : Bool). if b then Found r else Closed) opens, ap is_dynamic sort)

-- The typing context while a local is lent.
context_lending : (p : Program) (x : Exits) (bs : List InScope) (c : Context) (n : ℕ) → IsContext p x bs c → IsContext p (lending x n) bs c
context_lending p x bs c n stands = record {
  globals = stands.globals;
  functions = stands.functions;
  structs = stands.structs;
  result = stands.result;
  gives = stands.gives;
  loop = stands.loop;
  scope = stands.scope;
  below = stands.below;
  counters = stands.counters;
  known = stands.known;
  regions = stands.regions;
  home = stands.home;
}

module _ (p : Program) (g : Typing) (x : Exits) (bs : List InScope) (e : Environment) (w : World) (typed : IsTyped g w.regions w.objects) (globals : KnowsProgram g p) (bound : IsBound e.locals e.counters bs) (variables : AreVariables g bs) where
  -- The typing after a local has lent its value.
  abbrev lent_content : Bound → values.Value → Typing
  lent_content b v = handing g (thing_of b.of_type v) (Lent g.loans b.object) b.object (Away g.loans)

  -- The typing after a local has lent its value and, in the same loan, the resource of the copy that was read.
  abbrev lent_out : Bound → values.Value → Option Thing → Typing
  lent_out b v also = giving (lent_content b v) also (Lent g.loans b.object)

  abbrev lending_typing : Bound → values.Value → Option Thing → Typing
  lending_typing b v also = record (lent_out b v also) { loans = suc g.loans }

  lending_grows : (b : Bound) (v : values.Value) (also : Option Thing) → Grows g (lending_typing b v also)
  lending_grows b v also = record { objects = λ n u is. is; filled = λ n count is. is; fields = λ n ls ts is. is; kept = λ n is. is }

  -- The flow facts about locals that hold while a local is lent.
  record IsLent (also : Option Thing) (b : Bound) (lent : ℕ) (f h : flow.State) (cs : List InScope) (k : List Entry) : Type 0 where
    value : values.Value
    claims : Claims g.own (At b.object 0) b.of_type value
    objects : IsTyped (lending_typing b value also) w.regions w.objects
    knows : KnowsProgram (lending_typing b value also) p
    scope : AreVariables (lending_typing b value also) bs
    holds : Holds (lending_typing b value also) (with_fullness Locked f lent) bs
    stack : IsStack p (lending_typing b value also) (lending x lent) cs (Go h) (EndLoan lent ∷ k)

  -- The value stored in the variable of a local.
  record Content (b : Bound) : Type 0 where
    value : values.Value
    claims : Claims g.own (At b.object 0) b.of_type value
    only_it : (own : Thing → Holder) (h : Holder) → Claims own h b.of_type value → (x : Object) → slice_get w.objects b.object ≡ Some x → (i : ℕ) (u : lives.RunTy) (c : Cell) (v : values.Value) → slice_get (b.of_type ∷ []) i ≡ Some u → slice_get x.cells i ≡ Some c → c.content ≡ Some v → Claims own h u v

  lender_has : (b : Bound) (f : flow.State) → g.pending ≡ Settled → IsAmong (Variable b) bs → IsFullIn f b.number → Holds g f bs → Content b
  lender_has b f still among full holds =
      let (m, flag, enough) = among_set g f among holds.1 (full_set (flow.fullness f b.number) full) in
      let here : IsHere g g.depth b.number b.object = among_own g f among holds.1 full in
      let there = among_variable g among variables in
      let (x, i, stands, filled, is) = typed.each b.object (local_type g.depth b) there in
      let c = typed_cell g (b.of_type ∷ []) x.cells i 0 b.of_type is.cells refl in
      let same : m ≡ i = same_Some m i (sym flag ∙ filled) in
      let (z, content, has) = c.content (let less : 0 < i = omega (arith, same, enough) in less) in
      record {
        value = z;
        claims = typed.owned b.object (local_type g.depth b) x there stands 0 b.of_type c.cell z (kept_now g b.object 0 b.is_hidden here.0 still) refl c.at content;
        only_it = λ own h claims y found n u d v type_is at full. one own h z c.cell claims x y n u d v stands c.at content found type_is at full;
      }
    where
      one : (own : Thing → Holder) (h : Holder) (z : values.Value) (c : Cell) → Claims own h b.of_type z → (x y : Object) (n : ℕ) (u : lives.RunTy) (d : Cell) (v : values.Value) → slice_get w.objects b.object ≡ Some x → slice_get x.cells 0 ≡ Some c → c.content ≡ Some z
          → slice_get w.objects b.object ≡ Some y → slice_get (b.of_type ∷ []) n ≡ Some u → slice_get y.cells n ≡ Some d → d.content ≡ Some v → Claims own h u v
      one own h z c claims x y zero u d v stands at content found type_is there full =
          let same : x ≡ y = same_Some x y (sym stands ∙ found) in
          let cell_is : c ≡ d = same_Some c d (sym at ∙ ap (λ (o : Object). slice_get o.cells 0) same ∙ there) in
          let value_is : z ≡ v = same_Some z v (sym content ∙ ap (λ (o : Cell). o.content) cell_is ∙ full) in
          subst (λ t. Claims own h t v) (same_Some b.of_type u type_is) (subst (λ e. Claims own h b.of_type e) value_is claims)
      one own h z c claims x y (suc n) u d v stands at content found type_is there full = absurd (let e : None ≡ Some u = type_is in cc)

  lends : (also : Option Thing) (b : Bound) (lent : ℕ) (f h i : flow.State) (cs : List InScope) (k : List Entry) → Within cs bs → IsAmong (Variable b) bs → b.is_hidden ≡ true → b.number ≡ lent → IsFullIn f lent → IsSpared x.relied lent → Holds g f bs → Implies (with_fullness Full h lent) i
      → Owns g.own (At b.object 0) also → IsStack p g x cs (Go i) k → IsLent also b lent f h cs k
  lends also b lent f h i cs k within among hides number full spared holds again others stack =
      let old = At b.object 0 in
      let new = Lent g.loans b.object in
      let full_here' : IsFullIn f b.number = subst (λ n. IsFullIn f n) (sym number) full in
      let has = lender_has b f (settled p g x cs (Go i) k stack) among full_here' holds in
      let thing = thing_of b.of_type has.value in
      let content = lent_content b has.value in
      let o = lent_out b has.value also in
      let j = lending_typing b has.value also in
      let f1 = with_fullness Locked f lent in
      let there : e.locals lent ≡ Some b.object = ap e.locals (sym number) ∙ among_bound e among bound in
      let some : IsFull g b.object = among_set g f among holds.1 (full_set (flow.fullness f b.number) full_here') in
      let type_is : slice_get g.objects b.object ≡ Some (variable_type b.of_type b.life true (OfLocal g.depth lent)) =
      subst (λ z. slice_get g.objects b.object ≡ Some (variable_type b.of_type b.life z (OfLocal g.depth lent))) hides (subst (λ n. slice_get g.objects b.object ≡ Some (variable_type b.of_type b.life b.is_hidden (OfLocal g.depth n))) number (among_variable g among variables)) in
      let slot : IsSlot g g.depth lent b.object = (variable_type b.of_type b.life true (OfLocal g.depth lent), type_is, refl) in
      let changed : Changed old g o = also_changed old new g content also others (handing_changed g thing old new b.object (Away g.loans) has.claims.0 (λ e. let z : Away g.loans ≡ Here = e in absurd (cc)) (λ other. refl)) in
      let locked : Holds g f1 bs = (reached_with Locked f lent holds.0, set_stored g e Locked f lent b.object bs bound there some holds.0 (λ s. let z : false ≡ true = s in absurd (cc)) holds.1) in
      let now : Holds o f1 bs = holds_kept old g o changed f1 bs (λ m other s its. emptied_other g Locked f lent m b.object other refl holds.0 s slot its.1) locked in
      let scope : AreVariables o bs = variables_kept old g o changed bs refl variables in
      let scope_now : AreVariables j bs = variables_more o bs scope in
      let own = given also new (given thing new g.own) in
      let away : content.here b.object ≡ Away g.loans = marked_now b.object (Away g.loans) g.here in
      record {
        value = has.value;
        claims = has.claims;
        objects = moment_typed o g.depth (suc g.loans) w.regions w.objects (also_typed content also b.object g.loans (variable_type b.of_type b.life true (OfLocal g.depth lent)) w.regions w.objects type_is refl away (also_lent g.own thing also old new others) (lent_typed g thing b.object new (variable_type b.of_type b.life true (OfLocal g.depth lent)) w.regions w.objects has.claims.0 type_is refl typed g.loans refl
            (λ x stands n u c v. has.only_it (given thing new g.own) new (given_now g.own thing new, has.claims.1) x stands n u c v)));
        knows = moment_globals p o g.depth (suc g.loans) (hands_globals p g own (marked b.object (Away g.loans) g.here) globals);
        scope = scope_now;
        holds = holds_lent o (suc g.loans) f1 bs now;
        stack = (
          x,
          i,
          g.loans,
          b.of_type,
          b.object,
          refl,
          refl,
          (b.life, type_is, marked_now b.object (Away g.loans) g.here),
          again,
          within_full_at j lent b.object cs bs within (full_here j e lent b.object bs bound there some),
          within_variables o cs bs within scope,
          stack_changed p old g o x cs (Go i) k changed (g.depth, lent, slot, inl (refl, subst (λ z. IsSpared z lent) (sym (statement_relied p g x cs i k x.relied stack)) spared)) stack,
        );
      }

  -- The step that opens the region of a key.
  pub opens_on : (number lent : ℕ) (js : Items) (v : values.Value) (k : List Entry) (cs : List InScope) (c : Context) (b : Bound) (r : ℕ) (f h i : flow.State) → LiveIn k bs → Holds g f bs → Within cs bs
      → IsContext p x bs c → IsAmong (Variable b) bs → b.number ≡ lent → b.of_type ≡ lives.Key (life_named bs r) → b.is_hidden ≡ true → IsSpared x.relied lent → IsFullIn f lent → r < c.next_region → IsLive c (regions.Variable c.region) → number ≡ c.next_local
      → Continues (lending x lent) (with_local false (types.Handle (regions.Variable r)) (with_key_opened r c)) js (with_fullness Full (with_fullness Locked f lent) number) h → Implies (with_fullness Full h lent) i
      → HasType g (lives.Key (life_named bs r)) v → IsStack p g x cs (Go i) k → IsWell p (opens_with number lent js v k e w)
  opens_on number lent js (values.Key region) k cs c b r f h i live holds within stands among number_of of_type hides spared full less alive number_is next again is stack = by_life (life_named bs r) refl is
    where
      inner : List InScope
      inner = Names r (life_named bs r) true ∷ bs

      by_life : (l : Life) → life_named bs r ≡ l → IsKeyOf l region → IsWell p (opens_with number lent js (values.Key region) k e w)
      by_life (Kept (KeyOf n)) is_kept same =
          let key : b.of_type ≡ lives.Key (Kept (KeyOf n)) = of_type ∙ ap (λ l. lives.Key l) is_kept in
          let known : IsAmong n g.kept = subst (λ l. IsKnownLife g l) is_kept (name_known g bs r variables) in
          let z = lends None b lent f h i cs k within among hides number_of full spared holds again tt stack in
          let has : g.own (KeyOf n) ≡ At b.object 0 = (subst (λ t. Claims g.own (At b.object 0) t z.value) key z.claims).0 in
          let held : IsHeld (g.own (KeyOf n)) = subst (λ o. IsHeld o) (sym has) tt in
          let (s, found, dynamic) = dynamic_found (slice_get w.regions region) (subst (λ i. IsDynamic (slice_get w.regions i)) same ((typed.kept n known).1 held)) in
          let j = lending_typing b z.value None in
          let now : j.own (KeyOf n) ≡ Lent g.loans b.object = subst (λ t. Owns j.own (Lent g.loans b.object) (thing_of t z.value)) key (given_now g.own (thing_of b.of_type z.value) (Lent g.loans b.object)) in
          let opens : IsOpenIn j (life_named bs r) = subst (λ l. IsOpenIn j l) (sym is_kept) (subst (λ o. is_lent_by (suc g.loans) o ≡ true) (sym now) (lent_last g.loans b.object)) in
          let named : life_named inner r ≡ Kept (KeyOf n) = same_name r (life_named bs r) (life_named bs r) ∙ is_kept in
          let here = context_lending p x (Names r (life_named bs r) true ∷ bs) (with_key_opened r c) lent (context_again p x bs c stands alive r less) in
          subst (λ a. IsWell p (opened_by a region number lent js k e w)) (sym found)
          (subst (λ (y : Bool). IsWell p (if y then Running (Naming number (record { kind = kinds.Handle; value = values.Handle region }) js) (EndLoan lent ∷ k) e w else wrong w)) (sym dynamic)
          (running p j (lending x lent) inner e w z.objects z.knows (tt, bound) ((name_known j bs r z.scope, λ e. opens), z.scope)
          (Naming number (record { kind = kinds.Handle; value = values.Handle region }) js) (EndLoan lent ∷ k)
          (((λ is. subst (λ l. IsLasting (ends_of k) l) (sym is_kept) tt), live.0), live.1) (
            with_key_opened r c,
            false,
            types.Handle (regions.Variable r),
            cs,
            with_fullness Locked f lent,
            h,
            older (Names r (life_named bs r) true) cs bs tt within,
            here,
            (z.holds.0, (tt, z.holds.1)),
            (less, Contains-tail (regions.Variable r) (live_regions c.regions.live c.regions.opened) (regions.Variable c.region) alive),
            number_is,
            (refl, subst (λ l. IsNumber l region) (sym named) same),
            (tt, tt),
            next,
            z.stack,
          )))
      by_life (Kept (PointerTo o)) is_kept same = absurd same
      by_life (OfRegion n ns us) is_kept same = absurd same
      by_life lives.Owned is_kept same = absurd same
  opens_on number lent js v k cs c b r f h i live holds within stands among number_of of_type hides spared full less alive number_is next again is stack = absurd is

  -- The step that shares a unique pointer by an alias.
  pub aliases_on : (number lent : ℕ) (js : Items) (v : Operand) (k : List Entry) (cs : List InScope) (c : Context) (b : Bound) (u t : Ty) (f h i : flow.State) → LiveIn k bs → Holds g f bs → Within cs bs
      → IsContext p x bs c → IsAmong (Variable b) bs → b.number ≡ lent → b.of_type ≡ read bs u → b.is_hidden ≡ true → IsSpared x.relied lent → IsFullIn f lent → is_unique u ≡ true → AllIn (IsKnown c.next_region) u → t ≡ with_region_of (regions.Variable c.next_region) u
      → IsLive c (regions.Variable c.region) → number ≡ c.next_local
      → Continues (lending x lent) (with_local true t (with_opened scopes.Alias c)) js (with_fullness Full (with_fullness Locked f lent) number) h → Implies (with_fullness Full h lent) i
      → Owns g.own (At b.object 0) (thing_of (read bs u) v.value) → IsResult g (Value (read bs u)) v → IsStack p g x cs (Go i) k → IsWell p (aliased number lent js v k e w)
  aliases_on number lent js v k cs c b u t f h i live holds within stands among number_of type_is hides spared full unique known of_type alive number_is next again looks is stack =
      let also = thing_of (read bs u) v.value in
      let z = lends also b lent f h i cs k within among hides number_of full spared holds again looks stack in
      let j = lending_typing b z.value also in
      let (m, s, u_is) = unique_is u unique in
      let l : Life = shared_life v.value in
      let named : List InScope = Names c.next_region l true ∷ bs in
      let here = context_lending p x named (with_opened scopes.Alias c) lent (context_alias p x bs c stands alive l) in
      let declared : IsDeclarable (suc c.next_region) t = subst (λ y. IsDeclarable (suc c.next_region) y) (sym of_type) (alias_known c.next_region u unique known) in
      let target : AllIn (IsKnown c.next_region) s = (subst (λ y. AllIn (IsKnown c.next_region) y) u_is known).0 in
      let type_now : t ≡ types.Pointer m s (regions.Variable c.next_region) = of_type ∙ ap (with_region_of (regions.Variable c.next_region)) u_is in
      let same : read named t ≡ lives.Pointer m (read bs s) l = ap (read named) type_now ∙ alias_read bs c.next_region l m s target in
      let lent_is : IsLentNow j (thing_of (lives.Pointer m (read bs s) lives.Owned) v.value) =
      subst (λ y. IsLentNow j (thing_of (read bs y) v.value)) u_is (lent_by_now j b.object g.loans also refl (given_now (given (thing_of b.of_type z.value) (Lent g.loans b.object) g.own) also (Lent g.loans b.object))) in
      let is_now : IsResult j (Value (lives.Pointer m (read bs s) lives.Owned)) v = subst (λ y. IsResult j (Value (read bs y)) v) u_is (result_grown g j (lending_grows b z.value also) (Value (read bs u)) v is) in
      let result : IsResult j (Value (lives.Pointer m (read bs s) l)) v = (is_now.0, shared_typed j w.regions w.objects z.objects m (read bs s) v.value is_now.1 lent_is) in
      let common : IsCommonLife l = shared_by v.value (λ l. IsCommonLife l) tt (λ object. tt) in
      running p j (lending x lent) named e w z.objects z.knows (tt, bound)
      ((shared_by v.value (λ l. IsKnownLife j l) tt (λ object. tt), λ e. shared_open j m (read bs s) v.value lent_is), z.scope) (Naming number v js) (EndLoan lent ∷ k)
      (((λ is. shared_by v.value (λ l. IsLasting (ends_of k) l) (inl refl) (λ object. tt)), live.0), live.1) (
        with_opened scopes.Alias c,
        true,
        t,
        cs,
        with_fullness Locked f lent,
        h,
        older (Names c.next_region l true) cs bs tt within,
        here,
        (z.holds.0, (tt, z.holds.1)),
        (declared, Contains-tail (regions.Variable c.next_region) (live_regions c.regions.live c.regions.opened) (regions.Variable c.region) alive),
        number_is,
        subst (λ y. IsResult j (Value y) v) (sym same) result,
        subst (λ y. Claims j.own (Hand (operands_in (EndLoan lent ∷ k))) y v.value) (sym same)
            (plain_claims j.own (Hand (operands_in (EndLoan lent ∷ k))) (lives.Pointer m (read bs s) l) v.value (pointer_plain m (read bs s) l common)),
        next,
        z.stack,
      )

  -- The step that opens a new dynamic region whose key becomes a local.
  pub keys_on : (number r : ℕ) (js : Items) (k : List Entry) (cs : List InScope) (c : Context) (f h : flow.State) → IsNested k e w → LiveIn k bs → Holds g f bs → Within cs bs → IsContext p x bs c → r ≡ c.next_region
      → IsLive c (regions.Variable c.region) → number ≡ c.next_local → Continues x (with_local true (types.Key (regions.Variable r)) (with_region c)) js (with_fullness Full f number) h
      → IsStack p g x cs (Go h) k → IsWell p (opens_dynamic number js k e w)
  keys_on number r js k cs c f h nests live holds within stands region alive number_is next stack =
      let n = length w.regions in
      let l : Life = Kept (KeyOf n) in
      let hand = Hand (operands_in k) in
      let key : lives.RunTy = lives.Key l in
      let o = giving g (Some (KeyOf n)) hand in
      let i = with_kept g n hand in
      let none : g.own (KeyOf n) ≡ Nobody = typed.fresh n (let le : n ≤ n = omega arith in le) in
      let stays : Stays o i = record { grows = record { objects = λ m t is. is; filled = λ m count is. is; fields = λ m ls ts is. is; kept = λ m is. later n g.kept is }; own = refl; here = refl; pending = refl; depth = refl; loans = refl } in
      let changed : Changed Nobody g i = changed_after Nobody g o i (giving_changed g (Some (KeyOf n)) Nobody hand none) stays in
      let many : 1 < n = above_globals n k nests.1 in
      let inner : List InScope = Names c.next_region l false ∷ bs in
      let named : life_named inner r ≡ l = ap (λ m. life_named inner m) region ∙ same_name c.next_region l (life_named bs c.next_region) in
      let less : r < suc c.next_region = omega (arith, region) in
      let (reached, are) = holds_kept Nobody g i changed f bs (λ m object s here. at_some object 0) holds in
      running p i x inner e (opened_as state.Dynamic w) (kept_typed g w.regions w.objects hand many typed) (globals_grown g i (kept_grows g n hand) p (λ m ls. refl) globals) (tt, bound)
      ((first g.kept, λ no. let z : false ≡ true = no in absurd (cc)), variables_kept Nobody g i changed bs refl variables)
      (Naming number (record { kind = kinds.Key; value = values.Key n }) js) k (((λ is. tt), live.0), live.1) (
        with_region c,
        true,
        types.Key (regions.Variable r),
        cs,
        f,
        h,
        older (Names c.next_region l false) cs bs tt within,
        context_key p x bs c stands alive l,
        (reached, (tt, are)),
        (less, alive),
        number_is,
        (refl, subst (λ m. IsKeyOf m n) (sym named) refl),
        subst (λ m. Claims i.own hand (lives.Key m) (values.Key n)) (sym named) (given_now g.own (Some (KeyOf n)) hand, tt),
        next,
        stack_changed p Nobody g i x cs (Go h) k changed tt stack,
      )

  -- The step that frees a key and closes its region.
  pub closes_on : (v : values.Value) (k : List Entry) (r : Region') (f : flow.State) → LiveIn k bs → Holds g f bs → HasType g (lives.Key (lives_in bs r)) v → Claims g.own (Hand (operands_in k)) (lives.Key (lives_in bs r)) v
      → IsStack p g x bs (Go f) k → IsWell p (closes_with v k e w)
  closes_on (values.Key region) k r f live holds is has stack = by_life (lives_in bs r) refl is has
    where
      by_life : (l : Life) → lives_in bs r ≡ l → IsKeyOf l region → Claims g.own (Hand (operands_in k)) (lives.Key l) (values.Key region) → IsWell p (closes_with (values.Key region) k e w)
      by_life (Kept (KeyOf n)) is_kept same claims =
          let o : Option Thing = Some (KeyOf n) in
          let hand = Hand (operands_in k) in
          let h = giving g o Nobody in
          let known : IsAmong n g.kept = subst (λ l. IsKnownOwner g l) is_kept (region_owner g bs r variables) in
          let held : IsHeld (g.own (KeyOf n)) = subst (λ o. IsHeld o) (sym claims.0) tt in
          let changed : Changed hand g h = giving_changed g o hand Nobody claims.0 in
          let (s, found, dynamic) = dynamic_found (slice_get w.regions region) (subst (λ i. IsDynamic (slice_get w.regions i)) same ((typed.kept n known).1 held)) in
          subst (λ a. IsWell p (closes_dynamic a region k e w)) (sym found)
          (subst (λ (y : Bool). IsWell p (if y then Running Proceeding k e (closed w region s) else wrong w)) (sym dynamic)
          (running p h x bs e (closed w region s)
          (subst (λ m. IsTyped h (set w.regions m (record s { is_open = false })) w.objects) same (closed_by_key g w.regions w.objects n (operands_in k) (record s { is_open = false }) known claims.0 typed))
          (hands_globals p g (given o Nobody g.own) g.here globals) bound (variables_kept hand g h changed bs refl variables) Proceeding k live
          (f, holds_kept hand g h changed f bs (λ m object s here. at_no_hand object 0 (operands_in k)) holds, stack_changed p hand g h x bs (Go f) k changed (let le : operands_in k ≤ operands_in k = omega arith in le) stack)))
      by_life (Kept (PointerTo o)) is_kept same claims = absurd same
      by_life (OfRegion n ns us) is_kept same claims = absurd same
      by_life lives.Owned is_kept same claims = absurd same
  closes_on v k r f live holds is has stack = absurd is

  -- ---- unique objects

  -- The step that frees a unique object.
  pub frees_on : (m : PointerKind) (t : lives.RunTy) (v : values.Value) (k : List Entry) (f : flow.State) → LiveIn k bs → Holds g f bs → HasType g (lives.Pointer m t lives.Owned) v → Claims g.own (Hand (operands_in k)) (lives.Pointer m t lives.Owned) v → IsStack p g x bs (Go f) k
      → IsWell p (frees v k e w)
  frees_on m t v k f live holds is claims stack = go v is claims
    where
      freed_on : (object : ℕ) → g.own (PointerTo object) ≡ Hand (operands_in k) → IsWell p (frees_object (slice_get w.objects object) object k e w)
      freed_on object has =
          let o : Option Thing = Some (PointerTo object) in
          let hand = Hand (operands_in k) in
          let h = giving g o Nobody in
          let changed : Changed hand g h = giving_changed g o hand Nobody has in
          let (u, z, there, life, stands, owner) = typed.unique object (subst (λ o. IsHeld o) (sym has) tt) in
          subst (λ o. IsWell p (frees_object o object k e w)) (sym stands)
          (subst (λ o. IsWell p (frees_owned o object z k e w)) (sym owner)
          (running p h x bs e (freed w object z) (freed_typed g object (operands_in k) z w.regions w.objects has stands typed) (hands_globals p g (given o Nobody g.own) g.here globals) bound (variables_kept hand g h changed bs refl variables) Proceeding k live
          (f, holds_kept hand g h changed f bs (λ n other s here. at_no_hand other 0 (operands_in k)) holds, stack_changed p hand g h x bs (Go f) k changed (let le : operands_in k ≤ operands_in k = omega arith in le) stack)))

      go : (v : values.Value) → HasType g (lives.Pointer m t lives.Owned) v → Claims g.own (Hand (operands_in k)) (lives.Pointer m t lives.Owned) v → IsWell p (frees v k e w)
      go values.Null is claims = running p g x bs e w typed globals bound variables Proceeding k live (f, holds, stack)
      go (values.Thin object offset) is (has, (offset_is, unit)) =
          subst (λ (b : Bool). IsWell p (if b then frees_object (slice_get w.objects object) object k e w else wrong w)) (sym (eq-eqb offset 0 offset_is)) (freed_on object has)
      go (values.Fat object start count index) is (has, (start_is, index_is)) =
          subst (λ (b : Bool). IsWell p (if b then frees_object (slice_get w.objects object) object k e w else wrong w)) (sym (eq-eqb start 0 start_is)) (freed_on object has)
      go (values.Int n) is claims = absurd (never_int m is)
        where
          never_int : (m : PointerKind) → HasType g (lives.Pointer m t lives.Owned) (values.Int n) → ⊥
          never_int marks.Nullable is = is
          never_int marks.NonNull is = is
          never_int marks.Fat is = is
      go (values.Handle n) is claims = absurd (never_handle m is)
        where
          never_handle : (m : PointerKind) → HasType g (lives.Pointer m t lives.Owned) (values.Handle n) → ⊥
          never_handle marks.Nullable is = is
          never_handle marks.NonNull is = is
          never_handle marks.Fat is = is
      go (values.Key n) is claims = absurd (never_key m is)
        where
          never_key : (m : PointerKind) → HasType g (lives.Pointer m t lives.Owned) (values.Key n) → ⊥
          never_key marks.Nullable is = is
          never_key marks.NonNull is = is
          never_key marks.Fat is = is
