-- This file is about variables: the value of a local or a global is copied, read early (peeked at), moved or replaced. Each of
-- these steps on variables yields a well-typed run state.
use Rattle.std.proofs.Common.{◌≡◌, ◌≢◌, inl, ℕ, ◌≤◌, zero, suc, Bool, true, false, List, [], ◌∷◌, map, Option, Some, None, slice_get, refl, sym, ap, subst, ◌∙◌, arith}
use Rattle.std.specs.Prelude.{if◌then◌else◌, ◌||◌}
use Rattle.cyc_types.specs.declared.typed.Kind.{Kind}
use Rattle.cyc_types.specs.Types.{Ty, ValueType}
use Rattle.cyc_types.specs.Types as types
use Rattle.cyc_types.specs.TypedTrees.{GlobalVariable, Program}
use Rattle.cyc_types.specs.typing.Tests.{is_moved, is_unique, is_key}
use Rattle.cyc_types.specs.typing.Expressions.{assigned_type}
use Rattle.cyc_types.specs.typing.WellTyped.{Context, HasLocal}
use Rattle.cyc_types.specs.flow.States as flow
use Rattle.cyc_types.specs.flow.States.{Vacant, Full, fullness, with_fullness}
use Rattle.cyc_meaning.specs.Values.{Operand}
use Rattle.cyc_meaning.specs.Values as values
use Rattle.cyc_meaning.specs.State.{World, cell_at, Environment, Entry, Given}
use Rattle.cyc_meaning.specs.Parts.{loaded_from, stored}
use Rattle.cyc_meaning.specs.inside.Nesting.{ends_of, AreOpen}
use Rattle.cyc_soundness.specs.inside.Lives.{as_heap, RunValue, Value, Into, looked, kind_at, Seen}
use Rattle.cyc_soundness.specs.inside.Lives as lives
use Rattle.cyc_soundness.specs.inside.Worlds.{Thing, Nobody, Hand, At, thing_of, Owns, Claims, ClaimsBy, IsLookedAt, IsSlot, IsHere, given, marked, handing, Settled, IsOpenObject, IsPlain, HasType, Typing, IsFull, global_type, IsResult, IsTyped, IsHiding, Here, Gone, Away}
use Rattle.cyc_soundness.specs.inside.Frames.{IsAmong, Bound, local_type, InScope, Variable, IsBound, AreVariables, LiveIn, IsSet, IsFullIn, Holds, Implies, Exits, IsContext, KnowsProgram, lives_in, read, read_value}
use Rattle.cyc_soundness.specs.inside.Classes.{IsSpared}
use Rattle.cyc_soundness.specs.inside.Awaited.{Val, relied_at}
use Rattle.cyc_soundness.specs.inside.Awaited as awaited
use Rattle.cyc_soundness.specs.inside.Stacks.{IsStack, IsWell}
use Rattle.cyc_soundness.proofs.types.TypeLemmas.{kind_meant}
use Rattle.cyc_soundness.proofs.flow.FlowLemmas.{full_set, vacant_implied, holds_implied, reached_with}
use Rattle.cyc_soundness.proofs.states.WorldLemmas.{type_grown, result_grown}
use Rattle.cyc_soundness.proofs.states.Hands.{Changed, at_no_hand, given_now, marked_now, marked_before, marked_keeps, variables_kept, holds_kept, gone_changed, away_not_here, marked_changed, shown_changed, same_grows, holds_here}
use Rattle.cyc_soundness.proofs.states.StillHands.{taken_typed, kept_now}
use Rattle.cyc_soundness.proofs.states.CallHands.{hands_globals, variables_marked}
use Rattle.cyc_soundness.proofs.types.Sharing.{plain_read}
use Rattle.cyc_soundness.proofs.states.StackLemmas.{emptied_other}
use Rattle.cyc_soundness.proofs.states.StackClaims.{stack_changed, settled}
use Rattle.cyc_soundness.proofs.states.StackLocals.{bound_to, lasting_open, kept_open, object_known, among_open, among_own, among_bound, among_variable, among_live, among_set, set_stored, open_of, globals_among}
use Rattle.cyc_soundness.proofs.types.CallRegions.{global_means}
use Rattle.cyc_soundness.proofs.states.Cells.{lasting_common, open_object, plain_claims, running, Content, content_of, reads, stored_typing, stores_marking, stores_on}
use Rattle.cyc_soundness.proofs.steps.Places.{moved_comes}

-- ---- reading a variable

-- Using a unique pointer moves it out of its variable.
pub unique_moved : (u : Ty) → is_unique u ≡ true → is_moved u ≡ true
unique_moved u unique = ap (λ (b : Bool). b || is_key u) unique

looked_at : (g : Typing) (n object : ℕ) (o : Option Thing) → IsHere g g.depth n object → IsHiding g object true → Owns g.own (At object 0) o → IsLookedAt g n o
looked_at g n object None here hidden is = tt
looked_at g n object (Some a) here hidden is = (object, here, hidden, is)

-- The object of a variable has only one cell.
only_first : (t : lives.RunTy) (j : ℕ) (u : lives.RunTy) → slice_get (t ∷ []) j ≡ Some u → j ≢ 0 → ⊥
only_first t zero u found apart = apart refl
only_first t (suc j) u found apart = absurd (let k : None ≡ Some u = found in cc)

module _ (p : Program) (g : Typing) (x : Exits) (bs : List InScope) (e : Environment) (w : World) (typed : IsTyped g w.regions w.objects) (globals : KnowsProgram g p) (bound : IsBound e.locals e.counters bs) (variables : AreVariables g bs) where
  pub open_local : (k : List Entry) (b : Bound) → AreOpen w.regions (ends_of k) → LiveIn k bs → IsAmong (Variable b) bs → IsOpenObject g w.regions b.object b.life
  open_local k b opens live among =
      let lasts = among_live (ends_of k) among live.0 in
      open_object g w.regions b.object b.life (lasting_common (ends_of k) b.life lasts) (lasting_open w.regions (ends_of k) b.life opens typed.heap
      (kept_open g w.regions w.objects b.life typed (object_known g w.regions w.objects b.object (local_type g.depth b) typed (among_variable g among variables)) (among_open g among variables)) lasts)

  -- The value stored in a local's variable, which a step reads.
  abbrev pub Held : Bound → Kind → Type 0
  Held b kind = Content p g x bs e w typed globals bound variables kind b.object 0 b.of_type

  pub held_in : (k : List Entry) (u : Ty) (b : Bound) → AreOpen w.regions (ends_of k) → LiveIn k bs → IsAmong (Variable b) bs → b.of_type ≡ read bs u → IsFull g b.object → Held b (values.kind_of u)
  held_in k u b opens live among of_type full = content_of p g x bs e w typed globals bound variables (values.kind_of u) b.object 0 b.of_type (local_type g.depth b) (among_variable g among variables) refl (open_local k b opens live among) full
      (ap kind_at of_type ∙ kind_meant (lives_in bs) u)

  -- A full local (one whose value is not lent) owns the resource that its stored value represents.
  pub its_own : (b : Bound) (kind : Kind) (c : Held b kind) → g.pending ≡ Settled → IsAmong (Variable b) bs → IsHere g g.depth b.number b.object → Claims g.own (At b.object 0) b.of_type c.value
  its_own b kind c still among here =
      typed.owned b.object (local_type g.depth b) c.object (among_variable g among variables) c.there 0 b.of_type c.cell c.value (kept_now g b.object 0 b.is_hidden here.0 still) refl c.at c.content

  -- The value of a local is passed to the stack entry that waits for it.
  pub from_bound : (k : List Entry) (n : ℕ) (u : Ty) (b : Bound) (h : flow.State) (r : RunValue) → AreOpen w.regions (ends_of k) → LiveIn k bs → Holds g h bs → IsAmong (Variable b) bs → b.number ≡ n → b.of_type ≡ read bs u → IsFull g b.object
      → ((v : values.Value) → HasType g b.of_type v → IsResult g r (record { kind = values.kind_of u; value = v })) → ((c : Held b (values.kind_of u)) → ClaimsBy g (awaited.operands_in k) r c.value) → IsStack p g x bs (Val r h) k → IsWell p (loaded_from (values.kind_of u) (e.locals n) k e w)
  from_bound k n u b h r opens live holds among number of_type full fits comes stack =
      let there : e.locals n ≡ Some b.object = ap e.locals (sym number) ∙ among_bound e among bound in
      subst (λ o. IsWell p (loaded_from (values.kind_of u) o k e w)) (sym there)
      (reads p g x bs e w typed globals bound variables k (values.kind_of u) b.object 0 b.of_type (local_type g.depth b) h live holds
      (among_variable g among variables) refl (open_local k b opens live among) full (ap kind_at of_type ∙ kind_meant (lives_in bs) u) r fits comes stack)

  -- A full local (one whose value is not lent) owns the resource that its value represents.
  pub looks_bound : (k : List Entry) (n : ℕ) (u : Ty) (b : Bound) (h : flow.State) → AreOpen w.regions (ends_of k) → LiveIn k bs → Holds g h bs → IsAmong (Variable b) bs → b.number ≡ n → b.of_type ≡ read bs u → IsFullIn h n
      → IsStack p g x bs (Val (Seen b.object (read bs u)) h) k → IsWell p (loaded_from (values.kind_of u) (e.locals n) k e w)
  looks_bound k n u b h opens live holds among number of_type full stack =
      let full_here : IsFullIn h b.number = subst (λ i. IsFullIn h i) (sym number) full in
      let here = among_own g h among holds.1 full_here in
      let still = settled p g x bs (Val (Seen b.object (read bs u)) h) k stack in
      from_bound k n u b h (Seen b.object (read bs u)) opens live holds among number of_type (among_set g h among holds.1 (full_set (fullness h b.number) full_here))
      (λ v is. (sym (kind_meant (lives_in bs) u), subst (λ z. HasType g z v) of_type is))
      (λ c. (subst (λ t. Claims g.own (At b.object 0) t c.value) of_type (its_own b (values.kind_of u) c still among here)).0) stack

  -- The step that moves the value of a local to an operand.
  pub moves : (k : List Entry) (c : Context) (n : ℕ) (u : Ty) (f : flow.State) → AreOpen w.regions (ends_of k) → LiveIn k bs → IsContext p x bs c → Holds g f bs → (r : ℕ) × HasLocal c.locals n u r → is_moved u ≡ true → IsFullIn f n → IsSpared (relied_at x.relied k) n
      → IsStack p g x bs (Val (Value (read bs u)) (with_fullness Vacant f n)) k → IsWell p (loaded_from (values.kind_of u) (e.locals n) k e w)
  moves k c n u f opens live stands holds (r, has) moved full spared stack =
      let l = bound_to (lives_in bs) c.locals bs n u r stands.scope has in
      let b = l.bound in
      let among = l.among in
      let number = l.number in
      let of_type = l.of_type in
      let full_here : IsFullIn f b.number = subst (λ i. IsFullIn f i) (sym number) full in
      let there : e.locals n ≡ Some b.object = ap e.locals (sym number) ∙ among_bound e among bound in
      let here : IsHere g g.depth b.number b.object = among_own g f among holds.1 full_here in
      let slot : IsSlot g g.depth n b.object = subst (λ i. IsSlot g g.depth i b.object) number here.1 in
      let v = held_in k u b opens live among of_type (among_set g f among holds.1 (full_set (fullness f b.number) full_here)) in
      let still = settled p g x bs (Val (Value (read bs u)) (with_fullness Vacant f n)) k stack in
      let claims : Claims g.own (At b.object 0) (read bs u) v.value = subst (λ t. Claims g.own (At b.object 0) t v.value) of_type (its_own b (values.kind_of u) v still among here) in
      let o = thing_of (read bs u) v.value in
      let hand = Hand (awaited.operands_in k) in
      let h = handing g o hand b.object Gone in
      let changed : Changed (At b.object 0) g h = gone_changed g o hand b.object claims.0 in
      let f1 = with_fullness Vacant f n in
      subst (λ i. IsWell p (loaded_from (values.kind_of u) i k e w)) (sym there)
      (subst (λ s. IsWell p s) (sym (v.loads k e))
      (running p h x bs e w (taken_typed g o b.object hand (local_type g.depth b) w.regions w.objects claims.0 (among_variable g among variables) (l.hidden ∙ moved) typed) (hands_globals p g (given o hand g.own) (marked b.object Gone g.here) globals) bound (variables_kept (At b.object 0) g h changed bs refl variables)
      (Given (record { kind = values.kind_of u; value = v.value })) k live (
        Value (read bs u),
        f1,
        holds_kept (At b.object 0) g h changed f1 bs (λ m other s its. emptied_other g Vacant f n m b.object other refl holds.0 s slot its.1) (holds_implied g f f1 bs (vacant_implied f n) holds),
        (sym (kind_meant (lives_in bs) u), type_grown g h changed.grows (read bs u) v.value (subst (λ t. HasType g t v.value) of_type v.has)),
        (given_now g.own o hand, claims.1),
        stack_changed p (At b.object 0) g h x bs (Val (Value (read bs u)) f1) k changed (g.depth, n, slot, inl (refl, spared)) stack,
      )))

  -- The type of a global, found by its index, means the same in every scope as in the global scope.
  pub global_there : (n : ℕ) (u : Ty) (c : Context) → IsContext p x bs c → slice_get c.globals n ≡ Some u
      → (slice_get (map (λ (v : GlobalVariable). v.of_type) p.globals) n ≡ Some u) × (read bs u ≡ lives.at as_heap u)
  global_there n u c stands has =
      let there = ap (λ ts. slice_get ts n) (sym stands.globals) ∙ has in
      let (at, full, closed) = globals.globals n u there in
      (there, global_means bs u closed)

  -- A local is read and keeps its value.
  from_local : (k : List Entry) (c : Context) (n : ℕ) (u : Ty) (f h : flow.State) (r : RunValue) → AreOpen w.regions (ends_of k) → LiveIn k bs → IsContext p x bs c → Holds g f bs
      → (i : ℕ) × HasLocal c.locals n u i → IsSet f n → Implies f h → ((v : values.Value) → HasType g (read bs u) v → IsResult g r (record { kind = values.kind_of u; value = v }))
      → ((b : Bound) (v : values.Value) → b.number ≡ n → b.is_hidden ≡ is_moved u → (IsHere g g.depth b.number b.object → Claims g.own (At b.object 0) (read bs u) v) → IsAmong (Variable b) bs → ClaimsBy g (awaited.operands_in k) r v)
      → IsStack p g x bs (Val r h) k → IsWell p (loaded_from (values.kind_of u) (e.locals n) k e w)
  from_local k c n u f h r opens live stands holds (i, has) is_set implies fits comes stack =
      let l = bound_to (lives_in bs) c.locals bs n u i stands.scope has in
      let b = l.bound in
      let among = l.among in
      let number = l.number in
      let of_type = l.of_type in
      let full : IsFull g b.object = among_set g f among holds.1 (subst (λ m. IsSet f m) (sym number) is_set) in
      from_bound k n u b h r opens live (holds_implied g f h bs implies holds) among number of_type full
      (λ v is. fits v (subst (λ z. HasType g z v) of_type is))
      (λ v. comes b v.value number l.hidden (λ here. subst (λ t. Claims g.own (At b.object 0) t v.value) of_type (its_own b (values.kind_of u) v (settled p g x bs (Val r h) k stack) among here)) among) stack

  -- The step that copies the value of a local.
  pub copies : (k : List Entry) (c : Context) (n : ℕ) (u : Ty) (t : ValueType) (f h : flow.State) → AreOpen w.regions (ends_of k) → LiveIn k bs → IsContext p x bs c → Holds g f bs
      → (i : ℕ) × HasLocal c.locals n u i → IsSet f n → is_moved u ≡ false → Implies f h → t ≡ types.Value u → IsStack p g x bs (Val (read_value bs t) h) k → IsWell p (loaded_from (values.kind_of u) (e.locals n) k e w)
  copies k c n u t f h opens live stands holds has is_set plain implies same stack =
      from_local k c n u f h (Value (read bs u)) opens live stands holds has is_set implies (λ v is. (sym (kind_meant (lives_in bs) u), is))
      (λ b v number hidden own among. plain_claims g.own (Hand (awaited.operands_in k)) (read bs u) v (plain_read g bs variables u plain)) (subst (λ z. IsStack p g x bs (Val z h) k) (ap (read_value bs) same) stack)

  -- The step that peeks at a local, that is, reads its value without moving it.
  pub peeks : (k : List Entry) (c : Context) (n : ℕ) (u : Ty) (t : ValueType) (f h : flow.State) → AreOpen w.regions (ends_of k) → LiveIn k bs → IsContext p x bs c → Holds g f bs
      → (i : ℕ) × HasLocal c.locals n u i → is_unique u ≡ true → IsFullIn f n → Implies f h → t ≡ types.Value u → IsStack p g x bs (Val (looked (Some n) (read_value bs t)) h) k → IsWell p (loaded_from (values.kind_of u) (e.locals n) k e w)
  peeks k c n u t f h opens live stands holds has unique full implies same stack =
      from_local k c n u f h (Into (Some n) (read bs u)) opens live stands holds has (full_set (fullness f n) full) implies (λ v is. (sym (kind_meant (lives_in bs) u), is))
      (λ b v number hidden own among. (let here = among_own g f among holds.1 (subst (λ i. IsFullIn f i) (sym number) full) in
      looked_at g n b.object (thing_of (read bs u) v) (subst (λ i. IsHere g g.depth i b.object) number here) (local_type g.depth b, among_variable g among variables, hidden ∙ unique_moved u unique) (own here).0))
      (subst (λ z. IsStack p g x bs (Val (looked (Some n) (read_value bs z)) h) k) same stack)

  pub from_global : (k : List Entry) (c : Context) (n : ℕ) (u : Ty) (t : ValueType) (f : flow.State) → AreOpen w.regions (ends_of k) → LiveIn k bs → IsContext p x bs c → Holds g f bs
      → slice_get c.globals n ≡ Some u → is_moved u ≡ false → t ≡ types.Value u → IsStack p g x bs (Val (read_value bs t) f) k
      → IsWell p (loaded_from (values.kind_of u) (Some n) k e w)
  from_global k c n u t f opens live stands holds has plain same stack =
      let (there, means) = global_there n u c stands has in
      let (at, full, closed) = globals.globals n u there in
      let z = lives.at as_heap u in
      reads p g x bs e w typed globals bound variables k (values.kind_of u) n 0 z (global_type z) f live holds at refl (open_of w.regions (globals_among k) opens) full (kind_meant as_heap u)
      (Value z) (λ v is. (sym (kind_meant as_heap u), is)) (λ v. plain_claims g.own (Hand (awaited.operands_in k)) z v.value (subst (λ y. IsPlain y) means (plain_read g bs variables u plain)))
      (subst (λ z. IsStack p g x bs (Val z f) k) (ap (read_value bs) same ∙ ap Value means) stack)

  -- ---- writing a variable

  handed : (h : Typing) (t : Ty) (v : Operand) (b : Bool) → IsResult h (Value (read bs t)) v → IsResult h (read_value bs (if b then types.Void else types.Value t)) v
  handed h t v true is = tt
  handed h t v false is = is

  pub writes_local : (v : Operand) (k : List Entry) (b : Bound) (t : Ty) (f : flow.State) → AreOpen w.regions (ends_of k) → LiveIn k bs → IsAmong (Variable b) bs → b.of_type ≡ read bs t
      → (b.is_hidden ≡ true → IsSpared (relied_at x.relied k) b.number)
      → Holds g f bs → IsResult g (Value (read bs t)) v → awaited.Comes g (Value (read bs t)) v k → IsStack p g x bs (Val (read_value bs (assigned_type t)) (with_fullness Full f b.number)) k
      → IsWell p (stored (cell_at w b.object 0) b.object 0 v (Given v) k e w)
  writes_local v k b t f opens live among of_type spared holds is comes stack =
      let u = read bs t in
      let i = awaited.operands_in k in
      let hand = Hand i in
      let y = local_type g.depth b in
      let there = among_variable g among variables in
      let (z, m, stands, flag, typed_is) = typed.each b.object y there in
      let here = marked b.object Here g.here in
      let one : Typing = record g { here = here } in
      let before : Holds one f bs = holds_here g one (same_grows g g.own here) refl f bs (λ n object full' is. (marked_keeps b.object g.here object is.0, is.1)) holds in
      let stack_now : IsStack p one x bs (Val (read_value bs (assigned_type t)) (with_fullness Full f b.number)) k = marked_stack b.is_hidden refl in
      stores_marking p g x bs e w typed globals bound variables v (Given v) k b.object 0 m i u y here live there (ap (λ z. Some z) of_type)
      (open_local k b opens live among) flag (let few : 0 ≤ m = omega arith in few) is comes
      (λ object j hidden apart kept. ((λ hides. marked_before b.object Here g.here object Here apart (kept.0 hides)), kept.1))
      (λ j z found apart kept. absurd (only_first b.of_type j z found apart)) (λ hides j away. away_not_here (here b.object) j away (marked_now b.object Here g.here)) (λ object j apart now. marked_before b.object Here g.here object (Away j) apart now)
      (λ all full. (let h = stored_typing p g x bs e w typed globals bound variables v (Given v) k b.object 0 m i u y here in
      let (reached, are) = holds_kept hand one h all f bs (λ n object full' here'. at_no_hand object 0 i) before in (
        read_value bs (assigned_type t),
        with_fullness Full f b.number,
        (reached_with Full f b.number reached, set_stored h e Full f b.number b.object bs bound (among_bound e among bound) full reached (λ s. (marked_now b.object Here g.here, (y, there, refl))) are),
        handed h t v (is_moved t) (result_grown one h all.grows (Value u) v (result_grown g one (same_grows g g.own here) (Value u) v is)),
        moved_comes h (awaited.operands_in k) bs t v.value (variables_kept hand one h all bs refl (variables_marked g here bs variables)),
        stack_changed p hand one h x bs (Val (read_value bs (assigned_type t)) (with_fullness Full f b.number)) k all (let le : awaited.operands_in k ≤ awaited.operands_in k = omega arith in le) stack_now,
      )))
    where
      -- The stack stays well-typed when an assigned variable is marked as holding its value. If no pointer points to an assigned variable,
      -- then no flow state requires the variable's value.
      marked_stack : (hidden : Bool) → b.is_hidden ≡ hidden → IsStack p (record g { here = marked b.object Here g.here }) x bs (Val (read_value bs (assigned_type t)) (with_fullness Full f b.number)) k
      marked_stack true hides = stack_changed p (At b.object 0) g (record g { here = marked b.object Here g.here }) x bs (Val (read_value bs (assigned_type t)) (with_fullness Full f b.number)) k (marked_changed g b.object)
          (g.depth, b.number, (local_type g.depth b, among_variable g among variables, refl), inl (refl, spared hides)) stack
      marked_stack false shows = stack_changed p Nobody g (record g { here = marked b.object Here g.here }) x bs (Val (read_value bs (assigned_type t)) (with_fullness Full f b.number)) k
          (shown_changed g b.object (local_type g.depth b) (among_variable g among variables) shows) tt stack

  pub writes_global : (v : Operand) (k : List Entry) (n : ℕ) (t : Ty) (f : flow.State) → AreOpen w.regions (ends_of k) → LiveIn k bs
      → slice_get (map (λ (v : GlobalVariable). v.of_type) p.globals) n ≡ Some t → read bs t ≡ lives.at as_heap t → Holds g f bs → IsResult g (Value (read bs t)) v → awaited.Comes g (Value (read bs t)) v k
      → IsStack p g x bs (Val (read_value bs (assigned_type t)) f) k → IsWell p (stored (cell_at w n 0) n 0 v (Given v) k e w)
  writes_global v k n t f opens live there means holds is comes stack =
      let (at, full, closed) = globals.globals n t there in
      let z = global_type (lives.at as_heap t) in
      let (y, m, stands, flag, typed_is) = typed.each n z at in
      let cell : slice_get z.cells 0 ≡ Some (read bs t) = ap (λ z. Some z) (sym means) in
      let i = awaited.operands_in k in
      let hand = Hand i in
      stores_on p g x bs e w typed globals bound variables v (Given v) k n 0 m i (read bs t) z live at cell (open_of w.regions (globals_among k) opens) flag (let few : 0 ≤ m = omega arith in few) refl is comes
      (λ changed now. (let h = stored_typing p g x bs e w typed globals bound variables v (Given v) k n 0 m i (read bs t) z g.here in (
        read_value bs (assigned_type t),
        f,
        holds_kept hand g h changed f bs (λ number object full' here'. at_no_hand object 0 i) holds,
        handed h t v (is_moved t) (result_grown g h changed.grows (Value (read bs t)) v is),
        moved_comes h i bs t v.value (variables_kept hand g h changed bs refl variables),
        stack_changed p hand g h x bs (Val (read_value bs (assigned_type t)) f) k changed (let le : i ≤ i = omega arith in le) stack,
      )))
