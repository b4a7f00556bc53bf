-- This file is about steps in which no resource (key or unique pointer) changes its owner and the heap state
-- (regions and objects) is unchanged: well-typed parts stay well-typed.
use Rattle.std.proofs.Common.{◌≡◌, ◌≢◌, ℕ, Bool, true, false, List, set, Option, Some, None, slice_get, refl, sym, ap, subst, ◌∙◌, inl, inr, ◌⊎◌}
use Rattle.std.specs.Prelude.{if◌then◌else◌, ◌==◌}
use Rattle.std.proofs.lemmas.Bool.{eqb-true}
use Rattle.std.proofs.lemmas.List.{length-set}
use Rattle.std.proofs.lemmas.Option.{same_Some}
use Rattle.cyc_words.proofs.Numbers.{when_equal, same_or_other}
use Rattle.cyc_words.proofs.Items.{slice_get-set_other, slice_get-set_same}
use Rattle.cyc_types.specs.flow.States as flow
use Rattle.cyc_meaning.specs.Values.{Cell}
use Rattle.cyc_meaning.specs.Values as values
use Rattle.cyc_meaning.specs.State.{Region, Unique, Object}
use Rattle.cyc_soundness.specs.inside.Lives.{Owned, RunTy, RunValue, Void, Null, Value, Seen, Into}
use Rattle.cyc_soundness.specs.inside.Worlds.{Settled, Awaits, IsHiding, IsKept, ObjectType, Thing, KeyOf, PointerTo, Holder, Nobody, Hand, At, Lent, Typing, IsHeld, same_thing, thing_of, Owns, Claims, ClaimsBy, ClaimsAlone, given, giving, marked, handing}
use Rattle.cyc_soundness.specs.inside.Worlds.{AreOwned, IsUniqueObject, Stays, IsOwner, IsObject, IsTyped, Grows, Standing, Here, Away, Gone, AreLent}
use Rattle.cyc_soundness.specs.inside.Frames.{InScope, AreVariables, Holds}
use Rattle.cyc_soundness.proofs.states.WorldLemmas.{object_grown}
use Rattle.cyc_soundness.proofs.states.Hands.{given_other, held_before, given_too, nobody_before, marked_before, at_same, at_no_hand, at_not_lent, lent_same, lent_some, lent_no_hand, lent_not_at, away_not_here, away_not_gone, away_same, at_some, Changed, stays_changed, same_grows, giving_changed}
use Rattle.cyc_soundness.proofs.states.Hands.{claims_kept, hiding_kept, variables_kept, holds_kept}

-- Says that facts about objects are added to the typing, and that variables may receive values.
pub record Raises (g h : Typing) : Type 0 where
  pub grows : Grows g h
  pub own : h.own ≡ g.own
  pub here : (object : ℕ) → g.here object ≡ Here → h.here object ≡ Here
  pub away : (object j : ℕ) → IsHiding g object true → g.here object ≡ Away j → h.here object ≡ Away j
  pub pending : h.pending ≡ g.pending
  pub depth : h.depth ≡ g.depth
  pub loans : h.loans ≡ g.loans

pub changed_raised : (old : Holder) (g h i : Typing) → Changed old g h → Raises h i → Changed old g i
changed_raised old g h i changed raises = record {
  grows = record {
    objects = λ n t is. raises.grows.objects n t (changed.grows.objects n t is);
    filled = λ n count is. raises.grows.filled n count (changed.grows.filled n count is);
    fields = λ n ls ts is. raises.grows.fields n ls ts (changed.grows.fields n ls ts is);
    kept = λ n is. raises.grows.kept n (changed.grows.kept n is);
  };
  own = λ a apart. ap (λ f. f a) raises.own ∙ changed.own a apart;
  here = λ object is apart. raises.here object (changed.here object is apart);
  away = λ object j hides is apart other. raises.away object j (hiding_kept old g h changed object hides) (changed.away object j hides is apart other);
  depth = raises.depth ∙ changed.depth;
  pending = raises.pending ∙ changed.pending;
  loans = raises.loans ∙ changed.loans;
}

module _ (g h : Typing) (stays : Stays g h) where
  abbrev still : Changed Nobody g h
  still = stays_changed Nobody g h stays

  pub variables_grown : (bs : List InScope) → AreVariables g bs → AreVariables h bs
  variables_grown bs are = variables_kept Nobody g h still bs refl are

  pub holds_grown : (f : flow.State) (bs : List InScope) → Holds g f bs → Holds h f bs
  holds_grown f bs holds = holds_kept Nobody g h still f bs (λ n object full here. at_some object 0) holds

-- ---- the world is unchanged

-- A resource moves to another holder (operand, cell or loan). Before the resource moves, each cell owns the resource that its own
-- value represents, and the values of different cells represent different resources.
pub hands_typed : (g : Typing) (o : Option Thing) (old new : Holder) (here : ℕ → Standing) (regions : List Region) (objects : List Object) → Owns g.own old o → IsHeld old
    → ((object i : ℕ) (t : ObjectType) (x : Object) → slice_get g.objects object ≡ Some t → slice_get objects object ≡ Some x → IsKept (record g { own = given o new g.own; here = here }) object i t.is_hidden
    → (IsKept g object i t.is_hidden × (At object i ≢ old)) ⊎ ((u : RunTy) (c : Cell) (v : values.Value) → slice_get t.cells i ≡ Some u → slice_get x.cells i ≡ Some c → c.content ≡ Some v → Claims (given o new g.own) (At object i) u v))
    → ((object j : ℕ) (t : ObjectType) (x : Object) → slice_get g.objects object ≡ Some t → slice_get objects object ≡ Some x → here object ≡ Away j → t.is_hidden ≡ true
    → ((g.here object ≡ Away j) × (Lent j object ≢ old)) ⊎ ((i : ℕ) (u : RunTy) (c : Cell) (v : values.Value) → slice_get t.cells i ≡ Some u → slice_get x.cells i ≡ Some c → c.content ≡ Some v → Claims (given o new g.own) (Lent j object) u v)) → IsTyped g regions objects
    → IsTyped (record g { own = given o new g.own; here = here }) regions objects
hands_typed g o old new here regions objects has held before away typed = record {
  count = typed.count;
  counts = typed.counts;
  each = λ n u there. (let (x, m, at, flag, is) = typed.each n u there in (x, m, at, flag, object_grown g _ (same_grows g (given o new g.own) here) m u x is));
  heap = typed.heap;
  kept = λ n among. ((typed.kept n among).0, λ now. (typed.kept n among).1 (held_before g.own o old new (KeyOf n) has held now));
  fresh = λ n less. nobody_before g.own o old new (KeyOf n) has held (typed.fresh n less);
  unique = λ object now. typed.unique object (held_before g.own o old new (PointerTo object) has held now);
  owned = λ object t x there stands i u c v kept cell at content. elim (before object i t x there stands kept) [
    | inl was ↦ claims_kept old g (giving g o new) (giving_changed g o old new has) (At object i) u v was.1 (typed.owned object t x there stands i u c v was.0 cell at content)
    | inr is ↦ is u c v cell at content
  ];
  lent = λ object t x there stands i j u c v now hides cell at content. elim (away object j t x there stands now hides) [
    | inl was ↦ claims_kept old g (giving g o new) (giving_changed g o old new has) (Lent j object) u v was.1 (typed.lent object t x there stands i j u c v was.0 hides cell at content)
    | inr is ↦ is i u c v cell at content
  ];
}

pub given_typed : (g : Typing) (o : Option Thing) (old new : Holder) (regions : List Region) (objects : List Object) → Owns g.own old o → IsHeld old → ((object i : ℕ) → At object i ≢ old) → ((object j : ℕ) → Lent j object ≢ old) → IsTyped g regions objects → IsTyped (giving g o new) regions objects
given_typed g o old new regions objects has held apart other typed = hands_typed g o old new g.here regions objects has held (λ object i t x there stands kept. inl (kept, apart object i)) (λ object j t x there stands now hides. inl (now, other object j)) typed

-- A resource moves out of a hidden variable, that is, a variable to which no pointer points.
module _ (g : Typing) (o : Option Thing) (object : ℕ) (new : Holder) (y : ObjectType) (regions : List Region) (objects : List Object) (has : Owns g.own (At object 0) o) (there : slice_get g.objects object ≡ Some y) (hidden : y.is_hidden ≡ true) (typed : IsTyped g regions objects) where
  -- After a resource moves out of a variable, the variable no longer holds its value.
  taken_kept : (a : Standing) → (a ≡ Here → ⊥) → (n i : ℕ) (u : ObjectType) (x : Object) → slice_get g.objects n ≡ Some u → slice_get objects n ≡ Some x → IsKept (handing g o new object a) n i u.is_hidden
      → (IsKept g n i u.is_hidden × (At n i ≢ At object 0)) ⊎ ((r : RunTy) (c : Cell) (v : values.Value) → slice_get u.cells i ≡ Some r → slice_get x.cells i ≡ Some c → c.content ≡ Some v → Claims (given o new g.own) (At n i) r v)
  taken_kept a none n i u x found stands kept = elim (same_or_other n object) [
    | inl same ↦ (let type_is : y ≡ u = same_Some y u (sym there ∙ ap (λ k. slice_get g.objects k) (sym same) ∙ found) in
        let now = kept.0 (ap (λ (z : ObjectType). z.is_hidden) (sym type_is) ∙ hidden) in
        absurd (none (sym (when_equal n object a (g.here n) same) ∙ now)))
    | inr apart ↦ inl (((λ is. marked_before object a g.here n Here apart (kept.0 is)), kept.1), λ e. apart (at_same n i object 0 e).0)
  ]

  pub taken_typed : IsTyped (handing g o new object Gone) regions objects
  taken_typed = hands_typed g o (At object 0) new (marked object Gone g.here) regions objects has tt (taken_kept Gone (λ e. let k : Gone ≡ Here = e in absurd (cc))) away typed
    where
      away : (n j : ℕ) (t : ObjectType) (x : Object) → slice_get g.objects n ≡ Some t → slice_get objects n ≡ Some x → marked object Gone g.here n ≡ Away j → t.is_hidden ≡ true
          → ((g.here n ≡ Away j) × (Lent j n ≢ At object 0)) ⊎ ((i : ℕ) (u : RunTy) (c : Cell) (v : values.Value) → slice_get t.cells i ≡ Some u → slice_get x.cells i ≡ Some c → c.content ≡ Some v → Claims (given o new g.own) (Lent j n) u v)
      away n j t x found stands now hides = elim (same_or_other n object) [
        | inl same ↦ absurd (away_not_gone (marked object Gone g.here n) j now (when_equal n object Gone (g.here n) same))
        | inr apart ↦ inl (marked_before object Gone g.here n (Away j) apart now, lent_not_at j n object 0)
      ]

  -- The variable has lent its value: a loan owns the resource (key or unique pointer) that the value represents.
  pub lent_typed : (j : ℕ) → new ≡ Lent j object → ((x : Object) → slice_get objects object ≡ Some x → (i : ℕ) (u : RunTy) (c : Cell) (v : values.Value) → slice_get y.cells i ≡ Some u → slice_get x.cells i ≡ Some c → c.content ≡ Some v → Claims (given o new g.own) (Lent j object) u v)
      → IsTyped (handing g o new object (Away j)) regions objects
  lent_typed j new_is claims = hands_typed g o (At object 0) new (marked object (Away j) g.here) regions objects has tt (taken_kept (Away j) (λ e. let k : Away j ≡ Here = e in absurd (cc))) away typed
    where
      away : (n i : ℕ) (t : ObjectType) (x : Object) → slice_get g.objects n ≡ Some t → slice_get objects n ≡ Some x → marked object (Away j) g.here n ≡ Away i → t.is_hidden ≡ true
          → ((g.here n ≡ Away i) × (Lent i n ≢ At object 0)) ⊎ ((m : ℕ) (u : RunTy) (c : Cell) (v : values.Value) → slice_get t.cells m ≡ Some u → slice_get x.cells m ≡ Some c → c.content ≡ Some v → Claims (given o new g.own) (Lent i n) u v)
      away n i t x found stands now hides = elim (same_or_other n object) [
        | inl same ↦ (let type_is : y ≡ t = same_Some y t (sym there ∙ ap (λ k. slice_get g.objects k) (sym same) ∙ found) in
            let number : j ≡ i = away_same j i (sym (when_equal n object (Away j) (g.here n) same) ∙ now) in
            inr (λ m u c v cell at content. subst (λ k. Claims (given o new g.own) (Lent k n) u v) number (subst (λ k. Claims (given o new g.own) (Lent j k) u v) (sym same)
            (claims x (ap (λ k. slice_get objects k) (sym same) ∙ stands) m u c v (ap (λ (z : ObjectType). slice_get z.cells m) type_is ∙ cell) at content))))
        | inr apart ↦ inl (marked_before object (Away j) g.here n (Away i) apart now, lent_not_at i n object 0)
      ]

-- Let a lending variable own two resources (keys or unique pointers). After the loan received the first one, the second one is
-- owned by the variable or by the loan.
pub also_lent : (own : Thing → Holder) (o also : Option Thing) (old new : Holder) → Owns own old also → Owns (given o new own) old also ⊎ Owns (given o new own) new also
also_lent own o None old new has = inl tt
also_lent own None (Some b) old new has = inl has
also_lent own (Some a) (Some b) old new has = go (same_thing b a)
  where
    go : (z : Bool) → ((if z then new else own b) ≡ old) ⊎ ((if z then new else own b) ≡ new)
    go true = inr refl
    go false = inl has

-- If a lending variable or its loan owns a second resource, then the run state stays well-typed when the loan receives this resource.
pub also_typed : (g : Typing) (o : Option Thing) (object j : ℕ) (y : ObjectType) (regions : List Region) (objects : List Object) → slice_get g.objects object ≡ Some y → y.is_hidden ≡ true → g.here object ≡ Away j
    → Owns g.own (At object 0) o ⊎ Owns g.own (Lent j object) o → IsTyped g regions objects → IsTyped (giving g o (Lent j object)) regions objects
also_typed g o object j y regions objects there hidden lent (inl has) typed = hands_typed g o (At object 0) (Lent j object) g.here regions objects has tt before (λ n i t x found stands now hides. inl (now, lent_not_at i n object 0)) typed
  where
    before : (n i : ℕ) (t : ObjectType) (x : Object) → slice_get g.objects n ≡ Some t → slice_get objects n ≡ Some x → IsKept (giving g o (Lent j object)) n i t.is_hidden
        → (IsKept g n i t.is_hidden × (At n i ≢ At object 0)) ⊎ ((u : RunTy) (c : Cell) (v : values.Value) → slice_get t.cells i ≡ Some u → slice_get x.cells i ≡ Some c → c.content ≡ Some v → Claims (given o (Lent j object) g.own) (At n i) u v)
    before n i t x found stands kept = inl (
      kept,
      λ e.
          (let same = (at_same n i object 0 e).0 in
          let type_is : y ≡ t = same_Some y t (sym there ∙ ap (λ k. slice_get g.objects k) (sym same) ∙ found) in
          let here : g.here n ≡ Here = kept.0 (ap (λ (z : ObjectType). z.is_hidden) (sym type_is) ∙ hidden) in
          absurd (let z : Away j ≡ Here = sym lent ∙ ap g.here (sym same) ∙ here in cc)),
    )
also_typed g o object j y regions objects there hidden lent (inr has) typed =
    hands_typed g o (Lent j object) (Lent j object) g.here regions objects has tt (λ n i t x found stands kept. inl (kept, at_not_lent n i j object)) away typed
  where
    away : (n i : ℕ) (t : ObjectType) (x : Object) → slice_get g.objects n ≡ Some t → slice_get objects n ≡ Some x → g.here n ≡ Away i → t.is_hidden ≡ true
        → ((g.here n ≡ Away i) × (Lent i n ≢ Lent j object)) ⊎ ((m : ℕ) (u : RunTy) (c : Cell) (v : values.Value) → slice_get t.cells m ≡ Some u → slice_get x.cells m ≡ Some c → c.content ≡ Some v → Claims (given o (Lent j object) g.own) (Lent i n) u v)
    away n i t x found stands now hides = elim (same_or_other n object) [
      | inl same ↦ (let number : i ≡ j = away_same i j (sym now ∙ ap g.here same ∙ lent) in
          let holder : Lent j object ≡ Lent i n = ap (λ k. Lent k object) (sym number) ∙ ap (λ k. Lent i k) (sym same) in
          inr (λ m u c v cell at content. (let is = typed.lent n t x found stands m i u c v now hides cell at content in
          (subst (λ h. Owns (given o h g.own) (Lent i n) (thing_of u v)) (sym holder) (given_too g.own o (thing_of u v) (Lent i n) is.0), is.1))))
      | inr apart ↦ inl (now, λ e. apart (lent_same i n j object e).1)
    ]

-- If a loan receives two resources (keys or unique pointers), then no other resource changes its owner.
pub also_changed : (old new : Holder) (g h : Typing) (o : Option Thing) → Owns g.own old o → Changed old g h → Changed old g (giving h o new)
also_changed old new g h o has changed = record {
  grows = record { objects = changed.grows.objects; filled = changed.grows.filled; fields = changed.grows.fields; kept = changed.grows.kept };
  own = λ a apart. other o has a apart;
  here = changed.here;
  away = changed.away;
  pending = changed.pending;
  depth = changed.depth;
  loans = changed.loans;
}
  where
    twice : (z : Bool) (a b : Holder) → (if z then new else b) ≡ b → a ≡ b → (if z then new else a) ≡ b
    twice true a b first second = first
    twice false a b first second = second

    other : (o : Option Thing) → Owns g.own old o → (a : Thing) → g.own a ≢ old → given o new h.own a ≡ g.own a
    other None has a apart = changed.own a apart
    other (Some b) has a apart = twice (same_thing a b) (h.own a) (g.own a) (given_other g.own (Some b) old new a has apart) (changed.own a apart)

-- A variable receives back the value that it has lent.
pub returned_typed : (g : Typing) (o : Option Thing) (object j : ℕ) (y : ObjectType) (regions : List Region) (objects : List Object) → Owns g.own (Lent j object) o → slice_get g.objects object ≡ Some y
    → ((x : Object) → slice_get objects object ≡ Some x → (i : ℕ) (u : RunTy) (c : Cell) (v : values.Value) → slice_get y.cells i ≡ Some u → slice_get x.cells i ≡ Some c → c.content ≡ Some v → Claims (given o (At object 0) g.own) (At object i) u v)
    → IsTyped g regions objects → IsTyped (handing g o (At object 0) object Here) regions objects
returned_typed g o object j y regions objects has there claims typed = hands_typed g o (Lent j object) (At object 0) (marked object Here g.here) regions objects has tt before away typed
  where
    before : (n i : ℕ) (t : ObjectType) (x : Object) → slice_get g.objects n ≡ Some t → slice_get objects n ≡ Some x → IsKept (handing g o (At object 0) object Here) n i t.is_hidden
        → (IsKept g n i t.is_hidden × (At n i ≢ Lent j object)) ⊎ ((u : RunTy) (c : Cell) (v : values.Value) → slice_get t.cells i ≡ Some u → slice_get x.cells i ≡ Some c → c.content ≡ Some v → Claims (given o (At object 0) g.own) (At n i) u v)
    before n i t x found stands kept = elim (same_or_other n object) [
      | inl same ↦ (let type_is : y ≡ t = same_Some y t (sym there ∙ ap (λ k. slice_get g.objects k) (sym same) ∙ found) in
          inr (λ u c v cell at content. subst (λ k. Claims (given o (At object 0) g.own) (At k i) u v) (sym same)
          (claims x (ap (λ k. slice_get objects k) (sym same) ∙ stands) i u c v (ap (λ (z : ObjectType). slice_get z.cells i) type_is ∙ cell) at content)))
      | inr apart ↦ inl (((λ is. marked_before object Here g.here n Here apart (kept.0 is)), kept.1), at_not_lent n i j object)
    ]

    away : (n i : ℕ) (t : ObjectType) (x : Object) → slice_get g.objects n ≡ Some t → slice_get objects n ≡ Some x → marked object Here g.here n ≡ Away i → t.is_hidden ≡ true
        → ((g.here n ≡ Away i) × (Lent i n ≢ Lent j object)) ⊎ ((m : ℕ) (u : RunTy) (c : Cell) (v : values.Value) → slice_get t.cells m ≡ Some u → slice_get x.cells m ≡ Some c → c.content ≡ Some v → Claims (given o (At object 0) g.own) (Lent i n) u v)
    away n i t x found stands now hides = elim (same_or_other n object) [
      | inl same ↦ absurd (away_not_here (marked object Here g.here n) i now (when_equal n object Here (g.here n) same))
      | inr apart ↦ inl (marked_before object Here g.here n (Away i) apart now, λ e. apart (lent_same i n j object e).1)
    ]

-- The pointer to a unique object receives an owner (an operand, cell or loan).
pub pointed_typed : (g : Typing) (object : ℕ) (new : Holder) (regions : List Region) (objects : List Object) → g.own (PointerTo object) ≡ Nobody → IsUniqueObject g objects object → IsTyped g regions objects → IsTyped (giving g (Some (PointerTo object)) new) regions objects
pointed_typed g object new regions objects none is typed = record {
  count = typed.count;
  counts = typed.counts;
  each = λ n u there. (let (x, m, at, flag, was) = typed.each n u there in (x, m, at, flag, object_grown g _ (same_grows g (given (Some (PointerTo object)) new g.own) g.here) m u x was));
  heap = typed.heap;
  kept = typed.kept;
  fresh = typed.fresh;
  unique = λ n held. go n (n == object) refl held;
  owned = λ n t x there stands i u c v kept cell at content. claims_kept Nobody g (giving g (Some (PointerTo object)) new) (giving_changed g (Some (PointerTo object)) Nobody new none) (At n i) u v (at_some n i)
      (typed.owned n t x there stands i u c v kept cell at content);
  lent = λ n t x there stands i j u c v away hides cell at content. claims_kept Nobody g (giving g (Some (PointerTo object)) new) (giving_changed g (Some (PointerTo object)) Nobody new none) (Lent j n) u v (lent_some j n)
      (typed.lent n t x there stands i j u c v away hides cell at content);
}
  where
    go : (n : ℕ) (b : Bool) → (n == object) ≡ b → IsHeld (if b then new else g.own (PointerTo n)) → IsUniqueObject g objects n
    go n true same held = subst (λ i. IsUniqueObject g objects i) (sym (eqb-true n object same)) is
    go n false other held = typed.unique n held

-- A unique object is freed; afterwards no operand, cell or loan owns its pointer.
pub freed_typed : (g : Typing) (object i : ℕ) (x : Object) (regions : List Region) (objects : List Object) → g.own (PointerTo object) ≡ Hand i → slice_get objects object ≡ Some x → IsTyped g regions objects
    → IsTyped (giving g (Some (PointerTo object)) Nobody) regions (set objects object (record x { owner = Unique false }))
freed_typed g object i x regions objects has stands typed =
    let (t, y, there, life, at, live) = typed.unique object (subst (λ h. IsHeld h) (sym has) tt) in
    let now : IsTyped (giving g (Some (PointerTo object)) Nobody) regions objects = given_typed g (Some (PointerTo object)) (Hand i) Nobody regions objects has tt (λ n m. at_no_hand n m i) (λ n m. lent_no_hand m n i) typed in
    record {
      count = length-set objects object gone ∙ now.count;
      counts = length-set objects object gone ∙ now.counts;
      each = λ n u found. each n u found t there life now;
      heap = now.heap;
      kept = now.kept;
      fresh = now.fresh;
      unique = λ n held. unique n held now;
      owned = λ n u z found is. owned n u z found is now;
      lent = λ n u z found is. lent n u z found is now;
    }
  where
    gone : Object
    gone = record x { owner = Unique false }

    gone_there : slice_get (set objects object gone) object ≡ Some gone
    gone_there = slice_get-set_same objects object x gone stands

    h : Typing
    h = giving g (Some (PointerTo object)) Nobody

    gone_is : (m : ℕ) (u : ObjectType) (z : Object) → u.life ≡ Owned → IsObject h m u z → IsObject h m u (record z { owner = Unique false })
    gone_is m u z life is = record { owner = subst (λ l. IsOwner l (Unique false)) (sym life) tt; known = is.known; keyless = is.keyless; cells = is.cells }

    each : (n : ℕ) (u : ObjectType) → slice_get g.objects n ≡ Some u → (t : ObjectType) → slice_get g.objects object ≡ Some t → t.life ≡ Owned → IsTyped h regions objects
        → (z : Object) × (m : ℕ) × (slice_get (set objects object gone) n ≡ Some z) × (slice_get g.filled n ≡ Some m) × IsObject h m u z
    each n u found t there life now = let (z, m, at, flag, is) = now.each n u found in elim (same_or_other n object) [
      | inl same ↦ (
        gone,
        m,
        subst (λ k. slice_get (set objects object gone) k ≡ Some gone) (sym same) gone_there,
        flag,
        (let type_is : t ≡ u = same_Some t u (sym there ∙ ap (λ k. slice_get g.objects k) (sym same) ∙ found) in
            let same_z : z ≡ x = same_Some z x (sym at ∙ ap (λ k. slice_get objects k) same ∙ stands) in
            gone_is m u x (ap (λ (k : ObjectType). k.life) (sym type_is) ∙ life) (subst (λ k. IsObject h m u k) same_z is)),
      )
      | inr apart ↦ (z, m, slice_get-set_other objects object n gone apart ∙ at, flag, is)
    ]

    unique : (n : ℕ) → IsHeld (h.own (PointerTo n)) → IsTyped h regions objects → IsUniqueObject h (set objects object gone) n
    unique n held now = let (u, z, there, life, at, live) = now.unique n held in elim (same_or_other n object) [
      | inl same ↦ absurd (subst (λ k. IsHeld k) (when_equal n object Nobody (g.own (PointerTo n)) same) held)
      | inr apart ↦ (u, z, there, life, slice_get-set_other objects object n gone apart ∙ at, live)
    ]

    owned : (n : ℕ) (u : ObjectType) (z : Object) → slice_get g.objects n ≡ Some u → slice_get (set objects object gone) n ≡ Some z → IsTyped h regions objects → AreOwned h n u z.cells
    owned n u z found is now = elim (same_or_other n object) [
      | inl same ↦ (let z_is : gone ≡ z = same_Some gone z (sym gone_there ∙ ap (λ k. slice_get (set objects object gone) k) (sym same) ∙ is) in
          subst (λ (k : Object). AreOwned h n u k.cells) z_is (now.owned n u x found (ap (λ k. slice_get objects k) same ∙ stands)))
      | inr apart ↦ now.owned n u z found (sym (slice_get-set_other objects object n gone apart) ∙ is)
    ]

    lent : (n : ℕ) (u : ObjectType) (z : Object) → slice_get g.objects n ≡ Some u → slice_get (set objects object gone) n ≡ Some z → IsTyped h regions objects → AreLent h n u z.cells
    lent n u z found is now = elim (same_or_other n object) [
      | inl same ↦ (let z_is : gone ≡ z = same_Some gone z (sym gone_there ∙ ap (λ k. slice_get (set objects object gone) k) (sym same) ∙ is) in
          subst (λ (k : Object). AreLent h n u k.cells) z_is (now.lent n u x found (ap (λ k. slice_get objects k) same ∙ stands)))
      | inr apart ↦ now.lent n u z found (sym (slice_get-set_other objects object n gone apart) ∙ is)
    ]

-- If no swap is between its two writes, then each cell owns the resource that its own value represents.
pub not_awaited : (g : Typing) (object i : ℕ) → g.pending ≡ Settled → g.pending ≢ Awaits object i
not_awaited g object i settled e = let k : Settled ≡ Awaits object i = sym settled ∙ e in absurd (cc)

pub kept_now : (g : Typing) (object i : ℕ) (hidden : Bool) → g.here object ≡ Here → g.pending ≡ Settled → IsKept g object i hidden
kept_now g object i hidden here settled = ((λ is. here), not_awaited g object i settled)

pub alone_comes : (g : Typing) (i : ℕ) (r : RunValue) (v : values.Value) → ClaimsAlone g.own i r v → ClaimsBy g i r v
alone_comes g i (Value t) v is = is
alone_comes g i (Into peek t) v is = absurd is
alone_comes g i Void v is = tt
alone_comes g i Null v is = tt
alone_comes g i (Seen object t) v is = absurd is
