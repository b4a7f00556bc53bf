-- This file is about resources (keys, and pointers to unique objects) that change holders (the operand, cell or loan that owns them).
-- All resources that a step does not move keep their holders, so the well-typed parts of the run state stay well-typed.
use Rattle.std.proofs.Common.{◌≡◌, ◌≢◌, ℕ, Bool, true, false, List, [], ◌∷◌, set, Option, Some, None, slice_get, refl, sym, ap, subst, ◌∙◌, inl, inr, eqb}
use Rattle.std.specs.Prelude.{if◌then◌else◌, ◌==◌}
use Rattle.std.proofs.lemmas.Bool.{eqb-true, eq-eqb, false_from_ne_true}
use Rattle.std.proofs.lemmas.Option.{same_Some}
use Rattle.cyc_words.proofs.Numbers.{when_equal, same_or_other}
use Rattle.cyc_types.specs.flow.States as flow
use Rattle.cyc_meaning.specs.Values as values
use Rattle.cyc_soundness.specs.inside.Lives.{Life, OfRegion, Owned, Kept, RunTy, RunValue, Void, Null, Value, Seen, Into}
use Rattle.cyc_soundness.specs.inside.Worlds.{Awaits, IsHiding, ObjectType, Thing, KeyOf, PointerTo, Holder, Nobody, Hand, At, Lent, Typing, IsHeld, same_thing, thing_of, Owns, Claims, ClaimsPart, ClaimsAlone, IsLookedAt, IsSlot, IsHere, given, giving, marked, handing}
use Rattle.cyc_soundness.specs.inside.Worlds.{is_lent_by, lent_now, IsOpenIn, Stays, Grows, Standing, Here, Away, Gone}
use Rattle.cyc_soundness.specs.inside.Frames.{InScope, Variable, Names, Instance, IsOfVariable, local_type, HoldsIts, IsFullIn, AreVariables, AreSet, Holds}
use Rattle.cyc_soundness.proofs.states.WorldLemmas.{life_grown}

-- ---- holders of resources

pub other_number : {A : Type 0} (n r : ℕ) (a b : A) → n ≢ r → (if n == r then a else b) ≡ b
other_number n r a b apart = ap (λ (z : Bool). if z then a else b) (false_from_ne_true (eqb n r) (λ h. apart (eqb-true n r h)))

thing_is_itself : (a : Thing) → same_thing a a ≡ true
thing_is_itself (KeyOf n) = eq-eqb n n refl
thing_is_itself (PointerTo n) = eq-eqb n n refl

the_same : (a b : Thing) → same_thing a b ≡ true → a ≡ b
the_same (KeyOf m) (KeyOf n) e = ap (λ i. KeyOf i) (eqb-true m n e)
the_same (PointerTo m) (PointerTo n) e = ap (λ i. PointerTo i) (eqb-true m n e)
the_same (KeyOf m) (PointerTo n) e = absurd (let k : false ≡ true = e in cc)
the_same (PointerTo m) (KeyOf n) e = absurd (let k : false ≡ true = e in cc)

-- After a transfer of a resource (key or unique pointer), the new holder (operand, cell or loan) owns the transferred resource.
pub given_now : (own : Thing → Holder) (o : Option Thing) (h : Holder) → Owns (given o h own) h o
given_now own None h = tt
given_now own (Some a) h = ap (λ (z : Bool). if z then h else own a) (thing_is_itself a)

by_test : {A : Type 0} (b : Bool) (x y z : A) → (b ≡ true → y ≡ z) → (b ≡ false → x ≡ z) → (if b then y else x) ≡ z
by_test true x y z one two = one refl
by_test false x y z one two = two refl

-- Every resource (key or unique pointer) that is not transferred is still owned by the same operand, cell or loan.
pub given_other : (own : Thing → Holder) (o : Option Thing) (old new : Holder) (a : Thing) → Owns own old o → own a ≢ old → given o new own a ≡ own a
given_other own None old new a has apart = refl
given_other own (Some b) old new a has apart = by_test (same_thing a b) (own a) new (own a) (λ e. absurd (apart (ap own (the_same a b e) ∙ has))) (λ e. refl)

-- If an operand, cell or loan owns a resource (key or unique pointer) after a transfer of ownership, then some operand, cell or loan owned
-- this resource before the transfer.
pub held_before : (own : Thing → Holder) (o : Option Thing) (old new : Holder) (a : Thing) → Owns own old o → IsHeld old → IsHeld (given o new own a) → IsHeld (own a)
held_before own None old new a has held now = now
held_before own (Some b) old new a has held now = go (same_thing a b) refl now
  where
    go : (z : Bool) → same_thing a b ≡ z → IsHeld (if z then new else own a) → IsHeld (own a)
    go true e now = subst (λ h. IsHeld h) (sym (ap own (the_same a b e) ∙ has)) held
    go false e now = now

-- After a transfer, the new holder (operand, cell or loan) still owns the resources that it owned before.
pub given_too : (own : Thing → Holder) (o q : Option Thing) (h : Holder) → Owns own h q → Owns (given o h own) h q
given_too own o None h has = tt
given_too own None (Some b) h has = has
given_too own (Some a) (Some b) h has = by_test (same_thing b a) (own b) h h (λ e. refl) (λ e. has)

-- Resources (keys and unique pointers) that are owned by different holders (operands, cells or loans) are different.
pub given_apart : (own now : Thing → Holder) (o q : Option Thing) (h k new : Holder) → Owns own h o → Owns own k q → h ≢ k → Owns now k o → Owns (given q new now) k o
given_apart own now None q h k new has its apart is = tt
given_apart own now (Some a) None h k new has its apart is = is
given_apart own now (Some a) (Some b) h k new has its apart is = by_test (same_thing a b) (now a) new k (λ e. absurd (apart (sym has ∙ ap own (the_same a b e) ∙ its))) (λ e. is)

-- If no operand, cell or loan owns a resource (key or unique pointer) before a transfer of ownership, then none owns this resource after
-- the transfer.
pub nobody_before : (own : Thing → Holder) (o : Option Thing) (old new : Holder) (a : Thing) → Owns own old o → IsHeld old → own a ≡ Nobody → given o new own a ≡ Nobody
nobody_before own None old new a has held none = none
nobody_before own (Some b) old new a has held none = by_test (same_thing a b) (own a) new Nobody (λ e. absurd (subst (λ h. IsHeld h) (sym has ∙ ap own (sym (the_same a b e)) ∙ none) held)) (λ e. none)

pub marked_now : (object : ℕ) (b : Standing) (here : ℕ → Standing) → marked object b here object ≡ b
marked_now object b here = when_equal object object b (here object) refl

pub marked_other : (object : ℕ) (b : Standing) (here : ℕ → Standing) (n : ℕ) → n ≢ object → marked object b here n ≡ here n
marked_other object b here n apart = other_number n object b (here n) apart

pub marked_before : (object : ℕ) (b : Standing) (here : ℕ → Standing) (n : ℕ) (s : Standing) → n ≢ object → marked object b here n ≡ s → here n ≡ s
marked_before object b here n s apart e = sym (marked_other object b here n apart) ∙ e

-- A variable that holds its value (state `Here`) is still in this state after it receives a value.
pub marked_keeps : (object : ℕ) (here : ℕ → Standing) (n : ℕ) → here n ≡ Here → marked object Here here n ≡ Here
marked_keeps object here n is = by_test (n == object) (here n) Here Here (λ e. refl) (λ e. is)

pub hand_same : (i j : ℕ) → Hand i ≡ Hand j → i ≡ j
hand_same i j e = let k : Hand i ≡ Hand j = e in cc

pub at_same : (m i n j : ℕ) → At m i ≡ At n j → (m ≡ n) × (i ≡ j)
at_same m i n j e = let k : At m i ≡ At n j = e in (cc, cc)

pub at_no_hand : (m n i : ℕ) → At m n ≢ Hand i
at_no_hand m n i e = let k : At m n ≡ Hand i = e in absurd (cc)

pub at_not_lent : (m n j o : ℕ) → At m n ≢ Lent j o
at_not_lent m n j o e = let k : At m n ≡ Lent j o = e in absurd (cc)

pub lent_same : (i m j n : ℕ) → Lent i m ≡ Lent j n → (i ≡ j) × (m ≡ n)
lent_same i m j n e = let k : Lent i m ≡ Lent j n = e in (cc, cc)

pub lent_some : (i m : ℕ) → Lent i m ≢ Nobody
lent_some i m e = let k : Lent i m ≡ Nobody = e in absurd (cc)

pub lent_no_hand : (i m j : ℕ) → Lent i m ≢ Hand j
lent_no_hand i m j e = let k : Lent i m ≡ Hand j = e in absurd (cc)

pub lent_not_at : (i m n o : ℕ) → Lent i m ≢ At n o
lent_not_at i m n o e = let k : Lent i m ≡ At n o = e in absurd (cc)

-- A variable whose value is lent (state `Away`) is not in the state `Here` of a variable that holds its value.
pub away_not_here : (a : Standing) (j : ℕ) → a ≡ Away j → a ≡ Here → ⊥
away_not_here a j away here = let k : Away j ≡ Here = sym away ∙ here in absurd (cc)

pub away_not_gone : (a : Standing) (j : ℕ) → a ≡ Away j → a ≡ Gone → ⊥
away_not_gone a j away gone = let k : Away j ≡ Gone = sym away ∙ gone in absurd (cc)

pub away_same : (i j : ℕ) → Away i ≡ Away j → i ≡ j
away_same i j e = let k : Away i ≡ Away j = e in cc

pub awaits_same : (m i n j : ℕ) → Awaits m i ≡ Awaits n j → (m ≡ n) × (i ≡ j)
awaits_same m i n j e = let k : Awaits m i ≡ Awaits n j = e in (cc, cc)

pub at_some : (m n : ℕ) → At m n ≢ Nobody
at_some m n e = let k : At m n ≡ Nobody = e in absurd (cc)

-- ---- the change relation

-- All resources (keys and unique pointers) of one holder (operand, cell or loan) go to another holder. Nothing else changes, except
-- that facts about objects are added, and that variables receive values if they have not lent their own.
pub record Changed (old : Holder) (g h : Typing) : Type 0 where
  pub grows : Grows g h
  pub own : (a : Thing) → g.own a ≢ old → h.own a ≡ g.own a
  pub here : (object : ℕ) → g.here object ≡ Here → At object 0 ≢ old → h.here object ≡ Here
  pub away : (object j : ℕ) → IsHiding g object true → g.here object ≡ Away j → At object 0 ≢ old → Lent j object ≢ old → h.here object ≡ Away j
  pub pending : h.pending ≡ g.pending
  pub depth : h.depth ≡ g.depth
  pub loans : h.loans ≡ g.loans

pub stays_changed : (old : Holder) (g h : Typing) → Stays g h → Changed old g h
stays_changed old g h stays = record {
  grows = stays.grows;
  own = λ a apart. ap (λ f. f a) stays.own;
  here = λ object is apart. ap (λ f. f object) stays.here ∙ is;
  away = λ object j hides is apart other. ap (λ f. f object) stays.here ∙ is;
  depth = stays.depth;
  pending = stays.pending;
  loans = stays.loans;
}

pub changed_after : (old : Holder) (g h i : Typing) → Changed old g h → Stays h i → Changed old g i
changed_after old g h i changed stays = record {
  grows = record {
    objects = λ n t is. stays.grows.objects n t (changed.grows.objects n t is);
    filled = λ n count is. stays.grows.filled n count (changed.grows.filled n count is);
    fields = λ n ls ts is. stays.grows.fields n ls ts (changed.grows.fields n ls ts is);
    kept = λ n is. stays.grows.kept n (changed.grows.kept n is);
  };
  own = λ a apart. ap (λ f. f a) stays.own ∙ changed.own a apart;
  here = λ object is apart. ap (λ f. f object) stays.here ∙ changed.here object is apart;
  away = λ object j hides is apart other. ap (λ f. f object) stays.here ∙ changed.away object j hides is apart other;
  depth = stays.depth ∙ changed.depth;
  pending = stays.pending ∙ changed.pending;
  loans = stays.loans ∙ changed.loans;
}

pub same_grows : (g : Typing) (own : Thing → Holder) (here : ℕ → Standing) → Grows g (record g { own = own; here = here })
same_grows g own here = record { objects = λ n u is. is; filled = λ n count is. is; fields = λ n ls ts is. is; kept = λ n is. is }

pub giving_changed : (g : Typing) (o : Option Thing) (old new : Holder) → Owns g.own old o → Changed old g (giving g o new)
giving_changed g o old new has = record { grows = same_grows g (given o new g.own) g.here; own = λ a apart. given_other g.own o old new a has apart; here = λ object is apart. is; away = λ object j hides is apart other. is; pending = refl; depth = refl; loans = refl }

-- A resource (key or unique pointer) moves out of a variable, or into a variable.
pub handing_changed : (g : Typing) (o : Option Thing) (old new : Holder) (object : ℕ) (b : Standing) → Owns g.own old o → (b ≡ Here → (j : ℕ) → g.here object ≡ Away j → Lent j object ≡ old) → ((b ≡ Here → ⊥) → old ≡ At object 0)
    → Changed old g (handing g o new object b)
handing_changed g o old new object b has back from = record {
  grows = same_grows g (given o new g.own) (marked object b g.here);
  own = λ a apart. given_other g.own o old new a has apart;
  here = here b from;
  away = away b back from;
  pending = refl;
  depth = refl;
  loans = refl;
}
  where
    apart_from : (n : ℕ) → old ≡ At object 0 → At n 0 ≢ old → n ≢ object
    apart_from n is apart same = apart (ap (λ i. At i 0) same ∙ sym is)

    here : (b : Standing) → ((b ≡ Here → ⊥) → old ≡ At object 0) → (n : ℕ) → g.here n ≡ Here → At n 0 ≢ old → marked object b g.here n ≡ Here
    here Here from n is apart = by_test (n == object) (g.here n) Here Here (λ e. refl) (λ e. is)
    here Gone from n is apart = marked_other object Gone g.here n (apart_from n (from (λ e. let k : Gone ≡ Here = e in absurd (cc))) apart) ∙ is
    here (Away j) from n is apart = marked_other object (Away j) g.here n (apart_from n (from (λ e. let k : Away j ≡ Here = e in absurd (cc))) apart) ∙ is

    away : (b : Standing) → (b ≡ Here → (j : ℕ) → g.here object ≡ Away j → Lent j object ≡ old) → ((b ≡ Here → ⊥) → old ≡ At object 0) → (n j : ℕ) → IsHiding g n true → g.here n ≡ Away j → At n 0 ≢ old → Lent j n ≢ old → marked object b g.here n ≡ Away j
    away Here back from n j hides is apart other = elim (same_or_other n object) [
      | inl same ↦ absurd (other (ap (λ i. Lent j i) same ∙ back refl j (ap g.here (sym same) ∙ is)))
      | inr two ↦ marked_other object Here g.here n two ∙ is
    ]
    away Gone back from n j hides is apart other = marked_other object Gone g.here n (apart_from n (from (λ e. let k : Gone ≡ Here = e in absurd (cc))) apart) ∙ is
    away (Away i) back from n j hides is apart other = marked_other object (Away i) g.here n (apart_from n (from (λ e. let k : Away i ≡ Here = e in absurd (cc))) apart) ∙ is

-- A variable loses the resource that its value represents to a new holder (operand, cell or loan).
pub gone_changed : (g : Typing) (o : Option Thing) (new : Holder) (object : ℕ) → Owns g.own (At object 0) o → Changed (At object 0) g (handing g o new object Gone)
gone_changed g o new object has = handing_changed g o (At object 0) new object Gone has (λ e. let k : Gone ≡ Here = e in absurd (cc)) (λ other. refl)

-- A variable receives a value. Giving a value to a variable affects neither loans of other resources nor a variable to
-- which pointers may point.
pub marked_changed : (g : Typing) (object : ℕ) → Changed (At object 0) g (record g { here = marked object Here g.here })
marked_changed g object = record {
  grows = same_grows g g.own (marked object Here g.here);
  own = λ a apart. refl;
  here = λ n is apart. marked_keeps object g.here n is;
  away = λ n j hides is apart other. marked_other object Here g.here n (λ same. apart (ap (λ i. At i 0) same)) ∙ is;
  pending = refl;
  depth = refl;
  loans = refl;
}

pub shown_changed : (g : Typing) (object : ℕ) (y : ObjectType) → slice_get g.objects object ≡ Some y → y.is_hidden ≡ false → Changed Nobody g (record g { here = marked object Here g.here })
shown_changed g object y there shown = record {
  grows = same_grows g g.own (marked object Here g.here);
  own = λ a apart. refl;
  here = λ n is apart. marked_keeps object g.here n is;
  away = λ n j hides is apart other. marked_other object Here g.here n (λ same. let type_is : y ≡ hides.0 = same_Some y hides.0 (sym there ∙ ap (λ i. slice_get g.objects i) (sym same) ∙ hides.1) in
      let z : true ≡ false = sym hides.2 ∙ ap (λ (z : ObjectType). z.is_hidden) (sym type_is) ∙ shown in absurd (cc)) ∙ is;
  pending = refl;
  depth = refl;
  loans = refl;
}

-- Facts about locals stay true if every local that holds a value that is not lent keeps this value.
module _ (g h : Typing) (grows : Grows g h) (depth : h.depth ≡ g.depth) where
  one_here : (f : flow.State) (b : InScope) → ((n object : ℕ) → IsFullIn f n → IsHere g g.depth n object → IsHere h g.depth n object) → HoldsIts g f b → HoldsIts h f b
  one_here f (Variable b) now (set, full) = (λ s. grows.filled b.object 1 (set s), λ s. subst (λ d. IsHere h d b.number b.object) (sym depth) (now b.number b.object s (full s)))
  one_here f b now is = tt

  set_here : (f : flow.State) (bs : List InScope) → ((n object : ℕ) → IsFullIn f n → IsHere g g.depth n object → IsHere h g.depth n object) → AreSet g f bs → AreSet h f bs
  set_here f [] now are = tt
  set_here f (b ∷ bs) now (is, are) = (one_here f b now is, set_here f bs now are)

  pub holds_here : (f : flow.State) (bs : List InScope) → ((n object : ℕ) → IsFullIn f n → IsHere g g.depth n object → IsHere h g.depth n object) → Holds g f bs → Holds h f bs
  holds_here f bs now (reached, are) = (reached, set_here f bs now are)

module _ (old : Holder) (g h : Typing) (changed : Changed old g h) where
  pub owns_kept : (holder : Holder) (o : Option Thing) → holder ≢ old → Owns g.own holder o → Owns h.own holder o
  owns_kept holder None apart is = tt
  owns_kept holder (Some a) apart is = changed.own a (λ e. apart (sym is ∙ e)) ∙ is

  pub claims_kept : (holder : Holder) (t : RunTy) (v : values.Value) → holder ≢ old → Claims g.own holder t v → Claims h.own holder t v
  claims_kept holder t v apart (is, start) = (owns_kept holder (thing_of t v) apart is, start)

  pub slot_kept : (d n object : ℕ) → IsSlot g d n object → IsSlot h d n object
  slot_kept d n object (x, there, slot) = (x, changed.grows.objects object x there, slot)

  pub hiding_kept : (object : ℕ) → IsHiding g object true → IsHiding h object true
  hiding_kept object (x, there, hides) = (x, changed.grows.objects object x there, hides)

  pub here_kept : (d n object : ℕ) → At object 0 ≢ old → IsHere g d n object → IsHere h d n object
  here_kept d n object apart (is, slot) = (changed.here object is apart, slot_kept d n object slot)

  looked_kept : (n : ℕ) (o : Option Thing) → ((object : ℕ) → IsHere g g.depth n object → IsHiding g object true → At object 0 ≢ old) → IsLookedAt g n o → IsLookedAt h n o
  looked_kept n None apart is = tt
  looked_kept n (Some a) apart (object, here, (x, there, hidden), is) = (
    object,
    subst (λ d. IsHere h d n object) (sym changed.depth) (here_kept g.depth n object (apart object here (x, there, hidden)) here),
    (x, changed.grows.objects object x there, hidden),
    changed.own a (λ e. apart object here (x, there, hidden) (sym is ∙ e)) ∙ is,
  )

  pub part_kept : (i : ℕ) (peek : Option ℕ) (o : Option Thing) → Hand i ≢ old → ((n object : ℕ) → peek ≡ Some n → IsHere g g.depth n object → IsHiding g object true → At object 0 ≢ old) → ClaimsPart g i peek o → ClaimsPart h i peek o
  part_kept i None o apart other is = owns_kept (Hand i) o apart is
  part_kept i (Some n) o apart other is = looked_kept n o (λ object. other n object refl) is

  pub alone_kept : (i : ℕ) (r : RunValue) (v : values.Value) → Hand i ≢ old → ClaimsAlone g.own i r v → ClaimsAlone h.own i r v
  alone_kept i (Value t) v apart is = claims_kept (Hand i) t v apart is
  alone_kept i (Into peek t) v apart is = is
  alone_kept i Void v apart is = tt
  alone_kept i Null v apart is = tt
  alone_kept i (Seen object t) v apart is = absurd is

  lent_kept : (a : Thing) → is_lent_by g.loans old ≡ false → lent_now g a ≡ true → lent_now h a ≡ true
  lent_kept a none e =
      let apart : g.own a ≢ old = (λ same. (let k : true ≡ false = sym e ∙ ap (λ h. is_lent_by g.loans h) same ∙ none in absurd (cc))) in
      subst (λ n. is_lent_by n (h.own a) ≡ true) (sym changed.loans) (subst (λ h. is_lent_by g.loans h ≡ true) (sym (changed.own a apart)) e)

  pub open_kept : (l : Life) → is_lent_by g.loans old ≡ false → IsOpenIn g l → IsOpenIn h l
  open_kept (Kept a) none is = lent_kept a none is
  open_kept (OfRegion number ns us) none is = λ r e. lent_kept r none (is r e)
  open_kept Owned none is = tt

  one_kept : (b : InScope) → is_lent_by g.loans old ≡ false → IsOfVariable g b → IsOfVariable h b
  one_kept (Variable b) none (is, opens) = (subst (λ d. slice_get h.objects b.object ≡ Some (local_type d b)) (sym changed.depth) (changed.grows.objects b.object (local_type g.depth b) is), open_kept b.life none opens)
  one_kept (Names number l live) none (is, opens) = (life_grown g h changed.grows l is, λ e. open_kept l none (opens e))
  one_kept (Instance these live) none is = λ n. (life_grown g h changed.grows (these n) (is n).0, λ e. open_kept (these n) none ((is n).1 e))
  one_kept b none is = tt

  -- If all loans of locals are preserved, then the variables in scope stay well-typed.
  pub variables_kept : (bs : List InScope) → is_lent_by g.loans old ≡ false → AreVariables g bs → AreVariables h bs
  variables_kept [] none are = tt
  variables_kept (b ∷ bs) none (is, are) = (one_kept b none is, variables_kept bs none are)

  -- Facts about locals stay true if none of these locals was the owner of the resource before its transfer.
  pub holds_kept : (f : flow.State) (bs : List InScope) → ((n object : ℕ) → IsFullIn f n → IsHere g g.depth n object → At object 0 ≢ old) → Holds g f bs → Holds h f bs
  holds_kept f bs other holds = holds_here g h changed.grows changed.depth f bs (λ n object full here. here_kept g.depth n object (other n object full here) here) holds
