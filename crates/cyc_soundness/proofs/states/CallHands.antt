-- This file is about the holders of resources (a holder is the operand, cell or loan that owns a key or unique pointer).
-- The file treats holders at the beginning and end of a call or a loan, and the holders of keys.
use Rattle.std.proofs.Common.{◌≡◌, ◌≢◌, ℕ, suc, ◌+◌, ◌≤◌, ◌<◌, true, List, [], ◌∷◌, ◌++◌, length, set, Some, slice_get, refl, sym, ap, subst, ◌∙◌, inl, inr, arith, length-append}
use Rattle.std.specs.Prelude.{if◌then◌else◌}
use Rattle.std.proofs.lemmas.Bool.{ltb-true, lt-ltb}
use Rattle.std.proofs.lemmas.List.{length-set}
use Rattle.cyc_words.proofs.Numbers.{when_equal, same_or_other}
use Rattle.cyc_words.proofs.Lists.{slice_get_last}
use Rattle.cyc_words.proofs.Items.{slice_get-set_other}
use Rattle.cyc_types.specs.flow.States as flow
use Rattle.cyc_types.specs.TypedTrees.{Program}
use Rattle.cyc_meaning.specs.State.{Dynamic, new_region, Region, Object, heap_number, is_open}
use Rattle.cyc_soundness.specs.inside.Lives.{Life, OfRegion, Owned, Kept}
use Rattle.cyc_soundness.specs.inside.Worlds.{Pending, IsAmong, first as newest, later as following, ObjectType, Thing, KeyOf, Holder, Nobody, Hand, At, Lent, Typing, IsHeld, given, giving, AreOwned, is_lent_by, IsOpenIn, IsDynamic, IsObject, IsTyped, Grows, Standing, AreLent}
use Rattle.cyc_soundness.specs.inside.Frames.{InScope, Variable, Names, Instance, IsOfVariable, HoldsIts, AreVariables, AreSet, Holds, KnowsProgram}
use Rattle.cyc_soundness.proofs.states.WorldLemmas.{life_grown, object_grown, globals_grown, opened_typed, typed_beside}
use Rattle.cyc_soundness.proofs.states.Hands.{other_number, at_no_hand, lent_some, lent_no_hand, at_some, same_grows, giving_changed}
use Rattle.cyc_soundness.proofs.states.StillHands.{given_typed}
use Rattle.cyc_soundness.proofs.states.Hands.{claims_kept}

pub moment_grows : (g : Typing) (d j : ℕ) → Grows g (record g { depth = d; loans = j })
moment_grows g d j = record { objects = λ n u is. is; filled = λ n count is. is; fields = λ n ls ts is. is; kept = λ n is. is }

pub moment_typed : (g : Typing) (d j : ℕ) (regions : List Region) (objects : List Object) → IsTyped g regions objects → IsTyped (record g { depth = d; loans = j }) regions objects
moment_typed g d j regions objects typed = record {
  count = typed.count;
  counts = typed.counts;
  each = λ n u there. (let (x, m, at, flag, is) = typed.each n u there in (x, m, at, flag, object_grown g (record g { depth = d; loans = j }) (moment_grows g d j) m u x is));
  heap = typed.heap;
  kept = typed.kept;
  fresh = typed.fresh;
  unique = typed.unique;
  owned = typed.owned;
  lent = typed.lent;
}

pub moment_globals : (p : Program) (g : Typing) (d j : ℕ) → KnowsProgram g p → KnowsProgram (record g { depth = d; loans = j }) p
moment_globals p g d j globals = globals_grown g (record g { depth = d; loans = j }) (moment_grows g d j) p (λ n ls. refl) globals

pub hands_globals : (p : Program) (g : Typing) (own : Thing → Holder) (here : ℕ → Standing) → KnowsProgram g p → KnowsProgram (record g { own = own; here = here }) p
hands_globals p g own here globals = globals_grown g (record g { own = own; here = here }) (same_grows g own here) p (λ n ls. refl) globals

-- a resource (key or unique pointer) lent by an earlier loan stays lent when more loans begin
lent_more : (n : ℕ) (h : Holder) → is_lent_by n h ≡ true → is_lent_by (suc n) h ≡ true
lent_more n Nobody e = e
lent_more n (Hand i) e = e
lent_more n (At i j) e = e
lent_more n (Lent j o) e = let less : j < n = ltb-true j n e in lt-ltb j (suc n) (let past : j < suc n = omega (arith, less) in past)

open_more : (g : Typing) (l : Life) → IsOpenIn g l → IsOpenIn (record g { loans = suc g.loans }) l
open_more g (Kept a) is = lent_more g.loans (g.own a) is
open_more g (OfRegion number ns us) is = λ a e. lent_more g.loans (g.own a) (is a e)
open_more g Owned is = tt

-- A swap of which a write is still to come does not affect which lifetimes are open.
pub pending_grows : (g : Typing) (q : Pending) → Grows g (record g { pending = q })
pending_grows g q = record { objects = λ n u is. is; filled = λ n count is. is; fields = λ n ls ts is. is; kept = λ n is. is }

open_pending : (g : Typing) (q : Pending) (l : Life) → IsOpenIn g l → IsOpenIn (record g { pending = q }) l
open_pending g q (Kept region) is = is
open_pending g q (OfRegion number ns us) is = is
open_pending g q Owned is = tt

variable_pending : (g : Typing) (q : Pending) (b : InScope) → IsOfVariable g b → IsOfVariable (record g { pending = q }) b
variable_pending g q (Variable b) (is, opens) = (is, open_pending g q b.life opens)
variable_pending g q (Names number l live) (is, opens) = (life_grown g (record g { pending = q }) (pending_grows g q) l is, λ e. open_pending g q l (opens e))
variable_pending g q (Instance these live) is = λ n. (life_grown g (record g { pending = q }) (pending_grows g q) (these n) (is n).0, λ e. open_pending g q (these n) ((is n).1 e))
variable_pending g q b is = tt

pub variables_pending : (g : Typing) (q : Pending) (bs : List InScope) → AreVariables g bs → AreVariables (record g { pending = q }) bs
variables_pending g q [] are = tt
variables_pending g q (b ∷ bs) (is, are) = (variable_pending g q b is, variables_pending g q bs are)

-- The record of which variables hold their values does not affect which lifetimes are open.
open_marked : (g : Typing) (here : ℕ → Standing) (l : Life) → IsOpenIn g l → IsOpenIn (record g { here = here }) l
open_marked g here (Kept region) is = is
open_marked g here (OfRegion number ns us) is = is
open_marked g here Owned is = tt

variable_marked : (g : Typing) (here : ℕ → Standing) (b : InScope) → IsOfVariable g b → IsOfVariable (record g { here = here }) b
variable_marked g here (Variable b) (is, opens) = (is, open_marked g here b.life opens)
variable_marked g here (Names number l live) (is, opens) = (life_grown g (record g { here = here }) (same_grows g g.own here) l is, λ e. open_marked g here l (opens e))
variable_marked g here (Instance these live) is = λ n. (life_grown g (record g { here = here }) (same_grows g g.own here) (these n) (is n).0, λ e. open_marked g here (these n) ((is n).1 e))
variable_marked g here b is = tt

pub variables_marked : (g : Typing) (here : ℕ → Standing) (bs : List InScope) → AreVariables g bs → AreVariables (record g { here = here }) bs
variables_marked g here [] are = tt
variables_marked g here (b ∷ bs) (is, are) = (variable_marked g here b is, variables_marked g here bs are)

variable_more : (g : Typing) (b : InScope) → IsOfVariable g b → IsOfVariable (record g { loans = suc g.loans }) b
variable_more g (Variable b) (is, opens) = (is, open_more g b.life opens)
variable_more g (Names number l live) (is, opens) = (life_grown g (record g { loans = suc g.loans }) (moment_grows g g.depth (suc g.loans)) l is, λ e. open_more g l (opens e))
variable_more g (Instance these live) is =
    λ n. (life_grown g (record g { loans = suc g.loans }) (moment_grows g g.depth (suc g.loans)) (these n) (is n).0, λ e. open_more g (these n) ((is n).1 e))
variable_more g b is = tt

pub variables_more : (g : Typing) (bs : List InScope) → AreVariables g bs → AreVariables (record g { loans = suc g.loans }) bs
variables_more g [] are = tt
variables_more g (b ∷ bs) (is, are) = (variable_more g b is, variables_more g bs are)

-- The resource (key or unique pointer) that was lent last is recorded as lent by the newest loan.
pub lent_last : (n o : ℕ) → is_lent_by (suc n) (Lent n o) ≡ true
lent_last n o = lt-ltb n (suc n) (let less : n < suc n = omega arith in less)

one_set_lent : (g : Typing) (j : ℕ) (f : flow.State) (b : InScope) → HoldsIts g f b → HoldsIts (record g { loans = j }) f b
one_set_lent g j f (Variable b) is = is
one_set_lent g j f b is = tt

set_lent : (g : Typing) (j : ℕ) (f : flow.State) (bs : List InScope) → AreSet g f bs → AreSet (record g { loans = j }) f bs
set_lent g j f [] are = tt
set_lent g j f (b ∷ bs) (is, are) = (one_set_lent g j f b is, set_lent g j f bs are)

-- The number of loans does not affect the facts about locals.
pub holds_lent : (g : Typing) (j : ℕ) (f : flow.State) (bs : List InScope) → Holds g f bs → Holds (record g { loans = j }) f bs
holds_lent g j f bs (reached, are) = (reached, set_lent g j f bs are)

-- ---- keys

-- Freeing a key closes its dynamic region and keeps the heap state (regions and objects) well-typed.
pub closed_by_key : (g : Typing) (regions : List Region) (objects : List Object) (number i : ℕ) (r : Region) → IsAmong number g.kept → g.own (KeyOf number) ≡ Hand i → IsTyped g regions objects
    → IsTyped (giving g (Some (KeyOf number)) Nobody) (set regions number r) objects
closed_by_key g regions objects number i r among has typed =
    let h = giving g (Some (KeyOf number)) Nobody in
    let now : IsTyped h regions objects = given_typed g (Some (KeyOf number)) (Hand i) Nobody regions objects has tt (λ n m. at_no_hand n m i) (λ n m. lent_no_hand m n i) typed in
    let apart : heap_number ≢ number = (λ e. (let many : 1 < number = (typed.kept number among).0 in let k : heap_number ≡ number = e in absurd (omega (arith, many, k)))) in
    typed_beside h regions (set regions number r) objects now (ap is_open (slice_get-set_other regions number heap_number r apart) ∙ typed.heap) (λ n among held. kept n among now held)
    (let same : length (set regions number r) ≡ length regions = length-set regions number r in let few : length regions ≤ length (set regions number r) = omega (arith, same) in few)
  where
    kept : (n : ℕ) → IsAmong n g.kept → IsTyped (giving g (Some (KeyOf number)) Nobody) regions objects → IsHeld (given (Some (KeyOf number)) Nobody g.own (KeyOf n)) → IsDynamic (slice_get (set regions number r) n)
    kept n among now held = elim (same_or_other n number) [
      | inl same ↦ absurd (subst (λ h. IsHeld h) (when_equal n number Nobody (g.own (KeyOf n)) same) held)
      | inr other ↦ subst (λ z. IsDynamic z) (sym (slice_get-set_other regions number n r other)) ((now.kept n among).1 held)
    ]

-- The typing of the heap state with one more dynamic region; the holder (operand, cell or loan) that owns the region's key is given.
abbrev pub with_kept : Typing → ℕ → Holder → Typing
with_kept g number holder = record g { kept = number ∷ g.kept; own = given (Some (KeyOf number)) holder g.own }

pub kept_grows : (g : Typing) (number : ℕ) (holder : Holder) → Grows g (with_kept g number holder)
kept_grows g number holder = record {
  objects = λ n t is. is;
  filled = λ n count is. is;
  fields = λ n ls ts is. is;
  kept = λ n is. following number g.kept is;
}

pub kept_typed : (g : Typing) (regions : List Region) (objects : List Object) (holder : Holder) → 1 < length regions → IsTyped g regions objects → IsTyped (with_kept g (length regions) holder) (regions ++ new_region Dynamic ∷ []) objects
kept_typed g regions objects holder many typed =
    let more : IsTyped g (regions ++ new_region Dynamic ∷ []) objects = opened_typed g regions (new_region Dynamic ∷ []) objects typed in
    record { count = typed.count; counts = typed.counts; each = each; heap = more.heap; kept = λ n among. kept n (length regions) among refl more; fresh = fresh; unique = typed.unique; owned = owned; lent = lent }
  where
    h : Typing
    h = with_kept g (length regions) holder

    none : g.own (KeyOf (length regions)) ≡ Nobody
    none = typed.fresh (length regions) (let le : length regions ≤ length regions = omega arith in le)

    each : (number : ℕ) (t : ObjectType) → slice_get g.objects number ≡ Some t
        → (x : Object) × (m : ℕ) × (slice_get objects number ≡ Some x) × (slice_get g.filled number ≡ Some m) × IsObject h m t x
    each number t there = let (x, m, at, flag, is) = typed.each number t there in
        (x, m, at, flag, object_grown g h (kept_grows g (length regions) holder) m t x is)

    owned : (n : ℕ) (t : ObjectType) (x : Object) → slice_get g.objects n ≡ Some t → slice_get objects n ≡ Some x → AreOwned h n t x.cells
    owned n t x there stands i u c v is cell at content =
        claims_kept Nobody g (giving g (Some (KeyOf (length regions))) holder) (giving_changed g (Some (KeyOf (length regions))) Nobody holder none) (At n i) u v (at_some n i) (typed.owned n t x there stands i u c v is cell at content)

    lent : (n : ℕ) (t : ObjectType) (x : Object) → slice_get g.objects n ≡ Some t → slice_get objects n ≡ Some x → AreLent h n t x.cells
    lent n t x there stands i j u c v away hides cell at content =
        claims_kept Nobody g (giving g (Some (KeyOf (length regions))) holder) (giving_changed g (Some (KeyOf (length regions))) Nobody holder none) (Lent j n) u v (lent_some j n) (typed.lent n t x there stands i j u c v away hides cell at content)

    kept : (n k : ℕ) → IsAmong n (k ∷ g.kept) → k ≡ length regions → IsTyped g (regions ++ new_region Dynamic ∷ []) objects → (1 < n) × (IsHeld (h.own (KeyOf n)) → IsDynamic (slice_get (regions ++ new_region Dynamic ∷ []) n))
    kept n k (newest ms) same more = (
      (let less : 1 < n = omega (arith, same, many) in less),
      λ held. subst (λ i. IsDynamic (slice_get (regions ++ new_region Dynamic ∷ []) i)) (sym same)
          (subst (λ z. IsDynamic z) (sym (slice_get_last regions (new_region Dynamic))) (refl, refl)),
    )
    kept n k (following m ms among) same more = (
      (more.kept n among).0,
      λ held. elim (same_or_other n (length regions)) [
        | inl here ↦ subst (λ i. IsDynamic (slice_get (regions ++ new_region Dynamic ∷ []) i)) (sym here) (subst (λ z. IsDynamic z) (sym (slice_get_last regions (new_region Dynamic))) (refl, refl))
        | inr apart ↦ (more.kept n among).1 (subst (λ z. IsHeld z) (other_number n (length regions) holder (g.own (KeyOf n)) apart) held)
      ],
    )

    fresh : (n : ℕ) → length (regions ++ new_region Dynamic ∷ []) ≤ n → h.own (KeyOf n) ≡ Nobody
    fresh n less =
        let all : length (regions ++ new_region Dynamic ∷ []) ≡ length regions + 1 = length-append regions (new_region Dynamic ∷ []) in
        let apart : n ≢ length regions = (λ e. absurd (omega (arith, e, less, all))) in
        other_number n (length regions) holder (g.own (KeyOf n)) apart ∙ typed.fresh n (let few : length regions ≤ n = omega (arith, less, all) in few)
