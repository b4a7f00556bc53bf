-- This file defines when a flow state matches a guard (sets of locked, relied-on and peeked locals). In a matching flow state, exactly the
-- guard's locked locals are locked, and all locals on which the guard relies hold values. In unreachable code (`never`), nothing more is
-- known about locals.
use Rattle.std.proofs.Common.{◌≡◌, ◌⊎◌, ℕ, Bool, true, false, cond, not, ◌||◌, nat_eq, List, [], ◌∷◌, ◌++◌, Option, Some, None, get_or, slice_set, inl, inr, refl, sym, ap, subst, ◌∙◌}
use Rattle.std.proofs.lemmas.Bool.{not-true, not_from_false}
use Rattle.cyc_words.proofs.Booleans.{or_false_right, or_true_right, or_assoc, false_from_false}
use Rattle.cyc_types.specs.flow.States.{Fullness, Vacant, Locked, Full, State, Unreached, Reached, lower, meet, fullness, with_fullness, with_each, is_vacant, is_locked, emptied}
use Rattle.cyc_soundness.specs.inside.guard.Held.{Held, Holds, IsAtLeast, updated, Guard, peeking}
use Rattle.cyc_soundness.proofs.guard.Bools.{Reflects, same, other, reflects, has, has_append}
use Rattle.cyc_soundness.proofs.guard.States.{is_full, held_of, set_there, set_other, set_at, lower_at, at_least_trans, emptied_one, emptied_never, Emptied, emptied_at, refilled_never, Refilled, refilled_at}

abbrev pub FitsAt : Guard → ℕ → Fullness → Type 0
FitsAt p n a = (is_locked a ≡ p.locked n) × (p.relied n ≡ true → is_vacant a ≡ false)

abbrev pub FitsEach : Guard → List Fullness → Type 0
FitsEach p as' = (n : ℕ) → FitsAt p n (get_or as' n Vacant)

abbrev pub Fits : Guard → (never : Bool) → State → Type 0
Fits p true f = f ≡ Unreached
Fits p false Unreached = Unit {0}
Fits p false (Reached as') = FitsEach p as'

-- Says that every touched local (one that code consumes, lends or assigns) is locked if the guard relies on its value.
abbrev pub Rests : Guard → (touched : List ℕ) → Type 0
Rests p ns = (n : ℕ) → p.relied n ≡ true → has ns n ≡ true → p.locked n ≡ true

pub fits_never : (p : Guard) (e : Bool) → Fits p e Unreached
fits_never p true = refl
fits_never p false = tt

-- ---- a change of one local

pub fits_set : (p : Guard) (as' : List Fullness) (n : ℕ) (a : Fullness) → FitsEach p as' → FitsAt p n a → FitsEach p (slice_set as' n a)
fits_set p as' n a h k m = go (set_at as' n a m)
  where
    go : ((n ≡ m) × (get_or (slice_set as' n a) m Vacant ≡ a)) ⊎ (get_or (slice_set as' n a) m Vacant ≡ get_or as' m Vacant) → FitsAt p m (get_or (slice_set as' n a) m Vacant)
    go (inl (e, g)) = subst (FitsAt p m) (sym g) (subst (λ i. FitsAt p i a) e k)
    go (inr g) = subst (FitsAt p m) (sym g) (h m)

pub full_fits : (p : Guard) (n : ℕ) → p.locked n ≡ false → FitsAt p n Full
full_fits p n h = (sym h, λ s. refl)

pub vacant_fits : (p : Guard) (n : ℕ) → p.locked n ≡ false → p.relied n ≡ false → FitsAt p n Vacant
vacant_fits p n h k = (sym h, λ s. absurd (cc))

-- If the rules require that a local is not locked, then the guard does not lock it.
pub not_locked : (p : Guard) (as' : List Fullness) (n : ℕ) → FitsEach p as' → not (is_locked (get_or as' n Vacant)) ≡ true → p.locked n ≡ false
not_locked p as' n h k = sym (h n).0 ∙ not-true (is_locked (get_or as' n Vacant)) k

pub not_relied : (p : Guard) (n : ℕ) (ns : List ℕ) → Rests p ns → has ns n ≡ true → p.locked n ≡ false → p.relied n ≡ false
not_relied p n ns r h k = false_from_false (p.relied n) (p.locked n) (λ s. r n s h) k

-- Storing a value in an unlocked local preserves the match of the flow state with the guard (sets of locked, relied-on and peeked locals).
pub filled_fits : (p : Guard) (e : Bool) (f : State) (n : ℕ) → Fits p e f → p.locked n ≡ false → Fits p e (with_fullness Full f n)
filled_fits p true f n h k = ap (λ x. with_fullness Full x n) h
filled_fits p false Unreached n h k = tt
filled_fits p false (Reached as') n h k = fits_set p as' n Full h (full_fits p n k)

-- Emptying an unlocked local on which nothing relies preserves the match of the flow state with the
-- guard (sets of locked, relied-on and peeked locals).
pub vacated_fits : (p : Guard) (e : Bool) (f : State) (n : ℕ) → Fits p e f → p.locked n ≡ false → p.relied n ≡ false → Fits p e (with_fullness Vacant f n)
vacated_fits p true f n h k l = ap (λ x. with_fullness Vacant x n) h
vacated_fits p false Unreached n h k l = tt
vacated_fits p false (Reached as') n h k l = fits_set p as' n Vacant h (vacant_fits p n k l)

-- If the rules require that a touched (consumed, lent or assigned) local is unlocked, emptying it preserves
-- the flow state's match with the guard.
pub moved_out : (p : Guard) (e : Bool) (f : State) (n : ℕ) (ns : List ℕ) → Fits p e f → Rests p ns → has ns n ≡ true → not (is_locked (fullness f n)) ≡ true → Fits p e (with_fullness Vacant f n)
moved_out p true f n ns h r m k = ap (λ x. with_fullness Vacant x n) h
moved_out p false Unreached n ns h r m k = tt
moved_out p false (Reached as') n ns h r m k =
    let l : p.locked n ≡ false = not_locked p as' n h k in
    fits_set p as' n Vacant h (vacant_fits p n l (not_relied p n ns r m l))

pub put_in : (p : Guard) (e : Bool) (f : State) (n : ℕ) → Fits p e f → not (is_locked (fullness f n)) ≡ true → Fits p e (with_fullness Full f n)
put_in p true f n h k = ap (λ x. with_fullness Full x n) h
put_in p false Unreached n h k = tt
put_in p false (Reached as') n h k = fits_set p as' n Full h (full_fits p n (not_locked p as' n h k))

-- ---- joins of branches

fits_lower : (p : Guard) (n : ℕ) (a b : Fullness) → FitsAt p n a → FitsAt p n b → FitsAt p n (lower a b)
fits_lower p n Vacant b h k = h
fits_lower p n Locked Vacant h k = k
fits_lower p n Locked Locked h k = h
fits_lower p n Locked Full h k = h
fits_lower p n Full b h k = k

pub fits_meet : (p : Guard) (e : Bool) (f g : State) → Fits p e f → Fits p e g → Fits p e (meet f g)
fits_meet p true f g h k = ap (λ x. meet x g) h ∙ k
fits_meet p false Unreached g h k = k
fits_meet p false (Reached as') Unreached h k = h
fits_meet p false (Reached as') (Reached bs) h k = λ n. subst (FitsAt p n) (sym (lower_at as' bs n)) (fits_lower p n (get_or as' n Vacant) (get_or bs n Vacant) (h n) (k n))

-- ---- catch clauses

one_emptied : (p : Guard) (n : ℕ) (t : Bool) (a : Fullness) → FitsAt p n a → (p.relied n ≡ true → t ≡ true → p.locked n ≡ true) → FitsAt p n (emptied_one t a)
one_emptied p n false a h r = h
one_emptied p n true Vacant h r = h
one_emptied p n true Locked h r = h
one_emptied p n true Full h r = (h.0, λ s. (let e : p.locked n ≡ true = r s refl in let k : false ≡ p.locked n = h.0 in absurd (cc)))

pub emptied_fits : (p : Guard) (e : Bool) (ts : List ℕ) (f : State) → Fits p e f → Rests p ts → Fits p e (emptied ts f)
emptied_fits p true ts f h r = ap (emptied ts) h ∙ emptied_never ts
emptied_fits p false ts Unreached h r = subst (Fits p false) (sym (emptied_never ts)) tt
emptied_fits p false ts (Reached as') h r =
    let x : Emptied ts as' (emptied ts (Reached as')) = emptied_at ts as' in
    subst (Fits p false) (sym x.is) (λ n. subst (FitsAt p n) (sym (x.at n)) (one_emptied p n (has ts n) (get_or as' n Vacant) (h n) (r n)))

-- ---- inner guards

-- Says that the inner guard locks the locals of the given list in addition to the locals that the outer guard locks.
abbrev pub LeavesAt : (listed : Bool) → (inner outer : Guard) → ℕ → Type 0
LeavesAt b p o n = (p.locked n ≡ (o.locked n || b)) × (b ≡ true → o.locked n ≡ false) × (o.relied n ≡ true → p.relied n ≡ true)

abbrev pub Leaves : List ℕ → Guard → Bool → Guard → Bool → Type 0
Leaves ls p true o d = Unit {0}
Leaves ls p false o true = ⊥
Leaves ls p false o false = (n : ℕ) → LeavesAt (has ls n) p o n

pub leaves_none : (p : Guard) (e : Bool) → Leaves [] p e p e
leaves_none p true = tt
leaves_none p false = λ n. (sym (or_false_right (p.locked n)), λ h. absurd (cc), λ s. s)

composed_lock : (w0 w1 h1 h2 : Bool) → w1 ≡ (w0 || h1) → (h1 ≡ true → w0 ≡ false) → (h2 ≡ true → w1 ≡ false) → (h1 || h2) ≡ true → w0 ≡ false
composed_lock w0 w1 true h2 a b c h = b refl
composed_lock true w1 false h2 a b c h = let e : w1 ≡ false = c h in absurd (cc)
composed_lock false w1 false h2 a b c h = refl

leaves_both : (l1 l2 : List ℕ) (p q o : Guard) (n : ℕ) → LeavesAt (has l1 n) p o n → LeavesAt (has l2 n) q p n → LeavesAt (has (l1 ++ l2) n) q o n
leaves_both l1 l2 p q o n x y =
    subst (λ b. LeavesAt b q o n) (sym (has_append l1 l2 n))
    (y.0 ∙ ap (λ t. t || has l2 n) x.0 ∙ or_assoc (o.locked n) (has l1 n) (has l2 n), λ h. composed_lock (o.locked n) (p.locked n) (has l1 n) (has l2 n) x.0 x.1 y.1 h, λ s. y.2 (x.2 s))

pub leaves_append : (l1 l2 : List ℕ) (p : Guard) (e : Bool) (q : Guard) (i : Bool) (o : Guard) (d : Bool) → Leaves l1 p e o d → Leaves l2 q i p e → Leaves (l1 ++ l2) q i o d
leaves_append l1 l2 p e q true o d x y = tt
leaves_append l1 l2 p true q false o d x y = absurd y
leaves_append l1 l2 p false q false o true x y = absurd x
leaves_append l1 l2 p false q false o false x y = λ n. leaves_both l1 l2 p q o n (x n) (y n)

locked_full : (a : Fullness) → is_locked a ≡ true → is_vacant a ≡ false
locked_full Vacant h = absurd (cc)
locked_full Locked h = refl
locked_full Full h = refl

-- The locals of the given list, which the inner guard locks, are locked in the flow state of the inner guard.
module _ (ls : List ℕ) (p o : Guard) (as' : List Fullness) (x : (n : ℕ) → LeavesAt (has ls n) p o n) (h : FitsEach p as') where
  listed_full : (n : ℕ) → has ls n ≡ true → is_vacant (get_or as' n Vacant) ≡ false
  listed_full n l =
      locked_full (get_or as' n Vacant) ((h n).0 ∙ (x n).0 ∙ ap (λ t. o.locked n || t) l ∙ or_true_right (o.locked n))

  again_fits : (bs : List Fullness) → ((n : ℕ) → has ls n ≡ true → is_vacant (get_or as' n Vacant) ≡ false → get_or bs n Vacant ≡ Full)
      → ((n : ℕ) → has ls n ≡ false → get_or bs n Vacant ≡ get_or as' n Vacant) → FitsEach o bs
  again_fits bs full rest n = go (has ls n) refl
    where
      go : (b : Bool) → has ls n ≡ b → FitsAt o n (get_or bs n Vacant)
      go true l = subst (FitsAt o n) (sym (full n l (listed_full n l))) (full_fits o n ((x n).1 l))
      go false l =
          subst (FitsAt o n) (sym (rest n l)) ((h n).0 ∙ (x n).0 ∙ ap (λ t. o.locked n || t) l ∙ or_false_right (o.locked n), λ s. (h n).1 ((x n).2 s))

  again_full : (bs : List Fullness) → ((n : ℕ) → has ls n ≡ false → get_or bs n Vacant ≡ get_or as' n Vacant) → (n : ℕ) → is_full bs n ≡ true → is_full as' n ≡ true
  again_full bs rest n = go (has ls n) refl
    where
      go : (b : Bool) → has ls n ≡ b → is_full bs n ≡ true → is_full as' n ≡ true
      go true l k = not_from_false (is_vacant (get_or as' n Vacant)) (listed_full n l)
      go false l k = subst (λ a. not (is_vacant a) ≡ true) (rest n l) k

-- When the loans of the given locals end, these locals are full again: they hold values that are not lent.
pub unlocked : (ls : List ℕ) (p : Guard) (e : Bool) (o : Guard) (d : Bool) (f : State) → Leaves ls p e o d → Fits p e f → Fits o d (with_each Full ls f)
unlocked ls p true o d f x h = subst (Fits o d) (sym (ap (with_each Full ls) h ∙ refilled_never ls)) (fits_never o d)
unlocked ls p false o true f x h = absurd x
unlocked ls p false o false Unreached x h = subst (Fits o false) (sym (refilled_never ls)) tt
unlocked ls p false o false (Reached as') x h =
    let r : Refilled ls as' (with_each Full ls (Reached as')) = refilled_at ls as' in
    subst (Fits o false) (sym r.is) (again_fits ls p o as' x h r.left r.full r.rest)

still_known : (ls : List ℕ) (p : Guard) (e : Bool) (o : Guard) (d : Bool) (f : State) → Leaves ls p e o d → Fits p e f → IsAtLeast (held_of f) (held_of (with_each Full ls f))
still_known ls p true o d f x h = subst (λ g. IsAtLeast (held_of g) (held_of (with_each Full ls g))) (sym h) tt
still_known ls p false o true f x h = absurd x
still_known ls p false o false Unreached x h = tt
still_known ls p false o false (Reached as') x h =
    let r : Refilled ls as' (with_each Full ls (Reached as')) = refilled_at ls as' in
    subst (λ g. IsAtLeast (Holds (is_full as')) (held_of g)) (sym r.is) (again_full ls p o as' x h r.left r.rest)

-- The end of the loans of locals adds no facts about which locals hold values.
pub unlocked_at_least : (ls : List ℕ) (p : Guard) (e : Bool) (o : Guard) (d : Bool) (f : State) (g : Held) → Leaves ls p e o d → Fits p e f
    → IsAtLeast (held_of (with_each Full ls f)) g → IsAtLeast (held_of f) g
unlocked_at_least ls p e o d f g x h k = at_least_trans (held_of f) (held_of (with_each Full ls f)) g (still_known ls p e o d f x h) k

-- ---- loans

abbrev pub lending : ℕ → Guard → Guard
lending m p = record p { locked = updated p.locked m true }

leaves_lent : (p : Guard) (m : ℕ) → p.locked m ≡ false → (n : ℕ) → LeavesAt (has (m ∷ []) n) (lending m p) p n
leaves_lent p m h n = go (nat_eq m n) (reflects m n)
  where
    go : (b : Bool) → Reflects m n b
        → (cond b true (p.locked n) ≡ (p.locked n || (b || false))) × ((b || false) ≡ true → p.locked n ≡ false) × (p.relied n ≡ true → p.relied n ≡ true)
    go true (same e) = (sym (or_true_right (p.locked n)), λ k. subst (λ i. p.locked i ≡ false) e h, λ s. s)
    go false (other k) = (sym (or_false_right (p.locked n)), λ l. absurd (cc), λ s. s)

-- The flow state after a declaration or statement that lends one local and declares another.
pub record Lent (p : Guard) (e : Bool) (m : ℕ) (f : State) : Type 0 where
  pub never : Bool
  pub leaves : Leaves (m ∷ []) (lending m p) never p e
  pub fits : Fits (lending m p) never f

fits_lent : (p : Guard) (as' : List Fullness) (m : ℕ) → FitsEach p as' → is_vacant (get_or as' m Vacant) ≡ false → FitsEach (lending m p) (slice_set as' m Locked)
fits_lent p as' m h v n = go (nat_eq m n) (reflects m n)
  where
    go : (b : Bool) → Reflects m n b → (is_locked (get_or (slice_set as' m Locked) n Vacant) ≡ cond b true (p.locked n)) × (p.relied n ≡ true → is_vacant (get_or (slice_set as' m Locked) n Vacant) ≡ false)
    go true (same e) =
        let l : get_or (slice_set as' m Locked) n Vacant ≡ Locked = subst (λ k. get_or (slice_set as' m Locked) k Vacant ≡ Locked) e (set_there as' m Locked v) in
        (ap is_locked l, λ s. ap is_vacant l)
    go false (other k) = subst (FitsAt p n) (sym (set_other as' m Locked n k)) (h n)

pub lent_filled : (p : Guard) (e : Bool) (n m : ℕ) (f : State) → Fits p e f → updated p.locked m true n ≡ false → not (is_vacant (fullness f m)) ≡ true → not (is_locked (fullness f m)) ≡ true
    → Lent p e m (with_fullness Full (with_fullness Locked f m) n)
lent_filled p true n m f h new v l = record { never = true; leaves = tt; fits = ap (λ x. with_fullness Full (with_fullness Locked x m) n) h }
lent_filled p false n m Unreached h new v l = record { never = true; leaves = tt; fits = refl }
lent_filled p false n m (Reached as') h new v l = record {
  never = false;
  leaves = leaves_lent p m (not_locked p as' m h l);
  fits = fits_set (lending m p) (slice_set as' m Locked) n Full (fits_lent p as' m h (not-true (is_vacant (get_or as' m Vacant)) v)) (full_fits (lending m p) n new);
}

-- ---- pending peeks

pub peeking_fits : (o : Option ℕ) (p : Guard) (e : Bool) (f : State) → Fits p e f → Fits (peeking o p) e f
peeking_fits None p e f h = h
peeking_fits (Some n) p true f h = h
peeking_fits (Some n) p false Unreached h = h
peeking_fits (Some n) p false (Reached as') h = h

pub peeking_rests : (o : Option ℕ) (p : Guard) (ns : List ℕ) → Rests p ns → Rests (peeking o p) ns
peeking_rests None p ns h = h
peeking_rests (Some n) p ns h = h
