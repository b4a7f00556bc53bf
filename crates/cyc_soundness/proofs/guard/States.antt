-- This file defines the flow states of the rules and their meaning in proofs about runs: a lent local holds a value.
use Rattle.std.proofs.Common.{◌≡◌, ◌⊎◌, ℕ, zero, suc, Bool, true, false, cond, not, ◌||◌, nat_eq, List, [], ◌∷◌, get_or, slice_set, inl, inr, refl, sym, ap, subst, ◌∙◌}
use Rattle.std.proofs.lemmas.Bool.{and_parts}
use Rattle.std.proofs.lemmas.List.{get_or-set_other}
use Rattle.cyc_types.specs.flow.States.{Fullness, Vacant, Locked, Full, State, Unreached, Reached, lower, lower_each, meet, is_as_full, are_as_full, is_at_least, fullness, with_fullness, with_each, is_vacant, is_locked, emptied}
use Rattle.cyc_soundness.specs.inside.guard.Held.{Held, Never, Holds, IsAtLeast, updated, with_held}
use Rattle.cyc_soundness.proofs.guard.Bools.{Reflects, same, other, reflects, has, updated_same, updated_true}

abbrev pub is_full : List Fullness → ℕ → Bool
is_full as' n = not (is_vacant (get_or as' n Vacant))

abbrev pub held_of : State → Held
held_of Unreached = Never
held_of (Reached as') = Holds (is_full as')

-- ---- changing one local of a list

-- After the state of a local is changed in a list of states, the list has the new state for this local, or has no element for this local.
pub set_here : (as' : List Fullness) (n : ℕ) (a : Fullness) → (get_or (slice_set as' n a) n Vacant ≡ a) ⊎ (get_or (slice_set as' n a) n Vacant ≡ get_or as' n Vacant)
set_here [] n a = inr refl
set_here (b ∷ bs) zero a = inl refl
set_here (b ∷ bs) (suc n) a = set_here bs n a

pub set_there : (as' : List Fullness) (n : ℕ) (a : Fullness) → is_vacant (get_or as' n Vacant) ≡ false → get_or (slice_set as' n a) n Vacant ≡ a
set_there [] n a h = absurd (cc)
set_there (b ∷ bs) zero a h = refl
set_there (b ∷ bs) (suc n) a h = set_there bs n a h

pub set_vacant : (as' : List Fullness) (n : ℕ) → get_or (slice_set as' n Vacant) n Vacant ≡ Vacant
set_vacant [] n = refl
set_vacant (b ∷ bs) zero = refl
set_vacant (b ∷ bs) (suc n) = set_vacant bs n

pub set_other : (as' : List Fullness) (n : ℕ) (a : Fullness) (m : ℕ) → (m ≡ n → ⊥) → get_or (slice_set as' n a) m Vacant ≡ get_or as' m Vacant
set_other as' n a m h = get_or-set_other as' n m a Vacant h

-- After the state of one local is changed, every local either is the changed local and has the new state, or has its old state.
pub set_at : (as' : List Fullness) (n : ℕ) (a : Fullness) (m : ℕ) → ((n ≡ m) × (get_or (slice_set as' n a) m Vacant ≡ a)) ⊎ (get_or (slice_set as' n a) m Vacant ≡ get_or as' m Vacant)
set_at as' n a m = go (nat_eq n m) (reflects n m)
  where
    here : (get_or (slice_set as' n a) n Vacant ≡ a) ⊎ (get_or (slice_set as' n a) n Vacant ≡ get_or as' n Vacant)
        → ((n ≡ n) × (get_or (slice_set as' n a) n Vacant ≡ a)) ⊎ (get_or (slice_set as' n a) n Vacant ≡ get_or as' n Vacant)
    here (inl e) = inl (refl, e)
    here (inr e) = inr e

    go : (t : Bool) → Reflects n m t → ((n ≡ m) × (get_or (slice_set as' n a) m Vacant ≡ a)) ⊎ (get_or (slice_set as' n a) m Vacant ≡ get_or as' m Vacant)
    go true (same e) = subst (λ k. ((n ≡ k) × (get_or (slice_set as' n a) k Vacant ≡ a)) ⊎ (get_or (slice_set as' n a) k Vacant ≡ get_or as' k Vacant)) e (here (set_here as' n a))
    go false (other h) = inr (set_other as' n a m h)

-- ---- the lower of two states

lower_vacant : (a : Fullness) → lower a Vacant ≡ Vacant
lower_vacant Vacant = refl
lower_vacant Locked = refl
lower_vacant Full = refl

pub lower_at : (as' bs : List Fullness) (n : ℕ) → get_or (lower_each as' bs) n Vacant ≡ lower (get_or as' n Vacant) (get_or bs n Vacant)
lower_at [] bs n = refl
lower_at (a ∷ as') [] n = sym (lower_vacant (get_or (a ∷ as') n Vacant))
lower_at (a ∷ as') (b ∷ bs) zero = refl
lower_at (a ∷ as') (b ∷ bs) (suc n) = lower_at as' bs n

full_left : (a b : Fullness) → not (is_vacant (lower a b)) ≡ true → not (is_vacant a) ≡ true
full_left Vacant b h = h
full_left Locked b h = refl
full_left Full b h = refl

full_right : (a b : Fullness) → not (is_vacant (lower a b)) ≡ true → not (is_vacant b) ≡ true
full_right Vacant b h = absurd (cc)
full_right Locked Vacant h = h
full_right Locked Locked h = refl
full_right Locked Full h = refl
full_right Full b h = h

-- ---- the order on facts

pub at_least_same : (f : Held) → IsAtLeast f f
at_least_same Never = tt
at_least_same (Holds f) = λ n h. h

pub at_least_trans : (f g h : Held) → IsAtLeast f g → IsAtLeast g h → IsAtLeast f h
at_least_trans Never g h x y = tt
at_least_trans (Holds f) Never h x y = absurd x
at_least_trans (Holds f) (Holds g) Never x y = y
at_least_trans (Holds f) (Holds g) (Holds h) x y = λ n k. x n (y n k)

pub meet_left : (f g : State) → IsAtLeast (held_of f) (held_of (meet f g))
meet_left Unreached g = tt
meet_left (Reached as') Unreached = λ n h. h
meet_left (Reached as') (Reached bs) = λ n h. full_left (get_or as' n Vacant) (get_or bs n Vacant) (subst (λ x. not (is_vacant x) ≡ true) (lower_at as' bs n) h)

pub meet_right : (f g : State) → IsAtLeast (held_of g) (held_of (meet f g))
meet_right Unreached g = at_least_same (held_of g)
meet_right (Reached as') Unreached = tt
meet_right (Reached as') (Reached bs) = λ n h. full_right (get_or as' n Vacant) (get_or bs n Vacant) (subst (λ x. not (is_vacant x) ≡ true) (lower_at as' bs n) h)

full_enough : (a b : Fullness) → is_as_full a b ≡ true → not (is_vacant b) ≡ true → not (is_vacant a) ≡ true
full_enough Vacant Vacant h k = k
full_enough Vacant Locked h k = absurd (cc)
full_enough Vacant Full h k = absurd (cc)
full_enough Locked b h k = refl
full_enough Full b h k = refl

each_enough : (as' bs : List Fullness) → are_as_full as' bs ≡ true → (n : ℕ) → is_full bs n ≡ true → is_full as' n ≡ true
each_enough [] [] h n k = k
each_enough [] (b ∷ bs) h n k = absurd (cc)
each_enough (a ∷ as') [] h n k = absurd (cc)
each_enough (a ∷ as') (b ∷ bs) h zero k = full_enough a b (and_parts (is_as_full a b) (are_as_full as' bs) h).0 k
each_enough (a ∷ as') (b ∷ bs) h (suc n) k = each_enough as' bs (and_parts (is_as_full a b) (are_as_full as' bs) h).1 n k

-- If the flow rules' test says that a flow state is at least a second one, then it has all facts about locals of the second one.
pub tested : (f g : State) → is_at_least f g ≡ true → IsAtLeast (held_of f) (held_of g)
tested Unreached g h = tt
tested (Reached as') Unreached h = absurd (cc)
tested (Reached as') (Reached bs) h = each_enough as' bs h

-- ---- a change of one local

pub filled_at_least : (f : State) (n : ℕ) → IsAtLeast (with_held true (held_of f) n) (held_of (with_fullness Full f n))
filled_at_least Unreached n = tt
filled_at_least (Reached as') n = λ m h. go m h (set_at as' n Full m)
  where
    go : (m : ℕ) → is_full (slice_set as' n Full) m ≡ true → ((n ≡ m) × (get_or (slice_set as' n Full) m Vacant ≡ Full)) ⊎ (get_or (slice_set as' n Full) m Vacant ≡ get_or as' m Vacant)
        → updated (is_full as') n true m ≡ true
    go m h (inl (e, k)) = updated_same (is_full as') n true m e
    go m h (inr k) = updated_true (is_full as') n m (subst (λ x. not (is_vacant x) ≡ true) k h)

pub emptied_at_least : (f : State) (n : ℕ) → IsAtLeast (with_held false (held_of f) n) (held_of (with_fullness Vacant f n))
emptied_at_least Unreached n = tt
emptied_at_least (Reached as') n = λ m h. go m h (nat_eq n m) (reflects n m)
  where
    gone : (m : ℕ) → n ≡ m → is_full (slice_set as' n Vacant) m ≡ true → ⊥
    gone m e h =
        let k : is_full (slice_set as' n Vacant) n ≡ true = subst (λ x. is_full (slice_set as' n Vacant) x ≡ true) (sym e) h in
        let l : not (is_vacant Vacant) ≡ true = subst (λ x. not (is_vacant x) ≡ true) (set_vacant as' n) k in
        absurd (cc)

    go : (m : ℕ) → is_full (slice_set as' n Vacant) m ≡ true → (t : Bool) → Reflects n m t → cond t false (is_full as' m) ≡ true
    go m h true (same e) = absurd (gone m e h)
    go m h false (other k) = subst (λ x. not (is_vacant x) ≡ true) (set_other as' n Vacant m k) h

-- The flow facts after one local, which holds a value, is lent and another local is declared.
pub lent_at_least : (f : State) (n m : ℕ) → not (is_vacant (fullness f m)) ≡ true → IsAtLeast (with_held true (held_of f) n) (held_of (with_fullness Full (with_fullness Locked f m) n))
lent_at_least Unreached n m s = tt
lent_at_least (Reached as') n m s = λ k h. outer k h (set_at (slice_set as' m Locked) n Full k)
  where
    still : (k : ℕ) → is_full (slice_set as' m Locked) k ≡ true
        → ((m ≡ k) × (get_or (slice_set as' m Locked) k Vacant ≡ Locked)) ⊎ (get_or (slice_set as' m Locked) k Vacant ≡ get_or as' k Vacant) → is_full as' k ≡ true
    still k h (inl (e, l)) = subst (λ x. is_full as' x ≡ true) e s
    still k h (inr l) = subst (λ x. not (is_vacant x) ≡ true) l h

    outer : (k : ℕ) → is_full (slice_set (slice_set as' m Locked) n Full) k ≡ true
        → ((n ≡ k) × (get_or (slice_set (slice_set as' m Locked) n Full) k Vacant ≡ Full)) ⊎ (get_or (slice_set (slice_set as' m Locked) n Full) k Vacant ≡ get_or (slice_set as' m Locked) k Vacant)
        → updated (is_full as') n true k ≡ true
    outer k h (inl (e, l)) = updated_same (is_full as') n true k e
    outer k h (inr l) = updated_true (is_full as') n k (still k (subst (λ x. not (is_vacant x) ≡ true) l h) (set_at as' m Locked k))

-- ---- emptying several locals

abbrev pub emptied_one : (touched : Bool) → Fullness → Fullness
emptied_one false a = a
emptied_one true Vacant = Vacant
emptied_one true Locked = Locked
emptied_one true Full = Vacant

locked_stays : (x y : Bool) (a : Fullness) → is_locked a ≡ true → emptied_one x a ≡ emptied_one y a
locked_stays x y Vacant h = absurd (cc)
locked_stays true true Locked h = refl
locked_stays true false Locked h = refl
locked_stays false true Locked h = refl
locked_stays false false Locked h = refl
locked_stays x y Full h = absurd (cc)

pub unlocked_goes : (a : Fullness) → is_locked a ≡ false → emptied_one true a ≡ Vacant
unlocked_goes Vacant h = refl
unlocked_goes Locked h = absurd (cc)
unlocked_goes Full h = refl

vacant_stays : (x : Bool) → emptied_one x Vacant ≡ Vacant
vacant_stays true = refl
vacant_stays false = refl

pub emptied_never : (ts : List ℕ) → emptied ts Unreached ≡ Unreached
emptied_never [] = refl
emptied_never (t ∷ ts) = emptied_never ts

-- The flow state after several locals were emptied.
pub record Emptied (ts : List ℕ) (as' : List Fullness) (f : State) : Type 0 where
  pub left : List Fullness
  pub is : f ≡ Reached left
  pub at : (n : ℕ) → get_or left n Vacant ≡ emptied_one (has ts n) (get_or as' n Vacant)

module _ (t : ℕ) (ts : List ℕ) (as' : List Fullness) where
  emptied_kept : (n : ℕ) (b : Bool) → Reflects t n b → is_locked (get_or as' t Vacant) ≡ true → emptied_one (has ts n) (get_or as' n Vacant) ≡ emptied_one (b || has ts n) (get_or as' n Vacant)
  emptied_kept n true (same e) l = locked_stays (has ts n) true (get_or as' n Vacant) (subst (λ k. is_locked (get_or as' k Vacant) ≡ true) e l)
  emptied_kept n false (other h) l = refl

  emptied_taken : (n : ℕ) (b : Bool) → Reflects t n b → is_locked (get_or as' t Vacant) ≡ false
      → emptied_one (has ts n) (get_or (slice_set as' t Vacant) n Vacant) ≡ emptied_one (b || has ts n) (get_or as' n Vacant)
  emptied_taken n true (same e) l =
      let here : get_or (slice_set as' t Vacant) n Vacant ≡ Vacant = subst (λ k. get_or (slice_set as' t Vacant) k Vacant ≡ Vacant) e (set_vacant as' t) in
      ap (emptied_one (has ts n)) here ∙ vacant_stays (has ts n) ∙ sym (unlocked_goes (get_or as' n Vacant) (subst (λ k. is_locked (get_or as' k Vacant) ≡ false) e l))
  emptied_taken n false (other h) l = ap (emptied_one (has ts n)) (set_other as' t Vacant n h)

  emptied_step : ((bs : List Fullness) → Emptied ts bs (emptied ts (Reached bs))) → (b : Bool) → is_locked (get_or as' t Vacant) ≡ b
      → Emptied (t ∷ ts) as' (emptied ts (cond b (Reached as') (Reached (slice_set as' t Vacant))))
  emptied_step rest true l =
      let r : Emptied ts as' (emptied ts (Reached as')) = rest as' in
      record { left = r.left; is = r.is; at = λ n. r.at n ∙ emptied_kept n (nat_eq t n) (reflects t n) l }
  emptied_step rest false l =
      let r : Emptied ts (slice_set as' t Vacant) (emptied ts (Reached (slice_set as' t Vacant))) = rest (slice_set as' t Vacant) in
      record { left = r.left; is = r.is; at = λ n. r.at n ∙ emptied_taken n (nat_eq t n) (reflects t n) l }

pub emptied_at : (ts : List ℕ) (as' : List Fullness) → Emptied ts as' (emptied ts (Reached as'))
emptied_at [] as' = record { left = as'; is = refl; at = λ n. refl }
emptied_at (t ∷ ts) as' = emptied_step t ts as' (λ bs. emptied_at ts bs) (is_locked (get_or as' t Vacant)) refl

-- ---- several locals become full again

pub refilled_never : (ls : List ℕ) → with_each Full ls Unreached ≡ Unreached
refilled_never [] = refl
refilled_never (l ∷ ls) = refilled_never ls

pub record Refilled (ls : List ℕ) (as' : List Fullness) (f : State) : Type 0 where
  pub left : List Fullness
  pub is : f ≡ Reached left
  pub full : (n : ℕ) → has ls n ≡ true → is_vacant (get_or as' n Vacant) ≡ false → get_or left n Vacant ≡ Full
  pub rest : (n : ℕ) → has ls n ≡ false → get_or left n Vacant ≡ get_or as' n Vacant

module _ (l : ℕ) (ls : List ℕ) (as' : List Fullness) (f : State) (r : Refilled ls (slice_set as' l Full) f) where
  refilled_here : (n : ℕ) → l ≡ n → is_vacant (get_or as' n Vacant) ≡ false → get_or (slice_set as' l Full) n Vacant ≡ Full
  refilled_here n e v = subst (λ k. is_vacant (get_or as' k Vacant) ≡ false → get_or (slice_set as' l Full) k Vacant ≡ Full) e (set_there as' l Full) v

  refilled_rest : (n : ℕ) (b : Bool) → has ls n ≡ b → get_or (slice_set as' l Full) n Vacant ≡ Full → get_or r.left n Vacant ≡ Full
  refilled_rest n true h e = r.full n h (ap is_vacant e)
  refilled_rest n false h e = r.rest n h ∙ e

  refilled_full : (n : ℕ) (b : Bool) → Reflects l n b → (b || has ls n) ≡ true → is_vacant (get_or as' n Vacant) ≡ false → get_or r.left n Vacant ≡ Full
  refilled_full n true (same e) h v = refilled_rest n (has ls n) refl (refilled_here n e v)
  refilled_full n false (other k) h v = r.full n h (ap is_vacant (set_other as' l Full n k) ∙ v)

  refilled_other : (n : ℕ) (b : Bool) → Reflects l n b → (b || has ls n) ≡ false → get_or r.left n Vacant ≡ get_or as' n Vacant
  refilled_other n true (same e) h = absurd (cc)
  refilled_other n false (other k) h = r.rest n h ∙ set_other as' l Full n k

  refilled_step : Refilled (l ∷ ls) as' f
  refilled_step = record { left = r.left; is = r.is; full = λ n h v. refilled_full n (nat_eq l n) (reflects l n) h v; rest = λ n h. refilled_other n (nat_eq l n) (reflects l n) h }

pub refilled_at : (ls : List ℕ) (as' : List Fullness) → Refilled ls as' (with_each Full ls (Reached as'))
refilled_at [] as' = record { left = as'; is = refl; full = λ n h v. absurd (cc); rest = λ n h. refl }
refilled_at (l ∷ ls) as' = refilled_step l ls as' (with_each Full ls (Reached (slice_set as' l Full))) (refilled_at ls (slice_set as' l Full))
