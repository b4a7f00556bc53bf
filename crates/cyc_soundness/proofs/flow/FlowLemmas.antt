-- This file is about the flow states of locals: when one flow state implies another, and facts of a flow state that the flow rules
-- can only weaken.
use Rattle.std.proofs.Common.{◌≡◌, ℕ, zero, suc, Bool, true, false, not, List, [], ◌∷◌, ◌++◌, refl, sym, ap, subst, ◌∙◌}
use Rattle.std.specs.Prelude.{◌≢◌, get_or, slice_set, if◌then◌else◌}
use Rattle.std.proofs.lemmas.List.{get_or-set_other}
use Rattle.std.proofs.lemmas.Bool.{not-true, and_parts}
use Rattle.cyc_types.specs.flow.States.{Fullness, Vacant, Locked, Full, State, Unreached, Reached, lower, lower_each, meet, is_as_full, are_as_full, is_at_least, is_reached, fullness, with_fullness, with_each, is_vacant, is_locked, emptied}
use Rattle.cyc_soundness.specs.inside.Worlds.{IsAmong, first as newest, later as following, Typing}
use Rattle.cyc_soundness.specs.inside.Classes.{is_full}
use Rattle.cyc_soundness.specs.inside.Frames.{InScope, Variable, HoldsIts, IsSet, IsFullIn, AreSet, Holds, Implies}

pub implies_self : (f : State) → Implies f f
implies_self f = record { reached = λ h. h; set = λ n s. s; full = λ n s. s }

pub implies_after : (f g h : State) → Implies f g → Implies g h → Implies f h
implies_after f g h a b = record { reached = λ r. b.reached (a.reached r); set = λ n s. a.set n (b.set n s); full = λ n s. a.full n (b.full n s) }

pub unreached_implies : (f : State) → Implies Unreached f
unreached_implies f = record { reached = λ e. (let k : false ≡ true = e in absurd (cc)); set = λ n s. refl; full = λ n s. refl }

-- ---- meets of states

neither_vacant : (a b : Fullness) → is_vacant (lower a b) ≡ false → (is_vacant a ≡ false) × (is_vacant b ≡ false)
neither_vacant Vacant b e = absurd (let k : true ≡ false = e in cc)
neither_vacant Locked Vacant e = absurd (let k : true ≡ false = e in cc)
neither_vacant Locked Locked e = (refl, refl)
neither_vacant Locked Full e = (refl, refl)
neither_vacant Full b e = (refl, e)

each_set : (as' bs : List Fullness) (n : ℕ) → is_vacant (get_or (lower_each as' bs) n Vacant) ≡ false → (is_vacant (get_or as' n Vacant) ≡ false) × (is_vacant (get_or bs n Vacant) ≡ false)
each_set [] bs n e = absurd (let k : true ≡ false = e in cc)
each_set (a ∷ as') [] n e = absurd (let k : true ≡ false = e in cc)
each_set (a ∷ as') (b ∷ bs) zero e = neither_vacant a b e
each_set (a ∷ as') (b ∷ bs) (suc n) e = each_set as' bs n e

lower_full : (a b : Fullness) → is_full (lower a b) ≡ true → (is_full a ≡ true) × (is_full b ≡ true)
lower_full Vacant b e = absurd (let k : false ≡ true = e in cc)
lower_full Locked Vacant e = absurd (let k : false ≡ true = e in cc)
lower_full Locked Locked e = absurd (let k : false ≡ true = e in cc)
lower_full Locked Full e = absurd (let k : false ≡ true = e in cc)
lower_full Full b e = (refl, e)

each_full : (as' bs : List Fullness) (n : ℕ) → is_full (get_or (lower_each as' bs) n Vacant) ≡ true → (is_full (get_or as' n Vacant) ≡ true) × (is_full (get_or bs n Vacant) ≡ true)
each_full [] bs n e = absurd (let k : false ≡ true = e in cc)
each_full (a ∷ as') [] n e = absurd (let k : false ≡ true = e in cc)
each_full (a ∷ as') (b ∷ bs) zero e = lower_full a b e
each_full (a ∷ as') (b ∷ bs) (suc n) e = each_full as' bs n e

pub meet_first : (f g : State) → Implies f (meet f g)
meet_first Unreached g = unreached_implies g
meet_first (Reached as') Unreached = implies_self (Reached as')
meet_first (Reached as') (Reached bs) = record { reached = λ h. refl; set = λ n s. (each_set as' bs n s).0; full = λ n s. (each_full as' bs n s).0 }

pub meet_second : (f g : State) → Implies g (meet f g)
meet_second Unreached g = implies_self g
meet_second (Reached as') Unreached = unreached_implies (Reached as')
meet_second (Reached as') (Reached bs) = record { reached = λ h. refl; set = λ n s. (each_set as' bs n s).1; full = λ n s. (each_full as' bs n s).1 }

-- ---- loop heads

as_full_set : (a b : Fullness) → is_as_full a b ≡ true → is_vacant b ≡ false → is_vacant a ≡ false
as_full_set Vacant Vacant e s = s
as_full_set Vacant Locked e s = absurd (let k : false ≡ true = e in cc)
as_full_set Vacant Full e s = absurd (let k : false ≡ true = e in cc)
as_full_set Locked b e s = refl
as_full_set Full b e s = refl

all_full_set : (as' bs : List Fullness) (n : ℕ) → are_as_full as' bs ≡ true → is_vacant (get_or bs n Vacant) ≡ false → is_vacant (get_or as' n Vacant) ≡ false
all_full_set [] [] n e s = s
all_full_set [] (b ∷ bs) n e s = absurd (let k : false ≡ true = e in cc)
all_full_set (a ∷ as') [] n e s = absurd (let k : false ≡ true = e in cc)
all_full_set (a ∷ as') (b ∷ bs) zero e s = as_full_set a b (and_parts (is_as_full a b) (are_as_full as' bs) e).0 s
all_full_set (a ∷ as') (b ∷ bs) (suc n) e s = all_full_set as' bs n (and_parts (is_as_full a b) (are_as_full as' bs) e).1 s

as_full_too : (a b : Fullness) → is_as_full a b ≡ true → is_full b ≡ true → is_full a ≡ true
as_full_too a Vacant e s = absurd (let k : false ≡ true = s in cc)
as_full_too a Locked e s = absurd (let k : false ≡ true = s in cc)
as_full_too Vacant Full e s = absurd (let k : false ≡ true = e in cc)
as_full_too Locked Full e s = absurd (let k : false ≡ true = e in cc)
as_full_too Full Full e s = refl

all_full_too : (as' bs : List Fullness) (n : ℕ) → are_as_full as' bs ≡ true → is_full (get_or bs n Vacant) ≡ true → is_full (get_or as' n Vacant) ≡ true
all_full_too [] [] n e s = s
all_full_too [] (b ∷ bs) n e s = absurd (let k : false ≡ true = e in cc)
all_full_too (a ∷ as') [] n e s = absurd (let k : false ≡ true = e in cc)
all_full_too (a ∷ as') (b ∷ bs) zero e s = as_full_too a b (and_parts (is_as_full a b) (are_as_full as' bs) e).0 s
all_full_too (a ∷ as') (b ∷ bs) (suc n) e s = all_full_too as' bs n (and_parts (is_as_full a b) (are_as_full as' bs) e).1 s

pub at_least_implies : (f g : State) → is_at_least f g ≡ true → Implies f g
at_least_implies Unreached g e = unreached_implies g
at_least_implies (Reached as') Unreached e = absurd (let k : false ≡ true = e in cc)
at_least_implies (Reached as') (Reached bs) e = record { reached = λ h. refl; set = λ n s. all_full_set as' bs n e s; full = λ n s. all_full_too as' bs n e s }

-- ---- a change of one local

pub other_set : (a : Fullness) (f : State) (n m : ℕ) → m ≢ n → IsSet (with_fullness a f n) m → IsSet f m
other_set a Unreached n m other s = refl
other_set a (Reached as') n m other s = subst (λ z. is_vacant z ≡ false) (get_or-set_other as' n m a Vacant other) s

pub other_full : (a : Fullness) (f : State) (n m : ℕ) → m ≢ n → is_full (fullness (with_fullness a f n) m) ≡ true → is_full (fullness f m) ≡ true
other_full a Unreached n m other s = refl
other_full a (Reached as') n m other s = subst (λ z. is_full z ≡ true) (get_or-set_other as' n m a Vacant other) s

put_full : (a : Fullness) (as' : List Fullness) (n : ℕ) → is_full (get_or (slice_set as' n a) n Vacant) ≡ true → is_full a ≡ true
put_full a [] n s = absurd (let k : false ≡ true = s in cc)
put_full a (b ∷ as') zero s = s
put_full a (b ∷ as') (suc n) s = put_full a as' n s

pub full_put : (a : Fullness) (f : State) (n : ℕ) → is_reached f ≡ true → is_full (fullness (with_fullness a f n) n) ≡ true → is_full a ≡ true
full_put a Unreached n reached s = absurd (let k : false ≡ true = reached in cc)
full_put a (Reached as') n reached s = put_full a as' n s

pub reached_with : (a : Fullness) (f : State) (n : ℕ) → is_reached f ≡ true → is_reached (with_fullness a f n) ≡ true
reached_with a Unreached n h = h
reached_with a (Reached as') n h = refl

vacated : (as' : List Fullness) (n m : ℕ) → is_vacant (get_or (slice_set as' n Vacant) m Vacant) ≡ false → is_vacant (get_or as' m Vacant) ≡ false
vacated [] n m s = s
vacated (a ∷ as') zero zero s = absurd (let k : true ≡ false = s in cc)
vacated (a ∷ as') zero (suc m) s = s
vacated (a ∷ as') (suc n) zero s = s
vacated (a ∷ as') (suc n) (suc m) s = vacated as' n m s

vacated_full : (as' : List Fullness) (n m : ℕ) → is_full (get_or (slice_set as' n Vacant) m Vacant) ≡ true → is_full (get_or as' m Vacant) ≡ true
vacated_full [] n m s = s
vacated_full (a ∷ as') zero zero s = absurd (let k : false ≡ true = s in cc)
vacated_full (a ∷ as') zero (suc m) s = s
vacated_full (a ∷ as') (suc n) zero s = s
vacated_full (a ∷ as') (suc n) (suc m) s = vacated_full as' n m s

-- Marking a local as empty, that is, as holding no known value, yields a weaker flow state.
pub vacant_implied : (f : State) (n : ℕ) → Implies f (with_fullness Vacant f n)
vacant_implied Unreached n = unreached_implies Unreached
vacant_implied (Reached as') n = record { reached = λ h. refl; set = λ m s. vacated as' n m s; full = λ m s. vacated_full as' n m s }

either_implied : (b : Bool) (f : State) (n : ℕ) → Implies f (if b then f else with_fullness Vacant f n)
either_implied true f n = implies_self f
either_implied false f n = vacant_implied f n

pub emptied_implied : (ns : List ℕ) (f : State) → Implies f (emptied ns f)
emptied_implied [] f = implies_self f
emptied_implied (n ∷ ns) f =
    implies_after f (if is_locked (fullness f n) then f else with_fullness Vacant f n) (emptied (n ∷ ns) f)
    (either_implied (is_locked (fullness f n)) f n) (emptied_implied ns (if is_locked (fullness f n) then f else with_fullness Vacant f n))

-- ---- facts that hold in a state

one_implied : (g : Typing) (f h : State) (b : InScope) → Implies f h → HoldsIts g f b → HoldsIts g h b
one_implied g f h (Variable b) i (set, full) = (λ e. set (i.set b.number e), λ e. full (i.full b.number e))
one_implied g f h b i is = tt

are_set_implied : (g : Typing) (f h : State) (bs : List InScope) → Implies f h → AreSet g f bs → AreSet g h bs
are_set_implied g f h [] i s = tt
are_set_implied g f h (b ∷ bs) i (first, s) = (one_implied g f h b i first, are_set_implied g f h bs i s)

pub holds_implied : (g : Typing) (f h : State) (bs : List InScope) → Implies f h → Holds g f bs → Holds g h bs
holds_implied g f h bs i (reached, s) = (i.reached reached, are_set_implied g f h bs i s)

-- A local that is declared without a value is known to be empty.
now_vacant : (as' : List Fullness) (n : ℕ) → is_vacant (get_or (slice_set as' n Vacant) n Vacant) ≡ true
now_vacant [] n = refl
now_vacant (a ∷ as') zero = refl
now_vacant (a ∷ as') (suc n) = now_vacant as' n

pub vacant_now : (f : State) (n : ℕ) → is_reached f ≡ true → IsSet (with_fullness Vacant f n) n → ⊥
vacant_now Unreached n reached s = let k : false ≡ true = reached in absurd (cc)
vacant_now (Reached as') n reached s = let k : true ≡ false = sym (now_vacant as' n) ∙ s in absurd (cc)

-- ---- locals that become full again

filled_still : (as' : List Fullness) (n m : ℕ) → is_vacant (get_or as' m Vacant) ≡ false → is_vacant (get_or (slice_set as' n Full) m Vacant) ≡ false
filled_still [] n m s = s
filled_still (a ∷ as') zero zero s = refl
filled_still (a ∷ as') zero (suc m) s = s
filled_still (a ∷ as') (suc n) zero s = s
filled_still (a ∷ as') (suc n) (suc m) s = filled_still as' n m s

filled_full : (as' : List Fullness) (n m : ℕ) → is_full (get_or as' m Vacant) ≡ true → is_full (get_or (slice_set as' n Full) m Vacant) ≡ true
filled_full [] n m s = s
filled_full (a ∷ as') zero zero s = refl
filled_full (a ∷ as') zero (suc m) s = s
filled_full (a ∷ as') (suc n) zero s = s
filled_full (a ∷ as') (suc n) (suc m) s = filled_full as' n m s

full_implies : (f : State) (n : ℕ) → Implies (with_fullness Full f n) f
full_implies Unreached n = unreached_implies Unreached
full_implies (Reached as') n = record { reached = λ h. refl; set = λ m s. filled_still as' n m s; full = λ m s. filled_full as' n m s }

-- Marking locals as full (holding a value that is not lent) yields a stronger flow state.
pub each_full_implies : (ns : List ℕ) (f : State) → Implies (with_each Full ns f) f
each_full_implies [] f = implies_self f
each_full_implies (n ∷ ns) f = implies_after (with_each Full ns (with_fullness Full f n)) (with_fullness Full f n) f (each_full_implies ns (with_fullness Full f n)) (full_implies f n)

filled_both : (as' : List Fullness) (n m : ℕ) → slice_set (slice_set as' n Full) m Full ≡ slice_set (slice_set as' m Full) n Full
filled_both [] n m = refl
filled_both (a ∷ as') zero zero = refl
filled_both (a ∷ as') zero (suc m) = refl
filled_both (a ∷ as') (suc n) zero = refl
filled_both (a ∷ as') (suc n) (suc m) = ap (λ bs. a ∷ bs) (filled_both as' n m)

full_both : (f : State) (n m : ℕ) → with_fullness Full (with_fullness Full f n) m ≡ with_fullness Full (with_fullness Full f m) n
full_both Unreached n m = refl
full_both (Reached as') n m = ap Reached (filled_both as' n m)

-- Marking several locals as full (holding a value that is not lent) yields the same flow state in every order.
pub full_last : (n : ℕ) (ns : List ℕ) (f : State) → with_fullness Full (with_each Full ns f) n ≡ with_each Full ns (with_fullness Full f n)
full_last n [] f = refl
full_last n (m ∷ ns) f = full_last n ns (with_fullness Full f m) ∙ ap (λ g. with_each Full ns g) (full_both f m n)

pub full_added : (n : ℕ) (ns : List ℕ) (f : State) → with_each Full (ns ++ n ∷ []) f ≡ with_each Full ns (with_fullness Full f n)
full_added n [] f = refl
full_added n (m ∷ ns) f = full_added n ns (with_fullness Full f m) ∙ ap (λ g. with_each Full ns g) (full_both f m n)

-- ---- full locals

full_of : (a : Fullness) → is_vacant a ≡ false → is_locked a ≡ false → is_full a ≡ true
full_of Vacant set free = absurd (let k : true ≡ false = set in cc)
full_of Locked set free = absurd (let k : true ≡ false = free in cc)
full_of Full set free = refl

pub full_set : (a : Fullness) → is_full a ≡ true → is_vacant a ≡ false
full_set Vacant full = absurd (let k : false ≡ true = full in cc)
full_set Locked full = absurd (let k : false ≡ true = full in cc)
full_set Full full = refl

-- A local that the rules allow to be consumed is full, that is, it holds a value that is not lent.
pub used_full : (f : State) (n : ℕ) → not (is_vacant (fullness f n)) ≡ true → not (is_locked (fullness f n)) ≡ true → IsFullIn f n
used_full f n set free = full_of (fullness f n) (not-true (is_vacant (fullness f n)) set) (not-true (is_locked (fullness f n)) free)

-- ---- numbers in a list

pub before_last : (n m : ℕ) (ks : List ℕ) → IsAmong n ks → IsAmong n (ks ++ m ∷ [])
before_last n m ks (newest js) = newest (js ++ m ∷ [])
before_last n m ks (following k js among) = following k (js ++ m ∷ []) (before_last n m js among)

pub at_last : (n m : ℕ) (ks : List ℕ) → n ≡ m → IsAmong n (ks ++ m ∷ [])
at_last n m [] same = subst (λ i. IsAmong i (m ∷ [])) (sym same) (newest [])
at_last n m (k ∷ ks) same = following k (ks ++ m ∷ []) (at_last n m ks same)
