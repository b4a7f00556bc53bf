-- This file is about undoing the recorded changes of a flow state, and about the meet of the flow state
-- with the state before these changes.
use Rattle.std.proofs.Common.{◌≡◌, ℕ, zero, suc, true, false, List, [], ◌∷◌, ◌++◌, get_or, set, refl, sym, ap, ◌∙◌}
use Rattle.std.proofs.lemmas.List.{set-get_or}
use Rattle.cyc_types.specs.flow.States.{Fullness, Vacant, Locked, Full, State, Unreached, Reached, lower, lower_each, meet, fullness, with_fullness, is_vacant}
use Rattle.cyc_flow.specs.declared.state.Change.{Change}
use Rattle.cyc_flow.specs.inside.Code.{view_fullness, undone, lowered, lowered_to, are_emptied}
use Rattle.cyc_words.proofs.Booleans.{and_left, and_right}

-- ---- one more change

pub undone_append : (cs ds : List Change) (f : State) → undone (cs ++ ds) f ≡ undone cs (undone ds f)
undone_append [] ds f = refl
undone_append (c ∷ cs) ds f = ap (λ (g : State). with_fullness (view_fullness c.before) g c.number) (undone_append cs ds f)

set_twice : (as' : List Fullness) (n : ℕ) (a b : Fullness) → set (set as' n a) n b ≡ set as' n b
set_twice [] n a b = refl
set_twice (d ∷ as') zero a b = refl
set_twice (d ∷ as') (suc n) a b = ap (λ bs. d ∷ bs) (set_twice as' n a b)

restored : (f : State) (n : ℕ) (a : Fullness) → with_fullness (fullness f n) (with_fullness a f n) n ≡ f
restored Unreached n a = refl
restored (Reached as') n a = ap Reached (set_twice as' n a (get_or as' n Vacant) ∙ set-get_or as' n Vacant)

-- If a change of a local is recorded with the local's earlier state, undoing all recorded changes yields the same flow
-- state as without this change.
pub noted_begun : (cs : List Change) (c : Change) (f : State) (a : Fullness) → view_fullness c.before ≡ fullness f c.number → undone (cs ++ c ∷ []) (with_fullness a f c.number) ≡ undone cs f
noted_begun cs c f a e =
    undone_append cs (c ∷ []) (with_fullness a f c.number)
    ∙ ap (undone cs) (ap (λ (b : Fullness). with_fullness b (with_fullness a f c.number) c.number) e ∙ restored f c.number a)

pub lowered_append : (cs ds : List Change) (f : State) → lowered (cs ++ ds) f ≡ lowered ds (lowered cs f)
lowered_append [] ds f = refl
lowered_append (c ∷ cs) ds f = lowered_append cs ds (with_fullness (lower (fullness f c.number) (view_fullness c.before)) f c.number)

-- Suppose that lowering (making emptier) a flow state by a list of recorded states has the same effect as lowering the changed locals to
-- their states in `g`. If one more changed local is recorded with its present state, then the effects of the longer lists are still equal.
pub noted_now : (g : State) (vs : List Change) (v c : Change) (cs : List Change) (f : State) → v.number ≡ c.number → view_fullness v.before ≡ fullness g c.number
    → lowered_to g cs (lowered (vs ++ v ∷ []) f) ≡ lowered_to g (c ∷ cs) (lowered vs f)
noted_now g vs v c cs f n e =
    ap (lowered_to g cs)
    (lowered_append vs (v ∷ []) f
    ∙ ap (λ (m : ℕ). with_fullness (lower (fullness (lowered vs f) m) (view_fullness v.before)) (lowered vs f) m) n
    ∙ ap (λ (b : Fullness). with_fullness (lower (fullness (lowered vs f) c.number) b) (lowered vs f) c.number) e)

-- ---- the meet

lower_same : (a : Fullness) → lower a a ≡ a
lower_same Vacant = refl
lower_same Locked = refl
lower_same Full = refl

lower_twice : (a b : Fullness) → lower (lower a b) b ≡ lower a b
lower_twice Vacant b = refl
lower_twice Locked Vacant = refl
lower_twice Locked Locked = refl
lower_twice Locked Full = refl
lower_twice Full b = lower_same b

lower_all_same : (as' : List Fullness) → lower_each as' as' ≡ as'
lower_all_same [] = refl
lower_all_same (a ∷ as') = ap (λ b. b ∷ lower_each as' as') (lower_same a) ∙ ap (λ bs. a ∷ bs) (lower_all_same as')

lower_set : (as' bs : List Fullness) (n : ℕ) (a : Fullness) → lower_each (set as' n a) bs ≡ set (lower_each as' bs) n (lower a (get_or bs n Vacant))
lower_set [] bs n a = refl
lower_set (d ∷ as') [] zero a = refl
lower_set (d ∷ as') [] (suc n) a = refl
lower_set (d ∷ as') (b ∷ bs) zero a = refl
lower_set (d ∷ as') (b ∷ bs) (suc n) a = ap (λ cs. lower d b ∷ cs) (lower_set as' bs n a)

set_lower : (as' : List Fullness) (n : ℕ) (a b : Fullness) → set (set as' n a) n (lower (get_or (set as' n a) n Vacant) b) ≡ set as' n (lower a b)
set_lower [] n a b = refl
set_lower (d ∷ as') zero a b = refl
set_lower (d ∷ as') (suc n) a b = ap (λ bs. d ∷ bs) (set_lower as' n a b)

-- Setting one local to a lower state (lent or empty) commutes with lowering the state of another local.
swapped : (as' : List Fullness) (now : ℕ → Fullness) (n m : ℕ) (a : Fullness) → lower a (now n) ≡ a
    → set (set as' n a) m (lower (get_or (set as' n a) m Vacant) (now m)) ≡ set (set as' m (lower (get_or as' m Vacant) (now m))) n a
swapped [] now n m a h = refl
swapped (d ∷ as') now zero zero a h = ap (λ b. b ∷ as') h
swapped (d ∷ as') now zero (suc m) a h = refl
swapped (d ∷ as') now (suc n) zero a h = refl
swapped (d ∷ as') now (suc n) (suc m) a h = ap (λ bs. d ∷ bs) (swapped as' (λ k. now (suc k)) n m a h)

-- Returns the list of local states after the recorded changes are undone.
abbrev undone_list : List Change → List Fullness → List Fullness
undone_list [] bs = bs
undone_list (c ∷ cs) bs = set (undone_list cs bs) c.number (view_fullness c.before)

abbrev lowered_list : (now : ℕ → Fullness) → List Change → List Fullness → List Fullness
lowered_list now [] as' = as'
lowered_list now (c ∷ cs) as' = lowered_list now cs (set as' c.number (lower (get_or as' c.number Vacant) (now c.number)))

set_through : (now : ℕ → Fullness) (cs : List Change) (as' : List Fullness) (n : ℕ) (a : Fullness) → lower a (now n) ≡ a → lowered_list now cs (set as' n a) ≡ set (lowered_list now cs as') n a
set_through now [] as' n a h = refl
set_through now (c ∷ cs) as' n a h =
    ap (lowered_list now cs) (swapped as' now n c.number a h)
    ∙ set_through now cs (set as' c.number (lower (get_or as' c.number Vacant) (now c.number))) n a h

abbrev known_now : List Fullness → ℕ → Fullness
known_now bs n = get_or bs n Vacant

met : (cs : List Change) (bs : List Fullness) → lower_each (undone_list cs bs) bs ≡ lowered_list (known_now bs) cs (undone_list cs bs)
met [] bs = lower_all_same bs
met (c ∷ cs) bs =
    let n = c.number in
    let b = view_fullness c.before in
    let before = undone_list cs bs in
    lower_set before bs n b
    ∙ ap (λ as'. set as' n (lower b (known_now bs n))) (met cs bs)
    ∙ sym (set_through (known_now bs) cs before n (lower b (known_now bs n)) (lower_twice b (known_now bs n)))
    ∙ ap (lowered_list (known_now bs) cs) (sym (set_lower before n b (known_now bs n)))

undone_unreached : (cs : List Change) → undone cs Unreached ≡ Unreached
undone_unreached [] = refl
undone_unreached (c ∷ cs) = ap (λ (f : State). with_fullness (view_fullness c.before) f c.number) (undone_unreached cs)

undone_reached : (cs : List Change) (bs : List Fullness) → undone cs (Reached bs) ≡ Reached (undone_list cs bs)
undone_reached [] bs = refl
undone_reached (c ∷ cs) bs = ap (λ (f : State). with_fullness (view_fullness c.before) f c.number) (undone_reached cs bs)

lowered_unreached : (g : State) (cs : List Change) → lowered_to g cs Unreached ≡ Unreached
lowered_unreached g [] = refl
lowered_unreached g (c ∷ cs) = lowered_unreached g cs

lowered_reached : (bs : List Fullness) (cs : List Change) (as' : List Fullness) → lowered_to (Reached bs) cs (Reached as') ≡ Reached (lowered_list (known_now bs) cs as')
lowered_reached bs [] as' = refl
lowered_reached bs (c ∷ cs) as' = lowered_reached bs cs (set as' c.number (lower (get_or as' c.number Vacant) (known_now bs c.number)))

-- The meet of the present flow state with the state before the changes lowers (makes emptier) only the changed locals.
pub meet_undone : (cs : List Change) (g : State) → meet (undone cs g) g ≡ lowered_to g cs (undone cs g)
meet_undone cs Unreached =
    ap (λ (f : State). meet f Unreached) (undone_unreached cs) ∙ sym (ap (lowered_to Unreached cs) (undone_unreached cs) ∙ lowered_unreached Unreached cs)
meet_undone cs (Reached bs) =
    ap (λ (f : State). meet f (Reached bs)) (undone_reached cs bs)
    ∙ ap Reached (met cs bs)
    ∙ sym (ap (lowered_to (Reached bs) cs) (undone_reached cs bs) ∙ lowered_reached bs cs (undone_list cs bs))

-- ---- if each changed local may be empty

vacant_lower : (a b : Fullness) → is_vacant b ≡ true → lower a b ≡ b
vacant_lower Vacant Vacant h = refl
vacant_lower Locked Vacant h = refl
vacant_lower Full Vacant h = refl
vacant_lower a Locked h = absurd (let e : false ≡ true = h in cc)
vacant_lower a Full h = absurd (let e : false ≡ true = h in cc)

met_emptied : (cs : List Change) (bs : List Fullness) → are_emptied cs (Reached bs) ≡ true → lower_each (undone_list cs bs) bs ≡ bs
met_emptied [] bs h = lower_all_same bs
met_emptied (c ∷ cs) bs h =
    let n = c.number in
    let b = view_fullness c.before in
    let now = known_now bs n in
    lower_set (undone_list cs bs) bs n b
    ∙ ap (λ as'. set as' n (lower b now)) (met_emptied cs bs (and_right (is_vacant now) (are_emptied cs (Reached bs)) h))
    ∙ ap (λ a. set bs n a) (vacant_lower b now (and_left (is_vacant now) (are_emptied cs (Reached bs)) h))
    ∙ set-get_or bs n Vacant

-- If each changed local is empty in the present flow state, the meet with the state before the changes is the present state.
pub meet_emptied : (cs : List Change) (g : State) → are_emptied cs g ≡ true → meet (undone cs g) g ≡ g
meet_emptied cs Unreached h = ap (λ (f : State). meet f Unreached) (undone_unreached cs)
meet_emptied cs (Reached bs) h = ap (λ (f : State). meet f (Reached bs)) (undone_reached cs bs) ∙ ap Reached (met_emptied cs bs h)
