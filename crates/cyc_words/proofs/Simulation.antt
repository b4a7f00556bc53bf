-- This file has general lemmas on simulations: runs and paths, from matched steps to complete runs, composition of passes, and
-- full preservation.
use Rattle.std.proofs.Common.{◌≡◌, ℕ, zero, suc, ◌+◌, ◌*◌, ◌-◌, ◌≤◌, ◌<◌, List, [], ◌∷◌, ◌++◌, length, refl, sym, ap, subst, ◌∙◌, arith, inl, inr, append_assoc, append-nil, mul-le-mul_right}
use Rattle.std.specs.Prelude.{◌⊎◌, sum_by, flat_map}
use Rattle.std.proofs.lemmas.Bool.{cases_lt}
use Rattle.std.proofs.lemmas.List.Sums.{sum_by-append, sum_by-cons}
use Rattle.cyc_words.specs.Ending.{Ending}
use Rattle.cyc_words.specs.Seen.{ComesTo}
use Rattle.cyc_words.proofs.SeenLemmas.{ComesTo-refl, ComesTo-trans}
use Rattle.cyc_words.specs.Simulation.{Status, Running, Ended, Failed, Machine, Run, NeverFails, Preserves}
use Rattle.cyc_words.specs.inside.Following.{Path, IsLawful, MayShow, IsUnderWay, IsOver, Follows, Comes, IsOnTheWay, Matching, IsMatchedStep, Steps}
use Rattle.cyc_words.proofs.Prices.{sum_by-distinct, sum_by-flat_map, sum_by-one, sum_by-at_most}

-- ---- runs and paths of one machine

pub Run-append : (m : Machine) (i j : ℕ) (s t u : m.State) → Run m i s t → Run m j t u → Run m (i + j) s u
Run-append m zero j s t u first second = subst (λ n. Run m n s u) (omega arith) (subst (λ x. Run m j x u) first second)
Run-append m (suc i) j s t u (mid, step, rest) second =
    subst (λ n. Run m n s u) (let e : suc (i + j) ≡ suc i + j = omega arith in e) (mid, step, Run-append m i j mid t u rest second)

pub Path-append : (m : Machine) (ps qs : List m.Place) (s t u : m.State) → Path m ps s t → Path m qs t u → Path m (ps ++ qs) s u
Path-append m [] qs s t u first second = subst (λ x. Path m qs x u) first second
Path-append m (p ∷ ps) qs s t u (mid, at, step, rest) second = (mid, at, step, Path-append m ps qs mid t u rest second)

-- a path extended by one more step at its end is a path
pub Path-step : (m : Machine) (ps : List m.Place) (s t u : m.State) → Path m ps s t → m.Step t u → Path m (ps ++ m.place t ∷ []) s u
Path-step m ps s t u path step = Path-append m ps (m.place t ∷ []) s t u path (u, refl, step, refl)

-- Each run is a path through some code positions, and each path is a run.
pub Path-from_run : (m : Machine) (n : ℕ) (s t : m.State) → Run m n s t → (places : List m.Place) × (length places ≡ n) × Path m places s t
Path-from_run m zero s t run = ([], refl, run)
Path-from_run m (suc n) s t (mid, step, rest) =
    let (places, long, path) = Path-from_run m n mid t rest in (m.place s ∷ places, ap suc long, (mid, refl, step, path))

pub Run-from_path : (m : Machine) (places : List m.Place) (s t : m.State) → Path m places s t → Run m (length places) s t
Run-from_path m [] s t path = path
Run-from_path m (p ∷ places) s t (mid, at, step, rest) = (mid, step, Run-from_path m places mid t rest)

-- A run of i + j steps is a run of i steps followed by a run of j steps.
pub Run-split : (m : Machine) (i j : ℕ) (s u : m.State) → Run m (i + j) s u → (t : m.State) × Run m i s t × Run m j t u
Run-split m zero j s u run = (s, refl, subst (λ n. Run m n s u) (omega arith) run)
Run-split m (suc i) j s u run =
    let (mid, step, rest) = subst (λ n. Run m n s u) (let e : suc i + j ≡ suc (i + j) = omega arith in e) run in
    let (t, first, second) = Run-split m i j mid u rest in
    (t, (mid, step, first), second)

-- ---- laws of lawful machines, for whole runs
pub Run-grows : (m : Machine) → IsLawful m → (n : ℕ) (s t : m.State) → Run m n s t → ComesTo (m.seen s) (m.seen t)
Run-grows m lawful zero s t run = subst (λ x. ComesTo (m.seen s) (m.seen x)) (sym run) (ComesTo-refl (m.seen s))
Run-grows m lawful (suc n) s t (mid, step, rest) =
    ComesTo-trans (m.seen s) (m.seen mid) (m.seen t) (lawful.grows s mid step) (Run-grows m lawful n mid t rest)

pub Run-stays : (m : Machine) → IsLawful m → (n : ℕ) (s t : m.State) (ending : Ending) → m.status s ≡ Ended ending → Run m n s t → t ≡ s
Run-stays m lawful zero s t ending ended run = run
Run-stays m lawful (suc n) s t ending ended (mid, step, rest) =
    let same : mid ≡ s = lawful.stays s mid ending ended step in
    Run-stays m lawful n s t ending ended (subst (λ x. Run m n x t) same rest)

pub Run-rests : (m : Machine) → IsLawful m → (n : ℕ) (s : m.State) (ending : Ending) → m.status s ≡ Ended ending → Run m n s s
Run-rests m lawful zero s ending ended = refl
Run-rests m lawful (suc n) s ending ended = (s, lawful.rests s ending ended, Run-rests m lawful n s ending ended)

pub Path-stays : (m : Machine) → IsLawful m → (places : List m.Place) (s t : m.State) (ending : Ending) → m.status s ≡ Ended ending → Path m places s t → t ≡ s
Path-stays m lawful places s t ending ended path = Run-stays m lawful (length places) s t ending ended (Run-from_path m places s t path)

pub NeverFails-later : (m : Machine) (places : List m.Place) (s t : m.State) → NeverFails m s → Path m places s t → NeverFails m t
NeverFails-later m places s t never path n u run =
    never (length places + n) u (Run-append m (length places) n s t u (Run-from_path m places s t path) run)

-- The constructors of `Status` are different from each other.
pub running_ended : (ending : Ending) → Running ≡ Ended ending → ⊥
running_ended ending e = cc

pub running_failed : Running ≡ Failed → ⊥
running_failed e = cc

pub ended_failed : (ending : Ending) → Ended ending ≡ Failed → ⊥
ended_failed ending e = cc

status_cases : (s : Status) → (s ≡ Running) ⊎ ((ending : Ending) × (s ≡ Ended ending)) ⊎ (s ≡ Failed)
status_cases Running = inl refl
status_cases (Ended ending) = inr (inl (ending, refl))
status_cases Failed = inr (inr refl)

-- ---- from matched steps to whole runs

module _ (above below : Machine) (m : Matching above below) (steps : Steps above below m) (laws : IsLawful below) (before : List below.Place) (start : above.State) (never : NeverFails above start) where
  -- The cost allowed for the upper machine's steps from these positions, plus the cost of the positions before the first step.
  abbrev allowed : (below.Place → ℕ) → List above.Place → ℕ
  allowed price places = sum_by price before + sum_by (λ (p : above.Place). sum_by price (m.own p)) places

  abbrev Shown : List below.Place → below.State → Type 0
  Shown met now = IsUnderWay above below before m.own start met now ⊎ IsOver above below start now

  -- Says that a path of the upper machine and a run of the lower machine have reached matching states. The code positions that the
  -- lower run visited cost at most what the upper machine's path allows.
  record IsMatched (places : List above.Place) (state : above.State) (met : List below.Place) (here : below.State) : Type 0 where
    pub path : Path above places start state
    pub matches : m.Matches state here
    pub paid : (price : below.Place → ℕ) → sum_by price met ≤ allowed price places

  -- Says that the lower machine's run is in the middle of an upper machine's step, whose code positions `back` have not been visited yet.
  record IsInside (places : List above.Place) (state : above.State) (met back : List below.Place) : Type 0 where
    pub path : Path above places start state
    pub running : above.status state ≡ Running
    pub paid : (price : below.Place → ℕ) → sum_by price met + sum_by price back ≤ allowed price places + sum_by price (m.own (above.place state))

  -- Says that each continuation of the lower machine's run from matched states, with fewer than n steps, corresponds to a run of the upper
  -- machine.
  abbrev Continues : ℕ → Type 0
  Continues n = (places : List above.Place) (state : above.State) (met : List below.Place) (here : below.State) (rest : List below.Place) (now : below.State)
      → IsMatched places state met here → length rest < n → Path below rest here now → Shown (met ++ rest) now

  -- The lower machine's run has visited all code positions that match the upper machine's step, so the runs match again.
  arrives : (places : List above.Place) (state : above.State) (met all : List below.Place) (here : below.State) → IsInside places state met [] → (next : IsMatchedStep above below m state all here) → IsMatched (places ++ above.place state ∷ []) next.next met here
  arrives places state met all here inside next = record {
    path = Path-step above places start state next.next inside.path next.step;
    matches = next.matches;
    paid = λ price.
        let last = sum_by-append (λ (p : above.Place). sum_by price (m.own p)) places (above.place state ∷ []) in
        let one = sum_by-cons (λ (p : above.Place). sum_by price (m.own p)) (above.place state) [] in
        omega (arith, inside.paid price, last, one);
  }

  -- The lower machine's run visits the next of the code positions that are assigned to the upper machine's current step.
  meets : (places : List above.Place) (state : above.State) (met : List below.Place) (q r : below.Place) (back : List below.Place) → q ≡ r → IsInside places state met (q ∷ back) → IsInside places state (met ++ r ∷ []) back
  meets places state met q r back same inside = record {
    path = inside.path;
    running = inside.running;
    paid = λ price.
        let more = sum_by-append price met (r ∷ []) in
        let one = sum_by-cons price r [] in
        let first = sum_by-cons price q back in
        let equal : price q ≡ price r = ap price same in
        omega (arith, inside.paid price, more, one, first, equal);
  }

  -- The lower machine's run stops at this code position, in the middle of a step of the upper machine or just before such a step.
  stops : (places : List above.Place) (state : above.State) (met : List below.Place) (q : below.Place) (back : List below.Place) (now : below.State)
      → IsInside places state met (q ∷ back) → below.place now ≡ q → IsOnTheWay above below state now → Shown met now
  stops places state met q back now inside stands way =
      let (n, later, run, shows) = way.following in
      inl (record {
        places = places;
        state = state;
        path = inside.path;
        running = inside.running;
        goes_on = way.goes_on;
        ahead = way.ahead;
        following = (length places + n, later, Run-append above (length places) n start state later (Run-from_path above places start state inside.path) run, shows);
        cost = λ price.
            let first = sum_by-cons price q back in
            let equal : price (below.place now) ≡ price q = ap price stands in
            omega (arith, inside.paid price, first, equal);
      })

  -- If one visited code position is grouped with the positions visited after it, instead of those visited before it,
  -- the lower machine's run still corresponds to a run of the upper machine.
  moved : (met : List below.Place) (r : below.Place) (rest : List below.Place) (now : below.State) → Shown ((met ++ r ∷ []) ++ rest) now → Shown (met ++ r ∷ rest) now
  moved met r rest now shown = subst (λ (l : List below.Place). Shown l now) (append_assoc met (r ∷ []) rest) shown

  during : (n : ℕ) → Continues n → (places : List above.Place) (state : above.State) (met back all : List below.Place) (here : below.State) (rest : List below.Place) (now : below.State)
      → IsInside places state met back → Comes below (IsOnTheWay above below state) (IsMatchedStep above below m state all) back here
      → length rest < n → Path below rest here now → Shown (met ++ rest) now
  during n continues places state met [] all here rest now inside next short path =
      continues (places ++ above.place state ∷ []) next.next met here rest now (arrives places state met all here inside next) short path
  during n continues places state met (q ∷ back) all here [] now inside (stands, way, goes) short path =
      subst (λ (l : List below.Place). Shown l now) (sym (append-nil met))
      (subst (Shown met) (sym path) (stops places state met q back here inside stands way))
  during n continues places state met (q ∷ back) all here (r ∷ rest) now inside (stands, way, goes) short (mid, met_here, step, path) =
      moved met r rest now
      (during n continues places state (met ++ r ∷ []) back all mid rest now (meets places state met q r back (sym stands ∙ met_here) inside) (goes mid step) (omega arith) path)

  -- A step of the upper machine begins. If no code positions of the lower machine match the step, the
  -- step is complete at once; otherwise the lower machine visits the first matching code position.
  begins : (n : ℕ) → Continues n → (places : List above.Place) (state : above.State) (met all : List below.Place) (here : below.State) (rest : List below.Place) (now : below.State)
      → ((next : above.State) → m.weight next < m.weight state → IsMatched (places ++ above.place state ∷ []) next met here → Shown (met ++ rest) now)
      → IsInside places state met all → Comes below (IsOnTheWay above below state) (IsMatchedStep above below m state all) all here
      → length rest < suc n → Path below rest here now → Shown (met ++ rest) now
  begins n continues places state met [] here rest now silently inside next short path =
      silently next.next (next.lighter refl) (arrives places state met [] here inside next)
  begins n continues places state met (q ∷ back) here [] now silently inside (stands, way, goes) short path =
      subst (λ (l : List below.Place). Shown l now) (sym (append-nil met))
      (subst (Shown met) (sym path) (stops places state met q back here inside stands way))
  begins n continues places state met (q ∷ back) here (r ∷ rest) now silently inside (stands, way, goes) short (mid, met_here, step, path) =
      moved met r rest now
      (during n continues places state (met ++ r ∷ []) back (q ∷ back) mid rest now (meets places state met q r back (sym stands ∙ met_here) inside) (goes mid step) (omega arith) path)

  -- The upper machine's run has not ended, so its next step is matched.
  goes_on : (n : ℕ) → Continues n → (places : List above.Place) (state : above.State) (met : List below.Place) (here : below.State) (rest : List below.Place) (now : below.State)
      → ((next : above.State) → m.weight next < m.weight state → IsMatched (places ++ above.place state ∷ []) next met here → Shown (met ++ rest) now)
      → IsMatched places state met here → above.status state ≡ Running → length rest < suc n → Path below rest here now → Shown (met ++ rest) now
  goes_on n continues places state met here rest now silently matched running short path =
      let later = NeverFails-later above places start state never matched.path in
      let stepped = steps state here matched.matches running (λ next step. later 1 next (next, step, refl)) in
      begins n continues places state met stepped.places here rest now silently
      (record {
        path = matched.path;
        running = running;
        paid = λ price.
            let own = sum_by-distinct price (m.own (above.place state)) stepped.places stepped.distinct stepped.inside in
            omega (arith, matched.paid price, own);
      })
      stepped.comes short path

  -- The upper machine's run has ended, so the lower machine's run has ended and stays unchanged.
  ends : (places : List above.Place) (state : above.State) (met : List below.Place) (here : below.State) (rest : List below.Place) (now : below.State) (ending : Ending)
      → IsMatched places state met here → above.status state ≡ Ended ending → Path below rest here now → Shown (met ++ rest) now
  ends places state met here rest now ending matched ended path =
      let over = m.endings state here ending matched.matches ended in
      let same : now ≡ here = Path-stays below laws rest here now ending over path in
      inr (record {
        places = places;
        state = state;
        path = matched.path;
        ending = ending;
        ended = ended;
        over = ap below.status same ∙ over;
        seen = ap below.seen same ∙ m.alike state here matched.matches;
      })

  turns : (n : ℕ) → Continues n → (w : ℕ) (places : List above.Place) (state : above.State) (met : List below.Place) (here : below.State) (rest : List below.Place) (now : below.State)
      → m.weight state < w → IsMatched places state met here → length rest < suc n → Path below rest here now → Shown (met ++ rest) now
  turns n continues zero places state met here rest now light matched short path = absurd (omega arith)
  turns n continues (suc w) places state met here rest now light matched short path =
      elim (status_cases (above.status state)) [
        | inl running ↦ goes_on n continues places state met here rest now
            (λ next lighter again. turns n continues w (places ++ above.place state ∷ []) next met here rest now (omega arith) again short path)
            matched running short path
        | inr (inl (ending, ended)) ↦ ends places state met here rest now ending matched ended path
        | inr (inr failed) ↦ absurd (NeverFails-later above places start state never matched.path 0 state refl failed)
      ]

  continues : (n : ℕ) → Continues n
  continues zero places state met here rest now matched short path = absurd (omega arith)
  continues (suc n) places state met here rest now matched short path =
      turns n (continues n) (suc (m.weight state)) places state met here rest now (omega arith) matched short path

  -- Before the two machines' states first match, while the lower machine visits its initial code positions, its run already
  -- corresponds to a run of the upper machine.
  comes_first : (met back : List below.Place) (here : below.State) (rest : List below.Place) (now : below.State) → above.status start ≡ Running
      → ((price : below.Place → ℕ) → sum_by price met + sum_by price back ≤ sum_by price before)
      → Comes below (IsOnTheWay above below start) (m.Matches start) back here → Path below rest here now → Shown (met ++ rest) now
  comes_first met [] here rest now running paid matches path =
      continues (suc (length rest)) [] start met here rest now
      (record { path = refl; matches = matches; paid = λ price. omega (arith, paid price) })
      (omega arith) path
  comes_first met (q ∷ back) here [] now running paid (stands, way, goes) path =
      subst (λ (l : List below.Place). Shown l now) (sym (append-nil met))
      (subst (Shown met) (sym path)
      (stops [] start met q back here
      (record { path = refl; running = running; paid = λ price. omega (arith, paid price) })
      stands way))
  comes_first met (q ∷ back) here (r ∷ rest) now running paid (stands, way, goes) (mid, met_here, step, path) =
      moved met r rest now
      (comes_first (met ++ r ∷ []) back mid rest now running
      (λ price.
      let more = sum_by-append price met (r ∷ []) in
      let one = sum_by-cons price r [] in
      let first = sum_by-cons price q back in
      let equal : price q ≡ price r = ap price (sym stands ∙ met_here) in
      omega (arith, paid price, more, one, first, equal))
      (goes mid step) path)

  -- Let the lower machine's steps at its initial code positions reach a state that matches the upper machine's start state. Then each run
  -- of the lower machine follows a run of the upper machine.
  pub simulates : (from : below.State) → above.status start ≡ Running → Comes below (IsOnTheWay above below start) (m.Matches start) before from → Follows above below before m.own start from
  simulates from running comes = record {
    runs = λ met now path. comes_first [] before from met now running (λ price. omega arith) comes path;
  }

-- ---- composition of two passes

-- If a run of the lower machine may show an observation, then a run of the upper machine may show the same observation.
may_show : (above below : Machine) (before : List below.Place) (own : above.Place → List below.Place) (start : above.State) (met : List below.Place) (now : below.State)
    → IsUnderWay above below before own start met now ⊎ IsOver above below start now → MayShow above start (below.seen now)
may_show above below before own start met now (inl u) = u.following
may_show above below before own start met now (inr o) = (length o.places, o.state, Run-from_path above o.places start o.state o.path, o.seen)

module _ (above middle below : Machine) (before_middle : List middle.Place) (own_middle : above.Place → List middle.Place) (before_below : List below.Place) (own_below : middle.Place → List below.Place) (start : above.State) (between : middle.State) (from : below.State) where
  abbrev Lower : List below.Place → below.State → Type 0
  Lower met now = IsUnderWay middle below before_below own_below between met now ⊎ IsOver middle below between now

  abbrev Upper : List middle.Place → middle.State → Type 0
  Upper met now = IsUnderWay above middle before_middle own_middle start met now ⊎ IsOver above middle start now

  abbrev Whole : List below.Place → below.State → Type 0
  Whole met now = IsUnderWay above below (before_below ++ flat_map own_below before_middle) (λ p. flat_map own_below (own_middle p)) start met now ⊎ IsOver above below start now

  sums : (price : below.Place → ℕ) (places : List above.Place) → sum_by (λ (p : above.Place). sum_by price (flat_map own_below (own_middle p))) places ≡ sum_by (λ (p : above.Place). sum_by (λ (q : middle.Place). sum_by price (own_below q)) (own_middle p)) places
  sums price [] = refl
  sums price (p ∷ places) =
      let left = sum_by-cons (λ (x : above.Place). sum_by price (flat_map own_below (own_middle x))) p places in
      let right = sum_by-cons (λ (x : above.Place). sum_by (λ (q : middle.Place). sum_by price (own_below q)) (own_middle x)) p places in
      omega (arith, left, right, sum_by-flat_map price own_below (own_middle p), sums price places)

  goes : Follows above middle before_middle own_middle start between → (met : List below.Place) (now : below.State) → (u : IsUnderWay middle below before_below own_below between met now) → Upper u.places u.state → Whole met now
  goes first met now u (inl v) =
      let (n, later, run, shows) = u.following in
      let (places, long, path) = Path-from_run middle n between later run in
      inl (record {
        places = v.places;
        state = v.state;
        path = v.path;
        running = v.running;
        goes_on = u.goes_on;
        ahead = ComesTo-trans (above.seen v.state) (middle.seen u.state) (below.seen now) v.ahead u.ahead;
        following = subst (MayShow above start) (sym shows) (may_show above middle before_middle own_middle start places later (first.runs places later path));
        cost = λ price.
            let lower = u.cost price in
            let upper = v.cost (λ (q : middle.Place). sum_by price (own_below q)) in
            let front = sum_by-append price before_below (flat_map own_below before_middle) in
            let front_middle = sum_by-flat_map price own_below before_middle in
            let last = sum_by-flat_map price own_below (own_middle (above.place v.state)) in
            omega (arith, lower, upper, front, front_middle, last, sums price v.places);
      })
  goes first met now u (inr o) = absurd (running_ended o.ending (sym u.running ∙ o.over))

  over : (met : List below.Place) (now : below.State) → (o : IsOver middle below between now) → Upper o.places o.state → Whole met now
  over met now o (inl v) = absurd (running_ended o.ending (sym v.goes_on ∙ o.ended))
  over met now o (inr w) =
      inr (record {
        places = w.places;
        state = w.state;
        path = w.path;
        ending = w.ending;
        ended = w.ended;
        over = o.over ∙ sym o.ended ∙ w.over;
        seen = o.seen ∙ w.seen;
      })

  together : Follows above middle before_middle own_middle start between → (met : List below.Place) (now : below.State) → Lower met now → Whole met now
  together first met now (inl u) = goes first met now u (first.runs u.places u.state u.path)
  together first met now (inr o) = over met now o (first.runs o.places o.state o.path)

  -- Two simulations compose. The first simulation assigns code positions of the middle machine to a step. The second simulation assigns
  -- code positions of the lowest machine to positions of the middle machine. The composition of two simulations assigns the positions of
  -- the lowest machine to the step.
  pub in_a_row : Follows above middle before_middle own_middle start between → Follows middle below before_below own_below between from
      → Follows above below (before_below ++ flat_map own_below before_middle) (λ p. flat_map own_below (own_middle p)) start from
  in_a_row first second = record { runs = λ met now path. together first met now (second.runs met now path) }

-- ---- full preservation from a simulation

fewer : (k n each : ℕ) → k < n → k * each + each ≤ (n + 1) * each
fewer k n each less =
    let times : k * each ≤ n * each = mul-le-mul_right each (omega arith) in
    let more : (n + 1) * each ≡ n * each + each = grind arith in
    omega (arith, times, more)

module _ (above below : Machine) (laws : IsLawful above) (before : List below.Place) (own : above.Place → List below.Place) (start : above.State) (from : below.State) (follows : Follows above below before own start from) where
  -- The state of the upper machine after n steps, with which the lower machine has caught up. The next lemma
  -- proves that the lower machine catches up with n steps, from a later state of the upper machine.
  abbrev After : ℕ → below.State → Type 0
  After n now = (state : above.State) × Run above n start state × ComesTo (above.seen state) (below.seen now)
      × ((ending : Ending) → above.status state ≡ Ended ending → (below.status now ≡ Ended ending) × (below.seen now ≡ above.seen state))

  cut : (n k : ℕ) → n ≤ k → (state : above.State) (now : below.State) → Run above k start state → ComesTo (above.seen state) (below.seen now)
      → ((ending : Ending) → above.status state ≡ Ended ending → (below.status now ≡ Ended ending) × (below.seen now ≡ above.seen state)) → After n now
  cut n k long state now run ahead ends =
      let (mid, first, second) = Run-split above n (k - n) start state (subst (λ i. Run above i start state) (let e : k ≡ n + (k - n) = omega arith in e) run) in (
        mid,
        first,
        ComesTo-trans (above.seen mid) (above.seen state) (below.seen now) (Run-grows above laws (k - n) mid state second) ahead,
        λ ending ended.
            let same : state ≡ mid = Run-stays above laws (k - n) mid state ending ended second in
            let (over, seen) = ends ending (ap above.status same ∙ ended) in
            (over, seen ∙ ap above.seen same),
      )

  ends_as : (now : below.State) (o : IsOver above below start now) (ending : Ending) → above.status o.state ≡ Ended ending → (below.status now ≡ Ended ending) × (below.seen now ≡ above.seen o.state)
  ends_as now o ending ended = (o.over ∙ sym o.ended ∙ ended, o.seen)

  ahead_over : (now : below.State) (o : IsOver above below start now) → ComesTo (above.seen o.state) (below.seen now)
  ahead_over now o = subst (ComesTo (above.seen o.state)) (sym o.seen) (ComesTo-refl (above.seen o.state))

  -- If the lower machine's run is long enough, then it has completed n steps of the upper machine's run.
  comes_so_far : (each n : ℕ) → ((p : above.Place) → length before + length (own p) ≤ each) → (met : List below.Place) (now : below.State) → length met ≡ (n + 1) * each
      → (u : IsUnderWay above below before own start met now) → n ≤ length u.places
  comes_so_far each n most met now long u =
      let k = length u.places in
      let cost = u.cost (λ (q : below.Place). 1) in
      let met_is = sum_by-one met in
      let before_is = sum_by-one before in
      let last_is = sum_by-one (own (above.place u.state)) in
      let last : length before + length (own (above.place u.state)) ≤ each = most (above.place u.state) in
      let steps : sum_by (λ (p : above.Place). sum_by (λ (q : below.Place). 1) (own p)) u.places ≤ k * each =
      sum_by-at_most (λ (p : above.Place). sum_by (λ (q : below.Place). 1) (own p)) each u.places (λ p. omega (arith, sum_by-one (own p), most p)) in
      let less : (n + 1) * each < k * each + each = omega (arith, cost, met_is, before_is, last_is, last, steps, long) in
      elim (cases_lt k n) [
        | inl short ↦ absurd (
            omega (arith, less, fewer k n each short))
        | inr fine ↦ fine
      ]

  after : (each n : ℕ) → ((p : above.Place) → length before + length (own p) ≤ each) → (met : List below.Place) (now : below.State) → length met ≡ (n + 1) * each
      → IsUnderWay above below before own start met now ⊎ IsOver above below start now → After n now
  after each n most met now long (inl u) =
      cut n (length u.places) (comes_so_far each n most met now long u) u.state now (Run-from_path above u.places start u.state u.path) u.ahead
      (λ ending ended. absurd (running_ended ending (sym u.running ∙ ended)))
  after each n most met now long (inr o) =
      let k = length o.places in
      let run = Run-from_path above o.places start o.state o.path in
      elim (cases_lt n k) [
        | inl short ↦ cut n k (omega arith) o.state now run (ahead_over now o) (ends_as now o)
        | inr fine ↦ (
          o.state,
          subst (λ i. Run above i start o.state) (let e : k + (n - k) ≡ n = omega arith in e) (Run-append above k (n - k) start o.state o.state run (Run-rests above laws (n - k) o.state o.ending o.ended)),
          ahead_over now o,
          ends_as now o,
        )
      ]

  abbrev Before : below.State → Type 0
  Before now = (n : ℕ) × (state : above.State) × Run above n start state × (below.seen now ≡ above.seen state)
      × ((ending : Ending) → below.status now ≡ Ended ending → above.status state ≡ Ended ending)

  following : (met : List below.Place) (now : below.State) → IsUnderWay above below before own start met now ⊎ IsOver above below start now → Before now
  following met now (inl u) =
      let (n, state, run, shows) = u.following in
      (n, state, run, shows, λ ending ended. absurd (running_ended ending (sym u.goes_on ∙ ended)))
  following met now (inr o) = (
    length o.places,
    o.state,
    Run-from_path above o.places start o.state o.path,
    o.seen,
    λ ending ended. o.ended ∙ sym o.over ∙ ended,
  )

  fails_not : (met : List below.Place) (now : below.State) → IsUnderWay above below before own start met now ⊎ IsOver above below start now → below.status now ≡ Failed → ⊥
  fails_not met now (inl u) failed = running_failed (sym u.goes_on ∙ failed)
  fails_not met now (inr o) failed = ended_failed o.ending (sym o.over ∙ failed)

  -- No run of the lower machine fails; the simulation of the next compiler pass has this as its premise.
  pub follows-never_fails : NeverFails below from
  follows-never_fails n now run =
      let (met, long, path) = Path-from_run below n from now run in fails_not met now (follows.runs met now path)

  -- If the number of lower code positions assigned to a step, plus the number visited before the first step, has a bound, then full
  -- preservation follows.
  pub follows-preserves : (each : ℕ) → ((p : above.Place) → length before + length (own p) ≤ each) → Preserves above below each start from
  follows-preserves each most = record {
    ahead = λ n now run.
        let (met, long, path) = Path-from_run below ((n + 1) * each) from now run in after each n most met now long (follows.runs met now path);
    following = λ n now run.
        let (met, long, path) = Path-from_run below n from now run in following met now (follows.runs met now path);
    never_fails = follows-never_fails;
  }
