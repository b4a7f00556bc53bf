-- How the code checks the catch clauses of a `catch`.
use Rattle.std.proofs.Common.{◌≡◌, ℕ, suc, ◌+◌, List, [], ◌∷◌, ◌++◌, Option, Some, None, Ok, Err, option_map, refl, sym, ap, subst, ◌∙◌, arith}
use Rattle.std.proofs.lemmas.List.{append_assoc, append-nil}
use Rattle.cyc_syntax.specs.declared.tree.Clause.{Clause}
use Rattle.cyc_syntax.specs.Symbols.{Place}
use Rattle.cyc_syntax.specs.Trees.{Named, Statement, Items, Clauses, NoClauses, Default, Case, Try}
use Rattle.cyc_syntax.specs.inside.TreeView.{view_name, items_of, clauses_of}
use Rattle.cyc_types.specs.declared.typed.Clause.{Clause as ClauseCode}
use Rattle.cyc_types.specs.TypedTrees as typed
use Rattle.cyc_types.specs.TypedTreeView as view
use Rattle.cyc_types.specs.typing.Scopes.{Scope, counted, item_locals, item_regions, item_names, clause_locals, clause_regions, clause_names, locals_in, regions_in, names_in, following, in_block, Ordinary}
use Rattle.cyc_types.specs.Types.{Int}
use Rattle.cyc_types.specs.typing.Statements.{exception_among, caught, with_caught, after_clause, rule_items, rule_clauses}
use Rattle.cyc_types.specs.Rules.{Checked, and_then, run}
use Rattle.cyc_types.proofs.RuleLaws.{from_ok}
use Rattle.cyc_scope.specs.declared.stop.Stop.{Stop}
use Rattle.cyc_scope.specs.declared.stop.Stop.TheVariants as stops
use Rattle.cyc_scope.specs.inside.Code.{Stops}
use Rattle.cyc_scope.specs.declared.scope.Mark.{Mark}
use Rattle.cyc_scope.specs.inside.Marks.{IsInOrder, mark_of, left_to}
use Rattle.cyc_check.specs.inside.Walks.{IsAfterItems, following_block, after_clauses, view_clause}
use Rattle.cyc_check.specs.inside.Inside.{Inside}
use Rattle.cyc_check.proofs.Inside.{inside_itself, inside_through, inside_local, inside_block, numbered_as, left_numbered, order_left}

-- ---- one clause followed by others

-- Returns the first catch clause followed by the given catch clauses.
abbrev put_after : typed.Clauses → typed.Clauses → typed.Clauses
put_after (typed.Case n v r js cs) ds = typed.Case n v r js ds
put_after cs ds = ds

-- Returns the result for a list of catch clauses, given three results: the exception and the body of the first clause,
-- and the clauses after it.
abbrev assembled : Checked ℕ → Checked typed.Items → Option ℕ → ℕ → Checked typed.Clauses → Checked typed.Clauses
assembled a b v r rest = and_then a (λ n. and_then b (λ js. and_then rest (λ ds. Ok (typed.Case n v r js ds))))

with_rest : (a : Checked ℕ) (b : Checked typed.Items) (v : Option ℕ) (r : ℕ) (c : ClauseCode) (rest : Checked typed.Clauses) → assembled a b v r (Ok typed.NoClauses) ≡ Ok (view_clause c)
    → assembled a b v r rest ≡ and_then rest (λ ds. Ok (view.clauses_of (c ∷ []) ds))
with_rest (Ok n) (Ok js) v r c (Ok ds) h = ap (λ k. Ok (put_after k ds)) (from_ok (typed.Case n v r js typed.NoClauses) (view_clause c) h)
with_rest (Ok n) (Ok js) v r c (Err f) h = refl
with_rest (Ok n) (Err f) v r c rest h = absurd (cc)
with_rest (Err f) b v r c rest h = absurd (cc)

stopped_before_rest : (a : Checked ℕ) (b : Checked typed.Items) (v : Option ℕ) (r : ℕ) (rest : Checked typed.Clauses) (e : Stop) → Stops e (assembled a b v r (Ok typed.NoClauses)) → Stops e (assembled a b v r rest)
stopped_before_rest a b v r rest stops.Memory h = tt
stopped_before_rest (Ok n) (Ok js) v r rest (stops.Refused f) h = absurd (cc)
stopped_before_rest (Ok n) (Err g) v r rest (stops.Refused f) h = h
stopped_before_rest (Err g) b v r rest (stops.Refused f) h = h

-- ---- all clauses

-- Returns the catch clauses checked so far, followed by the result for the remaining catch clauses.
abbrev pub after_made : List ClauseCode → Checked typed.Clauses → Checked typed.Clauses
after_made made checked = and_then checked (λ ds. Ok (view.clauses_of made ds))

clauses-append : (made : List ClauseCode) (c : ClauseCode) (ds : typed.Clauses) → view.clauses_of (made ++ c ∷ []) ds ≡ view.clauses_of made (view.clauses_of (c ∷ []) ds)
clauses-append [] c ds = refl
clauses-append (d ∷ ds) c es = ap (typed.Case d.tag d.number d.region (view.items_of d.items.items)) (clauses-append ds c es)

regrouped_clauses : (made : List ClauseCode) (c : ClauseCode) (checked : Checked typed.Clauses) → after_made made (and_then checked (λ ds. Ok (view.clauses_of (c ∷ []) ds))) ≡ after_made (made ++ c ∷ []) checked
regrouped_clauses made c (Ok ds) = ap Ok (sym (clauses-append made c ds))
regrouped_clauses made c (Err f) = refl

-- `CaughtSoFar` says that the catch clauses checked so far, with the rules' result for the remaining ones, are the rules' result for all. A
-- catch clause changes only three parts of the scope: the next indices of locals and of regions, and the region names declared so far.
pub record CaughtSoFar (start now : Scope) (before : List ℕ) (made : List ClauseCode) (rest whole : Clauses) : Type 0 where
  pub gives : after_made made (run (rule_clauses now before rest)) ≡ run (rule_clauses start [] whole)
  pub same : now ≡ numbered_as start now
  pub numbers : now.next_local + clause_locals rest ≡ start.next_local + clause_locals whole
  pub regions : now.next_region + clause_regions rest ≡ start.next_region + clause_regions whole
  pub taken : clause_names rest ++ now.taken ≡ clause_names whole ++ start.taken

-- Returns the scope after one clause of a `catch`.
abbrev pub after_one : Scope → Option Named → Items → Scope
after_one g v is = after_clause g (counted v) is

alone : (g : Scope) (x : Named) (v : Option Named) (is : Items) → after_clauses g (Case x v is NoClauses) ≡ after_one g v is
alone g x v is =
    let n : g.next_local + (counted v + item_locals is + 0) ≡ g.next_local + (counted v + item_locals is) = omega arith in
    let r : g.next_region + (suc (item_regions is) + 0) ≡ g.next_region + suc (item_regions is) = omega arith in
    ap (λ (k : ℕ). record (after_clauses g (Case x v is NoClauses)) { next_local = k }) n ∙ ap (λ (k : ℕ). record (after_one g v is) { next_region = k }) r

pub catch_goes_on : (start now new : Scope) (before : List ℕ) (made : List ClauseCode) (x : Named) (v : Option Named) (is : Items) (rest whole : Clauses) (c : ClauseCode) → CaughtSoFar start now before made (Case x v is rest) whole
    → run (rule_clauses now before (Case x v is NoClauses)) ≡ Ok (view_clause c) → new ≡ after_clauses now (Case x v is NoClauses) → CaughtSoFar start new (x.name ∷ before) (made ++ c ∷ []) rest whole
catch_goes_on start now new before made x v is rest whole c w h n =
    subst (λ (g : Scope). CaughtSoFar start g (x.name ∷ before) (made ++ c ∷ []) rest whole) (sym (n ∙ alone now x v is)) (record {
      gives =
          sym (ap (after_made made) (with_rest (run (caught now (exception_among now.exceptions x.name) before x v)) (run (rule_items (with_caught v (in_block now)) is)) (option_map (λ (y : Named). now.next_local) v) now.next_region c (run (rule_clauses (after_one now v is) (x.name ∷ before) rest)) h)
          ∙ regrouped_clauses made c (run (rule_clauses (after_one now v is) (x.name ∷ before) rest)))
          ∙ w.gives;
      same = ap (λ (g : Scope). record g { next_local = now.next_local + (counted v + item_locals is); next_region = now.next_region + suc (item_regions is); taken = item_names is ++ now.taken }) w.same;
      numbers = omega (arith, w.numbers);
      regions = omega (arith, w.regions);
      taken = sym (append_assoc (clause_names rest) (item_names is) now.taken) ∙ w.taken;
    })

pub catch_stops : (e : Stop) (start now : Scope) (before : List ℕ) (made : List ClauseCode) (x : Named) (v : Option Named) (is : Items) (rest whole : Clauses) → CaughtSoFar start now before made (Case x v is rest) whole
    → Stops e (run (rule_clauses now before (Case x v is NoClauses))) → Stops e (run (rule_clauses start [] whole))
catch_stops stops.Memory start now before made x v is rest whole w h = tt
catch_stops (stops.Refused f) start now before made x v is rest whole w h =
    sym w.gives
    ∙ ap (after_made made) (stopped_before_rest (run (caught now (exception_among now.exceptions x.name) before x v)) (run (rule_items (with_caught v (in_block now)) is)) (option_map (λ (y : Named). now.next_local) v) now.next_region (run (rule_clauses (after_one now v is) (x.name ∷ before) rest)) (stops.Refused f) h)

-- ---- clauses followed by a default clause

abbrev then_default : typed.Clauses → typed.Clauses → typed.Clauses
then_default typed.NoClauses d = d
then_default (typed.Default r js) d = typed.Default r js
then_default (typed.Case n v r js cs) d = typed.Case n v r js (then_default cs d)

made_then_default : (made : List ClauseCode) (d : typed.Clauses) → then_default (view.clauses_of made typed.NoClauses) d ≡ view.clauses_of made d
made_then_default [] d = refl
made_then_default (c ∷ cs) d = ap (typed.Case c.tag c.number c.region (view.items_of c.items.items)) (made_then_default cs d)

-- Returns the catch clauses followed by the statements of the default clause, whose region has the index `q`.
abbrev defaulted : Checked typed.Clauses → Checked typed.Items → ℕ → Checked typed.Clauses
defaulted o items q = and_then o (λ ds. and_then items (λ ks. Ok (then_default ds (typed.Default q ks))))

assembled_after : (a : Checked ℕ) (b : Checked typed.Items) (v : Option ℕ) (r : ℕ) (o : Checked typed.Clauses) (items : Checked typed.Items) (q : ℕ)
    → assembled a b v r (defaulted o items q) ≡ defaulted (assembled a b v r o) items q
assembled_after (Ok n) (Ok js) v r (Ok ds) (Ok ks) q = refl
assembled_after (Ok n) (Ok js) v r (Ok ds) (Err f) q = refl
assembled_after (Ok n) (Ok js) v r (Err f) items q = refl
assembled_after (Ok n) (Err f) v r o items q = refl
assembled_after (Err f) b v r o items q = refl

none_after : (g : Scope) → after_clauses g NoClauses ≡ g
none_after g =
    let n : g.next_local + 0 ≡ g.next_local = omega arith in
    let r : g.next_region + 0 ≡ g.next_region = omega arith in
    ap (λ (k : ℕ). record (after_clauses g NoClauses) { next_local = k }) n ∙ ap (λ (k : ℕ). record g { next_region = k }) r

first_after : (g : Scope) (x : Named) (v : Option Named) (is : Items) (cs : Clauses) → after_clauses (after_one g v is) cs ≡ after_clauses g (Case x v is cs)
first_after g x v is cs =
    let n : g.next_local + (counted v + item_locals is) + clause_locals cs ≡ g.next_local + (counted v + item_locals is + clause_locals cs) = omega arith in
    let r : g.next_region + suc (item_regions is) + clause_regions cs ≡ g.next_region + (suc (item_regions is) + clause_regions cs) = omega arith in
    ap (λ (k : ℕ). record (after_clauses (after_one g v is) cs) { next_local = k }) n
    ∙ ap (λ (k : ℕ). record (after_clauses (after_one g v is) cs) { next_local = g.next_local + (counted v + item_locals is + clause_locals cs); next_region = k }) r
    ∙ ap (λ (ns : List ℕ). record (after_clauses g (Case x v is cs)) { taken = ns }) (sym (append_assoc (clause_names cs) (item_names is) g.taken))

-- Returns the typed declarations and statements of a default catch clause, as the typing rule checks them.
abbrev pub default_items : Scope → List Clause → Items → Checked typed.Items
default_items g cs is = run (rule_items (in_block (after_clauses g (clauses_of cs NoClauses))) is)

-- Returns the index of the exception that a catch clause catches, or its fault.
abbrev number_caught : Scope → List ℕ → Clause → Checked ℕ
number_caught g before c = run (caught g (exception_among g.exceptions c.exception.name.number) before (view_name c.exception) (option_map view_name c.variable))

abbrev items_caught : Scope → Clause → Checked typed.Items
items_caught g c = run (rule_items (with_caught (option_map view_name c.variable) (in_block g)) (items_of c.items.items))

abbrev clause_of : Scope → List ℕ → Clause → Checked typed.Clauses → Checked typed.Clauses
clause_of g before c rest = assembled (number_caught g before c) (items_caught g c) (option_map (λ (y : Named). g.next_local) (option_map view_name c.variable)) g.next_region rest

abbrev after_first : Scope → Clause → Scope
after_first g c = after_one g (option_map view_name c.variable) (items_of c.items.items)

with_default : (g : Scope) (before : List ℕ) (cs : List Clause) (is : Items)
    → run (rule_clauses g before (clauses_of cs (Default is))) ≡ defaulted (run (rule_clauses g before (clauses_of cs NoClauses))) (default_items g cs is) (after_clauses g (clauses_of cs NoClauses)).next_region
with_default g before [] is =
    sym (ap (λ (h : Scope). and_then (run (rule_items (in_block h) is)) (λ js. Ok (typed.Default h.next_region js))) (none_after g))
with_default g before (c ∷ cs) is =
    ap (clause_of g before c) (with_default (after_first g c) (c.exception.name.number ∷ before) cs is)
    ∙ ap (λ (h : Scope). clause_of g before c (defaulted (run (rule_clauses (after_first g c) (c.exception.name.number ∷ before) (clauses_of cs NoClauses))) (run (rule_items (in_block h) is)) h.next_region))
    (first_after g (view_name c.exception) (option_map view_name c.variable) (items_of c.items.items) (clauses_of cs NoClauses))
    ∙ assembled_after (number_caught g before c) (items_caught g c) (option_map (λ (y : Named). g.next_local) (option_map view_name c.variable)) g.next_region
    (run (rule_clauses (after_first g c) (c.exception.name.number ∷ before) (clauses_of cs NoClauses))) (default_items g (c ∷ cs) is) (after_clauses g (clauses_of (c ∷ cs) NoClauses)).next_region

-- The result for a `catch` whose default clause is checked after its other clauses.
pub default_gives : (g : Scope) (cs : List Clause) (made : List ClauseCode) (is : Items) (d : typed.Clauses) → run (rule_clauses g [] (clauses_of cs NoClauses)) ≡ Ok (view.clauses_of made typed.NoClauses)
    → and_then (default_items g cs is) (λ js. Ok (typed.Default (after_clauses g (clauses_of cs NoClauses)).next_region js)) ≡ Ok d → run (rule_clauses g [] (clauses_of cs (Default is))) ≡ Ok (view.clauses_of made d)
default_gives g cs made is d h k =
    with_default g [] cs is ∙ ap (λ o. defaulted o (default_items g cs is) (after_clauses g (clauses_of cs NoClauses)).next_region) h
    ∙ last (default_items g cs is) (after_clauses g (clauses_of cs NoClauses)).next_region k ∙ ap Ok (made_then_default made d)
  where
    last : (items : Checked typed.Items) (q : ℕ) → and_then items (λ js. Ok (typed.Default q js)) ≡ Ok d
        → and_then items (λ ks. Ok (then_default (view.clauses_of made typed.NoClauses) (typed.Default q ks))) ≡ Ok (then_default (view.clauses_of made typed.NoClauses) d)
    last (Ok js) q e = ap (λ x. Ok (then_default (view.clauses_of made typed.NoClauses) x)) (from_ok (typed.Default q js) d e)
    last (Err f) q e = absurd (cc)

pub clauses_stop : (e : Stop) (g : Scope) (cs : List Clause) (is : Items) → Stops e (run (rule_clauses g [] (clauses_of cs NoClauses))) → Stops e (run (rule_clauses g [] (clauses_of cs (Default is))))
clauses_stop stops.Memory g cs is h = tt
clauses_stop (stops.Refused f) g cs is h = with_default g [] cs is ∙ ap (λ o. defaulted o (default_items g cs is) (after_clauses g (clauses_of cs NoClauses)).next_region) h

pub default_stops : (e : Stop) (g : Scope) (cs : List Clause) (made : List ClauseCode) (is : Items) → run (rule_clauses g [] (clauses_of cs NoClauses)) ≡ Ok (view.clauses_of made typed.NoClauses)
    → Stops e (and_then (default_items g cs is) (λ js. Ok (typed.Default (after_clauses g (clauses_of cs NoClauses)).next_region js))) → Stops e (run (rule_clauses g [] (clauses_of cs (Default is))))
default_stops stops.Memory g cs made is h k = tt
default_stops (stops.Refused f) g cs made is h k =
    with_default g [] cs is ∙ ap (λ o. defaulted o (default_items g cs is) (after_clauses g (clauses_of cs NoClauses)).next_region) h ∙ last (default_items g cs is) (after_clauses g (clauses_of cs NoClauses)).next_region k
  where
    last : (items : Checked typed.Items) (q : ℕ) → and_then items (λ js. Ok (typed.Default q js)) ≡ Err f → and_then items (λ ks. Ok (then_default (view.clauses_of made typed.NoClauses) (typed.Default q ks))) ≡ Err f
    last (Ok js) q e = absurd (cc)
    last (Err g) q e = e

default_locals : (cs : List Clause) (is : Items) → clause_locals (clauses_of cs (Default is)) ≡ clause_locals (clauses_of cs NoClauses) + item_locals is
default_locals [] is = omega arith
default_locals (c ∷ cs) is = let h = default_locals cs is in omega (arith, h)

default_regions : (cs : List Clause) (is : Items) → clause_regions (clauses_of cs (Default is)) ≡ clause_regions (clauses_of cs NoClauses) + suc (item_regions is)
default_regions [] is = omega arith
default_regions (c ∷ cs) is = let h = default_regions cs is in omega (arith, h)

default_names : (cs : List Clause) (is : Items) → clause_names (clauses_of cs (Default is)) ≡ item_names is ++ clause_names (clauses_of cs NoClauses)
default_names [] is = sym (append-nil (item_names is))
default_names (c ∷ cs) is = ap (λ ns. ns ++ item_names (items_of c.items.items)) (default_names cs is) ∙ append_assoc (item_names is) (clause_names (clauses_of cs NoClauses)) (item_names (items_of c.items.items))

pub try_after : (g : Scope) (p : Place) (t : Statement) (cs : Clauses) → after_clauses (following g t) cs ≡ following g (Try p t cs)
try_after g p t cs =
    let n : g.next_local + locals_in t + clause_locals cs ≡ g.next_local + (locals_in t + clause_locals cs) = omega arith in
    let r : g.next_region + regions_in t + clause_regions cs ≡ g.next_region + (regions_in t + clause_regions cs) = omega arith in
    ap (λ (k : ℕ). record (after_clauses (following g t) cs) { next_local = k }) n
    ∙ ap (λ (k : ℕ). record (after_clauses (following g t) cs) { next_local = g.next_local + (locals_in t + clause_locals cs); next_region = k }) r
    ∙ ap (λ (ns : List ℕ). record (following g (Try p t cs)) { taken = ns }) (sym (append_assoc (clause_names cs) (names_in t) g.taken))

pub default_after : (g : Scope) (cs : List Clause) (is : Items) → following_block (after_clauses g (clauses_of cs NoClauses)) is ≡ after_clauses g (clauses_of cs (Default is))
default_after g cs is =
    let n : g.next_local + clause_locals (clauses_of cs NoClauses) + item_locals is ≡ g.next_local + clause_locals (clauses_of cs (Default is)) = omega (arith, default_locals cs is) in
    let r : g.next_region + clause_regions (clauses_of cs NoClauses) + suc (item_regions is) ≡ g.next_region + clause_regions (clauses_of cs (Default is)) = omega (arith, default_regions cs is) in
    ap (λ (k : ℕ). record (following_block (after_clauses g (clauses_of cs NoClauses)) is) { next_local = k }) n
    ∙ ap (λ (k : ℕ). record (following_block (after_clauses g (clauses_of cs NoClauses)) is) { next_local = g.next_local + clause_locals (clauses_of cs (Default is)); next_region = k }) r
    ∙ ap (λ (ns : List ℕ). record (after_clauses g (clauses_of cs (Default is))) { taken = ns })
    (sym (append_assoc (item_names is) (clause_names (clauses_of cs NoClauses)) g.taken) ∙ ap (λ ns. ns ++ g.taken) (sym (default_names cs is)))

-- ---- the scope after one clause

inside_caught : (v : Option Named) (g : Scope) → Inside g (with_caught v g)
inside_caught None g = inside_itself g
inside_caught (Some x) g = inside_local Ordinary x Int g

local_caught : (v : Option Named) (g : Scope) → (with_caught v g).next_local ≡ g.next_local + counted v
local_caught None g = omega arith
local_caught (Some x) g = omega arith

region_caught : (v : Option Named) (g : Scope) → (with_caught v g).next_region ≡ g.next_region
region_caught None g = refl
region_caught (Some x) g = refl

taken_caught : (v : Option Named) (g : Scope) → (with_caught v g).taken ≡ g.taken
taken_caught None g = refl
taken_caught (Some x) g = refl

inside_clause : (g n : Scope) (v : Option Named) (is : Items) → IsAfterItems (with_caught v (in_block g)) is n → Inside g n
inside_clause g n v is b = inside_through g (in_block g) n (inside_block g) (inside_through (in_block g) (with_caught v (in_block g)) n (inside_caught v (in_block g)) b.inside)

pub clause_left : (g n : Scope) (x : Named) (v : Option Named) (is : Items) → IsAfterItems (with_caught v (in_block g)) is n → left_to (mark_of g) n ≡ after_clauses g (Case x v is NoClauses)
clause_left g n x v is b =
    let count : n.next_local ≡ g.next_local + (counted v + item_locals is) = omega (arith, b.numbers, local_caught v (in_block g)) in
    let regions : n.next_region ≡ g.next_region + suc (item_regions is) = omega (arith, b.regions, region_caught v (in_block g)) in
    left_numbered g n (inside_clause g n v is b)
    ∙ ap (λ (k : ℕ). record (numbered_as g n) { next_local = k }) count
    ∙ ap (λ (k : ℕ). record (numbered_as g n) { next_local = g.next_local + (counted v + item_locals is); next_region = k }) regions
    ∙ ap (λ (ns : List ℕ). record (after_one g v is) { taken = ns }) (b.taken ∙ ap (λ ns. item_names is ++ ns) (taken_caught v (in_block g)))
    ∙ sym (alone g x v is)

pub clause_order : (g n : Scope) (v : Option Named) (is : Items) → IsInOrder g → IsAfterItems (with_caught v (in_block g)) is n → IsInOrder (left_to (mark_of g) n)
clause_order g n v is o b = order_left g n o (inside_clause g n v is b) (omega (arith, b.regions, region_caught v (in_block g)))

pub clause_is_left : (g h k n : Scope) (m : Mark) (x : Named) (v : Option Named) (is : Items) → m ≡ mark_of g → h ≡ in_block g → k ≡ with_caught v h → IsAfterItems k is n → left_to m n ≡ after_clauses g (Case x v is NoClauses)
clause_is_left g h k n m x v is at entered caught b = ap (λ (y : Mark). left_to y n) at ∙ clause_left g n x v is (subst (λ y. IsAfterItems y is n) (caught ∙ ap (with_caught v) entered) b)

pub clause_in_order : (g h k n : Scope) (m : Mark) (v : Option Named) (is : Items) → m ≡ mark_of g → h ≡ in_block g → k ≡ with_caught v h → IsInOrder g → IsAfterItems k is n → IsInOrder (left_to m n)
clause_in_order g h k n m v is at entered caught o b = subst (λ (y : Mark). IsInOrder (left_to y n)) (sym at) (clause_order g n v is o (subst (λ y. IsAfterItems y is n) (caught ∙ ap (with_caught v) entered) b))
