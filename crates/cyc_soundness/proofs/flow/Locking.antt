-- A lent value stays in its variable to the end of the block that lends it: until then, no reachable code moves, assigns or lends
-- the local again.
use Rattle.std.proofs.Common.{◌≡◌, ◌<◌, arith, ℕ, zero, suc, Bool, true, false, not, ◌+◌, ◌||◌, ◌&&◌, List, [], ◌∷◌, ◌++◌, Option, Some, None, refl, sym, ap, subst, ◌∙◌}
use Rattle.std.specs.Prelude.{◌≢◌, get_or, slice_set, if◌then◌else◌}
use Rattle.std.proofs.lemmas.List.{get_or-set_other}
use Rattle.std.proofs.lemmas.Bool.{not-true, and_parts, or_parts}
use Rattle.cyc_words.proofs.Booleans.{and_false_cases}
use Rattle.cyc_types.specs.Types.{ValueType, Void, Null, Value}
use Rattle.cyc_types.specs.Declarations.{declared_regions, item_regions}
use Rattle.cyc_types.specs.TypedTrees.{Local, Global, Expression, Number, NullPointer, HeapRegion, Counter, Copy, Move, Peek, Load, AddressOf, AddressOfCell, NumberOfElements, FreeUnique, FreeKey, Call, Unary, Binary}
use Rattle.cyc_types.specs.TypedTrees.{Assign, Store, New, Dereference, Target, Member, Element, Placement, OnHeap, AsUnique, ByHandle, Initial, Plain, Fields, Array, Converted, Convert, Arguments, NoArguments}
use Rattle.cyc_types.specs.TypedTrees.{MoreArguments, Operations, NoOperations, ThenCompute, ThenTest, ThenPointer, ThenPointerPeek, Lvalue, Side, VariableSide, CellSide, Statement, Block, Empty, Evaluate, Swap, If}
use Rattle.cyc_types.specs.TypedTrees.{While, Return, Break, Continue, Throw, Try, Items, NoItems, MoreItems, Execute, Declare, DeclareRegion, OpenRegion, DeclareAlias, DeclareKey, Clauses, NoClauses, Default, Case, Program}
use Rattle.cyc_types.specs.Rules.{Derives}
use Rattle.cyc_types.specs.flow.States as flow
use Rattle.cyc_types.specs.flow.States.{Fullness, Vacant, Locked, Full, Unreached, Reached, lower, lower_each, is_reached, is_vacant, is_locked, fullness, meet, with_fullness, with_each, emptied}
use Rattle.cyc_types.specs.flow.Touched.{touched_statement}
use Rattle.cyc_types.specs.flow.Expressions.{is_free, stored, and_peeked, peek_of, peek_after, rule, rule_place, rule_placement, rule_initial, rule_converted, rule_arguments, rule_operations}
use Rattle.cyc_types.specs.flow.Statements.{Around, Known, at, in_loop, left_loop, peeked_side, rule_value, rule_thrown, rule_side, rule_declared, locks_of, caught, or_clause, rule_statement, rule_items, rule_clauses}
use Rattle.cyc_types.specs.flow.Statements as statements
use Rattle.cyc_soundness.specs.inside.guard.Held.{Guard, nowhere, updated}
use Rattle.cyc_soundness.proofs.guard.Bools.{updated_true}
use Rattle.cyc_soundness.proofs.guard.Fitting.{Fits, Leaves}
use Rattle.cyc_soundness.proofs.guard.Numbers.{IsFreshCaught, IsFresh, AreFresh, AreFreshClauses}
use Rattle.cyc_soundness.proofs.guard.Followed.{ItemsFit, followed_items}
use Rattle.cyc_types.specs.typing.WellTyped.{LocalInScope, Context}
use Rattle.cyc_soundness.proofs.guard.WellNumbered.{InScope as AreScoped}
use Rattle.cyc_soundness.proofs.guard.States.{set_there}
use Rattle.cyc_soundness.specs.inside.Lives.{Lives}
use Rattle.cyc_soundness.specs.inside.Frames.{InScope, Variable, Level, Names, Instance, Home, lives_in, IsScope, AreBelow, Exits, IsContext}
use Rattle.cyc_soundness.specs.inside.Worlds.{IsAmong, first, later}
use Rattle.cyc_soundness.specs.inside.Classes.{Relied, only, may_end, items_may_end, clauses_may_end, SparesAssigned, InExpression, InPlace, InPlacement, InInitial, InConverted, InArguments, InOperations, InValue, InThrown, InSide, InStatement, InItems, InClauses}
use Rattle.cyc_soundness.proofs.flow.Touched.{holds_where_asked, asked_of, asked_nothing}
use Rattle.cyc_soundness.proofs.flow.Looking.{only_other}

-- ---- unreachable code

-- The guard, that is, the set of locked locals, that matches a flow state.
abbrev guard_at : flow.State → Guard
guard_at f = record { relied = nowhere; locked = λ n. is_locked (fullness f n); peeked = nowhere }

fits_own : (f : flow.State) → Fits (guard_at f) false f
fits_own Unreached = tt
fits_own (Reached as') = λ n. (refl, λ s. let k : false ≡ true = s in absurd (cc))

unreached_is : (f : flow.State) → is_reached f ≡ false → f ≡ Unreached
unreached_is Unreached e = refl
unreached_is (Reached as') e = let k : true ≡ false = e in absurd (cc)

-- Code after unreachable code is unreachable, and no reachable `break` in this code leaves the enclosing loop.
module _ (w : ℕ → Bool) (c : Around) (js : Items) (a b : Known) (fresh : AreFresh w js) (flows : Derives (rule_items c js a) b) (none : is_reached a.now ≡ false) where
  unreached_fit : (o : Guard) (d : Bool) → Fits o d a.breaks → (is_reached b.now ≡ false) × Fits o d b.breaks
  unreached_fit o d before =
      let p : Guard = record { relied = nowhere; locked = w; peeked = nowhere } in
      let fit : ItemsFit (locks_of js) p true o d b =
      followed_items p true o d c js a b [] (unreached_is a.now none) before tt fresh (λ n s h. let k : false ≡ true = s in absurd (cc)) flows in
      (go fit.inner fit.never p fit.leaves fit.now, fit.breaks)
    where
      go : (q : Guard) (never : Bool) (p : Guard) → Leaves (locks_of js) q never p true → Fits q never b.now → is_reached b.now ≡ false
      go q true p leaves now = ap is_reached now
      go q false p leaves now = absurd leaves

  items_unreached : is_reached b.now ≡ false
  items_unreached = (unreached_fit (guard_at a.breaks) false (fits_own a.breaks)).0

  breaks_locked : (n : ℕ) → (is_reached a.breaks ≡ true → is_locked (fullness a.breaks n) ≡ true) → is_reached b.breaks ≡ true → is_locked (fullness b.breaks n) ≡ true
  breaks_locked n before reached = go a.breaks refl before
    where
      same_locked : (f g : flow.State) → Fits (guard_at f) false g → is_reached g ≡ true → is_locked (fullness f n) ≡ true → is_locked (fullness g n) ≡ true
      same_locked f Unreached fit reached locked = let k : false ≡ true = reached in absurd (cc)
      same_locked f (Reached bs) fit reached locked = (fit n).0 ∙ locked

      go : (f : flow.State) → a.breaks ≡ f → (is_reached a.breaks ≡ true → is_locked (fullness a.breaks n) ≡ true) → is_locked (fullness b.breaks n) ≡ true
      go Unreached same before =
          let gone : b.breaks ≡ Unreached = (unreached_fit (guard_at a.breaks) true same).1 in
          let k : true ≡ false = sym reached ∙ ap is_reached gone in absurd (cc)
      go (Reached as') same before = same_locked a.breaks b.breaks (unreached_fit (guard_at a.breaks) false (fits_own a.breaks)).1 reached (before (ap is_reached same))

each_reached : (a : Fullness) (ns : List ℕ) (f : flow.State) → is_reached (with_each a ns f) ≡ is_reached f
each_reached a [] f = refl
each_reached a (n ∷ ns) Unreached = each_reached a ns Unreached
each_reached a (n ∷ ns) (Reached as') = each_reached a ns (Reached (slice_set as' n a))

meet_none : (f g : flow.State) → is_reached f ≡ false → is_reached g ≡ false → is_reached (meet f g) ≡ false
meet_none Unreached g none both = both
meet_none (Reached as') g none both = let k : true ≡ false = none in absurd (cc)

reached_meet_left : (f g : flow.State) → is_reached f ≡ true → is_reached (meet f g) ≡ true
reached_meet_left Unreached g reached = let k : false ≡ true = reached in absurd (cc)
reached_meet_left (Reached as') Unreached reached = refl
reached_meet_left (Reached as') (Reached bs) reached = refl

reached_meet_right : (f g : flow.State) → is_reached g ≡ true → is_reached (meet f g) ≡ true
reached_meet_right Unreached g reached = reached
reached_meet_right (Reached as') Unreached reached = refl
reached_meet_right (Reached as') (Reached bs) reached = refl

-- If control never reaches the end of a statement, then the flow rules record that the code after the statement is unreachable.
mutual
  never_statement : (w : ℕ → Bool) (c : Around) (s : Statement) (a b : Known) → IsFresh w s → Derives (rule_statement c s a) b → may_end s ≡ false → is_reached b.now ≡ false
  never_statement w c (Block r js) a b fresh (l, d, (u, same)) e = subst (λ (z : Known). is_reached z.now ≡ false) (sym same) (each_reached Full (locks_of js) l.now ∙ never_items w c js a l fresh d e)
  never_statement w c Empty a b fresh flows e = let k : true ≡ false = e in absurd (cc)
  never_statement w c (Evaluate x) a b fresh flows e = let k : true ≡ false = e in absurd (cc)
  never_statement w c (Swap x y) a b fresh flows e = let k : true ≡ false = e in absurd (cc)
  never_statement w c (If x s t) a b (one, two) (f, d, (l, ds, (m, dt, (u, same)))) e =
      let none = or_parts (may_end s) (may_end t) e in
      subst (λ (z : Known). is_reached z.now ≡ false) (sym same) (meet_none l.now m.now (never_statement w c s (at f a) l one ds none.0) (never_statement w c t (at f l) m two dt none.1))
  never_statement w c (While p x s) a b fresh flows e = let k : true ≡ false = e in absurd (cc)
  never_statement w c (Return v) a b fresh (f, d, (u, same)) e = ap (λ (z : Known). is_reached z.now) same
  never_statement w c Break a b fresh (u, same) e = ap (λ (z : Known). is_reached z.now) same
  never_statement w c Continue a b fresh (demands, same) e = ap (λ (z : Known). is_reached z.now) same
  never_statement w c (Throw t v) a b fresh (f, d, (u, same)) e = ap (λ (z : Known). is_reached z.now) same
  never_statement w c (Try s cs) a b (one, two) (l, ds, dcs) e =
      let none = or_parts (may_end s) (clauses_may_end cs) e in
      never_clauses w c (caught a.now s) cs l b two dcs none.1 (never_statement w c s a l one ds none.0)

  never_items : (w : ℕ → Bool) (c : Around) (js : Items) (a b : Known) → AreFresh w js → Derives (rule_items c js a) b → items_may_end js ≡ false → is_reached b.now ≡ false
  never_items w c NoItems a b fresh flows e = let k : true ≡ false = e in absurd (cc)
  never_items w c (MoreItems (Execute s) js) a b (one, fresh) (l, d, ds) e =
      and_false_cases (may_end s) (items_may_end js) e (λ same. items_unreached w (statements.following_item (Execute s) c) js l b fresh ds (never_statement w c s a l one d same))
      (λ rest. never_items w (statements.following_item (Execute s) c) js l b fresh ds rest)
  never_items w c (MoreItems (Declare n t v) js) a b (one, fresh) (l, d, ds) e = never_items w (statements.following_item (Declare n t v) c) js l b fresh ds e
  never_items w c (MoreItems (DeclareRegion r n) js) a b (one, fresh) (l, d, ds) e = never_items w (statements.following_item (DeclareRegion r n) c) js l b fresh ds e
  never_items w c (MoreItems (OpenRegion r n p k) js) a b (one, fresh) (l, d, ds) e = never_items (updated w k true) (statements.following_item (OpenRegion r n p k) c) js l b fresh ds e
  never_items w c (MoreItems (DeclareAlias r n t p k) js) a b (one, fresh) (l, d, ds) e = never_items (updated w k true) (statements.following_item (DeclareAlias r n t p k) c) js l b fresh ds e
  never_items w c (MoreItems (DeclareKey r n) js) a b (one, fresh) (l, d, ds) e = never_items w (statements.following_item (DeclareKey r n) c) js l b fresh ds e

  never_clauses : (w : ℕ → Bool) (c : Around) (start : flow.State) (cs : Clauses) (a b : Known) → AreFreshClauses w cs → Derives (rule_clauses c start cs a) b → clauses_may_end cs ≡ false → is_reached a.now ≡ false → is_reached b.now ≡ false
  never_clauses w c start NoClauses a b fresh (u, same) e none = ap (λ (z : Known). is_reached z.now) same ∙ none
  never_clauses w c start (Default r js) a b fresh (l, d, (u, same)) e none =
      subst (λ (z : Known). is_reached z.now ≡ false) (sym same) (meet_none a.now (with_each Full (locks_of js) l.now) none (each_reached Full (locks_of js) l.now ∙ never_items w c js (at start a) l fresh d e))
  never_clauses w c start (Case t n r js cs) a b (caught', fresh, more) (l, d, ds) e none =
      let both = or_parts (items_may_end js) (clauses_may_end cs) e in
      never_clauses w c start cs (or_clause a.now js l) b more ds both.1
      (meet_none a.now (with_each Full (locks_of js) l.now) none (each_reached Full (locks_of js) l.now ∙ never_items w c js (at (statements.with_caught n start) a) l fresh d both.0))

-- Control reaches the end of a statement only if `may_end` holds for the statement.
pub ends_so : (w : ℕ → Bool) (c : Around) (s : Statement) (a b : Known) → IsFresh w s → Derives (rule_statement c s a) b → is_reached b.now ≡ true → may_end s ≡ true
ends_so w c s a b fresh flows reached = go (may_end s) refl
  where
    go : (z : Bool) → may_end s ≡ z → may_end s ≡ true
    go true same = same
    go false same = let k : true ≡ false = sym reached ∙ never_statement w c s a b fresh flows same in absurd (cc)

-- ---- locks

module _ (n : ℕ) where
  -- Says that the local is lent (its value is borrowed for the length of a block) in this flow state, if the state is reachable.
  abbrev pub IsLockedIn : flow.State → Type 0
  IsLockedIn f = (is_reached f ≡ true) × (is_locked (fullness f n) ≡ true)

  abbrev IsLockedIf : flow.State → Type 0
  IsLockedIf f = is_reached f ≡ true → is_locked (fullness f n) ≡ true

  abbrev IsOut : List ℕ → Type 0
  IsOut ks = IsAmong n ks → ⊥

  locked_if : (f : flow.State) → IsLockedIn f → IsLockedIf f
  locked_if f locked reached = locked.1

  pub locked_with : (a : Fullness) (f : flow.State) (k : ℕ) → n ≢ k → IsLockedIn f → IsLockedIn (with_fullness a f k)
  locked_with a Unreached k apart (reached, locked) = let z : false ≡ true = reached in absurd (cc)
  locked_with a (Reached as') k apart (reached, locked) = (refl, ap is_locked (get_or-set_other as' k n a Vacant apart) ∙ locked)

  locked_apart : (f : flow.State) (k : ℕ) → IsLockedIn f → not (is_locked (fullness f k)) ≡ true → n ≢ k
  locked_apart f k locked free same = let z : not true ≡ true = sym (ap not (sym (ap (λ i. is_locked (fullness f i)) same) ∙ locked.1)) ∙ free in let y : false ≡ true = z in absurd (cc)

  lower_locked : (a b : Fullness) → is_locked a ≡ true → is_locked b ≡ true → is_locked (lower a b) ≡ true
  lower_locked Locked Locked one two = refl
  lower_locked Locked Vacant one two = let z : false ≡ true = two in absurd (cc)
  lower_locked Locked Full one two = let z : false ≡ true = two in absurd (cc)
  lower_locked Vacant b one two = let z : false ≡ true = one in absurd (cc)
  lower_locked Full b one two = let z : false ≡ true = one in absurd (cc)

  each_locked : (as' bs : List Fullness) (i : ℕ) → is_locked (get_or as' i Vacant) ≡ true → is_locked (get_or bs i Vacant) ≡ true → is_locked (get_or (lower_each as' bs) i Vacant) ≡ true
  each_locked [] bs i one two = one
  each_locked (a ∷ as') [] i one two = two
  each_locked (a ∷ as') (b ∷ bs) zero one two = lower_locked a b one two
  each_locked (a ∷ as') (b ∷ bs) (suc i) one two = each_locked as' bs i one two

  meet_if : (f g : flow.State) → IsLockedIf f → IsLockedIf g → IsLockedIf (meet f g)
  meet_if Unreached g one two = two
  meet_if (Reached as') Unreached one two = one
  meet_if (Reached as') (Reached bs) one two = λ reached. each_locked as' bs n (one refl) (two refl)

  meet_locked : (f g : flow.State) → IsLockedIn f → IsLockedIf g → IsLockedIn (meet f g)
  meet_locked f g one two = (reached_meet_left f g one.0, meet_if f g (locked_if f one) two (reached_meet_left f g one.0))

  each_still : (ks : List ℕ) (f : flow.State) → IsOut ks → IsLockedIn f → IsLockedIn (with_each Full ks f)
  each_still [] f out locked = locked
  each_still (k ∷ ks) f out locked =
      each_still ks (with_fullness Full f k) (λ among. out (later k ks among)) (locked_with Full f k (λ same. out (subst (λ i. IsAmong n (i ∷ ks)) same (first ks))) locked)

  emptied_locked : (ks : List ℕ) (f : flow.State) → IsLockedIn f → IsLockedIn (emptied ks f)
  emptied_locked [] f locked = locked
  emptied_locked (k ∷ ks) f locked = emptied_locked ks (if is_locked (fullness f k) then f else with_fullness Vacant f k) (go (is_locked (fullness f k)) refl)
    where
      go : (b : Bool) → is_locked (fullness f k) ≡ b → IsLockedIn (if b then f else with_fullness Vacant f k)
      go true same = locked
      go false same = locked_with Vacant f k (locked_apart f k locked (ap not same)) locked

  fresh_apart : (w : ℕ → Bool) (k : ℕ) → w n ≡ true → w k ≡ false → n ≢ k
  fresh_apart w k mine fresh same = let z : true ≡ false = sym mine ∙ ap w same ∙ fresh in absurd (cc)

  out_more : (ks : List ℕ) (k : ℕ) → IsOut ks → n ≢ k → IsOut (ks ++ k ∷ [])
  out_more [] k out apart (first as') = apart refl
  out_more [] k out apart (later b as' among) = out among
  out_more (j ∷ ks) k out apart (first as') = out (first ks)
  out_more (j ∷ ks) k out apart (later b as' among) = out_more ks k (λ is. out (later j ks is)) apart among

  out_none : (ks : List ℕ) → IsOut ks → IsOut (ks ++ [])
  out_none [] out among = out among
  out_none (j ∷ ks) out (first as') = out (first ks)
  out_none (j ∷ ks) out (later b as' among) = out_none ks (λ is. out (later j ks is)) among

  -- ---- expressions

  module _ (q : Relied) where
    abbrev locking : Relied
    locking = Reached (only n) ∷ q

    as_it_was : (f h : flow.State) → h ≡ f → IsLockedIn f → IsLockedIn h
    as_it_was f h same locked = subst (λ z. IsLockedIn z) (sym same) locked

    stored_locked : (w : List ℕ) (l : Lvalue) (f h : flow.State) → IsLockedIn f → Derives (stored w l f) h → IsLockedIn h
    stored_locked w (Local p k) f h locked (demands, same) = as_it_was (with_fullness Full f k) h same (locked_with Full f k (locked_apart f k locked (and_parts (not (is_locked (fullness f k))) (is_free w k f) demands.0).0) locked)
    stored_locked w (Global k) f h locked (unit, same) = as_it_was f h same locked

    stored_spared : (w : List ℕ) (l : Lvalue) (t : ValueType) (f h : flow.State) → IsLockedIn f → Derives (stored w l f) h → SparesAssigned q l t → SparesAssigned locking l t
    stored_spared w (Local p k) Void f h locked (demands, same) kept = (only_other n k (locked_apart f k locked (and_parts (not (is_locked (fullness f k))) (is_free w k f) demands.0).0), kept)
    stored_spared w (Local p k) Null f h locked flows kept = tt
    stored_spared w (Local p k) (Value t) f h locked flows kept = tt
    stored_spared w (Global k) t f h locked flows kept = tt

    mutual
      locks_expression : (a : Expression) (w : List ℕ) (f h : flow.State) → IsLockedIn f → Derives (rule w a f) h → InExpression q a → InExpression locking a × IsLockedIn h
      locks_expression (Number k) w f h locked (unit, same) kept = (kept, as_it_was f h same locked)
      locks_expression NullPointer w f h locked (unit, same) kept = (kept, as_it_was f h same locked)
      locks_expression HeapRegion w f h locked (unit, same) kept = (kept, as_it_was f h same locked)
      locks_expression (Counter l) w f h locked (unit, same) kept = (kept, as_it_was f h same locked)
      locks_expression (Copy (Local p k) t) w f h locked (demands, same) kept = (kept, as_it_was f h same locked)
      locks_expression (Copy (Global k) t) w f h locked (unit, same) kept = (kept, as_it_was f h same locked)
      locks_expression (Move p k t) w f h locked (demands, same) kept =
          let apart : n ≢ k = locked_apart f k locked demands.1.0 in
          ((only_other n k apart, kept), as_it_was (with_fullness Vacant f k) h same (locked_with Vacant f k apart locked))
      locks_expression (Peek p k t) w f h locked (demands, same) kept = (kept, as_it_was f h same locked)
      locks_expression (Load d) w f h locked flows kept = locks_place d w f h locked flows kept
      locks_expression (AddressOf (Local p k) t) w f h locked (demands, same) kept = (kept, as_it_was f h same locked)
      locks_expression (AddressOf (Global k) t) w f h locked (unit, same) kept = (kept, as_it_was f h same locked)
      locks_expression (AddressOfCell d t) w f h locked flows kept = locks_place d w f h locked flows kept
      locks_expression (NumberOfElements a) w f h locked flows kept = locks_expression a w f h locked flows kept
      locks_expression (FreeUnique a) w f h locked flows kept = locks_expression a w f h locked flows kept
      locks_expression (FreeKey a) w f h locked flows kept = locks_expression a w f h locked flows kept
      locks_expression (Call g as' t) w f h locked flows kept = locks_arguments as' w f h locked flows kept
      locks_expression (Unary o a) w f h locked flows kept = locks_expression a w f h locked flows kept
      locks_expression (Binary a os t) w f h locked (g, d, ds) (one, kept) =
          let (is, still) = locks_expression a w f g locked d one in
          let (are, end) = locks_operations os w g h still ds kept in ((is, are), end)
      locks_expression (Assign l c t) w f h locked (g, d, own) (one, kept) =
          let (is, still) = locks_converted c w f g locked d kept in ((stored_spared w l t g h still own one, is), stored_locked w l g h still own)
      locks_expression (Store d c t) w f h locked (g, dp, dc) (one, kept) =
          let (is, still) = locks_place d w f g locked dp one in
          let (are, end) = locks_converted c (and_peeked (peek_after d) w) g h still dc kept in ((is, are), end)
      locks_expression (New p i t) w f h locked (g, d, ds) (one, kept) =
          let (is, still) = locks_placement p w f g locked d one in
          let (are, end) = locks_initial i w g h still ds kept in ((is, are), end)

      locks_place : (d : Dereference) (w : List ℕ) (f h : flow.State) → IsLockedIn f → Derives (rule_place w d f) h → InPlace q d → InPlace locking d × IsLockedIn h
      locks_place (Target k a t) w f h locked flows kept = locks_expression a w f h locked flows kept
      locks_place (Member k a s l t) w f h locked flows kept = locks_expression a w f h locked flows kept
      locks_place (Element a i t) w f h locked (g, d, ds) (one, kept) =
          let (is, still) = locks_expression a w f g locked d one in
          let (are, end) = locks_expression i (and_peeked (peek_of a) w) g h still ds kept in ((is, are), end)

      locks_placement : (p : Placement) (w : List ℕ) (f h : flow.State) → IsLockedIn f → Derives (rule_placement w p f) h → InPlacement q p → InPlacement locking p × IsLockedIn h
      locks_placement OnHeap w f h locked (unit, same) kept = (kept, as_it_was f h same locked)
      locks_placement AsUnique w f h locked (unit, same) kept = (kept, as_it_was f h same locked)
      locks_placement (ByHandle a) w f h locked flows kept = locks_expression a w f h locked flows kept

      locks_initial : (i : Initial) (w : List ℕ) (f h : flow.State) → IsLockedIn f → Derives (rule_initial w i f) h → InInitial q i → InInitial locking i × IsLockedIn h
      locks_initial (Plain k a) w f h locked flows kept = locks_expression a w f h locked flows kept
      locks_initial (Fields as') w f h locked flows kept = locks_arguments as' w f h locked flows kept
      locks_initial (Array p l c k a) w f h locked (g, d, (g2, ds, (demands, same))) (one, kept) =
          let (is, still) = locks_expression c w f g locked d one in
          let (are, end) = locks_expression a w g g2 still ds kept in ((is, are), as_it_was g h same still)

      locks_converted : (c : Converted) (w : List ℕ) (f h : flow.State) → IsLockedIn f → Derives (rule_converted w c f) h → InConverted q c → InConverted locking c × IsLockedIn h
      locks_converted (Convert from to a) w f h locked flows kept = locks_expression a w f h locked flows kept

      locks_arguments : (as' : Arguments) (w : List ℕ) (f h : flow.State) → IsLockedIn f → Derives (rule_arguments w as' f) h → InArguments q as' → InArguments locking as' × IsLockedIn h
      locks_arguments NoArguments w f h locked (unit, same) kept = (kept, as_it_was f h same locked)
      locks_arguments (MoreArguments c as') w f h locked (g, d, ds) (one, kept) =
          let (is, still) = locks_converted c w f g locked d one in
          let (are, end) = locks_arguments as' w g h still ds kept in ((is, are), end)

      locks_operations : (os : Operations) (w : List ℕ) (f h : flow.State) → IsLockedIn f → Derives (rule_operations w os f) h → InOperations q os → InOperations locking os × IsLockedIn h
      locks_operations NoOperations w f h locked (unit, same) kept = (kept, as_it_was f h same locked)
      locks_operations (ThenCompute o a os) w f h locked (g, d, ds) (one, kept) =
          let (is, still) = locks_expression a w f g locked d one in
          let (are, end) = locks_operations os w g h still ds kept in ((is, are), end)
      locks_operations (ThenTest o a os) w f h locked (g, d, ds) (one, kept) =
          let (is, still) = locks_expression a w f g locked d one in
          let (are, end) = locks_operations os w (meet f g) h (meet_locked f g locked (locked_if g still)) ds kept in ((is, are), end)
      locks_operations (ThenPointer o a os) w f h locked (g, d, ds) (one, kept) =
          let (is, still) = locks_expression a w f g locked d one in
          let (are, end) = locks_operations os w g h still ds kept in ((is, are), end)
      locks_operations (ThenPointerPeek l o a os) w f h locked (g, d, ds) (one, kept) =
          let (is, still) = locks_expression a (and_peeked (Some l) w) f g locked d one in
          let (are, end) = locks_operations os w g h still ds kept in ((is, are), end)

    locks_value : (v : Option Converted) (f h : flow.State) → IsLockedIn f → Derives (rule_value v f) h → InValue q v → InValue locking v × IsLockedIn h
    locks_value None f h locked (unit, same) kept = (kept, as_it_was f h same locked)
    locks_value (Some c) f h locked flows kept = locks_converted c [] f h locked flows kept

    locks_thrown : (v : Option Expression) (f h : flow.State) → IsLockedIn f → Derives (rule_thrown v f) h → InThrown q v → InThrown locking v × IsLockedIn h
    locks_thrown None f h locked (unit, same) kept = (kept, as_it_was f h same locked)
    locks_thrown (Some a) f h locked flows kept = locks_expression a [] f h locked flows kept

    locks_side : (y : Side) (w : List ℕ) (f h : flow.State) → IsLockedIn f → Derives (rule_side w y f) h → InSide q y → InSide locking y × IsLockedIn h
    locks_side (VariableSide l t) w f h locked (unit, same) kept = (kept, as_it_was f h same locked)
    locks_side (CellSide d) w f h locked flows kept = locks_place d w f h locked flows kept

    locks_declared : (k : ℕ) (v : Option Converted) (f h : flow.State) → n ≢ k → IsLockedIn f → Derives (rule_declared k v f) h → InValue q v → InValue locking v × IsLockedIn h
    locks_declared k None f h apart locked (unit, same) kept = (kept, as_it_was (with_fullness Vacant f k) h same (locked_with Vacant f k apart locked))
    locks_declared k (Some c) f h apart locked (g, d, (unit, same)) kept =
        let (is, still) = locks_converted c [] f g locked d kept in (is, as_it_was (with_fullness Full g k) h same (locked_with Full g k apart still))

    -- ---- statements

    -- The requirements on reachable code while a local is lent, with the flow states after the code and at
    -- each `break` that leaves the loop.
    record Locks (A : Type 0) (end : Bool) (c : Around) (a b : Known) : Type 0 where
      kept : A
      now : IsLockedIf b.now
      reached : end ≡ true → is_reached b.now ≡ true
      breaks : IsOut c.locks → IsLockedIf a.breaks → IsLockedIf b.breaks

    goes_on : {A : Type 0} (c : Around) (a b : Known) (f : flow.State) → A → IsLockedIn f → b ≡ at f a → Locks A true c a b
    goes_on {A} c a b f kept locked same = subst (λ z. Locks A true c a z) (sym same) (record { kept = kept; now = locked_if f locked; reached = λ e. locked.0; breaks = λ out before. before })

    leaves : {A : Type 0} (c : Around) (a b : Known) → A → b ≡ at Unreached a → Locks A false c a b
    leaves {A} c a b kept same = subst (λ z. Locks A false c a z) (sym same) (record { kept = kept; now = λ e. (let k : false ≡ true = e in absurd (cc)); reached = λ e. (let k : false ≡ true = e in absurd (cc)); breaks = λ out before. before })

    end_if : (w : ℕ → Bool) (c : Around) (js : Items) (a l : Known) → AreFresh w js → Derives (rule_items c js a) l → (items_may_end js ≡ true → IsOut (locks_of js)) → IsLockedIf l.now → IsLockedIf (with_each Full (locks_of js) l.now)
    end_if w c js a l fresh flows out locked reached = go (items_may_end js) refl
      where
        there : is_reached l.now ≡ true
        there = sym (each_reached Full (locks_of js) l.now) ∙ reached

        go : (z : Bool) → items_may_end js ≡ z → is_locked (fullness (with_each Full (locks_of js) l.now) n) ≡ true
        go true same = (each_still (locks_of js) l.now (out same) (there, locked there)).1
        go false same = let k : true ≡ false = sym there ∙ never_items w c js a l fresh flows same in absurd (cc)

    -- The requirements on the catch clauses of a `try` while a local is lent, with the flow states after them and at their
    -- `break` statements.
    record LocksClauses (k : ℕ) (c : Around) (cs : Clauses) (a b : Known) : Type 0 where
      kept : InClauses locking k cs
      now : IsLockedIf b.now
      before : is_reached a.now ≡ true → is_reached b.now ≡ true
      reached : clauses_may_end cs ≡ true → is_reached b.now ≡ true
      breaks : IsOut c.locks → IsLockedIf a.breaks → IsLockedIf b.breaks

    either_end : (x y : Bool) (f g : flow.State) → (x ≡ true → is_reached f ≡ true) → (y ≡ true → is_reached g ≡ true) → (x || y) ≡ true → is_reached (meet f g) ≡ true
    either_end true y f g one two e = reached_meet_left f g (one refl)
    either_end false y f g one two e = reached_meet_right f g (two e)

    tried : (x y : Bool) (f g : flow.State) → (x ≡ true → is_reached f ≡ true) → (is_reached f ≡ true → is_reached g ≡ true) → (y ≡ true → is_reached g ≡ true) → (x || y) ≡ true → is_reached g ≡ true
    tried true y f g one on two e = on (one refl)
    tried false y f g one on two e = two e

    case_end : (x y : Bool) (g : flow.State) → (x ≡ true → is_reached g ≡ true) → (y ≡ true → is_reached g ≡ true) → (x || y) ≡ true → is_reached g ≡ true
    case_end true y g one two e = one refl
    case_end false y g one two e = two e

    caught_locked : (w : ℕ → Bool) (i : Option ℕ) (f : flow.State) → w n ≡ true → IsFreshCaught w i → IsLockedIn f → IsLockedIn (statements.with_caught i f)
    caught_locked w None f mine fresh locked = locked
    caught_locked w (Some k) f mine fresh locked = locked_with Full f k (fresh_apart w k mine fresh) locked

    lent_locked : (f h : flow.State) (l k : ℕ) → n ≢ k → n ≢ l → IsLockedIn f → h ≡ with_fullness Full (with_fullness Locked f k) l → IsLockedIn h
    lent_locked f h l k apart other locked same = as_it_was (with_fullness Full (with_fullness Locked f k) l) h same (locked_with Full (with_fullness Locked f k) l other (locked_with Locked f k apart locked))

    out_front : (k : ℕ) (ks : List ℕ) → n ≢ k → IsOut ks → IsOut (k ∷ ks)
    out_front k ks apart out (first as') = apart refl
    out_front k ks apart out (later b as' among) = out among

    -- If a statement may end, then the block items after it satisfy the requirements on code that runs while a local is lent.
    following_statement : (w : ℕ → Bool) (k : ℕ) (c : Around) (s : Statement) (js : Items) (a b l : Known) → AreFresh w js → Derives (rule_items (statements.following_item (Execute s) c) js l) b → Locks (InStatement locking k s) (may_end s) c a l → (may_end s ≡ false → is_reached l.now ≡ false)
        → (may_end s ≡ true → Locks (InItems locking (k + declared_regions s) js) (items_may_end js) (statements.following_item (Execute s) c) l b × (items_may_end js ≡ true → IsOut (locks_of js)))
        → Locks (InItems locking k (MoreItems (Execute s) js)) (may_end s && items_may_end js) c a b × ((may_end s && items_may_end js) ≡ true → IsOut (locks_of js))
    following_statement w k c s js a b l fresh flows y never on = go (may_end s) refl
      where
        go : (end : Bool) → may_end s ≡ end → Locks (InItems locking k (MoreItems (Execute s) js)) (may_end s && items_may_end js) c a b × ((may_end s && items_may_end js) ≡ true → IsOut (locks_of js))
        go true same =
            let (z, out) = on same in (
              record {
                kept = (y.kept, holds_where_asked (may_end s) z.kept);
                now = z.now;
                reached = λ e. z.reached (and_parts (may_end s) (items_may_end js) e).1;
                breaks = λ around before. z.breaks (out_none c.locks around) (y.breaks around before);
              },
              λ e. out (and_parts (may_end s) (items_may_end js) e).1,
            )
        go false same =
            let none : is_reached b.now ≡ false = items_unreached w (statements.following_item (Execute s) c) js l b fresh flows (never same) in (
              record {
                kept = (y.kept, asked_nothing (InItems locking (k + declared_regions s) js) (may_end s) same);
                now = λ e. (let z : true ≡ false = sym e ∙ none in absurd (cc));
                reached = λ e. (let z : false ≡ true = sym same ∙ (and_parts (may_end s) (items_may_end js) e).0 in absurd (cc));
                breaks = λ around before. breaks_locked w (statements.following_item (Execute s) c) js l b fresh flows (never same) n (y.breaks around before);
              },
              λ e. (let z : false ≡ true = sym same ∙ (and_parts (may_end s) (items_may_end js) e).0 in absurd (cc)),
            )

    mutual
      locks_statement : (w : ℕ → Bool) (k : ℕ) (c : Around) (s : Statement) (a b : Known) → w n ≡ true → IsFresh w s → IsLockedIn a.now → Derives (rule_statement c s a) b → InStatement q k s → Locks (InStatement locking k s) (may_end s) c a b
      locks_statement w k c (Block r js) a b mine fresh locked (l, d, (u, same)) kept =
          let (z, out) = locks_items w (suc k) c js a l mine fresh locked d kept in
          subst (λ y. Locks (InItems locking (suc k) js) (items_may_end js) c a y) (sym same) (record {
            kept = z.kept;
            now = end_if w c js a l fresh d out z.now;
            reached = λ e. each_reached Full (locks_of js) l.now ∙ z.reached e;
            breaks = z.breaks;
          })
      locks_statement w k c Empty a b mine fresh locked (u, same) kept = subst (λ y. Locks (Unit {0}) true c a y) (sym same) (record { kept = tt; now = locked_if a.now locked; reached = λ e. locked.0; breaks = λ out before. before })
      locks_statement w k c (Evaluate x) a b mine fresh locked (f, d, (u, same)) kept = let (is, still) = locks_expression x [] a.now f locked d kept in goes_on c a b f is still same
      locks_statement w k c (Swap x y) a b mine fresh locked (f, (g, d, (h, ds, (demands, known))), (u, same)) (one, kept) =
          let (is, still) = locks_side x [] a.now g locked d one in
          let (are, end) = locks_side y (and_peeked (peeked_side x) []) g h still ds kept in
          goes_on c a b f (is, are) (as_it_was h f known end) same
      locks_statement w k c (If x s t) a b mine (one, two) locked (f, d, (l, ds, (o, dt, (u, same)))) (kx, ks, kt) =
          let (is, still) = locks_expression x [] a.now f locked d kx in
          let y = locks_statement w k c s (at f a) l mine one still ds ks in
          let z = locks_statement w (k + declared_regions s) c t (at f l) o mine two still dt kt in
          subst (λ v. Locks (InStatement locking k (If x s t)) (may_end s || may_end t) c a v) (sym same) (record {
            kept = (is, y.kept, z.kept);
            now = meet_if l.now o.now y.now z.now;
            reached = λ e. either_end (may_end s) (may_end t) l.now o.now y.reached z.reached e;
            breaks = λ out before. z.breaks out (y.breaks out before);
          })
      locks_statement w k c (While p x s) a b mine fresh locked (f, d, (l, ds, (demands, same))) (kx, ks) =
          let (is, still) = locks_expression x [] a.now f locked d kx in
          let y = locks_statement w k (in_loop p a.now) s (record { now = f; breaks = Unreached }) l mine fresh still ds ks in
          let left : IsLockedIf l.breaks = y.breaks (λ among. elim among [ ]) (λ e. (let z : false ≡ true = e in absurd (cc))) in
          let out : IsLockedIn (meet f l.breaks) = meet_locked f l.breaks still left in
          subst (λ v. Locks (InStatement locking k (While p x s)) true c a v) (sym same) (record { kept = (is, y.kept); now = locked_if (meet f l.breaks) out; reached = λ e. out.0; breaks = λ out before. before })
      locks_statement w k c (Return v) a b mine fresh locked (f, d, (u, same)) kept = leaves c a b (locks_value v a.now f locked d kept).0 same
      locks_statement w k c Break a b mine fresh locked (u, same) kept =
          subst (λ v. Locks (Unit {0}) false c a v) (sym same) (record {
            kept = tt;
            now = λ e. (let z : false ≡ true = e in absurd (cc));
            reached = λ e. (let z : false ≡ true = e in absurd (cc));
            breaks = λ out before. meet_if a.breaks (left_loop c a.now) before (locked_if (left_loop c a.now) (each_still c.locks a.now out locked));
          })
      locks_statement w k c Continue a b mine fresh locked (demands, same) kept = leaves c a b tt same
      locks_statement w k c (Throw t v) a b mine fresh locked (f, d, (u, same)) kept = leaves c a b (locks_thrown v a.now f locked d kept).0 same
      locks_statement w k c (Try s cs) a b mine (one, two) locked (l, ds, dcs) (ks, kcs) =
          let y = locks_statement w k c s a l mine one locked ds ks in
          let z = locks_clauses w (k + declared_regions s) c (caught a.now s) cs l b mine two (emptied_locked (touched_statement s []) a.now locked) y.now dcs kcs in
          record {
            kept = (y.kept, z.kept);
            now = z.now;
            reached = λ e. tried (may_end s) (clauses_may_end cs) l.now b.now y.reached z.before z.reached e;
            breaks = λ out before. z.breaks out (y.breaks out before);
          }

      locks_items : (w : ℕ → Bool) (k : ℕ) (c : Around) (js : Items) (a b : Known) → w n ≡ true → AreFresh w js → IsLockedIn a.now → Derives (rule_items c js a) b → InItems q k js
          → Locks (InItems locking k js) (items_may_end js) c a b × (items_may_end js ≡ true → IsOut (locks_of js))
      locks_items w k c NoItems a b mine fresh locked (u, same) kept = (subst (λ y. Locks (Unit {0}) true c a y) (sym same) (record { kept = tt; now = locked_if a.now locked; reached = λ e. locked.0; breaks = λ out before. before }), λ e among. elim among [ ])
      locks_items w k c (MoreItems (Execute s) js) a b mine (one, fresh) locked (l, d, ds) (ks, kjs) =
          let y = locks_statement w k c s a l mine one locked d ks in
          following_statement w k c s js a b l fresh ds y (λ same. never_statement w c s a l one d same)
          (λ same. locks_items w (k + declared_regions s) (statements.following_item (Execute s) c) js l b mine fresh (y.reached same, y.now (y.reached same)) ds (asked_of (may_end s) same kjs))
      locks_items w k c (MoreItems (Declare l t v) js) a b mine (one, fresh) locked (o, (f, d, (u, same)), ds) (named, kv, kjs) =
          let (is, still) = locks_declared l v a.now f (fresh_apart w l mine one) locked d kv in
          let (z, out) = locks_items w k (statements.following_item (Declare l t v) c) js (at f a) b mine fresh still (subst (λ y. Derives (rule_items (statements.following_item (Declare l t v) c) js y) b) same ds) kjs in
          (record { kept = (named, is, z.kept); now = z.now; reached = z.reached; breaks = λ around before. z.breaks (out_none c.locks around) before }, out)
      locks_items w k c (MoreItems (DeclareRegion r l) js) a b mine (one, fresh) locked (o, (u, same), ds) kjs =
          let f = with_fullness Full a.now l in
          let (z, out) = locks_items w (suc k) (statements.following_item (DeclareRegion r l) c) js (at f a) b mine fresh (locked_with Full a.now l (fresh_apart w l mine one) locked) (subst (λ y. Derives (rule_items (statements.following_item (DeclareRegion r l) c) js y) b) same ds) kjs in
          (record { kept = z.kept; now = z.now; reached = z.reached; breaks = λ around before. z.breaks (out_none c.locks around) before }, out)
      locks_items w k c (MoreItems (OpenRegion r l p key) js) a b mine (one, fresh) locked (o, (f, (demands, known), (u, same)), ds) (spared, kjs) =
          let apart : n ≢ key = locked_apart a.now key locked demands.1.0 in
          let still : IsLockedIn f = lent_locked a.now f l key apart (fresh_apart (updated w key true) l (updated_true w key n mine) one) locked known in
          let (z, out) = locks_items (updated w key true) k (statements.following_item (OpenRegion r l p key) c) js (at f a) b (updated_true w key n mine) fresh still (subst (λ y. Derives (rule_items (statements.following_item (OpenRegion r l p key) c) js y) b) same ds) kjs in
          (record { kept = ((only_other n key apart, spared), z.kept); now = z.now; reached = z.reached; breaks = λ around before. z.breaks (out_more c.locks key around apart) before }, λ e. out_front key (locks_of js) apart (out e))
      locks_items w k c (MoreItems (DeclareAlias r l t p source) js) a b mine (one, fresh) locked (o, (f, (demands, known), (u, same)), ds) (spared, kjs) =
          let apart : n ≢ source = locked_apart a.now source locked demands.1.0 in
          let still : IsLockedIn f = lent_locked a.now f l source apart (fresh_apart (updated w source true) l (updated_true w source n mine) one) locked known in
          let (z, out) = locks_items (updated w source true) (suc k) (statements.following_item (DeclareAlias r l t p source) c) js (at f a) b (updated_true w source n mine) fresh still (subst (λ y. Derives (rule_items (statements.following_item (DeclareAlias r l t p source) c) js y) b) same ds) kjs in
          (record { kept = ((only_other n source apart, spared), z.kept); now = z.now; reached = z.reached; breaks = λ around before. z.breaks (out_more c.locks source around apart) before }, λ e. out_front source (locks_of js) apart (out e))
      locks_items w k c (MoreItems (DeclareKey r l) js) a b mine (one, fresh) locked (o, (u, same), ds) kjs =
          let f = with_fullness Full a.now l in
          let (z, out) = locks_items w (suc k) (statements.following_item (DeclareKey r l) c) js (at f a) b mine fresh (locked_with Full a.now l (fresh_apart w l mine one) locked) (subst (λ y. Derives (rule_items (statements.following_item (DeclareKey r l) c) js y) b) same ds) kjs in
          (record { kept = z.kept; now = z.now; reached = z.reached; breaks = λ around before. z.breaks (out_none c.locks around) before }, out)

      locks_clauses : (w : ℕ → Bool) (k : ℕ) (c : Around) (start : flow.State) (cs : Clauses) (a b : Known) → w n ≡ true → AreFreshClauses w cs → IsLockedIn start → IsLockedIf a.now → Derives (rule_clauses c start cs a) b → InClauses q k cs → LocksClauses k c cs a b
      locks_clauses w k c start NoClauses a b mine fresh locked now (u, same) kept =
          subst (λ y. LocksClauses k c NoClauses a y) (sym same) (record { kept = tt; now = now; before = λ e. e; reached = λ e. (let z : false ≡ true = e in absurd (cc)); breaks = λ out before. before })
      locks_clauses w k c start (Default r js) a b mine fresh locked now (l, d, (u, same)) kept =
          let (z, out) = locks_items w (suc k) c js (at start a) l mine fresh locked d kept in
          let end = with_each Full (locks_of js) l.now in
          subst (λ y. LocksClauses k c (Default r js) a y) (sym same) (record {
            kept = z.kept;
            now = meet_if a.now end now (end_if w c js (at start a) l fresh d out z.now);
            before = λ e. reached_meet_left a.now end e;
            reached = λ e. reached_meet_right a.now end (each_reached Full (locks_of js) l.now ∙ z.reached e);
            breaks = z.breaks;
          })
      locks_clauses w k c start (Case t i r js cs) a b mine (one, fresh, more) locked now (l, d, ds) (kjs, kcs) =
          let begin = statements.with_caught i start in
          let (z, out) = locks_items w (suc k) c js (at begin a) l mine fresh (caught_locked w i start mine one locked) d kjs in
          let end = with_each Full (locks_of js) l.now in
          let y = locks_clauses w (k + suc (item_regions js)) c start cs (or_clause a.now js l) b mine more locked (meet_if a.now end now (end_if w c js (at begin a) l fresh d out z.now)) ds kcs in
          record {
            kept = (z.kept, y.kept);
            now = y.now;
            before = λ e. y.before (reached_meet_left a.now end e);
            reached = λ e. case_end (items_may_end js) (clauses_may_end cs) b.now (λ e. y.before (reached_meet_right a.now end (each_reached Full (locks_of js) l.now ∙ z.reached e))) y.reached e;
            breaks = λ out before. y.breaks out (z.breaks out before);
          }

-- A local that a block item (a declaration or statement) lends stays lent in all reachable code of the item's block.
pub locked_items : (q : Relied) (n : ℕ) (w : ℕ → Bool) (k : ℕ) (c : Around) (js : Items) (a b : Known) → w n ≡ true → AreFresh w js → IsLockedIn n a.now → Derives (rule_items c js a) b → InItems q k js → InItems (Reached (only n) ∷ q) k js
locked_items q n w k c js a b mine fresh locked flows kept = (locks_items n q w k c js a b mine fresh locked flows kept).0.kept

-- ---- the start of a loan

-- A declaration or statement that lends a local locks this local.
pub now_locked : (f : flow.State) (key l : ℕ) → is_reached f ≡ true → not (is_vacant (fullness f key)) ≡ true → key ≢ l → IsLockedIn key (with_fullness Full (with_fullness Locked f key) l)
now_locked Unreached key l reached set apart = let z : false ≡ true = reached in absurd (cc)
now_locked (Reached as') key l reached set apart =
    locked_with key Full (Reached (slice_set as' key Locked)) l apart (refl, ap is_locked (set_there as' key Locked (not-true (is_vacant (get_or as' key Vacant)) set)))

-- Every local in scope has a lower index than the local that is declared next.
scoped_below : (these : Lives) (n : ℕ) (vs : List LocalInScope) (bs : List InScope) → IsScope these vs bs → AreBelow n bs → AreScoped vs n
scoped_below these n vs [] none below = subst (λ us. AreScoped us n) (sym none) tt
scoped_below these n vs (Variable b ∷ bs) (rest, (v, vs_are, number, of_type, hidden, life), is) (less, below) =
    subst (λ us. AreScoped us n) (sym vs_are) ((let k : v.number ≡ b.number = number in let z : v.number < n = omega (arith, k, less) in z), scoped_below these n rest bs is below)
scoped_below these n vs (Level l ∷ bs) (rest, same, is) (u, below) = subst (λ us. AreScoped us n) (sym same) (scoped_below these n rest bs is below)
scoped_below these n vs (Names number life live ∷ bs) (rest, same, is) (u, below) = subst (λ us. AreScoped us n) (sym same) (scoped_below these n rest bs is below)
scoped_below these n vs (Instance life live ∷ bs) (rest, same, is) (u, below) = subst (λ us. AreScoped us n) (sym same) (scoped_below these n rest bs is below)
scoped_below these n vs (Home region ∷ bs) (rest, same, is) (u, below) = subst (λ us. AreScoped us n) (sym same) (scoped_below these n rest bs is below)

pub scope_below : (p : Program) (x : Exits) (bs : List InScope) (c : Context) → IsContext p x bs c → AreScoped c.locals c.next_local
scope_below p x bs c stands = scoped_below (lives_in bs) c.next_local c.locals bs stands.scope stands.below
