-- In a well-typed program the index of each declared local is fresh: a lent local is in scope, and a declared local has the next index.
use Rattle.std.proofs.Common.{◌≡◌, ℕ, suc, ◌+◌, ◌<◌, ◌≤◌, Bool, true, false, cond, nat_eq, List, [], ◌∷◌, Some, None, length, refl, subst, arith, inl, inr}
use Rattle.cyc_types.specs.Types.{Ty}
use Rattle.cyc_types.specs.Declarations.{declared_types, item_types}
use Rattle.cyc_types.specs.TypedTrees.{Statement, Block, Empty, Evaluate, Swap, If, While, Return, Break, Continue, Throw, Try, Items, NoItems, MoreItems, Execute, Declare, DeclareRegion, OpenRegion, DeclareAlias, DeclareKey, Clauses, NoClauses, Default, Case, Function, Program}
use Rattle.cyc_types.specs.typing.WellTyped.{LocalInScope, HasLocal, Context, following, IsCaught, after_clause, WellTypedStatement, WellTypedItems, WellTypedClauses, parameters_in_scope, body_context, AreWellTypedFunctions}
use Rattle.cyc_soundness.specs.inside.guard.Held.{updated, nowhere}
use Rattle.cyc_soundness.proofs.guard.Bools.{Reflects, same, other, reflects}
use Rattle.cyc_soundness.proofs.guard.Numbers.{IsFresh, AreFresh, AreFreshClauses}
use Rattle.cyc_soundness.proofs.guard.Whole.{AreAllFresh}

-- Says that all lent locals have indices below m.
abbrev pub AreBelow : (locked : ℕ → Bool) → ℕ → Type 0
AreBelow w m = (n : ℕ) → w n ≡ true → n < m

-- Says that all locals in scope have indices below m.
abbrev pub InScope : List LocalInScope → ℕ → Type 0
InScope [] m = Unit {0}
InScope (v ∷ vs) m = (v.number < m) × InScope vs m

in_scope_more : (vs : List LocalInScope) (m n : ℕ) → m ≤ n → InScope vs m → InScope vs n
in_scope_more [] m n l h = tt
in_scope_more (v ∷ vs) m n l (h, k) = (omega arith, in_scope_more vs m n l k)

below_more : (w : ℕ → Bool) (m n : ℕ) → m ≤ n → AreBelow w m → AreBelow w n
below_more w m n l h k e = let x : k < m = h k e in omega arith

pub found_below : (vs : List LocalInScope) (m n : ℕ) (t : Ty) (r : ℕ) → InScope vs m → HasLocal vs n t r → n < m
found_below [] m n t r h x = absurd x
found_below (v ∷ vs) m n t r (h, k) (inl (e, y, z)) = subst (λ i. i < m) e h
found_below (v ∷ vs) m n t r (h, k) (inr x) = found_below vs m n t r k x

-- The local that is declared next is not lent.
next_fresh : (w : ℕ → Bool) (m n : ℕ) → AreBelow w m → n ≡ m → w n ≡ false
next_fresh w m n h e = go (w n) (h n)
  where
    go : (b : Bool) → (b ≡ true → n < m) → b ≡ false
    go true k = let x : n < m = k refl in absurd (omega arith)
    go false k = refl

pub lent_below : (w : ℕ → Bool) (m k : ℕ) → AreBelow w m → k < m → AreBelow (updated w k true) m
lent_below w m k h l n = go (nat_eq k n) (reflects k n)
  where
    go : (b : Bool) → Reflects k n b → cond b true (w n) ≡ true → n < m
    go true (same e) x = omega arith
    go false (other y) x = h n x

below_next_local : (w : ℕ → Bool) (c : Context) → AreBelow w c.next_local → AreBelow w (suc c.next_local)
below_next_local w c h = below_more w c.next_local (suc c.next_local) (omega arith) h

pub next_in_scope : (c : Context) → InScope c.locals c.next_local → (c.next_local < suc c.next_local) × InScope c.locals (suc c.next_local)
next_in_scope c k = (omega arith, in_scope_more c.locals c.next_local (suc c.next_local) (omega arith) k)

caught_fresh : (w : ℕ → Bool) (c : Context) (has : Bool) (n : ℕ) → AreBelow w c.next_local → IsCaught c has (Some n) → w n ≡ false
caught_fresh w c true n h (e, x) = next_fresh w c.next_local n h e
caught_fresh w c false n h x = absurd x

mutual
  pub statement_fresh : (w : ℕ → Bool) (c : Context) (s : Statement) → AreBelow w c.next_local → InScope c.locals c.next_local → WellTypedStatement c s → IsFresh w s
  statement_fresh w c (Block r js) h k (x, y) = items_fresh w _ js h k y
  statement_fresh w c Empty h k x = tt
  statement_fresh w c (Evaluate a) h k x = tt
  statement_fresh w c (Swap a b) h k x = tt
  statement_fresh w c (If a s t) h k (x, y, z) =
      let m = c.next_local + length (declared_types s) in
      (statement_fresh w c s h k y, statement_fresh w (following c s) t (below_more w c.next_local m (omega arith) h) (in_scope_more c.locals c.next_local m (omega arith) k) z)
  statement_fresh w c (While q a s) h k (x, y) = statement_fresh w _ s h k y
  statement_fresh w c (Return v) h k x = tt
  statement_fresh w c Break h k x = tt
  statement_fresh w c Continue h k x = tt
  statement_fresh w c (Throw e v) h k x = tt
  statement_fresh w c (Try s cs) h k (x, y) =
      let m = c.next_local + length (declared_types s) in
      (statement_fresh w c s h k x, clauses_fresh w (following c s) cs (below_more w c.next_local m (omega arith) h) (in_scope_more c.locals c.next_local m (omega arith) k) y)

  pub items_fresh : (w : ℕ → Bool) (c : Context) (js : Items) → AreBelow w c.next_local → InScope c.locals c.next_local → WellTypedItems c js → AreFresh w js
  items_fresh w c NoItems h k x = tt
  items_fresh w c (MoreItems (Execute s) js) h k (x, y) =
      let m = c.next_local + length (declared_types s) in
      (statement_fresh w c s h k x, items_fresh w (following c s) js (below_more w c.next_local m (omega arith) h) (in_scope_more c.locals c.next_local m (omega arith) k) y)
  items_fresh w c (MoreItems (Declare n t v) js) h k (x, i, y) = (next_fresh w c.next_local n h x.0, items_fresh w _ js (below_next_local w c h) (next_in_scope c k) y)
  items_fresh w c (MoreItems (DeclareRegion r n) js) h k (q, x, y) = (next_fresh w c.next_local n h x.0, items_fresh w _ js (below_next_local w c h) (next_in_scope c k) y)
  items_fresh w c (MoreItems (OpenRegion r n q m) js) h k (v, x, y) =
      let l : AreBelow (updated w m true) c.next_local = lent_below w c.next_local m h (found_below c.locals c.next_local m _ _ k v.0.1) in
      (next_fresh (updated w m true) c.next_local n l x.0, items_fresh (updated w m true) _ js (below_next_local (updated w m true) c l) (next_in_scope c k) y)
  items_fresh w c (MoreItems (DeclareAlias r n t q m) js) h k (z, v, x, y) =
      let l : AreBelow (updated w m true) c.next_local = lent_below w c.next_local m h (found_below c.locals c.next_local m _ _ k v.1.0.1) in
      (next_fresh (updated w m true) c.next_local n l x.0, items_fresh (updated w m true) _ js (below_next_local (updated w m true) c l) (next_in_scope c k) y)
  items_fresh w c (MoreItems (DeclareKey r n) js) h k (q, x, y) = (next_fresh w c.next_local n h x.0, items_fresh w _ js (below_next_local w c h) (next_in_scope c k) y)

  clauses_fresh : (w : ℕ → Bool) (c : Context) (cs : Clauses) → AreBelow w c.next_local → InScope c.locals c.next_local → WellTypedClauses c cs → AreFreshClauses w cs
  clauses_fresh w c NoClauses h k x = tt
  clauses_fresh w c (Default r js) h k (x, y) = items_fresh w _ js h k y
  clauses_fresh w c (Case e None r js cs) h k (has, x, g, q, y, z) =
      let m = c.next_local + (0 + length (item_types js)) in
      (tt, items_fresh w _ js h k y, clauses_fresh w (after_clause c None js) cs (below_more w c.next_local m (omega arith) h) (in_scope_more c.locals c.next_local m (omega arith) k) z)
  clauses_fresh w c (Case e (Some n) r js cs) h k (has, x, g, q, y, z) =
      let m = c.next_local + (1 + length (item_types js)) in (
        caught_fresh w c has n h g,
        items_fresh w _ js (below_next_local w c h) (next_in_scope c k) y,
        clauses_fresh w (after_clause c (Some n) js) cs (below_more w c.next_local m (omega arith) h) (in_scope_more c.locals c.next_local m (omega arith) k) z,
      )

-- ---- functions

parameters_below : (ts : List Ty) (n : ℕ) (vs : List LocalInScope) → InScope vs n → InScope (parameters_in_scope ts n vs) (n + length ts)
parameters_below [] n vs h = in_scope_more vs n (n + 0) (omega arith) h
parameters_below (t ∷ ts) n vs h =
    let k : InScope (parameters_in_scope (t ∷ ts) n vs) (suc n + length ts) = parameters_below ts (suc n) _ (omega arith, in_scope_more vs n (suc n) (omega arith) h) in
    in_scope_more (parameters_in_scope (t ∷ ts) n vs) (suc n + length ts) (n + length (t ∷ ts)) (omega arith) k

pub functions_fresh : (p : Program) (hs : List Function) → AreWellTypedFunctions p hs → AreAllFresh hs
functions_fresh p [] x = tt
functions_fresh p (h ∷ hs) (x, y) =
    let k : InScope (parameters_in_scope h.parameters 0 []) (0 + length h.parameters) = parameters_below h.parameters 0 [] tt in (
      items_fresh nowhere (body_context p h) h.body (λ n s. absurd (cc)) (in_scope_more (parameters_in_scope h.parameters 0 []) (0 + length h.parameters) (length h.parameters) (omega arith) k) x.body,
      functions_fresh p hs y,
    )
