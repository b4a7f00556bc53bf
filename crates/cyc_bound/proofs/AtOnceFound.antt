-- The search for the outermost region with the greatest cost. The search's result for a list follows from its results for the first
-- elements and for the remaining elements. The facts about the costs of lists are also proved for typed tree nodes that hold lists, and for
-- functions.
use Rattle.std.proofs.Common.{◌≡◌, ℕ, ◌+◌, ◌<◌, ◌≤◌, ◌⊎◌, min, max, List, [], ◌∷◌, length, get_or, drop, Option, sym, ap, subst, ◌∙◌, inl, inr, arith}
use Rattle.std.specs.Prelude.{slice_get, Contains}
use Rattle.std.proofs.lemmas.Bool.{cases_lt}
use Rattle.std.proofs.lemmas.List.{get_or_default}
use Rattle.std.proofs.lemmas.List.Elements.{Contains-get_or}
use Rattle.std.specs.declared.vec.Vec.{Vec}
use Rattle.std.specs.declared.boxed.Box.{Box}
use Rattle.std.specs.declared.alloc.Global.{Global as Heap}
use Rattle.cyc_types.specs.declared.typed.Stmt.{Stmt}
use Rattle.cyc_types.specs.declared.typed.Stmt.TheVariants as stmt
use Rattle.cyc_types.specs.declared.typed.Item.{Item as ItemCode}
use Rattle.cyc_types.specs.declared.typed.Item.TheVariants as item
use Rattle.cyc_types.specs.declared.typed.Clause.{Clause}
use Rattle.cyc_types.specs.declared.typed.Body.{Body}
use Rattle.cyc_types.specs.TypedTrees.{Statement, Clauses, NoClauses, Program}
use Rattle.cyc_types.specs.TypedTreeView.{view_statement, items_of, clauses_of, default_of}
use Rattle.cyc_types.proofs.TypedTreeViewLemmas.{view_block, view_typed_try}
use Rattle.cyc_bound.specs.declared.costs.Measure.{Measure}
use Rattle.cyc_bound.specs.Bound.{Row}
use Rattle.cyc_bound.specs.Costs.{too_many}
use Rattle.cyc_bound.specs.AtOnce.{statement_at_once, items_at_once, clauses_at_once, at_once_of, AreEnough, IsAtOnce}
use Rattle.cyc_bound.specs.inside.Reached.{AreReached}

-- ---- lists

-- says that a block's costliest outermost region costs the greater of the cost found so far and the cost for the
-- block's elements from index i on
abbrev pub ItemsLeft : Measure → (costs : List ℕ) → List ItemCode → (i most : ℕ) → Type 0
ItemsLeft m costs js i most = (min too_many (max most (items_at_once m costs (items_of (drop i js)))) ≡ min too_many (items_at_once m costs (items_of js))) × (most ≤ too_many)

abbrev pub ClausesLeft : Measure → (costs : List ℕ) → List Clause → (i most : ℕ) → Type 0
ClausesLeft m costs cs i most =
    (min too_many (max most (clauses_at_once m costs (clauses_of (drop i cs) NoClauses))) ≡ min too_many (clauses_at_once m costs (clauses_of cs NoClauses))) × (most ≤ too_many)

module _ (m : Measure) (costs : List ℕ) where
  -- ---- nodes that contain lists

  pub block_at_once : (value : Stmt) (r : ℕ) (v : Vec ItemCode Heap) → value ≡ stmt.Block r v → (items : List ItemCode) → items ≡ v.items
      → statement_at_once m costs (view_statement value) ≡ items_at_once m costs (items_of items)
  block_at_once value r v is items same =
      ap (λ (x : Stmt). statement_at_once m costs (view_statement x)) is ∙ ap (λ (s : Statement). statement_at_once m costs s) (view_block r v)
      ∙ ap (λ (js : List ItemCode). items_at_once m costs (items_of js)) (sym same)

  -- in catch clauses with a default clause, the costliest outermost region costs the greater of the cost for the other clauses and
  -- that for the default clause
  clauses_with : (cs : List Clause) (default : Clauses) → clauses_at_once m costs (clauses_of cs default) ≡ max (clauses_at_once m costs (clauses_of cs NoClauses)) (clauses_at_once m costs default)
  clauses_with [] default = omega arith
  clauses_with (c ∷ cs) default = omega (arith, clauses_with cs default)

  pub try_at_once : (value : Stmt) {w : _} (b : Box Stmt Heap) (v : Vec Clause Heap) (d : Option Body) → value ≡ stmt.Try w b v d → (body : Stmt) → body ≡ b.value → (clauses : List Clause) → clauses ≡ v.items
      → (tried caught last both result : ℕ) → tried ≡ min too_many (statement_at_once m costs (view_statement body)) → caught ≡ min too_many (clauses_at_once m costs (clauses_of clauses NoClauses))
      → last ≡ min too_many (clauses_at_once m costs (default_of d)) → both ≡ max caught last → result ≡ max tried both → result ≡ min too_many (statement_at_once m costs (view_statement value))
  try_at_once value {w} b v d is body at clauses same tried caught last both result one two three four five =
      let whole : statement_at_once m costs (view_statement value) ≡ max (statement_at_once m costs (view_statement body)) (clauses_at_once m costs (clauses_of clauses (default_of d))) =
      ap (λ (x : Stmt). statement_at_once m costs (view_statement x)) is ∙ ap (λ (s : Statement). statement_at_once m costs s) (view_typed_try w b v d)
      ∙ ap (λ (x : Stmt). max (statement_at_once m costs (view_statement x)) (clauses_at_once m costs (clauses_of v.items (default_of d)))) (sym at)
      ∙ ap (λ (cs : List Clause). max (statement_at_once m costs (view_statement body)) (clauses_at_once m costs (clauses_of cs (default_of d)))) (sym same) in
      numbers _ _ _ _ _ (clauses_with clauses (default_of d)) whole one two three
    where
      numbers : (a b c d e : ℕ) → d ≡ max b c → e ≡ max a d → tried ≡ min too_many a → caught ≡ min too_many b → last ≡ min too_many c → result ≡ min too_many e
      numbers a b c d e together whole one two three = omega (arith, together, whole, one, two, three, four, five)

-- ---- functions

module _ (program : Program) (m : Measure) (costs : List ℕ) where
  abbrev F : ℕ → ℕ
  F f = min too_many (at_once_of m costs (slice_get program.functions f))

  -- says that a cost is that of the costliest outermost region of a function reachable from `main`, or 0
  abbrev IsOne : ℕ → Type 0
  IsOne most = (most ≡ 0) ⊎ ((f : ℕ) × (count : ℕ) × Row program program.main f count × (most ≡ F f))

  -- says that `most` is the cost of the costliest outermost region in the first i functions of a list
  pub record IsSoFar (found : List ℕ) (i most : ℕ) : Type 0 where
    pub above : (k : ℕ) → k < i → F (get_or found k 0) ≤ most
    pub is : IsOne most

  pub so_far_more : (found : List ℕ) (i most f cost next : ℕ) → AreReached program found → IsSoFar found i most → i < length found → f ≡ get_or found i f → cost ≡ F f → next ≡ max most cost
      → IsSoFar found (i + 1) next
  so_far_more found i most f cost next reached h less at one two = record {
    above = λ k below. elim (cases_lt k i) [
      | inl before ↦ omega (arith, h.above k before, two)
      | inr past ↦
          let same : k ≡ i = omega (arith, below, past) in
          let here : get_or found k 0 ≡ f = ap (λ (j : ℕ). get_or found j 0) same ∙ get_or_default found i 0 f less ∙ sym at in
          omega (arith, ap (λ (g : ℕ). F g) here, one, two)
    ];
    is = elim (cases_lt most cost) [
      | inl more ↦
          let (count, row) = reached.1 f (subst (λ (g : ℕ). Contains found g) (sym at) (Contains-get_or found i f less)) in
          inr (f, count, row, omega (arith, more, one, two))
      | inr enough ↦ subst (λ (n : ℕ). IsOne n) (kept enough) h.is
    ];
  }
    where
      kept : cost ≤ most → most ≡ next
      kept enough = omega (arith, enough, two)

  pub so_far_all : (found : List ℕ) (i most : ℕ) → AreReached program found → AreEnough program m costs → length found ≤ i → IsSoFar found i most → IsAtOnce program m most
  so_far_all found i most reached are whole h = (costs, are, (λ f count row. go f (reached.0 f count row)), h.is)
    where
      go : (f : ℕ) → Contains found f → F f ≤ most
      go f (k, less, at) =
          let here : get_or found k 0 ≡ f = get_or_default found k 0 f less ∙ at in
          omega (arith, h.above k (omega (arith, less, whole)), ap (λ (g : ℕ). F g) here)
