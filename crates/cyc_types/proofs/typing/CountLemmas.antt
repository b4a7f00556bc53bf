-- A typed statement declares as many locals and regions as its source statement.
use Rattle.std.proofs.Common.{◌≡◌, ℕ, suc, ◌+◌, Bool, List, [], ◌∷◌, ◌++◌, Option, None, Some, length, refl, sym, ap, subst, ◌∙◌, arith, length-append}
use Rattle.std.specs.Prelude.{option_map}
use Rattle.cyc_words.proofs.Numbers.{suc_one_plus, same_zero_plus}
use Rattle.cyc_syntax.specs.Symbols.{Place}
use Rattle.cyc_syntax.specs.Trees.{Named, WrittenType, Expression, Statement, Block, Labelled, Empty, Evaluate, Swap, If, IfElse, While, Return, Break, Continue, Throw, Try, Body, Braces, Items, NoItems, MoreItems, Execute, Local, Region, Alias, DynamicRegion, Clauses, NoClauses, Default, Case}
use Rattle.cyc_types.specs.Types.{Ty}
use Rattle.cyc_types.specs.TypedTrees as typed
use Rattle.cyc_types.specs.Declarations.{caught_types, declared_types, item_types, clause_types, declared_regions}
use Rattle.cyc_types.specs.Declarations as declarations
use Rattle.cyc_types.specs.Rules.{Derives}
use Rattle.cyc_types.specs.typing.Scopes.{Meaning, Unknown, Fixed, Counter, Routine, Scope, meaning_of, counted, locals_in, body_locals, item_locals, clause_locals, regions_in, body_regions, item_regions, clause_regions, following, in_block, in_labelled, in_body}
use Rattle.cyc_types.specs.typing.Scopes as scopes
use Rattle.cyc_types.specs.typing.Statements.{exception_among, thrown, with_caught, after_clause, opened, aliased, following_item, rule_statement, rule_body, rule_items, rule_clauses}

-- ---- nodes whose form depends on the meaning of a name

pub thrown_shape : (g : Scope) (o : Option Bool) (x : Named) (v : Option Expression) (a : Option typed.Expression) (t : typed.Statement) → Derives (thrown g o x v a) t → (n : ℕ) × (t ≡ typed.Throw n a)
thrown_shape g None x v a t d = absurd d
thrown_shape g (Some has) x v a t (kept, eq) = (_, eq)

pub opened_shape : (g : Scope) (r h : Named) (m : Meaning) (q : Place) (j : typed.Item) → Derives (opened g r h m q) j → (n k : ℕ) × (j ≡ typed.OpenRegion n g.next_local q k)
opened_shape g r h Unknown q j d = absurd d
opened_shape g r h (scopes.Variable l t home) q j (kept, eq) = (_, _, eq)
opened_shape g r h (Fixed l t) q j (kept, eq) = (_, _, eq)
opened_shape g r h (Counter n) q j (kept, eq) = (_, _, eq)
opened_shape g r h (Routine f s) q j d = absurd d

pub aliased_shape : (g : Scope) (r x : Named) (w : WrittenType) (m : Meaning) (q : Place) (j : typed.Item) → Derives (aliased g r x w m q) j
    → (t : Ty) × (k : ℕ) × (j ≡ typed.DeclareAlias g.next_region g.next_local t q k)
aliased_shape g r x w Unknown q j d = absurd d
aliased_shape g r x w (scopes.Variable l t home) q j (kept, eq) = (_, _, eq)
aliased_shape g r x w (Fixed l t) q j (kept, eq) = (_, _, eq)
aliased_shape g r x w (Counter n) q j (kept, eq) = (_, _, eq)
aliased_shape g r x w (Routine f s) q j d = absurd d

-- ---- counts

abbrev pub IsCounted : Statement → typed.Statement → Type 0
IsCounted s t = (length (declared_types t) ≡ locals_in s) × (declared_regions t ≡ regions_in s)

abbrev pub AreCounted : Items → typed.Items → Type 0
AreCounted is js = (length (item_types js) ≡ item_locals is) × (declarations.item_regions js ≡ item_regions is)

abbrev pub AreCountedClauses : Clauses → typed.Clauses → Type 0
AreCountedClauses cs ds = (length (clause_types ds) ≡ clause_locals cs) × (declarations.clause_regions ds ≡ clause_regions cs)

both_counted : (s u : Statement) (t v : typed.Statement) → IsCounted s t → IsCounted u v
    → (length (declared_types t ++ declared_types v) ≡ locals_in s + locals_in u) × (declared_regions t + declared_regions v ≡ regions_in s + regions_in u)
both_counted s u t v (l, r) (m, n) =
    (length-append (declared_types t) (declared_types v) ∙ (ap (λ k. k + length (declared_types v)) l ∙ ap (λ k. locals_in s + k) m), ap (λ k. k + declared_regions v) r ∙ ap (λ k. regions_in s + k) n)

-- a catch clause that receives the int of an exception declares one local; a clause without an int declares none
caught_counted : (v : Option Named) (n : ℕ) → length (caught_types (option_map (λ (y : Named). n) v)) ≡ counted v
caught_counted None n = refl
caught_counted (Some y) n = refl

mutual
  pub statement_counted : (g : Scope) (s : Statement) (t : typed.Statement) → Derives (rule_statement g s) t → IsCounted s t
  statement_counted g (Block c) t (js, h, (u, eq)) = let (l, r) = body_counted (in_block g) c js h in subst (IsCounted (Block c)) (sym eq) (l, ap suc r)
  statement_counted g (Labelled x c) t (u, hu, (js, h, (v, eq))) = let (l, r) = body_counted (in_labelled x g) c js h in subst (IsCounted (Labelled x c)) (sym eq) (l, ap suc r)
  statement_counted g (Empty p) t (u, eq) = subst (IsCounted (Empty p)) (sym eq) (refl, refl)
  statement_counted g (Evaluate e) t (a, h, (u, eq)) = subst (IsCounted (Evaluate e)) (sym eq) (refl, refl)
  statement_counted g (Swap a b) t (x, kx, (y, ky, (kept, eq))) = subst (IsCounted (Swap a b)) (sym eq) (refl, refl)
  statement_counted g (If p e u) t (a, h, (c, k, (w, eq))) =
      let (l, r) = statement_counted g u c k in subst (IsCounted (If p e u)) (sym eq) (length-append (declared_types c) [] ∙ (omega arith), (omega arith))
  statement_counted g (IfElse p e u v) t (a, h, (c, k, (d, m, (w, eq)))) =
      subst (IsCounted (IfElse p e u v)) (sym eq) (both_counted u v c d (statement_counted g u c k) (statement_counted (following g u) v d m))
  statement_counted g (While p e u) t (a, h, (c, k, (w, eq))) = let (l, r) = statement_counted (in_body g) u c k in subst (IsCounted (While p e u)) (sym eq) (l, r)
  statement_counted g (Return p v) t (c, h, (u, eq)) = subst (IsCounted (Return p v)) (sym eq) (refl, refl)
  statement_counted g (Break p) t (k, eq) = subst (IsCounted (Break p)) (sym eq) (refl, refl)
  statement_counted g (Continue p) t (k, eq) = subst (IsCounted (Continue p)) (sym eq) (refl, refl)
  statement_counted g (Throw p x v) t (a, ka, d) = let (n, eq) = thrown_shape g (exception_among g.exceptions x.name) x v a t d in subst (IsCounted (Throw p x v)) (sym eq) (refl, refl)
  statement_counted g (Try p s cs) t (b, kb, (ds, ks, (u, eq))) =
      let (l, r) = statement_counted g s b kb in
      let (m, n) = clauses_counted (following g s) [] cs ds ks in
      subst (IsCounted (Try p s cs)) (sym eq)
      (length-append (declared_types b) (clause_types ds) ∙ (ap (λ k. k + length (clause_types ds)) l ∙ ap (λ k. locals_in s + k) m), ap (λ k. k + declarations.clause_regions ds) r ∙ ap (λ k. regions_in s + k) n)

  body_counted : (g : Scope) (c : Body) (js : typed.Items) → Derives (rule_body g c) js → (length (item_types js) ≡ body_locals c) × (declarations.item_regions js ≡ body_regions c)
  body_counted g (Braces p is q) js h = items_counted g is js h

  pub items_counted : (g : Scope) (is : Items) (js : typed.Items) → Derives (rule_items g is) js → AreCounted is js
  items_counted g NoItems js (u, eq) = subst (AreCounted NoItems) (sym eq) (refl, refl)
  items_counted g (MoreItems (Execute s) is) js (j, (t, h, (u, is_j)), (ks, hs, (w, eq))) =
      let (l, r) = statement_counted g s t h in
      let (m, n) = items_counted (following g s) is ks hs in
      subst (AreCounted (MoreItems (Execute s) is)) (sym (eq ∙ ap (λ i. typed.MoreItems i ks) is_j))
      (length-append (declared_types t) (item_types ks) ∙ (ap (λ k. k + length (item_types ks)) l ∙ ap (λ k. locals_in s + k) m), ap (λ k. k + declarations.item_regions ks) r ∙ ap (λ k. regions_in s + k) n)
  items_counted g (MoreItems (Local w x v) is) js (j, (u, ku, (c, kc, (y, is_j))), (ks, hs, (z, eq))) =
      let (m, n) = items_counted (following_item g (Local w x v) j) is ks hs in
      subst (AreCounted (MoreItems (Local w x v) is)) (sym (eq ∙ ap (λ i. typed.MoreItems i ks) is_j)) (suc_one_plus (length (item_types ks)) (item_locals is) m, same_zero_plus (declarations.item_regions ks) (item_regions is) n)
  items_counted g (MoreItems (Region r h None) is) js (j, (kept, is_j), (ks, hs, (z, eq))) =
      let (m, n) = items_counted (following_item g (Region r h None) j) is ks hs in
      subst (AreCounted (MoreItems (Region r h None) is)) (sym (eq ∙ ap (λ i. typed.MoreItems i ks) is_j)) (suc_one_plus (length (item_types ks)) (item_locals is) m, suc_one_plus (declarations.item_regions ks) (item_regions is) n)
  items_counted g (MoreItems (Region r h (Some k)) is) js (j, (u, ku, d), (ks, hs, (z, eq))) =
      let (m, n) = items_counted (following_item g (Region r h (Some k)) j) is ks hs in
      let (o, l, is_j) = opened_shape g r h (meaning_of g k) k.place j d in
      subst (AreCounted (MoreItems (Region r h (Some k)) is)) (sym (eq ∙ ap (λ i. typed.MoreItems i ks) is_j)) (suc_one_plus (length (item_types ks)) (item_locals is) m, same_zero_plus (declarations.item_regions ks) (item_regions is) n)
  items_counted g (MoreItems (Alias r w x y) is) js (j, (u, ku, (v, kv, d)), (ks, hs, (z, eq))) =
      let (m, n) = items_counted (following_item g (Alias r w x y) j) is ks hs in
      let (t, l, is_j) = aliased_shape g r x w (meaning_of g y) y.place j d in
      subst (AreCounted (MoreItems (Alias r w x y) is)) (sym (eq ∙ ap (λ i. typed.MoreItems i ks) is_j)) (suc_one_plus (length (item_types ks)) (item_locals is) m, suc_one_plus (declarations.item_regions ks) (item_regions is) n)
  items_counted g (MoreItems (DynamicRegion r k) is) js (j, (kept, is_j), (ks, hs, (z, eq))) =
      let (m, n) = items_counted (following_item g (DynamicRegion r k) j) is ks hs in
      subst (AreCounted (MoreItems (DynamicRegion r k) is)) (sym (eq ∙ ap (λ i. typed.MoreItems i ks) is_j)) (suc_one_plus (length (item_types ks)) (item_locals is) m, suc_one_plus (declarations.item_regions ks) (item_regions is) n)

  clauses_counted : (g : Scope) (before : List ℕ) (cs : Clauses) (ds : typed.Clauses) → Derives (rule_clauses g before cs) ds → AreCountedClauses cs ds
  clauses_counted g before NoClauses ds (u, eq) = subst (AreCountedClauses NoClauses) (sym eq) (refl, refl)
  clauses_counted g before (Default is) ds (js, h, (u, eq)) = let (l, r) = items_counted (in_block g) is js h in subst (AreCountedClauses (Default is)) (sym eq) (l, ap suc r)
  clauses_counted g before (Case x v is cs) ds (n, kn, (js, h, (es, k, (u, eq)))) =
      let (l, r) = items_counted (with_caught v (in_block g)) is js h in
      let (m, o) = clauses_counted (after_clause g (counted v) is) (x.name ∷ before) cs es k in
      let one : length (caught_types (option_map (λ (y : Named). g.next_local) v)) ≡ counted v = caught_counted v g.next_local in
      subst (AreCountedClauses (Case x v is cs)) (sym eq) (
        length-append (caught_types (option_map (λ (y : Named). g.next_local) v)) (item_types js ++ clause_types es)
            ∙ (ap (λ k. k + length (item_types js ++ clause_types es)) one ∙ (ap (λ k. counted v + k) (length-append (item_types js) (clause_types es)) ∙ (omega arith))),
        omega arith,
      )
