-- The flow rules can only weaken the flow state at the `break` statements of a loop, and the flow state after a `try`.
use Rattle.std.proofs.Common.{◌≡◌, [], ◌++◌, sym, subst, append-nil}
use Rattle.cyc_types.specs.TypedTrees.{Statement, Block, Empty, Evaluate, Swap, If, While, Return, Break, Continue, Throw, Try, Items, NoItems, MoreItems, Item, Execute, Declare, DeclareRegion, OpenRegion, DeclareAlias, DeclareKey, Clauses, NoClauses, Default, Case}
use Rattle.cyc_types.specs.Rules.{Derives}
use Rattle.cyc_types.specs.flow.States.{State, Unreached, Full, meet, with_each}
use Rattle.cyc_types.specs.flow.Statements.{Around, Known, left_loop, locks_of, following_item, at_end, or_clause, with_caught, rule_statement, rule_items, rule_item, rule_clauses}
use Rattle.cyc_types.specs.flow.Statements as statements
use Rattle.cyc_soundness.specs.inside.Frames.{Implies}
use Rattle.cyc_soundness.proofs.flow.FlowLemmas.{implies_self, implies_after, meet_first}

carried : (b : State) (k m : Known) → m ≡ k → Implies b k.breaks → Implies b m.breaks
carried b k m e i = subst (λ (z : Known). Implies b z.breaks) (sym e) i

mutual
  pub breaks_statement : (c : Around) (s : Statement) (k m : Known) → Derives (rule_statement c s k) m → Implies k.breaks m.breaks
  breaks_statement c (Block r js) k m (l, d, (u, e)) = carried k.breaks (at_end js l) m e (breaks_items c js k l d)
  breaks_statement c Empty k m (u, e) = carried k.breaks k m e (implies_self k.breaks)
  breaks_statement c (Evaluate a) k m (f, d, (u, e)) = carried k.breaks (statements.at f k) m e (implies_self k.breaks)
  breaks_statement c (Swap x y) k m (f, d, (u, e)) = carried k.breaks (statements.at f k) m e (implies_self k.breaks)
  breaks_statement c (If a s t) k m (f, d, (l, ds, (n, dt, (u, e)))) =
      carried k.breaks (statements.at (meet l.now n.now) n) m e (implies_after k.breaks l.breaks n.breaks (breaks_statement c s (statements.at f k) l ds) (breaks_statement c t (statements.at f l) n dt))
  breaks_statement c (While p a s) k m (f, d, (l, ds, (kept, e))) = carried k.breaks (record { now = meet f l.breaks; breaks = k.breaks }) m e (implies_self k.breaks)
  breaks_statement c (Return v) k m (f, d, (u, e)) = carried k.breaks (statements.at Unreached k) m e (implies_self k.breaks)
  breaks_statement c Break k m (u, e) = carried k.breaks (record { now = Unreached; breaks = meet k.breaks (left_loop c k.now) }) m e (meet_first k.breaks (left_loop c k.now))
  breaks_statement c Continue k m (kept, e) = carried k.breaks (statements.at Unreached k) m e (implies_self k.breaks)
  breaks_statement c (Throw n v) k m (f, d, (u, e)) = carried k.breaks (statements.at Unreached k) m e (implies_self k.breaks)
  breaks_statement c (Try s cs) k m (l, ds, d) =
      implies_after k.breaks l.breaks m.breaks (breaks_statement c s k l ds) (breaks_clauses c (statements.caught k.now s) cs l m d)

  pub breaks_items : (c : Around) (js : Items) (k m : Known) → Derives (rule_items c js k) m → Implies k.breaks m.breaks
  breaks_items c NoItems k m (u, e) = carried k.breaks k m e (implies_self k.breaks)
  breaks_items c (MoreItems j js) k m (l, dj, d) = implies_after k.breaks l.breaks m.breaks (breaks_item c j k l dj) (breaks_items (following_item j c) js l m d)

  pub breaks_item : (c : Around) (j : Item) (k m : Known) → Derives (rule_item c j k) m → Implies k.breaks m.breaks
  breaks_item c (Execute s) k m d = breaks_statement c s k m d
  breaks_item c (Declare n t v) k m (f, d, (u, e)) = carried k.breaks (statements.at f k) m e (implies_self k.breaks)
  breaks_item c (DeclareRegion r n) k m (u, e) = subst (λ (z : Known). Implies k.breaks z.breaks) (sym e) (implies_self k.breaks)
  breaks_item c (OpenRegion r n p key) k m (f, d, (u, e)) = carried k.breaks (statements.at f k) m e (implies_self k.breaks)
  breaks_item c (DeclareAlias r n t p source) k m (f, d, (u, e)) = carried k.breaks (statements.at f k) m e (implies_self k.breaks)
  breaks_item c (DeclareKey r n) k m (u, e) = subst (λ (z : Known). Implies k.breaks z.breaks) (sym e) (implies_self k.breaks)

  pub breaks_clauses : (c : Around) (start : State) (cs : Clauses) (k m : Known) → Derives (rule_clauses c start cs k) m → Implies k.breaks m.breaks
  breaks_clauses c start NoClauses k m (u, e) = carried k.breaks k m e (implies_self k.breaks)
  breaks_clauses c start (Default r js) k m (l, d, (u, e)) = carried k.breaks (or_clause k.now js l) m e (breaks_items c js (statements.at start k) l d)
  breaks_clauses c start (Case x n r js cs) k m (l, d, later) =
      implies_after k.breaks l.breaks m.breaks (breaks_items c js (statements.at (with_caught n start) k) l d) (breaks_clauses c start cs (or_clause k.now js l) m later)

-- The flow state after a `try` has at most the facts of the state after its body.
pub clauses_implied : (c : Around) (start : State) (cs : Clauses) (k m : Known) → Derives (rule_clauses c start cs k) m → Implies k.now m.now
clauses_implied c start NoClauses k m (u, e) = subst (λ (z : Known). Implies k.now z.now) (sym e) (implies_self k.now)
clauses_implied c start (Default r js) k m (l, d, (u, e)) =
    subst (λ (z : Known). Implies k.now z.now) (sym e) (meet_first k.now (with_each Full (locks_of js) l.now))
clauses_implied c start (Case x n r js cs) k m (l, d, later) =
    implies_after k.now (meet k.now (with_each Full (locks_of js) l.now)) m.now (meet_first k.now (with_each Full (locks_of js) l.now))
    (clauses_implied c start cs (or_clause k.now js l) m later)

-- A declaration or statement that locks no local leaves the list of locked locals unchanged, so a derivation by the flow rules stays valid.
pub nothing_locked : (c : Around) (js : Items) (k m : Known) → Derives (rule_items (record c { locks = c.locks ++ [] }) js k) m → Derives (rule_items c js k) m
nothing_locked c js k m d = subst (λ ns. Derives (rule_items (record c { locks = ns }) js k) m) (append-nil c.locks) d
