-- The parsers of statements and of block items return a tree that the symbols spell and that is well-formed by the grammar.
use Rattle.std.proofs.Common.{◌≡◌, ℕ, zero, suc, ◌≤◌, ◌<◌, Bool, true, false, ◌&&◌, ◌||◌, List, [], ◌∷◌, ◌++◌, length, Option, Some, refl, sym, ap, ◌∙◌, arith, append-nil, append_assoc, true≢false}
use Rattle.cyc_words.proofs.Booleans.{and_right, anything_from_false_is_true}
use Rattle.cyc_syntax.specs.declared.tokens.Keyword.TheVariants as words
use Rattle.cyc_syntax.specs.declared.tokens.Sign.TheVariants as signs
use Rattle.cyc_syntax.specs.Symbols.{Place, Terminal, Identifier, Word, Mark, Symbol}
use Rattle.cyc_syntax.specs.Trees.{Named, Expression, New, Binary, Assign, Statement, Block, Labelled, Empty, IfElse, While, NoItems, MoreItems, Execute, DynamicRegion, Default, Case}
use Rattle.cyc_syntax.specs.Yields.{Leaf, Yield}
use Rattle.cyc_syntax.specs.Yields as yields
use Rattle.cyc_syntax.specs.Grammar.{IsExpression, IsExpressionOrNone, wants_else, IsBody, AreItems, IsItem, AreClauses, IsSomeClause, max_nesting}
use Rattle.cyc_parse.specs.inside.Parsing.{TooDeep, next, bind, pure, inside, sees, starts, opens_low_byte, sign, word, identifier}
use Rattle.cyc_parse.specs.inside.Expressions.{nested}
use Rattle.cyc_parse.specs.inside.Statements.{begins_statement, begins_item, begins_clause, is_case, is_default, is_else, is_unary, ends_in_new, end_of_swap, Nested, body, expression, expression_from, swap}
use Rattle.cyc_parse.specs.inside.Statements.{following, statement_from_name, else_part, return_value, thrown, caught, clauses_in, clauses, if_statement, while_statement, throw_statement, try_statement}
use Rattle.cyc_parse.specs.inside.Statements.{statement_by, statement, local_value, local, opened_key, region, alias, new_key, dynamic_region, let_by, executed, item_by, item, items_in, items, nested_statements}
use Rattle.cyc_parse.proofs.Rules.{Fits, leaf_of, leaf_at}
use Rattle.cyc_parse.proofs.Gives.{Gives, Follows, Spells, Any, part_then, spelled_then, last_then, pure_gives, possibly, unexpected_gives, then_unexpected, begun_gives, item_refusal_gives, gives_as, gives_instead}
use Rattle.cyc_parse.proofs.GivesSymbols.{some_place, sign_then, sign_then_at, word_then, identifier_then, advance_then, advance_bare_then, choose_gives, test_gives, sees_gives, starts_gives, bare_gives, stuck_sign, stuck_word}
use Rattle.cyc_parse.proofs.Openings.{named_at, IsStatementBefore, statement_opened, items_opened}
use Rattle.cyc_parse.proofs.GivesTypes.{region_of_gives, written_type_gives}
use Rattle.cyc_parse.proofs.GivesExpressions.{Level, NestedGive, nested_give, named_climb_gives, assignment_gives}

unary_of : (e : Expression) → IsExpression 11 e → is_unary e ≡ true → IsExpression 0 e
unary_of (Binary e os) is u = absurd (cc)
unary_of (Assign a b) is u = absurd (cc)
unary_of e is u = is

-- ---- parts with their own brackets, with possibly one level of room left

closed_name : (room d : ℕ) → Fits room d → (ts : List Symbol)
    → Gives (bind (sign room signs.LeftParen) (λ _. bind (identifier (inside room)) (λ v. bind (sign (inside room) signs.RightParen) (λ _. pure (Some v))))) (Spells (yields.optional (yields.caught d)) Any) ts
closed_name zero d fits ts = stuck_sign d signs.LeftParen _ (possibly (Some (named_at some_place)) _ (refl, tt))
closed_name (suc room) d fits ts = sign_then (suc room) d signs.LeftParen fits (λ _ mid. identifier_then room (suc d) (omega arith) (λ v mid. sign_then room (suc d) signs.RightParen (omega arith) (λ _ mid. pure_gives (refl, tt))))

opened_rest : (room d : ℕ) → Fits room (suc d) → (ts : List Symbol)
    → Gives (bind (word room words.Open) (λ _. bind (sign room signs.LeftParen) (λ _. bind (identifier (inside room)) (λ k. bind (sign (inside room) signs.RightParen) (λ _. pure (Some k))))))
    (Follows (leaf_of d (Mark signs.Assign) ∷ []) (yields.optional (yields.opened d)) Any) ts
opened_rest zero d fits ts = stuck_word (suc d) words.Open _ (possibly (Some (named_at some_place)) _ (refl, tt))
opened_rest (suc room) d fits ts = word_then (suc room) (suc d) words.Open fits (λ _ mid. sign_then (suc room) (suc d) signs.LeftParen fits (λ _ mid. identifier_then room (suc (suc d)) (omega arith) (λ k mid. sign_then room (suc (suc d)) signs.RightParen (omega arith) (λ _ mid. pure_gives (refl, tt)))))

abbrev key_leaves : ℕ → Yield
key_leaves d = leaf_of d (Mark signs.Assign) ∷ leaf_of (suc d) (Word words.NewKey) ∷ leaf_of (suc d) (Mark signs.LeftParen) ∷ leaf_of (suc (suc d)) (Mark signs.RightParen) ∷ leaf_of d (Mark signs.Semicolon) ∷ []

new_key_rest : (room d : ℕ) → Fits (suc room) d → (ts : List Symbol)
    → Gives (bind (sign (suc room) signs.Assign) (λ _. bind (word room words.NewKey) (λ _. bind (sign room signs.LeftParen) (λ _. bind (sign (inside room) signs.RightParen) (λ _. bind (sign (suc room) signs.Semicolon) (λ _. pure {A = Unit {0}} tt))))))
    (Spells (λ _. key_leaves d) Any) ts
new_key_rest zero d fits ts = sign_then 1 d signs.Assign fits (λ _ mid. stuck_word (suc d) words.NewKey _ (possibly tt _ (refl, tt)))
new_key_rest (suc room) d fits ts = sign_then (suc (suc room)) d signs.Assign fits (λ _ mid. word_then (suc room) (suc d) words.NewKey (omega arith) (λ _ mid. sign_then (suc room) (suc d) signs.LeftParen (omega arith)
    (λ _ mid. sign_then room (suc (suc d)) signs.RightParen (omega arith) (λ _ mid. sign_then (suc (suc room)) d signs.Semicolon fits (λ _ mid. pure_gives (refl, tt))))))

end_of_swap_gives : (room d : ℕ) → Fits room d → (e : Expression) (ts : List Symbol) → Gives (end_of_swap room e) (Spells (λ _. leaf_of d (Mark signs.Semicolon) ∷ []) Any) ts
end_of_swap_gives room d fits e ts = sees_gives signs.Semicolon (bare_gives (sign_then room d signs.Semicolon fits (λ _ mid. pure_gives (refl, tt))))
    (test_gives (λ s. sees signs.Less s && ends_in_new e) (λ _. then_unexpected (possibly some_place _ (refl, tt))) (λ _. unexpected_gives (possibly some_place _ (refl, tt))))

-- ---- the parsers at one depth

pub record StatementsGive (d : ℕ) (inner : Nested) : Type 0 where
  pub statement : (ts : List Symbol) → Gives inner.statement (Spells (yields.statement d) IsStatementBefore) ts
  pub items : (ts : List Symbol) → Gives inner.items (Spells (yields.items d) (λ is _. AreItems is)) ts

module _ (room d : ℕ) (inner : Nested) (fits : Fits (suc room) d) (h : StatementsGive (suc d) inner) where
  deeper : Fits room (suc d)
  deeper = omega arith

  shallow : d ≤ max_nesting
  shallow = omega arith

  this : NestedGive d (nested (suc room))
  this = nested_give (suc room) d fits

  below : NestedGive (suc d) (nested room)
  below = nested_give room (suc d) deeper

  pub body_gives : (ts : List Symbol) → Gives (body room inner) (Spells (yields.body d) (λ b _. IsBody b)) ts
  body_gives ts = sign_then_at (suc room) d signs.LeftBrace fits (λ p mid. spelled_then (h.items mid) (λ is mid are. sign_then_at room (suc d) signs.RightBrace deeper (λ q mid. pure_gives (refl, are))))

  expression_gives : (ts : List Symbol) → Gives (expression room inner) (Spells (yields.expression d) (Level 11)) ts
  expression_gives ts = this.expression ts

  expression_from_gives : (x : Named) (ts : List Symbol) → Gives (expression_from room inner x) (Follows (leaf_at d (Identifier x.name) x.place ∷ []) (yields.expression d) (Level 11)) ts
  unfolding nested
  expression_from_gives x ts = part_then (named_climb_gives room d (nested room) fits below x ts) (λ e xs mid (eq, is). gives_as (λ y ys rest (e', is'). (ap (λ (zs : Yield). zs ++ ys) eq ∙ e', is')) (assignment_gives room d (nested room) fits below e is mid))

  swap_gives : (a : Expression) → IsExpression 0 a → (ts : List Symbol) → Gives (swap room inner a) (Follows (yields.expression d a) (yields.statement d) IsStatementBefore) ts
  swap_gives a is ts = sign_then (suc room) d signs.Swap fits (λ _ mid. spelled_then (this.unary mid) (λ b mid isb. spelled_then (end_of_swap_gives (suc room) d fits b mid) (λ _ mid _. pure_gives (refl, ((is, isb), anything_from_false_is_true)))))

  after_gives : (e : Expression) → IsExpression 11 e → (ts : List Symbol) → Gives (following room inner e) (Follows (yields.expression d e) (yields.statement d) IsStatementBefore) ts
  after_gives e is ts = test_gives (λ s. sees signs.Swap s && is_unary e) (λ t. swap_gives e (unary_of e is (and_right (sees signs.Swap ts) (is_unary e) t)) ts)
      (λ _. sign_then (suc room) d signs.Semicolon fits (λ _ mid. pure_gives (refl, (is, anything_from_false_is_true))))

  statement_from_name_gives : (x : Named) (ts : List Symbol) → Gives (statement_from_name room inner x) (Follows (leaf_at d (Identifier x.name) x.place ∷ []) (yields.statement d) IsStatementBefore) ts
  statement_from_name_gives x ts = sees_gives signs.Colon (sign_then (suc room) d signs.Colon fits (λ _ mid. last_then (Labelled x) (body_gives mid) (λ b rest is. (refl, (is, anything_from_false_is_true)))))
      (part_then (expression_from_gives x ts) (λ e xs mid (eq, is). gives_as (λ y ys rest (e', is'). (ap (λ (zs : Yield). zs ++ ys) eq ∙ e', is')) (after_gives e is mid)))

  abbrev condition : Expression → Yield
  condition c = leaf_of d (Mark signs.LeftParen) ∷ (yields.expression (suc d) c ++ leaf_of (suc d) (Mark signs.RightParen) ∷ [])

  -- The concatenation of the yield of a parenthesized condition and further leaves can be bracketed in another way, by associativity.
  regroup : (l : Leaf) (c : Expression) (zs : Yield) → l ∷ (condition c ++ zs) ≡ l ∷ leaf_of d (Mark signs.LeftParen) ∷ (yields.expression (suc d) c ++ leaf_of (suc d) (Mark signs.RightParen) ∷ zs)
  regroup l c zs = ap (λ (ys : Yield). l ∷ leaf_of d (Mark signs.LeftParen) ∷ ys) (append_assoc (yields.expression (suc d) c) (leaf_of (suc d) (Mark signs.RightParen) ∷ []) zs)

  wants_none : (s : Statement) (mid : List Symbol) → (wants_else s ≡ true → starts is_else (next mid) ≡ false) → starts is_else (next mid) ≡ true → wants_else s ≡ false
  wants_none s mid wants comes = go (wants_else s) refl
    where
      go : (b : Bool) → wants_else s ≡ b → wants_else s ≡ false
      go true e = absurd (true≢false (sym comes ∙ wants e))
      go false e = e

  else_part_gives : (p : Place) (c : Expression) (s : Statement) → IsExpression 11 c → (ts : List Symbol) → IsStatementBefore s ts
      → Gives (else_part room inner p c s) (λ y ys rest. (leaf_at d (Word words.If) p ∷ (condition c ++ (yields.statement (suc d) s ++ ys)) ≡ yields.statement d y) × IsStatementBefore y rest) ts
  else_part_gives p c s isc ts (iss, wants) = starts_gives is_else
      (λ comes. word_then (suc room) d words.Else fits (λ _ mid. last_then (IfElse p c s) (h.statement mid)
      (λ t rest (ist, wantst). (regroup (leaf_at d (Word words.If) p) c _, ((isc, iss, wants_none s ts wants comes, ist), wantst)))))
      (λ none. pure_gives (regroup (leaf_at d (Word words.If) p) c _ ∙ ap (λ (zs : Yield). leaf_at d (Word words.If) p ∷ leaf_of d (Mark signs.LeftParen) ∷ (yields.expression (suc d) c ++ leaf_of (suc d) (Mark signs.RightParen) ∷ zs)) (append-nil (yields.statement (suc d) s)), ((isc, iss), (λ _. none))))

  if_statement_gives : (p : Place) (ts : List Symbol) → Gives (if_statement room inner p) (Follows (leaf_at d (Word words.If) p ∷ []) (yields.statement d) IsStatementBefore) ts
  if_statement_gives p ts = spelled_then (this.group ts) (λ c mid isc. spelled_then (h.statement mid) (λ s mid is. else_part_gives p c s isc mid is))

  while_statement_gives : (p : Place) (ts : List Symbol) → Gives (while_statement room inner p) (Follows (leaf_at d (Word words.While) p ∷ []) (yields.statement d) IsStatementBefore) ts
  while_statement_gives p ts = spelled_then (this.group ts) (λ c mid isc. last_then (While p c) (h.statement mid) (λ s rest (iss, wants). (regroup (leaf_at d (Word words.While) p) c _, ((isc, iss), wants))))

  return_value_gives : (ts : List Symbol) → Gives (return_value room inner) (Spells (yields.optional (yields.expression d)) (λ v _. IsExpressionOrNone v)) ts
  return_value_gives ts = sees_gives signs.Semicolon (pure_gives (refl, tt)) (last_then Some (expression_gives ts) (λ e rest is. (refl, is)))

  thrown_gives : (ts : List Symbol) → Gives (thrown room inner) (Spells (yields.optional (yields.thrown (suc d))) (λ v _. IsExpressionOrNone v)) ts
  thrown_gives ts = sees_gives signs.LeftParen (last_then Some (below.group ts) (λ e rest is. (refl, is))) (pure_gives (refl, tt))

  throw_statement_gives : (p : Place) (ts : List Symbol) → Gives (throw_statement room inner p) (Follows (leaf_at d (Word words.Throw) p ∷ []) (yields.statement d) IsStatementBefore) ts
  throw_statement_gives p ts = word_then (suc room) d words.New fits (λ _ mid. identifier_then room (suc d) deeper (λ x mid. spelled_then (thrown_gives mid) (λ v mid is. sign_then (suc room) d signs.Semicolon fits (λ _ mid. pure_gives (refl, (is, anything_from_false_is_true))))))

  caught_gives : (ts : List Symbol) → Gives (caught room inner) (Spells (yields.optional (yields.caught (suc d))) Any) ts
  caught_gives ts = sees_gives signs.LeftParen (closed_name room (suc d) deeper ts) (pure_gives (refl, tt))

  begins_or : (ts : List Symbol) → starts begins_clause (next ts) ≡ true → starts is_case (next ts) ≡ false → starts is_default (next ts) ≡ false → ⊥
  begins_or [] begins no_case no_default = true≢false (sym begins)
  begins_or (t ∷ ts) begins no_case no_default = true≢false (sym begins ∙ neither (is_case t.terminal) (is_default t.terminal) no_case no_default)
    where
      neither : (a b : Bool) → a ≡ false → b ≡ false → (a || b) ≡ false
      neither true b e f = absurd (true≢false e)
      neither false b e f = f

  clauses_in_give : (turns : ℕ) (ts : List Symbol)
      → Gives (clauses_in room inner turns) (Spells (yields.clauses (suc d)) (λ cs _. AreClauses cs × (0 < turns → starts begins_clause (next ts) ≡ true → IsSomeClause cs))) ts
  unfolding clauses_in
  clauses_in_give zero ts = pure_gives (refl, (tt, (λ less. absurd (omega arith))))
  clauses_in_give (suc turns) ts = starts_gives is_case
      (λ _. word_then room (suc d) words.Case deeper (λ _ mid. sign_then room (suc d) signs.And deeper (λ _ mid. identifier_then room (suc d) deeper (λ x mid. spelled_then (caught_gives mid) (λ v mid _. sign_then room (suc d) signs.Colon deeper (λ _ mid.
      spelled_then (h.items mid) (λ is mid are. last_then (Case x v is) (clauses_in_give turns mid) (λ cs rest (arec, _). (refl, ((are, arec), (λ _ _. tt)))))))))))
      (λ no_case. starts_gives is_default (λ _. word_then room (suc d) words.Default deeper (λ _ mid. sign_then room (suc d) signs.Colon deeper (λ _ mid. last_then Default (h.items mid) (λ is rest are. (refl, (are, (λ _ _. tt)))))))
      (λ no_default. pure_gives (refl, (tt, (λ _ begins. begins_or ts begins no_case no_default)))))

  clauses_give : (ts : List Symbol) → Gives (clauses room inner) (Spells (yields.clauses (suc d)) (λ cs _. IsSomeClause cs × AreClauses cs)) ts
  clauses_give ts = starts_gives begins_clause (λ begins. gives_as (λ cs ls rest (e, (are, some)). (e, (some (positive ts begins) begins, are))) (gives_instead (clauses_in room inner (length ts)) refl (clauses_in_give (length ts) ts))) (λ _. unexpected_gives (possibly (Default NoItems) _ (refl, (tt, tt))))
    where
      positive : (ts : List Symbol) → starts begins_clause (next ts) ≡ true → 0 < length ts
      positive [] begins = absurd (true≢false (sym begins))
      positive (t ∷ ts) begins = omega arith

  try_statement_gives : (p : Place) (ts : List Symbol) → Gives (try_statement room inner p) (Follows (leaf_at d (Word words.Try) p ∷ []) (yields.statement d) IsStatementBefore) ts
  try_statement_gives p ts = spelled_then (h.statement ts) (λ s mid (iss, _). word_then (suc room) d words.Catch fits (λ _ mid. sign_then (suc room) d signs.LeftBrace fits (λ _ mid. spelled_then (clauses_give mid) (λ cs mid (some, are).
      sign_then room (suc d) signs.RightBrace deeper (λ _ mid. pure_gives (refl, ((iss, some, are), anything_from_false_is_true)))))))

  statement_by_gives : (o : Option Terminal) (ts : List Symbol) → next ts ≡ o → Gives (statement_by room inner o) (Spells (yields.statement d) IsStatementBefore) ts
  statement_by_gives (Some (Identifier x)) ts e = advance_then d (Identifier x) e shallow (λ p mid. statement_from_name_gives (record { name = x; place = p }) mid)
  statement_by_gives (Some (Mark signs.LeftBrace)) ts e = last_then Block (body_gives ts) (λ b rest is. (refl, (is, anything_from_false_is_true)))
  statement_by_gives (Some (Mark signs.Semicolon)) ts e = advance_then d (Mark signs.Semicolon) e shallow (λ p mid. pure_gives (refl, (tt, anything_from_false_is_true)))
  statement_by_gives (Some (Word words.If)) ts e = advance_then d (Word words.If) e shallow (λ p mid. if_statement_gives p mid)
  statement_by_gives (Some (Word words.While)) ts e = advance_then d (Word words.While) e shallow (λ p mid. while_statement_gives p mid)
  statement_by_gives (Some (Word words.Return)) ts e = advance_then d (Word words.Return) e shallow (λ p mid. spelled_then (return_value_gives mid) (λ v mid is. sign_then (suc room) d signs.Semicolon fits (λ _ mid. pure_gives (refl, (is, anything_from_false_is_true)))))
  statement_by_gives (Some (Word words.Break)) ts e = advance_then d (Word words.Break) e shallow (λ p mid. sign_then (suc room) d signs.Semicolon fits (λ _ mid. pure_gives (refl, (tt, anything_from_false_is_true))))
  statement_by_gives (Some (Word words.Continue)) ts e = advance_then d (Word words.Continue) e shallow (λ p mid. sign_then (suc room) d signs.Semicolon fits (λ _ mid. pure_gives (refl, (tt, anything_from_false_is_true))))
  statement_by_gives (Some (Word words.Throw)) ts e = advance_then d (Word words.Throw) e shallow (λ p mid. throw_statement_gives p mid)
  statement_by_gives (Some (Word words.Try)) ts e = advance_then d (Word words.Try) e shallow (λ p mid. try_statement_gives p mid)
  statement_by_gives _ ts e = spelled_then (expression_gives ts) (λ x mid is. after_gives x is mid)

  pub statement_gives : (ts : List Symbol) → Gives (statement room inner) (Spells (yields.statement d) IsStatementBefore) ts
  unfolding statement
  statement_gives ts = choose_gives (λ o e. statement_by_gives o ts e)

  -- ---- items

  local_value_gives : (ts : List Symbol) → Gives (local_value room inner) (Spells (yields.optional (yields.given d)) (λ v _. IsExpressionOrNone v)) ts
  local_value_gives ts = sees_gives signs.Assign (sign_then (suc room) d signs.Assign fits (λ _ mid. last_then Some (below.expression mid) (λ e rest is. (refl, is)))) (pure_gives (refl, tt))

  local_gives : (ts : List Symbol) → Gives (local room inner) (Spells (yields.item d) (λ i _. IsItem i)) ts
  local_gives ts = spelled_then (written_type_gives (suc room) d fits shallow ts) (λ t mid _. identifier_then (suc room) d fits (λ x mid. spelled_then (local_value_gives mid) (λ v mid is. sign_then (suc room) d signs.Semicolon fits (λ _ mid. pure_gives (refl, is)))))

  opened_key_gives : (ts : List Symbol) → Gives (opened_key room inner) (Spells (yields.optional (yields.opened d)) Any) ts
  opened_key_gives ts = sees_gives signs.Assign (sign_then (suc room) d signs.Assign fits (λ _ mid. opened_rest room d deeper mid)) (pure_gives (refl, tt))

  region_gives : (ts : List Symbol) → Gives (region room inner) (Spells (yields.item d) (λ i _. IsItem i)) ts
  region_gives ts = word_then (suc room) d words.Region fits (λ _ mid. spelled_then (region_of_gives (suc room) d fits mid) (λ r mid _. identifier_then (suc room) d fits (λ n mid. spelled_then (opened_key_gives mid) (λ k mid _.
      sign_then (suc room) d signs.Semicolon fits (λ _ mid. pure_gives (refl, tt))))))

  alias_gives : (ts : List Symbol) → Gives (alias room inner) (Follows (leaf_of d (Word words.Let) ∷ []) (yields.item d) (λ i _. IsItem i)) ts
  alias_gives ts = word_then (suc room) d words.Alias fits (λ _ mid. spelled_then (region_of_gives (suc room) d fits mid) (λ r mid _. spelled_then (written_type_gives (suc room) d fits shallow mid) (λ t mid _. identifier_then (suc room) d fits (λ x mid.
      sign_then (suc room) d signs.Assign fits (λ _ mid. identifier_then room (suc d) deeper (λ y mid. sign_then (suc room) d signs.Semicolon fits (λ _ mid. pure_gives (refl, tt))))))))

  new_key_gives : (ts : List Symbol) → Gives (new_key room inner) (Spells (λ _. key_leaves d) Any) ts
  new_key_gives ts = new_key_rest room d fits ts

  dynamic_region_gives : (ts : List Symbol) → Gives (dynamic_region room inner) (Follows (leaf_of d (Word words.Let) ∷ []) (yields.item d) (λ i _. IsItem i)) ts
  dynamic_region_gives ts = word_then (suc room) d words.NewDynamicRegion fits (λ _ mid. sign_then (suc room) d signs.LeftBrace fits (λ _ mid. spelled_then (region_of_gives room (suc d) deeper mid) (λ r mid _. identifier_then room (suc d) deeper (λ k mid.
      sign_then room (suc d) signs.RightBrace deeper (λ _ mid. spelled_then (new_key_gives mid) (λ _ mid _. pure_gives (refl, tt)))))))

  let_by_gives : (o : Option Terminal) (ts : List Symbol) → Gives (let_by room inner o) (Follows (leaf_of d (Word words.Let) ∷ []) (yields.item d) (λ i _. IsItem i)) ts
  let_by_gives (Some (Word words.Alias)) ts = alias_gives ts
  let_by_gives (Some (Word words.NewDynamicRegion)) ts = dynamic_region_gives ts
  let_by_gives _ ts = unexpected_gives (possibly (DynamicRegion (named_at some_place) (named_at some_place)) _ (refl, tt))

  executed_gives : (ts : List Symbol) → Gives (executed room inner) (Spells (yields.item d) (λ i _. IsItem i)) ts
  executed_gives ts = last_then Execute (statement_gives ts) (λ s rest (is, _). (refl, is))

  item_by_gives : (o : Option Terminal) (ts : List Symbol) → next ts ≡ o → Gives (item_by room inner o) (Spells (yields.item d) (λ i _. IsItem i)) ts
  item_by_gives (Some (Word words.Int)) ts e = local_gives ts
  item_by_gives (Some (Word words.Char)) ts e = test_gives opens_low_byte (λ _. executed_gives ts) (λ _. local_gives ts)
  item_by_gives (Some (Word words.Struct)) ts e = local_gives ts
  item_by_gives (Some (Word words.RegionType)) ts e = local_gives ts
  item_by_gives (Some (Word words.KeyType)) ts e = local_gives ts
  item_by_gives (Some (Word words.Region)) ts e = region_gives ts
  item_by_gives (Some (Word words.Let)) ts e = advance_bare_then d (Word words.Let) e shallow (λ _ mid. choose_gives (λ o _. let_by_gives o mid))
  item_by_gives _ ts e = executed_gives ts

  item_gives : (ts : List Symbol) → Gives (item room inner) (Spells (yields.item d) (λ i _. IsItem i)) ts
  unfolding item
  item_gives ts = choose_gives (λ o e. item_by_gives o ts e)

  items_in_give : (turns : ℕ) (ts : List Symbol) → Gives (items_in room inner turns) (Spells (yields.items d) (λ is _. AreItems is)) ts
  unfolding items_in
  items_in_give zero ts = pure_gives (refl, tt)
  items_in_give (suc turns) ts = starts_gives begins_item (λ _. spelled_then (item_gives ts) (λ i mid is. last_then (MoreItems i) (items_in_give turns mid) (λ is' rest are. (refl, (is, are))))) (λ _. pure_gives (refl, tt))

  pub items_give : (ts : List Symbol) → Gives (items room inner) (Spells (yields.items d) (λ is _. AreItems is)) ts
  items_give ts = gives_instead (items_in room inner (length ts)) refl (items_in_give (length ts) ts)

pub nested_statements_give : (room d : ℕ) → Fits room d → StatementsGive d (nested_statements room)
unfolding nested_statements
nested_statements_give zero d fits = record {
  statement = λ ts. item_refusal_gives begins_statement TooDeep (possibly (Empty some_place) _ (refl, (tt, anything_from_false_is_true))) (statement_opened d);
  items = λ ts. starts_gives begins_item (λ comes. begun_gives begins_item TooDeep comes (items_opened d)) (λ _. pure_gives (refl, tt));
}
nested_statements_give (suc room) d fits = let h = nested_statements_give room (suc d) (omega arith) in record {
  statement = statement_gives room d (nested_statements room) fits h;
  items = items_give room d (nested_statements room) fits h;
}
