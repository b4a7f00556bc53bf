-- The parsers of statements and of block items have bounded lookahead.
use Rattle.std.proofs.Common.{◌≡◌, ℕ, zero, suc, ◌≤◌, Bool, true, false, cond, List, [], ◌∷◌, length, ◌&&◌, Option, Some, Err, refl, sym, ap, subst, arith}
use Rattle.cyc_syntax.specs.declared.tokens.Keyword.TheVariants as words
use Rattle.cyc_syntax.specs.declared.tokens.Sign.TheVariants as signs
use Rattle.cyc_syntax.specs.Symbols.{Place, Terminal, Identifier, Word, Mark, Symbol}
use Rattle.cyc_syntax.specs.Trees.{Named, Char, Expression, LowByteOf, Statement, Swap, Item, Execute}
use Rattle.cyc_syntax.specs.Trees as trees
use Rattle.cyc_parse.specs.inside.Parsing.{Parser, Unexpected, TooDeep, bind, pure, choose, advance, sees, sees_terminal, if_sees, if_starts, sign, identifier}
use Rattle.cyc_parse.specs.inside.Types.{with_pointers, written_type}
use Rattle.cyc_parse.specs.inside.Expressions.{nested, group, primary, with_postfixes, unary, climb, assignment}
use Rattle.cyc_parse.specs.inside.Statements.{begins_statement, begins_item, begins_clause, is_case, is_default, is_else, is_unary, ends_in_new, end_of_swap, Nested, body, expression, expression_from, swap}
use Rattle.cyc_parse.specs.inside.Statements.{following, statement_from_name, else_part, return_value, thrown, caught, clauses_in, clauses, if_statement, while_statement, throw_statement, try_statement, statement_by}
use Rattle.cyc_parse.specs.inside.Statements.{statement, local_value, local, opened_key, region, alias, new_key, dynamic_region, let_by, executed, char_item, item_by, item, items_in, items, nested_statements}
use Rattle.cyc_parse.proofs.Locality.{suffix_whole, IsLess, refuses_on, Local, Never, open_then_runs, then_runs, pure_runs, unexpected_runs, sign_runs, word_runs, identifier_runs, advance_runs}
use Rattle.cyc_parse.proofs.Locality.{runs_as, choose_runs, test_runs, sees_runs, starts_runs, starts_limit_runs, item_refusal_runs, same_after, same_after_read, same_first, starts_same, turns_run}
use Rattle.cyc_parse.proofs.LocalTypes.{with_pointers_run, written_type_runs, region_of_runs}
use Rattle.cyc_parse.proofs.LocalExpressions.{IsOpen, nested_runs, named_run, low_byte_run, assignment_runs}

end_of_swap_runs : (room : ℕ) (e : Expression) → Local false (end_of_swap room e)
end_of_swap_runs room e = sees_runs signs.Semicolon (sign_runs _ signs.Semicolon) (test_runs (λ t. sees_terminal signs.Less t && ends_in_new e) (then_runs advance_runs (λ _. unexpected_runs)) unexpected_runs)

-- After the right side of a swap that ends in `new` and a name, `<` could open region arguments, so the symbol after the `<` is rejected.
end_refuses : (room : ℕ) (a b : Expression) (t : Symbol) (rest : List Symbol) → IsOpen b → IsLess t → bind (end_of_swap room b) (λ _. pure (Swap a b)) (t ∷ rest) ≡ Err (record { reason = Unexpected; left = rest })
unfolding bind if_sees
end_refuses room a b t rest ready less = rw (less, ready) refl

-- ---- the parsers at one depth

pub record StatementsRun (inner : Nested) : Type 0 where
  pub statement : Local true inner.statement
  pub items : Local false inner.items

module _ (room : ℕ) (inner : Nested) (h : StatementsRun inner) where
  pub body_runs : Local true (body room inner)
  body_runs = then_runs (sign_runs _ signs.LeftBrace) (λ p. then_runs h.items (λ is. then_runs (sign_runs _ signs.RightBrace) (λ q. pure_runs _)))

  expression_runs : Local true (expression room inner)
  expression_runs = (nested_runs (suc room)).expression

  expression_from_run : (x : Named) → Local false (expression_from room inner x)
  unfolding nested
  expression_from_run x = then_runs (named_run room (nested room) (nested_runs room) x) (λ e. assignment_runs room (nested room) (nested_runs room) e)

  swap_runs : (a : Expression) → Local true (swap room inner a)
  swap_runs a = then_runs (sign_runs _ signs.Swap) (λ _. open_then_runs (nested_runs (suc room)).unary (λ b. then_runs (end_of_swap_runs _ b) (λ _. pure_runs _))
      (λ b ready t a' b' less differ. refuses_on (record { reason = Unexpected; left = a' }) (end_refuses (suc room) a b t a' ready less) (suffix_whole a')))

  following_runs : (e : Expression) → Local false (following room inner e)
  following_runs e = test_runs (λ t. sees_terminal signs.Swap t && is_unary e) (swap_runs e) (then_runs (sign_runs _ signs.Semicolon) (λ _. pure_runs _))

  statement_from_name_run : (x : Named) → Local false (statement_from_name room inner x)
  statement_from_name_run x = sees_runs signs.Colon (then_runs (sign_runs _ signs.Colon) (λ _. then_runs body_runs (λ b. pure_runs _))) (then_runs (expression_from_run x) (λ e. following_runs e))

  else_part_runs : (p : Place) (c : Expression) (s : Statement) → Local false (else_part room inner p c s)
  else_part_runs p c s = starts_runs is_else (then_runs (word_runs _ words.Else) (λ _. then_runs h.statement (λ t. pure_runs _))) (pure_runs _)

  return_value_runs : Local false (return_value room inner)
  return_value_runs = sees_runs signs.Semicolon (pure_runs _) (then_runs expression_runs (λ e. pure_runs _))

  thrown_runs : Local false (thrown room inner)
  thrown_runs = sees_runs signs.LeftParen (then_runs (nested_runs room).group (λ e. pure_runs _)) (pure_runs _)

  caught_runs : Local false (caught room inner)
  caught_runs = sees_runs signs.LeftParen (then_runs (sign_runs _ signs.LeftParen) (λ _. then_runs (identifier_runs _) (λ v. then_runs (sign_runs _ signs.RightParen) (λ _. pure_runs _)))) (pure_runs _)

  clauses_in_run : (turns : ℕ) → Local false (clauses_in room inner turns)
  unfolding clauses_in
  clauses_in_run zero = pure_runs _
  clauses_in_run (suc turns) =
      starts_runs is_case (then_runs (word_runs _ words.Case) (λ _. then_runs (sign_runs _ signs.And) (λ _. then_runs (identifier_runs _) (λ x. then_runs caught_runs (λ v. then_runs (sign_runs _ signs.Colon) (λ _. then_runs h.items (λ is. then_runs (clauses_in_run turns) (λ cs. pure_runs _))))))))
      (starts_runs is_default (then_runs (word_runs _ words.Default) (λ _. then_runs (sign_runs _ signs.Colon) (λ _. then_runs h.items (λ is. pure_runs _)))) (pure_runs _))

  clauses_enough : (n m : ℕ) (ts : List Symbol) → length ts ≤ n → length ts ≤ m → clauses_in room inner n ts ≡ clauses_in room inner m ts
  unfolding clauses_in if_starts
  clauses_enough zero zero ts few few' = refl
  clauses_enough zero (suc m) [] few few' = refl
  clauses_enough zero (suc m) (t ∷ ts) few few' = absurd (omega arith)
  clauses_enough (suc n) zero [] few few' = refl
  clauses_enough (suc n) zero (t ∷ ts) few few' = absurd (omega arith)
  clauses_enough (suc n) (suc m) ts few few' = starts_same is_case _ _ _ ts
      (same_after_read _ _ ts (word_runs {Open = Never} room words.Case) (λ _ r0 l0.
      same_after _ _ r0 (sign_runs {Open = Never} room signs.And) (λ _ r1 l1.
      same_after _ _ r1 (identifier_runs room) (λ x r2 l2.
      same_after _ _ r2 caught_runs (λ v r3 l3.
      same_after _ _ r3 (sign_runs {Open = Never} room signs.Colon) (λ _ r4 l4.
      same_after _ _ r4 h.items (λ is r5 l5.
      same_first (clauses_in room inner n) (clauses_in room inner m) _ r5 (clauses_enough n m r5 (omega arith) (omega arith)))))))))

  clauses_run : Local false (clauses room inner)
  clauses_run = starts_runs begins_clause (turns_run (clauses_in room inner) clauses_in_run clauses_enough) unexpected_runs

  if_statement_runs : (p : Place) → Local true (if_statement room inner p)
  if_statement_runs p = then_runs (nested_runs (suc room)).group (λ c. then_runs h.statement (λ s. else_part_runs p c s))

  while_statement_runs : (p : Place) → Local true (while_statement room inner p)
  while_statement_runs p = then_runs (nested_runs (suc room)).group (λ c. then_runs h.statement (λ s. pure_runs _))

  throw_statement_runs : (p : Place) → Local true (throw_statement room inner p)
  throw_statement_runs p = then_runs (word_runs _ words.New) (λ _. then_runs (identifier_runs _) (λ x. then_runs thrown_runs (λ v. then_runs (sign_runs _ signs.Semicolon) (λ _. pure_runs _))))

  try_statement_runs : (p : Place) → Local true (try_statement room inner p)
  try_statement_runs p = then_runs h.statement (λ s. then_runs (word_runs _ words.Catch) (λ _. then_runs (sign_runs _ signs.LeftBrace) (λ _. then_runs clauses_run (λ cs. then_runs (sign_runs _ signs.RightBrace) (λ _. pure_runs _)))))

  statement_by_runs : (t : Option Terminal) → Local true (statement_by room inner t)
  statement_by_runs (Some (Identifier x)) = then_runs advance_runs (λ p. statement_from_name_run _)
  statement_by_runs (Some (Mark signs.LeftBrace)) = then_runs body_runs (λ b. pure_runs _)
  statement_by_runs (Some (Mark signs.Semicolon)) = then_runs advance_runs (λ p. pure_runs _)
  statement_by_runs (Some (Word words.If)) = then_runs advance_runs (λ p. if_statement_runs p)
  statement_by_runs (Some (Word words.While)) = then_runs advance_runs (λ p. while_statement_runs p)
  statement_by_runs (Some (Word words.Return)) = then_runs advance_runs (λ p. then_runs return_value_runs (λ v. then_runs (sign_runs _ signs.Semicolon) (λ _. pure_runs _)))
  statement_by_runs (Some (Word words.Break)) = then_runs advance_runs (λ p. then_runs (sign_runs _ signs.Semicolon) (λ _. pure_runs _))
  statement_by_runs (Some (Word words.Continue)) = then_runs advance_runs (λ p. then_runs (sign_runs _ signs.Semicolon) (λ _. pure_runs _))
  statement_by_runs (Some (Word words.Throw)) = then_runs advance_runs (λ p. throw_statement_runs p)
  statement_by_runs (Some (Word words.Try)) = then_runs advance_runs (λ p. try_statement_runs p)
  statement_by_runs _ = then_runs expression_runs (λ e. following_runs e)

  pub statement_runs : Local true (statement room inner)
  unfolding statement
  statement_runs = choose_runs statement_by_runs

  -- ---- items

  local_value_runs : Local false (local_value room inner)
  local_value_runs = sees_runs signs.Assign (then_runs (sign_runs _ signs.Assign) (λ _. then_runs (nested_runs room).expression (λ e. pure_runs _))) (pure_runs _)

  local_runs : Local true (local room inner)
  local_runs = then_runs (written_type_runs _) (λ t. then_runs (identifier_runs _) (λ x. then_runs local_value_runs (λ v. then_runs (sign_runs _ signs.Semicolon) (λ _. pure_runs _))))

  opened_key_runs : Local false (opened_key room inner)
  opened_key_runs = sees_runs signs.Assign (then_runs (sign_runs _ signs.Assign) (λ _. then_runs (word_runs _ words.Open) (λ _. then_runs (sign_runs _ signs.LeftParen) (λ _. then_runs (identifier_runs _) (λ k. then_runs (sign_runs _ signs.RightParen) (λ _. pure_runs _)))))) (pure_runs _)

  region_runs : Local true (region room inner)
  region_runs = then_runs (word_runs _ words.Region) (λ _. then_runs (region_of_runs _) (λ r. then_runs (identifier_runs _) (λ n. then_runs opened_key_runs (λ k. then_runs (sign_runs _ signs.Semicolon) (λ _. pure_runs _)))))

  alias_runs : Local true (alias room inner)
  alias_runs = then_runs (word_runs _ words.Alias) (λ _. then_runs (region_of_runs _) (λ r. then_runs (written_type_runs _) (λ t. then_runs (identifier_runs _) (λ x. then_runs (sign_runs _ signs.Assign) (λ _. then_runs (identifier_runs _) (λ y. then_runs (sign_runs _ signs.Semicolon) (λ _. pure_runs _)))))))

  new_key_runs : Local true (new_key room inner)
  new_key_runs = then_runs (sign_runs _ signs.Assign) (λ _. then_runs (word_runs _ words.NewKey) (λ _. then_runs (sign_runs _ signs.LeftParen) (λ _. then_runs (sign_runs _ signs.RightParen) (λ _. then_runs (sign_runs _ signs.Semicolon) (λ _. pure_runs _)))))

  dynamic_region_runs : Local true (dynamic_region room inner)
  dynamic_region_runs = then_runs (word_runs _ words.NewDynamicRegion) (λ _. then_runs (sign_runs _ signs.LeftBrace) (λ _. then_runs (region_of_runs _) (λ r. then_runs (identifier_runs _) (λ k. then_runs (sign_runs _ signs.RightBrace) (λ _. then_runs new_key_runs (λ _. pure_runs _))))))

  let_by_runs : (t : Option Terminal) → Local true (let_by room inner t)
  let_by_runs (Some (Word words.Alias)) = alias_runs
  let_by_runs (Some (Word words.NewDynamicRegion)) = dynamic_region_runs
  let_by_runs _ = unexpected_runs

  -- The symbol after `char` decides if a block item is a declaration or an expression statement. The parser of either kind of item reads
  -- that symbol too, so a block item needs only one symbol of lookahead.

  abbrev low_byte_from : Place → Parser Statement
  low_byte_from p = bind (bind (bind (with_postfixes room (nested room) (bind (group room (nested room)) (λ e. pure (LowByteOf p e)))) (climb (unary room (nested room)) 10)) (assignment room (nested room))) (following room inner)

  abbrev char_local : Place → Parser Item
  char_local p = bind (with_pointers (suc room) p Char) (λ t. bind (identifier (suc room)) (λ x. bind (local_value room inner) (λ v. bind (sign (suc room) signs.Semicolon) (λ _. pure (trees.Local t x v)))))

  abbrev after_char : Place → Parser Item
  after_char p = if_sees signs.LeftParen (bind (low_byte_from p) (λ s. pure (Execute s))) (char_local p)

  after_char_runs : (p : Place) → Local false (after_char p)
  after_char_runs p = sees_runs signs.LeftParen
      (then_runs (then_runs (then_runs (low_byte_run room (nested room) (nested_runs room) p) (λ e. assignment_runs room (nested room) (nested_runs room) e)) (λ e. following_runs e)) (λ s. pure_runs _))
      (then_runs (with_pointers_run _ _ _) (λ t. then_runs (identifier_runs _) (λ x. then_runs local_value_runs (λ v. then_runs (sign_runs _ signs.Semicolon) (λ _. pure_runs _)))))

  abbrev char_at : Place → Symbol
  char_at p = record { terminal = Word words.Char; place = p }

  char_item_reads : (p : Place) (ts : List Symbol) → char_item room inner (char_at p ∷ ts) ≡ after_char p ts
  unfolding bind choose if_sees nested unary primary statement written_type
  char_item_reads p ts = by_next (sees signs.LeftParen ts)
    where
      by_next : (b : Bool) → cond b (executed room inner) (local room inner) (char_at p ∷ ts) ≡ cond b (bind (low_byte_from p) (λ s. pure (Execute s))) (char_local p) ts
      by_next true = refl
      by_next false = refl

  abbrev read_by : Option Terminal → Parser Item
  read_by (Some (Word words.Char)) = bind advance after_char
  read_by t = item_by room inner t

  read_by_runs : (t : Option Terminal) → Local true (read_by t)
  read_by_runs (Some (Word words.Int)) = local_runs
  read_by_runs (Some (Word words.Char)) = then_runs advance_runs (λ p. after_char_runs p)
  read_by_runs (Some (Word words.Struct)) = local_runs
  read_by_runs (Some (Word words.RegionType)) = local_runs
  read_by_runs (Some (Word words.KeyType)) = local_runs
  read_by_runs (Some (Word words.Region)) = region_runs
  read_by_runs (Some (Word words.Let)) = then_runs advance_runs (λ _. choose_runs let_by_runs)
  read_by_runs _ = then_runs statement_runs (λ s. pure_runs _)

  item_as_read : (u : Terminal) (t : Symbol) (ts : List Symbol) → t.terminal ≡ u → item_by room inner (Some u) (t ∷ ts) ≡ read_by (Some u) (t ∷ ts)
  unfolding bind
  item_as_read (Word words.Char) t ts is =
      let char : t ≡ char_at t.place = ap (λ (u : Terminal). record { terminal = u; place = t.place }) is in
      subst (λ (s : Symbol). char_item room inner (s ∷ ts) ≡ after_char t.place ts) (sym char) (char_item_reads t.place ts)
  item_as_read (Word _) t ts is = refl
  item_as_read _ t ts is = refl

  item_runs : Local true (item room inner)
  unfolding item choose
  item_runs = runs_as same (choose_runs read_by_runs)
    where
      same : (ts : List Symbol) → item room inner ts ≡ choose read_by ts
      same [] = refl
      same (t ∷ ts) = item_as_read t.terminal t ts refl

  items_in_run : (turns : ℕ) → Local false (items_in room inner turns)
  unfolding items_in
  items_in_run zero = pure_runs _
  items_in_run (suc turns) = starts_runs begins_item (then_runs item_runs (λ i. then_runs (items_in_run turns) (λ is. pure_runs _))) (pure_runs _)

  items_enough : (n m : ℕ) (ts : List Symbol) → length ts ≤ n → length ts ≤ m → items_in room inner n ts ≡ items_in room inner m ts
  unfolding items_in if_starts
  items_enough zero zero ts few few' = refl
  items_enough zero (suc m) [] few few' = refl
  items_enough zero (suc m) (t ∷ ts) few few' = absurd (omega arith)
  items_enough (suc n) zero [] few few' = refl
  items_enough (suc n) zero (t ∷ ts) few few' = absurd (omega arith)
  items_enough (suc n) (suc m) ts few few' = starts_same begins_item _ _ _ ts
      (same_after_read _ _ ts item_runs (λ i rest less. same_first (items_in room inner n) (items_in room inner m) _ rest (items_enough n m rest (omega arith) (omega arith))))

  pub items_run : Local false (items room inner)
  items_run = turns_run (items_in room inner) items_in_run items_enough

pub nested_statements_run : (room : ℕ) → StatementsRun (nested_statements room)
unfolding nested_statements
nested_statements_run zero = record {
  statement = item_refusal_runs begins_statement TooDeep;
  items = starts_limit_runs begins_item TooDeep (pure_runs _);
}
nested_statements_run (suc room) = record {
  statement = statement_runs room (nested_statements room) (nested_statements_run room);
  items = items_run room (nested_statements room) (nested_statements_run room);
}
