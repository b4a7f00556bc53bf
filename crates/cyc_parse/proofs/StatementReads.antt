-- Each production of statements is parsed back from its yield if the statements and expressions in it are parsed back from theirs.
use Rattle.std.proofs.Common.{◌≡◌, ℕ, suc, ◌≤◌, Bool, true, false, cond, ◌&&◌, List, [], ◌∷◌, ◌++◌, Option, Some, None, refl, sym, ap, subst, ◌∙◌, arith, append-nil}
use Rattle.cyc_syntax.specs.declared.tokens.Keyword.TheVariants as words
use Rattle.cyc_syntax.specs.declared.tokens.Sign.TheVariants as signs
use Rattle.cyc_syntax.specs.Symbols.{Place, Terminal, Identifier, RegionName, Word, Mark, Symbol}
use Rattle.cyc_syntax.specs.Symbols as terminals
use Rattle.cyc_syntax.specs.Trees.{Named, Expression, Number, Character, New, Binary, Assign, Statement, Block, Labelled, Empty, Evaluate, Swap, If, IfElse, While, Return, Break, Continue, Throw, Try, Body, Braces, Items, Clauses}
use Rattle.cyc_syntax.specs.Yields.{Leaf, Yield}
use Rattle.cyc_syntax.specs.Yields as yields
use Rattle.cyc_syntax.specs.Grammar.{IsExpression, IsExpressionOrNone, wants_else}
use Rattle.cyc_parse.specs.inside.Parsing.{Parser, pure, next, sees, sees_terminal, if_sees, starts, sign, bind, choose}
use Rattle.cyc_parse.specs.inside.Expressions.{begins_expression, nested, primary, unary}
use Rattle.cyc_parse.specs.inside.Statements.{begins_item, begins_clause, is_else, is_unary, end_of_swap, nested_statements, body, swap, following, return_value, thrown, statement, statement_by, clauses}
use Rattle.cyc_parse.specs.inside.Statements as statements
use Rattle.cyc_parse.proofs.Rules.{Front, Reads, Fits, Always, starts-next, leaf_of, leaf_at, front-next, then_reads, last_reads, nothing_reads, pure_reads, reads_instead, reads_before, word_reads}
use Rattle.cyc_parse.proofs.Rules.{sign_reads, sign_reads_at, identifier_reads, choose_reads, advance_reads_at, sees_reads, unseen_reads, seen_reads, starts_reads, unstarted_reads, between_then}
use Rattle.cyc_parse.proofs.Stops.{Stops, stops_leaf, binds_terminal}
use Rattle.cyc_parse.proofs.Starts.{expression_starts, IsSecond, alone, goes_on, second_goes_on}
use Rattle.cyc_parse.proofs.ExpressionReads.{deeper, shallow, NoParen}
use Rattle.cyc_parse.proofs.OperandReads.{nested_group_reads}
use Rattle.cyc_parse.proofs.InitialReads.{all_read}
use Rattle.cyc_parse.proofs.Openings.{looser}

-- Says that no `else` follows a statement that ends in an `if` without `else`.
pub record EndsStatement (wants : Bool) (ts : List Symbol) : Type 0 where
  pub no_else : wants ≡ true → starts is_else (next ts) ≡ false

-- Conditions on the symbols that may follow the declarations and statements of a block.
pub record EndsBlock (ts : List Symbol) : Type 0 where
  pub item : starts begins_item (next ts) ≡ false
  pub no_else : starts is_else (next ts) ≡ false

-- Conditions on the symbols that may follow the clauses of a `catch`, which is the part of a `try` statement that handles exceptions.
pub record EndsClauses (ts : List Symbol) : Type 0 where
  pub clause : starts begins_clause (next ts) ≡ false
  pub block : EndsBlock ts

-- Says that a semicolon follows the value in a `return` statement.
pub record EndsValue (ts : List Symbol) : Type 0 where
  pub semicolon : sees signs.Semicolon ts ≡ true
  pub stops : Stops 11 ts

-- ---- expressions as parts of statements

pub expression_at : (room d : ℕ) → Fits room d → (e : Expression) → IsExpression 11 e → Reads (nested room).expression e (yields.expression d e) (Stops 11)
expression_at room d fits e is = (all_read e).expression room d fits is

-- An operand is also an expression of the loosest precedence level.
pub loosest : (e : Expression) → IsExpression 0 e → IsExpression 11 e
loosest e is = looser 0 11 (omega arith) e is

pub is-unary : (e : Expression) → IsExpression 0 e → is_unary e ≡ true
is-unary (Binary e os) (below, less, limit, first, some, are) = absurd (omega arith)
is-unary (Assign a b) (most, is_a, is_b) = absurd (omega arith)
is-unary _ is = refl

-- At the start of an expression, a name is not followed by a colon.
high_not_colon : (t : Terminal) → binds_terminal t ≤ 11 → sees_terminal signs.Colon (Some t) ≡ false
high_not_colon (Mark signs.Colon) h = absurd (omega arith)
high_not_colon (Mark _) h = refl
high_not_colon _ h = refl

no_colon : {others : Yield} (ys : Yield) (more rest : List Symbol) → IsSecond 11 others → Front (others ++ ys) more rest → ((w r : List Symbol) → Front ys w r → sees signs.Colon w ≡ false) → sees signs.Colon more ≡ false
no_colon ys more rest alone front after = after more rest front
no_colon ys more rest (goes_on leaf zs binds plain) (u, us, e, is_leaf, front) after = ap (sees signs.Colon) e ∙ ap (λ (t : Terminal). sees_terminal signs.Colon (Some t)) is_leaf.terminal ∙ high_not_colon leaf.terminal binds

module _ (room : ℕ) where
  -- If no colon follows a name, then a statement that begins with the name begins with an expression.
  on_name : (x : ℕ) (t : Symbol) (more : List Symbol) → t.terminal ≡ Identifier x → sees signs.Colon more ≡ false
      → statement room (nested_statements room) (t ∷ more) ≡ bind (statements.expression room (nested_statements room)) (following room (nested_statements room)) (t ∷ more)
  unfolding statement choose if_sees bind nested unary primary
  on_name x t more named plain = rw (named) (rw (plain) refl)

  not_name : (t : Terminal) → begins_expression t ≡ true → ((x : ℕ) → t ≡ Identifier x → ⊥) → statement_by room (nested_statements room) (Some t) ≡ bind (statements.expression room (nested_statements room)) (following room (nested_statements room))
  not_name (Identifier x) h other = absurd (other x refl)
  not_name (RegionName r) h other = refl
  not_name (terminals.Number n) h other = refl
  not_name (terminals.Character c) h other = refl
  not_name (Mark signs.LeftBrace) h other = absurd (cc)
  not_name (Mark signs.Semicolon) h other = absurd (cc)
  not_name (Mark _) h other = refl
  not_name (Word words.If) h other = absurd (cc)
  not_name (Word words.While) h other = absurd (cc)
  not_name (Word words.Return) h other = absurd (cc)
  not_name (Word words.Break) h other = absurd (cc)
  not_name (Word words.Continue) h other = absurd (cc)
  not_name (Word words.Throw) h other = absurd (cc)
  not_name (Word words.Try) h other = absurd (cc)
  not_name (Word _) h other = refl

  on_other : (t : Symbol) (more : List Symbol) (p : Parser Statement) → statement_by room (nested_statements room) (Some t.terminal) ≡ p → statement room (nested_statements room) (t ∷ more) ≡ p (t ∷ more)
  unfolding statement choose
  on_other t more p same = ap (λ (q : Parser Statement). q (t ∷ more)) same

  abbrev Goes : Symbol → List Symbol → Type 0
  Goes t more = statement room (nested_statements room) (t ∷ more) ≡ bind (statements.expression room (nested_statements room)) (following room (nested_statements room)) (t ∷ more)

  module _ (d : ℕ) (e : Expression) (is : IsExpression 11 e) (ys : Yield) (after : (w r : List Symbol) → Front ys w r → sees signs.Colon w ≡ false) where
    other_terminal : (u : Terminal) → ((x : ℕ) → u ≡ Identifier x → ⊥) → (expression_starts d e).first.terminal ≡ u → (t : Symbol) (more : List Symbol) → t.terminal ≡ u → Goes t more
    other_terminal u other same t more named = on_other t more (bind (statements.expression room (nested_statements room)) (following room (nested_statements room)))
        (ap (λ (v : Terminal). statement_by room (nested_statements room) (Some v)) named ∙ not_name u (ap begins_expression (sym same) ∙ (expression_starts d e).begin) other)

    by_terminal : (u : Terminal) → (expression_starts d e).first.terminal ≡ u → (t : Symbol) (more rest : List Symbol) → t.terminal ≡ u → Front ((expression_starts d e).others ++ ys) more rest → Goes t more
    by_terminal (Identifier x) same t more rest named front = on_name x t more named (no_colon ys more rest (second_goes_on 11 d e x is same) front after)
    by_terminal (RegionName x) same t more rest named front = other_terminal (RegionName x) (λ y k. cc) same t more named
    by_terminal (terminals.Number n) same t more rest named front = other_terminal (terminals.Number n) (λ y k. cc) same t more named
    by_terminal (terminals.Character c) same t more rest named front = other_terminal (terminals.Character c) (λ y k. cc) same t more named
    by_terminal (Word w) same t more rest named front = other_terminal (Word w) (λ y k. cc) same t more named
    by_terminal (Mark s) same t more rest named front = other_terminal (Mark s) (λ y k. cc) same t more named

    at_first : (ts rest : List Symbol) → Front ((expression_starts d e).first ∷ ((expression_starts d e).others ++ ys)) ts rest
        → statement room (nested_statements room) ts ≡ bind (statements.expression room (nested_statements room)) (following room (nested_statements room)) ts
    at_first ts rest (t, more, eq, is_leaf, front) =
        subst (λ (w : List Symbol). statement room (nested_statements room) w ≡ bind (statements.expression room (nested_statements room)) (following room (nested_statements room)) w) (sym eq)
        (by_terminal ((expression_starts d e).first.terminal) refl t more rest is_leaf.terminal front)

    -- A statement that begins with an expression is parsed back from its yield.
    pub begun_reads : {x : Statement} {Ends : List Symbol → Type 0} → Reads (bind (statements.expression room (nested_statements room)) (following room (nested_statements room))) x (yields.expression d e ++ ys) Ends
        → Reads (statement room (nested_statements room)) x (yields.expression d e ++ ys) Ends
    begun_reads h = reads_instead (bind (statements.expression room (nested_statements room)) (following room (nested_statements room)))
        (λ ts rest front ends. at_first ts rest (subst (λ (zs : Yield). Front (zs ++ ys) ts rest) (expression_starts d e).are front)) h

-- Says that a statement is parsed back from its yield by the parsers one nesting level deeper.
pub record ReadsStatement (room d : ℕ) (s : Statement) : Type 0 where
  pub reads : Reads (nested_statements room).statement s (yields.statement d s) (EndsStatement (wants_else s))

pub record ReadsItems (room d : ℕ) (is : Items) : Type 0 where
  pub reads : Reads (nested_statements room).items is (yields.items d is) EndsBlock

module _ (room d : ℕ) (fits : Fits (suc room) d) where
  by_choice : {x : Statement} {Ends : List Symbol → Type 0} (leaf : Leaf) (ys : Yield) → Reads (statement_by room (nested_statements room) (Some leaf.terminal)) x (leaf ∷ ys) Ends → Reads (statement room (nested_statements room)) x (leaf ∷ ys) Ends
  unfolding statement
  by_choice leaf ys h = choose_reads (statement_by room (nested_statements room)) leaf ys h

  pub body_reads : (p : Place) (is : Items) (q : Place) (Ends : List Symbol → Type 0) → ReadsItems room (suc d) is → Reads (body room (nested_statements room)) (Braces p is q) (yields.body d (Braces p is q)) Ends
  body_reads p is q Ends h = sign_reads_at (suc room) d signs.LeftBrace p _ fits (then_reads _ h.reads (sign_reads_at room (suc d) signs.RightBrace q _ (deeper room d fits) (pure_reads (Braces p is q) Ends))
      (λ mid rest front ends. record { item = ap (starts begins_item) (front-next (leaf_at (suc d) (Mark signs.RightBrace) q) [] mid rest front); no_else = ap (starts is_else) (front-next (leaf_at (suc d) (Mark signs.RightBrace) q) [] mid rest front) }))

  pub block_reads : (p : Place) (is : Items) (q : Place) (Ends : List Symbol → Type 0) → ReadsItems room (suc d) is → Reads (statement room (nested_statements room)) (Block (Braces p is q)) (yields.statement d (Block (Braces p is q))) Ends
  block_reads p is q Ends h = by_choice (leaf_at d (Mark signs.LeftBrace) p) _ (last_reads (λ (v : Body). pure (Block v)) (λ ts. refl) (body_reads p is q Ends h))

  pub labelled_reads : (l : Named) (p : Place) (is : Items) (q : Place) (Ends : List Symbol → Type 0) → ReadsItems room (suc d) is → Reads (statement room (nested_statements room)) (Labelled l (Braces p is q)) (yields.statement d (Labelled l (Braces p is q))) Ends
  labelled_reads l p is q Ends h = by_choice (leaf_at d (Identifier l.name) l.place) _ (advance_reads_at d (Identifier l.name) l.place _ (shallow room d fits)
      (sees_reads signs.Colon _ _ (leaf_of d (Mark signs.Colon)) _ refl (sign_reads (suc room) d signs.Colon _ fits (λ c. last_reads (λ (v : Body). pure (Labelled l v)) (λ ts. refl) (body_reads p is q Ends h)))))

  pub empty_reads : (p : Place) (Ends : List Symbol → Type 0) → Reads (statement room (nested_statements room)) (Empty p) (yields.statement d (Empty p)) Ends
  empty_reads p Ends = by_choice (leaf_at d (Mark signs.Semicolon) p) _ (advance_reads_at d (Mark signs.Semicolon) p _ (shallow room d fits) (pure_reads (Empty p) Ends))

  expression_here : (e : Expression) → IsExpression 11 e → Reads (statements.expression room (nested_statements room)) e (yields.expression d e) (Stops 11)
  expression_here e is = expression_at (suc room) d fits e is

  pub evaluate_reads : (e : Expression) (Ends : List Symbol → Type 0) → IsExpression 11 e → Reads (statement room (nested_statements room)) (Evaluate e) (yields.statement d (Evaluate e)) Ends
  evaluate_reads e Ends is = begun_reads room d e is (leaf_of d (Mark signs.Semicolon) ∷ []) (λ w r front. ap (sees_terminal signs.Colon) (front-next (leaf_of d (Mark signs.Semicolon)) [] w r front))
      (then_reads _ (expression_here e is)
      (reads_instead (bind (sign (suc room) signs.Semicolon) (λ _. pure (Evaluate e)))
      (λ ts rest front ends. ap (λ (b : Bool). (cond (b && is_unary e) (swap room (nested_statements room) e) (bind (sign (suc room) signs.Semicolon) (λ _. pure (Evaluate e)))) ts) (ap (sees_terminal signs.Swap) (front-next (leaf_of d (Mark signs.Semicolon)) [] ts rest front)))
      (sign_reads (suc room) d signs.Semicolon _ fits (λ p. pure_reads (Evaluate e) Ends)))
      (λ mid rest front ends. stops_leaf 11 (leaf_of d (Mark signs.Semicolon)) [] mid rest refl (omega arith) front))

  end_of_swap_reads : (b : Expression) (x : Statement) (Ends : List Symbol → Type 0) → Reads (bind (end_of_swap (suc room) b) (λ _. pure x)) x (leaf_of d (Mark signs.Semicolon) ∷ []) Ends
  unfolding bind if_sees
  end_of_swap_reads b x Ends = reads_instead (bind (sign (suc room) signs.Semicolon) (λ _. pure x)) (λ ts rest front ends. seen ts rest front) (sign_reads (suc room) d signs.Semicolon _ fits (λ p. pure_reads x Ends))
    where
      seen : (ts rest : List Symbol) → Front (leaf_of d (Mark signs.Semicolon) ∷ []) ts rest → bind (end_of_swap (suc room) b) (λ _. pure x) ts ≡ bind (sign (suc room) signs.Semicolon) (λ _. pure x) ts
      seen ts rest front = rw (ap (sees_terminal signs.Semicolon) (front-next (leaf_of d (Mark signs.Semicolon)) [] ts rest front)) refl

  pub swap_reads : (a b : Expression) (Ends : List Symbol → Type 0) → IsExpression 0 a → IsExpression 0 b → Reads (statement room (nested_statements room)) (Swap a b) (yields.statement d (Swap a b)) Ends
  swap_reads a b Ends is_a is_b = begun_reads room d a (loosest a is_a) (leaf_of d (Mark signs.Swap) ∷ (yields.expression d b ++ leaf_of d (Mark signs.Semicolon) ∷ [])) (λ w r front. ap (sees_terminal signs.Colon) (front-next (leaf_of d (Mark signs.Swap)) _ w r front))
      (then_reads _ (expression_here a (loosest a is_a))
      (reads_instead (swap room (nested_statements room) a)
      (λ ts rest front ends. rw (ap (sees_terminal signs.Swap) (front-next (leaf_of d (Mark signs.Swap)) (yields.expression d b ++ leaf_of d (Mark signs.Semicolon) ∷ []) ts rest front), is-unary a is_a) refl)
      (sign_reads (suc room) d signs.Swap _ fits (λ p. then_reads _ ((all_read b).unary (suc room) d fits is_b) (end_of_swap_reads b (Swap a b) Ends)
      (λ mid rest front ends. stops_leaf 0 (leaf_of d (Mark signs.Semicolon)) [] mid rest refl (omega arith) front))))
      (λ mid rest front ends. stops_leaf 11 (leaf_of d (Mark signs.Swap)) _ mid rest refl (omega arith) front))

  -- ---- statements with conditions

  condition_reads : (c : Expression) → IsExpression 11 c → Reads (nested (suc room)).group c (leaf_of d (Mark signs.LeftParen) ∷ (yields.expression (suc d) c ++ leaf_of (suc d) (Mark signs.RightParen) ∷ [])) Always
  condition_reads c is = nested_group_reads (suc room) d fits c Always (all_read c) is

  -- An `if` without `else` is parsed back from its yield.
  pub if_reads : (p : Place) (c : Expression) (s : Statement) → IsExpression 11 c → ReadsStatement room (suc d) s → Reads (statement room (nested_statements room)) (If p c s) (yields.statement d (If p c s)) (EndsStatement true)
  if_reads p c s is h = by_choice (leaf_at d (Word words.If) p) _ (advance_reads_at d (Word words.If) p _ (shallow room d fits)
      (between_then _ _ (yields.expression (suc d) c) (yields.statement (suc d) s) (then_reads _ (condition_reads c is)
      (nothing_reads _ h.reads (unstarted_reads is_else _ _ (λ ts rest front ends. ap (λ (w : List Symbol). starts is_else (next w)) front ∙ ends.no_else refl) (pure_reads (If p c s) (EndsStatement true)))
      (λ rest ends. record { no_else = λ wants. ends.no_else refl }))
      (λ mid rest front ends. tt))))

  pub if_else_reads : (p : Place) (c : Expression) (s t : Statement) → IsExpression 11 c → wants_else s ≡ false → ReadsStatement room (suc d) s → ReadsStatement room (suc d) t
      → Reads (statement room (nested_statements room)) (IfElse p c s t) (yields.statement d (IfElse p c s t)) (EndsStatement (wants_else t))
  if_else_reads p c s t is closed h k = by_choice (leaf_at d (Word words.If) p) _ (advance_reads_at d (Word words.If) p _ (shallow room d fits)
      (between_then _ _ (yields.expression (suc d) c) (yields.statement (suc d) s ++ (leaf_of d (Word words.Else) ∷ yields.statement (suc d) t)) (then_reads _ (condition_reads c is)
      (then_reads _ h.reads (starts_reads is_else _ _ (leaf_of d (Word words.Else)) _ refl (word_reads (suc room) d words.Else _ fits (λ q. last_reads (λ (v : Statement). pure (IfElse p c s v)) (λ ts. refl) k.reads)))
      (λ mid rest front ends. record { no_else = λ wants. absurd (apart (sym wants ∙ closed)) }))
      (λ mid rest front ends. tt))))
    where
      apart : true ≡ false → ⊥
      apart e = cc

  pub while_reads : (p : Place) (c : Expression) (s : Statement) → IsExpression 11 c → ReadsStatement room (suc d) s → Reads (statement room (nested_statements room)) (While p c s) (yields.statement d (While p c s)) (EndsStatement (wants_else s))
  while_reads p c s is h = by_choice (leaf_at d (Word words.While) p) _ (advance_reads_at d (Word words.While) p _ (shallow room d fits)
      (between_then _ _ (yields.expression (suc d) c) (yields.statement (suc d) s) (then_reads _ (condition_reads c is) (last_reads (λ (v : Statement). pure (While p c v)) (λ ts. refl) h.reads) (λ mid rest front ends. tt))))

  -- ---- jumps

  begins_no_semicolon : (t : Terminal) → begins_expression t ≡ true → sees_terminal signs.Semicolon (Some t) ≡ false
  begins_no_semicolon (Mark signs.Semicolon) h = absurd (cc)
  begins_no_semicolon (Mark _) h = refl
  begins_no_semicolon _ h = refl

  return_value_reads : (v : Option Expression) → IsExpressionOrNone v → Reads (return_value room (nested_statements room)) v (yields.optional (yields.expression d) v) EndsValue
  return_value_reads None is = seen_reads signs.Semicolon _ _ (λ ts rest front ends. ap (sees signs.Semicolon) front ∙ ends.semicolon) (pure_reads None EndsValue)
  return_value_reads (Some e) is = unseen_reads signs.Semicolon _ _ (λ ts rest front ends. at_start ts rest front) (last_reads (λ (v : Expression). pure (Some v)) (λ ts. refl) (reads_before (Stops 11) (expression_here e is) (λ rest ends. ends.stops)))
    where
      at_start : (ts rest : List Symbol) → Front (yields.expression d e) ts rest → sees signs.Semicolon ts ≡ false
      at_start ts rest front = ap (sees_terminal signs.Semicolon) (starts-next (expression_starts d e) [] ts rest (subst (λ (zs : Yield). Front zs ts rest) (sym (append-nil (yields.expression d e))) front))
          ∙ begins_no_semicolon ((expression_starts d e).first.terminal) ((expression_starts d e).begin)

  before_semicolon : (mid rest : List Symbol) → Front (leaf_of d (Mark signs.Semicolon) ∷ []) mid rest → EndsValue mid
  before_semicolon mid rest front = record { semicolon = ap (sees_terminal signs.Semicolon) (front-next (leaf_of d (Mark signs.Semicolon)) [] mid rest front); stops = stops_leaf 11 (leaf_of d (Mark signs.Semicolon)) [] mid rest refl (omega arith) front }

  pub return_reads : (p : Place) (v : Option Expression) (Ends : List Symbol → Type 0) → IsExpressionOrNone v → Reads (statement room (nested_statements room)) (Return p v) (yields.statement d (Return p v)) Ends
  return_reads p v Ends is = by_choice (leaf_at d (Word words.Return) p) _ (advance_reads_at d (Word words.Return) p _ (shallow room d fits)
      (then_reads _ (return_value_reads v is) (sign_reads (suc room) d signs.Semicolon _ fits (λ q. pure_reads (Return p v) Ends)) (λ mid rest front ends. before_semicolon mid rest front)))

  pub break_reads : (p : Place) (Ends : List Symbol → Type 0) → Reads (statement room (nested_statements room)) (Break p) (yields.statement d (Break p)) Ends
  break_reads p Ends = by_choice (leaf_at d (Word words.Break) p) _ (advance_reads_at d (Word words.Break) p _ (shallow room d fits) (sign_reads (suc room) d signs.Semicolon _ fits (λ q. pure_reads (Break p) Ends)))

  pub continue_reads : (p : Place) (Ends : List Symbol → Type 0) → Reads (statement room (nested_statements room)) (Continue p) (yields.statement d (Continue p)) Ends
  continue_reads p Ends = by_choice (leaf_at d (Word words.Continue) p) _ (advance_reads_at d (Word words.Continue) p _ (shallow room d fits) (sign_reads (suc room) d signs.Semicolon _ fits (λ q. pure_reads (Continue p) Ends)))

  thrown_reads : (v : Option Expression) → IsExpressionOrNone v → Reads (thrown room (nested_statements room)) v (yields.optional (yields.thrown (suc d)) v) NoParen
  thrown_reads None is = unseen_reads signs.LeftParen _ _ (λ ts rest front ends. ap (sees signs.LeftParen) front ∙ ends.paren) (pure_reads None NoParen)
  thrown_reads (Some e) is = sees_reads signs.LeftParen _ _ (leaf_of (suc d) (Mark signs.LeftParen)) _ refl (last_reads (λ (v : Expression). pure (Some v)) (λ ts. refl) (nested_group_reads room (suc d) (deeper room d fits) e NoParen (all_read e) is))

  pub throw_reads : (p : Place) (x : Named) (v : Option Expression) (Ends : List Symbol → Type 0) → IsExpressionOrNone v → Reads (statement room (nested_statements room)) (Throw p x v) (yields.statement d (Throw p x v)) Ends
  throw_reads p x v Ends is = by_choice (leaf_at d (Word words.Throw) p) _ (advance_reads_at d (Word words.Throw) p _ (shallow room d fits)
      (word_reads (suc room) d words.New _ fits (λ q. identifier_reads room (suc d) x _ (deeper room d fits)
      (then_reads _ (thrown_reads v is) (sign_reads (suc room) d signs.Semicolon _ fits (λ r. pure_reads (Throw p x v) Ends))
      (λ mid rest front ends. record { paren = ap (sees_terminal signs.LeftParen) (front-next (leaf_of d (Mark signs.Semicolon)) [] mid rest front) })))))

  pub try_reads : (p : Place) (s : Statement) (cs : Clauses) (Ends : List Symbol → Type 0) → ReadsStatement room (suc d) s
      → Reads (clauses room (nested_statements room)) cs (yields.clauses (suc d) cs) EndsClauses → Reads (statement room (nested_statements room)) (Try p s cs) (yields.statement d (Try p s cs)) Ends
  try_reads p s cs Ends h k = by_choice (leaf_at d (Word words.Try) p) _ (advance_reads_at d (Word words.Try) p _ (shallow room d fits)
      (then_reads _ h.reads (word_reads (suc room) d words.Catch _ fits (λ q. sign_reads (suc room) d signs.LeftBrace _ fits (λ q.
      then_reads _ k (sign_reads room (suc d) signs.RightBrace _ (deeper room d fits) (λ q. pure_reads (Try p s cs) Ends)) (λ mid rest front ends. before_brace mid rest front))))
      (λ mid rest front ends. record { no_else = λ wants. ap (starts is_else) (front-next (leaf_of d (Word words.Catch)) (leaf_of d (Mark signs.LeftBrace) ∷ (yields.clauses (suc d) cs ++ leaf_of (suc d) (Mark signs.RightBrace) ∷ [])) mid rest front) })))
    where
      before_brace : (mid rest : List Symbol) → Front (leaf_of (suc d) (Mark signs.RightBrace) ∷ []) mid rest → EndsClauses mid
      before_brace mid rest front = let n : next mid ≡ Some (Mark signs.RightBrace) = front-next (leaf_of (suc d) (Mark signs.RightBrace)) [] mid rest front in
          record { clause = ap (starts begins_clause) n; block = record { item = ap (starts begins_item) n; no_else = ap (starts is_else) n } }
