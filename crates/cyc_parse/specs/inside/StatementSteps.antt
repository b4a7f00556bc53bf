-- This file defines those steps of the parser of statements that are functions of their own in the parser's code. For each list that the
-- parser's code reads in a loop, one step reads the next block item or catch clause if the list continues.
use Rattle.std.specs.Prelude.{ℕ, suc, Option, Some, None, option_map}
use Rattle.cyc_syntax.specs.declared.tokens.Keyword.TheVariants as words
use Rattle.cyc_syntax.specs.declared.tokens.Sign.TheVariants as signs
use Rattle.cyc_syntax.specs.declared.tree.Clause.{Clause}
use Rattle.cyc_syntax.specs.declared.tree.Ident.{Ident}
use Rattle.cyc_syntax.specs.Symbols.{Place, Terminal, Word, Mark}
use Rattle.cyc_syntax.specs.Trees.{Named, Expression, Statement, Block, Empty, If, IfElse, Return, Break, Continue, Try, Body, Braces, Item, Items, Clauses, NoClauses, Default, Case}
use Rattle.cyc_syntax.specs.inside.TreeView.{view_name, items_of}
use Rattle.cyc_parse.specs.inside.Parsing.{Parser, ◌>>=◌, ◌>>◌, pure, choose, advance, if_starts, sign, word, identifier}
use Rattle.cyc_parse.specs.inside.Statements.{Nested, begins_item, is_case, is_default, body, expression, expression_from, following, statement_from_name, return_value, throw_statement, caught, let_by, item}

-- Reads one symbol, and continues with a parser that depends on its source position.
abbrev pub after_symbol : {A : Type 0} → (Place → Parser A) → Parser A
after_symbol f = advance >>= f

module _ (room : ℕ) (inner : Nested) where
  abbrev pub return_statement : Place → Parser Statement
  return_statement p = return_value room inner >>= (λ v. sign (suc room) signs.Semicolon >> pure (Return p v))

  -- Parses a statement that begins with the given name.
  abbrev pub named_statement : ℕ → Parser Statement
  named_statement x = advance >>= (λ p. statement_from_name room inner (record { name = x; place = p }))

  abbrev pub block_statement : Parser Statement
  block_statement = body room inner >>= (λ b. pure (Block b))

  abbrev pub expression_statement : Parser Statement
  expression_statement = expression room inner >>= following room inner

  -- Parses a statement that begins with an expression whose first symbol is the given name.
  abbrev pub statement_from : Named → Parser Statement
  statement_from x = expression_from room inner x >>= following room inner

  -- Parses a statement that contains no other statements.
  abbrev pub plain_by : Option Terminal → Parser Statement
  plain_by (Some (Mark signs.Semicolon)) = advance >>= (λ p. pure (Empty p))
  plain_by (Some (Word words.Return)) = after_symbol return_statement
  plain_by (Some (Word words.Break)) = advance >>= (λ p. sign (suc room) signs.Semicolon >> pure (Break p))
  plain_by (Some (Word words.Continue)) = advance >>= (λ p. sign (suc room) signs.Semicolon >> pure (Continue p))
  plain_by (Some (Word words.Throw)) = after_symbol (throw_statement room inner)
  plain_by _ = expression_statement

  abbrev pub plain_statement : Parser Statement
  plain_statement = choose plain_by

  -- reads the closing brace after the declarations and statements of a block
  abbrev pub end_of_block : Place → Items → Parser Body
  end_of_block p is = sign room signs.RightBrace >>= (λ q. pure (Braces p is q))

  -- reads the closing brace after the catch clauses of a `try`
  abbrev pub end_of_try : Place → Statement → Clauses → Parser Statement
  end_of_try p s cs = sign room signs.RightBrace >> pure (Try p s cs)

  abbrev pub let_item : Parser Item
  let_item = choose (let_by room inner)

  abbrev pub one_item : Parser (Option Item)
  one_item = if_starts begins_item (item room inner >>= (λ i. pure (Some i))) (pure None)

  -- Parses the start of a catch clause up to its colon: its exception and its variable.
  abbrev pub clause_head : Parser (Option (Named × Option Named))
  clause_head = if_starts is_case (word room words.Case >> sign room signs.And >> identifier room >>= (λ x. caught room inner >>= (λ v. sign room signs.Colon >> pure (Some (x, v))))) (pure None)

  abbrev pub with_items : Option (Named × Option Named) → Parser (Option (Clauses → Clauses))
  with_items None = pure None
  with_items (Some head) = inner.items >>= (λ is. pure (Some (Case head.0 head.1 is)))

  -- Parses one catch clause, and returns a function that puts it in front of the clauses after it.
  abbrev pub one_clause : Parser (Option (Clauses → Clauses))
  one_clause = clause_head >>= with_items

  abbrev pub default_clause : Parser Clauses
  default_clause = if_starts is_default (word room words.Default >> sign room signs.Colon >> inner.items >>= (λ is. pure (Default is))) (pure NoClauses)

abbrev pub then_clause : Clause → Clauses → Clauses
then_clause c = Case (view_name c.exception) (option_map view_name c.variable) (items_of c.items.items)

abbrev pub view_clause_head : Ident × Option Ident → Named × Option Named
view_clause_head head = (view_name head.0, option_map view_name head.1)

-- Returns the tree of an `if` statement, with or without an `else`.
abbrev pub conditional : Place → Expression → Statement → Option Statement → Statement
conditional p c s None = If p c s
conditional p c s (Some t) = IfElse p c s t
