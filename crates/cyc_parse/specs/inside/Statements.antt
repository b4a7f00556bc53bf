-- The parser of statements and of the declarations and statements of blocks.
use Rattle.std.specs.Prelude.{ℕ, zero, suc, Bool, true, false, ◌&&◌, ◌||◌, length, Option, Some, None, if◌then◌else◌}
use Rattle.cyc_syntax.specs.declared.tokens.Keyword.{Keyword}
use Rattle.cyc_syntax.specs.declared.tokens.Keyword.TheVariants as words
use Rattle.cyc_syntax.specs.declared.tokens.Sign.{Sign}
use Rattle.cyc_syntax.specs.declared.tokens.Sign.TheVariants as signs
use Rattle.cyc_syntax.specs.Symbols.{Place, Terminal, Identifier, RegionName, Word, Mark}
use Rattle.cyc_syntax.specs.Symbols as terminals
use Rattle.cyc_syntax.specs.Trees.{Named, Expression, Number, Character, Null, HeapRegion, UniqueRegion, Variable, Call, Bracketed, NumberOfElements, LowByteOf, FreeUnique, FreeKey, Chained, Prefixed, New, RegionNew, Binary, Assign, Initial, Plain, Fields, Array}
use Rattle.cyc_syntax.specs.Trees.{Statement, Block, Labelled, Empty, Evaluate, Swap, If, IfElse, While, Return, Break, Continue, Throw, Try, Body, Braces, Items, NoItems, MoreItems, Item, Execute, Local, Region, Alias, DynamicRegion, Clauses, NoClauses, Default}
use Rattle.cyc_syntax.specs.Trees.{Case}
use Rattle.cyc_parse.specs.inside.Parsing.{Parser, Unexpected, TooDeep, ◌>>=◌, ◌>>◌, pure, refuse, inside, choose, advance, if_starts, sees, if_sees, refuse_item, opens_low_byte, sign, word, identifier}
use Rattle.cyc_parse.specs.inside.Types.{written_type, region_of}
use Rattle.cyc_parse.specs.inside.Expressions.{begins_by_sign, begins_by_word, nested, from_name, with_postfixes, climb, assignment}

-- ---- first symbols of statements and items

abbrev pub statement_word : Keyword → Bool
statement_word words.If = true
statement_word words.While = true
statement_word words.Return = true
statement_word words.Break = true
statement_word words.Continue = true
statement_word words.Throw = true
statement_word words.Try = true
statement_word k = begins_by_word k

abbrev pub statement_sign : Sign → Bool
statement_sign signs.LeftBrace = true
statement_sign signs.Semicolon = true
statement_sign s = begins_by_sign s

abbrev pub begins_statement : Terminal → Bool
begins_statement (Identifier x) = true
begins_statement (RegionName r) = false
begins_statement (terminals.Number n) = true
begins_statement (terminals.Character c) = true
begins_statement (Word k) = statement_word k
begins_statement (Mark s) = statement_sign s

abbrev pub item_word : Keyword → Bool
item_word words.Int = true
item_word words.Char = true
item_word words.Struct = true
item_word words.RegionType = true
item_word words.KeyType = true
item_word words.Region = true
item_word words.Let = true
item_word k = statement_word k

abbrev pub begins_item : Terminal → Bool
begins_item (Identifier x) = true
begins_item (RegionName r) = false
begins_item (terminals.Number n) = true
begins_item (terminals.Character c) = true
begins_item (Word k) = item_word k
begins_item (Mark s) = statement_sign s

abbrev pub is_case : Terminal → Bool
is_case (Word words.Case) = true
is_case _ = false

abbrev pub is_default : Terminal → Bool
is_default (Word words.Default) = true
is_default _ = false

abbrev pub begins_clause : Terminal → Bool
begins_clause t = is_case t || is_default t

abbrev pub is_else : Terminal → Bool
is_else (Word words.Else) = true
is_else _ = false

-- ---- swaps

-- Returns true if the expression is an operand with its prefixes and postfixes; both operands of a swap must be such expressions.
abbrev pub is_unary : Expression → Bool
is_unary (Binary e os) = false
is_unary (Assign a b) = false
is_unary _ = true

abbrev mutual
  -- Returns true if the expression ends in `new` and a name, so that `<` may follow it with region arguments.
  pub ends_in_new : Expression → Bool
  ends_in_new (Prefixed p o e) = ends_in_new e
  ends_in_new (New p i) = ends_in_name i
  ends_in_new (RegionNew p h i) = ends_in_name i
  ends_in_new (Number p n) = false
  ends_in_new (Character p c) = false
  ends_in_new (Null p) = false
  ends_in_new (HeapRegion p) = false
  ends_in_new (UniqueRegion p) = false
  ends_in_new (Variable x) = false
  ends_in_new (Call f es) = false
  ends_in_new (Bracketed p e) = false
  ends_in_new (NumberOfElements p e) = false
  ends_in_new (LowByteOf p e) = false
  ends_in_new (FreeUnique p e) = false
  ends_in_new (FreeKey p k) = false
  ends_in_new (Chained e ps) = false
  ends_in_new (Binary e os) = false
  ends_in_new (Assign a b) = false

  pub ends_in_name : Initial → Bool
  ends_in_name (Plain e) = is_variable e || ends_in_new e
  ends_in_name (Fields s rs es) = false
  ends_in_name (Array p x n e) = false

  pub is_variable : Expression → Bool
  is_variable (Variable x) = true
  is_variable (Prefixed p o e) = false
  is_variable (New p i) = false
  is_variable (RegionNew p h i) = false
  is_variable (Number p n) = false
  is_variable (Character p c) = false
  is_variable (Null p) = false
  is_variable (HeapRegion p) = false
  is_variable (UniqueRegion p) = false
  is_variable (Call f es) = false
  is_variable (Bracketed p e) = false
  is_variable (NumberOfElements p e) = false
  is_variable (LowByteOf p e) = false
  is_variable (FreeUnique p e) = false
  is_variable (FreeKey p k) = false
  is_variable (Chained e ps) = false
  is_variable (Binary e os) = false
  is_variable (Assign a b) = false

-- Parses the end of a swap after its right operand: if `<` may begin region arguments there, the symbol after the `<` is unexpected.
abbrev pub end_of_swap : ℕ → Expression → Parser Place
end_of_swap room e = if_sees signs.Semicolon (sign room signs.Semicolon)
    (λ ts. (if sees signs.Less ts && ends_in_new e then advance >> refuse Unexpected else refuse Unexpected) ts)

-- ---- the parsers at one depth, given the parsers one level deeper

pub record Nested : Type 0 where
  pub statement : Parser Statement
  pub items : Parser Items

module _ (room : ℕ) (inner : Nested) where
  abbrev pub here : ℕ
  here = suc room

  abbrev pub body : Parser Body
  body = sign here signs.LeftBrace >>= (λ p. inner.items >>= (λ is. sign room signs.RightBrace >>= (λ q. pure (Braces p is q))))

  abbrev pub expression : Parser Expression
  expression = (nested here).expression

  -- Parses an expression that begins with the given name.
  abbrev pub expression_from : Named → Parser Expression
  expression_from x = (with_postfixes room (nested room) (from_name room (nested room) x) >>= climb (nested here).unary 10) >>= assignment room (nested room)

  abbrev pub swap : Expression → Parser Statement
  swap a = sign here signs.Swap >> (nested here).unary >>= (λ b. end_of_swap here b >> pure (Swap a b))

  -- Parses what follows the first expression of a statement: the rest of a swap, or the semicolon of an expression statement.
  abbrev pub following : Expression → Parser Statement
  following e = λ ts. (if sees signs.Swap ts && is_unary e then swap e else sign here signs.Semicolon >> pure (Evaluate e)) ts

  abbrev pub statement_from_name : Named → Parser Statement
  statement_from_name x = if_sees signs.Colon (sign here signs.Colon >> body >>= (λ b. pure (Labelled x b))) (expression_from x >>= following)

  abbrev pub else_part : Place → Expression → Statement → Parser Statement
  else_part p c s = if_starts is_else (word here words.Else >> inner.statement >>= (λ t. pure (IfElse p c s t))) (pure (If p c s))

  abbrev pub return_value : Parser (Option Expression)
  return_value = if_sees signs.Semicolon (pure None) (expression >>= (λ e. pure (Some e)))

  abbrev pub thrown : Parser (Option Expression)
  thrown = if_sees signs.LeftParen ((nested room).group >>= (λ e. pure (Some e))) (pure None)

  abbrev pub caught : Parser (Option Named)
  caught = if_sees signs.LeftParen (sign room signs.LeftParen >> identifier (inside room) >>= (λ v. sign (inside room) signs.RightParen >> pure (Some v))) (pure None)

  -- Parses the catch clauses of a `catch`; the number argument bounds how many clauses are read, and the number of
  -- symbols left is a sufficient bound.
  unfoldable pub clauses_in : ℕ → Parser Clauses
  clauses_in zero = pure NoClauses
  clauses_in (suc turns) =
      if_starts is_case (word room words.Case >> sign room signs.And >> identifier room >>= (λ x. caught >>= (λ v. sign room signs.Colon >> inner.items >>= (λ is. clauses_in turns >>= (λ cs. pure (Case x v is cs))))))
      (if_starts is_default (word room words.Default >> sign room signs.Colon >> inner.items >>= (λ is. pure (Default is))) (pure NoClauses))

  abbrev pub clauses : Parser Clauses
  clauses = if_starts begins_clause (λ ts. clauses_in (length ts) ts) (refuse Unexpected)

  abbrev pub if_statement : Place → Parser Statement
  if_statement p = (nested here).group >>= (λ c. inner.statement >>= (λ s. else_part p c s))

  abbrev pub while_statement : Place → Parser Statement
  while_statement p = (nested here).group >>= (λ c. inner.statement >>= (λ s. pure (While p c s)))

  abbrev pub throw_statement : Place → Parser Statement
  throw_statement p = word here words.New >> identifier room >>= (λ x. thrown >>= (λ v. sign here signs.Semicolon >> pure (Throw p x v)))

  abbrev pub try_statement : Place → Parser Statement
  try_statement p = inner.statement >>= (λ s. word here words.Catch >> sign here signs.LeftBrace >> clauses >>= (λ cs. sign room signs.RightBrace >> pure (Try p s cs)))

  abbrev pub statement_by : Option Terminal → Parser Statement
  statement_by (Some (Identifier x)) = advance >>= (λ p. statement_from_name (record { name = x; place = p }))
  statement_by (Some (Mark signs.LeftBrace)) = body >>= (λ b. pure (Block b))
  statement_by (Some (Mark signs.Semicolon)) = advance >>= (λ p. pure (Empty p))
  statement_by (Some (Word words.If)) = advance >>= (λ p. if_statement p)
  statement_by (Some (Word words.While)) = advance >>= (λ p. while_statement p)
  statement_by (Some (Word words.Return)) = advance >>= (λ p. return_value >>= (λ v. sign here signs.Semicolon >> pure (Return p v)))
  statement_by (Some (Word words.Break)) = advance >>= (λ p. sign here signs.Semicolon >> pure (Break p))
  statement_by (Some (Word words.Continue)) = advance >>= (λ p. sign here signs.Semicolon >> pure (Continue p))
  statement_by (Some (Word words.Throw)) = advance >>= (λ p. throw_statement p)
  statement_by (Some (Word words.Try)) = advance >>= (λ p. try_statement p)
  statement_by _ = expression >>= following

  unfoldable pub statement : Parser Statement
  statement = choose statement_by

  -- ---- items

  abbrev pub local_value : Parser (Option Expression)
  local_value = if_sees signs.Assign (sign here signs.Assign >> (nested room).expression >>= (λ e. pure (Some e))) (pure None)

  abbrev pub local : Parser Item
  local = written_type here >>= (λ t. identifier here >>= (λ x. local_value >>= (λ v. sign here signs.Semicolon >> pure (Local t x v))))

  abbrev pub opened_key : Parser (Option Named)
  opened_key = if_sees signs.Assign (sign here signs.Assign >> word room words.Open >> sign room signs.LeftParen >> identifier (inside room) >>= (λ k. sign (inside room) signs.RightParen >> pure (Some k))) (pure None)

  abbrev pub region : Parser Item
  region = word here words.Region >> region_of here >>= (λ r. identifier here >>= (λ h. opened_key >>= (λ k. sign here signs.Semicolon >> pure (Region r h k))))

  abbrev pub alias : Parser Item
  alias = word here words.Alias >> region_of here >>= (λ r. written_type here >>= (λ t. identifier here >>= (λ x. sign here signs.Assign >> identifier room >>= (λ y. sign here signs.Semicolon >> pure (Alias r t x y)))))

  -- reads `= new_ukey()`
  abbrev pub new_key : Parser (Unit {0})
  new_key = sign here signs.Assign >> word room words.NewKey >> sign room signs.LeftParen >> sign (inside room) signs.RightParen >> sign here signs.Semicolon >> pure tt

  abbrev pub dynamic_region : Parser Item
  dynamic_region = word here words.NewDynamicRegion >> sign here signs.LeftBrace >> region_of room >>= (λ r. identifier room >>= (λ k. sign room signs.RightBrace >> new_key >> pure (DynamicRegion r k)))

  abbrev pub let_by : Option Terminal → Parser Item
  let_by (Some (Word words.Alias)) = alias
  let_by (Some (Word words.NewDynamicRegion)) = dynamic_region
  let_by _ = refuse Unexpected

  abbrev pub executed : Parser Item
  executed = statement >>= (λ s. pure (Execute s))

  -- Parses a block item that begins with `char`: an expression statement if a parenthesis follows, otherwise a declaration.
  abbrev pub char_item : Parser Item
  char_item = λ ts. (if opens_low_byte ts then executed else local) ts

  abbrev pub item_by : Option Terminal → Parser Item
  item_by (Some (Word words.Int)) = local
  item_by (Some (Word words.Char)) = char_item
  item_by (Some (Word words.Struct)) = local
  item_by (Some (Word words.RegionType)) = local
  item_by (Some (Word words.KeyType)) = local
  item_by (Some (Word words.Region)) = region
  item_by (Some (Word words.Let)) = advance >> choose let_by
  item_by _ = executed

  unfoldable pub item : Parser Item
  item = choose item_by

  unfoldable pub items_in : ℕ → Parser Items
  items_in zero = pure NoItems
  items_in (suc turns) = if_starts begins_item (item >>= (λ i. items_in turns >>= (λ is. pure (MoreItems i is)))) (pure NoItems)

  abbrev pub items : Parser Items
  items = λ ts. items_in (length ts) ts

-- The parsers of statements that may nest the given number of levels deeper; if this number is 0, each parser rejects its first symbol as
-- nested too deep.
unfoldable pub nested_statements : ℕ → Nested
nested_statements zero = record {
  statement = refuse_item begins_statement TooDeep;
  items = if_starts begins_item (refuse TooDeep) (pure NoItems);
}
nested_statements (suc room) = record {
  statement = statement room (nested_statements room);
  items = items room (nested_statements room);
}
