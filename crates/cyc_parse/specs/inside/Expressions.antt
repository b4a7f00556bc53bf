-- The recursive-descent parser of expressions. Chains of binary operators are parsed level by level, the tightest first.
use Rattle.std.specs.Prelude.{ℕ, zero, suc, Bool, true, false, nat_eq, List, [], ◌∷◌, length, Option, Some, None, is_some, if◌then◌else◌}
use Rattle.cyc_syntax.specs.declared.tokens.Keyword.{Keyword}
use Rattle.cyc_syntax.specs.declared.tokens.Keyword.TheVariants as words
use Rattle.cyc_syntax.specs.declared.tokens.Sign.{Sign}
use Rattle.cyc_syntax.specs.declared.tokens.Sign.TheVariants as signs
use Rattle.cyc_syntax.specs.declared.tree.PrefixOperator.{PrefixOperator}
use Rattle.cyc_syntax.specs.declared.tree.PrefixOperator.TheVariants as prefixes
use Rattle.cyc_syntax.specs.declared.tree.BinaryOperator.{BinaryOperator}
use Rattle.cyc_syntax.specs.declared.tree.BinaryOperator.TheVariants as operators
use Rattle.cyc_syntax.specs.Symbols.{Terminal, Identifier, RegionName, Word, Mark}
use Rattle.cyc_syntax.specs.Symbols as terminals
use Rattle.cyc_syntax.specs.Trees.{Named, Expression, Number, Character, Null, HeapRegion, UniqueRegion, Variable, Call, Bracketed, NumberOfElements, LowByteOf, FreeUnique, FreeKey, Chained, Prefixed, New, RegionNew}
use Rattle.cyc_syntax.specs.Trees.{Binary, Assign, Initial, Plain, Fields, Array, Expressions, NoExpressions, MoreExpressions, Postfixes, NoPostfixes, ThenIndex, ThenField, Operations, NoOperations, ThenOperation}
use Rattle.cyc_syntax.specs.Grammar.{level, max_items}
use Rattle.cyc_parse.specs.inside.Parsing.{Parser, Unexpected, TooDeep, TooLong, ◌>>=◌, ◌>>◌, pure, refuse, choose, advance, if_is, if_sees, refuse_item, is_sign, separated, region_list, opens_regions, sign, word, identifier}

-- ---- first symbols of expressions, and symbols that continue one

abbrev pub begins_by_word : Keyword → Bool
begins_by_word words.Null = true
begins_by_word words.HeapRegion = true
begins_by_word words.UniqueRegion = true
begins_by_word words.NumberOfElements = true
begins_by_word words.Char = true
begins_by_word words.FreeUnique = true
begins_by_word words.FreeKey = true
begins_by_word words.New = true
begins_by_word words.RegionNew = true
begins_by_word _ = false

-- Returns the prefix operator that a sign (punctuation token) denotes before an operand.
abbrev pub prefix_operator : Sign → Option PrefixOperator
prefix_operator signs.Minus = Some prefixes.Negate
prefix_operator signs.Not = Some prefixes.Not
prefix_operator signs.Tilde = Some prefixes.Complement
prefix_operator signs.Star = Some prefixes.Dereference
prefix_operator signs.And = Some prefixes.AddressOf
prefix_operator _ = None

abbrev pub begins_by_sign : Sign → Bool
begins_by_sign signs.LeftParen = true
begins_by_sign s = is_some (prefix_operator s)

abbrev pub begins_expression : Terminal → Bool
begins_expression (Identifier x) = true
begins_expression (RegionName r) = false
begins_expression (terminals.Number n) = true
begins_expression (terminals.Character c) = true
begins_expression (Word k) = begins_by_word k
begins_expression (Mark s) = begins_by_sign s

-- Returns true if a symbol may begin an initial value: it begins an expression, or it is a brace.
abbrev pub begins_initial : Terminal → Bool
begins_initial (Identifier x) = true
begins_initial (RegionName r) = false
begins_initial (terminals.Number n) = true
begins_initial (terminals.Character c) = true
begins_initial (Word k) = begins_by_word k
begins_initial (Mark signs.LeftBrace) = true
begins_initial (Mark s) = begins_by_sign s

abbrev pub binary_operator : Sign → Option BinaryOperator
binary_operator signs.OrOr = Some operators.OrElse
binary_operator signs.AndAnd = Some operators.AndThen
binary_operator signs.Or = Some operators.Or
binary_operator signs.Xor = Some operators.Xor
binary_operator signs.And = Some operators.And
binary_operator signs.Equal = Some operators.Equal
binary_operator signs.NotEqual = Some operators.NotEqual
binary_operator signs.Less = Some operators.Less
binary_operator signs.LessOrEqual = Some operators.LessOrEqual
binary_operator signs.Greater = Some operators.Greater
binary_operator signs.GreaterOrEqual = Some operators.GreaterOrEqual
binary_operator signs.ShiftLeft = Some operators.ShiftLeft
binary_operator signs.ShiftRight = Some operators.ShiftRight
binary_operator signs.Plus = Some operators.Add
binary_operator signs.Minus = Some operators.Subtract
binary_operator signs.Star = Some operators.Multiply
binary_operator signs.Slash = Some operators.Divide
binary_operator signs.Percent = Some operators.Remainder
binary_operator _ = None

abbrev pub of_level : ℕ → Option BinaryOperator → Option BinaryOperator
of_level k None = None
of_level k (Some o) = if nat_eq (level o) k then Some o else None

-- Returns the next symbol's binary operator, if it has the given precedence level.
abbrev pub operator_at : ℕ → Option Terminal → Option BinaryOperator
operator_at k (Some (Mark s)) = of_level k (binary_operator s)
operator_at k _ = None

-- ---- lists as parts of trees

abbrev pub chain_of : List Expression → Expressions
chain_of [] = NoExpressions
chain_of (e ∷ es) = MoreExpressions e (chain_of es)

abbrev pub chained : Expression → Postfixes → Expression
chained e NoPostfixes = e
chained e (ThenIndex i ps) = Chained e (ThenIndex i ps)
chained e (ThenField x ps) = Chained e (ThenField x ps)

abbrev pub binary_of : Expression → Operations → Expression
binary_of e NoOperations = e
binary_of e (ThenOperation o p r os) = Binary e (ThenOperation o p r os)

-- ---- chains of binary operators, given the parser of an operand with its prefixes and postfixes

-- Ends a chain of binary operators that has the maximal number of operators; one more operator is rejected.
abbrev pub no_more_operations : ℕ → Parser Operations
no_more_operations k = if_is (operator_at k) (λ o. refuse TooLong) (pure NoOperations)

unfoldable pub operations : Parser Expression → ℕ → ℕ → Parser Operations
operations operand k zero = no_more_operations k
operations operand k (suc left) = if_is (operator_at k) (λ o. advance >>= (λ p. operand >>= (λ e. operations operand k left >>= (λ os. pure (ThenOperation o p e os))))) (pure NoOperations)

-- Extends a first operand by the operators of all precedence levels up to the given one, with their right operands.
unfoldable pub climb : Parser Expression → ℕ → Expression → Parser Expression
climb unary zero e = pure e
climb unary (suc k) e = climb unary k e >>= (λ first. operations (unary >>= climb unary k) (suc k) max_items >>= (λ os. pure (binary_of first os)))

-- ---- the parsers at one depth, given the parsers one level deeper

pub record Nested : Type 0 where
  pub unary : Parser Expression
  pub binary : Parser Expression
  pub expression : Parser Expression
  -- parses an expression in parentheses
  pub group : Parser Expression
  pub initial : Parser Initial

-- Ends an operand that has the maximal number of postfixes; one more postfix is rejected.
abbrev pub no_more_postfixes : Parser Postfixes
no_more_postfixes = if_sees signs.LeftBracket (refuse TooLong) (if_sees signs.Arrow (refuse TooLong) (pure NoPostfixes))

module _ (room : ℕ) (inner : Nested) where
  abbrev pub group : Parser Expression
  group = sign (suc room) signs.LeftParen >> inner.expression >>= (λ e. sign room signs.RightParen >> pure e)

  abbrev pub arguments : Parser Expressions
  arguments = if_sees signs.RightParen (pure NoExpressions) (separated room begins_expression inner.expression >>= (λ es. pure (chain_of es)))

  -- Parses an expression that begins with the given name.
  abbrev pub from_name : Named → Parser Expression
  from_name x = if_sees signs.LeftParen (sign (suc room) signs.LeftParen >> arguments >>= (λ es. sign room signs.RightParen >> pure (Call x es))) (pure (Variable x))

  abbrev pub primary_by : Option Terminal → Parser Expression
  primary_by (Some (terminals.Number n)) = advance >>= (λ p. pure (Number p n))
  primary_by (Some (terminals.Character c)) = advance >>= (λ p. pure (Character p c))
  primary_by (Some (Identifier x)) = advance >>= (λ p. from_name (record { name = x; place = p }))
  primary_by (Some (Word words.Null)) = advance >>= (λ p. pure (Null p))
  primary_by (Some (Word words.HeapRegion)) = advance >>= (λ p. pure (HeapRegion p))
  primary_by (Some (Word words.UniqueRegion)) = advance >>= (λ p. pure (UniqueRegion p))
  primary_by (Some (Word words.NumberOfElements)) = advance >>= (λ p. group >>= (λ e. pure (NumberOfElements p e)))
  primary_by (Some (Word words.Char)) = advance >>= (λ p. group >>= (λ e. pure (LowByteOf p e)))
  primary_by (Some (Word words.FreeUnique)) = advance >>= (λ p. group >>= (λ e. pure (FreeUnique p e)))
  primary_by (Some (Word words.FreeKey)) = advance >>= (λ p. sign (suc room) signs.LeftParen >> identifier room >>= (λ k. sign room signs.RightParen >> pure (FreeKey p k)))
  primary_by (Some (Mark signs.LeftParen)) = advance >>= (λ p. inner.expression >>= (λ e. sign room signs.RightParen >> pure (Bracketed p e)))
  primary_by _ = refuse Unexpected

  unfoldable pub primary : Parser Expression
  primary = choose primary_by

  unfoldable pub postfixes : ℕ → Parser Postfixes
  postfixes zero = no_more_postfixes
  postfixes (suc left) =
      if_sees signs.LeftBracket (sign (suc room) signs.LeftBracket >> inner.expression >>= (λ e. sign room signs.RightBracket >> postfixes left >>= (λ ps. pure (ThenIndex e ps))))
      (if_sees signs.Arrow (sign (suc room) signs.Arrow >> identifier (suc room) >>= (λ x. postfixes left >>= (λ ps. pure (ThenField x ps))))
      (pure NoPostfixes))

  abbrev pub with_postfixes : Parser Expression → Parser Expression
  with_postfixes first = first >>= (λ e. postfixes max_items >>= (λ ps. pure (chained e ps)))

  -- Parses an operand, given the prefix operator that its first sign (punctuation token) denotes, if any.
  abbrev pub prefixed_by : Option PrefixOperator → Parser Expression
  prefixed_by (Some o) = advance >>= (λ p. inner.unary >>= (λ e. pure (Prefixed p o e)))
  prefixed_by None = with_postfixes primary

  abbrev pub unary_by : Option Terminal → Parser Expression
  unary_by (Some (Mark s)) = prefixed_by (prefix_operator s)
  unary_by (Some (Word words.New)) = advance >>= (λ p. inner.initial >>= (λ i. pure (New p i)))
  unary_by (Some (Word words.RegionNew)) = advance >>= (λ p. inner.group >>= (λ h. inner.initial >>= (λ i. pure (RegionNew p h i))))
  unary_by _ = with_postfixes primary

  unfoldable pub unary : Parser Expression
  unary = choose unary_by

  abbrev pub assignment : Expression → Parser Expression
  assignment e = if_sees signs.Assign (sign (suc room) signs.Assign >> inner.expression >>= (λ v. pure (Assign e v))) (pure e)

  abbrev pub binary : Parser Expression
  binary = unary >>= climb unary 10

  abbrev pub expression : Parser Expression
  expression = binary >>= assignment

  -- Parses the remaining values of a struct's fields; the number argument bounds them.
  unfoldable pub more_values : ℕ → Parser Expressions
  more_values zero = pure NoExpressions
  more_values (suc turns) = if_sees signs.Comma (sign room signs.Comma >> inner.expression >>= (λ e. more_values turns >>= (λ es. pure (MoreExpressions e es)))) (pure NoExpressions)

  abbrev pub values : Parser Expressions
  values = inner.expression >>= (λ e. (λ ts. more_values (length ts) ts) >>= (λ es. pure (MoreExpressions e es)))

  abbrev pub fields : Named → List Named → Parser Initial
  fields s rs = sign (suc room) signs.LeftBrace >> values >>= (λ es. sign room signs.RightBrace >> pure (Fields s rs es))

  -- Parses an initial value that begins with a name: a struct's fields, with or without region arguments, or an expression.
  abbrev pub initial_from_name : Named → Parser Initial
  initial_from_name s = if_sees signs.LeftBrace (fields s [])
      (λ ts. (if opens_regions ts then region_list (suc room) >>= (λ rs. fields s rs) else with_postfixes (from_name s) >>= (λ e. pure (Plain e))) ts)

  abbrev pub array : Parser Initial
  array = sign (suc room) signs.LeftBrace >> word room words.For >>= (λ p. identifier room >>= (λ x. sign room signs.Less >> inner.binary >>= (λ n. sign room signs.Colon >> inner.expression >>= (λ e. sign room signs.RightBrace >> pure (Array p x n e)))))

  abbrev pub initial_by : Option Terminal → Parser Initial
  initial_by (Some (Identifier x)) = advance >>= (λ p. initial_from_name (record { name = x; place = p }))
  initial_by (Some (Mark signs.LeftBrace)) = array
  initial_by _ = unary >>= (λ e. pure (Plain e))

  unfoldable pub initial : Parser Initial
  initial = choose initial_by

-- The parsers of expressions that may nest the given number of levels deeper; if this number is 0, each parser rejects its
-- first symbol as nested too deep.
unfoldable pub nested : ℕ → Nested
nested zero = record {
  unary = refuse_item begins_expression TooDeep;
  binary = refuse_item begins_expression TooDeep;
  expression = refuse_item begins_expression TooDeep;
  group = refuse_item (λ t. is_some (is_sign signs.LeftParen t)) TooDeep;
  initial = refuse_item begins_initial TooDeep;
}
nested (suc room) = record {
  unary = unary room (nested room);
  binary = binary room (nested room);
  expression = expression room (nested room);
  group = group room (nested room);
  initial = initial room (nested room);
}
