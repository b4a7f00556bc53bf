-- This file defines those steps of the parser that are functions of their own in the parser's code. For each list that the parser's code
-- reads in a loop, one step reads the next list element if the list continues.
use Rattle.std.specs.Prelude.{ℕ, zero, suc, ◌+◌, ◌-◌, Bool, false, not, ◌&&◌, ◌||◌, nat_lt, nat_le, if◌then◌else◌, List, [], ◌∷◌, Option, Some, None, is_some}
use Rattle.cyc_syntax.specs.declared.tokens.Keyword.TheVariants as words
use Rattle.cyc_syntax.specs.declared.tokens.Sign.TheVariants as signs
use Rattle.cyc_syntax.specs.declared.tree.BinaryOperator.{BinaryOperator}
use Rattle.cyc_syntax.specs.declared.tree.PrefixOperator.{PrefixOperator}
use Rattle.cyc_syntax.specs.declared.tree.Operation.{Operation}
use Rattle.cyc_syntax.specs.Grammar.{level, max_items}
use Rattle.cyc_syntax.specs.Symbols.{Terminal, Mark, Symbol, Place}
use Rattle.cyc_syntax.specs.Symbols as terminals
use Rattle.cyc_syntax.specs.Trees.{Declaration, Pointer, Named, Expression, Number, Character, Null, HeapRegion, UniqueRegion, Call, Bracketed, FreeKey, Prefixed, New, RegionNew, Initial, Fields, Array, Expressions, Postfixes, ThenIndex, ThenField, Operations, ThenOperation}
use Rattle.cyc_syntax.specs.inside.TreeView.{place_of_span, view_expression}
use Rattle.cyc_parse.specs.inside.Parsing.{Parser, Unexpected, refuse, ◌>>=◌, ◌>>◌, pure, next, sees, if_sees, choose, advance, sign, identifier}
use Rattle.cyc_parse.specs.inside.Types.{mark_at, optional_region}
use Rattle.cyc_parse.specs.inside.Declarations.{declaration}
use Rattle.cyc_parse.specs.inside.Expressions.{Nested, binary_operator, operator_at, chained, binary_of, operations, climb, postfixes, unary}

-- Reads a comma and the list element after it, if a comma comes next.
abbrev pub after_comma : {A : Type 0} → ℕ → Parser A → Parser (Option A)
after_comma room item = if_sees signs.Comma (sign room signs.Comma >> item >>= (λ x. pure (Some x))) (pure None)

abbrev pub one_pointer : ℕ → Parser (Option Pointer)
one_pointer room = choose (λ t. elim (mark_at t) [
  | None ↦ pure None
  | Some k ↦ advance >> optional_region room >>= (λ r. pure (Some (record { kind = k; region = r })))
])

-- ---- expressions

abbrev pub freed_key : ℕ → Parser Expression
freed_key room = advance >>= (λ p. sign (suc room) signs.LeftParen >> identifier room >>= (λ k. sign room signs.RightParen >> pure (FreeKey p k)))

abbrev pub bracketed : ℕ → Nested → Parser Expression
bracketed room inner = advance >>= (λ p. inner.expression >>= (λ e. sign room signs.RightParen >> pure (Bracketed p e)))

-- Parses an operand that has no inner expression and is neither a call nor a variable.
abbrev pub lone_by : ℕ → Option Terminal → Parser Expression
lone_by room (Some (terminals.Number n)) = advance >>= (λ p. pure (Number p n))
lone_by room (Some (terminals.Character c)) = advance >>= (λ p. pure (Character p c))
lone_by room (Some (terminals.Word words.Null)) = advance >>= (λ p. pure (Null p))
lone_by room (Some (terminals.Word words.HeapRegion)) = advance >>= (λ p. pure (HeapRegion p))
lone_by room (Some (terminals.Word words.UniqueRegion)) = advance >>= (λ p. pure (UniqueRegion p))
lone_by room (Some (terminals.Word words.FreeKey)) = freed_key room
lone_by room _ = refuse Unexpected

abbrev pub lone : ℕ → Parser Expression
lone room = choose (lone_by room)

-- Reads the closing parenthesis after an expression, and returns the expression's node.

abbrev pub end_of_group : ℕ → Expression → Parser Expression
end_of_group room e = sign room signs.RightParen >> pure e

abbrev pub end_of_bracketed : ℕ → Place → Expression → Parser Expression
end_of_bracketed room p e = sign room signs.RightParen >> pure (Bracketed p e)

abbrev pub end_of_call : ℕ → Named → Expressions → Parser Expression
end_of_call room x es = sign room signs.RightParen >> pure (Call x es)

abbrev pub end_of_index : ℕ → Expression → Parser (Option (Postfixes → Postfixes))
end_of_index room e = sign room signs.RightBracket >> pure (Some (ThenIndex e))

abbrev pub end_of_fields : ℕ → Named → List Named → Expressions → Parser Initial
end_of_fields room s rs es = sign room signs.RightBrace >> pure (Fields s rs es)

abbrev pub end_of_array : ℕ → Place → Named → Expression → Expression → Parser Initial
end_of_array room p x n e = sign room signs.RightBrace >> pure (Array p x n e)

abbrev pub prefixed : Nested → PrefixOperator → Parser Expression
prefixed inner o = advance >>= (λ p. inner.unary >>= (λ e. pure (Prefixed p o e)))

abbrev pub created : Nested → Parser Expression
created inner = advance >>= (λ p. inner.initial >>= (λ i. pure (New p i)))

abbrev pub created_in : Nested → Parser Expression
created_in inner = advance >>= (λ p. inner.group >>= (λ h. inner.initial >>= (λ i. pure (RegionNew p h i))))

abbrev pub with_chain : ℕ → Nested → Expression → Parser Expression
with_chain room inner e = postfixes room inner max_items >>= (λ ps. pure (chained e ps))

-- Reads `->` and a field's name, and returns a function that puts this postfix in front of the postfixes that follow.
abbrev pub one_field : ℕ → Parser (Option (Postfixes → Postfixes))
one_field room = if_sees signs.Arrow (sign room signs.Arrow >> identifier room >>= (λ x. pure (Some (ThenField x)))) (pure None)

-- Reads one postfix, and returns a function that puts it in front of the postfixes that follow.
abbrev pub one_postfix : ℕ → Nested → Parser (Option (Postfixes → Postfixes))
one_postfix room inner =
    if_sees signs.LeftBracket (sign (suc room) signs.LeftBracket >> inner.expression >>= (λ e. sign room signs.RightBracket >> pure (Some (ThenIndex e))))
    (one_field (suc room))

-- Returns true if the precedence level of the operator is at most the given level.
abbrev pub is_within : ℕ → Option BinaryOperator → Bool
is_within most None = false
is_within most (Some o) = nat_le (level o) most

abbrev pub level_within : ℕ → ℕ → Option BinaryOperator → Option ℕ
level_within below most None = None
level_within below most (Some o) = if nat_lt below (level o) && is_within most (Some o) then Some (level o) else None

-- Returns the next symbol's precedence level, if the symbol is a binary operator whose level is above `below` and at most `most`.
abbrev pub level_at : ℕ → ℕ → Option Terminal → Option ℕ
level_at below most (Some (Mark s)) = level_within below most (binary_operator s)
level_at below most _ = None

-- Returns the symbols that come after the next symbol.
abbrev pub following : List Symbol → List Symbol
following [] = []
following (t ∷ ts) = ts

-- Returns true if the symbols continue an operand, by arguments or by a postfix.
abbrev pub has_more : List Symbol → Bool
has_more ts = sees signs.LeftParen ts || (sees signs.LeftBracket ts || sees signs.Arrow ts)

abbrev pub is_plain_before : List Symbol → Option Terminal → Bool
is_plain_before ts (Some (terminals.Number n)) = not (has_more ts)
is_plain_before ts (Some (terminals.Identifier x)) = not (has_more ts)
is_plain_before ts _ = false

-- Returns true if the next operand is a single number or a single name.
abbrev pub is_plain : List Symbol → Bool
is_plain ts = is_plain_before (following ts) (next ts)

-- Returns true if the symbols continue an operand of the next precedence level: by arguments, a postfix, or an operator
-- up to the level `below`.
abbrev pub is_continued : ℕ → List Symbol → Bool
is_continued below ts = sees signs.LeftParen ts || ((sees signs.LeftBracket ts || sees signs.Arrow ts) || is_some (level_at 0 below (next ts)))

-- Parses an operand for the operators of the level above `below`.
abbrev pub operand : ℕ → Nested → ℕ → Parser Expression
operand room inner below = unary room inner >>= climb (unary room inner) below

abbrev pub then_operation : Operation → Operations → Operations
then_operation o = ThenOperation o.operator (place_of_span o.span) (view_expression o.operand)

-- Reads an operator with its operand, and returns a function that puts them in front of the operations that follow.
abbrev pub one_operation : Parser Expression → ℕ → Parser (Option (Operations → Operations))
one_operation operand k = choose (λ t. elim (operator_at k t) [
  | None ↦ pure None
  | Some o ↦ advance >>= (λ p. operand >>= (λ e. pure (Some (ThenOperation o p e))))
])

-- Extends a first operand by the operators of a given number of precedence levels, the first of which follows the level `below`.
unfoldable pub climb_from : Parser Expression → ℕ → ℕ → Expression → Parser Expression
climb_from tightest below zero e = pure e
climb_from tightest below (suc count) e = operations (tightest >>= climb tightest below) (suc below) max_items >>= (λ os. climb_from tightest (suc below) count (binary_of e os))

-- Extends an operand by the operators of the level above `below`, and then of the levels up to `most`.
abbrev pub one_level : ℕ → Nested → ℕ → ℕ → Expression → Parser Expression
one_level room inner below most e = operations (operand room inner below) (suc below) max_items >>= (λ os. climb_from (unary room inner) (below + 1) (most - (below + 1)) (binary_of e os))

-- ---- declarations

abbrev pub one_declaration : ℕ → Parser (Option Declaration)
one_declaration room = choose (λ t. elim t [
  | None ↦ pure None
  | Some t ↦ declaration room >>= (λ d. pure (Some d))
])
