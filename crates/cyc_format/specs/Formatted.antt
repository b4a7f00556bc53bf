-- A formatted text keeps the tokens of the original, except for their positions. The condition that a formatted text keeps its
-- tokens is this project's own choice.
use Rattle.std.specs.Prelude.{◌≡◌, ℕ, List, map}
use Rattle.cyc_syntax.specs.Tokens.{Kind, Token}
use Rattle.cyc_lex.specs.Refusals.{IsAccepted}

-- Returns the kinds of tokens: their keywords, operators, names and values, without positions.
abbrev pub kinds_of : List Token → List Kind
kinds_of tokens = map (λ t. t.kind) tokens

-- `HasSameTokens` says that a text is accepted and has these tokens, except for their positions.
abbrev pub HasSameTokens : List Token → List ℕ → Type 0
HasSameTokens tokens text = (others : List Token) × IsAccepted text others × (kinds_of others ≡ kinds_of tokens)
