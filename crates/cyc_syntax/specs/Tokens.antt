-- Tokens as mathematical values, for the token rule and the grammar. The names and spellings of tokens are Cyclone's (the Cyclone
-- manual's grammar); the omissions are this project's own choice.
use Rattle.std.specs.Prelude.{ℕ, List, drop, slice_range}
use Rattle.cyc_syntax.specs.declared.tokens.Keyword.{Keyword}
use Rattle.cyc_syntax.specs.declared.tokens.Sign.{Sign}
use Rattle.cyc_syntax.specs.declared.tokens.TokenKind.{TokenKind}
use Rattle.cyc_syntax.specs.declared.tokens.TokenKind.TheVariants as kinds
use Rattle.cyc_syntax.specs.declared.tokens.Token.{Token as CodeToken}

-- The kinds of tokens. An identifier and a region name contain their bytes. The bytes of a region name omit the backquote, so the label
-- `r` and the region `` `r `` have equal names.
pub data Kind : Type 0 where
  Identifier : List ℕ → Kind
  RegionName : List ℕ → Kind
  Number : ℕ → Kind
  Character : ℕ → Kind
  Word : Keyword → Kind
  Mark : Sign → Kind

-- A token and its source position: line and column from 1; columns count bytes.
pub record Token : Type 0 where
  pub kind : Kind
  pub line : ℕ
  pub column : ℕ

-- Returns the mathematical kind of a token in the compiler's representation, from the bytes that spell it.
abbrev pub kind_of : List ℕ → TokenKind → Kind
kind_of bytes kinds.Identifier = Identifier bytes
kind_of bytes kinds.RegionName = RegionName (drop 1 bytes)
kind_of bytes (kinds.Number n) = Number n
kind_of bytes (kinds.Character c) = Character c
kind_of bytes (kinds.Keyword k) = Word k
kind_of bytes (kinds.Sign s) = Mark s

-- Returns the bytes of the text that spell a token in the compiler's representation.
abbrev pub spelling_of : List ℕ → CodeToken → List ℕ
spelling_of text t = slice_range text t.start t.end

-- Returns the mathematical form (view) of a token in the compiler's representation, from its text.
abbrev pub token_of : List ℕ → CodeToken → Token
token_of text t = record { kind = kind_of (spelling_of text t) t.kind; line = t.span.line; column = t.span.column }
