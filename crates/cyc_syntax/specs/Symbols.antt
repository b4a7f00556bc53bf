-- The symbols that the grammar reads: tokens in which each name is replaced by its index. The distinct identifiers and region names of a
-- program are listed in the order of their first occurrence. The number of a name is its index in the list of distinct names. The numbering
-- of names is this project's own choice.
use Rattle.std.specs.Prelude.{ℕ, List, [], ◌∷◌, map}
use Rattle.cyc_words.specs.declared.span.Span.{Span}
use Rattle.cyc_syntax.specs.declared.tokens.Keyword.{Keyword}
use Rattle.cyc_syntax.specs.declared.tokens.Sign.{Sign}
use Rattle.cyc_syntax.specs.Names.{distinct_texts, number_of}
use Rattle.cyc_syntax.specs.Tokens.{Kind, Token}
use Rattle.cyc_syntax.specs.Tokens as kinds

-- A source position: line and column from 1; columns count bytes.
pub record Place : Type 0 where
  pub line : ℕ
  pub column : ℕ

-- Returns the mathematical source position (line and column) that a span of the compiler's code stands for.
abbrev pub place_of_span : Span → Place
place_of_span s = record { line = s.line; column = s.column }

pub data Terminal : Type 0 where
  Identifier : ℕ → Terminal
  RegionName : ℕ → Terminal
  Number : ℕ → Terminal
  Character : ℕ → Terminal
  Word : Keyword → Terminal
  Mark : Sign → Terminal

pub record Symbol : Type 0 where
  pub terminal : Terminal
  pub place : Place

-- ---- from tokens to symbols

-- Returns the texts of the names among the tokens, in order.
abbrev pub name_texts : Kind → List (List ℕ) → List (List ℕ)
name_texts (kinds.Identifier text) texts = text ∷ texts
name_texts (kinds.RegionName text) texts = text ∷ texts
name_texts (kinds.Number n) texts = texts
name_texts (kinds.Character c) texts = texts
name_texts (kinds.Word k) texts = texts
name_texts (kinds.Mark s) texts = texts

abbrev pub texts_in : List Token → List (List ℕ)
texts_in [] = []
texts_in (t ∷ ts) = name_texts t.kind (texts_in ts)

abbrev pub terminal_of : List (List ℕ) → Kind → Terminal
terminal_of texts (kinds.Identifier text) = Identifier (number_of texts text)
terminal_of texts (kinds.RegionName text) = RegionName (number_of texts text)
terminal_of texts (kinds.Number n) = Number n
terminal_of texts (kinds.Character c) = Character c
terminal_of texts (kinds.Word k) = Word k
terminal_of texts (kinds.Mark s) = Mark s

abbrev pub symbol_of : List (List ℕ) → Token → Symbol
symbol_of texts t = record { terminal = terminal_of texts t.kind; place = record { line = t.line; column = t.column } }

abbrev pub symbols_of : List Token → List Symbol
symbols_of tokens = map (symbol_of (distinct_texts (texts_in tokens))) tokens
