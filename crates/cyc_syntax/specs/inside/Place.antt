-- The relation between a source position in the compiler's representation and the bytes before it. (That columns count bytes is this
-- project's own choice.)
use Rattle.std.specs.Prelude.{◌≡◌, ℕ, List}
use Rattle.cyc_words.specs.declared.span.Span.{Span}
use Rattle.cyc_syntax.specs.TokenRule.{line_after, column_after}

-- `IsAfter` says that this is the source position just after these bytes.
pub record IsAfter (place : Span) (front : List ℕ) : Type 0 where
  pub line : place.line ≡ line_after front
  pub column : place.column ≡ column_after front
