-- This file defines the meaning of one piece (token, space or comment) that the code has read.
use Rattle.std.specs.Prelude.{ℕ, ◌≤◌, ◌⊎◌, Option, Some, None, List, length, take, drop}
use Rattle.cyc_syntax.specs.declared.tokens.TokenKind.{TokenKind}
use Rattle.cyc_syntax.specs.Spelling.{Lexeme, Space, Comment}
use Rattle.cyc_syntax.specs.Tokens.{kind_of}
use Rattle.cyc_syntax.specs.TokenRule.{IsRead, IsSmall}

-- Says that bytes are read as a token of this kind within the limits or, for `None`, as a space or a comment.
abbrev pub IsReadAs : Option TokenKind → List ℕ → List ℕ → Type 0
IsReadAs None bytes after = IsRead Space bytes after ⊎ IsRead Comment bytes after
IsReadAs (Some kind) bytes after = IsRead (Lexeme (kind_of bytes kind)) bytes after × IsSmall (kind_of bytes kind)

-- Says that the piece (token, space or comment) at the start of the text has this kind and this length.
pub record IsFound (text : List ℕ) (kind : Option TokenKind) (len : ℕ) : Type 0 where
  pub within : len ≤ length text
  pub piece : IsReadAs kind (take len text) (drop len text)
