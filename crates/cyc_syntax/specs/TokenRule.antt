-- The token rule: at each position of a text, the longest token, space or comment is read (maximal munch, as in C and Cyclone).
-- The token rule relates the bytes of a text to the list of its tokens with their source positions. (The rule is that of ISO C,
-- "Lexical elements"; the limits are this project's own choice.)
use Rattle.std.specs.Prelude.{◌≡◌, ◌≢◌, ℕ, ◌+◌, ◌<◌, ◌≤◌, List, [], ◌∷◌, ◌++◌, length, take, map, count_by, All}
use Rattle.std.specs.List.{after_last}
use Rattle.cyc_syntax.specs.Spelling.{is_line_feed, Piece, Lexeme, Space, Comment, OpenComment, Spells, SpellsToken}
use Rattle.cyc_syntax.specs.declared.tokens.Token.{Token as CodeToken}
use Rattle.cyc_syntax.specs.Tokens.{Kind, Identifier, RegionName, Number, Character, Word, Mark, Token, kind_of, spelling_of, token_of}

-- Returns the line number of the source position after the given bytes. Lines and columns are counted
-- from 1, and columns in bytes. Only a line feed ends a line.
abbrev pub line_after : List ℕ → ℕ
line_after front = count_by is_line_feed front + 1

abbrev pub column_after : List ℕ → ℕ
column_after front = length (after_last is_line_feed front) + 1

-- `IsRead` says that the bytes are read as this piece if `after` follows them. The bytes spell the piece, and no longer prefix of the text
-- is a token, a space or a comment.
pub record IsRead (piece : Piece) (bytes after : List ℕ) : Type 0 where
  pub spelled : Spells piece bytes
  pub longest : (other : Piece) (front rest : List ℕ) → bytes ++ after ≡ front ++ rest → Spells other front → length front ≤ length bytes

-- A part of a text: a piece (token, space or comment) with the bytes that spell it.
pub record Part : Type 0 where
  pub piece : Piece
  pub bytes : List ℕ

-- `IsCut` says that the text is the concatenation of a list of pieces (tokens, spaces and comments) and a rest. Each piece is the
-- longest at its position, and no piece is an unclosed comment.
abbrev pub IsCut : List Part → List ℕ → List ℕ → Type 0
IsCut [] text rest = text ≡ rest
IsCut (p ∷ ps) text rest =
    (after : List ℕ) × (text ≡ p.bytes ++ after) × IsRead p.piece p.bytes after × (p.piece ≢ OpenComment) × IsCut ps after rest

abbrev pub bytes_of : List Part → List ℕ
bytes_of [] = []
bytes_of (p ∷ ps) = p.bytes ++ bytes_of ps

-- Returns the token that starts after the bytes `front`, or no token if a space or a comment starts there.
abbrev pub part_tokens : List ℕ → Piece → List Token
part_tokens front (Lexeme k) = record { kind = k; line = line_after front; column = column_after front } ∷ []
part_tokens front Space = []
part_tokens front Comment = []
part_tokens front OpenComment = []

-- Returns the tokens in a list of tokens, spaces and comments, with their source positions, if the bytes `front` precede the list.
abbrev pub tokens_of : List ℕ → List Part → List Token
tokens_of front [] = []
tokens_of front (p ∷ ps) = part_tokens front p.piece ++ tokens_of (front ++ p.bytes) ps

-- THE TOKEN RULE: `HasTokens` says that this is the list of tokens of the text.
abbrev pub HasTokens : List ℕ → List Token → Type 0
HasTokens text tokens = (parts : List Part) × IsCut parts text [] × (tokens_of [] parts ≡ tokens)

-- The limits of this project on a text: the number of bytes, the number of tokens, and the largest number.
abbrev pub max_bytes : ℕ
max_bytes = 1048576

abbrev pub max_tokens : ℕ
max_tokens = 60000

abbrev pub max_number : ℕ
max_number = 2147483647

-- `IsSmall` says that a token, if it is a number, is at most the greatest number that this project allows.
abbrev pub IsSmall : Kind → Type 0
IsSmall (Identifier _) = Unit {0}
IsSmall (RegionName _) = Unit {0}
IsSmall (Number n) = n ≤ max_number
IsSmall (Character _) = Unit {0}
IsSmall (Word _) = Unit {0}
IsSmall (Mark _) = Unit {0}

-- `IsWithinLimits` says that the number of tokens and each number among them are within the limits.
pub record IsWithinLimits (tokens : List Token) : Type 0 where
  pub count : length tokens ≤ max_tokens
  pub numbers : All (λ t. IsSmall t.kind) tokens

-- `LiesIn` says that a token in the compiler's representation is located in the text: its source position is that of its first byte,
-- and its bytes spell it.
pub record LiesIn (text : List ℕ) (t : CodeToken) : Type 0 where
  pub starts : t.start < t.end
  pub ends : t.end ≤ length text
  pub line : t.span.line ≡ line_after (take t.start text)
  pub column : t.span.column ≡ column_after (take t.start text)
  pub spelled : SpellsToken (kind_of (spelling_of text t) t.kind) (spelling_of text t)

-- `AreTokensOf` says that tokens in the compiler's representation are those of the text, and that each is located in the text.
pub record AreTokensOf (text : List ℕ) (tokens : List CodeToken) : Type 0 where
  pub rule : HasTokens text (map (token_of text) tokens)
  pub places : All (LiesIn text) tokens
