-- This file defines the texts that the lexer accepts, and the faults of rejected texts with their source positions. (The definition is
-- this project's own choice, like the limits.)
use Rattle.std.specs.Prelude.{◌≡◌, ◌≢◌, ℕ, ◌<◌, ◌≤◌, ◌⊎◌, List, [], ◌++◌, length}
use Rattle.cyc_words.specs.declared.fault.Code.{Code}
use Rattle.cyc_words.specs.declared.fault.Code.TheVariants as codes
use Rattle.cyc_words.specs.declared.fault.Fault.{Fault}
use Rattle.cyc_words.specs.Fault.{number_of}
use Rattle.cyc_syntax.specs.Spelling.{Piece, Lexeme, OpenComment, Spells}
use Rattle.cyc_syntax.specs.Tokens.{Kind, Number, Token}
use Rattle.cyc_syntax.specs.TokenRule.{IsRead, Part, IsCut, bytes_of, tokens_of, line_after, column_after, HasTokens, IsWithinLimits, max_bytes, max_tokens, max_number}

-- Says that a text begins with this piece (token, space or comment), and that the piece is the longest one.
abbrev pub Begins : Piece → List ℕ → Type 0
Begins m text = (bytes : List ℕ) × (after : List ℕ) × (text ≡ bytes ++ after) × IsRead m bytes after

-- The meaning of a fault code for the rest of the text from a position on.
abbrev pub FailsHere : Code → List ℕ → Type 0
-- no token, space or comment begins at this position
FailsHere codes.UnknownByte text = (text ≢ []) × ((m : Piece) (front rest : List ℕ) → text ≡ front ++ rest → Spells m front → ⊥)
-- an unclosed comment begins at this position
FailsHere codes.UnclosedComment text = Begins OpenComment text
-- a number above the limit begins at this position
FailsHere codes.NumberTooLarge text = (n : ℕ) × Begins (Lexeme (Number n)) text × (max_number < n)
FailsHere _ text = ⊥

-- The meaning of a fault code at a position with `count` tokens before it; `text` is the remaining text from that position on.
abbrev pub Holds : Code → ℕ → List ℕ → Type 0
-- A token begins at this position of the text, and it is one token more than the limit.
Holds codes.TooManyTokens count text = (k : Kind) × Begins (Lexeme k) text × (max_tokens ≤ count)
Holds code count text = FailsHere code text

-- Says that a fault is at the first position where a code holds: everything before it is tokens within the limits, spaces and comments. If
-- several codes hold at this position, then the lowest code is reported.
pub record IsFirstFault (text : List ℕ) (fault : Fault) : Type 0 where
  pub parts : List Part
  pub rest : List ℕ
  pub cut : IsCut parts text rest
  pub within : IsWithinLimits (tokens_of [] parts)
  pub holds : Holds fault.code (length (tokens_of [] parts)) rest
  pub lowest : (other : Code) → Holds other (length (tokens_of [] parts)) rest → number_of fault.code ≤ number_of other
  pub line : fault.line ≡ line_after (bytes_of parts)
  pub column : fault.column ≡ column_after (bytes_of parts)

-- Says that a text is rejected with this fault: the text is too long, or else the fault is the first fault of the text.
abbrev pub IsRefused : List ℕ → Fault → Type 0
IsRefused text fault =
    ((max_bytes < length text) × (fault ≡ record { code = codes.TextTooLong; line = 1; column = 1 }))
    ⊎ ((length text ≤ max_bytes) × IsFirstFault text fault)

-- Says that a text is accepted with these tokens: they are the text's tokens, and the text and its tokens are within the limits.
pub record IsAccepted (text : List ℕ) (tokens : List Token) : Type 0 where
  pub short : length text ≤ max_bytes
  pub rule : HasTokens text tokens
  pub within : IsWithinLimits tokens
