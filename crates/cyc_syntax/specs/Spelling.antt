-- The byte strings that are tokens, spaces and comments. Cyclone's lexical syntax is C's, with a backquote before region names, the pointer
-- signs `@` and `?`, and the swap operator `:=:` added (the Cyclone manual's grammar). The restrictions of Cyclone's lexical syntax are
-- this project's own choice: ASCII only, no floating, octal or suffixed numbers, no strings, six escapes, and the keywords of its subset.
use Rattle.std.specs.Prelude.{◌≡◌, ◌≢◌, ℕ, ◌+◌, ◌-◌, ◌*◌, Bool, false, not, ◌&&◌, ◌||◌, ◌==◌, nat_le, if◌then◌else◌, IsTrue, Option, Some, None, ◌⊎◌, List, [], ◌∷◌, ◌++◌, drop, fold, codes}
use Rattle.std.specs.List.{list_all, list_any}
use Rattle.cyc_syntax.specs.declared.tokens.Keyword.{Keyword}
use Rattle.cyc_syntax.specs.declared.tokens.Keyword.TheVariants as words
use Rattle.cyc_syntax.specs.declared.tokens.Sign.{Sign}
use Rattle.cyc_syntax.specs.declared.tokens.Sign.TheVariants as signs
use Rattle.cyc_syntax.specs.Tokens.{Kind, Identifier, RegionName, Number, Character, Word, Mark}

-- ---- classes of bytes

abbrev pub is_between : ℕ → ℕ → ℕ → Bool
is_between low high b = nat_le low b && nat_le b high

-- `0` to `9`
abbrev pub is_digit : ℕ → Bool
is_digit b = is_between 48 57 b

-- Returns true if a byte is a hexadecimal digit: `a` to `f`, `A` to `F`, or a decimal digit.
abbrev pub is_hex_digit : ℕ → Bool
is_hex_digit b = is_digit b || is_between 97 102 b || is_between 65 70 b

-- Returns true if a byte is a letter or `_`.
abbrev pub is_letter : ℕ → Bool
is_letter b = is_between 97 122 b || is_between 65 90 b || b == 95

-- Returns true if a byte may follow the first byte of a name.
abbrev pub is_name_byte : ℕ → Bool
is_name_byte b = is_letter b || is_digit b

-- Returns true if a byte is a space: tab, line feed, carriage return or blank.
abbrev pub is_space : ℕ → Bool
is_space b = b == 9 || b == 10 || b == 13 || b == 32

abbrev pub is_line_feed : ℕ → Bool
is_line_feed b = b == 10

-- ---- keywords and signs

abbrev pub keyword_text : Keyword → List ℕ
keyword_text words.Int = codes "int"
keyword_text words.Char = codes "char"
keyword_text words.Void = codes "void"
keyword_text words.Struct = codes "struct"
keyword_text words.Datatype = codes "datatype"
keyword_text words.Exn = codes "exn"
keyword_text words.Region = codes "region"
keyword_text words.RegionType = codes "region_t"
keyword_text words.KeyType = codes "uregion_key_t"
keyword_text words.Open = codes "open"
keyword_text words.Let = codes "let"
keyword_text words.Alias = codes "alias"
keyword_text words.NewDynamicRegion = codes "NewDynamicRegion"
keyword_text words.NewKey = codes "new_ukey"
keyword_text words.New = codes "new"
keyword_text words.RegionNew = codes "rnew"
keyword_text words.For = codes "for"
keyword_text words.If = codes "if"
keyword_text words.Else = codes "else"
keyword_text words.While = codes "while"
keyword_text words.Break = codes "break"
keyword_text words.Continue = codes "continue"
keyword_text words.Return = codes "return"
keyword_text words.Throw = codes "throw"
keyword_text words.Try = codes "try"
keyword_text words.Catch = codes "catch"
keyword_text words.Case = codes "case"
keyword_text words.Default = codes "default"
keyword_text words.Null = codes "NULL"
keyword_text words.NumberOfElements = codes "numelts"
keyword_text words.FreeUnique = codes "ufree"
keyword_text words.FreeKey = codes "free_ukey"
keyword_text words.UniqueRegion = codes "unique_region"
keyword_text words.HeapRegion = codes "heap_region"

abbrev pub sign_text : Sign → List ℕ
sign_text signs.Swap = codes ":=:"
sign_text signs.AndAnd = codes "&&"
sign_text signs.OrOr = codes "||"
sign_text signs.Equal = codes "=="
sign_text signs.NotEqual = codes "!="
sign_text signs.LessOrEqual = codes "<="
sign_text signs.GreaterOrEqual = codes ">="
sign_text signs.ShiftLeft = codes "<<"
sign_text signs.ShiftRight = codes ">>"
sign_text signs.Arrow = codes "->"
sign_text signs.Plus = codes "+"
sign_text signs.Minus = codes "-"
sign_text signs.Star = codes "*"
sign_text signs.Slash = codes "/"
sign_text signs.Percent = codes "%"
sign_text signs.And = codes "&"
sign_text signs.Or = codes "|"
sign_text signs.Xor = codes "^"
sign_text signs.Tilde = codes "~"
sign_text signs.Not = codes "!"
sign_text signs.Less = codes "<"
sign_text signs.Greater = codes ">"
sign_text signs.Assign = codes "="
sign_text signs.LeftParen = codes "("
sign_text signs.RightParen = codes ")"
sign_text signs.LeftBracket = codes "["
sign_text signs.RightBracket = codes "]"
sign_text signs.LeftBrace = codes "{"
sign_text signs.RightBrace = codes "}"
sign_text signs.Comma = codes ","
sign_text signs.Semicolon = codes ";"
sign_text signs.Colon = codes ":"
sign_text signs.At = codes "@"
sign_text signs.Question = codes "?"

-- ---- names, numbers and characters

-- Returns true if bytes form a name: a letter or `_`, then letters, digits and `_`.
abbrev pub is_name : List ℕ → Bool
is_name [] = false
is_name (b ∷ bs) = is_letter b && list_all is_name_byte bs

-- Returns true if bytes form a decimal number: one digit, or a digit from 1 to 9 followed by digits.
abbrev pub is_decimal : List ℕ → Bool
is_decimal [] = false
is_decimal (b ∷ []) = is_digit b
is_decimal (b ∷ c ∷ bs) = is_between 49 57 b && list_all is_digit (c ∷ bs)

-- Returns true if bytes form a hexadecimal number: `0x` or `0X`, followed by at least one hexadecimal digit.
abbrev pub is_hexadecimal : List ℕ → Bool
is_hexadecimal [] = false
is_hexadecimal (b ∷ []) = false
is_hexadecimal (b ∷ c ∷ []) = false
is_hexadecimal (b ∷ c ∷ d ∷ ds) = b == 48 && (c == 120 || c == 88) && list_all is_hex_digit (d ∷ ds)

abbrev pub digit_value : ℕ → ℕ
digit_value b = if is_digit b then b - 48 else (if is_between 97 102 b then b - 87 else b - 55)

-- Returns the value of digits in a number base; the first digit is the most significant.
abbrev pub number_in : ℕ → List ℕ → ℕ
number_in base digits = fold (λ n d. n * base + digit_value d) 0 digits

-- Returns true if a byte may appear unescaped in a character constant: it is printable, and neither a quote nor a backslash.
abbrev pub is_plain : ℕ → Bool
is_plain b = is_between 32 126 b && not (b == 39) && not (b == 92)

-- Returns the byte that an escape sequence denotes, for the byte after the backslash: line feed, tab, carriage return, zero,
-- backslash or quote.
abbrev pub escaped : ℕ → Option ℕ
escaped b =
    if b == 110 then Some 10
    else (if b == 116 then Some 9
    else (if b == 114 then Some 13
    else (if b == 48 then Some 0
    else (if b == 92 then Some 92
    else (if b == 39 then Some 39
    else None)))))

-- `SpellsToken` says that the byte string spells a token of this kind.

abbrev pub SpellsToken : Kind → List ℕ → Type 0
SpellsToken (Identifier name) bytes = (bytes ≡ name) × IsTrue (is_name name) × ((k : Keyword) → name ≢ keyword_text k)
-- A region name is spelled by a backquote and an identifier; the identifier may be the text of a keyword.
SpellsToken (RegionName name) bytes = (bytes ≡ 96 ∷ name) × IsTrue (is_name name)
SpellsToken (Number n) bytes =
    (IsTrue (is_decimal bytes) × (n ≡ number_in 10 bytes)) ⊎ (IsTrue (is_hexadecimal bytes) × (n ≡ number_in 16 (drop 2 bytes)))
-- A character constant is spelled by one byte or an escape sequence between quotes.
SpellsToken (Character c) bytes =
    ((bytes ≡ 39 ∷ c ∷ 39 ∷ []) × IsTrue (is_plain c)) ⊎ ((b : ℕ) × (bytes ≡ 39 ∷ 92 ∷ b ∷ 39 ∷ []) × (escaped b ≡ Some c))
SpellsToken (Word k) bytes = bytes ≡ keyword_text k
SpellsToken (Mark s) bytes = bytes ≡ sign_text s

-- `HasNoClose` says that `*/` does not occur in the bytes.
abbrev pub HasNoClose : List ℕ → Type 0
HasNoClose bytes = (before after : List ℕ) → bytes ≢ before ++ (codes "*/" ++ after)

-- `IsLineComment` says that bytes are a line comment: `//` and bytes without a line feed.
abbrev pub IsLineComment : List ℕ → Type 0
IsLineComment bytes = (body : List ℕ) × (bytes ≡ codes "//" ++ body) × (list_any is_line_feed body ≡ false)

-- `IsBlockComment` says that bytes are a block comment, from `/*` up to the first `*/`. Block comments do not nest, and `/*/` is not
-- closed.
abbrev pub IsBlockComment : List ℕ → Type 0
IsBlockComment bytes = (body : List ℕ) × (bytes ≡ codes "/*" ++ (body ++ codes "*/")) × HasNoClose (body ++ codes "*")

-- `IsOpenComment` says that bytes begin with `/*` and contain no `*/` that closes the comment.
abbrev pub IsOpenComment : List ℕ → Type 0
IsOpenComment bytes = (body : List ℕ) × (bytes ≡ codes "/*" ++ body) × HasNoClose body

-- The pieces of a text: tokens, spaces and comments. An unclosed comment is a piece, so `/*` is never read as two operators. A text that
-- contains an unclosed comment has no list of tokens.
pub data Piece : Type 0 where
  Lexeme : Kind → Piece
  Space : Piece
  Comment : Piece
  OpenComment : Piece

-- `Spells` says that the byte string spells this piece (a token, a space or a comment).
abbrev pub Spells : Piece → List ℕ → Type 0
Spells (Lexeme k) bytes = SpellsToken k bytes
Spells Space bytes = (b : ℕ) × (bytes ≡ b ∷ []) × IsTrue (is_space b)
Spells Comment bytes = IsLineComment bytes ⊎ IsBlockComment bytes
Spells OpenComment bytes = IsOpenComment bytes
