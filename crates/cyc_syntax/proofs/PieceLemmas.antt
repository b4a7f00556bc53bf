-- The bytes that can begin a piece (a token, a space or a comment). A byte string spells at most one piece.
use Rattle.std.proofs.Common.{eqb, unwrap_or, ◌≡◌, ◌≢◌, ℕ, Bool, true, false, ◌||◌, cond, Option, Some, None, ⊎_elim, List, [], ◌∷◌, ◌++◌, drop, refl, sym, ap, ◌∙◌, arith}
use Rattle.std.specs.Prelude.{codes}
use Rattle.std.specs.List.{starts_with}
use Rattle.std.specs.Str.{bytes_eq}
use Rattle.std.proofs.lemmas.Bool.{true≢false, false_from_ne_true, and_parts, and_left, or_cases, or_right, cond-true, cond-false, eqb-true}
use Rattle.std.proofs.lemmas.Bool.Decides.{nat_tests, Decides-eqb}
use Rattle.std.proofs.lemmas.Slice.Eq.{bytes_eq-Decides, starts_is}
use Rattle.cyc_syntax.specs.declared.tokens.Keyword.{Keyword}
use Rattle.cyc_syntax.specs.declared.tokens.Keyword.TheVariants as words
use Rattle.cyc_syntax.specs.declared.tokens.Sign.{Sign}
use Rattle.cyc_syntax.specs.declared.tokens.Sign.TheVariants as signs
use Rattle.cyc_syntax.specs.Tokens.{Identifier, RegionName, Number, Character, Word, Mark}
use Rattle.cyc_syntax.specs.Spelling.{is_between, is_digit, is_letter, is_space, keyword_text, sign_text, is_name, is_decimal, is_hexadecimal, number_in, escaped, HasNoClose, Piece, Lexeme, Space, Comment, OpenComment, Spells}

-- The classes of first bytes, by the tokens, spaces and comments that can begin with them.
pub data Start : Type 0 where
  AtName : Start
  AtNumber : Start
  AtRegion : Start
  AtQuote : Start
  AtSpace : Start
  AtSlash : Start
  AtSign : Start

abbrev pub start_of : ℕ → Start
start_of b =
    cond (is_letter b) AtName
    (cond (is_digit b) AtNumber
    (cond (is_space b) AtSpace
    (cond (bytes_eq (b ∷ []) (codes "`")) AtRegion
    (cond (bytes_eq (b ∷ []) (codes "'")) AtQuote
    (cond (bytes_eq (b ∷ []) (codes "/")) AtSlash
    AtSign)))))

abbrev pub starts_as : List ℕ → Start → Type 0
starts_as [] s = ⊥
starts_as (b ∷ bs) s = start_of b ≡ s

digit_no_letter : (b : ℕ) → is_digit b ≡ true → is_letter b ≡ false
digit_no_letter b h = grind (arith, nat_tests)

space_no_letter : (b : ℕ) → is_space b ≡ true → is_letter b ≡ false
space_no_letter b h = grind (arith, nat_tests)

space_no_digit : (b : ℕ) → is_space b ≡ true → is_digit b ≡ false
space_no_digit b h = grind (arith, nat_tests)

-- Returns the class of the first byte of a token that is an operator or punctuation.

abbrev pub sign_start : Sign → Start
sign_start signs.Slash = AtSlash
sign_start _ = AtSign

abbrev pub piece_start : Piece → Start
piece_start (Lexeme (Identifier _)) = AtName
piece_start (Lexeme (RegionName _)) = AtRegion
piece_start (Lexeme (Number _)) = AtNumber
piece_start (Lexeme (Character _)) = AtQuote
piece_start (Lexeme (Word _)) = AtName
piece_start (Lexeme (Mark s)) = sign_start s
piece_start Space = AtSpace
piece_start Comment = AtSlash
piece_start OpenComment = AtSlash

name_starts : (name : List ℕ) → is_name name ≡ true → starts_as name AtName
name_starts [] named = absurd (true≢false (sym named))
name_starts (b ∷ bs) named = cond-true (is_letter b) _ _ (and_parts _ _ named).0

pub digit_starts : (b : ℕ) → is_digit b ≡ true → start_of b ≡ AtNumber
digit_starts b digit = cond-false (is_letter b) _ _ (digit_no_letter b digit) ∙ cond-true (is_digit b) _ _ digit

pub leading_digit : (b : ℕ) → is_between 49 57 b ≡ true → is_digit b ≡ true
leading_digit b h = grind (arith, nat_tests)

decimal_starts : (bytes : List ℕ) → is_decimal bytes ≡ true → starts_as bytes AtNumber
decimal_starts [] decimal = absurd (true≢false (sym decimal))
decimal_starts (b ∷ []) decimal = digit_starts b decimal
decimal_starts (b ∷ c ∷ bs) decimal = digit_starts b (leading_digit b (and_parts _ _ decimal).0)

hexadecimal_starts : (bytes : List ℕ) → is_hexadecimal bytes ≡ true → starts_as bytes AtNumber
hexadecimal_starts [] hexadecimal = absurd (true≢false (sym hexadecimal))
hexadecimal_starts (b ∷ []) hexadecimal = absurd (true≢false (sym hexadecimal))
hexadecimal_starts (b ∷ c ∷ []) hexadecimal = absurd (true≢false (sym hexadecimal))
hexadecimal_starts (b ∷ c ∷ d ∷ ds) hexadecimal =
    ap start_of (eqb-true b 48 (and_parts _ _ (and_parts _ _ hexadecimal).0).0)

-- Each keyword has the spelling of a name.
pub is_name-keyword_text : (k : Keyword) → is_name (keyword_text k) ≡ true
is_name-keyword_text words.Int = refl
is_name-keyword_text words.Char = refl
is_name-keyword_text words.Void = refl
is_name-keyword_text words.Struct = refl
is_name-keyword_text words.Datatype = refl
is_name-keyword_text words.Exn = refl
is_name-keyword_text words.Region = refl
is_name-keyword_text words.RegionType = refl
is_name-keyword_text words.KeyType = refl
is_name-keyword_text words.Open = refl
is_name-keyword_text words.Let = refl
is_name-keyword_text words.Alias = refl
is_name-keyword_text words.NewDynamicRegion = refl
is_name-keyword_text words.NewKey = refl
is_name-keyword_text words.New = refl
is_name-keyword_text words.RegionNew = refl
is_name-keyword_text words.For = refl
is_name-keyword_text words.If = refl
is_name-keyword_text words.Else = refl
is_name-keyword_text words.While = refl
is_name-keyword_text words.Break = refl
is_name-keyword_text words.Continue = refl
is_name-keyword_text words.Return = refl
is_name-keyword_text words.Throw = refl
is_name-keyword_text words.Try = refl
is_name-keyword_text words.Catch = refl
is_name-keyword_text words.Case = refl
is_name-keyword_text words.Default = refl
is_name-keyword_text words.Null = refl
is_name-keyword_text words.NumberOfElements = refl
is_name-keyword_text words.FreeUnique = refl
is_name-keyword_text words.FreeKey = refl
is_name-keyword_text words.UniqueRegion = refl
is_name-keyword_text words.HeapRegion = refl

sign_starts : (s : Sign) → starts_as (sign_text s) (sign_start s)
sign_starts signs.Swap = refl
sign_starts signs.AndAnd = refl
sign_starts signs.OrOr = refl
sign_starts signs.Equal = refl
sign_starts signs.NotEqual = refl
sign_starts signs.LessOrEqual = refl
sign_starts signs.GreaterOrEqual = refl
sign_starts signs.ShiftLeft = refl
sign_starts signs.ShiftRight = refl
sign_starts signs.Arrow = refl
sign_starts signs.Plus = refl
sign_starts signs.Minus = refl
sign_starts signs.Star = refl
sign_starts signs.Slash = refl
sign_starts signs.Percent = refl
sign_starts signs.And = refl
sign_starts signs.Or = refl
sign_starts signs.Xor = refl
sign_starts signs.Tilde = refl
sign_starts signs.Not = refl
sign_starts signs.Less = refl
sign_starts signs.Greater = refl
sign_starts signs.Assign = refl
sign_starts signs.LeftParen = refl
sign_starts signs.RightParen = refl
sign_starts signs.LeftBracket = refl
sign_starts signs.RightBracket = refl
sign_starts signs.LeftBrace = refl
sign_starts signs.RightBrace = refl
sign_starts signs.Comma = refl
sign_starts signs.Semicolon = refl
sign_starts signs.Colon = refl
sign_starts signs.At = refl
sign_starts signs.Question = refl

space_starts : (b : ℕ) → is_space b ≡ true → start_of b ≡ AtSpace
space_starts b space =
    cond-false (is_letter b) _ _ (space_no_letter b space)
    ∙ cond-false (is_digit b) _ _ (space_no_digit b space)
    ∙ cond-true (is_space b) _ _ space

-- The first byte of a token, space or comment is in the class that `piece_start` assigns to it.
pub piece_starts : (m : Piece) (bytes : List ℕ) → Spells m bytes → starts_as bytes (piece_start m)
piece_starts (Lexeme (Identifier name)) bytes h = rw h.0 (name_starts name h.1)
piece_starts (Lexeme (RegionName name)) bytes h = rw h.0 refl
piece_starts (Lexeme (Number n)) bytes h =
    ⊎_elim (λ d. decimal_starts bytes d.0) (λ x. hexadecimal_starts bytes x.0) h
piece_starts (Lexeme (Character c)) bytes h = ⊎_elim (λ p. rw p.0 refl) (λ e. rw e.1 refl) h
piece_starts (Lexeme (Word k)) bytes h = rw h (name_starts (keyword_text k) (is_name-keyword_text k))
piece_starts (Lexeme (Mark s)) bytes h = rw h (sign_starts s)
piece_starts Space bytes h = rw h.1 (space_starts h.0 h.2)
piece_starts Comment bytes h = ⊎_elim (λ line. rw line.1 refl) (λ block. rw block.1 refl) h
piece_starts OpenComment bytes h = rw h.1 refl

-- The list of all keywords.

abbrev all_keywords : List Keyword
all_keywords =
    words.Int ∷ words.Char ∷ words.Void ∷ words.Struct ∷ words.Datatype ∷ words.Exn ∷ words.Region ∷ words.RegionType ∷ words.KeyType ∷ words.Open ∷ words.Let ∷ words.Alias ∷ words.NewDynamicRegion ∷ words.NewKey ∷ words.New ∷ words.RegionNew ∷ words.For ∷ words.If ∷ words.Else ∷ words.While ∷ words.Break ∷ words.Continue ∷ words.Return ∷ words.Throw ∷ words.Try ∷ words.Catch ∷ words.Case ∷ words.Default ∷ words.Null ∷ words.NumberOfElements ∷ words.FreeUnique ∷ words.FreeKey ∷ words.UniqueRegion ∷ words.HeapRegion ∷ []

abbrev all_signs : List Sign
all_signs =
    signs.Swap ∷ signs.AndAnd ∷ signs.OrOr ∷ signs.Equal ∷ signs.NotEqual ∷ signs.LessOrEqual ∷ signs.GreaterOrEqual ∷ signs.ShiftLeft ∷ signs.ShiftRight ∷ signs.Arrow ∷ signs.Plus ∷ signs.Minus ∷ signs.Star ∷ signs.Slash ∷ signs.Percent ∷ signs.And ∷ signs.Or ∷ signs.Xor ∷ signs.Tilde ∷ signs.Not ∷ signs.Less ∷ signs.Greater ∷ signs.Assign ∷ signs.LeftParen ∷ signs.RightParen ∷ signs.LeftBracket ∷ signs.RightBracket ∷ signs.LeftBrace ∷ signs.RightBrace ∷ signs.Comma ∷ signs.Semicolon ∷ signs.Colon ∷ signs.At ∷ signs.Question ∷ []

abbrev keyword_among : List Keyword → List ℕ → Option Keyword
keyword_among [] bytes = None
keyword_among (k ∷ ks) bytes = cond (bytes_eq (keyword_text k) bytes) (Some k) (keyword_among ks bytes)

abbrev sign_among : List Sign → List ℕ → Option Sign
sign_among [] bytes = None
sign_among (s ∷ ss) bytes = cond (bytes_eq (sign_text s) bytes) (Some s) (sign_among ss bytes)

-- Returns true if `*/` occurs in the bytes.
abbrev pub has_close : List ℕ → Bool
has_close [] = false
has_close (b ∷ bs) = starts_with eqb (b ∷ bs) (codes "*/") || has_close bs

abbrev slash_piece : List ℕ → Piece
slash_piece [] = Lexeme (Mark signs.Slash)
slash_piece (b ∷ bs) = cond (eqb b 47) Comment (cond (has_close bs) Comment OpenComment)

abbrev character_of : List ℕ → ℕ
character_of [] = 0
character_of (b ∷ []) = b
character_of (b ∷ c ∷ []) = b
character_of (b ∷ c ∷ d ∷ bs) = unwrap_or (escaped c) 0

abbrev named_piece : List ℕ → Option Keyword → Piece
named_piece name None = Lexeme (Identifier name)
named_piece name (Some k) = Lexeme (Word k)

abbrev signed_piece : Option Sign → Piece
signed_piece None = Space
signed_piece (Some s) = Lexeme (Mark s)

abbrev piece_at : Start → ℕ → List ℕ → Piece
piece_at AtName b bs = named_piece (b ∷ bs) (keyword_among all_keywords (b ∷ bs))
piece_at AtNumber b bs =
    Lexeme (Number (cond (is_hexadecimal (b ∷ bs)) (number_in 16 (drop 1 bs)) (number_in 10 (b ∷ bs))))
piece_at AtRegion b bs = Lexeme (RegionName bs)
piece_at AtQuote b bs = Lexeme (Character (character_of bs))
piece_at AtSpace b bs = Space
piece_at AtSlash b bs = slash_piece bs
piece_at AtSign b bs = signed_piece (sign_among all_signs (b ∷ bs))

abbrev piece_of : List ℕ → Piece
piece_of [] = Space
piece_of (b ∷ bs) = piece_at (start_of b) b bs

piece_of-keyword_text : (k : Keyword) → piece_of (keyword_text k) ≡ Lexeme (Word k)
piece_of-keyword_text words.Int = refl
piece_of-keyword_text words.Char = refl
piece_of-keyword_text words.Void = refl
piece_of-keyword_text words.Struct = refl
piece_of-keyword_text words.Datatype = refl
piece_of-keyword_text words.Exn = refl
piece_of-keyword_text words.Region = refl
piece_of-keyword_text words.RegionType = refl
piece_of-keyword_text words.KeyType = refl
piece_of-keyword_text words.Open = refl
piece_of-keyword_text words.Let = refl
piece_of-keyword_text words.Alias = refl
piece_of-keyword_text words.NewDynamicRegion = refl
piece_of-keyword_text words.NewKey = refl
piece_of-keyword_text words.New = refl
piece_of-keyword_text words.RegionNew = refl
piece_of-keyword_text words.For = refl
piece_of-keyword_text words.If = refl
piece_of-keyword_text words.Else = refl
piece_of-keyword_text words.While = refl
piece_of-keyword_text words.Break = refl
piece_of-keyword_text words.Continue = refl
piece_of-keyword_text words.Return = refl
piece_of-keyword_text words.Throw = refl
piece_of-keyword_text words.Try = refl
piece_of-keyword_text words.Catch = refl
piece_of-keyword_text words.Case = refl
piece_of-keyword_text words.Default = refl
piece_of-keyword_text words.Null = refl
piece_of-keyword_text words.NumberOfElements = refl
piece_of-keyword_text words.FreeUnique = refl
piece_of-keyword_text words.FreeKey = refl
piece_of-keyword_text words.UniqueRegion = refl
piece_of-keyword_text words.HeapRegion = refl

piece_of-sign_text : (s : Sign) → piece_of (sign_text s) ≡ Lexeme (Mark s)
piece_of-sign_text signs.Swap = refl
piece_of-sign_text signs.AndAnd = refl
piece_of-sign_text signs.OrOr = refl
piece_of-sign_text signs.Equal = refl
piece_of-sign_text signs.NotEqual = refl
piece_of-sign_text signs.LessOrEqual = refl
piece_of-sign_text signs.GreaterOrEqual = refl
piece_of-sign_text signs.ShiftLeft = refl
piece_of-sign_text signs.ShiftRight = refl
piece_of-sign_text signs.Arrow = refl
piece_of-sign_text signs.Plus = refl
piece_of-sign_text signs.Minus = refl
piece_of-sign_text signs.Star = refl
piece_of-sign_text signs.Slash = refl
piece_of-sign_text signs.Percent = refl
piece_of-sign_text signs.And = refl
piece_of-sign_text signs.Or = refl
piece_of-sign_text signs.Xor = refl
piece_of-sign_text signs.Tilde = refl
piece_of-sign_text signs.Not = refl
piece_of-sign_text signs.Less = refl
piece_of-sign_text signs.Greater = refl
piece_of-sign_text signs.Assign = refl
piece_of-sign_text signs.LeftParen = refl
piece_of-sign_text signs.RightParen = refl
piece_of-sign_text signs.LeftBracket = refl
piece_of-sign_text signs.RightBracket = refl
piece_of-sign_text signs.LeftBrace = refl
piece_of-sign_text signs.RightBrace = refl
piece_of-sign_text signs.Comma = refl
piece_of-sign_text signs.Semicolon = refl
piece_of-sign_text signs.Colon = refl
piece_of-sign_text signs.At = refl
piece_of-sign_text signs.Question = refl

-- The token, space or comment that a byte string spells is determined by cases on the class of its first byte.
piece_of-at : (bytes : List ℕ) (s : Start) (P : Piece) → starts_as bytes s
    → ((b : ℕ) (bs : List ℕ) → bytes ≡ b ∷ bs → piece_at s b bs ≡ P) → piece_of bytes ≡ P
piece_of-at [] s P start is = absurd start
piece_of-at (b ∷ bs) s P start is = ap (λ t. piece_at t b bs) start ∙ is b bs refl

-- The search for a keyword whose text is a given name fails if the name is not a keyword.
keyword_among-fresh : (ks : List Keyword) (name : List ℕ) → ((k : Keyword) → name ≢ keyword_text k) → keyword_among ks name ≡ None
keyword_among-fresh [] name fresh = refl
keyword_among-fresh (k ∷ ks) name fresh =
    cond-false (bytes_eq (keyword_text k) name) _ _ (false_from_ne_true _ (λ same. fresh k (sym ((bytes_eq-Decides _ _).0 same))))
    ∙ keyword_among-fresh ks name fresh

decimal_no_hexadecimal : (bytes : List ℕ) → is_decimal bytes ≡ true → is_hexadecimal bytes ≡ false
decimal_no_hexadecimal [] decimal = refl
decimal_no_hexadecimal (b ∷ []) decimal = refl
decimal_no_hexadecimal (b ∷ c ∷ []) decimal = refl
decimal_no_hexadecimal (b ∷ c ∷ d ∷ ds) decimal =
    and_left _ _ (and_left _ _ (no_zero b (and_parts _ _ decimal).0))
  where
    no_zero : (b : ℕ) → is_between 49 57 b ≡ true → eqb b 48 ≡ false
    no_zero b h = grind (arith, nat_tests)

-- If `*/` occurs in a byte string, the search for `*/` in the byte string succeeds.
has_close-within : (before after : List ℕ) → has_close (before ++ (codes "*/" ++ after)) ≡ true
has_close-within [] after = refl
has_close-within (b ∷ before) after = or_right _ _ (has_close-within before after)

-- If the search for `*/` in a byte string succeeds, `*/` occurs in the byte string.
pub close_from_has_close : (bytes : List ℕ) → has_close bytes ≡ true → (before after : List ℕ) × (bytes ≡ before ++ (codes "*/" ++ after))
close_from_has_close [] h = absurd (true≢false (sym h))
close_from_has_close (b ∷ bs) h =
    ⊎_elim
    (λ here. ([], drop 2 (b ∷ bs), (starts_is Decides-eqb (b ∷ bs) (codes "*/") _ refl).0 here))
    (λ later. let found = close_from_has_close bs later in (b ∷ found.0, found.1, ap (λ l. b ∷ l) found.2))
    (or_cases _ _ h)

pub has_close-none : (bytes : List ℕ) → HasNoClose bytes → has_close bytes ≡ false
has_close-none bytes none =
    false_from_ne_true _ (λ h. let found = close_from_has_close bytes h in none found.0 found.1 found.2)

-- Each byte string spells at most one piece (token, space or comment).
spelled_piece : (m : Piece) (bytes : List ℕ) → Spells m bytes → piece_of bytes ≡ m
spelled_piece (Lexeme (Identifier name)) bytes h =
    piece_of-at bytes AtName _ (piece_starts (Lexeme (Identifier name)) bytes h)
    (λ b bs e. ap (λ l. named_piece l (keyword_among all_keywords l)) (sym e ∙ h.0) ∙ ap (named_piece name) (keyword_among-fresh all_keywords name h.2))
spelled_piece (Lexeme (RegionName name)) bytes h = rw h.0 refl
spelled_piece (Lexeme (Number n)) bytes h =
    piece_of-at bytes AtNumber _ (piece_starts (Lexeme (Number n)) bytes h)
    (λ b bs e. ap (λ v. Lexeme (Number v)) (numeral b bs e))
  where
    numeral : (b : ℕ) (bs : List ℕ) → bytes ≡ b ∷ bs → cond (is_hexadecimal (b ∷ bs)) (number_in 16 (drop 1 bs)) (number_in 10 (b ∷ bs)) ≡ n
    numeral b bs e =
        ⊎_elim
        (λ d. cond-false _ _ _ (ap is_hexadecimal (sym e) ∙ decimal_no_hexadecimal bytes d.0) ∙ ap (number_in 10) (sym e) ∙ sym d.1)
        (λ x. cond-true _ _ _ (ap is_hexadecimal (sym e) ∙ x.0) ∙ ap (λ l. number_in 16 (drop 2 l)) (sym e) ∙ sym x.1)
        h
spelled_piece (Lexeme (Character c)) bytes h =
    ⊎_elim (λ p. rw p.0 refl) (λ e. rw e.1 (ap (λ o. Lexeme (Character (unwrap_or o 0))) e.2)) h
spelled_piece (Lexeme (Word k)) bytes h = ap piece_of h ∙ piece_of-keyword_text k
spelled_piece (Lexeme (Mark s)) bytes h = ap piece_of h ∙ piece_of-sign_text s
spelled_piece Space bytes h = rw h.1 (ap (λ s. piece_at s h.0 []) (space_starts h.0 h.2))
spelled_piece Comment bytes h =
    ⊎_elim (λ line. rw line.1 refl)
    (λ block. rw block.1 (cond-true _ _ _ (has_close-within block.0 [])))
    h
spelled_piece OpenComment bytes h = rw h.1 (cond-false _ _ _ (has_close-none h.0 h.2))

pub one_piece : (m n : Piece) (bytes : List ℕ) → Spells m bytes → Spells n bytes → m ≡ n
one_piece m n bytes spells also = sym (spelled_piece m bytes spells) ∙ spelled_piece n bytes also

pub HasNoClose-from_has_close : (bytes : List ℕ) → has_close bytes ≡ false → HasNoClose bytes
HasNoClose-from_has_close bytes none before after same =
    true≢false (sym (has_close-within before after) ∙ ap has_close (sym same) ∙ none)
