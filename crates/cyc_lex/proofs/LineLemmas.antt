-- No token contains a line feed, so the source position after a token is on the same line.
use Rattle.std.proofs.Common.{◌≡◌, ℕ, ◌+◌, ◌==◌, ◌&&◌, ◌||◌, Bool, true, not, Some, List, [], ◌∷◌, ◌++◌, length, refl, sym, ap, subst, ◌∙◌, append-nil, ⊎_elim, arith}
use Rattle.std.specs.List.{list_all}
use Rattle.std.proofs.lemmas.Bool.{true≢false, cases_Bool, and_from, and_parts, eqb-true, not-true}
use Rattle.std.proofs.lemmas.Bool.Decides.{nat_tests}
use Rattle.std.proofs.lemmas.List.{append_assoc}
use Rattle.cyc_words.specs.declared.span.Span.{Span}
use Rattle.cyc_syntax.specs.declared.tokens.Sign.{Sign}
use Rattle.cyc_syntax.specs.declared.tokens.Sign.TheVariants as signs
use Rattle.cyc_syntax.specs.inside.Place.{IsAfter}
use Rattle.cyc_syntax.specs.Spelling.{is_line_feed, is_digit, is_hex_digit, is_name_byte, is_name, is_decimal, is_hexadecimal, is_plain, escaped, keyword_text, sign_text, SpellsToken}
use Rattle.cyc_syntax.specs.TokenRule.{line_after, column_after}
use Rattle.cyc_syntax.specs.Tokens.{Kind, Identifier, RegionName, Number, Character, Word, Mark}
use Rattle.cyc_syntax.proofs.PieceLemmas.{leading_digit, is_name-keyword_text}
use Rattle.cyc_syntax.proofs.PlaceLemmas.{after_other}
use Rattle.cyc_lex.proofs.NameReading.{name_bytes}

-- Holds if the byte is not a line feed.
abbrev stays : ℕ → Bool
stays b = not (is_line_feed b)

abbrev pub is_one_line : List ℕ → Bool
is_one_line bytes = list_all stays bytes

all_stay : (p : ℕ → Bool) → ((b : ℕ) → p b ≡ true → stays b ≡ true) → (bytes : List ℕ) → list_all p bytes ≡ true → is_one_line bytes ≡ true
all_stay p step [] passes = refl
all_stay p step (b ∷ bs) passes =
    let parts = and_parts (p b) (list_all p bs) passes in
    and_from _ _ (step b parts.0) (all_stay p step bs parts.1)

name_byte_stays : (b : ℕ) → is_name_byte b ≡ true → stays b ≡ true
name_byte_stays b h = grind (arith, nat_tests)

digit_stays : (b : ℕ) → is_digit b ≡ true → stays b ≡ true
digit_stays b h = grind (arith, nat_tests)

hex_digit_stays : (b : ℕ) → is_hex_digit b ≡ true → stays b ≡ true
hex_digit_stays b h = grind (arith, nat_tests)

plain_stays : (b : ℕ) → is_plain b ≡ true → stays b ≡ true
plain_stays b h = grind (arith, nat_tests)

-- No escape sequence consists of a backslash and a line feed.
escape_stays : (b c : ℕ) → escaped b ≡ Some c → stays b ≡ true
escape_stays b c is =
    ⊎_elim (λ feed. absurd (none (sym (ap escaped (eqb-true b 10 feed)) ∙ is))) (λ other. ap not other) (cases_Bool (is_line_feed b))
  where
    none : escaped 10 ≡ Some c → ⊥
    none e = cc

name_stays : (name : List ℕ) → is_name name ≡ true → is_one_line name ≡ true
name_stays name named = all_stay is_name_byte name_byte_stays name (name_bytes name named)

decimal_stays : (bytes : List ℕ) → is_decimal bytes ≡ true → is_one_line bytes ≡ true
decimal_stays [] decimal = refl
decimal_stays (b ∷ []) decimal = and_from _ _ (digit_stays b decimal) refl
decimal_stays (b ∷ c ∷ bs) decimal =
    let parts = and_parts _ (list_all is_digit (c ∷ bs)) decimal in
    and_from _ _ (digit_stays b (leading_digit b parts.0)) (all_stay is_digit digit_stays (c ∷ bs) parts.1)

hexadecimal_stays : (bytes : List ℕ) → is_hexadecimal bytes ≡ true → is_one_line bytes ≡ true
hexadecimal_stays [] hexadecimal = refl
hexadecimal_stays (b ∷ []) hexadecimal = absurd (true≢false (sym hexadecimal))
hexadecimal_stays (b ∷ c ∷ []) hexadecimal = absurd (true≢false (sym hexadecimal))
hexadecimal_stays (b ∷ c ∷ d ∷ ds) hexadecimal =
    let parts = and_parts _ (list_all is_hex_digit (d ∷ ds)) hexadecimal in
    and_from _ _ (zero b c parts.0) (and_from _ _ (letter b c parts.0) (all_stay is_hex_digit hex_digit_stays (d ∷ ds) parts.1))
  where
    zero : (b c : ℕ) → ((b == 48) && ((c == 120) || (c == 88))) ≡ true → stays b ≡ true
    zero b c h = grind (arith, nat_tests)

    letter : (b c : ℕ) → ((b == 48) && ((c == 120) || (c == 88))) ≡ true → stays c ≡ true
    letter b c h = grind (arith, nat_tests)

sign_stays : (s : Sign) → is_one_line (sign_text s) ≡ true
sign_stays signs.Swap = refl
sign_stays signs.AndAnd = refl
sign_stays signs.OrOr = refl
sign_stays signs.Equal = refl
sign_stays signs.NotEqual = refl
sign_stays signs.LessOrEqual = refl
sign_stays signs.GreaterOrEqual = refl
sign_stays signs.ShiftLeft = refl
sign_stays signs.ShiftRight = refl
sign_stays signs.Arrow = refl
sign_stays signs.Plus = refl
sign_stays signs.Minus = refl
sign_stays signs.Star = refl
sign_stays signs.Slash = refl
sign_stays signs.Percent = refl
sign_stays signs.And = refl
sign_stays signs.Or = refl
sign_stays signs.Xor = refl
sign_stays signs.Tilde = refl
sign_stays signs.Not = refl
sign_stays signs.Less = refl
sign_stays signs.Greater = refl
sign_stays signs.Assign = refl
sign_stays signs.LeftParen = refl
sign_stays signs.RightParen = refl
sign_stays signs.LeftBracket = refl
sign_stays signs.RightBracket = refl
sign_stays signs.LeftBrace = refl
sign_stays signs.RightBrace = refl
sign_stays signs.Comma = refl
sign_stays signs.Semicolon = refl
sign_stays signs.Colon = refl
sign_stays signs.At = refl
sign_stays signs.Question = refl

-- a token contains no line feed
pub token_stays : (kind : Kind) (bytes : List ℕ) → SpellsToken kind bytes → is_one_line bytes ≡ true
token_stays (Identifier name) bytes h = ap is_one_line h.0 ∙ name_stays name h.1
token_stays (RegionName name) bytes h = ap is_one_line h.0 ∙ and_from _ _ refl (name_stays name h.1)
token_stays (Number n) bytes h = ⊎_elim (λ d. decimal_stays bytes d.0) (λ x. hexadecimal_stays bytes x.0) h
token_stays (Character c) bytes h =
    ⊎_elim
    (λ p. ap is_one_line p.0 ∙ and_from _ _ refl (and_from _ _ (plain_stays c p.1) refl))
    (λ e. ap is_one_line e.1 ∙ and_from _ _ refl (and_from _ _ refl (and_from _ _ (escape_stays e.0 c e.2) refl)))
    h
token_stays (Word k) bytes h = ap is_one_line h ∙ name_stays (keyword_text k) (is_name-keyword_text k)
token_stays (Mark s) bytes h = ap is_one_line h ∙ sign_stays s

-- The source position after a token is on the same line, and its column is greater by the token's length.
pub after_one_line : (place next : Span) (front bytes : List ℕ) → is_one_line bytes ≡ true → next.line ≡ place.line → next.column ≡ place.column + length bytes
    → IsAfter place front → IsAfter next (front ++ bytes)
after_one_line place next front [] passes line column following = record {
  line = line ∙ following.line ∙ ap line_after (sym (append-nil front));
  column = (let same : next.column ≡ place.column = omega (arith, column) in same) ∙ following.column ∙ ap column_after (sym (append-nil front));
}
after_one_line place next front (b ∷ bs) passes line column following =
    let parts = and_parts (stays b) (list_all stays bs) passes in
    let one : Span = record { line = place.line; column = place.column + 1 } in
    let count : next.column ≡ one.column + length bs = omega (arith, column) in
    subst (IsAfter next) (append_assoc front (b ∷ []) bs)
    (after_one_line one next (front ++ b ∷ []) bs parts.1 line count (after_other place one front b (not-true _ parts.0) refl refl following))
