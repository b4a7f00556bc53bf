-- This file is about the form of a piece (a token, space or comment) with a given first byte, and
-- about the longest piece at the start of a text.
use Rattle.std.proofs.Common.{◌≡◌, ℕ, ◌≤◌, true, Some, ◌⊎◌, inl, inr, ⊎_elim, List, [], ◌∷◌, ◌++◌, length, get_or, take, drop, refl, sym, ap, subst, ◌∙◌, arith}
use Rattle.std.specs.Prelude.{codes}
use Rattle.std.proofs.lemmas.List.{take-append-drop, length-take-le}
use Rattle.cyc_syntax.specs.declared.tokens.Sign.{Sign}
use Rattle.cyc_syntax.specs.declared.tokens.Sign.TheVariants as signs
use Rattle.cyc_syntax.specs.Tokens.{Identifier, RegionName, Number, Character, Word, Mark}
use Rattle.cyc_syntax.specs.Spelling.{sign_text, is_name, is_decimal, is_hexadecimal, is_plain, escaped, IsLineComment, IsBlockComment, IsOpenComment, Piece, Lexeme, Space, Comment, OpenComment, Spells}
use Rattle.cyc_syntax.specs.TokenRule.{IsRead}
use Rattle.cyc_syntax.proofs.PieceLemmas.{Start, AtName, AtNumber, AtRegion, AtQuote, AtSpace, AtSlash, AtSign, start_of, starts_as, sign_start, piece_start, piece_starts, is_name-keyword_text}

-- Says that bytes are a character constant, plain or escaped.
abbrev pub IsCharacter : List ℕ → Type 0
IsCharacter bytes =
    ((c : ℕ) × (bytes ≡ 39 ∷ c ∷ 39 ∷ []) × (is_plain c ≡ true))
    ⊎ ((b : ℕ) × (c : ℕ) × (bytes ≡ 39 ∷ 92 ∷ b ∷ 39 ∷ []) × (escaped b ≡ Some c))

abbrev pub Shape : Start → List ℕ → Type 0
Shape AtName bytes = is_name bytes ≡ true
Shape AtNumber bytes = (is_decimal bytes ≡ true) ⊎ (is_hexadecimal bytes ≡ true)
Shape AtRegion bytes = (name : List ℕ) × (bytes ≡ 96 ∷ name) × (is_name name ≡ true)
Shape AtQuote bytes = IsCharacter bytes
Shape AtSpace bytes = length bytes ≡ 1
Shape AtSlash bytes = (bytes ≡ codes "/") ⊎ (IsLineComment bytes ⊎ (IsBlockComment bytes ⊎ IsOpenComment bytes))
Shape AtSign bytes = (s : Sign) × (bytes ≡ sign_text s)

sign_shape : (s : Sign) → Shape (sign_start s) (sign_text s)
sign_shape signs.Slash = inl refl
sign_shape s = (s, refl)

-- Every token, space or comment has the form that its first byte determines.
shape : (m : Piece) (bytes : List ℕ) → Spells m bytes → Shape (piece_start m) bytes
shape (Lexeme (Identifier name)) bytes h = ap is_name h.0 ∙ h.1
shape (Lexeme (RegionName name)) bytes h = (name, h.0, h.1)
shape (Lexeme (Number n)) bytes h = ⊎_elim (λ d. inl d.0) (λ x. inr x.0) h
shape (Lexeme (Character c)) bytes h = ⊎_elim (λ p. inl (c, p.0, p.1)) (λ e. inr (e.0, c, e.1, e.2)) h
shape (Lexeme (Word k)) bytes h = ap is_name h ∙ is_name-keyword_text k
shape (Lexeme (Mark s)) bytes h = subst (Shape (sign_start s)) (sym h) (sign_shape s)
shape Space bytes h = ap length h.1
shape Comment bytes h = ⊎_elim (λ line. inr (inl line)) (λ block. inr (inr (inl block))) h
shape OpenComment bytes h = inr (inr (inr h))

-- If a prefix of a text is a piece (token, space or comment), then it has the form that the text's first byte determines.
front_shape : (m : Piece) (text front rest : List ℕ) → text ≡ front ++ rest → Spells m front → Shape (start_of (get_or text 0 0)) front
front_shape m text front rest e spelled = by front (piece_starts m front spelled) (shape m front spelled) e
  where
    by : (front : List ℕ) → starts_as front (piece_start m) → Shape (piece_start m) front → text ≡ front ++ rest → Shape (start_of (get_or text 0 0)) front
    by [] start shaped e = absurd start
    by (b ∷ bs) start shaped e =
        subst (λ s. Shape s (b ∷ bs)) (sym (ap (λ l. start_of (get_or l 0 0)) e ∙ start)) shaped

-- The lexer reads a prefix of a text as a piece (token, space or comment) if it spells the piece and is the longest prefix of the form
-- for its first byte.
pub read_at : (m : Piece) (s : Start) (text : List ℕ) (n : ℕ) → start_of (get_or text 0 0) ≡ s → n ≤ length text → Spells m (take n text)
    → ((front rest : List ℕ) → text ≡ front ++ rest → Shape s front → length front ≤ n) → IsRead m (take n text) (drop n text)
read_at m s text n start within spelled bound = record {
  spelled = spelled;
  longest = λ other front rest e also.
      let whole : text ≡ front ++ rest = sym (take-append-drop n text) ∙ e in
      let size = length-take-le n text within in
      let small = bound front rest whole (subst (λ t. Shape t front) start (front_shape other text front rest whole also)) in
      omega (arith, size, small);
}

-- ---- runs of bytes of one class
