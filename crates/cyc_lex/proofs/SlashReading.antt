-- This file is about comments and punctuation tokens at the start of a text.
use Rattle.std.proofs.Common.{◌≡◌, ◌≢◌, ℕ, ◌+◌, ◌-◌, ◌<◌, ◌≤◌, true, false, not, Some, None, inl, inr, ⊎_elim, List, [], ◌∷◌, ◌++◌, length, get_or, take, drop, refl, sym, ap, ◌∙◌, append_assoc, append-nil, arith}
use Rattle.std.specs.Prelude.{codes}
use Rattle.std.specs.List.{list_all, list_any, prefix_len}
use Rattle.std.proofs.lemmas.Bool.{cases_lt, and_from, and_parts, or_from, or_parts, not-true, not_from_false}
use Rattle.std.proofs.lemmas.List.{take-append-drop, take-append-le, take_at, length-append, length-drop}
use Rattle.std.proofs.lemmas.List.Sums.{prefix_len-le-length}
use Rattle.cyc_words.specs.declared.fault.Code.TheVariants as codes_of
use Rattle.cyc_words.proofs.Lists.{two_first, take_two_first}
use Rattle.cyc_words.proofs.Searches.{prefix_len-passes, prefix_len-at_least}
use Rattle.cyc_syntax.specs.declared.tokens.Sign.{Sign}
use Rattle.cyc_syntax.specs.declared.tokens.Sign.TheVariants as signs
use Rattle.cyc_syntax.specs.declared.tokens.TokenKind.TheVariants as kinds
use Rattle.cyc_syntax.specs.Spelling.{is_line_feed, sign_text, HasNoClose, Lexeme, Comment}
use Rattle.cyc_syntax.specs.Tokens.{Mark}
use Rattle.cyc_syntax.proofs.PieceLemmas.{AtSlash, AtSign, start_of}
use Rattle.cyc_lex.specs.inside.Found.{IsFound}
use Rattle.cyc_lex.specs.Refusals.{FailsHere}
use Rattle.cyc_lex.proofs.ShapeLemmas.{Shape, read_at}

-- If the first two bytes of a piece are those of a comment, then the piece is a comment and neither a token nor a space.
module _ (text front rest body : List ℕ) (b c : ℕ) (whole : text ≡ front ++ rest) (is : front ≡ b ∷ c ∷ body) where
  second_byte : get_or text 1 0 ≡ c
  second_byte = ap (λ l. get_or l 1 0) (whole ∙ ap (λ l. l ++ rest) is)

  body_of : drop 2 text ≡ body ++ rest
  body_of = ap (drop 2) (whole ∙ ap (λ l. l ++ rest) is)

-- ---- line comments

no_line_feed : (body : List ℕ) → list_any is_line_feed body ≡ false → list_all (λ b. not (is_line_feed b)) body ≡ true
no_line_feed [] none = refl
no_line_feed (b ∷ bs) none =
    let parts = or_parts (is_line_feed b) (list_any is_line_feed bs) none in
    and_from _ _ (not_from_false _ parts.0) (no_line_feed bs parts.1)

line_feed_nowhere : (body : List ℕ) → list_all (λ b. not (is_line_feed b)) body ≡ true → list_any is_line_feed body ≡ false
line_feed_nowhere [] all = refl
line_feed_nowhere (b ∷ bs) all =
    let parts = and_parts (not (is_line_feed b)) (list_all (λ c. not (is_line_feed c)) bs) all in
    or_from _ _ (not-true _ parts.0) (line_feed_nowhere bs parts.1)

line_bound : (text front rest : List ℕ) → get_or text 1 0 ≡ 47 → text ≡ front ++ rest → Shape AtSlash front
    → length front ≤ 2 + prefix_len (λ b. not (is_line_feed b)) (drop 2 text)
line_bound text front rest slash whole shape =
    ⊎_elim
    (λ sign. omega (arith, ap length sign))
    (λ comment. ⊎_elim
    (λ line.
    let run = prefix_len-at_least (λ b. not (is_line_feed b)) (drop 2 text) line.0 rest (body_of text front rest line.0 47 47 whole line.1) (no_line_feed line.0 line.2) in
    omega (arith, run, ap length line.1))
    (λ starred. ⊎_elim
    (λ block. absurd (omega (arith, slash, second_byte text front rest (block.0 ++ codes "*/") 47 42 whole block.1)))
    (λ open_block. absurd (omega (arith, slash, second_byte text front rest open_block.0 47 42 whole open_block.1)))
    starred)
    comment)
    shape

pub found_line_comment : (text : List ℕ) (n : ℕ) → 2 ≤ length text → get_or text 0 0 ≡ 47 → get_or text 1 0 ≡ 47
    → n ≡ prefix_len (λ b. not (is_line_feed b)) (drop 2 text) → IsFound text None (2 + n)
found_line_comment text n long first second len =
    let inside : 2 + n ≤ length text = omega (arith, len, prefix_len-le-length (λ b. not (is_line_feed b)) (drop 2 text), length-drop 2 text) in
    record {
      within = inside;
      piece = inr (read_at Comment AtSlash text (2 + n) (ap start_of first) inside
          (inl (
            take n (drop 2 text),
            take_two_first text n long ∙ (λ i. first i ∷ second i ∷ take n (drop 2 text)),
            line_feed_nowhere (take n (drop 2 text)) (ap (λ k. list_all (λ b. not (is_line_feed b)) (take k (drop 2 text))) len ∙ prefix_len-passes (λ b. not (is_line_feed b)) (drop 2 text)),
          ))
          (λ front rest whole shape. rw len (line_bound text front rest second whole shape)));
    }

-- ---- block comments

-- A prefix of a comment's text without `*/` is shorter than the closed comment.
shorter : (body front rest : List ℕ) (n : ℕ) → body ≡ front ++ rest → HasNoClose front → take n body ≡ take (n - 2) body ++ codes "*/" → length front < n
shorter body front rest n whole none closed =
    ⊎_elim
    (λ less. less)
    (λ fits.
    let head : take n front ≡ take (n - 2) body ++ codes "*/" = sym (take-append-le n front rest fits) ∙ ap (take n) (sym whole) ∙ closed in
    absurd (none (take (n - 2) body) (drop n front) (sym (take-append-drop n front) ∙ ap (λ l. l ++ drop n front) head ∙ append_assoc (take (n - 2) body) (codes "*/") (drop n front))))
    (cases_lt (length front) n)

block_bound : (text front rest : List ℕ) (n : ℕ) → get_or text 1 0 ≡ 42 → 2 ≤ n → take n (drop 2 text) ≡ take (n - 2) (drop 2 text) ++ codes "*/"
    → text ≡ front ++ rest → Shape AtSlash front → length front ≤ 2 + n
block_bound text front rest n star some closed whole shape =
    ⊎_elim
    (λ sign. omega (arith, ap length sign))
    (λ comment. ⊎_elim
    (λ line. absurd (omega (arith, star, second_byte text front rest line.0 47 47 whole line.1)))
    (λ starred. ⊎_elim
    (λ block.
    let body = body_of text front rest (block.0 ++ codes "*/") 47 42 whole block.1 in
    let inner : drop 2 text ≡ (block.0 ++ codes "*") ++ (codes "/" ++ rest) =
    body ∙ append_assoc block.0 (codes "*/") rest ∙ sym (append_assoc block.0 (codes "*") (codes "/" ++ rest)) in
    let less = shorter (drop 2 text) (block.0 ++ codes "*") (codes "/" ++ rest) n inner block.2 closed in
    omega (arith, less, ap length block.1, length-append block.0 (codes "*"), length-append block.0 (codes "*/")))
    (λ open_block.
    let less = shorter (drop 2 text) open_block.0 rest n (body_of text front rest open_block.0 47 42 whole open_block.1) open_block.2 closed in
    omega (arith, less, ap length open_block.1))
    starred)
    comment)
    shape

pub found_block_comment : (text : List ℕ) (n : ℕ) → 2 ≤ length text → get_or text 0 0 ≡ 47 → get_or text 1 0 ≡ 42 → 2 ≤ n → n ≤ length (drop 2 text)
    → take n (drop 2 text) ≡ take (n - 2) (drop 2 text) ++ codes "*/" → HasNoClose (take (n - 2) (drop 2 text) ++ codes "*") → IsFound text None (2 + n)
found_block_comment text n long first second some fits closed first_close =
    let inside : 2 + n ≤ length text = omega (arith, fits, length-drop 2 text) in
    record {
      within = inside;
      piece = inr (read_at Comment AtSlash text (2 + n) (ap start_of first) inside
          (inr (
            take (n - 2) (drop 2 text),
            take_two_first text n long ∙ (λ i. first i ∷ second i ∷ closed i),
            first_close,
          ))
          (λ front rest whole shape. block_bound text front rest n second some closed whole shape));
    }

pub open_comment : (text : List ℕ) → 2 ≤ length text → get_or text 0 0 ≡ 47 → get_or text 1 0 ≡ 42 → HasNoClose (drop 2 text)
    → FailsHere codes_of.UnclosedComment text
open_comment text long first second none = (
  text,
  [],
  sym (append-nil text),
  record {
    spelled = (drop 2 text, two_first text long ∙ (λ i. first i ∷ second i ∷ drop 2 text), none);
    longest = λ other front rest whole also. omega (arith, ap length whole, length-append front rest, length-append text []);
  },
)

-- ---- signs

-- A piece that begins with a slash is a comment or the token `/`. A piece that begins with the first
-- byte of another punctuation token is a punctuation token.
at_sign : (s : Sign) (rest : List ℕ) → get_or (sign_text s ++ rest) 0 0 ≢ 47 → start_of (get_or (sign_text s ++ rest) 0 0) ≡ AtSign
at_sign signs.Swap rest other = refl
at_sign signs.AndAnd rest other = refl
at_sign signs.OrOr rest other = refl
at_sign signs.Equal rest other = refl
at_sign signs.NotEqual rest other = refl
at_sign signs.LessOrEqual rest other = refl
at_sign signs.GreaterOrEqual rest other = refl
at_sign signs.ShiftLeft rest other = refl
at_sign signs.ShiftRight rest other = refl
at_sign signs.Arrow rest other = refl
at_sign signs.Plus rest other = refl
at_sign signs.Minus rest other = refl
at_sign signs.Star rest other = refl
at_sign signs.Slash rest other = absurd (other refl)
at_sign signs.Percent rest other = refl
at_sign signs.And rest other = refl
at_sign signs.Or rest other = refl
at_sign signs.Xor rest other = refl
at_sign signs.Tilde rest other = refl
at_sign signs.Not rest other = refl
at_sign signs.Less rest other = refl
at_sign signs.Greater rest other = refl
at_sign signs.Assign rest other = refl
at_sign signs.LeftParen rest other = refl
at_sign signs.RightParen rest other = refl
at_sign signs.LeftBracket rest other = refl
at_sign signs.RightBracket rest other = refl
at_sign signs.LeftBrace rest other = refl
at_sign signs.RightBrace rest other = refl
at_sign signs.Comma rest other = refl
at_sign signs.Semicolon rest other = refl
at_sign signs.Colon rest other = refl
at_sign signs.At rest other = refl
at_sign signs.Question rest other = refl

pub found_sign : (text : List ℕ) (s : Sign) (n : ℕ) → get_or text 0 0 ≢ 47 → n ≡ length (sign_text s) → text ≡ sign_text s ++ drop n text
    → ((other : Sign) (rest : List ℕ) → text ≡ sign_text other ++ rest → length (sign_text other) ≤ n)
    → IsFound text (Some (kinds.Sign s)) n
found_sign text s n other len begins longest =
    let inside : n ≤ length text = omega (arith, len, ap length begins, length-append (sign_text s) (drop n text)) in
    let cut : take n text ≡ sign_text s = ap (take n) begins ∙ take_at (sign_text s) (drop n text) n (sym len) in
    let first : get_or text 0 0 ≡ get_or (sign_text s ++ drop n text) 0 0 = ap (λ l. get_or l 0 0) begins in
    record {
      within = inside;
      piece = (
        read_at (Lexeme (Mark s)) AtSign text n (ap start_of first ∙ at_sign s (drop n text) (λ slash. other (first ∙ slash))) inside cut
            (λ front rest whole shape. rw shape.1 (longest shape.0 rest (whole ∙ ap (λ l. l ++ rest) shape.1))),
        tt,
      );
    }
