-- This file is about the first fault of a text, and proves that a text has at most one result.
use Rattle.std.proofs.Common.{◌≡◌, ◌≢◌, ℕ, ◌<◌, ◌≤◌, ⊎_elim, Some, List, [], ◌∷◌, ◌++◌, length, take, drop, eqb, cond, refl, sym, ap, subst, ◌∙◌, append-nil, arith}
use Rattle.std.proofs.lemmas.List.{take-append-drop, length-append, length-map, get_or_at}
use Rattle.cyc_words.specs.declared.fault.Code.{Code}
use Rattle.cyc_words.specs.declared.fault.Code.TheVariants as codes
use Rattle.cyc_words.specs.declared.fault.Fault.{Fault}
use Rattle.cyc_words.specs.Fault.{number_of}
use Rattle.cyc_words.specs.declared.span.Span.{Span}
use Rattle.cyc_syntax.specs.declared.tokens.Token.{Token as CodeToken}
use Rattle.cyc_syntax.specs.declared.tokens.TokenKind.{TokenKind}
use Rattle.cyc_syntax.specs.Spelling.{Piece, Lexeme, OpenComment, Spells}
use Rattle.cyc_syntax.specs.Tokens.{Kind, Number, Token, kind_of, token_of}
use Rattle.cyc_syntax.specs.TokenRule.{IsRead, Part, IsCut, bytes_of, part_tokens, tokens_of, IsSmall, IsWithinLimits, line_after, column_after, max_tokens, max_number}
use Rattle.cyc_syntax.proofs.CutLemmas.{piece_nonempty, one_part, cuts_meet, no_more, one_token_list, tokens_of-append}
use Rattle.cyc_lex.specs.inside.Found.{IsFound}
use Rattle.cyc_lex.specs.Refusals.{Begins, FailsHere, Holds, IsFirstFault, IsRefused, IsAccepted}
use Rattle.cyc_lex.proofs.LexLemmas.{IsReadUpTo}

-- At the start of a text the lexer can read at most one piece (token, space or comment): the piece is unique.
one_begins : (m n : Piece) (text : List ℕ) → Begins m text → Begins n text → m ≡ n
one_begins m n text begins also =
    ap (λ (p : Part). p.piece)
    (one_part (record { piece = m; bytes = begins.0 }) (record { piece = n; bytes = also.0 }) begins.1 also.1 (sym begins.2 ∙ also.2) begins.3 also.3).0

begins_piece : (m : Piece) (text : List ℕ) → Begins m text → FailsHere codes.UnknownByte text → ⊥
begins_piece m text begins unknown = unknown.1 m begins.0 begins.1 begins.2 begins.3.spelled

begins_nothing : (m : Piece) → Begins m [] → ⊥
begins_nothing m begins = by begins.0 begins.2 begins.3.spelled
  where
    by : (bytes : List ℕ) → [] ≡ bytes ++ begins.1 → Spells m bytes → ⊥
    by [] e spelled = piece_nonempty m spelled
    by (b ∷ bs) e spelled = cc

-- If a fault code describes the rest of a text, independently of a token count, then it describes this rest after any number of tokens.
holds_here : (code : Code) (count : ℕ) (text : List ℕ) → FailsHere code text → Holds code count text
holds_here codes.UnknownByte count text fails = fails
holds_here codes.UnclosedComment count text fails = fails
holds_here codes.NumberTooLarge count text fails = fails
holds_here _ count text fails = absurd fails

-- These lemmas state that a fault code has the lowest number among the codes that hold at a position of the text.

least_unknown : (other : Code) (count : ℕ) (text : List ℕ) → Holds other count text → 1 ≤ number_of other
least_unknown codes.UnknownByte count text h = omega arith
least_unknown codes.UnclosedComment count text h = omega arith
least_unknown codes.NumberTooLarge count text h = omega arith
least_unknown codes.TooManyTokens count text h = omega arith
least_unknown _ count text h = absurd h

least_unclosed : (other : Code) (count : ℕ) (text : List ℕ) → Begins OpenComment text → Holds other count text → 2 ≤ number_of other
least_unclosed codes.UnknownByte count text begins h = absurd (begins_piece OpenComment text begins h)
least_unclosed codes.UnclosedComment count text begins h = omega arith
least_unclosed codes.NumberTooLarge count text begins h = omega arith
least_unclosed codes.TooManyTokens count text begins h = omega arith
least_unclosed _ count text begins h = absurd h

least_large : (other : Code) (count : ℕ) (text : List ℕ) (k : Kind) → Begins (Lexeme k) text → Holds other count text → 3 ≤ number_of other
least_large codes.UnknownByte count text k begins h = absurd (begins_piece (Lexeme k) text begins h)
least_large codes.UnclosedComment count text k begins h = absurd (let e = one_begins (Lexeme k) OpenComment text begins h in cc)
least_large codes.NumberTooLarge count text k begins h = omega arith
least_large codes.TooManyTokens count text k begins h = omega arith
least_large _ count text k begins h = absurd h

-- If a token is within the limits of the lexer, then no number above the greatest allowed number begins at its position.
not_large : (text : List ℕ) (k : Kind) → Begins (Lexeme k) text → IsSmall k → FailsHere codes.NumberTooLarge text → ⊥
not_large text k begins small large =
    let e = one_begins (Lexeme k) (Lexeme (Number large.0)) text begins large.1 in
    let same : k ≡ Number large.0 = cc in
    let within : large.0 ≤ max_number = subst IsSmall same small in
    omega (arith, within, large.2)

least_many : (other : Code) (count : ℕ) (text : List ℕ) (k : Kind) → Begins (Lexeme k) text → IsSmall k → Holds other count text → 6 ≤ number_of other
least_many codes.UnknownByte count text k begins small h = absurd (begins_piece (Lexeme k) text begins h)
least_many codes.UnclosedComment count text k begins small h = absurd (let e = one_begins (Lexeme k) OpenComment text begins h in cc)
least_many codes.NumberTooLarge count text k begins small h = absurd (not_large text k begins small h)
least_many codes.TooManyTokens count text k begins small h = omega arith
least_many _ count text k begins small h = absurd h

least_here : (code : Code) (count : ℕ) (text : List ℕ) → FailsHere code text → (other : Code) → Holds other count text → number_of code ≤ number_of other
least_here codes.UnknownByte count text fails other h = least_unknown other count text h
least_here codes.UnclosedComment count text fails other h = least_unclosed other count text fails h
least_here codes.NumberTooLarge count text fails other h = least_large other count text (Number fails.0) fails.1 h
least_here _ count text fails other h = absurd fails

-- ---- the fault at a position that the lexer has reached
module _ (text : List ℕ) (tokens : List CodeToken) (start : ℕ) (place : Span) (done : IsReadUpTo text tokens start place) where
  line : place.line ≡ line_after (bytes_of done.parts)
  line = done.following.line ∙ ap line_after (sym done.front)

  column : place.column ≡ column_after (bytes_of done.parts)
  column = done.following.column ∙ ap column_after (sym done.front)

  pub fails_first : (code : Code) → FailsHere code (drop start text) → IsFirstFault text (record { code = code; line = place.line; column = place.column })
  fails_first code fails = record {
    parts = done.parts;
    rest = drop start text;
    cut = done.cut;
    within = done.within;
    holds = holds_here code _ (drop start text) fails;
    lowest = least_here code _ (drop start text) fails;
    line = line;
    column = column;
  }

  pub too_many_first : (kind : TokenKind) (len : ℕ) → IsFound (drop start text) (Some kind) len → max_tokens ≤ length tokens
      → IsFirstFault text (record { code = codes.TooManyTokens; line = place.line; column = place.column })
  too_many_first kind len found many =
      let k = kind_of (take len (drop start text)) kind in
      let begins : Begins (Lexeme k) (drop start text) = (take len (drop start text), drop len (drop start text), sym (take-append-drop len (drop start text)), found.piece.0) in
      let count : length (tokens_of [] done.parts) ≡ length tokens = ap length (sym done.views) ∙ length-map _ (token_of text) in
      record {
        parts = done.parts;
        rest = drop start text;
        cut = done.cut;
        within = done.within;
        holds = (k, begins, omega (arith, count, many));
        lowest = λ other h. least_many other _ (drop start text) k begins found.piece.1 h;
        line = line;
        column = column;
      }

-- ---- a text has at most one result

-- A fault code is determined by its number.
code_with : ℕ → Code
code_with n = cond (eqb n 1) codes.UnknownByte (cond (eqb n 2) codes.UnclosedComment (cond (eqb n 3) codes.NumberTooLarge codes.TooManyTokens))

code_is : (code : Code) (count : ℕ) (text : List ℕ) → Holds code count text → code ≡ code_with (number_of code)
unfolding code_with
code_is codes.UnknownByte count text h = refl
code_is codes.UnclosedComment count text h = refl
code_is codes.NumberTooLarge count text h = refl
code_is codes.TooManyTokens count text h = refl
code_is _ count text h = absurd h

-- If all tokens of a list are within the limits of the lexer, then so is each of them, and fewer tokens than the maximum come before it.
middle : (front more : List Token) (t : Token) → IsWithinLimits (front ++ t ∷ more) → IsSmall t.kind × (length front < max_tokens)
middle front more t within =
    let count = within.count in
    let size = length-append front (t ∷ more) in (
      subst (λ (u : Token). IsSmall u.kind) (get_or_at front t more t (length front) refl) (within.numbers (length front) t (omega (arith, size))),
      omega (arith, count, size),
    )

-- At a position of the text where a fault code holds, no token, space or comment can be read within the limits of the lexer.
no_way_on : (code : Code) (front : List Token) (p : Part) (text after : List ℕ) (bytes : List ℕ) (more : List Token) → Holds code (length front) text
    → text ≡ p.bytes ++ after → IsRead p.piece p.bytes after → p.piece ≢ OpenComment → IsWithinLimits (front ++ (part_tokens bytes p.piece ++ more)) → ⊥
no_way_on codes.UnknownByte front p text after bytes more h whole read closed within = begins_piece p.piece text (p.bytes, after, whole, read) h
no_way_on codes.UnclosedComment front p text after bytes more h whole read closed within = closed (one_begins p.piece OpenComment text (p.bytes, after, whole, read) h)
no_way_on codes.NumberTooLarge front p text after bytes more h whole read closed within =
    let same = one_begins p.piece (Lexeme (Number h.0)) text (p.bytes, after, whole, read) h.1 in
    let small = (middle front more _ (subst (λ m. IsWithinLimits (front ++ (part_tokens bytes m ++ more))) same within)).0 in
    omega (arith, small, h.2)
no_way_on codes.TooManyTokens front p text after bytes more h whole read closed within =
    let same = one_begins p.piece (Lexeme h.0) text (p.bytes, after, whole, read) h.1 in
    let room = (middle front more _ (subst (λ m. IsWithinLimits (front ++ (part_tokens bytes m ++ more))) same within)).1 in
    omega (arith, room, h.2)
no_way_on _ front p text after bytes more h whole read closed within = absurd h

fault_stops : (ps qs more : List Part) (r s : List ℕ) (code : Code) → qs ≡ ps ++ more → IsCut more r s → Holds code (length (tokens_of [] ps)) r
    → IsWithinLimits (tokens_of [] qs) → more ≡ []
fault_stops ps qs [] r s code e cut h within = refl
fault_stops ps qs (p ∷ more) r s code e cut h within =
    absurd
    (no_way_on code (tokens_of [] ps) p r cut.0 (bytes_of ps) (tokens_of (bytes_of ps ++ p.bytes) more) h cut.1 cut.2 cut.3
    (subst IsWithinLimits (ap (tokens_of []) e ∙ tokens_of-append [] ps (p ∷ more)) within))

holds_nothing : (code : Code) (count : ℕ) → Holds code count [] → ⊥
holds_nothing codes.UnknownByte count h = h.0 refl
holds_nothing codes.UnclosedComment count h = begins_nothing OpenComment h
holds_nothing codes.NumberTooLarge count h = begins_nothing (Lexeme (Number h.0)) h.1
holds_nothing codes.TooManyTokens count h = begins_nothing (Lexeme h.0) h.1
holds_nothing _ count h = h

-- Let one division of a text into pieces (tokens, spaces, comments) continue another one. If the continuation adds no piece,
-- then both divisions are equal, and so are the texts that remain after them.
end_of : (ps qs more : List Part) (r s : List ℕ) → qs ≡ ps ++ more → IsCut more r s → more ≡ [] → (qs ≡ ps) × (r ≡ s)
end_of ps qs more r s e cut none = (e ∙ ap (λ l. ps ++ l) none ∙ append-nil ps, subst (λ l. IsCut l r s) none cut)

module _ (text : List ℕ) (f g : Fault) (first : IsFirstFault text f) (also : IsFirstFault text g) where
  same_place : first.parts ≡ also.parts → first.rest ≡ also.rest → f ≡ g
  same_place parts rest =
      let at_first : Holds g.code (length (tokens_of [] first.parts)) first.rest =
      subst (λ r. Holds g.code (length (tokens_of [] first.parts)) r) (sym rest) (subst (λ ps. Holds g.code (length (tokens_of [] ps)) also.rest) (sym parts) also.holds) in
      let at_other : Holds f.code (length (tokens_of [] also.parts)) also.rest =
      subst (λ r. Holds f.code (length (tokens_of [] also.parts)) r) rest (subst (λ ps. Holds f.code (length (tokens_of [] ps)) first.rest) parts first.holds) in
      let below = first.lowest g.code at_first in
      let above = also.lowest f.code at_other in
      let number : number_of f.code ≡ number_of g.code = omega (arith, below, above) in
      let code : f.code ≡ g.code = code_is f.code _ first.rest first.holds ∙ ap code_with number ∙ sym (code_is g.code _ also.rest also.holds) in
      let line : f.line ≡ g.line = first.line ∙ ap (λ ps. line_after (bytes_of ps)) parts ∙ sym also.line in
      let column : f.column ≡ g.column = first.column ∙ ap (λ ps. column_after (bytes_of ps)) parts ∙ sym also.column in
      (λ i. record { code = code i; line = line i; column = column i })

  one_first_fault : f ≡ g
  one_first_fault =
      ⊎_elim
      (λ x.
      let none = fault_stops first.parts also.parts x.0 first.rest also.rest f.code x.1 x.2 first.holds also.within in
      let end = end_of first.parts also.parts x.0 first.rest also.rest x.1 x.2 none in
      same_place (sym end.0) end.1)
      (λ x.
      let none = fault_stops also.parts first.parts x.0 also.rest first.rest g.code x.1 x.2 also.holds first.within in
      let end = end_of also.parts first.parts x.0 also.rest first.rest x.1 x.2 none in
      same_place end.0 (sym end.1))
      (cuts_meet first.parts also.parts text first.rest also.rest first.cut also.cut)

no_fault : (text : List ℕ) (tokens : List Token) (f : Fault) → IsAccepted text tokens → IsFirstFault text f → ⊥
no_fault text tokens f accepted first =
    ⊎_elim
    (λ x.
    let none = fault_stops first.parts accepted.rule.0 x.0 first.rest [] f.code x.1 x.2 first.holds (subst IsWithinLimits (sym accepted.rule.2) accepted.within) in
    at_end (end_of first.parts accepted.rule.0 x.0 first.rest [] x.1 x.2 none).1)
    (λ x. at_end (sym (end_of accepted.rule.0 first.parts x.0 [] first.rest x.1 x.2 (no_more x.0 first.rest x.2)).1))
    (cuts_meet first.parts accepted.rule.0 text first.rest [] first.cut accepted.rule.1)
  where
    at_end : first.rest ≡ [] → ⊥
    at_end end = holds_nothing f.code _ (subst (Holds f.code (length (tokens_of [] first.parts))) end first.holds)

pub accepted_once : (text : List ℕ) (a b : List Token) → IsAccepted text a → IsAccepted text b → a ≡ b
accepted_once text a b accepted also = one_token_list text a b accepted.rule also.rule

pub refused_once : (text : List ℕ) (f g : Fault) → IsRefused text f → IsRefused text g → f ≡ g
refused_once text f g refused also =
    ⊎_elim
    (λ long. ⊎_elim (λ too. long.1 ∙ sym too.1) (λ short. absurd (omega (arith, long.0, short.0))) also)
    (λ short. ⊎_elim (λ long. absurd (omega (arith, long.0, short.0))) (λ too. one_first_fault text f g short.1 too.1) also)
    refused

pub not_accepted_and_refused : (text : List ℕ) (tokens : List Token) (f : Fault) → IsAccepted text tokens → IsRefused text f → ⊥
not_accepted_and_refused text tokens f accepted refused =
    ⊎_elim
    (λ long. let short = accepted.short in omega (arith, short, long.0))
    (λ first. no_fault text tokens f accepted first.1)
    refused
