-- This file is about one step of the lexer: the part of the text read so far is extended by one token, space or comment.
use Rattle.std.proofs.Common.{◌≡◌, ◌≢◌, ℕ, ◌+◌, ◌-◌, ◌<◌, ◌≤◌, true, false, inl, ⊎_elim, Option, Some, None, List, [], ◌∷◌, ◌++◌, length, get_or, take, drop, map, refl, sym, ap, subst, ◌∙◌, append-nil, arith}
use Rattle.std.specs.Prelude.{All, slice_range}
use Rattle.std.proofs.lemmas.Bool.{cases_lt, cond-true, cond-false}
use Rattle.std.proofs.lemmas.Bool.Decides.{nat_tests}
use Rattle.std.proofs.lemmas.List.{length-drop, length_push, length-map, drop-drop, map_push}
use Rattle.std.proofs.Math.Seq.{take-add}
use Rattle.std.proofs.lemmas.List.Elements.{All-push, All-append, All-cons, All-nil}
use Rattle.cyc_words.specs.declared.span.Span.{Span}
use Rattle.cyc_words.proofs.Lists.{drop_in_two}
use Rattle.cyc_syntax.specs.declared.tokens.Token.{Token as CodeToken}
use Rattle.cyc_syntax.specs.declared.tokens.TokenKind.{TokenKind}
use Rattle.cyc_syntax.specs.Spelling.{is_letter, is_digit, is_space, Piece, Lexeme, Space, Comment, OpenComment, SpellsToken}
use Rattle.cyc_syntax.specs.Tokens.{kind_of, token_of}
use Rattle.cyc_syntax.specs.TokenRule.{IsRead, Part, IsCut, bytes_of, part_tokens, tokens_of, IsSmall, IsWithinLimits, LiesIn, line_after, column_after, max_tokens}
use Rattle.cyc_syntax.proofs.PieceLemmas.{AtSpace, start_of}
use Rattle.cyc_syntax.proofs.CutLemmas.{piece_nonempty, IsCut-push, bytes_of-push, tokens_of-append}
use Rattle.cyc_lex.specs.inside.Found.{IsReadAs, IsFound}
use Rattle.cyc_lex.proofs.ShapeLemmas.{read_at}
use Rattle.cyc_syntax.specs.inside.Place.{IsAfter}

-- A piece (token, space or comment) that was read has at least one byte.
pub found_some : (text : List ℕ) (kind : Option TokenKind) (len : ℕ) → IsFound text kind len → 0 < len
found_some text kind len found =
    ⊎_elim (λ some. some) (λ none. absurd (by kind (subst (λ n. IsReadAs kind (take n text) (drop n text)) (let zero : len ≡ 0 = omega arith in zero) found.piece))) (cases_lt 0 len)
  where
    by : (kind : Option TokenKind) → IsReadAs kind [] text → ⊥
    by None read = ⊎_elim (λ space. piece_nonempty Space space.spelled) (λ comment. piece_nonempty Comment comment.spelled) read
    by (Some k) read = piece_nonempty (Lexeme (kind_of [] k)) read.0.spelled

-- A space at the start of a text is read as a piece of length 1.
pub found_space : (text : List ℕ) → 0 < length text → is_space (get_or text 0 0) ≡ true → IsFound text None 1
found_space [] some space = absurd (omega arith)
found_space (b ∷ bs) some space = record {
  within = omega arith;
  piece = inl (read_at Space AtSpace (b ∷ bs) 1 starts (omega arith) (b, refl, space) (λ front rest whole shape. omega (arith, shape)));
}
  where
    no_letter : is_letter b ≡ false
    no_letter = grind (arith, nat_tests)

    no_digit : is_digit b ≡ false
    no_digit = grind (arith, nat_tests)

    starts : start_of b ≡ AtSpace
    starts = cond-false (is_letter b) _ _ no_letter ∙ cond-false (is_digit b) _ _ no_digit ∙ cond-true (is_space b) _ _ space

-- Says that the text before the index `start` has been read as these tokens, and that `place` is the source position of `start`.
pub record IsReadUpTo (text : List ℕ) (tokens : List CodeToken) (start : ℕ) (place : Span) : Type 0 where
  pub parts : List Part
  pub cut : IsCut parts text (drop start text)
  pub front : bytes_of parts ≡ take start text
  pub views : map (token_of text) tokens ≡ tokens_of [] parts
  pub within : IsWithinLimits (tokens_of [] parts)
  pub lie : All (LiesIn text) tokens
  pub following : IsAfter place (take start text)
  pub inside : start ≤ length text

-- the number of tokens read so far is at most the maximal number of tokens of a text
pub tokens_within : (text : List ℕ) (tokens : List CodeToken) (start : ℕ) (place : Span) → IsReadUpTo text tokens start place → length tokens ≤ max_tokens
tokens_within text tokens start place done =
    let count : length tokens ≡ length (tokens_of [] done.parts) = sym (length-map tokens (token_of text)) ∙ ap length done.views in
    let most = done.within.count in
    omega (arith, count, most)

tokens_push : (ps : List Part) (p : Part) → tokens_of [] (ps ++ p ∷ []) ≡ tokens_of [] ps ++ part_tokens (bytes_of ps) p.piece
tokens_push ps p = tokens_of-append [] ps (p ∷ []) ∙ ap (λ l. tokens_of [] ps ++ l) (append-nil (part_tokens (bytes_of ps) p.piece))

-- The next piece (token, space or comment) of a text. The token that the code makes of a piece, if the piece is a token, is defined next.
abbrev part_at : List ℕ → ℕ → ℕ → Piece → Part
part_at text start len m = record { piece = m; bytes = take len (drop start text) }

abbrev pub token_at : TokenKind → Span → ℕ → ℕ → CodeToken
token_at kind place start end = record { kind = kind; span = place; start = start; end = end }

module _ (text : List ℕ) (tokens : List CodeToken) (start len : ℕ) (place next : Span) (done : IsReadUpTo text tokens start place)
    (fits : len ≤ length (drop start text)) (following : IsAfter next (take start text ++ take len (drop start text))) where
  inside : start + len ≤ length text
  inside = let known = done.inside in omega (arith, fits, length-drop start text, known)

  next_after : IsAfter next (take (start + len) text)
  next_after = subst (IsAfter next) (sym (take-add start len text)) following

  next_cut : (m : Piece) → IsRead m (take len (drop start text)) (drop len (drop start text)) → m ≢ OpenComment
      → IsCut (done.parts ++ part_at text start len m ∷ []) text (drop (start + len) text)
  next_cut m read closed =
      IsCut-push done.parts (part_at text start len m) text (drop (start + len) text)
      (subst (IsCut done.parts text) (drop_in_two text start len) done.cut)
      (subst (IsRead m (take len (drop start text))) (drop-drop len start text) read)
      closed

  next_front : (m : Piece) → bytes_of (done.parts ++ part_at text start len m ∷ []) ≡ take (start + len) text
  next_front m =
      bytes_of-push done.parts (part_at text start len m)
      ∙ ap (λ l. l ++ take len (drop start text)) done.front
      ∙ sym (take-add start len text)

  next_tokens : (m : Piece) → tokens_of [] (done.parts ++ part_at text start len m ∷ []) ≡ tokens_of [] done.parts ++ part_tokens (bytes_of done.parts) m
  next_tokens m = tokens_push done.parts (part_at text start len m)

  -- ---- the next piece is a space or a comment
  blank : (m : Piece) → IsRead m (take len (drop start text)) (drop len (drop start text)) → m ≢ OpenComment → part_tokens (bytes_of done.parts) m ≡ []
      → IsReadUpTo text tokens (start + len) next
  blank m read closed none =
      let same : tokens_of [] done.parts ≡ tokens_of [] (done.parts ++ part_at text start len m ∷ []) =
      sym (next_tokens m ∙ ap (λ l. tokens_of [] done.parts ++ l) none ∙ append-nil (tokens_of [] done.parts)) in
      record {
        parts = done.parts ++ part_at text start len m ∷ [];
        cut = next_cut m read closed;
        front = next_front m;
        views = done.views ∙ same;
        within = subst IsWithinLimits same done.within;
        lie = done.lie;
        following = next_after;
        inside = inside;
      }

  pub blank_read : IsReadAs None (take len (drop start text)) (drop len (drop start text)) → IsReadUpTo text tokens (start + len) next
  blank_read read =
      ⊎_elim (λ space. blank Space space (λ e. cc) refl) (λ comment. blank Comment comment (λ e. cc) refl) read

  -- ---- the next piece is a token
  module _ (kind : TokenKind) (room : length tokens < max_tokens) (some : 0 < len)
      (read : IsReadAs (Some kind) (take len (drop start text)) (drop len (drop start text))) where
    spelling : slice_range text start (start + len) ≡ take len (drop start text)
    spelling = let count : start + len - start ≡ len = omega arith in ap (λ n. take n (drop start text)) count

    view : token_of text (token_at kind place start (start + len)) ∷ [] ≡ part_tokens (bytes_of done.parts) (Lexeme (kind_of (take len (drop start text)) kind))
    view =
        let line = done.following.line ∙ ap line_after (sym done.front) in
        let column = done.following.column ∙ ap column_after (sym done.front) in
        (λ i. record { kind = kind_of (spelling i) kind; line = line i; column = column i } ∷ [])

    lies : LiesIn text (token_at kind place start (start + len))
    lies = record {
      starts = omega arith;
      ends = inside;
      line = done.following.line;
      column = done.following.column;
      spelled = subst (λ l. SpellsToken (kind_of l kind) l) (sym spelling) read.0.spelled;
    }

    pub token_read : IsReadUpTo text (tokens ++ token_at kind place start (start + len) ∷ []) (start + len) next
    token_read =
        let m = Lexeme (kind_of (take len (drop start text)) kind) in
        let views : map (token_of text) (tokens ++ token_at kind place start (start + len) ∷ []) ≡ tokens_of [] (done.parts ++ part_at text start len m ∷ []) =
        map_push (token_of text) tokens (token_at kind place start (start + len)) ∙ (λ i. done.views i ++ view i) ∙ sym (next_tokens m) in
        let count : length (tokens_of [] (done.parts ++ part_at text start len m ∷ [])) ≡ length tokens + 1 =
        ap length (sym views) ∙ length-map _ (token_of text) ∙ length_push tokens (token_at kind place start (start + len)) in
        record {
          parts = done.parts ++ part_at text start len m ∷ [];
          cut = next_cut m read.0 (λ e. cc);
          front = next_front m;
          views = views;
          within = record {
            count = omega (arith, count);
            numbers = subst (All (λ t. IsSmall t.kind)) (sym (next_tokens m)) (All-append (λ t. IsSmall t.kind) (tokens_of [] done.parts) (part_tokens (bytes_of done.parts) m) done.within.numbers (All-cons (λ t. IsSmall t.kind) _ [] read.1 (All-nil (λ t. IsSmall t.kind))));
          };
          lie = All-push (LiesIn text) tokens (token_at kind place start (start + len)) done.lie lies;
          following = next_after;
          inside = inside;
        }
