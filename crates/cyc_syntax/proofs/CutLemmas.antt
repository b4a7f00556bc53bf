-- A cut divides a text into its longest pieces (tokens, spaces and comments) and a rest. A text has at most one cut without a rest, and
-- a cut can be extended by the next piece of the rest.
use Rattle.std.proofs.Common.{◌≡◌, ◌≢◌, ℕ, ◌⊎◌, inl, inr, ⊎_elim, List, [], ◌∷◌, ◌++◌, refl, sym, ap, subst, ◌∙◌, append_assoc, append-nil, arith}
use Rattle.cyc_words.proofs.Lists.{same_fronts}
use Rattle.cyc_syntax.specs.Tokens.{Token}
use Rattle.cyc_syntax.specs.Spelling.{Piece, OpenComment, Spells}
use Rattle.cyc_syntax.specs.TokenRule.{IsRead, Part, IsCut, bytes_of, part_tokens, tokens_of, HasTokens}
use Rattle.cyc_syntax.proofs.PieceLemmas.{piece_starts, one_piece}

-- Every piece (token, space or comment) has at least one byte.
pub piece_nonempty : (m : Piece) → Spells m [] → ⊥
piece_nonempty m spelled = piece_starts m [] spelled

-- At one position of a text at most one token, space or comment can be read, with only one byte string.
pub one_part : (p q : Part) (after other : List ℕ) → p.bytes ++ after ≡ q.bytes ++ other
    → IsRead p.piece p.bytes after → IsRead q.piece q.bytes other → (p ≡ q) × (after ≡ other)
one_part p q after other e read also =
    let within = read.longest q.piece q.bytes other e also.spelled in
    let without = also.longest p.piece p.bytes after (sym e) read.spelled in
    let bytes = same_fronts p.bytes q.bytes after other (omega arith) e in
    let piece = one_piece p.piece q.piece q.bytes (subst (Spells p.piece) bytes.0 read.spelled) also.spelled in
    ((λ i. record { piece = piece i; bytes = bytes.0 i }), bytes.1)

-- `GoesOn` says that the list `qs` of tokens, spaces and comments extends the list `ps`: the elements of `qs` after
-- those of `ps` divide the text that remains after `ps`.
abbrev pub GoesOn : List Part → List Part → List ℕ → List ℕ → Type 0
GoesOn ps qs r s = (more : List Part) × (qs ≡ ps ++ more) × IsCut more r s

-- Of two cuts of one text into its longest pieces, one extends the other.
pub cuts_meet : (ps qs : List Part) (text r s : List ℕ) → IsCut ps text r → IsCut qs text s → GoesOn ps qs r s ⊎ GoesOn qs ps s r
cuts_meet [] qs text r s cut also = inl (qs, refl, subst (λ l. IsCut qs l s) cut also)
cuts_meet (p ∷ ps) [] text r s cut also = inr (p ∷ ps, refl, subst (λ l. IsCut (p ∷ ps) l r) also cut)
cuts_meet (p ∷ ps) (q ∷ qs) text r s cut also =
    let same = one_part p q cut.0 also.0 (sym cut.1 ∙ also.1) cut.2 also.2 in
    ⊎_elim
    (λ x. inl (x.0, (λ i. sym same.0 i ∷ x.1 i), x.2))
    (λ x. inr (x.0, (λ i. same.0 i ∷ x.1 i), x.2))
    (cuts_meet ps qs cut.0 r s cut.4 (subst (λ l. IsCut qs l s) (sym same.1) also.4))

-- A cut (division into tokens, spaces and comments) that has reached the end of the text cannot be extended by any
-- further token, space or comment.
pub no_more : (more : List Part) (s : List ℕ) → IsCut more [] s → more ≡ []
no_more [] s cut = refl
no_more (p ∷ ps) s cut = absurd (none p.bytes cut.1 cut.2.spelled)
  where
    none : (bytes : List ℕ) → [] ≡ bytes ++ cut.0 → Spells p.piece bytes → ⊥
    none [] e spelled = piece_nonempty p.piece spelled
    none (b ∷ bs) e spelled = cc

pub one_cut : (ps qs : List Part) (text : List ℕ) → IsCut ps text [] → IsCut qs text [] → ps ≡ qs
one_cut ps qs text cut also =
    ⊎_elim
    (λ x. sym (x.1 ∙ ap (λ l. ps ++ l) (no_more x.0 [] x.2) ∙ append-nil ps))
    (λ x. x.1 ∙ ap (λ l. qs ++ l) (no_more x.0 [] x.2) ∙ append-nil qs)
    (cuts_meet ps qs text [] [] cut also)

-- Each text has at most one list of tokens.
pub one_token_list : (text : List ℕ) (a b : List Token) → HasTokens text a → HasTokens text b → a ≡ b
one_token_list text a b has also = sym has.2 ∙ ap (tokens_of []) (one_cut has.0 also.0 text has.1 also.1) ∙ also.2

-- If a cut of a text into tokens, spaces and comments is extended by the next token, space or comment of
-- the text, the result is again a cut.
pub IsCut-push : (ps : List Part) (p : Part) (text after : List ℕ) → IsCut ps text (p.bytes ++ after)
    → IsRead p.piece p.bytes after → p.piece ≢ OpenComment → IsCut (ps ++ p ∷ []) text after
IsCut-push [] p text after cut read closed = (after, cut, read, closed, refl)
IsCut-push (q ∷ ps) p text after cut read closed =
    (cut.0, cut.1, cut.2, cut.3, IsCut-push ps p cut.0 after cut.4 read closed)

pub bytes_of-push : (ps : List Part) (p : Part) → bytes_of (ps ++ p ∷ []) ≡ bytes_of ps ++ p.bytes
bytes_of-push [] p = append-nil p.bytes
bytes_of-push (q ∷ ps) p = ap (λ l. q.bytes ++ l) (bytes_of-push ps p) ∙ sym (append_assoc q.bytes (bytes_of ps) p.bytes)

pub tokens_of-append : (front : List ℕ) (ps qs : List Part)
    → tokens_of front (ps ++ qs) ≡ tokens_of front ps ++ tokens_of (front ++ bytes_of ps) qs
tokens_of-append front [] qs = ap (λ l. tokens_of l qs) (sym (append-nil front))
tokens_of-append front (p ∷ ps) qs =
    ap (λ l. part_tokens front p.piece ++ l) (tokens_of-append (front ++ p.bytes) ps qs)
    ∙ sym (append_assoc (part_tokens front p.piece) (tokens_of (front ++ p.bytes) ps) _)
    ∙ ap (λ l. (part_tokens front p.piece ++ tokens_of (front ++ p.bytes) ps) ++ tokens_of l qs) (append_assoc front p.bytes (bytes_of ps))
