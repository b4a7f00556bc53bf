-- If two tokens have equal spellings, they are equal, except for their positions.
use Rattle.std.proofs.Common.{◌≡◌, ◌∙◌, ◌<◌, ◌+◌, ℕ, List, [], ◌∷◌, ◌++◌, take, drop, get_or, map, length, refl, sym, ap, subst}
use Rattle.std.specs.Prelude.{All}
use Rattle.std.proofs.lemmas.List.{take_more, map-append}
use Rattle.std.proofs.lemmas.List.Elements.{All-head, All-tail}
use Rattle.cyc_syntax.specs.declared.tokens.Token.{Token as CodeToken}
use Rattle.cyc_syntax.specs.Spelling.{Piece, Lexeme, SpellsToken}
use Rattle.cyc_syntax.specs.Tokens.{Kind, kind_of, spelling_of, token_of}
use Rattle.cyc_syntax.specs.TokenRule.{LiesIn}
use Rattle.cyc_syntax.proofs.PieceLemmas.{one_piece}
use Rattle.cyc_format.specs.Formatted.{kinds_of}

-- Returns the token kind of a piece of text if the piece is a token, otherwise the given kind `other`.
kind_in : Kind → Piece → Kind
kind_in other (Lexeme k) = k
kind_in other _ = other

-- Bytes spell tokens of at most one kind.
one_kind : (k m : Kind) (bytes : List ℕ) → SpellsToken k bytes → SpellsToken m bytes → k ≡ m
unfolding kind_in
one_kind k m bytes first second = ap (kind_in k) (one_piece (Lexeme k) (Lexeme m) bytes first second)

head_or : {X : Type 0} → X → List X → X
head_or d [] = d
head_or d (x ∷ xs) = x

module _ (text other : List ℕ) where
  same_kind : (t u : CodeToken) → LiesIn text t → LiesIn other u → spelling_of text t ≡ spelling_of other u
      → kind_of (spelling_of other u) u.kind ≡ kind_of (spelling_of text t) t.kind
  same_kind t u lies also alike =
      one_kind (kind_of (spelling_of other u) u.kind) (kind_of (spelling_of text t) t.kind) (spelling_of other u) also.spelled
      (subst (SpellsToken (kind_of (spelling_of text t) t.kind)) alike lies.spelled)

  -- If the tokens of two texts have equal spellings, they have equal kinds.
  pub same_kinds : (ts us : List CodeToken) → All (LiesIn text) ts → All (LiesIn other) us → map (spelling_of text) ts ≡ map (spelling_of other) us
      → kinds_of (map (token_of other) us) ≡ kinds_of (map (token_of text) ts)
  unfolding head_or
  same_kinds [] [] lie also alike = refl
  same_kinds [] (u ∷ us) lie also alike = absurd (cc)
  same_kinds (t ∷ ts) [] lie also alike = absurd (cc)
  same_kinds (t ∷ ts) (u ∷ us) lie also alike =
      let here = same_kind t u (All-head (LiesIn text) t ts lie) (All-head (LiesIn other) u us also) (ap (head_or []) alike) in
      let rest = same_kinds ts us (All-tail (LiesIn text) t ts lie) (All-tail (LiesIn other) u us also) (ap (drop 1) alike) in
      ap (λ (k : Kind). k ∷ kinds_of (map (token_of other) us)) here ∙ ap (λ (ks : List Kind). kind_of (spelling_of text t) t.kind ∷ ks) rest

-- If the first `i` tokens of two texts have equal spellings, and the next tokens too, then the first `i` + 1 tokens have equal spellings.
pub one_token_more : (text other : List ℕ) (ts us : List CodeToken) (i : ℕ) (d e : CodeToken) → i < length ts → i < length us
    → map (spelling_of text) (take i ts) ≡ map (spelling_of other) (take i us)
    → spelling_of text (get_or ts i d) ≡ spelling_of other (get_or us i e)
    → map (spelling_of text) (take (i + 1) ts) ≡ map (spelling_of other) (take (i + 1) us)
one_token_more text other ts us i d e within also before here =
    ap (map (spelling_of text)) (take_more ts i d within) ∙ map-append (spelling_of text) (take i ts) (get_or ts i d ∷ [])
    ∙ ap (λ (a : List (List ℕ)). a ++ spelling_of text (get_or ts i d) ∷ []) before
    ∙ ap (λ (b : List ℕ). map (spelling_of other) (take i us) ++ b ∷ []) here
    ∙ sym (map-append (spelling_of other) (take i us) (get_or us i e ∷ [])) ∙ sym (ap (map (spelling_of other)) (take_more us i e also))
