-- Each token of a text becomes one symbol, in order; a name keeps the number that identifies it when more names are added.
use Rattle.std.proofs.Common.{◌≡◌, ℕ, ◌+◌, ◌<◌, true, List, [], ◌∷◌, ◌++◌, length, map, take, get_or, fold, refl, sym, ap, subst, ◌∙◌}
use Rattle.std.proofs.lemmas.List.{take_more, map-append}
use Rattle.std.proofs.lemmas.List.Sums.{fold-append}
use Rattle.cyc_syntax.specs.declared.tokens.Token.{Token as CodeToken}
use Rattle.cyc_syntax.specs.Names.{is_among, with_text, number_of}
use Rattle.cyc_syntax.specs.Tokens.{Kind, Token}
use Rattle.cyc_syntax.specs.Tokens as kinds
use Rattle.cyc_syntax.specs.Symbols.{Symbol, Terminal, Identifier, RegionName, name_texts, texts_in, terminal_of, symbol_of}
use Rattle.cyc_syntax.proofs.NameLemmas.{is_among-with_text, is_among-with_text_other, number_of-with_text}
use Rattle.cyc_parse.specs.declared.symbol.Symbol.{Symbol as SymbolCode}
use Rattle.cyc_parse.specs.inside.Code.{view_symbol}

-- Says that the text of a token's name is among the given texts.
IsKnown : List (List ℕ) → Kind → Type 0
IsKnown texts (kinds.Identifier text) = is_among text texts ≡ true
IsKnown texts (kinds.RegionName text) = is_among text texts ≡ true
IsKnown texts (kinds.Number n) = Unit {0}
IsKnown texts (kinds.Character c) = Unit {0}
IsKnown texts (kinds.Word k) = Unit {0}
IsKnown texts (kinds.Mark s) = Unit {0}

AreKnown : List (List ℕ) → List Token → Type 0
AreKnown texts [] = Unit {0}
AreKnown texts (t ∷ ts) = IsKnown texts t.kind × AreKnown texts ts

stays_among : (texts more : List (List ℕ)) (a : List ℕ) → is_among a texts ≡ true → is_among a (fold with_text texts more) ≡ true
stays_among texts [] a among = among
stays_among texts (b ∷ more) a among = stays_among (with_text texts b) more a (is_among-with_text_other texts a b among)

-- If all name texts of a token list are in a given list, then so are the texts of its first token and of the remaining tokens.
known_kind : (seen : List (List ℕ)) (ts : List Token) (k : Kind) → ((s : List (List ℕ)) → AreKnown (fold with_text s (texts_in ts)) ts)
    → IsKnown (fold with_text seen (name_texts k (texts_in ts))) k × AreKnown (fold with_text seen (name_texts k (texts_in ts))) ts
unfolding IsKnown
known_kind seen ts (kinds.Identifier text) rest = (stays_among (with_text seen text) (texts_in ts) text (is_among-with_text seen text), rest (with_text seen text))
known_kind seen ts (kinds.RegionName text) rest = (stays_among (with_text seen text) (texts_in ts) text (is_among-with_text seen text), rest (with_text seen text))
known_kind seen ts (kinds.Number n) rest = (tt, rest seen)
known_kind seen ts (kinds.Character c) rest = (tt, rest seen)
known_kind seen ts (kinds.Word k) rest = (tt, rest seen)
known_kind seen ts (kinds.Mark s) rest = (tt, rest seen)

-- The name texts of tokens are among the texts collected from the tokens.
are_known : (seen : List (List ℕ)) (tokens : List Token) → AreKnown (fold with_text seen (texts_in tokens)) tokens
unfolding AreKnown
are_known seen [] = tt
are_known seen (t ∷ ts) = known_kind seen ts t.kind (λ s. are_known s ts)

-- The index of a text in a list of distinct texts does not change when more texts are added to the list.
same_number : (texts more : List (List ℕ)) (a : List ℕ) → is_among a texts ≡ true → number_of (fold with_text texts more) a ≡ number_of texts a
same_number texts [] a among = refl
same_number texts (b ∷ more) a among = same_number (with_text texts b) more a (is_among-with_text_other texts a b among) ∙ number_of-with_text texts a b among

same_terminal : (texts more : List (List ℕ)) (k : Kind) → IsKnown texts k → terminal_of (fold with_text texts more) k ≡ terminal_of texts k
unfolding IsKnown
same_terminal texts more (kinds.Identifier text) known = ap Identifier (same_number texts more text known)
same_terminal texts more (kinds.RegionName text) known = ap RegionName (same_number texts more text known)
same_terminal texts more (kinds.Number n) known = refl
same_terminal texts more (kinds.Character c) known = refl
same_terminal texts more (kinds.Word k) known = refl
same_terminal texts more (kinds.Mark s) known = refl

same_symbols : (texts more : List (List ℕ)) (tokens : List Token) → AreKnown texts tokens → map (symbol_of (fold with_text texts more)) tokens ≡ map (symbol_of texts) tokens
unfolding AreKnown
same_symbols texts more [] known = refl
same_symbols texts more (t ∷ ts) (here, known) =
    ap (λ (a : Terminal). record { terminal = a; place = record { line = t.line; column = t.column } } ∷ map (symbol_of (fold with_text texts more)) ts) (same_terminal texts more t.kind here)
    ∙ ap (λ (ss : List Symbol). symbol_of texts t ∷ ss) (same_symbols texts more ts known)

name_texts-append : (k : Kind) (xs ys : List (List ℕ)) → name_texts k (xs ++ ys) ≡ name_texts k xs ++ ys
name_texts-append (kinds.Identifier text) xs ys = refl
name_texts-append (kinds.RegionName text) xs ys = refl
name_texts-append (kinds.Number n) xs ys = refl
name_texts-append (kinds.Character c) xs ys = refl
name_texts-append (kinds.Word k) xs ys = refl
name_texts-append (kinds.Mark s) xs ys = refl

texts_in-append : (xs ys : List Token) → texts_in (xs ++ ys) ≡ texts_in xs ++ texts_in ys
texts_in-append [] ys = refl
texts_in-append (x ∷ xs) ys = ap (name_texts x.kind) (texts_in-append xs ys) ∙ name_texts-append x.kind (texts_in xs) (texts_in ys)

-- The next token's text is added to the list of distinct texts: `names` are the texts met before the token, and
-- `more` also contains the token's text.
module _ (f : CodeToken → Token) (seen : List (List ℕ)) (tokens : List CodeToken) (i : ℕ) (d : CodeToken) (within : i < length tokens) where
  one_more : map f (take (i + 1) tokens) ≡ map f (take i tokens) ++ f (get_or tokens i d) ∷ []
  one_more = ap (map f) (take_more tokens i d within) ∙ map-append f (take i tokens) (get_or tokens i d ∷ [])

  pub names_more : (names more : List (List ℕ)) → names ≡ fold with_text seen (texts_in (map f (take i tokens)))
      → more ≡ fold with_text names (texts_in (f (get_or tokens i d) ∷ [])) → more ≡ fold with_text seen (texts_in (map f (take (i + 1) tokens)))
  names_more names more met is =
      is
      ∙ ap (λ (ns : List (List ℕ)). fold with_text ns (texts_in (f (get_or tokens i d) ∷ []))) met
      ∙ sym (fold-append with_text seen (texts_in (map f (take i tokens))) (texts_in (f (get_or tokens i d) ∷ [])))
      ∙ ap (fold with_text seen) (sym (texts_in-append (map f (take i tokens)) (f (get_or tokens i d) ∷ [])))
      ∙ ap (λ (ts : List Token). fold with_text seen (texts_in ts)) (sym one_more)

  pub symbols_more : (names more : List (List ℕ)) (symbols : List SymbolCode) (s : SymbolCode) → names ≡ fold with_text seen (texts_in (map f (take i tokens)))
      → more ≡ fold with_text names (texts_in (f (get_or tokens i d) ∷ []))
      → map view_symbol symbols ≡ map (symbol_of names) (map f (take i tokens)) → view_symbol s ≡ symbol_of more (f (get_or tokens i d))
      → map view_symbol (symbols ++ s ∷ []) ≡ map (symbol_of more) (map f (take (i + 1) tokens))
  symbols_more names more symbols s met is before here =
      let known : AreKnown names (map f (take i tokens)) = subst (λ (ns : List (List ℕ)). AreKnown ns (map f (take i tokens))) (sym met) (are_known seen (map f (take i tokens))) in
      let kept : map (symbol_of more) (map f (take i tokens)) ≡ map (symbol_of names) (map f (take i tokens)) =
      ap (λ (ns : List (List ℕ)). map (symbol_of ns) (map f (take i tokens))) is ∙ same_symbols names (texts_in (f (get_or tokens i d) ∷ [])) (map f (take i tokens)) known in
      map-append view_symbol symbols (s ∷ [])
      ∙ ap (λ (ss : List Symbol). ss ++ view_symbol s ∷ []) (before ∙ sym kept)
      ∙ ap (λ (t : Symbol). map (symbol_of more) (map f (take i tokens)) ++ t ∷ []) here
      ∙ sym (map-append (symbol_of more) (map f (take i tokens)) (f (get_or tokens i d) ∷ []))
      ∙ ap (map (symbol_of more)) (sym one_more)
