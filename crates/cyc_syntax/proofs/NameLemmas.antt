-- A text keeps its index when further texts are added to the list of names, and the index determines the text.
use Rattle.std.proofs.Common.{zero, get_or, fold, ⊎_elim, ◌≡◌, ◌≢◌, ℕ, suc, ◌<◌, true, false, Some, List, [], ◌∷◌, ◌++◌, length, slice_get, sym, ap, subst, ◌∙◌, arith}
use Rattle.std.specs.Str.{bytes_eq}
use Rattle.std.proofs.lemmas.Bool.{true≢false, cases_Bool, cond-true, cond-false, cases_lt, or_left, or_right, or_cases, or_parts}
use Rattle.std.proofs.lemmas.Option.{same_Some}
use Rattle.std.proofs.lemmas.List.{get_or_append_left, get_or_push, length_push}
use Rattle.std.proofs.lemmas.Slice.Eq.{bytes_eq-Decides}
use Rattle.cyc_words.proofs.Searches.{position-found, position-append, bytes_eq-itself}
use Rattle.cyc_syntax.specs.Names.{is_among, with_text, distinct_texts, number_of, AreDistinct}

-- Each text of the list has a number, and the list has this text at this number.
pub slice_get-number_of : (texts : List (List ℕ)) (text : List ℕ) → is_among text texts ≡ true → slice_get texts (number_of texts text) ≡ Some text
slice_get-number_of texts text among =
    let found = position-found (bytes_eq text) texts among in
    found.1 ∙ ap (λ x. Some x) (sym ((bytes_eq-Decides text found.0).0 found.2))

-- After a text is added to the list of names, it is in the list.
pub is_among-with_text : (texts : List (List ℕ)) (text : List ℕ) → is_among text (with_text texts text) ≡ true
is_among-with_text texts text =
    ⊎_elim (λ there. ap (is_among text) (cond-true _ _ _ there) ∙ there) (λ new. ap (is_among text) (cond-false _ _ _ new) ∙ last texts) (cases_Bool (is_among text texts))
  where
    last : (xs : List (List ℕ)) → is_among text (xs ++ text ∷ []) ≡ true
    last [] = or_left _ _ (bytes_eq-itself text)
    last (x ∷ xs) = or_right _ _ (last xs)

-- A text in the list of names stays in it when other texts are added.
pub is_among-with_text_other : (texts : List (List ℕ)) (a b : List ℕ) → is_among a texts ≡ true → is_among a (with_text texts b) ≡ true
is_among-with_text_other texts a b among =
    ⊎_elim (λ there. ap (is_among a) (cond-true _ _ _ there) ∙ among) (λ new. ap (is_among a) (cond-false _ _ _ new) ∙ more texts among) (cases_Bool (is_among b texts))
  where
    more : (xs : List (List ℕ)) → is_among a xs ≡ true → is_among a (xs ++ b ∷ []) ≡ true
    more [] any = absurd (true≢false (sym any))
    more (x ∷ xs) any = ⊎_elim (λ here. or_left _ _ here) (λ later. or_right _ _ (more xs later)) (or_cases _ _ any)

pub number_of-with_text : (texts : List (List ℕ)) (a b : List ℕ) → is_among a texts ≡ true → number_of (with_text texts b) a ≡ number_of texts a
number_of-with_text texts a b among =
    ⊎_elim
    (λ there. ap (λ l. number_of l a) (cond-true _ _ _ there))
    (λ new. ap (λ l. number_of l a) (cond-false _ _ _ new) ∙ position-append (bytes_eq a) texts (b ∷ []) among)
    (cases_Bool (is_among b texts))

-- If two texts of the list of names are identified by equal indices, the texts are equal.
pub one_text : (texts : List (List ℕ)) (a b : List ℕ) → is_among a texts ≡ true → is_among b texts ≡ true
    → number_of texts a ≡ number_of texts b → a ≡ b
one_text texts a b has also same =
    same_Some a b (sym (slice_get-number_of texts a has) ∙ ap (slice_get texts) same ∙ slice_get-number_of texts b also)

-- Adding a text to a list of distinct texts keeps the texts distinct.
distinct_met : (texts : List (List ℕ)) (text : List ℕ) → AreDistinct texts → AreDistinct (with_text texts text)
distinct_met texts text distinct =
    ⊎_elim
    (λ there. subst AreDistinct (sym (cond-true _ _ _ there)) distinct)
    (λ new. subst AreDistinct (sym (cond-false _ _ _ new)) (pushed new))
    (cases_Bool (is_among text texts))
  where
    absent : (xs : List (List ℕ)) (i : ℕ) (d : List ℕ) → is_among text xs ≡ false → i < length xs → get_or xs i d ≢ text
    absent [] i d none within = absurd (omega arith)
    absent (x ∷ xs) zero d none within = λ same. true≢false (sym ((bytes_eq-Decides text x).1 (sym same)) ∙ (or_parts _ _ none).0)
    absent (x ∷ xs) (suc i) d none within = absent xs i d (or_parts _ _ none).1 (omega arith)

    pushed : is_among text texts ≡ false → AreDistinct (texts ++ text ∷ [])
    pushed new i j d before within =
        let size = length_push texts text in
        ⊎_elim
        (λ inner. λ same. distinct i j d before inner (sym (get_or_append_left texts (text ∷ []) d i (omega arith)) ∙ same ∙ get_or_append_left texts (text ∷ []) d j inner))
        (λ last. let at : length texts ≡ j = omega arith in λ same. absent texts i d new (omega arith) (sym (get_or_append_left texts (text ∷ []) d i (omega arith)) ∙ same ∙ get_or_push texts text d j at))
        (cases_lt j (length texts))

pub distinct_texts_distinct : (texts : List (List ℕ)) → AreDistinct (distinct_texts texts)
distinct_texts_distinct texts = go [] texts (λ i j d before within. absurd (omega arith))
  where
    go : (seen rest : List (List ℕ)) → AreDistinct seen → AreDistinct (fold with_text seen rest)
    go seen [] distinct = distinct
    go seen (t ∷ rest) distinct = go (with_text seen t) rest (distinct_met seen t distinct)
