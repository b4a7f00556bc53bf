-- This file has the invariants of the loops that compute the first slots of locals and the bytes before a field.
use Rattle.std.proofs.Common.{◌≡◌, ℕ, suc, ◌+◌, ◌<◌, ◌≤◌, List, [], ◌∷◌, ◌++◌, length, get_or, drop, sym, ap, ◌∙◌, arith, append_assoc, append-nil}
use Rattle.std.proofs.lemmas.List.{drop_all, drop_more}
use Rattle.cyc_words.specs.Word.{add_of}
use Rattle.cyc_types.specs.declared.ty.Ty.{Ty as TyCode}
use Rattle.cyc_types.specs.Types.{Ty, words_of}
use Rattle.cyc_meaning.specs.Values.{kind_of, bytes_of_kind}
use Rattle.cyc_meaning.specs.FrameCount.{words_of_all}
use Rattle.cyc_lower_proof.specs.inside.Slots.{starts_from, begins_word, field_from}

-- The types that the type codes of the list represent.
module _ (view : List TyCode → List Ty) (one : TyCode → Ty) where
  -- Says that the list computed so far, extended by the first slots of the remaining types, is the complete list. The
  -- first of the remaining types has its slots from `slot` on.
  abbrev pub SlotsLeft : List TyCode → (first i slot : ℕ) → (old starts : List ℕ) → Type 0
  SlotsLeft ts first i slot old starts =
      (slot + words_of_all (view (drop i ts)) ≡ first + words_of_all (view ts)) × (starts ++ starts_from slot (view (drop i ts)) ≡ old ++ starts_from first (view ts))

  module _ (none : view [] ≡ []) (more : (t : TyCode) (ts : List TyCode) → view (t ∷ ts) ≡ one t ∷ view ts) (ts : List TyCode) (first i slot : ℕ) (old starts : List ℕ) (left : SlotsLeft ts first i slot old starts) where
    pub slots_on : (new : List ℕ) (t : TyCode) → i < length ts → t ≡ get_or ts i t → new ≡ starts ++ slot ∷ []
        → (slot + words_of (one t) ≤ first + words_of_all (view ts)) × SlotsLeft ts first (i + 1) (slot + words_of (one t)) old new
    slots_on new t inside at is =
        let rest = drop (i + 1) ts in
        let here : drop i ts ≡ t ∷ rest = drop_more ts i t inside ∙ ap (λ (y : TyCode). y ∷ rest) (sym at) in
        let types : view (drop i ts) ≡ one t ∷ view rest = ap view here ∙ more t rest in
        let words : words_of_all (view (drop i ts)) ≡ words_of (one t) + words_of_all (view rest) = ap words_of_all types in (
          omega (arith, words, left.0),
          (
            omega (arith, words, left.0),
            ap (λ (l : List ℕ). l ++ starts_from (slot + words_of (one t)) (view rest)) is
                ∙ append_assoc starts (slot ∷ []) (starts_from (slot + words_of (one t)) (view rest))
                ∙ ap (λ (us : List Ty). starts ++ starts_from slot us) (sym types)
                ∙ left.1,
          ),
        )

    pub slots_given : length ts ≤ i → (slot ≡ first + words_of_all (view ts)) × (starts ≡ old ++ starts_from first (view ts))
    slots_given done =
        let types : view (drop i ts) ≡ [] = ap view (drop_all i ts done) ∙ none in
        let words : words_of_all (view (drop i ts)) ≡ 0 = ap words_of_all types in (
          omega (arith, words, left.0),
          sym (append-nil starts) ∙ ap (λ (us : List Ty). starts ++ starts_from slot us) (sym types) ∙ left.1,
        )

  -- ---- fields

  -- Says that the bytes counted so far, plus the bytes of the remaining fields that come before the given field,
  -- are all bytes before the given field.
  abbrev pub BytesLeft : List TyCode → (field i bytes left : ℕ) → Type 0
  BytesLeft ts field i bytes left = field_from bytes (view (drop i ts)) left ≡ field_from 0 (view ts) field

  module _ (none : view [] ≡ []) (more : (t : TyCode) (ts : List TyCode) → view (t ∷ ts) ≡ one t ∷ view ts) (ts : List TyCode) (field i bytes left : ℕ) (is : BytesLeft ts field i bytes left) where
    next_field : (t : TyCode) → i < length ts → t ≡ get_or ts i t → view (drop i ts) ≡ one t ∷ view (drop (i + 1) ts)
    next_field t inside at = ap view (drop_more ts i t inside ∙ ap (λ (y : TyCode). y ∷ drop (i + 1) ts) (sym at)) ∙ more t (drop (i + 1) ts)

    pub bytes_on : (begin new after : ℕ) (t : TyCode) → i < length ts → t ≡ get_or ts i t → begin ≡ begins_word (kind_of (one t)) bytes
        → new ≡ add_of begin (bytes_of_kind (kind_of (one t))) → left ≡ suc after → BytesLeft ts field (i + 1) new after
    bytes_on begin new after t inside at begin_is new_is left_is =
        ap (λ (n : ℕ). field_from n (view (drop (i + 1) ts)) after) (new_is ∙ ap (λ (n : ℕ). add_of n (bytes_of_kind (kind_of (one t)))) begin_is)
        ∙ ap (λ (us : List Ty). field_from bytes us (suc after)) (sym (next_field t inside at))
        ∙ ap (field_from bytes (view (drop i ts))) (sym left_is)
        ∙ is

    pub bytes_there : (begin : ℕ) (t : TyCode) → i < length ts → t ≡ get_or ts i t → begin ≡ begins_word (kind_of (one t)) bytes → left ≡ 0
        → begin ≡ field_from 0 (view ts) field
    bytes_there begin t inside at begin_is none_left =
        begin_is ∙ ap (λ (us : List Ty). field_from bytes us 0) (sym (next_field t inside at)) ∙ ap (field_from bytes (view (drop i ts))) (sym none_left) ∙ is

    pub bytes_given : length ts ≤ i → bytes ≡ field_from 0 (view ts) field
    bytes_given done = ap (λ (us : List Ty). field_from bytes us left) (sym (ap view (drop_all i ts done) ∙ none)) ∙ is
