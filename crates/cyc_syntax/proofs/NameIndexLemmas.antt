-- The index that maps names to numbers stays correct when texts are added to the list of names.
use Rattle.std.proofs.Common.{Vec, Global, ⊎_elim, ◌≡◌, ℕ, ◌<◌, Bool, true, false, ◌||◌, cond, if◌then◌else◌, Option, Some, None, List, [], ◌∷◌, ◌++◌, length, get_or, slice_get, is_some, refl, sym, ap, subst, ◌∙◌, arith, IfSome}
use Rattle.std.specs.Ordering.{is_eq, nat_cmp}
use Rattle.std.specs.Cmp.{eq_by_cmp_equiv}
use Rattle.std.specs.Cmp.Lexicographic.{slice_cmp, nat_list_cmp_total}
use Rattle.std.specs.BTreeMap.{BTreeMap}
use Rattle.std.specs.BTreeMap as tree
use Rattle.std.specs.Map.{lookup, IsKeyTest, AreApart, KeepsOthers}
use Rattle.std.proofs.lemmas.Map.Text.{is_eq-slice_cmp}
use Rattle.std.specs.Str.{bytes_eq}
use Rattle.std.proofs.lemmas.Bool.{true≢false, cases_Bool, cond-true, cond-false, or_left, or_right}
use Rattle.std.proofs.lemmas.Option.{same_Some}
use Rattle.std.proofs.lemmas.List.{get_or_append_left, get_or_push, length_push}
use Rattle.std.proofs.lemmas.Slice.Eq.{bytes_eq-Decides}
use Rattle.cyc_words.proofs.Numbers.{same_from_nat_cmp, nat_cmp-itself}
use Rattle.cyc_words.proofs.Options.{anything_from_none_is_some, none_from_is_some, some_from_is_some, IfSome-below_more}
use Rattle.cyc_words.proofs.Searches.{any-push, position-none, bytes_eq-apart_turned, position-append, position_push, bytes_eq-itself}
use Rattle.cyc_syntax.specs.Names.{is_among, number_of}
use Rattle.cyc_syntax.specs.inside.NameIndex.{key_of, first_in, other_in, number_if, found_at, IsIndexOf}
use Rattle.cyc_syntax.proofs.NameLemmas.{slice_get-number_of}

is_among-new : (texts : List (List ℕ)) (text : List ℕ) → is_among text (texts ++ text ∷ []) ≡ true
is_among-new texts text = any-push (bytes_eq text) texts text ∙ or_right _ _ (bytes_eq-itself text)

-- A new text gets the next number in the list of names.
pub number_of-new : (texts : List (List ℕ)) (text : List ℕ) → is_among text texts ≡ false → number_of (texts ++ text ∷ []) text ≡ length texts
number_of-new texts text new = position_push (bytes_eq text) texts text new (bytes_eq-itself text) ∙ position-none (bytes_eq text) texts new

-- If a text is new, looking up its number in the extended list yields this text.
pub slice_get-new : (texts : List (List ℕ)) (text : List ℕ) → is_among text texts ≡ false → slice_get (texts ++ text ∷ []) (length texts) ≡ Some text
slice_get-new texts text new =
    ap (slice_get (texts ++ text ∷ [])) (sym (number_of-new texts text new))
    ∙ slice_get-number_of (texts ++ text ∷ []) text (is_among-new texts text)

number_if-new : (texts : List (List ℕ)) (text : List ℕ) → is_among text texts ≡ false → number_if (texts ++ text ∷ []) text ≡ Some (length texts)
number_if-new texts text new = cond-true _ _ _ (is_among-new texts text) ∙ ap (λ n. Some n) (number_of-new texts text new)

-- Adding a text to the list of names does not change the indices that identify other texts.
number_if-other : (texts : List (List ℕ)) (text other : List ℕ) → bytes_eq other text ≡ false → number_if (texts ++ text ∷ []) other ≡ number_if texts other
number_if-other texts text other apart =
    ⊎_elim
    (λ there.
    cond-true _ _ _ (any-push (bytes_eq other) texts text ∙ or_left _ _ there)
    ∙ ap (λ n. Some n) (position-append (bytes_eq other) texts (text ∷ []) there)
    ∙ sym (cond-true _ _ _ there))
    (λ none.
    cond-false _ _ _ (any-push (bytes_eq other) texts text ∙ ap (λ b. b || bytes_eq other text) none ∙ apart)
    ∙ sym (cond-false _ _ _ none))
    (cases_Bool (is_among other texts))

-- Appending a text to the list of names does not change the results of earlier lookups.
found_at-push : (texts : List (List ℕ)) (new : List ℕ) (first other : Option ℕ) (text : List ℕ) → IfSome first (λ n. n < length texts)
    → found_at (texts ++ new ∷ []) first other text ≡ found_at texts first other text
found_at-push texts new None other text within = refl
found_at-push texts new (Some n) other text within =
    ap (λ t. if bytes_eq t text then Some n else other) (get_or_append_left texts (new ∷ []) [] n within)

-- If the keys computed from two texts differ, the texts differ.
apart_by_keys : (text t : List ℕ) → is_eq (nat_cmp (key_of text) (key_of t)) ≡ false → bytes_eq t text ≡ false
apart_by_keys text t differs =
    ⊎_elim
    (λ same. absurd (true≢false (sym (nat_cmp-itself (key_of text)) ∙ ap (λ x. is_eq (nat_cmp (key_of text) (key_of x))) (sym ((bytes_eq-Decides t text).0 same)) ∙ differs)))
    (λ apart. apart)
    (cases_Bool (bytes_eq t text))

module _ (texts : List (List ℕ)) (text : List ℕ) (first : ℕ → Option ℕ) (other : List ℕ → Option ℕ)
    (index : IsIndexOf texts first other) (new : is_among text texts ≡ false) where
  -- ---- adding a text whose key is new
  pub first_added : (firsts : ℕ → Option ℕ) → first (key_of text) ≡ None
      → ((key : ℕ) → firsts key ≡ cond (is_eq (nat_cmp (key_of text) key)) (Some (length texts)) (first key)) → IsIndexOf (texts ++ text ∷ []) firsts other
  first_added firsts none added = record { within = within; apart = apart; found = found }
    where
      on : (key : ℕ) → is_eq (nat_cmp (key_of text) key) ≡ true → firsts key ≡ Some (length texts)
      on key same = added key ∙ cond-true _ _ _ same

      off : (key : ℕ) → is_eq (nat_cmp (key_of text) key) ≡ false → firsts key ≡ first key
      off key differs = added key ∙ cond-false _ _ _ differs

      within : (key : ℕ) → IfSome (firsts key) (λ n. n < length (texts ++ text ∷ []))
      within key =
          ⊎_elim
          (λ same. rw (on key same) (omega (arith, length_push texts text)))
          (λ differs. rw (off key differs) (IfSome-below_more texts text (first key) (index.within key)))
          (cases_Bool (is_eq (nat_cmp (key_of text) key)))

      apart : (t : List ℕ) → firsts (key_of t) ≡ None → other t ≡ None
      apart t missing =
          ⊎_elim
          (λ same. anything_from_none_is_some (length texts) (sym missing ∙ on (key_of t) same) (other t ≡ None))
          (λ differs. index.apart t (sym (off (key_of t) differs) ∙ missing))
          (cases_Bool (is_eq (nat_cmp (key_of text) (key_of t))))

      -- If the key of a new text is not stored yet, no lookup with this key finds a number before the new text is added.
      unknown : (t : List ℕ) → is_eq (nat_cmp (key_of text) (key_of t)) ≡ true → first (key_of t) ≡ None
      unknown t same = ap first (sym (same_from_nat_cmp _ _ same)) ∙ none

      at_new : (t : List ℕ) → is_eq (nat_cmp (key_of text) (key_of t)) ≡ true
          → found_at (texts ++ text ∷ []) (firsts (key_of t)) (other t) t ≡ cond (bytes_eq text t) (Some (length texts)) None
      at_new t same =
          ap (λ o. found_at (texts ++ text ∷ []) o (other t) t) (on (key_of t) same)
          ∙ ap (λ x. cond (bytes_eq x t) (Some (length texts)) (other t)) (get_or_push texts text [] (length texts) refl)
          ∙ ap (λ o. cond (bytes_eq text t) (Some (length texts)) o) (index.apart t (unknown t same))

      number_at_new : (t : List ℕ) → is_eq (nat_cmp (key_of text) (key_of t)) ≡ true → number_if (texts ++ text ∷ []) t ≡ cond (bytes_eq text t) (Some (length texts)) None
      number_at_new t same =
          ⊎_elim
          (λ is. subst (λ x. number_if (texts ++ text ∷ []) x ≡ Some (length texts)) ((bytes_eq-Decides text t).0 is) (number_if-new texts text new) ∙ sym (cond-true _ _ _ is))
          (λ is_not.
          number_if-other texts text t (bytes_eq-apart_turned text t is_not)
          ∙ sym (index.found t)
          ∙ ap (λ o. found_at texts o (other t) t) (unknown t same)
          ∙ sym (cond-false _ _ _ is_not))
          (cases_Bool (bytes_eq text t))

      found : (t : List ℕ) → found_at (texts ++ text ∷ []) (firsts (key_of t)) (other t) t ≡ number_if (texts ++ text ∷ []) t
      found t =
          ⊎_elim
          (λ same. at_new t same ∙ sym (number_at_new t same))
          (λ differs.
          ap (λ o. found_at (texts ++ text ∷ []) o (other t) t) (off (key_of t) differs)
          ∙ found_at-push texts text (first (key_of t)) (other t) t (index.within (key_of t))
          ∙ index.found t
          ∙ sym (number_if-other texts text t (apart_by_keys text t differs)))
          (cases_Bool (is_eq (nat_cmp (key_of text) (key_of t))))

  -- ---- adding a text whose key another text has
  pub other_added : (others : List ℕ → Option ℕ) (number : ℕ) → first (key_of text) ≡ Some number
      → ((t : List ℕ) → others t ≡ cond (bytes_eq text t) (Some (length texts)) (other t)) → IsIndexOf (texts ++ text ∷ []) first others
  other_added others number taken added = record { within = within; apart = apart; found = found }
    where
      within : (key : ℕ) → IfSome (first key) (λ n. n < length (texts ++ text ∷ []))
      within key = IfSome-below_more texts text (first key) (index.within key)

      off : (t : List ℕ) → bytes_eq text t ≡ false → others t ≡ other t
      off t is_not = added t ∙ cond-false _ _ _ is_not

      apart : (t : List ℕ) → first (key_of t) ≡ None → others t ≡ None
      apart t missing =
          ⊎_elim
          (λ is. anything_from_none_is_some number (sym missing ∙ ap (λ x. first (key_of x)) (sym ((bytes_eq-Decides text t).0 is)) ∙ taken) (others t ≡ None))
          (λ is_not. off t is_not ∙ index.apart t missing)
          (cases_Bool (bytes_eq text t))

      -- If the key of the new text was stored already, the first text with this key is a different text.
      is_other : bytes_eq (get_or texts number []) text ≡ false
      is_other =
          ⊎_elim
          (λ is. anything_from_none_is_some number
          (sym (cond-false _ _ _ new) ∙ sym (index.found text) ∙ ap (λ o. found_at texts o (other text) text) taken ∙ cond-true _ _ _ is)
          (bytes_eq (get_or texts number []) text ≡ false))
          (λ is_not. is_not)
          (cases_Bool (bytes_eq (get_or texts number []) text))

      found_new : found_at (texts ++ text ∷ []) (first (key_of text)) (others text) text ≡ number_if (texts ++ text ∷ []) text
      found_new =
          found_at-push texts text (first (key_of text)) (others text) text (index.within (key_of text))
          ∙ ap (λ o. found_at texts o (others text) text) taken
          ∙ cond-false _ _ _ is_other
          ∙ added text
          ∙ cond-true _ _ _ (bytes_eq-itself text)
          ∙ sym (number_if-new texts text new)

      found : (t : List ℕ) → found_at (texts ++ text ∷ []) (first (key_of t)) (others t) t ≡ number_if (texts ++ text ∷ []) t
      found t =
          ⊎_elim
          (λ is. subst (λ x. found_at (texts ++ text ∷ []) (first (key_of x)) (others x) x ≡ number_if (texts ++ text ∷ []) x) ((bytes_eq-Decides text t).0 is) found_new)
          (λ is_not.
          found_at-push texts text (first (key_of t)) (others t) t (index.within (key_of t))
          ∙ ap (λ o. found_at texts (first (key_of t)) o t) (off t is_not)
          ∙ index.found t
          ∙ sym (number_if-other texts text t (bytes_eq-apart_turned text t is_not)))
          (cases_Bool (bytes_eq text t))

-- After an insertion into the map of keys, a lookup finds the inserted number for the inserted key and the old result for every other key.
pub firsts_after : (m n : BTreeMap ℕ ℕ) (key number : ℕ) → tree.Updates nat_cmp m n key (Some number)
    → (k : ℕ) → first_in n k ≡ cond (is_eq (nat_cmp key k)) (Some number) (first_in m k)
firsts_after m n key number updates k = updates.0 k

-- An update at one key leaves the entries of all other keys unchanged.
others_kept : {X : Type 0} (eq : X → X → Bool) (test : X → Bool) (old new : List (X × ℕ)) → KeepsOthers eq test old new
    → (query : X → Bool) → IsKeyTest eq query → AreApart test query → lookup query new ≡ lookup query old
unfolding KeepsOthers
others_kept eq test old new keeps = keeps

-- The map of other texts holds texts whose key an earlier text has. After an insertion into the map of other texts, a lookup finds the
-- inserted number for the inserted text and the old result for every other text.
pub others_after : (m n : BTreeMap (Vec ℕ Global) ℕ) (v : Vec ℕ Global) (number : ℕ) → tree.Updates (λ x y. slice_cmp nat_cmp x.items y.items) m n v (Some number)
    → (t : List ℕ) → other_in n t ≡ cond (bytes_eq v.items t) (Some number) (other_in m t)
others_after m n v number updates t =
    ⊎_elim
    (λ is. subst (λ x. other_in n x ≡ Some number) ((bytes_eq-Decides v.items t).0 is) updates.1 ∙ sym (cond-true _ _ _ is))
    (λ is_not. others_kept _ _ _ _ updates.3 _ (λ x y. (eq_by_cmp_equiv nat_list_cmp_total).congr t x.items y.items) (λ k. off k is_not) ∙ sym (cond-false _ _ _ is_not))
    (cases_Bool (bytes_eq v.items t))
  where
    off : (k : Vec ℕ Global) → bytes_eq v.items t ≡ false → is_eq (slice_cmp nat_cmp v.items k.items) ≡ true → is_eq (slice_cmp nat_cmp t k.items) ≡ false
    off k is_not here =
        is_eq-slice_cmp t k.items
        ∙ ap (bytes_eq t) (sym ((bytes_eq-Decides v.items k.items).0 (sym (is_eq-slice_cmp v.items k.items) ∙ here)))
        ∙ bytes_eq-apart_turned v.items t is_not

-- The index of names stays correct when a text is added, whether this text's key is new or an earlier text has the same key.
module _ (texts : List (List ℕ)) (text : List ℕ) (firsts : BTreeMap ℕ ℕ) (others : BTreeMap (Vec ℕ Global) ℕ)
    (index : IsIndexOf texts (first_in firsts) (other_in others)) (new : is_among text texts ≡ false)
    (key number : ℕ) (is_key : key ≡ key_of text) (is_number : number ≡ length texts) where
  pub by_first : (after : BTreeMap ℕ ℕ) → is_some (first_in firsts key) ≡ false → tree.Updates nat_cmp firsts after key (Some number)
      → IsIndexOf (texts ++ text ∷ []) (first_in after) (other_in others)
  by_first after missing updates =
      first_added texts text (first_in firsts) (other_in others) index new (first_in after)
      (ap (first_in firsts) (sym is_key) ∙ none_from_is_some (first_in firsts key) missing)
      (λ k. firsts_after firsts after key number updates k
      ∙ ap (λ x. cond (is_eq (nat_cmp x k)) (Some number) (first_in firsts k)) is_key
      ∙ ap (λ n. cond (is_eq (nat_cmp (key_of text) k)) (Some n) (first_in firsts k)) is_number)

  pub by_other : (after : BTreeMap (Vec ℕ Global) ℕ) (owned : Vec ℕ Global) → owned.items ≡ text → is_some (first_in firsts key) ≡ true
      → tree.Updates (λ x y. slice_cmp nat_cmp x.items y.items) others after owned (Some number)
      → IsIndexOf (texts ++ text ∷ []) (first_in firsts) (other_in after)
  by_other after owned is there updates =
      let taken = some_from_is_some (first_in firsts key) there in
      other_added texts text (first_in firsts) (other_in others) index new (other_in after) taken.0
      (ap (first_in firsts) (sym is_key) ∙ taken.1)
      (λ t. others_after others after owned number updates t
      ∙ ap (λ x. cond (bytes_eq x t) (Some number) (other_in others t)) is
      ∙ ap (λ n. cond (bytes_eq text t) (Some n) (other_in others t)) is_number)

-- If a lookup finds a number for a text, the text is in the list, at this number.
pub has_number : (texts : List (List ℕ)) (text : List ℕ) (number : ℕ) → Some number ≡ number_if texts text → (is_among text texts ≡ true) × (number ≡ number_of texts text)
has_number texts text number has =
    ⊎_elim
    (λ there. (there, same_Some _ _ (has ∙ cond-true _ _ _ there)))
    (λ new. anything_from_none_is_some number (sym (cond-false _ _ _ new) ∙ sym has) _)
    (cases_Bool (is_among text texts))

-- If a lookup finds no number for a text, the text is not in the list.
pub has_no_number : (texts : List (List ℕ)) (text : List ℕ) → None ≡ number_if texts text → is_among text texts ≡ false
has_no_number texts text has_none =
    ⊎_elim
    (λ there. anything_from_none_is_some (number_of texts text) (has_none ∙ cond-true _ _ _ there) _)
    (λ new. new)
    (cases_Bool (is_among text texts))
