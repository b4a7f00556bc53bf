-- This file is about lists that are indexed by key: lookups after an element is appended, changed or removed.
use Rattle.std.proofs.Common.{◌≡◌, ℕ, List, [], ◌∷◌, ◌++◌, None, Some, refl, sym, ap, subst, ◌∙◌, inl, inr}
use Rattle.std.specs.Prelude.{◌==◌, ◌⊎◌, if◌then◌else◌}
use Rattle.std.proofs.lemmas.Bool.{cases_eq, cond-false, ne_eqb}
use Rattle.cyc_words.proofs.Numbers.{when_equal}
use Rattle.cyc_words.proofs.Options.{never_none_and_some, same_from_some}
use Rattle.cyc_store.specs.State.{lookup, without, changed, AreDistinct}

pub when_other : {A : Type 0} (m n : ℕ) (x y : A) → (m ≡ n → ⊥) → (if m == n then x else y) ≡ y
when_other m n x y other = cond-false (m == n) x y (ne_eqb m n other)

-- Says that the first list is the second list with some elements removed.
pub data IsPart {A : Type 0} : List A → List A → Type 0 where
  is_empty : IsPart [] []
  is_left : {x : A} {xs ys : List A} → IsPart xs ys → IsPart xs (x ∷ ys)
  is_kept : {x : A} {xs ys : List A} → IsPart xs ys → IsPart (x ∷ xs) (x ∷ ys)

module _ {A : Type 0} (key : A → ℕ) where
  -- ---- one more element in front

  pub lookup-here : (x : A) (xs : List A) (n : ℕ) → key x ≡ n → lookup key (x ∷ xs) n ≡ Some x
  lookup-here x xs n same = when_equal (key x) n (Some x) (lookup key xs n) same

  pub lookup-there : (x : A) (xs : List A) (n : ℕ) → (key x ≡ n → ⊥) → lookup key (x ∷ xs) n ≡ lookup key xs n
  lookup-there x xs n other = when_other (key x) n (Some x) (lookup key xs n) other

  -- If a key is not found in a list, then it is not the key of the first element, and it is not found in the remaining elements.
  pub lookup-none : (x : A) (xs : List A) (n : ℕ) → lookup key (x ∷ xs) n ≡ None → (key x ≡ n → ⊥) × (lookup key xs n ≡ None)
  lookup-none x xs n none = (other, sym (lookup-there x xs n other) ∙ none)
    where
      other : key x ≡ n → ⊥
      other same = never_none_and_some none (lookup-here x xs n same)

  pub lookup-key : (xs : List A) (n : ℕ) (x : A) → lookup key xs n ≡ Some x → key x ≡ n
  lookup-key [] n x found = absurd (let e : None ≡ Some x = found in cc)
  lookup-key (a ∷ xs) n x found = elim (cases_eq (key a) n) [
    | inl same ↦ ap key (same_from_some (sym found ∙ lookup-here a xs n same)) ∙ same
    | inr other ↦ lookup-key xs n x (sym (lookup-there a xs n other) ∙ found)
  ]

  -- ---- appending an element

  pub lookup-append : (xs ys : List A) (n : ℕ) (x : A) → lookup key xs n ≡ Some x → lookup key (xs ++ ys) n ≡ Some x
  lookup-append [] ys n x found = absurd (let e : None ≡ Some x = found in cc)
  lookup-append (a ∷ xs) ys n x found = elim (cases_eq (key a) n) [
    | inl same ↦ lookup-here a (xs ++ ys) n same ∙ (sym (lookup-here a xs n same) ∙ found)
    | inr other ↦ lookup-there a (xs ++ ys) n other ∙ lookup-append xs ys n x (sym (lookup-there a xs n other) ∙ found)
  ]

  pub lookup-append_none : (xs : List A) (y : A) (n : ℕ) → lookup key xs n ≡ None → (key y ≡ n → ⊥) → lookup key (xs ++ y ∷ []) n ≡ None
  lookup-append_none [] y n none other = lookup-there y [] n other
  lookup-append_none (a ∷ xs) y n none other =
      let (away, rest) = lookup-none a xs n none in
      lookup-there a (xs ++ y ∷ []) n away ∙ lookup-append_none xs y n rest other

  -- An element that is found after an append was found before, or is the appended element.
  pub lookup-append_cases : (xs : List A) (y : A) (n : ℕ) (x : A) → lookup key (xs ++ y ∷ []) n ≡ Some x → (lookup key xs n ≡ Some x) ⊎ (x ≡ y)
  lookup-append_cases [] y n x found = elim (cases_eq (key y) n) [
    | inl same ↦ inr (same_from_some (sym found ∙ lookup-here y [] n same))
    | inr other ↦ absurd (never_none_and_some (lookup-there y [] n other) found)
  ]
  lookup-append_cases (a ∷ xs) y n x found = elim (cases_eq (key a) n) [
    | inl same ↦ inl (lookup-here a xs n same ∙ (sym (lookup-here a (xs ++ y ∷ []) n same) ∙ found))
    | inr other ↦ elim (lookup-append_cases xs y n x (sym (lookup-there a (xs ++ y ∷ []) n other) ∙ found)) [
      | inl there ↦ inl (lookup-there a xs n other ∙ there)
      | inr new ↦ inr new
    ]
  ]

  pub lookup-append_new : (xs : List A) (y : A) (n : ℕ) → lookup key xs n ≡ None → key y ≡ n → lookup key (xs ++ y ∷ []) n ≡ Some y
  lookup-append_new [] y n none same = lookup-here y [] n same
  lookup-append_new (a ∷ xs) y n none same =
      let (away, rest) = lookup-none a xs n none in
      lookup-there a (xs ++ y ∷ []) n away ∙ lookup-append_new xs y n rest same

  pub lookup-append_other : (xs : List A) (y : A) (n : ℕ) → (key y ≡ n → ⊥) → lookup key (xs ++ y ∷ []) n ≡ lookup key xs n
  lookup-append_other [] y n other = lookup-there y [] n other
  lookup-append_other (a ∷ xs) y n other = elim (cases_eq (key a) n) [
    | inl same ↦ lookup-here a (xs ++ y ∷ []) n same ∙ sym (lookup-here a xs n same)
    | inr away ↦ lookup-there a (xs ++ y ∷ []) n away ∙ (lookup-append_other xs y n other ∙ sym (lookup-there a xs n away))
  ]

  pub AreDistinct-append : (xs : List A) (y : A) → AreDistinct key xs → lookup key xs (key y) ≡ None → AreDistinct key (xs ++ y ∷ [])
  AreDistinct-append [] y distinct none = (refl, tt)
  AreDistinct-append (a ∷ xs) y distinct none =
      let (away, rest) = lookup-none a xs (key y) none in
      (lookup-append_none xs y (key a) distinct.0 (λ e. away (sym e)), AreDistinct-append xs y distinct.1 rest)

  -- ---- sublists

  pub lookup-part_none : {xs ys : List A} → IsPart xs ys → (n : ℕ) → lookup key ys n ≡ None → lookup key xs n ≡ None
  lookup-part_none is_empty n none = none
  lookup-part_none (is_left {x} {xs} {ys} part) n none = lookup-part_none part n (lookup-none x ys n none).1
  lookup-part_none (is_kept {x} {xs} {ys} part) n none =
      let (away, rest) = lookup-none x ys n none in
      lookup-there x xs n away ∙ lookup-part_none part n rest

  pub AreDistinct-part : {xs ys : List A} → IsPart xs ys → AreDistinct key ys → AreDistinct key xs
  AreDistinct-part is_empty distinct = distinct
  AreDistinct-part (is_left part) distinct = AreDistinct-part part distinct.1
  AreDistinct-part (is_kept {x} part) distinct = (lookup-part_none part (key x) distinct.0, AreDistinct-part part distinct.1)

  -- An element that is found in a sublist is found in the complete list.
  pub lookup-part : {xs ys : List A} → IsPart xs ys → AreDistinct key ys → (n : ℕ) (y : A) → lookup key xs n ≡ Some y → lookup key ys n ≡ Some y
  lookup-part is_empty distinct n y found = found
  lookup-part (is_left {x} {xs} {ys} part) distinct n y found =
      let there : lookup key ys n ≡ Some y = lookup-part part distinct.1 n y found in
      lookup-there x ys n (λ same. never_none_and_some (subst (λ m. lookup key ys m ≡ None) same distinct.0) there) ∙ there
  lookup-part (is_kept {x} {xs} {ys} part) distinct n y found = elim (cases_eq (key x) n) [
    | inl same ↦ lookup-here x ys n same ∙ (sym (lookup-here x xs n same) ∙ found)
    | inr other ↦ lookup-there x ys n other ∙ lookup-part part distinct.1 n y (sym (lookup-there x xs n other) ∙ found)
  ]

  -- ---- removing an element

  without-here : (x : A) (xs : List A) (n : ℕ) → key x ≡ n → without key (x ∷ xs) n ≡ without key xs n
  without-here x xs n same = when_equal (key x) n (without key xs n) (x ∷ without key xs n) same

  without-there : (x : A) (xs : List A) (n : ℕ) → (key x ≡ n → ⊥) → without key (x ∷ xs) n ≡ x ∷ without key xs n
  without-there x xs n other = when_other (key x) n (without key xs n) (x ∷ without key xs n) other

  pub IsPart-without : (xs : List A) (n : ℕ) → IsPart (without key xs n) xs
  IsPart-without [] n = is_empty
  IsPart-without (x ∷ xs) n = elim (cases_eq (key x) n) [
    | inl same ↦ subst (λ l. IsPart l (x ∷ xs)) (sym (without-here x xs n same)) (is_left (IsPart-without xs n))
    | inr other ↦ subst (λ l. IsPart l (x ∷ xs)) (sym (without-there x xs n other)) (is_kept (IsPart-without xs n))
  ]

  pub lookup-without : (xs : List A) (n : ℕ) → lookup key (without key xs n) n ≡ None
  lookup-without [] n = refl
  lookup-without (x ∷ xs) n = elim (cases_eq (key x) n) [
    | inl same ↦ ap (λ l. lookup key l n) (without-here x xs n same) ∙ lookup-without xs n
    | inr other ↦ ap (λ l. lookup key l n) (without-there x xs n other) ∙ (lookup-there x (without key xs n) n other ∙ lookup-without xs n)
  ]

  pub lookup-without_other : (xs : List A) (n m : ℕ) → (m ≡ n → ⊥) → lookup key (without key xs n) m ≡ lookup key xs m
  lookup-without_other [] n m other = refl
  lookup-without_other (x ∷ xs) n m other = elim (cases_eq (key x) n) [
    | inl same ↦
        ap (λ l. lookup key l m) (without-here x xs n same)
        ∙ (lookup-without_other xs n m other ∙ sym (lookup-there x xs m (λ e. other (sym e ∙ same))))
    | inr away ↦ ap (λ l. lookup key l m) (without-there x xs n away) ∙ elim (cases_eq (key x) m) [
      | inl here ↦ lookup-here x (without key xs n) m here ∙ sym (lookup-here x xs m here)
      | inr there ↦ lookup-there x (without key xs n) m there ∙ (lookup-without_other xs n m other ∙ sym (lookup-there x xs m there))
    ]
  ]

  -- ---- changing an element

  module _ (change : A → A) (keeps : (x : A) → key (change x) ≡ key x) where
    changed-here : (x : A) (xs : List A) (n : ℕ) → key x ≡ n → changed key change (x ∷ xs) n ≡ change x ∷ xs
    changed-here x xs n same = when_equal (key x) n (change x ∷ xs) (x ∷ changed key change xs n) same

    changed-there : (x : A) (xs : List A) (n : ℕ) → (key x ≡ n → ⊥) → changed key change (x ∷ xs) n ≡ x ∷ changed key change xs n
    changed-there x xs n other = when_other (key x) n (change x ∷ xs) (x ∷ changed key change xs n) other

    pub lookup-changed_same : (xs : List A) (n : ℕ) (x : A) → lookup key xs n ≡ Some x → lookup key (changed key change xs n) n ≡ Some (change x)
    lookup-changed_same [] n x found = absurd (let e : None ≡ Some x = found in cc)
    lookup-changed_same (a ∷ xs) n x found = elim (cases_eq (key a) n) [
      | inl same ↦
          ap (λ l. lookup key l n) (changed-here a xs n same)
          ∙ (lookup-here (change a) xs n (keeps a ∙ same)
          ∙ ap (λ z. Some (change z)) (same_from_some (sym (lookup-here a xs n same) ∙ found)))
      | inr other ↦
          ap (λ l. lookup key l n) (changed-there a xs n other)
          ∙ (lookup-there a (changed key change xs n) n other
          ∙ lookup-changed_same xs n x (sym (lookup-there a xs n other) ∙ found))
    ]

    pub lookup-changed_other : (xs : List A) (n m : ℕ) → (m ≡ n → ⊥) → lookup key (changed key change xs n) m ≡ lookup key xs m
    lookup-changed_other [] n m away = refl
    lookup-changed_other (a ∷ xs) n m away = elim (cases_eq (key a) n) [
      | inl same ↦
          ap (λ l. lookup key l m) (changed-here a xs n same)
          ∙ (lookup-there (change a) xs m (λ e. away (sym e ∙ (keeps a ∙ same)))
          ∙ sym (lookup-there a xs m (λ e. away (sym e ∙ same))))
      | inr other ↦
          ap (λ l. lookup key l m) (changed-there a xs n other)
          ∙ elim (cases_eq (key a) m) [
            | inl here ↦ lookup-here a (changed key change xs n) m here ∙ sym (lookup-here a xs m here)
            | inr there ↦
                lookup-there a (changed key change xs n) m there
                ∙ (lookup-changed_other xs n m away ∙ sym (lookup-there a xs m there))
          ]
    ]

    pub lookup-changed_none : (xs : List A) (n m : ℕ) → lookup key xs m ≡ None → lookup key (changed key change xs n) m ≡ None
    lookup-changed_none [] n m none = none
    lookup-changed_none (a ∷ xs) n m none =
        let (away, rest) = lookup-none a xs m none in
        elim (cases_eq (key a) n) [
          | inl same ↦ ap (λ l. lookup key l m) (changed-here a xs n same) ∙ (lookup-there (change a) xs m (λ e. away (sym (keeps a) ∙ e)) ∙ rest)
          | inr other ↦
              ap (λ l. lookup key l m) (changed-there a xs n other)
              ∙ (lookup-there a (changed key change xs n) m away ∙ lookup-changed_none xs n m rest)
        ]

    pub AreDistinct-changed : (xs : List A) (n : ℕ) → AreDistinct key xs → AreDistinct key (changed key change xs n)
    AreDistinct-changed [] n distinct = tt
    AreDistinct-changed (a ∷ xs) n distinct = elim (cases_eq (key a) n) [
      | inl same ↦ subst (AreDistinct key) (sym (changed-here a xs n same)) (subst (λ k. lookup key xs k ≡ None) (sym (keeps a)) distinct.0, distinct.1)
      | inr other ↦
          subst (AreDistinct key) (sym (changed-there a xs n other)) (lookup-changed_none xs n (key a) distinct.0, AreDistinct-changed xs n distinct.1)
    ]
