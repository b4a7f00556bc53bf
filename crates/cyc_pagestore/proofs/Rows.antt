-- Facts about lists of pages, and about rows of the page table (each the data of one page) that are linked along these lists.
use Rattle.std.proofs.Common.{◌≡◌, ◌≢◌, ℕ, ◌<◌, List, [], ◌∷◌, length, length-set, refl, sym, ap, subst, ◌∙◌, inl, inr, get_or-set_same, get_or-set_other}
use Rattle.std.specs.Prelude.{◌⊎◌}
use Rattle.std.specs.List.{AllByRecursion}
use Rattle.std.proofs.lemmas.Bool.{cases_eq}
use Rattle.cyc_words.specs.Distinct.{IsDistinct}
use Rattle.cyc_words.proofs.Numbers.{when_equal}
use Rattle.cyc_store.specs.Table.{free_row, row_at}
use Rattle.cyc_store.specs.inside.Kept.{IsChain, IsOneOf}
use Rattle.cyc_store.specs.declared.row.Row.{Row}
use Rattle.cyc_store.specs.declared.row.TheConstants.{NONE}
use Rattle.cyc_store.proofs.LookupLemmas.{when_other}
use Rattle.cyc_store.proofs.TieLemmas.{chain-also}
use Rattle.cyc_store.proofs.TieClosing.{one-all, all-from}
use Rattle.cyc_pagestore.specs.inside.Links.{head_or_none, relinked, removed, moved}

-- ---- elements of lists

pub away-from : (xs : List ℕ) (p : ℕ) → (IsOneOf xs p → ⊥) → AllByRecursion (λ x. p ≢ x) xs
away-from xs p never = all-from (λ x. p ≢ x) xs (λ x inside e. never (subst (IsOneOf xs) (sym e) inside))

pub not-away : (xs : List ℕ) (p : ℕ) → AllByRecursion (λ x. p ≢ x) xs → IsOneOf xs p → ⊥
not-away xs p away inside = one-all (λ x. p ≡ x → ⊥) xs p away inside refl

pub one-or-not : (xs : List ℕ) (p : ℕ) → IsOneOf xs p ⊎ (IsOneOf xs p → ⊥)
one-or-not [] p = inr (λ inside. inside)
one-or-not (x ∷ xs) p = elim (cases_eq p x) [
  | inl same ↦ inl (inl same)
  | inr other ↦ elim (one-or-not xs p) [
    | inl inside ↦ inl (inr inside)
    | inr never ↦ inr (λ which. elim which [ inl same ↦ other same | inr inside ↦ never inside ])
  ]
]

-- ---- a list without one page

pub removed-out : (xs : List ℕ) (page p : ℕ) → IsOneOf (removed xs page) p → IsOneOf xs p × (p ≡ page → ⊥)
removed-out [] page p inside = absurd inside
removed-out (x ∷ xs) page p inside = elim (cases_eq x page) [
  | inl same ↦ let rest = removed-out xs page p (subst (λ ys. IsOneOf ys p) (when_equal x page (removed xs page) (x ∷ removed xs page) same) inside) in (inr rest.0, rest.1)
  | inr other ↦ elim (subst (λ ys. IsOneOf ys p) (when_other x page (removed xs page) (x ∷ removed xs page) other) inside) [
    | inl first ↦ (inl first, λ e. other (sym first ∙ e))
    | inr later ↦ let rest = removed-out xs page p later in (inr rest.0, rest.1)
  ]
]

pub removed-in : (xs : List ℕ) (page p : ℕ) → IsOneOf xs p → (p ≡ page → ⊥) → IsOneOf (removed xs page) p
removed-in [] page p inside ne = absurd inside
removed-in (x ∷ xs) page p (inl first) ne =
    subst (λ ys. IsOneOf ys p) (sym (when_other x page (removed xs page) (x ∷ removed xs page) (λ e. ne (first ∙ e)))) (inl first)
removed-in (x ∷ xs) page p (inr later) ne = elim (cases_eq x page) [
  | inl same ↦ subst (λ ys. IsOneOf ys p) (sym (when_equal x page (removed xs page) (x ∷ removed xs page) same)) (removed-in xs page p later ne)
  | inr other ↦ subst (λ ys. IsOneOf ys p) (sym (when_other x page (removed xs page) (x ∷ removed xs page) other)) (inr (removed-in xs page p later ne))
]

pub removed-apart : (xs : List ℕ) (page : ℕ) → IsDistinct xs → IsDistinct (removed xs page)
removed-apart [] page apart = tt
removed-apart (x ∷ xs) page apart = elim (cases_eq x page) [
  | inl same ↦ subst IsDistinct (sym (when_equal x page (removed xs page) (x ∷ removed xs page) same)) (removed-apart xs page apart.1)
  | inr other ↦ subst IsDistinct (sym (when_other x page (removed xs page) (x ∷ removed xs page) other))
      (all-from (λ y. x ≢ y) (removed xs page) (λ y inside. one-all (λ z. x ≢ z) xs y apart.0 (removed-out xs page y inside).0), removed-apart xs page apart.1)
]

-- If the pages of a list are distinct, they stay distinct when one page is moved to the front of the list.
pub fronted-apart : (xs : List ℕ) (page : ℕ) → IsDistinct xs → IsDistinct (page ∷ removed xs page)
fronted-apart xs page apart = (all-from (λ y. page ≢ y) (removed xs page) (λ y inside e. (removed-out xs page y inside).1 (sym e)), removed-apart xs page apart)

-- ---- one list moved before another

pub moved-out : (xs ys : List ℕ) (p : ℕ) → IsOneOf (moved xs ys) p → IsOneOf xs p ⊎ IsOneOf ys p
moved-out [] ys p inside = inr inside
moved-out (x ∷ xs) ys p inside = elim (moved-out xs (x ∷ ys) p inside) [
  | inl before ↦ inl (inr before)
  | inr after ↦ elim after [ inl first ↦ inl (inl first) | inr later ↦ inr later ]
]

pub moved-in : (xs ys : List ℕ) (p : ℕ) → IsOneOf xs p ⊎ IsOneOf ys p → IsOneOf (moved xs ys) p
moved-in [] ys p which = elim which [ inl inside ↦ absurd inside | inr inside ↦ inside ]
moved-in (x ∷ xs) ys p which = elim which [
  | inl inside ↦ elim inside [ inl first ↦ moved-in xs (x ∷ ys) p (inr (inl first)) | inr later ↦ moved-in xs (x ∷ ys) p (inl later) ]
  | inr inside ↦ moved-in xs (x ∷ ys) p (inr (inr inside))
]

pub moved-apart : (xs ys : List ℕ) → IsDistinct xs → IsDistinct ys → ((p : ℕ) → IsOneOf xs p → IsOneOf ys p → ⊥) → IsDistinct (moved xs ys)
moved-apart [] ys first second clash = second
moved-apart (x ∷ xs) ys first second clash = moved-apart xs (x ∷ ys) first.1 (away-from ys x (λ inside. clash x (inl refl) inside), second)
    (λ p before after. elim after [
      | inl same ↦ not-away xs x first.0 (subst (IsOneOf xs) same before)
      | inr later ↦ clash p (inr before) later
    ])

-- ---- rows linked along a list

module _ (rows : List Row) where
  pub relinked-length : (xs : List ℕ) → length (relinked rows xs) ≡ length rows
  relinked-length [] = refl
  relinked-length (x ∷ xs) = length-set (relinked rows xs) x (record (row_at rows x) { next = head_or_none xs }) ∙ relinked-length xs

  pub relinked-other : (xs : List ℕ) (p : ℕ) → (IsOneOf xs p → ⊥) → row_at (relinked rows xs) p ≡ row_at rows p
  relinked-other [] p never = refl
  relinked-other (x ∷ xs) p never =
      get_or-set_other (relinked rows xs) x p (record (row_at rows x) { next = head_or_none xs }) (free_row NONE) (λ e. never (inl e))
      ∙ relinked-other xs p (λ inside. never (inr inside))

  first-is : (x : ℕ) (xs : List ℕ) → x < length rows → row_at (relinked rows (x ∷ xs)) x ≡ record (row_at rows x) { next = head_or_none xs }
  first-is x xs there = get_or-set_same (relinked rows xs) x (record (row_at rows x) { next = head_or_none xs }) (free_row NONE) (subst (λ n. x < n) (sym (relinked-length xs)) there)

  later-is : (x : ℕ) (xs : List ℕ) (p : ℕ) → (p ≡ x → ⊥) → row_at (relinked rows (x ∷ xs)) p ≡ row_at (relinked rows xs) p
  later-is x xs p other = get_or-set_other (relinked rows xs) x p (record (row_at rows x) { next = head_or_none xs }) (free_row NONE) other

  -- Relinking the rows (each the data of one page) of a list of pages replaces only the link in each row.
  pub relinked-row : (xs : List ℕ) (p : ℕ) → AllByRecursion (λ x. x < length rows) xs → (next : ℕ) × (row_at (relinked rows xs) p ≡ record (row_at rows p) { next = next })
  relinked-row [] p within = ((row_at rows p).next, refl)
  relinked-row (x ∷ xs) p within = elim (cases_eq p x) [
    | inl same ↦ (head_or_none xs, ap (row_at (relinked rows (x ∷ xs))) same ∙ first-is x xs within.0 ∙ ap (λ n. record (row_at rows n) { next = head_or_none xs }) (sym same))
    | inr other ↦ let rest = relinked-row xs p within.1 in (rest.0, later-is x xs p other ∙ rest.1)
  ]

  pub relinked-chain : (xs : List ℕ) → AllByRecursion (λ x. x < length rows) xs → IsDistinct xs → IsChain (λ (p : ℕ). (row_at (relinked rows xs) p).next) (head_or_none xs) xs
  relinked-chain [] within apart = refl
  relinked-chain (x ∷ xs) within apart = (
    refl,
    subst (λ n. IsChain (λ (p : ℕ). (row_at (relinked rows (x ∷ xs)) p).next) n xs) (sym (ap (λ (r : Row). r.next) (first-is x xs within.0)))
        (chain-also (λ p. (row_at (relinked rows xs) p).next) (λ p. (row_at (relinked rows (x ∷ xs)) p).next) (head_or_none xs) xs
        (all-from (λ p. (row_at (relinked rows (x ∷ xs)) p).next ≡ (row_at (relinked rows xs) p).next) xs
        (λ p inside. ap (λ (r : Row). r.next) (later-is x xs p (λ e. not-away xs x apart.0 (subst (IsOneOf xs) e inside)))))
        (relinked-chain xs within.1 apart.1)),
  )
