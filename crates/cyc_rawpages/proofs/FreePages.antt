-- Lemmas: the set of free pages agrees with the list in which the free pages are linked.
use Rattle.std.proofs.Common.{◌≡◌, ℕ, ◌<◌, List, [], ◌∷◌, ◌++◌, replicate, set, refl, sym, ap, ◌∙◌, inl, inr}
use Rattle.std.specs.Prelude.{◌==◌, true, false}
use Rattle.std.specs.List.{AllByRecursion}
use Rattle.std.proofs.lemmas.Bool.{cases_eq, cond-true, cond-false, eq-eqb, ne_eqb}
use Rattle.cyc_rawpages.specs.inside.Lists.{is_among, freed}
use Rattle.cyc_rawpages.specs.inside.Pool.{tabulate, IsFree}
use Rattle.cyc_rawpages.proofs.Columns.{tab-read, tab-set, tab-all}

pub first-among : (x : ℕ) (xs : List ℕ) → is_among (x ∷ xs) x ≡ true
first-among x xs = cond-true (x == x) true (is_among xs x) (eq-eqb x x refl)

pub other-among : (x : ℕ) (xs : List ℕ) (page : ℕ) → (page ≡ x → ⊥) → is_among (x ∷ xs) page ≡ is_among xs page
other-among x xs page other = cond-false (page == x) true (is_among xs page) (ne_eqb page x other)

none-among : (xs : List ℕ) (page : ℕ) → AllByRecursion (λ x. page ≡ x → ⊥) xs → is_among xs page ≡ false
none-among [] page apart = refl
none-among (x ∷ xs) page apart = other-among x xs page apart.0 ∙ none-among xs page apart.1

pub among-following : (xs ys : List ℕ) (page : ℕ) → is_among ys page ≡ true → is_among (xs ++ ys) page ≡ true
among-following [] ys page among = among
among-following (x ∷ xs) ys page among = elim (cases_eq page x) [
  | inl same ↦ cond-true (page == x) true (is_among (xs ++ ys) page) (eq-eqb page x same)
  | inr other ↦ other-among x (xs ++ ys) page other ∙ among-following xs ys page among
]

pub free-none : (pages : ℕ) → tabulate pages (is_among []) ≡ replicate pages false
free-none pages = tab-all pages (is_among []) false (λ i below. refl)

pub free-first : (pages page : ℕ) (rest : List ℕ) → page < pages → IsFree (tabulate pages (is_among (page ∷ rest))) page
free-first pages page rest there = tab-read pages (is_among (page ∷ rest)) page false there ∙ first-among page rest

pub free-taken : (pages page : ℕ) (rest : List ℕ) → page < pages → AllByRecursion (λ x. page ≡ x → ⊥) rest
    → tabulate pages (is_among rest) ≡ set (tabulate pages (is_among (page ∷ rest))) page false
free-taken pages page rest there apart =
    tab-set pages (is_among (page ∷ rest)) (is_among rest) page false there (none-among rest page apart) (λ i below other. sym (other-among page rest i other))

pub free-given : (pages : ℕ) (chain free : List ℕ) → AllByRecursion (λ page. page < pages) chain
    → tabulate pages (is_among (chain ++ free)) ≡ freed (tabulate pages (is_among free)) chain
free-given pages [] free there = refl
free-given pages (x ∷ xs) free there =
    tab-set pages (is_among (xs ++ free)) (is_among (x ∷ xs ++ free)) x true there.0 (first-among x (xs ++ free)) (λ i below other. other-among x (xs ++ free) i other)
    ∙ ap (λ marks. set marks x true) (free-given pages xs free there.1)
