-- This file has Boolean tests on natural numbers: equality, membership in a list, and sets given as
-- functions, with consequences of the tests.
use Rattle.std.proofs.Common.{◌≡◌, ℕ, Bool, true, false, cond, ◌||◌, nat_eq, List, [], ◌∷◌, ◌++◌, refl, ap, subst, ◌∙◌}
use Rattle.std.specs.List.{list_any}
use Rattle.std.proofs.lemmas.Bool.{or_left, or_right}
use Rattle.std.proofs.lemmas.List.Folds.{list_any-append}
use Rattle.cyc_words.proofs.Numbers.{nat_eq-true, nat_eq-false_turned, nat_eq-itself}
use Rattle.cyc_soundness.specs.inside.guard.Held.{updated}

pub data Reflects (m n : ℕ) : Bool → Type 0 where
  same : m ≡ n → Reflects m n true
  other : (n ≡ m → ⊥) → Reflects m n false

pub reflects : (m n : ℕ) → Reflects m n (nat_eq m n)
reflects m n = go (nat_eq m n) refl
  where
    go : (b : Bool) → nat_eq m n ≡ b → Reflects m n b
    go true e = same (nat_eq-true m n e)
    go false e = other (nat_eq-false_turned m n e)

-- ---- lists of numbers

abbrev pub has : List ℕ → ℕ → Bool
has ns n = list_any (λ m. nat_eq m n) ns

pub has_append : (as' bs : List ℕ) (n : ℕ) → has (as' ++ bs) n ≡ (has as' n || has bs n)
has_append as' bs n = list_any-append (λ m. nat_eq m n) as' bs

pub has_left : (as' bs : List ℕ) (n : ℕ) → has as' n ≡ true → has (as' ++ bs) n ≡ true
has_left as' bs n h = has_append as' bs n ∙ or_left (has as' n) (has bs n) h

pub has_right : (as' bs : List ℕ) (n : ℕ) → has bs n ≡ true → has (as' ++ bs) n ≡ true
has_right as' bs n h = has_append as' bs n ∙ or_right (has as' n) (has bs n) h

pub has_last : (ns : List ℕ) (n : ℕ) → has (ns ++ (n ∷ [])) n ≡ true
has_last ns n = has_right ns (n ∷ []) n (or_left (nat_eq n n) false (nat_eq-itself n))

-- ---- sets of numbers

pub updated_same : (f : ℕ → Bool) (n : ℕ) (b : Bool) (m : ℕ) → n ≡ m → updated f n b m ≡ b
updated_same f n b m e = subst (λ k. updated f n b k ≡ b) e (ap (λ t. cond t b (f n)) (nat_eq-itself n))

pub updated_true : (f : ℕ → Bool) (n m : ℕ) → f m ≡ true → updated f n true m ≡ true
updated_true f n m h = go (nat_eq n m)
  where
    go : (t : Bool) → cond t true (f m) ≡ true
    go true = refl
    go false = h
