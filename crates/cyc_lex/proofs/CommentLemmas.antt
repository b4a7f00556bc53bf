-- This file finds the end of a comment, byte by byte.
use Rattle.std.proofs.Common.{◌≡◌, ℕ, ◌+◌, ◌-◌, ◌<◌, ◌≤◌, Bool, true, false, eqb, ◌&&◌, List, [], ◌∷◌, ◌++◌, length, get_or, take, refl, sym, ap, subst, ◌∙◌, append_assoc, arith}
use Rattle.std.specs.Prelude.{codes}
use Rattle.std.proofs.lemmas.Bool.{true≢false, eqb-true, or_from, or_parts, and_right}
use Rattle.std.proofs.lemmas.Bool.Decides.{nat_tests}
use Rattle.std.proofs.lemmas.List.{take_more, take_at, take-take, length_push, length-take-le}
use Rattle.cyc_syntax.specs.Spelling.{HasNoClose}
use Rattle.cyc_syntax.proofs.PieceLemmas.{has_close, HasNoClose-from_has_close}

-- Holds if the last byte of the list is a star.
abbrev pub ends_in_star : List ℕ → Bool
ends_in_star [] = false
ends_in_star (b ∷ []) = eqb b 42
ends_in_star (b ∷ c ∷ bs) = ends_in_star (c ∷ bs)

pub ends_in_star-push : (bytes : List ℕ) (b : ℕ) → ends_in_star (bytes ++ b ∷ []) ≡ eqb b 42
ends_in_star-push [] b = refl
ends_in_star-push (c ∷ []) b = refl
ends_in_star-push (c ∷ d ∷ bytes) b = ends_in_star-push (d ∷ bytes) b

-- A byte that is appended to a comment closes the comment only if it follows a star.
pub has_close-push : (bytes : List ℕ) (b : ℕ) → has_close bytes ≡ false → ends_in_star bytes && eqb b 47 ≡ false → has_close (bytes ++ b ∷ []) ≡ false
has_close-push [] b none apart = or_from _ _ (and_right _ _ refl) refl
has_close-push (x ∷ []) b none apart = or_from _ _ (two x b apart) (or_from _ _ (and_right _ _ refl) refl)
  where
    two : (x b : ℕ) → eqb x 42 && eqb b 47 ≡ false → eqb 42 x && (eqb 47 b && true) ≡ false
    two x b apart = grind (arith, nat_tests)
has_close-push (x ∷ y ∷ bytes) b none apart =
    let parts = or_parts _ _ none in
    or_from _ _ parts.0 (has_close-push (y ∷ bytes) b parts.1 apart)

before_star : (bytes : List ℕ) → ends_in_star bytes ≡ true → (front : List ℕ) × (bytes ≡ front ++ 42 ∷ [])
before_star [] ends = absurd (true≢false (sym ends))
before_star (b ∷ []) ends = ([], ap (λ x. x ∷ []) (eqb-true b 42 ends))
before_star (b ∷ c ∷ bytes) ends =
    let rest = before_star (c ∷ bytes) ends in
    (b ∷ rest.0, ap (λ l. b ∷ l) rest.1)

-- Says that the comment is closed by a slash at index i, after a star.
pub record ClosesAt (text : List ℕ) (i : ℕ) : Type 0 where
  pub positive : 1 ≤ i
  pub star : take i text ≡ take (i + 1 - 2) text ++ codes "*"
  pub close : take (i + 1) text ≡ take (i + 1 - 2) text ++ codes "*/"

pub closes_at : (text : List ℕ) (i : ℕ) → i < length text → ends_in_star (take i text) ≡ true → get_or text i 0 ≡ 47 → ClosesAt text i
closes_at text i within ends slash =
    let before = before_star (take i text) ends in
    let size : i ≡ length before.0 + 1 =
    sym (length-take-le i text (omega arith)) ∙ ap length before.1 ∙ length_push before.0 42 in
    let front : before.0 ≡ take (i + 1 - 2) text =
    sym (take_at before.0 (42 ∷ []) (i + 1 - 2) (omega arith)) ∙ ap (take (i + 1 - 2)) (sym before.1) ∙ take-take (i + 1 - 2) i text (omega arith) in
    let star : take i text ≡ take (i + 1 - 2) text ++ codes "*" = before.1 ∙ ap (λ l. l ++ 42 ∷ []) front in
    record {
      positive = omega (arith, size);
      star = star;
      close = take_more text i 0 within ∙ (λ j. star j ++ slash j ∷ []) ∙ append_assoc (take (i + 1 - 2) text) (codes "*") (47 ∷ []);
    }

-- The bytes of a comment before the first `*/` contain no `*/`.
pub first_close : (text : List ℕ) (i : ℕ) → ClosesAt text i → has_close (take i text) ≡ false → HasNoClose (take (i + 1 - 2) text ++ codes "*")
first_close text i closes none = subst HasNoClose closes.star (HasNoClose-from_has_close (take i text) none)

-- If the byte at an index does not close the comment, then the comment is still open after this byte.
pub not_yet : (text : List ℕ) (i : ℕ) → i < length text → has_close (take i text) ≡ false
    → ends_in_star (take i text) && eqb (get_or text i 0) 47 ≡ false → has_close (take (i + 1) text) ≡ false
not_yet text i within none apart =
    ap has_close (take_more text i 0 within) ∙ has_close-push (take i text) (get_or text i 0) none apart

pub star_more : (text : List ℕ) (i : ℕ) → i < length text → eqb (get_or text i 0) 42 ≡ ends_in_star (take (i + 1) text)
star_more text i within =
    sym (ap ends_in_star (take_more text i 0 within) ∙ ends_in_star-push (take i text) (get_or text i 0))
