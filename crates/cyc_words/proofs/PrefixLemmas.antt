-- This file is about the prefix order on lists of bytes.
use Rattle.std.proofs.Common.{◌≡◌, ℕ, List, [], ◌∷◌, ◌++◌, refl, sym, ap, ◌∙◌, append_assoc, append-nil}
use Rattle.cyc_words.specs.Seen.{IsPrefix}

pub IsPrefix-nil : (xs : List ℕ) → IsPrefix [] xs
IsPrefix-nil xs = (xs, refl)

pub IsPrefix-refl : (xs : List ℕ) → IsPrefix xs xs
IsPrefix-refl xs = ([], sym (append-nil xs))

pub IsPrefix-append : (xs ys : List ℕ) → IsPrefix xs (xs ++ ys)
IsPrefix-append xs ys = (ys, refl)

pub IsPrefix-trans : (xs ys zs : List ℕ) → IsPrefix xs ys → IsPrefix ys zs → IsPrefix xs zs
IsPrefix-trans xs ys zs h k =
    (h.0 ++ k.0, k.1 ∙ ap (λ (l : List ℕ). l ++ k.0) h.1 ∙ append_assoc xs h.0 k.0)

-- Putting the same list of bytes before two lists preserves the prefix relation between them.
pub IsPrefix-append_both : (front xs ys : List ℕ) → IsPrefix xs ys → IsPrefix (front ++ xs) (front ++ ys)
IsPrefix-append_both front xs ys h =
    (h.0, ap (λ (l : List ℕ). front ++ l) h.1 ∙ sym (append_assoc front xs h.0))

-- two lists that are prefixes of each other are equal
pub IsPrefix-antisym : (xs ys : List ℕ) → IsPrefix xs ys → IsPrefix ys xs → xs ≡ ys
IsPrefix-antisym [] [] h k = refl
IsPrefix-antisym [] (y ∷ ys) h k = let e : [] ≡ (y ∷ ys) ++ k.0 = k.1 in cc
IsPrefix-antisym (x ∷ xs) [] h k = let e : [] ≡ (x ∷ xs) ++ h.0 = h.1 in cc
IsPrefix-antisym (x ∷ xs) (y ∷ ys) h k =
    let there : y ∷ ys ≡ x ∷ (xs ++ h.0) = h.1 in
    let back : x ∷ xs ≡ y ∷ (ys ++ k.0) = k.1 in
    let first : x ≡ y = cc in
    let rest : xs ≡ ys = IsPrefix-antisym xs ys (h.0, (cc)) (k.0, (cc)) in
    cc
