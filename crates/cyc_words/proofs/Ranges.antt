-- This file is about lists of consecutive numbers.
use Rattle.std.proofs.Common.{◌≡◌, ℕ, zero, suc, ◌+◌, List, ◌∷◌, ◌++◌, sym, ap, ◌∙◌, arith, [], ◌-◌, ◌<◌, ◌≤◌, append-nil}
use Rattle.std.specs.List.{range_with_len, flat_map}
use Rattle.std.specs.Prelude.{Contains}
use Rattle.std.proofs.lemmas.List.FromFn.{get_or-range_with_len, length-range_with_len}
use Rattle.std.proofs.lemmas.Grind.{flat_map-append}

pub range_append : (a n m : ℕ) → range_with_len a n ++ range_with_len (a + n) m ≡ range_with_len a (n + m)
range_append a zero m =
    let here : a + 0 ≡ a = omega arith in
    let long : 0 + m ≡ m = omega arith in
    ap (λ (x : ℕ). range_with_len x m) here ∙ ap (range_with_len a) (sym long)
range_append a (suc n) m =
    let there : a + suc n ≡ a + 1 + n = omega arith in
    let long : suc n + m ≡ suc (n + m) = omega arith in
    ap (λ (l : List ℕ). a ∷ l) (ap (λ (x : ℕ). range_with_len (a + 1) n ++ range_with_len x m) there ∙ range_append (a + 1) n m) ∙ ap (range_with_len a) (sym long)

pub range_push : (from count : ℕ) → range_with_len from (suc count) ≡ range_with_len from count ++ (from + count) ∷ []
range_push from zero = ap (λ (n : ℕ). n ∷ []) (let e : from ≡ from + zero = omega arith in e)
range_push from (suc count) =
    ap (λ (rest : List ℕ). from ∷ rest) (range_push (from + 1) count)
    ∙ ap (λ (n : ℕ). from ∷ (range_with_len (from + 1) count ++ n ∷ [])) (let e : from + 1 + count ≡ from + suc count = omega arith in e)

pub Contains-range : (a n q : ℕ) → a ≤ q → q < a + n → Contains (range_with_len a n) q
Contains-range a n q from below = (q - a, omega (arith, length-range_with_len a n), get_or-range_with_len a n (q - a) q (omega arith) ∙ (let e : a + (q - a) ≡ q = omega arith in e))

pub flat_map-range_in_three : (f : ℕ → List ℕ) (count n : ℕ) → n < count → flat_map f (range_with_len 0 n) ++ (f n ++ flat_map f (range_with_len (n + 1) (count - (n + 1)))) ≡ flat_map f (range_with_len 0 count)
flat_map-range_in_three f count n below =
    let split : count ≡ n + suc (count - (n + 1)) = omega arith in
    let next : range_with_len (0 + n) (suc (count - (n + 1))) ≡ n ∷ range_with_len (n + 1) (count - (n + 1)) = ap (λ k. k ∷ range_with_len (k + 1) (count - (n + 1))) (let here : 0 + n ≡ n = omega arith in here) in
    sym (flat_map-append f (range_with_len 0 n) (n ∷ range_with_len (n + 1) (count - (n + 1))))
    ∙ ap (λ xs. flat_map f (range_with_len 0 n ++ xs)) (sym next)
    ∙ ap (flat_map f) (sym (sym (range_append 0 n (suc (count - (n + 1))))))
    ∙ ap (λ k. flat_map f (range_with_len 0 k)) (sym split)

pub flat_map-range_push : (f : ℕ → List ℕ) (n : ℕ) → flat_map f (range_with_len 0 n) ++ f n ≡ flat_map f (range_with_len 0 (n + 1))
flat_map-range_push f n =
    ap (λ xs. flat_map f (range_with_len 0 n) ++ xs) (sym (append-nil (f n)))
    ∙ ap (λ k. flat_map f (range_with_len 0 n) ++ (f n ++ flat_map f (range_with_len (n + 1) k))) (let none : 0 ≡ n + 1 - (n + 1) = omega arith in none)
    ∙ flat_map-range_in_three f (n + 1) n (omega arith)
