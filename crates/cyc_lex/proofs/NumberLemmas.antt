-- The value of a string of digits does not decrease if a digit is appended.
use Rattle.std.proofs.Common.{◌≡◌, ℕ, ◌+◌, ◌*◌, ◌<◌, ◌≤◌, List, [], ◌∷◌, length, get_or, take, drop, fold, sym, ap, ◌∙◌, arith}
use Rattle.std.proofs.lemmas.List.{take-append-drop}
use Rattle.std.proofs.lemmas.List.Sums.{fold-append, fold_more}
use Rattle.cyc_syntax.specs.Spelling.{digit_value, number_in}

grows : (base n : ℕ) (digits : List ℕ) → 0 < base → n ≤ fold (λ n d. n * base + digit_value d) n digits
grows base n [] positive = omega arith
grows base n (d ∷ ds) positive =
    let more = grows base (n * base + digit_value d) ds positive in
    let step : n ≤ n * base = at_least n base positive in
    omega (arith, more, step)
  where
    at_least : (n base : ℕ) → 0 < base → n ≤ n * base
    at_least n base positive = grind arith

-- If a prefix of a string of digits exceeds the limit, then the complete string does.
pub too_large : (base : ℕ) (digits : List ℕ) (i limit : ℕ) → 0 < base → i < length digits
    → limit < number_in base (take i digits) * base + digit_value (get_or digits i 0) → limit < number_in base digits
too_large base digits i limit positive within over =
    let step = fold_more (λ n d. n * base + digit_value d) 0 digits i 0 within in
    let whole : number_in base digits ≡ fold (λ n d. n * base + digit_value d) (number_in base (take (i + 1) digits)) (drop (i + 1) digits) =
    ap (number_in base) (sym (take-append-drop (i + 1) digits)) ∙ fold-append _ 0 (take (i + 1) digits) (drop (i + 1) digits) in
    let more = grows base (number_in base (take (i + 1) digits)) (drop (i + 1) digits) positive in
    omega (arith, step, whole, more, over)
