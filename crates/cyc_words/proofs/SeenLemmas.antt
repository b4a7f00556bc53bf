-- This file is about the order of observations along a run.
use Rattle.std.proofs.Common.{◌≡◌, ℕ, List, [], ◌++◌, refl, sym, ap, ◌∙◌, append_assoc}
use Rattle.cyc_words.specs.Seen.{Seen, showing, ComesTo}
use Rattle.cyc_words.proofs.PrefixLemmas.{IsPrefix-refl, IsPrefix-trans}

pub ComesTo-refl : (s : Seen) → ComesTo s s
ComesTo-refl s = (IsPrefix-refl s.output, ([], refl))

pub ComesTo-trans : (s t u : Seen) → ComesTo s t → ComesTo t u → ComesTo s u
ComesTo-trans s t u first later = (
  IsPrefix-trans s.output t.output u.output first.0 later.0,
  (first.1.0 ++ later.1.0, first.1.1 ∙ ap (λ (l : List ℕ). first.1.0 ++ l) later.1.1 ∙ sym (append_assoc first.1.0 later.1.0 u.rest)),
)

-- observations with equal output and equal unread input are equal
pub seen_same : (output other rest left : List ℕ) → output ≡ other → rest ≡ left → showing output rest ≡ showing other left
seen_same output other rest left same_output same_rest = λ i. record { output = same_output i; rest = same_rest i }
