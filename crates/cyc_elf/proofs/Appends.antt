-- Facts about byte lists to which a writer appends one piece after another.
use Rattle.std.proofs.Common.{◌≡◌, ℕ, ◌-◌, List, [], ◌∷◌, ◌++◌, take, replicate, ap, ◌∙◌, append_assoc, arith}
use Rattle.std.proofs.lemmas.List.{take-replicate}
use Rattle.cyc_elf.specs.Image.{padded}

-- Appending one list of bytes and then another has the same result as appending their concatenation.
pub appends_both : (start middle end a b : List ℕ) → middle ≡ start ++ a → end ≡ middle ++ b → end ≡ start ++ (a ++ b)
appends_both start middle end a b first second = second ∙ ap (λ (xs : List ℕ). xs ++ b) first ∙ append_assoc start a b

abbrev zeros : List ℕ
zeros = 0 ∷ 0 ∷ 0 ∷ []

-- The padding after `len` bytes is a prefix of three zeros.
pub padding_zeros : (k len : ℕ) → k ≡ padded len - len → take k zeros ≡ replicate (padded len - len) 0
padding_zeros k len e = ap (λ (n : ℕ). take n zeros) e ∙ take-replicate (padded len - len) 3 0 (omega arith)
