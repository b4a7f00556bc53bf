-- Lemmas about the first pages (heads) of a pool's chains of linked pages after each call of a pool function.
use Rattle.std.proofs.Common.{◌≡◌, ℕ, zero, suc, ◌<◌, List, [], ◌∷◌, ◌++◌, length, set, ap, ◌∙◌, arith, get_or-set_same, get_or-set_other}
use Rattle.cyc_rawpages.specs.inside.Lists.{chain_at}
use Rattle.cyc_rawpages.specs.inside.Pool.{IsHead}

chain-within : (chains : List (List ℕ)) (i x : ℕ) (xs : List ℕ) → chain_at chains i ≡ x ∷ xs → i < length chains
chain-within [] i x xs e = cc
chain-within (c ∷ cs) zero x xs e = omega arith
chain-within (c ∷ cs) (suc i) x xs e = omega (arith, chain-within cs i x xs e)

-- The head (first page) of a chain of linked pages stays a head after a page is appended to the chain.
pub head-pushed : (chains : List (List ℕ)) (head page : ℕ) → IsHead chains head → (head ≡ page → ⊥) → IsHead (set (set chains head (chain_at chains head ++ page ∷ [])) page []) head
head-pushed chains head page is other = (
  is.0 ++ page ∷ [],
  get_or-set_other (set chains head (chain_at chains head ++ page ∷ [])) page head [] [] other
      ∙ get_or-set_same chains head (chain_at chains head ++ page ∷ []) [] (chain-within chains head head is.0 is.1) ∙ ap (λ chain. chain ++ page ∷ []) is.1,
)
