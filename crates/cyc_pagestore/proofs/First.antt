-- Taking page 0 of a pool: other pages that the pool returns before page 0 are freed again.
use Rattle.std.proofs.Common.{◌≡◌, ℕ, zero, suc, ◌<◌, Bool, true, false, List, [], ◌∷◌, length, length-set, set, sym, ap, subst, ◌∙◌, inl, inr, arith, get_or-set_same, get_or-set_other}
use Rattle.std.specs.Prelude.{slice_index_or}
use Rattle.std.proofs.lemmas.Bool.{cases_eq}
use Rattle.cyc_words.proofs.Items.{set-back}
use Rattle.cyc_rawpages.specs.inside.Lists.{chain_at, freed}
use Rattle.cyc_rawpages.specs.inside.Pool.{PoolState, IsFree}
use Rattle.cyc_pagestore.specs.inside.Table.{AreAlone}

-- Returns the number of true elements of a list.
abbrev pub true_count : List Bool → ℕ
true_count [] = 0
true_count (true ∷ xs) = suc (true_count xs)
true_count (false ∷ xs) = true_count xs

pub count-less : (xs : List Bool) (i : ℕ) → slice_index_or xs i false ≡ true → true_count (set xs i false) < true_count xs
count-less [] i e = cc
count-less (true ∷ xs) zero e = omega arith
count-less (false ∷ xs) zero e = cc
count-less (true ∷ xs) (suc i) e = let less = count-less xs i e in omega (arith, less)
count-less (false ∷ xs) (suc i) e = count-less xs i e

-- The effect of taking a free page other than the first one.
module _ (p : PoolState) (is : AreAlone p) (page : ℕ) (there : page < p.pages) (free : IsFree p.free page) (other : page ≡ 0 → ⊥) where
  abbrev pub taken : PoolState
  taken = record p { free = set p.free page false; chains = set p.chains page (page ∷ []) }

  abbrev pub both : PoolState
  both = record taken { free = set taken.free 0 false; chains = set taken.chains 0 (0 ∷ []) }

  in_free : page < length p.free
  in_free = subst (λ n. page < n) (sym is.free) there

  in_chains : page < length p.chains
  in_chains = subst (λ n. page < n) (sym is.chains) there

  away : 0 ≡ page → ⊥
  away e = other (sym e)

  pub still-free : IsFree p.free 0 → IsFree taken.free 0
  still-free first = get_or-set_other p.free page 0 false false away ∙ first

  pub still-alone : AreAlone taken
  still-alone = record {
    free = length-set p.free page false ∙ is.free;
    chains = length-set p.chains page (page ∷ []) ∙ is.chains;
    alone = λ q now. elim (cases_eq q page) [
      | inl same ↦ absurd (not-now q same now)
      | inr apart ↦ get_or-set_other p.chains page q (page ∷ []) [] apart ∙ is.alone q (sym (get_or-set_other p.free page q false false apart) ∙ now)
    ];
  }
    where
      not-now : (q : ℕ) → q ≡ page → IsFree taken.free q → ⊥
      not-now q same now = let e : true ≡ false = sym now ∙ ap (λ n. slice_index_or taken.free n false) same ∙ get_or-set_same p.free page false false in_free in cc

  pub both-chain : chain_at both.chains page ≡ page ∷ []
  both-chain = get_or-set_other taken.chains 0 page (0 ∷ []) [] other ∙ get_or-set_same p.chains page (page ∷ []) [] in_chains

  pub back-is : record both { free = freed both.free (chain_at both.chains page); chains = set both.chains page [] }
      ≡ record p { free = set p.free 0 false; chains = set p.chains 0 (0 ∷ []) }
  back-is =
      ap (λ xs. record both { free = freed both.free xs; chains = set both.chains page [] }) both-chain
      ∙ (λ j. record p {
        free = set-back p.free page 0 false false true false other in_free free j;
        chains = set-back p.chains page 0 (page ∷ []) (0 ∷ []) [] [] other in_chains (is.alone page free) j;
      })
