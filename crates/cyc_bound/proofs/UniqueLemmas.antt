-- Lemmas about the size classes of unique blocks, which are visited one after the other.
use Rattle.std.proofs.Common.{◌≡◌, ℕ, zero, suc, ◌+◌, ◌-◌, ◌^◌, ◌<◌, ◌≤◌, ◌⊎◌, Bool, Option, Some, None, refl, sym, ap, subst, inl, inr, arith, div-le_self}
use Rattle.std.specs.Prelude.{◌==◌, if◌then◌else◌}
use Rattle.std.proofs.lemmas.Bool.{cases_eq, eq-eqb, ne_eqb}
use Rattle.cyc_words.specs.Demand.{greatest_class, blocks_in_page, pages_for}
use Rattle.cyc_types.specs.TypedTrees.{Program}
use Rattle.cyc_bound.specs.declared.costs.Measure.{Measure}
use Rattle.cyc_bound.specs.declared.costs.Measure.TheVariants as measures
use Rattle.cyc_bound.specs.Costs.{too_many, IsRunCost, StillGrow}
use Rattle.cyc_bound.specs.Pages.{unique_pages}
use Rattle.cyc_bound.specs.inside.ItemCosts.{UniquesSoFar}
use Rattle.cyc_bound.specs.inside.Rounds.{IsFound}

pub blocks_some : (class : ℕ) → class ≤ greatest_class → 0 < blocks_in_page class
blocks_some zero below = omega arith
blocks_some (suc zero) below = omega arith
blocks_some (suc (suc zero)) below = omega arith
blocks_some (suc (suc (suc zero))) below = omega arith
blocks_some (suc (suc (suc (suc zero)))) below = omega arith
blocks_some (suc (suc (suc (suc (suc zero))))) below = omega arith
blocks_some (suc (suc (suc (suc (suc (suc zero)))))) below = omega arith
blocks_some (suc (suc (suc (suc (suc (suc (suc zero))))))) below = omega arith
blocks_some (suc (suc (suc (suc (suc (suc (suc (suc zero)))))))) below = omega arith
blocks_some (suc (suc (suc (suc (suc (suc (suc (suc (suc zero))))))))) below = omega arith
blocks_some (suc (suc (suc (suc (suc (suc (suc (suc (suc (suc zero)))))))))) below = omega arith
blocks_some (suc (suc (suc (suc (suc (suc (suc (suc (suc (suc (suc class))))))))))) below = absurd (omega (arith, below))

-- the number of pages of a size class is at most 2 ^ 51, if its number of blocks is below the greatest counted value
few_pages : (class blocks : ℕ) → class ≤ greatest_class → blocks < too_many → pages_for class blocks ≤ 2 ^ 51
few_pages class blocks below few =
    let in_page : blocks_in_page class ≤ 1024 = div-le_self 1024 (2 ^ class) in
    omega (arith, div-le_self (blocks + (blocks_in_page class - 1)) (blocks_in_page class), few, in_page)

module _ (program : Program) where
  -- ---- costs at the greatest counted value

  pub not_found : (m : Measure) (o : Option ℕ) → ((cost : ℕ) → o ≡ Some cost → ⊥) → IsFound program m o → StillGrow program m
  not_found m None other h = h
  not_found m (Some cost) other h = absurd (other cost refl)

  pub too_many_cost : (m : Measure) (cost : ℕ) → IsRunCost program m cost → too_many ≤ cost → IsRunCost program m too_many
  too_many_cost m cost (costs, are, is) many = (costs, are, omega (arith, is, many))

  -- ---- class by class

  pub so_far_none : UniquesSoFar program 0 0
  so_far_none = (λ m. 0, (refl, (omega arith, λ other less. absurd (omega (arith, less)))))

  -- a function from measures (kinds of counted cost) to costs, in which the cost for one size class of unique blocks is replaced
  abbrev with_class : (class blocks : ℕ) → (Measure → ℕ) → Measure → ℕ
  with_class class blocks cost (measures.Uniques other) = if other == class then blocks else cost (measures.Uniques other)
  with_class class blocks cost m = cost m

  at_class : (class blocks : ℕ) (cost : Measure → ℕ) → with_class class blocks cost (measures.Uniques class) ≡ blocks
  at_class class blocks cost = ap (λ (b : Bool). if b then blocks else cost (measures.Uniques class)) (eq-eqb class class refl)

  at_other : (class blocks : ℕ) (cost : Measure → ℕ) (other : ℕ) → (other ≡ class → ⊥) → with_class class blocks cost (measures.Uniques other) ≡ cost (measures.Uniques other)
  at_other class blocks cost other apart = ap (λ (b : Bool). if b then blocks else cost (measures.Uniques other)) (ne_eqb other class apart)

  pages_same : (class blocks : ℕ) (cost : Measure → ℕ) (classes : ℕ) → classes ≤ class → unique_pages (with_class class blocks cost) classes ≡ unique_pages cost classes
  pages_same class blocks cost zero below = refl
  pages_same class blocks cost (suc other) below =
      let same : pages_for other (with_class class blocks cost (measures.Uniques other)) ≡ pages_for other (cost (measures.Uniques other)) =
      ap (λ (n : ℕ). pages_for other n) (at_other class blocks cost other (λ is. omega (arith, is, below))) in
      omega (arith, same, pages_same class blocks cost other (omega (arith, below)))

  pub so_far_more : (class pages blocks more next : ℕ) → class ≤ greatest_class → UniquesSoFar program class pages → IsRunCost program (measures.Uniques class) blocks → blocks < too_many
      → more ≡ pages_for class blocks → next ≡ pages + more → UniquesSoFar program (class + 1) next
  so_far_more class pages blocks more next below (cost, h) is few one two =
      let new = with_class class blocks cost in
      let here : pages_for class (new (measures.Uniques class)) ≡ pages_for class blocks = ap (λ (n : ℕ). pages_for class n) (at_class class blocks cost) in
      let whole : unique_pages new (class + 1) ≡ unique_pages new class + pages_for class (new (measures.Uniques class)) = ap (λ (n : ℕ). unique_pages new n) (one_more class) in (
        new,
        (
          omega (arith, two, one, here, whole, h.0, pages_same class blocks cost class (omega arith)),
          (omega (arith, two, one, h.1.0, few_pages class blocks below few), λ other less. go other less (cases_eq other class)),
        ),
      )
    where
      one_more : (n : ℕ) → n + 1 ≡ suc n
      one_more n = omega arith

      go : (other : ℕ) → other < class + 1 → (other ≡ class) ⊎ (other ≡ class → ⊥)
          → IsRunCost program (measures.Uniques other) (with_class class blocks cost (measures.Uniques other)) × (with_class class blocks cost (measures.Uniques other) < too_many)
      go other less (inl here) =
          subst (λ (n : ℕ). IsRunCost program (measures.Uniques n) (with_class class blocks cost (measures.Uniques n)) × (with_class class blocks cost (measures.Uniques n) < too_many)) (sym here)
          (subst (λ (n : ℕ). IsRunCost program (measures.Uniques class) n × (n < too_many)) (sym (at_class class blocks cost)) (is, few))
      go other less (inr apart) =
          subst (λ (n : ℕ). IsRunCost program (measures.Uniques other) n × (n < too_many)) (sym (at_other class blocks cost other apart)) (h.1.1 other (omega (arith, less, apart)))

  pub so_far_all : (class pages : ℕ) → suc greatest_class ≤ class → class ≤ suc greatest_class → UniquesSoFar program class pages → UniquesSoFar program (suc greatest_class) pages
  so_far_all class pages whole within h =
      let same : class ≡ suc greatest_class = omega (arith, whole, within) in
      subst (λ (n : ℕ). UniquesSoFar program n pages) same h
