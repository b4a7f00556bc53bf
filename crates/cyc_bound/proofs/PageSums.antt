-- Lemmas: the number of pages of all regions, whether or not lexical regions free their blocks, and the number of all pages together.
use Rattle.std.proofs.Common.{◌≡◌, ℕ, zero, suc, ◌+◌, ◌-◌, ◌<◌, ◌≤◌, ◌⊎◌, Bool, true, false, Option, Some, None, refl, sym, subst, inl, inr, arith}
use Rattle.std.specs.Prelude.{◌==◌}
use Rattle.std.proofs.lemmas.Bool.{cases_eq, eq-eqb, ne_eqb}
use Rattle.cyc_words.specs.Demand.{greatest_class}
use Rattle.cyc_types.specs.TypedTrees.{Program}
use Rattle.cyc_bound.specs.declared.costs.Measure.{Measure}
use Rattle.cyc_bound.specs.declared.costs.Measure.TheVariants as measures
use Rattle.cyc_bound.specs.declared.pages.PageBound.{PageBound}
use Rattle.cyc_bound.specs.declared.pages.PageBound.TheVariants as bounds
use Rattle.cyc_bound.specs.Costs.{too_many, IsRunCost, StillGrow}
use Rattle.cyc_bound.specs.AtOnce.{IsAtOnce}
use Rattle.cyc_bound.specs.Pages.{further_pages, GivesBack, IsForPages, IsCost, unique_pages, most_region_pages, IsPageAnswer}
use Rattle.cyc_bound.specs.inside.ItemCosts.{UniquesSoFar, IsUniqueAnswer}
use Rattle.cyc_bound.specs.inside.RegionCosts.{IsAtOnceFound, AreRegionsCounted, IsRegionAnswer}
use Rattle.cyc_bound.specs.inside.Rounds.{IsFound}

module _ (program : Program) where
  -- if the search for the cost of a run returns a number, this number is the cost of a run
  pub found : (m : Measure) (o : Option ℕ) (cost : ℕ) → o ≡ Some cost → IsFound program m o → IsRunCost program m cost
  found m o cost is h = subst (λ (n : Option ℕ). IsFound program m n) is h

  pub found_at_once : (m : Measure) (o : Option ℕ) (cost : ℕ) → o ≡ Some cost → IsAtOnceFound program m o → IsAtOnce program m cost
  found_at_once m o cost is h = subst (λ (n : Option ℕ). IsAtOnceFound program m n) is h

  pub not_found_at_once : (m : Measure) (o : Option ℕ) → ((cost : ℕ) → o ≡ Some cost → ⊥) → IsAtOnceFound program m o → StillGrow program m
  not_found_at_once m None other h = h
  not_found_at_once m (Some cost) other h = absurd (other cost refl)

  -- lexical regions free everything allocated by a handle exactly if the cost counted for handles of the heap used as
  -- values and for dynamic regions is 0
  pub gives_by : (cost : ℕ) (o : Option ℕ) → o ≡ Some cost → IsFound program measures.Lasting o → GivesBack program (cost == 0)
  gives_by cost o is h = go (cases_eq cost 0)
    where
      go : (cost ≡ 0) ⊎ (cost ≡ 0 → ⊥) → GivesBack program (cost == 0)
      go (inl none) = subst (λ (b : Bool). GivesBack program b) (sym (eq-eqb cost 0 none)) (subst (λ (n : ℕ). IsRunCost program measures.Lasting n) none (found measures.Lasting o cost is h))
      go (inr some) =
          let more : cost ≡ suc (cost - 1) = omega (arith, some) in
          subst (λ (b : Bool). GivesBack program b) (sym (ne_eqb cost 0 some)) (inl (cost - 1, subst (λ (n : ℕ). IsRunCost program measures.Lasting n) more (found measures.Lasting o cost is h)))

  -- every cost above the greatest counted value `too_many` is replaced by this value
  pub too_many_at_once : (m : Measure) (cost : ℕ) → IsAtOnce program m cost → too_many ≤ cost → IsAtOnce program m too_many
  too_many_at_once m cost h many = subst (λ (n : ℕ). IsAtOnce program m n) (capped h) h
    where
      capped : IsAtOnce program m cost → cost ≡ too_many
      capped (costs, are, above, inl none) = absurd (omega (arith, none, many))
      capped (costs, are, above, inr (f, count, row, is)) = omega (arith, is, many)

  -- ---- regions

  abbrev kept_costs : (openings blocks words : ℕ) → Measure → ℕ
  kept_costs openings blocks words measures.Openings = openings
  kept_costs openings blocks words measures.Blocks = blocks
  kept_costs openings blocks words measures.Words = words
  kept_costs openings blocks words m = 0

  pub kept_all : (openings blocks words further count : ℕ) → IsRunCost program measures.Openings openings → IsRunCost program measures.Blocks blocks → IsRunCost program measures.Words words
      → openings < too_many → blocks < too_many → words < too_many → further ≡ further_pages blocks words → count ≡ openings + further → IsRegionAnswer program false (bounds.Pages count)
  kept_all openings blocks words further count one two three few also too is whole =
      (kept_costs openings blocks words, counted, omega (arith, whole, is), omega (arith, whole, is, few, also))
    where
      counted : AreRegionsCounted program false (kept_costs openings blocks words)
      counted measures.Steps there here = absurd there
      counted measures.Openings there here = (one, few)
      counted measures.Blocks there here = (two, also)
      counted measures.Words there here = (three, too)
      counted measures.HeapBlocks there here = absurd there
      counted measures.HeapWords there here = absurd there
      counted measures.RegionBlocks there here = absurd there
      counted measures.RegionWords there here = absurd there
      counted (measures.Uniques class) there here = absurd here
      counted measures.Lasting there here = absurd there

  abbrev open_costs : (openings blocks words heap_blocks heap_words : ℕ) → Measure → ℕ
  open_costs openings blocks words heap_blocks heap_words measures.Openings = openings
  open_costs openings blocks words heap_blocks heap_words measures.RegionBlocks = blocks
  open_costs openings blocks words heap_blocks heap_words measures.RegionWords = words
  open_costs openings blocks words heap_blocks heap_words measures.HeapBlocks = heap_blocks
  open_costs openings blocks words heap_blocks heap_words measures.HeapWords = heap_words
  open_costs openings blocks words heap_blocks heap_words m = 0

  pub open_all : (openings blocks words heap_blocks heap_words further of_heap count : ℕ) → IsAtOnce program measures.Openings openings → IsAtOnce program measures.RegionBlocks blocks
      → IsAtOnce program measures.RegionWords words → IsRunCost program measures.HeapBlocks heap_blocks → IsRunCost program measures.HeapWords heap_words
      → openings < too_many → blocks < too_many → words < too_many → heap_blocks < too_many → heap_words < too_many
      → further ≡ further_pages blocks words → of_heap ≡ further_pages heap_blocks heap_words → count ≡ 1 + of_heap + (openings + further) → IsRegionAnswer program true (bounds.Pages count)
  open_all openings blocks words heap_blocks heap_words further of_heap count one two three four five few also too heap_few heap_also is same whole =
      (open_costs openings blocks words heap_blocks heap_words, counted, omega (arith, whole, is, same), omega (arith, whole, is, same, few, also, heap_few))
    where
      counted : AreRegionsCounted program true (open_costs openings blocks words heap_blocks heap_words)
      counted measures.Steps there here = absurd there
      counted measures.Openings there here = (one, few)
      counted measures.Blocks there here = absurd there
      counted measures.Words there here = absurd there
      counted measures.HeapBlocks there here = (four, heap_few)
      counted measures.HeapWords there here = (five, heap_also)
      counted measures.RegionBlocks there here = (two, also)
      counted measures.RegionWords there here = (three, too)
      counted (measures.Uniques class) there here = absurd here
      counted measures.Lasting there here = absurd there

  -- ---- all pages

  abbrev both_costs : (regions uniques : Measure → ℕ) → Measure → ℕ
  both_costs regions uniques (measures.Uniques class) = uniques (measures.Uniques class)
  both_costs regions uniques m = regions m

  uniques_same : (regions uniques : Measure → ℕ) (classes : ℕ) → unique_pages (both_costs regions uniques) classes ≡ unique_pages uniques classes
  uniques_same regions uniques zero = refl
  uniques_same regions uniques (suc class) = omega (arith, uniques_same regions uniques class)

  regions_same : (b : Bool) (regions uniques : Measure → ℕ) → most_region_pages b (both_costs regions uniques) ≡ most_region_pages b regions
  regions_same true regions uniques = refl
  regions_same false regions uniques = refl

  of_uniques : (b : Bool) (class cost : ℕ) → IsRunCost program (measures.Uniques class) cost → IsCost program b (measures.Uniques class) cost
  of_uniques true class cost h = h
  of_uniques false class cost h = h

  pub pages_both : (b : Bool) (regions uniques count : ℕ) → GivesBack program b → IsRegionAnswer program b (bounds.Pages regions) → UniquesSoFar program (suc greatest_class) uniques → count ≡ regions + uniques
      → IsPageAnswer program (bounds.Pages count)
  pages_both b regions uniques count gives (cost, are, is, few) (other, h) whole =
      (b, both_costs cost other, (gives, counted), omega (arith, whole, is, h.0, regions_same b cost other, uniques_same cost other (suc greatest_class)))
    where
      counted : (m : Measure) → IsForPages b m → IsCost program b m (both_costs cost other m) × (both_costs cost other m < too_many)
      counted measures.Steps there = are measures.Steps there tt
      counted measures.Openings there = are measures.Openings there tt
      counted measures.Blocks there = are measures.Blocks there tt
      counted measures.Words there = are measures.Words there tt
      counted measures.HeapBlocks there = are measures.HeapBlocks there tt
      counted measures.HeapWords there = are measures.HeapWords there tt
      counted measures.RegionBlocks there = are measures.RegionBlocks there tt
      counted measures.RegionWords there = are measures.RegionWords there tt
      counted (measures.Uniques class) there = let k = h.1.1 class (omega (arith, there)) in (of_uniques b class _ k.0, k.1)
      counted measures.Lasting there = are measures.Lasting there tt

  pub no_uniques : (b : Bool) (bound : PageBound) → GivesBack program b → ((count : ℕ) → bound ≡ bounds.Pages count → ⊥) → IsUniqueAnswer program bound → IsPageAnswer program bound
  no_uniques b (bounds.Pages count) gives other h = absurd (other count refl)
  no_uniques b bounds.TooMany gives other (class, below, is) = (b, gives, measures.Uniques class, below, of_uniques b class too_many is)
  no_uniques b bounds.Cycle gives other (class, below, is) = (b, gives, measures.Uniques class, below, is)
