-- Lemmas about the regions that are live in the whole body of a function.
use Rattle.std.proofs.Common.{◌≡◌, ◌<◌, ◌≤◌, ℕ, zero, suc, true, List, map, ◌∙◌, arith}
use Rattle.std.specs.List.{list_any}
use Rattle.std.proofs.lemmas.Bool.{or_right}
use Rattle.std.proofs.lemmas.List.Folds.{list_any-append}
use Rattle.cyc_types.specs.declared.region.Region.{Region}
use Rattle.cyc_types.specs.declared.region.Region.TheVariants.{Heap, Variable}
use Rattle.cyc_types.specs.declared.scope.Scope.{Scope}
use Rattle.cyc_types.specs.Types.{region_eq, is_region_among}
use Rattle.cyc_types.specs.Outlives.{live_regions}
use Rattle.cyc_scope.specs.inside.Throughout.{AreThroughout}

-- a region that is live before any scope opens stays live while scopes are open
live_before : (r : Region) (live : List Region) (opened : List Scope) → is_region_among r live ≡ true → is_region_among r (live_regions live opened) ≡ true
live_before r live opened h =
    list_any-append (λ a. region_eq a r) (map (λ (s : Scope). s.region) opened) live
    ∙ or_right (list_any (λ a. region_eq a r) (map (λ (s : Scope). s.region) opened)) (is_region_among r live) h

pub heap_throughout : (live : List Region) (opened : List Scope) (count : ℕ) → AreThroughout live count → is_region_among Heap (live_regions live opened) ≡ true
heap_throughout live opened count all = live_before Heap live opened all.heap

pub live_throughout : (live : List Region) (opened : List Scope) (count n : ℕ) → AreThroughout live count → 0 < n → n ≤ count → is_region_among (Variable n) (live_regions live opened) ≡ true
live_throughout live opened count zero all some most = absurd (omega (arith, some))
live_throughout live opened count (suc n) all some most = live_before (Variable (suc n)) live opened (all.variables n (omega (arith, most)))
