-- The effect of each kind of step on the demand (the number of pages of the store in use).
use Rattle.std.proofs.Common.{◌≡◌, ℕ, zero, suc, ◌+◌, Bool, true, false, List, [], ◌∷◌, ◌++◌, set, Some, None, refl, ap, arith}
use Rattle.std.specs.Prelude.{if◌then◌else◌, slice_get}
use Rattle.cyc_words.specs.Demand.{total, region_pages, demand_of}
use Rattle.cyc_meaning.specs.Values.{block_size}
use Rattle.cyc_meaning.specs.Objects.{class_of_cells, live_in, raised}
use Rattle.cyc_meaning.specs.State.{Region, World, new_region, has_pages, counted}
use Rattle.cyc_meaning.specs.inside.Effects.{Changes, Keeps, Opens, Closes, Makes, MakesIn, MakesUnique, Frees, Writes, Prints, Reads, pages_in, DemandChanges}
use Rattle.cyc_meaning.proofs.NestingLemmas.{region_found}

-- Returns the sum of the pages of all regions.
abbrev all_pages : List Region → ℕ
all_pages [] = 0
all_pages (r ∷ regions) = pages_in r + all_pages regions

counted_pages : (regions : List Region) (classes : List ℕ) → demand_of (counted regions) classes ≡ all_pages regions + total classes
counted_pages [] classes = omega arith
counted_pages (r ∷ regions) classes = go (has_pages r.sort r.is_open) (counted_pages regions classes)
  where
    go : (b : Bool) → demand_of (counted regions) classes ≡ all_pages regions + total classes
        → demand_of (if b then r.blocks ∷ counted regions else counted regions) classes ≡ (if b then region_pages r.blocks else 0) + all_pages regions + total classes
    go true same = omega (arith, same)
    go false same = omega (arith, same)

pages-append : (regions : List Region) (r : Region) → all_pages (regions ++ r ∷ []) ≡ all_pages regions + pages_in r
pages-append [] r = omega arith
pages-append (s ∷ regions) r = omega (arith, pages-append regions r)

pages-set : (regions : List Region) (n : ℕ) (r s : Region) → slice_get regions n ≡ Some r → all_pages (set regions n s) + pages_in r ≡ all_pages regions + pages_in s
pages-set [] n r s there = absurd (let e : None ≡ Some r = there in cc)
pages-set (x ∷ regions) zero r s there =
    let e : Some x ≡ Some r = there in
    let same : x ≡ r = cc in
    let pages : pages_in x ≡ pages_in r = ap (λ (y : Region). pages_in y) same in
    omega (arith, pages)
pages-set (x ∷ regions) (suc n) r s there = omega (arith, pages-set regions n r s there)

pub demand_changes : (w new : World) (printed : List ℕ) (count : ℕ) (change : Changes w printed count new) → DemandChanges change
demand_changes w new printed count Keeps = refl
demand_changes w new printed count (Opens sort) =
    omega (arith, counted_pages w.regions w.classes, counted_pages (w.regions ++ new_region sort ∷ []) w.classes, pages-append w.regions (new_region sort))
demand_changes w new printed count (Closes number r found) =
    let s : Region = record r { is_open = false } in
    omega (arith, counted_pages w.regions w.classes, counted_pages (set w.regions number s) w.classes, pages-set w.regions number r s (region_found w number r found))
demand_changes w new printed count (Makes number r kind content found) = refl
demand_changes w new printed count (MakesIn number r cells found) =
    let s : Region = record r { blocks = r.blocks ++ block_size cells ∷ [] } in
    omega (arith, counted_pages w.regions w.classes, counted_pages (set w.regions number s) w.classes, pages-set w.regions number r s (region_found w number r found))
demand_changes w new printed count (MakesUnique cells) = omega (arith, counted_pages w.regions w.classes, counted_pages w.regions (raised w.classes (class_of_cells cells) (suc (live_in (class_of_cells cells) w.objects))))
demand_changes w new printed count (Frees number x there live) = refl
demand_changes w new printed count (Writes object offset at value found) = refl
demand_changes w new printed count (Prints word) = refl
demand_changes w new printed count Reads = refl
