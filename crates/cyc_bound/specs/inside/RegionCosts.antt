-- The costs of the declarations and statements of blocks, which the code visits one by one to find the costs of regions. The file
-- also defines the costs for regions open at the same time, and the costs for the pages of regions.
use Rattle.std.specs.Prelude.{◌≡◌, ◌<◌, ◌^◌, ℕ, Bool, true, false, List, Option, Some, None}
use Rattle.cyc_types.specs.TypedTrees.{Item, Execute, DeclareRegion, Program}
use Rattle.cyc_bound.specs.declared.costs.Measure.{Measure}
use Rattle.cyc_bound.specs.declared.costs.Measure.TheVariants as measures
use Rattle.cyc_bound.specs.declared.pages.PageBound.{PageBound}
use Rattle.cyc_bound.specs.declared.pages.PageBound.TheVariants as bounds
use Rattle.cyc_bound.specs.Costs.{too_many, StillGrow}
use Rattle.cyc_bound.specs.AtOnce.{statement_at_once, IsAtOnce}
use Rattle.cyc_bound.specs.Pages.{IsForPages, IsCost, most_region_pages}

-- true if an element of a block declares a lexical region
abbrev pub opens : Item → Bool
opens (DeclareRegion r n) = true
opens j = false

-- the cost of the costliest outermost region inside an element of a block that declares no region itself
abbrev pub item_at_once : Measure → (costs : List ℕ) → Item → ℕ
item_at_once m costs (Execute s) = statement_at_once m costs s
item_at_once m costs j = 0

-- says that the result is the cost of the costliest outermost region, or that the costs of functions still grow after the last round
abbrev pub IsAtOnceFound : Program → Measure → Option ℕ → Type 0
IsAtOnceFound program m (Some cost) = IsAtOnce program m cost
IsAtOnceFound program m None = StillGrow program m

-- says that a measure (a kind of counted cost) is one of those that determine the number of pages of regions
abbrev pub IsOfRegions : Measure → Type 0
IsOfRegions (measures.Uniques class) = ⊥
IsOfRegions m = Unit {0}

-- says that `cost` gives the cost for each measure that determines the pages of regions, and that
-- these costs are below the greatest counted value
abbrev pub AreRegionsCounted : Program → (gives_back : Bool) → (cost : Measure → ℕ) → Type 0
AreRegionsCounted program gives_back cost = (m : Measure) → IsForPages gives_back m → IsOfRegions m → IsCost program gives_back m (cost m) × (cost m < too_many)

-- says that the result is the number of pages of regions, or the reason why there is no bound on these pages
abbrev pub IsRegionAnswer : Program → (gives_back : Bool) → PageBound → Type 0
IsRegionAnswer program gives_back (bounds.Pages pages) = (cost : Measure → ℕ) × AreRegionsCounted program gives_back cost × (pages ≡ most_region_pages gives_back cost) × (pages < 2 ^ 53)
IsRegionAnswer program gives_back bounds.TooMany = (m : Measure) × IsForPages gives_back m × IsCost program gives_back m too_many
IsRegionAnswer program gives_back bounds.Cycle = (m : Measure) × IsForPages gives_back m × StillGrow program m
