-- An upper bound on the pages of a program, computed from the costs of its runs. The costs count regions, the blocks in regions, the
-- words of these blocks, and the unique blocks of each size class.
--
-- If only objects made by `new` can outlast every lexical region, the end of an outermost region frees everything that was opened and
-- allocated in the region. If other objects may outlast every lexical region, no cost is subtracted when regions close. Freeing a unique
-- block by `ufree` subtracts no cost from the bound. The bound on pages is this project's own choice.
use Rattle.std.specs.Prelude.{◌≡◌, ◌<◌, ◌≤◌, ◌⊎◌, ℕ, zero, suc, ◌+◌, ◌*◌, ◌/◌, Bool, true, false, min}
use Rattle.cyc_words.specs.Demand.{page_words, greatest_class, pages_for}
use Rattle.cyc_types.specs.TypedTrees.{Program}
use Rattle.cyc_bound.specs.declared.costs.Measure.{Measure}
use Rattle.cyc_bound.specs.declared.costs.Measure.TheVariants as measures
use Rattle.cyc_bound.specs.declared.pages.PageBound.{PageBound}
use Rattle.cyc_bound.specs.declared.pages.PageBound.TheVariants as bounds
use Rattle.cyc_bound.specs.Costs.{too_many, IsRunCost, StillGrow}
use Rattle.cyc_bound.specs.AtOnce.{IsAtOnce}

-- ---- two ways to count

-- Says that lexical regions free everything allocated by a handle: a run uses no handle of the heap as a value, and no dynamic region.
-- In such a program, each object allocated by a handle is in a lexical region.
abbrev pub GivesBack : Program → (gives_back : Bool) → Type 0
GivesBack program true = IsRunCost program measures.Lasting 0
GivesBack program false = ((cost : ℕ) × IsRunCost program measures.Lasting (suc cost)) ⊎ StillGrow program measures.Lasting

-- Says that a measure (a kind of counted cost) is one of those that determine the number of pages. If lexical regions free
-- everything allocated by a handle, the blocks of the heap are counted separately from the blocks of other regions.
abbrev pub IsForPages : (gives_back : Bool) → Measure → Type 0
IsForPages gives_back (measures.Uniques class) = class ≤ greatest_class
IsForPages gives_back measures.Openings = Unit {0}
IsForPages true measures.HeapBlocks = Unit {0}
IsForPages true measures.HeapWords = Unit {0}
IsForPages true measures.RegionBlocks = Unit {0}
IsForPages true measures.RegionWords = Unit {0}
IsForPages false measures.Blocks = Unit {0}
IsForPages false measures.Words = Unit {0}
IsForPages gives_back m = ⊥

-- says that `cost` is the cost for a measure; for a measure of regions it is the cost of regions open at the same time if regions free
-- their blocks, otherwise that of a run
abbrev pub IsCost : Program → (gives_back : Bool) → Measure → ℕ → Type 0
IsCost program true measures.Openings cost = IsAtOnce program measures.Openings cost
IsCost program true measures.RegionBlocks cost = IsAtOnce program measures.RegionBlocks cost
IsCost program true measures.RegionWords cost = IsAtOnce program measures.RegionWords cost
IsCost program gives_back m cost = IsRunCost program m cost

-- says that `cost` gives the program's cost for each measure that determines the number of pages, and that all
-- these costs are below the greatest counted value
abbrev pub AreCounted : Program → (gives_back : Bool) → (cost : Measure → ℕ) → Type 0
AreCounted program gives_back cost =
    GivesBack program gives_back × ((m : Measure) → IsForPages gives_back m → IsCost program gives_back m (cost m) × (cost m < too_many))

-- ---- pages

-- The number of pages of regions besides the first page of each region, computed from the total numbers of blocks and words. Each
-- page after a region's first begins with a block, and two consecutive pages of a region contain more words than one page.
abbrev pub further_pages : (blocks words : ℕ) → ℕ
further_pages blocks words = min blocks (2 * words / suc page_words)

-- the number of pages for the unique blocks of the first `classes` size classes
abbrev pub unique_pages : (cost : Measure → ℕ) → (classes : ℕ) → ℕ
unique_pages cost zero = 0
unique_pages cost (suc class) = unique_pages cost class + pages_for class (cost (measures.Uniques class))

-- The number of pages of all regions: one first page for each region, and the pages that its blocks need besides the first page. If lexical
-- regions free their blocks, the number of pages is the sum of the heap's pages and the pages of regions open at the same time.
abbrev pub most_region_pages : (gives_back : Bool) → (cost : Measure → ℕ) → ℕ
most_region_pages true cost =
    1 + further_pages (cost measures.HeapBlocks) (cost measures.HeapWords)
    + (cost measures.Openings + further_pages (cost measures.RegionBlocks) (cost measures.RegionWords))
most_region_pages false cost = cost measures.Openings + further_pages (cost measures.Blocks) (cost measures.Words)

abbrev pub most_pages : (gives_back : Bool) → (cost : Measure → ℕ) → ℕ
most_pages gives_back cost = most_region_pages gives_back cost + unique_pages cost (suc greatest_class)

-- ---- the result for pages

-- Says that the result for pages is a number that no run exceeds, or that it gives no number. The result gives no number if the costs
-- give no bound below `too_many` for a measure that determines the pages. The result also gives no number if a cost that determines
-- the pages still grows after the last round.
abbrev pub IsPageAnswer : Program → PageBound → Type 0
IsPageAnswer program (bounds.Pages count) = (gives_back : Bool) × (cost : Measure → ℕ) × AreCounted program gives_back cost × (count ≡ most_pages gives_back cost)
IsPageAnswer program bounds.TooMany = (gives_back : Bool) × GivesBack program gives_back × (m : Measure) × IsForPages gives_back m × IsCost program gives_back m too_many
IsPageAnswer program bounds.Cycle = (gives_back : Bool) × GivesBack program gives_back × (m : Measure) × IsForPages gives_back m × StillGrow program m
