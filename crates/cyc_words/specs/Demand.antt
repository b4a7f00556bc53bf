-- This file computes the number of pages that a program needs of the store (the demand) from the sizes of its blocks. A region is a chain
-- of pages that are filled in order. The definition is this project's own choice, in the manner of region allocators (Grossman et al.
-- 2002).
use Rattle.std.specs.Prelude.{ℕ, zero, suc, ◌+◌, ◌-◌, ◌/◌, ◌^◌, max, nat_le, List, [], ◌∷◌, if◌then◌else◌}

-- the number of words in a page
abbrev pub page_words : ℕ
page_words = 1024

-- ---- regions

-- The number of pages after the allocation of blocks of these sizes in words. At first there are `pages` pages, and the last page has
-- `filled` filled words. A block that does not fit into the rest of the last page begins a new page.
abbrev pub pages_from : (pages filled : ℕ) → List ℕ → ℕ
pages_from pages filled [] = pages
pages_from pages filled (size ∷ sizes) =
    if nat_le (filled + size) page_words then pages_from pages (filled + size) sizes else pages_from (suc pages) size sizes

-- The number of pages of a region with blocks of these sizes; a new region has one page.
abbrev pub region_pages : List ℕ → ℕ
region_pages sizes = pages_from 1 0 sizes

-- ---- unique blocks

-- A block's size class is the exponent of the least power of two that is at least the block's size in words. The greatest
-- size class is a complete page.
abbrev pub greatest_class : ℕ
greatest_class = 10

abbrev pub class_from : (left class size : ℕ) → ℕ
class_from zero class size = class
class_from (suc left) class size = if nat_le size (2 ^ class) then class else class_from left (suc class) size

abbrev pub class_of : (size : ℕ) → ℕ
class_of size = class_from greatest_class 0 size

-- the number of blocks of a size class that fit into one page
abbrev pub blocks_in_page : (class : ℕ) → ℕ
blocks_in_page class = page_words / 2 ^ class

-- The number of pages that this many live blocks of a size class need, rounded up.
abbrev pub pages_for : (class live : ℕ) → ℕ
pages_for class live = (live + (blocks_in_page class - 1)) / blocks_in_page class

-- The number of pages of a size class: the number that its largest number of live blocks so far needs. `live` lists the number of live
-- blocks in each state.
abbrev pub class_pages : (class : ℕ) → (live : List ℕ) → ℕ
class_pages class [] = 0
class_pages class (n ∷ live) = max (pages_for class n) (class_pages class live)

-- ---- the total demand

abbrev pub total : List ℕ → ℕ
total [] = 0
total (n ∷ ns) = n + total ns

-- The number of pages of all regions, given the block sizes of each region, plus the pages of all size classes.
abbrev pub demand_of : (regions : List (List ℕ)) → (classes : List ℕ) → ℕ
demand_of [] classes = total classes
demand_of (sizes ∷ regions) classes = region_pages sizes + demand_of regions classes
