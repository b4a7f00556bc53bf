-- This file defines the page model: blocks are laid out in pages. A page is free or has an owner, which is given by the handle of a region.
-- The words of a page are filled from the first on, up to the page's fill mark. The representation of pages and marks is left open. (Pages
-- that are filled in order are those of region allocators (Grossman et al. 2002); the model is this project's own choice.)
use Rattle.std.specs.Prelude.{◌≡◌, ℕ, ◌+◌, ◌*◌, ◌<◌, ◌≤◌, ◌==◌, suc, nat_le, if◌then◌else◌, List, [], ◌∷◌, length, Option, Some, None}
use Rattle.std.specs.List.{AllByRecursion}
use Rattle.cyc_words.specs.Distinct.{IsDistinct}
use Rattle.cyc_store.specs.State.{lookup, put, Block, Home, handle_of, StoreState, homes, sizes_of, demand}
use Rattle.cyc_store.specs.declared.range.TheConstants.{STORE_BASE, PAGE_WORDS}

-- the address of a page's first word
abbrev pub page_start : (page : ℕ) → ℕ
page_start page = STORE_BASE + 4 * (PAGE_WORDS * page)

-- Says that the block lies in the words of a page between the word indices `low` and `high`.
pub record LiesIn (page low high : ℕ) (b : Block) : Type 0 where
  pub word : ℕ
  pub at : b.address ≡ page_start page + 4 * word
  pub after : low ≤ word
  pub before : word + b.size ≤ high
  pub some : 0 < b.size

pub record Pages : Type 0 where
  pub owner : ℕ → Option ℕ
  pub filled : ℕ → ℕ

-- Says that no page is filled past its end.
abbrev pub AreFilled : Pages → Type 0
AreFilled pages = (page : ℕ) → pages.filled page ≤ PAGE_WORDS

-- Says that the block lies in the filled words of a page that its region owns.
pub record IsLaid (pages : Pages) (handle : ℕ) (b : Block) : Type 0 where
  pub page : ℕ
  pub owned : pages.owner page ≡ Some handle
  pub lies : LiesIn page 0 (pages.filled page) b

abbrev pub AreLaidIn : Pages → (handle : ℕ) → List Block → Type 0
AreLaidIn pages handle [] = Unit {0}
AreLaidIn pages handle (b ∷ bs) = IsLaid pages handle b × AreLaidIn pages handle bs

abbrev pub AreLaid : Pages → List Home → Type 0
AreLaid pages [] = Unit {0}
AreLaid pages (r ∷ rs) = AreLaidIn pages r.handle r.blocks × AreLaid pages rs

-- ---- changes of pages

-- The pages after this page is filled up to word `words`.
abbrev pub filled_to : Pages → (page words : ℕ) → Pages
filled_to pages page words = record pages { filled = put pages.filled page words }

-- The pages after a free page was taken for the region with this handle, with no words filled.
abbrev pub drawn : Pages → (page handle : ℕ) → Pages
drawn pages page handle = record {
  owner = λ (other : ℕ). if other == page then Some handle else pages.owner other;
  filled = put pages.filled page 0;
}

-- the pages after all pages of a region were freed
abbrev pub owner_without : (handle : ℕ) → Option ℕ → Option ℕ
owner_without handle None = None
owner_without handle (Some owner) = if owner == handle then None else Some owner

abbrev pub given_back : Pages → (handle : ℕ) → Pages
given_back pages handle = record pages { owner = λ (page : ℕ). owner_without handle (pages.owner page) }

-- ---- the pages and the fill mark of a region

-- A number of pages, and the number of filled words in the last of these pages.
pub record Mark : Type 0 where
  pub pages : ℕ
  pub filled : ℕ

-- The fill mark of a region, that is, its pages and the filled words of the last page, after a further block is allocated.
abbrev pub next_mark : Mark → (size : ℕ) → Mark
next_mark m size =
    if nat_le (m.filled + size) PAGE_WORDS then record { pages = m.pages; filled = m.filled + size }
    else record { pages = suc m.pages; filled = size }

abbrev pub mark_from : Mark → List ℕ → Mark
mark_from m [] = m
mark_from m (size ∷ sizes) = mark_from (next_mark m size) sizes

-- The fill mark of a region: the number of its pages and the number of filled words of its last page.
abbrev pub mark_of : Home → Mark
mark_of r = mark_from (record { pages = 1; filled = 0 }) (sizes_of r.blocks)

-- The newest page of a region, which the region owns and which is filled as the region's blocks require.
pub record HasNewest (pages : Pages) (r : Home) : Type 0 where
  pub page : ℕ
  pub owned : pages.owner page ≡ Some r.handle
  pub mark : pages.filled page ≡ (mark_of r).filled

-- All pages of a region: the newest page and the earlier ones.
pub record HasChain (pages : Pages) (r : Home) : Type 0 where
  pub newest : HasNewest pages r
  pub older : List ℕ
  pub owned : AllByRecursion (λ (p : ℕ). pages.owner p ≡ Some r.handle) older
  pub apart : IsDistinct (newest.page ∷ older)
  pub many : suc (length older) ≡ (mark_of r).pages

-- Says that a page is free and may be taken.
pub record IsFree (count : ℕ) (pages : Pages) (page : ℕ) : Type 0 where
  pub owner : pages.owner page ≡ None
  pub below : page < count

-- Says that the blocks of a store have a layout in pages, and that the free pages are those that the store does not need.
pub record IsPaged (s : StoreState) (pages : Pages) (free : List ℕ) : Type 0 where
  pub laid : AreLaid pages (homes s)
  pub filled : AreFilled pages
  pub below : (page h : ℕ) → pages.owner page ≡ Some h → page < s.pages
  pub unowned : AllByRecursion (IsFree s.pages pages) free
  pub apart : IsDistinct free
  pub count : length free + demand s ≡ s.pages
  pub chains : (h : ℕ) (r : Home) → lookup handle_of s.regions h ≡ Some r → HasChain pages r
