-- The counts of the pages in use, in all and for each region, and their relation to the blocks of a page store.
use Rattle.std.specs.Prelude.{◌≡◌, ℕ, List, Some, length, slice_index}
use Rattle.cyc_words.specs.Demand.{region_pages}
use Rattle.cyc_store.specs.State.{lookup, Home, handle_of, sizes_of, demand}
use Rattle.cyc_store.specs.Ledger.{Blocks, plain_store}
use Rattle.cyc_store.specs.inside.Kept.{handle_of_page}

-- The counts of a store: the number of pages of the region that begins at each page, and the number of pages in use.
pub record Counts : Type 0 where
  pub regions : List ℕ
  pub pages : ℕ

-- Says that the counts are right in a store of `most` pages: the pages in use are those that the blocks require.
pub record IsUsage (counts : Counts) (most : ℕ) (b : Blocks) : Type 0 where
  pub all : length counts.regions ≡ most
  pub pages : counts.pages ≡ demand (plain_store b)
  pub regions : (page : ℕ) (r : Home) → lookup handle_of b.regions (handle_of_page page) ≡ Some r → slice_index counts.regions page ≡ region_pages (sizes_of r.blocks)
