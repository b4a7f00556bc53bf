-- This file defines the blocks of a store as data, separate from the words of its pages, for a store on an array of words. The form of this
-- data about blocks is this project's own choice.
use Rattle.std.specs.Prelude.{◌≡◌, ℕ, ◌+◌, ◌-◌, ◌/◌, ◌%◌, ◌==◌, ◌&&◌, nat_le, if◌then◌else◌, ◌*◌, ◌≤◌, length, suc, List, [], slice_index, set}
use Rattle.cyc_store.specs.State.{without, Memory, Block, address_of, Lexical, Dynamic, Home, handle_of, StoreState, start, demand, opened, lexical_count, down_to, made_in, made_unique}
use Rattle.cyc_store.specs.declared.change.Change.{Change}
use Rattle.cyc_store.specs.declared.change.Change.TheVariants.{OpenedLexical, OpenedDynamic, Closed, Made, Stocked, MadeUnique, Freed}
use Rattle.cyc_store.specs.declared.range.TheConstants.{STORE_BASE, PAGE_WORDS}

-- The blocks of a store: the open regions, the live unique blocks, and the number of pages of each size class.
pub record Blocks : Type 0 where
  pub regions : List Home
  pub unique : List Block
  pub classes : List ℕ

-- The word at each address, if the words of all pages are stored consecutively in a list.
abbrev pub memory_of : (words : List ℕ) → Memory
memory_of words = λ (address : ℕ).
    if (address % 4 == 0) && nat_le STORE_BASE address then slice_index words ((address - STORE_BASE) / 4) else 0

abbrev pub store_of : (pages : ℕ) → (words : List ℕ) → Blocks → StoreState
store_of pages words b = record { pages = pages; regions = b.regions; unique = b.unique; classes = b.classes; memory = memory_of words }

abbrev pub blocks_of : StoreState → Blocks
blocks_of s = record { regions = s.regions; unique = s.unique; classes = s.classes }

-- A store that has these blocks, no pages and no words.
abbrev pub plain_store : Blocks → StoreState
plain_store b = store_of 0 [] b

abbrev pub no_blocks : Blocks
no_blocks = blocks_of (start 0 (memory_of []))

-- The effect of a call on the blocks.
abbrev pub after : Blocks → Change → Blocks
after b (OpenedLexical handle) = blocks_of (opened (plain_store b) handle Lexical)
after b (OpenedDynamic handle) = blocks_of (opened (plain_store b) handle Dynamic)
after b (Closed handle) = record b { regions = without handle_of b.regions handle }
after b (Made handle address words) = blocks_of (made_in (plain_store b) handle (record { address = address; size = words }))
after b (Stocked class) = record b { classes = set b.classes class (suc (slice_index b.classes class)) }
after b (MadeUnique address words) = blocks_of (made_unique (plain_store b) (record { address = address; size = words }))
after b (Freed address) = record b { unique = without address_of b.unique address }

-- The view of a store on an array of words that the contracts use. The view consists of the number of pages, the words of the used pages,
-- the blocks, and the capacity of the table of open lexical regions.
pub record Stored : Type 0 where
  pub pages : ℕ
  pub words : List ℕ
  pub blocks : Blocks
  pub room : ℕ

abbrev pub held_of : Stored → StoreState
held_of s = store_of s.pages s.words s.blocks

-- Says that regions and size classes own every page of the array, so the array grows before another page is taken.
abbrev pub IsUsedUp : Stored → Type 0
IsUsedUp s = length s.words ≡ PAGE_WORDS * demand (held_of s)

-- Says that the table of the open lexical regions has reached its capacity.
abbrev pub HasNoRoom : Stored → Type 0
HasNoRoom s = s.room ≤ lexical_count s.blocks.regions

-- Says that the newest lexical region was closed.
pub record Unwinds (old new : Stored) : Type 0 where
  pub count : lexical_count old.blocks.regions ≡ lexical_count new.blocks.regions + 1
  pub regions : new.blocks.regions ≡ down_to (lexical_count new.blocks.regions) old.blocks.regions
  pub same : new ≡ record old { blocks = record old.blocks { regions = new.blocks.regions } }
