-- This file defines the page model with unique blocks. A page of a class is cut into slots of the size of the class, and each slot
-- contains at most one live block. All empty slots of a class are on the class's list of dead slots. The page model with unique blocks is
-- this project's own choice.
use Rattle.std.specs.Prelude.{◌≡◌, ℕ, zero, suc, ◌+◌, ◌*◌, ◌^◌, ◌<◌, ◌≤◌, true, List, [], ◌∷◌, Option, None, Some, length, slice_index, set}
use Rattle.std.specs.List.{AllByRecursion}
use Rattle.cyc_words.specs.Demand.{greatest_class, class_of, blocks_in_page}
use Rattle.cyc_words.specs.Distinct.{IsDistinct}
use Rattle.cyc_store.specs.State.{lookup, Block, address_of, Home, StoreState, homes, covers, block_at, demand, live_in, raised, made_unique}
use Rattle.cyc_store.specs.Services.{IsPlaced, IsApart}
use Rattle.cyc_store.specs.Soundness.{IsSound}
use Rattle.cyc_store.specs.declared.range.TheConstants.{STORE_BASE, PAGE_WORDS, UNIQUE}
use Rattle.cyc_store.specs.Pages.{Pages, IsPaged}

-- The address of a word, given the word's index among the words of all pages.
abbrev pub place_of : (word : ℕ) → ℕ
place_of word = STORE_BASE + 4 * word

-- The layout of the blocks of a store: the pages, the free pages, and the class of each page of unique blocks. For each class, the
-- layout has the first words of the empty slots.
pub record Layout : Type 0 where
  pub pages : Pages
  pub free : List ℕ
  pub class : ℕ → ℕ
  pub dead : ℕ → List ℕ

abbrev pub slot_block : (class word : ℕ) → Block
slot_block class word = record { address = place_of word; size = 2 ^ class }

-- Says that a slot of this size class begins at the word with this index.
pub record IsSlot (owner : ℕ → Option ℕ) (class_at : ℕ → ℕ) (class word : ℕ) : Type 0 where
  pub page : ℕ
  pub number : ℕ
  pub owned : owner page ≡ Some UNIQUE
  pub same : class_at page ≡ class
  pub at : word ≡ PAGE_WORDS * page + number * 2 ^ class
  pub fits : number * 2 ^ class + 2 ^ class ≤ PAGE_WORDS

-- Says that a live unique block fills a slot of its class.
pub record IsLiveSlot (owner : ℕ → Option ℕ) (class_at : ℕ → ℕ) (b : Block) : Type 0 where
  pub class : ℕ
  pub word : ℕ
  pub slot : IsSlot owner class_at class word
  pub is : b ≡ slot_block class word

pub record IsDeadSlot (unique : List Block) (owner : ℕ → Option ℕ) (class_at : ℕ → ℕ) (class word : ℕ) : Type 0 where
  pub slot : IsSlot owner class_at class word
  pub none : lookup address_of unique (place_of word) ≡ None

pub record AreSlots (unique : List Block) (classes : List ℕ) (l : Layout) : Type 0 where
  pub bound : (page : ℕ) → l.pages.owner page ≡ Some UNIQUE → l.class page ≤ greatest_class
  pub whole : (page : ℕ) → l.pages.owner page ≡ Some UNIQUE → l.pages.filled page ≡ PAGE_WORDS
  pub live : (first : ℕ) (b : Block) → lookup address_of unique first ≡ Some b → IsLiveSlot l.pages.owner l.class b
  pub dead : (class : ℕ) → class ≤ greatest_class → AllByRecursion (IsDeadSlot unique l.pages.owner l.class class) (l.dead class)
  pub apart : (class : ℕ) → class ≤ greatest_class → IsDistinct (l.dead class)
  pub count : (class : ℕ) → class ≤ greatest_class → live_in class unique + length (l.dead class) ≡ slice_index classes class * blocks_in_page class

-- Says that an address lies in a block of the region with this handle.
pub record IsCovered (rs : List Home) (handle address : ℕ) : Type 0 where
  pub block : Block
  pub at : block_at rs handle block.address ≡ Some block
  pub inside : covers block address ≡ true

pub record IsLaidOut (s : StoreState) (l : Layout) : Type 0 where
  pub sound : IsSound s
  pub paged : IsPaged s l.pages l.free
  pub covered : (page word handle : ℕ) → l.pages.owner page ≡ Some handle → (handle ≡ UNIQUE → ⊥) → word < l.pages.filled page
      → IsCovered s.regions handle (place_of (PAGE_WORDS * page + word))
  pub slots : AreSlots s.unique s.classes l

-- The first words of `count` consecutive slots.
abbrev pub slots_from : (size word count : ℕ) → List ℕ
slots_from size word zero = []
slots_from size word (suc count) = word ∷ slots_from size (word + size) count

-- Says that some page of the size class has an empty slot.
abbrev pub HasSlot : StoreState → (class : ℕ) → Type 0
HasSlot s class = live_in class s.unique < slice_index s.classes class * blocks_in_page class

-- Says that every page of the store is in use.
abbrev pub IsSpent : StoreState → Type 0
IsSpent s = demand s ≡ s.pages

-- The store after the size class got one more page.
abbrev pub with_page : StoreState → (class : ℕ) → StoreState
with_page s class = record s { classes = set s.classes class (suc (slice_index s.classes class)) }

-- Says that t is the store s after a block was allocated in an empty slot.
pub record Fills (s : StoreState) (class address : ℕ) (t : StoreState) : Type 0 where
  pub placed : IsPlaced s.pages (record { address = address; size = 2 ^ class })
  pub apart : IsApart (homes s) (record { address = address; size = 2 ^ class })
  pub classes : raised s.classes (class_of (2 ^ class)) (suc (live_in (class_of (2 ^ class)) s.unique)) ≡ s.classes
  pub held : t ≡ made_unique s (record { address = address; size = 2 ^ class })

-- Says that t is the store s after a page was cut into slots of a size class.
pub record Stocks (s : StoreState) (class : ℕ) (t : StoreState) : Type 0 where
  pub room : demand (with_page s class) ≤ s.pages
  pub held : t ≡ with_page s class
