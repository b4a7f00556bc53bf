-- This file defines the content of a store: regions, unique blocks, and the words of memory. The regions are those of Grossman et al.
-- (2002). A block is an address and a size; the words are one function of the address, so writing a word changes no block. A store may
-- place blocks anywhere: page boundaries are not part of the content.
use Rattle.std.specs.Prelude.{ℕ, zero, suc, ◌+◌, ◌*◌, ◌%◌, ◌^◌, ◌==◌, ◌&&◌, nat_le, nat_lt, max, Bool, true, false, if◌then◌else◌, List, [], ◌∷◌, ◌++◌, map, Option, Some, None, slice_index, set, ◌≡◌}
use Rattle.cyc_words.specs.Word.{IsWord}
use Rattle.cyc_words.specs.Demand.{class_of, pages_for, demand_of}
use Rattle.cyc_store.specs.declared.range.TheConstants.{HEAP, UNIQUE}

-- ---- lists indexed by a key that each element has, so that removing an element does not shift the other elements

-- The first element of a list with this key.
abbrev pub lookup : {A : Type 0} → (key : A → ℕ) → List A → (number : ℕ) → Option A
lookup key [] number = None
lookup key (x ∷ xs) number = if key x == number then Some x else lookup key xs number

-- The list without the elements that have this key.
abbrev pub without : {A : Type 0} → (key : A → ℕ) → List A → (number : ℕ) → List A
without key [] number = []
without key (x ∷ xs) number = if key x == number then without key xs number else x ∷ without key xs number

-- The list after its first element with this key is changed.
abbrev pub changed : {A : Type 0} → (key : A → ℕ) → (change : A → A) → List A → (number : ℕ) → List A
changed key change [] number = []
changed key change (x ∷ xs) number = if key x == number then change x ∷ xs else x ∷ changed key change xs number

-- Says that all keys in the list are different.
abbrev pub AreDistinct : {A : Type 0} → (key : A → ℕ) → List A → Type 0
AreDistinct key [] = Unit {0}
AreDistinct key (x ∷ xs) = (lookup key xs (key x) ≡ None) × AreDistinct key xs

-- ---- memory

-- A memory gives the word at each address.
abbrev pub Memory : Type 0
Memory = ℕ → ℕ

abbrev pub put : Memory → (address word : ℕ) → Memory
put memory address word = λ (other : ℕ). if other == address then word else memory other

abbrev pub AreWords : Memory → Type 0
AreWords memory = (address : ℕ) → IsWord (memory address)

-- ---- blocks and regions

-- A block is given by its first address, a multiple of 4, and its number of words.
pub record Block : Type 0 where
  pub address : ℕ
  pub size : ℕ

abbrev pub address_of : Block → ℕ
address_of b = b.address

-- The sort of a region: the heap, a lexical region, a dynamic region, or the region of the unique blocks.
pub data Sort : Type 0 where
  Heap : Sort
  Lexical : Sort
  Dynamic : Sort
  Uniques : Sort

-- A region of the store, with its blocks in the order of their allocation.
pub record Home : Type 0 where
  pub handle : ℕ
  pub sort : Sort
  pub blocks : List Block

abbrev pub handle_of : Home → ℕ
handle_of r = r.handle

-- A region that was just opened and has no blocks.
abbrev pub empty_home : (handle : ℕ) → Sort → Home
empty_home handle sort = record { handle = handle; sort = sort; blocks = [] }

-- The content of a store. A store lists its open regions, and the lexical regions among them, in the order of their opening.
pub record StoreState : Type 0 where
  pub pages : ℕ
  pub regions : List Home
  -- the live unique blocks
  pub unique : List Block
  -- For each class of unique blocks, the number of pages that its largest number of live blocks so far needs.
  pub classes : List ℕ
  pub memory : Memory

-- All regions of a store, preceded by the unique blocks as one more region with a separate handle.
abbrev pub homes : StoreState → List Home
homes s = record { handle = UNIQUE; sort = Uniques; blocks = s.unique } ∷ s.regions

-- A new store, which contains only the empty heap; the size classes are those of 1, 2, 4 and so on up to 1,024 words.
abbrev pub start : (pages : ℕ) → Memory → StoreState
start pages memory = record {
  pages = pages;
  regions = empty_home HEAP Heap ∷ [];
  unique = [];
  classes = 0 ∷ 0 ∷ 0 ∷ 0 ∷ 0 ∷ 0 ∷ 0 ∷ 0 ∷ 0 ∷ 0 ∷ 0 ∷ [];
  memory = memory;
}

-- ---- the block at an address

abbrev pub covers : Block → (address : ℕ) → Bool
covers b address = nat_le b.address address && nat_lt address (b.address + 4 * b.size)

-- A block together with the handle of its region.
pub record Holder : Type 0 where
  pub handle : ℕ
  pub block : Block

abbrev pub holder_in : (handle : ℕ) → List Block → (address : ℕ) → Option Holder
holder_in handle [] address = None
holder_in handle (b ∷ bs) address =
    if covers b address then Some (record { handle = handle; block = b }) else holder_in handle bs address

abbrev pub or_else : Option Holder → Option Holder → Option Holder
or_else None other = other
or_else (Some h) other = Some h

-- The live block that contains an address.
abbrev pub holder : List Home → (address : ℕ) → Option Holder
holder [] address = None
holder (r ∷ rs) address = or_else (holder_in r.handle r.blocks address) (holder rs address)

abbrev pub block_in : Option Home → (address : ℕ) → Option Block
block_in None address = None
block_in (Some r) address = lookup address_of r.blocks address

-- The block that begins at an address, in the region with the given handle.
abbrev pub block_at : List Home → (handle address : ℕ) → Option Block
block_at rs handle address = block_in (lookup handle_of rs handle) address

-- ---- words of live blocks

abbrev pub word_in : Option Holder → Memory → (address : ℕ) → Option ℕ
word_in None memory address = None
word_in (Some h) memory address = Some (memory address)

-- The word at an address, if the address is that of a word in a live block.
abbrev pub word_at : StoreState → (address : ℕ) → Option ℕ
word_at s address = if address % 4 == 0 then word_in (holder (homes s) address) s.memory address else None

abbrev pub has_saved : StoreState → (address word : ℕ) → Option ℕ → StoreState
has_saved s address word None = s
has_saved s address word (Some old) = record s { memory = put s.memory address word }

-- The store after a word of a live block is written; a write at any other address changes nothing.
abbrev pub saved : StoreState → (address word : ℕ) → StoreState
saved s address word = has_saved s address word (word_at s address)

-- ---- demand

abbrev pub sizes_of : List Block → List ℕ
sizes_of bs = map (λ (b : Block). b.size) bs

abbrev pub sizes_in : List Home → List (List ℕ)
sizes_in rs = map (λ (r : Home). sizes_of r.blocks) rs

-- The number of pages that the blocks of a store need.
abbrev pub demand : StoreState → ℕ
demand s = demand_of (sizes_in s.regions) s.classes

-- the number of blocks of a size class
abbrev pub live_in : (class : ℕ) → List Block → ℕ
live_in class [] = 0
live_in class (b ∷ bs) = if class_of b.size == class then suc (live_in class bs) else live_in class bs

-- The list of the page counts of all size classes, after the count of one class is raised to what `live` live blocks of this class need.
abbrev pub raised : (classes : List ℕ) → (class live : ℕ) → List ℕ
raised classes class live = set classes class (max (slice_index classes class) (pages_for class live))

-- ---- changes of a store

abbrev pub opened : StoreState → (handle : ℕ) → Sort → StoreState
opened s handle sort = record s { regions = s.regions ++ empty_home handle sort ∷ [] }

abbrev pub is_lexical : Sort → Bool
is_lexical Heap = false
is_lexical Lexical = true
is_lexical Dynamic = false
is_lexical Uniques = false

abbrev pub lexical_count : List Home → ℕ
lexical_count [] = 0
lexical_count (r ∷ rs) = if is_lexical r.sort then suc (lexical_count rs) else lexical_count rs

-- The regions after lexical regions are closed: the oldest `mark` lexical regions stay open, and so do all regions that are not lexical.
abbrev pub down_to : (mark : ℕ) → List Home → List Home
down_to mark [] = []
down_to zero (r ∷ rs) = if is_lexical r.sort then down_to zero rs else r ∷ down_to zero rs
down_to (suc mark) (r ∷ rs) = if is_lexical r.sort then r ∷ down_to mark rs else r ∷ down_to (suc mark) rs

abbrev pub with_block : Block → Home → Home
with_block b r = record r { blocks = r.blocks ++ b ∷ [] }

abbrev pub made_in : StoreState → (handle : ℕ) → Block → StoreState
made_in s handle b = record s { regions = changed handle_of (with_block b) s.regions handle }

abbrev pub made_unique : StoreState → Block → StoreState
made_unique s b = record s {
  unique = s.unique ++ b ∷ [];
  classes = raised s.classes (class_of b.size) (suc (live_in (class_of b.size) s.unique));
}

-- the size of a block for a request of this many words; a unique block has the size of its class
abbrev pub room : (handle words : ℕ) → ℕ
room handle words = if handle == UNIQUE then 2 ^ class_of words else words

-- ---- initial stores of a run

-- Says that a store is new, has this many pages, and has the heap open; its words are arbitrary.
abbrev pub IsNew : (pages : ℕ) → StoreState → Type 0
IsNew pages store = (memory : Memory) × AreWords memory × (store ≡ start pages memory)
