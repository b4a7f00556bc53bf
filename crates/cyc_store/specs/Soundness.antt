-- This file defines the invariant of every store that starts empty and is changed only by calls. The invariant of stores is this
-- project's own choice.
use Rattle.std.specs.Prelude.{◌≡◌, ℕ, ◌≤◌, true, List, Some, length, slice_index}
use Rattle.cyc_words.specs.Demand.{pages_for, greatest_class}
use Rattle.cyc_store.specs.State.{AreDistinct, AreWords, Block, address_of, Home, handle_of, StoreState, homes, covers, holder, block_at, demand, live_in}
use Rattle.cyc_store.specs.Services.{IsPlaced}

-- Says that each handle names one region, and that a block is found at each of its addresses. No two blocks overlap, because each
-- address lies in at most one block.
pub record AreSound (pages : ℕ) (rs : List Home) : Type 0 where
  pub handles : AreDistinct handle_of rs
  pub apart : (handle first address : ℕ) (b : Block) → block_at rs handle first ≡ Some b → covers b address ≡ true
      → holder rs address ≡ Some (record { handle = handle; block = b })
  pub placed : (handle first : ℕ) (b : Block) → block_at rs handle first ≡ Some b → IsPlaced pages b

-- Says that the pages of every size class suffice for the live blocks of the class.
abbrev pub AreEnough : (unique : List Block) → (classes : List ℕ) → Type 0
AreEnough unique classes = (class : ℕ) → class ≤ greatest_class → pages_for class (live_in class unique) ≤ slice_index classes class

pub record IsSound (s : StoreState) : Type 0 where
  pub regions : AreSound s.pages (homes s)
  pub uniques : AreDistinct address_of s.unique
  pub words : AreWords s.memory
  pub classes : length s.classes ≡ 11
  pub enough : AreEnough s.unique s.classes
  pub demand : demand s ≤ s.pages
