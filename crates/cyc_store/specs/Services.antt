-- This file defines the services of a store as a relation between the call, the answer and the store afterwards. A store chooses
-- the addresses of blocks and the handles of regions; the relation allows every harmless choice. (Regions are those of Grossman et
-- al. 2002; services, refusals and their order are this project's own choice.)
use Rattle.std.specs.Prelude.{◌≡◌, ℕ, ◌+◌, ◌*◌, ◌<◌, ◌≤◌, ◌%◌, ◌^◌, ◌==◌, ◌&&◌, nat_le, nat_lt, Bool, true, false, if◌then◌else◌, Option, Some, None, is_some, List}
use Rattle.cyc_store.specs.State.{lookup, without, Memory, AreWords, Block, address_of, Sort, Heap, Lexical, Dynamic, Uniques, Home, handle_of, StoreState, homes, covers, Holder, holder, demand, opened, lexical_count, down_to, made_in, made_unique, room}
use Rattle.cyc_store.specs.declared.range.TheConstants.{STORE_BASE, PAGE_WORDS, MOST_BLOCK_WORDS, UNIQUE}

pub data Call : Type 0 where
  OpenLexical : Call
  CloseTo : (mark : ℕ) → Call
  OpenDynamic : Call
  CloseDynamic : (handle : ℕ) → Call
  Allocate : (handle words : ℕ) → Call
  Free : (address : ℕ) → Call

pub data Refusal : Type 0 where
  BadMark : Refusal
  BadHandle : Refusal
  BadSize : Refusal
  NotABlock : Refusal
  Full : Refusal

pub data Answer : Type 0 where
  Refused : Refusal → Answer
  Done : Answer
  Opened : (handle : ℕ) → Answer
  -- In the answer to the opening of a lexical region, `mark` is the number of lexical regions that were open before.
  OpenedLexical : (handle mark : ℕ) → Answer
  Allocated : (address : ℕ) → Answer

-- The choice of a store: the handle of a region, the address of a block, and the value of every word afterwards. Only opening a region
-- uses the handle, and only allocating a block uses the address.
pub record Choice : Type 0 where
  pub handle : ℕ
  pub address : ℕ
  pub memory : Memory

abbrev pub block_of : (handle words : ℕ) → Choice → Block
block_of handle words c = record { address = c.address; size = room handle words }

-- ---- the result of a call that is not refused

abbrev pub made : StoreState → (handle : ℕ) → Block → StoreState
made s handle b = if handle == UNIQUE then made_unique s b else made_in s handle b

-- the regions and blocks after a call
abbrev pub changed_by : StoreState → Call → Choice → StoreState
changed_by s OpenLexical c = opened s c.handle Lexical
changed_by s (CloseTo mark) c = record s { regions = down_to mark s.regions }
changed_by s OpenDynamic c = opened s c.handle Dynamic
changed_by s (CloseDynamic handle) c = record s { regions = without handle_of s.regions handle }
changed_by s (Allocate handle words) c = made s handle (block_of handle words c)
changed_by s (Free address) c = record s { unique = without address_of s.unique address }

abbrev pub served : StoreState → Call → Choice → StoreState
served s call c = record (changed_by s call c) { memory = c.memory }

abbrev pub answer : StoreState → Call → Choice → Answer
answer s OpenLexical c = OpenedLexical c.handle (lexical_count s.regions)
answer s (CloseTo mark) c = Done
answer s OpenDynamic c = Opened c.handle
answer s (CloseDynamic handle) c = Done
answer s (Allocate handle words) c = Allocated c.address
answer s (Free address) c = Done

-- ---- refusals

-- The number of pages that a store needs depends only on block sizes. So the addresses and handles that a store chooses do not
-- decide if it is out of pages.
abbrev pub any_choice : StoreState → Choice
any_choice s = record { handle = 0; address = 0; memory = s.memory }

abbrev pub is_full : StoreState → Call → Bool
is_full s call = nat_lt s.pages (demand (served s call (any_choice s)))

abbrev pub full_at : Bool → Option Refusal
full_at b = if b then Some Full else None

abbrev pub is_dynamic : Sort → Bool
is_dynamic Heap = false
is_dynamic Lexical = false
is_dynamic Dynamic = true
is_dynamic Uniques = false

abbrev pub names_dynamic : Option Home → Bool
names_dynamic None = false
names_dynamic (Some r) = is_dynamic r.sort

abbrev pub is_size : (words : ℕ) → Bool
is_size words = nat_le 1 words && nat_le words MOST_BLOCK_WORDS

-- The first reason for which the store refuses the call, if there is a reason.
abbrev pub refusal : StoreState → Call → Option Refusal
refusal s OpenLexical = full_at (is_full s OpenLexical)
refusal s (CloseTo mark) = if nat_le mark (lexical_count s.regions) then None else Some BadMark
refusal s OpenDynamic = full_at (is_full s OpenDynamic)
refusal s (CloseDynamic handle) = if names_dynamic (lookup handle_of s.regions handle) then None else Some BadHandle
refusal s (Allocate handle words) =
    if is_some (lookup handle_of (homes s) handle) then
    if is_size words then full_at (is_full s (Allocate handle words)) else Some BadSize
    else Some BadHandle
refusal s (Free address) = if is_some (lookup address_of s.unique address) then None else Some NotABlock

-- ---- choices

-- Says that a block lies in the store's address range.
pub record IsPlaced (pages : ℕ) (b : Block) : Type 0 where
  pub aligned : b.address % 4 ≡ 0
  pub low : STORE_BASE ≤ b.address
  pub high : b.address + 4 * b.size ≤ STORE_BASE + 4 * (PAGE_WORDS * pages)
  pub some : 0 < b.size

-- Says that no live block shares an address with this block.
abbrev pub IsApart : List Home → Block → Type 0
IsApart rs b = (address : ℕ) → covers b address ≡ true → holder rs address ≡ None

-- Says that a handle is a 32-bit word that names no region.
abbrev pub IsFresh : StoreState → (handle : ℕ) → Type 0
IsFresh s handle = (lookup handle_of (homes s) handle ≡ None) × (handle < 2 ^ 32)

abbrev pub MayChoose : StoreState → Call → Choice → Type 0
MayChoose s OpenLexical c = IsFresh s c.handle
MayChoose s (CloseTo mark) c = Unit {0}
MayChoose s OpenDynamic c = IsFresh s c.handle
MayChoose s (CloseDynamic handle) c = Unit {0}
MayChoose s (Allocate handle words) c = IsPlaced s.pages (block_of handle words c) × IsApart (homes s) (block_of handle words c)
MayChoose s (Free address) c = Unit {0}

-- Says that all words that are live before and after a call keep their values. A new block may contain anything, and words that are not
-- live may change.
abbrev pub Keeps : StoreState → StoreState → Type 0
Keeps s t = (address : ℕ) (h : Holder) → holder (homes s) address ≡ Some h → holder (homes t) address ≡ Some h
    → t.memory address ≡ s.memory address

pub record IsAllowed (s : StoreState) (call : Call) (c : Choice) : Type 0 where
  pub may : MayChoose s call c
  pub keeps : Keeps s (served s call c)
  pub words : AreWords c.memory

-- ---- the relation of the services

-- A refusal leaves the store unchanged.
abbrev pub ServesBy : StoreState → Call → Option Refusal → Answer → StoreState → Type 0
ServesBy s call (Some why) a t = (a ≡ Refused why) × (t ≡ s)
ServesBy s call None a t = (c : Choice) × IsAllowed s call c × (a ≡ answer s call c) × (t ≡ served s call c)

abbrev pub Serves : StoreState → Call → Answer → StoreState → Type 0
Serves s call a t = ServesBy s call (refusal s call) a t
