-- This file defines the relation between the source's heap state and a heap store that implements it. The store's open regions are the
-- source's regions, in the order and with the blocks of the source, and live objects lie in live blocks. The relation says nothing about
-- closed regions or freed objects, so their addresses and handles may be reused. (The regions are those of Grossman et al. 2002; the form
-- of the relation is this project's own choice.)
use Rattle.std.specs.Prelude.{◌≡◌, ◌⊎◌, ℕ, suc, ◌+◌, ◌*◌, ◌<◌, ◌≤◌, Bool, true, false, if◌then◌else◌, List, [], ◌∷◌, length, Option, Some, None, is_some, slice_get}
use Rattle.cyc_types.specs.declared.typed.Kind.{Kind}
use Rattle.cyc_types.specs.TypedTrees.{GlobalVariable, Program}
use Rattle.cyc_store.specs.State as stores
use Rattle.cyc_store.specs.State.{Memory, Home, sizes_of, StoreState, homes, block_at, down_to, room}
use Rattle.cyc_store.specs.Soundness.{IsSound}
use Rattle.cyc_store.specs.declared.range.TheConstants.{STORE_BASE, PAGE_WORDS, MOST_PAGES, HEAP, UNIQUE}
use Rattle.cyc_meaning.specs.Values.{Cell, kinds_of, block_size}
use Rattle.cyc_meaning.specs.State.{Sort, Heap, Globals, Stack, Lexical, Dynamic, Region, Owner, InRegion, Unique, Object, World, heap_number, has_pages, is_live, global_object}
use Rattle.cyc_meaning.specs.inside.Nesting.{is_scope}
use Rattle.cyc_meaning.specs.Objects.{live_in}
use Rattle.cyc_memory_relation.specs.inside.Tables.{Row, Variable, Placed, Tables}
use Rattle.cyc_memory_relation.specs.inside.Words.{bytes_of_kinds, Points, AreCells}

-- ---- regions

-- The sort (heap, lexical, dynamic, ..) of the heap store's region that implements a source region of a given sort; a region of
-- variables is not in the heap store.
abbrev pub sort_of : Sort → Option stores.Sort
sort_of Heap = Some stores.Heap
sort_of Globals = None
sort_of Stack = None
sort_of Lexical = Some stores.Lexical
sort_of Dynamic = Some stores.Dynamic

-- Holds if the region is one of the heap store's open regions.
abbrev pub has_home : Region → Bool
has_home r = has_pages r.sort r.is_open

-- Says that an open region of the source corresponds to a region of the heap store.
pub record Matches (handle : ℕ) (r : Region) (home : Home) : Type 0 where
  pub kept : has_home r ≡ true
  pub named : home.handle ≡ handle
  pub sort : sort_of r.sort ≡ Some home.sort
  pub sizes : sizes_of home.blocks ≡ r.blocks

-- The heap store has the source's regions in order, except for regions of variables and closed regions. The table of handles contains
-- the handle of each region that is or was in the store. A region of variables has no handle and no blocks.
pub data Regions : List (Option ℕ) → List Region → List Home → Type 0 where
  no_regions : Regions [] [] []
  passed : {handle : Option ℕ} {r : Region} {handles : List (Option ℕ)} {regions : List Region} {open_homes : List Home}
      → has_home r ≡ false → is_some handle ≡ is_some (sort_of r.sort) → (handle ≡ None → r.blocks ≡ []) → Regions handles regions open_homes
      → Regions (handle ∷ handles) (r ∷ regions) open_homes
  taken : {handle : ℕ} {r : Region} {home : Home} {handles : List (Option ℕ)} {regions : List Region} {open_homes : List Home}
      → Matches handle r home → Regions handles regions open_homes
      → Regions (Some handle ∷ handles) (r ∷ regions) (home ∷ open_homes)

-- ---- the place of an object

abbrev pub stands_there : Option Region → Bool
stands_there None = false
stands_there (Some r) = has_home r

abbrev pub entry_of : Option (Option ℕ) → Option ℕ
entry_of None = None
entry_of (Some handle) = handle

-- The handle of the heap store's region that contains the live objects of this owner (a region, or the unique pointer to an
-- object). A variable, and an object that is freed or whose region is closed, lies in no region of the store.
abbrev pub lies_in : (handles : List (Option ℕ)) → List Region → Owner → Option ℕ
lies_in handles regions (InRegion number) =
    if stands_there (slice_get regions number) then entry_of (slice_get handles number) else None
lies_in handles regions (Unique true) = Some UNIQUE
lies_in handles regions (Unique false) = None

-- Says that the object with this index is live, and lies in the region with this handle.
pub record Alive (t : Tables) (w : World) (number handle : ℕ) (x : Object) : Type 0 where
  pub at : slice_get w.objects number ≡ Some x
  pub lies : lies_in t.handles w.regions x.owner ≡ Some handle

-- Says that the cells of an object are in the block that begins at the address in the object's row of the table. The bytes
-- of the block represent the values stored in the cells.
pub record Stands (t : Tables) (rs : List Home) (memory : Memory) (handle number : ℕ) (cells : List Cell) : Type 0 where
  pub address : ℕ
  pub row : slice_get t.rows number ≡ Some (Placed address (kinds_of cells))
  pub found : block_at rs handle address ≡ Some (record { address = address; size = room handle (block_size cells) })
  pub enough : bytes_of_kinds (kinds_of cells) ≤ 4 * room handle (block_size cells)
  pub holds : AreCells t cells memory address 0

-- ---- variables

-- A variable whose address is taken lies outside the heap store's address range: a global before it, any other variable after it.
abbrev pub IsOutside : (address : ℕ) → List Kind → Type 0
IsOutside address ks = (address + bytes_of_kinds ks ≤ STORE_BASE) ⊎ (STORE_BASE + 4 * (PAGE_WORDS * MOST_PAGES) ≤ address)

abbrev pub IsOfVariable : Row → Type 0
IsOfVariable Variable = Unit {0}
IsOfVariable (Placed address kinds) = IsOutside address kinds

-- Says that the row with this index in the table of objects is the row of a variable.
abbrev pub IsVariableAt : Tables → (number : ℕ) → Type 0
IsVariableAt t number = (row : Row) × (slice_get t.rows number ≡ Some row) × IsOfVariable row

-- Says that the cells of an object with an address have the representation kinds (int, char, pointer, ..) that
-- its row in the table of objects states.
abbrev pub HasKinds : List Cell → Row → Type 0
HasKinds cells Variable = Unit {0}
HasKinds cells (Placed address kinds) = kinds ≡ kinds_of cells

-- Says that the table of objects has a row for each global, and that each of these rows is the row of a variable.
pub record AreGlobals (program : Program) (rows : List Row) : Type 0 where
  pub many : length rows ≡ length program.globals
  pub each : (o : ℕ) (g : GlobalVariable) → slice_get program.globals o ≡ Some g → (row : Row) × (slice_get rows o ≡ Some row) × HasKinds (global_object g).cells row × IsOfVariable row

-- Says that the object with this index is the object of a live variable.
pub record LiveVariable (t : Tables) (w : World) (number : ℕ) (x : Object) : Type 0 where
  pub at : slice_get w.objects number ≡ Some x
  pub region : ℕ
  pub owner : x.owner ≡ InRegion region
  pub entry : slice_get t.handles region ≡ Some None
  pub live : is_live w x.owner ≡ true

-- Says that no machine word is part of two different live variables. The compiler pass that assigns addresses to variables ensures this
-- property.
abbrev pub AreApart : Tables → World → Type 0
AreApart t w = (number other offset beside word : ℕ) (x y : Object) → LiveVariable t w number x → LiveVariable t w other y
    → Points t number offset word → Points t other beside word → number ≡ other

-- ---- the world and the store

-- Says that the region that owns an object, if the owner is a region, is one of the regions opened so far.
abbrev pub Within : (regions : ℕ) → Owner → Type 0
Within regions (InRegion number) = number < regions
Within regions (Unique live) = Unit {0}

pub record Related (t : Tables) (w : World) (s : StoreState) : Type 0 where
  pub sound : IsSound s
  pub few : s.pages ≤ MOST_PAGES
  -- The handle of the heap region never changes.
  pub heap : slice_get t.handles heap_number ≡ Some (Some HEAP)
  pub rows : length t.rows ≡ length w.objects
  pub regions : Regions t.handles w.regions s.regions
  pub classes : s.classes ≡ w.classes
  pub uniques : (class : ℕ) → stores.live_in class s.unique ≡ live_in class w.objects
  pub owned : (number : ℕ) (x : Object) → slice_get w.objects number ≡ Some x → Within (length w.regions) x.owner
  -- A row of the table of objects states the representation kinds of its object's cells for ever, even after the object is freed.
  pub shapes : (number address : ℕ) (kinds : List Kind) (x : Object) → slice_get w.objects number ≡ Some x
      → slice_get t.rows number ≡ Some (Placed address kinds) → kinds ≡ kinds_of x.cells
  -- An object in a region of variables is a variable.
  pub variables : (number region : ℕ) (x : Object) → slice_get w.objects number ≡ Some x → x.owner ≡ InRegion region
      → slice_get t.handles region ≡ Some None → IsVariableAt t number
  pub objects : (number handle : ℕ) (x : Object) → Alive t w number handle x → Stands t (homes s) s.memory handle number x.cells
  -- no two live objects have equal addresses
  pub alone : (number other handle beside address : ℕ) (x y : Object) (ks ls : List Kind) → Alive t w number handle x → Alive t w other beside y
      → slice_get t.rows number ≡ Some (Placed address ks) → slice_get t.rows other ≡ Some (Placed address ls) → number ≡ other

-- ---- lexical regions

-- the number of open lexical regions
abbrev pub scopes : List Region → ℕ
scopes [] = 0
scopes (r ∷ regions) = if is_scope r.sort r.is_open then suc (scopes regions) else scopes regions

-- Says that no open lexical region has a greater index than this region.
abbrev pub IsNewest : List Region → (number : ℕ) → Type 0
IsNewest regions number = (other : ℕ) (r : Region) → slice_get regions other ≡ Some r → is_scope r.sort r.is_open ≡ true → other ≤ number

-- A heap store whose lexical regions are closed until `mark` of them stay open. When several regions are left, the source closes one
-- per step, but the store closes all of these regions at the end. Until the end, the source's heap state is related to a store in
-- which the regions that the source has closed are closed too.
abbrev pub closed_to : StoreState → (mark : ℕ) → StoreState
closed_to s mark = record s { regions = down_to mark s.regions }
