-- This file has examples: a stale pointer and a new one may be the same word. A block is freed, or its region is closed, and the heap
-- store reuses the address and the handle. The relation between the source's heap state and the heap store holds before and after
-- each request to the store, by the lemmas on the requests.
use Rattle.std.proofs.Common.{◌≡◌, ℕ, ◌+◌, ◌^◌, ◌<◌, ◌≤◌, length, true, false, List, [], ◌∷◌, None, Some, refl, ap, arith, inr}
use Rattle.std.specs.Prelude.{◌==◌, if◌then◌else◌, slice_get}
use Rattle.cyc_words.proofs.Options.{never_none_and_some}
use Rattle.cyc_types.specs.declared.typed.Kind.TheVariants as kinds
use Rattle.cyc_store.specs.State.{StoreState, start, homes, sizes_in, block_at}
use Rattle.cyc_store.specs.Services.{OpenLexical, CloseTo, Allocate, Free, Choice, served, block_of, IsPlaced, IsAllowed}
use Rattle.cyc_store.specs.declared.range.TheConstants.{HEAP, STORE_BASE, UNIQUE}
use Rattle.cyc_store.proofs.ServiceLemmas.{start-sound}
use Rattle.cyc_meaning.specs.Values.{Int, Null, Thin, Handle, Cell, blank}
use Rattle.cyc_meaning.specs.State.{Heap, Stack, Lexical, InRegion, Unique, World, Found, Closed, cell_at, new_region, opened_as, closed, variable, made, first_classes, counted}
use Rattle.cyc_meaning.specs.Objects.{made_unique, freed}
use Rattle.cyc_memory_relation.specs.inside.Tables.{Placed, Tables, with_row, with_handle}
use Rattle.cyc_memory_relation.specs.inside.Words.{bytes_of_kinds, before, byte_at, Points, Is, Holds}
use Rattle.cyc_memory_relation.specs.inside.Related.{lies_in, Related, taken, no_regions}
use Rattle.cyc_memory_relation.proofs.Pointers.{same-row}
use Rattle.cyc_memory_relation.proofs.Making.{allocated-unique}
use Rattle.cyc_memory_relation.proofs.Services.{freed-unique}
use Rattle.cyc_memory_relation.proofs.Variables.{declared, opened-variables}

-- The tables of objects and regions before the first object, with only the heap region, and a heap store with three empty pages.
abbrev no_tables : Tables
no_tables = record { rows = []; handles = Some HEAP ∷ [] }

-- The cells of an object that consists of one int.
abbrev cells : List Cell
cells = blank kinds.Int ∷ []

abbrev empty : World
empty = record { regions = new_region Heap ∷ []; objects = []; classes = first_classes; output = []; input = [] }

-- In the examples, each word is 0, and each block is allocated at the heap store's first address.
abbrev choice : Choice
choice = record { handle = 3; address = STORE_BASE; memory = λ (x : ℕ). 0 }

abbrev new : StoreState
new = start 3 (λ (x : ℕ). 0)

-- ---- a unique object is freed, and the next one gets its address

abbrev once : StoreState
once = served new (Allocate UNIQUE 1) choice

abbrev without_it : StoreState
without_it = served once (Free STORE_BASE) choice

abbrev again : StoreState
again = served without_it (Allocate UNIQUE 1) choice

abbrev one : World
one = made_unique empty cells

abbrev none : World
none = freed one 0 (record { owner = Unique true; cells = cells })

abbrev other : World
other = made_unique none cells

abbrev both : Tables
both = with_row (with_row no_tables (Placed STORE_BASE (kinds.Int ∷ []))) (Placed STORE_BASE (kinds.Int ∷ []))

words : (x : ℕ) → 0 < 2 ^ 32
words x = omega arith

first : 536870912 ≤ 536870912
first = omega arith

short : 1 ≤ 1024
short = omega arith

placed : IsPlaced 3 (block_of UNIQUE 1 choice)
placed = record { aligned = refl; low = first; high = let fits : 536870916 ≤ 536883200 = omega arith in fits; some = let one : 0 < 1 = omega arith in one }

new-related : Related no_tables empty new
new-related = record {
  sound = start-sound 3 (λ (x : ℕ). 0) words (omega arith);
  few = let few : 3 ≤ 65536 = omega arith in few;
  heap = refl;
  rows = refl;
  regions = taken (record { kept = refl; named = refl; sort = refl; sizes = refl }) no_regions;
  classes = refl;
  uniques = λ class. refl;
  owned = λ o x at. absurd (never_none_and_some refl at);
  shapes = λ o a ks x at row. absurd (never_none_and_some refl at);
  variables = λ o n x at owner entry. absurd (never_none_and_some refl at);
  objects = λ o h x alive. absurd (never_none_and_some refl alive.at);
  alone = λ o i h g a x y ks ls first second row also. absurd (never_none_and_some refl first.at);
}

-- No object is live, so any handle, address and memory contents that the heap store chooses are allowed, and no word must be kept.
may-make : IsAllowed new (Allocate UNIQUE 1) choice
may-make = record {
  may = (placed, λ x inside. refl);
  keeps = λ x h before after. absurd (never_none_and_some refl before);
  words = words;
}

once-related : Related (with_row no_tables (Placed STORE_BASE (kinds.Int ∷ []))) one once
once-related = allocated-unique new-related cells choice (refl, tt) short refl may-make

may-free : IsAllowed once (Free STORE_BASE) choice
may-free = record { may = tt; keeps = λ x h before after. refl; words = words }

freed-related : Related (with_row no_tables (Placed STORE_BASE (kinds.Int ∷ []))) none without_it
freed-related = freed-unique once-related 0 STORE_BASE (record { owner = Unique true; cells = cells }) (kinds.Int ∷ []) refl refl refl choice may-free

may-make_again : IsAllowed without_it (Allocate UNIQUE 1) choice
may-make_again = record {
  may = (placed, λ x inside. refl);
  keeps = λ x h before after. absurd (never_none_and_some refl before);
  words = words;
}

again-related : Related both other again
again-related = allocated-unique freed-related cells choice (refl, tt) short refl may-make_again

points-to : (number : ℕ) → slice_get both.rows number ≡ Some (Placed STORE_BASE (kinds.Int ∷ [])) → Points both number 0 STORE_BASE
points-to number row = record {
  address = STORE_BASE;
  kinds = kinds.Int ∷ [];
  row = row;
  range = record { low = let some : 0 < 536870912 = omega arith in some; high = let fits : 536870916 < 4294967296 = omega arith in fits };
  inside = let one : 0 < 1 = omega arith in one;
  at = refl;
}

-- The pointer to the freed object and the pointer to the new object at the same address are the same word.
stale-pointer : Is both kinds.NonNull (Thin 0 0) (λ k. STORE_BASE) 0
stale-pointer = points-to 0 refl

live-pointer : Is both kinds.NonNull (Thin 1 0) (λ k. STORE_BASE) 0
live-pointer = points-to 1 refl

-- An access through the stale pointer finds no live object, and an access through the new pointer finds its cell.
stale-is_dead : cell_at other 0 0 ≡ Closed
stale-is_dead = refl

live-is_there : cell_at other 1 0 ≡ Found (record { object = record { owner = Unique true; cells = cells }; cell = blank kinds.Int })
live-is_there = refl

freed-lies_nowhere : lies_in both.handles other.regions (Unique false) ≡ None
freed-lies_nowhere = refl

live-block : block_at (homes again) UNIQUE STORE_BASE ≡ Some (record { address = STORE_BASE; size = 1 })
live-block = refl

-- ---- a region closes, and the next one gets its handle

abbrev opened_once : StoreState
opened_once = served new OpenLexical choice

abbrev opened_twice : StoreState
opened_twice = served (served opened_once (CloseTo 0) choice) OpenLexical choice

abbrev region_gone : World
region_gone = closed (opened_as Lexical empty) 1 (new_region Lexical)

abbrev two_handles : Tables
two_handles = with_handle (with_handle no_tables (Some 3)) (Some 3)

-- The closed region and the new region have equal handle words.
stale-handle : Is two_handles kinds.Handle (Handle 1) (λ k. 3) 0
stale-handle = refl

live-handle : Is two_handles kinds.Handle (Handle 2) (λ k. 3) 0
live-handle = refl

-- Objects of the closed region lie in no region of the heap store, and objects of the new region lie in the new region.
stale-lies_nowhere : lies_in two_handles.handles (opened_as Lexical region_gone).regions (InRegion 1) ≡ None
stale-lies_nowhere = refl

live-lies_there : lies_in two_handles.handles (opened_as Lexical region_gone).regions (InRegion 2) ≡ Some 3
live-lies_there = refl

same-demand : counted (opened_as Lexical region_gone).regions ≡ sizes_in opened_twice.regions
same-demand = refl

-- ---- offsets of cells

-- The offset of the cell that follows a fat pointer after an int is 16.
after_fat : before 2 (kinds.Int ∷ kinds.Fat ∷ kinds.Int ∷ []) ≡ 16
after_fat = refl

bytes_of_three : bytes_of_kinds (kinds.Int ∷ kinds.Fat ∷ kinds.Int ∷ []) ≡ 20
bytes_of_three = refl

-- In an object of chars, an int and a fat pointer, a char is at the next byte, and a word at the next multiple of 4.
last_char : before 3 (kinds.Char ∷ kinds.Int ∷ kinds.Char ∷ kinds.Char ∷ []) ≡ 9
last_char = refl

char_after_fat : before 2 (kinds.Char ∷ kinds.Fat ∷ kinds.Char ∷ []) ≡ 16
char_after_fat = refl

bytes_of_chars : bytes_of_kinds (kinds.Char ∷ kinds.Char ∷ kinds.Char ∷ []) ≡ 3
bytes_of_chars = refl

-- The byte at the lowest address of a word is the highest byte of the word.
lowest-byte : byte_at (λ (x : ℕ). if x == 8 then 305419896 else 0) 8 ≡ 18
lowest-byte = refl

next-byte : byte_at (λ (x : ℕ). if x == 8 then 305419896 else 0) 9 ≡ 52
next-byte = refl

-- The chars at the addresses of the word in memory are the bytes of this word.
first-char : Holds both kinds.Char (Int 18) (λ (x : ℕ). if x == 8 then 305419896 else 0) 8
first-char = refl

next-char : Holds both kinds.Char (Int 52) (λ (x : ℕ). if x == 8 then 305419896 else 0) 9
next-char = refl

-- ---- pairs that the relation rejects

-- The word of a char is below 256.
no-char : Is both kinds.Char (Int 256) (λ k. 256) 0 → ⊥
no-char (same, small) = omega (arith, small)

-- No pointer is a value of representation kind int, and null is no value of a pointer kind that excludes null.
no-pointer : Is both kinds.Int (Thin 0 0) (λ k. STORE_BASE) 0 → ⊥
no-pointer is = is

never-null : Is both kinds.NonNull Null (λ k. 0) 0 → ⊥
never-null is = is

-- The address just after an object is not a pointer to the object.
not-following : Points both 0 1 (STORE_BASE + 4) → ⊥
not-following points =
    let (address, ks) = same-row points.row refl in
    let inside : 1 < length points.kinds = points.inside in
    let short : length points.kinds ≡ 1 = ap (λ l. length l) ks in
    omega (arith, inside, short)

-- ---- a variable whose address is taken

-- The heap state in which the region of a block is open. In the next definitions, an int variable of this region has the
-- address of its slot.
abbrev in_block : World
in_block = opened_as Stack empty

abbrev block_tables : Tables
block_tables = with_handle no_tables None

abbrev declared_there : World
declared_there = made in_block (variable 1 kinds.Int None)

abbrev slot_address : ℕ
slot_address = 0x7fffeff0

abbrev with_variable : Tables
with_variable = with_row block_tables (Placed slot_address (kinds.Int ∷ []))

after_store : 805306368 ≤ 2147479536
after_store = omega arith

variable-related : Related with_variable declared_there new
variable-related =
    declared (opened-variables new-related Stack refl) 1 (new_region Stack) kinds.Int None (Placed slot_address (kinds.Int ∷ [])) refl refl refl (inr after_store)

variable-pointer : Is with_variable kinds.NonNull (Thin 0 0) (λ k. slot_address) 0
variable-pointer = record {
  address = slot_address;
  kinds = kinds.Int ∷ [];
  row = refl;
  range = record { low = let some : 0 < 2147479536 = omega arith in some; high = let fits : 2147479540 < 4294967296 = omega arith in fits };
  inside = let one : 0 < 1 = omega arith in one;
  at = refl;
}

-- The address of a char variable is the address of the last byte of its slot's word.
abbrev char_there : World
char_there = made in_block (variable 1 kinds.Char None)

abbrev with_char : Tables
with_char = with_row block_tables (Placed (slot_address + 3) (kinds.Char ∷ []))

after_store_too : 805306368 ≤ 2147479539
after_store_too = omega arith

char-related : Related with_char char_there new
char-related =
    declared (opened-variables new-related Stack refl) 1 (new_region Stack) kinds.Char None (Placed (slot_address + 3) (kinds.Char ∷ [])) refl refl refl (inr after_store_too)

char-byte : byte_at (λ (x : ℕ). if x == slot_address then 65 else 0) (slot_address + 3) ≡ 65
char-byte = refl

-- A variable is not an object of the heap store.
variable-lies_nowhere : lies_in with_variable.handles declared_there.regions (InRegion 1) ≡ None
variable-lies_nowhere = refl
