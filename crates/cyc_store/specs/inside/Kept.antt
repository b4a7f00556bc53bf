-- This file says how a table of pages represents a layout: by its rows, words and flags of live words, as functions, and by the starts of
-- its linked lists. It is left open where the rows, words and flags are stored. The representation of a layout by a page table is this
-- project's own choice.
use Rattle.std.specs.Prelude.{◌≡◌, ℕ, zero, suc, ◌+◌, ◌-◌, ◌*◌, ◌/◌, ◌^◌, ◌<◌, ◌≤◌, ◌==◌, ◌⊎◌, Bool, false, List, [], ◌∷◌, ◌++◌, Option, None, Some, is_some, if◌then◌else◌, length, slice_index, slice_index_or}
use Rattle.std.specs.List.{AllByRecursion}
use Rattle.cyc_words.specs.Demand.{greatest_class}
use Rattle.cyc_store.specs.State.{lookup, address_of, Sort, Heap, Lexical, Dynamic, Uniques, Home, handle_of, is_lexical}
use Rattle.cyc_store.specs.Ledger.{Blocks, store_of}
use Rattle.cyc_store.specs.Table.{row_at, IsWhole}
use Rattle.cyc_store.specs.declared.row.Role.{Role}
use Rattle.cyc_store.specs.declared.row.Role.TheVariants as role
use Rattle.cyc_store.specs.declared.row.Row.{Row}
use Rattle.cyc_store.specs.declared.row.PageTable.{PageTable}
use Rattle.cyc_store.specs.declared.row.TheConstants.{NONE}
use Rattle.cyc_store.specs.declared.row.ClassSlots.{ClassSlots}
use Rattle.cyc_store.specs.declared.range.TheConstants.{PAGE_WORDS, UNIQUE, MOST_PAGES}
use Rattle.cyc_store.specs.Pages.{Pages, HasChain}
use Rattle.cyc_store.specs.Slots.{place_of, Layout, IsLaidOut, slots_from}

-- The values of a page table that can be read: the maximum and the current number of pages, the index of the first free page, and the rows,
-- words and flags of live words as functions of their index.
pub record Table : Type 0 where
  pub most : ℕ
  pub count : ℕ
  pub free : ℕ
  pub row : ℕ → Row
  pub word : ℕ → ℕ
  pub live : ℕ → Bool

-- Says that a list is linked from index `first` on: `next` maps each element to the element after it, and the last element to `NONE`.
abbrev pub IsChain : (next : ℕ → ℕ) → (first : ℕ) → List ℕ → Type 0
IsChain next first [] = first ≡ NONE
IsChain next first (x ∷ xs) = (first ≡ x) × IsChain next (next x) xs

abbrev pub IsOneOf : List ℕ → ℕ → Type 0
IsOneOf [] p = ⊥
IsOneOf (x ∷ xs) p = (p ≡ x) ⊎ IsOneOf xs p

-- the list of `count` consecutive numbers that begins with `first`
abbrev pub numbers_from : (first count : ℕ) → List ℕ
numbers_from first zero = []
numbers_from first (suc count) = first ∷ numbers_from (suc first) count

-- ---- the row of a page

-- The number of leading words of a page that the page's row alone shows to be live, without a look at the flags of live words.
abbrev pub limit : (owner : Option ℕ) → (filled : ℕ) → ℕ
limit None filled = 0
limit (Some h) filled = if h == UNIQUE then 0 else filled

-- The role of the first page of a region of this sort. Unique blocks are not a region of the table, so no first page has their role.
abbrev pub role_of_sort : Sort → Role
role_of_sort Heap = role.Heap
role_of_sort Lexical = role.Lexical
role_of_sort Dynamic = role.Dynamic
role_of_sort Uniques = role.Heap

abbrev pub role_of_owner : (owner : Option ℕ) → (class : ℕ) → Role
role_of_owner None class = role.Rest
role_of_owner (Some h) class = if h == UNIQUE then role.Slots class else role.Rest

-- The role of a page, given the sort of the region whose first page it is, and its owner.
abbrev pub role_of : Option Sort → (owner : Option ℕ) → (class : ℕ) → Role
role_of (Some sort) owner class = role_of_sort sort
role_of None owner class = role_of_owner owner class

abbrev pub sort_of : Option Home → Option Sort
sort_of None = None
sort_of (Some r) = Some r.sort

-- The handle of the region that has this page as its first page.
abbrev pub handle_of_page : (page : ℕ) → ℕ
handle_of_page page = 2 * page + 1

pub record IsRow (r : Row) (owner : Option ℕ) (filled class : ℕ) (sort : Option Sort) : Type 0 where
  pub marks : r.filled ≡ limit owner filled
  pub plays : r.role ≡ role_of sort owner class

-- ---- a region

pub record IsRooted (row : ℕ → Row) (pages : Pages) (r : Home) : Type 0 where
  pub root : ℕ
  pub handle : r.handle ≡ handle_of_page root
  pub owned : pages.owner root ≡ Some r.handle
  pub chain : HasChain pages r
  pub newest : (row root).newest ≡ chain.newest.page
  pub count : (row root).count ≡ suc (length chain.older)
  pub linked : IsChain (λ p. (row p).next) chain.newest.page (chain.newest.page ∷ chain.older)
  pub complete : (p : ℕ) → pages.owner p ≡ Some r.handle → IsOneOf (chain.newest.page ∷ chain.older) p

-- The handles of the lexical regions, oldest first.
abbrev pub lexical_handles : List Home → List ℕ
lexical_handles [] = []
lexical_handles (r ∷ rs) = if is_lexical r.sort then r.handle ∷ lexical_handles rs else lexical_handles rs

-- ---- the slots of a class

pub record IsStocked (word : ℕ → ℕ) (slots : ClassSlots) (class : ℕ) (dead : List ℕ) : Type 0 where
  pub chain : List ℕ
  pub all : dead ≡ chain ++ slots_from (2 ^ class) slots.fresh slots.left
  pub linked : IsChain word slots.dead chain

-- The first empty slot of a size class, and the empty slots of the class that remain after it.
abbrev pub next_slot_of : ClassSlots → (words : List ℕ) → (class : ℕ) → ℕ × ClassSlots
next_slot_of slots words class =
    if slots.dead == NONE then (slots.fresh, record { dead = NONE; fresh = slots.fresh + 2 ^ class; left = slots.left - 1 })
    else (slots.dead, record slots { dead = slice_index words slots.dead })

-- ---- the whole table

pub record IsTied (t : Table) (lexicals : List ℕ) (classes : ℕ → ClassSlots) (b : Blocks) (l : Layout) : Type 0 where
  pub most : t.most ≤ MOST_PAGES
  pub few : t.count ≤ t.most
  pub drawn : (page h : ℕ) → l.pages.owner page ≡ Some h → page < t.count
  pub rows : (page : ℕ) → IsRow (t.row page) (l.pages.owner page) (l.pages.filled page) (l.class page) (sort_of (lookup handle_of b.regions (handle_of_page page)))
  pub given : List ℕ
  pub free : l.free ≡ given ++ numbers_from t.count (t.most - t.count)
  pub linked : IsChain (λ p. (t.row p).next) t.free given
  pub within : AllByRecursion (λ p. p < t.count) given
  pub homes : (page h : ℕ) → l.pages.owner page ≡ Some h → (h ≡ UNIQUE → ⊥) → (r : Home) × (lookup handle_of b.regions h ≡ Some r)
  pub roots : (h : ℕ) (r : Home) → lookup handle_of b.regions h ≡ Some r → IsRooted t.row l.pages r
  pub newest : lexicals ≡ lexical_handles b.regions
  pub stock : (class : ℕ) → class ≤ greatest_class → IsStocked t.word (classes class) class (l.dead class)
  pub marked : (page offset : ℕ) → l.pages.owner page ≡ Some UNIQUE → offset < PAGE_WORDS
      → t.live (PAGE_WORDS * page + offset) ≡ is_some (lookup address_of b.unique (place_of (PAGE_WORDS * page + offset / 2 ^ l.class page * 2 ^ l.class page)))
  pub unmarked : (page offset : ℕ) → (l.pages.owner page ≡ Some UNIQUE → ⊥) → offset < PAGE_WORDS → t.live (PAGE_WORDS * page + offset) ≡ false

-- ---- a table in memory

abbrev pub no_slots : ClassSlots
no_slots = record { dead = 0; fresh = 0; left = 0 }

abbrev pub table_of : PageTable → Table
table_of t = record {
  most = t.most;
  count = length t.rows.items;
  free = t.free;
  row = λ (page : ℕ). row_at t.rows.items page;
  word = λ (word : ℕ). slice_index t.words.items word;
  live = λ (slot : ℕ). slice_index_or t.live.items slot false;
}

-- The invariant of every store on a table of pages.
pub record IsKept (t : PageTable) (lexicals : List ℕ) (classes : List ClassSlots) (b : Blocks) : Type 0 where
  pub whole : IsWhole t
  pub eleven : length classes ≡ 11
  pub layout : Layout
  pub laid : IsLaidOut (store_of t.most t.words.items b) layout
  pub tied : IsTied (table_of t) lexicals (λ (class : ℕ). slice_index_or classes class no_slots) b layout
