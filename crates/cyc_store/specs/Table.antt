-- This file is about the table of the pages of a store: the entries read for a page, and the effect of the table's functions. The form
-- of the page table is this project's own choice.
use Rattle.std.specs.Prelude.{◌≡◌, ℕ, zero, suc, ◌+◌, ◌*◌, ◌<◌, ◌≤◌, ◌⊎◌, Bool, false, ◌&&◌, nat_le, nat_lt, if◌then◌else◌, List, length, slice_index, slice_index_or, set}
use Rattle.cyc_store.specs.declared.row.PageTable.{PageTable}
use Rattle.cyc_store.specs.declared.row.Row.{Row}
use Rattle.cyc_store.specs.declared.row.Role.TheVariants.{Rest}
use Rattle.cyc_store.specs.declared.row.TheConstants.{NONE}
use Rattle.cyc_store.specs.declared.range.TheConstants.{PAGE_WORDS}

-- The page table's row for an empty page that is followed by a free page.
abbrev pub free_row : (next : ℕ) → Row
free_row next = record { role = Rest; filled = 0; next = next; newest = NONE; count = 0 }

abbrev pub row_at : List Row → (page : ℕ) → Row
row_at rows page = slice_index_or rows page (free_row NONE)

-- Says that the table has a word, and a flag that marks it as live or not, for each word of all of its pages.
pub record IsWhole (t : PageTable) : Type 0 where
  pub words : length t.words.items ≡ PAGE_WORDS * length t.rows.items
  pub live : length t.live.items ≡ PAGE_WORDS * length t.rows.items

-- Says that two page tables have equal contents, such as their rows, words and flags of live words.
pub record IsSame (old new : PageTable) : Type 0 where
  pub most : new.most ≡ old.most
  pub words : new.words.items ≡ old.words.items
  pub live : new.live.items ≡ old.live.items
  pub rows : new.rows.items ≡ old.rows.items
  pub free : new.free ≡ old.free

-- Says that a page is taken for use: the first free page or, if no page is free, a new page after all others. A read of a table row
-- after the last page gives the row of a free page.
pub record Draws (old new : PageTable) (page : ℕ) : Type 0 where
  pub most : new.most ≡ old.most
  pub whole : IsWhole new
  pub words : (word : ℕ) → slice_index new.words.items word ≡ slice_index old.words.items word
  pub live : (slot : ℕ) → slice_index_or new.live.items slot false ≡ slice_index_or old.live.items slot false
  pub rows : (other : ℕ) → row_at new.rows.items other ≡ row_at old.rows.items other
  pub count : length old.rows.items ≤ length new.rows.items
  pub from : ((old.free < length old.rows.items) × (page ≡ old.free) × (new.free ≡ (row_at old.rows.items page).next) × (length new.rows.items ≡ length old.rows.items))
      ⊎ ((length old.rows.items ≤ old.free) × (page ≡ length old.rows.items) × (new.free ≡ old.free) × (length new.rows.items ≡ suc (length old.rows.items)))

-- The flags that mark words as live, after the flags in a range are set to one value; all other flags are unchanged.
abbrev pub marked_between : (old : ℕ → Bool) → (first count : ℕ) → Bool → ℕ → Bool
marked_between old first count mark word = if nat_le first word && nat_lt word (first + count) then mark else old word

-- ---- freeing a chain of pages, one after another

abbrev pub given_rows : List Row → (page count free : ℕ) → List Row
given_rows rows page zero free = rows
given_rows rows page (suc count) free = given_rows (set rows page (free_row free)) (row_at rows page).next count page

abbrev pub given_free : List Row → (page count free : ℕ) → ℕ
given_free rows page zero free = free
given_free rows page (suc count) free = given_free (set rows page (free_row free)) (row_at rows page).next count page

-- Says that all pages of a chain (pages that are linked one to the next) exist in the page table.
abbrev pub AreThere : List Row → (page count free : ℕ) → Type 0
AreThere rows page zero free = Unit {0}
AreThere rows page (suc count) free = (page < length rows) × AreThere (set rows page (free_row free)) (row_at rows page).next count page
