-- The rows of a page table (each the data of one page) with the links between them, as data, and the effect of the table's calls on them.
use Rattle.std.specs.Prelude.{ℕ, zero, suc, ◌+◌, ◌==◌, if◌then◌else◌, List, [], ◌∷◌, replicate, set}
use Rattle.cyc_store.specs.Table.{free_row, row_at, given_rows, given_free}
use Rattle.cyc_store.specs.inside.Kept.{numbers_from}
use Rattle.cyc_store.specs.declared.row.Role.{Role}
use Rattle.cyc_store.specs.declared.row.Role.TheVariants.{Rest, Slots}
use Rattle.cyc_store.specs.declared.row.Row.{Row}
use Rattle.cyc_store.specs.declared.row.TheConstants.{NONE}
use Rattle.cyc_pagestore.specs.declared.step.Step.{Step}
use Rattle.cyc_pagestore.specs.declared.step.Step.TheVariants.{Made, Taken, Began, Added, Filled, Cut, Closed}

-- The links of a page table: the row (data) of each page, the first free page, and all free pages in the order of their links.
pub record Links : Type 0 where
  pub rows : List Row
  pub free : ℕ
  pub order : List ℕ

abbrev pub no_links : Links
no_links = record { rows = []; free = NONE; order = [] }

abbrev pub head_or_none : List ℕ → ℕ
head_or_none [] = NONE
head_or_none (x ∷ xs) = x

-- Returns the rows after each page of the list is linked to the next one.
abbrev pub relinked : List Row → List ℕ → List Row
relinked rows [] = rows
relinked rows (x ∷ xs) = set (relinked rows xs) x (record (row_at rows x) { next = head_or_none xs })

abbrev pub removed : List ℕ → (page : ℕ) → List ℕ
removed [] page = []
removed (x ∷ xs) page = if x == page then removed xs page else x ∷ removed xs page

-- Returns the elements of the first list in reverse order, followed by those of the second.
abbrev pub moved : List ℕ → List ℕ → List ℕ
moved [] ys = ys
moved (x ∷ xs) ys = moved xs (x ∷ ys)

-- Returns the `count` pages of a chain from `page` on.
abbrev pub chain_from : List Row → (page count : ℕ) → List ℕ
chain_from rows page zero = []
chain_from rows page (suc count) = page ∷ chain_from rows (row_at rows page).next count

abbrev pub first_of : Role → (page : ℕ) → Row
first_of role page = record { role = role; filled = 0; next = NONE; newest = page; count = 1 }

abbrev pub next_of : (words next : ℕ) → Row
next_of words next = record { role = Rest; filled = words; next = next; newest = NONE; count = 0 }

abbrev pub longer_of : Row → (newest : ℕ) → Row
longer_of r newest = record r { newest = newest; count = r.count + 1 }

abbrev pub slots_of : (class : ℕ) → Row
slots_of class = record { role = Slots class; filled = 0; next = NONE; newest = NONE; count = 0 }

abbrev pub added_rows : List Row → (root page words : ℕ) → List Row
added_rows rows root page words = set (set rows page (next_of words (row_at rows root).newest)) root (longer_of (row_at rows root) page)

abbrev pub after : Links → Step → Links
after l (Made pages) = record { rows = relinked (replicate pages (free_row NONE)) (numbers_from 0 pages); free = head_or_none (numbers_from 0 pages); order = numbers_from 0 pages }
after l (Taken page) = record { rows = relinked l.rows (page ∷ removed l.order page); free = head_or_none (removed l.order page); order = removed l.order page }
after l (Began page role) = record l { rows = set l.rows page (first_of role page) }
after l (Added root page words) = record l { rows = added_rows l.rows root page words }
after l (Filled page filled) = record l { rows = set l.rows page (record (row_at l.rows page) { filled = filled }) }
after l (Cut page class) = record l { rows = set l.rows page (slots_of class) }
after l (Closed root) = record {
  rows = given_rows l.rows (row_at l.rows root).newest (row_at l.rows root).count l.free;
  free = given_free l.rows (row_at l.rows root).newest (row_at l.rows root).count l.free;
  order = moved (chain_from l.rows (row_at l.rows root).newest (row_at l.rows root).count) l.order;
}
