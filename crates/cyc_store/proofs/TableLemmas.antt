-- This file is about reading and changing the rows of the page table, one page at a time.
use Rattle.std.proofs.Common.{◌≡◌, ℕ, zero, suc, ◌+◌, ◌-◌, ◌<◌, ◌≤◌, Bool, List, length, sym, ap, ◌∙◌, inl, inr, arith}
use Rattle.std.specs.Prelude.{◌⊎◌, ◌&&◌, nat_le, nat_lt, slice_index_or, set}
use Rattle.std.proofs.lemmas.Bool.{and_right, cond-true, cond-false, le-leb, lt-leb, le-ltb, lt-ltb}
use Rattle.std.proofs.lemmas.List.{get_or_default}
use Rattle.cyc_store.specs.declared.row.Row.{Row}
use Rattle.cyc_store.specs.declared.row.TheConstants.{NONE}
use Rattle.cyc_store.specs.Table.{free_row, row_at, given_rows, given_free, AreThere, marked_between}

-- The state of the loop that frees the pages of a region, which are linked one to the next; `left` pages are yet to be freed.
pub record IsGiving (rows : List Row) (page left free : ℕ) (first : List Row) (newest count none : ℕ) : Type 0 where
  pub there : AreThere rows page left free
  pub rows_are : given_rows rows page left free ≡ given_rows first newest count none
  pub free_is : given_free rows page left free ≡ given_free first newest count none

pub giving-there : (rows : List Row) (page left free : ℕ) (first : List Row) (newest count none : ℕ) → IsGiving rows page left free first newest count none → 0 < left
    → page < length rows
giving-there rows page zero free first newest count none giving some = absurd (omega (arith, some))
giving-there rows page (suc left) free first newest count none giving some = giving.there.0

pub giving-step : (rows : List Row) (page left free : ℕ) (first : List Row) (newest count none : ℕ) → IsGiving rows page left free first newest count none → 0 < left
    → IsGiving (set rows page (free_row free)) (row_at rows page).next (left - 1) page first newest count none
giving-step rows page zero free first newest count none giving some = absurd (omega (arith, some))
giving-step rows page (suc left) free first newest count none giving some =
    let less : suc left - 1 ≡ left = omega arith in
    rw less (record { there = giving.there.1; rows_are = giving.rows_are; free_is = giving.free_is })

-- Reading the page table at the index of an existing page yields the row of this page.
pub row_at-read : (rows : List Row) (page : ℕ) (r : Row) → page < length rows → r ≡ slice_index_or rows page r → row_at rows page ≡ r
row_at-read rows page r inside is = get_or_default rows page (free_row NONE) r inside ∙ sym is

-- ---- marks from an index on

pub marked-in : (old : ℕ → Bool) (first count : ℕ) (mark : Bool) (word : ℕ) → first ≤ word → word < first + count → marked_between old first count mark word ≡ mark
marked-in old first count mark word low high =
    cond-true (nat_le first word && nat_lt word (first + count)) mark (old word) (ap (λ (a : Bool). a && nat_lt word (first + count)) (le-leb first word low) ∙ lt-ltb word (first + count) high)

pub marked-out : (old : ℕ → Bool) (first count : ℕ) (mark : Bool) (word : ℕ) → (word < first) ⊎ (first + count ≤ word) → marked_between old first count mark word ≡ old word
marked-out old first count mark word (inl below) =
    cond-false (nat_le first word && nat_lt word (first + count)) mark (old word) (ap (λ (a : Bool). a && nat_lt word (first + count)) (lt-leb first word below))
marked-out old first count mark word (inr past) =
    cond-false (nat_le first word && nat_lt word (first + count)) mark (old word) (and_right (nat_le first word) (nat_lt word (first + count)) (le-ltb word (first + count) past))
