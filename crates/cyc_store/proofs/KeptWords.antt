-- This file determines the live words of a store on a table of pages. If a word is live depends on the entries that the table has for
-- the word's page.
use Rattle.std.proofs.Common.{◌≡◌, ℕ, ◌+◌, ◌*◌, ◌/◌, ◌%◌, ◌<◌, ◌≤◌, Bool, true, false, List, length, sym, ap, subst, ◌∙◌, lit<, arith}
use Rattle.std.specs.Prelude.{is_some, slice_index_or}
use Rattle.std.proofs.Math.Nat.{mod-lt}
use Rattle.std.proofs.lemmas.List.{get_or_default}
use Rattle.cyc_store.specs.State.{homes, holder}
use Rattle.cyc_store.specs.Ledger.{Blocks, store_of}
use Rattle.cyc_store.specs.Table.{row_at}
use Rattle.cyc_store.specs.inside.Kept.{IsKept, table_of}
use Rattle.cyc_store.specs.declared.row.PageTable.{PageTable}
use Rattle.cyc_store.specs.declared.row.Row.{Row}
use Rattle.cyc_store.specs.declared.row.ClassSlots.{ClassSlots}
use Rattle.cyc_store.specs.declared.range.TheConstants.{STORE_BASE, PAGE_WORDS}
use Rattle.cyc_store.proofs.TableLemmas.{row_at-read}
use Rattle.cyc_store.proofs.LiveWords.{word-split, live-below, live-marks}

module _ (t : PageTable) (lexicals : List ℕ) (classes : List ClassSlots) (b : Blocks) (k : IsKept t lexicals classes b) (word : ℕ) (inside : word < length t.words.items)
    (r : Row) (read : r ≡ slice_index_or t.rows.items (word / 1024) r) where
  small : word % 1024 < PAGE_WORDS
  small = mod-lt word (lit< tt)

  page-there : word / 1024 < length t.rows.items
  page-there = within (word / 1024) (word % 1024) word (length t.rows.items) (length t.words.items) (word-split word) k.whole.words inside
    where
      within : (p o w n m : ℕ) → 1024 * p + o ≡ w → m ≡ 1024 * n → w < m → p < n
      within p o w n m split whole less = omega (arith, split, whole, less)

  pub mark-there : word < length t.live.items
  mark-there = within word (length t.rows.items) (length t.words.items) (length t.live.items) k.whole.words k.whole.live inside
    where
      within : (w n m l : ℕ) → m ≡ 1024 * n → l ≡ 1024 * n → w < m → w < l
      within w n m l whole also less = omega (arith, whole, also, less)

  row-is : row_at t.rows.items (word / 1024) ≡ r
  row-is = row_at-read t.rows.items (word / 1024) r page-there read

  abbrev IsAnswer : Bool → Type 0
  IsAnswer answer = answer ≡ is_some (holder (homes (store_of t.most t.words.items b)) (STORE_BASE + 4 * word))

  at-word : (answer : Bool) → is_some (holder (homes (store_of t.most t.words.items b)) (STORE_BASE + 4 * (PAGE_WORDS * (word / 1024) + word % 1024))) ≡ answer → IsAnswer answer
  at-word answer is = sym (subst (λ n. is_some (holder (homes (store_of t.most t.words.items b)) (STORE_BASE + 4 * n)) ≡ answer) (word-split word) is)

  pub kept-below : word % 1024 < r.filled → IsAnswer true
  kept-below below = at-word true (live-below (table_of t) lexicals _ b t.words.items k.layout k.laid k.tied (word / 1024) (word % 1024) small
      (subst (λ (x : Row). word % 1024 < x.filled) (sym row-is) below))

  pub kept-marks : (answer : Bool) → r.filled ≤ word % 1024 → answer ≡ slice_index_or t.live.items word answer → IsAnswer answer
  kept-marks answer past reads = at-word answer
      (live-marks (table_of t) lexicals _ b t.words.items k.layout k.laid k.tied (word / 1024) (word % 1024) small (subst (λ (x : Row). x.filled ≤ word % 1024) (sym row-is) past)
      ∙ (ap (λ n. slice_index_or t.live.items n false) (word-split word) ∙ (get_or_default t.live.items word false answer mark-there ∙ sym reads)))
