-- This file is about a table of pages after the flags that mark a slot's words as live are written, perhaps together with words.
use Rattle.std.proofs.Common.{◌≡◌, ℕ, ◌+◌, ◌*◌, ◌/◌, ◌%◌, ◌^◌, ◌<◌, ◌≤◌, Bool, false, List, length, Option, sym, ap, subst, ◌∙◌, inl, inr, arith, get_or-set_same, get_or-set_other}
use Rattle.std.specs.Prelude.{◌==◌, if◌then◌else◌, slice_index, slice_index_or, set}
use Rattle.std.specs.List.{AllByRecursion}
use Rattle.std.proofs.lemmas.Bool.{cases_eq}
use Rattle.std.proofs.lemmas.Nat.{pow_pos}
use mathlib.Core.Path.{fun_ext}
use Rattle.cyc_words.proofs.Numbers.{when_equal}
use Rattle.cyc_words.proofs.Members.{all_append_left}
use Rattle.cyc_store.specs.Slots.{IsSlot, slots_from}
use Rattle.cyc_store.specs.Table.{row_at, marked_between}
use Rattle.cyc_store.specs.inside.Kept.{IsStocked, table_of}
use Rattle.cyc_store.specs.declared.row.PageTable.{PageTable}
use Rattle.cyc_store.specs.declared.row.ClassSlots.{ClassSlots}
use Rattle.cyc_store.proofs.LookupLemmas.{when_other}
use Rattle.cyc_store.proofs.TieLemmas.{chain-also}
use Rattle.cyc_store.proofs.TieSlots.{with_marks}

-- The elements that are read from a list with one element replaced.
pub read-set : {A : Type 0} (xs : List A) (i : ℕ) (x d : A) → i < length xs
    → ◌≡◌ {A = ℕ → A} (λ j. slice_index_or (set xs i x) j d) (λ j. if j == i then x else slice_index_or xs j d)
read-set {A} xs i x d there = fun_ext (λ j. elim (cases_eq j i) [
  | inl here ↦ ap (λ n. slice_index_or (set xs i x) n d) here ∙ (get_or-set_same xs i x d there ∙ sym (when_equal j i x (slice_index_or xs j d) here))
  | inr other ↦ get_or-set_other xs i j x d other ∙ sym (when_other j i x (slice_index_or xs j d) other)
])

-- The page table in which words are replaced, and so are the flags that mark words as live.
pub read-table : (t v : PageTable) (words : ℕ → ℕ) (marks : ℕ → Bool) → v.most ≡ t.most → ◌≡◌ {A = ℕ → ℕ} (λ i. slice_index v.words.items i) words
    → ◌≡◌ {A = ℕ → Bool} (λ i. slice_index_or v.live.items i false) marks → v.free ≡ t.free → v.rows.items ≡ t.rows.items
    → table_of v ≡ record (table_of t) { word = words; live = marks }
read-table t v words marks most_is words_is marks_is free_is rows_is =
    ap (λ n. record (table_of v) { most = n }) most_is
    ∙ (ap (λ n. record (table_of v) { most = t.most; free = n }) free_is
    ∙ (ap (λ f. record (table_of v) { most = t.most; free = t.free; word = f }) words_is
    ∙ (ap (λ f. record (table_of v) { most = t.most; free = t.free; word = words; live = f }) marks_is
    ∙ ap (λ rs. record (table_of t) { word = words; live = marks; count = length rs; row = λ (p : ℕ). row_at rs p }) rows_is)))

-- The page table in which the `count` flags from index `first` on, which say whether words are live, are set to `mark`.
-- The words of the page table may be replaced by other words.
pub marked-table : (t v : PageTable) (first count : ℕ) (mark : Bool) (words : ℕ → ℕ) → v.most ≡ t.most → ◌≡◌ {A = ℕ → ℕ} (λ i. slice_index v.words.items i) words
    → ((word : ℕ) → slice_index_or v.live.items word false ≡ marked_between (λ (i : ℕ). slice_index_or t.live.items i false) first count mark word) → v.free ≡ t.free → v.rows.items ≡ t.rows.items
    → table_of v ≡ record (with_marks (table_of t) first count mark) { word = words }
marked-table t v first count mark words most_is words_is live_is free_is rows_is =
    read-table t v words (with_marks (table_of t) first count mark).live most_is words_is (fun_ext live_is) free_is rows_is

-- If the words of the dead slots of a size class are unchanged, then the representation of the class's slots is unchanged.
pub stock-words : (word also : ℕ → ℕ) (slots : ClassSlots) (class : ℕ) (dead : List ℕ) → AllByRecursion (λ x. also x ≡ word x) dead → IsStocked word slots class dead
    → IsStocked also slots class dead
stock-words word also slots class dead same old = record {
  chain = old.chain;
  all = old.all;
  linked = chain-also word also slots.dead old.chain
      (all_append_left (λ x. also x ≡ word x) old.chain (slots_from (2 ^ class) slots.fresh slots.left) (subst (AllByRecursion (λ x. also x ≡ word x)) old.all same)) old.linked;
}

-- The page of a slot and the slot's index in the page, computed from the slot's first word.
module _ (owner : ℕ → Option ℕ) (class_at : ℕ → ℕ) (class word : ℕ) (slot : IsSlot owner class_at class word) where
  pub slot-page : word / 1024 ≡ slot.page
  slot-page = page slot.page (slot.number * 2 ^ class) (2 ^ class) word slot.at slot.fits (pow_pos class)
    where
      page : (p a z w : ℕ) → w ≡ 1024 * p + a → a + z ≤ 1024 → 0 < z → w / 1024 ≡ p
      page p a z w at fits some = omega (arith, at, fits, some)

  pub slot-offset : word % 1024 ≡ slot.number * 2 ^ class
  slot-offset = offset slot.page (slot.number * 2 ^ class) (2 ^ class) word slot.at slot.fits (pow_pos class)
    where
      offset : (p a z w : ℕ) → w ≡ 1024 * p + a → a + z ≤ 1024 → 0 < z → w % 1024 ≡ a
      offset p a z w at fits some = omega (arith, at, fits, some)
