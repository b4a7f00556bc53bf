-- This file finds the unique block that begins at an address, by a table of pages.
use Rattle.std.proofs.Common.{◌≡◌, ◌≢◌, ℕ, ◌+◌, ◌*◌, ◌/◌, ◌%◌, ◌^◌, ◌<◌, ◌≤◌, Bool, true, false, List, length, None, Some, sym, ap, subst, ◌∙◌, inl, inr, lit<, arith}
use Rattle.std.specs.Prelude.{◌⊎◌, is_some, slice_index_or}
use Rattle.std.proofs.Math.Nat.{mod-lt, mul-div_cancel}
use Rattle.std.proofs.lemmas.List.{get_or_default}
use Rattle.std.proofs.lemmas.Nat.{pow_pos}
use Rattle.cyc_words.specs.Demand.{greatest_class}
use Rattle.cyc_words.proofs.Booleans.{some_there}
use Rattle.cyc_words.proofs.Options.{none_from_is_some, none_or_some}
use Rattle.cyc_store.specs.State.{lookup, address_of, handle_of, StoreState}
use Rattle.cyc_store.specs.Ledger.{Blocks, store_of}
use Rattle.cyc_store.specs.Slots.{place_of, IsSlot, IsLiveSlot}
use Rattle.cyc_store.specs.Table.{row_at}
use Rattle.cyc_store.specs.inside.Kept.{sort_of, handle_of_page, IsKept, table_of}
use Rattle.cyc_store.specs.declared.row.PageTable.{PageTable}
use Rattle.cyc_store.specs.declared.row.Role.TheVariants as role
use Rattle.cyc_store.specs.declared.row.Row.{Row}
use Rattle.cyc_store.specs.declared.row.ClassSlots.{ClassSlots}
use Rattle.cyc_store.specs.declared.range.TheConstants.{PAGE_WORDS, UNIQUE}
use Rattle.cyc_store.proofs.LookupLemmas.{lookup-key}
use Rattle.cyc_store.proofs.LiveWords.{slot-fits, slots-owner, unique-role, word-split}
use Rattle.cyc_store.proofs.SlotServices.{same-words, freed-is}
use Rattle.cyc_store.proofs.SlotTables.{slot-page, slot-offset}
use Rattle.cyc_store.proofs.TableLemmas.{row_at-read}

module _ (t : PageTable) (lexicals : List ℕ) (classes : List ClassSlots) (b : Blocks) (k : IsKept t lexicals classes b) (address : ℕ) where
  abbrev s : StoreState
  s = store_of t.most t.words.items b

  abbrev IsNone : Type 0
  IsNone = lookup address_of b.unique address ≡ None

  -- If no slot for unique blocks begins at an address, then no unique block begins at this address.
  none-unless : ((class word : ℕ) → IsSlot k.layout.pages.owner k.layout.class class word → address ≡ place_of word → ⊥) → IsNone
  none-unless never = elim (none_or_some (lookup address_of b.unique address)) [
    | inl none ↦ none
    | inr (x, there) ↦
        let live : IsLiveSlot k.layout.pages.owner k.layout.class x = k.laid.slots.live address x there in
        absurd (never live.class live.word live.slot (sym (lookup-key address_of b.unique address x there) ∙ ap address_of live.is))
  ]

  -- No unique block begins at an address that lies below the store's first word or is not a multiple of 4.
  pub block-unplaced : (address < 536870912) ⊎ (address % 4 ≢ 0) → IsNone
  block-unplaced bad = none-unless (λ class word slot at. clash address word at bad)
    where
      clash : (a w : ℕ) → a ≡ 536870912 + 4 * w → (a < 536870912) ⊎ (a % 4 ≢ 0) → ⊥
      clash a w at (inl less) = omega (arith, less, at)
      clash a w at (inr odd) = odd (omega (arith, at))

  module _ (word : ℕ) (at : address ≡ 536870912 + 4 * word) where
    -- If no slot for unique blocks begins at the word with an address, then no unique block begins at this address.
    slot-unless : ((class : ℕ) → IsSlot k.layout.pages.owner k.layout.class class word → ⊥) → IsNone
    slot-unless never = none-unless (λ class w slot also. never class (subst (IsSlot k.layout.pages.owner k.layout.class class) (same-words w word (sym also ∙ at)) slot))

    pub block-past : length t.rows.items ≤ word / 1024 → IsNone
    block-past past = slot-unless (λ class slot. clash (word / 1024) slot.page (length t.rows.items) (slot-page k.layout.pages.owner k.layout.class class word slot)
        (k.tied.drawn slot.page UNIQUE slot.owned) past)
      where
        clash : (q p n : ℕ) → q ≡ p → p < n → n ≤ q → ⊥
        clash q p n same less past = omega (arith, same, less, past)

    module _ (r : Row) (there : word / 1024 < length t.rows.items) (read : r ≡ slice_index_or t.rows.items (word / 1024) r) where
      row-is : row_at t.rows.items (word / 1024) ≡ r
      row-is = row_at-read t.rows.items (word / 1024) r there read

      pub block-other : ((class : ℕ) → r.role ≡ role.Slots class → ⊥) → IsNone
      block-other never = slot-unless (λ class slot.
          never (k.layout.class (word / 1024)) (ap (λ (x : Row). x.role) (sym row-is) ∙ unique-role (table_of t) lexicals _ b t.words.items k.layout k.laid k.tied (word / 1024)
          (ap k.layout.pages.owner (slot-page k.layout.pages.owner k.layout.class class word slot) ∙ slot.owned)))

      module _ (class : ℕ) (is : r.role ≡ role.Slots class) where
        page-is : (k.layout.pages.owner (word / 1024) ≡ Some UNIQUE) × (k.layout.class (word / 1024) ≡ class)
        page-is = slots-owner (sort_of (lookup handle_of b.regions (handle_of_page (word / 1024)))) (k.layout.pages.owner (word / 1024)) (k.layout.class (word / 1024)) class
            (sym (k.tied.rows (word / 1024)).plays ∙ (ap (λ (x : Row). x.role) row-is ∙ is))

        pub block-class : class ≤ greatest_class
        block-class = subst (λ n. n ≤ greatest_class) page-is.1 (k.laid.slots.bound (word / 1024) page-is.0)

        pub block-there : word < length t.live.items
        block-there = within (word / 1024) (word % 1024) word (length t.rows.items) (length t.live.items) there (mod-lt word (lit< tt)) (word-split word) k.whole.live
          where
            within : (p o w n m : ℕ) → p < n → o < 1024 → 1024 * p + o ≡ w → m ≡ 1024 * n → w < m
            within p o w n m less small split whole = omega (arith, less, small, split, whole)

        pub block-inner : (word % 1024 / 2 ^ class * 2 ^ class ≡ word % 1024 → ⊥) → IsNone
        block-inner inner = slot-unless (λ c slot. inner (first c slot))
          where
            first : (c : ℕ) → IsSlot k.layout.pages.owner k.layout.class c word → word % 1024 / 2 ^ class * 2 ^ class ≡ word % 1024
            first c slot =
                let same : c ≡ class = sym slot.same ∙ (ap k.layout.class (sym (slot-page k.layout.pages.owner k.layout.class c word slot)) ∙ page-is.1) in
                let offset : word % 1024 ≡ slot.number * 2 ^ class = slot-offset k.layout.pages.owner k.layout.class c word slot ∙ ap (λ n. slot.number * 2 ^ n) same in
                ap (λ n. n / 2 ^ class * 2 ^ class) offset ∙ (ap (λ n. n * 2 ^ class) (mul-div_cancel slot.number (pow_pos class)) ∙ sym offset)

        module _ (first : word % 1024 / 2 ^ class * 2 ^ class ≡ word % 1024) (mark : Bool)
            (marked : mark ≡ slice_index_or t.live.items word mark) where
          -- The word with the given index is the first word of the slot that contains it.
          place-is : PAGE_WORDS * (word / 1024) + word % 1024 / 2 ^ k.layout.class (word / 1024) * 2 ^ k.layout.class (word / 1024) ≡ word
          place-is =
              ap (λ c. PAGE_WORDS * (word / 1024) + word % 1024 / 2 ^ c * 2 ^ c) page-is.1
              ∙ (ap (λ n. PAGE_WORDS * (word / 1024) + n) first ∙ word-split word)

          mark-is : mark ≡ is_some (lookup address_of b.unique address)
          mark-is =
              marked ∙ (sym (get_or_default t.live.items word false mark block-there)
              ∙ (ap (λ n. slice_index_or t.live.items n false) (sym (word-split word))
              ∙ (k.tied.marked (word / 1024) (word % 1024) page-is.0 (mod-lt word (lit< tt))
              ∙ ap (λ n. is_some (lookup address_of b.unique n)) (ap place_of place-is ∙ sym at))))

          pub block-dead : mark ≡ false → IsNone
          block-dead dead = none_from_is_some (lookup address_of b.unique address) (sym mark-is ∙ dead)

          slot : IsSlot k.layout.pages.owner k.layout.class class word
          slot = record {
            page = word / 1024;
            number = word % 1024 / 2 ^ class;
            owned = page-is.0;
            same = page-is.1;
            at = sym (ap (λ n. PAGE_WORDS * (word / 1024) + n) first ∙ word-split word);
            fits = slot-fits class (word % 1024 / 2 ^ class) block-class (subst (λ n. n < 1024) (sym first) (mod-lt word (lit< tt)));
          }

          pub block-live : mark ≡ true → lookup address_of b.unique address ≡ Some (record { address = address; size = 2 ^ class })
          block-live live =
              let (x, found) = some_there (lookup address_of b.unique address) (sym mark-is ∙ live) in
              found ∙ (ap (λ y. Some y) (freed-is s k.layout k.laid class word block-class slot x (ap (lookup address_of b.unique) (sym at) ∙ found))
              ∙ ap (λ a. Some (record { address = a; size = 2 ^ class })) (sym at))
