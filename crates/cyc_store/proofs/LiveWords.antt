-- This file determines the live words of a table of pages from the table's rows and from the flags that mark words as live.
use Rattle.std.proofs.Common.{◌≡◌, ℕ, zero, suc, ◌+◌, ◌*◌, ◌/◌, ◌%◌, ◌^◌, ◌<◌, ◌≤◌, true, false, List, Option, None, Some, refl, sym, ap, subst, ◌∙◌, inl, inr, arith}
use Rattle.std.specs.Prelude.{is_some}
use Rattle.std.proofs.Math.Nat.{mul-le-mul_right, suc-mul, div-mul-le_self, lt-div-mul-add, div-add-mod}
use Rattle.std.proofs.lemmas.Bool.{cases_eq, cases_lt}
use Rattle.std.proofs.lemmas.Nat.{pow_pos}
use Rattle.cyc_words.specs.Demand.{greatest_class, blocks_in_page}
use Rattle.cyc_words.proofs.Numbers.{when_equal}
use Rattle.cyc_words.proofs.Options.{none_or_some, never_none_and_some, same_from_some}
use Rattle.cyc_store.specs.State.{lookup, address_of, Sort, Heap, Lexical, Dynamic, Uniques, handle_of, StoreState, homes, covers, holder}
use Rattle.cyc_store.specs.Ledger.{Blocks, store_of}
use Rattle.cyc_store.specs.Slots.{place_of, Layout, slot_block, IsSlot, IsLaidOut}
use Rattle.cyc_store.specs.inside.Kept.{Table, limit, role_of, role_of_owner, role_of_sort, sort_of, handle_of_page, IsRooted, IsTied}
use Rattle.cyc_store.specs.declared.row.Role.{Role}
use Rattle.cyc_store.specs.declared.row.Role.TheVariants as role
use Rattle.cyc_store.specs.declared.row.ClassSlots.{ClassSlots}
use Rattle.cyc_store.specs.declared.range.TheConstants.{STORE_BASE, PAGE_WORDS, UNIQUE}
use Rattle.cyc_store.proofs.LookupLemmas.{when_other, lookup-key}
use Rattle.cyc_store.proofs.HolderLemmas.{covers_from}
use Rattle.cyc_store.proofs.SlotLemmas.{slot-apart, slot-live, filled-live, past-dead}

-- the slots of a size class fill a page of the class exactly
pub blocks-whole : (class : ℕ) → class ≤ greatest_class → blocks_in_page class * 2 ^ class ≡ PAGE_WORDS
blocks-whole zero bound = refl
blocks-whole (suc zero) bound = refl
blocks-whole (suc (suc zero)) bound = refl
blocks-whole (suc (suc (suc zero))) bound = refl
blocks-whole (suc (suc (suc (suc zero)))) bound = refl
blocks-whole (suc (suc (suc (suc (suc zero))))) bound = refl
blocks-whole (suc (suc (suc (suc (suc (suc zero)))))) bound = refl
blocks-whole (suc (suc (suc (suc (suc (suc (suc zero))))))) bound = refl
blocks-whole (suc (suc (suc (suc (suc (suc (suc (suc zero)))))))) bound = refl
blocks-whole (suc (suc (suc (suc (suc (suc (suc (suc (suc zero))))))))) bound = refl
blocks-whole (suc (suc (suc (suc (suc (suc (suc (suc (suc (suc zero)))))))))) bound = refl
blocks-whole (suc (suc (suc (suc (suc (suc (suc (suc (suc (suc (suc class))))))))))) bound = absurd (omega (arith, bound))

-- A slot that begins in a page ends in the same page.
pub slot-fits : (class number : ℕ) → class ≤ greatest_class → number * 2 ^ class < PAGE_WORDS → number * 2 ^ class + 2 ^ class ≤ PAGE_WORDS
slot-fits class number bound inside = elim (cases_lt number (blocks_in_page class)) [
  | inl less ↦
      let most : suc number * 2 ^ class ≤ blocks_in_page class * 2 ^ class = mul-le-mul_right (2 ^ class) (next number (blocks_in_page class) less) in
      ends (number * 2 ^ class) (2 ^ class) (suc number * 2 ^ class) (blocks_in_page class * 2 ^ class) PAGE_WORDS (suc-mul number (2 ^ class)) most (blocks-whole class bound)
  | inr more ↦
      let most : blocks_in_page class * 2 ^ class ≤ number * 2 ^ class = mul-le-mul_right (2 ^ class) more in
      absurd (past (number * 2 ^ class) (blocks_in_page class * 2 ^ class) PAGE_WORDS most (blocks-whole class bound) inside)
]
  where
    next : (m n : ℕ) → m < n → suc m ≤ n
    next m n e = omega (arith, e)

    ends : (a z n m k : ℕ) → n ≡ a + z → n ≤ m → m ≡ k → a + z ≤ k
    ends a z n m k first second third = omega (arith, first, second, third)

    past : (a m k : ℕ) → m ≤ a → m ≡ k → a < k → ⊥
    past a m k first second third = omega (arith, first, second, third)

-- ---- roles of pages

abbrev pub slots_or : (class : ℕ) → Role → ℕ
slots_or other role.Rest = other
slots_or other role.Heap = other
slots_or other role.Lexical = other
slots_or other role.Dynamic = other
slots_or other (role.Slots class) = class

pub same-class : (c d : ℕ) → role.Slots c ≡ role.Slots d → c ≡ d
same-class c d e = ap (slots_or 0) e

rest-slots : (c : ℕ) → role.Rest ≡ role.Slots c → ⊥
rest-slots c e = cc

sort-slots : (sort : Sort) (c : ℕ) → role_of_sort sort ≡ role.Slots c → ⊥
sort-slots Heap c e = cc
sort-slots Lexical c e = cc
sort-slots Dynamic c e = cc
sort-slots Uniques c e = cc

-- Only a page that is cut into slots of a size class has the role of this class in the page table.
pub slots-owner : (sort : Option Sort) (owner : Option ℕ) (class c : ℕ) → role_of sort owner class ≡ role.Slots c → (owner ≡ Some UNIQUE) × (class ≡ c)
slots-owner (Some sort) owner class c e = absurd (sort-slots sort c e)
slots-owner None None class c e = absurd (rest-slots c e)
slots-owner None (Some h) class c e = elim (cases_eq h UNIQUE) [
  | inl same ↦ (ap (λ n. Some n) same, same-class class c (sym (when_equal h UNIQUE (role.Slots class) role.Rest same) ∙ e))
  | inr other ↦ absurd (rest-slots c (sym (when_other h UNIQUE (role.Slots class) role.Rest other) ∙ e))
]

-- The handle of a region differs from the handle of the unique blocks.
pub odd-apart : (page : ℕ) → handle_of_page page ≡ UNIQUE → ⊥
odd-apart page e = omega (arith, e)

-- ---- live words

module _ (t : Table) (lexicals : List ℕ) (classes : ℕ → ClassSlots) (b : Blocks) (words : List ℕ) (l : Layout)
    (laid : IsLaidOut (store_of t.most words b) l) (tied : IsTied t lexicals classes b l) where
  abbrev s : StoreState
  s = store_of t.most words b

  -- A page of a size class of unique blocks is not the first page of a region.
  pub unique-role : (page : ℕ) → l.pages.owner page ≡ Some UNIQUE → (t.row page).role ≡ role.Slots (l.class page)
  unique-role page owned =
      (tied.rows page).plays
      ∙ (ap (λ o. role_of (sort_of o) (l.pages.owner page) (l.class page)) rootless
      ∙ (ap (λ o. role_of_owner o (l.class page)) owned ∙ when_equal UNIQUE UNIQUE (role.Slots (l.class page)) role.Rest refl))
    where
      rootless : lookup handle_of b.regions (handle_of_page page) ≡ None
      rootless = elim (none_or_some (lookup handle_of b.regions (handle_of_page page))) [
        | inl none ↦ none
        | inr (r, there) ↦
            let rooted : IsRooted t.row l.pages r = tied.roots (handle_of_page page) r there in
            let same : r.handle ≡ handle_of_page page = lookup-key handle_of b.regions (handle_of_page page) r there in
            let root : rooted.root ≡ page = halves rooted.root page (sym rooted.handle ∙ same) in
            absurd (odd-apart page (sym same ∙ same_from_some (sym rooted.owned ∙ (ap l.pages.owner root ∙ owned))))
      ]
        where
          halves : (m n : ℕ) → 2 * m + 1 ≡ 2 * n + 1 → m ≡ n
          halves m n e = omega (arith, e)

  module _ (page offset : ℕ) (small : offset < PAGE_WORDS) where
    pub live-below : offset < (t.row page).filled → is_some (holder (homes s) (place_of (PAGE_WORDS * page + offset))) ≡ true
    live-below below = by (l.pages.owner page) refl
      where
        none-below : (n : ℕ) → n < 0 → ⊥
        none-below n e = omega (arith, e)

        by : (o : Option ℕ) → l.pages.owner page ≡ o → is_some (holder (homes s) (place_of (PAGE_WORDS * page + offset))) ≡ true
        by None owned = absurd (none-below offset (subst (λ n. offset < n) ((tied.rows page).marks ∙ ap (λ o. limit o (l.pages.filled page)) owned) below))
        by (Some h) owned = elim (cases_eq h UNIQUE) [
          | inl same ↦ absurd (none-below offset (subst (λ n. offset < n)
              ((tied.rows page).marks ∙ (ap (λ o. limit o (l.pages.filled page)) owned ∙ when_equal h UNIQUE 0 (l.pages.filled page) same)) below))
          | inr other ↦ ap is_some (filled-live s l laid page offset h owned other (subst (λ n. offset < n)
              ((tied.rows page).marks ∙ (ap (λ o. limit o (l.pages.filled page)) owned ∙ when_other h UNIQUE 0 (l.pages.filled page) other)) below)).1
        ]

    live-slots : (class : ℕ) → (t.row page).role ≡ role.Slots class → is_some (holder (homes s) (place_of (PAGE_WORDS * page + offset))) ≡ t.live (PAGE_WORDS * page + offset)
    live-slots class is =
        let (owned, same) = slots-owner (sort_of (lookup handle_of b.regions (handle_of_page page))) (l.pages.owner page) (l.class page) class (sym (tied.rows page).plays ∙ is) in
        by owned same
      where
        least : offset / 2 ^ class * 2 ^ class ≤ offset
        least = div-mul-le_self offset (2 ^ class)

        most : offset < offset / 2 ^ class * 2 ^ class + 2 ^ class
        most = lt-div-mul-add {a = offset} {b = 2 ^ class} (pow_pos class)

        below : (m n k : ℕ) → m ≤ n → n < k → m < k
        below m n k first second = omega (arith, first, second)

        inside : covers (slot_block class (PAGE_WORDS * page + offset / 2 ^ class * 2 ^ class)) (place_of (PAGE_WORDS * page + offset)) ≡ true
        inside = covers_from (slot_block class (PAGE_WORDS * page + offset / 2 ^ class * 2 ^ class)) (place_of (PAGE_WORDS * page + offset))
            (above STORE_BASE (PAGE_WORDS * page) (offset / 2 ^ class * 2 ^ class) offset least)
            (within STORE_BASE (PAGE_WORDS * page) (offset / 2 ^ class * 2 ^ class) offset (2 ^ class) most)
          where
            above : (base p a n : ℕ) → a ≤ n → base + 4 * (p + a) ≤ base + 4 * (p + n)
            above base p a n e = omega (arith, e)

            within : (base p a n z : ℕ) → n < a + z → base + 4 * (p + n) < base + 4 * (p + a) + 4 * z
            within base p a n z e = omega (arith, e)

        by : l.pages.owner page ≡ Some UNIQUE → l.class page ≡ class
            → is_some (holder (homes s) (place_of (PAGE_WORDS * page + offset))) ≡ t.live (PAGE_WORDS * page + offset)
        by owned same = elim (none_or_some (lookup address_of b.unique (place_of (PAGE_WORDS * page + offset / 2 ^ class * 2 ^ class)))) [
          | inl none ↦ ap is_some (slot-apart s l laid class (PAGE_WORDS * page + offset / 2 ^ class * 2 ^ class) slot none (place_of (PAGE_WORDS * page + offset)) inside)
              ∙ sym (mark ∙ ap is_some none)
          | inr (c, there) ↦ ap is_some (slot-live s l laid class (PAGE_WORDS * page + offset / 2 ^ class * 2 ^ class) (place_of (PAGE_WORDS * page + offset)) c slot inside there)
              ∙ sym (mark ∙ ap is_some there)
        ]
          where
            bound : class ≤ greatest_class
            bound = subst (λ n. n ≤ greatest_class) same (laid.slots.bound page owned)

            slot : IsSlot l.pages.owner l.class class (PAGE_WORDS * page + offset / 2 ^ class * 2 ^ class)
            slot = record {
              page = page;
              number = offset / 2 ^ class;
              owned = owned;
              same = same;
              at = refl;
              fits = slot-fits class (offset / 2 ^ class) bound (below (offset / 2 ^ class * 2 ^ class) offset PAGE_WORDS least small);
            }

            mark : t.live (PAGE_WORDS * page + offset) ≡ is_some (lookup address_of b.unique (place_of (PAGE_WORDS * page + offset / 2 ^ class * 2 ^ class)))
            mark = tied.marked page offset owned small ∙ ap (λ n. is_some (lookup address_of b.unique (place_of (PAGE_WORDS * page + offset / 2 ^ n * 2 ^ n)))) same

    live-none : (t.row page).filled ≤ offset → ((class : ℕ) → (t.row page).role ≡ role.Slots class → ⊥)
        → is_some (holder (homes s) (place_of (PAGE_WORDS * page + offset))) ≡ false
    live-none past never = ap is_some (past-dead s l laid page offset small (λ h owned. elim (cases_eq h UNIQUE) [
      | inl same ↦ absurd (never (l.class page) (unique-role page (owned ∙ ap (λ n. Some n) same)))
      | inr other ↦ subst (λ n. n ≤ offset) ((tied.rows page).marks ∙ (ap (λ o. limit o (l.pages.filled page)) owned ∙ when_other h UNIQUE 0 (l.pages.filled page) other)) past
    ]))

    -- Past the filled words of a page, a word is live exactly if the flag that marks it as live is set.
    pub live-marks : (t.row page).filled ≤ offset → is_some (holder (homes s) (place_of (PAGE_WORDS * page + offset))) ≡ t.live (PAGE_WORDS * page + offset)
    live-marks past = by (l.pages.owner page) refl
      where
        apart : (l.pages.owner page ≡ Some UNIQUE → ⊥) → is_some (holder (homes s) (place_of (PAGE_WORDS * page + offset))) ≡ t.live (PAGE_WORDS * page + offset)
        apart other =
            live-none past (λ class is. other (slots-owner (sort_of (lookup handle_of b.regions (handle_of_page page))) (l.pages.owner page) (l.class page) class (sym (tied.rows page).plays ∙ is)).0)
            ∙ sym (tied.unmarked page offset other small)

        by : (o : Option ℕ) → l.pages.owner page ≡ o → is_some (holder (homes s) (place_of (PAGE_WORDS * page + offset))) ≡ t.live (PAGE_WORDS * page + offset)
        by None owned = apart (λ e. never_none_and_some owned e)
        by (Some h) owned = elim (cases_eq h UNIQUE) [
          | inl same ↦ live-slots (l.class page) (unique-role page (owned ∙ ap (λ n. Some n) same))
          | inr other ↦ apart (λ e. other (same_from_some (sym owned ∙ e)))
        ]

-- The index of a word among all words is computed from the index of its page and its index in the page.
pub word-split : (word : ℕ) → PAGE_WORDS * (word / 1024) + word % 1024 ≡ word
word-split word = div-add-mod word 1024
