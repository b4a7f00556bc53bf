-- This file is about the answer of a store on a table of pages to a request for a unique block. To answer the request, the store fills
-- a slot; if there is no empty slot, a page is cut into slots first. If there is neither an empty slot nor a free page, the store is
-- out of pages.
use Rattle.std.proofs.Common.{◌≡◌, ℕ, suc, ◌+◌, ◌*◌, ◌^◌, ◌<◌, ◌≤◌, List, length, None, refl, sym, ap, subst, ◌∙◌, inl, inr, arith, get_or-set_same}
use Rattle.std.specs.Prelude.{◌⊎◌, true, slice_index}
use Rattle.std.proofs.Math.Nat.{suc-mul}
use Rattle.std.proofs.lemmas.Bool.{cases_lt}
use Rattle.cyc_words.specs.Demand.{greatest_class, class_of, blocks_in_page, demand_of}
use Rattle.cyc_store.specs.State.{Block, StoreState, sizes_in, demand, live_in, raised, made_unique}
use Rattle.cyc_store.specs.Answers.{refused, Responds}
use Rattle.cyc_store.specs.Services.{Allocate, Allocated, Refused, Full, refusal, Serves}
use Rattle.cyc_store.specs.Ledger.{Blocks, store_of}
use Rattle.cyc_store.specs.Slots.{HasSlot, IsSpent, with_page, Fills, Stocks}
use Rattle.cyc_store.specs.inside.Kept.{IsKept}
use Rattle.cyc_store.specs.declared.answer.No.{No}
use Rattle.cyc_store.specs.declared.answer.No.TheVariants as no
use Rattle.cyc_store.specs.declared.row.PageTable.{PageTable}
use Rattle.cyc_store.specs.declared.row.ClassSlots.{ClassSlots}
use Rattle.cyc_store.specs.declared.range.TheConstants.{MOST_BLOCK_WORDS, UNIQUE}
use Rattle.cyc_store.proofs.CountLemmas.{class_of-bound, blocks-some}
use Rattle.cyc_store.proofs.Responses as responses
use Rattle.cyc_store.proofs.SlotCounts.{class-power, raised-past}
use Rattle.cyc_store.proofs.SlotStock.{with_page-demand}

module _ (t : PageTable) (lexicals : List ℕ) (classes : List ClassSlots) (b : Blocks) (k : IsKept t lexicals classes b)
    (n : ℕ) (least : 1 ≤ n) (most : n ≤ MOST_BLOCK_WORDS) (class : ℕ) (is : class ≡ class_of n) where
  abbrev s : StoreState
  s = store_of t.most t.words.items b

  pub unique-bound : class ≤ greatest_class
  unique-bound = subst (λ c. c ≤ greatest_class) (sym is) (class_of-bound n)

  abbrev block : (address : ℕ) → Block
  block address = record { address = address; size = 2 ^ class }

  size-is : 2 ^ class ≡ 2 ^ class_of n
  size-is = ap (λ c. 2 ^ c) is

  -- ---- if there is an empty slot

  pub unique-filled : (address : ℕ) (u : StoreState) → Fills s class address u → Serves s (Allocate UNIQUE n) (Allocated address) u
  unique-filled address u fills = subst (Serves s (Allocate UNIQUE n) (Allocated address)) (sym fills.held)
      (responses.serves-unique s k.layout k.laid n least most (block address) size-is (fills.placed, fills.apart)
      (subst (λ d. d ≤ t.most) (sym (ap (demand_of (sizes_in b.regions)) fills.classes)) k.laid.sound.demand))

  -- ---- if there is no empty slot

  module _ (none : HasSlot s class → ⊥) where
    all-live : live_in class b.unique ≡ slice_index b.classes class * blocks_in_page class
    all-live = all (live_in class b.unique) (length (k.layout.dead class)) (slice_index b.classes class * blocks_in_page class) none (k.laid.slots.count class unique-bound)
      where
        all : (m d p : ℕ) → (m < p → ⊥) → m + d ≡ p → m ≡ p
        all m d p not count = elim (cases_lt m p) [ inl less ↦ absurd (not less) | inr more ↦ omega (arith, more, count) ]

    class-is : class_of (2 ^ class) ≡ class
    class-is = class-power class unique-bound

    -- If all slots of a size class are live, then one more block of the class needs one more page.
    raised-is : raised b.classes (class_of (2 ^ class)) (suc (live_in (class_of (2 ^ class)) b.unique)) ≡ (with_page s class).classes
    raised-is = ap (λ c. raised b.classes c (suc (live_in c b.unique))) class-is ∙ raised-past b.classes class (live_in class b.unique) unique-bound all-live

    demand-is : (address : ℕ) → demand (made_unique s (block address)) ≡ demand (with_page s class)
    demand-is address = ap (demand_of (sizes_in b.regions)) raised-is

    grows : (address : ℕ) → demand (made_unique s (block address)) ≡ suc (demand s)
    grows address = demand-is address ∙ with_page-demand s class k.laid.sound unique-bound

    pub unique-has : (u : StoreState) → Stocks s class u → HasSlot u class
    unique-has u stocks = subst (λ v. HasSlot v class) (sym stocks.held)
        (subst (λ m. live_in class b.unique < m * blocks_in_page class) (sym (get_or-set_same b.classes class (suc (slice_index b.classes class)) 0 there))
        (more (live_in class b.unique) (slice_index b.classes class * blocks_in_page class) (blocks_in_page class) (suc (slice_index b.classes class) * blocks_in_page class)
        all-live (suc-mul (slice_index b.classes class) (blocks_in_page class)) (blocks-some class unique-bound)))
      where
        there : class < length b.classes
        there = within class (length b.classes) unique-bound k.laid.sound.classes
          where
            within : (c m : ℕ) → c ≤ 10 → m ≡ 11 → c < m
            within c m few eleven = omega (arith, few, eleven)

        more : (m p z q : ℕ) → m ≡ p → q ≡ p + z → 0 < z → m < q
        more m p z q all next some = omega (arith, all, next, some)

    pub unique-stocked : (u v : StoreState) (address : ℕ) → Stocks s class u → Fills u class address v → Serves s (Allocate UNIQUE n) (Allocated address) v
    unique-stocked u v address stocks fills =
        let filled : Fills (with_page s class) class address v = subst (λ x. Fills x class address v) stocks.held fills in
        subst (Serves s (Allocate UNIQUE n) (Allocated address)) (sym (filled.held ∙ with_block (filled.classes ∙ sym raised-is)))
        (responses.serves-unique s k.layout k.laid n least most (block address) size-is (filled.placed, filled.apart)
        (subst (λ d. d ≤ t.most) (sym (demand-is address)) stocks.room))
      where
        with_block : (made_unique (with_page s class) (block address)).classes ≡ (made_unique s (block address)).classes
            → made_unique (with_page s class) (block address) ≡ made_unique s (block address)
        with_block e = ap (λ cs. record (made_unique s (block address)) { classes = cs }) e

    pub unique-full : IsSpent s → Serves s (Allocate UNIQUE n) (Refused Full) s
    unique-full spent = responses.unique-full s k.layout k.laid n least most (block 0) size-is (past (demand s) t.most (demand (made_unique s (block 0))) spent (grows 0))
      where
        past : (d p e : ℕ) → d ≡ p → e ≡ suc d → p < e
        past d p e spent next = omega (arith, spent, next)

    pub unique-none : demand s < t.most → refusal s (Allocate UNIQUE n) ≡ None
    unique-none less = responses.unique-none s k.layout k.laid n least most (block 0) size-is (few (demand s) t.most (demand (made_unique s (block 0))) less (grows 0))
      where
        few : (d p e : ℕ) → d < p → e ≡ suc d → e ≤ p
        few d p e less next = omega (arith, less, next)

    -- If cutting a page into slots fails, then the request for a block is refused for the reason of that failure.
    pub unique-refused : (why : No) (u : StoreState) → (why ≡ no.Full) ⊎ (why ≡ no.Memory) → (why ≡ no.Full → IsSpent s) → (why ≡ no.Memory → demand s < t.most) → u ≡ s
        → Responds true s (Allocate UNIQUE n) (refused why) u
    unique-refused why u (inl full) spent wants same = subst (λ w. Responds true s (Allocate UNIQUE n) (refused w) u) (sym full)
        (subst (Serves s (Allocate UNIQUE n) (Refused Full)) (sym same) (unique-full (spent full)))
    unique-refused why u (inr memory) spent wants same = subst (λ w. Responds true s (Allocate UNIQUE n) (refused w) u) (sym memory) (refl, unique-none (wants memory), same)
