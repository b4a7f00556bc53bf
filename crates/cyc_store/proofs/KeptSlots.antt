-- Cutting a page into slots, and allocating a unique block in a slot, preserve the invariant of a store on a table of pages.
use Rattle.std.proofs.Common.{◌≡◌, ℕ, zero, suc, ◌+◌, ◌-◌, ◌*◌, ◌/◌, ◌^◌, ◌<◌, ◌≤◌, true, false, List, [], ◌∷◌, ◌++◌, length, refl, sym, ap, subst, ◌∙◌, inl, inr, arith, length-set}
use Rattle.std.specs.Prelude.{is_some, slice_index, slice_index_or, set}
use Rattle.std.specs.List.{AllByRecursion}
use Rattle.std.proofs.lemmas.Bool.{cases_eq}
use Rattle.std.proofs.lemmas.Nat.{pow_pos}
use Rattle.cyc_words.specs.Demand.{greatest_class, class_of, blocks_in_page}
use Rattle.cyc_words.proofs.Numbers.{when_equal}
use Rattle.cyc_words.proofs.Lists.{not_empty}
use Rattle.cyc_store.specs.State.{Block, address_of, StoreState, demand, live_in, made_unique}
use Rattle.cyc_store.specs.Soundness.{IsSound}
use Rattle.cyc_store.specs.Ledger.{Blocks, store_of, plain_store, blocks_of, after}
use Rattle.cyc_store.specs.Slots.{place_of, Layout, slot_block, slots_from, IsSlot, IsDeadSlot, IsLaidOut, HasSlot, IsSpent, with_page, Fills, Stocks}
use Rattle.cyc_store.specs.Table.{Draws, marked_between}
use Rattle.cyc_store.specs.inside.Kept.{Table, IsChain, IsStocked, next_slot_of, IsTied, IsKept, table_of, no_slots}
use Rattle.cyc_store.specs.declared.change.Change.TheVariants.{Stocked, MadeUnique}
use Rattle.cyc_store.specs.declared.row.PageTable.{PageTable}
use Rattle.cyc_store.specs.declared.row.TheConstants.{NONE}
use Rattle.cyc_store.specs.declared.row.ClassSlots.{ClassSlots}
use Rattle.cyc_store.specs.declared.range.TheConstants.{PAGE_WORDS, MOST_BLOCK_WORDS, UNIQUE}
use Rattle.cyc_store.proofs.LookupLemmas.{when_other, lookup-append_new, lookup-append_other}
use Rattle.cyc_store.proofs.Responses.{sound-unique}
use Rattle.cyc_store.proofs.SlotServices.{with_dead, dead-placed, dead-apart, dead-classes, dead-demand, dead-laid}
use Rattle.cyc_store.proofs.SlotStock.{slots-many, stocked, stock-sound, page-empty, stock-laid}
use Rattle.cyc_store.proofs.SlotTables.{read-set, marked-table}
use Rattle.cyc_store.proofs.TieLemmas.{IsDrawn}
use Rattle.cyc_store.proofs.TieOpening.{with_row}
use Rattle.cyc_store.proofs.TieSlots.{with_marks, with_slots, slot-tied, slots_row, fresh_slots, stock-tied}
use Rattle.cyc_store.proofs.KeptServices.{held-same, Rewrites, rewritten-table, rewritten-whole, kept-full, kept-some, kept-drawn, drawn-none, drawn-away}

-- ---- the first dead slot

-- The first dead slot of a size class is a slot of the class, and the remaining dead slots are represented after it is removed.
pub record IsFirst (word : ℕ → ℕ) (class : ℕ) (dead : List ℕ) (next : ℕ × ClassSlots) : Type 0 where
  pub rest : List ℕ
  pub first : dead ≡ next.0 ∷ rest
  pub stock : IsStocked word next.1 class rest

slots-first : (size word count : ℕ) → 0 < count → slots_from size word count ≡ word ∷ slots_from size (word + size) (count - 1)
slots-first size word zero some = absurd (omega (arith, some))
slots-first size word (suc count) some = ap (λ n. word ∷ slots_from size (word + size) n) (less count)
  where
    less : (n : ℕ) → n ≡ suc n - 1
    less n = omega arith

-- For each size class there is a number of requested words for which the allocated block is of this class.
asked : (class : ℕ) → class ≤ greatest_class → (n : ℕ) × (1 ≤ n) × (n ≤ MOST_BLOCK_WORDS) × (class_of n ≡ class)
asked zero bound = (1, omega arith, omega arith, refl)
asked (suc zero) bound = (2, omega arith, omega arith, refl)
asked (suc (suc zero)) bound = (4, omega arith, omega arith, refl)
asked (suc (suc (suc zero))) bound = (8, omega arith, omega arith, refl)
asked (suc (suc (suc (suc zero)))) bound = (16, omega arith, omega arith, refl)
asked (suc (suc (suc (suc (suc zero))))) bound = (32, omega arith, omega arith, refl)
asked (suc (suc (suc (suc (suc (suc zero)))))) bound = (64, omega arith, omega arith, refl)
asked (suc (suc (suc (suc (suc (suc (suc zero))))))) bound = (128, omega arith, omega arith, refl)
asked (suc (suc (suc (suc (suc (suc (suc (suc zero)))))))) bound = (256, omega arith, omega arith, refl)
asked (suc (suc (suc (suc (suc (suc (suc (suc (suc zero))))))))) bound = (512, omega arith, omega arith, refl)
asked (suc (suc (suc (suc (suc (suc (suc (suc (suc (suc zero)))))))))) bound = (1000, omega arith, omega arith, refl)
asked (suc (suc (suc (suc (suc (suc (suc (suc (suc (suc (suc class))))))))))) bound = absurd (omega (arith, bound))

-- If only the recorded page counts of the size classes change, then the page table still represents the layout of the blocks.
recounted : (t : Table) (lexicals : List ℕ) (classes : ℕ → ClassSlots) (b : Blocks) (l : Layout) (counts : List ℕ) → IsTied t lexicals classes b l
    → IsTied t lexicals classes (record b { classes = counts }) l
recounted t lexicals classes b l counts tied = record {
  most = tied.most;
  few = tied.few;
  drawn = tied.drawn;
  rows = tied.rows;
  given = tied.given;
  free = tied.free;
  linked = tied.linked;
  within = tied.within;
  homes = tied.homes;
  roots = tied.roots;
  newest = tied.newest;
  stock = tied.stock;
  marked = tied.marked;
  unmarked = tied.unmarked;
}

module _ (t : PageTable) (lexicals : List ℕ) (classes : List ClassSlots) (b : Blocks) (k : IsKept t lexicals classes b) (class : ℕ) (bound : class ≤ greatest_class) where
  abbrev slots : ClassSlots
  slots = slice_index_or classes class no_slots

  abbrev s : StoreState
  s = store_of t.most t.words.items b

  abbrev dead : List ℕ
  dead = k.layout.dead class

  pub class-there : class < length classes
  class-there = within class (length classes) bound k.eleven
    where
      within : (c n : ℕ) → c ≤ 10 → n ≡ 11 → c < n
      within c n few many = omega (arith, few, many)

  pub stock-is : IsStocked (table_of t).word slots class dead
  stock-is = k.tied.stock class bound

  -- The first word of a slot is a word of the page table: its index is below the number of the table's words.
  pub slot-there : (w : ℕ) → IsSlot k.layout.pages.owner k.layout.class class w → w < length t.words.items
  slot-there w slot = within slot.page (slot.number * 2 ^ class) (2 ^ class) w (length t.rows.items) (length t.words.items) slot.at slot.fits (pow_pos class)
      (k.tied.drawn slot.page UNIQUE slot.owned) k.whole.words
    where
      within : (p a z w n m : ℕ) → w ≡ 1024 * p + a → a + z ≤ 1024 → 0 < z → p < n → m ≡ 1024 * n → w < m
      within p a z w n m at fits some less whole = omega (arith, at, fits, some, less, whole)

  pub mark-there : (w : ℕ) → IsSlot k.layout.pages.owner k.layout.class class w → w + 2 ^ class ≤ length t.live.items
  mark-there w slot = within slot.page (slot.number * 2 ^ class) (2 ^ class) w (length t.rows.items) (length t.live.items) slot.at slot.fits (k.tied.drawn slot.page UNIQUE slot.owned) k.whole.live
    where
      within : (p a z w n m : ℕ) → w ≡ 1024 * p + a → a + z ≤ 1024 → p < n → m ≡ 1024 * n → w + z ≤ m
      within p a z w n m at fits less whole = omega (arith, at, fits, less, whole)

  pub words-few : length t.words.items ≤ 67108864
  words-few = within (length t.rows.items) t.most (length t.words.items) k.tied.few k.tied.most k.whole.words
    where
      within : (n m w : ℕ) → n ≤ m → m ≤ 65536 → w ≡ 1024 * n → w ≤ 67108864
      within n m w few most whole = omega (arith, few, most, whole)

  first-slot : (w : ℕ) (rest : List ℕ) → dead ≡ w ∷ rest → IsDeadSlot b.unique k.layout.pages.owner k.layout.class class w
  first-slot w rest is = (subst (AllByRecursion (IsDeadSlot b.unique k.layout.pages.owner k.layout.class class)) is (k.laid.slots.dead class bound)).0

  first-there : (w : ℕ) (rest : List ℕ) → dead ≡ w ∷ rest → w < length t.words.items
  first-there w rest is = slot-there w (first-slot w rest is).slot

  first-some : (w : ℕ) (rest : List ℕ) → dead ≡ w ∷ rest → w ≡ NONE → ⊥
  first-some w rest is none = past w (length t.words.items) none (first-there w rest is) words-few
    where
      past : (w n : ℕ) → w ≡ 4294967295 → w < n → n ≤ 67108864 → ⊥
      past w n none less few = omega (arith, none, less, few)

  -- If some dead slot of a class contained a block before, then the first of these slots links to the remaining ones.
  linked-first : (slots.dead ≡ NONE → ⊥) → IsFirst (table_of t).word class dead (slots.dead, record slots { dead = slice_index t.words.items slots.dead })
  linked-first some = by stock-is.chain stock-is.all stock-is.linked
    where
      by : (chain : List ℕ) → dead ≡ chain ++ slots_from (2 ^ class) slots.fresh slots.left → IsChain (table_of t).word slots.dead chain
          → IsFirst (table_of t).word class dead (slots.dead, record slots { dead = slice_index t.words.items slots.dead })
      by [] all linked = absurd (some linked)
      by (x ∷ chain) all linked = record {
        rest = chain ++ slots_from (2 ^ class) slots.fresh slots.left;
        first = all ∙ ap (λ n. n ∷ (chain ++ slots_from (2 ^ class) slots.fresh slots.left)) (sym linked.0);
        stock = record { chain = chain; all = refl; linked = subst (λ n. IsChain (table_of t).word (slice_index t.words.items n) chain) (sym linked.0) linked.1 };
      }

  -- If no dead slot has contained a block before, then the dead slots are those that were never used.
  fresh-dead : slots.dead ≡ NONE → dead ≡ slots_from (2 ^ class) slots.fresh slots.left
  fresh-dead none = by stock-is.chain stock-is.all stock-is.linked
    where
      by : (chain : List ℕ) → dead ≡ chain ++ slots_from (2 ^ class) slots.fresh slots.left → IsChain (table_of t).word slots.dead chain → dead ≡ slots_from (2 ^ class) slots.fresh slots.left
      by [] all linked = all
      by (x ∷ chain) all linked = absurd (first-some x (chain ++ slots_from (2 ^ class) slots.fresh slots.left) all (sym linked.0 ∙ none))

  fresh-many : slots.dead ≡ NONE → length dead ≡ slots.left
  fresh-many none = ap length (fresh-dead none) ∙ slots-many (2 ^ class) slots.fresh slots.left

  fresh-first : slots.dead ≡ NONE → 0 < slots.left → IsFirst (table_of t).word class dead (slots.fresh, record { dead = NONE; fresh = slots.fresh + 2 ^ class; left = slots.left - 1 })
  fresh-first none some = record {
    rest = slots_from (2 ^ class) (slots.fresh + 2 ^ class) (slots.left - 1);
    first = fresh-dead none ∙ slots-first (2 ^ class) slots.fresh slots.left some;
    stock = record { chain = []; all = refl; linked = refl };
  }

  -- ---- whether a dead slot exists

  dead-has : 0 < length dead → HasSlot s class
  dead-has some = more (live_in class b.unique) (length dead) (slice_index b.classes class * blocks_in_page class) some (k.laid.slots.count class bound)
    where
      more : (n d p : ℕ) → 0 < d → n + d ≡ p → n < p
      more n d p some count = omega (arith, some, count)

  has-dead : HasSlot s class → 0 < length dead
  has-dead has = more (live_in class b.unique) (length dead) (slice_index b.classes class * blocks_in_page class) has (k.laid.slots.count class bound)
    where
      more : (n d p : ℕ) → n < p → n + d ≡ p → 0 < d
      more n d p has count = omega (arith, has, count)

  pub slot-dead : (slots.dead ≡ NONE → ⊥) → HasSlot s class
  slot-dead some = let linked = linked-first some in dead-has (not_empty slots.dead linked.rest dead linked.first)

  pub slot-left : (slots.left ≡ 0 → ⊥) → HasSlot s class
  slot-left other = elim (cases_eq slots.dead NONE) [
    | inl none ↦ let fresh = fresh-first none (positive slots.left other) in dead-has (not_empty slots.fresh fresh.rest dead fresh.first)
    | inr some ↦ slot-dead some
  ]
    where
      positive : (n : ℕ) → (n ≡ 0 → ⊥) → 0 < n
      positive zero other = absurd (other refl)
      positive (suc n) other = omega arith

  pub slot-none : slots.dead ≡ NONE → slots.left ≡ 0 → HasSlot s class → ⊥
  slot-none none left has = clash (length dead) slots.left (has-dead has) (fresh-many none) left
    where
      clash : (d n : ℕ) → 0 < d → d ≡ n → n ≡ 0 → ⊥
      clash d n some many none = omega (arith, some, many, none)

  -- ---- the place of the first dead slot

  pub dead-there : (slots.dead ≡ NONE → ⊥) → slots.dead < length t.words.items
  dead-there some = let linked = linked-first some in first-there slots.dead linked.rest linked.first

  -- Each link from one dead slot to the next fits in a 32-bit word, so the word index of the first dead slot fits too.
  pub link-word : slots.dead < 4294967296
  link-word = elim (cases_eq slots.dead NONE) [
    | inl none ↦ last slots.dead none
    | inr some ↦ below slots.dead (length t.words.items) (dead-there some) words-few
  ]
    where
      last : (w : ℕ) → w ≡ 4294967295 → w < 4294967296
      last w none = omega (arith, none)

      below : (w n : ℕ) → w < n → n ≤ 67108864 → w < 4294967296
      below w n less few = omega (arith, less, few)

  left-some : HasSlot s class → slots.dead ≡ NONE → 0 < slots.left
  left-some has none = subst (λ n. 0 < n) (fresh-many none) (has-dead has)

  pub fresh-there : HasSlot s class → slots.dead ≡ NONE → (1 ≤ slots.left) × (slots.fresh < 67108864)
  fresh-there has none =
      let some : 0 < slots.left = left-some has none in
      let fresh = fresh-first none some in
      (omega (arith, some), below slots.fresh (length t.words.items) (first-there slots.fresh fresh.rest fresh.first) words-few)
    where
      below : (w n : ℕ) → w < n → n ≤ 67108864 → w < 67108864
      below w n less few = omega (arith, less, few)

  -- ---- cutting a page into slots

  module _ (none : HasSlot s class → ⊥) where
    none-dead : dead ≡ []
    none-dead = by dead refl
      where
        by : (xs : List ℕ) → dead ≡ xs → xs ≡ []
        by [] is = refl
        by (w ∷ xs) is = absurd (none (dead-has (not_empty w xs dead is)))

    pub stock-full : length t.rows.items ≤ t.free → t.most ≤ length t.rows.items → IsSpent s
    stock-full past most = all (length k.layout.free) (demand s) t.most (ap length (kept-full t lexicals classes b k past most)) k.laid.paged.count
      where
        all : (n d p : ℕ) → n ≡ 0 → n + d ≡ p → d ≡ p
        all n d p none count = omega (arith, none, count)

    pub stock-room : ((length t.rows.items ≤ t.free) × (t.most ≤ length t.rows.items) → ⊥) → demand s < t.most
    stock-room room =
        let (page, rest, is) = kept-some t lexicals classes b k room in
        less (length rest) (demand s) t.most (subst (λ xs. length xs + demand s ≡ t.most) is k.laid.paged.count)
      where
        less : (n d p : ℕ) → suc n + d ≡ p → d < p
        less n d p count = omega (arith, count)

    module _ (u : PageTable) (page : ℕ) (draws : Draws t u page) (room : (length t.rows.items ≤ t.free) × (t.most ≤ length t.rows.items) → ⊥) where
      abbrev taken : IsDrawn t u lexicals (λ (c : ℕ). slice_index_or classes c no_slots) b k.layout page
      taken = kept-drawn t lexicals classes b k u page draws room

      with_page-held : (c : Blocks) → c ≡ after b (Stocked class) → store_of u.most u.words.items c ≡ with_page s class
      with_page-held c noted = ap (store_of u.most u.words.items) noted ∙ held-same t.most t.words.items u.most u.words.items (after b (Stocked class)) draws.most draws.words

      pub stock-stocks : (c : Blocks) → c ≡ after b (Stocked class) → Stocks s class (store_of u.most u.words.items c)
      stock-stocks c noted = record {
        room = (stock-sound s k.layout k.laid page taken.rest taken.first class bound none-dead).demand;
        held = with_page-held c noted;
      }

      abbrev now : Layout
      now = stocked k.layout page taken.rest class

      stocked-tied : IsTied (with_row (table_of u) page (slots_row class)) lexicals
          (with_slots (λ (c : ℕ). slice_index_or classes c no_slots) class (fresh_slots page class)) b now
      stocked-tied = stock-tied (table_of u) lexicals (λ (c : ℕ). slice_index_or classes c no_slots) b (record k.layout { free = taken.rest }) taken.tied page
          (drawn-none t lexicals classes b k u page draws room) (drawn-away t lexicals classes b k u page draws room) taken.there class
          k.laid.sound.regions.handles.0 (page-empty s k.layout k.laid page taken.rest taken.first class bound none-dead)

      -- Writing the page table's row for the page that is cut into slots preserves the invariant.
      pub stock-kept : (c : Blocks) → c ≡ after b (Stocked class) → (v : PageTable) → Rewrites u v page (slots_row class)
          → IsKept v lexicals (set classes class (record { dead = NONE; fresh = 1024 * page; left = 1024 / 2 ^ class })) c
      stock-kept c noted v is = subst (IsKept v lexicals (set classes class (fresh_slots page class))) (sym noted) (record {
        whole = rewritten-whole u v page (slots_row class) is draws.whole;
        eleven = length-set classes class (fresh_slots page class) ∙ k.eleven;
        layout = now;
        laid = subst (λ held. IsLaidOut held now) (sym (ap (λ n. store_of n v.words.items (after b (Stocked class))) is.most
            ∙ (ap (λ ws. store_of u.most ws (after b (Stocked class))) is.words ∙ with_page-held (after b (Stocked class)) refl)))
            (stock-laid s k.layout k.laid page taken.rest taken.first class bound none-dead);
        tied = subst (λ table. IsTied table lexicals (λ (c : ℕ). slice_index_or (set classes class (fresh_slots page class)) c no_slots) (after b (Stocked class)) now)
            (sym (rewritten-table u v page (slots_row class) taken.there is))
            (subst (λ f. IsTied (with_row (table_of u) page (slots_row class)) lexicals f (after b (Stocked class)) now)
            (sym (read-set classes class (fresh_slots page class) no_slots class-there))
            (recounted (with_row (table_of u) page (slots_row class)) lexicals (with_slots (λ (c : ℕ). slice_index_or classes c no_slots) class (fresh_slots page class)) b now
            (set b.classes class (suc (slice_index b.classes class))) stocked-tied));
      })

  -- ---- allocating a block in a slot

  module _ (has : HasSlot s class) (next : ℕ × ClassSlots) (is : next ≡ next_slot_of slots t.words.items class) where
    first-next : IsFirst (table_of t).word class dead next
    first-next = elim (cases_eq slots.dead NONE) [
      | inl none ↦ subst (IsFirst (table_of t).word class dead)
          (sym (is ∙ when_equal slots.dead NONE (slots.fresh, record { dead = NONE; fresh = slots.fresh + 2 ^ class; left = slots.left - 1 })
          (slots.dead, record slots { dead = slice_index t.words.items slots.dead }) none))
          (fresh-first none (left-some has none))
      | inr other ↦ subst (IsFirst (table_of t).word class dead)
          (sym (is ∙ when_other slots.dead NONE (slots.fresh, record { dead = NONE; fresh = slots.fresh + 2 ^ class; left = slots.left - 1 })
          (slots.dead, record slots { dead = slice_index t.words.items slots.dead }) other))
          (linked-first other)
    ]

    next-slot : IsDeadSlot b.unique k.layout.pages.owner k.layout.class class next.0
    next-slot = first-slot next.0 first-next.rest first-next.first

    pub fill-small : next.0 < 67108864
    fill-small = below next.0 (length t.words.items) (first-there next.0 first-next.rest first-next.first) words-few
      where
        below : (w n : ℕ) → w < n → n ≤ 67108864 → w < 67108864
        below w n less few = omega (arith, less, few)

    pub fill-there : next.0 + 2 ^ class ≤ length t.live.items
    fill-there = mark-there next.0 next-slot.slot

    module _ (address size : ℕ) (at : address ≡ 536870912 + 4 * next.0) (many : size ≡ 2 ^ class) (c : Blocks) (noted : c ≡ after b (MadeUnique address size)) where
      abbrev block : Block
      block = slot_block class next.0

      made-noted : c ≡ blocks_of (made_unique (plain_store b) block)
      made-noted = noted ∙ (ap (λ a. after b (MadeUnique a size)) at ∙ ap (λ n. after b (MadeUnique (place_of next.0) n)) many)

      pub fill-fills : Fills s class address (store_of t.most t.words.items c)
      fill-fills = subst (λ a. Fills s class a (store_of t.most t.words.items c)) (sym at) (record {
        placed = dead-placed s k.layout k.laid class next.0 bound first-next.rest first-next.first;
        apart = dead-apart s k.layout k.laid class next.0 bound first-next.rest first-next.first;
        classes = dead-classes s k.layout k.laid class next.0 bound first-next.rest first-next.first;
        held = ap (store_of t.most t.words.items) made-noted;
      })

      made-sound : IsSound (made_unique s block)
      made-sound =
          let (n, least, most, asks) = asked class bound in
          sound-unique s k.layout k.laid n least most block (ap (λ m. 2 ^ m) (sym asks))
          (dead-placed s k.layout k.laid class next.0 bound first-next.rest first-next.first, dead-apart s k.layout k.laid class next.0 bound first-next.rest first-next.first)
          (subst (λ d. d ≤ t.most) (sym (dead-demand s k.layout k.laid class next.0 bound first-next.rest first-next.first)) k.laid.sound.demand)

      made-tied : IsTied (record (with_marks (table_of t) next.0 (2 ^ class) true) { word = (table_of t).word }) lexicals
          (with_slots (λ (c : ℕ). slice_index_or classes c no_slots) class next.1) (blocks_of (made_unique (plain_store b) block)) (with_dead k.layout class first-next.rest)
      made-tied = slot-tied (table_of t) lexicals (λ (c : ℕ). slice_index_or classes c no_slots) b k.layout k.tied class next.0 next-slot.slot true (b.unique ++ block ∷ [])
          (made_unique (plain_store b) block).classes
          (ap is_some (lookup-append_new address_of b.unique block (place_of next.0) next-slot.none refl))
          (λ first other. lookup-append_other address_of b.unique block first (λ e. other (sym e)))
          next.1 first-next.rest (table_of t).word first-next.stock (λ other away few old. old)

      -- Setting the flags that mark the allocated slot's words as live preserves the invariant.
      pub fill-kept : (v : PageTable) → v.most ≡ t.most → v.words.items ≡ t.words.items
          → ((word : ℕ) → slice_index_or v.live.items word false ≡ marked_between (λ (i : ℕ). slice_index_or t.live.items i false) next.0 size true word) → length v.live.items ≡ length t.live.items
          → v.free ≡ t.free → v.rows.items ≡ t.rows.items → IsKept v lexicals (set classes class next.1) c
      fill-kept v most_is words_is live_is whole_is free_is rows_is = subst (IsKept v lexicals (set classes class next.1)) (sym made-noted) (record {
        whole = record {
          words = ap length words_is ∙ (k.whole.words ∙ ap (λ rs. PAGE_WORDS * length rs) (sym rows_is));
          live = whole_is ∙ (k.whole.live ∙ ap (λ rs. PAGE_WORDS * length rs) (sym rows_is));
        };
        eleven = length-set classes class next.1 ∙ k.eleven;
        layout = with_dead k.layout class first-next.rest;
        laid = subst (λ held. IsLaidOut held (with_dead k.layout class first-next.rest))
            (sym (held-same t.most t.words.items v.most v.words.items (blocks_of (made_unique (plain_store b) block)) most_is (λ i. ap (λ ws. slice_index ws i) words_is)))
            (dead-laid s k.layout k.laid class next.0 bound first-next.rest first-next.first s.memory made-sound);
        tied = subst (λ table. IsTied table lexicals (λ (c : ℕ). slice_index_or (set classes class next.1) c no_slots) (blocks_of (made_unique (plain_store b) block)) (with_dead k.layout class first-next.rest))
            (sym (marked-table t v next.0 size true (table_of t).word most_is (ap (λ ws. λ (i : ℕ). slice_index ws i) words_is) live_is free_is rows_is
            ∙ ap (λ n. record (with_marks (table_of t) next.0 n true) { word = (table_of t).word }) many))
            (subst (λ f. IsTied (record (with_marks (table_of t) next.0 (2 ^ class) true) { word = (table_of t).word }) lexicals f
            (blocks_of (made_unique (plain_store b) block)) (with_dead k.layout class first-next.rest))
            (sym (read-set classes class next.1 no_slots class-there)) made-tied);
      })
