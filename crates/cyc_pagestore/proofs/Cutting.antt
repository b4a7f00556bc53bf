-- The store may split a page into slots, and allocate a unique block in a slot or free it. Splitting a page, and allocating or freeing a
-- unique block, keep the invariant of a store on a page table over a pool.
use Rattle.std.proofs.Common.{◌≡◌, ℕ, ◌+◌, ◌*◌, ◌/◌, ◌^◌, ◌<◌, ◌≤◌, Bool, true, false, List, ◌∷◌, length, length-set, set, Some, sym, ap, subst, ◌∙◌}
use Rattle.std.specs.Prelude.{slice_index_or}
use Rattle.cyc_words.specs.Demand.{greatest_class, class_of}
use Rattle.cyc_store.specs.Ledger.{Blocks, store_of, after}
use Rattle.cyc_store.specs.State.{lookup, address_of, StoreState}
use Rattle.cyc_store.specs.Services.{Allocate, Allocated, Free, Done, Refused, Full, Serves}
use Rattle.cyc_store.specs.Slots.{HasSlot, IsSpent, Stocks, Fills}
use Rattle.cyc_store.specs.Table.{marked_between}
use Rattle.cyc_store.specs.inside.Kept.{next_slot_of, no_slots}
use Rattle.cyc_store.specs.declared.change.Change.TheVariants.{Stocked, MadeUnique, Freed}
use Rattle.cyc_store.specs.declared.range.TheConstants.{MOST_BLOCK_WORDS, UNIQUE}
use Rattle.cyc_store.specs.declared.row.PageTable.{PageTable}
use Rattle.cyc_store.specs.declared.row.ClassSlots.{ClassSlots}
use Rattle.cyc_store.specs.declared.row.TheConstants.{NONE}
use Rattle.cyc_store.proofs.KeptSlots.{stock-full, stock-kept, stock-stocks, dead-there, fresh-there, slot-dead, slot-left, slot-none, fill-small, fill-there, fill-fills, fill-kept}
use Rattle.cyc_store.proofs.KeptUnique.{unique-bound, unique-filled, unique-has, unique-stocked, unique-full}
use Rattle.cyc_store.proofs.KeptFreeing.{empty-class, empty-word, empty-small, empty-live, empty-serves, empty-kept}
use Rattle.cyc_pagestore.specs.inside.Links.{removed, slots_of}
use Rattle.cyc_pagestore.specs.inside.Table.{TableState, IsFull, Cuts, Marks}
use Rattle.cyc_pagestore.specs.inside.Stored.{Reads, IsStored}
use Rattle.cyc_pagestore.proofs.Rows.{relinked-length}
use Rattle.cyc_pagestore.proofs.Taking.{same-size, words-count, live-count, v, u, v-kept, draws, room}
use Rattle.cyc_pagestore.proofs.Storing.{stored-held}

module _ (x : TableState) (lexicals : List ℕ) (classes : List ClassSlots) (b : Blocks) (s : IsStored x lexicals classes b) where
  abbrev t : PageTable
  t = s.table

  abbrev held : StoreState
  held = store_of x.most x.words b

  -- The table has as many words, and as many marks of live words, as its pages contain.
  pub words-all : length x.words ≡ 1024 * x.most
  words-all = words-count x lexicals classes b s ∙ ap (λ n. 1024 * n) s.whole

  pub marks-all : length x.live ≡ 1024 * x.most
  marks-all = live-count x lexicals classes b s ∙ ap (λ n. 1024 * n) s.whole

  marks-read : (y : TableState) (first count : ℕ) (mark : Bool) → ((word : ℕ) → slice_index_or y.live word false ≡ marked_between (λ (i : ℕ). slice_index_or x.live i false) first count mark word)
      → (word : ℕ) → slice_index_or y.live word false ≡ marked_between (λ (i : ℕ). slice_index_or t.live.items i false) first count mark word
  marks-read y first count mark live word = live word ∙ ap (λ ms. marked_between (λ (i : ℕ). slice_index_or ms i false) first count mark word) (sym s.reads.live)

  module _ (class : ℕ) (bound : class ≤ greatest_class) where
    abbrev slots : ClassSlots
    slots = slice_index_or classes class no_slots

    from-held : HasSlot held class → HasSlot (store_of t.most t.words.items b) class
    from-held = subst (λ (d : StoreState). HasSlot d class) (sym (stored-held x lexicals classes b s))

    to-held : HasSlot (store_of t.most t.words.items b) class → HasSlot held class
    to-held = subst (λ (d : StoreState). HasSlot d class) (stored-held x lexicals classes b s)

    pub has-dead : (slots.dead ≡ NONE → ⊥) → HasSlot held class
    has-dead some = to-held (slot-dead t lexicals classes b s.kept class bound some)

    pub has-left : (slots.left ≡ 0 → ⊥) → HasSlot held class
    has-left other = to-held (slot-left t lexicals classes b s.kept class bound other)

    pub has-none : slots.dead ≡ NONE → slots.left ≡ 0 → HasSlot held class → ⊥
    has-none none left has = slot-none t lexicals classes b s.kept class bound none left (from-held has)

    -- ---- a page is split into slots
    module _ (none : HasSlot held class → ⊥) where
      pub cut-spent : IsFull x → IsSpent held
      cut-spent full = subst IsSpent (stored-held x lexicals classes b s)
          (stock-full t lexicals classes b s.kept class bound (λ has. none (to-held has))
          (subst (λ (p : (List _) × ℕ). length p.0 ≤ p.1) (λ j. (sym s.reads.rows j, sym s.reads.free j)) full.past)
          (subst (λ (p : (List _) × ℕ). p.1 ≤ length p.0) (λ j. (sym s.reads.rows j, sym s.reads.most j)) full.all))

      module _ (y : TableState) (page : ℕ) (cuts : Cuts x y page class) (c : Blocks) (noted : c ≡ after b (Stocked class)) where
        abbrev m : TableState
        m = cuts.middle

        abbrev before : PageTable
        before = v x lexicals classes b s page m cuts.takes

        rows-many : length y.rows ≡ length x.rows
        rows-many = ap (λ (z : TableState). length z.rows) cuts.is ∙ length-set m.rows page (slots_of class)
            ∙ ap (λ (z : TableState). length z.rows) cuts.takes.is ∙ relinked-length x.rows (page ∷ removed cuts.takes.order page)

        pub cut-stored : IsStored y lexicals (set classes class (record { dead = NONE; fresh = 1024 * page; left = 1024 / 2 ^ class })) c
        cut-stored =
            let w = same-size x lexicals classes b s y
            (ap (λ (z : TableState). length z.words) cuts.is ∙ ap (λ (z : TableState). length z.words) cuts.takes.is)
            (ap (λ (z : TableState). length z.live) cuts.is ∙ ap (λ (z : TableState). length z.live) cuts.takes.is) rows-many in
            record {
              table = w.0;
              reads = w.1;
              whole = rows-many ∙ s.whole ∙ sym (ap (λ (z : TableState). z.most) cuts.is ∙ ap (λ (z : TableState). z.most) cuts.takes.is);
              kept = stock-kept before lexicals classes b (v-kept x lexicals classes b s page m cuts.takes) class bound none
                  (u x lexicals classes b s page m cuts.takes) page (draws x lexicals classes b s page m cuts.takes) (room x lexicals classes b s page m cuts.takes) c noted w.0 (record {
                    most = ap (λ (z : TableState). z.most) cuts.is;
                    words = ap (λ (z : TableState). z.words) cuts.is;
                    live = ap (λ (z : TableState). z.live) cuts.is;
                    free = ap (λ (z : TableState). z.free) cuts.is;
                    rows = ap (λ (z : TableState). z.rows) cuts.is;
                  });
            }

        pub cut-stocks : Stocks held class (store_of y.most y.words c)
        cut-stocks = subst (Stocks held class) (λ j. store_of (sym cuts.is j).most (sym cuts.is j).words c)
            (stock-stocks before lexicals classes b (v-kept x lexicals classes b s page m cuts.takes) class bound none
            (u x lexicals classes b s page m cuts.takes) page (draws x lexicals classes b s page m cuts.takes) (room x lexicals classes b s page m cuts.takes) c noted)

    -- ---- a block is allocated in a slot

    pub next-dead : (slots.dead ≡ NONE → ⊥) → slots.dead < 1024 * x.most
    next-dead some = subst (λ n. slots.dead < n) (ap length s.reads.words ∙ words-all) (dead-there t lexicals classes b s.kept class bound some)

    module _ (has : HasSlot held class) where
      pub next-fresh : slots.dead ≡ NONE → (1 ≤ slots.left) × (slots.fresh < 67108864)
      next-fresh = fresh-there t lexicals classes b s.kept class bound (from-held has)

      module _ (next : ℕ × ClassSlots) (is : next ≡ next_slot_of slots x.words class) where
        also : next ≡ next_slot_of slots t.words.items class
        also = is ∙ ap (λ ws. next_slot_of slots ws class) (sym s.reads.words)

        pub next-small : next.0 < 67108864
        next-small = fill-small t lexicals classes b s.kept class bound (from-held has) next also

        pub next-there : next.0 + 2 ^ class ≤ 1024 * x.most
        next-there = subst (λ n. next.0 + 2 ^ class ≤ n) (ap length s.reads.live ∙ marks-all) (fill-there t lexicals classes b s.kept class bound (from-held has) next also)

        module _ (address size : ℕ) (at : address ≡ 536870912 + 4 * next.0) (many : size ≡ 2 ^ class) (c : Blocks) (noted : c ≡ after b (MadeUnique address size))
            (y : TableState) (marks : Marks x y next.0 size true) where
          pub next-stored : IsStored y lexicals (set classes class next.1) c
          next-stored =
              let w = same-size x lexicals classes b s y (ap (λ (z : TableState). length z.words) marks.same) marks.whole (ap (λ (z : TableState). length z.rows) marks.same) in
              record {
                table = w.0;
                reads = w.1;
                whole = ap (λ (z : TableState). length z.rows) marks.same ∙ s.whole ∙ sym (ap (λ (z : TableState). z.most) marks.same);
                kept = fill-kept t lexicals classes b s.kept class bound (from-held has) next also address size at many c noted w.0
                    (ap (λ (z : TableState). z.most) marks.same ∙ sym s.reads.most) (ap (λ (z : TableState). z.words) marks.same ∙ sym s.reads.words)
                    (marks-read y next.0 size true marks.live)
                    (marks.whole ∙ ap length (sym s.reads.live))
                    (ap (λ (z : TableState). z.free) marks.same ∙ sym s.reads.free) (ap (λ (z : TableState). z.rows) marks.same ∙ sym s.reads.rows);
              }

          pub next-fills : Fills held class address (store_of y.most y.words c)
          next-fills = subst (λ (d : StoreState). Fills d class address (store_of y.most y.words c)) (stored-held x lexicals classes b s)
              (subst (Fills (store_of t.most t.words.items b) class address)
              (λ j. store_of ((s.reads.most ∙ sym (ap (λ (z : TableState). z.most) marks.same)) j) ((s.reads.words ∙ sym (ap (λ (z : TableState). z.words) marks.same)) j) c)
              (fill-fills t lexicals classes b s.kept class bound (from-held has) next also address size at many c noted))

  -- ---- a unique block is requested

  module _ (n : ℕ) (least : 1 ≤ n) (most : n ≤ MOST_BLOCK_WORDS) (class : ℕ) (is : class ≡ class_of n) where
    pub asked-bound : class ≤ greatest_class
    asked-bound = unique-bound t lexicals classes b s.kept n least most class is

    pub asked-filled : (address : ℕ) (u : StoreState) → Fills held class address u → Serves held (Allocate UNIQUE n) (Allocated address) u
    asked-filled address u fills = subst (λ (d : StoreState). Serves d (Allocate UNIQUE n) (Allocated address) u) (stored-held x lexicals classes b s)
        (unique-filled t lexicals classes b s.kept n least most class is address u (subst (λ (d : StoreState). Fills d class address u) (sym (stored-held x lexicals classes b s)) fills))

    module _ (none : HasSlot held class → ⊥) where
      none-kept : HasSlot (store_of t.most t.words.items b) class → ⊥
      none-kept has = none (subst (λ (d : StoreState). HasSlot d class) (stored-held x lexicals classes b s) has)

      to-kept : (u : StoreState) → Stocks held class u → Stocks (store_of t.most t.words.items b) class u
      to-kept u = subst (λ (d : StoreState). Stocks d class u) (sym (stored-held x lexicals classes b s))

      pub asked-has : (u : StoreState) → Stocks held class u → HasSlot u class
      asked-has u stocks = unique-has t lexicals classes b s.kept n least most class is none-kept u (to-kept u stocks)

      pub asked-stocked : (u v : StoreState) (address : ℕ) → Stocks held class u → Fills u class address v → Serves held (Allocate UNIQUE n) (Allocated address) v
      asked-stocked u v address stocks fills = subst (λ (d : StoreState). Serves d (Allocate UNIQUE n) (Allocated address) v) (stored-held x lexicals classes b s)
          (unique-stocked t lexicals classes b s.kept n least most class is none-kept u v address (to-kept u stocks) fills)

      pub asked-full : IsSpent held → Serves held (Allocate UNIQUE n) (Refused Full) held
      asked-full spent = subst (λ (d : StoreState). Serves d (Allocate UNIQUE n) (Refused Full) d) (stored-held x lexicals classes b s)
          (unique-full t lexicals classes b s.kept n least most class is none-kept (subst IsSpent (sym (stored-held x lexicals classes b s)) spent))

  -- ---- a block is freed

  module _ (word class : ℕ) (there : lookup address_of b.unique (536870912 + 4 * word) ≡ Some (record { address = 536870912 + 4 * word; size = 2 ^ class })) where
    abbrev dead : ℕ
    dead = (slice_index_or classes class no_slots).dead

    pub freed-class : class ≤ greatest_class
    freed-class = empty-class t lexicals classes b s.kept word class there

    pub freed-word : word < 1024 * x.most
    freed-word = subst (λ n. word < n) (ap length s.reads.words ∙ words-all) (empty-word t lexicals classes b s.kept word class there)

    pub freed-small : word < 67108864
    freed-small = empty-small t lexicals classes b s.kept word class there

    pub freed-marks : word + 2 ^ class ≤ 1024 * x.most
    freed-marks = subst (λ n. word + 2 ^ class ≤ n) (ap length s.reads.live ∙ marks-all) (empty-live t lexicals classes b s.kept word class there)

    module _ (address : ℕ) (at : address ≡ 536870912 + 4 * word) (c : Blocks) (noted : c ≡ after b (Freed address)) (m : TableState) (saved : m ≡ record x { words = set x.words word dead })
        (y : TableState) (size : ℕ) (many : size ≡ 2 ^ class) (marks : Marks m y word size false) where
      marks-x : Marks (record x { words = set x.words word dead }) y word size false
      marks-x = subst (λ (z : TableState). Marks z y word size false) saved marks

      rows-are : y.rows ≡ x.rows
      rows-are = ap (λ (z : TableState). z.rows) marks-x.same

      most-is : y.most ≡ x.most
      most-is = ap (λ (z : TableState). z.most) marks-x.same

      words-are : y.words ≡ set x.words word dead
      words-are = ap (λ (z : TableState). z.words) marks-x.same

      abbrev w : (w : PageTable) × Reads w y
      w = same-size x lexicals classes b s y (ap length words-are ∙ length-set x.words word dead) marks-x.whole (ap length rows-are)

      words-set : y.words ≡ set t.words.items word dead
      words-set = words-are ∙ ap (λ ws. set ws word dead) (sym s.reads.words)

      pub freed-stored : IsStored y lexicals (set classes class (record (slice_index_or classes class no_slots) { dead = word })) c
      freed-stored = record {
        table = w.0;
        reads = w.1;
        whole = ap length rows-are ∙ s.whole ∙ sym most-is;
        kept = empty-kept t lexicals classes b s.kept word class there address at c noted w.0 (most-is ∙ sym s.reads.most) words-set size many
            (marks-read y word size false marks-x.live) (marks-x.whole ∙ ap length (sym s.reads.live))
            (ap (λ (z : TableState). z.free) marks-x.same ∙ sym s.reads.free) (rows-are ∙ sym s.reads.rows);
      }

      pub freed-served : Serves held (Free (536870912 + 4 * word)) Done (store_of y.most y.words c)
      freed-served = subst (λ (d : StoreState). Serves d (Free (536870912 + 4 * word)) Done (store_of y.most y.words c)) (stored-held x lexicals classes b s)
          (empty-serves t lexicals classes b s.kept word class there address at c noted w.0 (most-is ∙ sym s.reads.most) words-set size many
          (marks-read y word size false marks-x.live) (marks-x.whole ∙ ap length (sym s.reads.live))
          (ap (λ (z : TableState). z.free) marks-x.same ∙ sym s.reads.free) (rows-are ∙ sym s.reads.rows))
