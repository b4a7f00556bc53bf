-- Lookups in a store on a page table over a pool: the region of a handle, the block that begins at an address, and the word at an address.
use Rattle.std.proofs.Common.{◌≡◌, ◌≢◌, ℕ, ◌+◌, ◌*◌, ◌/◌, ◌%◌, ◌^◌, ◌-◌, ◌<◌, ◌≤◌, Bool, true, false, List, length, length-set, set, None, Some, sym, ap, subst, ◌∙◌, inl, inr, lit<, arith}
use Rattle.std.specs.Prelude.{◌⊎◌, Option, is_some, slice_index, slice_index_or}
use Rattle.std.proofs.Math.Nat.{mod-lt}
use Rattle.std.proofs.lemmas.Bool.{cases_eq, cases_lt}
use Rattle.std.proofs.lemmas.List.{get_or_default}
use Rattle.cyc_words.specs.Demand.{greatest_class}
use Rattle.cyc_words.proofs.Booleans.{some_there}
use Rattle.cyc_words.proofs.Numbers.{odd_is_twice_and_one}
use Rattle.cyc_store.specs.Ledger.{Blocks, Stored, store_of}
use Rattle.cyc_store.specs.State.{lookup, StoreState, Sort, Heap, Lexical, Dynamic, Uniques, Home, homes, holder, address_of, handle_of, saved, word_at}
use Rattle.cyc_store.specs.Services.{names_dynamic}
use Rattle.cyc_store.specs.Ordered.{IsOrdered}
use Rattle.cyc_store.specs.inside.Kept.{handle_of_page, role_of, sort_of}
use Rattle.cyc_store.specs.Table.{row_at}
use Rattle.cyc_store.specs.declared.row.Role.TheVariants as role
use Rattle.cyc_store.specs.declared.range.TheConstants.{STORE_BASE, PAGE_WORDS, UNIQUE}
use Rattle.cyc_store.specs.declared.row.PageTable.{PageTable}
use Rattle.cyc_store.specs.declared.row.Row.{Row}
use Rattle.cyc_store.specs.declared.row.ClassSlots.{ClassSlots}
use Rattle.cyc_store.proofs.KeptClosing.{even-none, past-none, other-none, others-none, root-named}
use Rattle.cyc_store.proofs.KeptBlocks.{block-unplaced, block-past, block-other, block-class, block-inner, block-dead, block-live}
use Rattle.cyc_store.proofs.KeptLoads.{load-dead, load-none, load-inside, load-word}
use Rattle.cyc_store.proofs.KeptSaving.{save-kept, save-saved}
use Rattle.cyc_pagestore.specs.inside.Table.{TableState, row_of, IsIdlePast, IsRoot}
use Rattle.cyc_pagestore.specs.inside.Stored.{Reads, IsStored}
use Rattle.cyc_pagestore.proofs.Taking.{same-size}
use Rattle.cyc_pagestore.proofs.Storing.{rows-all, row-read, stored-held, live-marked}
use Rattle.cyc_pagestore.proofs.Cutting.{words-all}

-- If a store has a region for a handle, then a store that equals it has a region for the handle too.
pub region-of : (v w : Stored) (h : ℕ) → v ≡ w → is_some (lookup handle_of w.blocks.regions h) ≡ true → (r : Home) × (lookup handle_of v.blocks.regions h ≡ Some r)
region-of v w h same some = some_there (lookup handle_of v.blocks.regions h) (subst (λ (u : Stored). is_some (lookup handle_of u.blocks.regions h) ≡ true) (sym same) some)

-- A page that is split into slots for unique blocks does not have the role of a region's page after the first.
rest-apart : (sort : Option Sort) (class : ℕ) → role_of sort (Some UNIQUE) class ≡ role.Rest → ⊥
rest-apart None class e = cc
rest-apart (Some Heap) class e = cc
rest-apart (Some Lexical) class e = cc
rest-apart (Some Dynamic) class e = cc
rest-apart (Some Uniques) class e = cc

module _ (x : TableState) (lexicals : List ℕ) (classes : List ClassSlots) (b : Blocks) (s : IsStored x lexicals classes b) where
  abbrev t : PageTable
  t = s.table

  pub in-rows : (page : ℕ) → page < x.most → page < length t.rows.items
  in-rows page there = subst (λ n. page < n) (sym (rows-all x lexicals classes b s)) there

  past-rows : (page : ℕ) → x.most ≤ page → length t.rows.items ≤ page
  past-rows page past = subst (λ n. n ≤ page) (sym (rows-all x lexicals classes b s)) past

  -- The blocks of the store lie within pages, in ascending order.
  pub stored-ordered : IsOrdered (store_of x.most x.words b)
  stored-ordered = subst IsOrdered (stored-held x lexicals classes b s) (record { few = s.kept.tied.most; layout = s.kept.layout; laid = s.kept.laid })

  -- ---- the region of a handle

  pub even-unnamed : (h : ℕ) → h % 2 ≡ 0 → lookup handle_of b.regions h ≡ None
  even-unnamed = even-none t lexicals classes b s.kept

  pub past-unnamed : (h : ℕ) → x.most ≤ h / 2 → lookup handle_of b.regions h ≡ None
  past-unnamed h past = past-none t lexicals classes b s.kept h (past-rows (h / 2) past)

  module _ (h : ℕ) (odd : h % 2 ≡ 0 → ⊥) (there : h / 2 < x.most) where
    abbrev r : Row
    r = row_of x (h / 2)

    pub rest-unnamed : (r.role ≡ role.Heap → ⊥) → (r.role ≡ role.Lexical → ⊥) → (r.role ≡ role.Dynamic → ⊥) → lookup handle_of b.regions h ≡ None
    rest-unnamed heap lexical dynamic = subst (λ n. lookup handle_of b.regions n ≡ None) (sym (odd_is_twice_and_one h odd))
        (other-none t lexicals classes b s.kept (h / 2) r (in-rows (h / 2) there) (row-read x lexicals classes b s (h / 2) there) heap lexical dynamic)

    pub root-known : IsRoot r.role → (h ≡ 2 * (h / 2) + 1) × (is_some (lookup handle_of b.regions h) ≡ true)
    root-known root = (
      odd_is_twice_and_one h odd,
      subst (λ n. is_some (lookup handle_of b.regions n) ≡ true) (sym (odd_is_twice_and_one h odd))
          (root-named t lexicals classes b s.kept (h / 2) r (in-rows (h / 2) there) (row-read x lexicals classes b s (h / 2) there) root),
    )

  pub others-unnamed : (page : ℕ) → page < x.most → ((row_of x page).role ≡ role.Dynamic → ⊥) → names_dynamic (lookup handle_of b.regions (handle_of_page page)) ≡ false
  others-unnamed page there never = others-none t lexicals classes b s.kept page (row_of x page) (in-rows page there) (row-read x lexicals classes b s page there) never

  -- ---- the block that begins at an address

  module _ (address : ℕ) where
    pub nowhere-none : (address < STORE_BASE) ⊎ (address % 4 ≢ 0) → lookup address_of b.unique address ≡ None
    nowhere-none = block-unplaced t lexicals classes b s.kept address

    module _ (word : ℕ) (at : address ≡ 536870912 + 4 * word) where
      pub beyond-none : x.most ≤ word / 1024 → lookup address_of b.unique address ≡ None
      beyond-none past = block-past t lexicals classes b s.kept address word at (past-rows (word / 1024) past)

      module _ (there : word / 1024 < x.most) where
        abbrev its : Row
        its = row_of x (word / 1024)

        its-read : its ≡ slice_index_or t.rows.items (word / 1024) its
        its-read = row-read x lexicals classes b s (word / 1024) there

        pub region-none : ((class : ℕ) → its.role ≡ role.Slots class → ⊥) → lookup address_of b.unique address ≡ None
        region-none never = block-other t lexicals classes b s.kept address word at its (in-rows (word / 1024) there) its-read never

        module _ (class : ℕ) (is : its.role ≡ role.Slots class) where
          pub slots-class : class ≤ greatest_class
          slots-class = block-class t lexicals classes b s.kept address word at its (in-rows (word / 1024) there) its-read class is

          pub inner-none : (word % 1024 / 2 ^ class * 2 ^ class ≡ word % 1024 → ⊥) → lookup address_of b.unique address ≡ None
          inner-none = block-inner t lexicals classes b s.kept address word at its (in-rows (word / 1024) there) its-read class is

          module _ (first : word % 1024 / 2 ^ class * 2 ^ class ≡ word % 1024) (mark : Bool) (marked : mark ≡ slice_index_or x.live word mark) where
            also : mark ≡ slice_index_or t.live.items word mark
            also = marked ∙ ap (λ ms. slice_index_or ms word mark) (sym s.reads.live)

            pub dead-none : mark ≡ false → lookup address_of b.unique address ≡ None
            dead-none = block-dead t lexicals classes b s.kept address word at its (in-rows (word / 1024) there) its-read class is first mark also

            pub live-some : mark ≡ true → lookup address_of b.unique address ≡ Some (record { address = address; size = 2 ^ class })
            live-some = block-live t lexicals classes b s.kept address word at its (in-rows (word / 1024) there) its-read class is first mark also

  -- ---- the word at an address

  pub words-past : (address : ℕ) → (address < STORE_BASE) ⊎ (address % 4 ≢ 0) ⊎ (STORE_BASE + 4 * (1024 * x.most) ≤ address) → word_at (store_of x.most x.words b) address ≡ None
  words-past address which = subst (λ (d : StoreState). word_at d address ≡ None) (stored-held x lexicals classes b s)
      (load-none t lexicals classes b s.kept address (1024 * x.most) (sym (ap length s.reads.words ∙ words-all x lexicals classes b s)) which)

  -- If a page is not in use, then it contains no word of a live block.
  idle-dead : (word : ℕ) → word < length x.words → (row_of x (word / 1024)).role ≡ role.Rest → (row_of x (word / 1024)).filled ≡ 0
      → false ≡ is_some (holder (homes (store_of x.most x.words b)) (STORE_BASE + 4 * word))
  idle-dead word inside rest none = live-marked x lexicals classes b s word inside false (omega (arith, none)) (sym unmarked)
    where
      sort : Option Sort
      sort = sort_of (lookup handle_of b.regions (handle_of_page (word / 1024)))

      no-block : s.kept.layout.pages.owner (word / 1024) ≡ Some UNIQUE → ⊥
      no-block owner = rest-apart sort (s.kept.layout.class (word / 1024)) (ap (λ o. role_of sort o (s.kept.layout.class (word / 1024))) (sym owner)
          ∙ sym (s.kept.tied.rows (word / 1024)).plays ∙ ap (λ (rs : List Row). (row_at rs (word / 1024)).role) s.reads.rows ∙ rest)

      unmarked : slice_index_or x.live word false ≡ false
      unmarked = subst (λ (ms : List Bool). slice_index_or ms word false ≡ false) s.reads.live
          (subst (λ n. slice_index_or t.live.items n false ≡ false) {x = 1024 * (word / 1024) + word % 1024} {y = word} (omega arith)
          (s.kept.tied.unmarked (word / 1024) (word % 1024) no-block (mod-lt word (lit< tt))))

  -- If no page from some word on is in use, then no address from that word on belongs to a live block.
  pub words-unmade : (made address : ℕ) → IsIdlePast x made → (address < STORE_BASE) ⊎ (address % 4 ≢ 0) ⊎ (STORE_BASE + 4 * made ≤ address)
      → word_at (store_of x.most x.words b) address ≡ None
  words-unmade made address idle which = elim which [
    | inl low ↦ words-past address (inl low)
    | inr (inl between) ↦ words-past address (inr (inl between))
    | inr (inr past) ↦ elim (cases_eq (address % 4) 0) [
      | inr between ↦ words-past address (inr (inl between))
      | inl whole ↦ elim (cases_lt address (STORE_BASE + 4 * (1024 * x.most))) [
        | inr beyond ↦ words-past address (inr (inr beyond))
        | inl below ↦ following ((address - STORE_BASE) / 4) (omega (arith, whole, past)) (omega (arith, whole, past, below)) (omega (arith, whole, past))
      ]
    ]
  ]
    where
      following : (word : ℕ) → address ≡ 536870912 + 4 * word → word < 1024 * x.most → made ≤ word → word_at (store_of x.most x.words b) address ≡ None
      following word at there past = elim (idle (word / 1024) (omega (arith, there))) [
        | inl (rest, none) ↦ load-dead (store_of x.most x.words b) address word at (idle-dead word (subst (λ n. word < n) (sym (words-all x lexicals classes b s)) there) rest none)
        | inr low ↦ absurd (omega (arith, low, past))
      ]

  pub pages-few : x.most ≤ 65536
  pages-few = subst (λ n. n ≤ 65536) s.reads.most s.kept.tied.most

  module _ (address word : ℕ) (at : address ≡ 536870912 + 4 * word) (inside : word < length x.words) where
    in-words : word < length t.words.items
    in-words = subst (λ ws. word < length ws) (sym s.reads.words) inside

    pub word-inside : (STORE_BASE ≤ address) × (address < STORE_BASE + 4 * (PAGE_WORDS * x.most))
    word-inside = subst (λ n. (STORE_BASE ≤ address) × (address < STORE_BASE + 4 * (PAGE_WORDS * n))) s.reads.most (load-inside t lexicals classes b s.kept address word at in-words)

    module _ (live : is_some (word_at (store_of x.most x.words b) address) ≡ true) where
      pub word-read : (read : ℕ) → read ≡ slice_index x.words word → Some read ≡ word_at (store_of x.most x.words b) address
      word-read read is = load-word x.most x.words b address word read at inside live (is ∙ get_or_default x.words word 0 read inside)

      module _ (value : ℕ) (small : value < 2 ^ 32) (y : TableState) (written : y ≡ record x { words = set x.words word value }) where
        abbrev w : (w : PageTable) × Reads w y
        w = same-size x lexicals classes b s y (ap (λ (z : TableState). length z.words) written ∙ length-set x.words word value)
            (ap (λ (z : TableState). length z.live) written) (ap (λ (z : TableState). length z.rows) written)

        also-live : is_some (word_at (store_of t.most t.words.items b) address) ≡ true
        also-live = subst (λ (d : StoreState). is_some (word_at d address) ≡ true) (sym (stored-held x lexicals classes b s)) live

        words-set : y.words ≡ set t.words.items word value
        words-set = ap (λ (z : TableState). z.words) written ∙ ap (λ ws. set ws word value) (sym s.reads.words)

        pub save-stored : IsStored y lexicals classes b
        save-stored = record {
          table = w.0;
          reads = w.1;
          whole = ap (λ (z : TableState). length z.rows) written ∙ s.whole ∙ sym (ap (λ (z : TableState). z.most) written);
          kept = save-kept t lexicals classes b s.kept word in-words address at also-live value small w.0
              (ap (λ (z : TableState). z.most) written ∙ sym s.reads.most) words-set (ap (λ (z : TableState). z.live) written ∙ sym s.reads.live)
              (ap (λ (z : TableState). z.free) written ∙ sym s.reads.free) (ap (λ (z : TableState). z.rows) written ∙ sym s.reads.rows);
        }

        pub save-held : store_of y.most y.words b ≡ saved (store_of x.most x.words b) address value
        save-held = subst (λ (d : StoreState). store_of y.most y.words b ≡ saved d address value) (stored-held x lexicals classes b s)
            (save-saved t lexicals classes b s.kept word in-words address at also-live value small w.0
            (ap (λ (z : TableState). z.most) written ∙ sym s.reads.most) words-set (ap (λ (z : TableState). z.live) written ∙ sym s.reads.live)
            (ap (λ (z : TableState). z.free) written ∙ sym s.reads.free) (ap (λ (z : TableState). z.rows) written ∙ sym s.reads.rows))
