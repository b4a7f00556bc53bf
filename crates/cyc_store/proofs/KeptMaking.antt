-- Allocating a block in a region preserves the invariant of a store on a table of pages, and yields an answer that the
-- store relation allows.
use Rattle.std.proofs.Common.{◌≡◌, ℕ, suc, ◌+◌, ◌*◌, ◌<◌, ◌≤◌, false, List, [], ◌∷◌, length, None, Some, refl, sym, ap, subst, ◌∙◌, inl, inr, arith, length-set, get_or-set_other}
use Rattle.std.specs.Prelude.{◌==◌, if◌then◌else◌, slice_index, slice_index_or, set}
use Rattle.std.specs.List.{AllByRecursion}
use Rattle.std.proofs.lemmas.Bool.{cases_eq}
use Rattle.cyc_words.specs.Demand.{region_pages, demand_of}
use Rattle.cyc_words.proofs.Options.{never_none_and_some, same_from_some}
use Rattle.cyc_store.specs.State.{lookup, Block, address_of, Home, handle_of, StoreState, homes, sizes_of, sizes_in, demand, made_in}
use Rattle.cyc_store.specs.Services.{Allocate, Allocated, Refused, Full, refusal, IsPlaced, IsApart, Serves}
use Rattle.cyc_store.specs.Ledger.{Blocks, store_of, plain_store, blocks_of}
use Rattle.cyc_store.specs.Pages.{page_start, IsPaged, drawn, filled_to, mark_of}
use Rattle.cyc_store.specs.Slots.{IsLaidOut}
use Rattle.cyc_store.specs.Table.{Draws, row_at}
use Rattle.cyc_store.specs.inside.Kept.{limit, handle_of_page, IsRooted, IsTied, IsKept, table_of, no_slots}
use Rattle.cyc_store.specs.declared.row.PageTable.{PageTable}
use Rattle.cyc_store.specs.declared.row.Row.{Row}
use Rattle.cyc_store.specs.declared.row.ClassSlots.{ClassSlots}
use Rattle.cyc_store.specs.declared.range.TheConstants.{PAGE_WORDS, UNIQUE, MOST_BLOCK_WORDS}
use Rattle.cyc_store.proofs.LookupLemmas.{when_other, lookup-here, lookup-there, lookup-key}
use Rattle.cyc_store.proofs.BlockLemmas.{address-fresh_in}
use Rattle.cyc_store.proofs.LiveWords.{odd-apart}
use Rattle.cyc_store.proofs.PageServices.{pages-mark, stays-placed, drawn-placed, demand-stays, demand-grows, full-without}
use Rattle.cyc_store.proofs.PagedRegions.{block_in_page}
use Rattle.cyc_store.proofs.RegionServices.{stays-laid, draws-laid}
use Rattle.cyc_store.proofs.Responses.{named-home, region-none, region-full, serves-region, sound-region}
use Rattle.cyc_store.proofs.TableLemmas.{row_at-read}
use Rattle.cyc_store.proofs.TieLemmas.{chain-also, IsDrawn}
use Rattle.cyc_store.proofs.TieOpening.{with_row}
use Rattle.cyc_store.proofs.TieMaking.{filled_row, stays-tied, next_row, longer_row, draws-tied}
use Rattle.cyc_store.proofs.KeptServices.{held-same, Rewrites, rewritten-row, rewritten-table, rewritten-whole, kept-drawn, drawn-none, drawn-away}

region-few : (rs : List Home) (h : ℕ) (r : Home) (classes : List ℕ) → lookup handle_of rs h ≡ Some r → region_pages (sizes_of r.blocks) ≤ demand_of (sizes_in rs) classes
region-few [] h r classes there = absurd (let e : None ≡ Some r = there in cc)
region-few (q ∷ rs) h r classes there = elim (cases_eq q.handle h) [
  | inl same ↦
      let is : q ≡ r = same_from_some (sym (lookup-here handle_of q rs h same) ∙ there) in
      subst (λ (x : Home). region_pages (sizes_of x.blocks) ≤ demand_of (sizes_in (q ∷ rs)) classes) is (first (region_pages (sizes_of q.blocks)) (demand_of (sizes_in rs) classes))
  | inr other ↦ later (region_pages (sizes_of r.blocks)) (region_pages (sizes_of q.blocks)) (demand_of (sizes_in rs) classes)
      (region-few rs h r classes (sym (lookup-there handle_of q rs h other) ∙ there))
]
  where
    first : (m n : ℕ) → m ≤ m + n
    first m n = omega arith

    later : (m q n : ℕ) → m ≤ n → m ≤ q + n
    later m q n e = omega (arith, e)

-- The rows of two pages in the page table are written; the second row is read after the first write.
twice-table : (u v : PageTable) (page root : ℕ) (a : Row) (newest : ℕ) → page < length u.rows.items → root < length u.rows.items → v.most ≡ u.most → v.words.items ≡ u.words.items
    → v.live.items ≡ u.live.items → v.free ≡ u.free → v.rows.items ≡ set (set u.rows.items page a) root (longer_row (row_at (set u.rows.items page a) root) newest)
    → table_of v ≡ with_row (with_row (table_of u) page a) root (longer_row ((with_row (table_of u) page a).row root) newest)
twice-table u v page root a newest there also most_is words_is live_is free_is rows_is =
    ap (λ n. record (table_of v) { most = n }) most_is
    ∙ (ap (λ n. record (table_of v) { most = u.most; free = n }) free_is
    ∙ (ap (λ ws. record (table_of v) { most = u.most; free = u.free; word = λ (i : ℕ). slice_index ws i }) words_is
    ∙ (ap (λ ms. record (table_of v) { most = u.most; free = u.free; word = (table_of u).word; live = λ (i : ℕ). slice_index_or ms i false }) live_is
    ∙ (ap (λ rs. record (table_of u) { count = length rs; row = λ (p : ℕ). row_at rs p }) rows_is
    ∙ (ap (λ n. record (table_of u) { count = n; row = λ (p : ℕ). row_at (set (set u.rows.items page a) root (longer_row (row_at (set u.rows.items page a) root) newest)) p })
    (length-set (set u.rows.items page a) root _ ∙ length-set u.rows.items page a)
    ∙ (ap (λ f. record (table_of u) { row = f }) (rewritten-row (set u.rows.items page a) root (longer_row (row_at (set u.rows.items page a) root) newest)
    (subst (λ n. root < n) (sym (length-set u.rows.items page a)) also))
    ∙ ap (λ (g : ℕ → Row). record (table_of u) { row = λ (p : ℕ). if p == root then longer_row (g root) newest else g p }) (rewritten-row u.rows.items page a there)))))))

module _ (t : PageTable) (lexicals : List ℕ) (classes : List ClassSlots) (b : Blocks) (k : IsKept t lexicals classes b)
    (root : ℕ) (r : Home) (named : lookup handle_of b.regions (handle_of_page root) ≡ Some r) where
  abbrev slots : ℕ → ClassSlots
  slots = λ (class : ℕ). slice_index_or classes class no_slots

  abbrev s : StoreState
  s = store_of t.most t.words.items b

  abbrev h : ℕ
  h = handle_of_page root

  pub rooted : IsRooted (table_of t).row k.layout.pages r
  rooted = k.tied.roots h r named

  handle-is : r.handle ≡ h
  handle-is = lookup-key handle_of b.regions h r named

  root-is : rooted.root ≡ root
  root-is = halves rooted.root root (sym rooted.handle ∙ handle-is)
    where
      halves : (m n : ℕ) → 2 * m + 1 ≡ 2 * n + 1 → m ≡ n
      halves m n e = omega (arith, e)

  pub root-there : root < length t.rows.items
  root-there = subst (λ n. n < length t.rows.items) root-is (k.tied.drawn rooted.root r.handle rooted.owned)

  pub newest-is : (row_at t.rows.items root).newest ≡ rooted.chain.newest.page
  newest-is = ap (λ n. (row_at t.rows.items n).newest) (sym root-is) ∙ rooted.newest

  pub newest-there : rooted.chain.newest.page < length t.rows.items
  newest-there = k.tied.drawn rooted.chain.newest.page r.handle rooted.chain.newest.owned

  pub filled-is : (row_at t.rows.items rooted.chain.newest.page).filled ≡ (mark_of r).filled
  filled-is =
      (k.tied.rows rooted.chain.newest.page).marks
      ∙ (ap (λ o. limit o (k.layout.pages.filled rooted.chain.newest.page)) rooted.chain.newest.owned
      ∙ (when_other r.handle UNIQUE 0 (k.layout.pages.filled rooted.chain.newest.page) (λ e. odd-apart root (sym handle-is ∙ e)) ∙ rooted.chain.newest.mark))

  pub filled-few : (mark_of r).filled ≤ PAGE_WORDS
  filled-few = subst (λ n. n ≤ PAGE_WORDS) rooted.chain.newest.mark (k.laid.paged.filled rooted.chain.newest.page)

  pub root-small : root < 65536
  root-small = within root (length t.rows.items) t.most root-there k.tied.few k.tied.most
    where
      within : (p n m : ℕ) → p < n → n ≤ m → m ≤ 65536 → p < 65536
      within p n m less few most = omega (arith, less, few, most)

  module _ (n : ℕ) (least : 1 ≤ n) (most : n ≤ MOST_BLOCK_WORDS) where
    fresh-address : (c : Block) → IsPlaced s.pages c × IsApart (homes s) c → lookup address_of r.blocks c.address ≡ None
    fresh-address c may = address-fresh_in s h r c k.laid.sound (named-home s k.layout k.laid h r (odd-apart root) named) may.0 may.1

    -- ---- allocation in the newest page

    module _ (room : (mark_of r).filled + n ≤ PAGE_WORDS) where
      abbrev block : Block
      block = block_in_page rooted.chain.newest.page (mark_of r).filled n

      stays-may : IsPlaced s.pages block × IsApart (homes s) block
      stays-may = stays-placed s k.layout.pages k.layout.free k.laid.paged h r named block rooted.chain.newest refl room least

      stays-few : demand (made_in s h block) ≤ s.pages
      stays-few = subst (λ d. d ≤ s.pages) (sym (demand-stays s k.layout.pages k.layout.free k.laid.paged h r named block room)) k.laid.sound.demand

      pub stays-serves : Serves s (Allocate h n) (Allocated block.address) (made_in s h block)
      stays-serves = serves-region s k.layout k.laid h n r (odd-apart root) named least most block refl stays-may stays-few

      pub stays-kept : (v : PageTable) → Rewrites t v rooted.chain.newest.page (filled_row (row_at t.rows.items rooted.chain.newest.page) ((mark_of r).filled + n))
          → IsKept v lexicals classes (blocks_of (made_in (plain_store b) h block))
      stays-kept v is = record {
        whole = rewritten-whole t v rooted.chain.newest.page _ is k.whole;
        eleven = k.eleven;
        layout = record k.layout { pages = filled_to k.layout.pages rooted.chain.newest.page ((mark_of r).filled + n) };
        laid = subst (λ held. IsLaidOut held (record k.layout { pages = filled_to k.layout.pages rooted.chain.newest.page ((mark_of r).filled + n) }))
            (sym (held-same t.most t.words.items v.most v.words.items (blocks_of (made_in (plain_store b) h block)) is.most (λ i. ap (λ ws. slice_index ws i) is.words)))
            (stays-laid s k.layout k.laid h r named (odd-apart root) n least s.memory rooted.chain room (fresh-address block stays-may)
            (sound-region s k.layout k.laid h n r (odd-apart root) named least most block refl stays-may stays-few));
        tied = subst
            (λ table. IsTied table lexicals slots (blocks_of (made_in (plain_store b) h block)) (record k.layout { pages = filled_to k.layout.pages rooted.chain.newest.page ((mark_of r).filled + n) }))
            (sym (rewritten-table t v rooted.chain.newest.page _ newest-there is))
            (stays-tied (table_of t) lexicals slots b k.layout k.tied h r named (odd-apart root) n rooted room);
      }

    -- ---- allocation in a new page

    module _ (past : PAGE_WORDS < (mark_of r).filled + n) where
      small : n ≤ PAGE_WORDS
      small = reach n most
        where
          reach : (m : ℕ) → m ≤ 1000 → m ≤ 1024
          reach m e = omega (arith, e)

      abbrev new_block : (page : ℕ) → Block
      new_block page = block_in_page page 0 n

      grows : (page : ℕ) → demand (made_in s h (new_block page)) ≡ suc (demand s)
      grows page = demand-grows s k.layout.pages k.layout.free k.laid.paged h r named (new_block page) past

      pub draws-full : k.layout.free ≡ [] → Serves s (Allocate h n) (Refused Full) s
      draws-full none = region-full s k.layout k.laid h n r (odd-apart root) named least most (new_block 0) refl
          (full-without s k.layout.pages k.layout.free k.laid.paged h r named (new_block 0) none past)

      draws-few : (page : ℕ) (rest : List ℕ) → k.layout.free ≡ page ∷ rest → demand (made_in s h (new_block page)) ≤ s.pages
      draws-few page rest next = few (length rest) (demand s) s.pages (length k.layout.free) (demand (made_in s h (new_block page))) (ap length next) k.laid.paged.count (grows page)
        where
          few : (m d p f e : ℕ) → f ≡ suc m → f + d ≡ p → e ≡ suc d → e ≤ p
          few m d p f e first count more = omega (arith, first, count, more)

      pub draws-none : (page : ℕ) (rest : List ℕ) → k.layout.free ≡ page ∷ rest → refusal s (Allocate h n) ≡ None
      draws-none page rest next = region-none s k.layout k.laid h n r (odd-apart root) named least most (new_block page) refl (draws-few page rest next)

      module _ (u : PageTable) (page : ℕ) (draws : Draws t u page) (room : (length t.rows.items ≤ t.free) × (t.most ≤ length t.rows.items) → ⊥) where
        abbrev taken : IsDrawn t u lexicals slots b k.layout page
        taken = kept-drawn t lexicals classes b k u page draws room

        draws-may : IsPlaced s.pages (new_block page) × IsApart (homes s) (new_block page)
        draws-may = drawn-placed s k.layout.pages page taken.rest (subst (IsPaged s k.layout.pages) taken.first k.laid.paged) h (new_block page) (no_words (page_start page)) least small
          where
            no_words : (m : ℕ) → m + 4 * 0 ≡ m
            no_words m = omega arith

        held-u : (c other : Blocks) → c ≡ other → store_of u.most u.words.items c ≡ store_of t.most t.words.items other
        held-u c other noted = ap (store_of u.most u.words.items) noted ∙ held-same t.most t.words.items u.most u.words.items other draws.most draws.words

        pub draws-serves : (c : Blocks) → c ≡ blocks_of (made_in (plain_store b) h (new_block page)) → Serves s (Allocate h n) (Allocated (new_block page).address) (store_of u.most u.words.items c)
        draws-serves c noted = subst (Serves s (Allocate h n) (Allocated (new_block page).address)) (sym (held-u c (blocks_of (made_in (plain_store b) h (new_block page))) noted))
            (serves-region s k.layout k.laid h n r (odd-apart root) named least most (new_block page) refl draws-may (draws-few page taken.rest taken.first))

        same-next : (xs : List ℕ) → AllByRecursion (λ x. (row_at u.rows.items x).next ≡ (row_at t.rows.items x).next) xs
        same-next [] = tt
        same-next (x ∷ xs) = (ap (λ (y : Row). y.next) (draws.rows x), same-next xs)

        -- After a free page is taken, the page table still represents the region.
        abbrev rooted-u : IsRooted (table_of u).row k.layout.pages r
        rooted-u = record {
          root = rooted.root;
          handle = rooted.handle;
          owned = rooted.owned;
          chain = rooted.chain;
          newest = ap (λ (y : Row). y.newest) (draws.rows rooted.root) ∙ rooted.newest;
          count = ap (λ (y : Row). y.count) (draws.rows rooted.root) ∙ rooted.count;
          linked = chain-also (λ p. (row_at t.rows.items p).next) (λ p. (row_at u.rows.items p).next) rooted.chain.newest.page (rooted.chain.newest.page ∷ rooted.chain.older)
              (same-next (rooted.chain.newest.page ∷ rooted.chain.older)) rooted.linked;
          complete = rooted.complete;
        }

        root-in-u : root < length u.rows.items
        root-in-u = reach root (length t.rows.items) (length u.rows.items) root-there draws.count
          where
            reach : (p m o : ℕ) → p < m → m ≤ o → p < o
            reach p m o less more = omega (arith, less, more)

        -- After a page is taken, the page table's rows for the new page and for the region's first page are written.
        pub draws-kept : (c : Blocks) → c ≡ blocks_of (made_in (plain_store b) h (new_block page)) → (v : PageTable) → v.most ≡ u.most → v.words.items ≡ u.words.items
            → v.live.items ≡ u.live.items → v.free ≡ u.free
            → v.rows.items ≡ set (set u.rows.items page (next_row n rooted.chain.newest.page)) root (longer_row (row_at (set u.rows.items page (next_row n rooted.chain.newest.page)) root) page)
            → IsKept v lexicals classes c
        draws-kept c noted v most_is words_is live_is free_is rows_is = subst (IsKept v lexicals classes) (sym noted) (record {
          whole = record {
            words = ap length words_is ∙ (draws.whole.words ∙ ap (λ m. PAGE_WORDS * m) (sym many));
            live = ap length live_is ∙ (draws.whole.live ∙ ap (λ m. PAGE_WORDS * m) (sym many));
          };
          eleven = k.eleven;
          layout = record k.layout { pages = filled_to (drawn k.layout.pages page h) page (0 + n); free = taken.rest };
          laid = subst (λ held. IsLaidOut held (record k.layout { pages = filled_to (drawn k.layout.pages page h) page (0 + n); free = taken.rest }))
              (sym (held-same t.most t.words.items v.most v.words.items (blocks_of (made_in (plain_store b) h (new_block page))) (most_is ∙ draws.most)
              (λ i. ap (λ ws. slice_index ws i) words_is ∙ draws.words i)))
              (draws-laid s k.layout k.laid h r named (odd-apart root) n least s.memory page taken.rest taken.first past small (fresh-address (new_block page) draws-may)
              (sound-region s k.layout k.laid h n r (odd-apart root) named least most (new_block page) refl draws-may (draws-few page taken.rest taken.first)));
          tied = subst
              (λ table. IsTied table lexicals slots (blocks_of (made_in (plain_store b) h (new_block page))) (record k.layout { pages = filled_to (drawn k.layout.pages page h) page (0 + n); free = taken.rest }))
              (sym table_is)
              (subst
              (λ m. IsTied (with_row (with_row (table_of u) page (next_row n rooted.chain.newest.page)) m (longer_row ((with_row (table_of u) page (next_row n rooted.chain.newest.page)).row m) page))
              lexicals slots (blocks_of (made_in (plain_store b) h (new_block page))) (record k.layout { pages = filled_to (drawn k.layout.pages page h) page (0 + n); free = taken.rest }))
              root-is
              (draws-tied (table_of u) lexicals slots b (record k.layout { free = taken.rest }) taken.tied page (drawn-none t lexicals classes b k u page draws room)
              (drawn-away t lexicals classes b k u page draws room) taken.there h r named (odd-apart root) n past rooted-u));
        })
          where
            many : length v.rows.items ≡ length u.rows.items
            many = ap length rows_is ∙ (length-set (set u.rows.items page (next_row n rooted.chain.newest.page)) root _ ∙ length-set u.rows.items page _)

            table_is : table_of v ≡ with_row (with_row (table_of u) page (next_row n rooted.chain.newest.page)) root
                (longer_row ((with_row (table_of u) page (next_row n rooted.chain.newest.page)).row root) page)
            table_is = twice-table u v page root (next_row n rooted.chain.newest.page) page taken.there root-in-u most_is words_is live_is free_is rows_is

  -- The rows of the page table that are read for the first page and for the newest page of a region.
  module _ (first : Row) (read : first ≡ slice_index_or t.rows.items root first) where
    pub first-newest : first.newest ≡ rooted.chain.newest.page
    first-newest = ap (λ (x : Row). x.newest) (sym (row_at-read t.rows.items root first root-there read)) ∙ newest-is

    pub first-there : first.newest < length t.rows.items
    first-there = subst (λ n. n < length t.rows.items) (sym first-newest) newest-there

    pub first-small : first.newest < 65536
    first-small = within first.newest (length t.rows.items) t.most first-there k.tied.few k.tied.most
      where
        within : (p n m : ℕ) → p < n → n ≤ m → m ≤ 65536 → p < 65536
        within p n m less few most = omega (arith, less, few, most)

    module _ (last : Row) (also : last ≡ slice_index_or t.rows.items first.newest last) where
      last-row : row_at t.rows.items rooted.chain.newest.page ≡ last
      last-row = ap (row_at t.rows.items) (sym first-newest) ∙ row_at-read t.rows.items first.newest last first-there also

      pub last-filled : last.filled ≡ (mark_of r).filled
      last-filled = ap (λ (x : Row). x.filled) (sym last-row) ∙ filled-is

      pub last-few : last.filled ≤ 1024
      last-few = subst (λ n. n ≤ 1024) (sym last-filled) filled-few

      -- The case of a new block that fits after the filled words of its region's newest page.
      module _ (n : ℕ) (least : 1 ≤ n) (most : n ≤ MOST_BLOCK_WORDS) (room : last.filled + n ≤ 1024) (address : ℕ)
          (place : address ≡ 536870912 + 4 * (1024 * first.newest + last.filled)) where
        abbrev made_block : Block
        made_block = record { address = address; size = n }

        has-room : (mark_of r).filled + n ≤ PAGE_WORDS
        has-room = subst (λ m. m + n ≤ 1024) last-filled room

        block-is : made_block ≡ block_in_page rooted.chain.newest.page (mark_of r).filled n
        block-is = ap (λ a. record { address = a; size = n })
            (place ∙ (regroup 536870912 first.newest last.filled
            ∙ (ap (λ p. 536870912 + 4 * (1024 * p) + 4 * last.filled) first-newest ∙ ap (λ m. page_start rooted.chain.newest.page + 4 * m) last-filled)))
          where
            regroup : (base p u : ℕ) → base + 4 * (1024 * p + u) ≡ base + 4 * (1024 * p) + 4 * u
            regroup base p u = omega arith

        pub following-serves : (c : Blocks) → c ≡ blocks_of (made_in (plain_store b) h made_block) → Serves s (Allocate h n) (Allocated address) (store_of t.most t.words.items c)
        following-serves c noted = subst (λ d. Serves s (Allocate h n) (Allocated address) (store_of t.most t.words.items d)) (sym noted)
            (subst (λ (x : Block). Serves s (Allocate h n) (Allocated x.address) (made_in s h x)) (sym block-is) (stays-serves n least most has-room))

        pub following-kept : (c : Blocks) → c ≡ blocks_of (made_in (plain_store b) h made_block) → (v : PageTable)
            → Rewrites t v first.newest (record last { filled = last.filled + n }) → IsKept v lexicals classes c
        following-kept c noted v is = subst (IsKept v lexicals classes) (sym (noted ∙ ap (λ (x : Block). blocks_of (made_in (plain_store b) h x)) block-is))
            (stays-kept n least most has-room v (subst (λ m. Rewrites t v rooted.chain.newest.page (filled_row (row_at t.rows.items rooted.chain.newest.page) (m + n))) last-filled
            (subst (λ (x : Row). Rewrites t v rooted.chain.newest.page (filled_row x (last.filled + n))) (sym last-row)
            (subst (λ p. Rewrites t v p (record last { filled = last.filled + n })) first-newest is))))

      -- The case of a new block that does not fit in its region's newest page, so that another page is taken for it.
      module _ (n : ℕ) (least : 1 ≤ n) (most : n ≤ MOST_BLOCK_WORDS) (past : 1024 < last.filled + n) where
        is-past : PAGE_WORDS < (mark_of r).filled + n
        is-past = subst (λ m. 1024 < m + n) last-filled past

        pub after-full : k.layout.free ≡ [] → Serves s (Allocate h n) (Refused Full) s
        after-full none = draws-full n least most is-past none

        pub after-none : (page : ℕ) (rest : List ℕ) → k.layout.free ≡ page ∷ rest → refusal s (Allocate h n) ≡ None
        after-none page rest next = draws-none n least most is-past page rest next

        module _ (u : PageTable) (page : ℕ) (draws : Draws t u page) (room : (length t.rows.items ≤ t.free) × (t.most ≤ length t.rows.items) → ⊥) (address : ℕ)
            (place : address ≡ 536870912 + 4 * (1024 * page)) where
          abbrev taken_block : Block
          taken_block = record { address = address; size = n }

          taken-is : taken_block ≡ block_in_page page 0 n
          taken-is = ap (λ a. record { address = a; size = n }) (place ∙ regroup (536870912 + 4 * (1024 * page)))
            where
              regroup : (m : ℕ) → m ≡ m + 4 * 0
              regroup m = omega arith

          pub after-serves : (c : Blocks) → c ≡ blocks_of (made_in (plain_store b) h taken_block) → Serves s (Allocate h n) (Allocated address) (store_of u.most u.words.items c)
          after-serves c noted = subst (λ (x : Block). Serves s (Allocate h n) (Allocated x.address) (store_of u.most u.words.items c)) (sym taken-is)
              (draws-serves n least most is-past u page draws room c (noted ∙ ap (λ (x : Block). blocks_of (made_in (plain_store b) h x)) taken-is))

          apart-root : root ≡ page → ⊥
          apart-root e = never_none_and_some (drawn-none t lexicals classes b k u page draws room)
              (ap k.layout.pages.owner (sym e ∙ sym root-is) ∙ rooted.owned)

          pub after-kept : (c : Blocks) → c ≡ blocks_of (made_in (plain_store b) h taken_block) → (v : PageTable) → v.most ≡ u.most → v.words.items ≡ u.words.items
              → v.live.items ≡ u.live.items → v.free ≡ u.free → v.rows.items ≡ set (set u.rows.items page (next_row n first.newest)) root (longer_row first page) → IsKept v lexicals classes c
          after-kept c noted v most_is words_is live_is free_is rows_is =
              draws-kept n least most is-past u page draws room c (noted ∙ ap (λ (x : Block). blocks_of (made_in (plain_store b) h x)) taken-is) v most_is words_is live_is free_is
              (rows_is ∙ (ap (λ m. set (set u.rows.items page (next_row n m)) root (longer_row first page)) first-newest
              ∙ ap (λ (x : Row). set (set u.rows.items page (next_row n rooted.chain.newest.page)) root (longer_row x page))
              (sym (get_or-set_other u.rows.items page root (next_row n rooted.chain.newest.page) _ apart-root ∙ (draws.rows root ∙ row_at-read t.rows.items root first root-there read)))))

  -- A region has at most as many pages as the store has.
  pub first-count : (first : Row) → first ≡ slice_index_or t.rows.items root first → first.count ≤ 65536
  first-count first read = within first.count (suc (length rooted.chain.older)) (mark_of r).pages (region_pages (sizes_of r.blocks)) (demand s) t.most
      (ap (λ (x : Row). x.count) (sym (row_at-read t.rows.items root first root-there read)) ∙ (ap (λ n. (row_at t.rows.items n).count) (sym root-is) ∙ rooted.count))
      rooted.chain.many (pages-mark r) (region-few b.regions h r b.classes named) k.laid.sound.demand k.tied.most
    where
      within : (c l m g d p : ℕ) → c ≡ l → l ≡ m → g ≡ m → g ≤ d → d ≤ p → p ≤ 65536 → c ≤ 65536
      within c l m g d p e f i j q w = omega (arith, e, f, i, j, q, w)

  pub first-counted : (first : Row) → first ≡ slice_index_or t.rows.items root first → first.count ≡ suc (length rooted.chain.older)
  first-counted first read = ap (λ (x : Row). x.count) (sym (row_at-read t.rows.items root first root-there read)) ∙ (ap (λ n. (row_at t.rows.items n).count) (sym root-is) ∙ rooted.count)
