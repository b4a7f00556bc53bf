-- The allocation of a block in a region keeps the invariant of a store on a page table over a pool. The result of the allocation
-- satisfies the store relation.
use Rattle.std.proofs.Common.{◌≡◌, ℕ, ◌+◌, ◌*◌, ◌<◌, ◌≤◌, List, ◌∷◌, length, length-set, set, Some, sym, ap, subst, ◌∙◌}
use Rattle.std.specs.Prelude.{slice_index_or}
use Rattle.std.proofs.lemmas.List.{get_or_default}
use Rattle.cyc_store.specs.Ledger.{Blocks, store_of, plain_store, blocks_of}
use Rattle.cyc_store.specs.State.{lookup, Home, handle_of, StoreState, made_in}
use Rattle.cyc_store.specs.Services.{Allocate, Allocated, Refused, Full, Serves}
use Rattle.cyc_store.specs.Table.{free_row, row_at}
use Rattle.cyc_store.specs.inside.Kept.{handle_of_page}
use Rattle.cyc_store.specs.declared.range.TheConstants.{MOST_BLOCK_WORDS}
use Rattle.cyc_store.specs.declared.row.PageTable.{PageTable}
use Rattle.cyc_store.specs.declared.row.Row.{Row}
use Rattle.cyc_store.specs.declared.row.ClassSlots.{ClassSlots}
use Rattle.cyc_store.specs.declared.row.TheConstants.{NONE}
use Rattle.cyc_store.proofs.KeptMaking.{first-there, first-small, last-few, following-serves, following-kept, after-full, after-serves, after-kept}
use Rattle.cyc_store.proofs.TieMaking.{next_row, longer_row}
use Rattle.cyc_pagestore.specs.inside.Links.{relinked, removed, added_rows}
use Rattle.cyc_pagestore.specs.inside.Table.{TableState, row_of, IsFull, Adds, Fills}
use Rattle.cyc_pagestore.specs.inside.Stored.{IsStored}
use Rattle.cyc_pagestore.proofs.Rows.{relinked-row, relinked-length}
use Rattle.cyc_pagestore.proofs.Taking.{same-size, front-within, v, u, v-kept, draws, room}
use Rattle.cyc_pagestore.proofs.Storing.{row-read, stored-held, stored-full, root-inside, root-read}

module _ (x : TableState) (lexicals : List ℕ) (classes : List ClassSlots) (b : Blocks) (s : IsStored x lexicals classes b)
    (root : ℕ) (r : Home) (named : lookup handle_of b.regions (handle_of_page root) ≡ Some r) where
  abbrev t : PageTable
  t = s.table

  abbrev h : ℕ
  h = handle_of_page root

  abbrev pub first : Row
  first = row_of x root

  read : first ≡ slice_index_or t.rows.items root first
  read = root-read x lexicals classes b s root r named

  abbrev pub last : Row
  last = row_of x first.newest

  pub newest-inside : first.newest < x.most
  newest-inside = subst (λ n. first.newest < n) (ap length s.reads.rows ∙ s.whole) (first-there t lexicals classes b s.kept root r named first read)

  pub newest-few : first.newest < 65536
  newest-few = first-small t lexicals classes b s.kept root r named first read

  last-read : last ≡ slice_index_or t.rows.items first.newest last
  last-read = row-read x lexicals classes b s first.newest newest-inside

  pub last-filled : last.filled ≤ 1024
  last-filled = last-few t lexicals classes b s.kept root r named first read last last-read

  module _ (n : ℕ) (least : 1 ≤ n) (most : n ≤ MOST_BLOCK_WORDS) where
    -- ---- a block that fits the newest page
    module _ (fits : last.filled + n ≤ 1024) (y : TableState) (fills : Fills x y first.newest (last.filled + n)) (address : ℕ)
        (place : address ≡ 536870912 + 4 * (1024 * first.newest + last.filled)) (c : Blocks)
        (noted : c ≡ blocks_of (made_in (plain_store b) h (record { address = address; size = n }))) where
      rows-many : length y.rows ≡ length x.rows
      rows-many = ap (λ (z : TableState). length z.rows) fills ∙ length-set x.rows first.newest _

      pub following-most : y.most ≡ x.most
      following-most = ap (λ (z : TableState). z.most) fills

      pub following-stored : IsStored y lexicals classes c
      following-stored =
          let w = same-size x lexicals classes b s y (ap (λ (z : TableState). length z.words) fills) (ap (λ (z : TableState). length z.live) fills) rows-many in
          record {
            table = w.0;
            reads = w.1;
            whole = rows-many ∙ s.whole ∙ sym following-most;
            kept = following-kept t lexicals classes b s.kept root r named first read last last-read n least most fits address place c noted w.0 (record {
              most = ap (λ (z : TableState). z.most) fills ∙ sym s.reads.most;
              words = ap (λ (z : TableState). z.words) fills ∙ sym s.reads.words;
              live = ap (λ (z : TableState). z.live) fills ∙ sym s.reads.live;
              free = ap (λ (z : TableState). z.free) fills ∙ sym s.reads.free;
              rows = ap (λ (z : TableState). z.rows) fills ∙ ap (λ rs. set rs first.newest (record last { filled = last.filled + n })) (sym s.reads.rows);
            });
          }

      pub following-served : Serves (store_of x.most x.words b) (Allocate h n) (Allocated address) (store_of y.most y.words c)
      following-served = subst (λ (d : StoreState). Serves d (Allocate h n) (Allocated address) (store_of y.most y.words c)) (stored-held x lexicals classes b s)
          (subst (Serves (store_of t.most t.words.items b) (Allocate h n) (Allocated address)) (λ j. store_of (same-most j) (same-words j) c)
          (following-serves t lexicals classes b s.kept root r named first read last last-read n least most fits address place c noted))
        where
          same-most : t.most ≡ y.most
          same-most = s.reads.most ∙ sym (ap (λ (z : TableState). z.most) fills)

          same-words : t.words.items ≡ y.words
          same-words = s.reads.words ∙ sym (ap (λ (z : TableState). z.words) fills)

    -- ---- a block in a newly taken page
    module _ (past : 1024 < last.filled + n) where
      pub after-spent : IsFull x → Serves (store_of x.most x.words b) (Allocate h n) (Refused Full) (store_of x.most x.words b)
      after-spent full = subst (λ (d : StoreState). Serves d (Allocate h n) (Refused Full) d) (stored-held x lexicals classes b s)
          (after-full t lexicals classes b s.kept root r named first read last last-read n least most past (stored-full x lexicals classes b s full))

      module _ (y : TableState) (page : ℕ) (adds : Adds x y root page n) (address : ℕ) (place : address ≡ 536870912 + 4 * (1024 * page)) (c : Blocks)
          (noted : c ≡ blocks_of (made_in (plain_store b) h (record { address = address; size = n }))) where
        abbrev m : TableState
        m = adds.middle

        abbrev before : PageTable
        before = v x lexicals classes b s page m adds.takes

        abbrev front : List ℕ
        front = page ∷ removed adds.takes.order page

        -- The row of the page table (the data of one page) for the region's first page, after the free pages are relinked.
        abbrev its : Row
        its = row_at (relinked x.rows front) root

        relinked-is : (p : ℕ) → (link : ℕ) × (row_at (relinked x.rows front) p ≡ record (row_of x p) { next = link })
        relinked-is p = relinked-row x.rows front p (front-within x lexicals classes b s page m adds.takes)

        its-read : its ≡ slice_index_or before.rows.items root its
        its-read = get_or_default (relinked x.rows front) root (free_row NONE) its
            (subst (λ k. root < k) (sym (relinked-length x.rows front ∙ s.whole)) (root-inside x lexicals classes b s root r named))

        its-newest : its.newest ≡ first.newest
        its-newest = ap (λ (q : Row). q.newest) (relinked-is root).1

        abbrev following : Row
        following = row_at (relinked x.rows front) its.newest

        following-read : following ≡ slice_index_or before.rows.items its.newest following
        following-read = get_or_default (relinked x.rows front) its.newest (free_row NONE) following
            (subst (λ k. its.newest < k) (sym (relinked-length x.rows front ∙ s.whole)) (subst (λ p. p < x.most) (sym its-newest) newest-inside))

        following-filled : following.filled ≡ last.filled
        following-filled = ap (λ (q : Row). q.filled) (relinked-is its.newest).1 ∙ ap (λ p. (row_of x p).filled) its-newest

        following-past : 1024 < following.filled + n
        following-past = subst (λ k. 1024 < k + n) (sym following-filled) past

        middle-rows : m.rows ≡ relinked x.rows front
        middle-rows = ap (λ (z : TableState). z.rows) adds.takes.is

        rows-are : y.rows ≡ added_rows m.rows root page n
        rows-are = ap (λ (z : TableState). z.rows) adds.is

        rows-added : length y.rows ≡ length x.rows
        rows-added = ap length rows-are ∙ length-set (set m.rows page _) root _ ∙ length-set m.rows page _ ∙ ap length middle-rows ∙ relinked-length x.rows front

        pub after-most : y.most ≡ x.most
        after-most = ap (λ (z : TableState). z.most) adds.is ∙ ap (λ (z : TableState). z.most) adds.takes.is

        pub after-stored : IsStored y lexicals classes c
        after-stored =
            let w = same-size x lexicals classes b s y
            (ap (λ (z : TableState). length z.words) adds.is ∙ ap (λ (z : TableState). length z.words) adds.takes.is)
            (ap (λ (z : TableState). length z.live) adds.is ∙ ap (λ (z : TableState). length z.live) adds.takes.is) rows-added in
            record {
              table = w.0;
              reads = w.1;
              whole = rows-added ∙ s.whole ∙ sym after-most;
              kept = after-kept before lexicals classes b (v-kept x lexicals classes b s page m adds.takes) root r named its its-read following following-read n least most following-past
                  (u x lexicals classes b s page m adds.takes) page (draws x lexicals classes b s page m adds.takes) (room x lexicals classes b s page m adds.takes) address place c noted w.0
                  (ap (λ (z : TableState). z.most) adds.is) (ap (λ (z : TableState). z.words) adds.is) (ap (λ (z : TableState). z.live) adds.is) (ap (λ (z : TableState). z.free) adds.is)
                  (rows-are ∙ ap (λ rs. set (set m.rows page (next_row n (row_at rs root).newest)) root (longer_row (row_at rs root) page)) middle-rows);
            }

        pub after-served : Serves (store_of x.most x.words b) (Allocate h n) (Allocated address) (store_of y.most y.words c)
        after-served = subst (Serves (store_of x.most x.words b) (Allocate h n) (Allocated address)) (λ j. store_of (sym adds.is j).most (sym adds.is j).words c)
            (after-serves before lexicals classes b (v-kept x lexicals classes b s page m adds.takes) root r named its its-read following following-read n least most following-past
            (u x lexicals classes b s page m adds.takes) page (draws x lexicals classes b s page m adds.takes) (room x lexicals classes b s page m adds.takes) address place c noted)
