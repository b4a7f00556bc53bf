-- A new page table has the heap in its first page, and a new store is built on the table.
use Rattle.std.proofs.Common.{◌≡◌, ℕ, ◌+◌, ◌-◌, ◌*◌, ◌/◌, ◌%◌, ◌<◌, ◌≤◌, Bool, true, false, List, [], ◌∷◌, ◌++◌, length, set, replicate, Some, None, refl, sym, ap, subst, ◌∙◌, inl, arith}
use Rattle.std.specs.Prelude.{◌==◌, ◌&&◌, nat_le, if◌then◌else◌, slice_index, slice_index_or}
use Rattle.std.specs.Global.{Vec}
use Rattle.std.specs.List.{AllByRecursion}
use Rattle.std.proofs.lemmas.List.{length-replicate, append-nil}
use Rattle.cyc_words.proofs.Items.{slice_index_or_replicate_same, slice_index_or_replicate}
use Rattle.cyc_store.specs.Ledger.{Blocks, memory_of, store_of, no_blocks}
use Rattle.cyc_store.specs.State.{AreWords, Heap, start, opened}
use Rattle.cyc_store.specs.Soundness.{IsSound}
use Rattle.cyc_store.specs.Slots.{IsLaidOut}
use Rattle.cyc_store.specs.Table.{free_row, row_at}
use Rattle.cyc_store.specs.inside.Kept.{handle_of_page, numbers_from, IsStocked, IsTied, table_of, no_slots}
use Rattle.cyc_store.specs.declared.row.PageTable.{PageTable}
use Rattle.cyc_store.specs.declared.row.Role.TheVariants as role
use Rattle.cyc_store.specs.declared.row.Row.{Row}
use Rattle.cyc_store.specs.declared.row.TheConstants.{NONE}
use Rattle.cyc_store.specs.declared.range.TheConstants.{STORE_BASE, UNIQUE}
use Rattle.cyc_store.proofs.KeptServices.{memory-same, kept-opened}
use Rattle.cyc_store.proofs.KeptStart.{no_regions, new_slots, all_new, first_layout, first-laid}
use Rattle.cyc_store.proofs.ServiceLemmas.{start-sound}
use Rattle.cyc_store.proofs.PagedStart.{are-distinct}
use Rattle.cyc_rawpages.specs.inside.Pool.{PoolState, IsFree, new_pool}
use Rattle.cyc_pagestore.specs.declared.step.Step.TheVariants.{Made, Taken, Began}
use Rattle.cyc_pagestore.specs.declared.table.Spot.{Spot}
use Rattle.cyc_pagestore.specs.inside.Links.{Links, no_links, after}
use Rattle.cyc_pagestore.specs.inside.Live.{Readies}
use Rattle.cyc_pagestore.specs.inside.Table.{AreAlone, TableState, blank_table, Opens, no_spot, IsBacked}
use Rattle.cyc_pagestore.specs.inside.Stored.{IsStored}
use Rattle.cyc_pagestore.proofs.Rows.{relinked-length, relinked-row, relinked-chain}
use Rattle.cyc_pagestore.proofs.Blank.{within, new-backed}
use Rattle.cyc_pagestore.proofs.Calls.{view_of, open-keeps, open-gives}
use Rattle.cyc_pagestore.proofs.Pooled.{serial_of_newer, serials_one}
use Rattle.cyc_pagestore.proofs.Taking.{with_items, v, u, v-kept, draws, room}
use Rattle.cyc_pagestore.proofs.Storing.{after_table, opened-whole, opened-rewrites}

-- ---- the pool

module _ (n : ℕ) (least : 1 ≤ n) (few : n ≤ 65536) where
  abbrev p : PoolState
  p = new_pool n

  abbrev spots : List Spot
  spots = replicate n no_spot

  abbrev l : Links
  l = after no_links (Made n)

  -- The state of the pool after its first page is taken.
  abbrev pub started : PoolState
  started = record p { free = set p.free 0 false; chains = set p.chains 0 (0 ∷ []) }

  pub first-free : IsFree p.free 0
  first-free = slice_index_or_replicate n true false 0 (omega (arith, least))

  pub first-alone : AreAlone p
  first-alone = record { free = length-replicate n true; chains = length-replicate n []; alone = λ page free. slice_index_or_replicate_same n [] page }

  ready : Readies started started 1
  ready = record {
    same = refl;
    fill_count = refl;
    serial_count = refl;
    reach = λ page below. refl;
    newer = serial_of_newer p n spots 1 l (new-backed n few);
    few = omega arith;
    one = serials_one p n spots 1 l (new-backed n few);
    kept = λ page other below also e. e;
  }

  module _ (q : PoolState) (made : q ≡ record started { owners = set started.owners 0 0; fills = set started.fills 0 0; serials = set started.serials 0 1 })
      (m : Links) (noted : m ≡ after (after l (Taken 0)) (Began 0 role.Heap)) where
    pub new-keeps : IsBacked q n (set spots 0 (record { role = role.Heap; newest = 0 })) 2 m
    new-keeps = open-keeps p n spots 1 l (new-backed n few) (blank_table n) refl 0 (omega (arith, least)) first-free role.Heap (inl refl) started 1 ready q made m noted

    pub new-opens : Opens (blank_table n) (view_of q m) 0 role.Heap
    new-opens = open-gives p n spots 1 l (new-backed n few) (blank_table n) refl 0 (omega (arith, least)) first-free role.Heap (inl refl) started 1 ready q made m noted

-- ---- the store

-- A page table in memory gives the same results as a new table over a pool.
module _ (lexicals : Vec ℕ) (n : ℕ) (few : n ≤ 65536) where
  abbrev blank : TableState
  blank = blank_table n

  abbrev order : List ℕ
  order = numbers_from 0 n

  words-many : length blank.words ≡ 1024 * n
  words-many = length-replicate (1024 * n) 0

  live-many : length blank.live ≡ 1024 * n
  live-many = length-replicate (1024 * n) false

  rows-many : length blank.rows ≡ n
  rows-many = relinked-length (replicate n (free_row NONE)) order ∙ length-replicate n (free_row NONE)

  abbrev t : PageTable
  t = record {
    most = n;
    words = with_items lexicals blank.words (let many = words-many in omega (arith, many, few));
    live = with_items lexicals blank.live (let many = live-many in omega (arith, many, few));
    rows = with_items lexicals blank.rows (let many = rows-many in omega (arith, many, few));
    free = blank.free;
  }

  row-is : (page : ℕ) → (link : ℕ) × (row_at blank.rows page ≡ free_row link)
  row-is page =
      let r = relinked-row (replicate n (free_row NONE)) order page (within n few) in
      (r.0, r.1 ∙ ap (λ (q : Row). record q { next = r.0 }) (slice_index_or_replicate_same n (free_row NONE) page))

  no-words : (i : ℕ) → slice_index blank.words i ≡ slice_index (let empty : List ℕ = [] in empty) i
  no-words i = slice_index_or_replicate_same (1024 * n) 0 i ∙ sym (nothing i)
    where
      nothing : (j : ℕ) → slice_index (let empty : List ℕ = [] in empty) j ≡ 0
      nothing j = refl

  held-is : store_of n blank.words no_regions ≡ store_of n [] no_regions
  held-is = ap (λ m. record (store_of n [] no_regions) { memory = m }) (memory-same [] blank.words no-words)

  tied : IsTied (table_of t) [] (λ (class : ℕ). slice_index_or all_new class no_slots) no_regions (first_layout n)
  tied = record {
    most = few;
    few = subst (λ m. m ≤ n) (sym rows-many) (same n);
    drawn = λ page h owned. absurd (let e : None ≡ Some h = owned in cc);
    rows = λ page. record { marks = ap (λ (q : Row). q.filled) (row-is page).1; plays = ap (λ (q : Row). q.role) (row-is page).1 };
    given = order;
    free = sym (ap (λ m. order ++ numbers_from m (n - m)) rows-many ∙ ap (λ m. order ++ numbers_from n m) (less n) ∙ append-nil order);
    linked = relinked-chain (replicate n (free_row NONE)) order (within n few) (are-distinct 0 n);
    within = subst (λ m. AllByRecursion (λ (page : ℕ). page < m) order) (length-replicate n (free_row NONE) ∙ sym rows-many) (within n few);
    homes = λ page h owned other. absurd (let e : None ≡ Some h = owned in cc);
    roots = λ h r found. absurd (let e : None ≡ Some r = found in cc);
    newest = refl;
    stock = λ class bound. subst (λ slots. IsStocked (λ (i : ℕ). slice_index blank.words i) slots class []) (sym (slice_index_or_replicate 11 new_slots no_slots class (omega (arith, bound)))) (record { chain = []; all = refl; linked = refl });
    marked = λ page offset owned inside. absurd (let e : None ≡ Some UNIQUE = owned in cc);
    unmarked = λ page offset other inside. slice_index_or_replicate_same (1024 * n) false (1024 * page + offset);
  }
    where
      same : (m : ℕ) → m ≤ m
      same m = omega arith

      less : (m : ℕ) → m - m ≡ 0
      less m = omega arith

  pub blank-stored : IsStored blank [] all_new no_regions
  blank-stored = record {
    table = t;
    reads = record { most = refl; words = refl; live = refl; rows = refl; free = refl };
    whole = rows-many;
    kept = record {
      whole = record { words = words-many ∙ ap (λ m. 1024 * m) (sym rows-many); live = live-many ∙ ap (λ m. 1024 * m) (sym rows-many) };
      eleven = refl;
      layout = first_layout n;
      laid = subst (λ held. IsLaidOut held (first_layout n)) (sym held-is) (first-laid n);
      tied = tied;
    };
  }

  -- In a new pool, all words of the pages read as 0.
  pub blank-words : AreWords (memory_of blank.words)
  blank-words address = found ((address % 4 == 0) && nat_le STORE_BASE address) ((address - STORE_BASE) / 4)
    where
      found : (b : Bool) (word : ℕ) → (if b then slice_index blank.words word else 0) < 4294967296
      found true word = let e : slice_index blank.words word ≡ 0 = slice_index_or_replicate_same (1024 * n) (let zero : ℕ = 0 in zero) word in omega (arith, e)
      found false word = omega arith

  -- ---- the heap is opened
  module _ (least : 1 ≤ n) (y : TableState) (opens : Opens blank y 0 role.Heap) where
    abbrev before : PageTable
    before = v blank [] all_new no_regions blank-stored 0 opens.middle opens.takes

    heap-sound : IsSound (opened (store_of n blank.words no_regions) (handle_of_page 0) Heap)
    heap-sound = start-sound n (memory_of blank.words) blank-words least

    pub heap-stored : IsStored y [] all_new no_blocks
    heap-stored = record {
      table = (after_table blank [] all_new no_regions blank-stored y 0 role.Heap opens).0;
      reads = (after_table blank [] all_new no_regions blank-stored y 0 role.Heap opens).1;
      whole = opened-whole blank [] all_new no_regions blank-stored y 0 role.Heap opens;
      kept = kept-opened before [] all_new no_regions (v-kept blank [] all_new no_regions blank-stored 0 opens.middle opens.takes) (u blank [] all_new no_regions blank-stored 0 opens.middle opens.takes) 0
          (draws blank [] all_new no_regions blank-stored 0 opens.middle opens.takes) (room blank [] all_new no_regions blank-stored 0 opens.middle opens.takes)
          (after_table blank [] all_new no_regions blank-stored y 0 role.Heap opens).0 Heap (opened-rewrites blank [] all_new no_regions blank-stored y 0 role.Heap opens) heap-sound;
    }

    pub heap-most : y.most ≡ n
    heap-most = ap (λ (z : TableState). z.most) opens.is ∙ ap (λ (z : TableState). z.most) opens.takes.is

    pub heap-held : (c : Blocks) → c ≡ no_blocks → store_of y.most y.words c ≡ start n (memory_of y.words)
    heap-held c noted = ap (λ m. store_of m y.words c) heap-most ∙ ap (store_of n y.words) noted

    pub heap-words : AreWords (memory_of y.words)
    heap-words = subst (λ ws. AreWords (memory_of ws)) (sym (ap (λ (z : TableState). z.words) opens.is ∙ ap (λ (z : TableState). z.words) opens.takes.is)) blank-words
