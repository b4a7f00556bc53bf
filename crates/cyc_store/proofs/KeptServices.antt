-- Each call preserves the invariant of a store on a table of pages, and yields an answer that the store relation allows.
use Rattle.std.proofs.Common.{◌≡◌, ◌≢◌, ℕ, suc, ◌+◌, ◌-◌, ◌*◌, ◌/◌, ◌%◌, ◌^◌, ◌<◌, ◌≤◌, Bool, true, false, List, [], ◌∷◌, ◌++◌, length, None, refl, sym, ap, subst, ◌∙◌, inl, inr, arith, get_or-set_same, get_or-set_other, length-set}
use Rattle.std.specs.Prelude.{◌==◌, ◌⊎◌, ◌&&◌, nat_le, if◌then◌else◌, slice_index, slice_index_or, set}
use Rattle.std.specs.List.{AllByRecursion}
use Rattle.std.proofs.lemmas.Bool.{cases_eq, cases_lt, cond_both}
use Rattle.std.proofs.lemmas.List.{append-nil}
use mathlib.Core.Path.{fun_ext}
use Rattle.cyc_words.specs.Demand.{page_words, demand_of, pages_from, region_pages}
use Rattle.cyc_words.proofs.Numbers.{when_equal}
use Rattle.cyc_store.specs.State.{lookup, Sort, Lexical, Dynamic, Uniques, Home, handle_of, is_lexical, StoreState, homes, sizes_of, sizes_in, demand, opened, lexical_count}
use Rattle.cyc_store.specs.Soundness.{IsSound}
use Rattle.cyc_store.specs.Ledger.{Blocks, memory_of, store_of, plain_store, blocks_of}
use Rattle.cyc_store.specs.Pages.{IsPaged, drawn}
use Rattle.cyc_store.specs.Slots.{IsLaidOut}
use Rattle.cyc_store.specs.Table.{IsWhole, IsSame, Draws, free_row, row_at}
use Rattle.cyc_store.specs.inside.Kept.{handle_of_page, lexical_handles, IsTied, IsKept, table_of, no_slots}
use Rattle.cyc_store.specs.declared.row.PageTable.{PageTable}
use Rattle.cyc_store.specs.declared.row.Row.{Row}
use Rattle.cyc_store.specs.declared.row.TheConstants.{NONE}
use Rattle.cyc_store.specs.declared.row.ClassSlots.{ClassSlots}
use Rattle.cyc_store.specs.declared.range.TheConstants.{PAGE_WORDS, UNIQUE, MOST_PAGES}
use Rattle.cyc_store.proofs.LookupLemmas.{when_other, lookup-there}
use Rattle.cyc_store.proofs.LiveWords.{odd-apart}
use Rattle.cyc_store.specs.Services.{OpenLexical, OpenDynamic, Opened, OpenedLexical, Serves}
use Rattle.cyc_store.proofs.Responses.{serves-lexical, sound-lexical, serves-dynamic, sound-dynamic}
use Rattle.cyc_store.proofs.RegionServices.{opened-laid}
use Rattle.cyc_store.proofs.TieLemmas.{all-fresh, none-free, taken-again, taken-new, IsDrawn, drawn-tied}
use Rattle.cyc_store.proofs.TieOpening.{first_row, with_row, lexicals_with, fresh-handle, opened-tied}
use Rattle.cyc_store.proofs.PagedStart.{are-many}

-- ---- the content of a store

-- If two lists of words have equal elements, then they represent equal memory contents.
pub memory-same : (words also : List ℕ) → ((i : ℕ) → slice_index also i ≡ slice_index words i) → memory_of also ≡ memory_of words
memory-same words also same = fun_ext (λ address. ap (λ n. if (address % 4 == 0) && nat_le 536870912 address then n else 0) (same ((address - 536870912) / 4)))

pub held-same : (most : ℕ) (words : List ℕ) (m : ℕ) (also : List ℕ) (b : Blocks) → m ≡ most → ((i : ℕ) → slice_index also i ≡ slice_index words i) → store_of m also b ≡ store_of most words b
held-same most words m also b count same =
    ap (λ n. store_of n also b) count ∙ ap (λ f. record { pages = most; regions = b.regions; unique = b.unique; classes = b.classes; memory = f }) (memory-same words also same)

-- ---- writing a row

-- Says that the table `new` is the table `old` with the row of one page replaced.
pub record Rewrites (old new : PageTable) (page : ℕ) (r : Row) : Type 0 where
  pub most : new.most ≡ old.most
  pub words : new.words.items ≡ old.words.items
  pub live : new.live.items ≡ old.live.items
  pub free : new.free ≡ old.free
  pub rows : new.rows.items ≡ set old.rows.items page r

pub rewritten-row : (rows : List Row) (page : ℕ) (r : Row) → page < length rows
    → ◌≡◌ {A = ℕ → Row} (λ p. row_at (set rows page r) p) (λ p. if p == page then r else row_at rows p)
rewritten-row rows page r there = fun_ext (λ p. elim (cases_eq p page) [
  | inl here ↦
      ap (row_at (set rows page r)) here
      ∙ (get_or-set_same rows page r (free_row NONE) there ∙ sym (when_equal p page r (row_at rows p) here))
  | inr other ↦ get_or-set_other rows page p r (free_row NONE) other ∙ sym (when_other p page r (row_at rows p) other)
])

pub rewritten-table : (old new : PageTable) (page : ℕ) (r : Row) → page < length old.rows.items → Rewrites old new page r → table_of new ≡ with_row (table_of old) page r
rewritten-table old new page r there is =
    ap (λ n. record (table_of new) { most = n }) is.most
    ∙ (ap (λ n. record (table_of new) { most = old.most; free = n }) is.free
    ∙ (ap (λ ws. record (table_of new) { most = old.most; free = old.free; word = λ (i : ℕ). slice_index ws i }) is.words
    ∙ (ap (λ ms. record (table_of new) { most = old.most; free = old.free; word = (table_of old).word; live = λ (i : ℕ). slice_index_or ms i false }) is.live
    ∙ (ap (λ rs. record (table_of old) { count = length rs; row = λ (p : ℕ). row_at rs p }) is.rows
    ∙ (ap (λ n. record (table_of old) { count = n; row = λ (p : ℕ). row_at (set old.rows.items page r) p }) (length-set old.rows.items page r)
    ∙ ap (λ f. record (table_of old) { row = f }) (rewritten-row old.rows.items page r there))))))

pub rewritten-whole : (old new : PageTable) (page : ℕ) (r : Row) → Rewrites old new page r → IsWhole old → IsWhole new
rewritten-whole old new page r is whole = record {
  words = ap length is.words ∙ (whole.words ∙ ap (λ n. PAGE_WORDS * n) many);
  live = ap length is.live ∙ (whole.live ∙ ap (λ n. PAGE_WORDS * n) many);
}
  where
    many : length old.rows.items ≡ length new.rows.items
    many = sym (ap length is.rows ∙ length-set old.rows.items page r)

-- ---- the lexical regions

pub lexical-length : (rs : List Home) → length (lexical_handles rs) ≡ lexical_count rs
lexical-length [] = refl
lexical-length (r ∷ rs) = either (is_lexical r.sort) r.handle (lexical_handles rs) (lexical_count rs) (lexical-length rs)
  where
    either : (l : Bool) (h : ℕ) (hs : List ℕ) (n : ℕ) → length hs ≡ n → length (if l then h ∷ hs else hs) ≡ (if l then suc n else n)
    either true h hs n e = ap suc e
    either false h hs n e = e

pub lexical-few : (rs : List Home) → lexical_count rs ≤ length rs
lexical-few [] = omega arith
lexical-few (r ∷ rs) = either (is_lexical r.sort) (lexical_count rs) (length rs) (lexical-few rs)
  where
    either : (l : Bool) (n m : ℕ) → n ≤ m → (if l then suc n else n) ≤ suc m
    either true n m e = omega (arith, e)
    either false n m e = omega (arith, e)

pub pages-some : (pages filled : ℕ) (sizes : List ℕ) → pages ≤ pages_from pages filled sizes
pages-some pages filled [] = omega arith
pages-some pages filled (size ∷ sizes) = cond_both (nat_le (filled + size) page_words) (pages_from pages (filled + size) sizes) (pages_from (suc pages) size sizes) (λ n. pages ≤ n)
    (λ e. pages-some pages (filled + size) sizes)
    (λ e. let more : suc pages ≤ pages_from (suc pages) size sizes = pages-some (suc pages) size sizes in omega (arith, more))

pub regions-few : (rs : List Home) (classes : List ℕ) → length rs ≤ demand_of (sizes_in rs) classes
regions-few [] classes = least (demand_of (sizes_in []) classes)
  where
    least : (n : ℕ) → 0 ≤ n
    least n = omega arith
regions-few (r ∷ rs) classes =
    let one : 1 ≤ region_pages (sizes_of r.blocks) = pages-some 1 0 (sizes_of r.blocks) in
    let rest : length rs ≤ demand_of (sizes_in rs) classes = regions-few rs classes in
    omega (arith, one, rest)

-- ---- an unchanged table

same-table : (t u : PageTable) → IsSame t u → table_of u ≡ table_of t
same-table t u same =
    ap (λ n. record (table_of u) { most = n }) same.most
    ∙ (ap (λ n. record (table_of u) { most = t.most; free = n }) same.free
    ∙ (ap (λ ws. record (table_of u) { most = t.most; free = t.free; word = λ (i : ℕ). slice_index ws i }) same.words
    ∙ (ap (λ ms. record (table_of u) { most = t.most; free = t.free; word = (table_of t).word; live = λ (i : ℕ). slice_index_or ms i false }) same.live
    ∙ ap (λ rs. record (table_of t) { count = length rs; row = λ (p : ℕ). row_at rs p }) same.rows)))

pub held-unchanged : (t u : PageTable) (b : Blocks) → IsSame t u → store_of u.most u.words.items b ≡ store_of t.most t.words.items b
held-unchanged t u b same = ap (λ n. store_of n u.words.items b) same.most ∙ ap (λ ws. store_of t.most ws b) same.words

pub kept-unchanged : (t u : PageTable) (lexicals : List ℕ) (classes : List ClassSlots) (b : Blocks) → IsSame t u → IsKept t lexicals classes b → IsKept u lexicals classes b
kept-unchanged t u lexicals classes b same k = record {
  whole = record {
    words = ap length same.words ∙ (k.whole.words ∙ ap (λ rs. PAGE_WORDS * length rs) (sym same.rows));
    live = ap length same.live ∙ (k.whole.live ∙ ap (λ rs. PAGE_WORDS * length rs) (sym same.rows));
  };
  eleven = k.eleven;
  layout = k.layout;
  laid = subst (λ held. IsLaidOut held k.layout) (sym (held-unchanged t u b same)) k.laid;
  tied = subst (λ table. IsTied table lexicals (λ (class : ℕ). slice_index_or classes class no_slots) b k.layout) (sym (same-table t u same)) k.tied;
}

-- ---- taking a page

module _ (t : PageTable) (lexicals : List ℕ) (classes : List ClassSlots) (b : Blocks) (k : IsKept t lexicals classes b) where
  abbrev slots : ℕ → ClassSlots
  slots = λ (class : ℕ). slice_index_or classes class no_slots

  abbrev s : StoreState
  s = store_of t.most t.words.items b

  -- If a table of pages is out of pages, then its layout has no free page.
  pub kept-full : length t.rows.items ≤ t.free → t.most ≤ length t.rows.items → k.layout.free ≡ []
  kept-full past most = none-free (table_of t) lexicals slots b k.layout k.tied past most

  -- If a table of pages is not out of pages, then its layout has a free page.
  pub kept-some : ((length t.rows.items ≤ t.free) × (t.most ≤ length t.rows.items) → ⊥) → (page : ℕ) × (rest : List ℕ) × (k.layout.free ≡ page ∷ rest)
  kept-some room = by (cases_lt t.free (length t.rows.items))
    where
      by : (t.free < length t.rows.items) ⊎ (length t.rows.items ≤ t.free) → (page : ℕ) × (rest : List ℕ) × (k.layout.free ≡ page ∷ rest)
      by (inl below) = let took = taken-again (table_of t) lexicals slots b k.layout k.tied below in (t.free, took.rest, took.first)
      by (inr past) = let took = taken-new (table_of t) lexicals slots b k.layout k.tied past (less (length t.rows.items) t.most (λ e. room (past, e))) in
          (length t.rows.items, took.rest, took.first)
        where
          less : (n m : ℕ) → (m ≤ n → ⊥) → n < m
          less n m not = elim (cases_lt n m) [ inl is ↦ is | inr over ↦ absurd (not over) ]

  -- If no page of the table is free, then the table has exactly the words of the pages that the store's regions and blocks need.
  pub kept-used : length t.rows.items ≤ t.free → length t.words.items ≡ PAGE_WORDS * demand s
  kept-used past = k.whole.words ∙ ap (λ n. PAGE_WORDS * n) (counted (length t.rows.items) t.most (length k.layout.free) (demand s) k.tied.few fresh k.laid.paged.count)
    where
      fresh : length k.layout.free ≡ t.most - length t.rows.items
      fresh = ap length (all-fresh (table_of t) lexicals slots b k.layout k.tied past) ∙ are-many (length t.rows.items) (t.most - length t.rows.items)

      counted : (n m l d : ℕ) → n ≤ m → l ≡ m - n → l + d ≡ m → n ≡ d
      counted n m l d few fresh count = omega (arith, few, fresh, count)

  pub kept-lexicals : length lexicals ≡ lexical_count b.regions
  kept-lexicals = ap length k.tied.newest ∙ lexical-length b.regions

  -- Each region has a page, so there are at most as many lexical regions as pages.
  pub kept-lexicals_few : length lexicals ≤ MOST_PAGES
  kept-lexicals_few = within (length lexicals) (lexical_count b.regions) (length b.regions) (demand s) t.most kept-lexicals (lexical-few b.regions) (regions-few b.regions b.classes) k.laid.sound.demand k.tied.most
    where
      within : (n c r d m : ℕ) → n ≡ c → c ≤ r → r ≤ d → d ≤ m → m ≤ 65536 → n ≤ 65536
      within n c r d m first second third fourth fifth = omega (arith, first, second, third, fourth, fifth)

  module _ (u : PageTable) (page : ℕ) (draws : Draws t u page) (room : (length t.rows.items ≤ t.free) × (t.most ≤ length t.rows.items) → ⊥) where
    pub kept-drawn : IsDrawn t u lexicals slots b k.layout page
    kept-drawn = drawn-tied t u lexicals slots b k.layout page draws k.tied room

    pub drawn-held : store_of u.most u.words.items b ≡ s
    drawn-held = held-same t.most t.words.items u.most u.words.items b draws.most draws.words

    paged : IsPaged s k.layout.pages (page ∷ kept-drawn.rest)
    paged = subst (IsPaged s k.layout.pages) kept-drawn.first k.laid.paged

    pub drawn-none : k.layout.pages.owner page ≡ None
    drawn-none = paged.unowned.0.owner

    pub drawn-away : AllByRecursion (λ x. page ≢ x) kept-drawn.rest
    drawn-away = paged.apart.0

    pub drawn-small : page < MOST_PAGES
    drawn-small = within page (length u.rows.items) u.most t.most kept-drawn.there kept-drawn.tied.few draws.most k.tied.most
      where
        within : (p n m o : ℕ) → p < n → n ≤ m → m ≡ o → o ≤ 65536 → p < 65536
        within p n m o less few same most = omega (arith, less, few, same, most)

    pub drawn-fresh : lookup handle_of (homes s) (handle_of_page page) ≡ None
    drawn-fresh =
        lookup-there handle_of (record { handle = UNIQUE; sort = Uniques; blocks = b.unique }) b.regions (handle_of_page page) (λ e. odd-apart page (sym e))
        ∙ fresh-handle (table_of u) lexicals slots b (record k.layout { free = kept-drawn.rest }) kept-drawn.tied page drawn-none drawn-away kept-drawn.there

    pub drawn-word : handle_of_page page < 2 ^ 32
    drawn-word = within page drawn-small
      where
        within : (p : ℕ) → p < 65536 → 2 * p + 1 < 4294967296
        within p less = omega (arith, less)

    -- Writing a further row of the page table, after a page was taken, does not change the store that the table represents.
    drawn-also : (v : PageTable) (r : Row) (other : Blocks) → Rewrites u v page r → store_of v.most v.words.items other ≡ store_of t.most t.words.items other
    drawn-also v r other is = held-same t.most t.words.items v.most v.words.items other (is.most ∙ draws.most)
        (λ i. ap (λ ws. slice_index ws i) is.words ∙ draws.words i)

    -- opening a region
    pub kept-opened : (v : PageTable) (sort : Sort) → Rewrites u v page (first_row sort page) → IsSound (opened s (handle_of_page page) sort)
        → IsKept v (lexicals ++ lexicals_with sort (handle_of_page page)) classes (blocks_of (opened (plain_store b) (handle_of_page page) sort))
    kept-opened v sort is sound = record {
      whole = rewritten-whole u v page (first_row sort page) is draws.whole;
      eleven = k.eleven;
      layout = record k.layout { pages = drawn k.layout.pages page (handle_of_page page); free = kept-drawn.rest };
      laid = subst (λ held. IsLaidOut held (record k.layout { pages = drawn k.layout.pages page (handle_of_page page); free = kept-drawn.rest }))
          (sym (drawn-also v (first_row sort page) (blocks_of (opened (plain_store b) (handle_of_page page) sort)) is))
          (opened-laid s k.layout page kept-drawn.rest (handle_of_page page) sort s.memory k.laid kept-drawn.first (odd-apart page) sound);
      tied = subst
          (λ table. IsTied table (lexicals ++ lexicals_with sort (handle_of_page page)) slots (blocks_of (opened (plain_store b) (handle_of_page page) sort))
          (record k.layout { pages = drawn k.layout.pages page (handle_of_page page); free = kept-drawn.rest }))
          (sym (rewritten-table u v page (first_row sort page) kept-drawn.there is))
          (opened-tied (table_of u) lexicals slots b (record k.layout { free = kept-drawn.rest }) kept-drawn.tied page drawn-none drawn-away kept-drawn.there sort);
    }

    -- Two equal records of blocks represent equal stores.
    drawn-blocks : (c other : Blocks) → c ≡ other → store_of u.most u.words.items c ≡ store_of t.most t.words.items other
    drawn-blocks c other noted = ap (store_of u.most u.words.items) noted ∙ held-same t.most t.words.items u.most u.words.items other draws.most draws.words

    pub dynamic-kept : (c : Blocks) → c ≡ blocks_of (opened (plain_store b) (handle_of_page page) Dynamic) → (v : PageTable) → Rewrites u v page (first_row Dynamic page)
        → IsKept v lexicals classes c
    dynamic-kept c noted v is = subst (IsKept v lexicals classes) (sym noted) (subst (λ xs. IsKept v xs classes (blocks_of (opened (plain_store b) (handle_of_page page) Dynamic)))
        (append-nil lexicals)
        (kept-opened v Dynamic is (sound-dynamic s k.layout k.laid page kept-drawn.rest kept-drawn.first (handle_of_page page) drawn-fresh drawn-word)))

    pub dynamic-serves : (c : Blocks) → c ≡ blocks_of (opened (plain_store b) (handle_of_page page) Dynamic)
        → Serves s OpenDynamic (Opened (handle_of_page page)) (store_of u.most u.words.items c)
    dynamic-serves c noted = subst (Serves s OpenDynamic (Opened (handle_of_page page))) (sym (drawn-blocks c (blocks_of (opened (plain_store b) (handle_of_page page) Dynamic)) noted))
        (serves-dynamic s k.layout k.laid page kept-drawn.rest kept-drawn.first (handle_of_page page) drawn-fresh drawn-word)

    pub lexical-kept : (c : Blocks) → c ≡ blocks_of (opened (plain_store b) (handle_of_page page) Lexical) → (v : PageTable) → Rewrites u v page (first_row Lexical page)
        → (left : List ℕ) → left ≡ lexicals ++ handle_of_page page ∷ [] → IsKept v left classes c
    lexical-kept c noted v is left more = subst (IsKept v left classes) (sym noted)
        (subst (λ xs. IsKept v xs classes (blocks_of (opened (plain_store b) (handle_of_page page) Lexical))) (sym more)
        (kept-opened v Lexical is (sound-lexical s k.layout k.laid page kept-drawn.rest kept-drawn.first (handle_of_page page) drawn-fresh drawn-word)))

    pub lexical-serves : (c : Blocks) → c ≡ blocks_of (opened (plain_store b) (handle_of_page page) Lexical) → (mark : ℕ) → mark ≡ length lexicals
        → Serves s OpenLexical (OpenedLexical (handle_of_page page) mark) (store_of u.most u.words.items c)
    lexical-serves c noted mark is =
        subst (λ n. Serves s OpenLexical (OpenedLexical (handle_of_page page) n) (store_of u.most u.words.items c)) (sym (is ∙ kept-lexicals))
        (subst (Serves s OpenLexical (OpenedLexical (handle_of_page page) (lexical_count b.regions)))
        (sym (drawn-blocks c (blocks_of (opened (plain_store b) (handle_of_page page) Lexical)) noted))
        (serves-lexical s k.layout k.laid page kept-drawn.rest kept-drawn.first (handle_of_page page) drawn-fresh drawn-word))
