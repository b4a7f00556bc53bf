-- Each call keeps the invariant of a store on a page table over a pool, and its result satisfies the store relation. The proofs use a table
-- in memory that gives the same results when read as the pool's table.
use Rattle.std.proofs.Common.{◌≡◌, ℕ, zero, suc, ◌+◌, ◌*◌, ◌/◌, ◌%◌, ◌<◌, ◌≤◌, Bool, true, List, [], ◌∷◌, ◌++◌, length, length-set, set, Some, refl, sym, ap, subst, ◌∙◌, inl, inr, arith}
use Rattle.std.specs.Prelude.{Option, is_some, slice_index_or}
use Rattle.std.proofs.lemmas.List.{get_or_default}
use Rattle.cyc_store.specs.Ledger.{Blocks, store_of, plain_store, blocks_of, Stored, Unwinds}
use Rattle.cyc_store.specs.State.{lookup, without, Sort, Heap, Lexical, Dynamic, Uniques, Home, handle_of, StoreState, homes, holder, demand, lexical_count, opened}
use Rattle.cyc_store.specs.Services.{Call, OpenDynamic, Opened, OpenLexical, OpenedLexical, Done, Serves}
use Rattle.cyc_store.specs.Table.{free_row, row_at, given_rows, given_free}
use Rattle.cyc_store.specs.inside.Kept.{handle_of_page, lexical_handles, role_of_sort, role_of, sort_of}
use Rattle.cyc_store.specs.declared.row.Role.{Role}
use Rattle.cyc_store.specs.declared.row.Role.TheVariants as role
use Rattle.cyc_store.specs.declared.range.TheConstants.{STORE_BASE}
use Rattle.cyc_store.specs.declared.row.PageTable.{PageTable}
use Rattle.cyc_store.specs.declared.row.Row.{Row}
use Rattle.cyc_store.specs.declared.row.ClassSlots.{ClassSlots}
use Rattle.cyc_store.specs.declared.row.TheConstants.{NONE}
use Rattle.cyc_store.proofs.KeptServices.{Rewrites, lexical-few, regions-few, kept-lexicals, kept-full, dynamic-kept, dynamic-serves, lexical-kept, lexical-serves}
use Rattle.cyc_store.proofs.KeptClosing.{close-kept}
use Rattle.cyc_store.proofs.KeptMaking.{rooted, first-counted, root-there, root-small}
use Rattle.cyc_store.proofs.KeptWords.{kept-below, kept-marks}
use Rattle.cyc_store.proofs.TieClosing.{one-all}
use Rattle.cyc_pagestore.specs.inside.Table.{TableState, row_of, IsFull, IsRoot, Takes, Opens, Closes}
use Rattle.cyc_pagestore.specs.inside.Stored.{Reads, IsStored}
use Rattle.cyc_pagestore.specs.inside.Links.{removed, first_of}
use Rattle.cyc_pagestore.proofs.Rows.{relinked-length}
use Rattle.cyc_pagestore.proofs.Taking.{stored-few, words-count, same-size, v, u, v-kept, draws, room}

given_rows-length : (rows : List Row) (page count free : ℕ) → length (given_rows rows page count free) ≡ length rows
given_rows-length rows page zero free = refl
given_rows-length rows page (suc count) free = given_rows-length (set rows page (free_row free)) (row_at rows page).next count page ∙ length-set rows page (free_row free)

-- For every sort of region, the role of the region's first page is one of three: the heap's, a lexical region's or a dynamic region's.
sort-root : (sort : Sort) → IsRoot (role_of_sort sort)
sort-root Heap = inl refl
sort-root Lexical = inr (inl refl)
sort-root Dynamic = inr (inr refl)
sort-root Uniques = inl refl

-- The number of open lexical regions is at most the number of pages.
lexicals-few : (x : TableState) (lexicals : List ℕ) (classes : List ClassSlots) (b : Blocks) → IsStored x lexicals classes b → length lexicals ≤ x.most
lexicals-few x lexicals classes b s =
    let k = s.kept in
    within (length lexicals) (lexical_count b.regions) (length b.regions) (demand (store_of s.table.most s.table.words.items b)) s.table.most
    (kept-lexicals s.table lexicals classes b k) (lexical-few b.regions) (regions-few b.regions b.classes) k.laid.sound.demand s.reads.most
  where
    within : (n c r d m : ℕ) → n ≡ c → c ≤ r → r ≤ d → d ≤ m → m ≡ x.most → n ≤ x.most
    within n c r d m first second third fourth fifth = omega (arith, first, second, third, fourth, fifth)

module _ (x : TableState) (lexicals : List ℕ) (classes : List ClassSlots) (b : Blocks) (s : IsStored x lexicals classes b) where
  abbrev pub t : PageTable
  t = s.table

  pub stored-held : store_of t.most t.words.items b ≡ store_of x.most x.words b
  stored-held = λ j. store_of (s.reads.most j) (s.reads.words j) b

  -- The page table has a row for each page.
  pub rows-all : length t.rows.items ≡ x.most
  rows-all = ap length s.reads.rows ∙ s.whole

  -- Looking up the row of an existing page in the page table never yields the default value for missing rows.
  pub row-read : (page : ℕ) → page < x.most → row_of x page ≡ slice_index_or t.rows.items page (row_of x page)
  row-read page there =
      get_or_default x.rows page (free_row NONE) (row_of x page) (subst (λ n. page < n) (sym s.whole) there)
      ∙ ap (λ rs. slice_index_or rs page (row_of x page)) (sym s.reads.rows)

  pub stored-full : IsFull x → s.kept.layout.free ≡ []
  stored-full full = kept-full t lexicals classes b s.kept
      (subst (λ (p : (List Row) × ℕ). length p.0 ≤ p.1) (λ j. (sym s.reads.rows j, sym s.reads.free j)) full.past)
      (subst (λ (p : (List Row) × ℕ). p.1 ≤ length p.0) (λ j. (sym s.reads.rows j, sym s.reads.most j)) full.all)

  -- ---- a page is taken
  pub taken-small : (m : TableState) (page : ℕ) → Takes x m page → page < 65536
  taken-small m page takes = let there = one-all (λ q. q < length x.rows) takes.order page takes.within takes.inside in let few = stored-few x lexicals classes b s in omega (arith, there, few)

  -- ---- a region is opened
  module _ (y : TableState) (page : ℕ) (r : Role) (opens : Opens x y page r) where
    abbrev pub m : TableState
    m = opens.middle

    abbrev pub before : PageTable
    before = v x lexicals classes b s page m opens.takes

    abbrev pub taken : PageTable
    taken = u x lexicals classes b s page m opens.takes

    pub middle-rows : length m.rows ≡ length x.rows
    middle-rows = ap (λ (z : TableState). length z.rows) opens.takes.is ∙ relinked-length x.rows (page ∷ removed opens.takes.order page)

    pub rows-size : length y.rows ≡ length x.rows
    rows-size = ap (λ (z : TableState). length z.rows) opens.is ∙ length-set m.rows page (first_of r page) ∙ middle-rows

    abbrev pub after_table : (w : PageTable) × Reads w y
    after_table = same-size x lexicals classes b s y
        (ap (λ (z : TableState). length z.words) opens.is ∙ ap (λ (z : TableState). length z.words) opens.takes.is)
        (ap (λ (z : TableState). length z.live) opens.is ∙ ap (λ (z : TableState). length z.live) opens.takes.is) rows-size

    pub opened-whole : length y.rows ≡ y.most
    opened-whole = rows-size ∙ s.whole ∙ sym (ap (λ (z : TableState). z.most) opens.is ∙ ap (λ (z : TableState). z.most) opens.takes.is)

    pub opened-most : y.most ≡ x.most
    opened-most = ap (λ (z : TableState). z.most) opens.is ∙ ap (λ (z : TableState). z.most) opens.takes.is

    pub opened-rewrites : Rewrites taken after_table.0 page (first_of r page)
    opened-rewrites = record {
      most = ap (λ (z : TableState). z.most) opens.is;
      words = ap (λ (z : TableState). z.words) opens.is;
      live = ap (λ (z : TableState). z.live) opens.is;
      free = ap (λ (z : TableState). z.free) opens.is;
      rows = ap (λ (z : TableState). z.rows) opens.is;
    }

    pub opened-held : (c : Blocks) → store_of m.most m.words c ≡ store_of y.most y.words c
    opened-held c = λ j. store_of (sym opens.is j).most (sym opens.is j).words c

  module _ (y : TableState) (page : ℕ) (opens : Opens x y page role.Dynamic) (c : Blocks) (noted : c ≡ blocks_of (opened (plain_store b) (handle_of_page page) Dynamic)) where
    pub dynamic-stored : IsStored y lexicals classes c
    dynamic-stored = record {
      table = (after_table y page role.Dynamic opens).0;
      reads = (after_table y page role.Dynamic opens).1;
      whole = opened-whole y page role.Dynamic opens;
      kept = dynamic-kept (before y page role.Dynamic opens) lexicals classes b (v-kept x lexicals classes b s page opens.middle opens.takes) (taken y page role.Dynamic opens) page
          (draws x lexicals classes b s page opens.middle opens.takes) (room x lexicals classes b s page opens.middle opens.takes) c noted (after_table y page role.Dynamic opens).0 (opened-rewrites y page role.Dynamic opens);
    }

    pub dynamic-served : Serves (store_of x.most x.words b) OpenDynamic (Opened (handle_of_page page)) (store_of y.most y.words c)
    dynamic-served = subst (Serves (store_of x.most x.words b) OpenDynamic (Opened (handle_of_page page))) (opened-held y page role.Dynamic opens c)
        (dynamic-serves (before y page role.Dynamic opens) lexicals classes b (v-kept x lexicals classes b s page opens.middle opens.takes) (taken y page role.Dynamic opens) page
        (draws x lexicals classes b s page opens.middle opens.takes) (room x lexicals classes b s page opens.middle opens.takes) c noted)

  module _ (y : TableState) (page : ℕ) (opens : Opens x y page role.Lexical) (c : Blocks) (noted : c ≡ blocks_of (opened (plain_store b) (handle_of_page page) Lexical)) where
    pub lexical-stored : (left : List ℕ) → left ≡ lexicals ++ handle_of_page page ∷ [] → IsStored y left classes c
    lexical-stored left more = record {
      table = (after_table y page role.Lexical opens).0;
      reads = (after_table y page role.Lexical opens).1;
      whole = opened-whole y page role.Lexical opens;
      kept = lexical-kept (before y page role.Lexical opens) lexicals classes b (v-kept x lexicals classes b s page opens.middle opens.takes) (taken y page role.Lexical opens) page
          (draws x lexicals classes b s page opens.middle opens.takes) (room x lexicals classes b s page opens.middle opens.takes) c noted (after_table y page role.Lexical opens).0 (opened-rewrites y page role.Lexical opens) left more;
    }

    pub lexical-served : (mark : ℕ) → mark ≡ length lexicals → Serves (store_of x.most x.words b) OpenLexical (OpenedLexical (handle_of_page page) mark) (store_of y.most y.words c)
    lexical-served mark counted = subst (Serves (store_of x.most x.words b) OpenLexical (OpenedLexical (handle_of_page page) mark)) (opened-held y page role.Lexical opens c)
        (lexical-serves (before y page role.Lexical opens) lexicals classes b (v-kept x lexicals classes b s page opens.middle opens.takes) (taken y page role.Lexical opens) page
        (draws x lexicals classes b s page opens.middle opens.takes) (room x lexicals classes b s page opens.middle opens.takes) c noted mark counted)

    -- Each open lexical region has a page, so the list of lexical regions has capacity for one more.
    pub lexical-room : length lexicals < x.most
    lexical-room =
        let now = lexical-stored (lexicals ++ handle_of_page page ∷ []) refl in
        less (length lexicals) y.most (more lexicals) (lexicals-few y (lexicals ++ handle_of_page page ∷ []) classes c now) (opened-most y page role.Lexical opens)
      where
        more : (hs : List ℕ) → length (hs ++ handle_of_page page ∷ []) ≡ suc (length hs)
        more [] = refl
        more (h ∷ hs) = ap suc (more hs)

        less : (n m : ℕ) → length (lexicals ++ handle_of_page page ∷ []) ≡ suc n → length (lexicals ++ handle_of_page page ∷ []) ≤ m → m ≡ x.most → n < x.most
        less n m first second third = omega (arith, first, second, third)

  -- ---- an open region
  module _ (root : ℕ) (r : Home) (named : lookup handle_of b.regions (handle_of_page root) ≡ Some r) where
    pub root-inside : root < x.most
    root-inside = subst (λ n. root < n) rows-all (root-there t lexicals classes b s.kept root r named)

    pub root-few : root < 65536
    root-few = root-small t lexicals classes b s.kept root r named

    pub root-role : IsRoot (row_of x root).role
    root-role = subst IsRoot
        (sym (ap (λ rs. (row_at rs root).role) (sym s.reads.rows) ∙ (s.kept.tied.rows root).plays
        ∙ ap (λ (o : Option Home). role_of (sort_of o) (s.kept.layout.pages.owner root) (s.kept.layout.class root)) named))
        (sort-root r.sort)

    pub root-read : row_of x root ≡ slice_index_or t.rows.items root (row_of x root)
    root-read = row-read root root-inside

  -- ---- a region is closed
  module _ (y : TableState) (root : ℕ) (closes : Closes x y root) (r : Home) (named : lookup handle_of b.regions (handle_of_page root) ≡ Some r) where
    read : row_of x root ≡ slice_index_or t.rows.items root (row_of x root)
    read = root-read root r named

    counted : (row_of x root).count ≡ suc (length (rooted t lexicals classes b s.kept root r named).chain.older)
    counted = first-counted t lexicals classes b s.kept root r named (row_of x root) read

    pub closes-most : y.most ≡ x.most
    closes-most = ap (λ (z : TableState). z.most) closes

    pub rows-given : length y.rows ≡ length x.rows
    rows-given = ap (λ (z : TableState). length z.rows) closes ∙ given_rows-length x.rows (row_of x root).newest (row_of x root).count x.free

    pub closed-stored : (c : Blocks) → c ≡ record b { regions = without handle_of b.regions (handle_of_page root) } → (left : List ℕ) → left ≡ lexical_handles (without handle_of b.regions (handle_of_page root))
        → IsStored y left classes c
    closed-stored c noted left lexical =
        let w = same-size x lexicals classes b s y (ap (λ (z : TableState). length z.words) closes) (ap (λ (z : TableState). length z.live) closes) rows-given in
        record {
          table = w.0;
          reads = w.1;
          whole = rows-given ∙ s.whole ∙ sym closes-most;
          kept = close-kept t lexicals classes b s.kept root r named (row_of x root) read counted c noted left lexical w.0
              (closes-most ∙ sym s.reads.most) (ap (λ (z : TableState). z.words) closes ∙ sym s.reads.words) (ap (λ (z : TableState). z.live) closes ∙ sym s.reads.live)
              (ap (λ (z : TableState). z.rows) closes ∙ (λ j. given_rows (sym s.reads.rows j) (row_of x root).newest (row_of x root).count (sym s.reads.free j)))
              (ap (λ (z : TableState). z.free) closes ∙ (λ j. given_free (sym s.reads.rows j) (row_of x root).newest (row_of x root).count (sym s.reads.free j)));
        }

    closed-most : t.most ≡ y.most
    closed-most = s.reads.most ∙ sym closes-most

    closed-words : t.words.items ≡ y.words
    closed-words = s.reads.words ∙ sym (ap (λ (z : TableState). z.words) closes)

    pub closed-served : (call : Call) (c : Blocks) → Serves (store_of t.most t.words.items b) call Done (store_of t.most t.words.items c) → Serves (store_of x.most x.words b) call Done (store_of y.most y.words c)
    closed-served call c served = subst (λ (u : StoreState × StoreState). Serves u.0 call Done u.1)
        (λ j. (store_of (s.reads.most j) (s.reads.words j) b, store_of (closed-most j) (closed-words j) c)) served

    pub closed-unwinds : (c : Blocks) → Unwinds (record { pages = t.most; words = t.words.items; blocks = b; room = t.most }) (record { pages = t.most; words = t.words.items; blocks = c; room = t.most })
        → Unwinds (record { pages = x.most; words = x.words; blocks = b; room = x.most }) (record { pages = y.most; words = y.words; blocks = c; room = y.most })
    closed-unwinds c unwinds = subst (λ (u : Stored × Stored). Unwinds u.0 u.1)
        (λ j. (record { pages = s.reads.most j; words = s.reads.words j; blocks = b; room = s.reads.most j }, record { pages = closed-most j; words = closed-words j; blocks = c; room = closed-most j })) unwinds

  -- ---- a word is read
  module _ (word : ℕ) (inside : word < length x.words) where
    in_table : word < length t.words.items
    in_table = subst (λ ws. word < length ws) (sym s.reads.words) inside

    pub page-there : word / 1024 < x.most
    page-there = let count = words-count x lexicals classes b s in let whole = s.whole in omega (arith, inside, count, whole)

    abbrev pub IsAnswer : Bool → Type 0
    IsAnswer answer = answer ≡ is_some (holder (homes (store_of x.most x.words b)) (STORE_BASE + 4 * word))

    abbrev pub r : Row
    r = row_of x (word / 1024)

    pub live-below : word % 1024 < r.filled → IsAnswer true
    live-below below = subst (λ held. true ≡ is_some (holder (homes held) (STORE_BASE + 4 * word))) stored-held
        (kept-below t lexicals classes b s.kept word in_table r (row-read (word / 1024) page-there) below)

    pub live-marked : (answer : Bool) → r.filled ≤ word % 1024 → answer ≡ slice_index_or x.live word answer → IsAnswer answer
    live-marked answer past reads = subst (λ held. answer ≡ is_some (holder (homes held) (STORE_BASE + 4 * word))) stored-held
        (kept-marks t lexicals classes b s.kept word in_table r (row-read (word / 1024) page-there) answer past (reads ∙ ap (λ ms. slice_index_or ms word answer) (sym s.reads.live)))
