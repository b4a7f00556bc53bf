-- For each state of a pool, some page table in memory gives the same results when read. If a free page is taken, some such table in
-- memory has the taken page as its first free page.
use Rattle.std.proofs.Common.{◌≡◌, ℕ, suc, ◌+◌, ◌-◌, ◌*◌, ◌^◌, ◌<◌, ◌≤◌, false, List, [], ◌∷◌, ◌++◌, length, refl, sym, ap, subst, ◌∙◌, inl, inr, arith}
use Rattle.std.specs.Prelude.{Some, slice_index, slice_index_or}
use Rattle.std.specs.Global.{Vec}
use Rattle.std.specs.List.{AllByRecursion}
use Rattle.std.proofs.lemmas.Bool.{cases_eq}
use Rattle.std.proofs.lemmas.List.{append-nil}
use Rattle.cyc_words.specs.Distinct.{IsDistinct}
use Rattle.cyc_words.proofs.Numbers.{when_equal}
use Rattle.cyc_words.proofs.Options.{never_none_and_some}
use Rattle.cyc_store.specs.Ledger.{Blocks, store_of}
use Rattle.cyc_store.specs.Pages.{IsFree}
use Rattle.cyc_store.specs.Slots.{Layout, IsLaidOut}
use Rattle.cyc_store.specs.State.{Home, demand}
use Rattle.cyc_store.specs.Table.{Draws, row_at}
use Rattle.cyc_store.specs.inside.Kept.{Table, IsChain, IsOneOf, numbers_from, IsRooted, IsTied, IsKept, table_of, no_slots}
use Rattle.cyc_store.specs.declared.row.PageTable.{PageTable}
use Rattle.cyc_store.specs.declared.row.Row.{Row}
use Rattle.cyc_store.specs.declared.row.TheConstants.{NONE}
use Rattle.cyc_store.specs.declared.row.ClassSlots.{ClassSlots}
use Rattle.cyc_store.specs.declared.range.TheConstants.{PAGE_WORDS}
use Rattle.cyc_store.proofs.TieLemmas.{chain-also}
use Rattle.cyc_store.proofs.LookupLemmas.{when_other}
use Rattle.cyc_store.proofs.TieClosing.{one-all, all-from}
use Rattle.cyc_pagestore.specs.inside.Links.{head_or_none, relinked, removed}
use Rattle.cyc_pagestore.specs.inside.Table.{TableState, Takes}
use Rattle.cyc_pagestore.specs.inside.Stored.{Reads, IsStored}
use Rattle.cyc_pagestore.proofs.Rows.{removed-out, fronted-apart, relinked-length, relinked-other, relinked-row, relinked-chain}

-- ---- a table in memory whose reads equal those of the pool

-- Returns a `Vec` like a given one, but with other elements.
abbrev pub with_items : {X Y : Type 0} → Vec X → (items : List Y) → length items < 2 ^ 63 → Vec Y
with_items v items small = record { ptr = v.ptr; len = length items; cap = length items; alloc = v.alloc; items = items; ok = (refl, le (length items)); small = small }
  where
    le : (n : ℕ) → n ≤ n
    le n = omega arith

abbrev pub made : (t : PageTable) (y : TableState) → length y.words < 2 ^ 63 → length y.live < 2 ^ 63 → length y.rows < 2 ^ 63 → (v : PageTable) × Reads v y
made t y words live rows = (
  record { most = y.most; words = with_items t.words y.words words; live = with_items t.live y.live live; rows = with_items t.rows y.rows rows; free = y.free },
  record { most = refl; words = refl; live = refl; rows = refl; free = refl },
)

-- ---- chains

-- If two lists are chains of the same links from one first page, then the lists are equal.
pub chain-one : (next : ℕ → ℕ) (first : ℕ) (xs ys : List ℕ) → AllByRecursion (λ x. x < NONE) xs → AllByRecursion (λ y. y < NONE) ys → IsChain next first xs → IsChain next first ys → xs ≡ ys
chain-one next first [] [] few also a b = refl
chain-one next first [] (y ∷ ys) few also a b = absurd (let lt = also.0 in let e = sym b.0 ∙ a in omega (arith, lt, e))
chain-one next first (x ∷ xs) [] few also a b = absurd (let lt = few.0 in let e = sym a.0 ∙ b in omega (arith, lt, e))
chain-one next first (x ∷ xs) (y ∷ ys) few also a b =
    let same : x ≡ y = sym a.0 ∙ b.0 in
    (λ j. same j ∷ chain-one next (next x) xs ys few.1 also.1 a.1 (subst (λ n. IsChain next (next n) ys) (sym same) b.1) j)

stays-whole : (p : ℕ) (ys : List ℕ) → ((q : ℕ) → IsOneOf ys q → q ≡ p → ⊥) → removed ys p ≡ ys
stays-whole p [] never = refl
stays-whole p (y ∷ ys) never = when_other y p (removed ys p) (y ∷ removed ys p) (never y (inl refl)) ∙ ap (λ zs. y ∷ zs) (stays-whole p ys (λ q which. never q (inr which)))

pub removed-length : (xs : List ℕ) (p : ℕ) → IsDistinct xs → IsOneOf xs p → suc (length (removed xs p)) ≡ length xs
removed-length [] p apart inside = absurd inside
removed-length (x ∷ xs) p apart inside = elim (cases_eq x p) [
  | inl same ↦ ap (λ ys. suc (length ys)) (when_equal x p (removed xs p) (x ∷ removed xs p) same
      ∙ stays-whole p xs (λ q which e. one-all (λ y. x ≡ y → ⊥) xs q apart.0 which (same ∙ sym e)))
  | inr other ↦ ap (λ ys. suc (length ys)) (when_other x p (removed xs p) (x ∷ removed xs p) other) ∙ ap suc (removed-length xs p apart.1 (elim inside [
    | inl first ↦ absurd (other (sym first))
    | inr more ↦ more
  ]))
]

-- ---- sizes

module _ (x : TableState) (lexicals : List ℕ) (classes : List ClassSlots) (b : Blocks) (s : IsStored x lexicals classes b) where
  pub stored-few : length x.rows ≤ 65536
  stored-few = let few = s.kept.tied.most in let most = s.reads.most in let whole = s.whole in omega (arith, few, most, whole)

  pub words-count : length x.words ≡ 1024 * length x.rows
  words-count = ap length (sym s.reads.words) ∙ s.kept.whole.words ∙ ap (λ rs. PAGE_WORDS * length rs) s.reads.rows

  pub live-count : length x.live ≡ 1024 * length x.rows
  live-count = ap length (sym s.reads.live) ∙ s.kept.whole.live ∙ ap (λ rs. PAGE_WORDS * length rs) s.reads.rows

  -- If a table state has as many words, marks of live words and rows as another, then some page table in memory is read as this state.
  abbrev pub same-size : (y : TableState) → length y.words ≡ length x.words → length y.live ≡ length x.live → length y.rows ≡ length x.rows → (v : PageTable) × Reads v y
  same-size y words live rows =
      made s.table y
      (let few = stored-few in let count = words-count in omega (arith, few, count, words))
      (let few = stored-few in let count = live-count in omega (arith, few, count, live))
      (let few = stored-few in omega (arith, few, rows))

-- ---- the free pages are relinked

module _ (x : TableState) (lexicals : List ℕ) (classes : List ClassSlots) (b : Blocks) (s : IsStored x lexicals classes b) (page : ℕ) (m : TableState) (takes : Takes x m page) where
  abbrev pub t : PageTable
  t = s.table

  abbrev pub l : Layout
  l = s.kept.layout

  abbrev pub slots : ℕ → ClassSlots
  slots = λ (class : ℕ). slice_index_or classes class no_slots

  abbrev pub front : List ℕ
  front = page ∷ removed takes.order page

  abbrev pub also : TableState
  also = record x { rows = relinked x.rows front; free = page }

  count-is : length t.rows.items ≡ t.most
  count-is = ap length s.reads.rows ∙ s.whole ∙ sym s.reads.most

  rows-few : length x.rows ≤ 65536
  rows-few = stored-few x lexicals classes b s

  order-below : AllByRecursion (λ p. p < NONE) takes.order
  order-below = all-from (λ p. p < NONE) takes.order (λ p which. let lt = one-all (λ q. q < length x.rows) takes.order p takes.within which in let few = rows-few in omega (arith, lt, few))

  given-below : AllByRecursion (λ p. p < NONE) s.kept.tied.given
  given-below = all-from (λ p. p < NONE) s.kept.tied.given
      (λ p which. let lt = one-all (λ q. q < length t.rows.items) s.kept.tied.given p s.kept.tied.within which in let few = rows-few in let rows = ap length s.reads.rows in omega (arith, lt, few, rows))

  given-is : s.kept.tied.given ≡ takes.order
  given-is = chain-one (λ (p : ℕ). (row_at t.rows.items p).next) t.free s.kept.tied.given takes.order given-below order-below s.kept.tied.linked
      (subst (λ (u : (List Row) × ℕ). IsChain (λ (p : ℕ). (row_at u.0 p).next) u.1 takes.order) (λ j. (sym s.reads.rows j, sym s.reads.free j)) takes.linked)

  none-left : (n m : ℕ) → n ≡ m → numbers_from n (m - n) ≡ []
  none-left n m same = ap (numbers_from n) (zero-of n m same)
    where
      zero-of : (n m : ℕ) → n ≡ m → m - n ≡ 0
      zero-of n m same = omega (arith, same)

  free-is : l.free ≡ takes.order
  free-is = s.kept.tied.free ∙ ap (λ xs. s.kept.tied.given ++ xs) (none-left (length t.rows.items) t.most count-is) ∙ append-nil s.kept.tied.given ∙ given-is

  abbrev pub layout : Layout
  layout = record l { free = front }

  unowned : AllByRecursion (IsFree t.most l.pages) takes.order
  unowned = subst (AllByRecursion (IsFree t.most l.pages)) free-is s.kept.laid.paged.unowned

  pub page-unowned : IsFree t.most l.pages page
  page-unowned = one-all (IsFree t.most l.pages) takes.order page unowned takes.inside

  laid : IsLaidOut (store_of t.most t.words.items b) layout
  laid = record {
    sound = s.kept.laid.sound;
    paged = record {
      laid = s.kept.laid.paged.laid;
      filled = s.kept.laid.paged.filled;
      below = s.kept.laid.paged.below;
      unowned = (page-unowned, all-from (IsFree t.most l.pages) (removed takes.order page) (λ p which. one-all (IsFree t.most l.pages) takes.order p unowned (removed-out takes.order page p which).0));
      apart = fronted-apart takes.order page takes.apart;
      count = ap (λ n. n + demand (store_of t.most t.words.items b)) (removed-length takes.order page takes.apart takes.inside ∙ ap length (sym free-is)) ∙ s.kept.laid.paged.count;
      chains = s.kept.laid.paged.chains;
    };
    covered = s.kept.laid.covered;
    slots = record {
      bound = s.kept.laid.slots.bound;
      whole = s.kept.laid.slots.whole;
      live = s.kept.laid.slots.live;
      dead = s.kept.laid.slots.dead;
      apart = s.kept.laid.slots.apart;
      count = s.kept.laid.slots.count;
    };
  }

  pub front-within : AllByRecursion (λ p. p < length x.rows) front
  front-within = (
    one-all (λ q. q < length x.rows) takes.order page takes.within takes.inside,
    all-from (λ p. p < length x.rows) (removed takes.order page) (λ p which. one-all (λ q. q < length x.rows) takes.order p takes.within (removed-out takes.order page p which).0),
  )

  front-order : (p : ℕ) → IsOneOf front p → IsOneOf takes.order p
  front-order p which = elim which [
    | inl same ↦ subst (IsOneOf takes.order) (sym same) takes.inside
    | inr later ↦ (removed-out takes.order page p later).0
  ]

  row-now : (p : ℕ) → (link : ℕ) × (row_at (relinked x.rows front) p ≡ record (row_at t.rows.items p) { next = link })
  row-now p = let r = relinked-row x.rows front p front-within in (r.0, r.1 ∙ ap (λ rs. record (row_at rs p) { next = r.0 }) (sym s.reads.rows))

  row-owned : (p h : ℕ) → l.pages.owner p ≡ Some h → row_at (relinked x.rows front) p ≡ row_at t.rows.items p
  row-owned p h owned =
      relinked-other x.rows front p (λ which. never_none_and_some (one-all (IsFree t.most l.pages) takes.order p unowned (front-order p which)).owner owned) ∙ ap (λ rs. row_at rs p) (sym s.reads.rows)

  rooted : (r : Home) → IsRooted (table_of t).row l.pages r → IsRooted (λ (p : ℕ). row_at (relinked x.rows front) p) l.pages r
  rooted r old = record {
    root = old.root;
    handle = old.handle;
    owned = old.owned;
    chain = old.chain;
    newest = ap (λ (q : Row). q.newest) (row-owned old.root r.handle old.owned) ∙ old.newest;
    count = ap (λ (q : Row). q.count) (row-owned old.root r.handle old.owned) ∙ old.count;
    linked = chain-also (λ p. (row_at t.rows.items p).next) (λ p. (row_at (relinked x.rows front) p).next) old.chain.newest.page (old.chain.newest.page ∷ old.chain.older)
        (same-next (old.chain.newest.page ∷ old.chain.older) (old.chain.newest.owned, old.chain.owned)) old.linked;
    complete = old.complete;
  }
    where
      same-next : (xs : List ℕ) → AllByRecursion (λ (p : ℕ). l.pages.owner p ≡ Some r.handle) xs → AllByRecursion (λ p. (row_at (relinked x.rows front) p).next ≡ (row_at t.rows.items p).next) xs
      same-next [] all = tt
      same-next (p ∷ ps) all = (ap (λ (q : Row). q.next) (row-owned p r.handle all.0), same-next ps all.1)

  tied : IsTied (record (table_of t) { free = page; row = λ (p : ℕ). row_at (relinked x.rows front) p }) lexicals slots b layout
  tied = record {
    most = s.kept.tied.most;
    few = s.kept.tied.few;
    drawn = s.kept.tied.drawn;
    rows = λ p. record {
      marks = ap (λ (q : Row). q.filled) (row-now p).1 ∙ (s.kept.tied.rows p).marks;
      plays = ap (λ (q : Row). q.role) (row-now p).1 ∙ (s.kept.tied.rows p).plays;
    };
    given = front;
    free = sym (ap (λ xs. front ++ xs) (none-left (length t.rows.items) t.most count-is) ∙ append-nil front);
    linked = relinked-chain x.rows front front-within (fronted-apart takes.order page takes.apart);
    within = all-from (λ p. p < length t.rows.items) front (λ p which. subst (λ n. p < n) (sym (ap length s.reads.rows)) (one-all (λ q. q < length x.rows) front p front-within which));
    homes = s.kept.tied.homes;
    roots = λ h r found. rooted r (s.kept.tied.roots h r found);
    newest = s.kept.tied.newest;
    stock = s.kept.tied.stock;
    marked = s.kept.tied.marked;
    unmarked = s.kept.tied.unmarked;
  }

  -- ---- the table with this page first
  abbrev pub first_table : (v : PageTable) × Reads v also
  first_table = same-size x lexicals classes b s also refl refl (relinked-length x.rows front)

  abbrev pub v : PageTable
  v = first_table.0

  pub v-count : length v.rows.items ≡ length t.rows.items
  v-count = relinked-length x.rows front ∙ ap length (sym s.reads.rows)

  pub v-kept : IsKept v lexicals classes b
  v-kept = record {
    whole = record {
      words = words-count x lexicals classes b s ∙ ap (λ n. PAGE_WORDS * n) (sym (relinked-length x.rows front));
      live = live-count x lexicals classes b s ∙ ap (λ n. PAGE_WORDS * n) (sym (relinked-length x.rows front));
    };
    eleven = s.kept.eleven;
    layout = layout;
    laid = subst (λ (u : ℕ × List ℕ). IsLaidOut (store_of u.0 u.1 b) layout) (λ j. (s.reads.most j, s.reads.words j)) laid;
    tied = subst (λ (table : Table). IsTied table lexicals slots b layout)
        (λ j. record {
          most = s.reads.most j;
          count = (sym v-count) j;
          free = page;
          row = λ (p : ℕ). row_at (relinked x.rows front) p;
          word = λ (i : ℕ). slice_index (s.reads.words j) i;
          live = λ (i : ℕ). slice_index_or (s.reads.live j) i false;
        })
        tied;
  }

  -- ---- the table after the page was taken
  abbrev pub taken_table : (u : PageTable) × Reads u m
  taken_table = same-size x lexicals classes b s m (ap (λ (y : TableState). length y.words) takes.is) (ap (λ (y : TableState). length y.live) takes.is) (ap (λ (y : TableState). length y.rows) takes.is ∙ relinked-length x.rows front)

  abbrev pub u : PageTable
  u = taken_table.0

  pub room : (length v.rows.items ≤ v.free) × (v.most ≤ length v.rows.items) → ⊥
  room full = let lt = front-within.0 in let past = full.0 in let count = relinked-length x.rows front in omega (arith, lt, past, count)

  pub draws : Draws v u page
  draws = record {
    most = ap (λ (y : TableState). y.most) takes.is;
    whole = record {
      words = ap (λ (y : TableState). length y.words) takes.is ∙ words-count x lexicals classes b s ∙ ap (λ n. PAGE_WORDS * n) (sym rows-count);
      live = ap (λ (y : TableState). length y.live) takes.is ∙ live-count x lexicals classes b s ∙ ap (λ n. PAGE_WORDS * n) (sym rows-count);
    };
    words = λ i. ap (λ (y : TableState). slice_index y.words i) takes.is;
    live = λ i. ap (λ (y : TableState). slice_index_or y.live i false) takes.is;
    rows = λ p. ap (λ (y : TableState). row_at y.rows p) takes.is;
    count = least (length v.rows.items) (length u.rows.items) (sym (ap (λ (y : TableState). length y.rows) takes.is));
    from = inl (
      subst (λ n. page < n) (sym (relinked-length x.rows front)) front-within.0,
      refl,
      ap (λ (y : TableState). y.free) takes.is ∙ sym first-next,
      ap (λ (y : TableState). length y.rows) takes.is,
    );
  }
    where
      rows-count : length u.rows.items ≡ length x.rows
      rows-count = ap (λ (y : TableState). length y.rows) takes.is ∙ relinked-length x.rows front

      least : (n k : ℕ) → n ≡ k → n ≤ k
      least n k same = omega (arith, same)

      head-is : (xs : List ℕ) (n : ℕ) → IsChain (λ (p : ℕ). (row_at (relinked x.rows front) p).next) n xs → n ≡ head_or_none xs
      head-is [] n linked = linked
      head-is (y ∷ ys) n linked = linked.0

      first-next : (row_at (relinked x.rows front) page).next ≡ head_or_none (removed takes.order page)
      first-next = head-is (removed takes.order page) (row_at (relinked x.rows front) page).next (relinked-chain x.rows front front-within (fronted-apart takes.order page takes.apart)).1
