-- This file is about new objects, in a region or unique: their cells contain no values yet, and they lie in the block that
-- the heap store chose. The pages that the source needs decide if the store is out of pages.
use Rattle.std.proofs.Common.{◌≡◌, ℕ, zero, suc, ◌+◌, ◌*◌, ◌^◌, ◌<◌, ◌≤◌, Bool, true, false, List, [], ◌∷◌, ◌++◌, length, set, None, Some, is_some, refl, sym, ap, subst, ◌∙◌, inl, inr, arith, length-set}
use Rattle.std.specs.Prelude.{◌≢◌, ◌⊎◌, nat_lt, if◌then◌else◌, slice_get}
use Rattle.std.proofs.lemmas.List.{length_push}
use Rattle.std.proofs.lemmas.Bool.{cases_eq, cases_Bool, cond-true, cond-false}
use Rattle.cyc_types.specs.declared.typed.Kind.{Kind}
use Rattle.cyc_words.specs.Demand.{page_words, class_of, demand_of}
use Rattle.cyc_words.proofs.Numbers.{when_equal}
use Rattle.cyc_words.proofs.Options.{never_none_and_some, same_from_some, same_from_some_some}
use Rattle.cyc_words.proofs.Items.{slice_get_front, below_from_slice_get, slice_get_last_cases, slice_get-set_same}
use Rattle.cyc_words.proofs.Lists.{slice_get_last, slice_get_below}
use Rattle.cyc_store.specs.State.{lookup, changed, Block, Home, handle_of, StoreState, homes, covers, block_at, sizes_in, with_block, made_in, made_unique, room, demand}
use Rattle.cyc_store.specs.State as stores
use Rattle.cyc_store.specs.Services.{Allocate, BadHandle, BadSize, Allocated, Choice, block_of, served, any_choice, is_full, full_at, is_size, refusal, IsPlaced, IsApart, Keeps, IsAllowed, ServesBy, Serves}
use Rattle.cyc_store.specs.Soundness.{IsSound}
use Rattle.cyc_store.specs.declared.range.TheConstants.{MOST_PAGES, UNIQUE}
use Rattle.cyc_store.proofs.LookupLemmas.{when_other, lookup-here, lookup-there}
use Rattle.cyc_store.proofs.HolderLemmas.{covers_first}
use Rattle.cyc_store.proofs.CountLemmas.{class_of-bound, class_of-holds, live_in-append_same, live_in-append_other}
use Rattle.cyc_store.proofs.SlotCounts.{class-power}
use Rattle.cyc_store.proofs.ServiceLemmas.{made-unique, made-in, served-sound}
use Rattle.cyc_store.proofs.BlockLemmas.{serves-made}
use Rattle.cyc_meaning.specs.Values.{Operand, Cell, kinds_of, block_size}
use Rattle.cyc_meaning.specs.State.{Region, Owner, InRegion, Unique, Object, World, Found, Closed, found_region, region_at, has_pages, counted}
use Rattle.cyc_meaning.specs.Objects as source
use Rattle.cyc_meaning.specs.Objects.{class_of_cells, is_live_in, live_in, raised}
use Rattle.cyc_meaning.specs.Allocation.{blanks, blanks_of}
use Rattle.cyc_meaning.specs.inside.Effects.{pages_of}
use Rattle.cyc_meaning.proofs.NestingLemmas.{region_found}
use Rattle.cyc_memory_relation.specs.inside.Tables.{Row, Placed, Tables, with_row}
use Rattle.cyc_memory_relation.specs.inside.Words.{bytes_of_kinds, InRange, Points, IsPartOf, AreBlank}
use Rattle.cyc_memory_relation.specs.inside.Related.{has_home, Regions, lies_in, Alive, Stands, Within, Related}
use Rattle.cyc_memory_relation.proofs.Places.{size-enough}
use Rattle.cyc_memory_relation.proofs.Values.{Grows-row, AreCells-blank, variable-grows}
use Rattle.cyc_memory_relation.proofs.Pointers.{same-row, first-points, whole-part}
use Rattle.cyc_memory_relation.proofs.RegionLemmas.{sort-some, entry-found, counted-same, HasHome, home-found, with_size, Regions-made, lies-from, lies-home, lies-set}
use Rattle.cyc_memory_relation.proofs.Serving.{block-made_in, block-made_unique, words-stay, Stands-served}

-- ---- sizes

-- A block that the heap store places lies in the address range of the store.
pub placed-range : (pages : ℕ) (b : Block) (ks : List Kind) → IsPlaced pages b → pages ≤ MOST_PAGES → bytes_of_kinds ks ≤ 4 * b.size → InRange b.address ks
placed-range pages b ks placed few fits = record {
  low = let low : 536870912 ≤ b.address = placed.low in omega (arith, low);
  high =
      let high : b.address + 4 * b.size ≤ 536870912 + 4 * (1024 * pages) = placed.high in
      let most : pages ≤ 65536 = few in
      omega (arith, high, most, fits);
}

room-unique : (words : ℕ) → room UNIQUE words ≡ 2 ^ class_of words
room-unique words = when_equal UNIQUE UNIQUE (2 ^ class_of words) words refl

room-in : (g words : ℕ) → g ≢ UNIQUE → room g words ≡ words
room-in g words other = when_other g UNIQUE (2 ^ class_of words) words other

-- The block of a new object is large enough for the object's cells.
pub room-fits : (g : ℕ) (cells : List Cell) → block_size cells ≤ page_words → bytes_of_kinds (kinds_of cells) ≤ 4 * room g (block_size cells)
room-fits g cells short = elim (cases_eq g UNIQUE) [
  | inl same ↦
      subst (λ h. bytes_of_kinds (kinds_of cells) ≤ 4 * room h (block_size cells)) (sym same)
      (subst (λ m. bytes_of_kinds (kinds_of cells) ≤ 4 * m) (sym (room-unique (block_size cells)))
      (both (bytes_of_kinds (kinds_of cells)) (block_size cells) (2 ^ class_of (block_size cells)) (size-enough cells) (class_of-holds (block_size cells) short)))
  | inr other ↦ subst (λ m. bytes_of_kinds (kinds_of cells) ≤ 4 * m) (sym (room-in g (block_size cells) other)) (size-enough cells)
]
  where
    both : (k m n : ℕ) → k ≤ 4 * m → m ≤ n → k ≤ 4 * n
    both k m n first second = omega (arith, first, second)

-- ---- the number of live unique objects of a class

-- Counting two objects yields the same number in either order.
pub either-order : (b c : Bool) (n : ℕ)
    → (if b then suc (if c then suc n else n) else (if c then suc n else n)) ≡ (if c then suc (if b then suc n else n) else (if b then suc n else n))
either-order true true n = refl
either-order true false n = refl
either-order false true n = refl
either-order false false n = refl

-- The number of live objects of a size class after one more object is added: one higher if the object is live and in this class.
pub live-last : (class : ℕ) (xs : List Object) (x : Object)
    → live_in class (xs ++ x ∷ []) ≡ (if is_live_in class x.owner x.cells then suc (live_in class xs) else live_in class xs)
live-last class [] x = refl
live-last class (a ∷ xs) x =
    ap (λ n. if is_live_in class a.owner a.cells then suc n else n) (live-last class xs x)
    ∙ either-order (is_live_in class a.owner a.cells) (is_live_in class x.owner x.cells) (live_in class xs)

-- ---- one more object, wherever it is allocated

module _ {t : Tables} {w : World} {s r : StoreState} (related : Related t w s) (x : Object) (a g : ℕ) (rs : List Region) (cs : List ℕ)
    (blank : AreBlank x.cells) (enough : bytes_of_kinds (kinds_of x.cells) ≤ 4 * room g (block_size x.cells))
    (lies : lies_in t.handles rs x.owner ≡ Some g)
    (before : (owner : Owner) (h : ℕ) → lies_in t.handles rs owner ≡ Some h → lies_in t.handles w.regions owner ≡ Some h)
    (after : IsSound r) (keeps : Keeps s r)
    (stays : (h f : ℕ) (b : Block) → block_at (homes s) h f ≡ Some b → block_at (homes r) h f ≡ Some b)
    (found : block_at (homes r) g a ≡ Some (record { address = a; size = room g (block_size x.cells) }))
    (apart : IsApart (homes s) (record { address = a; size = room g (block_size x.cells) })) where
  before-made : (o h : ℕ) (y : Object) → Alive (with_row t (Placed a (kinds_of x.cells))) (record w { objects = w.objects ++ x ∷ []; regions = rs; classes = cs }) o h y
      → Alive t w o h y ⊎ ((o ≡ length w.objects) × (y ≡ x))
  before-made o h y alive = elim (slice_get_last_cases w.objects x o y alive.at) [
    | inl old ↦ inl (record { at = old; lies = before y.owner h alive.lies })
    | inr new ↦ inr new
  ]

  row-new : slice_get (t.rows ++ Placed a (kinds_of x.cells) ∷ []) (length w.objects) ≡ Some (Placed a (kinds_of x.cells))
  row-new = subst (λ n. slice_get (t.rows ++ Placed a (kinds_of x.cells) ∷ []) n ≡ Some (Placed a (kinds_of x.cells))) related.rows
      (slice_get_last t.rows (Placed a (kinds_of x.cells)))

  stands-new : Stands (with_row t (Placed a (kinds_of x.cells))) (homes r) r.memory g (length w.objects) x.cells
  stands-new = record {
    address = a;
    row = row-new;
    found = found;
    enough = enough;
    holds = AreCells-blank (with_row t (Placed a (kinds_of x.cells))) x.cells r.memory a 0 blank;
  }

  -- No live object begins at the address of the new object.
  none-there : (o h : ℕ) (y : Object) (ks : List Kind) → Alive t w o h y → slice_get (t.rows ++ Placed a (kinds_of x.cells) ∷ []) o ≡ Some (Placed a ks) → ⊥
  none-there o h y ks alive row =
      let st : Stands t (homes s) s.memory h o y.cells = related.objects o h y alive in
      let same : st.address ≡ a = (same-row (slice_get_front t.rows (Placed a (kinds_of x.cells) ∷ []) o (Placed st.address (kinds_of y.cells)) st.row) row).0 in
      let old : Block = record { address = st.address; size = room h (block_size y.cells) } in
      let here : covers old st.address ≡ true = covers_first old (related.sound.regions.placed h st.address old st.found).some in
      never_none_and_some
      (apart a (covers_first (record { address = a; size = room g (block_size x.cells) }) (after.regions.placed g a (record { address = a; size = room g (block_size x.cells) }) found).some))
      (subst (λ n. stores.holder (homes s) n ≡ Some (record { handle = h; block = old })) same (related.sound.regions.apart h st.address st.address old st.found here))

  pub related-more : s.pages ≡ r.pages → length rs ≡ length w.regions → Within (length w.regions) x.owner → Regions t.handles rs r.regions → r.classes ≡ cs
      → ((class : ℕ) → stores.live_in class r.unique ≡ live_in class (w.objects ++ x ∷ []))
      → Related (with_row t (Placed a (kinds_of x.cells))) (record w { objects = w.objects ++ x ∷ []; regions = rs; classes = cs }) r
  related-more pages equal owned regions classes uniques = record {
    sound = after;
    few = subst (λ n. n ≤ MOST_PAGES) pages related.few;
    heap = related.heap;
    rows = length_push t.rows (Placed a (kinds_of x.cells)) ∙ (ap (λ n. n + 1) related.rows ∙ sym (length_push w.objects x));
    regions = regions;
    classes = classes;
    uniques = uniques;
    owned = λ o y there. elim (slice_get_last_cases w.objects x o y there) [
      | inl old ↦ subst (λ n. Within n y.owner) (sym equal) (related.owned o y old)
      | inr new ↦ subst (λ (z : Object). Within (length rs) z.owner) (sym new.1) (subst (λ n. Within n x.owner) (sym equal) owned)
    ];
    shapes = λ o f ks y there row. elim (slice_get_last_cases w.objects x o y there) [
      | inl old ↦
          let (q, at) = slice_get_below t.rows o (subst (λ n. o < n) (sym related.rows) (below_from_slice_get w.objects o y old)) in
          related.shapes o f ks y old
          (at ∙ (sym (slice_get_front t.rows (Placed a (kinds_of x.cells) ∷ []) o q at) ∙ row))
      | inr new ↦
          (same-row row (subst (λ n. slice_get (t.rows ++ Placed a (kinds_of x.cells) ∷ []) n ≡ Some (Placed a (kinds_of x.cells))) (sym new.0) row-new)).1
          ∙ ap (λ (z : Object). kinds_of z.cells) (sym new.1)
    ];
    variables = λ o n y there owner entry. elim (slice_get_last_cases w.objects x o y there) [
      | inl old ↦ variable-grows (Grows-row t (Placed a (kinds_of x.cells))) o (related.variables o n y old owner entry)
      | inr new ↦
          let (q, at, kept, other) = lies-home t.handles rs n g (ap (lies_in t.handles rs) (sym owner ∙ ap (λ (z : Object). z.owner) new.1) ∙ lies) in
          absurd (let e : None ≡ Some g = same_from_some (sym entry ∙ other) in cc)
    ];
    objects = λ o h y alive. elim (before-made o h y alive) [
      | inl old ↦
          let st : Stands t (homes s) s.memory h o y.cells = related.objects o h y old in
          Stands-served (Grows-row t (Placed a (kinds_of x.cells))) (words-stay related.sound after keeps) h o y.cells st
          (stays h st.address (record { address = st.address; size = room h (block_size y.cells) }) st.found)
      | inr new ↦
          let same : g ≡ h = same_from_some (sym lies ∙ (ap (λ (z : Object). lies_in t.handles rs z.owner) (sym new.1) ∙ alive.lies)) in
          subst (λ q. Stands (with_row t (Placed a (kinds_of x.cells))) (homes r) r.memory q o y.cells) same
          (subst (λ q. Stands (with_row t (Placed a (kinds_of x.cells))) (homes r) r.memory g q y.cells) (sym new.0)
          (subst (λ (z : Object). Stands (with_row t (Placed a (kinds_of x.cells))) (homes r) r.memory g (length w.objects) z.cells) (sym new.1) stands-new))
    ];
    alone = λ o i h f b y z ks ls first second row also. elim (before-made o h y first) [
      | inl old ↦ elim (before-made i f z second) [
        | inl older ↦ related.alone o i h f b y z ks ls old older (old-row o h b ks y old row) (old-row i f b ls z older also)
        | inr new ↦ absurd (none-there o h y ks old (subst (λ n. slice_get (t.rows ++ Placed a (kinds_of x.cells) ∷ []) o ≡ Some (Placed n ks)) (at-new i b ls new.0 also) row))
      ]
      | inr new ↦ elim (before-made i f z second) [
        | inl older ↦ absurd (none-there i f z ls older (subst (λ n. slice_get (t.rows ++ Placed a (kinds_of x.cells) ∷ []) i ≡ Some (Placed n ls)) (at-new o b ks new.0 row) also))
        | inr newer ↦ new.0 ∙ sym newer.0
      ]
    ];
  }
    where
      old-row : (o h b : ℕ) (ks : List Kind) (y : Object) → Alive t w o h y → slice_get (t.rows ++ Placed a (kinds_of x.cells) ∷ []) o ≡ Some (Placed b ks) → slice_get t.rows o ≡ Some (Placed b ks)
      old-row o h b ks y alive row =
          let st : Stands t (homes s) s.memory h o y.cells = related.objects o h y alive in
          st.row ∙ (sym (slice_get_front t.rows (Placed a (kinds_of x.cells) ∷ []) o (Placed st.address (kinds_of y.cells)) st.row) ∙ row)

      at-new : (o b : ℕ) (ks : List Kind) → o ≡ length w.objects → slice_get (t.rows ++ Placed a (kinds_of x.cells) ∷ []) o ≡ Some (Placed b ks) → b ≡ a
      at-new o b ks is row = (same-row row (subst (λ n. slice_get (t.rows ++ Placed a (kinds_of x.cells) ∷ []) n ≡ Some (Placed a (kinds_of x.cells))) (sym is) row-new)).0

serves : (s : StoreState) (g n : ℕ) (c : Choice) → refusal s (Allocate g n) ≡ None → IsAllowed s (Allocate g n) c
    → Serves s (Allocate g n) (Allocated c.address) (served s (Allocate g n) c)
serves s g n c none allowed =
    subst (λ o. ServesBy s (Allocate g n) o (Allocated c.address) (served s (Allocate g n) c)) (sym none) (c, allowed, refl, refl)

-- ---- allocation in a region

-- If the lookup of a region succeeds, then the region is open.
region-open : (w : World) (n : ℕ) (r : Region) → region_at w n ≡ Found r → slice_get w.regions n ≡ Some r → r.is_open ≡ true
region-open w n r found there = elim (cases_Bool r.is_open) [
  | inl is ↦ is
  | inr not ↦ absurd (let e : Closed ≡ Found r = sym (ap found_region there ∙ cond-false r.is_open (Found r) Closed not) ∙ found in cc)
]

-- The handle of a region differs from the handle of the unique blocks.
pub handle-other : {t : Tables} {w : World} {s : StoreState} → Related t w s → (n g : ℕ) (r : Region) → slice_get w.regions n ≡ Some r → has_home r ≡ true
    → slice_get t.handles n ≡ Some (Some g) → (g ≢ UNIQUE) × ((o : Home) × (lookup handle_of s.regions g ≡ Some o))
handle-other {t} {w} {s} related n g r there kept entry =
    let is : HasHome t.handles s.regions n r = home-found related.regions related.sound.regions.handles.1 n r there kept in
    let found : lookup handle_of s.regions g ≡ Some is.home = subst (λ h. lookup handle_of s.regions h ≡ Some is.home) (same_from_some_some is.entry entry) is.there in
    (λ e. never_none_and_some (subst (λ h. lookup handle_of s.regions h ≡ None) (sym e) related.sound.regions.handles.0) found, (is.home, found))

-- An open region that has a handle is one of the heap store's regions.
pub open-home : {t : Tables} {w : World} {s : StoreState} → Related t w s → (n g : ℕ) (r : Region) → region_at w n ≡ Found r
    → slice_get t.handles n ≡ Some (Some g) → (slice_get w.regions n ≡ Some r) × (has_home r ≡ true)
open-home {t} {w} related n g r found entry =
    let there : slice_get w.regions n ≡ Some r = region_found w n r found in
    let (h, is, same) = entry-found related.regions n r there in (
      there,
      subst (λ (b : Bool). has_pages r.sort b ≡ true) (sym (region-open w n r found there))
          (sort-some r.sort (sym same ∙ ap (λ o. is_some o) (same_from_some (sym is ∙ entry)))),
    )

module _ {t : Tables} {w : World} {s : StoreState} (related : Related t w s) (n g : ℕ) (r : Region) (cells : List Cell)
    (there : slice_get w.regions n ≡ Some r) (kept : has_home r ≡ true) (entry : slice_get t.handles n ≡ Some (Some g)) where
  other : g ≢ UNIQUE
  other = (handle-other related n g r there kept entry).0

  served-in : (c : Choice) → served s (Allocate g (block_size cells)) c ≡ record (made_in s g (block_of g (block_size cells) c)) { memory = c.memory }
  served-in c = ap (λ (z : StoreState). record z { memory = c.memory }) (made-in s g (block_of g (block_size cells) c) other)

  regions-in : (c : Choice) → Regions t.handles (set w.regions n (with_size (block_size cells) r)) (changed handle_of (with_block (block_of g (block_size cells) c)) s.regions g)
  regions-in c =
      subst (λ m. Regions t.handles (set w.regions n (with_size m r)) (changed handle_of (with_block (block_of g (block_size cells) c)) s.regions g))
      (room-in g (block_size cells) other)
      (Regions-made related.regions related.sound.regions.handles.1 n g r (block_of g (block_size cells) c) there kept entry)

  -- Allocating an object in a region preserves the relation between the source's heap state and the heap store.
  pub allocated : (c : Choice) → AreBlank cells → refusal s (Allocate g (block_size cells)) ≡ None → IsAllowed s (Allocate g (block_size cells)) c
      → Related (with_row t (Placed c.address (kinds_of cells))) (source.made_in w n r cells) (served s (Allocate g (block_size cells)) c)
  allocated c blank none allowed =
      subst (Related (with_row t (Placed c.address (kinds_of cells))) (source.made_in w n r cells)) (sym (served-in c))
      (related-more related (record { owner = InRegion n; cells = cells }) c.address g (set w.regions n (with_size (block_size cells) r)) w.classes blank
      (subst (λ m. bytes_of_kinds (kinds_of cells) ≤ 4 * m) (sym (room-in g (block_size cells) other)) (size-enough cells))
      (lies-from t.handles (set w.regions n (with_size (block_size cells) r)) n g (with_size (block_size cells) r) (slice_get-set_same w.regions n r (with_size (block_size cells) r) there) kept entry)
      (λ owner h lies. lies-set t.handles w.regions n h (with_size (block_size cells) r) r owner there (λ e. e) lies)
      (subst IsSound (served-in c) (served-sound s (Allocate g (block_size cells)) c related.sound none allowed))
      (subst (Keeps s) (served-in c) allowed.keeps)
      (λ h f b at. block-made_in s h f b g (block_of g (block_size cells) c) at)
      (subst (λ (z : StoreState). block_at (homes z) g c.address ≡ Some (block_of g (block_size cells) c)) (served-in c)
      (serves-made s (served s (Allocate g (block_size cells)) c) g (block_size cells) c.address related.sound (serves s g (block_size cells) c none allowed)))
      allowed.may.1
      refl
      (length-set w.regions n (with_size (block_size cells) r))
      (below_from_slice_get w.regions n r there)
      (regions-in c)
      related.classes
      (λ class. related.uniques class ∙ sym (live-last class w.objects (record { owner = InRegion n; cells = cells }))))

  -- The condition under which the heap store refuses an allocation.
  pub refusal-allocate : is_size (block_size cells) ≡ true
      → refusal s (Allocate g (block_size cells)) ≡ full_at (nat_lt s.pages (pages_of (source.made_in w n r cells)))
  refusal-allocate sized =
      let (home, found) = (handle-other related n g r there kept entry).1 in
      cond-true (is_some (lookup handle_of (homes s) g)) (if is_size (block_size cells) then full_at (is_full s (Allocate g (block_size cells))) else Some BadSize) (Some BadHandle)
      (ap (λ o. is_some o) (lookup-there handle_of (record { handle = UNIQUE; sort = stores.Uniques; blocks = s.unique }) s.regions g (λ e. other (sym e)) ∙ found))
      ∙ (cond-true (is_size (block_size cells)) (full_at (is_full s (Allocate g (block_size cells)))) (Some BadSize) sized
      ∙ ap (λ m. full_at (nat_lt s.pages m))
      (ap demand (served-in (any_choice s))
      ∙ (ap (λ l. demand_of l s.classes) (sym (counted-same (regions-in (any_choice s))))
      ∙ ap (demand_of (counted (set w.regions n (with_size (block_size cells) r)))) related.classes)))

-- ---- allocation of a unique object

module _ {t : Tables} {w : World} {s : StoreState} (related : Related t w s) (cells : List Cell) where
  served-unique : (c : Choice) → served s (Allocate UNIQUE (block_size cells)) c ≡ record (made_unique s (block_of UNIQUE (block_size cells) c)) { memory = c.memory }
  served-unique c = ap (λ (z : StoreState). record z { memory = c.memory }) (made-unique s UNIQUE (block_of UNIQUE (block_size cells) c) refl)

  pub class-room : class_of (room UNIQUE (block_size cells)) ≡ class_of_cells cells
  class-room = ap class_of (room-unique (block_size cells)) ∙ class-power (class_of (block_size cells)) (class_of-bound (block_size cells))

  uniques-more : (c : Choice) (class : ℕ)
      → stores.live_in class (s.unique ++ block_of UNIQUE (block_size cells) c ∷ []) ≡ live_in class (w.objects ++ record { owner = Unique true; cells = cells } ∷ [])
  uniques-more c class = elim (cases_eq (class_of_cells cells) class) [
    | inl here ↦
        live_in-append_same class s.unique (block_of UNIQUE (block_size cells) c) (class-room ∙ here)
        ∙ (ap suc (related.uniques class)
        ∙ sym (live-last class w.objects (record { owner = Unique true; cells = cells }) ∙ when_equal (class_of_cells cells) class (suc (live_in class w.objects)) (live_in class w.objects) here))
    | inr there ↦
        live_in-append_other class s.unique (block_of UNIQUE (block_size cells) c) (λ e. there (sym class-room ∙ e))
        ∙ (related.uniques class
        ∙ sym (live-last class w.objects (record { owner = Unique true; cells = cells }) ∙ when_other (class_of_cells cells) class (suc (live_in class w.objects)) (live_in class w.objects) there))
  ]

  classes-more : (c : Choice) → (made_unique s (block_of UNIQUE (block_size cells) c)).classes ≡ (source.made_unique w cells).classes
  classes-more c =
      ap (λ k. stores.raised s.classes k (suc (stores.live_in k s.unique))) class-room
      ∙ (ap (λ m. stores.raised s.classes (class_of_cells cells) (suc m)) (related.uniques (class_of_cells cells))
      ∙ ap (λ l. raised l (class_of_cells cells) (suc (live_in (class_of_cells cells) w.objects))) related.classes)

  -- Allocating a unique object preserves the relation between the source's heap state and the heap store.
  pub allocated-unique : (c : Choice) → AreBlank cells → block_size cells ≤ page_words → refusal s (Allocate UNIQUE (block_size cells)) ≡ None
      → IsAllowed s (Allocate UNIQUE (block_size cells)) c
      → Related (with_row t (Placed c.address (kinds_of cells))) (source.made_unique w cells) (served s (Allocate UNIQUE (block_size cells)) c)
  allocated-unique c blank short none allowed =
      subst (Related (with_row t (Placed c.address (kinds_of cells))) (source.made_unique w cells)) (sym (served-unique c))
      (related-more related (record { owner = Unique true; cells = cells }) c.address UNIQUE w.regions (source.made_unique w cells).classes blank
      (room-fits UNIQUE cells short)
      refl
      (λ owner h lies. lies)
      (subst IsSound (served-unique c) (served-sound s (Allocate UNIQUE (block_size cells)) c related.sound none allowed))
      (subst (Keeps s) (served-unique c) allowed.keeps)
      (λ h f b at. block-made_unique s h f b (block_of UNIQUE (block_size cells) c) at)
      (subst (λ (z : StoreState). block_at (homes z) UNIQUE c.address ≡ Some (block_of UNIQUE (block_size cells) c)) (served-unique c)
      (serves-made s (served s (Allocate UNIQUE (block_size cells)) c) UNIQUE (block_size cells) c.address related.sound (serves s UNIQUE (block_size cells) c none allowed)))
      allowed.may.1
      refl
      refl
      tt
      related.regions
      (classes-more c)
      (uniques-more c))

  pub refusal-unique : is_size (block_size cells) ≡ true
      → refusal s (Allocate UNIQUE (block_size cells)) ≡ full_at (nat_lt s.pages (pages_of (source.made_unique w cells)))
  refusal-unique sized =
      cond-true (is_some (lookup handle_of (homes s) UNIQUE)) (if is_size (block_size cells) then full_at (is_full s (Allocate UNIQUE (block_size cells))) else Some BadSize) (Some BadHandle)
      (ap (λ o. is_some o) (lookup-here handle_of (record { handle = UNIQUE; sort = stores.Uniques; blocks = s.unique }) s.regions UNIQUE refl))
      ∙ (cond-true (is_size (block_size cells)) (full_at (is_full s (Allocate UNIQUE (block_size cells)))) (Some BadSize) sized
      ∙ ap (λ m. full_at (nat_lt s.pages m))
      (ap demand (served-unique (any_choice s))
      ∙ (ap (demand_of (sizes_in s.regions)) (classes-more (any_choice s))
      ∙ ap (λ l. demand_of l (source.made_unique w cells).classes) (sym (counted-same related.regions)))))

-- ---- the new object is blank, and pointers lead to it

pub blanks-blank : (count : ℕ) (kind : Kind) → AreBlank (blanks count kind)
blanks-blank zero kind = tt
blanks-blank (suc count) kind = (refl, blanks-blank count kind)

pub operands-blank : (values : List Operand) → AreBlank (blanks_of values)
operands-blank [] = tt
operands-blank (v ∷ values) = (refl, operands-blank values)

module _ {t : Tables} {w : World} {s : StoreState} (related : Related t w s) where
  pub row-made : (row : Row) → slice_get (with_row t row).rows (length w.objects) ≡ Some row
  row-made row = subst (λ n. slice_get (t.rows ++ row ∷ []) n ≡ Some row) related.rows (slice_get_last t.rows row)

  range-made : (g : ℕ) (cells : List Cell) (c : Choice) → block_size cells ≤ page_words → IsAllowed s (Allocate g (block_size cells)) c → InRange c.address (kinds_of cells)
  range-made g cells c short allowed =
      placed-range s.pages (block_of g (block_size cells) c) (kinds_of cells) allowed.may.0 related.few (room-fits g cells short)

  -- The address of the block of a new object points to the object's first cell; the address of the block of a new
  -- array points to all of its cells.
  pub points-made : (g : ℕ) (first : Cell) (cells : List Cell) (c : Choice) → block_size (first ∷ cells) ≤ page_words → IsAllowed s (Allocate g (block_size (first ∷ cells))) c
      → Points (with_row t (Placed c.address (kinds_of (first ∷ cells)))) (length w.objects) 0 c.address
  points-made g first cells c short allowed =
      first-points (length w.objects) c.address first.kind (kinds_of cells) (row-made (Placed c.address (kinds_of (first ∷ cells))))
      (range-made g (first ∷ cells) c short allowed)

  pub part-made : (g count : ℕ) (kind : Kind) (c : Choice) → block_size (blanks count kind) ≤ page_words → IsAllowed s (Allocate g (block_size (blanks count kind))) c
      → IsPartOf (with_row t (Placed c.address (kinds_of (blanks count kind)))) (length w.objects) 0 count c.address
  part-made g count kind c short allowed =
      whole-part (length w.objects) c.address count kind (row-made (Placed c.address (kinds_of (blanks count kind))))
      (range-made g (blanks count kind) c short allowed)
