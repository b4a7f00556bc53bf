-- This file is about cells of live objects: their bytes can be read and represent the values stored in the cells, and a cell
-- can be written.
use Rattle.std.proofs.Common.{◌≡◌, ℕ, zero, suc, ◌+◌, ◌*◌, ◌/◌, ◌%◌, ◌<◌, ◌≤◌, max, Bool, true, false, List, [], ◌∷◌, length, set, Option, None, Some, is_some, refl, sym, ap, subst, ◌∙◌, inl, inr, arith, length-set}
use Rattle.std.specs.Prelude.{◌==◌, ◌≢◌, ◌⊎◌, if◌then◌else◌, ◌&&◌, slice_get}
use Rattle.std.proofs.lemmas.Bool.{cases_Bool, cases_lt, cond-false}
use Rattle.cyc_types.specs.declared.typed.Kind.{Kind}
use Rattle.cyc_words.specs.Bytes.{word_of}
use Rattle.cyc_words.specs.Demand.{class_of}
use Rattle.cyc_words.proofs.Options.{none_or_some, same_from_some}
use Rattle.cyc_words.proofs.Items.{map-set, slice_get-set_cases, slice_get-map}
use Rattle.cyc_store.specs.State.{Memory, put, AreWords, Block, StoreState, homes, word_at, has_saved, saved, room}
use Rattle.cyc_store.specs.declared.range.TheConstants.{STORE_BASE, PAGE_WORDS, MOST_PAGES, UNIQUE}
use Rattle.cyc_store.proofs.HolderLemmas.{covers_from}
use Rattle.cyc_store.proofs.ServiceLemmas.{word-live, one_block}
use Rattle.cyc_meaning.specs.Values.{Value, bytes_of_kind, begins, following, bytes_from, words_for, Cell, kinds_of, block_size}
use Rattle.cyc_meaning.specs.State.{Owner, InRegion, Unique, Object, World, Found, Closed, Located, located, is_open, is_live, cell_in, cell_at, Region, has_pages, written}
use Rattle.cyc_meaning.specs.Objects.{is_live_in, live_in}
use Rattle.cyc_meaning.proofs.WorldLaws.{cell_found}
use Rattle.cyc_memory_relation.specs.inside.Tables.{Row, Variable, Placed, Tables}
use Rattle.cyc_memory_relation.specs.inside.Words.{bytes_of_kinds, before_from, before, byte_at, Points, IsPartOf, Holds, IsContent, AreCells, IsBeside}
use Rattle.cyc_memory_relation.specs.inside.Related.{sort_of, lies_in, Alive, Stands, IsOutside, IsOfVariable, IsVariableAt, LiveVariable, Within, Related}
use Rattle.cyc_memory_relation.proofs.Places.{IsAligned, begins-least, begins-aligned, bytes-least, before-least, before-inside, before-aligned}
use Rattle.cyc_memory_relation.proofs.Values.{IsContent-same, AreCells-same}
use Rattle.cyc_memory_relation.proofs.Pointers.{same-row, fat-to_cell}
use Rattle.cyc_memory_relation.proofs.RegionLemmas.{sort-some, entry-found, lies-from, lies-home}

-- ---- live objects and variables

pub not-placed : {o : Option Row} {a : ℕ} {ks : List Kind} → o ≡ Some Variable → o ≡ Some (Placed a ks) → ⊥
not-placed {o} {a} {ks} p q = let e : Variable ≡ Placed a ks = same_from_some (sym p ∙ q) in cc

module _ {t : Tables} {w : World} {s : StoreState} (related : Related t w s) where
  pub live-lies : (owner : Owner) → is_live w owner ≡ true
      → ((h : ℕ) × (lies_in t.handles w.regions owner ≡ Some h)) ⊎ ((n : ℕ) × (owner ≡ InRegion n) × (slice_get t.handles n ≡ Some None))
  live-lies (InRegion n) live = elim (none_or_some (slice_get w.regions n)) [
    | inl none ↦ absurd (let e : false ≡ true = sym (ap is_open none) ∙ live in cc)
    | inr (r, there) ↦
        let (h, entry, same) = entry-found related.regions n r there in
        by r there (sym (ap is_open there) ∙ live) h entry same
  ]
    where
      by : (r : Region) → slice_get w.regions n ≡ Some r → r.is_open ≡ true → (h : Option ℕ) → slice_get t.handles n ≡ Some h → is_some h ≡ is_some (sort_of r.sort)
          → ((h : ℕ) × (lies_in t.handles w.regions (InRegion n) ≡ Some h)) ⊎ ((m : ℕ) × (InRegion n ≡ InRegion m) × (slice_get t.handles m ≡ Some None))
      by r there is None entry same = inr (n, refl, entry)
      by r there is (Some h) entry same = inl (h, lies-from t.handles w.regions n h r there (subst (λ (b : Bool). has_pages r.sort b ≡ true) (sym is) (sort-some r.sort (sym same))) entry)
  live-lies (Unique true) live = inl (UNIQUE, refl)
  live-lies (Unique false) live = absurd (let e : false ≡ true = live in cc)

  is-live-found : (o k : ℕ) (x : Object) (at : Located) → cell_at w o k ≡ Found at → slice_get w.objects o ≡ Some x → is_live w x.owner ≡ true
  is-live-found o k x at found there = elim (cases_Bool (is_live w x.owner)) [
    | inl live ↦ live
    | inr dead ↦ absurd (
        let e : Closed ≡ Found at =
        sym (cond-false (is_live w x.owner) (located x (slice_get x.cells k)) Closed dead) ∙ (sym (ap (λ q. cell_in w q k) there) ∙ found) in
        cc)
  ]

  -- A live object is either an object of the heap store or the object of a variable.
  pub live-either : (o : ℕ) (x : Object) → slice_get w.objects o ≡ Some x → is_live w x.owner ≡ true → ((h : ℕ) × Alive t w o h x) ⊎ LiveVariable t w o x
  live-either o x there live = elim (live-lies x.owner live) [
    | inl (h, lies) ↦ inl (h, record { at = there; lies = lies })
    | inr (n, owner, entry) ↦ inr (record { at = there; region = n; owner = owner; entry = entry; live = live })
  ]

  -- If looking up a cell succeeds, the cell is a cell of a live object.
  pub found-either : (o k : ℕ) (at : Located) → cell_at w o k ≡ Found at
      → (((h : ℕ) × Alive t w o h at.object) ⊎ LiveVariable t w o at.object) × (slice_get at.object.cells k ≡ Some at.cell)
  found-either o k at found =
      let (there, cell) = cell_found w o k at found in
      (live-either o at.object there (is-live-found o k at.object at found there), cell)

  -- a live variable whose row in the table of objects states an address lies outside the heap store
  pub variable-outside : (o a : ℕ) (ks : List Kind) (x : Object) → LiveVariable t w o x → slice_get t.rows o ≡ Some (Placed a ks) → IsOutside a ks
  variable-outside o a ks x v placed =
      let (row, at, outside) = related.variables o v.region x v.at v.owner v.entry in
      subst IsOfVariable (same_from_some (sym at ∙ placed)) outside

  -- The address of an element of the part of an array to which a fat pointer points, computed from the size of the element's cell.
  pub element-found : {o start n p : ℕ} (i : ℕ) (at : Located) (part : IsPartOf t o start n p) → i < n → cell_at w o (start + i) ≡ Found at
      → Points t o (start + i) (p + i * bytes_of_kind at.cell.kind)
  element-found {o} {start} i at part below found =
      let (there, cell) = cell_found w o (start + i) at found in
      fat-to_cell i at.cell.kind part below
      (ap (λ ks. slice_get ks (start + i)) (related.shapes o part.address part.kinds at.object there part.row)
      ∙ slice_get-map (λ (z : Cell). z.kind) at.object.cells (start + i) at.cell cell)

  -- A variable without an address is not a live object of the heap store.
  pub variable-alone : (o h : ℕ) (x : Object) → slice_get t.rows o ≡ Some Variable → Alive t w o h x → ⊥
  variable-alone o h x row alive = let st : Stands t (homes s) s.memory h o x.cells = related.objects o h x alive in not-placed row st.row

  pub variable-elsewhere : (o n h : ℕ) (x : Object) → x.owner ≡ InRegion n → slice_get t.handles n ≡ Some None → Alive t w o h x → ⊥
  variable-elsewhere o n h x owner entry alive =
      let (r, at, kept, other) = lies-home t.handles w.regions n h (ap (lies_in t.handles w.regions) (sym owner) ∙ alive.lies) in
      let e : None ≡ Some h = same_from_some (sym entry ∙ other) in cc

-- ---- one of several cells

module _ (t : Tables) where
  pub cell-among : (cells : List Cell) (m : Memory) (a at k : ℕ) (c : Cell) → AreCells t cells m a at → slice_get cells k ≡ Some c
      → IsContent t c.kind c.content m (a + before_from at k (kinds_of cells))
  cell-among [] m a at k c are found = absurd (let e : None ≡ Some c = found in cc)
  cell-among (d ∷ cells) m a at zero c are found =
      subst (λ (z : Cell). IsContent t z.kind z.content m (a + begins d.kind at)) (same_from_some found) are.0
  cell-among (d ∷ cells) m a at (suc k) c are found = cell-among cells m a (following d.kind at) k c are.1 found

  -- If only the bytes of one cell change, then the cell contains another value, and the other cells are unchanged.
  pub cells-set : (cells : List Cell) (m n : Memory) (a at k : ℕ) (c : Cell) (v : Value) → a % 4 ≡ 0 → AreWords m → AreWords n → AreCells t cells m a at
      → slice_get cells k ≡ Some c → Holds t c.kind v n (a + before_from at k (kinds_of cells))
      → ((x : ℕ) → a + at ≤ x → x < a + bytes_from at (kinds_of cells) → IsBeside c.kind (a + before_from at k (kinds_of cells)) x → byte_at n x ≡ byte_at m x)
      → AreCells t (set cells k (record c { content = Some v })) n a at
  cells-set [] m n a at k c v even old new are found is same = absurd (let e : None ≡ Some c = found in cc)
  cells-set (d ∷ cells) m n a at zero c v even old new are found is same =
      let kind : d.kind ≡ c.kind = ap (λ (z : Cell). z.kind) (same_from_some found) in (
        subst (λ z. Holds t c.kind v n (a + begins z at)) kind is,
        subst (λ z. AreCells t cells n a (following z at)) kind
            (AreCells-same t cells m n a (following d.kind at) even old new
            (λ x least less.
            same x (omega (arith, least, begins-least d.kind at)) less
            (inr (subst (λ z. a + begins d.kind at + bytes_of_kind z ≤ x) kind (omega (arith, least)))))
            are.1),
      )
  cells-set (d ∷ cells) m n a at (suc k) c v even old new are found is same =
      let later : begins d.kind at + bytes_of_kind d.kind ≤ before_from (following d.kind at) k (kinds_of cells) =
      before-least (following d.kind at) k (kinds_of cells) in (
        IsContent-same t d.kind d.content m n (a + begins d.kind at) old new (begins-aligned d.kind a at even)
            (λ x least less.
            same x (omega (arith, least, begins-least d.kind at)) (omega (arith, less, bytes-least (following d.kind at) (kinds_of cells)))
            (inl (omega (arith, less, later))))
            are.0,
        cells-set cells m n a (following d.kind at) k c v even old new are.1 found is
            (λ x least less out. same x (omega (arith, least, begins-least d.kind at)) less out),
      )

-- ---- the number of live unique objects of a class

-- the size of a block of cells depends only on the cells' representation kinds (int, char, pointer, ..)
abbrev pub size_of : List Kind → ℕ
size_of ks = max 1 (words_for (bytes_from 0 ks))

-- Replacing an object by another object with equal owner and size keeps the size class of the object.
class-same : (class : ℕ) (owner : Owner) (cells others : List Cell) → block_size cells ≡ block_size others
    → is_live_in class owner cells ≡ is_live_in class owner others
class-same class (InRegion n) cells others same = refl
class-same class (Unique live) cells others same = ap (λ n. live && class_of n == class) same

pub live_in-set : (class : ℕ) (xs : List Object) (o : ℕ) (x y : Object) → slice_get xs o ≡ Some x → y.owner ≡ x.owner → block_size y.cells ≡ block_size x.cells
    → live_in class (set xs o y) ≡ live_in class xs
live_in-set class [] o x y there owner same = refl
live_in-set class (a ∷ xs) zero x y there owner same =
    ap (λ (b : Bool). if b then suc (live_in class xs) else live_in class xs)
    (ap (λ z. is_live_in class z y.cells) owner
    ∙ (class-same class x.owner y.cells x.cells same ∙ ap (λ (z : Object). is_live_in class z.owner z.cells) (sym (same_from_some there))))
live_in-set class (a ∷ xs) (suc o) x y there owner same =
    ap (λ n. if is_live_in class a.owner a.cells then suc n else n) (live_in-set class xs o x y there owner same)

-- ---- a cell of a live object

module _ {t : Tables} {w : World} {s : StoreState} (related : Related t w s) {o h k p : ℕ} {x : Object} {c : Cell}
    (alive : Alive t w o h x) (points : Points t o k p) (at : slice_get x.cells k ≡ Some c) where
  stands : Stands t (homes s) s.memory h o x.cells
  stands = related.objects o h x alive

  abbrev block : Block
  block = record { address = stands.address; size = room h (block_size x.cells) }

  kind-there : slice_get (kinds_of x.cells) k ≡ Some c.kind
  kind-there = slice_get-map (λ (z : Cell). z.kind) x.cells k c at

  aligned : stands.address % 4 ≡ 0
  aligned = let placed = related.sound.regions.placed h stands.address block stands.found in placed.aligned

  place : p ≡ stands.address + before k (kinds_of x.cells)
  place =
      let (same, kinds) = same-row points.row stands.row in
      points.at ∙ (ap (λ a. a + before k points.kinds) same ∙ ap (λ ks. stands.address + before k ks) kinds)

  inside : before k (kinds_of x.cells) + bytes_of_kind c.kind ≤ 4 * room h (block_size x.cells)
  inside =
      let first : before k (kinds_of x.cells) + bytes_of_kind c.kind ≤ bytes_of_kinds (kinds_of x.cells) = before-inside 0 k (kinds_of x.cells) c.kind kind-there in
      let enough : bytes_of_kinds (kinds_of x.cells) ≤ 4 * room h (block_size x.cells) = stands.enough in
      omega (arith, first, enough)

  -- The address of a cell is aligned as the cell's representation kind (int, char, pointer, ..) requires.
  pub cell-aligned : IsAligned c.kind p
  cell-aligned = subst (IsAligned c.kind) (sym place) (before-aligned stands.address k (kinds_of x.cells) c.kind aligned kind-there)

  -- The bytes of a cell of the heap store lie in the address range of this store.
  pub cell-inside : (j : ℕ) → j < bytes_of_kind c.kind → (STORE_BASE ≤ p + j) × (p + j < STORE_BASE + 4 * (PAGE_WORDS * MOST_PAGES))
  cell-inside j below =
      let placed = related.sound.regions.placed h stands.address block stands.found in
      let low : 536870912 ≤ stands.address = placed.low in
      let high : stands.address + 4 * room h (block_size x.cells) ≤ 536870912 + 4 * (1024 * s.pages) = placed.high in
      let most : s.pages ≤ 65536 = related.few in
      let bound : before k (kinds_of x.cells) + bytes_of_kind c.kind ≤ 4 * room h (block_size x.cells) = inside in
      let here : p ≡ stands.address + before k (kinds_of x.cells) = place in
      (omega (arith, low, here), omega (arith, high, most, bound, here, below))

  -- The word that contains a byte of the cell can be read.
  pub cell-live : (j : ℕ) → j < bytes_of_kind c.kind → word_at s (word_of (p + j)) ≡ Some (s.memory (word_of (p + j)))
  cell-live j below =
      let bound : before k (kinds_of x.cells) + bytes_of_kind c.kind ≤ 4 * room h (block_size x.cells) = inside in
      let here : p ≡ stands.address + before k (kinds_of x.cells) = place in
      let even : stands.address % 4 ≡ 0 = aligned in
      let word : 4 * ((p + j) / 4) ≡ stands.address + 4 * ((before k (kinds_of x.cells) + j) / 4) = omega (arith, here, even) in
      subst (λ n. word_at s n ≡ Some (s.memory n)) (sym word)
      (word-live s related.sound h stands.address ((before k (kinds_of x.cells) + j) / 4) block stands.found (omega (arith, below, bound)))

  -- The bytes of a cell represent the value stored in the cell.
  pub cell-read : IsContent t c.kind c.content s.memory p
  cell-read = subst (IsContent t c.kind c.content s.memory) (sym place) (cell-among t x.cells s.memory stands.address 0 k c stands.holds at)

  -- A byte of another live object is not part of the written cell.
  apart : (i g b : ℕ) (y : Object) → Alive t w i g y → (other : Stands t (homes s) s.memory g i y.cells) → i ≢ o
      → other.address ≤ b → b < other.address + 4 * room g (block_size y.cells) → IsBeside c.kind p b
  apart i g b y beside other away low high = elim (cases_lt b p) [
    | inl before ↦ inl before
    | inr least ↦ elim (cases_lt b (p + bytes_of_kind c.kind)) [
      | inl short ↦ absurd (
          let bound : before k (kinds_of x.cells) + bytes_of_kind c.kind ≤ 4 * room h (block_size x.cells) = inside in
          let here : p ≡ stands.address + before k (kinds_of x.cells) = place in
          let (same, blocks) = one_block s related.sound g h other.address stands.address b
          (record { address = other.address; size = room g (block_size y.cells) }) block other.found stands.found
          (covers_from (record { address = other.address; size = room g (block_size y.cells) }) b low high)
          (covers_from block b (omega (arith, least, here)) (omega (arith, short, here, bound))) in
          away (related.alone i o g h other.address y x (kinds_of y.cells) (kinds_of x.cells) beside alive other.row
          (subst (λ a. slice_get t.rows o ≡ Some (Placed a (kinds_of x.cells))) (sym (ap (λ (b : Block). b.address) blocks)) stands.row)))
      | inr following ↦ inr following
    ]
  ]

  module _ (m : Memory) (v : Value) (words : AreWords m)
      (others : (b : ℕ) → IsBeside c.kind p b → byte_at m b ≡ byte_at s.memory b) (value : Holds t c.kind v m p) where
    abbrev now : Object
    now = record x { cells = set x.cells k (record c { content = Some v }) }

    kinds-now : kinds_of now.cells ≡ kinds_of x.cells
    kinds-now = map-set (λ (z : Cell). z.kind) x.cells k c (record c { content = Some v }) at refl

    size-now : block_size now.cells ≡ block_size x.cells
    size-now = ap size_of kinds-now

    before-written : (i g : ℕ) (y : Object) → Alive t (written w o k (record { object = x; cell = c }) v) i g y
        → ((i ≡ o) × (y ≡ now)) ⊎ ((i ≢ o) × Alive t w i g y)
    before-written i g y beside = elim (slice_get-set_cases w.objects o i x now y alive.at beside.at) [
      | inl here ↦ inl here
      | inr other ↦ inr (other.0, record { at = other.1; lies = beside.lies })
    ]

    -- An object that is live after a write was live before it, with an equal row in the table of objects.
    was : (i g : ℕ) (y : Object) → Alive t (written w o k (record { object = x; cell = c }) v) i g y → (z : Object) × Alive t w i g z
    was i g y beside = elim (before-written i g y beside) [
      | inl here ↦ (
        x,
        record {
          at = subst (λ n. slice_get w.objects n ≡ Some x) (sym here.0) alive.at;
          lies = sym (ap (λ (z : Object). lies_in t.handles w.regions z.owner) here.1) ∙ beside.lies;
        },
      )
      | inr other ↦ (y, other.1)
    ]

    stands-now : Stands t (homes s) m h o now.cells
    stands-now = record {
      address = stands.address;
      row = stands.row ∙ ap (λ ks. Some (Placed stands.address ks)) (sym kinds-now);
      found = stands.found ∙ ap (λ n. Some (record { address = stands.address; size = room h n })) (sym size-now);
      enough = subst (λ ks. bytes_of_kinds ks ≤ 4 * room h (block_size now.cells)) (sym kinds-now)
          (subst (λ n. bytes_of_kinds (kinds_of x.cells) ≤ 4 * room h n) (sym size-now) stands.enough);
      holds = cells-set t x.cells s.memory m stands.address 0 k c v aligned related.sound.words words stands.holds at
          (subst (Holds t c.kind v m) place value) (λ b least less out. others b (subst (λ q. IsBeside c.kind q b) (sym place) out));
    }

    stands-other : (i g : ℕ) (y : Object) → i ≢ o → Alive t w i g y → Stands t (homes s) m g i y.cells
    stands-other i g y away beside =
        let st : Stands t (homes s) s.memory g i y.cells = related.objects i g y beside in
        record {
          address = st.address;
          row = st.row;
          found = st.found;
          enough = st.enough;
          holds =
              let placed = related.sound.regions.placed g st.address (record { address = st.address; size = room g (block_size y.cells) }) st.found in
              let enough : bytes_of_kinds (kinds_of y.cells) ≤ 4 * room g (block_size y.cells) = st.enough in
              AreCells-same t y.cells s.memory m st.address 0 placed.aligned related.sound.words words
              (λ b least less. others b (apart i g b y beside st away (omega (arith, least)) (omega (arith, less, enough)))) st.holds;
        }

    -- Writing a cell preserves the relation between the source's heap state and the heap store if memory outside the cell is unchanged.
    pub related-written : Related t (written w o k (record { object = x; cell = c }) v) (record s { memory = m })
    related-written = record {
      sound = record {
        regions = related.sound.regions;
        uniques = related.sound.uniques;
        words = words;
        classes = related.sound.classes;
        enough = related.sound.enough;
        demand = related.sound.demand;
      };
      few = related.few;
      heap = related.heap;
      rows = related.rows ∙ sym (length-set w.objects o now);
      regions = related.regions;
      classes = related.classes;
      uniques = λ class. related.uniques class ∙ sym (live_in-set class w.objects o x now alive.at refl size-now);
      owned = λ i y there. elim (slice_get-set_cases w.objects o i x now y alive.at there) [
        | inl here ↦ subst (λ (z : Object). Within (length w.regions) z.owner) (sym here.1) (related.owned o x alive.at)
        | inr other ↦ related.owned i y other.1
      ];
      shapes = λ i a ks y there row. elim (slice_get-set_cases w.objects o i x now y alive.at there) [
        | inl here ↦
            related.shapes o a ks x alive.at (subst (λ n. slice_get t.rows n ≡ Some (Placed a ks)) here.0 row)
            ∙ (sym kinds-now ∙ ap (λ (z : Object). kinds_of z.cells) (sym here.1))
        | inr other ↦ related.shapes i a ks y other.1 row
      ];
      variables = λ i n y there owner entry. elim (slice_get-set_cases w.objects o i x now y alive.at there) [
        | inl here ↦
            subst (IsVariableAt t) (sym here.0)
            (related.variables o n x alive.at (sym (ap (λ (z : Object). z.owner) here.1) ∙ owner) entry)
        | inr other ↦ related.variables i n y other.1 owner entry
      ];
      objects = λ i g y beside. elim (before-written i g y beside) [
        | inl here ↦
            let same : h ≡ g = same_from_some (sym alive.lies ∙ (sym (ap (λ (z : Object). lies_in t.handles w.regions z.owner) here.1) ∙ beside.lies)) in
            subst (λ q. Stands t (homes s) m q i y.cells) same
            (subst (λ q. Stands t (homes s) m h q y.cells) (sym here.0) (subst (λ (z : Object). Stands t (homes s) m h o z.cells) (sym here.1) stands-now))
        | inr other ↦ stands-other i g y other.0 other.1
      ];
      alone = λ i l g f a y z ks ls first second row also.
          let (old, was_first) = was i g y first in
          let (older, was_second) = was l f z second in
          related.alone i l g f a old older ks ls was_first was_second row also;
    }

-- ---- saved words

-- Writing a word of a live block changes only this word.
pub saved-is : (s : StoreState) (x w old : ℕ) → word_at s x ≡ Some old → saved s x w ≡ record s { memory = put s.memory x w }
saved-is s x w old found = ap (has_saved s x w) found
