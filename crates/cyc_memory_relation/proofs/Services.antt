-- This file is about opening and closing regions of the heap store, and about freeing unique objects. The program never uses a dead
-- block or handle again, so the heap store may reuse it.
use Rattle.std.proofs.Common.{◌≡◌, ℕ, zero, suc, Bool, true, false, List, [], ◌∷◌, ◌++◌, length, set, None, Some, is_some, refl, sym, ap, subst, ◌∙◌, inl, inr, length-set}
use Rattle.std.specs.Prelude.{◌==◌, ◌≢◌, nat_lt, if◌then◌else◌, slice_get}
use Rattle.std.proofs.lemmas.Bool.{cases_eq, cond-true}
use Rattle.cyc_types.specs.declared.typed.Kind.{Kind}
use Rattle.cyc_words.specs.Demand.{class_of, demand_of}
use Rattle.cyc_words.proofs.Numbers.{when_equal}
use Rattle.cyc_words.proofs.Options.{never_none_and_some, same_from_some, same_from_some_some}
use Rattle.cyc_words.proofs.Items.{slice_get_front, slice_get-set_cases}
use Rattle.cyc_words.proofs.Booleans.{never_true_and_false}
use Rattle.cyc_store.specs.State.{lookup, without, AreDistinct, Memory, Block, address_of, handle_of, empty_home, StoreState, homes, block_in, block_at, room}
use Rattle.cyc_store.specs.State as stores
use Rattle.cyc_store.specs.Services.{OpenLexical, OpenDynamic, CloseDynamic, Free, Choice, served, names_dynamic, full_at, refusal, BadHandle, NotABlock, IsAllowed}
use Rattle.cyc_store.specs.Services as services
use Rattle.cyc_store.specs.Soundness.{IsSound}
use Rattle.cyc_store.specs.declared.range.TheConstants.{HEAP, UNIQUE}
use Rattle.cyc_store.proofs.LookupLemmas.{when_other, lookup-here, lookup-there}
use Rattle.cyc_store.proofs.ServiceLemmas.{served-sound}
use Rattle.cyc_meaning.specs.Values.{kinds_of, block_size}
use Rattle.cyc_meaning.specs.State.{Sort, Lexical, Dynamic, Region, Owner, InRegion, Unique, Object, World, heap_number, has_pages, new_region, opened_as, closed, counted}
use Rattle.cyc_meaning.specs.Objects.{class_of_cells, is_live_in, live_in, freed}
use Rattle.cyc_meaning.specs.inside.Effects.{pages_of}
use Rattle.cyc_memory_relation.specs.inside.Tables.{Placed, Tables, with_handle}
use Rattle.cyc_memory_relation.specs.inside.Related.{sort_of, has_home, lies_in, Alive, Stands, Within, Related}
use Rattle.cyc_memory_relation.proofs.Values.{Grows-same, Grows-handle}
use Rattle.cyc_memory_relation.proofs.Pointers.{same-row}
use Rattle.cyc_memory_relation.proofs.RegionLemmas.{handles-length, counted-same, HasHome, home-found, handle-names, Regions-opened, shut, without-absent, Regions-closed, lies-home, lies-set, lies-last}
use Rattle.cyc_memory_relation.proofs.Serving.{WordsStay, words-stay, block-opened, block-freed, block-closed, objects-inherited, alone-inherited}
use Rattle.cyc_memory_relation.proofs.Making.{either-order, class-room, handle-other}
use Rattle.cyc_memory_relation.proofs.Variables.{within-more, entry-older}

-- ---- opening a region

module _ {t : Tables} {w : World} {s : StoreState} (related : Related t w s) where
  region-opened : (sort : Sort) (is : stores.Sort) → sort_of sort ≡ Some is → (h : ℕ) (m : Memory)
      → IsSound (record (stores.opened s h is) { memory = m }) → WordsStay s (record (stores.opened s h is) { memory = m })
      → Related (with_handle t (Some h)) (opened_as sort w) (record (stores.opened s h is) { memory = m })
  region-opened sort is same h m after stay = record {
    sound = after;
    few = related.few;
    heap = slice_get_front t.handles (Some h ∷ []) heap_number (Some HEAP) related.heap;
    rows = related.rows;
    regions = Regions-opened h sort is same related.regions;
    classes = related.classes;
    uniques = related.uniques;
    owned = λ o y at. within-more w.regions (new_region sort) y.owner (related.owned o y at);
    shapes = related.shapes;
    variables = λ o n y at owner entry. related.variables o n y at owner (entry-older related (Some h) o n y at owner entry);
    objects = objects-inherited related (Grows-handle t (Some h)) stay before
        (λ o g a ks y b alive row found. block-opened (homes s) (empty_home h is) g a b found);
    alone = alone-inherited related (Grows-handle t (Some h)) stay before
        (λ o g a ks y b alive row found. block-opened (homes s) (empty_home h is) g a b found);
  }
    where
      before : (o g : ℕ) (y : Object) → Alive (with_handle t (Some h)) (opened_as sort w) o g y → Alive t w o g y
      before o g y alive = record {
        at = alive.at;
        lies = lies-last t.handles w.regions (Some h) (new_region sort) g y.owner (handles-length related.regions) (related.owned o y alive.at) alive.lies;
      }

  pub opened-lexical : (c : Choice) → refusal s OpenLexical ≡ None → IsAllowed s OpenLexical c
      → Related (with_handle t (Some c.handle)) (opened_as Lexical w) (served s OpenLexical c)
  opened-lexical c none allowed =
      let after : IsSound (served s OpenLexical c) = served-sound s OpenLexical c related.sound none allowed in
      region-opened Lexical stores.Lexical refl c.handle c.memory after (words-stay related.sound after allowed.keeps)

  pub opened-dynamic : (c : Choice) → refusal s OpenDynamic ≡ None → IsAllowed s OpenDynamic c
      → Related (with_handle t (Some c.handle)) (opened_as Dynamic w) (served s OpenDynamic c)
  opened-dynamic c none allowed =
      let after : IsSound (served s OpenDynamic c) = served-sound s OpenDynamic c related.sound none allowed in
      region-opened Dynamic stores.Dynamic refl c.handle c.memory after (words-stay related.sound after allowed.keeps)

  demand-opened : (sort : Sort) (is : stores.Sort) → sort_of sort ≡ Some is → stores.demand (stores.opened s 0 is) ≡ pages_of (opened_as sort w)
  demand-opened sort is same =
      ap (λ l. demand_of l s.classes) (sym (counted-same (Regions-opened 0 sort is same related.regions)))
      ∙ ap (demand_of (counted (w.regions ++ new_region sort ∷ []))) related.classes

  -- the condition under which the heap store refuses to open a lexical region
  pub refusal-lexical : refusal s OpenLexical ≡ full_at (nat_lt s.pages (pages_of (opened_as Lexical w)))
  refusal-lexical = ap (λ n. full_at (nat_lt s.pages n)) (demand-opened Lexical stores.Lexical refl)

  pub refusal-dynamic : refusal s OpenDynamic ≡ full_at (nat_lt s.pages (pages_of (opened_as Dynamic w)))
  refusal-dynamic = ap (λ n. full_at (nat_lt s.pages n)) (demand-opened Dynamic stores.Dynamic refl)

  -- ---- closing a region

  -- An object that stays live when a region closes lies in another region.
  elsewhere : (n g : ℕ) (r : Region) → slice_get w.regions n ≡ Some r → has_home r ≡ true → has_home (shut r) ≡ false → slice_get t.handles n ≡ Some (Some g)
      → (owner : Owner) (h : ℕ) → lies_in t.handles (set w.regions n (shut r)) owner ≡ Some h → h ≢ g
  elsewhere n g r there kept ends entry (InRegion i) h lies e =
      let (z, at, stays, other) = lies-home t.handles (set w.regions n (shut r)) i h lies in
      elim (slice_get-set_cases w.regions n i r (shut r) z there at) [
        | inl here ↦ never_true_and_false stays (ap has_home here.1 ∙ ends)
        | inr away ↦ away.0 (handle-names related.regions related.sound.regions.handles.1 i n g z r away.1 there stays kept (other ∙ ap (λ k. Some (Some k)) e) entry)
      ]
  elsewhere n g r there kept ends entry (Unique true) h lies e = (handle-other related n g r there kept entry).0 (sym e ∙ sym (same_from_some lies))
  elsewhere n g r there kept ends entry (Unique false) h lies e = let k : None ≡ Some h = lies in cc

  pub region-closed : (n g : ℕ) (r : Region) (m : Memory) → slice_get w.regions n ≡ Some r → has_home r ≡ true → has_home (shut r) ≡ false
      → slice_get t.handles n ≡ Some (Some g) → IsSound (record s { regions = without handle_of s.regions g; memory = m })
      → WordsStay s (record s { regions = without handle_of s.regions g; memory = m })
      → Related t (closed w n r) (record s { regions = without handle_of s.regions g; memory = m })
  region-closed n g r m there kept ends entry after stay = record {
    sound = after;
    few = related.few;
    heap = related.heap;
    rows = related.rows;
    regions = Regions-closed related.regions related.sound.regions.handles.1 n g r there kept ends entry;
    classes = related.classes;
    uniques = related.uniques;
    owned = λ o y at. subst (λ k. Within k y.owner) (sym (length-set w.regions n (shut r))) (related.owned o y at);
    shapes = related.shapes;
    variables = related.variables;
    objects = objects-inherited related (Grows-same t) stay before
        (λ o h a ks y b alive row found. block-closed s h a b g (elsewhere n g r there kept ends entry y.owner h alive.lies) found);
    alone = alone-inherited related (Grows-same t) stay before
        (λ o h a ks y b alive row found. block-closed s h a b g (elsewhere n g r there kept ends entry y.owner h alive.lies) found);
  }
    where
      before : (o h : ℕ) (y : Object) → Alive t (closed w n r) o h y → Alive t w o h y
      before o h y alive = record {
        at = alive.at;
        lies = lies-set t.handles w.regions n h (shut r) r y.owner there (λ e. absurd (never_true_and_false e ends)) alive.lies;
      }

  -- The heap store accepts the request to close an open dynamic region by its handle.
  pub refusal-close : (n g : ℕ) (r : Region) → slice_get w.regions n ≡ Some r → has_home r ≡ true → r.sort ≡ Dynamic → slice_get t.handles n ≡ Some (Some g)
      → refusal s (CloseDynamic g) ≡ None
  refusal-close n g r there kept dynamic entry =
      let is : HasHome t.handles s.regions n r = home-found related.regions related.sound.regions.handles.1 n r there kept in
      let found : lookup handle_of s.regions g ≡ Some is.home = subst (λ h. lookup handle_of s.regions h ≡ Some is.home) (same_from_some_some is.entry entry) is.there in
      let sort : stores.Dynamic ≡ is.home.sort = same_from_some (sym (ap sort_of dynamic) ∙ is.matches.sort) in
      cond-true (names_dynamic (lookup handle_of s.regions g)) None (Some BadHandle)
      (ap names_dynamic found ∙ ap services.is_dynamic (sym sort))

  pub closed-dynamic : (n g : ℕ) (r : Region) (c : Choice) → slice_get w.regions n ≡ Some r → has_home r ≡ true → r.sort ≡ Dynamic
      → slice_get t.handles n ≡ Some (Some g) → IsAllowed s (CloseDynamic g) c → Related t (closed w n r) (served s (CloseDynamic g) c)
  closed-dynamic n g r c there kept dynamic entry allowed =
      let after : IsSound (served s (CloseDynamic g) c) =
      served-sound s (CloseDynamic g) c related.sound (refusal-close n g r there kept dynamic entry) allowed in
      region-closed n g r c.memory there kept (ap (λ z. has_pages z false) dynamic) entry after (words-stay related.sound after allowed.keeps)

-- ---- freeing a unique object

-- Removing a block reduces the count of blocks in the block's size class by one.
live-without : (class : ℕ) (bs : List Block) (a : ℕ) (b : Block) → AreDistinct address_of bs → lookup address_of bs a ≡ Some b
    → stores.live_in class bs ≡ (if class_of b.size == class then suc (stores.live_in class (without address_of bs a)) else stores.live_in class (without address_of bs a))
live-without class [] a b distinct found = absurd (let e : None ≡ Some b = found in cc)
live-without class (d ∷ bs) a b distinct found = elim (cases_eq d.address a) [
  | inl same ↦
      let is : d ≡ b = same_from_some (sym (lookup-here address_of d bs a same) ∙ found) in
      let rest : without address_of (d ∷ bs) a ≡ bs =
      when_equal d.address a (without address_of bs a) (d ∷ without address_of bs a) same
      ∙ without-absent address_of bs a (subst (λ n. lookup address_of bs n ≡ None) same distinct.0) in
      ap (λ (z : Block). if class_of z.size == class then suc (stores.live_in class bs) else stores.live_in class bs) is
      ∙ ap (λ l. if class_of b.size == class then suc (stores.live_in class l) else stores.live_in class l) (sym rest)
  | inr other ↦
      let there : lookup address_of bs a ≡ Some b = sym (lookup-there address_of d bs a other) ∙ found in
      ap (λ n. if class_of d.size == class then suc n else n) (live-without class bs a b distinct.1 there)
      ∙ (either-order (class_of d.size == class) (class_of b.size == class) (stores.live_in class (without address_of bs a))
      ∙ ap (λ l. if class_of b.size == class then suc (stores.live_in class l) else stores.live_in class l)
      (sym (when_other d.address a (without address_of bs a) (d ∷ without address_of bs a) other)))
]

-- Freeing an object reduces the count of live objects in the object's size class by one.
live-freed : (class : ℕ) (xs : List Object) (o : ℕ) (x y : Object) → slice_get xs o ≡ Some x → is_live_in class y.owner y.cells ≡ false
    → live_in class xs ≡ (if is_live_in class x.owner x.cells then suc (live_in class (set xs o y)) else live_in class (set xs o y))
live-freed class [] o x y there gone = absurd (let e : None ≡ Some x = there in cc)
live-freed class (a ∷ xs) zero x y there gone =
    ap (λ (z : Object). if is_live_in class z.owner z.cells then suc (live_in class xs) else live_in class xs) (same_from_some there)
    ∙ ap (λ n. if is_live_in class x.owner x.cells then suc n else n) (ap (λ b. if b then suc (live_in class xs) else live_in class xs) (sym gone))
live-freed class (a ∷ xs) (suc o) x y there gone =
    ap (λ n. if is_live_in class a.owner a.cells then suc n else n) (live-freed class xs o x y there gone)
    ∙ either-order (is_live_in class a.owner a.cells) (is_live_in class x.owner x.cells) (live_in class (set xs o y))

-- Equal counts stay equal after one object is subtracted from both counts.
same-rest : (b : Bool) (m n : ℕ) → (if b then suc m else m) ≡ (if b then suc n else n) → m ≡ n
same-rest true m n e = let k : suc m ≡ suc n = e in cc
same-rest false m n e = e

module _ {t : Tables} {w : World} {s : StoreState} (related : Related t w s) (o a : ℕ) (x : Object) (ks : List Kind)
    (there : slice_get w.objects o ≡ Some x) (owner : x.owner ≡ Unique true) (row : slice_get t.rows o ≡ Some (Placed a ks)) where
  is-alive : Alive t w o UNIQUE x
  is-alive = record { at = there; lies = ap (lies_in t.handles w.regions) owner }

  unique-found : lookup address_of s.unique a ≡ Some (record { address = a; size = room UNIQUE (block_size x.cells) })
  unique-found =
      let st : Stands t (homes s) s.memory UNIQUE o x.cells = related.objects o UNIQUE x is-alive in
      subst (λ n. lookup address_of s.unique n ≡ Some (record { address = n; size = room UNIQUE (block_size x.cells) })) (same-row st.row row).0
      (sym (ap (λ q. block_in q st.address) (lookup-here handle_of (record { handle = UNIQUE; sort = stores.Uniques; blocks = s.unique }) s.regions UNIQUE refl))
      ∙ st.found)

  -- The heap store accepts the request to free the block of a live unique object.
  pub refusal-free : refusal s (Free a) ≡ None
  refusal-free = cond-true (is_some (lookup address_of s.unique a)) None (Some NotABlock) (ap (λ q. is_some q) unique-found)

  uniques-less : (class : ℕ) → stores.live_in class (without address_of s.unique a) ≡ live_in class (set w.objects o (record x { owner = Unique false }))
  uniques-less class =
      same-rest (class_of_cells x.cells == class) (stores.live_in class (without address_of s.unique a)) (live_in class (set w.objects o (record x { owner = Unique false })))
      (ap (λ n. if n == class then suc (stores.live_in class (without address_of s.unique a)) else stores.live_in class (without address_of s.unique a)) (sym (class-room related x.cells))
      ∙ (sym (live-without class s.unique a (record { address = a; size = room UNIQUE (block_size x.cells) }) related.sound.uniques unique-found)
      ∙ (related.uniques class
      ∙ (live-freed class w.objects o x (record x { owner = Unique false }) there refl
      ∙ ap (λ z. if is_live_in class z x.cells then suc (live_in class (set w.objects o (record x { owner = Unique false }))) else live_in class (set w.objects o (record x { owner = Unique false }))) owner))))

  -- An object that is live after a free was live before it, and is not the freed object.
  before-freed : (i h : ℕ) (y : Object) → Alive t (freed w o x) i h y → (i ≢ o) × Alive t w i h y
  before-freed i h y alive = elim (slice_get-set_cases w.objects o i x (record x { owner = Unique false }) y there alive.at) [
    | inl here ↦ absurd (never_none_and_some (ap (λ (z : Object). lies_in t.handles w.regions z.owner) here.1) alive.lies)
    | inr other ↦ (other.0, record { at = other.1; lies = alive.lies })
  ]

  block-stays : (i h f : ℕ) (ls : List Kind) (y : Object) (b : Block) → Alive t (freed w o x) i h y → slice_get t.rows i ≡ Some (Placed f ls)
      → block_at (homes s) h f ≡ Some b → block_at (homes (record s { unique = without address_of s.unique a })) h f ≡ Some b
  block-stays i h f ls y b alive placed found =
      let (away, was) = before-freed i h y alive in
      block-freed s h f b a
      (λ same e. away (related.alone i o h UNIQUE f y x ls ks was is-alive placed (subst (λ n. slice_get t.rows o ≡ Some (Placed n ks)) (sym e) row))) found

  pub freed-unique : (c : Choice) → IsAllowed s (Free a) c → Related t (freed w o x) (served s (Free a) c)
  freed-unique c allowed =
      let after : IsSound (served s (Free a) c) = served-sound s (Free a) c related.sound refusal-free allowed in
      let stay : WordsStay s (served s (Free a) c) = words-stay related.sound after allowed.keeps in
      record {
        sound = after;
        few = related.few;
        heap = related.heap;
        rows = related.rows ∙ sym (length-set w.objects o (record x { owner = Unique false }));
        regions = related.regions;
        classes = related.classes;
        uniques = uniques-less;
        owned = λ i y at. elim (slice_get-set_cases w.objects o i x (record x { owner = Unique false }) y there at) [
          | inl here ↦ subst (λ (z : Object). Within (length w.regions) z.owner) (sym here.1) tt
          | inr other ↦ related.owned i y other.1
        ];
        shapes = λ i f ls y at placed. elim (slice_get-set_cases w.objects o i x (record x { owner = Unique false }) y there at) [
          | inl here ↦
              related.shapes o f ls x there (subst (λ n. slice_get t.rows n ≡ Some (Placed f ls)) here.0 placed)
              ∙ ap (λ (z : Object). kinds_of z.cells) (sym here.1)
          | inr other ↦ related.shapes i f ls y other.1 placed
        ];
        variables = λ i n y at is entry. elim (slice_get-set_cases w.objects o i x (record x { owner = Unique false }) y there at) [
          | inl here ↦ absurd (let e : Unique false ≡ InRegion n = sym (ap (λ (z : Object). z.owner) here.1) ∙ is in cc)
          | inr other ↦ related.variables i n y other.1 is entry
        ];
        objects = objects-inherited related (Grows-same t) stay (λ i h y alive. (before-freed i h y alive).1) block-stays;
        alone = alone-inherited related (Grows-same t) stay (λ i h y alive. (before-freed i h y alive).1) block-stays;
      }
