-- Lemmas about the resources used in a heap state: allocating an object and opening a region add their costs, and no other change adds a
-- cost.
use Rattle.std.proofs.Common.{◌≡◌, ℕ, zero, suc, ◌+◌, ◌≤◌, true, false, List, [], ◌∷◌, ◌++◌, set, reverse, Option, Some, None, refl, sym, ap, ◌∙◌, arith}
use Rattle.std.specs.Prelude.{slice_get, ◌*◌}
use Rattle.std.proofs.lemmas.Grind.{reverse_onto}
use Rattle.cyc_words.proofs.Items.{map-set}
use Rattle.cyc_types.specs.declared.typed.Kind.{Kind}
use Rattle.cyc_types.specs.declared.typed.Kind.TheVariants as kinds
use Rattle.cyc_meaning.specs.Values.{Value, Operand, Cell, kinds_of, bytes_of_kind, begins, following, bytes_from, block_size}
use Rattle.cyc_meaning.specs.State.{Sort, Region, Owner, InRegion, Unique, Object, World, Access, Found, Closed, Missing, region_at, Located, cell_at, new_region, opened_as, closed, variable, made, written}
use Rattle.cyc_meaning.specs.Objects.{made_in, made_unique, created_in, created, freed}
use Rattle.cyc_meaning.specs.Allocation.{blanks_of, blanks}
use Rattle.cyc_meaning.proofs.NestingLemmas.{region_found}
use Rattle.cyc_meaning.proofs.WorldLaws.{cell_found}
use Rattle.cyc_bound.specs.declared.costs.Measure.{Measure}
use Rattle.cyc_bound.specs.declared.costs.Site.{Site}
use Rattle.cyc_bound.specs.declared.costs.Site.TheVariants as sites
use Rattle.cyc_bound.specs.Costs.{block_cost, size_of_bytes}
use Rattle.cyc_bound.specs.inside.Remaining.{site_of_owner, bytes_before, blocks_spent, sort_spent, regions_spent, object_spent, objects_spent, spent}

-- ---- sizes of objects

bytes_joined : (at : ℕ) (done rest : List Kind) → bytes_from at (done ++ rest) ≡ bytes_from (bytes_from at done) rest
bytes_joined at [] rest = refl
bytes_joined at (a ∷ done) rest = bytes_joined (following a at) done rest

kinds_joined : (before : List Operand) (v : Operand) → kinds_of (blanks_of (before ++ v ∷ [])) ≡ kinds_of (blanks_of before) ++ v.kind ∷ []
kinds_joined [] v = refl
kinds_joined (x ∷ before) v = ap (λ (ks : List Kind). x.kind ∷ ks) (kinds_joined before v)

-- the number of bytes of a struct's fields, computed from the list of the field values, in which the last field comes first
bytes_of_fields : (before : List Operand) → bytes_from 0 (kinds_of (blanks_of (reverse before))) ≡ bytes_before before
bytes_of_fields [] = refl
bytes_of_fields (v ∷ before) =
    ap (λ (vs : List Operand). bytes_from 0 (kinds_of (blanks_of vs))) (reverse_more v before)
    ∙ ap (λ (ks : List Kind). bytes_from 0 ks) (kinds_joined (reverse before) v)
    ∙ bytes_joined 0 (kinds_of (blanks_of (reverse before))) (v.kind ∷ [])
    ∙ ap (λ (at : ℕ). following v.kind at) (bytes_of_fields before)
  where
    reverse_more : (v : Operand) (before : List Operand) → reverse (v ∷ before) ≡ reverse before ++ v ∷ []
    reverse_more v before = reverse_onto before v []

pub fields_size : (before : List Operand) → block_size (blanks_of (reverse before)) ≡ size_of_bytes (bytes_before before)
fields_size before = ap (λ (bytes : ℕ). size_of_bytes bytes) (bytes_of_fields before)

begins_first : (kind : Kind) → begins kind 0 ≡ 0
begins_first kinds.Int = refl
begins_first kinds.Char = refl
begins_first kinds.Nullable = refl
begins_first kinds.NonNull = refl
begins_first kinds.Fat = refl
begins_first kinds.Handle = refl
begins_first kinds.Key = refl

begins_next : (kind : Kind) (at : ℕ) → begins kind (following kind at) ≡ following kind at
begins_next kinds.Int at = omega arith
begins_next kinds.Char at = omega arith
begins_next kinds.Nullable at = omega arith
begins_next kinds.NonNull at = omega arith
begins_next kinds.Fat at = omega arith
begins_next kinds.Handle at = omega arith
begins_next kinds.Key at = omega arith

bytes_of_blanks : (at count : ℕ) (kind : Kind) → begins kind at ≡ at → bytes_from at (kinds_of (blanks count kind)) ≡ at + count * bytes_of_kind kind
bytes_of_blanks at zero kind even = omega arith
bytes_of_blanks at (suc count) kind even = bytes_of_blanks (following kind at) count kind (begins_next kind at) ∙ next (begins kind at) at (bytes_of_kind kind) count even
  where
    next : (here at bytes count : ℕ) → here ≡ at → here + bytes + count * bytes ≡ at + suc count * bytes
    next here at bytes count even = omega (arith, even)

pub elements_size : (count : ℕ) (kind : Kind) → block_size (blanks count kind) ≡ size_of_bytes (count * bytes_of_kind kind)
elements_size count kind = ap (λ (bytes : ℕ). size_of_bytes bytes) (bytes_of_blanks 0 count kind (begins_first kind) ∙ none (count * bytes_of_kind kind))
  where
    none : (n : ℕ) → 0 + n ≡ n
    none n = omega arith

-- ---- spent costs

-- the allocation site (heap or region of a handle) of the blocks in region n, if the first region has the given site
abbrev pub site_at : Site → ℕ → Site
site_at site zero = site
site_at site (suc n) = sites.Region

module _ (m : Measure) where
  blocks_more : (site : Site) (sizes : List ℕ) (size : ℕ) → blocks_spent m site (sizes ++ size ∷ []) ≡ blocks_spent m site sizes + block_cost m site size
  blocks_more site [] size = omega arith
  blocks_more site (x ∷ sizes) size = omega (arith, blocks_more site sizes size)

  -- appending a region without blocks adds only the cost of opening the region
  pub regions_more : (site : Site) (regions : List Region) (sort : Sort) → regions_spent m site (regions ++ new_region sort ∷ []) ≡ regions_spent m site regions + sort_spent m sort
  regions_more site [] sort = omega arith
  regions_more site (x ∷ regions) sort = omega (arith, regions_more sites.Region regions sort)

  regions_set : (site : Site) (regions : List Region) (n : ℕ) (r s : Region) → slice_get regions n ≡ Some r
      → regions_spent m site (set regions n s) + (sort_spent m r.sort + blocks_spent m (site_at site n) r.blocks) ≡ regions_spent m site regions + (sort_spent m s.sort + blocks_spent m (site_at site n) s.blocks)
  regions_set site [] n r s there = absurd (let e : None ≡ Some r = there in cc)
  regions_set site (x ∷ regions) zero r s there =
      let e : Some x ≡ Some r = there in
      let same : x ≡ r = cc in
      let k : sort_spent m x.sort + blocks_spent m site x.blocks ≡ sort_spent m r.sort + blocks_spent m site r.blocks = ap (λ (y : Region). sort_spent m y.sort + blocks_spent m site y.blocks) same in
      omega (arith, k)
  regions_set site (x ∷ regions) (suc zero) r s there = omega (arith, regions_set sites.Region regions zero r s there)
  regions_set site (x ∷ regions) (suc (suc n)) r s there = omega (arith, regions_set sites.Region regions (suc n) r s there)

  pub regions_closed : (site : Site) (regions : List Region) (n : ℕ) (r : Region) → slice_get regions n ≡ Some r → regions_spent m site (set regions n (record r { is_open = false })) ≡ regions_spent m site regions
  regions_closed site regions n r there = omega (arith, regions_set site regions n r (record r { is_open = false }) there)

  pub regions_made : (site : Site) (regions : List Region) (n : ℕ) (r : Region) (size : ℕ) → slice_get regions n ≡ Some r
      → regions_spent m site (set regions n (record r { blocks = r.blocks ++ size ∷ [] })) ≡ regions_spent m site regions + block_cost m (site_at site n) size
  regions_made site regions n r size there = omega (arith, regions_set site regions n r (record r { blocks = r.blocks ++ size ∷ [] }) there, blocks_more (site_at site n) r.blocks size)

  objects_more : (objects : List Object) (x : Object) → objects_spent m (objects ++ x ∷ []) ≡ objects_spent m objects + object_spent m x.owner (block_size x.cells)
  objects_more [] x = omega arith
  objects_more (y ∷ objects) x = omega (arith, objects_more objects x)

  objects_set : (objects : List Object) (n : ℕ) (x y : Object) → slice_get objects n ≡ Some x → object_spent m y.owner (block_size y.cells) ≡ object_spent m x.owner (block_size x.cells)
      → objects_spent m (set objects n y) ≡ objects_spent m objects
  objects_set [] n x y there same = absurd (let e : None ≡ Some x = there in cc)
  objects_set (z ∷ objects) zero x y there same =
      let e : Some z ≡ Some x = there in
      let is : z ≡ x = cc in
      let k : object_spent m z.owner (block_size z.cells) ≡ object_spent m x.owner (block_size x.cells) = ap (λ (o : Object). object_spent m o.owner (block_size o.cells)) is in
      omega (arith, k, same)
  objects_set (z ∷ objects) (suc n) x y there same = omega (arith, objects_set objects n x y there same)

  -- ---- changes of the world

  owner_site : (region : ℕ) (size : ℕ) → block_cost m (site_at sites.Heap region) size ≡ block_cost m (site_of_owner (InRegion region)) size
  owner_site zero size = refl
  owner_site (suc region) size = refl

  spent_made_in : (w : World) (region : ℕ) (r : Region) (cells : List Cell) → region_at w region ≡ Found r
      → spent m (made_in w region r cells) ≡ spent m w + block_cost m (site_of_owner (InRegion region)) (block_size cells)
  spent_made_in w region r cells found =
      let size = block_size cells in
      omega (
        arith,
        regions_made sites.Heap w.regions region r size (region_found w region r found),
        owner_site region size,
        objects_more w.objects (record { owner = InRegion region; cells = cells }),
      )

  pub spent_unique : (w : World) (cells : List Cell) → spent m (made_unique w cells) ≡ spent m w + block_cost m sites.Unique (block_size cells)
  spent_unique w cells = omega (arith, objects_more w.objects (record { owner = Unique true; cells = cells }))

  -- creating an object adds the cost of its block
  spent_created : (w new : World) (owner : Owner) (cells : List Cell) → created w owner cells ≡ Found new → spent m new ≡ spent m w + block_cost m (site_of_owner owner) (block_size cells)
  spent_created w new (InRegion region) cells is = go (region_at w region) refl is
    where
      go : (a : Access Region) → region_at w region ≡ a → created w (InRegion region) cells ≡ Found new → spent m new ≡ spent m w + block_cost m (site_of_owner (InRegion region)) (block_size cells)
      go (Found r) at is =
          let e : Found (made_in w region r cells) ≡ Found new = ap (λ (a : Access Region). created_in w region a cells) (sym at) ∙ is in
          let same : made_in w region r cells ≡ new = cc in
          ap (λ (v : World). spent m v) (sym same) ∙ spent_made_in w region r cells at
      go Closed at is = absurd (let e : Closed ≡ Found new = ap (λ (a : Access Region). created_in w region a cells) (sym at) ∙ is in cc)
      go Missing at is = absurd (let e : Missing ≡ Found new = ap (λ (a : Access Region). created_in w region a cells) (sym at) ∙ is in cc)
  spent_created w new (Unique true) cells is =
      let e : Found (made_unique w cells) ≡ Found new = is in
      let same : made_unique w cells ≡ new = cc in
      ap (λ (v : World). spent m v) (sym same) ∙ spent_unique w cells
  spent_created w new (Unique false) cells is = absurd (let e : Missing ≡ Found new = is in cc)

  spent_freed : (w : World) (n : ℕ) (x : Object) → slice_get w.objects n ≡ Some x → x.owner ≡ Unique true → spent m (freed w n x) ≡ spent m w
  spent_freed w n x there owner =
      let same : object_spent m (Unique false) (block_size x.cells) ≡ object_spent m x.owner (block_size x.cells) = ap (λ (o : Owner). object_spent m o (block_size x.cells)) (sym owner) in
      omega (arith, objects_set w.objects n x (record x { owner = Unique false }) there same)

  spent_written : (w : World) (object offset : ℕ) (at : Located) (value : Value) → cell_at w object offset ≡ Found at → spent m (written w object offset at value) ≡ spent m w
  spent_written w object offset at value found =
      let (there, inside) = cell_found w object offset at found in
      let cell : Cell = record at.cell { content = Some value } in
      let cells : List Cell = set at.object.cells offset cell in
      let kinds : kinds_of cells ≡ kinds_of at.object.cells = map-set (λ (c : Cell). c.kind) at.object.cells offset at.cell cell inside refl in
      let same : object_spent m at.object.owner (block_size cells) ≡ object_spent m at.object.owner (block_size at.object.cells) =
      ap (λ (ks : List Kind). object_spent m at.object.owner (size_of_bytes (bytes_from 0 ks))) kinds in
      omega (arith, objects_set w.objects object at.object (record at.object { cells = cells }) there same)

-- ---- counting functions

-- Says that a function counts the resources used in a heap state: each change of the heap state adds at most its cost.
pub record Counts (m : Measure) (counted : World → ℕ) : Type 0 where
  pub opened : (sort : Sort) (w : World) → counted (opened_as sort w) ≤ counted w + sort_spent m sort
  pub closed : (w : World) (n : ℕ) (r : Region) → region_at w n ≡ Found r → counted (closed w n r) ≤ counted w
  pub named : (w : World) (region : ℕ) (kind : Kind) (content : Option Value) → counted (made w (variable region kind content)) ≤ counted w
  pub created : (w new : World) (owner : Owner) (cells : List Cell) → created w owner cells ≡ Found new → counted new ≤ counted w + block_cost m (site_of_owner owner) (block_size cells)
  pub freed : (w : World) (n : ℕ) (x : Object) → slice_get w.objects n ≡ Some x → x.owner ≡ Unique true → counted (freed w n x) ≤ counted w
  pub written : (w : World) (object offset : ℕ) (at : Located) (value : Value) → cell_at w object offset ≡ Found at → counted (written w object offset at value) ≤ counted w
  pub printed : (w : World) (output : List ℕ) → counted (record w { output = output }) ≤ counted w
  pub read : (w : World) (input : List ℕ) → counted (record w { input = input }) ≤ counted w

pub all_counts : (m : Measure) → Counts m (spent m)
all_counts m = record {
  opened = λ sort w. omega (arith, regions_more m sites.Heap w.regions sort);
  closed = λ w n r found. omega (arith, regions_closed m sites.Heap w.regions n r (region_found w n r found));
  named = λ w region kind content. omega (arith, objects_more m w.objects (variable region kind content));
  created = λ w new owner cells is. omega (arith, spent_created m w new owner cells is);
  freed = λ w n x there owner. omega (arith, spent_freed m w n x there owner);
  written = λ w object offset at value found. omega (arith, spent_written m w object offset at value found);
  printed = λ w output. omega arith;
  read = λ w input. omega arith;
}
