-- This file is about variables and their regions: declarations, assignments, opening and closing leave the heap store unchanged.
use Rattle.std.proofs.Common.{◌≡◌, ℕ, ◌+◌, ◌<◌, Bool, true, false, List, [], ◌∷◌, ◌++◌, length, set, Option, None, Some, refl, sym, ap, subst, ◌∙◌, inl, inr, arith, length-set}
use Rattle.std.specs.Prelude.{slice_get}
use Rattle.std.proofs.lemmas.List.{length_push}
use Rattle.cyc_words.proofs.Options.{same_from_some}
use Rattle.cyc_words.proofs.Items.{slice_get_front, map-set, below_from_slice_get, slice_get_last_cases, slice_get-set_cases}
use Rattle.cyc_words.proofs.Lists.{slice_get_last, slice_get_below}
use Rattle.cyc_types.specs.declared.typed.Kind.{Kind}
use Rattle.cyc_store.specs.State.{StoreState}
use Rattle.cyc_store.specs.declared.range.TheConstants.{HEAP}
use Rattle.cyc_meaning.specs.Values.{Value, Cell, kinds_of, block_size}
use Rattle.cyc_meaning.specs.State.{Sort, Heap, Globals, Stack, Lexical, Dynamic, Region, Owner, InRegion, Unique, Object, World, heap_number, has_pages, new_region, opened_as, closed, variable, made, written}
use Rattle.cyc_memory_relation.specs.inside.Tables.{Row, Placed, Tables, with_row, with_handle}
use Rattle.cyc_memory_relation.specs.inside.Related.{sort_of, lies_in, Alive, IsOfVariable, IsVariableAt, HasKinds, Within, Related}
use Rattle.cyc_memory_relation.proofs.Values.{Grows-same, Grows-row, Grows-handle, variable-grows}
use Rattle.cyc_memory_relation.proofs.RegionLemmas.{handles-length, Regions-variables, shut, Regions-shut, lies-home, lies-set, lies-last}
use Rattle.cyc_memory_relation.proofs.Serving.{words-unmoved, objects-inherited, alone-inherited}
use Rattle.cyc_memory_relation.proofs.Cells.{variable-elsewhere, size_of, live_in-set}
use Rattle.cyc_memory_relation.proofs.Making.{live-last}

pub shut-home : (sort : Sort) (flag : Bool) → has_pages sort false ≡ true → has_pages sort flag ≡ true
shut-home Heap flag kept = refl
shut-home Globals flag kept = absurd (let e : false ≡ true = kept in cc)
shut-home Stack flag kept = absurd (let e : false ≡ true = kept in cc)
shut-home Lexical flag kept = absurd (let e : false ≡ true = kept in cc)
shut-home Dynamic flag kept = absurd (let e : false ≡ true = kept in cc)

-- ---- one more region

pub within-more : (rs : List Region) (q : Region) (owner : Owner) → Within (length rs) owner → Within (length (rs ++ q ∷ [])) owner
within-more rs q (InRegion n) within = let e : length (rs ++ q ∷ []) ≡ length rs + 1 = length_push rs q in omega (arith, within, e)
within-more rs q (Unique live) within = tt

-- The entry that the table of handles gets for the next opened region is found under the index of this region.
pub handle-made : {t : Tables} {w : World} {s : StoreState} → Related t w s → (h : Option ℕ) → slice_get (with_handle t h).handles (length w.regions) ≡ Some h
handle-made {t} related h = subst (λ n. slice_get (t.handles ++ h ∷ []) n ≡ Some h) (handles-length related.regions) (slice_get_last t.handles h)

-- The region of an existing object was already in the table of handles before another region is added.
pub entry-older : {t : Tables} {w : World} {s : StoreState} → Related t w s → (e : Option ℕ) (o n : ℕ) (y : Object) → slice_get w.objects o ≡ Some y
    → y.owner ≡ InRegion n → slice_get (t.handles ++ e ∷ []) n ≡ Some None → slice_get t.handles n ≡ Some None
entry-older {t} {w} related e o n y at owner entry =
    let within : n < length w.regions = subst (Within (length w.regions)) owner (related.owned o y at) in
    let (q, old) = slice_get_below t.handles n (subst (λ m. n < m) (sym (handles-length related.regions)) within) in
    old ∙ (sym (slice_get_front t.handles (e ∷ []) n q old) ∙ entry)

module _ {t : Tables} {w : World} {s : StoreState} (related : Related t w s) where
  -- ---- declaring a variable

  pub declared : (n : ℕ) (r : Region) (kind : Kind) (content : Option Value) (row : Row) → slice_get w.regions n ≡ Some r → slice_get t.handles n ≡ Some None
      → HasKinds (variable n kind content).cells row → IsOfVariable row → Related (with_row t row) (made w (variable n kind content)) s
  declared n r kind content row there entry fits outside = record {
    sound = related.sound;
    few = related.few;
    heap = related.heap;
    rows = length_push t.rows row ∙ (ap (λ n. n + 1) related.rows ∙ sym (length_push w.objects (variable n kind content)));
    regions = related.regions;
    classes = related.classes;
    uniques = λ class. related.uniques class ∙ sym (live-last class w.objects (variable n kind content));
    owned = λ o y at. elim (slice_get_last_cases w.objects (variable n kind content) o y at) [
      | inl old ↦ related.owned o y old
      | inr new ↦ subst (λ (z : Object). Within (length w.regions) z.owner) (sym new.1) (below_from_slice_get w.regions n r there)
    ];
    shapes = λ o a ks y at placed. elim (slice_get_last_cases w.objects (variable n kind content) o y at) [
      | inl old ↦
          let (q, is) = slice_get_below t.rows o (subst (λ m. o < m) (sym related.rows) (below_from_slice_get w.objects o y old)) in
          related.shapes o a ks y old (is ∙ (sym (slice_get_front t.rows (row ∷ []) o q is) ∙ placed))
      | inr new ↦
          subst (HasKinds (variable n kind content).cells) (same_from_some (sym (row-new o new.0) ∙ placed)) fits
          ∙ ap (λ (z : Object). kinds_of z.cells) (sym new.1)
    ];
    variables = λ o m y at owner is. elim (slice_get_last_cases w.objects (variable n kind content) o y at) [
      | inl old ↦ variable-grows (Grows-row t row) o (related.variables o m y old owner is)
      | inr new ↦ (row, row-new o new.0, outside)
    ];
    objects = objects-inherited related (Grows-row t row) (words-unmoved related.sound) before (λ o h a ks y b alive placed at. at);
    alone = alone-inherited related (Grows-row t row) (words-unmoved related.sound) before (λ o h a ks y b alive placed at. at);
  }
    where
      row-new : (o : ℕ) → o ≡ length w.objects → slice_get (t.rows ++ row ∷ []) o ≡ Some row
      row-new o is = subst (λ m. slice_get (t.rows ++ row ∷ []) m ≡ Some row) (related.rows ∙ sym is) (slice_get_last t.rows row)

      before : (o h : ℕ) (y : Object) → Alive (with_row t row) (made w (variable n kind content)) o h y → Alive t w o h y
      before o h y alive = elim (slice_get_last_cases w.objects (variable n kind content) o y alive.at) [
        | inl old ↦ record { at = old; lies = alive.lies }
        | inr new ↦
            let (z, at, kept, other) = lies-home t.handles w.regions n h (ap (λ (x : Object). lies_in t.handles w.regions x.owner) (sym new.1) ∙ alive.lies) in
            absurd (let e : None ≡ Some h = same_from_some (sym entry ∙ other) in cc)
      ]

  -- ---- assigning a variable

  -- The relation between the source's heap state and the heap store is preserved when any object outside the store is assigned.
  pub assigned-away : (o k : ℕ) (x : Object) (c : Cell) (v : Value) → slice_get w.objects o ≡ Some x → slice_get x.cells k ≡ Some c
      → ((h : ℕ) → Alive t w o h x → ⊥) → Related t (written w o k (record { object = x; cell = c }) v) s
  assigned-away o k x c v there at away = record {
    sound = related.sound;
    few = related.few;
    heap = related.heap;
    rows = related.rows ∙ sym (length-set w.objects o (record x { cells = set x.cells k (record c { content = Some v }) }));
    regions = related.regions;
    classes = related.classes;
    uniques = λ class. related.uniques class ∙ sym (live_in-set class w.objects o x (record x { cells = set x.cells k (record c { content = Some v }) }) there refl size);
    owned = λ i y is. elim (slice_get-set_cases w.objects o i x (record x { cells = set x.cells k (record c { content = Some v }) }) y there is) [
      | inl here ↦ subst (λ (z : Object). Within (length w.regions) z.owner) (sym here.1) (related.owned o x there)
      | inr other ↦ related.owned i y other.1
    ];
    shapes = λ i a ks y is placed. elim (slice_get-set_cases w.objects o i x (record x { cells = set x.cells k (record c { content = Some v }) }) y there is) [
      | inl here ↦
          related.shapes o a ks x there (subst (λ m. slice_get t.rows m ≡ Some (Placed a ks)) here.0 placed)
          ∙ (sym kinds ∙ ap (λ (z : Object). kinds_of z.cells) (sym here.1))
      | inr other ↦ related.shapes i a ks y other.1 placed
    ];
    variables = λ i n y is owner entry. elim (slice_get-set_cases w.objects o i x (record x { cells = set x.cells k (record c { content = Some v }) }) y there is) [
      | inl here ↦ subst (IsVariableAt t) (sym here.0) (related.variables o n x there (sym (ap (λ (z : Object). z.owner) here.1) ∙ owner) entry)
      | inr other ↦ related.variables i n y other.1 owner entry
    ];
    objects = objects-inherited related (Grows-same t) (words-unmoved related.sound) before (λ i h a ks y b alive placed found. found);
    alone = alone-inherited related (Grows-same t) (words-unmoved related.sound) before (λ i h a ks y b alive placed found. found);
  }
    where
      kinds : kinds_of (set x.cells k (record c { content = Some v })) ≡ kinds_of x.cells
      kinds = map-set (λ (z : Cell). z.kind) x.cells k c (record c { content = Some v }) at refl

      size : block_size (set x.cells k (record c { content = Some v })) ≡ block_size x.cells
      size = ap size_of kinds

      before : (i h : ℕ) (y : Object) → Alive t (written w o k (record { object = x; cell = c }) v) i h y → Alive t w i h y
      before i h y alive = elim (slice_get-set_cases w.objects o i x (record x { cells = set x.cells k (record c { content = Some v }) }) y there alive.at) [
        | inl here ↦ absurd (away h (record { at = there; lies = sym (ap (λ (z : Object). lies_in t.handles w.regions z.owner) here.1) ∙ alive.lies }))
        | inr other ↦ record { at = other.1; lies = alive.lies }
      ]

  pub assigned-variable : (o k n : ℕ) (x : Object) (c : Cell) (v : Value) → slice_get w.objects o ≡ Some x → slice_get x.cells k ≡ Some c
      → x.owner ≡ InRegion n → slice_get t.handles n ≡ Some None → Related t (written w o k (record { object = x; cell = c }) v) s
  assigned-variable o k n x c v there at owner entry = assigned-away o k x c v there at (λ h alive. variable-elsewhere related o n h x owner entry alive)

  -- ---- opening and closing a region of variables

  pub opened-variables : (sort : Sort) → sort_of sort ≡ None → Related (with_handle t None) (opened_as sort w) s
  opened-variables sort none = record {
    sound = related.sound;
    few = related.few;
    heap = slice_get_front t.handles (None ∷ []) heap_number (Some HEAP) related.heap;
    rows = related.rows;
    regions = Regions-variables sort none related.regions;
    classes = related.classes;
    uniques = related.uniques;
    owned = λ o y at. further y.owner (related.owned o y at);
    shapes = related.shapes;
    variables = λ o n y at owner entry. related.variables o n y at owner (older o n y at owner entry);
    objects = objects-inherited related (Grows-handle t None) (words-unmoved related.sound) before (λ o h a ks y b alive row found. found);
    alone = alone-inherited related (Grows-handle t None) (words-unmoved related.sound) before (λ o h a ks y b alive row found. found);
  }
    where
      before : (o h : ℕ) (y : Object) → Alive (with_handle t None) (opened_as sort w) o h y → Alive t w o h y
      before o h y alive = record {
        at = alive.at;
        lies = lies-last t.handles w.regions None (new_region sort) h y.owner (handles-length related.regions) (related.owned o y alive.at) alive.lies;
      }

      further : (owner : Owner) → Within (length w.regions) owner → Within (length (w.regions ++ new_region sort ∷ [])) owner
      further owner within = within-more w.regions (new_region sort) owner within

      older : (o n : ℕ) (y : Object) → slice_get w.objects o ≡ Some y → y.owner ≡ InRegion n → slice_get (t.handles ++ None ∷ []) n ≡ Some None
          → slice_get t.handles n ≡ Some None
      older o n y at owner entry = entry-older related None o n y at owner entry

  pub closed-variables : (n : ℕ) (r : Region) → slice_get w.regions n ≡ Some r → slice_get t.handles n ≡ Some None → Related t (closed w n r) s
  closed-variables n r there entry = record {
    sound = related.sound;
    few = related.few;
    heap = related.heap;
    rows = related.rows;
    regions = Regions-shut related.regions n r there entry;
    classes = related.classes;
    uniques = related.uniques;
    owned = λ o y at. subst (λ m. Within m y.owner) (sym (length-set w.regions n (shut r))) (related.owned o y at);
    shapes = related.shapes;
    variables = related.variables;
    objects = objects-inherited related (Grows-same t) (words-unmoved related.sound) before (λ o h a ks y b alive row found. found);
    alone = alone-inherited related (Grows-same t) (words-unmoved related.sound) before (λ o h a ks y b alive row found. found);
  }
    where
      before : (o h : ℕ) (y : Object) → Alive t (closed w n r) o h y → Alive t w o h y
      before o h y alive = record {
        at = alive.at;
        lies = lies-set t.handles w.regions n h (shut r) r y.owner there (shut-home r.sort r.is_open) alive.lies;
      }
