-- Regions and objects that are changed, and what is seen of the change.
use Rattle.std.proofs.Common.{rules, ◌≡◌, refl, ap, sym, ◌∙◌, ℕ, zero, suc, ◌+◌, ◌-◌, ◌<◌, ◌≤◌, Bool, true, false, Option, Some, None, option_map, List, [], ◌∷◌, ◌++◌, map, length, slice_get, set, get_or, arith}
use Rattle.std.specs.Prelude.{◌==◌, max}
use Rattle.std.proofs.lemmas.List.{map-set, map-append, length-map, get_or-set_same, get_or-set_other}
use Rattle.std.proofs.lemmas.Bool.{eqb-true, eqb-false, eq-eqb, ne_eqb}
use Rattle.std.proofs.lemmas.Option.{slice_get-map, slice_get_read, get_or_from_slice_get}
use Rattle.std.specs.Vec.{with_item}
use Rattle.cyc_words.specs.Demand.{class_of, pages_for}
use Rattle.cyc_words.proofs.Items.{map-set as map_set_same}
use Rattle.cyc_types.specs.declared.typed.Kind.{Kind}
use Rattle.cyc_meaning.specs.Allocation.{blanks}
use Rattle.cyc_meaning.specs.Values.{Cell, blank, block_size, kinds_of, words_for, bytes_from}
use Rattle.cyc_meaning.specs.State.{Region, Owner, InRegion, Unique, Object, Located}
use Rattle.cyc_meaning.specs.Objects.{live_in, class_of_cells, raised}
use Rattle.cyc_interpret.specs.declared.value.Value.{Value as ValueCode}
use Rattle.cyc_interpret.specs.declared.objects.Region.{Region as RegionCode}
use Rattle.cyc_interpret.specs.declared.objects.Cell.{Cell as CellCode}
use Rattle.cyc_interpret.specs.declared.objects.Object.{Object as ObjectCode}
use Rattle.cyc_interpret.specs.WorldView.{view_value, view_region, view_owner, view_cell, view_object}
use Rattle.cyc_interpret.proofs.LiveCounts.{one, counts_in, live-few, live-more, live-set, counts-same, counts-freed, counts-unique}

-- what is read by a view is the view of what is read
pub seen_of_view : {A B : Type 0} (v : A → B) (xs : List A) (i : ℕ) (a : A) (b : B) (f : Option A) → slice_get xs i ≡ f → slice_get (map v xs) i ≡ Some b → a ≡ get_or xs i a → b ≡ v a
seen_of_view v xs i a b None e at is =
    let no : None ≡ Some b = sym (slice_get-map v xs i ∙ ap (option_map v) e) ∙ at in
    search (rules, no)
seen_of_view v xs i a b (Some y) e at is =
    let same : a ≡ y = is ∙ get_or_from_slice_get xs i y a e in
    let there : Some b ≡ Some (v y) = sym at ∙ (slice_get-map v xs i ∙ ap (option_map v) e) in
    let equal : b ≡ v y = search (rules, there) in
    equal ∙ ap v (sym same)

-- the regions after one of them is changed
pub region_set : (rs : List RegionCode) (i : ℕ) (r : RegionCode) (s : Region) → slice_get (map view_region rs) i ≡ Some s → r ≡ get_or rs i r
    → (new : RegionCode) (change : Region → Region) → view_region new ≡ change (view_region r) → map view_region (set rs i new) ≡ set (map view_region rs) i (change s)
region_set rs i r s at is new change changes =
    let same : s ≡ view_region r = seen_of_view view_region rs i r s (slice_get rs i) refl at is in
    map-set view_region rs i new ∙ ap (set (map view_region rs) i) (changes ∙ ap change (sym same))

-- the objects after a cell of one of them is written
module _ (xs : List ObjectCode) (i k : ℕ) (o : ObjectCode) (d : CellCode) (v : ValueCode) where
  abbrev pub rewritten : ObjectCode
  rewritten = record o { cells = with_item o.cells k (record d { content = Some v }) }

  pub writes : (at : Located) → slice_get (map view_object xs) i ≡ Some at.object → slice_get at.object.cells k ≡ Some at.cell → o ≡ get_or xs i o → d ≡ get_or o.cells.items k d
      → map view_object (set xs i rewritten) ≡ set (map view_object xs) i (record at.object { cells = set at.object.cells k (record at.cell { content = Some (view_value v) }) })
  writes at there inner is here =
      let object : at.object ≡ view_object o = seen_of_view view_object xs i o at.object (slice_get xs i) refl there is in
      let within : slice_get (map view_cell o.cells.items) k ≡ Some at.cell = rw object at inner in
      let same : at.cell ≡ view_cell d = seen_of_view view_cell o.cells.items k d at.cell (slice_get o.cells.items k) refl within here in
      rw object (rw same (map-set view_object xs i rewritten ∙ ap (λ cells. set (map view_object xs) i (record (view_object o) { cells = cells })) (map-set view_cell o.cells.items k (record d { content = Some v }))))

  -- and how many unique ones are live
  pub writes_counts : (at : Located) → slice_get (map view_object xs) i ≡ Some at.object → slice_get at.object.cells k ≡ Some at.cell → o ≡ get_or xs i o → d ≡ get_or o.cells.items k d
      → (class : ℕ) → live_in class (map view_object (set xs i rewritten)) ≡ live_in class (map view_object xs)
  writes_counts at there inner is here class =
      let c : Cell = record at.cell { content = Some (view_value v) } in
      let x : Object = record at.object { cells = set at.object.cells k c } in
      let change : live_in class (set (map view_object xs) i x) + counts_in class at.object ≡ live_in class (map view_object xs) + counts_in class x = live-set class (map view_object xs) i at.object x there in
      let kinds : kinds_of (set at.object.cells k c) ≡ kinds_of at.object.cells = map_set_same (λ (y : Cell). y.kind) at.object.cells k at.cell c inner refl in
      let size : block_size (set at.object.cells k c) ≡ block_size at.object.cells = ap (λ ks. max 1 (words_for (bytes_from 0 ks))) kinds in
      let same : counts_in class x ≡ counts_in class at.object = counts-same class at.object.owner (set at.object.cells k c) at.object.cells size in
      ap (live_in class) (writes at there inner is here) ∙ omega (arith, change, same)

-- one object more
pub more_counts : (class : ℕ) (xs : List ObjectCode) (o : ObjectCode) → live_in class (map view_object (xs ++ o ∷ [])) ≡ live_in class (map view_object xs) + counts_in class (view_object o)
more_counts class xs o = ap (live_in class) (map-append view_object xs (o ∷ [])) ∙ live-more class (map view_object xs) (view_object o)

pub objects_more : (xs new : List ObjectCode) (o : ObjectCode) → new ≡ xs ++ o ∷ [] → map view_object new ≡ map view_object xs ++ view_object o ∷ []
objects_more xs new o one = ap (map view_object) one ∙ map-append view_object xs (o ∷ [])

-- one object given back
pub freed_counts : (class : ℕ) (xs : List ObjectCode) (i : ℕ) (o new : ObjectCode) (x : Object) → slice_get (map view_object xs) i ≡ Some x → view_object new ≡ record x { owner = Unique false }
    → live_in class (map view_object (set xs i new)) + counts_in class x ≡ live_in class (map view_object xs)
freed_counts class xs i o new x there is =
    let change = live-set class (map view_object xs) i x (view_object new) there in
    let none : counts_in class (view_object new) ≡ 0 = ap (counts_in class) is ∙ counts-freed class x.cells in
    let same : live_in class (map view_object (set xs i new)) ≡ live_in class (set (map view_object xs) i (view_object new)) = ap (live_in class) (map-set view_object xs i new) in
    omega (arith, change, none, same)

-- the counts after one of them is changed
pub count_set : (live : List ℕ) (c v : ℕ) (f : ℕ → ℕ) → c < length live → f c ≡ v → ((class : ℕ) → class < 11 → (class ≡ c → ⊥) → f class ≡ get_or live class 0) → (class : ℕ) → class < 11 → f class ≡ get_or (set live c v) class 0
count_set live c v f within here others class less = go (class == c) refl
  where
    go : (b : Bool) → (class == c) ≡ b → f class ≡ get_or (set live c v) class 0
    go true e =
        let same : class ≡ c = eqb-true class c e in
        ap f same ∙ (here ∙ (sym (get_or-set_same live c v 0 within) ∙ ap (λ n. get_or (set live c v) n 0) (sym same)))
    go false e = others class less (eqb-false class c e) ∙ sym (get_or-set_other live c class v 0 (eqb-false class c e))

-- the counts after a unique object is made, and after one is given back
module _ (live : List ℕ) (eleven : length live ≡ 11) (xs : List ObjectCode) (counts : (class : ℕ) → class < 11 → live_in class (map view_object xs) ≡ get_or live class 0) (cells : List Cell) (c : ℕ) (named : c ≡ class_of (block_size cells)) (small : c < 11) where
  counts_here : counts_in c (record { owner = Unique true; cells = cells }) ≡ 1
  counts_here = counts-unique c cells ∙ ap one (eq-eqb (class_of (block_size cells)) c (sym named))

  counts_other : (class : ℕ) → (class ≡ c → ⊥) → counts_in class (record { owner = Unique true; cells = cells }) ≡ 0
  counts_other class other = counts-unique class cells ∙ ap one (ne_eqb (class_of (block_size cells)) class (λ same. other (sym (named ∙ same))))

  pub made_counts : (o : ObjectCode) → view_object o ≡ record { owner = Unique true; cells = cells } → (class : ℕ) → class < 11
      → live_in class (map view_object (xs ++ o ∷ [])) ≡ get_or (set live c (get_or live c 0 + 1)) class 0
  made_counts o is = count_set live c (get_or live c 0 + 1) (λ class. live_in class (map view_object (xs ++ o ∷ []))) (omega (arith, small, eleven)) here others
    where
      here : live_in c (map view_object (xs ++ o ∷ [])) ≡ get_or live c 0 + 1
      here =
          let more = more_counts c xs o in
          let told : counts_in c (view_object o) ≡ 1 = ap (counts_in c) is ∙ counts_here in
          omega (arith, more, told, counts c small)

      others : (class : ℕ) → class < 11 → (class ≡ c → ⊥) → live_in class (map view_object (xs ++ o ∷ [])) ≡ get_or live class 0
      others class less other =
          let more = more_counts class xs o in
          let told : counts_in class (view_object o) ≡ 0 = ap (counts_in class) is ∙ counts_other class other in
          omega (arith, more, told, counts class less)

  pub freed_all_counts : (i : ℕ) (o new : ObjectCode) → slice_get (map view_object xs) i ≡ Some (record { owner = Unique true; cells = cells }) → view_object new ≡ record { owner = Unique false; cells = cells } → (class : ℕ) → class < 11
      → live_in class (map view_object (set xs i new)) ≡ get_or (set live c (get_or live c 0 - 1)) class 0
  freed_all_counts i o new there is = count_set live c (get_or live c 0 - 1) (λ class. live_in class (map view_object (set xs i new))) (omega (arith, small, eleven)) here others
    where
      here : live_in c (map view_object (set xs i new)) ≡ get_or live c 0 - 1
      here =
          let less = freed_counts c xs i o new (record { owner = Unique true; cells = cells }) there is in
          omega (arith, less, counts_here, counts c small)

      others : (class : ℕ) → class < 11 → (class ≡ c → ⊥) → live_in class (map view_object (set xs i new)) ≡ get_or live class 0
      others class below other =
          let less = freed_counts class xs i o new (record { owner = Unique true; cells = cells }) there is in
          omega (arith, less, counts_other class other, counts class below)

  -- some object of this class is live
  pub freed_some : (i : ℕ) → slice_get (map view_object xs) i ≡ Some (record { owner = Unique true; cells = cells }) → 1 ≤ get_or live c 0
  freed_some i there =
      let less = live-set c (map view_object xs) i (record { owner = Unique true; cells = cells }) (record { owner = Unique false; cells = cells }) there in
      omega (arith, less, counts_here, counts-freed c cells, counts c small)

-- an object that is read
module _ (xs : List ObjectCode) (i : ℕ) (o : ObjectCode) (within : i < length xs) (is : o ≡ get_or xs i o) where
  seen_object : slice_get (map view_object xs) i ≡ Some (view_object o)
  seen_object = slice_get-map view_object xs i ∙ ap (option_map view_object) (slice_get_read xs (length xs) i o refl within is)

  owned : (owner : Owner) → option_map (λ (x : Object). x.owner) (slice_get (map view_object xs) i) ≡ Some owner → view_owner o.owner ≡ owner
  owned owner there =
      let e : Some (view_owner o.owner) ≡ Some owner = sym (ap (option_map (λ (x : Object). x.owner)) seen_object) ∙ there in
      cc

  pub seen_unique : option_map (λ (x : Object). x.owner) (slice_get (map view_object xs) i) ≡ Some (Unique true) → slice_get (map view_object xs) i ≡ Some (record { owner = Unique true; cells = map view_cell o.cells.items })
  seen_unique there =
      seen_object ∙ ap (λ (owner : Owner). Some (record { owner = owner; cells = map view_cell o.cells.items })) (owned (Unique true) there)

pub object_within : (xs : List ObjectCode) (i : ℕ) (owner : Owner) → option_map (λ (x : Object). x.owner) (slice_get (map view_object xs) i) ≡ Some owner → i < length xs
object_within [] i owner there = absurd (let e : None ≡ Some owner = there in cc)
object_within (x ∷ xs) zero owner there = omega arith
object_within (x ∷ xs) (suc i) owner there = omega (arith, object_within xs i owner there)

-- the objects after one of them is given back
pub frees_viewed : (xs : List ObjectCode) (i : ℕ) (o : ObjectCode) (x : Object) → slice_get (map view_object xs) i ≡ Some x → o ≡ get_or xs i o
    → (new : ObjectCode) → view_object new ≡ record (view_object o) { owner = Unique false } → map view_object (set xs i new) ≡ set (map view_object xs) i (record x { owner = Unique false })
frees_viewed xs i o x at is new gone =
    let same : x ≡ view_object o = seen_of_view view_object xs i o x (slice_get xs i) refl at is in
    map-set view_object xs i new ∙ ap (set (map view_object xs) i) (gone ∙ ap (λ (y : Object). record y { owner = Unique false }) (sym same))

-- few objects of a class are live
pub live_small : (live : List ℕ) (xs : List ObjectCode) (c : ℕ) → live_in c (map view_object xs) ≡ get_or live c 0 → get_or live c 0 ≤ length xs
live_small live xs c counts = omega (arith, counts, live-few c (map view_object xs), length-map xs view_object)

-- one object more that no class counts
pub region_counts : (xs new : List ObjectCode) (o : ObjectCode) (region : ℕ) → view_owner o.owner ≡ InRegion region → new ≡ xs ++ o ∷ [] → (live : List ℕ) → ((class : ℕ) → class < 11 → live_in class (map view_object xs) ≡ get_or live class 0)
    → (class : ℕ) → class < 11 → live_in class (map view_object new) ≡ get_or live class 0
region_counts xs new o region in_region one live counts class less =
    let none : counts_in class (view_object o) ≡ 0 = ap (λ (owner : Owner). counts_in class (record { owner = owner; cells = map view_cell o.cells.items })) in_region in
    let all : live_in class (map view_object new) ≡ live_in class (map view_object (xs ++ o ∷ [])) = ap (λ (l : List ObjectCode). live_in class (map view_object l)) one in
    omega (arith, all, none, more_counts class xs o, counts class less)

-- the pages of the classes after a unique object is made
pub made_classes : (classes : List ℕ) (xs : List Object) (cells : List Cell) (c n v : ℕ) → c ≡ class_of_cells cells → n ≡ live_in c xs → v ≡ max (get_or classes c 0) (pages_for c (n + 1))
    → set classes c v ≡ raised classes (class_of_cells cells) (suc (live_in (class_of_cells cells) xs))
made_classes classes xs cells c n v named counts is =
    let more : n + 1 ≡ suc (live_in c xs) = omega (arith, counts) in
    ap (set classes c) (is ∙ ap (λ (k : ℕ). max (get_or classes c 0) (pages_for c k)) more) ∙ ap (λ (d : ℕ). raised classes d (suc (live_in d xs))) named

-- one blank cell more
pub blanks_more : (n m : ℕ) (kind : Kind) → m ≡ n + 1 → blanks m kind ≡ blanks n kind ++ blank kind ∷ []
blanks_more n m kind is = ap (λ k. blanks k kind) (is ∙ one_more n) ∙ grows n
  where
    one_more : (k : ℕ) → k + 1 ≡ suc k
    one_more k = omega arith

    grows : (k : ℕ) → blanks (suc k) kind ≡ blanks k kind ++ blank kind ∷ []
    grows zero = refl
    grows (suc k) = ap (λ cells. blank kind ∷ cells) (grows k)
