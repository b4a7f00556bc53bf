-- The pages that are asked for, as regions are opened, closed and filled, and as classes of unique blocks grow.
use Rattle.std.proofs.Common.{◌≡◌, ℕ, zero, suc, ◌+◌, ◌-◌, ◌<◌, ◌≤◌, Bool, true, false, List, [], ◌∷◌, ◌++◌, map, length, set, get_or, Some, None, option_map, refl, ap, sym, ◌∙◌, arith, append-nil, append_assoc}
use Rattle.std.specs.Prelude.{nat_le, if◌then◌else◌, slice_get}
use Rattle.std.proofs.lemmas.List.{map-set, map-append}
use Rattle.std.proofs.lemmas.Option.{slice_get-map, slice_get_read}
use Rattle.cyc_words.specs.Demand.{total, pages_from, region_pages, demand_of}
use Rattle.cyc_meaning.specs.State.{Sort, Heap, Globals, Stack, Lexical, Dynamic, Region, has_pages, counted}
use Rattle.cyc_meaning.specs.inside.Effects.{pages_in}
use Rattle.cyc_interpret.specs.declared.objects.Region.{Region as RegionCode}
use Rattle.cyc_interpret.specs.WorldView.{view_sort, view_region}

-- ---- one region

module _ (r : RegionCode) where
  pub pages_are : region_pages r.blocks.items ≡ r.pages
  pages_are = sym (ap (pages_from 1 0) (append-nil r.blocks.items)) ∙ r.full []

  pub pages_grow : (size : ℕ) → region_pages (r.blocks.items ++ size ∷ []) ≡ (if nat_le (r.filled + size) 1024 then r.pages else suc r.pages)
  pages_grow size = r.full (size ∷ []) ∙ go (nat_le (r.filled + size) 1024)
    where
      go : (b : Bool) → (if b then pages_from r.pages (r.filled + size) [] else pages_from (suc r.pages) size []) ≡ (if b then r.pages else suc r.pages)
      go true = refl
      go false = refl

  -- with a block more it stays counted as it is
  pub fits_more : (size : ℕ) → nat_le (r.filled + size) 1024 ≡ true → (rest : List ℕ) → pages_from 1 0 ((r.blocks.items ++ size ∷ []) ++ rest) ≡ pages_from r.pages (r.filled + size) rest
  fits_more size fits rest =
      ap (pages_from 1 0) (append_assoc r.blocks.items (size ∷ []) rest)
      ∙ (r.full (size ∷ rest) ∙ ap (λ (b : Bool). if b then pages_from r.pages (r.filled + size) rest else pages_from (suc r.pages) size rest) fits)

  pub begins_more : (size : ℕ) → nat_le (r.filled + size) 1024 ≡ false → (rest : List ℕ) → pages_from 1 0 ((r.blocks.items ++ size ∷ []) ++ rest) ≡ pages_from (suc r.pages) size rest
  begins_more size past rest =
      ap (pages_from 1 0) (append_assoc r.blocks.items (size ∷ []) rest)
      ∙ (r.full (size ∷ rest) ∙ ap (λ (b : Bool). if b then pages_from r.pages (r.filled + size) rest else pages_from (suc r.pages) size rest) past)

-- what the store keeps for one region
module _ (r : RegionCode) where
  pub held_is : has_pages (view_sort r.sort) r.is_open ≡ true → r.pages ≡ pages_in (view_region r)
  held_is kept = sym (ap (λ (b : Bool). if b then region_pages r.blocks.items else 0) kept ∙ pages_are r)

  pub grows : (size : ℕ) → has_pages (view_sort r.sort) r.is_open ≡ true → nat_le (r.filled + size) 1024 ≡ false
      → pages_in (record (view_region r) { blocks = r.blocks.items ++ size ∷ [] }) ≡ pages_in (view_region r) + 1
  grows size kept past =
      let more : pages_in (record (view_region r) { blocks = r.blocks.items ++ size ∷ [] }) ≡ suc r.pages =
      ap (λ (b : Bool). if b then region_pages (r.blocks.items ++ size ∷ []) else 0) kept ∙ (pages_grow r size ∙ ap (λ (b : Bool). if b then r.pages else suc r.pages) past) in
      omega (arith, more, held_is kept)

  pub fits_in : (size : ℕ) → has_pages (view_sort r.sort) r.is_open ≡ true → nat_le (r.filled + size) 1024 ≡ true
      → pages_in (record (view_region r) { blocks = r.blocks.items ++ size ∷ [] }) ≡ pages_in (view_region r) + 0
  fits_in size kept fits =
      let more : pages_in (record (view_region r) { blocks = r.blocks.items ++ size ∷ [] }) ≡ r.pages =
      ap (λ (b : Bool). if b then region_pages (r.blocks.items ++ size ∷ []) else 0) kept ∙ (pages_grow r size ∙ ap (λ (b : Bool). if b then r.pages else suc r.pages) fits) in
      omega (arith, more, held_is kept)

  pub keeps_none : (size : ℕ) → has_pages (view_sort r.sort) r.is_open ≡ false → pages_in (record (view_region r) { blocks = r.blocks.items ++ size ∷ [] }) ≡ pages_in (view_region r) + 0
  keeps_none size none =
      let more : pages_in (record (view_region r) { blocks = r.blocks.items ++ size ∷ [] }) ≡ 0 = ap (λ (b : Bool). if b then region_pages (r.blocks.items ++ size ∷ []) else 0) none in
      let before : pages_in (view_region r) ≡ 0 = ap (λ (b : Bool). if b then region_pages r.blocks.items else 0) none in
      omega (arith, more, before)

-- a region that is closed has no more than before
pub closes_less : (sort : Sort) (open_now : Bool) (blocks : List ℕ) → pages_in (record { sort = sort; is_open = false; blocks = blocks }) ≤ pages_in (record { sort = sort; is_open = open_now; blocks = blocks })
closes_less Heap open_now blocks = omega arith
closes_less Globals open_now blocks = omega arith
closes_less Stack open_now blocks = omega arith
closes_less Lexical open_now blocks = omega arith
closes_less Dynamic open_now blocks = omega arith

-- ---- all regions

demand_cons : (r : Region) (rs : List (List ℕ)) (classes : List ℕ) → demand_of (if has_pages r.sort r.is_open then r.blocks ∷ rs else rs) classes ≡ pages_in r + demand_of rs classes
demand_cons r rs classes = go (has_pages r.sort r.is_open)
  where
    go : (b : Bool) → demand_of (if b then r.blocks ∷ rs else rs) classes ≡ (if b then region_pages r.blocks else 0) + demand_of rs classes
    go true = refl
    go false = omega arith

pub counted-append : (rs : List Region) (r : Region) (classes : List ℕ) → demand_of (counted (rs ++ r ∷ [])) classes ≡ demand_of (counted rs) classes + pages_in r
counted-append [] r classes = omega (arith, demand_cons r [] classes)
counted-append (x ∷ rs) r classes = omega (arith, demand_cons x (counted (rs ++ r ∷ [])) classes, demand_cons x (counted rs) classes, counted-append rs r classes)

pub counted-set : (rs : List Region) (n : ℕ) (r s : Region) (classes : List ℕ) → slice_get rs n ≡ Some r → demand_of (counted (set rs n s)) classes + pages_in r ≡ demand_of (counted rs) classes + pages_in s
counted-set [] n r s classes there = absurd (let e : None ≡ Some r = there in cc)
counted-set (x ∷ rs) zero r s classes there =
    let e : Some x ≡ Some r = there in
    let same : x ≡ r = cc in
    let pages : pages_in x ≡ pages_in r = ap (λ (y : Region). pages_in y) same in
    omega (arith, pages, demand_cons s (counted rs) classes, demand_cons x (counted rs) classes)
counted-set (x ∷ rs) (suc n) r s classes there = omega (arith, demand_cons x (counted (set rs n s)) classes, demand_cons x (counted rs) classes, counted-set rs n r s classes there)

-- ---- classes

demand_parts : (rs : List (List ℕ)) (classes : List ℕ) → demand_of rs classes ≡ demand_of rs [] + total classes
demand_parts [] classes = omega arith
demand_parts (r ∷ rs) classes = omega (arith, demand_parts rs classes)

total_where_set : (classes : List ℕ) (i v : ℕ) → i < length classes → total (set classes i v) + get_or classes i 0 ≡ total classes + v
total_where_set [] i v less = absurd (omega (arith, less))
total_where_set (c ∷ classes) zero v less = omega arith
total_where_set (c ∷ classes) (suc i) v less = omega (arith, total_where_set classes i v (omega (arith, less)))

pub classes-set : (rs : List (List ℕ)) (classes : List ℕ) (i v : ℕ) → i < length classes → demand_of rs (set classes i v) + get_or classes i 0 ≡ demand_of rs classes + v
classes-set rs classes i v less = omega (arith, demand_parts rs (set classes i v), demand_parts rs classes, total_where_set classes i v less)

pub class_within : (rs : List (List ℕ)) (classes : List ℕ) (i : ℕ) → i < length classes → get_or classes i 0 ≤ demand_of rs classes
class_within rs classes i less = omega (arith, classes-set rs classes i 0 less)

-- ---- the regions of a machine

-- one more region
pub opened_pages : (rs new : List RegionCode) (r : RegionCode) (classes : List ℕ) (pages held sum : ℕ) → new ≡ rs ++ r ∷ [] → demand_of (counted (map view_region rs)) classes ≡ pages → held ≡ pages_in (view_region r) → sum ≡ pages + held
    → demand_of (counted (map view_region new)) classes ≡ sum
opened_pages rs new r classes pages held sum one before is more =
    let all : demand_of (counted (map view_region new)) classes ≡ demand_of (counted (map view_region rs ++ view_region r ∷ [])) classes =
    ap (λ (l : List RegionCode). demand_of (counted (map view_region l)) classes) one ∙ ap (λ (l : List Region). demand_of (counted l) classes) (map-append view_region rs (r ∷ [])) in
    omega (arith, all, counted-append (map view_region rs) (view_region r) classes, before, is, more)

-- one region changed
module _ (rs : List RegionCode) (i : ℕ) (r new : RegionCode) (classes : List ℕ) (within : i < length rs) (is : r ≡ get_or rs i r) where
  seen_region : slice_get (map view_region rs) i ≡ Some (view_region r)
  seen_region = slice_get-map view_region rs i ∙ ap (option_map view_region) (slice_get_read rs (length rs) i r refl within is)

  pub changed_pages : demand_of (counted (map view_region (set rs i new))) classes + pages_in (view_region r) ≡ demand_of (counted (map view_region rs)) classes + pages_in (view_region new)
  changed_pages =
      ap (λ (l : List Region). demand_of (counted l) classes + pages_in (view_region r)) (map-set view_region rs i new)
      ∙ counted-set (map view_region rs) i (view_region r) (view_region new) classes seen_region

pages_below : (rs : List Region) (i : ℕ) (r : Region) (classes : List ℕ) → slice_get rs i ≡ Some r → pages_in r ≤ demand_of (counted rs) classes
pages_below [] i r classes there = absurd (let e : None ≡ Some r = there in cc)
pages_below (x ∷ rs) zero r classes there =
    let e : Some x ≡ Some r = there in
    let same : x ≡ r = cc in
    let pages : pages_in x ≡ pages_in r = ap (λ (y : Region). pages_in y) same in
    omega (arith, pages, demand_cons x (counted rs) classes)
pages_below (x ∷ rs) (suc i) r classes there = omega (arith, demand_cons x (counted rs) classes, pages_below rs i r classes there)

pub held_below : (rs : List RegionCode) (i : ℕ) (r : RegionCode) (classes : List ℕ) → i < length rs → r ≡ get_or rs i r → pages_in (view_region r) ≤ demand_of (counted (map view_region rs)) classes
held_below rs i r classes within is =
    pages_below (map view_region rs) i (view_region r) classes (slice_get-map view_region rs i ∙ ap (option_map view_region) (slice_get_read rs (length rs) i r refl within is))

-- one region closed
module _ (rs : List RegionCode) (i : ℕ) (r new : RegionCode) (classes : List ℕ) (within : i < length rs) (is : r ≡ get_or rs i r) (pages freed : ℕ) (all : demand_of (counted (map view_region rs)) classes ≡ pages) (less : pages_in (view_region new) + freed ≡ pages_in (view_region r)) where
  pub closed_below : freed ≤ pages
  closed_below = omega (arith, less, all, held_below rs i r classes within is)

  pub closed_pages : demand_of (counted (map view_region (set rs i new))) classes ≡ pages - freed
  closed_pages = omega (arith, less, all, changed_pages rs i r new classes within is, closed_below)

-- one region with more blocks
module _ (rs : List RegionCode) (i : ℕ) (r new : RegionCode) (classes : List ℕ) (within : i < length rs) (is : r ≡ get_or rs i r) (pages : ℕ) (all : demand_of (counted (map view_region rs)) classes ≡ pages) where
  pub grown_pages : (more sum : ℕ) (blocks : List ℕ) → view_region new ≡ record (view_region r) { blocks = blocks } → pages_in (record (view_region r) { blocks = blocks }) ≡ pages_in (view_region r) + more → sum ≡ pages + more
      → demand_of (counted (map view_region (set rs i new))) classes ≡ sum
  grown_pages more sum blocks made grown is_sum = omega (arith, grown, is_sum, all, ap (λ (x : Region). pages_in x) made, changed_pages rs i r new classes within is)

  pub same_pages : view_region new ≡ view_region r → demand_of (counted (map view_region (set rs i new))) classes ≡ pages
  same_pages same = omega (arith, all, ap (λ (x : Region). pages_in x) same, changed_pages rs i r new classes within is)

-- a region that is open is there
pub open_within : (rs : List RegionCode) (i : ℕ) → option_map (λ (r : Region). r.is_open) (slice_get (map view_region rs) i) ≡ Some true → i < length rs
open_within [] i there = absurd (let e : None ≡ Some true = there in cc)
open_within (r ∷ rs) zero there = omega arith
open_within (r ∷ rs) (suc i) there = omega (arith, open_within rs i there)

-- one class with other pages
pub raised_pages : (rs : List (List ℕ)) (classes : List ℕ) (i v pages sum : ℕ) → i < length classes → demand_of rs classes ≡ pages → sum ≡ pages - get_or classes i 0 + v → demand_of rs (set classes i v) ≡ sum
raised_pages rs classes i v pages sum within all is = omega (arith, is, all, classes-set rs classes i v within, class_within rs classes i within)
