-- Regions that are closed or opened by a key, and cells that are written.
use Rattle.std.proofs.Common.{◌≡◌, refl, ap, ℕ, true, false, Option, Some, None, option_map, List, ◌∷◌, slice_get}
use Rattle.cyc_types.specs.declared.typed.Kind.TheVariants as kinds
use Rattle.cyc_types.specs.TypedTrees.{Items}
use Rattle.cyc_meaning.specs.Values.{Operand, Handle, is_kind}
use Rattle.cyc_meaning.specs.State.{Region, Owner, Object, World, Environment, Entry, EndLoan, Focus, Proceeding, Naming, Running, Located, Found, found_region, region_at, cell_at, closed, written}
use Rattle.cyc_meaning.specs.Parts.{stored, closing, wrong}
use Rattle.cyc_meaning.specs.Regions.{is_dynamic, closing_lexical, opened_by, closes_dynamic, frees_in_region, frees_owned, frees_object}

-- a region that is open is found
pub open_found : (f : Option Region) → option_map (λ (r : Region). r.is_open) f ≡ Some true → (r : Region) × (f ≡ Some r) × (found_region f ≡ Found r)
open_found None is = absurd (let no : None ≡ Some true = is in cc)
open_found (Some r) is =
    let e : Some r.is_open ≡ Some true = is in
    let live : r.is_open ≡ true = cc in
    (r, refl, rw live refl)

module _ (w : World) (region : ℕ) (stack : List Entry) (e : Environment) (open_now : option_map (λ (r : Region). r.is_open) (slice_get w.regions region) ≡ Some true) where
  module _ (new : World) (is : (r : Region) → slice_get w.regions region ≡ Some r → new ≡ closed w region r) where
    pub closes : (home : ℕ) (focus : Focus) → Running focus stack (record e { home = home }) new ≡ closing (region_at w region) focus region home stack e w
    closes home focus =
        let (r, at, found) = open_found (slice_get w.regions region) open_now in
        rw found (ap (λ (x : World). Running focus stack (record e { home = home }) x) (is r at))

    pub closes_lexically : (focus : Focus) → Running focus stack e new ≡ closing_lexical (region_at w region) focus region stack e w
    closes_lexically focus =
        let (r, at, found) = open_found (slice_get w.regions region) open_now in
        rw found (ap (λ (x : World). Running focus stack e x) (is r at))

    pub closes_by_key : ((r : Region) → slice_get w.regions region ≡ Some r → is_dynamic r.sort ≡ true) → Running Proceeding stack e new ≡ closes_dynamic (region_at w region) region stack e w
    closes_by_key kind =
        let (r, at, found) = open_found (slice_get w.regions region) open_now in
        rw found (rw (kind r at) (ap (λ (x : World). Running Proceeding stack e x) (is r at)))

  pub closes_no_other : ((r : Region) → slice_get w.regions region ≡ Some r → is_dynamic r.sort ≡ false) → wrong w ≡ closes_dynamic (region_at w region) region stack e w
  closes_no_other kind =
      let (r, at, found) = open_found (slice_get w.regions region) open_now in
      rw found (rw (kind r at) refl)

  pub opens_by : (number lent : ℕ) (items : Items) → ((r : Region) → slice_get w.regions region ≡ Some r → is_dynamic r.sort ≡ true)
      → Running (Naming number (record { kind = kinds.Handle; value = Handle region }) items) (EndLoan lent ∷ stack) e w ≡ opened_by (region_at w region) region number lent items stack e w
  opens_by number lent items kind =
      let (r, at, found) = open_found (slice_get w.regions region) open_now in
      rw found (rw (kind r at) refl)

  pub opens_no_other : (number lent : ℕ) (items : Items) → ((r : Region) → slice_get w.regions region ≡ Some r → is_dynamic r.sort ≡ false) → wrong w ≡ opened_by (region_at w region) region number lent items stack e w
  opens_no_other number lent items kind =
      let (r, at, found) = open_found (slice_get w.regions region) open_now in
      rw found (rw (kind r at) refl)

  pub no_unique : wrong w ≡ frees_in_region (region_at w region) w
  no_unique =
      let (r, at, found) = open_found (slice_get w.regions region) open_now in
      rw found refl

-- a cell that is found and written
pub stores_found : (w new : World) (object offset : ℕ) (at : Located) (operand : Operand) (focus : Focus) (stack : List Entry) (e : Environment) → cell_at w object offset ≡ Found at → is_kind at.cell.kind operand.kind ≡ true → new ≡ written w object offset at operand.value
    → Running focus stack e new ≡ stored (cell_at w object offset) object offset operand focus stack e w
stores_found w new object offset at operand focus stack e found kind is = rw found (rw kind (ap (λ (x : World). Running focus stack e x) is))

-- an object that is found is freed by its owner
pub frees_by : (w : World) (object : ℕ) (owner : Owner) (found : Option Object) (stack : List Entry) (e : Environment) → option_map (λ (x : Object). x.owner) found ≡ Some owner
    → (x : Object) × (found ≡ Some x) × (frees_object found object stack e w ≡ frees_owned owner object x stack e w)
frees_by w object owner None stack e is = absurd (let no : None ≡ Some owner = is in cc)
frees_by w object owner (Some x) stack e is =
    let some : Some x.owner ≡ Some owner = is in
    let same : x.owner ≡ owner = cc in
    (x, refl, ap (λ (o : Owner). frees_owned o object x stack e w) same)
