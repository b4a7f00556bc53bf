-- This file proves that a step without a fault has found the object or region that it looked up.
use Rattle.std.proofs.Common.{◌≡◌, ◌≢◌, ℕ, Bool, true, false, List, length, set, Option, None, Some, slice_get, refl, ap, ◌∙◌, length-set}
use Rattle.std.specs.Prelude.{if◌then◌else◌, ◌==◌, ◌&&◌}
use Rattle.std.proofs.lemmas.Bool.{eqb-true}
use Rattle.cyc_words.specs.Simulation.{Failed}
use Rattle.cyc_words.proofs.Items.{slice_get-set_same, slice_get-set_other}
use Rattle.cyc_types.specs.declared.typed.Kind.{Kind}
use Rattle.cyc_meaning.specs.Values.{Value, Thin, Operand, Cell, kinds_of, is_kind, are_kinds}
use Rattle.cyc_meaning.specs.Pointers.{At, Nowhere}
use Rattle.cyc_meaning.specs.Places.{arrives, member_of, field_of}
use Rattle.cyc_meaning.specs.State.{Region, Object, World, Access, Found, Closed, Missing, region_at, is_live, Located, located, cell_in, cell_at, closed, written, Environment, with_local, made, variable, Entry, Focus, Given, GivenPlace, State, Running, status_of}
use Rattle.cyc_meaning.specs.Step.{wrong, read, loaded, loaded_from, stored, declared, closing}
use Rattle.cyc_meaning.specs.SourceMachine.{status_in}
use Rattle.cyc_meaning.proofs.NestingLemmas.{region_is}
use Rattle.cyc_lower_proof.proofs.slots.Widths.{same_kind, same_kinds}
use Rattle.cyc_lower_proof.proofs.relation.contents.HeldValues.{with_kind, content_of_cell, content_of, contents}

abbrev pub IsWell : State → Type 0
IsWell s = status_in (status_of s) ≡ Failed → ⊥

-- If a step that makes a check ends without a fault, then the check has succeeded.
pub is_fitting : (fits : Bool) (s : State) (w : World) → IsWell (if fits then s else wrong w) → fits ≡ true
is_fitting true s w well = refl
is_fitting false s w well = absurd (well refl)

-- ---- reading a value

pub record IsLoaded (kind : Kind) (object : Option ℕ) (stack : List Entry) (e : Environment) (w : World) : Type 0 where
  pub number : ℕ
  pub value : Value
  pub there : object ≡ Some number
  pub has : contents w.objects number ≡ Some (record { kind = kind; value = value })
  pub gives : loaded_from kind object stack e w ≡ Running (Given (record { kind = kind; value = value })) stack e w

-- Says that a step reads the value in a cell.
abbrev Reads : Kind → Option Operand → State → List Entry → Environment → World → Type 0
Reads kind content s stack e w =
    (v : Value) × (content ≡ Some (record { kind = kind; value = v })) × (s ≡ Running (Given (record { kind = kind; value = v })) stack e w)

read_cell : (kind : Kind) (c : Cell) (content : Option Value) (fits : Bool) (stack : List Entry) (e : Environment) (w : World) → is_kind c.kind kind ≡ fits
    → IsWell (if fits then read kind content stack e w else wrong w) → Reads kind (with_kind c.kind content) (if fits then read kind content stack e w else wrong w) stack e w
read_cell kind c content false stack e w is well = absurd (well refl)
read_cell kind c None true stack e w is well = absurd (well refl)
read_cell kind c (Some v) true stack e w is well = (v, ap (λ (i : Kind). with_kind i (Some v)) (same_kind c.kind kind is), refl)

read_object : (kind : Kind) (x : Object) (cell : Option Cell) (live : Bool) (stack : List Entry) (e : Environment) (w : World)
    → IsWell (loaded kind (if live then located x cell else Closed) stack e w)
    → Reads kind (content_of_cell cell) (loaded kind (if live then located x cell else Closed) stack e w) stack e w
read_object kind x cell false stack e w well = absurd (well refl)
read_object kind x None true stack e w well = absurd (well refl)
read_object kind x (Some c) true stack e w well = read_cell kind c c.content (is_kind c.kind kind) stack e w refl well

read_from : (kind : Kind) (x : Option Object) (stack : List Entry) (e : Environment) (w : World)
    → IsWell (loaded kind (cell_in w x 0) stack e w)
    → Reads kind (content_of x) (loaded kind (cell_in w x 0) stack e w) stack e w
read_from kind None stack e w well = absurd (well refl)
read_from kind (Some x) stack e w well = read_object kind x (slice_get x.cells 0) (is_live w x.owner) stack e w well

pub is_loaded : (kind : Kind) (object : Option ℕ) (stack : List Entry) (e : Environment) (w : World) → IsWell (loaded_from kind object stack e w) → IsLoaded kind object stack e w
is_loaded kind None stack e w well = absurd (well refl)
is_loaded kind (Some number) stack e w well =
    let (v, has, gives) = read_from kind (slice_get w.objects number) stack e w well in
    record { number = number; value = v; there = refl; has = has; gives = gives }

-- ---- storing a value

pub record IsStored (number : ℕ) (v : Operand) (focus : Focus) (stack : List Entry) (e : Environment) (w : World) : Type 0 where
  pub at : Located
  pub object_there : slice_get w.objects number ≡ Some at.object
  pub cell_there : slice_get at.object.cells 0 ≡ Some at.cell
  pub same : at.cell.kind ≡ v.kind
  pub gives : stored (cell_at w number 0) number 0 v focus stack e w ≡ Running focus stack e (written w number 0 at v.value)

store_cell : (at : Located) (fits : Bool) (number : ℕ) (v : Operand) (focus : Focus) (stack : List Entry) (e : Environment) (w : World)
    → IsWell (if fits then Running focus stack e (written w number 0 at v.value) else wrong w)
    → (fits ≡ true) × ((if fits then Running focus stack e (written w number 0 at v.value) else wrong w) ≡ Running focus stack e (written w number 0 at v.value))
store_cell at true number v focus stack e w well = (refl, refl)
store_cell at false number v focus stack e w well = absurd (well refl)

store_object : (x : Object) (cell : Option Cell) (live : Bool) (number : ℕ) (v : Operand) (focus : Focus) (stack : List Entry) (e : Environment) (w : World)
    → IsWell (stored (if live then located x cell else Closed) number 0 v focus stack e w)
    → (c : Cell) × (cell ≡ Some c) × (c.kind ≡ v.kind) × (stored (if live then located x cell else Closed) number 0 v focus stack e w ≡ Running focus stack e (written w number 0 (record { object = x; cell = c }) v.value))
store_object x cell false number v focus stack e w well = absurd (well refl)
store_object x None true number v focus stack e w well = absurd (well refl)
store_object x (Some c) true number v focus stack e w well =
    let (fits, gives) = store_cell (record { object = x; cell = c }) (is_kind c.kind v.kind) number v focus stack e w well in
    (c, refl, same_kind c.kind v.kind fits, gives)

store_into : (x : Option Object) (number : ℕ) (v : Operand) (focus : Focus) (stack : List Entry) (e : Environment) (w : World)
    → IsWell (stored (cell_in w x 0) number 0 v focus stack e w)
    → (at : Located) × (x ≡ Some at.object) × (slice_get at.object.cells 0 ≡ Some at.cell) × (at.cell.kind ≡ v.kind)
    × (stored (cell_in w x 0) number 0 v focus stack e w ≡ Running focus stack e (written w number 0 at v.value))
store_into None number v focus stack e w well = absurd (well refl)
store_into (Some x) number v focus stack e w well =
    let (c, there, same, gives) = store_object x (slice_get x.cells 0) (is_live w x.owner) number v focus stack e w well in
    (record { object = x; cell = c }, refl, there, same, gives)

pub is_stored : (number : ℕ) (v : Operand) (focus : Focus) (stack : List Entry) (e : Environment) (w : World) → IsWell (stored (cell_at w number 0) number 0 v focus stack e w) → IsStored number v focus stack e w
is_stored number v focus stack e w well =
    let (at, object_there, cell_there, same, gives) = store_into (slice_get w.objects number) number v focus stack e w well in
    record { at = at; object_there = object_there; cell_there = cell_there; same = same; gives = gives }

-- The values stored in the objects after a variable has been written.
module _ (w : World) (number : ℕ) (at : Located) (v : Value) (object_there : slice_get w.objects number ≡ Some at.object) (cell_there : slice_get at.object.cells 0 ≡ Some at.cell) where
  pub written_here : (kind : Kind) → at.cell.kind ≡ kind → contents (written w number 0 at v).objects number ≡ Some (record { kind = kind; value = v })
  written_here kind same =
      ap content_of (slice_get-set_same w.objects number at.object (record at.object { cells = set at.object.cells 0 (record at.cell { content = Some v }) }) object_there)
      ∙ ap content_of_cell (slice_get-set_same at.object.cells 0 at.cell (record at.cell { content = Some v }) cell_there)
      ∙ ap (λ (i : Kind). with_kind i (Some v)) same

  pub written_elsewhere : (o : ℕ) → o ≢ number → contents (written w number 0 at v).objects o ≡ contents w.objects o
  written_elsewhere o other = ap content_of (slice_get-set_other w.objects number o (record at.object { cells = set at.object.cells 0 (record at.cell { content = Some v }) }) other)

  pub written_length : length (written w number 0 at v).objects ≡ length w.objects
  written_length = length-set w.objects number (record at.object { cells = set at.object.cells 0 (record at.cell { content = Some v }) })

-- ---- finding a field

pub record IsMember (object start : ℕ) (fields : List Kind) (field : ℕ) (stack : List Entry) (e : Environment) (w : World) : Type 0 where
  pub of_object : Object
  pub there : slice_get w.objects object ≡ Some of_object
  pub first : start ≡ 0
  pub same : kinds_of of_object.cells ≡ fields
  pub gives : arrives (member_of w (At object start) fields field) stack e w ≡ Running (GivenPlace (Thin object field)) stack e w

pub is_member : (object start : ℕ) (fields : List Kind) (field : ℕ) (stack : List Entry) (e : Environment) (w : World) → IsWell (arrives (member_of w (At object start) fields field) stack e w)
    → IsMember object start fields field stack e w
is_member object start fields field stack e w well =
    let (x, there, first, same, gives) = of_object (slice_get w.objects object) well in
    record { of_object = x; there = there; first = first; same = same; gives = gives }
  where
    tested : (x : Object) (a b : Bool) → (start == 0) ≡ a → are_kinds (kinds_of x.cells) fields ≡ b → IsWell (arrives (if a && b then At object field else Nowhere) stack e w)
        → (start ≡ 0) × (kinds_of x.cells ≡ fields) × (arrives (if a && b then At object field else Nowhere) stack e w ≡ Running (GivenPlace (Thin object field)) stack e w)
    tested x true true at are well = (eqb-true start 0 at, same_kinds (kinds_of x.cells) fields are, refl)
    tested x true false at are well = absurd (well refl)
    tested x false b at are well = absurd (well refl)

    of_object : (o : Option Object) → IsWell (arrives (field_of o object start fields field) stack e w)
        → (x : Object) × (o ≡ Some x) × (start ≡ 0) × (kinds_of x.cells ≡ fields) × (arrives (field_of o object start fields field) stack e w ≡ Running (GivenPlace (Thin object field)) stack e w)
    of_object None well = absurd (well refl)
    of_object (Some x) well = let (first, same, gives) = tested x (start == 0) (are_kinds (kinds_of x.cells) fields) refl refl well in (x, refl, first, same, gives)

-- ---- declaring a local

pub is_declared : (a : Access Region) (focus : Focus) (number : ℕ) (kind : Kind) (content : Option Value) (stack : List Entry) (e : Environment) (w : World)
    → IsWell (declared a focus number kind content stack e w)
    → declared a focus number kind content stack e w ≡ Running focus stack (with_local e number (length w.objects)) (made w (variable e.home kind content))
is_declared (Found r) focus number kind content stack e w well = refl
is_declared Closed focus number kind content stack e w well = absurd (well refl)
is_declared Missing focus number kind content stack e w well = absurd (well refl)

-- ---- closing a region

pub record IsClosed (focus : Focus) (number home : ℕ) (stack : List Entry) (e : Environment) (w : World) : Type 0 where
  pub region : Region
  pub there : slice_get w.regions number ≡ Some region
  pub gives : closing (region_at w number) focus number home stack e w ≡ Running focus stack (record e { home = home }) (closed w number region)

closes_found : (a : Access Region) (focus : Focus) (number home : ℕ) (stack : List Entry) (e : Environment) (w : World) → IsWell (closing a focus number home stack e w)
    → (r : Region) × (a ≡ Found r) × (closing a focus number home stack e w ≡ Running focus stack (record e { home = home }) (closed w number r))
closes_found (Found r) focus number home stack e w well = (r, refl, refl)
closes_found Closed focus number home stack e w well = absurd (well refl)
closes_found Missing focus number home stack e w well = absurd (well refl)

pub is_closed : (focus : Focus) (number home : ℕ) (stack : List Entry) (e : Environment) (w : World) → IsWell (closing (region_at w number) focus number home stack e w) → IsClosed focus number home stack e w
is_closed focus number home stack e w well =
    let (r, is, gives) = closes_found (region_at w number) focus number home stack e w well in
    record { region = r; there = region_is (slice_get w.regions number) r is; gives = gives }

-- A variable that is declared without a fault is declared in an existing region.
pub home_there : (focus : Focus) (number : ℕ) (kind : Kind) (content : Option Value) (stack : List Entry) (e : Environment) (w : World)
    → IsWell (declared (region_at w e.home) focus number kind content stack e w) → (r : Region) × (slice_get w.regions e.home ≡ Some r)
home_there focus number kind content stack e w well = by (region_at w e.home) refl well
  where
    by : (a : Access Region) → region_at w e.home ≡ a → IsWell (declared a focus number kind content stack e w) → (r : Region) × (slice_get w.regions e.home ≡ Some r)
    by (Found r) is well = (r, region_is (slice_get w.regions e.home) r is)
    by Closed is well = absurd (well refl)
    by Missing is well = absurd (well refl)
