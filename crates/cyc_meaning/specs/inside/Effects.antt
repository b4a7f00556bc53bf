-- Definitions for the laws of the step: its visible effects, its changes to the heap state, and the properties of regions and objects
-- that stay. The division of effects is this project's own choice.
use Rattle.std.specs.Prelude.{◌≡◌, ℕ, suc, ◌+◌, ◌%◌, Bool, true, false, if◌then◌else◌, List, [], ◌∷◌, ◌++◌, drop, Option, Some, slice_get}
use Rattle.cyc_types.specs.declared.typed.Kind.{Kind}
use Rattle.cyc_types.specs.declared.typed.Callee.TheVariants as callees
use Rattle.cyc_meaning.specs.Values.{Value, Int, Cell, kinds_of, block_size}
use Rattle.cyc_meaning.specs.State.{Sort, Region, Owner, InRegion, Unique, Object, World, Found, region_at, Located, cell_at, new_region, opened_as, closed, variable, made}
use Rattle.cyc_meaning.specs.State.{written, State, Running, Ended, Dead, Wrong, Entry, Caller, Main, Focus, Calling, Proceeding, Returning, Throwing, has_pages, counted, calls_in}
use Rattle.cyc_words.specs.Demand.{total, region_pages, demand_of}
use Rattle.cyc_meaning.specs.Objects.{made_in, made_unique, freed}
use Rattle.cyc_meaning.specs.Step.{values_of}

-- Returns the bytes that a step prints: one for `putchar` of an int.
abbrev pub printed_of : List Value → List ℕ
printed_of (Int word ∷ []) = word % 256 ∷ []
printed_of arguments = []

abbrev pub printed_by : Focus → List ℕ
printed_by (Calling callees.Putchar arguments) = printed_of (values_of arguments)
printed_by focus = []

-- Returns the number of bytes that a step reads, if any are left: one for `getchar`.
abbrev pub read_of : List Value → ℕ
read_of [] = 1
read_of arguments = 0

abbrev pub read_by : Focus → ℕ
read_by (Calling callees.Getchar arguments) = read_of (values_of arguments)
read_by focus = 0

-- Returns the number of active calls after a step. A call of a function adds one, the end of a call subtracts one, and any other step
-- leaves it unchanged.
abbrev pub calls_after : Focus → List Entry → ℕ
calls_after (Calling (callees.Function number) arguments) stack = suc (calls_in stack)
calls_after Proceeding (Caller outer ∷ stack) = calls_in stack
calls_after (Returning value) (Caller outer ∷ stack) = calls_in stack
calls_after (Throwing tag value) (Caller outer ∷ stack) = calls_in stack
calls_after (Throwing tag value) (Main ∷ stack) = calls_in stack
calls_after focus stack = calls_in stack

-- ---- changes of the world

-- The effect of one step on the heap state: no change, or one change, such as opening a region or allocating an object. The bytes
-- that the step prints and the number of bytes that it reads are parameters of this type.
pub data Changes (w : World) : (printed : List ℕ) → (count : ℕ) → World → Type 0 where
  Keeps : Changes w [] 0 w
  Opens : (sort : Sort) → Changes w [] 0 (opened_as sort w)
  Closes : (number : ℕ) (r : Region) → region_at w number ≡ Found r → Changes w [] 0 (closed w number r)
  Makes : (number : ℕ) (r : Region) (kind : Kind) (content : Option Value) → region_at w number ≡ Found r → Changes w [] 0 (made w (variable number kind content))
  -- Allocates an object that is not a variable: in a region, or as a unique object.
  MakesIn : (number : ℕ) (r : Region) (cells : List Cell) → region_at w number ≡ Found r → Changes w [] 0 (made_in w number r cells)
  MakesUnique : (cells : List Cell) → Changes w [] 0 (made_unique w cells)
  Frees : (number : ℕ) (x : Object) → slice_get w.objects number ≡ Some x → x.owner ≡ Unique true → Changes w [] 0 (freed w number x)
  Writes : (object offset : ℕ) (at : Located) (value : Value) → cell_at w object offset ≡ Found at → Changes w [] 0 (written w object offset at value)
  Prints : (word : ℕ) → Changes w (word % 256 ∷ []) 0 (record w { output = w.output ++ word % 256 ∷ [] })
  Reads : Changes w [] 1 (record w { input = drop 1 w.input })

-- ---- demand

-- Returns the number of pages in use in total; `pages_in` returns that of one region, which is 0 if the region has no pages.
abbrev pub pages_of : World → ℕ
pages_of w = demand_of (counted w.regions) w.classes

abbrev pub pages_in : Region → ℕ
pages_in r = if has_pages r.sort r.is_open then region_pages r.blocks else 0

-- States the effect of a change of the heap state on the number of pages in use. A region that opens needs its first page if it has
-- pages at all, and a region that closes frees its pages. A new block may need one more page in its region or in its size class; the
-- number of pages of a size class never decreases. No other step changes the number of pages in use.
abbrev pub DemandChanges : {w new : World} {printed : List ℕ} {count : ℕ} → Changes w printed count new → Type 0
DemandChanges {w} {new} (Opens sort) = pages_of new ≡ pages_of w + pages_in (new_region sort)
DemandChanges {w} {new} (Closes number r found) = pages_of new + pages_in r ≡ pages_of w + pages_in (record r { is_open = false })
DemandChanges {w} {new} (MakesIn number r cells found) =
    pages_of new + pages_in r ≡ pages_of w + pages_in (record r { blocks = r.blocks ++ block_size cells ∷ [] })
DemandChanges {w} {new} (MakesUnique cells) = pages_of new + total w.classes ≡ pages_of w + total new.classes
DemandChanges {w} {new} change = pages_of new ≡ pages_of w

-- The change of the heap state that a step makes, if the step does not end the run.
abbrev pub ChangesIn : World → (printed : List ℕ) → (count : ℕ) → State → Type 0
ChangesIn old printed count (Running focus stack e new) = Changes old printed count new
ChangesIn old printed count (Ended ending output input) = Unit {0}
ChangesIn old printed count (Dead output input) = Unit {0}
ChangesIn old printed count (Wrong output input) = Unit {0}

-- ---- facts that are preserved

-- Says that a region keeps its sort, and stays closed once it is closed.
pub record RegionStays (old new : Region) : Type 0 where
  pub sort : new.sort ≡ old.sort
  pub closed : old.is_open ≡ false → new.is_open ≡ false

-- Says how an object's owner may change: a region stays the owner, a unique object stays unique, and a freed object stays freed.
abbrev pub OwnerStays : (old new : Owner) → Type 0
OwnerStays (InRegion region) new = new ≡ InRegion region
OwnerStays (Unique true) new = (live : Bool) × (new ≡ Unique live)
OwnerStays (Unique false) new = new ≡ Unique false

-- Says that an object keeps its owner and the kinds of its cells.
pub record ObjectStays (old new : Object) : Type 0 where
  pub owner : OwnerStays old.owner new.owner
  pub kinds : kinds_of new.cells ≡ kinds_of old.cells

-- Says that no index of a region or an object is reused: each region and each object keeps its index.
pub record WorldStays (old new : World) : Type 0 where
  pub regions : (number : ℕ) (r : Region) → slice_get old.regions number ≡ Some r
      → (s : Region) × (slice_get new.regions number ≡ Some s) × RegionStays r s
  pub objects : (number : ℕ) (x : Object) → slice_get old.objects number ≡ Some x
      → (y : Object) × (slice_get new.objects number ≡ Some y) × ObjectStays x y

-- Says that regions and objects keep their indices if the new state is a running state.
abbrev pub StaysIn : World → State → Type 0
StaysIn old (Running focus stack e new) = WorldStays old new
StaysIn old (Ended ending output input) = Unit {0}
StaysIn old (Dead output input) = Unit {0}
StaysIn old (Wrong output input) = Unit {0}
