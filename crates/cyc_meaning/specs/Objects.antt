-- Objects that a program allocates, frees and compares. (Cyclone's heap, regions and unique pointers, Grossman et al. 2002 and the User's
-- Manual, 1.0. The accounting of blocks and classes is this project's own choice.)
use Rattle.std.specs.Prelude.{ℕ, suc, ◌==◌, ◌&&◌, Bool, true, false, max, if◌then◌else◌, List, [], ◌∷◌, ◌++◌, Option, Some, None, get_or, slice_get, set}
use Rattle.cyc_words.specs.Demand.{class_of, pages_for}
use Rattle.cyc_meaning.specs.Values.{Value, Null, Thin, Cell, block_size}
use Rattle.cyc_meaning.specs.State.{Region, Owner, InRegion, Unique, Object, World, Access, Found, Closed, Missing, region_at, is_live, made}

-- ---- access to objects

abbrev pub found_object : World → Option Object → Access Object
found_object w None = Missing
found_object w (Some x) = if is_live w x.owner then Found x else Closed

abbrev pub object_at : World → ℕ → Access Object
object_at w number = found_object w (slice_get w.objects number)

-- Compares two thin pointers: they are equal if both are null, or if object and offset are equal. If neither compared pointer is null,
-- the objects of both must be live.
abbrev pub both_found : Access Object → Access Object → (equal : Bool) → Access Bool
both_found (Found x) (Found y) equal = Found equal
both_found (Found x) Closed equal = Closed
both_found (Found x) Missing equal = Missing
both_found Closed Missing equal = Missing
both_found Closed found equal = Closed
both_found Missing found equal = Missing

abbrev pub compared : World → (left right : Value) → Access Bool
compared w Null Null = Found true
compared w Null (Thin object offset) = Found false
compared w (Thin object offset) Null = Found false
compared w (Thin object offset) (Thin other place) =
    both_found (object_at w object) (object_at w other) (object == other && offset == place)
compared w left right = Missing

-- ---- allocation

-- Allocates an object in a region: a block of the object's size is appended to the region's blocks.
abbrev pub made_in : World → (region : ℕ) → Region → List Cell → World
made_in w region r cells = record (made w (record { owner = InRegion region; cells = cells })) {
  regions = set w.regions region (record r { blocks = r.blocks ++ block_size cells ∷ [] });
}

-- Returns the size class of the block of a unique object.
abbrev pub class_of_cells : List Cell → ℕ
class_of_cells cells = class_of (block_size cells)

abbrev pub is_live_in : (class : ℕ) → Owner → List Cell → Bool
is_live_in class (InRegion region) cells = false
is_live_in class (Unique live) cells = live && class_of_cells cells == class

-- Returns the number of live unique objects of a size class.
abbrev pub live_in : (class : ℕ) → List Object → ℕ
live_in class [] = 0
live_in class (x ∷ objects) = if is_live_in class x.owner x.cells then suc (live_in class objects) else live_in class objects

-- Returns the number of pages of each size class if `live` blocks of one class are live; the pages of a class never decrease.
abbrev pub raised : (classes : List ℕ) → (class live : ℕ) → List ℕ
raised classes class live = set classes class (max (get_or classes class 0) (pages_for class live))

abbrev pub made_unique : World → List Cell → World
made_unique w cells = record (made w (record { owner = Unique true; cells = cells })) {
  classes = raised w.classes (class_of_cells cells) (suc (live_in (class_of_cells cells) w.objects));
}

abbrev pub created_in : World → (region : ℕ) → Access Region → List Cell → Access World
created_in w region (Found r) cells = Found (made_in w region r cells)
created_in w region Closed cells = Closed
created_in w region Missing cells = Missing

-- Returns the heap state with a new object of the given owner; the object gets the next unused index.
abbrev pub created : World → Owner → List Cell → Access World
created w (InRegion region) cells = created_in w region (region_at w region) cells
created w (Unique true) cells = Found (made_unique w cells)
created w (Unique false) cells = Missing

-- ---- freeing

-- Frees a unique object: the object keeps its index, its cells and the values in them.
abbrev pub freed : World → (number : ℕ) → Object → World
freed w number x = record w { objects = set w.objects number (record x { owner = Unique false }) }
