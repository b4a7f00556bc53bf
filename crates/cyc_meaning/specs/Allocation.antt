-- New objects are allocated by `new` and `rnew`. An initial value is evaluated before its block is allocated. For an array, the length is
-- evaluated first, then the block is allocated, then its elements are evaluated. Allocating an object is one step and leaves its cells
-- blank; each value is then written in one step. (`new` and `rnew` are Cyclone's, Grossman et al. 2002; the order, and the maximal length
-- of an array, are this project's own choice.)
use Rattle.std.specs.Prelude.{ℕ, zero, suc, ◌*◌, ◌==◌, true, nat_le, if◌then◌else◌, List, [], ◌∷◌, map, reverse, length, Some}
use Rattle.cyc_types.specs.declared.typed.Kind.{Kind}
use Rattle.cyc_types.specs.declared.typed.Kind.TheVariants as kinds
use Rattle.cyc_types.specs.TypedTrees.{Expression, Placement, OnHeap, AsUnique, ByHandle, Initial, Plain, Fields, Array, Convert, Arguments, NoArguments, MoreArguments}
use Rattle.cyc_meaning.specs.Values.{Value, Int, Thin, Fat, Handle, Operand, Cell, blank, bytes_of_kind, words_for, is_kind}
use Rattle.cyc_meaning.specs.Operators.{array_size}
use Rattle.cyc_meaning.specs.State.{Owner, InRegion, Unique, World, Access, Found, Closed, Missing, heap_number, cell_at, Environment, with_counter, ConvertTo, PlaceBy, BesideHandle}
use Rattle.cyc_meaning.specs.State.{MakePlain, MakeFields, MakeArray, FillElement, Entry, Needs, Write, Evaluating, Writing, Beginning, Repeating, Throwing, State, Running}
use Rattle.cyc_meaning.specs.Objects.{created}
use Rattle.cyc_meaning.specs.Parts.{dead, wrong, gives, stored, target_by}

-- ---- objects with a value for each cell

-- Returns the writes of the given values into an object's cells from the given offset on, in order.
abbrev pub writes_from : (object offset : ℕ) → List Operand → List Write
writes_from object offset [] = []
writes_from object offset (v ∷ values) = record { place = Thin object offset; operand = v } ∷ writes_from object (suc offset) values

abbrev pub blanks_of : List Operand → List Cell
blanks_of values = map (λ (v : Operand). blank v.kind) values

-- Allocates an object with one cell for each of the given values. The pointer to the new object is never null.
abbrev pub filled : Access World → (object : ℕ) → List Operand → List Entry → Environment → World → State
filled (Found new) object values stack e w =
    Running (Writing (writes_from object 0 values) (Some (record { kind = kinds.NonNull; value = Thin object 0 }))) stack e new
filled Closed object values stack e w = dead w
filled Missing object values stack e w = wrong w

abbrev pub makes_of : Owner → List Operand → List Entry → Environment → World → State
makes_of owner values stack e w = filled (created w owner (blanks_of values)) (length w.objects) values stack e w

-- Allocates an object of one cell, whose kind is given by the type of its initial expression.
abbrev pub makes_plain : Owner → Kind → Operand → List Entry → Environment → World → State
makes_plain owner kind value stack e w = if is_kind value.kind kind then makes_of owner (value ∷ []) stack e w else wrong w

-- Evaluates and converts the fields of a new struct one by one, like the arguments of a call.
abbrev pub makes_fields : Owner → (before : List Operand) → Arguments → List Entry → Environment → World → State
makes_fields owner before NoArguments stack e w = makes_of owner (reverse before) stack e w
makes_fields owner before (MoreArguments (Convert from to a) fields) stack e w =
    Running (Evaluating a) (Needs (ConvertTo from to (target_by a)) ∷ Needs (MakeFields owner before fields) ∷ stack) e w

-- ---- arrays

-- The maximal number of words of an array.
abbrev pub most_words : ℕ
most_words = 1000

abbrev pub blanks : (count : ℕ) → Kind → List Cell
blanks zero kind = []
blanks (suc count) kind = blank kind ∷ blanks count kind

abbrev pub begun : Access World → (object count level : ℕ) → Kind → (element : Expression) → List Entry → Environment → World → State
begun (Found new) object count level kind element stack e w = Running (Repeating object count 0 level kind element) stack e new
begun Closed object count level kind element stack e w = dead w
begun Missing object count level kind element stack e w = wrong w

-- The length of a new array is checked, then the array's block is allocated. A negative length is a word of at least 2 ^ 31,
-- so it is rejected as too long.
abbrev pub makes_array : Owner → (level : ℕ) → Kind → (element : Expression) → Value → List Entry → Environment → World → State
makes_array owner level kind element (Int count) stack e w =
    if nat_le (words_for (count * bytes_of_kind kind)) most_words
    then Running (Beginning owner count level kind element) stack e w
    else Running (Throwing array_size 0) stack e w
makes_array owner level kind element value stack e w = wrong w

abbrev pub step_beginning : Owner → (count level : ℕ) → Kind → (element : Expression) → List Entry → Environment → World → State
step_beginning owner count level kind element stack e w =
    begun (created w owner (blanks count kind)) (length w.objects) count level kind element stack e w

-- The elements of a new array are evaluated with the loop counter at 0, 1 and so on; each is written as soon as it is evaluated. The fat
-- pointer to a new array has the length of the array and the index 0.
abbrev pub step_repeating : (object count index level : ℕ) → Kind → (element : Expression) → List Entry → Environment → World → State
step_repeating object count index level kind element stack e w =
    if index == count
    then gives kinds.Fat (Fat object 0 count 0) stack e w
    else Running (Evaluating element) (Needs (FillElement object count index level kind element) ∷ stack) (with_counter e level index) w

abbrev pub fills_element : (object count index level : ℕ) → Kind → (element : Expression) → Operand → List Entry → Environment → World → State
fills_element object count index level kind element value stack e w =
    if is_kind value.kind kind
    then stored (cell_at w object index) object index value (Repeating object count (suc index) level kind element) stack e w
    else wrong w

-- ---- all forms

abbrev pub makes : Owner → Initial → List Entry → Environment → World → State
makes owner (Plain kind a) stack e w = Running (Evaluating a) (Needs (MakePlain owner kind) ∷ stack) e w
makes owner (Fields fields) stack e w = makes_fields owner [] fields stack e w
makes owner (Array place level count kind element) stack e w = Running (Evaluating count) (Needs (MakeArray owner level kind element) ∷ stack) e w

-- Allocates a new object: `new` in the heap, `rnew` in the region of a handle (evaluated first) or as a unique object.
abbrev pub allocates : Placement → Initial → List Entry → Environment → World → State
allocates OnHeap initial stack e w = makes (InRegion heap_number) initial stack e w
allocates AsUnique initial stack e w = makes (Unique true) initial stack e w
allocates (ByHandle a) initial stack e w = Running (Evaluating a) (Needs (PlaceBy initial) ∷ stack) e w

abbrev pub makes_by : Initial → (handle : Value) → List Entry → Environment → World → State
makes_by initial (Handle region) stack e w = makes (InRegion region) initial (Needs (BesideHandle region) ∷ stack) e w
makes_by initial value stack e w = wrong w
