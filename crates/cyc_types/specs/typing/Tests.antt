-- Boolean tests on types, and functions that select a component of a type, such as a pointer's region; a default makes each selection
-- total. (As in `Expressions`: types are Cyclone's, Grossman et al. 2002; the default is this project's own choice.)
use Rattle.std.specs.Prelude.{ℕ, Bool, true, false, nat_eq, not, ◌&&◌, ◌||◌, List, [], ◌∷◌, Option, Some, None}
use Rattle.cyc_syntax.specs.declared.tree.PointerKind.{PointerKind}
use Rattle.cyc_syntax.specs.declared.tree.PointerKind.TheVariants.{Nullable, NonNull, Fat}
use Rattle.cyc_types.specs.declared.region.Region.{Region}
use Rattle.cyc_types.specs.declared.region.Region.TheVariants as regions
use Rattle.cyc_types.specs.declared.typed.Kind.{Kind}
use Rattle.cyc_types.specs.declared.typed.Kind.TheVariants as kinds
use Rattle.cyc_types.specs.Types.{region_eq, Ty, Int, Char, Pointer, Handle, Key, Struct, ValueType, Void, Null, Value}

-- ---- lists and options

abbrev pub is_empty : {A : Type 0} → List A → Bool
is_empty [] = true
is_empty (x ∷ xs) = false

abbrev pub is_left_out : {A : Type 0} → Option A → Bool
is_left_out None = true
is_left_out (Some x) = false

-- ---- types

abbrev pub mark_eq : PointerKind → PointerKind → Bool
mark_eq Nullable Nullable = true
mark_eq NonNull NonNull = true
mark_eq Fat Fat = true
mark_eq k l = false

abbrev pub regions_eq : List Region → List Region → Bool
regions_eq [] [] = true
regions_eq (r ∷ rs) (s ∷ ss) = region_eq r s && regions_eq rs ss
regions_eq rs ss = false

abbrev pub ty_eq : Ty → Ty → Bool
ty_eq Int Int = true
ty_eq Char Char = true
ty_eq (Pointer k t r) (Pointer l u s) = mark_eq k l && (ty_eq t u && region_eq r s)
ty_eq (Handle r) (Handle s) = region_eq r s
ty_eq (Key r) (Key s) = region_eq r s
ty_eq (Struct n rs) (Struct m ss) = nat_eq n m && regions_eq rs ss
ty_eq t u = false

abbrev pub is_thin_mark : PointerKind → Bool
is_thin_mark Nullable = true
is_thin_mark NonNull = true
is_thin_mark Fat = false

abbrev pub is_pointer : Ty → Bool
is_pointer (Pointer k t r) = true
is_pointer t = false

abbrev pub is_non_null : Ty → Bool
is_non_null (Pointer NonNull t r) = true
is_non_null t = false

abbrev pub is_unique : Ty → Bool
is_unique (Pointer k t r) = region_eq r regions.Unique
is_unique t = false

abbrev pub is_key : Ty → Bool
is_key (Key r) = true
is_key t = false

abbrev pub is_struct : Ty → Bool
is_struct (Struct n rs) = true
is_struct t = false

-- returns true if a type is int or char, whose values are written as numbers
abbrev pub is_number : Ty → Bool
is_number Int = true
is_number Char = true
is_number t = false

-- returns true if reading a variable of a type leaves the variable empty
abbrev pub is_moved : Ty → Bool
is_moved t = is_unique t || is_key t

-- ---- the types of expressions

abbrev pub is_void : ValueType → Bool
is_void Void = true
is_void t = false

abbrev pub is_null : ValueType → Bool
is_null Null = true
is_null t = false

abbrev pub is_int : ValueType → Bool
is_int (Value Int) = true
is_int t = false

abbrev pub is_char : ValueType → Bool
is_char (Value Char) = true
is_char t = false

-- returns true if an expression has a value, and the value's type passes the test
abbrev pub is_value : (Ty → Bool) → ValueType → Bool
is_value test (Value t) = test t
is_value test t = false

abbrev pub is_thin : Ty → Bool
is_thin (Pointer k t r) = is_thin_mark k
is_thin t = false

abbrev pub is_fat : Ty → Bool
is_fat (Pointer k t r) = not (is_thin_mark k)
is_fat t = false

abbrev pub is_handle : Ty → Bool
is_handle (Handle r) = true
is_handle t = false

-- returns true if a value may be tested against zero or null
abbrev pub is_tested : ValueType → Bool
is_tested (Value Int) = true
is_tested (Value (Pointer k t r)) = true
is_tested t = false

-- ---- parts of types, with defaults

abbrev pub value_of : ValueType → Ty
value_of (Value t) = t
value_of t = Int

abbrev pub target_of : Ty → Ty
target_of (Pointer k t r) = t
target_of t = Int

abbrev pub mark_of : Ty → PointerKind
mark_of (Pointer k t r) = k
mark_of t = Nullable

-- the region that a pointer points into, or the region of a handle or a key
abbrev pub region_of : Ty → Region
region_of (Pointer k t r) = r
region_of (Handle r) = r
region_of (Key r) = r
region_of t = regions.Heap

abbrev pub struct_of : Ty → ℕ
struct_of (Struct n rs) = n
struct_of t = 0

abbrev pub arguments_of : Ty → List Region
arguments_of (Struct n rs) = rs
arguments_of t = []

-- ---- kinds

abbrev pub kind_of_mark : PointerKind → Kind
kind_of_mark Nullable = kinds.Nullable
kind_of_mark NonNull = kinds.NonNull
kind_of_mark Fat = kinds.Fat

-- the representation kind (int, char, pointer, ..) of a memory cell with the given type; no cell has a struct type
abbrev pub kind_of : Ty → Kind
kind_of Int = kinds.Int
kind_of Char = kinds.Char
kind_of (Pointer k t r) = kind_of_mark k
kind_of (Handle r) = kinds.Handle
kind_of (Key r) = kinds.Key
kind_of (Struct n rs) = kinds.Int

-- the representation kind (int, char, pointer, ..) of an expression's value; for an expression without a
-- value, the kind is arbitrary and never used
abbrev pub kind_of_value : ValueType → Kind
kind_of_value Void = kinds.Int
kind_of_value Null = kinds.Nullable
kind_of_value (Value t) = kind_of t
