-- Types as mathematical values, for all definitions. (Types, pointer marks, handles and keys are Cyclone's, Grossman et al. 2002 and the
-- User's Manual, 1.0; the selection is this project's own choice.)
use Rattle.std.specs.Prelude.{ℕ, List, map, Option, None, Some, ◌==◌, Bool, true, false, slice_index_or}
use Rattle.cyc_syntax.specs.declared.tree.PointerKind.{PointerKind}
use Rattle.cyc_syntax.specs.declared.tree.PointerKind.TheVariants.{Nullable, NonNull, Fat}
use Rattle.cyc_types.specs.declared.region.Region.{Region}
use Rattle.std.specs.List.{list_any}
use Rattle.cyc_types.specs.declared.region.Region.TheVariants.{Heap, Unique, Variable}

-- ---- regions: a test for equality, and the substitution of region variables

-- substitutes regions in a region: region variable n becomes the region at index n of the list, if the list has this index
abbrev pub substituted_region : List Region → Region → Region
substituted_region regions Heap = Heap
substituted_region regions Unique = Unique
substituted_region regions (Variable n) = slice_index_or regions n (Variable n)

abbrev pub region_eq : Region → Region → Bool
region_eq Heap Heap = true
region_eq Heap Unique = false
region_eq Heap (Variable n) = false
region_eq Unique Heap = false
region_eq Unique Unique = true
region_eq Unique (Variable n) = false
region_eq (Variable m) Heap = false
region_eq (Variable m) Unique = false
region_eq (Variable m) (Variable n) = m == n

abbrev pub is_region_among : Region → List Region → Bool
is_region_among a regions = list_any (λ r. region_eq r a) regions

pub data Ty : Type 0 where
  Int : Ty
  -- the type of a byte, 0 to 255
  Char : Ty
  -- a pointer type: its pointer kind (`*`, `@` or `?`), its target type, and the region of its target
  Pointer : PointerKind → Ty → Region → Ty
  Handle : Region → Ty
  Key : Region → Ty
  -- a struct type: the struct's index among the structs, and a region argument for each of its region parameters
  Struct : ℕ → List Region → Ty

-- the type of an expression: no value, a null pointer (whose type comes from the context), or a value of a type
pub data ValueType : Type 0 where
  Void : ValueType
  Null : ValueType
  Value : Ty → ValueType

-- the type of a call, from the result type of its function; a call of a `void` function has no value
abbrev pub result_type : Option Ty → ValueType
result_type None = Void
result_type (Some t) = Value t

-- returns the type with each region variable n replaced by the region at index n of the list
abbrev pub substituted_ty : List Region → Ty → Ty
substituted_ty regions Int = Int
substituted_ty regions Char = Char
substituted_ty regions (Pointer k t r) = Pointer k (substituted_ty regions t) (substituted_region regions r)
substituted_ty regions (Handle r) = Handle (substituted_region regions r)
substituted_ty regions (Key r) = Key (substituted_region regions r)
substituted_ty regions (Struct n rs) = Struct n (map (substituted_region regions) rs)

abbrev pub words_of_mark : PointerKind → ℕ
words_of_mark Nullable = 1
words_of_mark NonNull = 1
words_of_mark Fat = 3

-- the number of 32-bit words of a variable of a type: three for a fat pointer, otherwise one
abbrev pub words_of : Ty → ℕ
words_of Int = 1
words_of Char = 1
words_of (Pointer k t r) = words_of_mark k
words_of (Handle r) = 1
words_of (Key r) = 1
words_of (Struct n rs) = 1
