-- A type as written in the source is mapped to a type by total functions, with defaults for omitted regions and unknown names. The faults
-- of a written type are requirements that are stated separately from this mapping. (That a region may be omitted is Cyclone's, Grossman et
-- al. 2002; the defaults, the codes and their order are this project's own choice.)
use Rattle.std.specs.Prelude.{ℕ, suc, Bool, true, false, nat_eq, not, ◌||◌, if◌then◌else◌, List, [], ◌∷◌, ◌++◌, map, replicate, length, Option, None, Some, is_some, unwrap_or}
use Rattle.cyc_words.specs.declared.fault.Code.TheVariants as codes
use Rattle.cyc_syntax.specs.declared.tree.PointerKind.{PointerKind}
use Rattle.cyc_syntax.specs.declared.tree.PointerKind.TheVariants as marks
use Rattle.cyc_syntax.specs.Symbols.{Place}
use Rattle.cyc_syntax.specs.Trees.{Named, Pointer, BaseType, Int, Char, Struct, Handle, Key, WrittenType, Member}
use Rattle.cyc_types.specs.declared.region.Region.{Region}
use Rattle.cyc_types.specs.declared.region.Region.TheVariants.{Heap, Unique, Variable}
use Rattle.cyc_types.specs.Types.{region_eq, Ty}
use Rattle.cyc_types.specs.Types as types
use Rattle.cyc_types.specs.typing.Tests.{is_empty}
use Rattle.cyc_types.specs.Rules.{Demand, demand}
use Rattle.cyc_types.specs.typing.Scopes.{RegionName, StructName, region_among}

-- ---- structs

-- the index of the first struct with the name x
abbrev pub struct_number : List StructName → ℕ → ℕ
struct_number [] x = 0
struct_number (s ∷ structs) x = if nat_eq s.name x then 0 else suc (struct_number structs x)

abbrev pub parameters_among : List StructName → ℕ → Option ℕ
parameters_among [] x = None
parameters_among (s ∷ structs) x = if nat_eq s.name x then Some s.parameters else parameters_among structs x

-- ---- the meaning of a written type, given the known structs and region names

-- the region that a name denotes; an unknown name denotes the heap
abbrev pub region_of : List RegionName → Named → Region
region_of names r = unwrap_or (region_among names r.name) Heap

-- the region written after a pointer sign (`*`, `@`, `?`), or the default region if none is written
abbrev pub region_or : List RegionName → Region → Option Named → Region
region_or names left_out None = left_out
region_or names left_out (Some r) = region_of names r

-- the region arguments of a struct; omitted arguments are the heap
abbrev pub arguments_or : List RegionName → ℕ → List Named → List Region
arguments_or names n [] = replicate n Heap
arguments_or names n (r ∷ rs) = map (region_of names) (r ∷ rs)

abbrev pub struct_written : List StructName → List RegionName → Named → List Named → Ty
struct_written structs names s rs = types.Struct (struct_number structs s.name) (arguments_or names (unwrap_or (parameters_among structs s.name) 0) rs)

abbrev pub base_written : List StructName → List RegionName → BaseType → Ty
base_written structs names Int = types.Int
base_written structs names Char = types.Char
base_written structs names (Struct s rs) = struct_written structs names s rs
base_written structs names (Handle r) = types.Handle (region_of names r)
base_written structs names (Key r) = types.Key (region_of names r)

-- the default for an omitted region: `outermost` for the outermost (last) pointer sign of a type, the heap for all other pointer signs
abbrev pub left_out_at : Region → List Pointer → Region
left_out_at outermost [] = outermost
left_out_at outermost (m ∷ ms) = Heap

abbrev pub pointers_written : List RegionName → Region → Ty → List Pointer → Ty
pointers_written names outermost t [] = t
pointers_written names outermost t (m ∷ ms) = pointers_written names outermost (types.Pointer m.kind t (region_or names (left_out_at outermost ms) m.region)) ms

-- the type denoted by a written type; an omitted region is `outermost` at the outermost pointer sign, and the heap elsewhere
abbrev pub type_written : List StructName → List RegionName → (outermost : Region) → WrittenType → Ty
type_written structs names outermost w = pointers_written names outermost (base_written structs names w.base) w.marks

-- ---- the types of parameters, which declare the region names in them; each omitted region is a new one

-- the region names declared so far, and the number that the next region will get
pub record Naming : Type 0 where
  pub names : List RegionName
  pub next : ℕ

abbrev pub known_or_next : Option Region → Naming → Region
known_or_next known n = unwrap_or known (Variable n.next)

abbrev pub region_for : Naming → Named → Region
region_for n r = known_or_next (region_among n.names r.name) n

abbrev pub after_known : Option Region → Named → Naming → Naming
after_known (Some known) r n = n
after_known None r n = record { names = record { name = r.name; region = Variable n.next } ∷ n.names; next = suc n.next }

abbrev pub after_region : Naming → Named → Naming
after_region n r = after_known (region_among n.names r.name) r n

abbrev pub mark_for : Naming → Option Named → Region
mark_for n None = Variable n.next
mark_for n (Some r) = region_for n r

abbrev pub after_mark : Naming → Option Named → Naming
after_mark n None = record n { next = suc n.next }
after_mark n (Some r) = after_region n r

abbrev pub regions_for : Naming → List Named → List Region
regions_for n [] = []
regions_for n (r ∷ rs) = region_for n r ∷ regions_for (after_region n r) rs

abbrev pub after_regions : Naming → List Named → Naming
after_regions n [] = n
after_regions n (r ∷ rs) = after_regions (after_region n r) rs

abbrev pub arguments_for : Naming → ℕ → List Named → List Region
arguments_for n k [] = replicate k Heap
arguments_for n k (r ∷ rs) = regions_for n (r ∷ rs)

abbrev pub base_for : List StructName → Naming → BaseType → Ty
base_for structs n Int = types.Int
base_for structs n Char = types.Char
base_for structs n (Struct s rs) = types.Struct (struct_number structs s.name) (arguments_for n (unwrap_or (parameters_among structs s.name) 0) rs)
base_for structs n (Handle r) = types.Handle (region_for n r)
base_for structs n (Key r) = types.Key (region_for n r)

abbrev pub after_base : Naming → BaseType → Naming
after_base n Int = n
after_base n Char = n
after_base n (Struct s rs) = after_regions n rs
after_base n (Handle r) = after_region n r
after_base n (Key r) = after_region n r

abbrev pub pointers_for : Naming → Ty → List Pointer → Ty
pointers_for n t [] = t
pointers_for n t (m ∷ ms) = pointers_for (after_mark n m.region) (types.Pointer m.kind t (mark_for n m.region)) ms

abbrev pub after_marks : Naming → List Pointer → Naming
after_marks n [] = n
after_marks n (m ∷ ms) = after_marks (after_mark n m.region) ms

abbrev pub type_for : List StructName → Naming → WrittenType → Ty
type_for structs n w = pointers_for (after_base n w.base) (base_for structs n w.base) w.marks

abbrev pub after_type : Naming → WrittenType → Naming
after_type n w = after_marks (after_base n w.base) w.marks

abbrev pub types_for : List StructName → Naming → List Member → List Ty
types_for structs n [] = []
types_for structs n (m ∷ ms) = type_for structs n m.of_type ∷ types_for structs (after_type n m.of_type) ms

abbrev pub after_members : Naming → List Member → Naming
after_members n [] = n
after_members n (m ∷ ms) = after_members (after_type n m.of_type) ms

-- ---- the faults of a written type

-- returns true if a name is declared and denotes the given region
abbrev pub is_name_of : List RegionName → Region → Named → Bool
is_name_of names region r = stands_for (region_among names r.name)
  where
    stands_for : Option Region → Bool
    stands_for None = false
    stands_for (Some known) = region_eq known region

abbrev pub is_known : List RegionName → Named → Bool
is_known names r = is_some (region_among names r.name)

-- The requirement on a region name: outside a parameter the name is declared. A parameter's type may declare a new region name, unless
-- that name is the one of the function's own region.
abbrev pub name_demanded : List RegionName → (own : Option ℕ) → Named → Demand
name_demanded names None r = demand codes.UnknownName r.place (is_known names r)
name_demanded names (Some own) r = demand codes.DeclaredTwice r.place (not (nat_eq r.name own))

-- The requirement that a region name does not denote the unique region, which is allowed only after a pointer sign. The
-- definition after this one is the requirement that a key's region is not the heap, which has no key.
abbrev pub no_unique_demanded : List RegionName → Named → Demand
no_unique_demanded names r = demand codes.RegionOrKeyMisused r.place (not (is_name_of names Unique r))

abbrev pub no_heap_demanded : List RegionName → Named → Demand
no_heap_demanded names r = demand codes.RegionOrKeyMisused r.place (not (is_name_of names Heap r))

abbrev pub names_demanded : List RegionName → (own : Option ℕ) → List Named → List Demand
names_demanded names own [] = []
names_demanded names own (r ∷ rs) = name_demanded names own r ∷ no_unique_demanded names r ∷ names_demanded names own rs

-- returns true if a struct has no region arguments, or as many as region parameters
abbrev pub is_count : Option ℕ → List Named → Bool
is_count None rs = true
is_count (Some n) rs = is_empty rs || nat_eq (length rs) n

-- the requirements on a struct name and its region arguments, in a written type that begins at source position p
abbrev pub struct_demanded : List StructName → List RegionName → (own : Option ℕ) → Place → Named → List Named → List Demand
struct_demanded structs names own p s rs =
    demand codes.UnknownName s.place (is_some (parameters_among structs s.name))
    ∷ demand codes.TypeMismatch p (is_count (parameters_among structs s.name) rs)
    ∷ names_demanded names own rs

abbrev pub base_demanded : List StructName → List RegionName → (own : Option ℕ) → Place → BaseType → List Demand
base_demanded structs names own p Int = []
base_demanded structs names own p Char = []
base_demanded structs names own p (Struct s rs) = struct_demanded structs names own p s rs
base_demanded structs names own p (Handle r) = name_demanded names own r ∷ no_unique_demanded names r ∷ []
base_demanded structs names own p (Key r) = name_demanded names own r ∷ no_unique_demanded names r ∷ no_heap_demanded names r ∷ []

abbrev pub mark_demanded : List RegionName → (own : Option ℕ) → Option Named → List Demand
mark_demanded names own None = []
mark_demanded names own (Some r) = name_demanded names own r ∷ []

abbrev pub marks_demanded : List RegionName → (own : Option ℕ) → List Pointer → List Demand
marks_demanded names own [] = []
marks_demanded names own (m ∷ ms) = mark_demanded names own m.region ++ marks_demanded names own ms

abbrev pub is_fat_mark : PointerKind → Bool
is_fat_mark marks.Nullable = false
is_fat_mark marks.NonNull = false
is_fat_mark marks.Fat = true

-- returns true if a type's shape is allowed: a struct only as the target of a thin pointer, and no pointer to a key
abbrev pub is_shape : BaseType → List Pointer → Bool
is_shape Int ms = true
is_shape Char ms = true
is_shape (Struct s rs) [] = false
is_shape (Struct s rs) (m ∷ ms) = not (is_fat_mark m.kind)
is_shape (Handle r) ms = true
is_shape (Key r) ms = is_empty ms

abbrev pub type_demanded : List StructName → List RegionName → (own : Option ℕ) → WrittenType → List Demand
type_demanded structs names own w =
    base_demanded structs names own w.place w.base ++ (marks_demanded names own w.marks ++ demand codes.TypeMismatch w.place (is_shape w.base w.marks) ∷ [])

abbrev pub is_key_base : BaseType → Bool
is_key_base (Key r) = true
is_key_base b = false

-- the requirements on the type of a struct's field; a field is not a key
abbrev pub field_demanded : List StructName → List RegionName → WrittenType → List Demand
field_demanded structs names w = type_demanded structs names None w ++ demand codes.RegionOrKeyMisused w.place (not (is_key_base w.base)) ∷ []

-- returns true if a global may have a written type: an int, a char or a pointer
abbrev pub is_global_shape : BaseType → List Pointer → Bool
is_global_shape Int ms = true
is_global_shape Char ms = true
is_global_shape b ms = not (is_empty ms)

abbrev pub global_demanded : List StructName → List RegionName → WrittenType → List Demand
global_demanded structs names w = type_demanded structs names None w ++ demand codes.TypeMismatch w.place (is_global_shape w.base w.marks) ∷ []

-- ---- regions in types

abbrev pub is_key_of : Region → Ty → Bool
is_key_of r (types.Key s) = region_eq r s
is_key_of r t = false
