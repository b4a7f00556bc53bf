-- The rules of expressions and lvalues derive only types whose regions are built in or declared in the scope.
use Rattle.std.proofs.Common.{◌≡◌, ℕ, zero, suc, ◌<◌, ◌≤◌, Bool, true, false, cond, nat_eq, List, [], ◌∷◌, ◌++◌, Option, Some, None, map, length, replicate, slice_get, refl, sym, ap, subst, ◌∙◌, arith}
use Rattle.std.specs.Prelude.{unwrap_or, option_map, slice_index_or}
use Rattle.std.proofs.lemmas.Bool.{and_parts, eqb-true, true≢false}
use Rattle.std.proofs.lemmas.List.{length-map, length-replicate}
use Rattle.cyc_syntax.specs.declared.tree.PrefixOperator.TheVariants as prefixes
use Rattle.cyc_syntax.specs.declared.tree.BinaryOperator.{BinaryOperator}
use Rattle.cyc_syntax.specs.declared.tree.BinaryOperator.TheVariants as operators
use Rattle.cyc_syntax.specs.Symbols.{Place}
use Rattle.cyc_syntax.specs.Trees.{Named, Pointer as Mark, BaseType, WrittenType, Expression, Number, Character, Null, HeapRegion, UniqueRegion, Variable, Call, Bracketed, NumberOfElements, LowByteOf, FreeUnique, FreeKey, Chained, Prefixed}
use Rattle.cyc_syntax.specs.Trees.{New, RegionNew, Binary, Assign, Initial, Plain, Fields, Array, Expressions, NoExpressions, MoreExpressions, Postfixes, NoPostfixes, ThenIndex, ThenField, Operations, NoOperations, ThenOperation, place_of}
use Rattle.cyc_syntax.specs.Trees as written
use Rattle.cyc_types.specs.declared.region.Region.{Region}
use Rattle.cyc_types.specs.declared.region.Region.TheVariants as regions
use Rattle.cyc_types.specs.declared.typed.UnaryOperator.TheVariants as unary
use Rattle.cyc_types.specs.Types.{region_eq, substituted_region, Ty, Int, Char, Pointer, Handle, Key, Struct, ValueType, Void, Value, result_type, substituted_ty}
use Rattle.cyc_types.specs.TypedTrees.{Lvalue, Side, VariableSide, CellSide, type_of, type_of_place}
use Rattle.cyc_types.specs.TypedTrees as typed
use Rattle.cyc_types.specs.Rules.{AllKept, Rule, Derives}
use Rattle.cyc_types.specs.typing.Scopes.{RegionName, StructName, Field, Sort, Ordinary, OfRegion, OfLoop, Meaning, Unknown, Fixed, Counter, Routine, LocalVariable, Scope, region_among, local_meaning, meaning_in, meaning_among, meaning_of, with_counter}
use Rattle.cyc_types.specs.typing.Scopes as scopes
use Rattle.cyc_types.specs.typing.Tests.{is_thin_mark, is_unique, is_struct, is_moved, is_char, is_value, value_of, target_of, region_of, arguments_of}
use Rattle.cyc_types.specs.typing.Formation.{struct_number, parameters_among, region_or, left_out_at, arguments_or, base_written, pointers_written, type_written, is_count, struct_demanded, base_demanded, type_demanded}
use Rattle.cyc_types.specs.typing.Formation as formation
use Rattle.cyc_types.specs.typing.Expressions.{as_int, variable_read, variable_looked, read, looked, rule_looked, Found, type_of_side, place_meant, Reached, pointed, indexed, has_members, fields_of, field_among, field_type, selected, place_inside}
use Rattle.cyc_types.specs.typing.Expressions.{loaded, reached, address_of, addressed, assigned_type, assignment, assigned, is_looking_first, operand, Joined, peeked_local, joined, all_paired, paired, paired_argument, paired_arguments, first_place}
use Rattle.cyc_types.specs.typing.Expressions.{first_places, instance_of, called, key_freed, Placed, Made, on_heap, rule_placement, fields_made, created, rule, rule_all, rule_chain, rule_place, rule_postfixed, rule_further, rule_made}
use Rattle.cyc_types.specs.inside.typing.Formed.{AllOf, AllIn, IsKnown}
use Rattle.cyc_types.proofs.typing.TestLemmas.{kept_append}

-- ---- regions

pub known_more : (n m : ℕ) (r : Region) → n ≤ m → IsKnown n r → IsKnown m r
known_more n m regions.Heap l k = tt
known_more n m regions.Unique l k = tt
known_more n m (regions.Variable i) l k = omega arith

pub all_more : (n m : ℕ) (rs : List Region) → n ≤ m → AllOf (IsKnown n) rs → AllOf (IsKnown m) rs
all_more n m [] l k = tt
all_more n m (r ∷ rs) l (k, ks) = (known_more n m r l k, all_more n m rs l ks)

pub type_more : (n m : ℕ) (t : Ty) → n ≤ m → AllIn (IsKnown n) t → AllIn (IsKnown m) t
type_more n m Int l k = tt
type_more n m Char l k = tt
type_more n m (Pointer q t r) l (k, j) = (type_more n m t l k, known_more n m r l j)
type_more n m (Handle r) l k = known_more n m r l k
type_more n m (Key r) l k = known_more n m r l k
type_more n m (Struct i rs) l k = all_more n m rs l k

heaps_known : (n k : ℕ) → AllOf (IsKnown n) (replicate k regions.Heap)
heaps_known n zero = tt
heaps_known n (suc k) = (tt, heaps_known n k)

-- if all region arguments are built in or declared, substituting one of them for a region variable gives a built-in or declared region
known_at : (n : ℕ) (rs : List Region) (i : ℕ) (d : Region) → AllOf (IsKnown n) rs → i < length rs → IsKnown n (slice_index_or rs i d)
known_at n [] i d k l = absurd (omega arith)
known_at n (r ∷ rs) zero d (k, ks) l = k
known_at n (r ∷ rs) (suc i) d (k, ks) l = known_at n rs i d ks (omega arith)

region_substituted : (n m : ℕ) (rs : List Region) (r : Region) → AllOf (IsKnown n) rs → m ≤ length rs → IsKnown m r → IsKnown n (substituted_region rs r)
region_substituted n m rs regions.Heap ks l k = tt
region_substituted n m rs regions.Unique ks l k = tt
region_substituted n m rs (regions.Variable i) ks l k = known_at n rs i (regions.Variable i) ks (omega arith)

all_substituted : (n m : ℕ) (rs ss : List Region) → AllOf (IsKnown n) rs → m ≤ length rs → AllOf (IsKnown m) ss → AllOf (IsKnown n) (map (substituted_region rs) ss)
all_substituted n m rs [] ks l k = tt
all_substituted n m rs (s ∷ ss) ks l (k, j) = (region_substituted n m rs s ks l k, all_substituted n m rs ss ks l j)

type_substituted : (n m : ℕ) (rs : List Region) (t : Ty) → AllOf (IsKnown n) rs → m ≤ length rs → AllIn (IsKnown m) t → AllIn (IsKnown n) (substituted_ty rs t)
type_substituted n m rs Int ks l k = tt
type_substituted n m rs Char ks l k = tt
type_substituted n m rs (Pointer q t r) ks l (k, j) = (type_substituted n m rs t ks l k, region_substituted n m rs r ks l j)
type_substituted n m rs (Handle r) ks l k = region_substituted n m rs r ks l k
type_substituted n m rs (Key r) ks l k = region_substituted n m rs r ks l k
type_substituted n m rs (Struct i ss) ks l k = all_substituted n m rs ss ks l k

-- ---- types

-- says that each struct in a type has as many region arguments as its declaration has region parameters
abbrev pub IsCounted : List StructName → Ty → Type 0
IsCounted structs (Pointer k t r) = IsCounted structs t
IsCounted structs (Struct n rs) = (s : StructName) → slice_get structs n ≡ Some s → length rs ≡ s.parameters
IsCounted structs t = Unit {0}

counted_substituted : (structs : List StructName) (rs : List Region) (t : Ty) → IsCounted structs t → IsCounted structs (substituted_ty rs t)
counted_substituted structs rs Int c = tt
counted_substituted structs rs Char c = tt
counted_substituted structs rs (Pointer k t r) c = counted_substituted structs rs t c
counted_substituted structs rs (Handle r) c = tt
counted_substituted structs rs (Key r) c = tt
counted_substituted structs rs (Struct n ss) c = λ s at. length-map ss (substituted_region rs) ∙ c s at

-- says that a type contains only the first n region variables, and that its structs have the right number of region arguments
abbrev pub IsFormed : List StructName → ℕ → Ty → Type 0
IsFormed structs n t = AllIn (IsKnown n) t × IsCounted structs t

pub formed_more : (structs : List StructName) (n m : ℕ) (t : Ty) → n ≤ m → IsFormed structs n t → IsFormed structs m t
formed_more structs n m t l (k, c) = (type_more n m t l k, c)

formed_substituted : (structs : List StructName) (n m : ℕ) (rs : List Region) (t : Ty) → AllOf (IsKnown n) rs → m ≤ length rs → IsFormed structs m t → IsFormed structs n (substituted_ty rs t)
formed_substituted structs n m rs t ks l (k, c) = (type_substituted n m rs t ks l k, counted_substituted structs rs t c)

abbrev pub IsFormedValue : List StructName → ℕ → ValueType → Type 0
IsFormedValue structs n (Value t) = IsFormed structs n t
IsFormedValue structs n v = Unit {0}

module _ (structs : List StructName) (n : ℕ) where
  pub value_formed : (v : ValueType) → IsFormedValue structs n v → IsFormed structs n (value_of v)
  value_formed (Value t) f = f
  value_formed v f = (tt, tt)

  target_formed : (t : Ty) → IsFormed structs n t → IsFormed structs n (target_of t)
  target_formed (Pointer k t r) ((f, j), c) = (f, c)
  target_formed t f = (tt, tt)

  pub region_formed : (t : Ty) → IsFormed structs n t → IsKnown n (region_of t)
  region_formed (Pointer k t r) ((f, j), c) = j
  region_formed (Handle r) (f, c) = f
  region_formed (Key r) (f, c) = f
  region_formed t f = tt

  assigned_formed : (t : Ty) → IsFormed structs n t → IsFormedValue structs n (assigned_type t)
  assigned_formed t f = go (is_moved t)
    where
      go : (b : Bool) → IsFormedValue structs n (cond b Void (Value t))
      go true = tt
      go false = f

-- ---- written types

module _ (structs : List StructName) (names : List RegionName) where
  -- the struct found by its name has the number of region parameters that is recorded for the name
  number_of_name : (ss : List StructName) (x : ℕ) (s : StructName) → slice_get ss (struct_number ss x) ≡ Some s → parameters_among ss x ≡ Some s.parameters
  number_of_name [] x s e = absurd (cc)
  number_of_name (t ∷ ss) x s e = go (nat_eq t.name x) e (number_of_name ss x s)
    where
      go : (b : Bool) → slice_get (t ∷ ss) (cond b 0 (suc (struct_number ss x))) ≡ Some s → (slice_get ss (struct_number ss x) ≡ Some s → parameters_among ss x ≡ Some s.parameters)
          → cond b (Some t.parameters) (parameters_among ss x) ≡ Some s.parameters
      go true f rest = ap (λ (o : Option StructName). option_map (λ (u : StructName). u.parameters) o) f
      go false f rest = rest f

  pub arguments_counted : (x : ℕ) (rs : List Named) → is_count (parameters_among structs x) rs ≡ true → (s : StructName) → slice_get structs (struct_number structs x) ≡ Some s
      → length (arguments_or names (unwrap_or (parameters_among structs x) 0) rs) ≡ s.parameters
  arguments_counted x [] i s at = ap (λ o. length (replicate (unwrap_or o 0) regions.Heap)) (number_of_name structs x s at) ∙ length-replicate s.parameters regions.Heap
  arguments_counted x (r ∷ rs) i s at =
      length-map (r ∷ rs) (formation.region_of names) ∙ eqb-true (length (r ∷ rs)) s.parameters (subst (λ o. is_count o (r ∷ rs) ≡ true) (number_of_name structs x s at) i)

module _ (structs : List StructName) (names : List RegionName) (n : ℕ) (known : (x : ℕ) (r : Region) → region_among names x ≡ Some r → IsKnown n r) where
  pub name_known : (r : Named) → IsKnown n (formation.region_of names r)
  name_known r = go (region_among names r.name) refl
    where
      go : (o : Option Region) → region_among names r.name ≡ o → IsKnown n (unwrap_or o regions.Heap)
      go None e = tt
      go (Some s) e = known r.name s e

  names_known : (rs : List Named) → AllOf (IsKnown n) (map (formation.region_of names) rs)
  names_known [] = tt
  names_known (r ∷ rs) = (name_known r, names_known rs)

  arguments_known : (k : ℕ) (rs : List Named) → AllOf (IsKnown n) (arguments_or names k rs)
  arguments_known k [] = heaps_known n k
  arguments_known k (r ∷ rs) = names_known (r ∷ rs)

  base_formed : (own : Option ℕ) (q : Place) (b : BaseType) → AllKept (base_demanded structs names own q b) → IsFormed structs n (base_written structs names b)
  base_formed own q written.Int kept = (tt, tt)
  base_formed own q written.Char kept = (tt, tt)
  base_formed own q (written.Struct s rs) (there, (count, more)) = (arguments_known (unwrap_or (parameters_among structs s.name) 0) rs, arguments_counted structs names s.name rs count)
  base_formed own q (written.Handle r) kept = (name_known r, tt)
  base_formed own q (written.Key r) kept = (name_known r, tt)

  left_out_known : (d : Region) (ms : List Mark) → IsKnown n d → IsKnown n (left_out_at d ms)
  left_out_known d [] k = k
  left_out_known d (m ∷ ms) k = tt

  mark_known : (d : Region) (o : Option Named) → IsKnown n d → IsKnown n (region_or names d o)
  mark_known d None k = k
  mark_known d (Some r) k = name_known r

  pointers_formed : (d : Region) (t : Ty) (ms : List Mark) → IsKnown n d → IsFormed structs n t → IsFormed structs n (pointers_written names d t ms)
  pointers_formed d t [] k f = f
  pointers_formed d t (m ∷ ms) k (f, c) =
      pointers_formed d (Pointer m.kind t (region_or names (left_out_at d ms) m.region)) ms k ((f, mark_known (left_out_at d ms) m.region (left_out_known d ms k)), c)

  pub written_formed : (own : Option ℕ) (d : Region) (w : WrittenType) → IsKnown n d → AllKept (type_demanded structs names own w) → IsFormed structs n (type_written structs names d w)
  written_formed own d w k kept = pointers_formed d (base_written structs names w.base) w.marks k (base_formed own w.place w.base (kept_append (base_demanded structs names own w.place w.base) _ kept).0)

-- ---- scopes

abbrev pub AreFormedLocals : List StructName → ℕ → List LocalVariable → Type 0
AreFormedLocals structs n [] = Unit {0}
AreFormedLocals structs n (v ∷ vs) = (IsFormed structs n v.of_type × (v.region < n)) × AreFormedLocals structs n vs

abbrev pub IsFormedResult : List StructName → ℕ → Option Ty → Type 0
IsFormedResult structs n None = Unit {0}
IsFormedResult structs n (Some t) = IsFormed structs n t

-- says that the meaning of a name is well-formed: the types of the variable or function that it denotes contain only regions of the scope
abbrev pub IsFormedMeaning : List StructName → ℕ → Meaning → Type 0
IsFormedMeaning structs n Unknown = Unit {0}
IsFormedMeaning structs n (scopes.Variable l t home) = IsFormed structs n t × IsKnown n home
IsFormedMeaning structs n (Fixed l t) = IsFormed structs n t
IsFormedMeaning structs n (Counter l) = Unit {0}
IsFormedMeaning structs n (Routine f s) = IsFormedResult structs (suc s.variables) s.result

abbrev pub AreFormedFieldTypes : List StructName → ℕ → List Field → Type 0
AreFormedFieldTypes structs n [] = Unit {0}
AreFormedFieldTypes structs n (f ∷ fs) = IsFormed structs n f.of_type × AreFormedFieldTypes structs n fs

pub record IsFormedScope (g : Scope) : Type 0 where
  pub names : (x : ℕ) (r : Region) → region_among g.names x ≡ Some r → IsKnown g.next_region r
  pub locals : AreFormedLocals g.structs g.next_region g.locals
  pub region : g.region < g.next_region
  pub program : (x : ℕ) → IsFormedMeaning g.structs 0 (meaning_in g.program x)
  pub fields : (n : ℕ) (fs : List Field) → slice_get g.fields n ≡ Some fs → (s : StructName) × (slice_get g.structs n ≡ Some s) × AreFormedFieldTypes g.structs s.parameters fs

meaning_more : (structs : List StructName) (n m : ℕ) (x : Meaning) → n ≤ m → IsFormedMeaning structs n x → IsFormedMeaning structs m x
meaning_more structs n m Unknown l k = tt
meaning_more structs n m (scopes.Variable v t home) l (f, k) = (formed_more structs n m t l f, known_more n m home l k)
meaning_more structs n m (Fixed v t) l f = formed_more structs n m t l f
meaning_more structs n m (Counter i) l k = tt
meaning_more structs n m (Routine f s) l k = k

pub locals_more : (structs : List StructName) (n m : ℕ) (vs : List LocalVariable) → n ≤ m → AreFormedLocals structs n vs → AreFormedLocals structs m vs
locals_more structs n m [] l k = tt
locals_more structs n m (v ∷ vs) l ((f, r), k) = ((formed_more structs n m v.of_type l f, omega arith), locals_more structs n m vs l k)

counting : (g : Scope) (x : Named) → IsFormedScope g → IsFormedScope (with_counter x g)
counting g x formed = record { names = formed.names; locals = (((tt, tt), formed.region), formed.locals); region = formed.region; program = formed.program; fields = formed.fields }

module _ (g : Scope) (formed : IsFormedScope g) where
  abbrev pub IsFormedHere : typed.Expression → Type 0
  IsFormedHere a = IsFormedValue g.structs g.next_region (type_of a)

  -- ---- names

  by_cond : (c : Bool) (m k : Meaning) → IsFormedMeaning g.structs g.next_region m → IsFormedMeaning g.structs g.next_region k → IsFormedMeaning g.structs g.next_region (cond c m k)
  by_cond true m k i j = i
  by_cond false m k i j = j

  local_formed : (s : Sort) (v : LocalVariable) (q : Place) → IsFormed g.structs g.next_region v.of_type → v.region < g.next_region → IsFormedMeaning g.structs g.next_region (local_meaning s v q)
  local_formed Ordinary v q f r = (f, r)
  local_formed OfRegion v q f r = f
  local_formed OfLoop v q f r = tt

  among : (vs : List LocalVariable) (x : Named) → AreFormedLocals g.structs g.next_region vs → IsFormedMeaning g.structs g.next_region (meaning_among vs g.program x)
  among [] x k = meaning_more g.structs 0 g.next_region (meaning_in g.program x.name) (omega arith) (formed.program x.name)
  among (v ∷ vs) x ((f, r), k) = by_cond (nat_eq v.name x.name) (local_meaning v.sort v x.place) (meaning_among vs g.program x) (local_formed v.sort v x.place f r) (among vs x k)

  pub meant_formed : (x : Named) → IsFormedMeaning g.structs g.next_region (meaning_of g x)
  meant_formed x = among g.locals x formed.locals

  read_variable : (l : Lvalue) (t : Ty) → IsFormed g.structs g.next_region t → IsFormedHere (variable_read l t)
  read_variable (typed.Local p n) t f = go (is_moved t)
    where
      go : (b : Bool) → IsFormedHere (cond b (typed.Move p n t) (typed.Copy (typed.Local p n) t))
      go true = f
      go false = f
  read_variable (typed.Global n) t f = f

  looked_variable : (l : Lvalue) (t : Ty) → IsFormed g.structs g.next_region t → IsFormedHere (variable_looked l t)
  looked_variable (typed.Local p n) t f = go (is_unique t)
    where
      go : (b : Bool) → IsFormedHere (cond b (typed.Peek p n t) (variable_read (typed.Local p n) t))
      go true = f
      go false = read_variable (typed.Local p n) t f
  looked_variable (typed.Global n) t f = f

  read_formed : (m : Meaning) (q : Place) (a : typed.Expression) → IsFormedMeaning g.structs g.next_region m → Derives (read m q) a → IsFormedHere a
  read_formed Unknown q a k d = absurd d
  read_formed (scopes.Variable l t home) q a (f, k) (kept, eq) = subst IsFormedHere (sym eq) (read_variable l t f)
  read_formed (Fixed l t) q a f (kept, eq) = subst IsFormedHere (sym eq) f
  read_formed (Counter n) q a k (kept, eq) = subst IsFormedHere (sym eq) (tt, tt)
  read_formed (Routine f s) q a k d = absurd d

  looked_formed : (m : Meaning) (q : Place) (a : typed.Expression) → IsFormedMeaning g.structs g.next_region m → Derives (looked m q) a → IsFormedHere a
  looked_formed (scopes.Variable l t home) q a (f, k) (kept, eq) = subst IsFormedHere (sym eq) (looked_variable l t f)
  looked_formed m q a k d = read_formed m q a k d

  seen_formed : (e : Expression) (walked : Rule typed.Expression) (a : typed.Expression) → ((b : typed.Expression) → Derives walked b → IsFormedHere b) → Derives (rule_looked g e walked) a → IsFormedHere a
  seen_formed (Variable x) walked a k d = looked_formed (meaning_of g x) x.place a (meant_formed x) d
  seen_formed (Bracketed p e) walked a k d = seen_formed e walked a k d
  seen_formed e walked a k d = k a d

  -- converting an expression from char to int keeps its type well-formed
  int_served : (a : typed.Expression) → IsFormedHere a → IsFormedHere (as_int a)
  int_served a f = go (is_char (type_of a))
    where
      go : (b : Bool) → IsFormedHere (cond b (typed.Unary unary.Widen a) a)
      go true = (tt, tt)
      go false = f

  -- ---- places

  abbrev pub IsFormedFound : Found → Type 0
  IsFormedFound x = IsFormed g.structs g.next_region (type_of_side x.side) × IsKnown g.next_region x.region

  -- says that a memory cell's type and region are well-formed if the typing requirements on the access to the cell are satisfied
  abbrev IsFormedReached : Reached → Type 0
  IsFormedReached w = AllKept w.asked → IsFormed g.structs g.next_region (type_of_place w.cell) × IsKnown g.next_region w.region

  place_formed : (m : Meaning) (q o : Place) (x : Found) → IsFormedMeaning g.structs g.next_region m → Derives (place_meant m q o) x → IsFormedFound x
  place_formed Unknown q o x k d = absurd d
  place_formed (scopes.Variable l t home) q o x k (kept, eq) = subst IsFormedFound (sym eq) k
  place_formed (Fixed l t) q o x k d = absurd d
  place_formed (Counter n) q o x k d = absurd d
  place_formed (Routine f s) q o x k d = absurd d

  pointed_formed : (q : Place) (a : typed.Expression) → IsFormedHere a → IsFormedReached (pointed g q a)
  pointed_formed q a f kept =
      let v = value_formed g.structs g.next_region (type_of a) f in
      (target_formed g.structs g.next_region (value_of (type_of a)) v, region_formed g.structs g.next_region (value_of (type_of a)) v)

  indexed_formed : (q o : Place) (a b : typed.Expression) → IsFormedHere a → IsFormedReached (indexed g q a o b)
  indexed_formed q o a b f kept =
      let v = value_formed g.structs g.next_region (type_of a) f in
      (target_formed g.structs g.next_region (value_of (type_of a)) v, region_formed g.structs g.next_region (value_of (type_of a)) v)

  among_fields : (n : ℕ) (fs : List Field) (x : ℕ) → AreFormedFieldTypes g.structs n fs → IsFormed g.structs n (unwrap_or (field_among fs x) Int)
  among_fields n [] x k = (tt, tt)
  among_fields n (f ∷ fs) x (one, k) = go (nat_eq f.name x) (among_fields n fs x k)
    where
      go : (b : Bool) → IsFormed g.structs n (unwrap_or (field_among fs x) Int) → IsFormed g.structs n (unwrap_or (cond b (Some f.of_type) (field_among fs x)) Int)
      go true rest = one
      go false rest = rest

  -- if a value has a well-formed struct type, the type of each field, with the struct's region arguments substituted, is well-formed
  field_formed : (v : ValueType) (x : ℕ) → is_value has_members v ≡ true → IsFormedValue g.structs g.next_region v
      → IsFormed g.structs g.next_region (field_type (arguments_of (target_of (value_of v))) (field_among (fields_of g (target_of (value_of v))) x))
  field_formed (Value (Pointer k (Struct n rs) r)) x i ((known, j), counted) = go (slice_get g.fields n) refl
    where
      go : (o : Option (List Field)) → slice_get g.fields n ≡ o → IsFormed g.structs g.next_region (field_type rs (field_among (unwrap_or o []) x))
      go None e = (tt, tt)
      go (Some fs) e =
          let (s, at, types) = formed.fields n fs e in
          let long : length rs ≡ s.parameters = counted s at in
          formed_substituted g.structs g.next_region s.parameters rs (unwrap_or (field_among fs x) Int) known (omega arith) (among_fields s.parameters fs x types)
  field_formed (Value (Pointer k t r)) x i f = let (thin, is) = and_parts (is_thin_mark k) (is_struct t) i in absurd (true≢false (sym is))
  field_formed v x i f = absurd (cc)

  selected_formed : (q : Place) (a : typed.Expression) (f : Named) → IsFormedHere a → IsFormedReached (selected g q a f)
  selected_formed q a f k (members, rest) =
      (field_formed (type_of a) f.name members k, region_formed g.structs g.next_region (value_of (type_of a)) (value_formed g.structs g.next_region (type_of a) k))

  loaded_formed : (q : Place) (w : Reached) (a : typed.Expression) → IsFormedReached w → Derives (loaded q w) a → IsFormedHere a
  loaded_formed q w a k (kept, eq) = subst IsFormedHere (sym eq) (k (kept_append w.asked _ kept).0).0

  reached_formed : (w : Reached) (x : Found) → IsFormedReached w → Derives (reached w) x → IsFormedFound x
  reached_formed w x k (kept, eq) = subst IsFormedFound (sym eq) (k kept)

  address_formed : (s : Side) (t : Ty) → IsFormed g.structs g.next_region t → IsFormedHere (address_of s t)
  address_formed (VariableSide l u) t f = f
  address_formed (CellSide d) t f = f

  addressed_formed : (q : Place) (x : Found) (a : typed.Expression) → IsFormedFound x → Derives (addressed q x) a → IsFormedHere a
  addressed_formed q x a ((f, c), k) (kept, eq) = subst IsFormedHere (sym eq) (address_formed x.side _ ((f, k), c))

  assignment_formed : (s : Side) (b : typed.Expression) → IsFormed g.structs g.next_region (type_of_side s) → IsFormedHere (assignment s b)
  assignment_formed (VariableSide l t) b f = assigned_formed g.structs g.next_region t f
  assignment_formed (CellSide d) b f = assigned_formed g.structs g.next_region (type_of_place d) f

  assigned_here : (x : Found) (q : Place) (b a : typed.Expression) → IsFormedFound x → Derives (assigned g.regions x q b) a → IsFormedHere a
  assigned_here x q b a (f, k) (kept, eq) = subst IsFormedHere (sym eq) (assignment_formed x.side b f)

  -- ---- operators of two operands

  operand_formed : (b : Bool) (e : Expression) (a : typed.Expression) → ((c : typed.Expression) → Derives (rule g e) c → IsFormedHere c) → Derives (operand b (rule g e) (rule_looked g e (rule g e))) a → IsFormedHere a
  operand_formed true e a k d = seen_formed e (rule g e) a k d
  operand_formed false e a k d = k a d

  joined_formed : (q o : Place) (k : Option ℕ) (left : ValueType) (op : BinaryOperator) (a : typed.Expression) (j : Joined) → IsFormedValue g.structs g.next_region left → Derives (joined g q k left op o a) j → IsFormed g.structs g.next_region j.1
  joined_formed q o k left operators.Add a j f (kept, eq) = subst (λ (z : Joined). IsFormed g.structs g.next_region z.1) (sym eq) (value_formed g.structs g.next_region left f)
  joined_formed q o k left operators.Subtract a j f (kept, eq) = subst (λ (z : Joined). IsFormed g.structs g.next_region z.1) (sym eq) (value_formed g.structs g.next_region left f)
  joined_formed q o k left operators.OrElse a j f (kept, eq) = subst (λ (z : Joined). IsFormed g.structs g.next_region z.1) (sym eq) (tt, tt)
  joined_formed q o k left operators.AndThen a j f (kept, eq) = subst (λ (z : Joined). IsFormed g.structs g.next_region z.1) (sym eq) (tt, tt)
  joined_formed q o k left operators.Or a j f (kept, eq) = subst (λ (z : Joined). IsFormed g.structs g.next_region z.1) (sym eq) (tt, tt)
  joined_formed q o k left operators.Xor a j f (kept, eq) = subst (λ (z : Joined). IsFormed g.structs g.next_region z.1) (sym eq) (tt, tt)
  joined_formed q o k left operators.And a j f (kept, eq) = subst (λ (z : Joined). IsFormed g.structs g.next_region z.1) (sym eq) (tt, tt)
  joined_formed q o k left operators.Equal a j f (kept, eq) = subst (λ (z : Joined). IsFormed g.structs g.next_region z.1) (sym eq) (tt, tt)
  joined_formed q o k left operators.NotEqual a j f (kept, eq) = subst (λ (z : Joined). IsFormed g.structs g.next_region z.1) (sym eq) (tt, tt)
  joined_formed q o k left operators.Less a j f (kept, eq) = subst (λ (z : Joined). IsFormed g.structs g.next_region z.1) (sym eq) (tt, tt)
  joined_formed q o k left operators.LessOrEqual a j f (kept, eq) = subst (λ (z : Joined). IsFormed g.structs g.next_region z.1) (sym eq) (tt, tt)
  joined_formed q o k left operators.Greater a j f (kept, eq) = subst (λ (z : Joined). IsFormed g.structs g.next_region z.1) (sym eq) (tt, tt)
  joined_formed q o k left operators.GreaterOrEqual a j f (kept, eq) = subst (λ (z : Joined). IsFormed g.structs g.next_region z.1) (sym eq) (tt, tt)
  joined_formed q o k left operators.ShiftLeft a j f (kept, eq) = subst (λ (z : Joined). IsFormed g.structs g.next_region z.1) (sym eq) (tt, tt)
  joined_formed q o k left operators.ShiftRight a j f (kept, eq) = subst (λ (z : Joined). IsFormed g.structs g.next_region z.1) (sym eq) (tt, tt)
  joined_formed q o k left operators.Multiply a j f (kept, eq) = subst (λ (z : Joined). IsFormed g.structs g.next_region z.1) (sym eq) (tt, tt)
  joined_formed q o k left operators.Divide a j f (kept, eq) = subst (λ (z : Joined). IsFormed g.structs g.next_region z.1) (sym eq) (tt, tt)
  joined_formed q o k left operators.Remainder a j f (kept, eq) = subst (λ (z : Joined). IsFormed g.structs g.next_region z.1) (sym eq) (tt, tt)

  -- ---- calls

  abbrev AreFormedHere : List typed.Expression → Type 0
  AreFormedHere [] = Unit {0}
  AreFormedHere (a ∷ as') = IsFormedHere a × AreFormedHere as'

  -- says that every region that a call assigns to a region variable of the callee's signature is built in or declared
  abbrev AreKnownPairs : List (Region × Region) → Type 0
  AreKnownPairs [] = Unit {0}
  AreKnownPairs (p ∷ ps) = IsKnown g.next_region p.1 × AreKnownPairs ps

  pairs_append : (ps qs : List (Region × Region)) → AreKnownPairs ps → AreKnownPairs qs → AreKnownPairs (ps ++ qs)
  pairs_append [] qs k j = j
  pairs_append (p ∷ ps) qs (one, k) j = (one, pairs_append ps qs k j)

  all_paired_known : (rs ss : List Region) → AllOf (IsKnown g.next_region) ss → AreKnownPairs (all_paired rs ss)
  all_paired_known [] [] k = tt
  all_paired_known [] (s ∷ ss) k = tt
  all_paired_known (r ∷ rs) [] k = tt
  all_paired_known (r ∷ rs) (s ∷ ss) (one, k) = (one, all_paired_known rs ss k)

  paired_known : (t u : Ty) → AllIn (IsKnown g.next_region) u → AreKnownPairs (paired t u)
  paired_known (Pointer k t r) (Pointer l u s) (f, j) = pairs_append (paired t u) ((r, s) ∷ []) (paired_known t u f) (j, tt)
  paired_known (Handle r) (Handle s) f = (f, tt)
  paired_known (Key r) (Key s) f = (f, tt)
  paired_known (Struct n rs) (Struct m ss) f = all_paired_known rs ss f
  paired_known t u f = tt

  argument_known : (t : Ty) (v : ValueType) → IsFormedValue g.structs g.next_region v → AreKnownPairs (paired_argument t v)
  argument_known t (Value u) (f, c) = paired_known t u f
  argument_known t v f = tt

  arguments_paired : (ts : List Ty) (as' : List typed.Expression) → AreFormedHere as' → AreKnownPairs (paired_arguments ts as')
  arguments_paired [] [] f = tt
  arguments_paired [] (a ∷ as') f = tt
  arguments_paired (t ∷ ts) [] f = tt
  arguments_paired (t ∷ ts) (a ∷ as') (one, f) = pairs_append (paired_argument t (type_of a)) (paired_arguments ts as') (argument_known t (type_of a) one) (arguments_paired ts as' f)

  first_known : (ps : List (Region × Region)) (n : ℕ) → AreKnownPairs ps → IsKnown g.next_region (first_place ps n)
  first_known [] n k = tt
  first_known (p ∷ ps) n (one, k) = go (region_eq p.0 (regions.Variable n)) (first_known ps n k)
    where
      go : (b : Bool) → IsKnown g.next_region (first_place ps n) → IsKnown g.next_region (cond b p.1 (first_place ps n))
      go true rest = one
      go false rest = rest

  firsts_known : (ps : List (Region × Region)) (k n : ℕ) → AreKnownPairs ps → AllOf (IsKnown g.next_region) (first_places ps k n)
  firsts_known ps zero n j = tt
  firsts_known ps (suc k) n j = (first_known ps n j, firsts_known ps k (suc n) j)

  firsts-length : (ps : List (Region × Region)) (k n : ℕ) → length (first_places ps k n) ≡ k
  firsts-length ps zero n = refl
  firsts-length ps (suc k) n = ap suc (firsts-length ps k (suc n))

  result_formed : (m : List Region) (n : ℕ) (o : Option Ty) → AllOf (IsKnown g.next_region) m → n ≤ length m → IsFormedResult g.structs n o → IsFormedValue g.structs g.next_region (result_type (option_map (substituted_ty m) o))
  result_formed m n None k l f = tt
  result_formed m n (Some t) k l f = formed_substituted g.structs g.next_region n m t k l f

  called_formed : (m : Meaning) (q : Place) (es : Expressions) (as' : List typed.Expression) (a : typed.Expression) → IsFormedMeaning g.structs g.next_region m → AreFormedHere as' → Derives (called g m q es as') a → IsFormedHere a
  called_formed Unknown q es as' a k f d = absurd d
  called_formed (scopes.Variable l t home) q es as' a k f d = absurd d
  called_formed (Fixed l t) q es as' a k f d = absurd d
  called_formed (Counter n) q es as' a k f d = absurd d
  called_formed (Routine c s) q es as' a k f (kept, eq) =
      let long : length (first_places (paired_arguments s.parameters as') s.variables 1) ≡ s.variables = firsts-length (paired_arguments s.parameters as') s.variables 1 in
      subst IsFormedHere (sym eq)
      (result_formed (instance_of s as') (suc s.variables) s.result (tt, firsts_known (paired_arguments s.parameters as') s.variables 1 (arguments_paired s.parameters as' f)) (omega arith) k)

  -- ---- keys and unique objects

  key_freed_formed : (m : Meaning) (q : Place) (a : typed.Expression) → Derives (key_freed m q) a → IsFormedHere a
  key_freed_formed Unknown q a d = absurd d
  key_freed_formed (scopes.Variable (typed.Local o n) t home) q a (kept, eq) = subst IsFormedHere (sym eq) tt
  key_freed_formed (scopes.Variable (typed.Global n) t home) q a d = absurd d
  key_freed_formed (Fixed l t) q a d = absurd d
  key_freed_formed (Counter n) q a d = absurd d
  key_freed_formed (Routine f s) q a d = absurd d

  -- ---- new objects

  abbrev IsFormedMade : Made → Type 0
  IsFormedMade m = AllKept m.asked → IsFormed g.structs g.next_region m.target

  placement_formed : (q : Place) (e : Expression) (walked : Rule typed.Expression) (w : Placed) → ((b : typed.Expression) → Derives walked b → IsFormedHere b) → Derives (rule_placement g q e walked) w → IsKnown g.next_region w.region
  placement_formed q (UniqueRegion o) walked w k d = subst (λ (z : Placed). IsKnown g.next_region z.region) (sym d.1) tt
  placement_formed q (Bracketed o e) walked w k d = placement_formed q e walked w k d
  placement_formed q e walked w k (a, ka, (u, eq)) =
      subst (λ (z : Placed). IsKnown g.next_region z.region) (sym eq) (region_formed g.structs g.next_region (value_of (type_of a)) (value_formed g.structs g.next_region (type_of a) (k a ka)))

  created_formed : (w : Placed) (m : Made) (a : typed.Expression) → IsKnown g.next_region w.region → IsFormedMade m → Derives (created w m) a → IsFormedHere a
  created_formed w m a k f (kept, eq) = let (known, counted) = f (kept_append w.asked m.asked kept).1 in subst IsFormedHere (sym eq) ((known, k), counted)

  fields_formed : (s : Named) (rs : List Named) (es : Expressions) (as' : List typed.Expression) → IsFormedMade (fields_made g s rs es as')
  fields_formed s rs es as' kept =
      let ((there, (count, names)), rest) = kept_append (struct_demanded g.structs g.names None s.place s rs) _ kept in
      (arguments_known g.structs g.names g.next_region formed.names (unwrap_or (parameters_among g.structs s.name) 0) rs, arguments_counted g.structs g.names s.name rs count)

-- ---- all forms

mutual
  pub formed_well : (g : Scope) (formed : IsFormedScope g) (e : Expression) (a : typed.Expression) → Derives (rule g e) a → IsFormedHere g formed a
  formed_well g formed (Number q n) a (u, eq) = subst (IsFormedHere g formed) (sym eq) (tt, tt)
  formed_well g formed (Character q c) a (u, eq) = subst (IsFormedHere g formed) (sym eq) (tt, tt)
  formed_well g formed (Null q) a (u, eq) = subst (IsFormedHere g formed) (sym eq) tt
  formed_well g formed (HeapRegion q) a (u, eq) = subst (IsFormedHere g formed) (sym eq) (tt, tt)
  formed_well g formed (UniqueRegion q) a d = absurd d
  formed_well g formed (Variable x) a d = read_formed g formed (meaning_of g x) x.place a (meant_formed g formed x) d
  formed_well g formed (Call x es) a (bs, hs, d) = called_formed g formed (meaning_of g x) x.place es bs a (meant_formed g formed x) (all_formed g formed es bs hs) d
  formed_well g formed (Bracketed q e) a d = formed_well g formed e a d
  formed_well g formed (NumberOfElements q e) a (b, kb, (k, eq)) = subst (IsFormedHere g formed) (sym eq) (tt, tt)
  formed_well g formed (LowByteOf q e) a (b, kb, (k, eq)) = subst (IsFormedHere g formed) (sym eq) (tt, tt)
  formed_well g formed (FreeUnique q e) a (b, kb, (k, eq)) = subst (IsFormedHere g formed) (sym eq) tt
  formed_well g formed (FreeKey q x) a d = key_freed_formed g formed (meaning_of g x) x.place a d
  formed_well g formed (Chained e ps) a (w, kw, d) =
      loaded_formed g formed (place_of e) w a (postfixed_formed g formed (place_of e) e ps w (λ b k. seen_formed g formed e (rule g e) b (λ c j. formed_well g formed e c j) k) kw) d
  formed_well g formed (Prefixed q prefixes.Negate e) a (b, kb, (k, eq)) = subst (IsFormedHere g formed) (sym eq) (tt, tt)
  formed_well g formed (Prefixed q prefixes.Not e) a (b, kb, (k, eq)) = subst (IsFormedHere g formed) (sym eq) (tt, tt)
  formed_well g formed (Prefixed q prefixes.Complement e) a (b, kb, (k, eq)) = subst (IsFormedHere g formed) (sym eq) (tt, tt)
  formed_well g formed (Prefixed q prefixes.Dereference e) a (b, kb, d) =
      loaded_formed g formed q (pointed g (place_of e) b) a (pointed_formed g formed (place_of e) b (seen_formed g formed e (rule g e) b (λ c k. formed_well g formed e c k) kb)) d
  formed_well g formed (Prefixed q prefixes.AddressOf e) a (x, kx, d) = addressed_formed g formed (place_inside e) x a (found_formed g formed (place_of e) e x kx) d
  formed_well g formed (New q i) a (m, km, d) = created_formed g formed on_heap m a tt (made_formed g formed i m km) d
  formed_well g formed (RegionNew q e i) a (w, kw, (m, km, d)) =
      created_formed g formed w m a (placement_formed g formed (place_of e) e (rule g e) w (λ b k. formed_well g formed e b k) kw) (made_formed g formed i m km) d
  formed_well g formed (Binary e os) a (b, kb, (bs, ks, (u, eq))) =
      subst (IsFormedHere g formed) (sym eq)
      (chain_formed g formed (place_of e) (peeked_local (as_int b)) (type_of (as_int b)) os bs
      (int_served g formed b (operand_formed g formed (is_looking_first os) e b (λ c k. formed_well g formed e c k) kb)) ks)
  formed_well g formed (Assign e v) a (x, kx, (b, kb, d)) = assigned_here g formed x (place_of v) b a (found_formed g formed (place_of e) e x kx) d

  all_formed : (g : Scope) (formed : IsFormedScope g) (es : Expressions) (as' : List typed.Expression) → Derives (rule_all g es) as' → AreFormedHere g formed as'
  all_formed g formed NoExpressions as' (u, eq) = subst (AreFormedHere g formed) (sym eq) tt
  all_formed g formed (MoreExpressions e es) as' (a, k, (bs, ks, (u, eq))) = subst (AreFormedHere g formed) (sym eq) (formed_well g formed e a k, all_formed g formed es bs ks)

  chain_formed : (g : Scope) (formed : IsFormedScope g) (q : Place) (k : Option ℕ) (left : ValueType) (os : Operations) (bs : typed.Operations × Ty) → IsFormedValue g.structs g.next_region left → Derives (rule_chain g q k left os) bs
      → IsFormed g.structs g.next_region bs.1
  chain_formed g formed q k left NoOperations bs f (kept, eq) = subst (λ (z : typed.Operations × Ty). IsFormed g.structs g.next_region z.1) (sym eq) (value_formed g.structs g.next_region left f)
  chain_formed g formed q k left (ThenOperation op o e os) bs f (put, (b, kb, d), (cs, ks, (u, eq))) =
      subst (λ (z : typed.Operations × Ty). IsFormed g.structs g.next_region z.1) (sym eq)
      (chain_formed g formed q None (Value put.1) os cs (joined_formed g formed q (place_of e) k left op (as_int b) put f d) ks)

  pub found_formed : (g : Scope) (formed : IsFormedScope g) (q : Place) (e : Expression) (x : Found) → Derives (rule_place g q e (rule g e)) x → IsFormedFound g formed x
  found_formed g formed q (Variable y) x d = place_formed g formed (meaning_of g y) y.place q x (meant_formed g formed y) d
  found_formed g formed q (Bracketed o e) x d = found_formed g formed q e x d
  found_formed g formed q (Prefixed o prefixes.Dereference e) x (b, kb, d) =
      reached_formed g formed (pointed g (place_of e) b) x (pointed_formed g formed (place_of e) b (seen_formed g formed e (rule g e) b (λ c k. formed_well g formed e c k) kb)) d
  found_formed g formed q (Prefixed o prefixes.Negate e) x (b, kb, d) = absurd d
  found_formed g formed q (Prefixed o prefixes.Not e) x (b, kb, d) = absurd d
  found_formed g formed q (Prefixed o prefixes.Complement e) x (b, kb, d) = absurd d
  found_formed g formed q (Prefixed o prefixes.AddressOf e) x (b, kb, d) = absurd d
  found_formed g formed q (Chained e ps) x (w, kw, d) =
      reached_formed g formed w x (postfixed_formed g formed (place_of e) e ps w (λ b k. seen_formed g formed e (rule g e) b (λ c j. formed_well g formed e c j) k) kw) d
  found_formed g formed q e x (b, kb, d) = absurd d

  postfixed_formed : (g : Scope) (formed : IsFormedScope g) (q : Place) (e : Expression) (ps : Postfixes) (w : Reached) → ((a : typed.Expression) → Derives (rule_looked g e (rule g e)) a → IsFormedHere g formed a)
      → Derives (rule_postfixed g q (rule_looked g e (rule g e)) ps) w → IsFormedReached g formed w
  postfixed_formed g formed q e NoPostfixes w first d = absurd d
  postfixed_formed g formed q e (ThenIndex i ps) w first (a, ka, (b, kb, d)) =
      further_formed g formed q (indexed g q a (place_of i) (as_int b)) ps w (indexed_formed g formed q (place_of i) a (as_int b) (first a ka)) d
  postfixed_formed g formed q e (ThenField f ps) w first (a, ka, d) = further_formed g formed q (selected g q a f) ps w (selected_formed g formed q a f (first a ka)) d

  further_formed : (g : Scope) (formed : IsFormedScope g) (q : Place) (v : Reached) (ps : Postfixes) (w : Reached) → IsFormedReached g formed v → Derives (rule_further g q v ps) w → IsFormedReached g formed w
  further_formed g formed q v NoPostfixes w r (u, eq) = subst (IsFormedReached g formed) (sym eq) r
  further_formed g formed q v (ThenIndex i ps) w r (a, ka, (b, kb, d)) =
      further_formed g formed q (indexed g q a (place_of i) (as_int b)) ps w (indexed_formed g formed q (place_of i) a (as_int b) (loaded_formed g formed q v a r ka)) d
  further_formed g formed q v (ThenField f ps) w r (a, ka, d) = further_formed g formed q (selected g q a f) ps w (selected_formed g formed q a f (loaded_formed g formed q v a r ka)) d

  made_formed : (g : Scope) (formed : IsFormedScope g) (i : Initial) (m : Made) → Derives (rule_made g i) m → IsFormedMade g formed m
  made_formed g formed (Plain e) m (a, ka, (u, eq)) = subst (IsFormedMade g formed) (sym eq) (λ kept. value_formed g.structs g.next_region (type_of a) (formed_well g formed e a ka))
  made_formed g formed (Fields s rs es) m (as', ks, (u, eq)) = subst (IsFormedMade g formed) (sym eq) (fields_formed g formed s rs es as')
  made_formed g formed (Array q x n e) m (a, ka, (b, kb, (u, eq))) =
      subst (IsFormedMade g formed) (sym eq) (λ kept. value_formed g.structs g.next_region (type_of b) (formed_well (with_counter x g) (counting g x formed) e b kb))
