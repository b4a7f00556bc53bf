-- Each typing rule of the whole language is a value (`Rules`). A typing rule derives the typed tree of a syntax tree, or rejects with the
-- code and source position of the first violated requirement. The file `Expressions` covers expressions and lvalues. The rule of a syntax
-- tree is defined by one recursion; a named function states the requirements of each form of expression. Operands are checked first, in the
-- order of evaluation, then the requirements of the expression itself. Of the expression's own requirements that fail, the one with the
-- lowest fault code is reported. (Names, types, regions and effects are Cyclone's, Grossman et al. 2002. Codes, positions, the order, and
-- the numbers that identify locals and regions are this project's own choice.)
use Rattle.std.specs.Prelude.{ℕ, zero, suc, Bool, true, false, not, nat_eq, ◌&&◌, ◌||◌, if◌then◌else◌, List, [], ◌∷◌, ◌++◌, map, length, slice_get, Option, Some, None, is_some, unwrap_or, option_map}
use Rattle.std.specs.List.{list_any}
use Rattle.cyc_words.specs.declared.fault.Code.TheVariants as codes
use Rattle.cyc_syntax.specs.declared.tree.PointerKind.{PointerKind}
use Rattle.cyc_syntax.specs.declared.tree.PointerKind.TheVariants as marks
use Rattle.cyc_syntax.specs.declared.tree.PrefixOperator.{PrefixOperator}
use Rattle.cyc_syntax.specs.declared.tree.PrefixOperator.TheVariants as prefixes
use Rattle.cyc_syntax.specs.declared.tree.BinaryOperator.{BinaryOperator}
use Rattle.cyc_syntax.specs.declared.tree.BinaryOperator.TheVariants as operators
use Rattle.cyc_syntax.specs.Symbols.{Place}
use Rattle.cyc_syntax.specs.Trees.{Named, Expression, Number, Character, Null, HeapRegion, UniqueRegion, Variable, Call, Bracketed, NumberOfElements, LowByteOf, FreeUnique, FreeKey, Chained, Prefixed, New, RegionNew}
use Rattle.cyc_syntax.specs.Trees.{Binary, Assign, Initial, Plain, Fields, Array, Expressions, NoExpressions, MoreExpressions, Postfixes, NoPostfixes, ThenIndex, ThenField, Operations, NoOperations, ThenOperation, place_of}
use Rattle.cyc_types.specs.declared.region.Region.{Region}
use Rattle.cyc_types.specs.declared.region.Region.TheVariants as regions
use Rattle.cyc_types.specs.declared.typed.Callee.{Callee}
use Rattle.cyc_types.specs.declared.typed.UnaryOperator.TheVariants as unary
use Rattle.cyc_types.specs.declared.typed.Operator.{Operator}
use Rattle.cyc_types.specs.declared.typed.Operator.TheVariants as binary
use Rattle.cyc_types.specs.declared.typed.LogicalOperator.{LogicalOperator}
use Rattle.cyc_types.specs.declared.typed.LogicalOperator.TheVariants as logical
use Rattle.cyc_types.specs.declared.typed.PointerOperator.{PointerOperator}
use Rattle.cyc_types.specs.declared.typed.PointerOperator.TheVariants as pointers
use Rattle.cyc_types.specs.Types.{region_eq, substituted_region, Ty, Int, Char, Pointer, Handle, Key, Struct, ValueType, Void, Value, result_type, substituted_ty}
use Rattle.cyc_types.specs.Types as types
use Rattle.cyc_types.specs.Outlives.{RegionContext}
use Rattle.cyc_types.specs.Closure.{is_outliving}
use Rattle.cyc_types.specs.TypedTrees.{Lvalue, Local, Global, Dereference, Target, Member, Element, Placement, OnHeap, AsUnique, ByHandle, Converted, Convert, Side, VariableSide, CellSide, Signature, type_of, type_of_place}
use Rattle.cyc_types.specs.TypedTrees as typed
use Rattle.cyc_types.specs.Rules.{fault_at, Demand, demand, Rule, Refused, Own, Part, gives}
use Rattle.cyc_types.specs.typing.Scopes.{Field, Meaning, Unknown, Fixed, Counter, Routine, Scope, is_live, meaning_of, with_counter}
use Rattle.cyc_types.specs.typing.Scopes as scopes
use Rattle.cyc_types.specs.typing.Tests.{ty_eq, is_thin_mark, is_pointer, is_non_null, is_unique, is_key, is_struct, is_moved, is_void, is_int, is_char, is_value, is_fat, is_handle, is_tested, value_of, target_of, region_of, struct_of, arguments_of, kind_of, kind_of_value}
use Rattle.cyc_types.specs.typing.Formation.{struct_number, parameters_among, arguments_or, struct_demanded}

-- ---- conversions

-- returns true if a value of the first type can be converted to the second; the regions of the outermost pointers are not compared
abbrev pub is_convertible : Ty → Ty → Bool
is_convertible Int Int = true
-- an int is converted to a char by taking its low byte, and a char to an int by keeping its value
is_convertible Int Char = true
is_convertible Char Int = true
is_convertible Char Char = true
is_convertible (Pointer k t r) (Pointer l u s) = ty_eq t u
is_convertible (Handle r) (Handle s) = region_eq r s
is_convertible (Key r) (Key s) = region_eq r s
is_convertible t u = false

abbrev pub is_alike : ValueType → Ty → Bool
is_alike Void t = false
is_alike types.Null t = is_pointer t
is_alike (Value u) t = is_convertible u t

abbrev pub is_null_allowed : ValueType → Ty → Bool
is_null_allowed types.Null t = not (is_non_null t)
is_null_allowed v t = true

abbrev pub is_outlived : RegionContext → ValueType → Ty → Bool
is_outlived c (Value (Pointer k t r)) (Pointer l u s) = is_outliving c r s
is_outlived c v t = true

-- The requirements on converting an expression to a type. The expression to convert may have no value, or be the null pointer.
abbrev pub conversion : RegionContext → ValueType → Ty → Place → List Demand
conversion c v t p =
    demand codes.TypeMismatch p (is_alike v t) ∷ demand codes.NullForNonNull p (is_null_allowed v t) ∷ demand codes.NotOutlived p (is_outlived c v t) ∷ []

abbrev pub converted : typed.Expression → Ty → Converted
converted a t = Convert (kind_of_value (type_of a)) (kind_of t) a

-- the arguments of a call, each converted to the type of its parameter
abbrev pub passed : List typed.Expression → List Ty → typed.Arguments
passed (a ∷ as') (t ∷ ts) = typed.MoreArguments (converted a t) (passed as' ts)
passed as' ts = typed.NoArguments

abbrev pub passed_demanded : RegionContext → Expressions → List typed.Expression → List Ty → List Demand
passed_demanded c (MoreExpressions e es) (a ∷ as') (t ∷ ts) = conversion c (type_of a) t (place_of e) ++ passed_demanded c es as' ts
passed_demanded c es as' ts = []

-- ---- demands on the type of an operand at a place

-- returns the expression as an int; a char is widened and keeps its value
abbrev pub as_int : typed.Expression → typed.Expression
as_int a = if is_char (type_of a) then typed.Unary unary.Widen a else a

abbrev pub int_wanted : ValueType → Place → Demand
int_wanted t p = demand codes.TypeMismatch p (is_int t)

-- the requirement that a condition is an int or a pointer, which is tested against zero or null
abbrev pub test_wanted : ValueType → Place → Demand
test_wanted t p = demand codes.TypeMismatch p (is_tested t)

abbrev pub is_any : Ty → Bool
is_any t = true

abbrev pub value_wanted : ValueType → Place → Demand
value_wanted t p = demand codes.TypeMismatch p (is_value is_any t)

-- ---- variables

-- returns true if a variable can be read; a global that holds a unique pointer cannot be read
abbrev pub is_readable : Lvalue → Ty → Bool
is_readable (Local p n) t = true
is_readable (Global n) t = not (is_unique t)

abbrev pub variable_read : Lvalue → Ty → typed.Expression
variable_read (Local p n) t = if is_moved t then typed.Move p n t else typed.Copy (Local p n) t
variable_read (Global n) t = typed.Copy (Global n) t

-- the expression that reads a variable only to test, compare or dereference its value; a unique pointer stays in the variable
abbrev pub variable_looked : Lvalue → Ty → typed.Expression
variable_looked (Local p n) t = if is_unique t then typed.Peek p n t else variable_read (Local p n) t
variable_looked (Global n) t = typed.Copy (Global n) t

-- the rule for reading the variable that a name denotes
abbrev pub read : Meaning → Place → Rule typed.Expression
read Unknown p = Refused (fault_at codes.UnknownName p)
read (scopes.Variable l t home) p = Own (demand codes.UniqueShared p (is_readable l t) ∷ []) (variable_read l t)
read (Fixed l t) p = gives (typed.Copy l t)
read (Counter n) p = gives (typed.Counter n)
read (Routine f s) p = Refused (fault_at codes.TypeMismatch p)

abbrev pub looked : Meaning → Place → Rule typed.Expression
looked (scopes.Variable l t home) p = Own (demand codes.UniqueShared p (is_readable l t) ∷ []) (variable_looked l t)
looked m p = read m p

-- The rule for an operand whose value is only tested, compared or dereferenced. If an operand whose value is only tested, compared or
-- dereferenced is a variable (in parentheses or not), a unique pointer in the variable stays in the variable. For an operand that is not a
-- variable, the typing rule is the argument `walked`.
abbrev pub rule_looked : Scope → Expression → (walked : Rule typed.Expression) → Rule typed.Expression
rule_looked g (Variable x) walked = looked (meaning_of g x) x.place
rule_looked g (Bracketed p e) walked = rule_looked g e walked
rule_looked g e walked = walked

-- ---- places

-- an lvalue, and the region that contains it
pub record Found : Type 0 where
  pub side : Side
  pub region : Region

abbrev pub type_of_side : Side → Ty
type_of_side (VariableSide l t) = t
type_of_side (CellSide d) = type_of_place d

-- the rule for the lvalue that a name denotes; `p` is the source position of the name, `q` that of the whole expression's first token
abbrev pub place_meant : Meaning → Place → Place → Rule Found
place_meant Unknown p q = Refused (fault_at codes.UnknownName p)
place_meant (scopes.Variable l t home) p q = gives (record { side = VariableSide l t; region = home })
place_meant (Fixed l t) p q = Refused (fault_at codes.NotAPlace q)
place_meant (Counter n) p q = Refused (fault_at codes.NotAPlace q)
place_meant (Routine f s) p q = Refused (fault_at codes.NotAPlace q)

-- A memory cell reached through a pointer, with the requirements on using the cell as an lvalue. Reading the
-- value of a memory cell has further requirements (`loaded`).
pub record Reached : Type 0 where
  pub asked : List Demand
  pub cell : Dereference
  pub region : Region

-- the requirement that the region of a pointer is live; p is the pointer's source position
abbrev pub live_wanted : Scope → ValueType → Place → Demand
live_wanted g t p = demand codes.RegionNotLive p (is_live g (region_of (value_of t)))

-- the memory cell `*e`, for the operand e at source position p
abbrev pub pointed : Scope → Place → typed.Expression → Reached
pointed g p a = record {
  asked = demand codes.TypeMismatch p (is_value is_pointer (type_of a)) ∷ live_wanted g (type_of a) p ∷ [];
  cell = Target (kind_of (value_of (type_of a))) a (target_of (value_of (type_of a)));
  region = region_of (value_of (type_of a));
}

-- the memory cell `e[i]`, for operands at source positions p and q
abbrev pub indexed : Scope → Place → typed.Expression → Place → typed.Expression → Reached
indexed g p a q b = record {
  asked = demand codes.TypeMismatch p (is_value is_fat (type_of a)) ∷ int_wanted (type_of b) q ∷ live_wanted g (type_of a) p ∷ [];
  cell = Element a b (target_of (value_of (type_of a)));
  region = region_of (value_of (type_of a));
}

-- returns true if the type is a thin pointer to a struct
abbrev pub has_members : Ty → Bool
has_members (Pointer k t r) = is_thin_mark k && is_struct t
has_members t = false

abbrev pub fields_of : Scope → Ty → List Field
fields_of g t = unwrap_or (slice_get g.fields (struct_of t)) []

abbrev pub field_number : List Field → ℕ → ℕ
field_number [] x = 0
field_number (f ∷ fs) x = if nat_eq f.name x then 0 else suc (field_number fs x)

abbrev pub field_among : List Field → ℕ → Option Ty
field_among [] x = None
field_among (f ∷ fs) x = if nat_eq f.name x then Some f.of_type else field_among fs x

-- the type of a field, with the region arguments of the struct substituted
abbrev pub field_type : List Region → Option Ty → Ty
field_type rs t = substituted_ty rs (unwrap_or t Int)

-- The memory cell `e->f`, for the operand e at source position p. If the operand e is not a pointer to a struct, the field's name is not
-- checked.
abbrev pub selected : Scope → Place → typed.Expression → Named → Reached
selected g p a f = record {
  asked = demand codes.TypeMismatch p (is_value has_members (type_of a))
      ∷ demand codes.UnknownName f.place (not (is_value has_members (type_of a)) || is_some (field_among (fields_of g (target_of (value_of (type_of a)))) f.name))
      ∷ live_wanted g (type_of a) p
      ∷ [];
  cell = Member (kind_of (value_of (type_of a))) a (struct_of (target_of (value_of (type_of a)))) (field_number (fields_of g (target_of (value_of (type_of a)))) f.name)
      (field_type (arguments_of (target_of (value_of (type_of a)))) (field_among (fields_of g (target_of (value_of (type_of a)))) f.name));
  region = region_of (value_of (type_of a));
}

-- The requirements on reading a memory cell: it holds neither a whole struct nor a unique pointer. A unique pointer
-- in a memory cell may be reachable by other pointers.
abbrev pub content_demanded : Ty → Place → List Demand
content_demanded t p = demand codes.TypeMismatch p (not (is_struct t)) ∷ demand codes.UniqueShared p (not (is_unique t)) ∷ []

-- the typing rule for reading the value of a memory cell; the cell's expression is at source position p
abbrev pub loaded : Place → Reached → Rule typed.Expression
loaded p w = Own (w.asked ++ content_demanded (type_of_place w.cell) p) (typed.Load w.cell)

-- the rule for using a memory cell as an lvalue
abbrev pub reached : Reached → Rule Found
reached w = Own w.asked (record { side = CellSide w.cell; region = w.region })

-- the source position of the first token of an expression, inside its parentheses
abbrev pub place_inside : Expression → Place
place_inside (Bracketed p e) = place_inside e
place_inside e = place_of e

abbrev pub pointer_to : Found → Ty
pointer_to x = Pointer marks.NonNull (type_of_side x.side) x.region

abbrev pub address_of : Side → Ty → typed.Expression
address_of (VariableSide l t) u = typed.AddressOf l u
address_of (CellSide d) u = typed.AddressOfCell d u

-- The requirements on taking the address of an lvalue: it holds neither a key nor a unique pointer, and lies in no unique object.
-- Without these requirements on `&`, the address could outlive a freed object or a change of the object's owner.
abbrev pub address_demanded : Found → Place → List Demand
address_demanded x p =
    demand codes.RegionOrKeyMisused p (not (is_key (type_of_side x.side)))
    ∷ demand codes.UniqueShared p (not (is_unique (type_of_side x.side)) && not (region_eq x.region regions.Unique))
    ∷ []

abbrev pub addressed : Place → Found → Rule typed.Expression
addressed p x = Own (address_demanded x p) (address_of x.side (pointer_to x))

-- the type of an assignment's value; an assignment of a unique pointer or of a key has no value
abbrev pub assigned_type : Ty → ValueType
assigned_type t = if is_moved t then Void else Value t

abbrev pub assignment : Side → typed.Expression → typed.Expression
assignment (VariableSide l t) b = typed.Assign l (converted b t) (assigned_type t)
assignment (CellSide d) b = typed.Store d (converted b (type_of_place d)) (assigned_type (type_of_place d))

-- the rule for an assignment: the value is converted to the type of the assigned lvalue
abbrev pub assigned : RegionContext → Found → Place → typed.Expression → Rule typed.Expression
assigned c x p b = Own (conversion c (type_of b) (type_of_side x.side) p) (assignment x.side b)

-- ---- unary operators

-- The rule for a prefix operator at source position p and its operand at source position q. The typing rule of a prefix operator takes
-- three rules of its operand: as a value, as a pointer left in its local, and as an lvalue.
abbrev pub prefixed : Scope → PrefixOperator → Place → Place → (inside : Place) → (used seen : Rule typed.Expression) → Rule Found → Rule typed.Expression
prefixed g prefixes.Negate p q inside used seen place = Part used (λ a. Own (int_wanted (type_of (as_int a)) q ∷ []) (typed.Unary unary.Negate (as_int a)))
prefixed g prefixes.Not p q inside used seen place = Part seen (λ a. Own (test_wanted (type_of (as_int a)) q ∷ []) (typed.Unary unary.Not (as_int a)))
prefixed g prefixes.Complement p q inside used seen place = Part used (λ a. Own (int_wanted (type_of (as_int a)) q ∷ []) (typed.Unary unary.Complement (as_int a)))
prefixed g prefixes.Dereference p q inside used seen place = Part seen (λ a. loaded p (pointed g q a))
prefixed g prefixes.AddressOf p q inside used seen place = Part place (λ x. addressed inside x)

-- the rule for a prefix operator with its operand, used as an lvalue; the whole expression begins at source position p
abbrev pub place_prefixed : Scope → PrefixOperator → Place → Place → (walked seen : Rule typed.Expression) → Rule Found
place_prefixed g prefixes.Dereference p q walked seen = Part seen (λ a. reached (pointed g q a))
place_prefixed g o p q walked seen = Part walked (λ a. Refused (fault_at codes.NotAPlace p))

-- ---- binary operators

-- returns true for operators that only test or compare their operands, so that a unique pointer stays in its local
abbrev pub is_looking : BinaryOperator → Bool
is_looking operators.OrElse = true
is_looking operators.AndThen = true
is_looking operators.Equal = true
is_looking operators.NotEqual = true
is_looking o = false

abbrev pub is_looking_first : Operations → Bool
is_looking_first NoOperations = false
is_looking_first (ThenOperation o p e os) = is_looking o

abbrev pub operand : Bool → (used seen : Rule typed.Expression) → Rule typed.Expression
operand true used seen = seen
operand false used seen = used

-- a pair: the function that puts an operator with its right operand in front of an operator chain, and the type of the operator's result
abbrev pub Joined : Type 0
Joined = (typed.Operations → typed.Operations) × Ty

-- the local whose unique pointer a left operand reads without emptying the local, or `None`
abbrev pub peeked_local : typed.Expression → Option ℕ
peeked_local (typed.Peek p n t) = Some n
peeked_local a = None

-- puts an operator on a pointer or `NULL` in front of an operator chain; its left operand may be a unique pointer that stays in its local
abbrev pub then_pointer : Option ℕ → PointerOperator → typed.Expression → typed.Operations → typed.Operations
then_pointer None o a = typed.ThenPointer o a
then_pointer (Some n) o a = typed.ThenPointerPeek n o a

-- In the following definitions, p is the source position where an expression with several operators begins, and q that of an operator's
-- right operand.

abbrev pub ints_joined : Place → ValueType → Operator → Place → typed.Expression → Rule Joined
ints_joined p left o q a = Own (int_wanted left p ∷ int_wanted (type_of a) q ∷ []) (typed.ThenCompute o a, Int)

abbrev pub tests_joined : Place → ValueType → LogicalOperator → Place → typed.Expression → Rule Joined
tests_joined p left o q a = Own (test_wanted left p ∷ test_wanted (type_of a) q ∷ []) (typed.ThenTest o a, Int)

-- returns true if pointer arithmetic is allowed on a pointer type: the pointer is fat and not unique
abbrev pub is_movable : Ty → Bool
is_movable t = is_fat t && not (is_unique t)

abbrev pub then_added : ValueType → Operator → PointerOperator → typed.Expression → typed.Operations → typed.Operations
then_added (Value Int) o fat a = typed.ThenCompute o a
then_added left o fat a = typed.ThenPointer fat a

abbrev pub sums_joined : Place → ValueType → Operator → PointerOperator → Place → typed.Expression → Rule Joined
sums_joined p left o fat q a =
    Own (demand codes.TypeMismatch p (is_int left || is_value is_movable left) ∷ int_wanted (type_of a) q ∷ []) (then_added left o fat a, value_of left)

abbrev pub is_comparable : ValueType → Bool
is_comparable Void = false
is_comparable types.Null = true
is_comparable (Value Int) = true
is_comparable (Value (Pointer k t r)) = true
is_comparable (Value t) = false

-- returns true if two types can be compared: two ints, two thin pointers with equal targets, or a pointer and `NULL`
abbrev pub are_compared : ValueType → ValueType → Bool
are_compared (Value Int) (Value Int) = true
are_compared (Value (Pointer k t r)) (Value (Pointer l u s)) = is_thin_mark k && (is_thin_mark l && ty_eq t u)
are_compared (Value (Pointer k t r)) types.Null = true
are_compared types.Null (Value (Pointer k t r)) = true
are_compared left right = false

-- returns true unless both operands of a comparison are pointers and the region of the first is not live
abbrev pub is_compared_live : Scope → ValueType → ValueType → Bool
is_compared_live g (Value (Pointer k t r)) (Value (Pointer l u s)) = is_live g r
is_compared_live g left right = true

abbrev pub equality_demanded : Scope → Place → ValueType → Place → ValueType → List Demand
equality_demanded g p left q right =
    demand codes.TypeMismatch p (is_comparable left)
    ∷ demand codes.TypeMismatch q (is_comparable right)
    ∷ demand codes.TypeMismatch p (are_compared left right)
    ∷ demand codes.RegionNotLive p (is_compared_live g left right)
    ∷ demand codes.RegionNotLive q (is_compared_live g right left)
    ∷ []

-- the operator that compares a thin or fat pointer with `NULL`, by `==` or (if negated) by `!=`
abbrev pub null_test : (negated : Bool) → (thin : Bool) → PointerOperator
null_test false true = pointers.ThinIsNull
null_test false false = pointers.FatIsNull
null_test true true = pointers.ThinIsNotNull
null_test true false = pointers.FatIsNotNull

abbrev pub null_tested : (negated : Bool) → PointerOperator
null_tested false = pointers.NullIs
null_tested true = pointers.NullIsNot

abbrev pub thin_test : (negated : Bool) → PointerOperator
thin_test false = pointers.EqualThin
thin_test true = pointers.NotEqualThin

abbrev pub int_test : (negated : Bool) → Operator
int_test false = binary.Equal
int_test true = binary.NotEqual

abbrev pub then_compared : Option ℕ → (negated : Bool) → ValueType → ValueType → typed.Expression → typed.Operations → typed.Operations
then_compared k negated (Value (Pointer m t r)) types.Null a = then_pointer k (null_test negated (is_thin_mark m)) a
then_compared k negated (Value (Pointer m t r)) (Value u) a = then_pointer k (thin_test negated) a
then_compared k negated types.Null right a = typed.ThenPointer (null_tested negated) a
then_compared k negated left right a = typed.ThenCompute (int_test negated) a

abbrev pub equality_joined : Scope → Place → Option ℕ → ValueType → (negated : Bool) → Place → typed.Expression → Rule Joined
equality_joined g p k left negated q a = Own (equality_demanded g p left q (type_of a)) (then_compared k negated left (type_of a) a, Int)

abbrev pub joined : Scope → Place → Option ℕ → ValueType → BinaryOperator → Place → typed.Expression → Rule Joined
joined g p k left operators.OrElse q a = tests_joined p left logical.OrElse q a
joined g p k left operators.AndThen q a = tests_joined p left logical.AndThen q a
joined g p k left operators.Or q a = ints_joined p left binary.Or q a
joined g p k left operators.Xor q a = ints_joined p left binary.Xor q a
joined g p k left operators.And q a = ints_joined p left binary.And q a
joined g p k left operators.Equal q a = equality_joined g p k left false q a
joined g p k left operators.NotEqual q a = equality_joined g p k left true q a
joined g p k left operators.Less q a = ints_joined p left binary.Less q a
joined g p k left operators.LessOrEqual q a = ints_joined p left binary.LessOrEqual q a
joined g p k left operators.Greater q a = ints_joined p left binary.Greater q a
joined g p k left operators.GreaterOrEqual q a = ints_joined p left binary.GreaterOrEqual q a
joined g p k left operators.ShiftLeft q a = ints_joined p left binary.ShiftLeft q a
joined g p k left operators.ShiftRight q a = ints_joined p left binary.ShiftRight q a
joined g p k left operators.Add q a = sums_joined p left binary.Add pointers.AddFat q a
joined g p k left operators.Subtract q a = sums_joined p left binary.Subtract pointers.SubtractFat q a
joined g p k left operators.Multiply q a = ints_joined p left binary.Multiply q a
joined g p k left operators.Divide q a = ints_joined p left binary.Divide q a
joined g p k left operators.Remainder q a = ints_joined p left binary.Remainder q a

-- ---- calls

abbrev pub all_paired : List Region → List Region → List (Region × Region)
all_paired (r ∷ rs) (s ∷ ss) = (r, s) ∷ all_paired rs ss
all_paired rs ss = []

-- The regions of a parameter's type, each paired with the region at the same position in an argument's type. The order of these pairs
-- is: a struct's arguments or the region of a handle or key, then the pointer signs from the left. If a parameter's and an argument's
-- types have different shapes, no conversion exists.
abbrev pub paired : Ty → Ty → List (Region × Region)
paired (Pointer k t r) (Pointer l u s) = paired t u ++ (r, s) ∷ []
paired (Handle r) (Handle s) = (r, s) ∷ []
paired (Key r) (Key s) = (r, s) ∷ []
paired (Struct n rs) (Struct m ss) = all_paired rs ss
paired t u = []

-- the pairs of regions of a parameter and its argument; the argument `NULL` gives no pairs
abbrev pub paired_argument : Ty → ValueType → List (Region × Region)
paired_argument t (Value u) = paired t u
paired_argument t v = []

abbrev pub paired_arguments : List Ty → List typed.Expression → List (Region × Region)
paired_arguments (t ∷ ts) (a ∷ as') = paired_argument t (type_of a) ++ paired_arguments ts as'
paired_arguments ts as' = []

-- the region that the first pair with region variable n gives to this variable, or the heap if no pair has the variable
abbrev pub first_place : List (Region × Region) → ℕ → Region
first_place [] n = regions.Heap
first_place (p ∷ ps) n = if region_eq p.0 (regions.Variable n) then p.1 else first_place ps n

-- lists, for `count` region variables from number `from` on, the region that the first pair with each of these variables gives to it
abbrev pub first_places : List (Region × Region) → (count from : ℕ) → List Region
first_places ps zero n = []
first_places ps (suc k) n = first_place ps n ∷ first_places ps k (suc n)

-- the regions that instantiate the region variables of a signature at a call, each at the index that identifies its region
-- variable; no region variable has the index 0
abbrev pub instance_of : Signature → List typed.Expression → List Region
instance_of s as' = regions.Heap ∷ first_places (paired_arguments s.parameters as') s.variables 1

abbrev pub instantiated : List Region → Signature → Signature
instantiated m s = record {
  variables = 0;
  parameters = map (substituted_ty m) s.parameters;
  result = option_map (substituted_ty m) s.result;
  effect = map (substituted_region m) s.effect;
  constraints = map (λ (p : Region × Region). (substituted_region m p.0, substituted_region m p.1)) s.constraints;
}

-- returns true if a pair instantiates a region variable with the unique region
abbrev pub is_unique_for_variable : Region × Region → Bool
is_unique_for_variable (regions.Variable n, s) = region_eq s regions.Unique
is_unique_for_variable (r, s) = false

-- The requirements that no region variable of a callee is instantiated with the unique region. If the unique region is paired
-- with a later occurrence of a variable, a conversion of an argument fails instead.
abbrev pub variables_demanded : Expressions → List typed.Expression → List Ty → List Demand
variables_demanded (MoreExpressions e es) (a ∷ as') (t ∷ ts) =
    demand codes.RegionOrKeyMisused (place_of e) (not (list_any is_unique_for_variable (paired_argument t (type_of a)))) ∷ variables_demanded es as' ts
variables_demanded es as' ts = []

abbrev pub constraints_demanded : RegionContext → Place → List (Region × Region) → List Demand
constraints_demanded c p [] = []
constraints_demanded c p (q ∷ qs) = demand codes.NotOutlived p (is_outliving c q.0 q.1) ∷ constraints_demanded c p qs

abbrev pub effect_demanded : Scope → Place → List Region → List Demand
effect_demanded g p [] = []
effect_demanded g p (r ∷ rs) = demand codes.EffectNotCovered p (is_live g r) ∷ effect_demanded g p rs

-- The requirements on a call, from the callee's signature as declared and as instantiated. The number of arguments of a call is
-- right, each is converted, the callee's constraints hold, and the regions of its effect are live.
abbrev pub call_demanded : Scope → Place → Expressions → List typed.Expression → (s called : Signature) → List Demand
call_demanded g p es as' s called =
    demand codes.TypeMismatch p (nat_eq (length as') (length s.parameters))
    ∷ (passed_demanded g.regions es as' called.parameters
    ++ (variables_demanded es as' s.parameters ++ (constraints_demanded g.regions p called.constraints ++ effect_demanded g p called.effect)))

abbrev pub called_by : Scope → Callee → Place → Expressions → List typed.Expression → (s called : Signature) → Rule typed.Expression
called_by g f p es as' s called = Own (call_demanded g p es as' s called) (typed.Call f (passed as' called.parameters) (result_type called.result))

-- the typing rule for a call of the function that a name denotes; the name is at source position p
abbrev pub called : Scope → Meaning → Place → Expressions → List typed.Expression → Rule typed.Expression
called g Unknown p es as' = Refused (fault_at codes.UnknownName p)
called g (scopes.Variable l t home) p es as' = Refused (fault_at codes.TypeMismatch p)
called g (Fixed l t) p es as' = Refused (fault_at codes.TypeMismatch p)
called g (Counter n) p es as' = Refused (fault_at codes.TypeMismatch p)
called g (Routine f s) p es as' = called_by g f p es as' s (instantiated (instance_of s as') s)

-- ---- keys and unique objects

-- the typing rule for `ufree` applied to a unique pointer; the operand is at source position p
abbrev pub freed : Place → typed.Expression → Rule typed.Expression
freed p a =
    Own (demand codes.TypeMismatch p (not (is_void (type_of a))) ∷ demand codes.RegionOrKeyMisused p (is_value is_unique (type_of a)) ∷ []) (typed.FreeUnique a)

-- the typing rule for `free_ukey` applied to the key that a name denotes; the name is at source position p
abbrev pub key_freed : Meaning → Place → Rule typed.Expression
key_freed Unknown p = Refused (fault_at codes.UnknownName p)
key_freed (scopes.Variable (Local q n) t home) p = Own (demand codes.RegionOrKeyMisused p (is_key t) ∷ []) (typed.FreeKey (typed.Move q n t))
key_freed (Routine f s) p = Refused (fault_at codes.TypeMismatch p)
key_freed m p = Refused (fault_at codes.RegionOrKeyMisused p)

-- ---- new objects

-- the region chosen for a new object: the requirements on it, the placement node of the typed tree, and the region itself
pub record Placed : Type 0 where
  pub asked : List Demand
  pub placement : Placement
  pub region : Region

-- the initial values of a new object: their requirements, their typed node, the pointer's target type, and the pointer's
-- kind (`*`, `@` or `?`)
pub record Made : Type 0 where
  pub asked : List Demand
  pub initial : typed.Initial
  pub target : Ty
  pub mark : PointerKind

abbrev pub on_heap : Placed
on_heap = record { asked = []; placement = OnHeap; region = regions.Heap }

abbrev pub as_unique : Placed
as_unique = record { asked = []; placement = AsUnique; region = regions.Unique }

-- the placement of a new object in the region of a handle; the handle's region must be live
abbrev pub by_handle : Scope → Place → typed.Expression → Placed
by_handle g p a = record {
  asked = demand codes.TypeMismatch p (is_value is_handle (type_of a)) ∷ live_wanted g (type_of a) p ∷ [];
  placement = ByHandle a;
  region = region_of (value_of (type_of a));
}

-- the rule for the placement of a new object (the expression in `rnew(..)`); `unique_region` is allowed only as a
-- placement, in parentheses or not
abbrev pub rule_placement : Scope → Place → Expression → (walked : Rule typed.Expression) → Rule Placed
rule_placement g p (UniqueRegion q) walked = gives as_unique
rule_placement g p (Bracketed q e) walked = rule_placement g p e walked
rule_placement g p e walked = Part walked (λ a. gives (by_handle g p a))

-- the requirements on the initial value of a memory cell: the expression has a value, and the value is no key
abbrev pub element_demanded : ValueType → Place → List Demand
element_demanded t p = value_wanted t p ∷ demand codes.RegionOrKeyMisused p (not (is_value is_key t)) ∷ []

abbrev pub plain_made : Place → typed.Expression → Made
plain_made p a = record {
  asked = element_demanded (type_of a) p;
  initial = typed.Plain (kind_of_value (type_of a)) a;
  target = value_of (type_of a);
  mark = marks.NonNull;
}

-- the initial values `{for x < n : e}` of a new array, from the source positions of `for`, n and e
abbrev pub array_made : (level : ℕ) → Place → Place → typed.Expression → Place → typed.Expression → Made
array_made level o p a q b = record {
  asked = int_wanted (type_of a) p ∷ element_demanded (type_of b) q;
  initial = typed.Array o level a (kind_of_value (type_of b)) b;
  target = value_of (type_of b);
  mark = marks.Fat;
}

-- the types of a struct's fields, with the region arguments of the struct substituted
abbrev pub field_types : List Region → List Field → List Ty
field_types rs fs = map (λ (f : Field). substituted_ty rs f.of_type) fs

abbrev pub arguments_written : Scope → Named → List Named → List Region
arguments_written g s rs = arguments_or g.names (unwrap_or (parameters_among g.structs s.name) 0) rs

abbrev pub fields_known : Scope → Named → List Field
fields_known g s = unwrap_or (slice_get g.fields (struct_number g.structs s.name)) []

abbrev pub fields_made : Scope → Named → List Named → Expressions → List typed.Expression → Made
fields_made g s rs es as' = record {
  asked = struct_demanded g.structs g.names None s.place s rs
      ++ (demand codes.TypeMismatch s.place (nat_eq (length as') (length (fields_known g s)))
      ∷ passed_demanded g.regions es as' (field_types (arguments_written g s rs) (fields_known g s)));
  initial = typed.Fields (passed as' (field_types (arguments_written g s rs) (fields_known g s)));
  target = Struct (struct_number g.structs s.name) (arguments_written g s rs);
  mark = marks.NonNull;
}

abbrev pub created : Placed → Made → Rule typed.Expression
created w m = Own (w.asked ++ m.asked) (typed.New w.placement m.initial (Pointer m.mark m.target w.region))

-- ---- expressions

abbrev mutual
  pub rule : Scope → Expression → Rule typed.Expression
  rule g (Number p n) = gives (typed.Number n)
  rule g (Character p c) = gives (typed.Number c)
  rule g (Null p) = gives typed.NullPointer
  rule g (HeapRegion p) = gives typed.HeapRegion
  rule g (UniqueRegion p) = Refused (fault_at codes.RegionOrKeyMisused p)
  rule g (Variable x) = read (meaning_of g x) x.place
  rule g (Call x es) = Part (rule_all g es) (λ as'. called g (meaning_of g x) x.place es as')
  rule g (Bracketed p e) = rule g e
  rule g (NumberOfElements p e) =
      Part (rule_looked g e (rule g e)) (λ a. Own (demand codes.TypeMismatch (place_of e) (is_value is_fat (type_of a)) ∷ []) (typed.NumberOfElements a))
  rule g (LowByteOf p e) = Part (rule g e) (λ a. Own (int_wanted (type_of (as_int a)) (place_of e) ∷ []) (typed.Unary unary.LowByte (as_int a)))
  rule g (FreeUnique p e) = Part (rule g e) (λ a. freed (place_of e) a)
  rule g (FreeKey p k) = key_freed (meaning_of g k) k.place
  rule g (Chained e ps) = Part (rule_postfixed g (place_of e) (rule_looked g e (rule g e)) ps) (λ w. loaded (place_of e) w)
  rule g (Prefixed p o e) = prefixed g o p (place_of e) (place_inside e) (rule g e) (rule_looked g e (rule g e)) (rule_place g (place_of e) e (rule g e))
  rule g (New p i) = Part (rule_made g i) (λ m. created on_heap m)
  rule g (RegionNew p h i) = Part (rule_placement g (place_of h) h (rule g h)) (λ w. Part (rule_made g i) (λ m. created w m))
  rule g (Binary e os) =
      Part (operand (is_looking_first os) (rule g e) (rule_looked g e (rule g e)))
      (λ a. Part (rule_chain g (place_of e) (peeked_local (as_int a)) (type_of (as_int a)) os) (λ bs. gives (typed.Binary (as_int a) bs.0 bs.1)))
  rule g (Assign e v) = Part (rule_place g (place_of e) e (rule g e)) (λ x. Part (rule g v) (λ b. assigned g.regions x (place_of v) b))

  pub rule_all : Scope → Expressions → Rule (List typed.Expression)
  rule_all g NoExpressions = gives []
  rule_all g (MoreExpressions e es) = Part (rule g e) (λ a. Part (rule_all g es) (λ as'. gives (a ∷ as')))

  -- The rule for the operators of an expression that begins at source position p, after a left operand of the given type. The left
  -- operand of an operator chain may be a unique pointer that stays in its local. The rule of an operator chain derives its typed
  -- operators with their right operands, and the type of its value.
  pub rule_chain : Scope → Place → Option ℕ → ValueType → Operations → Rule (typed.Operations × Ty)
  rule_chain g p k left NoOperations = Own (value_wanted left p ∷ []) (typed.NoOperations, value_of left)
  rule_chain g p k left (ThenOperation o q e os) =
      Part (Part (operand (is_looking o) (rule g e) (rule_looked g e (rule g e))) (λ a. joined g p k left o (place_of e) (as_int a)))
      (λ put. Part (rule_chain g p None (Value put.1) os) (λ bs. gives (put.0 bs.0, bs.1)))

  -- The rule for an expression used as an lvalue. An expression that is not an lvalue is first checked by the rule `walked` (its rule
  -- as a value), and then rejected.
  pub rule_place : Scope → Place → Expression → (walked : Rule typed.Expression) → Rule Found
  rule_place g p (Variable x) walked = place_meant (meaning_of g x) x.place p
  rule_place g p (Bracketed q e) walked = rule_place g p e walked
  rule_place g p (Prefixed q o e) walked = place_prefixed g o p (place_of e) walked (rule_looked g e (rule g e))
  rule_place g p (Chained e ps) walked = Part (rule_postfixed g (place_of e) (rule_looked g e (rule g e)) ps) (λ w. reached w)
  rule_place g p e walked = Part walked (λ a. Refused (fault_at codes.NotAPlace p))

  -- The rule for the memory cell that an operand with postfixes (`[i]` or `->f`) denotes. (A tree of a source text has at
  -- least one postfix.)
  pub rule_postfixed : Scope → Place → (first : Rule typed.Expression) → Postfixes → Rule Reached
  rule_postfixed g p first NoPostfixes = Refused (fault_at codes.NotAPlace p)
  rule_postfixed g p first (ThenIndex i ps) = Part first (λ a. Part (rule g i) (λ b. rule_further g p (indexed g p a (place_of i) (as_int b)) ps))
  rule_postfixed g p first (ThenField f ps) = Part first (λ a. rule_further g p (selected g p a f) ps)

  -- the rule for the postfixes (`[i]` or `->f`) after a memory cell; before a further postfix is applied, the value of the cell is read
  pub rule_further : Scope → Place → Reached → Postfixes → Rule Reached
  rule_further g p w NoPostfixes = gives w
  rule_further g p w (ThenIndex i ps) = Part (loaded p w) (λ a. Part (rule g i) (λ b. rule_further g p (indexed g p a (place_of i) (as_int b)) ps))
  rule_further g p w (ThenField f ps) = Part (loaded p w) (λ a. rule_further g p (selected g p a f) ps)

  -- the typing rule for the initial values of a new object
  pub rule_made : Scope → Initial → Rule Made
  rule_made g (Plain e) = Part (rule g e) (λ a. gives (plain_made (place_of e) a))
  rule_made g (Fields s rs es) = Part (rule_all g es) (λ as'. gives (fields_made g s rs es as'))
  rule_made g (Array p x n e) =
      Part (rule g n) (λ a. Part (rule (with_counter x g) e) (λ b. gives (array_made g.counters p (place_of n) (as_int a) (place_of e) b)))
