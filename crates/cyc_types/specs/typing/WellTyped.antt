-- The typing judgement on typed trees of the whole language: a tree is well-typed in its context, whether or not it comes from a source
-- text. In the states of an execution, the typing judgement also applies to the operators, arguments or declarations and statements of a
-- block that are not yet evaluated. The typing rules derive only well-typed trees. The typing judgement contains all facts that a proof
-- about executions needs. The typing rules ensure some facts of the typing judgement without a requirement: each declared local or region
-- gets a new number, and a variable's own region is live at its declaration. (Typing, regions, effects and outlives are those of Grossman
-- et al. 2002. The form of the judgement is this project's own choice.)
use Rattle.std.specs.Prelude.{◌≡◌, ◌≢◌, ◌⊎◌, ℕ, suc, ◌+◌, ◌<◌, ◌≤◌, Bool, true, false, List, [], ◌∷◌, ◌++◌, Option, Some, None, Contains, length, map, slice_get}
use Rattle.cyc_syntax.specs.declared.tree.PointerKind.{PointerKind}
use Rattle.cyc_syntax.specs.declared.tree.PointerKind.TheVariants as marks
use Rattle.cyc_types.specs.declared.region.Region.{Region}
use Rattle.cyc_types.specs.declared.region.Region.TheVariants as regions
use Rattle.cyc_types.specs.declared.scope.Kind.{Kind}
use Rattle.cyc_types.specs.declared.scope.Kind.TheVariants as scopes
use Rattle.cyc_types.specs.declared.typed.Callee.{Callee}
use Rattle.cyc_types.specs.declared.typed.Callee.TheVariants as callees
use Rattle.cyc_types.specs.declared.typed.UnaryOperator.{UnaryOperator}
use Rattle.cyc_types.specs.declared.typed.UnaryOperator.TheVariants as unary
use Rattle.cyc_types.specs.declared.typed.PointerOperator.{PointerOperator}
use Rattle.cyc_types.specs.declared.typed.PointerOperator.TheVariants as pointers
use Rattle.cyc_types.specs.Types.{Ty, Int, Char, Pointer, Handle, Key, Struct, ValueType, Void, Null, Value, result_type, substituted_ty}
use Rattle.cyc_types.specs.Outlives.{RegionContext, OutlivesIn, live_regions}
use Rattle.cyc_types.specs.Declarations.{declared_types, item_types, caught_types, declared_regions, item_regions}
use Rattle.cyc_types.specs.TypedTrees.{unary_type, Lvalue, Local, Global, Expression, Number, NullPointer, HeapRegion, Counter, Copy, Move, Peek, Load, AddressOf, AddressOfCell, NumberOfElements, FreeUnique, FreeKey, Call, Unary, Binary}
use Rattle.cyc_types.specs.TypedTrees.{Assign, Store, New, Dereference, Target, Member, Element, Placement, OnHeap, AsUnique, ByHandle, Initial, Plain, Fields, Array, Converted, Convert, Arguments, NoArguments, MoreArguments, Operations}
use Rattle.cyc_types.specs.TypedTrees.{NoOperations, ThenCompute, ThenTest, ThenPointer, ThenPointerPeek, Side, VariableSide, CellSide, Statement, Block, Empty, Evaluate, Swap, If, While, Return, Break, Continue, Throw, Try, Items}
use Rattle.cyc_types.specs.TypedTrees.{NoItems, MoreItems, Execute, Declare, DeclareRegion, OpenRegion, DeclareAlias, DeclareKey, Clauses, NoClauses, Default, Case, Word, Null, StructType, GlobalVariable, Signature, Function, Program}
use Rattle.cyc_types.specs.typing.Scopes.{signature_of_ints, with_scope}
use Rattle.cyc_types.specs.typing.Tests.{is_thin_mark, is_non_null, is_unique, is_key, is_struct, is_moved, is_tested, kind_of_mark, kind_of, kind_of_value}
use Rattle.cyc_types.specs.typing.Expressions.{assigned_type, instantiated}
use Rattle.cyc_types.specs.typing.Statements.{with_region_of}

-- ---- the context of a tree

-- a local variable that is in scope
pub record LocalInScope : Type 0 where
  -- the number that identifies the local in its function
  pub number : ℕ
  pub of_type : Ty
  -- the number that identifies the region of the block that declares the local
  pub region : ℕ
  -- true if the local may be assigned; the handle of a `region` declaration may not be assigned
  pub is_place : Bool

pub record Context : Type 0 where
  -- the structs of the program, indexed by the numbers that identify them
  pub structs : List StructType
  pub exceptions : List Bool
  pub globals : List Ty
  pub functions : List Signature
  -- the types of the function's locals, indexed by the numbers that identify the locals; the count of the function's
  -- regions; and the function's result type
  pub variables : List Ty
  pub region_count : ℕ
  pub result : Option Ty
  -- the locals in scope, newest first
  pub locals : List LocalInScope
  -- the numbers that will identify the next declared local and the next declared region
  pub next_local : ℕ
  pub next_region : ℕ
  -- the number that identifies the region of the innermost enclosing block
  pub region : ℕ
  -- the live regions and the outlives constraints at the program point that is checked
  pub regions : RegionContext
  pub in_loop : Bool
  -- the number of enclosing array `for`s
  pub counters : ℕ

abbrev pub IsLive : Context → Region → Type 0
IsLive c r = Contains (live_regions c.regions.live c.regions.opened) r

abbrev pub AreLive : Context → List Region → Type 0
AreLive c [] = Unit {0}
AreLive c (r ∷ rs) = IsLive c r × AreLive c rs

abbrev pub AreOutliving : Context → List (Region × Region) → Type 0
AreOutliving c [] = Unit {0}
AreOutliving c (p ∷ ps) = OutlivesIn c.regions p.0 p.1 × AreOutliving c ps

-- says that a local with number n and type t is in scope and lies in region r
abbrev pub HasLocal : List LocalInScope → ℕ → Ty → ℕ → Type 0
HasLocal [] n t r = ⊥
HasLocal (v ∷ vs) n t r = ((v.number ≡ n) × (v.of_type ≡ t) × (v.region ≡ r)) ⊎ HasLocal vs n t r

-- says that a local with number n and type t is in scope, lies in region r and may be assigned
abbrev pub HasPlace : List LocalInScope → ℕ → Ty → ℕ → Type 0
HasPlace [] n t r = ⊥
HasPlace (v ∷ vs) n t r = ((v.number ≡ n) × (v.of_type ≡ t) × (v.region ≡ r) × (v.is_place ≡ true)) ⊎ HasPlace vs n t r

-- says that a variable has type t in the context
abbrev pub IsVariable : Context → Lvalue → Ty → Type 0
IsVariable c (Local p n) t = ((r : ℕ) × HasLocal c.locals n t r) × (slice_get c.variables n ≡ Some t)
IsVariable c (Global n) t = slice_get c.globals n ≡ Some t

-- says that a variable of type t may be assigned and lies in region r
abbrev pub IsPlace : Context → Lvalue → Ty → Region → Type 0
IsPlace c (Local p n) t r = (m : ℕ) × HasPlace c.locals n t m × (r ≡ regions.Variable m) × (slice_get c.variables n ≡ Some t)
IsPlace c (Global n) t r = (r ≡ regions.Heap) × (slice_get c.globals n ≡ Some t)

-- says that a callee has the given signature in the context
abbrev pub IsCallee : Context → Callee → Signature → Type 0
IsCallee c callees.Putchar s = s ≡ signature_of_ints (Int ∷ [])
IsCallee c callees.Getchar s = s ≡ signature_of_ints []
IsCallee c (callees.Function n) s = slice_get c.functions n ≡ Some s

-- Says that none of the regions that instantiate a signature's region variables (numbered from 1) is the unique region.
abbrev pub AreNotUnique : List Region → Type 0
AreNotUnique [] = Unit {0}
AreNotUnique (r ∷ rs) = (r ≢ regions.Unique) × AreNotUnique rs

-- the context inside the element expression of an array `for`
abbrev pub with_counter : Context → Context
with_counter c = record c { counters = suc c.counters }

-- ---- expressions

-- says that a value of the first type can be converted to the second type
abbrev pub Converts : Context → ValueType → Ty → Type 0
Converts c (Value Int) Int = Unit {0}
Converts c (Value Int) Char = Unit {0}
Converts c (Value Char) Int = Unit {0}
Converts c (Value Char) Char = Unit {0}
Converts c (Value (Pointer k t r)) (Pointer l u s) = (t ≡ u) × OutlivesIn c.regions r s
Converts c (Value (Handle r)) (Handle s) = r ≡ s
Converts c (Value (Key r)) (Key s) = r ≡ s
Converts c Null (Pointer k t r) = is_non_null (Pointer k t r) ≡ false
Converts c v t = ⊥

-- says that an expression reads the unique pointer in a local and leaves it there (a peek)
abbrev pub IsPeek : Context → Expression → ValueType → Type 0
IsPeek c (Peek p n u) t = IsVariable c (Local p n) u × (is_unique u ≡ true) × (t ≡ Value u)
IsPeek c a t = ⊥

-- says that an expression reads the unique pointer in the local with number n and leaves it there
abbrev pub IsPeekOf : ℕ → Expression → Type 0
IsPeekOf n (Peek p m u) = n ≡ m
IsPeekOf n a = ⊥

-- The typing of pointer operators relates the types of the operands to the type of the result. The right operand of a pointer operator
-- is read without emptying its local, unless it is an int or `NULL`.
pub data PointerOperation (c : Context) : PointerOperator → (left right result : ValueType) → Type 0 where
  adds : (t : Ty) (r : Region) → r ≢ regions.Unique → PointerOperation c pointers.AddFat (Value (Pointer marks.Fat t r)) (Value Int) (Value (Pointer marks.Fat t r))
  subtracts : (t : Ty) (r : Region) → r ≢ regions.Unique → PointerOperation c pointers.SubtractFat (Value (Pointer marks.Fat t r)) (Value Int) (Value (Pointer marks.Fat t r))
  -- two thin pointers can be compared if both point into live regions
  equals : (k l : PointerKind) (t : Ty) (r s : Region) → is_thin_mark k ≡ true → is_thin_mark l ≡ true → IsLive c r → IsLive c s
      → PointerOperation c pointers.EqualThin (Value (Pointer k t r)) (Value (Pointer l t s)) (Value Int)
  differs : (k l : PointerKind) (t : Ty) (r s : Region) → is_thin_mark k ≡ true → is_thin_mark l ≡ true → IsLive c r → IsLive c s
      → PointerOperation c pointers.NotEqualThin (Value (Pointer k t r)) (Value (Pointer l t s)) (Value Int)
  thin_null : (k : PointerKind) (t : Ty) (r : Region) → is_thin_mark k ≡ true → PointerOperation c pointers.ThinIsNull (Value (Pointer k t r)) Null (Value Int)
  thin_there : (k : PointerKind) (t : Ty) (r : Region) → is_thin_mark k ≡ true → PointerOperation c pointers.ThinIsNotNull (Value (Pointer k t r)) Null (Value Int)
  fat_null : (k : PointerKind) (t : Ty) (r : Region) → is_thin_mark k ≡ false → PointerOperation c pointers.FatIsNull (Value (Pointer k t r)) Null (Value Int)
  fat_there : (k : PointerKind) (t : Ty) (r : Region) → is_thin_mark k ≡ false → PointerOperation c pointers.FatIsNotNull (Value (Pointer k t r)) Null (Value Int)
  null_is : (k : PointerKind) (t : Ty) (r : Region) → PointerOperation c pointers.NullIs Null (Value (Pointer k t r)) (Value Int)
  null_is_not : (k : PointerKind) (t : Ty) (r : Region) → PointerOperation c pointers.NullIsNot Null (Value (Pointer k t r)) (Value Int)

-- the typing of the left operand of an operator; a unique pointer may stay in its local only if the operator merely tests or compares it
abbrev pub IsLeft : (well : Type 0) → Context → Expression → ValueType → Operations → Type 0
IsLeft well c a v (ThenTest o b os) = well ⊎ IsPeek c a v
IsLeft well c a v (ThenPointerPeek n o b os) = IsPeek c a v × IsPeekOf n a
IsLeft well c a v os = well

abbrev pub IsUnaryOperand : (well : Type 0) → Context → UnaryOperator → Expression → ValueType → Type 0
IsUnaryOperand well c unary.Not a v = (well ⊎ IsPeek c a v) × (is_tested v ≡ true)
IsUnaryOperand well c unary.Negate a v = well × (v ≡ Value Int)
IsUnaryOperand well c unary.Complement a v = well × (v ≡ Value Int)
IsUnaryOperand well c unary.Widen a v = well × (v ≡ Value Char)
IsUnaryOperand well c unary.LowByte a v = well × (v ≡ Value Int)

abbrev mutual
  pub WellTyped : Context → Expression → ValueType → Type 0
  WellTyped c (Number n) t = t ≡ Value Int
  WellTyped c NullPointer t = t ≡ Null
  WellTyped c HeapRegion t = t ≡ Value (Handle regions.Heap)
  WellTyped c (Counter l) t = (l < c.counters) × (t ≡ Value Int)
  WellTyped c (Copy l u) t = IsVariable c l u × (is_moved u ≡ false) × (t ≡ Value u)
  WellTyped c (Move p n u) t = IsVariable c (Local p n) u × (is_moved u ≡ true) × (t ≡ Value u)
  -- a read that leaves a unique pointer in its local is well-typed only where the pointer is merely tested, compared or dereferenced
  WellTyped c (Peek p n u) t = ⊥
  -- a read of a memory cell is well-typed only if the cell holds neither a whole struct nor a unique pointer
  WellTyped c (Load d) t = (u : Ty) × (r : Region) × IsCell c d u r × (is_struct u ≡ false) × (is_unique u ≡ false) × (t ≡ Value u)
  -- `&` is well-typed only if the variable or cell holds no unique pointer or key, and does not lie inside a unique object
  WellTyped c (AddressOf l u) t = (v : Ty) × (r : Region) × IsPlace c l v r × (is_moved v ≡ false) × (u ≡ Pointer marks.NonNull v r) × (t ≡ Value u)
  WellTyped c (AddressOfCell d u) t = (v : Ty) × (r : Region) × IsCell c d v r × (is_moved v ≡ false) × (r ≢ regions.Unique) × (u ≡ Pointer marks.NonNull v r) × (t ≡ Value u)
  WellTyped c (NumberOfElements a) t = (u : Ty) × (r : Region) × (WellTyped c a (Value (Pointer marks.Fat u r)) ⊎ IsPeek c a (Value (Pointer marks.Fat u r))) × (t ≡ Value Int)
  WellTyped c (FreeUnique a) t = (k : PointerKind) × (u : Ty) × WellTyped c a (Value (Pointer k u regions.Unique)) × (t ≡ Void)
  WellTyped c (FreeKey a) t = (r : Region) × WellTyped c a (Value (Key r)) × (t ≡ Void)
  -- a call is well-typed only if the regions of the callee's effect are live and the callee's outlives constraints hold
  WellTyped c (Call f ds u) t =
      (s : Signature) × (m : List Region) × IsCallee c f s × (length m ≡ suc s.variables) × AreNotUnique m × ArePassed c (instantiated m s).parameters ds
      × AreLive c (instantiated m s).effect × AreOutliving c (instantiated m s).constraints × (u ≡ result_type (instantiated m s).result) × (t ≡ u)
  WellTyped c (Unary o a) t = (v : ValueType) × IsUnaryOperand (WellTyped c a v) c o a v × (t ≡ Value (unary_type o))
  WellTyped c (Binary a os u) t = (v : ValueType) × IsLeft (WellTyped c a v) c a v os × IsChain c v os u × (t ≡ Value u)
  -- an assignment of a unique pointer or of a key has no value
  WellTyped c (Assign l d u) t = (v : Ty) × (r : Region) × IsPlace c l v r × IsConverted c d v × (u ≡ assigned_type v) × (t ≡ u)
  WellTyped c (Store d e u) t = (v : Ty) × (r : Region) × IsCell c d v r × IsConverted c e v × (u ≡ assigned_type v) × (t ≡ u)
  WellTyped c (New w i u) t = (k : PointerKind) × (v : Ty) × (r : Region) × IsPlacement c w r × IsMade c i k v × (u ≡ Pointer k v r) × (t ≡ Value u)

  -- says that an expression is well-typed and is converted to type t
  pub IsConverted : Context → Converted → Ty → Type 0
  IsConverted c (Convert from to a) t = (v : ValueType) × WellTyped c a v × Converts c v t × (from ≡ kind_of_value v) × (to ≡ kind_of t)

  pub ArePassed : Context → List Ty → Arguments → Type 0
  ArePassed c [] NoArguments = Unit {0}
  ArePassed c [] (MoreArguments d ds) = ⊥
  ArePassed c (t ∷ ts) NoArguments = ⊥
  ArePassed c (t ∷ ts) (MoreArguments d ds) = IsConverted c d t × ArePassed c ts ds

  -- says that a memory cell has type t and is reached through a pointer into the live region r
  pub IsCell : Context → Dereference → Ty → Region → Type 0
  IsCell c (Target k a u) t r =
      (m : PointerKind) × (WellTyped c a (Value (Pointer m u r)) ⊎ IsPeek c a (Value (Pointer m u r))) × IsLive c r × (k ≡ kind_of_mark m) × (t ≡ u)
  IsCell c (Member k a n f u) t r =
      (m : PointerKind) × (rs : List Region) × (s : StructType) × (v : Ty)
      × (WellTyped c a (Value (Pointer m (Struct n rs) r)) ⊎ IsPeek c a (Value (Pointer m (Struct n rs) r))) × (is_thin_mark m ≡ true) × IsLive c r × (k ≡ kind_of_mark m)
      × (slice_get c.structs n ≡ Some s) × (slice_get s.fields f ≡ Some v) × (u ≡ substituted_ty rs v) × (t ≡ u)
  IsCell c (Element a i u) t r =
      (WellTyped c a (Value (Pointer marks.Fat u r)) ⊎ IsPeek c a (Value (Pointer marks.Fat u r))) × WellTyped c i (Value Int) × IsLive c r × (t ≡ u)

  -- says that a new object is allocated in region r
  pub IsPlacement : Context → Placement → Region → Type 0
  IsPlacement c OnHeap r = r ≡ regions.Heap
  IsPlacement c AsUnique r = r ≡ regions.Unique
  IsPlacement c (ByHandle a) r = WellTyped c a (Value (Handle r)) × IsLive c r

  -- says that a new object's initial values have type t, and that the pointer to the object has pointer kind m (`*`, `@` or `?`)
  pub IsMade : Context → Initial → PointerKind → Ty → Type 0
  IsMade c (Plain k a) m t = WellTyped c a (Value t) × (is_key t ≡ false) × (k ≡ kind_of t) × (m ≡ marks.NonNull)
  IsMade c (Fields ds) m t =
      (n : ℕ) × (rs : List Region) × (s : StructType) × (slice_get c.structs n ≡ Some s) × (length rs ≡ s.parameters) × ArePassed c (map (substituted_ty rs) s.fields) ds
      × (t ≡ Struct n rs) × (m ≡ marks.NonNull)
  IsMade c (Array p l n k a) m t =
      (l ≡ c.counters) × WellTyped c n (Value Int) × WellTyped (with_counter c) a (Value t) × (is_key t ≡ false) × (k ≡ kind_of t) × (m ≡ marks.Fat)

  -- says that the operators after a left operand of type `left`, with their right operands, give a value of type u
  pub IsChain : Context → ValueType → Operations → Ty → Type 0
  IsChain c left NoOperations u = left ≡ Value u
  IsChain c left (ThenCompute o a os) u = (left ≡ Value Int) × WellTyped c a (Value Int) × IsChain c (Value Int) os u
  IsChain c left (ThenTest o a os) u = (is_tested left ≡ true) × ((v : ValueType) × (WellTyped c a v ⊎ IsPeek c a v) × (is_tested v ≡ true)) × IsChain c (Value Int) os u
  IsChain c left (ThenPointer o a os) u = (v w : ValueType) × (WellTyped c a v ⊎ IsPeek c a v) × PointerOperation c o left v w × IsChain c w os u
  IsChain c left (ThenPointerPeek n o a os) u = (v w : ValueType) × (WellTyped c a v ⊎ IsPeek c a v) × PointerOperation c o left v w × IsChain c w os u

-- says that an expression may be tested as a condition
abbrev pub IsCondition : Context → Expression → Type 0
IsCondition c a = (v : ValueType) × (WellTyped c a v ⊎ IsPeek c a v) × (is_tested v ≡ true)

-- ---- the context of later trees

-- the context after a statement: the statement's declarations are out of scope, and the numbers that identify its locals and regions are
-- not reused
abbrev pub following : Context → Statement → Context
following c s = record c { next_local = c.next_local + length (declared_types s); next_region = c.next_region + declared_regions s }

abbrev pub in_block : Context → Context
in_block c = record c { region = c.next_region; next_region = suc c.next_region; regions = with_scope scopes.Block (regions.Variable c.next_region) c.regions }

abbrev pub in_body : Context → Context
in_body c = record c { in_loop = true }

-- the context after a local of type t has been declared
abbrev pub with_local : Bool → Ty → Context → Context
with_local b t c = record c { locals = record { number = c.next_local; of_type = t; region = c.region; is_place = b } ∷ c.locals; next_local = suc c.next_local }

-- the typing context after the next region has been declared; the definition `with_opened` gives the context in which
-- that region is open as well
abbrev pub with_region : Context → Context
with_region c = record c { next_region = suc c.next_region }

abbrev pub with_opened : Kind → Context → Context
with_opened k c = record c { next_region = suc c.next_region; regions = with_scope k (regions.Variable c.next_region) c.regions }

abbrev pub with_key_opened : ℕ → Context → Context
with_key_opened r c = record c { regions = with_scope scopes.Dynamic (regions.Variable r) c.regions }

-- ---- statements

abbrev pub IsInitial : Context → Option Converted → Ty → Type 0
IsInitial c None t = Unit {0}
IsInitial c (Some d) t = IsConverted c d t

-- says that a `return` has a value exactly if the function has a result type
abbrev pub IsReturned : Context → Option Ty → Option Converted → Type 0
IsReturned c None None = Unit {0}
IsReturned c (Some t) (Some d) = IsConverted c d t
IsReturned c r v = ⊥

-- says that the left or right operand of a swap has type t
abbrev pub IsSide : Context → Side → Ty → Type 0
IsSide c (VariableSide l u) t = (r : Region) × IsPlace c l u r × (t ≡ u)
IsSide c (CellSide d) t = (r : Region) × IsCell c d t r

-- says that exception n exists, and that it has an int exactly if `has` is true; built-in exceptions have no int
abbrev pub IsException : Context → ℕ → Bool → Type 0
IsException c n has = ((1 ≤ n) × (n < 5) × (has ≡ false)) ⊎ ((m : ℕ) × (n ≡ 5 + m) × (slice_get c.exceptions m ≡ Some has))

abbrev pub IsThrown : Context → Bool → Option Expression → Type 0
IsThrown c false None = Unit {0}
IsThrown c true (Some a) = WellTyped c a (Value Int)
IsThrown c has a = ⊥

-- the context inside a catch clause, with the local that receives the exception's int, if any
abbrev pub with_caught : Option ℕ → Context → Context
with_caught None c = c
with_caught (Some n) c = with_local true Int c

abbrev pub IsCaught : Context → Bool → Option ℕ → Type 0
IsCaught c false None = Unit {0}
IsCaught c true (Some n) = (n ≡ c.next_local) × (slice_get c.variables n ≡ Some Int)
IsCaught c has v = ⊥

abbrev pub after_clause : Context → Option ℕ → Items → Context
after_clause c v js = record c { next_local = c.next_local + (length (caught_types v) + length (item_types js)); next_region = c.next_region + suc (item_regions js) }

-- Says that n is the number that identifies the next declared local, that this local has type t in its function, and that it
-- lies in a live region.
abbrev pub IsDeclared : Context → ℕ → Ty → Type 0
IsDeclared c n t = (n ≡ c.next_local) × (slice_get c.variables n ≡ Some t) × IsLive c (regions.Variable c.region)

-- says that r is the number that identifies the next declared region
abbrev pub IsNextRegion : Context → ℕ → Type 0
IsNextRegion c r = (r ≡ c.next_region) × (r < c.region_count)

abbrev mutual
  pub WellTypedStatement : Context → Statement → Type 0
  -- a block is well-typed if its region has the next free number, and all its declarations and statements are well-typed
  WellTypedStatement c (Block r js) = IsNextRegion c r × WellTypedItems (in_block c) js
  WellTypedStatement c Empty = Unit {0}
  WellTypedStatement c (Evaluate a) = (t : ValueType) × WellTyped c a t
  -- a swap is well-typed if its left and right operands have the same type, which is not a struct type
  WellTypedStatement c (Swap x y) = (t : Ty) × IsSide c x t × IsSide c y t × (is_struct t ≡ false)
  WellTypedStatement c (If a s t) = IsCondition c a × WellTypedStatement c s × WellTypedStatement (following c s) t
  WellTypedStatement c (While p a s) = IsCondition c a × WellTypedStatement (in_body c) s
  WellTypedStatement c (Return v) = IsReturned c c.result v
  WellTypedStatement c Break = c.in_loop ≡ true
  WellTypedStatement c Continue = c.in_loop ≡ true
  WellTypedStatement c (Throw n v) = (has : Bool) × IsException c n has × IsThrown c has v
  WellTypedStatement c (Try s ds) = WellTypedStatement c s × WellTypedClauses (following c s) ds

  pub WellTypedItems : Context → Items → Type 0
  WellTypedItems c NoItems = Unit {0}
  WellTypedItems c (MoreItems (Execute s) js) = WellTypedStatement c s × WellTypedItems (following c s) js
  WellTypedItems c (MoreItems (Declare n t v) js) = IsDeclared c n t × IsInitial c v t × WellTypedItems (with_local true t c) js
  -- a lexical region stays open to the end of the block
  WellTypedItems c (MoreItems (DeclareRegion r n) js) =
      IsNextRegion c r × IsDeclared c n (Handle (regions.Variable r)) × WellTypedItems (with_local false (Handle (regions.Variable r)) (with_opened scopes.Lexical c)) js
  -- a dynamic region that a declaration opens by a key stays open to the end of the block; opening it makes no live region outlive it
  WellTypedItems c (MoreItems (OpenRegion r n p k) js) =
      IsVariable c (Local p k) (Key (regions.Variable r)) × IsDeclared c n (Handle (regions.Variable r)) × WellTypedItems (with_local false (Handle (regions.Variable r)) (with_key_opened r c)) js
  -- an alias has the type of the unique pointer that it shares, except for the region, which is new
  WellTypedItems c (MoreItems (DeclareAlias r n t p m) js) =
      IsNextRegion c r × ((u : Ty) × IsVariable c (Local p m) u × (is_unique u ≡ true) × (t ≡ with_region_of (regions.Variable r) u)) × IsDeclared c n t
      × WellTypedItems (with_local true t (with_opened scopes.Alias c)) js
  -- the region of a newly declared key is not open
  WellTypedItems c (MoreItems (DeclareKey r n) js) =
      IsNextRegion c r × IsDeclared c n (Key (regions.Variable r)) × WellTypedItems (with_local true (Key (regions.Variable r)) (with_region c)) js

  pub WellTypedClauses : Context → Clauses → Type 0
  WellTypedClauses c NoClauses = Unit {0}
  WellTypedClauses c (Default r js) = IsNextRegion c r × WellTypedItems (in_block c) js
  WellTypedClauses c (Case e v r js ds) =
      (has : Bool) × IsException c e has × IsCaught c has v × IsNextRegion c r × WellTypedItems (with_caught v (in_block c)) js × WellTypedClauses (after_clause c v js) ds

-- ---- programs

abbrev pub signature_of : Function → Signature
signature_of h = record { variables = h.variables; parameters = h.parameters; result = h.result; effect = h.effect; constraints = h.constraints }

-- adds a function's parameters to the locals in scope, newest first; the first parameter gets the number n
abbrev pub parameters_in_scope : List Ty → ℕ → List LocalInScope → List LocalInScope
parameters_in_scope [] n vs = vs
parameters_in_scope (t ∷ ts) n vs = parameters_in_scope ts (suc n) (record { number = n; of_type = t; region = 0; is_place = true } ∷ vs)

-- The context of a function's body. The body's own region, which contains the parameters, is open; the heap and the unique region are live
-- everywhere.
abbrev pub body_context : Program → Function → Context
body_context p h = record {
  structs = p.structs;
  exceptions = p.exceptions;
  globals = map (λ (g : GlobalVariable). g.of_type) p.globals;
  functions = map signature_of p.functions;
  variables = h.parameters ++ h.locals;
  region_count = h.regions;
  result = h.result;
  locals = parameters_in_scope h.parameters 0 [];
  next_local = length h.parameters;
  next_region = suc h.variables;
  region = 0;
  regions = with_scope scopes.Block (regions.Variable 0) (record { written = h.constraints; live = regions.Heap ∷ regions.Unique ∷ h.effect; opened = [] });
  in_loop = false;
  counters = 0;
}

-- ---- regions in types

-- says that a region is the heap, the unique region, or one of the k region variables that the parameters name
abbrev pub IsNamed : (variables : ℕ) → Region → Type 0
IsNamed k (regions.Variable n) = (1 ≤ n) × (n ≤ k)
IsNamed k r = Unit {0}

abbrev pub AreNamed : (variables : ℕ) → List Region → Type 0
AreNamed k [] = Unit {0}
AreNamed k (r ∷ rs) = IsNamed k r × AreNamed k rs

abbrev pub IsNamedIn : (variables : ℕ) → Ty → Type 0
IsNamedIn k Int = Unit {0}
IsNamedIn k Char = Unit {0}
IsNamedIn k (Pointer m t r) = IsNamedIn k t × IsNamed k r
IsNamedIn k (Handle r) = IsNamed k r
IsNamedIn k (Key r) = IsNamed k r
IsNamedIn k (Struct n rs) = AreNamed k rs

abbrev pub AreNamedIn : (variables : ℕ) → List Ty → Type 0
AreNamedIn k [] = Unit {0}
AreNamedIn k (t ∷ ts) = IsNamedIn k t × AreNamedIn k ts

abbrev pub IsNamedResult : (variables : ℕ) → Option Ty → Type 0
IsNamedResult k None = Unit {0}
IsNamedResult k (Some t) = IsNamedIn k t

-- says that the written constraints relate only the heap and the regions that the parameters name, never the unique region
abbrev pub AreConstraints : (variables : ℕ) → List (Region × Region) → Type 0
AreConstraints k [] = Unit {0}
AreConstraints k (p ∷ ps) = (IsNamed k p.0 × (p.0 ≢ regions.Unique) × IsNamed k p.1 × (p.1 ≢ regions.Unique)) × AreConstraints k ps

-- Says that no parameter is a key of the region r. No region of a function's effect has its key among the parameters, so a region that a
-- parameter's key opens is not already open.
abbrev pub IsKeyless : Region → List Ty → Type 0
IsKeyless r [] = Unit {0}
IsKeyless r (t ∷ ts) = (t ≢ Key r) × IsKeyless r ts

abbrev pub AreKeyless : List Region → List Ty → Type 0
AreKeyless [] ts = Unit {0}
AreKeyless (r ∷ rs) ts = ((r ≢ regions.Unique) × IsKeyless r ts) × AreKeyless rs ts

-- Says that a function's body is well-typed in the scope of its parameters. A well-typed function records exactly the types of the locals
-- that its body declares. The number of regions of a well-typed function counts its own region, those that its parameters name, and those
-- that its body declares. The types of a well-typed function's parameters and result contain only regions that the parameters name.
pub record IsWellTypedFunction (p : Program) (h : Function) : Type 0 where
  pub body : WellTypedItems (body_context p h) h.body
  pub own : h.region ≡ 0
  pub locals : h.locals ≡ item_types h.body
  pub regions : h.regions ≡ suc h.variables + item_regions h.body
  pub parameters : AreNamedIn h.variables h.parameters
  pub result : IsNamedResult h.variables h.result
  pub effect : AreNamed h.variables h.effect
  pub keyless : AreKeyless h.effect h.parameters
  pub constraints : AreConstraints h.variables h.constraints

abbrev pub AreWellTypedFunctions : Program → List Function → Type 0
AreWellTypedFunctions p [] = Unit {0}
AreWellTypedFunctions p (h ∷ hs) = IsWellTypedFunction p h × AreWellTypedFunctions p hs

-- Says that a global is neither a handle nor a key. The initial value of a global has the global's type: a word (a byte for a char),
-- or null if null is allowed.
abbrev pub IsWellTypedGlobal : GlobalVariable → Type 0
IsWellTypedGlobal g =
    ((g.of_type ≡ Int) × ((word : ℕ) × (g.value ≡ Word word)))
    ⊎ ((g.of_type ≡ Char) × ((word : ℕ) × (g.value ≡ Word word) × (word < 256)))
    ⊎ ((k : PointerKind) × (t : Ty) × (r : Region) × (g.of_type ≡ Pointer k t r) × (is_non_null g.of_type ≡ false) × (g.value ≡ Null))

abbrev pub AreWellTypedGlobals : List GlobalVariable → Type 0
AreWellTypedGlobals [] = Unit {0}
AreWellTypedGlobals (g ∷ gs) = IsWellTypedGlobal g × AreWellTypedGlobals gs

-- says that all functions and globals are well-typed; `main` is a function without parameters, whose result is an int
pub record IsWellTypedProgram (p : Program) : Type 0 where
  pub functions : AreWellTypedFunctions p p.functions
  pub globals : AreWellTypedGlobals p.globals
  pub main : slice_get (map signature_of p.functions) p.main ≡ Some (signature_of_ints [])
