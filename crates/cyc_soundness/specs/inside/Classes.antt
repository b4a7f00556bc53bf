-- This file defines the class of programs that the soundness proof covers: a predicate on typed trees. The trees that the typing
-- rules derive from texts are in this class of programs.
use Rattle.std.specs.Prelude.{◌≡◌, ℕ, zero, suc, ◌+◌, Bool, true, false, List, [], ◌∷◌, Option, Some, None, get_or, ◌&&◌, ◌||◌}
use Rattle.cyc_types.specs.Types.{Ty, ValueType, Void}
use Rattle.cyc_types.specs.Declarations.{declared_regions, item_regions}
use Rattle.cyc_types.specs.TypedTrees.{Local, Expression, Number, NullPointer, HeapRegion, Counter, Copy, Move, Peek, Load, AddressOf, AddressOfCell, NumberOfElements, FreeUnique, FreeKey, Call, Unary, Binary, Assign, Store}
use Rattle.cyc_types.specs.TypedTrees.{New, Dereference, Target, Member, Element, Placement, OnHeap, AsUnique, ByHandle, Initial, Plain, Fields, Array, Converted, Convert, Arguments, NoArguments, MoreArguments, Operations}
use Rattle.cyc_types.specs.TypedTrees.{NoOperations, ThenCompute, ThenTest, ThenPointer, ThenPointerPeek, Side, VariableSide, CellSide, Statement, Block, Empty, Evaluate, Swap, If, While, Return, Break, Continue, Throw, Try}
use Rattle.cyc_types.specs.TypedTrees.{Items, NoItems, MoreItems, Execute, Declare, DeclareRegion, OpenRegion, DeclareAlias, DeclareKey, Clauses, NoClauses, Default, Case, StructType, GlobalVariable, Function, Program, Lvalue}
use Rattle.cyc_types.specs.typing.Tests.{is_key}
use Rattle.cyc_types.specs.flow.States as flow
use Rattle.cyc_types.specs.flow.States.{Fullness, Vacant, Full, Unreached, Reached}
use Rattle.cyc_soundness.specs.inside.Lives.{AllIn, IsKnown}

-- Says that all region variables that a type mentions have indices below n.
abbrev pub IsDeclarable : ℕ → Ty → Type 0
IsDeclarable n t = AllIn (IsKnown n) t

-- For each enclosing `try`, the flow state at the start of its catch clauses, which these clauses require.
abbrev pub Relied : Type 0
Relied = List flow.State

-- Holds if a local holds a value that is not lent.
abbrev pub is_full : Fullness → Bool
is_full Full = true
is_full a = false

-- Says that a flow state does not require this local to hold a value that is not lent.
abbrev pub IsSparedBy : flow.State → ℕ → Type 0
IsSparedBy Unreached n = Unit {0}
IsSparedBy (Reached as') n = is_full (get_or as' n Vacant) ≡ false

abbrev pub IsSpared : Relied → ℕ → Type 0
IsSpared [] n = Unit {0}
IsSpared (f ∷ q) n = IsSparedBy f n × IsSpared q n

-- The flow state in which only local n is known to hold a value that is not lent.
abbrev pub only : ℕ → List Fullness
only zero = Full ∷ []
only (suc n) = Vacant ∷ only n

-- The flow states that stack entries require, extended by a local that was read early (peeked at) and whose value is not yet used.
abbrev pub and_looked : Option ℕ → Relied → Relied
and_looked None q = q
and_looked (Some n) q = Reached (only n) ∷ q

-- Says that no flow state requires a local to hold its value if a unique pointer or a key is assigned to the local.
abbrev pub SparesAssigned : Relied → Lvalue → ValueType → Type 0
SparesAssigned q (Local p n) Void = IsSpared q n
SparesAssigned q l t = Unit {0}

-- ---- unreachable code

-- Holds if control may reach the end of the statement.
abbrev mutual
  pub may_end : Statement → Bool
  may_end (Block r js) = items_may_end js
  may_end Empty = true
  may_end (Evaluate a) = true
  may_end (Swap x y) = true
  may_end (If a s t) = may_end s || may_end t
  may_end (While p a s) = true
  may_end (Return v) = false
  may_end Break = false
  may_end Continue = false
  may_end (Throw e v) = false
  may_end (Try s cs) = may_end s || clauses_may_end cs

  pub items_may_end : Items → Bool
  items_may_end NoItems = true
  items_may_end (MoreItems (Execute s) js) = may_end s && items_may_end js
  items_may_end (MoreItems (Declare l t v) js) = items_may_end js
  items_may_end (MoreItems (DeclareRegion r l) js) = items_may_end js
  items_may_end (MoreItems (OpenRegion r l p k) js) = items_may_end js
  items_may_end (MoreItems (DeclareAlias r l t p s) js) = items_may_end js
  items_may_end (MoreItems (DeclareKey r l) js) = items_may_end js

  pub clauses_may_end : Clauses → Bool
  clauses_may_end NoClauses = false
  clauses_may_end (Default r js) = items_may_end js
  clauses_may_end (Case e v r js cs) = items_may_end js || clauses_may_end cs

-- Says that a requirement applies only to code that may be run.
abbrev pub Asked : (run : Bool) → Type 0 → Type 0
Asked false A = Unit {0}
Asked true A = A

-- ---- the class

-- All forms of the language are in the class of programs that the proof covers, with one condition on catch clauses. The condition
-- says that if a local is consumed, lent, or assigned a value with a single owner, no enclosing catch clause requires that this local
-- holds a value. At the start of a function no catch clause encloses the code, and for the body of a `try` the condition on catch
-- clauses is proved. For unreachable code, the condition on catch clauses requires nothing.
abbrev mutual
  pub InExpression : Relied → Expression → Type 0
  InExpression q (Number n) = Unit {0}
  InExpression q NullPointer = Unit {0}
  InExpression q HeapRegion = Unit {0}
  InExpression q (Counter l) = Unit {0}
  InExpression q (Copy l t) = Unit {0}
  InExpression q (Move p n t) = IsSpared q n
  InExpression q (Peek p n t) = Unit {0}
  InExpression q (Load d) = InPlace q d
  InExpression q (AddressOf l t) = Unit {0}
  InExpression q (AddressOfCell d t) = InPlace q d
  InExpression q (NumberOfElements a) = InExpression q a
  InExpression q (FreeUnique a) = InExpression q a
  InExpression q (FreeKey a) = InExpression q a
  InExpression q (Call f as' t) = InArguments q as'
  InExpression q (Unary o a) = InExpression q a
  InExpression q (Binary a os t) = InExpression q a × InOperations q os
  InExpression q (Assign l c t) = SparesAssigned q l t × InConverted q c
  InExpression q (Store d c t) = InPlace q d × InConverted q c
  InExpression q (New w i t) = InPlacement q w × InInitial q i

  pub InPlace : Relied → Dereference → Type 0
  InPlace q (Target k a t) = InExpression q a
  InPlace q (Member k a s f t) = InExpression q a
  InPlace q (Element a i t) = InExpression q a × InExpression q i

  pub InPlacement : Relied → Placement → Type 0
  InPlacement q OnHeap = Unit {0}
  InPlacement q AsUnique = Unit {0}
  InPlacement q (ByHandle a) = InExpression q a

  pub InInitial : Relied → Initial → Type 0
  InInitial q (Plain k a) = InExpression q a
  InInitial q (Fields as') = InArguments q as'
  InInitial q (Array p l n k a) = InExpression q n × InExpression q a

  pub InConverted : Relied → Converted → Type 0
  InConverted q (Convert from to a) = InExpression q a

  pub InArguments : Relied → Arguments → Type 0
  InArguments q NoArguments = Unit {0}
  InArguments q (MoreArguments c as') = InConverted q c × InArguments q as'

  pub InOperations : Relied → Operations → Type 0
  InOperations q NoOperations = Unit {0}
  InOperations q (ThenCompute o a os) = InExpression q a × InOperations q os
  InOperations q (ThenTest o a os) = InExpression q a × InOperations q os
  InOperations q (ThenPointer o a os) = InExpression q a × InOperations q os
  InOperations q (ThenPointerPeek n o a os) = InExpression q a × InOperations q os

abbrev pub InValue : Relied → Option Converted → Type 0
InValue q None = Unit {0}
InValue q (Some c) = InConverted q c

abbrev pub InThrown : Relied → Option Expression → Type 0
InThrown q None = Unit {0}
InThrown q (Some a) = InExpression q a

abbrev pub InSide : Relied → Side → Type 0
InSide q (VariableSide l t) = Unit {0}
InSide q (CellSide d) = InPlace q d

-- Says that statements are in the class of programs that the soundness proof covers, where n is the index that the next declared region
-- gets. The types of the locals that these statements declare contain only regions declared before those locals.
abbrev mutual
  pub InStatement : Relied → ℕ → Statement → Type 0
  InStatement q n (Block r js) = InItems q (suc n) js
  InStatement q n Empty = Unit {0}
  InStatement q n (Evaluate a) = InExpression q a
  InStatement q n (Swap x y) = InSide q x × InSide q y
  InStatement q n (If a s t) = InExpression q a × InStatement q n s × InStatement q (n + declared_regions s) t
  InStatement q n (While p a s) = InExpression q a × InStatement q n s
  InStatement q n (Return v) = InValue q v
  InStatement q n Break = Unit {0}
  InStatement q n Continue = Unit {0}
  InStatement q n (Throw e v) = InThrown q v
  InStatement q n (Try s cs) = InStatement q n s × InClauses q (n + declared_regions s) cs

  pub InItems : Relied → ℕ → Items → Type 0
  InItems q n NoItems = Unit {0}
  InItems q n (MoreItems (Execute s) js) = InStatement q n s × Asked (may_end s) (InItems q (n + declared_regions s) js)
  InItems q n (MoreItems (Declare l t v) js) = IsDeclarable n t × InValue q v × InItems q n js
  InItems q n (MoreItems (DeclareRegion r l) js) = InItems q (suc n) js
  InItems q n (MoreItems (OpenRegion r l p k) js) = IsSpared q k × InItems q n js
  InItems q n (MoreItems (DeclareAlias r l t p s) js) = IsSpared q s × InItems q (suc n) js
  InItems q n (MoreItems (DeclareKey r l) js) = InItems q (suc n) js

  pub InClauses : Relied → ℕ → Clauses → Type 0
  InClauses q n NoClauses = Unit {0}
  InClauses q n (Default r js) = InItems q (suc n) js
  InClauses q n (Case e v r js cs) = InItems q (suc n) js × InClauses q (n + suc (item_regions js)) cs

abbrev pub InFunctions : List Function → Type 0
InFunctions [] = Unit {0}
InFunctions (h ∷ hs) = InItems [] (suc h.variables) h.body × InFunctions hs

-- Says that the types of globals mention no region variable.
abbrev pub InGlobals : List GlobalVariable → Type 0
InGlobals [] = Unit {0}
InGlobals (v ∷ vs) = IsDeclarable 0 v.of_type × InGlobals vs

-- Says that the types of fields mention only their struct's parameters, and that no field is a key.
abbrev pub InFields : ℕ → List Ty → Type 0
InFields n [] = Unit {0}
InFields n (t ∷ ts) = IsDeclarable n t × (is_key t ≡ false) × InFields n ts

abbrev pub InStructs : List StructType → Type 0
InStructs [] = Unit {0}
InStructs (s ∷ ss) = InFields s.parameters s.fields × InStructs ss

-- Says that a program is in the class of programs that the soundness proof covers.
abbrev pub IsInClass : Program → Type 0
IsInClass p = InFunctions p.functions × InGlobals p.globals × InStructs p.structs
