-- This file proves that each program that the typing rules derive from source texts is in the class of programs that the soundness theorem
-- covers. Declarations are in the class that the theorem covers if their types contain only regions declared before and no struct field is
-- a region key.
use Rattle.std.proofs.Common.{ℕ, suc, ◌+◌, List, [], ◌∷◌, Option, Some, None}
use Rattle.cyc_syntax.specs.Trees.{Declaration}
use Rattle.cyc_types.specs.Types.{Ty, ValueType, Void, Null, Value}
use Rattle.cyc_types.specs.TypedTrees.{Local, Global, Expression, Number, NullPointer, HeapRegion, Counter, Copy, Move, Peek, Load, AddressOf, AddressOfCell, NumberOfElements, FreeUnique, FreeKey, Call, Unary, Binary, Assign}
use Rattle.cyc_types.specs.TypedTrees.{Store, New, Dereference, Target, Member, Element, Placement, OnHeap, AsUnique, ByHandle, Initial, Plain, Fields, Array, Converted, Convert, Arguments, NoArguments, MoreArguments, Operations}
use Rattle.cyc_types.specs.TypedTrees.{NoOperations, ThenCompute, ThenTest, ThenPointer, ThenPointerPeek, Side, VariableSide, CellSide, Statement, Block, Empty, Evaluate, Swap, If, While, Return, Break, Continue, Throw, Try}
use Rattle.cyc_types.specs.TypedTrees.{Items, NoItems, MoreItems, Execute, Declare, DeclareRegion, OpenRegion, DeclareAlias, DeclareKey, Clauses, NoClauses, Default, Case, StructType, GlobalVariable, Function, Program, Lvalue}
use Rattle.cyc_types.specs.Declarations.{declared_regions, item_regions}
use Rattle.cyc_types.specs.inside.typing.Formed.{IsFormedStatement, AreFormedItems, AreFormedClauses, AreFormedFunctions, AreFormedGlobals, AreFormedFields, AreFormedStructs, IsFormedProgram}
use Rattle.cyc_types.specs.typing.Programs.{IsTypedProgram}
use Rattle.cyc_types.specs.flow.Programs.{IsAllowedProgram}
use Rattle.cyc_types.proofs.typing.ProgramLemmas.{program_well}
use Rattle.cyc_types.proofs.typing.FormedPrograms.{program_formed}
use Rattle.cyc_soundness.proofs.flow.Touched.{holds_where_asked}
use Rattle.cyc_soundness.specs.inside.Classes.{InExpression, InPlace, InPlacement, InInitial, InConverted, InArguments, InOperations, InValue, InThrown, InSide, InStatement, InItems, InClauses, InFunctions, InGlobals, InFields, InStructs, IsInClass, SparesAssigned, may_end}
use Rattle.cyc_soundness.specs.Sound.{IsSound}
use Rattle.cyc_soundness.proofs.Whole.{class_sound}

assigned_kept : (l : Lvalue) (t : ValueType) → SparesAssigned [] l t
assigned_kept (Local p n) Void = tt
assigned_kept (Local p n) Null = tt
assigned_kept (Local p n) (Value t) = tt
assigned_kept (Global n) t = tt

mutual
  expression_kept : (a : Expression) → InExpression [] a
  expression_kept (Number n) = tt
  expression_kept NullPointer = tt
  expression_kept HeapRegion = tt
  expression_kept (Counter l) = tt
  expression_kept (Copy l t) = tt
  expression_kept (Move p n t) = tt
  expression_kept (Peek p n t) = tt
  expression_kept (Load d) = place_kept d
  expression_kept (AddressOf l t) = tt
  expression_kept (AddressOfCell d t) = place_kept d
  expression_kept (NumberOfElements a) = expression_kept a
  expression_kept (FreeUnique a) = expression_kept a
  expression_kept (FreeKey a) = expression_kept a
  expression_kept (Call f cs t) = arguments_kept cs
  expression_kept (Unary o a) = expression_kept a
  expression_kept (Binary a os t) = (expression_kept a, operations_kept os)
  expression_kept (Assign l c t) = (assigned_kept l t, converted_kept c)
  expression_kept (Store d c t) = (place_kept d, converted_kept c)
  expression_kept (New w i t) = (placement_kept w, initial_kept i)

  place_kept : (d : Dereference) → InPlace [] d
  place_kept (Target k a t) = expression_kept a
  place_kept (Member k a s f t) = expression_kept a
  place_kept (Element a i t) = (expression_kept a, expression_kept i)

  placement_kept : (w : Placement) → InPlacement [] w
  placement_kept OnHeap = tt
  placement_kept AsUnique = tt
  placement_kept (ByHandle a) = expression_kept a

  initial_kept : (i : Initial) → InInitial [] i
  initial_kept (Plain k a) = expression_kept a
  initial_kept (Fields cs) = arguments_kept cs
  initial_kept (Array p l n k a) = (expression_kept n, expression_kept a)

  converted_kept : (c : Converted) → InConverted [] c
  converted_kept (Convert from to a) = expression_kept a

  arguments_kept : (cs : Arguments) → InArguments [] cs
  arguments_kept NoArguments = tt
  arguments_kept (MoreArguments c cs) = (converted_kept c, arguments_kept cs)

  operations_kept : (os : Operations) → InOperations [] os
  operations_kept NoOperations = tt
  operations_kept (ThenCompute o a os) = (expression_kept a, operations_kept os)
  operations_kept (ThenTest o a os) = (expression_kept a, operations_kept os)
  operations_kept (ThenPointer o a os) = (expression_kept a, operations_kept os)
  operations_kept (ThenPointerPeek n o a os) = (expression_kept a, operations_kept os)

value_kept : (v : Option Converted) → InValue [] v
value_kept None = tt
value_kept (Some c) = converted_kept c

thrown_kept : (v : Option Expression) → InThrown [] v
thrown_kept None = tt
thrown_kept (Some a) = expression_kept a

side_kept : (x : Side) → InSide [] x
side_kept (VariableSide l t) = tt
side_kept (CellSide d) = place_kept d

mutual
  statement_kept : (n : ℕ) (s : Statement) → IsFormedStatement n s → InStatement [] n s
  statement_kept n (Block r js) formed = items_kept (suc n) js formed
  statement_kept n Empty formed = tt
  statement_kept n (Evaluate a) formed = expression_kept a
  statement_kept n (Swap x y) formed = (side_kept x, side_kept y)
  statement_kept n (If a s t) (f, g) =
      (expression_kept a, statement_kept n s f, statement_kept (n + declared_regions s) t g)
  statement_kept n (While p a s) formed = (expression_kept a, statement_kept n s formed)
  statement_kept n (Return v) formed = value_kept v
  statement_kept n Break formed = tt
  statement_kept n Continue formed = tt
  statement_kept n (Throw tag v) formed = thrown_kept v
  statement_kept n (Try s cs) (f, g) = (statement_kept n s f, clauses_kept (n + declared_regions s) cs g)

  items_kept : (n : ℕ) (js : Items) → AreFormedItems n js → InItems [] n js
  items_kept n NoItems formed = tt
  items_kept n (MoreItems (Execute s) js) (f, g) = (statement_kept n s f, holds_where_asked (may_end s) (items_kept (n + declared_regions s) js g))
  items_kept n (MoreItems (Declare l t v) js) (f, g) = (f, value_kept v, items_kept n js g)
  items_kept n (MoreItems (DeclareRegion r l) js) formed = items_kept (suc n) js formed
  items_kept n (MoreItems (OpenRegion r l p k) js) formed = (tt, items_kept n js formed)
  items_kept n (MoreItems (DeclareAlias r l t p s) js) formed = (tt, items_kept (suc n) js formed)
  items_kept n (MoreItems (DeclareKey r l) js) formed = items_kept (suc n) js formed

  clauses_kept : (n : ℕ) (cs : Clauses) → AreFormedClauses n cs → InClauses [] n cs
  clauses_kept n NoClauses formed = tt
  clauses_kept n (Default r js) formed = items_kept (suc n) js formed
  clauses_kept n (Case tag x r js cs) (f, g) =
      (items_kept (suc n) js f, clauses_kept (n + suc (item_regions js)) cs g)

functions_kept : (hs : List Function) → AreFormedFunctions hs → InFunctions hs
functions_kept [] formed = tt
functions_kept (h ∷ hs) (f, g) = (items_kept (suc h.variables) h.body f, functions_kept hs g)

globals_kept : (vs : List GlobalVariable) → AreFormedGlobals vs → InGlobals vs
globals_kept [] formed = tt
globals_kept (v ∷ vs) (f, g) = (f, globals_kept vs g)

formed_in_fields : (n : ℕ) (ts : List Ty) → AreFormedFields n ts → InFields n ts
formed_in_fields n [] formed = tt
formed_in_fields n (t ∷ ts) (f, no_key, g) = (f, no_key, formed_in_fields n ts g)

structs_kept : (ss : List StructType) → AreFormedStructs ss → InStructs ss
structs_kept [] formed = tt
structs_kept (s ∷ ss) (f, g) = (formed_in_fields s.parameters s.fields f, structs_kept ss g)

formed_kept : (p : Program) → IsFormedProgram p → IsInClass p
formed_kept p formed = (functions_kept p.functions formed.functions, globals_kept p.globals formed.globals, structs_kept p.structs formed.structs)

-- If the typing rules derive a program that the flow rules accept, then no run of the program accesses freed memory or goes wrong.
pub typed_sound : (texts : List (List ℕ)) (tree : List Declaration) (p : Program) → IsTypedProgram texts tree p → IsAllowedProgram p → IsSound p
typed_sound texts tree p typed allowed = class_sound p (program_well texts tree p typed) allowed (formed_kept p (program_formed texts tree p typed))
