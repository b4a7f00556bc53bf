-- The functions that a typed tree calls, given by the functions' indices. The list of callees has an element for each call in the program
-- text, in the order of the text; a function comes after the functions called in its arguments. Calls of `putchar` and `getchar` have no
-- element in the list of callees. A call has an element in the list of callees even if no run reaches the call. The order of the listed
-- callees is this project's own choice.
use Rattle.std.specs.Prelude.{ℕ, List, [], ◌∷◌, ◌++◌, Option, None, Some}
use Rattle.cyc_types.specs.declared.typed.Callee.{Callee}
use Rattle.cyc_types.specs.declared.typed.Callee.TheVariants as callees
use Rattle.cyc_types.specs.TypedTrees.{Expression, Load, AddressOfCell, NumberOfElements, FreeUnique, FreeKey, Call, Unary, Binary, Assign, Store, New, Dereference, Target, Member, Element, Placement, OnHeap, AsUnique}
use Rattle.cyc_types.specs.TypedTrees.{ByHandle, Initial, Plain, Fields, Array, Converted, Convert, Arguments, NoArguments, MoreArguments, Operations, NoOperations, ThenCompute, ThenTest, ThenPointer, ThenPointerPeek}
use Rattle.cyc_types.specs.TypedTrees.{Side, VariableSide, CellSide, Statement, Block, Evaluate, Swap, If, While, Return, Throw, Try, Items, NoItems, MoreItems, Execute, Declare, Clauses, NoClauses, Default, Case}

-- the callee of a call as a list; the list is empty for a built-in function
abbrev pub callee_of : Callee → List ℕ
callee_of (callees.Function number) = number ∷ []
callee_of service = []

abbrev mutual
  pub expression_callees : Expression → List ℕ
  expression_callees (Load d) = dereference_callees d
  expression_callees (AddressOfCell d t) = dereference_callees d
  expression_callees (NumberOfElements a) = expression_callees a
  expression_callees (FreeUnique a) = expression_callees a
  expression_callees (FreeKey a) = expression_callees a
  expression_callees (Call f cs t) = arguments_callees cs ++ callee_of f
  expression_callees (Unary o a) = expression_callees a
  expression_callees (Binary a os t) = expression_callees a ++ operations_callees os
  expression_callees (Assign l c t) = converted_callees c
  expression_callees (Store d c t) = dereference_callees d ++ converted_callees c
  expression_callees (New w i t) = placement_callees w ++ initial_callees i
  expression_callees a = []

  pub dereference_callees : Dereference → List ℕ
  dereference_callees (Target k a t) = expression_callees a
  dereference_callees (Member k a s f t) = expression_callees a
  dereference_callees (Element a i t) = expression_callees a ++ expression_callees i

  pub placement_callees : Placement → List ℕ
  placement_callees OnHeap = []
  placement_callees AsUnique = []
  placement_callees (ByHandle a) = expression_callees a

  pub initial_callees : Initial → List ℕ
  initial_callees (Plain k a) = expression_callees a
  initial_callees (Fields cs) = arguments_callees cs
  initial_callees (Array p l n k a) = expression_callees n ++ expression_callees a

  pub converted_callees : Converted → List ℕ
  converted_callees (Convert from to a) = expression_callees a

  pub arguments_callees : Arguments → List ℕ
  arguments_callees NoArguments = []
  arguments_callees (MoreArguments c cs) = converted_callees c ++ arguments_callees cs

  pub operations_callees : Operations → List ℕ
  operations_callees NoOperations = []
  operations_callees (ThenCompute o a os) = expression_callees a ++ operations_callees os
  operations_callees (ThenTest o a os) = expression_callees a ++ operations_callees os
  operations_callees (ThenPointer o a os) = expression_callees a ++ operations_callees os
  operations_callees (ThenPointerPeek n o a os) = expression_callees a ++ operations_callees os

-- the functions that an optional expression calls, such as an initial value or a returned value
abbrev pub value_callees : Option Converted → List ℕ
value_callees None = []
value_callees (Some c) = converted_callees c

abbrev pub thrown_callees : Option Expression → List ℕ
thrown_callees None = []
thrown_callees (Some a) = expression_callees a

abbrev pub side_callees : Side → List ℕ
side_callees (VariableSide l t) = []
side_callees (CellSide d) = dereference_callees d

abbrev mutual
  pub statement_callees : Statement → List ℕ
  statement_callees (Block r js) = items_callees js
  statement_callees (Evaluate a) = expression_callees a
  statement_callees (Swap a b) = side_callees a ++ side_callees b
  statement_callees (If a s t) = expression_callees a ++ (statement_callees s ++ statement_callees t)
  statement_callees (While p a s) = expression_callees a ++ statement_callees s
  statement_callees (Return v) = value_callees v
  statement_callees (Throw n v) = thrown_callees v
  statement_callees (Try s cs) = statement_callees s ++ clauses_callees cs
  statement_callees s = []

  pub items_callees : Items → List ℕ
  items_callees NoItems = []
  items_callees (MoreItems (Execute s) js) = statement_callees s ++ items_callees js
  items_callees (MoreItems (Declare n t v) js) = value_callees v ++ items_callees js
  items_callees (MoreItems j js) = items_callees js

  pub clauses_callees : Clauses → List ℕ
  clauses_callees NoClauses = []
  clauses_callees (Default r js) = items_callees js
  clauses_callees (Case e n r js cs) = items_callees js ++ clauses_callees cs
