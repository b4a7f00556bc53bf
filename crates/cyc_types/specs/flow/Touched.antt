-- The locals that a statement consumes, assigns or lends out, executed or not, with repetitions. Only unique pointers and keys are of
-- interest: no other local is consumed or lent out, and an assignment to any other local leaves it with a value. A local that is declared
-- without a value counts as touched. Each function of this file takes a list of touched locals and adds to it. The definition of touched
-- locals is this project's own choice.
use Rattle.std.specs.Prelude.{ℕ, List, [], ◌∷◌, ◌++◌, Option, Some, None}
use Rattle.cyc_types.specs.Types.{ValueType, Void}
use Rattle.cyc_types.specs.TypedTrees.{Lvalue, Local, Expression, Number, NullPointer, HeapRegion, Counter, Copy, Move, Peek, Load, AddressOf, AddressOfCell, NumberOfElements, FreeUnique, FreeKey, Call, Unary, Binary}
use Rattle.cyc_types.specs.TypedTrees.{Assign, Store, New, Dereference, Target, Member, Element, Placement, OnHeap, AsUnique, ByHandle, Initial, Plain, Fields, Array, Converted, Convert, Arguments, NoArguments}
use Rattle.cyc_types.specs.TypedTrees.{MoreArguments, Operations, NoOperations, ThenCompute, ThenTest, ThenPointer, ThenPointerPeek, Side, VariableSide, CellSide, Statement, Block, Empty, Evaluate, Swap, If, While}
use Rattle.cyc_types.specs.TypedTrees.{Return, Break, Continue, Throw, Try, Items, NoItems, MoreItems, Item, Execute, Declare, DeclareRegion, OpenRegion, DeclareAlias, DeclareKey, Clauses, NoClauses, Default, Case}

abbrev pub and_local : ℕ → List ℕ → List ℕ
and_local n ns = ns ++ (n ∷ [])

-- an assignment counts its local as touched if it assigns a unique pointer or a key, that is, if the assignment has no value
abbrev pub and_assigned : Lvalue → ValueType → List ℕ → List ℕ
and_assigned (Local p n) Void ns = and_local n ns
and_assigned l t ns = ns

abbrev mutual
  pub touched : Expression → List ℕ → List ℕ
  touched (Number n) ns = ns
  touched NullPointer ns = ns
  touched HeapRegion ns = ns
  touched (Counter l) ns = ns
  touched (Copy l t) ns = ns
  touched (Move p n t) ns = and_local n ns
  touched (Peek p n t) ns = ns
  touched (Load d) ns = touched_place d ns
  touched (AddressOf l t) ns = ns
  touched (AddressOfCell d t) ns = touched_place d ns
  touched (NumberOfElements a) ns = touched a ns
  touched (FreeUnique a) ns = touched a ns
  touched (FreeKey a) ns = touched a ns
  touched (Call f as' t) ns = touched_arguments as' ns
  touched (Unary o a) ns = touched a ns
  touched (Binary a os t) ns = touched_operations os (touched a ns)
  touched (Assign l c t) ns = and_assigned l t (touched_converted c ns)
  touched (Store d c t) ns = touched_converted c (touched_place d ns)
  touched (New w i t) ns = touched_initial i (touched_placement w ns)

  pub touched_place : Dereference → List ℕ → List ℕ
  touched_place (Target k a t) ns = touched a ns
  touched_place (Member k a s f t) ns = touched a ns
  touched_place (Element a i t) ns = touched i (touched a ns)

  pub touched_placement : Placement → List ℕ → List ℕ
  touched_placement OnHeap ns = ns
  touched_placement AsUnique ns = ns
  touched_placement (ByHandle a) ns = touched a ns

  pub touched_initial : Initial → List ℕ → List ℕ
  touched_initial (Plain k a) ns = touched a ns
  touched_initial (Fields as') ns = touched_arguments as' ns
  touched_initial (Array p l n k a) ns = touched a (touched n ns)

  pub touched_converted : Converted → List ℕ → List ℕ
  touched_converted (Convert from to a) ns = touched a ns

  pub touched_arguments : Arguments → List ℕ → List ℕ
  touched_arguments NoArguments ns = ns
  touched_arguments (MoreArguments c as') ns = touched_arguments as' (touched_converted c ns)

  pub touched_operations : Operations → List ℕ → List ℕ
  touched_operations NoOperations ns = ns
  touched_operations (ThenCompute o a os) ns = touched_operations os (touched a ns)
  touched_operations (ThenTest o a os) ns = touched_operations os (touched a ns)
  touched_operations (ThenPointer o a os) ns = touched_operations os (touched a ns)
  touched_operations (ThenPointerPeek n o a os) ns = touched_operations os (touched a ns)

abbrev pub touched_side : Side → List ℕ → List ℕ
touched_side (VariableSide l t) ns = ns
touched_side (CellSide d) ns = touched_place d ns

abbrev pub touched_value : Option Converted → List ℕ → List ℕ
touched_value None ns = ns
touched_value (Some c) ns = touched_converted c ns

abbrev pub touched_thrown : Option Expression → List ℕ → List ℕ
touched_thrown None ns = ns
touched_thrown (Some a) ns = touched a ns

-- a declaration without an initial value counts its local as touched (perhaps emptied); a declaration with one counts the
-- locals that the initial value touches
abbrev pub touched_declaration : ℕ → Option Converted → List ℕ → List ℕ
touched_declaration n None ns = and_local n ns
touched_declaration n (Some c) ns = touched_converted c ns

abbrev mutual
  pub touched_statement : Statement → List ℕ → List ℕ
  touched_statement (Block r js) ns = touched_items js ns
  touched_statement Empty ns = ns
  touched_statement (Evaluate a) ns = touched a ns
  touched_statement (Swap x y) ns = touched_side y (touched_side x ns)
  touched_statement (If a s t) ns = touched_statement t (touched_statement s (touched a ns))
  touched_statement (While p a s) ns = touched_statement s (touched a ns)
  touched_statement (Return v) ns = touched_value v ns
  touched_statement Break ns = ns
  touched_statement Continue ns = ns
  touched_statement (Throw e v) ns = touched_thrown v ns
  touched_statement (Try s cs) ns = touched_clauses cs (ns ++ touched_statement s [])

  pub touched_items : Items → List ℕ → List ℕ
  touched_items NoItems ns = ns
  touched_items (MoreItems j js) ns = touched_items js (touched_item j ns)

  pub touched_item : Item → List ℕ → List ℕ
  touched_item (Execute s) ns = touched_statement s ns
  touched_item (Declare n t v) ns = touched_declaration n v ns
  touched_item (DeclareRegion r n) ns = ns
  touched_item (OpenRegion r n p k) ns = and_local k ns
  touched_item (DeclareAlias r n t p m) ns = and_local m ns
  touched_item (DeclareKey r n) ns = ns

  pub touched_clauses : Clauses → List ℕ → List ℕ
  touched_clauses NoClauses ns = ns
  touched_clauses (Default r js) ns = touched_items js ns
  touched_clauses (Case e n r js cs) ns = touched_clauses cs (touched_items js ns)
