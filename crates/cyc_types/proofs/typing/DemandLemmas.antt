-- If a typed tree satisfies one set of requirements on its nodes, it satisfies every set of requirements that the first set implies.
use Rattle.std.proofs.Common.{ℕ, List, [], ◌∷◌, Option, Some, None}
use Rattle.cyc_types.specs.declared.typed.PointerOperator.{PointerOperator}
use Rattle.cyc_types.specs.TypedTrees.{Expression, Number, Load, AddressOfCell, NumberOfElements, FreeUnique, FreeKey, Call, Unary, Binary, Assign, Store, New, Dereference, Target, Member, Element, Placement, OnHeap, AsUnique, ByHandle}
use Rattle.cyc_types.specs.TypedTrees.{Initial, Plain, Fields, Array, Converted, Convert, Arguments, NoArguments, MoreArguments, Operations, NoOperations, ThenCompute, ThenTest, ThenPointer, ThenPointerPeek, Side, VariableSide, CellSide}
use Rattle.cyc_types.specs.TypedTrees.{Statement, Block, Evaluate, Swap, If, While, Return, Throw, Try, Items, NoItems, MoreItems, Execute, Declare, DeclareRegion, OpenRegion, DeclareAlias, DeclareKey, Clauses, NoClauses, Default, Case, Function}
use Rattle.cyc_types.specs.Demands.{Demands, Meets, CellMeets, PlacementMeets, ObjectMeets, ConvertedMeets, ArgumentsMeet, OperationsMeet, SideMeets, ValueMeets, ThrownMeets, StatementMeets, ItemsMeet, ClausesMeet, FunctionsMeet}

-- says that one set of requirements on the nodes of typed trees implies another such set
pub record Implies (d e : Demands) : Type 0 where
  pub number : (n : ℕ) → d.number n → e.number n
  pub fields : (cs : Arguments) → d.fields cs → e.fields cs
  pub pointer : (o : PointerOperator) (os : Operations) → d.pointer o os → e.pointer o os
  pub exception : (n : ℕ) → d.exception n → e.exception n

module _ (d e : Demands) (i : Implies d e) where
  mutual
    meets : (a : Expression) → Meets d a → Meets e a
    meets (Number n) w = i.number n w
    meets (Load x) w = cell_meets x w
    meets (AddressOfCell x t) w = cell_meets x w
    meets (NumberOfElements a) w = meets a w
    meets (FreeUnique a) w = meets a w
    meets (FreeKey a) w = meets a w
    meets (Call f cs t) w = arguments_meet cs w
    meets (Unary o a) w = meets a w
    meets (Binary a os t) (w, ws) = (meets a w, operations_meet os ws)
    meets (Assign l c t) w = converted_meets c w
    meets (Store x c t) (w, ws) = (cell_meets x w, converted_meets c ws)
    meets (New p m t) (w, ws) = (placement_meets p w, object_meets m ws)
    meets a w = tt

    cell_meets : (x : Dereference) → CellMeets d x → CellMeets e x
    cell_meets (Target k a t) w = meets a w
    cell_meets (Member k a s f t) w = meets a w
    cell_meets (Element a j t) (w, ws) = (meets a w, meets j ws)

    placement_meets : (p : Placement) → PlacementMeets d p → PlacementMeets e p
    placement_meets OnHeap w = tt
    placement_meets AsUnique w = tt
    placement_meets (ByHandle a) w = meets a w

    object_meets : (m : Initial) → ObjectMeets d m → ObjectMeets e m
    object_meets (Plain k a) w = meets a w
    object_meets (Fields cs) (w, ws) = (i.fields cs w, arguments_meet cs ws)
    object_meets (Array p l n k a) (w, ws) = (meets n w, meets a ws)

    converted_meets : (c : Converted) → ConvertedMeets d c → ConvertedMeets e c
    converted_meets (Convert from to a) w = meets a w

    arguments_meet : (cs : Arguments) → ArgumentsMeet d cs → ArgumentsMeet e cs
    arguments_meet NoArguments w = tt
    arguments_meet (MoreArguments c cs) (w, ws) = (converted_meets c w, arguments_meet cs ws)

    operations_meet : (os : Operations) → OperationsMeet d os → OperationsMeet e os
    operations_meet NoOperations w = tt
    operations_meet (ThenCompute o a os) (w, ws) = (meets a w, operations_meet os ws)
    operations_meet (ThenTest o a os) (w, ws) = (meets a w, operations_meet os ws)
    operations_meet (ThenPointer o a os) (alone, w, ws) = (i.pointer o os alone, meets a w, operations_meet os ws)
    operations_meet (ThenPointerPeek n o a os) (alone, w, ws) = (i.pointer o os alone, meets a w, operations_meet os ws)

  side_meets : (x : Side) → SideMeets d x → SideMeets e x
  side_meets (VariableSide l t) w = tt
  side_meets (CellSide x) w = cell_meets x w

  value_meets : (v : Option Converted) → ValueMeets d v → ValueMeets e v
  value_meets None w = tt
  value_meets (Some c) w = converted_meets c w

  thrown_meets : (v : Option Expression) → ThrownMeets d v → ThrownMeets e v
  thrown_meets None w = tt
  thrown_meets (Some a) w = meets a w

  mutual
    statement_meets : (s : Statement) → StatementMeets d s → StatementMeets e s
    statement_meets (Block r js) w = items_meet js w
    statement_meets (Evaluate a) w = meets a w
    statement_meets (Swap x y) (w, ws) = (side_meets x w, side_meets y ws)
    statement_meets (If a s t) (w, v, u) = (meets a w, statement_meets s v, statement_meets t u)
    statement_meets (While p a s) (w, ws) = (meets a w, statement_meets s ws)
    statement_meets (Return v) w = value_meets v w
    statement_meets (Throw tag v) (w, ws) = (i.exception tag w, thrown_meets v ws)
    statement_meets (Try s cs) (w, ws) = (statement_meets s w, clauses_meet cs ws)
    statement_meets s w = tt

    items_meet : (js : Items) → ItemsMeet d js → ItemsMeet e js
    items_meet NoItems w = tt
    items_meet (MoreItems (Execute s) js) (w, ws) = (statement_meets s w, items_meet js ws)
    items_meet (MoreItems (Declare n t v) js) (w, ws) = (value_meets v w, items_meet js ws)
    items_meet (MoreItems (DeclareRegion r n) js) w = items_meet js w
    items_meet (MoreItems (OpenRegion r n p k) js) w = items_meet js w
    items_meet (MoreItems (DeclareAlias r n t p m) js) w = items_meet js w
    items_meet (MoreItems (DeclareKey r n) js) w = items_meet js w

    clauses_meet : (cs : Clauses) → ClausesMeet d cs → ClausesMeet e cs
    clauses_meet NoClauses w = tt
    clauses_meet (Default r js) w = items_meet js w
    clauses_meet (Case tag x r js cs) (w, v, u) = (i.exception tag w, items_meet js v, clauses_meet cs u)

  pub functions_meet : (hs : List Function) → FunctionsMeet d hs → FunctionsMeet e hs
  functions_meet [] w = tt
  functions_meet (h ∷ hs) (w, ws) = (items_meet h.body w, functions_meet hs ws)
