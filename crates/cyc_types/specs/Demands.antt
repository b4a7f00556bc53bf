-- A record of requirements (`Demands`) has one condition for each kind of typed tree node that at least one record of requirements
-- restricts. A node of any other kind satisfies a record of requirements if all its subtrees satisfy the record. Each construct of
-- the language has one line in this file, which all records of requirements share. The definition of requirements (demands) on
-- typed trees as records is this project's own choice.
use Rattle.std.specs.Prelude.{ℕ, List, [], ◌∷◌, Option, Some, None}
use Rattle.cyc_types.specs.declared.typed.PointerOperator.{PointerOperator}
use Rattle.cyc_types.specs.TypedTrees.{Expression, Number, Load, AddressOfCell, NumberOfElements, FreeUnique, FreeKey, Call, Unary, Binary, Assign, Store, New, Dereference, Target, Member, Element, Placement, OnHeap, AsUnique}
use Rattle.cyc_types.specs.TypedTrees.{ByHandle, Initial, Plain, Fields, Array, Converted, Convert, Arguments, NoArguments, MoreArguments, Operations, NoOperations, ThenCompute, ThenTest, ThenPointer, ThenPointerPeek, Side}
use Rattle.cyc_types.specs.TypedTrees.{VariableSide, CellSide, Statement, Block, Evaluate, Swap, If, While, Return, Throw, Try, Items, NoItems, MoreItems, Execute, Declare, Clauses, NoClauses, Default, Case, Function}

pub record Demands : Type 1 where
  -- the condition on the value of an integer or character constant in a typed tree
  pub number : ℕ → Type 0
  -- the condition on the field values of a new struct
  pub fields : Arguments → Type 0
  -- the condition on a pointer operator and on the operations that follow it
  pub pointer : PointerOperator → Operations → Type 0
  -- the condition on the number that identifies a thrown or caught exception
  pub exception : ℕ → Type 0

module _ (d : Demands) where
  -- ---- expressions

  abbrev mutual
    pub Meets : Expression → Type 0
    Meets (Number n) = d.number n
    Meets (Load x) = CellMeets x
    Meets (AddressOfCell x t) = CellMeets x
    Meets (NumberOfElements a) = Meets a
    Meets (FreeUnique a) = Meets a
    Meets (FreeKey a) = Meets a
    Meets (Call f cs t) = ArgumentsMeet cs
    Meets (Unary o a) = Meets a
    Meets (Binary a os t) = Meets a × OperationsMeet os
    Meets (Assign l c t) = ConvertedMeets c
    Meets (Store x c t) = CellMeets x × ConvertedMeets c
    Meets (New w i t) = PlacementMeets w × ObjectMeets i
    Meets a = Unit {0}

    pub CellMeets : Dereference → Type 0
    CellMeets (Target k a t) = Meets a
    CellMeets (Member k a s f t) = Meets a
    CellMeets (Element a i t) = Meets a × Meets i

    -- says that the handle expression of `rnew` satisfies a record of requirements on typed tree nodes
    pub PlacementMeets : Placement → Type 0
    PlacementMeets OnHeap = Unit {0}
    PlacementMeets AsUnique = Unit {0}
    PlacementMeets (ByHandle a) = Meets a

    pub ObjectMeets : Initial → Type 0
    ObjectMeets (Plain k a) = Meets a
    ObjectMeets (Fields cs) = d.fields cs × ArgumentsMeet cs
    ObjectMeets (Array p l n k a) = Meets n × Meets a

    pub ConvertedMeets : Converted → Type 0
    ConvertedMeets (Convert from to a) = Meets a

    pub ArgumentsMeet : Arguments → Type 0
    ArgumentsMeet NoArguments = Unit {0}
    ArgumentsMeet (MoreArguments c cs) = ConvertedMeets c × ArgumentsMeet cs

    pub OperationsMeet : Operations → Type 0
    OperationsMeet NoOperations = Unit {0}
    OperationsMeet (ThenCompute o a os) = Meets a × OperationsMeet os
    OperationsMeet (ThenTest o a os) = Meets a × OperationsMeet os
    OperationsMeet (ThenPointer o a os) = d.pointer o os × Meets a × OperationsMeet os
    OperationsMeet (ThenPointerPeek n o a os) = d.pointer o os × Meets a × OperationsMeet os

  abbrev pub SideMeets : Side → Type 0
  SideMeets (VariableSide l t) = Unit {0}
  SideMeets (CellSide x) = CellMeets x

  -- says that an optional initial value satisfies the requirements on its nodes; a missing value always satisfies them
  abbrev pub ValueMeets : Option Converted → Type 0
  ValueMeets None = Unit {0}
  ValueMeets (Some c) = ConvertedMeets c

  -- says that the int of a thrown exception satisfies the requirements on its nodes; an exception without an int always satisfies them
  abbrev pub ThrownMeets : Option Expression → Type 0
  ThrownMeets None = Unit {0}
  ThrownMeets (Some a) = Meets a

  -- ---- statements

  abbrev mutual
    pub StatementMeets : Statement → Type 0
    StatementMeets (Block r js) = ItemsMeet js
    StatementMeets (Evaluate a) = Meets a
    StatementMeets (Swap x y) = SideMeets x × SideMeets y
    StatementMeets (If a s t) = Meets a × StatementMeets s × StatementMeets t
    StatementMeets (While p a s) = Meets a × StatementMeets s
    StatementMeets (Return v) = ValueMeets v
    StatementMeets (Throw tag v) = d.exception tag × ThrownMeets v
    StatementMeets (Try s cs) = StatementMeets s × ClausesMeet cs
    StatementMeets s = Unit {0}

    pub ItemsMeet : Items → Type 0
    ItemsMeet NoItems = Unit {0}
    ItemsMeet (MoreItems (Execute s) js) = StatementMeets s × ItemsMeet js
    ItemsMeet (MoreItems (Declare n t v) js) = ValueMeets v × ItemsMeet js
    ItemsMeet (MoreItems j js) = ItemsMeet js

    pub ClausesMeet : Clauses → Type 0
    ClausesMeet NoClauses = Unit {0}
    ClausesMeet (Default r js) = ItemsMeet js
    ClausesMeet (Case tag x r js cs) = d.exception tag × ItemsMeet js × ClausesMeet cs

  -- says that the bodies of all functions satisfy a record of requirements on typed tree nodes
  abbrev pub FunctionsMeet : List Function → Type 0
  FunctionsMeet [] = Unit {0}
  FunctionsMeet (h ∷ hs) = ItemsMeet h.body × FunctionsMeet hs
