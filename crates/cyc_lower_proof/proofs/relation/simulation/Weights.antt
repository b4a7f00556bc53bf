-- This file defines the weight of a source state: a measure that decreases in each source step for which the
-- plain program executes no instruction.
use Rattle.std.proofs.Common.{ℕ, suc, ◌+◌, List, [], ◌∷◌, Option, None, Some, length}
use Rattle.cyc_types.specs.TypedTrees.{Array, Load, New, ByHandle, Initial, HeapRegion, FreeKey, Plain, Fields, Dereference, Target, Expression, Number, NullPointer, Copy, Call, Unary, Binary, Assign, Converted, Convert, Arguments}
use Rattle.cyc_types.specs.TypedTrees.{NoArguments, MoreArguments, Operations, NoOperations, ThenCompute, ThenTest, ThenPointer, Statement, Block, Empty, Evaluate, If, While, Break, Continue, Items, NoItems, MoreItems, Execute, Declare}
use Rattle.cyc_types.specs.TypedTrees.{OpenRegion, DeclareAlias, Move, Peek, ThenPointerPeek, AddressOfCell, Member, FreeUnique, Side, VariableSide, CellSide, Swap, Clauses, NoClauses, Default, Case, NumberOfElements, Element, AddressOf}
use Rattle.cyc_types.specs.TypedTrees as typed
use Rattle.cyc_meaning.specs.State.{Awaiting, Chain, Pass, PlaceBy, MakeFields, Initialise, OpenBy, AliasOf, Entry, Needs, Rest, Loop, Focus, Evaluating, Locating, Executing, Entering, Binding, State, Running, AwaitingPlace, StoreTo, NeedsPlace, SwapLeft, Writing, Catching, Index}

-- An expression whose value is in a slot or constant may have no code. The weight of an expression, a measure for source steps without
-- plain instructions, exceeds that of its first subexpression with the continuation frame. In this measure, a test by `&&` or `||` whose
-- outcome is decided has the weight 0; in an undecided test, the first operand adds no weight.
abbrev mutual
  pub expression_weight : Expression → ℕ
  expression_weight (Number n) = 1
  expression_weight NullPointer = 1
  expression_weight HeapRegion = 1
  expression_weight (typed.Counter l) = 1
  expression_weight (Copy l t) = 1
  expression_weight (Move p n t) = 1
  expression_weight (Peek p n t) = 1
  expression_weight (Call f cs t) = suc (arguments_weight cs)
  expression_weight (NumberOfElements a) = suc (suc (expression_weight a))
  expression_weight (Unary o a) = suc (suc (expression_weight a))
  expression_weight (Binary a os t) = suc (suc (expression_weight a + operations_weight os))
  expression_weight (Assign l c t) = suc (suc (converted_weight c))
  expression_weight (Load x) = suc (suc (dereference_weight x))
  expression_weight (FreeUnique a) = suc (suc (expression_weight a))
  expression_weight (FreeKey a) = suc (suc (expression_weight a))
  expression_weight (New (ByHandle a) i t) = suc (suc (suc (suc (expression_weight a + object_weight i))))
  expression_weight (New w i t) = suc (suc (object_weight i))
  expression_weight (AddressOf l t) = 1
  expression_weight (AddressOfCell x t) = suc (suc (dereference_weight x))
  expression_weight (typed.Store x c t) = suc (suc (suc (dereference_weight x + converted_weight c)))

  pub dereference_weight : Dereference → ℕ
  dereference_weight (Target k a t) = suc (suc (expression_weight a))
  dereference_weight (Member k a s f t) = suc (suc (expression_weight a))
  dereference_weight (Element a i t) = suc (suc (suc (expression_weight a + expression_weight i)))

  -- The weight (a measure for source steps without plain instructions) of the expressions that give a new object its initial values.
  pub object_weight : Initial → ℕ
  object_weight (Plain kind a) = expression_weight a
  object_weight (Fields cs) = arguments_weight cs
  object_weight (Array w level n kind a) = expression_weight n

  -- The weight (a measure for source steps without plain instructions) of a converted value.
  pub converted_weight : Converted → ℕ
  converted_weight (Convert from to a) = suc (expression_weight a)

  pub arguments_weight : Arguments → ℕ
  arguments_weight NoArguments = 0
  arguments_weight (MoreArguments c cs) = suc (converted_weight c + arguments_weight cs)

  pub operations_weight : Operations → ℕ
  operations_weight NoOperations = 0
  operations_weight (ThenCompute o a os) = suc (suc (expression_weight a + operations_weight os))
  operations_weight (ThenTest o a os) = suc (operations_weight os)
  operations_weight (ThenPointer o a os) = suc (suc (expression_weight a + operations_weight os))
  operations_weight (ThenPointerPeek n o a os) = suc (suc (expression_weight a + operations_weight os))

-- The weight (a measure for source steps without plain instructions) of one operand of a swap, with its continuation frame.
abbrev pub side_weight : Side → ℕ
side_weight (VariableSide l t) = 0
side_weight (CellSide x) = suc (dereference_weight x)

abbrev pub initial_weight : Option Converted → ℕ
initial_weight None = 0
initial_weight (Some c) = suc (converted_weight c)

abbrev pub thrown_weight : Option Expression → ℕ
thrown_weight None = 0
thrown_weight (Some a) = suc (expression_weight a)

abbrev mutual
  pub statement_weight : Statement → ℕ
  statement_weight (Block r js) = suc (suc (suc (items_weight js)))
  statement_weight Empty = 1
  statement_weight (Evaluate a) = suc (suc (expression_weight a))
  statement_weight (Swap a b) = suc (suc (side_weight a + side_weight b))
  statement_weight (If a s t) = suc (suc (expression_weight a))
  statement_weight (While p a s) = suc (suc (expression_weight a))
  statement_weight (typed.Return v) = suc (initial_weight v)
  statement_weight Break = 1
  statement_weight Continue = 1
  statement_weight (typed.Throw tag v) = suc (thrown_weight v)
  statement_weight s = 0

  pub items_weight : Items → ℕ
  items_weight NoItems = 0
  items_weight (MoreItems (Execute s) js) = suc (statement_weight s + items_weight js)
  items_weight (MoreItems (Declare n t v) js) = suc (initial_weight v + items_weight js)
  items_weight (MoreItems (OpenRegion r n p key) js) = 2
  items_weight (MoreItems (DeclareAlias r n t p lent) js) = 2
  items_weight js = 0

-- An exception that reaches the `default` clause of a `try` continues with the statements of this clause.
abbrev pub clauses_weight : Clauses → ℕ
clauses_weight NoClauses = 1
clauses_weight (Default r js) = suc (suc (suc (items_weight js)))
clauses_weight (Case tag x r js cs) = 0

-- Each continuation frame has a positive weight, so the control stack's weight, which must fall in
-- source steps without plain instructions, falls when a frame is removed.
abbrev pub awaiting_weight : Awaiting → ℕ
awaiting_weight (Chain os) = operations_weight os
awaiting_weight (Index peek target i) = suc (expression_weight i)
awaiting_weight (Pass f before cs) = arguments_weight cs
awaiting_weight (PlaceBy initial) = suc (suc (object_weight initial))
awaiting_weight (MakeFields owner before cs) = arguments_weight cs
awaiting_weight (Initialise number kind js) = suc (items_weight js)
awaiting_weight (OpenBy number lent js) = 1
awaiting_weight (AliasOf number lent js) = 1
awaiting_weight a = 0

abbrev pub place_weight : AwaitingPlace → ℕ
place_weight (SwapLeft kind peek right) = side_weight right
place_weight (StoreTo peek c) = suc (converted_weight c)
place_weight a = 0

abbrev pub entry_weight : Entry → ℕ
entry_weight (Needs a) = suc (awaiting_weight a)
entry_weight (NeedsPlace a) = suc (place_weight a)
entry_weight (Rest js) = suc (items_weight js)
entry_weight (Loop a s) = suc (suc (expression_weight a))
entry_weight entry = 1

abbrev pub stack_weight : List Entry → ℕ
stack_weight [] = 0
stack_weight (entry ∷ k) = entry_weight entry + stack_weight k

abbrev pub focus_weight : Focus → ℕ
focus_weight (Evaluating a) = expression_weight a
focus_weight (Executing s) = statement_weight s
focus_weight (Entering h arguments) = suc (suc (suc (suc (length h.parameters + items_weight h.body))))
focus_weight (Binding number types arguments body) = suc (suc (length types + items_weight body))
focus_weight (Locating x) = dereference_weight x
focus_weight (Writing writes result) = 1
focus_weight (Catching tag value handler) = clauses_weight handler
focus_weight focus = 0

abbrev pub weight : State → ℕ
weight (Running focus k e w) = focus_weight focus + stack_weight k
weight s = 0
