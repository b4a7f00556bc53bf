-- The mathematical view of the compiler's data structure for typed trees; the view omits the memory layout. The view of typed trees is
-- this project's own choice.
use Rattle.std.specs.Prelude.{List, [], ◌∷◌, map, Option, None, Some, option_map}
use Rattle.cyc_syntax.specs.Symbols.{place_of_span}
use Rattle.cyc_types.specs.TypeView.{view_ty, view_value_type}
use Rattle.cyc_types.specs.declared.typed.Lvalue.{Lvalue as LvalueCode}
use Rattle.cyc_types.specs.declared.typed.Lvalue.TheVariants as lvalue
use Rattle.cyc_types.specs.declared.typed.Expr.{Expr, Row_of-Converted, end_of-Converted, more_of-Converted, Row_of-Operation, end_of-Operation, more_of-Operation}
use Rattle.cyc_types.specs.declared.typed.Expr.TheVariants as expr
use Rattle.cyc_types.specs.declared.typed.Dereference.{Dereference as DereferenceCode}
use Rattle.cyc_types.specs.declared.typed.Dereference.TheVariants as dereference
use Rattle.cyc_types.specs.declared.typed.Placement.{Placement as PlacementCode}
use Rattle.cyc_types.specs.declared.typed.Placement.TheVariants as placement
use Rattle.cyc_types.specs.declared.typed.Initial.{Initial as InitialCode}
use Rattle.cyc_types.specs.declared.typed.Initial.TheVariants as initial
use Rattle.cyc_types.specs.declared.typed.Converted.{Converted as ConvertedCode}
use Rattle.cyc_types.specs.declared.typed.Operation.{Operation}
use Rattle.cyc_types.specs.declared.typed.Operation.TheVariants as operation
use Rattle.cyc_types.specs.declared.typed.Side.{Side as SideCode}
use Rattle.cyc_types.specs.declared.typed.Side.TheVariants as side
use Rattle.cyc_types.specs.declared.typed.Stmt.{Stmt, Row_of-Item, end_of-Item, more_of-Item, Row_of-Clause, end_of-Clause, more_of-Clause, Held-Stmt-Try-3, None', Some'}
use Rattle.cyc_types.specs.declared.typed.Stmt.TheVariants as stmt
use Rattle.cyc_types.specs.declared.typed.Body.{Body}
use Rattle.cyc_types.specs.declared.typed.Clause.{Clause}
use Rattle.cyc_types.specs.declared.typed.Item.{Item as ItemCode}
use Rattle.cyc_types.specs.declared.typed.Item.TheVariants as item
use Rattle.cyc_types.specs.declared.typed.Constant.{Constant as ConstantCode}
use Rattle.cyc_types.specs.declared.typed.Constant.TheVariants as constant
use Rattle.cyc_types.specs.declared.typed.Global.{Global as GlobalCode}
use Rattle.cyc_types.specs.declared.typed.StructType.{StructType as StructTypeCode}
use Rattle.cyc_types.specs.declared.typed.Function.{Function as FunctionCode}
use Rattle.cyc_types.specs.declared.typed.TypedTree.{TypedTree}
use Rattle.cyc_types.specs.TypedTrees.{Lvalue, Local, Global, Expression, Number, NullPointer, HeapRegion, Counter, Copy, Move, Peek, Load, AddressOf, AddressOfCell, NumberOfElements, FreeUnique, FreeKey, Call, Unary, Binary, Assign}
use Rattle.cyc_types.specs.TypedTrees.{Store, New, Dereference, Target, Member, Element, Placement, OnHeap, AsUnique, ByHandle, Initial, Plain, Fields, Array, Converted, Convert, Arguments, NoArguments, MoreArguments, Operations}
use Rattle.cyc_types.specs.TypedTrees.{NoOperations, ThenCompute, ThenTest, ThenPointer, ThenPointerPeek, Side, VariableSide, CellSide, Statement, Block, Empty, Evaluate, Swap, If, While, Return, Break, Continue, Throw, Try, Items}
use Rattle.cyc_types.specs.TypedTrees.{NoItems, MoreItems, Item, Execute, Declare, DeclareRegion, OpenRegion, DeclareAlias, DeclareKey, Clauses, NoClauses, Default, Case, Constant, Word, Null, GlobalVariable, StructType, Function, Program}

-- ---- expressions

abbrev pub view_lvalue : LvalueCode → Lvalue
view_lvalue (lvalue.Local s n) = Local (place_of_span s) n
view_lvalue (lvalue.Global n) = Global n

abbrev mutual
  pub view_expression : Expr → Expression
  view_expression (expr.Number n) = Number n
  view_expression expr.NullPointer = NullPointer
  view_expression expr.HeapRegion = HeapRegion
  view_expression (expr.Counter n) = Counter n
  view_expression (expr.Copy l t) = Copy (view_lvalue l) (view_ty t)
  view_expression (expr.Move s n t) = Move (place_of_span s) n (view_ty t)
  view_expression (expr.Peek s n t) = Peek (place_of_span s) n (view_ty t)
  view_expression (expr.Load' b d) = Load (view_dereference d)
  view_expression (expr.AddressOf l t) = AddressOf (view_lvalue l) (view_ty t)
  view_expression (expr.AddressOfCell' b d t) = AddressOfCell (view_dereference d) (view_ty t)
  view_expression (expr.NumberOfElements' b e) = NumberOfElements (view_expression e)
  view_expression (expr.FreeUnique' b e) = FreeUnique (view_expression e)
  view_expression (expr.FreeKey' b e) = FreeKey (view_expression e)
  view_expression (expr.Call' s f shape row t) = Call f (view_arguments row) (view_value_type t)
  view_expression (expr.Unary' o b e) = Unary o (view_expression e)
  view_expression (expr.Binary' b e shape row t) = Binary (view_expression e) (view_operations row) (view_ty t)
  view_expression (expr.Assign' l b f k e t) = Assign (view_lvalue l) (Convert f k (view_expression e)) (view_value_type t)
  view_expression (expr.Store' b d b' f k e t) = Store (view_dereference d) (Convert f k (view_expression e)) (view_value_type t)
  view_expression (expr.New' s w b i t) = New (view_placement w) (view_initial i) (view_ty t)

  pub view_dereference : DereferenceCode → Dereference
  view_dereference (dereference.Target p k e t) = Target k (view_expression e) (view_ty t)
  view_dereference (dereference.Member p k e s f t) = Member k (view_expression e) s f (view_ty t)
  view_dereference (dereference.Element p e i t) = Element (view_expression e) (view_expression i) (view_ty t)

  pub view_placement : PlacementCode → Placement
  view_placement placement.OnHeap = OnHeap
  view_placement placement.AsUnique = AsUnique
  view_placement (placement.ByHandle' b e) = ByHandle (view_expression e)

  pub view_initial : InitialCode → Initial
  view_initial (initial.Plain k e) = Plain k (view_expression e)
  view_initial (initial.Fields' shape row) = Fields (view_arguments row)
  view_initial (initial.Array s l n k e) = Array (place_of_span s) l (view_expression n) k (view_expression e)

  pub view_arguments : {m : _} → Row_of-Converted m → Arguments
  view_arguments end_of-Converted = NoArguments
  view_arguments (more_of-Converted f t e row) = MoreArguments (Convert f t (view_expression e)) (view_arguments row)

  pub view_operations : {m : _} → Row_of-Operation m → Operations
  view_operations end_of-Operation = NoOperations
  view_operations (more_of-Operation (operation.Compute s o e) row) = ThenCompute o (view_expression e) (view_operations row)
  view_operations (more_of-Operation (operation.Test o e) row) = ThenTest o (view_expression e) (view_operations row)
  view_operations (more_of-Operation (operation.Pointer o e) row) = ThenPointer o (view_expression e) (view_operations row)
  view_operations (more_of-Operation (operation.PointerPeek n o e) row) = ThenPointerPeek n o (view_expression e) (view_operations row)

abbrev pub view_converted : ConvertedCode → Converted
view_converted c = Convert c.from c.to (view_expression c.value)

-- the mathematical views of lists of typed tree nodes, computed from the nodes stored in a `Vec`

abbrev pub arguments_of : List ConvertedCode → Arguments
arguments_of [] = NoArguments
arguments_of (c ∷ cs) = MoreArguments (view_converted c) (arguments_of cs)

abbrev pub then_operation : Operation → Operations → Operations
then_operation (operation.Compute s o e) os = ThenCompute o (view_expression e) os
then_operation (operation.Test o e) os = ThenTest o (view_expression e) os
then_operation (operation.Pointer o e) os = ThenPointer o (view_expression e) os
then_operation (operation.PointerPeek n o e) os = ThenPointerPeek n o (view_expression e) os

abbrev pub operations_of : List Operation → Operations
operations_of [] = NoOperations
operations_of (o ∷ os) = then_operation o (operations_of os)

-- ---- statements

abbrev pub view_side : SideCode → Side
view_side (side.Variable l t) = VariableSide (view_lvalue l) (view_ty t)
view_side (side.Cell d) = CellSide (view_dereference d.value)

abbrev mutual
  pub view_statement : Stmt → Statement
  view_statement (stmt.Block' r shape row) = Block r (view_items row)
  view_statement stmt.Empty = Empty
  view_statement (stmt.Evaluate s e) = Evaluate (view_expression e)
  view_statement (stmt.Swap s a b) = Swap (view_side a) (view_side b)
  view_statement (stmt.If' p c b s b' t) = If (view_expression c) (view_statement s) (view_statement t)
  view_statement (stmt.While' p c b s) = While (place_of_span p) (view_expression c) (view_statement s)
  view_statement (stmt.Return s v) = Return (option_map view_converted v)
  view_statement stmt.Break = Break
  view_statement stmt.Continue = Continue
  view_statement (stmt.Throw s n v) = Throw n (option_map view_expression v)
  view_statement (stmt.Try' p b s shape row held) = Try (view_statement s) (view_clauses row (view_default held))

  pub view_default : Held-Stmt-Try-3 → Clauses
  view_default None' = NoClauses
  view_default (Some' r shape row) = Default r (view_items row)

  pub view_items : {m : _} → Row_of-Item m → Items
  view_items end_of-Item = NoItems
  view_items (more_of-Item i row) = MoreItems (view_item i) (view_items row)

  pub view_item : ItemCode → Item
  view_item (item.Execute s) = Execute (view_statement s)
  view_item (item.Local s n t v) = Declare n (view_ty t) (option_map view_converted v)
  view_item (item.Region s r n) = DeclareRegion r n
  view_item (item.Open r n s k) = OpenRegion r n (place_of_span s) k
  view_item (item.Alias r n t s m) = DeclareAlias r n (view_ty t) (place_of_span s) m
  view_item (item.DynamicRegion s r n) = DeclareKey r n

  pub view_clauses : {m : _} → Row_of-Clause m → Clauses → Clauses
  view_clauses end_of-Clause default = default
  view_clauses (more_of-Clause e n r shape is row) default = Case e n r (view_items is) (view_clauses row default)

abbrev pub items_of : List ItemCode → Items
items_of [] = NoItems
items_of (i ∷ is) = MoreItems (view_item i) (items_of is)

abbrev pub default_of : Option Body → Clauses
default_of None = NoClauses
default_of (Some b) = Default b.region (items_of b.items.items)

abbrev pub clauses_of : List Clause → Clauses → Clauses
clauses_of [] default = default
clauses_of (c ∷ cs) default = Case c.tag c.number c.region (items_of c.items.items) (clauses_of cs default)

-- ---- programs

abbrev pub view_constant : ConstantCode → Constant
view_constant (constant.Word n) = Word n
view_constant constant.Null = Null

abbrev pub view_global : GlobalCode → GlobalVariable
view_global g = record { name = g.name.number; of_type = view_ty g.of_type; value = view_constant g.value }

abbrev pub view_struct : StructTypeCode → StructType
view_struct s = record { parameters = s.parameters; fields = map view_ty s.fields.items }

abbrev pub view_function : FunctionCode → Function
view_function f = record {
  name = f.name.number;
  place = place_of_span f.span;
  parameters = map view_ty f.parameters.items;
  result = option_map view_ty f.result;
  variables = f.variables;
  effect = f.effect.items;
  constraints = f.constraints.items;
  locals = map view_ty f.locals.items;
  region = f.region;
  regions = f.regions;
  body = items_of f.body.items;
  end = place_of_span f.end;
}

abbrev pub view_program : TypedTree → Program
view_program t = record {
  structs = map view_struct t.structs.items;
  exceptions = t.exceptions.items;
  globals = map view_global t.globals.items;
  functions = map view_function t.functions.items;
  main = t.main;
}
