-- The view of the syntax trees that the compiler builds: each tree without its layout in memory. The form of the view is this
-- project's own choice.
use Rattle.std.specs.Prelude.{List, [], ◌∷◌, map, Option, Some, None, option_map}
use Rattle.std.specs.declared.vec.Vec.{Vec}
use Rattle.std.specs.declared.alloc.Global.{Global as Heap}
use Rattle.cyc_syntax.specs.declared.tree.Tree.{Tree}
use Rattle.cyc_syntax.specs.declared.tree.Ident.{Ident}
use Rattle.cyc_syntax.specs.declared.tree.Pointer.{Pointer as PointerCode}
use Rattle.cyc_syntax.specs.declared.tree.BaseType.{BaseType as BaseTypeCode}
use Rattle.cyc_syntax.specs.declared.tree.BaseType.TheVariants as base
use Rattle.cyc_syntax.specs.declared.tree.WrittenType.{WrittenType as TypeCode}
use Rattle.cyc_syntax.specs.declared.tree.Expr.{Expr, Row_of-Expr, end_of-Expr, more_of-Expr, Row_of-Postfix, end_of-Postfix, more_of-Postfix, Row_of-Operation, end_of-Operation, more_of-Operation}
use Rattle.cyc_syntax.specs.declared.tree.Expr.TheVariants as expr
use Rattle.cyc_syntax.specs.declared.tree.Initial.{Initial as InitialCode}
use Rattle.cyc_syntax.specs.declared.tree.Initial.TheVariants as init
use Rattle.cyc_syntax.specs.declared.tree.Postfix.{Postfix}
use Rattle.cyc_syntax.specs.declared.tree.Postfix.TheVariants as postfix
use Rattle.cyc_syntax.specs.declared.tree.Operation.{Operation}
use Rattle.cyc_syntax.specs.declared.tree.Stmt.{Stmt, Row_of-Item, end_of-Item, more_of-Item, Row_of-Clause, end_of-Clause, more_of-Clause, Held-Stmt-If-3, Stmt-If-3-None', Stmt-If-3-Some', Held-Stmt-Try-3, Stmt-Try-3-None', Stmt-Try-3-Some'}
use Rattle.cyc_syntax.specs.declared.tree.Stmt.TheVariants as stmt
use Rattle.cyc_syntax.specs.declared.tree.Item.{Item as ItemCode}
use Rattle.cyc_syntax.specs.declared.tree.Item.TheVariants as item
use Rattle.cyc_syntax.specs.declared.tree.Block.{Block as BlockCode}
use Rattle.cyc_syntax.specs.declared.tree.Clause.{Clause}
use Rattle.cyc_syntax.specs.declared.tree.Member.{Member as MemberCode}
use Rattle.cyc_syntax.specs.declared.tree.Constructor.{Constructor as ConstructorCode}
use Rattle.cyc_syntax.specs.declared.tree.GlobalValue.{GlobalValue as GlobalValueCode}
use Rattle.cyc_syntax.specs.declared.tree.GlobalValue.TheVariants as value
use Rattle.cyc_syntax.specs.declared.tree.Constraint.{Constraint as ConstraintCode}
use Rattle.cyc_syntax.specs.declared.tree.ParameterList.{ParameterList as ParameterListCode}
use Rattle.cyc_syntax.specs.declared.tree.ParameterList.TheVariants as list
use Rattle.cyc_syntax.specs.declared.tree.Parameters.{Parameters as ParametersCode}
use Rattle.cyc_syntax.specs.declared.tree.Declaration.{Declaration as DeclarationCode}
use Rattle.cyc_syntax.specs.declared.tree.Declaration.TheVariants as declaration
use Rattle.cyc_syntax.specs.Symbols.{Place}
pub use Rattle.cyc_syntax.specs.Symbols.{place_of_span}
use Rattle.cyc_syntax.specs.Trees.{Named, Pointer, BaseType, Int, Char, Struct, Handle, Key, WrittenType, Expression, Number, Character, Null, HeapRegion, UniqueRegion, Variable, Call, Bracketed, NumberOfElements, LowByteOf, FreeUnique, FreeKey}
use Rattle.cyc_syntax.specs.Trees.{Chained, Prefixed, New, RegionNew, Binary, Assign, Initial, Plain, Fields, Array, Expressions, NoExpressions, MoreExpressions, Postfixes, NoPostfixes, ThenIndex, ThenField, Operations, NoOperations, ThenOperation}
use Rattle.cyc_syntax.specs.Trees.{Statement, Block, Labelled, Empty, Evaluate, Swap, If, IfElse, While, Return, Break, Continue, Throw, Try, Body, Braces, Items, NoItems, MoreItems, Item, Execute, Local, Region, Alias, DynamicRegion, Clauses}
use Rattle.cyc_syntax.specs.Trees.{NoClauses, Default, Case, Member, Constructor, GlobalValue, Positive, Negative, Byte, NullPointer, Constraint, ParameterList, Void, Listed, Parameters, Declaration, StructType, Exceptions, Global, Function}

abbrev pub view_name : Ident → Named
view_name x = record { name = x.name.number; place = place_of_span x.span }

-- ---- types

abbrev pub view_pointer : PointerCode → Pointer
view_pointer m = record { kind = m.kind; region = option_map view_name m.region }

abbrev pub view_base : BaseTypeCode → BaseType
view_base base.Int = Int
view_base base.Char = Char
view_base (base.Struct s rs) = Struct (view_name s) (map view_name rs.items)
view_base (base.Handle r) = Handle (view_name r)
view_base (base.Key r) = Key (view_name r)

abbrev pub view_type : TypeCode → WrittenType
view_type t = record { place = place_of_span t.span; base = view_base t.base; marks = map view_pointer t.marks.items }

-- ---- expressions

abbrev mutual
  pub view_expression : Expr → Expression
  view_expression (expr.Number s n) = Number (place_of_span s) n
  view_expression (expr.Character s c) = Character (place_of_span s) c
  view_expression (expr.Null s) = Null (place_of_span s)
  view_expression (expr.HeapRegion s) = HeapRegion (place_of_span s)
  view_expression (expr.UniqueRegion s) = UniqueRegion (place_of_span s)
  view_expression (expr.Variable x) = Variable (view_name x)
  view_expression (expr.Call' f shape row) = Call (view_name f) (view_expressions row)
  view_expression (expr.Bracketed' s b e) = Bracketed (place_of_span s) (view_expression e)
  view_expression (expr.NumberOfElements' s b e) = NumberOfElements (place_of_span s) (view_expression e)
  view_expression (expr.LowByteOf' s b e) = LowByteOf (place_of_span s) (view_expression e)
  view_expression (expr.FreeUnique' s b e) = FreeUnique (place_of_span s) (view_expression e)
  view_expression (expr.FreeKey s k) = FreeKey (place_of_span s) (view_name k)
  view_expression (expr.Chained' b e shape row) = Chained (view_expression e) (view_postfixes row)
  view_expression (expr.Prefixed' s o b e) = Prefixed (place_of_span s) o (view_expression e)
  view_expression (expr.New' s b i) = New (place_of_span s) (view_initial i)
  view_expression (expr.RegionNew' s b h b' i) = RegionNew (place_of_span s) (view_expression h) (view_initial i)
  view_expression (expr.Binary' b e shape row) = Binary (view_expression e) (view_operations row)
  view_expression (expr.Assign' b e b' e') = Assign (view_expression e) (view_expression e')

  pub view_initial : InitialCode → Initial
  view_initial (init.Plain e) = Plain (view_expression e)
  view_initial (init.Fields' s rs shape row) = Fields (view_name s) (map view_name rs.items) (view_expressions row)
  view_initial (init.Array s x n e) = Array (place_of_span s) (view_name x) (view_expression n) (view_expression e)

  pub view_expressions : {m : _} → Row_of-Expr m → Expressions
  view_expressions end_of-Expr = NoExpressions
  view_expressions (more_of-Expr e row) = MoreExpressions (view_expression e) (view_expressions row)

  pub view_postfixes : {m : _} → Row_of-Postfix m → Postfixes
  view_postfixes end_of-Postfix = NoPostfixes
  view_postfixes (more_of-Postfix (postfix.Index e) row) = ThenIndex (view_expression e) (view_postfixes row)
  view_postfixes (more_of-Postfix (postfix.Field x) row) = ThenField (view_name x) (view_postfixes row)

  pub view_operations : {m : _} → Row_of-Operation m → Operations
  view_operations end_of-Operation = NoOperations
  view_operations (more_of-Operation o s e row) = ThenOperation o (place_of_span s) (view_expression e) (view_operations row)

-- Returns the view of a list of expressions, from the elements of a `Vec`.

abbrev pub expressions_of : List Expr → Expressions
expressions_of [] = NoExpressions
expressions_of (e ∷ es) = MoreExpressions (view_expression e) (expressions_of es)

abbrev pub then_postfix : Postfix → Postfixes → Postfixes
then_postfix (postfix.Index e) ps = ThenIndex (view_expression e) ps
then_postfix (postfix.Field x) ps = ThenField (view_name x) ps

abbrev pub postfixes_of : List Postfix → Postfixes
postfixes_of [] = NoPostfixes
postfixes_of (p ∷ ps) = then_postfix p (postfixes_of ps)

abbrev pub operations_of : List Operation → Operations
operations_of [] = NoOperations
operations_of (o ∷ os) = ThenOperation o.operator (place_of_span o.span) (view_expression o.operand) (operations_of os)

-- ---- statements

abbrev mutual
  pub view_statement : Stmt → Statement
  view_statement (stmt.Block' s shape row t) = Block (Braces (place_of_span s) (view_items row) (place_of_span t))
  view_statement (stmt.Labelled' l s shape row t) = Labelled (view_name l) (Braces (place_of_span s) (view_items row) (place_of_span t))
  view_statement (stmt.Empty s) = Empty (place_of_span s)
  view_statement (stmt.Expression e) = Evaluate (view_expression e)
  view_statement (stmt.Swap a b) = Swap (view_expression a) (view_expression b)
  view_statement (stmt.If' s c b a held) = view_if (place_of_span s) (view_expression c) (view_statement a) held
  view_statement (stmt.While' s c b a) = While (place_of_span s) (view_expression c) (view_statement a)
  view_statement (stmt.Return s v) = Return (place_of_span s) (option_map view_expression v)
  view_statement (stmt.Break s) = Break (place_of_span s)
  view_statement (stmt.Continue s) = Continue (place_of_span s)
  view_statement (stmt.Throw s x v) = Throw (place_of_span s) (view_name x) (option_map view_expression v)
  view_statement (stmt.Try' s b a shape row held) = Try (place_of_span s) (view_statement a) (view_clauses row (view_default held))

  pub view_if : Place → Expression → Statement → Held-Stmt-If-3 → Statement
  view_if p c s Stmt-If-3-None' = If p c s
  view_if p c s (Stmt-If-3-Some' b t) = IfElse p c s (view_statement t)

  pub view_default : Held-Stmt-Try-3 → Clauses
  view_default Stmt-Try-3-None' = NoClauses
  view_default (Stmt-Try-3-Some' shape row) = Default (view_items row)

  pub view_items : {m : _} → Row_of-Item m → Items
  view_items end_of-Item = NoItems
  view_items (more_of-Item i row) = MoreItems (view_item i) (view_items row)

  pub view_item : ItemCode → Item
  view_item (item.Statement s) = Execute (view_statement s)
  view_item (item.Local t x v) = Local (view_type t) (view_name x) (option_map view_expression v)
  view_item (item.Region r h k) = Region (view_name r) (view_name h) (option_map view_name k)
  view_item (item.Alias r t x y) = Alias (view_name r) (view_type t) (view_name x) (view_name y)
  view_item (item.DynamicRegion r k) = DynamicRegion (view_name r) (view_name k)

  pub view_clauses : {m : _} → Row_of-Clause m → Clauses → Clauses
  view_clauses end_of-Clause default = default
  view_clauses (more_of-Clause x v shape is row) default = Case (view_name x) (option_map view_name v) (view_items is) (view_clauses row default)

abbrev pub items_of : List ItemCode → Items
items_of [] = NoItems
items_of (i ∷ is) = MoreItems (view_item i) (items_of is)

abbrev pub view_block : BlockCode → Body
view_block b = Braces (place_of_span b.span) (items_of b.items.items) (place_of_span b.end)

abbrev pub default_of : Option (Vec ItemCode Heap) → Clauses
default_of None = NoClauses
default_of (Some is) = Default (items_of is.items)

abbrev pub clauses_of : List Clause → Clauses → Clauses
clauses_of [] default = default
clauses_of (c ∷ cs) default = Case (view_name c.exception) (option_map view_name c.variable) (items_of c.items.items) (clauses_of cs default)

-- ---- declarations

abbrev pub view_member : MemberCode → Member
view_member m = record { of_type = view_type m.of_type; name = view_name m.name }

abbrev pub view_constructor : ConstructorCode → Constructor
view_constructor c = record { name = view_name c.name; has_int = c.has_int }

abbrev pub view_value : GlobalValueCode → GlobalValue
view_value (value.Number s n) = Positive (place_of_span s) n
view_value (value.Negative s n) = Negative (place_of_span s) n
view_value (value.Character s c) = Byte (place_of_span s) c
view_value (value.Null s) = NullPointer (place_of_span s)

abbrev pub view_constraint : ConstraintCode → Constraint
view_constraint c = record { longer = view_name c.longer; shorter = view_name c.shorter }

abbrev pub view_list : ParameterListCode → ParameterList
view_list list.Void = Void
view_list (list.Listed ms) = Listed (map view_member ms.items)

abbrev pub view_parameters : ParametersCode → Parameters
view_parameters ps = record { list = view_list ps.list; effect = option_map (λ rs. map view_name rs.items) ps.effect; constraints = map view_constraint ps.constraints.items }

abbrev pub view_declaration : DeclarationCode → Declaration
view_declaration (declaration.Struct s rs fs) = StructType (view_name s) (map view_name rs.items) (map view_member fs.items)
view_declaration (declaration.Exceptions cs) = Exceptions (map view_constructor cs.items)
view_declaration (declaration.Global t x v) = Global (view_type t) (view_name x) (option_map view_value v)
view_declaration (declaration.Function t f ps b) = Function (option_map view_type t) (view_name f) (view_parameters ps) (view_block b)

-- Returns the declarations of a syntax tree.
abbrev pub declarations_of : Tree → List Declaration
declarations_of tree = map view_declaration tree.declarations.items
