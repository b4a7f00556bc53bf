-- The weight of a syntax tree is the number of tokens that spell it, including brackets and separators. The weight (number of tokens)
-- of a tree is defined by recursion on the tree, independently of the productions, for the compiler passes whose output it bounds. The
-- definition of the weight (number of tokens) is this project's own choice.
use Rattle.std.specs.Prelude.{ℕ, ◌+◌, Bool, true, false, List, [], ◌∷◌, Option, Some, None}
pub use Rattle.cyc_syntax.specs.Sums.{sum_of, separated_weight, optional_weight}
use Rattle.cyc_syntax.specs.Trees.{Named, Pointer, BaseType, Int, Char, Struct, Handle, Key, WrittenType, Expression, Number, Character, Null, HeapRegion, UniqueRegion, Variable, Call, Bracketed, NumberOfElements, LowByteOf, FreeUnique, FreeKey}
use Rattle.cyc_syntax.specs.Trees.{Chained, Prefixed, New, RegionNew, Binary, Assign, Initial, Plain, Fields, Array, Expressions, NoExpressions, MoreExpressions, Postfixes, NoPostfixes, ThenIndex, ThenField, Operations, NoOperations, ThenOperation}
use Rattle.cyc_syntax.specs.Trees.{Statement, Block, Labelled, Empty, Evaluate, Swap, If, IfElse, While, Return, Break, Continue, Throw, Try, Body, Braces, Items, NoItems, MoreItems, Item, Execute, Local, Region, Alias, DynamicRegion, Clauses}
use Rattle.cyc_syntax.specs.Trees.{NoClauses, Default, Case, Member, Constructor, GlobalValue, Positive, Negative, Byte, NullPointer, Constraint, ParameterList, Void, Listed, Parameters, Declaration, StructType, Exceptions, Global, Function}

abbrev pub regions_weight : List Named → ℕ
regions_weight rs = separated_weight (λ _. 1) rs

abbrev pub region_list_weight : List Named → ℕ
region_list_weight [] = 0
region_list_weight (r ∷ rs) = 2 + regions_weight (r ∷ rs)

abbrev pub mark_weight : Pointer → ℕ
mark_weight m = 1 + optional_weight (λ _. 1) m.region

abbrev pub base_weight : BaseType → ℕ
base_weight Int = 1
base_weight Char = 1
base_weight (Struct s rs) = 2 + region_list_weight rs
base_weight (Handle r) = 4
base_weight (Key r) = 4

abbrev pub type_weight : WrittenType → ℕ
type_weight t = base_weight t.base + sum_of mark_weight t.marks

abbrev mutual
  pub expression_weight : Expression → ℕ
  expression_weight (Number p n) = 1
  expression_weight (Character p c) = 1
  expression_weight (Null p) = 1
  expression_weight (HeapRegion p) = 1
  expression_weight (UniqueRegion p) = 1
  expression_weight (Variable x) = 1
  expression_weight (Call f es) = 3 + expressions_weight es
  expression_weight (Bracketed p e) = 2 + expression_weight e
  expression_weight (NumberOfElements p e) = 3 + expression_weight e
  expression_weight (LowByteOf p e) = 3 + expression_weight e
  expression_weight (FreeUnique p e) = 3 + expression_weight e
  expression_weight (FreeKey p k) = 4
  expression_weight (Chained e ps) = expression_weight e + postfixes_weight ps
  expression_weight (Prefixed p o e) = 1 + expression_weight e
  expression_weight (New p i) = 1 + initial_weight i
  expression_weight (RegionNew p h i) = 3 + expression_weight h + initial_weight i
  expression_weight (Binary e os) = expression_weight e + operations_weight os
  expression_weight (Assign a b) = 1 + expression_weight a + expression_weight b

  pub initial_weight : Initial → ℕ
  initial_weight (Plain e) = expression_weight e
  initial_weight (Fields s rs es) = 3 + region_list_weight rs + expressions_weight es
  initial_weight (Array p x n e) = 6 + expression_weight n + expression_weight e

  pub expressions_weight : Expressions → ℕ
  expressions_weight NoExpressions = 0
  expressions_weight (MoreExpressions e es) = expression_weight e + more_expressions_weight es

  pub more_expressions_weight : Expressions → ℕ
  more_expressions_weight NoExpressions = 0
  more_expressions_weight (MoreExpressions e es) = 1 + expression_weight e + more_expressions_weight es

  pub postfixes_weight : Postfixes → ℕ
  postfixes_weight NoPostfixes = 0
  postfixes_weight (ThenIndex e ps) = 2 + expression_weight e + postfixes_weight ps
  postfixes_weight (ThenField x ps) = 2 + postfixes_weight ps

  pub operations_weight : Operations → ℕ
  operations_weight NoOperations = 0
  operations_weight (ThenOperation o p e os) = 1 + expression_weight e + operations_weight os

abbrev mutual
  pub statement_weight : Statement → ℕ
  statement_weight (Block b) = body_weight b
  statement_weight (Labelled l b) = 2 + body_weight b
  statement_weight (Empty p) = 1
  statement_weight (Evaluate e) = 1 + expression_weight e
  statement_weight (Swap a b) = 2 + expression_weight a + expression_weight b
  statement_weight (If p c s) = 3 + expression_weight c + statement_weight s
  statement_weight (IfElse p c s t) = 4 + expression_weight c + statement_weight s + statement_weight t
  statement_weight (While p c s) = 3 + expression_weight c + statement_weight s
  statement_weight (Return p v) = 2 + optional_weight expression_weight v
  statement_weight (Break p) = 2
  statement_weight (Continue p) = 2
  statement_weight (Throw p x v) = 4 + optional_weight (λ e. 2 + expression_weight e) v
  statement_weight (Try p s cs) = 4 + statement_weight s + clauses_weight cs

  pub body_weight : Body → ℕ
  body_weight (Braces p is q) = 2 + items_weight is

  pub items_weight : Items → ℕ
  items_weight NoItems = 0
  items_weight (MoreItems i is) = item_weight i + items_weight is

  pub item_weight : Item → ℕ
  item_weight (Execute s) = statement_weight s
  item_weight (Local t x v) = 2 + type_weight t + optional_weight (λ e. 1 + expression_weight e) v
  item_weight (Region r h k) = 6 + optional_weight (λ _. 5) k
  item_weight (Alias r t x y) = 9 + type_weight t
  item_weight (DynamicRegion r k) = 13

  pub clauses_weight : Clauses → ℕ
  clauses_weight NoClauses = 0
  clauses_weight (Default is) = 2 + items_weight is
  clauses_weight (Case x v is cs) = 4 + optional_weight (λ _. 3) v + items_weight is + clauses_weight cs

abbrev pub member_weight : Member → ℕ
member_weight m = 1 + type_weight m.of_type

abbrev pub int_weight : Bool → ℕ
int_weight false = 0
int_weight true = 3

abbrev pub constructor_weight : Constructor → ℕ
constructor_weight c = 2 + int_weight c.has_int

abbrev pub value_weight : GlobalValue → ℕ
value_weight (Positive p n) = 2
value_weight (Negative p n) = 3
value_weight (Byte p c) = 2
value_weight (NullPointer p) = 2

abbrev pub parameter_list_weight : ParameterList → ℕ
parameter_list_weight Void = 1
parameter_list_weight (Listed ms) = separated_weight member_weight ms

abbrev pub constraints_weight : List Constraint → ℕ
constraints_weight [] = 0
constraints_weight (c ∷ cs) = 1 + separated_weight (λ _. 3) (c ∷ cs)

abbrev pub parameters_weight : Parameters → ℕ
parameters_weight ps = parameter_list_weight ps.list + optional_weight (λ rs. 3 + regions_weight rs) ps.effect + constraints_weight ps.constraints

abbrev pub result_weight : Option WrittenType → ℕ
result_weight None = 1
result_weight (Some t) = type_weight t

abbrev pub declaration_weight : Declaration → ℕ
declaration_weight (StructType s rs fs) = 5 + region_list_weight rs + sum_of (λ m. 1 + member_weight m) fs
declaration_weight (Exceptions cs) = 5 + sum_of constructor_weight cs
declaration_weight (Global t x v) = 2 + type_weight t + optional_weight value_weight v
declaration_weight (Function t f ps b) = 3 + result_weight t + parameters_weight ps + body_weight b

abbrev pub tree_weight : List Declaration → ℕ
tree_weight [] = 0
tree_weight (d ∷ ds) = declaration_weight d + tree_weight ds
