-- The productions of the grammar. Each case below is one production: it lists the leaves that spell a tree, from left to right (the yield
-- of the tree). The grammar is that of the Cyclone manual, reduced to this project's subset. The form of outlives constraints is this
-- project's own choice.
--
-- Beside its terminal a leaf has two numbers. This project's limits refer to a leaf's two numbers; no production depends on them:
-- * its nesting: the number of open brackets `(`, `[`, `{` before it, plus the number of operators and keywords whose operand or statement
--   contains it, where the operators and keywords are the prefix operators, `new`, `rnew`, `=`, `if`, `else`, `while` and `try`. A
--   condition is nested only in its   brackets, and the statement after `else` only in the `else`. The handle and the value of `rnew` are
--   nested in the `rnew`, the exception   after `throw new` in the `new`;
-- * its item: the number, from 1, of the list element that the leaf begins, or of the operator, postfix operator or pointer sign in its
-- row. The lists are those of fields, constructors, parameters, arguments, regions and constraints. All other leaves have the item
-- number 0.
use Rattle.std.specs.Prelude.{ℕ, suc, Bool, true, false, List, [], ◌∷◌, ◌++◌, Option, Some, None}
use Rattle.cyc_syntax.specs.declared.tokens.Keyword.{Keyword}
use Rattle.cyc_syntax.specs.declared.tokens.Keyword.TheVariants as words
use Rattle.cyc_syntax.specs.declared.tokens.Sign.{Sign}
use Rattle.cyc_syntax.specs.declared.tokens.Sign.TheVariants as signs
use Rattle.cyc_syntax.specs.declared.tree.PointerKind.{PointerKind}
use Rattle.cyc_syntax.specs.declared.tree.PointerKind.TheVariants as pointers
use Rattle.cyc_syntax.specs.declared.tree.PrefixOperator.{PrefixOperator}
use Rattle.cyc_syntax.specs.declared.tree.PrefixOperator.TheVariants as prefixes
use Rattle.cyc_syntax.specs.declared.tree.BinaryOperator.{BinaryOperator}
use Rattle.cyc_syntax.specs.declared.tree.BinaryOperator.TheVariants as operators
use Rattle.cyc_syntax.specs.Symbols.{Place, Terminal, Identifier, RegionName, Word, Mark}
use Rattle.cyc_syntax.specs.Symbols as terminals
use Rattle.cyc_syntax.specs.Trees.{Named, Pointer, BaseType, Int, Char, Struct, Handle, Key, WrittenType, Expression, Number, Character, Null, HeapRegion, UniqueRegion, Variable, Call, Bracketed, NumberOfElements, LowByteOf, FreeUnique, FreeKey}
use Rattle.cyc_syntax.specs.Trees.{Chained, Prefixed, New, RegionNew, Binary, Assign, Initial, Plain, Fields, Array, Expressions, NoExpressions, MoreExpressions, Postfixes, NoPostfixes, ThenIndex, ThenField, Operations, NoOperations, ThenOperation}
use Rattle.cyc_syntax.specs.Trees.{Statement, Block, Labelled, Empty, Evaluate, Swap, If, IfElse, While, Return, Break, Continue, Throw, Try, Body, Braces, Items, NoItems, MoreItems, Item, Execute, Local, Region, Alias, DynamicRegion, Clauses}
use Rattle.cyc_syntax.specs.Trees.{NoClauses, Default, Case, Member, Constructor, GlobalValue, Positive, Negative, Byte, NullPointer, Constraint, ParameterList, Void, Listed, Parameters, Declaration, StructType, Exceptions, Global, Function}

-- A leaf of a syntax tree. A leaf has the source position of its token if the tree stores this position.
pub record Leaf : Type 0 where
  pub terminal : Terminal
  pub place : Option Place
  pub nesting : ℕ
  pub item : ℕ

abbrev pub Yield : Type 0
Yield = List Leaf

-- ---- notation: a production concatenates its parts

infixr 10 ◌⨾◌
abbrev pub ◌⨾◌ : Yield → Yield → Yield
first ⨾ second = first ++ second

-- Returns the yield (list of leaves) that consists of one token at a nesting depth; the tree stores the token's source position.
abbrev pub at : ℕ → Terminal → Place → Yield
at d t p = record { terminal = t; place = Some p; nesting = d; item = 0 } ∷ []

abbrev pub sign : ℕ → Sign → Yield
sign d s = record { terminal = Mark s; place = None; nesting = d; item = 0 } ∷ []

abbrev pub word : ℕ → Keyword → Yield
word d k = record { terminal = Word k; place = None; nesting = d; item = 0 } ∷ []

abbrev pub identifier : ℕ → Named → Yield
identifier d x = at d (Identifier x.name) x.place

abbrev pub region_name : ℕ → Named → Yield
region_name d r = at d (RegionName r.name) r.place

-- Returns the yield (list of leaves) after its first leaf gets this item number: an index, from 1, in a list or among operators in a row.
abbrev pub item_number : ℕ → Yield → Yield
item_number i [] = []
item_number i (leaf ∷ leaves) = record leaf { item = i } ∷ leaves

abbrev pub optional : {A : Type 0} → (A → Yield) → Option A → Yield
optional yield None = []
optional yield (Some x) = yield x

-- ---- lists with numbered items

-- Returns the yields (lists of leaves) of a list's elements one after the other. The elements are numbered from `i` on, and
-- the first leaf of each element holds the element's number.
abbrev pub each : {A : Type 0} → (A → Yield) → ℕ → List A → Yield
each yield i [] = []
each yield i (x ∷ xs) = item_number i (yield x) ⨾ each yield (suc i) xs

-- Returns the yields (lists of leaves) of a list's elements, each preceded by a comma. The elements are numbered from `i` on, and
-- the first leaf of each element holds the element's number.
abbrev pub more : {A : Type 0} → (A → Yield) → ℕ → ℕ → List A → Yield
more yield d i [] = []
more yield d i (x ∷ xs) = sign d signs.Comma ⨾ item_number i (yield x) ⨾ more yield d (suc i) xs

-- Returns the yields of a list's elements, separated by commas.
abbrev pub separated : {A : Type 0} → (A → Yield) → ℕ → List A → Yield
separated yield d [] = []
separated yield d (x ∷ xs) = item_number 1 (yield x) ⨾ more yield d 2 xs

-- ---- operators and marks

abbrev pub mark_sign : PointerKind → Sign
mark_sign pointers.Nullable = signs.Star
mark_sign pointers.NonNull = signs.At
mark_sign pointers.Fat = signs.Question

abbrev pub prefix_sign : PrefixOperator → Sign
prefix_sign prefixes.Negate = signs.Minus
prefix_sign prefixes.Not = signs.Not
prefix_sign prefixes.Complement = signs.Tilde
prefix_sign prefixes.Dereference = signs.Star
prefix_sign prefixes.AddressOf = signs.And

abbrev pub operator_sign : BinaryOperator → Sign
operator_sign operators.OrElse = signs.OrOr
operator_sign operators.AndThen = signs.AndAnd
operator_sign operators.Or = signs.Or
operator_sign operators.Xor = signs.Xor
operator_sign operators.And = signs.And
operator_sign operators.Equal = signs.Equal
operator_sign operators.NotEqual = signs.NotEqual
operator_sign operators.Less = signs.Less
operator_sign operators.LessOrEqual = signs.LessOrEqual
operator_sign operators.Greater = signs.Greater
operator_sign operators.GreaterOrEqual = signs.GreaterOrEqual
operator_sign operators.ShiftLeft = signs.ShiftLeft
operator_sign operators.ShiftRight = signs.ShiftRight
operator_sign operators.Add = signs.Plus
operator_sign operators.Subtract = signs.Minus
operator_sign operators.Multiply = signs.Star
operator_sign operators.Divide = signs.Slash
operator_sign operators.Remainder = signs.Percent

-- ---- regions and types

abbrev pub regions : ℕ → List Named → Yield
regions d rs = separated (region_name d) d rs

-- Returns the yield of region arguments or parameters; it is empty if they are omitted.
abbrev pub region_list : ℕ → List Named → Yield
region_list d [] = []
region_list d (r ∷ rs) = sign d signs.Less ⨾ regions d (r ∷ rs) ⨾ sign d signs.Greater

abbrev pub mark : ℕ → Pointer → Yield
mark d m = sign d (mark_sign m.kind) ⨾ optional (region_name d) m.region

abbrev pub marks : ℕ → List Pointer → Yield
marks d ms = each (mark d) 1 ms

abbrev pub base_type : ℕ → Place → BaseType → Yield
base_type d p Int = at d (Word words.Int) p
base_type d p Char = at d (Word words.Char) p
base_type d p (Struct s rs) = at d (Word words.Struct) p ⨾ identifier d s ⨾ region_list d rs
base_type d p (Handle r) = at d (Word words.RegionType) p ⨾ sign d signs.Less ⨾ region_name d r ⨾ sign d signs.Greater
base_type d p (Key r) = at d (Word words.KeyType) p ⨾ sign d signs.Less ⨾ region_name d r ⨾ sign d signs.Greater

abbrev pub written_type : ℕ → WrittenType → Yield
written_type d t = base_type d t.place t.base ⨾ marks d t.marks

-- ---- expressions

abbrev mutual
  pub expression : ℕ → Expression → Yield
  expression d (Number p n) = at d (terminals.Number n) p
  expression d (Character p c) = at d (terminals.Character c) p
  expression d (Null p) = at d (Word words.Null) p
  expression d (HeapRegion p) = at d (Word words.HeapRegion) p
  expression d (UniqueRegion p) = at d (Word words.UniqueRegion) p
  expression d (Variable x) = identifier d x
  expression d (Call f es) = identifier d f ⨾ sign d signs.LeftParen ⨾ arguments (suc d) es ⨾ sign (suc d) signs.RightParen
  expression d (Bracketed p e) = at d (Mark signs.LeftParen) p ⨾ expression (suc d) e ⨾ sign (suc d) signs.RightParen
  expression d (NumberOfElements p e) = at d (Word words.NumberOfElements) p ⨾ sign d signs.LeftParen ⨾ expression (suc d) e ⨾ sign (suc d) signs.RightParen
  expression d (LowByteOf p e) = at d (Word words.Char) p ⨾ sign d signs.LeftParen ⨾ expression (suc d) e ⨾ sign (suc d) signs.RightParen
  expression d (FreeUnique p e) = at d (Word words.FreeUnique) p ⨾ sign d signs.LeftParen ⨾ expression (suc d) e ⨾ sign (suc d) signs.RightParen
  expression d (FreeKey p k) = at d (Word words.FreeKey) p ⨾ sign d signs.LeftParen ⨾ identifier (suc d) k ⨾ sign (suc d) signs.RightParen
  expression d (Chained e ps) = expression d e ⨾ postfixes d 1 ps
  expression d (Prefixed p o e) = at d (Mark (prefix_sign o)) p ⨾ expression (suc d) e
  expression d (New p i) = at d (Word words.New) p ⨾ initial (suc d) i
  expression d (RegionNew p h i) = at d (Word words.RegionNew) p ⨾ sign (suc d) signs.LeftParen ⨾ expression (suc (suc d)) h ⨾ sign (suc (suc d)) signs.RightParen ⨾ initial (suc d) i
  expression d (Binary e os) = expression d e ⨾ operations d 1 os
  expression d (Assign a b) = expression d a ⨾ sign d signs.Assign ⨾ expression (suc d) b

  pub initial : ℕ → Initial → Yield
  initial d (Plain e) = expression d e
  initial d (Fields s rs es) = identifier d s ⨾ region_list d rs ⨾ sign d signs.LeftBrace ⨾ values (suc d) es ⨾ sign (suc d) signs.RightBrace
  initial d (Array p x n e) = sign d signs.LeftBrace ⨾ at (suc d) (Word words.For) p ⨾ identifier (suc d) x ⨾ sign (suc d) signs.Less ⨾ expression (suc d) n ⨾ sign (suc d) signs.Colon ⨾ expression (suc d) e ⨾ sign (suc d) signs.RightBrace

  -- Returns the yield of the values of a struct's fields; no limit of this project counts these values.
  pub values : ℕ → Expressions → Yield
  values d NoExpressions = []
  values d (MoreExpressions e es) = expression d e ⨾ more_values d es

  pub more_values : ℕ → Expressions → Yield
  more_values d NoExpressions = []
  more_values d (MoreExpressions e es) = sign d signs.Comma ⨾ expression d e ⨾ more_values d es

  pub arguments : ℕ → Expressions → Yield
  arguments d NoExpressions = []
  arguments d (MoreExpressions e es) = item_number 1 (expression d e) ⨾ more_arguments d 2 es

  pub more_arguments : ℕ → ℕ → Expressions → Yield
  more_arguments d i NoExpressions = []
  more_arguments d i (MoreExpressions e es) = sign d signs.Comma ⨾ item_number i (expression d e) ⨾ more_arguments d (suc i) es

  pub postfixes : ℕ → ℕ → Postfixes → Yield
  postfixes d i NoPostfixes = []
  postfixes d i (ThenIndex e ps) = item_number i (sign d signs.LeftBracket) ⨾ expression (suc d) e ⨾ sign (suc d) signs.RightBracket ⨾ postfixes d (suc i) ps
  postfixes d i (ThenField x ps) = item_number i (sign d signs.Arrow) ⨾ identifier d x ⨾ postfixes d (suc i) ps

  pub operations : ℕ → ℕ → Operations → Yield
  operations d i NoOperations = []
  operations d i (ThenOperation o p e os) = item_number i (at d (Mark (operator_sign o)) p) ⨾ expression d e ⨾ operations d (suc i) os

-- ---- statements

-- Returns the yield of `= value`, the initializer of a local variable.
abbrev pub given : ℕ → Expression → Yield
given d e = sign d signs.Assign ⨾ expression (suc d) e

-- Returns the yield of `= open(key)`, which opens a dynamic region.
abbrev pub opened : ℕ → Named → Yield
opened d k = sign d signs.Assign ⨾ word (suc d) words.Open ⨾ sign (suc d) signs.LeftParen ⨾ identifier (suc (suc d)) k ⨾ sign (suc (suc d)) signs.RightParen

-- Returns the yield of `(value)`, the argument of a thrown exception.
abbrev pub thrown : ℕ → Expression → Yield
thrown d e = sign d signs.LeftParen ⨾ expression (suc d) e ⨾ sign (suc d) signs.RightParen

-- Returns the yield of `(variable)`, the parameter of a caught exception.
abbrev pub caught : ℕ → Named → Yield
caught d x = sign d signs.LeftParen ⨾ identifier (suc d) x ⨾ sign (suc d) signs.RightParen

abbrev mutual
  pub statement : ℕ → Statement → Yield
  statement d (Block b) = body d b
  statement d (Labelled l b) = identifier d l ⨾ sign d signs.Colon ⨾ body d b
  statement d (Empty p) = at d (Mark signs.Semicolon) p
  statement d (Evaluate e) = expression d e ⨾ sign d signs.Semicolon
  statement d (Swap a b) = expression d a ⨾ sign d signs.Swap ⨾ expression d b ⨾ sign d signs.Semicolon
  statement d (If p c s) = at d (Word words.If) p ⨾ sign d signs.LeftParen ⨾ expression (suc d) c ⨾ sign (suc d) signs.RightParen ⨾ statement (suc d) s
  statement d (IfElse p c s t) = at d (Word words.If) p ⨾ sign d signs.LeftParen ⨾ expression (suc d) c ⨾ sign (suc d) signs.RightParen ⨾ statement (suc d) s ⨾ word d words.Else ⨾ statement (suc d) t
  statement d (While p c s) = at d (Word words.While) p ⨾ sign d signs.LeftParen ⨾ expression (suc d) c ⨾ sign (suc d) signs.RightParen ⨾ statement (suc d) s
  statement d (Return p v) = at d (Word words.Return) p ⨾ optional (expression d) v ⨾ sign d signs.Semicolon
  statement d (Break p) = at d (Word words.Break) p ⨾ sign d signs.Semicolon
  statement d (Continue p) = at d (Word words.Continue) p ⨾ sign d signs.Semicolon
  statement d (Throw p x v) = at d (Word words.Throw) p ⨾ word d words.New ⨾ identifier (suc d) x ⨾ optional (thrown (suc d)) v ⨾ sign d signs.Semicolon
  statement d (Try p s cs) = at d (Word words.Try) p ⨾ statement (suc d) s ⨾ word d words.Catch ⨾ sign d signs.LeftBrace ⨾ clauses (suc d) cs ⨾ sign (suc d) signs.RightBrace

  pub body : ℕ → Body → Yield
  body d (Braces p is q) = at d (Mark signs.LeftBrace) p ⨾ items (suc d) is ⨾ at (suc d) (Mark signs.RightBrace) q

  pub items : ℕ → Items → Yield
  items d NoItems = []
  items d (MoreItems i is) = item d i ⨾ items d is

  pub item : ℕ → Item → Yield
  item d (Execute s) = statement d s
  item d (Local t x v) = written_type d t ⨾ identifier d x ⨾ optional (given d) v ⨾ sign d signs.Semicolon
  item d (Region r h k) = word d words.Region ⨾ sign d signs.Less ⨾ region_name d r ⨾ sign d signs.Greater ⨾ identifier d h ⨾ optional (opened d) k ⨾ sign d signs.Semicolon
  item d (Alias r t x y) = word d words.Let ⨾ word d words.Alias ⨾ sign d signs.Less ⨾ region_name d r ⨾ sign d signs.Greater ⨾ written_type d t ⨾ identifier d x ⨾ sign d signs.Assign ⨾ identifier (suc d) y ⨾ sign d signs.Semicolon
  item d (DynamicRegion r k) = word d words.Let ⨾ word d words.NewDynamicRegion ⨾ sign d signs.LeftBrace ⨾ sign (suc d) signs.Less ⨾ region_name (suc d) r ⨾ sign (suc d) signs.Greater ⨾ identifier (suc d) k ⨾ sign (suc d) signs.RightBrace
      ⨾ sign d signs.Assign ⨾ word (suc d) words.NewKey ⨾ sign (suc d) signs.LeftParen ⨾ sign (suc (suc d)) signs.RightParen ⨾ sign d signs.Semicolon

  pub clauses : ℕ → Clauses → Yield
  clauses d NoClauses = []
  clauses d (Default is) = word d words.Default ⨾ sign d signs.Colon ⨾ items d is
  clauses d (Case x v is cs) = word d words.Case ⨾ sign d signs.And ⨾ identifier d x ⨾ optional (caught d) v ⨾ sign d signs.Colon ⨾ items d is ⨾ clauses d cs

-- ---- declarations

abbrev pub member : ℕ → Member → Yield
member d m = written_type d m.of_type ⨾ identifier d m.name

abbrev pub field : ℕ → Member → Yield
field d m = member d m ⨾ sign d signs.Semicolon

-- Returns the yield of `(int)`, the parameter of an exception constructor.
abbrev pub has_int : ℕ → Bool → Yield
has_int d false = []
has_int d true = sign d signs.LeftParen ⨾ word (suc d) words.Int ⨾ sign (suc d) signs.RightParen

abbrev pub constructor : ℕ → Constructor → Yield
constructor d c = identifier d c.name ⨾ has_int d c.has_int ⨾ sign d signs.Semicolon

-- A minus sign before the number increases the nesting of a global's initial value, like a prefix operator.
abbrev pub global_value : ℕ → GlobalValue → Yield
global_value d (Positive p n) = sign d signs.Assign ⨾ at (suc d) (terminals.Number n) p
global_value d (Negative p n) = sign d signs.Assign ⨾ at (suc d) (Mark signs.Minus) p ⨾ record { terminal = terminals.Number n; place = None; nesting = suc (suc d); item = 0 } ∷ []
global_value d (Byte p c) = sign d signs.Assign ⨾ at (suc d) (terminals.Character c) p
global_value d (NullPointer p) = sign d signs.Assign ⨾ at (suc d) (Word words.Null) p

abbrev pub parameter_list : ℕ → ParameterList → Yield
parameter_list d Void = word d words.Void
parameter_list d (Listed ms) = separated (member d) d ms

abbrev pub effect : ℕ → List Named → Yield
effect d rs = sign d signs.Semicolon ⨾ sign d signs.LeftBrace ⨾ regions (suc d) rs ⨾ sign (suc d) signs.RightBrace

abbrev pub constraint : ℕ → Constraint → Yield
constraint d c = region_name d c.longer ⨾ sign d signs.Greater ⨾ region_name d c.shorter

abbrev pub constraints : ℕ → List Constraint → Yield
constraints d [] = []
constraints d (c ∷ cs) = sign d signs.Colon ⨾ separated (constraint d) d (c ∷ cs)

abbrev pub parameters : ℕ → Parameters → Yield
parameters d ps = parameter_list d ps.list ⨾ optional (effect d) ps.effect ⨾ constraints d ps.constraints

abbrev pub result_type : ℕ → Option WrittenType → Yield
result_type d None = word d words.Void
result_type d (Some t) = written_type d t

abbrev pub declaration : ℕ → Declaration → Yield
declaration d (StructType s rs fs) = word d words.Struct ⨾ identifier d s ⨾ region_list d rs ⨾ sign d signs.LeftBrace ⨾ each (field (suc d)) 1 fs ⨾ sign (suc d) signs.RightBrace ⨾ sign d signs.Semicolon
declaration d (Exceptions cs) = word d words.Datatype ⨾ word d words.Exn ⨾ sign d signs.LeftBrace ⨾ each (constructor (suc d)) 1 cs ⨾ sign (suc d) signs.RightBrace ⨾ sign d signs.Semicolon
declaration d (Global t x v) = written_type d t ⨾ identifier d x ⨾ optional (global_value d) v ⨾ sign d signs.Semicolon
declaration d (Function t f ps b) = result_type d t ⨾ identifier d f ⨾ sign d signs.LeftParen ⨾ parameters (suc d) ps ⨾ sign (suc d) signs.RightParen ⨾ body d b

abbrev pub program : List Declaration → Yield
program [] = []
program (d ∷ ds) = declaration 0 d ⨾ program ds
