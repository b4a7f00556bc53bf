-- The weight of a typed tree is a lower bound on the number of tokens that spell it; passes bound the size of their output by the weight.
-- The weight of a typed tree equals that of a syntax tree, except that parentheses and optional parts of the syntax weigh nothing. Optional
-- parts of the syntax are an `else` with an empty statement, the value 0 or null of a global, and the `void` of an empty parameter list.
-- Further optional parts of the syntax are labels, regions after pointer signs (`*`, `@`, `?`), effects and constraints. Structs and
-- exceptions weigh nothing, because they have no code. The definition of the weight of a typed tree is this project's own choice.
use Rattle.std.specs.Prelude.{ℕ, zero, suc, ◌+◌, Option, None, Some}
use Rattle.cyc_syntax.specs.Sums.{sum_of, separated_weight, optional_weight}
use Rattle.cyc_types.specs.declared.typed.UnaryOperator.{UnaryOperator}
use Rattle.cyc_types.specs.declared.typed.UnaryOperator.TheVariants as unary
use Rattle.cyc_types.specs.TypedTrees.{Expression, Number, NullPointer, HeapRegion, Counter, Copy, Move, Peek, Load, AddressOf, AddressOfCell, NumberOfElements, FreeUnique, FreeKey, Call, Unary, Binary, Assign, Store, New}
use Rattle.cyc_types.specs.TypedTrees.{Dereference, Target, Member, Element, Placement, OnHeap, AsUnique, ByHandle, Initial, Plain, Fields, Array, Converted, Convert, Arguments, NoArguments, MoreArguments, Operations, NoOperations}
use Rattle.cyc_types.specs.TypedTrees.{ThenCompute, ThenTest, ThenPointer, ThenPointerPeek, Side, VariableSide, CellSide, Statement, Block, Empty, Evaluate, Swap, If, While, Return, Break, Continue, Throw, Try, Items, NoItems}
use Rattle.cyc_types.specs.TypedTrees.{MoreItems, Item, Execute, Declare, DeclareRegion, OpenRegion, DeclareAlias, DeclareKey, Clauses, NoClauses, Default, Case, Constant, Word, Null, GlobalVariable, Function, Program}

-- the weight (token count) of a unary operator; the conversion of a char to an int weighs nothing, because no token spells it
abbrev pub unary_weight : UnaryOperator → ℕ
unary_weight unary.Widen = 0
unary_weight o = 1

abbrev mutual
  pub expression_weight : Expression → ℕ
  expression_weight (Number n) = 1
  expression_weight NullPointer = 1
  expression_weight HeapRegion = 1
  expression_weight (Counter l) = 1
  expression_weight (Copy l t) = 1
  expression_weight (Move p n t) = 1
  expression_weight (Peek p n t) = 1
  expression_weight (Load d) = dereference_weight d
  expression_weight (AddressOf l t) = 2
  expression_weight (AddressOfCell d t) = 1 + dereference_weight d
  expression_weight (NumberOfElements a) = 3 + expression_weight a
  expression_weight (FreeUnique a) = 3 + expression_weight a
  expression_weight (FreeKey a) = 3 + expression_weight a
  expression_weight (Call f cs t) = 3 + arguments_weight cs
  expression_weight (Unary o a) = unary_weight o + expression_weight a
  expression_weight (Binary a os t) = expression_weight a + operations_weight os
  expression_weight (Assign l c t) = 2 + converted_weight c
  expression_weight (Store d c t) = 1 + dereference_weight d + converted_weight c
  expression_weight (New w i t) = placement_weight w + initial_weight i

  pub dereference_weight : Dereference → ℕ
  dereference_weight (Target k a t) = 1 + expression_weight a
  dereference_weight (Member k a s f t) = 2 + expression_weight a
  dereference_weight (Element a i t) = 2 + expression_weight a + expression_weight i

  -- the weight (token count) of `new`, or of `rnew` with the handle in its parentheses
  pub placement_weight : Placement → ℕ
  placement_weight OnHeap = 1
  placement_weight AsUnique = 4
  placement_weight (ByHandle a) = 3 + expression_weight a

  pub initial_weight : Initial → ℕ
  initial_weight (Plain k a) = expression_weight a
  initial_weight (Fields cs) = 3 + arguments_weight cs
  initial_weight (Array p l n k a) = 6 + expression_weight n + expression_weight a

  pub converted_weight : Converted → ℕ
  converted_weight (Convert from to a) = expression_weight a

  pub arguments_weight : Arguments → ℕ
  arguments_weight NoArguments = 0
  arguments_weight (MoreArguments c cs) = converted_weight c + more_arguments_weight cs

  -- the weight (token count) of the arguments after the first, each with the comma before it
  pub more_arguments_weight : Arguments → ℕ
  more_arguments_weight NoArguments = 0
  more_arguments_weight (MoreArguments c cs) = 1 + converted_weight c + more_arguments_weight cs

  pub operations_weight : Operations → ℕ
  operations_weight NoOperations = 0
  operations_weight (ThenCompute o a os) = 1 + expression_weight a + operations_weight os
  operations_weight (ThenTest o a os) = 1 + expression_weight a + operations_weight os
  operations_weight (ThenPointer o a os) = 1 + expression_weight a + operations_weight os
  operations_weight (ThenPointerPeek n o a os) = 1 + expression_weight a + operations_weight os

-- the weight (token count) of `else` and its statement; an empty statement adds nothing, because the source need not write it
abbrev pub else_weight : Statement → ℕ → ℕ
else_weight Empty n = 0
else_weight t n = 1 + n

abbrev pub side_weight : Side → ℕ
side_weight (VariableSide l t) = 1
side_weight (CellSide d) = dereference_weight d

-- the weight (token count) of a thrown exception's int and its parentheses
abbrev pub thrown_weight : Option Expression → ℕ
thrown_weight None = 0
thrown_weight (Some a) = 2 + expression_weight a

abbrev pub caught_weight : Option ℕ → ℕ
caught_weight None = 0
caught_weight (Some n) = 3

abbrev mutual
  pub statement_weight : Statement → ℕ
  statement_weight (Block r js) = 2 + items_weight js
  statement_weight Empty = 1
  statement_weight (Evaluate a) = 1 + expression_weight a
  statement_weight (If a s t) = 3 + expression_weight a + statement_weight s + else_weight t (statement_weight t)
  statement_weight (While p a s) = 3 + expression_weight a + statement_weight s
  statement_weight (Return v) = 2 + optional_weight converted_weight v
  statement_weight Break = 2
  statement_weight Continue = 2
  statement_weight (Swap a b) = 2 + side_weight a + side_weight b
  statement_weight (Throw n v) = 4 + thrown_weight v
  statement_weight (Try s cs) = 4 + statement_weight s + clauses_weight cs

  pub items_weight : Items → ℕ
  items_weight NoItems = 0
  items_weight (MoreItems i js) = item_weight i + items_weight js

  pub item_weight : Item → ℕ
  item_weight (Execute s) = statement_weight s
  item_weight (Declare n t v) = 3 + optional_weight (λ c. 1 + converted_weight c) v
  item_weight (DeclareRegion r n) = 6
  item_weight (OpenRegion r n p k) = 11
  item_weight (DeclareAlias r n t p m) = 10
  item_weight (DeclareKey r n) = 13

  pub clauses_weight : Clauses → ℕ
  clauses_weight NoClauses = 0
  clauses_weight (Default r js) = 2 + items_weight js
  clauses_weight (Case e n r js cs) = 4 + caught_weight n + items_weight js + clauses_weight cs

-- the weight (token count) of a global's initial value and its `=`; the value 0 or null weighs nothing, because the source
-- need not write it
abbrev pub constant_weight : Constant → ℕ
constant_weight (Word zero) = 0
constant_weight (Word (suc n)) = 2
constant_weight Null = 0

abbrev pub global_weight : GlobalVariable → ℕ
global_weight g = 3 + constant_weight g.value

-- the weight (token count) of a function; each parameter counts as two tokens, a type and a name
abbrev pub function_weight : Function → ℕ
function_weight h = 6 + separated_weight (λ _. 2) h.parameters + items_weight h.body

abbrev pub program_weight : Program → ℕ
program_weight p = sum_of global_weight p.globals + sum_of function_weight p.functions
