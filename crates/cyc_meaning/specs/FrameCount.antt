-- The frame count: a bound on the number of machine words in a function's frame. The frame count is computed from the source only, so
-- whether a text is accepted does not depend on code generation. The count and its numbers are this project's own choice.
use Rattle.std.specs.Prelude.{ℕ, ◌+◌, max, List, [], ◌∷◌, Option, None, Some}
use Rattle.cyc_types.specs.declared.typed.UnaryOperator.{UnaryOperator}
use Rattle.cyc_types.specs.declared.typed.UnaryOperator.TheVariants as unary
use Rattle.cyc_types.specs.Types.{Ty, words_of, ValueType, Void, Null, Value}
use Rattle.cyc_types.specs.TypedTrees.{Expression, Number, NullPointer, HeapRegion, Counter, Copy, Move, Peek, Load, AddressOf, AddressOfCell, NumberOfElements, FreeUnique, FreeKey, Call, Unary, Binary, Assign, Store, New, Dereference, Target, Member, Element}
use Rattle.cyc_types.specs.TypedTrees.{Placement, OnHeap, AsUnique, ByHandle, Initial, Plain, Fields, Array, Converted, Convert, Arguments, NoArguments, MoreArguments, Operations, NoOperations, ThenCompute, ThenTest, ThenPointer, ThenPointerPeek, type_of_place}
use Rattle.cyc_types.specs.TypedTrees.{type_of, Side, VariableSide, CellSide, Statement, Block, Empty, Evaluate, Swap, If, While, Return, Break, Continue, Throw, Try, Items, NoItems, MoreItems, Execute, Declare, DeclareRegion, Clauses, NoClauses, Default, Case}
use Rattle.cyc_types.specs.TypedTrees.{Function}
use Rattle.cyc_meaning.specs.Values.{words_of_kind}

-- Returns the number of words of an expression's value; an expression without a value has 0.
abbrev pub result_words : ValueType → ℕ
result_words Void = 0
result_words Null = 1
result_words (Value t) = words_of t

-- Returns the number of words of the value of an expression that is an operand. Such an expression
-- is never without a value, so even the type `void` counts as one word.
abbrev pub operand_words : ValueType → ℕ
operand_words Void = 1
operand_words Null = 1
operand_words (Value t) = words_of t

-- Returns the number of words of a converted operand: the larger of its sizes before and after the conversion.
abbrev pub converted_words : Converted → ℕ
converted_words (Convert from to a) = max (words_of_kind from) (words_of_kind to)

-- The number of frame words for the pointer to a cell that is assigned, is an operand of `&`, or is an operand of
-- a swap. A cell that is only read needs no such frame words.
abbrev pub place_words : ℕ
place_words = 3

-- The number of frame words that an array's `for` occupies while its element is evaluated.
abbrev pub array_words : ℕ
array_words = 4

abbrev pub argument_words : Arguments → ℕ
argument_words NoArguments = 0
argument_words (MoreArguments c cs) = converted_words c + argument_words cs

-- Returns the number of words of the handle of `rnew`; `unique_region` counts like a handle.
abbrev pub handle_words : Placement → ℕ
handle_words OnHeap = 0
handle_words AsUnique = 1
handle_words (ByHandle a) = operand_words (type_of a)

-- Returns the need (the bound on temporary words) of a unary operator, given the words and the need of its operand. No token of the
-- text spells the conversion of a char to an int, so this conversion adds no words of the frame.
abbrev pub unary_need : UnaryOperator → (words need : ℕ) → ℕ
unary_need unary.Negate words need = max (words + 1) need
unary_need unary.Not words need = max (words + 1) need
unary_need unary.Complement words need = max (words + 1) need
unary_need unary.Widen words need = need
unary_need unary.LowByte words need = max (words + 1) need

-- The need (bound on temporary words) of an expression is the maximum of two kinds of sums: the words of all its operands plus those
-- of its result, and, for each operand, the words of the operands before it plus its own need. In a chain of operators, everything
-- before an operator is its left operand. Unless the left operand in a chain is the first operand alone, it has the type of the chain.
abbrev mutual
  pub expression_need : Expression → ℕ
  expression_need (Number n) = 1
  expression_need NullPointer = 1
  expression_need HeapRegion = 1
  expression_need (Counter l) = 1
  expression_need (Copy l t) = words_of t
  expression_need (Move p n t) = words_of t
  expression_need (Peek p n t) = words_of t
  expression_need (Load d) = dereference_need d (words_of (type_of_place d))
  expression_need (AddressOf l t) = place_words + words_of t
  expression_need (AddressOfCell d t) = max (place_words + words_of t) (dereference_need d place_words)
  expression_need (NumberOfElements a) = max (operand_words (type_of a) + 1) (expression_need a)
  expression_need (FreeUnique a) = max (operand_words (type_of a)) (expression_need a)
  expression_need (FreeKey a) = max (operand_words (type_of a)) (expression_need a)
  expression_need (Call f cs t) = max (argument_words cs + result_words t) (arguments_need cs 0)
  expression_need (Unary o a) = unary_need o (operand_words (type_of a)) (expression_need a)
  expression_need (Binary a os t) = max (expression_need a) (operations_need os t (operand_words (type_of a)))
  expression_need (Assign l c t) = max (place_words + converted_words c + result_words t) (place_words + converted_need c)
  expression_need (Store d c t) =
      max (dereference_need d place_words) (max (place_words + converted_words c + result_words t) (place_words + converted_need c))
  expression_need (New w i t) = max (handle_need w) (initial_value_need i (handle_words w) (words_of t))

  -- Returns the need (the bound on temporary words) of evaluating a cell `*e`, `e->f` or `e[i]`, where the cell itself takes `own` words.
  pub dereference_need : Dereference → (own : ℕ) → ℕ
  dereference_need (Target k a t) own = max (operand_words (type_of a) + own) (expression_need a)
  dereference_need (Member k a s f t) own = max (operand_words (type_of a) + own) (expression_need a)
  dereference_need (Element a i t) own =
      max (max (operand_words (type_of a) + operand_words (type_of i) + own) (expression_need a)) (operand_words (type_of a) + expression_need i)

  pub handle_need : Placement → ℕ
  handle_need OnHeap = 0
  handle_need AsUnique = 1
  handle_need (ByHandle a) = expression_need a

  -- Returns the need of temporary words of an initial value after a handle of `handle` words; the pointer to the object has `own` words.
  pub initial_value_need : Initial → (handle own : ℕ) → ℕ
  initial_value_need (Plain k a) handle own = max (handle + words_of_kind k + own) (handle + expression_need a)
  initial_value_need (Fields cs) handle own = max (handle + argument_words cs + own) (arguments_need cs handle)
  initial_value_need (Array p l n k a) handle own =
      max (handle + expression_need n) (max (handle + array_words + expression_need a) (handle + array_words + words_of_kind k + own))

  -- Returns the need of temporary words of a converted expression; a conversion adds nothing to the need.
  pub converted_need : Converted → ℕ
  converted_need (Convert from to a) = expression_need a

  -- Returns the need of temporary words of a call's arguments, if `before` words precede the first argument.
  pub arguments_need : Arguments → (before : ℕ) → ℕ
  arguments_need NoArguments before = 0
  arguments_need (MoreArguments c cs) before = max (before + converted_need c) (arguments_need cs (before + converted_words c))

  -- Returns the need of temporary words of the operations in a chain (as in `a + b - c`); the chain's first operand has `left` words.
  pub operations_need : Operations → Ty → (left : ℕ) → ℕ
  operations_need NoOperations t left = 0
  operations_need (ThenCompute o a os) t left =
      max (max (left + operand_words (type_of a) + words_of t) (left + expression_need a)) (operations_need os t (words_of t))
  operations_need (ThenTest o a os) t left =
      max (max (left + operand_words (type_of a) + words_of t) (left + expression_need a)) (operations_need os t (words_of t))
  operations_need (ThenPointer o a os) t left =
      max (max (left + operand_words (type_of a) + words_of t) (left + expression_need a)) (operations_need os t (words_of t))
  operations_need (ThenPointerPeek n o a os) t left =
      max (max (left + operand_words (type_of a) + words_of t) (left + expression_need a)) (operations_need os t (words_of t))

abbrev pub initial_need : Option Converted → ℕ
initial_need None = 0
initial_need (Some c) = converted_need c

abbrev pub thrown_need : Option Expression → ℕ
thrown_need None = 0
thrown_need (Some a) = expression_need a

abbrev pub side_need : Side → ℕ
side_need (VariableSide l t) = place_words
side_need (CellSide d) = dereference_need d place_words

-- Returns the need of temporary words of a statement: the maximum over its expressions. A swap counts like an expression without a value
-- whose operands are the swap's left and right operand.
abbrev mutual
  pub statement_need : Statement → ℕ
  statement_need (Block r js) = items_need js
  statement_need Empty = 0
  statement_need (Evaluate a) = expression_need a
  statement_need (Swap a b) = max (place_words + place_words) (max (side_need a) (place_words + side_need b))
  statement_need (If a s t) = max (expression_need a) (max (statement_need s) (statement_need t))
  statement_need (While p a s) = max (expression_need a) (statement_need s)
  statement_need (Return v) = initial_need v
  statement_need Break = 0
  statement_need Continue = 0
  statement_need (Throw n v) = thrown_need v
  statement_need (Try s cs) = max (statement_need s) (clauses_need cs)

  pub items_need : Items → ℕ
  items_need NoItems = 0
  items_need (MoreItems (Execute s) js) = max (statement_need s) (items_need js)
  items_need (MoreItems (Declare n t v) js) = max (initial_need v) (items_need js)
  items_need (MoreItems j js) = items_need js

  pub clauses_need : Clauses → ℕ
  clauses_need NoClauses = 0
  clauses_need (Default r js) = items_need js
  clauses_need (Case e n r js cs) = max (items_need js) (clauses_need cs)

-- Returns the words that a statement adds to the frame beside variables: six for each `try`, and one for each lexical
-- region, so that its handle counts two.
abbrev mutual
  pub kept_by : Statement → ℕ
  kept_by (Block r js) = kept_by_items js
  kept_by (If a s t) = kept_by s + kept_by t
  kept_by (While p a s) = kept_by s
  kept_by (Try s cs) = 6 + kept_by s + kept_by_clauses cs
  kept_by s = 0

  pub kept_by_items : Items → ℕ
  kept_by_items NoItems = 0
  kept_by_items (MoreItems (Execute s) js) = kept_by s + kept_by_items js
  kept_by_items (MoreItems (DeclareRegion r n) js) = 1 + kept_by_items js
  kept_by_items (MoreItems j js) = kept_by_items js

  pub kept_by_clauses : Clauses → ℕ
  kept_by_clauses NoClauses = 0
  kept_by_clauses (Default r js) = kept_by_items js
  kept_by_clauses (Case e n r js cs) = kept_by_items js + kept_by_clauses cs

abbrev pub words_of_all : List Ty → ℕ
words_of_all [] = 0
words_of_all (t ∷ ts) = words_of t + words_of_all ts

-- The fixed number of words reserved in each frame.
abbrev pub kept_words : ℕ
kept_words = 24

-- Returns the frame count of a function. Loop counters of array `for` initializers are not variables, and count no words.
abbrev pub frame_count : Function → ℕ
frame_count h = kept_words + words_of_all h.parameters + words_of_all h.locals + kept_by_items h.body + items_need h.body
