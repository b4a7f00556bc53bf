-- A function of a short program has few machine words in its frame.
use Rattle.std.proofs.Common.{ℕ, ◌+◌, ◌*◌, ◌≤◌, List, [], ◌∷◌, Some, None, arith, length}
use Rattle.cyc_syntax.specs.declared.tree.PointerKind.TheVariants as marks
use Rattle.cyc_syntax.specs.TokenRule.{max_tokens}
use Rattle.cyc_types.specs.declared.typed.UnaryOperator.TheVariants as unary
use Rattle.cyc_types.specs.Types.{Ty, Int, Char, Pointer, Handle, Key, Struct, words_of, ValueType, Void, Null, Value}
use Rattle.cyc_types.specs.TypedTrees.{Expression, Number, NullPointer, HeapRegion, Counter, Copy, Move, Peek, Load, AddressOf, AddressOfCell, NumberOfElements, FreeUnique, FreeKey, Call, Unary, Binary, Assign, Store, New, Dereference, Target, Member, Element}
use Rattle.cyc_types.specs.TypedTrees.{Placement, OnHeap, AsUnique, ByHandle, Initial, Plain, Fields, Array, Converted, Convert, Arguments, NoArguments, MoreArguments, Operations, NoOperations, ThenCompute, ThenTest, ThenPointer, ThenPointerPeek, type_of}
use Rattle.cyc_types.specs.TypedTrees.{type_of_place, Side, VariableSide, CellSide, Statement, Block, Empty, Evaluate, Swap, If, While, Return, Break, Continue, Throw, Try, Items, NoItems, MoreItems, Execute, Declare, DeclareRegion, Clauses, NoClauses, Default, Case}
use Rattle.cyc_types.specs.TypedTrees.{Program}
use Rattle.cyc_types.specs.Weight.{expression_weight, dereference_weight, placement_weight, initial_weight, converted_weight, arguments_weight, more_arguments_weight, operations_weight, side_weight, statement_weight, items_weight, clauses_weight, function_weight, program_weight}
use Rattle.cyc_types.specs.typing.WellTyped.{IsWellTypedProgram}
use Rattle.cyc_types.proofs.WeightLemmas.{some_token, else_written, function_of_program}
use Rattle.cyc_types.proofs.typing.WeightLemmas.{function_outweighs}
use Rattle.cyc_meaning.specs.FrameCount.{result_words, operand_words, converted_words, argument_words, handle_words, expression_need, dereference_need, handle_need, initial_value_need}
use Rattle.cyc_meaning.specs.FrameCount.{converted_need, arguments_need, operations_need, side_need, statement_need, items_need, clauses_need, kept_by, kept_by_items, kept_by_clauses, words_of_all}
use Rattle.cyc_lower_proof.specs.inside.Bounds.{HaveFewWords}
use Rattle.cyc_lower_proof.proofs.slots.Widths.{kind_few}
use Rattle.cyc_lower_proof.proofs.sizes.RangeLemmas.{converted_few}

-- ---- values

words_few : (t : Ty) → (1 ≤ words_of t) × (words_of t ≤ 3)
words_few Int = (omega arith, omega arith)
words_few Char = (omega arith, omega arith)
words_few (Pointer marks.Nullable t r) = (omega arith, omega arith)
words_few (Pointer marks.NonNull t r) = (omega arith, omega arith)
words_few (Pointer marks.Fat t r) = (omega arith, omega arith)
words_few (Handle r) = (omega arith, omega arith)
words_few (Key r) = (omega arith, omega arith)
words_few (Struct n rs) = (omega arith, omega arith)

result_few : (t : ValueType) → result_words t ≤ 3
result_few Void = omega arith
result_few Null = omega arith
result_few (Value t) = (words_few t).1

operand_few : (t : ValueType) → operand_words t ≤ 3
operand_few Void = omega arith
operand_few Null = omega arith
operand_few (Value t) = (words_few t).1

-- ---- expressions

converted_token : (c : Converted) → 1 ≤ converted_weight c
converted_token (Convert from to a) = some_token a

more_arguments_few : (cs : Arguments) → argument_words cs ≤ 3 * more_arguments_weight cs
more_arguments_few NoArguments = omega arith
more_arguments_few (MoreArguments c cs) = omega (arith, converted_few c, more_arguments_few cs)

arguments_words_few : (cs : Arguments) → argument_words cs ≤ 3 * arguments_weight cs
arguments_words_few NoArguments = omega arith
arguments_words_few (MoreArguments c cs) = omega (arith, converted_few c, converted_token c, more_arguments_few cs)

-- If other arguments come before an argument list, then the list has at most one comma more.
more_arguments_weight_few : (cs : Arguments) → more_arguments_weight cs ≤ 1 + arguments_weight cs
more_arguments_weight_few NoArguments = omega arith
more_arguments_weight_few (MoreArguments c cs) = omega arith

handle_few : (w : Placement) → handle_words w ≤ 3
handle_few OnHeap = omega arith
handle_few AsUnique = omega arith
handle_few (ByHandle a) = operand_few (type_of a)

placement_token : (w : Placement) → 1 ≤ placement_weight w
placement_token OnHeap = omega arith
placement_token AsUnique = omega arith
placement_token (ByHandle a) = omega arith

mutual
  expression_light : (a : Expression) → expression_need a ≤ 6 * expression_weight a
  expression_light (Number n) = omega arith
  expression_light (Copy l t) = omega (arith, (words_few t).1)
  expression_light (Call f cs t) = omega (arith, arguments_words_few cs, result_few t, arguments_light cs)
  expression_light (Unary unary.Widen a) = omega (arith, expression_light a)
  expression_light (Unary o a) = omega (arith, operand_few (type_of a), some_token a, expression_light a)
  expression_light (Binary a os t) = omega (arith, expression_light a, operations_light os t (operand_words (type_of a)) (operand_few (type_of a)))
  expression_light (Assign l c t) = omega (arith, converted_few c, result_few t, converted_token c, converted_light c)
  expression_light NullPointer = omega arith
  expression_light HeapRegion = omega arith
  expression_light (Counter l) = omega arith
  expression_light (Move p n t) = omega (arith, (words_few t).1)
  expression_light (Peek p n t) = omega (arith, (words_few t).1)
  expression_light (Load d) = dereference_light d (words_of (type_of_place d)) (words_few (type_of_place d)).1
  expression_light (AddressOf l t) = omega (arith, (words_few t).1)
  expression_light (AddressOfCell d t) = omega (arith, (words_few t).1, dereference_light d 3 (omega arith))
  expression_light (NumberOfElements a) = omega (arith, operand_few (type_of a), expression_light a)
  expression_light (FreeUnique a) = omega (arith, operand_few (type_of a), expression_light a)
  expression_light (FreeKey a) = omega (arith, operand_few (type_of a), expression_light a)
  expression_light (Store d c t) = omega (arith, converted_few c, result_few t, converted_token c, converted_light c, dereference_light d 3 (omega arith))
  expression_light (New w i t) = omega (arith, handle_light w, placement_token w, initial_light i (handle_words w) (words_of t) (handle_few w) (words_few t).1)

  dereference_light : (d : Dereference) (own : ℕ) → own ≤ 3 → dereference_need d own ≤ 6 * dereference_weight d
  dereference_light (Target k a t) own few = omega (arith, few, operand_few (type_of a), expression_light a)
  dereference_light (Member k a s f t) own few = omega (arith, few, operand_few (type_of a), expression_light a)
  dereference_light (Element a i t) own few = omega (arith, few, operand_few (type_of a), operand_few (type_of i), expression_light a, expression_light i)

  handle_light : (w : Placement) → handle_need w ≤ 6 * placement_weight w
  handle_light OnHeap = omega arith
  handle_light AsUnique = omega arith
  handle_light (ByHandle a) = omega (arith, expression_light a)

  initial_light : (i : Initial) (handle own : ℕ) → handle ≤ 3 → own ≤ 3 → initial_value_need i handle own ≤ 6 + 6 * initial_weight i
  initial_light (Plain k a) handle own small few = omega (arith, small, few, kind_few k, some_token a, expression_light a)
  initial_light (Fields cs) handle own small few = omega (arith, small, few, arguments_words_few cs, more_arguments_weight_few cs, more_light cs handle)
  initial_light (Array p l n k a) handle own small few = omega (arith, small, few, kind_few k, expression_light n, expression_light a)

  converted_light : (c : Converted) → converted_need c ≤ 6 * converted_weight c
  converted_light (Convert from to a) = expression_light a

  arguments_light : (cs : Arguments) → arguments_need cs 0 ≤ 6 * arguments_weight cs
  arguments_light NoArguments = omega arith
  arguments_light (MoreArguments c cs) = omega (arith, converted_few c, converted_token c, converted_light c, more_light cs (0 + converted_words c))

  more_light : (cs : Arguments) (before : ℕ) → arguments_need cs before ≤ before + 6 * more_arguments_weight cs
  more_light NoArguments before = omega arith
  more_light (MoreArguments c cs) before = omega (arith, converted_few c, converted_token c, converted_light c, more_light cs (before + converted_words c))

  operations_light : (os : Operations) (t : Ty) (left : ℕ) → left ≤ 3 → operations_need os t left ≤ 6 * operations_weight os
  operations_light NoOperations t left few = omega arith
  operations_light (ThenCompute o a os) t left few = omega (arith, operand_few (type_of a), (words_few t).1, some_token a, expression_light a, operations_light os t (words_of t) (words_few t).1)
  operations_light (ThenTest o a os) t left few = omega (arith, operand_few (type_of a), (words_few t).1, some_token a, expression_light a, operations_light os t (words_of t) (words_few t).1)
  operations_light (ThenPointer o a os) t left few = omega (arith, operand_few (type_of a), (words_few t).1, some_token a, expression_light a, operations_light os t (words_of t) (words_few t).1)
  operations_light (ThenPointerPeek n o a os) t left few = omega (arith, operand_few (type_of a), (words_few t).1, some_token a, expression_light a, operations_light os t (words_of t) (words_few t).1)

-- ---- statements

side_light : (s : Side) → side_need s ≤ 6 * side_weight s
side_light (VariableSide l t) = omega arith
side_light (CellSide d) = dereference_light d 3 (omega arith)

mutual
  statement_light : (s : Statement) → statement_need s ≤ 6 * statement_weight s
  statement_light (Block r js) = omega (arith, items_light js)
  statement_light Empty = omega arith
  statement_light (Evaluate a) = omega (arith, expression_light a)
  statement_light (If a s t) = omega (arith, expression_light a, statement_light s, statement_light t, else_written t)
  statement_light (While p a s) = omega (arith, expression_light a, statement_light s)
  statement_light (Return None) = omega arith
  statement_light (Return (Some c)) = omega (arith, converted_light c)
  statement_light Break = omega arith
  statement_light Continue = omega arith
  statement_light (Swap a b) = omega (arith, side_light a, side_light b)
  statement_light (Throw n None) = omega arith
  statement_light (Throw n (Some a)) = omega (arith, expression_light a)
  statement_light (Try s cs) = omega (arith, statement_light s, clauses_light cs)

  items_light : (js : Items) → items_need js ≤ 6 * items_weight js
  items_light NoItems = omega arith
  items_light (MoreItems (Execute s) js) = omega (arith, statement_light s, items_light js)
  items_light (MoreItems (Declare n t None) js) = omega (arith, items_light js)
  items_light (MoreItems (Declare n t (Some c)) js) = omega (arith, converted_light c, items_light js)
  items_light (MoreItems j js) = omega (arith, items_light js)

  clauses_light : (cs : Clauses) → clauses_need cs ≤ 6 * clauses_weight cs
  clauses_light NoClauses = omega arith
  clauses_light (Default r js) = omega (arith, items_light js)
  clauses_light (Case e n r js cs) = omega (arith, items_light js, clauses_light cs)

mutual
  statement_keeps_few : (s : Statement) → kept_by s ≤ 6 * statement_weight s
  statement_keeps_few (Block r js) = omega (arith, items_keep_few js)
  statement_keeps_few (If a s t) = omega (arith, statement_keeps_few s, statement_keeps_few t, else_written t)
  statement_keeps_few (While p a s) = omega (arith, statement_keeps_few s)
  statement_keeps_few (Try s cs) = omega (arith, statement_keeps_few s, clauses_keep_few cs)
  statement_keeps_few s = omega arith

  items_keep_few : (js : Items) → kept_by_items js ≤ 6 * items_weight js
  items_keep_few NoItems = omega arith
  items_keep_few (MoreItems (Execute s) js) = omega (arith, statement_keeps_few s, items_keep_few js)
  items_keep_few (MoreItems (DeclareRegion r n) js) = omega (arith, items_keep_few js)
  items_keep_few (MoreItems j js) = omega (arith, items_keep_few js)

  clauses_keep_few : (cs : Clauses) → kept_by_clauses cs ≤ 6 * clauses_weight cs
  clauses_keep_few NoClauses = omega arith
  clauses_keep_few (Default r js) = omega (arith, items_keep_few js)
  clauses_keep_few (Case e n r js cs) = omega (arith, items_keep_few js, clauses_keep_few cs)

-- ---- functions

pub words_of_types : (ts : List Ty) → (length ts ≤ words_of_all ts) × (words_of_all ts ≤ 3 * length ts)
words_of_types [] = (omega arith, omega arith)
words_of_types (t ∷ ts) = let w = words_few t in let r = words_of_types ts in (omega (arith, w.0, r.0), omega (arith, w.1, r.1))

pub small_frames : (p : Program) → IsWellTypedProgram p → program_weight p ≤ max_tokens → HaveFewWords p.functions
small_frames p well light n h at =
    let part : function_weight h ≤ program_weight p = function_of_program p n h at in
    let (own, locals) = function_outweighs p n h well at in
    omega (arith, part, own, locals, light, (words_of_types h.parameters).1, (words_of_types h.locals).1, items_light h.body, items_keep_few h.body)
