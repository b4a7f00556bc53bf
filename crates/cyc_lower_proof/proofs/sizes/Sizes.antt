-- The size of the code of a function is bounded by the number of tokens in the function's text. Reading a fat pointer through a fat
-- pointer is one token, and its code takes some eighty machine words.
use Rattle.cyc_types.specs.typing.Expressions.{type_of_side}
use Rattle.std.proofs.Common.{◌≡◌, ℕ, zero, suc, ◌+◌, ◌*◌, ◌≤◌, Bool, true, false, List, [], ◌∷◌, ◌++◌, ◌-◌, length, take, Option, None, Some, refl, arith, inl, inr}
use Rattle.std.specs.Prelude.{◌&&◌, is_some, if◌then◌else◌, ◌||◌, not}
use Rattle.cyc_words.proofs.Booleans.{and_left, and_right}
use Rattle.std.proofs.lemmas.Bool.{or_cases, and_parts}
use Rattle.cyc_types.specs.declared.typed.Kind.{Kind}
use Rattle.cyc_types.specs.declared.typed.Callee.TheVariants as callees
use Rattle.cyc_types.specs.declared.typed.UnaryOperator.TheVariants as unary
use Rattle.cyc_types.specs.declared.typed.Operator.{Operator}
use Rattle.cyc_types.specs.declared.typed.LogicalOperator.{LogicalOperator}
use Rattle.cyc_types.specs.declared.typed.LogicalOperator.TheVariants as logical
use Rattle.cyc_types.specs.TypedTrees.{Load, Lvalue, Local, Global, Expression, Number, Call, Unary, Binary, Assign, Converted, Convert, Operations, NoOperations, ThenCompute, ThenTest, ThenPointer, ThenPointerPeek, Statement, Block, Empty, Evaluate, If, While}
use Rattle.cyc_types.specs.TypedTrees.{Return, Break, Continue, Items, NoItems, MoreItems, Execute, Declare, StructType, Function, Store, Side, VariableSide, CellSide, Swap, Throw, Try, Clauses, NoClauses, Default, Case, DeclareRegion, OpenRegion, DeclareAlias}
use Rattle.cyc_types.specs.TypedTrees.{DeclareKey}
use Rattle.cyc_types.specs.Types.{Ty, words_of}
use Rattle.cyc_types.specs.Weight.{expression_weight, converted_weight, operations_weight, else_weight, statement_weight, items_weight, function_weight, side_weight, clauses_weight}
use Rattle.cyc_plain.specs.declared.instruction.Comparison.{Comparison}
use Rattle.cyc_plain.specs.declared.instruction.Operand.{Operand}
use Rattle.cyc_plain.specs.declared.instruction.Operand.TheVariants as operands
use Rattle.cyc_plain.specs.declared.instruction.Instruction.{Instruction}
use Rattle.cyc_plain.specs.declared.instruction.Instruction.TheVariants as instructions
use Rattle.cyc_plain.specs.inside.Program.{instruction_size, size}
use Rattle.cyc_lower_proof.specs.declared.exits.Exits.{Exits}
use Rattle.cyc_lower_proof.specs.inside.Slots.{slot_of, Starts, global_of}
use Rattle.cyc_meaning.specs.Values.{kind_of, words_of_kind}
use Rattle.cyc_lower_proof.proofs.slots.Widths.{kind_few, type_words}
use Rattle.cyc_lower_proof.specs.inside.ValueCode.{passed_words, move_of, code_unless, slot_or, code_unless_slot, conversion_code, failing_comparison, left_with, first_temporary, blocks, span_of, word_by_word, global_code, blank_code, kind_passed, tag_slot}
use Rattle.cyc_lower_proof.specs.inside.ObjectCode.{right_slot, saved_code, load_at}
use Rattle.cyc_lower_proof.specs.declared.condition.Condition.{Condition}
use Rattle.cyc_lower_proof.specs.inside.ControlCode.{compared_or, failing_jump, holding_jump, deciding_jump, are_tests, break_target, continue_target, body_target, outside_loops, inside_loop, leave_code, tag_operand, other_jump, clause_code, opened_code, closed_code}
use Rattle.cyc_lower_proof.specs.inside.ControlCode.{named_code, dynamic_code, kept_code, restored_code, after_record, inside_try, inside_region, entry_code, entry_length, is_nothing, over_code, over_length, null_compared, pointers_failing, nulled_or, turned_test}
use Rattle.cyc_lower_proof.specs.inside.ControlCode.{through_by, through_end, entered_code, breaks}
use Rattle.cyc_lower_proof.specs.inside.ExpressionCode.{source_of, operand_of, value_slot, value_operand, converted_operand, printed_operand, expression_code, converted_operand_code, printed_code, slot_with, brought_code, is_simple}
use Rattle.cyc_lower_proof.specs.inside.Lowering.{assignment_code, discarded_code, first_code, second_code, pair_code, condition_code, condition_of, others_code, tests_code, after_tests, choice_code, choice_of, branch_code, branch_of, return_code, declaration_code, blocks_kept}
use Rattle.cyc_lower_proof.specs.inside.Lowering.{statement_code, items_code, lower_function, store_address_code, side_code, read_side, write_side, exchange_code, swap_code, caught_code, clauses_code, starts_with, raises_of, farthest, is_guard, is_light, compares_light, goes_through}
use Rattle.cyc_meaning.specs.Sizes.{size_per_weight}
use Rattle.cyc_lower_proof.proofs.sizes.PieceSizes.{code_size, code_size-append, cons, taken_size, unless_size, unless_slot_size, conversion_size, move_size, brought_by_size, load_of_size, stores_size, saved_size, blank_size, closed_size, opened_size, leave_size, kept_size, restored_size}
use Rattle.cyc_lower_proof.proofs.sizes.ExpressionSizes.{loads_size, saves_size, global_size, expression_size, store_address_size, initial_size, converted_operand_size, printed_size, light_size}

module _ (starts : Starts) where
  assignment_size : (l : Lvalue) (c : Converted) (p t : ℕ) → code_size (assignment_code starts l c p t) ≤ size_per_weight * converted_weight c + 64
  assignment_size (Local w n) c p t = initial_size starts c p (slot_of starts n) t
  assignment_size (Global n) c p t =
      let front = converted_operand_code starts c p t in
      omega (arith, code_size-append front (global_code (passed_words c) (global_of starts n) (converted_operand starts c t)), converted_operand_size starts c p t, global_size starts c (global_of starts n) (converted_operand starts c t))

  discarded_size : (a : Expression) (p t : ℕ) → code_size (discarded_code starts a p t) ≤ size_per_weight * expression_weight a
  discarded_size (Call callees.Putchar cs ty) p t =
      omega (arith, code_size-append (printed_code starts cs p t) (instructions.WriteByte (printed_operand starts cs (operands.Slot t) t) ∷ []), printed_size starts cs p t)
  discarded_size (Assign l c ty) p t = omega (arith, assignment_size l c p t)
  discarded_size (Store x c ty) p t =
      let address = store_address_code starts x p t in
      let value = converted_operand_code starts c (p + length address) (t + 1) in
      let write = saved_code (kind_passed c) t (converted_operand starts c (t + 1)) in
      omega (arith, code_size-append address (value ++ write), code_size-append value write, saved_size (kind_passed c) t (converted_operand starts c (t + 1)), store_address_size starts x p t, converted_operand_size starts c (p + length address) (t + 1))
  discarded_size a p t = omega (arith, unless_size (operand_of starts a) (expression_code starts a p t t), expression_size starts a p t t)

  -- ---- statements

  first_size : (a b : Expression) (p t : ℕ) → code_size (first_code starts a b p t) ≤ size_per_weight * expression_weight a
  first_size a b p t =
      let slot = slot_with starts (is_simple starts b) a t in
      omega (arith, unless_size (left_with (is_simple starts b) (operand_of starts a)) (expression_code starts a p slot t), expression_size starts a p slot t)

  second_size : (b : Expression) (p t : ℕ) → code_size (second_code starts b p t) ≤ size_per_weight * expression_weight b
  second_size b p t = omega (arith, unless_size (operand_of starts b) (expression_code starts b p (value_slot starts b (suc t)) (suc t)), expression_size starts b p (value_slot starts b (suc t)) (suc t))

  -- The size of the code of a value that a condition compares with 0.
  alone_size : (a : Expression) (p t : ℕ) → code_size (pair_code starts a (Number 0) p t) ≤ size_per_weight * expression_weight a
  alone_size a p t = omega (arith, code_size-append (first_code starts a (Number 0) p t) [], first_size a (Number 0) p t)

  pair_size : (a b : Expression) (p t : ℕ) → code_size (pair_code starts a b p t) ≤ size_per_weight * expression_weight a + size_per_weight * expression_weight b
  pair_size a b p t =
      let front = first_code starts a b p t in
      let q = p + length front in
      omega (arith, code_size-append front (second_code starts b q t), first_size a b p t, second_size b q t)

  compared_size : (null beside : Option Comparison) (a b whole : Expression) (p t : ℕ) → expression_weight a + expression_weight b ≤ expression_weight whole
      → code_size (pair_code starts (nulled_or null beside a b whole).left (nulled_or null beside a b whole).right p t) ≤ size_per_weight * expression_weight whole
  compared_size (Some failing) beside a b whole p t less = omega (arith, alone_size a p t, less)
  compared_size None (Some failing) a b whole p t less = omega (arith, pair_size a b p t, less)
  compared_size None None a b whole p t less = alone_size whole p t

  condition_size : (a : Expression) (p t : ℕ) → code_size (condition_code starts a p t) ≤ size_per_weight * expression_weight a
  condition_size (Unary unary.Not a) p t = omega (arith, condition_size a p t)
  condition_size (Binary a (ThenCompute o b NoOperations) ty) p t = compared_size None (failing_comparison o) a b (Binary a (ThenCompute o b NoOperations) ty) p t (omega arith)
  condition_size (Binary a (ThenPointer o b NoOperations) ty) p t =
      compared_size (null_compared o b) (pointers_failing o) a b (Binary a (ThenPointer o b NoOperations) ty) p t (omega arith)
  condition_size (Binary a (ThenPointerPeek n o b NoOperations) ty) p t =
      compared_size (null_compared o b) (pointers_failing o) a b (Binary a (ThenPointerPeek n o b NoOperations) ty) p t (omega arith)
  condition_size a p t = alone_size a p t

  -- The size of the jumps of a chain of tests.
  deciding_size : (u : LogicalOperator) (c : Condition) (x : ℕ) → instruction_size (deciding_jump u c x) ≡ 11
  deciding_size logical.AndThen c x = refl
  deciding_size logical.OrElse c x = refl

  others_size : (u : LogicalOperator) (os : Operations) (c : Condition) (x p t : ℕ) → code_size (others_code starts u os c x p t) ≤ size_per_weight * operations_weight os
  others_size u NoOperations c x p t = omega arith
  others_size u (ThenTest o b os) c x p t =
      let jump = deciding_jump u c x in
      let operand = condition_code starts b (p + 1) t in
      let q = p + length (jump ∷ operand) in
      omega (arith, code_size-append (jump ∷ operand) (others_code starts u os (condition_of starts b t) x q t), cons jump operand, deciding_size u c x, condition_size b (p + 1) t, others_size u os (condition_of starts b t) x q t)
  others_size u (ThenCompute o b os) c x p t = omega (arith, others_size u os c x p t)
  others_size u (ThenPointer o b os) c x p t = omega (arith, others_size u os c x p t)
  others_size u (ThenPointerPeek n o b os) c x p t = omega (arith, others_size u os c x p t)

  choice_size : (u : LogicalOperator) (a : Expression) (p t : ℕ) → code_size (choice_code starts u a p t) ≤ size_per_weight * expression_weight a
  choice_size u (Unary unary.Not a) p t = omega (arith, choice_size (turned_test u) a p t)
  choice_size u (Binary a os ty) p t = by (are_tests u os)
    where
      by : (tests : Bool) → code_size (if tests then tests_code starts u a os (after_tests starts u a os p t) p t else condition_code starts (Binary a os ty) p t) ≤ size_per_weight * expression_weight (Binary a os ty)
      by true =
          let first = condition_code starts a p t in
          let rest = others_code starts u os (condition_of starts a t) (after_tests starts u a os p t) (p + length first) t in
          omega (arith, code_size-append first rest, condition_size a p t, others_size u os (condition_of starts a t) (after_tests starts u a os p t) (p + length first) t)
      by false = condition_size (Binary a os ty) p t
  choice_size u a p t = condition_size a p t

  branch_size : (u : LogicalOperator) (a : Expression) (x p t : ℕ) → code_size (branch_code starts u a x p t) ≤ size_per_weight * expression_weight a
  branch_size u (Unary unary.Not a) x p t = omega (arith, branch_size (turned_test u) a x p t)
  branch_size u (Binary a os ty) x p t = by (are_tests u os)
    where
      by : (tests : Bool) → code_size (if tests then tests_code starts u a os x p t else choice_code starts (turned_test u) (Binary a os ty) p t) ≤ size_per_weight * expression_weight (Binary a os ty)
      by true =
          let first = condition_code starts a p t in
          let rest = others_code starts u os (condition_of starts a t) x (p + length first) t in
          omega (arith, code_size-append first rest, condition_size a p t, others_size u os (condition_of starts a t) x (p + length first) t)
      by false = choice_size (turned_test u) (Binary a os ty) p t
  branch_size u a x p t = choice_size (turned_test u) a p t

  -- The code of a condition that may be emitted twice has at most half the bound of other conditions.
  light_first_size : (a b : Expression) (p t : ℕ) → is_light starts a ≡ true → code_size (first_code starts a b p t) ≤ 50 * expression_weight a
  light_first_size a b p t light =
      let slot = slot_with starts (is_simple starts b) a t in
      omega (arith, unless_size (left_with (is_simple starts b) (operand_of starts a)) (expression_code starts a p slot t), light_size starts a p slot t light)

  light_second_size : (b : Expression) (p t : ℕ) → is_light starts b ≡ true → code_size (second_code starts b p t) ≤ 50 * expression_weight b
  light_second_size b p t light =
      let inner = expression_code starts b p (value_slot starts b (suc t)) (suc t) in
      omega (arith, unless_size (operand_of starts b) inner, light_size starts b p (value_slot starts b (suc t)) (suc t) light)

  light_alone_size : (a : Expression) (p t : ℕ) → is_light starts a ≡ true → code_size (pair_code starts a (Number 0) p t) ≤ 50 * expression_weight a
  light_alone_size a p t light = omega (arith, code_size-append (first_code starts a (Number 0) p t) [], light_first_size a (Number 0) p t light)

  known_light : (a : Expression) → is_some (operand_of starts a) ≡ true → is_light starts a ≡ true
  known_light (Load x) some = absurd (let f : false ≡ true = some in cc)
  known_light (Binary a os ty) some = absurd (let f : false ≡ true = some in cc)
  known_light (Unary unary.Widen a) some = known_light a some
  known_light (Unary u a) some = absurd (let f : false ≡ true = some in cc)
  known_light a some = some

  simple_light : (a : Expression) → is_simple starts a ≡ true → is_light starts a ≡ true
  simple_light (Load x) simple = absurd (let f : false ≡ true = simple in cc)
  simple_light (Unary unary.Widen a) simple = known_light a simple
  simple_light a simple = simple

  compared_guard_size : (a b : Expression) (o : Operator) (ty : Ty) (f : Option Comparison) (p t : ℕ)
      → (is_simple starts (Binary a (ThenCompute o b NoOperations) ty) || (is_some f && (is_light starts a && is_light starts b))) ≡ true
      → code_size (pair_code starts (compared_or f a b (Binary a (ThenCompute o b NoOperations) ty)).left (compared_or f a b (Binary a (ThenCompute o b NoOperations) ty)).right p t) ≤ 50 * expression_weight (Binary a (ThenCompute o b NoOperations) ty)
  compared_guard_size a b o ty f p t guard = elim (or_cases (is_simple starts (Binary a (ThenCompute o b NoOperations) ty)) (is_some f && (is_light starts a && is_light starts b)) guard) [
    | inl simple ↦ by f (
      known_light b (and_left (is_some (operand_of starts b)) true (and_right (is_simple starts a) (is_some (operand_of starts b) && true) simple)),
      simple_light a (and_left (is_simple starts a) (is_some (operand_of starts b) && true) simple),
      simple,
    )
    | inr light ↦ of_lights f light
  ]
    where
      whole : Expression
      whole = Binary a (ThenCompute o b NoOperations) ty

      pair : is_light starts a ≡ true → is_light starts b ≡ true → code_size (pair_code starts a b p t) ≤ 50 * expression_weight whole
      pair first second =
          let front = first_code starts a b p t in
          let q = p + length front in
          omega (arith, code_size-append front (second_code starts b q t), light_first_size a b p t first, light_second_size b q t second)

      by : (f : Option Comparison) → (is_light starts b ≡ true) × (is_light starts a ≡ true) × (is_simple starts whole ≡ true) → code_size (pair_code starts (compared_or f a b whole).left (compared_or f a b whole).right p t) ≤ 50 * expression_weight whole
      by None (second, first, simple) = light_alone_size whole p t simple
      by (Some failing) (second, first, simple) = pair first second

      of_lights : (f : Option Comparison) → (is_some f && (is_light starts a && is_light starts b)) ≡ true → code_size (pair_code starts (compared_or f a b whole).left (compared_or f a b whole).right p t) ≤ 50 * expression_weight whole
      of_lights None light = absurd (let g : false ≡ true = light in cc)
      of_lights (Some failing) light = pair (and_left (is_light starts a) (is_light starts b) light) (and_right (is_light starts a) (is_light starts b) light)

  guard_size : (a : Expression) (p t : ℕ) → is_guard starts a ≡ true → code_size (condition_code starts a p t) ≤ 50 * expression_weight a
  guard_size (Unary unary.Not a) p t guard = omega (arith, guard_size a p t guard)
  guard_size (Binary a (ThenCompute o b NoOperations) ty) p t guard = compared_guard_size a b o ty (failing_comparison o) p t guard
  guard_size (Binary a (ThenPointer o b NoOperations) ty) p t guard = absurd (let f : false ≡ true = guard in cc)
  guard_size (Binary a (ThenPointerPeek n o b NoOperations) ty) p t guard = absurd (let f : false ≡ true = guard in cc)
  guard_size (Binary a os ty) p t guard = elim (or_cases (is_simple starts (Binary a os ty)) (compares_light starts a os) guard) [
    | inl simple ↦ light_alone_size (Binary a os ty) p t simple
    | inr light ↦ absurd (let f : false ≡ true = light in cc)
  ]
  guard_size a p t guard = light_alone_size a p t guard

  guard_choice_size : (u : LogicalOperator) (a : Expression) (p t : ℕ) → is_guard starts a ≡ true → code_size (choice_code starts u a p t) ≤ 50 * expression_weight a
  guard_choice_size u (Unary unary.Not a) p t guard = omega (arith, guard_choice_size (turned_test u) a p t guard)
  guard_choice_size u (Binary a (ThenCompute o b os) ty) p t guard = guard_size (Binary a (ThenCompute o b os) ty) p t guard
  guard_choice_size u (Binary a os ty) p t guard = absurd (let f : false ≡ true = guard in cc)
  guard_choice_size u a p t guard = guard_size a p t guard

  -- The size of the code that enters a loop, and of the loop's condition after its body.
  tested_loop_size : (guarded : Bool) (a : Expression) (p q t : ℕ) → is_guard starts a ≡ guarded
      → code_size (entry_code guarded (choice_code starts logical.AndThen a p t) (holding_jump (choice_of starts logical.AndThen a t)) q p) + code_size (choice_code starts logical.AndThen a q t) ≤ 11 + size_per_weight * expression_weight a
  tested_loop_size true a p q t guarded =
      let front = choice_code starts logical.AndThen a p t in
      omega (arith, code_size-append front (holding_jump (choice_of starts logical.AndThen a t) (p + length front + 1 + 1) ∷ []), guard_choice_size logical.AndThen a p t guarded, guard_choice_size logical.AndThen a q t guarded)
  tested_loop_size false a p q t guarded = omega (arith, choice_size logical.AndThen a q t)

  return_size : (v : Option Converted) (p : ℕ) (exits : Exits) (t : ℕ) → code_size (return_code starts v p exits t) ≤ size_per_weight * statement_weight (Return v)
  return_size None p exits t = omega (arith, code_size-append (leave_code exits.in_function) (instructions.Finish t ∷ []), leave_size exits.in_function)
  return_size (Some (Convert from to a)) p exits t =
      let known = source_of starts (Convert from to a) in
      let inner = brought_code starts (Convert from to a) p t t in
      let front = code_unless_slot known inner in
      let s = slot_or known t in
      let conversion = conversion_code starts from to (span_of a) (operands.Slot s) (p + length front) in
      omega (
        arith,
        code_size-append ((front ++ conversion) ++ leave_code exits.in_function) (instructions.Finish s ∷ []),
        code_size-append (front ++ conversion) (leave_code exits.in_function),
        code_size-append front conversion,
        unless_slot_size known inner,
        brought_by_size from to (operand_of starts a) (expression_code starts a p (value_slot starts a t) t) (expression_code starts a p t t) (value_operand starts a t) t (size_per_weight * expression_weight a) (expression_size starts a p (value_slot starts a t) t) (expression_size starts a p t t),
        conversion_size starts from to (span_of a) (operands.Slot s) (p + length front),
        leave_size exits.in_function,
      )

  throw_size : (n : ℕ) (v : Option Expression) (p : ℕ) (exits : Exits) (t : ℕ) → code_size (statement_code starts (Throw n v) p exits t) ≤ size_per_weight * statement_weight (Throw n v)
  throw_size n None p exits t = omega arith
  throw_size n (Some a) p exits t =
      let inner = expression_code starts a p (value_slot starts a t) t in
      omega (
        arith,
        code_size-append (code_unless (operand_of starts a) inner) (instructions.Throw (tag_operand n) (value_operand starts a t) ∷ []),
        unless_size (operand_of starts a) inner,
        expression_size starts a p (value_slot starts a t) t,
      )

  caught_size : (x : Option ℕ) (t : ℕ) → code_size (caught_code starts x t) ≤ 6
  caught_size None t = omega arith
  caught_size (Some n) t = omega arith

  over_size : (last : Bool) (target : ℕ) → code_size (over_code last target) ≤ 2
  over_size true target = omega arith
  over_size false target = omega arith

  else_size : (t : Statement) (p : ℕ) (exits : Exits) (d : ℕ) → code_size (statement_code starts t p exits d) ≤ size_per_weight * statement_weight t → code_size (statement_code starts t p exits d) ≤ size_per_weight * else_weight t (statement_weight t)
  else_size Empty p exits d bound = omega arith
  else_size t p exits d bound = omega (arith, bound)

  named_size : (ty : Ty) (n : ℕ) (o : Operand) → code_size (named_code starts (words_of ty) n o) ≤ 20
  named_size ty n o = move_size (words_of ty) (slot_of starts n) o (omega (arith, type_words ty, kind_few (kind_of ty)))

  -- The size of the code of one operand of a swap, and of the two instructions that read and write this operand.
  side_size : (a : Side) (p t : ℕ) → code_size (side_code starts a p t) ≤ size_per_weight * side_weight a
  side_size (VariableSide l ty) p t = omega arith
  side_size (CellSide x) p t = omega (arith, store_address_size starts x p t)

  words_size : (kind : Kind) (many address index slot : ℕ) → code_size (word_by_word (load_at kind address) many index slot) ≡ 10 * many
  words_size kind zero address index slot = refl
  words_size kind (suc many) address index slot =
      omega (
        arith,
        cons (load_at kind address index slot) (word_by_word (load_at kind address) many (suc index) (suc slot)),
        load_of_size kind slot (operands.Slot address) (4 * index),
        words_size kind many address (suc index) (suc slot),
      )

  read_size : (a : Side) (kind : Kind) (s d : ℕ) → code_size (read_side starts a kind s d) ≤ 30
  read_size (VariableSide (Local w n) ty) kind s d = omega (arith, move_size (words_of_kind kind) d (operands.Slot (slot_of starts n)) (kind_few kind))
  read_size (VariableSide (Global n) ty) kind s d = omega (arith, loads_size starts (words_of_kind kind) (global_of starts n) d, kind_few kind)
  read_size (CellSide x) kind s d = omega (arith, words_size kind (words_of_kind kind) s 0 d, kind_few kind)

  write_size : (a : Side) (kind : Kind) (s v : ℕ) → code_size (write_side starts a kind s v) ≤ 30
  write_size (VariableSide (Local w n) ty) kind s v = omega (arith, move_size (words_of_kind kind) (slot_of starts n) (operands.Slot v) (kind_few kind))
  write_size (VariableSide (Global n) ty) kind s v = omega (arith, saves_size starts (words_of_kind kind) (global_of starts n) v, kind_few kind)
  write_size (CellSide x) kind s v = omega (arith, stores_size kind (words_of_kind kind) s 0 v, kind_few kind)

  swap_size : (x y : Side) (p t : ℕ) → code_size (swap_code starts x y p t) ≤ size_per_weight * (2 + side_weight x + side_weight y)
  swap_size x y p t =
      let kind = kind_of (type_of_side x) in
      let words = words_of_kind kind in
      let front = side_code starts x p t in
      let middle = side_code starts y (p + length front) (right_slot x t) in
      let back = exchange_code starts kind x y t in
      let first = read_side starts x kind t (t + 2) in
      let second = read_side starts y kind (right_slot x t) (t + 2 + words) in
      let third = write_side starts x kind t (t + 2 + words) in
      let fourth = write_side starts y kind (right_slot x t) (t + 2) in
      omega (
        arith,
        code_size-append front (middle ++ back),
        code_size-append middle back,
        code_size-append first (second ++ (third ++ fourth)),
        code_size-append second (third ++ fourth),
        code_size-append third fourth,
        side_size x p t,
        side_size y (p + length front) (right_slot x t),
        read_size x kind t (t + 2),
        read_size y kind (right_slot x t) (t + 2 + words),
        write_size x kind t (t + 2 + words),
        write_size y kind (right_slot x t) (t + 2),
      )

  either_size : (chosen : Bool) (x y : List Instruction) (most : ℕ) → (chosen ≡ true → code_size x ≤ most) → code_size y ≤ most → code_size (if chosen then x else y) ≤ most
  either_size true x y most first second = first refl
  either_size false x y most first second = second

  mutual
    statement_size : (s : Statement) (p : ℕ) (exits : Exits) (d : ℕ) → code_size (statement_code starts s p exits d) ≤ size_per_weight * statement_weight s
    statement_size (Block r js) p exits d = omega (arith, items_size js p exits d)
    statement_size Empty p exits d = omega arith
    statement_size (Evaluate a) p exits t = omega (arith, discarded_size a p t)
    statement_size (Swap x y) p exits t = swap_size x y p t
    statement_size (If a s u) p exits t =
        let m = p + length (branch_code starts logical.AndThen a 0 p t) in
        let first = statement_code starts s (m + 1) exits t in
        let last = is_nothing u in
        let r = m + 1 + length first + over_length last in
        let condition = branch_code starts logical.AndThen a r p t in
        let second = statement_code starts u r exits t in
        let jump_first = failing_jump (branch_of starts logical.AndThen a t) r ∷ first in
        let over = over_code last (r + length second) in
        omega (
          arith,
          code_size-append (condition ++ jump_first) (over ++ second),
          code_size-append condition jump_first,
          code_size-append over second,
          over_size last (r + length second),
          cons (failing_jump (branch_of starts logical.AndThen a t) r) first,
          branch_size logical.AndThen a r p t,
          statement_size s (m + 1) exits t,
          else_size u r exits t (statement_size u r exits t),
        )
    statement_size (While w a s) p exits t =
        let front = choice_code starts logical.OrElse a p t in
        let x = p + length front + 1 in
        let inside = statement_code starts s x (inside_loop p p exits) t in
        let again = choice_code starts logical.AndThen a (x + length inside) t in
        let end = through_end front inside again p in
        let leave = failing_jump (choice_of starts logical.OrElse a t) end in
        let tail = holding_jump (choice_of starts logical.AndThen a t) x ∷ instructions.Jump (end + 1) ∷ [] in
        let guarded = is_guard starts a in
        let l = p + entry_length guarded (choice_code starts logical.AndThen a p t) in
        let body = statement_code starts s (body_target l) (inside_loop p l exits) t in
        let m = body_target l + length body in
        let condition = choice_code starts logical.AndThen a m t in
        let entry = entry_code guarded (choice_code starts logical.AndThen a p t) (holding_jump (choice_of starts logical.AndThen a t)) m p in
        let test = holding_jump (choice_of starts logical.AndThen a t) (body_target l) ∷ [] in
        let rest = (body ++ condition) ++ test in
        let exit = instructions.Jump (m + length condition + 1) in
        either_size (goes_through starts a s)
        (through_by front (failing_jump (choice_of starts logical.OrElse a t)) inside again (holding_jump (choice_of starts logical.AndThen a t) x) p)
        (entered_code guarded (λ n. choice_code starts logical.AndThen a n t) body (holding_jump (choice_of starts logical.AndThen a t)) p l)
        (size_per_weight * statement_weight (While w a s))
        (λ goes. omega (
          arith,
          code_size-append front (leave ∷ ((inside ++ again) ++ tail)),
          cons leave ((inside ++ again) ++ tail),
          code_size-append (inside ++ again) tail,
          code_size-append inside again,
          guard_choice_size logical.OrElse a p t (and_parts guarded (not (breaks s)) goes).0,
          guard_choice_size logical.AndThen a (x + length inside) t (and_parts guarded (not (breaks s)) goes).0,
          statement_size s x (inside_loop p p exits) t,
        ))
        (omega (
          arith,
          code_size-append entry (exit ∷ rest),
          cons exit rest,
          code_size-append (body ++ condition) test,
          code_size-append body condition,
          tested_loop_size guarded a p m t refl,
          statement_size s (body_target l) (inside_loop p l exits) t,
        ))
    statement_size (Return v) p exits d = return_size v p exits d
    statement_size Break p exits d = omega (arith, code_size-append (leave_code exits.in_loop) (instructions.Jump (break_target exits) ∷ []), leave_size exits.in_loop)
    statement_size Continue p exits d = omega (arith, code_size-append (leave_code exits.in_loop) (instructions.Jump (continue_target exits) ∷ []), leave_size exits.in_loop)
    statement_size (Throw n v) p exits d = throw_size n v p exits d
    statement_size (Try s cs) p exits t =
        let kept = kept_code starts t in
        let m = p + length kept in
        let body = statement_code starts s (m + 1) (inside_try exits t) (after_record starts t) in
        let close = instructions.Leave t ∷ [] in
        let out = m + 1 + length (body ++ close) in
        let restored = restored_code starts t in
        let clauses = clauses_code starts cs (out + 1 + length restored) out exits t in
        let over = instructions.Jump (out + 1 + length (restored ++ clauses)) in
        let begin = instructions.Try t (out + 1) in
        omega (
          arith,
          code_size-append kept (begin ∷ ((body ++ close) ++ over ∷ (restored ++ clauses))),
          cons begin ((body ++ close) ++ over ∷ (restored ++ clauses)),
          code_size-append (body ++ close) (over ∷ (restored ++ clauses)),
          code_size-append body close,
          cons over (restored ++ clauses),
          code_size-append restored clauses,
          kept_size starts.scopes t,
          restored_size starts.scopes t,
          statement_size s (m + 1) (inside_try exits t) (after_record starts t),
          clauses_size cs (out + 1 + length restored) out exits t,
        )

    items_size : (js : Items) (p : ℕ) (exits : Exits) (d : ℕ) → code_size (items_code starts js p exits d) ≤ size_per_weight * items_weight js
    items_size NoItems p exits d = omega arith
    items_size (MoreItems (Execute s) js) p exits d =
        let q = p + length (statement_code starts s p exits d) in
        omega (arith, code_size-append (statement_code starts s p exits d) (items_code starts js q exits d), statement_size s p exits d, items_size js q exits d)
    items_size (MoreItems (Declare n t None) js) p exits d =
        let front = blank_code (kind_of t) (slot_of starts n) in
        let q = p + length front in
        omega (arith, code_size-append front (items_code starts js q exits d), blank_size (kind_of t) (slot_of starts n), items_size js q exits d)
    items_size (MoreItems (Declare n t (Some c)) js) p exits d =
        let front = declaration_code starts n t (Some c) p d in
        let q = p + length front in
        omega (arith, code_size-append front (items_code starts js q exits d), initial_size starts c p (slot_of starts n) d, items_size js q exits d)
    items_size (MoreItems (DeclareRegion r n) js) p exits t =
        let front = opened_code starts n t in
        let inner = items_code starts js (p + length front) (inside_region exits t) (t + 1) in
        omega (arith, code_size-append front (inner ++ closed_code t), code_size-append inner (closed_code t), opened_size starts n t, closed_size t, items_size js (p + length front) (inside_region exits t) (t + 1))
    items_size (MoreItems (OpenRegion r n w k) js) p exits t =
        omega (arith, cons (move_of 1 (slot_of starts n) (operands.Slot (slot_of starts k))) (items_code starts js (p + 1) exits t), items_size js (p + 1) exits t)
    items_size (MoreItems (DeclareAlias r n ty w m) js) p exits t =
        let name = named_code starts (words_of ty) n (operands.Slot (slot_of starts m)) in
        omega (arith, code_size-append name (items_code starts js (p + 1) exits t), named_size ty n (operands.Slot (slot_of starts m)), items_size js (p + 1) exits t)
    items_size (MoreItems (DeclareKey r n) js) p exits t =
        let front = dynamic_code starts n t in
        omega (arith, code_size-append front (items_code starts js (p + length front) exits t), items_size js (p + length front) exits t)

    -- If no catch clause of a `try` catches an exception, then the code of the clauses throws this exception again.
    clauses_size : (cs : Clauses) (p out : ℕ) (exits : Exits) (t : ℕ) → code_size (clauses_code starts cs p out exits t) ≤ 24 + size_per_weight * clauses_weight cs
    clauses_size NoClauses p out exits t = omega arith
    clauses_size (Default r js) p out exits t = omega (arith, items_size js p exits t)
    clauses_size (Case n x r js cs) p out exits t =
        let caught = caught_code starts x t in
        let items = items_code starts js (p + 1 + length caught) exits t in
        let jump = instructions.Jump out ∷ [] in
        let clause = clause_code n t (caught ++ items) p out in
        let next = p + length clause in
        omega (
          arith,
          code_size-append clause (clauses_code starts cs next out exits t),
          cons (other_jump n t (p + 1 + length (caught ++ items) + 1)) ((caught ++ items) ++ jump),
          code_size-append (caught ++ items) jump,
          code_size-append caught items,
          caught_size x t,
          items_size js (p + 1 + length caught) exits t,
          clauses_size cs next out exits t,
        )

pub function_size : (structs : List StructType) (globals : List ℕ) (scopes : Option ℕ) (h : Function) → size (lower_function structs globals scopes h) ≤ size_per_weight * function_weight h
function_size structs globals scopes h =
    let d = first_temporary h in
    let starts = starts_with (raises_of structs globals scopes h) structs globals scopes h in
    let body = items_code starts h.body 0 outside_loops d in
    let end = tag_slot h in
    let kept = blocks_kept (farthest body - raises_of structs globals scopes h) in
    let some = take kept (blocks end) in
    omega (arith, code_size-append body (instructions.Finish end ∷ some), cons (instructions.Finish end) some, taken_size kept (blocks end), items_size starts h.body 0 outside_loops d)
