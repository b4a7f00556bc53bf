-- A lowered program contains only 32-bit words if its source program does.
use Rattle.cyc_types.specs.typing.Expressions.{type_of_side}
use Rattle.std.proofs.Common.{◌≡◌, ℕ, zero, suc, ◌+◌, ◌*◌, ◌≤◌, Bool, true, false, List, [], ◌∷◌, ◌++◌, length, map, take, Option, None, Some, All, refl, arith, ◌-◌}
use Rattle.std.specs.List.{AllByRecursion}
use Rattle.cyc_words.specs.Word.{IsWord}
use Rattle.cyc_types.specs.declared.typed.Kind.{Kind}
use Rattle.cyc_types.specs.declared.typed.Callee.TheVariants as callees
use Rattle.cyc_types.specs.declared.typed.UnaryOperator.TheVariants as unary
use Rattle.cyc_types.specs.declared.typed.LogicalOperator.{LogicalOperator}
use Rattle.cyc_types.specs.declared.typed.LogicalOperator.TheVariants as logical
use Rattle.cyc_types.specs.TypedTrees.{Lvalue, Local, Global, Expression, Call, Unary, Binary, Assign, Converted, Convert, Operations, NoOperations, ThenCompute, ThenTest, ThenPointer, Statement, Block}
use Rattle.cyc_types.specs.TypedTrees.{Empty, Evaluate, If, While, Return, Break, Continue, Items, NoItems, MoreItems, Execute, Declare, Constant, Word, Null, GlobalVariable, StructType, Function, Program}
use Rattle.cyc_types.specs.TypedTrees.{ThenPointerPeek, Store, Side, VariableSide, CellSide, Swap, Throw, Try, Clauses, NoClauses, Default, Case, DeclareRegion, OpenRegion, DeclareAlias, DeclareKey}
use Rattle.cyc_plain.specs.declared.instruction.Comparison.{Comparison}
use Rattle.cyc_plain.specs.declared.instruction.Operand.{Operand}
use Rattle.cyc_plain.specs.declared.instruction.Operand.TheVariants as operands
use Rattle.cyc_plain.specs.declared.instruction.Instruction.{Instruction}
use Rattle.cyc_plain.specs.declared.instruction.Instruction.TheVariants as instructions
use Rattle.cyc_plain.specs.inside.Program.{routine_at, no_routine}
use Rattle.cyc_plain.specs.inside.Uniform.{AsksNoRoom}
use Rattle.cyc_plain.proofs.Steps.{function_known}
use Rattle.cyc_plain.specs.inside.WellFormed.{IsOfWord, HasWord, HasWords, is_return}
use Rattle.cyc_lower_proof.specs.inside.Words.{IsOfWords, IsOfWordsConverted, AreOfWordsOperations, IsOfWordsInitial, IsOfWordsStatement, AreOfWordsItems, IsOfWordsConstant, AreOfWordsGlobals, AreOfWordsFunctions, IsOfWordsProgram, IsOfWordsSide, IsOfWordsThrown, AreOfWordsClauses}
use Rattle.cyc_plain.specs.declared.limits.TheConstants.{RECORD_WORDS}
use Rattle.cyc_lower_proof.specs.declared.exits.Exits.{Exits}
use Rattle.cyc_lower_proof.specs.inside.Slots.{slot_of, Starts, global_of}
use Rattle.std.specs.Prelude.{if◌then◌else◌, replicate}
use Rattle.std.proofs.lemmas.List.Elements.{All-from_recursion}
use Rattle.cyc_words.proofs.Members.{All_at, all_weaker}
use Rattle.cyc_types.specs.Types.{words_of, Ty}
use Rattle.cyc_meaning.specs.Values.{words_of_kind, kind_of}
use Rattle.cyc_lower_proof.specs.inside.ValueCode.{passed_words, code_unless, slot_or, code_unless_slot, left_with, conversion_code, failing_comparison, first_temporary, blocks, span_of, word_by_word, kind_passed, masks, tag_slot}
use Rattle.cyc_lower_proof.specs.inside.ObjectCode.{right_slot, load_at}
use Rattle.cyc_lower_proof.specs.declared.condition.Condition.{Condition}
use Rattle.cyc_lower_proof.specs.inside.ControlCode.{compared_of, deciding_jump, are_tests, outside_loops, inside_loop, leave_code, clause_code, opened_code, closed_code, named_code, dynamic_code, handlers_code, marks_code, kept_code, kept_code_in, restored_code}
use Rattle.cyc_lower_proof.specs.inside.ControlCode.{restored_code_in, after_record, inside_try, inside_region, body_target, entry_code, entry_length, holding_jump, is_nothing, over_code, other_place, null_compared, pointers_failing, nulled_or, turned_test, through_by, failing_jump, entered_code}
use Rattle.cyc_lower_proof.specs.inside.ExpressionCode.{source_of, operand_of, value_slot, value_operand, converted_operand, expression_code, converted_operand_code, printed_code, slot_with, brought_code, is_simple}
use Rattle.cyc_lower_proof.specs.inside.Lowering.{assignment_code, discarded_code, first_code, second_code, pair_code, condition_code, condition_of, others_code, last_condition, tests_code, after_tests, choice_code, choice_of, goes_through}
use Rattle.cyc_lower_proof.specs.inside.Lowering.{branch_code, branch_of, return_code, declaration_code, statement_code, items_code, initial_word, lower_function, lower_program, store_address_code, caught_code, clauses_code, blocks_kept}
use Rattle.cyc_lower_proof.specs.inside.Lowering.{function_code, side_code, read_side, write_side, exchange_code, swap_code, globals_of, lower_globals, starts_with, raises_of, scopes_of, body_code, farthest, with_blocks, is_guard}
use Rattle.cyc_lower_proof.proofs.slots.Widths.{kind_few}
use Rattle.cyc_lower_proof.specs.declared.exits.Opened.{Opened}
use Rattle.cyc_lower_proof.proofs.sizes.PieceWords.{IsMade, made_word, made_no_return, HaveWords, append, unless_words, unless_slot_words, conversion_words, taken_words, blocks_words, move_words, brought_by_words, load_word_of, stores_words, saved_words, blank_words}
use Rattle.cyc_lower_proof.proofs.sizes.ExpressionWords.{known_word, converted_word, printed_word, left_with_word, loads_words, global_words, expression_words, address_of_words, initial_words, converted_operand_words, printed_words}

module _ (starts : Starts) where
  assignment_words : (l : Lvalue) (c : Converted) (p t : ℕ) → IsOfWordsConverted c → HaveWords (assignment_code starts l c p t)
  assignment_words (Local w n) c p t words = initial_words starts c p (slot_of starts n) t words
  assignment_words (Global n) c p t words = append (converted_operand_code starts c p t) _ (converted_operand_words starts c p t words) (global_words starts (passed_words c) (global_of starts n) (converted_operand starts c t) (converted_word starts c t words))

  discarded_words : (a : Expression) (p t : ℕ) → IsOfWords a → HaveWords (discarded_code starts a p t)
  discarded_words (Call callees.Putchar cs ty) p t words = append (printed_code starts cs p t) _ (printed_words starts cs p t words) (printed_word starts cs (operands.Slot t) t words tt, tt)
  discarded_words (Assign l c ty) p t words = assignment_words l c p t words
  discarded_words (Store x c ty) p t (first, second) =
      let address = store_address_code starts x p t in
      let value = converted_operand_code starts c (p + length address) (t + 1) in
      append address _ (address_of_words starts x p t t first) (append value _ (converted_operand_words starts c (p + length address) (t + 1) second) (saved_words (kind_passed c) t (converted_operand starts c (t + 1)) (converted_word starts c (t + 1) second)))
  discarded_words a p t words = unless_words (operand_of starts a) (expression_code starts a p t t) (expression_words starts a p t t words)

  -- ---- statements

  -- The compared operands of a condition contain only 32-bit words if the condition's expressions do.
  sides_words : (null beside : Option Comparison) (a b whole : Expression) → IsOfWords a → IsOfWords b → IsOfWords whole
      → IsOfWords (nulled_or null beside a b whole).left × IsOfWords (nulled_or null beside a b whole).right
  sides_words (Some failing) beside a b whole first second all = (first, omega arith)
  sides_words None (Some failing) a b whole first second all = (first, second)
  sides_words None None a b whole first second all = (all, omega arith)

  compared_words : (a : Expression) → IsOfWords a → IsOfWords (compared_of a).left × IsOfWords (compared_of a).right
  compared_words (Unary unary.Not a) words = compared_words a words
  compared_words (Binary a (ThenCompute o b NoOperations) ty) (first, (second, none)) =
      sides_words None (failing_comparison o) a b (Binary a (ThenCompute o b NoOperations) ty) first second (first, (second, none))
  compared_words (Binary a (ThenPointer o b NoOperations) ty) (first, (alone, second, none)) =
      sides_words (null_compared o b) (pointers_failing o) a b (Binary a (ThenPointer o b NoOperations) ty) first second (first, (alone, second, none))
  compared_words (Binary a (ThenPointerPeek n o b NoOperations) ty) (first, (alone, second, none)) =
      sides_words (null_compared o b) (pointers_failing o) a b (Binary a (ThenPointerPeek n o b NoOperations) ty) first second (first, (alone, second, none))
  compared_words a words = (words, omega arith)

  -- two compared operands
  pair_words : (a b : Expression) (p t : ℕ) → IsOfWords a → IsOfWords b → HaveWords (pair_code starts a b p t)
  pair_words a b p t first second =
      let slot = slot_with starts (is_simple starts b) a t in
      let front = first_code starts a b p t in
      let q = p + length front in
      append front (second_code starts b q t) (unless_words (left_with (is_simple starts b) (operand_of starts a)) (expression_code starts a p slot t) (expression_words starts a p slot t first))
      (unless_words (operand_of starts b) (expression_code starts b q (value_slot starts b (suc t)) (suc t)) (expression_words starts b q (value_slot starts b (suc t)) (suc t) second))

  condition_words : (a : Expression) (p t : ℕ) → IsOfWords a → HaveWords (condition_code starts a p t)
  condition_words a p t words =
      let (first, second) = compared_words a words in
      pair_words (compared_of a).left (compared_of a).right p t first second

  condition_word : (a : Expression) (t : ℕ) → IsOfWords a → IsOfWord (condition_of starts a t).left × IsOfWord (condition_of starts a t).right
  condition_word a t words =
      let (first, second) = compared_words a words in
      let left = (compared_of a).left in
      let right = (compared_of a).right in
      (left_with_word starts (is_simple starts right) left (slot_with starts (is_simple starts right) left t) first, known_word starts right (value_slot starts right (suc t)) second)

  -- The jumps of a chain of tests contain only 32-bit words if the operands of the tests do.
  deciding_words : (u : LogicalOperator) (c : Condition) (x : ℕ) → IsOfWord c.left × IsOfWord c.right → IsMade (deciding_jump u c x)
  deciding_words logical.AndThen c x words = words
  deciding_words logical.OrElse c x words = words

  others_words : (u : LogicalOperator) (os : Operations) (c : Condition) (x p t : ℕ) → IsOfWord c.left × IsOfWord c.right → AreOfWordsOperations os → HaveWords (others_code starts u os c x p t)
  others_words u NoOperations c x p t words all = tt
  others_words u (ThenTest o b os) c x p t words (first, all) =
      append (deciding_jump u c x ∷ condition_code starts b (p + 1) t) _ (deciding_words u c x words, condition_words b (p + 1) t first) (others_words u os (condition_of starts b t) x _ t (condition_word b t first) all)
  others_words u (ThenCompute o b os) c x p t words (first, all) = others_words u os c x p t words all
  others_words u (ThenPointer o b os) c x p t words (alone, first, all) = others_words u os c x p t words all
  others_words u (ThenPointerPeek n o b os) c x p t words (alone, first, all) = others_words u os c x p t words all

  last_word : (os : Operations) (c : Condition) (t : ℕ) → IsOfWord c.left × IsOfWord c.right → AreOfWordsOperations os → IsOfWord (last_condition starts os c t).left × IsOfWord (last_condition starts os c t).right
  last_word NoOperations c t words all = words
  last_word (ThenTest o b os) c t words (first, all) = last_word os (condition_of starts b t) t (condition_word b t first) all
  last_word (ThenCompute o b os) c t words (first, all) = last_word os c t words all
  last_word (ThenPointer o b os) c t words (alone, first, all) = last_word os c t words all
  last_word (ThenPointerPeek n o b os) c t words (alone, first, all) = last_word os c t words all

  choice_words : (u : LogicalOperator) (a : Expression) (p t : ℕ) → IsOfWords a → HaveWords (choice_code starts u a p t)
  choice_words u (Unary unary.Not a) p t words = choice_words (turned_test u) a p t words
  choice_words u (Binary a os ty) p t (first, all) = by (are_tests u os)
    where
      by : (tests : Bool) → HaveWords (if tests then tests_code starts u a os (after_tests starts u a os p t) p t else condition_code starts (Binary a os ty) p t)
      by true = append (condition_code starts a p t) _ (condition_words a p t first) (others_words u os (condition_of starts a t) (after_tests starts u a os p t) _ t (condition_word a t first) all)
      by false = condition_words (Binary a os ty) p t (first, all)
  choice_words u a p t words = condition_words a p t words

  choice_word : (u : LogicalOperator) (a : Expression) (t : ℕ) → IsOfWords a → IsOfWord (choice_of starts u a t).left × IsOfWord (choice_of starts u a t).right
  choice_word u (Unary unary.Not a) t words = choice_word (turned_test u) a t words
  choice_word u (Binary a os ty) t (first, all) = by (are_tests u os)
    where
      by : (tests : Bool) → IsOfWord (if tests then last_condition starts os (condition_of starts a t) t else condition_of starts (Binary a os ty) t).left
          × IsOfWord (if tests then last_condition starts os (condition_of starts a t) t else condition_of starts (Binary a os ty) t).right
      by true = last_word os (condition_of starts a t) t (condition_word a t first) all
      by false = condition_word (Binary a os ty) t (first, all)
  choice_word u a t words = condition_word a t words

  branch_words : (u : LogicalOperator) (a : Expression) (x p t : ℕ) → IsOfWords a → HaveWords (branch_code starts u a x p t)
  branch_words u (Unary unary.Not a) x p t words = branch_words (turned_test u) a x p t words
  branch_words u (Binary a os ty) x p t (first, all) = by (are_tests u os)
    where
      by : (tests : Bool) → HaveWords (if tests then tests_code starts u a os x p t else choice_code starts (turned_test u) (Binary a os ty) p t)
      by true = append (condition_code starts a p t) _ (condition_words a p t first) (others_words u os (condition_of starts a t) x _ t (condition_word a t first) all)
      by false = choice_words (turned_test u) (Binary a os ty) p t (first, all)
  branch_words u a x p t words = choice_words (turned_test u) a p t words

  branch_word : (u : LogicalOperator) (a : Expression) (t : ℕ) → IsOfWords a → IsOfWord (branch_of starts u a t).left × IsOfWord (branch_of starts u a t).right
  branch_word u (Unary unary.Not a) t words = branch_word (turned_test u) a t words
  branch_word u (Binary a os ty) t (first, all) = by (are_tests u os)
    where
      by : (tests : Bool) → IsOfWord (if tests then last_condition starts os (condition_of starts a t) t else choice_of starts (turned_test u) (Binary a os ty) t).left
          × IsOfWord (if tests then last_condition starts os (condition_of starts a t) t else choice_of starts (turned_test u) (Binary a os ty) t).right
      by true = last_word os (condition_of starts a t) t (condition_word a t first) all
      by false = choice_word (turned_test u) (Binary a os ty) t (first, all)
  branch_word u a t words = choice_word (turned_test u) a t words

  -- ---- regions

  named_words : (words n : ℕ) (o : Operand) → IsOfWord o → HaveWords (named_code starts words n o)
  named_words words n o word = move_words words (slot_of starts n) o word

  opened_words : (n t : ℕ) → HaveWords (opened_code starts n t)
  opened_words n t =
      ((tt, tt), (tt, named_words 1 n (operands.Slot (t + 1)) tt))

  closed_words : (m : ℕ) → HaveWords (closed_code m)
  closed_words m = ((tt, tt), tt)

  dynamic_words : (n t : ℕ) → HaveWords (dynamic_code starts n t)
  dynamic_words n t = ((tt, tt), named_words 1 n (operands.Slot t) tt)

  -- ---- exits

  handlers_words : (record_at : Option ℕ) → HaveWords (handlers_code record_at)
  handlers_words None = tt
  handlers_words (Some first) = (tt, tt)

  marks_words : (mark : Option ℕ) → HaveWords (marks_code mark)
  marks_words None = tt
  marks_words (Some m) = closed_words m

  leave_words : (opened : Opened) → HaveWords (leave_code opened)
  leave_words opened = append (handlers_code opened.handler) (marks_code opened.mark) (handlers_words opened.handler) (marks_words opened.mark)

  kept_words : (scopes : Option ℕ) (t : ℕ) → HaveWords (kept_code_in scopes t)
  kept_words None t = tt
  kept_words (Some place) t = (tt, tt)

  restored_words : (scopes : Option ℕ) (t : ℕ) → HaveWords (restored_code_in scopes t)
  restored_words None t = tt
  restored_words (Some place) t = closed_words (t + RECORD_WORDS)

  return_words : (v : Option Converted) (p : ℕ) (exits : Exits) (t : ℕ) → IsOfWordsInitial v → HaveWords (return_code starts v p exits t)
  return_words None p exits t words = append (leave_code exits.in_function) _ (leave_words exits.in_function) (tt, tt)
  return_words (Some (Convert from to a)) p exits t words =
      let known = source_of starts (Convert from to a) in
      let inner = brought_code starts (Convert from to a) p t t in
      let front = code_unless_slot known inner in
      let s = slot_or known t in
      let conversion = conversion_code starts from to (span_of a) (operands.Slot s) (p + length front) in
      append ((front ++ conversion) ++ leave_code exits.in_function) _
      (append (front ++ conversion) (leave_code exits.in_function)
      (append front conversion (unless_slot_words known inner (brought_by_words (masks from to) (operand_of starts a) (expression_code starts a p (value_slot starts a t) t) (expression_code starts a p t t) (value_operand starts a t) t (expression_words starts a p (value_slot starts a t) t words) (expression_words starts a p t t words) (known_word starts a (value_slot starts a t) words))) (conversion_words starts from to (span_of a) (operands.Slot s) (p + length front) tt)) (leave_words exits.in_function))
      (tt, tt)

  declaration_words : (n : ℕ) (ty : Ty) (v : Option Converted) (p t : ℕ) → IsOfWordsInitial v → HaveWords (declaration_code starts n ty v p t)
  declaration_words n ty None p t words = blank_words (kind_of ty) (slot_of starts n)
  declaration_words n ty (Some c) p t words = initial_words starts c p (slot_of starts n) t words

  side_words : (a : Side) (p t : ℕ) → IsOfWordsSide a → HaveWords (side_code starts a p t)
  side_words (VariableSide l ty) p t words = tt
  side_words (CellSide x) p t words = address_of_words starts x p t t words

  read_words : (a : Side) (kind : Kind) (s d : ℕ) → HaveWords (read_side starts a kind s d)
  read_words (VariableSide (Local w n) ty) kind s d = move_words (words_of_kind kind) d (operands.Slot (slot_of starts n)) tt
  read_words (VariableSide (Global n) ty) kind s d = loads_words starts (words_of_kind kind) (global_of starts n) d
  read_words (CellSide x) kind s d = words_words (words_of_kind kind) s 0 d (omega (arith, kind_few kind))
    where
      words_words : (many address index slot : ℕ) → index + many ≤ 3 → HaveWords (word_by_word (load_at kind address) many index slot)
      words_words zero address index slot few = tt
      words_words (suc many) address index slot few =
          (load_word_of kind slot (operands.Slot address) (4 * index) tt (omega (arith, few)), words_words many address (suc index) (suc slot) (omega (arith, few)))

  write_words : (a : Side) (kind : Kind) (s v : ℕ) → HaveWords (write_side starts a kind s v)
  write_words (VariableSide (Local w n) ty) kind s v = move_words (words_of_kind kind) (slot_of starts n) (operands.Slot v) tt
  write_words (VariableSide (Global n) ty) kind s v = global_words starts (words_of_kind kind) (global_of starts n) (operands.Slot v) tt
  write_words (CellSide x) kind s v = stores_words kind (words_of_kind kind) s 0 v (omega (arith, kind_few kind))

  swap_words : (x y : Side) (p t : ℕ) → IsOfWordsSide x → IsOfWordsSide y → HaveWords (swap_code starts x y p t)
  swap_words x y p t words_x words_y =
      let kind = kind_of (type_of_side x) in
      let words = words_of_kind kind in
      let front = side_code starts x p t in
      let middle = side_code starts y (p + length front) (right_slot x t) in
      let back = exchange_code starts kind x y t in
      let first = read_side starts x kind t (t + 2) in
      let second = read_side starts y kind (right_slot x t) (t + 2 + words) in
      let third = write_side starts x kind t (t + 2 + words) in
      let fourth = write_side starts y kind (right_slot x t) (t + 2) in
      append front (middle ++ back) (side_words x p t words_x)
      (append middle back (side_words y (p + length front) (right_slot x t) words_y)
      (append first (second ++ (third ++ fourth)) (read_words x kind t (t + 2))
      (append second (third ++ fourth) (read_words y kind (right_slot x t) (t + 2 + words))
      (append third fourth (write_words x kind t (t + 2 + words)) (write_words y kind (right_slot x t) (t + 2))))))

  -- The code that throws an exception contains only 32-bit words; the exception's tag is less than 2 ^ 32.
  throw_words : (tag : ℕ) (v : Option Expression) (p : ℕ) (exits : Exits) (t : ℕ) → IsOfWordsThrown v → HaveWords (statement_code starts (Throw tag v) p exits t)
  throw_words tag None p exits t words = ((omega arith, omega arith), tt)
  throw_words tag (Some a) p exits t words =
      let slot = value_slot starts a t in
      let inner = expression_code starts a p slot t in
      append (code_unless (operand_of starts a) inner) _ (unless_words (operand_of starts a) inner (expression_words starts a p slot t words)) ((omega arith, known_word starts a slot words), tt)

  caught_words : (x : Option ℕ) (t : ℕ) → HaveWords (caught_code starts x t)
  caught_words None t = tt
  caught_words (Some n) t = (tt, tt)

  over_words : (last : Bool) (target : ℕ) → HaveWords (over_code last target)
  over_words true target = tt
  over_words false target = (tt, tt)

  entry_words : (guarded : Bool) (a : Expression) (p t test : ℕ) → IsOfWords a → HaveWords (entry_code guarded (choice_code starts logical.AndThen a p t) (holding_jump (choice_of starts logical.AndThen a t)) test p)
  entry_words true a p t test words = append (choice_code starts logical.AndThen a p t) _ (choice_words logical.AndThen a p t words) (choice_word logical.AndThen a t words, tt)
  entry_words false a p t test words = (tt, tt)

  either_words : (chosen : Bool) (x y : List Instruction) → HaveWords x → HaveWords y → HaveWords (if chosen then x else y)
  either_words true x y first second = first
  either_words false x y first second = second

  mutual
    statement_words : (s : Statement) (p : ℕ) (exits : Exits) (t : ℕ) → IsOfWordsStatement s → HaveWords (statement_code starts s p exits t)
    statement_words (Block r js) p exits t words = items_words js p exits t words
    statement_words Empty p exits t words = tt
    statement_words (Evaluate a) p exits t words = discarded_words a p t words
    statement_words (Swap x y) p exits t (words_x, words_y) = swap_words x y p t words_x words_y
    statement_words (If a s u) p exits t (first, second, third) =
        let first_part = statement_code starts s (p + length (branch_code starts logical.AndThen a 0 p t) + 1) exits t in
        let last = is_nothing u in
        let q = other_place last (branch_code starts logical.AndThen a 0 p t) first_part p in
        let condition = branch_code starts logical.AndThen a q p t in
        let second_part = statement_code starts u q exits t in
        let over = over_code last (q + length second_part) in
        append (condition ++ _ ∷ first_part) (over ++ second_part)
        (append condition (_ ∷ first_part) (branch_words logical.AndThen a q p t first) (branch_word logical.AndThen a t first, statement_words s (p + length (branch_code starts logical.AndThen a 0 p t) + 1) exits t second))
        (append over second_part (over_words last (q + length second_part)) (statement_words u q exits t third))
    statement_words (While w a s) p exits t (first, second) =
        let front = choice_code starts logical.OrElse a p t in
        let x = p + length front + 1 in
        let inside = statement_code starts s x (inside_loop p p exits) t in
        let again = choice_code starts logical.AndThen a (x + length inside) t in
        let l = p + entry_length (is_guard starts a) (choice_code starts logical.AndThen a p t) in
        let body = statement_code starts s (body_target l) (inside_loop p l exits) t in
        let r = body_target l + length body in
        let condition = choice_code starts logical.AndThen a r t in
        either_words (goes_through starts a s)
        (through_by front (failing_jump (choice_of starts logical.OrElse a t)) inside again (holding_jump (choice_of starts logical.AndThen a t) x) p)
        (entered_code (is_guard starts a) (λ n. choice_code starts logical.AndThen a n t) body (holding_jump (choice_of starts logical.AndThen a t)) p l)
        (append front _ (choice_words logical.OrElse a p t first) (
          choice_word logical.OrElse a t first,
          append (inside ++ again) _ (append inside again (statement_words s x (inside_loop p p exits) t second) (choice_words logical.AndThen a (x + length inside) t first)) (choice_word logical.AndThen a t first, (tt, tt)),
        ))
        (append (entry_code (is_guard starts a) (choice_code starts logical.AndThen a p t) (holding_jump (choice_of starts logical.AndThen a t)) r p) _ (entry_words (is_guard starts a) a p t r first) (
          tt,
          append (body ++ condition) _ (append body condition (statement_words s (body_target l) (inside_loop p l exits) t second) (choice_words logical.AndThen a r t first)) (choice_word logical.AndThen a t first, tt),
        ))
    statement_words (Return v) p exits t words = return_words v p exits t words
    statement_words Break p exits t words = append (leave_code exits.in_loop) _ (leave_words exits.in_loop) (tt, tt)
    statement_words Continue p exits t words = append (leave_code exits.in_loop) _ (leave_words exits.in_loop) (tt, tt)
    statement_words (Throw tag v) p exits t (word, words) = throw_words tag v p exits t words
    statement_words (Try s cs) p exits t (first, rest) =
        let kept = kept_code starts t in
        let m = p + length kept in
        let body = statement_code starts s (m + 1) (inside_try exits t) (after_record starts t) in
        let close = instructions.Leave t ∷ [] in
        let out = m + 1 + length (body ++ close) in
        let restored = restored_code starts t in
        let clauses = clauses_code starts cs (out + 1 + length restored) out exits t in
        append kept _ (kept_words starts.scopes t) (
          tt,
          append (body ++ close) (_ ∷ restored ++ clauses) (append body close (statement_words s (m + 1) (inside_try exits t) (after_record starts t) first) (tt, tt))
              (tt, append restored clauses (restored_words starts.scopes t) (clauses_words cs (out + 1 + length restored) out exits t rest)),
        )

    items_words : (js : Items) (p : ℕ) (exits : Exits) (t : ℕ) → AreOfWordsItems js → HaveWords (items_code starts js p exits t)
    items_words NoItems p exits t words = tt
    items_words (MoreItems (Execute s) js) p exits t (first, rest) =
        let q = p + length (statement_code starts s p exits t) in
        append (statement_code starts s p exits t) (items_code starts js q exits t) (statement_words s p exits t first) (items_words js q exits t rest)
    items_words (MoreItems (Declare n ty v) js) p exits t (first, rest) =
        let q = p + length (declaration_code starts n ty v p t) in
        append (declaration_code starts n ty v p t) (items_code starts js q exits t) (declaration_words n ty v p t first) (items_words js q exits t rest)
    items_words (MoreItems (DeclareRegion r n) js) p exits t words =
        let front = opened_code starts n t in
        let inner = items_code starts js (p + length front) (inside_region exits t) (t + 1) in
        append front (inner ++ closed_code t) (opened_words n t) (append inner (closed_code t) (items_words js (p + length front) (inside_region exits t) (t + 1) words) (closed_words t))
    items_words (MoreItems (OpenRegion r n w k) js) p exits t words =
        let key = operands.Slot (slot_of starts k) in
        append (named_code starts 1 n key) (items_code starts js (p + 1) exits t) (named_words 1 n key tt) (items_words js (p + 1) exits t words)
    items_words (MoreItems (DeclareAlias r n ty w m) js) p exits t words =
        let unique = operands.Slot (slot_of starts m) in
        append (named_code starts (words_of ty) n unique) (items_code starts js (p + 1) exits t) (named_words (words_of ty) n unique tt) (items_words js (p + 1) exits t words)
    items_words (MoreItems (DeclareKey r n) js) p exits t words =
        let front = dynamic_code starts n t in
        append front (items_code starts js (p + length front) exits t) (dynamic_words n t) (items_words js (p + length front) exits t words)

    clauses_words : (cs : Clauses) (p out : ℕ) (exits : Exits) (t : ℕ) → AreOfWordsClauses cs → HaveWords (clauses_code starts cs p out exits t)
    clauses_words NoClauses p out exits t words = ((tt, tt), tt)
    clauses_words (Default r js) p out exits t words = items_words js p exits t words
    clauses_words (Case tag x r js cs) p out exits t (word, first, rest) =
        let caught = caught_code starts x t in
        let items = items_code starts js (p + 1 + length caught) exits t in
        let clause = clause_code tag t (caught ++ items) p out in
        append clause (clauses_code starts cs (p + length clause) out exits t)
        ((tt, omega arith), append (caught ++ items) (instructions.Jump out ∷ []) (append caught items (caught_words x t) (items_words js (p + 1 + length caught) exits t first)) (tt, tt))
        (clauses_words cs (p + length clause) out exits t rest)

-- The code of a function: its body, a return, and the first `count` instructions of the blocks that raise exceptions.
abbrev pub body_with : (structs : List StructType) (globals : List ℕ) (scopes : Option ℕ) (h : Function) (count : ℕ) → List Instruction
body_with structs globals scopes h count = with_blocks (body_code (starts_with (raises_of structs globals scopes h) structs globals scopes h) h) (tag_slot h) count

body_words : (structs : List StructType) (globals : List ℕ) (scopes : Option ℕ) (h : Function) (n : ℕ) → AreOfWordsItems h.body → HaveWords (body_with structs globals scopes h n)
body_words structs globals scopes h n words =
    let d = first_temporary h in
    let end = tag_slot h in
    let starts = starts_with (raises_of structs globals scopes h) structs globals scopes h in
    append (items_code starts h.body 0 outside_loops d) (instructions.Finish end ∷ take n (blocks end)) (items_words starts h.body 0 outside_loops d words) (tt, taken_words n (blocks end) (blocks_words end))

function_has_words : (structs : List StructType) (globals : List ℕ) (scopes : Option ℕ) (h : Function) → AreOfWordsItems h.body → HaveWords (function_code structs globals scopes h)
function_has_words structs globals scopes h words =
    body_words structs globals scopes h (blocks_kept (farthest (body_code (starts_with (raises_of structs globals scopes h) structs globals scopes h) h) - raises_of structs globals scopes h)) words

-- The code of a function's body contains no `Return` that leaves handlers open.
pub body_has_no_return : (structs : List StructType) (globals : List ℕ) (scopes : Option ℕ) (h : Function) (n : ℕ) → AreOfWordsItems h.body → All (λ i. is_return i ≡ false) (body_with structs globals scopes h n)
body_has_no_return structs globals scopes h n words =
    All-from_recursion (λ i. is_return i ≡ false) (body_with structs globals scopes h n) (all_weaker IsMade (λ i. is_return i ≡ false) made_no_return (body_with structs globals scopes h n) (body_words structs globals scopes h n words))

functions_words : (structs : List StructType) (globals : List ℕ) (scopes : Option ℕ) (hs : List Function) → AreOfWordsFunctions hs → AllByRecursion (λ r. All HasWord r.code) (map (lower_function structs globals scopes) hs)
functions_words structs globals scopes [] words = tt
functions_words structs globals scopes (h ∷ hs) (first, rest) =
    (All-from_recursion HasWord (function_code structs globals scopes h) (all_weaker IsMade HasWord made_word (function_code structs globals scopes h) (function_has_words structs globals scopes h first)), functions_words structs globals scopes hs rest)

constant_word : (c : Constant) → IsOfWordsConstant c → IsWord (initial_word c)
constant_word (Word n) word = word
constant_word Null word = omega arith

zeros_words : (many : ℕ) (ws : List ℕ) → AllByRecursion IsWord ws → AllByRecursion IsWord (replicate many 0 ++ ws)
zeros_words zero ws words = words
zeros_words (suc many) ws words = (omega arith, zeros_words many ws words)

globals_words : (gs : List GlobalVariable) → AreOfWordsGlobals gs → AllByRecursion IsWord (lower_globals gs)
globals_words [] words = tt
globals_words (g ∷ gs) (first, rest) = (constant_word g.value first, zeros_words (words_of g.of_type - 1) (lower_globals gs) (globals_words gs rest))

pub has_words : (source : Program) → IsOfWordsProgram source → HasWords (lower_program source)
has_words source words =
    let scopes = scopes_of source in
    record {
      functions = All-from_recursion (λ r. All HasWord r.code) (map (lower_function source.structs (globals_of source) scopes) source.functions) (functions_words source.structs (globals_of source) scopes source.functions words.functions);
      globals = All-from_recursion IsWord (lower_globals source.globals) (globals_words source.globals words.globals);
    }

-- No lowered function contains an `Enter` instruction.
abbrev is_no_enter : Instruction → Bool
is_no_enter (instructions.Enter function) = false
is_no_enter i = true

made_no_enter : (i : Instruction) → IsMade i → is_no_enter i ≡ true
made_no_enter (instructions.Enter function) made = absurd made
made_no_enter i made = refl

functions_enter : (structs : List StructType) (globals : List ℕ) (scopes : Option ℕ) (hs : List Function) → AreOfWordsFunctions hs → AllByRecursion (λ r. All (λ i. is_no_enter i ≡ true) r.code) (map (lower_function structs globals scopes) hs)
functions_enter structs globals scopes [] words = tt
functions_enter structs globals scopes (h ∷ hs) (first, rest) =
    (All-from_recursion (λ i. is_no_enter i ≡ true) (function_code structs globals scopes h) (all_weaker IsMade (λ i. is_no_enter i ≡ true) made_no_enter (function_code structs globals scopes h) (function_has_words structs globals scopes h first)), functions_enter structs globals scopes hs rest)

pub no_enter : (source : Program) → IsOfWordsProgram source → AsksNoRoom (lower_program source)
no_enter source words place function at =
    let all = All-from_recursion (λ r. All (λ i. is_no_enter i ≡ true) r.code) (map (lower_function source.structs (globals_of source) (scopes_of source)) source.functions) (functions_enter source.structs (globals_of source) (scopes_of source) source.functions words.functions) in
    let known = function_known (lower_program source) place (instructions.Enter function) at in
    let of_code : All (λ i. is_no_enter i ≡ true) (routine_at (lower_program source) place.function).code = all place.function no_routine known in
    let e : false ≡ true = All_at (λ i. is_no_enter i ≡ true) (routine_at (lower_program source) place.function).code place.index (instructions.Enter function) of_code at in cc
