-- This file defines the plain program as a function of the typed program. Code has absolute positions, so the code of a construct is
-- emitted for a position `p`. The last instruction of an expression's code moves the value to slot `d`, so `d` may be the slot of a local
-- that the expression reads. All other writes of an expression's code go to the slots from `t` on. Integer constants and locals are used
-- as operands without code that moves them.
--
-- A value occupies as many consecutive slots as its representation kind (int, char, pointer, ..) has words, and a
-- global occupies as many consecutive words.
use Rattle.std.specs.Prelude.{◌≡◌, ◌<◌, ◌≤◌, ℕ, zero, suc, ◌+◌, Bool, false, List, [], ◌∷◌, ◌++◌, length, map, replicate, ◌-◌, Option, None, Some, true, ◌||◌, ◌&&◌, is_some, if◌then◌else◌, max, take, not}
use Rattle.std.specs.List.{list_any}
use Rattle.cyc_words.specs.declared.span.Span.{Span}
use Rattle.cyc_syntax.specs.Symbols.{Place}
use Rattle.cyc_types.specs.declared.typed.Kind.{Kind}
use Rattle.cyc_types.specs.declared.typed.Callee.TheVariants as callees
use Rattle.cyc_types.specs.declared.typed.Operator.{Operator}
use Rattle.cyc_types.specs.declared.typed.LogicalOperator.{LogicalOperator}
use Rattle.cyc_types.specs.declared.typed.LogicalOperator.TheVariants as logical
use Rattle.cyc_types.specs.declared.typed.UnaryOperator.TheVariants as unary
use Rattle.cyc_types.specs.Types.{Ty, Handle, words_of}
use Rattle.cyc_types.specs.typing.Expressions.{type_of_side}
use Rattle.cyc_types.specs.TypedTrees.{Dereference, Element, Lvalue, Local, Global, Expression, Call, Load, Unary, Binary, Assign, Converted, Convert, Operations, NoOperations, ThenCompute, ThenTest, ThenPointer}
use Rattle.cyc_types.specs.TypedTrees.{ThenPointerPeek, Statement, Block, Empty, Evaluate, If, While, Return, Break, Continue, Items, NoItems, MoreItems, Execute, Declare, DeclareRegion, OpenRegion, DeclareAlias}
use Rattle.cyc_types.specs.TypedTrees.{DeclareKey, Constant, Word, Null, GlobalVariable, StructType, Function, Program, Store, Side, VariableSide, CellSide, Swap, Throw, Try, Clauses, NoClauses, Default, Case}
use Rattle.cyc_plain.specs.declared.instruction.Operand.{Operand}
use Rattle.cyc_plain.specs.declared.instruction.Operand.TheVariants as operands
use Rattle.cyc_plain.specs.declared.instruction.Instruction.{Instruction}
use Rattle.cyc_plain.specs.declared.instruction.Instruction.TheVariants as instructions
use Rattle.cyc_plain.specs.inside.Program.{Routine, Program as PlainProgram}
use Rattle.cyc_plain.specs.declared.limits.TheConstants.{RECORD_WORDS}
use Rattle.cyc_meaning.specs.Values.{kind_of, words_of_kind}
use Rattle.cyc_meaning.specs.FrameCount.{frame_count, items_need, words_of_all, kept_by_items}
use Rattle.cyc_lower_proof.specs.inside.Slots.{Types, Starts, starts_from, slot_of, global_of, global_types}
use Rattle.cyc_lower_proof.specs.declared.condition.Condition.{Condition}
use Rattle.cyc_lower_proof.specs.declared.exits.Exits.{Exits}
use Rattle.cyc_lower_proof.specs.inside.ValueCode.{slot_types, tag_slot, first_temporary, operand_or, code_unless, slot_or, code_unless_slot, left_with, blocks, failing_comparison, move_of, conversion_code, span_of, addressed_by, word_by_word, global_code, passed_words, kind_passed, blank_code}
use Rattle.cyc_lower_proof.specs.inside.ObjectCode.{stores_code, stored_by, load_at, right_slot}
use Rattle.cyc_lower_proof.specs.inside.ControlCode.{compared_of, negated_condition, turned_test, failing_jump, holding_jump, deciding_jump, are_tests, if_code, break_target, continue_target, named_code, opened_code, closed_code, dynamic_code, leave_code}
use Rattle.cyc_lower_proof.specs.inside.ControlCode.{after_record, kept_code, tag_operand, handled_code, clause_code, goes_on, outside_loops, inside_loop, inside_try, inside_region, body_target, looped_code, is_nothing, other_place, through_code, breaks}
use Rattle.cyc_lower_proof.specs.inside.ExpressionCode.{operand_of, value_slot, slot_with, value_operand, source_of, converted_operand, printed_operand, place_operand, place_offset, load_code, expression_code, place_code, converted_operand_code, printed_code, initial_code, brought_code, is_simple}

module _ (starts : Starts) where
  -- The code of an assignment. The next definition is the operand that holds the assigned value afterwards.
  abbrev pub assignment_code : Lvalue → Converted → (p t : ℕ) → List Instruction
  assignment_code (Local w n) c p t = initial_code starts c p (slot_of starts n) t
  assignment_code (Global n) c p t = converted_operand_code starts c p t ++ global_code (passed_words c) (global_of starts n) (converted_operand starts c t)

  abbrev pub assigned_operand : Lvalue → Converted → (t : ℕ) → Operand
  assigned_operand (Local w n) c t = operands.Slot (slot_of starts n)
  assigned_operand (Global n) c t = converted_operand starts c t

  -- Moves the address of a cell to slot t, where it waits until the right operand of the assignment is evaluated.
  abbrev pub store_address_code : Dereference → (p t : ℕ) → List Instruction
  store_address_code x p t = addressed_by (place_code starts x p t) (place_operand starts x t) (place_offset starts x) t

  -- Stores a value in a cell.
  abbrev pub store_code : Dereference → Converted → (p t : ℕ) → List Instruction
  store_code x c p t =
      stored_by (store_address_code x p t) (converted_operand_code starts c (p + length (store_address_code x p t)) (t + 1)) (kind_passed c) t (converted_operand starts c (t + 1))

  -- The code of an expression whose value is not used.
  abbrev pub discarded_code : Expression → (p t : ℕ) → List Instruction
  discarded_code (Call callees.Putchar cs ty) p t =
      printed_code starts cs p t ++ instructions.WriteByte (printed_operand starts cs (operands.Slot t) t) ∷ []
  discarded_code (Assign l c ty) p t = assignment_code l c p t
  discarded_code (Store x c ty) p t = store_code x c p t
  discarded_code a p t = code_unless (operand_of starts a) (expression_code starts a p t t)

  -- ---- statements

  -- The first of two compared operands. The first operand is used without code only if the evaluation of the second operand has no effect.
  abbrev pub first_operand : (a b : Expression) → (t : ℕ) → Operand
  first_operand a b t = operand_or (left_with (is_simple starts b) (operand_of starts a)) (slot_with starts (is_simple starts b) a t)

  abbrev pub first_code : (a b : Expression) → (p t : ℕ) → List Instruction
  first_code a b p t =
      code_unless (left_with (is_simple starts b) (operand_of starts a)) (expression_code starts a p (slot_with starts (is_simple starts b) a t) t)

  abbrev pub second_code : Expression → (p t : ℕ) → List Instruction
  second_code b p t = code_unless (operand_of starts b) (expression_code starts b p (value_slot starts b (suc t)) (suc t))

  abbrev pub pair_code : (a b : Expression) → (p t : ℕ) → List Instruction
  pair_code a b p t = first_code a b p t ++ second_code b (p + length (first_code a b p t)) t

  -- The code of a condition, up to the jump that is taken if the condition fails.
  abbrev pub condition_code : Expression → (p t : ℕ) → List Instruction
  condition_code a p t = pair_code (compared_of a).left (compared_of a).right p t

  abbrev pub condition_of : Expression → (t : ℕ) → Condition
  condition_of a t = record {
    failing = (compared_of a).failing;
    left = first_operand (compared_of a).left (compared_of a).right t;
    right = value_operand starts (compared_of a).right (suc t);
  }

  -- The code of the operands after the first one in a condition that is a chain of `&&` or `||`. If the previous operand decides,
  -- then a jump goes to the position `following`.
  abbrev pub others_code : LogicalOperator → Operations → Condition → (following p t : ℕ) → List Instruction
  others_code u NoOperations c following p t = []
  others_code u (ThenTest o b os) c following p t =
      (deciding_jump u c following ∷ condition_code b (p + 1) t)
      ++ others_code u os (condition_of b t) following (p + length (deciding_jump u c following ∷ condition_code b (p + 1) t)) t
  others_code u (ThenCompute o b os) c following p t = others_code u os c following p t
  others_code u (ThenPointer o b os) c following p t = others_code u os c following p t
  others_code u (ThenPointerPeek n o b os) c following p t = others_code u os c following p t

  abbrev pub last_condition : Operations → Condition → (t : ℕ) → Condition
  last_condition NoOperations c t = c
  last_condition (ThenTest o b os) c t = last_condition os (condition_of b t) t
  last_condition (ThenCompute o b os) c t = last_condition os c t
  last_condition (ThenPointer o b os) c t = last_condition os c t
  last_condition (ThenPointerPeek n o b os) c t = last_condition os c t

  abbrev pub tests_code : LogicalOperator → Expression → Operations → (following p t : ℕ) → List Instruction
  tests_code u a os following p t = condition_code a p t ++ others_code u os (condition_of a t) following (p + length (condition_code a p t)) t

  -- The code of a condition that is a chain of tests by one logical operator. Only the last operand decides by the jump at the end of
  -- the condition's code. If an earlier operand decides the condition, then control continues after this jump. The length of the code
  -- does not depend on the position after the jump at its end, so the code is first emitted for an arbitrary position. A negated
  -- condition uses tests by the opposite logical operator, since an operand that decides the tests decides the negated condition.
  abbrev pub after_tests : LogicalOperator → Expression → Operations → (p t : ℕ) → ℕ
  after_tests u a os p t = p + length (tests_code u a os 0 p t) + 1

  abbrev pub choice_code : LogicalOperator → Expression → (p t : ℕ) → List Instruction
  choice_code u (Unary unary.Not a) p t = choice_code (turned_test u) a p t
  choice_code u (Binary a os ty) p t =
      if are_tests u os then tests_code u a os (after_tests u a os p t) p t else condition_code (Binary a os ty) p t
  choice_code u a p t = condition_code a p t

  abbrev pub choice_of : LogicalOperator → Expression → (t : ℕ) → Condition
  choice_of u (Unary unary.Not a) t = negated_condition (choice_of (turned_test u) a t)
  choice_of u (Binary a os ty) t = if are_tests u os then last_condition os (condition_of a t) t else condition_of (Binary a os ty) t
  choice_of u a t = condition_of a t

  -- The condition of a branch. Each test by the operator u that decides the condition jumps to the position `other` of the statement
  -- after `else`. The last test jumps to `other` by the jump after the code of the condition. The deciding tests are failing tests
  -- by `&&` or, if the condition is negated, tests by `||` that hold.
  abbrev pub branch_code : LogicalOperator → Expression → (other p t : ℕ) → List Instruction
  branch_code u (Unary unary.Not a) other p t = branch_code (turned_test u) a other p t
  branch_code u (Binary a os ty) other p t =
      if are_tests u os then tests_code u a os other p t else choice_code (turned_test u) (Binary a os ty) p t
  branch_code u a other p t = choice_code (turned_test u) a p t

  abbrev pub branch_of : LogicalOperator → Expression → (t : ℕ) → Condition
  branch_of u (Unary unary.Not a) t = negated_condition (branch_of (turned_test u) a t)
  branch_of u (Binary a os ty) t =
      if are_tests u os then last_condition os (condition_of a t) t else choice_of (turned_test u) (Binary a os ty) t
  branch_of u a t = choice_of (turned_test u) a t

  -- Tells if an expression is light, that is, has little code. It has no effects, or it loads through a pointer without code at an index
  -- without effects.
  abbrev pub is_light_place : Dereference → Bool
  is_light_place (Element a i ty) = is_some (operand_of starts a) && is_simple starts i
  is_light_place x = false

  abbrev pub is_light : Expression → Bool
  is_light (Load x) = is_light_place x
  is_light (Unary unary.Widen a) = is_light a
  is_light a = is_simple starts a

  -- Tells if a condition is light, that is, has so little code that it may be emitted twice. A light condition is
  -- an expression with little code, or a comparison of two expressions with little code.
  abbrev pub is_light_comparison : Operator → (a b : Expression) → Bool
  is_light_comparison o a b = is_some (failing_comparison o) && (is_light a && is_light b)

  abbrev pub compares_light : (a : Expression) → Operations → Bool
  compares_light a (ThenCompute o b NoOperations) = is_light_comparison o a b
  compares_light a os = false

  abbrev pub is_guard : Expression → Bool
  is_guard (Unary unary.Not a) = is_guard a
  is_guard (Binary a os ty) = is_simple starts (Binary a os ty) || compares_light a os
  is_guard a = is_light a

  -- Holds for a loop with a light condition and without a `break` in its body.
  abbrev pub goes_through : Expression → Statement → Bool
  goes_through a s = is_guard a && not (breaks s)

  -- A returned value is in a slot: the slot of a local, or slot t. A returned value is converted before handlers are closed.
  abbrev pub return_code : Option Converted → (p : ℕ) → Exits → (t : ℕ) → List Instruction
  return_code None p exits t = leave_code exits.in_function ++ instructions.Finish t ∷ []
  return_code (Some (Convert from to a)) p exits t =
      code_unless_slot (source_of starts (Convert from to a)) (brought_code starts (Convert from to a) p t t)
      ++ conversion_code starts from to (span_of a) (operands.Slot (slot_or (source_of starts (Convert from to a)) t)) (p + length (code_unless_slot (source_of starts (Convert from to a)) (brought_code starts (Convert from to a) p t t)))
      ++ leave_code exits.in_function
      ++ instructions.Finish (slot_or (source_of starts (Convert from to a)) t)
      ∷ []

  -- Moves the address of one operand of a swap to slot t, if this operand is a cell. An operand that is a variable needs no code.
  abbrev pub side_code : Side → (p t : ℕ) → List Instruction
  side_code (VariableSide l ty) p t = []
  side_code (CellSide x) p t = store_address_code x p t

  -- Moves the words of one operand of a swap, of this kind, to slot d and the following slots.
  abbrev pub read_side : Side → Kind → (address d : ℕ) → List Instruction
  read_side (VariableSide l ty) kind s d = load_code starts (words_of_kind kind) l d
  read_side (CellSide x) kind s d = word_by_word (load_at kind s) (words_of_kind kind) 0 d

  -- Moves the words in slot v and the following slots to one operand of a swap.
  abbrev pub write_side : Side → Kind → (address v : ℕ) → List Instruction
  write_side (VariableSide (Local w n) ty) kind s v = move_of (words_of_kind kind) (slot_of starts n) (operands.Slot v) ∷ []
  write_side (VariableSide (Global n) ty) kind s v = global_code (words_of_kind kind) (global_of starts n) (operands.Slot v)
  write_side (CellSide x) kind s v = stores_code kind (words_of_kind kind) s 0 v

  -- Reads both operands of a swap, the left operand first, and then writes both operands.
  abbrev pub exchange_code : Kind → (left right : Side) → (t : ℕ) → List Instruction
  exchange_code kind a b t =
      read_side a kind t (t + 2)
      ++ (read_side b kind (right_slot a t) (t + 2 + words_of_kind kind)
      ++ (write_side a kind t (t + 2 + words_of_kind kind) ++ write_side b kind (right_slot a t) (t + 2)))

  abbrev pub swap_code : (left right : Side) → (p t : ℕ) → List Instruction
  swap_code a b p t =
      side_code a p t ++ (side_code b (p + length (side_code a p t)) (right_slot a t) ++ exchange_code (kind_of (type_of_side a)) a b t)

  -- Declares a local of a type with an initial value or without one.
  abbrev pub declaration_code : (number : ℕ) → Ty → Option Converted → (p t : ℕ) → List Instruction
  declaration_code n ty None p t = blank_code (kind_of ty) (slot_of starts n)
  declaration_code n ty (Some c) p t = initial_code starts c p (slot_of starts n) t

  -- The operand with the int of a thrown exception; the int is 0 if the exception has none.
  abbrev pub thrown_operand : Option Expression → (t : ℕ) → Operand
  thrown_operand None t = operands.Word 0
  thrown_operand (Some a) t = value_operand starts a t

  abbrev pub thrown_code : Option Expression → (p t : ℕ) → List Instruction
  thrown_code None p t = []
  thrown_code (Some a) p t = code_unless (operand_of starts a) (expression_code starts a p (value_slot starts a t) t)

  -- Stores the int of a caught exception in the local of its `catch` clause.
  abbrev pub caught_code : (number : Option ℕ) → (t : ℕ) → List Instruction
  caught_code None t = []
  caught_code (Some n) t = instructions.Move (slot_of starts n) (operands.Slot (t + 1)) ∷ []

  -- The code of a statement at position p, given the targets of `break` and `continue` and the first slot for temporaries.
  abbrev mutual
    pub statement_code : Statement → (p : ℕ) → Exits → (t : ℕ) → List Instruction
    statement_code (Block r js) p exits t = items_code js p exits t
    statement_code Empty p exits t = []
    statement_code (Evaluate a) p exits t = discarded_code a p t
    statement_code (Swap a b) p exits t = swap_code a b p t
    statement_code (If a s u) p exits t =
        if_code (is_nothing u) (λ other. branch_code logical.AndThen a other p t) (failing_jump (branch_of logical.AndThen a t))
        (statement_code s (p + length (branch_code logical.AndThen a 0 p t) + 1) exits t)
        (statement_code u (other_place (is_nothing u) (branch_code logical.AndThen a 0 p t) (statement_code s (p + length (branch_code logical.AndThen a 0 p t) + 1) exits t) p) exits t)
        p
    statement_code (While w a s) p exits t =
        if goes_through a s
        then through_code (choice_code logical.OrElse a p t) (failing_jump (choice_of logical.OrElse a t)) (λ q. statement_code s q (inside_loop p p exits) t) (λ q. choice_code logical.AndThen a q t) (holding_jump (choice_of logical.AndThen a t)) p
        else looped_code (is_guard a) (λ q. choice_code logical.AndThen a q t) (λ leaving. statement_code s (body_target leaving) (inside_loop p leaving exits) t) (holding_jump (choice_of logical.AndThen a t)) p
    statement_code (Return v) p exits t = return_code v p exits t
    statement_code Break p exits t = leave_code exits.in_loop ++ instructions.Jump (break_target exits) ∷ []
    statement_code Continue p exits t = leave_code exits.in_loop ++ instructions.Jump (continue_target exits) ∷ []
    statement_code (Throw n v) p exits t = thrown_code v p t ++ instructions.Throw (tag_operand n) (thrown_operand v t) ∷ []
    statement_code (Try s cs) p exits t =
        kept_code starts t
        ++ handled_code starts (λ q. statement_code s q (inside_try exits t) (after_record starts t)) (λ q out. clauses_code cs q out exits t) (p + length (kept_code starts t)) t

    pub items_code : Items → (p : ℕ) → Exits → (t : ℕ) → List Instruction
    items_code NoItems p exits t = []
    items_code (MoreItems (Execute s) js) p exits t =
        statement_code s p exits t ++ items_code js (p + length (statement_code s p exits t)) exits t
    items_code (MoreItems (Declare n ty v) js) p exits t =
        declaration_code n ty v p t ++ items_code js (p + length (declaration_code n ty v p t)) exits t
    -- After a region is opened, temporaries begin after the slot with the saved region count; at the end of the block the region is closed.
    items_code (MoreItems (DeclareRegion r n) js) p exits t =
        opened_code starts n t ++ (items_code js (p + length (opened_code starts n t)) (inside_region exits t) (t + 1) ++ closed_code t)
    -- The word of a key is the handle of the key's region.
    items_code (MoreItems (OpenRegion r n w k) js) p exits t = named_code starts 1 n (operands.Slot (slot_of starts k)) ++ items_code js (p + 1) exits t
    items_code (MoreItems (DeclareAlias r n ty w s) js) p exits t = named_code starts (words_of ty) n (operands.Slot (slot_of starts s)) ++ items_code js (p + 1) exits t
    items_code (MoreItems (DeclareKey r n) js) p exits t = dynamic_code starts n t ++ items_code js (p + length (dynamic_code starts n t)) exits t

    -- The code of the clauses of a `try`; the index and the int of the exception are in the slots from t on.
    pub clauses_code : Clauses → (p out : ℕ) → Exits → (t : ℕ) → List Instruction
    clauses_code NoClauses p out exits t = goes_on t ∷ []
    clauses_code (Default r js) p out exits t = items_code js p exits t
    clauses_code (Case n x r js cs) p out exits t =
        clause_code n t (caught_code x t ++ items_code js (p + 1 + length (caught_code x t)) exits t) p out
        ++ clauses_code cs
        (p + length (clause_code n t (caught_code x t ++ items_code js (p + 1 + length (caught_code x t)) exits t) p out))
        out exits t

-- ---- programs

-- The parameters of the code of a function. The parameters are the structs, the indices of the first words of the globals, and the
-- position after which the blocks that raise exceptions begin. If a `try` saves the number of open lexical regions, then the offset at
-- which it saves this number is a parameter as well.
abbrev pub starts_with : (raises : ℕ) → List StructType → (globals : List ℕ) → (scopes : Option ℕ) → Function → Starts
starts_with raises structs globals scopes h = record { locals = starts_from 0 (slot_types h); tag_slot = tag_slot h; structs = structs; raises = raises; counters = []; globals = globals; scopes = scopes }

-- The code of a function's body.
abbrev pub body_code : Starts → Function → List Instruction
body_code starts h = items_code starts h.body 0 outside_loops (first_temporary h)

-- The blocks that raise exceptions come after the code of the body, whose length does not depend on their position. The code is first
-- emitted for a far position of the blocks, and its jumps are then adjusted to the real position.
abbrev pub raises_of : List StructType → (globals : List ℕ) → (scopes : Option ℕ) → Function → ℕ
raises_of structs globals scopes h = length (body_code (starts_with 0 structs globals scopes h) h)

abbrev pub types_of : List StructType → (globals : List Ty) → (scopes : Option ℕ) → Function → Types
types_of structs globals scopes h = record { locals = slot_types h; structs = structs; raises = raises_of structs (starts_from 0 globals) scopes h; counters = []; globals = globals; scopes = scopes }

-- The position to which an instruction may jump: the target of a jump, or the handler of a `try`; 0 for all other instructions.
abbrev pub target_of : Instruction → ℕ
target_of (instructions.Jump target) = target
target_of (instructions.Branch comparison left right target) = target
target_of (instructions.Try first handler) = handler
target_of i = 0

-- The greatest jump target of a list of instructions.
abbrev pub farthest : List Instruction → ℕ
farthest [] = 0
farthest (i ∷ is) = max (target_of i) (farthest is)

-- Adjusts the target of a jump: a jump to a position past `far` becomes a jump equally far past `near`.
abbrev pub turned : (far near : ℕ) → Instruction → Instruction
turned far near (instructions.Jump target) = instructions.Jump (target - far + near)
turned far near (instructions.Branch comparison left right target) = instructions.Branch comparison left right (target - far + near)
turned far near i = i

-- Says that the instruction j is the adjusted instruction i: a jump target past `far` is moved equally far
-- past `near`, and any other instruction is unchanged.
abbrev pub IsTurned : (far near : ℕ) → (i j : Instruction) → Type 0
IsTurned far near i j = (far < target_of i → j ≡ turned far near i) × (target_of i ≤ far → j ≡ i)

abbrev pub AreTurned : (far near : ℕ) → (old new : List Instruction) → Type 0
AreTurned far near [] new = new ≡ []
AreTurned far near (i ∷ old) [] = ⊥
AreTurned far near (i ∷ old) (j ∷ new) = IsTurned far near i j × AreTurned far near old new

-- The code of a body ends with a return, which is the end of a void function. In any other function this return is unreachable, and only
-- prevents the code from running off its end. After the return come the first `count` instructions of the blocks that raise exceptions.
abbrev pub with_blocks : (body : List Instruction) → (slot count : ℕ) → List Instruction
with_blocks body slot count = body ++ instructions.Finish slot ∷ take count (blocks slot)

-- The number of instructions of the blocks that raise exceptions that remain in the code: up to the last block that
-- is a jump target. The first two of these instructions form one block.
abbrev pub blocks_kept : (farthest : ℕ) → ℕ
blocks_kept (suc zero) = 2
blocks_kept n = n

abbrev pub finished_code : (body : List Instruction) → (raises slot : ℕ) → List Instruction
finished_code body raises slot = with_blocks body slot (blocks_kept (farthest body - raises))

abbrev pub function_code : List StructType → (globals : List ℕ) → (scopes : Option ℕ) → Function → List Instruction
function_code structs globals scopes h =
    finished_code (body_code (starts_with (raises_of structs globals scopes h) structs globals scopes h) h) (raises_of structs globals scopes h) (tag_slot h)

-- The number of machine words that a function with this result type returns.
abbrev pub results_of : Option Ty → ℕ
results_of None = 0
results_of (Some t) = words_of t

abbrev pub span_of_place : Place → Span
span_of_place p = record { line = p.line; column = p.column }

-- The number of machine words of the largest value, which is a fat pointer.
abbrev pub spare_slots : ℕ
spare_slots = 3

-- The slots of a function: its locals, the slot for an exception's tag, the records of its handlers, its temporaries, and the slots
-- of one more value.
abbrev pub lower_function : List StructType → (globals : List ℕ) → (scopes : Option ℕ) → Function → Routine
lower_function structs globals scopes h = record {
  name = span_of_place h.place;
  parameters = words_of_all h.parameters;
  results = results_of h.result;
  slots = first_temporary h + kept_by_items h.body + items_need h.body + spare_slots;
  frame_count = frame_count h;
  code = function_code structs globals scopes h;
}

-- The first word of the initial value of a global.
abbrev pub initial_word : Constant → ℕ
initial_word (Word n) = n
initial_word Null = 0

-- The words of a global: its int or null, followed by zeros. The words of all globals are consecutive.
abbrev pub lower_global : GlobalVariable → List ℕ
lower_global g = initial_word g.value ∷ replicate (words_of g.of_type - 1) 0

abbrev pub lower_globals : List GlobalVariable → List ℕ
lower_globals [] = []
lower_globals (g ∷ gs) = lower_global g ++ lower_globals gs

-- the indices of the first words of the globals
abbrev pub globals_of : Program → List ℕ
globals_of p = starts_from 0 (global_types p.globals)

-- True if some local is a region handle; a function that opens a region has the region's handle as a local.
abbrev pub is_handle : Ty → Bool
is_handle (Handle r) = true
is_handle t = false

abbrev pub may_open : Function → Bool
may_open h = list_any is_handle h.parameters || list_any is_handle h.locals

-- The offset from the start of a handler record at which a `try` stores the number of open lexical regions, if the program may open any.
abbrev pub scopes_if : Bool → Option ℕ
scopes_if true = Some RECORD_WORDS
scopes_if false = None

abbrev pub scopes_of : Program → Option ℕ
scopes_of p = scopes_if (list_any may_open p.functions)

-- The plain program of a source program; each function keeps its index.
abbrev pub lower_program : Program → PlainProgram
lower_program p = record {
  functions = map (lower_function p.structs (globals_of p) (scopes_of p)) p.functions;
  globals = lower_globals p.globals;
  main = p.main;
}
