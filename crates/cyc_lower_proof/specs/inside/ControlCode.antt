-- This file defines the code of conditions, branches, loops, regions, exits from statements, and handlers.
use Rattle.std.specs.Prelude.{ℕ, ◌+◌, Bool, true, false, ◌&&◌, ◌||◌, List, [], ◌∷◌, ◌++◌, length, Option, None, Some, ◌%◌, ◌^◌}
use Rattle.cyc_types.specs.declared.typed.UnaryOperator.TheVariants as unary
use Rattle.cyc_types.specs.declared.typed.LogicalOperator.{LogicalOperator}
use Rattle.cyc_types.specs.declared.typed.LogicalOperator.TheVariants as logical
use Rattle.cyc_types.specs.declared.typed.PointerOperator.{PointerOperator}
use Rattle.cyc_types.specs.declared.typed.PointerOperator.TheVariants as pointers
use Rattle.cyc_types.specs.TypedTrees.{Expression, Number, NullPointer, Unary, Binary, Operations, NoOperations, ThenCompute, ThenTest, ThenPointer, ThenPointerPeek}
use Rattle.cyc_types.specs.TypedTrees.{Statement, Block, Empty, If, Break, Try, Items, NoItems, MoreItems, Execute, Clauses, NoClauses, Default, Case}
use Rattle.cyc_plain.specs.declared.instruction.Comparison.{Comparison}
use Rattle.cyc_plain.specs.declared.instruction.Comparison.TheVariants as comparisons
use Rattle.cyc_plain.specs.declared.instruction.Operand.{Operand}
use Rattle.cyc_plain.specs.declared.instruction.Operand.TheVariants as operands
use Rattle.cyc_plain.specs.declared.instruction.Request.TheVariants as requests
use Rattle.cyc_plain.specs.declared.instruction.Instruction.{Instruction}
use Rattle.cyc_plain.specs.declared.instruction.Instruction.TheVariants as instructions
use Rattle.cyc_plain.specs.declared.limits.TheConstants.{RECORD_WORDS}
use Rattle.cyc_lower_proof.specs.inside.Slots.{Starts, slot_of}
use Rattle.cyc_lower_proof.specs.declared.condition.Condition.{Condition}
use Rattle.cyc_lower_proof.specs.declared.exits.Exits.{Exits}
use Rattle.cyc_lower_proof.specs.declared.exits.Opened.{Opened}
use Rattle.cyc_lower_proof.specs.inside.ValueCode.{failing_comparison, move_of}

-- ---- conditions, branches and loops

-- A condition as a comparison of two expressions. The comparison `failing` holds exactly if the condition fails.
pub record Compared : Type 0 where
  pub failing : Comparison
  pub left : Expression
  pub right : Expression

-- The comparison that holds exactly if the comparison in the argument fails.
abbrev pub opposite : Comparison → Comparison
opposite comparisons.Equal = comparisons.NotEqual
opposite comparisons.NotEqual = comparisons.Equal
opposite comparisons.Less = comparisons.GreaterOrEqual
opposite comparisons.LessOrEqual = comparisons.Greater
opposite comparisons.Greater = comparisons.LessOrEqual
opposite comparisons.GreaterOrEqual = comparisons.Less
opposite comparisons.LessUnsigned = comparisons.GreaterOrEqualUnsigned
opposite comparisons.GreaterOrEqualUnsigned = comparisons.LessUnsigned

-- A condition that is not a comparison fails exactly if its value is 0.
abbrev pub with_zero : Expression → Compared
with_zero a = record { failing = comparisons.Equal; left = a; right = Number 0 }

abbrev pub compared_or : Option Comparison → (left right whole : Expression) → Compared
compared_or (Some failing) left right whole = record { failing = failing; left = left; right = right }
compared_or None left right whole = with_zero whole

-- The comparison of a pointer's first word with 0 that holds exactly if the comparison of the pointer with null fails.
abbrev pub null_failing : PointerOperator → Option Comparison
null_failing pointers.ThinIsNull = Some comparisons.NotEqual
null_failing pointers.ThinIsNotNull = Some comparisons.Equal
null_failing pointers.FatIsNull = Some comparisons.NotEqual
null_failing pointers.FatIsNotNull = Some comparisons.Equal
null_failing o = None

abbrev pub null_compared : PointerOperator → (right : Expression) → Option Comparison
null_compared o NullPointer = null_failing o
null_compared o b = None

-- The comparison of two pointers' first words that holds exactly if the comparison of the pointers fails. Both pointers are thin, or the
-- left one is null.
abbrev pub pointers_failing : PointerOperator → Option Comparison
pointers_failing pointers.EqualThin = Some comparisons.NotEqual
pointers_failing pointers.NotEqualThin = Some comparisons.Equal
pointers_failing pointers.NullIs = Some comparisons.NotEqual
pointers_failing pointers.NullIsNot = Some comparisons.Equal
pointers_failing o = None

abbrev pub nulled_or : (null beside : Option Comparison) → (left right whole : Expression) → Compared
nulled_or (Some failing) beside left right whole = record { failing = failing; left = left; right = Number 0 }
nulled_or None beside left right whole = compared_or beside left right whole

-- A negated condition compares the expressions of the original condition, and fails exactly if the original condition holds.
abbrev pub negated : Compared → Compared
negated x = record { failing = opposite x.failing; left = x.left; right = x.right }

abbrev pub compared_of : Expression → Compared
compared_of (Unary unary.Not a) = negated (compared_of a)
compared_of (Binary a (ThenCompute o b NoOperations) ty) =
    compared_or (failing_comparison o) a b (Binary a (ThenCompute o b NoOperations) ty)
compared_of (Binary a (ThenPointer o b NoOperations) ty) =
    nulled_or (null_compared o b) (pointers_failing o) a b (Binary a (ThenPointer o b NoOperations) ty)
compared_of (Binary a (ThenPointerPeek n o b NoOperations) ty) =
    nulled_or (null_compared o b) (pointers_failing o) a b (Binary a (ThenPointerPeek n o b NoOperations) ty)
compared_of a = with_zero a

abbrev pub negated_condition : Condition → Condition
negated_condition c = record { failing = opposite c.failing; left = c.left; right = c.right }

-- The jump that is taken if a condition fails. The next definition is the jump that is taken if the condition holds.
abbrev pub failing_jump : Condition → (target : ℕ) → Instruction
failing_jump c target = instructions.Branch c.failing c.left c.right target

abbrev pub holding_jump : Condition → (target : ℕ) → Instruction
holding_jump c target = instructions.Branch (opposite c.failing) c.left c.right target

-- The condition that fails exactly if the left operand decides `&&` or `||`. The next definition is the jump that
-- is taken if the left operand decides.
abbrev pub deciding_condition : LogicalOperator → Condition → Condition
deciding_condition logical.AndThen c = c
deciding_condition logical.OrElse c = negated_condition c

abbrev pub deciding_jump : LogicalOperator → Condition → (target : ℕ) → Instruction
deciding_jump u c target = failing_jump (deciding_condition u c) target

-- Tells if two logical operators are equal. The next definition tells if all operators of a chain of operators are the
-- logical operator `u`. The definition after that also requires that the chain of operators has at least one operator.
abbrev pub is_same : (u o : LogicalOperator) → Bool
is_same logical.AndThen logical.AndThen = true
is_same logical.OrElse logical.OrElse = true
is_same u o = false

abbrev pub all_test : LogicalOperator → Operations → Bool
all_test u NoOperations = true
all_test u (ThenTest o b os) = is_same u o && all_test u os
all_test u os = false

abbrev pub are_tests : LogicalOperator → Operations → Bool
are_tests u NoOperations = false
are_tests u os = all_test u os

-- The negation of a chain of `&&` is a chain of `||`, and vice versa.
abbrev pub turned_test : LogicalOperator → LogicalOperator
turned_test logical.AndThen = logical.OrElse
turned_test logical.OrElse = logical.AndThen

-- The jump over the code after `else`. If the code after `else` is empty, then the jump is omitted.
abbrev pub is_nothing : Statement → Bool
is_nothing Empty = true
is_nothing s = false

abbrev pub over_code : (last : Bool) → (target : ℕ) → List Instruction
over_code true target = []
over_code false target = instructions.Jump target ∷ []

abbrev pub over_length : (last : Bool) → ℕ
over_length true = 0
over_length false = 1

-- The code of an `if` at position `p`: the condition, the jump over the first statement, the first statement, the jump to the end,
-- and the statement after `else`. Code inside the condition may also jump to the statement after `else`. The length of the
-- condition's code does not depend on its jump target, so this length is computed with an arbitrary target.
abbrev pub other_place : (last : Bool) → (condition first : List Instruction) → (p : ℕ) → ℕ
other_place last condition first p = p + length condition + 1 + length first + over_length last

abbrev pub if_code : (last : Bool) → (condition : ℕ → List Instruction) → (jump : ℕ → Instruction) → (first second : List Instruction) → (p : ℕ) → List Instruction
if_code last condition jump first second p =
    (condition (other_place last (condition 0) first p) ++ jump (other_place last (condition 0) first p) ∷ first)
    ++ (over_code last (other_place last (condition 0) first p + length second) ++ second)

-- A loop begins with entry code, which tests the condition or jumps to the test after the body. If the condition holds, the entry code
-- continues at the body, and otherwise at the next jump, which goes to the end of the loop. The targets of `continue` (the start of the
-- loop) and `break` (the jump to the end) are known before the body is emitted. After the body comes the condition again, with a jump
-- back to the body if the condition holds.
abbrev pub continue_target : Exits → ℕ
continue_target exits = exits.head

abbrev pub break_target : Exits → ℕ
break_target exits = exits.leaving

abbrev pub body_target : (leaving : ℕ) → ℕ
body_target leaving = leaving + 1

-- A light condition of a loop, that is, one with little code, is emitted both before and after the body. The copy of a light condition
-- after the body is reached only from the body. A loop whose condition is emitted only after the body begins with a jump to the
-- condition at position `test`.
abbrev pub entry_code : (guarded : Bool) → (condition : List Instruction) → (jump : ℕ → Instruction) → (test p : ℕ) → List Instruction
entry_code true condition jump test p = condition ++ jump (p + length condition + 1 + 1) ∷ []
entry_code false condition jump test p = instructions.Jump test ∷ []

abbrev pub entry_length : (guarded : Bool) → (condition : List Instruction) → ℕ
entry_length true condition = length condition + 1
entry_length false condition = 1

abbrev pub while_code : (entry body condition : List Instruction) → (jump : ℕ → Instruction) → (leaving : ℕ) → List Instruction
while_code entry body condition jump leaving =
    entry ++ (instructions.Jump (body_target leaving + length body + length condition + 1) ∷ ((body ++ condition) ++ jump (body_target leaving) ∷ []))

-- The code of a loop at position p, whose jump to the end is at position `leaving`. The code of the condition is emitted for the
-- condition's position, and the code of the body for the position `leaving`.
abbrev pub entered_code : (guarded : Bool) → (condition : ℕ → List Instruction) → (body : List Instruction) → (jump : ℕ → Instruction) → (p leaving : ℕ) → List Instruction
entered_code guarded condition body jump p leaving =
    while_code (entry_code guarded (condition p) jump (body_target leaving + length body) p) body (condition (body_target leaving + length body)) jump leaving

abbrev pub looped_code : (guarded : Bool) → (condition body : ℕ → List Instruction) → (jump : ℕ → Instruction) → (p : ℕ) → List Instruction
looped_code guarded condition body jump p =
    entered_code guarded condition (body (p + entry_length guarded (condition p))) jump p (p + entry_length guarded (condition p))

-- The code at position p of a loop that has a small condition and no `break`. The condition before the body jumps to the loop's end if
-- it fails; if it holds, execution continues into the body. At the end of the loop is a jump to the next instruction, which produces
-- no machine code; a `break` would go to this jump.
abbrev pub through_end : (front body condition : List Instruction) → (p : ℕ) → ℕ
through_end front body condition p = p + length front + 1 + length body + length condition + 1

abbrev pub through_by : (front : List Instruction) → (leave : ℕ → Instruction) → (body condition : List Instruction) → (back : Instruction) → (p : ℕ) → List Instruction
through_by front leave body condition back p =
    front ++ (leave (through_end front body condition p) ∷ ((body ++ condition) ++ (back ∷ instructions.Jump (through_end front body condition p + 1) ∷ [])))

abbrev pub through_code : (front : List Instruction) → (leave : ℕ → Instruction) → (body condition : ℕ → List Instruction) → (jump : ℕ → Instruction) → (p : ℕ) → List Instruction
through_code front leave body condition jump p =
    through_by front leave (body (p + length front + 1)) (condition (p + length front + 1 + length (body (p + length front + 1)))) (jump (p + length front + 1)) p

-- Holds if the statement may leave the enclosing loop by a `break`.
abbrev mutual
  pub breaks : Statement → Bool
  breaks (Block r js) = items_break js
  breaks (If a s t) = breaks s || breaks t
  breaks (Try s cs) = breaks s || clauses_break cs
  breaks Break = true
  breaks s = false

  pub items_break : Items → Bool
  items_break NoItems = false
  items_break (MoreItems (Execute s) js) = breaks s || items_break js
  items_break (MoreItems i js) = items_break js

  pub clauses_break : Clauses → Bool
  clauses_break NoClauses = false
  clauses_break (Default r js) = items_break js
  clauses_break (Case n x r js cs) = items_break js || clauses_break cs

-- ---- regions

-- Declares a local with a value of this many machine words, which an operand provides.
abbrev pub named_code : Starts → (words number : ℕ) → Operand → List Instruction
named_code starts words n o = move_of words (slot_of starts n) o ∷ []

-- Opens a lexical region and declares a local as its handle. Until the region is closed, slot t holds the region's
-- mark, that is, the number of lexical regions that were open before.
abbrev pub opened_code : Starts → (number t : ℕ) → List Instruction
opened_code starts n t =
    instructions.Ask (requests.OpenLexical (t + 1))
    ∷ instructions.Move t (operands.Slot (t + 2))
    ∷ named_code starts 1 n (operands.Slot (t + 1))

-- Closes the newest lexical regions until as many are open as slot m says.
abbrev pub closed_code : (m : ℕ) → List Instruction
closed_code m = instructions.Ask (requests.CloseTo (operands.Slot m)) ∷ []

-- Opens a dynamic region, and declares a local as the key of the region.
abbrev pub dynamic_code : Starts → (number t : ℕ) → List Instruction
dynamic_code starts n t = instructions.Ask (requests.OpenDynamic t) ∷ named_code starts 1 n (operands.Slot t)

-- Closes the dynamic region whose handle is the word of a key.
abbrev pub closing_code : (handle : Operand) → List Instruction
closing_code o = instructions.Ask (requests.CloseDynamic o) ∷ []

-- ---- exits from statements

-- The exception handlers and lexical regions that are open at a statement, but were not open at the start of the loop or function.
-- The open handlers and regions are given by the first slot of the outermost handler's record and the slot with the region count
-- from before the outermost lexical region.
abbrev pub nothing_opened : Opened
nothing_opened = record { handler = None; mark = None }

abbrev pub outermost : Option ℕ → (slot : ℕ) → Option ℕ
outermost (Some first) slot = Some first
outermost None slot = Some slot

abbrev pub with_handler : Opened → (slot : ℕ) → Opened
with_handler opened slot = record { handler = outermost opened.handler slot; mark = opened.mark }

abbrev pub with_mark : Opened → (slot : ℕ) → Opened
with_mark opened slot = record { handler = opened.handler; mark = outermost opened.mark slot }

-- Closes all exception handlers that are open inside a loop or function, from the outermost one on.
abbrev pub handlers_code : Option ℕ → List Instruction
handlers_code None = []
handlers_code (Some first) = instructions.Leave first ∷ []

-- Closes all lexical regions that are open inside a loop or function, until as many are open as before the outermost one.
abbrev pub marks_code : Option ℕ → List Instruction
marks_code None = []
marks_code (Some m) = closed_code m

abbrev pub leave_code : Opened → List Instruction
leave_code opened = handlers_code opened.handler ++ marks_code opened.mark

-- ---- handlers

-- The handler record of a `try` is in the slots from t on. After the handler record comes the number of open lexical regions, if the
-- program may open any.
abbrev pub after_record_in : Option ℕ → (t : ℕ) → ℕ
after_record_in None t = t + RECORD_WORDS
after_record_in (Some place) t = t + RECORD_WORDS + 1

abbrev pub after_record : Starts → (t : ℕ) → ℕ
after_record starts t = after_record_in starts.scopes t

abbrev pub kept_code_in : Option ℕ → (t : ℕ) → List Instruction
kept_code_in None t = []
kept_code_in (Some place) t = instructions.CountLexical (t + RECORD_WORDS) ∷ []

abbrev pub kept_code : Starts → (t : ℕ) → List Instruction
kept_code starts t = kept_code_in starts.scopes t

-- The code that closes the lexical regions opened inside a `try` when an exception reaches the handler.
abbrev pub restored_code_in : Option ℕ → (t : ℕ) → List Instruction
restored_code_in None t = []
restored_code_in (Some place) t = closed_code (t + RECORD_WORDS)

abbrev pub restored_code : Starts → (t : ℕ) → List Instruction
restored_code starts t = restored_code_in starts.scopes t

-- The index of an exception as a machine word; in every program text it is less than 2 ^ 32.
abbrev pub tag_operand : (tag : ℕ) → Operand
tag_operand tag = operands.Word (tag % 2 ^ 32)

-- The code of a `try` at position p with its handler record in slot t. After the body of a `try` comes the jump over the
-- clauses; an exception continues at the clauses.
abbrev pub try_code : (t : ℕ) → (body clauses : List Instruction) → (p : ℕ) → List Instruction
try_code t body clauses p =
    instructions.Try t (p + 1 + length body + 1)
    ∷ body
    ++ instructions.Jump (p + 1 + length body + 1 + length clauses)
    ∷ clauses

-- The code of a `try` at position p, with its handler record in slot t. The code of the body is emitted for its own position. The
-- code of the clauses is emitted for its own position and for the position of the jump over them.
abbrev pub handled_code : Starts → (body : ℕ → List Instruction) → (clauses : (p out : ℕ) → List Instruction) → (p t : ℕ) → List Instruction
handled_code starts body clauses p t =
    try_code t (body (p + 1) ++ instructions.Leave t ∷ [])
    (restored_code starts t
    ++ clauses (p + 1 + length (body (p + 1) ++ instructions.Leave t ∷ []) + 1 + length (restored_code starts t)) (p + 1 + length (body (p + 1) ++ instructions.Leave t ∷ [])))
    p

-- The jump over a `catch` clause, which is taken if the exception in slot t has an index other than `tag`.
abbrev pub other_jump : (tag t target : ℕ) → Instruction
other_jump tag t target = instructions.Branch comparisons.NotEqual (operands.Slot t) (tag_operand tag) target

-- The code of a `catch` clause at position p. The code of a clause ends with a jump to the jump over all clauses.
abbrev pub clause_code : (tag t : ℕ) → (items : List Instruction) → (p out : ℕ) → List Instruction
clause_code tag t items p out = other_jump tag t (p + 1 + length items + 1) ∷ items ++ instructions.Jump out ∷ []

-- The instruction that throws an exception again if no `catch` clause of the `try` catches it.
abbrev pub goes_on : (t : ℕ) → Instruction
goes_on t = instructions.Throw (operands.Slot t) (operands.Slot (t + 1))

-- The exits from a statement: the code positions to which `continue` and `break` go, and what leaving a loop or the function
-- closes. This definition gives the exits outside any loop.
abbrev pub outside_loops : Exits
outside_loops = record { head = 0; leaving = 0; in_loop = nothing_opened; in_function = nothing_opened }

-- The targets of `continue` and `break` inside a loop that begins at position `head` and whose jump to the end is at position `leaving`.
abbrev pub inside_loop : (head leaving : ℕ) → Exits → Exits
inside_loop head leaving exits = record { head = head; leaving = leaving; in_loop = nothing_opened; in_function = exits.in_function }

-- The exits inside the body of a `try` whose handler record begins with this slot. The next definition gives the exits after a
-- region whose saved region count is in this slot.
abbrev pub inside_try : Exits → (slot : ℕ) → Exits
inside_try exits slot = record { head = exits.head; leaving = exits.leaving; in_loop = with_handler exits.in_loop slot; in_function = with_handler exits.in_function slot }

abbrev pub inside_region : Exits → (slot : ℕ) → Exits
inside_region exits slot = record { head = exits.head; leaving = exits.leaving; in_loop = with_mark exits.in_loop slot; in_function = with_mark exits.in_function slot }

-- The slot of the loop counter that fills an array, as an operand.
abbrev pub counter_operand : Option ℕ → Option Operand
counter_operand (Some slot) = Some (operands.Slot slot)
counter_operand None = None
