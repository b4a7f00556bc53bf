-- This file has examples: small programs are lowered and run on the plain machine, and each result is proved by computation.
use Rattle.std.proofs.Common.{◌≡◌, ℕ, ◌+◌, List, [], ◌∷◌, pos, negsuc, refl, Some, None}
use Rattle.cyc_words.specs.Word.{slt_of, div_of}
use Rattle.cyc_words.specs.Ending.{Returned, Uncaught, Full}
use Rattle.cyc_syntax.specs.Symbols.{Place}
use Rattle.cyc_types.specs.declared.typed.Kind.TheVariants as kinds
use Rattle.cyc_types.specs.declared.typed.Callee.{Callee}
use Rattle.cyc_types.specs.declared.typed.Callee.TheVariants.{Putchar, Getchar, Function as Calls}
use Rattle.cyc_types.specs.declared.typed.UnaryOperator.TheVariants as unary
use Rattle.cyc_types.specs.declared.typed.Operator.TheVariants.{Equal, NotEqual, Less, LessOrEqual, Greater, Add, Subtract, Multiply, Divide, Remainder}
use Rattle.cyc_types.specs.declared.typed.LogicalOperator.TheVariants.{AndThen, OrElse}
use Rattle.cyc_types.specs.declared.typed.PointerOperator.TheVariants.{NotEqualThin}
use Rattle.cyc_types.specs.Types.{Ty, Int, Pointer, Handle, Value}
use Rattle.cyc_types.specs.TypedTrees.{Local, Global, Expression, Number, Copy, Call, Unary, Binary, Assign, Converted, Convert, Arguments, NoArguments, MoreArguments, Operations, NoOperations, ThenCompute, ThenTest, ThenPointer, Statement, Block, Empty, Evaluate, If, While}
use Rattle.cyc_types.specs.TypedTrees.{Return, Break, Continue, Items, NoItems, MoreItems, Execute, Declare, DeclareRegion, Word, Null, Function, Program, Throw, Try, Case, Default, NoClauses, GlobalVariable, Lvalue, AddressOf, Load, Store, Target}
use Rattle.cyc_types.specs.declared.region.Region.TheVariants.{Heap}
use Rattle.cyc_syntax.specs.declared.tree.PointerKind.TheVariants.{Nullable, NonNull, Fat}
use Rattle.cyc_plain.specs.declared.instruction.Instruction.{Instruction}
use Rattle.cyc_plain.specs.declared.instruction.Operand.TheVariants.{Slot, Word as Constant}
use Rattle.cyc_plain.specs.declared.instruction.Instruction.TheVariants.{Move, Jump}
use Rattle.cyc_plain.specs.declared.instruction.Instruction.TheVariants as instructions
use Rattle.cyc_plain.specs.declared.instruction.Request.TheVariants as requests
use Rattle.cyc_plain.specs.declared.instruction.BinaryOperator.TheVariants as plain_binary
use Rattle.cyc_plain.specs.declared.instruction.Comparison.TheVariants as comparisons
use Rattle.cyc_words.specs.Simulation.{Status, Ended}
use Rattle.cyc_words.specs.Simulation as simulation
use Rattle.cyc_store.specs.State as stores
use Rattle.cyc_plain.specs.inside.State.{State, output_of, status_of}
use Rattle.cyc_plain.specs.inside.Step.{run, start}
use Rattle.cyc_plain.proofs.RunLaws.{zeros}
use Rattle.cyc_meaning.specs.State.{status_of as status_of_source}
use Rattle.cyc_meaning.specs.Run.{limited_run}
use Rattle.cyc_meaning.specs.FrameCount.{frame_count, expression_need}
use Rattle.cyc_lower_proof.specs.inside.ValueCode.{jump_if_zero, jump_if_nonzero, blocks}
use Rattle.cyc_lower_proof.specs.inside.Lowering.{function_code, lower_program, lower_globals}
use Rattle.cyc_meaning.specs.SourceMachine.{status_in}
use Rattle.cyc_lower_proof.specs.inside.Slots.{starts_from, global_types}

-- ---- trees

abbrev pub nowhere : Place
nowhere = record { line = 1; column = 1 }

abbrev pub int : Expression → Converted
int a = Convert kinds.Int kinds.Int a

abbrev pub local : ℕ → Expression
local n = Copy (Local nowhere n) Int

abbrev global : ℕ → Expression
global n = Copy (Global n) Int

abbrev sets : ℕ → Expression → Expression
sets n a = Assign (Local nowhere n) (int a) (Value Int)

abbrev pub two : Expression → Operations → Expression
two a os = Binary a os Int

abbrev passed : List Expression → Arguments
passed [] = NoArguments
passed (a ∷ rest) = MoreArguments (int a) (passed rest)

abbrev call : Callee → List Expression → Expression
call f arguments = Call f (passed arguments) (Value Int)

-- Builds a block body from a list of statements.
abbrev pub all : List Statement → Items
all [] = NoItems
all (s ∷ ss) = MoreItems (Execute s) (all ss)

abbrev pub returns : Expression → Statement
returns a = Return (Some (int a))

-- Builds a function with the given parameter types, and with the given types of the locals that are not parameters.
abbrev pub function : List Ty → List Ty → Items → Function
function parameters locals body = record {
  name = 0;
  place = nowhere;
  parameters = parameters;
  result = Some Int;
  variables = 0;
  effect = [];
  constraints = [];
  locals = locals;
  region = 0;
  regions = 1;
  body = body;
  end = nowhere;
}

abbrev ints : List Ty
ints = Int ∷ Int ∷ []

-- The program whose function `main` has two locals and whose only global contains 7.
abbrev program : Items → List Function → Program
program body others = record {
  structs = [];
  exceptions = [];
  globals = record { name = 0; of_type = Int; value = Word 7 } ∷ [];
  functions = function [] ints body ∷ others;
  main = 0;
}

abbrev after : ℕ → Program → List ℕ → State
after steps p input = run (lower_program p) 3 9 zeros steps (start (lower_program p) 0x7ffff000 (stores.start 3 (λ (address : ℕ). 0)) input)

abbrev pub ends : ℕ → Program → List ℕ → Status
ends steps p input = status_of (after steps p input)

abbrev gives : ℕ → Expression → Status
gives steps a = ends steps (program (all (returns a ∷ [])) []) []

-- ---- expressions

number : gives 2 (Number 5) ≡ Ended (Returned (pos 5))
number = refl

sum : gives 4 (two (Number 5) (ThenCompute Add (Number 6) NoOperations)) ≡ Ended (Returned (pos 11))
sum = refl

groups_to_the_left : gives 6 (two (Number 9) (ThenCompute Subtract (Number 4) (ThenCompute Subtract (Number 2) NoOperations))) ≡ Ended (Returned (pos 3))
groups_to_the_left = refl

divides_numbers : gives 5 (two (Number 9) (ThenCompute Divide (Number 2) NoOperations)) ≡ Ended (Returned (pos 4))
unfolding div_of
divides_numbers = refl

division_by_zero : gives 4 (two (Number 9) (ThenCompute Remainder (Number 0) NoOperations)) ≡ Ended (Uncaught 4 (pos 0))
division_by_zero = refl

negated : gives 3 (Unary unary.Negate (Number 1)) ≡ Ended (Returned (negsuc 0))
negated = refl

both_hold : gives 6 (two (Number 3) (ThenTest AndThen (Number 5) NoOperations)) ≡ Ended (Returned (pos 1))
both_hold = refl

first_decides : gives 5 (two (Number 0) (ThenTest AndThen (two (Number 9) (ThenCompute Divide (Number 0) NoOperations)) NoOperations)) ≡ Ended (Returned (pos 0))
first_decides = refl

one_holds : gives 5 (two (Number 3) (ThenTest OrElse (two (Number 9) (ThenCompute Divide (Number 0) NoOperations)) NoOperations)) ≡ Ended (Returned (pos 1))
one_holds = refl

none_holds : gives 6 (two (Number 0) (ThenTest OrElse (Number 0) NoOperations)) ≡ Ended (Returned (pos 0))
none_holds = refl

local_is_set : gives 7 (two (sets 1 (Number 4)) (ThenCompute Multiply (local 1) NoOperations)) ≡ Ended (Returned (pos 16))
local_is_set = refl

global_holds : gives 2 (global 0) ≡ Ended (Returned (pos 7))
global_holds = refl

global_is_set : gives 7 (two (Assign (Global 0) (int (Number 2)) (Value Int)) (ThenCompute Add (global 0) NoOperations)) ≡ Ended (Returned (pos 4))
global_is_set = refl

printed : output_of (after 5 (program (all (Evaluate (call Putchar (Number 321 ∷ [])) ∷ returns (Number 0) ∷ [])) []) []) ≡ 65 ∷ []
printed = refl

printed_byte : gives 6 (call Putchar (Number 321 ∷ [])) ≡ Ended (Returned (pos 65))
printed_byte = refl

-- ---- statements

-- The function body that counts local 0 up to 4 and adds each value except 2 to local 1.
abbrev counting : Items
counting =
    MoreItems (Declare 0 Int (Some (int (Number 0))))
    (MoreItems (Declare 1 Int (Some (int (Number 0))))
    (all (
    While nowhere (Number 1) (Block 1 (all (
    Evaluate (sets 0 (two (local 0) (ThenCompute Add (Number 1) NoOperations)))
    ∷ If (two (local 0) (ThenCompute Greater (Number 4) NoOperations)) Break Empty
    ∷ If (two (local 0) (ThenCompute Equal (Number 2) NoOperations)) Continue Empty
    ∷ Evaluate (sets 1 (two (local 1) (ThenCompute Add (local 0) NoOperations)))
    ∷ [])))
    ∷ returns (local 1)
    ∷ [])))

counts : ends 120 (program counting []) [] ≡ Ended (Returned (pos 8))
unfolding slt_of
counts = refl

while_one_runs_on : ends 100 (program (all (While nowhere (Number 1) Empty ∷ [])) []) [] ≡ simulation.Running
while_one_runs_on = refl

other_branch : ends 9 (program (all (If (Number 0) (returns (Number 1)) (returns (Number 2)) ∷ [])) []) [] ≡ Ended (Returned (pos 2))
other_branch = refl

-- ---- functions

-- A recursive function that computes n factorial.
abbrev factorial : Function
factorial = function (Int ∷ []) [] (all (
    If (local 0)
    (returns (two (local 0) (ThenCompute Multiply (call (Calls 1) (two (local 0) (ThenCompute Subtract (Number 1) NoOperations) ∷ [])) NoOperations)))
    (returns (Number 1))
    ∷ []))

factorials : ends 60 (program (all (returns (call (Calls 1) (Number 5 ∷ [])) ∷ [])) (factorial ∷ [])) [] ≡ Ended (Returned (pos 120))
factorials = refl

calls_are_limited : ends 100 (program (all (returns (call (Calls 1) (Number 50 ∷ [])) ∷ [])) (factorial ∷ [])) [] ≡ Ended Full
calls_are_limited = refl

arguments_in_order : ends 12 (program (all (returns (call (Calls 1) (Number 50 ∷ Number 8 ∷ [])) ∷ [])) (function ints [] (all (returns (two (local 0) (ThenCompute Subtract (local 1) NoOperations)) ∷ [])) ∷ [])) [] ≡ Ended (Returned (pos 42))
arguments_in_order = refl

-- ---- comparison with the source

-- The status with which the source program ends, given the page limit, the call limit and the input of the lowered run.
abbrev source_ends : ℕ → Program → List ℕ → Status
source_ends steps p input = status_in (status_of_source (limited_run p 3 9 input steps))

source_counts : source_ends 300 (program counting []) [] ≡ Ended (Returned (pos 8))
unfolding slt_of
source_counts = refl

source_factorials : source_ends 200 (program (all (returns (call (Calls 1) (Number 5 ∷ [])) ∷ [])) (factorial ∷ [])) [] ≡ Ended (Returned (pos 120))
source_factorials = refl

source_is_limited : source_ends 300 (program (all (returns (call (Calls 1) (Number 50 ∷ [])) ∷ [])) (factorial ∷ [])) [] ≡ Ended Full
source_is_limited = refl

-- The function body that reads the whole input, prints each byte plus one, and returns the number of bytes.
abbrev copying : Items
copying =
    MoreItems (Declare 0 Int None)
    (MoreItems (Declare 1 Int (Some (int (Number 0))))
    (all (
    While nowhere (two (two (sets 0 (call Getchar [])) (ThenCompute Add (Number 1) NoOperations)) (ThenTest AndThen (two (local 0) (ThenCompute NotEqual (Number 10) NoOperations)) NoOperations)) (Block 1 (all (
    Evaluate (call Putchar (two (local 0) (ThenCompute Add (Number 1) NoOperations) ∷ []))
    ∷ Evaluate (sets 1 (two (local 1) (ThenCompute Add (Number 1) NoOperations)))
    ∷ [])))
    ∷ returns (local 1)
    ∷ [])))

copies : output_of (after 100 (program copying []) (72 ∷ 73 ∷ [])) ≡ 73 ∷ 74 ∷ []
copies = refl

copied_many : ends 100 (program copying []) (72 ∷ 73 ∷ []) ≡ Ended (Returned (pos 2))
copied_many = refl

source_copies : source_ends 300 (program copying []) (72 ∷ 73 ∷ []) ≡ Ended (Returned (pos 2))
source_copies = refl

stops_at_line_feed : ends 100 (program copying []) (72 ∷ 10 ∷ 73 ∷ []) ≡ Ended (Returned (pos 1))
stops_at_line_feed = refl

-- ---- exceptions

abbrev thrower : Function
thrower = function (Int ∷ []) [] (all (Throw 5 (Some (local 0)) ∷ []))

-- An exception that a callee throws reaches the `catch` clause for the index of this exception, and a local receives the
-- int of the exception.
abbrev catching : Program
catching =
    program (all (
    Try (returns (call (Calls 1) (Number 3 ∷ [])))
    (Case 6 None 1 (all (returns (Number 1) ∷ []))
    (Case 5 (Some 0) 2 (all (returns (two (local 0) (ThenCompute Add (Number 4) NoOperations)) ∷ [])) NoClauses))
    ∷ [])) (thrower ∷ [])

catches : ends 40 catching [] ≡ Ended (Returned (pos 7))
catches = refl

source_catches : source_ends 80 catching [] ≡ Ended (Returned (pos 7))
source_catches = refl

-- A loop whose body is a `try` runs two iterations and is then left; the next exception finds no open handler of this `try`.
abbrev leaving : Items
leaving =
    MoreItems (Declare 0 Int (Some (int (Number 0))))
    (all (
    Try (Block 1 (all (
    While nowhere (Number 1) (Try (Block 2 (all (
    Evaluate (sets 0 (two (local 0) (ThenCompute Add (Number 1) NoOperations)))
    ∷ If (two (local 0) (ThenCompute Equal (Number 3) NoOperations)) Break Continue
    ∷ []))) (Default 3 (all (returns (Number 9) ∷ []))))
    ∷ Throw 5 None
    ∷ [])))
    (Case 5 None 4 NoItems NoClauses)
    ∷ returns (local 0)
    ∷ []))

leaves : ends 90 (program leaving []) [] ≡ Ended (Returned (pos 3))
leaves = refl

source_leaves : source_ends 250 (program leaving []) [] ≡ Ended (Returned (pos 3))
source_leaves = refl

-- The division by zero is caught; an exception that no clause catches ends the run.
division_is_caught : ends 20 (program (all (Try (returns (two (Number 9) (ThenCompute Divide (local 0) NoOperations))) (Case 4 None 1 (all (returns (Number 65) ∷ [])) NoClauses) ∷ [])) []) [] ≡ Ended (Returned (pos 65))
division_is_caught = refl

uncaught_goes_on : ends 20 (program (all (Try (Throw 5 (Some (Number 8))) (Case 6 None 1 NoItems NoClauses) ∷ [])) []) [] ≡ Ended (Uncaught 5 (pos 8))
uncaught_goes_on = refl

source_goes_on : source_ends 20 (program (all (Try (Throw 5 (Some (Number 8))) (Case 6 None 1 NoItems NoClauses) ∷ [])) []) [] ≡ Ended (Uncaught 5 (pos 8))
source_goes_on = refl

-- The program that converts a null pointer to a non-null pointer type.
abbrev converting : Program
converting = record {
  structs = [];
  exceptions = [];
  globals = record { name = 0; of_type = Pointer Nullable Int Heap; value = Null } ∷ [];
  functions = function [] ints (MoreItems (Declare 0 (Pointer NonNull Int Heap) (Some (Convert kinds.Nullable kinds.NonNull (Copy (Global 0) (Pointer Nullable Int Heap))))) NoItems) ∷ [];
  main = 0;
}

null_is_caught : ends 9 converting [] ≡ Ended (Uncaught 1 (pos 0))
null_is_caught = refl

source_catches_null : source_ends 20 converting [] ≡ Ended (Uncaught 1 (pos 0))
source_catches_null = refl

-- ---- code of bodies, followed by the blocks that raise exceptions

abbrev code_of_body : Items → List Instruction
code_of_body body = function_code [] [] None (function [] ints body)

-- The code of a loop tests the condition before and after the body; a jump to the end of the loop comes before the body.
loop_code : code_of_body (all (While nowhere (local 0) Break ∷ returns (local 1) ∷ [])) ≡
    jump_if_nonzero (Slot 0) 2 ∷ Jump 4 ∷ Jump 1 ∷ jump_if_nonzero (Slot 0) 2
    ∷ instructions.Finish 1
    ∷ instructions.Finish 2 ∷ []
loop_code = refl

-- Each operand of `||` in the condition of a branch has a separate jump, and no value is computed.
alternatives_code : code_of_body (all (If (two (local 0) (ThenTest OrElse (two (local 1) (ThenCompute Less (Number 3) NoOperations)) NoOperations)) (returns (local 1)) Empty ∷ returns (local 0) ∷ [])) ≡
    jump_if_nonzero (Slot 0) 2 ∷ instructions.Branch comparisons.GreaterOrEqual (Slot 1) (Constant 3) 3
    ∷ instructions.Finish 1
    ∷ instructions.Finish 0
    ∷ instructions.Finish 2 ∷ []
alternatives_code = refl

-- Each operand of `&&` in the condition of a branch has its own jump to the code after `else`, which is taken if the operand fails.
parts_code : code_of_body (all (If (two (local 0) (ThenTest AndThen (two (local 1) (ThenCompute Less (Number 3) NoOperations)) NoOperations)) (returns (local 1)) (returns (local 0)) ∷ [])) ≡
    jump_if_zero (Slot 0) 4 ∷ instructions.Branch comparisons.GreaterOrEqual (Slot 1) (Constant 3) 4
    ∷ instructions.Finish 1
    ∷ Jump 5
    ∷ instructions.Finish 0
    ∷ instructions.Finish 2 ∷ []
parts_code = refl

-- `!` turns `||` into `&&`: each operand of the negated `||` that holds jumps to the `else` statement.
neither_code : code_of_body (all (If (Unary unary.Not (two (local 0) (ThenTest OrElse (two (local 1) (ThenCompute Less (Number 3) NoOperations)) NoOperations))) (returns (local 1)) (returns (local 0)) ∷ [])) ≡
    jump_if_nonzero (Slot 0) 4 ∷ instructions.Branch comparisons.Less (Slot 1) (Constant 3) 4
    ∷ instructions.Finish 1
    ∷ Jump 5
    ∷ instructions.Finish 0
    ∷ instructions.Finish 2 ∷ []
neither_code = refl

-- In a condition that negates an `&&`, an operand of the `&&` that is false makes the condition true, and control reaches the statement of
-- the `if`.
not_both_code : code_of_body (all (If (Unary unary.Not (two (local 0) (ThenTest AndThen (two (local 1) (ThenCompute Less (Number 3) NoOperations)) NoOperations))) (returns (local 1)) Empty ∷ [])) ≡
    jump_if_zero (Slot 0) 2 ∷ instructions.Branch comparisons.Less (Slot 1) (Constant 3) 3
    ∷ instructions.Finish 1
    ∷ instructions.Finish 2 ∷ []
not_both_code = refl

-- A comparison of two pointers in a condition is compiled to one branch instruction.
apart_code : code_of_body (all (If (two (local 0) (ThenPointer NotEqualThin (local 1) NoOperations)) (returns (local 0)) Empty ∷ [])) ≡
    instructions.Branch comparisons.Equal (Slot 0) (Slot 1) 2
    ∷ instructions.Finish 0
    ∷ instructions.Finish 2 ∷ []
apart_code = refl

-- A loop condition that may need much code is emitted only once, after the body.
jumped_code : code_of_body (all (While nowhere (sets 0 (local 1)) Empty ∷ [])) ≡
    Jump 2 ∷ Jump 4 ∷ Move 0 (Slot 1) ∷ jump_if_nonzero (Slot 0) 2
    ∷ instructions.Finish 2 ∷ []
jumped_code = refl

-- If a loop without `break` has a false condition, the copy of the condition before the loop's body leaves the loop. `continue`
-- jumps to this copy, and an iteration runs one jump instruction, that of the comparison.
continued_code : code_of_body (all (While nowhere (two (local 0) (ThenCompute LessOrEqual (local 1) NoOperations)) (If (local 1) Continue Empty) ∷ [])) ≡
    instructions.Branch comparisons.Greater (Slot 0) (Slot 1) 4
    ∷ jump_if_zero (Slot 1) 3 ∷ Jump 0
    ∷ instructions.Branch comparisons.LessOrEqual (Slot 0) (Slot 1) 1 ∷ Jump 5
    ∷ instructions.Finish 2 ∷ []
continued_code = refl

-- The code of an `if` whose statement contains a division; if the divisor is 0, a jump goes to the last block of the function,
-- which raises an exception.
branch_code : code_of_body (all (If (local 0) (Evaluate (two (local 0) (ThenCompute Divide (local 1) NoOperations))) Empty ∷ [])) ≡
    jump_if_zero (Slot 0) 3
    ∷ jump_if_zero (Slot 1) 9 ∷ instructions.Binary plain_binary.Divide 3 (Slot 0) (Slot 1)
    ∷ instructions.Finish 2 ∷ blocks 2
branch_code = refl

-- A condition that is a comparison takes one jump, and so does a negated comparison.
compared_code : code_of_body (all (If (two (local 0) (ThenCompute Less (local 1) NoOperations)) (returns (local 0)) Empty ∷ [])) ≡
    instructions.Branch comparisons.GreaterOrEqual (Slot 0) (Slot 1) 2
    ∷ instructions.Finish 0
    ∷ instructions.Finish 2 ∷ []
compared_code = refl

negated_code : code_of_body (all (While nowhere (Unary unary.Not (local 0)) Break ∷ [])) ≡
    jump_if_zero (Slot 0) 2 ∷ Jump 4 ∷ Jump 1 ∷ jump_if_zero (Slot 0) 2
    ∷ instructions.Finish 2 ∷ []
negated_code = refl

-- Each operand of `&&` in a loop's condition leaves the loop if the operand fails.
both_code : code_of_body (all (While nowhere (two (local 0) (ThenTest AndThen (two (local 1) (ThenCompute Less (Number 3) NoOperations)) NoOperations)) Break ∷ [])) ≡
    Jump 3 ∷ Jump 5 ∷ Jump 1 ∷ jump_if_zero (Slot 0) 5
    ∷ instructions.Branch comparisons.Less (Slot 1) (Constant 3) 2
    ∷ instructions.Finish 2 ∷ []
both_code = refl

-- Negating a comparison yields the opposite comparison.
turned_code : code_of_body (all (If (Unary unary.Not (two (local 0) (ThenCompute Equal (local 1) NoOperations))) (returns (local 0)) Empty ∷ [])) ≡
    instructions.Branch comparisons.Equal (Slot 0) (Slot 1) 2
    ∷ instructions.Finish 0
    ∷ instructions.Finish 2 ∷ []
turned_code = refl

-- One instruction computes a sum into a local, and one instruction prints a byte.
direct_code : code_of_body (all (Evaluate (sets 0 (two (local 0) (ThenCompute Add (Number 1) NoOperations))) ∷ Evaluate (call Putchar (local 1 ∷ [])) ∷ [])) ≡
    instructions.Binary plain_binary.Add 0 (Slot 0) (Constant 1)
    ∷ instructions.WriteByte (Slot 1)
    ∷ instructions.Finish 2 ∷ []
direct_code = refl

-- An expression of several operators is assigned to a local and reads this local in its last operand. The code keeps the results
-- of the earlier operators in a temporary.
chain_code : code_of_body (all (Evaluate (sets 0 (two (local 1) (ThenCompute Subtract (Number 3) (ThenCompute Divide (local 0) (ThenCompute Remainder (Number 7) NoOperations))))) ∷ [])) ≡
    instructions.Binary plain_binary.Subtract 3 (Slot 1) (Constant 3)
    ∷ jump_if_zero (Slot 0) 10 ∷ instructions.Binary plain_binary.Divide 3 (Slot 3) (Slot 0)
    ∷ instructions.Binary plain_binary.Remainder 0 (Slot 3) (Constant 7)
    ∷ instructions.Finish 2 ∷ blocks 2
chain_code = refl

-- A local declared after a fat pointer has the slot after the three words of the fat pointer; temporaries come after all locals.
wide_code : function_code [] [] None (function [] (Pointer Fat Int Heap ∷ Int ∷ []) (all (Evaluate (sets 1 (two (local 1) (ThenCompute Add (Number 1) NoOperations))) ∷ []))) ≡
    instructions.Binary plain_binary.Add 3 (Slot 3) (Constant 1)
    ∷ instructions.Finish 4 ∷ []
wide_code = refl

-- A global fat pointer has three words, which are moved one by one; the next global begins after these words.
abbrev pub fat_global : GlobalVariable
fat_global = record { name = 0; of_type = Pointer Fat Int Heap; value = Null }

abbrev int_global : GlobalVariable
int_global = record { name = 0; of_type = Int; value = Word 7 }

words_of_globals : lower_globals (fat_global ∷ int_global ∷ []) ≡ 0 ∷ 0 ∷ 0 ∷ 7 ∷ []
words_of_globals = refl

wide_globals : function_code [] (starts_from 0 (global_types (fat_global ∷ int_global ∷ []))) None (function [] (Pointer Fat Int Heap ∷ Int ∷ []) (all (
    Evaluate (Assign (Local nowhere 0) (Convert kinds.Fat kinds.Fat (Copy (Global 0) (Pointer Fat Int Heap))) (Value (Pointer Fat Int Heap)))
    ∷ Evaluate (Assign (Global 0) (Convert kinds.Fat kinds.Fat (Copy (Local nowhere 0) (Pointer Fat Int Heap))) (Value (Pointer Fat Int Heap)))
    ∷ Evaluate (sets 1 (global 1)) ∷ []))) ≡
    instructions.LoadGlobal 0 0 ∷ instructions.LoadGlobal 1 1 ∷ instructions.LoadGlobal 2 2
    ∷ instructions.StoreGlobal 0 (Slot 0) ∷ instructions.StoreGlobal 1 (Slot 1) ∷ instructions.StoreGlobal 2 (Slot 2)
    ∷ instructions.LoadGlobal 3 3
    ∷ instructions.Finish 4 ∷ []
wide_globals = refl

-- ---- lexical regions

-- Each of five loop iterations opens a region, and the examples leave it by every kind of exit. The heap store has pages for only two
-- regions at once.
abbrev with_handle : Items → List Function → Program
with_handle body others = record {
  structs = [];
  exceptions = [];
  globals = [];
  functions = function [] (Int ∷ Handle Heap ∷ []) body ∷ others;
  main = 0;
}

-- The program in which local 0 counts iterations and local 1 is the region handle.
abbrev passes : Statement → Program
passes body =
    with_handle (MoreItems (Declare 0 Int (Some (int (Number 0)))) (all (
    While nowhere (two (local 0) (ThenCompute Less (Number 5) NoOperations)) (Block 1 (all (
    Evaluate (sets 0 (two (local 0) (ThenCompute Add (Number 1) NoOperations))) ∷ body ∷ [])))
    ∷ returns (local 0) ∷ []))) []

-- A block that opens a region and then executes the statements `body`.
abbrev in_region : List Statement → Statement
in_region body = Block 2 (MoreItems (DeclareRegion 3 1) (all body))

region_ends : ends 160 (passes (in_region [])) [] ≡ Ended (Returned (pos 5))
region_ends = refl

source_ends_region : source_ends 400 (passes (in_region [])) [] ≡ Ended (Returned (pos 5))
unfolding slt_of
source_ends_region = refl

region_is_continued : ends 160 (passes (in_region (Continue ∷ []))) [] ≡ Ended (Returned (pos 5))
region_is_continued = refl

region_is_broken : ends 200 (passes (While nowhere (Number 1) (in_region (Break ∷ [])))) [] ≡ Ended (Returned (pos 5))
region_is_broken = refl

region_is_thrown_from : ends 260 (passes (Try (in_region (Throw 5 None ∷ [])) (Case 5 None 4 NoItems NoClauses))) [] ≡ Ended (Returned (pos 5))
region_is_thrown_from = refl

-- One `break` leaves a region outside an exception handler and a region inside it at once.
both_are_left : ends 260 (passes (While nowhere (Number 1) (in_region (Try (Block 5 (MoreItems (DeclareRegion 6 1) (all (Break ∷ [])))) (Default 7 NoItems) ∷ [])))) [] ≡ Ended (Returned (pos 5))
both_are_left = refl

-- The program whose loop calls a function that returns out of its region or leaves the region by an exception.
abbrev calling_out : Statement → Program
calling_out body = with_handle (MoreItems (Declare 0 Int (Some (int (Number 0)))) (all (
    While nowhere (two (local 0) (ThenCompute Less (Number 5) NoOperations)) (Block 1 (all (
    Evaluate (sets 0 (two (local 0) (ThenCompute Add (Number 1) NoOperations)))
    ∷ Try (Evaluate (call (Calls 1) [])) (Default 2 NoItems) ∷ [])))
    ∷ returns (local 0) ∷ []))) (function [] (Int ∷ Handle Heap ∷ []) (all (body ∷ [])) ∷ [])

region_is_returned_from : ends 260 (calling_out (in_region (returns (Number 1) ∷ []))) [] ≡ Ended (Returned (pos 5))
region_is_returned_from = refl

call_throws_from_region : ends 260 (calling_out (in_region (Throw 5 None ∷ []))) [] ≡ Ended (Returned (pos 5))
call_throws_from_region = refl

source_throws_from_region : source_ends 600 (calling_out (in_region (Throw 5 None ∷ []))) [] ≡ Ended (Returned (pos 5))
unfolding slt_of
source_throws_from_region = refl

-- The first temporary holds the region's mark: the number of lexical regions that were open before this region was opened.
region_code : function_code [] [] (Some 4) (function [] (Int ∷ Handle Heap ∷ []) (all (in_region [] ∷ []))) ≡
    instructions.Ask (requests.OpenLexical 4) ∷ Move 3 (Slot 5)
    ∷ Move 1 (Slot 4)
    ∷ instructions.Ask (requests.CloseTo (Slot 3))
    ∷ instructions.Finish 2 ∷ []
region_code = refl

-- ---- addresses of variables

abbrev star : Ty
star = Pointer Nullable Int Heap

abbrev address : Lvalue → Converted
address l = Convert kinds.NonNull kinds.Nullable (AddressOf l (Pointer NonNull Int Heap))

-- The statement `*p = n`, where the pointer `p` is in a local.
abbrev puts : (pointer : ℕ) → (value : ℕ) → Statement
puts p n = Evaluate (Store (Target kinds.Nullable (Copy (Local nowhere p) star) Int) (int (Number n)) (Value Int))

-- The program whose function `main` has an int and a pointer to this int.
abbrev pointing : Items → List Function → Program
pointing body others = record {
  structs = [];
  exceptions = [];
  globals = int_global ∷ [];
  functions = function [] (Int ∷ star ∷ []) (MoreItems (Declare 0 Int (Some (int (Number 3)))) (MoreItems (Declare 1 star (Some (address (Local nowhere 0)))) body)) ∷ others;
  main = 0;
}

-- A local variable is stored to and loaded through its address.
variable_is_stored_to : ends 40 (pointing (all (puts 1 5 ∷ returns (local 0) ∷ [])) []) [] ≡ Ended (Returned (pos 5))
variable_is_stored_to = refl

variable_is_loaded : ends 40 (pointing (all (Evaluate (sets 0 (Number 6)) ∷ returns (Load (Target kinds.Nullable (Copy (Local nowhere 1) star) Int)) ∷ [])) []) [] ≡ Ended (Returned (pos 6))
variable_is_loaded = refl

-- A callee stores to a variable of its caller through the variable's address.
variable_waits : ends 60 (pointing (all (Evaluate (Call (Calls 1) (MoreArguments (address (Local nowhere 0)) NoArguments) (Value Int)) ∷ returns (local 0) ∷ [])) (function (star ∷ []) [] (all (puts 0 8 ∷ returns (Number 1) ∷ [])) ∷ [])) [] ≡ Ended (Returned (pos 8))
variable_waits = refl

global_is_stored_to : ends 40 (pointing (all (Evaluate (Assign (Local nowhere 1) (address (Global 0)) (Value star)) ∷ puts 1 9 ∷ returns (global 0) ∷ [])) []) [] ≡ Ended (Returned (pos 9))
global_is_stored_to = refl

source_stores_to_variable : source_ends 100 (pointing (all (puts 1 5 ∷ returns (local 0) ∷ [])) []) [] ≡ Ended (Returned (pos 5))
unfolding slt_of
source_stores_to_variable = refl

-- A local whose address is taken keeps its slots, and the address of a global is a constant.
address_of_int_local : function_code [] [] None (function [] (Pointer Fat Int Heap ∷ Int ∷ star ∷ []) (MoreItems (Declare 2 star (Some (address (Local nowhere 1)))) NoItems)) ≡
    instructions.AddressOf 4 3 1 ∷ instructions.Finish 5 ∷ []
address_of_int_local = refl

address_of_global : function_code [] (starts_from 0 (global_types (fat_global ∷ int_global ∷ []))) None (function [] (star ∷ []) (MoreItems (Declare 0 star (Some (address (Global 1)))) NoItems)) ≡
    Move 0 (Constant 0x1000000c) ∷ instructions.Finish 1 ∷ []
address_of_global = refl

-- ---- frame counts

assignment_need : expression_need (sets 0 (Number 1)) ≡ 5
assignment_need = refl

sum_need : expression_need (two (Number 9) (ThenCompute Subtract (Number 4) (ThenCompute Subtract (Number 2) NoOperations))) ≡ 3
sum_need = refl

nested_need : expression_need (two (Number 9) (ThenCompute Subtract (two (Number 4) (ThenCompute Subtract (Number 2) NoOperations)) NoOperations)) ≡ 4
nested_need = refl

frame_of_main : frame_count (function [] ints counting) ≡ 24 + 2 + 6
frame_of_main = refl
