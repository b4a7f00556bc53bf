-- Examples of the meaning of source programs, each proved by computation. The expected results come from the language's rules.
use Rattle.std.proofs.Common.{◌≡◌, ℕ, List, [], ◌∷◌, Some, None, pos, negsuc, refl}
use Rattle.cyc_words.specs.Word.{slt_of, sar_of, div_of, rem_of}
use Rattle.cyc_words.specs.Ending.{Returned, Uncaught, Full}
use Rattle.cyc_types.specs.declared.typed.Callee.TheVariants as callees
use Rattle.cyc_types.specs.declared.typed.UnaryOperator.TheVariants as unary
use Rattle.cyc_types.specs.declared.typed.Operator.TheVariants as operators
use Rattle.cyc_types.specs.declared.typed.LogicalOperator.TheVariants as logical
use Rattle.cyc_types.specs.Types.{Int, Void}
use Rattle.cyc_types.specs.TypedTrees.{Expression, Number, Call, Unary, Binary, NoOperations, ThenCompute, ThenTest, Empty, Evaluate, If, Return, Break, Continue, Execute, Declare, Word, Function, Program}
use Rattle.cyc_types.specs.TypedTrees as typed
use Rattle.std.specs.Prelude.{suc, if◌then◌else◌}
use Rattle.cyc_meaning.specs.State.{Region, State, Running, Ended, Dead, Wrong, Status, GoesOn, HasEnded, IsDead, IsWrong, output_of, input_of, status_of, depth, demand}
use Rattle.cyc_meaning.specs.Run.{start, run}
use Rattle.cyc_meaning.proofs.ExampleTrees.{int, local, global, two, both, either, assign, assign_global, print, read_byte, arguments, call, execute, return, declare, block}
use Rattle.cyc_meaning.proofs.ExampleTrees.{while, function, program_with, program, end, printed, long_end, long_printed, limited_end, limited_printed, end_on, printed_on}

-- Returns the status of a program that returns the value of one expression.
abbrev value : Expression → Status
value a = end (program (return a ∷ []))

abbrev prints : Expression → List ℕ
prints a = printed (program (return a ∷ []))

-- ---- operators

seven : value (Number 7) ≡ HasEnded (Returned (pos 7))
seven = refl

returns_minus_one : value (Unary unary.Negate (Number 1)) ≡ HasEnded (Returned (negsuc 0))
returns_minus_one = refl

negate_wraps : value (Unary unary.Negate (Number 0x80000000)) ≡ HasEnded (Returned (negsuc 2147483647))
negate_wraps = refl

complement : value (Unary unary.Complement (Number 0)) ≡ HasEnded (Returned (negsuc 0))
complement = refl

not_of_zero : value (Unary unary.Not (Number 0)) ≡ HasEnded (Returned (pos 1))
not_of_zero = refl

not_of_five : value (Unary unary.Not (Number 5)) ≡ HasEnded (Returned (pos 0))
not_of_five = refl

sum_wraps : value (two (Number 2147483647) operators.Add (Number 1)) ≡ HasEnded (Returned (negsuc 2147483647))
sum_wraps = refl

difference_wraps : value (two (Number 0x80000000) operators.Subtract (Number 1)) ≡ HasEnded (Returned (pos 2147483647))
difference_wraps = refl

product_wraps : value (two (Number 65536) operators.Multiply (Number 65537)) ≡ HasEnded (Returned (pos 65536))
product_wraps = refl

product_of_greatest : value (two (Number 2147483647) operators.Multiply (Number 2147483647)) ≡ HasEnded (Returned (pos 1))
product_of_greatest = refl

product_of_negatives : value (two (Number 0xfffffffd) operators.Multiply (Number 0xfffffffb)) ≡ HasEnded (Returned (pos 15))
product_of_negatives = refl

bits_and : value (two (Number 12) operators.And (Number 10)) ≡ HasEnded (Returned (pos 8))
bits_and = refl

bits_or : value (two (Number 12) operators.Or (Number 10)) ≡ HasEnded (Returned (pos 14))
bits_or = refl

bits_xor : value (two (Number 12) operators.Xor (Number 10)) ≡ HasEnded (Returned (pos 6))
bits_xor = refl

-- Division rounds a quotient toward zero, and a remainder has the sign of the dividend.
quotient : value (two (Number 7) operators.Divide (Number 2)) ≡ HasEnded (Returned (pos 3))
unfolding div_of
quotient = refl

quotient_of_negative : value (two (Number 0xfffffff9) operators.Divide (Number 2)) ≡ HasEnded (Returned (negsuc 2))
unfolding div_of
quotient_of_negative = refl

quotient_by_negative : value (two (Number 7) operators.Divide (Number 0xfffffffe)) ≡ HasEnded (Returned (negsuc 2))
unfolding div_of
quotient_by_negative = refl

quotient_of_negatives : value (two (Number 0xfffffff9) operators.Divide (Number 0xfffffffe)) ≡ HasEnded (Returned (pos 3))
unfolding div_of
quotient_of_negatives = refl

remainder : value (two (Number 7) operators.Remainder (Number 2)) ≡ HasEnded (Returned (pos 1))
unfolding rem_of
remainder = refl

remainder_of_negative : value (two (Number 0xfffffff9) operators.Remainder (Number 2)) ≡ HasEnded (Returned (negsuc 0))
unfolding rem_of
remainder_of_negative = refl

remainder_by_negative : value (two (Number 7) operators.Remainder (Number 0xfffffffe)) ≡ HasEnded (Returned (pos 1))
unfolding rem_of
remainder_by_negative = refl

remainder_of_negatives : value (two (Number 0xfffffff9) operators.Remainder (Number 0xfffffffe)) ≡ HasEnded (Returned (negsuc 0))
unfolding rem_of
remainder_of_negatives = refl

quotient_wraps : value (two (Number 0x80000000) operators.Divide (Number 0xffffffff)) ≡ HasEnded (Returned (negsuc 2147483647))
unfolding div_of
quotient_wraps = refl

remainder_of_least_by_minus_one : value (two (Number 0x80000000) operators.Remainder (Number 0xffffffff)) ≡ HasEnded (Returned (pos 0))
unfolding rem_of
remainder_of_least_by_minus_one = refl

quotient_by_zero : value (two (Number 1) operators.Divide (Number 0)) ≡ HasEnded (Uncaught 4 (pos 0))
quotient_by_zero = refl

remainder_by_zero : value (two (Number 0) operators.Remainder (Number 0)) ≡ HasEnded (Uncaught 4 (pos 0))
remainder_by_zero = refl

-- Shifts take their count modulo 32, and a right shift keeps the sign.
shift_left : value (two (Number 3) operators.ShiftLeft (Number 1)) ≡ HasEnded (Returned (pos 6))
shift_left = refl

shift_left_to_the_sign : value (two (Number 1) operators.ShiftLeft (Number 31)) ≡ HasEnded (Returned (negsuc 2147483647))
shift_left_to_the_sign = refl

shift_left_by_32 : value (two (Number 5) operators.ShiftLeft (Number 32)) ≡ HasEnded (Returned (pos 5))
shift_left_by_32 = refl

shift_left_by_33 : value (two (Number 3) operators.ShiftLeft (Number 33)) ≡ HasEnded (Returned (pos 6))
shift_left_by_33 = refl

shift_left_by_minus_one : value (two (Number 3) operators.ShiftLeft (Number 0xffffffff)) ≡ HasEnded (Returned (negsuc 2147483647))
shift_left_by_minus_one = refl

shift_right : value (two (Number 17) operators.ShiftRight (Number 3)) ≡ HasEnded (Returned (pos 2))
unfolding sar_of
shift_right = refl

shift_right_of_negative : value (two (Number 0xfffffff8) operators.ShiftRight (Number 1)) ≡ HasEnded (Returned (negsuc 3))
unfolding sar_of
shift_right_of_negative = refl

shift_right_rounds_down : value (two (Number 0xfffffff9) operators.ShiftRight (Number 1)) ≡ HasEnded (Returned (negsuc 3))
unfolding sar_of
shift_right_rounds_down = refl

shift_right_by_31 : value (two (Number 0x80000000) operators.ShiftRight (Number 31)) ≡ HasEnded (Returned (negsuc 0))
unfolding sar_of
shift_right_by_31 = refl

shift_right_by_34 : value (two (Number 17) operators.ShiftRight (Number 34)) ≡ HasEnded (Returned (pos 4))
unfolding sar_of
shift_right_by_34 = refl

-- The comparison operators compare signed integers, and return 0 or 1.
equal : value (two (Number 5) operators.Equal (Number 5)) ≡ HasEnded (Returned (pos 1))
equal = refl

equal_not : value (two (Number 0x80000000) operators.Equal (Number 2147483647)) ≡ HasEnded (Returned (pos 0))
equal_not = refl

not_equal : value (two (Number 0xffffffff) operators.NotEqual (Number 1)) ≡ HasEnded (Returned (pos 1))
not_equal = refl

not_equal_not : value (two (Number 0xffffffff) operators.NotEqual (Number 0xffffffff)) ≡ HasEnded (Returned (pos 0))
not_equal_not = refl

less : value (two (Number 0x80000000) operators.Less (Number 2147483647)) ≡ HasEnded (Returned (pos 1))
unfolding slt_of
less = refl

less_not_equal : value (two (Number 5) operators.Less (Number 5)) ≡ HasEnded (Returned (pos 0))
unfolding slt_of
less_not_equal = refl

less_not : value (two (Number 2147483647) operators.Less (Number 0x80000000)) ≡ HasEnded (Returned (pos 0))
unfolding slt_of
less_not = refl

less_below_zero : value (two (Number 0xffffffff) operators.Less (Number 0)) ≡ HasEnded (Returned (pos 1))
unfolding slt_of
less_below_zero = refl

less_or_equal : value (two (Number 0xffffffff) operators.LessOrEqual (Number 0)) ≡ HasEnded (Returned (pos 1))
less_or_equal = refl

less_or_equal_equal : value (two (Number 0x80000000) operators.LessOrEqual (Number 0x80000000)) ≡ HasEnded (Returned (pos 1))
less_or_equal_equal = refl

less_or_equal_not : value (two (Number 2147483647) operators.LessOrEqual (Number 0x80000000)) ≡ HasEnded (Returned (pos 0))
less_or_equal_not = refl

greater_signed : value (two (Number 2147483647) operators.Greater (Number 0x80000000)) ≡ HasEnded (Returned (pos 1))
unfolding slt_of
greater_signed = refl

greater_not_equal : value (two (Number 5) operators.Greater (Number 5)) ≡ HasEnded (Returned (pos 0))
unfolding slt_of
greater_not_equal = refl

greater_not : value (two (Number 0xffffffff) operators.Greater (Number 0)) ≡ HasEnded (Returned (pos 0))
unfolding slt_of
greater_not = refl

greater_or_equal : value (two (Number 0) operators.GreaterOrEqual (Number 0xffffffff)) ≡ HasEnded (Returned (pos 1))
greater_or_equal = refl

greater_or_equal_equal : value (two (Number 2147483647) operators.GreaterOrEqual (Number 2147483647)) ≡ HasEnded (Returned (pos 1))
greater_or_equal_equal = refl

greater_or_equal_not : value (two (Number 0x80000000) operators.GreaterOrEqual (Number 2147483647)) ≡ HasEnded (Returned (pos 0))
greater_or_equal_not = refl

-- ---- evaluation from left to right

-- example `putchar(65) - putchar(66) * putchar(67)`: the three calls are evaluated from left to right
operands_are_in_order : prints (two (print (Number 65)) operators.Subtract (two (print (Number 66)) operators.Multiply (print (Number 67)))) ≡ 65 ∷ 66 ∷ 67 ∷ []
operands_are_in_order = refl

order_of_operators : value (two (print (Number 65)) operators.Subtract (two (print (Number 66)) operators.Multiply (print (Number 67)))) ≡ HasEnded (Returned (negsuc 4356))
order_of_operators = refl

-- example `putchar(67) - putchar(66) - putchar(65)`: the operands of the chain are evaluated from left to right
chain_is_in_order : prints (Binary (print (Number 67)) (ThenCompute operators.Subtract (print (Number 66)) (ThenCompute operators.Subtract (print (Number 65)) NoOperations)) Int) ≡ 67 ∷ 66 ∷ 65 ∷ []
chain_is_in_order = refl

chain_groups_to_the_left : value (Binary (print (Number 67)) (ThenCompute operators.Subtract (print (Number 66)) (ThenCompute operators.Subtract (print (Number 65)) NoOperations)) Int) ≡ HasEnded (Returned (negsuc 63))
chain_groups_to_the_left = refl

-- `&&` and `||` do not evaluate the right operand if the left one decides, and return 0 or 1.
and_stops : prints (both (Number 0) (print (Number 65))) ≡ []
and_stops = refl

and_of_zero : value (both (Number 0) (print (Number 65))) ≡ HasEnded (Returned (pos 0))
and_of_zero = refl

and_goes_on : prints (both (Number 2) (print (Number 65))) ≡ 65 ∷ []
and_goes_on = refl

and_of_others : value (both (Number 2) (Number 3)) ≡ HasEnded (Returned (pos 1))
and_of_others = refl

and_of_a_last_zero : value (both (Number 2) (Number 0)) ≡ HasEnded (Returned (pos 0))
and_of_a_last_zero = refl

or_stops : prints (either (Number 2) (print (Number 65))) ≡ []
or_stops = refl

or_of_two : value (either (Number 2) (print (Number 65))) ≡ HasEnded (Returned (pos 1))
or_of_two = refl

or_goes_on : prints (either (Number 0) (print (Number 65))) ≡ 65 ∷ []
or_goes_on = refl

or_of_a_last_value : value (either (Number 0) (Number 7)) ≡ HasEnded (Returned (pos 1))
or_of_a_last_value = refl

or_of_zeros : value (either (Number 0) (Number 0)) ≡ HasEnded (Returned (pos 0))
or_of_zeros = refl

-- example `0 && putchar(65) || putchar(66)`: only `putchar(66)` is evaluated
and_before_or : prints (either (both (Number 0) (print (Number 65))) (print (Number 66))) ≡ 66 ∷ []
and_before_or = refl

-- example `1 || putchar(65) && putchar(66)`: nothing of the right operand of `||` is evaluated
or_skips_all_of_its_right : prints (either (Number 1) (both (print (Number 65)) (print (Number 66)))) ≡ []
or_skips_all_of_its_right = refl

-- example `1 && putchar(65) && 0 && putchar(66)`: only `putchar(65)` is evaluated
chain_of_and : prints (Binary (Number 1) (ThenTest logical.AndThen (print (Number 65)) (ThenTest logical.AndThen (Number 0) (ThenTest logical.AndThen (print (Number 66)) NoOperations))) Int) ≡ 65 ∷ []
chain_of_and = refl

-- ---- variables

-- int x = 3; return x + (x = 5);
old_value_on_the_left : end (program (declare 0 (Number 3) ∷ return (two (local 0) operators.Add (assign 0 (Number 5))) ∷ [])) ≡ HasEnded (Returned (pos 8))
old_value_on_the_left = refl

-- int x = 3; return (x = 5) + x;
new_value_on_the_right : end (program (declare 0 (Number 3) ∷ return (two (assign 0 (Number 5)) operators.Add (local 0)) ∷ [])) ≡ HasEnded (Returned (pos 10))
new_value_on_the_right = refl

-- int x; int y; x = y = 5; return x + y;
assignment_has_its_value : end (program (Declare 0 Int None ∷ Declare 1 Int None ∷ execute (assign 0 (assign 1 (Number 5))) ∷ return (two (local 0) operators.Add (local 1)) ∷ [])) ≡ HasEnded (Returned (pos 10))
assignment_has_its_value = refl

-- `int x; return x;` makes the program wrong, because x has no value, and the next two examples are
-- wrong programs too; the checker rejects all three texts.
unset_local_has_no_value : end (program (Declare 0 Int None ∷ return (local 0) ∷ [])) ≡ IsWrong
unset_local_has_no_value = refl

unknown_local_is_wrong : end (program (return (local 3) ∷ [])) ≡ IsWrong
unknown_local_is_wrong = refl

-- An access to a local after its block has ended is dead (an access to freed memory).
local_ends_with_its_block : end (program (Execute (block (declare 0 (Number 1) ∷ [])) ∷ return (local 0) ∷ [])) ≡ IsDead
local_ends_with_its_block = refl

-- int x = 3; { x = 4; } return x;
inner_block_changes_outer_local : end (program (declare 0 (Number 3) ∷ Execute (block (execute (assign 0 (Number 4)) ∷ [])) ∷ return (local 0) ∷ [])) ≡ HasEnded (Returned (pos 4))
inner_block_changes_outer_local = refl

-- int x = 3; { int x = 4; x = 9; } return x;
blocks_have_their_own_locals : end (program (declare 0 (Number 3) ∷ Execute (block (declare 1 (Number 4) ∷ execute (assign 1 (Number 9)) ∷ [])) ∷ return (local 0) ∷ [])) ≡ HasEnded (Returned (pos 3))
blocks_have_their_own_locals = refl

-- int g = 3; int h; and main g = g + 1; h = g * 2; return h;
abbrev with_globals : Program
with_globals = record (program (
    execute (assign_global 0 (two (global 0) operators.Add (Number 1)))
    ∷ execute (assign_global 1 (two (global 0) operators.Multiply (Number 2)))
    ∷ return (global 1) ∷ [])) {
      globals =
          record { name = 1; of_type = Int; value = Word 3 }
          ∷ record { name = 2; of_type = Int; value = Word 0 }
          ∷ [];
    }

globals_change : end with_globals ≡ HasEnded (Returned (pos 8))
globals_change = refl

-- ---- statements

-- if (2) putchar(65); else putchar(66);
first_branch : printed (program (Execute (If (Number 2) (Evaluate (print (Number 65))) (Evaluate (print (Number 66)))) ∷ return (Number 0) ∷ [])) ≡ 65 ∷ []
first_branch = refl

second_branch : printed (program (Execute (If (Number 0) (Evaluate (print (Number 65))) (Evaluate (print (Number 66)))) ∷ return (Number 0) ∷ [])) ≡ 66 ∷ []
second_branch = refl

-- int i = 0; while (i < 3) {
--   i = i + 1; int j = 0;
--   while (1) { j = j + 1; if (j == 2) continue; if (j > 3) break; putchar(64 + j); }
--   putchar(48 + i);
-- } return i;
abbrev nested_loops : Program
nested_loops = program (
    declare 0 (Number 0)
    ∷ while (two (local 0) operators.Less (Number 3)) (block (
    execute (assign 0 (two (local 0) operators.Add (Number 1)))
    ∷ declare 1 (Number 0)
    ∷ while (Number 1) (block (
    execute (assign 1 (two (local 1) operators.Add (Number 1)))
    ∷ Execute (If (two (local 1) operators.Equal (Number 2)) Continue Empty)
    ∷ Execute (If (two (local 1) operators.Greater (Number 3)) Break Empty)
    ∷ execute (print (two (Number 64) operators.Add (local 1))) ∷ []))
    ∷ execute (print (two (Number 48) operators.Add (local 0))) ∷ []))
    ∷ return (local 0) ∷ [])

nested_loops_print : output_of (run nested_loops [] 1000) ≡ 65 ∷ 67 ∷ 49 ∷ 65 ∷ 67 ∷ 50 ∷ 65 ∷ 67 ∷ 51 ∷ []
unfolding slt_of
nested_loops_print = refl

nested_loops_end : status_of (run nested_loops [] 1000) ≡ HasEnded (Returned (pos 3))
unfolding slt_of
nested_loops_end = refl

loop_may_not_be_entered : printed (program (while (Number 0) (Evaluate (print (Number 65))) ∷ return (Number 0) ∷ [])) ≡ []
loop_may_not_be_entered = refl

-- while (1) ;
loops_for_ever : end (program (while (Number 1) Empty ∷ return (Number 0) ∷ [])) ≡ GoesOn
loops_for_ever = refl

-- int i = 0; while (i < 2) { int x; if (i == 1) return x; x = 7; i = i + 1; } return 9;
abbrev local_of_a_pass : Program
local_of_a_pass = program (
    declare 0 (Number 0)
    ∷ while (two (local 0) operators.Less (Number 2)) (block (
    Declare 1 Int None
    ∷ Execute (If (two (local 0) operators.Equal (Number 1)) (Return (Some (int (local 1)))) Empty)
    ∷ execute (assign 1 (Number 7))
    ∷ execute (assign 0 (two (local 0) operators.Add (Number 1))) ∷ []))
    ∷ return (Number 9) ∷ [])

-- A local declared in a loop body without an initial value holds no value yet in the second iteration.
local_is_new_in_each_pass : long_end local_of_a_pass ≡ IsWrong
unfolding slt_of
local_is_new_in_each_pass = refl

-- int i = 2; while (1) { int x = 10; { x = x + i; while (1) { { return x; } } } }
abbrev return_from_within : Program
return_from_within = program (
    declare 0 (Number 2)
    ∷ while (Number 1) (block (
    declare 1 (Number 10)
    ∷ Execute (block (
    execute (assign 1 (two (local 1) operators.Add (local 0)))
    ∷ while (Number 1) (block (Execute (block (return (local 1) ∷ [])) ∷ [])) ∷ [])) ∷ [])) ∷ [])

returns_from_within : long_end return_from_within ≡ HasEnded (Returned (pos 12))
returns_from_within = refl

-- A program is wrong if `main` ends without a value, or if a `break` stands in no loop.
main_must_return : end (program (execute (Number 1) ∷ [])) ≡ IsWrong
main_must_return = refl

break_must_be_in_a_loop : end (program (Execute Break ∷ return (Number 1) ∷ [])) ≡ IsWrong
break_must_be_in_a_loop = refl

-- ---- calls

-- int f(int a, int b) { a = a - b; return a; }
abbrev difference : Function
difference = function (Int ∷ Int ∷ []) (execute (assign 0 (two (local 0) operators.Subtract (local 1))) ∷ return (local 0) ∷ [])

-- return f(putchar(65), putchar(66));
parameters_are_in_order : end (program_with (difference ∷ []) (return (call 1 ((print (Number 65)) ∷ (print (Number 66)) ∷ [])) ∷ [])) ≡ HasEnded (Returned (negsuc 0))
parameters_are_in_order = refl

arguments_are_in_order : printed (program_with (difference ∷ []) (return (call 1 ((print (Number 65)) ∷ (print (Number 66)) ∷ [])) ∷ [])) ≡ 65 ∷ 66 ∷ []
arguments_are_in_order = refl

-- int x = 7; f(x, 3); return x;
caller_keeps_its_locals : end (program_with (difference ∷ []) (declare 0 (Number 7) ∷ execute (call 1 (local 0 ∷ Number 3 ∷ [])) ∷ return (local 0) ∷ [])) ≡ HasEnded (Returned (pos 7))
caller_keeps_its_locals = refl

one_argument_too_few : end (program_with (difference ∷ []) (return (call 1 (Number 1 ∷ [])) ∷ [])) ≡ IsWrong
one_argument_too_few = refl

no_such_function : end (program (return (call 1 []) ∷ [])) ≡ IsWrong
no_such_function = refl

-- int f(int n) { if (n < 2) return 1; return n * f(n - 1); }
abbrev factorial : Function
factorial = function (Int ∷ []) (
    Execute (If (two (local 0) operators.Less (Number 2)) (Return (Some (int (Number 1)))) Empty)
    ∷ return (two (local 0) operators.Multiply (call 1 (two (local 0) operators.Subtract (Number 1) ∷ []))) ∷ [])

factorial_of_five : long_end (program_with (factorial ∷ []) (return (call 1 (Number 5 ∷ [])) ∷ [])) ≡ HasEnded (Returned (pos 120))
unfolding slt_of
factorial_of_five = refl

-- int f(int n) { if (n < 2) return n; return f(n - 1) + f(n - 2); }
abbrev fibonacci : Function
fibonacci = function (Int ∷ []) (
    Execute (If (two (local 0) operators.Less (Number 2)) (Return (Some (int (local 0)))) Empty)
    ∷ return (two (call 1 (two (local 0) operators.Subtract (Number 1) ∷ [])) operators.Add (call 1 (two (local 0) operators.Subtract (Number 2) ∷ []))) ∷ [])

fibonacci_of_six : status_of (run (program_with (fibonacci ∷ []) (return (call 1 (Number 6 ∷ [])) ∷ [])) [] 1000) ≡ HasEnded (Returned (pos 8))
unfolding slt_of
fibonacci_of_six = refl

-- void f(int n) { if (n) { putchar(n); return; } putchar(48); }
abbrev of_no_value : Function
of_no_value = record (function (Int ∷ []) (
    Execute (If (local 0) (block (execute (print (local 0)) ∷ Execute (Return None) ∷ [])) Empty)
    ∷ execute (print (Number 48)) ∷ [])) { result = None }

abbrev call_for_no_value : ℕ → typed.Item
call_for_no_value n = execute (Call (callees.Function 1) (arguments (Number n ∷ [])) Void)

-- f(65); f(0);
no_value_is_returned : long_printed (program_with (of_no_value ∷ []) (call_for_no_value 65 ∷ call_for_no_value 0 ∷ return (Number 0) ∷ [])) ≡ 65 ∷ 48 ∷ []
no_value_is_returned = refl

end_after_no_value : long_end (program_with (of_no_value ∷ []) (call_for_no_value 65 ∷ call_for_no_value 0 ∷ return (Number 4) ∷ [])) ≡ HasEnded (Returned (pos 4))
end_after_no_value = refl

-- int f(int n) { putchar(66); while (1) { return 7 / n; } }  main: putchar(65); putchar(f(0)); return 1;
abbrev divides_in_a_call : Program
divides_in_a_call = program_with
    (function (Int ∷ []) (execute (print (Number 66)) ∷ while (Number 1) (block (return (two (Number 7) operators.Divide (local 0)) ∷ [])) ∷ []) ∷ [])
    (execute (print (Number 65)) ∷ execute (print (call 1 (Number 0 ∷ []))) ∷ return (Number 1) ∷ [])

exception_leaves_the_call : long_end divides_in_a_call ≡ HasEnded (Uncaught 4 (pos 0))
exception_leaves_the_call = refl

exception_prints_no_more : long_printed divides_in_a_call ≡ 65 ∷ 66 ∷ []
exception_prints_no_more = refl

-- ---- built-in functions

low_byte_is_printed : prints (print (Number 321)) ≡ 65 ∷ []
low_byte_is_printed = refl

low_byte_is_the_answer : value (print (Number 321)) ≡ HasEnded (Returned (pos 65))
low_byte_is_the_answer = refl

low_byte_of_minus_one : value (print (Number 0xffffffff)) ≡ HasEnded (Returned (pos 255))
low_byte_of_minus_one = refl

first_byte_is_read : end_on (200 ∷ 7 ∷ []) (program (return read_byte ∷ [])) ≡ HasEnded (Returned (pos 200))
first_byte_is_read = refl

one_byte_is_read : input_of (run (program (return read_byte ∷ [])) (200 ∷ 7 ∷ []) 100) ≡ 7 ∷ []
one_byte_is_read = refl

end_of_input_is_minus_one : end_on [] (program (return read_byte ∷ [])) ≡ HasEnded (Returned (negsuc 0))
end_of_input_is_minus_one = refl

end_of_input_stays : end_on (9 ∷ []) (program (execute read_byte ∷ execute read_byte ∷ return read_byte ∷ [])) ≡ HasEnded (Returned (negsuc 0))
end_of_input_stays = refl

-- int c; while ((c = getchar()) >= 0) putchar(c); return 0;
abbrev echo : Program
echo = program (
    Declare 0 Int None
    ∷ while (two (assign 0 read_byte) operators.GreaterOrEqual (Number 0)) (Evaluate (print (local 0)))
    ∷ return (Number 0) ∷ [])

echo_prints : printed_on (104 ∷ 105 ∷ 0 ∷ []) echo ≡ 104 ∷ 105 ∷ 0 ∷ []
echo_prints = refl

echo_ends : end_on (104 ∷ 105 ∷ 0 ∷ []) echo ≡ HasEnded (Returned (pos 0))
echo_ends = refl

-- ---- limits

-- int f(int n) { putchar(66); return n; }  main: return f(putchar(65));
abbrev one_call : Program
one_call = program_with
    (function (Int ∷ []) (execute (print (Number 66)) ∷ return (local 0) ∷ []) ∷ [])
    (return (call 1 (print (Number 65) ∷ [])) ∷ [])

no_room_for_a_call : limited_end 1 one_call ≡ HasEnded Full
no_room_for_a_call = refl

arguments_are_evaluated_before : limited_printed 1 one_call ≡ 65 ∷ []
arguments_are_evaluated_before = refl

room_for_a_call : limited_end 2 one_call ≡ HasEnded (Returned (pos 65))
room_for_a_call = refl

call_prints : limited_printed 2 one_call ≡ 65 ∷ 66 ∷ []
call_prints = refl

services_are_no_calls : limited_end 1 (program (return (print (Number 65)) ∷ [])) ≡ HasEnded (Returned (pos 65))
services_are_no_calls = refl

factorial_is_full : limited_end 2 (program_with (factorial ∷ []) (return (call 1 (Number 5 ∷ [])) ∷ [])) ≡ HasEnded Full
unfolding slt_of
factorial_is_full = refl

calls_one_after_another : limited_end 2 (program_with (difference ∷ []) (return (two (call 1 (Number 9 ∷ Number 2 ∷ [])) operators.Add (call 1 (Number 5 ∷ Number 1 ∷ []))) ∷ [])) ≡ HasEnded (Returned (pos 11))
calls_one_after_another = refl

depth_at_the_start : depth (start one_call []) ≡ 1
depth_at_the_start = refl

depth_in_a_call : depth (run one_call [] 20) ≡ 2
depth_in_a_call = refl

-- At the start the heap needs one page.
demand_at_the_start : demand (start one_call []) ≡ 1
demand_at_the_start = refl

-- ---- regions

-- Returns the indices of the open regions in a list, where the first region of the list has the given index.
abbrev open_from : ℕ → List Region → List ℕ
open_from number [] = []
open_from number (r ∷ regions) = if r.is_open then number ∷ open_from (suc number) regions else open_from (suc number) regions

abbrev open_in : State → List ℕ
open_in (Running focus stack e w) = open_from 0 w.regions
open_in (Ended ending output input) = []
open_in (Dead output input) = []
open_in (Wrong output input) = []

-- { } { while (1) ; }
abbrev two_blocks : Program
two_blocks = program (Execute (block []) ∷ Execute (block (while (Number 1) Empty ∷ [])) ∷ return (Number 0) ∷ [])

-- In this example the open regions are the heap, the region of the globals, the region of `main`, and that of the second block. The
-- first block's region is closed, and its index is not reused.
second_block_is_open : open_in (run two_blocks [] 50) ≡ 0 ∷ 1 ∷ 2 ∷ 4 ∷ []
second_block_is_open = refl
