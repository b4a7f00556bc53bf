-- Examples of exceptions, each proved by computation. The expected results come from the language's rules.
use Rattle.std.proofs.Common.{◌≡◌, [], ◌∷◌, Some, None, pos, refl}
use Rattle.cyc_words.specs.Word.{div_of, rem_of}
use Rattle.cyc_words.specs.Ending.{Returned, Uncaught, Full}
use Rattle.cyc_types.specs.declared.typed.UnaryOperator.TheVariants as unary
use Rattle.cyc_types.specs.declared.typed.Operator.TheVariants as operators
use Rattle.cyc_types.specs.Types.{Int}
use Rattle.cyc_types.specs.TypedTrees.{Number, Counter, Unary, If, Evaluate, Empty, Throw, Load, Case, OnHeap, NoClauses, Execute, Function, Program}
use Rattle.cyc_types.specs.TypedTrees as typed
use Rattle.cyc_meaning.specs.State.{HasEnded}
use Rattle.cyc_meaning.proofs.ExampleTrees.{int, local, two, assign, print, call, items, execute, return, declare, block, while, function, program, program_with, end, printed, long_end}
use Rattle.cyc_meaning.proofs.ExampleTrees.{long_printed, end_within, printed_within, star, at, fat, convert, null_as, variable, target, new, array, define, when, try_to, case, otherwise, throw}

-- int m = -2147483647 - 1; int d = -1; int z = 0; if (m / d == m) putchar(65); if (m % d == 0) putchar(66);
-- try putchar(1 / z); catch { case &Div_zero: putchar(67); } return 0;
abbrev division : Program
division = program (
    declare 0 (two (Unary unary.Negate (Number 2147483647)) operators.Subtract (Number 1))
    ∷ declare 1 (Unary unary.Negate (Number 1))
    ∷ declare 2 (Number 0)
    ∷ when (two (two (local 0) operators.Divide (local 1)) operators.Equal (local 0)) (print (Number 65))
    ∷ when (two (two (local 0) operators.Remainder (local 1)) operators.Equal (Number 0)) (print (Number 66))
    ∷ try_to (Evaluate (print (two (Number 1) operators.Divide (local 2)))) (case 4 (execute (print (Number 67)) ∷ []) NoClauses)
    ∷ return (Number 0)
    ∷ [])

division_end : long_end division ≡ HasEnded (Returned (pos 0))
unfolding div_of rem_of
division_end = refl

division_printed : long_printed division ≡ 65 ∷ 66 ∷ 67 ∷ []
unfolding div_of rem_of
division_printed = refl

-- datatype exn { A; B(int); }; throw new B(9);
uncaught : end (program (throw 6 (Some (Number 9)) ∷ [])) ≡ HasEnded (Uncaught 6 (pos 9))
uncaught = refl

-- `throw new A;`: the exception's int is 0
uncaught_without_int : end (program (throw 5 None ∷ [])) ≡ HasEnded (Uncaught 5 (pos 0))
uncaught_without_int = refl

-- datatype exn { A; B; }; try { try throw new A; catch { case &B: putchar(66); } } catch { case &A: putchar(65); } return 0;
abbrev goes_on : Program
goes_on = program (
    try_to (block (try_to (Throw 5 None) (case 6 (execute (print (Number 66)) ∷ []) NoClauses) ∷ [])) (case 5 (execute (print (Number 65)) ∷ []) NoClauses)
    ∷ return (Number 0)
    ∷ [])

goes_on_end : end goes_on ≡ HasEnded (Returned (pos 0))
goes_on_end = refl

goes_on_printed : printed goes_on ≡ 65 ∷ []
goes_on_printed = refl

-- try { putchar(65); throw new B(7); putchar(66); } catch { case &A: return 1; case &B(v): v = v + 1; return v; default: return 2; }
-- The second `catch` clause catches the exception; the local that receives its int can be assigned like any other local.
second_clause : long_end (program (
    try_to (block (execute (print (Number 65)) ∷ throw 6 (Some (Number 7)) ∷ execute (print (Number 66)) ∷ []))
    (case 5 (return (Number 1) ∷ [])
    (Case 6 (Some 0) 2 (items (execute (assign 0 (two (local 0) operators.Add (Number 1))) ∷ return (local 0) ∷ []))
    (otherwise (return (Number 2) ∷ []))))
    ∷ [])) ≡ HasEnded (Returned (pos 8))
second_clause = refl

-- try throw new C; catch { case &A: return 1; default: return 2; }
default_clause : end (program (try_to (Throw 7 None) (case 5 (return (Number 1) ∷ []) (otherwise (return (Number 2) ∷ []))) ∷ [])) ≡ HasEnded (Returned (pos 2))
default_clause = refl

-- try putchar(65); catch { default: putchar(66); } return 3;
-- If the body of a `try` ends normally, the run leaves the `try`.
body_ends : end (program (try_to (Evaluate (print (Number 65))) (otherwise (execute (print (Number 66)) ∷ [])) ∷ return (Number 3) ∷ [])) ≡ HasEnded (Returned (pos 3))
body_ends = refl

-- try throw new A; catch { default: throw new B(1); }
-- A catch clause is not inside its own `try`.
thrown_in_clause : end (program (try_to (Throw 5 None) (otherwise (throw 6 (Some (Number 1)) ∷ [])) ∷ [])) ≡ HasEnded (Uncaught 6 (pos 1))
thrown_in_clause = refl

-- while (1) try break; catch { default: return 1; } return 2;
-- A `break` in the body of a `try` leaves the `try`.
break_leaves : end (program (while (Number 1) (typed.Try typed.Break (otherwise (return (Number 1) ∷ []))) ∷ return (Number 2) ∷ [])) ≡ HasEnded (Returned (pos 2))
break_leaves = refl

-- int f(){ try return g / 0; catch { default: return 4; } }
-- The conversion of a returned value still happens inside the `try` that contains the `return`.
returned_in_try : end (program (try_to (typed.Return (Some (int (two (Number 1) operators.Divide (Number 0))))) (otherwise (return (Number 4) ∷ [])) ∷ [])) ≡ HasEnded (Returned (pos 4))
returned_in_try = refl

-- int dig(int n){ if (n == 0) throw new Out(6); return dig(n - 1); }
abbrev dig : Function
dig = function (Int ∷ []) (
    Execute (If (two (local 0) operators.Equal (Number 0)) (Throw 5 (Some (Number 6))) Empty)
    ∷ return (call 1 (two (local 0) operators.Subtract (Number 1) ∷ []))
    ∷ [])

-- try s = s + dig(1); catch { case &Out(v): s = s + v; }
abbrev digs : typed.Item
digs = try_to (Evaluate (assign 0 (two (local 0) operators.Add (call 1 (Number 1 ∷ []))))) (Case 5 (Some 1) 2 (items (execute (assign 0 (two (local 0) operators.Add (local 1))) ∷ [])) NoClauses)

-- int s = 0; the try statement above, twice; return s;
-- A throw ends the calls that it leaves, so a limit of three active calls suffices for calling and throwing twice.
abbrev digs_twice : Program
digs_twice = program_with (dig ∷ []) (declare 0 (Number 0) ∷ digs ∷ digs ∷ return (local 0) ∷ [])

digs_end : end_within 1 3 digs_twice ≡ HasEnded (Returned (pos 12))
digs_end = refl

digs_full : end_within 1 2 digs_twice ≡ HasEnded Full
digs_full = refl

-- datatype exn { Stop; }; int at(int i){ if (i == 1) throw new Stop; return i; }
-- try { int ?p = new {for i < 600 : at(i)}; } catch { case &Stop: putchar(120); }
abbrev stops : typed.Item
stops = try_to (block (define 0 fat (convert fat fat (array OnHeap fat (Number 600) (call 1 (Counter 0 ∷ [])))) ∷ [])) (case 5 (execute (print (Number 120)) ∷ []) NoClauses)

-- The throwing initializer runs twice: each throw leaves its allocated block in the heap, so the second run needs another page.
abbrev stops_twice : Program
stops_twice = program_with
    (function (Int ∷ []) (Execute (If (two (local 0) operators.Equal (Number 1)) (Throw 5 None) Empty) ∷ return (local 0) ∷ []) ∷ [])
    (stops ∷ stops ∷ return (Number 0) ∷ [])

stops_with_two_pages : end_within 2 2 stops_twice ≡ HasEnded (Returned (pos 0))
stops_with_two_pages = refl

stops_printed : printed_within 2 2 stops_twice ≡ 120 ∷ 120 ∷ []
stops_printed = refl

full_with_one_page : end_within 1 2 stops_twice ≡ HasEnded Full
full_with_one_page = refl

full_with_one_page_printed : printed_within 1 2 stops_twice ≡ 120 ∷ []
full_with_one_page_printed = refl

-- `throw new Div_zero;` throws the built-in exception that the number 4 identifies
own_exception : end (program (throw 4 None ∷ [])) ≡ HasEnded (Uncaught 4 (pos 0))
own_exception = refl

-- int @f(int n){ int *p = NULL; try return p; catch { case &Null_Exception: putchar(65); } return new n; } return *f(7);
-- A called function converts its returned value inside its own `try`.
abbrev converted_in_try : Program
converted_in_try = program_with (function (Int ∷ []) (
    define 1 star (null_as star)
    ∷ try_to (typed.Return (Some (convert star at (variable 1 star)))) (case 1 (execute (print (Number 65)) ∷ []) NoClauses)
    ∷ Execute (typed.Return (Some (convert at at (new OnHeap at (local 0)))))
    ∷ []) ∷ []) (return (Load (target at (call 1 (Number 7 ∷ [])))) ∷ [])

converted_in_try_ends : end converted_in_try ≡ HasEnded (Returned (pos 7))
converted_in_try_ends = refl

converted_in_try_prints : printed converted_in_try ≡ 65 ∷ []
converted_in_try_prints = refl

-- int i = 0; try { while (1) { try { i = i + 1; if (i != 3) continue; break; } catch { default: putchar(88); } } throw new A; }
-- catch { case &A: putchar(65); } return i;
abbrev left_by_jumps : Program
left_by_jumps = program (
    declare 0 (Number 0)
    ∷ try_to (block (
    while (Number 1) (block (
    try_to (block (
    execute (assign 0 (two (local 0) operators.Add (Number 1)))
    ∷ Execute (If (two (local 0) operators.NotEqual (Number 3)) typed.Continue Empty)
    ∷ Execute typed.Break
    ∷ [])) (otherwise (execute (print (Number 88)) ∷ []))
    ∷ []))
    ∷ throw 5 None
    ∷ [])) (case 5 (execute (print (Number 65)) ∷ []) NoClauses)
    ∷ return (local 0)
    ∷ [])

left_by_jumps_ends : long_end left_by_jumps ≡ HasEnded (Returned (pos 3))
left_by_jumps_ends = refl

left_by_jumps_prints : long_printed left_by_jumps ≡ 65 ∷ []
left_by_jumps_prints = refl

-- int f(){ try return 1; catch { default: return 2; } } try { f(); throw new A; } catch { case &A: putchar(65); } return f();
abbrev left_by_return : Program
left_by_return = program_with (function [] (try_to (typed.Return (Some (int (Number 1)))) (otherwise (return (Number 2) ∷ [])) ∷ []) ∷ []) (
    try_to (block (execute (call 1 []) ∷ throw 5 None ∷ [])) (case 5 (execute (print (Number 65)) ∷ []) NoClauses)
    ∷ return (call 1 [])
    ∷ [])

left_by_return_ends : end left_by_return ≡ HasEnded (Returned (pos 1))
left_by_return_ends = refl

left_by_return_prints : printed left_by_return ≡ 65 ∷ []
left_by_return_prints = refl

-- try { try throw new A; catch { case &A: throw new B(3); case &B(v): return 1; } } catch { case &B(v): return v + 4; } return 0;
thrown_beside_a_clause : end (program (
    try_to (block (
    try_to (Throw 5 None) (case 5 (throw 6 (Some (Number 3)) ∷ []) (Case 6 (Some 0) 2 (items (return (Number 1) ∷ [])) NoClauses))
    ∷ [])) (Case 6 (Some 1) 2 (items (return (two (local 1) operators.Add (Number 4)) ∷ [])) NoClauses)
    ∷ return (Number 0)
    ∷ [])) ≡ HasEnded (Returned (pos 7))
thrown_beside_a_clause = refl

-- int d(int n){ if (n == 0) throw new E; return d(n - 1); }
-- int i = 0; while (i != 2) { try d(1); catch { case &E: putchar(65); } i = i + 1; } return d(0) + 1;
abbrev thrown_often : Program
thrown_often = program_with (function (Int ∷ []) (
    Execute (If (two (local 0) operators.Equal (Number 0)) (Throw 5 None) Empty)
    ∷ return (call 1 (two (local 0) operators.Subtract (Number 1) ∷ []))
    ∷ []) ∷ []) (
    declare 0 (Number 0)
    ∷ while (two (local 0) operators.NotEqual (Number 2)) (block (
    try_to (Evaluate (call 1 (Number 1 ∷ []))) (case 5 (execute (print (Number 65)) ∷ []) NoClauses)
    ∷ execute (assign 0 (two (local 0) operators.Add (Number 1)))
    ∷ []))
    ∷ return (two (call 1 (Number 0 ∷ [])) operators.Add (Number 1))
    ∷ [])

thrown_often_ends : end_within 1 3 thrown_often ≡ HasEnded (Uncaught 5 (pos 0))
thrown_often_ends = refl

thrown_often_prints : printed_within 1 3 thrown_often ≡ 65 ∷ 65 ∷ []
thrown_often_prints = refl

thrown_often_full : end_within 1 2 thrown_often ≡ HasEnded Full
thrown_often_full = refl

thrown_often_full_prints : printed_within 1 2 thrown_often ≡ []
thrown_often_full_prints = refl

-- int f(int n){ try return f(n + 1); catch { default: putchar(88); return 0; } } putchar(65); return f(0);
-- A call that would exceed the limit on active calls ends the run. This is not an exception, so no catch clause catches it.
abbrev endless : Program
endless = program_with (function (Int ∷ []) (
    try_to (typed.Return (Some (int (call 1 (two (local 0) operators.Add (Number 1) ∷ []))))) (otherwise (execute (print (Number 88)) ∷ return (Number 0) ∷ []))
    ∷ []) ∷ []) (execute (print (Number 65)) ∷ return (call 1 (Number 0 ∷ [])) ∷ [])

endless_is_full : end_within 1 5 endless ≡ HasEnded Full
endless_is_full = refl

endless_prints : printed_within 1 5 endless ≡ 65 ∷ []
endless_prints = refl

-- int f(int a, int b){ throw new E(a * 10 + b); } int s = 1; try { s = 2 + f(3, s + f(1, 2)); } catch { case &E(v): s = s + v; } return s;
-- A throw drops the continuations that wait for a value.
waiting_is_dropped : end (program_with (function (Int ∷ Int ∷ []) (
    throw 5 (Some (two (two (local 0) operators.Multiply (Number 10)) operators.Add (local 1)))
    ∷ []) ∷ []) (
    declare 0 (Number 1)
    ∷ try_to (block (
    execute (assign 0 (two (Number 2) operators.Add (call 1 (Number 3 ∷ two (local 0) operators.Add (call 1 (Number 1 ∷ Number 2 ∷ [])) ∷ []))))
    ∷ [])) (Case 5 (Some 1) 2 (items (execute (assign 0 (two (local 0) operators.Add (local 1))) ∷ [])) NoClauses)
    ∷ return (local 0)
    ∷ [])) ≡ HasEnded (Returned (pos 13))
waiting_is_dropped = refl
