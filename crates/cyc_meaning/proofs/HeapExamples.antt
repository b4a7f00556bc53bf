-- Examples of heap objects and pointers, each proved by computation. The expected results come from the language's rules.
use Rattle.std.proofs.Common.{◌≡◌, [], ◌∷◌, pos, refl}
use Rattle.cyc_words.specs.Ending.{Returned, Uncaught}
use Rattle.cyc_types.specs.declared.typed.Kind.TheVariants as kinds
use Rattle.cyc_types.specs.declared.typed.UnaryOperator.TheVariants as unary
use Rattle.cyc_types.specs.declared.typed.Callee.TheVariants as callees
use Rattle.cyc_types.specs.declared.typed.Operator.TheVariants as operators
use Rattle.cyc_types.specs.declared.typed.PointerOperator.TheVariants as pointers
use Rattle.cyc_types.specs.Types.{Ty, Int, Pointer, Struct, Value}
use Rattle.cyc_syntax.specs.declared.tree.PointerKind.TheVariants as marks
use Rattle.cyc_types.specs.declared.region.Region.TheVariants.{Heap}
use Rattle.cyc_types.specs.TypedTrees.{Expression, Number, NullPointer, Counter, Call, Load, AddressOf, AddressOfCell, NumberOfElements, Unary, New, Member, OnHeap, Fields, Array, MoreArguments, NoArguments, Element, Program, NoClauses}
use Rattle.cyc_types.specs.TypedTrees as typed
use Rattle.cyc_meaning.specs.Values.{Int as Word}
use Rattle.cyc_meaning.specs.State.{InRegion, HasEnded, IsWrong, Running, Beginning, Throwing, no_locals, first_world, status_of}
use Rattle.cyc_meaning.specs.Run.{run}
use Rattle.cyc_meaning.specs.Allocation.{makes_array}
use Rattle.cyc_meaning.proofs.ExampleTrees.{here, int, local, two, assign, print, execute, return, declare, function, program, program_with, end, long_end, long_printed, printed, star, at, fat, convert, null_as, variable, target, element, apply, put, set, new, array, define, when, try_to, case}

-- ---- `new` and places

-- int @p = new 5; return *p;
new_object : end (program (define 0 at (convert at at (new OnHeap at (Number 5))) ∷ return (Load (target at (variable 0 at))) ∷ [])) ≡ HasEnded (Returned (pos 5))
new_object = refl

-- int @p = new 5; *p = *p + 2; return *p;
assigned_through : end (program (define 0 at (convert at at (new OnHeap at (Number 5))) ∷ execute (put (target at (variable 0 at)) (two (Load (target at (variable 0 at))) operators.Add (Number 2))) ∷ return (Load (target at (variable 0 at))) ∷ [])) ≡ HasEnded (Returned (pos 7))
assigned_through = refl

-- int *p = NULL; putchar(65); return *p;
null_read : end (program (define 0 star (null_as star) ∷ execute (print (Number 65)) ∷ return (Load (target star (variable 0 star))) ∷ [])) ≡ HasEnded (Uncaught 1 (pos 0))
null_read = refl

null_read_prints : printed (program (define 0 star (null_as star) ∷ execute (print (Number 65)) ∷ return (Load (target star (variable 0 star))) ∷ [])) ≡ 65 ∷ []
null_read_prints = refl

-- int *p = NULL; *p = putchar(65); return 0;
-- In an assignment `*p = e`, the pointer p is checked before e is evaluated.
place_before_value : long_printed (program (define 0 star (null_as star) ∷ execute (put (target star (variable 0 star)) (print (Number 65))) ∷ return (Number 0) ∷ [])) ≡ []
place_before_value = refl

place_before_value_ends : long_end (program (define 0 star (null_as star) ∷ execute (put (target star (variable 0 star)) (print (Number 65))) ∷ return (Number 0) ∷ [])) ≡ HasEnded (Uncaught 1 (pos 0))
place_before_value_ends = refl

-- int *p = NULL; return &*p == NULL;
-- The operand of `&` is checked for null: `&*p` with a null pointer p raises an exception.
address_of_null : end (program (define 0 star (null_as star) ∷ return (apply (AddressOfCell (target star (variable 0 star)) at) pointers.ThinIsNull NullPointer Int) ∷ [])) ≡ HasEnded (Uncaught 1 (pos 0))
address_of_null = refl

-- int x = 3; int @p = &x; *p = 8; return x;
address_of_variable : end (program (declare 0 (Number 3) ∷ define 1 at (convert at at (AddressOf (typed.Local here 0) at)) ∷ execute (put (target at (variable 1 at)) (Number 8)) ∷ return (local 0) ∷ [])) ≡ HasEnded (Returned (pos 8))
address_of_variable = refl

-- ---- structs

-- struct P { int x; int *n; };
abbrev with_struct : Program → Program
with_struct p = record p { structs = record { parameters = 0; fields = Int ∷ star ∷ [] } ∷ [] }

abbrev p : Ty
p = Pointer marks.NonNull (Struct 0 []) Heap

abbrev x : typed.Dereference
x = Member kinds.NonNull (variable 0 p) 0 0 Int

abbrev n : typed.Dereference
n = Member kinds.NonNull (variable 0 p) 0 1 star

-- struct P @p = new P{4, NULL}; p->n = new 3; return p->x + *p->n;
struct_fields : end (with_struct (program (
    define 0 p (convert p p (New OnHeap (Fields (MoreArguments (int (Number 4)) (MoreArguments (null_as star) NoArguments))) p))
    ∷ execute (typed.Store n (convert at star (new OnHeap at (Number 3))) (Value star))
    ∷ return (two (Load x) operators.Add (Load (target star (Load n))))
    ∷ []))) ≡ HasEnded (Returned (pos 7))
struct_fields = refl

-- The tree states a struct, but the cells of the object that `new 4` makes differ from the struct's fields, so the program is wrong.
other_shape : end (with_struct (program (
    define 0 p (convert p p (new OnHeap p (Number 4)))
    ∷ return (Load x)
    ∷ []))) ≡ IsWrong
other_shape = refl

-- struct P *p = NULL; p->x = putchar(65); return 0;
-- In an assignment to a field, the pointer to the struct is checked before the right side is evaluated.
abbrev p_star : Ty
p_star = Pointer marks.Nullable (Struct 0 []) Heap

abbrev field_of_null : Program
field_of_null = with_struct (program (
    define 0 p_star (null_as p_star)
    ∷ execute (put (Member kinds.Nullable (variable 0 p_star) 0 0 Int) (print (Number 65)))
    ∷ return (Number 0)
    ∷ []))

field_of_null_ends : end field_of_null ≡ HasEnded (Uncaught 1 (pos 0))
field_of_null_ends = refl

field_of_null_prints : printed field_of_null ≡ []
field_of_null_prints = refl

-- struct S { int a; int ?p; int b; }; struct S @s = new S{1, new {for i < 2 : i + 7}, 3}; s->p[1] = s->p[1] + 1; return s->b * 100 +
-- s->p[1] * 10 + s->a;
-- The struct of this example has fields of one machine word and a field of three machine words.
abbrev second : typed.Dereference
second = element (Load (Member kinds.NonNull (variable 0 p) 0 1 fat)) (Number 1)

fields_of_all_sizes : long_end (record (program (
    define 0 p (convert p p (New OnHeap (Fields (
    MoreArguments (int (Number 1))
    (MoreArguments (convert fat fat (array OnHeap fat (Number 2) (two (Counter 0) operators.Add (Number 7))))
    (MoreArguments (int (Number 3)) NoArguments)))) p))
    ∷ execute (put second (two (Load second) operators.Add (Number 1)))
    ∷ return (two
    (two (two (Load (Member kinds.NonNull (variable 0 p) 0 2 Int)) operators.Multiply (Number 100)) operators.Add (two (Load second) operators.Multiply (Number 10)))
    operators.Add (Load (Member kinds.NonNull (variable 0 p) 0 0 Int)))
    ∷ [])) {
      structs = record { parameters = 0; fields = Int ∷ fat ∷ Int ∷ [] } ∷ [];
    }) ≡ HasEnded (Returned (pos 391))
fields_of_all_sizes = refl

-- int *p = new 1; int *q = p; *p = *(p = new 5) + 1; return *q * 10 + *p;
-- Once the left side of an assignment is evaluated, the assignment writes to the cell found, even if the pointer changes.
found_place_stays : long_end (program (
    define 0 star (convert at star (new OnHeap at (Number 1)))
    ∷ define 1 star (convert star star (variable 0 star))
    ∷ execute (put (target star (variable 0 star)) (two (Load (target star (set 0 star (convert at star (new OnHeap at (Number 5)))))) operators.Add (Number 1)))
    ∷ return (two (two (Load (target star (variable 1 star))) operators.Multiply (Number 10)) operators.Add (Load (target star (variable 0 star))))
    ∷ [])) ≡ HasEnded (Returned (pos 65))
found_place_stays = refl

-- int second(int @a, int b){ return b; } int *p = NULL; return second(p, putchar(65));
-- An argument is converted before the next one is evaluated.
abbrev null_argument : Program
null_argument = program_with (function (at ∷ Int ∷ []) (return (local 1) ∷ []) ∷ []) (
    define 0 star (null_as star)
    ∷ return (Call (callees.Function 1) (MoreArguments (convert star at (variable 0 star)) (MoreArguments (int (print (Number 65))) NoArguments)) (Value Int))
    ∷ [])

null_argument_ends : end null_argument ≡ HasEnded (Uncaught 1 (pos 0))
null_argument_ends = refl

null_argument_prints : printed null_argument ≡ []
null_argument_prints = refl

-- ---- fat pointers

-- int ?p = new {for i < 3 : 65 + i};
abbrev letters : typed.Item
letters = define 0 fat (convert fat fat (array OnHeap fat (Number 3) (two (Number 65) operators.Add (Counter 0))))

-- int ?p = new {for i < 3 : 65 + i}; putchar(p[2]); int ?q = p + 5; putchar(48 + numelts(q));
-- try putchar(p[3]); catch { case &Array_bounds: putchar(33); } return numelts(p);
abbrev bounds : Program
bounds = program (
    letters
    ∷ execute (print (Load (element (variable 0 fat) (Number 2))))
    ∷ define 1 fat (convert fat fat (apply (variable 0 fat) pointers.AddFat (Number 5) fat))
    ∷ execute (print (two (Number 48) operators.Add (NumberOfElements (variable 1 fat))))
    ∷ try_to (typed.Evaluate (print (Load (element (variable 0 fat) (Number 3))))) (case 2 (execute (print (Number 33)) ∷ []) NoClauses)
    ∷ return (NumberOfElements (variable 0 fat))
    ∷ [])

bounds_end : long_end bounds ≡ HasEnded (Returned (pos 3))
bounds_end = refl

bounds_printed : long_printed bounds ≡ 67 ∷ 48 ∷ 33 ∷ []
bounds_printed = refl

-- int ?p = new {for i < 3 : i * i}; return p[2] + numelts(p + 1);
squares : long_end (program (
    define 0 fat (convert fat fat (array OnHeap fat (Number 3) (two (Counter 0) operators.Multiply (Counter 0))))
    ∷ return (two (Load (element (variable 0 fat) (Number 2))) operators.Add (NumberOfElements (apply (variable 0 fat) pointers.AddFat (Number 1) fat)))
    ∷ [])) ≡ HasEnded (Returned (pos 6))
squares = refl

-- int ?p = new {for i < 2 : i}; return p[2];
past_the_end : long_end (program (
    define 0 fat (convert fat fat (array OnHeap fat (Number 2) (Counter 0)))
    ∷ return (Load (element (variable 0 fat) (Number 2)))
    ∷ [])) ≡ HasEnded (Uncaught 2 (pos 0))
past_the_end = refl

-- int ?p = NULL; return p[putchar(65)];
-- In `p[i]`, both operands are evaluated before the checks; the null check comes before the bounds check.
null_element : end (program (define 0 fat (null_as fat) ∷ return (Load (element (variable 0 fat) (print (Number 65)))) ∷ [])) ≡ HasEnded (Uncaught 1 (pos 0))
null_element = refl

null_element_prints : printed (program (define 0 fat (null_as fat) ∷ return (Load (element (variable 0 fat) (print (Number 65)))) ∷ [])) ≡ 65 ∷ []
null_element_prints = refl

-- the array of letters; return *(p - 1 + 2);
-- The index of a fat pointer may become negative and come back into its bounds.
below_and_back : long_end (program (letters ∷ return (Load (target fat (apply (apply (variable 0 fat) pointers.SubtractFat (Number 1) fat) pointers.AddFat (Number 2) fat))) ∷ [])) ≡ HasEnded (Returned (pos 66))
below_and_back = refl

-- the array of letters; int *q = p + 1; return *q; and this program with int *q = p + 3;
thinned : long_end (program (letters ∷ define 1 star (convert fat star (apply (variable 0 fat) pointers.AddFat (Number 1) fat)) ∷ return (Load (target star (variable 1 star))) ∷ [])) ≡ HasEnded (Returned (pos 66))
thinned = refl

thinned_past_the_end : long_end (program (letters ∷ define 1 star (convert fat star (apply (variable 0 fat) pointers.AddFat (Number 3) fat)) ∷ return (Number 0) ∷ [])) ≡ HasEnded (Uncaught 2 (pos 0))
thinned_past_the_end = refl

-- example `int @p = new 5; int ?q = p; return numelts(q);` returns 1; with `numelts(q + 1)` it returns 0
one_element : end (program (define 0 fat (convert at fat (new OnHeap at (Number 5))) ∷ return (NumberOfElements (variable 0 fat)) ∷ [])) ≡ HasEnded (Returned (pos 1))
one_element = refl

no_element : end (program (define 0 fat (convert at fat (new OnHeap at (Number 5))) ∷ return (NumberOfElements (apply (variable 0 fat) pointers.AddFat (Number 1) fat)) ∷ [])) ≡ HasEnded (Returned (pos 0))
no_element = refl

-- int ?p = new {for i < 3 : i}; int ?q = &p[1]; putchar(48 + numelts(q)); putchar(48 + q[0]); return q[1];
-- The address of an element is a fat pointer to one element.
abbrev address_of_element : Program
address_of_element = program (
    define 0 fat (convert fat fat (array OnHeap fat (Number 3) (Counter 0)))
    ∷ define 1 fat (convert at fat (AddressOfCell (element (variable 0 fat) (Number 1)) at))
    ∷ execute (print (two (Number 48) operators.Add (NumberOfElements (variable 1 fat))))
    ∷ execute (print (two (Number 48) operators.Add (Load (element (variable 1 fat) (Number 0)))))
    ∷ return (Load (element (variable 1 fat) (Number 1)))
    ∷ [])

address_of_element_ends : long_end address_of_element ≡ HasEnded (Uncaught 2 (pos 0))
address_of_element_ends = refl

address_of_element_prints : long_printed address_of_element ≡ 49 ∷ 49 ∷ []
address_of_element_prints = refl

-- int ?p = new {for i < 3 : 5 + i}; int ?q = p - 1; putchar(48 + numelts(q)); putchar(48 + q[1]); putchar(48 + numelts(p + 3));
-- putchar(48 + numelts(p + 4)); return *q;
abbrev out_of_bounds : Program
out_of_bounds = program (
    define 0 fat (convert fat fat (array OnHeap fat (Number 3) (two (Number 5) operators.Add (Counter 0))))
    ∷ define 1 fat (convert fat fat (apply (variable 0 fat) pointers.SubtractFat (Number 1) fat))
    ∷ execute (print (two (Number 48) operators.Add (NumberOfElements (variable 1 fat))))
    ∷ execute (print (two (Number 48) operators.Add (Load (element (variable 1 fat) (Number 1)))))
    ∷ execute (print (two (Number 48) operators.Add (NumberOfElements (apply (variable 0 fat) pointers.AddFat (Number 3) fat))))
    ∷ execute (print (two (Number 48) operators.Add (NumberOfElements (apply (variable 0 fat) pointers.AddFat (Number 4) fat))))
    ∷ return (Load (target fat (variable 1 fat)))
    ∷ [])

out_of_bounds_ends : long_end out_of_bounds ≡ HasEnded (Uncaught 2 (pos 0))
out_of_bounds_ends = refl

out_of_bounds_prints : long_printed out_of_bounds ≡ 48 ∷ 53 ∷ 48 ∷ 48 ∷ []
out_of_bounds_prints = refl

-- int ?p = NULL; p = p + 1; int ?e = new {for i < 0 : 1}; if (e + 7) putchar(65); return (p == NULL) * 10 + numelts(p) + !p;
-- Arithmetic leaves null unchanged, and an out-of-bounds pointer is not null.
abbrev moved_null : Program
moved_null = program (
    define 0 fat (null_as fat)
    ∷ execute (set 0 fat (convert fat fat (apply (variable 0 fat) pointers.AddFat (Number 1) fat)))
    ∷ define 1 fat (convert fat fat (array OnHeap fat (Number 0) (Number 1)))
    ∷ when (apply (variable 1 fat) pointers.AddFat (Number 7) fat) (print (Number 65))
    ∷ return (two
    (two (two (apply (variable 0 fat) pointers.FatIsNull NullPointer Int) operators.Multiply (Number 10)) operators.Add (NumberOfElements (variable 0 fat)))
    operators.Add (Unary unary.Not (variable 0 fat)))
    ∷ [])

moved_null_ends : long_end moved_null ≡ HasEnded (Returned (pos 11))
moved_null_ends = refl

moved_null_prints : long_printed moved_null ≡ 65 ∷ []
moved_null_prints = refl

-- int ?p = new {for i < 3 : i + 4}; int *q = NULL; int ?r = (q = p + 1); return numelts(r) * 10 + r[0];
-- The value of an assignment is the stored value: a fat pointer stored as a thin one then has one element.
thinned_and_fat_again : long_end (program (
    define 0 fat (convert fat fat (array OnHeap fat (Number 3) (two (Counter 0) operators.Add (Number 4))))
    ∷ define 1 star (null_as star)
    ∷ define 2 fat (convert star fat (set 1 star (convert fat star (apply (variable 0 fat) pointers.AddFat (Number 1) fat))))
    ∷ return (two (two (NumberOfElements (variable 2 fat)) operators.Multiply (Number 10)) operators.Add (Load (element (variable 2 fat) (Number 0))))
    ∷ [])) ≡ HasEnded (Returned (pos 15))
thinned_and_fat_again = refl

-- int ??m = new {for i < 3 : new {for j < 3 : i * 10 + j}}; int ?@c = &m[1]; *c = m[2]; m[1][0] = 9;
-- return m[2][0] * 100 + m[1][2] + numelts(*c + 1);
abbrev fats : Ty
fats = Pointer marks.Fat fat Heap

abbrev at_fat : Ty
at_fat = Pointer marks.NonNull fat Heap

abbrev row : Expression → typed.Dereference
row i = Element (variable 0 fats) i fat

arrays_of_arrays : status_of (run (program (
    define 0 fats (convert fats fats (New OnHeap (Array here 0 (Number 3) kinds.Fat (
    New OnHeap (Array here 1 (Number 3) kinds.Int (two (two (Counter 0) operators.Multiply (Number 10)) operators.Add (Counter 1))) fat)) fats))
    ∷ define 1 at_fat (convert at_fat at_fat (AddressOfCell (row (Number 1)) at_fat))
    ∷ execute (typed.Store (typed.Target kinds.NonNull (variable 1 at_fat) fat) (convert fat fat (Load (row (Number 2)))) (Value fat))
    ∷ execute (put (element (Load (row (Number 1))) (Number 0)) (Number 9))
    ∷ return (two
    (two (two (Load (element (Load (row (Number 2))) (Number 0))) operators.Multiply (Number 100)) operators.Add (Load (element (Load (row (Number 1))) (Number 2))))
    operators.Add (NumberOfElements (apply (Load (typed.Target kinds.NonNull (variable 1 at_fat) fat)) pointers.AddFat (Number 1) fat)))
    ∷ [])) [] 900) ≡ HasEnded (Returned (pos 924))
arrays_of_arrays = refl

-- ---- the maximal length of an array

-- int n = -1; new {for i < n : 1};
array_of_negative_length : end (program (declare 0 (Unary unary.Negate (Number 1)) ∷ define 1 fat (convert fat fat (array OnHeap fat (local 0) (Number 1))) ∷ return (Number 0) ∷ [])) ≡ HasEnded (Uncaught 3 (pos 0))
array_of_negative_length = refl

-- `new {for i < 1001 : 1};` raises the exception for an array that is too long. With 1000 elements the allocation begins.
array_too_long : end (program (define 0 fat (convert fat fat (array OnHeap fat (Number 1001) (Number 1))) ∷ return (Number 0) ∷ [])) ≡ HasEnded (Uncaught 3 (pos 0))
array_too_long = refl

-- An array of 334 fat pointers has 1,002 machine words, which is more than an array may have. An array of 333 fat pointers has 999 machine
-- words.
array_of_too_many_words : makes_array (InRegion 0) 0 kinds.Fat (NullPointer) (Word 334) [] no_locals (first_world (program []) []) ≡ Running (Throwing 3 0) [] no_locals (first_world (program []) [])
array_of_too_many_words = refl

array_of_enough_words : makes_array (InRegion 0) 0 kinds.Fat NullPointer (Word 333) [] no_locals (first_world (program []) []) ≡ Running (Beginning (InRegion 0) 333 0 kinds.Fat NullPointer) [] no_locals (first_world (program []) [])
array_of_enough_words = refl

-- The number of words of a new array does not wrap: 1,431,655,766 fat pointers would have 2 words modulo 2 ^ 32.
array_that_would_wrap : makes_array (InRegion 0) 0 kinds.Fat NullPointer (Word 1431655766) [] no_locals (first_world (program []) []) ≡ Running (Throwing 3 0) [] no_locals (first_world (program []) [])
array_that_would_wrap = refl

-- int n = 2; int ?p = new {for i < n : (n = 9) + i}; return numelts(p) * 100 + p[1] + n;
-- The length of a new array is evaluated only once.
length_is_evaluated_once : long_end (program (
    declare 0 (Number 2)
    ∷ define 1 fat (convert fat fat (array OnHeap fat (local 0) (two (assign 0 (Number 9)) operators.Add (Counter 0))))
    ∷ return (two
    (two (two (NumberOfElements (variable 1 fat)) operators.Multiply (Number 100)) operators.Add (Load (element (variable 1 fat) (Number 1))))
    operators.Add (local 0))
    ∷ [])) ≡ HasEnded (Returned (pos 219))
length_is_evaluated_once = refl

-- int ?p = new {for i < 0 : 1}; try putchar(p[0]); catch { case &Array_bounds: putchar(97); } int n = -1;
-- try p = new {for i < n : 1}; catch { case &Array_size: putchar(98); } p = new {for i < 4 : 1};
-- try p = new {for i < 1001 : 1}; catch { case &Array_size: putchar(99); } return numelts(p);
abbrev ones : Expression → Expression
ones count = set 0 fat (convert fat fat (array OnHeap fat count (Number 1)))

abbrev caught_sizes : Program
caught_sizes = program (
    define 0 fat (convert fat fat (array OnHeap fat (Number 0) (Number 1)))
    ∷ try_to (typed.Evaluate (print (Load (element (variable 0 fat) (Number 0))))) (case 2 (execute (print (Number 97)) ∷ []) NoClauses)
    ∷ declare 1 (Unary unary.Negate (Number 1))
    ∷ try_to (typed.Evaluate (ones (local 1))) (case 3 (execute (print (Number 98)) ∷ []) NoClauses)
    ∷ execute (ones (Number 4))
    ∷ try_to (typed.Evaluate (ones (Number 1001))) (case 3 (execute (print (Number 99)) ∷ []) NoClauses)
    ∷ return (NumberOfElements (variable 0 fat))
    ∷ [])

caught_sizes_end : long_end caught_sizes ≡ HasEnded (Returned (pos 4))
caught_sizes_end = refl

caught_sizes_print : long_printed caught_sizes ≡ 97 ∷ 98 ∷ 99 ∷ []
caught_sizes_print = refl

-- int ?p = new {for i < 0 : 1}; return numelts(p) + (p == NULL);
-- A pointer to an empty array is not null.
empty_array : end (program (define 0 fat (convert fat fat (array OnHeap fat (Number 0) (Number 1))) ∷ return (two (NumberOfElements (variable 0 fat)) operators.Add (apply (variable 0 fat) pointers.FatIsNull NullPointer Int)) ∷ [])) ≡ HasEnded (Returned (pos 0))
empty_array = refl

-- an array whose elements contain an array: {for i < 2 : numelts(new {for j < i + 1 : j + i})}; return p[1];
nested_counters : long_end (program (
    define 0 fat (convert fat fat (New OnHeap (Array here 0 (Number 2) kinds.Int (
    Load (element (New OnHeap (Array here 1 (two (Counter 0) operators.Add (Number 1)) kinds.Int (two (Counter 1) operators.Add (Counter 0))) fat) (Counter 0)))) fat))
    ∷ return (Load (element (variable 0 fat) (Number 1)))
    ∷ [])) ≡ HasEnded (Returned (pos 2))
nested_counters = refl

-- ---- comparison

-- int @p = new 1; int *q = p; int *r = new 1; return (p == q) * 2 + (p == r);
equal_pointers : end (program (
    define 0 at (convert at at (new OnHeap at (Number 1)))
    ∷ define 1 star (convert at star (variable 0 at))
    ∷ define 2 star (convert at star (new OnHeap at (Number 1)))
    ∷ return (two (two (apply (variable 0 at) pointers.EqualThin (variable 1 star) Int) operators.Multiply (Number 2)) operators.Add (apply (variable 0 at) pointers.EqualThin (variable 2 star) Int))
    ∷ [])) ≡ HasEnded (Returned (pos 2))
equal_pointers = refl

-- example `return (p == NULL) + (NULL == p) * 2`: for a null pointer p, the result is 3
null_is_null : end (program (define 0 star (null_as star) ∷ return (two (apply (variable 0 star) pointers.ThinIsNull NullPointer Int) operators.Add (two (apply NullPointer pointers.NullIs (variable 0 star) Int) operators.Multiply (Number 2))) ∷ [])) ≡ HasEnded (Returned (pos 3))
null_is_null = refl
