-- Examples of chars, each proved by computation. The expected results come from the language's rules.
use Rattle.std.proofs.Common.{◌≡◌, ℕ, [], ◌∷◌, Some, None, pos, refl}
use Rattle.cyc_words.specs.Ending.{Returned}
use Rattle.cyc_types.specs.declared.typed.Kind.TheVariants as kinds
use Rattle.cyc_types.specs.declared.typed.UnaryOperator.TheVariants as unary
use Rattle.cyc_types.specs.declared.typed.Callee.TheVariants as callees
use Rattle.cyc_types.specs.declared.typed.Operator.TheVariants as operators
use Rattle.cyc_types.specs.Types.{Ty, Int, Char, Pointer, Struct, Value}
use Rattle.cyc_syntax.specs.declared.tree.PointerKind.TheVariants as marks
use Rattle.cyc_types.specs.declared.region.Region.TheVariants.{Heap}
use Rattle.cyc_types.specs.TypedTrees.{Expression, Number, Counter, Copy, Call, Load, AddressOf, Unary, Assign, New, Dereference, Target, Member, Element, OnHeap, Fields, Array, Convert, Converted, MoreArguments, NoArguments, CellSide, Swap, Return, Execute, Declare, Function, Program}
use Rattle.cyc_types.specs.TypedTrees as typed
use Rattle.cyc_meaning.specs.Values.{Int as Word}
use Rattle.cyc_meaning.specs.State.{InRegion, HasEnded, IsWrong, Running, Beginning, Throwing, no_locals, first_world}
use Rattle.cyc_meaning.specs.Allocation.{makes_array}
use Rattle.cyc_meaning.proofs.ExampleTrees.{here, int, local, two, print, execute, return, declare, function, program, program_with, end, long_end, long_printed, convert, variable, define}

-- ---- trees

-- Examples: an int converted to a char keeps only its low byte, and a char converts to an int.
abbrev low : Expression → Converted
low a = Convert kinds.Int kinds.Char a

abbrev up : Expression → Converted
up a = Convert kinds.Char kinds.Int a

-- Converts a char to an int, for use as an int.
abbrev wide : Expression → Expression
wide a = Unary unary.Widen a

abbrev char : ℕ → Expression
char number = Copy (typed.Local here number) Char

abbrev sum : Expression → Expression → Expression
sum a b = two a operators.Add b

abbrev star : Ty
star = Pointer marks.Nullable Char Heap

abbrev at : Ty
at = Pointer marks.NonNull Char Heap

abbrev fat : Ty
fat = Pointer marks.Fat Char Heap

abbrev put : Dereference → Expression → Expression
put d a = typed.Store d (low a) (Value Char)

-- ---- conversions

-- int low(char c) { return c; } int main() { int x = 600; char c = x; c = x; int y = low(x); return x + c + y; }
abbrev low_of : Function
low_of = function (Char ∷ []) (Execute (Return (Some (up (char 0)))) ∷ [])

int_keeps_its_bits : long_end (program_with (low_of ∷ []) (
    declare 0 (Number 600)
    ∷ define 1 Char (low (local 0))
    ∷ execute (Assign (typed.Local here 1) (low (local 0)) (Value Char))
    ∷ declare 2 (Call (callees.Function 1) (MoreArguments (low (local 0)) NoArguments) (Value Int))
    ∷ return (sum (sum (local 0) (wide (char 1))) (local 2))
    ∷ [])) ≡ HasEnded (Returned (pos 776))
int_keeps_its_bits = refl

-- char c; int x = (c = 300); return x + c;
assignment_gives_the_char : end (program (
    Declare 0 Char None
    ∷ define 1 Int (up (Assign (typed.Local here 0) (low (Number 300)) (Value Char)))
    ∷ return (sum (local 1) (wide (char 0)))
    ∷ [])) ≡ HasEnded (Returned (pos 88))
assignment_gives_the_char = refl

-- char c; return c;
char_holds_nothing_yet : end (program (Declare 0 Char None ∷ return (wide (char 0)) ∷ [])) ≡ IsWrong
char_holds_nothing_yet = refl

-- return char(-2) + char(char(256 + 7));
low_bytes : end (program (
    return (sum
    (wide (Unary unary.LowByte (Unary unary.Negate (Number 2))))
    (wide (Unary unary.LowByte (wide (Unary unary.LowByte (sum (Number 256) (Number 7)))))))
    ∷ [])) ≡ HasEnded (Returned (pos 261))
low_bytes = refl

-- `char a = 200; char b = 100; return a + b;`: the chars are converted to ints before they are added
sum_of_chars : end (program (define 0 Char (low (Number 200)) ∷ define 1 Char (low (Number 100)) ∷ return (sum (wide (char 0)) (wide (char 1))) ∷ [])) ≡ HasEnded (Returned (pos 300))
sum_of_chars = refl

-- A char that is used as an int without a conversion makes the program wrong.
char_is_no_int : end (program (define 0 Char (low (Number 200)) ∷ return (sum (char 0) (Number 1)) ∷ [])) ≡ IsWrong
char_is_no_int = refl

-- ---- cells

-- int x = -1; char c = 1; char *p = &c; *p = x; x = c; return x;
char_by_its_address : end (program (
    declare 0 (Unary unary.Negate (Number 1))
    ∷ define 1 Char (low (Number 1))
    ∷ define 2 star (convert at star (AddressOf (typed.Local here 1) at))
    ∷ execute (put (Target kinds.Nullable (variable 2 star) Char) (local 0))
    ∷ execute (Assign (typed.Local here 0) (up (char 1)) (Value Int))
    ∷ return (local 0)
    ∷ [])) ≡ HasEnded (Returned (pos 255))
char_by_its_address = refl

-- example `char ?s = new {for i < 4 : char(65 + i)}; s[0] :=: s[3]; s[1] = 256 + 90;` makes the chars 68, 90, 67 and 65
abbrev s : ℕ → Dereference
s i = Element (variable 0 fat) (Number i) Char

array_of_chars : long_printed (program (
    define 0 fat (convert fat fat (New OnHeap (Array here 0 (Number 4) kinds.Char (Unary unary.LowByte (sum (Number 65) (Counter 0)))) fat))
    ∷ Execute (Swap (CellSide (s 0)) (CellSide (s 3)))
    ∷ execute (put (s 1) (Number 346))
    ∷ execute (print (wide (Load (s 0))))
    ∷ execute (print (wide (Load (s 1))))
    ∷ execute (print (wide (Load (s 2))))
    ∷ execute (print (wide (Load (s 3))))
    ∷ return (Number 0)
    ∷ [])) ≡ 68 ∷ 90 ∷ 67 ∷ 65 ∷ []
array_of_chars = refl

-- An array of 4,000 chars has 1,000 words, which is the greatest size that an array may have.
most_chars : makes_array (InRegion 0) 0 kinds.Char (Number 0) (Word 4000) [] no_locals (first_world (program []) [])
    ≡ Running (Beginning (InRegion 0) 4000 0 kinds.Char (Number 0)) [] no_locals (first_world (program []) [])
most_chars = refl

too_many_chars : makes_array (InRegion 0) 0 kinds.Char (Number 0) (Word 4001) [] no_locals (first_world (program []) [])
    ≡ Running (Throwing 3 0) [] no_locals (first_world (program []) [])
too_many_chars = refl

-- struct S { char a; int b; char c; char d; }; struct S @s = new S{1, 2, 300, 4}; s->a = 9; return s->a * 100 + s->c + s->d;
abbrev with_struct : Program → Program
with_struct p = record p { structs = record { parameters = 0; fields = Char ∷ Int ∷ Char ∷ Char ∷ [] } ∷ [] }

abbrev s_at : Ty
s_at = Pointer marks.NonNull (Struct 0 []) Heap

abbrev field : ℕ → Ty → Dereference
field n t = Member kinds.NonNull (variable 0 s_at) 0 n t

struct_with_chars : long_end (with_struct (program (
    define 0 s_at (convert s_at s_at (New OnHeap (Fields (
    MoreArguments (low (Number 1)) (MoreArguments (int (Number 2)) (MoreArguments (low (Number 300)) (MoreArguments (low (Number 4)) NoArguments))))) s_at))
    ∷ execute (put (field 0 Char) (Number 9))
    ∷ return (sum (sum (two (wide (Load (field 0 Char))) operators.Multiply (Number 100)) (wide (Load (field 2 Char)))) (wide (Load (field 3 Char))))
    ∷ []))) ≡ HasEnded (Returned (pos 948))
struct_with_chars = refl
