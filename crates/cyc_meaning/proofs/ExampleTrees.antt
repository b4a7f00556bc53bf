-- Typed trees for examples, in a short notation.
use Rattle.std.specs.Prelude.{ℕ, List, [], ◌∷◌, Option, Some, None}
use Rattle.cyc_syntax.specs.Symbols.{Place}
use Rattle.cyc_syntax.specs.declared.tree.PointerKind.TheVariants as marks
use Rattle.cyc_types.specs.declared.region.Region.TheVariants.{Heap, Unique}
use Rattle.cyc_types.specs.declared.typed.Kind.TheVariants as kinds
use Rattle.cyc_types.specs.declared.typed.Callee.TheVariants as callees
use Rattle.cyc_types.specs.declared.typed.Operator.{Operator}
use Rattle.cyc_types.specs.declared.typed.LogicalOperator.TheVariants as logical
use Rattle.cyc_types.specs.declared.typed.PointerOperator.{PointerOperator}
use Rattle.cyc_types.specs.Types.{Ty, Int, Pointer, Void, Value}
use Rattle.cyc_types.specs.TypedTrees.{Expression, NullPointer, Copy, Move, Peek, Call, Binary, Assign, New, Dereference, Target, Element, Placement, Plain, Array, Converted, Convert, Arguments, NoArguments, MoreArguments, NoOperations}
use Rattle.cyc_types.specs.TypedTrees.{ThenCompute, ThenTest, ThenPointer, Side, VariableSide, Statement, Block, Empty, Evaluate, If, Return, Throw, Try, Clauses, Default, Case, Items, NoItems, MoreItems, Execute, Declare, Function, Program}
use Rattle.cyc_types.specs.TypedTrees as typed
use Rattle.cyc_meaning.specs.Values.{kind_of}
use Rattle.cyc_meaning.specs.State.{Status, output_of, status_of}
use Rattle.cyc_meaning.specs.Run.{run, limited_run}

-- ---- ints

abbrev pub here : Place
here = record { line = 1; column = 1 }

abbrev pub int : Expression → Converted
int a = Convert kinds.Int kinds.Int a

abbrev pub local : ℕ → Expression
local number = Copy (typed.Local here number) Int

abbrev pub global : ℕ → Expression
global number = Copy (typed.Global number) Int

abbrev pub two : Expression → Operator → Expression → Expression
two a operator b = Binary a (ThenCompute operator b NoOperations) Int

abbrev pub both : Expression → Expression → Expression
both a b = Binary a (ThenTest logical.AndThen b NoOperations) Int

abbrev pub either : Expression → Expression → Expression
either a b = Binary a (ThenTest logical.OrElse b NoOperations) Int

abbrev pub assign : ℕ → Expression → Expression
assign number a = Assign (typed.Local here number) (int a) (Value Int)

abbrev pub assign_global : ℕ → Expression → Expression
assign_global number a = Assign (typed.Global number) (int a) (Value Int)

abbrev pub print : Expression → Expression
print a = Call callees.Putchar (MoreArguments (int a) NoArguments) (Value Int)

abbrev pub read_byte : Expression
read_byte = Call callees.Getchar NoArguments (Value Int)

abbrev pub arguments : List Expression → Arguments
arguments [] = NoArguments
arguments (a ∷ as') = MoreArguments (int a) (arguments as')

abbrev pub call : ℕ → List Expression → Expression
call number as' = Call (callees.Function number) (arguments as') (Value Int)

abbrev pub items : List typed.Item → Items
items [] = NoItems
items (i ∷ is) = MoreItems i (items is)

abbrev pub execute : Expression → typed.Item
execute a = Execute (Evaluate a)

abbrev pub return : Expression → typed.Item
return a = Execute (Return (Some (int a)))

abbrev pub declare : ℕ → Expression → typed.Item
declare number a = Declare number Int (Some (int a))

abbrev pub block : List typed.Item → Statement
block is = Block 1 (items is)

abbrev pub while : Expression → Statement → typed.Item
while a s = Execute (typed.While here a s)

-- A function with the given parameter types that returns an int.
abbrev pub function : List Ty → List typed.Item → Function
function parameters is = record {
  name = 0;
  place = here;
  parameters = parameters;
  result = Some Int;
  variables = 0;
  effect = [];
  constraints = [];
  locals = [];
  region = 0;
  regions = 2;
  body = items is;
  end = here;
}

-- A program that consists of `main`, which is the function with index 0, and of other functions.
abbrev pub program_with : List Function → List typed.Item → Program
program_with functions is = record { structs = []; exceptions = []; globals = []; functions = function [] is ∷ functions; main = 0 }

abbrev pub program : List typed.Item → Program
program is = program_with [] is

-- Returns the status of a program after a run of up to 100 steps.
abbrev pub end : Program → Status
end p = status_of (run p [] 100)

abbrev pub printed : Program → List ℕ
printed p = output_of (run p [] 100)

-- Returns the status of a program after a run of up to 600 steps.
abbrev pub long_end : Program → Status
long_end p = status_of (run p [] 600)

abbrev pub long_printed : Program → List ℕ
long_printed p = output_of (run p [] 600)

-- Returns the status of a program that may have at most `calls` active calls and three pages.
abbrev pub limited_end : ℕ → Program → Status
limited_end calls p = status_of (limited_run p 3 calls [] 300)

abbrev pub limited_printed : ℕ → Program → List ℕ
limited_printed calls p = output_of (limited_run p 3 calls [] 300)

-- Returns the status of a program that reads the given input.
abbrev pub end_on : List ℕ → Program → Status
end_on input p = status_of (run p input 300)

abbrev pub printed_on : List ℕ → Program → List ℕ
printed_on input p = output_of (run p input 300)

-- ---- types

abbrev pub star : Ty
star = Pointer marks.Nullable Int Heap

abbrev pub at : Ty
at = Pointer marks.NonNull Int Heap

abbrev pub fat : Ty
fat = Pointer marks.Fat Int Heap

-- The types of unique pointers that the examples use.
abbrev pub own_star : Ty
own_star = Pointer marks.Nullable Int Unique

abbrev pub own : Ty
own = Pointer marks.NonNull Int Unique

abbrev pub own_fat : Ty
own_fat = Pointer marks.Fat Int Unique

-- ---- expressions on pointers

-- Converts the value of an expression from the type `from` to the type `to`.
abbrev pub convert : (from to : Ty) → Expression → Converted
convert from to a = Convert (kind_of from) (kind_of to) a

abbrev pub null_as : Ty → Converted
null_as t = Convert kinds.Nullable (kind_of t) NullPointer

abbrev pub variable : ℕ → Ty → Expression
variable number t = Copy (typed.Local here number) t

abbrev pub move : ℕ → Ty → Expression
move number t = Move here number t

abbrev pub peek : ℕ → Ty → Expression
peek number t = Peek here number t

-- `*e`, where e is a pointer of the given type to an int
abbrev pub target : Ty → Expression → Dereference
target t a = Target (kind_of t) a Int

abbrev pub element : Expression → Expression → Dereference
element a i = Element a i Int

abbrev pub apply : Expression → PointerOperator → Expression → Ty → Expression
apply a operator b t = Binary a (ThenPointer operator b NoOperations) t

-- `d = e` assigns an int to the cell d.
abbrev pub put : Dereference → Expression → Expression
put d a = typed.Store d (int a) (Value Int)

abbrev pub set : ℕ → Ty → Converted → Expression
set number t c = Assign (typed.Local here number) c (Value t)

abbrev pub new : Placement → Ty → Expression → Expression
new placement t a = New placement (Plain kinds.Int a) t

-- `{for i < n : e}` as an initial value, with the loop counter of the outermost array `for`
abbrev pub array : Placement → Ty → Expression → Expression → Expression
array placement t n a = New placement (Array here 0 n kinds.Int a) t

-- ---- statements

abbrev pub define : ℕ → Ty → Converted → typed.Item
define number t c = Declare number t (Some c)

abbrev pub when : Expression → Expression → typed.Item
when a b = Execute (If a (Evaluate b) Empty)

abbrev pub try_to : Statement → Clauses → typed.Item
try_to s clauses = Execute (Try s clauses)

abbrev pub case : ℕ → List typed.Item → Clauses → Clauses
case tag is later = Case tag None 1 (items is) later

abbrev pub otherwise : List typed.Item → Clauses
otherwise is = Default 1 (items is)

abbrev pub throw : ℕ → Option Expression → typed.Item
throw tag a = Execute (Throw tag a)

abbrev pub side : ℕ → Ty → Side
side number t = VariableSide (typed.Local here number) t

-- ---- programs

-- A `void` function with the given parameter types.
abbrev pub procedure : List Ty → List typed.Item → Function
procedure parameters is = record (function parameters is) { result = None }

abbrev pub call_void : ℕ → Converted → typed.Item
call_void number c = execute (Call (callees.Function number) (MoreArguments c NoArguments) Void)

-- Returns the status of a program's limited run, with the given numbers of pages and calls, after up to 400 steps.
abbrev pub end_within : (pages calls : ℕ) → Program → Status
end_within pages calls p = status_of (limited_run p pages calls [] 400)

abbrev pub printed_within : (pages calls : ℕ) → Program → List ℕ
printed_within pages calls p = output_of (limited_run p pages calls [] 400)
