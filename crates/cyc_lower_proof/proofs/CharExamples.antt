-- This file has examples of the type `char`: their code, and programs that are lowered and run on the plain machine,
-- each proved by computation.
use Rattle.std.proofs.Common.{◌≡◌, ℕ, List, [], ◌∷◌, pos, refl, Some, None}
use Rattle.cyc_words.specs.Ending.{Returned}
use Rattle.cyc_words.specs.Simulation.{Ended}
use Rattle.cyc_types.specs.declared.typed.Kind.TheVariants as kinds
use Rattle.cyc_types.specs.declared.typed.Callee.TheVariants.{Function as Calls}
use Rattle.cyc_types.specs.declared.typed.UnaryOperator.TheVariants as unary
use Rattle.cyc_types.specs.declared.typed.Operator.TheVariants.{Add, Multiply}
use Rattle.cyc_types.specs.Types.{Ty, Int, Char, Pointer, Struct, Value}
use Rattle.cyc_types.specs.TypedTrees.{Lvalue, Local, Global, Expression, Number, Copy, Load, AddressOf, Call, Unary, Assign, Store, New, Dereference, Target, Member, OnHeap, Fields, Converted, Convert, NoArguments}
use Rattle.cyc_types.specs.TypedTrees.{MoreArguments, NoOperations, ThenCompute, CellSide, Statement, Evaluate, Swap, Items, NoItems, MoreItems, Declare, Word, GlobalVariable, StructType, Function, Program}
use Rattle.cyc_types.specs.declared.region.Region.TheVariants.{Heap}
use Rattle.cyc_syntax.specs.declared.tree.PointerKind.TheVariants.{Nullable, NonNull, Fat}
use Rattle.cyc_plain.specs.declared.instruction.Operand.TheVariants.{Slot, Word as Constant}
use Rattle.cyc_plain.specs.declared.instruction.Instruction.TheVariants.{Move}
use Rattle.cyc_plain.specs.declared.instruction.Instruction.TheVariants as instructions
use Rattle.cyc_plain.specs.declared.instruction.BinaryOperator.TheVariants as plain_binary
use Rattle.cyc_plain.specs.declared.instruction.Comparison.TheVariants as comparisons
use Rattle.cyc_store.specs.State as stores
use Rattle.cyc_store.specs.declared.range.TheConstants.{HEAP, STORE_BASE}
use Rattle.cyc_plain.specs.inside.State.{status_of}
use Rattle.cyc_plain.specs.inside.Step.{Choice, run, start}
use Rattle.cyc_plain.proofs.RunLaws.{zeros}
use Rattle.cyc_lower_proof.specs.inside.Slots.{starts_from, global_types}
use Rattle.cyc_lower_proof.specs.inside.Lowering.{function_code, lower_program, lower_globals}
use Rattle.cyc_lower_proof.proofs.Examples.{nowhere, int, local, two, all, returns, function, ends, fat_global}

-- ---- trees

-- The expression `a` of type int converted to a char, which keeps the low byte. The next definition converts a char to an int.
abbrev low : Expression → Converted
low a = Convert kinds.Int kinds.Char a

abbrev wide : Expression → Expression
wide a = Unary unary.Widen a

abbrev char : ℕ → Expression
char n = Copy (Local nowhere n) Char

abbrev sum : Expression → Expression → Expression
sum a b = two a (ThenCompute Add b NoOperations)

abbrev star : Ty
star = Pointer Nullable Char Heap

abbrev address : Lvalue → Converted
address l = Convert kinds.NonNull kinds.Nullable (AddressOf l (Pointer NonNull Char Heap))

-- The statement `*p = n`, where the pointer `p` is in a local.
abbrev puts : (pointer : ℕ) → Expression → Statement
puts p a = Evaluate (Store (Target kinds.Nullable (Copy (Local nowhere p) star) Char) (low a) (Value Char))

abbrev char_global : GlobalVariable
char_global = record { name = 0; of_type = Char; value = Word 200 }

abbrev program : List StructType → List Ty → Items → List Function → Program
program structs locals body others =
    record { structs = structs; exceptions = []; globals = char_global ∷ []; functions = function [] locals body ∷ others; main = 0 }

-- ---- code

-- An int becomes a char when its low byte is moved to the slot of the char; the slot of the int keeps its word.
char_is_masked : function_code [] [] None (function [] (Int ∷ Char ∷ []) (all (Evaluate (Assign (Local nowhere 1) (low (local 0)) (Value Char)) ∷ []))) ≡
    instructions.Binary plain_binary.And 1 (Slot 0) (Constant 255)
    ∷ instructions.Finish 2 ∷ []
char_is_masked = refl

-- An int is stored in a memory cell of type char: its low byte is first moved to a temporary, the one after
-- the temporary that holds the cell's address.
char_is_stored : function_code [] [] None (function [] (Int ∷ star ∷ []) (all (puts 1 (local 0) ∷ []))) ≡
    instructions.Branch comparisons.Equal (Slot 1) (Constant 0) 7 ∷ Move 3 (Slot 1)
    ∷ instructions.Binary plain_binary.And 4 (Slot 0) (Constant 255) ∷ instructions.StoreByte (Slot 3) 0 (Slot 4)
    ∷ instructions.Finish 2
    ∷ instructions.Binary plain_binary.Add 2 (Slot 2) (Constant 1) ∷ instructions.Throw (Slot 2) (Constant 0)
    ∷ instructions.Throw (Constant 1) (Constant 0) ∷ []
char_is_stored = refl

-- A char can be used as an operand like an int, without an instruction that converts it.
char_is_operand : function_code [] [] None (function [] (Int ∷ Char ∷ []) (all (Evaluate (Assign (Local nowhere 0) (int (sum (wide (char 1)) (Number 1))) (Value Int)) ∷ []))) ≡
    instructions.Binary plain_binary.Add 0 (Slot 1) (Constant 1)
    ∷ instructions.Finish 2 ∷ []
char_is_operand = refl

-- The word in the slot of a char is below 256 from its declaration on.
char_without_value : function_code [] [] None (function [] (Char ∷ []) (MoreItems (Declare 0 Char None) NoItems)) ≡
    Move 0 (Constant 0) ∷ instructions.Finish 1 ∷ []
char_without_value = refl

-- The address of a local of type char is the address of the last byte of the word in its slot.
address_of_char_local : function_code [] [] None (function [] (Pointer Fat Int Heap ∷ Char ∷ star ∷ []) (MoreItems (Declare 2 star (Some (address (Local nowhere 1)))) NoItems)) ≡
    instructions.AddressOf 4 3 1 ∷ instructions.Binary plain_binary.Add 4 (Slot 4) (Constant 3)
    ∷ instructions.Finish 5 ∷ []
address_of_char_local = refl

address_of_char_global : function_code [] (starts_from 0 (global_types (fat_global ∷ char_global ∷ []))) None (function [] (star ∷ []) (MoreItems (Declare 0 star (Some (address (Global 1)))) NoItems)) ≡
    Move 0 (Constant 0x1000000f) ∷ instructions.Finish 1 ∷ []
address_of_char_global = refl

word_of_global : lower_globals (char_global ∷ []) ≡ 200 ∷ []
word_of_global = refl

-- ---- runs

-- int x = 600; char c = x; return x + c;
int_keeps_its_word : ends 20 (program [] (Int ∷ Char ∷ []) (
    MoreItems (Declare 0 Int (Some (int (Number 600))))
    (MoreItems (Declare 1 Char (Some (low (local 0))))
    (all (returns (sum (local 0) (wide (char 1))) ∷ [])))) []) [] ≡ Ended (Returned (pos 688))
int_keeps_its_word = refl

-- int x = -1; char c = 1; char *p = &c; *p = x; x = c; return x;
char_is_stored_to : ends 40 (program [] (Int ∷ Char ∷ star ∷ []) (
    MoreItems (Declare 0 Int (Some (int (Unary unary.Negate (Number 1)))))
    (MoreItems (Declare 1 Char (Some (low (Number 1))))
    (MoreItems (Declare 2 star (Some (address (Local nowhere 1))))
    (all (puts 2 (local 0) ∷ Evaluate (Assign (Local nowhere 0) (Convert kinds.Char kinds.Int (char 1)) (Value Int)) ∷ returns (local 0) ∷ []))))) []) [] ≡ Ended (Returned (pos 255))
char_is_stored_to = refl

-- int f(char *p) { *p = 300; return 1; } int main() { char c; f(&c); return c + 1; }
char_waits : ends 60 (program [] (Char ∷ []) (
    MoreItems (Declare 0 Char None)
    (all (Evaluate (Call (Calls 1) (MoreArguments (address (Local nowhere 0)) NoArguments) (Value Int)) ∷ returns (sum (wide (char 0)) (Number 1)) ∷ [])))
    (function (star ∷ []) [] (all (puts 0 (Number 300) ∷ returns (Number 1) ∷ [])) ∷ [])) [] ≡ Ended (Returned (pos 45))
char_waits = refl

-- char g = 200; int main() { char *p = &g; *p = *p + 1; return g; }
char_global_is_stored_to : ends 40 (program [] (star ∷ []) (
    MoreItems (Declare 0 star (Some (address (Global 0))))
    (all (puts 0 (sum (wide (Load (Target kinds.Nullable (Copy (Local nowhere 0) star) Char))) (Number 1)) ∷ returns (wide (Copy (Global 0) Char)) ∷ []))) []) [] ≡ Ended (Returned (pos 201))
char_global_is_stored_to = refl

-- struct S { char a; int b; char c; char d; }; struct S @s = new S{1, 2, 300, 4}; s->a = 9; s->c :=: s->d; return s->a * 1000 + s->c * 100
-- + s->d;
-- In this example the struct is allocated at the first address of the heap store.
abbrev s_at : Ty
s_at = Pointer NonNull (Struct 0 []) Heap

abbrev field : ℕ → Dereference
field n = Member kinds.NonNull (Copy (Local nowhere 0) s_at) 0 n Char

abbrev times : Expression → ℕ → Expression
times a n = two (wide a) (ThenCompute Multiply (Number n) NoOperations)

abbrev with_struct : Program
with_struct = program (record { parameters = 0; fields = Char ∷ Int ∷ Char ∷ Char ∷ [] } ∷ []) (s_at ∷ []) (
    MoreItems (Declare 0 s_at (Some (Convert kinds.NonNull kinds.NonNull (New OnHeap (Fields (
    MoreArguments (low (Number 1)) (MoreArguments (int (Number 2)) (MoreArguments (low (Number 300)) (MoreArguments (low (Number 4)) NoArguments))))) s_at))))
    (all (
    Evaluate (Store (field 0) (low (Number 9)) (Value Char))
    ∷ Swap (CellSide (field 2)) (CellSide (field 3))
    ∷ returns (sum (sum (times (Load (field 0)) 1000) (times (Load (field 2)) 100)) (wide (Load (field 3))))
    ∷ []))) []

abbrev first_block : Choice
first_block = record zeros { serving = record { handle = HEAP; address = STORE_BASE; memory = λ (address : ℕ). 0 } }

cells_of_a_struct : status_of (run (lower_program with_struct) 3 9 first_block 80 (start (lower_program with_struct) 0x7ffff000 (stores.start 3 (λ (address : ℕ). 0)) [])) ≡ Ended (Returned (pos 9444))
cells_of_a_struct = refl
