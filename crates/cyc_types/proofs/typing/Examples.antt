-- Examples of the typing rules of the whole language, by computation. Each verdict is preceded by the text of its program.
use Rattle.std.specs.Prelude.{◌≡◌, ℕ, Bool, true, false, List, [], ◌∷◌, Option, Some, None, Ok, Err, codes, refl}
use Rattle.cyc_words.specs.declared.fault.Code.{Code}
use Rattle.cyc_words.specs.declared.fault.Code.TheVariants as faults
use Rattle.cyc_words.specs.declared.fault.Fault.{Fault}
use Rattle.cyc_syntax.specs.declared.tree.PointerKind.{PointerKind}
use Rattle.cyc_syntax.specs.declared.tree.PointerKind.TheVariants as marks
use Rattle.cyc_syntax.specs.declared.tree.PrefixOperator.TheVariants as prefixes
use Rattle.cyc_syntax.specs.declared.tree.BinaryOperator.TheVariants as operators
use Rattle.cyc_syntax.specs.Symbols.{Place}
use Rattle.cyc_syntax.specs.Trees.{Named, Pointer, BaseType, Int, Struct, Handle, Key, WrittenType, Number, Null, UniqueRegion, Variable, Call, Bracketed, NumberOfElements, FreeUnique, FreeKey, Chained, Prefixed, New, RegionNew, Binary, Assign, Plain}
use Rattle.cyc_syntax.specs.Trees.{Fields, Array, NoExpressions, MoreExpressions, NoPostfixes, ThenIndex, ThenField, NoOperations, ThenOperation, Block, Labelled, Empty, Evaluate, Swap, If, While, Return, Break, Continue, Throw, Try, Braces, NoItems}
use Rattle.cyc_syntax.specs.Trees.{MoreItems, Execute, Local, Region, Alias, DynamicRegion, NoClauses, Default, Case, Member, Constructor, Byte, NullPointer, Constraint, ParameterList, Listed, Parameters, Declaration, StructType, Exceptions, Global, Function}
use Rattle.cyc_types.specs.declared.region.Region.TheVariants as regions
use Rattle.cyc_types.specs.declared.typed.Kind.TheVariants as kinds
use Rattle.cyc_types.specs.declared.typed.Callee.TheVariants as callees
use Rattle.cyc_types.specs.Types as types
use Rattle.cyc_types.specs.Rules.{Checked, fault_at}
use Rattle.cyc_types.specs.TypedTrees as typed
use Rattle.cyc_types.specs.typing.Programs.{check_of}

abbrev at : ℕ → ℕ → Place
at l c = record { line = l; column = c }

-- the texts of the identifiers in the example programs; an identifier's number is the index of its text in this list
abbrev texts : List (List ℕ)
texts = codes "main" ∷ codes "S" ∷ codes "p" ∷ codes "x" ∷ codes "y" ∷ codes "f" ∷ codes "a" ∷ codes "q" ∷ codes "L" ∷ codes "r" ∷ codes "g" ∷ codes "h" ∷ codes "H" ∷ codes "Div_zero" ∷ codes "A" ∷ codes "v" ∷ codes "n" ∷ codes "b" ∷ codes "s" ∷ codes "k" ∷ codes "U" ∷ codes "P" ∷ codes "i" ∷ codes "u" ∷ codes "id" ∷ codes "d" ∷ codes "keep" ∷ codes "B" ∷ codes "get" ∷ codes "is" ∷ []

abbrev named : ℕ → ℕ → ℕ → Named
named n l c = record { name = n; place = at l c }

abbrev the_main : ℕ → ℕ → Named
the_main = named 0

abbrev the_S : ℕ → ℕ → Named
the_S = named 1

abbrev the_p : ℕ → ℕ → Named
the_p = named 2

abbrev the_x : ℕ → ℕ → Named
the_x = named 3

abbrev the_y : ℕ → ℕ → Named
the_y = named 4

abbrev the_f : ℕ → ℕ → Named
the_f = named 5

abbrev the_a : ℕ → ℕ → Named
the_a = named 6

abbrev the_q : ℕ → ℕ → Named
the_q = named 7

abbrev the_L : ℕ → ℕ → Named
the_L = named 8

abbrev the_r : ℕ → ℕ → Named
the_r = named 9

abbrev the_g : ℕ → ℕ → Named
the_g = named 10

abbrev the_h : ℕ → ℕ → Named
the_h = named 11

abbrev the_H : ℕ → ℕ → Named
the_H = named 12

abbrev the_Div_zero : ℕ → ℕ → Named
the_Div_zero = named 13

abbrev the_A : ℕ → ℕ → Named
the_A = named 14

abbrev the_v : ℕ → ℕ → Named
the_v = named 15

abbrev the_n : ℕ → ℕ → Named
the_n = named 16

abbrev the_b : ℕ → ℕ → Named
the_b = named 17

abbrev the_s : ℕ → ℕ → Named
the_s = named 18

abbrev the_k : ℕ → ℕ → Named
the_k = named 19

abbrev the_U : ℕ → ℕ → Named
the_U = named 20

abbrev the_P : ℕ → ℕ → Named
the_P = named 21

abbrev the_i : ℕ → ℕ → Named
the_i = named 22

abbrev the_u : ℕ → ℕ → Named
the_u = named 23

abbrev the_id : ℕ → ℕ → Named
the_id = named 24

abbrev the_d : ℕ → ℕ → Named
the_d = named 25

abbrev the_keep : ℕ → ℕ → Named
the_keep = named 26

abbrev the_B : ℕ → ℕ → Named
the_B = named 27

abbrev the_get : ℕ → ℕ → Named
the_get = named 28

abbrev the_is : ℕ → ℕ → Named
the_is = named 29

abbrev mark : PointerKind → Option Named → Pointer
mark k r = record { kind = k; region = r }

abbrev written : Place → BaseType → List Pointer → WrittenType
written p b ms = record { place = p; base = b; marks = ms }

abbrev member : WrittenType → Named → Member
member w x = record { of_type = w; name = x }

abbrev constructor : Named → Bool → Constructor
constructor x b = record { name = x; has_int = b }

abbrev constraint : Named → Named → Constraint
constraint a b = record { longer = a; shorter = b }

abbrev parameters : ParameterList → Option (List Named) → List Constraint → Parameters
parameters l e cs = record { list = l; effect = e; constraints = cs }

abbrev fault : Code → ℕ → ℕ → Option Fault
fault c l k = Some (fault_at c (at l k))

abbrev refusal : Checked typed.Program → Option Fault
refusal (Ok p) = None
refusal (Err f) = Some f

-- the typing fault of a program, or `None`
abbrev verdict : List Declaration → Option Fault
verdict tree = refusal (check_of texts tree)

-- ---- names

-- int main(){ struct S *p = NULL; return 0; }
unknown_struct : verdict (Function (Some (written (at 1 1) Int [])) (the_main 1 5) (parameters (Listed []) None []) (Braces (at 1 11) (MoreItems (Local (written (at 1 13) (Struct (the_S 1 20) []) ((mark marks.Nullable None) ∷ [])) (the_p 1 23) (Some (Null (at 1 27)))) (MoreItems (Execute (Return (at 1 33) (Some (Number (at 1 40) 0)))) NoItems)) (at 1 43)) ∷ []) ≡ fault faults.UnknownName 1 20
unknown_struct = refl

-- struct S { int x; }; int main(){ struct S *p = NULL; return p->y; }
unknown_field : verdict (StructType (the_S 1 8) [] ((member (written (at 1 12) Int []) (the_x 1 16)) ∷ []) ∷ Function (Some (written (at 1 22) Int [])) (the_main 1 26) (parameters (Listed []) None []) (Braces (at 1 32) (MoreItems (Local (written (at 1 34) (Struct (the_S 1 41) []) ((mark marks.Nullable None) ∷ [])) (the_p 1 44) (Some (Null (at 1 48)))) (MoreItems (Execute (Return (at 1 54) (Some (Chained (Variable (the_p 1 61)) (ThenField (the_y 1 64) NoPostfixes))))) NoItems)) (at 1 67)) ∷ []) ≡ fault faults.UnknownName 1 64
unknown_field = refl

-- int f(int *p){ int *`a q = p; return 0; } int main(){ return 0; }
unknown_region : verdict (Function (Some (written (at 1 1) Int [])) (the_f 1 5) (parameters (Listed ((member (written (at 1 7) Int ((mark marks.Nullable None) ∷ [])) (the_p 1 12)) ∷ [])) None []) (Braces (at 1 14) (MoreItems (Local (written (at 1 16) Int ((mark marks.Nullable (Some (the_a 1 21))) ∷ [])) (the_q 1 24) (Some (Variable (the_p 1 28)))) (MoreItems (Execute (Return (at 1 31) (Some (Number (at 1 38) 0)))) NoItems)) (at 1 41)) ∷ Function (Some (written (at 1 43) Int [])) (the_main 1 47) (parameters (Listed []) None []) (Braces (at 1 53) (MoreItems (Execute (Return (at 1 55) (Some (Number (at 1 62) 0)))) NoItems) (at 1 65)) ∷ []) ≡ fault faults.UnknownName 1 21
unknown_region = refl

-- int main(){ L: { int y = 1; int *`L p = &y; } return 0; }
label_is_known_in_its_block : verdict (Function (Some (written (at 1 1) Int [])) (the_main 1 5) (parameters (Listed []) None []) (Braces (at 1 11) (MoreItems (Execute (Labelled (the_L 1 13) (Braces (at 1 16) (MoreItems (Local (written (at 1 18) Int []) (the_y 1 22) (Some (Number (at 1 26) 1))) (MoreItems (Local (written (at 1 29) Int ((mark marks.Nullable (Some (the_L 1 34))) ∷ [])) (the_p 1 37) (Some (Prefixed (at 1 41) prefixes.AddressOf (Variable (the_y 1 42))))) NoItems)) (at 1 45)))) (MoreItems (Execute (Return (at 1 47) (Some (Number (at 1 54) 0)))) NoItems)) (at 1 57)) ∷ []) ≡ None
label_is_known_in_its_block = refl

-- int main(){ L: { int y = 1; int *`L p = &y; } int *`L q = NULL; return 0; }
label_is_known_in_its_block_alone : verdict (Function (Some (written (at 1 1) Int [])) (the_main 1 5) (parameters (Listed []) None []) (Braces (at 1 11) (MoreItems (Execute (Labelled (the_L 1 13) (Braces (at 1 16) (MoreItems (Local (written (at 1 18) Int []) (the_y 1 22) (Some (Number (at 1 26) 1))) (MoreItems (Local (written (at 1 29) Int ((mark marks.Nullable (Some (the_L 1 34))) ∷ [])) (the_p 1 37) (Some (Prefixed (at 1 41) prefixes.AddressOf (Variable (the_y 1 42))))) NoItems)) (at 1 45)))) (MoreItems (Local (written (at 1 47) Int ((mark marks.Nullable (Some (the_L 1 52))) ∷ [])) (the_q 1 55) (Some (Null (at 1 59)))) (MoreItems (Execute (Return (at 1 65) (Some (Number (at 1 72) 0)))) NoItems))) (at 1 75)) ∷ []) ≡ fault faults.UnknownName 1 52
label_is_known_in_its_block_alone = refl

-- int *`f f(int *p){ return NULL; } int main(){ return 0; }
result_names_no_region_of_its_own : verdict (Function (Some (written (at 1 1) Int ((mark marks.Nullable (Some (the_f 1 6))) ∷ []))) (the_f 1 9) (parameters (Listed ((member (written (at 1 11) Int ((mark marks.Nullable None) ∷ [])) (the_p 1 16)) ∷ [])) None []) (Braces (at 1 18) (MoreItems (Execute (Return (at 1 20) (Some (Null (at 1 27))))) NoItems) (at 1 33)) ∷ Function (Some (written (at 1 35) Int [])) (the_main 1 39) (parameters (Listed []) None []) (Braces (at 1 45) (MoreItems (Execute (Return (at 1 47) (Some (Number (at 1 54) 0)))) NoItems) (at 1 57)) ∷ []) ≡ fault faults.UnknownName 1 6
result_names_no_region_of_its_own = refl

-- int *`r g; int main(){ return 0; }
global_names_no_region : verdict (Global (written (at 1 1) Int ((mark marks.Nullable (Some (the_r 1 6))) ∷ [])) (the_g 1 9) None ∷ Function (Some (written (at 1 12) Int [])) (the_main 1 16) (parameters (Listed []) None []) (Braces (at 1 22) (MoreItems (Execute (Return (at 1 24) (Some (Number (at 1 31) 0)))) NoItems) (at 1 34)) ∷ []) ≡ fault faults.UnknownName 1 6
global_names_no_region = refl

-- int main(){ new S{a}; return 0; }
values_come_before_the_structs_name : verdict (Function (Some (written (at 1 1) Int [])) (the_main 1 5) (parameters (Listed []) None []) (Braces (at 1 11) (MoreItems (Execute (Evaluate (New (at 1 13) (Fields (the_S 1 17) [] (MoreExpressions (Variable (the_a 1 19)) NoExpressions))))) (MoreItems (Execute (Return (at 1 23) (Some (Number (at 1 30) 0)))) NoItems)) (at 1 33)) ∷ []) ≡ fault faults.UnknownName 1 19
values_come_before_the_structs_name = refl

-- int main(){ { region<`r> h; } { region<`r> h; } return 0; }
region_is_declared_once_in_a_function : verdict (Function (Some (written (at 1 1) Int [])) (the_main 1 5) (parameters (Listed []) None []) (Braces (at 1 11) (MoreItems (Execute (Block (Braces (at 1 13) (MoreItems (Region (the_r 1 22) (the_h 1 26) None) NoItems) (at 1 29)))) (MoreItems (Execute (Block (Braces (at 1 31) (MoreItems (Region (the_r 1 40) (the_h 1 44) None) NoItems) (at 1 47)))) (MoreItems (Execute (Return (at 1 49) (Some (Number (at 1 56) 0)))) NoItems))) (at 1 59)) ∷ []) ≡ fault faults.DeclaredTwice 1 40
region_is_declared_once_in_a_function = refl

-- int f(){ region<`r> h; return 0; } int main(){ region<`r> h; return 0; }
regions_of_two_functions : verdict (Function (Some (written (at 1 1) Int [])) (the_f 1 5) (parameters (Listed []) None []) (Braces (at 1 8) (MoreItems (Region (the_r 1 17) (the_h 1 21) None) (MoreItems (Execute (Return (at 1 24) (Some (Number (at 1 31) 0)))) NoItems)) (at 1 34)) ∷ Function (Some (written (at 1 36) Int [])) (the_main 1 40) (parameters (Listed []) None []) (Braces (at 1 46) (MoreItems (Region (the_r 1 55) (the_h 1 59) None) (MoreItems (Execute (Return (at 1 62) (Some (Number (at 1 69) 0)))) NoItems)) (at 1 72)) ∷ []) ≡ None
regions_of_two_functions = refl

-- int main(){ region<`H> h; return 0; }
heap_is_declared : verdict (Function (Some (written (at 1 1) Int [])) (the_main 1 5) (parameters (Listed []) None []) (Braces (at 1 11) (MoreItems (Region (the_H 1 20) (the_h 1 24) None) (MoreItems (Execute (Return (at 1 27) (Some (Number (at 1 34) 0)))) NoItems)) (at 1 37)) ∷ []) ≡ fault faults.DeclaredTwice 1 20
heap_is_declared = refl

-- int main(){ main: { } return 0; }
function_declares_its_region : verdict (Function (Some (written (at 1 1) Int [])) (the_main 1 5) (parameters (Listed []) None []) (Braces (at 1 11) (MoreItems (Execute (Labelled (the_main 1 13) (Braces (at 1 19) NoItems (at 1 21)))) (MoreItems (Execute (Return (at 1 23) (Some (Number (at 1 30) 0)))) NoItems)) (at 1 33)) ∷ []) ≡ fault faults.DeclaredTwice 1 13
function_declares_its_region = refl

-- int f(int *`f p){ return 0; } int main(){ return 0; }
parameter_is_not_in_the_functions_own_region : verdict (Function (Some (written (at 1 1) Int [])) (the_f 1 5) (parameters (Listed ((member (written (at 1 7) Int ((mark marks.Nullable (Some (the_f 1 12))) ∷ [])) (the_p 1 15)) ∷ [])) None []) (Braces (at 1 17) (MoreItems (Execute (Return (at 1 19) (Some (Number (at 1 26) 0)))) NoItems) (at 1 29)) ∷ Function (Some (written (at 1 31) Int [])) (the_main 1 35) (parameters (Listed []) None []) (Braces (at 1 41) (MoreItems (Execute (Return (at 1 43) (Some (Number (at 1 50) 0)))) NoItems) (at 1 53)) ∷ []) ≡ fault faults.DeclaredTwice 1 12
parameter_is_not_in_the_functions_own_region = refl

-- datatype exn { Div_zero; }; int main(){ return 0; }
exceptions_of_the_language_are_declared : verdict (Exceptions ((constructor (the_Div_zero 1 16) false) ∷ []) ∷ Function (Some (written (at 1 29) Int [])) (the_main 1 33) (parameters (Listed []) None []) (Braces (at 1 39) (MoreItems (Execute (Return (at 1 41) (Some (Number (at 1 48) 0)))) NoItems) (at 1 51)) ∷ []) ≡ fault faults.DeclaredTwice 1 16
exceptions_of_the_language_are_declared = refl

-- int main(){ throw new Div_zero; }
exceptions_of_the_language_are_thrown : verdict (Function (Some (written (at 1 1) Int [])) (the_main 1 5) (parameters (Listed []) None []) (Braces (at 1 11) (MoreItems (Execute (Throw (at 1 13) (the_Div_zero 1 23) None)) NoItems) (at 1 33)) ∷ []) ≡ None
exceptions_of_the_language_are_thrown = refl

-- datatype exn { A; }; int main(){ try ; catch { case &A: ; case &A: ; } return 0; }
exception_is_caught_once : verdict (Exceptions ((constructor (the_A 1 16) false) ∷ []) ∷ Function (Some (written (at 1 22) Int [])) (the_main 1 26) (parameters (Listed []) None []) (Braces (at 1 32) (MoreItems (Execute (Try (at 1 34) (Empty (at 1 38)) (Case (the_A 1 54) None (MoreItems (Execute (Empty (at 1 57))) NoItems) (Case (the_A 1 65) None (MoreItems (Execute (Empty (at 1 68))) NoItems) NoClauses)))) (MoreItems (Execute (Return (at 1 72) (Some (Number (at 1 79) 0)))) NoItems)) (at 1 82)) ∷ []) ≡ fault faults.DeclaredTwice 1 65
exception_is_caught_once = refl

-- datatype exn { A(int); }; int main(){ try ; catch { case &A(v): int v; } return 0; }
caught_int_is_in_the_clause : verdict (Exceptions ((constructor (the_A 1 16) true) ∷ []) ∷ Function (Some (written (at 1 27) Int [])) (the_main 1 31) (parameters (Listed []) None []) (Braces (at 1 37) (MoreItems (Execute (Try (at 1 39) (Empty (at 1 43)) (Case (the_A 1 59) (Some (the_v 1 61)) (MoreItems (Local (written (at 1 65) Int []) (the_v 1 69) None) NoItems) NoClauses))) (MoreItems (Execute (Return (at 1 74) (Some (Number (at 1 81) 0)))) NoItems)) (at 1 84)) ∷ []) ≡ fault faults.DeclaredTwice 1 69
caught_int_is_in_the_clause = refl

-- ---- types

-- struct S<`a> { int *`a p; struct S<`a> *n; }; struct S *g; int f(struct S<`b> *s){ return *s->n->p; } int main(){ return 0; }
struct_by_a_pointer : verdict (StructType (the_S 1 8) ((the_a 1 10) ∷ []) ((member (written (at 1 16) Int ((mark marks.Nullable (Some (the_a 1 21))) ∷ [])) (the_p 1 24)) ∷ (member (written (at 1 27) (Struct (the_S 1 34) ((the_a 1 36) ∷ [])) ((mark marks.Nullable None) ∷ [])) (the_n 1 41)) ∷ []) ∷ Global (written (at 1 47) (Struct (the_S 1 54) []) ((mark marks.Nullable None) ∷ [])) (the_g 1 57) None ∷ Function (Some (written (at 1 60) Int [])) (the_f 1 64) (parameters (Listed ((member (written (at 1 66) (Struct (the_S 1 73) ((the_b 1 75) ∷ [])) ((mark marks.Nullable None) ∷ [])) (the_s 1 80)) ∷ [])) None []) (Braces (at 1 82) (MoreItems (Execute (Return (at 1 84) (Some (Prefixed (at 1 91) prefixes.Dereference (Chained (Variable (the_s 1 92)) (ThenField (the_n 1 95) (ThenField (the_p 1 98) NoPostfixes))))))) NoItems) (at 1 101)) ∷ Function (Some (written (at 1 103) Int [])) (the_main 1 107) (parameters (Listed []) None []) (Braces (at 1 113) (MoreItems (Execute (Return (at 1 115) (Some (Number (at 1 122) 0)))) NoItems) (at 1 125)) ∷ []) ≡ None
struct_by_a_pointer = refl

-- struct S { int x; }; struct S g; int main(){ return 0; }
struct_by_itself : verdict (StructType (the_S 1 8) [] ((member (written (at 1 12) Int []) (the_x 1 16)) ∷ []) ∷ Global (written (at 1 22) (Struct (the_S 1 29) []) []) (the_g 1 31) None ∷ Function (Some (written (at 1 34) Int [])) (the_main 1 38) (parameters (Listed []) None []) (Braces (at 1 44) (MoreItems (Execute (Return (at 1 46) (Some (Number (at 1 53) 0)))) NoItems) (at 1 56)) ∷ []) ≡ fault faults.TypeMismatch 1 22
struct_by_itself = refl

-- struct S { int x; }; struct S ?g; int main(){ return 0; }
fat_pointer_to_a_struct : verdict (StructType (the_S 1 8) [] ((member (written (at 1 12) Int []) (the_x 1 16)) ∷ []) ∷ Global (written (at 1 22) (Struct (the_S 1 29) []) ((mark marks.Fat None) ∷ [])) (the_g 1 32) None ∷ Function (Some (written (at 1 35) Int [])) (the_main 1 39) (parameters (Listed []) None []) (Braces (at 1 45) (MoreItems (Execute (Return (at 1 47) (Some (Number (at 1 54) 0)))) NoItems) (at 1 57)) ∷ []) ≡ fault faults.TypeMismatch 1 22
fat_pointer_to_a_struct = refl

-- struct S<`a> { int *`a p; }; struct S<`H,`H> *g; int main(){ return 0; }
arguments_of_a_struct : verdict (StructType (the_S 1 8) ((the_a 1 10) ∷ []) ((member (written (at 1 16) Int ((mark marks.Nullable (Some (the_a 1 21))) ∷ [])) (the_p 1 24)) ∷ []) ∷ Global (written (at 1 30) (Struct (the_S 1 37) ((the_H 1 39) ∷ (the_H 1 42) ∷ [])) ((mark marks.Nullable None) ∷ [])) (the_g 1 47) None ∷ Function (Some (written (at 1 50) Int [])) (the_main 1 54) (parameters (Listed []) None []) (Braces (at 1 60) (MoreItems (Execute (Return (at 1 62) (Some (Number (at 1 69) 0)))) NoItems) (at 1 72)) ∷ []) ≡ fault faults.TypeMismatch 1 30
arguments_of_a_struct = refl

-- void f(uregion_key_t<`k> *p){ } int main(){ return 0; }
pointer_to_a_key : verdict (Function None (the_f 1 6) (parameters (Listed ((member (written (at 1 8) (Key (the_k 1 22)) ((mark marks.Nullable None) ∷ [])) (the_p 1 27)) ∷ [])) None []) (Braces (at 1 29) NoItems (at 1 31)) ∷ Function (Some (written (at 1 33) Int [])) (the_main 1 37) (parameters (Listed []) None []) (Braces (at 1 43) (MoreItems (Execute (Return (at 1 45) (Some (Number (at 1 52) 0)))) NoItems) (at 1 55)) ∷ []) ≡ fault faults.TypeMismatch 1 8
pointer_to_a_key = refl

-- struct S<`k> { uregion_key_t<`k> k; }; int main(){ return 0; }
key_as_a_field : verdict (StructType (the_S 1 8) ((the_k 1 10) ∷ []) ((member (written (at 1 16) (Key (the_k 1 30)) []) (the_k 1 34)) ∷ []) ∷ Function (Some (written (at 1 40) Int [])) (the_main 1 44) (parameters (Listed []) None []) (Braces (at 1 50) (MoreItems (Execute (Return (at 1 52) (Some (Number (at 1 59) 0)))) NoItems) (at 1 62)) ∷ []) ≡ fault faults.RegionOrKeyMisused 1 16
key_as_a_field = refl

-- void f(region_t<`U> h){ } int main(){ return 0; }
handle_of_unique_pointers : verdict (Function None (the_f 1 6) (parameters (Listed ((member (written (at 1 8) (Handle (the_U 1 17)) []) (the_h 1 21)) ∷ [])) None []) (Braces (at 1 23) NoItems (at 1 25)) ∷ Function (Some (written (at 1 27) Int [])) (the_main 1 31) (parameters (Listed []) None []) (Braces (at 1 37) (MoreItems (Execute (Return (at 1 39) (Some (Number (at 1 46) 0)))) NoItems) (at 1 49)) ∷ []) ≡ fault faults.RegionOrKeyMisused 1 17
handle_of_unique_pointers = refl

-- void f(uregion_key_t<`H> k){ } int main(){ return 0; }
key_of_the_heap : verdict (Function None (the_f 1 6) (parameters (Listed ((member (written (at 1 8) (Key (the_H 1 22)) []) (the_k 1 26)) ∷ [])) None []) (Braces (at 1 28) NoItems (at 1 30)) ∷ Function (Some (written (at 1 32) Int [])) (the_main 1 36) (parameters (Listed []) None []) (Braces (at 1 42) (MoreItems (Execute (Return (at 1 44) (Some (Number (at 1 51) 0)))) NoItems) (at 1 54)) ∷ []) ≡ fault faults.RegionOrKeyMisused 1 22
key_of_the_heap = refl

-- region_t<`H> g; int main(){ return 0; }
handle_as_a_global : verdict (Global (written (at 1 1) (Handle (the_H 1 10)) []) (the_g 1 14) None ∷ Function (Some (written (at 1 17) Int [])) (the_main 1 21) (parameters (Listed []) None []) (Braces (at 1 27) (MoreItems (Execute (Return (at 1 29) (Some (Number (at 1 36) 0)))) NoItems) (at 1 39)) ∷ []) ≡ fault faults.TypeMismatch 1 1
handle_as_a_global = refl

-- int @g; int main(){ return 0; }
global_that_is_never_null : verdict (Global (written (at 1 1) Int ((mark marks.NonNull None) ∷ [])) (the_g 1 6) None ∷ Function (Some (written (at 1 9) Int [])) (the_main 1 13) (parameters (Listed []) None []) (Braces (at 1 19) (MoreItems (Execute (Return (at 1 21) (Some (Number (at 1 28) 0)))) NoItems) (at 1 31)) ∷ []) ≡ fault faults.NullForNonNull 1 1
global_that_is_never_null = refl

-- int *g; int ?h = NULL; int x = 'a'; int main(){ return x; }
global_of_null : verdict (Global (written (at 1 1) Int ((mark marks.Nullable None) ∷ [])) (the_g 1 6) None ∷ Global (written (at 1 9) Int ((mark marks.Fat None) ∷ [])) (the_h 1 14) (Some (NullPointer (at 1 18))) ∷ Global (written (at 1 24) Int []) (the_x 1 28) (Some (Byte (at 1 32) 97)) ∷ Function (Some (written (at 1 37) Int [])) (the_main 1 41) (parameters (Listed []) None []) (Braces (at 1 47) (MoreItems (Execute (Return (at 1 49) (Some (Variable (the_x 1 56))))) NoItems) (at 1 59)) ∷ []) ≡ None
global_of_null = refl

-- int main(){ int x = 1; int *p = &x; int **q = NULL; return *p; }
region_of_a_local_is_its_values : verdict (Function (Some (written (at 1 1) Int [])) (the_main 1 5) (parameters (Listed []) None []) (Braces (at 1 11) (MoreItems (Local (written (at 1 13) Int []) (the_x 1 17) (Some (Number (at 1 21) 1))) (MoreItems (Local (written (at 1 24) Int ((mark marks.Nullable None) ∷ [])) (the_p 1 29) (Some (Prefixed (at 1 33) prefixes.AddressOf (Variable (the_x 1 34))))) (MoreItems (Local (written (at 1 37) Int ((mark marks.Nullable None) ∷ (mark marks.Nullable None) ∷ [])) (the_q 1 43) (Some (Null (at 1 47)))) (MoreItems (Execute (Return (at 1 53) (Some (Prefixed (at 1 60) prefixes.Dereference (Variable (the_p 1 61)))))) NoItems)))) (at 1 64)) ∷ []) ≡ None
region_of_a_local_is_its_values = refl

-- int main(){ int x = 1; int *p = &x; int **q = &p; return 0; }
inner_region_of_a_local_is_the_heap : verdict (Function (Some (written (at 1 1) Int [])) (the_main 1 5) (parameters (Listed []) None []) (Braces (at 1 11) (MoreItems (Local (written (at 1 13) Int []) (the_x 1 17) (Some (Number (at 1 21) 1))) (MoreItems (Local (written (at 1 24) Int ((mark marks.Nullable None) ∷ [])) (the_p 1 29) (Some (Prefixed (at 1 33) prefixes.AddressOf (Variable (the_x 1 34))))) (MoreItems (Local (written (at 1 37) Int ((mark marks.Nullable None) ∷ (mark marks.Nullable None) ∷ [])) (the_q 1 43) (Some (Prefixed (at 1 47) prefixes.AddressOf (Variable (the_p 1 48))))) (MoreItems (Execute (Return (at 1 51) (Some (Number (at 1 58) 0)))) NoItems)))) (at 1 61)) ∷ []) ≡ fault faults.TypeMismatch 1 47
inner_region_of_a_local_is_the_heap = refl

-- ---- expressions

-- struct S { int x; }; int main(){ struct S *p = NULL; *p; return 0; }
struct_is_not_read_whole : verdict (StructType (the_S 1 8) [] ((member (written (at 1 12) Int []) (the_x 1 16)) ∷ []) ∷ Function (Some (written (at 1 22) Int [])) (the_main 1 26) (parameters (Listed []) None []) (Braces (at 1 32) (MoreItems (Local (written (at 1 34) (Struct (the_S 1 41) []) ((mark marks.Nullable None) ∷ [])) (the_p 1 44) (Some (Null (at 1 48)))) (MoreItems (Execute (Evaluate (Prefixed (at 1 54) prefixes.Dereference (Variable (the_p 1 55))))) (MoreItems (Execute (Return (at 1 58) (Some (Number (at 1 65) 0)))) NoItems))) (at 1 68)) ∷ []) ≡ fault faults.TypeMismatch 1 54
struct_is_not_read_whole = refl

-- struct S { int x; }; int main(){ struct S *p = NULL; struct S @q = &*p; return q->x; }
struct_has_an_address : verdict (StructType (the_S 1 8) [] ((member (written (at 1 12) Int []) (the_x 1 16)) ∷ []) ∷ Function (Some (written (at 1 22) Int [])) (the_main 1 26) (parameters (Listed []) None []) (Braces (at 1 32) (MoreItems (Local (written (at 1 34) (Struct (the_S 1 41) []) ((mark marks.Nullable None) ∷ [])) (the_p 1 44) (Some (Null (at 1 48)))) (MoreItems (Local (written (at 1 54) (Struct (the_S 1 61) []) ((mark marks.NonNull None) ∷ [])) (the_q 1 64) (Some (Prefixed (at 1 68) prefixes.AddressOf (Prefixed (at 1 69) prefixes.Dereference (Variable (the_p 1 70)))))) (MoreItems (Execute (Return (at 1 73) (Some (Chained (Variable (the_q 1 80)) (ThenField (the_x 1 83) NoPostfixes))))) NoItems))) (at 1 86)) ∷ []) ≡ None
struct_has_an_address = refl

-- struct P { int x; int *n; }; int main(){ struct P @p = new P{4, NULL}; p->n = new 3; return p->x + *p->n; }
fields_in_order : verdict (StructType (the_P 1 8) [] ((member (written (at 1 12) Int []) (the_x 1 16)) ∷ (member (written (at 1 19) Int ((mark marks.Nullable None) ∷ [])) (the_n 1 24)) ∷ []) ∷ Function (Some (written (at 1 30) Int [])) (the_main 1 34) (parameters (Listed []) None []) (Braces (at 1 40) (MoreItems (Local (written (at 1 42) (Struct (the_P 1 49) []) ((mark marks.NonNull None) ∷ [])) (the_p 1 52) (Some (New (at 1 56) (Fields (the_P 1 60) [] (MoreExpressions (Number (at 1 62) 4) (MoreExpressions (Null (at 1 65)) NoExpressions)))))) (MoreItems (Execute (Evaluate (Assign (Chained (Variable (the_p 1 72)) (ThenField (the_n 1 75) NoPostfixes)) (New (at 1 79) (Plain (Number (at 1 83) 3)))))) (MoreItems (Execute (Return (at 1 86) (Some (Binary (Chained (Variable (the_p 1 93)) (ThenField (the_x 1 96) NoPostfixes)) (ThenOperation operators.Add (at 1 98) (Prefixed (at 1 100) prefixes.Dereference (Chained (Variable (the_p 1 101)) (ThenField (the_n 1 104) NoPostfixes))) NoOperations))))) NoItems))) (at 1 107)) ∷ []) ≡ None
fields_in_order = refl

-- struct S { int x; }; int main(){ new S{1, 2}; return 0; }
as_many_values_as_fields : verdict (StructType (the_S 1 8) [] ((member (written (at 1 12) Int []) (the_x 1 16)) ∷ []) ∷ Function (Some (written (at 1 22) Int [])) (the_main 1 26) (parameters (Listed []) None []) (Braces (at 1 32) (MoreItems (Execute (Evaluate (New (at 1 34) (Fields (the_S 1 38) [] (MoreExpressions (Number (at 1 40) 1) (MoreExpressions (Number (at 1 43) 2) NoExpressions)))))) (MoreItems (Execute (Return (at 1 47) (Some (Number (at 1 54) 0)))) NoItems)) (at 1 57)) ∷ []) ≡ fault faults.TypeMismatch 1 38
as_many_values_as_fields = refl

-- int main(){ int ?p = new {for i < 3 : i * i}; return p[2] + numelts(p + 1); }
fat_pointer_moves : verdict (Function (Some (written (at 1 1) Int [])) (the_main 1 5) (parameters (Listed []) None []) (Braces (at 1 11) (MoreItems (Local (written (at 1 13) Int ((mark marks.Fat None) ∷ [])) (the_p 1 18) (Some (New (at 1 22) (Array (at 1 26) (the_i 1 31) (Number (at 1 35) 3) (Binary (Variable (the_i 1 39)) (ThenOperation operators.Multiply (at 1 41) (Variable (the_i 1 43)) NoOperations)))))) (MoreItems (Execute (Return (at 1 47) (Some (Binary (Chained (Variable (the_p 1 54)) (ThenIndex (Number (at 1 56) 2) NoPostfixes)) (ThenOperation operators.Add (at 1 59) (NumberOfElements (at 1 61) (Binary (Variable (the_p 1 69)) (ThenOperation operators.Add (at 1 71) (Number (at 1 73) 1) NoOperations))) NoOperations))))) NoItems)) (at 1 77)) ∷ []) ≡ None
fat_pointer_moves = refl

-- int main(){ int ?p = NULL; 1 + p; return 0; }
int_is_not_moved : verdict (Function (Some (written (at 1 1) Int [])) (the_main 1 5) (parameters (Listed []) None []) (Braces (at 1 11) (MoreItems (Local (written (at 1 13) Int ((mark marks.Fat None) ∷ [])) (the_p 1 18) (Some (Null (at 1 22)))) (MoreItems (Execute (Evaluate (Binary (Number (at 1 28) 1) (ThenOperation operators.Add (at 1 30) (Variable (the_p 1 32)) NoOperations)))) (MoreItems (Execute (Return (at 1 35) (Some (Number (at 1 42) 0)))) NoItems))) (at 1 45)) ∷ []) ≡ fault faults.TypeMismatch 1 32
int_is_not_moved = refl

-- int main(){ int ?`U u = NULL; u + 1; return 0; }
unique_pointer_does_not_move : verdict (Function (Some (written (at 1 1) Int [])) (the_main 1 5) (parameters (Listed []) None []) (Braces (at 1 11) (MoreItems (Local (written (at 1 13) Int ((mark marks.Fat (Some (the_U 1 18))) ∷ [])) (the_u 1 21) (Some (Null (at 1 25)))) (MoreItems (Execute (Evaluate (Binary (Variable (the_u 1 31)) (ThenOperation operators.Add (at 1 33) (Number (at 1 35) 1) NoOperations)))) (MoreItems (Execute (Return (at 1 38) (Some (Number (at 1 45) 0)))) NoItems))) (at 1 48)) ∷ []) ≡ fault faults.TypeMismatch 1 31
unique_pointer_does_not_move = refl

-- int main(){ int ?p = NULL; int *q = NULL; return q == p; }
fat_pointers_are_not_compared : verdict (Function (Some (written (at 1 1) Int [])) (the_main 1 5) (parameters (Listed []) None []) (Braces (at 1 11) (MoreItems (Local (written (at 1 13) Int ((mark marks.Fat None) ∷ [])) (the_p 1 18) (Some (Null (at 1 22)))) (MoreItems (Local (written (at 1 28) Int ((mark marks.Nullable None) ∷ [])) (the_q 1 33) (Some (Null (at 1 37)))) (MoreItems (Execute (Return (at 1 43) (Some (Binary (Variable (the_q 1 50)) (ThenOperation operators.Equal (at 1 52) (Variable (the_p 1 55)) NoOperations))))) NoItems))) (at 1 58)) ∷ []) ≡ fault faults.TypeMismatch 1 50
fat_pointers_are_not_compared = refl

-- int main(){ int *p = NULL; return 0 == p; }
int_is_not_compared_with_a_pointer : verdict (Function (Some (written (at 1 1) Int [])) (the_main 1 5) (parameters (Listed []) None []) (Braces (at 1 11) (MoreItems (Local (written (at 1 13) Int ((mark marks.Nullable None) ∷ [])) (the_p 1 18) (Some (Null (at 1 22)))) (MoreItems (Execute (Return (at 1 28) (Some (Binary (Number (at 1 35) 0) (ThenOperation operators.Equal (at 1 37) (Variable (the_p 1 40)) NoOperations))))) NoItems)) (at 1 43)) ∷ []) ≡ fault faults.TypeMismatch 1 35
int_is_not_compared_with_a_pointer = refl

-- int main(){ int ?p = NULL; int *`U u = NULL; return p == NULL && NULL != u && !u; }
any_pointer_and_null : verdict (Function (Some (written (at 1 1) Int [])) (the_main 1 5) (parameters (Listed []) None []) (Braces (at 1 11) (MoreItems (Local (written (at 1 13) Int ((mark marks.Fat None) ∷ [])) (the_p 1 18) (Some (Null (at 1 22)))) (MoreItems (Local (written (at 1 28) Int ((mark marks.Nullable (Some (the_U 1 33))) ∷ [])) (the_u 1 36) (Some (Null (at 1 40)))) (MoreItems (Execute (Return (at 1 46) (Some (Binary (Binary (Variable (the_p 1 53)) (ThenOperation operators.Equal (at 1 55) (Null (at 1 58)) NoOperations)) (ThenOperation operators.AndThen (at 1 63) (Binary (Null (at 1 66)) (ThenOperation operators.NotEqual (at 1 71) (Variable (the_u 1 74)) NoOperations)) (ThenOperation operators.AndThen (at 1 76) (Prefixed (at 1 79) prefixes.Not (Variable (the_u 1 80))) NoOperations)))))) NoItems))) (at 1 83)) ∷ []) ≡ None
any_pointer_and_null = refl

-- int main(){ return NULL == NULL; }
null_and_null : verdict (Function (Some (written (at 1 1) Int [])) (the_main 1 5) (parameters (Listed []) None []) (Braces (at 1 11) (MoreItems (Execute (Return (at 1 13) (Some (Binary (Null (at 1 20)) (ThenOperation operators.Equal (at 1 25) (Null (at 1 28)) NoOperations))))) NoItems) (at 1 34)) ∷ []) ≡ fault faults.TypeMismatch 1 20
null_and_null = refl

-- int main(){ if (NULL) ; return 0; }
null_is_no_condition : verdict (Function (Some (written (at 1 1) Int [])) (the_main 1 5) (parameters (Listed []) None []) (Braces (at 1 11) (MoreItems (Execute (If (at 1 13) (Null (at 1 17)) (Empty (at 1 23)))) (MoreItems (Execute (Return (at 1 25) (Some (Number (at 1 32) 0)))) NoItems)) (at 1 35)) ∷ []) ≡ fault faults.TypeMismatch 1 17
null_is_no_condition = refl

-- int main(){ int *`U u = NULL; int *`U v = u = NULL; return 0; }
assignment_of_a_unique_pointer_has_no_value : verdict (Function (Some (written (at 1 1) Int [])) (the_main 1 5) (parameters (Listed []) None []) (Braces (at 1 11) (MoreItems (Local (written (at 1 13) Int ((mark marks.Nullable (Some (the_U 1 18))) ∷ [])) (the_u 1 21) (Some (Null (at 1 25)))) (MoreItems (Local (written (at 1 31) Int ((mark marks.Nullable (Some (the_U 1 36))) ∷ [])) (the_v 1 39) (Some (Assign (Variable (the_u 1 43)) (Null (at 1 47))))) (MoreItems (Execute (Return (at 1 53) (Some (Number (at 1 60) 0)))) NoItems))) (at 1 63)) ∷ []) ≡ fault faults.TypeMismatch 1 43
assignment_of_a_unique_pointer_has_no_value = refl

-- int main(){ new NULL; return 0; }
element_is_a_value : verdict (Function (Some (written (at 1 1) Int [])) (the_main 1 5) (parameters (Listed []) None []) (Braces (at 1 11) (MoreItems (Execute (Evaluate (New (at 1 13) (Plain (Null (at 1 17)))))) (MoreItems (Execute (Return (at 1 23) (Some (Number (at 1 30) 0)))) NoItems)) (at 1 33)) ∷ []) ≡ fault faults.TypeMismatch 1 17
element_is_a_value = refl

-- int f(){ return 1; } int main(){ f = 2; return 0; }
function_is_no_place : verdict (Function (Some (written (at 1 1) Int [])) (the_f 1 5) (parameters (Listed []) None []) (Braces (at 1 8) (MoreItems (Execute (Return (at 1 10) (Some (Number (at 1 17) 1)))) NoItems) (at 1 20)) ∷ Function (Some (written (at 1 22) Int [])) (the_main 1 26) (parameters (Listed []) None []) (Braces (at 1 32) (MoreItems (Execute (Evaluate (Assign (Variable (the_f 1 34)) (Number (at 1 38) 2)))) (MoreItems (Execute (Return (at 1 41) (Some (Number (at 1 48) 0)))) NoItems)) (at 1 51)) ∷ []) ≡ fault faults.NotAPlace 1 34
function_is_no_place = refl

-- int main(){ new {for i < 3 : i = 1}; return 0; }
counter_is_no_place : verdict (Function (Some (written (at 1 1) Int [])) (the_main 1 5) (parameters (Listed []) None []) (Braces (at 1 11) (MoreItems (Execute (Evaluate (New (at 1 13) (Array (at 1 17) (the_i 1 22) (Number (at 1 26) 3) (Assign (Variable (the_i 1 30)) (Number (at 1 34) 1)))))) (MoreItems (Execute (Return (at 1 38) (Some (Number (at 1 45) 0)))) NoItems)) (at 1 48)) ∷ []) ≡ fault faults.NotAPlace 1 30
counter_is_no_place = refl

-- int main(){ region<`r> h; &h; return 0; }
handle_of_an_item_is_no_place : verdict (Function (Some (written (at 1 1) Int [])) (the_main 1 5) (parameters (Listed []) None []) (Braces (at 1 11) (MoreItems (Region (the_r 1 20) (the_h 1 24) None) (MoreItems (Execute (Evaluate (Prefixed (at 1 27) prefixes.AddressOf (Variable (the_h 1 28))))) (MoreItems (Execute (Return (at 1 31) (Some (Number (at 1 38) 0)))) NoItems))) (at 1 41)) ∷ []) ≡ fault faults.NotAPlace 1 28
handle_of_an_item_is_no_place = refl

-- int f(region_t<`r> h){ region_t<`r> @p = &h; rnew(*p) 1; return 0; } int main(){ return 0; }
handle_of_a_parameter_is_a_place : verdict (Function (Some (written (at 1 1) Int [])) (the_f 1 5) (parameters (Listed ((member (written (at 1 7) (Handle (the_r 1 16)) []) (the_h 1 20)) ∷ [])) None []) (Braces (at 1 22) (MoreItems (Local (written (at 1 24) (Handle (the_r 1 33)) ((mark marks.NonNull None) ∷ [])) (the_p 1 38) (Some (Prefixed (at 1 42) prefixes.AddressOf (Variable (the_h 1 43))))) (MoreItems (Execute (Evaluate (RegionNew (at 1 46) (Prefixed (at 1 51) prefixes.Dereference (Variable (the_p 1 52))) (Plain (Number (at 1 55) 1))))) (MoreItems (Execute (Return (at 1 58) (Some (Number (at 1 65) 0)))) NoItems))) (at 1 68)) ∷ Function (Some (written (at 1 70) Int [])) (the_main 1 74) (parameters (Listed []) None []) (Braces (at 1 80) (MoreItems (Execute (Return (at 1 82) (Some (Number (at 1 89) 0)))) NoItems) (at 1 92)) ∷ []) ≡ None
handle_of_a_parameter_is_a_place = refl

-- int main(){ int x = 1; &(x + 1); return 0; }
sum_is_no_place : verdict (Function (Some (written (at 1 1) Int [])) (the_main 1 5) (parameters (Listed []) None []) (Braces (at 1 11) (MoreItems (Local (written (at 1 13) Int []) (the_x 1 17) (Some (Number (at 1 21) 1))) (MoreItems (Execute (Evaluate (Prefixed (at 1 24) prefixes.AddressOf (Bracketed (at 1 25) (Binary (Variable (the_x 1 26)) (ThenOperation operators.Add (at 1 28) (Number (at 1 30) 1) NoOperations)))))) (MoreItems (Execute (Return (at 1 34) (Some (Number (at 1 41) 0)))) NoItems))) (at 1 44)) ∷ []) ≡ fault faults.NotAPlace 1 25
sum_is_no_place = refl

-- int main(){ int x = 1; (x) = 2; return *&(x); }
place_in_brackets : verdict (Function (Some (written (at 1 1) Int [])) (the_main 1 5) (parameters (Listed []) None []) (Braces (at 1 11) (MoreItems (Local (written (at 1 13) Int []) (the_x 1 17) (Some (Number (at 1 21) 1))) (MoreItems (Execute (Evaluate (Assign (Bracketed (at 1 24) (Variable (the_x 1 25))) (Number (at 1 30) 2)))) (MoreItems (Execute (Return (at 1 33) (Some (Prefixed (at 1 40) prefixes.Dereference (Prefixed (at 1 41) prefixes.AddressOf (Bracketed (at 1 42) (Variable (the_x 1 43)))))))) NoItems))) (at 1 47)) ∷ []) ≡ None
place_in_brackets = refl

-- ---- pointers

-- int @f(){ return NULL; } int main(){ return 0; }
null_where_a_pointer_is_never_null : verdict (Function (Some (written (at 1 1) Int ((mark marks.NonNull None) ∷ []))) (the_f 1 6) (parameters (Listed []) None []) (Braces (at 1 9) (MoreItems (Execute (Return (at 1 11) (Some (Null (at 1 18))))) NoItems) (at 1 24)) ∷ Function (Some (written (at 1 26) Int [])) (the_main 1 30) (parameters (Listed []) None []) (Braces (at 1 36) (MoreItems (Execute (Return (at 1 38) (Some (Number (at 1 45) 0)))) NoItems) (at 1 48)) ∷ []) ≡ fault faults.NullForNonNull 1 18
null_where_a_pointer_is_never_null = refl

-- int *g; int main(){ int @p = g; int ?q = p; g = q; return *p; }
between_any_two_marks : verdict (Global (written (at 1 1) Int ((mark marks.Nullable None) ∷ [])) (the_g 1 6) None ∷ Function (Some (written (at 1 9) Int [])) (the_main 1 13) (parameters (Listed []) None []) (Braces (at 1 19) (MoreItems (Local (written (at 1 21) Int ((mark marks.NonNull None) ∷ [])) (the_p 1 26) (Some (Variable (the_g 1 30)))) (MoreItems (Local (written (at 1 33) Int ((mark marks.Fat None) ∷ [])) (the_q 1 38) (Some (Variable (the_p 1 42)))) (MoreItems (Execute (Evaluate (Assign (Variable (the_g 1 45)) (Variable (the_q 1 49))))) (MoreItems (Execute (Return (at 1 52) (Some (Prefixed (at 1 59) prefixes.Dereference (Variable (the_p 1 60)))))) NoItems)))) (at 1 63)) ∷ []) ≡ None
between_any_two_marks = refl

-- int main(){ int @*q = NULL; int **p = q; return 0; }
targets_are_equal : verdict (Function (Some (written (at 1 1) Int [])) (the_main 1 5) (parameters (Listed []) None []) (Braces (at 1 11) (MoreItems (Local (written (at 1 13) Int ((mark marks.NonNull None) ∷ (mark marks.Nullable None) ∷ [])) (the_q 1 19) (Some (Null (at 1 23)))) (MoreItems (Local (written (at 1 29) Int ((mark marks.Nullable None) ∷ (mark marks.Nullable None) ∷ [])) (the_p 1 35) (Some (Variable (the_q 1 39)))) (MoreItems (Execute (Return (at 1 42) (Some (Number (at 1 49) 0)))) NoItems))) (at 1 52)) ∷ []) ≡ fault faults.TypeMismatch 1 39
targets_are_equal = refl

-- int *g = NULL; void f(int *p){ g = p; } int main(){ return 0; }
region_of_a_parameter : verdict (Global (written (at 1 1) Int ((mark marks.Nullable None) ∷ [])) (the_g 1 6) (Some (NullPointer (at 1 10))) ∷ Function None (the_f 1 21) (parameters (Listed ((member (written (at 1 23) Int ((mark marks.Nullable None) ∷ [])) (the_p 1 28)) ∷ [])) None []) (Braces (at 1 30) (MoreItems (Execute (Evaluate (Assign (Variable (the_g 1 32)) (Variable (the_p 1 36))))) NoItems) (at 1 39)) ∷ Function (Some (written (at 1 41) Int [])) (the_main 1 45) (parameters (Listed []) None []) (Braces (at 1 51) (MoreItems (Execute (Return (at 1 53) (Some (Number (at 1 60) 0)))) NoItems) (at 1 63)) ∷ []) ≡ fault faults.NotOutlived 1 36
region_of_a_parameter = refl

-- void f(int **a, int **b){ *a = *b; } int main(){ return 0; }
inner_regions_of_parameters : verdict (Function None (the_f 1 6) (parameters (Listed ((member (written (at 1 8) Int ((mark marks.Nullable None) ∷ (mark marks.Nullable None) ∷ [])) (the_a 1 14)) ∷ (member (written (at 1 17) Int ((mark marks.Nullable None) ∷ (mark marks.Nullable None) ∷ [])) (the_b 1 23)) ∷ [])) None []) (Braces (at 1 25) (MoreItems (Execute (Evaluate (Assign (Prefixed (at 1 27) prefixes.Dereference (Variable (the_a 1 28))) (Prefixed (at 1 32) prefixes.Dereference (Variable (the_b 1 33)))))) NoItems) (at 1 36)) ∷ Function (Some (written (at 1 38) Int [])) (the_main 1 42) (parameters (Listed []) None []) (Braces (at 1 48) (MoreItems (Execute (Return (at 1 50) (Some (Number (at 1 57) 0)))) NoItems) (at 1 60)) ∷ []) ≡ fault faults.NotOutlived 1 32
inner_regions_of_parameters = refl

-- int ?id(int ?a){ return a; } int main(){ return 0; }
result_is_in_the_heap : verdict (Function (Some (written (at 1 1) Int ((mark marks.Fat None) ∷ []))) (the_id 1 6) (parameters (Listed ((member (written (at 1 9) Int ((mark marks.Fat None) ∷ [])) (the_a 1 14)) ∷ [])) None []) (Braces (at 1 16) (MoreItems (Execute (Return (at 1 18) (Some (Variable (the_a 1 25))))) NoItems) (at 1 28)) ∷ Function (Some (written (at 1 30) Int [])) (the_main 1 34) (parameters (Listed []) None []) (Braces (at 1 40) (MoreItems (Execute (Return (at 1 42) (Some (Number (at 1 49) 0)))) NoItems) (at 1 52)) ∷ []) ≡ fault faults.NotOutlived 1 25
result_is_in_the_heap = refl

-- int ?`r id(int ?`r a){ return a; } int main(){ return 0; }
result_in_a_parameters_region : verdict (Function (Some (written (at 1 1) Int ((mark marks.Fat (Some (the_r 1 6))) ∷ []))) (the_id 1 9) (parameters (Listed ((member (written (at 1 12) Int ((mark marks.Fat (Some (the_r 1 17))) ∷ [])) (the_a 1 20)) ∷ [])) None []) (Braces (at 1 22) (MoreItems (Execute (Return (at 1 24) (Some (Variable (the_a 1 31))))) NoItems) (at 1 34)) ∷ Function (Some (written (at 1 36) Int [])) (the_main 1 40) (parameters (Listed []) None []) (Braces (at 1 46) (MoreItems (Execute (Return (at 1 48) (Some (Number (at 1 55) 0)))) NoItems) (at 1 58)) ∷ []) ≡ None
result_in_a_parameters_region = refl

-- int main(){ region<`r> h; int *`r p = new 1; return *p; }
heap_outlives_all : verdict (Function (Some (written (at 1 1) Int [])) (the_main 1 5) (parameters (Listed []) None []) (Braces (at 1 11) (MoreItems (Region (the_r 1 20) (the_h 1 24) None) (MoreItems (Local (written (at 1 27) Int ((mark marks.Nullable (Some (the_r 1 32))) ∷ [])) (the_p 1 35) (Some (New (at 1 39) (Plain (Number (at 1 43) 1))))) (MoreItems (Execute (Return (at 1 46) (Some (Prefixed (at 1 53) prefixes.Dereference (Variable (the_p 1 54)))))) NoItems))) (at 1 57)) ∷ []) ≡ None
heap_outlives_all = refl

-- int main(){ int *p = NULL; int x = 1; p = &x; return 0; }
block_does_not_outlive_the_heap : verdict (Function (Some (written (at 1 1) Int [])) (the_main 1 5) (parameters (Listed []) None []) (Braces (at 1 11) (MoreItems (Local (written (at 1 13) Int ((mark marks.Nullable None) ∷ [])) (the_p 1 18) (Some (Null (at 1 22)))) (MoreItems (Local (written (at 1 28) Int []) (the_x 1 32) (Some (Number (at 1 36) 1))) (MoreItems (Execute (Evaluate (Assign (Variable (the_p 1 39)) (Prefixed (at 1 43) prefixes.AddressOf (Variable (the_x 1 44)))))) (MoreItems (Execute (Return (at 1 47) (Some (Number (at 1 54) 0)))) NoItems)))) (at 1 57)) ∷ []) ≡ fault faults.NotOutlived 1 43
block_does_not_outlive_the_heap = refl

-- int main(){ int x = 1; { int y = 2; int *p = &y; p = &x; } return 0; }
outer_block_outlives_inner : verdict (Function (Some (written (at 1 1) Int [])) (the_main 1 5) (parameters (Listed []) None []) (Braces (at 1 11) (MoreItems (Local (written (at 1 13) Int []) (the_x 1 17) (Some (Number (at 1 21) 1))) (MoreItems (Execute (Block (Braces (at 1 24) (MoreItems (Local (written (at 1 26) Int []) (the_y 1 30) (Some (Number (at 1 34) 2))) (MoreItems (Local (written (at 1 37) Int ((mark marks.Nullable None) ∷ [])) (the_p 1 42) (Some (Prefixed (at 1 46) prefixes.AddressOf (Variable (the_y 1 47))))) (MoreItems (Execute (Evaluate (Assign (Variable (the_p 1 50)) (Prefixed (at 1 54) prefixes.AddressOf (Variable (the_x 1 55)))))) NoItems))) (at 1 58)))) (MoreItems (Execute (Return (at 1 60) (Some (Number (at 1 67) 0)))) NoItems))) (at 1 70)) ∷ []) ≡ None
outer_block_outlives_inner = refl

-- int main(){ int x = 1; int *p = &x; { int y = 2; p = &y; } return 0; }
inner_block_does_not_outlive_outer : verdict (Function (Some (written (at 1 1) Int [])) (the_main 1 5) (parameters (Listed []) None []) (Braces (at 1 11) (MoreItems (Local (written (at 1 13) Int []) (the_x 1 17) (Some (Number (at 1 21) 1))) (MoreItems (Local (written (at 1 24) Int ((mark marks.Nullable None) ∷ [])) (the_p 1 29) (Some (Prefixed (at 1 33) prefixes.AddressOf (Variable (the_x 1 34))))) (MoreItems (Execute (Block (Braces (at 1 37) (MoreItems (Local (written (at 1 39) Int []) (the_y 1 43) (Some (Number (at 1 47) 2))) (MoreItems (Execute (Evaluate (Assign (Variable (the_p 1 50)) (Prefixed (at 1 54) prefixes.AddressOf (Variable (the_y 1 55)))))) NoItems)) (at 1 58)))) (MoreItems (Execute (Return (at 1 60) (Some (Number (at 1 67) 0)))) NoItems)))) (at 1 70)) ∷ []) ≡ fault faults.NotOutlived 1 54
inner_block_does_not_outlive_outer = refl

-- int main(){ int *`U u = new 1; return 0; }
no_region_but_its_own_outlives_the_unique_one : verdict (Function (Some (written (at 1 1) Int [])) (the_main 1 5) (parameters (Listed []) None []) (Braces (at 1 11) (MoreItems (Local (written (at 1 13) Int ((mark marks.Nullable (Some (the_U 1 18))) ∷ [])) (the_u 1 21) (Some (New (at 1 25) (Plain (Number (at 1 29) 1))))) (MoreItems (Execute (Return (at 1 32) (Some (Number (at 1 39) 0)))) NoItems)) (at 1 42)) ∷ []) ≡ fault faults.NotOutlived 1 25
no_region_but_its_own_outlives_the_unique_one = refl

-- int main(){
-- let NewDynamicRegion{<`k> k} = new_ukey();
-- region<`a> h;
-- region<`k> d = open(k);
-- int *`k p = rnew(h) 3;
-- return 0; }
opened_region_is_not_outlived_by_an_older_one : verdict (Function (Some (written (at 1 1) Int [])) (the_main 1 5) (parameters (Listed []) None []) (Braces (at 1 11) (MoreItems (DynamicRegion (the_k 2 23) (the_k 2 27)) (MoreItems (Region (the_a 3 8) (the_h 3 12) None) (MoreItems (Region (the_k 4 8) (the_d 4 12) (Some (the_k 4 21))) (MoreItems (Local (written (at 5 1) Int ((mark marks.Nullable (Some (the_k 5 6))) ∷ [])) (the_p 5 9) (Some (RegionNew (at 5 13) (Variable (the_h 5 18)) (Plain (Number (at 5 21) 3))))) (MoreItems (Execute (Return (at 6 1) (Some (Number (at 6 8) 0)))) NoItems))))) (at 6 11)) ∷ []) ≡ fault faults.NotOutlived 5 13
opened_region_is_not_outlived_by_an_older_one = refl

-- int main(){ let NewDynamicRegion{<`k> k} = new_ukey(); region<`k> d = open(k); region<`a> h; int *`a p = rnew(d) 3; return *p; }
opened_region_outlives_a_newer_one : verdict (Function (Some (written (at 1 1) Int [])) (the_main 1 5) (parameters (Listed []) None []) (Braces (at 1 11) (MoreItems (DynamicRegion (the_k 1 35) (the_k 1 39)) (MoreItems (Region (the_k 1 63) (the_d 1 67) (Some (the_k 1 76))) (MoreItems (Region (the_a 1 87) (the_h 1 91) None) (MoreItems (Local (written (at 1 94) Int ((mark marks.Nullable (Some (the_a 1 99))) ∷ [])) (the_p 1 102) (Some (RegionNew (at 1 106) (Variable (the_d 1 111)) (Plain (Number (at 1 114) 3))))) (MoreItems (Execute (Return (at 1 117) (Some (Prefixed (at 1 124) prefixes.Dereference (Variable (the_p 1 125)))))) NoItems))))) (at 1 128)) ∷ []) ≡ None
opened_region_outlives_a_newer_one = refl

-- int f(region_t<`x> h; {}){ rnew(h) 1; return 0; } int main(){ return 0; }
handle_of_a_region_that_is_not_live : verdict (Function (Some (written (at 1 1) Int [])) (the_f 1 5) (parameters (Listed ((member (written (at 1 7) (Handle (the_x 1 16)) []) (the_h 1 20)) ∷ [])) (Some []) []) (Braces (at 1 26) (MoreItems (Execute (Evaluate (RegionNew (at 1 28) (Variable (the_h 1 33)) (Plain (Number (at 1 36) 1))))) (MoreItems (Execute (Return (at 1 39) (Some (Number (at 1 46) 0)))) NoItems)) (at 1 49)) ∷ Function (Some (written (at 1 51) Int [])) (the_main 1 55) (parameters (Listed []) None []) (Braces (at 1 61) (MoreItems (Execute (Return (at 1 63) (Some (Number (at 1 70) 0)))) NoItems) (at 1 73)) ∷ []) ≡ fault faults.RegionNotLive 1 33
handle_of_a_region_that_is_not_live = refl

-- int f(int *`r p; {}){ return *p; } int main(){ return 0; }
pointer_into_a_region_that_is_not_live : verdict (Function (Some (written (at 1 1) Int [])) (the_f 1 5) (parameters (Listed ((member (written (at 1 7) Int ((mark marks.Nullable (Some (the_r 1 12))) ∷ [])) (the_p 1 15)) ∷ [])) (Some []) []) (Braces (at 1 21) (MoreItems (Execute (Return (at 1 23) (Some (Prefixed (at 1 30) prefixes.Dereference (Variable (the_p 1 31)))))) NoItems) (at 1 34)) ∷ Function (Some (written (at 1 36) Int [])) (the_main 1 40) (parameters (Listed []) None []) (Braces (at 1 46) (MoreItems (Execute (Return (at 1 48) (Some (Number (at 1 55) 0)))) NoItems) (at 1 58)) ∷ []) ≡ fault faults.RegionNotLive 1 31
pointer_into_a_region_that_is_not_live = refl

-- int f(int ?`r p; {}){ return numelts(p); } int main(){ return 0; }
length_asks_no_live_region : verdict (Function (Some (written (at 1 1) Int [])) (the_f 1 5) (parameters (Listed ((member (written (at 1 7) Int ((mark marks.Fat (Some (the_r 1 12))) ∷ [])) (the_p 1 15)) ∷ [])) (Some []) []) (Braces (at 1 21) (MoreItems (Execute (Return (at 1 23) (Some (NumberOfElements (at 1 30) (Variable (the_p 1 38)))))) NoItems) (at 1 42)) ∷ Function (Some (written (at 1 44) Int [])) (the_main 1 48) (parameters (Listed []) None []) (Braces (at 1 54) (MoreItems (Execute (Return (at 1 56) (Some (Number (at 1 63) 0)))) NoItems) (at 1 66)) ∷ []) ≡ None
length_asks_no_live_region = refl

-- int main(){
-- let NewDynamicRegion{<`k> k} = new_ukey();
-- int *`k p = NULL;
-- { region<`k> h = open(k); p = rnew(h) 1; }
-- free_ukey(k);
-- return p == p; }
thin_pointers_are_compared_in_live_regions : verdict (Function (Some (written (at 1 1) Int [])) (the_main 1 5) (parameters (Listed []) None []) (Braces (at 1 11) (MoreItems (DynamicRegion (the_k 2 23) (the_k 2 27)) (MoreItems (Local (written (at 3 1) Int ((mark marks.Nullable (Some (the_k 3 6))) ∷ [])) (the_p 3 9) (Some (Null (at 3 13)))) (MoreItems (Execute (Block (Braces (at 4 1) (MoreItems (Region (the_k 4 10) (the_h 4 14) (Some (the_k 4 23))) (MoreItems (Execute (Evaluate (Assign (Variable (the_p 4 27)) (RegionNew (at 4 31) (Variable (the_h 4 36)) (Plain (Number (at 4 39) 1)))))) NoItems)) (at 4 42)))) (MoreItems (Execute (Evaluate (FreeKey (at 5 1) (the_k 5 11)))) (MoreItems (Execute (Return (at 6 1) (Some (Binary (Variable (the_p 6 8)) (ThenOperation operators.Equal (at 6 10) (Variable (the_p 6 13)) NoOperations))))) NoItems))))) (at 6 16)) ∷ []) ≡ fault faults.RegionNotLive 6 8
thin_pointers_are_compared_in_live_regions = refl

-- int main(){
-- let NewDynamicRegion{<`k> k} = new_ukey();
-- int *`k p = NULL;
-- { region<`k> h = open(k); p = rnew(h) 1; }
-- free_ukey(k);
-- return p == NULL; }
null_is_compared_anywhere : verdict (Function (Some (written (at 1 1) Int [])) (the_main 1 5) (parameters (Listed []) None []) (Braces (at 1 11) (MoreItems (DynamicRegion (the_k 2 23) (the_k 2 27)) (MoreItems (Local (written (at 3 1) Int ((mark marks.Nullable (Some (the_k 3 6))) ∷ [])) (the_p 3 9) (Some (Null (at 3 13)))) (MoreItems (Execute (Block (Braces (at 4 1) (MoreItems (Region (the_k 4 10) (the_h 4 14) (Some (the_k 4 23))) (MoreItems (Execute (Evaluate (Assign (Variable (the_p 4 27)) (RegionNew (at 4 31) (Variable (the_h 4 36)) (Plain (Number (at 4 39) 1)))))) NoItems)) (at 4 42)))) (MoreItems (Execute (Evaluate (FreeKey (at 5 1) (the_k 5 11)))) (MoreItems (Execute (Return (at 6 1) (Some (Binary (Variable (the_p 6 8)) (ThenOperation operators.Equal (at 6 10) (Null (at 6 13)) NoOperations))))) NoItems))))) (at 6 19)) ∷ []) ≡ None
null_is_compared_anywhere = refl

-- ---- calls

-- int *`b keep(int *`a p, int *`b q; {} : `a > `b){ return p; }
-- int main(){ int x = 3;
-- B: { int y = 4; int *p = keep(&x, &y); return *p; } }
region_is_that_at_its_first_place : verdict (Function (Some (written (at 1 1) Int ((mark marks.Nullable (Some (the_b 1 6))) ∷ []))) (the_keep 1 9) (parameters (Listed ((member (written (at 1 14) Int ((mark marks.Nullable (Some (the_a 1 19))) ∷ [])) (the_p 1 22)) ∷ (member (written (at 1 25) Int ((mark marks.Nullable (Some (the_b 1 30))) ∷ [])) (the_q 1 33)) ∷ [])) (Some []) ((constraint (the_a 1 41) (the_b 1 46)) ∷ [])) (Braces (at 1 49) (MoreItems (Execute (Return (at 1 51) (Some (Variable (the_p 1 58))))) NoItems) (at 1 61)) ∷ Function (Some (written (at 2 1) Int [])) (the_main 2 5) (parameters (Listed []) None []) (Braces (at 2 11) (MoreItems (Local (written (at 2 13) Int []) (the_x 2 17) (Some (Number (at 2 21) 3))) (MoreItems (Execute (Labelled (the_B 3 1) (Braces (at 3 4) (MoreItems (Local (written (at 3 6) Int []) (the_y 3 10) (Some (Number (at 3 14) 4))) (MoreItems (Local (written (at 3 17) Int ((mark marks.Nullable None) ∷ [])) (the_p 3 22) (Some (Call (the_keep 3 26) (MoreExpressions (Prefixed (at 3 31) prefixes.AddressOf (Variable (the_x 3 32))) (MoreExpressions (Prefixed (at 3 35) prefixes.AddressOf (Variable (the_y 3 36))) NoExpressions))))) (MoreItems (Execute (Return (at 3 40) (Some (Prefixed (at 3 47) prefixes.Dereference (Variable (the_p 3 48)))))) NoItems))) (at 3 51)))) NoItems)) (at 3 53)) ∷ []) ≡ None
region_is_that_at_its_first_place = refl

-- int *`b keep(int *`a p, int *`b q; {} : `a > `b){ return p; }
-- int main(){ int x = 3;
-- B: { int y = 4; int *p = keep(&y, &x); return *p; } }
constraint_holds_at_a_call : verdict (Function (Some (written (at 1 1) Int ((mark marks.Nullable (Some (the_b 1 6))) ∷ []))) (the_keep 1 9) (parameters (Listed ((member (written (at 1 14) Int ((mark marks.Nullable (Some (the_a 1 19))) ∷ [])) (the_p 1 22)) ∷ (member (written (at 1 25) Int ((mark marks.Nullable (Some (the_b 1 30))) ∷ [])) (the_q 1 33)) ∷ [])) (Some []) ((constraint (the_a 1 41) (the_b 1 46)) ∷ [])) (Braces (at 1 49) (MoreItems (Execute (Return (at 1 51) (Some (Variable (the_p 1 58))))) NoItems) (at 1 61)) ∷ Function (Some (written (at 2 1) Int [])) (the_main 2 5) (parameters (Listed []) None []) (Braces (at 2 11) (MoreItems (Local (written (at 2 13) Int []) (the_x 2 17) (Some (Number (at 2 21) 3))) (MoreItems (Execute (Labelled (the_B 3 1) (Braces (at 3 4) (MoreItems (Local (written (at 3 6) Int []) (the_y 3 10) (Some (Number (at 3 14) 4))) (MoreItems (Local (written (at 3 17) Int ((mark marks.Nullable None) ∷ [])) (the_p 3 22) (Some (Call (the_keep 3 26) (MoreExpressions (Prefixed (at 3 31) prefixes.AddressOf (Variable (the_y 3 32))) (MoreExpressions (Prefixed (at 3 35) prefixes.AddressOf (Variable (the_x 3 36))) NoExpressions))))) (MoreItems (Execute (Return (at 3 40) (Some (Prefixed (at 3 47) prefixes.Dereference (Variable (the_p 3 48)))))) NoItems))) (at 3 51)))) NoItems)) (at 3 53)) ∷ []) ≡ fault faults.NotOutlived 3 26
constraint_holds_at_a_call = refl

-- int *`r f(int *`r p, int *`r q){ return q; } int main(){ int x = 1; L: { int y = 2; int *p = f(&x, &y); return *p; } }
argument_is_outlived_at_its_first_place : verdict (Function (Some (written (at 1 1) Int ((mark marks.Nullable (Some (the_r 1 6))) ∷ []))) (the_f 1 9) (parameters (Listed ((member (written (at 1 11) Int ((mark marks.Nullable (Some (the_r 1 16))) ∷ [])) (the_p 1 19)) ∷ (member (written (at 1 22) Int ((mark marks.Nullable (Some (the_r 1 27))) ∷ [])) (the_q 1 30)) ∷ [])) None []) (Braces (at 1 32) (MoreItems (Execute (Return (at 1 34) (Some (Variable (the_q 1 41))))) NoItems) (at 1 44)) ∷ Function (Some (written (at 1 46) Int [])) (the_main 1 50) (parameters (Listed []) None []) (Braces (at 1 56) (MoreItems (Local (written (at 1 58) Int []) (the_x 1 62) (Some (Number (at 1 66) 1))) (MoreItems (Execute (Labelled (the_L 1 69) (Braces (at 1 72) (MoreItems (Local (written (at 1 74) Int []) (the_y 1 78) (Some (Number (at 1 82) 2))) (MoreItems (Local (written (at 1 85) Int ((mark marks.Nullable None) ∷ [])) (the_p 1 90) (Some (Call (the_f 1 94) (MoreExpressions (Prefixed (at 1 96) prefixes.AddressOf (Variable (the_x 1 97))) (MoreExpressions (Prefixed (at 1 100) prefixes.AddressOf (Variable (the_y 1 101))) NoExpressions))))) (MoreItems (Execute (Return (at 1 105) (Some (Prefixed (at 1 112) prefixes.Dereference (Variable (the_p 1 113)))))) NoItems))) (at 1 116)))) NoItems)) (at 1 118)) ∷ []) ≡ fault faults.NotOutlived 1 100
argument_is_outlived_at_its_first_place = refl

-- int *`r f(int *`r p, int *`r q){ return q; } int main(){ int x = 1; int *p = f(NULL, &x); return *p; }
null_says_nothing_of_regions : verdict (Function (Some (written (at 1 1) Int ((mark marks.Nullable (Some (the_r 1 6))) ∷ []))) (the_f 1 9) (parameters (Listed ((member (written (at 1 11) Int ((mark marks.Nullable (Some (the_r 1 16))) ∷ [])) (the_p 1 19)) ∷ (member (written (at 1 22) Int ((mark marks.Nullable (Some (the_r 1 27))) ∷ [])) (the_q 1 30)) ∷ [])) None []) (Braces (at 1 32) (MoreItems (Execute (Return (at 1 34) (Some (Variable (the_q 1 41))))) NoItems) (at 1 44)) ∷ Function (Some (written (at 1 46) Int [])) (the_main 1 50) (parameters (Listed []) None []) (Braces (at 1 56) (MoreItems (Local (written (at 1 58) Int []) (the_x 1 62) (Some (Number (at 1 66) 1))) (MoreItems (Local (written (at 1 69) Int ((mark marks.Nullable None) ∷ [])) (the_p 1 74) (Some (Call (the_f 1 78) (MoreExpressions (Null (at 1 80)) (MoreExpressions (Prefixed (at 1 86) prefixes.AddressOf (Variable (the_x 1 87))) NoExpressions))))) (MoreItems (Execute (Return (at 1 91) (Some (Prefixed (at 1 98) prefixes.Dereference (Variable (the_p 1 99)))))) NoItems))) (at 1 102)) ∷ []) ≡ None
null_says_nothing_of_regions = refl

-- int get(int *`r p){ return *p; }
-- int main(){
-- let NewDynamicRegion{<`k> k} = new_ukey();
-- int *`k p = NULL;
-- return get(p); }
effect_is_not_live : verdict (Function (Some (written (at 1 1) Int [])) (the_get 1 5) (parameters (Listed ((member (written (at 1 9) Int ((mark marks.Nullable (Some (the_r 1 14))) ∷ [])) (the_p 1 17)) ∷ [])) None []) (Braces (at 1 19) (MoreItems (Execute (Return (at 1 21) (Some (Prefixed (at 1 28) prefixes.Dereference (Variable (the_p 1 29)))))) NoItems) (at 1 32)) ∷ Function (Some (written (at 2 1) Int [])) (the_main 2 5) (parameters (Listed []) None []) (Braces (at 2 11) (MoreItems (DynamicRegion (the_k 3 23) (the_k 3 27)) (MoreItems (Local (written (at 4 1) Int ((mark marks.Nullable (Some (the_k 4 6))) ∷ [])) (the_p 4 9) (Some (Null (at 4 13)))) (MoreItems (Execute (Return (at 5 1) (Some (Call (the_get 5 8) (MoreExpressions (Variable (the_p 5 12)) NoExpressions))))) NoItems))) (at 5 16)) ∷ []) ≡ fault faults.EffectNotCovered 5 8
effect_is_not_live = refl

-- int get(int *`r p){ return *p; }
-- int main(){
-- let NewDynamicRegion{<`k> k} = new_ukey();
-- region<`k> h = open(k);
-- int *`k p = rnew(h) 1;
-- return get(p); }
effect_is_live : verdict (Function (Some (written (at 1 1) Int [])) (the_get 1 5) (parameters (Listed ((member (written (at 1 9) Int ((mark marks.Nullable (Some (the_r 1 14))) ∷ [])) (the_p 1 17)) ∷ [])) None []) (Braces (at 1 19) (MoreItems (Execute (Return (at 1 21) (Some (Prefixed (at 1 28) prefixes.Dereference (Variable (the_p 1 29)))))) NoItems) (at 1 32)) ∷ Function (Some (written (at 2 1) Int [])) (the_main 2 5) (parameters (Listed []) None []) (Braces (at 2 11) (MoreItems (DynamicRegion (the_k 3 23) (the_k 3 27)) (MoreItems (Region (the_k 4 8) (the_h 4 12) (Some (the_k 4 21))) (MoreItems (Local (written (at 5 1) Int ((mark marks.Nullable (Some (the_k 5 6))) ∷ [])) (the_p 5 9) (Some (RegionNew (at 5 13) (Variable (the_h 5 18)) (Plain (Number (at 5 21) 1))))) (MoreItems (Execute (Return (at 6 1) (Some (Call (the_get 6 8) (MoreExpressions (Variable (the_p 6 12)) NoExpressions))))) NoItems)))) (at 6 16)) ∷ []) ≡ None
effect_is_live = refl

-- int is(int *`r p; {}){ return p == NULL; } int main(){ let NewDynamicRegion{<`k> k} = new_ukey(); int *`k p = NULL; return is(p); }
no_effect : verdict (Function (Some (written (at 1 1) Int [])) (the_is 1 5) (parameters (Listed ((member (written (at 1 8) Int ((mark marks.Nullable (Some (the_r 1 13))) ∷ [])) (the_p 1 16)) ∷ [])) (Some []) []) (Braces (at 1 22) (MoreItems (Execute (Return (at 1 24) (Some (Binary (Variable (the_p 1 31)) (ThenOperation operators.Equal (at 1 33) (Null (at 1 36)) NoOperations))))) NoItems) (at 1 42)) ∷ Function (Some (written (at 1 44) Int [])) (the_main 1 48) (parameters (Listed []) None []) (Braces (at 1 54) (MoreItems (DynamicRegion (the_k 1 78) (the_k 1 82)) (MoreItems (Local (written (at 1 99) Int ((mark marks.Nullable (Some (the_k 1 104))) ∷ [])) (the_p 1 107) (Some (Null (at 1 111)))) (MoreItems (Execute (Return (at 1 117) (Some (Call (the_is 1 124) (MoreExpressions (Variable (the_p 1 127)) NoExpressions))))) NoItems))) (at 1 131)) ∷ []) ≡ None
no_effect = refl

-- void f(uregion_key_t<`k> k, int *`k p){ } int main(){ let NewDynamicRegion{<`k> k} = new_ukey(); int *`k p = NULL; f(k, p); return 0; }
effect_leaves_out_the_regions_of_keys : verdict (Function None (the_f 1 6) (parameters (Listed ((member (written (at 1 8) (Key (the_k 1 22)) []) (the_k 1 26)) ∷ (member (written (at 1 29) Int ((mark marks.Nullable (Some (the_k 1 34))) ∷ [])) (the_p 1 37)) ∷ [])) None []) (Braces (at 1 39) NoItems (at 1 41)) ∷ Function (Some (written (at 1 43) Int [])) (the_main 1 47) (parameters (Listed []) None []) (Braces (at 1 53) (MoreItems (DynamicRegion (the_k 1 77) (the_k 1 81)) (MoreItems (Local (written (at 1 98) Int ((mark marks.Nullable (Some (the_k 1 103))) ∷ [])) (the_p 1 106) (Some (Null (at 1 110)))) (MoreItems (Execute (Evaluate (Call (the_f 1 116) (MoreExpressions (Variable (the_k 1 118)) (MoreExpressions (Variable (the_p 1 121)) NoExpressions))))) (MoreItems (Execute (Return (at 1 125) (Some (Number (at 1 132) 0)))) NoItems)))) (at 1 135)) ∷ []) ≡ None
effect_leaves_out_the_regions_of_keys = refl

-- void f(uregion_key_t<`k> k; {`k}){ } int main(){ return 0; }
effect_names_no_region_with_a_key : verdict (Function None (the_f 1 6) (parameters (Listed ((member (written (at 1 8) (Key (the_k 1 22)) []) (the_k 1 26)) ∷ [])) (Some ((the_k 1 30) ∷ [])) []) (Braces (at 1 34) NoItems (at 1 36)) ∷ Function (Some (written (at 1 38) Int [])) (the_main 1 42) (parameters (Listed []) None []) (Braces (at 1 48) (MoreItems (Execute (Return (at 1 50) (Some (Number (at 1 57) 0)))) NoItems) (at 1 60)) ∷ []) ≡ fault faults.RegionOrKeyMisused 1 30
effect_names_no_region_with_a_key = refl

-- void f(int *`a p : `a > `U){ } int main(){ return 0; }
no_constraint_on_unique_pointers : verdict (Function None (the_f 1 6) (parameters (Listed ((member (written (at 1 8) Int ((mark marks.Nullable (Some (the_a 1 13))) ∷ [])) (the_p 1 16)) ∷ [])) None ((constraint (the_a 1 20) (the_U 1 25)) ∷ [])) (Braces (at 1 28) NoItems (at 1 30)) ∷ Function (Some (written (at 1 32) Int [])) (the_main 1 36) (parameters (Listed []) None []) (Braces (at 1 42) (MoreItems (Execute (Return (at 1 44) (Some (Number (at 1 51) 0)))) NoItems) (at 1 54)) ∷ []) ≡ fault faults.RegionOrKeyMisused 1 25
no_constraint_on_unique_pointers = refl

-- int f(int *p){ return 0; } int main(){ int *`U u = NULL; return f(u); }
no_variable_stands_for_unique_pointers : verdict (Function (Some (written (at 1 1) Int [])) (the_f 1 5) (parameters (Listed ((member (written (at 1 7) Int ((mark marks.Nullable None) ∷ [])) (the_p 1 12)) ∷ [])) None []) (Braces (at 1 14) (MoreItems (Execute (Return (at 1 16) (Some (Number (at 1 23) 0)))) NoItems) (at 1 26)) ∷ Function (Some (written (at 1 28) Int [])) (the_main 1 32) (parameters (Listed []) None []) (Braces (at 1 38) (MoreItems (Local (written (at 1 40) Int ((mark marks.Nullable (Some (the_U 1 45))) ∷ [])) (the_u 1 48) (Some (Null (at 1 52)))) (MoreItems (Execute (Return (at 1 58) (Some (Call (the_f 1 65) (MoreExpressions (Variable (the_u 1 67)) NoExpressions))))) NoItems)) (at 1 71)) ∷ []) ≡ fault faults.RegionOrKeyMisused 1 67
no_variable_stands_for_unique_pointers = refl

-- int f(int *`H p, int q){ return 0; } int main(){ int x = 1; f(&x, &x); return 0; }
lowest_code_of_a_call : verdict (Function (Some (written (at 1 1) Int [])) (the_f 1 5) (parameters (Listed ((member (written (at 1 7) Int ((mark marks.Nullable (Some (the_H 1 12))) ∷ [])) (the_p 1 15)) ∷ (member (written (at 1 18) Int []) (the_q 1 22)) ∷ [])) None []) (Braces (at 1 24) (MoreItems (Execute (Return (at 1 26) (Some (Number (at 1 33) 0)))) NoItems) (at 1 36)) ∷ Function (Some (written (at 1 38) Int [])) (the_main 1 42) (parameters (Listed []) None []) (Braces (at 1 48) (MoreItems (Local (written (at 1 50) Int []) (the_x 1 54) (Some (Number (at 1 58) 1))) (MoreItems (Execute (Evaluate (Call (the_f 1 61) (MoreExpressions (Prefixed (at 1 63) prefixes.AddressOf (Variable (the_x 1 64))) (MoreExpressions (Prefixed (at 1 67) prefixes.AddressOf (Variable (the_x 1 68))) NoExpressions))))) (MoreItems (Execute (Return (at 1 72) (Some (Number (at 1 79) 0)))) NoItems))) (at 1 82)) ∷ []) ≡ fault faults.TypeMismatch 1 67
lowest_code_of_a_call = refl

-- ---- statements

-- datatype exn { A(int); }; int main(){ throw new A(1); }
throw_with_its_int : verdict (Exceptions ((constructor (the_A 1 16) true) ∷ []) ∷ Function (Some (written (at 1 27) Int [])) (the_main 1 31) (parameters (Listed []) None []) (Braces (at 1 37) (MoreItems (Execute (Throw (at 1 39) (the_A 1 49) (Some (Number (at 1 51) 1)))) NoItems) (at 1 55)) ∷ []) ≡ None
throw_with_its_int = refl

-- datatype exn { A(int); }; int main(){ throw new A; }
throw_without_its_int : verdict (Exceptions ((constructor (the_A 1 16) true) ∷ []) ∷ Function (Some (written (at 1 27) Int [])) (the_main 1 31) (parameters (Listed []) None []) (Braces (at 1 37) (MoreItems (Execute (Throw (at 1 39) (the_A 1 49) None)) NoItems) (at 1 52)) ∷ []) ≡ fault faults.TypeMismatch 1 49
throw_without_its_int = refl

-- datatype exn { A; }; int main(){ throw new A(1); }
throw_with_an_int_too_much : verdict (Exceptions ((constructor (the_A 1 16) false) ∷ []) ∷ Function (Some (written (at 1 22) Int [])) (the_main 1 26) (parameters (Listed []) None []) (Braces (at 1 32) (MoreItems (Execute (Throw (at 1 34) (the_A 1 44) (Some (Number (at 1 46) 1)))) NoItems) (at 1 50)) ∷ []) ≡ fault faults.TypeMismatch 1 44
throw_with_an_int_too_much = refl

-- datatype exn { A(int); }; int main(){ try ; catch { case &A: ; } return 0; }
catch_without_its_int : verdict (Exceptions ((constructor (the_A 1 16) true) ∷ []) ∷ Function (Some (written (at 1 27) Int [])) (the_main 1 31) (parameters (Listed []) None []) (Braces (at 1 37) (MoreItems (Execute (Try (at 1 39) (Empty (at 1 43)) (Case (the_A 1 59) None (MoreItems (Execute (Empty (at 1 62))) NoItems) NoClauses))) (MoreItems (Execute (Return (at 1 66) (Some (Number (at 1 73) 0)))) NoItems)) (at 1 76)) ∷ []) ≡ fault faults.TypeMismatch 1 59
catch_without_its_int = refl

-- int main(){ int x = 1; int *p = NULL; x :=: p; return 0; }
swap_of_two_types : verdict (Function (Some (written (at 1 1) Int [])) (the_main 1 5) (parameters (Listed []) None []) (Braces (at 1 11) (MoreItems (Local (written (at 1 13) Int []) (the_x 1 17) (Some (Number (at 1 21) 1))) (MoreItems (Local (written (at 1 24) Int ((mark marks.Nullable None) ∷ [])) (the_p 1 29) (Some (Null (at 1 33)))) (MoreItems (Execute (Swap (Variable (the_x 1 39)) (Variable (the_p 1 45)))) (MoreItems (Execute (Return (at 1 48) (Some (Number (at 1 55) 0)))) NoItems)))) (at 1 58)) ∷ []) ≡ fault faults.TypeMismatch 1 39
swap_of_two_types = refl

-- struct S { int x; }; int main(){ struct S *p = NULL; struct S *q = NULL; *p :=: *q; return 0; }
swap_of_structs : verdict (StructType (the_S 1 8) [] ((member (written (at 1 12) Int []) (the_x 1 16)) ∷ []) ∷ Function (Some (written (at 1 22) Int [])) (the_main 1 26) (parameters (Listed []) None []) (Braces (at 1 32) (MoreItems (Local (written (at 1 34) (Struct (the_S 1 41) []) ((mark marks.Nullable None) ∷ [])) (the_p 1 44) (Some (Null (at 1 48)))) (MoreItems (Local (written (at 1 54) (Struct (the_S 1 61) []) ((mark marks.Nullable None) ∷ [])) (the_q 1 64) (Some (Null (at 1 68)))) (MoreItems (Execute (Swap (Prefixed (at 1 74) prefixes.Dereference (Variable (the_p 1 75))) (Prefixed (at 1 81) prefixes.Dereference (Variable (the_q 1 82))))) (MoreItems (Execute (Return (at 1 85) (Some (Number (at 1 92) 0)))) NoItems)))) (at 1 95)) ∷ []) ≡ fault faults.TypeMismatch 1 74
swap_of_structs = refl

-- int main(){ while (1) { try break; catch { default: continue; } } return 0; }
catch_within_a_loop : verdict (Function (Some (written (at 1 1) Int [])) (the_main 1 5) (parameters (Listed []) None []) (Braces (at 1 11) (MoreItems (Execute (While (at 1 13) (Number (at 1 20) 1) (Block (Braces (at 1 23) (MoreItems (Execute (Try (at 1 25) (Break (at 1 29)) (Default (MoreItems (Execute (Continue (at 1 53))) NoItems)))) NoItems) (at 1 65))))) (MoreItems (Execute (Return (at 1 67) (Some (Number (at 1 74) 0)))) NoItems)) (at 1 77)) ∷ []) ≡ None
catch_within_a_loop = refl

-- void f(){ break; } int main(){ while (1) f(); return 0; }
outside_a_loop : verdict (Function None (the_f 1 6) (parameters (Listed []) None []) (Braces (at 1 9) (MoreItems (Execute (Break (at 1 11))) NoItems) (at 1 18)) ∷ Function (Some (written (at 1 20) Int [])) (the_main 1 24) (parameters (Listed []) None []) (Braces (at 1 30) (MoreItems (Execute (While (at 1 32) (Number (at 1 39) 1) (Evaluate (Call (the_f 1 42) NoExpressions)))) (MoreItems (Execute (Return (at 1 47) (Some (Number (at 1 54) 0)))) NoItems)) (at 1 57)) ∷ []) ≡ fault faults.OutsideLoop 1 11
outside_a_loop = refl

-- int main(;{}){ return 0; }
main_with_an_effect : verdict (Function (Some (written (at 1 1) Int [])) (the_main 1 5) (parameters (Listed []) (Some []) []) (Braces (at 1 14) (MoreItems (Execute (Return (at 1 16) (Some (Number (at 1 23) 0)))) NoItems) (at 1 26)) ∷ []) ≡ fault faults.BadMain 1 5
main_with_an_effect = refl

-- int *main(){ return NULL; }
main_with_another_result : verdict (Function (Some (written (at 1 1) Int ((mark marks.Nullable None) ∷ []))) (the_main 1 6) (parameters (Listed []) None []) (Braces (at 1 12) (MoreItems (Execute (Return (at 1 14) (Some (Null (at 1 21))))) NoItems) (at 1 27)) ∷ []) ≡ fault faults.BadMain 1 6
main_with_another_result = refl

-- struct main { int x; };
main_is_missing : verdict (StructType (the_main 1 8) [] ((member (written (at 1 15) Int []) (the_x 1 19)) ∷ []) ∷ []) ≡ fault faults.BadMain 1 1
main_is_missing = refl

-- ---- unique pointers and keys

-- int *`U g = NULL;
-- int main(){ int *`U u = rnew(unique_region) 7;
-- g :=: u; u :=: g;
-- int v = *u; ufree(u); return v; }
unique_global_is_swapped : verdict (Global (written (at 1 1) Int ((mark marks.Nullable (Some (the_U 1 6))) ∷ [])) (the_g 1 9) (Some (NullPointer (at 1 13))) ∷ Function (Some (written (at 2 1) Int [])) (the_main 2 5) (parameters (Listed []) None []) (Braces (at 2 11) (MoreItems (Local (written (at 2 13) Int ((mark marks.Nullable (Some (the_U 2 18))) ∷ [])) (the_u 2 21) (Some (RegionNew (at 2 25) (UniqueRegion (at 2 30)) (Plain (Number (at 2 45) 7))))) (MoreItems (Execute (Swap (Variable (the_g 3 1)) (Variable (the_u 3 7)))) (MoreItems (Execute (Swap (Variable (the_u 3 10)) (Variable (the_g 3 16)))) (MoreItems (Local (written (at 4 1) Int []) (the_v 4 5) (Some (Prefixed (at 4 9) prefixes.Dereference (Variable (the_u 4 10))))) (MoreItems (Execute (Evaluate (FreeUnique (at 4 13) (Variable (the_u 4 19))))) (MoreItems (Execute (Return (at 4 23) (Some (Variable (the_v 4 30))))) NoItems)))))) (at 4 33)) ∷ []) ≡ None
unique_global_is_swapped = refl

-- int *`U g = NULL;
-- int main(){ int *`U u = rnew(unique_region) 7;
-- g :=: u; u :=: g;
-- return *g; }
unique_global_is_not_read : verdict (Global (written (at 1 1) Int ((mark marks.Nullable (Some (the_U 1 6))) ∷ [])) (the_g 1 9) (Some (NullPointer (at 1 13))) ∷ Function (Some (written (at 2 1) Int [])) (the_main 2 5) (parameters (Listed []) None []) (Braces (at 2 11) (MoreItems (Local (written (at 2 13) Int ((mark marks.Nullable (Some (the_U 2 18))) ∷ [])) (the_u 2 21) (Some (RegionNew (at 2 25) (UniqueRegion (at 2 30)) (Plain (Number (at 2 45) 7))))) (MoreItems (Execute (Swap (Variable (the_g 3 1)) (Variable (the_u 3 7)))) (MoreItems (Execute (Swap (Variable (the_u 3 10)) (Variable (the_g 3 16)))) (MoreItems (Execute (Return (at 4 1) (Some (Prefixed (at 4 8) prefixes.Dereference (Variable (the_g 4 9)))))) NoItems)))) (at 4 12)) ∷ []) ≡ fault faults.UniqueShared 4 9
unique_global_is_not_read = refl

-- int *`U g; int main(){ return g == NULL; }
unique_global_is_not_tested : verdict (Global (written (at 1 1) Int ((mark marks.Nullable (Some (the_U 1 6))) ∷ [])) (the_g 1 9) None ∷ Function (Some (written (at 1 12) Int [])) (the_main 1 16) (parameters (Listed []) None []) (Braces (at 1 22) (MoreItems (Execute (Return (at 1 24) (Some (Binary (Variable (the_g 1 31)) (ThenOperation operators.Equal (at 1 33) (Null (at 1 36)) NoOperations))))) NoItems) (at 1 42)) ∷ []) ≡ fault faults.UniqueShared 1 31
unique_global_is_not_tested = refl

-- int main(){ int @`U @q = new rnew(unique_region) 2; return **q; }
unique_pointer_in_an_object : verdict (Function (Some (written (at 1 1) Int [])) (the_main 1 5) (parameters (Listed []) None []) (Braces (at 1 11) (MoreItems (Local (written (at 1 13) Int ((mark marks.NonNull (Some (the_U 1 18))) ∷ (mark marks.NonNull None) ∷ [])) (the_q 1 22) (Some (New (at 1 26) (Plain (RegionNew (at 1 30) (UniqueRegion (at 1 35)) (Plain (Number (at 1 50) 2))))))) (MoreItems (Execute (Return (at 1 53) (Some (Prefixed (at 1 60) prefixes.Dereference (Prefixed (at 1 61) prefixes.Dereference (Variable (the_q 1 62))))))) NoItems)) (at 1 65)) ∷ []) ≡ fault faults.UniqueShared 1 61
unique_pointer_in_an_object = refl

-- int main(){ int @`U @q = new rnew(unique_region) 2; *q = rnew(unique_region) 3; return 0; }
unique_pointer_in_an_object_is_assigned : verdict (Function (Some (written (at 1 1) Int [])) (the_main 1 5) (parameters (Listed []) None []) (Braces (at 1 11) (MoreItems (Local (written (at 1 13) Int ((mark marks.NonNull (Some (the_U 1 18))) ∷ (mark marks.NonNull None) ∷ [])) (the_q 1 22) (Some (New (at 1 26) (Plain (RegionNew (at 1 30) (UniqueRegion (at 1 35)) (Plain (Number (at 1 50) 2))))))) (MoreItems (Execute (Evaluate (Assign (Prefixed (at 1 53) prefixes.Dereference (Variable (the_q 1 54))) (RegionNew (at 1 58) (UniqueRegion (at 1 63)) (Plain (Number (at 1 78) 3)))))) (MoreItems (Execute (Return (at 1 81) (Some (Number (at 1 88) 0)))) NoItems))) (at 1 91)) ∷ []) ≡ None
unique_pointer_in_an_object_is_assigned = refl

-- int main(){ int @`U u = rnew(unique_region) 5; &u; return 0; }
unique_variable_has_no_address : verdict (Function (Some (written (at 1 1) Int [])) (the_main 1 5) (parameters (Listed []) None []) (Braces (at 1 11) (MoreItems (Local (written (at 1 13) Int ((mark marks.NonNull (Some (the_U 1 18))) ∷ [])) (the_u 1 21) (Some (RegionNew (at 1 25) (UniqueRegion (at 1 30)) (Plain (Number (at 1 45) 5))))) (MoreItems (Execute (Evaluate (Prefixed (at 1 48) prefixes.AddressOf (Variable (the_u 1 49))))) (MoreItems (Execute (Return (at 1 52) (Some (Number (at 1 59) 0)))) NoItems))) (at 1 62)) ∷ []) ≡ fault faults.UniqueShared 1 49
unique_variable_has_no_address = refl

-- struct S { int x; }; int main(){ struct S *`U u = rnew(unique_region) S{1}; &u->x; return 0; }
unique_object_has_no_address : verdict (StructType (the_S 1 8) [] ((member (written (at 1 12) Int []) (the_x 1 16)) ∷ []) ∷ Function (Some (written (at 1 22) Int [])) (the_main 1 26) (parameters (Listed []) None []) (Braces (at 1 32) (MoreItems (Local (written (at 1 34) (Struct (the_S 1 41) []) ((mark marks.Nullable (Some (the_U 1 44))) ∷ [])) (the_u 1 47) (Some (RegionNew (at 1 51) (UniqueRegion (at 1 56)) (Fields (the_S 1 71) [] (MoreExpressions (Number (at 1 73) 1) NoExpressions))))) (MoreItems (Execute (Evaluate (Prefixed (at 1 77) prefixes.AddressOf (Chained (Variable (the_u 1 78)) (ThenField (the_x 1 81) NoPostfixes))))) (MoreItems (Execute (Return (at 1 84) (Some (Number (at 1 91) 0)))) NoItems))) (at 1 94)) ∷ []) ≡ fault faults.UniqueShared 1 78
unique_object_has_no_address = refl

-- int main(){ unique_region; return 0; }
unique_region_stands_alone : verdict (Function (Some (written (at 1 1) Int [])) (the_main 1 5) (parameters (Listed []) None []) (Braces (at 1 11) (MoreItems (Execute (Evaluate (UniqueRegion (at 1 13)))) (MoreItems (Execute (Return (at 1 28) (Some (Number (at 1 35) 0)))) NoItems)) (at 1 38)) ∷ []) ≡ fault faults.RegionOrKeyMisused 1 13
unique_region_stands_alone = refl

-- int main(){ int *p = rnew((unique_region)) 1; return 0; }
unique_region_in_brackets : verdict (Function (Some (written (at 1 1) Int [])) (the_main 1 5) (parameters (Listed []) None []) (Braces (at 1 11) (MoreItems (Local (written (at 1 13) Int ((mark marks.Nullable None) ∷ [])) (the_p 1 18) (Some (RegionNew (at 1 22) (Bracketed (at 1 27) (UniqueRegion (at 1 28))) (Plain (Number (at 1 44) 1))))) (MoreItems (Execute (Return (at 1 47) (Some (Number (at 1 54) 0)))) NoItems)) (at 1 57)) ∷ []) ≡ None
unique_region_in_brackets = refl

-- int main(){ int *p = NULL; ufree(p); return 0; }
unique_pointer_is_given_back : verdict (Function (Some (written (at 1 1) Int [])) (the_main 1 5) (parameters (Listed []) None []) (Braces (at 1 11) (MoreItems (Local (written (at 1 13) Int ((mark marks.Nullable None) ∷ [])) (the_p 1 18) (Some (Null (at 1 22)))) (MoreItems (Execute (Evaluate (FreeUnique (at 1 28) (Variable (the_p 1 34))))) (MoreItems (Execute (Return (at 1 38) (Some (Number (at 1 45) 0)))) NoItems))) (at 1 48)) ∷ []) ≡ fault faults.RegionOrKeyMisused 1 34
unique_pointer_is_given_back = refl

-- int main(){ int @`U u = rnew(unique_region) 5; let alias <`a> int @`a x = u; return *x; }
alias : verdict (Function (Some (written (at 1 1) Int [])) (the_main 1 5) (parameters (Listed []) None []) (Braces (at 1 11) (MoreItems (Local (written (at 1 13) Int ((mark marks.NonNull (Some (the_U 1 18))) ∷ [])) (the_u 1 21) (Some (RegionNew (at 1 25) (UniqueRegion (at 1 30)) (Plain (Number (at 1 45) 5))))) (MoreItems (Alias (the_a 1 59) (written (at 1 63) Int ((mark marks.NonNull (Some (the_a 1 68))) ∷ [])) (the_x 1 71) (the_u 1 75)) (MoreItems (Execute (Return (at 1 78) (Some (Prefixed (at 1 85) prefixes.Dereference (Variable (the_x 1 86)))))) NoItems))) (at 1 89)) ∷ []) ≡ None
alias = refl

-- int main(){ int @`U u = rnew(unique_region) 5; let alias <`a> int @x = u; return 0; }
alias_of_another_region : verdict (Function (Some (written (at 1 1) Int [])) (the_main 1 5) (parameters (Listed []) None []) (Braces (at 1 11) (MoreItems (Local (written (at 1 13) Int ((mark marks.NonNull (Some (the_U 1 18))) ∷ [])) (the_u 1 21) (Some (RegionNew (at 1 25) (UniqueRegion (at 1 30)) (Plain (Number (at 1 45) 5))))) (MoreItems (Alias (the_a 1 59) (written (at 1 63) Int ((mark marks.NonNull None) ∷ [])) (the_x 1 68) (the_u 1 72)) (MoreItems (Execute (Return (at 1 75) (Some (Number (at 1 82) 0)))) NoItems))) (at 1 85)) ∷ []) ≡ fault faults.TypeMismatch 1 63
alias_of_another_region = refl

-- int main(){ int @p = new 5; let alias <`a> int @`a x = p; return 0; }
alias_of_what_is_not_unique : verdict (Function (Some (written (at 1 1) Int [])) (the_main 1 5) (parameters (Listed []) None []) (Braces (at 1 11) (MoreItems (Local (written (at 1 13) Int ((mark marks.NonNull None) ∷ [])) (the_p 1 18) (Some (New (at 1 22) (Plain (Number (at 1 26) 5))))) (MoreItems (Alias (the_a 1 40) (written (at 1 44) Int ((mark marks.NonNull (Some (the_a 1 49))) ∷ [])) (the_x 1 52) (the_p 1 56)) (MoreItems (Execute (Return (at 1 59) (Some (Number (at 1 66) 0)))) NoItems))) (at 1 69)) ∷ []) ≡ fault faults.RegionOrKeyMisused 1 56
alias_of_what_is_not_unique = refl

-- int main(){ int y = 1; int @`U u = rnew(unique_region) 5; let alias <`a> int @`a x = u; x = &y; return 0; }
alias_is_not_outlived_by_an_older_region : verdict (Function (Some (written (at 1 1) Int [])) (the_main 1 5) (parameters (Listed []) None []) (Braces (at 1 11) (MoreItems (Local (written (at 1 13) Int []) (the_y 1 17) (Some (Number (at 1 21) 1))) (MoreItems (Local (written (at 1 24) Int ((mark marks.NonNull (Some (the_U 1 29))) ∷ [])) (the_u 1 32) (Some (RegionNew (at 1 36) (UniqueRegion (at 1 41)) (Plain (Number (at 1 56) 5))))) (MoreItems (Alias (the_a 1 70) (written (at 1 74) Int ((mark marks.NonNull (Some (the_a 1 79))) ∷ [])) (the_x 1 82) (the_u 1 86)) (MoreItems (Execute (Evaluate (Assign (Variable (the_x 1 89)) (Prefixed (at 1 93) prefixes.AddressOf (Variable (the_y 1 94)))))) (MoreItems (Execute (Return (at 1 97) (Some (Number (at 1 104) 0)))) NoItems))))) (at 1 107)) ∷ []) ≡ fault faults.NotOutlived 1 93
alias_is_not_outlived_by_an_older_region = refl

-- int main(){ let NewDynamicRegion{<`k> k} = new_ukey(); region<`a> g; region<`a> h = open(k); return 0; }
opened_region_is_the_keys : verdict (Function (Some (written (at 1 1) Int [])) (the_main 1 5) (parameters (Listed []) None []) (Braces (at 1 11) (MoreItems (DynamicRegion (the_k 1 35) (the_k 1 39)) (MoreItems (Region (the_a 1 63) (the_g 1 67) None) (MoreItems (Region (the_a 1 77) (the_h 1 81) (Some (the_k 1 90))) (MoreItems (Execute (Return (at 1 94) (Some (Number (at 1 101) 0)))) NoItems)))) (at 1 104)) ∷ []) ≡ fault faults.RegionOrKeyMisused 1 77
opened_region_is_the_keys = refl

-- int main(){ int x = 1; region<`main> h = open(x); return 0; }
opened_with_no_key : verdict (Function (Some (written (at 1 1) Int [])) (the_main 1 5) (parameters (Listed []) None []) (Braces (at 1 11) (MoreItems (Local (written (at 1 13) Int []) (the_x 1 17) (Some (Number (at 1 21) 1))) (MoreItems (Region (the_main 1 31) (the_h 1 38) (Some (the_x 1 47))) (MoreItems (Execute (Return (at 1 51) (Some (Number (at 1 58) 0)))) NoItems))) (at 1 61)) ∷ []) ≡ fault faults.RegionOrKeyMisused 1 47
opened_with_no_key = refl

-- int main(){ let NewDynamicRegion{<`k> k} = new_ukey(); new k; return 0; }
key_in_an_object : verdict (Function (Some (written (at 1 1) Int [])) (the_main 1 5) (parameters (Listed []) None []) (Braces (at 1 11) (MoreItems (DynamicRegion (the_k 1 35) (the_k 1 39)) (MoreItems (Execute (Evaluate (New (at 1 56) (Plain (Variable (the_k 1 60)))))) (MoreItems (Execute (Return (at 1 63) (Some (Number (at 1 70) 0)))) NoItems))) (at 1 73)) ∷ []) ≡ fault faults.RegionOrKeyMisused 1 60
key_in_an_object = refl

-- void f(uregion_key_t<`k> k){ &k; } int main(){ return 0; }
key_has_no_address : verdict (Function None (the_f 1 6) (parameters (Listed ((member (written (at 1 8) (Key (the_k 1 22)) []) (the_k 1 26)) ∷ [])) None []) (Braces (at 1 28) (MoreItems (Execute (Evaluate (Prefixed (at 1 30) prefixes.AddressOf (Variable (the_k 1 31))))) NoItems) (at 1 34)) ∷ Function (Some (written (at 1 36) Int [])) (the_main 1 40) (parameters (Listed []) None []) (Braces (at 1 46) (MoreItems (Execute (Return (at 1 48) (Some (Number (at 1 55) 0)))) NoItems) (at 1 58)) ∷ []) ≡ fault faults.RegionOrKeyMisused 1 31
key_has_no_address = refl

-- int main(){ let NewDynamicRegion{<`k> k} = new_ukey(); free_ukey(k); return 0; }
key_is_given_back : verdict (Function (Some (written (at 1 1) Int [])) (the_main 1 5) (parameters (Listed []) None []) (Braces (at 1 11) (MoreItems (DynamicRegion (the_k 1 35) (the_k 1 39)) (MoreItems (Execute (Evaluate (FreeKey (at 1 56) (the_k 1 66)))) (MoreItems (Execute (Return (at 1 70) (Some (Number (at 1 77) 0)))) NoItems))) (at 1 80)) ∷ []) ≡ None
key_is_given_back = refl

-- int main(){ int x = 1; free_ukey(x); return 0; }
what_is_no_key_is_not_given_back : verdict (Function (Some (written (at 1 1) Int [])) (the_main 1 5) (parameters (Listed []) None []) (Braces (at 1 11) (MoreItems (Local (written (at 1 13) Int []) (the_x 1 17) (Some (Number (at 1 21) 1))) (MoreItems (Execute (Evaluate (FreeKey (at 1 24) (the_x 1 34)))) (MoreItems (Execute (Return (at 1 38) (Some (Number (at 1 45) 0)))) NoItems))) (at 1 48)) ∷ []) ≡ fault faults.RegionOrKeyMisused 1 34
what_is_no_key_is_not_given_back = refl

-- ---- typed trees

-- int get(int *`r p){ return *p; } int main(){ int @`U u = rnew(unique_region) 5; let alias <`a> int @`a x = u; return get(x); }
typed_tree : check_of texts (Function (Some (written (at 1 1) Int [])) (the_get 1 5) (parameters (Listed ((member (written (at 1 9) Int ((mark marks.Nullable (Some (the_r 1 14))) ∷ [])) (the_p 1 17)) ∷ [])) None []) (Braces (at 1 19) (MoreItems (Execute (Return (at 1 21) (Some (Prefixed (at 1 28) prefixes.Dereference (Variable (the_p 1 29)))))) NoItems) (at 1 32)) ∷ Function (Some (written (at 1 34) Int [])) (the_main 1 38) (parameters (Listed []) None []) (Braces (at 1 44) (MoreItems (Local (written (at 1 46) Int ((mark marks.NonNull (Some (the_U 1 51))) ∷ [])) (the_u 1 54) (Some (RegionNew (at 1 58) (UniqueRegion (at 1 63)) (Plain (Number (at 1 78) 5))))) (MoreItems (Alias (the_a 1 92) (written (at 1 96) Int ((mark marks.NonNull (Some (the_a 1 101))) ∷ [])) (the_x 1 104) (the_u 1 108)) (MoreItems (Execute (Return (at 1 111) (Some (Call (the_get 1 118) (MoreExpressions (Variable (the_x 1 122)) NoExpressions))))) NoItems))) (at 1 126)) ∷ [])
    ≡ Ok (record {
      structs = [];
      exceptions = [];
      globals = [];
      functions = record {
        name = 28;
        place = at 1 5;
        parameters = types.Pointer marks.Nullable types.Int (regions.Variable 1) ∷ [];
        result = Some types.Int;
        variables = 1;
        effect = regions.Variable 1 ∷ [];
        constraints = [];
        locals = [];
        region = 0;
        regions = 2;
        body =
            typed.MoreItems (typed.Execute (typed.Return (Some (typed.Convert kinds.Int kinds.Int (
            typed.Load (typed.Target kinds.Nullable (typed.Copy (typed.Local (at 1 29) 0) (types.Pointer marks.Nullable types.Int (regions.Variable 1))) types.Int)))))) typed.NoItems;
        end = at 1 32;
      }
          ∷ record {
            name = 0;
            place = at 1 38;
            parameters = [];
            result = Some types.Int;
            variables = 0;
            effect = [];
            constraints = [];
            locals = types.Pointer marks.NonNull types.Int regions.Unique ∷ types.Pointer marks.NonNull types.Int (regions.Variable 1) ∷ [];
            region = 0;
            regions = 2;
            body =
                typed.MoreItems (typed.Declare 0 (types.Pointer marks.NonNull types.Int regions.Unique) (Some (typed.Convert kinds.NonNull kinds.NonNull (
                typed.New typed.AsUnique (typed.Plain kinds.Int (typed.Number 5)) (types.Pointer marks.NonNull types.Int regions.Unique)))))
                (typed.MoreItems (typed.DeclareAlias 1 1 (types.Pointer marks.NonNull types.Int (regions.Variable 1)) (at 1 108) 0)
                (typed.MoreItems (typed.Execute (typed.Return (Some (typed.Convert kinds.Int kinds.Int (typed.Call (callees.Function 0) (
                typed.MoreArguments (typed.Convert kinds.NonNull kinds.Nullable (typed.Copy (typed.Local (at 1 122) 1) (types.Pointer marks.NonNull types.Int (regions.Variable 1)))) typed.NoArguments) (types.Value types.Int))))))
                typed.NoItems));
            end = at 1 126;
          }
          ∷ [];
      main = 1;
    })
typed_tree = refl
