-- Examples of the typing rules, the flow rules and the weights (token counts) of trees, by computation, for programs over ints. Each
-- example's verdict has the program text above it on one line.
use Rattle.std.specs.Prelude.{◌≡◌, ℕ, ◌+◌, List, [], ◌∷◌, Some, None, Ok, Err, codes, refl}
use Rattle.cyc_words.specs.declared.fault.Code.TheVariants as faults
use Rattle.cyc_syntax.specs.declared.tree.BinaryOperator.TheVariants as operators
use Rattle.cyc_syntax.specs.Symbols.{Place}
use Rattle.cyc_syntax.specs.Trees.{Named, Int, WrittenType, Expression, Number, Null, Variable, Call, Bracketed, Binary, Assign, Expressions, NoExpressions, MoreExpressions, NoOperations, ThenOperation, Block, Empty, Evaluate}
use Rattle.cyc_syntax.specs.Trees.{If, IfElse, While, Return, Break, Continue, Braces, Items, NoItems, MoreItems, Item, Execute, Local, Member, Positive, Negative, Void, Listed, Parameters, Declaration, Global, Function}
use Rattle.cyc_syntax.specs.inside.Weight.{tree_weight}
use Rattle.cyc_types.specs.declared.typed.Kind.TheVariants as kinds
use Rattle.cyc_types.specs.declared.typed.Callee.TheVariants as callees
use Rattle.cyc_types.specs.declared.typed.Operator.TheVariants as binary
use Rattle.cyc_types.specs.Types as types
use Rattle.cyc_types.specs.TypedTrees as typed
use Rattle.cyc_types.specs.Rules.{Checked, and_then, fault_at}
use Rattle.cyc_types.specs.typing.Programs.{check_of}
use Rattle.cyc_types.specs.flow.Programs.{flow_of}
use Rattle.cyc_types.specs.Weight.{program_weight}

-- ---- trees of one-line texts

abbrev at : ℕ → Place
at n = record { line = 1; column = n }

-- the texts of the identifiers in the example programs; an identifier's number is the index of its text in this list
abbrev texts : List (List ℕ)
texts = codes "main" ∷ codes "x" ∷ codes "a" ∷ codes "v" ∷ codes "putchar" ∷ codes "getchar" ∷ []

abbrev main : ℕ → Named
main n = record { name = 0; place = at n }

abbrev x : ℕ → Named
x n = record { name = 1; place = at n }

abbrev a : ℕ → Named
a n = record { name = 2; place = at n }

abbrev v : ℕ → Named
v n = record { name = 3; place = at n }

abbrev putchar : ℕ → Named
putchar n = record { name = 4; place = at n }

abbrev getchar : ℕ → Named
getchar n = record { name = 5; place = at n }

abbrev int : ℕ → WrittenType
int n = record { place = at n; base = Int; marks = [] }

abbrev parameters : List Member → Parameters
parameters ms = record { list = Listed ms; effect = None; constraints = [] }

abbrev one : Expression → Expressions
one e = MoreExpressions e NoExpressions

abbrev only : Item → Items
only i = MoreItems i NoItems

-- the declaration of `int main(){ .. }` with the given declarations and statements in its body, whose closing brace is at the given column
abbrev main_of : Items → ℕ → Declaration
main_of is q = Function (Some (int 1)) (main 5) (parameters []) (Braces (at 11) is (at q))

-- `void v(){ }`
abbrev void_v : Declaration
void_v = Function None (v 6) (parameters []) (Braces (at 9) NoItems (at 11))

-- `return 0;`
abbrev return_0 : ℕ → Item
return_0 n = Execute (Return (at n) (Some (Number (at (n + 7)) 0)))

-- the verdict of the typing rules, followed by the flow rules, on a list of declarations
abbrev verdict : List Declaration → Checked (Unit {0})
verdict tree = and_then (check_of texts tree) flow_of

-- ---- names and calls

-- int main(){ x; return 0; }
unknown_name : verdict (main_of (MoreItems (Execute (Evaluate (Variable (x 13)))) (only (return_0 16))) 26 ∷ []) ≡ Err (fault_at faults.UnknownName (at 13))
unknown_name = refl

-- int main(){ x(a); }
operands_first : verdict (main_of (only (Execute (Evaluate (Call (x 13) (one (Variable (a 15))))))) 19 ∷ []) ≡ Err (fault_at faults.UnknownName (at 15))
operands_first = refl

-- int main(){ return putchar(); }
missing_argument : verdict (main_of (only (Execute (Return (at 13) (Some (Call (putchar 20) NoExpressions))))) 31 ∷ []) ≡ Err (fault_at faults.TypeMismatch (at 20))
missing_argument = refl

-- int main(){ return putchar; }
function_as_value : verdict (main_of (only (Execute (Return (at 13) (Some (Variable (putchar 20)))))) 29 ∷ []) ≡ Err (fault_at faults.TypeMismatch (at 20))
function_as_value = refl

-- int main(){ int x = 1; return x(); }
variable_called : verdict (main_of (MoreItems (Local (int 13) (x 17) (Some (Number (at 21) 1))) (only (Execute (Return (at 24) (Some (Call (x 31) NoExpressions)))))) 36 ∷ []) ≡ Err (fault_at faults.TypeMismatch (at 31))
variable_called = refl

-- int main(){ { int x = 1; } return x; }
out_of_scope : verdict (main_of (MoreItems (Execute (Block (Braces (at 13) (only (Local (int 15) (x 19) (Some (Number (at 23) 1)))) (at 26)))) (only (Execute (Return (at 28) (Some (Variable (x 35))))))) 38 ∷ [])
    ≡ Err (fault_at faults.UnknownName (at 35))
out_of_scope = refl

-- int main(){ int x = x; return 0; }
not_yet_in_scope : verdict (main_of (MoreItems (Local (int 13) (x 17) (Some (Variable (x 21)))) (only (return_0 24))) 34 ∷ []) ≡ Err (fault_at faults.UnknownName (at 21))
not_yet_in_scope = refl

-- int main(){ int x = 1; int x = a; }
value_before_name : verdict (main_of (MoreItems (Local (int 13) (x 17) (Some (Number (at 21) 1))) (only (Local (int 24) (x 28) (Some (Variable (a 32)))))) 35 ∷ []) ≡ Err (fault_at faults.UnknownName (at 32))
value_before_name = refl

-- void v(){ } int main(){ int x = 1; int x = v(); }
lowest_code : verdict (void_v ∷ Function (Some (int 13)) (main 17) (parameters []) (Braces (at 23) (MoreItems (Local (int 25) (x 29) (Some (Number (at 33) 1))) (only (Local (int 36) (x 40) (Some (Call (v 44) NoExpressions))))) (at 49)) ∷ [])
    ≡ Err (fault_at faults.DeclaredTwice (at 40))
lowest_code = refl

-- int x(int a){ int a = 1; return a; }
parameter_again : verdict (Function (Some (int 1)) (x 5) (parameters (record { of_type = int 7; name = a 11 } ∷ [])) (Braces (at 13) (MoreItems (Local (int 15) (a 19) (Some (Number (at 23) 1))) (only (Execute (Return (at 26) (Some (Variable (a 33))))))) (at 36)) ∷ main_of (only (return_0 13)) 23 ∷ [])
    ≡ Err (fault_at faults.DeclaredTwice (at 19))
parameter_again = refl

-- ---- types

-- void v(){ } int main(){ return 1 + v(); }
no_value : verdict (void_v ∷ Function (Some (int 13)) (main 17) (parameters []) (Braces (at 23) (only (Execute (Return (at 25) (Some (Binary (Number (at 32) 1) (ThenOperation operators.Add (at 34) (Call (v 36) NoExpressions) NoOperations)))))) (at 41)) ∷ [])
    ≡ Err (fault_at faults.TypeMismatch (at 36))
no_value = refl

-- int x(){ return; } int main(){ return 0; }
no_result : verdict (Function (Some (int 1)) (x 5) (parameters []) (Braces (at 8) (only (Execute (Return (at 10) None))) (at 18)) ∷ main_of (only (return_0 13)) 23 ∷ []) ≡ Err (fault_at faults.TypeMismatch (at 10))
no_result = refl

-- int main(){ 1 = a; return 0; }
no_place : verdict (main_of (MoreItems (Execute (Evaluate (Assign (Number (at 13) 1) (Variable (a 17))))) (only (return_0 20))) 30 ∷ []) ≡ Err (fault_at faults.NotAPlace (at 13))
no_place = refl

-- int main(){ putchar = 2; return 0; }
putchar_is_no_place : verdict (main_of (MoreItems (Execute (Evaluate (Assign (Variable (putchar 13)) (Number (at 23) 2)))) (only (return_0 26))) 36 ∷ []) ≡ Err (fault_at faults.NotAPlace (at 13))
putchar_is_no_place = refl

-- int main(){ break; }
outside_loop : verdict (main_of (only (Execute (Break (at 13)))) 20 ∷ []) ≡ Err (fault_at faults.OutsideLoop (at 13))
outside_loop = refl

-- ---- declarations

-- int x(){ return 1; }
main_missing : verdict (Function (Some (int 1)) (x 5) (parameters []) (Braces (at 8) (only (Execute (Return (at 10) (Some (Number (at 17) 1))))) (at 20)) ∷ []) ≡ Err (fault_at faults.BadMain (at 1))
main_missing = refl

-- int main;
main_is_global : verdict (Global (int 1) (main 5) None ∷ []) ≡ Err (fault_at faults.BadMain (at 5))
main_is_global = refl

-- int main(int a){ return 0; }
main_with_parameter : verdict (Function (Some (int 1)) (main 5) (parameters (record { of_type = int 10; name = a 14 } ∷ [])) (Braces (at 16) (only (return_0 18)) (at 28)) ∷ []) ≡ Err (fault_at faults.BadMain (at 5))
main_with_parameter = refl

-- int putchar; int main(){ return 0; }
declared_beforehand : verdict (Global (int 1) (putchar 5) None ∷ main_of (only (return_0 13)) 23 ∷ []) ≡ Err (fault_at faults.DeclaredTwice (at 5))
declared_beforehand = refl

-- int main(){ return NULL; }
null_is_no_int : verdict (main_of (only (Execute (Return (at 13) (Some (Null (at 20)))))) 26 ∷ []) ≡ Err (fault_at faults.TypeMismatch (at 20))
null_is_no_int = refl

-- ---- a typed tree

-- int x = -1; int main(){ int a; { int v = putchar(x); a = v; } return a + 1; }
typed_tree_of_blocks : check_of texts (Global (int 1) (x 5) (Some (Negative (at 9) 1))
    ∷ Function (Some (int 13)) (main 17) (record { list = Void; effect = None; constraints = [] }) (Braces (at 23) (
    MoreItems (Local (int 25) (a 29) None)
    (MoreItems (Execute (Block (Braces (at 32) (
    MoreItems (Local (int 34) (v 38) (Some (Call (putchar 42) (one (Variable (x 50))))))
    (only (Execute (Evaluate (Assign (Variable (a 54)) (Variable (v 58))))))) (at 61))))
    (only (Execute (Return (at 63) (Some (Binary (Variable (a 70)) (ThenOperation operators.Add (at 72) (Number (at 74) 1) NoOperations)))))))) (at 77)) ∷ [])
    ≡ Ok (record {
      structs = [];
      exceptions = [];
      globals = record { name = 1; of_type = types.Int; value = typed.Word 4294967295 } ∷ [];
      functions = record {
        name = 0;
        place = at 17;
        parameters = [];
        result = Some types.Int;
        variables = 0;
        effect = [];
        constraints = [];
        locals = types.Int ∷ types.Int ∷ [];
        region = 0;
        regions = 2;
        body =
            typed.MoreItems (typed.Declare 0 types.Int None)
            (typed.MoreItems (typed.Execute (typed.Block 1 (
            typed.MoreItems (typed.Declare 1 types.Int (Some (typed.Convert kinds.Int kinds.Int (typed.Call callees.Putchar (typed.MoreArguments (typed.Convert kinds.Int kinds.Int (typed.Copy (typed.Global 0) types.Int)) typed.NoArguments) (types.Value types.Int)))))
            (typed.MoreItems (typed.Execute (typed.Evaluate (typed.Assign (typed.Local (at 54) 0) (typed.Convert kinds.Int kinds.Int (typed.Copy (typed.Local (at 58) 1) types.Int)) (types.Value types.Int)))) typed.NoItems))))
            (typed.MoreItems (typed.Execute (typed.Return (Some (typed.Convert kinds.Int kinds.Int (typed.Binary (typed.Copy (typed.Local (at 70) 0) types.Int) (typed.ThenCompute binary.Add (typed.Number 1) typed.NoOperations) types.Int))))) typed.NoItems));
        end = at 77;
      } ∷ [];
      main = 0;
    })
typed_tree_of_blocks = refl

-- ---- flow

-- int main(){ int a; return a; }
empty_used : verdict (main_of (MoreItems (Local (int 13) (a 17) None) (only (Execute (Return (at 20) (Some (Variable (a 27))))))) 30 ∷ []) ≡ Err (fault_at faults.EmptyVariable (at 27))
empty_used = refl

-- int main(){ while (1) ; }
condition_is_not_computed : verdict (main_of (only (Execute (While (at 13) (Number (at 20) 1) (Empty (at 23))))) 25 ∷ []) ≡ Err (fault_at faults.MissingReturn (at 25))
condition_is_not_computed = refl

-- int main(){ if (getchar()) return 1; else return 2; }
both_return : verdict (main_of (only (Execute (IfElse (at 13) (Call (getchar 17) NoExpressions) (Return (at 28) (Some (Number (at 35) 1))) (Return (at 43) (Some (Number (at 50) 2)))))) 53 ∷ []) ≡ Ok tt
both_return = refl

-- int main(){ int a; if (getchar()) a = 1; return a; }
one_branch : verdict (main_of (MoreItems (Local (int 13) (a 17) None) (MoreItems (Execute (If (at 20) (Call (getchar 24) NoExpressions) (Evaluate (Assign (Variable (a 35)) (Number (at 39) 1))))) (only (Execute (Return (at 42) (Some (Variable (a 49)))))))) 52 ∷ [])
    ≡ Err (fault_at faults.EmptyVariable (at 49))
one_branch = refl

-- int main(){ int a; if (getchar() && (a = 1)) return a; return 0; }
stops_early : verdict (main_of (MoreItems (Local (int 13) (a 17) None) (MoreItems (Execute (If (at 20) (Binary (Call (getchar 24) NoExpressions) (ThenOperation operators.AndThen (at 34) (Bracketed (at 37) (Assign (Variable (a 38)) (Number (at 42) 1))) NoOperations)) (Return (at 46) (Some (Variable (a 53)))))) (only (return_0 56)))) 66 ∷ [])
    ≡ Err (fault_at faults.EmptyVariable (at 53))
stops_early = refl

-- int main(){ int a; while (1) { a = 1; break; } return a; }
condition_may_end_the_loop : verdict (main_of (MoreItems (Local (int 13) (a 17) None) (MoreItems (Execute (While (at 20) (Number (at 27) 1) (Block (Braces (at 30) (MoreItems (Execute (Evaluate (Assign (Variable (a 32)) (Number (at 36) 1)))) (only (Execute (Break (at 39))))) (at 46))))) (only (Execute (Return (at 48) (Some (Variable (a 55)))))))) 58 ∷ [])
    ≡ Err (fault_at faults.EmptyVariable (at 55))
condition_may_end_the_loop = refl

-- int main(){ int a; while (a = 1) { break; } return a; }
assigned_in_condition : verdict (main_of (MoreItems (Local (int 13) (a 17) None) (MoreItems (Execute (While (at 20) (Assign (Variable (a 27)) (Number (at 31) 1)) (Block (Braces (at 34) (only (Execute (Break (at 36)))) (at 43))))) (only (Execute (Return (at 45) (Some (Variable (a 52)))))))) 55 ∷ []) ≡ Ok tt
assigned_in_condition = refl

-- int main(){ int a; while (1) { return 0; a; } return 0; }
unreached_use : verdict (main_of (MoreItems (Local (int 13) (a 17) None) (MoreItems (Execute (While (at 20) (Number (at 27) 1) (Block (Braces (at 30) (MoreItems (return_0 32) (only (Execute (Evaluate (Variable (a 42)))))) (at 45))))) (only (return_0 47)))) 57 ∷ []) ≡ Ok tt
unreached_use = refl

-- void v(){ } int main(){ while (1) { int a; if (getchar()) a = 1; putchar(a); continue; } return 0; }
empty_anew : verdict (void_v ∷ Function (Some (int 13)) (main 17) (parameters []) (Braces (at 23) (MoreItems (Execute (While (at 25) (Number (at 32) 1) (Block (Braces (at 35) (
    MoreItems (Local (int 37) (a 41) None)
    (MoreItems (Execute (If (at 44) (Call (getchar 48) NoExpressions) (Evaluate (Assign (Variable (a 59)) (Number (at 63) 1)))))
    (MoreItems (Execute (Evaluate (Call (putchar 66) (one (Variable (a 74))))))
    (only (Execute (Continue (at 78))))))) (at 88))))) (only (return_0 90))) (at 100)) ∷ [])
    ≡ Err (fault_at faults.EmptyVariable (at 74))
empty_anew = refl

-- ---- weights of a tree and of its typed tree

abbrev weights : List Declaration → ℕ × Checked ℕ
weights tree = (tree_weight tree, and_then (check_of texts tree) (λ p. Ok (program_weight p)))

-- int main(){ return (1); }
brackets_gone : weights (main_of (only (Execute (Return (at 13) (Some (Bracketed (at 20) (Number (at 21) 1)))))) 25 ∷ []) ≡ (11, Ok 9)
brackets_gone = refl

-- int x(int a, int v){ return a; } int main(){ return x(1, 2); }
commas_counted : weights (Function (Some (int 1)) (x 5) (parameters (record { of_type = int 7; name = a 11 } ∷ record { of_type = int 14; name = v 18 } ∷ [])) (Braces (at 20) (only (Execute (Return (at 22) (Some (Variable (a 29)))))) (at 32))
    ∷ Function (Some (int 34)) (main 38) (parameters []) (Braces (at 44) (only (Execute (Return (at 46) (Some (Call (x 53) (MoreExpressions (Number (at 55) 1) (one (Number (at 58) 2)))))))) (at 62)) ∷ []) ≡ (28, Ok 28)
commas_counted = refl

-- int x = 0; int main(void){ if (x) ; else ; return 0; }
what_may_be_left_out : weights (Global (int 1) (x 5) (Some (Positive (at 9) 0))
    ∷ Function (Some (int 12)) (main 16) (record { list = Void; effect = None; constraints = [] }) (Braces (at 26) (
    MoreItems (Execute (IfElse (at 28) (Variable (x 32)) (Empty (at 35)) (Empty (at 42))))
    (only (return_0 44))) (at 54)) ∷ []) ≡ (22, Ok 17)
what_may_be_left_out = refl
