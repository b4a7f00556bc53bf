-- Examples of the flow rules, by computation. Below each program text are its typed tree and its verdict. The examples come in pairs: one
-- satisfies a rule and one breaks it.
use Rattle.std.specs.Prelude.{◌≡◌, ℕ, zero, suc, List, [], ◌∷◌, Option, Some, None, Ok, Err, refl}
use Rattle.cyc_words.specs.declared.fault.Code.{Code}
use Rattle.cyc_words.specs.declared.fault.Code.TheVariants as faults
use Rattle.cyc_words.specs.declared.fault.Fault.{Fault}
use Rattle.cyc_syntax.specs.Symbols.{Place}
use Rattle.cyc_types.specs.declared.typed.Callee.{Callee}
use Rattle.cyc_types.specs.declared.typed.Callee.TheVariants as callees
use Rattle.cyc_types.specs.declared.typed.Kind.TheVariants as kinds
use Rattle.cyc_types.specs.declared.typed.UnaryOperator.TheVariants as unary
use Rattle.cyc_types.specs.declared.typed.Operator.TheVariants as operators
use Rattle.cyc_types.specs.declared.typed.LogicalOperator.TheVariants as logical
use Rattle.cyc_types.specs.declared.typed.PointerOperator.TheVariants as pointers
use Rattle.cyc_types.specs.Types.{Ty, Int, Void, Value}
use Rattle.cyc_types.specs.TypedTrees.{Local, Global, Expression, Number, NullPointer, Counter, Copy, Move, Peek, Load, AddressOf, FreeUnique, FreeKey, Call, Unary, Binary, Assign, Store, New, Dereference, Target, Member, Element, OnHeap}
use Rattle.cyc_types.specs.TypedTrees.{AsUnique, ByHandle, Initial, Plain, Fields, Array, Converted, Convert, Arguments, NoArguments, MoreArguments, NoOperations, ThenCompute, ThenTest, ThenPointerPeek, VariableSide, CellSide, Statement}
use Rattle.cyc_types.specs.TypedTrees.{Block, Empty, Evaluate, Swap, If, While, Return, Break, Continue, Throw, Try, Items, NoItems, MoreItems, Item, Execute, Declare, OpenRegion, DeclareAlias, DeclareKey, NoClauses, Default, Case, Function}
use Rattle.cyc_types.specs.Rules.{Checked, fault_at, run}
use Rattle.cyc_types.specs.flow.Programs.{rule_functions}

-- ---- trees; their types and kinds do not matter to the flow rules

abbrev at : ℕ → ℕ → Place
at l k = record { line = l; column = k }

-- the expression that reads the int local with number n, whose name is at line l and column k
abbrev copy : ℕ → ℕ → ℕ → Expression
copy l k n = Copy (Local (at l k) n) Int

abbrev move : ℕ → ℕ → ℕ → Expression
move l k n = Move (at l k) n Int

abbrev peek : ℕ → ℕ → ℕ → Expression
peek l k n = Peek (at l k) n Int

abbrev target : Expression → Dereference
target a = Target kinds.Nullable a Int

abbrev member : Expression → ℕ → Dereference
member a f = Member kinds.Nullable a 0 f Int

abbrev element : Expression → Expression → Dereference
element a i = Element a i Int

abbrev put : Expression → Converted
put a = Convert kinds.Int kinds.Int a

abbrev arguments : List Expression → Arguments
arguments [] = NoArguments
arguments (a ∷ as') = MoreArguments (put a) (arguments as')

abbrev call : Callee → List Expression → Expression
call f as' = Call f (arguments as') (Value Int)

abbrev fields : List Expression → Initial
fields as' = Fields (arguments as')

abbrev items : List Item → Items
items [] = NoItems
items (j ∷ js) = MoreItems j (items js)

abbrev block : List Item → Statement
block js = Block 1 (items js)

abbrev ints : ℕ → List Ty
ints zero = []
ints (suc n) = Int ∷ ints n

-- a function with n parameters and m other locals, whose closing brace is at the given line and column
abbrev routine : Option Ty → (parameters locals : ℕ) → List Item → ℕ → ℕ → Function
routine t n m js l k = record {
  name = 0;
  place = at 1 1;
  parameters = ints n;
  result = t;
  variables = 0;
  effect = [];
  constraints = [];
  locals = ints m;
  region = 0;
  regions = 1;
  body = items js;
  end = at l k;
}

abbrev function : (parameters locals : ℕ) → List Item → ℕ → ℕ → Function
function = routine (Some Int)

abbrev procedure : (parameters locals : ℕ) → List Item → ℕ → ℕ → Function
procedure = routine None

abbrev fault : Code → ℕ → ℕ → Option Fault
fault c l k = Some (fault_at c (at l k))

abbrev refusal : Checked (Unit {0}) → Option Fault
refusal (Ok u) = None
refusal (Err x) = Some x

-- the flow fault of a list of functions, or `None`
abbrev verdict : List Function → Option Fault
verdict hs = refusal (run (rule_functions hs))

-- ---- full and empty locals

-- int main(){ int a; return a; }
empty_local_is_used : verdict (function 0 1 (Declare 0 Int None ∷ Execute (Return (Some (put (copy 1 27 0)))) ∷ []) 1 30 ∷ []) ≡ fault faults.EmptyVariable 1 27
empty_local_is_used = refl

-- int main(){ int a; a = 1; return a; }
assigned_local_is_used : verdict (function 0 1 (Declare 0 Int None ∷ Execute (Evaluate (Assign (Local (at 1 20) 0) (put (Number 1)) (Value Int))) ∷ Execute (Return (Some (put (copy 1 34 0)))) ∷ []) 1 37 ∷ []) ≡ None
assigned_local_is_used = refl

-- int main(){ int a; a = a + 1; return a; }
assignment_comes_after_its_value : verdict (function 0 1 (Declare 0 Int None ∷ Execute (Evaluate (Assign (Local (at 1 20) 0) (put (Binary (copy 1 24 0) (ThenCompute operators.Add (Number 1) NoOperations) Int)) (Value Int))) ∷ Execute (Return (Some (put (copy 1 38 0)))) ∷ []) 1 41 ∷ []) ≡ fault faults.EmptyVariable 1 24
assignment_comes_after_its_value = refl

-- int main(){ int a; int *`main p = &a; return 0; }
address_uses : verdict (function 0 2 (Declare 0 Int None ∷ Declare 1 Int (Some (put (AddressOf (Local (at 1 36) 0) Int))) ∷ Execute (Return (Some (put (Number 0)))) ∷ []) 1 49 ∷ []) ≡ fault faults.EmptyVariable 1 36
address_uses = refl

-- int main(){ int a; if (getchar()) a = 1; return a; }
branches_meet : verdict (function 0 1 (Declare 0 Int None ∷ Execute (If (call callees.Getchar []) (Evaluate (Assign (Local (at 1 35) 0) (put (Number 1)) (Value Int))) Empty) ∷ Execute (Return (Some (put (copy 1 49 0)))) ∷ []) 1 52 ∷ []) ≡ fault faults.EmptyVariable 1 49
branches_meet = refl

-- int main(){ int a; if (getchar()) a = 1; else return 0; return a; }
branch_that_returns : verdict (function 0 1 (Declare 0 Int None ∷ Execute (If (call callees.Getchar []) (Evaluate (Assign (Local (at 1 35) 0) (put (Number 1)) (Value Int))) (Return (Some (put (Number 0))))) ∷ Execute (Return (Some (put (copy 1 64 0)))) ∷ []) 1 67 ∷ []) ≡ None
branch_that_returns = refl

-- int main(){ int a; getchar() && (a = 1); return a; }
operand_that_may_be_left_out : verdict (function 0 1 (Declare 0 Int None ∷ Execute (Evaluate (Binary (call callees.Getchar []) (ThenTest logical.AndThen (Assign (Local (at 1 34) 0) (put (Number 1)) (Value Int)) NoOperations) Int)) ∷ Execute (Return (Some (put (copy 1 49 0)))) ∷ []) 1 52 ∷ []) ≡ fault faults.EmptyVariable 1 49
operand_that_may_be_left_out = refl

-- int main(){ int a; while (getchar()) a = 1; return a; }
loop_that_may_not_be_entered : verdict (function 0 1 (Declare 0 Int None ∷ Execute (While (at 1 20) (call callees.Getchar []) (Evaluate (Assign (Local (at 1 38) 0) (put (Number 1)) (Value Int)))) ∷ Execute (Return (Some (put (copy 1 52 0)))) ∷ []) 1 55 ∷ []) ≡ fault faults.EmptyVariable 1 52
loop_that_may_not_be_entered = refl

-- int main(){ while (getchar()) { int a; if (getchar()) a = 1; putchar(a); } return 0; }
local_of_a_loop_is_empty_each_time : verdict (function 0 1 (Execute (While (at 1 13) (call callees.Getchar []) (block (Declare 0 Int None ∷ Execute (If (call callees.Getchar []) (Evaluate (Assign (Local (at 1 55) 0) (put (Number 1)) (Value Int))) Empty) ∷ Execute (Evaluate (call callees.Putchar ((copy 1 70 0) ∷ []))) ∷ []))) ∷ Execute (Return (Some (put (Number 0)))) ∷ []) 1 86 ∷ []) ≡ fault faults.EmptyVariable 1 70
local_of_a_loop_is_empty_each_time = refl

-- ---- unique pointers and keys are consumed

-- int eat(int *`U p){ ufree(p); return 1; } int main(){ int *`U u = NULL; eat(u); return *u; }
moved_and_used : verdict (function 1 0 (Execute (Evaluate (FreeUnique (move 1 27 0))) ∷ Execute (Return (Some (put (Number 1)))) ∷ []) 1 41 ∷ function 0 1 (Declare 0 Int (Some (put NullPointer)) ∷ Execute (Evaluate (call (callees.Function 0) ((move 1 77 0) ∷ []))) ∷ Execute (Return (Some (put (Load (target (peek 1 89 0)))))) ∷ []) 1 92 ∷ []) ≡ fault faults.EmptyVariable 1 89
moved_and_used = refl

-- int eat(int *`U p){ ufree(p); return 1; } int main(){ int *`U u = NULL; eat(u); u = NULL; return *u; }
moved_and_assigned : verdict (function 1 0 (Execute (Evaluate (FreeUnique (move 1 27 0))) ∷ Execute (Return (Some (put (Number 1)))) ∷ []) 1 41 ∷ function 0 1 (Declare 0 Int (Some (put NullPointer)) ∷ Execute (Evaluate (call (callees.Function 0) ((move 1 77 0) ∷ []))) ∷ Execute (Evaluate (Assign (Local (at 1 81) 0) (put NullPointer) Void)) ∷ Execute (Return (Some (put (Load (target (peek 1 99 0)))))) ∷ []) 1 102 ∷ []) ≡ None
moved_and_assigned = refl

-- int f(int *`U a, int *`U b){ return 0; } int main(){ int *`U u = NULL; return f(u, u); }
moved_twice_in_one_call : verdict (function 2 0 (Execute (Return (Some (put (Number 0)))) ∷ []) 1 40 ∷ function 0 1 (Declare 0 Int (Some (put NullPointer)) ∷ Execute (Return (Some (put (call (callees.Function 0) ((move 1 81 0) ∷ (move 1 84 0) ∷ []))))) ∷ []) 1 88 ∷ []) ≡ fault faults.EmptyVariable 1 84
moved_twice_in_one_call = refl

-- int main(){ let NewDynamicRegion{<`k> k} = new_ukey(); free_ukey(k); free_ukey(k); return 0; }
key_is_consumed : verdict (function 0 1 (DeclareKey 1 0 ∷ Execute (Evaluate (FreeKey (move 1 66 0))) ∷ Execute (Evaluate (FreeKey (move 1 80 0))) ∷ Execute (Return (Some (put (Number 0)))) ∷ []) 1 94 ∷ []) ≡ fault faults.EmptyVariable 1 80
key_is_consumed = refl

-- int *`U g; int main(){ int *`U u = NULL; g = u; u = NULL; g = u; return 0; }
globals_are_not_tracked : verdict (function 0 1 (Declare 0 Int (Some (put NullPointer)) ∷ Execute (Evaluate (Assign (Global 0) (put (move 1 46 0)) Void)) ∷ Execute (Evaluate (Assign (Local (at 1 49) 0) (put NullPointer) Void)) ∷ Execute (Evaluate (Assign (Global 0) (put (move 1 63 0)) Void)) ∷ Execute (Return (Some (put (Number 0)))) ∷ []) 1 76 ∷ []) ≡ None
globals_are_not_tracked = refl

-- int main(){ int *`U u = NULL; *u = *u + 1; if (u) ; if (!u && u) ; return u == NULL; }
peeks_leave_it : verdict (function 0 1 (Declare 0 Int (Some (put NullPointer)) ∷ Execute (Evaluate (Store (target (peek 1 32 0)) (put (Binary (Load (target (peek 1 37 0))) (ThenCompute operators.Add (Number 1) NoOperations) Int)) (Value Int))) ∷ Execute (If (peek 1 48 0) Empty Empty) ∷ Execute (If (Binary (Unary unary.Not (peek 1 58 0)) (ThenTest logical.AndThen (peek 1 63 0) NoOperations) Int) Empty Empty) ∷ Execute (Return (Some (put (Binary (peek 1 75 0) (ThenPointerPeek 0 pointers.ThinIsNull NullPointer NoOperations) Int)))) ∷ []) 1 86 ∷ []) ≡ None
peeks_leave_it = refl

-- int eat(int *`U p){ ufree(p); return 1; } int main(){ int *`U u = NULL; 1 && eat(u); return *u; }
moved_after_and : verdict (function 1 0 (Execute (Evaluate (FreeUnique (move 1 27 0))) ∷ Execute (Return (Some (put (Number 1)))) ∷ []) 1 41 ∷ function 0 1 (Declare 0 Int (Some (put NullPointer)) ∷ Execute (Evaluate (Binary (Number 1) (ThenTest logical.AndThen (call (callees.Function 0) ((move 1 82 0) ∷ [])) NoOperations) Int)) ∷ Execute (Return (Some (put (Load (target (peek 1 94 0)))))) ∷ []) 1 97 ∷ []) ≡ fault faults.EmptyVariable 1 94
moved_after_and = refl

-- ---- pending peeks

-- int eat(int ?`U p){ ufree(p); return 1; } int main(){ int ?`U u = rnew(unique_region) {for i < 2 : i}; return u[eat(u)]; }
index_consumes : verdict (function 1 0 (Execute (Evaluate (FreeUnique (move 1 27 0))) ∷ Execute (Return (Some (put (Number 1)))) ∷ []) 1 41 ∷ function 0 1 (Declare 0 Int (Some (put (New AsUnique (Array (at 1 88) 0 (Number 2) kinds.Int (Counter 0)) Int))) ∷ Execute (Return (Some (put (Load (element (peek 1 111 0) (call (callees.Function 0) ((move 1 117 0) ∷ []))))))) ∷ []) 1 122 ∷ []) ≡ fault faults.LockedVariable 1 117
index_consumes = refl

-- int main(){ int ?`U u = rnew(unique_region) {for i < 2 : i}; return u[u[0]]; }
index_peeks : verdict (function 0 1 (Declare 0 Int (Some (put (New AsUnique (Array (at 1 46) 0 (Number 2) kinds.Int (Counter 0)) Int))) ∷ Execute (Return (Some (put (Load (element (peek 1 69 0) (Load (element (peek 1 71 0) (Number 0)))))))) ∷ []) 1 78 ∷ []) ≡ None
index_peeks = refl

-- int eat(int ?`U p){ ufree(p); return 1; } int main(){ int ?`U u = rnew(unique_region) {for i < 2 : i}; u[0] = eat(u); return 0; }
right_side_consumes : verdict (function 1 0 (Execute (Evaluate (FreeUnique (move 1 27 0))) ∷ Execute (Return (Some (put (Number 1)))) ∷ []) 1 41 ∷ function 0 1 (Declare 0 Int (Some (put (New AsUnique (Array (at 1 88) 0 (Number 2) kinds.Int (Counter 0)) Int))) ∷ Execute (Evaluate (Store (element (peek 1 104 0) (Number 0)) (put (call (callees.Function 0) ((move 1 115 0) ∷ []))) (Value Int))) ∷ Execute (Return (Some (put (Number 0)))) ∷ []) 1 129 ∷ []) ≡ fault faults.LockedVariable 1 115
right_side_consumes = refl

-- int main(){ int ?`U u = rnew(unique_region) {for i < 2 : i}; u[0] = u[1] + 1; return 0; }
right_side_peeks : verdict (function 0 1 (Declare 0 Int (Some (put (New AsUnique (Array (at 1 46) 0 (Number 2) kinds.Int (Counter 0)) Int))) ∷ Execute (Evaluate (Store (element (peek 1 62 0) (Number 0)) (put (Binary (Load (element (peek 1 69 0) (Number 1))) (ThenCompute operators.Add (Number 1) NoOperations) Int)) (Value Int))) ∷ Execute (Return (Some (put (Number 0)))) ∷ []) 1 89 ∷ []) ≡ None
right_side_peeks = refl

-- struct S { struct S *`U n; }; int main(){ struct S *`U u = NULL; u->n = u; return 0; }
right_side_is_itself : verdict (function 0 1 (Declare 0 Int (Some (put NullPointer)) ∷ Execute (Evaluate (Store (member (peek 1 66 0) 0) (put (move 1 73 0)) Void)) ∷ Execute (Return (Some (put (Number 0)))) ∷ []) 1 86 ∷ []) ≡ fault faults.LockedVariable 1 73
right_side_is_itself = refl

-- int *`U id(int *`U p){ return p; } int main(){ int *`U u = NULL; return u == id(u); }
compared_with_itself : verdict (function 1 0 (Execute (Return (Some (put (move 1 31 0)))) ∷ []) 1 34 ∷ function 0 1 (Declare 0 Int (Some (put NullPointer)) ∷ Execute (Return (Some (put (Binary (peek 1 73 0) (ThenPointerPeek 0 pointers.EqualThin (call (callees.Function 0) ((move 1 81 0) ∷ [])) NoOperations) Int)))) ∷ []) 1 85 ∷ []) ≡ fault faults.LockedVariable 1 81
compared_with_itself = refl

-- struct T { int x; }; struct S { struct T *t; }; int eat(struct S *`U p){ ufree(p); return 1; } int main(){ struct S *`U u = NULL; u->t->x = eat(u); return 0; }
not_directly_a_peek : verdict (function 1 0 (Execute (Evaluate (FreeUnique (move 1 80 0))) ∷ Execute (Return (Some (put (Number 1)))) ∷ []) 1 94 ∷ function 0 1 (Declare 0 Int (Some (put NullPointer)) ∷ Execute (Evaluate (Store (member (Load (member (peek 1 131 0) 0)) 0) (put (call (callees.Function 0) ((move 1 145 0) ∷ []))) (Value Int))) ∷ Execute (Return (Some (put (Number 0)))) ∷ []) 1 159 ∷ []) ≡ None
not_directly_a_peek = refl

-- int eat(int ?`U p){ ufree(p); return 1; } int main(){ int ?`U u = rnew(unique_region) {for i < 2 : i}; ufree(u); return u[eat(u)]; }
empty_counts_before_locked : verdict (function 1 0 (Execute (Evaluate (FreeUnique (move 1 27 0))) ∷ Execute (Return (Some (put (Number 1)))) ∷ []) 1 41 ∷ function 0 1 (Declare 0 Int (Some (put (New AsUnique (Array (at 1 88) 0 (Number 2) kinds.Int (Counter 0)) Int))) ∷ Execute (Evaluate (FreeUnique (move 1 110 0))) ∷ Execute (Return (Some (put (Load (element (peek 1 121 0) (call (callees.Function 0) ((move 1 127 0) ∷ []))))))) ∷ []) 1 132 ∷ []) ≡ fault faults.EmptyVariable 1 121
empty_counts_before_locked = refl

-- ---- swaps

-- int main(){ int a; int b = 1; b :=: a; return 0; }
swap_of_an_empty_local : verdict (function 0 2 (Declare 0 Int None ∷ Declare 1 Int (Some (put (Number 1))) ∷ Execute (Swap (VariableSide (Local (at 1 31) 1) Int) (VariableSide (Local (at 1 37) 0) Int)) ∷ Execute (Return (Some (put (Number 0)))) ∷ []) 1 50 ∷ []) ≡ fault faults.EmptyVariable 1 37
swap_of_an_empty_local = refl

-- int @`U @eat(int @`U u, int @`U @`H q){ ufree(u); return q; } int main(){ int @`U u = rnew(unique_region) 1; int @`U @q = new rnew(unique_region) 2; u :=: *eat(u, q); return 0; }
swap_uses_after_both_places : verdict (function 2 0 (Execute (Evaluate (FreeUnique (move 1 47 0))) ∷ Execute (Return (Some (put (copy 1 58 1)))) ∷ []) 1 61 ∷ function 0 2 (Declare 0 Int (Some (put (New AsUnique (Plain kinds.Int (Number 1)) Int))) ∷ Declare 1 Int (Some (put (New OnHeap (Plain kinds.Int (New AsUnique (Plain kinds.Int (Number 2)) Int)) Int))) ∷ Execute (Swap (VariableSide (Local (at 1 150) 0) Int) (CellSide (target (call (callees.Function 0) ((move 1 161 0) ∷ (copy 1 164 1) ∷ []))))) ∷ Execute (Return (Some (put (Number 0)))) ∷ []) 1 178 ∷ []) ≡ fault faults.EmptyVariable 1 150
swap_uses_after_both_places = refl

-- struct S { struct S *`U n; }; int main(){ struct S *`U u = NULL; u :=: u->n; return 0; }
swap_with_its_own_field : verdict (function 0 1 (Declare 0 Int (Some (put NullPointer)) ∷ Execute (Swap (VariableSide (Local (at 1 66) 0) Int) (CellSide (member (peek 1 72 0) 0))) ∷ Execute (Return (Some (put (Number 0)))) ∷ []) 1 88 ∷ []) ≡ None
swap_with_its_own_field = refl

-- struct S { struct S *`U n; }; int main(){ struct S *`U u = NULL; u->n :=: u; return 0; }
swap_of_its_own_field : verdict (function 0 1 (Declare 0 Int (Some (put NullPointer)) ∷ Execute (Swap (CellSide (member (peek 1 66 0) 0)) (VariableSide (Local (at 1 75) 0) Int)) ∷ Execute (Return (Some (put (Number 0)))) ∷ []) 1 88 ∷ []) ≡ fault faults.LockedVariable 1 75
swap_of_its_own_field = refl

-- int main(){ int *`U u = NULL; let alias <`a> int *`a x = u; int *`U v; u :=: v; return 0; }
lowest_code_of_a_swap : verdict (function 0 3 (Declare 0 Int (Some (put NullPointer)) ∷ DeclareAlias 1 1 Int (at 1 58) 0 ∷ Declare 2 Int None ∷ Execute (Swap (VariableSide (Local (at 1 72) 0) Int) (VariableSide (Local (at 1 78) 2) Int)) ∷ Execute (Return (Some (put (Number 0)))) ∷ []) 1 91 ∷ []) ≡ fault faults.EmptyVariable 1 78
lowest_code_of_a_swap = refl

-- ---- lent values

-- int main(){ int *`U u = NULL; let alias <`a> int *`a x = u; ufree(u); return *x; }
aliased_and_given_back : verdict (function 0 2 (Declare 0 Int (Some (put NullPointer)) ∷ DeclareAlias 1 1 Int (at 1 58) 0 ∷ Execute (Evaluate (FreeUnique (move 1 67 0))) ∷ Execute (Return (Some (put (Load (target (copy 1 79 1)))))) ∷ []) 1 82 ∷ []) ≡ fault faults.LockedVariable 1 67
aliased_and_given_back = refl

-- int main(){ int *`U u = NULL; let alias <`a> int *`a x = u; return *u; }
aliased_and_peeked : verdict (function 0 2 (Declare 0 Int (Some (put NullPointer)) ∷ DeclareAlias 1 1 Int (at 1 58) 0 ∷ Execute (Return (Some (put (Load (target (peek 1 69 0)))))) ∷ []) 1 72 ∷ []) ≡ fault faults.LockedVariable 1 69
aliased_and_peeked = refl

-- int main(){ int *`U u = NULL; let alias <`a> int *`a x = u; u = NULL; return 0; }
aliased_and_assigned : verdict (function 0 2 (Declare 0 Int (Some (put NullPointer)) ∷ DeclareAlias 1 1 Int (at 1 58) 0 ∷ Execute (Evaluate (Assign (Local (at 1 61) 0) (put NullPointer) Void)) ∷ Execute (Return (Some (put (Number 0)))) ∷ []) 1 81 ∷ []) ≡ fault faults.LockedVariable 1 61
aliased_and_assigned = refl

-- int main(){ int *`U u = NULL; { let alias <`a> int *`a x = u; *x = 1; } return *u; }
full_again_after_its_block : verdict (function 0 2 (Declare 0 Int (Some (put NullPointer)) ∷ Execute (block (DeclareAlias 1 1 Int (at 1 60) 0 ∷ Execute (Evaluate (Store (target (copy 1 64 1)) (put (Number 1)) (Value Int))) ∷ [])) ∷ Execute (Return (Some (put (Load (target (peek 1 81 0)))))) ∷ []) 1 84 ∷ []) ≡ None
full_again_after_its_block = refl

-- int main(){ let NewDynamicRegion{<`k> k} = new_ukey(); region<`k> h = open(k); free_ukey(k); return 0; }
opened_and_given_back : verdict (function 0 2 (DeclareKey 1 0 ∷ OpenRegion 1 1 (at 1 76) 0 ∷ Execute (Evaluate (FreeKey (move 1 90 0))) ∷ Execute (Return (Some (put (Number 0)))) ∷ []) 1 104 ∷ []) ≡ fault faults.LockedVariable 1 90
opened_and_given_back = refl

-- int main(){ let NewDynamicRegion{<`k> k} = new_ukey(); while (1) { region<`k> h = open(k); break; } free_ukey(k); return 0; }
break_ends_a_lock : verdict (function 0 2 (DeclareKey 1 0 ∷ Execute (While (at 1 56) (Number 1) (block (OpenRegion 1 1 (at 1 88) 0 ∷ Execute Break ∷ []))) ∷ Execute (Evaluate (FreeKey (move 1 111 0))) ∷ Execute (Return (Some (put (Number 0)))) ∷ []) 1 125 ∷ []) ≡ None
break_ends_a_lock = refl

-- int main(){ let NewDynamicRegion{<`k> k} = new_ukey(); while (getchar()) { region<`k> h = open(k); if (getchar()) continue; rnew(h) 1; } free_ukey(k); return 0; }
continue_ends_a_lock : verdict (function 0 2 (DeclareKey 1 0 ∷ Execute (While (at 1 56) (call callees.Getchar []) (block (OpenRegion 1 1 (at 1 96) 0 ∷ Execute (If (call callees.Getchar []) Continue Empty) ∷ Execute (Evaluate (New (ByHandle (copy 1 130 1)) (Plain kinds.Int (Number 1)) Int)) ∷ []))) ∷ Execute (Evaluate (FreeKey (move 1 148 0))) ∷ Execute (Return (Some (put (Number 0)))) ∷ []) 1 162 ∷ []) ≡ None
continue_ends_a_lock = refl

-- int main(){ int *`U u = NULL; { let alias <`a> int *`a x = u; while (1) { break; } ufree(u); } return 0; }
break_ends_no_lock_outside : verdict (function 0 2 (Declare 0 Int (Some (put NullPointer)) ∷ Execute (block (DeclareAlias 1 1 Int (at 1 60) 0 ∷ Execute (While (at 1 63) (Number 1) (block (Execute Break ∷ []))) ∷ Execute (Evaluate (FreeUnique (move 1 90 0))) ∷ [])) ∷ Execute (Return (Some (put (Number 0)))) ∷ []) 1 106 ∷ []) ≡ fault faults.LockedVariable 1 90
break_ends_no_lock_outside = refl

-- int main(){ int *`U u = NULL; let alias <`a> int *`a x = u; if (getchar()) ; else return 0; ufree(u); return 0; }
lock_where_branches_meet : verdict (function 0 2 (Declare 0 Int (Some (put NullPointer)) ∷ DeclareAlias 1 1 Int (at 1 58) 0 ∷ Execute (If (call callees.Getchar []) Empty (Return (Some (put (Number 0))))) ∷ Execute (Evaluate (FreeUnique (move 1 99 0))) ∷ Execute (Return (Some (put (Number 0)))) ∷ []) 1 113 ∷ []) ≡ fault faults.LockedVariable 1 99
lock_where_branches_meet = refl

-- ---- loops

-- int main(){ int *`U u = NULL; while (1) { ufree(u); } return 0; }
loop_consumes : verdict (function 0 1 (Declare 0 Int (Some (put NullPointer)) ∷ Execute (While (at 1 31) (Number 1) (block (Execute (Evaluate (FreeUnique (move 1 49 0))) ∷ []))) ∷ Execute (Return (Some (put (Number 0)))) ∷ []) 1 65 ∷ []) ≡ fault faults.LoopEmptiesVariable 1 31
loop_consumes = refl

-- int main(){ int *`U u = NULL; while (1) { ufree(u); break; } return 0; }
loop_consumes_and_is_left : verdict (function 0 1 (Declare 0 Int (Some (put NullPointer)) ∷ Execute (While (at 1 31) (Number 1) (block (Execute (Evaluate (FreeUnique (move 1 49 0))) ∷ Execute Break ∷ []))) ∷ Execute (Return (Some (put (Number 0)))) ∷ []) 1 72 ∷ []) ≡ None
loop_consumes_and_is_left = refl

-- int main(){ int *`U u = NULL; while (getchar()) { ufree(u); u = NULL; } return *u; }
loop_consumes_and_fills : verdict (function 0 1 (Declare 0 Int (Some (put NullPointer)) ∷ Execute (While (at 1 31) (call callees.Getchar []) (block (Execute (Evaluate (FreeUnique (move 1 57 0))) ∷ Execute (Evaluate (Assign (Local (at 1 61) 0) (put NullPointer) Void)) ∷ []))) ∷ Execute (Return (Some (put (Load (target (peek 1 81 0)))))) ∷ []) 1 84 ∷ []) ≡ None
loop_consumes_and_fills = refl

-- int main(){ int *`U u = NULL; while (getchar()) { ufree(u); if (getchar()) continue; u = NULL; } return 0; }
emptier_at_a_continue : verdict (function 0 1 (Declare 0 Int (Some (put NullPointer)) ∷ Execute (While (at 1 31) (call callees.Getchar []) (block (Execute (Evaluate (FreeUnique (move 1 57 0))) ∷ Execute (If (call callees.Getchar []) Continue Empty) ∷ Execute (Evaluate (Assign (Local (at 1 86) 0) (put NullPointer) Void)) ∷ []))) ∷ Execute (Return (Some (put (Number 0)))) ∷ []) 1 108 ∷ []) ≡ fault faults.LoopEmptiesVariable 1 31
emptier_at_a_continue = refl

-- int main(){ int *`U u = NULL; while (getchar()) { ufree(u); break; } return *u; }
emptier_at_a_break : verdict (function 0 1 (Declare 0 Int (Some (put NullPointer)) ∷ Execute (While (at 1 31) (call callees.Getchar []) (block (Execute (Evaluate (FreeUnique (move 1 57 0))) ∷ Execute Break ∷ []))) ∷ Execute (Return (Some (put (Load (target (peek 1 78 0)))))) ∷ []) 1 81 ∷ []) ≡ fault faults.EmptyVariable 1 78
emptier_at_a_break = refl

-- int eat(int *`U p){ ufree(p); return 1; } int main(){ int *`U u = NULL; while (eat(u)) ; return 0; }
condition_consumes : verdict (function 1 0 (Execute (Evaluate (FreeUnique (move 1 27 0))) ∷ Execute (Return (Some (put (Number 1)))) ∷ []) 1 41 ∷ function 0 1 (Declare 0 Int (Some (put NullPointer)) ∷ Execute (While (at 1 73) (call (callees.Function 0) ((move 1 84 0) ∷ [])) Empty) ∷ Execute (Return (Some (put (Number 0)))) ∷ []) 1 100 ∷ []) ≡ fault faults.LoopEmptiesVariable 1 73
condition_consumes = refl

-- int eat(int *`U p){ ufree(p); return 1; } int main(){ int *`U u = NULL; while (eat(u)) return 0; return 0; }
condition_consumes_once : verdict (function 1 0 (Execute (Evaluate (FreeUnique (move 1 27 0))) ∷ Execute (Return (Some (put (Number 1)))) ∷ []) 1 41 ∷ function 0 1 (Declare 0 Int (Some (put NullPointer)) ∷ Execute (While (at 1 73) (call (callees.Function 0) ((move 1 84 0) ∷ [])) (Return (Some (put (Number 0))))) ∷ Execute (Return (Some (put (Number 0)))) ∷ []) 1 108 ∷ []) ≡ None
condition_consumes_once = refl

-- int eat(int *`U p){ ufree(p); return 1; } int main(){ int *`U u = NULL; int ?p = new {for i < 2 : eat(u)}; return 0; }
element_consumes : verdict (function 1 0 (Execute (Evaluate (FreeUnique (move 1 27 0))) ∷ Execute (Return (Some (put (Number 1)))) ∷ []) 1 41 ∷ function 0 2 (Declare 0 Int (Some (put NullPointer)) ∷ Declare 1 Int (Some (put (New OnHeap (Array (at 1 87) 0 (Number 2) kinds.Int (call (callees.Function 0) ((move 1 103 0) ∷ []))) Int))) ∷ Execute (Return (Some (put (Number 0)))) ∷ []) 1 118 ∷ []) ≡ fault faults.LoopEmptiesVariable 1 87
element_consumes = refl

-- int eat(int *`U p){ ufree(p); return 1; } int main(){ int *`U u = NULL; int ?p = new {for i < eat(u) : i}; return 0; }
length_consumes : verdict (function 1 0 (Execute (Evaluate (FreeUnique (move 1 27 0))) ∷ Execute (Return (Some (put (Number 1)))) ∷ []) 1 41 ∷ function 0 2 (Declare 0 Int (Some (put NullPointer)) ∷ Declare 1 Int (Some (put (New OnHeap (Array (at 1 87) 0 (call (callees.Function 0) ((move 1 99 0) ∷ [])) kinds.Int (Counter 0)) Int))) ∷ Execute (Return (Some (put (Number 0)))) ∷ []) 1 118 ∷ []) ≡ None
length_consumes = refl

-- int main(){ int a; int ?p = new {for i < 2 : (a = i)}; return a; }
array_may_be_empty : verdict (function 0 2 (Declare 0 Int None ∷ Declare 1 Int (Some (put (New OnHeap (Array (at 1 34) 0 (Number 2) kinds.Int (Assign (Local (at 1 47) 0) (put (Counter 0)) (Value Int))) Int))) ∷ Execute (Return (Some (put (copy 1 63 0)))) ∷ []) 1 66 ∷ []) ≡ fault faults.EmptyVariable 1 63
array_may_be_empty = refl

-- ---- catch clauses

-- int main(){ int *`U u = NULL; try ufree(u); catch { default: *u; } return 0; }
consumed_in_the_body : verdict (function 0 1 (Declare 0 Int (Some (put NullPointer)) ∷ Execute (Try (Evaluate (FreeUnique (move 1 41 0))) (Default 1 (items (Execute (Evaluate (Load (target (peek 1 63 0)))) ∷ [])))) ∷ Execute (Return (Some (put (Number 0)))) ∷ []) 1 78 ∷ []) ≡ fault faults.EmptyVariable 1 63
consumed_in_the_body = refl

-- int main(){ int *`U u = NULL; try { ufree(u); u = NULL; } catch { default: *u; } return 0; }
filled_again_in_the_body : verdict (function 0 1 (Declare 0 Int (Some (put NullPointer)) ∷ Execute (Try (block (Execute (Evaluate (FreeUnique (move 1 43 0))) ∷ Execute (Evaluate (Assign (Local (at 1 47) 0) (put NullPointer) Void)) ∷ [])) (Default 1 (items (Execute (Evaluate (Load (target (peek 1 77 0)))) ∷ [])))) ∷ Execute (Return (Some (put (Number 0)))) ∷ []) 1 92 ∷ []) ≡ fault faults.EmptyVariable 1 77
filled_again_in_the_body = refl

-- int main(){ int *`U u = NULL; try *u = 1; catch { default: ufree(u); } return 0; }
peeked_in_the_body : verdict (function 0 1 (Declare 0 Int (Some (put NullPointer)) ∷ Execute (Try (Evaluate (Store (target (peek 1 36 0)) (put (Number 1)) (Value Int))) (Default 1 (items (Execute (Evaluate (FreeUnique (move 1 66 0))) ∷ [])))) ∷ Execute (Return (Some (put (Number 0)))) ∷ []) 1 82 ∷ []) ≡ None
peeked_in_the_body = refl

-- int *`U g; int eat(int *`U p){ ufree(p); return 1; } int main(){ int *`U u = NULL; try g :=: u; catch { default: eat(u); } return 0; }
swapped_in_the_body : verdict (function 1 0 (Execute (Evaluate (FreeUnique (move 1 38 0))) ∷ Execute (Return (Some (put (Number 1)))) ∷ []) 1 52 ∷ function 0 1 (Declare 0 Int (Some (put NullPointer)) ∷ Execute (Try (Swap (VariableSide (Global 0) Int) (VariableSide (Local (at 1 94) 0) Int)) (Default 1 (items (Execute (Evaluate (call (callees.Function 0) ((move 1 118 0) ∷ []))) ∷ [])))) ∷ Execute (Return (Some (put (Number 0)))) ∷ []) 1 134 ∷ []) ≡ None
swapped_in_the_body = refl

-- int main(){ let NewDynamicRegion{<`k> k} = new_ukey(); try { region<`k> h = open(k); putchar(65); } catch { default: ; } free_ukey(k); return 0; }
lent_in_the_body : verdict (function 0 2 (DeclareKey 1 0 ∷ Execute (Try (block (OpenRegion 1 1 (at 1 82) 0 ∷ Execute (Evaluate (call callees.Putchar ((Number 65) ∷ []))) ∷ [])) (Default 1 (items (Execute Empty ∷ [])))) ∷ Execute (Evaluate (FreeKey (move 1 132 0))) ∷ Execute (Return (Some (put (Number 0)))) ∷ []) 1 146 ∷ []) ≡ fault faults.EmptyVariable 1 132
lent_in_the_body = refl

-- int main(){ let NewDynamicRegion{<`k> k} = new_ukey(); try { region<`k> h = open(k); putchar(65); } catch { default: return 1; } free_ukey(k); return 0; }
lent_in_the_body_and_returned : verdict (function 0 2 (DeclareKey 1 0 ∷ Execute (Try (block (OpenRegion 1 1 (at 1 82) 0 ∷ Execute (Evaluate (call callees.Putchar ((Number 65) ∷ []))) ∷ [])) (Default 1 (items (Execute (Return (Some (put (Number 1)))) ∷ [])))) ∷ Execute (Evaluate (FreeKey (move 1 140 0))) ∷ Execute (Return (Some (put (Number 0)))) ∷ []) 1 154 ∷ []) ≡ None
lent_in_the_body_and_returned = refl

-- int main(){ int *`U u = NULL; let alias <`a> int *`a x = u; try { return 0; ufree(u); } catch { default: ufree(u); } return 0; }
lent_around_the_try : verdict (function 0 2 (Declare 0 Int (Some (put NullPointer)) ∷ DeclareAlias 1 1 Int (at 1 58) 0 ∷ Execute (Try (block (Execute (Return (Some (put (Number 0)))) ∷ Execute (Evaluate (FreeUnique (move 1 83 0))) ∷ [])) (Default 1 (items (Execute (Evaluate (FreeUnique (move 1 112 0))) ∷ [])))) ∷ Execute (Return (Some (put (Number 0)))) ∷ []) 1 128 ∷ []) ≡ fault faults.LockedVariable 1 112
lent_around_the_try = refl

-- int main(){ int *`U u = NULL; try { return 0; ufree(u); } catch { default: *u; } return 0; }
consumed_in_code_that_is_never_run : verdict (function 0 1 (Declare 0 Int (Some (put NullPointer)) ∷ Execute (Try (block (Execute (Return (Some (put (Number 0)))) ∷ Execute (Evaluate (FreeUnique (move 1 53 0))) ∷ [])) (Default 1 (items (Execute (Evaluate (Load (target (peek 1 77 0)))) ∷ [])))) ∷ Execute (Return (Some (put (Number 0)))) ∷ []) 1 92 ∷ []) ≡ fault faults.EmptyVariable 1 77
consumed_in_code_that_is_never_run = refl

-- int main(){ int *`U u = NULL; try { try ; catch { default: ufree(u); } } catch { default: *u; } return 0; }
consumed_in_an_inner_clause : verdict (function 0 1 (Declare 0 Int (Some (put NullPointer)) ∷ Execute (Try (block (Execute (Try Empty (Default 1 (items (Execute (Evaluate (FreeUnique (move 1 66 0))) ∷ [])))) ∷ [])) (Default 1 (items (Execute (Evaluate (Load (target (peek 1 92 0)))) ∷ [])))) ∷ Execute (Return (Some (put (Number 0)))) ∷ []) 1 107 ∷ []) ≡ fault faults.EmptyVariable 1 92
consumed_in_an_inner_clause = refl

-- int main(){ int a = 1; try a = 2; catch { default: return a; } return a; }
others_keep_what_they_hold : verdict (function 0 1 (Declare 0 Int (Some (put (Number 1))) ∷ Execute (Try (Evaluate (Assign (Local (at 1 28) 0) (put (Number 2)) (Value Int))) (Default 1 (items (Execute (Return (Some (put (copy 1 59 0)))) ∷ [])))) ∷ Execute (Return (Some (put (copy 1 71 0)))) ∷ []) 1 74 ∷ []) ≡ None
others_keep_what_they_hold = refl

-- int main(){ int a; try a = 2; catch { default: return a; } return a; }
not_yet_assigned : verdict (function 0 1 (Declare 0 Int None ∷ Execute (Try (Evaluate (Assign (Local (at 1 24) 0) (put (Number 2)) (Value Int))) (Default 1 (items (Execute (Return (Some (put (copy 1 55 0)))) ∷ [])))) ∷ Execute (Return (Some (put (copy 1 67 0)))) ∷ []) 1 70 ∷ []) ≡ fault faults.EmptyVariable 1 55
not_yet_assigned = refl

-- int main(){ int *`U u = NULL; try ; catch { case &Div_zero: ufree(u); default: ; } return *u; }
clauses_meet_the_body : verdict (function 0 1 (Declare 0 Int (Some (put NullPointer)) ∷ Execute (Try Empty (Case 4 None 1 (items (Execute (Evaluate (FreeUnique (move 1 67 0))) ∷ [])) (Default 1 (items (Execute Empty ∷ []))))) ∷ Execute (Return (Some (put (Load (target (peek 1 92 0)))))) ∷ []) 1 95 ∷ []) ≡ fault faults.EmptyVariable 1 92
clauses_meet_the_body = refl

-- datatype exn { Y(int); }; int main(){ try ; catch { case &Y(v): return v; } return 0; }
caught_int_is_there : verdict (function 0 1 (Execute (Try Empty (Case 5 (Some 0) 1 (items (Execute (Return (Some (put (copy 1 72 0)))) ∷ [])) NoClauses)) ∷ Execute (Return (Some (put (Number 0)))) ∷ []) 1 87 ∷ []) ≡ None
caught_int_is_there = refl

-- ---- unreachable code, and the ends of functions

-- int main(){ int *`U u = NULL; ufree(u); return 0; *u; ufree(u); while (1) ufree(u); }
never_run : verdict (function 0 1 (Declare 0 Int (Some (put NullPointer)) ∷ Execute (Evaluate (FreeUnique (move 1 37 0))) ∷ Execute (Return (Some (put (Number 0)))) ∷ Execute (Evaluate (Load (target (peek 1 52 0)))) ∷ Execute (Evaluate (FreeUnique (move 1 61 0))) ∷ Execute (While (at 1 65) (Number 1) (Evaluate (FreeUnique (move 1 81 0)))) ∷ []) 1 85 ∷ []) ≡ None
never_run = refl

-- int main(){ if (getchar()) return 1; }
end_is_reached : verdict (function 0 0 (Execute (If (call callees.Getchar []) (Return (Some (put (Number 1)))) Empty) ∷ []) 1 38 ∷ []) ≡ fault faults.MissingReturn 1 38
end_is_reached = refl

-- int main(){ while (1) ; }
end_after_a_loop : verdict (function 0 0 (Execute (While (at 1 13) (Number 1) Empty) ∷ []) 1 25 ∷ []) ≡ fault faults.MissingReturn 1 25
end_after_a_loop = refl

-- int main(){ if (getchar()) return 1; else throw new Div_zero; }
end_is_never_reached : verdict (function 0 0 (Execute (If (call callees.Getchar []) (Return (Some (put (Number 1)))) (Throw 4 None)) ∷ []) 1 63 ∷ []) ≡ None
end_is_never_reached = refl

-- void f(){ } int main(){ f(); return 0; }
end_without_a_result : verdict (procedure 0 0 [] 1 11 ∷ function 0 0 (Execute (Evaluate (call (callees.Function 0) [])) ∷ Execute (Return (Some (put (Number 0)))) ∷ []) 1 40 ∷ []) ≡ None
end_without_a_result = refl

-- int f(){ } int main(){ int a; return a; }
first_function_counts : verdict (function 0 0 [] 1 10 ∷ function 0 1 (Declare 0 Int None ∷ Execute (Return (Some (put (copy 1 38 0)))) ∷ []) 1 41 ∷ []) ≡ fault faults.MissingReturn 1 10
first_function_counts = refl

-- ---- longer programs

-- void eat(int @`U p){ ufree(p); }
-- int main(){
-- int @`U u = rnew(unique_region) 5;
-- eat(u);
-- return *u; }
worked_move : verdict (procedure 1 0 (Execute (Evaluate (FreeUnique (move 1 28 0))) ∷ []) 1 32 ∷ function 0 1 (Declare 0 Int (Some (put (New AsUnique (Plain kinds.Int (Number 5)) Int))) ∷ Execute (Evaluate (call (callees.Function 0) ((move 4 5 0) ∷ []))) ∷ Execute (Return (Some (put (Load (target (peek 5 9 0)))))) ∷ []) 5 12 ∷ []) ≡ fault faults.EmptyVariable 5 9
worked_move = refl

-- void eat(int @`U p){ ufree(p); }
-- int main(){
-- int @`U u = rnew(unique_region) 5;
-- eat(u);
-- u = rnew(unique_region) 6; return *u; }
worked_move_and_assignment : verdict (procedure 1 0 (Execute (Evaluate (FreeUnique (move 1 28 0))) ∷ []) 1 32 ∷ function 0 1 (Declare 0 Int (Some (put (New AsUnique (Plain kinds.Int (Number 5)) Int))) ∷ Execute (Evaluate (call (callees.Function 0) ((move 4 5 0) ∷ []))) ∷ Execute (Evaluate (Assign (Local (at 5 1) 0) (put (New AsUnique (Plain kinds.Int (Number 6)) Int)) Void)) ∷ Execute (Return (Some (put (Load (target (peek 5 36 0)))))) ∷ []) 5 39 ∷ []) ≡ None
worked_move_and_assignment = refl

-- int main(){
-- int @`U u = rnew(unique_region) 5;
-- let alias <`a> int @`a x = u;
-- ufree(u);
-- return *x; }
worked_alias : verdict (function 0 2 (Declare 0 Int (Some (put (New AsUnique (Plain kinds.Int (Number 5)) Int))) ∷ DeclareAlias 1 1 Int (at 3 28) 0 ∷ Execute (Evaluate (FreeUnique (move 4 7 0))) ∷ Execute (Return (Some (put (Load (target (copy 5 9 1)))))) ∷ []) 5 12 ∷ []) ≡ fault faults.LockedVariable 4 7
worked_alias = refl

-- int main(){
-- let NewDynamicRegion{<`k> k} = new_ukey();
-- region<`k> h = open(k);
-- free_ukey(k);
-- return 0; }
worked_key : verdict (function 0 2 (DeclareKey 1 0 ∷ OpenRegion 1 1 (at 3 21) 0 ∷ Execute (Evaluate (FreeKey (move 4 11 0))) ∷ Execute (Return (Some (put (Number 0)))) ∷ []) 5 11 ∷ []) ≡ fault faults.LockedVariable 4 11
worked_key = refl

-- int *`U g = NULL;
-- int main(){ int *`U u = rnew(unique_region) 7;
-- g :=: u; u :=: g;
-- int v = *u; ufree(u); return v; }
worked_swaps : verdict (function 0 2 (Declare 0 Int (Some (put (New AsUnique (Plain kinds.Int (Number 7)) Int))) ∷ Execute (Swap (VariableSide (Global 0) Int) (VariableSide (Local (at 3 7) 0) Int)) ∷ Execute (Swap (VariableSide (Local (at 3 10) 0) Int) (VariableSide (Global 0) Int)) ∷ Declare 1 Int (Some (put (Load (target (peek 4 10 0))))) ∷ Execute (Evaluate (FreeUnique (move 4 19 0))) ∷ Execute (Return (Some (put (copy 4 30 1)))) ∷ []) 4 33 ∷ []) ≡ None
worked_swaps = refl

-- int main(){
-- int @`U u = rnew(unique_region) 1;
-- while (1) { ufree(u); }
-- return 0; }
worked_loop : verdict (function 0 1 (Declare 0 Int (Some (put (New AsUnique (Plain kinds.Int (Number 1)) Int))) ∷ Execute (While (at 3 1) (Number 1) (block (Execute (Evaluate (FreeUnique (move 3 19 0))) ∷ []))) ∷ Execute (Return (Some (put (Number 0)))) ∷ []) 4 11 ∷ []) ≡ fault faults.LoopEmptiesVariable 3 1
worked_loop = refl

-- int main(){
-- let NewDynamicRegion{<`k> k} = new_ukey();
-- try { region<`k> h = open(k); putchar(65); } catch { default: ; }
-- free_ukey(k);
-- return 0; }
worked_catch : verdict (function 0 2 (DeclareKey 1 0 ∷ Execute (Try (block (OpenRegion 1 1 (at 3 27) 0 ∷ Execute (Evaluate (call callees.Putchar ((Number 65) ∷ []))) ∷ [])) (Default 1 (items (Execute Empty ∷ [])))) ∷ Execute (Evaluate (FreeKey (move 4 11 0))) ∷ Execute (Return (Some (put (Number 0)))) ∷ []) 5 11 ∷ []) ≡ fault faults.EmptyVariable 4 11
worked_catch = refl

-- int main(){
-- let NewDynamicRegion{<`k> k} = new_ukey();
-- try { region<`k> h = open(k); putchar(65); } catch { default: return 1; }
-- free_ukey(k);
-- return 0; }
worked_catch_that_returns : verdict (function 0 2 (DeclareKey 1 0 ∷ Execute (Try (block (OpenRegion 1 1 (at 3 27) 0 ∷ Execute (Evaluate (call callees.Putchar ((Number 65) ∷ []))) ∷ [])) (Default 1 (items (Execute (Return (Some (put (Number 1)))) ∷ [])))) ∷ Execute (Evaluate (FreeKey (move 4 11 0))) ∷ Execute (Return (Some (put (Number 0)))) ∷ []) 5 11 ∷ []) ≡ None
worked_catch_that_returns = refl

-- int eat(int ?`U p){ ufree(p); return 1; }
-- int main(){
-- int ?`U u = rnew(unique_region) {for i < 2 : i};
-- u[0] = eat(u);
-- return 0; }
worked_peek : verdict (function 1 0 (Execute (Evaluate (FreeUnique (move 1 27 0))) ∷ Execute (Return (Some (put (Number 1)))) ∷ []) 1 41 ∷ function 0 1 (Declare 0 Int (Some (put (New AsUnique (Array (at 3 34) 0 (Number 2) kinds.Int (Counter 0)) Int))) ∷ Execute (Evaluate (Store (element (peek 4 1 0) (Number 0)) (put (call (callees.Function 0) ((move 4 12 0) ∷ []))) (Value Int))) ∷ Execute (Return (Some (put (Number 0)))) ∷ []) 5 11 ∷ []) ≡ fault faults.LockedVariable 4 12
worked_peek = refl

-- int eat(int ?`U p){ ufree(p); return 1; }
-- int main(){
-- int ?`U u = rnew(unique_region) {for i < 2 : i};
-- u[0] = u[1] + 1;
-- return 0; }
worked_peeks : verdict (function 1 0 (Execute (Evaluate (FreeUnique (move 1 27 0))) ∷ Execute (Return (Some (put (Number 1)))) ∷ []) 1 41 ∷ function 0 1 (Declare 0 Int (Some (put (New AsUnique (Array (at 3 34) 0 (Number 2) kinds.Int (Counter 0)) Int))) ∷ Execute (Evaluate (Store (element (peek 4 1 0) (Number 0)) (put (Binary (Load (element (peek 4 8 0) (Number 1))) (ThenCompute operators.Add (Number 1) NoOperations) Int)) (Value Int))) ∷ Execute (Return (Some (put (Number 0)))) ∷ []) 5 11 ∷ []) ≡ None
worked_peeks = refl

-- int @`U @eat(int @`U u, int @`U @`H q){ ufree(u); return q; }
-- int main(){ int @`U u = rnew(unique_region) 1; int @`U @q = new rnew(unique_region) 2;
-- u :=: *eat(u, q); return 0; }
worked_swap : verdict (function 2 0 (Execute (Evaluate (FreeUnique (move 1 47 0))) ∷ Execute (Return (Some (put (copy 1 58 1)))) ∷ []) 1 61 ∷ function 0 2 (Declare 0 Int (Some (put (New AsUnique (Plain kinds.Int (Number 1)) Int))) ∷ Declare 1 Int (Some (put (New OnHeap (Plain kinds.Int (New AsUnique (Plain kinds.Int (Number 2)) Int)) Int))) ∷ Execute (Swap (VariableSide (Local (at 3 1) 0) Int) (CellSide (target (call (callees.Function 0) ((move 3 12 0) ∷ (copy 3 15 1) ∷ []))))) ∷ Execute (Return (Some (put (Number 0)))) ∷ []) 3 29 ∷ []) ≡ fault faults.EmptyVariable 3 1
worked_swap = refl
