-- Examples of bounds on active calls, for programs with several functions and their runs. The expected results come from the
-- language's rules.
use Rattle.std.proofs.Common.{◌≡◌, zero, [], ◌∷◌, Some, None, refl, arith}
use Rattle.cyc_types.specs.declared.typed.Operator.TheVariants as operators
use Rattle.cyc_types.specs.TypedTrees.{Number, Evaluate, Throw, Try, Execute, Case, Default, Program}
use Rattle.cyc_meaning.specs.State.{depth}
use Rattle.cyc_meaning.specs.Run.{run}
use Rattle.cyc_meaning.proofs.ExampleTrees.{two, both, call, print, items, execute, return, declare, while, function, program_with}
use Rattle.cyc_bound.specs.Callees.{items_callees}
use Rattle.cyc_bound.specs.Bound.{Alone, Before, IsHeight, IsBound, IsCycle}
use Rattle.cyc_bound.proofs.WalkLemmas.{so_far_none, so_far_more, so_far_all}

-- ---- callees of bodies

-- example `f(g(1)) + h()`: in the list of called functions, a function comes after those called in its arguments, and
-- operands are visited from left to right
operands_call : items_callees (items (return (two (call 1 (call 2 (Number 1 ∷ []) ∷ [])) operators.Add (call 3 [])) ∷ [])) ≡ 2 ∷ 1 ∷ 3 ∷ []
operands_call = refl

-- example `int a = f(); putchar(g());` with a loop: the functions called in initial values, in arguments of built-in functions, in
-- loop conditions and in loop bodies
statements_call : items_callees (items (declare 0 (call 1 []) ∷ execute (print (call 2 [])) ∷ while (call 3 []) (Evaluate (call 4 [])) ∷ [])) ≡ 1 ∷ 2 ∷ 3 ∷ 4 ∷ []
statements_call = refl

-- example `try f(); catch { case A: g(); default: throw B(h()); }`: the functions called in the `try` body and in the catch clauses
clauses_call : items_callees (items (Execute (Try (Evaluate (call 1 [])) (Case 5 None 1 (items (execute (call 2 []) ∷ [])) (Default 2 (items (Execute (Throw 6 (Some (call 3 []))) ∷ []))))) ∷ [])) ≡ 1 ∷ 2 ∷ 3 ∷ []
clauses_call = refl

-- example: a function called in the right operand of `&&` counts as called, even if the operand is not evaluated
skipped_calls : items_callees (items (execute (both (Number 0) (call 1 [])) ∷ [])) ≡ 1 ∷ []
skipped_calls = refl

-- ---- a chain of three functions

abbrev chain : Program
chain = program_with (function [] (return (call 2 []) ∷ []) ∷ function [] (return (Number 7) ∷ []) ∷ []) (return (call 1 []) ∷ [])

last_height : IsHeight chain 2 1
last_height = so_far_all chain 2 [] 0 1 refl (omega arith) (so_far_none chain 2 [])

middle_height : IsHeight chain 1 2
middle_height = so_far_all chain 1 (2 ∷ []) 1 2 refl (omega arith) (so_far_more chain 1 (2 ∷ []) 0 1 2 1 refl (so_far_none chain 1 (2 ∷ [])) (omega arith) refl last_height (omega arith))

chain_bound : IsBound chain 3
chain_bound = so_far_all chain 0 (1 ∷ []) 1 3 refl (omega arith) (so_far_more chain 0 (1 ∷ []) 0 1 1 2 refl (so_far_none chain 0 (1 ∷ [])) (omega arith) refl middle_height (omega arith))

-- example: in the run of a program in which each function calls the next one, as many calls are active as the bound states
chain_reaches : depth (run chain [] 14) ≡ 3
chain_reaches = refl

-- ---- a function that calls itself

abbrev loop : Program
loop = program_with (function [] (return (call 1 []) ∷ []) ∷ []) (return (call 1 []) ∷ [])

loop_cycle : IsCycle loop (1 ∷ [])
loop_cycle = ((zero, omega arith, refl), (2, Before 0 1 1 1 (zero, omega arith, refl) (Alone 1)))

-- example: if a cycle of calls is not reachable from `main`, the active calls have a bound
abbrev apart : Program
apart = program_with (function [] (return (call 1 []) ∷ []) ∷ []) (return (Number 0) ∷ [])

apart_bound : IsBound apart 1
apart_bound = so_far_all apart 0 [] 0 1 refl (omega arith) (so_far_none apart 0 [])
