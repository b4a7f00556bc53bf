-- Examples of unique pointers, swaps and aliases, each proved by computation. The expected results come from the language's rules.
use Rattle.std.proofs.Common.{◌≡◌, ℕ, [], ◌∷◌, Some, None, pos, refl}
use Rattle.cyc_words.specs.Ending.{Returned}
use Rattle.cyc_types.specs.declared.typed.Kind.TheVariants as kinds
use Rattle.cyc_types.specs.declared.typed.Callee.TheVariants as callees
use Rattle.cyc_types.specs.declared.typed.Operator.TheVariants as operators
use Rattle.cyc_syntax.specs.declared.tree.PointerKind.TheVariants as marks
use Rattle.cyc_types.specs.declared.region.Region.TheVariants.{Heap}
use Rattle.cyc_types.specs.Types.{Ty, Int, Pointer, Void, Value}
use Rattle.cyc_types.specs.TypedTrees.{Number, Counter, Call, MoreArguments, NoArguments, New, Plain, Load, FreeUnique, Assign, AsUnique, OnHeap, Swap, VariableSide, CellSide, Null, Execute, DeclareAlias, Function}
use Rattle.cyc_types.specs.TypedTrees as typed
use Rattle.std.specs.Prelude.{Option, slice_get}
use Rattle.cyc_meaning.specs.State.{HasEnded, Object, World, Running, Proceeding, no_locals, first_world, demand}
use Rattle.cyc_meaning.specs.Objects.{made_unique, freed}
use Rattle.cyc_meaning.specs.Allocation.{blanks}
use Rattle.cyc_meaning.proofs.ExampleTrees.{here, local, two, print, call, execute, return, declare, block, function, procedure, program, program_with, end, long_end, printed, star}
use Rattle.cyc_meaning.proofs.ExampleTrees.{at, fat, own_star, own, own_fat, convert, null_as, variable, move, peek, target, element, put, new, array, define, side, call_void}

-- void eat(int @`U p){ ufree(p); }
abbrev eat : Function
eat = procedure (own ∷ []) (execute (FreeUnique (move 0 own)) ∷ [])

-- int @`U u = rnew(unique_region) 5; eat(u); u = rnew(unique_region) 6; return *u;
eaten_and_new : end (program_with (eat ∷ []) (
    define 0 own (convert own own (new AsUnique own (Number 5)))
    ∷ call_void 1 (convert own own (move 0 own))
    ∷ execute (Assign (typed.Local here 0) (convert own own (new AsUnique own (Number 6))) Void)
    ∷ return (Load (target own (peek 0 own)))
    ∷ [])) ≡ HasEnded (Returned (pos 6))
eaten_and_new = refl

-- int *`U u = NULL; ufree(u); return 0;
free_null : end (program (define 0 own_star (null_as own_star) ∷ execute (FreeUnique (move 0 own_star)) ∷ return (Number 0) ∷ [])) ≡ HasEnded (Returned (pos 0))
free_null = refl

-- int ?`U u = rnew(unique_region) {for i < 2 : i}; u[0] = u[1] + 1; int v = u[0]; ufree(u); return v;
unique_array : long_end (program (
    define 0 own_fat (convert own_fat own_fat (array AsUnique own_fat (Number 2) (Counter 0)))
    ∷ execute (put (element (peek 0 own_fat) (Number 0)) (two (Load (element (peek 0 own_fat) (Number 1))) operators.Add (Number 1)))
    ∷ declare 1 (Load (element (peek 0 own_fat) (Number 0)))
    ∷ execute (FreeUnique (move 0 own_fat))
    ∷ return (local 1)
    ∷ [])) ≡ HasEnded (Returned (pos 2))
unique_array = refl

-- int *`U make(int n){ return rnew(unique_region) n; } int *`U u = make(6); return *u;
unique_result : end (program_with (function (Int ∷ []) (Execute (typed.Return (Some (convert own own_star (new AsUnique own (local 0))))) ∷ []) ∷ []) (
    define 0 own_star (convert own_star own_star (call 1 (Number 6 ∷ [])))
    ∷ return (Load (target own_star (peek 0 own_star)))
    ∷ [])) ≡ HasEnded (Returned (pos 6))
unique_result = refl

-- ---- swaps

-- int *`U g = NULL; int main(){ int *`U u = rnew(unique_region) 7; g :=: u; u :=: g; int v = *u; ufree(u); return v; }
swapped_there_and_back : long_end (record (program (
    define 0 own_star (convert own own_star (new AsUnique own (Number 7)))
    ∷ Execute (Swap (VariableSide (typed.Global 0) own_star) (side 0 own_star))
    ∷ Execute (Swap (side 0 own_star) (VariableSide (typed.Global 0) own_star))
    ∷ declare 1 (Load (target own_star (peek 0 own_star)))
    ∷ execute (FreeUnique (move 0 own_star))
    ∷ return (local 1)
    ∷ [])) {
      globals = record { name = 1; of_type = own_star; value = Null } ∷ [];
    }) ≡ HasEnded (Returned (pos 7))
swapped_there_and_back = refl

-- int @p = new 3; int x = 4; *p :=: x; return *p * 10 + x;
swapped_with_cell : long_end (program (
    define 0 at (convert at at (new OnHeap at (Number 3)))
    ∷ declare 1 (Number 4)
    ∷ Execute (Swap (CellSide (target at (variable 0 at))) (side 1 Int))
    ∷ return (two (two (Load (target at (variable 0 at))) operators.Multiply (Number 10)) operators.Add (local 1))
    ∷ [])) ≡ HasEnded (Returned (pos 43))
swapped_with_cell = refl

-- int ?p = new {for i < 2 : i}; p[0] :=: p[1]; return p[0];
swapped_cells : long_end (program (
    define 0 fat (convert fat fat (array OnHeap fat (Number 2) (Counter 0)))
    ∷ Execute (Swap (CellSide (element (variable 0 fat) (Number 0))) (CellSide (element (variable 0 fat) (Number 1))))
    ∷ return (Load (element (variable 0 fat) (Number 0)))
    ∷ [])) ≡ HasEnded (Returned (pos 1))
swapped_cells = refl

-- int x = 5; x :=: x; return x;
swapped_with_itself : end (program (declare 0 (Number 5) ∷ Execute (Swap (side 0 Int) (side 0 Int)) ∷ return (local 0) ∷ [])) ≡ HasEnded (Returned (pos 5))
swapped_with_itself = refl

-- int @p = new 3; *p :=: *p; return *p;
swapped_with_itself_in_a_cell : end (program (
    define 0 at (convert at at (new OnHeap at (Number 3)))
    ∷ Execute (Swap (CellSide (target at (variable 0 at))) (CellSide (target at (variable 0 at))))
    ∷ return (Load (target at (variable 0 at)))
    ∷ [])) ≡ HasEnded (Returned (pos 3))
swapped_with_itself_in_a_cell = refl

-- int @`U @eat(int @`U u, int @`U @q){ ufree(u); return q; } int @`U u = rnew(unique_region) 1; int @`U @q = new rnew(unique_region) 2; u
-- :=: *eat(u, q); return *u;
-- A swap evaluates its left and its right operand before it reads either cell. A pointer to a freed object may be moved.
abbrev at_own : Ty
at_own = Pointer marks.NonNull own Heap

swapped_after_a_free : long_end (program_with (function (own ∷ at_own ∷ []) (
    execute (FreeUnique (move 0 own))
    ∷ Execute (typed.Return (Some (convert at_own at_own (variable 1 at_own))))
    ∷ []) ∷ []) (
    define 0 own (convert own own (new AsUnique own (Number 1)))
    ∷ define 1 at_own (convert at_own at_own (New OnHeap (Plain kinds.NonNull (new AsUnique own (Number 2))) at_own))
    ∷ Execute (Swap (side 0 own) (CellSide (typed.Target kinds.NonNull (
    Call (callees.Function 1) (MoreArguments (convert own own (move 0 own)) (MoreArguments (convert at_own at_own (variable 1 at_own)) NoArguments)) (Value at_own)) own)))
    ∷ return (Load (target own (peek 0 own)))
    ∷ [])) ≡ HasEnded (Returned (pos 2))
swapped_after_a_free = refl

-- `*n :=: p[putchar(65)]` for a null pointer n: the left operand is checked before the right operand is evaluated
swap_checks_left_first : printed (program (
    define 0 star (null_as star)
    ∷ define 1 fat (null_as fat)
    ∷ Execute (Swap (CellSide (target star (variable 0 star))) (CellSide (element (variable 1 fat) (print (Number 65)))))
    ∷ return (Number 0)
    ∷ [])) ≡ []
swap_checks_left_first = refl

-- ---- aliases

-- int @`U u = rnew(unique_region) 5; { let alias <`a> int @`a x = u; *x = *x + 1; } int v = *u; ufree(u); return v;
aliased : long_end (program (
    define 0 own (convert own own (new AsUnique own (Number 5)))
    ∷ Execute (block (
    DeclareAlias 2 1 at here 0
    ∷ execute (put (target at (variable 1 at)) (two (Load (target at (variable 1 at))) operators.Add (Number 1)))
    ∷ []))
    ∷ declare 2 (Load (target own (peek 0 own)))
    ∷ execute (FreeUnique (move 0 own))
    ∷ return (local 2)
    ∷ [])) ≡ HasEnded (Returned (pos 6))
aliased = refl

-- ---- demand

-- The heap state after one more unique block of 512 words is allocated, and the heap state after a unique block of 512 words is freed.
abbrev more : World → World
more w = made_unique w (blanks 512 kinds.Int)

abbrev given_back : ℕ → World → Option Object → World
given_back number w None = w
given_back number w (Some x) = freed w number x

abbrev less : ℕ → World → World
less number w = given_back number w (slice_get w.objects number)

abbrev pages : World → ℕ
pages w = demand (Running Proceeding [] no_locals w)

abbrev none : World
none = first_world (program []) []

-- Two blocks of 512 words fit into one page, which is needed in addition to the heap's page.
one_block_takes_a_page : pages (more none) ≡ 2
one_block_takes_a_page = refl

three_blocks : pages (more (more (more none))) ≡ 3
three_blocks = refl

-- If three blocks are allocated and freed one after the other, the blocks need one page. A page that was once
-- needed for blocks stays in use after its blocks are freed.
three_in_turn : pages (more (less 1 (more (less 0 (more none))))) ≡ 2
three_in_turn = refl

pages_never_fall : pages (less 2 (less 1 (less 0 (more (more (more none)))))) ≡ 3
pages_never_fall = refl
