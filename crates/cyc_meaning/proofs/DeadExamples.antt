-- Examples of dead accesses (accesses to freed memory), and of ill-formed trees; the checker rejects all of their texts. Each
-- example is proved by computation.
use Rattle.std.proofs.Common.{◌≡◌, ℕ, List, [], ◌∷◌, None, pos, refl}
use Rattle.cyc_words.specs.Ending.{Returned}
use Rattle.cyc_syntax.specs.declared.tree.PointerKind.TheVariants as marks
use Rattle.cyc_types.specs.declared.region.Region.TheVariants.{Heap}
use Rattle.cyc_types.specs.declared.typed.Kind.TheVariants as kinds
use Rattle.cyc_types.specs.declared.typed.Callee.TheVariants as callees
use Rattle.cyc_types.specs.declared.typed.PointerOperator.TheVariants as pointers
use Rattle.cyc_types.specs.Types.{Int, Pointer, Handle, Key, Value}
use Rattle.cyc_types.specs.TypedTrees.{Number, NullPointer, Counter, Call, MoreArguments, NoArguments, Load, AddressOf, AddressOfCell, FreeUnique, FreeKey, AsUnique, OnHeap, ByHandle, Placement, Swap, CellSide, Execute, Declare, DeclareRegion, DeclareAlias, OpenRegion, DeclareKey, Program}
use Rattle.cyc_types.specs.TypedTrees as typed
use Rattle.cyc_meaning.specs.State.{HasEnded, IsDead, IsWrong}
use Rattle.cyc_meaning.proofs.ExampleTrees.{here, local, execute, return, declare, block, while, function, procedure, call_void, program, program_with, end, long_end, star, at, fat, own, own_fat, convert, null_as, variable, move, peek, target, element, put, set, new, array, apply, define, side}

-- ---- unique objects

-- int @`U u = rnew(unique_region) 5; ufree(u);
abbrev freed : List typed.Item → Program
freed after = program (
    define 0 own (convert own own (new AsUnique own (Number 5)))
    ∷ execute (FreeUnique (move 0 own))
    ∷ after)

freed_and_read : end (freed (return (Load (target own (peek 0 own))) ∷ [])) ≡ IsDead
freed_and_read = refl

freed_and_assigned : end (freed (execute (put (target own (peek 0 own)) (Number 3)) ∷ [])) ≡ IsDead
freed_and_assigned = refl

freed_twice_is_dead : end (freed (execute (FreeUnique (move 0 own)) ∷ [])) ≡ IsDead
freed_twice_is_dead = refl

freed_and_swapped : end (freed (declare 1 (Number 1) ∷ Execute (Swap (side 1 Int) (CellSide (target own (peek 0 own)))) ∷ [])) ≡ IsDead
freed_and_swapped = refl

-- After `ufree(u)`, evaluating `u == u` is a dead access (one to freed memory), and `u == NULL` is not.
freed_and_compared : end (freed (return (apply (peek 0 own) pointers.EqualThin (peek 0 own) Int) ∷ [])) ≡ IsDead
freed_and_compared = refl

freed_and_compared_with_null : end (freed (return (apply (peek 0 own) pointers.ThinIsNull NullPointer Int) ∷ [])) ≡ HasEnded (Returned (pos 0))
freed_and_compared_with_null = refl

-- Comparing a freed pointer with a variable that holds a null pointer is not a dead access.
freed_and_compared_with_null_value : end (freed (define 1 star (null_as star) ∷ return (apply (peek 0 own) pointers.EqualThin (variable 1 star) Int) ∷ [])) ≡ HasEnded (Returned (pos 0))
freed_and_compared_with_null_value = refl

-- Taking the address of a freed cell is not an access, so it is not a dead access (an access to freed memory).
freed_and_located : end (freed (return (apply (typed.AddressOfCell (target own (peek 0 own)) at) pointers.ThinIsNull NullPointer Int) ∷ [])) ≡ HasEnded (Returned (pos 0))
freed_and_located = refl

-- void eat(int @`U p){ ufree(p); } int @`U u = rnew(unique_region) 5; eat(u); return *u;
eaten_and_read : end (program_with (procedure (own ∷ []) (execute (FreeUnique (move 0 own)) ∷ []) ∷ []) (
    define 0 own (convert own own (new AsUnique own (Number 5)))
    ∷ call_void 1 (convert own own (move 0 own))
    ∷ return (Load (target own (peek 0 own)))
    ∷ [])) ≡ IsDead
eaten_and_read = refl

-- int @`U u = rnew(unique_region) 1; while (1) { ufree(u); }
freed_in_a_loop : end (program (
    define 0 own (convert own own (new AsUnique own (Number 1)))
    ∷ while (Number 1) (block (execute (FreeUnique (move 0 own)) ∷ []))
    ∷ [])) ≡ IsDead
freed_in_a_loop = refl

-- int eat(int ?`U p){ ufree(p); return 1; } int ?`U u = rnew(unique_region) {for i < 2 : i}; u[0] = eat(u);
eaten_under_a_place : long_end (program_with (function (own_fat ∷ []) (execute (FreeUnique (move 0 own_fat)) ∷ return (Number 1) ∷ []) ∷ []) (
    define 0 own_fat (convert own_fat own_fat (array AsUnique own_fat (Number 2) (Counter 0)))
    ∷ execute (put (element (peek 0 own_fat) (Number 0)) (Call (callees.Function 1) (MoreArguments (convert own_fat own_fat (move 0 own_fat)) NoArguments) (Value Int)))
    ∷ return (Number 0)
    ∷ [])) ≡ IsDead
eaten_under_a_place = refl

-- int @`U u = rnew(unique_region) 5; let alias <`a> int @`a x = u; ufree(u); return *x;
freed_under_an_alias : end (program (
    define 0 own (convert own own (new AsUnique own (Number 5)))
    ∷ DeclareAlias 1 1 at here 0
    ∷ execute (FreeUnique (move 0 own))
    ∷ return (Load (target at (variable 1 at)))
    ∷ [])) ≡ IsDead
freed_under_an_alias = refl

-- ---- variables

-- int *p = NULL; { int y = 1; p = &y; } return *p;
escaped_variable : end (program (
    define 0 star (null_as star)
    ∷ Execute (block (declare 1 (Number 1) ∷ execute (set 0 star (convert at star (AddressOf (typed.Local here 1) at))) ∷ []))
    ∷ return (Load (target star (variable 0 star)))
    ∷ [])) ≡ IsDead
escaped_variable = refl

-- ---- regions

abbrev by : ℕ → Placement
by number = ByHandle (variable number (Handle Heap))

-- int *p = NULL; { region<`a> h; p = rnew(h) 1; } return *p;
closed_region_read : long_end (program (
    define 0 star (null_as star)
    ∷ Execute (block (DeclareRegion 2 1 ∷ execute (set 0 star (convert at star (new (by 1) at (Number 1)))) ∷ []))
    ∷ return (Load (target star (variable 0 star)))
    ∷ [])) ≡ IsDead
closed_region_read = refl

-- let NewDynamicRegion{<`k> k} = new_ukey(); region<`k> h = open(k); free_ukey(k);
abbrev closed : List typed.Item → Program
closed after = program (
    DeclareKey 1 0
    ∷ OpenRegion 1 1 here 0
    ∷ execute (FreeKey (move 0 (Key Heap)))
    ∷ after)

allocated_in_closed : end (closed (execute (new (by 1) at (Number 1)) ∷ [])) ≡ IsDead
allocated_in_closed = refl

array_in_closed : end (closed (execute (array (by 1) fat (Number 2) (Number 1)) ∷ [])) ≡ IsDead
array_in_closed = refl

opened_closed : end (closed (OpenRegion 1 2 here 0 ∷ [])) ≡ IsDead
opened_closed = refl

closed_twice : end (closed (execute (FreeKey (move 0 (Key Heap))) ∷ [])) ≡ IsDead
closed_twice = refl

-- let NewDynamicRegion{<`k> k} = new_ukey(); int *`k p = NULL; { region<`k> h = open(k); p = rnew(h) 1; } free_ukey(k);
-- int @q = new 1; int *z = NULL;
abbrev stale : List typed.Item → Program
stale after = program (
    DeclareKey 1 0
    ∷ define 1 star (null_as star)
    ∷ Execute (block (OpenRegion 1 2 here 0 ∷ execute (set 1 star (convert at star (new (by 2) at (Number 1)))) ∷ []))
    ∷ execute (FreeKey (move 0 (Key Heap)))
    ∷ define 3 at (convert at at (new OnHeap at (Number 1)))
    ∷ define 4 star (null_as star)
    ∷ after)

-- Let p be a pointer into a closed region, q one to a live object, and z null. Then `p == p`, `p == q` and `q != p` are dead
-- accesses; `p == z` and `z != p` are not, and p differs from z.
stale_compared_with_itself : long_end (stale (return (apply (variable 1 star) pointers.EqualThin (variable 1 star) Int) ∷ [])) ≡ IsDead
stale_compared_with_itself = refl

stale_compared : long_end (stale (return (apply (variable 1 star) pointers.EqualThin (variable 3 at) Int) ∷ [])) ≡ IsDead
stale_compared = refl

compared_with_stale : long_end (stale (return (apply (variable 3 at) pointers.NotEqualThin (variable 1 star) Int) ∷ [])) ≡ IsDead
compared_with_stale = refl

stale_compared_with_null_value : long_end (stale (return (apply (variable 1 star) pointers.EqualThin (variable 4 star) Int) ∷ [])) ≡ HasEnded (Returned (pos 0))
stale_compared_with_null_value = refl

null_value_compared_with_stale : long_end (stale (return (apply (variable 4 star) pointers.NotEqualThin (variable 1 star) Int) ∷ [])) ≡ HasEnded (Returned (pos 1))
null_value_compared_with_stale = refl

-- *p = 2;
stale_assigned : long_end (stale (execute (put (target star (variable 1 star)) (Number 2)) ∷ [])) ≡ IsDead
stale_assigned = refl

-- int *p = NULL; { region<`a> h; p = rnew(h) 1; } ufree(p);
closed_region's_freed : long_end (program (
    define 0 star (null_as star)
    ∷ Execute (block (DeclareRegion 2 1 ∷ execute (set 0 star (convert at star (new (by 1) at (Number 1)))) ∷ []))
    ∷ execute (FreeUnique (variable 0 star))
    ∷ [])) ≡ IsDead
closed_region's_freed = refl

-- ---- trees without a meaning

-- int x; return x;
read_of_nothing : end (program (Declare 0 Int None ∷ return (local 0) ∷ [])) ≡ IsWrong
read_of_nothing = refl

-- Using a local that was never declared is wrong, and so is using the loop counter of an array initializer `for` outside of every such
-- `for`.
no_local : end (program (return (local 3) ∷ [])) ≡ IsWrong
no_local = refl

no_counter : end (program (return (Counter 0) ∷ [])) ≡ IsWrong
no_counter = refl

-- A program is wrong if it returns a pointer as an int, or uses a pointer whose representation kind is not the one that its tree states.
wrong_kind_returned : end (program (return (new OnHeap at (Number 1)) ∷ [])) ≡ IsWrong
wrong_kind_returned = refl

wrong_kind_of_variable : end (program (declare 0 (Number 1) ∷ return (Load (target at (variable 0 at))) ∷ [])) ≡ IsWrong
wrong_kind_of_variable = refl

wrong_kind_followed : end (program (define 0 at (convert at at (new OnHeap at (Number 1))) ∷ return (Load (typed.Target kinds.Fat (variable 0 at) Int)) ∷ [])) ≡ IsWrong
wrong_kind_followed = refl

-- `&*p`, or a conversion of a fat pointer, is wrong if the target is an int but the tree states a pointer.
wrong_kind_of_target : end (program (define 0 at (convert at at (new OnHeap at (Number 1))) ∷ execute (AddressOfCell (typed.Target kinds.NonNull (variable 0 at) star) at) ∷ [])) ≡ IsWrong
wrong_kind_of_target = refl

wrong_kind_of_element : end (program (
    define 0 fat (convert at fat (new OnHeap at (Number 1)))
    ∷ define 1 at (convert fat at (variable 0 (Pointer marks.Fat star Heap)))
    ∷ [])) ≡ IsWrong
wrong_kind_of_element = refl

-- A fat pointer `int ?q` as the left operand of a comparison of thin pointers is wrong.
wrong_kind_compared : end (program (define 0 fat (null_as fat) ∷ return (apply (variable 0 fat) pointers.EqualThin NullPointer Int) ∷ [])) ≡ IsWrong
wrong_kind_compared = refl

-- Applying `ufree` to an object in a region makes the program's state wrong.
free_of_a_region's : end (program (execute (FreeUnique (new OnHeap at (Number 1))) ∷ [])) ≡ IsWrong
free_of_a_region's = refl

-- Calling `int f(int a){ return a; }` without its argument is wrong.
argument_is_missing : end (program_with (function (Int ∷ []) (return (local 0) ∷ []) ∷ []) (return (Call (callees.Function 1) NoArguments (Value Int)) ∷ [])) ≡ IsWrong
argument_is_missing = refl

-- `int x = 1; int *p = NULL; x :=: p;` is wrong, because one of the swapped values is an int and the other a pointer.
wrong_kind_swapped : end (program (declare 0 (Number 1) ∷ define 1 star (null_as star) ∷ Execute (Swap (side 0 Int) (side 1 star)) ∷ [])) ≡ IsWrong
wrong_kind_swapped = refl

-- the handle of a lexical region is not a key, so it cannot open the region
handle_as_key : end (program (DeclareRegion 1 0 ∷ OpenRegion 1 1 here 0 ∷ [])) ≡ IsWrong
handle_as_key = refl
