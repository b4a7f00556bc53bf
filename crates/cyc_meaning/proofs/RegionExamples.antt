-- Examples of regions and keys, each proved by computation. The expected results come from the language's rules.
use Rattle.std.proofs.Common.{◌≡◌, ℕ, List, [], ◌∷◌, Some, None, pos, refl}
use Rattle.cyc_words.specs.Ending.{Returned, Full}
use Rattle.cyc_types.specs.declared.region.Region.TheVariants.{Heap}
use Rattle.cyc_types.specs.declared.typed.Callee.TheVariants as callees
use Rattle.cyc_types.specs.declared.typed.Operator.TheVariants as operators
use Rattle.cyc_types.specs.declared.typed.PointerOperator.TheVariants as pointers
use Rattle.cyc_types.specs.Types.{Int, Handle, Key, Value}
use Rattle.cyc_types.specs.TypedTrees.{Expression, Number, NullPointer, HeapRegion, AddressOf, Call, MoreArguments, NoArguments, Load, FreeKey, If, Throw, Empty, Evaluate, Case, NoClauses, ByHandle, Placement, Execute, DeclareRegion, OpenRegion, DeclareKey, Function, Program}
use Rattle.cyc_types.specs.TypedTrees as typed
use Rattle.cyc_meaning.specs.State.{HasEnded}
use Rattle.cyc_meaning.proofs.ExampleTrees.{here, local, two, assign, print, call, items, execute, return, declare, block, while, function, program, program_with, end, long_end}
use Rattle.cyc_meaning.proofs.ExampleTrees.{long_printed, end_within, star, at, convert, null_as, variable, move, target, put, set, new, apply, define, when, try_to, case, otherwise}

abbrev handle : ℕ → Expression
handle number = variable number (Handle Heap)

-- Allocates in the region whose handle a given local holds.
abbrev by : ℕ → Placement
by number = ByHandle (handle number)

abbrev free_key : ℕ → typed.Item
free_key number = execute (FreeKey (move number (Key Heap)))

-- int @p = rnew(heap_region) 4; return *p;
in_the_heap : end (program (define 0 at (convert at at (new (ByHandle HeapRegion) at (Number 4))) ∷ return (Load (target at (variable 0 at))) ∷ [])) ≡ HasEnded (Returned (pos 4))
in_the_heap = refl

-- ---- regions of blocks

-- int *keep(int *p, int *q){ return p; } int x = 3; { int y = 4; int *p = keep(&x, &y); return *p; }
kept_by_a_function : end (program_with (function (star ∷ star ∷ []) (Execute (typed.Return (Some (convert star star (variable 0 star)))) ∷ []) ∷ []) (
    declare 0 (Number 3)
    ∷ Execute (block (
    declare 1 (Number 4)
    ∷ define 2 star (convert star star (Call (callees.Function 1) (
    MoreArguments (convert at star (AddressOf (typed.Local here 0) at)) (MoreArguments (convert at star (AddressOf (typed.Local here 1) at)) NoArguments)) (Value star)))
    ∷ return (Load (target star (variable 2 star)))
    ∷ []))
    ∷ [])) ≡ HasEnded (Returned (pos 3))
kept_by_a_function = refl

-- ---- lexical regions

-- region<`a> h; int @`a p = rnew(h) 3; return *p;
lexical : end (program (DeclareRegion 1 0 ∷ define 1 at (convert at at (new (by 0) at (Number 3))) ∷ return (Load (target at (variable 1 at))) ∷ [])) ≡ HasEnded (Returned (pos 3))
lexical = refl

-- { region<`a> h; rnew(h) 7; }
abbrev in_a_block : typed.Item
in_a_block = Execute (block (DeclareRegion 2 0 ∷ execute (new (by 0) at (Number 7)) ∷ []))

-- A block with a lexical region runs twice: the pages of a lexical region are freed at the end of its block.
regions_in_turn : end_within 2 1 (program (in_a_block ∷ in_a_block ∷ return (Number 0) ∷ [])) ≡ HasEnded (Returned (pos 0))
regions_in_turn = refl

regions_in_turn_full : end_within 1 1 (program (in_a_block ∷ in_a_block ∷ return (Number 0) ∷ [])) ≡ HasEnded Full
regions_in_turn_full = refl

-- datatype exn { Out(int); };
-- int dig(int n){ if (n == 0) { region<`a> x; int @`a p = rnew(x) 1; region<`b> y; int @`b q = rnew(y) 2; region<`c> z;
--   int @`c r = rnew(z) 3; throw new Out(*p + *q + *r); } return dig(n - 1); }
abbrev dig : Function
dig = function (Int ∷ []) (
    Execute (If (two (local 0) operators.Equal (Number 0)) (block (
    DeclareRegion 2 1
    ∷ define 2 at (convert at at (new (by 1) at (Number 1)))
    ∷ DeclareRegion 3 3
    ∷ define 4 at (convert at at (new (by 3) at (Number 2)))
    ∷ DeclareRegion 4 5
    ∷ define 6 at (convert at at (new (by 5) at (Number 3)))
    ∷ Execute (Throw 5 (Some (two (two (Load (target at (variable 2 at))) operators.Add (Load (target at (variable 4 at)))) operators.Add (Load (target at (variable 6 at))))))
    ∷ [])) Empty)
    ∷ return (call 1 (two (local 0) operators.Subtract (Number 1) ∷ []))
    ∷ [])

-- try s = s + dig(0); catch { case &Out(v): s = s + v; }
abbrev digs : typed.Item
digs = try_to (Evaluate (assign 0 (two (local 0) operators.Add (call 1 (Number 0 ∷ []))))) (Case 5 (Some 1) 2 (items (execute (assign 0 (two (local 0) operators.Add (local 1))) ∷ [])) NoClauses)

-- int s = 0; the try statement above, twice; return s;
-- A throw out of a call and three regions closes the three regions, so the heap's page and three more suffice.
abbrev digs_twice : Program
digs_twice = program_with (dig ∷ []) (declare 0 (Number 0) ∷ digs ∷ digs ∷ return (local 0) ∷ [])

digs_with_regions_end : end_within 4 2 digs_twice ≡ HasEnded (Returned (pos 12))
digs_with_regions_end = refl

digs_with_regions_full : end_within 3 2 digs_twice ≡ HasEnded Full
digs_with_regions_full = refl

-- ---- dynamic regions

-- let NewDynamicRegion{<`k> k} = new_ukey(); int *`k p = NULL; { region<`k> h = open(k); p = rnew(h) 1; } free_ukey(k);
abbrev opened_and_freed : List typed.Item → Program
opened_and_freed after = program (
    DeclareKey 1 0
    ∷ define 1 star (null_as star)
    ∷ Execute (block (
    OpenRegion 1 2 here 0
    ∷ execute (set 1 star (convert at star (new (by 2) at (Number 1))))
    ∷ []))
    ∷ free_key 0
    ∷ after)

-- `return p == NULL;`: a stale pointer, which points into a closed region, is not null
stale_is_not_null : long_end (opened_and_freed (return (apply (variable 1 star) pointers.ThinIsNull NullPointer Int) ∷ [])) ≡ HasEnded (Returned (pos 0))
stale_is_not_null = refl

-- let NewDynamicRegion{<`k> k} = new_ukey(); try { region<`k> h = open(k); putchar(65); } catch { default: return 1; } free_ukey(k); return 0;
abbrev opened_in_try : Program
opened_in_try = program (
    DeclareKey 1 0
    ∷ try_to (block (OpenRegion 1 1 here 0 ∷ execute (print (Number 65)) ∷ [])) (otherwise (return (Number 1) ∷ []))
    ∷ free_key 0
    ∷ return (Number 0)
    ∷ [])

opened_in_try_end : long_end opened_in_try ≡ HasEnded (Returned (pos 0))
opened_in_try_end = refl

opened_in_try_printed : long_printed opened_in_try ≡ 65 ∷ []
opened_in_try_printed = refl

-- A dynamic region needs its page from `new_ukey` to `free_ukey`.
key_needs_a_page : end_within 1 1 opened_in_try ≡ HasEnded Full
key_needs_a_page = refl

-- A dynamic region stays open after the block that opened it, and is opened again in the next block.
opened_twice : long_end (program (
    DeclareKey 1 0
    ∷ define 1 star (null_as star)
    ∷ Execute (block (OpenRegion 1 2 here 0 ∷ execute (set 1 star (convert at star (new (by 2) at (Number 1)))) ∷ []))
    ∷ Execute (block (OpenRegion 1 3 here 0 ∷ execute (put (target star (variable 1 star)) (two (Load (target star (variable 1 star))) operators.Add (Number 8))) ∷ []))
    ∷ return (Load (target star (variable 1 star)))
    ∷ [])) ≡ HasEnded (Returned (pos 9))
opened_twice = refl

-- int n = 0; int s = 0; while (n != 2) { let NewDynamicRegion{<`k> k} = new_ukey(); int *`k p = NULL;
-- { region<`k> h = open(k); p = rnew(h) n; } free_ukey(k); if (p == NULL) s = s + 1; n = n + 1; } return s;
abbrev keys_in_turn : Program
keys_in_turn = program (
    declare 0 (Number 0)
    ∷ declare 1 (Number 0)
    ∷ while (two (local 0) operators.NotEqual (Number 2)) (block (
    DeclareKey 2 2
    ∷ define 3 star (null_as star)
    ∷ Execute (block (OpenRegion 2 4 here 2 ∷ execute (set 3 star (convert at star (new (by 4) at (local 0)))) ∷ []))
    ∷ free_key 2
    ∷ when (apply (variable 3 star) pointers.ThinIsNull NullPointer Int) (assign 1 (two (local 1) operators.Add (Number 1)))
    ∷ execute (assign 0 (two (local 0) operators.Add (Number 1)))
    ∷ []))
    ∷ return (local 1)
    ∷ [])

-- The pages that `free_ukey` frees are available for the next region.
keys_in_turn_end : end_within 2 1 keys_in_turn ≡ HasEnded (Returned (pos 0))
keys_in_turn_end = refl

keys_in_turn_full : end_within 1 1 keys_in_turn ≡ HasEnded Full
keys_in_turn_full = refl

-- let NewDynamicRegion{<`k> k} = new_ukey(); int *`k p = NULL; { region<`k> h = open(k); p = rnew(h) 9; } try throw new E; catch { case &E:
-- ; } region<`k> h = open(k); return *p;
-- A throw closes no dynamic region.
thrown_beside_a_key : long_end (program (
    DeclareKey 1 0
    ∷ define 1 star (null_as star)
    ∷ Execute (block (OpenRegion 1 2 here 0 ∷ execute (set 1 star (convert at star (new (by 2) at (Number 9)))) ∷ []))
    ∷ try_to (Throw 5 None) (case 5 [] NoClauses)
    ∷ OpenRegion 1 3 here 0
    ∷ return (Load (target star (variable 1 star)))
    ∷ [])) ≡ HasEnded (Returned (pos 9))
thrown_beside_a_key = refl

-- try { region<`k> h = open(k); throw new E; } catch { case &E: return *p; }
-- A throw does not close a dynamic region even if it leaves the block that opened it. (The checker rejects this text, since it cannot
-- derive that the region is open in the catch clause.)
thrown_past_a_key : long_end (program (
    DeclareKey 1 0
    ∷ define 1 star (null_as star)
    ∷ Execute (block (OpenRegion 1 2 here 0 ∷ execute (set 1 star (convert at star (new (by 2) at (Number 9)))) ∷ []))
    ∷ try_to (block (OpenRegion 1 3 here 0 ∷ Execute (Throw 5 None) ∷ [])) (case 5 (return (Load (target star (variable 1 star))) ∷ []) NoClauses)
    ∷ [])) ≡ HasEnded (Returned (pos 9))
thrown_past_a_key = refl
