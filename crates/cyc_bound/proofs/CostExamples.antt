-- Examples: the costs of small programs, computed by hand from the language's rules, and the steps of their runs.
use Rattle.std.proofs.Common.{◌≡◌, ℕ, max, List, [], ◌∷◌, true, false, refl}
use Rattle.std.specs.Prelude.{map}
use Rattle.cyc_types.specs.declared.typed.Operator.TheVariants as operators
use Rattle.cyc_types.specs.declared.region.Region.TheVariants.{Heap}
use Rattle.cyc_types.specs.Types.{Handle}
use Rattle.cyc_types.specs.TypedTrees.{Number, HeapRegion, OnHeap, AsUnique, ByHandle, Evaluate, Statement, Execute, DeclareRegion, If, Item, Function, Program}
use Rattle.cyc_meaning.specs.State.{demand, status_of, GoesOn}
use Rattle.cyc_meaning.specs.Run.{run}
use Rattle.cyc_meaning.proofs.ExampleTrees.{two, call, execute, return, while, function, program_with, program, fat, at, new, array, variable, block, try_to, otherwise}
use Rattle.cyc_bound.specs.declared.costs.Measure.TheVariants as measures
use Rattle.cyc_bound.specs.declared.costs.Measure.{Measure}
use Rattle.cyc_bound.specs.Costs.{too_many, next_costs, run_cost, costs_after}
use Rattle.cyc_bound.specs.AtOnce.{items_at_once}
use Rattle.cyc_bound.specs.Pages.{most_pages}
use Rattle.cyc_bound.specs.Steps.{IsOver}

-- the cost of a run of a program, after the function costs were computed in the given number of rounds
abbrev cost_by : Program → (rounds : ℕ) → Measure → ℕ
cost_by program rounds m = run_cost program m (costs_after program m rounds)

-- ---- `return 7;`

-- In this example, a program that only returns 7, the call of `main` costs 4 steps. The empty rest of the body of `main` costs
-- 1 step, the `return` statement 2, and the returned value 3. The last stack entry stands for the end of `main`, which only an
-- exception pops by a step of its own.
abbrev seven : Program
seven = program (return (Number 7) ∷ [])

seven_costs : cost_by seven 1 measures.Steps ≡ 11
seven_costs = refl

seven_goes_on : status_of (run seven [] 9) ≡ GoesOn
seven_goes_on = refl

seven_is_over : IsOver (run seven [] 10)
seven_is_over = tt

-- ---- a function that is called twice

abbrev twice : Program
twice = program_with (function [] (return (Number 7) ∷ []) ∷ []) (return (two (call 1 []) operators.Add (call 1 [])) ∷ [])

twice_costs : cost_by twice 2 measures.Steps ≡ 38
twice_costs = refl

-- example: after two rounds of the search for the costs of functions, a third round changes no function's cost
twice_settles : next_costs twice measures.Steps (costs_after twice measures.Steps 2) ≡ costs_after twice measures.Steps 2
twice_settles = refl

-- ---- a function that calls itself

abbrev again : Program
again = program_with (function [] (return (call 1 []) ∷ []) ∷ []) (return (call 1 []) ∷ [])

-- example: the function calls itself but allocates nothing, so its pages have a bound
again_pages : most_pages false (cost_by again 1) ≡ 1
again_pages = refl

again_settles : next_costs again measures.Blocks (costs_after again measures.Blocks 1) ≡ costs_after again measures.Blocks 1
again_settles = refl

-- ---- a loop

abbrev loop : Program
loop = program (while (Number 1) (Evaluate (Number 2)) ∷ return (Number 0) ∷ [])

-- example: the loop of this program allocates nothing, so the pages of the program have a bound
loop_pages : most_pages false (cost_by loop 1) ≡ 1
loop_pages = refl

-- ---- blocks

-- example: two arrays of 600 words each. By the rule for costs, the program needs two pages plus one for the heap; the run needs two pages
abbrev arrays : Program
arrays = program (execute (array OnHeap fat (Number 600) (Number 0)) ∷ execute (array OnHeap fat (Number 600) (Number 0)) ∷ return (Number 0) ∷ [])

arrays_pages : most_pages false (cost_by arrays 1) ≡ 3
arrays_pages = refl

-- example: the cost of two branches is that of the costlier branch
abbrev branches : Program
branches = program (Execute (If (Number 1) (Evaluate (new AsUnique at (Number 1))) (block [])) ∷ return (Number 0) ∷ [])

branches_pages : most_pages false (cost_by branches 1) ≡ 2
branches_pages = refl

branches_ask : demand (run branches [] 12) ≡ 2
branches_ask = refl

-- ---- lexical regions

-- The cost of a program's costliest outermost region; in this example, `main` calls each function directly or indirectly.
abbrev greatest : List ℕ → ℕ
greatest [] = 0
greatest (n ∷ ns) = max n (greatest ns)

abbrev at_once_by : Program → (rounds : ℕ) → Measure → ℕ
at_once_by program rounds m = greatest (map (λ (h : Function). items_at_once m (costs_after program m rounds) h.body) program.functions)

-- the cost of regions that are open at the same time, after the given number of rounds
abbrev back_by : Program → (rounds : ℕ) → Measure → ℕ
back_by program rounds measures.Openings = at_once_by program rounds measures.Openings
back_by program rounds measures.RegionBlocks = at_once_by program rounds measures.RegionBlocks
back_by program rounds measures.RegionWords = at_once_by program rounds measures.RegionWords
back_by program rounds m = cost_by program rounds m

-- the statement `rnew(h) 7`, where h is the region handle stored in the local with the given index
abbrev made_by : ℕ → Item
made_by number = execute (new (ByHandle (variable number (Handle Heap))) at (Number 7))

-- { region<`a> h; rnew(h) 7; rnew(h) 7; }
abbrev in_a_region : Statement
in_a_region = block (DeclareRegion 2 0 ∷ made_by 0 ∷ made_by 0 ∷ [])

-- while (1) { region<`a> h; rnew(h) 7; rnew(h) 7; } return 0;
abbrev region_each_turn : Program
region_each_turn = program (while (Number 1) in_a_region ∷ return (Number 0) ∷ [])

-- example: no allocation outlasts the region that a loop opens and closes, and each iteration needs one page besides the heap's page
each_turn_gives_back : cost_by region_each_turn 1 measures.Lasting ≡ 0
each_turn_gives_back = refl

each_turn_pages : most_pages true (back_by region_each_turn 1) ≡ 2
each_turn_pages = refl

-- example: if the blocks of closed regions are not subtracted, the program's blocks have no bound
each_turn_blocks : cost_by region_each_turn 1 measures.Blocks ≡ too_many
each_turn_blocks = refl

each_turn_asks : demand (run region_each_turn [] 20) ≡ 2
each_turn_asks = refl

-- example: the value `heap_region`, followed by a loop that opens a region and allocates in it; the heap's handle may reach any `rnew`
abbrev heap_handle : Program
heap_handle = program (execute HeapRegion ∷ while (Number 1) in_a_region ∷ return (Number 0) ∷ [])

heap_handle_lasts : cost_by heap_handle 1 measures.Lasting ≡ 1
heap_handle_lasts = refl

heap_handle_blocks : cost_by heap_handle 1 measures.Blocks ≡ too_many
heap_handle_blocks = refl

-- while (1) { region<`a> h; rnew(h) 7; { region<`b> k; rnew(k) 7; } } return 0; Example: the costs of an inner region, one page and one
-- block, are added to those of the outer region, which is open at the same time.
abbrev nested : Program
nested = program (while (Number 1) (block (DeclareRegion 2 0 ∷ made_by 0 ∷ Execute (block (DeclareRegion 3 1 ∷ made_by 1 ∷ [])) ∷ [])) ∷ return (Number 0) ∷ [])

nested_openings : at_once_by nested 1 measures.Openings ≡ 2
nested_openings = refl

nested_blocks : at_once_by nested 1 measures.RegionBlocks ≡ 2
nested_blocks = refl

nested_pages : most_pages true (back_by nested 1) ≡ 3
nested_pages = refl

-- example: a loop calls a function that opens a region of its own
abbrev opened_by_callee : Program
opened_by_callee = program_with (function [] (DeclareRegion 2 0 ∷ made_by 0 ∷ return (Number 7) ∷ []) ∷ []) (while (Number 1) (Evaluate (call 1 [])) ∷ return (Number 0) ∷ [])

callee_pages : most_pages true (back_by opened_by_callee 2) ≡ 2
callee_pages = refl

-- example: a function is called inside a region and opens another region, so both regions are open at the same time
abbrev called_in_region : Program
called_in_region = program_with (function [] (DeclareRegion 2 0 ∷ made_by 0 ∷ return (Number 7) ∷ []) ∷ []) (while (Number 1) (block (DeclareRegion 2 0 ∷ execute (call 1 []) ∷ made_by 0 ∷ [])) ∷ return (Number 0) ∷ [])

called_openings : at_once_by called_in_region 2 measures.Openings ≡ 2
called_openings = refl

called_blocks : at_once_by called_in_region 2 measures.RegionBlocks ≡ 2
called_blocks = refl

-- example: if two regions are never open at the same time, only the costlier one counts
abbrev in_turn : Program
in_turn = program (Execute in_a_region ∷ Execute (block (DeclareRegion 2 0 ∷ made_by 0 ∷ [])) ∷ return (Number 0) ∷ [])

in_turn_blocks : at_once_by in_turn 1 measures.RegionBlocks ≡ 2
in_turn_blocks = refl

-- example: a loop inside a region has no bound if its iterations allocate in the region
abbrev loop_in_region : Program
loop_in_region = program (Execute (block (DeclareRegion 2 0 ∷ while (Number 1) (block (made_by 0 ∷ [])) ∷ [])) ∷ return (Number 0) ∷ [])

loop_in_region_blocks : at_once_by loop_in_region 1 measures.RegionBlocks ≡ too_many
loop_in_region_blocks = refl

-- example: a `try` statement inside a region; the blocks that the `try` body allocated remain allocated when a catch
-- clause allocates more blocks
abbrev try_in_region : Program
try_in_region = program (Execute (block (DeclareRegion 2 0 ∷ try_to (block (made_by 0 ∷ [])) (otherwise (made_by 0 ∷ [])) ∷ [])) ∷ return (Number 0) ∷ [])

try_in_region_blocks : at_once_by try_in_region 1 measures.RegionBlocks ≡ 2
try_in_region_blocks = refl

-- Example: a function that opens a region, and calls itself after the region's end. The regions of this recursive function are never open
-- at the same time, but only the greatest countable value is large enough as the function's cost.
abbrev again_after : Program
again_after = program_with (function [] (Execute in_a_region ∷ return (call 1 []) ∷ []) ∷ []) (return (call 1 []) ∷ [])

after_is_enough : next_costs again_after measures.RegionBlocks (too_many ∷ too_many ∷ []) ≡ too_many ∷ too_many ∷ []
after_is_enough = refl

after_blocks : greatest (map (λ (h : Function). items_at_once measures.RegionBlocks (too_many ∷ too_many ∷ []) h.body) again_after.functions) ≡ 2
after_blocks = refl
