-- Upper bounds on the costs of a run, computed from a typed tree. A cost is the number of steps, or of regions or blocks of one
-- kind. The costs of subtrees that are executed one after another are added. Of two alternative subtrees (such as the branches of
-- an `if`) the greater cost counts. The cost of an array's element counts once for each possible evaluation. A loop that costs
-- anything has no bound; its cost is the greatest counted value. The definition of these costs is this project's own choice.
use Rattle.std.specs.Prelude.{◌≡◌, ◌<◌, ◌≤◌, ℕ, zero, suc, ◌+◌, ◌*◌, ◌^◌, ◌==◌, if◌then◌else◌, min, max, List, [], map, length, Option, None, Some, get_or}
use Rattle.cyc_words.specs.Demand.{class_of}
use Rattle.cyc_types.specs.declared.typed.Kind.{Kind}
use Rattle.cyc_types.specs.declared.typed.Kind.TheVariants as kinds
use Rattle.cyc_types.specs.declared.typed.Callee.{Callee}
use Rattle.cyc_types.specs.declared.typed.Callee.TheVariants as callees
use Rattle.cyc_types.specs.TypedTrees.{Expression, Number, HeapRegion, Load, AddressOfCell, NumberOfElements, FreeUnique, FreeKey, Call, Unary, Binary, Assign, Store, New, Dereference, Target, Member, Element, Placement, OnHeap, AsUnique, ByHandle}
use Rattle.cyc_types.specs.TypedTrees.{Initial, Plain, Fields, Array, Converted, Convert, Arguments, NoArguments, MoreArguments, Operations, NoOperations, ThenCompute, ThenTest, ThenPointer, ThenPointerPeek, Side, VariableSide, CellSide, Statement}
use Rattle.cyc_types.specs.TypedTrees.{Block, Evaluate, Swap, If, While, Return, Throw, Try, Item, Items, NoItems, MoreItems, Execute, Declare, DeclareRegion, OpenRegion, DeclareAlias, DeclareKey, Clauses, NoClauses, Default, Case, Function, Program}
use Rattle.cyc_meaning.specs.Values.{bytes_of_kind, following, words_for}
use Rattle.cyc_meaning.specs.Allocation.{most_words}
use Rattle.cyc_bound.specs.declared.costs.Measure.{Measure}
use Rattle.cyc_bound.specs.declared.costs.Measure.TheVariants as measures
use Rattle.cyc_bound.specs.declared.costs.Site.{Site}
use Rattle.cyc_bound.specs.declared.costs.Site.TheVariants as sites
use Rattle.cyc_bound.specs.declared.steps.StepBound.{StepBound}
use Rattle.cyc_bound.specs.declared.steps.StepBound.TheVariants as bounds

-- the greatest value that a computed cost can have; every greater cost is replaced by this value
abbrev pub too_many : ℕ
too_many = 2 ^ 50

-- ---- unit costs

-- the cost of one step of a run
abbrev pub step_cost : Measure → ℕ
step_cost measures.Steps = 1
step_cost m = 0

-- the cost of opening a region that has pages: the heap, or a region that a program declares
abbrev pub opening_cost : Measure → ℕ
opening_cost measures.Openings = 1
opening_cost m = 0

-- the cost of a thing that may outlast every lexical region: a handle of the heap used as a value, or a dynamic region
abbrev pub lasting_cost : Measure → ℕ
lasting_cost measures.Lasting = 1
lasting_cost m = 0

-- the cost of a block of `size` words, by its allocation site: on the heap, by a handle, or as a unique object
abbrev pub block_cost : Measure → Site → (size : ℕ) → ℕ
block_cost measures.Blocks sites.Heap size = 1
block_cost measures.Blocks sites.Region size = 1
block_cost measures.Words sites.Heap size = size
block_cost measures.Words sites.Region size = size
block_cost measures.HeapBlocks sites.Heap size = 1
block_cost measures.HeapWords sites.Heap size = size
block_cost measures.RegionBlocks sites.Region size = 1
block_cost measures.RegionWords sites.Region size = size
block_cost (measures.Uniques class) sites.Unique size = if class_of size == class then 1 else 0
block_cost m site size = 0

-- the cost of the block of an array with unknown length
abbrev pub array_block_cost : Measure → Site → ℕ
array_block_cost measures.Blocks sites.Heap = 1
array_block_cost measures.Blocks sites.Region = 1
array_block_cost measures.Words sites.Heap = most_words
array_block_cost measures.Words sites.Region = most_words
array_block_cost measures.HeapBlocks sites.Heap = 1
array_block_cost measures.HeapWords sites.Heap = most_words
array_block_cost measures.RegionBlocks sites.Region = 1
array_block_cost measures.RegionWords sites.Region = most_words
array_block_cost (measures.Uniques class) sites.Unique = 1
array_block_cost m site = 0

-- ---- new objects

-- the number of words of an object with the given number of bytes
abbrev pub size_of_bytes : ℕ → ℕ
size_of_bytes bytes = max 1 (words_for bytes)

-- the largest number of elements of the given representation kind (int, char, pointer, ..) in an array
abbrev pub most_elements : Kind → ℕ
most_elements kinds.Char = 4000
most_elements kinds.Fat = 333
most_elements kind = 1000

-- the length of an array, if the program writes the length as a number
abbrev pub written_length : Expression → Option ℕ
written_length (Number n) = Some n
written_length a = None

-- the allocation site of a new object, as its `Placement` states: the heap, the region of a handle, or no region for a unique object
abbrev pub site_of : Placement → Site
site_of OnHeap = sites.Heap
site_of AsUnique = sites.Unique
site_of (ByHandle a) = sites.Region

-- The cost of allocating a memory cell: the cost of its block, plus three steps for the allocation, the first write
-- and passing on the pointer.
abbrev pub plain_cost : Measure → Site → Kind → ℕ
plain_cost m site kind = 3 * step_cost m + block_cost m site (size_of_bytes (following kind 0))

-- the cost of allocating a struct and writing its fields, from the number of fields and of bytes
abbrev pub fields_made_cost : Measure → Site → (count bytes : ℕ) → ℕ
fields_made_cost m site count bytes = count * step_cost m + (2 * step_cost m + block_cost m site (size_of_bytes bytes))

-- the cost of evaluating `count` array elements, each of which costs `element`
abbrev pub elements_cost : Measure → (element count : ℕ) → ℕ
elements_cost m element count = count * (step_cost m + element) + 3 * step_cost m

abbrev pub array_cost : Measure → Site → Kind → (element : ℕ) → Option ℕ → ℕ
array_cost m site kind element None = elements_cost m element (most_elements kind) + array_block_cost m site
array_cost m site kind element (Some n) =
    elements_cost m element (min n (most_elements kind)) + block_cost m site (size_of_bytes (min n (most_elements kind) * bytes_of_kind kind))

-- ---- expressions

-- the cost of a call after its arguments are evaluated, from the costs of functions
abbrev pub callee_cost : Measure → (costs : List ℕ) → Callee → ℕ
callee_cost m costs (callees.Function number) = 2 * step_cost m + get_or costs number 0
callee_cost m costs service = 2 * step_cost m

abbrev mutual
  pub expression_cost : Measure → (costs : List ℕ) → Expression → ℕ
  expression_cost m costs HeapRegion = 2 * step_cost m + lasting_cost m
  expression_cost m costs (Load d) = 2 * step_cost m + place_cost m costs d
  expression_cost m costs (AddressOfCell d t) = 2 * step_cost m + place_cost m costs d
  expression_cost m costs (NumberOfElements a) = 2 * step_cost m + expression_cost m costs a
  expression_cost m costs (FreeUnique a) = 2 * step_cost m + expression_cost m costs a
  expression_cost m costs (FreeKey a) = 2 * step_cost m + expression_cost m costs a
  expression_cost m costs (Call f cs t) = step_cost m + (arguments_cost m costs cs + callee_cost m costs f)
  expression_cost m costs (Unary o a) = 2 * step_cost m + expression_cost m costs a
  expression_cost m costs (Binary a os t) = 2 * step_cost m + (expression_cost m costs a + operations_cost m costs os)
  expression_cost m costs (Assign l c t) = 2 * step_cost m + converted_cost m costs c
  expression_cost m costs (Store d c t) = 2 * step_cost m + (place_cost m costs d + converted_cost m costs c)
  expression_cost m costs (New w i t) = step_cost m + (placement_cost m costs w + initial_cost m costs (site_of w) i)
  expression_cost m costs a = 2 * step_cost m

  pub place_cost : Measure → (costs : List ℕ) → Dereference → ℕ
  place_cost m costs (Target k a t) = 2 * step_cost m + expression_cost m costs a
  place_cost m costs (Member k a s f t) = 2 * step_cost m + expression_cost m costs a
  place_cost m costs (Element a i t) = 3 * step_cost m + (expression_cost m costs a + expression_cost m costs i)

  -- the cost of evaluating the handle of `rnew`, and of dropping the handle after the allocation
  pub placement_cost : Measure → (costs : List ℕ) → Placement → ℕ
  placement_cost m costs OnHeap = 0
  placement_cost m costs AsUnique = 0
  placement_cost m costs (ByHandle a) = expression_cost m costs a + step_cost m

  pub initial_cost : Measure → (costs : List ℕ) → Site → Initial → ℕ
  initial_cost m costs site (Plain k a) = expression_cost m costs a + plain_cost m site k
  initial_cost m costs site (Fields cs) = fields_cost m costs site 0 0 cs
  initial_cost m costs site (Array p l n k a) =
      expression_cost m costs n + array_cost m site k (expression_cost m costs a) (written_length n)

  -- the cost of the remaining fields of a struct, after `count` fields with the given number of bytes
  pub fields_cost : Measure → (costs : List ℕ) → Site → (count bytes : ℕ) → Arguments → ℕ
  fields_cost m costs site count bytes NoArguments = fields_made_cost m site count bytes
  fields_cost m costs site count bytes (MoreArguments (Convert from to a) cs) =
      expression_cost m costs a + step_cost m + fields_cost m costs site (suc count) (following to bytes) cs

  -- the cost of evaluating and converting an expression
  pub converted_cost : Measure → (costs : List ℕ) → Converted → ℕ
  converted_cost m costs (Convert from to a) = expression_cost m costs a + step_cost m

  pub arguments_cost : Measure → (costs : List ℕ) → Arguments → ℕ
  arguments_cost m costs NoArguments = 0
  arguments_cost m costs (MoreArguments c cs) = converted_cost m costs c + arguments_cost m costs cs

  pub operations_cost : Measure → (costs : List ℕ) → Operations → ℕ
  operations_cost m costs NoOperations = 0
  operations_cost m costs (ThenCompute o a os) = expression_cost m costs a + step_cost m + operations_cost m costs os
  operations_cost m costs (ThenTest o a os) = expression_cost m costs a + step_cost m + operations_cost m costs os
  operations_cost m costs (ThenPointer o a os) = expression_cost m costs a + step_cost m + operations_cost m costs os
  operations_cost m costs (ThenPointerPeek n o a os) = expression_cost m costs a + step_cost m + operations_cost m costs os

-- ---- statements

-- the cost of an optional expression, such as an initial value; a missing expression costs nothing
abbrev pub value_cost : Measure → (costs : List ℕ) → Option Converted → ℕ
value_cost m costs None = 0
value_cost m costs (Some c) = converted_cost m costs c

abbrev pub thrown_cost : Measure → (costs : List ℕ) → Option Expression → ℕ
thrown_cost m costs None = 0
thrown_cost m costs (Some a) = expression_cost m costs a

abbrev pub side_cost : Measure → (costs : List ℕ) → Side → ℕ
side_cost m costs (VariableSide l t) = 0
side_cost m costs (CellSide d) = place_cost m costs d

-- the cost of any number of iterations of a loop, from the cost of one iteration
abbrev pub loop_cost : ℕ → ℕ
loop_cost zero = 0
loop_cost (suc turn) = too_many

-- the cost of the body of a catch clause, with the declaration of the local that receives the exception's int
abbrev pub caught_cost : Measure → Option ℕ → (items : ℕ) → ℕ
caught_cost m None items = 2 * step_cost m + items
caught_cost m (Some number) items = 3 * step_cost m + items

abbrev mutual
  pub statement_cost : Measure → (costs : List ℕ) → Statement → ℕ
  statement_cost m costs (Block r js) = 3 * step_cost m + items_cost m costs js
  statement_cost m costs (Evaluate a) = 2 * step_cost m + expression_cost m costs a
  statement_cost m costs (Swap a b) = 7 * step_cost m + (side_cost m costs a + side_cost m costs b)
  statement_cost m costs (If a s t) = 2 * step_cost m + (expression_cost m costs a + max (statement_cost m costs s) (statement_cost m costs t))
  statement_cost m costs (While p a s) = loop_cost (step_cost m + (expression_cost m costs a + statement_cost m costs s))
  statement_cost m costs (Return v) = 2 * step_cost m + value_cost m costs v
  statement_cost m costs (Throw n v) = 2 * step_cost m + thrown_cost m costs v
  statement_cost m costs (Try s cs) = step_cost m + (statement_cost m costs s + clauses_cost m costs cs)
  statement_cost m costs s = 2 * step_cost m

  -- the cost of one declaration or statement of a block
  pub item_cost : Measure → (costs : List ℕ) → Item → ℕ
  item_cost m costs (Execute s) = statement_cost m costs s
  item_cost m costs (Declare n t v) = step_cost m + value_cost m costs v
  item_cost m costs (DeclareRegion r n) = 3 * step_cost m + opening_cost m
  item_cost m costs (OpenRegion r n p k) = 4 * step_cost m
  item_cost m costs (DeclareAlias r n t p l) = 4 * step_cost m
  item_cost m costs (DeclareKey r n) = 2 * step_cost m + (opening_cost m + lasting_cost m)

  pub items_cost : Measure → (costs : List ℕ) → Items → ℕ
  items_cost m costs NoItems = step_cost m
  items_cost m costs (MoreItems j js) = item_cost m costs j + items_cost m costs js

  -- the cost of the clauses of a catch, which are tried one after another
  pub clauses_cost : Measure → (costs : List ℕ) → Clauses → ℕ
  clauses_cost m costs NoClauses = 2 * step_cost m
  clauses_cost m costs (Default r js) = caught_cost m None (step_cost m + items_cost m costs js)
  clauses_cost m costs (Case e n r js cs) = step_cost m + max (caught_cost m n (items_cost m costs js)) (clauses_cost m costs cs)

-- ---- functions

-- the cost of a call of a function, from the opening of the function's region on
abbrev pub function_cost : Measure → (costs : List ℕ) → Function → ℕ
function_cost m costs h = length h.parameters * step_cost m + (4 * step_cost m + items_cost m costs h.body)

-- the costs of functions computed from their bodies and from the costs of their callees
abbrev pub next_costs : Program → Measure → (costs : List ℕ) → List ℕ
next_costs program m costs = map (λ (h : Function). min too_many (function_cost m costs h)) program.functions

-- says that the cost of each function in the first list is at most its cost in the second list
abbrev pub Below : List ℕ → List ℕ → Type 0
Below costs others = (f : ℕ) → get_or costs f 0 ≤ get_or others f 0

-- says that the cost of each function is at least the cost of its body
abbrev pub IsClosed : Program → Measure → (costs : List ℕ) → Type 0
IsClosed program m costs = Below (next_costs program m costs) costs

-- Says that costs are the costs of functions: the least costs that suffice for all function bodies, so they are unique. If functions call
-- each other in a cycle and nothing on the cycle is counted, the cycle adds no cost.
abbrev pub AreCosts : Program → Measure → (costs : List ℕ) → Type 0
AreCosts program m costs = IsClosed program m costs × ((others : List ℕ) → IsClosed program m others → Below costs others)

-- The cost of a run, computed from the costs of functions. The cost of a run includes the heap, which exists from the start, and the
-- end of the call of `main`.
abbrev pub run_cost : Program → Measure → (costs : List ℕ) → ℕ
run_cost program m costs = min too_many (step_cost m + (opening_cost m + get_or costs program.main 0))

abbrev pub IsRunCost : Program → Measure → ℕ → Type 0
IsRunCost program m cost = (costs : List ℕ) × AreCosts program m costs × (cost ≡ run_cost program m costs)

-- ---- costs without a bound

-- the costs of functions after the given number of rounds; calls nested more deeply than that number cost nothing
abbrev pub costs_after : Program → Measure → (rounds : ℕ) → List ℕ
costs_after program m zero = []
costs_after program m (suc rounds) = next_costs program m (costs_after program m rounds)

-- the number of rounds after which the search for the costs of functions stops
abbrev pub most_rounds : ℕ
most_rounds = 16

-- says that the costs of functions still grow after the last round
abbrev pub StillGrow : Program → Measure → Type 0
StillGrow program m = IsClosed program m (costs_after program m most_rounds) → ⊥

-- ---- the result for steps

-- Says that the result for steps is a number after which every run has ended, or that the computed cost is too large for a bound. A
-- third result states that functions' costs still grow after the last round.
abbrev pub IsStepAnswer : Program → StepBound → Type 0
IsStepAnswer program (bounds.Steps count) = IsRunCost program measures.Steps count × (count < too_many)
IsStepAnswer program bounds.TooMany = IsRunCost program measures.Steps too_many
IsStepAnswer program bounds.Cycle = StillGrow program measures.Steps
