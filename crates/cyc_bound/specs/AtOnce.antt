-- The cost of lexical regions that are open at the same time. The cost is counted for each outermost region, from its declaration to the
-- end of its block. A region is outermost if it is declared while no other region is open. The costs of everything opened and allocated in
-- an outermost region add up, including the costs of functions called in the region. No cost is subtracted before the end of the outermost
-- region. The end of an outermost region frees everything opened and allocated in it. Of two outermost regions only the costlier one
-- counts, and a loop costs as much as one iteration, because an outermost region's end frees everything in it. The way in which the cost
-- of open regions is counted is this project's own choice.
use Rattle.std.specs.Prelude.{◌≡◌, ◌≤◌, ◌⊎◌, ℕ, min, max, List, Option, Some, None, slice_get}
use Rattle.cyc_types.specs.TypedTrees.{Statement, Block, If, While, Try, Items, NoItems, MoreItems, Execute, DeclareRegion, Clauses, NoClauses, Default, Case, Function, Program}
use Rattle.cyc_bound.specs.declared.costs.Measure.{Measure}
use Rattle.cyc_bound.specs.Bound.{Row}
use Rattle.cyc_bound.specs.Costs.{too_many, items_cost, Below, IsClosed, StillGrow}

abbrev mutual
  -- the cost of the costliest outermost region among those that a statement declares
  pub statement_at_once : Measure → (costs : List ℕ) → Statement → ℕ
  statement_at_once m costs (Block r js) = items_at_once m costs js
  statement_at_once m costs (If a s t) = max (statement_at_once m costs s) (statement_at_once m costs t)
  statement_at_once m costs (While p a s) = statement_at_once m costs s
  statement_at_once m costs (Try s cs) = max (statement_at_once m costs s) (clauses_at_once m costs cs)
  statement_at_once m costs s = 0

  -- the cost of the costliest outermost region of a block's declarations and statements; a region is open to the end of its block, so its
  -- cost includes all later declarations and statements of the block
  pub items_at_once : Measure → (costs : List ℕ) → Items → ℕ
  items_at_once m costs NoItems = 0
  items_at_once m costs (MoreItems (Execute s) js) = max (statement_at_once m costs s) (items_at_once m costs js)
  items_at_once m costs (MoreItems (DeclareRegion r n) js) = items_cost m costs (MoreItems (DeclareRegion r n) js)
  items_at_once m costs (MoreItems j js) = items_at_once m costs js

  pub clauses_at_once : Measure → (costs : List ℕ) → Clauses → ℕ
  clauses_at_once m costs NoClauses = 0
  clauses_at_once m costs (Default r js) = items_at_once m costs js
  clauses_at_once m costs (Case e n r js cs) = max (items_at_once m costs js) (clauses_at_once m costs cs)

abbrev pub at_once_of : Measure → (costs : List ℕ) → Option Function → ℕ
at_once_of m costs None = 0
at_once_of m costs (Some h) = items_at_once m costs h.body

-- Says that the costs of functions called in regions are sufficient. The costs of functions are the least costs that suffice for all
-- functions, or any sufficient costs if the least ones still grow after all rounds. A function that calls itself inside a region has no
-- bound, but a function that calls itself after the region's end may have one.
abbrev pub AreEnough : Program → Measure → (costs : List ℕ) → Type 0
AreEnough program m costs = IsClosed program m costs × (((others : List ℕ) → IsClosed program m others → Below costs others) ⊎ StillGrow program m)

-- says that no outermost region of a function reachable from `main` costs more than `cost`, and that some region costs exactly
-- `cost`, if any region exists
abbrev pub IsAtOnce : Program → Measure → ℕ → Type 0
IsAtOnce program m cost =
    (costs : List ℕ) × AreEnough program m costs
    × ((f count : ℕ) → Row program program.main f count → min too_many (at_once_of m costs (slice_get program.functions f)) ≤ cost)
    × ((cost ≡ 0) ⊎ ((f : ℕ) × (count : ℕ) × Row program program.main f count × (cost ≡ min too_many (at_once_of m costs (slice_get program.functions f)))))
