-- The costs of the elements of the lists in typed trees (such as the statements of a block), which the code visits element by
-- element. This file also defines the costs found for the size classes of unique blocks.
use Rattle.std.specs.Prelude.{◌≡◌, ◌<◌, ◌≤◌, ℕ, suc, ◌+◌, ◌*◌, ◌^◌, max, List, [], ◌∷◌}
use Rattle.cyc_words.specs.Demand.{greatest_class}
use Rattle.cyc_types.specs.TypedTrees.{Program}
use Rattle.cyc_types.specs.declared.typed.Operation.{Operation}
use Rattle.cyc_types.specs.declared.typed.Operation.TheVariants as operation
use Rattle.cyc_types.specs.declared.typed.Clause.{Clause}
use Rattle.cyc_types.specs.TypedTreeView.{view_expression, items_of}
use Rattle.cyc_bound.specs.declared.costs.Measure.{Measure}
use Rattle.cyc_bound.specs.declared.costs.Measure.TheVariants as measures
use Rattle.cyc_bound.specs.declared.pages.PageBound.{PageBound}
use Rattle.cyc_bound.specs.declared.pages.PageBound.TheVariants as bounds
use Rattle.cyc_bound.specs.Costs.{too_many, step_cost, expression_cost, caught_cost, items_cost, IsRunCost, StillGrow}
use Rattle.cyc_bound.specs.Pages.{unique_pages}

-- the cost of one operator in a chain such as `a + b - c`, with the operator's right operand
abbrev pub operation_cost : Measure → (costs : List ℕ) → Operation → ℕ
operation_cost m costs (operation.Compute w o e) = expression_cost m costs (view_expression e) + step_cost m
operation_cost m costs (operation.Test o e) = expression_cost m costs (view_expression e) + step_cost m
operation_cost m costs (operation.Pointer o e) = expression_cost m costs (view_expression e) + step_cost m
operation_cost m costs (operation.PointerPeek n o e) = expression_cost m costs (view_expression e) + step_cost m

-- the cost of catch clauses that are tried one after another, from the cost of the execution that follows the last clause
abbrev pub clauses_then : Measure → (costs : List ℕ) → List Clause → (last : ℕ) → ℕ
clauses_then m costs [] last = last
clauses_then m costs (c ∷ cs) last = step_cost m + max (caught_cost m c.number (items_cost m costs (items_of c.items.items))) (clauses_then m costs cs last)

-- Says that `pages` is the number of pages for the unique blocks of size classes below `class`.
-- Says also that the costs of these classes are below the greatest counted value.
abbrev pub AreUniquesSoFar : Program → (cost : Measure → ℕ) → (class pages : ℕ) → Type 0
AreUniquesSoFar program cost class pages =
    (pages ≡ unique_pages cost class) × ((pages ≤ class * 2 ^ 51) × ((other : ℕ) → other < class → IsRunCost program (measures.Uniques other) (cost (measures.Uniques other)) × (cost (measures.Uniques other) < too_many)))

abbrev pub UniquesSoFar : Program → (class pages : ℕ) → Type 0
UniquesSoFar program class pages = (cost : Measure → ℕ) × AreUniquesSoFar program cost class pages

-- says that the result is the number of pages for the unique blocks of all size classes, or the reason why there is no bound on these pages
abbrev pub IsUniqueAnswer : Program → PageBound → Type 0
IsUniqueAnswer program (bounds.Pages pages) = UniquesSoFar program (suc greatest_class) pages
IsUniqueAnswer program bounds.TooMany = (class : ℕ) × (class ≤ greatest_class) × IsRunCost program (measures.Uniques class) too_many
IsUniqueAnswer program bounds.Cycle = (class : ℕ) × (class ≤ greatest_class) × StillGrow program (measures.Uniques class)
