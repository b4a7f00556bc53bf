-- If the costs of functions increase, the cost of no caller decreases.
use Rattle.std.proofs.Common.{ℕ, zero, suc, ◌+◌, ◌≤◌, min, List, [], ◌∷◌, Option, Some, None, arith, mul-le-mul_left}
use Rattle.std.specs.Prelude.{map}
use Rattle.cyc_types.specs.declared.typed.Kind.{Kind}
use Rattle.cyc_types.specs.declared.typed.Callee.{Callee}
use Rattle.cyc_types.specs.declared.typed.Callee.TheVariants as callees
use Rattle.cyc_types.specs.TypedTrees.{Expression, Number, NullPointer, HeapRegion, Counter, Copy, Move, Peek, Load, AddressOf, AddressOfCell, NumberOfElements, FreeUnique, FreeKey, Call, Unary, Binary, Assign, Store}
use Rattle.cyc_types.specs.TypedTrees.{New, Dereference, Target, Member, Element, Placement, OnHeap, AsUnique, ByHandle, Initial, Plain, Fields, Array, Converted, Convert, Arguments, NoArguments, MoreArguments}
use Rattle.cyc_types.specs.TypedTrees.{Operations, NoOperations, ThenCompute, ThenTest, ThenPointer, ThenPointerPeek, Side, VariableSide, CellSide, Statement, Block, Empty, Evaluate, Swap, If, While, Return, Break}
use Rattle.cyc_types.specs.TypedTrees.{Continue, Throw, Try, Item, Items, NoItems, MoreItems, Execute, Declare, DeclareRegion, OpenRegion, DeclareAlias, DeclareKey, Clauses, NoClauses, Default, Case, Function, Program}
use Rattle.cyc_meaning.specs.Values.{following}
use Rattle.cyc_bound.specs.declared.costs.Measure.{Measure}
use Rattle.cyc_bound.specs.declared.costs.Site.{Site}
use Rattle.cyc_bound.specs.Costs.{too_many, step_cost, most_elements, elements_cost, array_cost, callee_cost, expression_cost, site_of, written_length, place_cost, placement_cost, initial_cost, fields_cost, converted_cost}
use Rattle.cyc_bound.specs.Costs.{arguments_cost, operations_cost, value_cost, thrown_cost, side_cost, loop_cost, caught_cost, statement_cost, item_cost, items_cost, clauses_cost, function_cost, next_costs, Below}

loop_more : (m n : ℕ) → m ≤ n → loop_cost m ≤ loop_cost n
loop_more zero n less = omega arith
loop_more (suc m) zero less = absurd (omega (arith, less))
loop_more (suc m) (suc n) less = omega arith

caught_more : (m : Measure) (number : Option ℕ) (items others : ℕ) → items ≤ others → caught_cost m number items ≤ caught_cost m number others
caught_more m None items others less = omega (arith, less)
caught_more m (Some number) items others less = omega (arith, less)

elements_more : (m : Measure) (element other count : ℕ) → element ≤ other → elements_cost m element count ≤ elements_cost m other count
elements_more m element other count less =
    let turn : step_cost m + element ≤ step_cost m + other = omega (arith, less) in
    omega (arith, mul-le-mul_left count turn)

array_more : (m : Measure) (site : Site) (kind : Kind) (element other : ℕ) (n : Option ℕ) → element ≤ other → array_cost m site kind element n ≤ array_cost m site kind other n
array_more m site kind element other None less = omega (arith, elements_more m element other (most_elements kind) less)
array_more m site kind element other (Some n) less = omega (arith, elements_more m element other (min n (most_elements kind)) less)

module _ (m : Measure) (costs others : List ℕ) (below : Below costs others) where
  callee_more : (callee : Callee) → callee_cost m costs callee ≤ callee_cost m others callee
  callee_more callees.Putchar = omega arith
  callee_more callees.Getchar = omega arith
  callee_more (callees.Function number) = omega (arith, below number)

  mutual
    expression_more : (a : Expression) → expression_cost m costs a ≤ expression_cost m others a
    expression_more (Number n) = omega arith
    expression_more NullPointer = omega arith
    expression_more HeapRegion = omega arith
    expression_more (Counter level) = omega arith
    expression_more (Copy place t) = omega arith
    expression_more (Move p number t) = omega arith
    expression_more (Peek p number t) = omega arith
    expression_more (Load d) = omega (arith, place_more d)
    expression_more (AddressOf place t) = omega arith
    expression_more (AddressOfCell d t) = omega (arith, place_more d)
    expression_more (NumberOfElements a) = omega (arith, expression_more a)
    expression_more (FreeUnique a) = omega (arith, expression_more a)
    expression_more (FreeKey a) = omega (arith, expression_more a)
    expression_more (Call callee cs t) = omega (arith, arguments_more cs, callee_more callee)
    expression_more (Unary operator a) = omega (arith, expression_more a)
    expression_more (Binary a rest t) = omega (arith, expression_more a, operations_more rest)
    expression_more (Assign place c t) = omega (arith, converted_more c)
    expression_more (Store d c t) = omega (arith, place_more d, converted_more c)
    expression_more (New placement initial t) = omega (arith, placement_more placement, initial_more (site_of placement) initial)

    place_more : (d : Dereference) → place_cost m costs d ≤ place_cost m others d
    place_more (Target pointer a t) = omega (arith, expression_more a)
    place_more (Member pointer a s field t) = omega (arith, expression_more a)
    place_more (Element a i t) = omega (arith, expression_more a, expression_more i)

    placement_more : (placement : Placement) → placement_cost m costs placement ≤ placement_cost m others placement
    placement_more OnHeap = omega arith
    placement_more AsUnique = omega arith
    placement_more (ByHandle a) = omega (arith, expression_more a)

    initial_more : (site : Site) (initial : Initial) → initial_cost m costs site initial ≤ initial_cost m others site initial
    initial_more site (Plain kind a) = omega (arith, expression_more a)
    initial_more site (Fields cs) = fields_more site 0 0 cs
    initial_more site (Array place level n kind a) =
        omega (arith, expression_more n, array_more m site kind (expression_cost m costs a) (expression_cost m others a) (written_length n) (expression_more a))

    fields_more : (site : Site) (count bytes : ℕ) (cs : Arguments) → fields_cost m costs site count bytes cs ≤ fields_cost m others site count bytes cs
    fields_more site count bytes NoArguments = omega arith
    fields_more site count bytes (MoreArguments (Convert from to a) cs) = omega (arith, expression_more a, fields_more site (suc count) (following to bytes) cs)

    converted_more : (c : Converted) → converted_cost m costs c ≤ converted_cost m others c
    converted_more (Convert from to a) = omega (arith, expression_more a)

    arguments_more : (cs : Arguments) → arguments_cost m costs cs ≤ arguments_cost m others cs
    arguments_more NoArguments = omega arith
    arguments_more (MoreArguments c cs) = omega (arith, converted_more c, arguments_more cs)

    operations_more : (rest : Operations) → operations_cost m costs rest ≤ operations_cost m others rest
    operations_more NoOperations = omega arith
    operations_more (ThenCompute operator a rest) = omega (arith, expression_more a, operations_more rest)
    operations_more (ThenTest operator a rest) = omega (arith, expression_more a, operations_more rest)
    operations_more (ThenPointer operator a rest) = omega (arith, expression_more a, operations_more rest)
    operations_more (ThenPointerPeek number operator a rest) = omega (arith, expression_more a, operations_more rest)

  value_more : (o : Option Converted) → value_cost m costs o ≤ value_cost m others o
  value_more None = omega arith
  value_more (Some c) = omega (arith, converted_more c)

  thrown_more : (o : Option Expression) → thrown_cost m costs o ≤ thrown_cost m others o
  thrown_more None = omega arith
  thrown_more (Some a) = expression_more a

  side_more : (side : Side) → side_cost m costs side ≤ side_cost m others side
  side_more (VariableSide place t) = omega arith
  side_more (CellSide d) = place_more d

  mutual
    statement_more : (s : Statement) → statement_cost m costs s ≤ statement_cost m others s
    statement_more (Block region items) = omega (arith, items_more items)
    statement_more Empty = omega arith
    statement_more (Evaluate a) = omega (arith, expression_more a)
    statement_more (Swap a b) = omega (arith, side_more a, side_more b)
    statement_more (If a s t) = omega (arith, expression_more a, statement_more s, statement_more t)
    statement_more (While place a s) =
        loop_more (step_cost m + (expression_cost m costs a + statement_cost m costs s)) (step_cost m + (expression_cost m others a + statement_cost m others s)) (omega (arith, expression_more a, statement_more s))
    statement_more (Return value) = omega (arith, value_more value)
    statement_more Break = omega arith
    statement_more Continue = omega arith
    statement_more (Throw tag value) = omega (arith, thrown_more value)
    statement_more (Try s clauses) = omega (arith, statement_more s, clauses_more clauses)

    item_more : (item : Item) → item_cost m costs item ≤ item_cost m others item
    item_more (Execute s) = statement_more s
    item_more (Declare number t value) = omega (arith, value_more value)
    item_more (DeclareRegion region number) = omega arith
    item_more (OpenRegion region number p key) = omega arith
    item_more (DeclareAlias region number t p source) = omega arith
    item_more (DeclareKey region number) = omega arith

    items_more : (items : Items) → items_cost m costs items ≤ items_cost m others items
    items_more NoItems = omega arith
    items_more (MoreItems item items) = omega (arith, item_more item, items_more items)

    clauses_more : (clauses : Clauses) → clauses_cost m costs clauses ≤ clauses_cost m others clauses
    clauses_more NoClauses = omega arith
    clauses_more (Default region items) = omega (arith, items_more items)
    clauses_more (Case tag number region items later) =
        omega (arith, caught_more m number (items_cost m costs items) (items_cost m others items) (items_more items), clauses_more later)

  function_more : (h : Function) → function_cost m costs h ≤ function_cost m others h
  function_more h = omega (arith, items_more h.body)

  functions_more : (hs : List Function) → Below (map (λ (h : Function). min too_many (function_cost m costs h)) hs) (map (λ (h : Function). min too_many (function_cost m others h)) hs)
  functions_more [] f = omega arith
  functions_more (h ∷ hs) zero = omega (arith, function_more h)
  functions_more (h ∷ hs) (suc f) = functions_more hs f

  pub next_more : (program : Program) → Below (next_costs program m costs) (next_costs program m others)
  next_more program = functions_more program.functions
