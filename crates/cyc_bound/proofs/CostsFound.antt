-- The computation of costs. The costs of the first elements of a list and of its remaining elements add up to the cost of the list. The
-- fact about the costs of lists is also proved for tree nodes with lists.
use Rattle.std.proofs.Common.{◌≡◌, ℕ, zero, suc, ◌+◌, ◌*◌, ◌<◌, ◌≤◌, min, max, List, [], ◌∷◌, length, get_or, drop, Option, Some, None, refl, sym, ap, subst, ◌∙◌, arith, suc-mul}
use Rattle.std.specs.Prelude.{map}
use Rattle.std.proofs.lemmas.List.{drop_all}
use Rattle.std.specs.declared.vec.Vec.{Vec}
use Rattle.std.specs.declared.boxed.Box.{Box}
use Rattle.std.specs.declared.alloc.Global.{Global as Heap}
use Rattle.cyc_words.proofs.Lists.{drop_read}
use Rattle.cyc_types.specs.declared.ty.Ty.{Ty as TyCode}
use Rattle.cyc_types.specs.declared.typed.ValueType.{ValueType as ValueTypeCode}
use Rattle.cyc_types.specs.declared.typed.Kind.{Kind}
use Rattle.cyc_types.specs.declared.typed.Kind.TheVariants as kinds
use Rattle.cyc_types.specs.declared.typed.Callee.{Callee}
use Rattle.cyc_types.specs.declared.typed.Placement.{Placement as PlacementCode}
use Rattle.cyc_types.specs.declared.typed.Expr.{Expr}
use Rattle.cyc_types.specs.declared.typed.Expr.TheVariants as expr
use Rattle.cyc_types.specs.declared.typed.Initial.{Initial}
use Rattle.cyc_types.specs.declared.typed.Initial.TheVariants as initial
use Rattle.cyc_types.specs.declared.typed.Converted.{Converted as ConvertedCode}
use Rattle.cyc_types.specs.declared.typed.Operation.{Operation}
use Rattle.cyc_types.specs.declared.typed.Operation.TheVariants as operation
use Rattle.cyc_types.specs.declared.typed.Stmt.{Stmt}
use Rattle.cyc_types.specs.declared.typed.Stmt.TheVariants as stmt
use Rattle.cyc_types.specs.declared.typed.Item.{Item as ItemCode}
use Rattle.cyc_types.specs.declared.typed.Clause.{Clause}
use Rattle.cyc_types.specs.declared.typed.Body.{Body}
use Rattle.cyc_types.specs.declared.typed.Function.{Function as FunctionCode}
use Rattle.cyc_types.specs.TypedTrees.{Expression, Statement, Clauses, Function}
use Rattle.cyc_types.specs.TypedTrees as typed
use Rattle.cyc_types.specs.TypedTreeView.{view_expression, view_placement, view_initial, view_converted, view_statement, view_item, view_function, arguments_of, operations_of, items_of, clauses_of, default_of}
use Rattle.cyc_types.proofs.TypedTreeViewLemmas.{view_typed_call, view_typed_binary, view_typed_fields, view_block, view_typed_try}
use Rattle.cyc_meaning.specs.Values.{following}
use Rattle.cyc_bound.specs.declared.costs.Measure.{Measure}
use Rattle.cyc_bound.specs.declared.costs.Site.{Site}
use Rattle.cyc_bound.specs.Costs.{too_many, step_cost, most_elements, array_cost, loop_cost, callee_cost, expression_cost, site_of, written_length, placement_cost, initial_cost}
use Rattle.cyc_bound.specs.Costs.{fields_made_cost, fields_cost, converted_cost, arguments_cost, operations_cost, caught_cost, statement_cost, item_cost, items_cost, clauses_cost}
use Rattle.cyc_bound.specs.inside.ItemCosts.{operation_cost, clauses_then}

-- ---- lists

-- says that the sum so far plus the cost of the arguments from index i on is the cost of all arguments
abbrev pub ArgumentsLeft : Measure → (costs : List ℕ) → List ConvertedCode → (i total : ℕ) → Type 0
ArgumentsLeft m costs cs i total =
    (min too_many (total + arguments_cost m costs (arguments_of (drop i cs))) ≡ min too_many (arguments_cost m costs (arguments_of cs))) × (total ≤ too_many)

abbrev pub OperationsLeft : Measure → (costs : List ℕ) → List Operation → (i total : ℕ) → Type 0
OperationsLeft m costs os i total =
    (min too_many (total + operations_cost m costs (operations_of (drop i os))) ≡ min too_many (operations_cost m costs (operations_of os))) × (total ≤ too_many)

-- says that the sum so far plus the cost of the fields from index i on is the cost of all fields; the bytes of the fields have a bound
abbrev pub FieldsLeft : Measure → (costs : List ℕ) → Site → List ConvertedCode → (i total bytes : ℕ) → Type 0
FieldsLeft m costs site cs i total bytes =
    (min too_many (total + fields_cost m costs site i bytes (arguments_of (drop i cs))) ≡ min too_many (fields_cost m costs site 0 0 (arguments_of cs))) × (bytes ≤ 16 * i)

abbrev pub ItemsLeft : Measure → (costs : List ℕ) → List ItemCode → (i total : ℕ) → Type 0
ItemsLeft m costs js i total = min too_many (total + items_cost m costs (items_of (drop i js))) ≡ min too_many (items_cost m costs (items_of js))

-- says that the greatest catch clause cost so far and the costs of the clauses from index i on give
-- the cost of all clauses; each tried clause costs a step
abbrev pub ClausesLeft : Measure → (costs : List ℕ) → List Clause → (last i tried most : ℕ) → Type 0
ClausesLeft m costs cs last i tried most = (min too_many (max most (tried + clauses_then m costs (drop i cs) last)) ≡ min too_many (clauses_then m costs cs last)) × (most ≤ too_many)

-- ---- saturating sums

pub one_part_cost : (steps a first result whole : ℕ) → whole ≡ steps + a → first ≡ min too_many a → result ≡ min too_many (steps + first) → result ≡ min too_many whole
one_part_cost steps a first result whole is one two = omega (arith, is, one, two)

pub two_parts_cost : (steps a b first second both result whole : ℕ) → whole ≡ steps + (a + b) → first ≡ min too_many a → second ≡ min too_many b → both ≡ min too_many (first + second)
    → result ≡ min too_many (steps + both) → result ≡ min too_many whole
two_parts_cost steps a b first second both result whole is one two three four = omega (arith, is, one, two, three, four)

capped : (count step cost : ℕ) → min too_many (count * (step + min too_many cost)) ≡ min too_many (count * (step + cost))
capped zero step cost = omega arith
capped (suc count) step cost = omega (arith, capped count step cost, suc-mul count (step + min too_many cost), suc-mul count (step + cost))

array_capped : (m : Measure) (site : Site) (kind : Kind) (element : ℕ) (n : Option ℕ) → min too_many (array_cost m site kind (min too_many element) n) ≡ min too_many (array_cost m site kind element n)
array_capped m site kind element None = omega (arith, capped (most_elements kind) (step_cost m) element)
array_capped m site kind element (Some n) = omega (arith, capped (min n (most_elements kind)) (step_cost m) element)

loop_capped : (turn : ℕ) → loop_cost (min too_many turn) ≡ min too_many (loop_cost turn)
loop_capped zero = refl
loop_capped (suc turn) = go (min too_many (suc turn)) (omega arith)
  where
    go : (n : ℕ) → 0 < n → loop_cost n ≡ min too_many too_many
    go zero some = absurd (omega (arith, some))
    go (suc n) some = omega arith

-- ---- one more part

one_cost_more : (total cost next part rest whole : ℕ) → min too_many (total + (part + rest)) ≡ whole → cost ≡ min too_many part → next ≡ min too_many (total + cost) → min too_many (next + rest) ≡ whole
one_cost_more total cost next part rest whole so_far one two = omega (arith, so_far, one, two)

operation_first : (m : Measure) (costs : List ℕ) (o : Operation) (os : List Operation) → operations_cost m costs (operations_of (o ∷ os)) ≡ operation_cost m costs o + operations_cost m costs (operations_of os)
operation_first m costs (operation.Compute w operator e) os = refl
operation_first m costs (operation.Test operator e) os = refl
operation_first m costs (operation.Pointer operator e) os = refl
operation_first m costs (operation.PointerPeek n operator e) os = refl

module _ (m : Measure) (costs : List ℕ) where
  pub arguments_next : (cs : List ConvertedCode) (i total : ℕ) (c : ConvertedCode) (cost next : ℕ) → i < length cs → c ≡ get_or cs i c → ArgumentsLeft m costs cs i total
      → cost ≡ min too_many (converted_cost m costs (view_converted c)) → next ≡ min too_many (total + cost) → ArgumentsLeft m costs cs (i + 1) next
  arguments_next cs i total c cost next less at h one two =
      let first : arguments_cost m costs (arguments_of (drop i cs)) ≡ converted_cost m costs (view_converted c) + arguments_cost m costs (arguments_of (drop (i + 1) cs)) =
      ap (λ (l : List ConvertedCode). arguments_cost m costs (arguments_of l)) (drop_read cs i c less at) in
      (one_cost_more total cost next _ _ _ (ap (λ (n : ℕ). min too_many (total + n)) (sym first) ∙ h.0) one two, omega (arith, two))

  pub arguments_all : (cs : List ConvertedCode) (i total : ℕ) → length cs ≤ i → ArgumentsLeft m costs cs i total → total ≡ min too_many (arguments_cost m costs (arguments_of cs))
  arguments_all cs i total whole h =
      let none : arguments_cost m costs (arguments_of (drop i cs)) ≡ 0 = ap (λ (l : List ConvertedCode). arguments_cost m costs (arguments_of l)) (drop_all i cs whole) in
      least total (h.1) ∙ ap (λ (n : ℕ). min too_many (total + n)) (sym none) ∙ h.0
    where
      least : (total : ℕ) → total ≤ too_many → total ≡ min too_many (total + 0)
      least total few = omega (arith, few)

  pub operations_next : (os : List Operation) (i total : ℕ) (o : Operation) (cost next : ℕ) → i < length os → o ≡ get_or os i o → OperationsLeft m costs os i total
      → cost ≡ min too_many (operation_cost m costs o) → next ≡ min too_many (total + cost) → OperationsLeft m costs os (i + 1) next
  operations_next os i total o cost next less at h one two =
      let first : operations_cost m costs (operations_of (drop i os)) ≡ operation_cost m costs o + operations_cost m costs (operations_of (drop (i + 1) os)) =
      ap (λ (l : List Operation). operations_cost m costs (operations_of l)) (drop_read os i o less at) ∙ operation_first m costs o (drop (i + 1) os) in
      (one_cost_more total cost next _ _ _ (ap (λ (n : ℕ). min too_many (total + n)) (sym first) ∙ h.0) one two, omega (arith, two))

  pub operations_all : (os : List Operation) (i total : ℕ) → length os ≤ i → OperationsLeft m costs os i total → total ≡ min too_many (operations_cost m costs (operations_of os))
  operations_all os i total whole h =
      let none : operations_cost m costs (operations_of (drop i os)) ≡ 0 = ap (λ (l : List Operation). operations_cost m costs (operations_of l)) (drop_all i os whole) in
      least total (h.1) ∙ ap (λ (n : ℕ). min too_many (total + n)) (sym none) ∙ h.0
    where
      least : (total : ℕ) → total ≤ too_many → total ≡ min too_many (total + 0)
      least total few = omega (arith, few)

  after_few : (kind : Kind) (bytes i : ℕ) → bytes ≤ 16 * i → following kind bytes ≤ 16 * (i + 1)
  after_few kinds.Int bytes i few = omega (arith, few)
  after_few kinds.Char bytes i few = omega (arith, few)
  after_few kinds.Nullable bytes i few = omega (arith, few)
  after_few kinds.NonNull bytes i few = omega (arith, few)
  after_few kinds.Fat bytes i few = omega (arith, few)
  after_few kinds.Handle bytes i few = omega (arith, few)
  after_few kinds.Key bytes i few = omega (arith, few)

  pub fields_next : (site : Site) (cs : List ConvertedCode) (i total bytes : ℕ) (c : ConvertedCode) (cost next more : ℕ) → i < length cs → c ≡ get_or cs i c → FieldsLeft m costs site cs i total bytes
      → cost ≡ min too_many (converted_cost m costs (view_converted c)) → next ≡ min too_many (total + cost) → more ≡ following c.to bytes → FieldsLeft m costs site cs (i + 1) next more
  fields_next site cs i total bytes c cost next more less at h one two is =
      let first : fields_cost m costs site i bytes (arguments_of (drop i cs)) ≡ converted_cost m costs (view_converted c) + fields_cost m costs site (suc i) (following c.to bytes) (arguments_of (drop (i + 1) cs)) =
      ap (λ (l : List ConvertedCode). fields_cost m costs site i bytes (arguments_of l)) (drop_read cs i c less at) in
      let count : suc i ≡ i + 1 = omega arith in
      let so_far = one_cost_more total cost next _ _ _ (ap (λ (n : ℕ). min too_many (total + n)) (sym first) ∙ h.0) one two in
      let counted = subst (λ (n : ℕ). min too_many (next + fields_cost m costs site n (following c.to bytes) (arguments_of (drop (i + 1) cs))) ≡ min too_many (fields_cost m costs site 0 0 (arguments_of cs))) count so_far in
      subst (λ (n : ℕ). (min too_many (next + fields_cost m costs site (i + 1) n (arguments_of (drop (i + 1) cs))) ≡ min too_many (fields_cost m costs site 0 0 (arguments_of cs))) × (n ≤ 16 * (i + 1))) (sym is)
      (counted, after_few c.to bytes i h.1)

  pub fields_all : (site : Site) (cs : List ConvertedCode) (i total bytes count made result : ℕ) → length cs ≤ i → i ≤ length cs → count ≡ length cs → FieldsLeft m costs site cs i total bytes
      → made ≡ min too_many (fields_made_cost m site count bytes) → result ≡ min too_many (total + made) → result ≡ min too_many (fields_cost m costs site 0 0 (arguments_of cs))
  fields_all site cs i total bytes count made result whole within is h one two =
      let here : count ≡ i = omega (arith, whole, within, is) in
      let last : fields_cost m costs site i bytes (arguments_of (drop i cs)) ≡ fields_made_cost m site count bytes =
      ap (λ (l : List ConvertedCode). fields_cost m costs site i bytes (arguments_of l)) (drop_all i cs whole) ∙ ap (λ (n : ℕ). fields_made_cost m site n bytes) (sym here) in
      both total made result (fields_made_cost m site count bytes) one two ∙ ap (λ (n : ℕ). min too_many (total + n)) (sym last) ∙ h.0
    where
      both : (total made result cost : ℕ) → made ≡ min too_many cost → result ≡ min too_many (total + made) → result ≡ min too_many (total + cost)
      both total made result cost one two = omega (arith, one, two)

  pub items_next : (js : List ItemCode) (i total : ℕ) (j : ItemCode) (cost next : ℕ) → i < length js → j ≡ get_or js i j → ItemsLeft m costs js i total
      → cost ≡ min too_many (item_cost m costs (view_item j)) → next ≡ min too_many (total + cost) → ItemsLeft m costs js (i + 1) next
  items_next js i total j cost next less at h one two =
      let first : items_cost m costs (items_of (drop i js)) ≡ item_cost m costs (view_item j) + items_cost m costs (items_of (drop (i + 1) js)) =
      ap (λ (l : List ItemCode). items_cost m costs (items_of l)) (drop_read js i j less at) in
      one_cost_more total cost next _ _ _ (ap (λ (n : ℕ). min too_many (total + n)) (sym first) ∙ h) one two

  pub items_all : (js : List ItemCode) (i total result : ℕ) → length js ≤ i → ItemsLeft m costs js i total → result ≡ min too_many (1 * step_cost m + total) → result ≡ min too_many (items_cost m costs (items_of js))
  items_all js i total result whole h is =
      let last : items_cost m costs (items_of (drop i js)) ≡ step_cost m = ap (λ (l : List ItemCode). items_cost m costs (items_of l)) (drop_all i js whole) in
      turned (step_cost m) total result is ∙ ap (λ (n : ℕ). min too_many (total + n)) (sym last) ∙ h
    where
      turned : (step total result : ℕ) → result ≡ min too_many (1 * step + total) → result ≡ min too_many (total + step)
      turned step total result is = omega (arith, is)

  -- the invariant on the costs of catch clauses holds after the next clause, which is tried and possibly executed
  pub clauses_next : (cs : List Clause) (last i tried most : ℕ) (c : Clause) (items caught next both more : ℕ) → i < length cs → c ≡ get_or cs i c → ClausesLeft m costs cs last i tried most
      → items ≡ min too_many (items_cost m costs (items_of c.items.items)) → next ≡ min too_many (1 * step_cost m + tried) → caught ≡ min too_many (caught_cost m c.number items)
      → both ≡ min too_many (next + caught) → more ≡ max most both → ClausesLeft m costs cs last (i + 1) next more
  clauses_next cs last i tried most c items caught next both more less at h one two three four five =
      let rest = clauses_then m costs (drop (i + 1) cs) last in
      let all = items_cost m costs (items_of c.items.items) in
      let first : clauses_then m costs (drop i cs) last ≡ step_cost m + max (caught_cost m c.number all) rest =
      ap (λ (l : List Clause). clauses_then m costs l last) (drop_read cs i c less at) in (
        numbers (step_cost m) tried most (caught_cost m c.number all) caught next both more rest (caught_capped c.number all items one caught three) two four five
            ∙ ap (λ (n : ℕ). min too_many (max most (tried + n))) (sym first) ∙ h.0,
        omega (arith, h.1, four, five),
      )
    where
      caught_capped : (number : Option ℕ) (all items : ℕ) → items ≡ min too_many all → (caught : ℕ) → caught ≡ min too_many (caught_cost m number items) → caught ≡ min too_many (caught_cost m number all)
      caught_capped None all items one caught is = omega (arith, one, is)
      caught_capped (Some number) all items one caught is = omega (arith, one, is)

      numbers : (step tried most all caught next both more rest : ℕ) → caught ≡ min too_many all → next ≡ min too_many (1 * step + tried) → both ≡ min too_many (next + caught) → more ≡ max most both
          → min too_many (max more (next + rest)) ≡ min too_many (max most (tried + (step + max all rest)))
      numbers step tried most all caught next both more rest one two three four = omega (arith, one, two, three, four)

  pub clauses_all : (cs : List Clause) (last i tried most both result : ℕ) → length cs ≤ i → ClausesLeft m costs cs last i tried most → both ≡ min too_many (tried + last) → result ≡ max most both
      → result ≡ min too_many (clauses_then m costs cs last)
  clauses_all cs last i tried most both result whole h one two =
      let end : clauses_then m costs (drop i cs) last ≡ last = ap (λ (l : List Clause). clauses_then m costs l last) (drop_all i cs whole) in
      numbers tried most last both result one two h.1 ∙ ap (λ (n : ℕ). min too_many (max most (tried + n))) (sym end) ∙ h.0
    where
      numbers : (tried most last both result : ℕ) → both ≡ min too_many (tried + last) → result ≡ max most both → most ≤ too_many → result ≡ min too_many (max most (tried + last))
      numbers tried most last both result one two few = omega (arith, one, two, few)

  clauses_with : (cs : List Clause) (default : Clauses) → clauses_cost m costs (clauses_of cs default) ≡ clauses_then m costs cs (clauses_cost m costs default)
  clauses_with [] default = refl
  clauses_with (c ∷ cs) default = ap (λ (n : ℕ). step_cost m + max (caught_cost m c.number (items_cost m costs (items_of c.items.items))) n) (clauses_with cs default)

  then_capped : (cs : List Clause) (last : ℕ) → min too_many (clauses_then m costs cs (min too_many last)) ≡ min too_many (clauses_then m costs cs last)
  then_capped [] last = omega arith
  then_capped (c ∷ cs) last = omega (arith, then_capped cs last)

  -- the cost of catch clauses with a default clause, which comes after the other clauses
  pub clauses_capped : (cs : List Clause) (default : Option Body) (last result : ℕ) → last ≡ min too_many (clauses_cost m costs (default_of default)) → result ≡ min too_many (clauses_then m costs cs last)
      → result ≡ min too_many (clauses_cost m costs (clauses_of cs (default_of default)))
  clauses_capped cs default last result one two =
      two ∙ ap (λ (n : ℕ). min too_many (clauses_then m costs cs n)) one ∙ then_capped cs (clauses_cost m costs (default_of default)) ∙ ap (λ (n : ℕ). min too_many n) (sym (clauses_with cs (default_of default)))

-- ---- nodes that contain lists

module _ (m : Measure) (costs : List ℕ) where
  pub call_costs : (value : Expr) {w : _} (f : Callee) (v : Vec ConvertedCode Heap) (t : ValueTypeCode) → value ≡ expr.Call w f v t → (items : List ConvertedCode) → items ≡ v.items
      → expression_cost m costs (view_expression value) ≡ 1 * step_cost m + (arguments_cost m costs (arguments_of items) + callee_cost m costs f)
  call_costs value {w} f v t is items same =
      ap (λ (x : Expr). expression_cost m costs (view_expression x)) is ∙ ap (λ (a : Expression). expression_cost m costs a) (view_typed_call w f v t)
      ∙ ap (λ (cs : List ConvertedCode). step_cost m + (arguments_cost m costs (arguments_of cs) + callee_cost m costs f)) (sym same) ∙ omega arith

  pub binary_costs : (value : Expr) (b : Box Expr Heap) (v : Vec Operation Heap) (t : TyCode) → value ≡ expr.Binary b v t → (first : Expr) → first ≡ b.value → (items : List Operation) → items ≡ v.items
      → expression_cost m costs (view_expression value) ≡ 2 * step_cost m + (expression_cost m costs (view_expression first) + operations_cost m costs (operations_of items))
  binary_costs value b v t is first at items same =
      ap (λ (x : Expr). expression_cost m costs (view_expression x)) is ∙ ap (λ (a : Expression). expression_cost m costs a) (view_typed_binary b v t)
      ∙ ap (λ (x : Expr). 2 * step_cost m + (expression_cost m costs (view_expression x) + operations_cost m costs (operations_of v.items))) (sym at)
      ∙ ap (λ (os : List Operation). 2 * step_cost m + (expression_cost m costs (view_expression first) + operations_cost m costs (operations_of os))) (sym same)

  pub new_costs : (value : Expr) {w : _} (p : PlacementCode) (b : Box Initial Heap) (t : TyCode) → value ≡ expr.New w p b t → (i : Initial) → i ≡ b.value → (site : Site) → site ≡ site_of (view_placement p)
      → expression_cost m costs (view_expression value) ≡ 1 * step_cost m + (placement_cost m costs (view_placement p) + initial_cost m costs site (view_initial i))
  new_costs value {w} p b t is i at site same =
      ap (λ (x : Expr). expression_cost m costs (view_expression x)) is
      ∙ ap (λ (x : Initial). step_cost m + (placement_cost m costs (view_placement p) + initial_cost m costs (site_of (view_placement p)) (view_initial x))) (sym at)
      ∙ ap (λ (u : Site). step_cost m + (placement_cost m costs (view_placement p) + initial_cost m costs u (view_initial i))) (sym same) ∙ omega arith

  pub fields_costs : (site : Site) (value : Initial) (v : Vec ConvertedCode Heap) → value ≡ initial.Fields v → (items : List ConvertedCode) → items ≡ v.items
      → initial_cost m costs site (view_initial value) ≡ fields_cost m costs site 0 0 (arguments_of items)
  fields_costs site value v is items same =
      ap (λ (x : Initial). initial_cost m costs site (view_initial x)) is ∙ ap (λ (x : typed.Initial). initial_cost m costs site x) (view_typed_fields v)
      ∙ ap (λ (cs : List ConvertedCode). fields_cost m costs site 0 0 (arguments_of cs)) (sym same)

  pub array_costs : (site : Site) (value : Initial) {w : _} (level : ℕ) (n : Expr) (k : Kind) (e : Expr) → value ≡ initial.Array w level n k e → (counted turn : ℕ) (written : Option ℕ) (made result : ℕ)
      → counted ≡ min too_many (expression_cost m costs (view_expression n)) → turn ≡ min too_many (expression_cost m costs (view_expression e)) → written ≡ written_length (view_expression n)
      → made ≡ min too_many (array_cost m site k turn written) → result ≡ min too_many (counted + made) → result ≡ min too_many (initial_cost m costs site (view_initial value))
  array_costs site value {w} level n k e is counted turn written made result one two three four five =
      let whole : initial_cost m costs site (view_initial value) ≡ expression_cost m costs (view_expression n) + array_cost m site k (expression_cost m costs (view_expression e)) (written_length (view_expression n)) =
      ap (λ (x : Initial). initial_cost m costs site (view_initial x)) is in
      let array : made ≡ min too_many (array_cost m site k (expression_cost m costs (view_expression e)) (written_length (view_expression n))) =
      four ∙ ap (λ (x : ℕ). min too_many (array_cost m site k x written)) two ∙ array_capped m site k (expression_cost m costs (view_expression e)) written
      ∙ ap (λ (o : Option ℕ). min too_many (array_cost m site k (expression_cost m costs (view_expression e)) o)) three in
      both counted made result _ _ one array five ∙ ap (λ (x : ℕ). min too_many x) (sym whole)
    where
      both : (first second result a b : ℕ) → first ≡ min too_many a → second ≡ min too_many b → result ≡ min too_many (first + second) → result ≡ min too_many (a + b)
      both first second result a b one two three = omega (arith, one, two, three)

  pub loop_costs : (value : Stmt) {w : _} (a : Expr) (b : Box Stmt Heap) → value ≡ stmt.While w a b → (body : Stmt) → body ≡ b.value → (tested executed both turn result : ℕ)
      → tested ≡ min too_many (expression_cost m costs (view_expression a)) → executed ≡ min too_many (statement_cost m costs (view_statement body)) → both ≡ min too_many (tested + executed)
      → turn ≡ min too_many (1 * step_cost m + both) → result ≡ loop_cost turn → result ≡ min too_many (statement_cost m costs (view_statement value))
  loop_costs value {w} a b is body at tested executed both turn result one two three four five =
      let whole : statement_cost m costs (view_statement value) ≡ loop_cost (step_cost m + (expression_cost m costs (view_expression a) + statement_cost m costs (view_statement body))) =
      ap (λ (x : Stmt). statement_cost m costs (view_statement x)) is
      ∙ ap (λ (x : Stmt). loop_cost (step_cost m + (expression_cost m costs (view_expression a) + statement_cost m costs (view_statement x)))) (sym at) in
      five ∙ ap (λ (n : ℕ). loop_cost n) (numbers (step_cost m) _ _ tested executed both turn one two three four)
      ∙ loop_capped (step_cost m + (expression_cost m costs (view_expression a) + statement_cost m costs (view_statement body))) ∙ ap (λ (n : ℕ). min too_many n) (sym whole)
    where
      numbers : (step a b tested executed both turn : ℕ) → tested ≡ min too_many a → executed ≡ min too_many b → both ≡ min too_many (tested + executed) → turn ≡ min too_many (1 * step + both) → turn ≡ min too_many (step + (a + b))
      numbers step a b tested executed both turn one two three four = omega (arith, one, two, three, four)

  pub block_costs : (value : Stmt) (r : ℕ) (v : Vec ItemCode Heap) → value ≡ stmt.Block r v → (items : List ItemCode) → items ≡ v.items
      → statement_cost m costs (view_statement value) ≡ 3 * step_cost m + items_cost m costs (items_of items)
  block_costs value r v is items same =
      ap (λ (x : Stmt). statement_cost m costs (view_statement x)) is ∙ ap (λ (s : Statement). statement_cost m costs s) (view_block r v)
      ∙ ap (λ (js : List ItemCode). 3 * step_cost m + items_cost m costs (items_of js)) (sym same)

  pub try_costs : (value : Stmt) {w : _} (b : Box Stmt Heap) (v : Vec Clause Heap) (d : Option Body) → value ≡ stmt.Try w b v d → (body : Stmt) → body ≡ b.value → (clauses : List Clause) → clauses ≡ v.items
      → statement_cost m costs (view_statement value) ≡ 1 * step_cost m + (statement_cost m costs (view_statement body) + clauses_cost m costs (clauses_of clauses (default_of d)))
  try_costs value {w} b v d is body at clauses same =
      ap (λ (x : Stmt). statement_cost m costs (view_statement x)) is ∙ ap (λ (s : Statement). statement_cost m costs s) (view_typed_try w b v d)
      ∙ ap (λ (x : Stmt). step_cost m + (statement_cost m costs (view_statement x) + clauses_cost m costs (clauses_of v.items (default_of d)))) (sym at)
      ∙ ap (λ (cs : List Clause). step_cost m + (statement_cost m costs (view_statement body) + clauses_cost m costs (clauses_of cs (default_of d)))) (sym same) ∙ omega arith

-- ---- functions

pub function_at : (cost : Function → ℕ) (fs : List FunctionCode) (n : ℕ) (f : FunctionCode) → n < length fs → f ≡ get_or fs n f → get_or (map cost (map view_function fs)) n 0 ≡ cost (view_function f)
function_at cost [] n f less at = absurd (omega (arith, less))
function_at cost (x ∷ fs) zero f less at = ap (λ (y : FunctionCode). cost (view_function y)) (sym at)
function_at cost (x ∷ fs) (suc n) f less at = function_at cost fs n f (omega (arith, less)) at
