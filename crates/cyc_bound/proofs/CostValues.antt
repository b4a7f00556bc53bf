-- The steps that evaluate lvalues and values do not raise the cost of a run. The cost of a run is the sum of the costs of the focus (next
-- action), of the stack and of the resources used so far. This sum never increases. If steps are counted, the sum decreases at each step.
use Rattle.std.proofs.Common.{◌≡◌, ℕ, zero, suc, ◌+◌, ◌*◌, ◌-◌, ◌<◌, ◌≤◌, min, Bool, true, false, List, [], ◌∷◌, length, reverse, Option, Some, None, refl, ap, arith, suc-mul}
use Rattle.std.specs.Prelude.{◌==◌, ◌&&◌, nat_le, if◌then◌else◌, slice_get}
use Rattle.std.proofs.lemmas.Bool.{leb-true, eqb-false}
use Rattle.std.proofs.lemmas.List.{length-reverse}
use Rattle.cyc_types.specs.declared.typed.Kind.{Kind}
use Rattle.cyc_types.specs.declared.typed.Kind.TheVariants as kinds
use Rattle.cyc_types.specs.declared.typed.Callee.{Callee}
use Rattle.cyc_types.specs.declared.typed.LogicalOperator.{LogicalOperator}
use Rattle.cyc_types.specs.declared.typed.PointerOperator.{PointerOperator}
use Rattle.cyc_types.specs.declared.typed.PointerOperator.TheVariants as pointers
use Rattle.cyc_types.specs.Types.{Ty}
use Rattle.cyc_types.specs.TypedTrees.{Expression, Number, NullPointer, HeapRegion, Counter, Copy, Move, Peek, Load, AddressOf, AddressOfCell, NumberOfElements, FreeUnique, FreeKey, Call, Unary, Binary, Assign, New, Dereference, Target, Member, Element, Placement, OnHeap, AsUnique}
use Rattle.cyc_types.specs.TypedTrees.{ByHandle, Initial, Plain, Fields, Array, Converted, Convert, Arguments, NoArguments, MoreArguments, Operations, NoOperations, ThenCompute, ThenTest, ThenPointer, ThenPointerPeek, Side, VariableSide, CellSide, Statement, Items, StructType, Program}
use Rattle.cyc_types.specs.TypedTrees as typed
use Rattle.cyc_meaning.specs.Values.{Value, Int, Null, Thin, Fat, Handle, Key, Operand, kind_of, is_kind, bytes_of_kind, following, words_for, block_size}
use Rattle.cyc_meaning.specs.Operators.{Result, Gives, Raises, Misfits, is_zero, binary_result, unary_result, unary_kind, truth, truth_of, decides, array_size}
use Rattle.cyc_meaning.specs.Pointers.{element_count, pointer_result, takes_kind, Reach, At, Stops, Nowhere, followed}
use Rattle.cyc_meaning.specs.Conversion.{conversion}
use Rattle.cyc_meaning.specs.State.{heap_number, Region, Owner, InRegion, Unique, Object, World, Access, Found, Closed, Missing, region_at, Located, cell_at, Environment, Awaiting, ConvertTo, Operate, Chain, Apply, ApplyPointer, Decide, Store, StoreCell, Pass, Follow, FollowMember, Index}
use Rattle.cyc_meaning.specs.State.{Advance, CountElements, FreeObject, CloseByKey, PlaceBy, BesideHandle, MakePlain, MakeFields, MakeArray, FillElement, Initialise, Choose, Test, Return, ThrowWith, OpenBy, AliasOf, LoadFrom, TakeAddress, StoreTo, SwapLeft, SwapRight, Entry, Needs}
use Rattle.cyc_meaning.specs.State.{NeedsPlace, Discard, Rest, Join, Loop, CloseRegion, CloseLexical, EndLoan, Handler, Caller, Main, Focus, Given, Proceeding, Repeating, Returning, Throwing, State, Running}
use Rattle.cyc_meaning.specs.Objects.{compared, created}
use Rattle.cyc_meaning.specs.Parts.{computed, leads_to, object_of, read, loaded, loaded_from, stored, stored_at, declared}
use Rattle.cyc_meaning.specs.Places.{arrives, member_of, locates_member, step_locating, loaded_at, step_given_place}
use Rattle.cyc_meaning.specs.Swaps.{finds_right_object, finds_right, finds_left_object, swaps, swap_content, swap_loaded, swap_loaded_at, step_swapping}
use Rattle.cyc_meaning.specs.Allocation.{blanks_of, writes_from, filled, makes_of, makes_plain, makes_fields, blanks, begun, makes_array, step_repeating, fills_element, makes, makes_by, allocates, most_words}
use Rattle.cyc_meaning.specs.Exceptions.{throws_value}
use Rattle.cyc_meaning.specs.Regions.{is_dynamic, opened_by, opens_with, closes_dynamic, closes_with, frees_in_region, frees_owned, frees_object, frees}
use Rattle.cyc_meaning.specs.Step.{passes, assigned, addressed, counts, step_evaluating, decided, tested, awaits_right, chained, tells, applies_pointer, chosen, looped, supplied, step_given}
use Rattle.cyc_meaning.specs.Step as steps
use Rattle.cyc_bound.specs.declared.costs.Measure.{Measure}
use Rattle.cyc_bound.specs.declared.costs.Site.TheVariants as sites
use Rattle.cyc_bound.specs.Costs.{too_many, step_cost, block_cost, size_of_bytes, written_length, elements_cost, array_cost, callee_cost, expression_cost, place_cost, initial_cost, fields_cost, converted_cost, arguments_cost, operations_cost, side_cost, loop_cost, statement_cost}
use Rattle.cyc_bound.specs.Costs.{items_cost, most_elements}
use Rattle.cyc_bound.specs.inside.Remaining.{Delivery, Anything, OfKind, delivered_by, number_of, focus_delivers, entry_delivers, site_of_owner, bytes_before, elements_left, awaiting_cost, stack_cost, swapping_cost, focus_cost, TakesAtMost}
use Rattle.cyc_bound.proofs.CostLemmas.{IsNoMore, initial_no_more, loop_is_free, kind_is, elements_fit, length_is, array_least, elements_from, elements_within, nothing, known, kept}
use Rattle.cyc_bound.proofs.CostWorlds.{fields_size, elements_size, Counts}

abbrev pub int : ℕ → Operand
int n = record { kind = kinds.Int; value = Int n }

module _ (program : Program) (m : Measure) (costs : List ℕ) (counted : World → ℕ) (adds : Counts m counted) (k : ℕ) (few : k + step_cost m < too_many) where
  abbrev pub t : ℕ
  t = step_cost m

  abbrev pub S : Delivery → List Entry → ℕ
  S d stack = stack_cost m costs d stack

  abbrev pub A : List Entry → World → ℕ
  A stack w = S Anything stack + counted w

  abbrev pub X : Expression → ℕ
  X a = expression_cost m costs a

  abbrev pub B : State → Type 0
  B s = TakesAtMost counted m costs k s

  pub either : (b : Bool) (s u : State) → B s → B u → B (if b then s else u)
  either true s u first second = first
  either false s u first second = second

  -- if each branch of a conditional satisfies the cost bound, the conditional does; each branch may use the outcome of the test
  either_by : (b : Bool) (s u : State) → (b ≡ true → B s) → (b ≡ false → B u) → B (if b then s else u)
  either_by true s u first second = first refl
  either_by false s u first second = second refl

  pub gives_value : (v : Operand) (stack : List Entry) (e : Environment) (w : World) → t + A stack w ≤ k → B (Running (Given v) stack e w)
  gives_value v stack e w h = omega (arith, h, few, known m costs v.kind (number_of v.value) stack (omega (arith, h, few)))

  pub throws_now : (tag value : ℕ) (stack : List Entry) (e : Environment) (w : World) → t + A stack w ≤ k → B (Running (Throwing tag value) stack e w)
  throws_now tag value stack e w h = omega (arith, h, few, nothing m costs Anything stack (omega (arith, h, few)))

  pub returns_now : (o : Option Operand) (stack : List Entry) (e : Environment) (w : World) → t + A stack w ≤ k → B (Running (Returning o) stack e w)
  returns_now o stack e w h = omega (arith, h, few, nothing m costs Anything stack (omega (arith, h, few)))

  -- if the cost bound holds for any value of a representation kind (int, char, pointer, ..), it holds for a computed value of this kind
  computes_as : (kind : Kind) (r : Result) (stack : List Entry) (e : Environment) (w : World) → t + (S (OfKind kind None) stack + counted w) ≤ k → B (computed kind r stack e w)
  computes_as kind (Gives value) stack e w h = omega (arith, h, kept m costs kind (number_of value) stack)
  computes_as kind (Raises tag) stack e w h = omega (arith, h, few, nothing m costs (OfKind kind None) stack (omega (arith, h, few)))
  computes_as kind Misfits stack e w h = tt

  computes : (kind : Kind) (r : Result) (stack : List Entry) (e : Environment) (w : World) → t + A stack w ≤ k → B (computed kind r stack e w)
  computes kind r stack e w h = computes_as kind r stack e w (omega (arith, h, few, known m costs kind None stack (omega (arith, h, few))))

  reads_cell : (kind : Kind) (o : Option Value) (stack : List Entry) (e : Environment) (w : World) → t + A stack w ≤ k → B (read kind o stack e w)
  reads_cell kind (Some value) stack e w h = gives_value (record { kind = kind; value = value }) stack e w h
  reads_cell kind None stack e w h = tt

  loads : (kind : Kind) (a : Access Located) (stack : List Entry) (e : Environment) (w : World) → t + A stack w ≤ k → B (loaded kind a stack e w)
  loads kind (Found at) stack e w h = either (is_kind at.cell.kind kind) _ _ (reads_cell kind at.cell.content stack e w h) tt
  loads kind Closed stack e w h = tt
  loads kind Missing stack e w h = tt

  pub loads_from : (kind : Kind) (o : Option ℕ) (stack : List Entry) (e : Environment) (w : World) → t + A stack w ≤ k → B (loaded_from kind o stack e w)
  loads_from kind (Some object) stack e w h = loads kind (cell_at w object 0) stack e w h
  loads_from kind None stack e w h = tt

  stores : (a : Access Located) (object offset : ℕ) (v : Operand) (focus : Focus) (stack : List Entry) (e : Environment) (w : World) → cell_at w object offset ≡ a
      → focus_cost m costs focus + (S (focus_delivers focus) stack + counted w) ≤ k → B (stored a object offset v focus stack e w)
  stores (Found at) object offset v focus stack e w is h = either (is_kind at.cell.kind v.kind) _ _ (omega (arith, h, adds.written w object offset at v.value is)) tt
  stores Closed object offset v focus stack e w is h = tt
  stores Missing object offset v focus stack e w is h = tt

  pub stores_at : (place : Value) (v : Operand) (focus : Focus) (stack : List Entry) (e : Environment) (w : World)
      → focus_cost m costs focus + (S (focus_delivers focus) stack + counted w) ≤ k → B (stored_at place v focus stack e w)
  stores_at (Thin object offset) v focus stack e w h = stores (cell_at w object offset) object offset v focus stack e w refl h
  stores_at Null v focus stack e w h = tt
  stores_at (Int n) v focus stack e w h = tt
  stores_at (Fat object start count index) v focus stack e w h = tt
  stores_at (Handle region) v focus stack e w h = tt
  stores_at (Key region) v focus stack e w h = tt

  -- the cost bound holds after a value is stored and passed to the newest continuation
  stores_given : (place : Value) (v : Operand) (stack : List Entry) (e : Environment) (w : World) → t + A stack w ≤ k → B (stored_at place v (Given v) stack e w)
  stores_given place v stack e w h = stores_at place v (Given v) stack e w (gives_value v stack e w h)

  pub names : (a : Access Region) (focus : Focus) (number : ℕ) (kind : Kind) (content : Option Value) (stack : List Entry) (e : Environment) (w : World)
      → focus_cost m costs focus + (S (focus_delivers focus) stack + counted w) ≤ k → B (declared a focus number kind content stack e w)
  names (Found r) focus number kind content stack e w h = omega (arith, h, adds.named w e.home kind content)
  names Closed focus number kind content stack e w h = tt
  names Missing focus number kind content stack e w h = tt

  -- ---- places

  arriving : (r : Reach) (stack : List Entry) (e : Environment) (w : World) → t + A stack w ≤ k → B (arrives r stack e w)
  arriving (At object offset) stack e w h = h
  arriving (Stops tag) stack e w h = throws_now tag 0 stack e w h
  arriving Nowhere stack e w h = tt

  locating_member : (o : Option StructType) (pointer : Kind) (a : Expression) (field : ℕ) (stack : List Entry) (e : Environment) (w : World)
      → 2 * t + expression_cost m costs a + A stack w ≤ k + t → B (locates_member o pointer a field stack e w)
  locating_member (Some s) pointer a field stack e w h = omega (arith, h)
  locating_member None pointer a field stack e w h = tt

  pub locating : (d : Dereference) (stack : List Entry) (e : Environment) (w : World) → place_cost m costs d + A stack w ≤ k + t → B (step_locating program d stack e w)
  locating (Target pointer a type) stack e w h = omega (arith, h)
  locating (Member pointer a s field type) stack e w h = locating_member (slice_get program.structs s) pointer a field stack e w h
  locating (Element a i type) stack e w h = omega (arith, h)

  loading_at : (kind : Kind) (place : Value) (stack : List Entry) (e : Environment) (w : World) → t + A stack w ≤ k → B (loaded_at kind place stack e w)
  loading_at kind (Thin object offset) stack e w h = loads kind (cell_at w object offset) stack e w h
  loading_at kind Null stack e w h = tt
  loading_at kind (Int n) stack e w h = tt
  loading_at kind (Fat object start count index) stack e w h = tt
  loading_at kind (Handle region) stack e w h = tt
  loading_at kind (Key region) stack e w h = tt

  -- ---- swaps

  finding_right : (kind : Kind) (peek : Option ℕ) (is_cell : Bool) (before : Value) (right : Side) (stack : List Entry) (e : Environment) (w : World)
      → side_cost m costs right + 6 * t + A stack w ≤ k → B (finds_right kind peek is_cell before right stack e w)
  finding_right kind peek is_cell before (VariableSide l type) stack e w h = go (object_of e l)
    where
      go : (o : Option ℕ) → B (finds_right_object kind before o stack e w)
      go (Some object) = omega (arith, h)
      go None = tt
  finding_right kind peek is_cell before (CellSide d) stack e w h = omega (arith, h)

  pub swapping : (first right : Side) (stack : List Entry) (e : Environment) (w : World)
      → 7 * t + (side_cost m costs first + side_cost m costs right) + A stack w ≤ k + t → B (swaps first right stack e w)
  swapping (VariableSide l type) right stack e w h = go (object_of e l)
    where
      go : (o : Option ℕ) → B (finds_left_object (kind_of type) o right stack e w)
      go (Some object) = finding_right (kind_of type) None false (Thin object 0) right stack e w (omega (arith, h))
      go None = tt
  swapping (CellSide d) right stack e w h = omega (arith, h)

  swap_reads : (kind : Kind) (first right : Value) (before : Option Operand) (o : Option Value) (stack : List Entry) (e : Environment) (w : World)
      → swapping_cost m before + A stack w ≤ k + t → B (swap_content kind first right before o stack e w)
  swap_reads kind first right None (Some value) stack e w h = omega (arith, h)
  swap_reads kind first right (Some before) (Some value) stack e w h = omega (arith, h)
  swap_reads kind first right before None stack e w h = tt

  swap_loads : (kind : Kind) (first right : Value) (before : Option Operand) (a : Access Located) (stack : List Entry) (e : Environment) (w : World)
      → swapping_cost m before + A stack w ≤ k + t → B (swap_loaded kind first right before a stack e w)
  swap_loads kind first right before (Found at) stack e w h = either (is_kind at.cell.kind kind) _ _ (swap_reads kind first right before at.cell.content stack e w h) tt
  swap_loads kind first right before Closed stack e w h = tt
  swap_loads kind first right before Missing stack e w h = tt

  swap_loads_at : (kind : Kind) (first right : Value) (before : Option Operand) (place : Value) (stack : List Entry) (e : Environment) (w : World)
      → swapping_cost m before + A stack w ≤ k + t → B (swap_loaded_at kind first right before place stack e w)
  swap_loads_at kind first right before (Thin object offset) stack e w h = swap_loads kind first right before (cell_at w object offset) stack e w h
  swap_loads_at kind first right before Null stack e w h = tt
  swap_loads_at kind first right before (Int n) stack e w h = tt
  swap_loads_at kind first right before (Fat object start count index) stack e w h = tt
  swap_loads_at kind first right before (Handle region) stack e w h = tt
  swap_loads_at kind first right before (Key region) stack e w h = tt

  pub swapping_values : (kind : Kind) (first right : Value) (o : Option Operand) (stack : List Entry) (e : Environment) (w : World)
      → swapping_cost m o + A stack w ≤ k + t → B (step_swapping kind first right o stack e w)
  swapping_values kind first right None stack e w h = swap_loads_at kind first right None first stack e w h
  swapping_values kind first right (Some before) stack e w h = swap_loads_at kind first right (Some before) right stack e w h

  pub given_place : (place : Value) (stack : List Entry) (e : Environment) (w : World) → t + A stack w ≤ k + t → B (step_given_place place stack e w)
  given_place place [] e w h = tt
  given_place place (NeedsPlace (LoadFrom kind) ∷ stack) e w h = loading_at kind place stack e w (omega (arith, h))
  given_place place (NeedsPlace TakeAddress ∷ stack) e w h = gives_value (record { kind = kinds.NonNull; value = place }) stack e w (omega (arith, h))
  given_place place (NeedsPlace (StoreTo peek (Convert from to a)) ∷ stack) e w h = omega (arith, h)
  given_place place (NeedsPlace (SwapLeft kind peek right) ∷ stack) e w h = finding_right kind peek true place right stack e w (omega (arith, h))
  given_place place (NeedsPlace (SwapRight kind peek is_cell before) ∷ stack) e w h = omega (arith, h)
  given_place place (Needs a ∷ stack) e w h = tt
  given_place place (Discard ∷ stack) e w h = tt
  given_place place (Rest items ∷ stack) e w h = tt
  given_place place (Join ∷ stack) e w h = tt
  given_place place (Loop condition body ∷ stack) e w h = tt
  given_place place (CloseRegion region home ∷ stack) e w h = tt
  given_place place (CloseLexical region ∷ stack) e w h = tt
  given_place place (EndLoan lent ∷ stack) e w h = tt
  given_place place (Handler handler ∷ stack) e w h = tt
  given_place place (Caller outer ∷ stack) e w h = tt
  given_place place (Main ∷ stack) e w h = tt

  -- ---- new objects

  written_all : (object offset : ℕ) (values : List Operand) → length (writes_from object offset values) ≡ length values
  written_all object offset [] = refl
  written_all object offset (v ∷ values) = ap (λ (n : ℕ). suc n) (written_all object (suc offset) values)

  filling : (a : Access World) (owner : Owner) (values : List Operand) (stack : List Entry) (e : Environment) (w : World) → created w owner (blanks_of values) ≡ a
      → length values * t + 2 * t + (A stack w + block_cost m (site_of_owner owner) (block_size (blanks_of values))) ≤ k → B (filled a (length w.objects) values stack e w)
  filling (Found new) owner values stack e w is h =
      let count : length (writes_from (length w.objects) 0 values) * t ≡ length values * t = ap (λ (n : ℕ). n * t) (written_all (length w.objects) 0 values) in
      omega (arith, h, count, adds.created w new owner (blanks_of values) is)
  filling Closed owner values stack e w is h = tt
  filling Missing owner values stack e w is h = tt

  making : (owner : Owner) (values : List Operand) (stack : List Entry) (e : Environment) (w : World)
      → length values * t + 2 * t + (A stack w + block_cost m (site_of_owner owner) (block_size (blanks_of values))) ≤ k → B (makes_of owner values stack e w)
  making owner values stack e w h = filling (created w owner (blanks_of values)) owner values stack e w refl h

  making_plain : (owner : Owner) (kind : Kind) (v : Operand) (stack : List Entry) (e : Environment) (w : World)
      → 3 * t + block_cost m (site_of_owner owner) (size_of_bytes (following kind 0)) + A stack w ≤ k → B (makes_plain owner kind v stack e w)
  making_plain owner kind v stack e w h = either_by (is_kind v.kind kind) _ _ (λ same.
      let size : block_cost m (site_of_owner owner) (size_of_bytes (following v.kind 0)) ≡ block_cost m (site_of_owner owner) (size_of_bytes (following kind 0)) =
      ap (λ (a : Kind). block_cost m (site_of_owner owner) (size_of_bytes (following a 0))) (kind_is v.kind kind same) in
      making owner (v ∷ []) stack e w (omega (arith, h, size))) (λ other. tt)

  making_fields : (owner : Owner) (before : List Operand) (fields : Arguments) (stack : List Entry) (e : Environment) (w : World)
      → fields_cost m costs (site_of_owner owner) (length before) (bytes_before before) fields + A stack w ≤ k → B (makes_fields owner before fields stack e w)
  making_fields owner before NoArguments stack e w h =
      let count : length (reverse before) * t ≡ length before * t = ap (λ (n : ℕ). n * t) (length-reverse before) in
      let size : block_cost m (site_of_owner owner) (block_size (blanks_of (reverse before))) ≡ block_cost m (site_of_owner owner) (size_of_bytes (bytes_before before)) =
      ap (λ (n : ℕ). block_cost m (site_of_owner owner) n) (fields_size before) in
      making owner (reverse before) stack e w (omega (arith, h, count, size))
  making_fields owner before (MoreArguments (Convert from to a) fields) stack e w h = omega (arith, h)

  pub begins : (a : Access World) (owner : Owner) (count level : ℕ) (kind : Kind) (element : Expression) (stack : List Entry) (e : Environment) (w : World) → created w owner (blanks count kind) ≡ a
      → elements_cost m (expression_cost m costs element) count + block_cost m (site_of_owner owner) (size_of_bytes (count * bytes_of_kind kind)) + A stack w ≤ k + t
      → B (begun a (length w.objects) count level kind element stack e w)
  begins (Found new) owner count level kind element stack e w is h =
      let size : block_cost m (site_of_owner owner) (block_size (blanks count kind)) ≡ block_cost m (site_of_owner owner) (size_of_bytes (count * bytes_of_kind kind)) =
      ap (λ (n : ℕ). block_cost m (site_of_owner owner) n) (elements_size count kind) in
      let all : (count - 0) * (t + expression_cost m costs element) ≡ count * (t + expression_cost m costs element) =
      ap (λ (n : ℕ). n * (t + expression_cost m costs element)) (none count) in
      omega (arith, h, size, all, elements_from m costs (expression_cost m costs element) count 0 (omega arith), adds.created w new owner (blanks count kind) is)
    where
      none : (n : ℕ) → n - 0 ≡ n
      none n = omega arith
  begins Closed owner count level kind element stack e w is h = tt
  begins Missing owner count level kind element stack e w is h = tt

  making_array : (owner : Owner) (level : ℕ) (kind : Kind) (element : Expression) (value : Value) (stack : List Entry) (e : Environment) (w : World)
      → array_cost m (site_of_owner owner) kind (expression_cost m costs element) (number_of value) + A stack w ≤ k → B (makes_array owner level kind element value stack e w)
  making_array owner level kind element (Int count) stack e w h = either_by (nat_le (words_for (count * bytes_of_kind kind)) most_words) _ _ (λ fits.
      let same : min count (most_elements kind) ≡ count = elements_fit kind count (leb-true (words_for (count * bytes_of_kind kind)) most_words fits) in
      let cost : elements_cost m (expression_cost m costs element) (min count (most_elements kind)) + block_cost m (site_of_owner owner) (size_of_bytes (min count (most_elements kind) * bytes_of_kind kind))
      ≡ elements_cost m (expression_cost m costs element) count + block_cost m (site_of_owner owner) (size_of_bytes (count * bytes_of_kind kind)) =
      ap (λ (n : ℕ). elements_cost m (expression_cost m costs element) n + block_cost m (site_of_owner owner) (size_of_bytes (n * bytes_of_kind kind))) same in
      omega (arith, h, cost)) (λ long. throws_now array_size 0 stack e w (omega (arith, h, array_least m costs (site_of_owner owner) kind (expression_cost m costs element) (Some count))))
  making_array owner level kind element Null stack e w h = tt
  making_array owner level kind element (Thin object offset) stack e w h = tt
  making_array owner level kind element (Fat object start count index) stack e w h = tt
  making_array owner level kind element (Handle region) stack e w h = tt
  making_array owner level kind element (Key region) stack e w h = tt

  pub repeating : (object count index level : ℕ) (kind : Kind) (element : Expression) (stack : List Entry) (e : Environment) (w : World)
      → elements_left m (expression_cost m costs element) count index + A stack w ≤ k + t → B (step_repeating object count index level kind element stack e w)
  repeating object count index level kind element stack e w h = either_by (index == count) _ _ (λ last.
      gives_value (record { kind = kinds.Fat; value = Fat object 0 count 0 }) stack e w (omega (arith, h, elements_from m costs (X element) count index within))) (λ more.
      let other : index ≡ count → ⊥ = eqb-false index count more in
      let next : suc index ≤ count = omega (arith, within, other) in
      let turns : (count - index) * (t + X element) ≡ suc (count - suc index) * (t + X element) = ap (λ (n : ℕ). n * (t + X element)) (one_more next) in
      omega (arith, h, turns, suc-mul (count - suc index) (t + X element), elements_from m costs (X element) count index within, elements_from m costs (X element) count (suc index) next))
    where
      within : index ≤ count
      within = elements_within m costs (X element) count index (omega (arith, h, few))

      one_more : suc index ≤ count → count - index ≡ suc (count - suc index)
      one_more less = omega (arith, less)

  filling_element : (object count index level : ℕ) (kind : Kind) (element : Expression) (value : Operand) (stack : List Entry) (e : Environment) (w : World)
      → elements_left m (expression_cost m costs element) count (suc index) + A stack w ≤ k → B (fills_element object count index level kind element value stack e w)
  filling_element object count index level kind element value stack e w h =
      either (is_kind value.kind kind) _ _ (stores (cell_at w object index) object index value (Repeating object count (suc index) level kind element) stack e w refl h) tt

  making_initial : (owner : Owner) (initial : Initial) (stack : List Entry) (e : Environment) (w : World) → initial_cost m costs (site_of_owner owner) initial + A stack w ≤ k → B (makes owner initial stack e w)
  making_initial owner (Plain kind a) stack e w h = omega (arith, h)
  making_initial owner (Fields fields) stack e w h = making_fields owner [] fields stack e w h
  making_initial owner (Array place level count kind element) stack e w h =
      omega (arith, h, length_is m (λ (n : Option ℕ). array_cost m (site_of_owner owner) kind (expression_cost m costs element) n) (written_length count))

  allocating : (placement : Placement) (initial : Initial) (type : Ty) (stack : List Entry) (e : Environment) (w : World)
      → expression_cost m costs (New placement initial type) + A stack w ≤ k + t → B (allocates placement initial stack e w)
  allocating OnHeap initial type stack e w h = making_initial (InRegion 0) initial stack e w (omega (arith, h))
  allocating AsUnique initial type stack e w h = making_initial (Unique true) initial stack e w (omega (arith, h))
  allocating (ByHandle a) initial type stack e w h = omega (arith, h)

  placing : (initial : Initial) (value : Value) (stack : List Entry) (e : Environment) (w : World) → (value ≡ Handle heap_number → IsNoMore m) → initial_cost m costs sites.Region initial + t + A stack w ≤ k
      → B (makes_by initial value stack e w)
  placing initial (Handle zero) stack e w fits h = making_initial (InRegion 0) initial (Needs (BesideHandle 0) ∷ stack) e w (omega (arith, h, initial_no_more m costs (fits refl) initial))
  placing initial (Handle (suc region)) stack e w fits h = making_initial (InRegion (suc region)) initial (Needs (BesideHandle (suc region)) ∷ stack) e w (omega (arith, h))
  placing initial Null stack e w fits h = tt
  placing initial (Int n) stack e w fits h = tt
  placing initial (Thin object offset) stack e w fits h = tt
  placing initial (Fat object start count index) stack e w fits h = tt
  placing initial (Key region) stack e w fits h = tt

  -- ---- regions

  opening_by : (a : Access Region) (region number lent : ℕ) (items : Items) (stack : List Entry) (e : Environment) (w : World)
      → 3 * t + items_cost m costs items + A stack w ≤ k → B (opened_by a region number lent items stack e w)
  opening_by (Found r) region number lent items stack e w h = either (is_dynamic r.sort) _ _ (omega (arith, h)) tt
  opening_by Closed region number lent items stack e w h = tt
  opening_by Missing region number lent items stack e w h = tt

  opening_with : (number lent : ℕ) (items : Items) (key : Value) (stack : List Entry) (e : Environment) (w : World)
      → 3 * t + items_cost m costs items + A stack w ≤ k → B (opens_with number lent items key stack e w)
  opening_with number lent items (Key region) stack e w h = opening_by (region_at w region) region number lent items stack e w h
  opening_with number lent items Null stack e w h = tt
  opening_with number lent items (Int n) stack e w h = tt
  opening_with number lent items (Thin object offset) stack e w h = tt
  opening_with number lent items (Fat object start count index) stack e w h = tt
  opening_with number lent items (Handle region) stack e w h = tt

  closing_dynamic : (a : Access Region) (region : ℕ) (stack : List Entry) (e : Environment) (w : World) → region_at w region ≡ a → t + A stack w ≤ k → B (closes_dynamic a region stack e w)
  closing_dynamic (Found r) region stack e w is h = either (is_dynamic r.sort) _ _ (omega (arith, h, adds.closed w region r is)) tt
  closing_dynamic Closed region stack e w is h = tt
  closing_dynamic Missing region stack e w is h = tt

  closing_with : (key : Value) (stack : List Entry) (e : Environment) (w : World) → t + A stack w ≤ k → B (closes_with key stack e w)
  closing_with (Key region) stack e w h = closing_dynamic (region_at w region) region stack e w refl h
  closing_with Null stack e w h = tt
  closing_with (Int n) stack e w h = tt
  closing_with (Thin object offset) stack e w h = tt
  closing_with (Fat object start count index) stack e w h = tt
  closing_with (Handle region) stack e w h = tt

  freeing_in_region : (a : Access Region) (w : World) → B (frees_in_region a w)
  freeing_in_region (Found r) w = tt
  freeing_in_region Closed w = tt
  freeing_in_region Missing w = tt

  freeing_owned : (owner : Owner) (number : ℕ) (x : Object) (stack : List Entry) (e : Environment) (w : World) → slice_get w.objects number ≡ Some x → x.owner ≡ owner
      → t + A stack w ≤ k → B (frees_owned owner number x stack e w)
  freeing_owned (InRegion region) number x stack e w there is h = freeing_in_region (region_at w region) w
  freeing_owned (Unique true) number x stack e w there is h = omega (arith, h, adds.freed w number x there is)
  freeing_owned (Unique false) number x stack e w there is h = tt

  freeing_object : (o : Option Object) (number : ℕ) (stack : List Entry) (e : Environment) (w : World) → slice_get w.objects number ≡ o → t + A stack w ≤ k → B (frees_object o number stack e w)
  freeing_object (Some x) number stack e w there h = freeing_owned x.owner number x stack e w there refl h
  freeing_object None number stack e w there h = tt

  freeing : (value : Value) (stack : List Entry) (e : Environment) (w : World) → t + A stack w ≤ k → B (frees value stack e w)
  freeing Null stack e w h = h
  freeing (Thin object offset) stack e w h = either (offset == 0) _ _ (freeing_object (slice_get w.objects object) object stack e w refl h) tt
  freeing (Fat object start count index) stack e w h = either (start == 0) _ _ (freeing_object (slice_get w.objects object) object stack e w refl h) tt
  freeing (Int n) stack e w h = tt
  freeing (Handle region) stack e w h = tt
  freeing (Key region) stack e w h = tt

  throwing_value : (tag : ℕ) (value : Value) (stack : List Entry) (e : Environment) (w : World) → t + A stack w ≤ k → B (throws_value tag value stack e w)
  throwing_value tag (Int word) stack e w h = throws_now tag word stack e w h
  throwing_value tag Null stack e w h = tt
  throwing_value tag (Thin object offset) stack e w h = tt
  throwing_value tag (Fat object start count index) stack e w h = tt
  throwing_value tag (Handle region) stack e w h = tt
  throwing_value tag (Key region) stack e w h = tt

  -- ---- evaluation

  passing : (callee : Callee) (before : List Operand) (later : Arguments) (stack : List Entry) (e : Environment) (w : World)
      → arguments_cost m costs later + callee_cost m costs callee + A stack w ≤ k → B (passes callee before later stack e w)
  passing callee before NoArguments stack e w h = omega (arith, h)
  passing callee before (MoreArguments (Convert from to a) later) stack e w h = omega (arith, h)

  assigns : (o : Option ℕ) (c : Converted) (stack : List Entry) (e : Environment) (w : World) → 2 * t + converted_cost m costs c + A stack w ≤ k + t → B (assigned o c stack e w)
  assigns (Some object) (Convert from to a) stack e w h = omega (arith, h)
  assigns None c stack e w h = tt

  addressing : (o : Option ℕ) (stack : List Entry) (e : Environment) (w : World) → t + A stack w ≤ k → B (addressed o stack e w)
  addressing (Some object) stack e w h = gives_value (record { kind = kinds.NonNull; value = Thin object 0 }) stack e w h
  addressing None stack e w h = tt

  counting : (o : Option ℕ) (stack : List Entry) (e : Environment) (w : World) → t + A stack w ≤ k → B (counts o stack e w)
  counting (Some index) stack e w h = gives_value (int index) stack e w h
  counting None stack e w h = tt

  pub evaluating : (a : Expression) (stack : List Entry) (e : Environment) (w : World) → expression_cost m costs a + (S (delivered_by a) stack + counted w) ≤ k + t → B (step_evaluating a stack e w)
  evaluating (Number n) stack e w h = omega (arith, h)
  evaluating NullPointer stack e w h = gives_value (record { kind = kinds.Nullable; value = Null }) stack e w (omega (arith, h))
  evaluating HeapRegion stack e w h = gives_value (record { kind = kinds.Handle; value = Handle 0 }) stack e w (omega (arith, h))
  evaluating (Counter level) stack e w h = counting (e.counters level) stack e w (omega (arith, h))
  evaluating (Copy place type) stack e w h = loads_from (kind_of type) (object_of e place) stack e w (omega (arith, h))
  evaluating (Move p number type) stack e w h = loads_from (kind_of type) (e.locals number) stack e w (omega (arith, h))
  evaluating (Peek p number type) stack e w h = loads_from (kind_of type) (e.locals number) stack e w (omega (arith, h))
  evaluating (Load d) stack e w h = omega (arith, h)
  evaluating (AddressOf place type) stack e w h = addressing (object_of e place) stack e w (omega (arith, h))
  evaluating (AddressOfCell d type) stack e w h = omega (arith, h)
  evaluating (NumberOfElements a) stack e w h = omega (arith, h)
  evaluating (FreeUnique a) stack e w h = omega (arith, h)
  evaluating (FreeKey a) stack e w h = omega (arith, h)
  evaluating (Call callee later type) stack e w h = passing callee [] later stack e w (omega (arith, h))
  evaluating (Unary operator a) stack e w h = omega (arith, h)
  evaluating (Binary a rest type) stack e w h = omega (arith, h)
  evaluating (Assign place c type) stack e w h = assigns (object_of e place) c stack e w h
  evaluating (typed.Store d c type) stack e w h = omega (arith, h)
  evaluating (New placement initial type) stack e w h = allocating placement initial type stack e w h

  deciding : (decides fails : Bool) (b : Expression) (rest : Operations) (stack : List Entry) (e : Environment) (w : World)
      → expression_cost m costs b + t + operations_cost m costs rest + t + A stack w ≤ k → B (decided decides fails b rest stack e w)
  deciding true fails b rest stack e w h = gives_value (int (if fails then 0 else 1)) (Needs (Chain rest) ∷ stack) e w (omega (arith, h))
  deciding false fails b rest stack e w h = omega (arith, h)

  testing : (o : Option Bool) (operator : LogicalOperator) (b : Expression) (rest : Operations) (stack : List Entry) (e : Environment) (w : World)
      → expression_cost m costs b + t + operations_cost m costs rest + t + A stack w ≤ k → B (tested o operator b rest stack e w)
  testing (Some fails) operator b rest stack e w h = deciding (decides operator fails) fails b rest stack e w h
  testing None operator b rest stack e w h = tt

  awaiting_right : (fits : Bool) (waiting : Awaiting) (b : Expression) (rest : Operations) (stack : List Entry) (e : Environment) (w : World)
      → expression_cost m costs b + (S (delivered_by b) (Needs waiting ∷ Needs (Chain rest) ∷ stack) + counted w) ≤ k → B (awaits_right fits waiting b rest stack e w)
  awaiting_right true waiting b rest stack e w h = h
  awaiting_right false waiting b rest stack e w h = tt

  chaining : (rest : Operations) (value : Operand) (stack : List Entry) (e : Environment) (w : World) → operations_cost m costs rest + t + A stack w ≤ k → B (chained rest value stack e w)
  chaining NoOperations value stack e w h = gives_value value stack e w (omega (arith, h))
  chaining (ThenCompute operator b rest) value stack e w h = awaiting_right (is_kind value.kind kinds.Int) (Apply operator value) b rest stack e w (omega (arith, h))
  chaining (ThenTest operator b rest) value stack e w h = testing (is_zero value.value) operator b rest stack e w (omega (arith, h))
  chaining (ThenPointer operator b rest) value stack e w h = awaiting_right (takes_kind operator value.kind) (ApplyPointer None operator value) b rest stack e w (omega (arith, h))
  chaining (ThenPointerPeek number operator b rest) value stack e w h =
      awaiting_right (takes_kind operator value.kind) (ApplyPointer (Some number) operator value) b rest stack e w (omega (arith, h))

  telling : (negated : Bool) (a : Access Bool) (stack : List Entry) (e : Environment) (w : World) → t + A stack w ≤ k → B (tells negated a stack e w)
  telling false (Found equal) stack e w h = gives_value (int (truth equal)) stack e w h
  telling true (Found equal) stack e w h = gives_value (int (if equal then 0 else 1)) stack e w h
  telling false Closed stack e w h = tt
  telling true Closed stack e w h = tt
  telling false Missing stack e w h = tt
  telling true Missing stack e w h = tt

  applying_pointer : (operator : PointerOperator) (first second : Value) (stack : List Entry) (e : Environment) (w : World) → t + A stack w ≤ k → B (applies_pointer operator first second stack e w)
  applying_pointer pointers.EqualThin first second stack e w h = telling false (compared w first second) stack e w h
  applying_pointer pointers.NotEqualThin first second stack e w h = telling true (compared w first second) stack e w h
  applying_pointer pointers.AddFat first second stack e w h = computes _ (pointer_result pointers.AddFat first second) stack e w h
  applying_pointer pointers.SubtractFat first second stack e w h = computes _ (pointer_result pointers.SubtractFat first second) stack e w h
  applying_pointer pointers.ThinIsNull first second stack e w h = computes _ (pointer_result pointers.ThinIsNull first second) stack e w h
  applying_pointer pointers.ThinIsNotNull first second stack e w h = computes _ (pointer_result pointers.ThinIsNotNull first second) stack e w h
  applying_pointer pointers.FatIsNull first second stack e w h = computes _ (pointer_result pointers.FatIsNull first second) stack e w h
  applying_pointer pointers.FatIsNotNull first second stack e w h = computes _ (pointer_result pointers.FatIsNotNull first second) stack e w h
  applying_pointer pointers.NullIs first second stack e w h = computes _ (pointer_result pointers.NullIs first second) stack e w h
  applying_pointer pointers.NullIsNot first second stack e w h = computes _ (pointer_result pointers.NullIsNot first second) stack e w h

  choosing : (o : Option Bool) (first second : Statement) (stack : List Entry) (e : Environment) (w : World)
      → statement_cost m costs first + t + A stack w ≤ k → statement_cost m costs second + t + A stack w ≤ k → B (chosen o first second stack e w)
  choosing (Some true) first second stack e w one other = omega (arith, other)
  choosing (Some false) first second stack e w one other = omega (arith, one)
  choosing None first second stack e w one other = tt

  -- the cost of a loop; the cost has a bound only if the condition and the body of the loop cost nothing
  abbrev pub L : Expression → Statement → ℕ
  L condition body = loop_cost (t + (expression_cost m costs condition + statement_cost m costs body))

  pub testing_loop : (condition : Expression) (body : Statement) (stack : List Entry) (e : Environment) (w : World) → L condition body + A stack w ≤ k + t → B (steps.tests condition body stack e w)
  testing_loop condition body stack e w h =
      let free = loop_is_free (t + (expression_cost m costs condition + statement_cost m costs body)) (omega (arith, h, few)) in
      omega (arith, h, free)

  looping : (o : Option Bool) (condition : Expression) (body : Statement) (stack : List Entry) (e : Environment) (w : World) → L condition body + A stack w ≤ k → B (looped o condition body stack e w)
  looping (Some true) condition body stack e w h =
      let free = loop_is_free (t + (expression_cost m costs condition + statement_cost m costs body)) (omega (arith, h, few)) in
      omega (arith, h, free)
  looping (Some false) condition body stack e w h =
      let free = loop_is_free (t + (expression_cost m costs condition + statement_cost m costs body)) (omega (arith, h, few)) in
      omega (arith, h, free)
  looping None condition body stack e w h = tt

  supplying : (a : Awaiting) (v : Operand) (stack : List Entry) (e : Environment) (w : World) → (v.value ≡ Handle heap_number → IsNoMore m)
      → awaiting_cost m costs (OfKind v.kind (number_of v.value)) a + S (entry_delivers (Needs a)) stack + counted w ≤ k → B (supplied a v stack e w)
  supplying (ConvertTo from to target) v stack e w fits h =
      either (is_kind v.kind from && leads_to w target (followed v.value)) _ _ (computes_as to (conversion to v.value) stack e w (omega (arith, h))) tt
  supplying (Operate operator) v stack e w fits h = computes (unary_kind operator) (unary_result operator v.value) stack e w (omega (arith, h))
  supplying (Chain rest) v stack e w fits h = chaining rest v stack e w (omega (arith, h))
  supplying (Apply operator before) v stack e w fits h = computes kinds.Int (binary_result operator before.value v.value) stack e w (omega (arith, h))
  supplying (ApplyPointer peek operator before) v stack e w fits h = applying_pointer operator before.value v.value stack e w (omega (arith, h))
  supplying Decide v stack e w fits h = computes kinds.Int (truth_of (is_zero v.value)) stack e w (omega (arith, h))
  supplying (Store place) v stack e w fits h = stores_given place v stack e w (omega (arith, h))
  supplying (StoreCell peek place) v stack e w fits h = stores_given place v stack e w (omega (arith, h))
  supplying (Pass callee before later) v stack e w fits h = passing callee (v ∷ before) later stack e w (omega (arith, h))
  supplying (Follow pointer target) v stack e w fits h =
      either (is_kind v.kind pointer && leads_to w target (followed v.value)) _ _ (arriving (followed v.value) stack e w (omega (arith, h))) tt
  supplying (FollowMember pointer fields field) v stack e w fits h = either (is_kind v.kind pointer) _ _ (arriving (member_of w (followed v.value) fields field) stack e w (omega (arith, h))) tt
  supplying (Index peek target index) v stack e w fits h = either (is_kind v.kind kinds.Fat) _ _ (omega (arith, h)) tt
  supplying (Advance peek target base) v stack e w fits h = computes kinds.Fat (pointer_result pointers.AddFat base.value v.value) (Needs (Follow kinds.Fat target) ∷ stack) e w (omega (arith, h))
  supplying CountElements v stack e w fits h = computes kinds.Int (element_count v.value) stack e w (omega (arith, h))
  supplying FreeObject v stack e w fits h = freeing v.value stack e w (omega (arith, h))
  supplying CloseByKey v stack e w fits h = closing_with v.value stack e w (omega (arith, h))
  supplying (PlaceBy initial) v stack e w fits h = placing initial v.value stack e w fits (omega (arith, h))
  supplying (BesideHandle region) v stack e w fits h = gives_value v stack e w (omega (arith, h))
  supplying (MakePlain owner kind) v stack e w fits h = making_plain owner kind v stack e w (omega (arith, h))
  supplying (MakeFields owner before fields) v stack e w fits h = making_fields owner (v ∷ before) fields stack e w (omega (arith, h))
  supplying (MakeArray owner level kind element) v stack e w fits h = making_array owner level kind element v.value stack e w (omega (arith, h))
  supplying (FillElement object count index level kind element) v stack e w fits h = filling_element object count index level kind element v stack e w (omega (arith, h))
  supplying (Initialise number kind items) v stack e w fits h =
      either (is_kind v.kind kind) _ _ (names (region_at w e.home) Proceeding number kind (Some v.value) (Rest items ∷ stack) e w (omega (arith, h))) tt
  supplying (Choose first second) v stack e w fits h = choosing (is_zero v.value) first second stack e w (omega (arith, h)) (omega (arith, h))
  supplying (Test condition body) v stack e w fits h = looping (is_zero v.value) condition body stack e w (omega (arith, h))
  supplying Return v stack e w fits h = returns_now (Some v) stack e w (omega (arith, h))
  supplying (ThrowWith tag) v stack e w fits h = throwing_value tag v.value stack e w (omega (arith, h))
  supplying (OpenBy number lent items) v stack e w fits h = opening_with number lent items v.value stack e w (omega (arith, h))
  supplying (AliasOf number lent items) v stack e w fits h = omega (arith, h)

  pub given : (v : Operand) (stack : List Entry) (e : Environment) (w : World) → (v.value ≡ Handle heap_number → IsNoMore m) → t + (S (OfKind v.kind (number_of v.value)) stack + counted w) ≤ k + t → B (step_given v stack e w)
  given v [] e w fits h = tt
  given v (Needs a ∷ stack) e w fits h = supplying a v stack e w fits (omega (arith, h))
  given v (Discard ∷ stack) e w fits h = omega (arith, h)
  given v (NeedsPlace a ∷ stack) e w fits h = tt
  given v (Rest items ∷ stack) e w fits h = tt
  given v (Join ∷ stack) e w fits h = tt
  given v (Loop condition body ∷ stack) e w fits h = tt
  given v (CloseRegion region home ∷ stack) e w fits h = tt
  given v (CloseLexical region ∷ stack) e w fits h = tt
  given v (EndLoan lent ∷ stack) e w fits h = tt
  given v (Handler handler ∷ stack) e w fits h = tt
  given v (Caller outer ∷ stack) e w fits h = tt
  given v (Main ∷ stack) e w fits h = tt
