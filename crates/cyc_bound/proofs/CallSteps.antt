-- Invariant of steps: the functions of the active calls form a chain in which each function calls the next.
use Rattle.std.proofs.Common.{◌≡◌, ℕ, suc, Bool, true, false, List, [], ◌∷◌, ◌++◌, length, reverse, Option, Some, None, refl}
use Rattle.std.specs.Prelude.{◌==◌, ◌*◌, ◌&&◌, nat_le, if◌then◌else◌, slice_get}
use Rattle.cyc_words.proofs.Members.{all_append_parts}
use Rattle.cyc_words.proofs.Lists.{all_append}
use Rattle.cyc_types.specs.declared.typed.Kind.{Kind}
use Rattle.cyc_types.specs.declared.typed.Kind.TheVariants as kinds
use Rattle.cyc_types.specs.declared.typed.Callee.{Callee}
use Rattle.cyc_types.specs.declared.typed.Callee.TheVariants as callees
use Rattle.cyc_types.specs.declared.typed.LogicalOperator.{LogicalOperator}
use Rattle.cyc_types.specs.declared.typed.PointerOperator.{PointerOperator}
use Rattle.cyc_types.specs.declared.typed.PointerOperator.TheVariants as pointers
use Rattle.cyc_types.specs.Types.{Ty}
use Rattle.cyc_types.specs.TypedTrees.{Expression, Number, NullPointer, HeapRegion, Counter, Copy, Move, Peek, Load, AddressOf, AddressOfCell, NumberOfElements, FreeUnique, FreeKey, Call, Unary, Binary, Assign, New}
use Rattle.cyc_types.specs.TypedTrees.{Dereference, Target, Member, Element, Placement, OnHeap, AsUnique, ByHandle, Initial, Plain, Fields, Array, Converted, Convert, Arguments, NoArguments, MoreArguments, Operations}
use Rattle.cyc_types.specs.TypedTrees.{NoOperations, ThenCompute, ThenTest, ThenPointer, ThenPointerPeek, Side, VariableSide, CellSide, Statement, Block, Empty, Evaluate, Swap, If, While, Break, Continue, Throw}
use Rattle.cyc_types.specs.TypedTrees.{Try, Items, NoItems, MoreItems, Execute, Declare, DeclareRegion, OpenRegion, DeclareAlias, DeclareKey, Clauses, NoClauses, Default, Case, StructType, Function, Program}
use Rattle.cyc_types.specs.TypedTrees as typed
use Rattle.cyc_meaning.specs.Values.{Value, Int, Null, Thin, Fat, Handle, Key, Operand, kind_of, is_kind, bytes_of_kind, words_for}
use Rattle.cyc_meaning.specs.Operators.{Result, Gives, Raises, Misfits, is_zero, binary_result, unary_result, unary_kind, truth_of, decides}
use Rattle.cyc_meaning.specs.Pointers.{element_count, pointer_result, result_kind, takes_kind, Reach, At, Stops, Nowhere, followed}
use Rattle.cyc_meaning.specs.Conversion.{conversion}
use Rattle.cyc_meaning.specs.State.{Region, Owner, InRegion, Unique, Object, World, Access, Found, Closed, Missing, region_at, Located, cell_at, Environment, Awaiting, ConvertTo, Operate, Chain, Apply, ApplyPointer, Decide, Store, StoreCell}
use Rattle.cyc_meaning.specs.State.{Pass, Follow, FollowMember, Index, Advance, CountElements, FreeObject, CloseByKey, PlaceBy, BesideHandle, MakePlain, MakeFields, MakeArray, FillElement, Initialise, Choose, Test, Return, ThrowWith, OpenBy}
use Rattle.cyc_meaning.specs.State.{AliasOf, LoadFrom, TakeAddress, StoreTo, SwapLeft, SwapRight, Entry, Needs, NeedsPlace, Discard, Rest, Join, Loop, CloseRegion, CloseLexical, EndLoan, Handler, Caller, Main, Write, Focus, Evaluating, Locating}
use Rattle.cyc_meaning.specs.State.{Given, GivenPlace, Executing, Proceeding, Calling, Entering, Binding, Naming, Writing, Beginning, Repeating, Swapping, Breaking, Continuing, Returning, Throwing, Catching, State, Running, Ended, Dead, Wrong}
use Rattle.cyc_meaning.specs.Objects.{compared, created}
use Rattle.cyc_meaning.specs.Parts.{computed, leads_to, object_of, read, loaded, loaded_from, stored, stored_at, step_writing, declared, closing}
use Rattle.cyc_meaning.specs.Places.{arrives, member_of, locates_member, step_locating, loaded_at, step_given_place}
use Rattle.cyc_meaning.specs.Swaps.{finds_right_object, finds_right, finds_left_object, swaps, swap_content, swap_loaded, swap_loaded_at, step_swapping}
use Rattle.cyc_meaning.specs.Allocation.{blanks_of, filled, makes_of, makes_fields, blanks, begun, makes_array, fills_element, makes, makes_by, allocates, most_words}
use Rattle.cyc_meaning.specs.Exceptions.{throws, throws_value, catches, step_catching}
use Rattle.cyc_meaning.specs.Regions.{is_dynamic, closing_lexical, opened_by, opens_with, closes_dynamic, closes_with, frees_in_region, frees_owned, frees_object, frees}
use Rattle.cyc_meaning.specs.Step.{values_of, called, step_calling, step_binding, passes, assigned, addressed, counts, step_evaluating, decided, tested, awaits_right, chained, tells, applies_pointer, chosen, looped}
use Rattle.cyc_meaning.specs.Step.{supplied, step_given, step_executing, declares, continues_with, step_proceeding, step_breaking, step_continuing, returned, ends_with, main_returned, step_returning, step_throwing, stepped}
use Rattle.cyc_meaning.specs.Step as steps
use Rattle.cyc_bound.specs.Callees.{callee_of, expression_callees, dereference_callees, placement_callees, initial_callees, converted_callees, arguments_callees, operations_callees, value_callees, thrown_callees, side_callees, statement_callees, items_callees, clauses_callees}
use Rattle.cyc_bound.specs.Bound.{Calls}
use Rattle.cyc_bound.specs.inside.UnderWay.{awaiting_callees, focus_callees, AreOf, Waits, IsIn}
use Rattle.cyc_bound.proofs.CallLemmas.{body_is_of}

-- says that the newest active call of a running state is a call of some function
abbrev pub IsInSome : Program → State → Type 0
IsInSome program s = (function : ℕ) × IsIn program function s

-- ---- steps within one call

module _ (program : Program) (f : ℕ) where
  abbrev C : List ℕ → Type 0
  C callees = AreOf program f callees

  abbrev W : List Entry → Type 0
  W stack = Waits program f stack

  abbrev I : State → Type 0
  I s = IsIn program f s

  split : (xs ys : List ℕ) → C (xs ++ ys) → C xs × C ys
  split xs ys h = all_append_parts (λ (callee : ℕ). Calls program f callee) xs ys h

  either : (b : Bool) (s t : State) → I s → I t → I (if b then s else t)
  either true s t first second = first
  either false s t first second = second

  computes : (kind : Kind) (r : Result) (stack : List Entry) (e : Environment) (w : World) → W stack → I (computed kind r stack e w)
  computes kind (Gives value) stack e w h = (tt, h)
  computes kind (Raises tag) stack e w h = (tt, h)
  computes kind Misfits stack e w h = tt

  reads_cell : (kind : Kind) (o : Option Value) (stack : List Entry) (e : Environment) (w : World) → W stack → I (read kind o stack e w)
  reads_cell kind (Some value) stack e w h = (tt, h)
  reads_cell kind None stack e w h = tt

  loads : (kind : Kind) (a : Access Located) (stack : List Entry) (e : Environment) (w : World) → W stack → I (loaded kind a stack e w)
  loads kind (Found at) stack e w h = either (is_kind at.cell.kind kind) _ _ (reads_cell kind at.cell.content stack e w h) tt
  loads kind Closed stack e w h = tt
  loads kind Missing stack e w h = tt

  loads_from : (kind : Kind) (o : Option ℕ) (stack : List Entry) (e : Environment) (w : World) → W stack → I (loaded_from kind o stack e w)
  loads_from kind (Some object) stack e w h = loads kind (cell_at w object 0) stack e w h
  loads_from kind None stack e w h = tt

  stores : (a : Access Located) (object offset : ℕ) (v : Operand) (focus : Focus) (stack : List Entry) (e : Environment) (w : World) → C (focus_callees focus) → W stack → I (stored a object offset v focus stack e w)
  stores (Found at) object offset v focus stack e w now h = either (is_kind at.cell.kind v.kind) _ _ (now, h) tt
  stores Closed object offset v focus stack e w now h = tt
  stores Missing object offset v focus stack e w now h = tt

  stores_at : (place : Value) (v : Operand) (focus : Focus) (stack : List Entry) (e : Environment) (w : World) → C (focus_callees focus) → W stack → I (stored_at place v focus stack e w)
  stores_at (Thin object offset) v focus stack e w now h = stores (cell_at w object offset) object offset v focus stack e w now h
  stores_at place v focus stack e w now h = tt

  writing : (writes : List Write) (o : Option Operand) (stack : List Entry) (e : Environment) (w : World) → W stack → I (step_writing writes o stack e w)
  writing [] (Some v) stack e w h = (tt, h)
  writing [] None stack e w h = (tt, h)
  writing (x ∷ writes) result stack e w h = stores_at x.place x.operand (Writing writes result) stack e w tt h

  names : (a : Access Region) (focus : Focus) (number : ℕ) (kind : Kind) (content : Option Value) (stack : List Entry) (e : Environment) (w : World) → C (focus_callees focus) → W stack → I (declared a focus number kind content stack e w)
  names (Found r) focus number kind content stack e w now h = (now, h)
  names Closed focus number kind content stack e w now h = tt
  names Missing focus number kind content stack e w now h = tt

  closes : (a : Access Region) (focus : Focus) (region home : ℕ) (stack : List Entry) (e : Environment) (w : World) → C (focus_callees focus) → W stack → I (closing a focus region home stack e w)
  closes (Found r) focus region home stack e w now h = (now, h)
  closes Closed focus region home stack e w now h = tt
  closes Missing focus region home stack e w now h = tt

  closes_lexical : (a : Access Region) (focus : Focus) (region : ℕ) (stack : List Entry) (e : Environment) (w : World) → C (focus_callees focus) → W stack → I (closing_lexical a focus region stack e w)
  closes_lexical (Found r) focus region stack e w now h = (now, h)
  closes_lexical Closed focus region stack e w now h = tt
  closes_lexical Missing focus region stack e w now h = tt

  putchar_prints : (arguments : List Value) (stack : List Entry) (e : Environment) (w : World) → W stack → I (steps.prints arguments stack e w)
  putchar_prints (Int word ∷ []) stack e w h = (tt, h)
  putchar_prints arguments stack e w h = tt

  getchar_reads : (arguments : List Value) (stack : List Entry) (e : Environment) (w : World) → W stack → I (steps.reads arguments stack e w)
  getchar_reads [] stack e w h = (tt, h)
  getchar_reads (value ∷ arguments) stack e w h = tt

  binding : (number : ℕ) (types : List Ty) (arguments : List Operand) (body : Items) (stack : List Entry) (e : Environment) (w : World) → C (items_callees body) → W stack → I (step_binding number types arguments body stack e w)
  binding number [] [] body stack e w now h = (tt, (now, h))
  binding number [] (value ∷ arguments) body stack e w now h = tt
  binding number (t ∷ types) [] body stack e w now h = tt
  binding number (t ∷ types) (value ∷ arguments) body stack e w now h =
      either (is_kind value.kind (kind_of t)) _ _ (names (region_at w e.home) (Binding (suc number) types arguments body) number (kind_of t) (Some value.value) stack e w now h) tt

  -- ---- places

  arriving : (r : Reach) (stack : List Entry) (e : Environment) (w : World) → W stack → I (arrives r stack e w)
  arriving (At object offset) stack e w h = (tt, h)
  arriving (Stops tag) stack e w h = (tt, h)
  arriving Nowhere stack e w h = tt

  locating_member : (o : Option StructType) (pointer : Kind) (a : Expression) (field : ℕ) (stack : List Entry) (e : Environment) (w : World) → C (expression_callees a) → W stack → I (locates_member o pointer a field stack e w)
  locating_member (Some s) pointer a field stack e w now h = (now, (tt, h))
  locating_member None pointer a field stack e w now h = tt

  locating : (d : Dereference) (stack : List Entry) (e : Environment) (w : World) → C (dereference_callees d) → W stack → I (step_locating program d stack e w)
  locating (Target pointer a t) stack e w now h = (now, (tt, h))
  locating (Member pointer a s field t) stack e w now h = locating_member (slice_get program.structs s) pointer a field stack e w now h
  locating (Element a i t) stack e w now h = let k = split (expression_callees a) (expression_callees i) now in (k.0, (k.1, h))

  loading_at : (kind : Kind) (place : Value) (stack : List Entry) (e : Environment) (w : World) → W stack → I (loaded_at kind place stack e w)
  loading_at kind (Thin object offset) stack e w h = loads kind (cell_at w object offset) stack e w h
  loading_at kind place stack e w h = tt

  -- ---- swaps

  finding_right : (kind : Kind) (peek : Option ℕ) (is_cell : Bool) (left : Value) (right : Side) (stack : List Entry) (e : Environment) (w : World) → C (side_callees right) → W stack → I (finds_right kind peek is_cell left right stack e w)
  finding_right kind peek is_cell left (VariableSide l t) stack e w now h = go (object_of e l)
    where
      go : (o : Option ℕ) → I (finds_right_object kind left o stack e w)
      go (Some object) = (tt, h)
      go None = tt
  finding_right kind peek is_cell left (CellSide d) stack e w now h = (now, (tt, h))

  swapping : (left right : Side) (stack : List Entry) (e : Environment) (w : World) → C (side_callees left ++ side_callees right) → W stack → I (swaps left right stack e w)
  swapping (VariableSide l t) right stack e w now h = go (object_of e l)
    where
      go : (o : Option ℕ) → I (finds_left_object (kind_of t) o right stack e w)
      go (Some object) = finding_right (kind_of t) None false (Thin object 0) right stack e w now h
      go None = tt
  swapping (CellSide d) right stack e w now h = let k = split (dereference_callees d) (side_callees right) now in (k.0, (k.1, h))

  swap_reads : (kind : Kind) (left right : Value) (before : Option Operand) (o : Option Value) (stack : List Entry) (e : Environment) (w : World) → W stack → I (swap_content kind left right before o stack e w)
  swap_reads kind left right None (Some value) stack e w h = (tt, h)
  swap_reads kind left right (Some before) (Some value) stack e w h = (tt, h)
  swap_reads kind left right before None stack e w h = tt

  swap_loads : (kind : Kind) (left right : Value) (before : Option Operand) (a : Access Located) (stack : List Entry) (e : Environment) (w : World) → W stack → I (swap_loaded kind left right before a stack e w)
  swap_loads kind left right before (Found at) stack e w h = either (is_kind at.cell.kind kind) _ _ (swap_reads kind left right before at.cell.content stack e w h) tt
  swap_loads kind left right before Closed stack e w h = tt
  swap_loads kind left right before Missing stack e w h = tt

  swap_loads_at : (kind : Kind) (left right : Value) (before : Option Operand) (place : Value) (stack : List Entry) (e : Environment) (w : World) → W stack → I (swap_loaded_at kind left right before place stack e w)
  swap_loads_at kind left right before (Thin object offset) stack e w h = swap_loads kind left right before (cell_at w object offset) stack e w h
  swap_loads_at kind left right before place stack e w h = tt

  swapping_values : (kind : Kind) (left right : Value) (o : Option Operand) (stack : List Entry) (e : Environment) (w : World) → W stack → I (step_swapping kind left right o stack e w)
  swapping_values kind left right None stack e w h = swap_loads_at kind left right None left stack e w h
  swapping_values kind left right (Some before) stack e w h = swap_loads_at kind left right (Some before) right stack e w h

  given_place : (place : Value) (stack : List Entry) (e : Environment) (w : World) → W stack → I (step_given_place place stack e w)
  given_place place [] e w h = tt
  given_place place (NeedsPlace (LoadFrom kind) ∷ stack) e w h = loading_at kind place stack e w h.1
  given_place place (NeedsPlace TakeAddress ∷ stack) e w h = (tt, h.1)
  given_place place (NeedsPlace (StoreTo peek (Convert from to a)) ∷ stack) e w h = (h.0, (tt, (tt, h.1)))
  given_place place (NeedsPlace (SwapLeft kind peek right) ∷ stack) e w h = finding_right kind peek true place right stack e w h.0 h.1
  given_place place (NeedsPlace (SwapRight kind peek is_cell left) ∷ stack) e w h = (tt, h.1)
  given_place place (entry ∷ stack) e w h = tt

  -- ---- new objects

  filling : (a : Access World) (object : ℕ) (values : List Operand) (stack : List Entry) (e : Environment) (w : World) → W stack → I (filled a object values stack e w)
  filling (Found new) object values stack e w h = (tt, h)
  filling Closed object values stack e w h = tt
  filling Missing object values stack e w h = tt

  making : (owner : Owner) (values : List Operand) (stack : List Entry) (e : Environment) (w : World) → W stack → I (makes_of owner values stack e w)
  making owner values stack e w h = filling (created w owner (blanks_of values)) (length w.objects) values stack e w h

  making_fields : (owner : Owner) (before : List Operand) (fields : Arguments) (stack : List Entry) (e : Environment) (w : World) → C (arguments_callees fields) → W stack → I (makes_fields owner before fields stack e w)
  making_fields owner before NoArguments stack e w now h = making owner (reverse before) stack e w h
  making_fields owner before (MoreArguments (Convert from to a) fields) stack e w now h =
      let k = split (expression_callees a) (arguments_callees fields) now in (k.0, (tt, (k.1, h)))

  begins : (a : Access World) (object count level : ℕ) (kind : Kind) (element : Expression) (stack : List Entry) (e : Environment) (w : World) → C (expression_callees element) → W stack → I (begun a object count level kind element stack e w)
  begins (Found new) object count level kind element stack e w now h = (now, h)
  begins Closed object count level kind element stack e w now h = tt
  begins Missing object count level kind element stack e w now h = tt

  making_array : (owner : Owner) (level : ℕ) (kind : Kind) (element : Expression) (value : Value) (stack : List Entry) (e : Environment) (w : World) → C (expression_callees element) → W stack → I (makes_array owner level kind element value stack e w)
  making_array owner level kind element (Int count) stack e w now h =
      either (nat_le (words_for (count * bytes_of_kind kind)) most_words) _ _ (now, h) (tt, h)
  making_array owner level kind element value stack e w now h = tt

  filling_element : (object count index level : ℕ) (kind : Kind) (element : Expression) (value : Operand) (stack : List Entry) (e : Environment) (w : World) → C (expression_callees element) → W stack → I (fills_element object count index level kind element value stack e w)
  filling_element object count index level kind element value stack e w now h =
      either (is_kind value.kind kind) _ _ (stores (cell_at w object index) object index value (Repeating object count (suc index) level kind element) stack e w now h) tt

  making_initial : (owner : Owner) (initial : Initial) (stack : List Entry) (e : Environment) (w : World) → C (initial_callees initial) → W stack → I (makes owner initial stack e w)
  making_initial owner (Plain kind a) stack e w now h = (now, (tt, h))
  making_initial owner (Fields fields) stack e w now h = making_fields owner [] fields stack e w now h
  making_initial owner (Array place level count kind element) stack e w now h =
      let k = split (expression_callees count) (expression_callees element) now in (k.0, (k.1, h))

  allocating : (placement : Placement) (initial : Initial) (stack : List Entry) (e : Environment) (w : World) → C (placement_callees placement ++ initial_callees initial) → W stack → I (allocates placement initial stack e w)
  allocating OnHeap initial stack e w now h = making_initial (InRegion 0) initial stack e w now h
  allocating AsUnique initial stack e w now h = making_initial (Unique true) initial stack e w now h
  allocating (ByHandle a) initial stack e w now h = let k = split (expression_callees a) (initial_callees initial) now in (k.0, (k.1, h))

  placing : (initial : Initial) (value : Value) (stack : List Entry) (e : Environment) (w : World) → C (initial_callees initial) → W stack → I (makes_by initial value stack e w)
  placing initial (Handle region) stack e w now h = making_initial (InRegion region) initial (Needs (BesideHandle region) ∷ stack) e w now (tt, h)
  placing initial value stack e w now h = tt

  -- ---- regions

  opening_by : (a : Access Region) (region number lent : ℕ) (items : Items) (stack : List Entry) (e : Environment) (w : World) → C (items_callees items) → W stack → I (opened_by a region number lent items stack e w)
  opening_by (Found r) region number lent items stack e w now h = either (is_dynamic r.sort) _ _ (now, (tt, h)) tt
  opening_by Closed region number lent items stack e w now h = tt
  opening_by Missing region number lent items stack e w now h = tt

  opening_with : (number lent : ℕ) (items : Items) (key : Value) (stack : List Entry) (e : Environment) (w : World) → C (items_callees items) → W stack → I (opens_with number lent items key stack e w)
  opening_with number lent items (Key region) stack e w now h = opening_by (region_at w region) region number lent items stack e w now h
  opening_with number lent items value stack e w now h = tt

  closing_dynamic : (a : Access Region) (region : ℕ) (stack : List Entry) (e : Environment) (w : World) → W stack → I (closes_dynamic a region stack e w)
  closing_dynamic (Found r) region stack e w h = either (is_dynamic r.sort) _ _ (tt, h) tt
  closing_dynamic Closed region stack e w h = tt
  closing_dynamic Missing region stack e w h = tt

  closing_with : (key : Value) (stack : List Entry) (e : Environment) (w : World) → W stack → I (closes_with key stack e w)
  closing_with (Key region) stack e w h = closing_dynamic (region_at w region) region stack e w h
  closing_with value stack e w h = tt

  freeing_in_region : (a : Access Region) (w : World) → I (frees_in_region a w)
  freeing_in_region (Found r) w = tt
  freeing_in_region Closed w = tt
  freeing_in_region Missing w = tt

  freeing_owned : (owner : Owner) (number : ℕ) (x : Object) (stack : List Entry) (e : Environment) (w : World) → W stack → I (frees_owned owner number x stack e w)
  freeing_owned (InRegion region) number x stack e w h = freeing_in_region (region_at w region) w
  freeing_owned (Unique true) number x stack e w h = (tt, h)
  freeing_owned (Unique false) number x stack e w h = tt

  freeing_object : (o : Option Object) (number : ℕ) (stack : List Entry) (e : Environment) (w : World) → W stack → I (frees_object o number stack e w)
  freeing_object (Some x) number stack e w h = freeing_owned x.owner number x stack e w h
  freeing_object None number stack e w h = tt

  freeing : (value : Value) (stack : List Entry) (e : Environment) (w : World) → W stack → I (frees value stack e w)
  freeing Null stack e w h = (tt, h)
  freeing (Thin object offset) stack e w h = either (offset == 0) _ _ (freeing_object (slice_get w.objects object) object stack e w h) tt
  freeing (Fat object start count index) stack e w h = either (start == 0) _ _ (freeing_object (slice_get w.objects object) object stack e w h) tt
  freeing value stack e w h = tt

  -- ---- exceptions

  throwing_new : (tag : ℕ) (o : Option Expression) (stack : List Entry) (e : Environment) (w : World) → C (thrown_callees o) → W stack → I (throws tag o stack e w)
  throwing_new tag None stack e w now h = (tt, h)
  throwing_new tag (Some a) stack e w now h = (now, (tt, h))

  throwing_value : (tag : ℕ) (value : Value) (stack : List Entry) (e : Environment) (w : World) → W stack → I (throws_value tag value stack e w)
  throwing_value tag (Int word) stack e w h = (tt, h)
  throwing_value tag value stack e w h = tt

  catching_in : (value : ℕ) (number : Option ℕ) (items : Items) (stack : List Entry) (e : Environment) (w : World) → C (items_callees items) → W stack → I (catches value number items stack e w)
  catching_in value None items stack e w now h = (tt, (now, (tt, h)))
  catching_in value (Some number) items stack e w now h = (now, (tt, h))

  catching : (tag value : ℕ) (clauses : Clauses) (stack : List Entry) (e : Environment) (w : World) → C (clauses_callees clauses) → W stack → I (step_catching tag value clauses stack e w)
  catching tag value NoClauses stack e w now h = (tt, h)
  catching tag value (Default region items) stack e w now h = catching_in value None items stack e w now h
  catching tag value (Case caught number region items later) stack e w now h =
      let k = split (items_callees items) (clauses_callees later) now in
      either (caught == tag) _ _ (catching_in value number items stack e w k.0 h) (k.1, h)

  -- ---- evaluation

  passing : (callee : Callee) (before : List Operand) (later : Arguments) (stack : List Entry) (e : Environment) (w : World) → C (arguments_callees later ++ callee_of callee) → W stack → I (passes callee before later stack e w)
  passing callee before NoArguments stack e w now h = (now, h)
  passing callee before (MoreArguments (Convert from to a) later) stack e w now h =
      let k = split (expression_callees a ++ arguments_callees later) (callee_of callee) now in
      let l = split (expression_callees a) (arguments_callees later) k.0 in
      (l.0, (tt, (all_append (λ (callee : ℕ). Calls program f callee) (arguments_callees later) (callee_of callee) l.1 k.1, h)))

  assigns : (o : Option ℕ) (c : Converted) (stack : List Entry) (e : Environment) (w : World) → C (converted_callees c) → W stack → I (assigned o c stack e w)
  assigns (Some object) (Convert from to a) stack e w now h = (now, (tt, (tt, h)))
  assigns None c stack e w now h = tt

  addressing : (o : Option ℕ) (stack : List Entry) (e : Environment) (w : World) → W stack → I (addressed o stack e w)
  addressing (Some object) stack e w h = (tt, h)
  addressing None stack e w h = tt

  counting : (o : Option ℕ) (stack : List Entry) (e : Environment) (w : World) → W stack → I (counts o stack e w)
  counting (Some index) stack e w h = (tt, h)
  counting None stack e w h = tt

  evaluating : (a : Expression) (stack : List Entry) (e : Environment) (w : World) → C (expression_callees a) → W stack → I (step_evaluating a stack e w)
  evaluating (Number n) stack e w now h = (tt, h)
  evaluating NullPointer stack e w now h = (tt, h)
  evaluating HeapRegion stack e w now h = (tt, h)
  evaluating (Counter level) stack e w now h = counting (e.counters level) stack e w h
  evaluating (Copy place t) stack e w now h = loads_from (kind_of t) (object_of e place) stack e w h
  evaluating (Move p number t) stack e w now h = loads_from (kind_of t) (e.locals number) stack e w h
  evaluating (Peek p number t) stack e w now h = loads_from (kind_of t) (e.locals number) stack e w h
  evaluating (Load d) stack e w now h = (now, (tt, h))
  evaluating (AddressOf place t) stack e w now h = addressing (object_of e place) stack e w h
  evaluating (AddressOfCell d t) stack e w now h = (now, (tt, h))
  evaluating (NumberOfElements a) stack e w now h = (now, (tt, h))
  evaluating (FreeUnique a) stack e w now h = (now, (tt, h))
  evaluating (FreeKey a) stack e w now h = (now, (tt, h))
  evaluating (Call callee arguments t) stack e w now h = passing callee [] arguments stack e w now h
  evaluating (Unary operator a) stack e w now h = (now, (tt, h))
  evaluating (Binary a rest t) stack e w now h = let k = split (expression_callees a) (operations_callees rest) now in (k.0, (k.1, h))
  evaluating (Assign place c t) stack e w now h = assigns (object_of e place) c stack e w now h
  evaluating (typed.Store d c t) stack e w now h = let k = split (dereference_callees d) (converted_callees c) now in (k.0, (k.1, h))
  evaluating (New placement initial t) stack e w now h = allocating placement initial stack e w now h

  deciding : (decides fails : Bool) (b : Expression) (rest : Operations) (stack : List Entry) (e : Environment) (w : World) → C (expression_callees b) → C (operations_callees rest) → W stack → I (decided decides fails b rest stack e w)
  deciding true fails b rest stack e w now later h = (tt, (later, h))
  deciding false fails b rest stack e w now later h = (now, (tt, (later, h)))

  testing : (o : Option Bool) (operator : LogicalOperator) (b : Expression) (rest : Operations) (stack : List Entry) (e : Environment) (w : World) → C (expression_callees b) → C (operations_callees rest) → W stack → I (tested o operator b rest stack e w)
  testing (Some fails) operator b rest stack e w now later h = deciding (decides operator fails) fails b rest stack e w now later h
  testing None operator b rest stack e w now later h = tt

  awaiting_right : (fits : Bool) (waiting : Awaiting) (b : Expression) (rest : Operations) (stack : List Entry) (e : Environment) (w : World) → C (expression_callees b) → C (awaiting_callees waiting) → C (operations_callees rest) → W stack → I (awaits_right fits waiting b rest stack e w)
  awaiting_right true waiting b rest stack e w now later last h = (now, (later, (last, h)))
  awaiting_right false waiting b rest stack e w now later last h = tt

  chaining : (rest : Operations) (value : Operand) (stack : List Entry) (e : Environment) (w : World) → C (operations_callees rest) → W stack → I (chained rest value stack e w)
  chaining NoOperations value stack e w now h = (tt, h)
  chaining (ThenCompute operator b rest) value stack e w now h =
      let k = split (expression_callees b) (operations_callees rest) now in
      awaiting_right (is_kind value.kind kinds.Int) (Apply operator value) b rest stack e w k.0 tt k.1 h
  chaining (ThenTest operator b rest) value stack e w now h =
      let k = split (expression_callees b) (operations_callees rest) now in
      testing (is_zero value.value) operator b rest stack e w k.0 k.1 h
  chaining (ThenPointer operator b rest) value stack e w now h =
      let k = split (expression_callees b) (operations_callees rest) now in
      awaiting_right (takes_kind operator value.kind) (ApplyPointer None operator value) b rest stack e w k.0 tt k.1 h
  chaining (ThenPointerPeek number operator b rest) value stack e w now h =
      let k = split (expression_callees b) (operations_callees rest) now in
      awaiting_right (takes_kind operator value.kind) (ApplyPointer (Some number) operator value) b rest stack e w k.0 tt k.1 h

  telling : (negated : Bool) (a : Access Bool) (stack : List Entry) (e : Environment) (w : World) → W stack → I (tells negated a stack e w)
  telling false (Found equal) stack e w h = (tt, h)
  telling true (Found equal) stack e w h = (tt, h)
  telling negated Closed stack e w h = tt
  telling negated Missing stack e w h = tt

  applying_pointer : (operator : PointerOperator) (left right : Value) (stack : List Entry) (e : Environment) (w : World) → W stack → I (applies_pointer operator left right stack e w)
  applying_pointer pointers.EqualThin left right stack e w h = telling false (compared w left right) stack e w h
  applying_pointer pointers.NotEqualThin left right stack e w h = telling true (compared w left right) stack e w h
  applying_pointer operator left right stack e w h = computes (result_kind operator) (pointer_result operator left right) stack e w h

  choosing : (o : Option Bool) (first second : Statement) (stack : List Entry) (e : Environment) (w : World) → C (statement_callees first ++ statement_callees second) → W stack → I (chosen o first second stack e w)
  choosing (Some true) first second stack e w now h = ((split (statement_callees first) (statement_callees second) now).1, (tt, h))
  choosing (Some false) first second stack e w now h = ((split (statement_callees first) (statement_callees second) now).0, (tt, h))
  choosing None first second stack e w now h = tt

  looping : (o : Option Bool) (condition : Expression) (body : Statement) (stack : List Entry) (e : Environment) (w : World) → C (expression_callees condition ++ statement_callees body) → W stack → I (looped o condition body stack e w)
  looping (Some true) condition body stack e w now h = (tt, h)
  looping (Some false) condition body stack e w now h = ((split (expression_callees condition) (statement_callees body) now).1, (now, h))
  looping None condition body stack e w now h = tt

  supplying : (a : Awaiting) (value : Operand) (stack : List Entry) (e : Environment) (w : World) → C (awaiting_callees a) → W stack → I (supplied a value stack e w)
  supplying (ConvertTo from to target) value stack e w now h = either (is_kind value.kind from && leads_to w target (followed value.value)) _ _ (computes to (conversion to value.value) stack e w h) tt
  supplying (Operate operator) value stack e w now h = computes (unary_kind operator) (unary_result operator value.value) stack e w h
  supplying (Chain rest) value stack e w now h = chaining rest value stack e w now h
  supplying (Apply operator left) value stack e w now h = computes kinds.Int (binary_result operator left.value value.value) stack e w h
  supplying (ApplyPointer peek operator left) value stack e w now h = applying_pointer operator left.value value.value stack e w h
  supplying Decide value stack e w now h = computes kinds.Int (truth_of (is_zero value.value)) stack e w h
  supplying (Store place) value stack e w now h = stores_at place value (Given value) stack e w tt h
  supplying (StoreCell peek place) value stack e w now h = stores_at place value (Given value) stack e w tt h
  supplying (Pass callee before arguments) value stack e w now h = passing callee (value ∷ before) arguments stack e w now h
  supplying (Follow pointer target) value stack e w now h = either (is_kind value.kind pointer && leads_to w target (followed value.value)) _ _ (arriving (followed value.value) stack e w h) tt
  supplying (FollowMember pointer fields field) value stack e w now h = either (is_kind value.kind pointer) _ _ (arriving (member_of w (followed value.value) fields field) stack e w h) tt
  supplying (Index peek target index) value stack e w now h = either (is_kind value.kind kinds.Fat) _ _ (now, (tt, h)) tt
  supplying (Advance peek target base) value stack e w now h = computes kinds.Fat (pointer_result pointers.AddFat base.value value.value) (Needs (Follow kinds.Fat target) ∷ stack) e w (tt, h)
  supplying CountElements value stack e w now h = computes kinds.Int (element_count value.value) stack e w h
  supplying FreeObject value stack e w now h = freeing value.value stack e w h
  supplying CloseByKey value stack e w now h = closing_with value.value stack e w h
  supplying (PlaceBy initial) value stack e w now h = placing initial value.value stack e w now h
  supplying (BesideHandle region) value stack e w now h = (tt, h)
  supplying (MakePlain owner kind) value stack e w now h = either (is_kind value.kind kind) _ _ (making owner (value ∷ []) stack e w h) tt
  supplying (MakeFields owner before fields) value stack e w now h = making_fields owner (value ∷ before) fields stack e w now h
  supplying (MakeArray owner level kind element) value stack e w now h = making_array owner level kind element value.value stack e w now h
  supplying (FillElement object count index level kind element) value stack e w now h = filling_element object count index level kind element value stack e w now h
  supplying (Initialise number kind items) value stack e w now h =
      either (is_kind value.kind kind) _ _ (names (region_at w e.home) Proceeding number kind (Some value.value) (Rest items ∷ stack) e w tt (now, h)) tt
  supplying (Choose first second) value stack e w now h = choosing (is_zero value.value) first second stack e w now h
  supplying (Test condition body) value stack e w now h = looping (is_zero value.value) condition body stack e w now h
  supplying Return value stack e w now h = (tt, h)
  supplying (ThrowWith tag) value stack e w now h = throwing_value tag value.value stack e w h
  supplying (OpenBy number lent items) value stack e w now h = opening_with number lent items value.value stack e w now h
  supplying (AliasOf number lent items) value stack e w now h = (now, (tt, h))

  given : (value : Operand) (stack : List Entry) (e : Environment) (w : World) → W stack → I (step_given value stack e w)
  given value [] e w h = tt
  given value (Needs a ∷ stack) e w h = supplying a value stack e w h.0 h.1
  given value (Discard ∷ stack) e w h = (tt, h.1)
  given value (entry ∷ stack) e w h = tt

  -- ---- statements

  returning_value : (o : Option Converted) (stack : List Entry) (e : Environment) (w : World) → C (value_callees o) → W stack → I (steps.returns o stack e w)
  returning_value None stack e w now h = (tt, h)
  returning_value (Some (Convert from to a)) stack e w now h = (now, (tt, (tt, h)))

  testing_loop : (condition : Expression) (body : Statement) (stack : List Entry) (e : Environment) (w : World) → C (expression_callees condition ++ statement_callees body) → W stack → I (steps.tests condition body stack e w)
  testing_loop condition body stack e w now h = ((split (expression_callees condition) (statement_callees body) now).0, (now, h))

  executing : (s : Statement) (stack : List Entry) (e : Environment) (w : World) → C (statement_callees s) → W stack → I (step_executing s stack e w)
  executing (Block region items) stack e w now h = (tt, (now, (tt, h)))
  executing Empty stack e w now h = (tt, h)
  executing (Evaluate a) stack e w now h = (now, (tt, h))
  executing (Swap left right) stack e w now h = swapping left right stack e w now h
  executing (If condition first second) stack e w now h =
      let k = split (expression_callees condition) (statement_callees first ++ statement_callees second) now in (k.0, (k.1, h))
  executing (While place condition body) stack e w now h = testing_loop condition body stack e w now h
  executing (typed.Return value) stack e w now h = returning_value value stack e w now h
  executing Break stack e w now h = (tt, h)
  executing Continue stack e w now h = (tt, h)
  executing (Throw tag value) stack e w now h = throwing_new tag value stack e w now h
  executing (Try s handler) stack e w now h = let k = split (statement_callees s) (clauses_callees handler) now in (k.0, (k.1, h))

  declaring : (number : ℕ) (t : Ty) (o : Option Converted) (items : Items) (stack : List Entry) (e : Environment) (w : World) → C (value_callees o ++ items_callees items) → W stack → I (declares number t o items stack e w)
  declaring number t None items stack e w now h = names (region_at w e.home) Proceeding number (kind_of t) None (Rest items ∷ stack) e w tt (now, h)
  declaring number t (Some (Convert from to a)) items stack e w now h = let k = split (expression_callees a) (items_callees items) now in (k.0, (tt, (k.1, h)))

  continuing_with : (items : Items) (stack : List Entry) (e : Environment) (w : World) → C (items_callees items) → W stack → I (continues_with items stack e w)
  continuing_with NoItems stack e w now h = (tt, h)
  continuing_with (MoreItems (Execute s) items) stack e w now h = let k = split (statement_callees s) (items_callees items) now in (k.0, (k.1, h))
  continuing_with (MoreItems (Declare number t value) items) stack e w now h = declaring number t value items stack e w now h
  continuing_with (MoreItems (DeclareRegion region number) items) stack e w now h = (now, (tt, h))
  continuing_with (MoreItems (OpenRegion region number p key) items) stack e w now h = loads_from kinds.Key (e.locals key) (Needs (OpenBy number key items) ∷ stack) e w (now, h)
  continuing_with (MoreItems (DeclareAlias region number t p source) items) stack e w now h = loads_from (kind_of t) (e.locals source) (Needs (AliasOf number source items) ∷ stack) e w (now, h)
  continuing_with (MoreItems (DeclareKey region number) items) stack e w now h = (now, h)

  breaking : (stack : List Entry) (e : Environment) (w : World) → W stack → I (step_breaking stack e w)
  breaking [] e w h = tt
  breaking (Needs a ∷ stack) e w h = (tt, h.1)
  breaking (NeedsPlace a ∷ stack) e w h = (tt, h.1)
  breaking (Discard ∷ stack) e w h = (tt, h.1)
  breaking (Rest items ∷ stack) e w h = (tt, h.1)
  breaking (Join ∷ stack) e w h = (tt, h.1)
  breaking (Loop condition body ∷ stack) e w h = (tt, h.1)
  breaking (CloseRegion region home ∷ stack) e w h = closes (region_at w region) Breaking region home stack e w tt h.1
  breaking (CloseLexical region ∷ stack) e w h = closes_lexical (region_at w region) Breaking region stack e w tt h.1
  breaking (EndLoan lent ∷ stack) e w h = (tt, h.1)
  breaking (Handler handler ∷ stack) e w h = (tt, h.1)
  breaking (Caller outer ∷ stack) e w h = tt
  breaking (Main ∷ stack) e w h = tt

  continuing : (stack : List Entry) (e : Environment) (w : World) → W stack → I (step_continuing stack e w)
  continuing [] e w h = tt
  continuing (Needs a ∷ stack) e w h = (tt, h.1)
  continuing (NeedsPlace a ∷ stack) e w h = (tt, h.1)
  continuing (Discard ∷ stack) e w h = (tt, h.1)
  continuing (Rest items ∷ stack) e w h = (tt, h.1)
  continuing (Join ∷ stack) e w h = (tt, h.1)
  continuing (Loop condition body ∷ stack) e w h = testing_loop condition body stack e w h.0 h.1
  continuing (CloseRegion region home ∷ stack) e w h = closes (region_at w region) Continuing region home stack e w tt h.1
  continuing (CloseLexical region ∷ stack) e w h = closes_lexical (region_at w region) Continuing region stack e w tt h.1
  continuing (EndLoan lent ∷ stack) e w h = (tt, h.1)
  continuing (Handler handler ∷ stack) e w h = (tt, h.1)
  continuing (Caller outer ∷ stack) e w h = tt
  continuing (Main ∷ stack) e w h = tt

  ending_with : (value : Value) (w : World) → I (ends_with value w)
  ending_with (Int word) w = tt
  ending_with value w = tt

  ending_main : (o : Option Operand) (w : World) → I (main_returned o w)
  ending_main None w = tt
  ending_main (Some value) w = ending_with value.value w

  returning_to : (o : Option Operand) (stack : List Entry) (e : Environment) (w : World) → W stack → I (returned o stack e w)
  returning_to (Some value) stack e w h = (tt, h)
  returning_to None stack e w h = (tt, h)

-- ---- steps that begin or end a call

module _ (program : Program) where
  abbrev S : State → Type 0
  S s = IsInSome program s

  -- after the step that enters a call, the code that the call has still to execute is the whole body of the called function
  pub calls_function : (o : Option Function) (number : ℕ) (arguments : List Operand) (stack : List Entry) (w : World) → slice_get program.functions number ≡ o → Waits program number stack → IsIn program number (called o arguments stack w)
  calls_function (Some h) number arguments stack w there waits =
      either program number (length arguments == length h.parameters) _ _ (body_is_of program number h there, waits) tt
  calls_function None number arguments stack w there waits = tt

  calling : (f : ℕ) (callee : Callee) (arguments : List Operand) (stack : List Entry) (e : Environment) (w : World) → AreOf program f (callee_of callee) → Waits program f stack → S (step_calling program callee arguments stack e w)
  calling f callees.Putchar arguments stack e w now h = (f, putchar_prints program f (values_of arguments) stack e w h)
  calling f callees.Getchar arguments stack e w now h = (f, getchar_reads program f (values_of arguments) stack e w h)
  calling f (callees.Function number) arguments stack e w now h =
      (number, calls_function (slice_get program.functions number) number (reverse arguments) (Caller e ∷ stack) w refl (f, now.0, h))

  proceeding : (f : ℕ) (stack : List Entry) (e : Environment) (w : World) → Waits program f stack → S (step_proceeding stack e w)
  proceeding f [] e w h = (f, tt)
  proceeding f (Needs a ∷ stack) e w h = (f, tt)
  proceeding f (NeedsPlace a ∷ stack) e w h = (f, tt)
  proceeding f (Discard ∷ stack) e w h = (f, (tt, h.1))
  proceeding f (Rest items ∷ stack) e w h = (f, continuing_with program f items stack e w h.0 h.1)
  proceeding f (Join ∷ stack) e w h = (f, (tt, h.1))
  proceeding f (Loop condition body ∷ stack) e w h = (f, testing_loop program f condition body stack e w h.0 h.1)
  proceeding f (CloseRegion region home ∷ stack) e w h = (f, closes program f (region_at w region) Proceeding region home stack e w tt h.1)
  proceeding f (CloseLexical region ∷ stack) e w h = (f, closes_lexical program f (region_at w region) Proceeding region stack e w tt h.1)
  proceeding f (EndLoan lent ∷ stack) e w h = (f, (tt, h.1))
  proceeding f (Handler handler ∷ stack) e w h = (f, (tt, h.1))
  proceeding f (Caller outer ∷ stack) e w (caller, call, h) = (caller, (tt, h))
  proceeding f (Main ∷ stack) e w h = (f, tt)

  returning : (f : ℕ) (o : Option Operand) (stack : List Entry) (e : Environment) (w : World) → Waits program f stack → S (step_returning o stack e w)
  returning f o [] e w h = (f, tt)
  returning f o (Needs a ∷ stack) e w h = (f, (tt, h.1))
  returning f o (NeedsPlace a ∷ stack) e w h = (f, (tt, h.1))
  returning f o (Discard ∷ stack) e w h = (f, (tt, h.1))
  returning f o (Rest items ∷ stack) e w h = (f, (tt, h.1))
  returning f o (Join ∷ stack) e w h = (f, (tt, h.1))
  returning f o (Loop condition body ∷ stack) e w h = (f, (tt, h.1))
  returning f o (CloseRegion region home ∷ stack) e w h = (f, closes program f (region_at w region) (Returning o) region home stack e w tt h.1)
  returning f o (CloseLexical region ∷ stack) e w h = (f, closes_lexical program f (region_at w region) (Returning o) region stack e w tt h.1)
  returning f o (EndLoan lent ∷ stack) e w h = (f, (tt, h.1))
  returning f o (Handler handler ∷ stack) e w h = (f, (tt, h.1))
  returning f o (Caller outer ∷ stack) e w (caller, call, h) = (caller, returning_to program caller o stack outer w h)
  returning f o (Main ∷ stack) e w h = (f, ending_main program f o w)

  throwing : (f tag value : ℕ) (stack : List Entry) (e : Environment) (w : World) → Waits program f stack → S (step_throwing tag value stack e w)
  throwing f tag value [] e w h = (f, tt)
  throwing f tag value (Needs a ∷ stack) e w h = (f, (tt, h.1))
  throwing f tag value (NeedsPlace a ∷ stack) e w h = (f, (tt, h.1))
  throwing f tag value (Discard ∷ stack) e w h = (f, (tt, h.1))
  throwing f tag value (Rest items ∷ stack) e w h = (f, (tt, h.1))
  throwing f tag value (Join ∷ stack) e w h = (f, (tt, h.1))
  throwing f tag value (Loop condition body ∷ stack) e w h = (f, (tt, h.1))
  throwing f tag value (CloseRegion region home ∷ stack) e w h = (f, closes program f (region_at w region) (Throwing tag value) region home stack e w tt h.1)
  throwing f tag value (CloseLexical region ∷ stack) e w h = (f, closes_lexical program f (region_at w region) (Throwing tag value) region stack e w tt h.1)
  throwing f tag value (EndLoan lent ∷ stack) e w h = (f, (tt, h.1))
  throwing f tag value (Handler handler ∷ stack) e w h = (f, (h.0, h.1))
  throwing f tag value (Caller outer ∷ stack) e w (caller, call, h) = (caller, (tt, h))
  throwing f tag value (Main ∷ []) e w h = (f, (tt, h))
  throwing f tag value (Main ∷ entry ∷ stack) e w h = absurd h

  -- ---- a step

  stepping : (f : ℕ) (focus : Focus) (stack : List Entry) (e : Environment) (w : World) → AreOf program f (focus_callees focus) → Waits program f stack → S (stepped program focus stack e w)
  stepping f (Evaluating a) stack e w now h = (f, evaluating program f a stack e w now h)
  stepping f (Locating d) stack e w now h = (f, locating program f d stack e w now h)
  stepping f (Given value) stack e w now h = (f, given program f value stack e w h)
  stepping f (GivenPlace place) stack e w now h = (f, given_place program f place stack e w h)
  stepping f (Executing s) stack e w now h = (f, executing program f s stack e w now h)
  stepping f Proceeding stack e w now h = proceeding f stack e w h
  stepping f (Calling callee arguments) stack e w now h = calling f callee arguments stack e w now h
  stepping f (Entering h arguments) stack e w now waits = (f, (now, (tt, waits)))
  stepping f (Binding number types arguments body) stack e w now h = (f, binding program f number types arguments body stack e w now h)
  stepping f (Naming number operand items) stack e w now h = (f, names program f (region_at w e.home) Proceeding number operand.kind (Some operand.value) (Rest items ∷ stack) e w tt (now, h))
  stepping f (Writing writes result) stack e w now h = (f, writing program f writes result stack e w h)
  stepping f (Beginning owner count level kind element) stack e w now h = (f, begins program f (created w owner (blanks count kind)) (length w.objects) count level kind element stack e w now h)
  stepping f (Repeating object count index level kind element) stack e w now h = (f, either program f (index == count) _ _ (tt, h) (now, (now, h)))
  stepping f (Swapping kind left right before) stack e w now h = (f, swapping_values program f kind left right before stack e w h)
  stepping f Breaking stack e w now h = (f, breaking program f stack e w h)
  stepping f Continuing stack e w now h = (f, continuing program f stack e w h)
  stepping f (Returning value) stack e w now h = returning f value stack e w h
  stepping f (Throwing tag value) stack e w now h = throwing f tag value stack e w h
  stepping f (Catching tag value handler) stack e w now h = (f, catching program f tag value handler stack e w now h)

  pub step_in : (s : State) → IsInSome program s → IsInSome program (steps.step program s)
  step_in (Running focus stack e w) (f, (now, h)) = stepping f focus stack e w now h
  step_in (Ended ending output input) h = h
  step_in (Dead output input) h = h
  step_in (Wrong output input) h = h
