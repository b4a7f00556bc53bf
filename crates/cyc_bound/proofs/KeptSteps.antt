-- Invariant: if lexical regions free their blocks at their end, a step creates no handle of the heap and no key of a dynamic region. If
-- lexical regions free their blocks, a step opens no outermost region that costs more than the bound on the costs of outermost regions.
use Rattle.std.proofs.Common.{◌≡◌, ℕ, suc, Bool, true, false, List, [], ◌∷◌, length, reverse, Option, Some, None, refl, ◌+◌, ◌<◌, ◌≤◌, max, arith}
use Rattle.std.specs.Prelude.{◌==◌, ◌*◌, ◌&&◌, nat_le, if◌then◌else◌, slice_get}
use Rattle.cyc_types.specs.declared.typed.Kind.{Kind}
use Rattle.cyc_types.specs.declared.typed.Kind.TheVariants as kinds
use Rattle.cyc_types.specs.declared.typed.Callee.{Callee}
use Rattle.cyc_types.specs.declared.typed.Callee.TheVariants as callees
use Rattle.cyc_types.specs.declared.typed.LogicalOperator.{LogicalOperator}
use Rattle.cyc_types.specs.declared.typed.PointerOperator.{PointerOperator}
use Rattle.cyc_types.specs.declared.typed.PointerOperator.TheVariants as pointers
use Rattle.cyc_types.specs.Types.{Ty}
use Rattle.cyc_types.specs.TypedTrees.{Expression, Number, NullPointer, HeapRegion, Counter, Copy, Move, Peek, Load, AddressOf, AddressOfCell, NumberOfElements, FreeUnique, FreeKey, Call, Unary, Binary, Assign, New}
use Rattle.cyc_types.specs.TypedTrees.{Dereference, Target, Member, Element, Placement, OnHeap, AsUnique, ByHandle, Initial, Plain, Fields, Array, Converted, Convert, Arguments, NoArguments, MoreArguments, Operations}
use Rattle.cyc_types.specs.TypedTrees.{NoOperations, ThenCompute, ThenTest, ThenPointer, ThenPointerPeek, Side, VariableSide, CellSide, Statement, Block, Empty, Evaluate, Swap, If, While, Break, Continue, Throw}
use Rattle.cyc_types.specs.TypedTrees.{Try, Items, NoItems, MoreItems, Execute, Declare, DeclareRegion, OpenRegion, DeclareAlias, DeclareKey, Clauses, NoClauses, Default, Case, StructType, Function, Program}
use Rattle.cyc_types.specs.TypedTrees as typed
use Rattle.cyc_meaning.specs.Values.{Value, Int, Null, Thin, Fat, Handle, Key, Operand, kind_of, is_kind, bytes_of_kind, words_for}
use Rattle.cyc_meaning.specs.Operators.{Result, Gives, Raises, Misfits, is_zero, binary_result, unary_result, unary_kind, truth_of, decides}
use Rattle.cyc_meaning.specs.Pointers.{element_count, pointer_result, result_kind, takes_kind, Reach, At, Stops, Nowhere, followed}
use Rattle.cyc_meaning.specs.Conversion.{conversion}
use Rattle.cyc_meaning.specs.State.{Region, Owner, InRegion, Unique, Object, World, Access, Found, Closed, Missing, region_at, Located, cell_at, Environment, Awaiting, ConvertTo, Operate, Chain, Apply, ApplyPointer, Decide, Store, StoreCell, Pass, Follow}
use Rattle.cyc_meaning.specs.State.{FollowMember, Index, Advance, CountElements, FreeObject, CloseByKey, PlaceBy, BesideHandle, MakePlain, MakeFields, MakeArray, FillElement, Initialise, Choose, Test, Return, ThrowWith, OpenBy, AliasOf, LoadFrom, TakeAddress}
use Rattle.cyc_meaning.specs.State.{StoreTo, SwapLeft, SwapRight, Entry, Needs, NeedsPlace, Discard, Rest, Join, Loop, CloseRegion, CloseLexical, EndLoan, Handler, Caller, Main, Write, Focus, Evaluating, Locating, Given, GivenPlace, Executing, Proceeding, Calling}
use Rattle.cyc_meaning.specs.State.{Entering, Binding, Naming, Writing, Beginning, Repeating, Swapping, Breaking, Continuing, Returning, Throwing, Catching, State, Running, Ended, Dead, Wrong, Stack, Lexical, variable}
use Rattle.cyc_meaning.specs.Objects.{compared, created}
use Rattle.cyc_meaning.specs.Parts.{computed, leads_to, object_of, read, loaded, loaded_from, stored, stored_at, step_writing, declared, closing}
use Rattle.cyc_meaning.specs.Places.{arrives, member_of, locates_member, step_locating, loaded_at, step_given_place}
use Rattle.cyc_meaning.specs.Swaps.{finds_right_object, finds_right, finds_left_object, swaps, swap_content, swap_loaded, swap_loaded_at, step_swapping}
use Rattle.cyc_meaning.specs.Allocation.{blanks_of, filled, makes_of, makes_fields, blanks, begun, makes_array, fills_element, makes, makes_by, allocates, most_words}
use Rattle.cyc_meaning.specs.Exceptions.{throws, throws_value, catches, step_catching}
use Rattle.cyc_meaning.specs.Regions.{closing_lexical, opens_with, closes_with, frees_in_region, frees_owned, frees_object, frees}
use Rattle.cyc_meaning.specs.Step.{values_of, called, step_calling, step_binding, passes, assigned, addressed, counts, step_evaluating, decided, tested, awaits_right, chained, tells, applies_pointer, chosen, looped}
use Rattle.cyc_meaning.specs.Step.{supplied, step_given, step_executing, declares, continues_with, step_proceeding, step_breaking, step_continuing, returned, ends_with, main_returned, step_returning, step_throwing, stepped}
use Rattle.cyc_meaning.specs.Step as steps
use Rattle.cyc_bound.specs.declared.costs.Measure.{Measure}
use Rattle.cyc_bound.specs.declared.costs.Measure.TheVariants as measures
use Rattle.cyc_bound.specs.Costs.{too_many, expression_cost, items_cost}
use Rattle.cyc_bound.specs.AtOnce.{statement_at_once, items_at_once, clauses_at_once, at_once_of}
use Rattle.cyc_bound.specs.inside.Remaining.{Anything, focus_delivers, stack_cost, focus_cost, CostsAtMost}
use Rattle.cyc_bound.specs.inside.Outermost.{IsOwn, IsOwnContent, IsOwnOperand, AreOwn, focus_own, IsOwnWorld, IsKeptFocus, IsKeptEntry, AreKept, IsKept}
use Rattle.cyc_bound.proofs.KeptParts.{reverse_own, writes_own, blanks_own, all_blank, own_made, own_opened, own_closed, handle_own, own_created, own_freed, content_own, own_written, OwnResult, conversion_own, truth_own, unary_own, binary_own, count_own, pointer_own, items_within}

-- says that the declarations and statements that remain of a block begin with the declaration of a lexical region
abbrev pub OpensIn : Items → Type 0
OpensIn (MoreItems (DeclareRegion region number) items) = Unit {0}
OpensIn items = ⊥

abbrev pub OpensOn : List Entry → Type 0
OpensOn (Rest items ∷ stack) = OpensIn items
OpensOn stack = ⊥

abbrev pub Opens : Focus → List Entry → Type 0
Opens Proceeding stack = OpensOn stack
Opens focus stack = ⊥

abbrev pub MayOpen : (opens : Bool) → State → Type 0
MayOpen opens (Running focus stack e w) = Opens focus stack → opens ≡ true
MayOpen opens (Ended ending output input) = Unit {0}
MayOpen opens (Dead output input) = Unit {0}
MayOpen opens (Wrong output input) = Unit {0}

-- says that a called function opens no outermost region with a cost above the bound
abbrev pub CalleeFits : Program → Measure → (costs : List ℕ) → (most : ℕ) → Focus → Type 0
CalleeFits program m costs most (Calling (callees.Function number) arguments) = at_once_of m costs (slice_get program.functions number) ≤ most
CalleeFits program m costs most focus = Unit {0}

abbrev pub CalleeFitsIn : Program → Measure → (costs : List ℕ) → (most : ℕ) → State → Type 0
CalleeFitsIn program m costs most (Running focus stack e w) = CalleeFits program m costs most focus
CalleeFitsIn program m costs most (Ended ending output input) = Unit {0}
CalleeFitsIn program m costs most (Dead output input) = Unit {0}
CalleeFitsIn program m costs most (Wrong output input) = Unit {0}

module _ (program : Program) (lasting : List ℕ) (opens : Bool) (m : Measure) (costs : List ℕ) (most : ℕ) (few : most < too_many) where
  abbrev W : List Entry → Type 0
  W stack = AreKept opens m costs most stack

  abbrev F : Focus → Type 0
  F focus = IsKeptFocus m costs most focus

  abbrev K : State → Type 0
  K s = IsKept opens m costs most s

  either : (b : Bool) (s t : State) → K s → K t → K (if b then s else t)
  either true s t first second = first
  either false s t first second = second

  computes : (kind : Kind) (r : Result) (stack : List Entry) (e : Environment) (w : World) → OwnResult r → W stack → IsOwnWorld w → K (computed kind r stack e w)
  computes kind (Gives value) stack e w own h o = ((own, omega arith), (h, o))
  computes kind (Raises tag) stack e w own h o = ((tt, omega arith), (h, o))
  computes kind Misfits stack e w own h o = tt

  reads_cell : (kind : Kind) (o : Option Value) (stack : List Entry) (e : Environment) (w : World) → IsOwnContent o → W stack → IsOwnWorld w → K (read kind o stack e w)
  reads_cell kind (Some value) stack e w own h o = ((own, omega arith), (h, o))
  reads_cell kind None stack e w own h o = tt

  loads : (kind : Kind) (object offset : ℕ) (a : Access Located) (stack : List Entry) (e : Environment) (w : World) → cell_at w object offset ≡ a → W stack → IsOwnWorld w → K (loaded kind a stack e w)
  loads kind object offset (Found at) stack e w is h o = either (is_kind at.cell.kind kind) _ _ (reads_cell kind at.cell.content stack e w (content_own w object offset at is o) h o) tt
  loads kind object offset Closed stack e w is h o = tt
  loads kind object offset Missing stack e w is h o = tt

  loads_from : (kind : Kind) (object : Option ℕ) (stack : List Entry) (e : Environment) (w : World) → W stack → IsOwnWorld w → K (loaded_from kind object stack e w)
  loads_from kind (Some object) stack e w h o = loads kind object 0 (cell_at w object 0) stack e w refl h o
  loads_from kind None stack e w h o = tt

  stores : (a : Access Located) (object offset : ℕ) (v : Operand) (focus : Focus) (stack : List Entry) (e : Environment) (w : World) → cell_at w object offset ≡ a → IsOwn v.value → F focus → W stack → IsOwnWorld w → K (stored a object offset v focus stack e w)
  stores (Found at) object offset v focus stack e w is own now h o = either (is_kind at.cell.kind v.kind) _ _ (now, (h, own_written w object offset at v.value is own o)) tt
  stores Closed object offset v focus stack e w is own now h o = tt
  stores Missing object offset v focus stack e w is own now h o = tt

  stores_at : (place : Value) (v : Operand) (focus : Focus) (stack : List Entry) (e : Environment) (w : World) → IsOwn v.value → F focus → W stack → IsOwnWorld w → K (stored_at place v focus stack e w)
  stores_at (Thin object offset) v focus stack e w own now h o = stores (cell_at w object offset) object offset v focus stack e w refl own now h o
  stores_at place v focus stack e w own now h o = tt

  writing : (writes : List Write) (result : Option Operand) (stack : List Entry) (e : Environment) (w : World) → focus_own (Writing writes result) → W stack → IsOwnWorld w → K (step_writing writes result stack e w)
  writing [] (Some v) stack e w own h o = ((own.1, omega arith), (h, o))
  writing [] None stack e w own h o = ((tt, omega arith), (h, o))
  writing (x ∷ writes) result stack e w own h o = stores_at x.place x.operand (Writing writes result) stack e w own.0.0 ((own.0.1, own.1), omega arith) h o

  names : (a : Access Region) (focus : Focus) (number : ℕ) (kind : Kind) (content : Option Value) (stack : List Entry) (e : Environment) (w : World) → IsOwnContent content → F focus → W stack → IsOwnWorld w → K (declared a focus number kind content stack e w)
  names (Found r) focus number kind content stack e w own now h o = (now, (h, own_made w (variable e.home kind content) (own, tt) o))
  names Closed focus number kind content stack e w own now h o = tt
  names Missing focus number kind content stack e w own now h o = tt

  closes : (a : Access Region) (focus : Focus) (region home : ℕ) (stack : List Entry) (e : Environment) (w : World) → region_at w region ≡ a → F focus → W stack → IsOwnWorld w → K (closing a focus region home stack e w)
  closes (Found r) focus region home stack e w is now h o = (now, (h, own_closed w region r is o))
  closes Closed focus region home stack e w is now h o = tt
  closes Missing focus region home stack e w is now h o = tt

  closes_lexical : (a : Access Region) (focus : Focus) (region : ℕ) (stack : List Entry) (e : Environment) (w : World) → region_at w region ≡ a → F focus → W stack → IsOwnWorld w → K (closing_lexical a focus region stack e w)
  closes_lexical (Found r) focus region stack e w is now h o = (now, (h, own_closed w region r is o))
  closes_lexical Closed focus region stack e w is now h o = tt
  closes_lexical Missing focus region stack e w is now h o = tt

  putchar_prints : (arguments : List Value) (stack : List Entry) (e : Environment) (w : World) → W stack → IsOwnWorld w → K (steps.prints arguments stack e w)
  putchar_prints (Int word ∷ []) stack e w h o = ((tt, omega arith), (h, o))
  putchar_prints arguments stack e w h o = tt

  getchar_reads : (arguments : List Value) (stack : List Entry) (e : Environment) (w : World) → W stack → IsOwnWorld w → K (steps.reads arguments stack e w)
  getchar_reads [] stack e w h o = ((tt, omega arith), (h, o))
  getchar_reads (value ∷ arguments) stack e w h o = tt

  binding : (number : ℕ) (types : List Ty) (arguments : List Operand) (body : Items) (stack : List Entry) (e : Environment) (w : World) → AreOwn arguments → items_at_once m costs body ≤ most → W stack → IsOwnWorld w → K (step_binding number types arguments body stack e w)
  binding number [] [] body stack e w own now h o = ((tt, omega arith), (((tt, now), h), o))
  binding number [] (value ∷ arguments) body stack e w own now h o = tt
  binding number (type ∷ types) [] body stack e w own now h o = tt
  binding number (type ∷ types) (value ∷ arguments) body stack e w own now h o =
      either (is_kind value.kind (kind_of type)) _ _ (names (region_at w e.home) (Binding (suc number) types arguments body) number (kind_of type) (Some value.value) stack e w own.0 (own.1, now) h o) tt

  -- ---- places

  arriving : (r : Reach) (stack : List Entry) (e : Environment) (w : World) → W stack → IsOwnWorld w → K (arrives r stack e w)
  arriving (At object offset) stack e w h o = ((tt, omega arith), (h, o))
  arriving (Stops tag) stack e w h o = ((tt, omega arith), (h, o))
  arriving Nowhere stack e w h o = tt

  locating_member : (s : Option StructType) (pointer : Kind) (a : Expression) (field : ℕ) (stack : List Entry) (e : Environment) (w : World) → W stack → IsOwnWorld w → K (locates_member s pointer a field stack e w)
  locating_member (Some s) pointer a field stack e w h o = ((tt, omega arith), (((tt, omega arith), h), o))
  locating_member None pointer a field stack e w h o = tt

  locating : (d : Dereference) (stack : List Entry) (e : Environment) (w : World) → W stack → IsOwnWorld w → K (step_locating program d stack e w)
  locating (Target pointer a type) stack e w h o = ((tt, omega arith), (((tt, omega arith), h), o))
  locating (Member pointer a s field type) stack e w h o = locating_member (slice_get program.structs s) pointer a field stack e w h o
  locating (Element a i type) stack e w h o = ((tt, omega arith), (((tt, omega arith), h), o))

  loading_at : (kind : Kind) (place : Value) (stack : List Entry) (e : Environment) (w : World) → W stack → IsOwnWorld w → K (loaded_at kind place stack e w)
  loading_at kind (Thin object offset) stack e w h o = loads kind object offset (cell_at w object offset) stack e w refl h o
  loading_at kind place stack e w h o = tt

  -- ---- swaps

  finding_right_object : (kind : Kind) (before : Value) (object : Option ℕ) (stack : List Entry) (e : Environment) (w : World) → W stack → IsOwnWorld w → K (finds_right_object kind before object stack e w)
  finding_right_object kind before (Some object) stack e w h o = ((tt, omega arith), (h, o))
  finding_right_object kind before None stack e w h o = tt

  finding_right : (kind : Kind) (peek : Option ℕ) (is_cell : Bool) (before : Value) (right : Side) (stack : List Entry) (e : Environment) (w : World) → W stack → IsOwnWorld w → K (finds_right kind peek is_cell before right stack e w)
  finding_right kind peek is_cell before (VariableSide l type) stack e w h o = finding_right_object kind before (object_of e l) stack e w h o
  finding_right kind peek is_cell before (CellSide d) stack e w h o = ((tt, omega arith), (((tt, omega arith), h), o))

  finding_left : (kind : Kind) (object : Option ℕ) (right : Side) (stack : List Entry) (e : Environment) (w : World) → W stack → IsOwnWorld w → K (finds_left_object kind object right stack e w)
  finding_left kind (Some object) right stack e w h o = finding_right kind None false (Thin object 0) right stack e w h o
  finding_left kind None right stack e w h o = tt

  swapping : (first right : Side) (stack : List Entry) (e : Environment) (w : World) → W stack → IsOwnWorld w → K (swaps first right stack e w)
  swapping (VariableSide l type) right stack e w h o = finding_left (kind_of type) (object_of e l) right stack e w h o
  swapping (CellSide d) right stack e w h o = ((tt, omega arith), (((tt, omega arith), h), o))

  swap_reads : (kind : Kind) (first right : Value) (before : Option Operand) (content : Option Value) (stack : List Entry) (e : Environment) (w : World) → IsOwnOperand before → IsOwnContent content → W stack → IsOwnWorld w → K (swap_content kind first right before content stack e w)
  swap_reads kind first right None (Some value) stack e w own new h o = ((new, omega arith), (h, o))
  swap_reads kind first right (Some before) (Some value) stack e w own new h o = ((((new, (own, tt)), tt), omega arith), (h, o))
  swap_reads kind first right before None stack e w own new h o = tt

  swap_loads : (kind : Kind) (first right : Value) (before : Option Operand) (object offset : ℕ) (a : Access Located) (stack : List Entry) (e : Environment) (w : World) → cell_at w object offset ≡ a → IsOwnOperand before → W stack → IsOwnWorld w → K (swap_loaded kind first right before a stack e w)
  swap_loads kind first right before object offset (Found at) stack e w is own h o =
      either (is_kind at.cell.kind kind) _ _ (swap_reads kind first right before at.cell.content stack e w own (content_own w object offset at is o) h o) tt
  swap_loads kind first right before object offset Closed stack e w is own h o = tt
  swap_loads kind first right before object offset Missing stack e w is own h o = tt

  swap_loads_at : (kind : Kind) (first right : Value) (before : Option Operand) (place : Value) (stack : List Entry) (e : Environment) (w : World) → IsOwnOperand before → W stack → IsOwnWorld w → K (swap_loaded_at kind first right before place stack e w)
  swap_loads_at kind first right before (Thin object offset) stack e w own h o = swap_loads kind first right before object offset (cell_at w object offset) stack e w refl own h o
  swap_loads_at kind first right before place stack e w own h o = tt

  swapping_values : (kind : Kind) (first right : Value) (before : Option Operand) (stack : List Entry) (e : Environment) (w : World) → IsOwnOperand before → W stack → IsOwnWorld w → K (step_swapping kind first right before stack e w)
  swapping_values kind first right None stack e w own h o = swap_loads_at kind first right None first stack e w own h o
  swapping_values kind first right (Some before) stack e w own h o = swap_loads_at kind first right (Some before) right stack e w own h o

  given_place : (place : Value) (stack : List Entry) (e : Environment) (w : World) → IsOwn place → W stack → IsOwnWorld w → K (step_given_place place stack e w)
  given_place place [] e w own h o = tt
  given_place place (NeedsPlace (LoadFrom kind) ∷ stack) e w own h o = loading_at kind place stack e w h.1 o
  given_place place (NeedsPlace TakeAddress ∷ stack) e w own h o = ((own, omega arith), (h.1, o))
  given_place place (NeedsPlace (StoreTo peek (Convert from to a)) ∷ stack) e w own h o = ((tt, omega arith), (((tt, omega arith), ((tt, omega arith), h.1)), o))
  given_place place (NeedsPlace (SwapLeft kind peek right) ∷ stack) e w own h o = finding_right kind peek true place right stack e w h.1 o
  given_place place (NeedsPlace (SwapRight kind peek is_cell before) ∷ stack) e w own h o = ((tt, omega arith), (h.1, o))
  given_place place (entry ∷ stack) e w own h o = tt

  -- ---- new objects

  filling : (a : Access World) (owner : Owner) (values : List Operand) (stack : List Entry) (e : Environment) (w : World) → created w owner (blanks_of values) ≡ a → AreOwn values → W stack → IsOwnWorld w → K (filled a (length w.objects) values stack e w)
  filling (Found new) owner values stack e w is own h o = (((writes_own (length w.objects) 0 values own, tt), omega arith), (h, own_created w new owner (blanks_of values) (blanks_own values) is o))
  filling Closed owner values stack e w is own h o = tt
  filling Missing owner values stack e w is own h o = tt

  making : (owner : Owner) (values : List Operand) (stack : List Entry) (e : Environment) (w : World) → AreOwn values → W stack → IsOwnWorld w → K (makes_of owner values stack e w)
  making owner values stack e w own h o = filling (created w owner (blanks_of values)) owner values stack e w refl own h o

  making_fields : (owner : Owner) (before : List Operand) (fields : Arguments) (stack : List Entry) (e : Environment) (w : World) → AreOwn before → W stack → IsOwnWorld w → K (makes_fields owner before fields stack e w)
  making_fields owner before NoArguments stack e w own h o = making owner (reverse before) stack e w (reverse_own before own) h o
  making_fields owner before (MoreArguments (Convert from to a) fields) stack e w own h o = ((tt, omega arith), (((tt, omega arith), ((own, omega arith), h)), o))

  begins : (a : Access World) (owner : Owner) (count level : ℕ) (kind : Kind) (element : Expression) (stack : List Entry) (e : Environment) (w : World) → created w owner (blanks count kind) ≡ a → W stack → IsOwnWorld w → K (begun a (length w.objects) count level kind element stack e w)
  begins (Found new) owner count level kind element stack e w is h o = ((tt, omega arith), (h, own_created w new owner (blanks count kind) (all_blank count kind) is o))
  begins Closed owner count level kind element stack e w is h o = tt
  begins Missing owner count level kind element stack e w is h o = tt

  making_array : (owner : Owner) (level : ℕ) (kind : Kind) (element : Expression) (value : Value) (stack : List Entry) (e : Environment) (w : World) → W stack → IsOwnWorld w → K (makes_array owner level kind element value stack e w)
  making_array owner level kind element (Int count) stack e w h o = either (nat_le (words_for (count * bytes_of_kind kind)) most_words) _ _ ((tt, omega arith), (h, o)) ((tt, omega arith), (h, o))
  making_array owner level kind element value stack e w h o = tt

  filling_element : (object count index level : ℕ) (kind : Kind) (element : Expression) (v : Operand) (stack : List Entry) (e : Environment) (w : World) → IsOwn v.value → W stack → IsOwnWorld w → K (fills_element object count index level kind element v stack e w)
  filling_element object count index level kind element v stack e w own h o =
      either (is_kind v.kind kind) _ _ (stores (cell_at w object index) object index v (Repeating object count (suc index) level kind element) stack e w refl own (tt, omega arith) h o) tt

  making_initial : (owner : Owner) (initial : Initial) (stack : List Entry) (e : Environment) (w : World) → W stack → IsOwnWorld w → K (makes owner initial stack e w)
  making_initial owner (Plain kind a) stack e w h o = ((tt, omega arith), (((tt, omega arith), h), o))
  making_initial owner (Fields fields) stack e w h o = making_fields owner [] fields stack e w tt h o
  making_initial owner (Array place level count kind element) stack e w h o = ((tt, omega arith), (((tt, omega arith), h), o))

  allocating : (placement : Placement) (initial : Initial) (stack : List Entry) (e : Environment) (w : World) → W stack → IsOwnWorld w → K (allocates placement initial stack e w)
  allocating OnHeap initial stack e w h o = making_initial (InRegion 0) initial stack e w h o
  allocating AsUnique initial stack e w h o = making_initial (Unique true) initial stack e w h o
  allocating (ByHandle a) initial stack e w h o = ((tt, omega arith), (((tt, omega arith), h), o))

  placing : (initial : Initial) (value : Value) (stack : List Entry) (e : Environment) (w : World) → W stack → IsOwnWorld w → K (makes_by initial value stack e w)
  placing initial (Handle region) stack e w h o = making_initial (InRegion region) initial (Needs (BesideHandle region) ∷ stack) e w ((tt, omega arith), h) o
  placing initial value stack e w h o = tt

  -- ---- regions; there are no keys

  opening_with : (number lent : ℕ) (items : Items) (key : Value) (stack : List Entry) (e : Environment) (w : World) → IsOwn key → W stack → IsOwnWorld w → K (opens_with number lent items key stack e w)
  opening_with number lent items (Key region) stack e w own h o = absurd own
  opening_with number lent items key stack e w own h o = tt

  closing_with : (key : Value) (stack : List Entry) (e : Environment) (w : World) → IsOwn key → W stack → IsOwnWorld w → K (closes_with key stack e w)
  closing_with (Key region) stack e w own h o = absurd own
  closing_with key stack e w own h o = tt

  freeing_in_region : (a : Access Region) (w : World) → K (frees_in_region a w)
  freeing_in_region (Found r) w = tt
  freeing_in_region Closed w = tt
  freeing_in_region Missing w = tt

  freeing_owned : (owner : Owner) (number : ℕ) (x : Object) (stack : List Entry) (e : Environment) (w : World) → slice_get w.objects number ≡ Some x → W stack → IsOwnWorld w → K (frees_owned owner number x stack e w)
  freeing_owned (InRegion region) number x stack e w there h o = freeing_in_region (region_at w region) w
  freeing_owned (Unique true) number x stack e w there h o = ((tt, omega arith), (h, own_freed w number x there o))
  freeing_owned (Unique false) number x stack e w there h o = tt

  freeing_object : (x : Option Object) (number : ℕ) (stack : List Entry) (e : Environment) (w : World) → slice_get w.objects number ≡ x → W stack → IsOwnWorld w → K (frees_object x number stack e w)
  freeing_object (Some x) number stack e w there h o = freeing_owned x.owner number x stack e w there h o
  freeing_object None number stack e w there h o = tt

  freeing : (value : Value) (stack : List Entry) (e : Environment) (w : World) → W stack → IsOwnWorld w → K (frees value stack e w)
  freeing Null stack e w h o = ((tt, omega arith), (h, o))
  freeing (Thin object offset) stack e w h o = either (offset == 0) _ _ (freeing_object (slice_get w.objects object) object stack e w refl h o) tt
  freeing (Fat object start count index) stack e w h o = either (start == 0) _ _ (freeing_object (slice_get w.objects object) object stack e w refl h o) tt
  freeing value stack e w h o = tt

  -- ---- exceptions

  throwing_new : (tag : ℕ) (thrown : Option Expression) (stack : List Entry) (e : Environment) (w : World) → W stack → IsOwnWorld w → K (throws tag thrown stack e w)
  throwing_new tag None stack e w h o = ((tt, omega arith), (h, o))
  throwing_new tag (Some a) stack e w h o = ((tt, omega arith), (((tt, omega arith), h), o))

  throwing_value : (tag : ℕ) (value : Value) (stack : List Entry) (e : Environment) (w : World) → W stack → IsOwnWorld w → K (throws_value tag value stack e w)
  throwing_value tag (Int word) stack e w h o = ((tt, omega arith), (h, o))
  throwing_value tag value stack e w h o = tt

  catching_in : (value : ℕ) (number : Option ℕ) (items : Items) (stack : List Entry) (e : Environment) (w : World) → items_at_once m costs items ≤ most → W stack → IsOwnWorld w → K (catches value number items stack e w)
  catching_in value None items stack e w now h o = ((tt, omega arith), (((tt, now), ((tt, omega arith), h)), own_opened Stack w tt o))
  catching_in value (Some number) items stack e w now h o = ((tt, now), (((tt, omega arith), h), own_opened Stack w tt o))

  catching : (tag value : ℕ) (clauses : Clauses) (stack : List Entry) (e : Environment) (w : World) → clauses_at_once m costs clauses ≤ most → W stack → IsOwnWorld w → K (step_catching tag value clauses stack e w)
  catching tag value NoClauses stack e w now h o = ((tt, omega arith), (h, o))
  catching tag value (Default region items) stack e w now h o = catching_in value None items stack e w now h o
  catching tag value (Case caught number region items later) stack e w now h o =
      either (caught == tag) _ _ (catching_in value number items stack e w (omega (arith, now)) h o) ((tt, omega (arith, now)), (h, o))

  -- ---- evaluation

  passing : (callee : Callee) (before : List Operand) (later : Arguments) (stack : List Entry) (e : Environment) (w : World) → AreOwn before → W stack → IsOwnWorld w → K (passes callee before later stack e w)
  passing callee before NoArguments stack e w own h o = ((own, omega arith), (h, o))
  passing callee before (MoreArguments (Convert from to a) later) stack e w own h o = ((tt, omega arith), (((tt, omega arith), ((own, omega arith), h)), o))

  assigns : (object : Option ℕ) (c : Converted) (stack : List Entry) (e : Environment) (w : World) → W stack → IsOwnWorld w → K (assigned object c stack e w)
  assigns (Some object) (Convert from to a) stack e w h o = ((tt, omega arith), (((tt, omega arith), ((tt, omega arith), h)), o))
  assigns None c stack e w h o = tt

  addressing : (object : Option ℕ) (stack : List Entry) (e : Environment) (w : World) → W stack → IsOwnWorld w → K (addressed object stack e w)
  addressing (Some object) stack e w h o = ((tt, omega arith), (h, o))
  addressing None stack e w h o = tt

  counting : (index : Option ℕ) (stack : List Entry) (e : Environment) (w : World) → W stack → IsOwnWorld w → K (counts index stack e w)
  counting (Some index) stack e w h o = ((tt, omega arith), (h, o))
  counting None stack e w h o = tt

  evaluating : (a : Expression) (stack : List Entry) (e : Environment) (w : World) → expression_cost measures.Lasting lasting a ≤ 0 → W stack → IsOwnWorld w → K (step_evaluating a stack e w)
  evaluating (Number n) stack e w free h o = ((tt, omega arith), (h, o))
  evaluating NullPointer stack e w free h o = ((tt, omega arith), (h, o))
  evaluating HeapRegion stack e w free h o = absurd (omega (arith, free))
  evaluating (Counter level) stack e w free h o = counting (e.counters level) stack e w h o
  evaluating (Copy place type) stack e w free h o = loads_from (kind_of type) (object_of e place) stack e w h o
  evaluating (Move p number type) stack e w free h o = loads_from (kind_of type) (e.locals number) stack e w h o
  evaluating (Peek p number type) stack e w free h o = loads_from (kind_of type) (e.locals number) stack e w h o
  evaluating (Load d) stack e w free h o = ((tt, omega arith), (((tt, omega arith), h), o))
  evaluating (AddressOf place type) stack e w free h o = addressing (object_of e place) stack e w h o
  evaluating (AddressOfCell d type) stack e w free h o = ((tt, omega arith), (((tt, omega arith), h), o))
  evaluating (NumberOfElements a) stack e w free h o = ((tt, omega arith), (((tt, omega arith), h), o))
  evaluating (FreeUnique a) stack e w free h o = ((tt, omega arith), (((tt, omega arith), h), o))
  evaluating (FreeKey a) stack e w free h o = ((tt, omega arith), (((tt, omega arith), h), o))
  evaluating (Call callee later type) stack e w free h o = passing callee [] later stack e w tt h o
  evaluating (Unary operator a) stack e w free h o = ((tt, omega arith), (((tt, omega arith), h), o))
  evaluating (Binary a rest type) stack e w free h o = ((tt, omega arith), (((tt, omega arith), h), o))
  evaluating (Assign place c type) stack e w free h o = assigns (object_of e place) c stack e w h o
  evaluating (typed.Store d c type) stack e w free h o = ((tt, omega arith), (((tt, omega arith), h), o))
  evaluating (New placement initial type) stack e w free h o = allocating placement initial stack e w h o

  deciding : (decides fails : Bool) (b : Expression) (rest : Operations) (stack : List Entry) (e : Environment) (w : World) → W stack → IsOwnWorld w → K (decided decides fails b rest stack e w)
  deciding true fails b rest stack e w h o = ((tt, omega arith), (((tt, omega arith), h), o))
  deciding false fails b rest stack e w h o = ((tt, omega arith), (((tt, omega arith), ((tt, omega arith), h)), o))

  testing : (fails : Option Bool) (operator : LogicalOperator) (b : Expression) (rest : Operations) (stack : List Entry) (e : Environment) (w : World) → W stack → IsOwnWorld w → K (tested fails operator b rest stack e w)
  testing (Some fails) operator b rest stack e w h o = deciding (decides operator fails) fails b rest stack e w h o
  testing None operator b rest stack e w h o = tt

  awaiting_right : (fits : Bool) (waiting : Awaiting) (b : Expression) (rest : Operations) (stack : List Entry) (e : Environment) (w : World) → IsKeptEntry opens m costs most (Needs waiting) → W stack → IsOwnWorld w → K (awaits_right fits waiting b rest stack e w)
  awaiting_right true waiting b rest stack e w later h o = ((tt, omega arith), ((later, ((tt, omega arith), h)), o))
  awaiting_right false waiting b rest stack e w later h o = tt

  chaining : (rest : Operations) (v : Operand) (stack : List Entry) (e : Environment) (w : World) → IsOwn v.value → W stack → IsOwnWorld w → K (chained rest v stack e w)
  chaining NoOperations v stack e w own h o = ((own, omega arith), (h, o))
  chaining (ThenCompute operator b rest) v stack e w own h o = awaiting_right (is_kind v.kind kinds.Int) (Apply operator v) b rest stack e w (tt, omega arith) h o
  chaining (ThenTest operator b rest) v stack e w own h o = testing (is_zero v.value) operator b rest stack e w h o
  chaining (ThenPointer operator b rest) v stack e w own h o = awaiting_right (takes_kind operator v.kind) (ApplyPointer None operator v) b rest stack e w (tt, omega arith) h o
  chaining (ThenPointerPeek number operator b rest) v stack e w own h o = awaiting_right (takes_kind operator v.kind) (ApplyPointer (Some number) operator v) b rest stack e w (tt, omega arith) h o

  telling : (negated : Bool) (a : Access Bool) (stack : List Entry) (e : Environment) (w : World) → W stack → IsOwnWorld w → K (tells negated a stack e w)
  telling false (Found equal) stack e w h o = ((tt, omega arith), (h, o))
  telling true (Found equal) stack e w h o = ((tt, omega arith), (h, o))
  telling negated Closed stack e w h o = tt
  telling negated Missing stack e w h o = tt

  applying_pointer : (operator : PointerOperator) (first second : Value) (stack : List Entry) (e : Environment) (w : World) → W stack → IsOwnWorld w → K (applies_pointer operator first second stack e w)
  applying_pointer pointers.EqualThin first second stack e w h o = telling false (compared w first second) stack e w h o
  applying_pointer pointers.NotEqualThin first second stack e w h o = telling true (compared w first second) stack e w h o
  applying_pointer operator first second stack e w h o = computes (result_kind operator) (pointer_result operator first second) stack e w (pointer_own operator first second) h o

  choosing : (fails : Option Bool) (first second : Statement) (stack : List Entry) (e : Environment) (w : World) → max (statement_at_once m costs first) (statement_at_once m costs second) ≤ most → W stack → IsOwnWorld w → K (chosen fails first second stack e w)
  choosing (Some true) first second stack e w now h o = ((tt, omega (arith, now)), (((tt, omega arith), h), o))
  choosing (Some false) first second stack e w now h o = ((tt, omega (arith, now)), (((tt, omega arith), h), o))
  choosing None first second stack e w now h o = tt

  looping : (fails : Option Bool) (condition : Expression) (body : Statement) (stack : List Entry) (e : Environment) (w : World) → statement_at_once m costs body ≤ most → W stack → IsOwnWorld w → K (looped fails condition body stack e w)
  looping (Some true) condition body stack e w now h o = ((tt, omega arith), (h, o))
  looping (Some false) condition body stack e w now h o = ((tt, now), (((tt, now), h), o))
  looping None condition body stack e w now h o = tt

  supplying : (a : Awaiting) (v : Operand) (stack : List Entry) (e : Environment) (w : World) → IsOwn v.value → IsKeptEntry opens m costs most (Needs a) → W stack → IsOwnWorld w → K (supplied a v stack e w)
  supplying (ConvertTo from to target) v stack e w own now h o = either (is_kind v.kind from && leads_to w target (followed v.value)) _ _ (computes to (conversion to v.value) stack e w (conversion_own to v.value own) h o) tt
  supplying (Operate operator) v stack e w own now h o = computes (unary_kind operator) (unary_result operator v.value) stack e w (unary_own operator v.value) h o
  supplying (Chain rest) v stack e w own now h o = chaining rest v stack e w own h o
  supplying (Apply operator before) v stack e w own now h o = computes kinds.Int (binary_result operator before.value v.value) stack e w (binary_own operator before.value v.value) h o
  supplying (ApplyPointer peek operator before) v stack e w own now h o = applying_pointer operator before.value v.value stack e w h o
  supplying Decide v stack e w own now h o = computes kinds.Int (truth_of (is_zero v.value)) stack e w (truth_own (is_zero v.value)) h o
  supplying (Store place) v stack e w own now h o = stores_at place v (Given v) stack e w own (own, omega arith) h o
  supplying (StoreCell peek place) v stack e w own now h o = stores_at place v (Given v) stack e w own (own, omega arith) h o
  supplying (Pass callee before later) v stack e w own now h o = passing callee (v ∷ before) later stack e w (own, now.0) h o
  supplying (Follow pointer target) v stack e w own now h o = either (is_kind v.kind pointer && leads_to w target (followed v.value)) _ _ (arriving (followed v.value) stack e w h o) tt
  supplying (FollowMember pointer fields field) v stack e w own now h o = either (is_kind v.kind pointer) _ _ (arriving (member_of w (followed v.value) fields field) stack e w h o) tt
  supplying (Index peek target index) v stack e w own now h o = either (is_kind v.kind kinds.Fat) _ _ ((tt, omega arith), (((tt, omega arith), h), o)) tt
  supplying (Advance peek target base) v stack e w own now h o = computes kinds.Fat (pointer_result pointers.AddFat base.value v.value) (Needs (Follow kinds.Fat target) ∷ stack) e w (pointer_own pointers.AddFat base.value v.value) ((tt, omega arith), h) o
  supplying CountElements v stack e w own now h o = computes kinds.Int (element_count v.value) stack e w (count_own v.value) h o
  supplying FreeObject v stack e w own now h o = freeing v.value stack e w h o
  supplying CloseByKey v stack e w own now h o = closing_with v.value stack e w own h o
  supplying (PlaceBy initial) v stack e w own now h o = placing initial v.value stack e w h o
  supplying (BesideHandle region) v stack e w own now h o = ((own, omega arith), (h, o))
  supplying (MakePlain owner kind) v stack e w own now h o = either (is_kind v.kind kind) _ _ (making owner (v ∷ []) stack e w (own, tt) h o) tt
  supplying (MakeFields owner before fields) v stack e w own now h o = making_fields owner (v ∷ before) fields stack e w (own, now.0) h o
  supplying (MakeArray owner level kind element) v stack e w own now h o = making_array owner level kind element v.value stack e w h o
  supplying (FillElement object count index level kind element) v stack e w own now h o = filling_element object count index level kind element v stack e w own h o
  supplying (Initialise number kind items) v stack e w own now h o = either (is_kind v.kind kind) _ _ (names (region_at w e.home) Proceeding number kind (Some v.value) (Rest items ∷ stack) e w own (tt, omega arith) ((tt, now.1), h) o) tt
  supplying (Choose first second) v stack e w own now h o = choosing (is_zero v.value) first second stack e w now.1 h o
  supplying (Test condition body) v stack e w own now h o = looping (is_zero v.value) condition body stack e w now.1 h o
  supplying Return v stack e w own now h o = ((own, omega arith), (h, o))
  supplying (ThrowWith tag) v stack e w own now h o = throwing_value tag v.value stack e w h o
  supplying (OpenBy number lent items) v stack e w own now h o = opening_with number lent items v.value stack e w own h o
  supplying (AliasOf number lent items) v stack e w own now h o = ((own, now.1), (((tt, omega arith), h), o))

  given : (v : Operand) (stack : List Entry) (e : Environment) (w : World) → IsOwn v.value → W stack → IsOwnWorld w → K (step_given v stack e w)
  given v [] e w own h o = tt
  given v (Needs a ∷ stack) e w own h o = supplying a v stack e w own h.0 h.1 o
  given v (Discard ∷ stack) e w own h o = ((tt, omega arith), (h.1, o))
  given v (entry ∷ stack) e w own h o = tt

  -- ---- statements

  returning_value : (value : Option Converted) (stack : List Entry) (e : Environment) (w : World) → W stack → IsOwnWorld w → K (steps.returns value stack e w)
  returning_value None stack e w h o = ((tt, omega arith), (h, o))
  returning_value (Some (Convert from to a)) stack e w h o = ((tt, omega arith), (((tt, omega arith), ((tt, omega arith), h)), o))

  testing_loop : (condition : Expression) (body : Statement) (stack : List Entry) (e : Environment) (w : World) → statement_at_once m costs body ≤ most → W stack → IsOwnWorld w → K (steps.tests condition body stack e w)
  testing_loop condition body stack e w now h o = ((tt, omega arith), (((tt, now), h), o))

  executing : (s : Statement) (stack : List Entry) (e : Environment) (w : World) → statement_at_once m costs s ≤ most → W stack → IsOwnWorld w → K (step_executing s stack e w)
  executing (Block region items) stack e w now h o = ((tt, omega arith), (((tt, now), ((tt, omega arith), h)), own_opened Stack w tt o))
  executing Empty stack e w now h o = ((tt, omega arith), (h, o))
  executing (Evaluate a) stack e w now h o = ((tt, omega arith), (((tt, omega arith), h), o))
  executing (Swap first right) stack e w now h o = swapping first right stack e w h o
  executing (If condition first second) stack e w now h o = ((tt, omega arith), (((tt, now), h), o))
  executing (While place condition body) stack e w now h o = testing_loop condition body stack e w now h o
  executing (typed.Return value) stack e w now h o = returning_value value stack e w h o
  executing Break stack e w now h o = ((tt, omega arith), (h, o))
  executing Continue stack e w now h o = ((tt, omega arith), (h, o))
  executing (Throw tag value) stack e w now h o = throwing_new tag value stack e w h o
  executing (Try s handler) stack e w now h o = ((tt, omega (arith, now)), (((tt, omega (arith, now)), h), o))

  declaring : (number : ℕ) (type : Ty) (value : Option Converted) (items : Items) (stack : List Entry) (e : Environment) (w : World) → items_at_once m costs items ≤ most → W stack → IsOwnWorld w → K (declares number type value items stack e w)
  declaring number type None items stack e w now h o = names (region_at w e.home) Proceeding number (kind_of type) None (Rest items ∷ stack) e w tt (tt, omega arith) ((tt, now), h) o
  declaring number type (Some (Convert from to a)) items stack e w now h o = ((tt, omega arith), (((tt, omega arith), ((tt, now), h)), o))

  continuing_with : (items : Items) (stack : List Entry) (e : Environment) (w : World) → items_cost measures.Lasting lasting items ≤ 0 → (OpensIn items → opens ≡ true) → items_at_once m costs items ≤ most → W stack → IsOwnWorld w → K (continues_with items stack e w)
  continuing_with NoItems stack e w free allows now h o = ((tt, omega arith), (h, o))
  continuing_with (MoreItems (Execute s) items) stack e w free allows now h o = ((tt, omega (arith, now)), (((tt, omega (arith, now)), h), o))
  continuing_with (MoreItems (Declare number type value) items) stack e w free allows now h o = declaring number type value items stack e w now h o
  continuing_with (MoreItems (DeclareRegion region number) items) stack e w free allows now h o =
      let less : items_cost m costs items ≤ most = omega (arith, now) in
      ((handle_own w.regions o.0, omega (arith, few, less, items_within m costs items (omega (arith, few, less)))), (((allows tt, omega arith), h), own_opened Lexical w tt o))
  continuing_with (MoreItems (OpenRegion region number p key) items) stack e w free allows now h o = loads_from kinds.Key (e.locals key) (Needs (OpenBy number key items) ∷ stack) e w ((tt, now), h) o
  continuing_with (MoreItems (DeclareAlias region number type p source) items) stack e w free allows now h o = loads_from (kind_of type) (e.locals source) (Needs (AliasOf number source items) ∷ stack) e w ((tt, now), h) o
  continuing_with (MoreItems (DeclareKey region number) items) stack e w free allows now h o = absurd (omega (arith, free))

  -- ---- popped entries

  proceeding : (stack : List Entry) (e : Environment) (w : World) → stack_cost measures.Lasting lasting Anything stack ≤ 0 → (OpensOn stack → opens ≡ true) → W stack → IsOwnWorld w → K (step_proceeding stack e w)
  proceeding [] e w free allows h o = tt
  proceeding (Needs a ∷ stack) e w free allows h o = tt
  proceeding (NeedsPlace a ∷ stack) e w free allows h o = tt
  proceeding (Discard ∷ stack) e w free allows h o = ((tt, omega arith), (h.1, o))
  proceeding (Rest items ∷ stack) e w free allows h o = continuing_with items stack e w (omega (arith, free)) allows h.0.1 h.1 o
  proceeding (Join ∷ stack) e w free allows h o = ((tt, omega arith), (h.1, o))
  proceeding (Loop condition body ∷ stack) e w free allows h o = testing_loop condition body stack e w h.0.1 h.1 o
  proceeding (CloseRegion region home ∷ stack) e w free allows h o = closes (region_at w region) Proceeding region home stack e w refl (tt, omega arith) h.1 o
  proceeding (CloseLexical region ∷ stack) e w free allows h o = closes_lexical (region_at w region) Proceeding region stack e w refl (tt, omega arith) h.1 o
  proceeding (EndLoan lent ∷ stack) e w free allows h o = ((tt, omega arith), (h.1, o))
  proceeding (Handler handler ∷ stack) e w free allows h o = ((tt, omega arith), (h.1, o))
  proceeding (Caller outer ∷ stack) e w free allows h o = ((tt, omega arith), (h.1, o))
  proceeding (Main ∷ stack) e w free allows h o = tt

  breaking : (stack : List Entry) (e : Environment) (w : World) → W stack → IsOwnWorld w → K (step_breaking stack e w)
  breaking [] e w h o = tt
  breaking (Needs a ∷ stack) e w h o = ((tt, omega arith), (h.1, o))
  breaking (NeedsPlace a ∷ stack) e w h o = ((tt, omega arith), (h.1, o))
  breaking (Discard ∷ stack) e w h o = ((tt, omega arith), (h.1, o))
  breaking (Rest items ∷ stack) e w h o = ((tt, omega arith), (h.1, o))
  breaking (Join ∷ stack) e w h o = ((tt, omega arith), (h.1, o))
  breaking (Loop condition body ∷ stack) e w h o = ((tt, omega arith), (h.1, o))
  breaking (CloseRegion region home ∷ stack) e w h o = closes (region_at w region) Breaking region home stack e w refl (tt, omega arith) h.1 o
  breaking (CloseLexical region ∷ stack) e w h o = closes_lexical (region_at w region) Breaking region stack e w refl (tt, omega arith) h.1 o
  breaking (EndLoan lent ∷ stack) e w h o = ((tt, omega arith), (h.1, o))
  breaking (Handler handler ∷ stack) e w h o = ((tt, omega arith), (h.1, o))
  breaking (Caller outer ∷ stack) e w h o = tt
  breaking (Main ∷ stack) e w h o = tt

  continuing : (stack : List Entry) (e : Environment) (w : World) → W stack → IsOwnWorld w → K (step_continuing stack e w)
  continuing [] e w h o = tt
  continuing (Needs a ∷ stack) e w h o = ((tt, omega arith), (h.1, o))
  continuing (NeedsPlace a ∷ stack) e w h o = ((tt, omega arith), (h.1, o))
  continuing (Discard ∷ stack) e w h o = ((tt, omega arith), (h.1, o))
  continuing (Rest items ∷ stack) e w h o = ((tt, omega arith), (h.1, o))
  continuing (Join ∷ stack) e w h o = ((tt, omega arith), (h.1, o))
  continuing (Loop condition body ∷ stack) e w h o = testing_loop condition body stack e w h.0.1 h.1 o
  continuing (CloseRegion region home ∷ stack) e w h o = closes (region_at w region) Continuing region home stack e w refl (tt, omega arith) h.1 o
  continuing (CloseLexical region ∷ stack) e w h o = closes_lexical (region_at w region) Continuing region stack e w refl (tt, omega arith) h.1 o
  continuing (EndLoan lent ∷ stack) e w h o = ((tt, omega arith), (h.1, o))
  continuing (Handler handler ∷ stack) e w h o = ((tt, omega arith), (h.1, o))
  continuing (Caller outer ∷ stack) e w h o = tt
  continuing (Main ∷ stack) e w h o = tt

  ending_with : (value : Value) (w : World) → K (ends_with value w)
  ending_with (Int word) w = tt
  ending_with value w = tt

  ending_main : (value : Option Operand) (w : World) → K (main_returned value w)
  ending_main None w = tt
  ending_main (Some v) w = ending_with v.value w

  returning_to : (value : Option Operand) (stack : List Entry) (e : Environment) (w : World) → IsOwnOperand value → W stack → IsOwnWorld w → K (returned value stack e w)
  returning_to (Some v) stack e w own h o = ((own, omega arith), (h, o))
  returning_to None stack e w own h o = ((tt, omega arith), (h, o))

  returning : (value : Option Operand) (stack : List Entry) (e : Environment) (w : World) → IsOwnOperand value → W stack → IsOwnWorld w → K (step_returning value stack e w)
  returning value [] e w own h o = tt
  returning value (Needs a ∷ stack) e w own h o = ((own, omega arith), (h.1, o))
  returning value (NeedsPlace a ∷ stack) e w own h o = ((own, omega arith), (h.1, o))
  returning value (Discard ∷ stack) e w own h o = ((own, omega arith), (h.1, o))
  returning value (Rest items ∷ stack) e w own h o = ((own, omega arith), (h.1, o))
  returning value (Join ∷ stack) e w own h o = ((own, omega arith), (h.1, o))
  returning value (Loop condition body ∷ stack) e w own h o = ((own, omega arith), (h.1, o))
  returning value (CloseRegion region home ∷ stack) e w own h o = closes (region_at w region) (Returning value) region home stack e w refl (own, omega arith) h.1 o
  returning value (CloseLexical region ∷ stack) e w own h o = closes_lexical (region_at w region) (Returning value) region stack e w refl (own, omega arith) h.1 o
  returning value (EndLoan lent ∷ stack) e w own h o = ((own, omega arith), (h.1, o))
  returning value (Handler handler ∷ stack) e w own h o = ((own, omega arith), (h.1, o))
  returning value (Caller outer ∷ stack) e w own h o = returning_to value stack outer w own h.1 o
  returning value (Main ∷ stack) e w own h o = ending_main value w

  throwing : (tag value : ℕ) (stack : List Entry) (e : Environment) (w : World) → W stack → IsOwnWorld w → K (step_throwing tag value stack e w)
  throwing tag value [] e w h o = tt
  throwing tag value (Needs a ∷ stack) e w h o = ((tt, omega arith), (h.1, o))
  throwing tag value (NeedsPlace a ∷ stack) e w h o = ((tt, omega arith), (h.1, o))
  throwing tag value (Discard ∷ stack) e w h o = ((tt, omega arith), (h.1, o))
  throwing tag value (Rest items ∷ stack) e w h o = ((tt, omega arith), (h.1, o))
  throwing tag value (Join ∷ stack) e w h o = ((tt, omega arith), (h.1, o))
  throwing tag value (Loop condition body ∷ stack) e w h o = ((tt, omega arith), (h.1, o))
  throwing tag value (CloseRegion region home ∷ stack) e w h o = closes (region_at w region) (Throwing tag value) region home stack e w refl (tt, omega arith) h.1 o
  throwing tag value (CloseLexical region ∷ stack) e w h o = closes_lexical (region_at w region) (Throwing tag value) region stack e w refl (tt, omega arith) h.1 o
  throwing tag value (EndLoan lent ∷ stack) e w h o = ((tt, omega arith), (h.1, o))
  throwing tag value (Handler handler ∷ stack) e w h o = ((tt, h.0.1), (h.1, o))
  throwing tag value (Caller outer ∷ stack) e w h o = ((tt, omega arith), (h.1, o))
  throwing tag value (Main ∷ stack) e w h o = ((tt, omega arith), (h.1, o))

  -- ---- a step

  calls_function : (f : Option Function) (arguments : List Operand) (stack : List Entry) (e : Environment) (w : World) → AreOwn arguments → at_once_of m costs f ≤ most → W stack → IsOwnWorld w → K (called f arguments stack w)
  calls_function (Some f) arguments stack e w own now h o = either (length arguments == length f.parameters) _ _ ((own, now), (h, o)) tt
  calls_function None arguments stack e w own now h o = tt

  calling : (callee : Callee) (arguments : List Operand) (stack : List Entry) (e : Environment) (w : World) → CalleeFits program m costs most (Calling callee arguments) → AreOwn arguments → W stack → IsOwnWorld w → K (step_calling program callee arguments stack e w)
  calling callees.Putchar arguments stack e w fits own h o = putchar_prints (values_of arguments) stack e w h o
  calling callees.Getchar arguments stack e w fits own h o = getchar_reads (values_of arguments) stack e w h o
  calling (callees.Function number) arguments stack e w fits own h o = calls_function (slice_get program.functions number) (reverse arguments) (Caller e ∷ stack) e w (reverse_own arguments own) fits ((tt, omega arith), h) o

  stepping : (focus : Focus) (stack : List Entry) (e : Environment) (w : World) → focus_cost measures.Lasting lasting focus + stack_cost measures.Lasting lasting (focus_delivers focus) stack ≤ 0 → CalleeFits program m costs most focus → (Opens focus stack → opens ≡ true) → F focus → W stack → IsOwnWorld w → K (stepped program focus stack e w)
  stepping (Evaluating a) stack e w free fits allows now h o = evaluating a stack e w (omega (arith, free)) h o
  stepping (Locating d) stack e w free fits allows now h o = locating d stack e w h o
  stepping (Given v) stack e w free fits allows now h o = given v stack e w now.0 h o
  stepping (GivenPlace place) stack e w free fits allows now h o = given_place place stack e w now.0 h o
  stepping (Executing s) stack e w free fits allows now h o = executing s stack e w now.1 h o
  stepping Proceeding stack e w free fits allows now h o = proceeding stack e w (omega (arith, free)) allows h o
  stepping (Calling callee arguments) stack e w free fits allows now h o = calling callee arguments stack e w fits now.0 h o
  stepping (Entering f arguments) stack e w free fits allows now h o = ((now.0, now.1), (((tt, omega arith), h), own_opened Stack w tt o))
  stepping (Binding number types arguments body) stack e w free fits allows now h o = binding number types arguments body stack e w now.0 now.1 h o
  stepping (Naming number operand items) stack e w free fits allows now h o = names (region_at w e.home) Proceeding number operand.kind (Some operand.value) (Rest items ∷ stack) e w now.0 (tt, omega arith) ((tt, now.1), h) o
  stepping (Writing writes result) stack e w free fits allows now h o = writing writes result stack e w now.0 h o
  stepping (Beginning owner count level kind element) stack e w free fits allows now h o = begins (created w owner (blanks count kind)) owner count level kind element stack e w refl h o
  stepping (Repeating object count index level kind element) stack e w free fits allows now h o = either (index == count) _ _ ((tt, omega arith), (h, o)) ((tt, omega arith), (((tt, omega arith), h), o))
  stepping (Swapping kind first right before) stack e w free fits allows now h o = swapping_values kind first right before stack e w now.0 h o
  stepping Breaking stack e w free fits allows now h o = breaking stack e w h o
  stepping Continuing stack e w free fits allows now h o = continuing stack e w h o
  stepping (Returning value) stack e w free fits allows now h o = returning value stack e w now.0 h o
  stepping (Throwing tag value) stack e w free fits allows now h o = throwing tag value stack e w h o
  stepping (Catching tag value handler) stack e w free fits allows now h o = catching tag value handler stack e w now.1 h o

  pub step_kept : (s : State) → CostsAtMost measures.Lasting lasting 0 s → CalleeFitsIn program m costs most s → MayOpen opens s → K s → K (steps.step program s)
  step_kept (Running focus stack e w) free fits allows (now, (h, o)) = stepping focus stack e w (omega (arith, free)) fits allows now h o
  step_kept (Ended ending output input) free fits allows h = tt
  step_kept (Dead output input) free fits allows h = tt
  step_kept (Wrong output input) free fits allows h = tt
