-- A step that evaluates an lvalue or a value depends only on the newest stack entry; the older entries do not change.
use Rattle.std.proofs.Common.{◌≡◌, ℕ, suc, Bool, true, false, List, [], ◌∷◌, ◌++◌, length, reverse, Option, Some, None, refl}
use Rattle.std.specs.Prelude.{◌==◌, ◌*◌, ◌&&◌, nat_le, if◌then◌else◌, slice_get}
use Rattle.cyc_types.specs.declared.typed.Kind.{Kind}
use Rattle.cyc_types.specs.declared.typed.Kind.TheVariants as kinds
use Rattle.cyc_types.specs.declared.typed.Callee.{Callee}
use Rattle.cyc_types.specs.declared.typed.LogicalOperator.{LogicalOperator}
use Rattle.cyc_types.specs.declared.typed.PointerOperator.{PointerOperator}
use Rattle.cyc_types.specs.declared.typed.PointerOperator.TheVariants as pointers
use Rattle.cyc_types.specs.TypedTrees.{Expression, Number, NullPointer, HeapRegion, Counter, Copy, Move, Peek, Load, AddressOf, AddressOfCell, NumberOfElements, FreeUnique, FreeKey, Call, Unary, Binary, Assign, New, Dereference, Target, Member, Element, Placement, OnHeap, AsUnique}
use Rattle.cyc_types.specs.TypedTrees.{ByHandle, Initial, Plain, Fields, Array, Converted, Convert, Arguments, NoArguments, MoreArguments, Operations, NoOperations, ThenCompute, ThenTest, ThenPointer, ThenPointerPeek, Side, VariableSide, CellSide, Statement, Items, StructType, Program}
use Rattle.cyc_types.specs.TypedTrees as typed
use Rattle.cyc_meaning.specs.Values.{Value, Int, Null, Thin, Fat, Handle, Key, Operand, kind_of, is_kind, bytes_of_kind, words_for}
use Rattle.cyc_meaning.specs.Operators.{Result, Gives, Raises, Misfits, is_zero, binary_result, unary_result, unary_kind, truth_of, decides}
use Rattle.cyc_meaning.specs.Pointers.{element_count, pointer_result, takes_kind, Reach, At, Stops, Nowhere, followed}
use Rattle.cyc_meaning.specs.Conversion.{conversion}
use Rattle.cyc_meaning.specs.State.{Region, Owner, InRegion, Unique, Object, World, Access, Found, Closed, Missing, region_at, Located, cell_at, Environment, Awaiting, ConvertTo, Operate, Chain, Apply, ApplyPointer, Decide, Store, StoreCell, Pass, Follow, FollowMember, Index, Advance}
use Rattle.cyc_meaning.specs.State.{CountElements, FreeObject, CloseByKey, PlaceBy, BesideHandle, MakePlain, MakeFields, MakeArray, FillElement, Initialise, Choose, Test, Return, ThrowWith, OpenBy, AliasOf, LoadFrom, TakeAddress, StoreTo, SwapLeft, SwapRight, Entry, Needs, NeedsPlace}
use Rattle.cyc_meaning.specs.State.{Discard, Rest, Join, Loop, CloseRegion, CloseLexical, EndLoan, Handler, Caller, Main, Focus, Given, Proceeding, Repeating, State, Running, Ended, Dead, Wrong}
use Rattle.cyc_meaning.specs.Objects.{compared, created}
use Rattle.cyc_meaning.specs.Parts.{computed, leads_to, object_of, read, loaded, loaded_from, stored, stored_at, declared}
use Rattle.cyc_meaning.specs.Places.{arrives, member_of, locates_member, step_locating, loaded_at, step_given_place}
use Rattle.cyc_meaning.specs.Swaps.{finds_right_object, finds_right, finds_left_object, swaps, swap_content, swap_loaded, swap_loaded_at, step_swapping}
use Rattle.cyc_meaning.specs.Allocation.{blanks_of, filled, makes_of, makes_fields, begun, makes_array, fills_element, makes, makes_by, allocates, most_words}
use Rattle.cyc_meaning.specs.Exceptions.{throws_value}
use Rattle.cyc_meaning.specs.Regions.{is_dynamic, opened_by, opens_with, closes_dynamic, closes_with, frees_in_region, frees_owned, frees_object, frees}
use Rattle.cyc_meaning.specs.Step.{passes, assigned, addressed, counts, step_evaluating, decided, tested, awaits_right, chained, tells, applies_pointer, chosen, looped, supplied, step_given}

module _ (program : Program) (below : List Entry) where
  -- a state after the older stack entries `below` are appended at the bottom of its stack
  abbrev pub under : State → State
  under (Running focus stack e w) = Running focus (stack ++ below) e w
  under (Ended ending output input) = Ended ending output input
  under (Dead output input) = Dead output input
  under (Wrong output input) = Wrong output input

  pub either : (b : Bool) (s t u v : State) → s ≡ under u → t ≡ under v → (if b then s else t) ≡ under (if b then u else v)
  either true s t u v first second = first
  either false s t u v first second = second

  computes : (kind : Kind) (r : Result) (stack : List Entry) (e : Environment) (w : World) → computed kind r (stack ++ below) e w ≡ under (computed kind r stack e w)
  computes kind (Gives value) stack e w = refl
  computes kind (Raises tag) stack e w = refl
  computes kind Misfits stack e w = refl

  reads_cell : (kind : Kind) (o : Option Value) (stack : List Entry) (e : Environment) (w : World) → read kind o (stack ++ below) e w ≡ under (read kind o stack e w)
  reads_cell kind (Some value) stack e w = refl
  reads_cell kind None stack e w = refl

  loads : (kind : Kind) (a : Access Located) (stack : List Entry) (e : Environment) (w : World) → loaded kind a (stack ++ below) e w ≡ under (loaded kind a stack e w)
  loads kind (Found at) stack e w = either (is_kind at.cell.kind kind) _ _ _ _ (reads_cell kind at.cell.content stack e w) refl
  loads kind Closed stack e w = refl
  loads kind Missing stack e w = refl

  pub loads_from : (kind : Kind) (o : Option ℕ) (stack : List Entry) (e : Environment) (w : World) → loaded_from kind o (stack ++ below) e w ≡ under (loaded_from kind o stack e w)
  loads_from kind (Some object) stack e w = loads kind (cell_at w object 0) stack e w
  loads_from kind None stack e w = refl

  stores : (a : Access Located) (object offset : ℕ) (v : Operand) (focus : Focus) (stack : List Entry) (e : Environment) (w : World) → stored a object offset v focus (stack ++ below) e w ≡ under (stored a object offset v focus stack e w)
  stores (Found at) object offset v focus stack e w = either (is_kind at.cell.kind v.kind) _ _ _ _ refl refl
  stores Closed object offset v focus stack e w = refl
  stores Missing object offset v focus stack e w = refl

  pub stores_at : (place : Value) (v : Operand) (focus : Focus) (stack : List Entry) (e : Environment) (w : World) → stored_at place v focus (stack ++ below) e w ≡ under (stored_at place v focus stack e w)
  stores_at (Thin object offset) v focus stack e w = stores (cell_at w object offset) object offset v focus stack e w
  stores_at Null v focus stack e w = refl
  stores_at (Int n) v focus stack e w = refl
  stores_at (Fat object start count index) v focus stack e w = refl
  stores_at (Handle region) v focus stack e w = refl
  stores_at (Key region) v focus stack e w = refl

  pub names : (a : Access Region) (focus : Focus) (number : ℕ) (kind : Kind) (content : Option Value) (stack : List Entry) (e : Environment) (w : World) → declared a focus number kind content (stack ++ below) e w ≡ under (declared a focus number kind content stack e w)
  names (Found r) focus number kind content stack e w = refl
  names Closed focus number kind content stack e w = refl
  names Missing focus number kind content stack e w = refl

  -- ---- places

  arriving : (r : Reach) (stack : List Entry) (e : Environment) (w : World) → arrives r (stack ++ below) e w ≡ under (arrives r stack e w)
  arriving (At object offset) stack e w = refl
  arriving (Stops tag) stack e w = refl
  arriving Nowhere stack e w = refl

  locating_member : (o : Option StructType) (pointer : Kind) (a : Expression) (field : ℕ) (stack : List Entry) (e : Environment) (w : World) → locates_member o pointer a field (stack ++ below) e w ≡ under (locates_member o pointer a field stack e w)
  locating_member (Some s) pointer a field stack e w = refl
  locating_member None pointer a field stack e w = refl

  pub locating : (d : Dereference) (stack : List Entry) (e : Environment) (w : World) → step_locating program d (stack ++ below) e w ≡ under (step_locating program d stack e w)
  locating (Target pointer a type) stack e w = refl
  locating (Member pointer a s field type) stack e w = locating_member (slice_get program.structs s) pointer a field stack e w
  locating (Element a i type) stack e w = refl

  loading_at : (kind : Kind) (place : Value) (stack : List Entry) (e : Environment) (w : World) → loaded_at kind place (stack ++ below) e w ≡ under (loaded_at kind place stack e w)
  loading_at kind (Thin object offset) stack e w = loads kind (cell_at w object offset) stack e w
  loading_at kind Null stack e w = refl
  loading_at kind (Int n) stack e w = refl
  loading_at kind (Fat object start count index) stack e w = refl
  loading_at kind (Handle region) stack e w = refl
  loading_at kind (Key region) stack e w = refl

  -- ---- swaps

  finding_right_object : (kind : Kind) (before : Value) (o : Option ℕ) (stack : List Entry) (e : Environment) (w : World) → finds_right_object kind before o (stack ++ below) e w ≡ under (finds_right_object kind before o stack e w)
  finding_right_object kind before (Some object) stack e w = refl
  finding_right_object kind before None stack e w = refl

  finding_right : (kind : Kind) (peek : Option ℕ) (is_cell : Bool) (before : Value) (right : Side) (stack : List Entry) (e : Environment) (w : World) → finds_right kind peek is_cell before right (stack ++ below) e w ≡ under (finds_right kind peek is_cell before right stack e w)
  finding_right kind peek is_cell before (VariableSide l type) stack e w = finding_right_object kind before (object_of e l) stack e w
  finding_right kind peek is_cell before (CellSide d) stack e w = refl

  finding_left : (kind : Kind) (o : Option ℕ) (right : Side) (stack : List Entry) (e : Environment) (w : World) → finds_left_object kind o right (stack ++ below) e w ≡ under (finds_left_object kind o right stack e w)
  finding_left kind (Some object) right stack e w = finding_right kind None false (Thin object 0) right stack e w
  finding_left kind None right stack e w = refl

  pub swapping : (first right : Side) (stack : List Entry) (e : Environment) (w : World) → swaps first right (stack ++ below) e w ≡ under (swaps first right stack e w)
  swapping (VariableSide l type) right stack e w = finding_left (kind_of type) (object_of e l) right stack e w
  swapping (CellSide d) right stack e w = refl

  swap_reads : (kind : Kind) (first right : Value) (before : Option Operand) (o : Option Value) (stack : List Entry) (e : Environment) (w : World) → swap_content kind first right before o (stack ++ below) e w ≡ under (swap_content kind first right before o stack e w)
  swap_reads kind first right None (Some value) stack e w = refl
  swap_reads kind first right (Some before) (Some value) stack e w = refl
  swap_reads kind first right before None stack e w = refl

  swap_loads : (kind : Kind) (first right : Value) (before : Option Operand) (a : Access Located) (stack : List Entry) (e : Environment) (w : World) → swap_loaded kind first right before a (stack ++ below) e w ≡ under (swap_loaded kind first right before a stack e w)
  swap_loads kind first right before (Found at) stack e w = either (is_kind at.cell.kind kind) _ _ _ _ (swap_reads kind first right before at.cell.content stack e w) refl
  swap_loads kind first right before Closed stack e w = refl
  swap_loads kind first right before Missing stack e w = refl

  swap_loads_at : (kind : Kind) (first right : Value) (before : Option Operand) (place : Value) (stack : List Entry) (e : Environment) (w : World) → swap_loaded_at kind first right before place (stack ++ below) e w ≡ under (swap_loaded_at kind first right before place stack e w)
  swap_loads_at kind first right before (Thin object offset) stack e w = swap_loads kind first right before (cell_at w object offset) stack e w
  swap_loads_at kind first right before Null stack e w = refl
  swap_loads_at kind first right before (Int n) stack e w = refl
  swap_loads_at kind first right before (Fat object start count index) stack e w = refl
  swap_loads_at kind first right before (Handle region) stack e w = refl
  swap_loads_at kind first right before (Key region) stack e w = refl

  pub swapping_values : (kind : Kind) (first right : Value) (o : Option Operand) (stack : List Entry) (e : Environment) (w : World) → step_swapping kind first right o (stack ++ below) e w ≡ under (step_swapping kind first right o stack e w)
  swapping_values kind first right None stack e w = swap_loads_at kind first right None first stack e w
  swapping_values kind first right (Some before) stack e w = swap_loads_at kind first right (Some before) right stack e w

  pub given_place : (place : Value) (entry : Entry) (stack : List Entry) (e : Environment) (w : World) → step_given_place place (entry ∷ (stack ++ below)) e w ≡ under (step_given_place place (entry ∷ stack) e w)
  given_place place (NeedsPlace (LoadFrom kind)) stack e w = loading_at kind place stack e w
  given_place place (NeedsPlace TakeAddress) stack e w = refl
  given_place place (NeedsPlace (StoreTo peek (Convert from to a))) stack e w = refl
  given_place place (NeedsPlace (SwapLeft kind peek right)) stack e w = finding_right kind peek true place right stack e w
  given_place place (NeedsPlace (SwapRight kind peek is_cell before)) stack e w = refl
  given_place place (Needs a) stack e w = refl
  given_place place Discard stack e w = refl
  given_place place (Rest items) stack e w = refl
  given_place place Join stack e w = refl
  given_place place (Loop condition body) stack e w = refl
  given_place place (CloseRegion region home) stack e w = refl
  given_place place (CloseLexical region) stack e w = refl
  given_place place (EndLoan lent) stack e w = refl
  given_place place (Handler handler) stack e w = refl
  given_place place (Caller outer) stack e w = refl
  given_place place Main stack e w = refl

  -- ---- new objects

  filling : (a : Access World) (object : ℕ) (values : List Operand) (stack : List Entry) (e : Environment) (w : World) → filled a object values (stack ++ below) e w ≡ under (filled a object values stack e w)
  filling (Found new) object values stack e w = refl
  filling Closed object values stack e w = refl
  filling Missing object values stack e w = refl

  making : (owner : Owner) (values : List Operand) (stack : List Entry) (e : Environment) (w : World) → makes_of owner values (stack ++ below) e w ≡ under (makes_of owner values stack e w)
  making owner values stack e w = filling (created w owner (blanks_of values)) (length w.objects) values stack e w

  making_fields : (owner : Owner) (before : List Operand) (fields : Arguments) (stack : List Entry) (e : Environment) (w : World) → makes_fields owner before fields (stack ++ below) e w ≡ under (makes_fields owner before fields stack e w)
  making_fields owner before NoArguments stack e w = making owner (reverse before) stack e w
  making_fields owner before (MoreArguments (Convert from to a) fields) stack e w = refl

  pub begins : (a : Access World) (object count level : ℕ) (kind : Kind) (element : Expression) (stack : List Entry) (e : Environment) (w : World) → begun a object count level kind element (stack ++ below) e w ≡ under (begun a object count level kind element stack e w)
  begins (Found new) object count level kind element stack e w = refl
  begins Closed object count level kind element stack e w = refl
  begins Missing object count level kind element stack e w = refl

  making_array : (owner : Owner) (level : ℕ) (kind : Kind) (element : Expression) (value : Value) (stack : List Entry) (e : Environment) (w : World) → makes_array owner level kind element value (stack ++ below) e w ≡ under (makes_array owner level kind element value stack e w)
  making_array owner level kind element (Int count) stack e w = either (nat_le (words_for (count * bytes_of_kind kind)) most_words) _ _ _ _ refl refl
  making_array owner level kind element Null stack e w = refl
  making_array owner level kind element (Thin object offset) stack e w = refl
  making_array owner level kind element (Fat object start count index) stack e w = refl
  making_array owner level kind element (Handle region) stack e w = refl
  making_array owner level kind element (Key region) stack e w = refl

  filling_element : (object count index level : ℕ) (kind : Kind) (element : Expression) (v : Operand) (stack : List Entry) (e : Environment) (w : World) → fills_element object count index level kind element v (stack ++ below) e w ≡ under (fills_element object count index level kind element v stack e w)
  filling_element object count index level kind element v stack e w =
      either (is_kind v.kind kind) _ _ _ _ (stores (cell_at w object index) object index v (Repeating object count (suc index) level kind element) stack e w) refl

  making_initial : (owner : Owner) (initial : Initial) (stack : List Entry) (e : Environment) (w : World) → makes owner initial (stack ++ below) e w ≡ under (makes owner initial stack e w)
  making_initial owner (Plain kind a) stack e w = refl
  making_initial owner (Fields fields) stack e w = making_fields owner [] fields stack e w
  making_initial owner (Array place level count kind element) stack e w = refl

  allocating : (placement : Placement) (initial : Initial) (stack : List Entry) (e : Environment) (w : World) → allocates placement initial (stack ++ below) e w ≡ under (allocates placement initial stack e w)
  allocating OnHeap initial stack e w = making_initial (InRegion 0) initial stack e w
  allocating AsUnique initial stack e w = making_initial (Unique true) initial stack e w
  allocating (ByHandle a) initial stack e w = refl

  placing : (initial : Initial) (value : Value) (stack : List Entry) (e : Environment) (w : World) → makes_by initial value (stack ++ below) e w ≡ under (makes_by initial value stack e w)
  placing initial (Handle region) stack e w = making_initial (InRegion region) initial (Needs (BesideHandle region) ∷ stack) e w
  placing initial Null stack e w = refl
  placing initial (Int n) stack e w = refl
  placing initial (Thin object offset) stack e w = refl
  placing initial (Fat object start count index) stack e w = refl
  placing initial (Key region) stack e w = refl

  -- ---- regions

  opening_by : (a : Access Region) (region number lent : ℕ) (items : Items) (stack : List Entry) (e : Environment) (w : World) → opened_by a region number lent items (stack ++ below) e w ≡ under (opened_by a region number lent items stack e w)
  opening_by (Found r) region number lent items stack e w = either (is_dynamic r.sort) _ _ _ _ refl refl
  opening_by Closed region number lent items stack e w = refl
  opening_by Missing region number lent items stack e w = refl

  opening_with : (number lent : ℕ) (items : Items) (key : Value) (stack : List Entry) (e : Environment) (w : World) → opens_with number lent items key (stack ++ below) e w ≡ under (opens_with number lent items key stack e w)
  opening_with number lent items (Key region) stack e w = opening_by (region_at w region) region number lent items stack e w
  opening_with number lent items Null stack e w = refl
  opening_with number lent items (Int n) stack e w = refl
  opening_with number lent items (Thin object offset) stack e w = refl
  opening_with number lent items (Fat object start count index) stack e w = refl
  opening_with number lent items (Handle region) stack e w = refl

  closing_dynamic : (a : Access Region) (region : ℕ) (stack : List Entry) (e : Environment) (w : World) → closes_dynamic a region (stack ++ below) e w ≡ under (closes_dynamic a region stack e w)
  closing_dynamic (Found r) region stack e w = either (is_dynamic r.sort) _ _ _ _ refl refl
  closing_dynamic Closed region stack e w = refl
  closing_dynamic Missing region stack e w = refl

  closing_with : (key : Value) (stack : List Entry) (e : Environment) (w : World) → closes_with key (stack ++ below) e w ≡ under (closes_with key stack e w)
  closing_with (Key region) stack e w = closing_dynamic (region_at w region) region stack e w
  closing_with Null stack e w = refl
  closing_with (Int n) stack e w = refl
  closing_with (Thin object offset) stack e w = refl
  closing_with (Fat object start count index) stack e w = refl
  closing_with (Handle region) stack e w = refl

  freeing_in_region : (a : Access Region) (w : World) → frees_in_region a w ≡ under (frees_in_region a w)
  freeing_in_region (Found r) w = refl
  freeing_in_region Closed w = refl
  freeing_in_region Missing w = refl

  freeing_owned : (owner : Owner) (number : ℕ) (x : Object) (stack : List Entry) (e : Environment) (w : World) → frees_owned owner number x (stack ++ below) e w ≡ under (frees_owned owner number x stack e w)
  freeing_owned (InRegion region) number x stack e w = freeing_in_region (region_at w region) w
  freeing_owned (Unique true) number x stack e w = refl
  freeing_owned (Unique false) number x stack e w = refl

  freeing_object : (o : Option Object) (number : ℕ) (stack : List Entry) (e : Environment) (w : World) → frees_object o number (stack ++ below) e w ≡ under (frees_object o number stack e w)
  freeing_object (Some x) number stack e w = freeing_owned x.owner number x stack e w
  freeing_object None number stack e w = refl

  freeing : (value : Value) (stack : List Entry) (e : Environment) (w : World) → frees value (stack ++ below) e w ≡ under (frees value stack e w)
  freeing Null stack e w = refl
  freeing (Thin object offset) stack e w = either (offset == 0) _ _ _ _ (freeing_object (slice_get w.objects object) object stack e w) refl
  freeing (Fat object start count index) stack e w = either (start == 0) _ _ _ _ (freeing_object (slice_get w.objects object) object stack e w) refl
  freeing (Int n) stack e w = refl
  freeing (Handle region) stack e w = refl
  freeing (Key region) stack e w = refl

  throwing_value : (tag : ℕ) (value : Value) (stack : List Entry) (e : Environment) (w : World) → throws_value tag value (stack ++ below) e w ≡ under (throws_value tag value stack e w)
  throwing_value tag (Int word) stack e w = refl
  throwing_value tag Null stack e w = refl
  throwing_value tag (Thin object offset) stack e w = refl
  throwing_value tag (Fat object start count index) stack e w = refl
  throwing_value tag (Handle region) stack e w = refl
  throwing_value tag (Key region) stack e w = refl

  -- ---- evaluation

  passing : (callee : Callee) (before : List Operand) (later : Arguments) (stack : List Entry) (e : Environment) (w : World) → passes callee before later (stack ++ below) e w ≡ under (passes callee before later stack e w)
  passing callee before NoArguments stack e w = refl
  passing callee before (MoreArguments (Convert from to a) later) stack e w = refl

  assigns : (o : Option ℕ) (c : Converted) (stack : List Entry) (e : Environment) (w : World) → assigned o c (stack ++ below) e w ≡ under (assigned o c stack e w)
  assigns (Some object) (Convert from to a) stack e w = refl
  assigns None c stack e w = refl

  addressing : (o : Option ℕ) (stack : List Entry) (e : Environment) (w : World) → addressed o (stack ++ below) e w ≡ under (addressed o stack e w)
  addressing (Some object) stack e w = refl
  addressing None stack e w = refl

  counting : (o : Option ℕ) (stack : List Entry) (e : Environment) (w : World) → counts o (stack ++ below) e w ≡ under (counts o stack e w)
  counting (Some index) stack e w = refl
  counting None stack e w = refl

  pub evaluating : (a : Expression) (stack : List Entry) (e : Environment) (w : World) → step_evaluating a (stack ++ below) e w ≡ under (step_evaluating a stack e w)
  evaluating (Number n) stack e w = refl
  evaluating NullPointer stack e w = refl
  evaluating HeapRegion stack e w = refl
  evaluating (Counter level) stack e w = counting (e.counters level) stack e w
  evaluating (Copy place type) stack e w = loads_from (kind_of type) (object_of e place) stack e w
  evaluating (Move p number type) stack e w = loads_from (kind_of type) (e.locals number) stack e w
  evaluating (Peek p number type) stack e w = loads_from (kind_of type) (e.locals number) stack e w
  evaluating (Load d) stack e w = refl
  evaluating (AddressOf place type) stack e w = addressing (object_of e place) stack e w
  evaluating (AddressOfCell d type) stack e w = refl
  evaluating (NumberOfElements a) stack e w = refl
  evaluating (FreeUnique a) stack e w = refl
  evaluating (FreeKey a) stack e w = refl
  evaluating (Call callee later type) stack e w = passing callee [] later stack e w
  evaluating (Unary operator a) stack e w = refl
  evaluating (Binary a rest type) stack e w = refl
  evaluating (Assign place c type) stack e w = assigns (object_of e place) c stack e w
  evaluating (typed.Store d c type) stack e w = refl
  evaluating (New placement initial type) stack e w = allocating placement initial stack e w

  deciding : (decides fails : Bool) (b : Expression) (rest : Operations) (stack : List Entry) (e : Environment) (w : World) → decided decides fails b rest (stack ++ below) e w ≡ under (decided decides fails b rest stack e w)
  deciding true fails b rest stack e w = refl
  deciding false fails b rest stack e w = refl

  testing : (o : Option Bool) (operator : LogicalOperator) (b : Expression) (rest : Operations) (stack : List Entry) (e : Environment) (w : World) → tested o operator b rest (stack ++ below) e w ≡ under (tested o operator b rest stack e w)
  testing (Some fails) operator b rest stack e w = deciding (decides operator fails) fails b rest stack e w
  testing None operator b rest stack e w = refl

  awaiting_right : (fits : Bool) (waiting : Awaiting) (b : Expression) (rest : Operations) (stack : List Entry) (e : Environment) (w : World) → awaits_right fits waiting b rest (stack ++ below) e w ≡ under (awaits_right fits waiting b rest stack e w)
  awaiting_right true waiting b rest stack e w = refl
  awaiting_right false waiting b rest stack e w = refl

  chaining : (rest : Operations) (v : Operand) (stack : List Entry) (e : Environment) (w : World) → chained rest v (stack ++ below) e w ≡ under (chained rest v stack e w)
  chaining NoOperations v stack e w = refl
  chaining (ThenCompute operator b rest) v stack e w = awaiting_right (is_kind v.kind kinds.Int) (Apply operator v) b rest stack e w
  chaining (ThenTest operator b rest) v stack e w = testing (is_zero v.value) operator b rest stack e w
  chaining (ThenPointer operator b rest) v stack e w = awaiting_right (takes_kind operator v.kind) (ApplyPointer None operator v) b rest stack e w
  chaining (ThenPointerPeek number operator b rest) v stack e w = awaiting_right (takes_kind operator v.kind) (ApplyPointer (Some number) operator v) b rest stack e w

  telling : (negated : Bool) (a : Access Bool) (stack : List Entry) (e : Environment) (w : World) → tells negated a (stack ++ below) e w ≡ under (tells negated a stack e w)
  telling false (Found equal) stack e w = refl
  telling true (Found equal) stack e w = refl
  telling false Closed stack e w = refl
  telling true Closed stack e w = refl
  telling false Missing stack e w = refl
  telling true Missing stack e w = refl

  applying_pointer : (operator : PointerOperator) (first second : Value) (stack : List Entry) (e : Environment) (w : World) → applies_pointer operator first second (stack ++ below) e w ≡ under (applies_pointer operator first second stack e w)
  applying_pointer pointers.EqualThin first second stack e w = telling false (compared w first second) stack e w
  applying_pointer pointers.NotEqualThin first second stack e w = telling true (compared w first second) stack e w
  applying_pointer pointers.AddFat first second stack e w = computes _ (pointer_result pointers.AddFat first second) stack e w
  applying_pointer pointers.SubtractFat first second stack e w = computes _ (pointer_result pointers.SubtractFat first second) stack e w
  applying_pointer pointers.ThinIsNull first second stack e w = computes _ (pointer_result pointers.ThinIsNull first second) stack e w
  applying_pointer pointers.ThinIsNotNull first second stack e w = computes _ (pointer_result pointers.ThinIsNotNull first second) stack e w
  applying_pointer pointers.FatIsNull first second stack e w = computes _ (pointer_result pointers.FatIsNull first second) stack e w
  applying_pointer pointers.FatIsNotNull first second stack e w = computes _ (pointer_result pointers.FatIsNotNull first second) stack e w
  applying_pointer pointers.NullIs first second stack e w = computes _ (pointer_result pointers.NullIs first second) stack e w
  applying_pointer pointers.NullIsNot first second stack e w = computes _ (pointer_result pointers.NullIsNot first second) stack e w

  choosing : (o : Option Bool) (first second : Statement) (stack : List Entry) (e : Environment) (w : World) → chosen o first second (stack ++ below) e w ≡ under (chosen o first second stack e w)
  choosing (Some true) first second stack e w = refl
  choosing (Some false) first second stack e w = refl
  choosing None first second stack e w = refl

  looping : (o : Option Bool) (condition : Expression) (body : Statement) (stack : List Entry) (e : Environment) (w : World) → looped o condition body (stack ++ below) e w ≡ under (looped o condition body stack e w)
  looping (Some true) condition body stack e w = refl
  looping (Some false) condition body stack e w = refl
  looping None condition body stack e w = refl

  supplying : (a : Awaiting) (v : Operand) (stack : List Entry) (e : Environment) (w : World) → supplied a v (stack ++ below) e w ≡ under (supplied a v stack e w)
  supplying (ConvertTo from to target) v stack e w = either (is_kind v.kind from && leads_to w target (followed v.value)) _ _ _ _ (computes to (conversion to v.value) stack e w) refl
  supplying (Operate operator) v stack e w = computes (unary_kind operator) (unary_result operator v.value) stack e w
  supplying (Chain rest) v stack e w = chaining rest v stack e w
  supplying (Apply operator before) v stack e w = computes kinds.Int (binary_result operator before.value v.value) stack e w
  supplying (ApplyPointer peek operator before) v stack e w = applying_pointer operator before.value v.value stack e w
  supplying Decide v stack e w = computes kinds.Int (truth_of (is_zero v.value)) stack e w
  supplying (Store place) v stack e w = stores_at place v (Given v) stack e w
  supplying (StoreCell peek place) v stack e w = stores_at place v (Given v) stack e w
  supplying (Pass callee before later) v stack e w = passing callee (v ∷ before) later stack e w
  supplying (Follow pointer target) v stack e w = either (is_kind v.kind pointer && leads_to w target (followed v.value)) _ _ _ _ (arriving (followed v.value) stack e w) refl
  supplying (FollowMember pointer fields field) v stack e w = either (is_kind v.kind pointer) _ _ _ _ (arriving (member_of w (followed v.value) fields field) stack e w) refl
  supplying (Index peek target index) v stack e w = either (is_kind v.kind kinds.Fat) _ _ _ _ refl refl
  supplying (Advance peek target base) v stack e w = computes kinds.Fat (pointer_result pointers.AddFat base.value v.value) (Needs (Follow kinds.Fat target) ∷ stack) e w
  supplying CountElements v stack e w = computes kinds.Int (element_count v.value) stack e w
  supplying FreeObject v stack e w = freeing v.value stack e w
  supplying CloseByKey v stack e w = closing_with v.value stack e w
  supplying (PlaceBy initial) v stack e w = placing initial v.value stack e w
  supplying (BesideHandle region) v stack e w = refl
  supplying (MakePlain owner kind) v stack e w = either (is_kind v.kind kind) _ _ _ _ (making owner (v ∷ []) stack e w) refl
  supplying (MakeFields owner before fields) v stack e w = making_fields owner (v ∷ before) fields stack e w
  supplying (MakeArray owner level kind element) v stack e w = making_array owner level kind element v.value stack e w
  supplying (FillElement object count index level kind element) v stack e w = filling_element object count index level kind element v stack e w
  supplying (Initialise number kind items) v stack e w = either (is_kind v.kind kind) _ _ _ _ (names (region_at w e.home) Proceeding number kind (Some v.value) (Rest items ∷ stack) e w) refl
  supplying (Choose first second) v stack e w = choosing (is_zero v.value) first second stack e w
  supplying (Test condition body) v stack e w = looping (is_zero v.value) condition body stack e w
  supplying Return v stack e w = refl
  supplying (ThrowWith tag) v stack e w = throwing_value tag v.value stack e w
  supplying (OpenBy number lent items) v stack e w = opening_with number lent items v.value stack e w
  supplying (AliasOf number lent items) v stack e w = refl

  pub given : (v : Operand) (entry : Entry) (stack : List Entry) (e : Environment) (w : World) → step_given v (entry ∷ (stack ++ below)) e w ≡ under (step_given v (entry ∷ stack) e w)
  given v (Needs a) stack e w = supplying a v stack e w
  given v (NeedsPlace a) stack e w = refl
  given v Discard stack e w = refl
  given v (Rest items) stack e w = refl
  given v Join stack e w = refl
  given v (Loop condition body) stack e w = refl
  given v (CloseRegion region home) stack e w = refl
  given v (CloseLexical region) stack e w = refl
  given v (EndLoan lent) stack e w = refl
  given v (Handler handler) stack e w = refl
  given v (Caller outer) stack e w = refl
  given v Main stack e w = refl
