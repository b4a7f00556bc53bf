-- Every step of a program has one of a few possible outcomes; each law of the step follows from these outcomes.
use Rattle.std.proofs.Common.{◌≡◌, ℕ, suc, Bool, true, false, List, [], ◌∷◌, length, reverse, Option, Some, None, refl, subst}
use Rattle.std.specs.Prelude.{◌==◌, ◌*◌, ◌&&◌, nat_le, if◌then◌else◌, slice_get}
use Rattle.cyc_words.specs.Ending.{Ending, Returned, Uncaught, Full}
use Rattle.cyc_types.specs.declared.typed.Kind.{Kind}
use Rattle.cyc_types.specs.declared.typed.Kind.TheVariants as kinds
use Rattle.cyc_types.specs.declared.typed.Callee.{Callee}
use Rattle.cyc_types.specs.declared.typed.Callee.TheVariants as callees
use Rattle.cyc_types.specs.declared.typed.LogicalOperator.{LogicalOperator}
use Rattle.cyc_types.specs.declared.typed.PointerOperator.{PointerOperator}
use Rattle.cyc_types.specs.declared.typed.PointerOperator.TheVariants as pointers
use Rattle.cyc_types.specs.Types.{Ty}
use Rattle.cyc_types.specs.TypedTrees.{Expression, Number, NullPointer, HeapRegion, Counter, Copy, Move, Peek, Load, AddressOf, AddressOfCell, NumberOfElements, FreeUnique, FreeKey, Call, Unary, Binary, Assign, New, Dereference, Target, Member, Element, OnHeap}
use Rattle.cyc_types.specs.TypedTrees.{AsUnique, ByHandle, Initial, Plain, Fields, Array, Converted, Convert, Arguments, NoArguments, MoreArguments, Operations, NoOperations, ThenCompute, ThenTest, ThenPointer, ThenPointerPeek, Side, VariableSide, CellSide, Statement}
use Rattle.cyc_types.specs.TypedTrees.{Block, Empty, Evaluate, Swap, If, While, Break, Continue, Throw, Try, Items, NoItems, MoreItems, Execute, Declare, DeclareRegion, OpenRegion, DeclareAlias, DeclareKey, Clauses, NoClauses, Default, Case, StructType, Function}
use Rattle.cyc_types.specs.TypedTrees.{Program}
use Rattle.cyc_types.specs.TypedTrees as typed
use Rattle.cyc_meaning.specs.Values.{Value, Int, Null, Thin, Fat, Handle, Key, Operand, kind_of, is_kind, bytes_of_kind, words_for}
use Rattle.cyc_meaning.specs.Operators.{Result, Gives, Raises, Misfits, is_zero, binary_result, unary_result, unary_kind, truth_of, decides}
use Rattle.cyc_meaning.specs.Pointers.{element_count, pointer_result, result_kind, takes_kind, Reach, At, Stops, Nowhere, followed}
use Rattle.cyc_meaning.specs.Conversion.{conversion}
use Rattle.cyc_meaning.specs.State.{Sort, Stack, Lexical, Dynamic, Region, Owner, InRegion, Unique, Object, World, Access, Found, Closed, Missing, region_at, Located, cell_at, Environment, no_locals, Awaiting, ConvertTo, Operate, Chain, Apply, ApplyPointer}
use Rattle.cyc_meaning.specs.State.{Decide, Store, StoreCell, Pass, Follow, FollowMember, Index, Advance, CountElements, FreeObject, CloseByKey, PlaceBy, BesideHandle, MakePlain, MakeFields, MakeArray, FillElement, Initialise, Choose, Test, Return, ThrowWith}
use Rattle.cyc_meaning.specs.State.{OpenBy, AliasOf, LoadFrom, TakeAddress, StoreTo, SwapLeft, SwapRight, Entry, Needs, NeedsPlace, Discard, Rest, Join, Loop, CloseRegion, CloseLexical, EndLoan, Handler, Caller, Main, Write, Focus, Evaluating, Locating, Given}
use Rattle.cyc_meaning.specs.State.{GivenPlace, Executing, Proceeding, Calling, Entering, Binding, Naming, Writing, Beginning, Repeating, Swapping, Breaking, Continuing, Returning, Throwing, Catching, State, Running, Ended, Dead, Wrong, calls_in, closed}
use Rattle.cyc_meaning.specs.Objects.{compared, created_in}
use Rattle.cyc_meaning.specs.Parts.{computed, leads_to, object_of, read, loaded, loaded_from, stored, stored_at, step_writing, declared, inside, closing}
use Rattle.cyc_meaning.specs.Parts as parts
use Rattle.cyc_meaning.specs.Places.{arrives, follows, follows_member, member_of, indexes, locates_member, step_locating, loaded_at, step_given_place}
use Rattle.cyc_meaning.specs.Swaps.{finds_right_object, finds_right, finds_left_object, swaps, swap_content, swap_loaded, swap_loaded_at, step_swapping}
use Rattle.cyc_meaning.specs.Allocation.{blanks_of, filled, makes_of, makes_plain, blanks, begun, makes_array, step_beginning, step_repeating, fills_element, makes, makes_by, most_words}
use Rattle.cyc_meaning.specs.Exceptions.{throws, throws_value, catches, step_catching}
use Rattle.cyc_meaning.specs.Regions.{is_dynamic, step_naming, closing_lexical, opened_by, opens_with, closes_dynamic, closes_with, frees_in_region, frees_owned, frees_object, frees}
use Rattle.cyc_meaning.specs.Step.{values_of, called, step_calling, step_binding, passes, assigned, addressed, counts, step_evaluating, decided, tested, awaits_right, chained, tells, applies_pointer, chosen, looped}
use Rattle.cyc_meaning.specs.Step.{supplied, step_given, step_executing, declares, step_proceeding, step_breaking, step_continuing, returned, ends_with, main_returned, step_returning, step_throwing, stepped}
use Rattle.cyc_meaning.specs.Step as steps
use Rattle.cyc_meaning.specs.inside.Effects.{Changes, Keeps, Opens, Closes, Makes, MakesIn, MakesUnique, Frees, Writes, Prints, Reads, printed_of, printed_by, read_of, read_by, calls_after}
use Rattle.cyc_meaning.specs.inside.Nesting.{IsScoped, IsFound, IsNested, is_access_of, is_access_in, is_access}
use Rattle.cyc_meaning.proofs.NestingLemmas.{home_found, nested_opened, nested_lexical, nested_dynamic, nested_closed, nested_closed_lexical, nested_closed_dynamic, nested_made_in, nested_call, nested_return}

-- The outcome of a step: the run goes on with the stated number of active calls and nested regions, or it is over, with nothing printed
-- or read. From a state with nested regions, only an access can be dead (use freed memory).
pub data Outcome (nested : Type 0) (w : World) : (access : Bool) → (printed : List ℕ) → (count calls : ℕ) → State → Type 0 where
  Goes : {access : Bool} {printed : List ℕ} {count calls : ℕ} {focus : Focus} {stack : List Entry} {e : Environment} {new : World}
      → calls_in stack ≡ calls → Changes w printed count new → (nested → IsNested stack e new) → Outcome nested w access printed count calls (Running focus stack e new)
  Ends : {access : Bool} {calls : ℕ} (ending : Ending) → (ending ≡ Full → ⊥) → Outcome nested w access [] 0 calls (Ended ending w.output w.input)
  Dies : {access : Bool} {calls : ℕ} → (nested → access ≡ true) → Outcome nested w access [] 0 calls (Dead w.output w.input)
  Fails : {access : Bool} {calls : ℕ} → Outcome nested w access [] 0 calls (Wrong w.output w.input)

-- Says that a step neither prints nor reads, and keeps the number of active calls.
abbrev Silent : (access : Bool) → List Entry → Environment → World → State → Type 0
Silent access stack e w s = Outcome (IsNested stack e w) w access [] 0 (calls_in stack) s

either : {nested : Type 0} {w : World} {access : Bool} {printed : List ℕ} {count calls : ℕ} (b : Bool) (s t : State)
    → Outcome nested w access printed count calls s → Outcome nested w access printed count calls t → Outcome nested w access printed count calls (if b then s else t)
either true s t first second = first
either false s t first second = second

-- ---- parts of steps

computes : {access : Bool} (kind : Kind) (r : Result) (stack : List Entry) (e : Environment) (w : World) → Silent access stack e w (computed kind r stack e w)
computes kind (Gives value) stack e w = Goes refl Keeps (λ h. h)
computes kind (Raises tag) stack e w = Goes refl Keeps (λ h. h)
computes kind Misfits stack e w = Fails

reads_cell : {access : Bool} (kind : Kind) (o : Option Value) (stack : List Entry) (e : Environment) (w : World) → Silent access stack e w (read kind o stack e w)
reads_cell kind (Some value) stack e w = Goes refl Keeps (λ h. h)
reads_cell kind None stack e w = Fails

loads_located : (kind : Kind) (a : Access Located) (stack : List Entry) (e : Environment) (w : World) → Silent true stack e w (loaded kind a stack e w)
loads_located kind (Found at) stack e w = either (is_kind at.cell.kind kind) _ _ (reads_cell kind at.cell.content stack e w) Fails
loads_located kind Closed stack e w = Dies (λ h. refl)
loads_located kind Missing stack e w = Fails

loads_from : (kind : Kind) (o : Option ℕ) (stack : List Entry) (e : Environment) (w : World) → Silent true stack e w (loaded_from kind o stack e w)
loads_from kind (Some object) stack e w = loads_located kind (cell_at w object 0) stack e w
loads_from kind None stack e w = Fails

stores : (a : Access Located) (object offset : ℕ) (v : Operand) (focus : Focus) (stack : List Entry) (e : Environment) (w : World) → cell_at w object offset ≡ a → Silent true stack e w (stored a object offset v focus stack e w)
stores (Found at) object offset v focus stack e w found = either (is_kind at.cell.kind v.kind) _ _ (Goes refl (Writes object offset at v.value found) (λ h. h)) Fails
stores Closed object offset v focus stack e w found = Dies (λ h. refl)
stores Missing object offset v focus stack e w found = Fails

stores_at : (place : Value) (v : Operand) (focus : Focus) (stack : List Entry) (e : Environment) (w : World) → Silent true stack e w (stored_at place v focus stack e w)
stores_at (Thin object offset) v focus stack e w = stores (cell_at w object offset) object offset v focus stack e w refl
stores_at place v focus stack e w = Fails

writing : (writes : List Write) (result : Option Operand) (stack : List Entry) (e : Environment) (w : World) → Silent true stack e w (step_writing writes result stack e w)
writing [] (Some operand) stack e w = Goes refl Keeps (λ h. h)
writing [] None stack e w = Goes refl Keeps (λ h. h)
writing (x ∷ writes) result stack e w = stores_at x.place x.operand (Writing writes result) stack e w

makes_local : {access : Bool} (a : Access Region) (focus : Focus) (number : ℕ) (kind : Kind) (content : Option Value) (stack : List Entry) (e : Environment) (w : World) → region_at w e.home ≡ a → Silent access stack e w (declared a focus number kind content stack e w)
makes_local (Found r) focus number kind content stack e w found = Goes refl (Makes e.home r kind content found) (λ h. h)
makes_local Closed focus number kind content stack e w found = Dies (λ h. absurd (subst IsFound found (home_found w.regions e.home stack h.2 h.0)))
makes_local Missing focus number kind content stack e w found = Fails

closes : {access : Bool} (a : Access Region) (focus : Focus) (region home : ℕ) (stack : List Entry) (e : Environment) (w : World) → region_at w region ≡ a → Silent access (CloseRegion region home ∷ stack) e w (closing a focus region home stack e w)
closes (Found r) focus region home stack e w found = Goes refl (Closes region r found) (nested_closed region home r stack e w)
closes Closed focus region home stack e w found = Dies (λ h. absurd (subst IsFound found h.0.0))
closes Missing focus region home stack e w found = Fails

closes_lexical : {access : Bool} (a : Access Region) (focus : Focus) (region : ℕ) (stack : List Entry) (e : Environment) (w : World) → region_at w region ≡ a → Silent access (CloseLexical region ∷ stack) e w (closing_lexical a focus region stack e w)
closes_lexical (Found r) focus region stack e w found = Goes refl (Closes region r found) (nested_closed_lexical region r stack e w)
closes_lexical Closed focus region stack e w found = Dies (λ h. absurd (subst IsFound found h.0.0))
closes_lexical Missing focus region stack e w found = Fails

-- ---- calls

pub calls_function : {access : Bool} {nested : Type 0} (o : Option Function) (arguments : List Operand) (stack : List Entry) (w : World) → (nested → IsNested stack no_locals w) → Outcome nested w access [] 0 (calls_in stack) (called o arguments stack w)
calls_function (Some h) arguments stack w nests = either (length arguments == length h.parameters) _ _ (Goes refl Keeps nests) Fails
calls_function None arguments stack w nests = Fails

putchar_prints : {access : Bool} (arguments : List Value) (stack : List Entry) (e : Environment) (w : World) → Outcome (IsNested stack e w) w access (printed_of arguments) 0 (calls_in stack) (steps.prints arguments stack e w)
putchar_prints (Int word ∷ []) stack e w = Goes refl (Prints word) (λ h. h)
putchar_prints arguments stack e w = Fails

getchar_reads : {access : Bool} (arguments : List Value) (stack : List Entry) (e : Environment) (w : World) → Outcome (IsNested stack e w) w access [] (read_of arguments) (calls_in stack) (steps.reads arguments stack e w)
getchar_reads [] stack e w = Goes refl Reads (λ h. h)
getchar_reads (value ∷ arguments) stack e w = Fails

-- Says that a step from the given focus (the next action) and control stack has one of the possible outcomes.
abbrev pub Seen : Focus → List Entry → Environment → World → State → Type 0
Seen focus stack e w s = Outcome (IsNested stack e w) w (is_access focus stack) (printed_by focus) (read_by focus) (calls_after focus stack) s

calling : (program : Program) (callee : Callee) (arguments : List Operand) (stack : List Entry) (e : Environment) (w : World) → Seen (Calling callee arguments) stack e w (step_calling program callee arguments stack e w)
calling program callees.Putchar arguments stack e w = putchar_prints (values_of arguments) stack e w
calling program callees.Getchar arguments stack e w = getchar_reads (values_of arguments) stack e w
calling program (callees.Function number) arguments stack e w = calls_function (slice_get program.functions number) (reverse arguments) (Caller e ∷ stack) w (nested_call stack e w)

binding : {access : Bool} (number : ℕ) (types : List Ty) (arguments : List Operand) (body : Items) (stack : List Entry) (e : Environment) (w : World) → Silent access stack e w (step_binding number types arguments body stack e w)
binding number [] [] body stack e w = Goes refl Keeps (λ h. h)
binding number [] (value ∷ arguments) body stack e w = Fails
binding number (t ∷ types) [] body stack e w = Fails
binding number (t ∷ types) (value ∷ arguments) body stack e w =
    either (is_kind value.kind (kind_of t)) _ _ (makes_local (region_at w e.home) (Binding (suc number) types arguments body) number (kind_of t) (Some value.value) stack e w refl) Fails

-- ---- places

arriving : {access : Bool} (r : Reach) (stack : List Entry) (e : Environment) (w : World) → Silent access stack e w (arrives r stack e w)
arriving (At object offset) stack e w = Goes refl Keeps (λ h. h)
arriving (Stops tag) stack e w = Goes refl Keeps (λ h. h)
arriving Nowhere stack e w = Fails

following : {access : Bool} (pointer : Kind) (target : Option Kind) (value : Operand) (stack : List Entry) (e : Environment) (w : World) → Silent access stack e w (follows pointer target value stack e w)
following pointer target value stack e w = either (is_kind value.kind pointer && leads_to w target (followed value.value)) _ _ (arriving (followed value.value) stack e w) Fails

following_member : {access : Bool} (pointer : Kind) (fields : List Kind) (field : ℕ) (value : Operand) (stack : List Entry) (e : Environment) (w : World) → Silent access stack e w (follows_member pointer fields field value stack e w)
following_member pointer fields field value stack e w = either (is_kind value.kind pointer) _ _ (arriving (member_of w (followed value.value) fields field) stack e w) Fails

indexing : {access : Bool} (peek : Option ℕ) (target : Option Kind) (index : Expression) (base : Operand) (stack : List Entry) (e : Environment) (w : World) → Silent access stack e w (indexes peek target index base stack e w)
indexing peek target index base stack e w = either (is_kind base.kind kinds.Fat) _ _ (Goes refl Keeps (λ h. h)) Fails

locating_member : {access : Bool} (o : Option StructType) (pointer : Kind) (a : Expression) (field : ℕ) (stack : List Entry) (e : Environment) (w : World) → Silent access stack e w (locates_member o pointer a field stack e w)
locating_member (Some s) pointer a field stack e w = Goes refl Keeps (λ h. h)
locating_member None pointer a field stack e w = Fails

locating : {access : Bool} (program : Program) (d : Dereference) (stack : List Entry) (e : Environment) (w : World) → Silent access stack e w (step_locating program d stack e w)
locating program (Target pointer a t) stack e w = Goes refl Keeps (λ h. h)
locating program (Member pointer a s field t) stack e w = locating_member (slice_get program.structs s) pointer a field stack e w
locating program (Element a i t) stack e w = Goes refl Keeps (λ h. h)

loading_at : (kind : Kind) (place : Value) (stack : List Entry) (e : Environment) (w : World) → Silent true stack e w (loaded_at kind place stack e w)
loading_at kind (Thin object offset) stack e w = loads_located kind (cell_at w object offset) stack e w
loading_at kind place stack e w = Fails

-- ---- swaps

finding_right : {access : Bool} (kind : Kind) (peek : Option ℕ) (is_cell : Bool) (left : Value) (right : Side) (stack : List Entry) (e : Environment) (w : World) → Silent access stack e w (finds_right kind peek is_cell left right stack e w)
finding_right {access} kind peek is_cell left (VariableSide l t) stack e w = go (object_of e l)
  where
    go : (o : Option ℕ) → Silent access stack e w (finds_right_object kind left o stack e w)
    go (Some object) = Goes refl Keeps (λ h. h)
    go None = Fails
finding_right kind peek is_cell left (CellSide d) stack e w = Goes refl Keeps (λ h. h)

swapping : {access : Bool} (left right : Side) (stack : List Entry) (e : Environment) (w : World) → Silent access stack e w (swaps left right stack e w)
swapping {access} (VariableSide l t) right stack e w = go (object_of e l)
  where
    go : (o : Option ℕ) → Silent access stack e w (finds_left_object (kind_of t) o right stack e w)
    go (Some object) = finding_right (kind_of t) None false (Thin object 0) right stack e w
    go None = Fails
swapping (CellSide d) right stack e w = Goes refl Keeps (λ h. h)

swap_reads : {access : Bool} (kind : Kind) (left right : Value) (before : Option Operand) (o : Option Value) (stack : List Entry) (e : Environment) (w : World) → Silent access stack e w (swap_content kind left right before o stack e w)
swap_reads kind left right None (Some value) stack e w = Goes refl Keeps (λ h. h)
swap_reads kind left right (Some before) (Some value) stack e w = Goes refl Keeps (λ h. h)
swap_reads kind left right before None stack e w = Fails

swap_loads : (kind : Kind) (left right : Value) (before : Option Operand) (a : Access Located) (stack : List Entry) (e : Environment) (w : World) → Silent true stack e w (swap_loaded kind left right before a stack e w)
swap_loads kind left right before (Found at) stack e w = either (is_kind at.cell.kind kind) _ _ (swap_reads kind left right before at.cell.content stack e w) Fails
swap_loads kind left right before Closed stack e w = Dies (λ h. refl)
swap_loads kind left right before Missing stack e w = Fails

swap_loads_at : (kind : Kind) (left right : Value) (before : Option Operand) (place : Value) (stack : List Entry) (e : Environment) (w : World) → Silent true stack e w (swap_loaded_at kind left right before place stack e w)
swap_loads_at kind left right before (Thin object offset) stack e w = swap_loads kind left right before (cell_at w object offset) stack e w
swap_loads_at kind left right before place stack e w = Fails

swapping_values : (kind : Kind) (left right : Value) (o : Option Operand) (stack : List Entry) (e : Environment) (w : World) → Silent true stack e w (step_swapping kind left right o stack e w)
swapping_values kind left right None stack e w = swap_loads_at kind left right None left stack e w
swapping_values kind left right (Some before) stack e w = swap_loads_at kind left right (Some before) right stack e w

given_place : (place : Value) (stack : List Entry) (e : Environment) (w : World) → Seen (GivenPlace place) stack e w (step_given_place place stack e w)
given_place place [] e w = Fails
given_place place (NeedsPlace (LoadFrom kind) ∷ stack) e w = loading_at kind place stack e w
given_place place (NeedsPlace TakeAddress ∷ stack) e w = Goes refl Keeps (λ h. h)
given_place place (NeedsPlace (StoreTo peek (Convert from to a)) ∷ stack) e w = Goes refl Keeps (λ h. h)
given_place place (NeedsPlace (SwapLeft kind peek right) ∷ stack) e w = finding_right kind peek true place right stack e w
given_place place (NeedsPlace (SwapRight kind peek is_cell left) ∷ stack) e w = Goes refl Keeps (λ h. h)
given_place place (entry ∷ stack) e w = Fails

-- ---- new objects

filling : (owner : Owner) (values : List Operand) (stack : List Entry) (e : Environment) (w : World) → Silent true stack e w (makes_of owner values stack e w)
filling (InRegion region) values stack e w = go (region_at w region) refl
  where
    go : (a : Access Region) → region_at w region ≡ a → Silent true stack e w (filled (created_in w region a (blanks_of values)) (length w.objects) values stack e w)
    go (Found r) found = Goes refl (MakesIn region r (blanks_of values) found) (nested_made_in region r (blanks_of values) stack e w found)
    go Closed found = Dies (λ h. refl)
    go Missing found = Fails
filling (Unique true) values stack e w = Goes refl (MakesUnique (blanks_of values)) (λ h. h)
filling (Unique false) values stack e w = Fails

making_plain : (owner : Owner) (kind : Kind) (value : Operand) (stack : List Entry) (e : Environment) (w : World) → Silent true stack e w (makes_plain owner kind value stack e w)
making_plain owner kind value stack e w = either (is_kind value.kind kind) _ _ (filling owner (value ∷ []) stack e w) Fails

beginning : (owner : Owner) (count level : ℕ) (kind : Kind) (element : Expression) (stack : List Entry) (e : Environment) (w : World) → Silent true stack e w (step_beginning owner count level kind element stack e w)
beginning (InRegion region) count level kind element stack e w = go (region_at w region) refl
  where
    go : (a : Access Region) → region_at w region ≡ a → Silent true stack e w (begun (created_in w region a (blanks count kind)) (length w.objects) count level kind element stack e w)
    go (Found r) found = Goes refl (MakesIn region r (blanks count kind) found) (nested_made_in region r (blanks count kind) stack e w found)
    go Closed found = Dies (λ h. refl)
    go Missing found = Fails
beginning (Unique true) count level kind element stack e w = Goes refl (MakesUnique (blanks count kind)) (λ h. h)
beginning (Unique false) count level kind element stack e w = Fails

making_array : {access : Bool} (owner : Owner) (level : ℕ) (kind : Kind) (element : Expression) (value : Value) (stack : List Entry) (e : Environment) (w : World) → Silent access stack e w (makes_array owner level kind element value stack e w)
making_array owner level kind element (Int count) stack e w =
    either (nat_le (words_for (count * bytes_of_kind kind)) most_words) _ _ (Goes refl Keeps (λ h. h)) (Goes refl Keeps (λ h. h))
making_array owner level kind element value stack e w = Fails

repeating : {access : Bool} (object count index level : ℕ) (kind : Kind) (element : Expression) (stack : List Entry) (e : Environment) (w : World) → Silent access stack e w (step_repeating object count index level kind element stack e w)
repeating object count index level kind element stack e w = either (index == count) _ _ (Goes refl Keeps (λ h. h)) (Goes refl Keeps (λ h. h))

filling_element : (object count index level : ℕ) (kind : Kind) (element : Expression) (value : Operand) (stack : List Entry) (e : Environment) (w : World) → Silent true stack e w (fills_element object count index level kind element value stack e w)
filling_element object count index level kind element value stack e w =
    either (is_kind value.kind kind) _ _ (stores (cell_at w object index) object index value (Repeating object count (suc index) level kind element) stack e w refl) Fails

-- ---- regions

naming : {access : Bool} (number : ℕ) (operand : Operand) (items : Items) (stack : List Entry) (e : Environment) (w : World) → Silent access stack e w (step_naming number operand items stack e w)
naming number operand items stack e w = makes_local (region_at w e.home) Proceeding number operand.kind (Some operand.value) (Rest items ∷ stack) e w refl

opening_by : (a : Access Region) (region number lent : ℕ) (items : Items) (stack : List Entry) (e : Environment) (w : World) → Silent true stack e w (opened_by a region number lent items stack e w)
opening_by (Found r) region number lent items stack e w = either (is_dynamic r.sort) _ _ (Goes refl Keeps (λ h. h)) Fails
opening_by Closed region number lent items stack e w = Dies (λ h. refl)
opening_by Missing region number lent items stack e w = Fails

opening_with : (number lent : ℕ) (items : Items) (key : Value) (stack : List Entry) (e : Environment) (w : World) → Silent true stack e w (opens_with number lent items key stack e w)
opening_with number lent items (Key region) stack e w = opening_by (region_at w region) region number lent items stack e w
opening_with number lent items value stack e w = Fails

closing_dynamic : (a : Access Region) (region : ℕ) (stack : List Entry) (e : Environment) (w : World) → region_at w region ≡ a → Silent true stack e w (closes_dynamic a region stack e w)
closing_dynamic (Found r) region stack e w found = go r.sort refl
  where
    go : (sort : Sort) → r.sort ≡ sort → Silent true stack e w (if is_dynamic sort then Running Proceeding stack e (closed w region r) else parts.wrong w)
    go Dynamic same = Goes refl (Closes region r found) (nested_closed_dynamic region r stack e w found (λ scoped. subst IsScoped same scoped))
    go sort same = Fails
closing_dynamic Closed region stack e w found = Dies (λ h. refl)
closing_dynamic Missing region stack e w found = Fails

closing_with : (key : Value) (stack : List Entry) (e : Environment) (w : World) → Silent true stack e w (closes_with key stack e w)
closing_with (Key region) stack e w = closing_dynamic (region_at w region) region stack e w refl
closing_with value stack e w = Fails

freeing_in_region : (a : Access Region) (stack : List Entry) (e : Environment) (w : World) → Silent true stack e w (frees_in_region a w)
freeing_in_region (Found r) stack e w = Fails
freeing_in_region Closed stack e w = Dies (λ h. refl)
freeing_in_region Missing stack e w = Fails

freeing_owned : (o : Option Object) (number : ℕ) (stack : List Entry) (e : Environment) (w : World) → slice_get w.objects number ≡ o → Silent true stack e w (frees_object o number stack e w)
freeing_owned (Some x) number stack e w there = go x.owner refl
  where
    go : (owner : Owner) → x.owner ≡ owner → Silent true stack e w (frees_owned owner number x stack e w)
    go (InRegion region) is = freeing_in_region (region_at w region) stack e w
    go (Unique true) is = Goes refl (Frees number x there is) (λ h. h)
    go (Unique false) is = Dies (λ h. refl)
freeing_owned None number stack e w there = Fails

freeing : (value : Value) (stack : List Entry) (e : Environment) (w : World) → Silent true stack e w (frees value stack e w)
freeing Null stack e w = Goes refl Keeps (λ h. h)
freeing (Thin object offset) stack e w = either (offset == 0) _ _ (freeing_owned (slice_get w.objects object) object stack e w refl) Fails
freeing (Fat object start count index) stack e w = either (start == 0) _ _ (freeing_owned (slice_get w.objects object) object stack e w refl) Fails
freeing value stack e w = Fails

-- ---- exceptions

throwing_new : {access : Bool} (tag : ℕ) (o : Option Expression) (stack : List Entry) (e : Environment) (w : World) → Silent access stack e w (throws tag o stack e w)
throwing_new tag None stack e w = Goes refl Keeps (λ h. h)
throwing_new tag (Some a) stack e w = Goes refl Keeps (λ h. h)

throwing_value : {access : Bool} (tag : ℕ) (value : Value) (stack : List Entry) (e : Environment) (w : World) → Silent access stack e w (throws_value tag value stack e w)
throwing_value tag (Int word) stack e w = Goes refl Keeps (λ h. h)
throwing_value tag value stack e w = Fails

catching_in : {access : Bool} (value : ℕ) (number : Option ℕ) (items : Items) (stack : List Entry) (e : Environment) (w : World) → Silent access stack e w (catches value number items stack e w)
catching_in value None items stack e w = Goes refl (Opens Stack) (nested_opened stack e w)
catching_in value (Some number) items stack e w = Goes refl (Opens Stack) (nested_opened stack e w)

catching : {access : Bool} (tag value : ℕ) (clauses : Clauses) (stack : List Entry) (e : Environment) (w : World) → Silent access stack e w (step_catching tag value clauses stack e w)
catching tag value NoClauses stack e w = Goes refl Keeps (λ h. h)
catching tag value (Default region items) stack e w = catching_in value None items stack e w
catching tag value (Case caught number region items later) stack e w = either (caught == tag) _ _ (catching_in value number items stack e w) (Goes refl Keeps (λ h. h))

-- ---- evaluation

passing : {access : Bool} (callee : Callee) (before : List Operand) (later : Arguments) (stack : List Entry) (e : Environment) (w : World) → Silent access stack e w (passes callee before later stack e w)
passing callee before NoArguments stack e w = Goes refl Keeps (λ h. h)
passing callee before (MoreArguments (Convert from to a) later) stack e w = Goes refl Keeps (λ h. h)

assigns : {access : Bool} (o : Option ℕ) (c : Converted) (stack : List Entry) (e : Environment) (w : World) → Silent access stack e w (assigned o c stack e w)
assigns (Some object) (Convert from to a) stack e w = Goes refl Keeps (λ h. h)
assigns None c stack e w = Fails

addressing : {access : Bool} (o : Option ℕ) (stack : List Entry) (e : Environment) (w : World) → Silent access stack e w (addressed o stack e w)
addressing (Some object) stack e w = Goes refl Keeps (λ h. h)
addressing None stack e w = Fails

reading_counter : {access : Bool} (o : Option ℕ) (stack : List Entry) (e : Environment) (w : World) → Silent access stack e w (counts o stack e w)
reading_counter (Some index) stack e w = Goes refl Keeps (λ h. h)
reading_counter None stack e w = Fails

evaluating : (a : Expression) (stack : List Entry) (e : Environment) (w : World) → Silent (is_access_in a) stack e w (step_evaluating a stack e w)
evaluating (Number n) stack e w = Goes refl Keeps (λ h. h)
evaluating NullPointer stack e w = Goes refl Keeps (λ h. h)
evaluating HeapRegion stack e w = Goes refl Keeps (λ h. h)
evaluating (Counter level) stack e w = reading_counter (e.counters level) stack e w
evaluating (Copy place t) stack e w = loads_from (kind_of t) (object_of e place) stack e w
evaluating (Move p number t) stack e w = loads_from (kind_of t) (e.locals number) stack e w
evaluating (Peek p number t) stack e w = loads_from (kind_of t) (e.locals number) stack e w
evaluating (Load d) stack e w = Goes refl Keeps (λ h. h)
evaluating (AddressOf place t) stack e w = addressing (object_of e place) stack e w
evaluating (AddressOfCell d t) stack e w = Goes refl Keeps (λ h. h)
evaluating (NumberOfElements a) stack e w = Goes refl Keeps (λ h. h)
evaluating (FreeUnique a) stack e w = Goes refl Keeps (λ h. h)
evaluating (FreeKey a) stack e w = Goes refl Keeps (λ h. h)
evaluating (Call callee arguments t) stack e w = passing callee [] arguments stack e w
evaluating (Unary operator a) stack e w = Goes refl Keeps (λ h. h)
evaluating (Binary a rest t) stack e w = Goes refl Keeps (λ h. h)
evaluating (Assign place c t) stack e w = assigns (object_of e place) c stack e w
evaluating (typed.Store d c t) stack e w = Goes refl Keeps (λ h. h)
evaluating (New OnHeap (Plain kind a) t) stack e w = Goes refl Keeps (λ h. h)
evaluating (New OnHeap (Fields NoArguments) t) stack e w = filling (InRegion 0) [] stack e w
evaluating (New OnHeap (Fields (MoreArguments (Convert from to a) fields)) t) stack e w = Goes refl Keeps (λ h. h)
evaluating (New OnHeap (Array place level count kind element) t) stack e w = Goes refl Keeps (λ h. h)
evaluating (New AsUnique (Plain kind a) t) stack e w = Goes refl Keeps (λ h. h)
evaluating (New AsUnique (Fields NoArguments) t) stack e w = filling (Unique true) [] stack e w
evaluating (New AsUnique (Fields (MoreArguments (Convert from to a) fields)) t) stack e w = Goes refl Keeps (λ h. h)
evaluating (New AsUnique (Array place level count kind element) t) stack e w = Goes refl Keeps (λ h. h)
evaluating (New (ByHandle a) initial t) stack e w = Goes refl Keeps (λ h. h)

deciding : {access : Bool} (decides fails : Bool) (b : Expression) (rest : Operations) (stack : List Entry) (e : Environment) (w : World) → Silent access stack e w (decided decides fails b rest stack e w)
deciding true fails b rest stack e w = Goes refl Keeps (λ h. h)
deciding false fails b rest stack e w = Goes refl Keeps (λ h. h)

testing : {access : Bool} (o : Option Bool) (operator : LogicalOperator) (b : Expression) (rest : Operations) (stack : List Entry) (e : Environment) (w : World) → Silent access stack e w (tested o operator b rest stack e w)
testing (Some fails) operator b rest stack e w = deciding (decides operator fails) fails b rest stack e w
testing None operator b rest stack e w = Fails

awaiting_right : {access : Bool} (fits : Bool) (waiting : Awaiting) (b : Expression) (rest : Operations) (stack : List Entry) (e : Environment) (w : World) → Silent access stack e w (awaits_right fits waiting b rest stack e w)
awaiting_right true waiting b rest stack e w = Goes refl Keeps (λ h. h)
awaiting_right false waiting b rest stack e w = Fails

chaining : {access : Bool} (rest : Operations) (value : Operand) (stack : List Entry) (e : Environment) (w : World) → Silent access stack e w (chained rest value stack e w)
chaining NoOperations value stack e w = Goes refl Keeps (λ h. h)
chaining (ThenCompute operator b rest) value stack e w = awaiting_right (is_kind value.kind kinds.Int) (Apply operator value) b rest stack e w
chaining (ThenTest operator b rest) value stack e w = testing (is_zero value.value) operator b rest stack e w
chaining (ThenPointer operator b rest) value stack e w = awaiting_right (takes_kind operator value.kind) (ApplyPointer None operator value) b rest stack e w
chaining (ThenPointerPeek number operator b rest) value stack e w = awaiting_right (takes_kind operator value.kind) (ApplyPointer (Some number) operator value) b rest stack e w

telling : (negated : Bool) (a : Access Bool) (stack : List Entry) (e : Environment) (w : World) → Silent true stack e w (tells negated a stack e w)
telling false (Found equal) stack e w = Goes refl Keeps (λ h. h)
telling true (Found equal) stack e w = Goes refl Keeps (λ h. h)
telling negated Closed stack e w = Dies (λ h. refl)
telling negated Missing stack e w = Fails

applying_pointer : (peek : Option ℕ) (operator : PointerOperator) (left right : Operand) (stack : List Entry) (e : Environment) (w : World) → Silent (is_access_of (ApplyPointer peek operator left)) stack e w (applies_pointer operator left.value right.value stack e w)
applying_pointer peek pointers.EqualThin left right stack e w = telling false (compared w left.value right.value) stack e w
applying_pointer peek pointers.NotEqualThin left right stack e w = telling true (compared w left.value right.value) stack e w
applying_pointer peek operator left right stack e w = computes (result_kind operator) (pointer_result operator left.value right.value) stack e w

choosing : {access : Bool} (o : Option Bool) (first second : Statement) (stack : List Entry) (e : Environment) (w : World) → Silent access stack e w (chosen o first second stack e w)
choosing (Some true) first second stack e w = Goes refl Keeps (λ h. h)
choosing (Some false) first second stack e w = Goes refl Keeps (λ h. h)
choosing None first second stack e w = Fails

looping_while : {access : Bool} (o : Option Bool) (condition : Expression) (body : Statement) (stack : List Entry) (e : Environment) (w : World) → Silent access stack e w (looped o condition body stack e w)
looping_while (Some true) condition body stack e w = Goes refl Keeps (λ h. h)
looping_while (Some false) condition body stack e w = Goes refl Keeps (λ h. h)
looping_while None condition body stack e w = Fails

placing_at : (initial : Initial) (region : ℕ) (stack : List Entry) (e : Environment) (w : World) → Silent (is_access_of (PlaceBy initial)) stack e w (makes (InRegion region) initial (Needs (BesideHandle region) ∷ stack) e w)
placing_at (Plain kind a) region stack e w = Goes refl Keeps (λ h. h)
placing_at (Fields NoArguments) region stack e w = filling (InRegion region) [] (Needs (BesideHandle region) ∷ stack) e w
placing_at (Fields (MoreArguments (Convert from to a) fields)) region stack e w = Goes refl Keeps (λ h. h)
placing_at (Array place level count kind element) region stack e w = Goes refl Keeps (λ h. h)

placing : (initial : Initial) (value : Value) (stack : List Entry) (e : Environment) (w : World) → Silent (is_access_of (PlaceBy initial)) stack e w (makes_by initial value stack e w)
placing initial (Handle region) stack e w = placing_at initial region stack e w
placing initial value stack e w = Fails

supplying : (a : Awaiting) (value : Operand) (stack : List Entry) (e : Environment) (w : World) → Silent (is_access_of a) stack e w (supplied a value stack e w)
supplying (ConvertTo from to target) value stack e w = either (is_kind value.kind from && leads_to w target (followed value.value)) _ _ (computes to (conversion to value.value) stack e w) Fails
supplying (Operate operator) value stack e w = computes (unary_kind operator) (unary_result operator value.value) stack e w
supplying (Chain rest) value stack e w = chaining rest value stack e w
supplying (Apply operator left) value stack e w = computes kinds.Int (binary_result operator left.value value.value) stack e w
supplying (ApplyPointer peek operator left) value stack e w = applying_pointer peek operator left value stack e w
supplying Decide value stack e w = computes kinds.Int (truth_of (is_zero value.value)) stack e w
supplying (Store place) value stack e w = stores_at place value (Given value) stack e w
supplying (StoreCell peek place) value stack e w = stores_at place value (Given value) stack e w
supplying (Pass callee before arguments) value stack e w = passing callee (value ∷ before) arguments stack e w
supplying (Follow pointer target) value stack e w = following pointer target value stack e w
supplying (FollowMember pointer fields field) value stack e w = following_member pointer fields field value stack e w
supplying (Index peek target index) value stack e w = indexing peek target index value stack e w
supplying (Advance peek target base) value stack e w = computes kinds.Fat (pointer_result pointers.AddFat base.value value.value) (Needs (Follow kinds.Fat target) ∷ stack) e w
supplying CountElements value stack e w = computes kinds.Int (element_count value.value) stack e w
supplying FreeObject value stack e w = freeing value.value stack e w
supplying CloseByKey value stack e w = closing_with value.value stack e w
supplying (PlaceBy initial) value stack e w = placing initial value.value stack e w
supplying (BesideHandle region) value stack e w = Goes refl Keeps (λ h. h)
supplying (MakePlain owner kind) value stack e w = making_plain owner kind value stack e w
supplying (MakeFields owner before NoArguments) value stack e w = filling owner (reverse (value ∷ before)) stack e w
supplying (MakeFields owner before (MoreArguments (Convert from to a) fields)) value stack e w = Goes refl Keeps (λ h. h)
supplying (MakeArray owner level kind element) value stack e w = making_array owner level kind element value.value stack e w
supplying (FillElement object count index level kind element) value stack e w = filling_element object count index level kind element value stack e w
supplying (Initialise number kind items) value stack e w =
    either (is_kind value.kind kind) _ _ (makes_local (region_at w e.home) Proceeding number kind (Some value.value) (Rest items ∷ stack) e w refl) Fails
supplying (Choose first second) value stack e w = choosing (is_zero value.value) first second stack e w
supplying (Test condition body) value stack e w = looping_while (is_zero value.value) condition body stack e w
supplying Return value stack e w = Goes refl Keeps (λ h. h)
supplying (ThrowWith tag) value stack e w = throwing_value tag value.value stack e w
supplying (OpenBy number lent items) value stack e w = opening_with number lent items value.value stack e w
supplying (AliasOf number lent items) value stack e w = Goes refl Keeps (λ h. h)

given : (value : Operand) (stack : List Entry) (e : Environment) (w : World) → Seen (Given value) stack e w (step_given value stack e w)
given value [] e w = Fails
given value (Needs a ∷ stack) e w = supplying a value stack e w
given value (Discard ∷ stack) e w = Goes refl Keeps (λ h. h)
given value (entry ∷ stack) e w = Fails

-- ---- statements

returning_value : {access : Bool} (o : Option Converted) (stack : List Entry) (e : Environment) (w : World) → Silent access stack e w (steps.returns o stack e w)
returning_value None stack e w = Goes refl Keeps (λ h. h)
returning_value (Some (Convert from to a)) stack e w = Goes refl Keeps (λ h. h)

executing : {access : Bool} (s : Statement) (stack : List Entry) (e : Environment) (w : World) → Silent access stack e w (step_executing s stack e w)
executing (Block region items) stack e w = Goes refl (Opens Stack) (nested_opened stack e w)
executing Empty stack e w = Goes refl Keeps (λ h. h)
executing (Evaluate a) stack e w = Goes refl Keeps (λ h. h)
executing (Swap left right) stack e w = swapping left right stack e w
executing (If condition first second) stack e w = Goes refl Keeps (λ h. h)
executing (While place condition body) stack e w = Goes refl Keeps (λ h. h)
executing (typed.Return value) stack e w = returning_value value stack e w
executing Break stack e w = Goes refl Keeps (λ h. h)
executing Continue stack e w = Goes refl Keeps (λ h. h)
executing (Throw tag value) stack e w = throwing_new tag value stack e w
executing (Try s handler) stack e w = Goes refl Keeps (λ h. h)

declaring_local : {access : Bool} (number : ℕ) (t : Ty) (o : Option Converted) (items : Items) (stack : List Entry) (e : Environment) (w : World) → Silent access stack e w (declares number t o items stack e w)
declaring_local number t None items stack e w = makes_local (region_at w e.home) Proceeding number (kind_of t) None (Rest items ∷ stack) e w refl
declaring_local number t (Some (Convert from to a)) items stack e w = Goes refl Keeps (λ h. h)

proceeding : (stack : List Entry) (e : Environment) (w : World) → Seen Proceeding stack e w (step_proceeding stack e w)
proceeding [] e w = Fails
proceeding (Needs a ∷ stack) e w = Fails
proceeding (NeedsPlace a ∷ stack) e w = Fails
proceeding (Discard ∷ stack) e w = Goes refl Keeps (λ h. h)
proceeding (Rest NoItems ∷ stack) e w = Goes refl Keeps (λ h. h)
proceeding (Rest (MoreItems (Execute s) items) ∷ stack) e w = Goes refl Keeps (λ h. h)
proceeding (Rest (MoreItems (Declare number t value) items) ∷ stack) e w = declaring_local number t value items stack e w
proceeding (Rest (MoreItems (DeclareRegion region number) items) ∷ stack) e w = Goes refl (Opens Lexical) (nested_lexical stack e w)
proceeding (Rest (MoreItems (OpenRegion region number p key) items) ∷ stack) e w = loads_from kinds.Key (e.locals key) (Needs (OpenBy number key items) ∷ stack) e w
proceeding (Rest (MoreItems (DeclareAlias region number t p source) items) ∷ stack) e w = loads_from (kind_of t) (e.locals source) (Needs (AliasOf number source items) ∷ stack) e w
proceeding (Rest (MoreItems (DeclareKey region number) items) ∷ stack) e w = Goes refl (Opens Dynamic) (nested_dynamic stack e w)
proceeding (Join ∷ stack) e w = Goes refl Keeps (λ h. h)
proceeding (Loop condition body ∷ stack) e w = Goes refl Keeps (λ h. h)
proceeding (CloseRegion region home ∷ stack) e w = closes (region_at w region) Proceeding region home stack e w refl
proceeding (CloseLexical region ∷ stack) e w = closes_lexical (region_at w region) Proceeding region stack e w refl
proceeding (EndLoan lent ∷ stack) e w = Goes refl Keeps (λ h. h)
proceeding (Handler handler ∷ stack) e w = Goes refl Keeps (λ h. h)
proceeding (Caller outer ∷ stack) e w = Goes refl Keeps (nested_return stack e outer w)
proceeding (Main ∷ stack) e w = Fails

-- ---- unwinding

breaking : {access : Bool} (stack : List Entry) (e : Environment) (w : World) → Silent access stack e w (step_breaking stack e w)
breaking [] e w = Fails
breaking (Needs a ∷ stack) e w = Goes refl Keeps (λ h. h)
breaking (NeedsPlace a ∷ stack) e w = Goes refl Keeps (λ h. h)
breaking (Discard ∷ stack) e w = Goes refl Keeps (λ h. h)
breaking (Rest items ∷ stack) e w = Goes refl Keeps (λ h. h)
breaking (Join ∷ stack) e w = Goes refl Keeps (λ h. h)
breaking (Loop condition body ∷ stack) e w = Goes refl Keeps (λ h. h)
breaking (CloseRegion region home ∷ stack) e w = closes (region_at w region) Breaking region home stack e w refl
breaking (CloseLexical region ∷ stack) e w = closes_lexical (region_at w region) Breaking region stack e w refl
breaking (EndLoan lent ∷ stack) e w = Goes refl Keeps (λ h. h)
breaking (Handler handler ∷ stack) e w = Goes refl Keeps (λ h. h)
breaking (Caller outer ∷ stack) e w = Fails
breaking (Main ∷ stack) e w = Fails

continuing : {access : Bool} (stack : List Entry) (e : Environment) (w : World) → Silent access stack e w (step_continuing stack e w)
continuing [] e w = Fails
continuing (Needs a ∷ stack) e w = Goes refl Keeps (λ h. h)
continuing (NeedsPlace a ∷ stack) e w = Goes refl Keeps (λ h. h)
continuing (Discard ∷ stack) e w = Goes refl Keeps (λ h. h)
continuing (Rest items ∷ stack) e w = Goes refl Keeps (λ h. h)
continuing (Join ∷ stack) e w = Goes refl Keeps (λ h. h)
continuing (Loop condition body ∷ stack) e w = Goes refl Keeps (λ h. h)
continuing (CloseRegion region home ∷ stack) e w = closes (region_at w region) Continuing region home stack e w refl
continuing (CloseLexical region ∷ stack) e w = closes_lexical (region_at w region) Continuing region stack e w refl
continuing (EndLoan lent ∷ stack) e w = Goes refl Keeps (λ h. h)
continuing (Handler handler ∷ stack) e w = Goes refl Keeps (λ h. h)
continuing (Caller outer ∷ stack) e w = Fails
continuing (Main ∷ stack) e w = Fails

returning_to : {access : Bool} {nested : Type 0} (o : Option Operand) (stack : List Entry) (e : Environment) (w : World) → (nested → IsNested stack e w) → Outcome nested w access [] 0 (calls_in stack) (returned o stack e w)
returning_to (Some value) stack e w nests = Goes refl Keeps nests
returning_to None stack e w nests = Goes refl Keeps nests

ending_with : {access : Bool} {nested : Type 0} {calls : ℕ} (value : Value) (w : World) → Outcome nested w access [] 0 calls (ends_with value w)
ending_with (Int word) w = Ends (Returned _) (λ e. cc)
ending_with value w = Fails

ending_main : {access : Bool} {nested : Type 0} {calls : ℕ} (o : Option Operand) (w : World) → Outcome nested w access [] 0 calls (main_returned o w)
ending_main None w = Fails
ending_main (Some value) w = ending_with value.value w

returning : (o : Option Operand) (stack : List Entry) (e : Environment) (w : World) → Seen (Returning o) stack e w (step_returning o stack e w)
returning o [] e w = Fails
returning o (Needs a ∷ stack) e w = Goes refl Keeps (λ h. h)
returning o (NeedsPlace a ∷ stack) e w = Goes refl Keeps (λ h. h)
returning o (Discard ∷ stack) e w = Goes refl Keeps (λ h. h)
returning o (Rest items ∷ stack) e w = Goes refl Keeps (λ h. h)
returning o (Join ∷ stack) e w = Goes refl Keeps (λ h. h)
returning o (Loop condition body ∷ stack) e w = Goes refl Keeps (λ h. h)
returning o (CloseRegion region home ∷ stack) e w = closes (region_at w region) (Returning o) region home stack e w refl
returning o (CloseLexical region ∷ stack) e w = closes_lexical (region_at w region) (Returning o) region stack e w refl
returning o (EndLoan lent ∷ stack) e w = Goes refl Keeps (λ h. h)
returning o (Handler handler ∷ stack) e w = Goes refl Keeps (λ h. h)
returning o (Caller outer ∷ stack) e w = returning_to o stack outer w (nested_return stack e outer w)
returning o (Main ∷ stack) e w = ending_main o w

throwing : (tag value : ℕ) (stack : List Entry) (e : Environment) (w : World) → Seen (Throwing tag value) stack e w (step_throwing tag value stack e w)
throwing tag value [] e w = Ends (Uncaught tag _) (λ e. cc)
throwing tag value (Needs a ∷ stack) e w = Goes refl Keeps (λ h. h)
throwing tag value (NeedsPlace a ∷ stack) e w = Goes refl Keeps (λ h. h)
throwing tag value (Discard ∷ stack) e w = Goes refl Keeps (λ h. h)
throwing tag value (Rest items ∷ stack) e w = Goes refl Keeps (λ h. h)
throwing tag value (Join ∷ stack) e w = Goes refl Keeps (λ h. h)
throwing tag value (Loop condition body ∷ stack) e w = Goes refl Keeps (λ h. h)
throwing tag value (CloseRegion region home ∷ stack) e w = closes (region_at w region) (Throwing tag value) region home stack e w refl
throwing tag value (CloseLexical region ∷ stack) e w = closes_lexical (region_at w region) (Throwing tag value) region stack e w refl
throwing tag value (EndLoan lent ∷ stack) e w = Goes refl Keeps (λ h. h)
throwing tag value (Handler handler ∷ stack) e w = Goes refl Keeps (λ h. h)
throwing tag value (Caller outer ∷ stack) e w = Goes refl Keeps (nested_return stack e outer w)
throwing tag value (Main ∷ stack) e w = Goes refl Keeps (λ h. h)

-- ---- a step

pub outcome : (program : Program) (focus : Focus) (stack : List Entry) (e : Environment) (w : World) → Seen focus stack e w (stepped program focus stack e w)
outcome program (Evaluating a) stack e w = evaluating a stack e w
outcome program (Locating d) stack e w = locating program d stack e w
outcome program (Given value) stack e w = given value stack e w
outcome program (GivenPlace place) stack e w = given_place place stack e w
outcome program (Executing s) stack e w = executing s stack e w
outcome program Proceeding stack e w = proceeding stack e w
outcome program (Calling callee arguments) stack e w = calling program callee arguments stack e w
outcome program (Entering h arguments) stack e w = Goes refl (Opens Stack) (nested_opened stack e w)
outcome program (Binding number types arguments body) stack e w = binding number types arguments body stack e w
outcome program (Naming number operand items) stack e w = naming number operand items stack e w
outcome program (Writing writes result) stack e w = writing writes result stack e w
outcome program (Beginning owner count level kind element) stack e w = beginning owner count level kind element stack e w
outcome program (Repeating object count index level kind element) stack e w = repeating object count index level kind element stack e w
outcome program (Swapping kind left right before) stack e w = swapping_values kind left right before stack e w
outcome program Breaking stack e w = breaking stack e w
outcome program Continuing stack e w = continuing stack e w
outcome program (Returning value) stack e w = returning value stack e w
outcome program (Throwing tag value) stack e w = throwing tag value stack e w
outcome program (Catching tag value handler) stack e w = catching tag value handler stack e w
