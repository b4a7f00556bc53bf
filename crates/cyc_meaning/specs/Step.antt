-- One step of a source program: a function of the state, by cases of the focus. A step does at most one thing. A step is an operation, a
-- check, a conversion, a read or write of one value, or the allocation of one object. A step may also open or close one region, call or
-- return once, or read or print one byte. Evaluation is left to right (this project's own choice, since ISO C leaves it open). A value is
-- converted as soon as it is evaluated.
use Rattle.std.specs.Prelude.{ℕ, suc, ◌-◌, ◌%◌, ◌^◌, ◌==◌, ◌&&◌, Bool, true, false, if◌then◌else◌, List, [], ◌∷◌, ◌++◌, map, reverse, drop, length, Option, Some, None, slice_get, unwrap_or}
use Rattle.cyc_words.specs.Word.{signed}
use Rattle.cyc_words.specs.Ending.{Returned, Uncaught}
use Rattle.cyc_types.specs.declared.typed.Kind.{Kind}
use Rattle.cyc_types.specs.declared.typed.Kind.TheVariants as kinds
use Rattle.cyc_types.specs.declared.typed.Callee.{Callee}
use Rattle.cyc_types.specs.declared.typed.Callee.TheVariants as callees
use Rattle.cyc_types.specs.declared.typed.LogicalOperator.{LogicalOperator}
use Rattle.cyc_types.specs.declared.typed.PointerOperator.{PointerOperator}
use Rattle.cyc_types.specs.declared.typed.PointerOperator.TheVariants as pointers
use Rattle.cyc_types.specs.Types.{Ty}
use Rattle.cyc_types.specs.TypedTrees.{Expression, Number, NullPointer, HeapRegion, Counter, Copy, Move, Peek, Load, AddressOf, AddressOfCell, NumberOfElements, FreeUnique, FreeKey, Call, Unary, Binary, Assign, New}
use Rattle.cyc_types.specs.TypedTrees.{type_of_place, peeked, Converted, Convert, Arguments, NoArguments, MoreArguments, Operations, NoOperations, ThenCompute, ThenTest, ThenPointer, ThenPointerPeek, Statement, Block}
use Rattle.cyc_types.specs.TypedTrees.{Empty, Evaluate, Swap, If, While, Break, Continue, Throw, Try, Items, NoItems, MoreItems, Execute, Declare, DeclareRegion, OpenRegion, DeclareAlias, DeclareKey, Function, Program}
use Rattle.cyc_types.specs.TypedTrees as typed
use Rattle.cyc_meaning.specs.Values.{Value, Int, Null, Thin, Handle, Operand, kind_of, is_kind}
use Rattle.cyc_meaning.specs.Operators.{is_zero, truth, binary_result, unary_result, unary_kind, truth_of, decides}
use Rattle.cyc_meaning.specs.Pointers.{followed, element_count, pointer_result, result_kind, takes_kind}
use Rattle.cyc_meaning.specs.Conversion.{conversion}
use Rattle.cyc_meaning.specs.State.{World, Access, Found, Closed, Missing, heap_number, region_at, opened, Environment, no_locals, Awaiting, ConvertTo, Operate, Chain, Apply, ApplyPointer, Decide, Store, StoreCell, Pass, Follow}
use Rattle.cyc_meaning.specs.State.{FollowMember, Index, Advance, CountElements, FreeObject, CloseByKey, PlaceBy, BesideHandle, MakePlain, MakeFields, MakeArray, FillElement, Initialise, Choose, Test, Return, ThrowWith, OpenBy}
use Rattle.cyc_meaning.specs.State.{AliasOf, LoadFrom, TakeAddress, StoreTo, Entry, Needs, NeedsPlace, Discard, Rest, Join, Loop, CloseRegion, CloseLexical, EndLoan, Handler, Caller, Main, Focus, Evaluating, Locating, Given}
use Rattle.cyc_meaning.specs.State.{GivenPlace, Executing, Proceeding, Calling, Entering, Binding, Naming, Writing, Beginning, Repeating, Swapping, Breaking, Continuing, Returning, Throwing, Catching, State, Running, Ended, Dead, Wrong}
use Rattle.cyc_meaning.specs.Objects.{compared}
use Rattle.cyc_meaning.specs.Places.{follows, follows_member, indexes, advances, step_locating, step_given_place}
use Rattle.cyc_meaning.specs.Swaps.{swaps, step_swapping}
use Rattle.cyc_meaning.specs.Allocation.{makes_plain, makes_fields, step_beginning, step_repeating, makes_array, fills_element, allocates, makes_by}
use Rattle.cyc_meaning.specs.Exceptions.{throws, throws_value, tries, step_catching}
use Rattle.cyc_meaning.specs.Regions.{step_naming, opens_lexical, closing_lexical, opens_dynamic, opens_by_key, opens_with, closes_with, aliases, aliased, frees}
pub use Rattle.cyc_meaning.specs.Parts.{dead, wrong, ends, gives, computed, target_of, target_by, leads_to, object_of, read, loaded, loaded_from, stored, stored_at, step_writing, declared, inside, region_end, closing}

-- ---- calls

-- Calls a function, which must have as many parameters as the call has arguments; the arguments are in order.
abbrev pub called : Option Function → (arguments : List Operand) → List Entry → World → State
called (Some h) arguments stack w =
    if length arguments == length h.parameters then Running (Entering h arguments) stack no_locals w else wrong w
called None arguments stack w = wrong w

abbrev pub values_of : List Operand → List Value
values_of operands = map (λ (o : Operand). o.value) operands

-- `putchar` prints the low 8 bits of its argument, and returns them
abbrev pub prints : (arguments : List Value) → List Entry → Environment → World → State
prints (Int word ∷ []) stack e w =
    gives kinds.Int (Int (word % 256)) stack e (record w { output = w.output ++ word % 256 ∷ [] })
prints arguments stack e w = wrong w

-- `getchar` returns the next byte of the input, or -1 at its end
abbrev pub reads : (arguments : List Value) → List Entry → Environment → World → State
reads [] stack e w =
    gives kinds.Int (Int (unwrap_or (slice_get w.input 0) (2 ^ 32 - 1))) stack e (record w { input = drop 1 w.input })
reads arguments stack e w = wrong w

abbrev pub step_calling : Program → Callee → (arguments : List Operand) → List Entry → Environment → World → State
step_calling program callees.Putchar arguments stack e w = prints (values_of arguments) stack e w
step_calling program callees.Getchar arguments stack e w = reads (values_of arguments) stack e w
step_calling program (callees.Function number) arguments stack e w =
    called (slice_get program.functions number) (reverse arguments) (Caller e ∷ stack) w

-- Opens the region of a function's parameters and of its body's outermost variables.
abbrev pub step_entering : Function → (arguments : List Operand) → List Entry → Environment → World → State
step_entering h arguments stack e w =
    Running (Binding 0 h.parameters arguments h.body) (region_end e w ∷ stack) (inside e w) (opened w)

-- Declares a parameter as a local that holds its argument.
abbrev pub step_binding : (number : ℕ) → List Ty → (arguments : List Operand) → (body : Items) → List Entry → Environment → World → State
step_binding number [] [] body stack e w = Running Proceeding (Rest body ∷ stack) e w
step_binding number (t ∷ types) (value ∷ arguments) body stack e w =
    if is_kind value.kind (kind_of t)
    then declared (region_at w e.home) (Binding (suc number) types arguments body) number (kind_of t) (Some value.value) stack e w
    else wrong w
step_binding number types arguments body stack e w = wrong w

-- ---- evaluation

-- Evaluates and converts the arguments of a call one by one.
abbrev pub passes : Callee → (before : List Operand) → Arguments → List Entry → Environment → World → State
passes callee before NoArguments stack e w = Running (Calling callee before) stack e w
passes callee before (MoreArguments (Convert from to a) arguments) stack e w =
    Running (Evaluating a) (Needs (ConvertTo from to (target_by a)) ∷ Needs (Pass callee before arguments) ∷ stack) e w

-- In an assignment, the assigned variable or cell is evaluated before the right side.
abbrev pub assigned : Option ℕ → Converted → List Entry → Environment → World → State
assigned (Some object) (Convert from to a) stack e w =
    Running (Evaluating a) (Needs (ConvertTo from to (target_by a)) ∷ Needs (Store (Thin object 0)) ∷ stack) e w
assigned None c stack e w = wrong w

-- Passes the address of a variable to the newest continuation.
abbrev pub addressed : Option ℕ → List Entry → Environment → World → State
addressed (Some object) stack e w = gives kinds.NonNull (Thin object 0) stack e w
addressed None stack e w = wrong w

-- Passes the value of the loop counter of an enclosing array `for` to the newest continuation.
abbrev pub counts : Option ℕ → List Entry → Environment → World → State
counts (Some index) stack e w = gives kinds.Int (Int index) stack e w
counts None stack e w = wrong w

-- Evaluates an expression. In this semantics a local keeps its value after the value was moved, since the semantics does not track moves.
abbrev pub step_evaluating : Expression → List Entry → Environment → World → State
step_evaluating (Number n) stack e w = gives kinds.Int (Int n) stack e w
step_evaluating NullPointer stack e w = gives kinds.Nullable Null stack e w
step_evaluating HeapRegion stack e w = gives kinds.Handle (Handle heap_number) stack e w
step_evaluating (Counter level) stack e w = counts (e.counters level) stack e w
step_evaluating (Copy place t) stack e w = loaded_from (kind_of t) (object_of e place) stack e w
step_evaluating (Move p number t) stack e w = loaded_from (kind_of t) (e.locals number) stack e w
step_evaluating (Peek p number t) stack e w = loaded_from (kind_of t) (e.locals number) stack e w
step_evaluating (Load d) stack e w = Running (Locating d) (NeedsPlace (LoadFrom (kind_of (type_of_place d))) ∷ stack) e w
step_evaluating (AddressOf place t) stack e w = addressed (object_of e place) stack e w
step_evaluating (AddressOfCell d t) stack e w = Running (Locating d) (NeedsPlace TakeAddress ∷ stack) e w
step_evaluating (NumberOfElements a) stack e w = Running (Evaluating a) (Needs CountElements ∷ stack) e w
step_evaluating (FreeUnique a) stack e w = Running (Evaluating a) (Needs FreeObject ∷ stack) e w
step_evaluating (FreeKey a) stack e w = Running (Evaluating a) (Needs CloseByKey ∷ stack) e w
step_evaluating (Call callee arguments t) stack e w = passes callee [] arguments stack e w
step_evaluating (Unary operator a) stack e w = Running (Evaluating a) (Needs (Operate operator) ∷ stack) e w
step_evaluating (Binary a rest t) stack e w = Running (Evaluating a) (Needs (Chain rest) ∷ stack) e w
step_evaluating (Assign place c t) stack e w = assigned (object_of e place) c stack e w
step_evaluating (typed.Store d c t) stack e w = Running (Locating d) (NeedsPlace (StoreTo (peeked d) c) ∷ stack) e w
step_evaluating (New placement initial t) stack e w = allocates placement initial stack e w

-- The value of `&&` or `||` is decided by the left operand, or else by the right one.
abbrev pub decided : Bool → (fails : Bool) → Expression → Operations → List Entry → Environment → World → State
decided true fails b rest stack e w =
    gives kinds.Int (Int (if fails then 0 else 1)) (Needs (Chain rest) ∷ stack) e w
decided false fails b rest stack e w =
    Running (Evaluating b) (Needs Decide ∷ Needs (Chain rest) ∷ stack) e w

abbrev pub tested : Option Bool → LogicalOperator → Expression → Operations → List Entry → Environment → World → State
tested (Some fails) operator b rest stack e w =
    decided (decides operator fails) fails b rest stack e w
tested None operator b rest stack e w = wrong w

-- Evaluates the right operand, if the left one has a kind that its operator accepts.
abbrev pub awaits_right : Bool → Awaiting → (right : Expression) → Operations → List Entry → Environment → World → State
awaits_right true waiting b rest stack e w = Running (Evaluating b) (Needs waiting ∷ Needs (Chain rest) ∷ stack) e w
awaits_right false waiting b rest stack e w = wrong w

-- Continues a chain of operators such as `a + b - c` with the value of the operators and operands evaluated so far.
abbrev pub chained : Operations → Operand → List Entry → Environment → World → State
chained NoOperations left stack e w = Running (Given left) stack e w
chained (ThenCompute operator b rest) left stack e w =
    awaits_right (is_kind left.kind kinds.Int) (Apply operator left) b rest stack e w
chained (ThenTest operator b rest) left stack e w =
    tested (is_zero left.value) operator b rest stack e w
chained (ThenPointer operator b rest) left stack e w =
    awaits_right (takes_kind operator left.kind) (ApplyPointer None operator left) b rest stack e w
chained (ThenPointerPeek number operator b rest) left stack e w =
    awaits_right (takes_kind operator left.kind) (ApplyPointer (Some number) operator left) b rest stack e w

-- Passes the result of comparing two thin pointers to the newest continuation: 1 if they are equal, or, if `negated`, 1 if they differ.
abbrev pub tells : (negated : Bool) → Access Bool → List Entry → Environment → World → State
tells false (Found equal) stack e w = gives kinds.Int (Int (truth equal)) stack e w
tells true (Found equal) stack e w = gives kinds.Int (Int (if equal then 0 else 1)) stack e w
tells negated Closed stack e w = dead w
tells negated Missing stack e w = wrong w

abbrev pub applies_pointer : PointerOperator → (left right : Value) → List Entry → Environment → World → State
applies_pointer pointers.EqualThin left right stack e w = tells false (compared w left right) stack e w
applies_pointer pointers.NotEqualThin left right stack e w = tells true (compared w left right) stack e w
applies_pointer operator left right stack e w = computed (result_kind operator) (pointer_result operator left right) stack e w

-- executes the first statement if the condition holds, and the second if it fails
abbrev pub chosen : (fails : Option Bool) → (first second : Statement) → List Entry → Environment → World → State
chosen (Some true) first second stack e w = Running (Executing second) (Join ∷ stack) e w
chosen (Some false) first second stack e w = Running (Executing first) (Join ∷ stack) e w
chosen None first second stack e w = wrong w

-- executes the body of a loop if its condition holds
abbrev pub looped : (fails : Option Bool) → (condition : Expression) → (body : Statement) → List Entry → Environment → World → State
looped (Some true) condition body stack e w = Running Proceeding stack e w
looped (Some false) condition body stack e w = Running (Executing body) (Loop condition body ∷ stack) e w
looped None condition body stack e w = wrong w

-- Converts a value, if it has the kind and the target that the tree states.
abbrev pub converts : (from to : Kind) → (target : Option Kind) → Operand → List Entry → Environment → World → State
converts from to target value stack e w =
    if is_kind value.kind from && leads_to w target (followed value.value) then computed to (conversion to value.value) stack e w else wrong w

-- Initializes a local with a value; then the rest of the local's block is executed.
abbrev pub initialises : (number : ℕ) → Kind → Items → Operand → List Entry → Environment → World → State
initialises number kind items value stack e w =
    if is_kind value.kind kind
    then declared (region_at w e.home) Proceeding number kind (Some value.value) (Rest items ∷ stack) e w
    else wrong w

-- passes a value to the continuation that waits for it
abbrev pub supplied : Awaiting → Operand → List Entry → Environment → World → State
supplied (ConvertTo from to target) value stack e w = converts from to target value stack e w
supplied (Operate operator) value stack e w = computed (unary_kind operator) (unary_result operator value.value) stack e w
supplied (Chain rest) value stack e w = chained rest value stack e w
supplied (Apply operator left) value stack e w = computed kinds.Int (binary_result operator left.value value.value) stack e w
supplied (ApplyPointer peek operator left) value stack e w = applies_pointer operator left.value value.value stack e w
supplied Decide value stack e w = computed kinds.Int (truth_of (is_zero value.value)) stack e w
supplied (Store place) value stack e w = stored_at place value (Given value) stack e w
supplied (StoreCell peek place) value stack e w = stored_at place value (Given value) stack e w
supplied (Pass callee before arguments) value stack e w = passes callee (value ∷ before) arguments stack e w
supplied (Follow pointer target) value stack e w = follows pointer target value stack e w
supplied (FollowMember pointer fields field) value stack e w = follows_member pointer fields field value stack e w
supplied (Index peek target index) value stack e w = indexes peek target index value stack e w
supplied (Advance peek target base) value stack e w = advances target base value stack e w
supplied CountElements value stack e w = computed kinds.Int (element_count value.value) stack e w
supplied FreeObject value stack e w = frees value.value stack e w
supplied CloseByKey value stack e w = closes_with value.value stack e w
supplied (PlaceBy initial) value stack e w = makes_by initial value.value stack e w
supplied (BesideHandle region) value stack e w = Running (Given value) stack e w
supplied (MakePlain owner kind) value stack e w = makes_plain owner kind value stack e w
supplied (MakeFields owner before fields) value stack e w = makes_fields owner (value ∷ before) fields stack e w
supplied (MakeArray owner level kind element) value stack e w = makes_array owner level kind element value.value stack e w
supplied (FillElement object count index level kind element) value stack e w =
    fills_element object count index level kind element value stack e w
supplied (Initialise number kind items) value stack e w = initialises number kind items value stack e w
supplied (Choose first second) value stack e w = chosen (is_zero value.value) first second stack e w
supplied (Test condition body) value stack e w = looped (is_zero value.value) condition body stack e w
supplied Return value stack e w = Running (Returning (Some value)) stack e w
supplied (ThrowWith tag) value stack e w = throws_value tag value.value stack e w
supplied (OpenBy number lent items) value stack e w = opens_with number lent items value.value stack e w
supplied (AliasOf number lent items) value stack e w = aliased number lent items value stack e w

abbrev pub step_given : Operand → List Entry → Environment → World → State
step_given value (Needs a ∷ stack) e w = supplied a value stack e w
step_given value (Discard ∷ stack) e w = Running Proceeding stack e w
step_given value stack e w = wrong w

-- ---- statements

-- Evaluates the condition of a loop, at first and again after each iteration.
abbrev pub tests : (condition : Expression) → (body : Statement) → List Entry → Environment → World → State
tests condition body stack e w = Running (Evaluating condition) (Needs (Test condition body) ∷ stack) e w

abbrev pub returns : Option Converted → List Entry → Environment → World → State
returns None stack e w = Running (Returning None) stack e w
returns (Some (Convert from to a)) stack e w =
    Running (Evaluating a) (Needs (ConvertTo from to (target_by a)) ∷ Needs Return ∷ stack) e w

abbrev pub step_executing : Statement → List Entry → Environment → World → State
step_executing (Block region items) stack e w =
    Running Proceeding (Rest items ∷ region_end e w ∷ stack) (inside e w) (opened w)
step_executing Empty stack e w = Running Proceeding stack e w
step_executing (Evaluate a) stack e w = Running (Evaluating a) (Discard ∷ stack) e w
step_executing (If condition first second) stack e w =
    Running (Evaluating condition) (Needs (Choose first second) ∷ stack) e w
step_executing (While place condition body) stack e w = tests condition body stack e w
step_executing (typed.Return value) stack e w = returns value stack e w
step_executing Break stack e w = Running Breaking stack e w
step_executing Continue stack e w = Running Continuing stack e w
step_executing (Swap left right) stack e w = swaps left right stack e w
step_executing (Throw tag value) stack e w = throws tag value stack e w
step_executing (Try s handler) stack e w = tries s handler stack e w

-- Declares a local after evaluating its initial value. A local without an initial value holds nothing yet.
abbrev pub declares : (number : ℕ) → Ty → Option Converted → Items → List Entry → Environment → World → State
declares number t None items stack e w =
    declared (region_at w e.home) Proceeding number (kind_of t) None (Rest items ∷ stack) e w
declares number t (Some (Convert from to a)) items stack e w =
    Running (Evaluating a) (Needs (ConvertTo from to (target_by a)) ∷ Needs (Initialise number (kind_of t) items) ∷ stack) e w

abbrev pub continues_with : Items → List Entry → Environment → World → State
continues_with NoItems stack e w = Running Proceeding stack e w
continues_with (MoreItems (Execute s) items) stack e w = Running (Executing s) (Rest items ∷ stack) e w
continues_with (MoreItems (Declare number t value) items) stack e w = declares number t value items stack e w
continues_with (MoreItems (DeclareRegion region number) items) stack e w = opens_lexical number items stack e w
continues_with (MoreItems (OpenRegion region number p key) items) stack e w = opens_by_key number key items stack e w
continues_with (MoreItems (DeclareAlias region number t p source) items) stack e w = aliases number (kind_of t) source items stack e w
continues_with (MoreItems (DeclareKey region number) items) stack e w = opens_dynamic number items stack e w

-- Continues with the newest stack entry. The end of a function's body without a `return` acts like a return without a value.
abbrev pub step_proceeding : List Entry → Environment → World → State
step_proceeding [] e w = wrong w
step_proceeding (Needs a ∷ stack) e w = wrong w
step_proceeding (NeedsPlace a ∷ stack) e w = wrong w
step_proceeding (Discard ∷ stack) e w = Running Proceeding stack e w
step_proceeding (Rest items ∷ stack) e w = continues_with items stack e w
step_proceeding (Join ∷ stack) e w = Running Proceeding stack e w
step_proceeding (Loop condition body ∷ stack) e w = tests condition body stack e w
step_proceeding (CloseRegion region home ∷ stack) e w =
    closing (region_at w region) Proceeding region home stack e w
step_proceeding (CloseLexical region ∷ stack) e w =
    closing_lexical (region_at w region) Proceeding region stack e w
step_proceeding (EndLoan lent ∷ stack) e w = Running Proceeding stack e w
step_proceeding (Handler handler ∷ stack) e w = Running Proceeding stack e w
step_proceeding (Caller outer ∷ stack) e w = Running Proceeding stack outer w
step_proceeding (Main ∷ stack) e w = wrong w

-- ---- unwinding: each step pops one entry

abbrev pub step_breaking : List Entry → Environment → World → State
step_breaking [] e w = wrong w
step_breaking (Needs a ∷ stack) e w = Running Breaking stack e w
step_breaking (NeedsPlace a ∷ stack) e w = Running Breaking stack e w
step_breaking (Discard ∷ stack) e w = Running Breaking stack e w
step_breaking (Rest items ∷ stack) e w = Running Breaking stack e w
step_breaking (Join ∷ stack) e w = Running Breaking stack e w
step_breaking (Loop condition body ∷ stack) e w = Running Proceeding stack e w
step_breaking (CloseRegion region home ∷ stack) e w =
    closing (region_at w region) Breaking region home stack e w
step_breaking (CloseLexical region ∷ stack) e w =
    closing_lexical (region_at w region) Breaking region stack e w
step_breaking (EndLoan lent ∷ stack) e w = Running Breaking stack e w
step_breaking (Handler handler ∷ stack) e w = Running Breaking stack e w
step_breaking (Caller outer ∷ stack) e w = wrong w
step_breaking (Main ∷ stack) e w = wrong w

abbrev pub step_continuing : List Entry → Environment → World → State
step_continuing [] e w = wrong w
step_continuing (Needs a ∷ stack) e w = Running Continuing stack e w
step_continuing (NeedsPlace a ∷ stack) e w = Running Continuing stack e w
step_continuing (Discard ∷ stack) e w = Running Continuing stack e w
step_continuing (Rest items ∷ stack) e w = Running Continuing stack e w
step_continuing (Join ∷ stack) e w = Running Continuing stack e w
step_continuing (Loop condition body ∷ stack) e w = tests condition body stack e w
step_continuing (CloseRegion region home ∷ stack) e w =
    closing (region_at w region) Continuing region home stack e w
step_continuing (CloseLexical region ∷ stack) e w =
    closing_lexical (region_at w region) Continuing region stack e w
step_continuing (EndLoan lent ∷ stack) e w = Running Continuing stack e w
step_continuing (Handler handler ∷ stack) e w = Running Continuing stack e w
step_continuing (Caller outer ∷ stack) e w = wrong w
step_continuing (Main ∷ stack) e w = wrong w

-- Passes the returned value, if any, to the caller.
abbrev pub returned : Option Operand → List Entry → Environment → World → State
returned (Some value) stack e w = Running (Given value) stack e w
returned None stack e w = Running Proceeding stack e w

-- The value that `main` returns ends the run.
abbrev pub ends_with : Value → World → State
ends_with (Int word) w = ends (Returned (signed word)) w
ends_with value w = wrong w

abbrev pub main_returned : Option Operand → World → State
main_returned (Some value) w = ends_with value.value w
main_returned None w = wrong w

abbrev pub step_returning : Option Operand → List Entry → Environment → World → State
step_returning value [] e w = wrong w
step_returning value (Needs a ∷ stack) e w = Running (Returning value) stack e w
step_returning value (NeedsPlace a ∷ stack) e w = Running (Returning value) stack e w
step_returning value (Discard ∷ stack) e w = Running (Returning value) stack e w
step_returning value (Rest items ∷ stack) e w = Running (Returning value) stack e w
step_returning value (Join ∷ stack) e w = Running (Returning value) stack e w
step_returning value (Loop condition body ∷ stack) e w = Running (Returning value) stack e w
step_returning value (CloseRegion region home ∷ stack) e w =
    closing (region_at w region) (Returning value) region home stack e w
step_returning value (CloseLexical region ∷ stack) e w =
    closing_lexical (region_at w region) (Returning value) region stack e w
step_returning value (EndLoan lent ∷ stack) e w = Running (Returning value) stack e w
step_returning value (Handler handler ∷ stack) e w = Running (Returning value) stack e w
step_returning value (Caller outer ∷ stack) e w = returned value stack outer w
step_returning value (Main ∷ stack) e w = main_returned value w

-- An exception is caught by a clause of a `try`, or propagates. An exception that nothing catches ends the run after all stack
-- entries were popped.
abbrev pub step_throwing : (tag value : ℕ) → List Entry → Environment → World → State
step_throwing tag value [] e w = ends (Uncaught tag (signed value)) w
step_throwing tag value (Needs a ∷ stack) e w = Running (Throwing tag value) stack e w
step_throwing tag value (NeedsPlace a ∷ stack) e w = Running (Throwing tag value) stack e w
step_throwing tag value (Discard ∷ stack) e w = Running (Throwing tag value) stack e w
step_throwing tag value (Rest items ∷ stack) e w = Running (Throwing tag value) stack e w
step_throwing tag value (Join ∷ stack) e w = Running (Throwing tag value) stack e w
step_throwing tag value (Loop condition body ∷ stack) e w = Running (Throwing tag value) stack e w
step_throwing tag value (CloseRegion region home ∷ stack) e w =
    closing (region_at w region) (Throwing tag value) region home stack e w
step_throwing tag value (CloseLexical region ∷ stack) e w =
    closing_lexical (region_at w region) (Throwing tag value) region stack e w
step_throwing tag value (EndLoan lent ∷ stack) e w = Running (Throwing tag value) stack e w
step_throwing tag value (Handler handler ∷ stack) e w = Running (Catching tag value handler) stack e w
step_throwing tag value (Caller outer ∷ stack) e w = Running (Throwing tag value) stack outer w
step_throwing tag value (Main ∷ stack) e w = Running (Throwing tag value) stack e w

-- ---- a step

abbrev pub stepped : Program → Focus → List Entry → Environment → World → State
stepped program (Evaluating a) stack e w = step_evaluating a stack e w
stepped program (Locating d) stack e w = step_locating program d stack e w
stepped program (Given value) stack e w = step_given value stack e w
stepped program (GivenPlace place) stack e w = step_given_place place stack e w
stepped program (Executing s) stack e w = step_executing s stack e w
stepped program Proceeding stack e w = step_proceeding stack e w
stepped program (Calling callee arguments) stack e w = step_calling program callee arguments stack e w
stepped program (Entering h arguments) stack e w = step_entering h arguments stack e w
stepped program (Binding number types arguments body) stack e w = step_binding number types arguments body stack e w
stepped program (Naming number operand items) stack e w = step_naming number operand items stack e w
stepped program (Writing writes result) stack e w = step_writing writes result stack e w
stepped program (Beginning owner count level kind element) stack e w = step_beginning owner count level kind element stack e w
stepped program (Repeating object count index level kind element) stack e w =
    step_repeating object count index level kind element stack e w
stepped program (Swapping kind left right before) stack e w = step_swapping kind left right before stack e w
stepped program Breaking stack e w = step_breaking stack e w
stepped program Continuing stack e w = step_continuing stack e w
stepped program (Returning value) stack e w = step_returning value stack e w
stepped program (Throwing tag value) stack e w = step_throwing tag value stack e w
stepped program (Catching tag value handler) stack e w = step_catching tag value handler stack e w

-- One step of a source program, without limits. A state that is not running stays as it is.
abbrev pub step : Program → State → State
step program (Running focus stack e w) = stepped program focus stack e w
step program (Ended ending output input) = Ended ending output input
step program (Dead output input) = Dead output input
step program (Wrong output input) = Wrong output input
