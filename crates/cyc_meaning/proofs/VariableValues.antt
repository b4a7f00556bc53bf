-- Each live variable of a block is a local of an active call: the steps that evaluate cells and values keep this invariant.
use Rattle.std.proofs.Common.{◌≡◌, ℕ, suc, Bool, true, false, List, [], ◌∷◌, length, reverse, Option, Some, None, refl}
use Rattle.std.specs.Prelude.{◌==◌, ◌*◌, ◌&&◌, nat_le, if◌then◌else◌, slice_get}
use Rattle.cyc_types.specs.declared.typed.Kind.{Kind}
use Rattle.cyc_types.specs.declared.typed.Kind.TheVariants as kinds
use Rattle.cyc_types.specs.declared.typed.Callee.{Callee}
use Rattle.cyc_types.specs.declared.typed.LogicalOperator.{LogicalOperator}
use Rattle.cyc_types.specs.declared.typed.PointerOperator.{PointerOperator}
use Rattle.cyc_types.specs.declared.typed.PointerOperator.TheVariants as pointers
use Rattle.cyc_types.specs.TypedTrees.{Expression, Number, NullPointer, HeapRegion, Counter, Copy, Move, Peek, Load, AddressOf, AddressOfCell, NumberOfElements, FreeUnique, FreeKey, Call, Unary, Binary, Assign, New, Dereference, Target, Member, Element, OnHeap, AsUnique, ByHandle, Initial}
use Rattle.cyc_types.specs.TypedTrees.{Plain, Fields, Array, Converted, Convert, Arguments, NoArguments, MoreArguments, Operations, NoOperations, ThenCompute, ThenTest, ThenPointer, ThenPointerPeek, Side, VariableSide, CellSide, Statement, Items, StructType, Program}
use Rattle.cyc_types.specs.TypedTrees as typed
use Rattle.cyc_meaning.specs.Values.{Value, Int, Null, Thin, Fat, Handle, Key, Operand, kind_of, is_kind, bytes_of_kind, words_for}
use Rattle.cyc_meaning.specs.Operators.{is_zero, binary_result, unary_result, unary_kind, truth_of, decides}
use Rattle.cyc_meaning.specs.Pointers.{element_count, pointer_result, result_kind, takes_kind, Reach, At, Stops, Nowhere, followed}
use Rattle.cyc_meaning.specs.Conversion.{conversion}
use Rattle.cyc_meaning.specs.State.{Sort, Dynamic, Region, Owner, InRegion, Unique, Object, World, Access, Found, Closed, Missing, region_at, Located, cell_at, Environment, Awaiting, ConvertTo, Operate, Chain, Apply, ApplyPointer, Decide, Store, StoreCell, Pass, Follow, FollowMember}
use Rattle.cyc_meaning.specs.State.{Index, Advance, CountElements, FreeObject, CloseByKey, PlaceBy, BesideHandle, MakePlain, MakeFields, MakeArray, FillElement, Initialise, Choose, Test, Return, ThrowWith, OpenBy, AliasOf, LoadFrom, TakeAddress, StoreTo, SwapLeft, SwapRight, Entry, Needs}
use Rattle.cyc_meaning.specs.State.{NeedsPlace, Discard, Write, Given, Proceeding, Writing, Repeating, Running, closed}
use Rattle.cyc_meaning.specs.Objects.{compared, created_in}
use Rattle.cyc_meaning.specs.Parts.{leads_to, object_of, step_writing}
use Rattle.cyc_meaning.specs.Parts as parts
use Rattle.cyc_meaning.specs.Places.{arrives, follows, follows_member, member_of, indexes, locates_member, step_locating, loaded_at, step_given_place}
use Rattle.cyc_meaning.specs.Swaps.{finds_right_object, finds_right, finds_left_object, swaps, swap_content, swap_loaded, swap_loaded_at, step_swapping}
use Rattle.cyc_meaning.specs.Allocation.{blanks_of, filled, makes_of, makes_plain, blanks, begun, makes_array, step_beginning, step_repeating, fills_element, makes, makes_by, most_words}
use Rattle.cyc_meaning.specs.Exceptions.{throws_value}
use Rattle.cyc_meaning.specs.Regions.{is_dynamic, opened_by, opens_with, closes_dynamic, closes_with, frees_in_region, frees_owned, frees_object, frees}
use Rattle.cyc_meaning.specs.Step.{passes, assigned, addressed, counts, step_evaluating, decided, tested, awaits_right, chained, tells, applies_pointer, chosen, looped, supplied, step_given}
use Rattle.cyc_meaning.proofs.VariableChanges.{named_closed, named_made_in, named_made_unique, named_freed}
use Rattle.cyc_meaning.proofs.VariableParts.{Goes, Dies, Fails, Silent, stays_either, named_computing, named_loading, named_loading_from, named_storing, named_storing_at, names_local}

-- ---- places

named_arriving : {globals : ℕ} (r : Reach) (stack : List Entry) (e : Environment) (w : World) → Silent globals stack e w (arrives r stack e w)
named_arriving (At object offset) stack e w = Goes (λ h. (tt, h.1))
named_arriving (Stops tag) stack e w = Goes (λ h. (tt, h.1))
named_arriving Nowhere stack e w = Fails

named_following : {globals : ℕ} (pointer : Kind) (target : Option Kind) (value : Operand) (stack : List Entry) (e : Environment) (w : World) → Silent globals stack e w (follows pointer target value stack e w)
named_following pointer target value stack e w = stays_either (is_kind value.kind pointer && leads_to w target (followed value.value)) _ _ (named_arriving (followed value.value) stack e w) Fails

named_following_member : {globals : ℕ} (pointer : Kind) (fields : List Kind) (field : ℕ) (value : Operand) (stack : List Entry) (e : Environment) (w : World) → Silent globals stack e w (follows_member pointer fields field value stack e w)
named_following_member pointer fields field value stack e w = stays_either (is_kind value.kind pointer) _ _ (named_arriving (member_of w (followed value.value) fields field) stack e w) Fails

named_indexing : {globals : ℕ} (peek : Option ℕ) (target : Option Kind) (index : Expression) (base : Operand) (stack : List Entry) (e : Environment) (w : World) → Silent globals stack e w (indexes peek target index base stack e w)
named_indexing peek target index base stack e w = stays_either (is_kind base.kind kinds.Fat) _ _ (Goes (λ h. (tt, h.1))) Fails

named_locating_member : {globals : ℕ} (o : Option StructType) (pointer : Kind) (a : Expression) (field : ℕ) (stack : List Entry) (e : Environment) (w : World) → Silent globals stack e w (locates_member o pointer a field stack e w)
named_locating_member (Some s) pointer a field stack e w = Goes (λ h. (tt, h.1))
named_locating_member None pointer a field stack e w = Fails

pub named_locating : {globals : ℕ} (program : Program) (d : Dereference) (stack : List Entry) (e : Environment) (w : World) → Silent globals stack e w (step_locating program d stack e w)
named_locating program (Target pointer a t) stack e w = Goes (λ h. (tt, h.1))
named_locating program (Member pointer a s field t) stack e w = named_locating_member (slice_get program.structs s) pointer a field stack e w
named_locating program (Element a i t) stack e w = Goes (λ h. (tt, h.1))

named_loading_at : {globals : ℕ} (kind : Kind) (place : Value) (stack : List Entry) (e : Environment) (w : World) → Silent globals stack e w (loaded_at kind place stack e w)
named_loading_at kind (Thin object offset) stack e w = named_loading kind (cell_at w object offset) stack e w
named_loading_at kind place stack e w = Fails

-- ---- swaps

named_finding_right : {globals : ℕ} (kind : Kind) (peek : Option ℕ) (is_cell : Bool) (left : Value) (right : Side) (stack : List Entry) (e : Environment) (w : World) → Silent globals stack e w (finds_right kind peek is_cell left right stack e w)
named_finding_right {globals} kind peek is_cell left (VariableSide l t) stack e w = go (object_of e l)
  where
    go : (o : Option ℕ) → Silent globals stack e w (finds_right_object kind left o stack e w)
    go (Some object) = Goes (λ h. (tt, h.1))
    go None = Fails
named_finding_right kind peek is_cell left (CellSide d) stack e w = Goes (λ h. (tt, h.1))

pub named_swapping : {globals : ℕ} (left right : Side) (stack : List Entry) (e : Environment) (w : World) → Silent globals stack e w (swaps left right stack e w)
named_swapping {globals} (VariableSide l t) right stack e w = go (object_of e l)
  where
    go : (o : Option ℕ) → Silent globals stack e w (finds_left_object (kind_of t) o right stack e w)
    go (Some object) = named_finding_right (kind_of t) None false (Thin object 0) right stack e w
    go None = Fails
named_swapping (CellSide d) right stack e w = Goes (λ h. (tt, h.1))

named_swap_reading : {globals : ℕ} (kind : Kind) (left right : Value) (before : Option Operand) (o : Option Value) (stack : List Entry) (e : Environment) (w : World) → Silent globals stack e w (swap_content kind left right before o stack e w)
named_swap_reading kind left right None (Some value) stack e w = Goes (λ h. (tt, h.1))
named_swap_reading kind left right (Some before) (Some value) stack e w = Goes (λ h. (tt, h.1))
named_swap_reading kind left right before None stack e w = Fails

named_swap_loading : {globals : ℕ} (kind : Kind) (left right : Value) (before : Option Operand) (a : Access Located) (stack : List Entry) (e : Environment) (w : World) → Silent globals stack e w (swap_loaded kind left right before a stack e w)
named_swap_loading kind left right before (Found at) stack e w = stays_either (is_kind at.cell.kind kind) _ _ (named_swap_reading kind left right before at.cell.content stack e w) Fails
named_swap_loading kind left right before Closed stack e w = Dies
named_swap_loading kind left right before Missing stack e w = Fails

named_swap_loading_at : {globals : ℕ} (kind : Kind) (left right : Value) (before : Option Operand) (place : Value) (stack : List Entry) (e : Environment) (w : World) → Silent globals stack e w (swap_loaded_at kind left right before place stack e w)
named_swap_loading_at kind left right before (Thin object offset) stack e w = named_swap_loading kind left right before (cell_at w object offset) stack e w
named_swap_loading_at kind left right before place stack e w = Fails

pub named_swapping_values : {globals : ℕ} (kind : Kind) (left right : Value) (o : Option Operand) (stack : List Entry) (e : Environment) (w : World) → Silent globals stack e w (step_swapping kind left right o stack e w)
named_swapping_values kind left right None stack e w = named_swap_loading_at kind left right None left stack e w
named_swapping_values kind left right (Some before) stack e w = named_swap_loading_at kind left right (Some before) right stack e w

pub named_writing : {globals : ℕ} (writes : List Write) (o : Option Operand) (stack : List Entry) (e : Environment) (w : World) → Silent globals stack e w (step_writing writes o stack e w)
named_writing [] (Some v) stack e w = Goes (λ h. (tt, h.1))
named_writing [] None stack e w = Goes (λ h. (tt, h.1))
named_writing (x ∷ writes) result stack e w = named_storing_at x.place x.operand (Writing writes result) stack e w (λ objects. tt)

pub named_given_place : {globals : ℕ} (place : Value) (stack : List Entry) (e : Environment) (w : World) → Silent globals stack e w (step_given_place place stack e w)
named_given_place place [] e w = Fails
named_given_place place (NeedsPlace (LoadFrom kind) ∷ stack) e w = named_loading_at kind place stack e w
named_given_place place (NeedsPlace TakeAddress ∷ stack) e w = Goes (λ h. (tt, h.1))
named_given_place place (NeedsPlace (StoreTo peek (Convert from to a)) ∷ stack) e w = Goes (λ h. (tt, h.1))
named_given_place place (NeedsPlace (SwapLeft kind peek right) ∷ stack) e w = named_finding_right kind peek true place right stack e w
named_given_place place (NeedsPlace (SwapRight kind peek is_cell left) ∷ stack) e w = Goes (λ h. (tt, h.1))
named_given_place place (entry ∷ stack) e w = Fails

-- ---- new objects

named_filling : {globals : ℕ} (owner : Owner) (values : List Operand) (stack : List Entry) (e : Environment) (w : World) → Silent globals stack e w (makes_of owner values stack e w)
named_filling {globals} (InRegion region) values stack e w = go (region_at w region) refl
  where
    go : (a : Access Region) → region_at w region ≡ a → Silent globals stack e w (filled (created_in w region a (blanks_of values)) (length w.objects) values stack e w)
    go (Found r) found = Goes (λ h. (tt, named_made_in region r (blanks_of values) globals stack e.locals w found h.1))
    go Closed found = Dies
    go Missing found = Fails
named_filling {globals} (Unique true) values stack e w = Goes (λ h. (tt, named_made_unique (blanks_of values) globals stack e.locals w h.1))
named_filling (Unique false) values stack e w = Fails

named_making_plain : {globals : ℕ} (owner : Owner) (kind : Kind) (value : Operand) (stack : List Entry) (e : Environment) (w : World) → Silent globals stack e w (makes_plain owner kind value stack e w)
named_making_plain owner kind value stack e w = stays_either (is_kind value.kind kind) _ _ (named_filling owner (value ∷ []) stack e w) Fails

pub named_beginning : {globals : ℕ} (owner : Owner) (count level : ℕ) (kind : Kind) (element : Expression) (stack : List Entry) (e : Environment) (w : World) → Silent globals stack e w (step_beginning owner count level kind element stack e w)
named_beginning {globals} (InRegion region) count level kind element stack e w = go (region_at w region) refl
  where
    go : (a : Access Region) → region_at w region ≡ a → Silent globals stack e w (begun (created_in w region a (blanks count kind)) (length w.objects) count level kind element stack e w)
    go (Found r) found = Goes (λ h. (tt, named_made_in region r (blanks count kind) globals stack e.locals w found h.1))
    go Closed found = Dies
    go Missing found = Fails
named_beginning {globals} (Unique true) count level kind element stack e w = Goes (λ h. (tt, named_made_unique (blanks count kind) globals stack e.locals w h.1))
named_beginning (Unique false) count level kind element stack e w = Fails

named_making_array : {globals : ℕ} (owner : Owner) (level : ℕ) (kind : Kind) (element : Expression) (value : Value) (stack : List Entry) (e : Environment) (w : World) → Silent globals stack e w (makes_array owner level kind element value stack e w)
named_making_array owner level kind element (Int count) stack e w =
    stays_either (nat_le (words_for (count * bytes_of_kind kind)) most_words) _ _ (Goes (λ h. (tt, h.1))) (Goes (λ h. (tt, h.1)))
named_making_array owner level kind element value stack e w = Fails

pub named_repeating : {globals : ℕ} (object count index level : ℕ) (kind : Kind) (element : Expression) (stack : List Entry) (e : Environment) (w : World) → Silent globals stack e w (step_repeating object count index level kind element stack e w)
named_repeating object count index level kind element stack e w = stays_either (index == count) _ _ (Goes (λ h. (tt, h.1))) (Goes (λ h. (tt, h.1)))

named_filling_element : {globals : ℕ} (object count index level : ℕ) (kind : Kind) (element : Expression) (value : Operand) (stack : List Entry) (e : Environment) (w : World) → Silent globals stack e w (fills_element object count index level kind element value stack e w)
named_filling_element object count index level kind element value stack e w =
    stays_either (is_kind value.kind kind) _ _ (named_storing (cell_at w object index) object index value (Repeating object count (suc index) level kind element) stack e w refl (λ objects. tt)) Fails

-- ---- regions

named_opening_by : {globals : ℕ} (a : Access Region) (region number lent : ℕ) (items : Items) (stack : List Entry) (e : Environment) (w : World) → Silent globals (Needs (OpenBy number lent items) ∷ stack) e w (opened_by a region number lent items stack e w)
named_opening_by (Found r) region number lent items stack e w = stays_either (is_dynamic r.sort) _ _ (Goes (λ h. (h.1.0.0, (h.1.0.1, h.1.1, h.1.2, h.1.3, h.1.4, h.1.5, h.1.6)))) Fails
named_opening_by Closed region number lent items stack e w = Dies
named_opening_by Missing region number lent items stack e w = Fails

named_opening_with : {globals : ℕ} (number lent : ℕ) (items : Items) (key : Value) (stack : List Entry) (e : Environment) (w : World) → Silent globals (Needs (OpenBy number lent items) ∷ stack) e w (opens_with number lent items key stack e w)
named_opening_with number lent items (Key region) stack e w = named_opening_by (region_at w region) region number lent items stack e w
named_opening_with number lent items value stack e w = Fails

named_closing_dynamic : {globals : ℕ} (a : Access Region) (region : ℕ) (stack : List Entry) (e : Environment) (w : World) → region_at w region ≡ a → Silent globals stack e w (closes_dynamic a region stack e w)
named_closing_dynamic {globals} (Found r) region stack e w found = go r.sort refl
  where
    go : (sort : Sort) → r.sort ≡ sort → Silent globals stack e w (if is_dynamic sort then Running Proceeding stack e (closed w region r) else parts.wrong w)
    go Dynamic same = Goes (λ h. (tt, named_closed region r globals stack e.locals w found h.1))
    go sort same = Fails
named_closing_dynamic Closed region stack e w found = Dies
named_closing_dynamic Missing region stack e w found = Fails

named_closing_with : {globals : ℕ} (key : Value) (stack : List Entry) (e : Environment) (w : World) → Silent globals stack e w (closes_with key stack e w)
named_closing_with (Key region) stack e w = named_closing_dynamic (region_at w region) region stack e w refl
named_closing_with value stack e w = Fails

named_freeing_in_region : {globals : ℕ} (a : Access Region) (stack : List Entry) (e : Environment) (w : World) → Silent globals stack e w (frees_in_region a w)
named_freeing_in_region (Found r) stack e w = Fails
named_freeing_in_region Closed stack e w = Dies
named_freeing_in_region Missing stack e w = Fails

named_freeing_owned : {globals : ℕ} (o : Option Object) (number : ℕ) (stack : List Entry) (e : Environment) (w : World) → slice_get w.objects number ≡ o → Silent globals stack e w (frees_object o number stack e w)
named_freeing_owned {globals} (Some x) number stack e w there = go x.owner refl
  where
    go : (owner : Owner) → x.owner ≡ owner → Silent globals stack e w (frees_owned owner number x stack e w)
    go (InRegion region) is = named_freeing_in_region (region_at w region) stack e w
    go (Unique true) is = Goes (λ h. (tt, named_freed number x globals stack e.locals w there is h.1))
    go (Unique false) is = Dies
named_freeing_owned None number stack e w there = Fails

named_freeing : {globals : ℕ} (value : Value) (stack : List Entry) (e : Environment) (w : World) → Silent globals stack e w (frees value stack e w)
named_freeing Null stack e w = Goes (λ h. (tt, h.1))
named_freeing (Thin object offset) stack e w = stays_either (offset == 0) _ _ (named_freeing_owned (slice_get w.objects object) object stack e w refl) Fails
named_freeing (Fat object start count index) stack e w = stays_either (start == 0) _ _ (named_freeing_owned (slice_get w.objects object) object stack e w refl) Fails
named_freeing value stack e w = Fails

-- ---- evaluation

named_passing : {globals : ℕ} (callee : Callee) (before : List Operand) (later : Arguments) (stack : List Entry) (e : Environment) (w : World) → Silent globals stack e w (passes callee before later stack e w)
named_passing callee before NoArguments stack e w = Goes (λ h. (tt, h.1))
named_passing callee before (MoreArguments (Convert from to a) later) stack e w = Goes (λ h. (tt, h.1))

named_assigning : {globals : ℕ} (o : Option ℕ) (c : Converted) (stack : List Entry) (e : Environment) (w : World) → Silent globals stack e w (assigned o c stack e w)
named_assigning (Some object) (Convert from to a) stack e w = Goes (λ h. (tt, h.1))
named_assigning None c stack e w = Fails

named_addressing : {globals : ℕ} (o : Option ℕ) (stack : List Entry) (e : Environment) (w : World) → Silent globals stack e w (addressed o stack e w)
named_addressing (Some object) stack e w = Goes (λ h. (tt, h.1))
named_addressing None stack e w = Fails

named_reading_counter : {globals : ℕ} (o : Option ℕ) (stack : List Entry) (e : Environment) (w : World) → Silent globals stack e w (counts o stack e w)
named_reading_counter (Some index) stack e w = Goes (λ h. (tt, h.1))
named_reading_counter None stack e w = Fails

pub named_evaluating : {globals : ℕ} (a : Expression) (stack : List Entry) (e : Environment) (w : World) → Silent globals stack e w (step_evaluating a stack e w)
named_evaluating (Number n) stack e w = Goes (λ h. (tt, h.1))
named_evaluating NullPointer stack e w = Goes (λ h. (tt, h.1))
named_evaluating HeapRegion stack e w = Goes (λ h. (tt, h.1))
named_evaluating (Counter level) stack e w = named_reading_counter (e.counters level) stack e w
named_evaluating (Copy place t) stack e w = named_loading_from (kind_of t) (object_of e place) stack e w
named_evaluating (Move p number t) stack e w = named_loading_from (kind_of t) (e.locals number) stack e w
named_evaluating (Peek p number t) stack e w = named_loading_from (kind_of t) (e.locals number) stack e w
named_evaluating (Load d) stack e w = Goes (λ h. (tt, h.1))
named_evaluating (AddressOf place t) stack e w = named_addressing (object_of e place) stack e w
named_evaluating (AddressOfCell d t) stack e w = Goes (λ h. (tt, h.1))
named_evaluating (NumberOfElements a) stack e w = Goes (λ h. (tt, h.1))
named_evaluating (FreeUnique a) stack e w = Goes (λ h. (tt, h.1))
named_evaluating (FreeKey a) stack e w = Goes (λ h. (tt, h.1))
named_evaluating (Call callee arguments t) stack e w = named_passing callee [] arguments stack e w
named_evaluating (Unary operator a) stack e w = Goes (λ h. (tt, h.1))
named_evaluating (Binary a rest t) stack e w = Goes (λ h. (tt, h.1))
named_evaluating (Assign place c t) stack e w = named_assigning (object_of e place) c stack e w
named_evaluating (typed.Store d c t) stack e w = Goes (λ h. (tt, h.1))
named_evaluating (New OnHeap (Plain kind a) t) stack e w = Goes (λ h. (tt, h.1))
named_evaluating (New OnHeap (Fields NoArguments) t) stack e w = named_filling (InRegion 0) [] stack e w
named_evaluating (New OnHeap (Fields (MoreArguments (Convert from to a) fields)) t) stack e w = Goes (λ h. (tt, h.1))
named_evaluating (New OnHeap (Array place level count kind element) t) stack e w = Goes (λ h. (tt, h.1))
named_evaluating (New AsUnique (Plain kind a) t) stack e w = Goes (λ h. (tt, h.1))
named_evaluating (New AsUnique (Fields NoArguments) t) stack e w = named_filling (Unique true) [] stack e w
named_evaluating (New AsUnique (Fields (MoreArguments (Convert from to a) fields)) t) stack e w = Goes (λ h. (tt, h.1))
named_evaluating (New AsUnique (Array place level count kind element) t) stack e w = Goes (λ h. (tt, h.1))
named_evaluating (New (ByHandle a) initial t) stack e w = Goes (λ h. (tt, h.1))

named_deciding : {globals : ℕ} (decides fails : Bool) (b : Expression) (rest : Operations) (stack : List Entry) (e : Environment) (w : World) → Silent globals stack e w (decided decides fails b rest stack e w)
named_deciding true fails b rest stack e w = Goes (λ h. (tt, h.1))
named_deciding false fails b rest stack e w = Goes (λ h. (tt, h.1))

named_testing : {globals : ℕ} (o : Option Bool) (operator : LogicalOperator) (b : Expression) (rest : Operations) (stack : List Entry) (e : Environment) (w : World) → Silent globals stack e w (tested o operator b rest stack e w)
named_testing (Some fails) operator b rest stack e w = named_deciding (decides operator fails) fails b rest stack e w
named_testing None operator b rest stack e w = Fails

named_awaiting_right : {globals : ℕ} (fits : Bool) (waiting : Awaiting) (b : Expression) (rest : Operations) (stack : List Entry) (e : Environment) (w : World) → Silent globals (Needs waiting ∷ Needs (Chain rest) ∷ stack) e w (awaits_right fits waiting b rest stack e w)
named_awaiting_right true waiting b rest stack e w = Goes (λ h. (tt, h.1))
named_awaiting_right false waiting b rest stack e w = Fails

named_chaining : {globals : ℕ} (rest : Operations) (value : Operand) (stack : List Entry) (e : Environment) (w : World) → Silent globals stack e w (chained rest value stack e w)
named_chaining NoOperations value stack e w = Goes (λ h. (tt, h.1))
named_chaining (ThenCompute operator b rest) value stack e w = named_awaiting_right (is_kind value.kind kinds.Int) (Apply operator value) b rest stack e w
named_chaining (ThenTest operator b rest) value stack e w = named_testing (is_zero value.value) operator b rest stack e w
named_chaining (ThenPointer operator b rest) value stack e w = named_awaiting_right (takes_kind operator value.kind) (ApplyPointer None operator value) b rest stack e w
named_chaining (ThenPointerPeek number operator b rest) value stack e w = named_awaiting_right (takes_kind operator value.kind) (ApplyPointer (Some number) operator value) b rest stack e w

named_telling : {globals : ℕ} (negated : Bool) (a : Access Bool) (stack : List Entry) (e : Environment) (w : World) → Silent globals stack e w (tells negated a stack e w)
named_telling false (Found equal) stack e w = Goes (λ h. (tt, h.1))
named_telling true (Found equal) stack e w = Goes (λ h. (tt, h.1))
named_telling negated Closed stack e w = Dies
named_telling negated Missing stack e w = Fails

named_applying_pointer : {globals : ℕ} (peek : Option ℕ) (operator : PointerOperator) (left right : Operand) (stack : List Entry) (e : Environment) (w : World) → Silent globals stack e w (applies_pointer operator left.value right.value stack e w)
named_applying_pointer peek pointers.EqualThin left right stack e w = named_telling false (compared w left.value right.value) stack e w
named_applying_pointer peek pointers.NotEqualThin left right stack e w = named_telling true (compared w left.value right.value) stack e w
named_applying_pointer peek operator left right stack e w = named_computing (result_kind operator) (pointer_result operator left.value right.value) stack e w

named_choosing : {globals : ℕ} (o : Option Bool) (first second : Statement) (stack : List Entry) (e : Environment) (w : World) → Silent globals (Needs (Choose first second) ∷ stack) e w (chosen o first second stack e w)
named_choosing (Some true) first second stack e w = Goes (λ h. (h.1.0.0.1, (h.1.0.1, h.1.1, h.1.2, h.1.3, h.1.4, h.1.5, h.1.6)))
named_choosing (Some false) first second stack e w = Goes (λ h. (h.1.0.0.0, (h.1.0.1, h.1.1, h.1.2, h.1.3, h.1.4, h.1.5, h.1.6)))
named_choosing None first second stack e w = Fails

named_looping : {globals : ℕ} (o : Option Bool) (condition : Expression) (body : Statement) (stack : List Entry) (e : Environment) (w : World) → Silent globals (Needs (Test condition body) ∷ stack) e w (looped o condition body stack e w)
named_looping (Some true) condition body stack e w = Goes (λ h. (tt, (h.1.0.1, h.1.1, h.1.2, h.1.3, h.1.4, h.1.5, h.1.6)))
named_looping (Some false) condition body stack e w = Goes (λ h. (h.1.0.0, ((h.1.0.0, h.1.0.1), h.1.1, h.1.2, h.1.3, h.1.4, h.1.5, h.1.6)))
named_looping None condition body stack e w = Fails

named_throwing_value : {globals : ℕ} (tag : ℕ) (value : Value) (stack : List Entry) (e : Environment) (w : World) → Silent globals stack e w (throws_value tag value stack e w)
named_throwing_value tag (Int word) stack e w = Goes (λ h. (tt, h.1))
named_throwing_value tag value stack e w = Fails

named_placing_at : {globals : ℕ} (initial : Initial) (region : ℕ) (stack : List Entry) (e : Environment) (w : World) → Silent globals stack e w (makes (InRegion region) initial (Needs (BesideHandle region) ∷ stack) e w)
named_placing_at (Plain kind a) region stack e w = Goes (λ h. (tt, h.1))
named_placing_at (Fields NoArguments) region stack e w = named_filling (InRegion region) [] (Needs (BesideHandle region) ∷ stack) e w
named_placing_at (Fields (MoreArguments (Convert from to a) fields)) region stack e w = Goes (λ h. (tt, h.1))
named_placing_at (Array place level count kind element) region stack e w = Goes (λ h. (tt, h.1))

named_placing : {globals : ℕ} (initial : Initial) (value : Value) (stack : List Entry) (e : Environment) (w : World) → Silent globals stack e w (makes_by initial value stack e w)
named_placing initial (Handle region) stack e w = named_placing_at initial region stack e w
named_placing initial value stack e w = Fails

named_supplying : {globals : ℕ} (a : Awaiting) (value : Operand) (stack : List Entry) (e : Environment) (w : World) → Silent globals (Needs a ∷ stack) e w (supplied a value stack e w)
named_supplying (ConvertTo from to target) value stack e w = stays_either (is_kind value.kind from && leads_to w target (followed value.value)) _ _ (named_computing to (conversion to value.value) stack e w) Fails
named_supplying (Operate operator) value stack e w = named_computing (unary_kind operator) (unary_result operator value.value) stack e w
named_supplying (Chain rest) value stack e w = named_chaining rest value stack e w
named_supplying (Apply operator left) value stack e w = named_computing kinds.Int (binary_result operator left.value value.value) stack e w
named_supplying (ApplyPointer peek operator left) value stack e w = named_applying_pointer peek operator left value stack e w
named_supplying Decide value stack e w = named_computing kinds.Int (truth_of (is_zero value.value)) stack e w
named_supplying (Store place) value stack e w = named_storing_at place value (Given value) stack e w (λ objects. tt)
named_supplying (StoreCell peek place) value stack e w = named_storing_at place value (Given value) stack e w (λ objects. tt)
named_supplying (Pass callee before arguments) value stack e w = named_passing callee (value ∷ before) arguments stack e w
named_supplying (Follow pointer target) value stack e w = named_following pointer target value stack e w
named_supplying (FollowMember pointer fields field) value stack e w = named_following_member pointer fields field value stack e w
named_supplying (Index peek target index) value stack e w = named_indexing peek target index value stack e w
named_supplying (Advance peek target base) value stack e w = named_computing kinds.Fat (pointer_result pointers.AddFat base.value value.value) (Needs (Follow kinds.Fat target) ∷ stack) e w
named_supplying CountElements value stack e w = named_computing kinds.Int (element_count value.value) stack e w
named_supplying FreeObject value stack e w = named_freeing value.value stack e w
named_supplying CloseByKey value stack e w = named_closing_with value.value stack e w
named_supplying (PlaceBy initial) value stack e w = named_placing initial value.value stack e w
named_supplying (BesideHandle region) value stack e w = Goes (λ h. (tt, h.1))
named_supplying (MakePlain owner kind) value stack e w = named_making_plain owner kind value stack e w
named_supplying (MakeFields owner before NoArguments) value stack e w = named_filling owner (reverse (value ∷ before)) stack e w
named_supplying (MakeFields owner before (MoreArguments (Convert from to a) fields)) value stack e w = Goes (λ h. (tt, h.1))
named_supplying (MakeArray owner level kind element) value stack e w = named_making_array owner level kind element value.value stack e w
named_supplying (FillElement object count index level kind element) value stack e w = named_filling_element object count index level kind element value stack e w
named_supplying (Initialise number kind items) value stack e w =
    stays_either (is_kind value.kind kind) _ _ (names_local (region_at w e.home) number kind kind (Some value.value) items stack e w refl) Fails
named_supplying (Choose first second) value stack e w = named_choosing (is_zero value.value) first second stack e w
named_supplying (Test condition body) value stack e w = named_looping (is_zero value.value) condition body stack e w
named_supplying Return value stack e w = Goes (λ h. (tt, h.1))
named_supplying (ThrowWith tag) value stack e w = named_throwing_value tag value.value stack e w
named_supplying (OpenBy number lent items) value stack e w = named_opening_with number lent items value.value stack e w
named_supplying (AliasOf number lent items) value stack e w = Goes (λ h. (h.1.0.0, (h.1.0.1, h.1.1, h.1.2, h.1.3, h.1.4, h.1.5, h.1.6)))

pub named_given : {globals : ℕ} (value : Operand) (stack : List Entry) (e : Environment) (w : World) → Silent globals stack e w (step_given value stack e w)
named_given value [] e w = Fails
named_given value (Needs a ∷ stack) e w = named_supplying a value stack e w
named_given value (Discard ∷ stack) e w = Goes (λ h. (tt, h.1))
named_given value (entry ∷ stack) e w = Fails
