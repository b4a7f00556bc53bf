-- Lemmas: lower bounds on the costs of a state's focus (next action) and stack. The cost of a stack depends on the facts known about the
-- value for which the newest entry waits. Lemmas compare the costs of one stack for different facts about this value.
use Rattle.std.proofs.Common.{◌≡◌, ℕ, zero, suc, ◌+◌, ◌*◌, ◌-◌, ◌^◌, ◌<◌, ◌≤◌, min, Bool, true, false, List, [], ◌∷◌, length, Option, Some, None, refl, sym, ap, ◌∙◌, arith, mul-le-mul_right}
use Rattle.std.specs.Prelude.{◌==◌, nat_le, if◌then◌else◌}
use Rattle.std.proofs.lemmas.Bool.{leb-true, le-leb, lt-leb, eqb-true}
use Rattle.cyc_words.specs.Demand.{class_from, class_of}
use Rattle.cyc_types.specs.declared.typed.Kind.{Kind}
use Rattle.cyc_types.specs.declared.typed.Kind.TheVariants as kinds
use Rattle.cyc_types.specs.declared.typed.Callee.{Callee}
use Rattle.cyc_types.specs.declared.typed.Callee.TheVariants as callees
use Rattle.cyc_types.specs.TypedTrees.{Expression, Number, NullPointer, HeapRegion, Counter, Copy, Move, Peek, Load, AddressOf, AddressOfCell, NumberOfElements, FreeUnique, FreeKey, Call, Unary, Binary, Assign, New}
use Rattle.cyc_types.specs.TypedTrees.{Dereference, Target, Member, Element, OnHeap, AsUnique, ByHandle, Initial, Plain, Fields, Array, Convert, Arguments, NoArguments, MoreArguments, Statement, Block, Empty, Evaluate}
use Rattle.cyc_types.specs.TypedTrees.{Swap, If, While, Break, Continue, Throw, Try, Items, NoItems, MoreItems, Execute, Declare, DeclareRegion, OpenRegion, DeclareAlias, DeclareKey, Clauses, NoClauses, Default, Case}
use Rattle.cyc_types.specs.TypedTrees as typed
use Rattle.cyc_meaning.specs.Values.{Handle, number_of_kind, is_kind, bytes_of_kind, following, words_for}
use Rattle.cyc_meaning.specs.Allocation.{most_words}
use Rattle.cyc_meaning.specs.State.{Awaiting, ConvertTo, Operate, Chain, Apply, ApplyPointer, Decide, Store, StoreCell, Pass, Follow, FollowMember, Index, Advance, CountElements, FreeObject, CloseByKey, PlaceBy}
use Rattle.cyc_meaning.specs.State.{BesideHandle, MakePlain, MakeFields, MakeArray, FillElement, Initialise, Choose, Test, Return, ThrowWith, OpenBy, AliasOf, AwaitingPlace, LoadFrom, TakeAddress, StoreTo, SwapLeft}
use Rattle.cyc_meaning.specs.State.{SwapRight, Entry, Needs, NeedsPlace, Discard, Rest, Join, Loop, CloseRegion, CloseLexical, EndLoan, Handler, Caller, Main, Focus, Evaluating, Locating, Given, GivenPlace, Executing}
use Rattle.cyc_meaning.specs.State.{Proceeding, Calling, Entering, Binding, Naming, Writing, Beginning, Repeating, Swapping, Breaking, Continuing, Returning, Throwing, Catching, State, Running, Ended, Dead, Wrong, heap_number}
use Rattle.cyc_bound.specs.declared.costs.Measure.{Measure}
use Rattle.cyc_bound.specs.declared.costs.Measure.TheVariants as measures
use Rattle.cyc_bound.specs.declared.costs.Site.{Site}
use Rattle.cyc_bound.specs.declared.costs.Site.TheVariants as sites
use Rattle.cyc_bound.specs.Costs.{too_many, step_cost, block_cost, array_block_cost, size_of_bytes, most_elements, written_length, array_cost, callee_cost, expression_cost, place_cost, initial_cost, fields_cost, loop_cost, statement_cost, items_cost, clauses_cost}
use Rattle.cyc_bound.specs.inside.Remaining.{Delivery, Nothing, Anything, OfKind, delivered_number, site_of_owner, bytes_before, length_awaited, elements_left, awaiting_cost, awaiting_place_cost, stack_cost, focus_cost}

-- ---- loops

pub loop_is_free : (turn : ℕ) → loop_cost turn < too_many → turn ≡ 0
loop_is_free zero less = refl
loop_is_free (suc turn) less = absurd (omega (arith, less))

loop_least : (step rest : ℕ) → loop_cost (step + rest) < too_many → step ≤ loop_cost (step + rest)
loop_least step rest less = omega (arith, loop_is_free (step + rest) less)

-- ---- kinds

abbrev kind_of_number : ℕ → Kind
kind_of_number zero = kinds.Int
kind_of_number (suc zero) = kinds.Nullable
kind_of_number (suc (suc zero)) = kinds.NonNull
kind_of_number (suc (suc (suc zero))) = kinds.Fat
kind_of_number (suc (suc (suc (suc zero)))) = kinds.Handle
kind_of_number (suc (suc (suc (suc (suc zero))))) = kinds.Key
kind_of_number (suc (suc (suc (suc (suc (suc n)))))) = kinds.Char

kind_by_number : (kind : Kind) → kind_of_number (number_of_kind kind) ≡ kind
kind_by_number kinds.Int = refl
kind_by_number kinds.Char = refl
kind_by_number kinds.Nullable = refl
kind_by_number kinds.NonNull = refl
kind_by_number kinds.Fat = refl
kind_by_number kinds.Handle = refl
kind_by_number kinds.Key = refl

pub kind_is : (a b : Kind) → is_kind a b ≡ true → a ≡ b
kind_is a b same = sym (kind_by_number a) ∙ ap (λ (n : ℕ). kind_of_number n) (eqb-true (number_of_kind a) (number_of_kind b) same) ∙ kind_by_number b

-- ---- array lengths

-- if an array fits the size limit, its number of elements is at most the maximum for elements of their representation kind (int, char,
-- pointer, ..)
pub elements_fit : (kind : Kind) (count : ℕ) → words_for (count * bytes_of_kind kind) ≤ most_words → min count (most_elements kind) ≡ count
elements_fit kinds.Int count fits = omega (arith, fits)
elements_fit kinds.Char count fits = omega (arith, fits)
elements_fit kinds.Nullable count fits = omega (arith, fits)
elements_fit kinds.NonNull count fits = omega (arith, fits)
elements_fit kinds.Fat count fits = omega (arith, fits)
elements_fit kinds.Handle count fits = omega (arith, fits)
elements_fit kinds.Key count fits = omega (arith, fits)

size_fits : (kind : Kind) (n : ℕ) → size_of_bytes (min n (most_elements kind) * bytes_of_kind kind) ≤ most_words
size_fits kinds.Int n = omega arith
size_fits kinds.Char n = omega arith
size_fits kinds.Nullable n = omega arith
size_fits kinds.NonNull n = omega arith
size_fits kinds.Fat n = omega arith
size_fits kinds.Handle n = omega arith
size_fits kinds.Key n = omega arith

block_known : (m : Measure) (site : Site) (size : ℕ) → size ≤ most_words → block_cost m site size ≤ array_block_cost m site
block_known measures.Steps sites.Heap size fits = omega arith
block_known measures.Steps sites.Region size fits = omega arith
block_known measures.Steps sites.Unique size fits = omega arith
block_known measures.Openings sites.Heap size fits = omega arith
block_known measures.Openings sites.Region size fits = omega arith
block_known measures.Openings sites.Unique size fits = omega arith
block_known measures.Blocks sites.Heap size fits = omega arith
block_known measures.Blocks sites.Region size fits = omega arith
block_known measures.Blocks sites.Unique size fits = omega arith
block_known measures.Words sites.Heap size fits = fits
block_known measures.Words sites.Region size fits = fits
block_known measures.Words sites.Unique size fits = omega arith
block_known measures.HeapBlocks sites.Heap size fits = omega arith
block_known measures.HeapBlocks sites.Region size fits = omega arith
block_known measures.HeapBlocks sites.Unique size fits = omega arith
block_known measures.HeapWords sites.Heap size fits = fits
block_known measures.HeapWords sites.Region size fits = omega arith
block_known measures.HeapWords sites.Unique size fits = omega arith
block_known measures.RegionBlocks sites.Heap size fits = omega arith
block_known measures.RegionBlocks sites.Region size fits = omega arith
block_known measures.RegionBlocks sites.Unique size fits = omega arith
block_known measures.RegionWords sites.Heap size fits = omega arith
block_known measures.RegionWords sites.Region size fits = fits
block_known measures.RegionWords sites.Unique size fits = omega arith
block_known measures.Lasting sites.Heap size fits = omega arith
block_known measures.Lasting sites.Region size fits = omega arith
block_known measures.Lasting sites.Unique size fits = omega arith
block_known (measures.Uniques class) sites.Heap size fits = omega arith
block_known (measures.Uniques class) sites.Region size fits = omega arith
block_known (measures.Uniques class) sites.Unique size fits = go (class_of size == class)
  where
    go : (b : Bool) → (if b then 1 else 0) ≤ 1
    go true = omega arith
    go false = omega arith

pub array_known : (m : Measure) (site : Site) (kind : Kind) (element : ℕ) (n : Option ℕ) → array_cost m site kind element n ≤ array_cost m site kind element None
array_known m site kind element None = omega arith
array_known m site kind element (Some n) =
    let few : min n (most_elements kind) ≤ most_elements kind = omega arith in
    omega (arith, mul-le-mul_right (step_cost m + element) few, block_known m site (size_of_bytes (min n (most_elements kind) * bytes_of_kind kind)) (size_fits kind n))

pub length_is : (m : Measure) (array : Option ℕ → ℕ) (n : Option ℕ) → length_awaited m array (delivered_number n) ≡ array n
length_is m array None = refl
length_is m array (Some n) = refl

-- ---- lower bounds of one step

module _ (m : Measure) (costs : List ℕ) where
  pub callee_least : (callee : Callee) → step_cost m ≤ callee_cost m costs callee
  callee_least callees.Putchar = omega arith
  callee_least callees.Getchar = omega arith
  callee_least (callees.Function number) = omega arith

  pub items_least : (items : Items) → step_cost m ≤ items_cost m costs items
  items_least NoItems = omega arith
  items_least (MoreItems (Execute s) items) = omega (arith, items_least items)
  items_least (MoreItems (Declare number t value) items) = omega arith
  items_least (MoreItems (DeclareRegion region number) items) = omega arith
  items_least (MoreItems (OpenRegion region number p key) items) = omega arith
  items_least (MoreItems (DeclareAlias region number t p source) items) = omega arith
  items_least (MoreItems (DeclareKey region number) items) = omega arith

  pub clauses_least : (clauses : Clauses) → step_cost m ≤ clauses_cost m costs clauses
  clauses_least NoClauses = omega arith
  clauses_least (Default region items) = omega arith
  clauses_least (Case tag number region items later) = omega arith

  fields_least : (site : Site) (count bytes : ℕ) (fields : Arguments) → step_cost m ≤ fields_cost m costs site count bytes fields
  fields_least site count bytes NoArguments = omega arith
  fields_least site count bytes (MoreArguments (Convert from to a) fields) = omega arith

  pub array_least : (site : Site) (kind : Kind) (element : ℕ) (n : Option ℕ) → step_cost m ≤ array_cost m site kind element n
  array_least site kind element None = omega arith
  array_least site kind element (Some n) = omega arith

  pub elements_left_least : (element count index : ℕ) → elements_left m element count index < too_many → step_cost m ≤ elements_left m element count index
  elements_left_least element count index less = go (nat_le index count) less
    where
      go : (b : Bool) → (if b then (count - index) * (step_cost m + element) + 2 * step_cost m else too_many) < too_many
          → step_cost m ≤ (if b then (count - index) * (step_cost m + element) + 2 * step_cost m else too_many)
      go true less = omega arith
      go false less = absurd (omega (arith, less))

  pub awaiting_least : (waiting : Awaiting) → awaiting_cost m costs Nothing waiting < too_many → step_cost m ≤ awaiting_cost m costs Nothing waiting
  awaiting_least (ConvertTo from to target) less = omega arith
  awaiting_least (Operate operator) less = omega arith
  awaiting_least (Chain rest) less = omega arith
  awaiting_least (Apply operator operand) less = omega arith
  awaiting_least (ApplyPointer peek operator operand) less = omega arith
  awaiting_least Decide less = omega arith
  awaiting_least (Store place) less = omega arith
  awaiting_least (StoreCell peek place) less = omega arith
  awaiting_least (Pass callee before later) less = omega (arith, callee_least callee)
  awaiting_least (Follow pointer target) less = omega arith
  awaiting_least (FollowMember pointer fields field) less = omega arith
  awaiting_least (Index peek target index) less = omega arith
  awaiting_least (Advance peek target base) less = omega arith
  awaiting_least CountElements less = omega arith
  awaiting_least FreeObject less = omega arith
  awaiting_least CloseByKey less = omega arith
  awaiting_least (PlaceBy initial) less = omega arith
  awaiting_least (BesideHandle region) less = omega arith
  awaiting_least (MakePlain owner kind) less = omega arith
  awaiting_least (MakeFields owner before fields) less = omega arith
  awaiting_least (MakeArray owner level kind element) less = omega arith
  awaiting_least (FillElement object count index level kind element) less = elements_left_least (expression_cost m costs element) count (suc index) less
  awaiting_least (Initialise number kind items) less = omega arith
  awaiting_least (Choose first second) less = omega arith
  awaiting_least (Test condition body) less = loop_least (step_cost m) _ less
  awaiting_least Return less = omega arith
  awaiting_least (ThrowWith tag) less = omega arith
  awaiting_least (OpenBy number lent items) less = omega arith
  awaiting_least (AliasOf number lent items) less = omega arith

  pub awaiting_place_least : (waiting : AwaitingPlace) → step_cost m ≤ awaiting_place_cost m costs waiting
  awaiting_place_least (LoadFrom kind) = omega arith
  awaiting_place_least TakeAddress = omega arith
  awaiting_place_least (StoreTo peek value) = omega arith
  awaiting_place_least (SwapLeft kind peek right) = omega arith
  awaiting_place_least (SwapRight kind peek is_cell before) = omega arith

  expression_least : (a : Expression) → step_cost m ≤ expression_cost m costs a
  expression_least (Number n) = omega arith
  expression_least NullPointer = omega arith
  expression_least HeapRegion = omega arith
  expression_least (Counter level) = omega arith
  expression_least (Copy place t) = omega arith
  expression_least (Move p number t) = omega arith
  expression_least (Peek p number t) = omega arith
  expression_least (Load d) = omega arith
  expression_least (AddressOf place t) = omega arith
  expression_least (AddressOfCell d t) = omega arith
  expression_least (NumberOfElements a) = omega arith
  expression_least (FreeUnique a) = omega arith
  expression_least (FreeKey a) = omega arith
  expression_least (Call callee later t) = omega arith
  expression_least (Unary operator a) = omega arith
  expression_least (Binary a rest t) = omega arith
  expression_least (Assign place c t) = omega arith
  expression_least (typed.Store d c t) = omega arith
  expression_least (New OnHeap initial t) = omega arith
  expression_least (New AsUnique initial t) = omega arith
  expression_least (New (ByHandle a) initial t) = omega arith

  place_least : (d : Dereference) → step_cost m ≤ place_cost m costs d
  place_least (Target pointer a t) = omega arith
  place_least (Member pointer a s field t) = omega arith
  place_least (Element a i t) = omega arith

  statement_least : (s : Statement) → statement_cost m costs s < too_many → step_cost m ≤ statement_cost m costs s
  statement_least (Block region items) less = omega arith
  statement_least Empty less = omega arith
  statement_least (Evaluate a) less = omega arith
  statement_least (Swap a b) less = omega arith
  statement_least (If a s t) less = omega arith
  statement_least (While p a s) less = loop_least (step_cost m) _ less
  statement_least (typed.Return value) less = omega arith
  statement_least Break less = omega arith
  statement_least Continue less = omega arith
  statement_least (Throw tag value) less = omega arith
  statement_least (Try s handler) less = omega arith

  pub focus_least : (focus : Focus) → focus_cost m costs focus < too_many → step_cost m ≤ focus_cost m costs focus
  focus_least (Evaluating a) less = expression_least a
  focus_least (Locating d) less = place_least d
  focus_least (Given value) less = omega arith
  focus_least (GivenPlace place) less = omega arith
  focus_least (Executing s) less = statement_least s less
  focus_least Proceeding less = omega arith
  focus_least (Calling callee arguments) less = callee_least callee
  focus_least (Entering h arguments) less = omega arith
  focus_least (Binding number types arguments body) less = omega arith
  focus_least (Naming number operand items) less = omega arith
  focus_least (Writing writes result) less = omega arith
  focus_least (Beginning owner count level kind element) less = omega arith
  focus_least (Repeating object count index level kind element) less = elements_left_least (expression_cost m costs element) count index less
  focus_least (Swapping kind left right None) less = omega arith
  focus_least (Swapping kind left right (Some before)) less = omega arith
  focus_least Breaking less = omega arith
  focus_least Continuing less = omega arith
  focus_least (Returning value) less = omega arith
  focus_least (Throwing tag value) less = omega arith
  focus_least (Catching tag value handler) less = clauses_least handler

  -- ---- costs of elements

  pub elements_from : (element count index : ℕ) → index ≤ count → elements_left m element count index ≡ (count - index) * (step_cost m + element) + 2 * step_cost m
  elements_from element count index less = ap (λ (b : Bool). if b then (count - index) * (step_cost m + element) + 2 * step_cost m else too_many) (le-leb index count less)

  pub elements_within : (element count index : ℕ) → elements_left m element count index < too_many → index ≤ count
  elements_within element count index less = go (nat_le index count) refl less
    where
      go : (b : Bool) → nat_le index count ≡ b → (if b then (count - index) * (step_cost m + element) + 2 * step_cost m else too_many) < too_many → index ≤ count
      go true is less = leb-true index count is
      go false is less = absurd (omega (arith, less))

-- ---- sites of allocation

-- says that an allocation on the heap costs at most as much as an allocation by a region handle
abbrev pub IsNoMore : Measure → Type 0
IsNoMore m = ((size : ℕ) → block_cost m sites.Heap size ≤ block_cost m sites.Region size) × (array_block_cost m sites.Heap ≤ array_block_cost m sites.Region)

module _ (m : Measure) (costs : List ℕ) (no_more : IsNoMore m) where
  fields_no_more : (count bytes : ℕ) (fields : Arguments) → fields_cost m costs sites.Heap count bytes fields ≤ fields_cost m costs sites.Region count bytes fields
  fields_no_more count bytes NoArguments = omega (arith, no_more.0 (size_of_bytes bytes))
  fields_no_more count bytes (MoreArguments (Convert from to a) fields) = omega (arith, fields_no_more (suc count) (following to bytes) fields)

  array_no_more : (kind : Kind) (element : ℕ) (n : Option ℕ) → array_cost m sites.Heap kind element n ≤ array_cost m sites.Region kind element n
  array_no_more kind element None = omega (arith, no_more.1)
  array_no_more kind element (Some n) = omega (arith, no_more.0 (size_of_bytes (min n (most_elements kind) * bytes_of_kind kind)))

  pub initial_no_more : (initial : Initial) → initial_cost m costs sites.Heap initial ≤ initial_cost m costs sites.Region initial
  initial_no_more (Plain kind a) = omega (arith, no_more.0 (size_of_bytes (following kind 0)))
  initial_no_more (Fields fields) = fields_no_more 0 0 fields
  initial_no_more (Array place level count kind element) = omega (arith, array_no_more kind (expression_cost m costs element) (written_length count))

-- says: if the value just computed is a handle of the heap, an allocation by a handle costs at least as much as one on the heap
abbrev pub Fits : Measure → Focus → Type 0
Fits m (Given v) = v.value ≡ Handle heap_number → IsNoMore m
Fits m focus = Unit {0}

abbrev pub FitsIn : Measure → State → Type 0
FitsIn m (Running focus stack e w) = Fits m focus
FitsIn m (Ended ending output input) = Unit {0}
FitsIn m (Dead output input) = Unit {0}
FitsIn m (Wrong output input) = Unit {0}

pub always_fits : (m : Measure) → IsNoMore m → (s : State) → FitsIn m s
always_fits m no_more (Running focus stack e w) = go focus
  where
    go : (focus : Focus) → Fits m focus
    go (Given v) = λ is. no_more
    go focus = tt
always_fits m no_more (Ended ending output input) = tt
always_fits m no_more (Dead output input) = tt
always_fits m no_more (Wrong output input) = tt

-- ---- costs of stacks

module _ (m : Measure) (costs : List ℕ) where
  -- the cost of a stack is lowest if no value is passed to the stack
  nothing_of_any : (stack : List Entry) → stack_cost m costs Anything stack < too_many → stack_cost m costs Nothing stack ≤ stack_cost m costs Anything stack
  nothing_of_any [] less = omega arith
  nothing_of_any (Needs (ConvertTo from to target) ∷ stack) less = omega arith
  nothing_of_any (Needs (Operate operator) ∷ stack) less = omega arith
  nothing_of_any (Needs (Chain rest) ∷ stack) less = omega arith
  nothing_of_any (Needs (Apply operator operand) ∷ stack) less = omega arith
  nothing_of_any (Needs (ApplyPointer peek operator operand) ∷ stack) less = omega arith
  nothing_of_any (Needs Decide ∷ stack) less = omega arith
  nothing_of_any (Needs (Store place) ∷ stack) less = omega arith
  nothing_of_any (Needs (StoreCell peek place) ∷ stack) less = omega arith
  nothing_of_any (Needs (Pass callee before later) ∷ stack) less = omega arith
  nothing_of_any (Needs (Follow pointer target) ∷ stack) less = omega arith
  nothing_of_any (Needs (FollowMember pointer fields field) ∷ stack) less = omega arith
  nothing_of_any (Needs (Index peek target index) ∷ stack) less = omega arith
  nothing_of_any (Needs (Advance peek target base) ∷ stack) less = omega arith
  nothing_of_any (Needs CountElements ∷ stack) less = omega arith
  nothing_of_any (Needs FreeObject ∷ stack) less = omega arith
  nothing_of_any (Needs CloseByKey ∷ stack) less = omega arith
  nothing_of_any (Needs (PlaceBy initial) ∷ stack) less = omega arith
  nothing_of_any (Needs (BesideHandle region) ∷ stack) less = omega arith
  nothing_of_any (Needs (MakePlain owner kind) ∷ stack) less = omega arith
  nothing_of_any (Needs (MakeFields owner before fields) ∷ stack) less = absurd (omega (arith, less))
  nothing_of_any (Needs (MakeArray owner level kind element) ∷ stack) less = omega (arith, array_least m costs (site_of_owner owner) kind (expression_cost m costs element) None)
  nothing_of_any (Needs (FillElement object count index level kind element) ∷ stack) less = omega arith
  nothing_of_any (Needs (Initialise number kind items) ∷ stack) less = omega arith
  nothing_of_any (Needs (Choose first second) ∷ stack) less = omega arith
  nothing_of_any (Needs (Test condition body) ∷ stack) less = omega arith
  nothing_of_any (Needs Return ∷ stack) less = omega arith
  nothing_of_any (Needs (ThrowWith tag) ∷ stack) less = omega arith
  nothing_of_any (Needs (OpenBy number lent items) ∷ stack) less = omega arith
  nothing_of_any (Needs (AliasOf number lent items) ∷ stack) less = omega arith
  nothing_of_any (NeedsPlace place ∷ stack) less = omega arith
  nothing_of_any (Discard ∷ stack) less = omega arith
  nothing_of_any (Rest items ∷ stack) less = omega arith
  nothing_of_any (Join ∷ stack) less = omega arith
  nothing_of_any (Loop condition body ∷ stack) less = omega arith
  nothing_of_any (CloseRegion region home ∷ stack) less = omega arith
  nothing_of_any (CloseLexical region ∷ stack) less = omega arith
  nothing_of_any (EndLoan lent ∷ stack) less = omega arith
  nothing_of_any (Handler handler ∷ stack) less = omega arith
  nothing_of_any (Caller outer ∷ stack) less = omega arith
  nothing_of_any (Main ∷ stack) less = omega arith

  nothing_of_kind : (k : Kind) (n : Option ℕ) (stack : List Entry) → stack_cost m costs Nothing stack ≤ stack_cost m costs (OfKind k n) stack
  nothing_of_kind k n [] = omega arith
  nothing_of_kind k n (Needs (ConvertTo from to target) ∷ stack) = omega arith
  nothing_of_kind k n (Needs (Operate operator) ∷ stack) = omega arith
  nothing_of_kind k n (Needs (Chain rest) ∷ stack) = omega arith
  nothing_of_kind k n (Needs (Apply operator operand) ∷ stack) = omega arith
  nothing_of_kind k n (Needs (ApplyPointer peek operator operand) ∷ stack) = omega arith
  nothing_of_kind k n (Needs Decide ∷ stack) = omega arith
  nothing_of_kind k n (Needs (Store place) ∷ stack) = omega arith
  nothing_of_kind k n (Needs (StoreCell peek place) ∷ stack) = omega arith
  nothing_of_kind k n (Needs (Pass callee before later) ∷ stack) = omega arith
  nothing_of_kind k n (Needs (Follow pointer target) ∷ stack) = omega arith
  nothing_of_kind k n (Needs (FollowMember pointer fields field) ∷ stack) = omega arith
  nothing_of_kind k n (Needs (Index peek target index) ∷ stack) = omega arith
  nothing_of_kind k n (Needs (Advance peek target base) ∷ stack) = omega arith
  nothing_of_kind k n (Needs CountElements ∷ stack) = omega arith
  nothing_of_kind k n (Needs FreeObject ∷ stack) = omega arith
  nothing_of_kind k n (Needs CloseByKey ∷ stack) = omega arith
  nothing_of_kind k n (Needs (PlaceBy initial) ∷ stack) = omega arith
  nothing_of_kind k n (Needs (BesideHandle region) ∷ stack) = omega arith
  nothing_of_kind k n (Needs (MakePlain owner kind) ∷ stack) = omega arith
  nothing_of_kind k n (Needs (MakeFields owner before fields) ∷ stack) = omega (arith, fields_least m costs (site_of_owner owner) (suc (length before)) (following k (bytes_before before)) fields)
  nothing_of_kind k n (Needs (MakeArray owner level kind element) ∷ stack) = omega (arith, array_least m costs (site_of_owner owner) kind (expression_cost m costs element) n)
  nothing_of_kind k n (Needs (FillElement object count index level kind element) ∷ stack) = omega arith
  nothing_of_kind k n (Needs (Initialise number kind items) ∷ stack) = omega arith
  nothing_of_kind k n (Needs (Choose first second) ∷ stack) = omega arith
  nothing_of_kind k n (Needs (Test condition body) ∷ stack) = omega arith
  nothing_of_kind k n (Needs Return ∷ stack) = omega arith
  nothing_of_kind k n (Needs (ThrowWith tag) ∷ stack) = omega arith
  nothing_of_kind k n (Needs (OpenBy number lent items) ∷ stack) = omega arith
  nothing_of_kind k n (Needs (AliasOf number lent items) ∷ stack) = omega arith
  nothing_of_kind k n (NeedsPlace place ∷ stack) = omega arith
  nothing_of_kind k n (Discard ∷ stack) = omega arith
  nothing_of_kind k n (Rest items ∷ stack) = omega arith
  nothing_of_kind k n (Join ∷ stack) = omega arith
  nothing_of_kind k n (Loop condition body ∷ stack) = omega arith
  nothing_of_kind k n (CloseRegion region home ∷ stack) = omega arith
  nothing_of_kind k n (CloseLexical region ∷ stack) = omega arith
  nothing_of_kind k n (EndLoan lent ∷ stack) = omega arith
  nothing_of_kind k n (Handler handler ∷ stack) = omega arith
  nothing_of_kind k n (Caller outer ∷ stack) = omega arith
  nothing_of_kind k n (Main ∷ stack) = omega arith

  pub nothing : (d : Delivery) (stack : List Entry) → stack_cost m costs d stack < too_many → stack_cost m costs Nothing stack ≤ stack_cost m costs d stack
  nothing Nothing stack less = omega arith
  nothing Anything stack less = nothing_of_any stack less
  nothing (OfKind k n) stack less = nothing_of_kind k n stack

  -- the cost of a stack does not increase if more facts are known about the value passed to the stack
  pub known : (k : Kind) (n : Option ℕ) (stack : List Entry) → stack_cost m costs Anything stack < too_many → stack_cost m costs (OfKind k n) stack ≤ stack_cost m costs Anything stack
  known k n [] less = omega arith
  known k n (Needs (ConvertTo from to target) ∷ stack) less = omega arith
  known k n (Needs (Operate operator) ∷ stack) less = omega arith
  known k n (Needs (Chain rest) ∷ stack) less = omega arith
  known k n (Needs (Apply operator operand) ∷ stack) less = omega arith
  known k n (Needs (ApplyPointer peek operator operand) ∷ stack) less = omega arith
  known k n (Needs Decide ∷ stack) less = omega arith
  known k n (Needs (Store place) ∷ stack) less = omega arith
  known k n (Needs (StoreCell peek place) ∷ stack) less = omega arith
  known k n (Needs (Pass callee before later) ∷ stack) less = omega arith
  known k n (Needs (Follow pointer target) ∷ stack) less = omega arith
  known k n (Needs (FollowMember pointer fields field) ∷ stack) less = omega arith
  known k n (Needs (Index peek target index) ∷ stack) less = omega arith
  known k n (Needs (Advance peek target base) ∷ stack) less = omega arith
  known k n (Needs CountElements ∷ stack) less = omega arith
  known k n (Needs FreeObject ∷ stack) less = omega arith
  known k n (Needs CloseByKey ∷ stack) less = omega arith
  known k n (Needs (PlaceBy initial) ∷ stack) less = omega arith
  known k n (Needs (BesideHandle region) ∷ stack) less = omega arith
  known k n (Needs (MakePlain owner kind) ∷ stack) less = omega arith
  known k n (Needs (MakeFields owner before fields) ∷ stack) less = absurd (omega (arith, less))
  known k n (Needs (MakeArray owner level kind element) ∷ stack) less = omega (arith, array_known m (site_of_owner owner) kind (expression_cost m costs element) n)
  known k n (Needs (FillElement object count index level kind element) ∷ stack) less = omega arith
  known k n (Needs (Initialise number kind items) ∷ stack) less = omega arith
  known k n (Needs (Choose first second) ∷ stack) less = omega arith
  known k n (Needs (Test condition body) ∷ stack) less = omega arith
  known k n (Needs Return ∷ stack) less = omega arith
  known k n (Needs (ThrowWith tag) ∷ stack) less = omega arith
  known k n (Needs (OpenBy number lent items) ∷ stack) less = omega arith
  known k n (Needs (AliasOf number lent items) ∷ stack) less = omega arith
  known k n (NeedsPlace place ∷ stack) less = omega arith
  known k n (Discard ∷ stack) less = omega arith
  known k n (Rest items ∷ stack) less = omega arith
  known k n (Join ∷ stack) less = omega arith
  known k n (Loop condition body ∷ stack) less = omega arith
  known k n (CloseRegion region home ∷ stack) less = omega arith
  known k n (CloseLexical region ∷ stack) less = omega arith
  known k n (EndLoan lent ∷ stack) less = omega arith
  known k n (Handler handler ∷ stack) less = omega arith
  known k n (Caller outer ∷ stack) less = omega arith
  known k n (Main ∷ stack) less = omega arith

  pub kept : (k : Kind) (n : Option ℕ) (stack : List Entry) → stack_cost m costs (OfKind k n) stack ≤ stack_cost m costs (OfKind k None) stack
  kept k n [] = omega arith
  kept k n (Needs (ConvertTo from to target) ∷ stack) = omega arith
  kept k n (Needs (Operate operator) ∷ stack) = omega arith
  kept k n (Needs (Chain rest) ∷ stack) = omega arith
  kept k n (Needs (Apply operator operand) ∷ stack) = omega arith
  kept k n (Needs (ApplyPointer peek operator operand) ∷ stack) = omega arith
  kept k n (Needs Decide ∷ stack) = omega arith
  kept k n (Needs (Store place) ∷ stack) = omega arith
  kept k n (Needs (StoreCell peek place) ∷ stack) = omega arith
  kept k n (Needs (Pass callee before later) ∷ stack) = omega arith
  kept k n (Needs (Follow pointer target) ∷ stack) = omega arith
  kept k n (Needs (FollowMember pointer fields field) ∷ stack) = omega arith
  kept k n (Needs (Index peek target index) ∷ stack) = omega arith
  kept k n (Needs (Advance peek target base) ∷ stack) = omega arith
  kept k n (Needs CountElements ∷ stack) = omega arith
  kept k n (Needs FreeObject ∷ stack) = omega arith
  kept k n (Needs CloseByKey ∷ stack) = omega arith
  kept k n (Needs (PlaceBy initial) ∷ stack) = omega arith
  kept k n (Needs (BesideHandle region) ∷ stack) = omega arith
  kept k n (Needs (MakePlain owner kind) ∷ stack) = omega arith
  kept k n (Needs (MakeFields owner before fields) ∷ stack) = omega arith
  kept k n (Needs (MakeArray owner level kind element) ∷ stack) = omega (arith, array_known m (site_of_owner owner) kind (expression_cost m costs element) n)
  kept k n (Needs (FillElement object count index level kind element) ∷ stack) = omega arith
  kept k n (Needs (Initialise number kind items) ∷ stack) = omega arith
  kept k n (Needs (Choose first second) ∷ stack) = omega arith
  kept k n (Needs (Test condition body) ∷ stack) = omega arith
  kept k n (Needs Return ∷ stack) = omega arith
  kept k n (Needs (ThrowWith tag) ∷ stack) = omega arith
  kept k n (Needs (OpenBy number lent items) ∷ stack) = omega arith
  kept k n (Needs (AliasOf number lent items) ∷ stack) = omega arith
  kept k n (NeedsPlace place ∷ stack) = omega arith
  kept k n (Discard ∷ stack) = omega arith
  kept k n (Rest items ∷ stack) = omega arith
  kept k n (Join ∷ stack) = omega arith
  kept k n (Loop condition body ∷ stack) = omega arith
  kept k n (CloseRegion region home ∷ stack) = omega arith
  kept k n (CloseLexical region ∷ stack) = omega arith
  kept k n (EndLoan lent ∷ stack) = omega arith
  kept k n (Handler handler ∷ stack) = omega arith
  kept k n (Caller outer ∷ stack) = omega arith
  kept k n (Main ∷ stack) = omega arith

-- ---- classes of blocks

pub class_from-here : (left class size : ℕ) → 0 < left → size ≤ 2 ^ class → class_from left class size ≡ class
class_from-here zero class size some fits = absurd (omega (arith, some))
class_from-here (suc left) class size some fits = ap (λ (b : Bool). if b then class else class_from left (suc class) size) (le-leb size (2 ^ class) fits)

pub class_from-next : (left class less next size : ℕ) → left ≡ suc less → next ≡ suc class → 2 ^ class < size → class_from left class size ≡ class_from less next size
class_from-next left class less next size one_less one_more past =
    ap (λ (n : ℕ). class_from n class size) one_less
    ∙ (ap (λ (b : Bool). if b then class else class_from less (suc class) size) (lt-leb size (2 ^ class) past) ∙ ap (λ (n : ℕ). class_from less n size) (sym one_more))
