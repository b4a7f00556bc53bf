-- In each state of a run, its remaining cost is that of the focus (next action) plus those of all stack entries down to `main`. No step
-- raises the remaining cost, and a step that allocates lowers it by the cost of the allocation. Each stack entry costs at least the step
-- that pops it. The definition of remaining costs is this project's own choice.
use Rattle.std.specs.Prelude.{ℕ, zero, suc, ◌+◌, ◌*◌, ◌-◌, nat_le, if◌then◌else◌, max, ◌≤◌, List, [], ◌∷◌, length, Option, None, Some}
use Rattle.cyc_types.specs.declared.typed.Kind.{Kind}
use Rattle.cyc_types.specs.declared.typed.Kind.TheVariants as kinds
use Rattle.cyc_types.specs.TypedTrees.{Expression}
use Rattle.cyc_meaning.specs.Values.{Value, Int, Operand, bytes_of_kind, following, block_size}
use Rattle.cyc_meaning.specs.State.{Sort, Heap, Lexical, Dynamic, Region, Owner, InRegion, Unique, Object, World, Awaiting, ConvertTo, Chain, Pass, Index, Advance, PlaceBy, MakePlain, MakeFields, MakeArray}
use Rattle.cyc_meaning.specs.State.{FillElement, Initialise, Choose, Test, OpenBy, AliasOf, AwaitingPlace, StoreTo, SwapLeft, SwapRight, Entry, Needs, NeedsPlace, Rest, Loop, Handler, Focus, Evaluating, Locating}
use Rattle.cyc_meaning.specs.State.{Given, Executing, Calling, Entering, Binding, Naming, Writing, Beginning, Repeating, Swapping, Breaking, Continuing, Returning, Throwing, Catching, State, Running, Ended, Dead, Wrong}
use Rattle.cyc_bound.specs.declared.costs.Measure.{Measure}
use Rattle.cyc_bound.specs.declared.costs.Site.{Site}
use Rattle.cyc_bound.specs.declared.costs.Site.TheVariants as sites
use Rattle.cyc_bound.specs.Costs.{too_many, step_cost, opening_cost, lasting_cost, block_cost, size_of_bytes, written_length, plain_cost, elements_cost, array_cost, callee_cost, expression_cost}
use Rattle.cyc_bound.specs.Costs.{place_cost, initial_cost, fields_cost, converted_cost, arguments_cost, operations_cost, side_cost, loop_cost, statement_cost, items_cost, clauses_cost, function_cost}

-- ---- what is known of an awaited value

-- the facts about the value that a stack entry will receive: no value, an unknown one, or one of a known
-- representation kind (for an int, possibly its number)
pub data Delivery : Type 0 where
  Nothing : Delivery
  Anything : Delivery
  OfKind : Kind → Option ℕ → Delivery

abbrev pub delivered_number : Option ℕ → Delivery
delivered_number None = Anything
delivered_number (Some n) = OfKind kinds.Int (Some n)

abbrev pub delivered_by : Expression → Delivery
delivered_by a = delivered_number (written_length a)

abbrev pub number_of : Value → Option ℕ
number_of (Int n) = Some n
number_of value = None

abbrev pub focus_delivers : Focus → Delivery
focus_delivers (Evaluating a) = delivered_by a
focus_delivers (Given v) = OfKind v.kind (number_of v.value)
focus_delivers Breaking = Nothing
focus_delivers Continuing = Nothing
focus_delivers (Returning value) = Nothing
focus_delivers (Throwing tag value) = Nothing
focus_delivers focus = Anything

-- the facts about the value that a stack entry passes to the next entry
abbrev pub entry_delivers : Entry → Delivery
entry_delivers (Needs (ConvertTo from to target)) = OfKind to None
entry_delivers entry = Anything

-- ---- entries

-- the allocation site of an object, from its owner; region 0 is the heap
abbrev pub site_of_owner : Owner → Site
site_of_owner (InRegion zero) = sites.Heap
site_of_owner (InRegion (suc region)) = sites.Region
site_of_owner (Unique live) = sites.Unique

-- the number of bytes of struct fields, computed from the list of the field values, in which the last field comes first
abbrev pub bytes_before : List Operand → ℕ
bytes_before [] = 0
bytes_before (v ∷ before) = following v.kind (bytes_before before)

-- The cost of a struct field for whose value a stack entry waits. If no value is passed to the entry, the cost is one step. If the
-- representation kind of the value (int, char, pointer, ..) is unknown, the cost is the greatest counted value.
abbrev pub field_awaited : Measure → (fields : Kind → ℕ) → Delivery → ℕ
field_awaited m fields Nothing = step_cost m
field_awaited m fields Anything = too_many
field_awaited m fields (OfKind kind n) = fields kind

abbrev pub length_awaited : Measure → (array : Option ℕ → ℕ) → Delivery → ℕ
length_awaited m array Nothing = step_cost m
length_awaited m array Anything = array None
length_awaited m array (OfKind kind n) = array n

-- the cost of the array elements from index `index` on
abbrev pub elements_left : Measure → (element count index : ℕ) → ℕ
elements_left m element count index = if nat_le index count then (count - index) * (step_cost m + element) + 2 * step_cost m else too_many

abbrev pub awaiting_cost : Measure → (costs : List ℕ) → Delivery → Awaiting → ℕ
awaiting_cost m costs d (Chain rest) = operations_cost m costs rest + step_cost m
awaiting_cost m costs d (Pass callee before arguments) = arguments_cost m costs arguments + callee_cost m costs callee
awaiting_cost m costs d (Index peek target index) = expression_cost m costs index + 2 * step_cost m
awaiting_cost m costs d (Advance peek target base) = 2 * step_cost m
awaiting_cost m costs d (PlaceBy initial) = initial_cost m costs sites.Region initial + step_cost m
awaiting_cost m costs d (MakePlain owner kind) = plain_cost m (site_of_owner owner) kind
awaiting_cost m costs d (MakeFields owner before fields) =
    field_awaited m (λ (kind : Kind). fields_cost m costs (site_of_owner owner) (suc (length before)) (following kind (bytes_before before)) fields) d
awaiting_cost m costs d (MakeArray owner level kind element) =
    length_awaited m (λ (n : Option ℕ). array_cost m (site_of_owner owner) kind (expression_cost m costs element) n) d
awaiting_cost m costs d (FillElement object count index level kind element) = elements_left m (expression_cost m costs element) count (suc index)
awaiting_cost m costs d (Initialise number kind items) = step_cost m + items_cost m costs items
awaiting_cost m costs d (Choose first second) = step_cost m + max (statement_cost m costs first) (statement_cost m costs second)
awaiting_cost m costs d (Test condition body) = loop_cost (step_cost m + (expression_cost m costs condition + statement_cost m costs body))
awaiting_cost m costs d (OpenBy number lent items) = 3 * step_cost m + items_cost m costs items
awaiting_cost m costs d (AliasOf number lent items) = 3 * step_cost m + items_cost m costs items
awaiting_cost m costs d waiting = step_cost m

abbrev pub awaiting_place_cost : Measure → (costs : List ℕ) → AwaitingPlace → ℕ
awaiting_place_cost m costs (StoreTo peek value) = converted_cost m costs value + step_cost m
awaiting_place_cost m costs (SwapLeft kind peek right) = side_cost m costs right + 6 * step_cost m
awaiting_place_cost m costs (SwapRight kind peek is_cell left) = 6 * step_cost m
awaiting_place_cost m costs waiting = step_cost m

abbrev pub entry_cost : Measure → (costs : List ℕ) → Delivery → Entry → ℕ
entry_cost m costs d (Needs waiting) = awaiting_cost m costs d waiting
entry_cost m costs d (NeedsPlace waiting) = awaiting_place_cost m costs waiting
entry_cost m costs d (Rest items) = items_cost m costs items
entry_cost m costs d (Loop condition body) = loop_cost (step_cost m + (expression_cost m costs condition + statement_cost m costs body))
entry_cost m costs d (Handler clauses) = clauses_cost m costs clauses
entry_cost m costs d entry = step_cost m

abbrev pub stack_cost : Measure → (costs : List ℕ) → Delivery → List Entry → ℕ
stack_cost m costs d [] = 0
stack_cost m costs d (entry ∷ stack) = entry_cost m costs d entry + stack_cost m costs (entry_delivers entry) stack

-- ---- the cost of the focus

abbrev pub swapping_cost : Measure → Option Operand → ℕ
swapping_cost m None = 6 * step_cost m
swapping_cost m (Some before) = 5 * step_cost m

abbrev pub focus_cost : Measure → (costs : List ℕ) → Focus → ℕ
focus_cost m costs (Evaluating a) = expression_cost m costs a
focus_cost m costs (Locating d) = place_cost m costs d
focus_cost m costs (Executing s) = statement_cost m costs s
focus_cost m costs (Calling callee arguments) = callee_cost m costs callee
focus_cost m costs (Entering h arguments) = function_cost m costs h
focus_cost m costs (Binding number types arguments body) = length types * step_cost m + (2 * step_cost m + items_cost m costs body)
focus_cost m costs (Naming number operand items) = 2 * step_cost m + items_cost m costs items
focus_cost m costs (Writing writes result) = length writes * step_cost m + 2 * step_cost m
focus_cost m costs (Beginning owner count level kind element) =
    elements_cost m (expression_cost m costs element) count + block_cost m (site_of_owner owner) (size_of_bytes (count * bytes_of_kind kind))
focus_cost m costs (Repeating object count index level kind element) = elements_left m (expression_cost m costs element) count index
focus_cost m costs (Swapping kind left right before) = swapping_cost m before
focus_cost m costs (Catching tag value clauses) = clauses_cost m costs clauses
focus_cost m costs focus = step_cost m

-- ---- spent costs

abbrev pub blocks_spent : Measure → Site → List ℕ → ℕ
blocks_spent m site [] = 0
blocks_spent m site (size ∷ sizes) = block_cost m site size + blocks_spent m site sizes

abbrev pub sort_spent : Measure → Sort → ℕ
sort_spent m Heap = opening_cost m
sort_spent m Lexical = opening_cost m
sort_spent m Dynamic = opening_cost m + lasting_cost m
sort_spent m sort = 0

-- The resources used by all regions opened so far and by their blocks, including closed regions. The first region has the given
-- allocation site, and the blocks of all other regions are allocated by handles.
abbrev pub regions_spent : Measure → Site → List Region → ℕ
regions_spent m site [] = 0
regions_spent m site (r ∷ regions) = sort_spent m r.sort + (blocks_spent m site r.blocks + regions_spent m sites.Region regions)

abbrev pub object_spent : Measure → Owner → (size : ℕ) → ℕ
object_spent m (InRegion region) size = 0
object_spent m (Unique live) size = block_cost m sites.Unique size

-- the resources used by all unique objects allocated so far, including freed ones
abbrev pub objects_spent : Measure → List Object → ℕ
objects_spent m [] = 0
objects_spent m (x ∷ objects) = object_spent m x.owner (block_size x.cells) + objects_spent m objects

abbrev pub spent : Measure → World → ℕ
spent m w = regions_spent m sites.Heap w.regions + objects_spent m w.objects

-- ---- states

-- says that the used resources, as counted by `counted`, plus the remaining cost are at most `most`
abbrev pub TakesAtMost : (counted : World → ℕ) → Measure → (costs : List ℕ) → (most : ℕ) → State → Type 0
TakesAtMost counted m costs most (Running focus stack e w) = focus_cost m costs focus + (stack_cost m costs (focus_delivers focus) stack + counted w) ≤ most
TakesAtMost counted m costs most (Ended ending output input) = Unit {0}
TakesAtMost counted m costs most (Dead output input) = Unit {0}
TakesAtMost counted m costs most (Wrong output input) = Unit {0}

-- says that the used resources plus the remaining cost are at most `most`
abbrev pub CostsAtMost : Measure → (costs : List ℕ) → (most : ℕ) → State → Type 0
CostsAtMost m costs most s = TakesAtMost (spent m) m costs most s
