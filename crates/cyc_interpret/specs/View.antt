-- The view of the code's states: those that the definition speaks of. This project's own choice.
use Rattle.std.specs.Prelude.{ℕ, List, [], ◌∷◌, map, reverse, drop, Option, None, Some, option_map, slice_get}
use Rattle.cyc_words.specs.Ending.{Returned, Uncaught, Full}
use Rattle.cyc_types.specs.declared.typed.Kind.TheVariants as kinds
use Rattle.cyc_types.specs.TypeView.{view_ty}
use Rattle.cyc_types.specs.TypedTreeView.{view_expression, view_dereference, view_initial, view_side, view_converted, view_statement, view_function, arguments_of, operations_of, items_of, clauses_of, default_of}
use Rattle.cyc_meaning.specs.Values.{Thin, kind_of}
use Rattle.cyc_meaning.specs.Parts.{target_by}
use Rattle.cyc_meaning.specs.Allocation.{writes_from}
use Rattle.cyc_meaning.specs.State.{World, Environment, ConvertTo, Operate, Chain, Apply, ApplyPointer, Decide, Store, StoreCell, Pass, Follow, FollowMember, Index, Advance, CountElements, FreeObject, CloseByKey, PlaceBy, BesideHandle}
use Rattle.cyc_meaning.specs.State.{MakePlain, MakeFields, MakeArray, FillElement, Initialise, Choose, Test, Return, ThrowWith, OpenBy, AliasOf, LoadFrom, TakeAddress, StoreTo, SwapLeft, SwapRight}
use Rattle.cyc_meaning.specs.State.{Entry, Needs, NeedsPlace, Discard, Rest, Join, Loop, CloseRegion, CloseLexical, EndLoan, Handler, Caller, Main}
use Rattle.cyc_meaning.specs.State.{Focus, Evaluating, Locating, Given, GivenPlace, Executing, Proceeding, Calling, Entering, Binding, Naming, Writing, Beginning, Repeating, Swapping, Breaking, Continuing, Returning, Throwing, Catching}
use Rattle.cyc_meaning.specs.State.{State, Running, Ended, Dead, Wrong}
use Rattle.cyc_interpret.specs.WorldView.{view_value, view_operand, operands_of, view_write, view_region, view_owner, view_object}
use Rattle.cyc_interpret.specs.declared.world.World.{World as WorldCode}
use Rattle.cyc_interpret.specs.declared.entry.Environment.{Environment as EnvironmentCode}
use Rattle.cyc_interpret.specs.declared.entry.Entry.{Entry as EntryCode}
use Rattle.cyc_interpret.specs.declared.entry.Entry.TheVariants as entry
use Rattle.cyc_interpret.specs.declared.entry.Over.{Over}
use Rattle.cyc_interpret.specs.declared.entry.Over.TheVariants as over
use Rattle.cyc_interpret.specs.declared.entry.Focus.{Focus as FocusCode}
use Rattle.cyc_interpret.specs.declared.entry.Focus.TheVariants as focus
use Rattle.cyc_interpret.specs.declared.entry.Phase.{Phase}
use Rattle.cyc_interpret.specs.declared.entry.Phase.TheVariants as phase
use Rattle.cyc_interpret.specs.declared.machine.Machine.{Machine}

-- ---- the world

abbrev pub view_world : WorldCode → World
view_world w = record {
  regions = map view_region w.regions.items;
  objects = map view_object w.objects.items;
  classes = w.classes;
  output = w.output.items;
  input = drop w.read w.input.items;
}

-- ---- the environment

abbrev pub flat : Option (Option ℕ) → Option ℕ
flat None = None
flat (Some found) = found

abbrev pub view_environment : EnvironmentCode → Environment
view_environment e = record {
  locals = λ (number : ℕ). flat (slice_get e.locals.items number);
  home = e.home;
  counters = λ (level : ℕ). flat (slice_get e.counters.items level);
}

-- ---- the stack

abbrev pub view_entry : EntryCode → Entry
view_entry (entry.ConvertTo from to value) = Needs (ConvertTo from to (target_by (view_expression value.now)))
view_entry (entry.Operate operator) = Needs (Operate operator)
view_entry (entry.Chain rest from) = Needs (Chain (operations_of (drop from rest.now.items)))
view_entry (entry.Apply operator left) = Needs (Apply operator (view_operand left))
view_entry (entry.ApplyPointer peek operator left) = Needs (ApplyPointer peek operator (view_operand left))
view_entry entry.Decide = Needs Decide
view_entry (entry.Store object) = Needs (Store (Thin object 0))
view_entry (entry.StoreCell peek place) = Needs (StoreCell peek (view_value place))
view_entry (entry.Pass callee at before arguments from) = Needs (Pass callee (reverse (operands_of before.items)) (arguments_of (drop from arguments.now.items)))
view_entry (entry.Follow pointer target) = Needs (Follow pointer target)
view_entry (entry.FollowMember pointer fields field) = Needs (FollowMember pointer (map kind_of (map view_ty fields.now.items)) field)
view_entry (entry.Index peek target index) = Needs (Index peek target (view_expression index.now))
view_entry (entry.Advance peek target base) = Needs (Advance peek target (view_operand base))
view_entry entry.CountElements = Needs CountElements
view_entry entry.FreeObject = Needs FreeObject
view_entry entry.CloseByKey = Needs CloseByKey
view_entry (entry.PlaceBy initial) = Needs (PlaceBy (view_initial initial.now))
view_entry (entry.BesideHandle region) = Needs (BesideHandle region)
view_entry (entry.MakePlain owner kind) = Needs (MakePlain (view_owner owner) kind)
view_entry (entry.MakeFields owner before fields from) = Needs (MakeFields (view_owner owner) (reverse (operands_of before.items)) (arguments_of (drop from fields.now.items)))
view_entry (entry.MakeArray owner level kind element) = Needs (MakeArray (view_owner owner) level kind (view_expression element.now))
view_entry (entry.FillElement slot kind element) = Needs (FillElement slot.object slot.count slot.index slot.level kind (view_expression element.now))
view_entry (entry.Initialise number kind items from) = Needs (Initialise number kind (items_of (drop from items.now.items)))
view_entry (entry.Choose first second) = Needs (Choose (view_statement first.now) (view_statement second.now))
view_entry (entry.Test condition body) = Needs (Test (view_expression condition.now) (view_statement body.now))
view_entry entry.Return = Needs Return
view_entry (entry.ThrowWith tag) = Needs (ThrowWith tag)
view_entry (entry.OpenBy number lent items from) = Needs (OpenBy number lent (items_of (drop from items.now.items)))
view_entry (entry.AliasOf number lent items from) = Needs (AliasOf number lent (items_of (drop from items.now.items)))
view_entry (entry.LoadFrom kind) = NeedsPlace (LoadFrom kind)
view_entry entry.TakeAddress = NeedsPlace TakeAddress
view_entry (entry.StoreTo peek value) = NeedsPlace (StoreTo peek (view_converted value.now))
view_entry (entry.SwapLeft kind peek right) = NeedsPlace (SwapLeft kind peek (view_side right.now))
view_entry (entry.SwapRight kind peek is_cell left) = NeedsPlace (SwapRight kind peek is_cell (view_value left))
view_entry entry.Discard = Discard
view_entry (entry.Rest items from) = Rest (items_of (drop from items.now.items))
view_entry entry.Join = Join
view_entry (entry.Loop condition body) = Loop (view_expression condition.now) (view_statement body.now)
view_entry (entry.CloseRegion region home) = CloseRegion region home
view_entry (entry.CloseLexical region) = CloseLexical region
view_entry (entry.EndLoan lent) = EndLoan lent
view_entry (entry.Handler clauses from default) = Handler (clauses_of (drop from clauses.now.items) (default_of default.now))
view_entry (entry.Caller environment number at) = Caller (view_environment environment)
view_entry entry.Main = Main

-- The newest entry is the last of the list.
abbrev pub view_stack : List EntryCode → List Entry
view_stack es = reverse (map view_entry es)

-- ---- states

abbrev pub view_over : Over → World → State
view_over (over.Returned n) w = Ended (Returned n) w.output w.input
view_over (over.Uncaught tag n) w = Ended (Uncaught tag n) w.output w.input
view_over over.Full w = Ended Full w.output w.input
view_over over.Dead w = Dead w.output w.input
view_over over.Wrong w = Wrong w.output w.input

abbrev pub view_focus : FocusCode → Focus
view_focus (focus.Evaluating value) = Evaluating (view_expression value.now)
view_focus (focus.Locating place) = Locating (view_dereference place.now)
view_focus (focus.Given operand) = Given (view_operand operand)
view_focus (focus.GivenPlace place) = GivenPlace (view_value place)
view_focus (focus.Executing statement) = Executing (view_statement statement.now)
view_focus focus.Proceeding = Proceeding
view_focus (focus.Calling callee at arguments) = Calling callee (reverse (operands_of arguments.items))
view_focus (focus.Entering function arguments) = Entering (view_function function.now) (operands_of arguments.items)
view_focus (focus.Binding number function arguments) =
    Binding number (map view_ty (drop number function.now.parameters.items)) (operands_of (drop number arguments.items)) (items_of function.now.body.items)
view_focus (focus.Naming number operand items from) = Naming number (view_operand operand) (items_of (drop from items.now.items))
view_focus (focus.Filling object values from) = Writing (writes_from object from (operands_of (drop from values.items))) (Some (record { kind = kinds.NonNull; value = Thin object 0 }))
view_focus (focus.Exchanging first second) = Writing (view_write first ∷ view_write second ∷ []) None
view_focus (focus.Restoring last) = Writing (view_write last ∷ []) None
view_focus focus.Exchanged = Writing [] None
view_focus (focus.Beginning owner count level kind element) = Beginning (view_owner owner) count level kind (view_expression element.now)
view_focus (focus.Repeating progress kind element) = Repeating progress.object progress.count progress.index progress.level kind (view_expression element.now)
view_focus (focus.Swapping kind left right before) = Swapping kind (view_value left) (view_value right) (option_map view_operand before)
view_focus focus.Breaking = Breaking
view_focus focus.Continuing = Continuing
view_focus (focus.Returning value) = Returning (option_map view_operand value)
view_focus (focus.Throwing tag value) = Throwing tag value
view_focus (focus.Catching tag value clauses from default) = Catching tag value (clauses_of (drop from clauses.now.items) (default_of default.now))

abbrev pub view_phase : Phase → List Entry → Environment → World → State
view_phase (phase.Running f) stack e w = Running (view_focus f) stack e w
view_phase (phase.Over end) stack e w = view_over end w

abbrev pub stack_of : Machine → List Entry
stack_of m = view_stack m.stack.items

abbrev pub environment_of : Machine → Environment
environment_of m = view_environment m.environment

abbrev pub world_of : Machine → World
world_of m = view_world m.world

abbrev pub state_of : Machine → State
state_of m = view_phase m.phase (stack_of m) (environment_of m) (world_of m)
