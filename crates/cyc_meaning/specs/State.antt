-- The state of a running program. Regions and objects have indices that are never reused. A closed region or a freed object keeps its
-- index and the values stored in it, and only a flag changes. The regions are those of Grossman et al. (2002). The form of the state, a
-- focus and a control stack, is the field's (CEK machines). The entries of the control stack are this project's own choice.
use Rattle.std.specs.Prelude.{ℕ, suc, ◌==◌, Bool, true, false, if◌then◌else◌, List, [], ◌∷◌, ◌++◌, map, Option, Some, None, slice_get, set}
use Rattle.cyc_words.specs.Ending.{Ending}
use Rattle.cyc_types.specs.declared.typed.Kind.{Kind}
use Rattle.cyc_types.specs.declared.typed.Callee.{Callee}
use Rattle.cyc_types.specs.declared.typed.UnaryOperator.{UnaryOperator}
use Rattle.cyc_types.specs.declared.typed.Operator.{Operator}
use Rattle.cyc_types.specs.declared.typed.PointerOperator.{PointerOperator}
use Rattle.cyc_types.specs.Types.{Ty}
use Rattle.cyc_types.specs.TypedTrees.{Expression, Dereference, Initial, Converted, Arguments, Operations, Side, Statement, Items, Clauses, Constant, Word, GlobalVariable, Function, Program}
use Rattle.cyc_types.specs.TypedTrees as typed
use Rattle.cyc_meaning.specs.Values.{Value, Int, Null, Operand, Cell, kind_of}
use Rattle.cyc_words.specs.Demand.{demand_of}

-- ---- regions and objects

-- The sort of a region: the heap, the region of the globals, the region of the variables of a block or call, or a declared region.
pub data Sort : Type 0 where
  Heap : Sort
  Globals : Sort
  Stack : Sort
  Lexical : Sort
  Dynamic : Sort

pub record Region : Type 0 where
  pub sort : Sort
  pub is_open : Bool
  -- The sizes, in words and in order, of the blocks allocated in the region. The variables of a region are not blocks.
  pub blocks : List ℕ

-- The owner of an object: the region whose end frees the object, or the program's unique pointer to the object.
pub data Owner : Type 0 where
  InRegion : (region : ℕ) → Owner
  Unique : (live : Bool) → Owner

pub record Object : Type 0 where
  pub owner : Owner
  pub cells : List Cell

-- The heap state that all calls share: regions, objects, output and input. Regions and objects are numbered by their
-- positions in the lists of the heap state.
pub record World : Type 0 where
  pub regions : List Region
  pub objects : List Object
  -- For each size class of unique blocks, the pages needed for the largest number of blocks that were live at once so far.
  pub classes : List ℕ
  -- The output so far and the unread input.
  pub output : List ℕ
  pub input : List ℕ

-- The indices of the regions that exist from the start of a run.
abbrev pub heap_number : ℕ
heap_number = 0

abbrev pub globals_number : ℕ
globals_number = 1

-- ---- results of an access

-- The result of an access to a region, object or cell. The accessed one was found, or was closed or freed, or is missing because
-- it was never created.
pub data Access (X : Type 0) : Type 0 where
  Found : X → Access X
  Closed : Access X
  Missing : Access X

abbrev pub found_region : Option Region → Access Region
found_region None = Missing
found_region (Some r) = if r.is_open then Found r else Closed

abbrev pub region_at : World → ℕ → Access Region
region_at w number = found_region (slice_get w.regions number)

abbrev pub is_open : Option Region → Bool
is_open None = false
is_open (Some r) = r.is_open

abbrev pub is_live : World → Owner → Bool
is_live w (InRegion number) = is_open (slice_get w.regions number)
is_live w (Unique live) = live

-- A memory cell together with the object that contains the cell.
pub record Located : Type 0 where
  pub object : Object
  pub cell : Cell

abbrev pub located : Object → Option Cell → Access Located
located x None = Missing
located x (Some c) = Found (record { object = x; cell = c })

abbrev pub cell_in : World → Option Object → (offset : ℕ) → Access Located
cell_in w None offset = Missing
cell_in w (Some x) offset = if is_live w x.owner then located x (slice_get x.cells offset) else Closed

abbrev pub cell_at : World → (object offset : ℕ) → Access Located
cell_at w object offset = cell_in w (slice_get w.objects object) offset

-- ---- changes of the world

-- Returns a new region without blocks.
abbrev pub new_region : Sort → Region
new_region sort = record { sort = sort; is_open = true; blocks = [] }

-- Returns the heap state with one more region of the given sort; the region gets the next unused index.
abbrev pub opened_as : Sort → World → World
opened_as sort w = record w { regions = w.regions ++ new_region sort ∷ [] }

-- A new region for the variables of a block or call.
abbrev pub stack_region : Region
stack_region = new_region Stack

abbrev pub opened : World → World
opened w = opened_as Stack w

abbrev pub closed : World → ℕ → Region → World
closed w number r = record w { regions = set w.regions number (record r { is_open = false }) }

-- Returns the object of a variable: it has one cell, and its owner is the region of the variable's block.
abbrev pub variable : (region : ℕ) → Kind → Option Value → Object
variable region kind content = record { owner = InRegion region; cells = record { kind = kind; content = content } ∷ [] }

-- Returns the heap state with one more object, which gets the next unused index.
abbrev pub made : World → Object → World
made w x = record w { objects = w.objects ++ x ∷ [] }

-- Returns the heap state with a value written into a cell of an object.
abbrev pub written : World → (object offset : ℕ) → Located → Value → World
written w object offset at value = record w {
  objects = set w.objects object (record at.object {
    cells = set at.object.cells offset (record at.cell { content = Some value });
  });
}

-- ---- calls

-- The environment of the running call: the object of each of its locals, the region of the innermost block's variables, and the value
-- of each loop counter. A loop counter of an array initializer is not a variable. If the declaration of a local is executed again, in a
-- later iteration of a loop, then the local gets a new object.
pub record Environment : Type 0 where
  pub locals : ℕ → Option ℕ
  pub home : ℕ
  pub counters : ℕ → Option ℕ

-- The environment of a call whose region is not yet opened.
abbrev pub no_locals : Environment
no_locals = record { locals = λ (number : ℕ). None; home = globals_number; counters = λ (level : ℕ). None }

abbrev pub with_local : Environment → (number object : ℕ) → Environment
with_local e number object = record e {
  locals = λ (other : ℕ). if other == number then Some object else e.locals other;
}

abbrev pub with_counter : Environment → (level index : ℕ) → Environment
with_counter e level index = record e {
  counters = λ (other : ℕ). if other == level then Some index else e.counters other;
}

-- ---- the control stack

-- Continuations that wait for a value, with the operands computed before. If `peek` is a local, a cell or an operand was reached by
-- reading that local's unique pointer without emptying it. A local that was read in this way must not change until the value for
-- which the continuation waits is computed.
pub data Awaiting : Type 0 where
  -- Waits for a value, and then converts it from the representation kind `from` to the kind `to`; a pointer must have the target `target`.
  ConvertTo : (from to : Kind) → (target : Option Kind) → Awaiting
  Operate : UnaryOperator → Awaiting
  -- The remaining operators of a chain such as `a + b - c`. They wait for the value of the operators and operands to their
  -- left in the chain.
  Chain : Operations → Awaiting
  -- Waits for the right operand of an operator, and then applies the operator to the left operand and this value.
  Apply : Operator → (left : Operand) → Awaiting
  ApplyPointer : (peek : Option ℕ) → PointerOperator → (left : Operand) → Awaiting
  -- Waits for the right operand of `&&` or `||`, if the left one did not decide.
  Decide : Awaiting
  -- Waits for a value, and then stores it in a variable, given as a thin pointer, or in a cell found by evaluating a pointer.
  Store : (place : Value) → Awaiting
  StoreCell : (peek : Option ℕ) → (place : Value) → Awaiting
  -- Waits for an argument of a call, with the arguments before it (newest first) and those after it.
  Pass : Callee → (before : List Operand) → Arguments → Awaiting
  -- Waits for the pointer of `*e`, with its representation kind and its target: a cell of a kind, or a struct.
  Follow : (pointer : Kind) → (target : Option Kind) → Awaiting
  -- Waits for the pointer of `e->f`, with the representation kinds of the struct's fields and the index of the field.
  FollowMember : (pointer : Kind) → (fields : List Kind) → (field : ℕ) → Awaiting
  -- Waits for the fat pointer of `e[i]`, and then for the index.
  Index : (peek : Option ℕ) → (target : Option Kind) → (index : Expression) → Awaiting
  Advance : (peek : Option ℕ) → (target : Option Kind) → (base : Operand) → Awaiting
  -- Waits for the operand of `numelts`, of `ufree` or of `free_ukey`.
  CountElements : Awaiting
  FreeObject : Awaiting
  CloseByKey : Awaiting
  -- Waits for the handle of the region in which `rnew` allocates.
  PlaceBy : Initial → Awaiting
  -- Waits for an object that `rnew` allocates in a region. This continuation frame keeps the region's handle while the object's
  -- initial value is evaluated; then the pointer to the object is passed to the next continuation frame.
  BesideHandle : (region : ℕ) → Awaiting
  -- Waits for the value of the only cell of a new object of the given kind, which will be allocated for the given owner.
  MakePlain : Owner → Kind → Awaiting
  -- Waits for a field of a new struct, with the fields before it (newest first) and those after it.
  MakeFields : Owner → (before : List Operand) → Arguments → Awaiting
  -- Waits for the length of a new array, and then for each of its elements.
  MakeArray : Owner → (level : ℕ) → Kind → (element : Expression) → Awaiting
  FillElement : (object count index level : ℕ) → Kind → (element : Expression) → Awaiting
  -- Waits for the initial value of a local. After the local is declared, the rest of the local's block is executed.
  Initialise : (number : ℕ) → Kind → Items → Awaiting
  -- Waits for the condition of an `if` or of a `while`.
  Choose : Statement → Statement → Awaiting
  Test : Expression → Statement → Awaiting
  -- Waits for the returned value of a call.
  Return : Awaiting
  -- Waits for the int of a thrown exception.
  ThrowWith : (tag : ℕ) → Awaiting
  -- Waits for a key or for a unique pointer: a local becomes the handle of the key's region, or an alias of the pointer; the
  -- local `lent` is borrowed.
  OpenBy : (number lent : ℕ) → Items → Awaiting
  AliasOf : (number lent : ℕ) → Items → Awaiting

-- Continuations that wait for the cell that a pointer points to.
pub data AwaitingPlace : Type 0 where
  -- Reads a cell, which must have the given kind.
  LoadFrom : Kind → AwaitingPlace
  TakeAddress : AwaitingPlace
  -- Waits for the cell on the left side of `=`, after which the right side is evaluated.
  StoreTo : (peek : Option ℕ) → Converted → AwaitingPlace
  -- Waits for one operand of a swap of values of the given kind. `SwapLeft` waits for the left operand of a swap, which the right operand
  -- follows. `SwapRight` waits for the right operand of a swap, after the left one, which is a cell or a variable.
  SwapLeft : Kind → (peek : Option ℕ) → (right : Side) → AwaitingPlace
  SwapRight : Kind → (peek : Option ℕ) → (is_cell : Bool) → (left : Value) → AwaitingPlace

pub data Entry : Type 0 where
  Needs : Awaiting → Entry
  NeedsPlace : AwaitingPlace → Entry
  -- Waits for an expression that is evaluated for its effects: its value, if any, is dropped.
  Discard : Entry
  -- The declarations and statements of a block that are still to be executed.
  Rest : Items → Entry
  -- The join point after the branches of an `if`.
  Join : Entry
  -- the loop whose body is being executed
  Loop : Expression → Statement → Entry
  -- Ends a region of variables. After the end of the region, new variables are again declared in the region `home`.
  CloseRegion : (region home : ℕ) → Entry
  -- Ends a lexical region.
  CloseLexical : (region : ℕ) → Entry
  -- Ends a borrowing of a local: its unique object, or the region of its key, was borrowed until the end of the block.
  EndLoan : (lent : ℕ) → Entry
  -- The catch clauses of the `try` whose body is being executed.
  Handler : Clauses → Entry
  -- Ends a call, after which the caller continues with the saved environment.
  Caller : Environment → Entry
  -- Ends the call of `main`.
  Main : Entry

-- A write to a cell: a thin pointer to the cell, and the value to write.
pub record Write : Type 0 where
  pub place : Value
  pub operand : Operand

-- The focus of a state: the next action of the run.
pub data Focus : Type 0 where
  Evaluating : Expression → Focus
  -- Evaluates an expression for a cell that a pointer points to.
  Locating : Dereference → Focus
  -- Passes a value to the newest stack entry; `GivenPlace` passes the location of a cell, as a thin pointer.
  Given : Operand → Focus
  GivenPlace : (place : Value) → Focus
  Executing : Statement → Focus
  -- An action is complete, and the newest stack entry continues.
  Proceeding : Focus
  -- All arguments of a call are evaluated, newest first, and the call follows.
  Calling : Callee → (arguments : List Operand) → Focus
  -- Opens the region of a call, and then declares its parameters as locals with consecutive indices from the given one
  -- on; the arguments are in order.
  Entering : Function → (arguments : List Operand) → Focus
  Binding : (number : ℕ) → List Ty → (arguments : List Operand) → (body : Items) → Focus
  -- Declares a local with the given initial value, and continues with the rest of the block that declares it.
  Naming : (number : ℕ) → Operand → Items → Focus
  -- Writes the cells of a new object, or the two cells of a swap, one by one. After the cells are written, the result value of the
  -- expression, if there is one, is passed to the newest continuation frame.
  Writing : List Write → Option Operand → Focus
  -- Allocates the block of an array of `count` elements, and then evaluates its elements one by one.
  Beginning : Owner → (count level : ℕ) → Kind → (element : Expression) → Focus
  Repeating : (object count index level : ℕ) → Kind → (element : Expression) → Focus
  -- The run has found the left and the right cell of a swap of values of the given kind, and reads them one by one. The optional
  -- operand is the value of the left cell, once that cell was read.
  Swapping : Kind → (left right : Value) → Option Operand → Focus
  -- Pops stack entries, newest first: down to a loop, or to the end of the call.
  Breaking : Focus
  Continuing : Focus
  Returning : Option Operand → Focus
  -- Pops stack entries down to a `try` with a clause that catches the exception.
  Throwing : (tag value : ℕ) → Focus
  Catching : (tag value : ℕ) → Clauses → Focus

-- ---- states

-- The state of a program: running, with a control stack (newest entry first); ended; or one of two outcomes
-- that are not ways for a program to end.
pub data State : Type 0 where
  Running : Focus → (stack : List Entry) → Environment → World → State
  Ended : Ending → (output input : List ℕ) → State
  -- A dead access happened: an access to a closed region, to an object in a closed region, or to a freed object.
  Dead : (output input : List ℕ) → State
  -- No case of the semantics applies, for instance because a cell holds nothing yet or a value has the wrong shape.
  Wrong : (output input : List ℕ) → State

abbrev pub output_of : State → List ℕ
output_of (Running focus stack e w) = w.output
output_of (Ended ending output input) = output
output_of (Dead output input) = output
output_of (Wrong output input) = output

abbrev pub input_of : State → List ℕ
input_of (Running focus stack e w) = w.input
input_of (Ended ending output input) = input
input_of (Dead output input) = input
input_of (Wrong output input) = input

-- The status of a state: the state is running, or the run has ended in a stated way.
pub data Status : Type 0 where
  GoesOn : Status
  HasEnded : Ending → Status
  IsDead : Status
  IsWrong : Status

abbrev pub status_of : State → Status
status_of (Running focus stack e w) = GoesOn
status_of (Ended ending output input) = HasEnded ending
status_of (Dead output input) = IsDead
status_of (Wrong output input) = IsWrong

-- ---- demand and call depth

-- Returns true for the regions that need pages of the store: the heap, and the open ones among the regions that a program declares.
abbrev pub has_pages : Sort → (flag : Bool) → Bool
has_pages Heap flag = true
has_pages Globals flag = false
has_pages Stack flag = false
has_pages Lexical flag = flag
has_pages Dynamic flag = flag

abbrev pub counted : List Region → List (List ℕ)
counted [] = []
counted (r ∷ regions) = if has_pages r.sort r.is_open then r.blocks ∷ counted regions else counted regions

-- Returns the number of pages of the store in use.
abbrev pub demand : State → ℕ
demand (Running focus stack e w) = demand_of (counted w.regions) w.classes
demand (Ended ending output input) = 0
demand (Dead output input) = 0
demand (Wrong output input) = 0

-- Returns the number of active calls, including that of `main`; calls of `putchar` and `getchar` are not counted.
abbrev pub calls_in : List Entry → ℕ
calls_in [] = 0
calls_in (Caller e ∷ stack) = suc (calls_in stack)
calls_in (Main ∷ stack) = suc (calls_in stack)
calls_in (entry ∷ stack) = calls_in stack

abbrev pub depth : State → ℕ
depth (Running focus stack e w) = calls_in stack
depth (Ended ending output input) = 0
depth (Dead output input) = 0
depth (Wrong output input) = 0

-- ---- the start state

abbrev pub constant_value : Constant → Value
constant_value (Word word) = Int word
constant_value typed.Null = Null

abbrev pub global_object : GlobalVariable → Object
global_object g = variable globals_number (kind_of g.of_type) (Some (constant_value g.value))

-- The regions that exist at the start: the heap and the region of the globals.
abbrev pub first_regions : List Region
first_regions = new_region Heap ∷ new_region Globals ∷ []

-- At the start no size class of unique blocks has pages; the classes are those of 1, 2, 4 and so on up to 1,024 words.
abbrev pub first_classes : List ℕ
first_classes = 0 ∷ 0 ∷ 0 ∷ 0 ∷ 0 ∷ 0 ∷ 0 ∷ 0 ∷ 0 ∷ 0 ∷ 0 ∷ []

-- Returns the heap state at the start of a run; the object of each global has the same index as the global.
abbrev pub first_world : Program → (input : List ℕ) → World
first_world program input = record {
  regions = first_regions;
  objects = map global_object program.globals;
  classes = first_classes;
  output = [];
  input = input;
}
