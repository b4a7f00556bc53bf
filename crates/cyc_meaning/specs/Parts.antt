-- The parts of which steps are composed: outcomes, and reads, writes and allocations with their checks. Shapes are checked at run time: a
-- cell that is read or written has the kind that the tree states, and so has the stored value. If no case applies, the outcome is `Wrong`;
-- if a step accesses a closed region or a freed object, the outcome is `Dead`. (Grossman et al. 2002 prove that a closed region is not
-- accessed. The form of outcomes and the checks of shapes are this project's own choice.)
use Rattle.std.specs.Prelude.{ℕ, ◌==◌, Bool, true, false, if◌then◌else◌, List, [], ◌∷◌, length, Option, Some, None, slice_get}
use Rattle.cyc_words.specs.Ending.{Ending}
use Rattle.cyc_types.specs.declared.typed.Kind.{Kind}
use Rattle.cyc_types.specs.Types.{Ty, ValueType}
use Rattle.cyc_types.specs.Types as types
use Rattle.cyc_types.specs.TypedTrees.{Lvalue, Local, Global, Expression, type_of}
use Rattle.cyc_meaning.specs.Values.{Value, Thin, Operand, Cell, kind_of, is_kind}
use Rattle.cyc_meaning.specs.Operators.{Result, Gives, Raises, Misfits}
use Rattle.cyc_meaning.specs.Pointers.{Reach, At}
use Rattle.cyc_meaning.specs.State.{Region, Object, World, Access, Found, Closed, Missing, Located, cell_at, closed, variable, made, written, Environment, with_local, Entry, CloseRegion, Write, Focus, Given, Proceeding, Writing, Throwing, State, Running, Ended, Dead, Wrong}

-- ---- outcomes

abbrev pub dead : World → State
dead w = Dead w.output w.input

abbrev pub wrong : World → State
wrong w = Wrong w.output w.input

abbrev pub ends : Ending → World → State
ends ending w = Ended ending w.output w.input

-- Passes a value to the newest entry (continuation) of the control stack.
abbrev pub gives : Kind → Value → List Entry → Environment → World → State
gives kind value stack e w = Running (Given (record { kind = kind; value = value })) stack e w

-- Passes a computed value to the newest continuation, or throws the exception of the computation.
abbrev pub computed : Kind → Result → List Entry → Environment → World → State
computed kind (Gives value) stack e w = gives kind value stack e w
computed kind (Raises tag) stack e w = Running (Throwing tag 0) stack e w
computed kind Misfits stack e w = wrong w

-- ---- cells

-- Returns the object of a variable, if it has one.
abbrev pub object_of : Environment → Lvalue → Option ℕ
object_of e (Local place number) = e.locals number
object_of e (Global number) = Some number

-- Reads the value in a cell; the state becomes wrong if the cell holds nothing yet.
abbrev pub read : Kind → Option Value → List Entry → Environment → World → State
read kind (Some value) stack e w = gives kind value stack e w
read kind None stack e w = wrong w

-- Reads a cell, which must have the given kind.
abbrev pub loaded : Kind → Access Located → List Entry → Environment → World → State
loaded kind (Found at) stack e w = if is_kind at.cell.kind kind then read kind at.cell.content stack e w else wrong w
loaded kind Closed stack e w = dead w
loaded kind Missing stack e w = wrong w

-- Reads the variable whose object is given.
abbrev pub loaded_from : Kind → Option ℕ → List Entry → Environment → World → State
loaded_from kind (Some object) stack e w = loaded kind (cell_at w object 0) stack e w
loaded_from kind None stack e w = wrong w

-- Writes the operand's value into a cell, which must have the operand's kind.
abbrev pub stored : Access Located → (object offset : ℕ) → Operand → Focus → List Entry → Environment → World → State
stored (Found at) object offset operand focus stack e w =
    if is_kind at.cell.kind operand.kind then Running focus stack e (written w object offset at operand.value) else wrong w
stored Closed object offset operand focus stack e w = dead w
stored Missing object offset operand focus stack e w = wrong w

-- Writes the operand's value into the cell that a thin pointer points to.
abbrev pub stored_at : (place : Value) → Operand → Focus → List Entry → Environment → World → State
stored_at (Thin object offset) operand focus stack e w = stored (cell_at w object offset) object offset operand focus stack e w
stored_at place operand focus stack e w = wrong w

-- Writes the cells of a new object, or the two cells of a swap, one by one. After the cells are written, the result value of
-- the expression, if there is one, is passed to the newest continuation frame.
abbrev pub step_writing : List Write → Option Operand → List Entry → Environment → World → State
step_writing [] (Some operand) stack e w = Running (Given operand) stack e w
step_writing [] None stack e w = Running Proceeding stack e w
step_writing (x ∷ writes) result stack e w = stored_at x.place x.operand (Writing writes result) stack e w

-- ---- the target of a pointer

-- Returns the kind of the cell that a pointer to the given type points to. A pointer to a struct points to the
-- struct's first cell, so a struct has no single kind.
abbrev pub target_of : Ty → Option Kind
target_of (types.Struct number regions) = None
target_of t = Some (kind_of t)

-- Returns the kind of cell that a value of the given type points to, if it is a pointer.
abbrev pub target_of_value : ValueType → Option Kind
target_of_value (types.Value (types.Pointer mark t region)) = target_of t
target_of_value v = None

abbrev pub target_by : Expression → Option Kind
target_by a = target_of_value (type_of a)

abbrev pub is_target : (target : Option Kind) → (offset : ℕ) → Option Cell → Bool
is_target (Some kind) offset (Some c) = is_kind c.kind kind
is_target (Some kind) offset None = false
is_target None offset found = offset == 0

abbrev pub cell_of : Option Object → (offset : ℕ) → Option Cell
cell_of None offset = None
cell_of (Some x) offset = slice_get x.cells offset

-- Returns true if the pointer's target has the kind that the tree states, even after the object was freed. An index counts elements, and
-- only the tree states the size of an element.
abbrev pub leads_to : World → (target : Option Kind) → Reach → Bool
leads_to w target (At object offset) = is_target target offset (cell_of (slice_get w.objects object) offset)
leads_to w target reach = true

-- ---- locals

-- Declares a local: it is a new object in the region of the innermost block.
abbrev pub declared : Access Region → Focus → (number : ℕ) → Kind → Option Value → List Entry → Environment → World → State
declared (Found r) focus number kind content stack e w =
    Running focus stack (with_local e number (length w.objects)) (made w (variable e.home kind content))
declared Closed focus number kind content stack e w = dead w
declared Missing focus number kind content stack e w = wrong w

-- ---- regions that contain variables

-- Returns the environment in which new variables are allocated in the region that is opened next.
abbrev pub inside : Environment → World → Environment
inside e w = record e { home = length w.regions }

-- Returns the control-stack entry that closes the region that is opened next.
abbrev pub region_end : Environment → World → Entry
region_end e w = CloseRegion (length w.regions) e.home

-- Closes a region of variables, no matter how its block is left.
abbrev pub closing : Access Region → Focus → (region home : ℕ) → List Entry → Environment → World → State
closing (Found r) focus region home stack e w = Running focus stack (record e { home = home }) (closed w region r)
closing Closed focus region home stack e w = dead w
closing Missing focus region home stack e w = wrong w
