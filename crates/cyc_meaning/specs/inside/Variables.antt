-- The live variables of blocks: each is a local of one active call. If a local is declared again, its former object was in a block that was
-- left. The former object is out of scope because of the indices of locals in the text: the indices of a block's locals are above the
-- indices of the locals in scope around the block. The invariant on live variables is this project's own choice.
use Rattle.std.specs.Prelude.{◌≡◌, ◌⊎◌, ℕ, suc, ◌+◌, ◌<◌, ◌≤◌, Bool, true, false, List, [], ◌∷◌, length, Option, Some, None, slice_get}
use Rattle.cyc_types.specs.TypedTrees.{Statement, Block, If, While, Try, Items, NoItems, MoreItems, Execute, Declare, DeclareRegion, OpenRegion, DeclareAlias, DeclareKey, Clauses, NoClauses, Default, Case, Function, Program}
use Rattle.cyc_meaning.specs.State.{Sort, Globals, Stack, Region, Owner, InRegion, Unique, Object, Closed, found_region, globals_number, Initialise, Choose, Test, OpenBy, AliasOf, Entry, Needs, Rest}
use Rattle.cyc_meaning.specs.State.{Loop, CloseRegion, CloseLexical, EndLoan, Handler, Caller, Focus, Executing, Entering, Binding, Naming, Catching, Given, Proceeding, State, Running, Ended, Dead, Wrong}

-- ---- the numbers of locals in the text

-- Says that all locals that a statement declares have indices of at least `m`, which is above the indices of all locals in scope around the
-- statement.
abbrev mutual
  pub StatementRises : ℕ → Statement → Type 0
  StatementRises m (Block region items) = ItemsRise m items
  StatementRises m (If condition first second) = StatementRises m first × StatementRises m second
  StatementRises m (While place condition body) = StatementRises m body
  StatementRises m (Try s clauses) = StatementRises m s × ClausesRise m clauses
  StatementRises m s = Unit {0}

  pub ItemsRise : ℕ → Items → Type 0
  ItemsRise m NoItems = Unit {0}
  ItemsRise m (MoreItems (Execute s) items) = StatementRises m s × ItemsRise m items
  ItemsRise m (MoreItems (Declare number t value) items) = (m ≤ number) × ItemsRise (suc number) items
  ItemsRise m (MoreItems (DeclareRegion region number) items) = (m ≤ number) × ItemsRise (suc number) items
  ItemsRise m (MoreItems (OpenRegion region number p key) items) = (m ≤ number) × ItemsRise (suc number) items
  ItemsRise m (MoreItems (DeclareAlias region number t p source) items) = (m ≤ number) × ItemsRise (suc number) items
  ItemsRise m (MoreItems (DeclareKey region number) items) = (m ≤ number) × ItemsRise (suc number) items

  pub ClausesRise : ℕ → Clauses → Type 0
  ClausesRise m NoClauses = Unit {0}
  ClausesRise m (Default region items) = ItemsRise m items
  ClausesRise m (Case tag None region items clauses) = ItemsRise m items × ClausesRise m clauses
  ClausesRise m (Case tag (Some number) region items clauses) = (m ≤ number) × ItemsRise (suc number) items × ClausesRise m clauses

-- Says that the indices that identify locals increase along the text of every function; the parameters have the lowest indices.
abbrev pub FunctionsRise : Program → Type 0
FunctionsRise program = (number : ℕ) (h : Function) → slice_get program.functions number ≡ Some h → ItemsRise (length h.parameters) h.body

-- ---- the regions that contain objects

abbrev pub region_of : Owner → Option ℕ
region_of (InRegion region) = Some region
region_of (Unique live) = None

abbrev pub region_in : Option Object → Option ℕ
region_in None = None
region_in (Some x) = region_of x.owner

-- Says that the owner of the object with the given index is the given region.
abbrev pub LivesIn : List Object → (object region : ℕ) → Type 0
LivesIn objects object region = region_in (slice_get objects object) ≡ Some region

abbrev pub IsShut : List Region → (region : ℕ) → Type 0
IsShut regions region = found_region (slice_get regions region) ≡ Closed

-- Returns true for a region that contains only variables.
abbrev pub is_of_variables : Sort → Bool
is_of_variables Globals = true
is_of_variables Stack = true
is_of_variables sort = false

pub record HasVariables (r : Region) : Type 0 where
  pub open_now : r.is_open ≡ true
  pub sort : is_of_variables r.sort ≡ true
  pub blocks : r.blocks ≡ []

-- ---- active calls and their blocks

abbrev pub Locals : Type 0
Locals = ℕ → Option ℕ

-- Returns the locals of the suspended calls, newest first.
abbrev pub waiting : List Entry → List Locals
waiting [] = []
waiting (Caller outer ∷ stack) = outer.locals ∷ waiting stack
waiting (entry ∷ stack) = waiting stack

-- Says that an object is the local with the given index, of the call at the given position in the list of calls.
abbrev pub IsLocal : List Locals → (call number object : ℕ) → Type 0
IsLocal calls call number object = (locals : Locals) × (slice_get calls call ≡ Some locals) × (locals number ≡ Some object)

-- Says that a region is that of a block of the newest call.
abbrev pub IsOfCall : (region : ℕ) → List Entry → Type 0
IsOfCall region [] = ⊥
IsOfCall region (CloseRegion ending home ∷ stack) = (region ≡ ending) ⊎ IsOfCall region stack
IsOfCall region (Caller outer ∷ stack) = ⊥
IsOfCall region (entry ∷ stack) = IsOfCall region stack

-- Says that execution continues directly in a block, not inside one of the block's statements.
abbrev pub IsInBlock : List Entry → Type 0
IsInBlock [] = ⊥
IsInBlock (CloseRegion region home ∷ stack) = Unit {0}
IsInBlock (CloseLexical region ∷ stack) = IsInBlock stack
IsInBlock (EndLoan lent ∷ stack) = IsInBlock stack
IsInBlock (entry ∷ stack) = ⊥

-- Says that every local of the newest call that is declared in a block still open has an identifying index below `m`.
abbrev pub AreLow : ℕ → List Entry → Locals → List Object → Type 0
AreLow m stack locals objects = (number object : ℕ) → locals number ≡ Some object → (region : ℕ) × LivesIn objects object region × (IsOfCall region stack → number < m)

-- ---- declarations to come

abbrev pub StatementDeclares : Statement → List Entry → Locals → List Object → Type 0
StatementDeclares s stack locals objects = (m : ℕ) × StatementRises m s × AreLow m stack locals objects

abbrev pub ItemsDeclare : Items → List Entry → Locals → List Object → Type 0
ItemsDeclare items stack locals objects = (m : ℕ) × ItemsRise m items × AreLow m stack locals objects × IsInBlock stack

abbrev pub ClausesDeclare : Clauses → List Entry → Locals → List Object → Type 0
ClausesDeclare clauses stack locals objects = (m : ℕ) × ClausesRise m clauses × AreLow m stack locals objects

-- The condition under which a block may declare its next local with the given index. All locals declared
-- later in the block have greater indices, and the newest call's locals in open blocks have smaller ones.
abbrev pub Names : (number : ℕ) → Items → List Entry → Locals → List Object → Type 0
Names number items stack locals objects = ItemsRise (suc number) items × AreLow number stack locals objects × IsInBlock stack

abbrev pub DeclareLater : List Entry → Locals → List Object → Type 0
DeclareLater [] locals objects = Unit {0}
DeclareLater (Needs (Initialise number kind items) ∷ stack) locals objects = Names number items stack locals objects × DeclareLater stack locals objects
DeclareLater (Needs (OpenBy number lent items) ∷ stack) locals objects = Names number items stack locals objects × DeclareLater stack locals objects
DeclareLater (Needs (AliasOf number lent items) ∷ stack) locals objects = Names number items stack locals objects × DeclareLater stack locals objects
DeclareLater (Needs (Choose first second) ∷ stack) locals objects =
    (StatementDeclares first stack locals objects × StatementDeclares second stack locals objects) × DeclareLater stack locals objects
DeclareLater (Needs (Test condition body) ∷ stack) locals objects = StatementDeclares body stack locals objects × DeclareLater stack locals objects
DeclareLater (Rest items ∷ stack) locals objects = ItemsDeclare items stack locals objects × DeclareLater stack locals objects
DeclareLater (Loop condition body ∷ stack) locals objects = StatementDeclares body stack locals objects × DeclareLater stack locals objects
DeclareLater (Handler clauses ∷ stack) locals objects = ClausesDeclare clauses stack locals objects × DeclareLater stack locals objects
DeclareLater (Caller outer ∷ stack) locals objects = DeclareLater stack outer.locals objects
DeclareLater (entry ∷ stack) locals objects = DeclareLater stack locals objects

abbrev pub DeclareNow : Focus → List Entry → Locals → List Object → Type 0
DeclareNow (Executing s) stack locals objects = StatementDeclares s stack locals objects
DeclareNow (Entering h arguments) stack locals objects = ItemsRise (length h.parameters) h.body × AreLow 0 stack locals objects
DeclareNow (Binding number types arguments body) stack locals objects =
    (m : ℕ) × (number + length types ≤ m) × ItemsRise m body × AreLow number stack locals objects × IsInBlock stack
DeclareNow (Naming number operand items) stack locals objects = Names number items stack locals objects
DeclareNow (Catching tag value clauses) stack locals objects = ClausesDeclare clauses stack locals objects
DeclareNow focus stack locals objects = Unit {0}

-- ---- live variables

-- Says that each local's object is in an open block of its call, or in a block that was left.
abbrev pub LiveInBlocks : List Entry → Locals → List Object → List Region → Type 0
LiveInBlocks stack locals objects regions =
    (number object : ℕ) → locals number ≡ Some object → (region : ℕ) × LivesIn objects object region × (IsOfCall region stack ⊎ IsShut regions region)

abbrev pub WaitInBlocks : List Entry → List Object → List Region → Type 0
WaitInBlocks [] objects regions = Unit {0}
WaitInBlocks (Caller outer ∷ stack) objects regions = LiveInBlocks stack outer.locals objects regions × WaitInBlocks stack objects regions
WaitInBlocks (entry ∷ stack) objects regions = WaitInBlocks stack objects regions

-- Says that each live variable is a global or a local of an active call.
abbrev pub HaveNames : (globals : ℕ) → List Locals → List Object → List Region → Type 0
HaveNames globals calls objects regions =
    (object region : ℕ) (r : Region) → LivesIn objects object region → slice_get regions region ≡ Some r → HasVariables r
    → (object < globals) ⊎ ((call number : ℕ) × IsLocal calls call number object)

-- Says that no two locals are one object.
abbrev pub AreDistinct : List Locals → Type 0
AreDistinct calls = (call other number beside object : ℕ) → IsLocal calls call number object → IsLocal calls other beside object → (call ≡ other) × (number ≡ beside)

-- Says that the objects with indices below the number of globals live in the region of the globals.
abbrev pub AreGlobals : (globals : ℕ) → List Object → Type 0
AreGlobals globals objects = (object : ℕ) → object < globals → LivesIn objects object globals_number

abbrev pub LiveInRegions : List Object → List Region → Type 0
LiveInRegions objects regions = (object region : ℕ) → LivesIn objects object region → region < length regions

-- The invariant that each live variable is a global or a local of an active call, for the newest call with its locals and for the suspended
-- calls.
abbrev pub AreNamed : (globals : ℕ) → List Entry → Locals → List Object → List Region → Type 0
AreNamed globals stack locals objects regions =
    DeclareLater stack locals objects × LiveInBlocks stack locals objects regions × WaitInBlocks stack objects regions
    × HaveNames globals (locals ∷ waiting stack) objects regions × AreDistinct (locals ∷ waiting stack) × AreGlobals globals objects × LiveInRegions objects regions

-- The invariant of every state of a run of a program with the given number of globals: each live variable is a global or a local of an
-- active call.
abbrev pub HasNames : (globals : ℕ) → State → Type 0
HasNames globals (Running focus stack e w) = DeclareNow focus stack e.locals w.objects × (AreNamed globals stack e.locals w.objects w.regions)
HasNames globals (Ended ending output input) = Unit {0}
HasNames globals (Dead output input) = Unit {0}
HasNames globals (Wrong output input) = Unit {0}

-- ---- declaring a local

-- Returns the local that the next step declares, if any.
abbrev pub declared_by : Focus → List Entry → Option ℕ
declared_by (Naming number operand items) stack = Some number
declared_by (Binding number (t ∷ types) arguments body) stack = Some number
declared_by (Given value) (Needs (Initialise number kind items) ∷ stack) = Some number
declared_by Proceeding (Rest (MoreItems (Declare number t None) items) ∷ stack) = Some number
declared_by focus stack = None
