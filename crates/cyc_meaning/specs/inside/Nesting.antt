-- Regions of blocks and lexical regions are closed in the reverse order of their opening (Grossman et al. 2002). The nesting of regions is
-- an invariant of every state, stated on the state's control stack. Dynamic regions are closed by programs at any time, and are not
-- covered.
use Rattle.std.specs.Prelude.{◌≡◌, ℕ, ◌<◌, ◌==◌, Bool, true, false, List, [], ◌∷◌, length, Option, None, Some, slice_get}
use Rattle.std.specs.List.{list_any}
use Rattle.cyc_types.specs.declared.typed.PointerOperator.TheVariants as pointers
use Rattle.cyc_types.specs.TypedTrees.{NoArguments, Expression, Copy, Move, Peek, New, Fields, Items, MoreItems, OpenRegion, DeclareAlias}
use Rattle.cyc_meaning.specs.State.{Sort, Lexical, Dynamic, Region, World, Access, Found, Closed, Missing, found_region, globals_number, Environment, Awaiting, ApplyPointer, Store, StoreCell, FreeObject, CloseByKey, PlaceBy, MakePlain, MakeFields}
use Rattle.cyc_meaning.specs.State.{FillElement, OpenBy, LoadFrom, Entry, Needs, NeedsPlace, Rest, CloseRegion, CloseLexical, Handler, Caller, Focus, Evaluating, Given, GivenPlace, Proceeding, Writing, Beginning, Swapping, State, Running, Ended, Dead, Wrong}

-- Returns the regions that the stack entries will close, innermost first, followed by the region of the globals, which is never closed.
abbrev pub ends_of : List Entry → List ℕ
ends_of [] = globals_number ∷ []
ends_of (CloseRegion region home ∷ stack) = region ∷ ends_of stack
ends_of (CloseLexical region ∷ stack) = region ∷ ends_of stack
ends_of (entry ∷ stack) = ends_of stack

-- Holds if the program cannot close regions of the given sort by a statement.
abbrev pub IsScoped : Sort → Type 0
IsScoped Dynamic = ⊥
IsScoped sort = Unit {0}

abbrev pub IsFound : Access Region → Type 0
IsFound (Found r) = IsScoped r.sort
IsFound Closed = ⊥
IsFound Missing = ⊥

abbrev pub AreOpen : List Region → List ℕ → Type 0
AreOpen regions [] = Unit {0}
AreOpen regions (n ∷ ns) = IsFound (found_region (slice_get regions n)) × AreOpen regions ns

-- Says that the region indices in a list are decreasing and below a bound. A region that was opened later has a greater index.
abbrev pub AreBelow : ℕ → List ℕ → Type 0
AreBelow bound [] = Unit {0}
AreBelow bound (n ∷ ns) = (n < bound) × AreBelow n ns

-- Says that new variables are allocated in the region of variables that the control stack closes next. When a call begins, it has no
-- region of variables yet, and the region of the globals takes this role.
abbrev pub IsHome : ℕ → List Entry → Type 0
IsHome home [] = home ≡ globals_number
IsHome home (CloseRegion region outer ∷ stack) = (home ≡ region) × IsHome outer stack
IsHome home (Caller outer ∷ stack) = (home ≡ globals_number) × IsHome outer.home stack
IsHome home (entry ∷ stack) = IsHome home stack

-- Returns the lexical regions among the regions that the stack entries will close.
abbrev pub lexicals_of : List Entry → List ℕ
lexicals_of [] = []
lexicals_of (CloseLexical region ∷ stack) = region ∷ lexicals_of stack
lexicals_of (entry ∷ stack) = lexicals_of stack

-- Returns true for an open lexical region.
abbrev pub is_scope : Sort → (flag : Bool) → Bool
is_scope Lexical flag = flag
is_scope sort flag = false

abbrev pub is_open_scope : Option Region → Bool
is_open_scope None = false
is_open_scope (Some r) = is_scope r.sort r.is_open

-- Says that the given region indices are exactly the indices of the open lexical regions.
abbrev pub AreScopes : List Region → List ℕ → Type 0
AreScopes regions ns = (number : ℕ) → is_open_scope (slice_get regions number) ≡ list_any (λ (n : ℕ). n == number) ns

-- The nesting invariant: all regions that will be closed are open and nested, variables are allocated in the innermost region of
-- variables, and no other lexical region is open.
abbrev pub IsNested : List Entry → Environment → World → Type 0
IsNested stack e w =
    AreOpen w.regions (ends_of stack) × AreBelow (length w.regions) (ends_of stack) × IsHome e.home stack × AreScopes w.regions (lexicals_of stack)

-- Returns true if the next action of a continuation frame accesses a cell, an object or a region. An access reads or writes a variable or a
-- cell, or compares pointers. Allocating or freeing an object is an access, and so is opening or closing a region by its key.
abbrev pub is_access_of : Awaiting → Bool
is_access_of (ApplyPointer peek pointers.EqualThin left) = true
is_access_of (ApplyPointer peek pointers.NotEqualThin left) = true
is_access_of (Store place) = true
is_access_of (StoreCell peek place) = true
is_access_of FreeObject = true
is_access_of CloseByKey = true
is_access_of (PlaceBy (Fields NoArguments)) = true
is_access_of (MakePlain owner kind) = true
is_access_of (MakeFields owner before NoArguments) = true
is_access_of (FillElement object count index level kind element) = true
is_access_of (OpenBy number lent items) = true
is_access_of waiting = false

abbrev pub is_access_by : Items → Bool
is_access_by (MoreItems (OpenRegion region number p key) items) = true
is_access_by (MoreItems (DeclareAlias region number t p source) items) = true
is_access_by items = false

abbrev pub is_access_in : Expression → Bool
is_access_in (Copy place t) = true
is_access_in (Move p number t) = true
is_access_in (Peek p number t) = true
is_access_in (New placement (Fields NoArguments) t) = true
is_access_in a = false

abbrev pub is_access : Focus → List Entry → Bool
is_access (Evaluating a) stack = is_access_in a
is_access (Given value) (Needs waiting ∷ stack) = is_access_of waiting
is_access (GivenPlace place) (NeedsPlace (LoadFrom kind) ∷ stack) = true
is_access Proceeding (Rest items ∷ stack) = is_access_by items
is_access (Writing writes result) stack = true
is_access (Beginning owner count level kind element) stack = true
is_access (Swapping kind left right before) stack = true
is_access focus stack = false

-- The invariant of every state of a run: regions nest.
abbrev pub Nests : State → Type 0
Nests (Running focus stack e w) = IsNested stack e w
Nests (Ended ending output input) = Unit {0}
Nests (Dead output input) = Unit {0}
Nests (Wrong output input) = Unit {0}

-- Says that no `try` is active.
abbrev pub IsUntried : List Entry → Type 0
IsUntried [] = Unit {0}
IsUntried (Handler handler ∷ stack) = ⊥
IsUntried (entry ∷ stack) = IsUntried stack
