-- An invariant about the active calls in every state of a run. The functions of the active calls form a chain from `main`. The code that
-- each active call has still to execute is a part of its function's body. The invariant about active calls is this project's own choice.
use Rattle.std.specs.Prelude.{◌≡◌, ℕ, List, [], ◌∷◌, ◌++◌}
use Rattle.std.specs.List.{AllByRecursion}
use Rattle.cyc_types.specs.TypedTrees.{Program}
use Rattle.cyc_meaning.specs.State.{Awaiting, Chain, Pass, Index, PlaceBy, MakeFields, MakeArray, FillElement, Initialise, Choose, Test, OpenBy, AliasOf, AwaitingPlace, StoreTo, SwapLeft, Entry, Needs, NeedsPlace}
use Rattle.cyc_meaning.specs.State.{Rest, Loop, Handler, Caller, Main, Focus, Evaluating, Locating, Executing, Calling, Entering, Binding, Naming, Beginning, Repeating, Catching, State, Running, Ended, Dead, Wrong}
use Rattle.cyc_bound.specs.Callees.{callee_of, expression_callees, dereference_callees, initial_callees, converted_callees, arguments_callees, operations_callees, side_callees, statement_callees, items_callees, clauses_callees}
use Rattle.cyc_bound.specs.Bound.{Calls}

-- ---- calls that are still to come

abbrev pub awaiting_callees : Awaiting → List ℕ
awaiting_callees (Chain rest) = operations_callees rest
awaiting_callees (Pass callee before arguments) = arguments_callees arguments ++ callee_of callee
awaiting_callees (Index peek target index) = expression_callees index
awaiting_callees (PlaceBy initial) = initial_callees initial
awaiting_callees (MakeFields owner before fields) = arguments_callees fields
awaiting_callees (MakeArray owner level kind element) = expression_callees element
awaiting_callees (FillElement object count index level kind element) = expression_callees element
awaiting_callees (Initialise number kind items) = items_callees items
awaiting_callees (Choose first second) = statement_callees first ++ statement_callees second
awaiting_callees (Test condition body) = expression_callees condition ++ statement_callees body
awaiting_callees (OpenBy number lent items) = items_callees items
awaiting_callees (AliasOf number lent items) = items_callees items
awaiting_callees waiting = []

abbrev pub place_callees : AwaitingPlace → List ℕ
place_callees (StoreTo peek value) = converted_callees value
place_callees (SwapLeft kind peek right) = side_callees right
place_callees waiting = []

abbrev pub entry_callees : Entry → List ℕ
entry_callees (Needs waiting) = awaiting_callees waiting
entry_callees (NeedsPlace waiting) = place_callees waiting
entry_callees (Rest items) = items_callees items
entry_callees (Loop condition body) = expression_callees condition ++ statement_callees body
entry_callees (Handler clauses) = clauses_callees clauses
entry_callees entry = []

abbrev pub focus_callees : Focus → List ℕ
focus_callees (Evaluating a) = expression_callees a
focus_callees (Locating d) = dereference_callees d
focus_callees (Executing s) = statement_callees s
focus_callees (Calling callee arguments) = callee_of callee
focus_callees (Entering h arguments) = items_callees h.body
focus_callees (Binding number types arguments body) = items_callees body
focus_callees (Naming number operand items) = items_callees items
focus_callees (Beginning owner count level kind element) = expression_callees element
focus_callees (Repeating object count index level kind element) = expression_callees element
focus_callees (Catching tag value clauses) = clauses_callees clauses
focus_callees focus = []

-- ---- the functions of the active calls

-- says that the body of a function contains calls of all functions in the list
abbrev pub AreOf : Program → (caller : ℕ) → List ℕ → Type 0
AreOf program caller callees = AllByRecursion (λ (callee : ℕ). Calls program caller callee) callees

-- says that the stack contains the entries of a call of the function, followed by those of the function's callers up to `main`
abbrev pub Waits : Program → (function : ℕ) → List Entry → Type 0
Waits program function [] = function ≡ program.main
Waits program function (Caller outer ∷ stack) = (caller : ℕ) × Calls program caller function × Waits program caller stack
Waits program function (Main ∷ []) = function ≡ program.main
Waits program function (Main ∷ entry ∷ stack) = ⊥
Waits program function (entry ∷ stack) = AreOf program function (entry_callees entry) × Waits program function stack

-- says that the newest active call of a state is a call of the function
abbrev pub IsIn : Program → (function : ℕ) → State → Type 0
IsIn program function (Running focus stack e w) = AreOf program function (focus_callees focus) × Waits program function stack
IsIn program function (Ended ending output input) = Unit {0}
IsIn program function (Dead output input) = Unit {0}
IsIn program function (Wrong output input) = Unit {0}
