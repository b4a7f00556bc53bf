-- The relation between the code of the flow checker and the flow rules: the flow states that this code computes, and the
-- results of its functions.
use Rattle.std.specs.Prelude.{◌≡◌, ℕ, Bool, true, ◌&&◌, List, [], ◌∷◌, Option, Some, None, Result, Ok, Err}
use Rattle.cyc_words.specs.declared.fault.Fault.{Fault}
use Rattle.cyc_words.specs.Fault.{memory_fault}
use Rattle.cyc_flow.specs.declared.state.Fullness.{Fullness as FullnessCode}
use Rattle.cyc_flow.specs.declared.state.Fullness.TheVariants as code
use Rattle.cyc_flow.specs.declared.state.State.{State as StateCode}
use Rattle.cyc_flow.specs.declared.state.State.TheVariants as states
use Rattle.cyc_flow.specs.declared.stop.Stop.{Stop}
use Rattle.cyc_flow.specs.declared.stop.Stop.TheVariants as stops
use Rattle.cyc_flow.specs.declared.state.Change.{Change}
use Rattle.cyc_flow.specs.declared.expressions.Tracked.{Tracked}
use Rattle.cyc_flow.specs.declared.evaluation.Evaluation.{Evaluation}
use Rattle.cyc_types.specs.Rules.{Checked, run}
use Rattle.cyc_types.specs.flow.States.{Fullness, Vacant, Locked, Full, State, Unreached, Reached, lower, fullness, with_fullness, is_vacant}
use Rattle.cyc_types.specs.TypedTrees.{Clauses}
use Rattle.cyc_types.specs.flow.Touched.{touched_clauses}
use Rattle.cyc_types.specs.flow.Statements.{Around, Known, rule_clauses}
use Rattle.cyc_flow.specs.inside.Tables.{view_table}

abbrev pub view_fullness : FullnessCode → Fullness
view_fullness code.Vacant = Vacant
view_fullness code.Locked = Locked
view_fullness code.Full = Full

abbrev pub view_state : StateCode → State
view_state states.Unreached = Unreached
view_state (states.Reached t) = Reached (view_table t)

-- Returns the flow state before a list of recorded changes, which are undone from the last to the first.
abbrev pub undone : List Change → State → State
undone [] f = f
undone (c ∷ cs) f = with_fullness (view_fullness c.before) (undone cs f) c.number

-- Returns the flow state at the start of the expression, or of the innermost enclosing operand of `&&` or `||`.
abbrev pub begun : Evaluation → State
begun v = undone v.trail.items (view_state v.state)

-- Returns the flow state in which each changed local has the emptier of two states: its state in the given flow state and its recorded
-- state.
abbrev pub lowered : List Change → State → State
lowered [] f = f
lowered (c ∷ cs) f = lowered cs (with_fullness (lower (fullness f c.number) (view_fullness c.before)) f c.number)

-- Returns the flow state in which each changed local has the emptier of two states: its state in the given flow state and
-- its state in the flow state `g`.
abbrev pub lowered_to : State → List Change → State → State
lowered_to g [] f = f
lowered_to g (c ∷ cs) f = lowered_to g cs (with_fullness (lower (fullness f c.number) (fullness g c.number)) f c.number)

-- `Notes` says that `now` lists the present state (empty, lent or full) of each changed local.
abbrev pub Notes : (now : List Change) → State → (changes : List Change) → Type 0
Notes vs g cs = (f : State) → lowered vs f ≡ lowered_to g cs f

-- Returns true if each changed local may be empty in this flow state.
abbrev pub are_emptied : List Change → State → Bool
are_emptied [] f = true
are_emptied (c ∷ cs) f = is_vacant (fullness f c.number) && are_emptied cs f

-- Returns the fault that the flow check reports when it stops.
abbrev pub fault_of : Stop → Fault
fault_of stops.Memory = memory_fault
fault_of (stops.Refused x n) = x

-- `Stops` says that the fault that the code reports is the fault that the flow rule determines. If the compiler itself runs out of memory,
-- `Stops` claims nothing.
abbrev pub Stops : {Y : Type 0} → Stop → Checked Y → Type 0
Stops stops.Memory checked = Unit {0}
Stops (stops.Refused x n) checked = checked ≡ Err x

-- `Ends` says that the flow check continues if it has found no fault, and otherwise stops with the fault found. In both cases the
-- compiler has not run out of memory.
abbrev pub Ends : Result (Unit {0}) Stop → Option Fault → Type 0
Ends (Ok u) fault = fault ≡ None
Ends (Err stops.Memory) fault = ⊥
Ends (Err (stops.Refused x n)) fault = fault ≡ Some x

-- `Allows` says that the checker's code continues if the typing or flow rule is satisfied, and otherwise stops with the rule's fault.
abbrev pub Allows : Result (Unit {0}) Stop → Checked (Unit {0}) → Type 0
Allows (Ok u) checked = checked ≡ Ok tt
Allows (Err e) checked = Stops e checked

-- `Leads` says that the code's flow state after an expression is that of the flow rule, and that the expression began in the state
-- `start`. `Leads` also says that `ns` lists the touched (consumed, assigned or locked) locals.
abbrev pub Leads : Result (Unit {0}) Stop → (following : Evaluation) → Checked State → List ℕ → (start : State) → Type 0
Leads (Ok u) v checked ns start = (checked ≡ Ok (view_state v.state)) × (v.touched.numbers.list ≡ ns) × (begun v ≡ start)
Leads (Err e) v checked ns start = Stops e checked

-- `Gives` says that the flow checker's result for a whole expression agrees with the flow rule: the flow state after the
-- expression, and the locals touched (consumed, assigned or locked) in it.
abbrev pub Gives : Result Tracked Stop → Checked State → List ℕ → Type 0
Gives (Ok t) checked ns = (checked ≡ Ok (view_state t.state)) × (t.touched.numbers.list ≡ ns)
Gives (Err e) checked ns = Stops e checked

abbrev pub known : State → State → Known
known f breaks = record { now = f; breaks = breaks }

-- `GivesKnown` says that the flow checker's result for a statement agrees with the flow rule. Its last argument is the
-- flow state at the `break` statements that were checked so far.
abbrev pub GivesKnown : Result Tracked Stop → Checked Known → List ℕ → State → Type 0
GivesKnown (Ok t) checked ns breaks = (checked ≡ Ok (known (view_state t.state) breaks)) × (t.touched.numbers.list ≡ ns)
GivesKnown (Err e) checked ns breaks = Stops e checked

-- `GivesClauses` says that the flow checker's result for the first catch clauses of a `try` agrees with
-- the flow rule, whatever clauses come after them.
abbrev pub GivesClauses : Around → State → Result Tracked Stop → (clauses : Clauses → Clauses) → Known → List ℕ → State → Type 0
GivesClauses c start (Ok t) clauses k ns breaks =
    (rest : Clauses) → (run (rule_clauses c start (clauses rest) k) ≡ run (rule_clauses c start rest (known (view_state t.state) breaks))) × (touched_clauses (clauses rest) ns ≡ touched_clauses rest t.touched.numbers.list)
GivesClauses c start (Err e) clauses k ns breaks = (rest : Clauses) → Stops e (run (rule_clauses c start (clauses rest) k))
