-- How a step may change the number of calls under way, by what is done next and the newest entry. This project's own choice.
use Rattle.std.specs.Prelude.{ℕ, suc, ◌-◌, ◌||◌, Bool, true, false, if◌then◌else◌, List, [], ◌∷◌}
use Rattle.cyc_meaning.specs.State.{Entry, Caller, Main, Focus, Calling, Proceeding, Returning, Throwing, calls_in}
use Rattle.cyc_types.specs.declared.typed.Callee.TheVariants as callees
use Rattle.cyc_interpret.specs.declared.limits.Change.{Change}
use Rattle.cyc_interpret.specs.declared.limits.Change.TheVariants as change

-- the end of a call, and of the call of `main`
abbrev pub is_caller : Entry → Bool
is_caller (Caller e) = true
is_caller entry = false

abbrev pub is_main : Entry → Bool
is_main Main = true
is_main entry = false

-- whether the newest entry is one
abbrev pub ends_call : List Entry → Bool
ends_call [] = false
ends_call (entry ∷ stack) = is_caller entry

abbrev pub ends_main : List Entry → Bool
ends_main [] = false
ends_main (entry ∷ stack) = is_main entry

-- how a step may change the number of calls under way, by the focus, and how many there are then, by the newest entry
abbrev pub change_of : Focus → Change
change_of (Calling (callees.Function number) arguments) = change.Calls
change_of Proceeding = change.Ends
change_of (Returning value) = change.Ends
change_of (Throwing tag value) = change.Throws
change_of focus = change.Stays

abbrev pub calls_by : Change → List Entry → ℕ
calls_by change.Calls stack = suc (calls_in stack)
calls_by change.Ends stack = if ends_call stack then calls_in stack - 1 else calls_in stack
calls_by change.Throws stack = if ends_call stack || ends_main stack then calls_in stack - 1 else calls_in stack
calls_by change.Stays stack = calls_in stack
