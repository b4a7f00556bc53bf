-- The relation between the results of the type checker's functions and the results of the corresponding typing rules.
use Rattle.std.specs.Prelude.{◌≡◌, Option, Some, None, Result, Ok, Err}
use Rattle.cyc_words.specs.declared.fault.Fault.{Fault}
use Rattle.cyc_words.specs.Fault.{memory_fault}
use Rattle.cyc_types.specs.Rules.{Checked}
use Rattle.cyc_scope.specs.declared.stop.Stop.{Stop}
use Rattle.cyc_scope.specs.declared.stop.Stop.TheVariants as stops

-- the fault that the checker returns when it stops: the fault of the rejected text, or lack of memory
abbrev pub fault_of : Stop → Fault
fault_of stops.Memory = memory_fault
fault_of (stops.Refused f) = f

-- Says that a rejection by the checker's code is the fault that the typing rule reports. If the checker's code runs out of
-- memory, this relation says nothing about the fault.
abbrev pub Stops : {Y : Type 0} → Stop → Checked Y → Type 0
Stops stops.Memory checked = Unit {0}
Stops (stops.Refused f) checked = checked ≡ Err f

-- Says that the result of the checker's code, seen as the mathematical value by `view`, is the typing rule's result, unless memory ran out.
abbrev pub Gives : {X Y : Type 0} → (X → Y) → Result X Stop → Checked Y → Type 0
Gives view (Ok x) checked = checked ≡ Ok (view x)
Gives view (Err e) checked = Stops e checked

-- Says that the checker's code continues if no fault has been recorded, and otherwise stops with the recorded fault. The
-- checker's code to which this applies never runs out of memory.
abbrev pub Ends : Result (Unit {0}) Stop → Option Fault → Type 0
Ends (Ok u) known = known ≡ None
Ends (Err stops.Memory) known = ⊥
Ends (Err (stops.Refused f)) known = known ≡ Some f
