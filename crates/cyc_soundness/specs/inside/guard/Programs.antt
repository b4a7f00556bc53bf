-- This file defines the flow rules of functions and of a program, in the form for proofs about runs.
use Rattle.std.specs.Prelude.{◌≡◌, nat_lt, List, [], ◌∷◌, Option, Some, None, length}
use Rattle.cyc_types.specs.Types.{Ty}
use Rattle.cyc_types.specs.TypedTrees.{Function, Program}
use Rattle.cyc_soundness.specs.inside.guard.Held.{Held, Never, Holds, IsAtLeast, no_guard}
use Rattle.cyc_soundness.specs.inside.guard.Statements.{KeepsItems}

-- The flow facts about locals at the start of a function: its parameters hold values.
abbrev pub held_at_start : Function → Held
held_at_start h = Holds (λ n. nat_lt n (length h.parameters))

-- Says that the end of a function with a result is unreachable.
abbrev pub EndsIn : Option Ty → Held → Type 0
EndsIn None g = Unit {0}
EndsIn (Some t) g = g ≡ Never

abbrev pub IsGuardedFunction : Function → Type 0
IsGuardedFunction h = (start end : Held) × IsAtLeast (held_at_start h) start × KeepsItems no_guard None h.body start end × EndsIn h.result end

abbrev pub AreGuarded : List Function → Type 0
AreGuarded [] = Unit {0}
AreGuarded (h ∷ hs) = IsGuardedFunction h × AreGuarded hs

-- Says that a program satisfies the flow rules in the form for proofs about runs.
abbrev pub IsGuardedProgram : Program → Type 0
IsGuardedProgram p = AreGuarded p.functions
