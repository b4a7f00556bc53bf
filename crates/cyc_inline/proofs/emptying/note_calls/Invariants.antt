use Rattle.std.proofs.Common.{ℕ, ◌<◌}
use Rattle.cyc_plain.specs.declared.instruction.Instruction.{Instruction}
use Rattle.cyc_plain.specs.inside.Program.{routine_of}
use Rattle.cyc_plain.specs.inside.Straight.{At}
use Rattle.cyc_inline.specs.inside.Emptied.{LeadsTo, StayReached}
use Rattle.cyc_inline.proofs.emptying.note_calls.Given as goal

-- Invariant: every function called by an instruction visited so far is marked as reached.
abbrev pub invariant-loop-index : goal.invariant-loop-index
invariant-loop-index l =
    StayReached l.initial.reached.items l.reached.items × ((p : ℕ) (i : Instruction) → p < l.index → At (routine_of l.function).code p i → LeadsTo l.reached.items i)
