use Rattle.std.proofs.Common.{◌≡◌, ℕ, ◌<◌, true, length}
use Rattle.cyc_plain.specs.declared.instruction.Instruction.{Instruction}
use Rattle.cyc_plain.specs.inside.Program.{routine_at}
use Rattle.cyc_plain.specs.inside.Straight.{At}
use Rattle.cyc_inline.specs.inside.Emptied.{is_reached, LeadsTo}
use Rattle.cyc_inline.proofs.emptying.reached_in.Given as goal

-- Invariant: every function called by a reached function visited so far is marked as reached.
abbrev pub invariant-loop-number : goal.invariant-loop-number
invariant-loop-number l =
    (length l.reached.items ≡ length l.plain.functions) × (is_reached l.reached.items l.plain.main ≡ true)
    × ((k : ℕ) → k < l.number → (p : ℕ) (i : Instruction) → At (routine_at l.plain k).code p i → LeadsTo l.reached.items i)
