use Rattle.std.proofs.Common.{◌≡◌, ◌<◌, true, ℕ}
use Rattle.cyc_plain.specs.declared.instruction.Instruction.{Instruction}
use Rattle.cyc_plain.specs.inside.Program.{routine_of}
use Rattle.cyc_plain.specs.inside.Uses.{At}
use Rattle.cyc_registers.specs.inside.LivenessTable.{is_sound_at}
use Rattle.cyc_registers.specs.inside.Masks.{uses_of}
use Rattle.cyc_registers.proofs.liveness.is_sound.Given as goal

-- Invariant: the check of the liveness table succeeds at the instructions examined so far.
abbrev pub invariant-loop-index : goal.invariant-loop-index
invariant-loop-index l =
    (k : ℕ) (i : Instruction) → At (routine_of l.function) k i → k < l.index
    → is_sound_at (uses_of l.plain (routine_of l.function).results l.masks i) i k l.lives.live.items l.lives.calls l.lives.clauses l.lives.barred ≡ true
