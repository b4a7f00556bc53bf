use Rattle.cyc_lower_proof.proofs.emission.Alike.{TurnedTo}
use Rattle.cyc_lower.proofs.emitter.Emitter.settle.Given as goal

-- Loop invariant: the targets of the instructions visited so far have been replaced.
abbrev pub invariant-loop-instruction : goal.invariant-loop-instruction
invariant-loop-instruction l = TurnedTo l.far l.near l.instruction-index l.fn.self.code.items l.instruction-items
