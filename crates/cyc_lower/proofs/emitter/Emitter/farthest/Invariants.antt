use Rattle.std.proofs.Common.{◌≡◌, drop, max}
use Rattle.cyc_lower_proof.specs.inside.Lowering.{farthest}
use Rattle.cyc_lower.proofs.emitter.Emitter.farthest.Given as goal

-- Loop invariant: the farther of two jump targets is the farthest of the whole code. One is the farthest target of the
-- instructions visited so far, the other that of the remaining instructions.
abbrev pub invariant-loop-instruction : goal.invariant-loop-instruction
invariant-loop-instruction l = max l.place (farthest (drop l.instruction-index l.instruction-items)) ≡ farthest l.self.code.items
