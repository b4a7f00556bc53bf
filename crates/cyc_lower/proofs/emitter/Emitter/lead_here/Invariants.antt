use Rattle.std.specs.Prelude.{length}
use Rattle.cyc_lower.proofs.emission.Conditions.{FailedRest}
use Rattle.cyc_lower.proofs.emitter.Emitter.lead_here.Given as goal

abbrev pub invariant-loop-jump : goal.invariant-loop-jump
invariant-loop-jump l = FailedRest l.jumps (length l.fn.self.code.items) l.fn.self.code.items l.jump-index l.self.code.items
