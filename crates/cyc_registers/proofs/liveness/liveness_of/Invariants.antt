use Rattle.std.proofs.Common.{◌≡◌, length}
use Rattle.cyc_registers.proofs.liveness.liveness_of.Given as goal

abbrev pub invariant-loop : goal.invariant-loop
invariant-loop l = length l.lives.live.items ≡ length l.function.code.items
