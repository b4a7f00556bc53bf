use Rattle.cyc_registers.specs.inside.Idle.{AreIdleFrom}
use Rattle.cyc_registers.proofs.idle.are_idle.Given as goal

-- Invariant: the code positions examined so far need no machine code.
abbrev pub invariant-loop-place : goal.invariant-loop-place
invariant-loop-place l = AreIdleFrom l.idle l.first l.place
