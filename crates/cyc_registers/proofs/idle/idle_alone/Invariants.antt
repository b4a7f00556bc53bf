use Rattle.cyc_plain.specs.inside.Program.{routine_of}
use Rattle.cyc_registers.proofs.IdleCode.{AreFirstIdle}
use Rattle.cyc_registers.proofs.idle.idle_alone.Given as goal

-- Invariant: the flags of the code positions examined so far are right: each tells if its instruction needs no machine code.
abbrev pub invariant-loop-index : goal.invariant-loop-index
invariant-loop-index l = AreFirstIdle l.plain (routine_of l.function) l.homes l.index l.idle.items
