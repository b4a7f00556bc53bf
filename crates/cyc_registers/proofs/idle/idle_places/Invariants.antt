use Rattle.std.proofs.Common.{◌≡◌, length}
use Rattle.cyc_plain.specs.inside.Program.{routine_of}
use Rattle.cyc_registers.specs.inside.Idle.{AreIdle}
use Rattle.cyc_registers.proofs.idle.idle_places.Given as goal

-- Invariant: for each code position examined so far, the flag states whether the position needs no machine code.
abbrev pub invariant-loop-index : goal.invariant-loop-index
invariant-loop-index l =
    AreIdle l.plain (routine_of l.function) l.homes l.idle.items × (length l.idle.items ≡ length l.function.code.items)
