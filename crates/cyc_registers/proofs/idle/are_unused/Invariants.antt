use Rattle.std.proofs.Common.{◌≡◌}
use Rattle.cyc_registers.specs.inside.IdlePlaces.{are_unused}
use Rattle.cyc_registers.proofs.idle.are_unused.Given as goal

-- Invariant: `are` is true if the slots examined so far are in registers only and not live after the instruction.
abbrev pub invariant-loop-offset : goal.invariant-loop-offset
invariant-loop-offset l = l.are ≡ are_unused l.masks l.live l.homes l.index l.first l.offset
