use Rattle.cyc_plain.specs.inside.Program.{routine_of}
use Rattle.cyc_registers.specs.inside.Sharing.{AreAlone, NeverMeet}
use Rattle.cyc_registers.proofs.sharing.never_meet.Given as goal

-- Invariant: no two slots that share a register interfere at the instructions examined so far. The set `known` contains at
-- most one slot of each group of slots that share a register.
abbrev pub invariant-loop-index : goal.invariant-loop-index
invariant-loop-index l =
    NeverMeet l.plain (routine_of l.function) l.masks l.live l.groups l.index × AreAlone l.groups l.known
