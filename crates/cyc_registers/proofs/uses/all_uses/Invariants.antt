use Rattle.cyc_plain.specs.inside.Program.{routine_of}
use Rattle.cyc_registers.proofs.UsesTable.{AreFirstUses}
use Rattle.cyc_registers.proofs.uses.all_uses.Given as goal

-- Invariant: the table of slots that are read and written is right for the instructions examined so far.
abbrev pub invariant-loop-index : goal.invariant-loop-index
invariant-loop-index l = AreFirstUses l.plain (routine_of l.function) l.masks l.index l.uses.items
