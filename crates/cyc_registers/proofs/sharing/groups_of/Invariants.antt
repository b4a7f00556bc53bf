use Rattle.cyc_registers.specs.inside.Sharing.{AreGroups}
use Rattle.cyc_registers.proofs.sharing.groups_of.Given as goal

-- Invariant: for each register examined so far that several slots share, the group of these slots is in the list.
abbrev pub invariant-loop-register : goal.invariant-loop-register
invariant-loop-register l = AreGroups l.holders l.register l.groups.items
