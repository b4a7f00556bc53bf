use Rattle.std.proofs.Common.{length, take}
use Rattle.cyc_asm.specs.inside.Slots.{AreNamed}
use Rattle.cyc_asm.proofs.slots.named_of_each.Given as goal

-- Loop invariant: the table contains the labels to which the lines visited so far jump.
abbrev pub invariant-loop-line : goal.invariant-loop-line
invariant-loop-line l = AreNamed (take l.line-index l.lines) (length l.lines) l.named.items
