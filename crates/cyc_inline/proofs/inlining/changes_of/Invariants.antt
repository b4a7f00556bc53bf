use Rattle.std.proofs.Common.{◌≡◌, length}
use Rattle.cyc_inline.specs.inside.Changes.{AreBegun}
use Rattle.cyc_inline.proofs.inlining.changes_of.Given as goal

-- Invariant: the replacements of the functions visited so far are correct.
abbrev pub invariant-loop-number : goal.invariant-loop-number
invariant-loop-number l = (length l.changes.items ≡ l.number) × AreBegun l.plain l.room l.changes.items l.spare
