use Rattle.std.proofs.Common.{◌≡◌, ◌+◌, ◌-◌, ◌≤◌}
use Rattle.cyc_select.specs.inside.Slots.{coming}
use Rattle.cyc_select.specs.inside.Passing.{spills_count}
use Rattle.cyc_select.proofs.counting.spills_count.Given as goal

-- Loop invariant: the number of MIPS lines counted so far plus that for the remaining slots is the number of lines that spill all slots.
abbrev pub invariant-loop-word : goal.invariant-loop-word
invariant-loop-word l =
    (l.lines + spills_count l.caller (coming l.callee) (l.source + l.word) l.word (l.count - l.word) ≡ spills_count l.caller (coming l.callee) l.source 0 l.count)
    × (l.lines ≤ l.word)
