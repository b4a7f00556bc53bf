use Rattle.std.proofs.Common.{◌≡◌, ◌+◌, ◌-◌, ◌*◌, ◌≤◌}
use Rattle.cyc_select.specs.inside.Slots.{coming}
use Rattle.cyc_select.specs.inside.Passing.{copies_count}
use Rattle.cyc_select.proofs.counting.copies_count.Given as goal

-- Loop invariant: the number of lines counted so far plus that for the remaining arguments is the number of lines that pass
-- all arguments of the call.
abbrev pub invariant-loop-word : goal.invariant-loop-word
invariant-loop-word l =
    (l.lines + copies_count l.caller (coming l.callee) (l.source + l.word) l.word (l.count - l.word) ≡ copies_count l.caller (coming l.callee) l.source 0 l.count)
    × (l.lines ≤ 2 * l.word)
