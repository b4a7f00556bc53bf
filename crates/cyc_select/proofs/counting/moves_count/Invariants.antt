use Rattle.std.proofs.Common.{◌≡◌, ◌+◌, ◌-◌, ◌*◌, ◌≤◌}
use Rattle.cyc_select.specs.inside.Operands.{moves_count}
use Rattle.cyc_select.proofs.counting.moves_count.Given as goal

-- Loop invariant: the number of MIPS lines counted so far plus that for the remaining words is the number of lines that move all words.
abbrev pub invariant-loop-word : goal.invariant-loop-word
invariant-loop-word l =
    (l.lines + moves_count l.frame (l.destination + l.word) (l.source + l.word) (l.count - l.word)
    ≡ moves_count l.frame l.destination l.source l.count)
    × (l.lines ≤ 3 * l.word)
