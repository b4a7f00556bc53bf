use Rattle.std.proofs.Common.{◌≡◌, ◌≤◌, length, map}
use Rattle.std.specs.List.{range_with_len}
use Rattle.std.specs.Vec.{vec_len, vec_capacity}
use Rattle.cyc_asm.specs.inside.Layout.{most_before}
use Rattle.cyc_asm.proofs.layout.most_of_each.Given as goal

-- Loop invariant: the table has the most words before each line visited so far, and the most words
-- before the next line are computed. The list for the table has capacity for all lines.
abbrev pub invariant-loop-line : goal.invariant-loop-line
invariant-loop-line l =
    (l.most.items ≡ map (most_before l.lines) (range_with_len 0 l.line-index)) × (l.before ≡ most_before l.lines l.line-index)
    × (vec_len l.most ≡ l.line-index) × (length l.lines ≤ vec_capacity l.most)
