use Rattle.std.proofs.Common.{◌≡◌, ◌+◌, ◌≤◌, length, map}
use Rattle.std.specs.List.{range_with_len}
use Rattle.std.specs.Vec.{vec_len, vec_capacity}
use Rattle.cyc_asm.specs.inside.Slots.{is_unreached_before}
use Rattle.cyc_asm.specs.inside.Layout.{position}
use Rattle.cyc_asm.proofs.layout.position_of_each.Given as goal

-- Loop invariant: the table has the positions of all lines visited so far and of the next one. The loop has computed if the line
-- visited last is reachable, and the list of positions has capacity for all lines.
abbrev pub invariant-loop-number : goal.invariant-loop-number
invariant-loop-number l =
    (l.positions.items ≡ map (position l.lines) (range_with_len 0 (l.number + 1))) × (l.before ≡ position l.lines l.number)
    × (l.unreached ≡ is_unreached_before l.lines l.number)
    × (vec_len l.positions ≡ l.number + 1) × (length l.lines + 1 ≤ vec_capacity l.positions)
