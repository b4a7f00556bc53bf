use Rattle.std.proofs.Common.{◌≡◌, ◌+◌, ◌-◌, ◌++◌}
use Rattle.cyc_select.specs.inside.Selection.{ordinary, moves}
use Rattle.cyc_select.proofs.emitter.Emitter.move_each.Given as goal

-- Loop invariant: the MIPS lines emitted so far, followed by those of the remaining words, are all lines of the move.
abbrev pub invariant-loop-word : goal.invariant-loop-word
invariant-loop-word l =
    l.self.lines.items ++ ordinary (moves l.frame (l.destination + l.word) (l.source + l.word) (l.count - l.word))
    ≡ l.fn.self.lines.items ++ ordinary (moves l.frame l.destination l.source l.count)
