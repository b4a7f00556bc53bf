use Rattle.std.proofs.Common.{◌≡◌, ◌-◌, ◌++◌}
use Rattle.cyc_select.specs.inside.Slots.{saves_from, saves}
use Rattle.cyc_select.specs.inside.Selection.{ordinary}
use Rattle.cyc_select.proofs.emitter.Emitter.saves.Given as goal

-- Loop invariant: the MIPS lines emitted so far, followed by those of the remaining registers, are all lines that save registers.
abbrev pub invariant-loop-number : goal.invariant-loop-number
invariant-loop-number l =
    l.self.lines.items ++ ordinary (saves_from l.frame.first_saved l.number (l.frame.saved - l.number))
    ≡ l.fn.self.lines.items ++ ordinary (saves l.frame)
