use Rattle.std.proofs.Common.{◌≡◌, ◌++◌, drop}
use Rattle.cyc_select.specs.inside.Slots.{reloads_from, reloads}
use Rattle.cyc_select.specs.inside.Selection.{ordinary}
use Rattle.cyc_select.proofs.emitter.Emitter.reloads.Given as goal

-- Loop invariant: the MIPS lines emitted so far, followed by those of the remaining slots, are all lines that reload registers.
abbrev pub invariant-loop-slot : goal.invariant-loop-slot
invariant-loop-slot l =
    l.self.lines.items ++ ordinary (reloads_from l.frame l.slot (drop l.slot l.frame.homes))
    ≡ l.fn.self.lines.items ++ ordinary (reloads l.frame)
