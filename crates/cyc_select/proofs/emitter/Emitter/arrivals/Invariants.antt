use Rattle.std.proofs.Common.{◌≡◌, ◌++◌, drop}
use Rattle.cyc_select.specs.inside.Slots.{reloads_from, arriving, arrivals}
use Rattle.cyc_select.specs.inside.Selection.{ordinary}
use Rattle.cyc_select.proofs.emitter.Emitter.arrivals.Given as goal

-- Loop invariant: the MIPS lines emitted so far, followed by those of the remaining parameters, are all lines that load parameters.
abbrev pub invariant-loop-slot : goal.invariant-loop-slot
invariant-loop-slot l =
    l.self.lines.items ++ ordinary (reloads_from l.frame l.slot (drop l.slot (arriving l.frame)))
    ≡ l.fn.self.lines.items ++ ordinary (arrivals l.frame)
