use Rattle.std.proofs.Common.{◌≡◌, ◌+◌, ◌-◌, ◌++◌}
use Rattle.cyc_select.specs.inside.Slots.{coming}
use Rattle.cyc_select.specs.inside.Passing.{spills}
use Rattle.cyc_select.specs.inside.Selection.{ordinary}
use Rattle.cyc_select.proofs.emitter.Emitter.spills.Given as goal

-- Loop invariant: the MIPS lines emitted so far, followed by those of the remaining slots, are all lines that spill slots.
abbrev pub invariant-loop-slot : goal.invariant-loop-slot
invariant-loop-slot l =
    l.self.lines.items ++ ordinary (spills l.caller (coming l.callee) (l.source + l.slot) l.slot (l.count - l.slot))
    ≡ l.fn.self.lines.items ++ ordinary (spills l.caller (coming l.callee) l.source 0 l.count)
