use Rattle.std.proofs.Common.{◌≡◌, ◌+◌, ◌-◌, ◌++◌}
use Rattle.cyc_select.specs.inside.Slots.{coming}
use Rattle.cyc_select.specs.inside.Passing.{copies}
use Rattle.cyc_select.specs.inside.Selection.{ordinary}
use Rattle.cyc_select.proofs.emitter.Emitter.arguments.Given as goal

-- Loop invariant: the MIPS lines emitted so far, followed by those of the remaining arguments, are the lines of the whole call.
abbrev pub invariant-loop-slot : goal.invariant-loop-slot
invariant-loop-slot l =
    l.self.lines.items ++ ordinary (copies l.caller (coming l.callee) (l.source + l.slot) l.slot (l.count - l.slot))
    ≡ l.fn.self.lines.items ++ ordinary (copies l.caller (coming l.callee) l.source 0 l.count)
