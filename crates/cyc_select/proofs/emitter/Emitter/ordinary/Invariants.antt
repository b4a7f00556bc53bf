use Rattle.std.proofs.Common.{◌≡◌, ◌++◌, take}
use Rattle.cyc_select.specs.inside.Selection.{ordinary}
use Rattle.cyc_select.proofs.emitter.Emitter.ordinary.Given as goal

-- Loop invariant: the lines of the instructions visited so far are emitted.
abbrev pub invariant-loop-instruction : goal.invariant-loop-instruction
invariant-loop-instruction l = l.self.lines.items ≡ l.fn.self.lines.items ++ ordinary (take l.instruction-index l.instructions)
