use Rattle.std.proofs.Common.{◌≡◌}
use Rattle.cyc_asm.specs.inside.Order.{sunk}
use Rattle.cyc_asm.proofs.order.sink.Given as goal

-- Loop invariant: the instruction is moved past the lines visited so far.
abbrev pub invariant-loop-passed : goal.invariant-loop-passed
invariant-loop-passed l = l.lines ≡ sunk l.initial.lines l.from l.passed
