use Rattle.std.proofs.Common.{◌≡◌}
use Rattle.cyc_asm.specs.inside.Order.{passes_all}
use Rattle.cyc_asm.proofs.order.passes_all.Given as goal

-- Loop invariant: `all` is true if the instruction may be moved past all lines visited so far.
abbrev pub invariant-loop-passed : goal.invariant-loop-passed
invariant-loop-passed l = l.all ≡ passes_all l.lines l.from l.passed
